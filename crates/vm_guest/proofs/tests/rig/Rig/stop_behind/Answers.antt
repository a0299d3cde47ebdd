use Rattle.std.proofs.Common.{rules, ◌≡◌, ◌≢◌, ◌<◌, Some, true, length, arith, sym, ap, subst, ◌∙◌}
use Rattle.std.proofs.lemmas.Bool.Decides.{nat_tests}
use Rattle.std.proofs.lemmas.Grind.{common_steps}
use Rattle.std.specs.Prelude.{IfSome}
use Rattle.vm_link.specs.Queue.{Queue}
use Rattle.vm_link.specs.declared.chains.DoneChain.{DoneChain}
use Rattle.vm_guest.specs.ByHand.{BringsOne}
use Rattle.vm_guest.specs.Guest.{process_at, handle_named}
use Rattle.vm_guest.specs.Process.{crossing}
use Rattle.vm_guest.proofs.ByHandLemmas.{would_hold, can_collect_stop, collects_grows, one_more, has_room}
use Rattle.vm_guest.proofs.tests.rig.Rig.stop_behind.Goals as goal

pub collect-requires : goal.collect-requires
collect-requires c =
    let less : c.self.inside.held < 96 = grind (arith, nat_tests, c.in_ok-check.ensures) in
    let holds : would_hold c.self.inside.guest 1 ≡ true = sym c.holds_back.ensures ∙ c.in_ok-check-2.ensures in
    let some : c.crossing.result ≡ Some c.in_ok-statement.statement = search rules in
    let out : crossing (process_at c.self.inside.guest c.args.p) ≡ Some c.in_ok-statement.statement =
    subst (λ n. crossing (process_at c.self.inside.guest n) ≡ Some c.in_ok-statement.statement) c.from.ensures (sym c.crossing.ensures.statement ∙ some) in
    let one : BringsOne 1 c.answer.new.link.event.done = subst (λ (q : Queue). BringsOne 1 q.done) (sym c.in_ok-answer.ensures.events) c.in_ok-announce.ensures.one in
    let got : c.handle.result ≡ Some c.in_ok-handle.handle = search rules in
    let is = c.handle.ensures in
    let there : handle_named c.self.inside.guest c.from-2.result 0 ≡ Some c.in_ok-handle.handle.now = grind (arith, common_steps, got, is) in
    let named : handle_named c.self.inside.guest c.args.p 0 ≡ Some c.in_ok-handle.handle.now = subst (λ n. handle_named c.self.inside.guest n 0 ≡ Some c.in_ok-handle.handle.now) c.from-2.ensures there in
    let other : IfSome c.in_ok-handle.handle.now.session (λ s. s ≢ 1) = subst (λ o. IfSome o (λ s. s ≢ 1)) c.session.ensures.session (c.is_others.ensures c.in_ok-check-5.ensures) in
    can_collect_stop c.args.p c.self.inside.guest c.answer.new.link c.in_ok-statement.statement c.in_ok-handle.handle.now c.in_ok-answer.ensures.one one holds
    (has_room c.self.inside.held c.self.inside.guest c.self.invariant less) c.self.invariant.first out (c.is_stop.ensures c.in_ok-check-3.ensures) named (c.crosses.ensures c.in_ok-check-4.ensures) other

pub invariant_of-self-2 : goal.invariant_of-self-2
invariant_of-self-2 c =
    let one : BringsOne 1 c.answer.new.link.event.done = subst (λ (q : Queue). BringsOne 1 q.done) (sym c.in_ok-answer.ensures.events) c.in_ok-announce.ensures.one in
    one_more c.self.inside.held c.self.inside.guest c.collect.new.self
    (collects_grows c.args.p _ c.self.inside.guest c.collect.new.self c.answer.new.link c.collect.new.link c.collect.result c.in_ok-answer.ensures.one one c.collect.ensures.collects) c.self.invariant
