use Rattle.std.proofs.Common.{rules, ◌≡◌, ◌<◌, ◌^◌, Some, length, arith, sym, ap, subst, ◌∙◌}
use Rattle.std.proofs.lemmas.Bool.Decides.{nat_tests}
use Rattle.vm_link.specs.Queue.{Queue}
use Rattle.vm_guest.specs.Guest.{process_at}
use Rattle.vm_guest.specs.Process.{crossing}
use Rattle.vm_guest.proofs.ByHandLemmas.{can_collect_open, collects_still, few_still}
use Rattle.vm_guest.proofs.tests.rig.Rig.open.Goals as goal

pub collect-requires : goal.collect-requires
collect-requires c =
    let most = c.self.invariant.few in
    let quiet : length c.self.inside.guest.pump.held ≡ 0 = grind (arith, nat_tests, most, c.in_ok-check.ensures) in
    let before : length c.self.inside.link.event.done ≡ 0 = grind (arith, nat_tests, c.in_ok-check-2.ensures, c.uncollected.ensures) in
    let none : length c.answer.new.link.event.done ≡ 0 = ap (λ (q : Queue). length q.done) c.in_ok-answer.ensures.events ∙ before in
    let some : c.crossing.result ≡ Some c.in_ok-statement.statement = search rules in
    let out : crossing (process_at c.self.inside.guest c.args.p) ≡ Some c.in_ok-statement.statement =
    subst (λ n. crossing (process_at c.self.inside.guest n) ≡ Some c.in_ok-statement.statement) c.from.ensures (sym c.crossing.ensures.statement ∙ some) in
    let opens = c.is_open.ensures c.in_ok-check-3.ensures in
    can_collect_open c.args.p c.args.session c.self.inside.guest c.answer.new.link c.in_ok-statement.statement opens.0 c.in_ok-answer.ensures.one c.ranges.session.fits none quiet out opens.1

pub invariant_of-self-2 : goal.invariant_of-self-2
invariant_of-self-2 c =
    let before : length c.self.inside.link.event.done ≡ 0 = grind (arith, nat_tests, c.in_ok-check-2.ensures, c.uncollected.ensures) in
    let none : length c.answer.new.link.event.done ≡ 0 = ap (λ (q : Queue). length q.done) c.in_ok-answer.ensures.events ∙ before in
    few_still c.self.inside.held c.self.inside.guest c.collect.new.self
    (collects_still c.args.p _ c.self.inside.guest c.collect.new.self c.answer.new.link c.collect.new.link c.collect.result c.in_ok-answer.ensures.one none c.collect.ensures.collects) c.self.invariant
