use Rattle.std.proofs.Common.{rules, arith, ◌≡◌, ◌≤◌, ◌+◌, ◌<◌, ℕ, true, length, List, refl, sym, subst, ap, ◌∙◌}
use Rattle.std.proofs.lemmas.Bool.Decides.{nat_tests}
use Rattle.vm_link.specs.Queue.{Queue, Queues}
use Rattle.vm_host.specs.Steps.{HasRoom}
use Rattle.vm_host.proofs.DoneLemmas.{executes_done, place_left}
use Rattle.vm_host.proofs.OneLemmas.{executes_out, is_alone}
use Rattle.vm_host.proofs.RigLemmas.{posted_room, same_outs}
use Rattle.vm_host.proofs.tests.rig.Rig.execute.Goals as goal

pub execute-turn-requires-clause-place : goal.execute-turn-requires-clause-place
execute-turn-requires-clause-place c =
    let few : c.self.inside.steps < 64 = grind (arith, nat_tests, c.in_ok-check-2.ensures) in
    place_left c.self.inside.steps 64 _ _ few (omega (arith, few)) c.self.invariant.0

pub execute-turn-requires-clause-alone : goal.execute-turn-requires-clause-alone
execute-turn-requires-clause-alone c =
    let alone : length c.self.inside.host.waiting ≡ 0 = grind (arith, nat_tests, c.in_ok-check-3.ensures, c.is_empty.ensures, c.waiting.ensures) in
    is_alone c.self.inside.host _ alone

pub execute-turn-requires-clause-room : goal.execute-turn-requires-clause-room
execute-turn-requires-clause-room c =
    let empty : length c.self.inside.link.command.waiting ≡ 0 = grind (arith, nat_tests, c.in_ok-check-4.ensures, c.untaken.ensures) in
    let roomy : length c.args.parcel.held + 64 ≤ c.args.parcel.room = c.is_fit.ensures.room c.in_ok-check.ensures in
    subst (λ (x : Queues). HasRoom x.command.waiting) (sym c.post.ensures) (posted_room c.self.inside.link.command c.args.parcel empty roomy)

pub invariant_of-self : goal.invariant_of-self
invariant_of-self c =
    let alone : length c.self.inside.host.waiting ≡ 0 = grind (arith, nat_tests, c.in_ok-check-3.ensures, c.is_empty.ensures, c.waiting.ensures) in
    (executes_done c.self.inside.steps 64 _ _ _ _ _ _ c.execute-turn.ensures.executes c.self.invariant.0, executes_out _ _ _ _ _ _ alone c.execute-turn.ensures.executes)

pub invariant_of-self-2 : goal.invariant_of-self-2
invariant_of-self-2 c =
    let alone : length c.self.inside.host.waiting ≡ 0 = grind (arith, nat_tests, c.in_ok-check-3.ensures, c.is_empty.ensures, c.waiting.ensures) in
    let done = executes_done c.self.inside.steps 64 _ _ _ _ _ _ c.execute-turn.ensures.executes c.self.invariant.0 in
    let one = executes_out _ _ _ _ _ _ alone c.execute-turn.ensures.executes in
    (done, same_outs _ c.execute-turn.new.link.command c.collect.new.self.command (ap (λ (x : Queues). x.command.out) c.collect.ensures.queues) one)
