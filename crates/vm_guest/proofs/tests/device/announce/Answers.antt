use Rattle.std.proofs.Common.{◌≡◌, ℕ, length, ap, arith}
use Rattle.std.proofs.lemmas.Bool.Decides.{nat_tests}
use Rattle.vm_link.specs.Queue.{Queues}
use Rattle.vm_guest.proofs.ByHandLemmas.{on_ok, event_back}
use Rattle.vm_guest.proofs.tests.device.announce.Goals as goal

pub returns-clause-one : goal.returns-clause-one
returns-clause-one c =
    let none : length c.args.link.now.event.done ≡ 0 = grind (arith, nat_tests, c.in_ok-check.ensures, c.uncollected.ensures) in
    on_ok c.send_back.result _ _ (λ back. event_back c.args.session back.0 c.args.link.now.event c.send_back.new.link.event c.in_ok-parcel.parcel c.happened.result none
    (ap (λ (x : Queues). x.event) back.1) c.in_ok-parcel.ensures.chain c.in_ok-parcel.ensures.brings c.happened.ensures) c.send_back.ensures
