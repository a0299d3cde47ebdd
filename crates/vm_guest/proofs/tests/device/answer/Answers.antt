use Rattle.std.proofs.Common.{◌≡◌, ℕ, length, ap, arith}
use Rattle.std.proofs.lemmas.Bool.Decides.{nat_tests}
use Rattle.vm_link.specs.Queue.{Queues}
use Rattle.vm_guest.proofs.ByHandLemmas.{on_ok, reply_back}
use Rattle.vm_guest.proofs.tests.device.answer.Goals as goal

pub returns-clause-one : goal.returns-clause-one
returns-clause-one c =
    let none : length c.args.link.now.command.done ≡ 0 = grind (arith, nat_tests, c.in_ok-check.ensures, c.uncollected.ensures) in
    on_ok c.send_back.result _ _ (λ back. reply_back c.args.p back.0 c.args.len c.args.link.now.command c.send_back.new.link.command c.in_ok-parcel.parcel c.args.response.now none
    (ap (λ (x : Queues). x.command) back.1) c.in_ok-parcel.ensures.chain c.requires.count c.in_ok-parcel.ensures.tells) c.send_back.ensures
