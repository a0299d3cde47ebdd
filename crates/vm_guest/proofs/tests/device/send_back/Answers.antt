use Rattle.std.proofs.Common.{rules, ◌≡◌, ◌∙◌, Some, Contains, length, sym, ap, subst, arith}
use Rattle.std.proofs.lemmas.Bool.Decides.{nat_tests}
use Rattle.vm_link.specs.Queue.{queue_at, with_queue, out_heads, finished}
use Rattle.vm_link.specs.declared.parcel.Taken.{Taken}
use Rattle.vm_link.proofs.QueueLemmas.{takes_some, taken_is_out}
use Rattle.vm_guest.proofs.ByHandLemmas.{sent_back}
use Rattle.vm_guest.proofs.tests.device.send_back.Goals as goal

pub finish-requires : goal.finish-requires
finish-requires c =
    let some : c.take.result ≡ Some c.in_ok-taken.taken = search rules in
    let same = ap (λ (t : Taken). t.head) c.taken.view_is in
    subst (λ h. Contains (out_heads (queue_at c.args.q c.take.new.self)) h) (sym same)
    (taken_is_out _ _ c.in_ok-taken.taken _ _ (takes_some _ _ _ _ _ c.in_ok-taken.taken c.take.ensures.taken some))

pub returns : goal.returns
returns c =
    let some : c.take.result ≡ Some c.in_ok-taken.taken = search rules in
    let same = ap (λ (t : Taken). t.head) c.taken.view_is in
    let takes = takes_some _ _ _ _ _ c.in_ok-taken.taken c.take.ensures.taken some in
    let count : length c.in_ok-taken.taken.parcel.table ≡ c.args.count = grind (arith, nat_tests, c.in_ok-check.ensures, c.len.ensures) in
    let is = c.finish.ensures
    ∙ ap (λ h. with_queue c.args.q (finished (queue_at c.args.q c.take.new.self) (record { head = h; used = c.args.used; parcel = c.args.parcel })) c.take.new.self) same in
    (c.in_ok-taken.taken.head, sent_back c.args.q c.args.link.now c.take.new.self c.finish.new.self _ _ c.in_ok-taken.taken c.args.used c.args.count c.args.parcel takes c.take.ensures.others count is)
