-- What a statement that is begun or answered leaves of its process.
use Rattle.std.proofs.Common.{◌≡◌, ℕ, ◌+◌, ◌*◌, ◌≤◌, Option, Some, None, length, refl, ap, ◌∙◌, arith}
use Rattle.std.proofs.lemmas.Option.{none-some}
use Rattle.v4l_const.specs.declared.errno.Errno.{Errno}
use Rattle.v4l_rules.specs.Refusals.{first_refusal}
use Rattle.vm_lease.specs.Lease.{LeaseParts}
use Rattle.vm_lease.specs.declared.lease_out.LeaseOut.{LeaseOut}
use Rattle.vm_local.specs.declared.call.Call.{Call}
use Rattle.vm_log.specs.Answers.{with_line, Leases, given_back}
use Rattle.vm_log.specs.LegalLog.{LogState}
use Rattle.vm_log.specs.declared.leased.Leased.{Leased}
use Rattle.vm_log.specs.declared.leased.Leased.TheVariants.{Out, Answered, Idle}
use Rattle.vm_script.specs.declared.line.LineKind.{LineKind}
use Rattle.vm_script.specs.declared.line.LineKind.TheVariants.{OnHandle, Raw}
use Rattle.vm_wire.specs.Message.{Returning}
use Rattle.vm_exchange.specs.declared.way.Way.{Way}
use Rattle.vm_exchange.specs.declared.way.Way.TheVariants.{Crosses, AnsweredHere, Waits, TouchesMemory}
use Rattle.vm_handle.specs.Answers.{row_from}
use Rattle.vm_handle.specs.Handle.{way_from}
use Rattle.vm_guest.specs.Lines.{BeginsCall, Begins, AnsweredFor, after_lease, LeasesCall, returned_to, returned, waiting}
use Rattle.vm_guest.specs.Message.{Sending}
use Rattle.vm_guest.specs.Process.{ProcessState, handle_at, with_handle, with_log, current_call, is_lent, doing, lease_on, lease_out}
use Rattle.vm_guest.specs.declared.asked.Asked.{Asked}
use Rattle.vm_guest.specs.declared.status.Status.TheVariants.{Crossing, Blocked, Lent}
use Rattle.vm_realm.specs.Left.{unbegun}
use Rattle.vm_realm.proofs.SumLemmas.{one_in, one_most}
use Rattle.vm_realm.proofs.ProcessLemmas.{weight, ahead_of, begun_weight, rested_weight, some_where, lent_is}

-- so much is left of a process whose statement was begun, but for its lease
abbrev pub Goes : ProcessState → ProcessState → Type 0
Goes p p' = weight p' ≡ 12 * ahead_of p

-- ---- it is begun

begins_call : (way : Way) (line h : ℕ) (call : Call) (p p' : ProcessState) (sends : Option Sending) → BeginsCall way line h call p p' sends → Goes p p'
begins_call (Crosses c) line h call p p' sends (along, handle, goes, after, sent) =
    ap weight after ∙ begun_weight (doing Crossing (with_handle p h handle)) Crossing refl refl refl
begins_call AnsweredHere line h call p p' sends (handle, answers, after, sent) = ap weight after ∙ rested_weight (with_handle p h handle)
begins_call Waits line h call p p' sends (after, sent) =
    ap weight after ∙ begun_weight (doing Blocked (with_handle p h (waiting (handle_at p h) line call))) Blocked refl refl refl
begins_call TouchesMemory line h call p p' sends begins = absurd begins

pub begins_goes : (line : ℕ) (what : LineKind) (p p' : ProcessState) (sends : Option Sending) → Begins line what p p' sends → Goes p p'
begins_goes line (OnHandle h call) p p' sends begins = begins_call (way_from (handle_at p h) call) line h call p p' sends begins
begins_goes line (Raw chain) p p' sends (after, sent) = ap weight after ∙ begun_weight (doing Crossing p) Crossing refl refl refl

-- ---- it is answered by the device

pub answered_goes : (line : ℕ) (what : LineKind) (p p' : ProcessState) (r : Returning) → AnsweredFor line what p r p' → Goes p p'
answered_goes line (OnHandle h call) p p' r answers =
    let may = answers.may.may in
    let after = answers.after may.reply (may.next, may.session, (may.is_call, may.told)) in
    omega (arith, ap weight after)
answered_goes line (Raw chain) p p' r (errno, told, after) = omega (arith, ap weight after)

-- ---- a lease goes out, or comes back

leased_goes : (refused : Option Errno) (leased : Leased) (old : LogState) (line : ℕ) (call : Call) (new : LogState) (p q p' : ProcessState) →
    Leases refused old line call leased new → p' ≡ after_lease leased q → q.statements ≡ p.statements → q.answered ≡ p.answered → weight p' ≤ 12 * ahead_of p + 1
leased_goes (Some errno) Answered old line call new p q p' leases after same answered = omega (arith, ap weight after ∙ rested_weight q, ap length same, answered)
leased_goes None (Out lease) old line call new p q p' leases after same answered =
    omega (arith, ap weight after, one_most (lease_out (doing Lent q)), ap length same, answered)
leased_goes (Some errno) (Out lease) old line call new p q p' leases after same answered = absurd leases
leased_goes (Some errno) Idle old line call new p q p' leases after same answered = absurd leases
leased_goes None Answered old line call new p q p' leases after same answered = absurd leases
leased_goes None Idle old line call new p q p' leases after same answered = absurd leases

pub leases_goes : (a : Asked) (p p' : ProcessState) (leased : Leased) → LeasesCall a p leased p' → weight p' ≤ 12 * ahead_of p + 1
leases_goes a p p' leased (log, leases, after) =
    leased_goes (first_refusal (row_from (handle_at p a.handle).log a.line a.call).refusals) leased (with_line (handle_at p a.handle).log) a.line a.call log
    p (with_log p a.handle log) p' leases after refl refl

back_to : (c : Option Asked) (p : ProcessState) (entry : LeaseOut) (lease : LeaseParts) → lease_on p c ≡ Some entry → Goes p (returned_to p c lease)
back_to None p entry lease out = absurd (none-some entry out)
back_to (Some a) p entry lease out = rested_weight (with_log p a.handle (given_back (handle_at p a.handle).log lease))

-- it falls by the lease
pub returned_falls : (p : ProcessState) (entry : LeaseOut) (lease : LeaseParts) → lease_out p ≡ Some entry → weight (returned p lease) + 1 ≤ weight p
returned_falls p entry lease out =
    let parts = some_where (is_lent p.status) (lease_on p (current_call p)) entry out in
    let lent : p.status ≡ Lent = lent_is p.status parts.0 in
    let left : unbegun p ≡ ahead_of p = ap (λ s. unbegun (record p { status = s })) lent in
    let one : one_in (lease_out p) ≡ 1 = ap one_in out in
    omega (arith, back_to (current_call p) p entry lease parts.1, left, one)
