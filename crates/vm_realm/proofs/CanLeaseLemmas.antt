-- A line that touches a memory's bytes can be begun where it comes next, and its lease can come back.
use Rattle.std.proofs.Common.{◌≡◌, ℕ, ◌<◌, true, List, length, Option, Some, None, is_some, set, refl}
use Rattle.std.specs.Option.{option_and_then}
use Rattle.std.proofs.lemmas.Bool.{false≢true}
use Rattle.std.proofs.lemmas.Option.{none-some}
use Rattle.v4l_const.specs.declared.errno.Errno.{Errno}
use Rattle.v4l_rules.specs.Refusals.{first_refusal}
use Rattle.vm_frame.specs.Mem.{mem_bytes}
use Rattle.vm_lease.specs.Lease.{LeaseParts, CameBackDone, bytes_left, lent, reply_from}
use Rattle.vm_lease.specs.declared.lease_out.LeaseOut.{LeaseOut}
use Rattle.vm_local.specs.Calls.{row_of, read_row, hash_row, write_row, fill_row}
use Rattle.vm_local.specs.State.{LocalState}
use Rattle.vm_local.specs.declared.call.Call.{Call}
use Rattle.vm_local.specs.declared.call.Call.TheVariants.{Peek, Hash, Poke, Fill}
use Rattle.vm_local.specs.declared.reply.Reply.TheVariants.{Refused}
use Rattle.vm_home.specs.Home.{home_of}
use Rattle.vm_home.specs.Laws.{IsUnrefused}
use Rattle.vm_home.specs.Moves.{touches_bytes, touched}
use Rattle.vm_home.proofs.LawLemmas.{touched_out}
use Rattle.vm_log.specs.Answers.{with_line, answered_with, Leases}
use Rattle.vm_log.specs.LegalLog.{LogState, IsSound as IsSoundLog, state_of, lease_in}
use Rattle.vm_log.specs.declared.away.Away.TheVariants.{Nothing, Lent}
use Rattle.vm_log.specs.declared.leased.Leased.{Leased}
use Rattle.vm_log.specs.declared.leased.Leased.TheVariants.{Out, Answered}
use Rattle.vm_handle.specs.Answers.{row_from}
use Rattle.vm_handle.specs.Handle.{HandleState, id_of}
use Rattle.vm_handle.proofs.StartLemmas.{rests}
use Rattle.vm_guest.specs.Asking.{asked_by}
use Rattle.vm_guest.specs.Guest.{GuestState, no_process, process_at, with_process}
use Rattle.vm_guest.specs.Lines.{after_lease}
use Rattle.vm_guest.specs.Orderly.{IsDriver, IsOrderly, lines_at}
use Rattle.vm_guest.specs.Process.{ProcessState, is_lent, current, current_call, leasing, lease_on, lease_out, handle_at, with_log}
use Rattle.vm_guest.specs.Steps.{LeasesFor, given_back}
use Rattle.vm_guest.specs.declared.asked.Asked.{Asked as AskedCall}
use Rattle.vm_guest.specs.declared.asked.Statement.{Statement}
use Rattle.vm_guest.proofs.OrderlyLemmas.{leasing_within}
use Rattle.vm_guest.proofs.StatementLemmas.{leasing_next}
use Rattle.vm_realm.specs.World.{WorldState}
use Rattle.vm_realm.specs.Inner.{Inner}
use Rattle.vm_realm.specs.Slice.{slice_at}
use Rattle.vm_realm.specs.Sound.{IsSoundSlice, IsSoundBy, IsHandle, inner_at}
use Rattle.vm_realm.specs.Steps.{DoesLease, DoesGiveBack}
use Rattle.vm_realm.proofs.CanHoldLemmas.{lent_left}
use Rattle.vm_realm.proofs.CanDriverLemmas.{placed, there_mem}
use Rattle.vm_realm.proofs.DriverNextLemmas.{next_current}
use Rattle.vm_realm.proofs.FrameLemmas.{handle_there}
use Rattle.vm_realm.proofs.LendLemmas.{call_there, rest_answered}
use Rattle.vm_realm.proofs.ProcessLemmas.{next_is, some_where}
use Rattle.vm_realm.proofs.SumLemmas.{place_within}

-- a line that touches a memory isn't refused by its number
touch_unrefused : (s : LocalState) (line : ℕ) (call : Call) → touches_bytes call ≡ true → first_refusal (row_of s line 0 call).refusals ≡ None → IsUnrefused s call
unfolding read_row hash_row write_row fill_row
touch_unrefused s line (Peek m off len) touches passed = λ l addr. passed
touch_unrefused s line (Hash m) touches passed = λ l addr. passed
touch_unrefused s line (Poke m off bytes) touches passed = λ l addr. passed
touch_unrefused s line (Fill m seed) touches passed = λ l addr. passed
touch_unrefused s line call touches passed = absurd (false≢true touches)

leases_some : (l : LogState) (line : ℕ) (call : Call) (o : Option Errno) → IsSoundLog l → l.away ≡ Nothing → touches_bytes call ≡ true → first_refusal (row_from l line call).refusals ≡ o →
    (leased : Leased) × (log : LogState) × Leases o (with_line l) line call leased log
leases_some l line call (Some e) sound none touches refuses = (Answered, answered_with (with_line l) line call (Refused e) l.home, refl)
leases_some l line call None sound none touches passed =
    let s : LocalState = state_of l in
    let n : ℕ = touched s call in
    let mem : _ = there_mem s n (home_of l.home n) (touched_out s call l.home touches (touch_unrefused s line call touches passed) (placed l sound none)) in
    let entry : LeaseOut = record { line = line; call = call; mem = record { value = mem.0; marker = record {} } } in
    let log : LogState = record (with_line l) { home = set l.home n None; away = Lent entry } in
    (Out (lent line call mem.0), log, record { mem = mem.0; entry = entry; there = mem.1; lent_out = refl; noted = (refl, refl, refl); left = refl })

leases_for : (w : WorldState) (rows : List (List Inner)) (n : ℕ) (o : Option AskedCall) → IsSoundBy w rows → leasing (process_at w.guest n) ≡ o → is_some o ≡ true → (leased : Leased) × (g : GuestState) × LeasesFor o n w.guest leased g
leases_for w rows n None sound is may = absurd (false≢true may)
leases_for w rows n (Some a) sound is may =
    let p : ProcessState = process_at w.guest n in
    let h : ℕ = a.handle in
    let asks : _ = leasing_next p a is in
    let within : n < _ = leasing_within w.guest n a is in
    let now : current p ≡ Some asks.0 = next_current p asks.0 asks.1 in
    let there : h < _ = call_there w n asks.0 a sound.lines within now asks.2 in
    let orderly : IsOrderly w.script.model (lines_at w.script n) p = sound.lines.orderly n within in
    let hd : HandleState = handle_at p h in
    let answered = rest_answered p.status (current_call p) h hd (next_is p asks.0 asks.1).0 (orderly.out h there) in
    let each = orderly.each h there in
    let none = (rests (id_of hd.session) (state_of hd.log) hd.log.away hd.log.unanswered hd.stage answered each.keeps.fits).1 in
    let out : _ = leases_some hd.log a.line a.call (first_refusal (row_from hd.log a.line a.call).refusals) each.sound none asks.3 refl in
    let moved : ProcessState = after_lease out.0 (with_log p h out.1) in
    (out.0, with_process w.guest n moved, (moved, (out.1, out.2, refl), refl))

pub lease_can : (w : WorldState) (rows : List (List Inner)) (n : ℕ) → IsSoundBy w rows → is_some (leasing (process_at w.guest n)) ≡ true → (w' : WorldState) × DoesLease n w w'
lease_can w rows n sound may =
    let l : _ = leases_for w rows n (leasing (process_at w.guest n)) sound refl may in
    (record w { guest = l.1 }, (l.0, l.1, l.2, refl))

-- ---- GiveBack

-- a lease that is out is that of one of the process's handles
record IsLentBy (w : WorldState) (n : ℕ) (entry : LeaseOut) : Type 0 where
  handle : ℕ
  named : IsHandle w n handle
  lent : lease_in (handle_at (process_at w.guest n) handle).log.away ≡ Some entry

lent_on : (w : WorldState) (n : ℕ) (o : Option Statement) (entry : LeaseOut) → IsDriver w.script w.guest → n < length w.guest.processes → current (process_at w.guest n) ≡ o →
    lease_on (process_at w.guest n) (option_and_then asked_by o) ≡ Some entry → IsLentBy w n entry
lent_on w n None entry driver within now out = absurd (none-some entry out)
lent_on w n (Some s) entry driver within now out = by_asked (asked_by s) refl out
  where
    by_asked : (o : Option AskedCall) → asked_by s ≡ o → lease_on (process_at w.guest n) o ≡ Some entry → IsLentBy w n entry
    by_asked None asked out = absurd (none-some entry out)
    by_asked (Some a) asked out = record { handle = a.handle; named = handle_there w.guest n a.handle within (call_there w n s a driver within now asked); lent = out }

some_lease : (o : Option LeaseOut) → is_some o ≡ true → (entry : LeaseOut) × (o ≡ Some entry)
some_lease None some = absurd (false≢true some)
some_lease (Some entry) some = (entry, refl)

pub give_back_can : (w : WorldState) (rows : List (List Inner)) (n : ℕ) → IsSoundBy w rows → is_some (lease_out (process_at w.guest n)) ≡ true → (w' : WorldState) × DoesGiveBack n w w'
give_back_can w rows n sound may =
    let p : ProcessState = process_at w.guest n in
    let entry : _ = some_lease (lease_out p) may in
    let e : LeaseOut = entry.0 in
    let within : n < length w.guest.processes = place_within (λ (y : ProcessState). is_some (lease_out y)) w.guest.processes n no_process refl may in
    let by : IsLentBy w n e = lent_on w n (current p) e sound.lines within refl (some_where (is_lent p.status) (lease_on p (current_call p)) e entry.1).1 in
    let slice : IsSoundSlice (slice_at w n by.handle) (inner_at w rows n by.handle) = sound.slices n by.handle by.named in
    let bytes : List ℕ = mem_bytes e.mem.value in
    let new : _ = (slice.users.lent e by.lent).holds (bytes_left e.call bytes) (lent_left (handle_at p by.handle).log e slice.log by.lent) in
    let lease : LeaseParts = record { line = e.line; call = e.call; mem = new.0; reply = reply_from e.call bytes } in
    let back : CameBackDone e lease = record { line = refl; call = refl; done = record { bytes = new.1; rest = new.2; replies = refl } } in
    (record w { guest = given_back n w.guest lease }, (e, lease, entry.1, back, refl))
