-- An entry lists at most one event more.
use Rattle.std.proofs.Common.{◌≡◌, inl, inr, ℕ, ◌+◌, ◌≤◌, true, false, List, [], ◌∷◌, ◌++◌, length, Some, None, refl, sym, ap, subst, arith, length-append, length-drop, if◌then◌else◌, le_refl, zero-le}
use Rattle.std.specs.Option.{option_and_then}
use Rattle.std.proofs.lemmas.Option.{none-some}
use Rattle.v4l_const.specs.declared.model.Model.{Model}
use Rattle.vm_local.specs.declared.call.Call.{Call}
use Rattle.vm_local.specs.declared.call.Call.TheVariants.{OpenHandle, CloseHandle, QueryCap, EnumFmt, GFmt, TryFmt, SFmt, EnumInput, GInput, SInput, ReqBufs, QueryBuf, UAlloc, QBuf, StreamOn, StreamOff, DqBuf, Mmap, Munmap, Peek, Hash, Poke, Fill, Subscribe, Unsubscribe, DqEvent}
use Rattle.vm_local.specs.declared.entry.Entry.{Entry}
use Rattle.vm_local.specs.declared.entry.Entry.TheVariants.{Called, Finish, Bad, Give}
use Rattle.vm_local.specs.declared.owed.OwedItem.{OwedItem}
use Rattle.vm_local.specs.declared.owed.OwedItem.TheVariants.{Buffer as OwedBuffer, Sync}
use Rattle.vm_local.specs.declared.owed.SyncEvent.{SyncEvent}
use Rattle.vm_local.specs.State.{LocalState, opening}
use Rattle.vm_local.specs.Same.{address_in}
use Rattle.vm_local.specs.Queue.{with_buffers}
use Rattle.vm_local.specs.Calls.{row_of, querycap_row, enumfmt_row, gfmt_row, tryfmt_row, sfmt_row, enuminput_row, ginput_row, sinput_row, reqbufs_row, querybuf_row, ualloc_row, qbuf_row, streamon_row, streamoff_row, dqbuf_row, mmap_row, munmap_row, read_row, hash_row, write_row, fill_row, subscribe_row, unsubscribe_row, dqevent_row}
use Rattle.v4l_rules.specs.Refusals.{first_refusal}
use Rattle.vm_local.specs.Log.{row_for, called, after, replay, replay_from}
use Rattle.vm_local.specs.Steps.{event_given, item_given, counted}
use Rattle.vm_local.proofs.KeptLemmas.{some_same}
use Rattle.vm_local.proofs.StepLemmas.{answered_by, finished_by, failed_by, given_by, Gave}

-- no call lists an event more
call_events : (s : LocalState) (line addr : ℕ) (call : Call) → length (row_of s line addr call).next.events ≤ length s.events
unfolding querycap_row enumfmt_row gfmt_row tryfmt_row sfmt_row enuminput_row ginput_row sinput_row reqbufs_row querybuf_row ualloc_row qbuf_row streamon_row streamoff_row dqbuf_row mmap_row munmap_row read_row hash_row write_row fill_row subscribe_row unsubscribe_row dqevent_row with_buffers
call_events s line addr (OpenHandle nonblock) = zero-le
call_events s line addr CloseHandle = le_refl _
call_events s line addr QueryCap = le_refl _
call_events s line addr (EnumFmt t i) = le_refl _
call_events s line addr (GFmt t) = le_refl _
call_events s line addr (TryFmt t f w h) = le_refl _
call_events s line addr (SFmt t f w h) = le_refl _
call_events s line addr (EnumInput i) = le_refl _
call_events s line addr GInput = le_refl _
call_events s line addr (SInput i) = le_refl _
call_events s line addr (ReqBufs t m n) = le_refl _
call_events s line addr (QueryBuf t i) = le_refl _
call_events s line addr (UAlloc u len off) = le_refl _
call_events s line addr (QBuf t i user used ts) = le_refl _
call_events s line addr (StreamOn t) = le_refl _
call_events s line addr (StreamOff t) = le_refl _
call_events s line addr (DqBuf t) = le_refl _
call_events s line addr (Mmap m t i ro) = le_refl _
call_events s line addr (Munmap m) = le_refl _
call_events s line addr (Peek m off len) = le_refl _
call_events s line addr (Hash m) = le_refl _
call_events s line addr (Poke m off bytes) = le_refl _
call_events s line addr (Fill m seed) = le_refl _
call_events s line addr (Subscribe v) = le_refl _
call_events s line addr (Unsubscribe v) = le_refl _
call_events s line addr DqEvent = omega (arith, length-drop 1 s.events)

event_more : (s : LocalState) (frame : ℕ) → length (event_given s frame).events ≤ length s.events + 1
event_more s frame =
    let more : List SyncEvent = s.events ++ (record { frame = frame; number = s.next_event }) ∷ [] in
    elim s.subscribed as (λ b. length (if b then record s { events = more; next_event = counted s.next_event } else s).events ≤ length s.events + 1) [
      | true ↦ omega (arith, length-append s.events ((record { frame = frame; number = s.next_event }) ∷ []))
      | false ↦ omega arith
    ]

item_more : (s : LocalState) (t : ℕ) (item : OwedItem) → length (item_given s t item).events ≤ length s.events + 1
item_more s t (OwedBuffer i) = omega arith
item_more s t (Sync frame) = event_more s frame

abbrev OneMore : LocalState → LocalState → Type 0
OneMore s t = length t.events ≤ length s.events + 1

one_from : (s t : LocalState) → t.events ≡ s.events → OneMore s t
one_from s t h = rw h (omega arith)

pub one_event_more : (s t : LocalState) (e : Entry) → after s e ≡ Some t → OneMore s t
unfolding called
one_event_more s t (Called line call reply) leads =
    let few : length (row_of s line (address_in reply) call).next.events ≤ length s.events = call_events s line (address_in reply) call in
    elim (answered_by (first_refusal (row_for s line call reply).refusals) (row_for s line call reply) s reply t leads) as (λ _. OneMore s t) [
      | inl same ↦ one_from s t (ap (λ (x : LocalState). x.events) same)
      | inr w ↦ subst (OneMore s) (sym w.3) (omega (arith, few))
    ]
one_event_more s t Finish leads = one_from s t (ap (λ (x : LocalState). x.events) (finished_by s t leads).1)
one_event_more s t Bad leads = one_from s t (ap (λ (x : LocalState). x.events) (failed_by s t leads).1)
one_event_more s t Give leads =
    let gave : Gave s s.owed t = given_by s t leads in
    subst (OneMore s) (sym gave.3) (item_more (record s { owed = gave.1 }) gave.0.queue gave.0.item)

-- a log lists at most an event for each entry
events_of_log : (log : List Entry) (s t : LocalState) → replay_from s log ≡ Some t → length t.events ≤ length s.events + length log
events_of_log [] s t leads = subst (λ (x : LocalState). length x.events ≤ length s.events + 0) (some_same s t s leads) (omega arith)
events_of_log (e ∷ es) s t leads =
    elim (after s e) as (λ o. after s e ≡ o → option_and_then (λ u. replay_from u es) o ≡ Some t → length t.events ≤ length s.events + length (e ∷ es)) [
      | None ↦ λ was k. absurd (none-some t k)
      | Some u ↦ λ was k. omega (arith, one_event_more s u e was, events_of_log es u t k)
    ] refl leads

pub events_listed : (m : Model) (log : List Entry) (s : LocalState) → replay m log ≡ Some s → length s.events ≤ length log
events_listed m log s leads = omega (arith, events_of_log log (opening m) s leads)
