-- A command that the device does, or lets wait, keeps the slice of its handle sound.
use Rattle.std.proofs.Common.{◌≡◌, ◌⊎◌, ℕ, Bool, true, false, not, Option, Some, None, refl, sym, ap, ◌∙◌, subst, inl, inr}
use Rattle.std.specs.Prelude.{IsSome, Ok}
use Rattle.std.proofs.lemmas.Bool.{false≢true, cases_Bool, and_parts}
use Rattle.std.proofs.lemmas.Option.{none-some, same_Some}
use Rattle.v4l_rules.specs.Refusals.{first_refusal}
use Rattle.vm_local.specs.Calls.{row_of}
use Rattle.vm_local.specs.declared.call.Call.{Call}
use Rattle.vm_local.specs.declared.call.Call.TheVariants.{OpenHandle, CloseHandle, QueryCap, EnumFmt, GFmt, TryFmt, SFmt, EnumInput, GInput, SInput, ReqBufs, QueryBuf, UAlloc, QBuf, StreamOn, StreamOff, DqBuf, Mmap, Munmap, Peek, Hash, Poke, Fill, Subscribe, Unsubscribe, DqEvent}
use Rattle.vm_commute.specs.Commute.{is_open}
use Rattle.vm_log.specs.LegalLog.{state_of}
use Rattle.vm_wire.specs.Message.{Posting}
use Rattle.vm_wire.specs.Message.Ask.{Judged}
use Rattle.vm_wire.specs.declared.command.Command.{Command}
use Rattle.vm_wire.specs.declared.command.Command.TheVariants.{OpenSession, CloseSession, Ioctl, Map as MapFrame, Unmap}
use Rattle.vm_handle.specs.Handle.{crossing_from}
use Rattle.vm_handle.proofs.StageLemmas.{dqbuf_stays}
use Rattle.vm_session.specs.State.{SessionState}
use Rattle.vm_device.specs.Device.{DeviceState, session_of, is_at_rest}
use Rattle.vm_device.specs.Perform.{is_busy, stops_in, must_wait}
use Rattle.vm_host.specs.Chains.{named_session}
use Rattle.vm_realm.specs.declared.step.Step.TheVariants.{Execute, Resume}
use Rattle.vm_realm.specs.Inner.{Inner}
use Rattle.vm_realm.specs.Laws.{StepKeepsSlice, GoesOnSoundly, is_plain, halts_queue, gives_mapping, closes_handle, makes_mapping, queues_buffer}
use Rattle.vm_realm.specs.Slice.{Slice, session_in}
use Rattle.vm_realm.specs.Slice.Out.{Asked, Kept}
use Rattle.vm_realm.specs.SliceSteps.{IsDeviceOf, IsServed, IsServedUnless}
use Rattle.vm_realm.specs.Sound.{IsPosted, IsOut, IsSoundSlice, IsWholeSlice}
use Rattle.vm_realm.proofs.SessionLemmas.{NamesOwn, names_own, open_has}
use Rattle.vm_realm.proofs.KeepServeLemmas.{asked_same, waiting_keeps}
use Rattle.vm_realm.proofs.KeepOpenLemmas.{open_keeps, close_keeps}
use Rattle.vm_realm.proofs.KeepPlainLemmas.{plain_keeps}
use Rattle.vm_realm.proofs.KeepUnmapLemmas.{unmap_keeps}
use Rattle.vm_realm.proofs.KeepHaltLemmas.{halt_keeps}
use Rattle.vm_realm.proofs.KeepMapLemmas.{map_keeps}
use Rattle.vm_realm.proofs.KeepQueueLemmas.{queue_keeps}

-- ---- a command that is done

served_keeps : (x x' : Slice) (v : Inner) (m : Posting) (c : Command) (d : DeviceState) → IsPosted x m → IsSoundSlice x v → (x.out ≡ Asked m) ⊎ (x.out ≡ Kept m) → m.request.asks ≡ Judged (Ok c) → IsDeviceOf x d → must_wait d c ≡ false → IsServed m c d x x' →
    IsWholeSlice x' → GoesOnSoundly x' v
served_keeps x x' v m c d posted sound at asks is goes does whole = by_call posted.call refl
  where
    never : (call : Call) → posted.call ≡ call → crossing_from x.handle call ≡ None → GoesOnSoundly x' v
    never call same none = absurd (none-some posted.crossing (sym none ∙ subst (λ k. crossing_from x.handle k ≡ Some posted.crossing) same posted.crosses))

    by_call : (call : Call) → posted.call ≡ call → GoesOnSoundly x' v
    by_call (OpenHandle nonblock) same = open_keeps x x' v m c d posted (ap is_open same) sound at asks is goes does whole
    by_call CloseHandle same = close_keeps x x' v m c d posted (ap closes_handle same) sound at asks is goes does whole
    by_call QueryCap same = plain_keeps x x' v m c d posted (ap is_plain same) sound at asks is goes does whole
    by_call (EnumFmt t i) same = plain_keeps x x' v m c d posted (ap is_plain same) sound at asks is goes does whole
    by_call (GFmt t) same = plain_keeps x x' v m c d posted (ap is_plain same) sound at asks is goes does whole
    by_call (TryFmt t f w h) same = plain_keeps x x' v m c d posted (ap is_plain same) sound at asks is goes does whole
    by_call (SFmt t f w h) same = plain_keeps x x' v m c d posted (ap is_plain same) sound at asks is goes does whole
    by_call (EnumInput i) same = plain_keeps x x' v m c d posted (ap is_plain same) sound at asks is goes does whole
    by_call GInput same = plain_keeps x x' v m c d posted (ap is_plain same) sound at asks is goes does whole
    by_call (SInput i) same = plain_keeps x x' v m c d posted (ap is_plain same) sound at asks is goes does whole
    by_call (QueryBuf t i) same = plain_keeps x x' v m c d posted (ap is_plain same) sound at asks is goes does whole
    by_call (StreamOn t) same = plain_keeps x x' v m c d posted (ap is_plain same) sound at asks is goes does whole
    by_call (Subscribe e) same = plain_keeps x x' v m c d posted (ap is_plain same) sound at asks is goes does whole
    by_call (Unsubscribe e) same = plain_keeps x x' v m c d posted (ap is_plain same) sound at asks is goes does whole
    by_call (ReqBufs t n k) same = halt_keeps x x' v m c d posted (ap halts_queue same) sound at asks is goes does whole
    by_call (StreamOff t) same = halt_keeps x x' v m c d posted (ap halts_queue same) sound at asks is goes does whole
    by_call (Munmap n) same = unmap_keeps x x' v m c d posted (ap gives_mapping same) sound at asks is goes does whole
    by_call (Mmap n t i ro) same = map_keeps x x' v m c d posted (ap makes_mapping same) sound at asks is goes does whole
    by_call (QBuf t i user used ts) same = queue_keeps x x' v m c d posted (ap queues_buffer same) sound at asks is goes does whole
    by_call (UAlloc u len off) same = never (UAlloc u len off) same refl
    by_call (DqBuf t) same =
        absurd (dqbuf_stays (first_refusal (row_of (state_of x.handle.log) 0 0 (DqBuf t)).refusals) (row_of (state_of x.handle.log) 0 0 (DqBuf t)).waits
        (subst IsSome (sym (subst (λ k. crossing_from x.handle k ≡ Some posted.crossing) same posted.crosses)) refl))
    by_call (Peek n off len) same = never (Peek n off len) same refl
    by_call (Hash n) same = never (Hash n) same refl
    by_call (Poke n off bytes) same = never (Poke n off bytes) same refl
    by_call (Fill n seed) same = never (Fill n seed) same refl
    by_call DqEvent same = never DqEvent same refl

-- ---- Execute

pub execute_keeps : StepKeepsSlice Execute
execute_keeps x x' v sound (m, c, d, at, asks, is, does) whole = by_wait (must_wait d c) refl does
  where
    by_wait : (b : Bool) → must_wait d c ≡ b → IsServedUnless b m c d x x' → GoesOnSoundly x' v
    by_wait true waits after = subst (λ y. GoesOnSoundly y v) (sym after) (waiting_keeps x v m c d sound at asks is waits)
    by_wait false goes served = served_keeps x x' v m c d (subst (λ o. IsOut o x v) at sound.out).1 sound (inl at) asks is goes served whole

-- ---- Resume

-- a command that waits names a session that is busy
waits_busy : (d : DeviceState) (c : Command) → must_wait d c ≡ true → (id : ℕ) × (named_session c ≡ Some id) × (is_busy (session_of d id) ≡ true)
waits_busy d OpenSession waits = absurd (false≢true waits)
waits_busy d (CloseSession id) waits = (id, refl, waits)
waits_busy d (Ioctl id code p) waits = (id, refl, (and_parts (stops_in (session_of d id) code p) (is_busy (session_of d id)) waits).1)
waits_busy d (MapFrame id writable offset) waits = absurd (false≢true waits)
waits_busy d (Unmap addr) waits = absurd (false≢true waits)

rest_busy : (o : Option SessionState) → is_at_rest o ≡ true → is_busy o ≡ true → ⊥
rest_busy None rest busy = false≢true busy
rest_busy (Some s) rest busy = false≢true (sym (ap not rest) ∙ busy)

-- where the session of the handle is at rest, its command doesn't wait
rest_goes : (x : Slice) (v : Inner) (m : Posting) (c : Command) (d : DeviceState) → IsPosted x m → IsSoundSlice x v → m.request.asks ≡ Judged (Ok c) → IsDeviceOf x d → is_at_rest x.session ≡ true → must_wait d c ≡ false
rest_goes x v m c d posted sound asks is rest = elim (cases_Bool (must_wait d c)) [ inr goes ↦ goes | inl waits ↦ absurd (by_own names (waits_busy d c waits)) ]
  where
    names : NamesOwn x.handle.session c
    names = subst (NamesOwn x.handle.session) (asked_same x m c posted asks) (names_own (state_of x.handle.log) x.handle.session posted.call posted.crossing (open_has x.handle sound.handle) posted.crosses)

    by_own : NamesOwn x.handle.session c → (id : ℕ) × (named_session c ≡ Some id) × (is_busy (session_of d id) ≡ true) → ⊥
    by_own (inl none) (id, named, busy) = none-some id (sym none ∙ named)
    by_own (inr (k, session, own)) (id, named, busy) =
        let same : k ≡ id = same_Some k id (sym own ∙ named) in
        let here : session_of d id ≡ x.session = ap (session_of d) (sym same) ∙ (sym (ap (session_in d) session) ∙ is.session) in
        rest_busy x.session rest (ap is_busy (sym here) ∙ busy)

pub resume_keeps : (session : ℕ) → StepKeepsSlice (Resume session)
resume_keeps session x x' v sound (m, c, d, at, asks, is, rest, does) whole =
    let posted : IsPosted x m = (subst (λ o. IsOut o x v) at sound.out).1.posted in
    served_keeps x x' v m c d posted sound (inr at) asks is (rest_goes x v m c d posted sound asks is rest) does whole
