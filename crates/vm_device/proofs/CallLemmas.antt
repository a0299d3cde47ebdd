-- What the device answers to a call in a session, and what it keeps to after it.
use Rattle.std.proofs.Common.{rules, IsSome, map, ◌≡◌, ℕ, zero, suc, ◌-◌, ◌^◌, ◌<◌, ◌≤◌, ◌==◌, ◌&&◌, Bool, true, false, not, if◌then◌else◌, Option, Some, None, Result, Ok, Err, List, [], ◌∷◌, length, get_or, set, refl, sym, ap, ◌∙◌, arith, subst, inr}
use Rattle.std.specs.Prelude.{IfSome, IfErr, OnOk, OnErr, slice_get}
use Rattle.std.specs.Option.{option_map_or}
use Rattle.std.proofs.lemmas.Bool.Decides.{nat_tests}
use Rattle.std.proofs.lemmas.List.{get_or-set_same, length-map}
use Rattle.std.proofs.lemmas.List.Sums.{sum_by-set}
use Rattle.v4l_const.specs.declared.errno.Errno.{Errno}
use Rattle.v4l_const.specs.declared.errno.Errno.TheVariants.{Efault}
use Rattle.v4l_const.specs.declared.ioctl_code.IoctlCode.{IoctlCode}
use Rattle.v4l_const.specs.declared.ioctl_code.IoctlCode.TheVariants.{QueryCap, EnumFmt, GFmt, SFmt, TryFmt, ReqBufs, QueryBuf, QBuf, StreamOn, StreamOff, EnumInput, GInput, SInput, SubscribeEvent, UnsubscribeEvent}
use Rattle.v4l_const.specs.declared.numbers.TheConstants.{MEMORY_MMAP}
use Rattle.v4l_layout.specs.declared.buffer_rec.BufferRec.{BufferRec}
use Rattle.vm_frame.specs.declared.mem.Held.{Held}
use Rattle.vm_wire.specs.Buffers.{buffer_in}
use Rattle.vm_session.specs.State.{SessionState, is_quiet, queue_of}
use Rattle.vm_session.specs.Rows.{IoctlRow, IoctlAnswer, ioctl_row, ioctl_outcome, refusal_of, refused_or, held_after, stops, Answers, MayRefuse, querycap_row, enumfmt_row, gfmt_row, tryfmt_row, sfmt_row, enuminput_row, ginput_row, sinput_row, reqbufs_row, querybuf_row, qbuf_row, streamon_row, streamoff_row, subscribe_row, unsubscribe_row}
use Rattle.vm_device.specs.Brought.{is_named, is_told, keeps_length, loaded, brought, comes_with}
use Rattle.vm_device.specs.Device.{DeviceState, session_of, with_session, is_ready}
use Rattle.vm_device.specs.Keeps.{IsSound}
use Rattle.vm_device.specs.Perform.{MadeFew, in_session, called, called_with, reply_to, stops_in, is_busy}
use Rattle.vm_device.specs.Sessions.{one_if_there, count_there}
use Rattle.vm_device.proofs.CloseLemmas.{marks_after}
use Rattle.vm_device.proofs.FrameLemmas.{KeepsFrame, KeepsFrames, called_follows}
use Rattle.vm_device.proofs.MappingLemmas.{fits_called}
use Rattle.vm_device.proofs.StepLemmas.{changed_sound, within}

set_back : {A : Type 0} (xs : List A) (i : ℕ) (d : A) → set xs i (get_or xs i d) ≡ xs
set_back [] i d = refl
set_back (x ∷ xs) zero d = refl
set_back (x ∷ xs) (suc i) d = ap (λ ys. x ∷ ys) (set_back xs i d)

-- what was there is put back
pub put_back : (xs : List (Option SessionState)) (id : ℕ) (s t : SessionState) → get_or xs id None ≡ Some s → t ≡ s → set xs id (Some t) ≡ xs
put_back xs id s t there same = ap (λ x. set xs id (Some x)) same ∙ ap (set xs id) (sym there) ∙ set_back xs id None

-- ---- what the device answers

module _ (d : DeviceState) (sessions : List (Option SessionState)) (id : ℕ) (s : SessionState) (code : IoctlCode) (payload wire : List ℕ) (held : List Held)
    (same : d.sessions ≡ sessions) (there : get_or sessions id None ≡ Some s) where
  -- the device with this session in the place of that one
  abbrev with_it : SessionState → DeviceState
  with_it t = record d { sessions = set sessions id (Some t) }

  live : session_of d id ≡ Some s
  live = ap (λ xs. get_or xs id None) same ∙ there

  unchanged : (t : SessionState) → t ≡ s → with_it t ≡ d
  unchanged t is = ap (λ xs. record d { sessions = xs }) (put_back sessions id s t there is ∙ sym same)

  pub not_come : (held' : List Held) (e : Errno) → comes_with s code payload wire held ≡ Err e → held' ≡ held
      → (memory : Bool) × (record { response = reply_to (Err e) payload; held = held'; device = with_it s } ≡ in_session memory d id (session_of d id) code payload wire held)
  not_come held' e refused kept = (true, rw (live, refused, kept, unchanged s refl) refl)

  pub has_come : (come held' : List Held) (payload' : List ℕ) (t : SessionState) (result : Result (Unit {0}) Errno) → comes_with s code payload wire held ≡ Ok come
      → OnOk result (Answers (ioctl_row s code payload come) payload' t) → IfErr result (λ e. MayRefuse (ioctl_row s code payload come) e)
      → OnErr result (t ≡ s) → OnErr result (payload' ≡ payload)
      → OnOk result (held' ≡ held_after code come (ioctl_row s code payload come).back) → OnErr result (held' ≡ come)
      → (memory : Bool) × (record { response = reply_to result payload'; held = held'; device = with_it t } ≡ in_session memory d id (session_of d id) code payload wire held)
  has_come come held' payload' t (Ok done) comes ok err kept payload_kept taken held_kept =
      (true, rw (live, comes, ok, taken) (ap (λ xs. record { response = reply_to (Ok done) payload'; held = held_after code come (ioctl_row s code payload come).back; device = record d { sessions = set xs id (Some t) } }) (sym same)))
  has_come come held' payload' t (Err e) comes ok err kept payload_kept taken held_kept =
      (err.0, rw (live, comes, err.1, held_kept, unchanged t kept) refl)

-- ---- what is asked of a session

pub quiet_where : (o : Option SessionState) (s : SessionState) (code : IoctlCode) (payload : List ℕ) → o ≡ Some s → (stops_in o code payload && is_busy o) ≡ false
    → stops s code payload ≡ true → is_quiet s ≡ true
quiet_where o s code payload there waits stopping = by_quiet (stops s code payload) (is_quiet s) stopping (sym (ap (λ x. stops_in x code payload && is_busy x) there) ∙ waits)
  where
    by_quiet : (a b : Bool) → a ≡ true → (a && not b) ≡ false → b ≡ true
    by_quiet true true is waits = refl
    by_quiet true false is waits = cc
    by_quiet false b is waits = cc

pub few_where : (o : Option SessionState) (s : SessionState) → o ≡ Some s → MadeFew o → s.made < 2 ^ 32 - 32
few_where o s there few = subst MadeFew there few

-- ---- what is kept

keeps_of : (s : SessionState) (b : BufferRec) → keeps_length s b ≡ true → KeepsFrame s b
keeps_of s b keeps given = by_length (slice_get (queue_of s b.kind).lengths b.index) (sym (ap (λ x. option_map_or (λ n. n == b.length) (if x then slice_get (queue_of s b.kind).lengths b.index else None) true) is) ∙ keeps)
  where
    is : ((queue_of s b.kind).kind == MEMORY_MMAP) ≡ true
    is = grind (arith, nat_tests)

    by_length : (o : Option ℕ) → option_map_or (λ n. n == b.length) o true ≡ true → IfSome o (λ n. n ≡ b.length)
    by_length None same = tt
    by_length (Some n) same = grind (arith, nat_tests)

brought_keeps : (s : SessionState) (b : BufferRec) (wire : List ℕ) (held come : List Held) → brought s b wire held ≡ Ok come → KeepsFrame s b
brought_keeps s b wire [] come is = cc
brought_keeps s b wire (g ∷ h ∷ hs) come is = cc
brought_keeps s b wire (h ∷ []) come is = by_tests (is_named b h) (is_told b wire h.mem) (keeps_length s b) refl is
  where
    by_tests : (named told keeps : Bool) → keeps_length s b ≡ keeps
        → (if named && (told && keeps) then Ok (record h { mem = loaded wire h.mem } ∷ []) else Err Efault) ≡ Ok come → KeepsFrame s b
    by_tests true true true keeps is = keeps_of s b keeps
    by_tests true true false keeps is = cc
    by_tests true false k keeps is = cc
    by_tests false t k keeps is = cc

frames_kept : (s : SessionState) (code : IoctlCode) (payload wire : List ℕ) (held come : List Held) → comes_with s code payload wire held ≡ Ok come → KeepsFrames s code payload
frames_kept s QBuf payload wire held come is = brought_keeps s (buffer_in payload) wire held come is
frames_kept s QueryCap payload wire held come is = tt
frames_kept s EnumFmt payload wire held come is = tt
frames_kept s GFmt payload wire held come is = tt
frames_kept s SFmt payload wire held come is = tt
frames_kept s TryFmt payload wire held come is = tt
frames_kept s ReqBufs payload wire held come is = tt
frames_kept s QueryBuf payload wire held come is = tt
frames_kept s StreamOn payload wire held come is = tt
frames_kept s StreamOff payload wire held come is = tt
frames_kept s EnumInput payload wire held come is = tt
frames_kept s GInput payload wire held come is = tt
frames_kept s SInput payload wire held come is = tt
frames_kept s SubscribeEvent payload wire held come is = tt
frames_kept s UnsubscribeEvent payload wire held come is = tt

-- a call leaves the id, the job and the events
row_keeps : (s : SessionState) (code : IoctlCode) (p : List ℕ) (held : List Held)
    → ((ioctl_row s code p held).next.id ≡ s.id) × ((ioctl_row s code p held).next.running ≡ s.running) × ((ioctl_row s code p held).next.unsent ≡ s.unsent)
unfolding querycap_row enumfmt_row gfmt_row tryfmt_row sfmt_row enuminput_row ginput_row sinput_row reqbufs_row querybuf_row qbuf_row streamon_row streamoff_row subscribe_row unsubscribe_row
row_keeps s QueryCap p held = (refl, refl, refl)
row_keeps s EnumFmt p held = (refl, refl, refl)
row_keeps s GFmt p held = (refl, refl, refl)
row_keeps s TryFmt p held = (refl, refl, refl)
row_keeps s SFmt p held = (refl, refl, refl)
row_keeps s EnumInput p held = (refl, refl, refl)
row_keeps s GInput p held = (refl, refl, refl)
row_keeps s SInput p held = (refl, refl, refl)
row_keeps s ReqBufs p held = (refl, refl, refl)
row_keeps s QueryBuf p held = (refl, refl, refl)
row_keeps s QBuf p held = (refl, refl, refl)
row_keeps s StreamOn p held = (refl, refl, refl)
row_keeps s StreamOff p held = (refl, refl, refl)
row_keeps s SubscribeEvent p held = (refl, refl, refl)
row_keeps s UnsubscribeEvent p held = (refl, refl, refl)

abbrev next_of : Result IoctlAnswer Errno → SessionState → SessionState
next_of (Ok a) s = a.next
next_of (Err e) s = s

outcome_next : (o : Option Errno) (row : IoctlRow) (a : IoctlAnswer) → refused_or o (record { payload = row.payload; back = row.back; next = row.next }) ≡ Ok a → a.next ≡ row.next
outcome_next None row a is = sym (ap (λ r. next_of r row.next) is)
outcome_next (Some e) row a is = cc

pub call_keeps : (d : DeviceState) (memory : Bool) (id : ℕ) (code : IoctlCode) (payload wire : List ℕ) (held : List Held) → IsSound d → MadeFew (session_of d id)
    → IsSound (in_session memory d id (session_of d id) code payload wire held).device
call_keeps d memory id code payload wire held sound few = by_session (session_of d id) refl
  where
    by_outcome : (s : SessionState) (come : List Held) (o : Result IoctlAnswer Errno) → session_of d id ≡ Some s → comes_with s code payload wire held ≡ Ok come
        → ioctl_outcome memory s code payload come ≡ o → IsSound (called d id code come o).device
    by_outcome s come (Err e) there comes is = sound
    by_outcome s come (Ok a) there comes is =
        let row = ioctl_row s code payload come in
        let next : a.next ≡ row.next = outcome_next (refusal_of memory row) row a is in
        let keeps = row_keeps s code payload come in
        let follows = called_follows s code payload come (sound.fits.live id s there).framed (frames_kept s code payload wire held come comes) in
        let made : s.made < 2 ^ 32 - 32 = few_where (session_of d id) s there few in
        subst (λ (x : SessionState). IsSound (with_session d id x)) (sym next)
        (changed_sound d id s row.next sound there keeps.0 keeps.1 keeps.2
        (fits_called d.sessions id s row.next d.region.ranges there follows (inr (let most = follows.few in omega (arith, made, most))) sound.fits))

    by_come : (s : SessionState) (o : Result (List Held) Errno) → session_of d id ≡ Some s → comes_with s code payload wire held ≡ o → IsSound (called_with memory d id s code payload held o).device
    by_come s (Err e) there is = sound
    by_come s (Ok come) there is = by_outcome s come (ioctl_outcome memory s code payload come) there is refl

    by_session : (o : Option SessionState) → session_of d id ≡ o → IsSound (in_session memory d id o code payload wire held).device
    by_session None at = sound
    by_session (Some s) at = by_come s (comes_with s code payload wire held) at refl

-- ---- what holds of an outcome

pub on_ok : {P : Type 0} (result : Result (Unit {0}) Errno) → P → OnOk result P
on_ok (Ok done) p = p
on_ok (Err e) p = tt

pub on_err : {P Q : Type 0} (result : Result (Unit {0}) Errno) → OnErr result P → (P → Q) → OnErr result Q
on_err (Ok done) p f = tt
on_err (Err e) p f = f p

-- one session alone is another one
pub one_changed : (xs : List (Option SessionState)) (id : ℕ) (s t : SessionState) → get_or xs id None ≡ Some s
    → IsSome (get_or xs id None) × (set xs id (Some t) ≡ set xs id (get_or (set xs id (Some t)) id None))
one_changed xs id s t there =
    (rw there (search rules), ap (set xs id) (sym (get_or-set_same xs id (Some t) None (within xs id s there))))

pub some_of : (o : Option SessionState) → IsSome o → (s : SessionState) × (o ≡ Some s)
some_of None is = cc
some_of (Some s) is = (s, refl)

-- no more sessions are live
pub count_changed : (xs : List (Option SessionState)) (id : ℕ) (v : Option SessionState) → IsSome (get_or xs id None) → count_there (set xs id v) ≤ count_there xs
count_changed xs id v is =
    let found = some_of (get_or xs id None) is in
    let sum = sum_by-set one_if_there xs id v None (within xs id found.0 found.1) in
    let before : one_if_there (get_or xs id None) ≡ 1 = ap one_if_there found.1 in
    omega (arith, sum, before, most v)
  where
    most : (o : Option SessionState) → one_if_there o ≤ 1
    most None = omega arith
    most (Some s) = omega arith

pub marks_changed : (xs sessions : List (Option SessionState)) (flags : List Bool) (id : ℕ) → IsSome (get_or xs id None) → flags ≡ map is_ready xs
    → sessions ≡ set xs id (get_or sessions id None) → set flags id (is_ready (get_or sessions id None)) ≡ map is_ready sessions
marks_changed xs sessions flags id is marked one =
    let v = get_or sessions id None in
    let there : get_or (set xs id v) id None ≡ v = get_or-set_same xs id v None (within xs id (some_of (get_or xs id None) is).0 (some_of (get_or xs id None) is).1) in
    ap (λ o. set flags id (is_ready o)) (sym there)
    ∙ marks_after xs flags id v (within xs id (some_of (get_or xs id None) is).0 (some_of (get_or xs id None) is).1) marked
    ∙ ap (map is_ready) (sym one)

pub below_flags : (xs : List (Option SessionState)) (flags : List Bool) (id : ℕ) → IsSome (get_or xs id None) → flags ≡ map is_ready xs → id < length flags
below_flags xs flags id is marked =
    let found = some_of (get_or xs id None) is in
    omega (arith, within xs id found.0 found.1, ap length marked, length-map xs is_ready)
