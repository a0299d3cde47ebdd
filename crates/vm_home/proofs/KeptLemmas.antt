-- What is at home of the memories that the handle has.
use Rattle.std.proofs.Common.{◌≡◌, inl, inr, ℕ, ◌<◌, ◌+◌, ◌-◌, Bool, true, false, ◌==◌, List, [], ◌∷◌, ◌++◌, length, get_or, set, Option, Some, None, refl, sym, ap, ◌∙◌, subst, arith, if◌then◌else◌, get_or-set_same, get_or-set_other, length-set, length-append}
use Rattle.std.specs.List.{list_any}
use Rattle.std.proofs.lemmas.Bool.{cases_Bool, cases_eq, cases_lt}
use Rattle.std.proofs.lemmas.List.{ext_get_or, get_or_past, get_or_append_left, get_or-append-add}
use Rattle.std.proofs.lemmas.List.FromFn.{get_or-map-range_with_len, length-map-range_with_len}
use Rattle.v4l_const.specs.declared.errno.Errno.TheVariants.{Enomem}
use Rattle.v4l_rules.specs.Refusals.{first_refusal}
use Rattle.vm_frame.specs.declared.mem.Held.{Held}
use Rattle.vm_frame.specs.declared.mem.Mem.{Mem}
use Rattle.vm_local.specs.declared.call.Call.{Call}
use Rattle.vm_local.specs.declared.call.Call.TheVariants.{OpenHandle, CloseHandle, ReqBufs, UAlloc, QBuf, StreamOff, Poke, Fill}
use Rattle.vm_local.specs.declared.entry.Entry.{Entry}
use Rattle.vm_local.specs.declared.entry.Entry.TheVariants.{Called, Finish, Bad, Give}
use Rattle.vm_local.specs.State.{LocalState, queue_of}
use Rattle.vm_local.specs.Same.{address_in}
use Rattle.vm_local.specs.Queue.{stopped, stopped_queue, memory_kind, granted, with_buffers}
use Rattle.vm_local.specs.Calls.{Row, row_of, closed, reqbufs_row, streamoff_row, write_row, fill_row}
use Rattle.vm_local.specs.Log.{row_for, called, after}
use Rattle.vm_local.proofs.StepLemmas.{passes, answered_by}
use Rattle.vm_home.specs.Home.{home_of, is_kept, IsThere, AreInPlace, kept_only}
use Rattle.vm_home.specs.Moves.{home_without, put_back, memory_at}
use Rattle.vm_home.specs.Reached.{IsReached}
use Rattle.vm_home.proofs.RowLemmas.{stays_row}
use Rattle.vm_home.proofs.FactLemmas.{facts_of}
use Rattle.vm_home.proofs.StillLemmas.{out_away, kept_there, in_places, named_kept, kept_less, leaves_stays}
use Rattle.vm_home.proofs.StepLemmas.{StepsTo, steps_to}
use Rattle.vm_home.proofs.MoveLemmas.{opened_bare, ualloc_kept}
use Rattle.vm_home.proofs.DeviceLemmas.{qbuf_kept}
use Rattle.vm_home.proofs.StopLemmas.{old_kept, one_old}
use Rattle.vm_home.proofs.ComeLemmas.{closed_old, off_one, renewed, reqbufs_one}

-- ---- an entry gives the handle no memory that was made before

kept_row : (s : LocalState) (line addr : ℕ) (call : Call) (m : ℕ) → IsReached s → first_refusal (row_of s line addr call).refusals ≡ None →
    (row_of s line addr call).waits ≡ false → m < length s.memories → is_kept (row_of s line addr call).next m ≡ true → is_kept s m ≡ true
unfolding reqbufs_row streamoff_row write_row fill_row
kept_row s line addr (OpenHandle nonblock) m reached pass go made kept = absurd (opened_bare s nonblock m kept)
kept_row s line addr CloseHandle m reached pass go made kept = old_kept s (closed s) m (closed_old s) made kept
kept_row s line addr (ReqBufs u k n) m reached pass go made kept =
    let so : (j : ℕ) → (get_or (reqbufs_row s u k n).refusals j (false, Enomem)).0 ≡ false = passes (reqbufs_row s u k n).refusals pass in
    let t : LocalState = with_buffers s u (memory_kind k) (granted n) in
    old_kept s t m (one_old s t u (renewed s u k n) (reqbufs_one s u k n (facts_of s reached).sound (so 1))) made kept
kept_row s line addr (UAlloc u len off) m reached pass go made kept = ualloc_kept s line u len off m made kept
kept_row s line addr (QBuf u i user used ts) m reached pass go made kept = qbuf_kept s line addr u i user used ts m reached pass kept
kept_row s line addr (StreamOff u) m reached pass go made kept =
    let so : (j : ℕ) → (get_or (streamoff_row s u).refusals j (false, Enomem)).0 ≡ false = passes (streamoff_row s u).refusals pass in
    old_kept s (stopped s u) m (one_old s (stopped s u) u (stopped_queue (queue_of s u)) (off_one s u (facts_of s reached).sound (so 1))) made kept
kept_row s line addr (Poke name off bytes) m reached pass go made kept = kept
kept_row s line addr (Fill name seed) m reached pass go made kept = kept
kept_row s line addr call m reached pass go made kept =
    (leaves_stays s (row_of s line addr call).next (stays_row s line addr call (facts_of s reached).sound refl pass go)).kept m kept

kept_step : (s t : LocalState) (m : ℕ) → StepsTo s t → is_kept t m ≡ true → is_kept s m ≡ true
kept_step s t m steps kept =
    kept_less s t (λ is. sym steps.opened ∙ is) steps.less (λ k named. named_kept s k (ap (λ bs. list_any (λ b. b.memory == k) bs) (sym steps.bound) ∙ named)) m kept

pub kept_after : (s t : LocalState) (e : Entry) (m : ℕ) → IsReached s → after s e ≡ Some t → m < length s.memories → is_kept t m ≡ true → is_kept s m ≡ true
unfolding called
kept_after s t (Called line call reply) m reached leads made kept =
    let r : Row = row_for s line call reply in
    elim (answered_by (first_refusal r.refusals) r s reply t leads) as (λ _. is_kept s m ≡ true) [
      | inl same ↦ subst (λ x. is_kept x m ≡ true) same kept
      | inr w ↦ kept_row s line (address_in reply) call m reached w.0 w.1 made (subst (λ x. is_kept x m ≡ true) w.3 kept)
    ]
kept_after s t Finish m reached leads made kept = kept_step s t m (steps_to s t Finish reached tt leads) kept
kept_after s t Bad m reached leads made kept = kept_step s t m (steps_to s t Bad reached tt leads) kept
kept_after s t Give m reached leads made kept = kept_step s t m (steps_to s t Give reached tt leads) kept

-- ---- homes that are alike in these places

abbrev pub AreAlike : (ℕ → Type 0) → List (Option Mem) → List (Option Mem) → Type 0
AreAlike P xs ys = (length xs ≡ length ys) × ((m : ℕ) → P m → home_of xs m ≡ home_of ys m)

pub alike_set : (P : ℕ → Type 0) (xs ys : List (Option Mem)) (k : ℕ) (o : Option Mem) → AreAlike P xs ys → AreAlike P (set xs k o) (set ys k o)
alike_set P xs ys k o h = (
  length-set xs k o ∙ (h.0 ∙ sym (length-set ys k o)),
  λ m is. elim (cases_eq m k) as (λ _. home_of (set xs k o) m ≡ home_of (set ys k o) m) [
    | inr apart ↦ get_or-set_other xs k m o None apart ∙ (h.1 m is ∙ sym (get_or-set_other ys k m o None apart))
    | inl same ↦ subst (λ j. home_of (set xs k o) j ≡ home_of (set ys k o) j) (sym same) (elim (cases_lt k (length xs)) as (λ _. home_of (set xs k o) k ≡ home_of (set ys k o) k) [
      | inl within ↦ get_or-set_same xs k o None within ∙ sym (get_or-set_same ys k o None (omega (arith, within, h.0)))
      | inr past ↦ get_or_past (set xs k o) k None (omega (arith, past, length-set xs k o)) ∙ sym (get_or_past (set ys k o) k None (omega (arith, past, h.0, length-set ys k o)))
    ])
  ],
)

pub alike_without : (P : ℕ → Type 0) (xs ys : List (Option Mem)) (out : Option ℕ) → AreAlike P xs ys → AreAlike P (home_without out xs) (home_without out ys)
alike_without P xs ys None h = h
alike_without P xs ys (Some k) h = alike_set P xs ys k None h

pub alike_back : (P : ℕ → Type 0) (s : LocalState) (hs : List Held) (xs ys : List (Option Mem)) → AreAlike P xs ys → AreAlike P (put_back s hs xs) (put_back s hs ys)
alike_back P s [] xs ys h = h
alike_back P s (x ∷ hs) xs ys h =
    let k : ℕ = memory_at s x.queue x.index in
    alike_back P s hs (set xs k (Some x.mem)) (set ys k (Some x.mem)) (alike_set P xs ys k (Some x.mem) h)

pub alike_append : (P : ℕ → Type 0) (xs ys zs : List (Option Mem)) → AreAlike P xs ys → AreAlike P (xs ++ zs) (ys ++ zs)
alike_append P xs ys zs h = (
  length-append xs zs ∙ (ap (λ n. n + length zs) h.0 ∙ sym (length-append ys zs)),
  λ m is. elim (cases_lt m (length xs)) as (λ _. home_of (xs ++ zs) m ≡ home_of (ys ++ zs) m) [
    | inl within ↦ get_or_append_left xs zs None m within ∙ (h.1 m is ∙ sym (get_or_append_left ys zs None m (omega (arith, within, h.0))))
    | inr past ↦
        let i : ℕ = m - length xs in
        let one : length xs + i ≡ m = omega (arith, past) in
        let two : length ys + i ≡ m = omega (arith, past, h.0) in
        ap (λ j. home_of (xs ++ zs) j) (sym one) ∙ (get_or-append-add xs zs i None ∙ (sym (get_or-append-add ys zs i None) ∙ ap (λ j. home_of (ys ++ zs) j) two))
  ],
)

-- ---- only the memories that the handle has

pub kept_long : (s : LocalState) (home : List (Option Mem)) → length (kept_only s home) ≡ length s.memories
kept_long s home = length-map-range_with_len (λ m. if is_kept s m then home_of home m else None) 0 (length s.memories)

pub kept_at : (s : LocalState) (home : List (Option Mem)) (m : ℕ) → m < length s.memories → home_of (kept_only s home) m ≡ (if is_kept s m then home_of home m else None)
kept_at s home m within = get_or-map-range_with_len (λ k. if is_kept s k then home_of home k else None) 0 (length s.memories) m m None within (omega arith)

-- they are those of two homes that are alike there
pub kept_alike : (s : LocalState) (xs ys : List (Option Mem)) → ((m : ℕ) → is_kept s m ≡ true → home_of xs m ≡ home_of ys m) → kept_only s xs ≡ kept_only s ys
kept_alike s xs ys alike =
    ext_get_or None (kept_only s xs) (kept_only s ys) (kept_long s xs ∙ sym (kept_long s ys)) (λ m within.
    let inside : m < length s.memories = omega (arith, within, kept_long s xs) in
    let same : (b : Bool) → (b ≡ true → home_of xs m ≡ home_of ys m) → (if b then home_of xs m else None) ≡ (if b then home_of ys m else None) = λ b.
    elim b as (λ b. (b ≡ true → home_of xs m ≡ home_of ys m) → (if b then home_of xs m else None) ≡ (if b then home_of ys m else None)) [
      | true ↦ λ h. h refl
      | false ↦ λ h. refl
    ] in
    kept_at s xs m inside ∙ (same (is_kept s m) (alike m) ∙ sym (kept_at s ys m inside)))

-- a home with them alone is alike in all places of memories that the handle has, of the old ones
pub only_alike : (s : LocalState) (P : ℕ → Type 0) (home : List (Option Mem)) → length home ≡ length s.memories →
    ((m : ℕ) → m < length s.memories → P m → is_kept s m ≡ true) → AreAlike P (kept_only s home) home
only_alike s P home long kept = (
  kept_long s home ∙ sym long,
  λ m is. elim (cases_lt m (length s.memories)) as (λ _. home_of (kept_only s home) m ≡ home_of home m) [
    | inl within ↦ kept_at s home m within ∙ ap (λ b. if b then home_of home m else None) (kept m within is)
    | inr past ↦ get_or_past (kept_only s home) m None (omega (arith, past, kept_long s home)) ∙ sym (get_or_past home m None (omega (arith, past, long)))
  ],
)

-- and its memories are in their places
pub kept_home : (s : LocalState) (out : Option ℕ) (home : List (Option Mem)) → AreInPlace s out home → AreInPlace s out (kept_only s home)
kept_home s out home h =
    let alike : AreAlike (λ m. is_kept s m ≡ true) (kept_only s home) home = only_alike s (λ m. is_kept s m ≡ true) home h.places (λ m _ is. is) in
    in_places s out (kept_only s home) (kept_long s home)
    (λ m gone. elim (cases_lt m (length s.memories)) as (λ _. home_of (kept_only s home) m ≡ None) [
      | inr past ↦ get_or_past (kept_only s home) m None (omega (arith, past, kept_long s home))
      | inl within ↦ elim (cases_Bool (is_kept s m)) as (λ _. home_of (kept_only s home) m ≡ None) [
        | inl is ↦ alike.1 m is ∙ out_away s out home m h gone
        | inr not ↦ kept_at s home m within ∙ ap (λ b. if b then home_of home m else None) not
      ]
    ])
    (λ m here kept. subst (λ o. IsThere s m o) (sym (alike.1 m kept)) (kept_there s out home m h here kept))
