-- Entries that move a memory: where it is afterwards.
use Rattle.std.proofs.Common.{◌≡◌, ◌≢◌, inl, inr, ℕ, ◌<◌, ◌≤◌, ◌+◌, Bool, true, false, not, ◌&&◌, ◌||◌, ◌==◌, List, [], ◌∷◌, ◌++◌, length, set, replicate, Option, Some, None, refl, sym, ap, ◌∙◌, subst, arith, if◌then◌else◌, get_or-set_same, get_or-set_other, length-set, length-append, eq-eqb}
use Rattle.std.proofs.lemmas.Bool.{false≢true, true≢false, eqb-true, and_parts, cases_Bool, cases_eq, cases_lt}
use Rattle.std.proofs.lemmas.List.{get_or_append_left, get_or_at, get_or_past}
use Rattle.std.proofs.lemmas.Option.{none-some}
use Rattle.v4l_const.specs.declared.errno.Errno.{Errno}
use Rattle.v4l_const.specs.declared.errno.Errno.TheVariants.{Enomem}
use Rattle.v4l_const.specs.Model.{queues as types_of}
use Rattle.v4l_rules.specs.Refusals.{first_refusal}
use Rattle.vm_frame.specs.Mem.{mem_bytes}
use Rattle.vm_frame.specs.declared.mem.Mem.{Mem}
use Rattle.vm_local.specs.declared.bound.Bound.{Bound}
use Rattle.vm_local.specs.declared.bound.BoundKind.TheVariants.{User}
use Rattle.vm_local.specs.declared.buffer.Buffer.{Buffer}
use Rattle.vm_local.specs.declared.call.Call.{Call}
use Rattle.vm_local.specs.declared.call.Call.TheVariants.{OpenHandle, UAlloc}
use Rattle.vm_local.specs.declared.reply.Reply.{Reply}
use Rattle.vm_local.specs.declared.reply.Reply.TheVariants.{Done, Refused, Pages}
use Rattle.vm_local.specs.State.{LocalState}
use Rattle.vm_local.specs.Same.{same_reply}
use Rattle.vm_local.specs.Live.{is_of_device, is_named, is_live}
use Rattle.vm_local.specs.Memory.{bytes_of, is_just, is_lent, is_in_use, with_bound}
use Rattle.vm_local.specs.Calls.{Row, opened_anew, ualloc_row}
use Rattle.vm_local.specs.Log.{answered, row_for, called}
use Rattle.vm_local.proofs.KeptLemmas.{some_same}
use Rattle.vm_local.proofs.SameLemmas.{same_reply_decides}
use Rattle.vm_home.specs.Home.{home_of, is_kept, is_out, IsMemory, IsThere, AreInPlace}
use Rattle.vm_home.specs.Moves.{is_refusal, home_without}
use Rattle.vm_home.specs.Reached.{IsReached}
use Rattle.vm_home.proofs.PlaceLemmas.{or_left, or_right, fails, HasAt, used_at, lent_used, device_at}
use Rattle.vm_home.proofs.RowLemmas.{IsSound, bound_some}
use Rattle.vm_home.proofs.OwnLemmas.{bare_at}
use Rattle.vm_home.proofs.FactLemmas.{facts_of}
use Rattle.vm_home.proofs.StillLemmas.{out_away, kept_there, in_places, kept_cases, named_kept, device_kept, used_kept, same_there}

-- ---- a call that is answered and not refused

-- no refusal applies, it doesn't wait, and it has its row's reply and next state
pub record Went (row : Row) (reply : Reply) (t : LocalState) : Type 0 where
  pub pass : first_refusal row.refusals ≡ None
  pub go : row.waits ≡ false
  pub told : reply ≡ row.reply
  pub next : t ≡ row.next

went_by : (refused : Option Errno) (row : Row) (s : LocalState) (reply : Reply) (t : LocalState) → is_refusal reply ≡ false → answered refused row s reply ≡ Some t →
    (refused ≡ None) × (row.waits ≡ false) × (reply ≡ row.reply) × (t ≡ row.next)
went_by (Some errno) row s reply t spoke leads =
    elim (cases_Bool (same_reply (Refused errno) reply)) as (λ _. (Some errno ≡ None) × (row.waits ≡ false) × (reply ≡ row.reply) × (t ≡ row.next)) [
      | inl is ↦ absurd (true≢false (ap is_refusal ((same_reply_decides (Refused errno) reply).0 is) ∙ spoke))
      | inr other ↦
          let none : (if same_reply (Refused errno) reply then Some s else None) ≡ None = rw other refl in
          absurd (none-some t (sym none ∙ leads))
    ]
went_by None row s reply t spoke leads = cases (row.may_lack_memory && same_reply (Refused Enomem) reply) refl row.waits refl (same_reply row.reply reply) refl leads
  where
    cases : (lacks : Bool) → (row.may_lack_memory && same_reply (Refused Enomem) reply) ≡ lacks → (waits : Bool) → row.waits ≡ waits → (same : Bool) → same_reply row.reply reply ≡ same →
        (if lacks then Some s else (if not waits && same then Some row.next else None)) ≡ Some t →
        (◌≡◌ {A = Option Errno} None None) × (row.waits ≡ false) × (reply ≡ row.reply) × (t ≡ row.next)
    cases true is waits w same e leads = absurd (true≢false (ap is_refusal ((same_reply_decides (Refused Enomem) reply).0 (and_parts row.may_lack_memory (same_reply (Refused Enomem) reply) is).1) ∙ spoke))
    cases false is true w same e leads = absurd (none-some t leads)
    cases false is false w true e leads = (refl, w, sym ((same_reply_decides row.reply reply).0 e), sym (some_same row.next t s leads))
    cases false is false w false e leads = absurd (none-some t leads)

pub went : (s : LocalState) (line : ℕ) (call : Call) (reply : Reply) (t : LocalState) → is_refusal reply ≡ false → called s line call reply ≡ Some t → Went (row_for s line call reply) reply t
unfolding called
went s line call reply t spoke leads =
    let r : Row = row_for s line call reply in
    let w : (first_refusal r.refusals ≡ None) × (r.waits ≡ false) × (reply ≡ r.reply) × (t ≡ r.next) = went_by (first_refusal r.refusals) r s reply t spoke leads in
    record { pass = w.0; go = w.1; told = w.2; next = w.3 }

-- ---- the places of a home

pub at_itself : (home : List (Option Mem)) (m : ℕ) → home_of (set home m None) m ≡ None
at_itself home m = elim (cases_lt m (length home)) as (λ _. home_of (set home m None) m ≡ None) [
  | inl within ↦ get_or-set_same home m None None within
  | inr past ↦ get_or_past (set home m None) m None (omega (arith, past, length-set home m None))
]

pub just_other : (m k : ℕ) → k ≢ m → is_just (Some m) k ≡ false
just_other m k apart = elim (cases_Bool (m == k)) as (λ _. (m == k) ≡ false) [
  | inl is ↦ absurd (apart (sym (eqb-true m k is)))
  | inr not ↦ not
]

pub or_bare : (a : Bool) → (a || false) ≡ a
or_bare true = refl
or_bare false = refl

-- a memory goes out
pub sent_out : (s : LocalState) (m : ℕ) (home : List (Option Mem)) → AreInPlace s None home → AreInPlace s (Some m) (set home m None)
sent_out s m home h =
    in_places s (Some m) (set home m None) (length-set home m None ∙ h.places)
    (λ k is. elim (cases_eq k m) as (λ _. home_of (set home m None) k ≡ None) [
      | inl same ↦ subst (λ n. home_of (set home m None) n ≡ None) (sym same) (at_itself home m)
      | inr apart ↦
          let lent : is_out s None k ≡ true = ap (λ b. is_lent s k || b) (sym (just_other m k apart)) ∙ is in
          get_or-set_other home m k None None apart ∙ out_away s None home k h lent
    ])
    (λ k is kept. elim (cases_eq k m) as (λ _. IsThere s k (home_of (set home m None) k)) [
      | inl same ↦ absurd (true≢false (sym (or_right (is_lent s k) (is_just (Some m) k) (eq-eqb m k (sym same))) ∙ is))
      | inr apart ↦
          let P : Option Mem → Type 0 = λ o. IsThere s k o in
          let bare : is_out s None k ≡ false = ap (λ b. is_lent s k || b) (sym (just_other m k apart)) ∙ is in
          subst P (sym (get_or-set_other home m k None None apart)) (kept_there s None home k h bare kept)
    ])

-- the one that a call takes along, if it takes one
pub out_without : (s : LocalState) (out : Option ℕ) (home : List (Option Mem)) → AreInPlace s None home → AreInPlace s out (home_without out home)
out_without s None home h = h
out_without s (Some m) home h = sent_out s m home h

-- a memory that is with the device isn't one that isn't
pub lent_apart : (s : LocalState) (n m : ℕ) → is_lent s n ≡ true → is_lent s m ≡ false → is_just (Some m) n ≡ false
lent_apart s n m lent unlent = just_other m n (λ same. true≢false (sym lent ∙ (ap (λ k. is_lent s k) same ∙ unlent)))

-- and comes back, where it isn't the device's
pub put_home : (s : LocalState) (m : ℕ) (mem : Mem) (home : List (Option Mem)) → is_lent s m ≡ false → IsMemory s m mem → m < length home →
    AreInPlace s (Some m) home → AreInPlace s None (set home m (Some mem))
put_home s m mem home unlent is within h =
    in_places s None (set home m (Some mem)) (length-set home m (Some mem) ∙ h.places)
    (λ k out. elim (cases_eq k m) as (λ _. home_of (set home m (Some mem)) k ≡ None) [
      | inl same ↦ absurd (true≢false (sym out ∙ (or_bare (is_lent s k) ∙ (ap (λ n. is_lent s n) same ∙ unlent))))
      | inr apart ↦
          let away : is_out s (Some m) k ≡ true = ap (λ b. is_lent s k || b) (just_other m k apart) ∙ out in
          get_or-set_other home m k (Some mem) None apart ∙ out_away s (Some m) home k h away
    ])
    (λ k out kept. elim (cases_eq k m) as (λ _. IsThere s k (home_of (set home m (Some mem)) k)) [
      | inl same ↦
          let P : ℕ → Type 0 = λ n. IsThere s n (home_of (set home m (Some mem)) n) in
          let Q : Option Mem → Type 0 = λ o. IsThere s m o in
          subst P (sym same) (subst Q (sym (get_or-set_same home m (Some mem) None within)) is)
      | inr apart ↦
          let P : Option Mem → Type 0 = λ o. IsThere s k o in
          let bare : is_out s (Some m) k ≡ false = ap (λ b. is_lent s k || b) (just_other m k apart) ∙ out in
          subst P (sym (get_or-set_other home m k (Some mem) None apart)) (kept_there s (Some m) home k h bare kept)
    ])

-- ---- open

-- a handle that was opened anew has nothing
pub opened_bare : (s : LocalState) (nonblock : Bool) (m : ℕ) → is_kept (opened_anew s nonblock) m ≡ true → ⊥
opened_bare s nonblock m kept =
    let new : LocalState = opened_anew s nonblock in
    let never : (p i : ℕ) → HasAt new.queues p i m → ⊥ = λ p i has. none-some m (sym (ap (λ (b : Buffer). b.memory) (bare_at (types_of s.model) p i)) ∙ has) in
    elim (kept_cases new m kept) as (λ _. ⊥) [
      | inl named ↦ false≢true named
      | inr rest ↦ elim rest.1 as (λ _. ⊥) [
        | inl device ↦ let d : _ = device_at new m device in never d.0 d.1 d.2
        | inr used ↦ let u : _ = used_at new m used in never u.0 u.1 u.2
      ]
    ]

pub opened_home : (s t : LocalState) (line : ℕ) (nonblock : Bool) → called s line (OpenHandle nonblock) Done ≡ Some t → AreInPlace t None []
opened_home s t line nonblock leads =
    let w : Went (row_for s line (OpenHandle nonblock) Done) Done t = went s line (OpenHandle nonblock) Done t refl leads in
    subst (λ (x : LocalState). AreInPlace x None []) (sym w.next)
    (in_places (opened_anew s nonblock) None [] refl (λ m _. refl) (λ m _ kept. absurd (opened_bare s nonblock m kept)))

-- ---- user memory is made

-- no buffer has a memory that wasn't made
pub unmade : (s : LocalState) → IsSound s → (m : ℕ) → length s.memories ≤ m → (is_lent s m ≡ false) × (is_of_device s m ≡ false) × (is_in_use s m ≡ false) × (is_named s m ≡ false)
unmade s sound m past =
    let dead : is_live s m ≡ false = elim (cases_Bool (is_live s m)) as (λ _. is_live s m ≡ false) [
      | inl is ↦ absurd (omega (arith, past, sound.live m is))
      | inr not ↦ not
    ] in
    let used : is_in_use s m ≡ true → is_live s m ≡ true = λ is. or_left (is_in_use s m) (is_of_device s m || is_named s m) is in (
      fails (is_lent s m) (is_live s m) (λ is. used (lent_used s m is)) dead,
      fails (is_of_device s m) (is_live s m) (λ is. or_right (is_in_use s m) (is_of_device s m || is_named s m) (or_left (is_of_device s m) (is_named s m) is)) dead,
      fails (is_in_use s m) (is_live s m) used dead,
      fails (is_named s m) (is_live s m) (λ is. or_right (is_in_use s m) (is_of_device s m || is_named s m) (or_right (is_of_device s m) (is_named s m) is)) dead,
    )

pub ualloc_kept : (s : LocalState) (line : ℕ) (u : List ℕ) (len off m : ℕ) → m < length s.memories → is_kept (ualloc_row s line u len off).next m ≡ true → is_kept s m ≡ true
unfolding ualloc_row
ualloc_kept s line u len off m within kept =
    elim (kept_cases (ualloc_row s line u len off).next m kept) as (λ _. is_kept s m ≡ true) [
      | inl named ↦ elim (bound_some (λ c. c.memory == m) s.bound (record { name = u; memory = length s.memories; kind = User line off }) named) as (λ _. is_kept s m ≡ true) [
        | inl old ↦ named_kept s m old
        | inr at ↦ absurd (omega (arith, within, eqb-true (length s.memories) m at))
      ]
      | inr rest ↦ elim rest.1 as (λ _. is_kept s m ≡ true) [
        | inl device ↦ device_kept s m rest.0 device
        | inr used ↦ used_kept s m rest.0 used
      ]
    ]

pub ualloc_home : (s t : LocalState) (line : ℕ) (u : List ℕ) (len off n : ℕ) (mem : Mem) (home : List (Option Mem)) → IsReached s →
    called s line (UAlloc u len off) (Pages n) ≡ Some t → mem_bytes mem ≡ replicate len 0 → AreInPlace s None home → AreInPlace t None (home ++ Some mem ∷ [])
unfolding ualloc_row
ualloc_home s t line u len off n mem home reached leads zeros h =
    let sound : IsSound s = (facts_of s reached).sound in
    let w : Went (row_for s line (UAlloc u len off) (Pages n)) (Pages n) t = went s line (UAlloc u len off) (Pages n) t refl leads in
    let k : ℕ = length s.memories in
    let b : Bound = record { name = u; memory = k; kind = User line off } in
    let memories : List (List ℕ) = s.memories ++ replicate len 0 ∷ [] in
    let new : LocalState = with_bound (record s { memories = memories }) b in
    let grown : List (Option Mem) = home ++ Some mem ∷ [] in
    let size : length memories ≡ k + 1 = length-append s.memories (replicate len 0 ∷ []) in
    let long : length grown ≡ length home + 1 = length-append home (Some mem ∷ []) in
    let at_new : home_of grown k ≡ Some mem = get_or_at home (Some mem) [] None k h.places in
    let at_old : (m : ℕ) → m < k → home_of grown m ≡ home_of home m = λ m within. get_or_append_left home (Some mem ∷ []) None m (omega (arith, within, h.places)) in
    let old_bytes : (m : ℕ) → m < k → bytes_of new m ≡ bytes_of s m = λ m within. get_or_append_left s.memories (replicate len 0 ∷ []) [] m within in
    let new_bytes : bytes_of new k ≡ replicate len 0 = get_or_at s.memories (replicate len 0) [] [] k refl in
    subst (λ (x : LocalState). AreInPlace x None grown) (sym w.next) (in_places new None grown (omega (arith, long, size, h.places))
    (λ m out. elim (cases_lt m k) as (λ _. home_of grown m ≡ None) [
      | inl within ↦ at_old m within ∙ out_away s None home m h out
      | inr past ↦ absurd (true≢false (sym out ∙ (or_bare (is_lent s m) ∙ (unmade s sound m past).0)))
    ])
    (λ m out kept. elim (cases_lt m k) as (λ _. IsThere new m (home_of grown m)) [
      | inl within ↦
          let was : is_kept s m ≡ true = ualloc_kept s line u len off m within kept in
          let P : Option Mem → Type 0 = λ o. IsThere new m o in
          subst P (sym (at_old m within)) (same_there s new m (home_of home m) (old_bytes m within) (λ is. is) (kept_there s None home m h out was))
      | inr past ↦ elim (cases_eq m k) as (λ _. IsThere new m (home_of grown m)) [
        | inl is ↦
            let P : ℕ → Type 0 = λ j. IsThere new j (home_of grown j) in
            let Q : Option Mem → Type 0 = λ o. IsThere new k o in
            let bare : is_of_device s k ≡ false = (unmade s sound k (omega arith)).1 in
            subst P (sym is) (subst Q (sym at_new) (record { bytes = zeros ∙ sym new_bytes; frame = λ device. absurd (true≢false (sym device ∙ bare)) }))
        | inr apart ↦ elim (kept_cases new m kept) as (λ _. IsThere new m (home_of grown m)) [
          | inl named ↦ elim (bound_some (λ c. c.memory == m) s.bound b named) as (λ _. IsThere new m (home_of grown m)) [
            | inl old ↦ absurd (true≢false (sym old ∙ (unmade s sound m past).3))
            | inr at ↦ absurd (apart (sym (eqb-true k m at)))
          ]
          | inr rest ↦ elim rest.1 as (λ _. IsThere new m (home_of grown m)) [
            | inl device ↦ absurd (true≢false (sym device ∙ (unmade s sound m past).1))
            | inr used ↦ absurd (true≢false (sym used ∙ (unmade s sound m past).2))
          ]
        ]
      ]
    ]))
