-- A call that stops queues: the memories that were queued come back, and fresh ones with them.
use Rattle.std.proofs.Common.{◌≡◌, ◌≢◌, ◌⊎◌, inl, inr, ℕ, ◌<◌, ◌≤◌, Bool, true, false, not, ◌||◌, ◌==◌, List, [], ◌∷◌, ◌++◌, length, get_or, set, map, All, Option, Some, None, refl, sym, ap, ◌∙◌, subst, arith, unwrap_or, get_or-set_same, get_or-set_other, length-set, eq-eqb}
use Rattle.std.specs.List.{list_any}
use Rattle.std.proofs.lemmas.Bool.{false≢true, true≢false, eqb-true, eqb-false, or_cases, cases_Bool, cases_eq, cases_lt}
use Rattle.std.proofs.lemmas.List.{get_or_append_left}
use Rattle.std.proofs.lemmas.List.Elements.{All-head, All-tail}
use Rattle.std.proofs.lemmas.List.Folds.{list_any-append}
use Rattle.v4l_const.specs.Model.{queues as types_of}
use Rattle.v4l_rules.specs.Queues.{place_in}
use Rattle.vm_frame.specs.declared.mem.Held.{Held}
use Rattle.vm_frame.specs.declared.mem.Mem.{Mem}
use Rattle.vm_local.specs.declared.buffer.BufferState.{BufferState}
use Rattle.vm_local.specs.declared.buffer.BufferState.TheVariants.{Idle, Queued, Owed, Done as AsDone}
use Rattle.vm_local.specs.declared.owed.Owed.{Owed as OwedEntry}
use Rattle.vm_local.specs.State.{QueueState, LocalState, opening_queue, queue_of, buffer_of}
use Rattle.vm_local.specs.Kinds.{is_idle, is_away}
use Rattle.vm_local.specs.Listed.{times, times_owed, once, is_queued, is_with_device, is_index, IsThere as IsInState}
use Rattle.vm_local.specs.Live.{is_of_device}
use Rattle.vm_local.specs.Memory.{bytes_of, is_lent}
use Rattle.vm_local.specs.Queue.{is_user_ptr, is_owed}
use Rattle.vm_local.specs.Steps.{number_of}
use Rattle.vm_local.proofs.CountLemmas.{times_cons, owed_cons, never_at}
use Rattle.vm_home.specs.Home.{home_of, is_kept, is_out, IsMemory, IsThere, AreInPlace}
use Rattle.vm_home.specs.Moves.{Place, places_on, queued_on, memory_at, AreMemories, put_back}
use Rattle.vm_home.proofs.PlaceLemmas.{or_left, or_right, buffer_at, kind_at, HasAt, lent_at, lent_from, used_at, used_from, device_at, device_from, away_busy}
use Rattle.vm_home.proofs.RowLemmas.{IsSound}
use Rattle.vm_home.proofs.OwnLemmas.{OwnsAll, put_at, number_made}
use Rattle.vm_home.proofs.FactLemmas.{Facts}
use Rattle.vm_home.proofs.StillLemmas.{out_away, kept_there, in_places, kept_cases, named_kept, device_kept, used_kept, same_there, or_none, not_out}
use Rattle.vm_home.proofs.MoveLemmas.{or_bare}

-- ---- the memories that come back

-- the number of the memory of the buffer at a place
abbrev pub number_at : LocalState → Place → ℕ
number_at s p = memory_at s p.queue p.index

-- one of these buffers has the memory with this number
abbrev pub is_among : LocalState → List Place → ℕ → Bool
is_among s ps m = list_any (λ p. number_at s p == m) ps

pub memories_long : (s : LocalState) (ps : List Place) (hs : List Held) → AreMemories s ps hs → length hs ≡ length ps
memories_long s [] [] is = refl
memories_long s [] (h ∷ hs) is = absurd is
memories_long s (p ∷ ps) [] is = absurd is
memories_long s (p ∷ ps) (h ∷ hs) is = omega (arith, memories_long s ps hs is.3)

pub put_long : (s : LocalState) (hs : List Held) (home : List (Option Mem)) → length (put_back s hs home) ≡ length home
put_long s [] home = refl
put_long s (h ∷ hs) home = put_long s hs _ ∙ length-set home (number_of (buffer_of (queue_of s h.queue) h.index)) (Some h.mem)

-- the place of a memory that comes back, by the buffer that has it
held_number : (s : LocalState) (p : Place) (h : Held) → h.queue ≡ p.queue → h.index ≡ p.index → number_of (buffer_of (queue_of s h.queue) h.index) ≡ number_at s p
held_number s p h queue index =
    ap (λ t. number_of (buffer_of (queue_of s t) h.index)) queue ∙ ap (λ i. number_of (buffer_of (queue_of s p.queue) i)) index

-- those back that were queued, and fresh ones behind all others
abbrev pub with_back : LocalState → List Held → List Held → List (Option Mem) → List (Option Mem)
with_back s back fresh home = put_back s back home ++ map (λ h. Some h.mem) fresh

-- it is in its place
put_there : (s : LocalState) (ps : List Place) (hs : List Held) (home : List (Option Mem)) (m : ℕ) → AreMemories s ps hs → m < length home →
    IsThere s m (home_of home m) ⊎ (is_among s ps m ≡ true) → IsThere s m (home_of (put_back s hs home) m)
put_there s [] [] home m are within which = elim which as (λ _. IsThere s m (home_of home m)) [
  | inl is ↦ is
  | inr never ↦ absurd (false≢true never)
]
put_there s [] (h ∷ hs) home m are within which = absurd are
put_there s (p ∷ ps) [] home m are within which = absurd are
put_there s (p ∷ ps) (h ∷ hs) home m are within which =
    let k : ℕ = number_of (buffer_of (queue_of s h.queue) h.index) in
    let same : k ≡ number_at s p = held_number s p h are.0 are.1 in
    let next : List (Option Mem) = set home k (Some h.mem) in
    let now : IsThere s m (home_of next m) ⊎ (is_among s ps m ≡ true) = elim (cases_eq m k) as (λ _. IsThere s m (home_of next m) ⊎ (is_among s ps m ≡ true)) [
      | inl at ↦
          let P : ℕ → Type 0 = λ j. IsThere s j (home_of next j) in
          let Q : Option Mem → Type 0 = λ o. IsThere s k o in
          let here : IsMemory s k h.mem = subst (λ j. IsMemory s j h.mem) (sym same) are.2 in
          inl (subst P (sym at) (subst Q (sym (get_or-set_same home k (Some h.mem) None (omega (arith, within, at)))) here))
      | inr apart ↦ elim which as (λ _. IsThere s m (home_of next m) ⊎ (is_among s ps m ≡ true)) [
        | inl is ↦ inl (subst (λ o. IsThere s m o) (sym (get_or-set_other home k m (Some h.mem) None apart)) is)
        | inr among ↦ elim (or_cases (number_at s p == m) (is_among s ps m) among) as (λ _. IsThere s m (home_of next m) ⊎ (is_among s ps m ≡ true)) [
          | inl here ↦ absurd (apart (sym (same ∙ eqb-true (number_at s p) m here)))
          | inr rest ↦ inr rest
        ]
      ]
    ] in
    put_there s ps hs next m are.3 (omega (arith, within, length-set home k (Some h.mem))) now

-- and the places of others are as they were
put_other : (s : LocalState) (ps : List Place) (hs : List Held) (home : List (Option Mem)) (m : ℕ) → AreMemories s ps hs → is_among s ps m ≡ false →
    home_of (put_back s hs home) m ≡ home_of home m
put_other s [] [] home m are none = refl
put_other s [] (h ∷ hs) home m are none = absurd are
put_other s (p ∷ ps) [] home m are none = absurd are
put_other s (p ∷ ps) (h ∷ hs) home m are none =
    let k : ℕ = number_of (buffer_of (queue_of s h.queue) h.index) in
    let same : k ≡ number_at s p = held_number s p h are.0 are.1 in
    let both : ((number_at s p == m) ≡ false) × (is_among s ps m ≡ false) = or_none (number_at s p == m) (is_among s ps m) none in
    let apart : m ≢ k = λ at. eqb-false (number_at s p) m both.0 (sym (at ∙ same)) in
    put_other s ps hs (set home k (Some h.mem)) m are.3 both.1 ∙ get_or-set_other home k m (Some h.mem) None apart

-- ---- the queues that are stopped

-- All buffers of a queue are Idle, of which none was owed; those that were queued are among those that come back.
pub record StopsAt (s t : LocalState) (ps : List Place) (p : ℕ) : Type 0 where
  pub idle : (i : ℕ) → is_idle (buffer_at t.queues p i).state ≡ true
  pub settled : (i : ℕ) → (buffer_at s.queues p i).state ≡ Owed → ⊥
  pub listed : (i m : ℕ) → (buffer_at s.queues p i).state ≡ Queued → HasAt s.queues p i m → is_among s ps m ≡ true

-- The buffers have no old memories that they didn't have, and no more of them are in use.
pub record HasNoOther (s t : LocalState) : Type 0 where
  pub less : (p i m : ℕ) → m < length s.memories → HasAt t.queues p i m →
      HasAt s.queues p i m × (kind_at t.queues p ≡ kind_at s.queues p)
      × (is_idle (buffer_at t.queues p i).state ≡ false → is_idle (buffer_at s.queues p i).state ≡ false)
  pub opened : t.opened ≡ true → s.opened ≡ true
  pub bound : t.bound ≡ s.bound

-- Each queue is stopped or as it was, and what comes back was queued on one that is stopped.
pub record StopsTo (s t : LocalState) (ps : List Place) : Type 0 where
  pub queues : (p : ℕ) → (get_or t.queues p opening_queue ≡ get_or s.queues p opening_queue) ⊎ StopsAt s t ps p
  pub among : (m : ℕ) → is_among s ps m ≡ true → (p : ℕ) × (i : ℕ) × StopsAt s t ps p × HasAt s.queues p i m × ((buffer_at s.queues p i).state ≡ Queued)
  pub old : HasNoOther s t
  pub bytes : (m : ℕ) → m < length s.memories → bytes_of t m ≡ bytes_of s m

-- a buffer that is lent is Queued or Owed
away_is : (st : BufferState) → is_away st ≡ true → (st ≡ Queued) ⊎ (st ≡ Owed)
away_is Idle away = absurd (false≢true away)
away_is Queued away = inl refl
away_is Owed away = inr refl
away_is AsDone away = absurd (false≢true away)

idle_near : (st : BufferState) → is_idle st ≡ true → is_away st ≡ true → ⊥
idle_near st idle away = true≢false (sym idle ∙ away_busy st away)

-- a memory that is lent afterwards is that of a buffer of a queue that goes on
goes_on : (s t : LocalState) (ps : List Place) (m : ℕ) → StopsTo s t ps → is_lent t m ≡ true →
    (p : ℕ) × (i : ℕ) × (get_or t.queues p opening_queue ≡ get_or s.queues p opening_queue) × HasAt s.queues p i m × (is_away (buffer_at s.queues p i).state ≡ true)
goes_on s t ps m stop lent =
    let w : _ = lent_at t m lent in
    elim (stop.queues w.0) as (λ _. (p : ℕ) × (i : ℕ) × (get_or t.queues p opening_queue ≡ get_or s.queues p opening_queue) × HasAt s.queues p i m × (is_away (buffer_at s.queues p i).state ≡ true)) [
      | inl same ↦ (w.0, w.1, same, ap (λ (q : QueueState). (buffer_of q w.1).memory) (sym same) ∙ w.2, ap (λ (q : QueueState). is_away (buffer_of q w.1).state) (sym same) ∙ w.3)
      | inr at ↦ absurd (idle_near (buffer_at t.queues w.0 w.1).state (at.idle w.1) w.3)
    ]

-- so it doesn't come back
not_among : (s t : LocalState) (ps : List Place) (m : ℕ) → OwnsAll s → StopsTo s t ps → is_lent t m ≡ true → is_among s ps m ≡ false
not_among s t ps m owns stop lent = elim (cases_Bool (is_among s ps m)) as (λ _. is_among s ps m ≡ false) [
  | inr not ↦ not
  | inl among ↦
      let w : _ = goes_on s t ps m stop lent in
      let v : _ = stop.among m among in
      let same : (v.0 ≡ w.0) × (v.1 ≡ w.1) =
      owns.busy v.0 v.1 w.0 w.1 m (ap is_idle v.4) (away_busy (buffer_at s.queues w.0 w.1).state w.4) v.3 w.3 in
      let idle : is_idle (buffer_at t.queues w.0 w.1).state ≡ true = subst (λ p. is_idle (buffer_at t.queues p w.1).state ≡ true) same.0 (v.2.idle w.1) in
      let away : is_away (buffer_at t.queues w.0 w.1).state ≡ true = ap (λ (q : QueueState). is_away (buffer_of q w.1).state) w.2 ∙ w.4 in
      absurd (idle_near (buffer_at t.queues w.0 w.1).state idle away)
]

-- a memory that was lent and is no more comes back
comes_back : (s t : LocalState) (ps : List Place) (m : ℕ) → StopsTo s t ps → is_lent s m ≡ true → is_lent t m ≡ false → is_among s ps m ≡ true
comes_back s t ps m stop lent unlent =
    let w : _ = lent_at s m lent in
    elim (stop.queues w.0) as (λ _. is_among s ps m ≡ true) [
      | inl same ↦
          let now : is_lent t m ≡ true = lent_from t w.0 w.1 m (ap (λ (q : QueueState). (buffer_of q w.1).memory) same ∙ w.2) (ap (λ (q : QueueState). is_away (buffer_of q w.1).state) same ∙ w.3) in
          absurd (true≢false (sym now ∙ unlent))
      | inr at ↦ elim (away_is (buffer_at s.queues w.0 w.1).state w.3) as (λ _. is_among s ps m ≡ true) [
        | inl queued ↦ at.listed w.1 m queued w.2
        | inr owed ↦ absurd (at.settled w.1 owed)
      ]
    ]

pub old_device : (s t : LocalState) (m : ℕ) → HasNoOther s t → m < length s.memories → is_of_device t m ≡ true → is_of_device s m ≡ true
old_device s t m old made device =
    let w : _ = device_at t m device in
    let v : _ = old.less w.0 w.1 m made w.2 in
    device_from s w.0 w.1 m v.0 (ap is_user_ptr (sym v.1) ∙ w.3)

pub old_kept : (s t : LocalState) (m : ℕ) → HasNoOther s t → m < length s.memories → is_kept t m ≡ true → is_kept s m ≡ true
old_kept s t m old made kept = elim (kept_cases t m kept) as (λ _. is_kept s m ≡ true) [
  | inl named ↦ named_kept s m (ap (λ bs. list_any (λ b. b.memory == m) bs) (sym old.bound) ∙ named)
  | inr rest ↦ elim rest.1 as (λ _. is_kept s m ≡ true) [
    | inl device ↦ device_kept s m (old.opened rest.0) (old_device s t m old made device)
    | inr used ↦
        let w : _ = used_at t m used in
        let v : _ = old.less w.0 w.1 m made w.2 in
        used_kept s m (old.opened rest.0) (used_from s w.0 w.1 m v.0 (v.2 w.3))
  ]
]

-- The memories are in their places, the old ones and those that were made anew.
pub stopped_home : (s t : LocalState) (ps : List Place) (back fresh : List Held) (home : List (Option Mem)) → Facts s → StopsTo s t ps → AreMemories s ps back →
    length (with_back s back fresh home) ≡ length t.memories →
    ((m : ℕ) → length s.memories ≤ m → is_kept t m ≡ true → IsThere t m (home_of (with_back s back fresh home) m)) →
    AreInPlace s None home → AreInPlace t None (with_back s back fresh home)
stopped_home s t ps back fresh home f stop are long new h =
    let put : List (Option Mem) = put_back s back home in
    let grown : List (Option Mem) = with_back s back fresh home in
    let size : length put ≡ length s.memories = put_long s back home ∙ h.places in
    let old : (m : ℕ) → m < length s.memories → home_of grown m ≡ home_of put m = λ m within.
    get_or_append_left put (map (λ (x : Held). Some x.mem) fresh) None m (omega (arith, within, size)) in
    in_places t None grown long
    (λ m out.
    let lent : is_lent t m ≡ true = sym (or_bare (is_lent t m)) ∙ out in
    let w : _ = goes_on s t ps m stop lent in
    let was : is_out s None m ≡ true = or_left (is_lent s m) false (lent_from s w.0 w.1 m w.3 w.4) in
    old m (number_made s f.sound w.0 w.1 m w.3)
    ∙ (put_other s ps back home m are (not_among s t ps m f.owns stop lent) ∙ out_away s None home m h was))
    (λ m out kept. elim (cases_lt m (length s.memories)) as (λ _. IsThere t m (home_of grown m)) [
      | inr past ↦ new m past kept
      | inl within ↦
          let was : is_kept s m ≡ true = old_kept s t m stop.old within kept in
          let unlent : is_lent t m ≡ false = (not_out t None m out).0 in
          let which : IsThere s m (home_of home m) ⊎ (is_among s ps m ≡ true) = elim (cases_Bool (is_lent s m)) as (λ _. IsThere s m (home_of home m) ⊎ (is_among s ps m ≡ true)) [
            | inl lent ↦ inr (comes_back s t ps m stop lent unlent)
            | inr not ↦ inl (kept_there s None home m h (ap (λ b. b || false) not) was)
          ] in
          let there : IsThere s m (home_of put m) = put_there s ps back home m are (omega (arith, within, h.places)) which in
          let P : Option Mem → Type 0 = λ o. IsThere t m o in
          subst P (sym (old m within)) (same_there s t m (home_of put m) (stop.bytes m within) (old_device s t m stop.old within) there)
    ])

-- ---- the buffers that were queued

-- those of a list of indices, of which all are queued
queued_number : (s : LocalState) (t m : ℕ) (xs : List ℕ) → All (IsInState Queued (queue_of s t)) xs → is_among s (places_on t xs) m ≡ true →
    (i : ℕ) × ((buffer_of (queue_of s t) i).state ≡ Queued) × (number_of (buffer_of (queue_of s t) i) ≡ m)
queued_number s t m [] all among = absurd (false≢true among)
queued_number s t m (x ∷ xs) all among =
    elim (or_cases (number_of (buffer_of (queue_of s t) x) == m) (is_among s (places_on t xs) m) among) as (λ _. (i : ℕ) × ((buffer_of (queue_of s t) i).state ≡ Queued) × (number_of (buffer_of (queue_of s t) i) ≡ m)) [
      | inl here ↦ (x, (All-head (IsInState Queued (queue_of s t)) x xs all).1, eqb-true (number_of (buffer_of (queue_of s t) x)) m here)
      | inr rest ↦ queued_number s t m xs (All-tail (IsInState Queued (queue_of s t)) x xs all) rest
    ]

number_queued : (s : LocalState) (t i m : ℕ) (xs : List ℕ) → 1 ≤ times xs i → number_of (buffer_of (queue_of s t) i) ≡ m → is_among s (places_on t xs) m ≡ true
number_queued s t i m [] some is = absurd (omega (arith, some))
number_queued s t i m (x ∷ xs) some is =
    let here : Bool = number_of (buffer_of (queue_of s t) x) == m in
    elim (cases_Bool (x == i)) as (λ _. (here || is_among s (places_on t xs) m) ≡ true) [
      | inl at ↦ or_left here (is_among s (places_on t xs) m)
          (eq-eqb (number_of (buffer_of (queue_of s t) x)) m (ap (λ j. number_of (buffer_of (queue_of s t) j)) (eqb-true x i at) ∙ is))
      | inr apart ↦
          let none : once (x == i) ≡ 0 = ap once apart in
          or_right here (is_among s (places_on t xs) m) (number_queued s t i m xs (omega (arith, some, times_cons x xs i, none)) is)
    ]

-- a buffer that is queued has its memory among those of its queue
pub queued_among : (s : LocalState) (t i m : ℕ) → IsSound s → (buffer_of (queue_of s t) i).state ≡ Queued → (buffer_of (queue_of s t) i).memory ≡ Some m →
    is_among s (queued_on s t) m ≡ true
queued_among s t i m sound queued has =
    let once_there : times (queue_of s t).queued i ≡ 1 = (sound.listed t i).0 ∙ ap (λ st. once (is_queued st)) queued in
    number_queued s t i m (queue_of s t).queued (omega (arith, once_there)) (ap (λ o. unwrap_or o 0) has)

pub among_queued : (s : LocalState) (t m : ℕ) → Facts s → is_among s (queued_on s t) m ≡ true →
    (i : ℕ) × HasAt s.queues (place_in (types_of s.model) t) i m × ((buffer_of (queue_of s t) i).state ≡ Queued)
among_queued s t m f among =
    let w : (i : ℕ) × ((buffer_of (queue_of s t) i).state ≡ Queued) × (number_of (buffer_of (queue_of s t) i) ≡ m) =
    queued_number s t m (queue_of s t).queued (f.sound.there.0 t).0 among in
    let v : (k : ℕ) × HasAt s.queues (place_in (types_of s.model) t) w.0 k = f.owns.has (place_in (types_of s.model) t) w.0 (ap is_idle w.1) in
    let is : v.0 ≡ m = sym (ap (λ o. unwrap_or o 0) v.1) ∙ w.2 in
    (w.0, v.1 ∙ ap (λ k. Some k) is, w.1)

-- nothing is owed of a queue, and so none of its buffers
none_owed : (owed : List OwedEntry) (t i : ℕ) → list_any (λ o. o.queue == t) owed ≡ false → times_owed owed t i ≡ 0
none_owed [] t i none = refl
none_owed (o ∷ owed) t i none =
    let both : ((o.queue == t) ≡ false) × (list_any (λ o. o.queue == t) owed ≡ false) = or_none (o.queue == t) (list_any (λ o. o.queue == t) owed) none in
    omega (arith, owed_cons o owed t i, never_at o.queue t (is_index o.item i) both.0, none_owed owed t i both.1)

pub not_owed : (s : LocalState) (t i : ℕ) → IsSound s → is_owed s t ≡ false → (buffer_of (queue_of s t) i).state ≡ Owed → ⊥
not_owed s t i sound settled owed =
    let one : times_owed s.owed t i ≡ 1 = (sound.listed t i).1 ∙ ap (λ st. once (is_with_device st)) owed in
    absurd (omega (arith, one, none_owed s.owed t i settled))

-- ---- one queue is stopped

-- Another queue stands in its place, with buffers that are all Idle and have no old memories but those that they had.
pub record StopsOne (s t : LocalState) (u : ℕ) (v : QueueState) : Type 0 where
  pub within : place_in (types_of s.model) u < length s.queues
  pub queues : t.queues ≡ set s.queues (place_in (types_of s.model) u) v
  pub idle : (i : ℕ) → is_idle (buffer_of v i).state ≡ true
  pub old : (i m : ℕ) → m < length s.memories → (buffer_of v i).memory ≡ Some m →
      ((buffer_of (queue_of s u) i).memory ≡ Some m) × (v.memory ≡ (queue_of s u).memory)
  pub opened : t.opened ≡ s.opened
  pub bound : t.bound ≡ s.bound
  pub bytes : (m : ℕ) → m < length s.memories → bytes_of t m ≡ bytes_of s m

stops_put : (s t : LocalState) (u : ℕ) (v : QueueState) → StopsOne s t u v → (k : ℕ) →
    ((k ≡ place_in (types_of s.model) u) × (get_or t.queues k opening_queue ≡ v))
    ⊎ ((k ≢ place_in (types_of s.model) u) × (get_or t.queues k opening_queue ≡ get_or s.queues k opening_queue))
stops_put s t u v one k =
    let p : ℕ = place_in (types_of s.model) u in
    subst (λ qs. ((k ≡ p) × (get_or qs k opening_queue ≡ v)) ⊎ ((k ≢ p) × (get_or qs k opening_queue ≡ get_or s.queues k opening_queue)))
    (sym one.queues) (put_at s.queues p v one.within k)

pub one_old : (s t : LocalState) (u : ℕ) (v : QueueState) → StopsOne s t u v → HasNoOther s t
one_old s t u v one = record {
  less = λ k i m made has. elim (stops_put s t u v one k) as (λ _. HasAt s.queues k i m × (kind_at t.queues k ≡ kind_at s.queues k)
      × (is_idle (buffer_at t.queues k i).state ≡ false → is_idle (buffer_at s.queues k i).state ≡ false)) [
        | inl is ↦
            let w : ((buffer_of (queue_of s u) i).memory ≡ Some m) × (v.memory ≡ (queue_of s u).memory) =
            one.old i m made (ap (λ (q : QueueState). (buffer_of q i).memory) (sym is.1) ∙ has) in
            let P : ℕ → Type 0 = λ n. HasAt s.queues n i m in
            let Q : ℕ → Type 0 = λ n. v.memory ≡ kind_at s.queues n in (
              subst P (sym is.0) w.0,
              ap (λ (q : QueueState). q.memory) is.1 ∙ subst Q (sym is.0) w.1,
              λ busy. absurd (true≢false (sym (one.idle i) ∙ (ap (λ (q : QueueState). is_idle (buffer_of q i).state) (sym is.1) ∙ busy))),
            )
        | inr other ↦ (
          ap (λ (q : QueueState). (buffer_of q i).memory) (sym other.1) ∙ has,
          ap (λ (q : QueueState). q.memory) other.1,
          λ busy. ap (λ (q : QueueState). is_idle (buffer_of q i).state) (sym other.1) ∙ busy,
        )
      ];
  opened = λ is. sym one.opened ∙ is;
  bound = one.bound;
}

pub stops_one : (s t : LocalState) (u : ℕ) (v : QueueState) → Facts s → StopsOne s t u v → is_owed s u ≡ false → StopsTo s t (queued_on s u ++ [])
stops_one s t u v f one settled =
    let p : ℕ = place_in (types_of s.model) u in
    let ps : List Place = queued_on s u ++ [] in
    let all : (m : ℕ) → is_among s ps m ≡ is_among s (queued_on s u) m = λ m.
    list_any-append (λ x. number_at s x == m) (queued_on s u) [] ∙ or_bare (is_among s (queued_on s u) m) in
    let here : get_or t.queues p opening_queue ≡ v = ap (λ qs. get_or qs p opening_queue) one.queues ∙ get_or-set_same s.queues p v opening_queue one.within in
    let at : StopsAt s t ps p = record {
      idle = λ i. ap (λ (q : QueueState). is_idle (buffer_of q i).state) here ∙ one.idle i;
      settled = λ i. not_owed s u i f.sound settled;
      listed = λ i m queued has. all m ∙ queued_among s u i m f.sound queued has;
    } in
    record {
      queues = λ k. elim (stops_put s t u v one k) as (λ _. (get_or t.queues k opening_queue ≡ get_or s.queues k opening_queue) ⊎ StopsAt s t ps k) [
        | inl is ↦ inr (subst (StopsAt s t ps) (sym is.0) at)
        | inr other ↦ inl other.1
      ];
      among = λ m among. let w : _ = among_queued s u m f (sym (all m) ∙ among) in (p, w.0, at, w.1, w.2);
      old = one_old s t u v one;
      bytes = one.bytes;
    }
