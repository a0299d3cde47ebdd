-- How often the queued buffers of a state have a memory: once where the memory is lent, else never.
use Rattle.std.proofs.Common.{◌≡◌, ◌⊎◌, inl, inr, ℕ, ◌+◌, ◌<◌, ◌≤◌, Bool, true, false, ◌||◌, ◌==◌, List, [], ◌∷◌, ◌++◌, Some, length, get_or, map, All, refl, sym, ap, ◌∙◌, subst, arith, unwrap_or}
use Rattle.std.specs.List.{list_any, flat_map}
use Rattle.std.proofs.lemmas.Bool.{false≢true, eqb-true, eq-eqb, or_cases, cases_Bool, cond-true, cond-false}
use Rattle.std.proofs.lemmas.List.{map-append, append-nil}
use Rattle.std.proofs.lemmas.List.Folds.{list_any-append, list_any_at}
use Rattle.v4l_const.specs.declared.model.Model.{Model}
use Rattle.v4l_const.specs.declared.model.Model.TheVariants.{Capture, Convert}
use Rattle.v4l_const.specs.declared.numbers.TheConstants.{BUF_TYPE_CAPTURE, BUF_TYPE_OUTPUT}
use Rattle.v4l_const.specs.Model.{queues as types_of}
use Rattle.v4l_rules.specs.Queues.{place_in}
use Rattle.vm_mem.specs.Lists.{occurrences}
use Rattle.vm_local.specs.declared.buffer.BufferState.{BufferState}
use Rattle.vm_local.specs.declared.buffer.BufferState.TheVariants.{Idle, Queued, Owed, Done as AsDone}
use Rattle.vm_local.specs.State.{LocalState, opening_queue, queue_of, buffer_of}
use Rattle.vm_local.specs.Kinds.{is_idle, is_away}
use Rattle.vm_local.specs.Listed.{times, once, is_queued}
use Rattle.vm_local.specs.Memory.{is_lent}
use Rattle.vm_local.specs.Queue.{is_owed}
use Rattle.vm_local.proofs.CountLemmas.{times_cons, within_of}
use Rattle.vm_home.specs.Moves.{Place, places_on, queued_on, memory_at}
use Rattle.vm_home.specs.Reached.{IsReached}
use Rattle.vm_home.proofs.PlaceLemmas.{any_at, same_test, buffer_at, HasAt, lent_at, lent_from, away_busy}
use Rattle.vm_home.proofs.RowLemmas.{type_at, has_queue}
use Rattle.vm_home.proofs.StillLemmas.{or_none}
use Rattle.vm_home.proofs.FactLemmas.{Facts, facts_of, one_owner}
use Rattle.vm_home.proofs.StopLemmas.{number_at, is_among, queued_among, among_queued, not_owed}
use Rattle.vm_realm.proofs.PlaceLemmas.{joined}

-- ---- lists of numbers

-- none of a list's numbers is told as m
pub none_told : (f : ℕ → ℕ) (m : ℕ) (xs : List ℕ) → list_any (λ j. f j == m) xs ≡ false → occurrences m (map f xs) ≡ 0
none_told f m [] none = refl
none_told f m (x ∷ xs) none =
    let both : ((f x == m) ≡ false) × (list_any (λ j. f j == m) xs ≡ false) = or_none (f x == m) (list_any (λ j. f j == m) xs) none in
    cond-false (f x == m) (occurrences m (map f xs) + 1) (occurrences m (map f xs)) both.0 ∙ none_told f m xs both.1

any_told : (f : ℕ → ℕ) (m : ℕ) (xs : List ℕ) → list_any (λ j. f j == m) xs ≡ true → (j : ℕ) × (1 ≤ times xs j) × (f j ≡ m)
any_told f m [] some = absurd (false≢true some)
any_told f m (x ∷ xs) some = elim (or_cases (f x == m) (list_any (λ j. f j == m) xs) some) as (λ _. (j : ℕ) × (1 ≤ times (x ∷ xs) j) × (f j ≡ m)) [
  | inl here ↦
      let one : once (x == x) ≡ 1 = ap once (eq-eqb x x refl) in
      (x, omega (arith, times_cons x xs x, one), eqb-true (f x) m here)
  | inr rest ↦
      let w : (j : ℕ) × (1 ≤ times xs j) × (f j ≡ m) = any_told f m xs rest in
      (w.0, omega (arith, times_cons x xs w.0, w.1), w.2)
]

-- each number is there once at most, and one of them at most is told as m
once_told : (f : ℕ → ℕ) (m : ℕ) (xs : List ℕ) → ((j : ℕ) → times xs j ≤ 1) →
    ((j k : ℕ) → 1 ≤ times xs j → 1 ≤ times xs k → f j ≡ m → f k ≡ m → j ≡ k) → occurrences m (map f xs) ≡ once (list_any (λ j. f j == m) xs)
once_told f m [] few same = refl
once_told f m (x ∷ xs) few same =
    let more : (j : ℕ) → times xs j ≤ times (x ∷ xs) j = λ j. omega (arith, times_cons x xs j) in
    let all : Bool = list_any (λ j. f j == m) xs in
    let rest : occurrences m (map f xs) ≡ once all =
    once_told f m xs (λ j. omega (arith, more j, few j)) (λ j k at_j at_k. same j k (omega (arith, at_j, more j)) (omega (arith, at_k, more k))) in
    elim (cases_Bool (f x == m)) as (λ _. occurrences m (map f (x ∷ xs)) ≡ once ((f x == m) || all)) [
      | inr not ↦ cond-false (f x == m) (occurrences m (map f xs) + 1) (occurrences m (map f xs)) not ∙ (rest ∙ ap (λ b. once (b || all)) (sym not))
      | inl is ↦
          let none : all ≡ false = elim (cases_Bool all) as (λ _. all ≡ false) [
            | inr not ↦ not
            | inl some ↦
                let w : (j : ℕ) × (1 ≤ times xs j) × (f j ≡ m) = any_told f m xs some in
                let one : once (x == x) ≡ 1 = ap once (eq-eqb x x refl) in
                let first : 1 ≤ times (x ∷ xs) x = omega (arith, times_cons x xs x, one) in
                let equal : x ≡ w.0 = same x w.0 first (omega (arith, w.1, more w.0)) (eqb-true (f x) m is) w.2 in
                let again : 1 ≤ times xs x = subst (λ j. 1 ≤ times xs j) (sym equal) w.1 in
                absurd (omega (arith, times_cons x xs x, one, again, few x))
          ] in
          cond-true (f x == m) (occurrences m (map f xs) + 1) (occurrences m (map f xs)) is
          ∙ (ap (λ n. n + 1) (none_told f m xs none) ∙ ap (λ b. once (b || all)) (sym is))
    ]

pub once_most : (b : Bool) → once b ≤ 1
once_most true = omega arith
once_most false = omega arith

-- ---- the buffers that are queued on one queue

pub places_numbers : (s : LocalState) (t : ℕ) (xs : List ℕ) → map (number_at s) (places_on t xs) ≡ map (memory_at s t) xs
places_numbers s t [] = refl
places_numbers s t (x ∷ xs) = ap (λ ns. memory_at s t x ∷ ns) (places_numbers s t xs)

places_among : (s : LocalState) (t m : ℕ) (xs : List ℕ) → is_among s (places_on t xs) m ≡ list_any (λ j. memory_at s t j == m) xs
places_among s t m [] = refl
places_among s t m (x ∷ xs) = ap (λ b. (memory_at s t x == m) || b) (places_among s t m xs)

queued_busy : (st : BufferState) → is_queued st ≡ true → is_idle st ≡ false
queued_busy Idle is = absurd (false≢true is)
queued_busy Queued is = refl
queued_busy Owed is = refl
queued_busy AsDone is = refl

once_some : (b : Bool) → 1 ≤ once b → b ≡ true
once_some true some = refl
once_some false some = absurd (omega (arith, some))

-- one that is queued has the memory that it is told to have
queued_has : (s : LocalState) (t j m : ℕ) → Facts s → 1 ≤ times (queue_of s t).queued j → memory_at s t j ≡ m →
    (is_idle (buffer_of (queue_of s t) j).state ≡ false) × HasAt s.queues (place_in (types_of s.model) t) j m
queued_has s t j m f there told =
    let st : BufferState = (buffer_of (queue_of s t) j).state in
    let busy : is_idle st ≡ false = queued_busy st (once_some (is_queued st) (omega (arith, there, (f.sound.listed t j).0))) in
    let v : (k : ℕ) × HasAt s.queues (place_in (types_of s.model) t) j k = f.owns.has (place_in (types_of s.model) t) j busy in
    let is : v.0 ≡ m = sym (ap (λ o. unwrap_or o 0) v.1) ∙ told in
    (busy, v.1 ∙ ap (λ k. Some k) is)

pub on_queue : (s : LocalState) (t m : ℕ) → IsReached s → occurrences m (map (number_at s) (queued_on s t)) ≡ once (is_among s (queued_on s t) m)
on_queue s t m reached =
    let f : Facts s = facts_of s reached in
    let xs : List ℕ = (queue_of s t).queued in
    ap (occurrences m) (places_numbers s t xs)
    ∙ (once_told (memory_at s t) m xs
    (λ j. omega (arith, (f.sound.listed t j).0, once_most (is_queued (buffer_of (queue_of s t) j).state)))
    (λ j k at_j at_k is_j is_k.
    let a : _ = queued_has s t j m f at_j is_j in
    let b : _ = queued_has s t k m f at_k is_k in
    ((one_owner s reached).busy t j t k m a.0 b.0 a.1 b.1).1)
    ∙ ap once (sym (places_among s t m xs)))

-- ---- and on all

-- one memory isn't on two queues
apart_on : (s : LocalState) (t u m : ℕ) → IsReached s → is_among s (queued_on s t) m ≡ true → is_among s (queued_on s u) m ≡ true → t ≡ u
apart_on s t u m reached one two =
    let f : Facts s = facts_of s reached in
    let a : _ = among_queued s t m f one in
    let b : _ = among_queued s u m f two in
    ((one_owner s reached).busy t a.0 u b.0 m (ap is_idle a.2) (ap is_idle b.2) a.1 b.1).0

once_either : (a b : Bool) → (a ≡ true → b ≡ true → ⊥) → once a + once b ≡ once (a || b)
once_either true true apart = absurd (apart refl refl)
once_either true false apart = refl
once_either false b apart = omega arith

pub one_type : (s : LocalState) (t m : ℕ) → IsReached s → occurrences m (map (number_at s) (queued_on s t ++ [])) ≡ once (is_among s (queued_on s t ++ []) m)
one_type s t m reached =
    ap (λ ps. occurrences m (map (number_at s) ps)) (append-nil (queued_on s t)) ∙ (on_queue s t m reached ∙ ap (λ ps. once (is_among s ps m)) (sym (append-nil (queued_on s t))))

two_types : (s : LocalState) (t u m : ℕ) → IsReached s → (t ≡ u → ⊥) →
    occurrences m (map (number_at s) (queued_on s t ++ (queued_on s u ++ []))) ≡ once (is_among s (queued_on s t ++ (queued_on s u ++ [])) m)
two_types s t u m reached apart =
    let ps : List Place = queued_on s t in
    let qs : List Place = queued_on s u ++ [] in
    let split : is_among s (ps ++ qs) m ≡ (is_among s ps m || is_among s qs m) = list_any-append (λ p. number_at s p == m) ps qs in
    let bare : is_among s qs m ≡ is_among s (queued_on s u) m = ap (λ ks. is_among s ks m) (append-nil (queued_on s u)) in
    ap (occurrences m) (map-append (number_at s) ps qs)
    ∙ (joined m (map (number_at s) ps) (map (number_at s) qs)
    ∙ ((λ i. on_queue s t m reached i + one_type s u m reached i)
    ∙ (once_either (is_among s ps m) (is_among s qs m) (λ one two. apart (apart_on s t u m reached one (sym bare ∙ two)))
    ∙ ap once (sym split))))

types_apart : BUF_TYPE_OUTPUT ≡ BUF_TYPE_CAPTURE → ⊥
types_apart same = omega (arith, same)

on_types_of : (s : LocalState) (m : ℕ) (model : Model) → IsReached s → occurrences m (map (number_at s) (flat_map (queued_on s) (types_of model))) ≡ once (is_among s (flat_map (queued_on s) (types_of model)) m)
on_types_of s m Capture reached = one_type s BUF_TYPE_CAPTURE m reached
on_types_of s m Convert reached = two_types s BUF_TYPE_OUTPUT BUF_TYPE_CAPTURE m reached types_apart

pub on_types : (s : LocalState) (m : ℕ) → IsReached s → occurrences m (map (number_at s) (flat_map (queued_on s) (types_of s.model))) ≡ once (is_among s (flat_map (queued_on s) (types_of s.model)) m)
on_types s m reached = on_types_of s m s.model reached

-- ---- where nothing is owed

pub away_is : (st : BufferState) → is_away st ≡ true → (st ≡ Queued) ⊎ (st ≡ Owed)
away_is Idle away = absurd (false≢true away)
away_is Queued away = inl refl
away_is Owed away = inr refl
away_is AsDone away = absurd (false≢true away)

any_flat : {A B : Type 0} (test : B → Bool) (g : A → List B) (xs : List A) → list_any test (flat_map g xs) ≡ list_any (λ x. list_any test (g x)) xs
any_flat test g [] = refl
any_flat test g (x ∷ xs) = list_any-append test (g x) (flat_map g xs) ∙ ap (λ b. list_any test (g x) || b) (any_flat test g xs)

-- of no queue anything is owed: the memories that are lent are those of the queued buffers
pub lent_queued : (s : LocalState) (m : ℕ) → IsReached s → All (λ t. is_owed s t ≡ false) (types_of s.model) → is_lent s m ≡ is_among s (flat_map (queued_on s) (types_of s.model)) m
lent_queued s m reached settled = same_test (is_lent s m) (is_among s ps m) to from
  where
    f : Facts s
    f = facts_of s reached

    types : List ℕ
    types = types_of s.model

    ps : List Place
    ps = flat_map (queued_on s) types

    all : is_among s ps m ≡ list_any (λ u. is_among s (queued_on s u) m) types
    all = any_flat (λ p. number_at s p == m) (queued_on s) types

    to : is_lent s m ≡ true → is_among s ps m ≡ true
    to lent =
        let w : _ = lent_at s m lent in
        let p : ℕ = w.0 in
        let i : ℕ = w.1 in
        let busy : is_idle (buffer_at s.queues p i).state ≡ false = away_busy (buffer_at s.queues p i).state w.3 in
        let within : p < length types = omega (arith, f.sound.long, has_queue s.queues p i (within_of (get_or s.queues p opening_queue).buffers i busy)) in
        let t : ℕ = get_or types p 0 in
        let place : place_in types t ≡ p = type_at s.model p within in
        let Q : ℕ → Type 0 = λ k. HasAt s.queues k i m in
        elim (away_is (buffer_at s.queues p i).state w.3) as (λ _. is_among s ps m ≡ true) [
          | inl queued ↦
              let P : ℕ → Type 0 = λ k. (buffer_at s.queues k i).state ≡ Queued in
              let here : is_among s (queued_on s t) m ≡ true = queued_among s t i m f.sound (subst P (sym place) queued) (subst Q (sym place) w.2) in
              all ∙ list_any_at (λ u. is_among s (queued_on s u) m) types p 0 within here
          | inr owed ↦
              let P : ℕ → Type 0 = λ k. (buffer_at s.queues k i).state ≡ Owed in
              absurd (not_owed s t i f.sound (settled p 0 within) (subst P (sym place) owed))
        ]

    from : is_among s ps m ≡ true → is_lent s m ≡ true
    from among =
        let k : (k : ℕ) × (is_among s (queued_on s (get_or types k 0)) m ≡ true) = any_at (λ u. is_among s (queued_on s u) m) 0 types (sym all ∙ among) in
        let w : _ = among_queued s (get_or types k.0 0) m f k.1 in
        lent_from s (place_in types (get_or types k.0 0)) w.0 m w.1 (ap is_away w.2)

-- so they are counted
pub lent_count : (s : LocalState) (m : ℕ) → IsReached s → All (λ t. is_owed s t ≡ false) (types_of s.model) →
    occurrences m (map (number_at s) (flat_map (queued_on s) (types_of s.model))) ≡ once (is_lent s m)
lent_count s m reached settled = on_types s m reached ∙ ap once (sym (lent_queued s m reached settled))
