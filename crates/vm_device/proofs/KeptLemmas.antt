-- The sessions by their ids, where one is kept, changed or closed.
use Rattle.std.proofs.Common.{rules, ◌⊎◌, ◌≡◌, ◌≢◌, ℕ, zero, suc, ◌+◌, ◌<◌, ◌≤◌, Option, Some, None, is_some, IsSome, List, [], ◌∷◌, ◌++◌, length, get_or, set, map, refl, sym, ap, ◌∙◌, arith, subst, inl, inr}
use Rattle.std.specs.Prelude.{OnSome, count_by}
use Rattle.std.proofs.lemmas.Bool.{cases_eq}
use Rattle.std.proofs.lemmas.List.{map-append, map-set, get_or-set_same, get_or-set_other}
use Rattle.std.proofs.lemmas.List.Sums.{sum_by-set, sum_by_push, sum_by-cons}
use Rattle.std.proofs.Math.ListN.{get_or-map}
use Rattle.slab.specs.Slab.{Slab, get, with_value, slab_len, Updates}
use Rattle.slab.proofs.SlabLemmas.{Updates-with_value}
use Rattle.vm_session.specs.State.{SessionState}
use Rattle.vm_device.specs.Sessions.{session_at, sessions_at, one_if_there, count_there, AreKept}

-- two functions that agree on each element map a list alike
map_alike : {A B : Type 0} (f g : A → B) (d : A) (xs : List A) → ((i : ℕ) → i < length xs → f (get_or xs i d) ≡ g (get_or xs i d)) → map f xs ≡ map g xs
map_alike f g d [] alike = refl
map_alike f g d (x ∷ xs) alike = let here : f x ≡ g x = alike 0 (omega arith) in
    let there : map f xs ≡ map g xs = map_alike f g d xs (λ i within. alike (suc i) (omega (arith, within))) in
    cc

-- two functions that agree on each element but one
map_but_one : {A B : Type 0} (f g : A → B) (d : A) (xs : List A) (at : ℕ) (y : B) → at < length xs → g (get_or xs at d) ≡ y
    → ((i : ℕ) → i < length xs → i ≢ at → g (get_or xs i d) ≡ f (get_or xs i d)) → map g xs ≡ set (map f xs) at y
map_but_one f g d [] at y within here others = absurd (omega (arith, within))
map_but_one f g d (x ∷ xs) zero y within here others =
    let rest : map g xs ≡ map f xs = map_alike g f d xs (λ i inside. others (suc i) (omega (arith, inside)) (λ same. absurd (omega (arith, same)))) in
    cc
map_but_one f g d (x ∷ xs) (suc at) y within here others =
    let first : g x ≡ f x = others 0 (omega arith) (λ same. absurd (omega (arith, same))) in
    let rest : map g xs ≡ set (map f xs) at y =
    map_but_one f g d xs at y (omega (arith, within)) here (λ i inside differs. others (suc i) (omega (arith, inside)) (λ same. differs (omega (arith, same)))) in
    cc

-- a key that is found has a place
found_within : (keys : List (Option ℕ)) (key id : ℕ) → get_or keys id None ≡ Some key → id < length keys
found_within [] key id stands = cc
found_within (k ∷ keys) key zero stands = omega arith
found_within (k ∷ keys) key (suc id) stands = omega (arith, found_within keys key id stands)

-- what the list of sessions has at the place of a key
pub found_at : (slab : Slab SessionState) (keys : List (Option ℕ)) (key id : ℕ) → get_or keys id None ≡ Some key → get_or (sessions_at slab keys) id None ≡ get slab key
found_at slab keys key id stands = get_or-map (session_at slab) keys id None ∙ ap (session_at slab) stands

pub none_at : (slab : Slab SessionState) (keys : List (Option ℕ)) (id : ℕ) → get_or keys id None ≡ None → get_or (sessions_at slab keys) id None ≡ None
none_at slab keys id stands = get_or-map (session_at slab) keys id None ∙ ap (session_at slab) stands

-- what the key of another place leads to stays
other_stays : (old new : Slab SessionState) (keys : List (Option ℕ)) (key id i : ℕ) (slot : Option SessionState)
    → AreKept old keys → get_or keys id None ≡ Some key → Updates old new key slot → i ≢ id
    → session_at new (get_or keys i None) ≡ session_at old (get_or keys i None)
other_stays old new keys key id i slot kept stands updates differs = by_key (get_or keys i None) refl
  where
    by_key : (o : Option ℕ) → get_or keys i None ≡ o → session_at new o ≡ session_at old o
    by_key None at = refl
    by_key (Some k) at = updates.others k (λ same. differs (kept.apart i id key (at ∙ ap Some same) stands))

-- ---- a session changes

pub changed : (old new : Slab SessionState) (keys : List (Option ℕ)) (key id : ℕ) (s : SessionState)
    → AreKept old keys → get_or keys id None ≡ Some key → Updates old new key (Some s)
    → sessions_at new keys ≡ set (sessions_at old keys) id (Some s)
changed old new keys key id s kept stands updates =
    map_but_one (session_at old) (session_at new) None keys id (Some s) (found_within keys key id stands)
    (ap (session_at new) stands ∙ updates.changed)
    (λ i inside differs. other_stays old new keys key id i (Some s) kept stands updates differs)

pub lent : (slab : Slab SessionState) (keys : List (Option ℕ)) (key id : ℕ) (s : SessionState)
    → AreKept slab keys → get_or keys id None ≡ Some key
    → sessions_at (with_value slab key s) keys ≡ set (sessions_at slab keys) id (Some s)
lent slab keys key id s kept stands =
    changed slab (with_value slab key s) keys key id s kept stands (Updates-with_value slab key s (kept.leads id key stands))

-- ---- a session is closed

pub closed : (old new : Slab SessionState) (keys : List (Option ℕ)) (key id : ℕ)
    → AreKept old keys → get_or keys id None ≡ Some key → Updates old new key None
    → sessions_at new (set keys id None) ≡ set (sessions_at old keys) id None
closed old new keys key id kept stands updates =
    let within : id < length keys = found_within keys key id stands in
    map_alike (session_at new) (session_at old) None (set keys id None) alike ∙ map-set (session_at old) keys id None
  where
    alike : (i : ℕ) → i < length (set keys id None) → session_at new (get_or (set keys id None) i None) ≡ session_at old (get_or (set keys id None) i None)
    alike i inside = elim (cases_eq i id) [
      | inl same ↦
          let here : get_or (set keys id None) i None ≡ None = ap (λ j. get_or (set keys id None) j None) same ∙ get_or-set_same keys id None None (found_within keys key id stands) in
          ap (session_at new) here ∙ sym (ap (session_at old) here)
      | inr differs ↦
          let there : get_or (set keys id None) i None ≡ get_or keys i None = get_or-set_other keys id i None None differs in
          ap (session_at new) there ∙ other_stays old new keys key id i None kept stands updates differs ∙ sym (ap (session_at old) there)
    ]

-- what stands at a place of the keys without one of them
without : (keys : List (Option ℕ)) (id i key : ℕ) → id < length keys → get_or (set keys id None) i None ≡ Some key → (i ≢ id) × (get_or keys i None ≡ Some key)
without keys id i key within stands = elim (cases_eq i id) [
  | inl same ↦
      let none : get_or (set keys id None) i None ≡ None = ap (λ j. get_or (set keys id None) j None) same ∙ get_or-set_same keys id None None within in
      let never : None ≡ Some key = sym none ∙ stands in
      absurd cc
  | inr differs ↦ (differs, sym (get_or-set_other keys id i None None differs) ∙ stands)
]

pub closed_kept : (old new : Slab SessionState) (keys : List (Option ℕ)) (key id : ℕ) (removed : Option SessionState)
    → AreKept old keys → get_or keys id None ≡ Some key → Updates old new key None
    → removed ≡ get old key → OnSome removed (slab_len new + 1 ≡ slab_len old) → AreKept new (set keys id None)
closed_kept old new keys key id removed kept stands updates is less = record {
  leads = λ i k at.
      let before = without keys id i k within at in
      let P : Option SessionState → Type 0 = λ o. IsSome o in
      subst P (sym (updates.others k (λ same. before.0 (kept.apart i id key (before.1 ∙ ap Some same) stands)))) (kept.leads i k before.1);
  apart = λ i j k at there. kept.apart i j k (without keys id i k within at).1 (without keys id j k within there).1;
  count =
      let fewer : slab_len new + 1 ≡ slab_len old = fewer_by removed (subst (λ (o : Option SessionState). IsSome o) (sym is) (kept.leads id key stands)) less in
      let one : one_if_there (get_or keys id None) ≡ 1 = ap one_if_there stands in
      omega (arith, fewer, one, kept.count, sum_by-set one_if_there keys id None None within);
}
  where
    within : id < length keys
    within = found_within keys key id stands

    fewer_by : (o : Option SessionState) → IsSome o → OnSome o (slab_len new + 1 ≡ slab_len old) → slab_len new + 1 ≡ slab_len old
    fewer_by None there less = cc
    fewer_by (Some s) there less = less

-- ---- a session is opened

-- what stands at a place of the keys with one more
push_cases : (keys : List (Option ℕ)) (key i k : ℕ) → get_or (keys ++ Some key ∷ []) i None ≡ Some k
    → (get_or keys i None ≡ Some k) ⊎ ((i ≡ length keys) × (k ≡ key))
push_cases [] key zero k at = inr (refl, cc)
push_cases [] key (suc i) k at = cc
push_cases (o ∷ keys) key zero k at = inl at
push_cases (o ∷ keys) key (suc i) k at = elim (push_cases keys key i k at) [
  | inl before ↦ inl before
  | inr last ↦ inr (omega (arith, last.0), last.1)
]

pub opened : (old new : Slab SessionState) (keys : List (Option ℕ)) (key : ℕ) (s : SessionState)
    → AreKept old keys → get old key ≡ None → Updates old new key (Some s)
    → sessions_at new (keys ++ Some key ∷ []) ≡ sessions_at old keys ++ Some s ∷ []
opened old new keys key s kept vacant updates =
    let same : sessions_at new keys ≡ sessions_at old keys = map_alike (session_at new) (session_at old) None keys (λ i inside. stays (get_or keys i None) i refl) in
    map-append (session_at new) keys (Some key ∷ []) ∙ grind (arith, same, updates.changed)
  where
    stays : (o : Option ℕ) (i : ℕ) → get_or keys i None ≡ o → session_at new o ≡ session_at old o
    stays None i at = refl
    stays (Some k) i at = updates.others k (λ same. vacant_not k (kept.leads i k at) (ap (get old) same ∙ vacant))
      where
        vacant_not : (k : ℕ) → IsSome (get old k) → get old k ≡ None → ⊥
        vacant_not k there none =
            let P : Option SessionState → Type 0 = λ o. IsSome o in
            let gone : IsSome {T = SessionState} None = subst P none there in
            cc

pub opened_kept : (old new : Slab SessionState) (keys : List (Option ℕ)) (key : ℕ) (s : SessionState)
    → AreKept old keys → get old key ≡ None → Updates old new key (Some s) → slab_len new ≡ slab_len old + 1 → AreKept new (keys ++ Some key ∷ [])
opened_kept old new keys key s kept vacant updates more = record {
  leads = λ i k at. elim (push_cases keys key i k at) [
    | inl before ↦ subst P (sym (updates.others k (λ same. vacant_not k (kept.leads i k before) (ap (get old) same ∙ vacant)))) (kept.leads i k before)
    | inr last ↦ subst P (sym (ap (get new) last.1 ∙ updates.changed)) (search rules)
  ];
  apart = λ i j k at there. elim (push_cases keys key i k at) [
    | inl first ↦ elim (push_cases keys key j k there) [
      | inl second ↦ kept.apart i j k first second
      | inr last ↦ absurd (vacant_not k (kept.leads i k first) (ap (get old) last.1 ∙ vacant))
    ]
    | inr end ↦ elim (push_cases keys key j k there) [
      | inl second ↦ absurd (vacant_not k (kept.leads j k second) (ap (get old) end.1 ∙ vacant))
      | inr last ↦ end.0 ∙ sym last.0
    ]
  ];
  count = rw (sum_by_push one_if_there keys (Some key)) (omega (arith, more, kept.count));
}
  where
    P : Option SessionState → Type 0
    P o = IsSome o

    vacant_not : (k : ℕ) → IsSome (get old k) → get old k ≡ None → ⊥
    vacant_not k there none =
        let gone : IsSome {T = SessionState} None = subst P none there in
        cc

-- ---- how many are live

count_alike : (slab : Slab SessionState) (keys : List (Option ℕ)) → ((i k : ℕ) → get_or keys i None ≡ Some k → IsSome (get slab k))
    → count_there (sessions_at slab keys) ≡ count_there keys
count_alike slab [] leads = refl
count_alike slab (o ∷ keys) leads =
    let here : one_if_there (session_at slab o) ≡ one_if_there o = one_of o (leads 0) in
    omega (arith, here, count_alike slab keys (λ i k at. leads (suc i) k at), sum_by-cons one_if_there (session_at slab o) (sessions_at slab keys), sum_by-cons one_if_there o keys)
  where
    there : (x : Option SessionState) → IsSome x → one_if_there x ≡ 1
    there None is = cc
    there (Some s) is = refl

    one_of : (o : Option ℕ) → ((k : ℕ) → o ≡ Some k → IsSome (get slab k)) → one_if_there (session_at slab o) ≡ one_if_there o
    one_of None leads = refl
    one_of (Some k) leads = there (get slab k) (leads k refl)

pub live_count : (slab : Slab SessionState) (keys : List (Option ℕ)) → AreKept slab keys → count_there (sessions_at slab keys) ≡ slab_len slab
live_count slab keys kept = count_alike slab keys kept.leads ∙ sym kept.count

pub count_there-le : {A : Type 0} (xs : List (Option A)) → count_there xs ≤ length xs
count_there-le [] = omega arith
count_there-le (None ∷ xs) = omega (arith, count_there-le xs, sum_by-cons one_if_there None xs)
count_there-le (Some x ∷ xs) = omega (arith, count_there-le xs, sum_by-cons one_if_there (Some x) xs)

-- what isn't there may be taken away
pub set_none : {A : Type 0} (xs : List (Option A)) (id : ℕ) → get_or xs id None ≡ None → set xs id None ≡ xs
set_none [] id none = refl
set_none (x ∷ xs) zero none = cc
set_none (x ∷ xs) (suc id) none = ap (λ rest. x ∷ rest) (set_none xs id none)

-- where the slab keeps its values, the keys lead to them
pub same_kept : (old new : Slab SessionState) (keys : List (Option ℕ)) → new.slots ≡ old.slots → AreKept old keys → AreKept new keys
same_kept old new keys same kept = record {
  leads = λ i k at. subst (λ (slots : List (Option SessionState)). IsSome (get_or slots k None)) (sym same) (kept.leads i k at);
  apart = kept.apart;
  count = ap (count_by is_some) same ∙ kept.count;
}

pub same_sessions : (old new : Slab SessionState) (keys : List (Option ℕ)) → new.slots ≡ old.slots → sessions_at new keys ≡ sessions_at old keys
same_sessions old new keys same = map_alike (session_at new) (session_at old) None keys (λ i inside. at (get_or keys i None))
  where
    at : (o : Option ℕ) → session_at new o ≡ session_at old o
    at None = refl
    at (Some k) = ap (λ slots. get_or slots k None) same
