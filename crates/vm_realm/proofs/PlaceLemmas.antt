-- The memories that are with the driver: while no call crosses, those that the log lends to no queue, and no others; each is there once.
use Rattle.std.proofs.Common.{◌≡◌, ◌⊎◌, ℕ, zero, suc, ◌+◌, ◌<◌, Bool, true, false, List, [], ◌∷◌, ◌++◌, Option, Some, None, is_some, length, get_or, map, refl, sym, ap, ◌∙◌, subst, arith, inl, inr, eqb}
use Rattle.std.specs.Prelude.{◌||◌, if◌then◌else◌}
use Rattle.std.specs.List.{Contains, filter_map}
use Rattle.std.proofs.lemmas.Bool.{false≢true, cases_lt, eq-eqb, eqb-true, ne_eqb, cond-true, cond-false}
use Rattle.std.proofs.lemmas.List.{length-map, get_or-map, get_or_past, map-append}
use Rattle.std.proofs.lemmas.List.Elements.{All-contains, Contains-append_left, Contains-append_right, Contains-append_cases}
use Rattle.vm_frame.specs.declared.mem.Mem.{Mem}
use Rattle.vm_marks.specs.Marks.{places_from, places_of as marked_places}
use Rattle.vm_mem.specs.Lists.{occurrences}
use Rattle.vm_local.specs.State.{LocalState}
use Rattle.vm_local.specs.Memory.{is_lent, is_just}
use Rattle.vm_home.specs.Home.{is_kept, home_of, is_out, IsThere, IsInPlace}
use Rattle.vm_home.specs.Moves.{touched}
use Rattle.vm_log.specs.LegalLog.{number_away}
use Rattle.vm_log.specs.declared.away.Away.{Away}
use Rattle.vm_log.specs.declared.away.Away.TheVariants.{Nothing, Sent, Lent}
use Rattle.vm_log.proofs.KeepLemmas.{apart_away}
use Rattle.vm_handle.specs.Handle.{FitsStage, id_of}
use Rattle.vm_handle.specs.declared.stage.Stage.{Stage}
use Rattle.vm_handle.specs.declared.stage.Stage.TheVariants.{AtRest, Underway, Waiting}
use Rattle.vm_wire.specs.declared.delivery.Delivery.{Delivery}
use Rattle.vm_session.specs.declared.unsent.Unsent.{Unsent}
use Rattle.vm_realm.specs.Inner.{Inner, driver_state, unsent_in}
use Rattle.vm_realm.specs.Places.{Spot, Lies, lie_at, lent_number, with_driver, places_of, numbers_in, call_numbers, told_state, queued_held, job_held, IsWithDriver, AgreesWithOwners}
use Rattle.vm_realm.specs.Places.Spot.{WithHandle, HeldBack, OnLink, InSession, InJob, InLease}
use Rattle.vm_realm.specs.Slice.{Slice}
use Rattle.vm_realm.specs.Slice.Out.{Nowhere}
use Rattle.vm_realm.specs.Sound.{IsSoundSlice, IsOut}
use Rattle.vm_realm.proofs.ListLemmas.{in_front, behind_first, contains_map, placed, all_placed}
use Rattle.vm_realm.proofs.SumLemmas.{place_within}

-- ---- lists of places

mapped_from : {A B : Type 0} (f : A → B) (xs : List A) (y : B) → Contains (map f xs) y → (x : A) × Contains xs x × (f x ≡ y)
mapped_from f [] y there = absurd (omega (arith, there.1))
mapped_from f (x ∷ xs) y (zero, within, is) = (x, in_front x xs, is)
mapped_from f (x ∷ xs) y (suc k, within, is) =
    let rest : _ = mapped_from f xs y (k, omega (arith, within), is) in
    (rest.0, behind_first x rest.0 xs rest.1, rest.2)

-- what lies at one spot lies at no other
abbrev pub at : Spot → ℕ → Lies
at spot m = record { spot = spot; number = m }

pub number_there : (spot : Spot) (ns : List ℕ) (m : ℕ) → Contains (lie_at spot ns) (at spot m) → Contains ns m
number_there spot ns m there =
    let from : _ = mapped_from (at spot) ns (at spot m) there in
    subst (Contains ns) (ap (λ (l : Lies). l.number) from.2) from.1

pub spot_there : (spot other : Spot) (ns : List ℕ) (m : ℕ) → Contains (lie_at spot ns) (at other m) → spot ≡ other
spot_there spot other ns m there = ap (λ (l : Lies). l.spot) (mapped_from (at spot) ns (at other m) there).2

-- a spot of the driver's is none of the others
with_handle_apart : (spot : Spot) → (spot ≡ HeldBack) ⊎ ((spot ≡ OnLink) ⊎ ((spot ≡ InSession) ⊎ (spot ≡ InJob))) → spot ≡ WithHandle → ⊥
with_handle_apart spot (inl is) same = cc
with_handle_apart spot (inr (inl is)) same = cc
with_handle_apart spot (inr (inr (inl is))) same = cc
with_handle_apart spot (inr (inr (inr is))) same = cc

in_lease_apart : (spot : Spot) → (spot ≡ HeldBack) ⊎ ((spot ≡ OnLink) ⊎ ((spot ≡ InSession) ⊎ (spot ≡ InJob))) → spot ≡ InLease → ⊥
in_lease_apart spot (inl is) same = cc
in_lease_apart spot (inr (inl is)) same = cc
in_lease_apart spot (inr (inr (inl is))) same = cc
in_lease_apart spot (inr (inr (inr is))) same = cc

not_both : WithHandle ≡ InLease → ⊥
not_both same = cc

-- what is at one of the driver's spots is in the driver's list
first_of_all : (x : Slice) (v : Inner) (mine : Spot) (m : ℕ) → ((spot : Spot) → (spot ≡ HeldBack) ⊎ ((spot ≡ OnLink) ⊎ ((spot ≡ InSession) ⊎ (spot ≡ InJob))) → spot ≡ mine → ⊥) →
    Contains (places_of x v) (at mine m) → Contains (with_driver x) (at mine m)
first_of_all x v mine m apart there =
    by_lists (call_numbers x.out x.handle.log.away v) (numbers_in (told_state v) (filter_map (λ (d : Delivery). d.held) x.held)) (numbers_in (told_state v) (filter_map (λ (d : Delivery). d.held) x.events))
    (numbers_in (told_state v) (filter_map (λ (e : Unsent). e.held) (unsent_in x.session))) (numbers_in v.ahead (queued_held x.session)) (numbers_in v.ahead (job_held x.job)) there
  where
    by_lists : (a b c d e f : List ℕ) → Contains (with_driver x ++ (lie_at OnLink a ++ (lie_at HeldBack b ++ (lie_at OnLink c ++ (lie_at InSession d ++ (lie_at InSession e ++ lie_at InJob f)))))) (at mine m) → Contains (with_driver x) (at mine m)
    by_lists a b c d e f there =
        elim (Contains-append_cases (with_driver x) (lie_at OnLink a ++ (lie_at HeldBack b ++ (lie_at OnLink c ++ (lie_at InSession d ++ (lie_at InSession e ++ lie_at InJob f))))) (at mine m) there) [
          | inl here ↦ here
          | inr past ↦ absurd (elim (Contains-append_cases (lie_at OnLink a) (lie_at HeldBack b ++ (lie_at OnLink c ++ (lie_at InSession d ++ (lie_at InSession e ++ lie_at InJob f)))) (at mine m) past) [
            | inl in_a ↦ apart OnLink (inr (inl refl)) (spot_there OnLink mine a m in_a)
            | inr past_a ↦ elim (Contains-append_cases (lie_at HeldBack b) (lie_at OnLink c ++ (lie_at InSession d ++ (lie_at InSession e ++ lie_at InJob f))) (at mine m) past_a) [
              | inl in_b ↦ apart HeldBack (inl refl) (spot_there HeldBack mine b m in_b)
              | inr past_b ↦ elim (Contains-append_cases (lie_at OnLink c) (lie_at InSession d ++ (lie_at InSession e ++ lie_at InJob f)) (at mine m) past_b) [
                | inl in_c ↦ apart OnLink (inr (inl refl)) (spot_there OnLink mine c m in_c)
                | inr past_c ↦ elim (Contains-append_cases (lie_at InSession d) (lie_at InSession e ++ lie_at InJob f) (at mine m) past_c) [
                  | inl in_d ↦ apart InSession (inr (inr (inl refl))) (spot_there InSession mine d m in_d)
                  | inr past_d ↦ elim (Contains-append_cases (lie_at InSession e) (lie_at InJob f) (at mine m) past_d) [
                    | inl in_e ↦ apart InSession (inr (inr (inl refl))) (spot_there InSession mine e m in_e)
                    | inr in_f ↦ apart InJob (inr (inr (inr refl))) (spot_there InJob mine f m in_f)
                  ]
                ]
              ]
            ]
          ])
        ]

-- ---- at home

pub home_marked : (home : List (Option Mem)) (m : ℕ) → is_some (home_of home m) ≡ true → Contains (marked_places (map is_some home)) m
home_marked home m some =
    let within : m < length home = place_within is_some home m None refl some in
    placed (map is_some home) m (get_or-map is_some home m None false within ∙ some)

pub marked_home : (home : List (Option Mem)) (m : ℕ) → Contains (marked_places (map is_some home)) m → is_some (home_of home m) ≡ true
marked_home home m there =
    let fs : List Bool = map is_some home in
    let P : ℕ → Type 0 = λ i. get_or fs i false ≡ true in
    let flag : get_or fs m false ≡ true = All-contains P (marked_places fs) m (all_placed P fs (λ i is. is)) there in
    let inside : m < length fs = place_within (λ b. b) fs m false refl flag in
    let within : m < length home = omega (arith, inside, length-map home is_some) in
    sym (get_or-map is_some home m None false within) ∙ flag

-- ---- what is out

lent_marked : (s : LocalState) (away : Away) (m : ℕ) → ((number : ℕ) → away ≡ Sent number → ⊥) → is_just (number_away s away) m ≡ true → Contains (lent_number s away) m
lent_marked s Nothing m never just = absurd (false≢true just)
lent_marked s (Sent number) m never just = absurd (never number refl)
lent_marked s (Lent entry) m never just = subst (Contains (touched s entry.call ∷ [])) (eqb-true (touched s entry.call) m just) (in_front (touched s entry.call) [])

one_alone : (k m : ℕ) → Contains (k ∷ []) m → k ≡ m
one_alone k m (zero, within, is) = is
one_alone k m (suc n, within, is) = absurd (omega (arith, within))

marked_lent : (s : LocalState) (away : Away) (m : ℕ) → Contains (lent_number s away) m → is_just (number_away s away) m ≡ true
marked_lent s Nothing m there = absurd (omega (arith, there.1))
marked_lent s (Sent number) m there = absurd (omega (arith, there.1))
marked_lent s (Lent entry) m there = eq-eqb (touched s entry.call) m (one_alone (touched s entry.call) m there)

-- no memory is out with a call where none crosses
pub sent_none : (session : ℕ) (s : LocalState) (away : Away) (unanswered : Bool) (stage : Stage) → FitsStage session s away unanswered stage → ((line : ℕ) (call : _) → stage ≡ Underway line call → ⊥) → (number : ℕ) → away ≡ Sent number → ⊥
sent_none session s away unanswered AtRest fits idle number is = subst (λ a. FitsStage session s a unanswered AtRest) is fits
sent_none session s away unanswered (Underway line call) fits idle number is = idle line call refl
sent_none session s away unanswered (Waiting line call) fits idle number is = not_nothing number (sym is ∙ fits.1)
  where
    not_nothing : (n : ℕ) → Sent n ≡ Nothing → ⊥
    not_nothing n same = cc

-- ---- both

there_some : (s : LocalState) (m : ℕ) (o : Option Mem) → IsThere s m o → is_some o ≡ true
there_some s m None there = absurd there
there_some s m (Some mem) there = refl

is_there : (x : Slice) (v : Inner) (m : ℕ) → IsSoundSlice x v → ((number : ℕ) → x.handle.log.away ≡ Sent number → ⊥) → is_kept (driver_state x) m ≡ true → is_lent (driver_state x) m ≡ false → (b : Bool) →
    is_just (number_away (driver_state x) x.handle.log.away) m ≡ b → IsWithDriver x v m
is_there x v m sound never kept free true just =
    let s : LocalState = driver_state x in
    let lies : Contains (with_driver x) (at InLease m) =
    Contains-append_right (lie_at WithHandle (marked_places (map is_some x.handle.log.home))) (lie_at InLease (lent_number s x.handle.log.away)) (at InLease m)
    (contains_map (at InLease) (lent_number s x.handle.log.away) m (lent_marked s x.handle.log.away m never just)) in
    inr (Contains-append_left (with_driver x) _ (at InLease m) lies)
is_there x v m sound never kept free false just =
    let s : LocalState = driver_state x in
    let home : List (Option Mem) = x.handle.log.home in
    let out : is_out s (number_away s x.handle.log.away) m ≡ false = ap (λ b. b || is_just (number_away s x.handle.log.away) m) free ∙ just in
    let place : IsInPlace false true s m (home_of home m) =
    subst (λ k. IsInPlace false k s m (home_of home m)) kept (subst (λ b. IsInPlace b (is_kept s m) s m (home_of home m)) out (sound.log.in_place.each m)) in
    let lies : Contains (with_driver x) (at WithHandle m) =
    Contains-append_left (lie_at WithHandle (marked_places (map is_some home))) (lie_at InLease (lent_number s x.handle.log.away)) (at WithHandle m)
    (contains_map (at WithHandle) (marked_places (map is_some home)) m (home_marked home m (there_some s m (home_of home m) place))) in
    inl (Contains-append_left (with_driver x) _ (at WithHandle m) lies)

-- one that is lent is at neither of the driver's spots
lent_away : (x : Slice) (v : Inner) (m : ℕ) → IsSoundSlice x v → is_lent (driver_state x) m ≡ true → IsWithDriver x v m → ⊥
lent_away x v m sound lent with_it =
    elim with_it [
      | inl at_home ↦ elim (Contains-append_cases (lie_at WithHandle (marked_places (map is_some home))) (lie_at InLease (lent_number s away)) (at WithHandle m) (first_of_all x v WithHandle m with_handle_apart at_home)) [
        | inl here ↦ absurd (false≢true (sym (ap is_some none) ∙ marked_home home m (number_there WithHandle (marked_places (map is_some home)) m here)))
        | inr out ↦ not_both (sym (spot_there InLease WithHandle (lent_number s away) m out))
      ]
      | inr in_lease ↦ elim (Contains-append_cases (lie_at WithHandle (marked_places (map is_some home))) (lie_at InLease (lent_number s away)) (at InLease m) (first_of_all x v InLease m in_lease_apart in_lease)) [
        | inl here ↦ not_both (spot_there WithHandle InLease (marked_places (map is_some home)) m here)
        | inr out ↦ absurd (false≢true (sym (apart_away s away x.handle.log.unanswered m sound.log.out lent) ∙ marked_lent s away m (number_there InLease (lent_number s away) m out)))
      ]
    ]
  where
    s : LocalState
    s = driver_state x

    home : List (Option Mem)
    home = x.handle.log.home

    away : Away
    away = x.handle.log.away

    none : home_of home m ≡ None
    none = subst (λ b. IsInPlace b (is_kept s m) s m (home_of home m)) (ap (λ b. b || is_just (number_away s away) m) lent) (sound.log.in_place.each m)

not_lent : (b : Bool) → (b ≡ true → ⊥) → b ≡ false
not_lent true never = absurd (never refl)
not_lent false never = refl

pub owners_agree : (x : Slice) (v : Inner) → IsSoundSlice x v → AgreesWithOwners x v
owners_agree x v sound nowhere m kept =
    let out : IsOut Nowhere x v = subst (λ o. IsOut o x v) nowhere sound.out in
    let never : (number : ℕ) → x.handle.log.away ≡ Sent number → ⊥ =
    sent_none (id_of x.handle.session) (driver_state x) x.handle.log.away x.handle.log.unanswered x.handle.stage sound.handle.fits (λ line call is. out.1 line call is) in (
      (λ free. is_there x v m sound never kept free (is_just (number_away (driver_state x) x.handle.log.away) m) refl),
      (λ with_it. not_lent (is_lent (driver_state x) m) (λ lent. lent_away x v m sound lent with_it)),
    )

-- ---- how often it is there

abbrev pub one_flag : Bool → ℕ
one_flag true = 1
one_flag false = 0

none_below : (n k : ℕ) (fs : List Bool) → k < n → occurrences k (places_from n fs) ≡ 0
none_below n k [] less = refl
none_below n k (true ∷ fs) less =
    let rest : List ℕ = places_from (n + 1) fs in
    cond-false (eqb n k) (occurrences k rest + 1) (occurrences k rest) (ne_eqb n k (λ same. omega (arith, less, same))) ∙ none_below (n + 1) k fs (omega (arith, less))
none_below n k (false ∷ fs) less = none_below (n + 1) k fs (omega (arith, less))

marked_from : (n : ℕ) (fs : List Bool) (m : ℕ) → occurrences (n + m) (places_from n fs) ≡ one_flag (get_or fs m false)
marked_from n [] m = refl
marked_from n (true ∷ fs) zero =
    let k : ℕ = n + 0 in
    let same : n ≡ n + 0 = omega arith in
    let rest : List ℕ = places_from (n + 1) fs in
    let none : occurrences k rest ≡ 0 = none_below (n + 1) k fs (omega arith) in
    cond-true (eqb n k) (occurrences k rest + 1) (occurrences k rest) (eq-eqb n k same) ∙ ap (λ j. j + 1) none
marked_from n (true ∷ fs) (suc m) =
    let k : ℕ = n + suc m in
    let next : n + suc m ≡ (n + 1) + m = omega arith in
    let rest : List ℕ = places_from (n + 1) fs in
    cond-false (eqb n k) (occurrences k rest + 1) (occurrences k rest) (ne_eqb n k (λ same. omega (arith, same))) ∙ (ap (λ j. occurrences j rest) next ∙ marked_from (n + 1) fs m)
marked_from n (false ∷ fs) zero = none_below (n + 1) (n + 0) fs (omega arith)
marked_from n (false ∷ fs) (suc m) =
    let next : n + suc m ≡ (n + 1) + m = omega arith in
    ap (λ j. occurrences j (places_from (n + 1) fs)) next ∙ marked_from (n + 1) fs m

marked_once : (fs : List Bool) (m : ℕ) → occurrences m (marked_places fs) ≡ one_flag (get_or fs m false)
marked_once fs m =
    let same : m ≡ 0 + m = omega arith in
    ap (λ k. occurrences k (marked_places fs)) same ∙ marked_from 0 fs m

one_more : (b : Bool) (k n j : ℕ) → (if b then (k + n) + 1 else (k + n)) ≡ (if b then k + 1 else k) + n
one_more true k n j = omega arith
one_more false k n j = refl

pub joined : (m : ℕ) (xs ys : List ℕ) → occurrences m (xs ++ ys) ≡ occurrences m xs + occurrences m ys
joined m [] ys = omega arith
joined m (x ∷ xs) ys = ap (λ k. if eqb x m then k + 1 else k) (joined m xs ys) ∙ one_more (eqb x m) (occurrences m xs) (occurrences m ys) 0

pub numbers_at : (spot : Spot) (ns : List ℕ) → map (λ (l : Lies). l.number) (lie_at spot ns) ≡ ns
numbers_at spot [] = refl
numbers_at spot (n ∷ ns) = ap (λ ks. n ∷ ks) (numbers_at spot ns)

-- the numbers of the memories that are with the driver
pub driver_numbers : (x : Slice) → map (λ (l : Lies). l.number) (with_driver x) ≡ marked_places (map is_some x.handle.log.home) ++ lent_number (driver_state x) x.handle.log.away
driver_numbers x =
    let home : List ℕ = marked_places (map is_some x.handle.log.home) in
    let out : List ℕ = lent_number (driver_state x) x.handle.log.away in
    map-append (λ (l : Lies). l.number) (lie_at WithHandle home) (lie_at InLease out) ∙ (λ j. numbers_at WithHandle home j ++ numbers_at InLease out j)

home_flag : (home : List (Option Mem)) (m : ℕ) → get_or (map is_some home) m false ≡ is_some (home_of home m)
home_flag home m = elim (cases_lt m (length home)) [
  | inl within ↦ get_or-map is_some home m None false within
  | inr past ↦ get_or_past (map is_some home) m false (omega (arith, past, length-map home is_some)) ∙ sym (ap is_some (get_or_past home m None past))
]

pub lent_zero : (s : LocalState) (away : Away) (m : ℕ) → is_just (number_away s away) m ≡ false → occurrences m (lent_number s away) ≡ 0
lent_zero s Nothing m just = refl
lent_zero s (Sent number) m just = refl
lent_zero s (Lent entry) m just = cond-false (eqb (touched s entry.call) m) (0 + 1) 0 just

pub lent_one : (s : LocalState) (away : Away) (m : ℕ) → (away ≡ Sent m → ⊥) → is_just (number_away s away) m ≡ true → occurrences m (lent_number s away) ≡ 1
lent_one s Nothing m never just = absurd (false≢true just)
lent_one s (Sent number) m never just = absurd (never (ap Sent (eqb-true number m just)))
lent_one s (Lent entry) m never just = cond-true (eqb (touched s entry.call) m) (0 + 1) 0 just

-- the count of a memory with the driver, by what is at home of it and what is out
pub in_parts : (x : Slice) (m : ℕ) → occurrences m (map (λ (l : Lies). l.number) (with_driver x)) ≡ one_flag (is_some (home_of x.handle.log.home m)) + occurrences m (lent_number (driver_state x) x.handle.log.away)
in_parts x m =
    let home : List ℕ = marked_places (map is_some x.handle.log.home) in
    let out : List ℕ = lent_number (driver_state x) x.handle.log.away in
    ap (occurrences m) (driver_numbers x) ∙ (joined m home out ∙ ap (λ k. k + occurrences m out) (marked_once (map is_some x.handle.log.home) m ∙ ap one_flag (home_flag x.handle.log.home m)))

once_by : (x : Slice) (v : Inner) (m : ℕ) (b : Bool) → IsSoundSlice x v → is_kept (driver_state x) m ≡ true → is_lent (driver_state x) m ≡ false → (x.handle.log.away ≡ Sent m → ⊥) →
    is_just (number_away (driver_state x) x.handle.log.away) m ≡ b → occurrences m (map (λ (l : Lies). l.number) (with_driver x)) ≡ 1
once_by x v m true sound kept free never just =
    let s : LocalState = driver_state x in
    let home : List (Option Mem) = x.handle.log.home in
    let out : is_out s (number_away s x.handle.log.away) m ≡ true = ap (λ b. b || is_just (number_away s x.handle.log.away) m) free ∙ just in
    let none : home_of home m ≡ None = subst (λ b. IsInPlace b (is_kept s m) s m (home_of home m)) out (sound.log.in_place.each m) in
    in_parts x m ∙ (λ j. one_flag (is_some (none j)) + lent_one s x.handle.log.away m never just j)
once_by x v m false sound kept free never just =
    let s : LocalState = driver_state x in
    let home : List (Option Mem) = x.handle.log.home in
    let out : is_out s (number_away s x.handle.log.away) m ≡ false = ap (λ b. b || is_just (number_away s x.handle.log.away) m) free ∙ just in
    let place : IsInPlace false true s m (home_of home m) =
    subst (λ k. IsInPlace false k s m (home_of home m)) kept (subst (λ b. IsInPlace b (is_kept s m) s m (home_of home m)) out (sound.log.in_place.each m)) in
    let some : is_some (home_of home m) ≡ true = there_some s m (home_of home m) place in
    in_parts x m ∙ (λ j. one_flag (some j) + lent_zero s x.handle.log.away m just j)

-- one that is lent to no queue and goes along with no call is with the driver once
pub driver_once : (x : Slice) (v : Inner) (m : ℕ) → IsSoundSlice x v → is_kept (driver_state x) m ≡ true → is_lent (driver_state x) m ≡ false → (x.handle.log.away ≡ Sent m → ⊥) →
    occurrences m (map (λ (l : Lies). l.number) (with_driver x)) ≡ 1
driver_once x v m sound kept free never = once_by x v m (is_just (number_away (driver_state x) x.handle.log.away) m) sound kept free never refl

-- one that is lent isn't there
pub driver_none : (x : Slice) (v : Inner) (m : ℕ) → IsSoundSlice x v → is_lent (driver_state x) m ≡ true → occurrences m (map (λ (l : Lies). l.number) (with_driver x)) ≡ 0
driver_none x v m sound lent =
    let s : LocalState = driver_state x in
    let home : List (Option Mem) = x.handle.log.home in
    let away : Away = x.handle.log.away in
    let none : home_of home m ≡ None =
    subst (λ b. IsInPlace b (is_kept s m) s m (home_of home m)) (ap (λ b. b || is_just (number_away s away) m) lent) (sound.log.in_place.each m) in
    let apart : is_just (number_away s away) m ≡ false = apart_away s away x.handle.log.unanswered m sound.log.out lent in
    in_parts x m ∙ (λ j. one_flag (is_some (none j)) + lent_zero s away m apart j)
