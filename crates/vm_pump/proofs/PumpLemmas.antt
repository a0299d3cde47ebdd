-- Lemmas on the oldest event for a session, and its place.
use Rattle.std.proofs.Common.{◌≡◌, ℕ, suc, ◌+◌, ◌<◌, ◌≤◌, ◌==◌, Bool, true, false, not, Option, Some, None, List, [], ◌∷◌, ◌++◌, length, take, drop, get_or, refl, sym, ap, ◌∙◌, arith, find, take_while, if◌then◌else◌}
use Rattle.std.specs.List.{prefix_len, remove}
use Rattle.std.proofs.lemmas.List.Folds.{length-prefix_len}
use Rattle.vm_wire.specs.declared.delivery.Delivery.{Delivery}
use Rattle.vm_pump.specs.Pump.{first_for, without_first}

abbrev pub is_other : ℕ → Delivery → Bool
is_other session d = not (d.session == session)

-- the place of the oldest event for a session
abbrev pub first_place : ℕ → List Delivery → ℕ
first_place session [] = 0
first_place session (d ∷ ds) = if d.session == session then 0 else suc (first_place session ds)

prefix_if : (b : Bool) (n place : ℕ) → n ≡ place → (if not b then 1 + n else 0) ≡ (if b then 0 else suc place)
prefix_if true n place same = refl
prefix_if false n place same = omega (arith, same)

prefix_at : (session : ℕ) (ds : List Delivery) → prefix_len (is_other session) ds ≡ first_place session ds
prefix_at session [] = refl
prefix_at session (d ∷ ds) = prefix_if (d.session == session) (prefix_len (is_other session) ds) (first_place session ds) (prefix_at session ds)

counted_place : (session : ℕ) (ds : List Delivery) → length (take_while (is_other session) ds) ≡ first_place session ds
counted_place session ds = length-prefix_len (is_other session) ds ∙ prefix_at session ds

-- ---- where there is one

first_if : (b : Bool) (session : ℕ) (d x : Delivery) (ds : List Delivery)
    → (first_place session ds < length ds → x ≡ get_or ds (first_place session ds) x → Some x ≡ first_for session ds)
    → (if b then 0 else suc (first_place session ds)) < length (d ∷ ds) → x ≡ get_or (d ∷ ds) (if b then 0 else suc (first_place session ds)) x
    → Some x ≡ (if b then Some d else first_for session ds)
first_if true session d x ds rest within is = ap Some is
first_if false session d x ds rest within is = rest (omega (arith, within)) is

first_there : (session : ℕ) (ds : List Delivery) (x : Delivery) → first_place session ds < length ds
    → x ≡ get_or ds (first_place session ds) x → Some x ≡ first_for session ds
first_there session [] x within is = absurd (omega (arith, within))
first_there session (d ∷ ds) x within is =
    first_if (d.session == session) session d x ds (λ inside same. first_there session ds x inside same) within is

rest_if : (b : Bool) (session : ℕ) (d : Delivery) (ds : List Delivery)
    → remove ds (first_place session ds) ≡ without_first session ds
    → remove (d ∷ ds) (if b then 0 else suc (first_place session ds)) ≡ (if b then ds else d ∷ without_first session ds)
rest_if true session d ds rest = refl
rest_if false session d ds rest = ap (λ xs. d ∷ xs) rest

rest_there : (session : ℕ) (ds : List Delivery) → remove ds (first_place session ds) ≡ without_first session ds
rest_there session [] = refl
rest_there session (d ∷ ds) = rest_if (d.session == session) session d ds (rest_there session ds)

-- the event at the place that was counted
pub first_counted : (session place : ℕ) (ds : List Delivery) (x : Delivery) → place ≡ length (take_while (is_other session) ds) → place < length ds
    → x ≡ get_or ds place x → Some x ≡ first_for session ds
first_counted session place ds x counted within is =
    let at : place ≡ first_place session ds = counted ∙ counted_place session ds in
    first_there session ds x (omega (arith, at, within)) (is ∙ ap (λ i. get_or ds i x) at)

pub rest_counted : (session place : ℕ) (ds ds' : List Delivery) → place ≡ length (take_while (is_other session) ds) → ds' ≡ remove ds place
    → ds' ≡ without_first session ds
rest_counted session place ds ds' counted is = is ∙ ap (remove ds) (counted ∙ counted_place session ds) ∙ rest_there session ds

-- ---- where there is none

none_if : (b : Bool) (session : ℕ) (d : Delivery) (ds : List Delivery) → (length ds ≤ first_place session ds → None ≡ first_for session ds)
    → length (d ∷ ds) ≤ (if b then 0 else suc (first_place session ds)) → None ≡ (if b then Some d else first_for session ds)
none_if true session d ds rest past = absurd (omega (arith, past))
none_if false session d ds rest past = rest (omega (arith, past))

none_there : (session : ℕ) (ds : List Delivery) → length ds ≤ first_place session ds → None ≡ first_for session ds
none_there session [] past = refl
none_there session (d ∷ ds) past = none_if (d.session == session) session d ds (λ beyond. none_there session ds beyond) past

same_if : (b : Bool) (session : ℕ) (d : Delivery) (ds : List Delivery) → (length ds ≤ first_place session ds → ds ≡ without_first session ds)
    → length (d ∷ ds) ≤ (if b then 0 else suc (first_place session ds)) → d ∷ ds ≡ (if b then ds else d ∷ without_first session ds)
same_if true session d ds rest past = absurd (omega (arith, past))
same_if false session d ds rest past = ap (λ xs. d ∷ xs) (rest (omega (arith, past)))

same_there : (session : ℕ) (ds : List Delivery) → length ds ≤ first_place session ds → ds ≡ without_first session ds
same_there session [] past = refl
same_there session (d ∷ ds) past = same_if (d.session == session) session d ds (λ beyond. same_there session ds beyond) past

pub none_counted : (session place : ℕ) (ds : List Delivery) → place ≡ length (take_while (is_other session) ds) → length ds ≤ place → None ≡ first_for session ds
none_counted session place ds counted past =
    none_there session ds (let at : place ≡ first_place session ds = counted ∙ counted_place session ds in omega (arith, at, past))

pub same_counted : (session place : ℕ) (ds : List Delivery) → place ≡ length (take_while (is_other session) ds) → length ds ≤ place → ds ≡ without_first session ds
same_counted session place ds counted past =
    same_there session ds (let at : place ≡ first_place session ds = counted ∙ counted_place session ds in omega (arith, at, past))

-- ---- the front of a page

take_front : {A : Type 0} (xs ys : List A) → take (length xs) (xs ++ ys) ≡ xs
take_front [] ys = refl
take_front (x ∷ xs) ys = ap (λ zs. x ∷ zs) (take_front xs ys)

pub front_of : (bytes behind : List ℕ) → length bytes ≡ 608 → take 608 (bytes ++ behind) ≡ bytes
front_of bytes behind size = ap (λ n. take n (bytes ++ behind)) (sym size) ∙ take_front bytes behind
