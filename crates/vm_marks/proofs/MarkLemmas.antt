-- Lemmas on flags and their places.
use Rattle.std.proofs.Common.{◌≡◌, ℕ, zero, suc, ◌+◌, ◌<◌, ◌≤◌, Bool, true, false, List, [], ◌∷◌, ◌++◌, length, get_or, set, refl, sym, ap, subst, ◌∙◌, Result, Ok, Err, inl, inr, arith, length-append}
use Rattle.std.proofs.lemmas.Bool.{cases_lt}
use Rattle.std.proofs.lemmas.Bool.Decides.{nat_tests}
use Rattle.std.specs.List.{insert, remove}
use Rattle.vm_marks.specs.Marks.{places_from, places_of}
use Rattle.vm_marks.specs.Kept.{flags_from, AreMarks, Rise, IsAt, IsBetween}
use Rattle.std.proofs.lemmas.List.{length-set}
use Rattle.std.proofs.lemmas.List.Edits.{length-insert}
use Rattle.std.specs.Result.{MatchResult, is_ok}

-- no place is before the first
from_on : (n : ℕ) (fs : List Bool) (k : ℕ) → k < length (places_from n fs) → n ≤ get_or (places_from n fs) k 0
from_on n [] k within = absurd (omega (arith, within))
from_on n (true ∷ fs) zero within = omega arith
from_on n (true ∷ fs) (suc k) within = let rest = from_on (n + 1) fs k (omega (arith, within)) in omega (arith, rest)
from_on n (false ∷ fs) k within = let rest = from_on (n + 1) fs k within in omega (arith, rest)

-- a mark more
marked_at : (n : ℕ) (fs : List Bool) (i place v : ℕ) → v ≡ n + i → i < length fs
    → place ≤ length (places_from n fs)
    → ((k : ℕ) → k < place → get_or (places_from n fs) k 0 < v)
    → ((k : ℕ) → place ≤ k → k < length (places_from n fs) → v < get_or (places_from n fs) k 0)
    → places_from n (set fs i true) ≡ insert (places_from n fs) place v
marked_at n [] i place v at within near before behind = absurd (omega (arith, within))
marked_at n (true ∷ fs) zero zero v at within near before behind = absurd (let b = behind 0 (omega arith) (omega arith) in omega (arith, b, at))
marked_at n (true ∷ fs) zero (suc p) v at within near before behind = absurd (let b = before 0 (omega arith) in omega (arith, b, at))
marked_at n (false ∷ fs) zero zero v at within near before behind = ap (λ x. x ∷ places_from (n + 1) fs) (omega (arith, at))
marked_at n (false ∷ fs) zero (suc p) v at within near before behind =
    absurd (let b = before 0 (omega arith) in let f = from_on (n + 1) fs 0 (omega (arith, near)) in omega (arith, b, f, at))
marked_at n (true ∷ fs) (suc i) zero v at within near before behind = absurd (let b = behind 0 (omega arith) (omega arith) in omega (arith, b, at))
marked_at n (true ∷ fs) (suc i) (suc p) v at within near before behind =
    ap (λ xs. n ∷ xs) (marked_at (n + 1) fs i p v (omega (arith, at)) (omega (arith, within)) (omega (arith, near))
    (λ k l. before (suc k) (omega (arith, l))) (λ k l m. behind (suc k) (omega (arith, l)) (omega (arith, m))))
marked_at n (false ∷ fs) (suc i) place v at within near before behind =
    marked_at (n + 1) fs i place v (omega (arith, at)) (omega (arith, within)) near before behind

-- a mark less
unmarked_at : (n : ℕ) (fs : List Bool) (i place : ℕ) → place < length (places_from n fs) → get_or (places_from n fs) place 0 ≡ n + i
    → places_from n (set fs i false) ≡ remove (places_from n fs) place
unmarked_at n [] i place within here = absurd (omega (arith, within))
unmarked_at n (true ∷ fs) zero zero within here = refl
unmarked_at n (true ∷ fs) zero (suc p) within here = absurd (let f = from_on (n + 1) fs p (omega (arith, within)) in omega (arith, f, here))
unmarked_at n (false ∷ fs) zero place within here = absurd (let f = from_on (n + 1) fs place within in omega (arith, f, here))
unmarked_at n (true ∷ fs) (suc i) zero within here = absurd (omega (arith, here))
unmarked_at n (true ∷ fs) (suc i) (suc p) within here =
    ap (λ xs. n ∷ xs) (unmarked_at (n + 1) fs i p (omega (arith, within)) (omega (arith, here)))
unmarked_at n (false ∷ fs) (suc i) place within here = unmarked_at (n + 1) fs i place within (omega (arith, here))

-- the flag at a place is true
flag_at : (n : ℕ) (fs : List Bool) (i place : ℕ) → place < length (places_from n fs) → get_or (places_from n fs) place 0 ≡ n + i
    → get_or fs i false ≡ true
flag_at n [] i place within here = absurd (omega (arith, within))
flag_at n (true ∷ fs) zero place within here = refl
flag_at n (false ∷ fs) zero place within here = absurd (let f = from_on (n + 1) fs place within in omega (arith, f, here))
flag_at n (true ∷ fs) (suc i) zero within here = absurd (omega (arith, here))
flag_at n (true ∷ fs) (suc i) (suc p) within here = flag_at (n + 1) fs i p (omega (arith, within)) (omega (arith, here))
flag_at n (false ∷ fs) (suc i) place within here = flag_at (n + 1) fs i place within (omega (arith, here))

-- the flag of a number that stands at no place is false
no_flag : (n : ℕ) (fs : List Bool) (i v : ℕ) → v ≡ n + i
    → ((k : ℕ) → k < length (places_from n fs) → get_or (places_from n fs) k 0 ≡ v → ⊥)
    → get_or fs i false ≡ false
no_flag n [] i v at none = refl
no_flag n (true ∷ fs) zero v at none = absurd (none 0 (omega arith) (omega (arith, at)))
no_flag n (false ∷ fs) zero v at none = refl
no_flag n (true ∷ fs) (suc i) v at none = no_flag (n + 1) fs i v (omega (arith, at)) (λ k l. none (suc k) (omega (arith, l)))
no_flag n (false ∷ fs) (suc i) v at none = no_flag (n + 1) fs i v (omega (arith, at)) none

-- a flag that is set to what it is
set_same : (fs : List Bool) (i : ℕ) (b : Bool) → i < length fs → get_or fs i false ≡ b → set fs i b ≡ fs
set_same [] i b within is = absurd (omega (arith, within))
set_same (f ∷ fs) zero b within is = ap (λ x. x ∷ fs) (sym is)
set_same (f ∷ fs) (suc i) b within is = ap (λ xs. f ∷ xs) (set_same fs i b (omega (arith, within)) is)

-- what places there are
few : (n : ℕ) (fs : List Bool) → length (places_from n fs) ≤ length fs
few n [] = omega arith
few n (true ∷ fs) = let rest = few (n + 1) fs in omega (arith, rest)
few n (false ∷ fs) = let rest = few (n + 1) fs in omega (arith, rest)

rising : (n : ℕ) (fs : List Bool) (i j : ℕ) → i ≤ j → j < length (places_from n fs) → get_or (places_from n fs) i 0 ≤ get_or (places_from n fs) j 0
rising n [] i j le within = absurd (omega (arith, within))
rising n (true ∷ fs) zero j le within = from_on n (true ∷ fs) j within
rising n (true ∷ fs) (suc i) zero le within = absurd (omega (arith, le))
rising n (true ∷ fs) (suc i) (suc j) le within = rising (n + 1) fs i j (omega (arith, le)) (omega (arith, within))
rising n (false ∷ fs) i j le within = rising (n + 1) fs i j le within

-- no number behind the others is marked
pushed_places : (n : ℕ) (fs : List Bool) → places_from n (fs ++ false ∷ []) ≡ places_from n fs
pushed_places n [] = refl
pushed_places n (true ∷ fs) = ap (λ xs. n ∷ xs) (pushed_places (n + 1) fs)
pushed_places n (false ∷ fs) = pushed_places (n + 1) fs

-- the flags of the marked numbers
pub length_flags : (n count : ℕ) (ms : List ℕ) → length (flags_from n count ms) ≡ count
length_flags n zero ms = refl
length_flags n (suc count) [] = ap suc (length_flags (n + 1) count [])
length_flags n (suc count) (m ∷ ms) =
    let one = length_flags (n + 1) count ms in
    let other = length_flags (n + 1) count (m ∷ ms) in
    grind (arith, nat_tests, one, other)

later : (n count : ℕ) (ms : List ℕ) → ((k : ℕ) → k < length ms → n + 1 ≤ get_or ms k 0) → flags_from n (suc count) ms ≡ false ∷ flags_from (n + 1) count ms
later n count [] above = refl
later n count (m ∷ ms) above = let first = above 0 (omega arith) in grind (arith, nat_tests, first)

flags_again : (n : ℕ) (fs : List Bool) → flags_from n (length fs) (places_from n fs) ≡ fs
flags_again n [] = refl
flags_again n (true ∷ fs) = let rest = flags_again (n + 1) fs in grind (arith, nat_tests, rest)
flags_again n (false ∷ fs) = later n (length fs) (places_from (n + 1) fs) (from_on (n + 1) fs) ∙ ap (λ xs. false ∷ xs) (flags_again (n + 1) fs)

-- ---- what is kept

pub few_marks : (count : ℕ) (ms : List ℕ) → AreMarks count ms → length ms ≤ count
few_marks count ms are =
    let all = few 0 (flags_from 0 count ms) in
    let same : length (places_of (flags_from 0 count ms)) ≡ length ms = ap length are in
    let flags = length_flags 0 count ms in
    omega (arith, all, same, flags)

-- flags and their places, kept in the place of others
pub kept_anew : (fs : List Bool) (count : ℕ) (ms : List ℕ) → length fs ≡ count → ms ≡ places_of fs → (flags_from 0 count ms ≡ fs) × AreMarks count ms
kept_anew fs count ms counted at =
    let same : flags_from 0 count ms ≡ fs = rw (at, ← counted) (flags_again 0 fs) in
    (same, rw (same, at) refl)

pub pushed_kept : (count : ℕ) (ms : List ℕ) → AreMarks count ms → (flags_from 0 (count + 1) ms ≡ flags_from 0 count ms ++ false ∷ []) × AreMarks (count + 1) ms
pushed_kept count ms are =
    let fs = flags_from 0 count ms in
    let counted = length_flags 0 count ms in
    let more : length (fs ++ false ∷ []) ≡ count + 1 = length-append fs (false ∷ []) ∙ ap (λ n. n + 1) counted in
    kept_anew (fs ++ false ∷ []) (count + 1) ms more (sym (pushed_places 0 fs ∙ are))

pub marks_rise : (count : ℕ) (ms : List ℕ) → AreMarks count ms → Rise ms
marks_rise count ms are = let P : List ℕ → Type 0 = Rise in subst P are (rising 0 (flags_from 0 count ms))

-- the flag of a number that is found, and of one that isn't
pub found_flag : (count : ℕ) (ms : List ℕ) (v place : ℕ) → AreMarks count ms → IsAt ms v place → get_or (flags_from 0 count ms) v false ≡ true
found_flag count ms v place are at =
    let P : List ℕ → Type 0 = λ xs. IsAt xs v place in
    let here = subst P (sym are) at in
    flag_at 0 (flags_from 0 count ms) v place here.0 (let at = here.1 in omega (arith, at))

pub missing_flag : (count : ℕ) (ms : List ℕ) (v place : ℕ) → AreMarks count ms → IsBetween ms v place → get_or (flags_from 0 count ms) v false ≡ false
missing_flag count ms v place are between =
    let P : List ℕ → Type 0 = λ xs. IsBetween xs v place in
    let here = subst P (sym are) between in
    no_flag 0 (flags_from 0 count ms) v v (omega arith) (λ k within same. elim (cases_lt k place) [
      | inl before ↦ let less = here.1 k before in omega (arith, less, same)
      | inr behind ↦ let more = here.2 k behind within in omega (arith, more, same)
    ])

-- a number that is found is marked, and its mark is taken away; one that isn't is marked between the others
pub unmark_kept : (count : ℕ) (ms : List ℕ) (v place : ℕ) → AreMarks count ms → IsAt ms v place
    → (flags_from 0 count (remove ms place) ≡ set (flags_from 0 count ms) v false) × AreMarks count (remove ms place)
unmark_kept count ms v place are at =
    let fs = flags_from 0 count ms in
    let P : List ℕ → Type 0 = λ xs. IsAt xs v place in
    let here = subst P (sym are) at in
    let counted : length (set fs v false) ≡ count = length-set fs v false ∙ length_flags 0 count ms in
    let places : remove ms place ≡ places_of (set fs v false) = ap (λ xs. remove xs place) (sym are) ∙ sym (unmarked_at 0 fs v place here.0 (let at = here.1 in omega (arith, at))) in
    kept_anew (set fs v false) count (remove ms place) counted places

pub mark_kept : (count : ℕ) (ms : List ℕ) (v place : ℕ) → AreMarks count ms → v < count → IsBetween ms v place
    → (flags_from 0 count (insert ms place v) ≡ set (flags_from 0 count ms) v true) × AreMarks count (insert ms place v)
mark_kept count ms v place are below between =
    let fs = flags_from 0 count ms in
    let P : List ℕ → Type 0 = λ xs. IsBetween xs v place in
    let here = subst P (sym are) between in
    let flags = length_flags 0 count ms in
    let within : v < length fs = omega (arith, flags, below) in
    let counted : length (set fs v true) ≡ count = length-set fs v true ∙ flags in
    let places : insert ms place v ≡ places_of (set fs v true) = ap (λ xs. insert xs place v) (sym are) ∙ sym (marked_at 0 fs v place v (omega arith) within here.0 here.1 here.2) in
    kept_anew (set fs v true) count (insert ms place v) counted places

-- there is memory for one mark more where a number isn't marked
pub room_kept : (count : ℕ) (ms : List ℕ) (v place : ℕ) → AreMarks count ms → v < count → IsBetween ms v place → length ms < count
room_kept count ms v place are below between =
    let most = few_marks count (insert ms place v) (mark_kept count ms v place are below between).1 in
    let more = length-insert ms place v between.0 in
    omega (arith, most, more)

-- a flag that is set to what it is
pub same_kept : (count : ℕ) (ms : List ℕ) (v : ℕ) (b : Bool) → v < count → get_or (flags_from 0 count ms) v false ≡ b → flags_from 0 count ms ≡ set (flags_from 0 count ms) v b
same_kept count ms v b below is =
    let flags = length_flags 0 count ms in
    sym (set_same (flags_from 0 count ms) v b (omega (arith, flags, below)) is)

pub found_or_not : (count : ℕ) (ms : List ℕ) (v : ℕ) (r : Result ℕ ℕ) → AreMarks count ms → MatchResult r (IsAt ms v) (IsBetween ms v)
    → is_ok r ≡ get_or (flags_from 0 count ms) v false
found_or_not count ms v (Ok place) are at = sym (found_flag count ms v place are at)
found_or_not count ms v (Err place) are between = sym (missing_flag count ms v place are between)

pub below_count : (count : ℕ) (ms : List ℕ) (v : ℕ) → v < length (flags_from 0 count ms) → v < count
below_count count ms v within = let flags = length_flags 0 count ms in omega (arith, within, flags)
