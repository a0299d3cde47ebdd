-- Runs of bytes that are written into a longer one, and what is then read.
use Rattle.std.proofs.Common.{◌≡◌, ℕ, zero, suc, ◌+◌, ◌*◌, ◌<◌, ◌≤◌, ◌++◌, List, ◌∷◌, length, take, drop, set, get_or, refl, ap, ◌∙◌, arith, rules}
use Rattle.std.proofs.lemmas.List.{places, same_lists}
use Rattle.vm_split.specs.Ring.{parts}

-- the bytes `s` written at `at`
abbrev pub written : List ℕ → ℕ → List ℕ → List ℕ
written b at s = take at b ++ (s ++ drop (at + length s) b)

pub length_written : (b : List ℕ) (at : ℕ) (s : List ℕ) → at + length s ≤ length b → length (written b at s) ≡ length b
length_written b at s ends = search (rules, places)

pub read_written : (b : List ℕ) (at : ℕ) (s : List ℕ) (len : ℕ) → len ≡ length s → at + length s ≤ length b → take len (drop at (written b at s)) ≡ s
read_written b at s len whole ends = same_lists _ _ (search (rules, places)) (λ k d h. grind (arith, places))

pub read_before : (b : List ℕ) (start len at : ℕ) (s : List ℕ) → start + len ≤ at → at + length s ≤ length b
    → take len (drop start (written b at s)) ≡ take len (drop start b)
read_before b start len at s before ends = same_lists _ _ (search (rules, places)) (λ k d h. grind (arith, places))

pub read_behind : (b : List ℕ) (start len at : ℕ) (s : List ℕ) → at + length s ≤ start → at + length s ≤ length b
    → take len (drop start (written b at s)) ≡ take len (drop start b)
read_behind b start len at s behind ends = same_lists _ _ (search (rules, places)) (λ k d h. grind (arith, places))

-- the first of two lists and the rest
both : {A : Type 0} (x y : A) (xs ys : List A) → x ≡ y → xs ≡ ys → x ∷ xs ≡ y ∷ ys
both x y xs ys first rest = rw (first, rest) refl

-- runs before and behind what is written stay
pub parts_before : (len : ℕ) (b : List ℕ) (start count at : ℕ) (s : List ℕ) → start + len * count ≤ at → at + length s ≤ length b
    → parts len (written b at s) start count ≡ parts len b start count
parts_before len b start zero at s before ends = refl
parts_before len b start (suc count) at s before ends =
    both _ _ _ _ (read_before b start len at s (omega (arith, before)) ends) (parts_before len b (start + len) count at s (omega (arith, before)) ends)

pub parts_behind : (len : ℕ) (b : List ℕ) (start count at : ℕ) (s : List ℕ) → at + length s ≤ start → at + length s ≤ length b
    → parts len (written b at s) start count ≡ parts len b start count
parts_behind len b start zero at s behind ends = refl
parts_behind len b start (suc count) at s behind ends =
    both _ _ _ _ (read_behind b start len at s behind ends) (parts_behind len b (start + len) count at s (omega (arith, behind)) ends)

-- a run is written
pub parts_set : (len : ℕ) (b : List ℕ) (start count k at : ℕ) (s : List ℕ) → k < count → length s ≡ len → at ≡ start + len * k → at + length s ≤ length b
    → parts len (written b at s) start count ≡ set (parts len b start count) k s
parts_set len b start zero k at s within whole place ends = absurd (omega (arith, within))
parts_set len b start (suc count) zero at s within whole place ends =
    let same : start ≡ at = omega (arith, place) in
    both _ _ _ _ (ap (λ n. take len (drop n (written b at s))) same ∙ read_written b at s len (omega (arith, whole)) ends)
    (parts_behind len b (start + len) count at s (omega (arith, whole, place)) ends)
parts_set len b start (suc count) (suc k) at s within whole place ends =
    both _ _ _ _ (read_before b start len at s (omega (arith, place)) ends)
    (parts_set len b (start + len) count k at s (omega (arith, within)) whole (omega (arith, place)) ends)

-- a run is read
pub parts_get : (len : ℕ) (b : List ℕ) (start count k : ℕ) (d : List ℕ) → k < count → get_or (parts len b start count) k d ≡ take len (drop (start + len * k) b)
parts_get len b start zero k d within = absurd (omega (arith, within))
parts_get len b start (suc count) zero d within = ap (λ n. take len (drop n b)) (omega arith)
parts_get len b start (suc count) (suc k) d within =
    parts_get len b (start + len) count k d (omega (arith, within)) ∙ ap (λ n. take len (drop n b)) (omega arith)

pub length-parts : (len : ℕ) (b : List ℕ) (start count : ℕ) → length (parts len b start count) ≡ count
length-parts len b start zero = refl
length-parts len b start (suc count) = ap suc (length-parts len b (start + len) count)

-- what is read within a run
pub read_within : (b : List ℕ) (start len skip count : ℕ) → skip + count ≤ len → start + len ≤ length b
    → take count (drop skip (take len (drop start b))) ≡ take count (drop (start + skip) b)
read_within b start len skip count within ends = same_lists _ _ (search (rules, places)) (λ k d h. grind (arith, places))
