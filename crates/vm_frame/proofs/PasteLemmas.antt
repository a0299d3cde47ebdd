-- A run of bytes written over a part of a list, and what a part of the list or of a longer one then holds.
use Rattle.std.proofs.Common.{◌≡◌, ℕ, ◌+◌, ◌≤◌, ◌++◌, List, [], length, take, drop, arith, rules}
use Rattle.std.proofs.Math.Seq.{paste}
use Rattle.std.proofs.lemmas.List.{places, same_lists}

-- within a part of the list
pub paste_within : (b : List ℕ) (start len skip : ℕ) (s : List ℕ) (n : ℕ) → n ≡ length s → skip + n ≤ len → start + len ≤ length b
    → take len (drop start (paste b (start + skip) s n)) ≡ paste (take len (drop start b)) skip s n
paste_within b start len skip s n whole within ends =
    same_lists _ _ (search (rules, places)) (λ k d h. grind (arith, places))

-- behind a part of the list
pub paste_behind : (b : List ℕ) (start len at : ℕ) (s : List ℕ) (n : ℕ) → n ≡ length s → start + len ≤ at → at + n ≤ length b
    → take len (drop start (paste b at s n)) ≡ take len (drop start b)
paste_behind b start len at s n whole before ends =
    same_lists _ _ (search (rules, places)) (λ k d h. grind (arith, places))

-- before a part of the list
pub paste_before : (b : List ℕ) (start at : ℕ) (s : List ℕ) (n : ℕ) → n ≡ length s → at + n ≤ start → at + n ≤ length b
    → drop start (paste b at s n) ≡ drop start b
paste_before b start at s n whole before ends =
    same_lists _ _ (search (rules, places)) (λ k d h. grind (arith, places))

-- in the front of a longer list
pub paste_front : (xs ys : List ℕ) (at : ℕ) (s : List ℕ) (n : ℕ) → n ≡ length s → at + n ≤ length xs
    → paste (xs ++ ys) at s n ≡ paste xs at s n ++ ys
paste_front xs ys at s n whole ends =
    same_lists _ _ (search (rules, places)) (λ k d h. grind (arith, places))

-- in the back of a longer list
pub paste_back : (xs ys : List ℕ) (at : ℕ) (s : List ℕ) (n : ℕ) → n ≡ length s → at + n ≤ length ys
    → paste (xs ++ ys) (length xs + at) s n ≡ xs ++ paste ys at s n
paste_back xs ys at s n whole ends =
    same_lists _ _ (search (rules, places)) (λ k d h. grind (arith, places))

-- a write keeps the length
pub length_written : (b : List ℕ) (at : ℕ) (s : List ℕ) → at + length s ≤ length b → length (take at b ++ (s ++ drop (at + length s) b)) ≡ length b
length_written b at s ends = search (rules, places)

-- nothing was written to nothing
pub nothing_written : (at : ℕ) (s : List ℕ) → length s ≡ 0 → [] ≡ take at [] ++ (s ++ drop (at + length s) [])
nothing_written at s empty = same_lists _ _ (search (rules, places)) (λ k d h. absurd (omega arith))

-- what is read within a part of a list is read in the part
pub read_within : (b : List ℕ) (start len skip count : ℕ) → skip + count ≤ len → start + len ≤ length b
    → take count (drop (start + skip) b) ≡ take count (drop skip (take len (drop start b)))
read_within b start len skip count within ends =
    same_lists _ _ (search (rules, places)) (λ k d h. grind (arith, places))

-- what is read in the front of a longer list
pub read_front : (xs ys : List ℕ) (at count : ℕ) → at + count ≤ length xs → take count (drop at (xs ++ ys)) ≡ take count (drop at xs)
read_front xs ys at count ends =
    same_lists _ _ (search (rules, places)) (λ k d h. grind (arith, places))

-- what is read in the back of a longer list
pub read_back : (xs ys : List ℕ) (at : ℕ) → drop (length xs + at) (xs ++ ys) ≡ drop at ys
read_back xs ys at = same_lists _ _ (search (rules, places)) (λ k d h. grind (arith, places))

-- a copy that goes on where it stopped
pub paste_step : (b : List ℕ) (at : ℕ) (s : List ℕ) (n count : ℕ) → n + count ≤ length s → at + length s ≤ length b
    → paste (paste b at s n) (at + n) (take count (drop n s)) count ≡ paste b at s (n + count)
paste_step b at s n count within ends =
    same_lists _ _ (search (rules, places)) (λ k d h. grind (arith, places))

-- a reading that goes on where it stopped: `into` holds n bytes of xs from `at` on, and gets the next ones, with more behind
pub read_step : (xs into part more : List ℕ) (at n count : ℕ) → n ≤ length into → at + n + count ≤ length xs
    → take n into ≡ take n (drop at xs) → part ≡ take count (drop (at + n) xs)
    → take (n + count) (take n into ++ (part ++ more)) ≡ take (n + count) (drop at xs)
read_step xs into part more at n count within ends so_far next =
    rw (so_far, next) (same_lists _ _ (search (rules, places)) (λ k d h. grind (arith, places)))
