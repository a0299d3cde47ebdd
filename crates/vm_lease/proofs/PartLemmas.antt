-- The parts in which a memory is hashed and filled.
use Rattle.std.proofs.Common.{◌≡◌, ◌≤◌, ◌+◌, ◌-◌, ◌*◌, ◌%◌, ℕ, zero, suc, List, [], ◌∷◌, ◌++◌, length, take, drop, min, sym, ap, ◌∙◌, arith, rules, append_assoc, add-one}
use Rattle.std.proofs.lemmas.List.{append-nil, length-append, length-drop, length-take-le, places, same_lists}
use Rattle.std.proofs.lemmas.List.FromFn.{map-range_with_len_more, take-map-range_with_len, length-map-range_with_len}
use Rattle.std.proofs.Math.Seq.{take-add}
use Rattle.vm_mem.specs.Seeded.{seeded}

-- a part more is hashed
pub hashed_more : (xs : List ℕ) (at n : ℕ) → take at xs ++ take n (drop at xs) ≡ take (at + n) xs
hashed_more xs at n = sym (take-add at n xs)

-- the bytes of a seed begin again after 4096 of them
seeded_again : (seed k n : ℕ) → (7 * (4096 * k + n) + seed) % 256 ≡ (7 * n + seed) % 256
seeded_again seed k n = omega arith

-- where the bytes of a seed begin again, the first of them stand behind what was before
seeded_behind : (seed start whole n : ℕ) → ((i : ℕ) → (7 * (start + i) + seed) % 256 ≡ (7 * i + seed) % 256) → n ≤ whole
    → seeded seed (start + n) ≡ seeded seed start ++ take n (seeded seed whole)
seeded_behind seed start whole zero again within = ap (λ n. seeded seed n) (omega arith) ∙ sym (append-nil (seeded seed start))
seeded_behind seed start whole (suc n) again within =
    let f : ℕ → ℕ = λ i. (7 * i + seed) % 256 in
    let before : n ≤ whole = omega (arith, within) in
    let part : take (n + 1) (seeded seed whole) ≡ take n (seeded seed whole) ++ f n ∷ [] =
    take-map-range_with_len f 0 whole (n + 1) (omega (arith, within))
    ∙ map-range_with_len_more f 0 n n (omega arith)
    ∙ ap (λ xs. xs ++ f n ∷ []) (sym (take-map-range_with_len f 0 whole n before)) in
    let step : seeded seed (start + (n + 1)) ≡ seeded seed start ++ take (n + 1) (seeded seed whole) =
    ap (λ i. seeded seed i) (omega arith)
    ∙ map-range_with_len_more f 0 (start + n) (start + n) (omega arith)
    ∙ ap (λ xs. xs ++ f (start + n) ∷ []) (seeded_behind seed start whole n again before)
    ∙ ap (λ b. (seeded seed start ++ take n (seeded seed whole)) ++ b ∷ []) (again n)
    ∙ append_assoc (seeded seed start) (take n (seeded seed whole)) (f n ∷ [])
    ∙ ap (λ xs. seeded seed start ++ xs) (sym part) in
    rw add-one at step

-- behind whole parts stand the first bytes of a part
pub seeded_more : (seed k n : ℕ) → n ≤ 4096 → seeded seed (4096 * k + n) ≡ seeded seed (4096 * k) ++ take n (seeded seed 4096)
seeded_more seed k n within = seeded_behind seed (4096 * k) 4096 n (seeded_again seed k) within

pub seeded_length : (seed n : ℕ) → length (seeded seed n) ≡ n
seeded_length seed n = length-map-range_with_len (λ i. (7 * i + seed) % 256) 0 n

pub cut_long : {A : Type 0} (xs : List A) (n : ℕ) → n ≤ length xs → length (take n xs) ≡ n
cut_long xs n within = length-take-le n xs within

-- bytes written behind those that were written before
pub pasted : (front part old : List ℕ) (at end : ℕ) → length front ≡ at → at + length part ≡ end → end ≤ length old
    → take at (front ++ drop at old) ++ (part ++ drop (at + length part) (front ++ drop at old)) ≡ (front ++ part) ++ drop end old
pasted front part old at end long ends within =
    same_lists _ _ (search (rules, places)) (λ k d h. grind (arith, places))

-- A part more is filled: k parts were, of a memory of so many bytes.
pub filled_more : (seed k size n : ℕ) (now old part : List ℕ) → length old ≡ size → 4096 * k ≤ size → n ≡ min (size - 4096 * k) 4096
    → part ≡ take n (seeded seed 4096) → now ≡ seeded seed (min (4096 * k) size) ++ drop (min (4096 * k) size) old
    → take (k * 4096) now ++ (part ++ drop (k * 4096 + length part) now)
    ≡ seeded seed (min (4096 * (k + 1)) size) ++ drop (min (4096 * (k + 1)) size) old
filled_more seed k size n now old part whole begins count is before =
    let first : min (4096 * k) size ≡ 4096 * k = omega (arith, begins) in
    let last : min (4096 * (k + 1)) size ≡ 4096 * k + n = omega (arith, begins, count) in
    let within : n ≤ 4096 = omega (arith, count) in
    let long : length part ≡ n = ap length is ∙ cut_long (seeded seed 4096) n (rw seeded_length within) in
    let front : length (seeded seed (4096 * k)) ≡ 4096 * k = seeded_length seed (4096 * k) in
    let written = pasted (seeded seed (4096 * k)) part old (4096 * k) (4096 * k + n) front (ap (λ x. 4096 * k + x) long) (rw whole (omega (arith, begins, count))) in
    let now_is : now ≡ seeded seed (4096 * k) ++ drop (4096 * k) old = rw first at before in
    let place : k * 4096 ≡ 4096 * k = omega arith in
    rw (place, now_is, last, seeded_more seed k n within, ← is) written

-- the next part lies within the memory
pub part_within : (k size n have : ℕ) → n ≡ min (size - k * 4096) 4096 → k * 4096 ≤ size → have ≡ n → k * 4096 + have ≤ size
part_within k size n have count begins is = omega (arith, count, begins, is)

-- what is filled so far, and what isn't, are the whole memory
pub still_whole : (seed n size : ℕ) (now old : List ℕ) → length old ≡ size → n ≤ size → now ≡ seeded seed n ++ drop n old → length now ≡ size
still_whole seed n size now old whole within is =
    ap length is ∙ length-append (seeded seed n) (drop n old)
    ∙ ap (λ m. m + length (drop n old)) (seeded_length seed n) ∙ omega (arith, length-drop n old, whole, within)

-- a front of a filled part is as long as it is asked for
pub cut_part : (seed : ℕ) (part : List ℕ) (n : ℕ) → part ≡ seeded seed 4096 → n ≤ 4096 → length (take n part) ≡ n
cut_part seed part n is within = ap (λ xs. length (take n xs)) is ∙ cut_long (seeded seed 4096) n (rw seeded_length within)
