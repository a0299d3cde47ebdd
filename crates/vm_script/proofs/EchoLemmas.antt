-- The words of a line, joined by one space, are those of one line.
use Rattle.std.proofs.Common.{◌≡◌, ℕ, Bool, true, false, not, ◌&&◌, List, [], ◌∷◌, ◌++◌, refl, ap, if◌then◌else◌}
use Rattle.std.specs.List.{filter, join_with_byte, list_all}
use Rattle.vm_script.specs.Words.{IsEcho, pieces_by, onto_first, parts_words, ends_line, is_empty, words_in}
use Rattle.vm_script.proofs.WordLemmas.{is_whole, piece_last, echo_words}

both : (a b : Bool) → (a && b) ≡ true → (a ≡ true) × (b ≡ true)
both true b h = (refl, h)
both false b h = absurd (cc)

-- ---- what all bytes of a line are

onto_keeps : (p : ℕ → Bool) (b : ℕ) (pieces : List (List ℕ)) → p b ≡ true → list_all (list_all p) pieces ≡ true → list_all (list_all p) (onto_first b pieces) ≡ true
onto_keeps p b [] at h = rw at refl
onto_keeps p b (piece ∷ pieces) at h =
    let parted = both (list_all p piece) (list_all (list_all p) pieces) h in
    rw (at, parted.0, parted.1) refl

-- the bytes of its pieces are
pieces_keep : (p parts : ℕ → Bool) (bs : List ℕ) → list_all p bs ≡ true → list_all (list_all p) (pieces_by parts bs) ≡ true
pieces_keep p parts [] h = refl
pieces_keep p parts (b ∷ bs) h =
    let parted = both (p b) (list_all p bs) h in
    by_test (parts b) parted.0 (pieces_keep p parts bs parted.1)
  where
    by_test : (test : Bool) → p b ≡ true → list_all (list_all p) (pieces_by parts bs) ≡ true → list_all (list_all p) (if test then [] ∷ pieces_by parts bs else onto_first b (pieces_by parts bs)) ≡ true
    by_test true at k = k
    by_test false at k = onto_keeps p b (pieces_by parts bs) at k

filter_keeps : {A : Type 0} (q p : A → Bool) (xs : List A) → list_all p xs ≡ true → list_all p (filter q xs) ≡ true
filter_keeps q p [] h = refl
filter_keeps q p (x ∷ xs) h =
    let parted = both (p x) (list_all p xs) h in
    by_test (q x) parted.0 (filter_keeps q p xs parted.1)
  where
    by_test : (test : Bool) → p x ≡ true → list_all p (filter q xs) ≡ true → list_all p (if test then x ∷ filter q xs else filter q xs) ≡ true
    by_test true at k = rw (at, k) refl
    by_test false at k = k

all_joined : (p : ℕ → Bool) (xs ys : List ℕ) → list_all p xs ≡ true → list_all p ys ≡ true → list_all p (xs ++ ys) ≡ true
all_joined p [] ys h k = k
all_joined p (x ∷ xs) ys h k = let parted = both (p x) (list_all p xs) h in rw (parted.0, all_joined p xs ys parted.1 k) refl

-- and so are those of what is joined
join_keeps : (p : ℕ → Bool) (c : ℕ) → p c ≡ true → (ws : List (List ℕ)) → list_all (list_all p) ws ≡ true → list_all p (join_with_byte c ws) ≡ true
join_keeps p c at [] h = refl
join_keeps p c at (w ∷ []) h = (both (list_all p w) true h).0
join_keeps p c at (w ∷ v ∷ ws) h =
    let parted = both (list_all p w) (list_all (list_all p) (v ∷ ws)) h in
    all_joined p w (c ∷ join_with_byte c (v ∷ ws)) parted.0 (rw (at, join_keeps p c at (v ∷ ws) parted.1) refl)

-- ---- echoes

abbrev stays_on : ℕ → Bool
stays_on b = not (ends_line b)

pub echo_is : (line : List ℕ) → is_whole ends_line line ≡ true → IsEcho (join_with_byte 32 (words_in line))
echo_is line whole =
    let words = filter_keeps (λ w. not (is_empty w)) (list_all stays_on) (pieces_by parts_words line) (pieces_keep stays_on parts_words line whole) in
    (piece_last ends_line (join_with_byte 32 (words_in line)) (join_keeps stays_on 32 refl (words_in line) words), ap (join_with_byte 32) (echo_words line))
