-- The words of a line, joined by one space, are the words again.
use Rattle.std.proofs.Common.{◌≡◌, ℕ, Bool, true, false, not, ◌&&◌, List, [], ◌∷◌, ◌++◌, refl, ap, if◌then◌else◌}
use Rattle.std.specs.List.{filter, join_with_byte, list_all}
use Rattle.vm_script.specs.Words.{pieces_by, onto_first, parts_words, is_empty, words_in}

-- no byte of the piece parts
abbrev pub is_whole : (ℕ → Bool) → List ℕ → Bool
is_whole parts piece = list_all (λ b. not (parts b)) piece

abbrev pub is_word : List ℕ → Bool
is_word w = not (is_empty w) && is_whole parts_words w

both : (a b : Bool) → (a && b) ≡ true → (a ≡ true) × (b ≡ true)
both true b h = (refl, h)
both false b h = absurd (cc)

joined : (a b : Bool) → a ≡ true → b ≡ true → (a && b) ≡ true
joined a b h k = rw h k

not_true : (a : Bool) → not a ≡ true → a ≡ false
not_true true h = absurd (cc)
not_true false h = refl

-- ---- pieces

onto_whole : (parts : ℕ → Bool) (b : ℕ) (pieces : List (List ℕ)) → not (parts b) ≡ true → list_all (is_whole parts) pieces ≡ true → list_all (is_whole parts) (onto_first b pieces) ≡ true
onto_whole parts b [] h k = joined (not (parts b) && true) true (joined (not (parts b)) true h refl) refl
onto_whole parts b (piece ∷ pieces) h k =
    let parted = both (is_whole parts piece) (list_all (is_whole parts) pieces) k in
    joined _ _ (joined (not (parts b)) (is_whole parts piece) h parted.0) parted.1

pieces_cons : (parts : ℕ → Bool) (b : ℕ) (pieces : List (List ℕ)) (test : Bool) → parts b ≡ test → list_all (is_whole parts) pieces ≡ true → list_all (is_whole parts) (if test then [] ∷ pieces else onto_first b pieces) ≡ true
pieces_cons parts b pieces true e h = h
pieces_cons parts b pieces false e h = onto_whole parts b pieces (ap not e) h

pub pieces_whole : (parts : ℕ → Bool) (bs : List ℕ) → list_all (is_whole parts) (pieces_by parts bs) ≡ true
pieces_whole parts [] = refl
pieces_whole parts (b ∷ bs) = pieces_cons parts b (pieces_by parts bs) (parts b) refl (pieces_whole parts bs)

pub piece_last : (parts : ℕ → Bool) (piece : List ℕ) → is_whole parts piece ≡ true → pieces_by parts piece ≡ piece ∷ []
piece_last parts [] h = refl
piece_last parts (b ∷ bs) h =
    let parted = both (not (parts b)) (is_whole parts bs) h in
    rw (not_true (parts b) parted.0, piece_last parts bs parted.1) refl

pub piece_then : (parts : ℕ → Bool) (piece : List ℕ) (c : ℕ) (rest : List ℕ) → is_whole parts piece ≡ true → parts c ≡ true → pieces_by parts (piece ++ c ∷ rest) ≡ piece ∷ pieces_by parts rest
piece_then parts [] c rest h k = rw k refl
piece_then parts (b ∷ bs) c rest h k =
    let parted = both (not (parts b)) (is_whole parts bs) h in
    rw (not_true (parts b) parted.0, piece_then parts bs c rest parted.1 k) refl

-- ---- words

kept_words : (pieces : List (List ℕ)) → list_all (is_whole parts_words) pieces ≡ true → list_all is_word (filter (λ w. not (is_empty w)) pieces) ≡ true
kept_words [] h = refl
kept_words ([] ∷ pieces) h = kept_words pieces h
kept_words ((b ∷ bs) ∷ pieces) h =
    let parted = both (is_whole parts_words (b ∷ bs)) (list_all (is_whole parts_words) pieces) h in
    joined (is_word (b ∷ bs)) _ parted.0 (kept_words pieces parted.1)

pub words_are_words : (line : List ℕ) → list_all is_word (words_in line) ≡ true
words_are_words line = kept_words (pieces_by parts_words line) (pieces_whole parts_words line)

pub rejoin : (ws : List (List ℕ)) → list_all is_word ws ≡ true → words_in (join_with_byte 32 ws) ≡ ws
rejoin [] h = refl
rejoin (w ∷ []) h =
    let word = both (not (is_empty w)) (is_whole parts_words w) (both (is_word w) true h).0 in
    rw (piece_last parts_words w word.1, word.0) refl
rejoin (w ∷ v ∷ ws) h =
    let parted = both (is_word w) (list_all is_word (v ∷ ws)) h in
    let word = both (not (is_empty w)) (is_whole parts_words w) parted.0 in
    rw (piece_then parts_words w 32 (join_with_byte 32 (v ∷ ws)) word.1 refl, word.0) (ap (λ x. w ∷ x) (rejoin (v ∷ ws) parted.1))

-- a line's words are those of its echo
pub echo_words : (line : List ℕ) → words_in (join_with_byte 32 (words_in line)) ≡ words_in line
echo_words line = rejoin (words_in line) (words_are_words line)
