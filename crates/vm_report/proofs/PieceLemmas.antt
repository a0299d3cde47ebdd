-- The pieces of a text, joined again, are the text, and what is joined of pieces has them as its pieces.
use Rattle.std.proofs.Common.{◌≡◌, ℕ, suc, ◌+◌, ◌<◌, Bool, true, false, not, List, [], ◌∷◌, ◌++◌, length, take, drop, codes, refl, ap, sym, ◌∙◌, subst, arith, Option, Some, None, if◌then◌else◌}
use Rattle.std.specs.List.{list_all, join_with_byte}
use Rattle.std.specs.Str.{bytes_eq}
use Rattle.std.proofs.lemmas.Bool.Decides.{nat_tests}
use Rattle.vm_script.specs.Words.{pieces_by, onto_first, ends_line}
use Rattle.vm_script.proofs.WordLemmas.{is_whole, piece_last, piece_then}
use Rattle.vm_report.specs.Reading.{is_space, words_of, later, last_equals}
use Rattle.vm_report.proofs.WordLemmas.{same_word, both}

-- ---- joined pieces

onto_joined : (c b : ℕ) (pieces : List (List ℕ)) → join_with_byte c (onto_first b pieces) ≡ b ∷ join_with_byte c pieces
onto_joined c b [] = refl
onto_joined c b (p ∷ []) = refl
onto_joined c b (p ∷ q ∷ ps) = refl

some_onto : (b : ℕ) (pieces : List (List ℕ)) → 0 < length (onto_first b pieces)
some_onto b [] = omega arith
some_onto b (p ∷ ps) = omega arith

pub some_pieces : (parts : ℕ → Bool) (bs : List ℕ) → 0 < length (pieces_by parts bs)
some_pieces parts [] = omega arith
some_pieces parts (b ∷ bs) = by_test (parts b)
  where
    by_test : (test : Bool) → 0 < length (if test then [] ∷ pieces_by parts bs else onto_first b (pieces_by parts bs))
    by_test true = omega arith
    by_test false = some_onto b (pieces_by parts bs)

empty_joined : (c : ℕ) (pieces : List (List ℕ)) → 0 < length pieces → join_with_byte c ([] ∷ pieces) ≡ c ∷ join_with_byte c pieces
empty_joined c [] h = absurd (omega arith)
empty_joined c (p ∷ ps) h = refl

-- the pieces of bytes, with the byte between them that parts them, are the bytes
pub pieces_joined : (c : ℕ) (parts : ℕ → Bool) → ((b : ℕ) → parts b ≡ true → b ≡ c) → (bs : List ℕ) → join_with_byte c (pieces_by parts bs) ≡ bs
pieces_joined c parts only [] = refl
pieces_joined c parts only (b ∷ bs) = by_test (parts b) refl (pieces_joined c parts only bs)
  where
    by_test : (test : Bool) → parts b ≡ test → join_with_byte c (pieces_by parts bs) ≡ bs → join_with_byte c (if test then [] ∷ pieces_by parts bs else onto_first b (pieces_by parts bs)) ≡ b ∷ bs
    by_test true e rest = empty_joined c (pieces_by parts bs) (some_pieces parts bs) ∙ rw (rest, only b e) refl
    by_test false e rest = onto_joined c b (pieces_by parts bs) ∙ ap (λ x. b ∷ x) rest

-- pieces that have no byte that parts are those of what is joined of them
pub joined_pieces : (c : ℕ) (parts : ℕ → Bool) → parts c ≡ true → (ws : List (List ℕ)) → list_all (is_whole parts) ws ≡ true → 0 < length ws → pieces_by parts (join_with_byte c ws) ≡ ws
joined_pieces c parts at [] h some = absurd (omega arith)
joined_pieces c parts at (w ∷ []) h some = piece_last parts w (both (is_whole parts w) true h).0
joined_pieces c parts at (w ∷ v ∷ ws) h some =
    let parted = both (is_whole parts w) (list_all (is_whole parts) (v ∷ ws)) h in
    piece_then parts w c (join_with_byte c (v ∷ ws)) parted.0 at ∙ ap (λ x. w ∷ x) (joined_pieces c parts at (v ∷ ws) parted.1 (omega arith))

space_is : (b : ℕ) → is_space b ≡ true → b ≡ 32
space_is b e = grind (arith, nat_tests)

newline_is : (b : ℕ) → ends_line b ≡ true → b ≡ 10
newline_is b e = grind (arith, nat_tests)

pub words_joined : (line : List ℕ) → join_with_byte 32 (words_of line) ≡ line
words_joined line = pieces_joined 32 is_space space_is line

pub lines_joined : (text : List ℕ) → join_with_byte 10 (pieces_by ends_line text) ≡ text
lines_joined text = pieces_joined 10 ends_line newline_is text

-- what holds of each byte holds of those of the pieces
onto_all : (p : ℕ → Bool) (b : ℕ) (pieces : List (List ℕ)) → p b ≡ true → list_all (list_all p) pieces ≡ true → list_all (list_all p) (onto_first b pieces) ≡ true
onto_all p b [] h k = rw h refl
onto_all p b (piece ∷ pieces) h k = let parted = both (list_all p piece) (list_all (list_all p) pieces) k in rw (h, parted.0, parted.1) refl

pub pieces_all : (p parts : ℕ → Bool) (bs : List ℕ) → list_all p bs ≡ true → list_all (list_all p) (pieces_by parts bs) ≡ true
pieces_all p parts [] h = refl
pieces_all p parts (b ∷ bs) h = let parted = both (p b) (list_all p bs) h in by_test (parts b) parted.0 (pieces_all p parts bs parted.1)
  where
    by_test : (test : Bool) → p b ≡ true → list_all (list_all p) (pieces_by parts bs) ≡ true → list_all (list_all p) (if test then [] ∷ pieces_by parts bs else onto_first b (pieces_by parts bs)) ≡ true
    by_test true first rest = rest
    by_test false first rest = onto_all p b (pieces_by parts bs) first rest

all_joined : (p : ℕ → Bool) (xs ys : List ℕ) → list_all p xs ≡ true → list_all p ys ≡ true → list_all p (xs ++ ys) ≡ true
all_joined p [] ys h k = k
all_joined p (x ∷ xs) ys h k = let parted = both (p x) (list_all p xs) h in rw (parted.0, all_joined p xs ys parted.1 k) refl

-- and of the bytes of what is joined
pub join_all : (p : ℕ → Bool) (c : ℕ) → p c ≡ true → (ws : List (List ℕ)) → list_all (list_all p) ws ≡ true → list_all p (join_with_byte c ws) ≡ true
join_all p c at [] h = refl
join_all p c at (w ∷ []) h = (both (list_all p w) true h).0
join_all p c at (w ∷ v ∷ ws) h =
    let parted = both (list_all p w) (list_all (list_all p) (v ∷ ws)) h in
    all_joined p w (c ∷ join_with_byte c (v ∷ ws)) parted.0 (rw (at, join_all p c at (v ∷ ws) parted.1) refl)

-- ---- the last equals sign

-- no word is an equals sign
abbrev pub no_equals : List (List ℕ) → Bool
no_equals ws = list_all (λ w. not (bytes_eq w (codes "="))) ws

not_true : (a : Bool) → not a ≡ true → a ≡ false
not_true true h = absurd (cc)
not_true false h = refl

pub none_equals : (ws : List (List ℕ)) → no_equals ws ≡ true → last_equals ws ≡ None
none_equals [] h = refl
none_equals (w ∷ ws) h =
    let parted = both (not (bytes_eq w (codes "="))) (no_equals ws) h in
    rw (none_equals ws parted.1, not_true (bytes_eq w (codes "=")) parted.0) refl

pub equals_at : (front back : List (List ℕ)) → no_equals back ≡ true → last_equals (front ++ codes "=" ∷ back) ≡ Some (length front)
equals_at [] back h = rw (none_equals back h) refl
equals_at (w ∷ front) back h = rw (equals_at front back h) (ap Some (let e : length front + 1 ≡ suc (length front) = omega arith in e))

-- the words before it, it, and those behind it
pub record Splits (ws : List (List ℕ)) (at : ℕ) : Type 0 where
  pub whole : take at ws ++ codes "=" ∷ drop (at + 1) ws ≡ ws
  pub within : at < length ws

pub equals_splits : (ws : List (List ℕ)) (at : ℕ) → last_equals ws ≡ Some at → Splits ws at
equals_splits [] at e = absurd (cc)
equals_splits (w ∷ ws) at e = by_later (last_equals ws) (bytes_eq w (codes "=")) refl refl e (equals_splits ws)
  where
    by_later : (o : Option ℕ) (here : Bool) → last_equals ws ≡ o → bytes_eq w (codes "=") ≡ here → later o here ≡ Some at → ((i : ℕ) → last_equals ws ≡ Some i → Splits ws i) → Splits (w ∷ ws) at
    by_later (Some i) here f g h rest =
        let is : i + 1 ≡ at = cc in
        let s = rest i f in
        let whole : take (i + 1) (w ∷ ws) ++ codes "=" ∷ drop (i + 1 + 1) (w ∷ ws) ≡ w ∷ ws =
        (let k : i + 1 ≡ suc i = omega arith in let m : suc i + 1 ≡ suc (i + 1) = omega arith in rw (k, m) (ap (λ x. w ∷ x) s.whole)) in
        subst (Splits (w ∷ ws)) is (record { whole = whole; within = (let n = s.within in omega (arith, n)) })
    by_later None true f g h rest =
        let is : 0 ≡ at = cc in
        let whole : codes "=" ∷ ws ≡ w ∷ ws = ap (λ x. x ∷ ws) (sym (same_word w (codes "=") g)) in
        subst (Splits (w ∷ ws)) is (record { whole = whole; within = omega arith })
    by_later None false f g h rest = absurd (cc)
