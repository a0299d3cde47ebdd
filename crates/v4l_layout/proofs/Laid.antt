-- Writing fields one after another over zeros lays a record out, and what is laid out reads back.
use Rattle.std.proofs.Common.{◌≡◌, suc, zero, ◌+◌, ◌-◌, ◌<◌, ◌≤◌, ◌++◌, ℕ, List, [], ◌∷◌, length, take, drop, get_or, refl, sym, ap, ◌∙◌, append_assoc, length-append, subst, arith}
use Rattle.std.specs.Prelude.{replicate}
use Rattle.std.proofs.lemmas.List.{at_drop_all, length-take-le, take_at, drop_at, take-append-le, drop-append-le, take-replicate, drop-replicate, length-replicate}
use Rattle.std.proofs.Math.Seq.{take-append-add, drop-append-add}
use Rattle.std.proofs.lemmas.Nat.{from_le_bytes-to_le_bytes_4, from_le_bytes-to_le_bytes_8}
use Rattle.v4l_layout.specs.declared.field.Field.{Field}
use Rattle.v4l_layout.specs.declared.field.Value.{Value}
use Rattle.v4l_layout.specs.declared.field.Value.TheVariants.{Byte, Le32, Le64, Bytes16, Bytes32, Bytes64}
use Rattle.v4l_layout.specs.Layout.{Holds, IsInType, IsLaid, ReadsAs, bytes_of, layout_from, width}

-- bytes with a field's set
abbrev pub put_in : List ℕ → Field → List ℕ
put_in bytes f = take f.at bytes ++ (bytes_of f.value ++ drop (f.at + width f.value) bytes)

-- bytes with each field's set, in order
abbrev pub put_all : List ℕ → List Field → List ℕ
put_all bytes [] = bytes
put_all bytes (f ∷ fs) = put_all (put_in bytes f) fs

-- a value takes the bytes of its width
pub length_of_value : (v : Value) → IsInType v → length (bytes_of v) ≡ width v
length_of_value (Byte n) h = refl
length_of_value (Le32 n) h = refl
length_of_value (Le64 n) h = refl
length_of_value (Bytes16 bs) h = h
length_of_value (Bytes32 bs) h = h
length_of_value (Bytes64 bs) h = h

-- these bytes hold the value
pub value_holds : (v : Value) → IsInType v → Holds (bytes_of v) v
value_holds (Byte n) h = refl
value_holds (Le32 n) h = from_le_bytes-to_le_bytes_4 n h
value_holds (Le64 n) h = from_le_bytes-to_le_bytes_8 n h
value_holds (Bytes16 bs) h = refl
value_holds (Bytes32 bs) h = refl
value_holds (Bytes64 bs) h = refl

-- fields that are laid from a place on have that place in the record
pub laid_within : (size at : ℕ) (fs : List Field) → IsLaid size at fs → at ≤ size
laid_within size at [] h = h
laid_within size at (f ∷ fs) h =
    let rest = laid_within size (f.at + width f.value) fs h.2 in omega (arith, h.0)

-- each field that is laid ends in the record
pub field_within : (size at : ℕ) (fs : List Field) (i : ℕ) (d : Field) → IsLaid size at fs → i < length fs → (get_or fs i d).at + width (get_or fs i d).value ≤ size
field_within size at [] i d h below = absurd (omega arith)
field_within size at (f ∷ fs) zero d h below = laid_within size (f.at + width f.value) fs h.2
field_within size at (f ∷ fs) (suc i) d h below = field_within size (f.at + width f.value) fs i d h.2 (omega arith)

-- the front of zeros behind something
take_zeros : (front rest : List ℕ) (n gap to : ℕ) → to ≡ length front + gap → gap ≤ n → take to (front ++ (replicate n 0 ++ rest)) ≡ front ++ replicate gap 0
take_zeros front rest n gap to there below =
    let zeros : List ℕ = replicate n 0 in
    let short : gap ≤ length zeros = omega (arith, length-replicate {A = ℕ} n 0) in
    ap (λ i. take i (front ++ (zeros ++ rest))) there
    ∙ take-append-add front (zeros ++ rest) gap
    ∙ ap (λ t. front ++ t) (take-append-le gap zeros rest short ∙ take-replicate gap n 0 below)

-- what is left of them
drop_zeros : (front rest : List ℕ) (n gap to : ℕ) → to ≡ length front + gap → gap ≤ n → drop to (front ++ (replicate n 0 ++ rest)) ≡ replicate (n - gap) 0 ++ rest
drop_zeros front rest n gap to there below =
    let zeros : List ℕ = replicate n 0 in
    let short : gap ≤ length zeros = omega (arith, length-replicate {A = ℕ} n 0) in
    ap (λ i. drop i (front ++ (zeros ++ rest))) there
    ∙ drop-append-add front (zeros ++ rest) gap
    ∙ drop-append-le gap zeros rest short
    ∙ ap (λ t. t ++ rest) (drop-replicate gap n 0)

-- setting a field over zeros leaves zeros before and behind it
put_over_zeros : (size at : ℕ) (front rest : List ℕ) (f : Field) → length front ≡ at → at ≤ f.at → f.at + width f.value ≤ size →
    put_in (front ++ (replicate (size - at) 0 ++ rest)) f ≡ (front ++ (replicate (f.at - at) 0 ++ bytes_of f.value)) ++ (replicate (size - (f.at + width f.value)) 0 ++ rest)
put_over_zeros size at front rest f here after within =
    let left : size - at - (f.at + width f.value - at) ≡ size - (f.at + width f.value) = omega arith in
    let before = take_zeros front rest (size - at) (f.at - at) f.at (omega arith) (omega arith) in
    let behind = drop_zeros front rest (size - at) (f.at + width f.value - at) (f.at + width f.value) (omega arith) (omega arith) in
    rw (before, behind, left) (simp append_assoc)

-- what stands before and in a field ends where the field does
length_to_end : (at : ℕ) (front : List ℕ) (f : Field) → length front ≡ at → at ≤ f.at → IsInType f.value →
    length (front ++ (replicate (f.at - at) 0 ++ bytes_of f.value)) ≡ f.at + width f.value
length_to_end at front f here after held =
    simp (length-append, length-replicate) (omega (arith, length_of_value f.value held))

-- fields set over zeros lay a record out
pub zeros_then_fields : (size at : ℕ) (front rest : List ℕ) (fs : List Field) → length front ≡ at → IsLaid size at fs →
    put_all (front ++ (replicate (size - at) 0 ++ rest)) fs ≡ front ++ (layout_from size at fs ++ rest)
zeros_then_fields size at front rest [] here h = refl
zeros_then_fields size at front rest (f ∷ fs) here h =
    let end : ℕ = f.at + width f.value in
    let put = put_over_zeros size at front rest f here h.0 (laid_within size end fs h.2) in
    let others = zeros_then_fields size end (front ++ (replicate (f.at - at) 0 ++ bytes_of f.value)) rest fs (length_to_end at front f here h.0 h.1) h.2 in
    rw (put, others) (simp append_assoc)

-- a record that is laid out reads back
pub laid_reads_back : (size at : ℕ) (front rest : List ℕ) (fs : List Field) → length front ≡ at → IsLaid size at fs →
    ReadsAs (front ++ (layout_from size at fs ++ rest)) fs
laid_reads_back size at front rest [] here h = tt
laid_reads_back size at front rest (f ∷ fs) here h =
    let end : ℕ = f.at + width f.value in
    let gap : List ℕ = replicate (f.at - at) 0 in
    let more : List ℕ = layout_from size end fs ++ rest in
    let starts : length (front ++ gap) ≡ f.at = simp (length-append, length-replicate) (omega arith) in
    let regroup : front ++ ((gap ++ (bytes_of f.value ++ layout_from size end fs)) ++ rest) ≡ (front ++ gap) ++ (bytes_of f.value ++ more) = simp append_assoc in
    let piece : take (width f.value) (drop f.at (front ++ (layout_from size at (f ∷ fs) ++ rest))) ≡ bytes_of f.value =
    ap (λ t. take (width f.value) (drop f.at t)) regroup
    ∙ ap (λ t. take (width f.value) t) (drop_at (front ++ gap) (bytes_of f.value ++ more) f.at starts)
    ∙ take_at (bytes_of f.value) more (width f.value) (length_of_value f.value h.1) in
    let others = laid_reads_back size end (front ++ (gap ++ bytes_of f.value)) rest fs (length_to_end at front f here h.0 h.1) h.2 in
    let again : (front ++ (gap ++ bytes_of f.value)) ++ more ≡ front ++ (layout_from size at (f ∷ fs) ++ rest) = simp append_assoc in
    (subst (λ (t : List ℕ). Holds t f.value) (sym piece) (value_holds f.value h.1), subst (λ (t : List ℕ). ReadsAs t fs) again others)

-- what stands after the fields were set one after another over zeros
pub all_written : (size i : ℕ) (old zeros now : List ℕ) (fs : List Field) → size ≤ length old → zeros ≡ replicate (length (take size old)) 0 →
    put_all now (drop i fs) ≡ put_all (zeros ++ drop size old) fs → length fs ≤ i → IsLaid size 0 fs →
    now ≡ layout_from size 0 fs ++ drop size old
all_written size i old zeros now fs long zeroed same past h =
    let none_left : put_all now (drop i fs) ≡ now = at_drop_all (put_all now) fs i past in
    let all_zero : zeros ≡ replicate size 0 = zeroed ∙ ap (λ n. replicate n 0) (length-take-le size old long) in
    let from_front : put_all (replicate size 0 ++ drop size old) fs ≡ layout_from size 0 fs ++ drop size old =
    subst (λ (n : ℕ). put_all (replicate n 0 ++ drop size old) fs ≡ layout_from size 0 fs ++ drop size old) (omega arith) (zeros_then_fields size 0 [] (drop size old) fs refl h) in
    sym none_left ∙ same ∙ ap (λ z. put_all (z ++ drop size old) fs) all_zero ∙ from_front

-- a record that is laid out has its size
pub length_laid : (size at : ℕ) (fs : List Field) → IsLaid size at fs → length (layout_from size at fs) + at ≡ size
length_laid size at [] h = omega (arith, length-replicate {A = ℕ} (size - at) 0)
length_laid size at (f ∷ fs) h =
    let rest = length_laid size (f.at + width f.value) fs h.2 in
    simp (length-append, length-replicate) (omega (arith, length_of_value f.value h.1, h.0, laid_within size (f.at + width f.value) fs h.2))
