-- Lines: how long they are, and what they are made of.
use Rattle.std.proofs.Common.{◌≡◌, ◌<◌, ◌≤◌, ℕ, zero, suc, ◌+◌, ◌*◌, ◌/◌, ◌-◌, List, ◌++◌, length, take, drop, arith, ap, sym, refl, subst, ◌∙◌, append_assoc}
use Rattle.std.proofs.lemmas.Grind.{common_steps}
use Rattle.std.proofs.lemmas.List.{take_at, length-append, length-drop, length-take-le, take-append-drop}
use Rattle.std.proofs.lemmas.Nat.{mul-le}
use Rattle.std.proofs.Math.Seq.{drop-append-add, take-add}
use Rattle.std.specs.List.{flat_map, range_with_len}
use Rattle.v4l_convert.proofs.ListLemmas.{flat_map_more, length_pieces}
use Rattle.v4l_convert.proofs.RowLemmas.{IsRow}
use Rattle.v4l_convert.specs.declared.line_kind.LineKind.{LineKind}
use Rattle.v4l_convert.specs.declared.line_kind.LineKind.TheVariants.{Luma, LumaFirst, ChromaFirst, Chroma, BlueChroma, RedChroma, Primaries}
use Rattle.v4l_convert.specs.Lines.{colours_in, converted_line, converted_lines, converted_pair, line_size, pair_bytes, pair_size, plane_size, rows_of}
use Rattle.v4l_format.specs.declared.sample_order.SampleOrder.{SampleOrder}
use Rattle.v4l_format.specs.declared.triple.Triple.{Triple}
use Rattle.v4l_format.specs.SampleOrder.{colours_of, pixel_in}
use Rattle.v4l_format.specs.Triple.{turned}

pub length_pair : (kind : LineKind) (left right : Triple) → length (pair_bytes kind left right) ≡ pair_size kind
length_pair Luma left right = refl
length_pair LumaFirst left right = refl
length_pair ChromaFirst left right = refl
length_pair Chroma left right = refl
length_pair BlueChroma left right = refl
length_pair RedChroma left right = refl
length_pair Primaries left right = refl

pub made_line : (order : SampleOrder) (order' : SampleOrder) (kind : LineKind) (kind' : LineKind) (w : ℕ) (line out : List ℕ) (k : ℕ) → order ≡ order' → kind ≡ kind' → k ≡ w / 2 → take (pair_size kind * k) out ≡ flat_map (converted_pair order kind w 2 line 0) (range_with_len 0 k) → take (line_size kind' w) out ≡ converted_line order' kind' w 2 line 0
unfolding converted_line
made_line order order' kind kind' w line out k p q r made = rw (← p, ← q, ← r) made

pub length_line : (order : SampleOrder) (kind : LineKind) (w h : ℕ) (bytes : List ℕ) (y : ℕ) → length (converted_line order kind w h bytes y) ≡ line_size kind w
unfolding converted_line
length_line order kind w h bytes y = length_pieces (converted_pair order kind w h bytes y) (pair_size kind) 0 (w / 2) (λ k. length_pair kind _ _)

pub length_lines : (order : SampleOrder) (kind : LineKind) (w h : ℕ) (bytes : List ℕ) (n : ℕ) → length (converted_lines order kind w h bytes n) ≡ line_size kind w * n
unfolding converted_lines
length_lines order kind w h bytes n =
    length_pieces (λ m. converted_line order kind w h bytes (rows_of kind * m)) (line_size kind w) 0 n (λ m. length_line order kind w h bytes (rows_of kind * m))

pieces_same : (f g : ℕ → List ℕ) (a n : ℕ) → ((k : ℕ) → k < a + n → f k ≡ g k) → flat_map f (range_with_len a n) ≡ flat_map g (range_with_len a n)
pieces_same f g a zero same = refl
pieces_same f g a (suc n) same =
    ap (λ xs. xs ++ flat_map f (range_with_len (a + 1) n)) (same a (omega arith))
    ∙ ap (λ xs. g a ++ xs) (pieces_same f g (a + 1) n (λ k low. same k (omega arith)))

-- the line of a row that was read is that of the picture's row
pub line_same : (order : SampleOrder) (kind : LineKind) (w h y : ℕ) (line bytes : List ℕ) → IsRow order w h y line bytes → converted_line order kind w 2 line 0 ≡ converted_line order kind w h bytes y
unfolding converted_line
line_same order kind w h y line bytes row =
    pieces_same (converted_pair order kind w 2 line 0) (converted_pair order kind w h bytes y) 0 (w / 2)
    (λ k low.
    ap (λ t. pair_bytes kind (turned (colours_of order) (colours_in kind) t) (turned (colours_of order) (colours_in kind) (pixel_in order w 2 line (2 * k + 1) 0))) (row (2 * k) (omega arith))
    ∙ ap (λ t. pair_bytes kind (turned (colours_of order) (colours_in kind) (pixel_in order w h bytes (2 * k) y)) (turned (colours_of order) (colours_in kind) t)) (row (2 * k + 1) (omega arith)))

lines_more : (order : SampleOrder) (kind : LineKind) (w h : ℕ) (bytes : List ℕ) (n : ℕ) → converted_lines order kind w h bytes (n + 1) ≡ converted_lines order kind w h bytes n ++ converted_line order kind w h bytes (rows_of kind * n)
unfolding converted_lines
lines_more order kind w h bytes n = flat_map_more (λ m. converted_line order kind w h bytes (rows_of kind * m)) n

drop_behind : (front back : List ℕ) (at n : ℕ) → length front ≡ at → drop (at + n) (front ++ back) ≡ drop n back
drop_behind front back at n is = ap (λ m. drop (m + n) (front ++ back)) (sym is) ∙ drop-append-add front back n

drop_further : (xs : List ℕ) (a b : ℕ) → drop b (drop a xs) ≡ drop (a + b) xs
drop_further xs a b = grind (arith, common_steps)

-- a line more behind those that were written
pub plane_more : (order : SampleOrder) (kind : LineKind) (w h : ℕ) (bytes : List ℕ) (n : ℕ) (old now line : List ℕ) (start at : ℕ) → now ≡ take start old ++ (converted_lines order kind w h bytes n ++ drop (start + line_size kind w * n) old) → at ≡ start + line_size kind w * n → line ≡ converted_line order kind w h bytes (rows_of kind * n) → at + line_size kind w ≤ length old → take at now ++ (line ++ drop (at + length line) now) ≡ take start old ++ (converted_lines order kind w h bytes (n + 1) ++ drop (start + line_size kind w * (n + 1)) old)
plane_more order kind w h bytes n old now line start at is there made room =
    let front = take start old in
    let lines = converted_lines order kind w h bytes n in
    let size = line_size kind w in
    let long : length line ≡ size = ap (λ (xs : List ℕ). length xs) made ∙ length_line order kind w h bytes (rows_of kind * n) in
    let before : length (front ++ lines) ≡ at = length-append front lines ∙ omega (arith, length-take-le start old (omega arith), length_lines order kind w h bytes n) in
    let parts : now ≡ (front ++ lines) ++ drop at old = is ∙ ap (λ m. front ++ (lines ++ drop m old)) (sym there) ∙ sym (append_assoc front lines (drop at old)) in
    let kept : take at now ≡ front ++ lines = ap (take at) parts ∙ take_at (front ++ lines) (drop at old) at before in
    let left : drop (at + length line) now ≡ drop (at + length line) old =
    ap (drop (at + length line)) parts ∙ drop_behind (front ++ lines) (drop at old) at (length line) before ∙ drop_further old at (length line) in
    let end : at + length line ≡ start + size * (n + 1) = omega arith in
    ap (λ xs. xs ++ (line ++ drop (at + length line) now)) kept
    ∙ ap (λ xs. (front ++ lines) ++ (line ++ xs)) left
    ∙ ap (λ m. (front ++ lines) ++ (line ++ drop m old)) end
    ∙ append_assoc front lines (line ++ drop (start + size * (n + 1)) old)
    ∙ ap (λ xs. front ++ xs) (sym (append_assoc lines line (drop (start + size * (n + 1)) old)))
    ∙ ap (λ xs. front ++ ((lines ++ xs) ++ drop (start + size * (n + 1)) old)) made
    ∙ ap (λ xs. front ++ (xs ++ drop (start + size * (n + 1)) old)) (sym (lines_more order kind w h bytes n))

pub pair_fits : (kind : LineKind) (w k : ℕ) → w ≤ 640 → k < w / 2 → pair_size kind * k + pair_size kind ≤ 1920
pair_fits Luma w k high low = omega arith
pair_fits LumaFirst w k high low = omega arith
pair_fits ChromaFirst w k high low = omega arith
pair_fits Chroma w k high low = omega arith
pair_fits BlueChroma w k high low = omega arith
pair_fits RedChroma w k high low = omega arith
pair_fits Primaries w k high low = omega arith

pub line_fits : (kind : LineKind) (w : ℕ) → w ≤ 640 → line_size kind w ≤ 1920
line_fits Luma w high = omega arith
line_fits LumaFirst w high = omega arith
line_fits ChromaFirst w high = omega arith
line_fits Chroma w high = omega arith
line_fits BlueChroma w high = omega arith
line_fits RedChroma w high = omega arith
line_fits Primaries w high = omega arith

-- before the first line
pub plane_begin : (order : SampleOrder) (kind : LineKind) (w h : ℕ) (bytes old : List ℕ) (start : ℕ) → old ≡ take start old ++ (converted_lines order kind w h bytes 0 ++ drop (start + line_size kind w * 0) old)
unfolding converted_lines
plane_begin order kind w h bytes old start =
    let none : start ≡ start + line_size kind w * 0 = omega arith in
    sym (take-append-drop start old) ∙ ap (λ m. take start old ++ drop m old) none

-- a line that is written lies in its plane
pub line_in_plane : (size n all : ℕ) → n < all → size * n + size ≤ size * all
line_in_plane size n all low =
    let next : n + 1 ≤ all = omega arith in
    let same : size ≤ size = omega arith in
    omega (arith, mul-le size (n + 1) size all same next)

-- one plane, and one behind those that stand there
pub joined_one : (old now plane : List ℕ) (n : ℕ) → now ≡ take 0 old ++ (plane ++ drop (0 + n) old) → now ≡ plane ++ drop n old
joined_one old now plane n is =
    let same : 0 + n ≡ n = omega arith in
    is ∙ ap (λ m. plane ++ drop m old) same

pub joined_more : (old one now front plane : List ℕ) (start n : ℕ) → one ≡ front ++ drop start old → length front ≡ start → now ≡ take start one ++ (plane ++ drop (start + n) one) → now ≡ (front ++ plane) ++ drop (start + n) old
joined_more old one now front plane start n is long then =
    then
    ∙ ap (λ xs. take start xs ++ (plane ++ drop (start + n) one)) is
    ∙ ap (λ xs. xs ++ (plane ++ drop (start + n) one)) (take_at front (drop start old) start long)
    ∙ ap (λ xs. front ++ (plane ++ drop (start + n) xs)) is
    ∙ ap (λ xs. front ++ (plane ++ xs)) (drop_behind front (drop start old) start n long ∙ drop_further old start n)
    ∙ sym (append_assoc front plane (drop (start + n) old))

-- where a line is written
pub placed : (kind : LineKind) (w h n at start len size rows : ℕ) → size ≡ pair_size kind → rows ≡ rows_of kind → n < h / rows → at ≡ start + line_size kind w * n → start + plane_size w h kind ≤ len → at + size * (w / 2) ≤ len
placed kind w h n at start len size rows p q low is room =
    let near : n < h / rows_of kind = subst (λ r. n < h / r) q low in
    let same : size * (w / 2) ≡ line_size kind w = ap (λ m. m * (w / 2)) p in
    omega (arith, line_in_plane (line_size kind w) n (h / rows_of kind) near)

pub row_is : (o o' : SampleOrder) (w h y y' : ℕ) (line bytes : List ℕ) → o ≡ o' → y ≡ y' → IsRow o w h y line bytes → IsRow o' w h y' line bytes
row_is o o' w h y y' line bytes p q row = rw (← p, ← q) row

pub length_written : (xs ys : List ℕ) (at : ℕ) → at + length ys ≤ length xs → length (take at xs ++ (ys ++ drop (at + length ys) xs)) ≡ length xs
length_written xs ys at room = grind (arith, common_steps)

-- a part more is copied
pub copied_more : (src old now piece : List ℕ) (at len : ℕ) → now ≡ take at src ++ drop at old → piece ≡ take len (drop at src) → at + len ≤ length src → at + len ≤ length old → take at now ++ (piece ++ drop (at + length piece) now) ≡ take (at + len) src ++ drop (at + len) old
copied_more src old now piece at len is there whole room =
    let front : length (take at src) ≡ at = length-take-le at src (omega arith) in
    let left : length (drop at src) ≡ length src - at = length-drop at src in
    let long : length piece ≡ len = ap (λ (xs : List ℕ). length xs) there ∙ length-take-le len (drop at src) (omega arith) in
    let kept : take at now ≡ take at src = ap (take at) is ∙ take_at (take at src) (drop at old) at front in
    let behind : drop (at + length piece) now ≡ drop (at + length piece) old =
    ap (drop (at + length piece)) is ∙ drop_behind (take at src) (drop at old) at (length piece) front ∙ drop_further old at (length piece) in
    ap (λ xs. xs ++ (piece ++ drop (at + length piece) now)) kept
    ∙ ap (λ xs. take at src ++ (piece ++ xs)) behind
    ∙ ap (λ m. take at src ++ (piece ++ drop (at + m) old)) long
    ∙ ap (λ xs. take at src ++ (xs ++ drop (at + len) old)) there
    ∙ sym (append_assoc (take at src) (take len (drop at src)) (drop (at + len) old))
    ∙ ap (λ xs. xs ++ drop (at + len) old) (sym (take-add at len src))
