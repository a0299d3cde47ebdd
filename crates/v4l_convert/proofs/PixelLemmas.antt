-- A line that is made pixel by pixel is the one that is made by pairs.
use Rattle.std.proofs.Common.{◌≡◌, ℕ, zero, suc, ◌+◌, ◌*◌, ◌/◌, ◌%◌, List, ◌++◌, length, take, slice_index, true, arith, ap, sym, refl, subst, ◌∙◌, append_assoc}
use Rattle.std.proofs.Math.Nat.{mul_comm}
use Rattle.std.specs.List.{flat_map, range_with_len}
use Rattle.v4l_convert.proofs.ListLemmas.{flat_map_more}
use Rattle.v4l_convert.specs.declared.line_kind.LineKind.{LineKind}
use Rattle.v4l_convert.specs.declared.line_kind.LineKind.TheVariants.{Luma, LumaFirst, ChromaFirst, Chroma, BlueChroma, RedChroma, Primaries}
use Rattle.v4l_convert.specs.Lines.{chroma_in, converted_line, converted_pair, goes_by_pixels, has_places, line_size, luma_in, pixel_bytes}
use Rattle.v4l_format.specs.declared.colours.Colours.TheVariants.{Ycbcr}
use Rattle.v4l_format.specs.declared.sample_order.SampleOrder.{SampleOrder}
use Rattle.v4l_format.specs.declared.sample_order.SampleOrder.TheVariants.{Grey, Yuyv, Uyvy, Nv12, Yu12, Rgb3}
use Rattle.v4l_format.specs.SampleOrder.{colours_of, pixel_in}
use Rattle.v4l_format.specs.Triple.{turned}

-- what the pixel x of a row has in a line
abbrev pub pixel_piece : SampleOrder → LineKind → ℕ → List ℕ → ℕ → List ℕ
pixel_piece order kind w line x = pixel_bytes kind (luma_in order line x) (chroma_in order w line x)

pub length_pixel : (kind : LineKind) (luma chroma : ℕ) → length (pixel_bytes kind luma chroma) ≡ 2
length_pixel Luma luma chroma = refl
length_pixel LumaFirst luma chroma = refl
length_pixel ChromaFirst luma chroma = refl
length_pixel Chroma luma chroma = refl
length_pixel BlueChroma luma chroma = refl
length_pixel RedChroma luma chroma = refl
length_pixel Primaries luma chroma = refl

-- the Y of a pixel
luma_is : (order : SampleOrder) (w : ℕ) (line : List ℕ) (x : ℕ) → has_places order ≡ true → luma_in order line x ≡ (turned (colours_of order) Ycbcr (pixel_in order w 2 line x 0)).0
luma_is Grey w line x p = ap (slice_index line) (omega arith)
luma_is Yuyv w line x p = ap (slice_index line) (omega arith)
luma_is Uyvy w line x p = ap (slice_index line) (omega arith)
luma_is Nv12 w line x p = ap (slice_index line) (omega arith)
luma_is Yu12 w line x p = cc
luma_is Rgb3 w line x p = cc

-- the Cb and the Cr of two pixels
blue_is : (order : SampleOrder) (w : ℕ) (line : List ℕ) (k : ℕ) → has_places order ≡ true → chroma_in order w line (2 * k) ≡ (turned (colours_of order) Ycbcr (pixel_in order w 2 line (2 * k) 0)).1
blue_is Grey w line k p = refl
blue_is Yuyv w line k p = ap (slice_index line) (omega arith)
blue_is Uyvy w line k p = ap (slice_index line) (omega arith)
blue_is Nv12 w line k p = ap (slice_index line) (omega (arith, mul_comm w 2))
blue_is Yu12 w line k p = cc
blue_is Rgb3 w line k p = cc

red_is : (order : SampleOrder) (w : ℕ) (line : List ℕ) (k : ℕ) → has_places order ≡ true → chroma_in order w line (2 * k + 1) ≡ (turned (colours_of order) Ycbcr (pixel_in order w 2 line (2 * k) 0)).2
red_is Grey w line k p = refl
red_is Yuyv w line k p = ap (slice_index line) (omega arith)
red_is Uyvy w line k p = ap (slice_index line) (omega arith)
red_is Nv12 w line k p = ap (slice_index line) (omega (arith, mul_comm w 2))
red_is Yu12 w line k p = cc
red_is Rgb3 w line k p = cc

-- two pixels side by side are a pair
two_pixels : (order : SampleOrder) (kind : LineKind) (w : ℕ) (line : List ℕ) (k : ℕ) → goes_by_pixels order kind ≡ true → pixel_piece order kind w line (2 * k) ++ pixel_piece order kind w line (2 * k + 1) ≡ converted_pair order kind w 2 line 0 k
two_pixels order Luma w line k p = cc
two_pixels order LumaFirst w line k p =
    let left = luma_is order w line (2 * k) p in
    let right = luma_is order w line (2 * k + 1) p in
    let blue = blue_is order w line k p in
    let red = red_is order w line k p in
    cc
two_pixels order ChromaFirst w line k p =
    let left = luma_is order w line (2 * k) p in
    let right = luma_is order w line (2 * k + 1) p in
    let blue = blue_is order w line k p in
    let red = red_is order w line k p in
    cc
two_pixels order Chroma w line k p = cc
two_pixels order BlueChroma w line k p = cc
two_pixels order RedChroma w line k p = cc
two_pixels order Primaries w line k p = cc

-- pieces that are two by two others
by_twos : (f g : ℕ → List ℕ) (n : ℕ) → ((k : ℕ) → f (2 * k) ++ f (2 * k + 1) ≡ g k) → flat_map f (range_with_len 0 (2 * n)) ≡ flat_map g (range_with_len 0 n)
by_twos f g zero each = refl
by_twos f g (suc n) each =
    let two : 2 * suc n ≡ 2 * n + 1 + 1 = omega arith in
    let one : n + 1 ≡ suc n = omega arith in
    ap (λ m. flat_map f (range_with_len 0 m)) two
    ∙ flat_map_more f (2 * n + 1)
    ∙ ap (λ xs. xs ++ f (2 * n + 1)) (flat_map_more f (2 * n))
    ∙ append_assoc (flat_map f (range_with_len 0 (2 * n))) (f (2 * n)) (f (2 * n + 1))
    ∙ ap (λ xs. xs ++ (f (2 * n) ++ f (2 * n + 1))) (by_twos f g n each)
    ∙ ap (λ xs. flat_map g (range_with_len 0 n) ++ xs) (each n)
    ∙ sym (flat_map_more g n)
    ∙ ap (λ m. flat_map g (range_with_len 0 m)) one

packed_size : (order : SampleOrder) (kind : LineKind) (w : ℕ) → goes_by_pixels order kind ≡ true → w % 2 ≡ 0 → line_size kind w ≡ 2 * w
packed_size order Luma w p even = cc
packed_size order LumaFirst w p even = omega arith
packed_size order ChromaFirst w p even = omega arith
packed_size order Chroma w p even = cc
packed_size order BlueChroma w p even = cc
packed_size order RedChroma w p even = cc
packed_size order Primaries w p even = cc

pub made_of_pixels : (order order' : SampleOrder) (kind kind' : LineKind) (w : ℕ) (line out : List ℕ) (x : ℕ) → order ≡ order' → kind ≡ kind' → x ≡ w → w % 2 ≡ 0 → goes_by_pixels order' kind' ≡ true → take (2 * x) out ≡ flat_map (pixel_piece order kind w line) (range_with_len 0 x) → take (line_size kind' w) out ≡ converted_line order' kind' w 2 line 0
unfolding converted_line
made_of_pixels order order' kind kind' w line out x p q r even by_pixels made =
    let here : take (2 * w) out ≡ flat_map (pixel_piece order' kind' w line) (range_with_len 0 w) =
    subst (λ n. take (2 * n) out ≡ flat_map (pixel_piece order' kind' w line) (range_with_len 0 n)) r (rw (← p, ← q) made) in
    let all : w ≡ 2 * (w / 2) = omega arith in
    ap (λ n. take n out) (packed_size order' kind' w by_pixels even)
    ∙ here
    ∙ ap (λ n. flat_map (pixel_piece order' kind' w line) (range_with_len 0 n)) all
    ∙ by_twos (pixel_piece order' kind' w line) (converted_pair order' kind' w 2 line 0) (w / 2) (λ k. two_pixels order' kind' w line k by_pixels)
