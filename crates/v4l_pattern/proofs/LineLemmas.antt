-- The bytes of a picture are those of its planes' lines.
use Rattle.std.proofs.Common.{◌≡◌, ◌<◌, ℕ, ◌+◌, ◌-◌, ◌*◌, ◌/◌, ◌%◌, ◌==◌, nat_lt, arith, ap, sym, refl, ◌∙◌}
use Rattle.std.proofs.Math.Nat.{mul_comm, mul_assoc}
use Rattle.std.proofs.lemmas.Bool.{cond-true, cond-false, eq-eqb, ne_eqb, lt-ltb, le-ltb}
use Rattle.std.proofs.lemmas.Nat.{div-add-mod', mod_below}
use Rattle.v4l_format.proofs.Choices.{of_two, of_three, of_four}
use Rattle.v4l_format.specs.declared.carried.Carried.{Carried}
use Rattle.v4l_format.specs.declared.colours.Colours.TheVariants.{Ycbcr}
use Rattle.v4l_format.specs.declared.sample_order.SampleOrder.{SampleOrder}
use Rattle.v4l_format.specs.declared.sample_order.SampleOrder.TheVariants.{Grey, Yuyv, Uyvy, Nv12, Yu12, Rgb3}
use Rattle.v4l_format.specs.declared.triple.Triple.{Triple}
use Rattle.v4l_format.specs.SampleOrder.{carried_by, colours_of}
use Rattle.v4l_format.specs.Triple.{component_of, turned, rgb_of}
use Rattle.v4l_image.proofs.PlaceLemmas.{column, line}
use Rattle.v4l_pattern.specs.declared.line_kind.LineKind.{LineKind}
use Rattle.v4l_pattern.specs.declared.line_kind.LineKind.TheVariants.{Luma, LumaFirst, ChromaFirst, Primaries, Chroma, BlueChroma, RedChroma}
use Rattle.v4l_pattern.specs.Lines.{line_byte}

-- what a byte that carries c has, where these are the pixels
abbrev pub shown : SampleOrder → (ℕ → ℕ → Triple) → Carried → ℕ
shown o pixel c = component_of (turned Ycbcr (colours_of o) (pixel c.x c.y)) c.component

-- byte i of a plane of lines of n bytes
abbrev pub of_line : LineKind → (ℕ → ℕ → Triple) → ℕ → ℕ → ℕ
of_line kind pixel n i = line_byte kind (λ x. pixel x (i / n)) (i % n)

-- ---- a byte of a line, by what it is in its pair or pixel
first_luma : (pixel : ℕ → Triple) (k : ℕ) → k % 2 ≡ 0 → line_byte LumaFirst pixel k ≡ (pixel (k / 2)).0
first_luma pixel k e = cond-true (k % 2 == 0) _ _ (eq-eqb (k % 2) 0 e)

first_blue : (pixel : ℕ → Triple) (k : ℕ) → k % 4 ≡ 1 → line_byte LumaFirst pixel k ≡ (pixel (2 * (k / 4))).1
first_blue pixel k e = cond-false (k % 2 == 0) _ _ (ne_eqb (k % 2) 0 (λ f. omega arith)) ∙ cond-true (k % 4 == 1) _ _ (eq-eqb (k % 4) 1 e)

first_red : (pixel : ℕ → Triple) (k : ℕ) → k % 4 ≡ 3 → line_byte LumaFirst pixel k ≡ (pixel (2 * (k / 4))).2
first_red pixel k e = cond-false (k % 2 == 0) _ _ (ne_eqb (k % 2) 0 (λ f. omega arith)) ∙ cond-false (k % 4 == 1) _ _ (ne_eqb (k % 4) 1 (λ f. omega arith))

second_luma : (pixel : ℕ → Triple) (k : ℕ) → k % 2 ≡ 1 → line_byte ChromaFirst pixel k ≡ (pixel (k / 2)).0
second_luma pixel k e = cond-true (k % 2 == 1) _ _ (eq-eqb (k % 2) 1 e)

second_blue : (pixel : ℕ → Triple) (k : ℕ) → k % 4 ≡ 0 → line_byte ChromaFirst pixel k ≡ (pixel (2 * (k / 4))).1
second_blue pixel k e = cond-false (k % 2 == 1) _ _ (ne_eqb (k % 2) 1 (λ f. omega arith)) ∙ cond-true (k % 4 == 0) _ _ (eq-eqb (k % 4) 0 e)

second_red : (pixel : ℕ → Triple) (k : ℕ) → k % 4 ≡ 2 → line_byte ChromaFirst pixel k ≡ (pixel (2 * (k / 4))).2
second_red pixel k e = cond-false (k % 2 == 1) _ _ (ne_eqb (k % 2) 1 (λ f. omega arith)) ∙ cond-false (k % 4 == 0) _ _ (ne_eqb (k % 4) 0 (λ f. omega arith))

in_red : (pixel : ℕ → Triple) (k : ℕ) → k % 3 ≡ 0 → line_byte Primaries pixel k ≡ (rgb_of (pixel (k / 3))).0
in_red pixel k e = cond-true (k % 3 == 0) _ _ (eq-eqb (k % 3) 0 e)

in_green : (pixel : ℕ → Triple) (k : ℕ) → k % 3 ≡ 1 → line_byte Primaries pixel k ≡ (rgb_of (pixel (k / 3))).1
in_green pixel k e = cond-false (k % 3 == 0) _ _ (ne_eqb (k % 3) 0 (λ f. omega arith)) ∙ cond-true (k % 3 == 1) _ _ (eq-eqb (k % 3) 1 e)

in_blue : (pixel : ℕ → Triple) (k : ℕ) → k % 3 ≡ 2 → line_byte Primaries pixel k ≡ (rgb_of (pixel (k / 3))).2
in_blue pixel k e = cond-false (k % 3 == 0) _ _ (ne_eqb (k % 3) 0 (λ f. omega arith)) ∙ cond-false (k % 3 == 1) _ _ (ne_eqb (k % 3) 1 (λ f. omega arith))

cb_first : (pixel : ℕ → Triple) (k : ℕ) → k % 2 ≡ 0 → line_byte Chroma pixel k ≡ (pixel (2 * (k / 2))).1
cb_first pixel k e = cond-true (k % 2 == 0) _ _ (eq-eqb (k % 2) 0 e)

cr_second : (pixel : ℕ → Triple) (k : ℕ) → k % 2 ≡ 1 → line_byte Chroma pixel k ≡ (pixel (2 * (k / 2))).2
cr_second pixel k e = cond-false (k % 2 == 0) _ _ (ne_eqb (k % 2) 0 (λ f. omega arith))

-- ---- the place of a byte in its line, where c bytes are m units of c
record IsPlace (i c m : ℕ) : Type 0 where
  across : i / c % m ≡ i % (c * m) / c
  down : i / c / m ≡ i / (c * m)
  within : i % c ≡ i % (c * m) % c

times_out : (c y m : ℕ) → y * (c * m) ≡ c * (y * m)
times_out c y m = sym (mul_assoc y c m) ∙ ap (λ n. n * m) (mul_comm y c) ∙ mul_assoc c y m

pairs_place : (i m : ℕ) → 0 < m → IsPlace i 4 m
pairs_place i m some =
    let y : ℕ = i / (4 * m) in
    let b : ℕ = i % (4 * m) in
    let whole : y * (4 * m) + b ≡ i = div-add-mod' i (4 * m) in
    let out : y * (4 * m) ≡ 4 * (y * m) = times_out 4 y m in
    let low : b < 4 * m = mod_below i (4 * m) (omega arith) in
    let unit : i / 4 ≡ y * m + b / 4 = omega arith in
    record {
      across = column (i / 4) m (b / 4) y (omega arith) unit;
      down = line (i / 4) m (b / 4) y (omega arith) unit;
      within = omega arith;
    }

thirds_place : (i m : ℕ) → 0 < m → IsPlace i 3 m
thirds_place i m some =
    let y : ℕ = i / (3 * m) in
    let b : ℕ = i % (3 * m) in
    let whole : y * (3 * m) + b ≡ i = div-add-mod' i (3 * m) in
    let out : y * (3 * m) ≡ 3 * (y * m) = times_out 3 y m in
    let low : b < 3 * m = mod_below i (3 * m) (omega arith) in
    let unit : i / 3 ≡ y * m + b / 3 = omega arith in
    record {
      across = column (i / 3) m (b / 3) y (omega arith) unit;
      down = line (i / 3) m (b / 3) y (omega arith) unit;
      within = omega arith;
    }

halves_place : (i m : ℕ) → 0 < m → IsPlace i 2 m
halves_place i m some =
    let y : ℕ = i / (2 * m) in
    let b : ℕ = i % (2 * m) in
    let whole : y * (2 * m) + b ≡ i = div-add-mod' i (2 * m) in
    let out : y * (2 * m) ≡ 2 * (y * m) = times_out 2 y m in
    let low : b < 2 * m = mod_below i (2 * m) (omega arith) in
    let unit : i / 2 ≡ y * m + b / 2 = omega arith in
    record {
      across = column (i / 2) m (b / 2) y (omega arith) unit;
      down = line (i / 2) m (b / 2) y (omega arith) unit;
      within = omega arith;
    }

-- ---- the formats of one plane
pub grey_line : (pixel : ℕ → ℕ → Triple) (w h i : ℕ) → shown Grey pixel (carried_by Grey w h i) ≡ of_line Luma pixel w i
grey_line pixel w h i = refl

at_pixel : (f : Triple → ℕ) (pixel : ℕ → ℕ → Triple) (x y v u : ℕ) → x ≡ v → y ≡ u → f (pixel x y) ≡ f (pixel v u)
at_pixel f pixel x y v u e g = ap (λ n. f (pixel n y)) e ∙ ap (λ n. f (pixel v n)) g

yuyv_pairs : (pixel : ℕ → ℕ → Triple) (w h m i : ℕ) → w / 2 ≡ m → 0 < m → shown Yuyv pixel (carried_by Yuyv w h i) ≡ of_line LumaFirst pixel (4 * m) i
yuyv_pairs pixel w h m i half some =
    let p = pairs_place i m some in
    let b : ℕ = i % (4 * m) in
    let row : ℕ → Triple = λ x. pixel x (i / (4 * m)) in
    let across : i / 4 % (w / 2) ≡ b / 4 = ap (λ n. i / 4 % n) half ∙ p.across in
    let down : i / 4 / (w / 2) ≡ i / (4 * m) = ap (λ n. i / 4 / n) half ∙ p.down in
    let within : i % 4 ≡ b % 4 = p.within in
    of_four (λ c. shown Yuyv pixel c ≡ of_line LumaFirst pixel (4 * m) i) (i % 4) _ _ _ _ (omega arith)
    (λ e. at_pixel (λ t. t.0) pixel _ _ (b / 2) _ (omega arith) down ∙ sym (first_luma row b (omega arith)))
    (λ e. at_pixel (λ t. t.1) pixel _ _ (2 * (b / 4)) _ (omega arith) down ∙ sym (first_blue row b (omega arith)))
    (λ e. at_pixel (λ t. t.0) pixel _ _ (b / 2) _ (omega arith) down ∙ sym (first_luma row b (omega arith)))
    (λ e. at_pixel (λ t. t.2) pixel _ _ (2 * (b / 4)) _ (omega arith) down ∙ sym (first_red row b (omega arith)))

uyvy_pairs : (pixel : ℕ → ℕ → Triple) (w h m i : ℕ) → w / 2 ≡ m → 0 < m → shown Uyvy pixel (carried_by Uyvy w h i) ≡ of_line ChromaFirst pixel (4 * m) i
uyvy_pairs pixel w h m i half some =
    let p = pairs_place i m some in
    let b : ℕ = i % (4 * m) in
    let row : ℕ → Triple = λ x. pixel x (i / (4 * m)) in
    let across : i / 4 % (w / 2) ≡ b / 4 = ap (λ n. i / 4 % n) half ∙ p.across in
    let down : i / 4 / (w / 2) ≡ i / (4 * m) = ap (λ n. i / 4 / n) half ∙ p.down in
    let within : i % 4 ≡ b % 4 = p.within in
    of_four (λ c. shown Uyvy pixel c ≡ of_line ChromaFirst pixel (4 * m) i) (i % 4) _ _ _ _ (omega arith)
    (λ e. at_pixel (λ t. t.1) pixel _ _ (2 * (b / 4)) _ (omega arith) down ∙ sym (second_blue row b (omega arith)))
    (λ e. at_pixel (λ t. t.0) pixel _ _ (b / 2) _ (omega arith) down ∙ sym (second_luma row b (omega arith)))
    (λ e. at_pixel (λ t. t.2) pixel _ _ (2 * (b / 4)) _ (omega arith) down ∙ sym (second_red row b (omega arith)))
    (λ e. at_pixel (λ t. t.0) pixel _ _ (b / 2) _ (omega arith) down ∙ sym (second_luma row b (omega arith)))

pub rgb3_line : (pixel : ℕ → ℕ → Triple) (w h i : ℕ) → 0 < w → shown Rgb3 pixel (carried_by Rgb3 w h i) ≡ of_line Primaries pixel (3 * w) i
rgb3_line pixel w h i some =
    let p = thirds_place i w some in
    let b : ℕ = i % (3 * w) in
    let row : ℕ → Triple = λ x. pixel x (i / (3 * w)) in
    let within : i % 3 ≡ b % 3 = p.within in
    of_three (λ c. shown Rgb3 pixel c ≡ of_line Primaries pixel (3 * w) i) (i % 3) _ _ _ (omega arith)
    (λ e. at_pixel (λ t. (rgb_of t).0) pixel _ _ (b / 3) _ p.across p.down ∙ sym (in_red row b (omega arith)))
    (λ e. at_pixel (λ t. (rgb_of t).1) pixel _ _ (b / 3) _ p.across p.down ∙ sym (in_green row b (omega arith)))
    (λ e. at_pixel (λ t. (rgb_of t).2) pixel _ _ (b / 3) _ p.across p.down ∙ sym (in_blue row b (omega arith)))

pub yuyv_line : (pixel : ℕ → ℕ → Triple) (w h i : ℕ) → w % 2 ≡ 0 → 0 < w → shown Yuyv pixel (carried_by Yuyv w h i) ≡ of_line LumaFirst pixel (2 * w) i
yuyv_line pixel w h i even some =
    let size : 4 * (w / 2) ≡ 2 * w = omega arith in
    yuyv_pairs pixel w h (w / 2) i refl (omega arith) ∙ ap (λ n. of_line LumaFirst pixel n i) size

pub uyvy_line : (pixel : ℕ → ℕ → Triple) (w h i : ℕ) → w % 2 ≡ 0 → 0 < w → shown Uyvy pixel (carried_by Uyvy w h i) ≡ of_line ChromaFirst pixel (2 * w) i
uyvy_line pixel w h i even some =
    let size : 4 * (w / 2) ≡ 2 * w = omega arith in
    uyvy_pairs pixel w h (w / 2) i refl (omega arith) ∙ ap (λ n. of_line ChromaFirst pixel n i) size

-- ---- the planes of Y, and those of Cb and Cr, which are the same on all lines
pub record IsUpright (pixel : ℕ → ℕ → Triple) : Type 0 where
  pub blue : (x y v : ℕ) → (pixel x y).1 ≡ (pixel x v).1
  pub red : (x y v : ℕ) → (pixel x y).2 ≡ (pixel x v).2

pub nv12_luma : (pixel : ℕ → ℕ → Triple) (w h i : ℕ) → i < w * h → shown Nv12 pixel (carried_by Nv12 w h i) ≡ of_line Luma pixel w i
nv12_luma pixel w h i low = ap (shown Nv12 pixel) (cond-true (nat_lt i (w * h)) _ _ (lt-ltb i (w * h) low))

pub yu12_luma : (pixel : ℕ → ℕ → Triple) (w h i : ℕ) → i < w * h → shown Yu12 pixel (carried_by Yu12 w h i) ≡ of_line Luma pixel w i
yu12_luma pixel w h i low = ap (shown Yu12 pixel) (cond-true (nat_lt i (w * h)) _ _ (lt-ltb i (w * h) low))

nv12_pairs : (pixel : ℕ → ℕ → Triple) (w h m j : ℕ) → IsUpright pixel → w / 2 ≡ m → 0 < m → shown Nv12 pixel (carried_by Nv12 w h (w * h + j)) ≡ of_line Chroma pixel (2 * m) j
nv12_pairs pixel w h m j up half some =
    let p = halves_place j m some in
    let b : ℕ = j % (2 * m) in
    let row : ℕ → Triple = λ x. pixel x (j / (2 * m)) in
    let behind : w * h + j - w * h ≡ j = omega arith in
    let within : j % 2 ≡ b % 2 = p.within in
    let across : 2 * ((w * h + j - w * h) / 2 % (w / 2)) ≡ 2 * (b / 2) = ap (λ n. 2 * (n / 2 % (w / 2))) behind ∙ ap (λ n. 2 * (j / 2 % n)) half ∙ ap (λ n. 2 * n) p.across in
    ap (shown Nv12 pixel) (cond-false (nat_lt (w * h + j) (w * h)) _ _ (le-ltb (w * h + j) (w * h) (omega arith)))
    ∙ of_two (λ c. shown Nv12 pixel c ≡ of_line Chroma pixel (2 * m) j) ((w * h + j - w * h) % 2) _ _ (omega arith)
    (λ e. at_pixel (λ t. t.1) pixel _ _ (2 * (b / 2)) _ across refl ∙ up.blue _ _ _ ∙ sym (cb_first row b (omega arith)))
    (λ e. at_pixel (λ t. t.2) pixel _ _ (2 * (b / 2)) _ across refl ∙ up.red _ _ _ ∙ sym (cr_second row b (omega arith)))

pub nv12_chroma : (pixel : ℕ → ℕ → Triple) (w h j : ℕ) → IsUpright pixel → w % 2 ≡ 0 → 0 < w → shown Nv12 pixel (carried_by Nv12 w h (w * h + j)) ≡ of_line Chroma pixel w j
nv12_chroma pixel w h j up even some =
    let size : 2 * (w / 2) ≡ w = omega arith in
    nv12_pairs pixel w h (w / 2) j up refl (omega arith) ∙ ap (λ n. of_line Chroma pixel n j) size

pub yu12_blue : (pixel : ℕ → ℕ → Triple) (w h j : ℕ) → IsUpright pixel → j < w * h / 4 → shown Yu12 pixel (carried_by Yu12 w h (w * h + j)) ≡ of_line BlueChroma pixel (w / 2) j
yu12_blue pixel w h j up low =
    let behind : w * h + j - w * h ≡ j = omega arith in
    ap (shown Yu12 pixel) (cond-false (nat_lt (w * h + j) (w * h)) _ _ (le-ltb (w * h + j) (w * h) (omega arith))
    ∙ cond-true (nat_lt (w * h + j - w * h) (w * h / 4)) _ _ (lt-ltb (w * h + j - w * h) (w * h / 4) (omega arith)))
    ∙ at_pixel (λ t. t.1) pixel _ _ (2 * (j % (w / 2))) _ (ap (λ n. 2 * (n % (w / 2))) behind) refl
    ∙ up.blue _ _ _

pub yu12_red : (pixel : ℕ → ℕ → Triple) (w h k : ℕ) → IsUpright pixel → shown Yu12 pixel (carried_by Yu12 w h (w * h + w * h / 4 + k)) ≡ of_line RedChroma pixel (w / 2) k
yu12_red pixel w h k up =
    let i : ℕ = w * h + w * h / 4 + k in
    let behind : i - w * h - w * h / 4 ≡ k = omega arith in
    ap (shown Yu12 pixel) (cond-false (nat_lt i (w * h)) _ _ (le-ltb i (w * h) (omega arith))
    ∙ cond-false (nat_lt (i - w * h) (w * h / 4)) _ _ (le-ltb (i - w * h) (w * h / 4) (omega arith)))
    ∙ at_pixel (λ t. t.2) pixel _ _ (2 * (k % (w / 2))) _ (ap (λ n. 2 * (n % (w / 2))) behind) refl
    ∙ up.red _ _ _
