-- Once its planes are filled, the picture stands in front of what was behind it.
use Rattle.std.proofs.Common.{◌≡◌, ◌<◌, ◌≤◌, ℕ, ◌+◌, ◌-◌, ◌*◌, ◌/◌, ◌%◌, ◌==◌, Bool, if◌then◌else◌, List, ◌++◌, length, get_or, drop, inl, inr, arith, ap, sym, refl, subst, ◌∙◌, length-append, length-drop}
use Rattle.std.proofs.Math.Nat.{mul_comm, mul_assoc}
use Rattle.std.proofs.lemmas.Bool.{cases_lt, cond_both}
use Rattle.std.proofs.lemmas.List.{get_or_append_left, get_or-append_right, get_or-drop, ext_get_or}
use Rattle.v4l_format.proofs.CarriedLemmas.{square_area}
use Rattle.v4l_format.proofs.PictureLemmas.{length-pattern_picture, slice_index-pattern_picture}
use Rattle.v4l_format.specs.declared.fmt.Fmt.{Fmt}
use Rattle.v4l_format.specs.declared.pattern.Pattern.{Pattern}
use Rattle.v4l_format.specs.declared.pattern.Pattern.TheVariants.{Bars, Ramp, Checker, Count}
use Rattle.v4l_format.specs.declared.sample_order.SampleOrder.{SampleOrder}
use Rattle.v4l_format.specs.declared.sample_order.SampleOrder.TheVariants.{Grey, Yuyv, Uyvy, Nv12, Yu12, Rgb3}
use Rattle.v4l_format.specs.declared.triple.Triple.{Triple}
use Rattle.v4l_format.specs.Fmt.{IsAdjusted, order_of, picture_size}
use Rattle.v4l_format.specs.Pattern.{pixel_of, grey_of}
use Rattle.v4l_format.specs.Picture.{pattern_picture}
use Rattle.v4l_format.specs.SampleOrder.{picture_bytes, carried_by}
use Rattle.v4l_pattern.proofs.LineLemmas.{shown, IsUpright, yuyv_line, uyvy_line, rgb3_line, nv12_luma, nv12_chroma, yu12_luma, yu12_blue, yu12_red}
use Rattle.v4l_pattern.specs.declared.line_kind.LineKind.TheVariants.{Luma, LumaFirst, ChromaFirst, Primaries, Chroma, BlueChroma, RedChroma}
use Rattle.v4l_pattern.specs.Lines.{IsPlane, pattern_of}

checker_blue : (t : Bool) → (if t then grey_of 235 else grey_of 16).1 ≡ 128
checker_blue t = cond_both t (grey_of 235) (grey_of 16) (λ c. c.1 ≡ 128) (λ _. refl) (λ _. refl)

checker_red : (t : Bool) → (if t then grey_of 235 else grey_of 16).2 ≡ 128
checker_red t = cond_both t (grey_of 235) (grey_of 16) (λ c. c.2 ≡ 128) (λ _. refl) (λ _. refl)

-- the colours of a pattern are the same on all lines
upright : (p : Pattern) (seq w : ℕ) → IsUpright (pixel_of p seq w)
upright Bars seq w = record { blue = λ x y v. refl; red = λ x y v. refl }
upright Ramp seq w = record { blue = λ x y v. refl; red = λ x y v. refl }
upright Checker seq w = record {
  blue = λ x y v. checker_blue ((x / 8 + y / 8 + seq) % 2 == 0) ∙ sym (checker_blue ((x / 8 + v / 8 + seq) % 2 == 0));
  red = λ x y v. checker_red ((x / 8 + y / 8 + seq) % 2 == 0) ∙ sym (checker_red ((x / 8 + v / 8 + seq) % 2 == 0));
}
upright Count seq w = record { blue = λ x y v. refl; red = λ x y v. refl }

-- the picture's bytes stand in front, those behind it are as they were, and none is more
record IsFilled (o : SampleOrder) (w h : ℕ) (pixel : ℕ → ℕ → Triple) (old new : List ℕ) : Type 0 where
  size : length new ≡ length old
  made : (i : ℕ) → i < picture_bytes o w h → get_or new i 0 ≡ shown o pixel (carried_by o w h i)
  behind : (i : ℕ) → picture_bytes o w h ≤ i → get_or new i 0 ≡ get_or old i 0

filled_whole : (f : Fmt) (input seq : ℕ) (old new : List ℕ) → picture_size f ≤ length old → IsFilled (order_of f) f.width f.height (pixel_of (pattern_of input) seq f.width) old new → new ≡ pattern_picture input seq f ++ drop (picture_size f) old
filled_whole f input seq old new room filled =
    let made : List ℕ = pattern_picture input seq f in
    let n : ℕ = picture_size f in
    let size : length made ≡ n = length-pattern_picture input seq f in
    let whole : length (made ++ drop n old) ≡ length old = length-append made (drop n old) ∙ (rw (size, length-drop n old) (omega arith)) in
    ext_get_or 0 new (made ++ drop n old) (filled.size ∙ sym whole)
    (λ i low. elim (cases_lt i n) as (λ o. get_or new i 0 ≡ get_or (made ++ drop n old) i 0) [
      | inl within ↦ filled.made i within ∙ sym (slice_index-pattern_picture input seq f i within) ∙ sym (get_or_append_left made (drop n old) 0 i (omega arith))
      | inr over ↦
          let place : n + (i - n) ≡ i = omega arith in
          filled.behind i over ∙ sym (get_or-append_right made (drop n old) n i 0 size over ∙ get_or-drop n old (i - n) 0 ∙ ap (λ k. get_or old k 0) place)
    ])

-- the bytes of h lines of c bytes a pixel
lines_area : (c w h : ℕ) → h * (c * w) ≡ c * (w * h)
lines_area c w h = mul_comm h (c * w) ∙ mul_assoc c w h

-- two lines of half the number of lines are all lines
half_area : (w h : ℕ) → h % 2 ≡ 0 → 2 * (h / 2 * w) ≡ w * h
half_area w h even =
    let whole : 2 * (h / 2) ≡ h = omega arith in
    sym (mul_assoc 2 (h / 2) w) ∙ ap (λ n. n * w) whole ∙ mul_comm h w

-- at place 0
at_start : (bytes : List ℕ) (i : ℕ) → get_or bytes i 0 ≡ get_or bytes (0 + i) 0
at_start bytes i = ap (λ k. get_or bytes k 0) (omega arith)

-- by the order of the samples
pub grey_filled : (f : Fmt) (input seq : ℕ) (old new : List ℕ) → IsAdjusted f → picture_size f ≤ length old → order_of f ≡ Grey → IsPlane Luma (pattern_of input) seq f.width f.height 0 old new → new ≡ pattern_picture input seq f ++ drop (picture_size f) old
grey_filled f input seq old new adjusted room order plane =
    let pixel : ℕ → ℕ → Triple = pixel_of (pattern_of input) seq f.width in
    let area = mul_comm f.width f.height in
    filled_whole f input seq old new room (subst (λ o. IsFilled o f.width f.height pixel old new) (sym order) (record {
      size = plane.size;
      made = λ i low. at_start new i ∙ plane.made i (omega arith);
      behind = λ i over. plane.behind i (omega arith);
    }))

pub yuyv_filled : (f : Fmt) (input seq : ℕ) (old new : List ℕ) → IsAdjusted f → picture_size f ≤ length old → order_of f ≡ Yuyv → IsPlane LumaFirst (pattern_of input) seq f.width f.height 0 old new → new ≡ pattern_picture input seq f ++ drop (picture_size f) old
yuyv_filled f input seq old new adjusted room order plane =
    let pixel : ℕ → ℕ → Triple = pixel_of (pattern_of input) seq f.width in
    let area : f.height * (2 * f.width) ≡ 2 * (f.width * f.height) = lines_area 2 f.width f.height in
    filled_whole f input seq old new room (subst (λ o. IsFilled o f.width f.height pixel old new) (sym order) (record {
      size = plane.size;
      made = λ i low. at_start new i ∙ plane.made i (omega arith) ∙ sym (yuyv_line pixel f.width f.height i adjusted.width.even (omega (arith, adjusted.width.low)));
      behind = λ i over. plane.behind i (omega arith);
    }))

pub uyvy_filled : (f : Fmt) (input seq : ℕ) (old new : List ℕ) → IsAdjusted f → picture_size f ≤ length old → order_of f ≡ Uyvy → IsPlane ChromaFirst (pattern_of input) seq f.width f.height 0 old new → new ≡ pattern_picture input seq f ++ drop (picture_size f) old
uyvy_filled f input seq old new adjusted room order plane =
    let pixel : ℕ → ℕ → Triple = pixel_of (pattern_of input) seq f.width in
    let area : f.height * (2 * f.width) ≡ 2 * (f.width * f.height) = lines_area 2 f.width f.height in
    filled_whole f input seq old new room (subst (λ o. IsFilled o f.width f.height pixel old new) (sym order) (record {
      size = plane.size;
      made = λ i low. at_start new i ∙ plane.made i (omega arith) ∙ sym (uyvy_line pixel f.width f.height i adjusted.width.even (omega (arith, adjusted.width.low)));
      behind = λ i over. plane.behind i (omega arith);
    }))

pub rgb3_filled : (f : Fmt) (input seq : ℕ) (old new : List ℕ) → IsAdjusted f → picture_size f ≤ length old → order_of f ≡ Rgb3 → IsPlane Primaries (pattern_of input) seq f.width f.height 0 old new → new ≡ pattern_picture input seq f ++ drop (picture_size f) old
rgb3_filled f input seq old new adjusted room order plane =
    let pixel : ℕ → ℕ → Triple = pixel_of (pattern_of input) seq f.width in
    let area : f.height * (3 * f.width) ≡ 3 * (f.width * f.height) = lines_area 3 f.width f.height in
    filled_whole f input seq old new room (subst (λ o. IsFilled o f.width f.height pixel old new) (sym order) (record {
      size = plane.size;
      made = λ i low. at_start new i ∙ plane.made i (omega arith) ∙ sym (rgb3_line pixel f.width f.height i (omega (arith, adjusted.width.low)));
      behind = λ i over. plane.behind i (omega arith);
    }))

pub nv12_filled : (f : Fmt) (input seq : ℕ) (old mid new : List ℕ) → IsAdjusted f → picture_size f ≤ length old → order_of f ≡ Nv12 → IsPlane Luma (pattern_of input) seq f.width f.height 0 old mid → IsPlane Chroma (pattern_of input) seq f.width (f.height / 2) (f.width * f.height) mid new → new ≡ pattern_picture input seq f ++ drop (picture_size f) old
nv12_filled f input seq old mid new adjusted room order luma chroma =
    let pixel : ℕ → ℕ → Triple = pixel_of (pattern_of input) seq f.width in
    let pixels : ℕ = f.width * f.height in
    let area : f.height * f.width ≡ pixels = mul_comm f.height f.width in
    let half : 2 * (f.height / 2 * f.width) ≡ pixels = half_area f.width f.height adjusted.height.even in
    filled_whole f input seq old new room (subst (λ o. IsFilled o f.width f.height pixel old new) (sym order) (record {
      size = chroma.size ∙ luma.size;
      made = λ i low. elim (cases_lt i pixels) as (λ o. get_or new i 0 ≡ shown Nv12 pixel (carried_by Nv12 f.width f.height i)) [
        | inl within ↦ chroma.below i within ∙ at_start mid i ∙ luma.made i (omega arith) ∙ sym (nv12_luma pixel f.width f.height i within)
        | inr over ↦
            let j : ℕ = i - pixels in
            let place : i ≡ pixels + j = omega arith in
            ap (λ k. get_or new k 0) place ∙ chroma.made j (omega arith)
            ∙ sym (nv12_chroma pixel f.width f.height j (upright (pattern_of input) seq f.width) adjusted.width.even (omega (arith, adjusted.width.low)))
            ∙ ap (λ k. shown Nv12 pixel (carried_by Nv12 f.width f.height k)) (sym place)
      ];
      behind = λ i over. chroma.behind i (omega arith) ∙ luma.behind i (omega arith);
    }))

pub yu12_filled : (f : Fmt) (input seq : ℕ) (old mid late new : List ℕ) → IsAdjusted f → picture_size f ≤ length old → order_of f ≡ Yu12 → IsPlane Luma (pattern_of input) seq f.width f.height 0 old mid → IsPlane BlueChroma (pattern_of input) seq f.width (f.height / 2) (f.width * f.height) mid late → IsPlane RedChroma (pattern_of input) seq f.width (f.height / 2) (f.width * f.height + f.width * f.height / 4) late new → new ≡ pattern_picture input seq f ++ drop (picture_size f) old
yu12_filled f input seq old mid late new adjusted room order luma blue red =
    let pixel : ℕ → ℕ → Triple = pixel_of (pattern_of input) seq f.width in
    let pixels : ℕ = f.width * f.height in
    let area : f.height * f.width ≡ pixels = mul_comm f.height f.width in
    let quarter : 4 * (f.height / 2 * (f.width / 2)) ≡ pixels = square_area f.width f.height adjusted.width.even adjusted.height.even in
    let up = upright (pattern_of input) seq f.width in
    filled_whole f input seq old new room (subst (λ o. IsFilled o f.width f.height pixel old new) (sym order) (record {
      size = red.size ∙ blue.size ∙ luma.size;
      made = λ i low. elim (cases_lt i pixels) as (λ o. get_or new i 0 ≡ shown Yu12 pixel (carried_by Yu12 f.width f.height i)) [
        | inl within ↦ red.below i (omega arith) ∙ blue.below i within ∙ at_start mid i ∙ luma.made i (omega arith) ∙ sym (yu12_luma pixel f.width f.height i within)
        | inr over ↦ elim (cases_lt i (pixels + pixels / 4)) as (λ o. get_or new i 0 ≡ shown Yu12 pixel (carried_by Yu12 f.width f.height i)) [
          | inl former ↦
              let j : ℕ = i - pixels in
              let place : i ≡ pixels + j = omega arith in
              red.below i former ∙ ap (λ k. get_or late k 0) place ∙ blue.made j (omega arith)
              ∙ sym (yu12_blue pixel f.width f.height j up (omega arith))
              ∙ ap (λ k. shown Yu12 pixel (carried_by Yu12 f.width f.height k)) (sym place)
          | inr latter ↦
              let k : ℕ = i - (pixels + pixels / 4) in
              let place : i ≡ pixels + pixels / 4 + k = omega arith in
              ap (λ n. get_or new n 0) place ∙ red.made k (omega arith)
              ∙ sym (yu12_red pixel f.width f.height k up)
              ∙ ap (λ n. shown Yu12 pixel (carried_by Yu12 f.width f.height n)) (sym place)
        ]
      ];
      behind = λ i over. red.behind i (omega arith) ∙ blue.behind i (omega arith) ∙ luma.behind i (omega arith);
    }))

-- where the planes behind the first one lie
pub nv12_room : (f : Fmt) (n m : ℕ) → IsAdjusted f → order_of f ≡ Nv12 → picture_size f ≤ n → m ≡ n → f.width * f.height + f.height / 2 * f.width ≤ m
nv12_room f n m adjusted order room same =
    let size : picture_size f ≡ f.width * f.height * 3 / 2 = ap (λ o. picture_bytes o f.width f.height) order in
    let half : 2 * (f.height / 2 * f.width) ≡ f.width * f.height = half_area f.width f.height adjusted.height.even in
    omega arith

pub yu12_room : (f : Fmt) (n m : ℕ) → IsAdjusted f → order_of f ≡ Yu12 → picture_size f ≤ n → m ≡ n → f.width * f.height + f.width * f.height / 4 + f.height / 2 * (f.width / 2) ≤ m
yu12_room f n m adjusted order room same =
    let size : picture_size f ≡ f.width * f.height * 3 / 2 = ap (λ o. picture_bytes o f.width f.height) order in
    let quarter : 4 * (f.height / 2 * (f.width / 2)) ≡ f.width * f.height = square_area f.width f.height adjusted.width.even adjusted.height.even in
    omega arith
