-- What a byte carries lies within the picture.
use Rattle.std.proofs.Common.{◌≡◌, ◌-◌, ◌<◌, ◌≤◌, ℕ, ◌+◌, ◌*◌, ◌/◌, ◌%◌, arith, ap, sym, ◌∙◌}
use Rattle.std.proofs.Math.Nat.{mul_comm, mul_assoc}
use Rattle.std.proofs.lemmas.Nat.{div_below, mod_below, mul-add-lt}
use Rattle.v4l_format.proofs.Choices.{of_two_planes, of_two, of_three, of_four}
use Rattle.v4l_format.specs.declared.component.Component.{Component}
use Rattle.v4l_format.specs.declared.component.Component.TheVariants.{Y, Cb, Cr, R, G, B}
use Rattle.v4l_format.specs.declared.sample_order.SampleOrder.{SampleOrder}
use Rattle.v4l_format.specs.declared.sample_order.SampleOrder.TheVariants.{Grey, Yuyv, Uyvy, Nv12, Yu12, Rgb3}
use Rattle.v4l_format.specs.declared.fmt.Fmt.{Fmt}
use Rattle.v4l_format.specs.Fmt.{IsAdjusted, order_of, picture_size}
use Rattle.v4l_format.specs.Picture.{carried_at}
use Rattle.v4l_format.specs.SampleOrder.{of_pixel, of_pair, of_square, picture_bytes, carried_by, IsWithin}

pub of_pixel_within : (w h n : ℕ) (c : Component) → 0 < w → n < h * w → IsWithin w h (of_pixel w n c)
of_pixel_within w h n c wide low = record {
  across = mod_below n w wide;
  down = div_below n w h wide low;
}

pub of_pair_within : (w h n right : ℕ) (c : Component) → w % 2 ≡ 0 → 2 ≤ w → right ≤ 1 → n < h * (w / 2) → IsWithin w h (of_pair w n right c)
of_pair_within w h n right c even wide side low =
    let half : 0 < w / 2 = omega arith in
    let place = mod_below n (w / 2) half in
    record {
      across = omega arith;
      down = div_below n (w / 2) h half low;
    }

pub of_square_within : (w h n : ℕ) (c : Component) → w % 2 ≡ 0 → h % 2 ≡ 0 → 2 ≤ w → n < h / 2 * (w / 2) → IsWithin w h (of_square w n c)
of_square_within w h n c even_w even_h wide low =
    let half : 0 < w / 2 = omega arith in
    let place = mod_below n (w / 2) half in
    let line = div_below n (w / 2) (h / 2) half low in
    record {
      across = omega arith;
      down = omega arith;
    }

-- two lines of half the width are one line
pub pair_area : (w h : ℕ) → w % 2 ≡ 0 → 2 * (h * (w / 2)) ≡ w * h
pair_area w h even =
    let whole : 2 * (w / 2) ≡ w = omega arith in
    ap (λ n. 2 * n) (mul_comm h (w / 2)) ∙ sym (mul_assoc 2 (w / 2) h) ∙ ap (λ n. n * h) whole

pub square_area : (w h : ℕ) → w % 2 ≡ 0 → h % 2 ≡ 0 → 4 * (h / 2 * (w / 2)) ≡ w * h
square_area w h even_w even_h = omega (arith, pair_area w (h / 2) even_w, pair_area h w even_h, mul_comm h w)

-- a square's four pixels lie in the picture
pub square_within : (w h x y : ℕ) → w % 2 ≡ 0 → h % 2 ≡ 0 → x < w → y < h → 4 * (y / 2 * (w / 2) + x / 2) + 3 < w * h
square_within w h x y even_w even_h across down =
    let line : y / 2 < h / 2 = omega arith in
    let column : x / 2 < w / 2 = omega arith in
    omega (arith, square_area w h even_w even_h, mul-add-lt (y / 2) (w / 2) (x / 2) (h / 2) line column, mul_comm (w / 2) (h / 2))

-- what byte i carries
pub carried_within : (o : SampleOrder) (w h i : ℕ) → w % 2 ≡ 0 → h % 2 ≡ 0 → 2 ≤ w → i < picture_bytes o w h → IsWithin w h (carried_by o w h i)
carried_within Grey w h i even_w even_h wide low = of_pixel_within w h i Y (omega arith) (omega (arith, mul_comm w h))
carried_within Yuyv w h i even_w even_h wide low =
    let area = pair_area w h even_w in
    let near : i / 4 < h * (w / 2) = omega arith in
    let pair = λ (right : ℕ) (c : Component) (side : right ≤ 1). of_pair_within w h (i / 4) right c even_w wide side near in
    let left : 0 ≤ 1 = omega arith in
    of_four (IsWithin w h) (i % 4) _ _ _ _ (omega arith) (λ _. pair 0 Y left) (λ _. pair 0 Cb left) (λ _. pair 1 Y (omega arith)) (λ _. pair 0 Cr left)
carried_within Uyvy w h i even_w even_h wide low =
    let area = pair_area w h even_w in
    let near : i / 4 < h * (w / 2) = omega arith in
    let pair = λ (right : ℕ) (c : Component) (side : right ≤ 1). of_pair_within w h (i / 4) right c even_w wide side near in
    let left : 0 ≤ 1 = omega arith in
    of_four (IsWithin w h) (i % 4) _ _ _ _ (omega arith) (λ _. pair 0 Cb left) (λ _. pair 0 Y left) (λ _. pair 0 Cr left) (λ _. pair 1 Y (omega arith))
carried_within Nv12 w h i even_w even_h wide low =
    let area = square_area w h even_w even_h in
    of_two_planes (IsWithin w h) i (w * h) _ _
    (λ within. of_pixel_within w h i Y (omega arith) (omega (arith, mul_comm w h)))
    (λ behind.
    let near : (i - w * h) / 2 < h / 2 * (w / 2) = omega arith in
    let square = λ (c : Component). of_square_within w h ((i - w * h) / 2) c even_w even_h wide near in
    of_two (IsWithin w h) ((i - w * h) % 2) _ _ (omega arith) (λ _. square Cb) (λ _. square Cr))
carried_within Yu12 w h i even_w even_h wide low =
    let area = square_area w h even_w even_h in
    of_two_planes (IsWithin w h) i (w * h) _ _
    (λ within. of_pixel_within w h i Y (omega arith) (omega (arith, mul_comm w h)))
    (λ behind. of_two_planes (IsWithin w h) (i - w * h) (w * h / 4) _ _
    (λ first. of_square_within w h (i - w * h) Cb even_w even_h wide (omega arith))
    (λ second. of_square_within w h (i - w * h - w * h / 4) Cr even_w even_h wide (omega arith)))
carried_within Rgb3 w h i even_w even_h wide low =
    let near : i / 3 < h * w = omega (arith, mul_comm w h) in
    let pixel = λ (c : Component). of_pixel_within w h (i / 3) c (omega arith) near in
    of_three (IsWithin w h) (i % 3) _ _ _ (omega arith) (λ _. pixel R) (λ _. pixel G) (λ _. pixel B)

pub carried_at_within : (f : Fmt) (i : ℕ) → IsAdjusted f → i < picture_size f → IsWithin f.width f.height (carried_at f i)
carried_at_within f i adjusted low =
    let wide : 2 ≤ f.width = omega (arith, adjusted.width.low) in
    carried_within (order_of f) f.width f.height i adjusted.width.even adjusted.height.even wide low
