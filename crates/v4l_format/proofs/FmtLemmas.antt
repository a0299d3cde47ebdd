-- Adjusted formats, and what bounds their sizes.
use Rattle.std.proofs.Common.{◌≡◌, ◌≤◌, ◌↔◌, ℕ, ◌*◌, arith, ap, subst, ◌∙◌}
use Rattle.std.proofs.lemmas.Nat.{mul-le}
use Rattle.v4l_const.specs.declared.four_cc.FourCc.{FourCc}
use Rattle.v4l_format.specs.declared.fmt.Fmt.{Fmt}
use Rattle.v4l_format.specs.declared.sample_order.SampleOrder.{SampleOrder}
use Rattle.v4l_format.specs.declared.sample_order.SampleOrder.TheVariants.{Grey, Yuyv, Uyvy, Nv12, Yu12, Rgb3}
use Rattle.v4l_format.specs.Fmt.{IsAdjusted, IsFitting, adjusted, adjusted_length, order_of, picture_size}
use Rattle.v4l_format.specs.FormatRow.{row_of}
use Rattle.v4l_format.specs.SampleOrder.{picture_bytes}

pub area_most : (f : Fmt) → IsAdjusted f → f.width * f.height ≤ 307200
area_most f h = mul-le f.width f.height 640 480 h.width.high h.height.high

area_least : (f : Fmt) → IsAdjusted f → 256 ≤ f.width * f.height
area_least f h = mul-le 16 16 f.width f.height h.width.low h.height.low

bytes_most : (o : SampleOrder) (w h : ℕ) → w * h ≤ 307200 → picture_bytes o w h ≤ 921600
bytes_most Grey w h l = omega arith
bytes_most Yuyv w h l = omega arith
bytes_most Uyvy w h l = omega arith
bytes_most Nv12 w h l = omega arith
bytes_most Yu12 w h l = omega arith
bytes_most Rgb3 w h l = omega arith

bytes_least : (o : SampleOrder) (w h : ℕ) → 256 ≤ w * h → 256 ≤ picture_bytes o w h
bytes_least Grey w h l = omega arith
bytes_least Yuyv w h l = omega arith
bytes_least Uyvy w h l = omega arith
bytes_least Nv12 w h l = omega arith
bytes_least Yu12 w h l = omega arith
bytes_least Rgb3 w h l = omega arith

pub picture_size_most : (f : Fmt) → IsAdjusted f → picture_size f ≤ 921600
picture_size_most f h = bytes_most (order_of f) f.width f.height (area_most f h)

pub picture_size_least : (f : Fmt) → IsAdjusted f → 256 ≤ picture_size f
picture_size_least f h = bytes_least (order_of f) f.width f.height (area_least f h)

length_fitting : (most n : ℕ) → IsFitting most most → IsFitting most (adjusted_length most n)
length_fitting most n h = grind arith

length_fixed : (most n : ℕ) → IsFitting most n → adjusted_length most n ≡ n
length_fixed most n h = omega (arith, h.even, h.low, h.high)

-- adjusting gives an adjusted format
pub adjusted_is_adjusted : (code : FourCc) (w h : ℕ) → IsAdjusted (adjusted code w h)
unfolding adjusted row_of
adjusted_is_adjusted code w h = record {
  known = grind arith;
  width = length_fitting 640 w (record { even = omega arith; low = omega arith; high = omega arith });
  height = length_fitting 480 h (record { even = omega arith; low = omega arith; high = omega arith });
}

abbrev fmt : FourCc → ℕ → ℕ → Fmt
fmt code width height = record { code = code; width = width; height = height }

adjusted_same : (f : Fmt) → IsAdjusted f → adjusted f.code f.width f.height ≡ f
unfolding adjusted row_of
adjusted_same f h =
    ap (λ c. fmt c (adjusted_length 640 f.width) (adjusted_length 480 f.height)) h.known
    ∙ ap (λ w. fmt f.code w (adjusted_length 480 f.height)) (length_fixed 640 f.width h.width)
    ∙ ap (λ n. fmt f.code f.width n) (length_fixed 480 f.height h.height)

pub adjusted_fixed : (f : Fmt) → IsAdjusted f ↔ (adjusted f.code f.width f.height ≡ f)
adjusted_fixed f = (
  adjusted_same f,
  λ e. subst IsAdjusted e (adjusted_is_adjusted f.code f.width f.height),
)
