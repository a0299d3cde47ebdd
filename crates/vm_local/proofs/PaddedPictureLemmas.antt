-- A picture that is made from another doesn't see zeros behind that one's bytes.
use Rattle.std.proofs.Common.{◌≡◌, ℕ, zero, suc, List, [], ◌∷◌, ◌++◌, get_or, map, replicate, refl, ap}
use Rattle.std.specs.List.{range_with_len}
use Rattle.v4l_format.specs.declared.fmt.Fmt.{Fmt}
use Rattle.v4l_format.specs.declared.triple.Triple.{Triple}
use Rattle.v4l_format.specs.declared.sample_order.SampleOrder.{SampleOrder}
use Rattle.v4l_format.specs.declared.sample_order.SampleOrder.TheVariants.{Grey, Yuyv, Uyvy, Nv12, Yu12, Rgb3}
use Rattle.v4l_format.specs.Fmt.{order_of, picture_size}
use Rattle.v4l_format.specs.Picture.{pixel_at, picture_byte, converted_picture}
use Rattle.v4l_format.specs.SampleOrder.{pixel_in, colours_of}

pub zero_beyond : (k i : ℕ) → get_or {A = ℕ} (replicate k 0) i 0 ≡ 0
zero_beyond zero i = refl
zero_beyond (suc k) zero = refl
zero_beyond (suc k) (suc i) = zero_beyond k i

pub padded_byte : (xs : List ℕ) (k i : ℕ) → get_or (xs ++ replicate k 0) i 0 ≡ get_or xs i 0
padded_byte [] k i = zero_beyond k i
padded_byte (x ∷ xs) k zero = refl
padded_byte (x ∷ xs) k (suc i) = padded_byte xs k i

pub padded_pixel : (o : SampleOrder) (w h : ℕ) (xs : List ℕ) (k x y : ℕ) → pixel_in o w h (xs ++ replicate k 0) x y ≡ pixel_in o w h xs x y
padded_pixel Grey w h xs k x y = simp padded_byte refl
padded_pixel Yuyv w h xs k x y = simp padded_byte refl
padded_pixel Uyvy w h xs k x y = simp padded_byte refl
padded_pixel Nv12 w h xs k x y = simp padded_byte refl
padded_pixel Yu12 w h xs k x y = simp padded_byte refl
padded_pixel Rgb3 w h xs k x y = simp padded_byte refl

pub padded_picture : (from to : Fmt) (xs : List ℕ) (k : ℕ) → converted_picture from (xs ++ replicate k 0) to ≡ converted_picture from xs to
unfolding converted_picture
padded_picture from to xs k =
    let pixels : pixel_at from (xs ++ replicate k 0) ≡ pixel_at from xs = λ i x y. padded_pixel (order_of from) from.width from.height xs k x y i in
    ap (λ (p : ℕ → ℕ → Triple). map (picture_byte to (colours_of (order_of from)) p) (range_with_len 0 (picture_size to))) pixels
