-- The samples of a pixel are the bytes that carry it.
use Rattle.std.proofs.Common.{◌≡◌, ◌<◌, ◌≤◌, ℕ, ◌+◌, ◌-◌, ◌*◌, ◌/◌, ◌%◌, ◌==◌, ◌&&◌, Bool, true, false, nat_lt, if◌then◌else◌, List, length, slice_index, set, refl, arith, rules}
use Rattle.std.specs.Prelude.{Option, None, Some, IfSome}
use Rattle.std.specs.Option.{option_map_or}
use Rattle.std.proofs.lemmas.Bool.{eqb-true, eq-eqb, and_parts, and_from}
use Rattle.std.proofs.Math.Nat.{mul_comm}
use Rattle.std.proofs.lemmas.Nat.{mul-add-lt}
use Rattle.v4l_format.proofs.CarriedLemmas.{pair_area, square_area, square_within}
use Rattle.v4l_format.proofs.Choices.{of_two_planes, of_two, of_three, of_four}
use Rattle.v4l_format.specs.declared.carried.Carried.{Carried}
use Rattle.v4l_format.specs.declared.sample_order.SampleOrder.{SampleOrder}
use Rattle.v4l_format.specs.declared.sample_order.SampleOrder.TheVariants.{Grey, Yuyv, Uyvy, Nv12, Yu12, Rgb3}
use Rattle.v4l_format.specs.declared.triple.Triple.{Triple}
use Rattle.v4l_format.specs.Fmt.{IsFitting}
use Rattle.v4l_format.specs.SampleOrder.{picture_bytes, carried_by, pixel_in, triple, pixel_number, pair_number, square_number}
use Rattle.v4l_format.specs.Triple.{component_of}
use Rattle.v4l_image.proofs.PlaceLemmas.{joined, column, line, pair_to, pair_from, square_to, square_from}
use Rattle.v4l_image.proofs.PutLemmas.{put_three, one_put, first_put, second_put, third_put}
use Rattle.v4l_image.specs.Samples.{samples_of, byte_put}
use Rattle.v4l_image.specs.declared.samples.Samples.{Samples}

-- the pixel whose samples lie there
abbrev pub pixel_at : Samples → List ℕ → Triple
pixel_at s bytes =
    option_map_or (λ p. triple (slice_index bytes s.first) (slice_index bytes p.0) (slice_index bytes p.1)) s.others (triple (slice_index bytes s.first) 128 128)

pub sampled : (o : SampleOrder) (w h x y : ℕ) (bytes : List ℕ) → pixel_at (samples_of o w h x y) bytes ≡ pixel_in o w h bytes x y
sampled Grey w h x y bytes = refl
sampled Yuyv w h x y bytes = refl
sampled Uyvy w h x y bytes = refl
sampled Nv12 w h x y bytes = refl
sampled Yu12 w h x y bytes = refl
sampled Rgb3 w h x y bytes = refl

-- the samples lie in the picture
pub record IsIn (size : ℕ) (s : Samples) : Type 0 where
  pub first : s.first < size
  pub others : IfSome s.others (λ p. (p.0 < size) × (p.1 < size))

pair_low : (w h x y : ℕ) → w % 2 ≡ 0 → x < w → y < h → 2 * pair_number w x y + 2 ≤ w * h
pair_low w h x y even across down =
    let within : x / 2 < w / 2 = omega arith in
    omega (arith, pair_area w h even, mul-add-lt y (w / 2) (x / 2) h down within, mul_comm (w / 2) h)

pub samples_in : (o : SampleOrder) (w h x y : ℕ) → w % 2 ≡ 0 → h % 2 ≡ 0 → x < w → y < h → IsIn (picture_bytes o w h) (samples_of o w h x y)
samples_in Grey w h x y even_w even_h across down = record { first = mul-add-lt y w x h down across; others = search rules }
samples_in Yuyv w h x y even_w even_h across down =
    let low = pair_low w h x y even_w across down in
    record { first = omega arith; others = (omega arith, omega arith) }
samples_in Uyvy w h x y even_w even_h across down =
    let low = pair_low w h x y even_w across down in
    record { first = omega arith; others = (omega arith, omega arith) }
samples_in Nv12 w h x y even_w even_h across down =
    let pixel = mul-add-lt y w x h down across in
    let low = square_within w h x y even_w even_h across down in
    record { first = omega arith; others = (omega arith, omega arith) }
samples_in Yu12 w h x y even_w even_h across down =
    let pixel = mul-add-lt y w x h down across in
    let low = square_within w h x y even_w even_h across down in
    record { first = omega arith; others = (omega arith, omega arith) }
samples_in Rgb3 w h x y even_w even_h across down =
    let pixel = mul-add-lt y w x h down across in
    record { first = omega arith; others = (omega arith, omega arith) }

-- the bytes once the samples that lie there are set
abbrev put_others : List ℕ → ℕ → Option (ℕ × ℕ) → Bool → Triple → List ℕ
put_others bytes first None top_left t = set bytes first t.0
put_others bytes first (Some p) top_left t = put_three bytes first p.0 p.1 top_left t

abbrev pub put_samples : Samples → Triple → List ℕ → List ℕ
put_samples s t bytes = put_others bytes s.first s.others s.top_left t

-- byte i is afterwards what it is to be, where it carries c
abbrev IsPut : SampleOrder → ℕ → ℕ → List ℕ → ℕ → ℕ → Triple → ℕ → Carried → Type 0
IsPut o w h bytes x y t i c =
    slice_index (put_samples (samples_of o w h x y) t bytes) i ≡ (if nat_lt i (picture_bytes o w h) && (c.x == x) && (c.y == y) then component_of t c.component else slice_index bytes i)

-- of two numbers that are even
left_top : (x y : ℕ) → ((x % 2 == 0) && (y % 2 == 0)) ≡ true → (x % 2 ≡ 0) × (y % 2 ≡ 0)
left_top x y e =
    let parts = and_parts (x % 2 == 0) (y % 2 == 0) e in
    (eqb-true (x % 2) 0 parts.0, eqb-true (y % 2) 0 parts.1)

both_even : (x y : ℕ) → x % 2 ≡ 0 → y % 2 ≡ 0 → ((x % 2 == 0) && (y % 2 == 0)) ≡ true
both_even x y left top = and_from (x % 2 == 0) (y % 2 == 0) (eq-eqb (x % 2) 0 left) (eq-eqb (y % 2) 0 top)

put_yuyv : (w h x y : ℕ) (t : Triple) (bytes : List ℕ) (i : ℕ) → w % 2 ≡ 0 → x < w → y < h → 2 * (w * h) ≤ length bytes → IsPut Yuyv w h bytes x y t i (carried_by Yuyv w h i)
put_yuyv w h x y t bytes i even across down whole =
    let pair : ℕ = 4 * pair_number w x y in
    let n : ℕ = i / 4 in
    let low : 2 * pair_number w x y + 2 ≤ w * h = pair_low w h x y even across down in
    of_four (IsPut Yuyv w h bytes x y t i) (i % 4) _ _ _ _ (omega arith)
    (λ e. first_put bytes (pair + 2 * (x % 2)) (pair + 1) (pair + 3) (x % 2 == 0) t i (2 * (w * h)) _ x _ y (omega arith) whole (omega arith) (omega arith)
    (λ a d. let p = pair_to w n x y 0 (omega arith) a d in omega arith)
    (λ at. pair_from w n x y 0 even across (omega arith) (omega arith)))
    (λ e. second_put bytes (pair + 2 * (x % 2)) (pair + 1) (pair + 3) (x % 2 == 0) t i (2 * (w * h)) _ x _ y (omega arith) whole (omega arith) (omega arith)
    (λ a d. let p = pair_to w n x y 0 (omega arith) a d in (eq-eqb (x % 2) 0 p.1, omega arith))
    (λ has at. pair_from w n x y 0 even across (eqb-true (x % 2) 0 has) (omega arith)))
    (λ e. first_put bytes (pair + 2 * (x % 2)) (pair + 1) (pair + 3) (x % 2 == 0) t i (2 * (w * h)) _ x _ y (omega arith) whole (omega arith) (omega arith)
    (λ a d. let p = pair_to w n x y 1 (omega arith) a d in omega arith)
    (λ at. pair_from w n x y 1 even across (omega arith) (omega arith)))
    (λ e. third_put bytes (pair + 2 * (x % 2)) (pair + 1) (pair + 3) (x % 2 == 0) t i (2 * (w * h)) _ x _ y (omega arith) whole (omega arith) (omega arith)
    (λ a d. let p = pair_to w n x y 0 (omega arith) a d in (eq-eqb (x % 2) 0 p.1, omega arith))
    (λ has at. pair_from w n x y 0 even across (eqb-true (x % 2) 0 has) (omega arith)))

put_grey : (w h x y : ℕ) (t : Triple) (bytes : List ℕ) (i : ℕ) → x < w → y < h → w * h ≤ length bytes → IsPut Grey w h bytes x y t i (carried_by Grey w h i)
put_grey w h x y t bytes i across down whole =
    one_put bytes (pixel_number w x y) t.0 i (w * h) _ x _ y (mul-add-lt y w x h down across) whole (joined i w x y) (λ at. (column i w x y across at, line i w x y across at))

put_uyvy : (w h x y : ℕ) (t : Triple) (bytes : List ℕ) (i : ℕ) → w % 2 ≡ 0 → x < w → y < h → 2 * (w * h) ≤ length bytes → IsPut Uyvy w h bytes x y t i (carried_by Uyvy w h i)
put_uyvy w h x y t bytes i even across down whole =
    let pair : ℕ = 4 * pair_number w x y in
    let n : ℕ = i / 4 in
    let low : 2 * pair_number w x y + 2 ≤ w * h = pair_low w h x y even across down in
    of_four (IsPut Uyvy w h bytes x y t i) (i % 4) _ _ _ _ (omega arith)
    (λ e. second_put bytes (pair + 2 * (x % 2) + 1) pair (pair + 2) (x % 2 == 0) t i (2 * (w * h)) _ x _ y (omega arith) whole (omega arith) (omega arith)
    (λ a d. let p = pair_to w n x y 0 (omega arith) a d in (eq-eqb (x % 2) 0 p.1, omega arith))
    (λ has at. pair_from w n x y 0 even across (eqb-true (x % 2) 0 has) (omega arith)))
    (λ e. first_put bytes (pair + 2 * (x % 2) + 1) pair (pair + 2) (x % 2 == 0) t i (2 * (w * h)) _ x _ y (omega arith) whole (omega arith) (omega arith)
    (λ a d. let p = pair_to w n x y 0 (omega arith) a d in omega arith)
    (λ at. pair_from w n x y 0 even across (omega arith) (omega arith)))
    (λ e. third_put bytes (pair + 2 * (x % 2) + 1) pair (pair + 2) (x % 2 == 0) t i (2 * (w * h)) _ x _ y (omega arith) whole (omega arith) (omega arith)
    (λ a d. let p = pair_to w n x y 0 (omega arith) a d in (eq-eqb (x % 2) 0 p.1, omega arith))
    (λ has at. pair_from w n x y 0 even across (eqb-true (x % 2) 0 has) (omega arith)))
    (λ e. first_put bytes (pair + 2 * (x % 2) + 1) pair (pair + 2) (x % 2 == 0) t i (2 * (w * h)) _ x _ y (omega arith) whole (omega arith) (omega arith)
    (λ a d. let p = pair_to w n x y 1 (omega arith) a d in omega arith)
    (λ at. pair_from w n x y 1 even across (omega arith) (omega arith)))

put_nv12 : (w h x y : ℕ) (t : Triple) (bytes : List ℕ) (i : ℕ) → w % 2 ≡ 0 → h % 2 ≡ 0 → x < w → y < h → w * h * 3 / 2 ≤ length bytes → IsPut Nv12 w h bytes x y t i (carried_by Nv12 w h i)
put_nv12 w h x y t bytes i even_w even_h across down whole =
    let first : ℕ = pixel_number w x y in
    let square : ℕ = w * h + 2 * square_number w x y in
    let own : Bool = (x % 2 == 0) && (y % 2 == 0) in
    let n : ℕ = (i - w * h) / 2 in
    let pixel : first < w * h = mul-add-lt y w x h down across in
    let low : 4 * square_number w x y + 3 < w * h = square_within w h x y even_w even_h across down in
    of_two_planes (IsPut Nv12 w h bytes x y t i) i (w * h) _ _
    (λ within. first_put bytes first square (square + 1) own t i (w * h * 3 / 2) _ x _ y (omega arith) whole (omega arith) (omega arith) (joined i w x y) (λ at. (column i w x y across at, line i w x y across at)))
    (λ behind. of_two (IsPut Nv12 w h bytes x y t i) ((i - w * h) % 2) _ _ (omega arith)
    (λ e. second_put bytes first square (square + 1) own t i (w * h * 3 / 2) _ x _ y (omega arith) whole (omega arith) (omega arith)
    (λ a d. let p = square_to w n x y a d in (both_even x y p.1.0 p.1.1, omega arith))
    (λ has at. let q = left_top x y has in square_from w n x y even_w across q.0 q.1 (omega arith)))
    (λ e. third_put bytes first square (square + 1) own t i (w * h * 3 / 2) _ x _ y (omega arith) whole (omega arith) (omega arith)
    (λ a d. let p = square_to w n x y a d in (both_even x y p.1.0 p.1.1, omega arith))
    (λ has at. let q = left_top x y has in square_from w n x y even_w across q.0 q.1 (omega arith))))

put_yu12 : (w h x y : ℕ) (t : Triple) (bytes : List ℕ) (i : ℕ) → w % 2 ≡ 0 → h % 2 ≡ 0 → x < w → y < h → w * h * 3 / 2 ≤ length bytes → IsPut Yu12 w h bytes x y t i (carried_by Yu12 w h i)
put_yu12 w h x y t bytes i even_w even_h across down whole =
    let first : ℕ = pixel_number w x y in
    let square : ℕ = w * h + square_number w x y in
    let own : Bool = (x % 2 == 0) && (y % 2 == 0) in
    let pixel : first < w * h = mul-add-lt y w x h down across in
    let area = square_area w h even_w even_h in
    let low : 4 * square_number w x y + 3 < w * h = square_within w h x y even_w even_h across down in
    of_two_planes (IsPut Yu12 w h bytes x y t i) i (w * h) _ _
    (λ within. first_put bytes first square (square + w * h / 4) own t i (w * h * 3 / 2) _ x _ y (omega arith) whole (omega arith) (omega arith) (joined i w x y) (λ at. (column i w x y across at, line i w x y across at)))
    (λ behind. of_two_planes (IsPut Yu12 w h bytes x y t i) (i - w * h) (w * h / 4) _ _
    (λ former. second_put bytes first square (square + w * h / 4) own t i (w * h * 3 / 2) _ x _ y (omega arith) whole (omega arith) (omega arith)
    (λ a d. let p = square_to w (i - w * h) x y a d in (both_even x y p.1.0 p.1.1, omega arith))
    (λ has at. let q = left_top x y has in square_from w (i - w * h) x y even_w across q.0 q.1 (omega arith)))
    (λ latter. third_put bytes first square (square + w * h / 4) own t i (w * h * 3 / 2) _ x _ y (omega arith) whole (omega arith) (omega arith)
    (λ a d. let p = square_to w (i - w * h - w * h / 4) x y a d in (both_even x y p.1.0 p.1.1, omega arith))
    (λ has at. let q = left_top x y has in square_from w (i - w * h - w * h / 4) x y even_w across q.0 q.1 (omega arith))))

put_rgb3 : (w h x y : ℕ) (t : Triple) (bytes : List ℕ) (i : ℕ) → x < w → y < h → 3 * (w * h) ≤ length bytes → IsPut Rgb3 w h bytes x y t i (carried_by Rgb3 w h i)
put_rgb3 w h x y t bytes i across down whole =
    let first : ℕ = 3 * pixel_number w x y in
    let n : ℕ = i / 3 in
    let pixel : pixel_number w x y < w * h = mul-add-lt y w x h down across in
    of_three (IsPut Rgb3 w h bytes x y t i) (i % 3) _ _ _ (omega arith)
    (λ e. first_put bytes first (first + 1) (first + 2) true t i (3 * (w * h)) _ x _ y (omega arith) whole (omega arith) (omega arith)
    (λ a d. let p = joined n w x y a d in omega arith)
    (λ at. let p : n ≡ y * w + x = omega arith in (column n w x y across p, line n w x y across p)))
    (λ e. second_put bytes first (first + 1) (first + 2) true t i (3 * (w * h)) _ x _ y (omega arith) whole (omega arith) (omega arith)
    (λ a d. let p = joined n w x y a d in (refl, omega arith))
    (λ _ at. let p : n ≡ y * w + x = omega arith in (column n w x y across p, line n w x y across p)))
    (λ e. third_put bytes first (first + 1) (first + 2) true t i (3 * (w * h)) _ x _ y (omega arith) whole (omega arith) (omega arith)
    (λ a d. let p = joined n w x y a d in (refl, omega arith))
    (λ _ at. let p : n ≡ y * w + x = omega arith in (column n w x y across p, line n w x y across p)))

-- once they are set, each byte is what it is to be
pub samples_put : (o : SampleOrder) (w h x y : ℕ) (t : Triple) (bytes : List ℕ) → w % 2 ≡ 0 → h % 2 ≡ 0 → x < w → y < h → picture_bytes o w h ≤ length bytes → (i : ℕ) → slice_index (put_samples (samples_of o w h x y) t bytes) i ≡ byte_put o w h bytes x y t i
samples_put Grey w h x y t bytes even_w even_h across down whole i = put_grey w h x y t bytes i across down whole
samples_put Yuyv w h x y t bytes even_w even_h across down whole i = put_yuyv w h x y t bytes i even_w across down whole
samples_put Uyvy w h x y t bytes even_w even_h across down whole i = put_uyvy w h x y t bytes i even_w across down whole
samples_put Nv12 w h x y t bytes even_w even_h across down whole i = put_nv12 w h x y t bytes i even_w even_h across down whole
samples_put Yu12 w h x y t bytes even_w even_h across down whole i = put_yu12 w h x y t bytes i even_w even_h across down whole
samples_put Rgb3 w h x y t bytes even_w even_h across down whole i = put_rgb3 w h x y t bytes i across down whole

-- the same of samples that were looked up
pub samples_within : (o p : SampleOrder) (s : Samples) (w h x y : ℕ) → IsFitting 640 w → IsFitting 480 h → x < w → y < h → p ≡ o → s ≡ samples_of p w h x y → IsIn (picture_bytes o w h) s
samples_within o p s w h x y width height across down same there =
    rw (there, same) (samples_in o w h x y width.even height.even across down)

-- the same of the bytes that they lead to
pub put_there : (o p : SampleOrder) (s : Samples) (w h x y : ℕ) (t : Triple) (bytes after : List ℕ) → IsFitting 640 w → IsFitting 480 h → x < w → y < h → picture_bytes o w h ≤ length bytes → p ≡ o → s ≡ samples_of p w h x y → after ≡ put_samples s t bytes → (i : ℕ) → slice_index after i ≡ byte_put o w h bytes x y t i
put_there o p s w h x y t bytes after width height across down whole same there put i =
    rw (put, there, same) (samples_put o w h x y t bytes width.even height.even across down whole i)

-- a pixel that is not the top left one of its pair or square has its first sample alone
first_alone : (bytes : List ℕ) (first : ℕ) (others : Option (ℕ × ℕ)) (t : Triple) → put_others bytes first others false t ≡ set bytes first t.0
first_alone bytes first None t = refl
first_alone bytes first (Some p) t = refl

pub put_alone : (s : Samples) (t : Triple) (bytes : List ℕ) → s.top_left ≡ false → put_samples s t bytes ≡ set bytes s.first t.0
put_alone s t bytes e = rw e (first_alone bytes s.first s.others t)
