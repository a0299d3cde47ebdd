-- The place of a sample and what a byte carries undo each other, so a picture that is converted to its own
-- format is copied.
use Rattle.std.proofs.Common.{◌≡◌, ◌<◌, ◌≤◌, ℕ, ◌+◌, ◌*◌, ◌/◌, ◌%◌, ◌-◌, List, slice_index, arith, ap, ◌∙◌}
use Rattle.std.proofs.lemmas.Nat.{div-add-mod'}
use Rattle.v4l_format.proofs.Choices.{of_two_planes, of_two, of_three, of_four}
use Rattle.v4l_format.specs.declared.carried.Carried.{Carried}
use Rattle.v4l_format.specs.declared.sample_order.SampleOrder.{SampleOrder}
use Rattle.v4l_format.specs.declared.sample_order.SampleOrder.TheVariants.{Grey, Yuyv, Uyvy, Nv12, Yu12, Rgb3}
use Rattle.v4l_format.specs.SampleOrder.{picture_bytes, carried_by, pixel_in, pixel_number, pair_number, square_number}
use Rattle.v4l_format.specs.Triple.{component_of}

pub pixel_back : (w n : ℕ) → pixel_number w (n % w) (n / w) ≡ n
pixel_back w n = div-add-mod' n w

pub pair_back : (w n right : ℕ) → right ≤ 1 → pair_number w (2 * (n % (w / 2)) + right) (n / (w / 2)) ≡ n
pair_back w n right side =
    let half : (2 * (n % (w / 2)) + right) / 2 ≡ n % (w / 2) = omega arith in
    ap (λ x. n / (w / 2) * (w / 2) + x) half ∙ div-add-mod' n (w / 2)

pub square_back : (w n : ℕ) → square_number w (2 * (n % (w / 2))) (2 * (n / (w / 2))) ≡ n
square_back w n =
    let across : 2 * (n % (w / 2)) / 2 ≡ n % (w / 2) = omega arith in
    let down : 2 * (n / (w / 2)) / 2 ≡ n / (w / 2) = omega arith in
    ap (λ x. 2 * (n / (w / 2)) / 2 * (w / 2) + x) across ∙ ap (λ y. y * (w / 2) + n % (w / 2)) down ∙ div-add-mod' n (w / 2)

-- the sample that byte i carries stands at byte i
abbrev StandsAt : SampleOrder → ℕ → ℕ → List ℕ → ℕ → Carried → Type 0
StandsAt o w h bytes i c = component_of (pixel_in o w h bytes c.x c.y) c.component ≡ slice_index bytes i

pub carried_back : (o : SampleOrder) (w h : ℕ) (bytes : List ℕ) (i : ℕ) → w % 2 ≡ 0 → h % 2 ≡ 0 → i < picture_bytes o w h → StandsAt o w h bytes i (carried_by o w h i)
carried_back Grey w h bytes i even_w even_h low = ap (slice_index bytes) (pixel_back w i)
carried_back Yuyv w h bytes i even_w even_h low =
    of_four (StandsAt Yuyv w h bytes i) (i % 4) _ _ _ _ (omega arith)
    (λ e. ap (slice_index bytes) (omega (arith, pair_back w (i / 4) 0 (omega arith))))
    (λ e. ap (slice_index bytes) (omega (arith, pair_back w (i / 4) 0 (omega arith))))
    (λ e. ap (slice_index bytes) (omega (arith, pair_back w (i / 4) 1 (omega arith))))
    (λ e. ap (slice_index bytes) (omega (arith, pair_back w (i / 4) 0 (omega arith))))
carried_back Uyvy w h bytes i even_w even_h low =
    of_four (StandsAt Uyvy w h bytes i) (i % 4) _ _ _ _ (omega arith)
    (λ e. ap (slice_index bytes) (omega (arith, pair_back w (i / 4) 0 (omega arith))))
    (λ e. ap (slice_index bytes) (omega (arith, pair_back w (i / 4) 0 (omega arith))))
    (λ e. ap (slice_index bytes) (omega (arith, pair_back w (i / 4) 0 (omega arith))))
    (λ e. ap (slice_index bytes) (omega (arith, pair_back w (i / 4) 1 (omega arith))))
carried_back Nv12 w h bytes i even_w even_h low =
    of_two_planes (StandsAt Nv12 w h bytes i) i (w * h) _ _
    (λ within. ap (slice_index bytes) (pixel_back w i))
    (λ behind. of_two (StandsAt Nv12 w h bytes i) ((i - w * h) % 2) _ _ (omega arith)
    (λ e. ap (slice_index bytes) (omega (arith, square_back w ((i - w * h) / 2))))
    (λ e. ap (slice_index bytes) (omega (arith, square_back w ((i - w * h) / 2)))))
carried_back Yu12 w h bytes i even_w even_h low =
    of_two_planes (StandsAt Yu12 w h bytes i) i (w * h) _ _
    (λ within. ap (slice_index bytes) (pixel_back w i))
    (λ behind. of_two_planes (StandsAt Yu12 w h bytes i) (i - w * h) (w * h / 4) _ _
    (λ first. ap (slice_index bytes) (omega (arith, square_back w (i - w * h))))
    (λ second. ap (slice_index bytes) (omega (arith, square_back w (i - w * h - w * h / 4)))))
carried_back Rgb3 w h bytes i even_w even_h low =
    let there = pixel_back w (i / 3) in
    of_three (StandsAt Rgb3 w h bytes i) (i % 3) _ _ _ (omega arith)
    (λ e. ap (slice_index bytes) (omega (arith, there)))
    (λ e. ap (slice_index bytes) (omega (arith, there)))
    (λ e. ap (slice_index bytes) (omega (arith, there)))
