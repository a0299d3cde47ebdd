-- One pixel's samples in the bytes of a picture: where they lie, and what the bytes are once they
-- are set.
use Rattle.std.specs.Prelude.{ℕ, ◌+◌, ◌*◌, ◌/◌, ◌%◌, ◌==◌, ◌&&◌, Bool, true, false, nat_lt, if◌then◌else◌, List, Option, None, Some, slice_index, slice_index_or}
use Rattle.v4l_format.specs.FormatRow.{grey, single_planar}
use Rattle.v4l_format.specs.SampleOrder.{picture_bytes, carried_by, pixel_number, pair_number, square_number}
use Rattle.v4l_format.specs.Triple.{component_of}
use Rattle.v4l_format.specs.declared.carried.Carried.{Carried}
use Rattle.v4l_format.specs.declared.sample_order.SampleOrder.{SampleOrder}
use Rattle.v4l_format.specs.declared.sample_order.SampleOrder.TheVariants.{Grey, Yuyv, Uyvy, Nv12, Yu12, Rgb3}
use Rattle.v4l_format.specs.declared.triple.Triple.{Triple}
use Rattle.v4l_image.specs.declared.samples.Samples.{Samples}

-- how the samples of the format in this place lie
abbrev pub order_at : ℕ → SampleOrder
order_at place = (slice_index_or single_planar place grey).order

-- byte i of a picture of w by h pixels carries a component of the pixel at (x, y)
abbrev pub carries : SampleOrder → ℕ → ℕ → ℕ → ℕ → ℕ → Bool
carries order w h x y i =
    let carried : Carried = carried_by order w h i in
    nat_lt i (picture_bytes order w h) && (carried.x == x) && (carried.y == y)

-- byte i once the pixel at (x, y) was set to t: t's component where the byte carries this pixel,
-- else as it was
abbrev pub byte_put : SampleOrder → ℕ → ℕ → List ℕ → ℕ → ℕ → Triple → ℕ → ℕ
byte_put order w h bytes x y t i =
    if carries order w h x y i then component_of t (carried_by order w h i).component
    else slice_index bytes i

abbrev samples : ℕ → Option (ℕ × ℕ) → Bool → Samples
samples first others top_left = record { first = first; others = others; top_left = top_left }

-- where the samples of the pixel at (x, y) lie
abbrev pub samples_of : SampleOrder → ℕ → ℕ → ℕ → ℕ → Samples
samples_of Grey w h x y = samples (pixel_number w x y) None false
samples_of Yuyv w h x y =
    let pair : ℕ = 4 * pair_number w x y in
    samples (pair + 2 * (x % 2)) (Some (pair + 1, pair + 3)) (x % 2 == 0)
samples_of Uyvy w h x y =
    let pair : ℕ = 4 * pair_number w x y in
    samples (pair + 2 * (x % 2) + 1) (Some (pair, pair + 2)) (x % 2 == 0)
samples_of Nv12 w h x y =
    let square : ℕ = w * h + 2 * square_number w x y in
    samples (pixel_number w x y) (Some (square, square + 1)) ((x % 2 == 0) && (y % 2 == 0))
samples_of Yu12 w h x y =
    let square : ℕ = w * h + square_number w x y in
    samples (pixel_number w x y) (Some (square, square + w * h / 4)) ((x % 2 == 0) && (y % 2 == 0))
samples_of Rgb3 w h x y =
    let pixel : ℕ = 3 * pixel_number w x y in
    samples pixel (Some (pixel + 1, pixel + 2)) true
