-- How the samples of a picture of w by h pixels lie in its bytes. Rows run from the top and pixels
-- from the left, without gaps; w and h are even. Source: the Linux V4L2 pixel formats of these
-- names.
use Rattle.std.specs.Prelude.{ℕ, ◌<◌, ◌+◌, ◌-◌, ◌*◌, ◌/◌, ◌%◌, ◌==◌, if◌then◌else◌, nat_lt, List, slice_index}
use Rattle.v4l_format.specs.declared.carried.Carried.{Carried}
use Rattle.v4l_format.specs.declared.colours.Colours.{Colours}
use Rattle.v4l_format.specs.declared.colours.Colours.TheVariants.{Ycbcr, Rgb}
use Rattle.v4l_format.specs.declared.component.Component.{Component}
use Rattle.v4l_format.specs.declared.component.Component.TheVariants.{Y, Cb, Cr, R, G, B}
use Rattle.v4l_format.specs.declared.sample_order.SampleOrder.{SampleOrder}
use Rattle.v4l_format.specs.declared.sample_order.SampleOrder.TheVariants.{Grey, Yuyv, Uyvy, Nv12, Yu12, Rgb3}
use Rattle.v4l_format.specs.declared.triple.Triple.{Triple}

-- the bytes of a line; of the lines of Y where Y stands apart
abbrev pub line_bytes : SampleOrder → ℕ → ℕ
line_bytes Grey w = w
line_bytes Yuyv w = 2 * w
line_bytes Uyvy w = 2 * w
line_bytes Nv12 w = w
line_bytes Yu12 w = w
line_bytes Rgb3 w = 3 * w

-- the bytes of a picture
abbrev pub picture_bytes : SampleOrder → ℕ → ℕ → ℕ
picture_bytes Grey w h = w * h
picture_bytes Yuyv w h = 2 * (w * h)
picture_bytes Uyvy w h = 2 * (w * h)
picture_bytes Nv12 w h = w * h * 3 / 2
picture_bytes Yu12 w h = w * h * 3 / 2
picture_bytes Rgb3 w h = 3 * (w * h)

-- the components of a pixel; of a grey one these are Y, 128 and 128
abbrev pub colours_of : SampleOrder → Colours
colours_of Grey = Ycbcr
colours_of Yuyv = Ycbcr
colours_of Uyvy = Ycbcr
colours_of Nv12 = Ycbcr
colours_of Yu12 = Ycbcr
colours_of Rgb3 = Rgb

-- a component of the n-th pixel
abbrev pub of_pixel : ℕ → ℕ → Component → Carried
of_pixel w n c = record { x = n % w; y = n / w; component = c }

-- a component of a pixel of the n-th pair, two pixels side by side: of its left or, at 1, its right
-- one
abbrev pub of_pair : ℕ → ℕ → ℕ → Component → Carried
of_pair w n right c = record { x = 2 * (n % (w / 2)) + right; y = n / (w / 2); component = c }

-- a component of the top left pixel of the n-th square, two by two pixels
abbrev pub of_square : ℕ → ℕ → Component → Carried
of_square w n c = record { x = 2 * (n % (w / 2)); y = 2 * (n / (w / 2)); component = c }

-- what byte i of a picture carries. A Cb or a Cr that several pixels share is that of the top left
-- one of them
abbrev pub carried_by : SampleOrder → ℕ → ℕ → ℕ → Carried
carried_by Grey w h i = of_pixel w i Y
carried_by Yuyv w h i =
    if i % 4 == 0 then of_pair w (i / 4) 0 Y else (
    if i % 4 == 1 then of_pair w (i / 4) 0 Cb else (
    if i % 4 == 2 then of_pair w (i / 4) 1 Y else of_pair w (i / 4) 0 Cr))
carried_by Uyvy w h i =
    if i % 4 == 0 then of_pair w (i / 4) 0 Cb else (
    if i % 4 == 1 then of_pair w (i / 4) 0 Y else (
    if i % 4 == 2 then of_pair w (i / 4) 0 Cr else of_pair w (i / 4) 1 Y))
carried_by Nv12 w h i =
    if nat_lt i (w * h) then of_pixel w i Y else (
    if (i - w * h) % 2 == 0 then of_square w ((i - w * h) / 2) Cb
    else of_square w ((i - w * h) / 2) Cr)
carried_by Yu12 w h i =
    if nat_lt i (w * h) then of_pixel w i Y else (
    if nat_lt (i - w * h) (w * h / 4) then of_square w (i - w * h) Cb
    else of_square w (i - w * h - w * h / 4) Cr)
carried_by Rgb3 w h i =
    if i % 3 == 0 then of_pixel w (i / 3) R else (
    if i % 3 == 1 then of_pixel w (i / 3) G else of_pixel w (i / 3) B)

-- the pixel that is carried lies in a picture of w by h pixels
pub record IsWithin (w h : ℕ) (carried : Carried) : Type 0 where
  pub across : carried.x < w
  pub down : carried.y < h

-- the number of the pixel at (x, y), of the pair, and of the square in which it lies, each counted
-- along the lines
abbrev pub pixel_number : ℕ → ℕ → ℕ → ℕ
pixel_number w x y = y * w + x

abbrev pub pair_number : ℕ → ℕ → ℕ → ℕ
pair_number w x y = y * (w / 2) + x / 2

abbrev pub square_number : ℕ → ℕ → ℕ → ℕ
square_number w x y = y / 2 * (w / 2) + x / 2

abbrev pub triple : ℕ → ℕ → ℕ → Triple
triple a b c = record { 0 = a; 1 = b; 2 = c }

-- the pixel at (x, y) of a picture: its Y with the Cb and the Cr of its pair or square, or its red,
-- green and blue
abbrev pub pixel_in : SampleOrder → ℕ → ℕ → List ℕ → ℕ → ℕ → Triple
pixel_in Grey w h bytes x y = triple (slice_index bytes (pixel_number w x y)) 128 128
pixel_in Yuyv w h bytes x y =
    let pair : ℕ = 4 * pair_number w x y in
    triple (slice_index bytes (pair + 2 * (x % 2))) (slice_index bytes (pair + 1))
    (slice_index bytes (pair + 3))
pixel_in Uyvy w h bytes x y =
    let pair : ℕ = 4 * pair_number w x y in
    triple (slice_index bytes (pair + 2 * (x % 2) + 1)) (slice_index bytes pair)
    (slice_index bytes (pair + 2))
pixel_in Nv12 w h bytes x y =
    let square : ℕ = w * h + 2 * square_number w x y in
    triple (slice_index bytes (pixel_number w x y)) (slice_index bytes square)
    (slice_index bytes (square + 1))
pixel_in Yu12 w h bytes x y =
    let square : ℕ = w * h + square_number w x y in
    triple (slice_index bytes (pixel_number w x y)) (slice_index bytes square)
    (slice_index bytes (square + w * h / 4))
pixel_in Rgb3 w h bytes x y =
    let pixel : ℕ = 3 * pixel_number w x y in
    triple (slice_index bytes pixel) (slice_index bytes (pixel + 1)) (slice_index bytes (pixel + 2))
