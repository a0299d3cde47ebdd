-- Pictures, byte by byte: each byte is a component of a pixel, in the colours of the picture's
-- format.
use Rattle.std.specs.Prelude.{ℕ, List, map}
use Rattle.std.specs.List.{range_with_len}
use Rattle.v4l_format.specs.declared.carried.Carried.{Carried}
use Rattle.v4l_format.specs.declared.colours.Colours.{Colours}
use Rattle.v4l_format.specs.declared.colours.Colours.TheVariants.{Ycbcr}
use Rattle.v4l_format.specs.declared.fmt.Fmt.{Fmt}
use Rattle.v4l_format.specs.declared.triple.Triple.{Triple}
use Rattle.v4l_format.specs.Fmt.{order_of, picture_size}
use Rattle.v4l_format.specs.Pattern.{pattern_at}
use Rattle.v4l_format.specs.SampleOrder.{carried_by, colours_of, pixel_in}
use Rattle.v4l_format.specs.Triple.{component_of, turned}

-- what byte i of a picture of this format carries
abbrev pub carried_at : Fmt → ℕ → Carried
carried_at f i = carried_by (order_of f) f.width f.height i

-- the pixel at (x, y) of a picture of this format
abbrev pub pixel_at : Fmt → List ℕ → ℕ → ℕ → Triple
pixel_at f bytes x y = pixel_in (order_of f) f.width f.height bytes x y

-- byte i of the picture of these pixels, given in these colours: the component that the byte
-- carries, of the pixel that it carries, turned into the colours of the picture's format
abbrev pub picture_byte : Fmt → Colours → (ℕ → ℕ → Triple) → ℕ → ℕ
picture_byte f from pixel i =
    let carried : Carried = carried_at f i in
    component_of (turned from (colours_of (order_of f))
    (pixel carried.x carried.y)) carried.component

-- byte i of an input's pattern in frame seq
abbrev pub pattern_byte_at : ℕ → ℕ → Fmt → ℕ → ℕ
pattern_byte_at input seq f i = picture_byte f Ycbcr (pattern_at input seq f.width) i

-- byte i of the picture in these bytes, converted to the format `to`
abbrev pub converted_byte_at : Fmt → List ℕ → Fmt → ℕ → ℕ
converted_byte_at from bytes to i =
    picture_byte to (colours_of (order_of from)) (pixel_at from bytes) i

-- the whole pictures
unfoldable pub pattern_picture : ℕ → ℕ → Fmt → List ℕ
pattern_picture input seq f = map (pattern_byte_at input seq f) (range_with_len 0 (picture_size f))

unfoldable pub converted_picture : Fmt → List ℕ → Fmt → List ℕ
converted_picture from bytes to =
    map (converted_byte_at from bytes to) (range_with_len 0 (picture_size to))
