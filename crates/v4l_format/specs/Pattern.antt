-- The pictures that a camera's inputs show, in Y, Cb and Cr. They are this project's own.
use Rattle.std.specs.Prelude.{ℕ, ◌+◌, ◌*◌, ◌/◌, ◌%◌, ◌==◌, if◌then◌else◌, List, [], ◌∷◌, slice_index_or}
use Rattle.v4l_format.specs.declared.pattern.Pattern.{Pattern}
use Rattle.v4l_format.specs.declared.pattern.Pattern.TheVariants.{Bars, Ramp, Checker, Count}
use Rattle.v4l_format.specs.declared.triple.Triple.{Triple}
use Rattle.v4l_format.specs.SampleOrder.{triple}

-- the pattern of each input
abbrev pub patterns : List Pattern
patterns = Bars ∷ Ramp ∷ Checker ∷ Count ∷ []

-- a pixel without colour
abbrev pub grey_of : ℕ → Triple
grey_of y = triple y 128 128

-- the bars from the left
abbrev pub bars : List Triple
bars =
    triple 235 128 128 ∷
    triple 210 16 146 ∷
    triple 169 166 16 ∷
    triple 144 54 34 ∷
    triple 107 202 222 ∷
    triple 82 90 240 ∷
    triple 41 240 110 ∷
    triple 16 128 128 ∷ []

-- the pixel at (x, y) of frame seq, in a picture of width w
abbrev pub pixel_of : Pattern → ℕ → ℕ → ℕ → ℕ → Triple
pixel_of Bars seq w x y = slice_index_or bars (8 * x / w) (grey_of 16)
pixel_of Ramp seq w x y = grey_of ((x + y + seq) % 256)
pixel_of Checker seq w x y = if (x / 8 + y / 8 + seq) % 2 == 0 then grey_of 235 else grey_of 16
pixel_of Count seq w x y = grey_of (seq % 256)

-- the same by the number of the input
abbrev pub pattern_at : ℕ → ℕ → ℕ → ℕ → ℕ → Triple
pattern_at input seq w x y = pixel_of (slice_index_or patterns input Bars) seq w x y
