-- Patterns line by line. A picture is made of planes, and a plane of lines. A line of a pattern
-- shows what its first line shows some pixels further on, so that one strip of pixels has all its
-- lines in it.
use Rattle.std.specs.Prelude.{◌≡◌, ◌<◌, ◌≤◌, ℕ, ◌+◌, ◌*◌, ◌/◌, ◌%◌, ◌==◌, if◌then◌else◌, List, length, slice_index, slice_index_or}
use Rattle.v4l_format.specs.declared.pattern.Pattern.{Pattern}
use Rattle.v4l_format.specs.declared.pattern.Pattern.TheVariants.{Bars, Ramp, Checker, Count}
use Rattle.v4l_format.specs.declared.triple.Triple.{Triple}
use Rattle.v4l_format.specs.Pattern.{patterns, pixel_of}
use Rattle.v4l_format.specs.Triple.{rgb_of}
use Rattle.v4l_pattern.specs.declared.shown.Shown.{Shown}
use Rattle.v4l_pattern.specs.declared.line_kind.LineKind.{LineKind}
use Rattle.v4l_pattern.specs.declared.line_kind.LineKind.TheVariants.{Luma, LumaFirst, ChromaFirst, Primaries, Chroma, BlueChroma, RedChroma}

-- the bytes of a line of w pixels
abbrev pub line_size : LineKind → ℕ → ℕ
line_size Luma w = w
line_size LumaFirst w = 2 * w
line_size ChromaFirst w = 2 * w
line_size Primaries w = 3 * w
line_size Chroma w = w
line_size BlueChroma w = w / 2
line_size RedChroma w = w / 2

-- byte k of a line of these pixels, given in Y, Cb and Cr. A Cb or a Cr of two pixels is that of
-- the left one
abbrev pub line_byte : LineKind → (ℕ → Triple) → ℕ → ℕ
line_byte Luma pixel k = (pixel k).0
line_byte LumaFirst pixel k =
    if k % 2 == 0 then (pixel (k / 2)).0 else (
    if k % 4 == 1 then (pixel (2 * (k / 4))).1 else (pixel (2 * (k / 4))).2)
line_byte ChromaFirst pixel k =
    if k % 2 == 1 then (pixel (k / 2)).0 else (
    if k % 4 == 0 then (pixel (2 * (k / 4))).1 else (pixel (2 * (k / 4))).2)
line_byte Primaries pixel k =
    if k % 3 == 0 then (rgb_of (pixel (k / 3))).0 else (
    if k % 3 == 1 then (rgb_of (pixel (k / 3))).1 else (rgb_of (pixel (k / 3))).2)
line_byte Chroma pixel k =
    if k % 2 == 0 then (pixel (2 * (k / 2))).1 else (pixel (2 * (k / 2))).2
line_byte BlueChroma pixel k = (pixel (2 * k)).1
line_byte RedChroma pixel k = (pixel (2 * k)).2

-- the bytes from a line's front to what it shows n pixels further on: none in lines of Cb and Cr,
-- which are alike
abbrev pub bytes_ahead : LineKind → ℕ → ℕ
bytes_ahead Luma n = n
bytes_ahead LumaFirst n = 2 * n
bytes_ahead ChromaFirst n = 2 * n
bytes_ahead Primaries n = 3 * n
bytes_ahead Chroma n = 0
bytes_ahead BlueChroma n = 0
bytes_ahead RedChroma n = 0

-- the pattern of an input
abbrev pub pattern_of : ℕ → Pattern
pattern_of input = slice_index_or patterns input Bars

-- how many pixels line y of a pattern is ahead of its first line
abbrev pub pixels_ahead : Pattern → ℕ → ℕ
pixels_ahead Bars y = 0
pixels_ahead Ramp y = y % 256
pixels_ahead Checker y = 8 * (y / 8 % 2)
pixels_ahead Count y = 0

-- the most that a line is ahead
abbrev pub most_ahead : Pattern → ℕ
most_ahead Bars = 0
most_ahead Ramp = 255
most_ahead Checker = 8
most_ahead Count = 0

-- the pixels of line y of frame seq, in a picture of width w
abbrev pub row_of : Pattern → ℕ → ℕ → ℕ → (ℕ → Triple)
row_of pattern seq w y = λ x. pixel_of pattern seq w x y

-- byte k of the strip: of the first line of a picture that is as much wider as the lines are ahead
abbrev pub strip_byte : LineKind → Pattern → ℕ → ℕ → ℕ → ℕ
strip_byte kind pattern seq w k = line_byte kind (row_of pattern seq (w + most_ahead pattern) 0) k

-- byte i of a plane
abbrev pub plane_byte : LineKind → Pattern → ℕ → ℕ → ℕ → ℕ
plane_byte kind pattern seq w i =
    line_byte kind (row_of pattern seq w (i / line_size kind w)) (i % line_size kind w)

-- the first lines of a plane were set from a place on, and no other byte
pub record IsPlane (kind : LineKind) (pattern : Pattern)
    (seq w lines at : ℕ) (old new : List ℕ) : Type 0 where
  pub size : length new ≡ length old
  pub made :
      (i : ℕ) → i < lines * line_size kind w →
      slice_index new (at + i) ≡ plane_byte kind pattern seq w i
  pub below : (i : ℕ) → i < at → slice_index new i ≡ slice_index old i
  pub behind : (i : ℕ) → at + lines * line_size kind w ≤ i → slice_index new i ≡ slice_index old i

-- the front of some bytes is the strip of a plane
pub record IsStrip (kind : LineKind) (pattern : Pattern) (seq w : ℕ) (strip : List ℕ) : Type 0 where
  pub room : line_size kind (w + most_ahead pattern) ≤ length strip
  pub made :
      (k : ℕ) → k < line_size kind (w + most_ahead pattern) →
      slice_index strip k ≡ strip_byte kind pattern seq w k

-- the same of what is shown
abbrev pub strip_width : Shown → ℕ
strip_width shown = shown.width + most_ahead (pattern_of shown.input)

abbrev pub strip_pixel : Shown → ℕ → Triple
strip_pixel shown x = row_of (pattern_of shown.input) shown.seq (strip_width shown) 0 x

abbrev pub byte_of_strip : Shown → LineKind → ℕ → ℕ
byte_of_strip shown kind k = strip_byte kind (pattern_of shown.input) shown.seq shown.width k

abbrev pub HoldsStrip : Shown → LineKind → List ℕ → Type 0
HoldsStrip shown kind strip = IsStrip kind (pattern_of shown.input) shown.seq shown.width strip

abbrev pub ShowsPlane : Shown → LineKind → ℕ → ℕ → List ℕ → List ℕ → Type 0
ShowsPlane shown kind lines at old new =
    IsPlane kind (pattern_of shown.input) shown.seq shown.width lines at old new
