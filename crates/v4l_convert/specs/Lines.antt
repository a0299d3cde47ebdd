-- A picture is made of planes, and a plane of lines. A line carries the pixels of one row, by pairs
-- of pixels side by side.
use Rattle.std.specs.Prelude.{ℕ, ◌+◌, ◌*◌, ◌/◌, Bool, true, false, List, [], ◌∷◌, slice_index, slice_index_or}
use Rattle.std.specs.List.{flat_map, range_with_len}
use Rattle.v4l_convert.specs.declared.line_kind.LineKind.{LineKind}
use Rattle.v4l_convert.specs.declared.line_kind.LineKind.TheVariants.{Luma, LumaFirst, ChromaFirst, Chroma, BlueChroma, RedChroma, Primaries}
use Rattle.v4l_format.specs.declared.colours.Colours.{Colours}
use Rattle.v4l_format.specs.declared.colours.Colours.TheVariants.{Ycbcr, Rgb}
use Rattle.v4l_format.specs.declared.sample_order.SampleOrder.{SampleOrder}
use Rattle.v4l_format.specs.declared.sample_order.SampleOrder.TheVariants.{Grey, Yuyv, Uyvy, Nv12, Yu12, Rgb3}
use Rattle.v4l_format.specs.declared.triple.Triple.{Triple}
use Rattle.v4l_format.specs.FormatRow.{grey, single_planar}
use Rattle.v4l_format.specs.SampleOrder.{colours_of, pixel_in}
use Rattle.v4l_format.specs.Triple.{turned}

-- how the samples of the format in this place lie
abbrev pub order_at : ℕ → SampleOrder
order_at place = (slice_index_or single_planar place grey).order

-- the lines of each plane, in the order of the planes
abbrev pub planes_of : SampleOrder → List LineKind
planes_of Grey = Luma ∷ []
planes_of Yuyv = LumaFirst ∷ []
planes_of Uyvy = ChromaFirst ∷ []
planes_of Nv12 = Luma ∷ Chroma ∷ []
planes_of Yu12 = Luma ∷ BlueChroma ∷ RedChroma ∷ []
planes_of Rgb3 = Primaries ∷ []

-- the lines of the plane with this number, counted from 0
abbrev pub kind_at : SampleOrder → ℕ → LineKind
kind_at order plane = slice_index_or (planes_of order) plane Luma

-- the bytes that a pair of pixels has in a line
abbrev pub pair_bytes : LineKind → Triple → Triple → List ℕ
pair_bytes Luma left right = left.0 ∷ right.0 ∷ []
pair_bytes LumaFirst left right = left.0 ∷ left.1 ∷ right.0 ∷ left.2 ∷ []
pair_bytes ChromaFirst left right = left.1 ∷ left.0 ∷ left.2 ∷ right.0 ∷ []
pair_bytes Chroma left right = left.1 ∷ left.2 ∷ []
pair_bytes BlueChroma left right = left.1 ∷ []
pair_bytes RedChroma left right = left.2 ∷ []
pair_bytes Primaries left right = left.0 ∷ left.1 ∷ left.2 ∷ right.0 ∷ right.1 ∷ right.2 ∷ []

-- how many these are
abbrev pub pair_size : LineKind → ℕ
pair_size Luma = 2
pair_size LumaFirst = 4
pair_size ChromaFirst = 4
pair_size Chroma = 2
pair_size BlueChroma = 1
pair_size RedChroma = 1
pair_size Primaries = 6

-- how many rows of pixels share a line
abbrev pub rows_of : LineKind → ℕ
rows_of Luma = 1
rows_of LumaFirst = 1
rows_of ChromaFirst = 1
rows_of Chroma = 2
rows_of BlueChroma = 2
rows_of RedChroma = 2
rows_of Primaries = 1

-- the colours that a line's bytes are components of
abbrev pub colours_in : LineKind → Colours
colours_in Luma = Ycbcr
colours_in LumaFirst = Ycbcr
colours_in ChromaFirst = Ycbcr
colours_in Chroma = Ycbcr
colours_in BlueChroma = Ycbcr
colours_in RedChroma = Ycbcr
colours_in Primaries = Rgb

-- the bytes of a line of w pixels
abbrev pub line_size : LineKind → ℕ → ℕ
line_size kind w = pair_size kind * (w / 2)

-- the pixel at (x, y) of a picture, turned into the colours of a line
abbrev pub turned_pixel : SampleOrder → LineKind → ℕ → ℕ → List ℕ → ℕ → ℕ → Triple
turned_pixel order kind w h bytes y x =
    turned (colours_of order) (colours_in kind) (pixel_in order w h bytes x y)

-- what the k-th pair of row y has in a line
abbrev pub converted_pair : SampleOrder → LineKind → ℕ → ℕ → List ℕ → ℕ → ℕ → List ℕ
converted_pair order kind w h bytes y k =
    pair_bytes kind (turned_pixel order kind w h bytes y (2 * k))
    (turned_pixel order kind w h bytes y (2 * k + 1))

-- the Y of the pixel x of a row that stands in these bytes
abbrev pub luma_in : SampleOrder → List ℕ → ℕ → ℕ
luma_in Grey bytes x = slice_index bytes x
luma_in Yuyv bytes x = slice_index bytes (2 * x)
luma_in Uyvy bytes x = slice_index bytes (2 * x + 1)
luma_in Nv12 bytes x = slice_index bytes x
luma_in Yu12 bytes x = slice_index bytes x
luma_in Rgb3 bytes x = slice_index bytes x

-- what stands at its place, in a row of w pixels: the Cb of two pixels at the left one's, the Cr at
-- the right one's
abbrev pub chroma_in : SampleOrder → ℕ → List ℕ → ℕ → ℕ
chroma_in Grey w bytes x = 128
chroma_in Yuyv w bytes x = slice_index bytes (2 * x + 1)
chroma_in Uyvy w bytes x = slice_index bytes (2 * x)
chroma_in Nv12 w bytes x = slice_index bytes (2 * w + x)
chroma_in Yu12 w bytes x = 128
chroma_in Rgb3 w bytes x = 128

-- the rows that have both
abbrev pub has_places : SampleOrder → Bool
has_places Grey = true
has_places Yuyv = true
has_places Uyvy = true
has_places Nv12 = true
has_places Yu12 = false
has_places Rgb3 = false

-- the lines that are made of these
abbrev pub goes_by_pixels : SampleOrder → LineKind → Bool
goes_by_pixels order Luma = false
goes_by_pixels order LumaFirst = has_places order
goes_by_pixels order ChromaFirst = has_places order
goes_by_pixels order Chroma = false
goes_by_pixels order BlueChroma = false
goes_by_pixels order RedChroma = false
goes_by_pixels order Primaries = false

-- what a pixel has in them
abbrev pub pixel_bytes : LineKind → ℕ → ℕ → List ℕ
pixel_bytes Luma luma chroma = chroma ∷ luma ∷ []
pixel_bytes LumaFirst luma chroma = luma ∷ chroma ∷ []
pixel_bytes ChromaFirst luma chroma = chroma ∷ luma ∷ []
pixel_bytes Chroma luma chroma = chroma ∷ luma ∷ []
pixel_bytes BlueChroma luma chroma = chroma ∷ luma ∷ []
pixel_bytes RedChroma luma chroma = chroma ∷ luma ∷ []
pixel_bytes Primaries luma chroma = chroma ∷ luma ∷ []

-- the line of a picture's row y
unfoldable pub converted_line : SampleOrder → LineKind → ℕ → ℕ → List ℕ → ℕ → List ℕ
converted_line order kind w h bytes y =
    flat_map (converted_pair order kind w h bytes y) (range_with_len 0 (w / 2))

-- the first n lines of a plane
unfoldable pub converted_lines : SampleOrder → LineKind → ℕ → ℕ → List ℕ → ℕ → List ℕ
converted_lines order kind w h bytes n =
    flat_map (λ m. converted_line order kind w h bytes (rows_of kind * m)) (range_with_len 0 n)

-- a whole plane
abbrev pub converted_plane : SampleOrder → ℕ → ℕ → List ℕ → LineKind → List ℕ
converted_plane order w h bytes kind = converted_lines order kind w h bytes (h / rows_of kind)

-- how many bytes it has
abbrev pub plane_size : ℕ → ℕ → LineKind → ℕ
plane_size w h kind = line_size kind w * (h / rows_of kind)
