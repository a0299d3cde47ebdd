-- The formats, in order.
use Rattle.std.specs.Prelude.{ℕ, codes, List, [], ◌∷◌, ◌==◌, if◌then◌else◌}
use Rattle.std.specs.Int.{from_le_bytes, w32}
use Rattle.v4l_const.specs.declared.four_cc.FourCc.{FourCc}
use Rattle.v4l_const.specs.declared.model.Model.{Model}
use Rattle.v4l_const.specs.declared.model.Model.TheVariants.{Capture, Convert}
use Rattle.v4l_format.specs.declared.format_row.FormatRow.{FormatRow}
use Rattle.v4l_format.specs.declared.sample_order.SampleOrder.{SampleOrder}
use Rattle.v4l_format.specs.declared.sample_order.SampleOrder.TheVariants.{Grey, Yuyv, Uyvy, Nv12, Yu12, Rgb3}

-- a row of the table: a code by its four letters, of which it is the little-endian number, and the
-- order of the samples
abbrev pub row : List ℕ → SampleOrder → FormatRow
row letters order = record { code = record { 0 = from_le_bytes w32 letters }; order = order }

-- the format that stands for an unknown code, and that a queue begins with
abbrev pub grey : FormatRow
grey = row (codes "GREY") Grey

-- the formats whose pictures lie in one plane
abbrev pub single_planar : List FormatRow
single_planar =
    grey ∷
    row (codes "YUYV") Yuyv ∷
    row (codes "UYVY") Uyvy ∷
    row (codes "NV12") Nv12 ∷
    row (codes "YU12") Yu12 ∷
    row (codes "RGB3") Rgb3 ∷ []

-- the formats that a model offers
abbrev pub formats_of : Model → List FormatRow
formats_of Capture = single_planar
formats_of Convert = single_planar

-- the row of a code, that of GREY where no row has it
abbrev pub row_in : List FormatRow → FourCc → FormatRow
row_in [] code = grey
row_in (r ∷ rows) code = if r.code.0 == code.0 then r else row_in rows code

-- the row of a code among all formats
unfoldable pub row_of : FourCc → FormatRow
row_of code = row_in single_planar code
