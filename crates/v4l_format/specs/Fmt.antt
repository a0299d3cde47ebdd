-- A picture's format, and the sizes that follow from it.
use Rattle.std.specs.Prelude.{◌≡◌, ℕ, ◌-◌, ◌%◌, ◌≤◌, min, max, List}
use Rattle.v4l_const.specs.declared.four_cc.FourCc.{FourCc}
use Rattle.v4l_format.specs.declared.fmt.Fmt.{Fmt}
use Rattle.v4l_format.specs.declared.format_row.FormatRow.{FormatRow}
use Rattle.v4l_format.specs.declared.sample_order.SampleOrder.{SampleOrder}
use Rattle.v4l_format.specs.FormatRow.{single_planar, row_in, row_of}
use Rattle.v4l_format.specs.SampleOrder.{line_bytes, picture_bytes}

-- a length lowered to an even one and brought into 16 to the most
abbrev pub adjusted_length : ℕ → ℕ → ℕ
adjusted_length most n = max 16 (min most (n - n % 2))

-- what is asked for, turned into a format of the table: an unknown code into GREY, the width into
-- an even one from 16 to 640, the height into an even one from 16 to 480
abbrev pub adjusted_in : List FormatRow → FourCc → ℕ → ℕ → Fmt
adjusted_in rows code w h =
    record {
      code = (row_in rows code).code;
      width = adjusted_length 640 w;
      height = adjusted_length 480 h;
    }

-- the same by the formats that lie in one plane
unfoldable pub adjusted : FourCc → ℕ → ℕ → Fmt
adjusted code w h = adjusted_in single_planar code w h

-- a length is even and in 16 to the most
pub record IsFitting (most n : ℕ) : Type 0 where
  pub even : n % 2 ≡ 0
  pub low : 16 ≤ n
  pub high : n ≤ most

-- the format is one of the table, in a size that is offered: adjusting gives it back
pub record IsAdjusted (f : Fmt) : Type 0 where
  pub known : (row_of f.code).code ≡ f.code
  pub width : IsFitting 640 f.width
  pub height : IsFitting 480 f.height

-- how the samples of a format lie
abbrev pub order_of : Fmt → SampleOrder
order_of f = (row_of f.code).order

-- the bytes of a line
abbrev pub line_length : Fmt → ℕ
line_length f = line_bytes (order_of f) f.width

-- the bytes of a picture
abbrev pub picture_size : Fmt → ℕ
picture_size f = picture_bytes (order_of f) f.width f.height
