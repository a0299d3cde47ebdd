-- The records that calls carry: in a request what is asked for, in an answer what is told. All else
-- in them is 0.
use Rattle.std.specs.Prelude.{ℕ, List, ◌++◌, length, replicate, ◌-◌, codes, slice_index_or}
use Rattle.std.specs.Int.{to_le_bytes, w32}
use Rattle.v4l_const.specs.declared.four_cc.FourCc.{FourCc}
use Rattle.v4l_const.specs.declared.model.Model.{Model}
use Rattle.v4l_const.specs.declared.numbers.TheConstants.{DRIVER_VERSION, FIELD_NONE, INPUT_TYPE_CAMERA}
use Rattle.v4l_const.specs.Model.{card, capabilities, device_capabilities}
use Rattle.v4l_format.specs.declared.fmt.Fmt.{Fmt}
use Rattle.v4l_format.specs.declared.pattern.Pattern.{Pattern}
use Rattle.v4l_format.specs.declared.pattern.Pattern.TheVariants.{Bars, Ramp, Checker, Count}
use Rattle.v4l_format.specs.Fmt.{line_length, picture_size}
use Rattle.v4l_format.specs.Pattern.{patterns}
use Rattle.v4l_layout.specs.declared.capability.Capability.{Capability}
use Rattle.v4l_layout.specs.declared.fmt_desc.FmtDesc.{FmtDesc}
use Rattle.v4l_layout.specs.declared.format_rec.FormatRec.{FormatRec}
use Rattle.v4l_layout.specs.declared.input_rec.InputRec.{InputRec}

-- a text with zeros behind it, n bytes in all
abbrev pub padded : ℕ → List ℕ → List ℕ
padded n text = text ++ replicate (n - length text) 0

-- ---- the device (QUERYCAP)

-- The texts and the version are own.
unfoldable pub capability_of : Model → Capability
capability_of m = record {
  driver = padded 16 (codes "vmedia");
  card = padded 32 (card m);
  bus_info = padded 32 (codes "platform:vmedia");
  version = DRIVER_VERSION;
  capabilities = capabilities m;
  device_caps = device_capabilities m;
}

-- ---- the formats that a queue offers (ENUM_FMT)

-- the i-th format of the queues of type t
unfoldable pub fmt_desc_request : ℕ → ℕ → FmtDesc
fmt_desc_request t i =
    record { index = i; kind = t; flags = 0; description = replicate 32 0; pixelformat = 0 }

-- The description is the four letters of the code, of which the code is the little-endian number.
unfoldable pub fmt_desc_answer : ℕ → ℕ → FourCc → FmtDesc
fmt_desc_answer t i code =
    record {
      index = i;
      kind = t;
      flags = 0;
      description = padded 32 (to_le_bytes w32 code.0);
      pixelformat = code.0;
    }

-- ---- the format of a queue (G_FMT, TRY_FMT, S_FMT)

unfoldable pub format_request : ℕ → FourCc → ℕ → ℕ → FormatRec
format_request t code w h =
    record {
      kind = t;
      width = w;
      height = h;
      pixelformat = code.0;
      field = 0;
      bytesperline = 0;
      sizeimage = 0;
    }

-- the type alone
unfoldable pub format_type_request : ℕ → FormatRec
format_type_request t =
    record {
      kind = t;
      width = 0;
      height = 0;
      pixelformat = 0;
      field = 0;
      bytesperline = 0;
      sizeimage = 0;
    }

unfoldable pub format_answer : ℕ → Fmt → FormatRec
format_answer t f = record {
  kind = t;
  width = f.width;
  height = f.height;
  pixelformat = f.code.0;
  field = FIELD_NONE;
  bytesperline = line_length f;
  sizeimage = picture_size f;
}

-- ---- the inputs (ENUMINPUT)

-- the name of the input that shows a pattern (own)
abbrev pub pattern_name : Pattern → List ℕ
pattern_name Bars = codes "bars"
pattern_name Ramp = codes "ramp"
pattern_name Checker = codes "checker"
pattern_name Count = codes "count"

-- the name of an input by its number
abbrev pub input_name : ℕ → List ℕ
input_name i = pattern_name (slice_index_or patterns i Bars)

unfoldable pub input_request : ℕ → InputRec
input_request i = record { index = i; name = replicate 32 0; kind = 0 }

unfoldable pub input_answer : ℕ → InputRec
input_answer i = record { index = i; name = padded 32 (input_name i); kind = INPUT_TYPE_CAMERA }
