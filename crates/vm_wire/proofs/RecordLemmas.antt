-- The sizes of the records that calls carry, and what is read from those of the requests.
use Rattle.std.proofs.Common.{◌≡◌, ℕ, ◌<◌, ◌^◌, length, refl}
use Rattle.std.proofs.lemmas.Nat.{from_le_bytes-to_le_bytes_4}
use Rattle.v4l_const.specs.declared.four_cc.FourCc.{FourCc}
use Rattle.v4l_const.specs.declared.model.Model.{Model}
use Rattle.v4l_const.specs.declared.model.Model.TheVariants.{Capture, Convert}
use Rattle.v4l_format.specs.declared.fmt.Fmt.{Fmt}
use Rattle.v4l_format.specs.declared.pattern.Pattern.{Pattern}
use Rattle.v4l_format.specs.declared.pattern.Pattern.TheVariants.{Bars, Ramp, Checker, Count}
use Rattle.v4l_layout.specs.Records.{capability_bytes, capability_fields, fmtdesc_bytes, fmtdesc_fields, format_bytes, format_fields, input_bytes, input_fields}
use Rattle.vm_wire.specs.Records.{capability_of, fmt_desc_request, fmt_desc_answer, format_request, format_type_request, format_answer, input_request, input_answer, padded, pattern_name}
use Rattle.vm_wire.specs.Wire.{le, number_at}

-- ---- the sizes

pub capability_length : (m : Model) → length (capability_bytes (capability_of m)) ≡ 104
unfolding capability_of capability_fields
capability_length Capture = refl
capability_length Convert = refl

pub fmt_desc_request_length : (t i : ℕ) → length (fmtdesc_bytes (fmt_desc_request t i)) ≡ 64
unfolding fmt_desc_request fmtdesc_fields
fmt_desc_request_length t i = refl

pub fmt_desc_answer_length : (t i : ℕ) (f : FourCc) → length (fmtdesc_bytes (fmt_desc_answer t i f)) ≡ 64
unfolding fmt_desc_answer fmtdesc_fields
fmt_desc_answer_length t i f = refl

pub format_request_length : (t : ℕ) (f : FourCc) (w h : ℕ) → length (format_bytes (format_request t f w h)) ≡ 208
unfolding format_request format_fields
format_request_length t f w h = refl

pub format_type_request_length : (t : ℕ) → length (format_bytes (format_type_request t)) ≡ 208
unfolding format_type_request format_fields
format_type_request_length t = refl

pub format_answer_length : (t : ℕ) (f : Fmt) → length (format_bytes (format_answer t f)) ≡ 208
unfolding format_answer format_fields
format_answer_length t f = refl

pub input_request_length : (i : ℕ) → length (input_bytes (input_request i)) ≡ 80
unfolding input_request input_fields
input_request_length i = refl

named_length : (i kind : ℕ) (p : Pattern) → length (input_bytes (record { index = i; name = padded 32 (pattern_name p); kind = kind })) ≡ 80
unfolding input_fields
named_length i kind Bars = refl
named_length i kind Ramp = refl
named_length i kind Checker = refl
named_length i kind Count = refl

pub input_answer_length : (i : ℕ) → length (input_bytes (input_answer i)) ≡ 80
unfolding input_answer
input_answer_length i = named_length i _ _

-- ---- the fields of requests

pub number_reads_back : (n : ℕ) → n < 2 ^ 32 → number_at 0 (le n) ≡ n
number_reads_back n small = from_le_bytes-to_le_bytes_4 n small

pub fmt_desc_index : (t i : ℕ) → i < 2 ^ 32 → number_at 0 (fmtdesc_bytes (fmt_desc_request t i)) ≡ i
unfolding fmtdesc_fields fmt_desc_request
fmt_desc_index t i small = from_le_bytes-to_le_bytes_4 i small

pub fmt_desc_type : (t i : ℕ) → t < 2 ^ 32 → number_at 4 (fmtdesc_bytes (fmt_desc_request t i)) ≡ t
unfolding fmtdesc_fields fmt_desc_request
fmt_desc_type t i small = from_le_bytes-to_le_bytes_4 t small

pub format_type_alone : (t : ℕ) → t < 2 ^ 32 → number_at 0 (format_bytes (format_type_request t)) ≡ t
unfolding format_fields format_type_request
format_type_alone t small = from_le_bytes-to_le_bytes_4 t small

pub format_type : (t : ℕ) (f : FourCc) (w h : ℕ) → t < 2 ^ 32 → number_at 0 (format_bytes (format_request t f w h)) ≡ t
unfolding format_fields format_request
format_type t f w h small = from_le_bytes-to_le_bytes_4 t small

pub format_width : (t : ℕ) (f : FourCc) (w h : ℕ) → w < 2 ^ 32 → number_at 8 (format_bytes (format_request t f w h)) ≡ w
unfolding format_fields format_request
format_width t f w h small = from_le_bytes-to_le_bytes_4 w small

pub format_height : (t : ℕ) (f : FourCc) (w h : ℕ) → h < 2 ^ 32 → number_at 12 (format_bytes (format_request t f w h)) ≡ h
unfolding format_fields format_request
format_height t f w h small = from_le_bytes-to_le_bytes_4 h small

pub format_code : (t : ℕ) (f : FourCc) (w h : ℕ) → f.0 < 2 ^ 32 → number_at 16 (format_bytes (format_request t f w h)) ≡ f.0
unfolding format_fields format_request
format_code t f w h small = from_le_bytes-to_le_bytes_4 f.0 small

pub input_index : (i : ℕ) → i < 2 ^ 32 → number_at 0 (input_bytes (input_request i)) ≡ i
unfolding input_fields input_request
input_index i small = from_le_bytes-to_le_bytes_4 i small
