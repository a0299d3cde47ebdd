-- The records of answers are read as they were written.
use Rattle.std.proofs.Common.{◌≡◌, ◌<◌, ◌≤◌, ◌^◌, ◌+◌, ◌*◌, ◌==◌, Bool, ℕ, zero, suc, get_or, List, [], ◌∷◌, length, Option, Some, refl, sym, ap, ◌∙◌, subst, arith, lit<, lit≤, eqb, true, false, if◌then◌else◌, slice_index_or}
use Rattle.std.proofs.lemmas.List.{append-nil}
use Rattle.std.specs.Prelude.{Result, Ok, Err, IfOk}
use Rattle.std.specs.Result.{result_ok}
use Rattle.std.proofs.lemmas.Option.{none-some}
use Rattle.v4l_layout.specs.declared.short.Short.{Short}
use Rattle.vm_local.proofs.KeptLemmas.{some_same}
use Rattle.v4l_const.specs.declared.four_cc.FourCc.{FourCc}
use Rattle.v4l_const.specs.declared.model.Model.{Model}
use Rattle.v4l_const.specs.declared.model.Model.TheVariants.{Capture, Convert}
use Rattle.v4l_const.specs.Model.{capabilities, device_capabilities}
use Rattle.v4l_format.specs.declared.fmt.Fmt.{Fmt}
use Rattle.v4l_format.specs.declared.format_row.FormatRow.{FormatRow}
use Rattle.v4l_format.specs.declared.pattern.Pattern.{Pattern}
use Rattle.v4l_format.specs.declared.pattern.Pattern.TheVariants.{Bars, Ramp, Checker, Count}
use Rattle.v4l_format.specs.declared.sample_order.SampleOrder.{SampleOrder}
use Rattle.v4l_format.specs.declared.sample_order.SampleOrder.TheVariants.{Grey, Yuyv, Uyvy, Nv12, Yu12, Rgb3}
use Rattle.v4l_format.specs.Fmt.{IsAdjusted, order_of}
use Rattle.v4l_format.specs.FormatRow.{single_planar, row_in, row_of, grey, formats_of}
use Rattle.v4l_format.specs.Pattern.{patterns}
use Rattle.v4l_format.specs.SampleOrder.{line_bytes}
use Rattle.v4l_format.proofs.FmtLemmas.{picture_size_most}
use Rattle.v4l_layout.specs.declared.capability.Capability.{Capability}
use Rattle.v4l_layout.specs.declared.field.Field.{Field}
use Rattle.v4l_layout.specs.declared.fmt_desc.FmtDesc.{FmtDesc}
use Rattle.v4l_layout.specs.declared.format_rec.FormatRec.{FormatRec}
use Rattle.v4l_layout.specs.declared.input_rec.InputRec.{InputRec}
use Rattle.v4l_layout.specs.Layout.{layout_bytes, IsLaid, ReadsAs}
use Rattle.v4l_layout.specs.Records.{capability_size, capability_fields, capability_bytes, fmtdesc_size, fmtdesc_fields, fmtdesc_bytes, format_size, format_fields, format_bytes, input_size, input_fields, input_bytes, request_size, request_fields, request_bytes, buffer_size, buffer_fields, buffer_bytes}
use Rattle.v4l_layout.proofs.Laid.{length_laid, laid_reads_back}
use Rattle.v4l_const.specs.declared.numbers.TheConstants.{BUF_TYPE_OUTPUT, MEMORY_MMAP}
use Rattle.v4l_layout.specs.declared.buffer_rec.BufferRec.{BufferRec}
use Rattle.v4l_layout.specs.declared.request_buffers.RequestBuffers.{RequestBuffers}
use Rattle.vm_wire.specs.Buffers.{buffer_offset, reqbufs_answer, querybuf_answer}
use Rattle.vm_wire.specs.declared.buffers.TheConstants.{BUFFER_STEP, OUTPUT_OFFSET}
use Rattle.vm_wire.proofs.BufferLemmas.{reqbufs_answer_length, querybuf_answer_length}
use Rattle.vm_local.specs.Calls.{format_reply}
use Rattle.vm_local.specs.declared.reply.Reply.{Reply}
use Rattle.vm_local.specs.declared.reply.Reply.TheVariants.{Caps, Code, Format, InputName, Count as Counted, Buf}
use Rattle.vm_wire.specs.Records.{padded, capability_of, fmt_desc_answer, format_answer, pattern_name, input_answer}

-- ---- bytes that are laid out

pub long_as_laid : (size : ℕ) (fields : List Field) (bytes : List ℕ) → IsLaid size 0 fields → bytes ≡ layout_bytes size fields → length bytes ≡ size
long_as_laid size fields bytes laid are = ap (λ b. length b) are ∙ omega (arith, length_laid size 0 fields laid)

pub reads_as_laid : (size : ℕ) (fields : List Field) (bytes : List ℕ) → IsLaid size 0 fields → bytes ≡ layout_bytes size fields → ReadsAs bytes fields
reads_as_laid size fields bytes laid are =
    let P : List ℕ → Type 0 = λ b. ReadsAs b fields in
    subst P (append-nil (layout_bytes size fields) ∙ sym are) (laid_reads_back size 0 [] [] fields refl laid)

-- what a reader that didn't fail gave
pub given_by : {R : Type 0} (P : R → Type 0) (o : Result R Short) (x : R) → IfOk o P → result_ok o ≡ Some x → P x
given_by P (Ok y) x holds is = subst P (some_same y x y is) holds
given_by P (Err e) x holds is = absurd (none-some x is)

-- ---- the numbers of a format

abbrev AreBelow : List FormatRow → Type 0
AreBelow [] = Unit {0}
AreBelow (r ∷ rows) = (r.code.0 < 2 ^ 32) × AreBelow rows

row_below : (rows : List FormatRow) (code : FourCc) → AreBelow rows → (row_in rows code).code.0 < 2 ^ 32
row_below [] code below = lit< tt
row_below (r ∷ rows) code below = elim (eqb r.code.0 code.0) as (λ b. (if b then r else row_in rows code).code.0 < 2 ^ 32) [
  | true ↦ below.0
  | false ↦ row_below rows code below.1
]

row_at_below : (rows : List FormatRow) (i : ℕ) → AreBelow rows → (get_or rows i grey).code.0 < 2 ^ 32
row_at_below [] i below = lit< tt
row_at_below (r ∷ rows) zero below = below.0
row_at_below (r ∷ rows) (suc i) below = row_at_below rows i below.1

single_planar_below : AreBelow single_planar
single_planar_below = (lit< tt, (lit< tt, (lit< tt, (lit< tt, (lit< tt, (lit< tt, tt))))))

pub code_below : (code : FourCc) → (row_of code).code.0 < 2 ^ 32
unfolding row_of
code_below code = row_below single_planar code single_planar_below

-- the code of a format that a model offers
pub nth_code_below : (m : Model) (i : ℕ) → (get_or (formats_of m) i grey).code.0 < 2 ^ 32
nth_code_below Capture i = row_at_below single_planar i single_planar_below
nth_code_below Convert i = row_at_below single_planar i single_planar_below

line_most : (o : SampleOrder) (w : ℕ) → w ≤ 640 → line_bytes o w ≤ 1920
line_most Grey w most = omega (arith, most)
line_most Yuyv w most = omega (arith, most)
line_most Uyvy w most = omega (arith, most)
line_most Nv12 w most = omega (arith, most)
line_most Yu12 w most = omega (arith, most)
line_most Rgb3 w most = omega (arith, most)

-- ---- records that fit

capability_laid : (m : Model) → IsLaid capability_size 0 (capability_fields (capability_of m))
unfolding capability_fields capability_of
capability_laid Capture = (lit≤ tt, refl, (lit≤ tt, refl, (lit≤ tt, refl, (lit≤ tt, lit< tt, (lit≤ tt, lit< tt, (lit≤ tt, lit< tt, lit≤ tt))))))
capability_laid Convert = (lit≤ tt, refl, (lit≤ tt, refl, (lit≤ tt, refl, (lit≤ tt, lit< tt, (lit≤ tt, lit< tt, (lit≤ tt, lit< tt, lit≤ tt))))))

fmtdesc_laid : (t i : ℕ) (code : FourCc) → t < 2 ^ 32 → i < 2 ^ 32 → code.0 < 2 ^ 32 → IsLaid fmtdesc_size 0 (fmtdesc_fields (fmt_desc_answer t i code))
unfolding fmtdesc_fields fmt_desc_answer
fmtdesc_laid t i code type index letters = (lit≤ tt, index, (lit≤ tt, type, (lit≤ tt, lit< tt, (lit≤ tt, refl, (lit≤ tt, letters, lit≤ tt)))))

format_laid : (t : ℕ) (f : Fmt) → t < 2 ^ 32 → IsAdjusted f → IsLaid format_size 0 (format_fields (format_answer t f))
unfolding format_fields format_answer
format_laid t f type offered =
    let letters : f.code.0 < 2 ^ 32 = subst (λ (c : FourCc). c.0 < 2 ^ 32) offered.known (code_below f.code) in
    let line = line_most (order_of f) f.width offered.width.high in
    let size = picture_size_most f offered in
    (lit≤ tt, type, (lit≤ tt, omega (arith, offered.width.high), (lit≤ tt, omega (arith, offered.height.high), (lit≤ tt, letters, (lit≤ tt, lit< tt, (lit≤ tt, omega (arith, line), (lit≤ tt, omega (arith, size), lit≤ tt)))))))

name_fits : (p : Pattern) → length (padded 32 (pattern_name p)) ≡ 32
name_fits Bars = refl
name_fits Ramp = refl
name_fits Checker = refl
name_fits Count = refl

input_laid : (i : ℕ) → i < 2 ^ 32 → IsLaid input_size 0 (input_fields (input_answer i))
unfolding input_fields input_answer
input_laid i index = (lit≤ tt, index, (lit≤ tt, name_fits (slice_index_or patterns i Bars), (lit≤ tt, lit< tt, lit≤ tt)))

-- ---- an answer's bytes are not too few

pub capability_long : (bytes : List ℕ) (m : Model) → bytes ≡ capability_bytes (capability_of m) → length bytes ≡ capability_size
capability_long bytes m are = long_as_laid capability_size (capability_fields (capability_of m)) bytes (capability_laid m) are

pub fmtdesc_long : (bytes : List ℕ) (t i : ℕ) (code : FourCc) → t < 2 ^ 32 → i < 2 ^ 32 → code.0 < 2 ^ 32 → bytes ≡ fmtdesc_bytes (fmt_desc_answer t i code) → length bytes ≡ fmtdesc_size
fmtdesc_long bytes t i code type index letters are = long_as_laid fmtdesc_size (fmtdesc_fields (fmt_desc_answer t i code)) bytes (fmtdesc_laid t i code type index letters) are

pub format_long : (bytes : List ℕ) (t : ℕ) (f : Fmt) → t < 2 ^ 32 → IsAdjusted f → bytes ≡ format_bytes (format_answer t f) → length bytes ≡ format_size
format_long bytes t f type offered are = long_as_laid format_size (format_fields (format_answer t f)) bytes (format_laid t f type offered) are

pub input_long : (bytes : List ℕ) (i : ℕ) → i < 2 ^ 32 → bytes ≡ input_bytes (input_answer i) → length bytes ≡ input_size
input_long bytes i index are = long_as_laid input_size (input_fields (input_answer i)) bytes (input_laid i index) are

-- ---- the replies that they tell

one_capability : (bytes : List ℕ) (r x : Capability) → ReadsAs bytes (capability_fields r) → ReadsAs bytes (capability_fields x) → (x.capabilities ≡ r.capabilities) × (x.device_caps ≡ r.device_caps)
unfolding capability_fields
one_capability bytes r x a b = (sym b.1.1.1.1.0 ∙ a.1.1.1.1.0, sym b.1.1.1.1.1.0 ∙ a.1.1.1.1.1.0)

pub caps_told : (bytes : List ℕ) (x : Capability) (m : Model) → bytes ≡ capability_bytes (capability_of m) → ReadsAs bytes (capability_fields x)
    → ◌≡◌ {A = Option Reply} (Some (Caps x.capabilities x.device_caps)) (Some (Caps (capabilities m) (device_capabilities m)))
unfolding capability_of
caps_told bytes x m are read =
    let is = one_capability bytes (capability_of m) x (reads_as_laid capability_size (capability_fields (capability_of m)) bytes (capability_laid m) are) read in
    rw (is.0, is.1) refl

one_fmtdesc : (bytes : List ℕ) (r x : FmtDesc) → ReadsAs bytes (fmtdesc_fields r) → ReadsAs bytes (fmtdesc_fields x) → x.pixelformat ≡ r.pixelformat
unfolding fmtdesc_fields
one_fmtdesc bytes r x a b = sym b.1.1.1.1.0 ∙ a.1.1.1.1.0

pub code_told : (bytes : List ℕ) (x : FmtDesc) (t i : ℕ) (code : FourCc) → t < 2 ^ 32 → i < 2 ^ 32 → code.0 < 2 ^ 32 → bytes ≡ fmtdesc_bytes (fmt_desc_answer t i code) → ReadsAs bytes (fmtdesc_fields x)
    → ◌≡◌ {A = Option Reply} (Some (Code (record { 0 = x.pixelformat }))) (Some (Code code))
unfolding fmt_desc_answer
code_told bytes x t i code type index letters are read =
    let is = one_fmtdesc bytes (fmt_desc_answer t i code) x (reads_as_laid fmtdesc_size (fmtdesc_fields (fmt_desc_answer t i code)) bytes (fmtdesc_laid t i code type index letters) are) read in
    rw is refl

one_format : (bytes : List ℕ) (r x : FormatRec) → ReadsAs bytes (format_fields r) → ReadsAs bytes (format_fields x) → x ≡ r
unfolding format_fields
one_format bytes r x a b = λ j. record {
  kind = (sym b.0 ∙ a.0) j;
  width = (sym b.1.0 ∙ a.1.0) j;
  height = (sym b.1.1.0 ∙ a.1.1.0) j;
  pixelformat = (sym b.1.1.1.0 ∙ a.1.1.1.0) j;
  field = (sym b.1.1.1.1.0 ∙ a.1.1.1.1.0) j;
  bytesperline = (sym b.1.1.1.1.1.0 ∙ a.1.1.1.1.1.0) j;
  sizeimage = (sym b.1.1.1.1.1.1.0 ∙ a.1.1.1.1.1.1.0) j;
}

-- the reply that a format's record tells
abbrev format_of_record : FormatRec → Reply
format_of_record x = Format (record { code = record { 0 = x.pixelformat }; width = x.width; height = x.height }) x.bytesperline x.sizeimage

pub format_told : (bytes : List ℕ) (x : FormatRec) (t : ℕ) (f : Fmt) → t < 2 ^ 32 → IsAdjusted f → bytes ≡ format_bytes (format_answer t f) → ReadsAs bytes (format_fields x)
    → ◌≡◌ {A = Option Reply} (Some (format_of_record x)) (Some (format_reply f))
unfolding format_answer
format_told bytes x t f type offered are read =
    let is : x ≡ format_answer t f = one_format bytes (format_answer t f) x (reads_as_laid format_size (format_fields (format_answer t f)) bytes (format_laid t f type offered) are) read in
    ap (λ r. Some (format_of_record r)) is

one_input : (bytes : List ℕ) (r x : InputRec) → ReadsAs bytes (input_fields r) → ReadsAs bytes (input_fields x) → x.index ≡ r.index
unfolding input_fields
one_input bytes r x a b = sym b.0 ∙ a.0

pub name_told : (bytes : List ℕ) (x : InputRec) (i : ℕ) → i < 2 ^ 32 → bytes ≡ input_bytes (input_answer i) → ReadsAs bytes (input_fields x)
    → ◌≡◌ {A = Option Reply} (Some (InputName x.index)) (Some (InputName i))
unfolding input_answer
name_told bytes x i index are read =
    ap (λ n. Some (InputName n)) (one_input bytes (input_answer i) x (reads_as_laid input_size (input_fields (input_answer i)) bytes (input_laid i index) are) read)

-- ---- buffers

request_laid : (m : Model) (t memory count : ℕ) → t < 2 ^ 32 → memory < 2 ^ 32 → count < 2 ^ 32 → IsLaid request_size 0 (request_fields (reqbufs_answer m t memory count))
unfolding request_fields reqbufs_answer
request_laid Capture t memory count small_t small_m small_c = grind arith
request_laid Convert t memory count small_t small_m small_c = grind arith

one_request : (bytes : List ℕ) (r x : RequestBuffers) → ReadsAs bytes (request_fields r) → ReadsAs bytes (request_fields x) → x.count ≡ r.count
unfolding request_fields
one_request bytes r x a b = sym b.0 ∙ a.0

pub request_long : (bytes : List ℕ) (m : Model) (t memory count : ℕ) → bytes ≡ request_bytes (reqbufs_answer m t memory count) → length bytes ≡ request_size
request_long bytes m t memory count are = ap (λ b. length b) are ∙ reqbufs_answer_length m t memory count

pub count_told : (bytes : List ℕ) (x : RequestBuffers) (m : Model) (t memory count : ℕ) → t < 2 ^ 32 → memory < 2 ^ 32 → count < 2 ^ 32
    → bytes ≡ request_bytes (reqbufs_answer m t memory count) → ReadsAs bytes (request_fields x) → ◌≡◌ {A = Option Reply} (Some (Counted x.count)) (Some (Counted count))
unfolding reqbufs_answer
count_told bytes x m t memory count small_t small_m small_c are read =
    ap (λ n. Some (Counted n))
    (one_request bytes (reqbufs_answer m t memory count) x
    (reads_as_laid request_size (request_fields (reqbufs_answer m t memory count)) bytes (request_laid m t memory count small_t small_m small_c) are) read)

place_below : (b : Bool) (t i : ℕ) → i < 32 → (if b then buffer_offset t i else 0) < 2 ^ 64
place_below false t i few = lit< tt
place_below true t i few = from (t == BUF_TYPE_OUTPUT)
  where
    from : (b : Bool) → (if b then OUTPUT_OFFSET else 0) + i * BUFFER_STEP < 2 ^ 64
    from true = omega (arith, few)
    from false = omega (arith, few)

buffer_laid : (m : Model) (t i memory len : ℕ) → t < 2 ^ 32 → i < 32 → memory < 2 ^ 32 → len < 2 ^ 32 → IsLaid buffer_size 0 (buffer_fields (querybuf_answer m t i memory len))
unfolding buffer_fields querybuf_answer
buffer_laid Capture t i memory len small_t few small_m small_l = let there = place_below (memory == MEMORY_MMAP) t i few in grind (arith, there)
buffer_laid Convert t i memory len small_t few small_m small_l = let there = place_below (memory == MEMORY_MMAP) t i few in grind (arith, there)

one_buffer : (bytes : List ℕ) (r x : BufferRec) → ReadsAs bytes (buffer_fields r) → ReadsAs bytes (buffer_fields x) → x.length ≡ r.length
unfolding buffer_fields
one_buffer bytes r x a b = sym b.1.1.1.1.1.1.1.1.1.1.1.0 ∙ a.1.1.1.1.1.1.1.1.1.1.1.0

pub buffer_long : (bytes : List ℕ) (m : Model) (t i memory len : ℕ) → bytes ≡ buffer_bytes (querybuf_answer m t i memory len) → length bytes ≡ buffer_size
buffer_long bytes m t i memory len are = ap (λ b. length b) are ∙ querybuf_answer_length m t i memory len

pub length_told : (bytes : List ℕ) (x : BufferRec) (m : Model) (t i memory len : ℕ) → t < 2 ^ 32 → i < 32 → memory < 2 ^ 32 → len < 2 ^ 32
    → bytes ≡ buffer_bytes (querybuf_answer m t i memory len) → ReadsAs bytes (buffer_fields x) → x.length ≡ len
unfolding querybuf_answer
length_told bytes x m t i memory len small_t few small_m small_l are read =
    one_buffer bytes (querybuf_answer m t i memory len) x
    (reads_as_laid buffer_size (buffer_fields (querybuf_answer m t i memory len)) bytes (buffer_laid m t i memory len small_t few small_m small_l) are) read

pub buf_as : (size len flags bits : ℕ) → size ≡ len → flags ≡ bits → ◌≡◌ {A = Option Reply} (Some (Buf size flags)) (Some (Buf len bits))
buf_as size len flags bits lengths same = rw (lengths, same) refl
