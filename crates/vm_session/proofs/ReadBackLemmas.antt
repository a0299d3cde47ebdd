-- What a call reads from the payload of its request is what the request asks for: its row has the words that were put in.
use Rattle.std.proofs.Common.{◌≡◌, ℕ, ◌<◌, ◌^◌, List, refl, ap, ◌∙◌}
use Rattle.v4l_const.specs.declared.four_cc.FourCc.{FourCc}
use Rattle.v4l_const.specs.declared.ioctl_code.IoctlCode.TheVariants.{QueryCap, EnumFmt, GFmt, SFmt, TryFmt, EnumInput, GInput, SInput, ReqBufs, QueryBuf, QBuf, StreamOn, StreamOff, SubscribeEvent, UnsubscribeEvent}
use Rattle.v4l_layout.specs.Records.{fmtdesc_bytes, format_bytes, input_bytes, request_bytes, buffer_bytes, subscription_bytes}
use Rattle.vm_frame.specs.declared.mem.Held.{Held}
use Rattle.vm_wire.proofs.BufferLemmas.{reqbufs_reads, querybuf_reads, qbuf_reads, subscription_reads}
use Rattle.vm_wire.specs.Buffers.{reqbufs_request, querybuf_request, qbuf_request, IsQueuedBuffer, subscription_request}
use Rattle.vm_wire.specs.declared.buffers.QueuedBuffer.{QueuedBuffer}
use Rattle.vm_wire.proofs.RecordLemmas.{number_reads_back, fmt_desc_index, fmt_desc_type, format_type_alone, format_type, format_width, format_height, format_code, input_index}
use Rattle.vm_wire.specs.Records.{fmt_desc_request, format_request, format_type_request, input_request}
use Rattle.vm_wire.specs.Wire.{le, number_at}
use Rattle.vm_session.specs.State.{SessionState}
use Rattle.vm_session.specs.Rows.{IoctlRow, code_at, ioctl_row, querycap_row, enumfmt_row, gfmt_row, tryfmt_row, sfmt_row, enuminput_row, ginput_row, sinput_row, reqbufs_row, querybuf_row, qbuf_row, streamon_row, streamoff_row, subscribe_row, unsubscribe_row}

pub querycap_reads : (s : SessionState) (payload : List ℕ) (held : List Held) → ioctl_row s QueryCap payload held ≡ querycap_row s
querycap_reads s payload held = refl

pub enumfmt_reads : (s : SessionState) (t i : ℕ) (held : List Held) → t < 2 ^ 32 → i < 2 ^ 32 →
    ioctl_row s EnumFmt (fmtdesc_bytes (fmt_desc_request t i)) held ≡ enumfmt_row s t i
enumfmt_reads s t i held small_t small_i =
    let asked : List ℕ = fmtdesc_bytes (fmt_desc_request t i) in
    ap (λ x. enumfmt_row s x (number_at 0 asked)) (fmt_desc_type t i small_t)
    ∙ ap (λ x. enumfmt_row s t x) (fmt_desc_index t i small_i)

pub gfmt_reads : (s : SessionState) (t : ℕ) (held : List Held) → t < 2 ^ 32 → ioctl_row s GFmt (format_bytes (format_type_request t)) held ≡ gfmt_row s t
gfmt_reads s t held small = ap (λ x. gfmt_row s x) (format_type_alone t small)

-- a row of four words, read from a format that is asked for
format_words : (r : ℕ → FourCc → ℕ → ℕ → IoctlRow) (t : ℕ) (f : FourCc) (w h : ℕ) → t < 2 ^ 32 → f.0 < 2 ^ 32 → w < 2 ^ 32 → h < 2 ^ 32 →
    (asked : List ℕ) → asked ≡ format_bytes (format_request t f w h) →
    r (number_at 0 asked) (code_at 16 asked) (number_at 8 asked) (number_at 12 asked) ≡ r t f w h
format_words r t f w h small_t small_f small_w small_h asked is =
    ap (λ x. r x (code_at 16 asked) (number_at 8 asked) (number_at 12 asked)) (ap (number_at 0) is ∙ format_type t f w h small_t)
    ∙ ap (λ x. r t (record { 0 = x }) (number_at 8 asked) (number_at 12 asked)) (ap (number_at 16) is ∙ format_code t f w h small_f)
    ∙ ap (λ x. r t f x (number_at 12 asked)) (ap (number_at 8) is ∙ format_width t f w h small_w)
    ∙ ap (λ x. r t f w x) (ap (number_at 12) is ∙ format_height t f w h small_h)

pub tryfmt_reads : (s : SessionState) (t : ℕ) (f : FourCc) (w h : ℕ) (held : List Held) → t < 2 ^ 32 → f.0 < 2 ^ 32 → w < 2 ^ 32 → h < 2 ^ 32 →
    ioctl_row s TryFmt (format_bytes (format_request t f w h)) held ≡ tryfmt_row s t f w h
tryfmt_reads s t f w h held small_t small_f small_w small_h = format_words (tryfmt_row s) t f w h small_t small_f small_w small_h _ refl

pub sfmt_reads : (s : SessionState) (t : ℕ) (f : FourCc) (w h : ℕ) (held : List Held) → t < 2 ^ 32 → f.0 < 2 ^ 32 → w < 2 ^ 32 → h < 2 ^ 32 →
    ioctl_row s SFmt (format_bytes (format_request t f w h)) held ≡ sfmt_row s t f w h
sfmt_reads s t f w h held small_t small_f small_w small_h = format_words (sfmt_row s) t f w h small_t small_f small_w small_h _ refl

pub enuminput_reads : (s : SessionState) (i : ℕ) (held : List Held) → i < 2 ^ 32 → ioctl_row s EnumInput (input_bytes (input_request i)) held ≡ enuminput_row s i
enuminput_reads s i held small = ap (λ x. enuminput_row s x) (input_index i small)

pub ginput_reads : (s : SessionState) (payload : List ℕ) (held : List Held) → ioctl_row s GInput payload held ≡ ginput_row s
ginput_reads s payload held = refl

pub sinput_reads : (s : SessionState) (i : ℕ) (held : List Held) → i < 2 ^ 32 → ioctl_row s SInput (le i) held ≡ sinput_row s i
sinput_reads s i held small = ap (λ x. sinput_row s x) (number_reads_back i small)

pub reqbufs_call_reads : (s : SessionState) (t m n : ℕ) (held : List Held) → t < 2 ^ 32 → m < 2 ^ 32 → n < 2 ^ 32 →
    ioctl_row s ReqBufs (request_bytes (reqbufs_request t m n)) held ≡ reqbufs_row s t m n
unfolding reqbufs_request
reqbufs_call_reads s t m n held small_t small_m small_n =
    ap (λ r. reqbufs_row s r.kind r.memory r.count) (reqbufs_reads t m n small_t small_m small_n)

pub querybuf_call_reads : (s : SessionState) (t i : ℕ) (held : List Held) → t < 2 ^ 32 → i < 2 ^ 32 →
    ioctl_row s QueryBuf (buffer_bytes (querybuf_request t i)) held ≡ querybuf_row s t i
unfolding querybuf_request
querybuf_call_reads s t i held small_t small_i =
    ap (λ b. querybuf_row s b.kind b.index) (querybuf_reads t i small_t small_i)

pub qbuf_call_reads : (s : SessionState) (b : QueuedBuffer) (held : List Held) → IsQueuedBuffer b →
    ioctl_row s QBuf (buffer_bytes (qbuf_request s.model b)) held ≡ qbuf_row s (qbuf_request s.model b) held
qbuf_call_reads s b held fits = ap (λ r. qbuf_row s r held) (qbuf_reads s.model b fits)

pub streamon_reads : (s : SessionState) (t : ℕ) (held : List Held) → t < 2 ^ 32 → ioctl_row s StreamOn (le t) held ≡ streamon_row s t
streamon_reads s t held small = ap (λ x. streamon_row s x) (number_reads_back t small)

pub streamoff_reads : (s : SessionState) (t : ℕ) (held : List Held) → t < 2 ^ 32 → ioctl_row s StreamOff (le t) held ≡ streamoff_row s t
streamoff_reads s t held small = ap (λ x. streamoff_row s x) (number_reads_back t small)

pub subscribe_reads : (s : SessionState) (e : ℕ) (held : List Held) → e < 2 ^ 32 →
    ioctl_row s SubscribeEvent (subscription_bytes (subscription_request e)) held ≡ subscribe_row s e
unfolding subscription_request
subscribe_reads s e held small = ap (λ r. subscribe_row s r.kind) (subscription_reads e small)

pub unsubscribe_reads : (s : SessionState) (e : ℕ) (held : List Held) → e < 2 ^ 32 →
    ioctl_row s UnsubscribeEvent (subscription_bytes (subscription_request e)) held ≡ unsubscribe_row s e
unfolding subscription_request
unsubscribe_reads s e held small = ap (λ r. unsubscribe_row s r.kind) (subscription_reads e small)
