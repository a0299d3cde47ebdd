-- The records of buffers and events: their sizes, and what is read from them.
use Rattle.std.proofs.Common.{◌≡◌, ℕ, ◌<◌, ◌+◌, ◌*◌, ◌/◌, ◌%◌, ◌^◌, ◌==◌, Bool, true, false, if◌then◌else◌, Option, Some, None, Result, Ok, IfOk, List, [], length, refl, sym, ◌∙◌, subst, arith}
use Rattle.std.proofs.lemmas.List.{append-nil}
use Rattle.std.proofs.lemmas.Nat.{from_le_bytes-to_le_bytes_4}
use Rattle.v4l_const.specs.declared.model.Model.{Model}
use Rattle.v4l_const.specs.declared.numbers.TheConstants.{BUF_TYPE_OUTPUT}
use Rattle.v4l_const.specs.Model.{source_queue}
use Rattle.v4l_layout.specs.Layout.{ReadsAs, IsLaid}
use Rattle.v4l_layout.specs.Records.{request_size, request_fields, request_bytes, buffer_size, buffer_fields, buffer_bytes, subscription_size, subscription_fields, subscription_bytes}
use Rattle.v4l_layout.specs.declared.buffer_rec.BufferRec.{BufferRec}
use Rattle.v4l_layout.specs.declared.request_buffers.RequestBuffers.{RequestBuffers}
use Rattle.v4l_layout.specs.declared.subscription.Subscription.{Subscription}
use Rattle.v4l_layout.specs.declared.short.Short.{Short}
use Rattle.v4l_layout.proofs.Laid.{laid_reads_back}
use Rattle.vm_wire.specs.Buffers.{offsets_from, buffer_offset, reqbufs_request, reqbufs_answer, querybuf_request, querybuf_answer, told_from, qbuf_request, IsQueuedBuffer, qbuf_answer, subscription_request, frame_event, frame_of, reqbufs_in, buffer_in, subscription_in}
use Rattle.vm_wire.specs.declared.buffers.QueuedBuffer.{QueuedBuffer}
use Rattle.vm_wire.specs.declared.buffers.TheConstants.{OUTPUT_OFFSET, MICROS}

-- ---- the sizes

pub reqbufs_request_length : (t memory count : ℕ) → length (request_bytes (reqbufs_request t memory count)) ≡ 20
unfolding reqbufs_request request_fields
reqbufs_request_length t memory count = refl

pub reqbufs_answer_length : (model : Model) (t memory count : ℕ) → length (request_bytes (reqbufs_answer model t memory count)) ≡ 20
unfolding reqbufs_answer request_fields
reqbufs_answer_length model t memory count = refl

pub querybuf_request_length : (t i : ℕ) → length (buffer_bytes (querybuf_request t i)) ≡ 88
unfolding querybuf_request buffer_fields
querybuf_request_length t i = refl

pub querybuf_answer_length : (model : Model) (t i memory len : ℕ) → length (buffer_bytes (querybuf_answer model t i memory len)) ≡ 88
unfolding querybuf_answer buffer_fields
querybuf_answer_length model t i memory len = refl

pub qbuf_request_length : (model : Model) (b : QueuedBuffer) → length (buffer_bytes (qbuf_request model b)) ≡ 88
unfolding qbuf_request buffer_fields
qbuf_request_length model b = refl

pub qbuf_answer_length : (asked : BufferRec) → length (buffer_bytes (qbuf_answer asked)) ≡ 88
unfolding qbuf_answer buffer_fields
qbuf_answer_length asked = refl

pub subscription_length : (event : ℕ) → length (subscription_bytes (subscription_request event)) ≡ 32
unfolding subscription_request subscription_fields
subscription_length event = refl

-- ---- bytes that read as a record have its words

pub reqbufs_is : (bytes : List ℕ) (r : RequestBuffers) → ReadsAs bytes (request_fields r) → r ≡ reqbufs_in bytes
unfolding request_fields
reqbufs_is bytes r h = λ i. record { count = sym h.0 i; kind = sym h.1.0 i; memory = sym h.1.1.0 i; capabilities = sym h.1.1.1.0 i }

pub buffer_is : (bytes : List ℕ) (r : BufferRec) → ReadsAs bytes (buffer_fields r) → r ≡ buffer_in bytes
unfolding buffer_fields
buffer_is bytes r h = λ i. record {
  index = sym h.0 i;
  kind = sym h.1.0 i;
  bytesused = sym h.1.1.0 i;
  flags = sym h.1.1.1.0 i;
  field = sym h.1.1.1.1.0 i;
  seconds = sym h.1.1.1.1.1.0 i;
  micros = sym h.1.1.1.1.1.1.0 i;
  timecode = sym h.1.1.1.1.1.1.1.0 i;
  sequence = sym h.1.1.1.1.1.1.1.1.0 i;
  memory = sym h.1.1.1.1.1.1.1.1.1.0 i;
  m = sym h.1.1.1.1.1.1.1.1.1.1.0 i;
  length = sym h.1.1.1.1.1.1.1.1.1.1.1.0 i;
  reserved2 = sym h.1.1.1.1.1.1.1.1.1.1.1.1.0 i;
  request_fd = sym h.1.1.1.1.1.1.1.1.1.1.1.1.1.0 i;
}

pub subscription_is : (bytes : List ℕ) (r : Subscription) → ReadsAs bytes (subscription_fields r) → r ≡ subscription_in bytes
unfolding subscription_fields
subscription_is bytes r h = λ i. record { kind = sym h.0 i; id = sym h.1.0 i; flags = sym h.1.1.0 i }

-- the record that is read of bytes has their words
pub buffer_read : (bytes read : List ℕ) (o : Result BufferRec Short) (r : BufferRec) → read ≡ bytes → IfOk o (λ x. ReadsAs read (buffer_fields x)) → o ≡ Ok r → r ≡ buffer_in bytes
buffer_read bytes read o r same reads is =
    let O : Result BufferRec Short → Type 0 = λ x. IfOk x (λ y. ReadsAs read (buffer_fields y)) in
    let B : List ℕ → Type 0 = λ b. ReadsAs b (buffer_fields r) in
    buffer_is bytes r (subst B same (subst O is reads))

pub reqbufs_read : (bytes read : List ℕ) (o : Result RequestBuffers Short) (r : RequestBuffers) → read ≡ bytes → IfOk o (λ x. ReadsAs read (request_fields x)) → o ≡ Ok r → r ≡ reqbufs_in bytes
reqbufs_read bytes read o r same reads is =
    let O : Result RequestBuffers Short → Type 0 = λ x. IfOk x (λ y. ReadsAs read (request_fields y)) in
    let B : List ℕ → Type 0 = λ b. ReadsAs b (request_fields r) in
    reqbufs_is bytes r (subst B same (subst O is reads))

pub subscription_read : (bytes read : List ℕ) (o : Result Subscription Short) (r : Subscription) → read ≡ bytes → IfOk o (λ x. ReadsAs read (subscription_fields x)) → o ≡ Ok r → r ≡ subscription_in bytes
subscription_read bytes read o r same reads is =
    let O : Result Subscription Short → Type 0 = λ x. IfOk x (λ y. ReadsAs read (subscription_fields y)) in
    let B : List ℕ → Type 0 = λ b. ReadsAs b (subscription_fields r) in
    subscription_is bytes r (subst B same (subst O is reads))

-- ---- a record that is laid out is read again

pub reqbufs_again : (r : RequestBuffers) → IsLaid request_size 0 (request_fields r) → reqbufs_in (request_bytes r) ≡ r
reqbufs_again r laid =
    let P : List ℕ → Type 0 = λ bytes. ReadsAs bytes (request_fields r) in
    sym (reqbufs_is (request_bytes r) r (subst P (append-nil (request_bytes r)) (laid_reads_back request_size 0 [] [] (request_fields r) refl laid)))

pub buffer_again : (r : BufferRec) → IsLaid buffer_size 0 (buffer_fields r) → buffer_in (buffer_bytes r) ≡ r
buffer_again r laid =
    let P : List ℕ → Type 0 = λ bytes. ReadsAs bytes (buffer_fields r) in
    sym (buffer_is (buffer_bytes r) r (subst P (append-nil (buffer_bytes r)) (laid_reads_back buffer_size 0 [] [] (buffer_fields r) refl laid)))

pub subscription_again : (r : Subscription) → IsLaid subscription_size 0 (subscription_fields r) → subscription_in (subscription_bytes r) ≡ r
subscription_again r laid =
    let P : List ℕ → Type 0 = λ bytes. ReadsAs bytes (subscription_fields r) in
    sym (subscription_is (subscription_bytes r) r (subst P (append-nil (subscription_bytes r)) (laid_reads_back subscription_size 0 [] [] (subscription_fields r) refl laid)))

-- ---- a request whose numbers fit into their fields is laid out

reqbufs_laid : (t memory count : ℕ) → t < 2 ^ 32 → memory < 2 ^ 32 → count < 2 ^ 32 → IsLaid request_size 0 (request_fields (reqbufs_request t memory count))
unfolding reqbufs_request request_fields
reqbufs_laid t memory count small_t small_m small_c = grind arith

querybuf_laid : (t i : ℕ) → t < 2 ^ 32 → i < 2 ^ 32 → IsLaid buffer_size 0 (buffer_fields (querybuf_request t i))
unfolding querybuf_request buffer_fields
querybuf_laid t i small_t small_i = grind arith

told_if : (b : Bool) (n bound : ℕ) → n < bound → (if b then n else 0) < bound
told_if true n bound below = below
told_if false n bound below = omega (arith, below)

told_below : (o : Option ℕ) (t n bound : ℕ) → n < bound → told_from o t n < bound
told_below None t n bound below = omega (arith, below)
told_below (Some source) t n bound below = told_if (source == t) n bound below

qbuf_laid : (model : Model) (b : QueuedBuffer) → IsQueuedBuffer b → IsLaid buffer_size 0 (buffer_fields (qbuf_request model b))
unfolding qbuf_request buffer_fields
qbuf_laid model b fits =
    let used = told_below (source_queue model) b.kind b.bytesused (2 ^ 32) fits.2 in
    let seconds = told_below (source_queue model) b.kind (b.timestamp / MICROS) (2 ^ 64) (omega (arith, fits.3)) in
    let micros = told_below (source_queue model) b.kind (b.timestamp % MICROS) (2 ^ 64) (omega (arith, fits.3)) in
    grind (arith, used, seconds, micros, fits)

subscription_laid : (event : ℕ) → event < 2 ^ 32 → IsLaid subscription_size 0 (subscription_fields (subscription_request event))
unfolding subscription_request subscription_fields
subscription_laid event small = grind arith

-- ---- and read as what it asks for

pub reqbufs_reads : (t memory count : ℕ) → t < 2 ^ 32 → memory < 2 ^ 32 → count < 2 ^ 32 → reqbufs_in (request_bytes (reqbufs_request t memory count)) ≡ reqbufs_request t memory count
reqbufs_reads t memory count small_t small_m small_c = reqbufs_again (reqbufs_request t memory count) (reqbufs_laid t memory count small_t small_m small_c)

pub querybuf_reads : (t i : ℕ) → t < 2 ^ 32 → i < 2 ^ 32 → buffer_in (buffer_bytes (querybuf_request t i)) ≡ querybuf_request t i
querybuf_reads t i small_t small_i = buffer_again (querybuf_request t i) (querybuf_laid t i small_t small_i)

pub qbuf_reads : (model : Model) (b : QueuedBuffer) → IsQueuedBuffer b → buffer_in (buffer_bytes (qbuf_request model b)) ≡ qbuf_request model b
qbuf_reads model b fits = buffer_again (qbuf_request model b) (qbuf_laid model b fits)

pub subscription_reads : (event : ℕ) → event < 2 ^ 32 → subscription_in (subscription_bytes (subscription_request event)) ≡ subscription_request event
subscription_reads event small = subscription_again (subscription_request event) (subscription_laid event small)

-- the answer to a QBUF is its request again
pub qbuf_same : (model : Model) (b : QueuedBuffer) → qbuf_answer (qbuf_request model b) ≡ qbuf_request model b
unfolding qbuf_answer qbuf_request
qbuf_same model b = refl

-- the frame that an event tells
pub frame_reads : (frame timestamp : ℕ) → frame < 2 ^ 32 → frame_of (frame_event frame timestamp) ≡ frame
unfolding frame_event
frame_reads frame timestamp small = from_le_bytes-to_le_bytes_4 frame small

-- ---- offsets

abbrev first_if : Bool → ℕ
first_if true = 33554432
first_if false = 0

apart_if : (a b : Bool) (i j : ℕ) → i < 32 → j < 32 → first_if a + i * 1048576 ≡ first_if b + j * 1048576 → (first_if a ≡ first_if b) × (i ≡ j)
apart_if true true i j small_i small_j same = (refl, omega (arith, same))
apart_if true false i j small_i small_j same = absurd (omega (arith, same))
apart_if false true i j small_i small_j same = absurd (omega (arith, same))
apart_if false false i j small_i small_j same = (refl, omega (arith, same))

first_is : (b : Bool) → (if b then OUTPUT_OFFSET else 0) ≡ first_if b
first_is true = refl
first_is false = refl

-- two buffers that are mapped from one offset are one
pub offsets_apart : (t u i j : ℕ) → i < 32 → j < 32 → buffer_offset t i ≡ buffer_offset u j → (offsets_from t ≡ offsets_from u) × (i ≡ j)
offsets_apart t u i j small_i small_j same =
    let a : offsets_from t ≡ first_if (t == BUF_TYPE_OUTPUT) = first_is (t == BUF_TYPE_OUTPUT) in
    let b : offsets_from u ≡ first_if (u == BUF_TYPE_OUTPUT) = first_is (u == BUF_TYPE_OUTPUT) in
    let apart = apart_if (t == BUF_TYPE_OUTPUT) (u == BUF_TYPE_OUTPUT) i j small_i small_j (omega (arith, same, a, b)) in
    (a ∙ apart.0 ∙ sym b, apart.1)
