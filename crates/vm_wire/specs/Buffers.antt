-- The records that calls and messages on buffers and events carry: in a request what is asked for,
-- in an answer or a message what is told. All else in them is 0.
use Rattle.std.specs.Prelude.{ℕ, ◌<◌, ◌+◌, ◌*◌, ◌/◌, ◌%◌, ◌^◌, ◌==◌, if◌then◌else◌, Option, Some, None, List, ◌++◌, take, drop, replicate}
use Rattle.v4l_const.specs.BufFlags.{error_flag}
use Rattle.v4l_const.specs.declared.model.Model.{Model}
use Rattle.v4l_const.specs.declared.numbers.TheConstants.{BUF_TYPE_OUTPUT, EVENT_FRAME_SYNC, FIELD_NONE, MEMORY_MMAP}
use Rattle.v4l_const.specs.Model.{buffer_capabilities, source_queue, timestamp_flag}
use Rattle.v4l_layout.specs.declared.buffer_rec.BufferRec.{BufferRec}
use Rattle.v4l_layout.specs.declared.event_rec.EventRec.{EventRec}
use Rattle.v4l_layout.specs.declared.request_buffers.RequestBuffers.{RequestBuffers}
use Rattle.v4l_layout.specs.declared.subscription.Subscription.{Subscription}
use Rattle.vm_wire.specs.declared.buffers.PictureNote.{PictureNote}
use Rattle.vm_wire.specs.declared.buffers.QueuedBuffer.{QueuedBuffer}
use Rattle.vm_wire.specs.declared.buffers.TheConstants.{BUFFER_STEP, OUTPUT_OFFSET, MICROS}
use Rattle.vm_wire.specs.Wire.{le, number_at, long_at}

-- ---- where a buffer is mapped from (MMAP)

-- where the offsets of a type's buffers begin
abbrev pub offsets_from : ℕ → ℕ
offsets_from t = if t == BUF_TYPE_OUTPUT then OUTPUT_OFFSET else 0

-- the offset of the buffer of a type and index
abbrev pub buffer_offset : ℕ → ℕ → ℕ
buffer_offset t i = offsets_from t + i * BUFFER_STEP

-- ---- the buffers of a queue (REQBUFS)

unfoldable pub reqbufs_request : ℕ → ℕ → ℕ → RequestBuffers
reqbufs_request t memory count =
    record { count = count; kind = t; memory = memory; capabilities = 0 }

-- so many buffers are there, and this is what the queues of the model can do
unfoldable pub reqbufs_answer : Model → ℕ → ℕ → ℕ → RequestBuffers
reqbufs_answer model t memory count =
    record { count = count; kind = t; memory = memory; capabilities = buffer_capabilities model }

-- ---- one buffer (QUERYBUF)

-- the record of which the index and the type alone are told
abbrev pub blank_buffer : ℕ → ℕ → BufferRec
blank_buffer t i = record {
  index = i;
  kind = t;
  bytesused = 0;
  flags = 0;
  field = 0;
  seconds = 0;
  micros = 0;
  timecode = replicate 16 0;
  sequence = 0;
  memory = 0;
  m = 0;
  length = 0;
  reserved2 = 0;
  request_fd = 0;
}

unfoldable pub querybuf_request : ℕ → ℕ → BufferRec
querybuf_request t i = blank_buffer t i

-- Its memory kind and length, the model's timestamps, and where it is mapped from, if it may be
-- mapped. What state it is in isn't told.
unfoldable pub querybuf_answer : Model → ℕ → ℕ → ℕ → ℕ → BufferRec
querybuf_answer model t i memory len = record (blank_buffer t i) {
  flags = timestamp_flag model;
  field = FIELD_NONE;
  memory = memory;
  m = if memory == MEMORY_MMAP then buffer_offset t i else 0;
  length = len;
}

-- ---- a buffer that is queued (QBUF)

-- what is told of a picture that the device reads; nothing is told of one that it makes
abbrev pub told_from : Option ℕ → ℕ → ℕ → ℕ
told_from None t n = 0
told_from (Some source) t n = if source == t then n else 0

abbrev pub told_of : Model → ℕ → ℕ → ℕ
told_of model t n = told_from (source_queue model) t n

unfoldable pub qbuf_request : Model → QueuedBuffer → BufferRec
qbuf_request model b = record (blank_buffer b.kind b.index) {
  bytesused = told_of model b.kind b.bytesused;
  seconds = told_of model b.kind (b.timestamp / MICROS);
  micros = told_of model b.kind (b.timestamp % MICROS);
  memory = b.memory;
  m = b.m;
  length = b.length;
}

-- its numbers fit into their fields
abbrev pub IsQueuedBuffer : QueuedBuffer → Type 0
IsQueuedBuffer b =
    (b.kind < 2 ^ 32) × (b.index < 2 ^ 32) × (b.bytesused < 2 ^ 32) × (b.timestamp < 2 ^ 64) ×
    (b.memory < 2 ^ 32) × (b.m < 2 ^ 64)
    × (b.length < 2 ^ 32)

-- the same, of the record that was asked with
unfoldable pub qbuf_answer : BufferRec → BufferRec
qbuf_answer asked = record (blank_buffer asked.kind asked.index) {
  bytesused = asked.bytesused;
  seconds = asked.seconds;
  micros = asked.micros;
  memory = asked.memory;
  m = asked.m;
  length = asked.length;
}

-- ---- a buffer that is given back (DQBUF)

-- what was told of the buffer's memory when it was queued, with what is told of its picture
unfoldable pub dequeued_buffer : Model → BufferRec → PictureNote → BufferRec
dequeued_buffer model queued note = record (blank_buffer queued.kind queued.index) {
  bytesused = note.bytesused;
  flags = timestamp_flag model + (if note.is_bad then error_flag else 0);
  field = FIELD_NONE;
  seconds = note.seconds;
  micros = note.micros;
  sequence = note.sequence;
  memory = queued.memory;
  m = queued.m;
  length = queued.length;
}

-- ---- events (SUBSCRIBE_EVENT, UNSUBSCRIBE_EVENT)

-- the answer is the same
unfoldable pub subscription_request : ℕ → Subscription
subscription_request event = record { kind = event; id = 0; flags = 0 }

-- A frame began: its number, and its timestamp in microseconds.
unfoldable pub frame_event : ℕ → ℕ → EventRec
frame_event frame timestamp = record {
  kind = EVENT_FRAME_SYNC;
  u = le frame ++ replicate 60 0;
  pending = 0;
  sequence = 0;
  seconds = timestamp / MICROS;
  nanos = timestamp % MICROS * 1000;
  id = 0;
}

-- the number of the frame that an event tells
abbrev pub frame_of : EventRec → ℕ
frame_of event = number_at 0 event.u

-- ---- the words of a record, by their offsets

abbrev pub reqbufs_in : List ℕ → RequestBuffers
reqbufs_in bytes =
    record {
      count = number_at 0 bytes;
      kind = number_at 4 bytes;
      memory = number_at 8 bytes;
      capabilities = number_at 12 bytes;
    }

abbrev pub buffer_in : List ℕ → BufferRec
buffer_in bytes = record {
  index = number_at 0 bytes;
  kind = number_at 4 bytes;
  bytesused = number_at 8 bytes;
  flags = number_at 12 bytes;
  field = number_at 16 bytes;
  seconds = long_at 24 bytes;
  micros = long_at 32 bytes;
  timecode = take 16 (drop 40 bytes);
  sequence = number_at 56 bytes;
  memory = number_at 60 bytes;
  m = long_at 64 bytes;
  length = number_at 72 bytes;
  reserved2 = number_at 76 bytes;
  request_fd = number_at 80 bytes;
}

abbrev pub subscription_in : List ℕ → Subscription
subscription_in bytes =
    record { kind = number_at 0 bytes; id = number_at 4 bytes; flags = number_at 8 bytes }
