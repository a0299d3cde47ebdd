-- What the messages of the device stand for: the steps that it made of its own, which the handle's
-- log has once they are delivered.
use Rattle.std.specs.Prelude.{ℕ, ◌≡◌, Bool, false, List, [], ◌∷◌, ◌++◌, Option, Some, None, if◌then◌else◌}
use Rattle.v4l_const.specs.declared.model.Model.{Model}
use Rattle.v4l_const.specs.declared.numbers.TheConstants.{MEMORY_MMAP}
use Rattle.v4l_layout.specs.declared.buffer_rec.BufferRec.{BufferRec}
use Rattle.vm_frame.specs.declared.mem.Held.{Held}
use Rattle.vm_wire.specs.Buffers.{blank_buffer, buffer_offset, dequeued_buffer, frame_event}
use Rattle.vm_wire.specs.declared.buffers.PictureNote.{PictureNote}
use Rattle.vm_wire.specs.declared.event.EventMsg.{EventMsg}
use Rattle.vm_wire.specs.declared.event.EventMsg.TheVariants.{Dequeued, Happened}
use Rattle.vm_local.specs.declared.buffer.Buffer.{Buffer}
use Rattle.vm_local.specs.declared.entry.Entry.{Entry}
use Rattle.vm_local.specs.declared.entry.Entry.TheVariants.{Called, Give}
use Rattle.vm_local.specs.declared.owed.Owed.{Owed}
use Rattle.vm_local.specs.declared.owed.OwedItem.{OwedItem}
use Rattle.vm_local.specs.declared.owed.OwedItem.TheVariants.{Buffer as OwedBuffer, Sync}
use Rattle.vm_local.specs.State.{LocalState, queue_of, buffer_of}
use Rattle.vm_local.specs.Log.{after, replay_from}
use Rattle.vm_home.specs.Moves.{is_stopping}
use Rattle.vm_exchange.specs.Exchange.{memory_number}
use Rattle.vm_exchange.specs.Messages.{made_by, flight_of}
use Rattle.vm_session.specs.Streaming.{frame_time}
use Rattle.vm_session.specs.declared.unsent.Unsent.{Unsent}
use Rattle.vm_stands.specs.Stands.{seconds_of, micros_of, IsMemoryAt}

-- ---- the state ahead

-- the entry is that of a stopping call
abbrev pub stops_queues : Entry → Bool
stops_queues (Called line call reply) = is_stopping call
stops_queues e = false

-- What is still to be logged of a handle: the messages that its driver has yet to deliver, and the
-- call that was executed and is to be collected, which comes first unless it is a stopping one.
abbrev pub yet_to_log : Model → Option Entry → List EventMsg → List Entry
yet_to_log m None msgs = flight_of m msgs
yet_to_log m (Some e) msgs =
    if stops_queues e then flight_of m msgs ++ e ∷ [] else e ∷ flight_of m msgs

-- the state that the device has to agree with, for a handle in this state
abbrev pub ahead_of : LocalState → Option Entry → List EventMsg → Option LocalState
ahead_of s executed msgs = replay_from s (yet_to_log s.model executed msgs)

-- ---- what a message says

-- the note of a buffer's picture, as the state has it
abbrev pub note_of : Buffer → PictureNote
note_of b = record {
  bytesused = b.used;
  seconds = seconds_of b.timestamp;
  micros = micros_of b.timestamp;
  sequence = b.sequence;
  is_bad = b.is_bad;
}

-- the record with which the i-th buffer of type t was queued, where its memory is there (m)
abbrev pub queued_record : LocalState → ℕ → ℕ → ℕ → BufferRec
queued_record s t i m = record (blank_buffer t i) {
  memory = memory_number (queue_of s t).memory;
  m = m;
  length = (buffer_of (queue_of s t) i).length;
}

-- the record with which it comes back
abbrev pub given_record : LocalState → ℕ → ℕ → ℕ → BufferRec
given_record s t i m = dequeued_buffer s.model (queued_record s t i m)
    (note_of (buffer_of (queue_of s t) i))

abbrev pub IsHeldAt : LocalState → ℕ → ℕ → Option Held → Type 0
IsHeldAt s t i None = ⊥
IsHeldAt s t i (Some h) = IsMemoryAt s t i h

-- The message gives the i-th buffer of type t: it has the numbers of the state's buffer, and comes
-- with its memory.
pub record GivesBuffer (id : ℕ) (s : LocalState) (t i : ℕ) (e : Unsent) : Type 0 where
  pub m : ℕ
  pub place : memory_number (queue_of s t).memory ≡ MEMORY_MMAP → m ≡ buffer_offset t i
  pub msg : e.msg ≡ Dequeued id (given_record s t i m)
  pub held : IsHeldAt s t i e.held

-- The message tells that the frame of this number was made.
pub record GivesEvent (id frame : ℕ) (e : Unsent) : Type 0 where
  pub msg : e.msg ≡ Happened id (frame_event frame (frame_time frame))
  pub held : e.held ≡ None

-- the message of session `id` gives what is owed
abbrev pub GivesItem : ℕ → LocalState → ℕ → OwedItem → Unsent → Type 0
GivesItem id s t (OwedBuffer i) e = GivesBuffer id s t i e
GivesItem id s t (Sync frame) e = GivesEvent id frame e

-- it gives what is owed first
abbrev pub GivesFirst : ℕ → LocalState → List Owed → Unsent → Type 0
GivesFirst id s [] e = ⊥
GivesFirst id s (o ∷ owed) e = GivesItem id s o.queue o.item e

-- From the state s a message of session `id` leads to t: by the step that made the frame, where it
-- is its first message, to a state in which it gives what is owed first, and then by that.
pub record Leads (id : ℕ) (s : LocalState) (e : Unsent) (t : LocalState) : Type 0 where
  pub made : LocalState
  pub making : replay_from s (made_by s.model e.msg) ≡ Some made
  pub gives : GivesFirst id made made.owed e
  pub given : after made Give ≡ Some t

-- messages lead so, one after the other
abbrev pub LeadAll : ℕ → LocalState → List Unsent → LocalState → Type 0
LeadAll id s [] t = t ≡ s
LeadAll id s (e ∷ es) t = (u : LocalState) × Leads id s e u × LeadAll id u es t
