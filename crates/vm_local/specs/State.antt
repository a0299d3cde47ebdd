-- The state of one V4L2 handle, in plain lists and numbers.
use Rattle.std.specs.Prelude.{ℕ, Bool, true, false, List, [], slice_index_or, slice_set, None}
use Rattle.v4l_const.specs.declared.model.Model.{Model}
use Rattle.v4l_format.specs.declared.fmt.Fmt.{Fmt}
use Rattle.v4l_rules.specs.Formats.{first_format}
use Rattle.v4l_rules.specs.Queues.{QueueKind, opening_queues, queue_at, with_queue_at}
use Rattle.vm_local.specs.declared.bound.Bound.{Bound}
use Rattle.vm_local.specs.declared.bound.MemoryKind.{MemoryKind}
use Rattle.vm_local.specs.declared.bound.MemoryKind.TheVariants.{Mmap}
use Rattle.vm_local.specs.declared.buffer.Buffer.{Buffer}
use Rattle.vm_local.specs.declared.buffer.BufferState.TheVariants.{Idle}
use Rattle.vm_local.specs.declared.owed.Owed.{Owed}
use Rattle.vm_local.specs.declared.owed.SyncEvent.{SyncEvent}

-- one queue of a handle
pub record QueueState : Type 0 where
  pub format : Fmt
  -- the kind of its buffers' memory; what it is while there are none has no meaning
  pub memory : MemoryKind
  pub buffers : List Buffer
  pub streaming : Bool
  -- the indices of the queued buffers, in the order in which they were queued
  pub queued : List ℕ
  -- the indices of the done buffers, in the order in which they came back
  pub done : List ℕ
  -- the number of the next frame
  pub next_sequence : ℕ

pub record LocalState : Type 0 where
  -- the device's model, which never changes
  pub model : Model
  pub opened : Bool
  pub blocking : Bool
  pub input : ℕ
  -- whether events are wanted
  pub subscribed : Bool
  -- the events that the guest has yet to take, the first one first
  pub events : List SyncEvent
  -- the number of the next event
  pub next_event : ℕ
  -- what the device owes, the first entry first
  pub owed : List Owed
  -- the queues of the model, in its order
  pub queues : List QueueState
  -- the bytes of each memory that was made, by its number
  pub memories : List (List ℕ)
  -- the bound names, each once
  pub bound : List Bound

abbrev pub opening_queue : QueueState
opening_queue = record {
  format = first_format;
  memory = Mmap;
  buffers = [];
  streaming = false;
  queued = [];
  done = [];
  next_sequence = 0;
}

-- what the rules of models and formats ask of a queue
abbrev pub queue_kind : QueueKind QueueState
queue_kind =
    record {
      opening = opening_queue;
      format = λ q. q.format;
      reformatted = λ q f. record q { format = f };
    }

-- the state before the first entry of a log: closed, with nothing bound
abbrev pub opening : Model → LocalState
opening m = record {
  model = m;
  opened = false;
  blocking = true;
  input = 0;
  subscribed = false;
  events = [];
  next_event = 0;
  owed = [];
  queues = opening_queues queue_kind m;
  memories = [];
  bound = [];
}

-- ---- the queue of a buffer type

abbrev pub queue_of : LocalState → ℕ → QueueState
queue_of s t = queue_at queue_kind s.model s.queues t

-- the state with another queue of this type
abbrev pub with_queue : LocalState → ℕ → QueueState → LocalState
with_queue s t q = record s { queues = with_queue_at s.model s.queues t q }

-- ---- a buffer of a queue

abbrev pub no_buffer : Buffer
no_buffer =
    record {
      state = Idle;
      length = 0;
      used = 0;
      sequence = 0;
      timestamp = 0;
      is_bad = false;
      memory = None;
    }

abbrev pub buffer_of : QueueState → ℕ → Buffer
buffer_of q i = slice_index_or q.buffers i no_buffer

abbrev pub with_buffer : QueueState → ℕ → Buffer → QueueState
with_buffer q i b = record q { buffers = slice_set q.buffers i b }
