-- The record of a handle: its state but for the bytes of its memories.
use Rattle.std.specs.Prelude.{◌≡◌, ℕ, Bool, true, false, List, length, map, replicate, if◌then◌else◌}
use Rattle.std.specs.Option.{unwrap_or}
use Rattle.v4l_const.specs.declared.model.Model.{Model}
use Rattle.v4l_const.specs.Model.{queues as types_of}
use Rattle.vm_local.specs.declared.call.Call.{Call}
use Rattle.vm_local.specs.declared.call.Call.TheVariants.{Peek, Hash, Poke, Fill}
use Rattle.vm_local.specs.declared.entry.Entry.{Entry}
use Rattle.vm_local.specs.declared.entry.Entry.TheVariants.{Called, Finish, Bad, Give}
use Rattle.vm_local.specs.declared.reply.Reply.{Reply}
use Rattle.vm_local.specs.declared.reply.Reply.TheVariants.{Refused}
use Rattle.vm_local.specs.declared.owed.Owed.{Owed}
use Rattle.vm_local.specs.State.{QueueState, LocalState, opening}
use Rattle.vm_local.specs.Same.{address_in}
use Rattle.vm_local.specs.Calls.{row_of}
use Rattle.vm_local.specs.Listed.{AreListed}
use Rattle.vm_local.specs.Steps.{finished, marked_bad, given}

-- the bytes of a memory to which nothing was written: so many, each of them 0
abbrev pub unwritten : ℕ → List ℕ
unwritten n = replicate n 0

-- as many bytes as these, each of them 0
abbrev pub zeros : List ℕ → List ℕ
zeros bytes = unwritten (length bytes)

-- The state with zeros in the place of the bytes of its memories. A record is such a state, so that
-- what is defined of states is defined of records.
abbrev pub without_bytes : LocalState → LocalState
without_bytes s = record s { memories = map zeros s.memories }

-- the state with these memories
abbrev pub with_memories : LocalState → List (List ℕ) → LocalState
with_memories s memories = record s { memories = memories }

-- a record, and for how many further entries there is room
pub record RecordState : Type 0 where
  pub local : LocalState
  pub room : ℕ

-- the reply to the call tells the bytes of a memory
abbrev pub tells_bytes : Call → Bool
tells_bytes (Peek m off len) = true
tells_bytes (Hash m) = true
tells_bytes call = false

-- the call writes bytes of a memory, and changes nothing else
abbrev pub writes_bytes : Call → Bool
writes_bytes (Poke m off bytes) = true
writes_bytes (Fill m seed) = true
writes_bytes call = false

abbrev pub is_refusal : Reply → Bool
is_refusal (Refused e) = true
is_refusal reply = false

-- the record after a call that no refusal stops
abbrev pub with_call : LocalState → ℕ → ℕ → Call → LocalState
with_call r line addr call = if writes_bytes call then r else (row_of r line addr call).next

-- the record after an entry that is legal from the state
abbrev pub moved : LocalState → Entry → LocalState
moved r (Called line call reply) =
    if is_refusal reply then r else with_call r line (address_in reply) call
moved r Finish = without_bytes (unwrap_or (finished r) r)
moved r Bad = unwrap_or (marked_bad r) r
moved r Give = unwrap_or (given r) r

-- a state with these queues and these owed entries
abbrev pub state_of : Model → List QueueState → List Owed → LocalState
state_of m qs owed = record (opening m) { queues = qs; owed = owed }

-- the handle has the queues of its model, and its lists have its buffers where their states say
abbrev pub IsOrderly : Model → List QueueState → List Owed → Type 0
IsOrderly m qs owed = (length qs ≡ length (types_of m)) × AreListed (state_of m qs owed)
