-- What the messages of the device stand for: the steps that it made of its own, which the handle's
-- log has once they are delivered.
use Rattle.std.specs.Prelude.{◌==◌, ◌+◌, ℕ, Bool, List, [], ◌∷◌, ◌++◌, Option, Some, None, if◌then◌else◌}
use Rattle.std.specs.List.{flat_map}
use Rattle.v4l_const.specs.BufFlags.{error_flag}
use Rattle.v4l_const.specs.declared.model.Model.{Model}
use Rattle.v4l_const.specs.Model.{source_queue, timestamp_flag}
use Rattle.v4l_layout.specs.declared.buffer_rec.BufferRec.{BufferRec}
use Rattle.vm_wire.specs.declared.event.EventMsg.{EventMsg}
use Rattle.vm_wire.specs.declared.event.EventMsg.TheVariants.{Dequeued, Happened}
use Rattle.vm_local.specs.declared.entry.Entry.{Entry}
use Rattle.vm_local.specs.declared.entry.Entry.TheVariants.{Finish, Bad, Give}

-- the message has the mark of a frame that failed
abbrev pub is_marked : Model → BufferRec → Bool
is_marked m b = b.flags == timestamp_flag m + error_flag

-- A buffer's message is the first of its frame where the device reads a picture and the buffer is
-- the one that it read. Where it reads none, the first message tells that the frame was made, and
-- only of a frame that failed there is none.
abbrev pub is_first : Option ℕ → Model → BufferRec → Bool
is_first None m b = is_marked m b
is_first (Some source) m b = b.kind == source

-- the step that made the frame of this buffer
abbrev pub frame_step : Model → BufferRec → Entry
frame_step m b = if is_marked m b then Bad else Finish

-- the step that made the frame, before its first message
abbrev pub made_by : Model → EventMsg → List Entry
made_by m (Happened session event) = Finish ∷ []
made_by m (Dequeued session b) = if is_first (source_queue m) m b then frame_step m b ∷ [] else []

abbrev pub steps_of : Model → EventMsg → List Entry
steps_of m msg = made_by m msg ++ Give ∷ []

-- the steps of messages, the oldest first
abbrev pub flight_of : Model → List EventMsg → List Entry
flight_of m msgs = flat_map (steps_of m) msgs
