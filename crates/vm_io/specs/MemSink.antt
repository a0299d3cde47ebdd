-- A sink over room in memory, as contracts see it.
use Rattle.std.specs.Prelude.{◌≡◌, ◌<◌, ◌⊎◌, ℕ, List, length, ◌++◌}
use Rattle.vm_io.specs.Plan.{Plan, IsDue, after_call, after_fault}

-- the bytes that it holds, the size of its room, and how many a call takes at most
pub record SinkState : Type 0 where
  pub held : List ℕ
  pub size : ℕ
  pub piece : ℕ
  pub plan : Plan

-- a write of these bytes fails: it is to fail, or the room is used up and there is something to
-- write
abbrev pub Refuses : SinkState → List ℕ → Type 0
Refuses sink bytes = IsDue sink.plan ⊎ ((length sink.held ≡ sink.size) × (0 < length bytes))

-- after a call that took these bytes
abbrev pub after_write : SinkState → List ℕ → SinkState
after_write sink bytes = record sink { held = sink.held ++ bytes; plan = after_call sink.plan }

-- after a call that failed
abbrev pub after_write_fault : SinkState → SinkState
after_write_fault sink = record sink { plan = after_fault sink.plan }
