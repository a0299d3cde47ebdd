-- What a message of the device has to be for a handle to take it.
use Rattle.std.specs.Prelude.{ℕ, ◌≡◌, List, [], ◌∷◌, Option, Some, None, IsSome, unwrap_or}
use Rattle.vm_frame.specs.declared.mem.Held.{Held}
use Rattle.vm_wire.specs.declared.event.EventMsg.{EventMsg}
use Rattle.vm_wire.specs.declared.event.EventMsg.TheVariants.{Dequeued, Happened}
use Rattle.vm_local.specs.declared.owed.Owed.{Owed}
use Rattle.vm_local.specs.declared.owed.OwedItem.{OwedItem}
use Rattle.vm_local.specs.declared.owed.OwedItem.TheVariants.{Buffer as OwedBuffer, Sync}
use Rattle.vm_local.specs.State.{LocalState}
use Rattle.vm_local.specs.Log.{replay_from}
use Rattle.vm_home.specs.Home.{IsMemory}
use Rattle.vm_home.specs.Moves.{memory_at}
use Rattle.vm_exchange.specs.Messages.{made_by, steps_of}

-- ---- what it gives

-- What is owed comes with this message: a buffer with its memory, or an event.
abbrev pub GivesItem : LocalState → ℕ → OwedItem → EventMsg → Option Held → Type 0
GivesItem s t (OwedBuffer i) (Dequeued session b) (Some held) =
    (b.kind ≡ t) × (b.index ≡ i) × (held.queue ≡ t) × (held.index ≡ i) ×
    IsMemory s (memory_at s t i) held.mem
GivesItem s t (Sync frame) (Happened session event) None = Unit {0}
GivesItem s t item msg held = ⊥

-- what is owed first does
abbrev pub GivesFirst : LocalState → List Owed → EventMsg → Option Held → Type 0
GivesFirst s [] msg held = ⊥
GivesFirst s (o ∷ owed) msg held = GivesItem s o.queue o.item msg held

-- the state in which the frame of the message is made
abbrev pub state_made : LocalState → EventMsg → LocalState
state_made s msg = unwrap_or (replay_from s (made_by s.model msg)) s

-- The steps of the message are legal from the state, and once its frame is made it gives what is
-- owed first, with this memory.
pub record Delivers (s : LocalState) (msg : EventMsg) (held : Option Held) : Type 0 where
  pub legal : IsSome (replay_from s (steps_of s.model msg))
  pub gives : GivesFirst (state_made s msg) (state_made s msg).owed msg held
