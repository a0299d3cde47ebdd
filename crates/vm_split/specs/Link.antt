-- A link over rings: its two queues.
use Rattle.vm_link.specs.Queue.{Queues}
use Rattle.vm_link.specs.declared.link.QueueId.{QueueId}
use Rattle.vm_link.specs.declared.link.QueueId.TheVariants.{Command, Event}
use Rattle.vm_split.specs.Stands.{SplitState}

pub record SplitStates : Type 0 where
  pub command : SplitState
  pub event : SplitState

abbrev pub state_at : QueueId → SplitStates → SplitState
state_at Command states = states.command
state_at Event states = states.event

-- the link with another queue in this place
abbrev pub with_state : QueueId → SplitState → SplitStates → SplitStates
with_state Command state states = record states { command = state }
with_state Event state states = record states { event = state }

-- its lists
abbrev pub queues_of : SplitStates → Queues
queues_of states = record { command = states.command.queue; event = states.event.queue }
