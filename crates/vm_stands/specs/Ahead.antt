-- How the state ahead moves: with each step of the device, and with each thing that the driver does
-- about it.
use Rattle.std.specs.Prelude.{ℕ, ◌≡◌, true, false, List, [], ◌∷◌, ◌++◌, Option, Some, None, map}
use Rattle.v4l_const.specs.declared.errno.Errno.{Errno}
use Rattle.vm_wire.specs.declared.event.EventMsg.{EventMsg}
use Rattle.vm_local.specs.declared.call.Call.{Call}
use Rattle.vm_local.specs.declared.entry.Entry.{Entry}
use Rattle.vm_local.specs.declared.entry.Entry.TheVariants.{Called}
use Rattle.vm_local.specs.declared.reply.Reply.{Reply}
use Rattle.vm_local.specs.declared.reply.Reply.TheVariants.{Refused}
use Rattle.vm_local.specs.State.{LocalState}
use Rattle.vm_local.specs.Log.{IsCall, replay_from}
use Rattle.vm_commute.specs.Commute.{may_go_first, SameButFlags, SameButEvents}
use Rattle.vm_home.specs.Moves.{is_stopping}
use Rattle.vm_home.specs.Reached.{IsReached}
use Rattle.vm_session.specs.declared.unsent.Unsent.{Unsent}
use Rattle.vm_exchange.specs.Messages.{steps_of}
use Rattle.vm_stands.specs.Flight.{stops_queues, ahead_of, LeadAll}

-- what was executed and isn't collected doesn't stop queues
abbrev pub StopsNone : Option Entry → Type 0
StopsNone None = Unit {0}
StopsNone (Some e) = stops_queues e ≡ false

-- messages of the device that join those that are under way lead on from the state ahead
abbrev pub MessagesJoin : Type 0
MessagesJoin =
    (id : ℕ) (r s t : LocalState) (executed : Option Entry) (msgs : List EventMsg)
    (es : List Unsent) →
    IsReached r → StopsNone executed → ahead_of r executed msgs ≡ Some s → LeadAll id s es t →
    ahead_of r executed (msgs ++ map (λ e. e.msg) es) ≡ Some t

-- so they do where a stopping call was refused
abbrev pub MessagesJoinRefused : Type 0
MessagesJoinRefused =
    (id line : ℕ) (r s t : LocalState) (call : Call) (errno : Errno) (msgs : List EventMsg)
    (es : List Unsent) →
    IsReached r → is_stopping call ≡ true →
    ahead_of r (Some (Called line call (Refused errno))) msgs ≡ Some s → LeadAll id s es t →
    ahead_of r (Some (Called line call (Refused errno))) (msgs ++ map (λ e. e.msg) es) ≡ Some t

-- The first message is delivered, and its steps are logged: the state ahead stays. It may be, where
-- nothing was executed but a stopping call.
abbrev pub MayDeliver : Option Entry → Type 0
MayDeliver None = Unit {0}
MayDeliver (Some e) = stops_queues e ≡ true

abbrev pub DeliveryKeeps : Type 0
DeliveryKeeps =
    (r s : LocalState) (executed : Option Entry) (msg : EventMsg) (msgs : List EventMsg) →
    IsReached r → MayDeliver executed → ahead_of r executed (msg ∷ msgs) ≡ Some s →
    (after : LocalState) × (replay_from r (steps_of r.model msg) ≡ Some after)
    × (ahead_of after executed msgs ≡ Some s)

-- A call is executed that may go before the device's steps, in the state ahead: it is a call of the
-- driver's state, and the state ahead is the one after it, but for events.
abbrev pub ExecutionMoves : Type 0
ExecutionMoves =
    (r s t : LocalState) (line : ℕ) (call : Call) (reply : Reply) (msgs : List EventMsg) →
    IsReached r → ahead_of r None msgs ≡ Some s → may_go_first call reply ≡ true →
    is_stopping call ≡ false → IsCall s line call reply t →
    (first_reply : Reply) × (ahead : LocalState) × SameButFlags first_reply reply
    × (ahead_of r (Some (Called line call first_reply)) msgs ≡ Some ahead) × SameButEvents ahead t

-- So do the messages that are under way: they lead on from the state after the call as they did
-- from the state before it.
abbrev pub ExecutionLeads : Type 0
ExecutionLeads =
    (id line : ℕ) (r s t : LocalState) (call : Call) (reply : Reply) (es : List Unsent) →
    IsReached r → LeadAll id r es s → may_go_first call reply ≡ true → is_stopping call ≡ false →
    IsCall s line call reply t →
    (first_reply : Reply) × (between : LocalState) × (ahead : LocalState)
    × SameButFlags first_reply reply
    × IsCall r line call first_reply between × LeadAll id between es ahead × SameButEvents ahead t

-- a stopping call is executed
abbrev pub StoppingMoves : Type 0
StoppingMoves =
    (r s t : LocalState) (line : ℕ) (call : Call) (reply : Reply) (msgs : List EventMsg) →
    IsReached r → ahead_of r None msgs ≡ Some s → is_stopping call ≡ true →
    IsCall s line call reply t →
    ahead_of r (Some (Called line call reply)) msgs ≡ Some t

-- The call that was executed is collected: it is logged, and the state ahead stays. Behind a
-- stopping call that was done no message is under way.
abbrev pub CollectionKeeps : Type 0
CollectionKeeps =
    (r s : LocalState) (line : ℕ) (call : Call) (reply : Reply) (msgs : List EventMsg) →
    IsReached r → is_stopping call ≡ false →
    ahead_of r (Some (Called line call reply)) msgs ≡ Some s →
    (after : LocalState) × IsCall r line call reply after × (ahead_of after None msgs ≡ Some s)

abbrev pub RefusedCollectionKeeps : Type 0
RefusedCollectionKeeps =
    (r s : LocalState) (line : ℕ) (call : Call) (errno : Errno) (msgs : List EventMsg) →
    IsReached r → is_stopping call ≡ true →
    ahead_of r (Some (Called line call (Refused errno))) msgs ≡ Some s →
    IsCall r line call (Refused errno) r × (ahead_of r None msgs ≡ Some s)

abbrev pub StoppedCollectionKeeps : Type 0
StoppedCollectionKeeps =
    (r s : LocalState) (line : ℕ) (call : Call) (reply : Reply) →
    is_stopping call ≡ true → ahead_of r (Some (Called line call reply)) [] ≡ Some s →
    IsCall r line call reply s
