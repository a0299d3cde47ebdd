-- What a step of the device leaves as it was while a call is underway.
use Rattle.std.specs.Prelude.{ℕ, ◌≡◌, Some, IsSome}
use Rattle.vm_local.specs.declared.call.Call.{Call}
use Rattle.vm_local.specs.declared.entry.Entry.{Entry}
use Rattle.vm_local.specs.State.{LocalState}
use Rattle.vm_local.specs.Log.{after}
use Rattle.vm_home.specs.Reached.{IsReached}
use Rattle.vm_home.specs.ToCome.{IsStep}
use Rattle.vm_exchange.specs.Exchange.{crossing_of}

-- a call that crosses from a state crosses from the state after the step too
abbrev pub StepsLeaveCrossings : Type 0
StepsLeaveCrossings =
    (session : ℕ) (s t : LocalState) (e : Entry) (call : Call) →
    IsReached s → IsStep e → after s e ≡ Some t → IsSome (crossing_of session s call) →
    IsSome (crossing_of session t call)
