use Rattle.std.proofs.Common.{length}
use Rattle.vm_script.specs.Script.{ScriptLines}
use Rattle.vm_guest.specs.Orderly.{IsDriver}
use Rattle.vm_guest.specs.Queues.{CanTakeAllFrom}
use Rattle.vm_guest.proofs.QueueLemmas.{LeadsOn}
use Rattle.vm_guest.proofs.guest.Guest.take_events.Given as goal

abbrev pub invariant-events : goal.invariant-events
invariant-events g l = record {
  leads : LeadsOn l.fn.self (g.L.Link.queues l.fn.link) l.self (g.L.Link.queues l.link);
  can : CanTakeAllFrom l.self (g.L.Link.queues l.link);
  driver : (script : ScriptLines) → IsDriver script l.fn.self → IsDriver script l.self;
}

abbrev pub decreases-events : goal.decreases-events
decreases-events g l = length (g.L.Link.queues l.link).event.done
