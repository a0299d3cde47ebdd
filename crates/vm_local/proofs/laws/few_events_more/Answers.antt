use Rattle.vm_local.proofs.EventLemmas.{one_event_more, events_listed}
use Rattle.vm_local.proofs.laws.few_events_more.Goals as goal

pub returns : goal.returns
returns c = record { entry = one_event_more; log = events_listed }
