use Rattle.vm_stands.proofs.StayLemmas.{giving_next, events_next, calls_next}
use Rattle.vm_stands.proofs.laws.a_job_stays_the_next_frame.Goals as goal

pub returns-clause-given : goal.returns-clause-given
returns-clause-given c = giving_next

pub returns-clause-events : goal.returns-clause-events
returns-clause-events c = events_next

pub returns-clause-calls : goal.returns-clause-calls
returns-clause-calls c = calls_next
