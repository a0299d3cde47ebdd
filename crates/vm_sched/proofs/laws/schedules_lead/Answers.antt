use Rattle.vm_realm.proofs.EachLemmas.{runs_end}
use Rattle.vm_sched.proofs.ScheduleLemmas.{schedule_leads}
use Rattle.vm_sched.proofs.laws.schedules_lead.Goals as goal

pub returns-clause-leads : goal.returns-clause-leads
returns-clause-leads c = schedule_leads

pub returns-clause-few : goal.returns-clause-few
returns-clause-few c = λ script w last ss x read opens runs. runs_end script w last ss read opens (schedule_leads w last ss x runs)
