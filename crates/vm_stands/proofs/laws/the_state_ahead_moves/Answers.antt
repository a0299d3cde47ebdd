use Rattle.vm_stands.proofs.AheadLemmas.{joins, joins_refused, delivers, executes, stops_ahead, collects, collects_refused, collects_stopped}
use Rattle.vm_stands.proofs.OverStepLemmas.{execution_leads}
use Rattle.vm_stands.proofs.laws.the_state_ahead_moves.Goals as goal

pub returns-clause-joins : goal.returns-clause-joins
returns-clause-joins c = joins

pub returns-clause-joins_refused : goal.returns-clause-joins_refused
returns-clause-joins_refused c = joins_refused

pub returns-clause-delivers : goal.returns-clause-delivers
returns-clause-delivers c = delivers

pub returns-clause-executes : goal.returns-clause-executes
returns-clause-executes c = executes

pub returns-clause-stops : goal.returns-clause-stops
returns-clause-stops c = stops_ahead

pub returns-clause-collects : goal.returns-clause-collects
returns-clause-collects c = collects

pub returns-clause-collects_refused : goal.returns-clause-collects_refused
returns-clause-collects_refused c = collects_refused

pub returns-clause-collects_stopped : goal.returns-clause-collects_stopped
returns-clause-collects_stopped c = collects_stopped

pub returns-clause-leads : goal.returns-clause-leads
returns-clause-leads c = execution_leads
