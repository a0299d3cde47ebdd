use Rattle.vm_stands.proofs.SliceLemmas.{slice_is_ahead, slice_sends, slice_delivers, slice_executes, slice_collects, slice_stops, slice_refuses, slice_collects_refused, slice_collects_stopped, slice_begins, slice_finishes, slice_finishes_refused, slice_has_own_calls}
use Rattle.vm_stands.proofs.laws.a_slice_moves.Goals as goal

pub returns-clause-ahead : goal.returns-clause-ahead
returns-clause-ahead c = slice_is_ahead

pub returns-clause-sends : goal.returns-clause-sends
returns-clause-sends c = slice_sends

pub returns-clause-delivers : goal.returns-clause-delivers
returns-clause-delivers c = slice_delivers

pub returns-clause-executes : goal.returns-clause-executes
returns-clause-executes c = slice_executes

pub returns-clause-collects : goal.returns-clause-collects
returns-clause-collects c = slice_collects

pub returns-clause-stops : goal.returns-clause-stops
returns-clause-stops c = slice_stops

pub returns-clause-refuses : goal.returns-clause-refuses
returns-clause-refuses c = slice_refuses

pub returns-clause-collects_refused : goal.returns-clause-collects_refused
returns-clause-collects_refused c = slice_collects_refused

pub returns-clause-collects_stopped : goal.returns-clause-collects_stopped
returns-clause-collects_stopped c = slice_collects_stopped

pub returns-clause-begins : goal.returns-clause-begins
returns-clause-begins c = slice_begins

pub returns-clause-finishes : goal.returns-clause-finishes
returns-clause-finishes c = slice_finishes

pub returns-clause-finishes_refused : goal.returns-clause-finishes_refused
returns-clause-finishes_refused c = slice_finishes_refused

pub returns-clause-own : goal.returns-clause-own
returns-clause-own c = slice_has_own_calls
