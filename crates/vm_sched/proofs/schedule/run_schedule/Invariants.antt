use Rattle.std.proofs.Common.{◌≡◌, ◌≤◌}
use Rattle.vm_realm.specs.Left.{left_of}
use Rattle.vm_sched.specs.Hands.{FailsWithin, HasAll}
use Rattle.vm_sched.proofs.ScheduleLemmas.{LeadsOn}
use Rattle.vm_sched.proofs.schedule.run_schedule.Given as goal

-- What the schedule leads to from here it leads to from the start. All that is out is in hand, no
-- more frames failed than runs of the engine, and the script stays.
abbrev pub invariant-loop-state : goal.invariant-loop-state
invariant-loop-state g l = record {
  leads : LeadsOn l.fn.world l.fn.seed l.world l.state;
  all : HasAll l.hands l.world;
  fails : FailsWithin l.fn.world l.world (g.E.Engine.faults l.fn.engine) (g.E.Engine.faults l.engine);
  count : g.E.Engine.faults l.fn.engine ≤ g.E.Engine.faults l.engine;
  script : l.world.script ≡ l.fn.world.script;
}

abbrev pub decreases-loop-state : goal.decreases-loop-state
decreases-loop-state g l = left_of l.world
