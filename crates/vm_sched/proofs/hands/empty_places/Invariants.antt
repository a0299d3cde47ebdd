use Rattle.std.proofs.Common.{◌≡◌, ◌≤◌}
use Rattle.std.specs.Prelude.{None, replicate, vec_capacity}
use Rattle.vm_sched.proofs.hands.empty_places.Given as goal

abbrev pub invariant-loop-p : goal.invariant-loop-p
invariant-loop-p l = record {
  items : l.places.items ≡ replicate l._p None;
  room : l.fn.processes ≤ vec_capacity l.places;
}
