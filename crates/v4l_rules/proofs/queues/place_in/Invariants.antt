use Rattle.std.proofs.Common.{◌≡◌, ◌+◌, drop}
use Rattle.v4l_rules.specs.Queues.{place_in}
use Rattle.v4l_rules.proofs.queues.place_in.Given as goal

abbrev pub invariant-loop-place : goal.invariant-loop-place
invariant-loop-place l = place_in l.types l.t ≡ place_in (drop l.place l.types) l.t + l.place
