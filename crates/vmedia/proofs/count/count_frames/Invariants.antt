use Rattle.std.proofs.Common.{◌≡◌, take}
use Rattle.std.specs.Prelude.{sum_by}
use Rattle.vmedia.specs.Bulk.{frames_in}
use Rattle.vmedia.proofs.count.count_frames.Given as goal

-- the frames of the logs so far
abbrev pub invariant-loop-log : goal.invariant-loop-log
invariant-loop-log l = l.count ≡ sum_by (λ log. frames_in log.entries) (take l.log-index l.logs)
