use Rattle.std.proofs.Common.{◌≡◌, drop}
use Rattle.std.specs.Prelude.{slice_get}
use Rattle.vm_host.proofs.QuietLemmas.{quiet_among}
use Rattle.vm_host.proofs.host.quiet_at.Given as goal

abbrev pub invariant-loop-call : goal.invariant-loop-call
invariant-loop-call l =
    slice_get (quiet_among l.device (drop l.call-index l.waiting)) l.left ≡ slice_get (quiet_among l.fn.device l.fn.waiting) l.fn.place
