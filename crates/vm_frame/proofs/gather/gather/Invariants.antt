use Rattle.std.proofs.Common.{◌≡◌, ◌+◌, ◌<◌, ◌≤◌, length, take, drop}
use Rattle.vm_frame.specs.Scatter.{scatter_bytes}
use Rattle.vm_frame.proofs.ScatterLemmas.{total}
use Rattle.vm_frame.proofs.gather.gather.Given as goal

abbrev pub invariant-entries : goal.invariant-entries
invariant-entries l = record {
  within : l.filled ≤ length l.into;
  next : l.filled < length l.into → total (take l.i l.entries) + l.ahead ≡ l.fn.at + l.filled;
  filled : take l.filled l.into ≡ take l.filled (drop l.fn.at (scatter_bytes l.entries l.pages));
}
