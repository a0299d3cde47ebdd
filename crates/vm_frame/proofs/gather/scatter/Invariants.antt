use Rattle.std.proofs.Common.{◌≡◌, ◌+◌, ◌<◌, ◌≤◌, length, take, map}
use Rattle.std.proofs.Math.Seq.{paste}
use Rattle.vm_frame.specs.Scatter.{scatter_bytes}
use Rattle.vm_frame.specs.User.{IsSound}
use Rattle.vm_frame.proofs.ScatterLemmas.{total}
use Rattle.vm_frame.proofs.gather.scatter.Given as goal

abbrev pub invariant-entries : goal.invariant-entries
invariant-entries l = record {
  sound : IsSound l.entries l.pages;
  numbers : map (λ page. page.number) l.pages ≡ map (λ page. page.number) l.fn.pages;
  within : l.written ≤ length l.from;
  next : l.written < length l.from → total (take l.i l.entries) + l.ahead ≡ l.fn.at + l.written;
  bytes : scatter_bytes l.entries l.pages ≡ paste (scatter_bytes l.entries l.fn.pages) l.fn.at l.from l.written;
}
