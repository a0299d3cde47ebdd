use Rattle.std.proofs.Common.{◌≡◌, map, take, drop}
use Rattle.vm_frame.specs.Scatter.{first_fault, scatter_fault}
use Rattle.vm_sg.proofs.faults.check.Given as goal

abbrev pub invariant-loop-place : goal.invariant-loop-place
invariant-loop-place l =
    scatter_fault l.entries l.pages ≡ first_fault (map (λ page. page.number) l.pages) (take l.place l.entries) (drop l.place l.entries)
