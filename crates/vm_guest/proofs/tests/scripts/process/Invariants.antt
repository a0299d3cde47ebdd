use Rattle.std.proofs.Common.{All}
use Rattle.vm_guest.specs.Orderly.{IsFitKind}
use Rattle.vm_guest.proofs.tests.scripts.process.Given as goal

-- each line so far is a call on the handle
abbrev pub invariant-calls : goal.invariant-calls
invariant-calls l = All (λ x. IsFitKind 1 x.what) l.lines.items
