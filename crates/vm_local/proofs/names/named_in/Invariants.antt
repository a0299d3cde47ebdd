use Rattle.std.proofs.Common.{◌≡◌, drop}
use Rattle.vm_local.specs.Memory.{named_in}
use Rattle.vm_local.proofs.names.named_in.Given as goal

abbrev pub invariant-loop-entry : goal.invariant-loop-entry
invariant-loop-entry l = named_in l.bound l.name ≡ named_in (drop l.entry-index l.bound) l.name
