use Rattle.std.proofs.Common.{◌≡◌, ◌++◌, map, take, drop}
use Rattle.vm_local.specs.Queue.{made_idle}
use Rattle.vm_local.proofs.buffers.make_idle.Given as goal

abbrev pub invariant-loop-buffer : goal.invariant-loop-buffer
invariant-loop-buffer l = l.buffers ≡ map made_idle (take l.buffer-index l.fn.buffers) ++ drop l.buffer-index l.fn.buffers
