use Rattle.std.proofs.Common.{◌≡◌, length}
use Rattle.vm_session.specs.Buffers.{fresh_frames}
use Rattle.vm_session.proofs.frames.fresh_frames.Given as goal

abbrev pub invariant-loop-index : goal.invariant-loop-index
invariant-loop-index l = record {
  frames : l.frames.items ≡ fresh_frames l.t l.first l.size l.index;
  len : length l.frames.items ≡ l.index;
}
