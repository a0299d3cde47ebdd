use Rattle.std.proofs.Common.{◌≡◌, drop}
use Rattle.vm_session.specs.Mapped.{frames_from, frame_at}
use Rattle.vm_session.proofs.frames.find_frame.Given as goal

abbrev pub invariant-loop-len : goal.invariant-loop-len
invariant-loop-len l = record {
  index : l.index ≡ l.len-index;
  rest : frame_at l.offset (frames_from l.t l.first 0 l.lengths) ≡ frame_at l.offset (frames_from l.t l.first l.index (drop l.index l.lengths));
}
