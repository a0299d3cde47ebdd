use Rattle.std.proofs.Common.{◌≡◌, ◌<◌, ◌==◌, false, length, ◌∙◌, arith}
use Rattle.std.proofs.lemmas.Bool.Decides.{nat_tests}
use Rattle.std.proofs.lemmas.Grind.{common_steps}
use Rattle.vm_session.proofs.FrameLemmas.{passed_over}
use Rattle.vm_session.proofs.frames.find_frame.Goals as goal

pub loop-len-preserved : goal.loop-len-preserved
loop-len-preserved c =
    let same = c.loop-len.invariant.index in
    let test = c.loop-len-test.true in
    let within : c.loop-len.index < length c.args.lengths.now = grind (arith, common_steps) in
    let differs : (c.buffer_offset.result == c.args.offset) ≡ false = (let apart = c.if-buffer_offset-offset.false in grind (arith, nat_tests, apart)) in
    record {
      index = omega (arith, same);
      rest = c.loop-len.invariant.rest ∙ passed_over c.args.t c.args.first c.args.offset c.loop-len.index c.buffer_offset.result c.args.lengths.now within c.buffer_offset.ensures differs;
    }
