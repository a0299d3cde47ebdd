use Rattle.std.proofs.Common.{◌+◌, ◌*◌, ◌%◌, refl, arith}
use Rattle.std.proofs.lemmas.List.{take_more_set}
use Rattle.std.proofs.lemmas.List.FromFn.{map-range_with_len_more}
use Rattle.vm_frame.proofs.frame.Frame.fill.Goals as goal

pub loop-byte-preserved : goal.loop-byte-preserved
loop-byte-preserved c =
    let i = c.loop-byte.byte-index in
    let written = take_more_set c.loop-byte.byte-items i c.loop-byte.value (omega arith) in
    let next = map-range_with_len_more (λ k. (7 * k + c.args.seed) % 256) 0 i i (omega arith) in
    record {
      value = omega arith;
      filled = rw (written, next, c.loop-byte.invariant.filled, c.loop-byte.invariant.value) refl;
    }
