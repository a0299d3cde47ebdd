use Rattle.std.proofs.Common.{◌<◌, ℕ, List, length, sym, ap, ◌∙◌, arith}
use Rattle.std.proofs.lemmas.Grind.{common_steps}
use Rattle.std.proofs.lemmas.List.{take_more_set, length-set}
use Rattle.std.proofs.lemmas.List.FromFn.{map-range_with_len_more}
use Rattle.v4l_format.specs.Picture.{pattern_byte_at}
use Rattle.vm_frame.specs.Mem.{mem_bytes}
use Rattle.vm_host.proofs.tests.capture.draw.Goals as goal

pub loop-i-preserved : goal.loop-i-preserved
loop-i-preserved c =
    let i = c.loop-i.i in
    let bytes : List ℕ = mem_bytes c.loop-i.mem in
    let byte : ℕ → ℕ = pattern_byte_at c.args.spec.now.input c.args.spec.now.seq c.args.spec.now.dst in
    let within : i < length bytes = grind (arith, common_steps) in
    record {
      size = ap (λ (xs : List ℕ). length xs) c.set.ensures.bytes ∙ length-set bytes i c.pattern_byte.result ∙ c.loop-i.invariant.size;
      drawn = rw (c.set.ensures.bytes, take_more_set bytes i c.pattern_byte.result within, c.loop-i.invariant.drawn, c.pattern_byte.ensures)
          (sym (map-range_with_len_more byte 0 i i (omega arith)));
    }
