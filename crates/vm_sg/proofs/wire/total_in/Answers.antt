use Rattle.std.proofs.Common.{◌≡◌, ◌<◌, ◌^◌, rules, arith, ap}
use Rattle.std.proofs.lemmas.List.FromFn.{sum_by-map-range_with_len_more}
use Rattle.vm_sg.specs.Wire.{entry_at}
use Rattle.vm_sg.proofs.wire.total_in.Goals as goal

pub loop-i-preserved : goal.loop-i-preserved
loop-i-preserved c =
    let more = sum_by-map-range_with_len_more (λ e. e.len) (entry_at c.args.wire.now) 0 c.loop-i.i c.loop-i.i (omega arith) in
    let here : c.entry_at.result.len ≡ (entry_at c.args.wire.now c.loop-i.i).len = ap (λ e. e.len) c.entry_at.ensures in
    let small : c.entry_at.result.len < 2 ^ 32 = search rules in
    record {
      sum = omega (arith, more, here, c.from-bytes.ensures, c.loop-i.invariant.sum);
      most = omega (arith, small, c.from-bytes.ensures, c.loop-i.invariant.most);
    }
