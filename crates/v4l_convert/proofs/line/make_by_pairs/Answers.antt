use Rattle.std.proofs.Common.{◌≡◌, arith, ap, ◌∙◌}
use Rattle.v4l_convert.proofs.LineLemmas.{length_pair, made_line, pair_fits}
use Rattle.v4l_convert.proofs.ListLemmas.{written_more}
use Rattle.v4l_convert.specs.Lines.{converted_pair, kind_at, pair_bytes, pair_size}
use Rattle.v4l_convert.proofs.line.make_by_pairs.Goals as goal

pub loop-k-preserved : goal.loop-k-preserved
loop-k-preserved g c =
    let kind = c.kind_at-kind.result in
    let here : converted_pair c.order_at-order.result kind c.args.w 2 c.args.line.now 0 c.loop-k.k ≡ pair_bytes kind c.turned.result c.turned-in-loop-k.result = cc in
    record {
      long = c.put_pair.auto.out ∙ c.loop-k.invariant.long;
      made = rw c.put_pair.ensures (written_more (converted_pair c.order_at-order.result kind c.args.w 2 c.args.line.now 0) (pair_size kind) c.loop-k.k c.loop-k.out _ _
          c.loop-k.invariant.made here (length_pair kind c.turned.result c.turned-in-loop-k.result) (omega (arith, pair_fits kind c.args.w c.loop-k.k c.requires.width.high c.loop-k-test.true)));
    }

pub returns : goal.returns
returns g c =
    made_line _ _ _ _ c.args.w c.args.line.now c.loop-k.out c.loop-k.k c.order_at-order.ensures (c.kind_at-kind.ensures ∙ ap (λ o. kind_at o g.row.P) c.order_at.ensures) (omega arith) c.loop-k.invariant.made
