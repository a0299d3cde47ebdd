use Rattle.std.proofs.Common.{◌≡◌, arith, ap, ◌∙◌}
use Rattle.v4l_convert.proofs.ListLemmas.{written_more}
use Rattle.v4l_convert.proofs.PixelLemmas.{length_pixel, made_of_pixels, pixel_piece}
use Rattle.v4l_convert.specs.Lines.{kind_at, pixel_bytes}
use Rattle.v4l_convert.proofs.line.make_by_pixels.Goals as goal

pub loop-x-preserved : goal.loop-x-preserved
loop-x-preserved g c =
    let kind = c.kind_at-kind.result in
    let here : pixel_piece c.order_at-order.result kind c.args.w c.args.line.now c.loop-x.x ≡ pixel_bytes kind c.luma_of-luma.result c.chroma_of-chroma.result = cc in
    record {
      long = c.put_pixel.auto.out ∙ c.loop-x.invariant.long;
      made = rw c.put_pixel.ensures (written_more (pixel_piece c.order_at-order.result kind c.args.w c.args.line.now) 2 c.loop-x.x c.loop-x.out _ _
          c.loop-x.invariant.made here (length_pixel kind c.luma_of-luma.result c.chroma_of-chroma.result) (omega (arith, c.requires.width.high, c.loop-x-test.true, c.loop-x.invariant.long)));
    }

pub returns : goal.returns
returns g c =
    made_of_pixels _ _ _ _ c.args.w c.args.line.now c.loop-x.out c.loop-x.x c.order_at-order.ensures (c.kind_at-kind.ensures ∙ ap (λ o. kind_at o g.row.P) c.order_at.ensures) (omega arith) c.requires.width.even c.requires.by_pixels c.loop-x.invariant.made
