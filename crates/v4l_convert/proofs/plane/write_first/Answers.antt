use Rattle.std.proofs.Common.{◌≡◌, ap, sym, ◌∙◌}
use Rattle.v4l_convert.proofs.PictureLemmas.{area_within, first_copied}
use Rattle.v4l_convert.specs.declared.line_kind.LineKind.TheVariants.{Luma}
use Rattle.v4l_convert.specs.Lines.{kind_at, order_at}
use Rattle.v4l_convert.proofs.plane.write_first.Goals as goal

pub returns-then-begins_with_luma-2-clause-bytes : goal.returns-then-begins_with_luma-2-clause-bytes
returns-then-begins_with_luma-2-clause-bytes g c =
    let source : kind_at (order_at g.row.F) 0 ≡ Luma =
    ap (λ o. kind_at o 0) (sym c.order_at.ensures) ∙ c.begins_with_luma.ensures.0 c.if-begins_with_luma.true in
    let target : kind_at (order_at g.row.G) 0 ≡ Luma =
    ap (λ o. kind_at o 0) (sym c.order_at-then-begins_with_luma.ensures) ∙ c.begins_with_luma-then-begins_with_luma.ensures.0 c.if-begins_with_luma-2.true in
    first_copied (order_at g.row.F) (order_at g.row.G) c.args.w c.args.h (g.S.Store.bytes_of c.args.src.now) (g.D.Store.bytes_of c.args.dst.now) (g.D.Store.bytes_of c.copy_front.new.dst)
    source target c.requires.width.even (area_within (order_at g.row.F) c.args.w c.args.h _ c.requires.whole) c.copy_front.ensures.bytes
