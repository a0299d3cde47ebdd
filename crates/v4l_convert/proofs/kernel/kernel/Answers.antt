use Rattle.std.proofs.Common.{◌≡◌, ◌≢◌, ◌++◌, take, drop, ap, sym, ◌∙◌}
use Rattle.v4l_convert.proofs.PictureLemmas.{own_picture, first_room, chroma_room, blue_room, red_room, one_plane, two_planes, three_planes}
use Rattle.v4l_convert.specs.Lines.{order_at}
use Rattle.v4l_format.specs.declared.sample_order.SampleOrder.TheVariants.{Nv12, Yu12}
use Rattle.v4l_format.specs.Fmt.{order_of}
use Rattle.v4l_convert.proofs.kernel.kernel.Goals as goal

pub returns-then-this-clause-bytes : goal.returns-then-this-clause-bytes
returns-then-this-clause-bytes g c =
    let bytes = g.S.Store.bytes_of c.args.src.now in
    let old = g.D.Store.bytes_of c.args.dst.now in
    let same : order_of c.args.src_fmt.now ≡ order_of c.args.dst_fmt.now =
    c.requires.source ∙ ap order_at c.if-this.true ∙ sym c.requires.target in
    own_picture c.args.src_fmt.now c.args.dst_fmt.now bytes old _ same c.requires.same_width c.requires.same_height c.requires.adjusted c.requires.whole
    (c.copy_front.ensures.bytes ∙ ap (λ n. take n bytes ++ drop n old) c.sizeimage.ensures)

pub write_first-first-requires-clause-room : goal.write_first-first-requires-clause-room
write_first-first-requires-clause-room g c =
    first_room c.args.dst_fmt.now (order_at g.row.G) _ c.requires.target c.requires.adjusted.width.even c.requires.adjusted.height.even c.requires.room

pub write_plane-end-requires-clause-room : goal.write_plane-end-requires-clause-room
write_plane-end-requires-clause-room g c =
    let order : order_at g.row.G ≡ Nv12 = sym c.order_at.ensures ∙ c.in-Nv12.is in
    chroma_room c.args.dst_fmt.now (order_at g.row.G) _ _ _ c.requires.target order c.requires.adjusted.width.even c.requires.adjusted.height.even c.requires.room
    c.write_first-first.ensures.size c.write_first-first.ensures.end

pub write_plane-second-requires-clause-room : goal.write_plane-second-requires-clause-room
write_plane-second-requires-clause-room g c =
    let order : order_at g.row.G ≡ Yu12 = sym c.order_at.ensures ∙ c.in-Yu12.is in
    blue_room c.args.dst_fmt.now (order_at g.row.G) _ _ _ c.requires.target order c.requires.adjusted.width.even c.requires.adjusted.height.even c.requires.room
    c.write_first-first.ensures.size c.write_first-first.ensures.end

pub write_plane-end-requires-in-Yu12-clause-room : goal.write_plane-end-requires-in-Yu12-clause-room
write_plane-end-requires-in-Yu12-clause-room g c =
    let order : order_at g.row.G ≡ Yu12 = sym c.order_at.ensures ∙ c.in-Yu12.is in
    red_room c.args.dst_fmt.now (order_at g.row.G) _ _ _ _ c.requires.target order c.requires.adjusted.width.even c.requires.adjusted.height.even c.requires.room
    (c.write_plane-second.ensures.size ∙ c.write_first-first.ensures.size) c.write_first-first.ensures.end c.write_plane-second.ensures.end

pub returns-in-Nv12-clause-bytes : goal.returns-in-Nv12-clause-bytes
returns-in-Nv12-clause-bytes g c =
    let order : order_at g.row.G ≡ Nv12 = sym c.order_at.ensures ∙ c.in-Nv12.is in
    two_planes c.args.src_fmt.now c.args.dst_fmt.now (g.S.Store.bytes_of c.args.src.now) (g.D.Store.bytes_of c.args.dst.now) (g.D.Store.bytes_of c.write_first-first.new.dst) _ (order_at g.row.F) (order_at g.row.G) _
    c.requires.source c.requires.target order c.requires.same_width c.requires.same_height c.requires.adjusted.width.even c.requires.adjusted.height.even
    c.write_first-first.ensures.end c.write_first-first.ensures.bytes c.write_plane-end.ensures.bytes

pub returns-in-Yu12-clause-bytes : goal.returns-in-Yu12-clause-bytes
returns-in-Yu12-clause-bytes g c =
    let order : order_at g.row.G ≡ Yu12 = sym c.order_at.ensures ∙ c.in-Yu12.is in
    three_planes c.args.src_fmt.now c.args.dst_fmt.now (g.S.Store.bytes_of c.args.src.now) (g.D.Store.bytes_of c.args.dst.now) (g.D.Store.bytes_of c.write_first-first.new.dst) (g.D.Store.bytes_of c.write_plane-second.new.dst) _ (order_at g.row.F) (order_at g.row.G) _ _
    c.requires.source c.requires.target order c.requires.same_width c.requires.same_height c.requires.adjusted.width.even c.requires.adjusted.height.even
    c.write_first-first.ensures.end c.write_plane-second.ensures.end c.write_first-first.ensures.bytes c.write_plane-second.ensures.bytes c.write_plane-end-in-Yu12.ensures.bytes

pub returns-in_default : goal.returns-in_default
returns-in_default g c =
    let not_nv12 : order_at g.row.G ≢ Nv12 = λ e. c.in_default.not-Nv12 (c.order_at.ensures ∙ e) in
    let not_yu12 : order_at g.row.G ≢ Yu12 = λ e. c.in_default.not-Yu12 (c.order_at.ensures ∙ e) in
    record {
      bytes = one_plane c.args.src_fmt.now c.args.dst_fmt.now (g.S.Store.bytes_of c.args.src.now) (g.D.Store.bytes_of c.args.dst.now) _ (order_at g.row.F) (order_at g.row.G)
          c.requires.source c.requires.target c.requires.same_width c.requires.same_height c.requires.adjusted.width.even not_nv12 not_yu12
          c.write_first-first.ensures.bytes;
      size = c.write_first-first.ensures.size;
      rest = c.write_first-first.ensures.rest;
    }
