use Rattle.std.proofs.Common.{◌≡◌, ◌≤◌, ◌*◌, ◌/◌, arith, ap, refl, length, take, ◌∙◌}
use Rattle.std.proofs.lemmas.List.{length-take-le}
use Rattle.v4l_convert.proofs.LineLemmas.{plane_begin, plane_more, line_same, line_fits, length_written, placed, row_is}
use Rattle.v4l_convert.specs.declared.line_kind.LineKind.{LineKind}
use Rattle.v4l_convert.specs.Lines.{converted_line, kind_at, line_size, order_at, pair_size, rows_of}
use Rattle.v4l_convert.proofs.plane.write_plane.Goals as goal

pub loop-n-init : goal.loop-n-init
loop-n-init g c = record { place = omega arith; bytes = plane_begin _ _ _ _ _ _ _; size = refl; rest = refl }

pub copy_in-requires : goal.copy_in-requires
copy_in-requires g c =
    let kind : LineKind = kind_at (order_at g.row.G) g.row.P in
    let kind_is : c.kind_at-kind.result ≡ kind = c.kind_at-kind.ensures ∙ ap (λ o. kind_at o g.row.P) c.order_at.ensures in
    let size_is : c.pair_size.result ≡ pair_size kind = c.pair_size.ensures ∙ ap pair_size kind_is in
    let rows_is : c.rows_of-rows.result ≡ rows_of kind = c.rows_of-rows.ensures ∙ ap rows_of kind_is in
    let room = placed kind c.args.w c.args.h c.loop-n.n c.loop-n.at c.args.start (length (g.D.Store.bytes_of c.args.dst.now)) c.pair_size.result c.rows_of-rows.result
    size_is rows_is c.loop-n-test.true c.loop-n.invariant.place c.requires.room in
    let same : c.pair_size.result * (c.args.w / 2) ≡ line_size kind c.args.w = ap (λ m. m * (c.args.w / 2)) size_is in
    let fits : c.pair_size.result * (c.args.w / 2) ≤ length c.make_line.new.out = omega (arith, same, line_fits kind c.args.w c.requires.width.high, c.make_line.array_long) in
    omega (arith, room, c.loop-n.invariant.size, length-take-le (c.pair_size.result * (c.args.w / 2)) c.make_line.new.out fits)

pub overflow_add-at : goal.overflow_add-at
overflow_add-at g c =
    let kind : LineKind = kind_at (order_at g.row.G) g.row.P in
    let kind_is : c.kind_at-kind.result ≡ kind = c.kind_at-kind.ensures ∙ ap (λ o. kind_at o g.row.P) c.order_at.ensures in
    let room = placed kind c.args.w c.args.h c.loop-n.n c.loop-n.at c.args.start (length (g.D.Store.bytes_of c.args.dst.now)) c.pair_size.result c.rows_of-rows.result
    (c.pair_size.ensures ∙ ap pair_size kind_is) (c.rows_of-rows.ensures ∙ ap rows_of kind_is) c.loop-n-test.true c.loop-n.invariant.place c.requires.room in
    omega (arith, room, c.size-size.ensures, c.size-size.type_inv)

pub loop-n-preserved : goal.loop-n-preserved
loop-n-preserved g c =
    let kind : LineKind = kind_at (order_at g.row.G) g.row.P in
    let bytes = g.S.Store.bytes_of c.args.src.now in
    let old = g.D.Store.bytes_of c.args.dst.now in
    let kind_is : c.kind_at-kind.result ≡ kind = c.kind_at-kind.ensures ∙ ap (λ o. kind_at o g.row.P) c.order_at.ensures in
    let size_is : c.pair_size.result ≡ pair_size kind = c.pair_size.ensures ∙ ap pair_size kind_is in
    let rows_is : c.rows_of-rows.result ≡ rows_of kind = c.rows_of-rows.ensures ∙ ap rows_of kind_is in
    let room = placed kind c.args.w c.args.h c.loop-n.n c.loop-n.at c.args.start (length old) c.pair_size.result c.rows_of-rows.result
    size_is rows_is c.loop-n-test.true c.loop-n.invariant.place c.requires.room in
    let same : c.pair_size.result * (c.args.w / 2) ≡ line_size kind c.args.w = ap (λ m. m * (c.args.w / 2)) size_is in
    let fits : c.pair_size.result * (c.args.w / 2) ≤ length c.make_line.new.out = omega (arith, same, line_fits kind c.args.w c.requires.width.high, c.make_line.array_long) in
    let long = length-take-le (c.pair_size.result * (c.args.w / 2)) c.make_line.new.out fits in
    let row = row_is c.order_at-in-loop-n.result (order_at g.row.F) c.args.w c.args.h (c.rows_of-rows.result * c.loop-n.n) (rows_of kind * c.loop-n.n) c.read_line.new.line bytes
    c.order_at-in-loop-n.ensures (ap (λ r. r * c.loop-n.n) rows_is) c.read_line.ensures in
    let made : take (c.pair_size.result * (c.args.w / 2)) c.make_line.new.out ≡ converted_line (order_at g.row.F) kind c.args.w c.args.h bytes (rows_of kind * c.loop-n.n) =
    ap (λ m. take m c.make_line.new.out) same ∙ c.make_line.ensures ∙ line_same (order_at g.row.F) kind c.args.w c.args.h (rows_of kind * c.loop-n.n) c.read_line.new.line bytes row in
    record {
      place = omega (arith, same, c.loop-n.invariant.place);
      bytes = c.copy_in.ensures.bytes ∙ plane_more (order_at g.row.F) kind c.args.w c.args.h bytes c.loop-n.n old (g.D.Store.bytes_of c.loop-n.dst) (take (c.pair_size.result * (c.args.w / 2)) c.make_line.new.out) c.args.start c.loop-n.at
          c.loop-n.invariant.bytes c.loop-n.invariant.place made (omega (arith, same, room));
      size = ap (λ xs. length xs) c.copy_in.ensures.bytes ∙ length_written (g.D.Store.bytes_of c.loop-n.dst) (take (c.pair_size.result * (c.args.w / 2)) c.make_line.new.out) c.loop-n.at (omega (arith, room, long, c.loop-n.invariant.size)) ∙ c.loop-n.invariant.size;
      rest = c.copy_in.ensures.rest ∙ c.loop-n.invariant.rest;
    }
