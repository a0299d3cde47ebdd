use Rattle.std.proofs.Common.{◌+◌, ◌*◌, ◌/◌, arith}
use Rattle.v4l_convert.proofs.RowLemmas.{row_within, chroma_row_within, square_row_within, yuyv_row, uyvy_row, nv12_row, yu12_row, rgb3_row, read_kept}
use Rattle.v4l_convert.proofs.line.read_line.Goals as goal

pub read_part-requires-in-Yuyv-clause-whole : goal.read_part-requires-in-Yuyv-clause-whole
read_part-requires-in-Yuyv-clause-whole g c =
    let whole = rw c.in-Yuyv.is at c.requires.whole in
    omega (arith, whole, row_within c.args.w c.args.h c.args.y c.requires.down)

pub read_part-requires-in-Uyvy-clause-whole : goal.read_part-requires-in-Uyvy-clause-whole
read_part-requires-in-Uyvy-clause-whole g c =
    let whole = rw c.in-Uyvy.is at c.requires.whole in
    omega (arith, whole, row_within c.args.w c.args.h c.args.y c.requires.down)

pub read_part-requires-in-Nv12-2-clause-whole : goal.read_part-requires-in-Nv12-2-clause-whole
read_part-requires-in-Nv12-2-clause-whole g c =
    let whole = rw c.in-Nv12.is at c.requires.whole in
    omega (arith, whole, chroma_row_within c.args.w c.args.h c.args.y c.requires.height.even c.requires.down)

pub read_part-requires-in-Yu12-2-clause-whole : goal.read_part-requires-in-Yu12-2-clause-whole
read_part-requires-in-Yu12-2-clause-whole g c =
    let whole = rw c.in-Yu12.is at c.requires.whole in
    omega (arith, whole, square_row_within c.args.w c.args.h c.args.y c.requires.width.even c.requires.height.even c.requires.down)

pub read_part-requires-in-Yu12-3-clause-whole : goal.read_part-requires-in-Yu12-3-clause-whole
read_part-requires-in-Yu12-3-clause-whole g c =
    let whole = rw c.in-Yu12.is at c.requires.whole in
    omega (arith, whole, square_row_within c.args.w c.args.h c.args.y c.requires.width.even c.requires.height.even c.requires.down)

pub returns-in-Yuyv : goal.returns-in-Yuyv
returns-in-Yuyv g c = rw c.in-Yuyv.is (yuyv_row c.args.w c.args.h c.args.y _ _ c.requires.width.even c.read_part-in-Yuyv.ensures.read)

pub returns-in-Uyvy : goal.returns-in-Uyvy
returns-in-Uyvy g c = rw c.in-Uyvy.is (uyvy_row c.args.w c.args.h c.args.y _ _ c.requires.width.even c.read_part-in-Uyvy.ensures.read)

pub returns-in-Nv12 : goal.returns-in-Nv12
returns-in-Nv12 g c =
    rw c.in-Nv12.is (nv12_row c.args.w c.args.h c.args.y _ _ c.requires.width.even
    (read_kept _ _ _ 0 _ _ (2 * c.args.w) c.read_part-in-Nv12.ensures.read c.read_part-in-Nv12-2.ensures.before (omega arith))
    c.read_part-in-Nv12-2.ensures.read)

pub returns-in-Yu12 : goal.returns-in-Yu12
returns-in-Yu12 g c =
    rw c.in-Yu12.is (yu12_row c.args.w c.args.h c.args.y _ _ c.requires.width.even
    (read_kept _ _ _ 0 _ _ (2 * c.args.w) (read_kept _ _ _ 0 _ _ (2 * c.args.w) c.read_part-in-Yu12.ensures.read c.read_part-in-Yu12-2.ensures.before (omega arith))
    (λ i low. c.read_part-in-Yu12-3.ensures.before i (omega arith)) (omega arith))
    (read_kept _ _ _ (2 * c.args.w) _ _ (2 * c.args.w + c.args.w / 2) c.read_part-in-Yu12-2.ensures.read c.read_part-in-Yu12-3.ensures.before (omega arith))
    c.read_part-in-Yu12-3.ensures.read)

pub returns-in-Rgb3 : goal.returns-in-Rgb3
returns-in-Rgb3 g c = rw c.in-Rgb3.is (rgb3_row c.args.w c.args.h c.args.y _ _ c.read_part-in-Rgb3.ensures.read)
