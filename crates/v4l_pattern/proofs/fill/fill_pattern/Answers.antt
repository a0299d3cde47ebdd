use Rattle.std.proofs.Common.{arith, sym, ◌∙◌}
use Rattle.v4l_pattern.proofs.FillLemmas.{grey_filled, yuyv_filled, uyvy_filled, rgb3_filled, nv12_filled, yu12_filled, nv12_room, yu12_room}
use Rattle.v4l_pattern.proofs.fill.fill_pattern.Goals as goal

pub fill_plane-requires-in-Nv12-2-clause-room : goal.fill_plane-requires-in-Nv12-2-clause-room
fill_plane-requires-in-Nv12-2-clause-room g c =
    nv12_room c.args.f.now _ _ c.requires.adjusted (sym c.order_of.ensures ∙ c.in-Nv12.is) c.requires.room c.fill_plane-in-Nv12.ensures.bytes.size

pub fill_plane-requires-in-Yu12-2-clause-room : goal.fill_plane-requires-in-Yu12-2-clause-room
fill_plane-requires-in-Yu12-2-clause-room g c =
    let room = yu12_room c.args.f.now _ _ c.requires.adjusted (sym c.order_of.ensures ∙ c.in-Yu12.is) c.requires.room c.fill_plane-in-Yu12.ensures.bytes.size in
    omega arith

pub fill_plane-requires-in-Yu12-3-clause-room : goal.fill_plane-requires-in-Yu12-3-clause-room
fill_plane-requires-in-Yu12-3-clause-room g c =
    yu12_room c.args.f.now _ _ c.requires.adjusted (sym c.order_of.ensures ∙ c.in-Yu12.is) c.requires.room (c.fill_plane-in-Yu12-2.ensures.bytes.size ∙ c.fill_plane-in-Yu12.ensures.bytes.size)

pub returns-in-Grey-clause-bytes : goal.returns-in-Grey-clause-bytes
returns-in-Grey-clause-bytes g c =
    grey_filled c.args.f.now c.args.input c.args.seq _ _ c.requires.adjusted c.requires.room (sym c.order_of.ensures ∙ c.in-Grey.is) c.fill_plane.ensures.bytes

pub returns-in-Yuyv-clause-bytes : goal.returns-in-Yuyv-clause-bytes
returns-in-Yuyv-clause-bytes g c =
    yuyv_filled c.args.f.now c.args.input c.args.seq _ _ c.requires.adjusted c.requires.room (sym c.order_of.ensures ∙ c.in-Yuyv.is) c.fill_plane-in-Yuyv.ensures.bytes

pub returns-in-Uyvy-clause-bytes : goal.returns-in-Uyvy-clause-bytes
returns-in-Uyvy-clause-bytes g c =
    uyvy_filled c.args.f.now c.args.input c.args.seq _ _ c.requires.adjusted c.requires.room (sym c.order_of.ensures ∙ c.in-Uyvy.is) c.fill_plane-in-Uyvy.ensures.bytes

pub returns-in-Rgb3-clause-bytes : goal.returns-in-Rgb3-clause-bytes
returns-in-Rgb3-clause-bytes g c =
    rgb3_filled c.args.f.now c.args.input c.args.seq _ _ c.requires.adjusted c.requires.room (sym c.order_of.ensures ∙ c.in-Rgb3.is) c.fill_plane-in-Rgb3.ensures.bytes

pub returns-in-Nv12-clause-bytes : goal.returns-in-Nv12-clause-bytes
returns-in-Nv12-clause-bytes g c =
    nv12_filled c.args.f.now c.args.input c.args.seq _ _ _ c.requires.adjusted c.requires.room (sym c.order_of.ensures ∙ c.in-Nv12.is) c.fill_plane-in-Nv12.ensures.bytes c.fill_plane-in-Nv12-2.ensures.bytes

pub returns-in-Yu12-clause-bytes : goal.returns-in-Yu12-clause-bytes
returns-in-Yu12-clause-bytes g c =
    yu12_filled c.args.f.now c.args.input c.args.seq _ _ _ _ c.requires.adjusted c.requires.room (sym c.order_of.ensures ∙ c.in-Yu12.is) c.fill_plane-in-Yu12.ensures.bytes c.fill_plane-in-Yu12-2.ensures.bytes c.fill_plane-in-Yu12-3.ensures.bytes
