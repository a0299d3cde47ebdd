use Rattle.std.proofs.Common.{◌≤◌, ◌+◌, ◌*◌, length, refl, ap, ◌∙◌, arith}
use Rattle.vm_sg.specs.UserMemory.{entry_of}
use Rattle.vm_exchange.specs.Entries.{entry_wire}
use Rattle.vm_exchange.proofs.EntryLemmas.{place_long, one_more, as_long}
use Rattle.vm_exchange.proofs.entries.put_entries.Goals as goal

pub loop-i-init : goal.loop-i-init
loop-i-init c = record {
  written = refl;
  room = omega (arith, c.requires, place_long c.args.place.now, c.page_count-count.ensures);
  long = refl;
}

pub loop-i-preserved : goal.loop-i-preserved
loop-i-preserved c =
    let f = entry_of c.args.place.now.line c.args.place.now.length c.args.place.now.off in
    let fits : 16 * (c.loop-i.i + 1) ≤ length c.args.out.now = omega (arith, c.loop-i.invariant.room, c.loop-i-test.true) in
    let more = one_more f c.loop-i.i _ c.loop-i.out c.args.out.now _ c.loop-i.invariant.written (omega arith)
    (c.copy_from_slice.ensures.after ∙ (c.entry_bytes.ensures ∙ ap entry_wire c.entry_of.ensures)) in
    record { written = more; room = c.loop-i.invariant.room; long = as_long f (c.loop-i.i + 1) _ c.args.out.now more fits }
