use Rattle.std.proofs.Common.{◌<◌, ◌∙◌, length, length-set, refl, arith}
use Rattle.std.proofs.lemmas.List.{take_more_set}
use Rattle.std.proofs.lemmas.List.FromFn.{map-range_with_len_more}
use Rattle.vm_sg.specs.Wire.{entry_at}
use Rattle.vm_sg.proofs.wire.read_entries.Goals as goal

pub loop-i-preserved : goal.loop-i-preserved
loop-i-preserved c =
    let within : c.loop-i.i < length c.loop-i.into = omega (arith, c.loop-i-test.true, c.requires, c.loop-i.invariant.room) in
    let more = map-range_with_len_more (entry_at c.args.wire.now) 0 c.loop-i.i c.loop-i.i (omega arith) in
    record {
      read = rw (take_more_set c.loop-i.into c.loop-i.i c.entry_at.result within, c.loop-i.invariant.read, more, c.entry_at.ensures) refl;
      room = length-set c.loop-i.into c.loop-i.i c.entry_at.result ∙ c.loop-i.invariant.room;
    }
