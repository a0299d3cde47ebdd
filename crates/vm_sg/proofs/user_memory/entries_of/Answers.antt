use Rattle.std.proofs.Common.{◌≡◌, length, refl, arith}
use Rattle.std.proofs.lemmas.Grind.{common_steps}
use Rattle.std.proofs.lemmas.List.FromFn.{length-map-range_with_len, map-range_with_len_more}
use Rattle.vm_sg.specs.UserMemory.{entry_of}
use Rattle.vm_sg.proofs.UserLemmas.{few_pages}
use Rattle.vm_sg.proofs.user_memory.entries_of.Goals as goal

pub push_reserved-requires : goal.push_reserved-requires
push_reserved-requires c =
    let few = few_pages c.args.len c.args.off c.requires.small c.requires.in_a_page in
    let items : length c.loop-i.entries.items ≡ c.loop-i.i = rw c.loop-i.invariant.items (length-map-range_with_len (entry_of c.args.line c.args.len c.args.off) 0 c.loop-i.i) in
    grind (arith, common_steps, few, items)

pub loop-i-preserved : goal.loop-i-preserved
loop-i-preserved c =
    let more = map-range_with_len_more (entry_of c.args.line c.args.len c.args.off) 0 c.loop-i.i c.loop-i.i (omega arith) in
    record {
      items = rw (c.push_reserved.ensures.items, c.loop-i.invariant.items, more, c.entry_of.ensures) refl;
      room = rw c.push_reserved.ensures.capacity c.loop-i.invariant.room;
    }
