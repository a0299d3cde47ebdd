use Rattle.std.proofs.Common.{arith}
use Rattle.std.proofs.lemmas.Grind.{common_steps}
use Rattle.std.proofs.lemmas.List.FromFn.{map-range_with_len_more}
use Rattle.vm_sg.specs.UserMemory.{page_of}
use Rattle.vm_sg.proofs.user_memory.zero_pages.Goals as goal

pub loop-i-preserved : goal.loop-i-preserved
loop-i-preserved c =
    let more = map-range_with_len_more (page_of c.args.line c.args.count) 0 c.loop-i.i c.loop-i.i (omega arith) in
    grind (arith, common_steps, more)
