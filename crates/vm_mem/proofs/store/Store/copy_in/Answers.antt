use Rattle.std.proofs.Common.{arith}
use Rattle.std.proofs.lemmas.Grind.{common_steps}
use Rattle.std.proofs.lemmas.List.Edits.{paste_more}
use Rattle.vm_mem.proofs.store.Store.copy_in.Goals as goal

pub loop-byte-preserved : goal.loop-byte-preserved
loop-byte-preserved g c =
    let step = paste_more (g.Self.Store.bytes_of c.args.self.now) c.args.at c.args.from.now c.loop-byte.byte-index 0 (omega arith) c.loop-byte-test.true
    in record { place = omega arith; bytes = grind (arith, common_steps, step); rest = cc }
