use Rattle.std.proofs.Common.{List, arith}
use Rattle.std.proofs.lemmas.Grind.{common_steps}
use Rattle.vm_frame.specs.declared.mem.Held.{Held}
use Rattle.vm_log.specs.LegalLog.{state_of}
use Rattle.vm_handle.specs.Handle.{HandleState}
use Rattle.vm_handle.proofs.BegunLemmas.{SameLines, OneLine, open_starts, open_replied}
use Rattle.vm_handle.proofs.tests.rig.Rig.open.Goals as goal

pub invariant_of-self : goal.invariant_of-self
invariant_of-self g c =
    let sent : HandleState = c.start-started.new.self in
    let held : List Held = c.start-started.new.held.items in
    let w : _ = open_starts c.self.inside.handle sent c.line-line.result _ _ _ _ _ c.start-started.ensures.starts c.in_ok-held.ensures.items in
    let one : OneLine c.self.inside.handle.log sent.log = w.1 in
    let same : SameLines sent.log c.reply.new.self.log =
    open_replied sent c.reply.new.self c.line-line.result c.args.response.now held (c.requires (state_of sent.log) c.line-line.result) w.0 c.reply.ensures.replied in
    let begun : _ = one.begun in
    let lines : _ = one.lines in
    let begun_too : _ = same.begun in
    let lines_too : _ = same.lines in
    let room : _ = c.self.invariant in
    grind (arith, common_steps, begun, lines, begun_too, lines_too, room)
