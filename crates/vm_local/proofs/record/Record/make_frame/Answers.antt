use Rattle.std.proofs.Common.{◌∙◌, refl, ap}
use Rattle.vm_local.specs.Record.{RecordState}
use Rattle.vm_local.proofs.MovesLemmas.{frame_lengthened}
use Rattle.vm_local.proofs.record.Record.make_frame.Goals as goal

pub returns-clause-frame : goal.returns-clause-frame
returns-clause-frame c =
    frame_lengthened c.args.self.now.local _ c.self.inside.lengths.items _ c.target_memory-memory.result c.target_size-size.result
    (ap (λ (r : RecordState). r.local) c.self.view_is ∙ c.take_frame.ensures.frame) refl c.target_size-size.ensures.value c.target_memory-memory.ensures c.lengthen.ensures.items
