use Rattle.std.proofs.Common.{length, arith, ap, ◌∙◌}
use Rattle.vm_script.specs.Script.{ProcessLines, ScriptLines}
use Rattle.vm_world.proofs.FirstLemmas.{handles_within}
use Rattle.vm_world.proofs.world.count_handles.Goals as goal

pub overflow_cast-count : goal.overflow_cast-count
overflow_cast-count c =
    let both = handles_within c.args.script.now c.deref-process-items.result.now c.loop-process.process-index c.process-item.result c.requires (c.deref-process-items.ensures.value ∙ ap (λ (s : ScriptLines). s.processes) c.script.view_is) c.loop-process-test.true c.process-item.is in
    omega (arith, both.0, c.len.ensures, ap (λ (p : ProcessLines). length p.handles) c.process.view_is)

pub overflow_add-count : goal.overflow_add-count
overflow_add-count c =
    let both = handles_within c.args.script.now c.deref-process-items.result.now c.loop-process.process-index c.process-item.result c.requires (c.deref-process-items.ensures.value ∙ ap (λ (s : ScriptLines). s.processes) c.script.view_is) c.loop-process-test.true c.process-item.is in
    omega (arith, both.1, c.loop-process.invariant, c.len.ensures, ap (λ (p : ProcessLines). length p.handles) c.process.view_is)
