use Rattle.std.proofs.Common.{refl, ◌∙◌}
use Rattle.std.proofs.lemmas.List.{take_at}
use Rattle.vm_output.proofs.EchoLemmas.{lines_more}
use Rattle.vm_output.proofs.echoes.group_echoes.Goals as goal

pub loop-line-preserved : goal.loop-line-preserved
loop-line-preserved c =
    let more = lines_more c.args.names.now c.args.lines.now c.loop-line.line-index c.line-item.result c.loop-line-test.true in
    take_at _ _ _ (c.add_line.auto.words ∙ c.deref_mut.ensures.len) ∙
    (c.in_ok-add_line.ensures ∙ rw (c.deref_mut.ensures.value, c.loop-line.invariant, more, ← c.line-item.is) refl)
