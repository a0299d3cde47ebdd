use Rattle.std.proofs.Common.{◌∙◌}
use Rattle.v4l_pattern.proofs.CopyLemmas.{next_copied}
use Rattle.v4l_pattern.proofs.lines.copy_lines.Goals as goal

pub loop-y-preserved : goal.loop-y-preserved
loop-y-preserved g c = record {
  plane = next_copied _ _ _ _ _ c.args.lines _ _ _ _ _ c.line_size-size.result c.bytes_ahead-start.result c.pixels_ahead.result c.requires.strip c.loop-y-test.true c.requires.room c.line_size-size.ensures c.bytes_ahead-start.ensures c.pixels_ahead.ensures.value c.copy_in.ensures.bytes c.loop-y.invariant.plane;
  rest = c.copy_in.ensures.rest ∙ c.loop-y.invariant.rest;
}
