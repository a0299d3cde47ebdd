use Rattle.std.proofs.Common.{ap, arith, ◌∙◌}
use Rattle.std.proofs.lemmas.Int.{ints}
use Rattle.v4l_format.specs.Triple.{brought}
use Rattle.v4l_format.proofs.levels.blue.Goals as goal

pub returns : goal.returns
returns c = c.level.ensures ∙ ap brought (omega (arith, ints))
