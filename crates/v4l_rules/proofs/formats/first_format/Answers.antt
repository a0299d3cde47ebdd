use Rattle.v4l_rules.proofs.AdjustedLemmas.{first_is_adjusted}
use Rattle.v4l_rules.proofs.formats.first_format.Goals as goal

pub returns-clause-adjusted : goal.returns-clause-adjusted
returns-clause-adjusted c = first_is_adjusted
