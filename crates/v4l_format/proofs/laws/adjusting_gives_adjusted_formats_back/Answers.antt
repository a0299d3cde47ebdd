use Rattle.v4l_format.proofs.FmtLemmas.{adjusted_fixed}
use Rattle.v4l_format.proofs.laws.adjusting_gives_adjusted_formats_back.Goals as goal

pub returns : goal.returns
returns c = adjusted_fixed
