use Rattle.v4l_format.proofs.PictureLemmas.{converted_to_same}
use Rattle.v4l_format.proofs.laws.converting_to_the_same_format_copies.Goals as goal

pub returns : goal.returns
returns c = converted_to_same
