use Rattle.v4l_format.proofs.CarriedLemmas.{square_within}
use Rattle.v4l_format.proofs.places.square_number.Goals as goal

pub returns-clause-within : goal.returns-clause-within
returns-clause-within c =
    square_within _ _ _ _ c.requires.adjusted.width.even c.requires.adjusted.height.even c.requires.across c.requires.down
