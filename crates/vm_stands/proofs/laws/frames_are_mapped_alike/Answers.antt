use Rattle.vm_stands.proofs.MapLemmas.{maps_alike, names_keep}
use Rattle.vm_stands.proofs.laws.frames_are_mapped_alike.Goals as goal

pub returns-clause-maps : goal.returns-clause-maps
returns-clause-maps c = maps_alike

pub returns-clause-names : goal.returns-clause-names
returns-clause-names c = names_keep
