use Rattle.vm_realm.proofs.SoundAtFirstLemmas.{sound_at_first}
use Rattle.vm_realm.proofs.laws.the_opening_is_sound.Goals as goal

pub returns : goal.returns
returns c = sound_at_first
