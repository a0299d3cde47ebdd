use Rattle.vm_stands.proofs.FlightLemmas.{all_replay}
use Rattle.vm_stands.proofs.laws.messages_are_steps.Goals as goal

pub returns : goal.returns
returns c = all_replay
