use Rattle.vm_world.proofs.SentLemmas.{sent_named}
use Rattle.vm_world.proofs.laws.each_event_is_of_its_session.Goals as goal

pub returns : goal.returns
returns c = sent_named
