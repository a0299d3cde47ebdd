use Rattle.vm_home.proofs.LawLemmas.{queued_goes, queued_away, given_back}
use Rattle.vm_home.proofs.laws.a_queued_memory_goes_to_the_device_and_back.Goals as goal

pub returns : goal.returns
returns c = record { goes = queued_goes; away = queued_away; back = given_back }
