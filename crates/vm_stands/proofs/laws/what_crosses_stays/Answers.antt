use Rattle.vm_stands.proofs.StillLemmas.{ways_stay, responses_stay, along_stays}
use Rattle.vm_stands.proofs.laws.what_crosses_stays.Goals as goal

pub returns-clause-ways : goal.returns-clause-ways
returns-clause-ways c = ways_stay

pub returns-clause-responses : goal.returns-clause-responses
returns-clause-responses c = responses_stay

pub returns-clause-along : goal.returns-clause-along
returns-clause-along c = along_stays
