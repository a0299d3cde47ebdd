use Rattle.vm_home.proofs.LawLemmas.{opens_bare, made_home}
use Rattle.vm_home.proofs.laws.memories_begin_at_home.Goals as goal

pub returns : goal.returns
returns c = record { opened = opens_bare; made = made_home }
