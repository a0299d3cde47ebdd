use Rattle.vm_home.proofs.LawLemmas.{touched_out, touched_back}
use Rattle.vm_home.proofs.laws.a_line_works_on_a_memory_that_is_at_home.Goals as goal

pub returns : goal.returns
returns c = record { out = touched_out; back = touched_back }
