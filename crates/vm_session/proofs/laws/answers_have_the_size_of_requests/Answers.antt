use Rattle.vm_session.proofs.SizeLemmas.{answer_length}
use Rattle.vm_session.proofs.laws.answers_have_the_size_of_requests.Goals as goal

pub returns : goal.returns
returns c = answer_length
