use Rattle.vm_host.proofs.DoneLemmas.{place_left, few_frames}
use Rattle.vm_host.proofs.laws.few_steps_leave_places.Goals as goal

pub returns-clause-places : goal.returns-clause-places
returns-clause-places c = place_left

pub returns-clause-frames : goal.returns-clause-frames
returns-clause-frames c = few_frames
