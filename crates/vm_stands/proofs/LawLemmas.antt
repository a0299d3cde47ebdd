-- The laws that go by the model.
use Rattle.std.proofs.Common.{◌≡◌, ℕ, List, [], Some, refl}
use Rattle.std.specs.Prelude.{IsTrue}
use Rattle.v4l_const.specs.declared.model.Model.{Model}
use Rattle.v4l_const.specs.declared.model.Model.TheVariants.{Capture, Convert}
use Rattle.vm_job.specs.Job.{JobParts, DoneParts, HasPicture, CameBack}
use Rattle.vm_local.specs.State.{LocalState}
use Rattle.vm_home.specs.Reached.{IsReached}
use Rattle.vm_session.specs.declared.running.Running.{Running}
use Rattle.vm_session.specs.State.{SessionState}
use Rattle.vm_session.specs.Sound.{IsSound}
use Rattle.vm_stands.specs.Stands.{Stands, IsNext}
use Rattle.vm_stands.proofs.FinishedLemmas.{Finishing, Ends}
use Rattle.vm_stands.proofs.CameraLemmas.{camera_ends}
use Rattle.vm_stands.proofs.ConverterLemmas.{converter_ends}

ends : (frames : List ℕ) (session : SessionState) (s : LocalState) (r : Running) (job : JobParts) (done : DoneParts) → Finishing frames session s r job done →
    (m : Model) → s.model ≡ m → Ends frames session s r done
ends frames session s r job done h Capture is = camera_ends frames session s r job done h is
ends frames session s r job done h Convert is = converter_ends frames session s r job done h is

pub finishes : (frames : List ℕ) (session : SessionState) (s : LocalState) (r : Running) (job : JobParts) (done : DoneParts) →
    Stands frames session s → IsSound session → IsReached s → s.owed ≡ [] → session.running ≡ Some r → IsNext s job → CameBack job done →
    (IsTrue done.good → HasPicture done.job) → Ends frames session s r done
finishes frames session s r job done stands sound reached owed running next back picture = ends frames session s r job done (record {
  stands = stands;
  sound = sound;
  reached = reached;
  owed = owed;
  running = running;
  next = next;
  back = back;
  picture = picture;
}) s.model refl
