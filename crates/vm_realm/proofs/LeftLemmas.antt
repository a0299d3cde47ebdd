-- Each step of the world lowers what is left.
use Rattle.std.proofs.Common.{◌≡◌, ℕ, ◌+◌, ◌*◌, ◌<◌, ◌≤◌, List, [], ◌∷◌, length, refl, sym, ap, ◌∙◌, subst, arith, length-append}
use Rattle.std.specs.Prelude.{sum_by}
use Rattle.std.specs.Option.{option_to_list}
use Rattle.std.proofs.lemmas.List.{length_push}
use Rattle.std.proofs.lemmas.List.Sums.{sum_by-cons}
use Rattle.vm_wire.specs.Message.{Posting}
use Rattle.vm_device.specs.Device.{DeviceState}
use Rattle.vm_realm.specs.declared.step.Step.{Step}
use Rattle.vm_realm.specs.declared.step.Step.TheVariants.{Issue, Execute, Resume, Begin, Finish, Announce, Collect, Pump, Lease, GiveBack}
use Rattle.vm_realm.specs.World.{WorldState}
use Rattle.vm_realm.specs.Left.{left_of, request_weight}
use Rattle.vm_realm.specs.Inner.{Inner}
use Rattle.vm_realm.specs.Sound.{IsSound, IsSoundBy}
use Rattle.vm_realm.specs.Steps.{DoesExecute, DoesResume, with_device, DoesBegin, DoesFinish, DoesAnnounce, Steps}
use Rattle.vm_realm.proofs.DeviceLemmas.{all_queued}
use Rattle.vm_realm.proofs.DriverLeftLemmas.{issue_falls, collect_falls, pump_falls, lease_falls, give_back_falls}
use Rattle.vm_realm.proofs.FramesLemmas.{session_few_more}
use Rattle.vm_realm.proofs.PartLemmas.{executed_falls, resumed_falls, begins_falls, finishes_falls, announced_falls}
use Rattle.vm_realm.proofs.WaitingLemmas.{waits_none}

execute_first : (w w' : WorldState) (ms : List Posting) → w.requests ≡ ms → DoesExecute ms w w' → left_of w' < left_of w
execute_first w w' [] is does = absurd does
execute_first w w' (m ∷ ms) is (out, host, does, after) =
    let R : List Posting → ℕ = λ xs. sum_by (λ (x : Posting). request_weight x.request.asks) xs in
    let was : R w.requests ≡ request_weight m.request.asks + R ms = ap R is ∙ sum_by-cons (λ (x : Posting). request_weight x.request.asks) m ms in
    subst (λ x. left_of x < left_of w) (sym after)
    (omega (arith, was, executed_falls m w.host out host does, length-append w.replies (option_to_list out)))

resume_falls : (w w' : WorldState) (rows : List (List Inner)) (session : ℕ) → IsSoundBy w rows → DoesResume session w w' → left_of w' < left_of w
resume_falls w w' rows session sound (r, host, does, after) =
    subst (λ x. left_of x < left_of w) (sym after)
    (omega (arith, resumed_falls session w.host r host (λ c there. waits_none w rows c sound there) does, length_push w.replies r))

device_falls : (w : WorldState) (d : DeviceState) →
    6 * all_queued d + 5 * length d.jobs + 2 * length d.unsent + 1 ≤ 6 * all_queued w.host.device + 5 * length w.host.device.jobs + 2 * length w.host.device.unsent →
    left_of (with_device w d) < left_of w
device_falls w d less = omega (arith, less)

begin_falls : (w w' : WorldState) (session : ℕ) → DoesBegin session w w' → left_of w' < left_of w
begin_falls w w' session (job, d, begins, after) =
    subst (λ x. left_of x < left_of w) (sym after) (device_falls w d (begins_falls w.host.device session job d begins))

finish_falls : (w w' : WorldState) (rows : List (List Inner)) (number : ℕ) → IsSoundBy w rows → DoesFinish number w w' → left_of w' < left_of w
finish_falls w w' rows number sound (done, (entry, d, out, back, finishes, after)) =
    subst (λ x. left_of x < left_of w) (sym after)
    (device_falls w d (finishes_falls w.host.device done d (λ s is. session_few_more w rows done.job.spec.session s done sound is) finishes))

announce_falls : (w w' : WorldState) → DoesAnnounce w w' → left_of w' < left_of w
announce_falls w w' (delivery, host, does, after) =
    subst (λ x. left_of x < left_of w) (sym after)
    (omega (arith, announced_falls w.host delivery host does, length_push w.events delivery))

pub left_falls : (w w' : WorldState) (s : Step) → IsSound w → Steps w s w' → left_of w' < left_of w
left_falls w w' (Issue n) sound (may, does) = issue_falls w w' n may does
left_falls w w' Execute sound (may, does) = execute_first w w' w.requests refl does
left_falls w w' (Resume session) sound (may, does) = resume_falls w w' sound.0 session sound.1 does
left_falls w w' (Begin session) sound (may, does) = begin_falls w w' session does
left_falls w w' (Finish number) sound (may, does) = finish_falls w w' sound.0 number sound.1 does
left_falls w w' Announce sound (may, does) = announce_falls w w' does
left_falls w w' Collect sound (may, does) = collect_falls w w' does
left_falls w w' Pump sound (may, does) = pump_falls w w' does
left_falls w w' (Lease n) sound (may, does) = lease_falls w w' n may does
left_falls w w' (GiveBack n) sound (may, does) = give_back_falls w w' n does
