-- What a step of the device leaves as it was.
use Rattle.std.proofs.Common.{◌≡◌, ℕ, List, Option, Some, None, get_or, refl, sym, ap, subst}
use Rattle.v4l_const.specs.Model.{queues as types_of}
use Rattle.v4l_const.specs.declared.model.Model.{Model}
use Rattle.v4l_rules.specs.Queues.{place_in}
use Rattle.vm_local.specs.declared.call.Call.{Call}
use Rattle.vm_local.specs.declared.call.Call.TheVariants.{QBuf}
use Rattle.vm_local.specs.State.{LocalState, opening_queue, queue_of, buffer_of}
use Rattle.vm_local.specs.Memory.{named_in, memory_of}
use Rattle.vm_local.specs.Queue.{brought, memory_from}
use Rattle.vm_home.specs.Moves.{goes_along}
use Rattle.vm_home.proofs.StepLemmas.{StepsTo, steps_to}
use Rattle.vm_home.proofs.PayloadLemmas.{still_touches}
use Rattle.vm_log.specs.Laws.{StepsLeaveTouched, StepsLeaveAlong}

pub steps_leave_touched : StepsLeaveTouched
steps_leave_touched s t e call reached step leads touches pass =
    let touch : (line addr : ℕ) → _ = λ line addr. still_touches s t e line addr call reached step leads touches (pass line addr) in
    record { unrefused = λ line addr. (touch line addr).pass; same = (touch 0 0).same; bytes = (touch 0 0).bytes }

along_steps : (s t : LocalState) (u i : ℕ) (user : Option (List ℕ)) → StepsTo s t → memory_from (brought t user) (buffer_of (queue_of t u) i) ≡ memory_from (brought s user) (buffer_of (queue_of s u) i)
along_steps s t u i None steps =
    let P : Model → Type 0 = λ m. (buffer_of (get_or t.queues (place_in (types_of m) u) opening_queue) i).memory ≡ (buffer_of (queue_of s u) i).memory in
    subst P (sym steps.model) ((steps.less (place_in (types_of s.model) u)).buffers i).memory
along_steps s t u i (Some name) steps = ap (λ bs. Some (memory_of (named_in bs name))) steps.bound

along_by : (s t : LocalState) (call : Call) → StepsTo s t → goes_along t call ≡ goes_along s call
along_by s t (QBuf u i user used ts) steps = along_steps s t u i user steps
along_by s t call steps = refl

pub steps_leave_along : StepsLeaveAlong
steps_leave_along s t e call reached step leads = along_by s t call (steps_to s t e reached step leads)
