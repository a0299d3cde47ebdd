-- What a step of the device leaves as it was while a memory is out.
use Rattle.std.specs.Prelude.{◌≡◌, true, Some}
use Rattle.vm_local.specs.declared.call.Call.{Call}
use Rattle.vm_local.specs.declared.entry.Entry.{Entry}
use Rattle.vm_local.specs.State.{LocalState}
use Rattle.vm_local.specs.Memory.{bytes_of}
use Rattle.vm_local.specs.Log.{after}
use Rattle.vm_home.specs.Laws.{IsUnrefused}
use Rattle.vm_home.specs.Moves.{goes_along, touches_bytes, touched}
use Rattle.vm_home.specs.Reached.{IsReached}
use Rattle.vm_home.specs.ToCome.{IsStep}

-- The line isn't refused where it wasn't, and its memory is the same one, with the same bytes.
pub record StillTouches (s t : LocalState) (call : Call) : Type 0 where
  pub unrefused : IsUnrefused t call
  pub same : touched t call ≡ touched s call
  pub bytes : bytes_of t (touched s call) ≡ bytes_of s (touched s call)

abbrev pub StepsLeaveTouched : Type 0
StepsLeaveTouched =
    (s t : LocalState) (e : Entry) (call : Call) →
    IsReached s → IsStep e → after s e ≡ Some t → touches_bytes call ≡ true →
    IsUnrefused s call → StillTouches s t call

-- the memory that goes along with a call is the same one
abbrev pub StepsLeaveAlong : Type 0
StepsLeaveAlong =
    (s t : LocalState) (e : Entry) (call : Call) →
    IsReached s → IsStep e → after s e ≡ Some t → goes_along t call ≡ goes_along s call
