-- Both ends keep to themselves in each step that takes no events before all else.
use Rattle.std.proofs.Common.{◌≡◌, ℕ, Option, Some, None, refl}
use Rattle.std.specs.Prelude.{IfSome}
use Rattle.vm_device.specs.Device.{DeviceState, session_of}
use Rattle.vm_session.specs.State.{SessionState}
use Rattle.vm_session.specs.Sound.{IsSound as IsSoundSession}
use Rattle.vm_guest.specs.Guest.{process_at}
use Rattle.vm_guest.specs.Orderly.{IsDriver}
use Rattle.vm_guest.specs.Process.{handle_at}
use Rattle.vm_realm.specs.declared.step.Step.{Step}
use Rattle.vm_realm.specs.World.{WorldState}
use Rattle.vm_realm.specs.Steps.{Steps}
use Rattle.vm_realm.specs.Slice.{session_in, slice_at}
use Rattle.vm_realm.specs.SliceSteps.{TakesNone}
use Rattle.vm_realm.specs.Sound.{IsSound, IsHandle, IsWholeSlice, IsWhole, id_at}
use Rattle.vm_realm.proofs.DeviceNextLemmas.{device_next}
use Rattle.vm_realm.proofs.DriverNextLemmas.{driver_next}
use Rattle.vm_realm.proofs.SessionNextLemmas.{AreSound, sessions_next}
use Rattle.vm_realm.proofs.ShareLemmas.{IsThere, is_there}
use Rattle.vm_realm.proofs.RegionLemmas.{RegionKeeps}
use Rattle.vm_realm.proofs.RegionNextLemmas.{region_next}

-- ---- slices

sound_if : (o : Option SessionState) → ((s : SessionState) → o ≡ Some s → IsSoundSession s) → IfSome o IsSoundSession
sound_if None each = tt
sound_if (Some s) each = each s refl

sound_in : (d : DeviceState) (id : Option ℕ) → AreSound d.sessions → IfSome (session_in d id) IsSoundSession
sound_in d None all = tt
sound_in d (Some id) all = sound_if (session_of d id) (all id)

-- what a handle of the driver and its session keep
pub slices_by : (w : WorldState) → IsDriver w.script w.guest → AreSound w.host.device.sessions → (n h : ℕ) → IsHandle w n h → IsWholeSlice (slice_at w n h)
slices_by w driver all n h named =
    let at : IsThere w.guest n h (handle_at (process_at w.guest n) h) = is_there w n h named in
    let each = (driver.orderly n at.process).each h at.handle in
    record { log = each.sound; handle = each.keeps; session = sound_in w.host.device (id_at w n h) all }

pub slices_next : (w w' : WorldState) (s : Step) → IsSound w → TakesNone w s → Steps w s w' → (n h : ℕ) → IsHandle w' n h → IsWholeSlice (slice_at w' n h)
slices_next w w' s sound none does = slices_by w' (driver_next w w' s sound none does) (sessions_next w w' s sound does)

-- ---- the whole

pub whole_next : (w w' : WorldState) (s : Step) → IsSound w → TakesNone w s → Steps w s w' → IsWhole w'
whole_next w w' s sound none does =
    let region : RegionKeeps w'.host.device.region = region_next w w' s sound does in
    record {
      driver = driver_next w w' s sound none does;
      slices = slices_next w w' s sound none does;
      device = device_next w w' s sound does;
      journal = region.journal;
      live = region.live;
      apart = region.apart;
      low = region.low;
    }
