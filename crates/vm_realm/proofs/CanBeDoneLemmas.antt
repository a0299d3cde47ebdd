-- Each step that may come next in a sound world can be done.
use Rattle.std.proofs.Common.{◌≡◌, true, refl}
use Rattle.vm_realm.specs.declared.step.Step.{Step}
use Rattle.vm_realm.specs.declared.step.Step.TheVariants.{Issue, Execute, Resume, Begin, Finish, Announce, Collect, Pump, Lease, GiveBack}
use Rattle.vm_realm.specs.World.{WorldState}
use Rattle.vm_realm.specs.Enabled.{is_enabled}
use Rattle.vm_realm.specs.Steps.{Does, Steps}
use Rattle.vm_realm.specs.Sound.{IsSound}
use Rattle.vm_realm.proofs.CanDeviceLemmas.{execute_can, resume_can, begin_can, finish_can, announce_can}
use Rattle.vm_realm.proofs.CanDriverLemmas.{issue_can, collect_can, pump_can}
use Rattle.vm_realm.proofs.CanLeaseLemmas.{lease_can, give_back_can}

does_some : (w : WorldState) (s : Step) → IsSound w → is_enabled w s ≡ true → (w' : WorldState) × Does s w w'
does_some w (Issue n) sound may = issue_can w sound.0 n sound.1 may
does_some w Execute sound may = execute_can w sound.0 w.requests sound.1 may
does_some w (Resume session) sound may = resume_can w sound.0 session sound.1 may
does_some w (Begin session) sound may = begin_can w sound.0 session sound.1 may
does_some w (Finish number) sound may = finish_can w sound.0 number sound.1 may
does_some w Announce sound may = announce_can w sound.0 sound.1 may
does_some w Collect sound may = collect_can w sound.0 w.replies sound.1 refl may
does_some w Pump sound may = pump_can w w.events refl may
does_some w (Lease n) sound may = lease_can w sound.0 n sound.1 may
does_some w (GiveBack n) sound may = give_back_can w sound.0 n sound.1 may

pub enabled_can : (w : WorldState) (s : Step) → IsSound w → is_enabled w s ≡ true → (w' : WorldState) × Steps w s w'
enabled_can w s sound may = let d : _ = does_some w s sound may in (d.0, (may, d.1))
