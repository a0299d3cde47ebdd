-- Each step keeps the world sound, and each end to itself; so a run has few steps.
use Rattle.std.proofs.Common.{◌≡◌, ℕ, zero, suc, ◌+◌, ◌<◌, ◌≤◌, Bool, true, false, List, [], ◌∷◌, length, replicate, refl, sym, ap, subst, arith, inl, inr}
use Rattle.vm_device.specs.Device.{DeviceState}
use Rattle.vm_realm.specs.declared.step.Step.{Step}
use Rattle.vm_realm.specs.declared.step.Step.TheVariants.{Issue, Execute, Resume, Begin, Finish, Announce, Collect, Pump, Lease, GiveBack}
use Rattle.vm_realm.specs.World.{WorldState}
use Rattle.vm_realm.specs.Inner.{Inner}
use Rattle.vm_realm.specs.Left.{left_of}
use Rattle.vm_realm.specs.Laws.{StepKeepsSound, EachKeepsSound, StepsKeepWhole, StepsKeepSound, RunsKeepSound, RunsEnd}
use Rattle.vm_realm.specs.Steps.{Steps, Leads}
use Rattle.vm_realm.specs.SliceSteps.{takes_all, TakesNone}
use Rattle.vm_realm.specs.Mapped.{IsJournalOf}
use Rattle.vm_realm.specs.Sound.{IsRunnable, IsSoundBy, IsSound, IsWhole, inner_at, all_shares}
use Rattle.vm_realm.proofs.OpeningLemmas.{opening_left}
use Rattle.vm_realm.proofs.LeftLemmas.{left_falls}
use Rattle.vm_realm.proofs.PumpingLemmas.{taking_is_pumping}
use Rattle.vm_realm.proofs.GrowLemmas.{script_stays}
use Rattle.vm_realm.proofs.PumpLiftLemmas.{pump_keeps}
use Rattle.vm_realm.proofs.SoundAtFirstLemmas.{sound_at_first}
use Rattle.vm_realm.proofs.QuietNextLemmas.{quiet_next}
use Rattle.vm_realm.proofs.RawsNextLemmas.{raws_next}
use Rattle.vm_realm.proofs.WithinNextLemmas.{within_next}
use Rattle.vm_realm.proofs.SaidNextLemmas.{said_next}
use Rattle.vm_realm.proofs.WholeNextLemmas.{whole_next}
use Rattle.vm_realm.proofs.MappedNextLemmas.{mapped_next, mapped_same}
use Rattle.vm_realm.proofs.LiftLemmas.{table_of, table_inner}
use Rattle.vm_realm.proofs.LiftNextLemmas.{Lifts, rows_next, lifted_slices, same_driver, lift_next}
use Rattle.vm_realm.proofs.ShellNextLemmas.{device_for_next}
use Rattle.vm_realm.proofs.SeatsNextLemmas.{ids_next}

-- ---- a step that takes no event first

-- the journal is that of the shares, whether a handle moved or none
mapped_by : (w u : WorldState) (rows : List (List Inner)) (s : Step) → IsSoundBy w rows → Steps w s u → IsWhole u → (l : Lifts s w u rows) → IsJournalOf (all_shares u (rows_next s w u rows l) 0 u.guest.processes) u.host.device.region
mapped_by w u rows s sound does whole (inl m) = mapped_next s w u rows m.process m.handle m.inner sound (same_driver w u s does whole) does (record { does = m.does; others = m.others; sound = m.sound; more = m.more; frames = m.frames })
mapped_by w u rows s sound does whole (inr stays) =
    mapped_same w u rows (table_of (inner_at w rows) 0 u.guest.processes) sound (same_driver w u s does whole) (script_stays w u s does) stays.slices (λ n h named. table_inner u (inner_at w rows) n h named)
    (ap (λ (d : DeviceState). d.region) stays.device)

sound_next : (w u : WorldState) (s : Step) → IsSound w → TakesNone w s → Steps w s u → IsWhole u → IsSound u
sound_next w u s (rows, sound) none does whole =
    let l : Lifts s w u rows = lift_next w u rows s sound none does whole in (
      rows_next s w u rows l,
      record {
        script = subst IsRunnable (sym (script_stays w u s does)) sound.script;
        lines = whole.driver;
        slices = lifted_slices s w u rows sound (same_driver w u s does whole) l;
        ids = ids_next w u rows s sound none does whole l;
        device = device_for_next w u rows s sound none does whole;
        mapped = mapped_by w u rows s sound does whole l;
        said = said_next w u s (rows, sound) none does;
        raws = raws_next w u s (rows, sound) none does;
        quiet = quiet_next w u s (rows, sound) none does;
        within = within_next w u s (rows, sound) none does;
      },
    )

-- ---- steps that take events first

pumps_keep : (n : ℕ) (w u : WorldState) → IsSound w → Leads w (replicate n Pump) u → IsSound u
pumps_keep zero w u sound is = subst IsSound (sym is) sound
pumps_keep (suc n) w u sound (next, does, rest) = pumps_keep n next u (pump_keeps w next sound does) rest

-- each step takes no event first in a sound world that the events lead to
behind_pumps : (w u : WorldState) (s : Step) → IsSound w → Steps w s u → (v : WorldState) × IsSound v × TakesNone v s × Steps v s u
behind_pumps w u s sound does = by_events (takes_all w s) refl
  where
    by_events : (b : Bool) → takes_all w s ≡ b → (v : WorldState) × IsSound v × TakesNone v s × Steps v s u
    by_events false none = (w, sound, inl none, does)
    by_events true takes =
        let by : _ = taking_is_pumping w u s takes does in
        (by.0, pumps_keep (length w.events) w by.0 sound by.1, inr by.2, by.3)

-- ---- each step

step_keeps : (s : Step) → StepKeepsSound s
step_keeps s w u sound does whole =
    let by : _ = behind_pumps w u s sound does in
    sound_next by.0 u s by.1 by.2 by.3 whole

pub each_keeps : EachKeepsSound
each_keeps = record {
  issue = λ p. step_keeps (Issue p);
  execute = step_keeps Execute;
  resume = λ session. step_keeps (Resume session);
  begin = λ session. step_keeps (Begin session);
  finish = λ number. step_keeps (Finish number);
  announce = step_keeps Announce;
  collect = step_keeps Collect;
  pump = pump_keeps;
  lease = λ p. step_keeps (Lease p);
  give_back = λ p. step_keeps (GiveBack p);
}

pub keeps_whole : StepsKeepWhole
keeps_whole w u s sound does =
    let by : _ = behind_pumps w u s sound does in
    whole_next by.0 u s by.1 by.2 by.3

-- so each leads from a sound world to a sound one
pub step_sound : StepsKeepSound
step_sound w u s sound does = step_keeps s w u sound does (keeps_whole w u s sound does)

-- ---- runs

-- whichever steps are done, a sound world leads to a sound one
pub runs_sound : RunsKeepSound
runs_sound w u [] sound is = subst IsSound (sym is) sound
runs_sound w u (s ∷ ss) sound (next, does, rest) = runs_sound next u ss (step_sound w next s sound does) rest

-- with less left
run_falls : (steps : List Step) (w u : WorldState) → IsSound w → Leads w steps u → left_of u + length steps ≤ left_of w
run_falls [] w u sound is = let same : left_of u ≡ left_of w = ap left_of is in omega (arith, same)
run_falls (s ∷ ss) w u sound (next, does, rest) =
    let more : left_of u + length ss ≤ left_of next = run_falls ss next u (step_sound w next s sound does) rest in
    let falls : left_of next < left_of w = left_falls w next s sound does in
    omega (arith, more, falls)

pub runs_end : RunsEnd
runs_end script w u steps runnable opening leads =
    let most = opening_left script w opening in
    let falls = run_falls steps w u (sound_at_first script w runnable opening) leads in
    omega (arith, most, falls)
