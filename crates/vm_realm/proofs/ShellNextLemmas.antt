-- What stays of the device in each step: its model, and how many sessions may be opened; and which sessions there are.
use Rattle.std.proofs.Common.{◌≡◌, ◌⊎◌, ℕ, Bool, true, false, List, Option, Some, None, Result, Ok, Err, length, set, refl, sym, ap, ◌∙◌, subst, inl, inr}
use Rattle.std.proofs.lemmas.List.{length-set}
use Rattle.v4l_const.specs.declared.errno.Errno.{Errno}
use Rattle.v4l_const.specs.declared.ioctl_code.IoctlCode.{IoctlCode}
use Rattle.vm_frame.specs.declared.mem.Held.{Held}
use Rattle.vm_region.specs.Region.{range_at}
use Rattle.vm_region.specs.declared.live_range.LiveRange.{LiveRange}
use Rattle.vm_script.specs.Script.{ScriptLines}
use Rattle.vm_wire.specs.Message.{Posting, Returning}
use Rattle.vm_wire.specs.Message.Ask.{Judged}
use Rattle.vm_wire.specs.declared.command.Command.{Command}
use Rattle.vm_wire.specs.declared.command.Command.TheVariants.{OpenSession, CloseSession, Ioctl, Map, Unmap}
use Rattle.vm_session.specs.State.{SessionState}
use Rattle.vm_session.specs.Rows.{IoctlAnswer, ioctl_outcome}
use Rattle.vm_device.specs.Brought.{comes_with}
use Rattle.vm_device.specs.Device.{DeviceState, session_of}
use Rattle.vm_device.specs.Mappings.{frame_in}
use Rattle.vm_device.specs.Perform.{Answer, Performs, opened, closed, called, called_with, in_session, MapsFound, UnmapsAt}
use Rattle.vm_realm.specs.declared.step.Step.{Step}
use Rattle.vm_realm.specs.declared.step.Step.TheVariants.{Issue, Execute, Resume, Begin, Finish, Announce, Collect, Pump, Lease, GiveBack}
use Rattle.vm_realm.specs.World.{WorldState, handle_count}
use Rattle.vm_realm.specs.Inner.{Inner}
use Rattle.vm_realm.specs.Steps.{Steps}
use Rattle.vm_realm.specs.SliceSteps.{TakesNone, told_by}
use Rattle.vm_realm.specs.Sound.{IsDeviceFor, IsSoundBy, IsWhole}
use Rattle.vm_realm.proofs.GrowLemmas.{script_stays}
use Rattle.vm_realm.proofs.AfterLemmas.{is_issued, is_collected, is_leased_to, is_given_back, HasDone, IsAnsweredFirst, IsKeptFirst, IsExecuted, is_executed, IsResumed, is_resumed, IsJobBegun, is_job_begun, IsFinished, is_finished, IsAnnounced, is_announced}

-- ---- a command

-- the same but for what its sessions and its region are, with as many sessions
pub record SameShell (d e : DeviceState) : Type 0 where
  pub model : e.model ≡ d.model
  pub opens : e.opens ≡ d.opens
  pub count : length e.sessions ≡ length d.sessions

pub same_shell : (d e : DeviceState) → e ≡ d → SameShell d e
same_shell d e is = subst (SameShell d) (sym is) (record { model = refl; opens = refl; count = refl })

set_shell : (d : DeviceState) (id : ℕ) (o : Option SessionState) → SameShell d (record d { sessions = set d.sessions id o })
set_shell d id o = record { model = refl; opens = refl; count = length-set d.sessions id o }

close_shell : (d : DeviceState) (id : ℕ) (held : List Held) (o : Option SessionState) → SameShell d (closed d id held o).device
close_shell d id held None = same_shell d d refl
close_shell d id held (Some s) = set_shell d id None

done_shell : (d : DeviceState) (id : ℕ) (code : IoctlCode) (held : List Held) (r : Result IoctlAnswer Errno) → SameShell d (called d id code held r).device
done_shell d id code held (Err errno) = same_shell d d refl
done_shell d id code held (Ok a) = set_shell d id (Some a.next)

come_shell : (memory : Bool) (d : DeviceState) (id : ℕ) (s : SessionState) (code : IoctlCode) (p : List ℕ) (held : List Held) (r : Result (List Held) Errno) → SameShell d (called_with memory d id s code p held r).device
come_shell memory d id s code p held (Err errno) = same_shell d d refl
come_shell memory d id s code p held (Ok come) = done_shell d id code come (ioctl_outcome memory s code p come)

call_shell : (memory : Bool) (d : DeviceState) (id : ℕ) (code : IoctlCode) (p wire : List ℕ) (held : List Held) (o : Option SessionState) → SameShell d (in_session memory d id o code p wire held).device
call_shell memory d id code p wire held None = same_shell d d refl
call_shell memory d id code p wire held (Some s) = come_shell memory d id s code p held (comes_with s code p wire held)

map_shell : (d : DeviceState) (held : List Held) (r : Result (ℕ × ℕ) Errno) (a : Answer) → MapsFound d held r a → SameShell d a.device
map_shell d held (Err errno) a is = same_shell d a.device (ap (λ (x : Answer). x.device) is)
map_shell d held (Ok frame) a maps = elim maps [
  | inl is ↦ same_shell d a.device (ap (λ (x : Answer). x.device) is)
  | inr goes ↦ subst (λ (x : Answer). SameShell d x.device) (sym goes.3) (record { model = refl; opens = refl; count = refl })
]

unmap_shell : (d : DeviceState) (held : List Held) (addr : ℕ) (o : Option LiveRange) (a : Answer) → UnmapsAt d held addr o a → SameShell d a.device
unmap_shell d held addr None a is = same_shell d a.device (ap (λ (x : Answer). x.device) is)
unmap_shell d held addr (Some r) a (region, unmaps, is) = subst (λ (x : Answer). SameShell d x.device) (sym is) (record { model = refl; opens = refl; count = refl })

-- each command leaves it, but an open for which there is memory
pub command_shell : (d : DeviceState) (c : Command) (wire : List ℕ) (held : List Held) (a : Answer) → Performs d c wire held a → SameShell d a.device ⊎ ((c ≡ OpenSession) × (a ≡ opened true held d))
command_shell d OpenSession wire held a (memory, is) = by_memory memory is
  where
    by_memory : (memory : Bool) → a ≡ opened memory held d → SameShell d a.device ⊎ ((OpenSession ≡ OpenSession) × (a ≡ opened true held d))
    by_memory true is = inr (refl, is)
    by_memory false is = inl (same_shell d a.device (ap (λ (x : Answer). x.device) is))
command_shell d (CloseSession id) wire held a is = inl (subst (λ (x : Answer). SameShell d x.device) (sym is) (close_shell d id held (session_of d id)))
command_shell d (Ioctl id code p) wire held a (memory, is) = inl (subst (λ (x : Answer). SameShell d x.device) (sym is) (call_shell memory d id code p wire held (session_of d id)))
command_shell d (Map id writable offset) wire held a maps = inl (map_shell d held (frame_in (session_of d id) offset) a maps)
command_shell d (Unmap addr) wire held a unmaps = inl (unmap_shell d held addr (range_at addr d.region.ranges) a unmaps)

-- ---- each step

-- the device has as many sessions, or one more by the command of a posting
pub record Opens (d : DeviceState) (m : Posting) (r : Returning) (e : DeviceState) : Type 0 where
  pub command : m.request.asks ≡ Judged (Ok OpenSession)
  pub told : r ≡ told_by m (opened true m.held d)
  pub device : e ≡ (opened true m.held d).device

-- what a step leaves of the device
pub record Shell (d e : DeviceState) : Type 0 where
  pub model : e.model ≡ d.model
  pub opens : e.opens ≡ d.opens

of_same : (d e : DeviceState) → SameShell d e → Shell d e
of_same d e same = record { model = same.model; opens = same.opens }

performed : (d : DeviceState) (c : Command) (wire : List ℕ) (held : List Held) (a : Answer) → Performs d c wire held a → Shell d a.device
performed d c wire held a does = elim (command_shell d c wire held a does) [
  | inl same ↦ of_same d a.device same
  | inr opens ↦ record { model = ap (λ (x : Answer). x.device.model) opens.1; opens = ap (λ (x : Answer). x.device.opens) opens.1 }
]

answered_shell : (w : WorldState) (m : Posting) (ms : List Posting) (u : WorldState) → IsAnsweredFirst w m ms u → Shell w.host.device u.host.device
answered_shell w m ms u first = subst (λ (y : WorldState). Shell w.host.device y.host.device) (sym first.after) (by_does first.does)
  where
    by_does : HasDone w.host.device m first.told first.device ⊎ (first.device ≡ w.host.device) → Shell w.host.device first.device
    by_does (inl done) = subst (Shell w.host.device) (sym done.device) (performed w.host.device done.command m.behind m.held done.answer done.does)
    by_does (inr same) = of_same w.host.device first.device (same_shell w.host.device first.device same)

kept_shell : (w : WorldState) (m : Posting) (ms : List Posting) (u : WorldState) → IsKeptFirst w m ms u → Shell w.host.device u.host.device
kept_shell w m ms u first = record { model = ap (λ (y : WorldState). y.host.device.model) first.after; opens = ap (λ (y : WorldState). y.host.device.opens) first.after }

same_device : (w u : WorldState) → u.host.device ≡ w.host.device → Shell w.host.device u.host.device
same_device w u is = of_same w.host.device u.host.device (same_shell w.host.device u.host.device is)

pub shell_next : (w u : WorldState) (s : Step) → TakesNone w s → Steps w s u → Shell w.host.device u.host.device
shell_next w u (Issue n) none does = same_device w u (ap (λ (y : WorldState). y.host.device) (is_issued w u n none does).after)
shell_next w u Execute none does =
    let e : IsExecuted w u = is_executed w u does in
    elim e.shape [ inl first ↦ answered_shell w e.posting e.rest u first | inr kept ↦ kept_shell w e.posting e.rest u kept ]
shell_next w u (Resume session) none does =
    let r : IsResumed w session u = is_resumed w u session does in
    subst (λ (y : WorldState). Shell w.host.device y.host.device) (sym r.after) (performed w.host.device r.command r.call.posting.behind r.call.posting.held r.answer r.does)
shell_next w u (Begin session) none does =
    let b : IsJobBegun w session u = is_job_begun w u session does in
    record { model = ap (λ (y : WorldState). y.host.device.model) b.after; opens = ap (λ (y : WorldState). y.host.device.opens) b.after }
shell_next w u (Finish number) none does =
    let f : IsFinished w u = is_finished w u number does in
    record { model = ap (λ (y : WorldState). y.host.device.model) f.after; opens = ap (λ (y : WorldState). y.host.device.opens) f.after }
shell_next w u Announce none does =
    let a : IsAnnounced w u = is_announced w u does in
    record { model = ap (λ (y : WorldState). y.host.device.model) a.after; opens = ap (λ (y : WorldState). y.host.device.opens) a.after }
shell_next w u Collect none does = same_device w u (ap (λ (y : WorldState). y.host.device) (is_collected w u none does).after)
shell_next w u Pump none (may, (g, left, posted, does, after)) = same_device w u (ap (λ (y : WorldState). y.host.device) after)
shell_next w u (Lease n) none does = same_device w u (ap (λ (y : WorldState). y.host.device) (is_leased_to w u n does).after)
shell_next w u (GiveBack n) none does = same_device w u (ap (λ (y : WorldState). y.host.device) (is_given_back w u n does).after)

pub device_for_next : (w u : WorldState) (rows : List (List Inner)) (s : Step) → IsSoundBy w rows → TakesNone w s → Steps w s u → IsWhole u → IsDeviceFor u.script u.host.device
device_for_next w u rows s sound none does whole =
    let shell : Shell w.host.device u.host.device = shell_next w u s none does in
    let script : u.script ≡ w.script = script_stays w u s does in
    record {
      model = shell.model ∙ (sound.device.model ∙ sym (ap (λ (l : ScriptLines). l.model) script));
      opens = shell.opens ∙ (sound.device.opens ∙ sym (ap handle_count script));
      sound = whole.device;
    }
