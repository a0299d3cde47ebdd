-- The steps that hand something out or take it back: each has a call of its own.
use Rattle.std.specs.Prelude.{ℕ, ◌≡◌, true, false, Option, Some, None}
use Rattle.vm_job.specs.Job.{JobParts, DoneParts}
use Rattle.vm_job.specs.declared.job_out.JobOut.{JobOut}
use Rattle.vm_log.specs.declared.leased.Leased.{Leased}
use Rattle.vm_device.specs.Device.{DeviceState}
use Rattle.vm_device.specs.Stream.{Begins}
use Rattle.vm_guest.specs.Guest.{GuestState}
use Rattle.vm_guest.specs.Steps.{Leases}
use Rattle.vm_realm.specs.Enabled.{is_enabled}
use Rattle.vm_realm.specs.declared.step.Step.TheVariants.{Begin}
use Rattle.vm_realm.specs.Steps.{ComesBack, job_out, with_device}
use Rattle.vm_realm.specs.World.{WorldState}

-- The session's next job goes out. None does exactly where the step may not come next.
abbrev pub BeginsJob : ℕ → WorldState → Option JobParts → WorldState → Type 0
BeginsJob session w None w' = (is_enabled w (Begin session) ≡ false) × (w' ≡ w)
BeginsJob session w (Some job) w' =
    (is_enabled w (Begin session) ≡ true)
    × ((d : DeviceState) × Begins w.host.device session (Some job) d × (w' ≡ with_device w d))

-- A job whose number and spec are those of one that is out came back as that one went out: with its
-- memories, in which the bytes of the picture alone may differ, and these in a good job alone.
abbrev pub IsBackAsItWent : DoneParts → WorldState → Type 0
IsBackAsItWent done w =
    (entry : JobOut) → job_out done.job.spec.number w ≡ Some entry →
    entry.spec ≡ done.job.spec → ComesBack entry done

-- A process's line that touches a memory's bytes is refused, or its memory goes out.
abbrev pub LeasesLine : ℕ → WorldState → Leased → WorldState → Type 0
LeasesLine n w leased w' =
    (g : GuestState) × Leases n w.guest leased g × (w' ≡ record w { guest = g })
