-- A job as it went out: an entry of the list of what ever went out.
use Rattle.std.specs.Prelude.{◌≡◌}
use Rattle.vm_job.specs.declared.job_out.JobOut.{JobOut}
use Rattle.vm_job.specs.Job.{JobParts}

-- the entry is that of the job
abbrev pub IsOf : JobOut → JobParts → Type 0
IsOf entry job =
    (entry.spec ≡ job.spec) × (entry.src.value ≡ job.src) × (entry.dst.value ≡ job.dst)

-- the job as it went out
abbrev pub parts_of : JobOut → JobParts
parts_of entry = record { spec = entry.spec; src = entry.src.value; dst = entry.dst.value }

-- two entries tell the same: a snapshot has no bytes, so they are compared part by part
abbrev pub SameEntry : JobOut → JobOut → Type 0
SameEntry one other =
    (one.spec ≡ other.spec) × (one.src.value ≡ other.src.value) × (one.dst.value ≡ other.dst.value)
