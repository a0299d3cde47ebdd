-- Entries of jobs: each is that of its job in one way, and two entries of one job tell the same.
use Rattle.std.proofs.Common.{◌≡◌, sym, refl, ◌∙◌}
use Rattle.std.proofs.Props.{props}
use Rattle.vm_job.specs.declared.job_out.JobOut.{JobOut}
use Rattle.vm_job.specs.Job.{JobParts}
use Rattle.vm_job.specs.Entry.{IsOf, SameEntry, parts_of}

pub IsOf-prop : (entry : JobOut) (job : JobParts) → IsProp (IsOf entry job)
IsOf-prop entry job = Prim.hlevel props

pub one_entry : (one other : JobOut) (job : JobParts) → IsOf one job → IsOf other job → SameEntry one other
one_entry one other job a b = (a.0 ∙ sym b.0, a.1 ∙ sym b.1, a.2 ∙ sym b.2)

pub entry_parts : (entry : JobOut) (job : JobParts) → IsOf entry job → parts_of entry ≡ job
entry_parts entry job h = rw (h.0, h.1, h.2) refl
