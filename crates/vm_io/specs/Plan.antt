-- Which calls are to fail. Calls are numbered from 1, and all from the 2 ^ 64 - 1st on have that
-- number.
use Rattle.std.specs.Prelude.{ℕ, List, Contains}
use Rattle.vm_io.specs.Faults.{next_count}

-- the numbers of the calls that are to fail; how many calls came, and how many of them failed
pub record Plan : Type 0 where
  pub fails : List ℕ
  pub calls : ℕ
  pub faults : ℕ

-- a plan before the first call
abbrev pub fresh_plan : List ℕ → Plan
fresh_plan fails = record { fails = fails; calls = 0; faults = 0 }

-- the next call is to fail
abbrev pub IsDue : Plan → Type 0
IsDue plan = Contains plan.fails (next_count plan.calls)

-- the plan after a call that was served
abbrev pub after_call : Plan → Plan
after_call plan = record plan { calls = next_count plan.calls }

-- the plan after a call that failed
abbrev pub after_fault : Plan → Plan
after_fault plan = record plan { calls = next_count plan.calls; faults = next_count plan.faults }
