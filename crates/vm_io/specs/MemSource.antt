-- A source over bytes in memory, as contracts see it.
use Rattle.std.specs.Prelude.{ℕ, List, drop}
use Rattle.vm_io.specs.Plan.{Plan, after_call, after_fault}

-- the bytes that are left, and how many a call gives at most
pub record SourceState : Type 0 where
  pub left : List ℕ
  pub piece : ℕ
  pub plan : Plan

-- after a call that gave n bytes
abbrev pub after_read : SourceState → ℕ → SourceState
after_read source n = record source { left = drop n source.left; plan = after_call source.plan }

-- after a call that failed
abbrev pub after_read_fault : SourceState → SourceState
after_read_fault source = record source { plan = after_fault source.plan }
