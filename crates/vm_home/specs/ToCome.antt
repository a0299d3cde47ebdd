-- How much a handle's log still needs room for.
use Rattle.std.specs.Prelude.{ℕ, ◌+◌, ◌*◌, length, sum_by}
use Rattle.vm_local.specs.declared.call.Call.{Call}
use Rattle.vm_local.specs.declared.call.Call.TheVariants.{QBuf}
use Rattle.vm_local.specs.declared.entry.Entry.{Entry}
use Rattle.vm_local.specs.declared.entry.Entry.TheVariants.{Called}
use Rattle.vm_local.specs.State.{LocalState}

-- How many entries are still to come for what was begun: for each queued buffer that its frame is
-- finished and that the frame's event and the buffer are given, and one for each thing owed.
abbrev pub entries_to_come : LocalState → ℕ
entries_to_come s = 3 * sum_by (λ q. length q.queued) s.queues + length s.owed

-- how many more are to come after a call, at most
abbrev pub entries_added : Call → ℕ
entries_added (QBuf t i user used ts) = 3
entries_added call = 0

-- the entry is a step of the device, and no call
abbrev pub IsStep : Entry → Type 0
IsStep (Called line call reply) = ⊥
IsStep e = Unit {0}
