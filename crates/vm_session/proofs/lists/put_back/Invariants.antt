use Rattle.std.proofs.Common.{◌≡◌, ◌+◌, ◌≤◌, ◌++◌, length, vec_len, vec_capacity}
use Rattle.vm_session.proofs.lists.put_back.Given as goal

abbrev pub invariant-frames : goal.invariant-frames
invariant-frames l = record {
  memories : l.back.items ++ l.fresh.items ≡ l.fn.back.items ++ l.fn.fresh.items;
  room : vec_len l.back + length l.fresh.items ≤ vec_capacity l.back;
  back_room : vec_capacity l.back ≡ vec_capacity l.fn.back;
}

abbrev pub decreases-frames : goal.decreases-frames
decreases-frames l = length l.fresh.items
