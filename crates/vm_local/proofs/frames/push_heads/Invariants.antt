use Rattle.std.proofs.Common.{◌≡◌, ◌+◌, ◌++◌, map, take, slice_index_or, vec_len, vec_capacity}
use Rattle.v4l_rules.specs.Queues.{place_in}
use Rattle.vm_local.specs.declared.owed.OwedItem.TheVariants.{Buffer as OwedBuffer}
use Rattle.vm_local.specs.State.{opening_queue}
use Rattle.vm_local.specs.Steps.{head}
use Rattle.vm_local.proofs.frames.push_heads.Given as goal

abbrev pub invariant-loop-t : goal.invariant-loop-t
invariant-loop-t l = record {
  items : l.owed.items ≡ l.fn.owed.items ++ map (λ t. record { queue = t; item = OwedBuffer (head (slice_index_or l.queues (place_in l.types t) opening_queue)) }) (take l.t-index l.types);
  len : vec_len l.owed ≡ vec_len l.fn.owed + l.t-index;
  capacity : vec_capacity l.owed ≡ vec_capacity l.fn.owed;
}
