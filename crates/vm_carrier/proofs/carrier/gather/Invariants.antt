use Rattle.std.proofs.Common.{◌≡◌, ◌≤◌, ◌*◌, ◌++◌, length, drop}
use Rattle.std.specs.Vec.{vec_capacity}
use Rattle.vm_carrier.specs.Carrier.{readable_of}
use Rattle.vm_carrier.proofs.carrier.gather.Given as goal

abbrev pub invariant-loop-desc : goal.invariant-loop-desc
invariant-loop-desc l = record {
  bytes : readable_of l.fn.descs l.fn.pages ≡ l.bytes.items ++ readable_of (drop l.desc-index l.descs) l.pages;
  room : length l.bytes.items ≤ 4096 * l.desc-index;
  capacity : vec_capacity l.fn.bytes ≤ vec_capacity l.bytes;
}
