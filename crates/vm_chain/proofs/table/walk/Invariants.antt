use Rattle.std.proofs.Common.{◌≡◌, ◌-◌, ◌≤◌, length}
use Rattle.std.specs.List.{list_any}
use Rattle.vm_chain.specs.Desc.{is_writable}
use Rattle.vm_chain.specs.Walk.{walk_of, outcome}
use Rattle.vm_chain.proofs.WalkLemmas.{left_of}
use Rattle.vm_chain.proofs.table.walk.Given as goal

abbrev pub invariant-loop-next : goal.invariant-loop-next
invariant-loop-next l = record {
  walked : outcome l.limit l.homes l.out.descs (left_of l.table l.limit l.out.descs l.next) ≡ walk_of l.table l.fn.head l.limit l.homes;
  writable_before : l.writable_before ≡ list_any is_writable l.out.descs;
  room : length l.out.descs ≤ l.limit;
  same_limit : l.out.limit ≡ l.fn.out.limit;
}

abbrev pub decreases-loop-next : goal.decreases-loop-next
decreases-loop-next l = l.limit - length l.out.descs
