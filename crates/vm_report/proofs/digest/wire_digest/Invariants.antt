use Rattle.std.proofs.Common.{◌≡◌, ◌++◌, ℕ, List, flat_map, drop, map}
use Rattle.std.specs.List.{AllByRecursion}
use Rattle.sha2.specs.Hashers.{Holds256}
use Rattle.vm_local.specs.Log.{IsLegal}
use Rattle.vm_exchange.specs.Range.{HasWords}
use Rattle.vm_report.specs.Digest.{wires_of}
use Rattle.vm_report.specs.Lent.{log_in}
use Rattle.vm_report.proofs.digest.wire_digest.Given as goal

abbrev pub invariant-loop-handle : goal.invariant-loop-handle
invariant-loop-handle l = record {
  hashed : List ℕ;
  holds : Holds256 l.hasher hashed;
  all_of : hashed ++ flat_map (wires_of l.model) (map log_in (drop l.handle-index l.handles)) ≡ flat_map (wires_of l.model) (map log_in l.handles);
  legal : AllByRecursion (λ h. IsLegal l.model h.entries.now) (drop l.handle-index l.handles);
  words : AllByRecursion (λ h. AllByRecursion HasWords h.entries.now) (drop l.handle-index l.handles) → AllByRecursion (λ h. AllByRecursion HasWords h.entries.now) l.handles;
}
