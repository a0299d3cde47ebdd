use Rattle.std.proofs.Common.{◌≡◌, ◌<◌, drop, map}
use Rattle.std.specs.Prelude.{IfSome}
use Rattle.vm_report.specs.Reading.{last_equals}
use Rattle.vm_report.proofs.CodeLemmas.{joined_at}
use Rattle.vm_report.proofs.lines.last_equals.Given as goal

abbrev pub invariant-loop-at : goal.invariant-loop-at
invariant-loop-at l = record {
  place : joined_at l.at l.last (last_equals (map (λ w. w.now) (drop l.at l.words))) ≡ last_equals (map (λ w. w.now) l.words);
  within : IfSome l.last (λ k. k < l.at);
}
