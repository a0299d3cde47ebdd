use Rattle.std.proofs.Common.{◌≡◌, ◌++◌, drop, map}
use Rattle.std.specs.List.{AllByRecursion}
use Rattle.vm_script.specs.Reading.{Fits32}
use Rattle.vm_report.specs.Lent.{raw_log_in, raw_echo_in}
use Rattle.vm_report.specs.Text.{raw_lines_text}
use Rattle.vm_report.proofs.printer.push_raw_lines.Given as goal

abbrev pub invariant-loop-raw : goal.invariant-loop-raw
invariant-loop-raw l = record {
  printed : l.fn.text.items ++ raw_lines_text l.process (map raw_log_in l.raws) (map raw_echo_in l.raws) ≡ l.text.items ++ raw_lines_text l.process (map raw_log_in (drop l.raw-index l.raws)) (map raw_echo_in (drop l.raw-index l.raws));
  fits : AllByRecursion (λ r. r.process ≡ l.process → Fits32 r.line) (drop l.raw-index l.raws) → AllByRecursion (λ r. r.process ≡ l.process → Fits32 r.line) l.raws;
}
