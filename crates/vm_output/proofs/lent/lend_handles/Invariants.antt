use Rattle.std.proofs.Common.{◌≡◌, ◌+◌, ◌++◌, drop, take, map, length, flat_map}
use Rattle.vm_script.specs.Lines.{echoes_by_handle}
use Rattle.vm_report.specs.Lent.{log_in, echoes_in}
use Rattle.vm_output.specs.Printing.{process_logs}
use Rattle.vm_output.proofs.lent.lend_handles.Given as goal

abbrev pub invariant-loop-at : goal.invariant-loop-at
invariant-loop-at l = record {
  logs : map log_in l.lent.items ++ process_logs l.at (drop l.at l.script.processes) (drop l.at l.guest.processes) ≡ process_logs 0 l.script.processes l.guest.processes;
  echoes : map echoes_in l.lent.items ≡ take (length l.lent.items) l.words;
  count : length l.lent.items + length (flat_map echoes_by_handle (drop l.at l.script.processes)) ≡ length l.words;
}
