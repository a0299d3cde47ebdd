use Rattle.std.proofs.Common.{◌≡◌, ◌+◌, ◌++◌, drop, take, map, length}
use Rattle.vm_report.specs.Lent.{log_in, echoes_in}
use Rattle.vm_output.specs.Printing.{handle_logs}
use Rattle.vm_output.proofs.lent.lend_process.Given as goal

abbrev pub invariant-loop-at : goal.invariant-loop-at
invariant-loop-at l = record {
  logs : map log_in l.lent.items ++ handle_logs l.process (drop l.at l.names) (drop l.at l.handles) ≡ map log_in l.fn.lent.items ++ handle_logs l.process l.names l.handles;
  echoes : map echoes_in l.lent.items ≡ take (length l.lent.items) l.words;
  count : length l.lent.items ≡ length l.fn.lent.items + l.at;
}
