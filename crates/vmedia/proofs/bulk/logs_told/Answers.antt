-- A text that is printed of logs gives them.
use Rattle.std.proofs.Common.{Err, ap}
use Rattle.vmedia.proofs.bulk.logs_told.Goals as goal

pub unreachable-requires : goal.unreachable-requires
unreachable-requires c = c.in-Err-NotPrinted.ensures.not_printed (ap (λ e. Err e) c.in-Err-NotPrinted.field-0-is) c.requires.0 c.requires.1
