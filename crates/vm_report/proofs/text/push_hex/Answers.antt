-- The items of a slice of bytes are bytes.
use Rattle.std.proofs.Common.{arith}
use Rattle.vm_report.proofs.text.push_hex.Goals as goal

pub returns-clause-fits : goal.returns-clause-fits
returns-clause-fits c = λ i. let f = c.type_inv.bytes i in omega arith
