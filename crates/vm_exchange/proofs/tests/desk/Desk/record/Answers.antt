use Rattle.std.proofs.Common.{sym, subst}
use Rattle.vm_exchange.specs.Range.{IsRecord}
use Rattle.vm_exchange.proofs.RecordLemmas.{record_of}
use Rattle.vm_exchange.proofs.tests.desk.Desk.record.Goals as goal

pub returns : goal.returns
returns c = subst IsRecord (sym c.self.invariant.0) (record_of c.self.inside.local c.self.invariant.1)
