use Rattle.vm_bulk.proofs.ReadLemmas.{bulk_read, bulk_short}
use Rattle.vm_bulk.proofs.laws.bulk_scripts_are_read.Goals as goal

pub returns-clause-read : goal.returns-clause-read
returns-clause-read c = bulk_read

pub returns-clause-short : goal.returns-clause-short
returns-clause-short c = bulk_short
