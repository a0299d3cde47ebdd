-- What came before the last read, and what came by it.
use Rattle.vm_io.proofs.BytesLemmas.{was_read-append}
use Rattle.vm_io.proofs.reading.read_all.Goals as goal

pub returns-then-count-limit-clause-rest : goal.returns-then-count-limit-clause-rest
returns-then-count-limit-clause-rest g c = (_, was_read-append _ _ _ _ _ c.pieces.invariant.read c.in_ok-count.ensures.read)

pub returns-in_err-extend_from_slice-clause-rest :
    goal.returns-in_err-extend_from_slice-clause-rest
returns-in_err-extend_from_slice-clause-rest g c = (_, was_read-append _ _ _ _ _ c.pieces.invariant.read c.in_ok-count.ensures.read)
