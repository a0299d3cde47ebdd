use Rattle.std.proofs.Common.{[], refl, arith}
use Rattle.v4l_layout.proofs.Laid.{length_laid, laid_reads_back}
use Rattle.v4l_layout.proofs.laws.laid_out_reads_back.Goals as goal

pub returns-clause-size : goal.returns-clause-size
returns-clause-size c = λ size fields laid. omega (arith, length_laid size 0 fields laid)

pub returns-clause-reads : goal.returns-clause-reads
returns-clause-reads c = λ size fields behind laid. laid_reads_back size 0 [] behind fields refl laid
