use Rattle.vm_count.proofs.Keeps.{begins}
use Rattle.vm_count.proofs.count.Count.new.Goals as goal

pub of_words-requires : goal.of_words-requires
of_words-requires g c = begins c.args.fixed.now
