use Rattle.std.proofs.Common.{List, ℕ, [], Bor, arith}
use Rattle.std.proofs.lemmas.Grind.{common_steps}
use Rattle.vm_script.proofs.ReaderLemmas.{join_first, join_more}
use Rattle.vm_script.proofs.words.echo_of.Goals as goal
use Rattle.vm_script.proofs.words.echo_of.Goals.{then-place-gt0+in_ok-push, else-place-gt0}

abbrev no_word : Bor (List ℕ)
no_word = record { ref_ptr = (0, 0); now = [] }

pub loop-place-preserved : goal.loop-place-preserved
loop-place-preserved c =
    elim c.if-place-gt0.branch [
      | then-place-gt0+in_ok-push w ↦ let e = join_more 32 c.args.words.now c.loop-place.place no_word (omega arith) (omega arith) in grind (arith, common_steps)
      | else-place-gt0 w ↦ let e = join_first 32 c.args.words.now no_word (omega arith) in grind (arith, common_steps)
    ]
