use Rattle.std.proofs.Common.{sym, arith}
use Rattle.std.proofs.lemmas.Bool.Decides.{nat_tests}
use Rattle.vm_report.proofs.CodeLemmas.{told_three_words, told_many_words}
use Rattle.vm_report.proofs.replies.told_in.Goals as goal
use Rattle.vm_report.proofs.replies.told_in.Goals.{in_default-via-then-words-lt4, in_default-via-else-words-lt4+else-words-lt5+else-words-lt6}

pub returns-in_default : goal.returns-in_default
returns-in_default c =
    elim c.in_default.branch [
      | in_default-via-then-words-lt4 w ↦ sym (told_three_words c.args.tells c.args.words.now (grind (arith, nat_tests)))
      | in_default-via-else-words-lt4+else-words-lt5+else-words-lt6 w ↦ sym (told_many_words c.args.tells c.args.words.now (grind (arith, nat_tests)))
    ]
