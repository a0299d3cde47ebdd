use Rattle.std.proofs.Common.{rules, arith, sym, Bor, List, ℕ, []}
use Rattle.std.proofs.lemmas.Bool.Decides.{nat_tests}
use Rattle.vm_script.proofs.FormLemmas.{line_two, line_all}
use Rattle.vm_script.proofs.CountLemmas.{queue_words}
use Rattle.vm_script.proofs.statement.queue_more.Goals as goal
use Rattle.vm_script.proofs.statement.queue_more.Goals.{in_default-via-then-words-lt7, in_default-via-else-words-lt7+else-words-lt8+then-words-lt9, in_default-via-else-words-lt7+else-words-lt8+else-words-lt9+else-words-lt10}

abbrev no_word : Bor (List ℕ)
no_word = record { ref_ptr = (0, 0); now = [] }

pub returns-in-len7 : goal.returns-in-len7
returns-in-len7 c = rw (line_two c.args.words.now no_word (omega arith) (omega arith), c.on.ensures, c.q_buf.ensures, c.two_extras.ensures) (search rules)

pub returns-in-len9 : goal.returns-in-len9
returns-in-len9 c = rw (line_all c.args.words.now no_word (omega arith) (omega arith)) (search rules)

pub returns-in_default : goal.returns-in_default
returns-in_default c =
    elim c.in_default.branch [
      | in_default-via-then-words-lt7 w ↦ sym (queue_words c.args.words.now (grind (arith, nat_tests)) (grind (arith, nat_tests)) (grind (arith, nat_tests)))
      | in_default-via-else-words-lt7+else-words-lt8+then-words-lt9 w ↦ sym (queue_words c.args.words.now (grind (arith, nat_tests)) (grind (arith, nat_tests)) (grind (arith, nat_tests)))
      | in_default-via-else-words-lt7+else-words-lt8+else-words-lt9+else-words-lt10 w ↦ sym (queue_words c.args.words.now (grind (arith, nat_tests)) (grind (arith, nat_tests)) (grind (arith, nat_tests)))
    ]
