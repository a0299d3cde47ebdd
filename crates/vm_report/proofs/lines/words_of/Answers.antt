use Rattle.std.proofs.Common.{ℕ, rules, tests, Ok}
use Rattle.std.proofs.lemmas.Iterator.Consumers.{map_from_collect}
use Rattle.std.proofs.lemmas.Iterator.Splits.{YieldsList-from_slice_split}
use Rattle.vm_script.proofs.ReaderLemmas.{split_is_pieces}
use Rattle.vm_report.specs.Reading.{is_space}
use Rattle.vm_report.proofs.lines.words_of.Goals as goal

pub returns : goal.returns
returns c =
    rw (← split_is_pieces is_space c.args.line.now)
    (map_from_collect {E = ℕ} (Ok c.in_ok-collect.field-0) c.in_ok-collect.ensures.ran
    (YieldsList-from_slice_split _ is_space c.args.line.now c.split.ensures.rest c.split.ensures.done c.split.ensures.closure (λ x r q k. search (rules, tests))))
