use Rattle.std.proofs.Common.{ℕ, rules, tests, not, Ok}
use Rattle.std.proofs.lemmas.Iterator.Consumers.{YieldsList-at, YieldsList-from_filter, map_from_collect}
use Rattle.std.proofs.lemmas.Iterator.Splits.{YieldsList-from_slice_split}
use Rattle.vm_script.specs.Words.{parts_words, is_empty}
use Rattle.vm_script.proofs.ReaderLemmas.{split_is_pieces, empty_by_length}
use Rattle.vm_script.proofs.words.words_in.Goals as goal

pub returns : goal.returns
returns c =
    rw (← split_is_pieces parts_words c.args.line.now)
    (map_from_collect {E = ℕ} (Ok c.in_ok-collect.field-0) c.in_ok-collect.ensures.ran (YieldsList-from_filter _ (λ w. not (is_empty w)) (YieldsList-at c.filter-words.ensures.source (YieldsList-from_slice_split _ parts_words c.args.line.now c.split.ensures.rest c.split.ensures.done c.split.ensures.closure (λ x r q k. search (rules, tests)))) c.filter-words.ensures.closure (λ x r q k. search (rules, tests, empty_by_length))))
