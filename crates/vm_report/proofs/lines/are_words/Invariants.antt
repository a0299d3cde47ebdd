use Rattle.std.proofs.Common.{◌≡◌, drop, map}
use Rattle.std.specs.List.{list_all}
use Rattle.vm_report.specs.Reading.{is_word}
use Rattle.vm_report.proofs.lines.are_words.Given as goal

abbrev pub invariant-loop-word : goal.invariant-loop-word
invariant-loop-word l = list_all is_word (map (λ w. w.now) (drop l.word-index l.words)) ≡ list_all is_word (map (λ w. w.now) l.words)
