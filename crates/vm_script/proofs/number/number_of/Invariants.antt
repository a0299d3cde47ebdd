use Rattle.std.proofs.Common.{◌≡◌, ◌≤◌, drop}
use Rattle.vm_script.proofs.NumberLemmas.{digits_more}
use Rattle.vm_script.proofs.number.number_of.Given as goal

-- the number so far, with the digits that are left behind it, is the word's, and it is at most the limit
abbrev pub invariant-loop-digit : goal.invariant-loop-digit
invariant-loop-digit l = record {
  number : digits_more l.limit l.number (drop l.digit-index l.word) ≡ digits_more l.limit 0 l.word;
  within : l.number ≤ l.limit;
}
