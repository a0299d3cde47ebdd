use Rattle.std.proofs.Common.{◌≡◌, ◌+◌, ℕ, drop, arith, ap, sym, ◌∙◌, get_or, Option, None}
use Rattle.std.specs.Option.{option_and_then}
use Rattle.vm_script.specs.Words.{number_in}
use Rattle.vm_script.proofs.NumberLemmas.{digit_more, digits_more, digits_step, number_by_digits}
use Rattle.vm_script.proofs.number.number_of.Goals as goal

pub returns-in_err-number-clause-number : goal.returns-in_err-number-clause-number
returns-in_err-number-clause-number c =
    let step = digits_step c.args.limit c.loop-digit.number c.args.word.now c.loop-digit.digit-index 0 (omega arith) in
    let left : digits_more c.args.limit c.loop-digit.number (drop c.loop-digit.digit-index c.args.word.now) ≡ digits_more c.args.limit 0 c.args.word.now = c.loop-digit.invariant.number in
    let same : digits_more c.args.limit 0 c.args.word.now ≡ number_in c.args.most c.args.limit c.args.word.now = number_by_digits c.args.most c.args.limit c.args.word.now (omega arith) (omega arith) in
    let none : None ≡ digit_more c.args.limit c.loop-digit.number (get_or c.args.word.now c.loop-digit.digit-index 0) = c.in_err-number.ensures in
    let more : ℕ → Option ℕ = λ m. digits_more c.args.limit m (drop (c.loop-digit.digit-index + 1) c.args.word.now) in
    c.from_residual.ensures ∙ ap (λ o. option_and_then more o) none ∙ sym step ∙ left ∙ same
