use Rattle.std.proofs.Common.{◌≡◌, rules, map, Some}
use Rattle.vm_report.specs.Reading.{last_equals}
use Rattle.vm_report.proofs.CodeLemmas.{within_at, answer_step}
use Rattle.vm_report.proofs.lines.add_answer.Goals as goal

pub returns : goal.returns
returns c =
    let is : last_equals (map (λ w. w.now) c.args.words.now) ≡ Some c.in_ok-at.at = search rules in
    let within = within_at c.last_equals.result _ c.in_ok-at.at c.last_equals.ensures.within (search rules) in
    rw (answer_step c.args.draft c.args.line.now c.args.words.now c.in_ok-at.at within is) c.add_reply.ensures
