use Rattle.std.proofs.Common.{◌∙◌, ◌<◌, ◌^◌, sym, arith}
use Rattle.std.proofs.lemmas.Grind.{common_steps}
use Rattle.vm_handle.proofs.AnswerLemmas.{here_keeps, wakes}
use Rattle.vm_handle.proofs.deliver.awake_line.Goals as goal

pub way_from-requires : goal.way_from-requires
way_from-requires c = c.requires.range

pub returns-in-AnsweredHere-clause-awoken : goal.returns-in-AnsweredHere-clause-awoken
returns-in-AnsweredHere-clause-awoken c =
    wakes c.args.log.now c.answer_here.new.log c.args.session c.args.line c.args.call.now c.requires (sym c.way_from.ensures.way ∙ c.in-AnsweredHere.is) c.answer_here.ensures

pub returns-in-AnsweredHere-clause-keeps : goal.returns-in-AnsweredHere-clause-keeps
returns-in-AnsweredHere-clause-keeps c =
    let short : c.args.line < 2 ^ 32 = grind (arith, common_steps) in
    here_keeps c.args.log.now c.answer_here.new.log c.args.session c.args.line c.args.call.now (record { legal = c.requires.legal; range = c.requires.range }) c.requires.opened short
    (sym c.way_from.ensures.way ∙ c.in-AnsweredHere.is) c.answer_here.ensures
