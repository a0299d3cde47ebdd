use Rattle.std.proofs.Common.{◌∙◌, ◌<◌, ◌≤◌, ◌^◌, IfSome, length, sym, ap, subst, arith}
use Rattle.std.proofs.lemmas.Grind.{common_steps}
use Rattle.vm_home.specs.Moves.{goes_along}
use Rattle.vm_log.specs.LegalLog.{LogState, state_of}
use Rattle.vm_log.specs.Answers.{with_line, Sends}
use Rattle.vm_exchange.specs.Entries.{crossing_bytes}
use Rattle.vm_handle.specs.declared.stage.Stage.{Stage}
use Rattle.vm_handle.specs.Handle.{HandleState, id_of, crossing_from, Keeps}
use Rattle.vm_handle.specs.Answers.{IsCrossing, AnswersHere}
use Rattle.vm_handle.proofs.AnswerLemmas.{here_keeps}
use Rattle.vm_handle.proofs.StartLemmas.{Rests, rests, crossing_size, is_crossing, sent_keeps, goes_over}
use Rattle.vm_handle.proofs.handle.Handle.start.Goals as goal

pub encode_crossing-len-requires : goal.encode_crossing-len-requires
encode_crossing-len-requires c =
    let fits : length (crossing_bytes c.in-Crosses.crossing) ≤ 4096 =
    crossing_size (id_of c.self.inside.session) (state_of c.self.inside.log) c.args.call.now c.in-Crosses.crossing c.way_from-way.ensures.short c.self.invariant.range
    (sym c.way_from-way.ensures.way ∙ c.in-Crosses.is) in
    omega (arith, fits, c.requires.out)

pub overflow_cast-len : goal.overflow_cast-len
overflow_cast-len c =
    let fits : length (crossing_bytes c.in-Crosses.crossing) ≤ 4096 =
    crossing_size (id_of c.self.inside.session) (state_of c.self.inside.log) c.args.call.now c.in-Crosses.crossing c.way_from-way.ensures.short c.self.invariant.range
    (sym c.way_from-way.ensures.way ∙ c.in-Crosses.is) in
    omega (arith, fits, c.encode_crossing-len.ensures.count)

pub invariant_of-self : goal.invariant_of-self
invariant_of-self c =
    let sends : Sends (goes_along (state_of c.self.inside.log) c.args.call.now) (with_line c.self.inside.log) c.args.call.now c.send_along.ensures.sends.0 c.send_along.new.log =
    subst (λ (l : LogState). Sends (goes_along (state_of l) c.args.call.now) l c.args.call.now c.send_along.ensures.sends.0 c.send_along.new.log) c.begin_line.ensures c.send_along.ensures.sends.1 in
    sent_keeps c.self.inside.log c.send_along.new.log c.self.inside.session c.self.inside.stage c.args.line c.args.call.now c.in-Crosses.crossing c.send_along.ensures.sends.0 c.self.invariant
    (ap (λ (h : HandleState). h.log.unanswered) c.self.view_is ∙ c.requires.answered) (sym c.way_from-way.ensures.way ∙ c.in-Crosses.is) sends

pub invariant_of-self-in-AnsweredHere : goal.invariant_of-self-in-AnsweredHere
invariant_of-self-in-AnsweredHere c =
    let short : c.args.line < 2 ^ 32 = grind (arith, common_steps) in
    let rest : Rests c.self.inside.log.away c.self.inside.stage =
    rests (id_of c.self.inside.session) (state_of c.self.inside.log) c.self.inside.log.away c.self.inside.log.unanswered c.self.inside.stage
    (ap (λ (h : HandleState). h.log.unanswered) c.self.view_is ∙ c.requires.answered) c.self.invariant.fits in
    subst (λ (x : Stage). Keeps c.answer_here.new.log c.self.inside.session x) (sym rest.0)
    (here_keeps (with_line c.self.inside.log) c.answer_here.new.log c.self.inside.session c.args.line c.args.call.now
    (record { legal = c.self.invariant.legal; range = c.self.invariant.range }) c.self.invariant.opened short (sym c.way_from-way.ensures.way ∙ c.in-AnsweredHere.is)
    (subst (λ (l : LogState). AnswersHere l c.args.line c.args.call.now c.answer_here.new.log) c.begin_line.ensures c.answer_here.ensures))

pub returns-in-Crosses-clause-starts : goal.returns-in-Crosses-clause-starts
returns-in-Crosses-clause-starts c =
    let h : HandleState = record { log = c.self.inside.log; session = c.self.inside.session; stage = c.self.inside.stage } in
    let sends : Sends (goes_along (state_of c.self.inside.log) c.args.call.now) (with_line c.self.inside.log) c.args.call.now c.send_along.ensures.sends.0 c.send_along.new.log =
    subst (λ (l : LogState). Sends (goes_along (state_of l) c.args.call.now) l c.args.call.now c.send_along.ensures.sends.0 c.send_along.new.log) c.begin_line.ensures c.send_along.ensures.sends.1 in
    goes_over h c.args.self.now c.args.line c.args.call.now c.in-Crosses.crossing c.args.out.now c.encode_crossing-len.new.out c.args.held.now.items c.send_along.new.held.items _
    c.send_along.ensures.sends.0 c.send_along.new.log c.self.view_is (sym c.way_from-way.ensures.way ∙ c.in-Crosses.is) sends c.encode_crossing-len.ensures.count c.encode_crossing-len.ensures.bytes c.send_along.ensures.sends.2

pub returns-in-Crosses-clause-fits : goal.returns-in-Crosses-clause-fits
returns-in-Crosses-clause-fits c =
    subst (λ (h : HandleState). IfSome (crossing_from h c.args.call.now) (λ x. IsCrossing x)) c.self.view_is
    (is_crossing (id_of c.self.inside.session) (state_of c.self.inside.log) c.args.call.now c.way_from-way.ensures.short c.self.invariant.range)
