-- What was written, and what was read before, as an ending.
use Rattle.std.proofs.Common.{◌≡◌, List, ℕ, Some, Err, refl, sym, ap, ◌∙◌, subst}
use Rattle.vmedia.specs.declared.ending.Ending.TheVariants.{BadWords}
use Rattle.vm_words.specs.Command.{command_in, reads_script}
use Rattle.vmedia.specs.Top.{IsWritten, outside, sink_view, usage_line}
use Rattle.vmedia.proofs.EndsLemmas.{ends_served, ends_unread, ends_wanting, ends_written}
use Rattle.vmedia.proofs.top.serve_judged.Goals as goal

pub returns-in_default-clause-ends : goal.returns-in_default-clause-ends
returns-in_default-clause-ends g c = λ words asked.
    ends_written words
    (outside (g.S.Source.left c.args.src.now) (g.S.Source.faults c.args.src.now) (g.K.Sink.held c.args.sink.now) (g.K.Sink.faults c.args.sink.now) (g.E.Engine.faults c.args.engine.now))
    (outside (g.S.Source.left c.args.src.now) (g.S.Source.faults c.args.src.now) (g.K.Sink.held c.write.new.sink) (g.K.Sink.faults c.write.new.sink) (g.E.Engine.faults c.args.engine.now))
    usage_line BadWords c.write.result (sym asked ∙ c.in_default.is, refl) c.write.ensures refl (λ ran. cc) (λ bad. refl)

pub returns-in-Ok-clause-ends : goal.returns-in-Ok-clause-ends
returns-in-Ok-clause-ends g c = λ words asked.
    let P : List ℕ → Type 0 = λ text. IsWritten (sink_view (g.K.Sink.held c.args.sink.now) (g.K.Sink.faults c.args.sink.now))
    (sink_view (g.K.Sink.held c.write-in-Ok.new.sink) (g.K.Sink.faults c.write-in-Ok.new.sink)) text c.in-Ok.answer.ending c.write-in-Ok.result in
    let served : command_in words ≡ Some c.in-Some.command = sym asked ∙ c.in-Some.is in
    ends_served words
    (outside (g.S.Source.left c.args.src.now) (g.S.Source.faults c.args.src.now) (g.K.Sink.held c.args.sink.now) (g.K.Sink.faults c.args.sink.now) (g.E.Engine.faults c.args.engine.now))
    (outside (g.S.Source.left c.answer_to.new.src) (g.S.Source.faults c.answer_to.new.src) (g.K.Sink.held c.write-in-Ok.new.sink) (g.K.Sink.faults c.write-in-Ok.new.sink)
    (g.E.Engine.faults c.answer_to.new.engine))
    c.in-Some.command c.in-Ok.answer.text.items c.in-Ok.answer.ending c.write-in-Ok.result served c.in-Ok.ensures.ok
    (subst P c.deref.ensures.value c.write-in-Ok.ensures) (c.in-Ok.ensures.well (λ failed. cc)) (λ ran reads. c.in-Ok.ensures.read ran (ap reads_script (sym served) ∙ reads))

pub returns-in-Err-Source-clause-ends : goal.returns-in-Err-Source-clause-ends
returns-in-Err-Source-clause-ends g c = λ words asked.
    let failed = c.in-Err-Source.ensures.source (ap (λ e. Err e) c.in-Err-Source.field-0-is) in
    ends_unread words
    (outside (g.S.Source.left c.args.src.now) (g.S.Source.faults c.args.src.now) (g.K.Sink.held c.args.sink.now) (g.K.Sink.faults c.args.sink.now) (g.E.Engine.faults c.args.engine.now))
    (outside (g.S.Source.left c.answer_to.new.src) (g.S.Source.faults c.answer_to.new.src) (g.K.Sink.held c.args.sink.now) (g.K.Sink.faults c.args.sink.now) (g.E.Engine.faults c.answer_to.new.engine))
    c.in-Some.command (sym asked ∙ c.in-Some.is) failed.0 failed.1 refl

pub returns-in-Err-Memory-clause-ends : goal.returns-in-Err-Memory-clause-ends
returns-in-Err-Memory-clause-ends g c = λ words asked.
    let wanting = c.in-Err-Memory.field-0-is in
    ends_wanting words
    (outside (g.S.Source.left c.args.src.now) (g.S.Source.faults c.args.src.now) (g.K.Sink.held c.args.sink.now) (g.K.Sink.faults c.args.sink.now) (g.E.Engine.faults c.args.engine.now))
    (outside (g.S.Source.left c.answer_to.new.src) (g.S.Source.faults c.answer_to.new.src) (g.K.Sink.held c.args.sink.now) (g.K.Sink.faults c.args.sink.now) (g.E.Engine.faults c.answer_to.new.engine))
    c.in-Some.command (sym asked ∙ c.in-Some.is) (c.in-Err-Memory.ensures.well (λ is. cc)) refl

pub returns-in-Ok-clause-untouched : goal.returns-in-Ok-clause-untouched
returns-in-Ok-clause-untouched g c = λ none. c.in-Ok.ensures.untouched (ap reads_script (sym c.in-Some.is) ∙ none)

pub returns-in-Err-Source-clause-untouched : goal.returns-in-Err-Source-clause-untouched
returns-in-Err-Source-clause-untouched g c = λ none. c.in-Err-Source.ensures.untouched (ap reads_script (sym c.in-Some.is) ∙ none)

pub returns-in-Err-Memory-clause-untouched : goal.returns-in-Err-Memory-clause-untouched
returns-in-Err-Memory-clause-untouched g c = λ none. c.in-Err-Memory.ensures.untouched (ap reads_script (sym c.in-Some.is) ∙ none)
