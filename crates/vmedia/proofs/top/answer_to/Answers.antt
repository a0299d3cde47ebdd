-- A command on a script is answered by what the source gives.
use Rattle.std.proofs.Common.{◌≡◌, ◌∙◌, true, false, Some, IfOk, ap, subst, sym}
use Rattle.std.proofs.lemmas.Result.{IfOk-weaker}
use Rattle.vm_io.specs.Bytes.{NothingLeft}
use Rattle.vm_words.specs.declared.command.Command.{Command}
use Rattle.vm_words.specs.Command.{reads_script}
use Rattle.vmedia.specs.declared.ending.Ending.TheVariants.{Ran}
use Rattle.vmedia.specs.Run.{failures}
use Rattle.vmedia.specs.Top.{Answers}
use Rattle.vmedia.proofs.top.answer_to.Goals as goal

pub returns-in-OnScript-clause-ok : goal.returns-in-OnScript-clause-ok
returns-in-OnScript-clause-ok g c =
    let fails = failures (g.E.Engine.faults c.args.engine.now) (g.E.Engine.faults c.answer_to_source.new.engine) in
    let P : Command → Type 0 = λ d. IfOk c.answer_to_source.result (λ a. Answers d fails (g.S.Source.left c.args.src.now) a.ending a.text.items) in
    subst P (sym c.in-OnScript.is) c.answer_to_source.ensures.ok

pub returns-in-OnScript-clause-read : goal.returns-in-OnScript-clause-read
returns-in-OnScript-clause-read g c =
    let left = g.S.Source.left c.answer_to_source.new.src in
    IfOk-weaker c.answer_to_source.result (λ a. a.ending ≡ Ran → NothingLeft left) (λ a. a.ending ≡ Ran → reads_script (Some c.args.command) ≡ true → NothingLeft left)
    (λ a read ran reads. read ran) c.answer_to_source.ensures.read

pub returns-in-OnScript-clause-source : goal.returns-in-OnScript-clause-source
returns-in-OnScript-clause-source g c = λ failed.
    (ap (λ (d : Command). reads_script (Some d)) c.in-OnScript.is, c.answer_to_source.ensures.source failed)

pub returns-in-OnScript-clause-untouched : goal.returns-in-OnScript-clause-untouched
returns-in-OnScript-clause-untouched g c = λ none.
    let both : true ≡ false = sym (ap (λ (d : Command). reads_script (Some d)) c.in-OnScript.is) ∙ none in absurd (cc)
