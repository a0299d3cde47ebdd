use Rattle.std.proofs.Common.{map, ap}
use Rattle.std.proofs.lemmas.Result.{err_from_is_err_and}
use Rattle.vm_script.specs.Drafts.{ScriptDraft}
use Rattle.vm_script.specs.Grammar.{with_words}
use Rattle.vm_script.proofs.OwnLemmas.{own_ok, own_err}
use Rattle.vm_script.proofs.drafts.ScriptDraft.add_own.Goals as goal

pub returns-in_err-add_words : goal.returns-in_err-add_words
returns-in_err-add_words c =
    let failed = err_from_is_err_and c.from_residual.result c.from_residual.ensures.1 in
    rw (failed.1, failed.2) (own_err c.args.self.now (record { begun = c.self.inside.begun; model = c.self.inside.model; before = c.self.inside.before.items; process = c.add_words.new.process }) c.self.inside.process c.add_words.new.process c.args.number (λ p. with_words p c.args.number (map (λ w. w.now) c.args.words.now)) c.in_err-add_words.field-0.0 (ap (λ (d : ScriptDraft). d.process) c.self.view_is) c.in_err-add_words.ensures)

pub returns : goal.returns
returns c =
    own_ok c.args.self.now c.self.inside.begun c.self.inside.model c.self.inside.before.items c.self.inside.process c.add_words.new.process c.args.number (λ p. with_words p c.args.number (map (λ w. w.now) c.args.words.now)) c.self.view_is c.in_ok-add_words.ensures
