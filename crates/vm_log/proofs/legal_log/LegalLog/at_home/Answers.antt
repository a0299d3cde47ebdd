use Rattle.std.proofs.Common.{◌≡◌, ◌∙◌, true, ap, subst, sym}
use Rattle.vm_local.specs.State.{LocalState}
use Rattle.vm_home.specs.Home.{home_of, is_kept, kept_only}
use Rattle.vm_home.proofs.DeviceLemmas.{kept_made}
use Rattle.vm_home.proofs.FactLemmas.{facts_of, reached_of}
use Rattle.vm_log.specs.LegalLog.{LogState, state_after, state_of}
use Rattle.vm_log.proofs.ViewLemmas.{there_kept}
use Rattle.vm_log.proofs.legal_log.LegalLog.at_home.Goals as goal

pub returns : goal.returns
returns c =
    let l : _ = c.self.inside in
    let s : LocalState = state_after l.model l.entries.items in
    let h : LogState = record { model = l.model; entries = l.entries.items; home = kept_only s l.home.places; away = l.away; lines = l.lines; begun = l.begun; unanswered = l.unanswered } in
    let kept : is_kept s c.args.number ≡ true = subst (λ (x : LogState). is_kept (state_of x) c.args.number ≡ true) (sym c.self.view_is) c.requires in
    c.get.ensures
    ∙ (sym (there_kept s l.home.places c.args.number (kept_made s (facts_of s (reached_of l.model l.entries.items c.self.invariant.0.legal)).sound c.args.number kept) kept)
    ∙ ap (λ (x : LogState). home_of x.home c.args.number) c.self.view_is)
