use Rattle.std.proofs.Common.{subst}
use Rattle.vm_local.specs.State.{LocalState}
use Rattle.vm_home.specs.Home.{kept_only}
use Rattle.vm_home.proofs.KeptLemmas.{kept_home}
use Rattle.vm_log.specs.LegalLog.{LogState, IsSound, state_after, number_away}
use Rattle.vm_log.proofs.legal_log.LegalLog.log.Goals as goal

pub returns-clause-sound : goal.returns-clause-sound
returns-clause-sound c =
    let l : _ = c.self.inside in
    let s : LocalState = state_after l.model l.entries.items in
    let h : LogState = record { model = l.model; entries = l.entries.items; home = kept_only s l.home.places; away = l.away; lines = l.lines; begun = l.begun; unanswered = l.unanswered } in
    let sound : IsSound h = record {
      legal = c.self.invariant.0.legal;
      in_place = kept_home s (number_away s l.away) l.home.places c.self.invariant.0.in_place;
      out = c.self.invariant.0.out;
      within = c.self.invariant.1;
    } in
    subst (λ (x : LogState). IsSound x) c.self.view_is sound
