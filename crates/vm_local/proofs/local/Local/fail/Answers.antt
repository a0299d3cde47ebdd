use Rattle.std.proofs.Common.{◌≡◌, ◌∙◌, sym, ap, refl}
use Rattle.vm_local.specs.State.{LocalState}
use Rattle.vm_local.specs.Record.{RecordState, without_bytes}
use Rattle.vm_local.proofs.StepLemmas.{frame_failed}
use Rattle.vm_local.proofs.JoinedLemmas.{shown_by, still_shown, stepped_joined, not_failed, fails}
use Rattle.vm_local.proofs.local.Local.fail.Goals as goal

pub returns-then-not-can_finish-clause-ok : goal.returns-then-not-can_finish-clause-ok
returns-then-not-can_finish-clause-ok c =
    not_failed c.self.inside.record.local c.args.self.now (shown_by _ c.args.self.now _ _ c.self.invariant c.self.view_is refl)
    (sym c.can_finish.ensures ∙ c.if-not-can_finish.true)

pub invariant_of-self-2 : goal.invariant_of-self-2
invariant_of-self-2 c =
    let s : LocalState = c.args.self.now in
    let was : c.self.inside.record.local ≡ without_bytes s = shown_by _ s _ _ c.self.invariant c.self.view_is refl in
    let same : c.reserve.new.self.local ≡ c.self.inside.record.local = ap (λ (r : RecordState). r.local) c.in_ok-reserve.ensures.ok in
    still_shown _ (frame_failed s) _ (c.after.ensures.moves s (frame_failed s) (same ∙ was) (fails _ s was (sym c.can_finish.ensures ∙ c.if-not-can_finish.false)))
    (ap (λ (x : LocalState). x.memories) c.self.view_is)

pub returns-clause-ok : goal.returns-clause-ok
returns-clause-ok c =
    let s : LocalState = c.args.self.now in
    let was : c.self.inside.record.local ≡ without_bytes s = shown_by _ s _ _ c.self.invariant c.self.view_is refl in
    let same : c.reserve.new.self.local ≡ c.self.inside.record.local = ap (λ (r : RecordState). r.local) c.in_ok-reserve.ensures.ok in
    stepped_joined _ s (frame_failed s) _ _ (fails _ s was (sym c.can_finish.ensures ∙ c.if-not-can_finish.false))
    (c.after.ensures.moves s (frame_failed s) (same ∙ was) (fails _ s was (sym c.can_finish.ensures ∙ c.if-not-can_finish.false)))
    (ap (λ (x : LocalState). x.memories) c.self.view_is)
