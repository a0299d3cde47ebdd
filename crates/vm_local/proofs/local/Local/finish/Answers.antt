use Rattle.std.proofs.Common.{◌≡◌, ◌∙◌, Some, length, sym, ap, refl, rules}
use Rattle.v4l_format.specs.Fmt.{picture_size}
use Rattle.vm_local.specs.State.{LocalState}
use Rattle.vm_local.specs.Steps.{finished, target, head_buffer, number_of}
use Rattle.vm_local.specs.Record.{RecordState, without_bytes}
use Rattle.vm_local.proofs.StepLemmas.{frame_made}
use Rattle.vm_local.proofs.JoinedLemmas.{shown_by, still_shown, stepped_joined, not_finished, finishes, fronted_is}
use Rattle.vm_local.proofs.local.Local.finish.Goals as goal

pub returns-then-not-can_finish-clause-ok : goal.returns-then-not-can_finish-clause-ok
returns-then-not-can_finish-clause-ok c =
    not_finished c.self.inside.record.local c.args.self.now (shown_by _ c.args.self.now _ _ c.self.invariant c.self.view_is refl)
    (sym c.can_finish.ensures ∙ c.if-not-can_finish.true)

pub invariant_of-self-2 : goal.invariant_of-self-2
invariant_of-self-2 c =
    let s : LocalState = c.args.self.now in
    let was : c.self.inside.record.local ≡ without_bytes s = shown_by _ s _ _ c.self.invariant c.self.view_is refl in
    let same : c.reserve.new.self.local ≡ c.self.inside.record.local = ap (λ (r : RecordState). r.local) c.in_ok-reserve.ensures.ok in
    let ends : finished s ≡ Some (frame_made s) = finishes _ s was (sym c.can_finish.ensures ∙ c.if-not-can_finish.false) in
    let long : length c.in_ok-picture.picture.items ≡ picture_size (target s).format = search (rules, c.in_ok-picture.ensures.size) in
    let front : c.set_front_at.new.memories.items ≡ (frame_made s).memories =
    fronted_is s _ _ c.in_ok-picture.picture.items _ (ap (λ (x : LocalState). x.memories) c.self.view_is) c.in_ok-picture.ensures.bytes long
    (c.target_memory-memory.ensures ∙ ap (λ (x : LocalState). number_of (head_buffer (target x))) was) c.set_front_at.ensures in
    still_shown _ (frame_made s) _ (c.after.ensures.moves s (frame_made s) (same ∙ was) ends) front

pub returns-clause-ok : goal.returns-clause-ok
returns-clause-ok c =
    let s : LocalState = c.args.self.now in
    let was : c.self.inside.record.local ≡ without_bytes s = shown_by _ s _ _ c.self.invariant c.self.view_is refl in
    let same : c.reserve.new.self.local ≡ c.self.inside.record.local = ap (λ (r : RecordState). r.local) c.in_ok-reserve.ensures.ok in
    let ends : finished s ≡ Some (frame_made s) = finishes _ s was (sym c.can_finish.ensures ∙ c.if-not-can_finish.false) in
    let long : length c.in_ok-picture.picture.items ≡ picture_size (target s).format = search (rules, c.in_ok-picture.ensures.size) in
    let front : c.set_front_at.new.memories.items ≡ (frame_made s).memories =
    fronted_is s _ _ c.in_ok-picture.picture.items _ (ap (λ (x : LocalState). x.memories) c.self.view_is) c.in_ok-picture.ensures.bytes long
    (c.target_memory-memory.ensures ∙ ap (λ (x : LocalState). number_of (head_buffer (target x))) was) c.set_front_at.ensures in
    stepped_joined _ s (frame_made s) _ _ ends (c.after.ensures.moves s (frame_made s) (same ∙ was) ends) front
