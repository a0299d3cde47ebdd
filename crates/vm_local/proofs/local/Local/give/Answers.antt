use Rattle.std.proofs.Common.{◌≡◌, ◌∙◌, Some, None, Bool, true, false, not, Option, is_some, is_none, sym, ap, refl}
use Rattle.vm_local.specs.State.{LocalState}
use Rattle.vm_local.specs.Steps.{given}
use Rattle.vm_local.specs.Record.{RecordState, without_bytes}
use Rattle.vm_local.proofs.JoinedLemmas.{shown_by, still_shown, stepped_joined, nothing_given, gives}
use Rattle.vm_local.proofs.local.Local.give.Goals as goal

-- what a test for nothing tells
no_value : {A : Type 0} (o : Option A) (b : Bool) → is_some o ≡ not b → b ≡ true → o ≡ None
no_value None b told is = refl
no_value (Some x) b told is = cc

a_value : {A : Type 0} (o : Option A) (b : Bool) → is_some o ≡ not b → b ≡ false → is_none o ≡ false
a_value None b told is = cc
a_value (Some x) b told is = refl

pub returns-then-is_none-clause-ok : goal.returns-then-is_none-clause-ok
returns-then-is_none-clause-ok c =
    nothing_given c.self.inside.record.local c.args.self.now (shown_by _ c.args.self.now _ _ c.self.invariant c.self.view_is refl)
    (sym c.first_owed.ensures ∙ no_value c.first_owed.result c.is_none.result c.is_none.ensures c.if-is_none.true)

pub invariant_of-self-2 : goal.invariant_of-self-2
invariant_of-self-2 c =
    let s : LocalState = c.args.self.now in
    let was : c.self.inside.record.local ≡ without_bytes s = shown_by _ s _ _ c.self.invariant c.self.view_is refl in
    let same : c.reserve.new.self.local ≡ c.self.inside.record.local = ap (λ (r : RecordState). r.local) c.in_ok-reserve.ensures.ok in
    let next : (t : LocalState) × (given s ≡ Some t) × (t.memories ≡ s.memories) =
    gives _ s was (ap (λ o. is_none o) (sym c.first_owed.ensures) ∙ a_value c.first_owed.result c.is_none.result c.is_none.ensures c.if-is_none.false) in
    still_shown _ next.0 _ (c.after.ensures.moves s next.0 (same ∙ was) next.1) (ap (λ (x : LocalState). x.memories) c.self.view_is ∙ sym next.2)

pub returns-clause-ok : goal.returns-clause-ok
returns-clause-ok c =
    let s : LocalState = c.args.self.now in
    let was : c.self.inside.record.local ≡ without_bytes s = shown_by _ s _ _ c.self.invariant c.self.view_is refl in
    let same : c.reserve.new.self.local ≡ c.self.inside.record.local = ap (λ (r : RecordState). r.local) c.in_ok-reserve.ensures.ok in
    let next : (t : LocalState) × (given s ≡ Some t) × (t.memories ≡ s.memories) =
    gives _ s was (ap (λ o. is_none o) (sym c.first_owed.ensures) ∙ a_value c.first_owed.result c.is_none.result c.is_none.ensures c.if-is_none.false) in
    stepped_joined _ s next.0 _ _ next.1 (c.after.ensures.moves s next.0 (same ∙ was) next.1) (ap (λ (x : LocalState). x.memories) c.self.view_is ∙ sym next.2)
