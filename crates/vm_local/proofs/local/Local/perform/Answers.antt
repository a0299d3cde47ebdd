use Rattle.std.proofs.Common.{◌≡◌, ◌∙◌, None, sym, subst, ap}
use Rattle.v4l_rules.specs.Refusals.{first_refusal}
use Rattle.vm_local.specs.State.{LocalState}
use Rattle.vm_local.specs.Calls.{row_of}
use Rattle.vm_local.specs.Record.{RecordState, without_bytes, with_memories}
use Rattle.vm_local.proofs.JoinedLemmas.{shown_by, joined, still_shown, passes_shown, goes_shown, call_shown}
use Rattle.vm_local.proofs.local.Local.perform.Goals as goal

pub change-requires : goal.change-requires
change-requires c =
    let P : LocalState → Type 0 = λ x. first_refusal (row_of x c.args.line c.args.addr c.args.call.now).refusals ≡ None in
    let same : c.reserve.new.self.local ≡ c.self.inside.record.local = ap (λ (r : RecordState). r.local) c.in_ok-reserve.ensures.ok in
    let view : with_memories c.reserve.new.self.local c.self.inside.memories.items ≡ c.args.self.now =
    ap (λ (x : LocalState). with_memories x c.self.inside.memories.items) same ∙ c.self.view_is in
    (c.args.line, c.args.addr, subst P (sym view) c.requires.passes)

pub perform-requires-clause-passes : goal.perform-requires-clause-passes
perform-requires-clause-passes c =
    passes_shown _ c.args.self.now c.args.line c.args.addr c.args.call.now
    (shown_by _ _ _ _ c.self.invariant c.self.view_is (ap (λ (r : RecordState). r.local) c.in_ok-reserve.ensures.ok)) c.requires.passes

pub perform-requires-clause-goes : goal.perform-requires-clause-goes
perform-requires-clause-goes c =
    goes_shown _ c.args.self.now c.args.line c.args.addr c.args.call.now
    (shown_by _ _ _ _ c.self.invariant c.self.view_is (ap (λ (r : RecordState). r.local) c.in_ok-reserve.ensures.ok)) c.requires.goes

pub invariant_of-self-2 : goal.invariant_of-self-2
invariant_of-self-2 c =
    let s : LocalState = c.args.self.now in
    let t : LocalState = (row_of s c.args.line c.args.addr c.args.call.now).next in
    let same : c.reserve.new.self.local ≡ c.self.inside.record.local = ap (λ (r : RecordState). r.local) c.in_ok-reserve.ensures.ok in
    let view : with_memories c.reserve.new.self.local c.self.inside.memories.items ≡ s =
    ap (λ (x : LocalState). with_memories x c.self.inside.memories.items) same ∙ c.self.view_is in
    let shown : c.perform.new.self.local ≡ without_bytes t =
    call_shown _ s _ c.args.line c.args.addr c.args.call.now (shown_by _ s _ _ c.self.invariant c.self.view_is same) c.requires.passes c.perform.ensures.next in
    still_shown _ t _ shown (c.in_ok-change.ensures.ok c.args.line c.args.addr ∙ ap (λ (x : LocalState). (row_of x c.args.line c.args.addr c.args.call.now).next.memories) view)

pub returns-clause-ok : goal.returns-clause-ok
returns-clause-ok c =
    let s : LocalState = c.args.self.now in
    let t : LocalState = (row_of s c.args.line c.args.addr c.args.call.now).next in
    let same : c.reserve.new.self.local ≡ c.self.inside.record.local = ap (λ (r : RecordState). r.local) c.in_ok-reserve.ensures.ok in
    let view : with_memories c.reserve.new.self.local c.self.inside.memories.items ≡ s =
    ap (λ (x : LocalState). with_memories x c.self.inside.memories.items) same ∙ c.self.view_is in
    let shown : c.perform.new.self.local ≡ without_bytes t =
    call_shown _ s _ c.args.line c.args.addr c.args.call.now (shown_by _ s _ _ c.self.invariant c.self.view_is same) c.requires.passes c.perform.ensures.next in
    joined _ t _ shown (c.in_ok-change.ensures.ok c.args.line c.args.addr ∙ ap (λ (x : LocalState). (row_of x c.args.line c.args.addr c.args.call.now).next.memories) view)
