use Rattle.std.proofs.Common.{is_some, None, sym, ap, ◌∙◌, slice_get, slice_index_or}
use Rattle.vm_guest.specs.Orderly.{is_raw_answered}
use Rattle.vm_guest.specs.Process.{ProcessState}
use Rattle.vm_guest.proofs.GuestLemmas.{found_at, found_order, none_at, none_past, raw_is_answered}
use Rattle.vm_guest.proofs.guest.Guest.raw_answer.Goals as goal

pub returns-in_err-caller_at-clause-answer : goal.returns-in_err-caller_at-clause-answer
returns-in_err-caller_at-clause-answer c =
    c.from_residual.ensures
    ∙ sym (ap (λ (q : ProcessState). slice_index_or q.raws c.args.k None) (none_at _ c.args.self.now c.args.p c.self.view_is (c.in_err-caller_at.ensures ∙ ap (λ xs. slice_get xs c.args.p) c.deref.ensures.value)))

pub returns-in_err-caller_at-clause-none : goal.returns-in_err-caller_at-clause-none
returns-in_err-caller_at-clause-none c =
    ap is_some c.from_residual.ensures
    ∙ sym (ap (λ (q : ProcessState). is_raw_answered q c.args.k) (none_at _ c.args.self.now c.args.p c.self.view_is (c.in_err-caller_at.ensures ∙ ap (λ xs. slice_get xs c.args.p) c.deref.ensures.value)) ∙ none_past c.args.k 0)

pub returns-clause-answer : goal.returns-clause-answer
returns-clause-answer c =
    c.raw_in.ensures ∙ ap (λ xs. slice_index_or xs c.args.k None) c.raws.ensures
    ∙ sym (ap (λ (q : ProcessState). slice_index_or q.raws c.args.k None) (found_at _ c.args.self.now c.args.p c.in_ok-caller_at.field-0.now c.self.view_is (c.in_ok-caller_at.ensures ∙ ap (λ xs. slice_get xs c.args.p) c.deref.ensures.value)))

pub returns-clause-none : goal.returns-clause-none
returns-clause-none c =
    let found = c.in_ok-caller_at.ensures ∙ ap (λ xs. slice_get xs c.args.p) c.deref.ensures.value in
    ap is_some (c.raw_in.ensures ∙ ap (λ xs. slice_index_or xs c.args.k None) c.raws.ensures)
    ∙ raw_is_answered c.in_ok-caller_at.field-0.now c.args.k (found_order c.self.invariant.0 _ c.args.p c.in_ok-caller_at.field-0.now c.self.invariant.1 found)
    ∙ sym (ap (λ (q : ProcessState). is_raw_answered q c.args.k) (found_at _ c.args.self.now c.args.p c.in_ok-caller_at.field-0.now c.self.view_is found))
