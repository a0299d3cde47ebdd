use Rattle.std.proofs.Common.{sym, ap, ◌∙◌, slice_get}
use Rattle.vm_guest.specs.Process.{crossing}
use Rattle.vm_guest.proofs.GuestLemmas.{found_at, none_at}
use Rattle.vm_guest.proofs.guest.Guest.crossing.Goals as goal

pub returns-in_err-caller_at-clause-statement : goal.returns-in_err-caller_at-clause-statement
returns-in_err-caller_at-clause-statement c =
    c.from_residual.ensures ∙ sym (ap crossing (none_at _ c.args.self.now c.args.p c.self.view_is (c.in_err-caller_at.ensures ∙ ap (λ xs. slice_get xs c.args.p) c.deref.ensures.value)))

pub returns-clause-statement : goal.returns-clause-statement
returns-clause-statement c =
    c.crossing.ensures ∙ sym (ap crossing (found_at _ c.args.self.now c.args.p c.in_ok-caller_at.field-0.now c.self.view_is (c.in_ok-caller_at.ensures ∙ ap (λ xs. slice_get xs c.args.p) c.deref.ensures.value)))
