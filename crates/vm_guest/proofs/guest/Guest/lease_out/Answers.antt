use Rattle.std.proofs.Common.{sym, ap, ◌∙◌, slice_get}
use Rattle.std.specs.Option.{option_map}
use Rattle.vm_guest.specs.Process.{lease_out}
use Rattle.vm_guest.proofs.GuestLemmas.{found_at, found_order, none_at}
use Rattle.vm_guest.proofs.guest.Guest.lease_out.Goals as goal

pub returns-in_err-caller_at : goal.returns-in_err-caller_at
returns-in_err-caller_at c =
    ap (option_map (λ entry. entry.now)) c.from_residual.ensures
    ∙ sym (ap lease_out (none_at _ c.args.self.now c.args.p c.self.view_is (c.in_err-caller_at.ensures ∙ ap (λ xs. slice_get xs c.args.p) c.deref.ensures.value)))

pub lease_out-requires : goal.lease_out-requires
lease_out-requires c =
    found_order c.self.invariant.0 _ c.args.p c.in_ok-caller_at.field-0.now c.self.invariant.1 (c.in_ok-caller_at.ensures ∙ ap (λ xs. slice_get xs c.args.p) c.deref.ensures.value)

pub returns : goal.returns
returns c =
    c.lease_out.ensures
    ∙ sym (ap lease_out (found_at _ c.args.self.now c.args.p c.in_ok-caller_at.field-0.now c.self.view_is (c.in_ok-caller_at.ensures ∙ ap (λ xs. slice_get xs c.args.p) c.deref.ensures.value)))
