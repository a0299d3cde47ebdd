use Rattle.std.proofs.Common.{sym, ap, ◌∙◌}
use Rattle.vm_guest.specs.Process.{issuing}
use Rattle.vm_guest.proofs.GuestLemmas.{found_process, no_process_in}
use Rattle.vm_guest.proofs.guest.issuing_at.Goals as goal

pub returns-in_err-caller_at : goal.returns-in_err-caller_at
returns-in_err-caller_at c = c.from_residual.ensures ∙ sym (ap issuing (no_process_in c.args.callers.now c.args.p c.in_err-caller_at.ensures))

pub returns : goal.returns
returns c = c.issuing.ensures ∙ sym (ap issuing (found_process c.args.callers.now c.args.p c.in_ok-caller_at.field-0.now c.in_ok-caller_at.ensures))
