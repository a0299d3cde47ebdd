use Rattle.std.proofs.Common.{sym, ap, ◌∙◌, slice_get}
use Rattle.vm_guest.specs.Guest.{GuestState}
use Rattle.vm_guest.specs.Process.{ProcessState, begun}
use Rattle.vm_guest.proofs.GuestLemmas.{found_order, none_at, few_begun}
use Rattle.vm_guest.proofs.guest.Guest.begun.Goals as goal

pub begun-requires : goal.begun-requires
begun-requires c = few_begun c.in-Some.caller.now (found_order c.self.invariant.0 _ c.args.p c.in-Some.caller.now c.self.invariant.1 (c.in-Some.ensures ∙ ap (λ xs. slice_get xs c.args.p) c.deref.ensures.value))

pub returns-in-None : goal.returns-in-None
returns-in-None c =
    let g : GuestState = record { model = c.self.inside.model; processes = c.self.inside.callers.items; pump = c.self.inside.held; seats = c.self.inside.seats.items } in
    sym (ap (λ (p : ProcessState). begun p) (none_at g c.args.self.now c.args.p c.self.view_is (c.in-None.ensures ∙ ap (λ xs. slice_get xs c.args.p) c.deref.ensures.value)))
