use Rattle.std.proofs.Common.{◌≡◌, ◌∙◌, Some, None, false, get_or, set, arith, sym, ap}
use Rattle.std.proofs.lemmas.List.{map-set}
use Rattle.vm_device.specs.Device.{session_of, is_ready}
use Rattle.vm_device.specs.Perform.{is_busy}
use Rattle.vm_device.proofs.CloseLemmas.{close_keeps, count_closed}
use Rattle.vm_device.proofs.device.Device.close.Goals as goal

pub invariant_of-self : goal.invariant_of-self
invariant_of-self c =
    let ss = c.self.inside.sessions in
    let live : get_or ss c.args.session None ≡ Some c.in-Some.live = sym c.remove.ensures.value ∙ c.in-Some.is in (
      close_keeps _ c.args.session c.in-Some.live c.remove.new.self c.self.invariant.0 live (ap (λ d. is_busy (session_of d c.args.session)) c.self.view_is ∙ c.requires.waits) c.remove.ensures.sessions,
      c.self.invariant.1,
      rw c.remove.ensures.sessions (let less = count_closed ss c.args.session c.in-Some.live live in omega (arith, less, c.self.invariant.2)),
      ap (λ m. m.flags) c.set.ensures ∙ rw c.remove.ensures.sessions (ap (λ fs. set fs c.args.session false) c.self.invariant.3 ∙ sym (map-set is_ready ss c.args.session None)),
    )
