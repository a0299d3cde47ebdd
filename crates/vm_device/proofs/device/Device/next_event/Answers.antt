use Rattle.std.proofs.Common.{◌≡◌, ◌∙◌, ◌∷◌, Some, None, get_or, rules, sym, ap}
use Rattle.std.specs.Option.{option_copied_mut}
use Rattle.vm_device.proofs.CloseLemmas.{send_keeps, count_after, marks_after}
use Rattle.vm_device.proofs.StepLemmas.{within}
use Rattle.vm_device.proofs.device.Device.next_event.Goals as goal

pub invariant_of-self-2 : goal.invariant_of-self-2
invariant_of-self-2 c =
    let s = c.unwrap.result.now in
    let t = c.next_event-event.new.self in
    let id = c.in_ok-session.session in
    let ss = c.self.inside.sessions in
    let first : c.self.inside.unsent.items ≡ id ∷ c.pop_front.new.self.items = search rules in
    let live : get_or ss id None ≡ Some s = sym c.get_mut.ensures.value ∙ ap option_copied_mut c.unwrap.ensures in (
      send_keeps _ id c.pop_front.new.self.items s t c.self.invariant.0 first live c.next_event-event.ensures.session,
      c.self.invariant.1,
      rw (count_after ss id s t live, c.pop_front.ensures.capacity) c.self.invariant.2,
      ap (λ m. m.flags) c.mark.ensures ∙ marks_after ss c.self.inside.ready.flags id (Some t) (within ss id s live) c.self.invariant.3,
    )
