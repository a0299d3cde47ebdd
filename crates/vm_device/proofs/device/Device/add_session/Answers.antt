use Rattle.std.proofs.Common.{◌≡◌, ◌∙◌, ◌++◌, ◌∷◌, ◌*◌, ◌+◌, ◌<◌, ◌≤◌, [], Some, false, length, rules}
use Rattle.std.specs.VecDeque.{deque_capacity}
use Rattle.vm_session.specs.State.{opening_session}
use Rattle.vm_device.specs.Sessions.{count_there}
use Rattle.vm_device.proofs.CloseLemmas.{open_keeps, count_opened, marks_opened}
use Rattle.vm_device.proofs.device.Device.add_session.Goals as goal

pub invariant_of-self-2 : goal.invariant_of-self-2
invariant_of-self-2 c =
    let ss = c.self.inside.sessions in
    let s = c.in_ok-session.session in
    let is : s ≡ opening_session c.self.inside.model (length ss) = search rules in
    let room : length ss < c.self.inside.opens = search rules in
    let next : c.push.new.self ≡ ss ++ Some s ∷ [] = search rules in
    let taken : 64 * (count_there ss + 1) ≤ deque_capacity c.reserve_events.new.unsent = search rules in
    let flags : c.push-2.new.self.flags ≡ c.self.inside.ready.flags ++ false ∷ [] = search rules in (
      open_keeps _ s c.push.new.self c.reserve_events.new.unsent.items c.self.invariant.0 room is next c.reserve_events.ensures.events,
      c.self.invariant.1,
      rw (next, count_opened ss s) taken,
      flags ∙ rw next (marks_opened ss c.self.inside.ready.flags c.self.inside.model (length ss) s c.self.invariant.3 is),
    )
