use Rattle.std.proofs.Common.{◌≡◌, ◌∙◌, None, Some, get_or, sym}
use Rattle.vm_device.proofs.KeptLemmas.{closed, closed_kept, none_at, set_none}
use Rattle.vm_device.proofs.sessions.Sessions.remove.Goals as goal

pub returns-in_err-key-clause-sessions : goal.returns-in_err-key-clause-sessions
returns-in_err-key-clause-sessions c =
    let none : get_or c.self.inside.keys.items c.args.id None ≡ None = rw (← c.deref.ensures.value) (sym c.key_at.ensures ∙ c.in_err-key.was) in
    sym (set_none c.args.self.now c.args.id (rw (← c.self.view_is) (none_at c.self.inside.slab c.self.inside.keys.items c.args.id none)))

pub invariant_of-self : goal.invariant_of-self
invariant_of-self c =
    let stands : get_or c.self.inside.keys.items c.args.id None ≡ Some c.in_ok-key.key = rw (← c.deref.ensures.value) (sym c.key_at.ensures ∙ c.in_ok-key.was) in
    closed_kept c.self.inside.slab c.try_remove.new.self c.self.inside.keys.items c.in_ok-key.key c.args.id c.try_remove.result c.self.invariant stands
    c.try_remove.ensures.updates c.try_remove.ensures.value c.try_remove.ensures.len

pub returns-clause-sessions : goal.returns-clause-sessions
returns-clause-sessions c =
    let stands : get_or c.self.inside.keys.items c.args.id None ≡ Some c.in_ok-key.key = rw (← c.deref.ensures.value) (sym c.key_at.ensures ∙ c.in_ok-key.was) in
    rw (← c.self.view_is)
    (closed c.self.inside.slab c.try_remove.new.self c.self.inside.keys.items c.in_ok-key.key c.args.id c.self.invariant stands c.try_remove.ensures.updates)
