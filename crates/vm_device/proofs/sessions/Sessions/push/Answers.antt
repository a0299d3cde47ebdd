use Rattle.std.proofs.Common.{◌≡◌, ◌++◌, [], ◌∷◌, Some, ap, rules}
use Rattle.vm_device.proofs.KeptLemmas.{opened, opened_kept, same_kept}
use Rattle.vm_device.proofs.sessions.Sessions.push.Goals as goal

-- the keys after the push
keys_are : (c : goal.After-push_reserved) → c.push_reserved.new.self.items ≡ c.self.inside.keys.items ++ Some c.in_ok-key.key ∷ []
keys_are c = search rules

pub invariant_of-self-2 : goal.invariant_of-self-2
invariant_of-self-2 c =
    rw (keys_are c)
    (opened_kept c.self.inside.slab c.insert.new.self c.self.inside.keys.items c.in_ok-key.key c.args.session c.self.invariant
    c.in_ok-key.ensures.was_vacant c.in_ok-key.ensures.updates c.in_ok-key.ensures.len)

pub returns-clause-ok : goal.returns-clause-ok
returns-clause-ok c =
    rw (← c.self.view_is, keys_are c)
    (opened c.self.inside.slab c.insert.new.self c.self.inside.keys.items c.in_ok-key.key c.args.session c.self.invariant
    c.in_ok-key.ensures.was_vacant c.in_ok-key.ensures.updates)

pub invariant_of-self-in_err-key : goal.invariant_of-self-in_err-key
invariant_of-self-in_err-key c =
    let same : c.insert.new.self.slots ≡ c.self.inside.slab.slots = ap (λ slab. slab.slots) c.in_err-key.ensures.err in
    let keys : c.reserve.new.self.items ≡ c.self.inside.keys.items = search rules in
    rw keys (same_kept c.self.inside.slab c.insert.new.self c.self.inside.keys.items same c.self.invariant)
