use Rattle.std.proofs.Common.{◌∙◌, sym, arith}
use Rattle.vm_device.specs.Sessions.{sessions_at}
use Rattle.vm_device.proofs.KeptLemmas.{live_count, count_there-le}
use Rattle.vm_device.proofs.sessions.Sessions.live.Goals as goal

pub returns-clause-live : goal.returns-clause-live
returns-clause-live c = rw (← c.self.view_is) (c.len.ensures ∙ sym (live_count c.self.inside.slab c.self.inside.keys.items c.self.invariant))

pub returns-clause-opened : goal.returns-clause-opened
returns-clause-opened c =
    rw (← c.self.view_is)
    (omega (arith, c.len.ensures, live_count c.self.inside.slab c.self.inside.keys.items c.self.invariant, count_there-le (sessions_at c.self.inside.slab c.self.inside.keys.items)))
