use Rattle.vm_guest.proofs.CallerLeaseLemmas.{may_lease, kept_out, kept_refused}
use Rattle.vm_guest.proofs.caller.Caller.lease.Goals as goal

pub lease_call-leased-requires-clause-can : goal.lease_call-leased-requires-clause-can
lease_call-leased-requires-clause-can c = may_lease _ c.args.self.now c.args.asked.now c.self.view_is c.requires.orderly c.requires.leasing

pub invariant_of-self : goal.invariant_of-self
invariant_of-self c =
    kept_out _ c.args.self.now c.args.asked.now c.lease_call-leased.new.handles.items c.self.inside.chain c.self.inside.tables.items c.self.view_is c.requires.leasing c.self.invariant

pub invariant_of-self-in-Answered : goal.invariant_of-self-in-Answered
invariant_of-self-in-Answered c =
    kept_refused _ c.args.self.now c.args.asked.now c.lease_call-leased.new.handles.items c.self.inside.chain c.self.inside.tables.items c.self.view_is c.requires.leasing c.self.invariant
