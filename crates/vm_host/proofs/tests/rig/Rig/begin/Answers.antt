use Rattle.std.proofs.Common.{rules, arith, ◌≡◌, ◌≤◌, ◌+◌, ◌<◌, ℕ, true, length, List, refl, sym, subst, ap, ◌∙◌}
use Rattle.vm_host.proofs.DoneLemmas.{begins_done}
use Rattle.vm_host.proofs.OneLemmas.{begins_out}
use Rattle.vm_host.proofs.tests.rig.Rig.begin.Goals as goal

pub invariant_of-self : goal.invariant_of-self
invariant_of-self c = (
  begins_done c.self.inside.steps 64 c.args.session c.self.inside.host c.begin-job.new.self c.begin-job.result c.begin-job.ensures c.self.invariant.0,
  begins_out c.args.session c.self.inside.host c.begin-job.new.self c.begin-job.result c.self.inside.link.command c.begin-job.ensures c.self.invariant.1,
)
