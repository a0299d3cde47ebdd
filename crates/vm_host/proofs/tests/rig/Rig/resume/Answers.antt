use Rattle.std.proofs.Common.{rules, arith, ◌≡◌, ◌≤◌, ◌+◌, ◌<◌, ℕ, true, length, List, refl, sym, subst, ap, ◌∙◌}
use Rattle.vm_link.specs.Queue.{Queues}
use Rattle.vm_host.proofs.DoneLemmas.{resumes_done}
use Rattle.vm_host.proofs.OneLemmas.{resumes_out}
use Rattle.vm_host.proofs.RigLemmas.{same_outs}
use Rattle.vm_host.proofs.tests.rig.Rig.resume.Goals as goal

pub invariant_of-self : goal.invariant_of-self
invariant_of-self c = (
  resumes_done c.self.inside.steps 64 c.args.session c.self.inside.host c.resume-turn.new.self c.self.inside.link.command c.resume-turn.new.link.command c.resume-turn.result c.resume-turn.ensures.resumes c.self.invariant.0,
  same_outs c.resume-turn.new.self.waiting c.resume-turn.new.link.command c.collect.new.self.command (ap (λ (x : Queues). x.command.out) c.collect.ensures.queues)
      (resumes_out c.args.session c.self.inside.host c.resume-turn.new.self c.self.inside.link.command c.resume-turn.new.link.command c.resume-turn.result c.resume-turn.ensures.resumes c.self.invariant.1),
)

pub invariant_of-self-in-Idle : goal.invariant_of-self-in-Idle
invariant_of-self-in-Idle c = (
  resumes_done c.self.inside.steps 64 c.args.session c.self.inside.host c.resume-turn.new.self c.self.inside.link.command c.resume-turn.new.link.command c.resume-turn.result c.resume-turn.ensures.resumes c.self.invariant.0,
  resumes_out c.args.session c.self.inside.host c.resume-turn.new.self c.self.inside.link.command c.resume-turn.new.link.command c.resume-turn.result c.resume-turn.ensures.resumes c.self.invariant.1,
)
