use Rattle.std.proofs.Common.{rules, arith, ◌≡◌, ◌≤◌, ◌+◌, ◌<◌, ℕ, true, length, List, refl, sym, subst, ap, ◌∙◌}
use Rattle.vm_link.specs.Queue.{Queue, Queues}
use Rattle.vm_host.proofs.DoneLemmas.{announces_done}
use Rattle.vm_host.proofs.OneLemmas.{announces_out}
use Rattle.vm_host.proofs.tests.rig.Rig.announce.Goals as goal

pub invariant_of-self : goal.invariant_of-self
invariant_of-self c =
    let same : c.collect.new.self.command ≡ c.self.inside.link.command =
    ap (λ (x : Queues). x.command) c.collect.ensures.queues ∙ (c.announce.ensures.commands ∙ ap (λ (x : Queues). x.command) c.post.ensures) in (
      announces_done c.self.inside.steps 64 c.self.inside.host c.announce.new.self c.post.new.self.event c.announce.new.link.event c.announce.result c.announce.ensures.announces c.self.invariant.0,
      announces_out c.self.inside.host c.announce.new.self c.post.new.self.event c.announce.new.link.event c.self.inside.link.command c.collect.new.self.command c.announce.result
          c.announce.ensures.announces same c.self.invariant.1,
    )
