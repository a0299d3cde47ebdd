use Rattle.std.proofs.Common.{◌≡◌, true, sym, subst}
use Rattle.vm_guest.specs.Guest.{process_at}
use Rattle.vm_guest.specs.Process.{lease_out, is_lent_for}
use Rattle.vm_log.specs.Answers.{IsDone as IsLeaseDone}
use Rattle.vm_realm.specs.World.{WorldState}
use Rattle.vm_world.proofs.HandOverLemmas.{gives_back_keeps}
use Rattle.vm_realm.proofs.EachLemmas.{step_sound}
use Rattle.vm_world.proofs.world.World.give_back.Goals as goal

pub invariant_of-self : goal.invariant_of-self
invariant_of-self g c =
    gives_back_keeps step_sound c.self.inside.script c.args.p c.self.inside.guest c.give_back.new.self c.self.inside.host (g.L.Link.queues c.self.inside.link) c.args.lease c.give_back.result c.self.invariant
    (subst (λ (w : WorldState). is_lent_for (process_at w.guest c.args.p) c.args.lease.line ≡ true → IsLeaseDone (lease_out (process_at w.guest c.args.p)) c.args.lease) (sym c.self.view_is) c.requires)
    c.give_back.ensures.other c.give_back.ensures.ok c.give_back.ensures.err
