use Rattle.std.proofs.Common.{◌≡◌, ◌+◌, ◌++◌, true, subst, List, take, drop, length, set, refl, sym, arith}
use Rattle.std.proofs.lemmas.Grind.{common_steps}
use Rattle.v4l_const.specs.Model.{queues as types_of}
use Rattle.v4l_rules.specs.Queues.{place_in}
use Rattle.vm_session.specs.State.{SessionQueue, SessionState, queue_of, is_quiet}
use Rattle.vm_session.specs.Buffers.{renewed_queue}
use Rattle.vm_session.proofs.SoundLemmas.{none_queued, quiet_out, sound_after}
use Rattle.vm_session.proofs.session.Session.renew.Goals as goal

pub invariant_of-self : goal.invariant_of-self
invariant_of-self c =
    let s : SessionState = record {
      model = c.self.inside.model;
      id = c.self.inside.id;
      input = c.self.inside.input;
      queues = c.self.inside.queues.items;
      made = c.self.inside.made;
      running = c.self.inside.running;
      unsent = c.self.inside.unsent.items;
    } in
    let q : SessionQueue = renewed_queue (queue_of s c.args.t) c.args.memory c.args.count s.made in
    let written : List SessionQueue = take c.self.inside.queues.len (c.renew_at.new.queues ++ drop (length c.renew_at.new.queues) c.self.inside.queues.items) in
    let is : written ≡ set s.queues (place_in (types_of s.model) c.args.t) q = grind (arith, common_steps) in
    let quiet : is_quiet s ≡ true = subst (λ (x : SessionState). is_quiet x ≡ true) (sym c.self.view_is) c.requires.quiet in
    (sound_after s c.args.t q (c.self.inside.made + c.frame_count.result) written c.self.invariant.0 is refl (sym (quiet_out s c.self.invariant.0 quiet c.args.t)) (none_queued c.args.t), c.self.invariant.1)
