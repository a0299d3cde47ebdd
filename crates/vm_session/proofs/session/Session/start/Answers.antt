use Rattle.std.proofs.Common.{◌≡◌, ◌++◌, List, take, drop, length, set, refl, arith}
use Rattle.std.proofs.lemmas.Grind.{common_steps}
use Rattle.v4l_const.specs.Model.{queues as types_of}
use Rattle.v4l_rules.specs.Queues.{place_in}
use Rattle.vm_session.specs.State.{SessionQueue, SessionState, queue_of}
use Rattle.vm_session.specs.Buffers.{started}
use Rattle.vm_session.proofs.SoundLemmas.{sound_after}
use Rattle.vm_session.proofs.session.Session.start.Goals as goal

pub invariant_of-self : goal.invariant_of-self
invariant_of-self c =
    let s : SessionState = record {
      model = c.self.inside.model;
      id = c.self.inside.id;
      input = c.self.inside.input;
      queues = c.self.inside.queues.items;
      made = c.self.inside.made;
      running = c.self.inside.running;
      unsent = c.self.inside.unsent.items;
    } in
    let q : SessionQueue = started (queue_of s c.args.t) in
    let written : List SessionQueue = take c.self.inside.queues.len (c.start_at.new.queues ++ drop (length c.start_at.new.queues) c.self.inside.queues.items) in
    let is : written ≡ set s.queues (place_in (types_of s.model) c.args.t) q = grind (arith, common_steps) in
    (sound_after s c.args.t q s.made written c.self.invariant.0 is refl refl (c.self.invariant.0.each c.args.t).kinds, c.self.invariant.1)
