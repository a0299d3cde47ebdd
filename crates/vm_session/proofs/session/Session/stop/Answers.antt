use Rattle.std.proofs.Common.{◌≡◌, ◌++◌, List, take, drop, length, map, arith}
use Rattle.std.proofs.lemmas.Grind.{common_steps}
use Rattle.vm_session.specs.State.{SessionQueue, SessionState}
use Rattle.vm_session.specs.Buffers.{stopped_queue}
use Rattle.vm_session.proofs.SoundLemmas.{sound_stopped}
use Rattle.vm_session.proofs.session.Session.stop.Goals as goal

pub invariant_of-self : goal.invariant_of-self
invariant_of-self c =
    let s : SessionState = record {
      model = c.self.inside.model;
      id = c.self.inside.id;
      input = c.self.inside.input;
      queues = c.self.inside.queues.items;
      made = c.self.inside.made;
      running = c.self.inside.running;
      unsent = c.self.inside.unsent.items;
    } in
    let written : List SessionQueue = take c.self.inside.queues.len (c.stop_all.new.queues ++ drop (length c.stop_all.new.queues) c.self.inside.queues.items) in
    let is : written ≡ map stopped_queue s.queues = grind (arith, common_steps) in
    (sound_stopped s written c.self.invariant.0 is, c.self.invariant.1)
