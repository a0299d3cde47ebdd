use Rattle.std.proofs.Common.{◌≡◌, ◌++◌, List, [], ◌∷◌, take, drop, length, set, refl, arith}
use Rattle.std.proofs.lemmas.Grind.{common_steps}
use Rattle.std.proofs.lemmas.List.Elements.{All-push}
use Rattle.v4l_const.specs.Model.{queues as types_of}
use Rattle.v4l_rules.specs.Queues.{place_in}
use Rattle.vm_queue.specs.declared.queued.Queued.{Queued}
use Rattle.vm_session.specs.State.{SessionQueue, SessionState, queue_of}
use Rattle.vm_session.specs.Buffers.{kept_record, queue_with}
use Rattle.vm_session.proofs.SoundLemmas.{sound_after}
use Rattle.vm_session.proofs.session.Session.push.Goals as goal

pub invariant_of-self : goal.invariant_of-self
invariant_of-self c =
    let s : SessionState = record {
      model = c.self.inside.model;
      id = c.self.inside.id;
      input = c.self.inside.input;
      queues = c.self.inside.queues.items;
      made = c.self.inside.made;
      running = c.self.inside.running;
      unsent = c.self.inside.unsent.items;
    } in
    let q : SessionQueue = queue_with (queue_of s c.args.buffer.kind) c.args.buffer (c.args.memory ∷ []) in
    let written : List SessionQueue = take c.self.inside.queues.len (c.push_at.new.queues ++ drop (length c.push_at.new.queues) c.self.inside.queues.items) in
    let is : written ≡ set s.queues (place_in (types_of s.model) c.args.buffer.kind) q = grind (arith, common_steps) in
    let P : Queued → Type 0 = λ b. b.buffer.kind ≡ c.args.buffer.kind in
    let one : Queued = record { buffer = kept_record c.args.buffer; held = c.args.memory } in
    let kinds = All-push P (queue_of s c.args.buffer.kind).queued one (c.self.invariant.0.each c.args.buffer.kind).kinds refl in
    (sound_after s c.args.buffer.kind q s.made written c.self.invariant.0 is refl refl kinds, c.self.invariant.1)
