use Rattle.std.proofs.Common.{◌≡◌, ◌≤◌, ◌++◌, ℕ, List, ◌∷◌, take, drop, length, set, get_or, subst, arith}
use Rattle.std.proofs.lemmas.Grind.{common_steps}
use Rattle.v4l_const.specs.Model.{queues as types_of}
use Rattle.v4l_rules.specs.Queues.{place_in}
use Rattle.vm_mem.specs.Lists.{occurrences}
use Rattle.vm_wire.specs.declared.event.EventMsg.TheVariants.{Dequeued}
use Rattle.vm_session.specs.State.{SessionQueue, SessionState, opening_queue, queue_of}
use Rattle.vm_session.specs.Streaming.{settled}
use Rattle.vm_session.proofs.SentLemmas.{returned_after}
use Rattle.vm_session.proofs.session.Session.next_event.Goals as goal

pub invariant_of-self-in-Dequeued : goal.invariant_of-self-in-Dequeued
invariant_of-self-in-Dequeued c =
    let s : SessionState = record {
      model = c.self.inside.model;
      id = c.self.inside.id;
      input = c.self.inside.input;
      queues = c.self.inside.queues.items;
      made = c.self.inside.made;
      running = c.self.inside.running;
      unsent = c.self.inside.unsent.items;
    } in
    let b = c.in-Dequeued.buffer in
    let es = c.pop_front.new.self.items in
    let oldest : s.unsent ≡ record { msg = Dequeued c.in-Dequeued.session b; held = c.in_ok-msg.held } ∷ es = grind (arith, common_steps) in
    let place : c.place_in-place.result ≡ place_in (types_of s.model) b.kind = grind (arith, common_steps) in
    let once : occurrences b.index (queue_of s b.kind).out ≤ 1 =
    subst (λ (p : ℕ). occurrences b.index (get_or s.queues p opening_queue).out ≤ 1) place
    (subst (λ (qs : List SessionQueue). occurrences b.index (get_or qs c.place_in-place.result opening_queue).out ≤ 1) c.deref_mut.ensures.value c.settle_at.ensures.once) in
    let written : List SessionQueue = take c.self.inside.queues.len (c.settle_at.new.queues ++ drop (length c.settle_at.new.queues) c.self.inside.queues.items) in
    let is : written ≡ set s.queues (place_in (types_of s.model) b.kind) (settled (queue_of s b.kind) b.index) = grind (arith, common_steps) in
    (returned_after s c.in-Dequeued.session b c.in_ok-msg.held es oldest c.self.invariant.0 once written is, grind (arith, common_steps))
