use Rattle.std.proofs.Common.{◌≡◌, ◌≤◌, ◌++◌, List, take, drop, length, map, refl, sym, ap, ◌∙◌, subst, arith}
use Rattle.std.specs.Prelude.{All}
use Rattle.std.proofs.lemmas.Grind.{common_steps}
use Rattle.vm_job.specs.Job.{DoneParts}
use Rattle.vm_session.specs.State.{SessionQueue, SessionState}
use Rattle.vm_session.specs.Streaming.{counted, events_of}
use Rattle.vm_session.proofs.StreamLemmas.{finished_after, events_are}
use Rattle.vm_session.proofs.session.Session.take_back.Goals as goal

pub push_events-requires : goal.push_events-requires
push_events-requires c =
    let s : SessionState = record {
      model = c.self.inside.model;
      id = c.self.inside.id;
      input = c.self.inside.input;
      queues = c.self.inside.queues.items;
      made = c.self.inside.made;
      running = c.self.inside.running;
      unsent = c.self.inside.unsent.items;
    } in
    let d : DoneParts = record { job = record { spec = c.job.inside.spec; src = c.job.inside.src; dst = c.job.inside.dst }; good = c.done.inside.good } in
    let r = c.in-Some.running in
    let events = events_are s c.args.self.now r d c.sync_event-sync_event.result c.src_event-src_event.result c.dst_event-dst_event.result
    c.self.view_is c.sync_event-sync_event.ensures c.src_event-src_event.ensures c.dst_event-dst_event.ensures in
    let sound = finished_after s r d c.count_frame.new.queues (s.unsent ++ events_of s r d) c.in-Some.is c.self.invariant.0
    (c.count_frame.ensures.queues ∙ ap (λ qs. map counted qs) c.deref_mut.ensures.value) c.count_frame.ensures.few refl in
    let few = sound.few in
    let roomy = c.self.invariant.1 in
    rw events (omega (arith, few, roomy))

pub invariant_of-self : goal.invariant_of-self
invariant_of-self c =
    let s : SessionState = record {
      model = c.self.inside.model;
      id = c.self.inside.id;
      input = c.self.inside.input;
      queues = c.self.inside.queues.items;
      made = c.self.inside.made;
      running = c.self.inside.running;
      unsent = c.self.inside.unsent.items;
    } in
    let d : DoneParts = record { job = record { spec = c.job.inside.spec; src = c.job.inside.src; dst = c.job.inside.dst }; good = c.done.inside.good } in
    let r = c.in-Some.running in
    let events = events_are s c.args.self.now r d c.sync_event-sync_event.result c.src_event-src_event.result c.dst_event-dst_event.result
    c.self.view_is c.sync_event-sync_event.ensures c.src_event-src_event.ensures c.dst_event-dst_event.ensures in
    let written : List SessionQueue = take c.self.inside.queues.len (c.count_frame.new.queues ++ drop (length c.count_frame.new.queues) c.self.inside.queues.items) in
    let is : written ≡ c.count_frame.new.queues = grind (arith, common_steps) in
    let few = subst (λ (qs : List SessionQueue). All (λ (q : SessionQueue). length q.out ≤ 32) qs) (sym is) c.count_frame.ensures.few in
    let sound = finished_after s r d written c.push_events.new.unsent.items c.in-Some.is c.self.invariant.0
    (is ∙ c.count_frame.ensures.queues ∙ ap (λ qs. map counted qs) c.deref_mut.ensures.value) few
    (c.push_events.ensures.items ∙ ap (λ es. s.unsent ++ es) events) in
    (sound, rw (c.push_events.ensures.capacity) c.self.invariant.1)
