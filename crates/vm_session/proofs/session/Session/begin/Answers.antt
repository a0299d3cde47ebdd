use Rattle.std.proofs.Common.{◌≡◌, ◌++◌, List, Some, true, take, drop, length, map, sym, subst, arith}
use Rattle.std.proofs.lemmas.Grind.{common_steps}
use Rattle.std.specs.Option.{option_and_then}
use Rattle.v4l_const.specs.Model.{source_queue, picture_queue}
use Rattle.v4l_rules.specs.Queues.{queue_at}
use Rattle.vm_mem.specs.Lists.{first_of}
use Rattle.vm_session.specs.State.{SessionQueue, SessionState, queue_kind}
use Rattle.vm_session.specs.Streaming.{headless, can_begin, next_spec}
use Rattle.vm_session.proofs.StreamLemmas.{begun_after, can_begin_is, runs_is}
use Rattle.vm_session.proofs.session.Session.begin.Goals as goal

pub invariant_of-self : goal.invariant_of-self
invariant_of-self c =
    let s : SessionState = record {
      model = c.self.inside.model;
      id = c.self.inside.id;
      input = c.self.inside.input;
      queues = c.self.inside.queues.items;
      made = c.self.inside.made;
      running = c.self.inside.running;
      unsent = c.self.inside.unsent.items;
    } in
    let now : can_begin c.args.self.now ≡ true = grind (arith, common_steps) in
    let can = subst (λ (x : SessionState). can_begin x ≡ true) (sym c.self.view_is) now in
    let both = can_begin_is s can in
    let written : List SessionQueue = take c.self.inside.queues.len (c.take_heads-src.new.queues ++ drop (length c.take_heads-src.new.queues) c.self.inside.queues.items) in
    let is : written ≡ map headless s.queues = grind (arith, common_steps) in
    let spec : c.next_spec-spec.result ≡ next_spec s c.args.number = subst (λ (x : SessionState). c.next_spec-spec.result ≡ next_spec x c.args.number) (sym c.self.view_is) c.next_spec-spec.ensures.spec in
    let src = subst (λ (qs : List SessionQueue). c.take_heads-src.result.src ≡ option_and_then (λ t. first_of (queue_at queue_kind s.model qs t).queued) (source_queue s.model)) c.deref_mut.ensures.value c.take_heads-src.ensures.src in
    let dst = subst (λ (qs : List SessionQueue). Some c.take_heads-src.result.dst ≡ first_of (queue_at queue_kind s.model qs (picture_queue s.model)).queued) c.deref_mut.ensures.value c.take_heads-src.ensures.dst in
    let runs = runs_is s c.args.number c.next_spec-spec.result c.take_heads-src.result.src c.take_heads-src.result.dst c.running_with.result
    spec src dst c.running_with.ensures in
    (begun_after s c.args.number written (Some c.running_with.result) both.0 both.1 c.self.invariant.0 is runs, c.self.invariant.1)
