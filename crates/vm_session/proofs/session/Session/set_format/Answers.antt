use Rattle.std.proofs.Common.{◌≡◌, ◌++◌, List, take, drop, length, sym, subst, arith}
use Rattle.std.proofs.lemmas.Grind.{common_steps}
use Rattle.vm_session.specs.State.{SessionQueue, SessionState, queue_kind}
use Rattle.v4l_rules.specs.Formats.{with_set_format_at}
use Rattle.vm_session.specs.Sound.{TakesSize}
use Rattle.vm_session.proofs.FormatLemmas.{sound_formats}
use Rattle.vm_session.proofs.session.Session.set_format.Goals as goal

pub invariant_of-self : goal.invariant_of-self
invariant_of-self c =
    let s : SessionState = record {
      model = c.self.inside.model;
      id = c.self.inside.id;
      input = c.self.inside.input;
      queues = c.self.inside.queues.items;
      made = c.self.inside.made;
      running = c.self.inside.running;
      unsent = c.self.inside.unsent.items;
    } in
    let written : List SessionQueue = take c.self.inside.queues.len (c.set_formats.new.queues ++ drop (length c.set_formats.new.queues) c.self.inside.queues.items) in
    let is : written ≡ with_set_format_at queue_kind s.model s.queues c.args.t c.args.format = grind (arith, common_steps) in
    let takes : TakesSize s c.args.t c.args.format = subst (λ (x : SessionState). TakesSize x c.args.t c.args.format) (sym c.self.view_is) c.requires.size in
    (sound_formats s c.args.t c.args.format written c.self.invariant.0 takes is, c.self.invariant.1)
