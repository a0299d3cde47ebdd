use Rattle.std.proofs.Common.{rules, ◌≡◌, ◌∙◌, ap, arith}
use Rattle.std.proofs.lemmas.Grind.{common_steps}
use Rattle.v4l_const.specs.Model.{queues as types_of}
use Rattle.vm_local.specs.State.{LocalState}
use Rattle.vm_local.specs.Record.{RecordState}
use Rattle.vm_local.proofs.OrderlyLemmas.{orderly_as, sound_shown, taken_for, owed_seen, sound_taken}
use Rattle.vm_local.proofs.record.Record.take_frame.Goals as goal

pub invariant_of-self : goal.invariant_of-self
invariant_of-self c =
    let s : LocalState = c.args.self.now.local in
    let next : LocalState = taken_for s c.args.good c.args.used in
    let queues : c.set_used.new.self ≡ next.queues = search rules in
    let owed : c.push_heads.new.owed.items ≡ next.owed =
    owed_seen s c.args.good _ _ _ _ _ _ (ap (λ (r : RecordState). r.local.owed) c.self.view_is) (ap (λ (r : RecordState). r.local.queues) c.self.view_is)
    (c.queues-types.ensures ∙ ap (λ (r : RecordState). types_of r.local.model) c.self.view_is) c.sync_entry-sync.ensures c.push_some.ensures.items c.push_heads.ensures.items in (
      c.self.invariant.0,
      orderly_as next _ _ _ (ap (λ (r : RecordState). r.local.model) c.self.view_is) queues owed
          (sound_taken s c.args.good c.args.used c.requires.ready (sound_shown _ _ c.self.view_is c.self.invariant.1)),
      omega (arith, c.self.invariant.2),
      omega (arith, c.self.invariant.3),
      grind (arith, common_steps),
      omega (arith, c.self.invariant.5),
      omega (arith, c.self.invariant.6),
    )
