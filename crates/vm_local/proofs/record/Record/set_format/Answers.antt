use Rattle.std.proofs.Common.{◌≡◌, ap}
use Rattle.v4l_format.specs.declared.fmt.Fmt.{Fmt}
use Rattle.vm_local.specs.State.{LocalState}
use Rattle.vm_local.specs.Queue.{with_set_format, adjusted_for}
use Rattle.vm_local.specs.Calls.{sfmt_row}
use Rattle.vm_local.specs.Record.{RecordState}
use Rattle.vm_local.proofs.FormatLemmas.{format_set_seen}
use Rattle.vm_local.proofs.ListedLemmas.{sound_format}
use Rattle.vm_local.proofs.OrderlyLemmas.{orderly_as, sound_shown}
use Rattle.vm_local.proofs.record.Record.set_format.Goals as goal

pub invariant_of-self : goal.invariant_of-self
invariant_of-self c =
    let s : LocalState = c.args.self.now.local in
    let f : Fmt = adjusted_for s c.args.t c.args.f c.args.w c.args.h in
    let set : _ ≡ with_set_format s c.args.t f =
    format_set_seen _ s (ap (λ (r : RecordState). r.local) c.self.view_is) c.args.t c.args.f c.args.w c.args.h c.in-Some.place c.adjusted_for-format.result c.set_format.new.self
    c.self.invariant.1.0 c.in-Some.ensures.place c.in-Some.ensures.within c.adjusted_for-format.ensures.value c.set_format.ensures in (
      c.self.invariant.0,
      orderly_as (with_set_format s c.args.t f) _ _ _ (ap (λ (r : RecordState). r.local.model) c.self.view_is) (ap (λ (x : LocalState). x.queues) set)
          (ap (λ (r : RecordState). r.local.owed) c.self.view_is) (sound_format s c.args.t f (sound_shown _ _ c.self.view_is c.self.invariant.1)),
      c.self.invariant.2,
      c.self.invariant.3,
      c.self.invariant.4,
      c.self.invariant.5,
      c.self.invariant.6,
    )

pub returns-in-Some : goal.returns-in-Some
unfolding sfmt_row
returns-in-Some c =
    let s : LocalState = c.args.self.now.local in
    let set : _ ≡ with_set_format s c.args.t (adjusted_for s c.args.t c.args.f c.args.w c.args.h) =
    format_set_seen _ s (ap (λ (r : RecordState). r.local) c.self.view_is) c.args.t c.args.f c.args.w c.args.h c.in-Some.place c.adjusted_for-format.result c.set_format.new.self
    c.self.invariant.1.0 c.in-Some.ensures.place c.in-Some.ensures.within c.adjusted_for-format.ensures.value c.set_format.ensures in
    λ i. record { local = set i; room = (c.self.view_is i).room }
