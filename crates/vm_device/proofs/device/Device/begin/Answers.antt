use Rattle.std.proofs.Common.{◌≡◌, ◌∙◌, Some, None, get_or, sym, ap, arith}
use Rattle.std.specs.Option.{option_copied_mut}
use Rattle.vm_device.proofs.CloseLemmas.{begin_keeps, count_after, marks_after}
use Rattle.vm_device.proofs.StepLemmas.{room_for_job, within}
use Rattle.vm_device.proofs.device.Device.begin.Goals as goal

pub push_reserved-requires : goal.push_reserved-requires
push_reserved-requires c =
    let s = c.in_ok-get_mut.field-0.now in
    let live : get_or c.self.inside.sessions c.args.session None ≡ Some s = sym c.get_mut.ensures.value ∙ ap option_copied_mut c.in_ok-get_mut.was in
    let room = room_for_job _ c.args.session s c.self.invariant.0 live (sym c.in_ok-job.ensures.exactly) in
    omega (arith, room, c.self.invariant.0.few, c.self.invariant.1)

pub invariant_of-self-2 : goal.invariant_of-self-2
invariant_of-self-2 c =
    let s = c.in_ok-get_mut.field-0.now in
    let t = c.begin.new.self in
    let ss = c.self.inside.sessions in
    let live : get_or ss c.args.session None ≡ Some s = sym c.get_mut.ensures.value ∙ ap option_copied_mut c.in_ok-get_mut.was in (
      begin_keeps _ c.args.session s t c.in_ok-job.job c.entry_of.result c.push_reserved.new.self.items c.self.invariant.0 live
          c.in_ok-job.ensures.exactly c.in_ok-job.ensures.job c.in_ok-job.ensures.session c.entry_of.ensures c.push_reserved.ensures.items,
      rw c.push_reserved.ensures.capacity c.self.invariant.1,
      rw (count_after ss c.args.session s t live) c.self.invariant.2,
      ap (λ m. m.flags) c.mark.ensures ∙ marks_after ss c.self.inside.ready.flags c.args.session (Some t) (within ss c.args.session s live) c.self.invariant.3,
    )
