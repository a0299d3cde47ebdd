use Rattle.std.proofs.Common.{◌∙◌, None, get_or, refl, sym, ap, subst, arith}
use Rattle.vm_device.specs.Device.{DeviceState, session_of}
use Rattle.vm_device.specs.Keeps.{IsSound}
use Rattle.vm_device.specs.Perform.{MadeFew}
use Rattle.vm_device.proofs.CallLemmas.{call_keeps, count_changed, marks_changed}
use Rattle.vm_device.proofs.device.Device.ioctl.Goals as goal

pub invariant_of-self : goal.invariant_of-self
invariant_of-self c =
    let ss = c.self.inside.sessions in
    let d : DeviceState = record {
      model = c.self.inside.model;
      opens = c.self.inside.opens;
      sessions = ss;
      jobs = c.self.inside.jobs.items;
      begun = c.self.inside.begun;
      unsent = c.self.inside.unsent.items;
      region = c.self.inside.region;
    } in
    let did = c.in-Ok.ensures.called d refl in
    let few : MadeFew (session_of d c.args.session) = subst (λ (x : DeviceState). MadeFew (session_of x c.args.session)) (sym c.self.view_is) c.requires.frames in
    let kept = call_keeps d did.0 c.args.session c.args.code c.args.payload c.args.behind.now c.args.held.now.items c.self.invariant.0 few in
    let one = c.in-Ok.ensures.one in (
      subst IsSound (sym (ap (λ a. a.device) did.1)) kept,
      c.self.invariant.1,
      rw one.1 (let less = count_changed ss c.args.session (get_or c.call.new.sessions c.args.session None) one.0 in omega (arith, less, c.self.invariant.2)),
      ap (λ m. m.flags) c.mark.ensures ∙ marks_changed ss c.call.new.sessions c.self.inside.ready.flags c.args.session one.0 c.self.invariant.3 one.1,
    )

pub returns-in-Ok-clause-called : goal.returns-in-Ok-clause-called
returns-in-Ok-clause-called c = rw (← c.self.view_is) (c.in-Ok.ensures.called _ refl)

pub returns-in-Err-clause-called : goal.returns-in-Err-clause-called
returns-in-Err-clause-called c =
    let d : DeviceState = record {
      model = c.self.inside.model;
      opens = c.self.inside.opens;
      sessions = c.self.inside.sessions;
      jobs = c.self.inside.jobs.items;
      begun = c.self.inside.begun;
      unsent = c.self.inside.unsent.items;
      region = c.self.inside.region;
    } in
    rw (← c.self.view_is, c.number.ensures) (c.in-Err.ensures.called d refl)
