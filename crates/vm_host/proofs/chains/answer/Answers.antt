use Rattle.std.proofs.Common.{◌≡◌, ◌≤◌, Ok, arith, ap, sym, subst, ◌∙◌}
use Rattle.vm_link.specs.declared.parcel.Parcel.{Parcel}
use Rattle.vm_host.specs.Chains.{asked_by}
use Rattle.vm_host.specs.Steps.{Completes}
use Rattle.vm_host.proofs.ServeLemmas.{completed_served, unawaited}
use Rattle.vm_host.proofs.chains.answer.Goals as goal

pub returns-in-None-clause-served : goal.returns-in-None-clause-served
returns-in-None-clause-served c =
    let enough : 8 ≤ c.writable-writable.result = omega (arith, c.if-writable-lt-STATUS_LEN.false) in
    let pages : c.deref.result.now ≡ c.args.parcel.now.pages = c.deref.ensures.value ∙ ap (λ (p : Parcel). p.pages) c.parcel.view_is in
    let asked : asked_by c.args.chain.now.descs c.args.parcel.now.pages ≡ Ok c.in-Ok.command =
    ap (λ ds. asked_by ds c.args.parcel.now.pages) (sym c.descs-descs.ensures) ∙ ap (asked_by c.descs-descs.result.now) (sym pages) ∙ sym c.in-Ok.ensures.asked in
    let completes =
    subst (λ ds. Completes c.args.device.now c.args.parcel.now ds c.in-Ok.command (record { used = c.complete.result; parcel = c.complete.new.parcel }) c.complete.new.device) c.descs-descs.ensures c.complete.ensures in
    completed_served c.args.chain.now.descs c.args.parcel.now c.complete.new.parcel c.args.device.now c.complete.new.device c.complete.result c.writable-writable.result c.in-Ok.command
    enough c.writable-writable.ensures asked (unawaited c.args.device.now c.in-Ok.command (sym c.awaited_session.ensures ∙ c.in-None.is)) completes
