use Rattle.std.proofs.Common.{◌≡◌, ◌<◌, length, rules, arith, sym, ◌∙◌}
use Rattle.vm_guest.specs.declared.status.Status.TheVariants.{Lent}
use Rattle.vm_guest.proofs.CallerLeaseLemmas.{call_within, out_there}
use Rattle.vm_guest.proofs.caller.Caller.lease_out.Goals as goal

pub index-requires : goal.index-requires
index-requires c =
    let inside : c.in-Some.field-0.handle < length c.self.inside.handles.items = call_within _ c.args.self.now c.in-Some.field-0 c.self.view_is c.requires (sym c.current_call.ensures ∙ c.in-Some.is) in
    omega (arith, inside, c.self.inside.handles.ok.0)

pub returns-in-Some : goal.returns-in-Some
returns-in-Some c =
    let lent : c.self.inside.status ≡ Lent = search rules in
    out_there _ c.args.self.now _ c.index.result.now _ c.self.view_is c.requires lent (sym c.current_call.ensures ∙ c.in-Some.is) c.index.ensures c.lease_out.ensures
