use Rattle.std.proofs.Common.{◌≡◌, ◌<◌, ◌^◌, ◌++◌, ◌∷◌, [], List, length, get_or, sum_by, sym, ap, subst, ◌∙◌, arith, rules}
use Rattle.std.proofs.lemmas.Grind.{common_steps}
use Rattle.v4l_const.specs.declared.model.Model.{Model}
use Rattle.vm_script.specs.Script.{ProcessLines, ScriptLines}
use Rattle.vm_guest.specs.Orderly.{IsFresh, IsFreshGuest}
use Rattle.vm_guest.proofs.GuestFreshLemmas.{fresh_driver, few_handles, fresh_place, one_fresh}
use Rattle.vm_guest.proofs.guest.Guest.new.Goals as goal

pub loop-at-preserved : goal.loop-at-preserved
loop-at-preserved c =
    let here : IsFresh c.args.script.now.model c.loop-at.at c.index.result.now c.in_ok-caller.caller =
    subst (λ (m : Model). IsFresh m c.loop-at.at c.index.result.now c.in_ok-caller.caller) (ap (λ (s : ScriptLines). s.model) c.script.view_is) c.in_ok-caller.ensures.fresh in
    let within : c.loop-at.at < length c.args.script.now.processes =
    omega (arith, c.loop-at-test.true, c.len-at-end.ensures, c.script.inside.processes.ok.0, ap (λ (s : ScriptLines). length s.processes) c.script.view_is) in
    let read : c.index.result.now ≡ get_or c.args.script.now.processes c.loop-at.at c.index.result.now =
    c.index.ensures ∙ ap (λ (s : ScriptLines). get_or s.processes c.loop-at.at c.index.result.now) c.script.view_is in
    let more : c.push.new.self.items ≡ c.loop-at.callers.items ++ c.in_ok-caller.caller ∷ [] = grind (arith, common_steps) in
    one_fresh c.args.script.now c.loop-at.callers.items c.push.new.self.items c.loop-at.at c.in_ok-caller.caller c.loop-at.invariant
    (fresh_place c.args.script.now c.loop-at.at c.index.result.now c.in_ok-caller.caller within read here) more

pub count_handles-handles-requires : goal.count_handles-handles-requires
count_handles-handles-requires c =
    subst (λ (ps : List ProcessLines). sum_by (λ (p : ProcessLines). length p.handles) ps < 2 ^ 31) (sym (c.deref.ensures.value ∙ ap (λ (s : ScriptLines). s.processes) c.script.view_is)) (few_handles c.args.script.now c.requires)

pub invariant_of-result : goal.invariant_of-result
invariant_of-result c =
    let fresh : IsFreshGuest c.args.script.now (record { model = c.script.inside.model; processes = c.loop-at.callers.items; pump = c.in_ok-new.field-0; seats = c.in_ok-map_err-2.field-0.items }) = search rules in
    (c.args.script.now, fresh_driver c.args.script.now _ c.requires fresh)

pub returns-clause-driver : goal.returns-clause-driver
returns-clause-driver c =
    let fresh : IsFreshGuest c.args.script.now (record { model = c.script.inside.model; processes = c.loop-at.callers.items; pump = c.in_ok-new.field-0; seats = c.in_ok-map_err-2.field-0.items }) = search rules in
    fresh_driver c.args.script.now _ c.requires fresh
