use Rattle.std.proofs.Common.{◌≡◌, ◌<◌, ◌^◌, ◌++◌, ◌∷◌, [], List, length, arith, sym, ap, subst, ◌∙◌, Some}
use Rattle.std.proofs.lemmas.Bool.Decides.{nat_tests}
use Rattle.std.proofs.lemmas.Grind.{common_steps}
use Rattle.vm_guest.specs.Raw.{IsFitRaw}
use Rattle.vm_realm.specs.Sound.{IsRefused, IsRunnable}
use Rattle.vm_script.specs.Script.{ProcessLines, ScriptLines}
use Rattle.vm_script.specs.declared.line.Line.{Line}
use Rattle.vm_script.specs.declared.line.LineKind.TheVariants.{Raw}
use Rattle.vm_sched.proofs.LineLemmas.{raw_runnable}
use Rattle.vm_sched.proofs.tests.scripts.with_raw.Goals as goal

-- the last process is put back with the line
pub returns : goal.returns
returns c =
    let p : ProcessLines = record { handles = c.last.inside.handles.items; lines = c.last.inside.lines.items } in
    let run : IsRunnable (record { model = c.script.inside.model; processes = c.script.inside.processes.items }) = subst IsRunnable (sym c.script.view_is) c.requires in
    let is : c.pop.result ≡ Some p = c.in-Some.is ∙ ap Some (sym c.last.view_is) in
    let few : length p.lines < 100 = grind (arith, common_steps, nat_tests) in
    let fits : IsFitRaw c.args.chain.now = c.is_refused.ensures.fit c.in_ok-check.ensures in
    let refused : IsRefused c.args.chain.now = c.is_refused.ensures.refused c.in_ok-check.ensures in
    let more : (l : Line) × (l.what ≡ Raw c.args.chain.now) × (l.number < 2 ^ 32) × (c.push_raw.new.lines.items ≡ p.lines ++ l ∷ []) = c.in_ok-push_raw.ensures in
    let q : ProcessLines = record { handles = p.handles; lines = c.push_raw.new.lines.items } in
    let runs : IsRunnable (record { model = c.script.inside.model; processes = c.pop.new.self.items ++ q ∷ [] }) =
    raw_runnable c.script.inside.model c.script.inside.processes.items c.pop.new.self.items c.pop.result p c.push_raw.new.lines.items c.args.chain.now run c.pop.ensures.items is few fits refused more in
    subst (λ (ps : List ProcessLines). IsRunnable (record { model = c.script.inside.model; processes = ps })) (sym c.in_ok-push.ensures.items) runs
