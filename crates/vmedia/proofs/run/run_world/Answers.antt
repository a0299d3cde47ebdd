-- The schedule's run ends in a sound world, and what is printed is what its driver logged.
use Rattle.std.proofs.Common.{◌≡◌, List, subst, sym, ap, ◌∙◌}
use Rattle.vm_guest.specs.Guest.{GuestState, IsDone}
use Rattle.vm_host.specs.Part.{Part}
use Rattle.vm_region.specs.Region.{RegionState}
use Rattle.vm_region.specs.declared.entry.RegionEntry.{RegionEntry}
use Rattle.vm_report.specs.Printed.{IsPrintedWith}
use Rattle.vm_script.specs.Reading.{IsReadScript}
use Rattle.vm_script.specs.Script.{ScriptLines}
use Rattle.vm_output.specs.Printing.{logs_of_run, words_of}
use Rattle.vmedia.specs.Run.{IsRun, failures}
use Rattle.vm_sched.proofs.GoLemmas.{opening_out}
use Rattle.vmedia.proofs.RunLemmas.{scheduled_done, ran, ok_weaken}
use Rattle.vmedia.proofs.run.run_world.Goals as goal

pub run_schedule-requires : goal.run_schedule-requires
run_schedule-requires g c = opening_out c.requires.opening.0 c.args.world.now c.requires.opening.2

pub text_of_run-requires-clause-done : goal.text_of_run-requires-clause-done
text_of_run-requires-clause-done g c =
    let scheduled = c.in_ok-run_schedule.ensures.scheduled in
    subst IsDone (sym c.guest.ensures.guest) (scheduled_done scheduled.0 c.args.world.now c.args.seed c.run_schedule.new.world scheduled.1)

pub returns : goal.returns
returns g c = record {
  runs = λ script begins.
      (let fails = failures (g.E.Engine.faults c.args.engine.now) (g.E.Engine.faults c.run_schedule.new.engine) in
      let same : c.run_schedule.new.world.script ≡ script = c.run_schedule.ensures.script ∙ begins.is in
      let read : IsReadScript script = subst IsReadScript (sym c.requires.opening.2.is ∙ begins.is) c.requires.opening.1 in
      let journal : c.journal.result.now ≡ c.run_schedule.new.world.host.device.region.journal =
      c.journal.ensures.entries ∙ (ap (λ (r : RegionState). r.journal) c.region.ensures ∙ ap (λ (p : Part). p.device.region.journal) c.host.ensures) in
      ok_weaken c.text_of_run.result (λ text. IsPrintedWith (words_of c.script.result.now) text.items (logs_of_run c.script.result.now c.guest.result.now c.journal.result.now))
      (λ text. IsRun c.args.seed fails script text.items) (λ text printed.
      (let S : ScriptLines → Type 0 = λ s. IsPrintedWith (words_of s) text.items (logs_of_run s c.guest.result.now c.journal.result.now) in
      let G : GuestState → Type 0 = λ d. IsPrintedWith (words_of script) text.items (logs_of_run script d c.journal.result.now) in
      let J : List RegionEntry → Type 0 = λ es. IsPrintedWith (words_of script) text.items (logs_of_run script c.run_schedule.new.world.guest es) in
      ran c.args.seed fails script c.args.world.now c.run_schedule.new.world text.items read begins c.in_ok-run_schedule.ensures.scheduled c.run_schedule.ensures.script c.guest.ensures.sound
      c.in_ok-run_schedule.ensures.fails
      (subst J journal (subst G c.guest.ensures.guest (subst S (c.script.ensures ∙ same) printed))))) c.text_of_run.ensures);
}
