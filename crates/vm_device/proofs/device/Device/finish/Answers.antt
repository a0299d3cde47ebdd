use Rattle.std.proofs.Common.{◌≡◌, ◌∙◌, ◌==◌, Some, set, find, length, rules, arith, refl, sym, ap}
use Rattle.std.specs.Option.{option_map}
use Rattle.std.proofs.lemmas.List.{length-map}
use Rattle.std.proofs.lemmas.Result.{err_from_is_err_and}
use Rattle.vm_session.specs.State.{SessionState}
use Rattle.vm_session.specs.Streaming.{finished}
use Rattle.vm_device.specs.Device.{is_ready}
use Rattle.vm_device.proofs.CloseLemmas.{count_after, marks_after, finish_keeps, finish_room, finishes, strange}
use Rattle.vm_device.proofs.StepLemmas.{out_runs, within}
use Rattle.vm_device.proofs.device.Device.finish.Goals as goal

pub give_back-requires : goal.give_back-requires
give_back-requires c =
    let is : option_map (λ e. e.spec) (find (λ e. e.spec.number == c.args.done.job.spec.number) c.self.inside.jobs.items) ≡ Some c.in-Some.spec = search rules in
    let run = out_runs _ c.args.done.job.spec.number c.in-Some.spec c.self.invariant.0 is in
    record { live = rw run.live (search rules) }

pub returns-in_err-events-clause-stranger : goal.returns-in_err-events-clause-stranger
returns-in_err-events-clause-stranger c =
    let is : option_map (λ e. e.spec) (find (λ e. e.spec.number == c.args.done.job.spec.number) c.self.inside.jobs.items) ≡ Some c.in-Some.spec = rw (← c.done.view_is, ← c.done-inside.view_is, ← c.deref.ensures.value) (sym c.spec_of.ensures ∙ c.in-Some.is) in
    let run = out_runs _ c.args.done.job.spec.number c.in-Some.spec c.self.invariant.0 is in
    let exit = err_from_is_err_and c.from_residual.result c.from_residual.ensures.1 in
    rw (exit.1, exit.2, ← c.self.view_is) (strange _ c.in-Some.spec c.args.done _ is run (c.in_err-events.ensures.stranger run.session run.live))

pub push_events-requires : goal.push_events-requires
push_events-requires c =
    let is : option_map (λ e. e.spec) (find (λ e. e.spec.number == c.args.done.job.spec.number) c.self.inside.jobs.items) ≡ Some c.in-Some.spec = search rules in
    let run = out_runs _ c.args.done.job.spec.number c.in-Some.spec c.self.invariant.0 is in
    finish_room _ c.args.done.job.spec.number c.in-Some.spec c.args.done c.in_ok-events.events _ c.self.invariant.0 run
    (c.in_ok-events.ensures.few run.session run.live) (c.in_ok-events.ensures.events run.session run.live) c.self.invariant.2

pub mark-requires : goal.mark-requires
mark-requires c =
    let is : option_map (λ e. e.spec) (find (λ e. e.spec.number == c.args.done.job.spec.number) c.self.inside.jobs.items) ≡ Some c.in-Some.spec = search rules in
    let run = out_runs _ c.args.done.job.spec.number c.in-Some.spec c.self.invariant.0 is in
    let marked = ap length c.self.invariant.3 in
    omega (arith, within c.self.inside.sessions c.in-Some.spec.session run.session run.live, marked, length-map c.self.inside.sessions is_ready)

pub invariant_of-self-2 : goal.invariant_of-self-2
invariant_of-self-2 c =
    let spec = c.in-Some.spec in
    let ss = c.self.inside.sessions in
    let is : option_map (λ e. e.spec) (find (λ e. e.spec.number == c.args.done.job.spec.number) c.self.inside.jobs.items) ≡ Some c.in-Some.spec = search rules in
    let run = out_runs _ c.args.done.job.spec.number spec c.self.invariant.0 is in
    let t : SessionState = finished run.session c.args.done in
    let next : c.give_back.new.sessions ≡ set ss spec.session (Some t) = c.in_ok-events.ensures.finished run.session run.live in (
      finish_keeps _ c.args.done.job.spec.number spec c.args.done c.give_back.new.sessions c.drop_jobs.new.jobs.items c.push_events.new.unsent.items c.in_ok-events.events
          c.self.invariant.0 run next (c.in_ok-events.ensures.few run.session run.live) c.drop_jobs.ensures.jobs (c.in_ok-events.ensures.events run.session run.live) c.push_events.ensures.events,
      rw c.drop_jobs.ensures.capacity c.self.invariant.1,
      rw (next, count_after ss spec.session run.session t run.live, c.push_events.ensures.capacity) c.self.invariant.2,
      ap (λ m. m.flags) c.mark.ensures ∙ rw next (marks_after ss c.self.inside.ready.flags spec.session (Some t) (within ss spec.session run.session run.live) c.self.invariant.3),
    )

pub returns-clause-finished : goal.returns-clause-finished
returns-clause-finished c =
    let spec = c.in-Some.spec in
    let is : option_map (λ e. e.spec) (find (λ e. e.spec.number == c.args.done.job.spec.number) c.self.inside.jobs.items) ≡ Some c.in-Some.spec = search rules in
    let run = out_runs _ c.args.done.job.spec.number spec c.self.invariant.0 is in
    rw (← c.self.view_is)
    (finishes _ _ spec c.args.done c.in_ok-events.events is run (c.in_ok-events.ensures.awaited run.session run.live) (c.in_ok-events.ensures.events run.session run.live)
    (rw (c.in_ok-events.ensures.finished run.session run.live, c.drop_jobs.ensures.jobs, c.push_events.ensures.events) refl))
