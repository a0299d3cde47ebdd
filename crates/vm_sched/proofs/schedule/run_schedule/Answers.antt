use Rattle.std.proofs.Common.{◌≡◌, false, true, length, rules, refl, sym, ap, ◌∙◌, subst, arith, inl}
use Rattle.vm_guest.specs.Guest.{GuestState}
use Rattle.vm_realm.proofs.LeftLemmas.{left_falls}
use Rattle.vm_realm.specs.Schedule.{Chooses}
use Rattle.vm_sched.specs.Hands.{empty_hands}
use Rattle.vm_sched.proofs.GoLemmas.{has_none, fails_on}
use Rattle.vm_sched.proofs.ScheduleLemmas.{some_step, chosen, may_come, not_done, LeadsOn, leads_here, leads_further, leads_to_end}
use Rattle.vm_sched.proofs.schedule.run_schedule.Goals as goal

pub unwrap-step-requires : goal.unwrap-step-requires
unwrap-step-requires g c =
    some_step c.loop-state.world c.enabled_at.result c.place_chosen-place.result c.enabled_len.result c.enabled_at.ensures.step c.place_chosen-place.ensures.within c.enabled_len.ensures

pub do_step-requires-clause-may : goal.do_step-requires-clause-may
do_step-requires-clause-may g c = may_come c.loop-state.world c.enabled_at.result c.unwrap-step.result c.enabled_at.ensures.may c.unwrap-step.ensures

pub loop-state-init : goal.loop-state-init
loop-state-init g c = record {
  leads = leads_here c.args.world.now c.args.seed;
  all = has_none c.args.world.now c.in_ok-hands.hands c.requires
      (c.in_ok-hands.ensures ∙ ap empty_hands (c.process_count.ensures ∙ ap (λ (x : GuestState). length x.processes) c.guest.ensures.guest));
  fails = inl (omega arith);
  count = omega arith;
  script = refl;
}

pub loop-state-preserved : goal.loop-state-preserved
loop-state-preserved g c =
    let more : c.is_done.result ≡ false = search rules in
    let chooses = chosen c.loop-state.world c.enabled_at.result c.next_state-state.result c.place_chosen-place.result c.enabled_len.result c.unwrap-step.result
    c.enabled_at.ensures.step c.place_chosen-place.ensures.chosen c.enabled_len.ensures c.unwrap-step.ensures in
    let chosen_next = subst (λ y. Chooses y c.loop-state.world c.unwrap-step.result) c.next_state-state.ensures chooses in
    let leads = leads_further c.args.world.now c.args.seed c.loop-state.world c.loop-state.state c.unwrap-step.result c.do_step.new.world c.loop-state.invariant.leads
    (not_done c.loop-state.world c.is_done.result c.is_done.ensures.done more) chosen_next c.in_ok-do_step.ensures.goes.steps in
    record {
      leads = subst (λ y. LeadsOn c.args.world.now c.args.seed c.do_step.new.world y) (sym c.next_state-state.ensures) leads;
      all = c.in_ok-do_step.ensures.goes.all;
      fails = fails_on c.args.world.now c.loop-state.world c.do_step.new.world (g.E.Engine.faults c.args.engine.now) (g.E.Engine.faults c.loop-state.engine) (g.E.Engine.faults c.do_step.new.engine)
          c.loop-state.invariant.fails c.in_ok-do_step.ensures.fails c.in_ok-do_step.ensures.count;
      count = omega (arith, c.loop-state.invariant.count, c.in_ok-do_step.ensures.count);
      script = c.in_ok-do_step.ensures.script ∙ c.loop-state.invariant.script;
    }

pub loop-state-smaller : goal.loop-state-smaller
loop-state-smaller g c = left_falls c.loop-state.world c.do_step.new.world c.unwrap-step.result c.is_done.ensures.sound c.in_ok-do_step.ensures.goes.steps

pub returns-clause-scheduled : goal.returns-clause-scheduled
returns-clause-scheduled g c =
    let done : c.is_done.result ≡ true = search rules in
    leads_to_end c.args.world.now c.args.seed c.loop-state.world c.loop-state.state c.loop-state.invariant.leads (c.is_done.ensures.done.0 done)
