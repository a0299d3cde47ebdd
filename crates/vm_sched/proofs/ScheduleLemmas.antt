-- Lemmas on the schedule's run: a step more, and the end.
use Rattle.std.proofs.Common.{◌≡◌, ℕ, ◌<◌, Bool, true, false, List, [], ◌∷◌, Option, Some, IsSome, IfSome, IsTrue, ◌↔◌, length, slice_get, refl, sym, ap, ◌∙◌, subst, arith}
use Rattle.std.proofs.lemmas.Option.{slice_get-get_or}
use Rattle.vm_realm.specs.Enabled.{enabled, is_enabled}
use Rattle.vm_realm.specs.Schedule.{next_state, place_chosen, Chooses, Schedules, IsScheduled}
use Rattle.vm_realm.specs.Steps.{Steps, Leads}
use Rattle.vm_realm.specs.World.{WorldState, IsDone}
use Rattle.vm_realm.specs.declared.step.Step.{Step}
use Rattle.vm_realm.specs.declared.step.Step.TheVariants.{Execute}

-- What the schedule leads to from here it leads to from the start.
abbrev pub LeadsOn : WorldState → ℕ → WorldState → ℕ → Type 0
LeadsOn start seed w x = (end : WorldState) → IsScheduled w x end → IsScheduled start seed end

pub leads_here : (w : WorldState) (x : ℕ) → LeadsOn w x w x
leads_here w x end runs = runs

-- a step that the schedule takes is the first of its run from there
pub leads_further : (start : WorldState) (seed : ℕ) (w : WorldState) (x : ℕ) (s : Step) (next : WorldState) → LeadsOn start seed w x → (IsDone w → ⊥) → Chooses (next_state x) w s → Steps w s next
    → LeadsOn start seed next (next_state x)
leads_further start seed w x s next leads more chooses steps end runs = leads end (s ∷ runs.0, (more, chooses, (next, steps, runs.1)))

pub leads_to_end : (start : WorldState) (seed : ℕ) (w : WorldState) (x : ℕ) → LeadsOn start seed w x → IsDone w → IsScheduled start seed w
leads_to_end start seed w x leads done = leads w ([], (done, refl))

-- ---- one turn of the loop

-- there is a step at a place among those that may come next
pub some_step : (w : WorldState) (o : Option Step) (place count : ℕ) → o ≡ slice_get (enabled w) place → place < count → count ≡ length (enabled w) → IsSome o
some_step w o place count at within all =
    subst (λ x. IsSome x) (sym (at ∙ slice_get-get_or (enabled w) place Execute (omega (arith, within, all)))) refl

-- the step at the place that the state chooses is the one that it chooses
pub chosen : (w : WorldState) (o : Option Step) (x place count : ℕ) (s : Step) → o ≡ slice_get (enabled w) place → place ≡ place_chosen x count → count ≡ length (enabled w) → o ≡ Some s
    → Chooses x w s
chosen w o x place count s at place_is all is =
    sym (at ∙ ap (slice_get (enabled w)) (place_is ∙ ap (place_chosen x) all)) ∙ is

-- and it may come next
pub may_come : (w : WorldState) (o : Option Step) (s : Step) → IfSome o (λ x. is_enabled w x ≡ true) → o ≡ Some s → is_enabled w s ≡ true
may_come w o s may is = subst (λ x. IfSome x (λ y. is_enabled w y ≡ true)) is may

-- where it isn't done, a line isn't answered
pub not_done : (w : WorldState) (b : Bool) → (IsTrue b ↔ IsDone w) → b ≡ false → IsDone w → ⊥
not_done w b tells is done = absurd (let yes : b ≡ true = tells.1 done in let no : true ≡ false = sym yes ∙ is in cc)

-- ---- the steps of a schedule

pub schedule_leads : (w last : WorldState) (ss : List Step) (x : ℕ) → Schedules ss w x last → Leads w ss last
schedule_leads w last [] x runs = runs.1
schedule_leads w last (s ∷ ss) x runs = (runs.2.0, runs.2.1, schedule_leads runs.2.0 last ss (next_state x) runs.2.2)
