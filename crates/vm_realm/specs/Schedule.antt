-- The schedule of a seed: its generator, and the run that it gives. Source: own.
use Rattle.std.specs.Prelude.{ℕ, ◌≡◌, ◌+◌, ◌*◌, ◌/◌, ◌%◌, ◌^◌, List, [], ◌∷◌, Some, length, slice_get}
use Rattle.vm_realm.specs.declared.step.Step.{Step}
use Rattle.vm_realm.specs.World.{WorldState, IsDone}
use Rattle.vm_realm.specs.Enabled.{enabled}
use Rattle.vm_realm.specs.Steps.{Steps}

-- the generator's next state
abbrev pub next_state : ℕ → ℕ
next_state x = (x * 6364136223846793005 + 1442695040888963407) % 2 ^ 64

-- the place that a state chooses among n
abbrev pub place_chosen : ℕ → ℕ → ℕ
place_chosen x n = (x / 2 ^ 33) % n

-- the step that a state chooses in a world is this one
abbrev pub Chooses : ℕ → WorldState → Step → Type 0
Chooses x w s = slice_get (enabled w) (place_chosen x (length (enabled w))) ≡ Some s

-- From a world and a state of the generator these steps are the schedule's: each is the one that
-- the next state chooses in its world, as long as a line isn't answered; then the run ends.
abbrev pub Schedules : List Step → WorldState → ℕ → WorldState → Type 0
Schedules [] w x w' = IsDone w × (w' ≡ w)
Schedules (s ∷ ss) w x w' =
    (¬ IsDone w) × Chooses (next_state x) w s
    × ((next : WorldState) × Steps w s next × Schedules ss next (next_state x) w')

-- the seed's schedule leads from the one world to the other
abbrev pub IsScheduled : WorldState → ℕ → WorldState → Type 0
IsScheduled w seed w' = (steps : List Step) × Schedules steps w seed w'
