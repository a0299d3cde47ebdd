-- The command line: which words are served.
use Rattle.std.specs.Prelude.{ℕ, ◌-◌, ◌^◌, ◌≤◌, nat_le, Bool, true, false, List, [], ◌∷◌, codes}
use Rattle.std.specs.Prelude.{Option, Some, None, if◌then◌else◌}
use Rattle.std.specs.Option.{option_map}
use Rattle.std.specs.Str.{bytes_eq}
use Rattle.vm_script.specs.Words.{number_in}
use Rattle.vm_words.specs.declared.command.Command.{Command}
use Rattle.vm_words.specs.declared.command.Command.TheVariants.{OnScript, Bulk}
use Rattle.vm_words.specs.declared.command.Task.TheVariants.{Check, Run}

-- the number, where it isn't 0
abbrev pub positive : Option ℕ → Option ℕ
positive None = None
positive (Some n) = if nat_le 1 n then Some n else None

-- what a first word and a number of 1 to 20 digits ask for: `step SEED`, or `bulk N` with N from 1
-- to 16
abbrev pub command_with : List ℕ → List ℕ → Option Command
command_with command number =
    if bytes_eq command (codes "step")
    then option_map (λ seed. OnScript (Run seed)) (number_in 20 (2 ^ 64 - 1) number)
    else (if bytes_eq command (codes "bulk")
    then option_map (λ n. Bulk n) (positive (number_in 20 16 number))
    else None)

-- what a word alone asks for: `check`
abbrev pub command_alone : List ℕ → Option Command
command_alone command = if bytes_eq command (codes "check") then Some (OnScript Check) else None

-- what the words ask for, where they are the command line `check`, `step SEED` or `bulk N`; other
-- command lines aren't served
abbrev pub command_in : List (List ℕ) → Option Command
command_in (command ∷ []) = command_alone command
command_in (command ∷ number ∷ []) = command_with command number
command_in words = None

-- these words read a script from the source
abbrev pub reads_script : Option Command → Bool
reads_script (Some (OnScript task)) = true
reads_script other = false

-- the numbers of a command are in range
abbrev pub IsServed : Command → Type 0
IsServed (OnScript task) = Unit {0}
IsServed (Bulk n) = (1 ≤ n) × (n ≤ 16)
