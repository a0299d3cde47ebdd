-- A legal run of a script under a seed's schedule, and the text that stands for it.
use Rattle.std.specs.Prelude.{ℕ, ◌≤◌, ◌+◌, ◌-◌, ◌*◌, ◌^◌, ◌≡◌, ◌⊎◌, List, length, sum_by}
use Rattle.vm_script.specs.Script.{ScriptLines}
use Rattle.vm_realm.specs.Left.{bad_in}
use Rattle.vm_realm.specs.Schedule.{IsScheduled, Schedules}
use Rattle.vm_realm.specs.World.{WorldState, IsOpening, statement_count}
use Rattle.vm_realm.specs.declared.step.Step.{Step}
use Rattle.vm_report.specs.Logs.{Logs}
use Rattle.vm_report.specs.Printed.{IsPrinted, IsPrintedWith}
use Rattle.vm_output.specs.Printing.{words_of}
use Rattle.vm_output.specs.ScriptLogs.{AreLogsOf, logs_of_world}

-- ---- frames that fail

-- how many frames failed in these logs
abbrev pub bad_among : Logs → ℕ
bad_among logs = sum_by (λ log. bad_in log.entries) logs.handles

-- how often an engine had failed before a run and after it
pub record Failures : Type 0 where
  pub before : ℕ
  pub after : ℕ

abbrev pub failures : ℕ → ℕ → Failures
failures before after = record { before = before; after = after }

-- The engine failed so often at least. A count that stands at 2^64 - 1 can rise no more.
abbrev pub FailedFor : ℕ → Failures → Type 0
FailedFor bad fails = (bad + fails.before ≤ fails.after) ⊎ (2 ^ 64 - 1 ≤ fails.after)

-- ---- the text

-- These are the logs that the text is printed of, and no others are.
pub record AreTold (text : List ℕ) (logs : Logs) : Type 0 where
  pub printed : IsPrinted text logs
  pub alone : (others : Logs) → IsPrinted text others → others ≡ logs

-- The seed's schedule leads from the one world, which is the script's before its first line, to the
-- other, in at most 12 steps for each statement; the logs there are legal runs of the script's
-- lines, no more frames failed than the engine did, and the text is theirs alone, in the script's
-- own words.
pub record IsRunBetween (seed : ℕ) (fails : Failures) (script : ScriptLines)
    (w w' : WorldState) (text : List ℕ) : Type 0 where
  pub begins : IsOpening script w
  pub scheduled : IsScheduled w seed w'
  -- its steps are few
  pub few : (steps : List Step) → Schedules steps w seed w' →
      length steps ≤ 12 * statement_count script
  pub logs : AreLogsOf script (logs_of_world script w')
  pub few_bad : FailedFor (bad_among (logs_of_world script w')) fails
  pub words : IsPrintedWith (words_of script) text (logs_of_world script w')
  pub told : AreTold text (logs_of_world script w')

-- the text is that of the script's run under the seed's schedule
abbrev pub IsRun : ℕ → Failures → ScriptLines → List ℕ → Type 0
IsRun seed fails script text =
    (w : WorldState) × (w' : WorldState) × IsRunBetween seed fails script w w' text
