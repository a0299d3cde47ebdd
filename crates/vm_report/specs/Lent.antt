-- The logs and the words that are lent to be printed, and when they can be printed.
use Rattle.std.specs.Prelude.{ℕ, ◌≡◌, ◌<◌, true, List, map, Some}
use Rattle.std.specs.List.{AllByRecursion}
use Rattle.vm_local.specs.declared.entry.Entry.{Entry}
use Rattle.vm_local.specs.declared.entry.Entry.TheVariants.{Called}
use Rattle.vm_script.specs.Grammar.{words_in, is_name}
use Rattle.vm_script.specs.Drafts.{process_limit}
use Rattle.vm_report.specs.declared.lent.HandleText.{HandleText}
use Rattle.vm_report.specs.declared.lent.RawText.{RawText}
use Rattle.vm_report.specs.declared.lent.LogsText.{LogsText}
use Rattle.vm_report.specs.Logs.{HandleLog, RawLog, Logs}
use Rattle.vm_report.specs.Text.{Words, reads}
use Rattle.vm_script.specs.Words.{IsEcho}
use Rattle.vm_report.specs.Printed.{HasLetters, IsRising, raw_in}

-- ---- what is lent

-- a handle's log, and the words of its calls
abbrev pub log_in : HandleText → HandleLog
log_in h =
    record { process = h.process; name = h.name.now; session = h.session; entries = h.entries.now }

abbrev pub echoes_in : HandleText → List (List ℕ)
echoes_in h = map (λ e. e.now) h.echoes.now

-- a raw line's log, and its words
abbrev pub raw_log_in : RawText → RawLog
raw_log_in r = record { process = r.process; line = r.line; chain = r.chain.now; errno = r.errno }

abbrev pub raw_echo_in : RawText → List ℕ
raw_echo_in r = r.echo.now

-- all of them
abbrev pub logs_lent : LogsText → Logs
logs_lent l = record {
  handles = map log_in l.handles.now;
  raws = map raw_log_in l.raws.now;
  journal = l.journal.now;
  wire = l.wire.now;
}

abbrev pub words_lent : LogsText → Words
words_lent l = record { calls = map echoes_in l.handles.now; raws = map raw_echo_in l.raws.now }

-- ---- what can be printed

-- the letters of the formats in an entry's reply are visible
abbrev pub IsLettered : Entry → Type 0
IsLettered (Called line call reply) = HasLetters reply
IsLettered e = Unit {0}

-- A handle's log can be printed: its name is one, its words read as its calls, and its replies are
-- of their calls' kinds.
pub record CanPrintHandle (h : HandleText) : Type 0 where
  pub process : h.process < process_limit
  pub name : is_name h.name.now ≡ true
  pub letters : AllByRecursion IsLettered h.entries.now
  pub reads : reads h.name.now h.entries.now (echoes_in h) ≡ true
  pub echoes : AllByRecursion IsEcho (echoes_in h)

-- A raw line can be printed: its words read as its chain.
pub record CanPrintRaw (r : RawText) : Type 0 where
  pub process : r.process < process_limit
  pub reads : raw_in (words_in r.echo.now) ≡ Some r.chain.now
  pub echo : IsEcho r.echo.now

-- Logs can be printed: each of them can, and they stand in the order of their processes. That all
-- numbers are in their ranges isn't asked, since their types tell it.
pub record CanPrint (l : LogsText) : Type 0 where
  pub handles : AllByRecursion CanPrintHandle l.handles.now
  pub raws : AllByRecursion CanPrintRaw l.raws.now
  pub handles_rise : IsRising 0 (map (λ h. h.process) (logs_lent l).handles)
  pub raws_rise : IsRising 0 (map (λ r. r.process) (logs_lent l).raws)
