-- The lines that a script gives to one handle.
use Rattle.std.specs.Prelude.{ℕ, ◌+◌, ◌==◌, Bool, false, List, [], ◌∷◌, map, filter, ◌++◌, Option, Some, None, if◌then◌else◌}
use Rattle.vm_local.specs.declared.call.Call.{Call}
use Rattle.vm_local.specs.declared.entry.Entry.{Entry}
use Rattle.vm_local.specs.declared.entry.Entry.TheVariants.{Called, Finish, Bad, Give}
use Rattle.vm_script.specs.Script.{ProcessLines}
use Rattle.vm_script.specs.declared.line.Line.{Line}
use Rattle.vm_script.specs.declared.line.LineKind.{LineKind}
use Rattle.vm_script.specs.declared.line.LineKind.TheVariants.{OnHandle, Raw}

-- a line's number and its call
pub record Numbered : Type 0 where
  pub line : ℕ
  pub call : Call

-- the call that this asks of this handle, if it asks one
abbrev pub call_on : ℕ → LineKind → Option Call
call_on handle (OnHandle h call) = if h == handle then Some call else None
call_on handle (Raw chain) = None

abbrev pub is_on : ℕ → LineKind → Bool
is_on handle (OnHandle h call) = h == handle
is_on handle (Raw chain) = false

abbrev pub numbered : ℕ → Option Call → List Numbered
numbered line None = []
numbered line (Some call) = record { line = line; call = call } ∷ []

-- the calls of a process's lines on one handle, in order, each with its line's number
abbrev pub lines_of : ℕ → List Line → List Numbered
lines_of handle [] = []
lines_of handle (l ∷ ls) = numbered l.number (call_on handle l.what) ++ lines_of handle ls

-- the calls that a log answers, in order, each with its line's number
abbrev pub calls_of : List Entry → List Numbered
calls_of [] = []
calls_of (Called line call reply ∷ es) = record { line = line; call = call } ∷ calls_of es
calls_of (Finish ∷ es) = calls_of es
calls_of (Bad ∷ es) = calls_of es
calls_of (Give ∷ es) = calls_of es

-- the echoes of a process's lines on one handle, in order
abbrev pub echoes_of : ℕ → List Line → List (List ℕ)
echoes_of handle ls = map (λ l. l.echo) (filter (λ l. is_on handle l.what) ls)

-- for each handle from this one on, as many as there are names, the echoes of the lines on it
abbrev pub echoes_from : ℕ → List (List ℕ) → List Line → List (List (List ℕ))
echoes_from handle [] ls = []
echoes_from handle (name ∷ names) ls = echoes_of handle ls ∷ echoes_from (handle + 1) names ls

-- the echoes of a process's lines, handle by handle
abbrev pub echoes_by_handle : ProcessLines → List (List (List ℕ))
echoes_by_handle p = echoes_from 0 p.handles p.lines
