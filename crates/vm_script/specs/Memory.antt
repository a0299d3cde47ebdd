-- Names of memory. The names of a handle's mappings and of its user memory are one set.
use Rattle.std.specs.Prelude.{ℕ, ◌≡◌, ◌==◌, List, [], ◌∷◌, slice_index_or, Some, Result, Ok, Err, if◌then◌else◌}
use Rattle.std.specs.List.{flat_map}
use Rattle.std.specs.Option.{is_some}
use Rattle.vm_local.specs.declared.call.Call.{Call}
use Rattle.vm_local.specs.declared.call.Call.TheVariants.{UAlloc, QBuf, Mmap, Munmap, Peek, Hash, Poke, Fill}
use Rattle.vm_script.specs.declared.fault.ScriptKind.{ScriptKind}
use Rattle.vm_script.specs.declared.fault.ScriptKind.TheVariants.{OpenTwice, NotDeclared}
use Rattle.vm_script.specs.declared.line.Line.{Line}
use Rattle.vm_script.specs.declared.line.LineKind.{LineKind}
use Rattle.vm_script.specs.declared.line.LineKind.TheVariants.{OnHandle, Raw}
use Rattle.vm_script.specs.declared.mention.Mention.{Mention}
use Rattle.vm_script.specs.declared.mention.Mention.TheVariants.{Nothing, Declares, Wants}
use Rattle.vm_script.specs.Names.{place_from}

-- the name of memory in a call: the call declares it, or wants one that is declared
abbrev pub mention : Call → Mention
mention (UAlloc u len off) = Declares u
mention (Mmap m t i ro) = Declares m
mention (QBuf t i (Some u) used ts) = Wants u
mention (Munmap m) = Wants m
mention (Peek m off len) = Wants m
mention (Hash m) = Wants m
mention (Poke m off bytes) = Wants m
mention (Fill m seed) = Wants m
mention call = Nothing

abbrev pub declared_by : Mention → List (List ℕ)
declared_by (Declares name) = name ∷ []
declared_by other = []

-- the name of memory that a line declares in this handle
abbrev pub declared_on : ℕ → LineKind → List (List ℕ)
declared_on handle (OnHandle h call) = if h == handle then declared_by (mention call) else []
declared_on handle (Raw chain) = []

-- the names of memory that lines declare in this handle
abbrev pub memories_of : ℕ → List Line → List (List ℕ)
memories_of handle ls = flat_map (λ l. declared_on handle l.what) ls

-- what is wrong with a name of memory, by the names that are declared before it
abbrev pub mention_check : Mention → List (List ℕ) → Result (Unit {0}) ScriptKind
mention_check Nothing names = Ok tt
mention_check (Declares name) names =
    if is_some (place_from 0 name names) then Err OpenTwice else Ok tt
mention_check (Wants name) names =
    if is_some (place_from 0 name names) then Ok tt else Err NotDeclared

-- these are, handle by handle, the names of memory that lines declare
abbrev pub AreMemories : List (List (List ℕ)) → List Line → Type 0
AreMemories names ls = (handle : ℕ) → slice_index_or names handle [] ≡ memories_of handle ls
