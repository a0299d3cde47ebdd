-- The words of lines, handle by handle, with those of one line more.
use Rattle.std.specs.Prelude.{ℕ, List, [], ◌∷◌, ◌++◌, slice_index_or, slice_set}
use Rattle.vm_script.specs.declared.line.LineKind.{LineKind}
use Rattle.vm_script.specs.declared.line.LineKind.TheVariants.{OnHandle, Raw}

-- the words with those of a line of this kind behind the others of its handle
abbrev pub with_echo : List (List (List ℕ)) → List ℕ → LineKind → List (List (List ℕ))
with_echo words echo (OnHandle h call) = slice_set words h (slice_index_or words h [] ++ echo ∷ [])
with_echo words echo (Raw chain) = words
