-- Calls with the same numbers are the same.
use Rattle.std.proofs.Common.{◌≡◌, ℕ, ◌==◌, Bool, true, false, List, [], ◌∷◌, ◌++◌, length, get_or, take, drop, refl, ap, sym, ◌∙◌, Option, Some, None, if◌then◌else◌}
use Rattle.vm_local.specs.declared.call.Call.{Call}
use Rattle.vm_local.specs.declared.call.Call.TheVariants as Asks
use Rattle.vm_script.specs.Statements.{call_numbers}

abbrev flag_from : List ℕ → ℕ → Bool
flag_from ns i = get_or ns i 0 == 1

abbrev name_from : List ℕ → Option (List ℕ)
name_from ns = if flag_from ns 0 then Some (drop 1 ns) else None

-- the call that numbers stand for
abbrev call_from : List ℕ → Call
call_from [] = Asks.DqEvent
call_from (kind ∷ ns) =
    if kind == 1 then Asks.OpenHandle (flag_from ns 0)
    else (if kind == 2 then Asks.CloseHandle
    else (if kind == 3 then Asks.QueryCap
    else (if kind == 4 then Asks.EnumFmt (get_or ns 0 0) (get_or ns 1 0)
    else (if kind == 5 then Asks.GFmt (get_or ns 0 0)
    else (if kind == 6 then Asks.TryFmt (get_or ns 0 0) (record { 0 = get_or ns 1 0 }) (get_or ns 2 0) (get_or ns 3 0)
    else (if kind == 7 then Asks.SFmt (get_or ns 0 0) (record { 0 = get_or ns 1 0 }) (get_or ns 2 0) (get_or ns 3 0)
    else (if kind == 8 then Asks.EnumInput (get_or ns 0 0)
    else (if kind == 9 then Asks.GInput
    else (if kind == 10 then Asks.SInput (get_or ns 0 0)
    else (if kind == 11 then Asks.ReqBufs (get_or ns 0 0) (get_or ns 1 0) (get_or ns 2 0)
    else (if kind == 12 then Asks.QueryBuf (get_or ns 0 0) (get_or ns 1 0)
    else (if kind == 13 then Asks.UAlloc (drop 2 ns) (get_or ns 0 0) (get_or ns 1 0)
    else (if kind == 14 then Asks.QBuf (get_or ns 0 0) (get_or ns 1 0) (name_from (drop 4 ns)) (get_or ns 2 0) (get_or ns 3 0)
    else (if kind == 15 then Asks.StreamOn (get_or ns 0 0)
    else (if kind == 16 then Asks.StreamOff (get_or ns 0 0)
    else (if kind == 17 then Asks.DqBuf (get_or ns 0 0)
    else (if kind == 18 then Asks.Mmap (drop 3 ns) (get_or ns 0 0) (get_or ns 1 0) (flag_from ns 2)
    else (if kind == 19 then Asks.Munmap ns
    else (if kind == 20 then Asks.Peek (drop 2 ns) (get_or ns 0 0) (get_or ns 1 0)
    else (if kind == 21 then Asks.Hash ns
    else (if kind == 22 then Asks.Poke (take (get_or ns 1 0) (drop 2 ns)) (get_or ns 0 0) (drop (get_or ns 1 0) (drop 2 ns))
    else (if kind == 23 then Asks.Fill (drop 1 ns) (get_or ns 0 0)
    else (if kind == 24 then Asks.Subscribe (get_or ns 0 0)
    else (if kind == 25 then Asks.Unsubscribe (get_or ns 0 0)
    else Asks.DqEvent))))))))))))))))))))))))

first_part : (xs ys : List ℕ) → take (length xs) (xs ++ ys) ≡ xs
first_part [] ys = refl
first_part (x ∷ xs) ys = ap (λ zs. x ∷ zs) (first_part xs ys)

last_part : (xs ys : List ℕ) → drop (length xs) (xs ++ ys) ≡ ys
last_part [] ys = refl
last_part (x ∷ xs) ys = last_part xs ys

-- a call is what its numbers stand for
from_numbers : (call : Call) → call_from (call_numbers call) ≡ call
from_numbers (Asks.OpenHandle true) = refl
from_numbers (Asks.OpenHandle false) = refl
from_numbers Asks.CloseHandle = refl
from_numbers Asks.QueryCap = refl
from_numbers (Asks.EnumFmt t i) = refl
from_numbers (Asks.GFmt t) = refl
from_numbers (Asks.TryFmt t f w h) = refl
from_numbers (Asks.SFmt t f w h) = refl
from_numbers (Asks.EnumInput i) = refl
from_numbers Asks.GInput = refl
from_numbers (Asks.SInput i) = refl
from_numbers (Asks.ReqBufs t m n) = refl
from_numbers (Asks.QueryBuf t i) = refl
from_numbers (Asks.UAlloc u len off) = refl
from_numbers (Asks.QBuf t i None used ts) = refl
from_numbers (Asks.QBuf t i (Some user) used ts) = refl
from_numbers (Asks.StreamOn t) = refl
from_numbers (Asks.StreamOff t) = refl
from_numbers (Asks.DqBuf t) = refl
from_numbers (Asks.Mmap m t i true) = refl
from_numbers (Asks.Mmap m t i false) = refl
from_numbers (Asks.Munmap m) = refl
from_numbers (Asks.Peek m off len) = refl
from_numbers (Asks.Hash m) = refl
from_numbers (Asks.Poke m off bytes) = ap (λ name. Asks.Poke name off (drop (length m) (m ++ bytes))) (first_part m bytes) ∙ ap (λ rest. Asks.Poke m off rest) (last_part m bytes)
from_numbers (Asks.Fill m seed) = refl
from_numbers (Asks.Subscribe e) = refl
from_numbers (Asks.Unsubscribe e) = refl
from_numbers Asks.DqEvent = refl

pub same_call : (c d : Call) → call_numbers c ≡ call_numbers d → c ≡ d
same_call c d same = sym (from_numbers c) ∙ ap call_from same ∙ from_numbers d
