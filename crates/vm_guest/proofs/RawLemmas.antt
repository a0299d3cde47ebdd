-- What a raw line asks is what its chain does, by the walk of its descriptors.
use Rattle.std.proofs.Common.{◌≡◌, ℕ, zero, suc, ◌+◌, ◌-◌, ◌*◌, ◌/◌, ◌%◌, ◌^◌, ◌<◌, ◌≤◌, ◌==◌, nat_lt, nat_le, Bool, true, false, List, [], ◌∷◌, ◌++◌, Option, Some, None, Result, Ok, Err, length, refl, sym, ap, ◌∙◌, arith, if◌then◌else◌}
use Rattle.std.specs.List.{list_any}
use Rattle.std.proofs.lemmas.Bool.Decides.{nat_tests}
use Rattle.std.proofs.lemmas.List.{length-append}
use Rattle.std.proofs.lemmas.List.Folds.{list_any_at}
use Rattle.std.proofs.Math.Nat.{mul-div_cancel, mul-mod_left}
use Rattle.vm_chain.specs.Chain.{writable_bytes}
use Rattle.vm_chain.specs.Desc.{is_writable}
use Rattle.vm_chain.specs.Walk.{walk_of, visits, outcome, fault_of, unless_faulty}
use Rattle.vm_chain.specs.declared.desc.Desc.{Desc}
use Rattle.vm_chain.specs.declared.fault.ChainFault.{ChainFault}
use Rattle.vm_chain.specs.declared.fault.ChainKind.{ChainKind}
use Rattle.vm_mem.specs.Page.{lies_in_page}
use Rattle.vm_script.specs.declared.line.RawChain.{RawChain}
use Rattle.vm_script.specs.declared.line.RawChain.TheVariants.{Loop, Outside, Order, Zero, Addr, Indirect, Bytes}
use Rattle.vm_wire.specs.Message.Ask.{Unusable, Judged}
use Rattle.vm_wire.specs.Wire.{judged}
use Rattle.vm_guest.specs.Chain.{desc, command_page, reply_page, command_start, reply_start}
use Rattle.vm_guest.specs.Laws.{walked_ask, raw_walk}
use Rattle.vm_guest.specs.Raw.{raw_table, raw_bytes, raw_ask, bytes_ask, IsFitRaw}

-- the pages of a process's chain
abbrev own_pages : ℕ → List ℕ
own_pages p = command_page p ∷ reply_page p ∷ []

-- ---- chains that are faulty further on

unless_unusable : (o : Option ChainKind) (at : ℕ) (rest : Result (List Desc) ChainFault) → walked_ask rest [] ≡ Unusable → walked_ask (unless_faulty o at rest) [] ≡ Unusable
unless_unusable None at rest is = is
unless_unusable (Some kind) at rest is = refl

-- the next descriptor is one too many, or the rest is unusable
next_unusable : (b : Bool) (homes : List ℕ) (before : List Desc) (d : Desc) (at : ℕ) (rest : Result (List Desc) ChainFault) → nat_le 64 (length before) ≡ b
    → (b ≡ false → walked_ask rest [] ≡ Unusable)
    → walked_ask (unless_faulty (fault_of 64 (length before) (list_any is_writable before) homes (Some d)) at rest) [] ≡ Unusable
next_unusable true homes before d at rest is further = rw is refl
next_unusable false homes before d at rest is further = unless_unusable (fault_of 64 (length before) (list_any is_writable before) homes (Some d)) at rest (further refl)

abbrev loop : ℕ → List Desc
loop p = raw_table p Loop

-- behind these descriptors, the walk comes to no end from each of the two of a loop
abbrev LoopsOn : ℕ → ℕ → List Desc → Type 0
LoopsOn p n before =
    (walked_ask (outcome 64 (own_pages p) before (visits (loop p) n 0)) [] ≡ Unusable)
    × (walked_ask (outcome 64 (own_pages p) before (visits (loop p) n 1)) [] ≡ Unusable)

loop_further : (p n : ℕ) (before : List Desc) (d : Desc) → ((xs : List Desc) → length xs ≤ 64 → length xs + n ≡ 65 → LoopsOn p n xs) → length before + suc n ≡ 65
    → nat_le 64 (length before) ≡ false → LoopsOn p n (before ++ d ∷ [])
loop_further p n before d further whole fits =
    let one : length (before ++ d ∷ []) ≡ length before + 1 = length-append before (d ∷ []) in
    let less : length before < 64 = grind (arith, nat_tests, fits) in
    further (before ++ d ∷ []) (omega (arith, one, less)) (omega (arith, one, whole))

loop_unusable : (p n : ℕ) (before : List Desc) → length before ≤ 64 → length before + n ≡ 65 → LoopsOn p n before
loop_unusable p zero before few whole = absurd (omega (arith, few, whole))
loop_unusable p (suc n) before few whole =
    let first : Desc = desc (command_start p) 8 1 1 in
    let second : Desc = desc (command_start p) 8 1 0 in (
      next_unusable (nat_le 64 (length before)) (own_pages p) before first 0 (outcome 64 (own_pages p) (before ++ first ∷ []) (visits (loop p) n 1)) refl
          (λ fits. (loop_further p n before first (λ xs. loop_unusable p n xs) whole fits).1),
      next_unusable (nat_le 64 (length before)) (own_pages p) before second 1 (outcome 64 (own_pages p) (before ++ second ∷ []) (visits (loop p) n 0)) refl
          (λ fits. (loop_further p n before second (λ xs. loop_unusable p n xs) whole fits).0),
    )

-- ---- where the pages are

-- some bytes from the start of a page on lie in it
in_page : (n len : ℕ) → len ≤ 4096 → lies_in_page (n * 4096) len n ≡ true
in_page n len fits =
    let number : n * 4096 / 4096 ≡ n = mul-div_cancel n (omega arith) in
    let place : n * 4096 % 4096 ≡ 0 = mul-mod_left n 4096 in
    rw (number, place) (grind (arith, nat_tests, fits))

command_lies : (p len : ℕ) → len ≤ 4096 → list_any (λ h. lies_in_page (command_start p) len h) (own_pages p) ≡ true
command_lies p len fits = list_any_at (λ h. lies_in_page (command_start p) len h) (own_pages p) 0 0 (omega arith) (in_page (command_page p) len fits)

reply_lies : (p len : ℕ) → len ≤ 4096 → list_any (λ h. lies_in_page (reply_start p) len h) (own_pages p) ≡ true
reply_lies p len fits = list_any_at (λ h. lies_in_page (reply_start p) len h) (own_pages p) 1 0 (omega arith) (in_page (reply_page p) len fits)

-- no process has a page at the end of the addresses
nowhere : (p : ℕ) → p < 2 ^ 16 → list_any (λ h. lies_in_page (2 ^ 64 - 4096) 8 h) (own_pages p) ≡ false
nowhere p small =
    let command : (command_page p == 4503599627370495) ≡ false = grind (arith, nat_tests, small) in
    let reply : (reply_page p == 4503599627370495) ≡ false = grind (arith, nat_tests, small) in
    rw (command, reply) refl

-- ---- bytes with room for a reply

bytes_walk : (p room : ℕ) (bytes : List ℕ) (b : Bool) → (room == 0) ≡ b → 1 ≤ length bytes → length bytes ≤ 256 → room ≤ 4096
    → bytes_ask bytes room ≡ walked_ask (raw_walk p (Bytes bytes room)) bytes
unfolding walk_of
bytes_walk p room bytes true empty some few roomy =
    let filled : (length bytes == 0) ≡ false = grind (arith, nat_tests, some) in
    let lies = command_lies p (length bytes) (omega (arith, few)) in
    let one : List Desc = desc (command_start p) (length bytes) 0 0 ∷ [] in
    let two : List Desc = desc (command_start p) (length bytes) 1 1 ∷ desc (reply_start p) room 2 0 ∷ [] in
    let walked : walked_ask (raw_walk p (Bytes bytes room)) bytes ≡ walked_ask (walk_of one 0 64 (own_pages p)) bytes =
    ap (λ b. walked_ask (walk_of (if b then one else two) 0 64 (own_pages p)) bytes) empty in
    let asked : walked_ask (walk_of one 0 64 (own_pages p)) bytes ≡ Unusable = rw (filled, lies) refl in
    let small : nat_lt room 8 ≡ true = grind (arith, nat_tests, empty) in
    ap (λ b. if b then Unusable else Judged (judged bytes room)) small ∙ sym asked ∙ sym walked
bytes_walk p room bytes false empty some few roomy =
    let filled : (length bytes == 0) ≡ false = grind (arith, nat_tests, some) in
    let lies = command_lies p (length bytes) (omega (arith, few)) in
    let lies_too = reply_lies p room roomy in
    let read : Desc = desc (command_start p) (length bytes) 1 1 in
    let written : Desc = desc (reply_start p) room 2 0 in
    let one : List Desc = desc (command_start p) (length bytes) 0 0 ∷ [] in
    let two : List Desc = read ∷ written ∷ [] in
    let second : Option ChainKind = fault_of 64 1 (list_any is_writable (read ∷ [])) (own_pages p) (Some written) in
    let walked : walked_ask (raw_walk p (Bytes bytes room)) bytes ≡ walked_ask (walk_of two 0 64 (own_pages p)) bytes =
    ap (λ b. walked_ask (walk_of (if b then one else two) 0 64 (own_pages p)) bytes) empty in
    let none : fault_of 64 0 (list_any is_writable []) (own_pages p) (Some read) ≡ None = rw (filled, lies) refl in
    let none_too : second ≡ None = rw (empty, lies_too) refl in
    let asked : walked_ask (walk_of two 0 64 (own_pages p)) bytes ≡ walked_ask (Ok two) bytes =
    ap (λ o. walked_ask (unless_faulty o 0 (unless_faulty second 1 (Ok two))) bytes) none ∙ ap (λ o. walked_ask (unless_faulty o 1 (Ok two)) bytes) none_too in
    let room_is : writable_bytes two ≡ room = omega arith in
    ap (λ n. if nat_lt n 8 then Unusable else Judged (judged bytes n)) (sym room_is) ∙ sym asked ∙ sym walked

-- what a raw line asks is what its chain does
pub asks_by_chain : (p : ℕ) (chain : RawChain) → p < 2 ^ 16 → IsFitRaw chain → raw_ask chain ≡ walked_ask (raw_walk p chain) (raw_bytes chain)
unfolding walk_of
asks_by_chain p Loop small fit = sym ((loop_unusable p 65 [] (omega arith) refl).0)
asks_by_chain p Outside small fit = sym (unless_unusable (fault_of 64 0 false (own_pages p) (Some (desc (command_start p) 8 1 65535))) 0 _ refl)
asks_by_chain p Order small fit = sym (unless_unusable (fault_of 64 0 false (own_pages p) (Some (desc (reply_start p) 64 3 1))) 0 _ refl)
asks_by_chain p Zero small fit = refl
asks_by_chain p Addr small fit = rw (nowhere p small) refl
asks_by_chain p Indirect small fit = refl
asks_by_chain p (Bytes bytes room) small fit = bytes_walk p room bytes (room == 0) refl fit.0 fit.1 fit.2
