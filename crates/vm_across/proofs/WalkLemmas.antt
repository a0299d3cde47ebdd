-- Lemmas on the walks of the driver's chains.
use Rattle.std.proofs.Common.{◌≡◌, ℕ, zero, suc, ◌+◌, ◌*◌, ◌≤◌, ◌==◌, nat_le, Bool, true, false, List, [], ◌∷◌, ◌++◌, length, Option, Some, None, Result, Ok, Err, refl, sym, ap, ◌∙◌, subst, arith, if◌then◌else◌}
use Rattle.std.specs.List.{list_any}
use Rattle.std.proofs.lemmas.Bool.Decides.{nat_tests}
use Rattle.std.proofs.lemmas.List.{length_push}
use Rattle.std.proofs.lemmas.List.Folds.{list_any-append}
use Rattle.vm_mem.specs.Page.{page_number, lies_in_page}
use Rattle.vm_chain.specs.Desc.{is_writable}
use Rattle.vm_chain.specs.Walk.{walk_of, visits, outcome, fault_of, unless_faulty}
use Rattle.vm_chain.specs.declared.desc.Desc.{Desc}
use Rattle.vm_chain.specs.declared.fault.ChainFault.{ChainFault}
use Rattle.vm_chain.specs.declared.fault.ChainKind.{ChainKind}
use Rattle.vm_chain.specs.declared.fault.ChainKind.TheVariants.{NextOutside, TooLong, Indirect, ZeroLen, WriteBeforeRead, AddrOutside}
use Rattle.vm_host.specs.Chains.{chain_limit}
use Rattle.vm_guest.specs.Chain.{desc}
use Rattle.vm_across.proofs.FrontLemmas.{lies_there, lies_beside, reads, writes, reads_writes}

-- ---- chains without a fault

pub walks_both : (q r n m : ℕ) → (q == r) ≡ false → 1 ≤ n → n ≤ 4096 → 1 ≤ m → m ≤ 4096 → walk_of (reads_writes q r n m) 0 chain_limit (q ∷ r ∷ []) ≡ Ok (reads_writes q r n m)
unfolding walk_of
walks_both q r n m apart some fits room small =
    let read : (n == 0) ≡ false = grind (arith, nat_tests) in
    let written : (m == 0) ≡ false = grind (arith, nat_tests) in
    rw (read, written, lies_there q n fits, lies_beside q r m apart, lies_there r m small) (refl {a = Ok (reads_writes q r n m)})

pub walks_read : (q r n : ℕ) → 1 ≤ n → n ≤ 4096 → walk_of (reads q n) 0 chain_limit (q ∷ r ∷ []) ≡ Ok (reads q n)
unfolding walk_of
walks_read q r n some fits =
    let read : (n == 0) ≡ false = grind (arith, nat_tests) in
    rw (read, lies_there q n fits) (refl {a = Ok (reads q n)})

pub walks_written : (r m : ℕ) → 1 ≤ m → m ≤ 4096 → walk_of (writes r m) 0 chain_limit (r ∷ []) ≡ Ok (writes r m)
unfolding walk_of
walks_written r m room small =
    let written : (m == 0) ≡ false = grind (arith, nat_tests) in
    rw (written, lies_there r m small) (refl {a = Ok (writes r m)})

-- ---- chains with a fault

abbrev pub Fails : Result (List Desc) ChainFault → Type 0
Fails o = (fault : ChainFault) × (o ≡ Err fault)

pub fails_outside : (q r : ℕ) → Fails (walk_of (desc (q * 4096) 8 1 65535 ∷ []) 0 chain_limit (q ∷ r ∷ []))
unfolding walk_of
fails_outside q r = (record { kind = NextOutside; at = 65535 }, rw (lies_there q 8 (omega arith)) refl)

pub fails_order : (q r : ℕ) → (q == r) ≡ false → Fails (walk_of (desc (r * 4096) 64 3 1 ∷ desc (q * 4096) 8 0 0 ∷ []) 0 chain_limit (q ∷ r ∷ []))
unfolding walk_of
fails_order q r apart = (record { kind = WriteBeforeRead; at = 1 }, rw (lies_beside q r 64 apart, lies_there r 64 (omega arith)) refl)

pub fails_zero : (start : ℕ) (homes : List ℕ) → Fails (walk_of (desc start 0 0 0 ∷ []) 0 chain_limit homes)
unfolding walk_of
fails_zero start homes = (record { kind = ZeroLen; at = 0 }, refl)

pub fails_indirect : (start : ℕ) (homes : List ℕ) → Fails (walk_of (desc start 16 4 0 ∷ []) 0 chain_limit homes)
unfolding walk_of
fails_indirect start homes = (record { kind = Indirect; at = 0 }, refl)

pub fails_addr : (start q r : ℕ) → (q == page_number start) ≡ false → (r == page_number start) ≡ false → Fails (walk_of (desc start 8 0 0 ∷ []) 0 chain_limit (q ∷ r ∷ []))
unfolding walk_of
fails_addr start q r apart beside = (record { kind = AddrOutside; at = 0 }, rw (apart, beside) refl)

-- ---- a chain that goes round

-- two descriptors, each the other's next
abbrev pub round : ℕ → List Desc
round start = desc start 8 1 1 ∷ desc start 8 1 0 ∷ []

-- the first of the two, or the other one
abbrev turn : ℕ → Bool → Desc
turn start false = desc start 8 1 1
turn start true = desc start 8 1 0

abbrev place : Bool → ℕ
place false = 0
place true = 1

turn_fault : (b : Bool) (start : ℕ) (homes : List ℕ) (visited : ℕ) → list_any (lies_in_page start 8) homes ≡ true
    → fault_of chain_limit visited false homes (Some (turn start b)) ≡ (if nat_le chain_limit visited then Some TooLong else None)
turn_fault false start homes visited lies = rw lies refl
turn_fault true start homes visited lies = rw lies refl

still_read : (b : Bool) (start : ℕ) (before : List Desc) → list_any is_writable before ≡ false → list_any is_writable (before ++ turn start b ∷ []) ≡ false
still_read false start before dry = list_any-append is_writable before (turn start false ∷ []) ∙ rw dry refl
still_read true start before dry = list_any-append is_writable before (turn start true ∷ []) ∙ rw dry refl

stops_or : (over : Bool) (at : ℕ) (rest : Result (List Desc) ChainFault) → (over ≡ false → Fails rest) → Fails (unless_faulty (if over then Some TooLong else None) at rest)
stops_or true at rest goes = (record { kind = TooLong; at = at }, refl)
stops_or false at rest goes = goes refl

-- one more turn
turns : (b : Bool) (start : ℕ) (homes : List ℕ) (before : List Desc) (rest : Result (List Desc) ChainFault) → list_any (lies_in_page start 8) homes ≡ true
    → list_any is_writable before ≡ false → (nat_le chain_limit (length before) ≡ false → Fails rest)
    → Fails (unless_faulty (fault_of chain_limit (length before) (list_any is_writable before) homes (Some (turn start b))) (place b) rest)
turns b start homes before rest lies dry goes =
    let fault : fault_of chain_limit (length before) (list_any is_writable before) homes (Some (turn start b)) ≡ (if nat_le chain_limit (length before) then Some TooLong else None) =
    ap (λ w. fault_of chain_limit (length before) w homes (Some (turn start b))) dry ∙ turn_fault b start homes (length before) lies in
    let P : Option ChainKind → Type 0 = λ o. Fails (unless_faulty o (place b) rest) in
    subst P (sym fault) (stops_or (nat_le chain_limit (length before)) (place b) rest goes)

-- how many places are left once one more was visited
one_less : (visited left more : ℕ) → visited + suc left ≡ 65 → more ≡ visited + 1 → more + left ≡ 65
one_less visited left more all one = omega (arith, all, one)

more_left : (visited left : ℕ) → visited + suc left ≡ 65 → nat_le 64 visited ≡ false → 1 ≤ left
more_left visited left all few = grind (arith, nat_tests)

goes_round : (count : ℕ) (b : Bool) (start : ℕ) (homes : List ℕ) (before : List Desc) → list_any (lies_in_page start 8) homes ≡ true → list_any is_writable before ≡ false
    → length before + count ≡ 65 → 1 ≤ count → Fails (outcome chain_limit homes before (visits (round start) count (place b)))
goes_round zero b start homes before lies dry all some = absurd (omega (arith, some))
goes_round (suc count) false start homes before lies dry all some =
    turns false start homes before (outcome chain_limit homes (before ++ turn start false ∷ []) (visits (round start) count 1)) lies dry
    (λ few. goes_round count true start homes (before ++ turn start false ∷ []) lies (still_read false start before dry)
    (one_less (length before) count (length (before ++ turn start false ∷ [])) all (length_push before (turn start false))) (more_left (length before) count all few))
goes_round (suc count) true start homes before lies dry all some =
    turns true start homes before (outcome chain_limit homes (before ++ turn start true ∷ []) (visits (round start) count 0)) lies dry
    (λ few. goes_round count false start homes (before ++ turn start true ∷ []) lies (still_read true start before dry)
    (one_less (length before) count (length (before ++ turn start true ∷ [])) all (length_push before (turn start true))) (more_left (length before) count all few))

pub fails_round : (q r : ℕ) → Fails (walk_of (round (q * 4096)) 0 chain_limit (q ∷ r ∷ []))
unfolding walk_of
fails_round q r = goes_round 65 false (q * 4096) (q ∷ r ∷ []) [] (rw (lies_there q 8 (omega arith)) refl) refl refl (omega arith)
