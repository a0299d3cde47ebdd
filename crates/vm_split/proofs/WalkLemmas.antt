-- The walk in the ring over a parcel's chain has the outcome of the parcel's own table, with renamed indices.
use Rattle.std.proofs.Common.{◌≡◌, ℕ, zero, suc, ◌<◌, ◌≤◌, ◌++◌, ◌⊎◌, Bool, List, [], ◌∷◌, length, map, get_or, slice_get, Option, Some, None, option_map, Result, refl, ap, sym, ◌∙◌, arith, inl, inr}
use Rattle.std.specs.List.{list_any}
use Rattle.std.specs.Option.{option_map_or, option_and_then, option_to_list}
use Rattle.std.proofs.lemmas.Bool.{cases_Bool}
use Rattle.std.proofs.lemmas.List.{map-append, length-map, get_or_past}
use Rattle.std.proofs.lemmas.Option.{slice_get_past, slice_get-get_or}
use Rattle.vm_chain.specs.declared.desc.Desc.{Desc}
use Rattle.vm_chain.specs.declared.fault.ChainFault.{ChainFault}
use Rattle.vm_chain.specs.declared.fault.ChainKind.{ChainKind}
use Rattle.vm_chain.specs.Desc.{following, has_next, is_writable}
use Rattle.vm_chain.specs.Walk.{Visit, visits, fault_of, unless_faulty, outcome, walk_of}
use Rattle.vm_split.specs.Kept.{IsLaid}
use Rattle.vm_split.specs.Stands.{ring_index, on_ring, renamed}

-- a place that the walk comes to, on the ring
abbrev ring_visit : List ℕ → Visit → Visit
ring_visit places v = record { at = ring_index places v.at; desc = option_map (on_ring places) v.desc }

either_default : (xs : List ℕ) (i d e : ℕ) → i < length xs → get_or xs i d ≡ get_or xs i e
either_default [] i d e within = absurd (omega (arith, within))
either_default (x ∷ xs) zero d e within = refl
either_default (x ∷ xs) (suc i) d e within = either_default xs i d e (omega (arith, within))

within_or_past : (n m : ℕ) → (n < m) ⊎ (m ≤ n)
within_or_past n zero = inr (omega arith)
within_or_past zero (suc m) = inl (omega arith)
within_or_past (suc n) (suc m) = elim (within_or_past n m) [ inl less ↦ inl (omega (arith, less)) | inr more ↦ inr (omega (arith, more)) ]

-- what stands on the ring for an index of the table
desc_at : (ring posted : List Desc) (places : List ℕ) (at : ℕ) → length places ≡ length posted → length ring ≤ 65535 → IsLaid ring places posted
    → slice_get ring (ring_index places at) ≡ option_map (on_ring places) (slice_get posted at)
desc_at ring posted places at whole small laid = elim (within_or_past at (length posted)) [
  | inl within ↦
      let none : Desc = record { addr = 0; len = 0; flags = 0; next = 0 } in
      let there = slice_get-get_or posted at none within in
      let place : ring_index places at ≡ get_or places at 0 = either_default places at 65535 0 (omega (arith, within, whole)) in
      ap (slice_get ring) place ∙ (laid at (get_or posted at none) there ∙ ap (option_map (on_ring places)) (sym there))
  | inr outside ↦
      let place : ring_index places at ≡ 65535 = get_or_past places at 65535 (omega (arith, outside, whole)) in
      ap (slice_get ring) place ∙ (slice_get_past ring 65535 small ∙ ap (option_map (on_ring places)) (sym (slice_get_past posted at outside)))
]

-- the places behind a descriptor
behind : (ring posted : List Desc) (places : List ℕ) (count : ℕ) (o : Option Desc) → ((at : ℕ) → visits ring count (ring_index places at) ≡ map (ring_visit places) (visits posted count at))
    → option_map_or (λ next. visits ring count next) (option_and_then following (option_map (on_ring places) o)) []
    ≡ map (ring_visit places) (option_map_or (λ next. visits posted count next) (option_and_then following o) [])
behind ring posted places count None rest = refl
behind ring posted places count (Some d) rest = elim (cases_Bool (has_next d)) [
  | inl more ↦ rw more (rest d.next)
  | inr last ↦ rw last refl
]

visits_ring : (ring posted : List Desc) (places : List ℕ) (count at : ℕ) → length places ≡ length posted → length ring ≤ 65535 → IsLaid ring places posted
    → visits ring count (ring_index places at) ≡ map (ring_visit places) (visits posted count at)
visits_ring ring posted places zero at whole small laid = refl
visits_ring ring posted places (suc count) at whole small laid =
    let here = desc_at ring posted places at whole small laid in
    let rest = behind ring posted places count (slice_get posted at) (λ at. visits_ring ring posted places count at whole small laid) in
    rw (here, rest) refl

fault_same : (limit visited : ℕ) (before : Bool) (homes places : List ℕ) (o : Option Desc)
    → fault_of limit visited before homes (option_map (on_ring places) o) ≡ fault_of limit visited before homes o
fault_same limit visited before homes places None = refl
fault_same limit visited before homes places (Some d) = refl

writable_same : (places : List ℕ) (ds : List Desc) → list_any is_writable (map (on_ring places) ds) ≡ list_any is_writable ds
writable_same places [] = refl
writable_same places (d ∷ ds) = rw (writable_same places ds) refl

list_same : (places : List ℕ) (o : Option Desc) → option_to_list (option_map (on_ring places) o) ≡ map (on_ring places) (option_to_list o)
list_same places None = refl
list_same places (Some d) = refl

faulty_same : (places : List ℕ) (fault : Option ChainKind) (at : ℕ) (rest : Result (List Desc) ChainFault)
    → unless_faulty fault (ring_index places at) (renamed places rest) ≡ renamed places (unless_faulty fault at rest)
faulty_same places None at rest = refl
faulty_same places (Some kind) at rest = refl

outcome_ring : (limit : ℕ) (homes places : List ℕ) (before : List Desc) (vs : List Visit)
    → outcome limit homes (map (on_ring places) before) (map (ring_visit places) vs) ≡ renamed places (outcome limit homes before vs)
outcome_ring limit homes places before [] = refl
outcome_ring limit homes places before (v ∷ vs) =
    let count = length-map before (on_ring places) in
    let writable = writable_same places before in
    let fault = fault_same limit (length before) (list_any is_writable before) homes places v.desc in
    let pushed : map (on_ring places) before ++ option_to_list (option_map (on_ring places) v.desc) ≡ map (on_ring places) (before ++ option_to_list v.desc) =
    ap (λ (ds : List Desc). map (on_ring places) before ++ ds) (list_same places v.desc) ∙ sym (map-append (on_ring places) before (option_to_list v.desc)) in
    let rest = outcome_ring limit homes places (before ++ option_to_list v.desc) vs in
    rw (count, writable, fault, pushed, rest)
    (faulty_same places (fault_of limit (length before) (list_any is_writable before) homes v.desc) v.at (outcome limit homes (before ++ option_to_list v.desc) vs))

pub walk_ring : (ring posted : List Desc) (places : List ℕ) (head limit : ℕ) (homes : List ℕ) → length places ≡ length posted → length ring ≤ 65535 → IsLaid ring places posted
    → ring_index places 0 ≡ head → walk_of ring head limit homes ≡ renamed places (walk_of posted 0 limit homes)
unfolding walk_of
walk_ring ring posted places head limit homes whole small laid first =
    let start : visits ring (suc limit) head ≡ map (ring_visit places) (visits posted (suc limit) 0) =
    ap (visits ring (suc limit)) (sym first) ∙ visits_ring ring posted places (suc limit) 0 whole small laid in
    ap (λ (vs : List Visit). outcome limit homes [] vs) start ∙ outcome_ring limit homes places [] (visits posted (suc limit) 0)
