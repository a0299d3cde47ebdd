-- Lemmas on the descriptors that a walk comes to.
use Rattle.std.proofs.Common.{◌≡◌, ℕ, zero, suc, ◌+◌, ◌-◌, ◌<◌, Option, Some, None, Result, Ok, List, [], ◌∷◌, ◌++◌, length, slice_get, refl, sym, ap, ◌∙◌, arith, add-one, append_assoc}
use Rattle.std.proofs.lemmas.List.{append-nil}
use Rattle.std.specs.List.{flat_map, list_any}
use Rattle.std.specs.Option.{option_to_list}
use Rattle.vm_chain.specs.Desc.{following, is_writable}
use Rattle.vm_chain.specs.Walk.{Visit, visits, fault_of, unless_faulty, outcome, walk_of}
use Rattle.vm_chain.specs.declared.desc.Desc.{Desc}
use Rattle.vm_chain.specs.declared.fault.ChainFault.{ChainFault}
use Rattle.vm_chain.specs.declared.fault.ChainKind.{ChainKind}

-- the descriptors at these places
abbrev pub seen : List Visit → List Desc
seen vs = flat_map (λ v. option_to_list v.desc) vs

-- ---- they are listed one by one

pub seen_none : (table : List Desc) (count at : ℕ) → slice_get table at ≡ None → seen (visits table count at) ≡ []
seen_none table zero at none = refl
seen_none table (suc count) at none = rw none refl

pub seen_last : (table : List Desc) (count at : ℕ) (d : Desc) → 0 < count → slice_get table at ≡ Some d → following d ≡ None
    → seen (visits table count at) ≡ d ∷ []
seen_last table zero at d some there last = absurd (omega (arith, some))
seen_last table (suc count) at d some there last = rw (there, last) refl

seen_step : (table : List Desc) (count at next : ℕ) (d : Desc) → slice_get table at ≡ Some d → following d ≡ Some next
    → seen (visits table (suc count) at) ≡ d ∷ seen (visits table count next)
seen_step table count at next d there more = rw (there, more) refl

pub seen_more : (table : List Desc) (count at next : ℕ) (d : Desc) → 0 < count → slice_get table at ≡ Some d → following d ≡ Some next
    → seen (visits table count at) ≡ d ∷ seen (visits table (count - 1) next)
seen_more table count at next d some there more =
    let there_is : count ≡ count - 1 + 1 = omega (arith, some) in
    let whole : count ≡ suc (count - 1) = there_is ∙ add-one (count - 1) in
    ap (λ n. seen (visits table n at)) whole ∙ seen_step table (count - 1) at next d there more

-- ---- a walk without a fault has all of them

unless_ok : (fault : Option ChainKind) (at : ℕ) (rest : Result (List Desc) ChainFault) (descs : List Desc) → unless_faulty fault at rest ≡ Ok descs → rest ≡ Ok descs
unless_ok None at rest descs is = is
unless_ok (Some kind) at rest descs is = cc

outcome_seen : (limit : ℕ) (homes : List ℕ) (before : List Desc) (vs : List Visit) (descs : List Desc) → outcome limit homes before vs ≡ Ok descs → before ++ seen vs ≡ descs
outcome_seen limit homes before [] descs is = (let same : before ≡ descs = cc in append-nil before ∙ same)
outcome_seen limit homes before (v ∷ vs) descs is =
    let rest = unless_ok (fault_of limit (length before) (list_any is_writable before) homes v.desc) v.at
    (outcome limit homes (before ++ option_to_list v.desc) vs) descs is in
    sym (append_assoc before (option_to_list v.desc) (seen vs)) ∙ outcome_seen limit homes (before ++ option_to_list v.desc) vs descs rest

pub walk_seen : (table : List Desc) (homes : List ℕ) (descs : List Desc) → walk_of table 0 64 homes ≡ Ok descs → seen (visits table 65 0) ≡ descs
unfolding walk_of
walk_seen table homes descs is = outcome_seen 64 homes [] (visits table 65 0) descs is
