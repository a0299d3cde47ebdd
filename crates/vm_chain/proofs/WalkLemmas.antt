-- One step of the loop that walks a table.
use Rattle.std.proofs.Common.{◌≡◌, ℕ, suc, ◌-◌, ◌<◌, ◌++◌, List, [], ◌∷◌, length, slice_get, Option, Some, None, Err, subst, refl, arith}
use Rattle.std.specs.List.{list_any}
use Rattle.std.specs.Option.{option_map_or}
use Rattle.std.proofs.lemmas.List.{length_push}
use Rattle.vm_chain.specs.declared.desc.Desc.{Desc}
use Rattle.vm_chain.specs.declared.fault.ChainKind.{ChainKind}
use Rattle.vm_chain.specs.Desc.{following, is_writable}
use Rattle.vm_chain.specs.Walk.{Visit, visits, fault_of, outcome}

-- the places that are left of a walk, once the descriptors `before` were visited
abbrev pub left_of : List Desc → ℕ → List Desc → Option ℕ → List Visit
left_of table limit before next = option_map_or (λ at. visits table (suc (limit - length before)) at) next []

pub goes_on : (table : List Desc) (limit : ℕ) (homes : List ℕ) (before : List Desc) (at : ℕ) (desc : Desc)
    → slice_get table at ≡ Some desc
    → None ≡ fault_of limit (length before) (list_any is_writable before) homes (slice_get table at)
    → length before < limit
    → outcome limit homes (before ++ desc ∷ []) (left_of table limit (before ++ desc ∷ []) (following desc))
    ≡ outcome limit homes before (left_of table limit before (Some at))
goes_on table limit homes before at desc here fine room =
    let count : limit - length before ≡ suc (limit - length (before ++ desc ∷ [])) =
    let pushed = length_push before desc in omega arith in
    let P : ℕ → Type 0 = λ n.
    outcome limit homes (before ++ desc ∷ []) (option_map_or (λ next. visits table n next) (following desc) [])
    ≡ outcome limit homes before (left_of table limit before (Some at)) in
    subst P count (rw (← fine, here) refl)

pub stops : (table : List Desc) (limit : ℕ) (homes : List ℕ) (before : List Desc) (at : ℕ) (kind : ChainKind)
    → Some kind ≡ fault_of limit (length before) (list_any is_writable before) homes (slice_get table at)
    → outcome limit homes before (left_of table limit before (Some at)) ≡ Err (record { kind = kind; at = at })
stops table limit homes before at kind faulty = rw (← faulty) refl
