-- A step of laying a parcel's table into the ring's.
use Rattle.std.proofs.Common.{◌≡◌, ◌≢◌, ℕ, ◌+◌, ◌<◌, List, length, set, slice_get, slice_index, Some, option_map, sym, ap, ◌∙◌, arith, inl, inr}
use Rattle.std.proofs.lemmas.Bool.{cases_eq}
use Rattle.vm_chain.specs.declared.desc.Desc.{Desc}
use Rattle.vm_split.specs.Stands.{on_ring}
use Rattle.vm_split.proofs.ListLemmas.{get-set_same, get-set_other}

-- the first `k` descriptors of the posted table are laid
abbrev pub LaidTo : ℕ → List Desc → List ℕ → List Desc → Type 0
LaidTo k table places posted = (i : ℕ) (d : Desc) → i < k → slice_get posted i ≡ Some d → slice_get table (slice_index places i) ≡ Some (on_ring places d)

-- descriptors that aren't among the first `k` places are as before
abbrev pub KeptTo : ℕ → List Desc → List ℕ → List Desc → Type 0
KeptTo k table places before = (d : ℕ) → ((i : ℕ) → i < k → slice_index places i ≢ d) → slice_get table d ≡ slice_get before d

pub laid_more : (k : ℕ) (table : List Desc) (places : List ℕ) (posted : List Desc) (now : Desc)
    → slice_index places k < length table → ((i : ℕ) → i < k → slice_index places i < slice_index places k) → slice_get posted k ≡ Some now
    → LaidTo k table places posted → LaidTo (k + 1) (set table (slice_index places k) (on_ring places now)) places posted
laid_more k table places posted now within rising here laid i d less there = elim (cases_eq i k) [
  | inl same ↦
      let one : Some now ≡ Some d = sym here ∙ (ap (slice_get posted) (sym same) ∙ there) in
      let equal : Some (on_ring places now) ≡ Some (on_ring places d) = ap (option_map (on_ring places)) one in
      rw same (get-set_same table (slice_index places k) (on_ring places now) within ∙ equal)
  | inr differs ↦
      let before : i < k = omega (arith, less, differs) in
      let below = rising i before in
      get-set_other table (slice_index places k) (slice_index places i) (on_ring places now) (λ same. omega (arith, below, same)) ∙ laid i d before there
]

pub kept_more : (k : ℕ) (table : List Desc) (places : List ℕ) (before : List Desc) (now : Desc)
    → KeptTo k table places before → KeptTo (k + 1) (set table (slice_index places k) now) places before
kept_more k table places before now kept d away =
    get-set_other table (slice_index places k) d now (λ same. away k (omega arith) (sym same))
    ∙ kept d (λ i less. away i (omega (arith, less)))
