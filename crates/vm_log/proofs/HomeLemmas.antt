-- Lemmas on the places of memories.
use Rattle.std.proofs.Common.{◌≡◌, ◌≢◌, inl, inr, ℕ, suc, ◌<◌, ◌-◌, true, false, ◌||◌, List, [], ◌∷◌, length, get_or, set, take, drop, Option, Some, None, refl, sym, ap, ◌∙◌, subst, arith, get_or-set_other, length-set}
use Rattle.std.proofs.lemmas.Bool.{true≢false, cases_eq}
use Rattle.vm_frame.specs.declared.mem.Held.{Held}
use Rattle.vm_frame.specs.declared.mem.Mem.{Mem}
use Rattle.vm_local.specs.State.{LocalState}
use Rattle.vm_local.specs.Memory.{is_in_use}
use Rattle.vm_local.specs.Live.{is_live, is_of_device, is_named}
use Rattle.vm_local.specs.Record.{without_bytes}
use Rattle.vm_home.specs.Home.{home_of, is_kept, IsThere, AreInPlace, kept_only}
use Rattle.vm_home.specs.Moves.{memory_at, put_back}
use Rattle.vm_home.proofs.PlaceLemmas.{or_left, or_right}
use Rattle.vm_home.proofs.StillLemmas.{kept_cases, out_away, kept_there, in_places}
use Rattle.vm_home.proofs.MoveLemmas.{at_itself}
use Rattle.vm_home.proofs.KeptLemmas.{kept_alike}
use Rattle.vm_log.specs.Places.{LetsGo}

-- ---- memories that are put back

-- the first one is put back, of more than stay
pub put_one : (s : LocalState) (hs now : List Held) (first : Held) (fresh : ℕ) (home : List (Option Mem)) → fresh < length hs → first ≡ get_or hs 0 first → now ≡ drop 1 hs →
    (put_back s (take (length now - fresh) now) (set home (memory_at s first.queue first.index) (Some first.mem)) ≡ put_back s (take (length hs - fresh) hs) home)
    × (drop (length now - fresh) now ≡ drop (length hs - fresh) hs)
put_one s [] now first fresh home within is left = absurd (omega (arith, within))
put_one s (h ∷ hs) now first fresh home within is left =
    let k : ℕ = length hs - fresh in
    let count : length (h ∷ hs) - fresh ≡ suc k = omega (arith, within) in
    let P : List Held → Held → Type 0 = λ xs x.
    (put_back s (take (length xs - fresh) xs) (set home (memory_at s x.queue x.index) (Some x.mem)) ≡ put_back s (take (length (h ∷ hs) - fresh) (h ∷ hs)) home)
    × (drop (length xs - fresh) xs ≡ drop (length (h ∷ hs) - fresh) (h ∷ hs)) in
    let base : P hs h = (ap (λ n. put_back s (take n (h ∷ hs)) home) (sym count), ap (λ n. drop n (h ∷ hs)) (sym count)) in
    subst (λ xs. P xs first) (sym left) (subst (λ x. P hs x) (sym is) base)

-- a record has the buffers of its state
pub put_shown : (s : LocalState) (hs : List Held) (home : List (Option Mem)) → put_back (without_bytes s) hs home ≡ put_back s hs home
put_shown s [] home = refl
put_shown s (h ∷ hs) home = put_shown s hs (set home (memory_at s h.queue h.index) (Some h.mem))

-- ---- memories that are let go

-- what the handle has is live
pub kept_live : (s : LocalState) (m : ℕ) → is_kept s m ≡ true → is_live s m ≡ true
kept_live s m kept = elim (kept_cases s m kept) as (λ _. is_live s m ≡ true) [
  | inl named ↦ or_right (is_in_use s m) (is_of_device s m || is_named s m) (or_right (is_of_device s m) (is_named s m) named)
  | inr rest ↦ elim rest.1 as (λ _. is_live s m ≡ true) [
    | inl device ↦ or_right (is_in_use s m) (is_of_device s m || is_named s m) (or_left (is_of_device s m) (is_named s m) device)
    | inr used ↦ or_left (is_in_use s m) (is_of_device s m || is_named s m) used
  ]
]

pub lets_go_same : (s : LocalState) (home : List (Option Mem)) → LetsGo s home home
lets_go_same s home = record { places = refl; kept = λ m is. refl; gone = λ m is. is }

pub lets_go_one : (s : LocalState) (old mid : List (Option Mem)) (n : ℕ) → is_live s n ≡ false → LetsGo s old mid → LetsGo s old (set mid n None)
lets_go_one s old mid n dead go = record {
  places = length-set mid n None ∙ go.places;
  kept = λ m is.
      let apart : m ≢ n = λ same. true≢false (sym (kept_live s m is) ∙ (ap (λ k. is_live s k) same ∙ dead)) in
      get_or-set_other mid n m None None apart ∙ go.kept m is;
  gone = λ m is. elim (cases_eq m n) as (λ _. home_of (set mid n None) m ≡ None) [
    | inl same ↦ subst (λ k. home_of (set mid n None) k ≡ None) (sym same) (at_itself mid n)
    | inr apart ↦ get_or-set_other mid n m None None apart ∙ go.gone m is
  ];
}

pub lets_go_home : (s : LocalState) (out : Option ℕ) (old new : List (Option Mem)) → LetsGo s old new → AreInPlace s out old → AreInPlace s out new
lets_go_home s out old new go h =
    in_places s out new (go.places ∙ h.places) (λ m gone. go.gone m (out_away s out old m h gone))
    (λ m here kept. subst (λ o. IsThere s m o) (sym (go.kept m kept)) (kept_there s out old m h here kept))

pub lets_go_kept : (s : LocalState) (old new : List (Option Mem)) → LetsGo s old new → kept_only s new ≡ kept_only s old
lets_go_kept s old new go = kept_alike s new old go.kept
