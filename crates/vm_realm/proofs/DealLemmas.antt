-- A journal that is dealt from the handles' mappings goes on with one of them; and where each handle's share stands.
use Rattle.std.proofs.Common.{◌≡◌, ◌⊎◌, ℕ, zero, suc, ◌+◌, List, [], ◌∷◌, ◌++◌, Option, Some, None, length, set, map, is_some, refl, sym, ap, ◌∙◌, subst, arith, inl, inr}
use Rattle.std.specs.Prelude.{slice_get}
use Rattle.std.specs.List.{All}
use Rattle.std.specs.Option.{option_map, option_and_then}
use Rattle.std.proofs.lemmas.Bool.{cases_eq}
use Rattle.std.proofs.lemmas.List.{map-append}
use Rattle.std.proofs.lemmas.List.Elements.{All-head, All-tail}
use Rattle.std.proofs.lemmas.Option.{none-some, same_Some}
use Rattle.vm_region.specs.declared.entry.RegionEntry.{RegionEntry}
use Rattle.vm_handle.specs.Handle.{HandleState}
use Rattle.vm_guest.specs.Guest.{process_at, handle_named}
use Rattle.vm_guest.specs.Process.{ProcessState, handle_at}
use Rattle.vm_realm.specs.World.{WorldState}
use Rattle.vm_realm.specs.Inner.{Inner}
use Rattle.vm_realm.specs.Mapped.{Mapping as Telling, Life, IsDealt, DealsFrom, lives_after, Share}
use Rattle.vm_realm.specs.Sound.{IsHandle, id_at, inner_at, share_of, shares_from, all_shares}
use Rattle.vm_realm.proofs.ShareLemmas.{named_there, some_named}

-- ---- lists

pub get_set : {A : Type 0} (xs : List A) (k : ℕ) (x y : A) → slice_get xs k ≡ Some y → slice_get (set xs k x) k ≡ Some x
get_set [] k x y is = absurd (none-some y is)
get_set (z ∷ xs) zero x y is = refl
get_set (z ∷ xs) (suc k) x y is = get_set xs k x y is

pub get_other : {A : Type 0} (xs : List A) (k j : ℕ) (x : A) → ¬ (j ≡ k) → slice_get (set xs k x) j ≡ slice_get xs j
get_other [] k j x differs = refl
get_other (z ∷ xs) zero zero x differs = absurd (differs refl)
get_other (z ∷ xs) zero (suc j) x differs = refl
get_other (z ∷ xs) (suc k) zero x differs = refl
get_other (z ∷ xs) (suc k) (suc j) x differs = get_other xs k j x (λ same. differs (ap suc same))

set_again : {A : Type 0} (xs : List A) (k : ℕ) (x y : A) → set (set xs k x) k y ≡ set xs k y
set_again [] k x y = refl
set_again (z ∷ xs) zero x y = refl
set_again (z ∷ xs) (suc k) x y = ap (λ zs. z ∷ zs) (set_again xs k x y)

set_swap : {A : Type 0} (xs : List A) (k j : ℕ) (x y : A) → ¬ (j ≡ k) → set (set xs j y) k x ≡ set (set xs k x) j y
set_swap [] k j x y differs = refl
set_swap (z ∷ xs) zero zero x y differs = absurd (differs refl)
set_swap (z ∷ xs) zero (suc j) x y differs = refl
set_swap (z ∷ xs) (suc k) zero x y differs = refl
set_swap (z ∷ xs) (suc k) (suc j) x y differs = ap (λ zs. z ∷ zs) (set_swap xs k j x y (λ same. differs (ap suc same)))

set_own : {A : Type 0} (xs : List A) (k : ℕ) (x : A) → slice_get xs k ≡ Some x → set xs k x ≡ xs
set_own [] k x is = refl
set_own (z ∷ xs) zero x is = ap (λ y. y ∷ xs) (sym (same_Some z x is))
set_own (z ∷ xs) (suc k) x is = ap (λ zs. z ∷ zs) (set_own xs k x is)

all_get : {A : Type 0} (P : A → Type 0) (xs : List A) (k : ℕ) (x : A) → All P xs → slice_get xs k ≡ Some x → P x
all_get P [] k x all is = absurd (none-some x is)
all_get P (z ∷ xs) zero x all is = subst P (same_Some z x is) (All-head P z xs all)
all_get P (z ∷ xs) (suc k) x all is = all_get P xs k x (All-tail P z xs all) is

pub get_map : {A B : Type 0} (f : A → B) (xs : List A) (k : ℕ) → slice_get (map f xs) k ≡ option_map f (slice_get xs k)
get_map f [] k = refl
get_map f (x ∷ xs) zero = refl
get_map f (x ∷ xs) (suc k) = get_map f xs k

get_left : {A : Type 0} (xs ys : List A) (k : ℕ) (x : A) → slice_get xs k ≡ Some x → slice_get (xs ++ ys) k ≡ Some x
get_left [] ys k x is = absurd (none-some x is)
get_left (z ∷ xs) ys zero x is = is
get_left (z ∷ xs) ys (suc k) x is = get_left xs ys k x is

get_right : {A : Type 0} (xs ys : List A) (k : ℕ) → slice_get (xs ++ ys) (length xs + k) ≡ slice_get ys k
get_right [] ys k = let same : 0 + k ≡ k = omega arith in ap (slice_get ys) same
get_right (z ∷ xs) ys k = let same : suc (length xs) + k ≡ suc (length xs + k) = omega arith in ap (slice_get (z ∷ (xs ++ ys))) same ∙ get_right xs ys k

-- what is found in two lists is in the first one or behind it
get_either : {A : Type 0} (xs ys : List A) (k : ℕ) (x : A) → slice_get (xs ++ ys) k ≡ Some x → (slice_get xs k ≡ Some x) ⊎ ((j : ℕ) × (k ≡ length xs + j) × (slice_get ys j ≡ Some x))
get_either [] ys k x is = inr (k, omega arith, is)
get_either (z ∷ xs) ys zero x is = inl is
get_either (z ∷ xs) ys (suc k) x is = elim (get_either xs ys k x is) [
  | inl first ↦ inl first
  | inr later ↦ inr (later.0, (let same = later.1 in omega (arith, same)), later.2)
]

-- lists with the same elements are the same
pub same_elements : {A : Type 0} (xs ys : List A) → ((k : ℕ) → slice_get xs k ≡ slice_get ys k) → xs ≡ ys
same_elements [] [] each = refl
same_elements [] (y ∷ ys) each = absurd (none-some y (each 0))
same_elements (x ∷ xs) [] each = absurd (none-some x (sym (each 0)))
same_elements (x ∷ xs) (y ∷ ys) each = λ j. same_Some x y (each 0) j ∷ same_elements xs ys (λ k. each (suc k)) j

-- ---- the journal goes on

-- an entry more is the next mapping of one of the lists
pub deals_more : (lives : List Life) (es : List RegionEntry) (lists : List (List Telling)) (last : List Life) (e : RegionEntry) (k : ℕ) (ms : List Telling) (m : Telling) → DealsFrom lives es lists last → slice_get lists k ≡ Some ms → IsDealt k e m last →
    DealsFrom lives (es ++ e ∷ []) (set lists k (ms ++ m ∷ [])) (lives_after k e m last)
deals_more lives [] lists last e k ms m (none, same) is dealt =
    let P : List Telling → Type 0 = λ ns. ns ≡ [] in
    let empty : ms ≡ [] = all_get P lists k ms none is in
    let first : ms ++ m ∷ [] ≡ m ∷ [] = ap (λ ns. ns ++ m ∷ []) empty in
    let at : slice_get (set lists k (ms ++ m ∷ [])) k ≡ Some (m ∷ []) = get_set lists k (ms ++ m ∷ []) ms is ∙ ap Some first in
    let back : set (set lists k (ms ++ m ∷ [])) k [] ≡ lists = set_again lists k (ms ++ m ∷ []) [] ∙ set_own lists k [] (is ∙ ap Some empty) in
    (k, m, [], at, subst (IsDealt k e m) same dealt, (subst (All P) (sym back) none, ap (lives_after k e m) same))
deals_more lives (d ∷ es) lists last e k ms m (j, n, ns, there, was, goes) is dealt =
    by_place (cases_eq j k) (λ others os left at. deals_more (lives_after j d n lives) es others last e k os m left at dealt)
  where
    by_place : (j ≡ k) ⊎ ¬ (j ≡ k) → ((others : List (List Telling)) (os : List Telling) → DealsFrom (lives_after j d n lives) es others last → slice_get others k ≡ Some os → DealsFrom (lives_after j d n lives) (es ++ e ∷ []) (set others k (os ++ m ∷ [])) (lives_after k e m last)) → DealsFrom lives (d ∷ (es ++ e ∷ [])) (set lists k (ms ++ m ∷ [])) (lives_after k e m last)
    by_place (inl same) more =
        let mine : ms ≡ n ∷ ns = same_Some ms (n ∷ ns) (sym is ∙ (ap (slice_get lists) (sym same) ∙ there)) in
        let at : slice_get (set lists k (ms ++ m ∷ [])) j ≡ Some (n ∷ (ns ++ m ∷ [])) =
        ap (slice_get (set lists k (ms ++ m ∷ []))) same ∙ (get_set lists k (ms ++ m ∷ []) ms is ∙ ap (λ zs. Some (zs ++ m ∷ [])) mine) in
        let left : slice_get (set lists j ns) k ≡ Some ns = ap (slice_get (set lists j ns)) (sym same) ∙ get_set lists j ns (n ∷ ns) there in
        let rest : DealsFrom (lives_after j d n lives) (es ++ e ∷ []) (set (set lists j ns) k (ns ++ m ∷ [])) (lives_after k e m last) =
        more (set lists j ns) ns goes left in
        let lists_same : set (set lists j ns) k (ns ++ m ∷ []) ≡ set (set lists k (ms ++ m ∷ [])) j (ns ++ m ∷ []) =
        ap (λ i. set (set lists i ns) k (ns ++ m ∷ [])) same ∙ (set_again lists k ns (ns ++ m ∷ [])
        ∙ (sym (set_again lists k (ms ++ m ∷ []) (ns ++ m ∷ [])) ∙ ap (λ i. set (set lists k (ms ++ m ∷ [])) i (ns ++ m ∷ [])) (sym same))) in
        (j, n, ns ++ m ∷ [], at, was, subst (λ z. DealsFrom (lives_after j d n lives) (es ++ e ∷ []) z (lives_after k e m last)) lists_same rest)
    by_place (inr differs) more =
        let at : slice_get (set lists k (ms ++ m ∷ [])) j ≡ Some (n ∷ ns) = get_other lists k j (ms ++ m ∷ []) differs ∙ there in
        let left : slice_get (set lists j ns) k ≡ Some ms = get_other lists j k ns (λ same. differs (sym same)) ∙ is in
        let rest : DealsFrom (lives_after j d n lives) (es ++ e ∷ []) (set (set lists j ns) k (ms ++ m ∷ [])) (lives_after k e m last) =
        more (set lists j ns) ms goes left in
        (j, n, ns, at, was, subst (λ z. DealsFrom (lives_after j d n lives) (es ++ e ∷ []) z (lives_after k e m last)) (set_swap lists k j (ms ++ m ∷ []) ns differs) rest)

-- ---- where the shares stand

-- a handle in its place
pub record Stand : Type 0 where
  pub process : ℕ
  pub handle : ℕ
  pub state : HandleState

abbrev pub stands_from : ℕ → ℕ → List HandleState → List Stand
stands_from n h [] = []
stands_from n h (x ∷ hs) = record { process = n; handle = h; state = x } ∷ stands_from n (h + 1) hs

-- all handles of the processes from n on
abbrev pub all_stands : ℕ → List ProcessState → List Stand
all_stands n [] = []
all_stands n (p ∷ ps) = stands_from n 0 p.handles ++ all_stands (n + 1) ps

abbrev pub share_for : WorldState → List (List Inner) → Stand → Share
share_for w rows s = share_of w.script.model s.state (inner_at w rows s.process s.handle) (id_at w s.process s.handle)

shares_stand : (w : WorldState) (rows : List (List Inner)) (n h : ℕ) (hs : List HandleState) → shares_from w rows n h hs ≡ map (share_for w rows) (stands_from n h hs)
shares_stand w rows n h [] = refl
shares_stand w rows n h (x ∷ hs) = ap (λ ss. share_of w.script.model x (inner_at w rows n h) (id_at w n h) ∷ ss) (shares_stand w rows n (h + 1) hs)

pub all_stand : (w : WorldState) (rows : List (List Inner)) (n : ℕ) (ps : List ProcessState) → all_shares w rows n ps ≡ map (share_for w rows) (all_stands n ps)
all_stand w rows n [] = refl
all_stand w rows n (p ∷ ps) = (λ j. shares_stand w rows n 0 p.handles j ++ all_stand w rows (n + 1) ps j) ∙ sym (map-append (share_for w rows) (stands_from n 0 p.handles) (all_stands (n + 1) ps))

abbrev pub place_of : List ProcessState → ℕ → ℕ → ℕ
place_of [] n h = h
place_of (p ∷ ps) zero h = h
place_of (p ∷ ps) (suc n) h = length p.handles + place_of ps n h

stands_length : (n h : ℕ) (hs : List HandleState) → length (stands_from n h hs) ≡ length hs
stands_length n h [] = refl
stands_length n h (x ∷ hs) = ap suc (stands_length n (h + 1) hs)

stands_get : (n h : ℕ) (hs : List HandleState) (k : ℕ) (x : HandleState) → slice_get hs k ≡ Some x → slice_get (stands_from n h hs) k ≡ Some (record { process = n; handle = h + k; state = x })
stands_get n h [] k x is = absurd (none-some x is)
stands_get n h (y ∷ hs) zero x is =
    let start : h ≡ h + 0 = omega arith in
    λ j. Some (record { process = n; handle = start j; state = same_Some y x is j })
stands_get n h (y ∷ hs) (suc k) x is =
    let next : (h + 1) + k ≡ h + suc k = omega arith in
    stands_get n (h + 1) hs k x is ∙ (λ j. Some (record { process = n; handle = next j; state = x }))

place_get : (m : ℕ) (ps : List ProcessState) (i h : ℕ) (p : ProcessState) (x : HandleState) → slice_get ps i ≡ Some p → slice_get p.handles h ≡ Some x →
    slice_get (all_stands m ps) (place_of ps i h) ≡ Some (record { process = m + i; handle = h; state = x })
place_get m [] i h p x at is = absurd (none-some p at)
place_get m (q ∷ ps) zero h p x at is =
    let here : slice_get q.handles h ≡ Some x = ap (λ (r : ProcessState). slice_get r.handles h) (same_Some q p at) ∙ is in
    let start : m ≡ m + 0 = omega arith in
    let none : 0 + h ≡ h = omega arith in
    get_left (stands_from m 0 q.handles) (all_stands (m + 1) ps) h _ (stands_get m 0 q.handles h x here) ∙ (λ j. Some (record { process = start j; handle = none j; state = x }))
place_get m (q ∷ ps) (suc i) h p x at is =
    let long : length q.handles + place_of ps i h ≡ length (stands_from m 0 q.handles) + place_of ps i h = ap (λ n. n + place_of ps i h) (sym (stands_length m 0 q.handles)) in
    let next : (m + 1) + i ≡ m + suc i = omega arith in
    ap (slice_get (stands_from m 0 q.handles ++ all_stands (m + 1) ps)) long
    ∙ (get_right (stands_from m 0 q.handles) (all_stands (m + 1) ps) (place_of ps i h)
    ∙ (place_get (m + 1) ps i h p x at is ∙ (λ j. Some (record { process = next j; handle = h; state = x }))))

-- the stand is that of a handle, which is in this place
pub record IsStand (ps : List ProcessState) (m k : ℕ) (s : Stand) : Type 0 where
  pub before : ℕ
  pub process : s.process ≡ m + before
  pub place : k ≡ place_of ps before s.handle
  pub row : ProcessState
  pub at : slice_get ps before ≡ Some row
  pub is : slice_get row.handles s.handle ≡ Some s.state

from_get : (n h : ℕ) (hs : List HandleState) (k : ℕ) (s : Stand) → slice_get (stands_from n h hs) k ≡ Some s → (s.process ≡ n) × (s.handle ≡ h + k) × (slice_get hs k ≡ Some s.state)
from_get n h [] k s is = absurd (none-some s is)
from_get n h (x ∷ hs) zero s is =
    let same : record { process = n; handle = h; state = x } ≡ s = same_Some _ s is in
    (sym (ap (λ (z : Stand). z.process) same), sym (ap (λ (z : Stand). z.handle) same) ∙ omega arith, ap (λ (z : Stand). Some z.state) same)
from_get n h (x ∷ hs) (suc k) s is =
    let rest : _ = from_get n (h + 1) hs k s is in
    let next : (h + 1) + k ≡ h + suc k = omega arith in
    (rest.0, rest.1 ∙ next, rest.2)

all_get_stand : (ps : List ProcessState) (m k : ℕ) (s : Stand) → slice_get (all_stands m ps) k ≡ Some s → IsStand ps m k s
all_get_stand [] m k s is = absurd (none-some s is)
all_get_stand (p ∷ ps) m k s is = elim (get_either (stands_from m 0 p.handles) (all_stands (m + 1) ps) k s is) [
  | inl first ↦
      let here : _ = from_get m 0 p.handles k s first in
      let none : s.handle ≡ k = here.1 ∙ omega arith in
      record { before = 0; process = here.0 ∙ omega arith; place = sym none; row = p; at = refl; is = ap (slice_get p.handles) none ∙ here.2 }
  | inr later ↦
      let rest : IsStand ps (m + 1) later.0 s = all_get_stand ps (m + 1) later.0 s later.2 in
      let long = stands_length m 0 p.handles in
      let place = rest.place in
      let at = later.1 in
      let process = rest.process in
      record { before = suc rest.before; process = omega (arith, process); place = omega (arith, long, place, at); row = rest.row; at = rest.at; is = rest.is }
]

-- ---- of the world

abbrev pub stands_of : WorldState → List Stand
stands_of w = all_stands 0 w.guest.processes

pub shares_are : (w : WorldState) (rows : List (List Inner)) → all_shares w rows 0 w.guest.processes ≡ map (share_for w rows) (stands_of w)
shares_are w rows = all_stand w rows 0 w.guest.processes

stand_by : (w : WorldState) (n h : ℕ) (o : Option ProcessState) (x : HandleState) → slice_get w.guest.processes n ≡ o → option_and_then (λ (p : ProcessState). slice_get p.handles h) o ≡ Some x →
    slice_get (stands_of w) (place_of w.guest.processes n h) ≡ Some (record { process = n; handle = h; state = x })
stand_by w n h None x at is = absurd (none-some x is)
stand_by w n h (Some p) x at is =
    let none : 0 + n ≡ n = omega arith in
    place_get 0 w.guest.processes n h p x at is ∙ (λ j. Some (record { process = none j; handle = h; state = x }))

-- each handle stands in its place
pub stand_at : (w : WorldState) (n h : ℕ) → IsHandle w n h → slice_get (stands_of w) (place_of w.guest.processes n h) ≡ Some (record { process = n; handle = h; state = handle_at (process_at w.guest n) h })
stand_at w n h named =
    let x : _ = some_named (handle_named w.guest n h) named in
    let is : handle_at (process_at w.guest n) h ≡ x.0 = (named_there w.guest n h x.0 x.1).is in
    stand_by w n h (slice_get w.guest.processes n) x.0 refl x.1 ∙ (λ j. Some (record { process = n; handle = h; state = sym is j }))

-- and no other one stands there
pub record StandsIn (w : WorldState) (k : ℕ) (s : Stand) : Type 0 where
  pub named : IsHandle w s.process s.handle
  pub state : s.state ≡ handle_at (process_at w.guest s.process) s.handle
  pub place : k ≡ place_of w.guest.processes s.process s.handle

pub stands_in : (w : WorldState) (k : ℕ) (s : Stand) → slice_get (stands_of w) k ≡ Some s → StandsIn w k s
stands_in w k s is =
    let t : IsStand w.guest.processes 0 k s = all_get_stand w.guest.processes 0 k s is in
    let same : s.process ≡ t.before = t.process ∙ omega arith in
    let at : handle_named w.guest s.process s.handle ≡ Some s.state =
    ap (λ n. handle_named w.guest n s.handle) same ∙ (ap (λ o. option_and_then (λ (p : ProcessState). slice_get p.handles s.handle) o) t.at ∙ t.is) in
    record {
      named = ap is_some at;
      state = sym (named_there w.guest s.process s.handle s.state at).is;
      place = t.place ∙ ap (λ n. place_of w.guest.processes n s.handle) (sym same);
    }
