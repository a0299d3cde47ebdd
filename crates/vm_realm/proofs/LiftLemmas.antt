-- Where a step moves one handle, the rest of the world is behind the slices as it was.
use Rattle.std.proofs.Common.{◌≡◌, ◌⊎◌, ℕ, zero, suc, ◌+◌, ◌<◌, false, List, [], ◌∷◌, ◌++◌, Some, length, get_or, map, is_some, refl, sym, ap, ◌∙◌, subst, arith, inl, inr, eqb, if◌then◌else◌}
use Rattle.std.specs.Prelude.{◌&&◌, slice_get}
use Rattle.std.specs.Option.{option_and_then}
use Rattle.std.proofs.lemmas.Bool.{cases_eq, cases_lt, eq-eqb, ne_eqb, and_from, and_left, and_right}
use Rattle.std.proofs.lemmas.List.{append-nil, get_or_past}
use Rattle.std.proofs.lemmas.Option.{none-some, get_or_from_slice_get}
use Rattle.vm_handle.specs.Handle.{HandleState}
use Rattle.vm_region.specs.Region.{RegionState}
use Rattle.vm_guest.specs.Guest.{no_process, process_at, handle_named}
use Rattle.vm_guest.specs.Orderly.{IsDriver}
use Rattle.vm_guest.specs.Process.{ProcessState, handle_at}
use Rattle.vm_script.specs.Script.{ScriptLines}
use Rattle.vm_realm.specs.World.{WorldState}
use Rattle.vm_realm.specs.Inner.{Inner, inner_of, driver_state}
use Rattle.vm_realm.specs.Mapped.{Share, no_share, IsTagged, IsJournalOf, DealsFrom}
use Rattle.vm_realm.specs.Slice.{id_ahead, slice_at, SameElsewhere}
use Rattle.vm_realm.specs.Sound.{IsSoundSlice, IsHandle, id_at, inner_at, share_of, shares_from, all_shares}
use Rattle.vm_realm.proofs.FrameLemmas.{handle_there}
use Rattle.vm_realm.proofs.ShareLemmas.{IsThere, named_there, is_there, share_at}

-- ---- what is behind the slices, as a table

abbrev pub row_of : (ℕ → ℕ → Inner) → ℕ → ℕ → List HandleState → List Inner
row_of f n h [] = []
row_of f n h (x ∷ hs) = f n h ∷ row_of f n (h + 1) hs

abbrev pub table_of : (ℕ → ℕ → Inner) → ℕ → List ProcessState → List (List Inner)
table_of f n [] = []
table_of f n (p ∷ ps) = row_of f n 0 p.handles ∷ table_of f (n + 1) ps

row_at : (f : ℕ → ℕ → Inner) (n h : ℕ) (hs : List HandleState) (j : ℕ) (d : Inner) → j < length hs → get_or (row_of f n h hs) j d ≡ f n (h + j)
row_at f n h [] j d within = absurd (omega (arith, within))
row_at f n h (x ∷ hs) zero d within = let start : h ≡ h + 0 = omega arith in ap (f n) start
row_at f n h (x ∷ hs) (suc j) d within =
    let next : (h + 1) + j ≡ h + suc j = omega arith in
    row_at f n (h + 1) hs j d (omega (arith, within)) ∙ ap (f n) next

table_at : (f : ℕ → ℕ → Inner) (n : ℕ) (ps : List ProcessState) (i : ℕ) → i < length ps → get_or (table_of f n ps) i [] ≡ row_of f (n + i) 0 (get_or ps i no_process).handles
table_at f n [] i within = absurd (omega (arith, within))
table_at f n (p ∷ ps) zero within = let start : n ≡ n + 0 = omega arith in ap (λ k. row_of f k 0 p.handles) start
table_at f n (p ∷ ps) (suc i) within =
    let next : (n + 1) + i ≡ n + suc i = omega arith in
    table_at f (n + 1) ps i (omega (arith, within)) ∙ ap (λ k. row_of f k 0 (get_or ps i no_process).handles) next

pub table_inner : (w : WorldState) (f : ℕ → ℕ → Inner) (n h : ℕ) → IsHandle w n h → inner_at w (table_of f 0 w.guest.processes) n h ≡ f n h
table_inner w f n h named =
    let there : IsThere w.guest n h (handle_at (process_at w.guest n) h) = is_there w n h named in
    let d : Inner = inner_of (driver_state (slice_at w n h)) in
    let first : 0 + n ≡ n = omega arith in
    let second : 0 + h ≡ h = omega arith in
    ap (λ row. get_or row h d) (table_at f 0 w.guest.processes n there.process ∙ ap (λ k. row_of f k 0 (process_at w.guest n).handles) first)
    ∙ (row_at f n 0 (process_at w.guest n).handles h d there.handle ∙ ap (f n) second)

-- this one is behind one slice from now on
abbrev pub with_inner : (ℕ → ℕ → Inner) → ℕ → ℕ → Inner → ℕ → ℕ → Inner
with_inner f n h v m k = if eqb m n && eqb k h then v else f m k

pub with_own : (f : ℕ → ℕ → Inner) (n h : ℕ) (v : Inner) → with_inner f n h v n h ≡ v
with_own f n h v = ap (λ b. if b then v else f n h) (and_from (eqb n n) (eqb h h) (eq-eqb n n refl) (eq-eqb h h refl))

pub with_other : (f : ℕ → ℕ → Inner) (n h : ℕ) (v : Inner) (m k : ℕ) → ¬ ((m ≡ n) × (k ≡ h)) → with_inner f n h v m k ≡ f m k
with_other f n h v m k other = ap (λ b. if b then v else f m k) (off (cases_eq m n))
  where
    off : (m ≡ n) ⊎ ¬ (m ≡ n) → (eqb m n && eqb k h) ≡ false
    off (inr apart) = and_left (eqb m n) (eqb k h) (ne_eqb m n apart)
    off (inl same) = and_right (eqb m n) (eqb k h) (ne_eqb k h (λ is. other (same, is)))

abbrev pub rows_with : WorldState → WorldState → List (List Inner) → ℕ → ℕ → Inner → List (List Inner)
rows_with w u rows n h v = table_of (with_inner (inner_at w rows) n h v) 0 u.guest.processes

pub inner_own : (w u : WorldState) (rows : List (List Inner)) (n h : ℕ) (v : Inner) → IsHandle u n h → inner_at u (rows_with w u rows n h v) n h ≡ v
inner_own w u rows n h v named = table_inner u (with_inner (inner_at w rows) n h v) n h named ∙ with_own (inner_at w rows) n h v

pub inner_other : (w u : WorldState) (rows : List (List Inner)) (n h : ℕ) (v : Inner) (m k : ℕ) → IsHandle u m k → ¬ ((m ≡ n) × (k ≡ h)) → inner_at u (rows_with w u rows n h v) m k ≡ inner_at w rows m k
inner_other w u rows n h v m k named other = table_inner u (with_inner (inner_at w rows) n h v) m k named ∙ with_other (inner_at w rows) n h v m k other

-- ---- the handles stay

-- drivers of one script have the same handles
pub handles_stay : (script : ScriptLines) (w u : WorldState) → IsDriver script w.guest → IsDriver script u.guest → (n h : ℕ) → IsHandle u n h → IsHandle w n h
handles_stay script w u first second n h named =
    let there : IsThere u.guest n h (handle_at (process_at u.guest n) h) = is_there u n h named in
    let within : n < length w.guest.processes = (let a = there.process in let b = first.count in let c = second.count in omega (arith, a, b, c)) in
    let a = (first.orderly n within).named in
    let b = (second.orderly n there.process).named in
    let c = there.handle in
    handle_there w.guest n h within (omega (arith, a, b, c))

-- ---- slices

pub slices_lift : (w u : WorldState) (rows : List (List Inner)) (n h : ℕ) (v : Inner) → ((m k : ℕ) → IsHandle w m k → IsSoundSlice (slice_at w m k) (inner_at w rows m k)) → ((m k : ℕ) → IsHandle u m k → IsHandle w m k) →
    SameElsewhere n h w u → IsSoundSlice (slice_at u n h) v → (m k : ℕ) → IsHandle u m k → IsSoundSlice (slice_at u m k) (inner_at u (rows_with w u rows n h v) m k)
slices_lift w u rows n h v sound stay others own m k named = by_place (cases_eq m n) (cases_eq k h)
  where
    apart : ¬ ((m ≡ n) × (k ≡ h)) → IsSoundSlice (slice_at u m k) (inner_at u (rows_with w u rows n h v) m k)
    apart other =
        subst (λ y. IsSoundSlice (slice_at u m k) y) (sym (inner_other w u rows n h v m k named other))
        (subst (λ x. IsSoundSlice x (inner_at w rows m k)) (sym (others m k other)) (sound m k (stay m k named)))

    here : m ≡ n → k ≡ h → IsSoundSlice (slice_at u m k) (inner_at u (rows_with w u rows n h v) m k)
    here first second =
        let there : IsHandle u n h = subst (IsHandle u n) second (subst (λ i. IsHandle u i k) first named) in
        let mine : IsSoundSlice (slice_at u n h) (inner_at u (rows_with w u rows n h v) n h) = subst (IsSoundSlice (slice_at u n h)) (sym (inner_own w u rows n h v there)) own in
        subst (λ i. IsSoundSlice (slice_at u i k) (inner_at u (rows_with w u rows n h v) i k)) (sym first)
        (subst (λ j. IsSoundSlice (slice_at u n j) (inner_at u (rows_with w u rows n h v) n j)) (sym second) mine)

    by_place : (m ≡ n) ⊎ ¬ (m ≡ n) → (k ≡ h) ⊎ ¬ (k ≡ h) → IsSoundSlice (slice_at u m k) (inner_at u (rows_with w u rows n h v) m k)
    by_place (inl first) (inl second) = here first second
    by_place (inr differs) second = apart (λ both. differs both.0)
    by_place (inl first) (inr differs) = apart (λ both. differs both.1)

-- ---- shares

-- the same mappings, of the same session where there was one, which may have made more frames
pub record LaterShare (s t : Share) : Type 0 where
  pub mappings : t.mappings ≡ s.mappings
  pub id : (i : ℕ) → s.id ≡ Some i → t.id ≡ Some i
  pub more : List ℕ
  pub frames : t.frames ≡ s.frames ++ more

pub same_share : (s t : Share) → t ≡ s → LaterShare s t
same_share s t is = record { mappings = ap (λ (x : Share). x.mappings) is; id = λ i own. ap (λ (x : Share). x.id) is ∙ own; more = []; frames = ap (λ (x : Share). x.frames) is ∙ sym (append-nil s.frames) }

abbrev pub AreLater : List Share → List Share → Type 0
AreLater [] [] = Unit {0}
AreLater [] (t ∷ ts) = ⊥
AreLater (s ∷ ss) [] = ⊥
AreLater (s ∷ ss) (t ∷ ts) = LaterShare s t × AreLater ss ts

later_both : (ss ts xs ys : List Share) → AreLater ss ts → AreLater xs ys → AreLater (ss ++ xs) (ts ++ ys)
later_both [] [] xs ys first rest = rest
later_both [] (t ∷ ts) xs ys first rest = absurd first
later_both (s ∷ ss) [] xs ys first rest = absurd first
later_both (s ∷ ss) (t ∷ ts) xs ys first rest = (first.0, later_both ss ts xs ys first.1 rest)

later_mappings : (ss ts : List Share) → AreLater ss ts → map (λ s. s.mappings) ts ≡ map (λ s. s.mappings) ss
later_mappings [] [] later = refl
later_mappings [] (t ∷ ts) later = absurd later
later_mappings (s ∷ ss) [] later = absurd later
later_mappings (s ∷ ss) (t ∷ ts) later = λ j. later.0.mappings j ∷ later_mappings ss ts later.1 j

later_at : (ss ts : List Share) (k : ℕ) → AreLater ss ts → LaterShare (get_or ss k no_share) (get_or ts k no_share)
later_at [] [] k later = same_share no_share no_share refl
later_at [] (t ∷ ts) k later = absurd later
later_at (s ∷ ss) [] k later = absurd later
later_at (s ∷ ss) (t ∷ ts) zero later = later.0
later_at (s ∷ ss) (t ∷ ts) (suc k) later = later_at ss ts k later.1

in_front : (xs ys : List ℕ) (k m : ℕ) → slice_get xs k ≡ Some m → slice_get (xs ++ ys) k ≡ Some m
in_front [] ys k m is = absurd (none-some m is)
in_front (x ∷ xs) ys zero m is = is
in_front (x ∷ xs) ys (suc k) m is = in_front xs ys k m is

-- the journal is that of the later shares too
pub journal_later : (ss ts : List Share) (region : RegionState) → AreLater ss ts → IsJournalOf ss region → IsJournalOf ts region
journal_later ss ts region later j = record {
  lives = j.lives;
  sound = j.sound;
  deals = subst (λ lists. DealsFrom [] region.journal lists j.lives) (sym (later_mappings ss ts later)) j.deals;
  live = j.live;
  apart = j.apart;
  low = j.low;
  tagged = λ addr r is. (
      let t : IsTagged ss j.lives r = j.tagged addr r is in
      let at : LaterShare (get_or ss t.life.handle no_share) (get_or ts t.life.handle no_share) = later_at ss ts t.life.handle later in
      record {
        life = t.life;
        id = t.id;
        made = t.made;
        small = t.small;
        lives_at = t.lives_at;
        tag = t.tag;
        own = at.id t.id t.own;
        memory = ap (λ fs. slice_get fs t.made) at.frames ∙ in_front (get_or ss t.life.handle no_share).frames at.more t.made t.life.memory t.memory;
      });
}

later_from : (w u : WorldState) (rows rows' : List (List Inner)) → ((n h : ℕ) → IsHandle u n h → LaterShare (share_at w rows n h) (share_at u rows' n h)) → (n h : ℕ) (hs hs' : List HandleState) → length hs' ≡ length hs →
    ((i : ℕ) (x : HandleState) → slice_get hs i ≡ Some x → handle_named w.guest n (h + i) ≡ Some x) → ((i : ℕ) (x : HandleState) → slice_get hs' i ≡ Some x → handle_named u.guest n (h + i) ≡ Some x) →
    AreLater (shares_from w rows n h hs) (shares_from u rows' n h hs')
later_from w u rows rows' each n h [] [] long at at' = tt
later_from w u rows rows' each n h [] (x ∷ hs') long at at' = absurd (omega (arith, long))
later_from w u rows rows' each n h (x ∷ hs) [] long at at' = absurd (omega (arith, long))
later_from w u rows rows' each n h (x ∷ hs) (y ∷ hs') long at at' =
    let start : h + 0 ≡ h = omega arith in
    let next : (i : ℕ) → h + suc i ≡ (h + 1) + i = λ i. omega arith in
    let here : handle_named w.guest n h ≡ Some x = subst (λ k. handle_named w.guest n k ≡ Some x) start (at 0 x refl) in
    let here' : handle_named u.guest n h ≡ Some y = subst (λ k. handle_named u.guest n k ≡ Some y) start (at' 0 y refl) in
    let is : handle_at (process_at w.guest n) h ≡ x = (named_there w.guest n h x here).is in
    let is' : handle_at (process_at u.guest n) h ≡ y = (named_there u.guest n h y here').is in (
      subst (λ z. LaterShare (share_of w.script.model z (inner_at w rows n h) (id_at w n h)) (share_of u.script.model y (inner_at u rows' n h) (id_at u n h))) is
          (subst (λ z. LaterShare (share_at w rows n h) (share_of u.script.model z (inner_at u rows' n h) (id_at u n h))) is' (each n h (ap is_some here'))),
      later_from w u rows rows' each n (h + 1) hs hs' (omega (arith, long)) (λ i z is. subst (λ k. handle_named w.guest n k ≡ Some z) (next i) (at (suc i) z is))
          (λ i z is. subst (λ k. handle_named u.guest n k ≡ Some z) (next i) (at' (suc i) z is)),
    )

later_in : (w u : WorldState) (rows rows' : List (List Inner)) → ((n h : ℕ) → IsHandle u n h → LaterShare (share_at w rows n h) (share_at u rows' n h)) → ((n : ℕ) → length (process_at u.guest n).handles ≡ length (process_at w.guest n).handles) →
    (n : ℕ) (ps ps' : List ProcessState) → length ps' ≡ length ps → ((i : ℕ) (p : ProcessState) → slice_get ps i ≡ Some p → slice_get w.guest.processes (n + i) ≡ Some p) →
    ((i : ℕ) (p : ProcessState) → slice_get ps' i ≡ Some p → slice_get u.guest.processes (n + i) ≡ Some p) → AreLater (all_shares w rows n ps) (all_shares u rows' n ps')
later_in w u rows rows' each longs n [] [] long at at' = tt
later_in w u rows rows' each longs n [] (p ∷ ps') long at at' = absurd (omega (arith, long))
later_in w u rows rows' each longs n (p ∷ ps) [] long at at' = absurd (omega (arith, long))
later_in w u rows rows' each longs n (p ∷ ps) (q ∷ ps') long at at' =
    let start : n + 0 ≡ n = omega arith in
    let next : (i : ℕ) → n + suc i ≡ (n + 1) + i = λ i. omega arith in
    let none : (i : ℕ) → i ≡ 0 + i = λ i. omega arith in
    let here : slice_get w.guest.processes n ≡ Some p = subst (λ k. slice_get w.guest.processes k ≡ Some p) start (at 0 p refl) in
    let here' : slice_get u.guest.processes n ≡ Some q = subst (λ k. slice_get u.guest.processes k ≡ Some q) start (at' 0 q refl) in
    let is : process_at w.guest n ≡ p = get_or_from_slice_get w.guest.processes n p no_process here in
    let is' : process_at u.guest n ≡ q = get_or_from_slice_get u.guest.processes n q no_process here' in
    let handles : length q.handles ≡ length p.handles = sym (ap (λ (r : ProcessState). length r.handles) is') ∙ (longs n ∙ ap (λ (r : ProcessState). length r.handles) is) in
    later_both (shares_from w rows n 0 p.handles) (shares_from u rows' n 0 q.handles) (all_shares w rows (n + 1) ps) (all_shares u rows' (n + 1) ps')
    (later_from w u rows rows' each n 0 p.handles q.handles handles
    (λ i x is. ap (λ o. option_and_then (λ (r : ProcessState). slice_get r.handles (0 + i)) o) here ∙ subst (λ k. slice_get p.handles k ≡ Some x) (none i) is)
    (λ i x is. ap (λ o. option_and_then (λ (r : ProcessState). slice_get r.handles (0 + i)) o) here' ∙ subst (λ k. slice_get q.handles k ≡ Some x) (none i) is))
    (later_in w u rows rows' each longs (n + 1) ps ps' (omega (arith, long)) (λ i r is. subst (λ k. slice_get w.guest.processes k ≡ Some r) (next i) (at (suc i) r is))
    (λ i r is. subst (λ k. slice_get u.guest.processes k ≡ Some r) (next i) (at' (suc i) r is)))

-- drivers of one script have as many handles in each process
longs_stay : (script : ScriptLines) (w u : WorldState) → IsDriver script w.guest → IsDriver script u.guest → (n : ℕ) → length (process_at u.guest n).handles ≡ length (process_at w.guest n).handles
longs_stay script w u first second n = elim (cases_lt n (length w.guest.processes)) [
  | inl within ↦
      (let a = (first.orderly n within).named in
      let b = (second.orderly n (let c = first.count in let d = second.count in omega (arith, within, c, d))).named in
      omega (arith, a, b))
  | inr past ↦
      (let a = ap (λ (p : ProcessState). length p.handles) (get_or_past w.guest.processes n no_process past) in
      let b = ap (λ (p : ProcessState). length p.handles) (get_or_past u.guest.processes n no_process (let c = first.count in let d = second.count in omega (arith, past, c, d))) in
      omega (arith, a, b))
]

-- where one handle's share is a later one, and all others are as they were, the journal is that of them all
pub shares_lift : (w u : WorldState) (rows : List (List Inner)) (n h : ℕ) (v : Inner) → IsDriver w.script w.guest → IsDriver w.script u.guest → u.script ≡ w.script → SameElsewhere n h w u →
    (IsHandle u n h → LaterShare (share_at w rows n h) (share_of u.script.model (handle_at (process_at u.guest n) h) v (id_at u n h))) →
    AreLater (all_shares w rows 0 w.guest.processes) (all_shares u (rows_with w u rows n h v) 0 u.guest.processes)
shares_lift w u rows n h v first second script others own =
    let none : (i : ℕ) → i ≡ 0 + i = λ i. omega arith in
    later_in w u rows (rows_with w u rows n h v) each (longs_stay w.script w u first second) 0 w.guest.processes u.guest.processes (let a = first.count in let b = second.count in omega (arith, a, b))
    (λ i p is. subst (λ k. slice_get w.guest.processes k ≡ Some p) (none i) is) (λ i p is. subst (λ k. slice_get u.guest.processes k ≡ Some p) (none i) is)
  where
    each : (m k : ℕ) → IsHandle u m k → LaterShare (share_at w rows m k) (share_at u (rows_with w u rows n h v) m k)
    each m k named = by_place (cases_eq m n) (cases_eq k h)
      where
        apart : ¬ ((m ≡ n) × (k ≡ h)) → LaterShare (share_at w rows m k) (share_at u (rows_with w u rows n h v) m k)
        apart other =
            let same : slice_at u m k ≡ slice_at w m k = others m k other in
            let inner : inner_at u (rows_with w u rows n h v) m k ≡ inner_at w rows m k = inner_other w u rows n h v m k named other in
            same_share (share_at w rows m k) (share_at u (rows_with w u rows n h v) m k) (λ j. share_of (script j).model (same j).handle (inner j) (id_ahead (same j).handle (same j).out))

        here : m ≡ n → k ≡ h → LaterShare (share_at w rows m k) (share_at u (rows_with w u rows n h v) m k)
        here one two =
            let there : IsHandle u n h = subst (IsHandle u n) two (subst (λ i. IsHandle u i k) one named) in
            let mine : LaterShare (share_at w rows n h) (share_at u (rows_with w u rows n h v) n h) =
            subst (λ y. LaterShare (share_at w rows n h) (share_of u.script.model (handle_at (process_at u.guest n) h) y (id_at u n h))) (sym (inner_own w u rows n h v there)) (own there) in
            subst (λ i. LaterShare (share_at w rows i k) (share_at u (rows_with w u rows n h v) i k)) (sym one)
            (subst (λ j. LaterShare (share_at w rows n j) (share_at u (rows_with w u rows n h v) n j)) (sym two) mine)

        by_place : (m ≡ n) ⊎ ¬ (m ≡ n) → (k ≡ h) ⊎ ¬ (k ≡ h) → LaterShare (share_at w rows m k) (share_at u (rows_with w u rows n h v) m k)
        by_place (inl one) (inl two) = here one two
        by_place (inr differs) two = apart (λ both. differs both.0)
        by_place (inl one) (inr differs) = apart (λ both. differs both.1)

-- where each handle's share is a later one, they all are
pub shares_later : (w u : WorldState) (rows rows' : List (List Inner)) → IsDriver w.script w.guest → IsDriver w.script u.guest → ((n h : ℕ) → IsHandle u n h → LaterShare (share_at w rows n h) (share_at u rows' n h)) →
    AreLater (all_shares w rows 0 w.guest.processes) (all_shares u rows' 0 u.guest.processes)
shares_later w u rows rows' first second each =
    let none : (i : ℕ) → i ≡ 0 + i = λ i. omega arith in
    later_in w u rows rows' each (longs_stay w.script w u first second) 0 w.guest.processes u.guest.processes (let a = first.count in let b = second.count in omega (arith, a, b))
    (λ i p is. subst (λ k. slice_get w.guest.processes k ≡ Some p) (none i) is) (λ i p is. subst (λ k. slice_get u.guest.processes k ≡ Some p) (none i) is)
