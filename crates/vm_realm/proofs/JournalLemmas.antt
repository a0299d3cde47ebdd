-- The count of a range in a sound journal is the number of its mappings that weren't given back.
use Rattle.std.proofs.Common.{◌≡◌, ℕ, zero, suc, ◌+◌, ◌*◌, ◌≤◌, Bool, true, false, not, nat_lt, List, [], ◌∷◌, ◌++◌, Option, Some, None, set, is_some, refl, sym, ap, ◌∙◌, subst, arith, inl, inr, eqb, cond}
use Rattle.std.specs.Prelude.{◌&&◌, slice_get}
use Rattle.std.specs.Option.{option_map}
use Rattle.std.specs.List.{All}
use Rattle.std.proofs.lemmas.Bool.{false≢true, true≢false, cases_eq, cond-true, cond-false, eq-eqb, ne_eqb, eqb-true, lt-ltb, and_parts}
use Rattle.std.proofs.lemmas.List.Elements.{All-head, All-tail}
use Rattle.std.proofs.lemmas.Option.{none-some, same_Some}
use Rattle.vm_region.specs.declared.entry.RegionEntry.{RegionEntry}
use Rattle.vm_region.specs.declared.entry.RegionEntry.TheVariants.{Map, Drop}
use Rattle.vm_region.specs.declared.live_range.LiveRange.{LiveRange}
use Rattle.vm_region.specs.Region.{PlacedRange, meets, is_free, placed_at, placed_counted, ranges_after, ranges_from, live_ranges, MayFollow, IsSoundFrom, IsSoundJournal, RegionState, placed, range_at}
use Rattle.vm_realm.specs.Mapped.{Mapping as Told, Life, IsDealt, DealsFrom, lives_after, AreLive}
use Rattle.vm_realm.specs.Mapped.Mapping.{Made, GivenBack}
use Rattle.vm_realm.proofs.NamesLemmas.{one_if_at, made_at, given_at, HavePages}

-- ---- what a journal tells

abbrev pub maps_at : ℕ → List RegionEntry → ℕ
maps_at addr [] = 0
maps_at addr (Map at pages count ∷ es) = one_if_at addr at + maps_at addr es
maps_at addr (Drop at count ∷ es) = maps_at addr es

abbrev pub drops_at : ℕ → List RegionEntry → ℕ
drops_at addr [] = 0
drops_at addr (Map at pages count ∷ es) = drops_at addr es
drops_at addr (Drop at count ∷ es) = one_if_at addr at + drops_at addr es

-- each mapping has pages
abbrev pub MapPages : List RegionEntry → Type 0
MapPages [] = Unit {0}
MapPages (Map at pages count ∷ es) = (1 ≤ pages) × MapPages es
MapPages (Drop at count ∷ es) = MapPages es

-- ---- its ranges

abbrev pub count_in : Option PlacedRange → ℕ
count_in None = 0
count_in (Some r) = r.count

abbrev pub count_at : ℕ → List PlacedRange → ℕ
count_at addr rs = count_in (placed_at addr rs)

-- each range has pages and is counted
abbrev pub AreCounted : List PlacedRange → Type 0
AreCounted [] = Unit {0}
AreCounted (r ∷ rs) = (1 ≤ r.pages) × (1 ≤ r.count) × AreCounted rs

pub found_counted : (addr : ℕ) (rs : List PlacedRange) (r : PlacedRange) → AreCounted rs → placed_at addr rs ≡ Some r → 1 ≤ r.count
found_counted addr [] r all is = absurd (none-some r is)
found_counted addr (x ∷ rs) r all is = by_test (eqb x.addr addr) is (found_counted addr rs r all.2)
  where
    by_test : (b : Bool) → cond b (Some x) (placed_at addr rs) ≡ Some r → (placed_at addr rs ≡ Some r → 1 ≤ r.count) → 1 ≤ r.count
    by_test true is rest = subst (λ (y : PlacedRange). 1 ≤ y.count) (same_Some x r is) all.1
    by_test false is rest = rest is

-- the count of one range is set
set_counted : (at count : ℕ) (rs : List PlacedRange) → AreCounted rs → AreCounted (placed_counted at count rs)
set_counted at count [] all = tt
set_counted at count (r ∷ rs) all = by_test (eqb r.addr at) (eqb count 0) refl (set_counted at count rs all.2)
  where
    by_test : (b z : Bool) → eqb count 0 ≡ z → AreCounted (placed_counted at count rs)
        → AreCounted (cond b (cond z (placed_counted at count rs) (record r { count = count } ∷ placed_counted at count rs)) (r ∷ placed_counted at count rs))
    by_test true true is rest = rest
    by_test true false is rest = (all.0, some count is, rest)
      where
        some : (n : ℕ) → eqb n 0 ≡ false → 1 ≤ n
        some zero none = absurd (true≢false none)
        some (suc n) none = omega arith
    by_test false z is rest = (all.0, all.1, rest)

pub other_count : (addr at count : ℕ) (rs : List PlacedRange) → ¬ (addr ≡ at) → placed_at addr (placed_counted at count rs) ≡ placed_at addr rs
other_count addr at count [] other = refl
other_count addr at count (r ∷ rs) other = by_test (eqb r.addr at) refl (eqb count 0) (other_count addr at count rs other)
  where
    skip : eqb r.addr at ≡ true → eqb r.addr addr ≡ false
    skip is = ne_eqb r.addr addr (λ same. other (sym same ∙ eqb-true r.addr at is))

    by_test : (b : Bool) → eqb r.addr at ≡ b → (z : Bool) → placed_at addr (placed_counted at count rs) ≡ placed_at addr rs
        → placed_at addr (cond b (cond z (placed_counted at count rs) (record r { count = count } ∷ placed_counted at count rs)) (r ∷ placed_counted at count rs)) ≡ cond (eqb r.addr addr) (Some r) (placed_at addr rs)
    by_test true is true rest = rest ∙ sym (cond-false (eqb r.addr addr) (Some r) (placed_at addr rs) (skip is))
    by_test true is false rest =
        cond-false (eqb r.addr addr) (Some (record r { count = count })) (placed_at addr (placed_counted at count rs)) (skip is)
        ∙ (rest ∙ sym (cond-false (eqb r.addr addr) (Some r) (placed_at addr rs) (skip is)))
    by_test false is z rest = ap (λ o. cond (eqb r.addr addr) (Some r) o) rest

gone_count : (at : ℕ) (rs : List PlacedRange) → count_at at (placed_counted at 0 rs) ≡ 0
gone_count at [] = refl
gone_count at (r ∷ rs) = by_test (eqb r.addr at) refl (gone_count at rs)
  where
    by_test : (b : Bool) → eqb r.addr at ≡ b → count_at at (placed_counted at 0 rs) ≡ 0 → count_at at (cond b (placed_counted at 0 rs) (r ∷ placed_counted at 0 rs)) ≡ 0
    by_test true is rest = rest
    by_test false is rest = ap count_in (cond-false (eqb r.addr at) (Some r) (placed_at at (placed_counted at 0 rs)) is) ∙ rest

own_count : (at count : ℕ) (rs : List PlacedRange) (r : PlacedRange) → eqb count 0 ≡ false → placed_at at rs ≡ Some r → count_at at (placed_counted at count rs) ≡ count
own_count at count [] r some is = absurd (none-some r is)
own_count at count (x ∷ rs) r some is = by_test (eqb x.addr at) refl (eqb count 0) some is (own_count at count rs r some)
  where
    by_test : (b : Bool) → eqb x.addr at ≡ b → (z : Bool) → z ≡ false → cond b (Some x) (placed_at at rs) ≡ Some r → (placed_at at rs ≡ Some r → count_at at (placed_counted at count rs) ≡ count)
        → count_at at (cond b (cond z (placed_counted at count rs) (record x { count = count } ∷ placed_counted at count rs)) (x ∷ placed_counted at count rs)) ≡ count
    by_test b here true some is rest = absurd (true≢false some)
    by_test true here false some is rest = ap count_in (cond-true (eqb x.addr at) (Some (record x { count = count })) (placed_at at (placed_counted at count rs)) here)
    by_test false here false some is rest = ap count_in (cond-false (eqb x.addr at) (Some x) (placed_at at (placed_counted at count rs)) here) ∙ rest is

-- so it is whatever the count is
set_count : (at count : ℕ) (rs : List PlacedRange) (r : PlacedRange) → placed_at at rs ≡ Some r → count_at at (placed_counted at count rs) ≡ count
set_count at zero rs r is = gone_count at rs
set_count at (suc count) rs r is = own_count at (suc count) rs r (ne_eqb (suc count) 0 (λ same. omega (arith, same))) is

-- a range is put behind them
push_counted : (rs : List PlacedRange) (r : PlacedRange) → AreCounted rs → 1 ≤ r.pages → 1 ≤ r.count → AreCounted (rs ++ r ∷ [])
push_counted [] r all pages count = (pages, count, tt)
push_counted (x ∷ rs) r all pages count = (all.0, all.1, push_counted rs r all.2 pages count)

pub other_push : (addr : ℕ) (rs : List PlacedRange) (r : PlacedRange) → ¬ (r.addr ≡ addr) → placed_at addr (rs ++ r ∷ []) ≡ placed_at addr rs
other_push addr [] r other = cond-false (eqb r.addr addr) (Some r) None (ne_eqb r.addr addr other)
other_push addr (x ∷ rs) r other = ap (λ o. cond (eqb x.addr addr) (Some x) o) (other_push addr rs r other)

pub own_push : (addr : ℕ) (rs : List PlacedRange) (r : PlacedRange) → r.addr ≡ addr → placed_at addr rs ≡ None → placed_at addr (rs ++ r ∷ []) ≡ Some r
own_push addr [] r own none = cond-true (eqb r.addr addr) (Some r) None (eq-eqb r.addr addr own)
own_push addr (x ∷ rs) r own none = by_test (eqb x.addr addr) none (own_push addr rs r own)
  where
    by_test : (b : Bool) → cond b (Some x) (placed_at addr rs) ≡ None → (placed_at addr rs ≡ None → placed_at addr (rs ++ r ∷ []) ≡ Some r)
        → cond b (Some x) (placed_at addr (rs ++ r ∷ [])) ≡ Some r
    by_test true none rest = absurd (none-some x (sym none))
    by_test false none rest = rest none

pub meets_itself : (at pages size : ℕ) → 1 ≤ pages → 1 ≤ size → meets at pages at size ≡ true
meets_itself at pages size some more =
    let first : nat_lt at (at + 4096 * size) ≡ true = lt-ltb at (at + 4096 * size) (omega (arith, more)) in
    let second : nat_lt at (at + 4096 * pages) ≡ true = lt-ltb at (at + 4096 * pages) (omega (arith, some)) in
    ap (λ b. b && nat_lt at (at + 4096 * pages)) first ∙ second

-- pages that are free start no range
pub free_none : (at pages : ℕ) (rs : List PlacedRange) → 1 ≤ pages → AreCounted rs → is_free at pages rs ≡ true → placed_at at rs ≡ None
free_none at pages [] some all free = refl
free_none at pages (r ∷ rs) some all free =
    let parts : _ = and_parts (not (meets at pages r.addr r.pages)) (is_free at pages rs) free in
    let differs : ¬ (r.addr ≡ at) = λ same.
    let met : meets at pages r.addr r.pages ≡ true = ap (λ a. meets at pages a r.pages) same ∙ meets_itself at pages r.pages some all.0 in
    false≢true (sym (ap not met) ∙ parts.0) in
    cond-false (eqb r.addr at) (Some r) (placed_at at rs) (ne_eqb r.addr at differs) ∙ free_none at pages rs some all.2 parts.1

-- ---- one entry

-- the entry adds to the count at an address what it maps there, and takes away what it drops
pub record Counts (addr : ℕ) (rs ts : List PlacedRange) (e : RegionEntry) : Type 0 where
  pub counted : AreCounted ts
  pub sum : count_at addr ts + drops_at addr (e ∷ []) ≡ count_at addr rs + maps_at addr (e ∷ [])

one_here : (addr at : ℕ) → addr ≡ at → one_if_at addr at ≡ 1
one_here addr at same = cond-true (eqb at addr) 1 0 (eq-eqb at addr (sym same))

one_off : (addr at : ℕ) → ¬ (addr ≡ at) → one_if_at addr at ≡ 0
one_off addr at other = cond-false (eqb at addr) 1 0 (ne_eqb at addr (λ same. other (sym same)))

-- the count of the range at `at` is set to another one
recounted : (addr at count before : ℕ) (rs : List PlacedRange) (r : PlacedRange) (e : RegionEntry) → AreCounted rs → placed_at at rs ≡ Some r → r.count ≡ before →
    count + drops_at at (e ∷ []) ≡ before + maps_at at (e ∷ []) → (¬ (addr ≡ at) → (drops_at addr (e ∷ []) ≡ 0) × (maps_at addr (e ∷ []) ≡ 0)) → Counts addr rs (placed_counted at count rs) e
recounted addr at count before rs r e all is was sum none = record {
  counted = set_counted at count rs all;
  sum = elim (cases_eq addr at) [
    | inl same ↦
        let own = set_count at count rs r is in
        let old : count_at at rs ≡ before = ap count_in is ∙ was in
        subst (λ a. count_at a (placed_counted at count rs) + drops_at a (e ∷ []) ≡ count_at a rs + maps_at a (e ∷ [])) (sym same) (omega (arith, own, old, sum))
    | inr other ↦
        let rest = ap count_in (other_count addr at count rs other) in
        let zero_drops = (none other).0 in
        let zero_maps = (none other).1 in
        omega (arith, rest, zero_drops, zero_maps)
  ];
}

map_counts : (addr at pages count : ℕ) (rs : List PlacedRange) → AreCounted rs → 1 ≤ pages → MayFollow rs (Map at pages count) → Counts addr rs (ranges_after rs (Map at pages count)) (Map at pages count)
map_counts addr at pages count rs all some (inl (before, is, more)) =
    let e : RegionEntry = Map at pages count in
    let counted : 1 ≤ before = found_counted at rs _ all is in
    let again : eqb count 1 ≡ false = ne_eqb count 1 (λ one. omega (arith, counted, one, more)) in
    let sum : count + 0 ≡ before + (one_if_at at at + 0) = omega (arith, more, one_here at at refl) in
    subst (λ ts. Counts addr rs ts e) (sym (cond-false (eqb count 1) (rs ++ record { addr = at; pages = pages; count = 1 } ∷ []) (placed_counted at count rs) again))
    (recounted addr at count before rs (record { addr = at; pages = pages; count = before }) e all is refl sum
    (λ other. (refl, let off = one_off addr at other in omega (arith, off))))
map_counts addr at pages count rs all some (inr (one, free)) =
    let e : RegionEntry = Map at pages count in
    let r : PlacedRange = record { addr = at; pages = pages; count = 1 } in
    let none : placed_at at rs ≡ None = free_none at pages rs some all free in
    subst (λ ts. Counts addr rs ts e) (sym (cond-true (eqb count 1) (rs ++ r ∷ []) (placed_counted at count rs) (eq-eqb count 1 one))) (record {
      counted = push_counted rs r all some (omega arith);
      sum = elim (cases_eq addr at) [
        | inl same ↦
            let own : count_at at (rs ++ r ∷ []) ≡ 1 = ap count_in (own_push at rs r refl none) in
            let old : count_at at rs ≡ 0 = ap count_in none in
            subst (λ a. count_at a (rs ++ r ∷ []) + 0 ≡ count_at a rs + (one_if_at a at + 0)) (sym same) (omega (arith, own, old, one_here at at refl))
        | inr other ↦
            let rest = ap count_in (other_push addr rs r (λ same. other (sym same))) in
            let off = one_off addr at other in
            omega (arith, rest, off)
      ];
    })

pub entry_counts : (addr : ℕ) (rs : List PlacedRange) (e : RegionEntry) → AreCounted rs → MapPages (e ∷ []) → MayFollow rs e → Counts addr rs (ranges_after rs e) e
entry_counts addr rs (Map at pages count) all some may = map_counts addr at pages count rs all some.0 may
entry_counts addr rs (Drop at count) all some (pages, is) =
    let e : RegionEntry = Drop at count in
    let sum : count + (one_if_at at at + 0) ≡ (count + 1) + 0 = let here = one_here at at refl in omega (arith, here) in
    recounted addr at count (count + 1) rs (record { addr = at; pages = pages; count = count + 1 }) e all is refl sum
    (λ other. (let off = one_off addr at other in omega (arith, off), refl))

-- ---- all entries

pub first_pages : (e : RegionEntry) (es : List RegionEntry) → MapPages (e ∷ es) → MapPages (e ∷ []) × MapPages es
first_pages (Map at pages count) es some = ((some.0, tt), some.1)
first_pages (Drop at count) es some = (tt, some)

maps_first : (addr : ℕ) (e : RegionEntry) (es : List RegionEntry) → maps_at addr (e ∷ es) ≡ maps_at addr (e ∷ []) + maps_at addr es
maps_first addr (Map at pages count) es = omega arith
maps_first addr (Drop at count) es = omega arith

drops_first : (addr : ℕ) (e : RegionEntry) (es : List RegionEntry) → drops_at addr (e ∷ es) ≡ drops_at addr (e ∷ []) + drops_at addr es
drops_first addr (Map at pages count) es = omega arith
drops_first addr (Drop at count) es = omega arith

journal_from : (addr : ℕ) (rs : List PlacedRange) (es : List RegionEntry) → AreCounted rs → MapPages es → IsSoundFrom rs es → count_at addr (ranges_from rs es) + drops_at addr es ≡ count_at addr rs + maps_at addr es
journal_from addr rs [] all some sound = refl
journal_from addr rs (e ∷ es) all some sound =
    let pages : _ = first_pages e es some in
    let one : Counts addr rs (ranges_after rs e) e = entry_counts addr rs e all pages.0 sound.0 in
    let rest = journal_from addr (ranges_after rs e) es one.counted pages.1 sound.1 in
    omega (arith, one.sum, rest, maps_first addr e es, drops_first addr e es)

pub journal_counts : (addr : ℕ) (es : List RegionEntry) → MapPages es → IsSoundJournal es → count_at addr (live_ranges es) + drops_at addr es ≡ maps_at addr es
journal_counts addr es some sound = let all = journal_from addr [] es tt some sound in omega (arith, all)

-- ---- the deal

-- what all lists tell together
abbrev pub all_made : ℕ → List (List Told) → ℕ
all_made addr [] = 0
all_made addr (ms ∷ lists) = made_at addr ms + all_made addr lists

abbrev pub all_given : ℕ → List (List Told) → ℕ
all_given addr [] = 0
all_given addr (ms ∷ lists) = given_at addr ms + all_given addr lists

abbrev pub AllPages : List (List Told) → Type 0
AllPages [] = Unit {0}
AllPages (ms ∷ lists) = HavePages ms × AllPages lists

-- a list is exchanged for another one
swap_made : (addr k : ℕ) (lists : List (List Told)) (ms ns : List Told) → slice_get lists k ≡ Some ms → all_made addr (set lists k ns) + made_at addr ms ≡ all_made addr lists + made_at addr ns
swap_made addr k [] ms ns is = absurd (none-some ms is)
swap_made addr zero (x ∷ lists) ms ns is = let same = ap (made_at addr) (same_Some x ms is) in omega (arith, same)
swap_made addr (suc k) (x ∷ lists) ms ns is = let rest = swap_made addr k lists ms ns is in omega (arith, rest)

swap_given : (addr k : ℕ) (lists : List (List Told)) (ms ns : List Told) → slice_get lists k ≡ Some ms → all_given addr (set lists k ns) + given_at addr ms ≡ all_given addr lists + given_at addr ns
swap_given addr k [] ms ns is = absurd (none-some ms is)
swap_given addr zero (x ∷ lists) ms ns is = let same = ap (given_at addr) (same_Some x ms is) in omega (arith, same)
swap_given addr (suc k) (x ∷ lists) ms ns is = let rest = swap_given addr k lists ms ns is in omega (arith, rest)

pages_of_list : (k : ℕ) (lists : List (List Told)) (ms : List Told) → AllPages lists → slice_get lists k ≡ Some ms → HavePages ms
pages_of_list k [] ms all is = absurd (none-some ms is)
pages_of_list zero (x ∷ lists) ms all is = subst HavePages (same_Some x ms is) all.0
pages_of_list (suc k) (x ∷ lists) ms all is = pages_of_list k lists ms all.1 is

swap_pages : (k : ℕ) (lists : List (List Told)) (ns : List Told) → AllPages lists → HavePages ns → AllPages (set lists k ns)
swap_pages k [] ns all some = tt
swap_pages zero (x ∷ lists) ns all some = (some, all.1)
swap_pages (suc k) (x ∷ lists) ns all some = (all.0, swap_pages k lists ns all.1 some)

rest_pages : (m : Told) (ms : List Told) → HavePages (m ∷ ms) → HavePages ms
rest_pages (Made at pages memory) ms all = all.1
rest_pages (GivenBack at) ms all = all

-- the entry tells what the mapping does
pub record Same (addr : ℕ) (e : RegionEntry) (m : Told) (ms : List Told) : Type 0 where
  pub made : made_at addr (m ∷ ms) ≡ maps_at addr (e ∷ []) + made_at addr ms
  pub given : given_at addr (m ∷ ms) ≡ drops_at addr (e ∷ []) + given_at addr ms
  pub pages : HavePages (m ∷ ms) → MapPages (e ∷ [])

dealt_same : (addr k : ℕ) (e : RegionEntry) (m : Told) (ms : List Told) (lives : List Life) → IsDealt k e m lives → Same addr e m ms
dealt_same addr k (Map at pages count) (Made here size memory) ms lives (same, long, life) =
    let one = ap (one_if_at addr) same in
    record { made = omega (arith, one); given = omega arith; pages = λ all. (subst (λ n. 1 ≤ n) long all.0, tt) }
dealt_same addr k (Map at pages count) (GivenBack here) ms lives dealt = absurd dealt
dealt_same addr k (Drop at count) (Made here size memory) ms lives dealt = absurd dealt
dealt_same addr k (Drop at count) (GivenBack here) ms lives same =
    let one = ap (one_if_at addr) same in
    record { made = omega arith; given = omega (arith, one); pages = λ all. tt }

-- what the journal tells of an address, the lists tell together
pub record Deals (addr : ℕ) (es : List RegionEntry) (lists : List (List Told)) : Type 0 where
  pub made : all_made addr lists ≡ maps_at addr es
  pub given : all_given addr lists ≡ drops_at addr es
  pub pages : MapPages es

empty_made : (addr : ℕ) (lists : List (List Told)) → All (λ ms. ms ≡ []) lists → all_made addr lists ≡ 0
empty_made addr [] none = refl
empty_made addr (ms ∷ lists) none =
    let here = ap (made_at addr) (All-head (λ (ns : List Told). ns ≡ []) ms lists none) in
    let rest = empty_made addr lists (All-tail (λ (ns : List Told). ns ≡ []) ms lists none) in
    omega (arith, here, rest)

empty_given : (addr : ℕ) (lists : List (List Told)) → All (λ ms. ms ≡ []) lists → all_given addr lists ≡ 0
empty_given addr [] none = refl
empty_given addr (ms ∷ lists) none =
    let here = ap (given_at addr) (All-head (λ (ns : List Told). ns ≡ []) ms lists none) in
    let rest = empty_given addr lists (All-tail (λ (ns : List Told). ns ≡ []) ms lists none) in
    omega (arith, here, rest)

both_pages : (e : RegionEntry) (es : List RegionEntry) → MapPages (e ∷ []) → MapPages es → MapPages (e ∷ es)
both_pages (Map at pages count) es first rest = (first.0, rest)
both_pages (Drop at count) es first rest = rest

pub deals : (addr : ℕ) (lives : List Life) (es : List RegionEntry) (lists : List (List Told)) (last : List Life) → AllPages lists → DealsFrom lives es lists last → Deals addr es lists
deals addr lives [] lists last all (none, same) = record { made = empty_made addr lists none; given = empty_given addr lists none; pages = tt }
deals addr lives (e ∷ es) lists last all (k, m, ms, is, dealt, goes) =
    let same : Same addr e m ms = dealt_same addr k e m ms lives dealt in
    let pages : HavePages (m ∷ ms) = pages_of_list k lists (m ∷ ms) all is in
    let rest : Deals addr es (set lists k ms) = deals addr (lives_after k e m lives) es (set lists k ms) last (swap_pages k lists ms all (rest_pages m ms pages)) goes in
    let made = swap_made addr k lists (m ∷ ms) ms is in
    let given = swap_given addr k lists (m ∷ ms) ms is in
    record {
      made = omega (arith, rest.made, made, same.made, maps_first addr e es);
      given = omega (arith, rest.given, given, same.given, drops_first addr e es);
      pages = both_pages e es (same.pages pages) rest.pages;
    }

-- ---- the live ranges

placed_some : (o : Option LiveRange) → 1 ≤ count_in (option_map placed o) → is_some o ≡ true
placed_some None some = absurd (omega (arith, some))
placed_some (Some r) some = refl

-- a range whose mappings weren't all given back is live
pub range_there : (addr : ℕ) (region : RegionState) (lists : List (List Told)) (last : List Life) → IsSoundJournal region.journal → DealsFrom [] region.journal lists last → AreLive region → AllPages lists →
    all_given addr lists + 1 ≤ all_made addr lists → is_some (range_at addr region.ranges) ≡ true
range_there addr region lists last sound dealt live pages more =
    let d : Deals addr region.journal lists = deals addr [] region.journal lists last pages dealt in
    let all = journal_counts addr region.journal d.pages sound in
    let here : count_in (option_map placed (range_at addr region.ranges)) ≡ count_at addr (live_ranges region.journal) = ap count_in (live addr) in
    placed_some (range_at addr region.ranges) (omega (arith, more, d.made, d.given, all, here))
