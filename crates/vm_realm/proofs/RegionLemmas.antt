-- What the region keeps, whatever is mapped in it or given back.
use Rattle.std.proofs.Common.{◌≡◌, ◌≢◌, ℕ, zero, suc, ◌+◌, ◌-◌, ◌*◌, ◌≤◌, ◌^◌, ◌%◌, Bool, true, false, not, List, [], ◌∷◌, ◌++◌, Option, Some, None, map, refl, sym, ap, ◌∙◌, subst, arith, inl, inr, eqb, cond}
use Rattle.std.specs.Prelude.{IfSome}
use Rattle.std.specs.Option.{option_map}
use Rattle.std.proofs.lemmas.Bool.{true≢false, cases_eq, cond-true, cond-false, eq-eqb, ne_eqb, and_from, and_parts, not-true}
use Rattle.std.proofs.lemmas.Bool.Decides.{nat_tests}
use Rattle.std.proofs.lemmas.Option.{none-some, same_Some}
use Rattle.vm_region.specs.declared.entry.RegionEntry.{RegionEntry}
use Rattle.vm_region.specs.declared.entry.RegionEntry.TheVariants.{Map, Drop}
use Rattle.vm_region.specs.declared.live_range.LiveRange.{LiveRange}
use Rattle.vm_region.specs.Region.{PlacedRange, RegionState, Changes, Maps, Unmaps, AreApart, meets, is_free, placed, placed_at, placed_counted, ranges_after, ranges_from, live_ranges, range_at, range_of, recounted, MayFollow, IsSoundFrom, IsSoundJournal}
use Rattle.vm_region.proofs.JournalLemmas.{ranges_push, sound_push}
use Rattle.vm_realm.specs.Mapped.{AreLive, AreLow}
use Rattle.vm_realm.proofs.JournalLemmas.{AreCounted, MapPages, Counts, found_counted, other_count, other_push, own_push, free_none, entry_counts, first_pages, meets_itself}

-- ---- ranges by their addresses

-- each of these has an address of its own
abbrev pub AreDistinct : List PlacedRange → Type 0
AreDistinct [] = Unit {0}
AreDistinct (r ∷ rs) = (placed_at r.addr rs ≡ None) × AreDistinct rs

none_first : (addr : ℕ) (r : PlacedRange) (rs : List PlacedRange) → placed_at addr (r ∷ rs) ≡ None → (eqb r.addr addr ≡ false) × (placed_at addr rs ≡ None)
none_first addr r rs none = by_test (eqb r.addr addr) none
  where
    by_test : (b : Bool) → cond b (Some r) (placed_at addr rs) ≡ None → (b ≡ false) × (placed_at addr rs ≡ None)
    by_test true none = absurd (none-some r (sym none))
    by_test false none = (refl, none)

counted_none : (addr at count : ℕ) (rs : List PlacedRange) → placed_at addr rs ≡ None → placed_at addr (placed_counted at count rs) ≡ None
counted_none addr at count [] none = refl
counted_none addr at count (r ∷ rs) none =
    let first : _ = none_first addr r rs none in
    by_test (eqb r.addr at) (eqb count 0) first.0 (counted_none addr at count rs first.1)
  where
    by_test : (b z : Bool) → eqb r.addr addr ≡ false → placed_at addr (placed_counted at count rs) ≡ None
        → placed_at addr (cond b (cond z (placed_counted at count rs) (record r { count = count } ∷ placed_counted at count rs)) (r ∷ placed_counted at count rs)) ≡ None
    by_test true true off rest = rest
    by_test true false off rest = cond-false (eqb r.addr addr) (Some (record r { count = count })) (placed_at addr (placed_counted at count rs)) off ∙ rest
    by_test false z off rest = cond-false (eqb r.addr addr) (Some r) (placed_at addr (placed_counted at count rs)) off ∙ rest

set_distinct : (at count : ℕ) (rs : List PlacedRange) → AreDistinct rs → AreDistinct (placed_counted at count rs)
set_distinct at count [] all = tt
set_distinct at count (r ∷ rs) all = by_test (eqb r.addr at) (eqb count 0) (set_distinct at count rs all.1)
  where
    by_test : (b z : Bool) → AreDistinct (placed_counted at count rs)
        → AreDistinct (cond b (cond z (placed_counted at count rs) (record r { count = count } ∷ placed_counted at count rs)) (r ∷ placed_counted at count rs))
    by_test true true rest = rest
    by_test true false rest = (counted_none r.addr at count rs all.0, rest)
    by_test false z rest = (counted_none r.addr at count rs all.0, rest)

push_distinct : (rs : List PlacedRange) (r : PlacedRange) → AreDistinct rs → placed_at r.addr rs ≡ None → AreDistinct (rs ++ r ∷ [])
push_distinct [] r all none = (refl, tt)
push_distinct (x ∷ rs) r all none =
    let first : _ = none_first r.addr x rs none in
    let apart : ¬ (r.addr ≡ x.addr) = λ same. true≢false (sym (eq-eqb x.addr r.addr (sym same)) ∙ first.0) in
    (other_push x.addr rs r apart ∙ all.0, push_distinct rs r all.1 first.1)

after_distinct : (rs : List PlacedRange) (e : RegionEntry) → AreCounted rs → MapPages (e ∷ []) → MayFollow rs e → AreDistinct rs → AreDistinct (ranges_after rs e)
after_distinct rs (Map at pages count) all some (inl (before, is, more)) each =
    let counted : 1 ≤ before = found_counted at rs _ all is in
    let again : eqb count 1 ≡ false = ne_eqb count 1 (λ one. omega (arith, counted, one, more)) in
    subst AreDistinct (sym (cond-false (eqb count 1) (rs ++ record { addr = at; pages = pages; count = 1 } ∷ []) (placed_counted at count rs) again)) (set_distinct at count rs each)
after_distinct rs (Map at pages count) all some (inr (one, free)) each =
    subst AreDistinct (sym (cond-true (eqb count 1) (rs ++ record { addr = at; pages = pages; count = 1 } ∷ []) (placed_counted at count rs) (eq-eqb count 1 one)))
    (push_distinct rs (record { addr = at; pages = pages; count = 1 }) each (free_none at pages rs some.0 all free))
after_distinct rs (Drop at count) all some may each = set_distinct at count rs each

from_distinct : (rs : List PlacedRange) (es : List RegionEntry) → AreCounted rs → MapPages es → IsSoundFrom rs es → AreDistinct rs → AreDistinct (ranges_from rs es)
from_distinct rs [] all some sound each = each
from_distinct rs (e ∷ es) all some sound each =
    let pages : _ = first_pages e es some in
    let one : Counts 0 rs (ranges_after rs e) e = entry_counts 0 rs e all pages.0 sound.0 in
    from_distinct (ranges_after rs e) es one.counted pages.1 sound.1 (after_distinct rs e all pages.0 sound.0 each)

pub live_distinct : (es : List RegionEntry) → MapPages es → IsSoundJournal es → AreDistinct (live_ranges es)
live_distinct es some sound = from_distinct [] es tt some sound tt

-- the range whose count is set
own_found : (at count : ℕ) (rs : List PlacedRange) (r : PlacedRange) → eqb count 0 ≡ false → placed_at at rs ≡ Some r → placed_at at (placed_counted at count rs) ≡ Some (record r { count = count })
own_found at count [] r some is = absurd (none-some r is)
own_found at count (x ∷ rs) r some is = by_test (eqb x.addr at) refl (eqb count 0) some is (own_found at count rs r some)
  where
    by_test : (b : Bool) → eqb x.addr at ≡ b → (z : Bool) → z ≡ false → cond b (Some x) (placed_at at rs) ≡ Some r → (placed_at at rs ≡ Some r → placed_at at (placed_counted at count rs) ≡ Some (record r { count = count }))
        → placed_at at (cond b (cond z (placed_counted at count rs) (record x { count = count } ∷ placed_counted at count rs)) (x ∷ placed_counted at count rs)) ≡ Some (record r { count = count })
    by_test b here true some is rest = absurd (true≢false some)
    by_test true here false some is rest =
        cond-true (eqb x.addr at) (Some (record x { count = count })) (placed_at at (placed_counted at count rs)) here
        ∙ ap (λ (y : PlacedRange). Some (record y { count = count })) (same_Some x r is)
    by_test false here false some is rest = cond-false (eqb x.addr at) (Some x) (placed_at at (placed_counted at count rs)) here ∙ rest is

gone_found : (at : ℕ) (rs : List PlacedRange) → placed_at at (placed_counted at 0 rs) ≡ None
gone_found at [] = refl
gone_found at (r ∷ rs) = by_test (eqb r.addr at) refl (gone_found at rs)
  where
    by_test : (b : Bool) → eqb r.addr at ≡ b → placed_at at (placed_counted at 0 rs) ≡ None → placed_at at (cond b (placed_counted at 0 rs) (r ∷ placed_counted at 0 rs)) ≡ None
    by_test true is rest = rest
    by_test false is rest = cond-false (eqb r.addr at) (Some r) (placed_at at (placed_counted at 0 rs)) is ∙ rest

-- pages that meet no range that is found are free
all_free : (addr pages : ℕ) (rs : List PlacedRange) → AreDistinct rs → ((r : PlacedRange) → placed_at r.addr rs ≡ Some r → meets addr pages r.addr r.pages ≡ false) → is_free addr pages rs ≡ true
all_free addr pages [] each none = refl
all_free addr pages (r ∷ rs) each none =
    let here : placed_at r.addr (r ∷ rs) ≡ Some r = cond-true (eqb r.addr r.addr) (Some r) (placed_at r.addr rs) (eq-eqb r.addr r.addr refl) in
    and_from (not (meets addr pages r.addr r.pages)) (is_free addr pages rs) (ap not (none r here))
    (all_free addr pages rs each.1 (λ x is. none x (cond-false (eqb r.addr x.addr) (Some r) (placed_at x.addr rs) (apart x is) ∙ is)))
  where
    apart : (x : PlacedRange) → placed_at x.addr rs ≡ Some x → eqb r.addr x.addr ≡ false
    apart x is = ne_eqb r.addr x.addr (λ same. none-some x (sym each.0 ∙ (ap (λ a. placed_at a rs) same ∙ is)))

-- pages that are free meet no range that is found
free_apart : (addr pages other : ℕ) (s : LiveRange) (rs : List LiveRange) → is_free addr pages (map placed rs) ≡ true → range_at other rs ≡ Some s → meets addr pages s.addr s.pages ≡ false
free_apart addr pages other s [] free at = absurd (none-some s at)
free_apart addr pages other s (y ∷ ys) free at =
    let parts : _ = and_parts (not (meets addr pages y.addr y.pages)) (is_free addr pages (map placed ys)) free in
    by_test (eqb y.addr other) at parts.0 (free_apart addr pages other s ys parts.1)
  where
    by_test : (b : Bool) → cond b (Some y) (range_at other ys) ≡ Some s → not (meets addr pages y.addr y.pages) ≡ true → (range_at other ys ≡ Some s → meets addr pages s.addr s.pages ≡ false) → meets addr pages s.addr s.pages ≡ false
    by_test true at here rest = subst (λ (z : LiveRange). meets addr pages z.addr z.pages ≡ false) (same_Some y s at) (not-true (meets addr pages y.addr y.pages) here)
    by_test false at here rest = rest at

meets_back : (a n b m : ℕ) → meets a n b m ≡ false → meets b m a n ≡ false
meets_back a n b m apart = grind (arith, nat_tests)

-- ---- what the region keeps

pub record RegionKeeps (region : RegionState) : Type 0 where
  pub journal : IsSoundJournal region.journal
  pub live : AreLive region
  pub apart : AreApart region.ranges
  pub low : AreLow region.ranges

-- a range that is there now, at this address and of this tag
record IsNow (old : RegionState) (addr tag : ℕ) (n : LiveRange) : Type 0 where
  address : n.addr ≡ addr
  own : n.tag ≡ tag
  pages : 1 ≤ n.pages
  count : 1 ≤ n.count
  page : addr % 4096 ≡ 0
  apart : (other : ℕ) (s : LiveRange) → range_at other old.ranges ≡ Some s → other ≢ addr → meets addr n.pages other s.pages ≡ false

-- no range of another address has the tag, and none of another tag has the address
record IsAlone (old : RegionState) (addr tag : ℕ) : Type 0 where
  others : (other : ℕ) (s : LiveRange) → range_at other old.ranges ≡ Some s → other ≢ addr → s.tag ≢ tag
  tags : (t : ℕ) (s : LiveRange) → range_of t old.ranges ≡ Some s → t ≢ tag → s.addr ≢ addr

-- the live ranges are apart when one of them has changed
changed_apart : (old new : RegionState) (e : RegionEntry) (addr tag : ℕ) (o : Option LiveRange) → AreApart old.ranges → Changes old new e addr tag o → ((n : LiveRange) → o ≡ Some n → IsNow old addr tag n) → IsAlone old addr tag → AreApart new.ranges
changed_apart old new e addr tag o apart changes now alone = record {
  by_address = λ a r is. elim (cases_eq a addr) [
    | inl same ↦
        let mine : o ≡ Some r = sym changes.here ∙ (ap (λ i. range_at i new.ranges) (sym same) ∙ is) in
        let n : IsNow old addr tag r = now r mine in
        (n.address ∙ sym same, ap (λ t. range_of t new.ranges) n.own ∙ (changes.tagged ∙ mine))
    | inr differs ↦
        let before : range_at a old.ranges ≡ Some r = sym (changes.elsewhere a differs) ∙ is in
        let was : _ = apart.by_address a r before in
        (was.0, changes.tagged_otherwise r.tag (alone.others a r before differs) ∙ was.1)
  ];
  by_tag = λ t r is. elim (cases_eq t tag) [
    | inl same ↦
        let mine : o ≡ Some r = sym changes.tagged ∙ (ap (λ i. range_of i new.ranges) (sym same) ∙ is) in
        let n : IsNow old addr tag r = now r mine in
        (n.own ∙ sym same, ap (λ i. range_at i new.ranges) n.address ∙ (changes.here ∙ mine))
    | inr differs ↦
        let before : range_of t old.ranges ≡ Some r = sym (changes.tagged_otherwise t differs) ∙ is in
        let was : _ = apart.by_tag t r before in
        (was.0, changes.elsewhere r.addr (alone.tags t r before differs) ∙ was.1)
  ];
  whole = λ a r is. elim (cases_eq a addr) [
    | inl same ↦
        let n : IsNow old addr tag r = now r (sym changes.here ∙ (ap (λ i. range_at i new.ranges) (sym same) ∙ is)) in
        (n.pages, n.count, ap (λ i. i % 4096) same ∙ n.page)
    | inr differs ↦ apart.whole a r (sym (changes.elsewhere a differs) ∙ is)
  ];
  apart = λ a b r s is there differs. elim (cases_eq a addr) [
    | inl same ↦
        let n : IsNow old addr tag r = now r (sym changes.here ∙ (ap (λ i. range_at i new.ranges) (sym same) ∙ is)) in
        let far : b ≢ addr = λ other. differs (same ∙ sym other) in
        subst (λ i. meets i r.pages b s.pages ≡ false) (sym same) (n.apart b s (sym (changes.elsewhere b far) ∙ there) far)
    | inr far ↦ elim (cases_eq b addr) [
      | inl same ↦
          let n : IsNow old addr tag s = now s (sym changes.here ∙ (ap (λ i. range_at i new.ranges) (sym same) ∙ there)) in
          subst (λ i. meets a r.pages i s.pages ≡ false) (sym same) (meets_back addr s.pages a r.pages (n.apart a r (sym (changes.elsewhere a far) ∙ is) far))
      | inr off ↦ apart.apart a b r s (sym (changes.elsewhere a far) ∙ is) (sym (changes.elsewhere b off) ∙ there) differs
    ]
  ];
}

changed_low : (old new : RegionState) (e : RegionEntry) (addr tag : ℕ) (o : Option LiveRange) → AreLow old.ranges → Changes old new e addr tag o → ((n : LiveRange) → o ≡ Some n → n.addr + 4096 * n.pages ≤ 4096 * 2 ^ 22) → AreLow new.ranges
changed_low old new e addr tag o low changes now t r is = elim (cases_eq t tag) [
  | inl same ↦ now r (sym changes.tagged ∙ (ap (λ i. range_of i new.ranges) (sym same) ∙ is))
  | inr differs ↦ low t r (sym (changes.tagged_otherwise t differs) ∙ is)
]

-- ---- a live range is counted anew

-- it is live, at this address and with this tag
record IsThere (old : RegionState) (addr tag : ℕ) (r : LiveRange) : Type 0 where
  address : r.addr ≡ addr
  own : r.tag ≡ tag
  at : range_at addr old.ranges ≡ Some r
  of : range_of tag old.ranges ≡ Some r

there_alone : (old : RegionState) (addr tag : ℕ) (r : LiveRange) → AreApart old.ranges → IsThere old addr tag r → IsAlone old addr tag
there_alone old addr tag r apart is = record {
  others = λ other s at differs same.
      let was : _ = apart.by_address other s at in
      let one : s ≡ r = same_Some s r (sym was.1 ∙ (ap (λ t. range_of t old.ranges) same ∙ is.of)) in
      differs (sym was.0 ∙ (ap (λ (x : LiveRange). x.addr) one ∙ is.address));
  tags = λ t s of differs same.
      let was : _ = apart.by_tag t s of in
      let one : s ≡ r = same_Some s r (sym was.1 ∙ (ap (λ i. range_at i old.ranges) same ∙ is.at)) in
      differs (sym was.0 ∙ (ap (λ (x : LiveRange). x.tag) one ∙ is.own));
}

there_now : (old : RegionState) (addr tag count : ℕ) (r : LiveRange) → AreApart old.ranges → IsThere old addr tag r → 1 ≤ count → IsNow old addr tag (record r { count = count })
there_now old addr tag count r apart is some =
    let whole : _ = apart.whole addr r is.at in
    record {
      address = is.address;
      own = is.own;
      pages = whole.0;
      count = some;
      page = whole.2;
      apart = λ other s at differs. apart.apart addr other r s is.at at (λ same. differs (sym same));
    }

-- the journal has an entry more
after_push : (old new : RegionState) (e : RegionEntry) → new.journal ≡ old.journal ++ e ∷ [] → live_ranges new.journal ≡ ranges_after (live_ranges old.journal) e
after_push old new e is = ap live_ranges is ∙ ranges_push [] old.journal e

journal_push : (old new : RegionState) (e : RegionEntry) → new.journal ≡ old.journal ++ e ∷ [] → IsSoundJournal old.journal → MayFollow (live_ranges old.journal) e → IsSoundJournal new.journal
journal_push old new e is sound may = subst IsSoundJournal (sym is) (sound_push [] old.journal e sound may)

-- what lives is what the journal tells, where both change alike
changed_live : (old new : RegionState) (e : RegionEntry) (addr tag : ℕ) (o : Option LiveRange) → AreLive old → Changes old new e addr tag o → placed_at addr (ranges_after (live_ranges old.journal) e) ≡ option_map placed o →
    ((a : ℕ) → ¬ (a ≡ addr) → placed_at a (ranges_after (live_ranges old.journal) e) ≡ placed_at a (live_ranges old.journal)) → AreLive new
changed_live old new e addr tag o live changes own others a = elim (cases_eq a addr) [
  | inl same ↦
      ap (λ i. option_map placed (range_at i new.ranges)) same
      ∙ (ap (option_map placed) changes.here ∙ (sym own ∙ (λ j. placed_at (sym same j) (sym (after_push old new e changes.journal) j))))
  | inr differs ↦
      ap (option_map placed) (changes.elsewhere a differs) ∙ (live a ∙ (sym (others a differs) ∙ ap (placed_at a) (sym (after_push old new e changes.journal))))
]

-- ---- a mapping is made

again : (old new : RegionState) (tag : ℕ) (r : LiveRange) → RegionKeeps old → IsThere old r.addr tag r → Changes old new (Map r.addr r.pages (r.count + 1)) r.addr tag (Some (record r { count = r.count + 1 })) → RegionKeeps new
again old new tag r keeps is changes =
    let rs : List PlacedRange = live_ranges old.journal in
    let e : RegionEntry = Map r.addr r.pages (r.count + 1) in
    let some : 1 ≤ r.count = (keeps.apart.whole r.addr r is.at).1 in
    let here : placed_at r.addr rs ≡ Some (placed r) = sym (keeps.live r.addr) ∙ ap (option_map placed) is.at in
    let more : eqb (r.count + 1) 1 ≡ false = ne_eqb (r.count + 1) 1 (λ one. omega (arith, one, some)) in
    let left : eqb (r.count + 1) 0 ≡ false = ne_eqb (r.count + 1) 0 (λ none. omega (arith, none)) in
    let after : ranges_after rs e ≡ placed_counted r.addr (r.count + 1) rs =
    cond-false (eqb (r.count + 1) 1) (rs ++ record { addr = r.addr; pages = r.pages; count = 1 } ∷ []) (placed_counted r.addr (r.count + 1) rs) more in
    record {
      journal = journal_push old new e changes.journal keeps.journal (inl (r.count, here, refl));
      live = changed_live old new e r.addr tag (Some (record r { count = r.count + 1 })) keeps.live changes (ap (placed_at r.addr) after ∙ own_found r.addr (r.count + 1) rs (placed r) left here)
          (λ a differs. ap (placed_at a) after ∙ other_count a r.addr (r.count + 1) rs differs);
      apart = changed_apart old new e r.addr tag (Some (record r { count = r.count + 1 })) keeps.apart changes
          (λ n same. subst (IsNow old r.addr tag) (same_Some (record r { count = r.count + 1 }) n same) (there_now old r.addr tag (r.count + 1) r keeps.apart is (omega (arith, some))))
          (there_alone old r.addr tag r keeps.apart is);
      low = changed_low old new e r.addr tag (Some (record r { count = r.count + 1 })) keeps.low changes
          (λ n same. subst (λ (x : LiveRange). x.addr + 4096 * x.pages ≤ 4096 * 2 ^ 22) (same_Some (record r { count = r.count + 1 }) n same) (keeps.low tag r is.of));
    }

fresh : (old new : RegionState) (tag pages addr : ℕ) → RegionKeeps old → MapPages old.journal → 1 ≤ pages → range_of tag old.ranges ≡ None → Maps None old tag pages addr new → RegionKeeps new
fresh old new tag pages addr keeps each some none (least, changes) =
    let rs : List PlacedRange = live_ranges old.journal in
    let e : RegionEntry = Map addr pages 1 in
    let r : LiveRange = record { addr = addr; pages = pages; tag = tag; count = 1 } in
    let p : PlacedRange = record { addr = addr; pages = pages; count = 1 } in
    let absent : range_at addr old.ranges ≡ None = nothing (range_at addr old.ranges) refl in
    let unplaced : placed_at addr rs ≡ None = sym (keeps.live addr) ∙ ap (option_map placed) absent in
    let after : ranges_after rs e ≡ rs ++ p ∷ [] = cond-true (eqb 1 1) (rs ++ p ∷ []) (placed_counted addr 1 rs) refl in
    let free : is_free addr pages rs ≡ true = all_free addr pages rs (live_distinct old.journal each keeps.journal) meets_none in
    record {
      journal = journal_push old new e changes.journal keeps.journal (inr (refl, free));
      live = changed_live old new e addr tag (Some r) keeps.live changes (own_push addr rs p refl unplaced) (λ a differs. other_push a rs p (λ same. differs (sym same)));
      apart = changed_apart old new e addr tag (Some r) keeps.apart changes (λ n same. subst (IsNow old addr tag) (same_Some r n same) (record {
        address = refl;
        own = refl;
        pages = some;
        count = omega arith;
        page = least.page;
        apart = λ other s at differs. subst (λ i. meets addr pages i s.pages ≡ false) (keeps.apart.by_address other s at).0 (free_apart addr pages other s old.ranges least.free at);
      })) (record {
        others = λ other s at differs same. none-some s (sym none ∙ (ap (λ t. range_of t old.ranges) (sym same) ∙ (keeps.apart.by_address other s at).1));
        tags = λ t s of differs same. none-some s (sym absent ∙ (ap (λ i. range_at i old.ranges) (sym same) ∙ (keeps.apart.by_tag t s of).1));
      });
      low = changed_low old new e addr tag (Some r) keeps.low changes (λ n same. subst (λ (x : LiveRange). x.addr + 4096 * x.pages ≤ 4096 * 2 ^ 22) (same_Some r n same) least.inside);
    }
  where
    nothing : (o : Option LiveRange) → range_at addr old.ranges ≡ o → o ≡ None
    nothing None is = refl
    nothing (Some s) is =
        let whole : _ = keeps.apart.whole addr s is in
        let apart : meets addr pages s.addr s.pages ≡ false = free_apart addr pages addr s old.ranges least.free is in
        let here : meets addr pages addr s.pages ≡ false = subst (λ i. meets addr pages i s.pages ≡ false) (keeps.apart.by_address addr s is).0 apart in
        absurd (true≢false (sym (meets_itself addr pages s.pages some whole.0) ∙ here))

    found_live : (x : PlacedRange) (o : Option LiveRange) → range_at x.addr old.ranges ≡ o → option_map placed o ≡ Some x → meets addr pages x.addr x.pages ≡ false
    found_live x None is same = absurd (none-some x same)
    found_live x (Some s) is same = subst (λ (y : PlacedRange). meets addr pages y.addr y.pages ≡ false) (same_Some (placed s) x same) (free_apart addr pages x.addr s old.ranges least.free is)

    meets_none : (x : PlacedRange) → placed_at x.addr (live_ranges old.journal) ≡ Some x → meets addr pages x.addr x.pages ≡ false
    meets_none x is = found_live x (range_at x.addr old.ranges) refl (keeps.live x.addr ∙ is)

pub maps_keep : (o : Option LiveRange) (old new : RegionState) (tag pages addr : ℕ) → RegionKeeps old → MapPages old.journal → 1 ≤ pages → range_of tag old.ranges ≡ o → IfSome o (λ r. r.pages ≡ pages) → Maps o old tag pages addr new → RegionKeeps new
maps_keep None old new tag pages addr keeps each some is whole maps = fresh old new tag pages addr keeps each some is maps
maps_keep (Some r) old new tag pages addr keeps each some is whole (same, changes) =
    let was : _ = keeps.apart.by_tag tag r is in
    again old new tag r keeps (record { address = refl; own = was.0; at = was.1; of = is })
    (subst (λ n. Changes old new (Map r.addr n (r.count + 1)) r.addr tag (Some (record r { count = r.count + 1 }))) (sym whole)
    (subst (λ a. Changes old new (Map a pages (r.count + 1)) a tag (Some (record r { count = r.count + 1 }))) same changes))

-- ---- a mapping is given back

dropped : (old new : RegionState) (addr count : ℕ) (r : LiveRange) → r.count ≡ count + 1 → RegionKeeps old → range_at addr old.ranges ≡ Some r → Changes old new (Drop addr count) addr r.tag (recounted count r) → RegionKeeps new
dropped old new addr count r was keeps is changes =
    let rs : List PlacedRange = live_ranges old.journal in
    let e : RegionEntry = Drop addr count in
    let both : _ = keeps.apart.by_address addr r is in
    let there : IsThere old addr r.tag r = record { address = both.0; own = refl; at = is; of = both.1 } in
    let here : placed_at addr rs ≡ Some (record { addr = addr; pages = r.pages; count = count + 1 }) =
    sym (keeps.live addr) ∙ (ap (option_map placed) is ∙ (λ j. Some (record { addr = both.0 j; pages = r.pages; count = was j }))) in
    record {
      journal = journal_push old new e changes.journal keeps.journal (r.pages, here);
      live = changed_live old new e addr r.tag (recounted count r) keeps.live changes (by_count count here both.0) (λ a differs. other_count a addr count rs differs);
      apart = changed_apart old new e addr r.tag (recounted count r) keeps.apart changes (λ n same. left (eqb count 0) refl n same there) (there_alone old addr r.tag r keeps.apart there);
      low = changed_low old new e addr r.tag (recounted count r) keeps.low changes (λ n same. still_low (eqb count 0) n same both.1);
    }
  where
    by_count : (c : ℕ) → placed_at addr (live_ranges old.journal) ≡ Some (record { addr = addr; pages = r.pages; count = count + 1 }) → r.addr ≡ addr →
        placed_at addr (placed_counted addr c (live_ranges old.journal)) ≡ option_map placed (recounted c r)
    by_count zero here at = gone_found addr (live_ranges old.journal)
    by_count (suc c) here at =
        let some : eqb (suc c) 0 ≡ false = ne_eqb (suc c) 0 (λ none. omega (arith, none)) in
        own_found addr (suc c) (live_ranges old.journal) (record { addr = addr; pages = r.pages; count = count + 1 }) some here
        ∙ ((λ j. Some (record { addr = sym at j; pages = r.pages; count = suc c }))
        ∙ ap (option_map placed) (sym (cond-false (eqb (suc c) 0) None (Some (record r { count = suc c })) some)))

    left : (b : Bool) → eqb count 0 ≡ b → (n : LiveRange) → cond b None (Some (record r { count = count })) ≡ Some n → IsThere old addr r.tag r → IsNow old addr r.tag n
    left true zero_is n same there = absurd (none-some n same)
    left false some n same there =
        subst (IsNow old addr r.tag) (same_Some (record r { count = count }) n same) (there_now old addr r.tag count r keeps.apart there (positive count some))
      where
        positive : (c : ℕ) → eqb c 0 ≡ false → 1 ≤ c
        positive zero none = absurd (true≢false none)
        positive (suc c) none = omega arith

    still_low : (b : Bool) (n : LiveRange) → cond b None (Some (record r { count = count })) ≡ Some n → range_of r.tag old.ranges ≡ Some r → n.addr + 4096 * n.pages ≤ 4096 * 2 ^ 22
    still_low true n same of = absurd (none-some n same)
    still_low false n same of = subst (λ (x : LiveRange). x.addr + 4096 * x.pages ≤ 4096 * 2 ^ 22) (same_Some (record r { count = count }) n same) (keeps.low r.tag r of)

pub unmaps_keep : (old new : RegionState) (addr : ℕ) (r : LiveRange) → RegionKeeps old → range_at addr old.ranges ≡ Some r → Unmaps old addr r new → RegionKeeps new
unmaps_keep old new addr r keeps is unmaps =
    let some : 1 ≤ r.count = (keeps.apart.whole addr r is).1 in
    dropped old new addr (r.count - 1) r (omega (arith, some)) keeps is unmaps
