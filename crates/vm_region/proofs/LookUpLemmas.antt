-- Lemmas on the ranges that are found by their address and by their tag.
use Rattle.std.proofs.Common.{◌≡◌, ◌≢◌, ℕ, ◌==◌, ◌+◌, ◌%◌, ◌-◌, ◌≤◌, Bool, true, false, if◌then◌else◌, Option, Some, None, List, [], ◌∷◌, ◌++◌, map, refl, sym, subst, arith}
use Rattle.std.specs.Option.{option_map}
use Rattle.std.proofs.lemmas.Bool.Decides.{nat_tests}
use Rattle.vm_region.specs.declared.entry.RegionEntry.TheVariants.{Map, Drop}
use Rattle.vm_region.specs.declared.live_range.LiveRange.{LiveRange}
use Rattle.vm_region.specs.Region.{AreApart, Grants, IsOrderly, Maps, RegionState, Unmaps, counted, is_free, meets, placed, placed_at, range_at, range_of, recounted}
use Rattle.vm_region.proofs.CountLemmas.{counted_absent, pick}
use Rattle.vm_region.proofs.OrderLemmas.{found, free_absent, tag_found}

-- a range is found in the journal where it is found among the ranges
pub placed_found : (a : ℕ) (rs : List LiveRange) → placed_at a (map placed rs) ≡ option_map placed (range_at a rs)
placed_found a [] = refl
placed_found a (r ∷ rs) = step (r.addr == a) (placed_found a rs)
  where
    step : (b : Bool) → placed_at a (map placed rs) ≡ option_map placed (range_at a rs)
        → (if b then Some (placed r) else placed_at a (map placed rs)) ≡ option_map placed (if b then Some r else range_at a rs)
    step true rest = refl
    step false rest = rest

-- the range that is found by a tag has it
pub tag_is : (t : ℕ) (r : LiveRange) (rs : List LiveRange) → range_of t rs ≡ Some r → r.tag ≡ t
tag_is t r [] of = absurd (cc)
tag_is t r (x ∷ xs) of = step (x.tag == t) refl of (tag_is t r xs)
  where
    step : (b : Bool) → (x.tag == t) ≡ b → (if b then Some x else range_of t xs) ≡ Some r → (range_of t xs ≡ Some r → r.tag ≡ t) → r.tag ≡ t
    step true is of rest = let same : x ≡ r = cc in subst (λ (r : LiveRange). r.tag ≡ t) same (grind (arith, nat_tests, is))
    step false is of rest = rest of

-- the range that starts at an address is the one of its tag
pub found_by_tag : (a : ℕ) (r : LiveRange) (rs : List LiveRange) → IsOrderly rs → range_at a rs ≡ Some r → range_of r.tag rs ≡ Some r
found_by_tag a r [] orderly at = absurd (cc)
found_by_tag a r (x ∷ xs) (pages, count, page, apart, none, orderly) at = step (x.addr == a) at (found_by_tag a r xs orderly)
  where
    split : (b : Bool) → (x.tag == r.tag) ≡ b → range_of r.tag xs ≡ Some r → (if b then Some x else range_of r.tag xs) ≡ Some r
    split true is of =
        let same : x.tag ≡ r.tag = grind (arith, nat_tests) in
        let gone : range_of r.tag xs ≡ None = subst (λ t. range_of t xs ≡ None) same none in
        absurd (cc)
    split false is of = of

    step : (b : Bool) → (if b then Some x else range_at a xs) ≡ Some r → (range_at a xs ≡ Some r → range_of r.tag xs ≡ Some r)
        → range_of r.tag (x ∷ xs) ≡ Some r
    step true at rest =
        let same : x ≡ r = cc in
        let P : LiveRange → Type 0 = λ r. range_of r.tag (x ∷ xs) ≡ Some r in
        let self : (x.tag == x.tag) ≡ true = grind (arith, nat_tests) in
        let here : range_of x.tag (x ∷ xs) ≡ Some x = rw self refl in
        subst P same here
    step false at rest = split (x.tag == r.tag) refl (rest at)

-- what is known of a range that is found, besides
whole : (a : ℕ) (r : LiveRange) (rs : List LiveRange) → IsOrderly rs → range_at a rs ≡ Some r → (1 ≤ r.pages) × (1 ≤ r.count) × (r.addr % 4096 ≡ 0)
whole a r [] orderly at = absurd (cc)
whole a r (x ∷ xs) (pages, count, page, apart, none, orderly) at = step (x.addr == a) at (whole a r xs orderly)
  where
    step : (b : Bool) → (if b then Some x else range_at a xs) ≡ Some r
        → (range_at a xs ≡ Some r → (1 ≤ r.pages) × (1 ≤ r.count) × (r.addr % 4096 ≡ 0)) → (1 ≤ r.pages) × (1 ≤ r.count) × (r.addr % 4096 ≡ 0)
    step true at rest =
        let same : x ≡ r = cc in
        subst (λ (r : LiveRange). (1 ≤ r.pages) × (1 ≤ r.count) × (r.addr % 4096 ≡ 0)) same (pages, count, page)
    step false at rest = rest at

-- pages that are free meet no range that is found
free_apart : (x n o : ℕ) (s : LiveRange) (rs : List LiveRange) → is_free x n (map placed rs) ≡ true → range_at o rs ≡ Some s → meets x n s.addr s.pages ≡ false
free_apart x n o s [] free at = absurd (cc)
free_apart x n o s (y ∷ ys) free at = step (y.addr == o) at (free_apart x n o s ys (grind (arith, nat_tests)))
  where
    step : (b : Bool) → (if b then Some y else range_at o ys) ≡ Some s → (range_at o ys ≡ Some s → meets x n s.addr s.pages ≡ false)
        → meets x n s.addr s.pages ≡ false
    step true at rest =
        let same : y ≡ s = cc in
        let P : LiveRange → Type 0 = λ s. meets x n s.addr s.pages ≡ false in
        let here : meets x n y.addr y.pages ≡ false = grind (arith, nat_tests) in
        subst P same here
    step false at rest = rest at

meets_back : (a n b m : ℕ) → meets a n b m ≡ false → meets b m a n ≡ false
meets_back a n b m apart = grind (arith, nat_tests)

pairs_apart : (a o : ℕ) (r s : LiveRange) (rs : List LiveRange) → IsOrderly rs → range_at a rs ≡ Some r → range_at o rs ≡ Some s → a ≢ o
    → meets r.addr r.pages s.addr s.pages ≡ false
pairs_apart a o r s [] orderly at there other = absurd (cc)
pairs_apart a o r s (x ∷ xs) (pages, count, page, apart, none, orderly) at there other =
    step (x.addr == a) (x.addr == o) refl refl at there (pairs_apart a o r s xs orderly)
  where
    step : (b c : Bool) → (x.addr == a) ≡ b → (x.addr == o) ≡ c → (if b then Some x else range_at a xs) ≡ Some r → (if c then Some x else range_at o xs) ≡ Some s
        → (range_at a xs ≡ Some r → range_at o xs ≡ Some s → a ≢ o → meets r.addr r.pages s.addr s.pages ≡ false)
        → meets r.addr r.pages s.addr s.pages ≡ false
    step true true here too at there rest = absurd (other (grind (arith, nat_tests)))
    step true false here too at there rest =
        let same : x ≡ r = cc in
        subst (λ (r : LiveRange). meets r.addr r.pages s.addr s.pages ≡ false) same (free_apart x.addr x.pages o s xs apart there)
    step false true here too at there rest =
        let same : x ≡ s = cc in
        let P : LiveRange → Type 0 = λ s. meets r.addr r.pages s.addr s.pages ≡ false in
        subst P same (meets_back x.addr x.pages r.addr r.pages (free_apart x.addr x.pages a r xs apart at))
    step false false here too at there rest = rest at there other

-- orderly ranges are apart
pub orderly_apart : (rs : List LiveRange) → IsOrderly rs → AreApart rs
orderly_apart rs orderly = record {
  by_address = λ addr r at. ((found addr r rs orderly at).addr, found_by_tag addr r rs orderly at);
  by_tag = λ tag r of. (tag_is tag r rs of, tag_found tag r rs orderly of);
  whole = λ addr r at.
      let all = whole addr r rs orderly at in
      (all.0, all.1, subst (λ a. a % 4096 ≡ 0) (found addr r rs orderly at).addr all.2);
  apart = λ addr other r s at there differs.
      let all = pairs_apart addr other r s rs orderly at there differs in
      let P : ℕ → Type 0 = λ a. meets a r.pages other s.pages ≡ false in
      let Q : ℕ → Type 0 = λ o. meets r.addr r.pages o s.pages ≡ false in
      subst P (found addr r rs orderly at).addr (subst Q (found other s rs orderly there).addr all);
}

-- ---- where a count is set

at_counted : (a c : ℕ) (r : LiveRange) (rs : List LiveRange) → IsOrderly rs → range_at a rs ≡ Some r → range_at a (counted a c rs) ≡ recounted c r
at_counted a c r [] orderly at = absurd (cc)
at_counted a c r (x ∷ xs) (pages, count, page, apart, none, orderly) at =
    step (x.addr == a) refl at (at_counted a c r xs orderly) (free_absent x.addr x.pages xs pages orderly apart)
  where
    here : (z : Bool) → (x.addr == a) ≡ true → range_at a xs ≡ None
        → range_at a (if z then xs else record x { count = c } ∷ xs) ≡ (if z then None else Some (record x { count = c }))
    here true is gone = gone
    here false is gone = rw is refl

    step : (b : Bool) → (x.addr == a) ≡ b → (if b then Some x else range_at a xs) ≡ Some r → (range_at a xs ≡ Some r → range_at a (counted a c xs) ≡ recounted c r)
        → range_at x.addr xs ≡ None
        → range_at a (if b then (if c == 0 then counted a c xs else record x { count = c } ∷ counted a c xs) else x ∷ counted a c xs) ≡ recounted c r
    step true is at rest absent =
        let same : x ≡ r = cc in
        let starts : x.addr ≡ a = grind (arith, nat_tests) in
        let gone : range_at a xs ≡ None = subst (λ a. range_at a xs ≡ None) starts absent in
        let kept : counted a c xs ≡ xs = counted_absent a c xs gone in
        rw (kept, ← same) (here (c == 0) is gone)
    step false is at rest absent = rw is (rest at)

of_counted : (a c : ℕ) (r : LiveRange) (rs : List LiveRange) → IsOrderly rs → range_at a rs ≡ Some r → range_of r.tag (counted a c rs) ≡ recounted c r
of_counted a c r [] orderly at = absurd (cc)
of_counted a c r (x ∷ xs) (pages, count, page, apart, none, orderly) at =
    step (x.addr == a) refl at (of_counted a c r xs orderly) (free_absent x.addr x.pages xs pages orderly apart)
  where
    here : (z : Bool) → range_of x.tag (if z then xs else record x { count = c } ∷ xs) ≡ (if z then None else Some (record x { count = c }))
    here true = none
    here false = let self : (x.tag == x.tag) ≡ true = grind (arith, nat_tests) in rw self refl

    split : (b : Bool) → (x.tag == r.tag) ≡ b → range_at a xs ≡ Some r → range_of r.tag (counted a c xs) ≡ recounted c r
        → (if b then Some x else range_of r.tag (counted a c xs)) ≡ recounted c r
    split true is at rest =
        let same : x.tag ≡ r.tag = grind (arith, nat_tests) in
        let gone : range_of r.tag xs ≡ None = subst (λ t. range_of t xs ≡ None) same none in
        let there = found_by_tag a r xs orderly at in
        absurd (cc)
    split false is at rest = rest

    step : (b : Bool) → (x.addr == a) ≡ b → (if b then Some x else range_at a xs) ≡ Some r → (range_at a xs ≡ Some r → range_of r.tag (counted a c xs) ≡ recounted c r)
        → range_at x.addr xs ≡ None
        → range_of r.tag (if b then (if c == 0 then counted a c xs else record x { count = c } ∷ counted a c xs) else x ∷ counted a c xs) ≡ recounted c r
    step true is at rest absent =
        let same : x ≡ r = cc in
        let starts : x.addr ≡ a = grind (arith, nat_tests) in
        let gone : range_at a xs ≡ None = subst (λ a. range_at a xs ≡ None) starts absent in
        let kept : counted a c xs ≡ xs = counted_absent a c xs gone in
        rw (kept, ← same) (here (c == 0))
    step false is at rest absent = split (x.tag == r.tag) refl at (rest at)

elsewhere_counted : (a c o : ℕ) (rs : List LiveRange) → o ≢ a → range_at o (counted a c rs) ≡ range_at o rs
elsewhere_counted a c o [] other = refl
elsewhere_counted a c o (x ∷ xs) other = step (x.addr == a) (c == 0) refl (elsewhere_counted a c o xs other)
  where
    step : (b z : Bool) → (x.addr == a) ≡ b → range_at o (counted a c xs) ≡ range_at o xs
        → range_at o (if b then (if z then counted a c xs else record x { count = c } ∷ counted a c xs) else x ∷ counted a c xs) ≡ range_at o (x ∷ xs)
    step true true is rest = let differs : (x.addr == o) ≡ false = grind (arith, nat_tests) in rw (differs, rest) refl
    step true false is rest = let differs : (x.addr == o) ≡ false = grind (arith, nat_tests) in rw (differs, rest) refl
    step false z is rest = rw rest refl

otherwise_counted : (a c t : ℕ) (r : LiveRange) (rs : List LiveRange) → IsOrderly rs → range_at a rs ≡ Some r → t ≢ r.tag → range_of t (counted a c rs) ≡ range_of t rs
otherwise_counted a c t r [] orderly at other = absurd (cc)
otherwise_counted a c t r (x ∷ xs) (pages, count, page, apart, none, orderly) at other =
    step (x.addr == a) (c == 0) refl at (λ later. otherwise_counted a c t r xs orderly later other) (free_absent x.addr x.pages xs pages orderly apart)
  where
    step : (b z : Bool) → (x.addr == a) ≡ b → (if b then Some x else range_at a xs) ≡ Some r → (range_at a xs ≡ Some r → range_of t (counted a c xs) ≡ range_of t xs)
        → range_at x.addr xs ≡ None
        → range_of t (if b then (if z then counted a c xs else record x { count = c } ∷ counted a c xs) else x ∷ counted a c xs) ≡ range_of t (x ∷ xs)
    step true z is at rest absent =
        let same : x ≡ r = cc in
        let starts : x.addr ≡ a = grind (arith, nat_tests) in
        let gone : range_at a xs ≡ None = subst (λ a. range_at a xs ≡ None) starts absent in
        let kept : counted a c xs ≡ xs = counted_absent a c xs gone in
        let away : t ≢ x.tag = subst (λ (r : LiveRange). t ≢ r.tag) (sym same) other in
        let differs : (x.tag == t) ≡ false = grind (arith, nat_tests, away) in
        rw kept (pick (λ (ys : List LiveRange). range_of t ys ≡ range_of t (x ∷ xs)) true z xs (record x { count = c } ∷ xs) (x ∷ xs) (rw differs refl) (rw differs refl) refl)
    step false z is at rest absent = rw (rest at) refl

-- ---- where a range is added

at_push : (g : LiveRange) (rs : List LiveRange) → range_at g.addr rs ≡ None → range_at g.addr (rs ++ g ∷ []) ≡ Some g
at_push g [] none = let self : (g.addr == g.addr) ≡ true = grind (arith, nat_tests) in rw self refl
at_push g (x ∷ xs) none = step (x.addr == g.addr) none (at_push g xs)
  where
    step : (b : Bool) → (if b then Some x else range_at g.addr xs) ≡ None → (range_at g.addr xs ≡ None → range_at g.addr (xs ++ g ∷ []) ≡ Some g)
        → (if b then Some x else range_at g.addr (xs ++ g ∷ [])) ≡ Some g
    step true none rest = absurd (cc)
    step false none rest = rest none

of_push : (g : LiveRange) (rs : List LiveRange) → range_of g.tag rs ≡ None → range_of g.tag (rs ++ g ∷ []) ≡ Some g
of_push g [] none = let self : (g.tag == g.tag) ≡ true = grind (arith, nat_tests) in rw self refl
of_push g (x ∷ xs) none = step (x.tag == g.tag) none (of_push g xs)
  where
    step : (b : Bool) → (if b then Some x else range_of g.tag xs) ≡ None → (range_of g.tag xs ≡ None → range_of g.tag (xs ++ g ∷ []) ≡ Some g)
        → (if b then Some x else range_of g.tag (xs ++ g ∷ [])) ≡ Some g
    step true none rest = absurd (cc)
    step false none rest = rest none

elsewhere_push : (g : LiveRange) (o : ℕ) (rs : List LiveRange) → o ≢ g.addr → range_at o (rs ++ g ∷ []) ≡ range_at o rs
elsewhere_push g o [] other = let differs : (g.addr == o) ≡ false = grind (arith, nat_tests, other) in rw differs refl
elsewhere_push g o (x ∷ xs) other = rw (elsewhere_push g o xs other) refl

otherwise_push : (g : LiveRange) (t : ℕ) (rs : List LiveRange) → t ≢ g.tag → range_of t (rs ++ g ∷ []) ≡ range_of t rs
otherwise_push g t [] other = let differs : (g.tag == t) ≡ false = grind (arith, nat_tests, other) in rw differs refl
otherwise_push g t (x ∷ xs) other = rw (otherwise_push g t xs other) refl

-- ---- what the calls change

pub unmaps_counted : (s : RegionState) (a : ℕ) (r : LiveRange) → IsOrderly s.ranges → range_at a s.ranges ≡ Some r
    → Unmaps s a r (record { journal = s.journal ++ Drop a (r.count - 1) ∷ []; ranges = counted a (r.count - 1) s.ranges })
unmaps_counted s a r orderly at = record {
  journal = refl;
  here = at_counted a (r.count - 1) r s.ranges orderly at;
  tagged = of_counted a (r.count - 1) r s.ranges orderly at;
  elsewhere = λ other differs. elsewhere_counted a (r.count - 1) other s.ranges differs;
  tagged_otherwise = λ other differs. otherwise_counted a (r.count - 1) other r s.ranges orderly at differs;
}

maps_again : (s : RegionState) (t n : ℕ) (r : LiveRange) → IsOrderly s.ranges → range_of t s.ranges ≡ Some r
    → Maps (Some r) s t n r.addr (record { journal = s.journal ++ Map r.addr n (r.count + 1) ∷ []; ranges = counted r.addr (r.count + 1) s.ranges })
maps_again s t n r orderly of =
    let at = tag_found t r s.ranges orderly of in
    let has : r.tag ≡ t = tag_is t r s.ranges of in
    let more : ((r.count + 1) == 0) ≡ false = grind (arith, nat_tests) in
    let live : recounted (r.count + 1) r ≡ Some (record r { count = r.count + 1 }) = rw more refl in
    let here : range_at r.addr (counted r.addr (r.count + 1) s.ranges) ≡ Some (record r { count = r.count + 1 }) =
    rw (← live) (at_counted r.addr (r.count + 1) r s.ranges orderly at) in
    let tagged : range_of r.tag (counted r.addr (r.count + 1) s.ranges) ≡ Some (record r { count = r.count + 1 }) =
    rw (← live) (of_counted r.addr (r.count + 1) r s.ranges orderly at) in (
      refl,
      record {
        journal = refl;
        here = here;
        tagged = subst (λ t. range_of t (counted r.addr (r.count + 1) s.ranges) ≡ Some (record r { count = r.count + 1 })) has tagged;
        elsewhere = λ other differs. elsewhere_counted r.addr (r.count + 1) other s.ranges differs;
        tagged_otherwise = λ other differs. otherwise_counted r.addr (r.count + 1) other r s.ranges orderly at (subst (λ t. other ≢ t) (sym has) differs);
      },
    )

pub grants_maps : (s : RegionState) (t n : ℕ) (given : LiveRange) (new : List LiveRange) (o : Option LiveRange) → IsOrderly s.ranges → range_of t s.ranges ≡ o
    → 1 ≤ n → Grants o t n s.ranges given new
    → Maps o s t n given.addr (record { journal = s.journal ++ Map given.addr n given.count ∷ []; ranges = new })
grants_maps s t n given new (Some r) orderly of some (same, now) = rw (same, now) (maps_again s t n r orderly of)
grants_maps s t n given new None orderly of some (least, same, now) =
    let absent = free_absent given.addr n s.ranges some orderly least.free in
    let g : LiveRange = record { addr = given.addr; pages = n; tag = t; count = 1 } in
    let pushed : new ≡ s.ranges ++ g ∷ [] = rw (← same) now in
    let once : given.count ≡ 1 = rw same refl in
    rw (pushed, once) (
      least,
      record {
        journal = refl;
        here = at_push g s.ranges absent;
        tagged = of_push g s.ranges of;
        elsewhere = λ other differs. elsewhere_push g other s.ranges differs;
        tagged_otherwise = λ other differs. otherwise_push g other s.ranges differs;
      },
    )
