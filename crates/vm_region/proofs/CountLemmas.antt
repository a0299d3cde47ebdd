-- Lemmas on the count of a range that is set.
use Rattle.std.proofs.Common.{◌≡◌, ℕ, ◌==◌, ◌+◌, ◌≤◌, Bool, true, false, if◌then◌else◌, Some, None, List, [], ◌∷◌, map, refl, arith}
use Rattle.std.proofs.lemmas.Bool.Decides.{nat_tests}
use Rattle.std.proofs.lemmas.List.Sums.{sum_by-cons}
use Rattle.vm_region.specs.declared.live_range.LiveRange.{LiveRange}
use Rattle.vm_region.specs.Region.{IsOrderly, counted, mapping_count, placed, placed_counted, range_at, range_of, top_of, with_count, without, is_free}

-- what holds of each of three holds of that which two tests pick
pub pick : {X : Type 0} (P : X → Type 0) (b z : Bool) (x y w : X) → P x → P y → P w → P (if b then (if z then x else y) else w)
pick P true true x y w here there beyond = here
pick P true false x y w here there beyond = there
pick P false z x y w here there beyond = beyond

pub without_is_counted : (a : ℕ) (rs : List LiveRange) → without a rs ≡ counted a 0 rs
without_is_counted a [] = refl
without_is_counted a (r ∷ rs) = grind (arith, nat_tests, without_is_counted a rs)

pub recount_is_counted : (a c : ℕ) (rs : List LiveRange) → (c == 0) ≡ false → map (with_count a c) rs ≡ counted a c rs
recount_is_counted a c [] some = refl
recount_is_counted a c (r ∷ rs) some = grind (arith, nat_tests, recount_is_counted a c rs some)

-- the counts are set alike with the tags and without them
pub placed_alike : (a c : ℕ) (rs : List LiveRange) → map placed (counted a c rs) ≡ placed_counted a c (map placed rs)
placed_alike a c [] = refl
placed_alike a c (r ∷ rs) = grind (arith, nat_tests, placed_alike a c rs)

pub top_counted : (a c : ℕ) (rs : List LiveRange) → top_of (counted a c rs) ≤ top_of rs
top_counted a c [] = omega arith
top_counted a c (r ∷ rs) =
    let rest : top_of (counted a c rs) ≤ top_of rs = top_counted a c rs in
    pick (λ (ys : List LiveRange). top_of ys ≤ top_of (r ∷ rs)) (r.addr == a) (c == 0)
    (counted a c rs) (record r { count = c } ∷ counted a c rs) (r ∷ counted a c rs)
    (omega (arith, rest)) (omega (arith, rest)) (omega (arith, rest))

-- where no range starts at the address, nothing changes
pub counted_absent : (a c : ℕ) (rs : List LiveRange) → range_at a rs ≡ None → counted a c rs ≡ rs
counted_absent a c [] none = refl
counted_absent a c (r ∷ rs) none = step (r.addr == a) none (counted_absent a c rs)
  where
    step : (b : Bool) → (if b then Some r else range_at a rs) ≡ None → (range_at a rs ≡ None → counted a c rs ≡ rs)
        → (if b then (if c == 0 then counted a c rs else record r { count = c } ∷ counted a c rs) else r ∷ counted a c rs) ≡ r ∷ rs
    step true none rest = absurd (cc)
    step false none rest = let same = rest none in rw same refl

pub count_cons : (r : LiveRange) (rs : List LiveRange) → mapping_count (r ∷ rs) ≡ r.count + mapping_count rs
count_cons r rs = sum_by-cons (λ (r : LiveRange). r.count) r rs

-- pages that meet none of the ranges meet none of them with other counts
pub free_counted : (x n a c : ℕ) (rs : List LiveRange) → is_free x n (map placed rs) ≡ true → is_free x n (map placed (counted a c rs)) ≡ true
free_counted x n a c [] free = refl
free_counted x n a c (r ∷ rs) free =
    let later : is_free x n (map placed rs) ≡ true = grind (arith, nat_tests) in
    let rest : is_free x n (map placed (counted a c rs)) ≡ true = free_counted x n a c rs later in
    pick (λ (ys : List LiveRange). is_free x n (map placed ys) ≡ true) (r.addr == a) (c == 0)
    (counted a c rs) (record r { count = c } ∷ counted a c rs) (r ∷ counted a c rs)
    rest (grind (arith, nat_tests, rest)) (grind (arith, nat_tests, rest))

pub tag_counted : (t a c : ℕ) (rs : List LiveRange) → range_of t rs ≡ None → range_of t (counted a c rs) ≡ None
tag_counted t a c [] none = refl
tag_counted t a c (r ∷ rs) none =
    let other : ((r.tag == t) ≡ false) × (range_of t rs ≡ None) = step (r.tag == t) none in
    let rest : range_of t (counted a c rs) ≡ None = tag_counted t a c rs other.1 in
    pick (λ (ys : List LiveRange). range_of t ys ≡ None) (r.addr == a) (c == 0)
    (counted a c rs) (record r { count = c } ∷ counted a c rs) (r ∷ counted a c rs)
    rest (rw (other.0) rest) (rw (other.0) rest)
  where
    step : (b : Bool) → (if b then Some r else range_of t rs) ≡ None → (b ≡ false) × (range_of t rs ≡ None)
    step true none = absurd (cc)
    step false none = (refl, none)

pub orderly_counted : (a c : ℕ) (rs : List LiveRange) → IsOrderly rs → IsOrderly (counted a c rs)
orderly_counted a c [] orderly = tt
orderly_counted a c (r ∷ rs) (pages, count, page, free, tag, orderly) =
    let rest : IsOrderly (counted a c rs) = orderly_counted a c rs orderly in
    let here : is_free r.addr r.pages (map placed (counted a c rs)) ≡ true = free_counted r.addr r.pages a c rs free in
    let none : range_of r.tag (counted a c rs) ≡ None = tag_counted r.tag a c rs tag in
    step (r.addr == a) (c == 0) refl rest (pages, count, page, here, none, rest) here none
  where
    step : (b z : Bool) → (c == 0) ≡ z → IsOrderly (counted a c rs) → IsOrderly (r ∷ counted a c rs)
        → is_free r.addr r.pages (map placed (counted a c rs)) ≡ true → range_of r.tag (counted a c rs) ≡ None
        → IsOrderly (if b then (if z then counted a c rs else record r { count = c } ∷ counted a c rs) else r ∷ counted a c rs)
    step true true is rest whole here none = rest
    step true false is rest whole here none = (pages, grind (arith, nat_tests), page, here, none, rest)
    step false z is rest whole here none = whole
