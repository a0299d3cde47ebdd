-- Lemmas on ranges of which no two meet and no two have a tag.
use Rattle.std.proofs.Common.{◌≡◌, ℕ, ◌==◌, ◌+◌, ◌*◌, ◌%◌, ◌≤◌, max, Bool, true, false, if◌then◌else◌, Some, None, List, [], ◌∷◌, ◌++◌, map, refl, subst, arith}
use Rattle.std.proofs.lemmas.Bool.Decides.{nat_tests}
use Rattle.vm_region.specs.declared.live_range.LiveRange.{LiveRange}
use Rattle.vm_region.specs.Region.{IsOrderly, counted, is_free, mapping_count, meets, placed, placed_at, range_at, range_of, top_of}
use Rattle.vm_region.proofs.CountLemmas.{count_cons, counted_absent}

-- where pages meet none of the ranges, none starts where they do
pub free_absent : (a n : ℕ) (rs : List LiveRange) → 1 ≤ n → IsOrderly rs → is_free a n (map placed rs) ≡ true → range_at a rs ≡ None
free_absent a n [] some orderly free = refl
free_absent a n (r ∷ rs) some (pages, count, page, apart, tag, orderly) free =
    let later : is_free a n (map placed rs) ≡ true = grind (arith, nat_tests) in
    let other : (r.addr == a) ≡ false = grind (arith, nat_tests) in
    rw other (free_absent a n rs some orderly later)

-- what is known of the range that starts at an address
pub record Found (a : ℕ) (r : LiveRange) (rs : List LiveRange) : Type 0 where
  pub addr : r.addr ≡ a
  pub some : 1 ≤ r.count
  pub within : r.count ≤ mapping_count rs
  pub top : r.addr + 4096 * r.pages ≤ top_of rs
  pub there : placed_at a (map placed rs) ≡ Some (placed r)
  pub counts : (c : ℕ) → mapping_count (counted a c rs) + r.count ≡ mapping_count rs + c

pub found : (a : ℕ) (r : LiveRange) (rs : List LiveRange) → IsOrderly rs → range_at a rs ≡ Some r → Found a r rs
found a r [] orderly at = absurd (cc)
found a r (x ∷ xs) (pages, count, page, apart, tag, orderly) at =
    step (x.addr == a) refl at (found a r xs orderly) (free_absent x.addr x.pages xs pages orderly apart)
  where
    count_here : (c : ℕ) (z : Bool) → (c == 0) ≡ z → counted a c xs ≡ xs
        → mapping_count (if z then counted a c xs else record x { count = c } ∷ counted a c xs) + x.count ≡ mapping_count (x ∷ xs) + c
    count_here c true is same =
        let none : c ≡ 0 = grind (arith, nat_tests) in
        let all = count_cons x xs in
        rw same (omega (arith, none, all))
    count_here c false is same =
        let all = count_cons x xs in
        let now = count_cons (record x { count = c }) xs in
        rw same (omega (arith, now, all))

    step : (b : Bool) → (x.addr == a) ≡ b → (if b then Some x else range_at a xs) ≡ Some r → (range_at a xs ≡ Some r → Found a r xs)
        → range_at x.addr xs ≡ None → Found a r (x ∷ xs)
    step true is at rest none =
        let same : x ≡ r = cc in
        let starts : x.addr ≡ a = grind (arith, nat_tests) in
        let all = count_cons x xs in
        let P : LiveRange → Type 0 = λ r. Found a r (x ∷ xs) in
        let here : Found a x (x ∷ xs) = record {
          addr = starts;
          some = count;
          within = omega (arith, all);
          top = omega arith;
          there = rw is refl;
          counts = λ c. rw is (count_here c (c == 0) refl (counted_absent a c xs (subst (λ a. range_at a xs ≡ None) starts none)));
        } in
        subst P same here
    step false is at rest none =
        let later : Found a r xs = rest at in
        let all = count_cons x xs in
        let within = later.within in
        let top = later.top in
        record {
          addr = later.addr;
          some = later.some;
          within = omega (arith, all, within);
          top = omega (arith, top);
          there = rw is later.there;
          counts = λ c. let counts = later.counts c in let now = count_cons x (counted a c xs) in rw is (omega (arith, counts, now, all));
        }

-- the range of a tag is the one that starts where it does
pub tag_found : (t : ℕ) (r : LiveRange) (rs : List LiveRange) → IsOrderly rs → range_of t rs ≡ Some r → range_at r.addr rs ≡ Some r
tag_found t r [] orderly of = absurd (cc)
tag_found t r (x ∷ xs) (pages, count, page, apart, tag, orderly) of =
    step (x.tag == t) of (tag_found t r xs orderly) (free_absent x.addr x.pages xs pages orderly apart)
  where
    split : (b : Bool) → (x.addr == r.addr) ≡ b → range_at r.addr xs ≡ Some r → range_at x.addr xs ≡ None → (if b then Some x else range_at r.addr xs) ≡ Some r
    split true is at none =
        let same : x.addr ≡ r.addr = grind (arith, nat_tests) in
        let gone : range_at r.addr xs ≡ None = subst (λ a. range_at a xs ≡ None) same none in
        absurd (cc)
    split false is at none = at

    step : (b : Bool) → (if b then Some x else range_of t xs) ≡ Some r → (range_of t xs ≡ Some r → range_at r.addr xs ≡ Some r)
        → range_at x.addr xs ≡ None → range_at r.addr (x ∷ xs) ≡ Some r
    step true of rest none =
        let same : x ≡ r = cc in
        let P : LiveRange → Type 0 = λ r. range_at r.addr (x ∷ xs) ≡ Some r in
        let self : (x.addr == x.addr) ≡ true = grind (arith, nat_tests) in
        let here : range_at x.addr (x ∷ xs) ≡ Some x = rw self refl in
        subst P same here
    step false of rest none = split (x.addr == r.addr) refl (rest of) none

pub free_push : (x n : ℕ) (r : LiveRange) (rs : List LiveRange) → is_free x n (map placed rs) ≡ true → meets x n r.addr r.pages ≡ false
    → is_free x n (map placed (rs ++ r ∷ [])) ≡ true
free_push x n r [] free apart = grind (arith, nat_tests)
free_push x n r (y ∷ ys) free apart =
    let later : is_free x n (map placed ys) ≡ true = grind (arith, nat_tests) in
    let rest : is_free x n (map placed (ys ++ r ∷ [])) ≡ true = free_push x n r ys later apart in
    grind (arith, nat_tests, rest)

pub tag_push : (t : ℕ) (r : LiveRange) (rs : List LiveRange) → range_of t rs ≡ None → (r.tag == t) ≡ false → range_of t (rs ++ r ∷ []) ≡ None
tag_push t r [] none other = rw other refl
tag_push t r (x ∷ xs) none other = step (x.tag == t) none (λ later. tag_push t r xs later other)
  where
    step : (b : Bool) → (if b then Some x else range_of t xs) ≡ None → (range_of t xs ≡ None → range_of t (xs ++ r ∷ []) ≡ None)
        → (if b then Some x else range_of t (xs ++ r ∷ [])) ≡ None
    step true none rest = absurd (cc)
    step false none rest = rest none

pub other_tag : (t : ℕ) (x : LiveRange) (xs : List LiveRange) → range_of t (x ∷ xs) ≡ None → ((x.tag == t) ≡ false) × (range_of t xs ≡ None)
other_tag t x xs none = step (x.tag == t) none
  where
    step : (b : Bool) → (if b then Some x else range_of t xs) ≡ None → (b ≡ false) × (range_of t xs ≡ None)
    step true none = absurd (cc)
    step false none = (refl, none)

pub orderly_push : (r : LiveRange) (rs : List LiveRange) → IsOrderly rs → 1 ≤ r.pages → 1 ≤ r.count → r.addr % 4096 ≡ 0
    → is_free r.addr r.pages (map placed rs) ≡ true → range_of r.tag rs ≡ None → IsOrderly (rs ++ r ∷ [])
orderly_push r [] orderly pages count page free none = (pages, count, page, refl, refl, tt)
orderly_push r (x ∷ xs) (pages_x, count_x, page_x, free_x, none_x, orderly) pages count page free none =
    let later : is_free r.addr r.pages (map placed xs) ≡ true = grind (arith, nat_tests) in
    let apart : meets x.addr x.pages r.addr r.pages ≡ false = grind (arith, nat_tests) in
    let other : ((x.tag == r.tag) ≡ false) × (range_of r.tag xs ≡ None) = other_tag r.tag x xs none in
    let differs : (r.tag == x.tag) ≡ false = let o = other.0 in grind (arith, nat_tests, o) in (
      pages_x,
      count_x,
      page_x,
      free_push x.addr x.pages r xs free_x apart,
      tag_push x.tag r xs none_x differs,
      orderly_push r xs orderly pages count page later other.1,
    )

pub top_push : (r : LiveRange) (rs : List LiveRange) → top_of (rs ++ r ∷ []) ≡ max (top_of rs) (r.addr + 4096 * r.pages)
top_push r [] = omega arith
top_push r (x ∷ xs) = let rest = top_push r xs in omega (arith, rest)
