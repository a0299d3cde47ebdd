-- The entries of a user memory have no fault on its pages, and name all of its bytes.
use Rattle.std.proofs.Common.{◌≡◌, ℕ, zero, suc, ◌+◌, ◌-◌, ◌*◌, ◌/◌, ◌%◌, ◌<◌, ◌≤◌, ◌==◌, true, false, None, List, [], ◌∷◌, length, map, refl, ap, subst, arith}
use Rattle.std.specs.Prelude.{sum_by}
use Rattle.std.specs.List.{list_any, range_with_len}
use Rattle.std.proofs.lemmas.Bool.Decides.{nat_tests}
use Rattle.std.proofs.lemmas.List.Folds.{list_any_at, list_any_none}
use Rattle.std.proofs.lemmas.List.FromFn.{length-map-range_with_len, get_or-map-range_with_len, map-range_with_len_more}
use Rattle.std.proofs.lemmas.List.Sums.{sum_by-cons}
use Rattle.vm_mem.specs.Page.{lies_in_page}
use Rattle.vm_mem.specs.declared.page.Page.{Page}
use Rattle.vm_frame.specs.declared.scatter.SgEntry.{SgEntry}
use Rattle.vm_frame.specs.Scatter.{entry_fault, first_fault, meets}
use Rattle.vm_sg.specs.UserMemory.{entry_of, number_of, page_count, page_of, place_on, user_entries, user_pages}

numbers_are : (line n : ℕ) (xs : List ℕ) → map (λ (page : Page). page.number) (map (page_of line n) xs) ≡ map (number_of line n) xs
numbers_are line n [] = refl
numbers_are line n (x ∷ xs) = ap (λ ys. number_of line n x ∷ ys) (numbers_are line n xs)

module _ (line len off : ℕ) (some : 1 ≤ len) (in_page : off ≤ 4095) where
  abbrev numbers : List ℕ
  numbers = map (number_of line (page_count len off)) (range_with_len 0 (page_count len off))

  -- where an entry lies
  record Lies (i : ℕ) : Type 0 where
    some_bytes : 1 ≤ (entry_of line len off i).len
    page : (entry_of line len off i).start / 4096 ≡ number_of line (page_count len off) i
    fits : (entry_of line len off i).start % 4096 + (entry_of line len off i).len ≤ 4096
    begins : 4096 * number_of line (page_count len off) i ≤ (entry_of line len off i).start
    ends : (entry_of line len off i).start + (entry_of line len off i).len ≤ 4096 * number_of line (page_count len off) i + 4096

  lies : (i : ℕ) → i < page_count len off → Lies i
  lies zero within = record {
    some_bytes = omega (arith, some, in_page);
    page = omega (arith, in_page);
    fits = omega (arith, in_page);
    begins = omega arith;
    ends = omega (arith, in_page);
  }
  lies (suc i) within =
      let front : place_on off (suc i) ≡ 0 = grind (arith, nat_tests) in
      record {
        some_bytes = omega (arith, within, front);
        page = omega (arith, front);
        fits = omega (arith, front);
        begins = omega (arith, front);
        ends = omega (arith, front);
      }

  inside : (i : ℕ) → i < page_count len off → list_any (lies_in_page (entry_of line len off i).start (entry_of line len off i).len) numbers ≡ true
  inside i within =
      let at = lies i within in
      let page = at.page in
      let fits = at.fits in
      let e : SgEntry = entry_of line len off i in
      let here : lies_in_page e.start e.len (number_of line (page_count len off) i) ≡ true = grind (arith, nat_tests, page, fits) in
      let long : i < length numbers = rw (length-map-range_with_len (number_of line (page_count len off)) 0 (page_count len off)) within in
      let is = get_or-map-range_with_len (number_of line (page_count len off)) 0 (page_count len off) i i 0 within (omega arith) in
      list_any_at (lies_in_page e.start e.len) numbers i 0 long (rw is here)

  apart : (i j : ℕ) → j < i → i < page_count len off → meets (entry_of line len off i) (entry_of line len off j) ≡ false
  apart i j before within =
      let ends = (lies i within).ends in
      let begins = (lies j (omega (arith, before, within))).begins in
      let e : SgEntry = entry_of line len off i in
      let f : SgEntry = entry_of line len off j in
      let behind : e.start + e.len ≤ f.start = omega (arith, ends, begins, before, within) in
      grind (arith, nat_tests, behind)

  once : (i : ℕ) → i < page_count len off → list_any (meets (entry_of line len off i)) (map (entry_of line len off) (range_with_len 0 i)) ≡ false
  once i within =
      list_any_none (meets (entry_of line len off i)) (map (entry_of line len off) (range_with_len 0 i))
      (λ k d among.
      let below : k < i = rw (← length-map-range_with_len (entry_of line len off) 0 i) among in
      rw (get_or-map-range_with_len (entry_of line len off) 0 i k k d below (omega arith)) (apart i k below within))

  fine : (i : ℕ) → i < page_count len off → entry_fault numbers (map (entry_of line len off) (range_with_len 0 i)) (entry_of line len off i) ≡ None
  fine i within =
      let some_bytes = (lies i within).some_bytes in
      let full : ((entry_of line len off i).len == 0) ≡ false = grind (arith, nat_tests, some_bytes) in
      rw (full, inside i within, once i within) refl

  fault_from : (a k : ℕ) → a + k ≡ page_count len off
      → first_fault numbers (map (entry_of line len off) (range_with_len 0 a)) (map (entry_of line len off) (range_with_len a k)) ≡ None
  fault_from a zero is = refl
  fault_from a (suc k) is =
      let here = fine a (omega (arith, is)) in
      let rest = fault_from (a + 1) k (omega (arith, is)) in
      let more = map-range_with_len_more (entry_of line len off) 0 a a (omega arith) in
      rw here (subst (λ xs. first_fault numbers xs (map (entry_of line len off) (range_with_len (a + 1) k)) ≡ None) more rest)

  pub no_fault : first_fault (map (λ page. page.number) (user_pages line (page_count len off))) [] (user_entries line len off) ≡ None
  no_fault = rw (numbers_are line (page_count len off) (range_with_len 0 (page_count len off))) (fault_from 0 (page_count len off) (omega arith))

  place_small : (i : ℕ) → place_on off i ≤ 4095
  place_small zero = in_page
  place_small (suc i) = grind (arith, nat_tests)

  -- the bytes that the entries from one on name
  rest_long : (a k : ℕ) → a + k ≡ page_count len off → sum_by (λ (e : SgEntry). e.len) (map (entry_of line len off) (range_with_len a k)) ≡ len + off - (4096 * a + place_on off a)
  rest_long a zero ends = omega (arith, ends)
  rest_long a (suc k) ends =
      let small : place_on off a ≤ 4095 = place_small a in
      let front : place_on off (a + 1) ≡ 0 = grind (arith, nat_tests) in
      let e : SgEntry = entry_of line len off a in
      let rest = rest_long (a + 1) k (omega (arith, ends)) in
      let both = sum_by-cons (λ (x : SgEntry). x.len) e (map (entry_of line len off) (range_with_len (a + 1) k)) in
      omega (arith, small, front, rest, both, ends)

  pub all_named : sum_by (λ (e : SgEntry). e.len) (user_entries line len off) ≡ len
  all_named =
      let all = rest_long 0 (page_count len off) (omega arith) in
      omega (arith, all)
