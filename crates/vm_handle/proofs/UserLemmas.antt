-- The user memory that a ualloc makes has zeros for bytes.
use Rattle.std.proofs.Common.{◌≡◌, ℕ, zero, suc, ◌+◌, ◌-◌, ◌*◌, ◌<◌, ◌≤◌, ◌==◌, Bool, true, false, not, ◌||◌, nat_lt, List, [], ◌∷◌, ◌++◌, length, map, take, drop, replicate, None, All, refl, sym, ap, ◌∙◌, arith}
use Rattle.std.specs.List.{flat_map, list_any, range_with_len}
use Rattle.std.proofs.lemmas.Bool.{false≢true}
use Rattle.std.proofs.lemmas.Bool.Decides.{nat_tests}
use Rattle.std.proofs.lemmas.Grind.{common_steps}
use Rattle.std.proofs.lemmas.List.{drop-replicate, take-replicate, replicate-append-replicate}
use Rattle.std.proofs.lemmas.List.Elements.{All-head, All-tail, All-map}
use Rattle.std.proofs.lemmas.List.FromFn.{length-map-range_with_len, get_or-map-range_with_len}
use Rattle.std.proofs.lemmas.List.Folds.{list_any_at}
use Rattle.v4l_const.specs.declared.errno.Errno.TheVariants.{Ebadf, Einval}
use Rattle.v4l_rules.specs.Refusals.{first_refusal}
use Rattle.vm_mem.specs.Page.{page_number, place_in_page}
use Rattle.vm_mem.specs.declared.page.Page.{Page}
use Rattle.vm_frame.specs.declared.scatter.SgEntry.{SgEntry}
use Rattle.vm_frame.specs.Scatter.{page_bytes, entry_bytes, scatter_bytes}
use Rattle.vm_local.specs.declared.call.Call.TheVariants.{UAlloc}
use Rattle.vm_local.specs.State.{LocalState}
use Rattle.vm_local.specs.Calls.{row_of, ualloc_row}
use Rattle.vm_sg.specs.UserMemory.{entry_of, number_of, page_count, page_of, place_on, user_entries, user_pages}

abbrev IsBlank : Page → Type 0
IsBlank page = page.bytes ≡ replicate 4096 0

-- a page among blank ones is blank
blank_bytes : (pages : List Page) (n : ℕ) → All (λ page. IsBlank page) pages → list_any (λ page. page.number == n) pages ≡ true → page_bytes pages n ≡ replicate 4096 0
blank_bytes [] n blank there = absurd (false≢true there)
blank_bytes (page ∷ pages) n blank there =
    let first : IsBlank page = All-head (λ x. IsBlank x) page pages blank in
    let rest : list_any (λ x. x.number == n) pages ≡ true → page_bytes pages n ≡ replicate 4096 0 = blank_bytes pages n (All-tail (λ x. IsBlank x) page pages blank) in
    grind (arith, nat_tests, common_steps, first, rest, there)

joined_zero : (xs ys : List ℕ) (n k sum : ℕ) → xs ≡ replicate n 0 → ys ≡ replicate k 0 → n + k ≡ sum → xs ++ ys ≡ replicate sum 0
joined_zero xs ys n k sum front rest is =
    ap (λ zs. zs ++ ys) front ∙ (ap (λ zs. replicate n 0 ++ zs) rest ∙ (replicate-append-replicate n k 0 ∙ ap (λ m. replicate m 0) is))

-- a part of its bytes
blank_part : (pages : List Page) (len at place number page : ℕ) → number ≡ page → at ≡ place → page_bytes pages page ≡ replicate 4096 0 → len ≤ 4096 - place →
    take len (drop at (page_bytes pages number)) ≡ replicate len 0
blank_part pages len at place number page same there blank fits =
    ap (λ n. take len (drop at (page_bytes pages n))) same
    ∙ (ap (λ n. take len (drop n (page_bytes pages page))) there
    ∙ (ap (λ bytes. take len (drop place bytes)) blank
    ∙ (ap (λ bytes. take len bytes) (drop-replicate place 4096 0) ∙ take-replicate len (4096 - place) 0 fits)))

all_blank : (line count a n : ℕ) → All (λ page. IsBlank page) (map (page_of line count) (range_with_len a n))
all_blank line count a n = All-map (λ page. IsBlank page) (page_of line count) (range_with_len a n) (λ k d among. refl)

module _ (line len off : ℕ) (some : 1 ≤ len) (in_page : off ≤ 4095) where
  there : (i : ℕ) → i < page_count len off → list_any (λ (page : Page). page.number == number_of line (page_count len off) i) (user_pages line (page_count len off)) ≡ true
  there i within =
      let count : ℕ = page_count len off in
      let d : Page = page_of line count 0 in
      let long : i < length (user_pages line count) = rw (length-map-range_with_len (page_of line count) 0 count) within in
      let is = get_or-map-range_with_len (page_of line count) 0 count i i d within (omega arith) in
      list_any_at (λ (page : Page). page.number == number_of line count i) (user_pages line count) i d long (rw is (grind (arith, nat_tests)))

  place_small : (i : ℕ) → place_on off i ≤ 4095
  place_small zero = in_page
  place_small (suc i) = grind (arith, nat_tests)

  -- the bytes of an entry
  entry_zero : (i : ℕ) → i < page_count len off → entry_bytes (user_pages line (page_count len off)) (entry_of line len off i) ≡ replicate (entry_of line len off i).len 0
  entry_zero i within =
      let count : ℕ = page_count len off in
      let e : SgEntry = entry_of line len off i in
      let small : place_on off i ≤ 4095 = place_small i in
      let page : page_number e.start ≡ number_of line count i = omega (arith, small) in
      let place : place_in_page e.start ≡ place_on off i = omega (arith, small) in
      let fits : e.len ≤ 4096 - place_on off i = omega (arith, small) in
      let blank : page_bytes (user_pages line count) (number_of line count i) ≡ replicate 4096 0 =
      blank_bytes (user_pages line count) (number_of line count i) (all_blank line count 0 count) (there i within) in
      blank_part (user_pages line count) e.len (place_in_page e.start) (place_on off i) (page_number e.start) (number_of line count i) page place blank fits

  -- the bytes of the entries from one on
  rest_zero : (a k : ℕ) → a + k ≡ page_count len off →
      flat_map (entry_bytes (user_pages line (page_count len off))) (map (entry_of line len off) (range_with_len a k)) ≡ replicate (len + off - (4096 * a + place_on off a)) 0
  rest_zero a zero ends =
      let none : len + off - (4096 * a + place_on off a) ≡ 0 = omega (arith, ends) in
      sym (ap (λ n. replicate n 0) none)
  rest_zero a (suc k) ends =
      let small : place_on off a ≤ 4095 = place_small a in
      let front : place_on off (a + 1) ≡ 0 = grind (arith, nat_tests) in
      let within : a < page_count len off = omega (arith, ends) in
      let e : SgEntry = entry_of line len off a in
      let left : ℕ = len + off - (4096 * (a + 1) + place_on off (a + 1)) in
      let sum : e.len + left ≡ len + off - (4096 * a + place_on off a) = omega (arith, small, front) in
      let rest = rest_zero (a + 1) k (omega (arith, ends)) in
      joined_zero (entry_bytes (user_pages line (page_count len off)) e) (flat_map (entry_bytes (user_pages line (page_count len off))) (map (entry_of line len off) (range_with_len (a + 1) k)))
      e.len left (len + off - (4096 * a + place_on off a)) (entry_zero a within) rest sum

  pub user_zero : scatter_bytes (user_entries line len off) (user_pages line (page_count len off)) ≡ replicate len 0
  user_zero =
      let whole : len + off - (4096 * 0 + place_on off 0) ≡ len = omega arith in
      rest_zero 0 (page_count len off) (omega arith) ∙ ap (λ n. replicate n 0) whole

-- ---- a ualloc that nothing refuses

-- what its tests leave of its words
sizes_by : (closed : Bool) (len off : ℕ) → first_refusal ((closed, Ebadf) ∷ (len == 0 || nat_lt 925696 len, Einval) ∷ (nat_lt 4095 off, Einval) ∷ []) ≡ None →
    (1 ≤ len) × (len ≤ 925696) × (off ≤ 4095)
sizes_by true len off passed = cc
sizes_by false len off passed =
    let some : 1 ≤ len = grind (arith, nat_tests, passed) in
    let small : len ≤ 925696 = grind (arith, nat_tests, passed) in
    let near : off ≤ 4095 = grind (arith, nat_tests, passed) in
    (some, small, near)

pub ualloc_sizes : (s : LocalState) (line len off : ℕ) (u : List ℕ) → first_refusal (row_of s line 0 (UAlloc u len off)).refusals ≡ None → (1 ≤ len) × (len ≤ 925696) × (off ≤ 4095)
unfolding ualloc_row
ualloc_sizes s line len off u passed = sizes_by (not s.opened) len off passed
