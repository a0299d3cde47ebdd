-- Lemmas on chains whose descriptors begin their pages: where these lie, what is read and what is written there.
use Rattle.std.proofs.Common.{◌≡◌, ℕ, suc, ◌+◌, ◌*◌, ◌/◌, ◌%◌, ◌<◌, ◌≤◌, ◌==◌, lit<, nat_le, true, false, List, [], ◌∷◌, ◌++◌, length, take, drop, refl, ap, ◌∙◌, arith}
use Rattle.std.proofs.lemmas.Bool.Decides.{nat_tests}
use Rattle.std.proofs.lemmas.Nat.{div-mul-add, mod-mul-add}
use Rattle.std.proofs.lemmas.List.{append-nil, take_all}
use Rattle.vm_mem.specs.Page.{page_number, place_in_page, lies_in_page}
use Rattle.vm_mem.specs.declared.page.Page.{Page}
use Rattle.vm_chain.specs.declared.desc.Desc.{Desc}
use Rattle.vm_carrier.specs.Carrier.{readable_of, written}
use Rattle.vm_guest.specs.Chain.{desc}

-- ---- the front of a page

page_of : (q : ℕ) → page_number (q * 4096) ≡ q
page_of q = ap (λ (a : ℕ). a / 4096) (omega arith) ∙ div-mul-add q 4096 0 (lit< tt)

place_of : (q : ℕ) → place_in_page (q * 4096) ≡ 0
place_of q = ap (λ (a : ℕ). a % 4096) (omega arith) ∙ mod-mul-add q 4096 0 (lit< tt)

pub lies_there : (q len : ℕ) → len ≤ 4096 → lies_in_page (q * 4096) len q ≡ true
lies_there q len fits =
    let same : (q == q) ≡ true = grind (arith, nat_tests) in
    let inside : nat_le (0 + len) 4096 ≡ true = grind (arith, nat_tests) in
    rw (page_of q, place_of q, same, inside) refl

pub lies_beside : (q r len : ℕ) → (q == r) ≡ false → lies_in_page (r * 4096) len q ≡ false
lies_beside q r len apart = rw (page_of r, apart) refl

pub below : (q r : ℕ) → q < r → (q == r) ≡ false
below q r less = grind (arith, nat_tests)

-- ---- chains, and their pages

abbrev pub one_page : ℕ → List ℕ → List Page
one_page q bytes = record { number = q; bytes = bytes } ∷ []

abbrev pub two_pages : ℕ → ℕ → List ℕ → List ℕ → List Page
two_pages q r front back = record { number = q; bytes = front } ∷ one_page r back

-- n bytes are read at the front of a page
abbrev pub reads : ℕ → ℕ → List Desc
reads q n = desc (q * 4096) n 0 0 ∷ []

-- m bytes are written at the front of a page
abbrev pub writes : ℕ → ℕ → List Desc
writes r m = desc (r * 4096) m 2 0 ∷ []

-- n bytes are read at the front of a page, and m bytes are written at the front of another
abbrev pub reads_writes : ℕ → ℕ → ℕ → ℕ → List Desc
reads_writes q r n m = desc (q * 4096) n 1 1 ∷ writes r m

-- ---- what is read

pub read_both : (q r n m : ℕ) (front back : List ℕ) → readable_of (reads_writes q r n m) (two_pages q r front back) ≡ take n front
read_both q r n m front back =
    let same : (q == q) ≡ true = grind (arith, nat_tests) in
    rw (page_of q, place_of q, same) (append-nil (take n front))

pub read_one : (q r n : ℕ) (front back : List ℕ) → readable_of (reads q n) (two_pages q r front back) ≡ take n front
read_one q r n front back =
    let same : (q == q) ≡ true = grind (arith, nat_tests) in
    rw (page_of q, place_of q, same) (append-nil (take n front))

-- ---- what is written

pub written_both : (q r n m : ℕ) (front back bytes : List ℕ) → (q == r) ≡ false → length bytes ≤ m
    → written (reads_writes q r n m) bytes (two_pages q r front back) ≡ two_pages q r front (bytes ++ drop (length bytes) back)
written_both q r n m front back bytes apart small =
    let same : (r == r) ≡ true = grind (arith, nat_tests) in
    let here : written (reads_writes q r n m) bytes (two_pages q r front back) ≡ two_pages q r front (take m bytes ++ drop (0 + length (take m bytes)) back) =
    rw (page_of r, place_of r, apart, same) refl in
    let none : 0 + length (take m bytes) ≡ length (take m bytes) = omega arith in
    here ∙ ap (λ (k : ℕ). two_pages q r front (take m bytes ++ drop k back)) none ∙ ap (λ (bs : List ℕ). two_pages q r front (bs ++ drop (length bs) back)) (take_all m bytes small)

pub written_one : (r m : ℕ) (back bytes : List ℕ) → length bytes ≤ m → written (writes r m) bytes (one_page r back) ≡ one_page r (bytes ++ drop (length bytes) back)
written_one r m back bytes small =
    let same : (r == r) ≡ true = grind (arith, nat_tests) in
    let here : written (writes r m) bytes (one_page r back) ≡ one_page r (take m bytes ++ drop (0 + length (take m bytes)) back) = rw (page_of r, place_of r, same) refl in
    let none : 0 + length (take m bytes) ≡ length (take m bytes) = omega arith in
    here ∙ ap (λ (k : ℕ). one_page r (take m bytes ++ drop k back)) none ∙ ap (λ (bs : List ℕ). one_page r (bs ++ drop (length bs) back)) (take_all m bytes small)

-- a chain without a writable descriptor is left as it is
pub written_none : (q r n : ℕ) (front back bytes : List ℕ) → length bytes ≤ 0
    → written (reads q n) bytes (two_pages q r front back) ≡ two_pages q r front (bytes ++ drop (length bytes) back)
written_none q r n front back [] small = refl
written_none q r n front back (b ∷ bytes) small = absurd (omega (arith, small))

-- bytes in the place of as many others
pub front_size : {A : Type 0} (xs ys : List A) → length xs ≤ length ys → length (xs ++ drop (length xs) ys) ≡ length ys
front_size [] ys fits = refl
front_size (x ∷ xs) [] fits = absurd (omega (arith, fits))
front_size (x ∷ xs) (y ∷ ys) fits = ap suc (front_size xs ys (omega (arith, fits)))
