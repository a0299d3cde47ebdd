-- Lemmas on a reply that is spread over a chain: where it stands, and what stays.
use Rattle.std.proofs.Common.{◌≡◌, ℕ, ◌+◌, ◌≤◌, ◌==◌, Bool, true, false, List, [], ◌∷◌, ◌++◌, length, map, take, drop, refl, sym, ap, ◌∙◌, arith, rules, inl, inr, if◌then◌else◌}
use Rattle.std.proofs.lemmas.Bool.Decides.{nat_tests}
use Rattle.std.proofs.lemmas.Grind.{common_steps}
use Rattle.std.specs.Prelude.{filter}
use Rattle.std.proofs.lemmas.List.{places, same_lists}
use Rattle.std.proofs.lemmas.List.Sums.{sum_by-cons}
use Rattle.vm_chain.specs.Chain.{writable_bytes}
use Rattle.vm_chain.specs.Desc.{is_writable}
use Rattle.vm_chain.specs.declared.desc.Desc.{Desc}
use Rattle.vm_frame.specs.Scatter.{page_bytes}
use Rattle.vm_mem.specs.Page.{page_number, place_in_page}
use Rattle.vm_mem.specs.declared.page.Page.{Page}
use Rattle.vm_carrier.specs.Carrier.{bytes_at, overlaid, with_bytes, written, writable_of, IsApart, IsUnwritten, AreApart, IsThere, AreThere}

-- ---- bytes over others

overlaid_before : (old : List ℕ) (at : ℕ) (new : List ℕ) (start len : ℕ) → at + length new ≤ length old → start + len ≤ at
    → take len (drop start (overlaid old at new)) ≡ take len (drop start old)
overlaid_before old at new start len within before = same_lists _ _ (search (rules, places)) (λ k d h. grind (arith, places))

overlaid_behind : (old : List ℕ) (at : ℕ) (new : List ℕ) (start len : ℕ) → at + length new ≤ length old → at + length new ≤ start
    → take len (drop start (overlaid old at new)) ≡ take len (drop start old)
overlaid_behind old at new start len within behind = same_lists _ _ (search (rules, places)) (λ k d h. grind (arith, places))

overlaid_inside : (old : List ℕ) (at : ℕ) (new : List ℕ) (len : ℕ) → length new ≤ len → at + len ≤ length old
    → take len (drop at (overlaid old at new)) ≡ overlaid (take len (drop at old)) 0 new
overlaid_inside old at new len short within = same_lists _ _ (search (rules, places)) (λ k d h. grind (arith, places))

overlaid_parts : (xs ys new : List ℕ) (n : ℕ) → length xs ≡ n → length new ≤ n + length ys
    → overlaid xs 0 (take n new) ++ overlaid ys 0 (drop n new) ≡ overlaid (xs ++ ys) 0 new
overlaid_parts xs ys new n size fits = same_lists _ _ (search (rules, places)) (λ k d h. grind (arith, places))

overlaid_size : (old : List ℕ) (at : ℕ) (new : List ℕ) → at + length new ≤ length old → length (overlaid old at new) ≡ length old
overlaid_size old at new within = search (rules, places)

overlaid_nothing : (at : ℕ) (new : List ℕ) → length new ≡ 0 → [] ≡ overlaid [] at new
overlaid_nothing at new empty = same_lists _ _ (search (rules, places)) (λ k d h. absurd (omega arith))

no_longer : (n : ℕ) (xs : List ℕ) → length (take n xs) ≤ n
no_longer n xs = grind (arith, places)

-- ---- one page

same_page : (pages : List Page) (number at : ℕ) (new : List ℕ) → at + length new ≤ length (page_bytes pages number)
    → page_bytes (with_bytes pages number at new) number ≡ overlaid (page_bytes pages number) at new
same_page [] number at new within = overlaid_nothing at new (omega (arith, within))
same_page (p ∷ ps) number at new within = grind (arith, nat_tests, common_steps, same_page ps number at new)

other_page : (pages : List Page) (number at other : ℕ) (new : List ℕ) → (other == number) ≡ false
    → page_bytes (with_bytes pages number at new) other ≡ page_bytes pages other
other_page [] number at other new apart = refl
other_page (p ∷ ps) number at other new apart = grind (arith, nat_tests, common_steps, other_page ps number at other new)

same_number : (m n : ℕ) → (m == n) ≡ true → m ≡ n
same_number m n is = grind (arith, nat_tests)

size_if : (b : Bool) (pages : List Page) (number at other : ℕ) (new : List ℕ) → (other == number) ≡ b → at + length new ≤ length (page_bytes pages number)
    → length (page_bytes (with_bytes pages number at new) other) ≡ length (page_bytes pages other)
size_if true pages number at other new is within =
    rw (same_number other number is) (ap length (same_page pages number at new within) ∙ overlaid_size (page_bytes pages number) at new within)
size_if false pages number at other new is within = ap length (other_page pages number at other new is)

-- the numbers of the pages stay
numbers_if : (b : Bool) (p : Page) (ps qs : List Page) (at : ℕ) (new : List ℕ) → map (λ page. page.number) qs ≡ map (λ page. page.number) ps
    → map (λ page. page.number) (if b then record p { bytes = overlaid p.bytes at new } ∷ ps else p ∷ qs) ≡ map (λ page. page.number) (p ∷ ps)
numbers_if true p ps qs at new same = refl
numbers_if false p ps qs at new same = ap (λ ns. p.number ∷ ns) same

numbers_stay : (pages : List Page) (number at : ℕ) (new : List ℕ) → map (λ page. page.number) (with_bytes pages number at new) ≡ map (λ page. page.number) pages
numbers_stay [] number at new = refl
numbers_stay (p ∷ ps) number at new = numbers_if (p.number == number) p ps (with_bytes ps number at new) at new (numbers_stay ps number at new)

-- ---- one descriptor

-- the pages with a reply's next bytes where this descriptor names them
abbrev pub put_at : Desc → List ℕ → List Page → List Page
put_at d reply pages = with_bytes pages (page_number d.addr) (place_in_page d.addr) (take d.len reply)

put_within : (d : Desc) (reply : List ℕ) (pages : List Page) → IsThere pages d → place_in_page d.addr + length (take d.len reply) ≤ length (page_bytes pages (page_number d.addr))
put_within d reply pages there = omega (arith, there, no_longer d.len reply)

still_there : (ds : List Desc) (d : Desc) (reply : List ℕ) (pages : List Page) → IsThere pages d → AreThere ds pages → AreThere ds (put_at d reply pages)
still_there [] d reply pages here there = tt
still_there (e ∷ ds) d reply pages here there = (
  λ is. omega (arith, there.0 is, size_if (page_number e.addr == page_number d.addr) pages (page_number d.addr) (place_in_page d.addr) (page_number e.addr) (take d.len reply) refl (put_within d reply pages here)),
  still_there ds d reply pages here there.1,
)

put_inside : (d : Desc) (reply : List ℕ) (pages : List Page) → IsThere pages d → bytes_at d (put_at d reply pages) ≡ overlaid (bytes_at d pages) 0 (take d.len reply)
put_inside d reply pages there =
    ap (λ bs. take d.len (drop (place_in_page d.addr) bs)) (same_page pages (page_number d.addr) (place_in_page d.addr) (take d.len reply) (put_within d reply pages there))
    ∙ overlaid_inside (page_bytes pages (page_number d.addr)) (place_in_page d.addr) (take d.len reply) d.len (no_longer d.len reply) there

-- descriptors that are apart in one page are apart in their places there
before_in_page : (a b len : ℕ) → page_number a ≡ page_number b → a + len ≤ b → place_in_page a + len ≤ place_in_page b
before_in_page a b len same before = omega (arith, same, before)

put_elsewhere_if : (b : Bool) (d e : Desc) (reply : List ℕ) (pages : List Page) → (page_number e.addr == page_number d.addr) ≡ b → IsThere pages d → IsApart d e
    → bytes_at e (put_at d reply pages) ≡ bytes_at e pages
put_elsewhere_if false d e reply pages is there apart =
    ap (λ bs. take e.len (drop (place_in_page e.addr) bs)) (other_page pages (page_number d.addr) (place_in_page d.addr) (page_number e.addr) (take d.len reply) is)
put_elsewhere_if true d e reply pages is there apart =
    let same = same_number (page_number e.addr) (page_number d.addr) is in
    let old = page_bytes pages (page_number d.addr) in
    let within = put_within d reply pages there in
    let at_place : (number : ℕ) → List Page → List ℕ = λ number ps. take e.len (drop (place_in_page e.addr) (page_bytes ps number)) in
    ap (λ number. at_place number (put_at d reply pages)) same
    ∙ ap (λ bs. take e.len (drop (place_in_page e.addr) bs)) (same_page pages (page_number d.addr) (place_in_page d.addr) (take d.len reply) within)
    ∙ in_page apart same
    ∙ ap (λ number. at_place number pages) (sym same)
  where
    in_page : IsApart d e → page_number e.addr ≡ page_number d.addr
        → take e.len (drop (place_in_page e.addr) (overlaid (page_bytes pages (page_number d.addr)) (place_in_page d.addr) (take d.len reply))) ≡ take e.len (drop (place_in_page e.addr) (page_bytes pages (page_number d.addr)))
    in_page (inl before) same =
        overlaid_behind (page_bytes pages (page_number d.addr)) (place_in_page d.addr) (take d.len reply) (place_in_page e.addr) e.len (put_within d reply pages there)
        (omega (arith, before_in_page d.addr e.addr d.len (sym same) before, no_longer d.len reply))
    in_page (inr behind) same =
        overlaid_before (page_bytes pages (page_number d.addr)) (place_in_page d.addr) (take d.len reply) (place_in_page e.addr) e.len (put_within d reply pages there)
        (before_in_page e.addr d.addr e.len same behind)

put_elsewhere : (d e : Desc) (reply : List ℕ) (pages : List Page) → IsThere pages d → IsApart d e → bytes_at e (put_at d reply pages) ≡ bytes_at e pages
put_elsewhere d e reply pages there apart = put_elsewhere_if (page_number e.addr == page_number d.addr) d e reply pages refl there apart

swapped : (d e : Desc) → IsApart d e → IsApart e d
swapped d e (inl before) = inr before
swapped d e (inr behind) = inl behind

-- ---- a chain

written_if : (b : Bool) (X : Type 0) (f : List Page → X) (x : X) (there here : List Page) → (b ≡ true → f there ≡ x) → (b ≡ false → f here ≡ x) → f (if b then there else here) ≡ x
written_if true X f x there here is other = is refl
written_if false X f x there here is other = other refl

-- bytes that no writable descriptor names stay
pub others_stay : (descs : List Desc) (reply : List ℕ) (pages : List Page) (e : Desc) → AreThere descs pages → IsUnwritten descs e
    → bytes_at e (written descs reply pages) ≡ bytes_at e pages
others_stay [] reply pages e there apart = refl
others_stay (d ∷ ds) reply pages e there apart =
    written_if (is_writable d) (List ℕ) (bytes_at e) (bytes_at e pages) (written ds (drop d.len reply) (put_at d reply pages)) (written ds reply pages)
    (λ is. others_stay ds (drop d.len reply) (put_at d reply pages) e (still_there ds d reply pages (there.0 is) there.1) apart.1 ∙ put_elsewhere d e reply pages (there.0 is) (apart.0 is))
    (λ is. others_stay ds reply pages e there.1 apart.1)

-- the pages keep their numbers
pub pages_stay : (descs : List Desc) (reply : List ℕ) (pages : List Page) → map (λ page. page.number) (written descs reply pages) ≡ map (λ page. page.number) pages
pages_stay [] reply pages = refl
pages_stay (d ∷ ds) reply pages =
    written_if (is_writable d) (List ℕ) (map (λ page. page.number)) (map (λ page. page.number) pages) (written ds (drop d.len reply) (put_at d reply pages)) (written ds reply pages)
    (λ is. pages_stay ds (drop d.len reply) (put_at d reply pages) ∙ numbers_stay pages (page_number d.addr) (place_in_page d.addr) (take d.len reply))
    (λ is. pages_stay ds reply pages)

part_if : (b : Bool) (xs ys zs : List ℕ) → (b ≡ true → xs ≡ ys) → (if b then xs else []) ++ zs ≡ (if b then ys else []) ++ zs
part_if true xs ys zs same = ap (λ part. part ++ zs) (same refl)
part_if false xs ys zs same = refl

-- what the other descriptors may write stays where one is written
rest_stays : (ds : List Desc) (d : Desc) (reply : List ℕ) (pages : List Page) → IsThere pages d → IsUnwritten ds d → writable_of ds (put_at d reply pages) ≡ writable_of ds pages
rest_stays [] d reply pages there apart = refl
rest_stays (e ∷ ds) d reply pages there apart =
    part_if (is_writable e) (bytes_at e (put_at d reply pages)) (bytes_at e pages) (writable_of ds (put_at d reply pages)) (λ is. put_elsewhere d e reply pages there (swapped e d (apart.0 is)))
    ∙ ap (λ rest. (if is_writable e then bytes_at e pages else []) ++ rest) (rest_stays ds d reply pages there apart.1)

named : (d : Desc) (pages : List Page) → IsThere pages d → length (bytes_at d pages) ≡ d.len
named d pages there = grind (arith, places)

room_if : (d : Desc) (ds : List Desc) (b : Bool) → is_writable d ≡ b → writable_bytes (d ∷ ds) ≡ (if b then d.len + writable_bytes ds else writable_bytes ds)
room_if d ds true is = rw is (sum_by-cons (λ (x : Desc). x.len) d (filter is_writable ds))
room_if d ds false is = rw is refl

room_at : (d : Desc) (pages : List Page) (xs : List ℕ) (ds : List Desc) (b : Bool) → is_writable d ≡ b → (b ≡ true → IsThere pages d) → length xs ≡ writable_bytes ds
    → length ((if b then bytes_at d pages else []) ++ xs) ≡ writable_bytes (d ∷ ds)
room_at d pages xs ds true is there same = grind (arith, places, room_if d ds true is, named d pages (there refl))
room_at d pages xs ds false is there same = same ∙ sym (room_if d ds false is)

-- there are as many bytes to write as the chain says
room_of : (descs : List Desc) (pages : List Page) → AreThere descs pages → length (writable_of descs pages) ≡ writable_bytes descs
room_of [] pages there = refl
room_of (d ∷ ds) pages there = room_at d pages (writable_of ds pages) ds (is_writable d) refl there.0 (room_of ds pages there.1)

front_if : (b : Bool) (d : Desc) (ds : List Desc) (reply : List ℕ) (pages there here : List Page)
    → (b ≡ true → bytes_at d there ++ writable_of ds there ≡ overlaid (bytes_at d pages ++ writable_of ds pages) 0 reply)
    → (b ≡ false → writable_of ds here ≡ overlaid (writable_of ds pages) 0 reply)
    → (if b then bytes_at d (if b then there else here) else []) ++ writable_of ds (if b then there else here)
    ≡ overlaid ((if b then bytes_at d pages else []) ++ writable_of ds pages) 0 reply
front_if true d ds reply pages there here is other = is refl
front_if false d ds reply pages there here is other = other refl

room_left : (len room all : ℕ) (reply : List ℕ) → all ≡ len + room → length reply ≤ all → length (drop len reply) ≤ room
room_left len room all reply is fits = grind (arith, places)

front_more : (d : Desc) (ds : List Desc) (reply : List ℕ) (pages : List Page) → is_writable d ≡ true → IsThere pages d → AreThere ds pages → IsUnwritten ds d
    → length reply ≤ writable_bytes (d ∷ ds)
    → (length (drop d.len reply) ≤ writable_bytes ds
    → writable_of ds (written ds (drop d.len reply) (put_at d reply pages)) ≡ overlaid (writable_of ds (put_at d reply pages)) 0 (drop d.len reply))
    → bytes_at d (written ds (drop d.len reply) (put_at d reply pages)) ++ writable_of ds (written ds (drop d.len reply) (put_at d reply pages))
    ≡ overlaid (bytes_at d pages ++ writable_of ds pages) 0 reply
front_more d ds reply pages is here there apart fits rest =
    let after : List Page = written ds (drop d.len reply) (put_at d reply pages) in
    let room : writable_bytes (d ∷ ds) ≡ d.len + writable_bytes ds = room_if d ds true is in
    let first : bytes_at d after ≡ overlaid (bytes_at d pages) 0 (take d.len reply) =
    others_stay ds (drop d.len reply) (put_at d reply pages) d (still_there ds d reply pages here there) apart ∙ put_inside d reply pages here in
    let others : writable_of ds after ≡ overlaid (writable_of ds pages) 0 (drop d.len reply) =
    rest (room_left d.len (writable_bytes ds) (writable_bytes (d ∷ ds)) reply room fits) ∙ ap (λ bs. overlaid bs 0 (drop d.len reply)) (rest_stays ds d reply pages here apart) in
    ap (λ bs. bs ++ writable_of ds after) first ∙ ap (λ bs. overlaid (bytes_at d pages) 0 (take d.len reply) ++ bs) others
    ∙ overlaid_parts (bytes_at d pages) (writable_of ds pages) reply d.len (named d pages here) (omega (arith, fits, room, room_of ds pages there))

-- the reply stands at the front of what may be written
pub front_holds : (descs : List Desc) (reply : List ℕ) (pages : List Page) → AreThere descs pages → AreApart descs → length reply ≤ writable_bytes descs
    → writable_of descs (written descs reply pages) ≡ overlaid (writable_of descs pages) 0 reply
front_holds [] reply pages there apart fits = overlaid_nothing 0 reply (omega (arith, fits))
front_holds (d ∷ ds) reply pages there apart fits =
    front_if (is_writable d) d ds reply pages (written ds (drop d.len reply) (put_at d reply pages)) (written ds reply pages)
    (λ is. front_more d ds reply pages is (there.0 is) there.1 (apart.0 is) fits
    (λ left. front_holds ds (drop d.len reply) (put_at d reply pages) (still_there ds d reply pages (there.0 is) there.1) apart.1 left))
    (λ is. front_holds ds reply pages there.1 apart.1 (omega (arith, fits, room_if d ds false is)))
