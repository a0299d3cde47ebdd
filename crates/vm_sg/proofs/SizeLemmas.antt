-- How many bytes entries without a fault name on whole pages.
use Rattle.std.proofs.Common.{ℕ, ◌≡◌, ◌+◌, ◌≤◌, ◌==◌, Bool, true, false, not, if◌then◌else◌, List, [], ◌∷◌, ◌++◌, length, map, All, sum_by, Option, None, Some, refl, arith, rules}
use Rattle.std.specs.List.{list_any}
use Rattle.std.specs.Option.{option_or}
use Rattle.std.proofs.lemmas.Grind.{common_steps}
use Rattle.std.proofs.lemmas.Bool.Decides.{nat_tests}
use Rattle.std.proofs.lemmas.List.{length-append, places}
use Rattle.std.proofs.lemmas.List.Sums.{sum_by-cons}
use Rattle.std.proofs.lemmas.List.Elements.{All-head, All-tail}
use Rattle.vm_mem.specs.Page.{page_number, place_in_page, lies_in_page}
use Rattle.vm_mem.specs.declared.page.Page.{Page}
use Rattle.vm_frame.specs.declared.scatter.SgEntry.{SgEntry}
use Rattle.vm_frame.specs.declared.scatter.SgFault.TheVariants.{Outside, ZeroLen, Twice}
use Rattle.vm_frame.specs.Scatter.{page_bytes, entry_bytes, scatter_bytes, scatter_fault, entry_fault, first_fault, meets}

-- an entry without a fault lies in a page
inside_where : (empty inside twice : Bool)
    → (if empty then Some ZeroLen else (if not inside then Some Outside else (if twice then Some Twice else None))) ≡ None → inside ≡ true
inside_where true inside twice fine = cc
inside_where false true twice fine = refl
inside_where false false twice fine = cc

both_none : {T : Type 0} (a b : Option T) → option_or a b ≡ None → (a ≡ None) × (b ≡ None)
both_none None b none = (refl, none)
both_none (Some x) b none = cc

-- where an entry lies in one of the pages, its page is there, and it ends in it
lies_in_one : (start len : ℕ) (numbers : List ℕ) → list_any (lies_in_page start len) numbers ≡ true
    → (list_any (λ n. n == page_number start) numbers ≡ true) × (place_in_page start + len ≤ 4096)
lies_in_one start len [] lies = cc
lies_in_one start len (n ∷ ns) lies = (
  grind (arith, nat_tests, common_steps, lies_in_one start len ns),
  grind (arith, nat_tests, common_steps, lies_in_one start len ns),
)

-- a page that is there is whole
whole_page : (pages : List Page) (number : ℕ) → All (λ page. length page.bytes ≡ 4096) pages
    → list_any (λ n. n == number) (map (λ page. page.number) pages) ≡ true → length (page_bytes pages number) ≡ 4096
whole_page [] number whole there = cc
whole_page (page ∷ pages) number whole there =
    let head : length page.bytes ≡ 4096 = All-head (λ (page : Page). length page.bytes ≡ 4096) page pages whole in
    let tail = whole_page pages number (All-tail (λ (page : Page). length page.bytes ≡ 4096) page pages whole) in
    grind (arith, nat_tests, common_steps, tail)

length-entry : (pages : List Page) (e : SgEntry) → place_in_page e.start + e.len ≤ length (page_bytes pages (page_number e.start))
    → length (entry_bytes pages e) ≡ e.len
length-entry pages e fits = search (rules, places)

length-entries : (pages : List Page) (earlier es : List SgEntry) → All (λ page. length page.bytes ≡ 4096) pages
    → first_fault (map (λ page. page.number) pages) earlier es ≡ None → length (scatter_bytes es pages) ≡ sum_by (λ e. e.len) es
length-entries pages earlier [] whole fine = refl
length-entries pages earlier (e ∷ es) whole fine =
    let numbers : List ℕ = map (λ (page : Page). page.number) pages in
    let parts = both_none (entry_fault numbers earlier e) (first_fault numbers (earlier ++ e ∷ []) es) fine in
    let inside = inside_where (e.len == 0) (list_any (lies_in_page e.start e.len) numbers) (list_any (meets e) earlier) parts.0 in
    let lies = lies_in_one e.start e.len numbers inside in
    let size = whole_page pages (page_number e.start) whole lies.0 in
    let front = length-entry pages e (omega arith) in
    let back = length-entries pages (earlier ++ e ∷ []) es whole parts.1 in
    rw (sum_by-cons, length-append, front, back) refl

-- entries without a fault name as many bytes as their lengths add up to
pub length-scatter_bytes : (entries : List SgEntry) (pages : List Page) → All (λ page. length page.bytes ≡ 4096) pages
    → scatter_fault entries pages ≡ None → length (scatter_bytes entries pages) ≡ sum_by (λ e. e.len) entries
length-scatter_bytes entries pages whole fine = length-entries pages [] entries whole fine
