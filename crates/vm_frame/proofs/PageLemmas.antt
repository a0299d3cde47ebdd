-- The page with a number among several pages: the first one, behind those with other numbers.
use Rattle.std.proofs.Common.{◌≡◌, ◌≢◌, ℕ, zero, suc, ◌<◌, ◌≤◌, ◌==◌, not, List, [], ◌∷◌, length, get_or, set, map, refl, arith}
use Rattle.std.specs.Prelude.{take_while}
use Rattle.std.proofs.lemmas.Grind.{common_steps}
use Rattle.std.proofs.lemmas.Bool.Decides.{nat_tests}
use Rattle.vm_mem.specs.declared.page.Page.{Page}
use Rattle.vm_frame.specs.Scatter.{page_bytes}

abbrev pub place_of : List Page → ℕ → ℕ
place_of pages number = length (take_while (λ page. not (page.number == number)) pages)

pub found : (pages : List Page) (number : ℕ) (d : Page) → place_of pages number < length pages
    → (page_bytes pages number ≡ (get_or pages (place_of pages number) d).bytes) × ((get_or pages (place_of pages number) d).number ≡ number)
found [] number d there = absurd (omega arith)
found (page ∷ pages) number d there = (
  grind (arith, nat_tests, common_steps, found pages number d),
  grind (arith, nat_tests, common_steps, found pages number d),
)

pub missing : (pages : List Page) (number : ℕ) → length pages ≤ place_of pages number → page_bytes pages number ≡ []
missing [] number there = refl
missing (page ∷ pages) number there = grind (arith, nat_tests, common_steps, missing pages number)

pub set_here : (pages : List Page) (number : ℕ) (page : Page) → place_of pages number < length pages → page.number ≡ number
    → page_bytes (set pages (place_of pages number) page) number ≡ page.bytes
set_here [] number page there is = absurd (omega arith)
set_here (first ∷ pages) number page there is = grind (arith, nat_tests, common_steps, set_here pages number page)

pub set_others : (pages : List Page) (number other : ℕ) (page : Page) → place_of pages number < length pages → page.number ≡ number → other ≢ number
    → page_bytes (set pages (place_of pages number) page) other ≡ page_bytes pages other
set_others [] number other page there is apart = absurd (omega arith)
set_others (first ∷ pages) number other page there is apart = grind (arith, nat_tests, common_steps, set_others pages number other page)

pub numbers_after_set : (pages : List Page) (i : ℕ) (page d : Page) → page.number ≡ (get_or pages i d).number
    → map (λ page. page.number) (set pages i page) ≡ map (λ page. page.number) pages
numbers_after_set [] i page d same = refl
numbers_after_set (first ∷ pages) zero page d same = rw same refl
numbers_after_set (first ∷ pages) (suc i) page d same = rw (numbers_after_set pages i page d same) refl
