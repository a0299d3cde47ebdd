-- What a guest's memory knows of its pages: a finite map from the number of each page that was
-- added to its bytes where it is home, and to None where it is away.
use Rattle.std.specs.Prelude.{◌≡◌, ◌≢◌, ℕ, List, Option, Some}
use Rattle.std.specs.BTreeMap.{is_at}
use Rattle.std.specs.Map.{lookup}
use Rattle.std.specs.Option.{option_flatten}
use Rattle.std.specs.Ordering.{nat_cmp}

abbrev pub Pages : Type 0
Pages = List (ℕ × Option (List ℕ))

-- what is known of the page with a number: None where it was never added
abbrev pub page_at : Pages → ℕ → Option (Option (List ℕ))
page_at pages number = lookup (is_at (nat_cmp number)) pages

-- the bytes of the page with a number, where it is home
abbrev pub home_bytes : Pages → ℕ → Option (List ℕ)
home_bytes pages number = option_flatten (page_at pages number)

-- the pages differ in that one alone, which is now home with these bytes, or away
pub record ChangesPage (old new : Pages) (number : ℕ) (now : Option (List ℕ)) : Type 0 where
  pub changed : page_at new number ≡ Some now
  pub others : (other : ℕ) → other ≢ number → page_at new other ≡ page_at old other
