-- Lemmas on the place of a new range.
use Rattle.std.proofs.Common.{◌≡◌, ℕ, ◌+◌, ◌*◌, ◌%◌, ◌<◌, ◌≤◌, Bool, true, false, not, ◌&&◌, if◌then◌else◌, Some, None, List, [], ◌∷◌, map, refl, arith}
use Rattle.std.proofs.lemmas.Bool.Decides.{nat_tests}
use Rattle.vm_region.specs.declared.live_range.LiveRange.{LiveRange}
use Rattle.vm_region.specs.Region.{IsOrderly, blocking_end, is_free, meets, placed, top_of}

-- where nothing blocks the pages, they are free
pub free_there : (a n : ℕ) (rs : List LiveRange) → blocking_end a n rs ≡ None → is_free a n (map placed rs) ≡ true
free_there a n [] none = refl
free_there a n (r ∷ rs) none = step (meets a n r.addr r.pages) none (free_there a n rs)
  where
    step : (b : Bool) → (if b then Some (r.addr + 4096 * r.pages) else blocking_end a n rs) ≡ None
        → (blocking_end a n rs ≡ None → is_free a n (map placed rs) ≡ true) → (not b && is_free a n (map placed rs)) ≡ true
    step true none rest = absurd (cc)
    step false none rest = rest none

-- What blocks pages blocks them from every later address that is below its end.
pub record Blocks (a n e : ℕ) (rs : List LiveRange) : Type 0 where
  pub later : a < e
  pub top : e ≤ top_of rs
  pub page : e % 4096 ≡ 0
  pub blocked : (lower : ℕ) → a ≤ lower → lower < e → is_free lower n (map placed rs) ≡ false

pub blocks : (a n e : ℕ) (rs : List LiveRange) → IsOrderly rs → blocking_end a n rs ≡ Some e → Blocks a n e rs
blocks a n e [] orderly some = absurd (cc)
blocks a n e (r ∷ rs) (pages, count, page, free, tag, orderly) some = step (meets a n r.addr r.pages) refl some (blocks a n e rs orderly)
  where
    step : (b : Bool) → meets a n r.addr r.pages ≡ b → (if b then Some (r.addr + 4096 * r.pages) else blocking_end a n rs) ≡ Some e
        → (blocking_end a n rs ≡ Some e → Blocks a n e rs) → Blocks a n e (r ∷ rs)
    step true met some rest =
        let same : r.addr + 4096 * r.pages ≡ e = cc in
        record {
          later = grind (arith, nat_tests);
          top = grind (arith, nat_tests);
          page = omega (arith, same, page);
          blocked = λ lower from below. grind (arith, nat_tests);
        }
    step false met some rest =
        let later : Blocks a n e rs = rest some in
        record {
          later = later.later;
          top = let top = later.top in omega (arith, top);
          page = later.page;
          blocked = λ lower from below. let there = later.blocked lower from below in grind (arith, nat_tests, there);
        }
