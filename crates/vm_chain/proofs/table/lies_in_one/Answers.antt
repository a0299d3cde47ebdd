use Rattle.std.proofs.Common.{◌≡◌, ℕ, ◌≤◌, List, [], ◌∷◌, true, arith}
use Rattle.std.proofs.lemmas.Grind.{common_steps}
use Rattle.std.proofs.lemmas.Bool.Decides.{nat_tests}
use Rattle.std.specs.List.{list_any}
use Rattle.vm_mem.specs.Page.{lies_in_page}
use Rattle.vm_chain.proofs.table.lies_in_one.Goals as goal

-- what lies in a page is no longer than a page
fits_a_page : (start len : ℕ) (homes : List ℕ) → list_any (lies_in_page start len) homes ≡ true → len ≤ 4096
fits_a_page start len [] lies = cc
fits_a_page start len (home ∷ homes) lies = grind (arith, nat_tests, common_steps, fits_a_page start len homes)

pub returns-clause-short : goal.returns-clause-short
returns-clause-short c lies = fits_a_page c.args.desc.now.addr c.args.desc.now.len c.args.homes.now (grind (arith, common_steps))
