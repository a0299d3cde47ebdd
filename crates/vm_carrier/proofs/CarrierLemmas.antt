-- Lemmas on the bytes of a chain in its pages.
use Rattle.std.proofs.Common.{◌≡◌, ℕ, suc, ◌+◌, ◌*◌, ◌<◌, ◌≤◌, ◌==◌, Bool, true, false, not, ◌&&◌, ◌||◌, nat_le, Option, Some, None, Result, Ok, Err, List, [], ◌∷◌, ◌++◌, length, drop, get_or, set, subst, refl, sym, ap, ◌∙◌, arith, take_while, if◌then◌else◌}
use Rattle.std.specs.List.{list_any, prefix_len}
use Rattle.std.specs.Option.{option_to_list}
use Rattle.std.proofs.lemmas.Bool.Decides.{nat_tests}
use Rattle.std.proofs.lemmas.List.{append_assoc, length-append, drop_more}
use Rattle.std.proofs.lemmas.List.Elements.{All-push}
use Rattle.std.proofs.lemmas.List.Folds.{length-prefix_len}
use Rattle.vm_chain.specs.Desc.{is_readable, is_writable, is_indirect}
use Rattle.vm_chain.specs.Walk.{Visit, visits, fault_of, unless_faulty, outcome, walk_of}
use Rattle.vm_chain.specs.declared.desc.Desc.{Desc}
use Rattle.vm_chain.specs.declared.fault.ChainFault.{ChainFault}
use Rattle.vm_chain.specs.declared.fault.ChainKind.{ChainKind}
use Rattle.vm_mem.specs.Page.{place_in_page, lies_in_page}
use Rattle.vm_mem.specs.declared.page.Page.{Page}
use Rattle.vm_carrier.specs.Carrier.{readable_at, readable_of, overlaid, with_bytes, Fits}

-- ---- reading

-- the bytes of one descriptor more
pub gathered_more : (descs : List Desc) (pages : List Page) (k : ℕ) (d : Desc) (part bytes bytes' : List ℕ) → k < length descs → part ≡ readable_at (get_or descs k d) pages
    → bytes' ≡ bytes ++ part → readable_of descs pages ≡ bytes ++ readable_of (drop k descs) pages → readable_of descs pages ≡ bytes' ++ readable_of (drop (k + 1) descs) pages
gathered_more descs pages k d part bytes bytes' within is more before =
    before ∙ ap (λ ds. bytes ++ readable_of ds pages) (drop_more descs k d within) ∙ ap (λ p. bytes ++ (p ++ readable_of (drop (k + 1) descs) pages)) (sym is)
    ∙ sym (append_assoc bytes part (readable_of (drop (k + 1) descs) pages)) ∙ ap (λ bs. bs ++ readable_of (drop (k + 1) descs) pages) (sym more)

pub gathered_room : (k : ℕ) (part bytes bytes' : List ℕ) → bytes' ≡ bytes ++ part → length part ≤ 4096 → length bytes ≤ 4096 * k → length bytes' ≤ 4096 * (k + 1)
gathered_room k part bytes bytes' more small before = omega (arith, ap length more, length-append bytes part, small, before)

-- ---- writing

abbrev pub is_other : ℕ → Page → Bool
is_other number page = not (page.number == number)

-- the place of the first page with this number
abbrev pub first_place : ℕ → List Page → ℕ
first_place number [] = 0
first_place number (p ∷ ps) = if p.number == number then 0 else suc (first_place number ps)

prefix_if : (b : Bool) (n place : ℕ) → n ≡ place → (if not b then 1 + n else 0) ≡ (if b then 0 else suc place)
prefix_if true n place same = refl
prefix_if false n place same = omega (arith, same)

prefix_at : (number : ℕ) (pages : List Page) → prefix_len (is_other number) pages ≡ first_place number pages
prefix_at number [] = refl
prefix_at number (p ∷ ps) = prefix_if (p.number == number) (prefix_len (is_other number) ps) (first_place number ps) (prefix_at number ps)

pub counted_place : (number : ℕ) (pages : List Page) → length (take_while (is_other number) pages) ≡ first_place number pages
counted_place number pages = length-prefix_len (is_other number) pages ∙ prefix_at number pages

abbrev put_if : Bool → Page → List Page → ℕ → ℕ → List ℕ → List Page
put_if b p ps number at new = if b then record p { bytes = overlaid p.bytes at new } ∷ ps else p ∷ with_bytes ps number at new

there_if : (b : Bool) (p : Page) (ps : List Page) (number at : ℕ) (new : List ℕ) (page d : Page)
    → (first_place number ps < length ps → page ≡ record (get_or ps (first_place number ps) d) { bytes = overlaid (get_or ps (first_place number ps) d).bytes at new } → set ps (first_place number ps) page ≡ with_bytes ps number at new)
    → (if b then 0 else suc (first_place number ps)) < length (p ∷ ps)
    → page ≡ record (get_or (p ∷ ps) (if b then 0 else suc (first_place number ps)) d) { bytes = overlaid (get_or (p ∷ ps) (if b then 0 else suc (first_place number ps)) d).bytes at new }
    → set (p ∷ ps) (if b then 0 else suc (first_place number ps)) page ≡ put_if b p ps number at new
there_if true p ps number at new page d rest within is = ap (λ q. q ∷ ps) is
there_if false p ps number at new page d rest within is = ap (λ qs. p ∷ qs) (rest (omega (arith, within)) is)

-- where the first page with this number stands, its bytes are overlaid
pub put_there : (pages : List Page) (number at : ℕ) (new : List ℕ) (page d : Page) → first_place number pages < length pages
    → page ≡ record (get_or pages (first_place number pages) d) { bytes = overlaid (get_or pages (first_place number pages) d).bytes at new }
    → set pages (first_place number pages) page ≡ with_bytes pages number at new
put_there [] number at new page d within is = absurd (omega (arith, within))
put_there (p ∷ ps) number at new page d within is =
    there_if (p.number == number) p ps number at new page d (λ inside same. put_there ps number at new page d inside same) within is

nowhere_if : (b : Bool) (p : Page) (ps : List Page) (number at : ℕ) (new : List ℕ) → (length ps ≤ first_place number ps → ps ≡ with_bytes ps number at new)
    → length (p ∷ ps) ≤ (if b then 0 else suc (first_place number ps)) → p ∷ ps ≡ put_if b p ps number at new
nowhere_if true p ps number at new rest past = absurd (omega (arith, past))
nowhere_if false p ps number at new rest past = ap (λ qs. p ∷ qs) (rest (omega (arith, past)))

-- where no page has this number, nothing changes
pub put_nowhere : (pages : List Page) (number at : ℕ) (new : List ℕ) → length pages ≤ first_place number pages → pages ≡ with_bytes pages number at new
put_nowhere [] number at new past = refl
put_nowhere (p ∷ ps) number at new past = nowhere_if (p.number == number) p ps number at new (λ beyond. put_nowhere ps number at new beyond) past

-- the same at the place that was counted
pub put_counted : (pages : List Page) (number at place : ℕ) (new : List ℕ) (page d : Page) → place ≡ length (take_while (is_other number) pages) → place < length pages
    → page ≡ record (get_or pages place d) { bytes = overlaid (get_or pages place d).bytes at new } → set pages place page ≡ with_bytes pages number at new
put_counted pages number at place new page d counted within is =
    let at_first : first_place number pages ≡ place = sym (counted ∙ counted_place number pages) in
    let P : ℕ → Type 0 = λ k. k < length pages → page ≡ record (get_or pages k d) { bytes = overlaid (get_or pages k d).bytes at new } → set pages k page ≡ with_bytes pages number at new in
    subst P at_first (put_there pages number at new page d) within is

pub put_past : (pages : List Page) (number at place : ℕ) (new : List ℕ) → place ≡ length (take_while (is_other number) pages) → length pages ≤ place → pages ≡ with_bytes pages number at new
put_past pages number at place new counted past = put_nowhere pages number at new (omega (arith, past, counted, counted_place number pages))

-- ---- a chain that was walked

-- the first and the last of five tests that clear a descriptor
cleared : (a b c d e : Bool) (ka kb kc kd ke : ChainKind)
    → (if a then Some ka else (if b then Some kb else (if c then Some kc else (if d then Some kd else (if e then None else Some ke))))) ≡ None → (a ≡ false) × (e ≡ true)
cleared true b c d e ka kb kc kd ke none = cc
cleared false true c d e ka kb kc kd ke none = cc
cleared false false true d e ka kb kc kd ke none = cc
cleared false false false true e ka kb kc kd ke none = cc
cleared false false false false true ka kb kc kd ke none = (refl, refl)
cleared false false false false false ka kb kc kd ke none = cc

one_page : (addr len number : ℕ) → lies_in_page addr len number ≡ true → place_in_page addr + len ≤ 4096
one_page addr len number lies = grind (arith, nat_tests)

some_page : (addr len : ℕ) (homes : List ℕ) → list_any (lies_in_page addr len) homes ≡ true → place_in_page addr + len ≤ 4096
some_page addr len [] lies = cc
some_page addr len (home ∷ homes) lies = either (lies_in_page addr len home) (list_any (lies_in_page addr len) homes) lies (one_page addr len home) (some_page addr len homes)
  where
    either : (a b : Bool) → (a || b) ≡ true → (a ≡ true → place_in_page addr + len ≤ 4096) → (b ≡ true → place_in_page addr + len ≤ 4096) → place_in_page addr + len ≤ 4096
    either true b one first rest = first refl
    either false b one first rest = rest one

below_limit : (limit n : ℕ) → nat_le limit n ≡ false → n < limit
below_limit limit n is = grind (arith, nat_tests)

abbrev descs_or : List Desc → Result (List Desc) ChainFault → List Desc
descs_or d (Ok descs) = descs
descs_or d (Err fault) = d

desc_fits : (limit : ℕ) (homes : List ℕ) (before : List Desc) (vs : List Visit) (descs : List Desc) (at : ℕ) (o : Option Desc) (f : Option ChainKind)
    → fault_of limit (length before) (list_any is_writable before) homes o ≡ f → unless_faulty f at (outcome limit homes (before ++ option_to_list o) vs) ≡ Ok descs
    → Fits limit before → ((d : Desc) → outcome limit homes (before ++ d ∷ []) vs ≡ Ok descs → Fits limit (before ++ d ∷ []) → Fits limit descs) → Fits limit descs
desc_fits limit homes before vs descs at o (Some kind) fault is fits rest = cc
desc_fits limit homes before vs descs at None None fault is fits rest = cc
desc_fits limit homes before vs descs at (Some d) None fault is fits rest =
    let clear = cleared (nat_le limit (length before)) (is_indirect d) (d.len == 0) (is_readable d && list_any is_writable before) (list_any (lies_in_page d.addr d.len) homes) _ _ _ _ _ fault in
    rest d is (
      omega (arith, below_limit limit (length before) clear.0, length-append before (d ∷ [])),
      All-push (λ x. place_in_page x.addr + x.len ≤ 4096) before d fits.1 (some_page d.addr d.len homes clear.1),
    )

-- a walk has no more descriptors than its limit, and each stays in one page
outcome_fits : (limit : ℕ) (homes : List ℕ) (before : List Desc) (vs : List Visit) (descs : List Desc) → outcome limit homes before vs ≡ Ok descs → Fits limit before → Fits limit descs
outcome_fits limit homes before [] descs is fits = subst (Fits limit) (ap (descs_or before) is) fits
outcome_fits limit homes before (v ∷ vs) descs is fits =
    desc_fits limit homes before vs descs v.at v.desc (fault_of limit (length before) (list_any is_writable before) homes v.desc) refl is fits (λ d. outcome_fits limit homes (before ++ d ∷ []) vs descs)

pub walk_fits : (table : List Desc) (head limit : ℕ) (homes : List ℕ) (descs : List Desc) → walk_of table head limit homes ≡ Ok descs → Fits limit descs
unfolding walk_of
walk_fits table head limit homes descs is = outcome_fits limit homes [] (visits table (suc limit) head) descs is (omega arith, λ k d within. absurd (omega (arith, within)))
