-- What a scatter list without a fault names, and what a write within one of its entries changes.
-- `mem` stands for the bytes of the page with a number.
use Rattle.std.proofs.Common.{◌≡◌, ◌≢◌, ℕ, zero, suc, ◌+◌, ◌*◌, ◌^◌, ◌<◌, ◌≤◌, ◌⊎◌, ◌∙◌, ◌==◌, Bool, true, false, not, if◌then◌else◌, List, [], ◌∷◌, ◌++◌, length, get_or, take, drop, map, All, sum_by, Option, None, Some, zero-add, refl, sym, ap, inl, inr, ⊎_elim, arith, rules}
use Rattle.std.specs.List.{flat_map, list_any}
use Rattle.std.specs.Option.{option_or}
use Rattle.std.proofs.lemmas.Grind.{common_steps}
use Rattle.std.proofs.lemmas.Bool.Decides.{nat_tests}
use Rattle.std.proofs.lemmas.List.{append_assoc, length-append, places}
use Rattle.std.proofs.lemmas.List.Sums.{sum_by-cons, sum_by_more_le}
use Rattle.std.proofs.lemmas.List.Elements.{All-head, All-tail}
use Rattle.std.proofs.lemmas.List.Folds.{list_any-append}
use Rattle.vm_mem.specs.Page.{page_number, place_in_page, lies_in_page}
use Rattle.vm_mem.specs.declared.page.Page.{Page}
use Rattle.vm_frame.specs.declared.scatter.SgEntry.{SgEntry}
use Rattle.vm_frame.specs.declared.scatter.SgFault.TheVariants.{Outside, ZeroLen, Twice}
use Rattle.std.proofs.Math.Seq.{paste}
use Rattle.std.proofs.lemmas.Bool.{cases_lt, cases_eq}
use Rattle.vm_frame.proofs.PasteLemmas.{paste_within, paste_behind, paste_before, paste_front, paste_back, read_front, read_back}
use Rattle.vm_frame.specs.User.{IsSound}
use Rattle.vm_frame.specs.Scatter.{page_bytes, scatter_bytes, meets, entry_fault, first_fault}

-- e has no address in common with later entries
abbrev pub IsApart : SgEntry → List SgEntry → Type 0
IsApart e [] = Unit {0}
IsApart e (f ∷ fs) = (meets f e ≡ false) × IsApart e fs

-- each entry lies in a page, and has no address in common with another
abbrev pub AreSound : List ℕ → List SgEntry → Type 0
AreSound numbers [] = Unit {0}
AreSound numbers (e ∷ es) = (list_any (lies_in_page e.start e.len) numbers ≡ true) × (IsApart e es × AreSound numbers es)

tests_fine : (empty inside twice : Bool)
    → (if empty then Some ZeroLen else (if not inside then Some Outside else (if twice then Some Twice else None))) ≡ None
    → (inside ≡ true) × (twice ≡ false)
tests_fine true inside twice fine = cc
tests_fine false false twice fine = cc
tests_fine false true true fine = cc
tests_fine false true false fine = (refl, refl)

entry_fine : (numbers : List ℕ) (earlier : List SgEntry) (e : SgEntry) → entry_fault numbers earlier e ≡ None
    → (list_any (lies_in_page e.start e.len) numbers ≡ true) × (list_any (meets e) earlier ≡ false)
entry_fine numbers earlier e fine = tests_fine (e.len == 0) (list_any (lies_in_page e.start e.len) numbers) (list_any (meets e) earlier) fine

first_none : {T : Type 0} (a b : Option T) → option_or a b ≡ None → (a ≡ None) × (b ≡ None)
first_none None b none = (refl, none)
first_none (Some x) b none = cc

later_apart : (numbers : List ℕ) (earlier es : List SgEntry) (e : SgEntry) (xs ys : List SgEntry) → earlier ≡ xs ++ e ∷ ys
    → first_fault numbers earlier es ≡ None → IsApart e es
later_apart numbers earlier [] e xs ys is none = tt
later_apart numbers earlier (f ∷ fs) e xs ys is none =
    let parts = first_none (entry_fault numbers earlier f) (first_fault numbers (earlier ++ f ∷ []) fs) none in
    let fine = entry_fine numbers earlier f parts.0 in
    let among : list_any (meets f) (xs ++ e ∷ ys) ≡ false = rw (← is) fine.1 in (
      grind (arith, common_steps, list_any-append (meets f) xs (e ∷ ys)),
      later_apart numbers (earlier ++ f ∷ []) fs e xs (ys ++ f ∷ []) (rw (is, append_assoc) refl) parts.1,
    )

pub sound_from_none : (numbers : List ℕ) (earlier es : List SgEntry) → first_fault numbers earlier es ≡ None → AreSound numbers es
sound_from_none numbers earlier [] none = tt
sound_from_none numbers earlier (e ∷ es) none =
    let parts = first_none (entry_fault numbers earlier e) (first_fault numbers (earlier ++ e ∷ []) es) none in (
      (entry_fine numbers earlier e parts.0).0,
      (
        later_apart numbers (earlier ++ e ∷ []) es e earlier [] refl parts.1,
        sound_from_none numbers (earlier ++ e ∷ []) es parts.1,
      ),
    )

-- where an entry lies in one of the pages, its page is there, and it ends in it
lies_in_one : (start len : ℕ) (numbers : List ℕ) → list_any (lies_in_page start len) numbers ≡ true
    → (list_any (λ n. n == page_number start) numbers ≡ true) × (place_in_page start + len ≤ 4096)
lies_in_one start len [] lies = cc
lies_in_one start len (n ∷ ns) lies = (
  grind (arith, nat_tests, common_steps, lies_in_one start len ns),
  grind (arith, nat_tests, common_steps, lies_in_one start len ns),
)

-- a page that is there is whole
whole_page : (pages : List Page) (number : ℕ) → All (λ page. length page.bytes ≡ 4096) pages
    → list_any (λ n. n == number) (map (λ page. page.number) pages) ≡ true → length (page_bytes pages number) ≡ 4096
whole_page [] number whole there = cc
whole_page (page ∷ pages) number whole there =
    let head : length page.bytes ≡ 4096 = All-head (λ (page : Page). length page.bytes ≡ 4096) page pages whole in
    let tail = whole_page pages number (All-tail (λ (page : Page). length page.bytes ≡ 4096) page pages whole) in
    grind (arith, nat_tests, common_steps, tail)

abbrev pub range : (ℕ → List ℕ) → SgEntry → List ℕ
range mem e = take e.len (drop (place_in_page e.start) (mem (page_number e.start)))

-- each entry ends in its page
abbrev pub Fits : (ℕ → List ℕ) → List SgEntry → Type 0
Fits mem [] = Unit {0}
Fits mem (e ∷ es) = (place_in_page e.start + e.len ≤ length (mem (page_number e.start))) × Fits mem es

pub fits_pages : (pages : List Page) (es : List SgEntry) → All (λ page. length page.bytes ≡ 4096) pages
    → AreSound (map (λ page. page.number) pages) es → Fits (page_bytes pages) es
fits_pages pages [] whole sound = tt
fits_pages pages (e ∷ es) whole sound =
    let lies = lies_in_one e.start e.len (map (λ (page : Page). page.number) pages) sound.0 in
    let size = whole_page pages (page_number e.start) whole lies.0 in
    (omega arith, fits_pages pages es whole sound.1.1)

-- bytes n were written in one page, at place a of it
pub record Writes (old new : ℕ → List ℕ) (number at : ℕ) (s : List ℕ) (n : ℕ) : Type 0 where
  pub here : new number ≡ paste (old number) at s n
  pub others : (other : ℕ) → other ≢ number → new other ≡ old other

-- two entries that have no address in common
apart_cases : (e f : SgEntry) → meets e f ≡ false → (f.start + f.len ≤ e.start) ⊎ (e.start + e.len ≤ f.start)
apart_cases e f apart = ⊎_elim
    (λ (less : e.start < f.start + f.len). ⊎_elim
    (λ (both : f.start < e.start + e.len). absurd (grind (arith, nat_tests, common_steps)))
    (λ (behind : e.start + e.len ≤ f.start). inr behind)
    (cases_lt f.start (e.start + e.len)))
    (λ (before : f.start + f.len ≤ e.start). inl before)
    (cases_lt e.start (f.start + f.len))

-- a write within e changes no entry that has no address in common with it
same_range : (old new : ℕ → List ℕ) (e f : SgEntry) (skip : ℕ) (s : List ℕ) (n : ℕ) → n ≡ length s → skip + n ≤ e.len
    → Writes old new (page_number e.start) (place_in_page e.start + skip) s n
    → place_in_page e.start + e.len ≤ length (old (page_number e.start))
    → place_in_page f.start + f.len ≤ length (old (page_number f.start))
    → (f.start + f.len ≤ e.start) ⊎ (e.start + e.len ≤ f.start) → range new f ≡ range old f
same_range old new e f skip s n whole within writes e_fits f_fits apart = ⊎_elim
    (λ (same : page_number f.start ≡ page_number e.start). rw (same, writes.here) (⊎_elim
    (λ (before : f.start + f.len ≤ e.start).
    paste_behind (old (page_number e.start)) (place_in_page f.start) f.len (place_in_page e.start + skip) s n whole (omega arith) (omega arith))
    (λ (behind : e.start + e.len ≤ f.start).
    ap (take f.len) (paste_before (old (page_number e.start)) (place_in_page f.start) (place_in_page e.start + skip) s n whole (omega arith) (omega arith)))
    apart))
    (λ (apart_pages : page_number f.start ≢ page_number e.start). rw (writes.others (page_number f.start) apart_pages) refl)
    (cases_eq (page_number f.start) (page_number e.start))

-- a write within e changes it so
changed_range : (old new : ℕ → List ℕ) (e : SgEntry) (skip : ℕ) (s : List ℕ) (n : ℕ) → n ≡ length s → skip + n ≤ e.len
    → Writes old new (page_number e.start) (place_in_page e.start + skip) s n
    → place_in_page e.start + e.len ≤ length (old (page_number e.start))
    → range new e ≡ paste (range old e) skip s n
changed_range old new e skip s n whole within writes fits =
    rw writes.here (paste_within (old (page_number e.start)) (place_in_page e.start) e.len skip s n whole within fits)

-- a write within e changes no entries that have no address in common with it
same_ranges : (old new : ℕ → List ℕ) (e : SgEntry) (skip : ℕ) (s : List ℕ) (n : ℕ) → n ≡ length s → skip + n ≤ e.len
    → Writes old new (page_number e.start) (place_in_page e.start + skip) s n
    → place_in_page e.start + e.len ≤ length (old (page_number e.start))
    → (fs : List SgEntry) → Fits old fs → IsApart e fs → flat_map (range new) fs ≡ flat_map (range old) fs
same_ranges old new e skip s n whole within writes e_fits [] fits apart = refl
same_ranges old new e skip s n whole within writes e_fits (f ∷ fs) fits apart =
    let here = same_range old new e f skip s n whole within writes e_fits fits.0 (⊎_elim (λ h. inr h) (λ h. inl h) (apart_cases f e apart.0)) in
    let rest = same_ranges old new e skip s n whole within writes e_fits fs fits.1 apart.1 in
    rw (here, rest) refl

abbrev pub total : List SgEntry → ℕ
total es = sum_by (λ e. e.len) es

length-range : (mem : ℕ → List ℕ) (e : SgEntry) → place_in_page e.start + e.len ≤ length (mem (page_number e.start)) → length (range mem e) ≡ e.len
length-range mem e fits = search (rules, places)

pub length-scatter : (mem : ℕ → List ℕ) (es : List SgEntry) → Fits mem es → length (flat_map (range mem) es) ≡ total es
length-scatter mem [] fits = refl
length-scatter mem (e ∷ es) fits =
    let front = length-range mem e fits.0 in
    let back = length-scatter mem es fits.1 in
    rw (sum_by-cons, length-append, front, back) refl

at_apart : (x : SgEntry) (es : List SgEntry) (k : ℕ) → k < length es → (d : SgEntry) → IsApart x es → meets (get_or es k d) x ≡ false
at_apart x [] k within d apart = absurd (omega arith)
at_apart x (e ∷ es) zero within d apart = apart.0
at_apart x (e ∷ es) (suc k) within d apart = at_apart x es k (omega arith) d apart.1

pub at_fits : (mem : ℕ → List ℕ) (es : List SgEntry) (k : ℕ) → k < length es → (d : SgEntry) → Fits mem es
    → place_in_page (get_or es k d).start + (get_or es k d).len ≤ length (mem (page_number (get_or es k d).start))
at_fits mem [] k within d fits = absurd (omega arith)
at_fits mem (e ∷ es) zero within d fits = fits.0
at_fits mem (e ∷ es) (suc k) within d fits = at_fits mem es k (omega arith) d fits.1

pub at_in_page : (numbers : List ℕ) (es : List SgEntry) (k : ℕ) → k < length es → (d : SgEntry) → AreSound numbers es
    → place_in_page (get_or es k d).start + (get_or es k d).len ≤ 4096
at_in_page numbers [] k within d sound = absurd (omega arith)
at_in_page numbers (e ∷ es) zero within d sound = (lies_in_one e.start e.len numbers sound.0).1
at_in_page numbers (e ∷ es) (suc k) within d sound = at_in_page numbers es k (omega arith) d sound.1.1

-- a write within the k-th entry is a write to the bytes of all entries, behind those of the entries before it
pub written_at : (numbers : List ℕ) (old new : ℕ → List ℕ) (es : List SgEntry) (k : ℕ) (d : SgEntry) (skip : ℕ) (s : List ℕ) (n : ℕ)
    → AreSound numbers es → Fits old es → k < length es → n ≡ length s → skip + n ≤ (get_or es k d).len
    → Writes old new (page_number (get_or es k d).start) (place_in_page (get_or es k d).start + skip) s n
    → flat_map (range new) es ≡ paste (flat_map (range old) es) (total (take k es) + skip) s n
written_at numbers old new [] k d skip s n sound fits within whole ends writes = absurd (omega arith)
written_at numbers old new (e ∷ es) zero d skip s n sound fits within whole ends writes =
    let size = length-range old e fits.0 in
    let here = changed_range old new e skip s n whole ends writes fits.0 in
    let rest = same_ranges old new e skip s n whole ends writes fits.0 es fits.1 sound.1.0 in
    rw (here, rest, zero-add) (sym (paste_front (range old e) (flat_map (range old) es) skip s n whole (omega arith)))
written_at numbers old new (e ∷ es) (suc k) d skip s n sound fits within whole ends writes =
    let size = length-range old e fits.0 in
    let same = same_range old new (get_or es k d) e skip s n whole ends writes (at_fits old es k (omega arith) d fits.1) fits.0
    (apart_cases (get_or es k d) e (at_apart e es k (omega arith) d sound.1.0)) in
    let rest = written_at numbers old new es k d skip s n sound.1.1 fits.1 (omega arith) whole ends writes in
    let inside : total (take k es) + skip + n ≤ length (flat_map (range old) es) =
    omega (arith, length-scatter old es fits.1, sum_by_more_le (λ (e : SgEntry). e.len) es k d (omega arith)) in
    let place : total (take (suc k) (e ∷ es)) + skip ≡ length (range old e) + (total (take k es) + skip) =
    omega (arith, sum_by-cons (λ (e : SgEntry). e.len) e (take k es), size) in
    rw (same, rest, place) (sym (paste_back (range old e) (flat_map (range old) es) (total (take k es) + skip) s n whole inside))

-- what a sound list of entries names on its pages
pub sound_of : (entries : List SgEntry) (pages : List Page) → IsSound entries pages → AreSound (map (λ page. page.number) pages) entries
sound_of entries pages sound = sound_from_none (map (λ (page : Page). page.number) pages) [] entries sound.no_fault

pub fits_of : (entries : List SgEntry) (pages : List Page) → IsSound entries pages → Fits (page_bytes pages) entries
fits_of entries pages sound = fits_pages pages entries sound.whole (sound_of entries pages sound)

pub length-scatter_bytes : (entries : List SgEntry) (pages : List Page) → IsSound entries pages
    → length (scatter_bytes entries pages) ≡ total entries
length-scatter_bytes entries pages sound = length-scatter (page_bytes pages) entries (fits_of entries pages sound)

total_bound : (numbers : List ℕ) (es : List SgEntry) → AreSound numbers es → total es ≤ length es * 4096
total_bound numbers [] sound = search rules
total_bound numbers (e ∷ es) sound =
    let lies = lies_in_one e.start e.len numbers sound.0 in
    omega (arith, total_bound numbers es sound.1.1, sum_by-cons (λ (e : SgEntry). e.len) e es)

pub total_fits : (entries : List SgEntry) (pages : List Page) → IsSound entries pages → total entries < 2 ^ 32
total_fits entries pages sound =
    omega (arith, total_bound (map (λ (page : Page). page.number) pages) entries (sound_of entries pages sound), sound.few_entries)

front_bound : (numbers : List ℕ) (es : List SgEntry) (k : ℕ) → AreSound numbers es → total (take k es) ≤ k * 4096
front_bound numbers es zero sound = search rules
front_bound numbers [] (suc k) sound = search rules
front_bound numbers (e ∷ es) (suc k) sound =
    let lies = lies_in_one e.start e.len numbers sound.0 in
    omega (arith, front_bound numbers es k sound.1.1, sum_by-cons (λ (e : SgEntry). e.len) e (take k es))

-- the first k entries name no more bytes than k pages have
pub front_fits : (entries : List SgEntry) (pages : List Page) (k : ℕ) → IsSound entries pages → total (take k entries) ≤ k * 4096
front_fits entries pages k sound = front_bound (map (λ (page : Page). page.number) pages) entries k (sound_of entries pages sound)

-- the bytes within the k-th entry are those behind the entries before it
pub read_at : (mem : ℕ → List ℕ) (es : List SgEntry) (k : ℕ) (d : SgEntry) (skip count : ℕ) → Fits mem es → k < length es
    → skip + count ≤ (get_or es k d).len
    → take count (drop skip (range mem (get_or es k d))) ≡ take count (drop (total (take k es) + skip) (flat_map (range mem) es))
read_at mem [] k d skip count fits within ends = absurd (omega arith)
read_at mem (e ∷ es) zero d skip count fits within ends =
    let size = length-range mem e fits.0 in
    rw zero-add (sym (read_front (range mem e) (flat_map (range mem) es) skip count (omega arith)))
read_at mem (e ∷ es) (suc k) d skip count fits within ends =
    let size = length-range mem e fits.0 in
    let place : total (take (suc k) (e ∷ es)) + skip ≡ length (range mem e) + (total (take k es) + skip) =
    omega (arith, sum_by-cons (λ (e : SgEntry). e.len) e (take k es), size) in
    rw place (read_at mem es k d skip count fits.1 (omega arith) ends
    ∙ sym (ap (take count) (read_back (range mem e) (flat_map (range mem) es) (total (take k es) + skip))))
