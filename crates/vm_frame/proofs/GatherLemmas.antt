-- One step of the loops over the entries of a scatter list.
use Rattle.std.proofs.Common.{◌≡◌, ℕ, ◌+◌, ◌-◌, ◌<◌, ◌≤◌, ◌∙◌, List, length, get_or, take, drop, map, min, All, ⊎_elim, add-zero, refl, sym, ap, arith, rules}
use Rattle.std.specs.List.{flat_map}
use Rattle.std.proofs.lemmas.Bool.{cases_lt}
use Rattle.std.proofs.lemmas.List.{length-map, places}
use Rattle.std.proofs.lemmas.List.Sums.{sum_by_more}
use Rattle.vm_frame.specs.declared.scatter.SgEntry.{SgEntry}
use Rattle.std.proofs.Math.Seq.{paste}
use Rattle.std.proofs.lemmas.List.Edits.{paste_none}
use Rattle.vm_mem.specs.Page.{page_number, place_in_page}
use Rattle.vm_mem.specs.declared.page.Page.{Page}
use Rattle.vm_frame.specs.User.{IsSound}
use Rattle.vm_frame.proofs.PasteLemmas.{paste_step}
use Rattle.vm_frame.proofs.ScatterLemmas.{total, range, AreSound, Fits, Writes, read_at, written_at}

-- the entry in place k adds its length
pub total_more : (es : List SgEntry) (k : ℕ) (d : SgEntry) → k < length es → total (take (k + 1) es) ≡ total (take k es) + (get_or es k d).len
total_more es k d within = sum_by_more (λ (e : SgEntry). e.len) es k d within

-- where the next byte that is wanted stands, once the entry in place k was read
pub next_place : (es : List SgEntry) (k : ℕ) (d : SgEntry) (at ahead done skip count left : ℕ) → k < length es
    → skip ≡ min ahead (get_or es k d).len → count ≡ min ((get_or es k d).len - skip) left → total (take k es) + ahead ≡ at + done
    → count < left → total (take (k + 1) es) + (ahead - skip) ≡ at + (done + count)
next_place es k d at ahead done skip count left within skipped counted place more =
    let added = total_more es k d within in omega arith

-- what the entry in place k gives is what comes next
pub next_bytes : (mem : ℕ → List ℕ) (es : List SgEntry) (k : ℕ) (d : SgEntry) (at ahead done skip count left : ℕ) → Fits mem es → k < length es
    → skip ≡ min ahead (get_or es k d).len → count ≡ min ((get_or es k d).len - skip) left → total (take k es) + ahead ≡ at + done
    → take count (drop skip (range mem (get_or es k d))) ≡ take count (drop (at + done) (flat_map (range mem) es))
next_bytes mem es k d at ahead done skip count left fits within skipped counted place = ⊎_elim
    (λ (inside : ahead < (get_or es k d).len).
    let here : total (take k es) + skip ≡ at + done = omega arith in
    rw (← here) (read_at mem es k d skip count fits within (omega arith)))
    (λ (outside : (get_or es k d).len ≤ ahead).
    let none : count ≡ 0 = omega arith in rw none refl)
    (cases_lt ahead (get_or es k d).len)

-- pages that keep their numbers and their sizes keep the list sound
pub sound_kept : (entries : List SgEntry) (old new : List Page) → IsSound entries old
    → map (λ page. page.number) new ≡ map (λ page. page.number) old → All (λ page. length page.bytes ≡ 4096) new → IsSound entries new
sound_kept entries old new sound numbers whole =
    let count : length new ≡ length old =
    sym (length-map new (λ (page : Page). page.number)) ∙ ap length numbers ∙ length-map old (λ (page : Page). page.number) in
    record {
      no_fault = rw numbers sound.no_fault;
      few_entries = sound.few_entries;
      few_pages = rw count sound.few_pages;
      whole = whole;
    }

-- what is written to the entry in place k is what comes next
pub next_write : (numbers : List ℕ) (old new : ℕ → List ℕ) (es : List SgEntry) (k : ℕ) (d : SgEntry) (at ahead done skip count : ℕ) (from b : List ℕ)
    → AreSound numbers es → Fits old es → k < length es → done ≤ length from → at + length from ≤ length b
    → skip ≡ min ahead (get_or es k d).len → count ≡ min ((get_or es k d).len - skip) (length from - done) → total (take k es) + ahead ≡ at + done
    → Writes old new (page_number (get_or es k d).start) (place_in_page (get_or es k d).start + skip) (take count (drop done from)) count
    → flat_map (range old) es ≡ paste b at from done → flat_map (range new) es ≡ paste b at from (done + count)
next_write numbers old new es k d at ahead done skip count from b sound fits within some room skipped counted place writes so_far =
    let whole : count ≡ length (take count (drop done from)) = search (rules, places) in
    let written = written_at numbers old new es k d skip (take count (drop done from)) count sound fits within whole (omega arith) writes in
    ⊎_elim
    (λ (inside : ahead < (get_or es k d).len).
    let here : total (take k es) + skip ≡ at + done = omega arith in
    let step = paste_step b at from done count (omega arith) room in
    written ∙ rw (here, so_far) step)
    (λ (outside : (get_or es k d).len ≤ ahead).
    let none : count ≡ 0 = omega arith in
    let nothing = rw none at written in
    rw (none, add-zero) (nothing ∙ sym (paste_none (flat_map (range old) es) (total (take k es) + skip) (take 0 (drop done from))) ∙ so_far))
    (cases_lt ahead (get_or es k d).len)
