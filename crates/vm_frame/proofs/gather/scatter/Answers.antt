use Rattle.std.proofs.Common.{◌≡◌, ◌+◌, ◌-◌, ◌<◌, ◌≤◌, ◌∙◌, length, get_or, take, drop, map, min, sym, ⊎_elim, arith, rules}
use Rattle.std.proofs.lemmas.Bool.{cases_lt}
use Rattle.std.proofs.lemmas.List.{places, take_all, take_rest}
use Rattle.std.proofs.lemmas.List.Edits.{paste_all}
use Rattle.vm_mem.specs.Page.{page_number, place_in_page}
use Rattle.vm_mem.specs.declared.page.Page.{Page}
use Rattle.vm_frame.specs.declared.scatter.SgEntry.{SgEntry}
use Rattle.vm_frame.specs.Scatter.{page_bytes, scatter_bytes}
use Rattle.vm_frame.proofs.ScatterLemmas.{total, Writes, sound_of, fits_of, at_fits, at_in_page, length-scatter_bytes}
use Rattle.vm_frame.proofs.GatherLemmas.{next_place, sound_kept, next_write}
use Rattle.vm_frame.proofs.gather.scatter.Goals as goal

pub write_entry-written-requires-clause-fits : goal.write_entry-written-requires-clause-fits
write_entry-written-requires-clause-fits c =
    at_fits (page_bytes c.entries.pages) c.args.entries.now c.entries.i c.entries-test.true _ (fits_of c.args.entries.now c.entries.pages c.entries.invariant.sound)

pub write_entry-written-requires-clause-in_a_page : goal.write_entry-written-requires-clause-in_a_page
write_entry-written-requires-clause-in_a_page c =
    at_in_page (map (λ (page : Page). page.number) c.entries.pages) c.args.entries.now c.entries.i c.entries-test.true _ (sound_of c.args.entries.now c.entries.pages c.entries.invariant.sound)

pub entries-preserved : goal.entries-preserved
entries-preserved c =
    let d : SgEntry = record { start = 0; len = 0 } in
    let entry = get_or c.args.entries.now c.entries.i d in
    let pages = c.entries.pages in
    let count = c.write_entry-written.result in
    let next = drop c.entries.written c.args.from.now in
    let left : take (length c.args.from.now - c.entries.written) next ≡ next = take_rest c.args.from.now c.entries.written in
    let next_len : length next ≡ length c.args.from.now - c.entries.written = search (rules, places) in
    let counted : count ≡ min (entry.len - c.min-skip.result) (length c.args.from.now - c.entries.written) =
    rw (← next_len, ← left) c.write_entry-written.ensures.count in
    let place : total (take c.entries.i c.args.entries.now) + c.entries.ahead ≡ c.args.at + c.entries.written =
    c.entries.invariant.next (omega arith) in
    let whole : count ≡ length (take count next) = search (rules, places) in
    let here = rw left at c.write_entry-written.ensures.here in
    let writes : Writes (page_bytes pages) (page_bytes c.write_entry-written.new.pages) (page_number entry.start) (place_in_page entry.start + c.min-skip.result) (take count next) count =
    record {
      here = here ∙ sym (paste_all (page_bytes pages (page_number entry.start)) (place_in_page entry.start + c.min-skip.result) (take count next) count whole);
      others = c.write_entry-written.ensures.others;
    } in
    record {
      sound = sound_kept c.args.entries.now pages c.write_entry-written.new.pages c.entries.invariant.sound c.write_entry-written.ensures.numbers c.write_entry-written.ensures.whole;
      numbers = c.write_entry-written.ensures.numbers ∙ c.entries.invariant.numbers;
      within = omega arith;
      next = λ more. next_place c.args.entries.now c.entries.i d c.args.at c.entries.ahead c.entries.written
          c.min-skip.result count (length c.args.from.now - c.entries.written) c.entries-test.true c.min-skip.ensures counted place (omega arith);
      bytes = next_write (map (λ (page : Page). page.number) pages) (page_bytes pages) (page_bytes c.write_entry-written.new.pages) c.args.entries.now c.entries.i d
          c.args.at c.entries.ahead c.entries.written c.min-skip.result count c.args.from.now (scatter_bytes c.args.entries.now c.args.pages.now)
          (sound_of c.args.entries.now pages c.entries.invariant.sound) (fits_of c.args.entries.now pages c.entries.invariant.sound) c.entries-test.true
          c.entries.invariant.within c.requires.within c.min-skip.ensures counted place writes c.entries.invariant.bytes;
    }

pub returns-clause-bytes : goal.returns-clause-bytes
returns-clause-bytes c =
    let size = length-scatter_bytes c.args.entries.now c.args.pages.now c.requires.sound in
    let seen : take c.entries.i c.args.entries.now ≡ c.args.entries.now = take_all _ c.args.entries.now c.entries-test.false in
    let full : length c.args.from.now ≤ c.entries.written = ⊎_elim
    (λ (more : c.entries.written < length c.args.from.now).
    let place = rw seen at (c.entries.invariant.next more) in absurd (omega arith))
    (λ (full : length c.args.from.now ≤ c.entries.written). full)
    (cases_lt c.entries.written (length c.args.from.now)) in
    let same : c.entries.written ≡ length c.args.from.now = omega arith in
    rw (← same) (c.entries.invariant.bytes ∙ paste_all (scatter_bytes c.args.entries.now c.args.pages.now) c.args.at c.args.from.now c.entries.written same)
