use Rattle.std.proofs.Common.{◌≡◌, ◌+◌, ◌-◌, ◌<◌, ◌≤◌, ◌∙◌, length, take, drop, sym, ⊎_elim, arith, rules}
use Rattle.std.proofs.lemmas.List.{append_assoc, places, take_all}
use Rattle.std.proofs.lemmas.Bool.{cases_lt}
use borrow.Rule.Slice.PartMut.{put_mid}
use Rattle.vm_frame.specs.declared.scatter.SgEntry.{SgEntry}
use Rattle.vm_frame.specs.Scatter.{page_bytes, scatter_bytes}
use Rattle.vm_frame.proofs.ScatterLemmas.{total, fits_of, at_fits, length-scatter_bytes}
use Rattle.vm_frame.proofs.GatherLemmas.{next_place, next_bytes}
use Rattle.vm_frame.proofs.PasteLemmas.{read_step}
use Rattle.vm_frame.proofs.gather.gather.Goals as goal

pub read_entry-filled-requires-clause-fits : goal.read_entry-filled-requires-clause-fits
read_entry-filled-requires-clause-fits c =
    at_fits (page_bytes c.args.pages.now) c.args.entries.now c.entries.i c.entries-test.true _ (fits_of c.args.entries.now c.args.pages.now c.requires.sound)

pub entries-preserved : goal.entries-preserved
entries-preserved c =
    let d : SgEntry = record { start = 0; len = 0 } in
    let left = take (length c.entries.into - c.entries.filled) (drop c.entries.filled c.entries.into) in
    let left_len : length left ≡ length c.entries.into - c.entries.filled = search (rules, places) in
    let place : total (take c.entries.i c.args.entries.now) + c.entries.ahead ≡ c.args.at + c.entries.filled =
    c.entries.invariant.next (omega arith) in
    let fits = fits_of c.args.entries.now c.args.pages.now c.requires.sound in
    let bytes = next_bytes (page_bytes c.args.pages.now) c.args.entries.now c.entries.i d c.args.at c.entries.ahead c.entries.filled
    c.min-skip.result c.read_entry-filled.result (length left) fits c.entries-test.true c.min-skip.ensures c.read_entry-filled.ensures.count place in
    record {
      within = search (rules, places);
      next = λ more. next_place c.args.entries.now c.entries.i d c.args.at c.entries.ahead c.entries.filled
          c.min-skip.result c.read_entry-filled.result (length left) c.entries-test.true c.min-skip.ensures c.read_entry-filled.ensures.count place
          (let whole : length (put_mid c.entries.filled (length c.entries.into - c.entries.filled) c.entries.into c.read_entry-filled.new.into) ≡ length c.entries.into = search (rules, places) in omega arith);
      filled = rw (c.read_entry-filled.ensures.read, append_assoc) (read_step (scatter_bytes c.args.entries.now c.args.pages.now) c.entries.into _ _ c.args.at c.entries.filled
          c.read_entry-filled.result c.entries.invariant.within (omega arith) c.entries.invariant.filled bytes);
    }

pub returns : goal.returns
returns c =
    let size = length-scatter_bytes c.args.entries.now c.args.pages.now c.requires.sound in
    let seen : take c.entries.i c.args.entries.now ≡ c.args.entries.now = take_all _ c.args.entries.now c.entries-test.false in
    let full : length c.entries.into ≤ c.entries.filled = ⊎_elim
    (λ (more : c.entries.filled < length c.entries.into).
    let place = rw seen at (c.entries.invariant.next more) in absurd (omega arith))
    (λ (full : length c.entries.into ≤ c.entries.filled). full)
    (cases_lt c.entries.filled (length c.entries.into)) in
    let same : c.entries.filled ≡ length c.args.into.now = omega arith in
    rw (← same) (sym (take_all c.entries.filled c.entries.into full) ∙ c.entries.invariant.filled)
