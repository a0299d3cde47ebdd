use Rattle.std.proofs.Common.{◌≡◌, ◌++◌, ◌∙◌, length, take, drop, refl, ap, arith}
use Rattle.std.proofs.lemmas.List.{length-take-le}
use Rattle.vm_mem.specs.Page.{page_number, place_in_page}
use Rattle.vm_frame.specs.Scatter.{page_bytes}
use Rattle.vm_frame.proofs.PasteLemmas.{read_within}
use Rattle.vm_frame.proofs.gather.read_entry.Goals as goal

pub returns-clause-read : goal.returns-clause-read
returns-clause-read c =
    let e = c.args.entry in
    let read = read_within (page_bytes c.args.pages.now (page_number e.start)) (place_in_page e.start) e.len c.args.skip c.min-count.result (omega arith) c.requires.fits in
    let taken : length (take c.min-count.result c.args.into.now) ≡ c.min-count.result = length-take-le _ c.args.into.now (omega arith) in
    ap (λ part. part ++ drop c.min-count.result c.args.into.now) (c.read_page.ensures ∙ (rw (taken, c.from-page_size.ensures) refl ∙ read))
