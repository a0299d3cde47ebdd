use Rattle.std.proofs.Common.{◌≡◌, drop, map}
use Rattle.std.specs.List.{list_any}
use Rattle.vm_mem.specs.Page.{lies_in_page}
use Rattle.vm_sg.proofs.faults.lies_in_one.Given as goal

abbrev pub invariant-loop-page : goal.invariant-loop-page
invariant-loop-page l =
    list_any (lies_in_page l.entry.start l.entry.len) (map (λ page. page.number) l.pages)
    ≡ list_any (lies_in_page l.entry.start l.entry.len) (map (λ page. page.number) (drop l.page-index l.pages))
