use Rattle.std.proofs.Common.{ℕ, List, ◌++◌, ap, flat_map, ◌∙◌}
use Rattle.std.specs.List.{range_with_len}
use Rattle.vm_report.specs.Printing.{own_text}
use Rattle.vm_report.proofs.PrinterLemmas.{printed_whole, three_parts}
use Rattle.vm_report.proofs.printer.print.Goals as goal

pub returns : goal.returns
returns c =
    let own : List ℕ = flat_map (own_text c.args.logs.now.handles.now c.args.logs.now.raws.now) (range_with_len 0 16) in
    printed_whole c.args.logs.now c.push_wire.new.text.items c.requires
    (three_parts c.args.logs.now c.push_processes.new.text.items c.push_journal.new.text.items c.push_wire.new.text.items
    (c.in_ok-push_processes.ensures.text ∙ ap (λ before. before ++ own) c.new-text.ensures.items) c.in_ok-push_journal.ensures.text c.in_ok-push_wire.ensures.text)
    c.in_ok-push_processes.ensures.handles c.in_ok-push_processes.ensures.raws c.in_ok-push_journal.ensures.fits c.in_ok-push_wire.ensures.fits
