use Rattle.std.proofs.Common.{◌≡◌, ◌∙◌, List, IfOk, flat_map, map, ap, refl, sym, subst}
use Rattle.std.specs.List.{AllByRecursion}
use Rattle.vm_exchange.specs.Range.{HasWords}
use Rattle.vm_guest.specs.Guest.{GuestState}
use Rattle.vm_script.specs.Lines.{echoes_by_handle}
use Rattle.vm_script.specs.Script.{ScriptLines}
use Rattle.vm_report.specs.declared.lent.HandleText.{HandleText}
use Rattle.vm_report.specs.Lent.{log_in, echoes_in}
use Rattle.vm_report.specs.Logs.{Logs}
use Rattle.vm_report.specs.Printed.{IsPrintedWith}
use Rattle.vm_report.specs.Text.{Words}
use Rattle.vm_output.specs.Printing.{process_logs, words_of}
use Rattle.vm_output.proofs.FitLemmas.{digest_legal, run_prints, logs_with, run_wire, run_logs, run_words}
use Rattle.vm_output.proofs.report.text_of_run.Goals as goal

pub wire_digest-requires : goal.wire_digest-requires
wire_digest-requires c = record {
  legal = digest_legal c.args.script.now c.args.guest.now c.script.inside.model c.in_ok-handles.handles.items c.deref-2.result.now c.requires.driver
      (ap (λ (s : ScriptLines). s.model) c.script.view_is) c.deref-2.ensures.value c.in_ok-handles.ensures.logs;
}

pub print-requires : goal.print-requires
print-requires c =
    let script : ScriptLines = c.args.script.now in
    let g : GuestState = c.args.guest.now in
    let lent : List HandleText = c.deref-3.result.now in
    let logs : map log_in lent ≡ process_logs 0 script.processes g.processes = ap (λ (hs : List HandleText). map log_in hs) c.deref-3.ensures.value ∙ c.in_ok-handles.ensures.logs in
    let words : map echoes_in lent ≡ flat_map echoes_by_handle script.processes =
    ap (λ (hs : List HandleText). map echoes_in hs) c.deref-3.ensures.value ∙ (c.in_ok-handles.ensures.words ∙ (c.deref.ensures.value ∙ c.in_ok-words.ensures)) in
    let P : List HandleText → Type 0 = λ hs. AllByRecursion (λ (h : HandleText). AllByRecursion HasWords h.entries.now) hs in
    let has : P lent = subst P (c.deref-2.ensures.value ∙ sym c.deref-3.ensures.value) c.in_ok-wire.ensures.words in
    run_prints script g _ c.requires.read c.requires.driver c.requires.done logs words refl has

pub returns : goal.returns
returns c =
    let script : ScriptLines = c.args.script.now in
    let g : GuestState = c.args.guest.now in
    let lent : List HandleText = c.deref-3.result.now in
    let logs : map log_in lent ≡ process_logs 0 script.processes g.processes = ap (λ (hs : List HandleText). map log_in hs) c.deref-3.ensures.value ∙ c.in_ok-handles.ensures.logs in
    let words : map echoes_in lent ≡ flat_map echoes_by_handle script.processes =
    ap (λ (hs : List HandleText). map echoes_in hs) c.deref-3.ensures.value ∙ (c.in_ok-handles.ensures.words ∙ (c.deref.ensures.value ∙ c.in_ok-words.ensures)) in
    let wire = run_wire script c.script.inside.model c.deref-2.result.now lent c.in_ok-wire.wire (ap (λ (s : ScriptLines). s.model) c.script.view_is)
    (c.deref-2.ensures.value ∙ sym c.deref-3.ensures.value) c.in_ok-wire.ensures.digest in
    let P : Logs → Type 0 = λ ls. IfOk c.print.result (λ text. IsPrintedWith (words_of script) text.items ls) in
    let Q : Words → Type 0 = λ ws. IfOk c.print.result (λ text. IsPrintedWith ws text.items (logs_with lent c.args.journal.now c.in_ok-wire.wire)) in
    subst P (run_logs script g c.args.journal.now lent c.in_ok-wire.wire c.requires.read logs wire) (subst Q (run_words script lent c.requires.read words) c.print.ensures)
