use Rattle.std.proofs.Common.{◌≡◌, ◌∙◌, ◌++◌, ℕ, List, map, length, ap}
use Rattle.std.proofs.lemmas.List.{get_or_default}
use Rattle.vm_handle.specs.Handle.{HandleState}
use Rattle.vm_guest.specs.Guest.{process_in, no_process}
use Rattle.vm_guest.specs.Process.{ProcessState}
use Rattle.vm_script.specs.Script.{ProcessLines, ScriptLines}
use Rattle.vm_report.specs.Lent.{log_in}
use Rattle.vm_report.specs.Logs.{HandleLog}
use Rattle.vm_output.specs.Printing.{handle_logs, process_logs}
use Rattle.vm_output.proofs.FitLemmas.{handles_at, next_process, next_named}
use Rattle.vm_output.proofs.LentLemmas.{processes_more, words_fit, words_count}
use Rattle.vm_output.proofs.lent.lend_handles.Goals as goal

pub lend_process-requires-clause-words : goal.lend_process-requires-clause-words
lend_process-requires-clause-words c =
    let ps : List ProcessLines = c.args.script.now.processes in
    let hs : List HandleState = c.unwrap-handles.result.now in
    let i : ℕ = c.loop-at.at in
    let same : c.deref-process-items.result.now ≡ ps = c.deref-process-items.ensures.value ∙ ap (λ (s : ScriptLines). s.processes) c.script.view_is in
    let next = next_process ps c.deref-process-items.result.now i c.process-item.result same c.loop-at-test.true c.process-item.is in
    let given = rw c.unwrap-handles.ensures at c.handles.ensures in
    let named = next_named c.args.script.now c.args.guest.now i c.process-item.result hs c.requires.driver next.0 next.1 given in
    words_fit c.args.words.now ps i (length c.loop-at.lent.items) c.process-item.result hs next.0 next.1 named c.loop-at.invariant.count

pub loop-at-preserved : goal.loop-at-preserved
loop-at-preserved c =
    let ps : List ProcessLines = c.args.script.now.processes in
    let states : List ProcessState = c.args.guest.now.processes in
    let hs : List HandleState = c.unwrap-handles.result.now in
    let i : ℕ = c.loop-at.at in
    let same : c.deref-process-items.result.now ≡ ps = c.deref-process-items.ensures.value ∙ ap (λ (s : ScriptLines). s.processes) c.script.view_is in
    let next = next_process ps c.deref-process-items.result.now i c.process-item.result same c.loop-at-test.true c.process-item.is in
    let given = rw c.unwrap-handles.ensures at c.handles.ensures in
    let at = handles_at states i hs given in
    let named = next_named c.args.script.now c.args.guest.now i c.process-item.result hs c.requires.driver next.0 next.1 given in
    let before : List HandleLog = map log_in c.loop-at.lent.items in
    let own : c.deref.result.now ≡ c.process-item.result.handles = c.deref.ensures.value ∙ ap (λ (p : ProcessLines). p.handles) c.process.view_is in
    let lent : map log_in c.lend_process.new.lent.items ≡ before ++ handle_logs i c.process-item.result.handles hs =
    c.in_ok-lend_process.ensures.logs ∙ ap (λ (names : List (List ℕ)). before ++ handle_logs i names hs) own in
    record {
      logs = processes_more ps states i c.process-item.result (process_in states i) before (map log_in c.lend_process.new.lent.items) (process_logs 0 ps states)
          next.0 at.0 next.1 (get_or_default states i no_process (process_in states i) at.0)
          (lent ∙ ap (λ (xs : List HandleState). before ++ handle_logs i c.process-item.result.handles xs) at.1) c.loop-at.invariant.logs;
      echoes = c.in_ok-lend_process.ensures.echoes;
      count = words_count c.args.words.now ps i c.process-item.result hs c.loop-at.lent.items c.lend_process.new.lent.items i next.0 next.1 named lent c.loop-at.invariant.count;
    }
