use Rattle.std.proofs.Common.{map, refl}
use Rattle.vm_script.specs.Reading.{Fits32}
use Rattle.vm_report.specs.Lent.{log_in, echoes_in, raw_log_in, raw_echo_in}
use Rattle.vm_report.specs.Printing.{NumbersFit, own_text}
use Rattle.vm_report.specs.Text.{handles_text, raws_text}
use Rattle.vm_report.proofs.PrinterLemmas.{next_process, text_more}
use Rattle.vm_report.proofs.printer.push_processes.Goals as goal

pub loop-process-preserved : goal.loop-process-preserved
loop-process-preserved c = record {
  printed = text_more (own_text c.args.handles.now c.args.raws.now) c.loop-process.process c.args.text.now.items c.loop-process.text.items c.push_handles.new.text.items c.push_raws.new.text.items
      (handles_text c.loop-process.process (map log_in c.args.handles.now) (map echoes_in c.args.handles.now))
      (raws_text c.loop-process.process (map raw_log_in c.args.raws.now) (map raw_echo_in c.args.raws.now))
      c.loop-process.invariant.printed c.in_ok-push_handles.ensures.text c.in_ok-push_raws.ensures.text refl;
  handles = next_process NumbersFit (λ h. h.process) c.loop-process.process c.args.handles.now c.loop-process.invariant.handles c.in_ok-push_handles.ensures.fits;
  raws = next_process (λ r. Fits32 r.line) (λ r. r.process) c.loop-process.process c.args.raws.now c.loop-process.invariant.raws c.in_ok-push_raws.ensures.fits;
}
