use Rattle.vm_report.proofs.ReadbackLemmas.{gives_printed, gives_none}
use Rattle.vm_report.proofs.readback.logs_of.Goals as goal

pub returns-clause-printed : goal.returns-clause-printed
returns-clause-printed c = gives_printed c.args.text.now c.read.result c.read.ensures

pub returns-clause-not_printed : goal.returns-clause-not_printed
returns-clause-not_printed c = gives_none c.args.text.now c.read.result c.read.ensures
