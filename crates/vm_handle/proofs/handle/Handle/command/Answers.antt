use Rattle.std.proofs.Common.{◌∙◌, sym}
use Rattle.vm_log.specs.LegalLog.{state_of}
use Rattle.vm_exchange.proofs.FitLemmas.{crossing_fits}
use Rattle.vm_handle.specs.Handle.{id_of}
use Rattle.vm_handle.proofs.StartLemmas.{crossed}
use Rattle.vm_handle.proofs.handle.Handle.command.Goals as goal

pub returns-in-Crosses-clause-fits : goal.returns-in-Crosses-clause-fits
returns-in-Crosses-clause-fits c =
    (crossing_fits (id_of c.self.inside.session) (state_of c.self.inside.log) c.args.call.now c.in-Crosses.crossing c.way_from.ensures.short c.self.invariant.range
    (crossed (id_of c.self.inside.session) (state_of c.self.inside.log) c.args.call.now c.in-Crosses.crossing (sym c.way_from.ensures.way ∙ c.in-Crosses.is))).command
