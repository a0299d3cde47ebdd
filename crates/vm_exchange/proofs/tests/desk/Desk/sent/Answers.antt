use Rattle.std.proofs.Common.{◌∙◌, sym, lit<}
use Rattle.vm_exchange.proofs.FitLemmas.{crossing_fits}
use Rattle.vm_exchange.proofs.tests.desk.Desk.sent.Goals as goal

pub encode_crossing-len-requires : goal.encode_crossing-len-requires
encode_crossing-len-requires g c =
    (crossing_fits 7 c.record.result.now.local c.args.call.now c.in-Some.crossing (lit< tt) c.record.ensures.range (sym c.crossing_of.ensures ∙ c.in-Some.is)).size
