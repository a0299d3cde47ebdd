use Rattle.std.proofs.Common.{◌≡◌, drop}
use Rattle.vm_carrier.specs.Carrier.{written}
use Rattle.vm_carrier.proofs.carrier.spread.Given as goal

abbrev pub invariant-loop-desc : goal.invariant-loop-desc
invariant-loop-desc l = written (drop l.desc-index l.descs) l.rest l.pages ≡ written l.fn.descs l.fn.reply l.fn.pages
