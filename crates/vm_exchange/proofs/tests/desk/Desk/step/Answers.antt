use Rattle.std.proofs.Common.{◌≡◌, true, Some, arith}
use Rattle.std.proofs.lemmas.Grind.{common_steps}
use Rattle.vm_local.specs.Log.{after}
use Rattle.vm_exchange.proofs.RangeLemmas.{after_in_range}
use Rattle.vm_exchange.proofs.tests.desk.Desk.step.Goals as goal

pub invariant_of-self-2 : goal.invariant_of-self-2
invariant_of-self-2 g c =
    let legal : c.in_ok-legal.legal ≡ true = grind (arith, common_steps) in
    let goes : after c.self.inside.local c.args.entry.now ≡ Some c.advance.new.local = (c.in_ok-legal.ensures).goes legal in (
      c.after.ensures.moves c.self.inside.local c.advance.new.local c.self.invariant.0 goes,
      after_in_range c.self.inside.local c.advance.new.local c.args.entry.now c.self.invariant.1 c.fits.ensures goes,
    )
