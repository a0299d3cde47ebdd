use Rattle.vm_guest.proofs.ChainLemmas.{tables_fresh}
use Rattle.vm_guest.proofs.caller.Caller.new.Goals as goal

pub invariant_of-result : goal.invariant_of-result
invariant_of-result c = record {
  at_home = c.in_ok-make_chain.ensures;
  ready = tables_fresh c.args.number c.process.inside.lines.items c.deref.result.now c.deref-2.result.now _ _ c.deref.ensures.value c.deref-2.ensures.value c.in_ok-make_statements.ensures c.in_ok-make_tables.ensures;
  own = tt;
}
