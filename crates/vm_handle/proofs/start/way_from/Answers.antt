use Rattle.std.proofs.Common.{◌∙◌, sym, ap, subst}
use Rattle.vm_local.specs.State.{LocalState}
use Rattle.vm_log.specs.LegalLog.{state_of}
use Rattle.vm_exchange.specs.Exchange.{way_of}
use Rattle.vm_exchange.specs.Range.{IsRecord}
use Rattle.vm_exchange.proofs.RecordLemmas.{record_of, same_way}
use Rattle.vm_handle.proofs.start.way_from.Goals as goal

pub way_of-requires : goal.way_of-requires
way_of-requires c = subst IsRecord (sym c.record.ensures) (record_of (state_of c.args.log.now) c.requires)

pub returns-clause-way : goal.returns-clause-way
returns-clause-way c =
    c.way_of.ensures
    ∙ (ap (λ (s : LocalState). way_of c.unwrap_or.result s c.args.call.now) c.record.ensures
    ∙ (same_way c.unwrap_or.result (state_of c.args.log.now) c.args.call.now
    ∙ ap (λ id. way_of id (state_of c.args.log.now) c.args.call.now) c.unwrap_or.ensures))
