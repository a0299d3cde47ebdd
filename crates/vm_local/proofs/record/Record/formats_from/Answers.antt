use Rattle.std.proofs.Common.{ap}
use Rattle.vm_local.specs.Record.{RecordState}
use Rattle.v4l_rules.proofs.ModelLemmas.{source_within, target_within}
use Rattle.vm_local.proofs.record.Record.formats_from.Goals as goal

pub formats-requires-clause-first : goal.formats-requires-clause-first
formats-requires-clause-first c =
    source_within c.self.inside.model c.args.self.now.local.model c.queues-types.result.now c.args.source _ _ (ap (λ (r : RecordState). r.local.model) c.self.view_is)
    c.queues-types.ensures c.place_in-first.ensures c.self.invariant.1.0 c.requires

pub formats-requires-clause-second : goal.formats-requires-clause-second
formats-requires-clause-second c =
    target_within c.self.inside.model c.queues-types.result.now c.picture_queue.result _ _
    c.queues-types.ensures c.picture_queue.ensures c.place_in-second.ensures c.self.invariant.1.0
