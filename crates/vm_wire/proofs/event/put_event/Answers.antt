use Rattle.std.proofs.Common.{rules}
use Rattle.v4l_layout.specs.Records.{event_fields}
use Rattle.vm_wire.proofs.event.put_event.Goals as goal

pub returns-clause-laid : goal.returns-clause-laid
unfolding event_fields
returns-clause-laid c = search rules
