use Rattle.std.proofs.Common.{rules}
use Rattle.v4l_layout.specs.Records.{buffer_fields}
use Rattle.vm_wire.proofs.event.put_buffer.Goals as goal

pub returns-clause-laid : goal.returns-clause-laid
unfolding buffer_fields
returns-clause-laid c = search rules
