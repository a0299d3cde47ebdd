use Rattle.vm_wire.proofs.BufferLemmas.{buffer_read}
use Rattle.vm_wire.proofs.requests.buffer_in.Goals as goal

pub returns : goal.returns
returns c = buffer_read c.args.payload.now c.as_bytes.result.now c.read_buffer.result c.unwrap.result c.as_bytes.ensures.bytes c.read_buffer.ensures.ok c.unwrap.ensures
