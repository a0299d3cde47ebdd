use Rattle.vm_wire.proofs.BufferLemmas.{reqbufs_read}
use Rattle.vm_wire.proofs.requests.reqbufs_in.Goals as goal

pub returns : goal.returns
returns c = reqbufs_read c.args.payload.now c.as_bytes.result.now c.read_request.result c.unwrap.result c.as_bytes.ensures.bytes c.read_request.ensures.ok c.unwrap.ensures
