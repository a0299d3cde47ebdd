use Rattle.vm_wire.proofs.BufferLemmas.{subscription_read}
use Rattle.vm_wire.proofs.requests.subscription_in.Goals as goal

pub returns : goal.returns
returns c = subscription_read c.args.payload.now c.as_bytes.result.now c.read_subscription.result c.unwrap.result c.as_bytes.ensures.bytes c.read_subscription.ensures.ok c.unwrap.ensures
