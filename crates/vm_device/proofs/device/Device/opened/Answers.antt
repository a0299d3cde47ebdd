use Rattle.std.proofs.Common.{arith}
use Rattle.vm_device.proofs.device.Device.opened.Goals as goal

pub opened-requires : goal.opened-requires
opened-requires c = omega (arith, c.self.invariant.0.few, c.self.invariant.0.small)
