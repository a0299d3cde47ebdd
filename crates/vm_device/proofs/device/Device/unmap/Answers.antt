use Rattle.vm_device.proofs.MappingLemmas.{unmap_fits}
use Rattle.vm_device.proofs.StepLemmas.{region_sound}
use Rattle.vm_device.proofs.device.Device.unmap.Goals as goal

pub invariant_of-self : goal.invariant_of-self
invariant_of-self c = (
  region_sound _ c.unmap.new.self c.self.invariant.0
      (unmap_fits c.self.inside.sessions c.self.inside.region c.unmap.new.self _ c.unmap.result c.self.invariant.0.fits
      c.unmap.ensures.refused c.unmap.ensures.own c.unmap.ensures.ok c.unmap.ensures.err),
  c.self.invariant.1,
  c.self.invariant.2,
  c.self.invariant.3,
)
