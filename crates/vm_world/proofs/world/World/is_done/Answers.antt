use Rattle.vm_world.proofs.TurnLemmas.{done_seen, more_seen, once_begun_seen, sound_seen}
use Rattle.vm_world.proofs.world.World.is_done.Goals as goal

pub returns-clause-done : goal.returns-clause-done
returns-clause-done g c = done_seen _ c.args.self.now c.is_done.result c.self.view_is c.is_done.ensures

pub returns-clause-more : goal.returns-clause-more
returns-clause-more g c = more_seen _ c.args.self.now c.is_done.result c.self.view_is c.self.invariant.0 c.is_done.ensures

pub returns-clause-sound : goal.returns-clause-sound
returns-clause-sound g c = sound_seen _ c.args.self.now c.self.view_is c.self.invariant.0

pub returns-clause-once_begun : goal.returns-clause-once_begun
returns-clause-once_begun g c = λ n busy. once_begun_seen _ c.args.self.now n c.self.view_is c.self.invariant.0 busy
