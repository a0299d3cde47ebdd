use Rattle.vm_realm.proofs.EachLemmas.{each_keeps, keeps_whole, runs_end, runs_sound, step_sound}
use Rattle.vm_realm.proofs.laws.steps_keep_the_world_sound.Goals as goal

pub returns-clause-sound : goal.returns-clause-sound
returns-clause-sound c = each_keeps

pub returns-clause-whole : goal.returns-clause-whole
returns-clause-whole c = keeps_whole

pub returns-clause-each : goal.returns-clause-each
returns-clause-each c = step_sound

pub returns-clause-runs : goal.returns-clause-runs
returns-clause-runs c = runs_sound

pub returns-clause-end : goal.returns-clause-end
returns-clause-end c = runs_end
