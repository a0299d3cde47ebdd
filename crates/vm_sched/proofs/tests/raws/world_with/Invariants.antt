use Rattle.vm_realm.specs.Sound.{IsRunnable}
use Rattle.vm_sched.proofs.tests.raws.world_with.Given as goal

-- each script so far can be run
abbrev pub invariant-raws : goal.invariant-raws
invariant-raws l = record { runs : IsRunnable l.script }
