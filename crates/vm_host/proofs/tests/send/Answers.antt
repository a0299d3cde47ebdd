use Rattle.std.proofs.Common.{arith, rules}
use Rattle.v4l_const.specs.declared.model.Model.TheVariants.{Capture}
use Rattle.vm_host.proofs.FreshLemmas.{fresh_place, fresh_alone, roomy_room}
use Rattle.vm_host.proofs.tests.send.Goals as goal

pub execute-requires-clause-place : goal.execute-requires-clause-place
execute-requires-clause-place c = fresh_place Capture 64 c.in_ok-host.host _ (omega arith) c.in_ok-host.ensures

pub execute-requires-clause-alone : goal.execute-requires-clause-alone
execute-requires-clause-alone c = fresh_alone Capture 64 c.in_ok-host.host _ c.in_ok-host.ensures

pub execute-requires-clause-room : goal.execute-requires-clause-room
execute-requires-clause-room c = roomy_room _ (search rules)
