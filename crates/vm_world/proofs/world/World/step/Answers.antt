use Rattle.vm_realm.specs.declared.step.Step.TheVariants.{Issue, Execute, Resume, Announce, Collect, Pump}
use Rattle.vm_world.specs.Carried.{world_of}
use Rattle.vm_world.proofs.DeviceLemmas.{executes_over, resumes_over, announces_over}
use Rattle.vm_world.proofs.DriverLemmas.{issues_over, collects_over, pumps_over}
use Rattle.vm_world.proofs.RequiresLemmas.{has_place, is_alone, has_room_for, its_chain_is_out, is_ready_for, has_room_for_one, can_issue_here, can_collect_here, can_pump}
use Rattle.vm_world.proofs.SentLemmas.{sent_named}
use Rattle.vm_world.proofs.TurnLemmas.{turned_sound, turned_seen, turned_falls}
use Rattle.vm_realm.proofs.EachLemmas.{step_sound}
use Rattle.vm_world.proofs.GoOnLemmas.{can_go_on}
use Rattle.vm_world.proofs.world.World.step.Goals as goal

pub issue-requires : goal.issue-requires
issue-requires g c = can_issue_here c.in-Issue.p c.self.inside.script c.self.inside.guest c.self.inside.host (g.L.Link.queues c.self.inside.link) c.self.invariant.1 c.self.invariant.0.1.quiet (can_go_on (world_of c.self.inside.script c.self.inside.guest c.self.inside.host (g.L.Link.queues c.self.inside.link)) c.self.invariant.0)

pub execute-requires-clause-place : goal.execute-requires-clause-place
execute-requires-clause-place g c = has_place c.self.inside.script c.self.inside.guest c.self.inside.host (g.L.Link.queues c.self.inside.link) (can_go_on (world_of c.self.inside.script c.self.inside.guest c.self.inside.host (g.L.Link.queues c.self.inside.link)) c.self.invariant.0)

pub execute-requires-clause-alone : goal.execute-requires-clause-alone
execute-requires-clause-alone g c = is_alone c.self.inside.script c.self.inside.guest c.self.inside.host (g.L.Link.queues c.self.inside.link) (can_go_on (world_of c.self.inside.script c.self.inside.guest c.self.inside.host (g.L.Link.queues c.self.inside.link)) c.self.invariant.0)

pub execute-requires-clause-room : goal.execute-requires-clause-room
execute-requires-clause-room g c = has_room_for c.self.inside.guest c.self.inside.host (g.L.Link.queues c.self.inside.link) c.self.invariant.1

pub execute-requires-clause-frames : goal.execute-requires-clause-frames
execute-requires-clause-frames g c = (can_go_on (world_of c.self.inside.script c.self.inside.guest c.self.inside.host (g.L.Link.queues c.self.inside.link)) c.self.invariant.0).frames

pub resume-requires-clause-out : goal.resume-requires-clause-out
resume-requires-clause-out g c = its_chain_is_out c.in-Resume.session c.self.inside.guest c.self.inside.host (g.L.Link.queues c.self.inside.link) c.self.invariant.1

pub resume-requires-clause-frames : goal.resume-requires-clause-frames
resume-requires-clause-frames g c = (can_go_on (world_of c.self.inside.script c.self.inside.guest c.self.inside.host (g.L.Link.queues c.self.inside.link)) c.self.invariant.0).frames

pub announce-requires-clause-chain : goal.announce-requires-clause-chain
announce-requires-clause-chain g c = is_ready_for c.self.inside.guest c.self.inside.host (g.L.Link.queues c.self.inside.link) c.self.invariant.1

pub announce-requires-clause-room : goal.announce-requires-clause-room
announce-requires-clause-room g c = has_room_for_one c.self.inside.guest c.self.inside.host (g.L.Link.queues c.self.inside.link) c.self.invariant.1

pub collect-requires : goal.collect-requires
collect-requires g c = can_collect_here c.self.inside.script c.self.inside.guest c.self.inside.host (g.L.Link.queues c.self.inside.link) c.self.invariant.1 (can_go_on (world_of c.self.inside.script c.self.inside.guest c.self.inside.host (g.L.Link.queues c.self.inside.link)) c.self.invariant.0)

pub pump-requires : goal.pump-requires
pump-requires g c = can_pump c.self.inside.script c.self.inside.guest c.self.inside.host (g.L.Link.queues c.self.inside.link) c.self.invariant.1 (can_go_on (world_of c.self.inside.script c.self.inside.guest c.self.inside.host (g.L.Link.queues c.self.inside.link)) c.self.invariant.0)

pub invariant_of-self : goal.invariant_of-self
invariant_of-self g c = (
    let is = issues_over c.self.inside.script c.in-Issue.p c.self.inside.guest c.issue.new.self c.self.inside.host (g.L.Link.queues c.self.inside.link) (g.L.Link.queues c.issue.new.link) c.issue.result c.self.invariant.1 c.self.invariant.0.1.lines c.issue.ensures.issues in (turned_sound step_sound c.issue.result (world_of c.self.inside.script c.self.inside.guest c.self.inside.host (g.L.Link.queues c.self.inside.link)) (world_of c.self.inside.script c.issue.new.self c.self.inside.host (g.L.Link.queues c.issue.new.link)) (Issue c.in-Issue.p) c.self.invariant.0 is.turns, is.carried))

pub returns-in-Issue-clause-steps : goal.returns-in-Issue-clause-steps
returns-in-Issue-clause-steps g c = (
    let is = issues_over c.self.inside.script c.in-Issue.p c.self.inside.guest c.issue.new.self c.self.inside.host (g.L.Link.queues c.self.inside.link) (g.L.Link.queues c.issue.new.link) c.issue.result c.self.invariant.1 c.self.invariant.0.1.lines c.issue.ensures.issues in turned_seen c.issue.result (world_of c.self.inside.script c.self.inside.guest c.self.inside.host (g.L.Link.queues c.self.inside.link)) c.args.self.now (world_of c.self.inside.script c.issue.new.self c.self.inside.host (g.L.Link.queues c.issue.new.link)) (Issue c.in-Issue.p) c.args.step c.self.view_is c.in-Issue.is is.turns)

pub returns-in-Issue-clause-falls : goal.returns-in-Issue-clause-falls
returns-in-Issue-clause-falls g c = (
    let is = issues_over c.self.inside.script c.in-Issue.p c.self.inside.guest c.issue.new.self c.self.inside.host (g.L.Link.queues c.self.inside.link) (g.L.Link.queues c.issue.new.link) c.issue.result c.self.invariant.1 c.self.invariant.0.1.lines c.issue.ensures.issues in turned_falls c.issue.result (world_of c.self.inside.script c.self.inside.guest c.self.inside.host (g.L.Link.queues c.self.inside.link)) c.args.self.now (world_of c.self.inside.script c.issue.new.self c.self.inside.host (g.L.Link.queues c.issue.new.link)) (Issue c.in-Issue.p) c.self.view_is c.self.invariant.0 is.turns)

pub invariant_of-self-in-Execute : goal.invariant_of-self-in-Execute
invariant_of-self-in-Execute g c = (
    let is = executes_over c.self.inside.script c.self.inside.guest c.self.inside.host c.execute.new.self (g.L.Link.queues c.self.inside.link) (g.L.Link.queues c.execute.new.link) c.execute.result c.self.invariant.1 c.execute.ensures.executes c.execute.ensures.events in (turned_sound step_sound c.execute.result (world_of c.self.inside.script c.self.inside.guest c.self.inside.host (g.L.Link.queues c.self.inside.link)) (world_of c.self.inside.script c.self.inside.guest c.execute.new.self (g.L.Link.queues c.execute.new.link)) Execute c.self.invariant.0 is.turns, is.carried))

pub returns-in-Execute-clause-steps : goal.returns-in-Execute-clause-steps
returns-in-Execute-clause-steps g c = (
    let is = executes_over c.self.inside.script c.self.inside.guest c.self.inside.host c.execute.new.self (g.L.Link.queues c.self.inside.link) (g.L.Link.queues c.execute.new.link) c.execute.result c.self.invariant.1 c.execute.ensures.executes c.execute.ensures.events in turned_seen c.execute.result (world_of c.self.inside.script c.self.inside.guest c.self.inside.host (g.L.Link.queues c.self.inside.link)) c.args.self.now (world_of c.self.inside.script c.self.inside.guest c.execute.new.self (g.L.Link.queues c.execute.new.link)) Execute c.args.step c.self.view_is c.in-Execute.is is.turns)

pub returns-in-Execute-clause-falls : goal.returns-in-Execute-clause-falls
returns-in-Execute-clause-falls g c = (
    let is = executes_over c.self.inside.script c.self.inside.guest c.self.inside.host c.execute.new.self (g.L.Link.queues c.self.inside.link) (g.L.Link.queues c.execute.new.link) c.execute.result c.self.invariant.1 c.execute.ensures.executes c.execute.ensures.events in turned_falls c.execute.result (world_of c.self.inside.script c.self.inside.guest c.self.inside.host (g.L.Link.queues c.self.inside.link)) c.args.self.now (world_of c.self.inside.script c.self.inside.guest c.execute.new.self (g.L.Link.queues c.execute.new.link)) Execute c.self.view_is c.self.invariant.0 is.turns)

pub invariant_of-self-in-Resume : goal.invariant_of-self-in-Resume
invariant_of-self-in-Resume g c = (
    let is = resumes_over c.self.inside.script c.in-Resume.session c.self.inside.guest c.self.inside.host c.resume.new.self (g.L.Link.queues c.self.inside.link) (g.L.Link.queues c.resume.new.link) c.resume.result c.self.invariant.1 c.resume.ensures.resumes c.resume.ensures.events in (turned_sound step_sound c.resume.result (world_of c.self.inside.script c.self.inside.guest c.self.inside.host (g.L.Link.queues c.self.inside.link)) (world_of c.self.inside.script c.self.inside.guest c.resume.new.self (g.L.Link.queues c.resume.new.link)) (Resume c.in-Resume.session) c.self.invariant.0 is.turns, is.carried))

pub returns-in-Resume-clause-steps : goal.returns-in-Resume-clause-steps
returns-in-Resume-clause-steps g c = (
    let is = resumes_over c.self.inside.script c.in-Resume.session c.self.inside.guest c.self.inside.host c.resume.new.self (g.L.Link.queues c.self.inside.link) (g.L.Link.queues c.resume.new.link) c.resume.result c.self.invariant.1 c.resume.ensures.resumes c.resume.ensures.events in turned_seen c.resume.result (world_of c.self.inside.script c.self.inside.guest c.self.inside.host (g.L.Link.queues c.self.inside.link)) c.args.self.now (world_of c.self.inside.script c.self.inside.guest c.resume.new.self (g.L.Link.queues c.resume.new.link)) (Resume c.in-Resume.session) c.args.step c.self.view_is c.in-Resume.is is.turns)

pub returns-in-Resume-clause-falls : goal.returns-in-Resume-clause-falls
returns-in-Resume-clause-falls g c = (
    let is = resumes_over c.self.inside.script c.in-Resume.session c.self.inside.guest c.self.inside.host c.resume.new.self (g.L.Link.queues c.self.inside.link) (g.L.Link.queues c.resume.new.link) c.resume.result c.self.invariant.1 c.resume.ensures.resumes c.resume.ensures.events in turned_falls c.resume.result (world_of c.self.inside.script c.self.inside.guest c.self.inside.host (g.L.Link.queues c.self.inside.link)) c.args.self.now (world_of c.self.inside.script c.self.inside.guest c.resume.new.self (g.L.Link.queues c.resume.new.link)) (Resume c.in-Resume.session) c.self.view_is c.self.invariant.0 is.turns)

pub invariant_of-self-in-Announce : goal.invariant_of-self-in-Announce
invariant_of-self-in-Announce g c = (
    let is = announces_over c.self.inside.script c.self.inside.guest c.self.inside.host c.announce.new.self (g.L.Link.queues c.self.inside.link) (g.L.Link.queues c.announce.new.link) c.announce.result c.self.invariant.1 (λ d goes. sent_named _ d _ c.self.invariant.0 goes) c.announce.ensures.announces c.announce.ensures.commands in (turned_sound step_sound c.announce.result (world_of c.self.inside.script c.self.inside.guest c.self.inside.host (g.L.Link.queues c.self.inside.link)) (world_of c.self.inside.script c.self.inside.guest c.announce.new.self (g.L.Link.queues c.announce.new.link)) Announce c.self.invariant.0 is.turns, is.carried))

pub returns-in-Announce-clause-steps : goal.returns-in-Announce-clause-steps
returns-in-Announce-clause-steps g c = (
    let is = announces_over c.self.inside.script c.self.inside.guest c.self.inside.host c.announce.new.self (g.L.Link.queues c.self.inside.link) (g.L.Link.queues c.announce.new.link) c.announce.result c.self.invariant.1 (λ d goes. sent_named _ d _ c.self.invariant.0 goes) c.announce.ensures.announces c.announce.ensures.commands in turned_seen c.announce.result (world_of c.self.inside.script c.self.inside.guest c.self.inside.host (g.L.Link.queues c.self.inside.link)) c.args.self.now (world_of c.self.inside.script c.self.inside.guest c.announce.new.self (g.L.Link.queues c.announce.new.link)) Announce c.args.step c.self.view_is c.in-Announce.is is.turns)

pub returns-in-Announce-clause-falls : goal.returns-in-Announce-clause-falls
returns-in-Announce-clause-falls g c = (
    let is = announces_over c.self.inside.script c.self.inside.guest c.self.inside.host c.announce.new.self (g.L.Link.queues c.self.inside.link) (g.L.Link.queues c.announce.new.link) c.announce.result c.self.invariant.1 (λ d goes. sent_named _ d _ c.self.invariant.0 goes) c.announce.ensures.announces c.announce.ensures.commands in turned_falls c.announce.result (world_of c.self.inside.script c.self.inside.guest c.self.inside.host (g.L.Link.queues c.self.inside.link)) c.args.self.now (world_of c.self.inside.script c.self.inside.guest c.announce.new.self (g.L.Link.queues c.announce.new.link)) Announce c.self.view_is c.self.invariant.0 is.turns)

pub invariant_of-self-in-Collect : goal.invariant_of-self-in-Collect
invariant_of-self-in-Collect g c = (
    let is = collects_over c.self.inside.script c.self.inside.guest c.collect.new.self c.self.inside.host (g.L.Link.queues c.self.inside.link) (g.L.Link.queues c.collect.new.link) c.collect.result c.self.invariant.1 c.self.invariant.0.1.quiet c.collect.ensures.collects in (turned_sound step_sound c.collect.result (world_of c.self.inside.script c.self.inside.guest c.self.inside.host (g.L.Link.queues c.self.inside.link)) (world_of c.self.inside.script c.collect.new.self c.self.inside.host (g.L.Link.queues c.collect.new.link)) Collect c.self.invariant.0 is.turns, is.carried))

pub returns-in-Collect-clause-steps : goal.returns-in-Collect-clause-steps
returns-in-Collect-clause-steps g c = (
    let is = collects_over c.self.inside.script c.self.inside.guest c.collect.new.self c.self.inside.host (g.L.Link.queues c.self.inside.link) (g.L.Link.queues c.collect.new.link) c.collect.result c.self.invariant.1 c.self.invariant.0.1.quiet c.collect.ensures.collects in turned_seen c.collect.result (world_of c.self.inside.script c.self.inside.guest c.self.inside.host (g.L.Link.queues c.self.inside.link)) c.args.self.now (world_of c.self.inside.script c.collect.new.self c.self.inside.host (g.L.Link.queues c.collect.new.link)) Collect c.args.step c.self.view_is c.in-Collect.is is.turns)

pub returns-in-Collect-clause-falls : goal.returns-in-Collect-clause-falls
returns-in-Collect-clause-falls g c = (
    let is = collects_over c.self.inside.script c.self.inside.guest c.collect.new.self c.self.inside.host (g.L.Link.queues c.self.inside.link) (g.L.Link.queues c.collect.new.link) c.collect.result c.self.invariant.1 c.self.invariant.0.1.quiet c.collect.ensures.collects in turned_falls c.collect.result (world_of c.self.inside.script c.self.inside.guest c.self.inside.host (g.L.Link.queues c.self.inside.link)) c.args.self.now (world_of c.self.inside.script c.collect.new.self c.self.inside.host (g.L.Link.queues c.collect.new.link)) Collect c.self.view_is c.self.invariant.0 is.turns)

pub invariant_of-self-in-Pump : goal.invariant_of-self-in-Pump
invariant_of-self-in-Pump g c = (
    let is = pumps_over c.self.inside.script c.self.inside.guest c.pump.new.self c.self.inside.host (g.L.Link.queues c.self.inside.link) (g.L.Link.queues c.pump.new.link) c.pump.result c.self.invariant.1 c.pump.ensures.pumps in (turned_sound step_sound c.pump.result (world_of c.self.inside.script c.self.inside.guest c.self.inside.host (g.L.Link.queues c.self.inside.link)) (world_of c.self.inside.script c.pump.new.self c.self.inside.host (g.L.Link.queues c.pump.new.link)) Pump c.self.invariant.0 is.turns, is.carried))

pub returns-in-Pump-clause-steps : goal.returns-in-Pump-clause-steps
returns-in-Pump-clause-steps g c = (
    let is = pumps_over c.self.inside.script c.self.inside.guest c.pump.new.self c.self.inside.host (g.L.Link.queues c.self.inside.link) (g.L.Link.queues c.pump.new.link) c.pump.result c.self.invariant.1 c.pump.ensures.pumps in turned_seen c.pump.result (world_of c.self.inside.script c.self.inside.guest c.self.inside.host (g.L.Link.queues c.self.inside.link)) c.args.self.now (world_of c.self.inside.script c.pump.new.self c.self.inside.host (g.L.Link.queues c.pump.new.link)) Pump c.args.step c.self.view_is c.in-Pump.is is.turns)

pub returns-in-Pump-clause-falls : goal.returns-in-Pump-clause-falls
returns-in-Pump-clause-falls g c = (
    let is = pumps_over c.self.inside.script c.self.inside.guest c.pump.new.self c.self.inside.host (g.L.Link.queues c.self.inside.link) (g.L.Link.queues c.pump.new.link) c.pump.result c.self.invariant.1 c.pump.ensures.pumps in turned_falls c.pump.result (world_of c.self.inside.script c.self.inside.guest c.self.inside.host (g.L.Link.queues c.self.inside.link)) c.args.self.now (world_of c.self.inside.script c.pump.new.self c.self.inside.host (g.L.Link.queues c.pump.new.link)) Pump c.self.view_is c.self.invariant.0 is.turns)
