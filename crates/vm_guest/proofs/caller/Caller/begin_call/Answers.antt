use Rattle.std.proofs.Common.{sym, ap, ◌∙◌}
use Rattle.vm_link.specs.Queue.{Queues}
use Rattle.vm_guest.proofs.CallerBeginLemmas.{may_begin, beginning_home, sent_postable, sent_room, begins_sent, kept_sent, begins_here, kept_here, kept_waiting}
use Rattle.vm_guest.proofs.caller.Caller.begin_call.Goals as goal

pub start_call-requires-clause-can : goal.start_call-requires-clause-can
start_call-requires-clause-can g c = may_begin _ c.args.self.now c.args.asked.now c.self.view_is c.requires.orderly c.requires.asked

pub post-requires-clause-postable : goal.post-requires-clause-postable
post-requires-clause-postable g c =
    sent_postable c.self.inside.number c.args.asked.now c.self.inside.handles.items c.start_call.new.handles.items c.unwrap-chain.result c.start_call.new.chain c.start_call.result _ c.start_call.ensures c.in-Send.is
    (beginning_home _ c.args.self.now c.args.asked.now c.self.inside.chain c.unwrap-chain.result c.self.inside.tables.items c.self.view_is c.requires.asked
    (sym c.take.ensures.value ∙ c.unwrap-chain.ensures) c.self.invariant)

pub post-requires-clause-room : goal.post-requires-clause-room
post-requires-clause-room g c =
    sent_room _ c.args.self.now c.args.asked.now c.start_call.new.handles.items c.unwrap-chain.result c.start_call.new.chain c.start_call.result _ (g.L.Link.queues c.args.link.now).command c.self.view_is c.start_call.ensures c.in-Send.is
    (beginning_home _ c.args.self.now c.args.asked.now c.self.inside.chain c.unwrap-chain.result c.self.inside.tables.items c.self.view_is c.requires.asked
    (sym c.take.ensures.value ∙ c.unwrap-chain.ensures) c.self.invariant)
    c.requires.room

pub invariant_of-self : goal.invariant_of-self
invariant_of-self g c =
    kept_sent _ c.args.self.now c.args.asked.now c.start_call.new.handles.items c.self.inside.chain c.take.new.self c.self.inside.tables.items c.self.view_is c.requires.asked c.take.ensures.after c.self.invariant

pub invariant_of-self-in-Answered : goal.invariant_of-self-in-Answered
invariant_of-self-in-Answered g c =
    kept_here _ c.args.self.now c.args.asked.now c.start_call.new.handles.items c.self.inside.chain c.unwrap-chain.result c.start_call.new.chain c.start_call.result c.self.inside.tables.items c.self.view_is c.requires.asked
    (sym c.take.ensures.value ∙ c.unwrap-chain.ensures) c.start_call.ensures c.in-Answered.is c.self.invariant

pub invariant_of-self-in-Wait : goal.invariant_of-self-in-Wait
invariant_of-self-in-Wait g c =
    kept_waiting _ c.args.self.now c.args.asked.now c.start_call.new.handles.items c.self.inside.chain c.unwrap-chain.result c.start_call.new.chain c.start_call.result c.self.inside.tables.items c.self.view_is c.requires.asked
    (sym c.take.ensures.value ∙ c.unwrap-chain.ensures) c.start_call.ensures c.in-Wait.is c.self.invariant

pub returns-in-Send-clause-begins : goal.returns-in-Send-clause-begins
returns-in-Send-clause-begins g c =
    begins_sent _ c.args.self.now c.args.asked.now c.start_call.new.handles.items c.unwrap-chain.result c.start_call.new.chain c.start_call.result _ (g.L.Link.queues c.args.link.now).command _ c.self.view_is c.start_call.ensures c.in-Send.is
    (beginning_home _ c.args.self.now c.args.asked.now c.self.inside.chain c.unwrap-chain.result c.self.inside.tables.items c.self.view_is c.requires.asked
    (sym c.take.ensures.value ∙ c.unwrap-chain.ensures) c.self.invariant)
    (ap (λ (x : Queues). x.command) c.post.ensures)

pub returns-in-Answered-clause-begins : goal.returns-in-Answered-clause-begins
returns-in-Answered-clause-begins g c =
    begins_here _ c.args.self.now c.args.asked.now c.start_call.new.handles.items c.unwrap-chain.result c.start_call.new.chain c.start_call.result (g.L.Link.queues c.args.link.now).command c.self.view_is c.requires.asked
    c.start_call.ensures c.in-Answered.is
