use Rattle.std.proofs.Common.{sym, ap, ◌∙◌}
use Rattle.vm_link.specs.Queue.{Queues}
use Rattle.vm_link.specs.declared.parcel.Finished.{Finished}
use Rattle.vm_guest.proofs.GuestCollectLemmas.{found_statement, is_for, may_take_first, took_first, may_answer, settles_within, may_settle, collects_it}
use Rattle.vm_guest.proofs.guest.Guest.collect.Goals as goal

pub unwrap-statement-requires : goal.unwrap-statement-requires
unwrap-statement-requires g c =
    found_statement c.in-Some.done _ _ c.args.self.now (g.L.Link.queues c.args.link.now) c.crossing.ensures.statement (c.from-p.ensures ∙ ap (λ (f : Finished). f.parcel.who) c.done.view_is) c.in-Some.ensures.done c.requires

pub take_events_if-requires : goal.take_events_if-requires
take_events_if-requires g c =
    let q : Queues = g.L.Link.queues c.args.link.now in
    let q0 : Queues = g.L.Link.queues c.collect.new.self in
    let it = is_for c.in-Some.done _ c.unwrap-statement.result c.args.self.now q q0 (sym c.unwrap-statement.ensures ∙ c.crossing.ensures.statement) (c.from-p.ensures ∙ ap (λ (f : Finished). f.parcel.who) c.done.view_is) c.in-Some.ensures.done c.requires c.in-Some.ensures.queues in
    may_take_first c.in-Some.done _ c.unwrap-statement.result c.args.self.now q q0 _ it c.ends_with_events.ensures

pub answer-requires : goal.answer-requires
answer-requires g c =
    let q : Queues = g.L.Link.queues c.args.link.now in
    let q0 : Queues = g.L.Link.queues c.collect.new.self in
    let it = is_for c.in-Some.done _ c.unwrap-statement.result c.args.self.now q q0 (sym c.unwrap-statement.ensures ∙ c.crossing.ensures.statement) (c.from-p.ensures ∙ ap (λ (f : Finished). f.parcel.who) c.done.view_is) c.in-Some.ensures.done c.requires c.in-Some.ensures.queues in
    let d = c.crossing.ensures.driver in
    let t = took_first c.in-Some.done _ c.unwrap-statement.result c.args.self.now q q0 _ d.0 c.take_events_if.new.self (g.L.Link.queues c.take_events_if.new.link) it c.ends_with_events.ensures c.take_events_if.ensures.takes (c.take_events_if.ensures.driver d.0 d.1) in
    may_answer c.in-Some.done _ c.unwrap-statement.result c.args.self.now q q0 d.0 c.take_events_if.new.self (g.L.Link.queues c.take_events_if.new.link) it t

pub settle-requires-clause-within : goal.settle-requires-clause-within
settle-requires-clause-within g c =
    let q : Queues = g.L.Link.queues c.args.link.now in
    let q0 : Queues = g.L.Link.queues c.collect.new.self in
    let it = is_for c.in-Some.done _ c.unwrap-statement.result c.args.self.now q q0 (sym c.unwrap-statement.ensures ∙ c.crossing.ensures.statement) (c.from-p.ensures ∙ ap (λ (f : Finished). f.parcel.who) c.done.view_is) c.in-Some.ensures.done c.requires c.in-Some.ensures.queues in
    let d = c.crossing.ensures.driver in
    let d1 = c.take_events_if.ensures.driver d.0 d.1 in
    let t = took_first c.in-Some.done _ c.unwrap-statement.result c.args.self.now q q0 _ d.0 c.take_events_if.new.self (g.L.Link.queues c.take_events_if.new.link) it c.ends_with_events.ensures c.take_events_if.ensures.takes d1 in
    settles_within c.in-Some.done _ c.unwrap-statement.result c.args.self.now q q0 d.0 c.take_events_if.new.self (g.L.Link.queues c.take_events_if.new.link) c.answer.new.self it t (c.answer.ensures.driver d.0 d1)

pub settle-requires-clause-can : goal.settle-requires-clause-can
settle-requires-clause-can g c =
    let q : Queues = g.L.Link.queues c.args.link.now in
    let q0 : Queues = g.L.Link.queues c.collect.new.self in
    let it = is_for c.in-Some.done _ c.unwrap-statement.result c.args.self.now q q0 (sym c.unwrap-statement.ensures ∙ c.crossing.ensures.statement) (c.from-p.ensures ∙ ap (λ (f : Finished). f.parcel.who) c.done.view_is) c.in-Some.ensures.done c.requires c.in-Some.ensures.queues in
    let d = c.crossing.ensures.driver in
    let t = took_first c.in-Some.done _ c.unwrap-statement.result c.args.self.now q q0 _ d.0 c.take_events_if.new.self (g.L.Link.queues c.take_events_if.new.link) it c.ends_with_events.ensures c.take_events_if.ensures.takes (c.take_events_if.ensures.driver d.0 d.1) in
    may_settle c.in-Some.done _ c.unwrap-statement.result c.args.self.now q q0 d.0 c.take_events_if.new.self (g.L.Link.queues c.take_events_if.new.link) c.answer.new.self it t c.answer.ensures.answers

pub returns-clause-collects : goal.returns-clause-collects
returns-clause-collects g c =
    let q : Queues = g.L.Link.queues c.args.link.now in
    let q0 : Queues = g.L.Link.queues c.collect.new.self in
    let it = is_for c.in-Some.done _ c.unwrap-statement.result c.args.self.now q q0 (sym c.unwrap-statement.ensures ∙ c.crossing.ensures.statement) (c.from-p.ensures ∙ ap (λ (f : Finished). f.parcel.who) c.done.view_is) c.in-Some.ensures.done c.requires c.in-Some.ensures.queues in
    let d = c.crossing.ensures.driver in
    let t = took_first c.in-Some.done _ c.unwrap-statement.result c.args.self.now q q0 _ d.0 c.take_events_if.new.self (g.L.Link.queues c.take_events_if.new.link) it c.ends_with_events.ensures c.take_events_if.ensures.takes (c.take_events_if.ensures.driver d.0 d.1) in
    collects_it c.in-Some.done _ c.unwrap-statement.result c.args.self.now q q0 d.0 c.take_events_if.new.self (g.L.Link.queues c.take_events_if.new.link) c.answer.new.self c.settle.new.self it t c.answer.ensures.answers c.settle.ensures.settles
