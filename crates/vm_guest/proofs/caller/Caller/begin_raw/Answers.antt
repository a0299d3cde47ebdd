use Rattle.std.proofs.Common.{◌≤◌, refl, sym, ap, ◌∙◌, arith}
use Rattle.vm_link.specs.Queue.{Queues, free_count}
use Rattle.vm_script.specs.declared.line.LineKind.TheVariants.{Raw}
use Rattle.vm_guest.specs.declared.asked.Statement.{Statement}
use Rattle.vm_guest.proofs.CallerBeginLemmas.{raw_next, raw_sent, begins_raw, kept_raw}
use Rattle.vm_guest.proofs.caller.Caller.begin_raw.Goals as goal

pub raw_chain-requires-clause-fits : goal.raw_chain-requires-clause-fits
raw_chain-requires-clause-fits g c =
    let s : Statement = record { line = c.args.line; what = Raw c.args.chain.now } in
    let n = raw_next _ c.args.self.now s c.args.chain.now c.self.view_is c.requires.orderly c.requires.raw refl in
    n.small

pub post-requires-clause-postable : goal.post-requires-clause-postable
post-requires-clause-postable g c =
    let s : Statement = record { line = c.args.line; what = Raw c.args.chain.now } in
    let n = raw_next _ c.args.self.now s c.args.chain.now c.self.view_is c.requires.orderly c.requires.raw refl in
    let sent = raw_sent _ s c.args.chain.now c.self.inside.chain c.unwrap-own.result c.raw_chain.result c.self.inside.tables.items c.index_mut-table.result.now n refl
    (sym c.take.ensures.value ∙ c.unwrap-own.ensures) c.self.invariant c.index_mut-table.ensures.value c.raw_chain.ensures.chain in
    sent.postable

pub post-requires-clause-room : goal.post-requires-clause-room
post-requires-clause-room g c =
    let s : Statement = record { line = c.args.line; what = Raw c.args.chain.now } in
    let n = raw_next _ c.args.self.now s c.args.chain.now c.self.view_is c.requires.orderly c.requires.raw refl in
    let sent = raw_sent _ s c.args.chain.now c.self.inside.chain c.unwrap-own.result c.raw_chain.result c.self.inside.tables.items c.index_mut-table.result.now n refl
    (sym c.take.ensures.value ∙ c.unwrap-own.ensures) c.self.invariant c.index_mut-table.ensures.value c.raw_chain.ensures.chain in
    let free : 4 ≤ free_count (g.L.Link.queues c.args.link.now).command = c.requires.room refl in
    omega (arith, sent.few, free)

pub invariant_of-self : goal.invariant_of-self
invariant_of-self g c =
    let s : Statement = record { line = c.args.line; what = Raw c.args.chain.now } in
    let n = raw_next _ c.args.self.now s c.args.chain.now c.self.view_is c.requires.orderly c.requires.raw refl in
    kept_raw _ s c.args.chain.now c.self.inside.chain c.take.new.self c.unwrap-own.result c.self.inside.tables.items _ n refl (sym c.take.ensures.value ∙ c.unwrap-own.ensures) c.take.ensures.after c.self.invariant c.raw_chain.ensures.table

pub returns-clause-begins : goal.returns-clause-begins
returns-clause-begins g c =
    let s : Statement = record { line = c.args.line; what = Raw c.args.chain.now } in
    let n = raw_next _ c.args.self.now s c.args.chain.now c.self.view_is c.requires.orderly c.requires.raw refl in
    let sent = raw_sent _ s c.args.chain.now c.self.inside.chain c.unwrap-own.result c.raw_chain.result c.self.inside.tables.items c.index_mut-table.result.now n refl
    (sym c.take.ensures.value ∙ c.unwrap-own.ensures) c.self.invariant c.index_mut-table.ensures.value c.raw_chain.ensures.chain in
    begins_raw _ c.args.self.now c.args.line c.args.chain.now c.raw_chain.result (g.L.Link.queues c.args.link.now).command _ c.self.view_is sent (ap (λ (x : Queues). x.command) c.post.ensures)
