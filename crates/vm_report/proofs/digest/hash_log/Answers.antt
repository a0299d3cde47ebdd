use Rattle.std.proofs.Common.{length, ap, ◌∙◌}
use Rattle.vm_local.specs.Record.{RecordState}
use Rattle.vm_exchange.specs.Range.{HasWords}
use Rattle.vm_report.proofs.DigestLemmas.{leads_at, room_at, roomy, follows_none, follows_at, all_behind}
use Rattle.vm_report.proofs.digest.hash_log.Goals as goal

pub hash_entry-requires : goal.hash_entry-requires
hash_entry-requires c =
    leads_at c.args.model c.args.session c.args.log.now c.loop-entry.entry-index c.entry-item.result c.loop-entry.kept c.args.hasher.now c.loop-entry.hasher
    c.loop-entry-test.true c.entry-item.is c.loop-entry.invariant.follows

pub after-requires : goal.after-requires
after-requires c = record {
  room = room_at c.args.model c.args.session c.args.log.now c.loop-entry.entry-index c.entry-item.result c.loop-entry.kept c.args.hasher.now c.loop-entry.hasher
      c.loop-entry-test.true c.entry-item.is c.loop-entry.invariant.follows;
}

pub loop-entry-init : goal.loop-entry-init
loop-entry-init c = record {
  follows = follows_none c.args.model c.args.session c.args.log.now c.reserve.new.self c.args.hasher.now
      (ap (λ (k : RecordState). k.local) c.in_ok-reserve.ensures.ok ∙ ap (λ (k : RecordState). k.local) c.new-kept.ensures)
      (roomy (length c.args.log.now) c.new-kept.result.room c.reserve.new.self.room (ap (λ (k : RecordState). k.room) c.in_ok-reserve.ensures.ok)) c.requires;
  words = λ all. all;
}

pub loop-entry-preserved : goal.loop-entry-preserved
loop-entry-preserved c = record {
  follows = follows_at c.args.model c.args.session c.args.log.now c.loop-entry.entry-index c.entry-item.result c.loop-entry.kept c.after.new.self c.args.hasher.now c.loop-entry.hasher
      c.hash_entry.new.hasher c.loop-entry-test.true c.entry-item.is c.loop-entry.invariant.follows c.hash_entry.ensures.holds c.hash_entry.ensures.words c.after.ensures.moves c.after.ensures.room;
  words = all_behind HasWords c.args.log.now c.loop-entry.entry-index c.entry-item.result c.loop-entry-test.true c.entry-item.is c.hash_entry.ensures.words c.loop-entry.invariant.words;
}
