use Rattle.vm_report.proofs.DigestLemmas.{record_at, crossing_fit, none_crossed, some_crossed}
use Rattle.vm_report.proofs.digest.hash_call.Goals as goal

pub crossing_of-requires : goal.crossing_of-requires
crossing_of-requires c = record_at c.args.kept.now c.requires.record

pub hash_crossing-requires : goal.hash_crossing-requires
hash_crossing-requires c =
    crossing_fit c.args.session c.args.kept.now c.args.call.now c.crossing_of.result c.in-Some.crossing c.ranges.session.fits c.requires.record c.crossing_of.ensures c.in-Some.is

pub returns : goal.returns
returns c m s shown holds =
    some_crossed c.args.session s c.args.kept.now c.args.call.now c.args.reply.now c.crossing_of.result c.in-Some.crossing c.response_to.result m c.args.hasher.now c.hash_crossing.new.hasher
    c.hash_response.new.hasher shown c.crossing_of.ensures c.in-Some.is c.response_to.ensures c.hash_crossing.ensures c.hash_response.ensures holds

pub returns-in_default : goal.returns-in_default
returns-in_default c m s shown holds =
    none_crossed c.args.session s c.args.kept.now c.args.call.now c.args.reply.now c.crossing_of.result m c.args.hasher.now shown c.crossing_of.ensures c.in_default.is holds
