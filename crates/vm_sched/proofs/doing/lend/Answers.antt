use Rattle.vm_sched.proofs.GoLemmas.{lend_within, out_goes, stays_goes, lends_script}
use Rattle.vm_sched.proofs.doing.lend.Goals as goal

pub put_lease-requires : goal.put_lease-requires
put_lease-requires g c = lend_within c.args.hands.now c.args.world.now c.args.p c.requires.may c.requires.all

pub returns-in-Out-clause-goes : goal.returns-in-Out-clause-goes
returns-in-Out-clause-goes g c =
    out_goes c.args.hands.now c.put_lease.new.self c.args.world.now c.lease.new.self c.args.p c.lease.result c.in-Out.lease c.put_lease.ensures c.in-Out.is c.requires.may c.requires.all c.lease.ensures

pub returns-in-Answered : goal.returns-in-Answered
returns-in-Answered g c = record {
  goes = stays_goes c.args.hands.now c.args.world.now c.lease.new.self c.args.p c.lease.result c.in-Answered.is c.requires.may c.requires.all c.lease.ensures;
  script = lends_script c.args.world.now c.lease.new.self c.args.p c.lease.result c.lease.ensures;
}
