use Rattle.std.proofs.Common.{◌≡◌}
use Rattle.vm_guest.specs.Steps.{given_back}
use Rattle.vm_realm.specs.World.{WorldState}
use Rattle.vm_sched.proofs.GoLemmas.{give_within, gives_some, gives_done, gives_ok, gives_goes, on_ok, gives_script}
use Rattle.vm_sched.proofs.doing.give_back.Goals as goal

pub take_lease-requires : goal.take_lease-requires
take_lease-requires g c = give_within c.args.hands.now c.args.world.now c.args.p c.requires.may c.requires.all

pub unwrap-lease-requires : goal.unwrap-lease-requires
unwrap-lease-requires g c = gives_some c.args.hands.now c.args.world.now c.args.p c.take_lease.result c.requires.may c.requires.all c.take_lease.ensures.lease

pub give_back-taken-requires : goal.give_back-taken-requires
give_back-taken-requires g c =
    gives_done c.args.hands.now c.args.world.now c.args.p c.take_lease.result c.unwrap-lease.result c.apply.new.self c.requires.may c.requires.all c.take_lease.ensures.lease c.unwrap-lease.ensures c.apply.ensures

pub unwrap-requires : goal.unwrap-requires
unwrap-requires g c =
    gives_ok c.args.hands.now c.args.world.now c.args.p c.take_lease.result c.unwrap-lease.result c.apply.new.self c.give_back-taken.result c.requires.may c.requires.all c.take_lease.ensures.lease c.unwrap-lease.ensures c.apply.ensures
    c.give_back-taken.ensures.other

pub returns-clause-goes : goal.returns-clause-goes
returns-clause-goes g c =
    let ok = gives_ok c.args.hands.now c.args.world.now c.args.p c.take_lease.result c.unwrap-lease.result c.apply.new.self c.give_back-taken.result c.requires.may c.requires.all c.take_lease.ensures.lease c.unwrap-lease.ensures
    c.apply.ensures c.give_back-taken.ensures.other in
    let w : WorldState = c.args.world.now in
    gives_goes c.args.hands.now c.take_lease.new.self c.args.world.now c.give_back-taken.new.self c.args.p c.take_lease.result c.unwrap-lease.result c.apply.new.self c.take_lease.ensures.taken c.requires.may c.requires.all c.take_lease.ensures.lease c.unwrap-lease.ensures
    c.apply.ensures (on_ok (c.give_back-taken.new.self ≡ record w { guest = given_back c.args.p w.guest c.apply.new.self }) c.give_back-taken.result ok c.give_back-taken.ensures.ok)

pub returns-clause-script : goal.returns-clause-script
returns-clause-script g c =
    let ok = gives_ok c.args.hands.now c.args.world.now c.args.p c.take_lease.result c.unwrap-lease.result c.apply.new.self c.give_back-taken.result c.requires.may c.requires.all c.take_lease.ensures.lease c.unwrap-lease.ensures
    c.apply.ensures c.give_back-taken.ensures.other in
    let w : WorldState = c.args.world.now in
    gives_script w c.give_back-taken.new.self (given_back c.args.p w.guest c.apply.new.self)
    (on_ok (c.give_back-taken.new.self ≡ record w { guest = given_back c.args.p w.guest c.apply.new.self }) c.give_back-taken.result ok c.give_back-taken.ensures.ok)
