use Rattle.std.proofs.Common.{refl, arith}
use Rattle.vm_realm.specs.declared.step.Step.TheVariants.{Begin, Lease, GiveBack}
use Rattle.vm_sched.proofs.GoLemmas.{fails_none, plain_finish, plain_kind, when_ok}
use Rattle.vm_sched.proofs.doing.do_step.Goals as goal

pub returns-in-Begin-clause-fails : goal.returns-in-Begin-clause-fails
returns-in-Begin-clause-fails g c =
    when_ok c.begin.result
    (λ goes. fails_none c.args.world.now c.begin.new.world (Begin c.in-Begin.session) (g.E.Engine.faults c.args.engine.now) (g.E.Engine.faults c.args.engine.now) c.requires.sound refl goes.steps (omega arith))
    c.begin.ensures.goes

pub returns-in-Lease-clause-fails : goal.returns-in-Lease-clause-fails
returns-in-Lease-clause-fails g c =
    fails_none c.args.world.now c.lend.new.world (Lease c.in-Lease.p) (g.E.Engine.faults c.args.engine.now) (g.E.Engine.faults c.args.engine.now) c.requires.sound refl c.lend.ensures.goes.steps (omega arith)

pub returns-in-GiveBack-clause-fails : goal.returns-in-GiveBack-clause-fails
returns-in-GiveBack-clause-fails g c =
    fails_none c.args.world.now c.give_back.new.world (GiveBack c.in-GiveBack.p) (g.E.Engine.faults c.args.engine.now) (g.E.Engine.faults c.args.engine.now) c.requires.sound refl c.give_back.ensures.goes.steps (omega arith)

pub plain-requires-clause-none : goal.plain-requires-clause-none
plain-requires-clause-none g c = plain_kind c.args.step c.in-Issue.is

pub returns-in-Issue-clause-fails : goal.returns-in-Issue-clause-fails
returns-in-Issue-clause-fails g c =
    fails_none c.args.world.now c.plain.new.world c.args.step (g.E.Engine.faults c.args.engine.now) (g.E.Engine.faults c.args.engine.now) c.requires.sound
    (plain_finish c.args.step (plain_kind c.args.step c.in-Issue.is)) c.plain.ensures.goes.steps (omega arith)
