-- What is told is told of the bytes that the script is read from.
use Rattle.std.proofs.lemmas.Result.{IfOk-weaker}
use Rattle.vmedia.specs.Bulk.{IsCounted}
use Rattle.vmedia.specs.Run.{IsRun, failures}
use Rattle.vmedia.specs.Top.{TellsTask}
use Rattle.vmedia.proofs.ProgramLemmas.{tells_check, tells_run}
use Rattle.vmedia.proofs.top.text_of.Goals as goal

pub returns-in-Check : goal.returns-in-Check
returns-in-Check g c = λ bytes short reads.
    let fails = failures (g.E.Engine.faults c.args.engine.now) (g.E.Engine.faults c.args.engine.now) in
    IfOk-weaker c.check.result (λ text. IsCounted c.args.script text.items) (λ text. TellsTask c.args.task fails bytes text.items)
    (λ text counted. tells_check c.args.task fails c.args.script bytes text.items c.in-Check.is short reads counted) c.check.ensures

pub returns-in-Run : goal.returns-in-Run
returns-in-Run g c = λ bytes short reads.
    let fails = failures (g.E.Engine.faults c.args.engine.now) (g.E.Engine.faults c.run.new.engine) in
    IfOk-weaker c.run.result (λ text. IsRun c.in-Run.seed fails c.args.script text.items) (λ text. TellsTask c.args.task fails bytes text.items)
    (λ text runs. tells_run c.args.task c.in-Run.seed fails c.args.script bytes text.items c.in-Run.is short reads runs) c.run.ensures
