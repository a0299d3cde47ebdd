use Rattle.std.proofs.Common.{arith, Ok, ap}
use Rattle.std.proofs.lemmas.Grind.{common_steps}
use Rattle.vm_wire.proofs.EventLemmas.{one_message}
use Rattle.vm_wire.proofs.event.decode_event.Goals as goal
use Rattle.vm_wire.specs.declared.event.EventMsg.TheVariants.{Dequeued, Happened}

pub returns-in_ok-read_buffer-in-1-2-clause-ok : goal.returns-in_ok-read_buffer-in-1-2-clause-ok
returns-in_ok-read_buffer-in-1-2-clause-ok c = grind (arith, common_steps)

pub returns-in_ok-read_buffer-in-1-2-clause-only : goal.returns-in_ok-read_buffer-in-1-2-clause-only
returns-in_ok-read_buffer-in-1-2-clause-only c = λ e spells. ap Ok (one_message c.args.b.now (Dequeued c.le32-in-1-2.result c.in_ok-read_buffer-in-1-2.field-0) e (returns-in_ok-read_buffer-in-1-2-clause-ok c) spells)

pub returns-in_ok-read_event-in-2-2-clause-ok : goal.returns-in_ok-read_event-in-2-2-clause-ok
returns-in_ok-read_event-in-2-2-clause-ok c = grind (arith, common_steps)

pub returns-in_ok-read_event-in-2-2-clause-only : goal.returns-in_ok-read_event-in-2-2-clause-only
returns-in_ok-read_event-in-2-2-clause-only c = λ e spells. ap Ok (one_message c.args.b.now (Happened c.le32-in-2-2.result c.in_ok-read_event-in-2-2.field-0) e (returns-in_ok-read_event-in-2-2-clause-ok c) spells)
