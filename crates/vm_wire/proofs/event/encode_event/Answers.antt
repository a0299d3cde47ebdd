use Rattle.std.proofs.Common.{◌≡◌, ◌≤◌, ◌++◌, arith, length, drop, replicate, sym, subst, rules}
use Rattle.v4l_layout.specs.Records.{buffer_bytes}
use Rattle.vm_wire.specs.Event.{event_bytes, event_size}
use Rattle.vm_wire.specs.declared.event.EventMsg.{EventMsg}
use Rattle.vm_wire.proofs.EventLemmas.{written_again}
use Rattle.vm_wire.proofs.WrittenLemmas.{fills, message_written}
use Rattle.vm_wire.proofs.event.encode_event.Goals as goal

pub returns-in-Dequeued-clause-bytes : goal.returns-in-Dequeued-clause-bytes
returns-in-Dequeued-clause-bytes c =
    let P : EventMsg → Type 0 = λ e. c.put_planes.new.out ≡ event_bytes e ++ drop (event_size e) c.args.out.now in
    let R : EventMsg → Type 0 = λ e. event_size e ≤ length c.args.out.now in
    let roomy : 608 ≤ length c.args.out.now = subst R c.in-Dequeued.is c.requires in
    subst P (sym c.in-Dequeued.is)
    (message_written c.args.out.now c.put32.new.b c.put32-in-Dequeued.new.b c.put_buffer.new.out c.put_planes.new.out (buffer_bytes c.in-Dequeued.buffer) (replicate 512 0)
    1 c.in-Dequeued.session c.put32.ensures c.put32-in-Dequeued.ensures c.put_buffer.ensures.bytes
    (fills c.put32-in-Dequeued.new.b c.put_buffer.new.out (buffer_bytes c.in-Dequeued.buffer) 8 88 (omega (arith, roomy, c.put32.auto.b, c.put32-in-Dequeued.auto.b)) c.put_buffer.auto.out c.put_buffer.ensures.bytes) c.put_planes.ensures)

pub returns-in-Dequeued-clause-fits : goal.returns-in-Dequeued-clause-fits
returns-in-Dequeued-clause-fits c = search rules

pub returns-in-Dequeued-clause-reads_back : goal.returns-in-Dequeued-clause-reads_back
returns-in-Dequeued-clause-reads_back c =
    written_again c.args.e.now (drop (event_size c.args.e.now) c.args.out.now) c.put_planes.new.out (returns-in-Dequeued-clause-fits c) (returns-in-Dequeued-clause-bytes c)

pub returns-in-Happened-clause-bytes : goal.returns-in-Happened-clause-bytes
returns-in-Happened-clause-bytes c = search rules

pub returns-in-Happened-clause-fits : goal.returns-in-Happened-clause-fits
returns-in-Happened-clause-fits c = search rules

pub returns-in-Happened-clause-reads_back : goal.returns-in-Happened-clause-reads_back
returns-in-Happened-clause-reads_back c =
    written_again c.args.e.now (drop (event_size c.args.e.now) c.args.out.now) c.put_event.new.out (returns-in-Happened-clause-fits c) (returns-in-Happened-clause-bytes c)
