use Rattle.std.proofs.Common.{◌≡◌, ◌==◌, ◌&&◌, nat_lt, length}
use Rattle.v4l_const.specs.declared.numbers.TheConstants.{MEMORY_USERPTR}
use Rattle.v4l_format.specs.Fmt.{picture_size}
use Rattle.v4l_rules.specs.Formats.{is_source}
use Rattle.v4l_rules.specs.Queues.{has_type}
use Rattle.vm_session.specs.State.{SessionQueue, SessionState, queue_of}
use Rattle.vm_session.specs.Buffers.{is_at_home, memory_kind, IsTold}
use Rattle.vm_session.specs.Rows.{qbuf_row}
use Rattle.vm_session.proofs.CallLemmas.{qbuf_passes, mem_fits, taken_too}
use Rattle.vm_session.proofs.session.Session.qbuf.Goals as goal

pub push-requires-clause-room : goal.push-requires-clause-room
unfolding qbuf_row
push-requires-clause-room c =
    let s : SessionState = c.args.self.now in
    let b = c.args.asked.now in
    let q : SessionQueue = queue_of s b.kind in
    let passes = qbuf_passes (has_type s.model b.kind) (nat_lt b.index (length q.lengths)) (is_at_home q b.index) (b.memory == q.kind)
    (b.memory == MEMORY_USERPTR && nat_lt b.length (picture_size q.format)) (is_source s.model b.kind && nat_lt b.length b.bytesused)
    c.in_ok-check_qbuf.ensures.ok in
    let kind : memory_kind c.in-Some.memory.mem ≡ b.memory = (taken_too (IsTold b) c.args.held.now.items c.pop.new.self.items c.in-Some.memory c.requires.told c.in-Some.ensures.items).kind in
    mem_fits c.in-Some.memory.mem b.memory q.kind b.length (picture_size q.format) kind passes.2 passes.3
