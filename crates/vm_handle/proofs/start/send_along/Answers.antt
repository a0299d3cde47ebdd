use Rattle.vm_handle.proofs.start.send_along.Goals as goal

pub send-requires-clause-unrefused : goal.send-requires-clause-unrefused
send-requires-clause-unrefused c = c.requires.unrefused c.in-QBuf.t c.in-QBuf.i c.in-QBuf.used c.in-QBuf.ts c.in-QBuf.user c.in-QBuf.is
