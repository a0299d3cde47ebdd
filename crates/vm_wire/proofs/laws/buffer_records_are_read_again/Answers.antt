use Rattle.vm_wire.proofs.BufferLemmas.{reqbufs_again, buffer_again, subscription_again, qbuf_same, frame_reads}
use Rattle.vm_wire.proofs.laws.buffer_records_are_read_again.Goals as goal

pub returns-clause-reqbufs : goal.returns-clause-reqbufs
returns-clause-reqbufs c = reqbufs_again

pub returns-clause-buffer : goal.returns-clause-buffer
returns-clause-buffer c = buffer_again

pub returns-clause-subscription : goal.returns-clause-subscription
returns-clause-subscription c = subscription_again

pub returns-clause-same : goal.returns-clause-same
returns-clause-same c = qbuf_same

pub returns-clause-frame : goal.returns-clause-frame
returns-clause-frame c = frame_reads
