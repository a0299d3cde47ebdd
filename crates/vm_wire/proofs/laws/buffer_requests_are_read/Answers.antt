use Rattle.vm_wire.proofs.BufferLemmas.{reqbufs_reads, querybuf_reads, qbuf_reads, subscription_reads}
use Rattle.vm_wire.proofs.laws.buffer_requests_are_read.Goals as goal

pub returns-clause-reqbufs : goal.returns-clause-reqbufs
returns-clause-reqbufs c = reqbufs_reads

pub returns-clause-querybuf : goal.returns-clause-querybuf
returns-clause-querybuf c = querybuf_reads

pub returns-clause-qbuf : goal.returns-clause-qbuf
returns-clause-qbuf c = qbuf_reads

pub returns-clause-subscription : goal.returns-clause-subscription
returns-clause-subscription c = subscription_reads
