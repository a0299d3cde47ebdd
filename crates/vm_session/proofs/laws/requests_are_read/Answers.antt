use Rattle.vm_session.proofs.ReadBackLemmas.{enumfmt_reads, gfmt_reads, tryfmt_reads, sfmt_reads, enuminput_reads, sinput_reads, reqbufs_call_reads, querybuf_call_reads, qbuf_call_reads, streamon_reads, streamoff_reads, subscribe_reads, unsubscribe_reads}
use Rattle.vm_session.proofs.laws.requests_are_read.Goals as goal

pub returns-clause-enumfmt : goal.returns-clause-enumfmt
returns-clause-enumfmt c = enumfmt_reads

pub returns-clause-gfmt : goal.returns-clause-gfmt
returns-clause-gfmt c = gfmt_reads

pub returns-clause-tryfmt : goal.returns-clause-tryfmt
returns-clause-tryfmt c = tryfmt_reads

pub returns-clause-sfmt : goal.returns-clause-sfmt
returns-clause-sfmt c = sfmt_reads

pub returns-clause-enuminput : goal.returns-clause-enuminput
returns-clause-enuminput c = enuminput_reads

pub returns-clause-sinput : goal.returns-clause-sinput
returns-clause-sinput c = sinput_reads

pub returns-clause-reqbufs : goal.returns-clause-reqbufs
returns-clause-reqbufs c = reqbufs_call_reads

pub returns-clause-querybuf : goal.returns-clause-querybuf
returns-clause-querybuf c = querybuf_call_reads

pub returns-clause-qbuf : goal.returns-clause-qbuf
returns-clause-qbuf c = qbuf_call_reads

pub returns-clause-streamon : goal.returns-clause-streamon
returns-clause-streamon c = streamon_reads

pub returns-clause-streamoff : goal.returns-clause-streamoff
returns-clause-streamoff c = streamoff_reads

pub returns-clause-subscribe : goal.returns-clause-subscribe
returns-clause-subscribe c = subscribe_reads

pub returns-clause-unsubscribe : goal.returns-clause-unsubscribe
returns-clause-unsubscribe c = unsubscribe_reads
