use Rattle.vm_stands.proofs.PlainLemmas.{querycap_served, enumfmt_served, gfmt_served, tryfmt_served, sfmt_served, enuminput_served, ginput_served, sinput_served, querybuf_served, streamon_served, subscribe_served, unsubscribe_served}
use Rattle.vm_stands.proofs.laws.calls_are_answered_alike.Goals as goal

pub returns-clause-querycap : goal.returns-clause-querycap
returns-clause-querycap c = querycap_served

pub returns-clause-enumfmt : goal.returns-clause-enumfmt
returns-clause-enumfmt c = enumfmt_served

pub returns-clause-gfmt : goal.returns-clause-gfmt
returns-clause-gfmt c = gfmt_served

pub returns-clause-tryfmt : goal.returns-clause-tryfmt
returns-clause-tryfmt c = tryfmt_served

pub returns-clause-sfmt : goal.returns-clause-sfmt
returns-clause-sfmt c = sfmt_served

pub returns-clause-enuminput : goal.returns-clause-enuminput
returns-clause-enuminput c = enuminput_served

pub returns-clause-ginput : goal.returns-clause-ginput
returns-clause-ginput c = ginput_served

pub returns-clause-sinput : goal.returns-clause-sinput
returns-clause-sinput c = sinput_served

pub returns-clause-querybuf : goal.returns-clause-querybuf
returns-clause-querybuf c = querybuf_served

pub returns-clause-streamon : goal.returns-clause-streamon
returns-clause-streamon c = streamon_served

pub returns-clause-subscribe : goal.returns-clause-subscribe
returns-clause-subscribe c = subscribe_served

pub returns-clause-unsubscribe : goal.returns-clause-unsubscribe
returns-clause-unsubscribe c = unsubscribe_served
