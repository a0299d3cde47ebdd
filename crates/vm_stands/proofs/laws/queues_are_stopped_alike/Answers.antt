use Rattle.vm_stands.proofs.CloseLemmas.{streamoff_served, streamoff_refused, closes}
use Rattle.vm_stands.proofs.ReqBufsLemmas.{reqbufs_served, reqbufs_refused}
use Rattle.vm_stands.proofs.laws.queues_are_stopped_alike.Goals as goal

pub returns-clause-streamoff : goal.returns-clause-streamoff
returns-clause-streamoff c = streamoff_served

pub returns-clause-reqbufs : goal.returns-clause-reqbufs
returns-clause-reqbufs c = reqbufs_served

pub returns-clause-closes : goal.returns-clause-closes
returns-clause-closes c = closes

pub returns-clause-streamoff_refused : goal.returns-clause-streamoff_refused
returns-clause-streamoff_refused c = streamoff_refused

pub returns-clause-reqbufs_refused : goal.returns-clause-reqbufs_refused
returns-clause-reqbufs_refused c = reqbufs_refused
