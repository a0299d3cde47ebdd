use Rattle.vm_report.proofs.DigestLemmas.{leads_show, leads_offer}
use Rattle.vm_report.proofs.digest.hash_entry.Goals as goal

pub hash_call-requires-clause-record : goal.hash_call-requires-clause-record
hash_call-requires-clause-record c = leads_show c.args.kept.now c.args.entry.now c.requires

pub hash_call-requires-clause-offered : goal.hash_call-requires-clause-offered
hash_call-requires-clause-offered c =
    leads_offer c.args.kept.now c.in-Called.line c.in-Called.call c.in-Called.reply c.args.entry.now c.in-Called.is c.requires
