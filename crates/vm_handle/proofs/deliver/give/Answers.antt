use Rattle.std.proofs.Common.{Option, subst}
use Rattle.vm_frame.specs.declared.mem.Held.{Held}
use Rattle.vm_local.specs.State.{LocalState}
use Rattle.vm_log.specs.LegalLog.{state_of}
use Rattle.vm_handle.specs.Messages.{GivesFirst}
use Rattle.vm_handle.proofs.MessageLemmas.{gives_buffer, gives_event, may_give}
use Rattle.vm_handle.proofs.deliver.give.Goals as goal

pub give-requires-clause-owed : goal.give-requires-clause-owed
give-requires-clause-owed c =
    let s : LocalState = state_of c.args.log.now in
    (gives_buffer s s.owed c.requires.0 c.in-Some.field-0 (subst (λ (h : Option Held). GivesFirst s s.owed c.requires.0 h) c.in-Some.is c.requires.1)).0

pub give-requires-clause-memory : goal.give-requires-clause-memory
give-requires-clause-memory c =
    let s : LocalState = state_of c.args.log.now in
    (gives_buffer s s.owed c.requires.0 c.in-Some.field-0 (subst (λ (h : Option Held). GivesFirst s s.owed c.requires.0 h) c.in-Some.is c.requires.1)).1

pub step-requires-clause-legal : goal.step-requires-clause-legal
step-requires-clause-legal c = may_give (state_of c.args.log.now) c.requires.0 c.args.held c.requires.1

pub step-requires-clause-stays : goal.step-requires-clause-stays
step-requires-clause-stays c =
    let s : LocalState = state_of c.args.log.now in
    gives_event s s.owed c.requires.0 (subst (λ (h : Option Held). GivesFirst s s.owed c.requires.0 h) c.in-None.is c.requires.1)
