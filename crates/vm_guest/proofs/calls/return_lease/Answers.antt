use Rattle.std.proofs.Common.{◌≡◌, true, false, sym, subst}
use Rattle.std.specs.Prelude.{◌↔◌, IsErr}
use Rattle.vm_log.specs.Answers.{IsDone}
use Rattle.vm_log.specs.LegalLog.{is_lent_to, lease_in}
use Rattle.vm_handle.specs.Handle.{HandleState}
use Rattle.vm_guest.proofs.CallLemmas.{found_at, returned_there, refused_there}
use Rattle.vm_guest.proofs.calls.return_lease.Goals as goal

pub give_back-requires : goal.give_back-requires
give_back-requires c =
    let same = found_at c.args.handles.now.items c.args.at c.index_mut-handle.result.now c.requires.within c.index_mut-handle.ensures.value in
    subst (λ (h : HandleState). is_lent_to h.log.away c.args.lease.line ≡ true → IsDone (lease_in h.log.away) c.args.lease) (sym same) c.requires.done

pub returns-clause-other : goal.returns-clause-other
returns-clause-other c =
    let same = found_at c.args.handles.now.items c.args.at c.index_mut-handle.result.now c.requires.within c.index_mut-handle.ensures.value in
    subst (λ (h : HandleState). IsErr c.give_back.result ↔ (is_lent_to h.log.away c.args.lease.line ≡ false)) same c.give_back.ensures.other

pub returns-clause-ok : goal.returns-clause-ok
returns-clause-ok c =
    let same = found_at c.args.handles.now.items c.args.at c.index_mut-handle.result.now c.requires.within c.index_mut-handle.ensures.value in
    returned_there c.give_back.result c.args.handles.now.items c.args.at c.index_mut-handle.result.now c.give_back.new.self c.args.lease same c.give_back.ensures.ok

pub returns-clause-err : goal.returns-clause-err
returns-clause-err c =
    let same = found_at c.args.handles.now.items c.args.at c.index_mut-handle.result.now c.requires.within c.index_mut-handle.ensures.value in
    refused_there c.give_back.result c.args.handles.now.items c.args.at c.index_mut-handle.result.now c.give_back.new.self c.requires.within same c.give_back.ensures.err
