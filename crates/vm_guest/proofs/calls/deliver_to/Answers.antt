use Rattle.std.proofs.Common.{◌≡◌, ◌∙◌, sym, ap, subst, set}
use Rattle.vm_log.specs.LegalLog.{state_of}
use Rattle.vm_handle.specs.Answers.{delivered}
use Rattle.vm_handle.specs.Handle.{HandleState}
use Rattle.vm_handle.specs.Messages.{Delivers}
use Rattle.vm_guest.specs.Process.{handle_in}
use Rattle.vm_guest.proofs.CallLemmas.{found_at}
use Rattle.vm_guest.proofs.calls.deliver_to.Goals as goal

pub deliver-requires : goal.deliver-requires
deliver-requires c =
    let same : c.index_mut-handle.result.now ≡ handle_in c.args.handles.now.items c.args.at =
    found_at c.args.handles.now.items c.args.at c.index_mut-handle.result.now c.requires.within c.index_mut-handle.ensures.value in
    subst (λ (h : HandleState). Delivers (state_of h.log) c.args.event.msg c.args.event.held) (sym same) c.requires.delivers

pub returns : goal.returns
returns c =
    let same : c.index_mut-handle.result.now ≡ handle_in c.args.handles.now.items c.args.at =
    found_at c.args.handles.now.items c.args.at c.index_mut-handle.result.now c.requires.within c.index_mut-handle.ensures.value in
    ap (set c.args.handles.now.items c.args.at) (c.deliver.ensures ∙ ap (λ (h : HandleState). delivered h c.args.event.msg c.args.event.held) same)
