use Rattle.std.proofs.Common.{◌≡◌, ℕ, List, IsSome, ◌<◌, ◌≤◌, length, refl, sym, subst, arith}
use Rattle.vm_log.specs.LegalLog.{state_of}
use Rattle.vm_wire.specs.Wire.{response_len, response_of}
use Rattle.vm_wire.specs.declared.response.Response.{Response}
use Rattle.vm_handle.specs.Answers.{AnswersWith}
use Rattle.vm_handle.specs.Handle.{HandleState, Keeps}
use Rattle.vm_handle.specs.declared.stage.Stage.TheVariants.{Underway}
use Rattle.vm_guest.specs.Chain.{reply_bytes}
use Rattle.vm_guest.specs.Process.{handle_in}
use Rattle.vm_guest.proofs.CallLemmas.{found, crosses_there, logs_by, is_ok, read_as, put_there}
use Rattle.vm_guest.proofs.calls.log_reply.Goals as goal

pub unwrap-command-requires : goal.unwrap-command-requires
unwrap-command-requires c =
    subst IsSome (sym (crosses_there c.args.handles.now.items c.args.asked.now c.args.done.now c.index_mut-handle.result.now c.command.result c.requires.can c.index_mut-handle.ensures.value c.command.ensures.asks)) refl

pub unwrap-response-requires : goal.unwrap-response-requires
unwrap-response-requires c =
    let is = found c.args.handles.now.items c.args.asked.now c.args.done.now c.index_mut-handle.result.now c.unwrap-command.result c.command.result c.requires.can c.index_mut-handle.ensures.value c.command.ensures.asks c.unwrap-command.ensures in
    let enough : response_len c.unwrap-command.result (reply_bytes c.args.done.now) ≤ length (reply_bytes c.args.done.now) =
    subst (λ x. response_len x (reply_bytes c.args.done.now) ≤ length (reply_bytes c.args.done.now)) is.command c.requires.can.may.enough in
    is_ok c.decode_response.result (λ err. (let P = λ (bs : List ℕ). length bs < response_len c.unwrap-command.result bs in
    let short : length (reply_bytes c.args.done.now) < response_len c.unwrap-command.result (reply_bytes c.args.done.now) = subst P c.reply_in.ensures (c.decode_response.ensures.short.0 err) in
    omega (arith, short, enough)))

pub reply_on-requires-clause-out : goal.reply_on-requires-clause-out
reply_on-requires-clause-out c =
    let is = found c.args.handles.now.items c.args.asked.now c.args.done.now c.index_mut-handle.result.now c.unwrap-command.result c.command.result c.requires.can c.index_mut-handle.ensures.value c.command.ensures.asks c.unwrap-command.ensures in
    subst (λ (h : HandleState). h.stage ≡ Underway c.args.asked.now.line c.args.asked.now.call) (sym is.same) c.requires.can.out

pub reply_on-requires-clause-may : goal.reply_on-requires-clause-may
reply_on-requires-clause-may c =
    let is = found c.args.handles.now.items c.args.asked.now c.args.done.now c.index_mut-handle.result.now c.unwrap-command.result c.command.result c.requires.can c.index_mut-handle.ensures.value c.command.ensures.asks c.unwrap-command.ensures in
    let read = read_as c.unwrap-command.result c.reply_in.result.now (reply_bytes c.args.done.now) c.decode_response.result c.unwrap-response.result c.reply_in.ensures c.decode_response.ensures.ok c.unwrap-response.ensures in
    let may : AnswersWith (state_of (handle_in c.args.handles.now.items c.args.asked.now.handle).log) c.args.asked.now.line c.args.asked.now.call (response_of c.unwrap-command.result (reply_bytes c.args.done.now)) c.args.done.now.parcel.held =
    subst (λ x. AnswersWith (state_of (handle_in c.args.handles.now.items c.args.asked.now.handle).log) c.args.asked.now.line c.args.asked.now.call (response_of x (reply_bytes c.args.done.now)) c.args.done.now.parcel.held) is.command c.requires.can.may.may in
    subst (λ (h : HandleState). AnswersWith (state_of h.log) c.args.asked.now.line c.args.asked.now.call c.unwrap-response.result c.args.done.now.parcel.held) (sym is.same)
    (subst (λ (r : Response). AnswersWith (state_of (handle_in c.args.handles.now.items c.args.asked.now.handle).log) c.args.asked.now.line c.args.asked.now.call r c.args.done.now.parcel.held) (sym read) may)

pub returns-clause-handles : goal.returns-clause-handles
returns-clause-handles c =
    let is = found c.args.handles.now.items c.args.asked.now c.args.done.now c.index_mut-handle.result.now c.unwrap-command.result c.command.result c.requires.can c.index_mut-handle.ensures.value c.command.ensures.asks c.unwrap-command.ensures in
    let read = read_as c.unwrap-command.result c.reply_in.result.now (reply_bytes c.args.done.now) c.decode_response.result c.unwrap-response.result c.reply_in.ensures c.decode_response.ensures.ok c.unwrap-response.ensures in
    logs_by c.args.handles.now.items c.args.asked.now c.args.done.now c.index_mut-handle.result.now c.reply_on.new.handle c.unwrap-command.result c.unwrap-response.result is.same is.crosses read c.reply_on.ensures.replied

pub returns-clause-keeps : goal.returns-clause-keeps
returns-clause-keeps c =
    subst (λ (h : HandleState). Keeps h.log h.session h.stage) (sym (put_there c.args.handles.now.items c.args.asked.now.handle c.reply_on.new.handle c.requires.can.within)) c.reply_on.ensures.keeps
