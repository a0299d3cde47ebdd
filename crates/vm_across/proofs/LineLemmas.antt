-- Lemmas on what lines send.
use Rattle.std.proofs.Common.{◌≡◌, ℕ, true, false, List, length, Option, Some, None, refl, sym, ap, ◌∙◌, subst}
use Rattle.v4l_const.specs.declared.errno.Errno.{Errno}
use Rattle.v4l_rules.specs.Refusals.{first_refusal}
use Rattle.vm_frame.specs.declared.mem.Held.{Held}
use Rattle.vm_link.specs.declared.parcel.Parcel.{Parcel}
use Rattle.vm_script.specs.declared.line.LineKind.{LineKind}
use Rattle.vm_script.specs.declared.line.LineKind.TheVariants.{OnHandle, Raw}
use Rattle.vm_local.specs.State.{LocalState}
use Rattle.vm_local.specs.Calls.{row_of}
use Rattle.vm_local.specs.declared.call.Call.{Call}
use Rattle.vm_local.specs.declared.call.Call.TheVariants.{OpenHandle, CloseHandle, QueryCap, EnumFmt, GFmt, TryFmt, SFmt, EnumInput, GInput, SInput, ReqBufs, QueryBuf, UAlloc, QBuf, StreamOn, StreamOff, DqBuf, Mmap, Munmap, Peek, Hash, Poke, Fill, Subscribe, Unsubscribe, DqEvent}
use Rattle.vm_home.specs.Moves.{goes_along}
use Rattle.vm_log.specs.Answers.{Sends, with_line}
use Rattle.vm_log.specs.LegalLog.{LogState, state_of}
use Rattle.vm_exchange.specs.Entries.{crossing_bytes}
use Rattle.vm_exchange.specs.Exchange.{way_of, unless_by, qbuf_crossing}
use Rattle.vm_exchange.specs.declared.crossing.Crossing.{Crossing}
use Rattle.vm_exchange.specs.declared.way.Way.{Way}
use Rattle.vm_exchange.specs.declared.way.Way.TheVariants.{Crosses, AnsweredHere, Waits, TouchesMemory}
use Rattle.vm_handle.specs.Handle.{HandleState, way_from, id_of}
use Rattle.vm_device.specs.Perform.{gives_back}
use Rattle.vm_guest.specs.Lines.{Begins, BeginsCall}
use Rattle.vm_guest.specs.Message.{Sending, OfCall, OfRaw}
use Rattle.vm_guest.specs.Orderly.{IsFitKind}
use Rattle.vm_guest.specs.Process.{ProcessState, handle_at}
use Rattle.vm_guest.specs.Queues.{IsChainFor}
use Rattle.vm_across.specs.Across.{IsFit, IsChainOf}

-- ---- no memory goes along with a command that gives memories back

crosses_as : (o : Option Errno) (c d : Crossing) → unless_by o (Crosses d) ≡ Crosses c → c ≡ d
crosses_as None c d is = cc
crosses_as (Some errno) c d is = cc

qbuf_keeps : (session : ℕ) (s : LocalState) (t i : ℕ) (user : Option (List ℕ)) (used ts : ℕ) → gives_back (qbuf_crossing session s t i user used ts).command ≡ false
unfolding qbuf_crossing
qbuf_keeps session s t i user used ts = refl

none_along : (session : ℕ) (s : LocalState) (call : Call) (c : Crossing) (old new : LogState) (along : Option Held) → way_of session s call ≡ Crosses c
    → Sends (goes_along s call) old call along new → gives_back c.command ≡ true → along ≡ None
none_along session s (QBuf t i user used ts) c old new along way sends gives =
    let same : c ≡ qbuf_crossing session s t i user used ts = crosses_as (first_refusal (row_of s 0 0 (QBuf t i user used ts)).refusals) c (qbuf_crossing session s t i user used ts) way in
    let keeps : gives_back c.command ≡ false = ap (λ (x : Crossing). gives_back x.command) same ∙ qbuf_keeps session s t i user used ts in
    absurd (let both : true ≡ false = sym gives ∙ keeps in cc)
none_along session s (OpenHandle nonblock) c old new along way sends gives = sends.0
none_along session s CloseHandle c old new along way sends gives = sends.0
none_along session s QueryCap c old new along way sends gives = sends.0
none_along session s (EnumFmt t i) c old new along way sends gives = sends.0
none_along session s (GFmt t) c old new along way sends gives = sends.0
none_along session s (TryFmt t f w h) c old new along way sends gives = sends.0
none_along session s (SFmt t f w h) c old new along way sends gives = sends.0
none_along session s (EnumInput i) c old new along way sends gives = sends.0
none_along session s GInput c old new along way sends gives = sends.0
none_along session s (SInput i) c old new along way sends gives = sends.0
none_along session s (ReqBufs t m n) c old new along way sends gives = sends.0
none_along session s (QueryBuf t i) c old new along way sends gives = sends.0
none_along session s (UAlloc u len off) c old new along way sends gives = sends.0
none_along session s (StreamOn t) c old new along way sends gives = sends.0
none_along session s (StreamOff t) c old new along way sends gives = sends.0
none_along session s (DqBuf t) c old new along way sends gives = sends.0
none_along session s (Mmap m t i ro) c old new along way sends gives = sends.0
none_along session s (Munmap m) c old new along way sends gives = sends.0
none_along session s (Peek m off len) c old new along way sends gives = sends.0
none_along session s (Hash m) c old new along way sends gives = sends.0
none_along session s (Poke m off bytes) c old new along way sends gives = sends.0
none_along session s (Fill m seed) c old new along way sends gives = sends.0
none_along session s (Subscribe e) c old new along way sends gives = sends.0
none_along session s (Unsubscribe e) c old new along way sends gives = sends.0
none_along session s DqEvent c old new along way sends gives = sends.0

-- ---- what a line sends

one_sending : (s t : Sending) → Some s ≡ Some t → s ≡ t
one_sending s t is = cc

fit_call : (w : Way) (line h : ℕ) (call : Call) (p p' : ProcessState) (sending : Sending) → way_from (handle_at p h) call ≡ w → BeginsCall w line h call p p' (Some sending) → IsFit sending
fit_call (Crosses c) line h call p p' sending is does =
    let handle : HandleState = handle_at p h in
    let fits : IsFit (OfCall c does.0) = λ gives.
    none_along (id_of handle.session) (state_of handle.log) call c (with_line handle.log) does.2.log does.0 is does.2.sends gives in
    subst IsFit (sym (one_sending sending (OfCall c does.0) does.4)) fits
fit_call AnsweredHere line h call p p' sending is does = (let never = does.3 in cc)
fit_call Waits line h call p p' sending is does = (let never = does.1 in cc)
fit_call TouchesMemory line h call p p' sending is does = absurd does

pub fit_to_send : (handles line : ℕ) (what : LineKind) (p p' : ProcessState) (sending : Sending) → IsFitKind handles what → Begins line what p p' (Some sending) → IsFit sending
fit_to_send handles line (OnHandle h call) p p' sending fits begins = fit_call (way_from (handle_at p h) call) line h call p p' sending refl begins
fit_to_send handles line (Raw chain) p p' sending fits begins = subst IsFit (sym (one_sending sending (OfRaw chain) begins.1)) fits

-- ---- what comes back for it

chain_of_call : (w : Way) (line n h : ℕ) (call : Call) (p p' : ProcessState) (sending : Sending) (parcel : Parcel) → BeginsCall w line h call p p' (Some sending) → IsChainOf n sending parcel
    → IsChainFor n (OnHandle h call) parcel
chain_of_call (Crosses c) line n h call p p' sending parcel does chain =
    (length (crossing_bytes c), subst (λ s. IsChainOf n s parcel) (one_sending sending (OfCall c does.0) does.4) chain)
chain_of_call AnsweredHere line n h call p p' sending parcel does chain = (let never = does.3 in cc)
chain_of_call Waits line n h call p p' sending parcel does chain = (let never = does.1 in cc)
chain_of_call TouchesMemory line n h call p p' sending parcel does chain = absurd does

pub collected_chain : (line n : ℕ) (what : LineKind) (p p' : ProcessState) (sending : Sending) (parcel : Parcel) → Begins line what p p' (Some sending) → IsChainOf n sending parcel
    → IsChainFor n what parcel
collected_chain line n (OnHandle h call) p p' sending parcel begins chain = chain_of_call (way_from (handle_at p h) call) line n h call p p' sending parcel begins chain
collected_chain line n (Raw chain) p p' sending parcel begins there = subst (λ s. IsChainOf n s parcel) (one_sending sending (OfRaw chain) begins.1) there
