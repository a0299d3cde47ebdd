-- The ioctls with which calls cross.
use Rattle.std.proofs.Common.{◌≡◌, ℕ, Bool, true, false, List, [], ◌∷◌, Option, Some, None, Ok, refl, sym, ap, ◌∙◌, subst, if◌then◌else◌}
use Rattle.v4l_const.specs.declared.errno.Errno.{Errno}
use Rattle.v4l_const.specs.declared.ioctl_code.IoctlCode.{IoctlCode}
use Rattle.v4l_const.specs.declared.ioctl_code.IoctlCode.TheVariants.{QueryCap as QueryCapCode, EnumFmt as EnumFmtCode, GFmt as GFmtCode, SFmt as SFmtCode, TryFmt as TryFmtCode, EnumInput as EnumInputCode, GInput as GInputCode, SInput as SInputCode, ReqBufs as ReqBufsCode, QueryBuf as QueryBufCode, QBuf as QBufCode, StreamOn as StreamOnCode, StreamOff as StreamOffCode, SubscribeEvent as SubscribeCode, UnsubscribeEvent as UnsubscribeCode}
use Rattle.v4l_rules.specs.Refusals.{first_refusal}
use Rattle.vm_frame.specs.declared.mem.Held.{Held}
use Rattle.vm_wire.specs.Buffers.{qbuf_request}
use Rattle.vm_wire.specs.declared.buffers.QueuedBuffer.{QueuedBuffer}
use Rattle.v4l_layout.specs.Records.{buffer_bytes}
use Rattle.v4l_layout.specs.declared.buffer_rec.BufferRec.{BufferRec}
use Rattle.vm_local.specs.declared.call.Call.{Call}
use Rattle.vm_local.specs.declared.call.Call.TheVariants.{OpenHandle, CloseHandle, QueryCap, EnumFmt, GFmt, TryFmt, SFmt, EnumInput, GInput, SInput, ReqBufs, QueryBuf, UAlloc, QBuf, StreamOn, StreamOff, DqBuf, Mmap, Munmap, Peek, Hash, Poke, Fill, Subscribe, Unsubscribe, DqEvent}
use Rattle.vm_local.specs.State.{LocalState}
use Rattle.vm_local.specs.Calls.{row_of}
use Rattle.vm_commute.specs.Commute.{is_stopping}
use Rattle.vm_home.specs.Reached.{IsReached}
use Rattle.vm_exchange.specs.declared.way.Way.{Way}
use Rattle.vm_exchange.specs.declared.way.Way.TheVariants.{Crosses, AnsweredHere, Waits}
use Rattle.vm_exchange.specs.Exchange.{buffer_queued, asks, from_open, unless_by, qbuf_crossing, way_of}
use Rattle.vm_exchange.specs.Range.{AreWords}
use Rattle.vm_session.specs.State.{SessionState, is_quiet}
use Rattle.vm_session.specs.Rows.{IoctlRow, IoctlAnswer, ioctl_row, outcome_of, querycap_row, enumfmt_row, gfmt_row, tryfmt_row, sfmt_row, enuminput_row, ginput_row, sinput_row, reqbufs_row, querybuf_row, qbuf_row, streamon_row, streamoff_row, subscribe_row, unsubscribe_row}
use Rattle.vm_session.specs.Sound.{IsSound}
use Rattle.vm_session.proofs.ReadBackLemmas.{enumfmt_reads, gfmt_reads, tryfmt_reads, sfmt_reads, enuminput_reads, sinput_reads, reqbufs_call_reads, querybuf_call_reads, qbuf_call_reads, streamon_reads, streamoff_reads, subscribe_reads, unsubscribe_reads}
use Rattle.vm_stands.specs.Stands.{Stands}
use Rattle.vm_stands.specs.Laws.{AnswersAs, Along, WayAnswers}
use Rattle.vm_stands.proofs.PlainLemmas.{querycap_served, enumfmt_served, gfmt_served, tryfmt_served, sfmt_served, enuminput_served, ginput_served, sinput_served, querybuf_served, streamon_served, subscribe_served, unsubscribe_served}
use Rattle.vm_stands.proofs.QBufLemmas.{qbuf_served}
use Rattle.vm_stands.proofs.CloseLemmas.{streamoff_served}
use Rattle.vm_stands.proofs.ReqBufsLemmas.{reqbufs_served}

-- an open handle's call crosses, and its ioctl is answered by the row that it is read to
asked : (frames : List ℕ) (session : SessionState) (line : ℕ) (s : LocalState) (call : Call) (memory : Bool) (held : List Held) (code : IoctlCode) (payload : List ℕ) (r : IoctlRow) →
    Stands frames session s → ioctl_row session code payload held ≡ r → AnswersAs frames session line s call (outcome_of memory r) →
    WayAnswers frames session line s call memory held (from_open s (asks session.id code payload))
asked frames session line s call memory held code payload r stands reads answers =
    subst (λ way. WayAnswers frames session line s call memory held way) (sym (ap (λ b. if b then asks session.id code payload else AnsweredHere) stands.opened))
    (refl, subst (λ x. AnswersAs frames session line s call (outcome_of memory x)) (sym reads) answers)

-- other ways are no ioctls
unless_none : (frames : List ℕ) (session : SessionState) (line : ℕ) (s : LocalState) (call : Call) (memory : Bool) (held : List Held) (way : Way) →
    WayAnswers frames session line s call memory held way → (o : Option Errno) → WayAnswers frames session line s call memory held (unless_by o way)
unless_none frames session line s call memory held way answers None = answers
unless_none frames session line s call memory held way answers (Some e) = tt

either : (frames : List ℕ) (session : SessionState) (line : ℕ) (s : LocalState) (call : Call) (memory : Bool) (held : List Held) (a b : Way) →
    WayAnswers frames session line s call memory held a → WayAnswers frames session line s call memory held b → (is : Bool) →
    WayAnswers frames session line s call memory held (if is then a else b)
either frames session line s call memory held a b left right true = left
either frames session line s call memory held a b left right false = right

qbuf_answered : (frames : List ℕ) (session : SessionState) (line : ℕ) (s : LocalState) (memory : Bool) (held : List Held) (t i used ts : ℕ) (user : Option (List ℕ)) →
    Stands frames session s → IsSound session → IsReached s → Along s (QBuf t i user used ts) held →
    WayAnswers frames session line s (QBuf t i user used ts) memory held (way_of session.id s (QBuf t i user used ts))
unfolding qbuf_crossing
qbuf_answered frames session line s memory held t i used ts user stands sound reached (h, one, along, fits) =
    by_refusal (first_refusal (row_of s 0 0 (QBuf t i user used ts)).refusals) refl
  where
    by_refusal : (o : Option Errno) → first_refusal (row_of s 0 0 (QBuf t i user used ts)).refusals ≡ o →
        WayAnswers frames session line s (QBuf t i user used ts) memory held (unless_by o (Crosses (qbuf_crossing session.id s t i user used ts)))
    by_refusal None pass =
        let q : QueuedBuffer = buffer_queued s t i user used ts in
        let b : BufferRec = qbuf_request s.model q in
        let reads : ioctl_row session QBufCode (buffer_bytes b) held ≡ qbuf_row session b (h ∷ []) =
        subst (λ m. ioctl_row session QBufCode (buffer_bytes (qbuf_request m q)) held ≡ qbuf_row session (qbuf_request m q) held) stands.model
        (qbuf_call_reads session q held fits) ∙ ap (λ hs. qbuf_row session b hs) one in
        let served : (a : IoctlAnswer) × (outcome_of memory (qbuf_row session b (h ∷ [])) ≡ Ok a) × AnswersAs frames session line s (QBuf t i user used ts) (Ok a) =
        qbuf_served frames session line s memory t i used ts user h stands sound reached pass along in (
          refl,
          subst (λ x. AnswersAs frames session line s (QBuf t i user used ts) (outcome_of memory x)) (sym reads)
              (subst (λ o. AnswersAs frames session line s (QBuf t i user used ts) o) (sym served.1) served.2),
        )
    by_refusal (Some e) is = tt

pub ioctls_are_answered : (frames : List ℕ) (session : SessionState) (line : ℕ) (s : LocalState) (call : Call) (memory : Bool) (held : List Held) →
    Stands frames session s → IsSound session → IsReached s → AreWords call → Along s call held →
    (is_stopping call ≡ true → (is_quiet session ≡ true) × (s.owed ≡ [])) →
    WayAnswers frames session line s call memory held (way_of session.id s call)
ioctls_are_answered frames session line s (OpenHandle nonblock) memory held stands sound reached words along quiet = tt
ioctls_are_answered frames session line s CloseHandle memory held stands sound reached words along quiet =
    either frames session line s CloseHandle memory held _ AnsweredHere tt tt s.opened
ioctls_are_answered frames session line s QueryCap memory held stands sound reached words along quiet =
    asked frames session line s QueryCap memory held QueryCapCode _ (querycap_row session) stands refl (querycap_served frames session line s memory stands sound reached)
ioctls_are_answered frames session line s (EnumFmt t i) memory held stands sound reached words along quiet =
    asked frames session line s (EnumFmt t i) memory held EnumFmtCode _ (enumfmt_row session t i) stands (enumfmt_reads session t i held words.0 words.1)
    (enumfmt_served t i frames session line s memory stands sound reached)
ioctls_are_answered frames session line s (GFmt t) memory held stands sound reached words along quiet =
    asked frames session line s (GFmt t) memory held GFmtCode _ (gfmt_row session t) stands (gfmt_reads session t held words) (gfmt_served t frames session line s memory stands sound reached)
ioctls_are_answered frames session line s (TryFmt t f w h) memory held stands sound reached words along quiet =
    asked frames session line s (TryFmt t f w h) memory held TryFmtCode _ (tryfmt_row session t f w h) stands
    (tryfmt_reads session t f w h held words.0 words.1 words.2 words.3)
    (tryfmt_served t f w h frames session line s memory stands sound reached)
ioctls_are_answered frames session line s (SFmt t f w h) memory held stands sound reached words along quiet =
    asked frames session line s (SFmt t f w h) memory held SFmtCode _ (sfmt_row session t f w h) stands
    (sfmt_reads session t f w h held words.0 words.1 words.2 words.3)
    (sfmt_served t f w h frames session line s memory stands sound reached)
ioctls_are_answered frames session line s (EnumInput i) memory held stands sound reached words along quiet =
    asked frames session line s (EnumInput i) memory held EnumInputCode _ (enuminput_row session i) stands (enuminput_reads session i held words)
    (enuminput_served i frames session line s memory stands sound reached)
ioctls_are_answered frames session line s GInput memory held stands sound reached words along quiet =
    asked frames session line s GInput memory held GInputCode _ (ginput_row session) stands refl (ginput_served frames session line s memory stands sound reached)
ioctls_are_answered frames session line s (SInput i) memory held stands sound reached words along quiet =
    asked frames session line s (SInput i) memory held SInputCode _ (sinput_row session i) stands (sinput_reads session i held words)
    (sinput_served i frames session line s memory stands sound reached)
ioctls_are_answered frames session line s (ReqBufs t m n) memory held stands sound reached words along quiet =
    asked frames session line s (ReqBufs t m n) memory held ReqBufsCode _ (reqbufs_row session t m n) stands
    (reqbufs_call_reads session t m n held words.0 words.1 words.2)
    (reqbufs_served t m n frames session line s memory stands sound reached (quiet refl).0 (quiet refl).1)
ioctls_are_answered frames session line s (QueryBuf t i) memory held stands sound reached words along quiet =
    asked frames session line s (QueryBuf t i) memory held QueryBufCode _ (querybuf_row session t i) stands (querybuf_call_reads session t i held words.0 words.1)
    (querybuf_served t i frames session line s memory stands sound reached)
ioctls_are_answered frames session line s (UAlloc u len off) memory held stands sound reached words along quiet = tt
ioctls_are_answered frames session line s (QBuf t i user used ts) memory held stands sound reached words along quiet =
    qbuf_answered frames session line s memory held t i used ts user stands sound reached along
ioctls_are_answered frames session line s (StreamOn t) memory held stands sound reached words along quiet =
    asked frames session line s (StreamOn t) memory held StreamOnCode _ (streamon_row session t) stands (streamon_reads session t held words)
    (streamon_served t frames session line s memory stands sound reached)
ioctls_are_answered frames session line s (StreamOff t) memory held stands sound reached words along quiet =
    asked frames session line s (StreamOff t) memory held StreamOffCode _ (streamoff_row session t) stands (streamoff_reads session t held words)
    (streamoff_served t frames session line s memory stands sound reached (quiet refl).0 (quiet refl).1)
ioctls_are_answered frames session line s (DqBuf t) memory held stands sound reached words along quiet =
    unless_none frames session line s (DqBuf t) memory held _ (either frames session line s (DqBuf t) memory held Waits AnsweredHere tt tt (row_of s 0 0 (DqBuf t)).waits)
    (first_refusal (row_of s 0 0 (DqBuf t)).refusals)
ioctls_are_answered frames session line s (Mmap m t i ro) memory held stands sound reached words along quiet =
    unless_none frames session line s (Mmap m t i ro) memory held _ tt (first_refusal (row_of s 0 0 (Mmap m t i ro)).refusals)
ioctls_are_answered frames session line s (Munmap m) memory held stands sound reached words along quiet =
    unless_none frames session line s (Munmap m) memory held _ tt (first_refusal (row_of s 0 0 (Munmap m)).refusals)
ioctls_are_answered frames session line s (Peek m off len) memory held stands sound reached words along quiet = tt
ioctls_are_answered frames session line s (Hash m) memory held stands sound reached words along quiet = tt
ioctls_are_answered frames session line s (Poke m off bytes) memory held stands sound reached words along quiet = tt
ioctls_are_answered frames session line s (Fill m seed) memory held stands sound reached words along quiet = tt
ioctls_are_answered frames session line s (Subscribe e) memory held stands sound reached words along quiet =
    asked frames session line s (Subscribe e) memory held SubscribeCode _ (subscribe_row session e) stands (subscribe_reads session e held words)
    (subscribe_served e frames session line s memory stands sound reached)
ioctls_are_answered frames session line s (Unsubscribe e) memory held stands sound reached words along quiet =
    asked frames session line s (Unsubscribe e) memory held UnsubscribeCode _ (unsubscribe_row session e) stands (unsubscribe_reads session e held words)
    (unsubscribe_served e frames session line s memory stands sound reached)
ioctls_are_answered frames session line s DqEvent memory held stands sound reached words along quiet = tt
