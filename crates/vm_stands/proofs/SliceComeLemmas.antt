-- What comes with a call that crosses, and a stopping call that is refused at once.
use Rattle.std.proofs.Common.{◌≡◌, ℕ, Bool, true, false, List, [], ◌∷◌, ◌++◌, All, Option, Some, None, refl, sym, ap, ◌∙◌, subst, if◌then◌else◌}
use Rattle.std.proofs.lemmas.Bool.{false≢true}
use Rattle.std.proofs.lemmas.List.Elements.{All-head, All-weaker}
use Rattle.v4l_const.specs.declared.errno.Errno.{Errno}
use Rattle.v4l_const.specs.declared.ioctl_code.IoctlCode.{IoctlCode}
use Rattle.v4l_const.specs.declared.ioctl_code.IoctlCode.TheVariants.{ReqBufs as ReqBufsCode, StreamOff as StreamOffCode}
use Rattle.v4l_layout.specs.Records.{request_bytes}
use Rattle.v4l_rules.specs.Refusals.{first_refusal}
use Rattle.vm_frame.specs.declared.mem.Held.{Held}
use Rattle.vm_job.specs.Job.{JobParts}
use Rattle.vm_wire.specs.Buffers.{reqbufs_request, qbuf_request}
use Rattle.vm_wire.specs.Wire.{le}
use Rattle.vm_wire.proofs.BufferLemmas.{qbuf_reads}
use Rattle.vm_wire.specs.declared.command.Command.{Command}
use Rattle.vm_wire.specs.declared.command.Command.TheVariants.{Ioctl}
use Rattle.vm_wire.specs.declared.buffers.QueuedBuffer.{QueuedBuffer}
use Rattle.vm_local.specs.declared.call.Call.{Call}
use Rattle.vm_local.specs.declared.call.Call.TheVariants.{OpenHandle, CloseHandle, QueryCap, EnumFmt, GFmt, TryFmt, SFmt, EnumInput, GInput, SInput, ReqBufs, QueryBuf, UAlloc, QBuf, StreamOn, StreamOff, DqBuf, Mmap, Munmap, Peek, Hash, Poke, Fill, Subscribe, Unsubscribe, DqEvent}
use Rattle.vm_local.specs.declared.reply.Reply.TheVariants.{Refused}
use Rattle.vm_local.specs.declared.entry.Entry.TheVariants.{Called}
use Rattle.vm_local.specs.State.{LocalState, queue_of}
use Rattle.vm_local.specs.Calls.{row_of}
use Rattle.vm_local.specs.Log.{IsCall}
use Rattle.vm_commute.specs.Commute.{may_cross, is_stopping}
use Rattle.vm_home.specs.Reached.{IsReached}
use Rattle.vm_exchange.specs.declared.user_place.UserPlace.{UserPlace}
use Rattle.vm_exchange.specs.declared.way.Way.{Way}
use Rattle.vm_exchange.specs.declared.way.Way.TheVariants.{Crosses, AnsweredHere}
use Rattle.vm_exchange.specs.Exchange.{memory_number, asks, unless_by, buffer_queued, qbuf_crossing, way_of}
use Rattle.vm_exchange.specs.Range.{AreWords}
use Rattle.vm_session.specs.declared.unsent.Unsent.{Unsent}
use Rattle.vm_session.specs.State.{SessionState}
use Rattle.vm_session.specs.Buffers.{memory_kind as held_kind, ComesWith}
use Rattle.vm_session.specs.Rows.{IoctlRow, ioctl_row, streamoff_row, reqbufs_row, Comes}
use Rattle.vm_session.proofs.ReadBackLemmas.{reqbufs_call_reads, streamoff_reads}
use Rattle.vm_stands.specs.Stands.{Stands}
use Rattle.vm_stands.specs.Laws.{Along}
use Rattle.vm_stands.specs.Slice.{IsSlice}
use Rattle.vm_stands.proofs.AheadLemmas.{stopping_crosses}
use Rattle.vm_stands.proofs.CloseLemmas.{streamoff_refused}
use Rattle.vm_stands.proofs.ReqBufsLemmas.{reqbufs_refused}
use Rattle.vm_stands.proofs.ComesLemmas.{comes_with}
use Rattle.vm_stands.proofs.SliceLemmas.{slice_refuses, all_reached}
use Rattle.vm_stands.proofs.StillLemmas.{ways_stay, kind_stays}
use Rattle.vm_stands.proofs.SliceCallLemmas.{crosses, along_ahead}

-- ---- a stopping call that is refused at once

abbrev CommandRefuses : SessionState → ℕ → LocalState → Call → Errno → Command → Type 0
CommandRefuses session line s call errno (Ioctl id code payload) =
    first_refusal (ioctl_row session code payload []).refusals ≡ Some errno → IsCall s line call (Refused errno) s
CommandRefuses session line s call errno command = Unit {0}

abbrev WayRefuses : SessionState → ℕ → LocalState → Call → Errno → Way → Type 0
WayRefuses session line s call errno (Crosses c) = CommandRefuses session line s call errno c.command
WayRefuses session line s call errno way = Unit {0}

asks_refused : (session : SessionState) (line : ℕ) (s : LocalState) (call : Call) (errno : Errno) (code : IoctlCode) (payload : List ℕ) (row : IoctlRow) →
    ioctl_row session code payload [] ≡ row → (first_refusal row.refusals ≡ Some errno → IsCall s line call (Refused errno) s) → (opened : Bool) →
    WayRefuses session line s call errno (if opened then asks session.id code payload else AnsweredHere)
asks_refused session line s call errno code payload row reads refused true = λ is. refused (ap (λ (x : IoctlRow). first_refusal x.refusals) (sym reads) ∙ is)
asks_refused session line s call errno code payload row reads refused false = tt

refuses_open : (session : SessionState) (line : ℕ) (s : LocalState) (call : Call) (errno : Errno) (way : Way) → WayRefuses session line s call errno way → (opened : Bool) →
    WayRefuses session line s call errno (if opened then way else AnsweredHere)
refuses_open session line s call errno way refuses true = refuses
refuses_open session line s call errno way refuses false = tt

way_refuses : (frames : List ℕ) (session : SessionState) (line : ℕ) (s : LocalState) (call : Call) (errno : Errno) → Stands frames session s → is_stopping call ≡ true → AreWords call →
    WayRefuses session line s call errno (way_of session.id s call)
way_refuses frames session line s CloseHandle errno stands stops words = refuses_open session line s CloseHandle errno _ tt s.opened
way_refuses frames session line s (ReqBufs t m n) errno stands stops words =
    asks_refused session line s (ReqBufs t m n) errno ReqBufsCode (request_bytes (reqbufs_request t m n)) (reqbufs_row session t m n)
    (reqbufs_call_reads session t m n [] words.0 words.1 words.2) (reqbufs_refused t m n frames session line s errno stands) s.opened
way_refuses frames session line s (StreamOff t) errno stands stops words =
    asks_refused session line s (StreamOff t) errno StreamOffCode (le t) (streamoff_row session t)
    (streamoff_reads session t [] words) (streamoff_refused t frames session line s errno stands) s.opened
way_refuses frames session line s call errno stands stops words = absurd (false≢true stops)

pub slice_refuses_for : (frames : List ℕ) (session : SessionState) (job : Option JobParts) (earlier : List Unsent) (line : ℕ) (call : Call)
    (code : IoctlCode) (payload : List ℕ) (user : Option UserPlace) (errno : Errno) (r s : LocalState) →
    IsSlice frames session job earlier None r s → is_stopping call ≡ true → AreWords call →
    way_of session.id r call ≡ Crosses (record { command = Ioctl session.id code payload; user = user }) →
    first_refusal (ioctl_row session code payload []).refusals ≡ Some errno →
    IsSlice frames session job earlier (Some (Called line call (Refused errno))) r s
slice_refuses_for frames session job earlier line call code payload user errno r s slice stops words way refused =
    let es : List Unsent = earlier ++ session.unsent in
    let by : WayRefuses session line s call errno (Crosses (record { command = Ioctl session.id code payload; user = user })) =
    subst (λ w. WayRefuses session line s call errno w) (ways_stay session.id r s call es slice.reached slice.leads (stopping_crosses call stops) ∙ way)
    (way_refuses frames session line s call errno slice.stands stops words) in
    slice_refuses frames session job earlier line call errno r s slice stops (by refused)

-- ---- what comes with an ioctl

abbrev CommandComes : SessionState → List Held → Command → Type 0
CommandComes session held (Ioctl id code payload) = Comes session code payload held
CommandComes session held command = Unit {0}

abbrev WayComes : SessionState → List Held → Way → Type 0
WayComes session held (Crosses c) = CommandComes session held c.command
WayComes session held way = Unit {0}

comes_open : (session : SessionState) (held : List Held) (way : Way) → WayComes session held way → (opened : Bool) → WayComes session held (if opened then way else AnsweredHere)
comes_open session held way comes true = comes
comes_open session held way comes false = tt

comes_unless : (session : SessionState) (held : List Held) (way : Way) → WayComes session held way → (o : Option Errno) → WayComes session held (unless_by o way)
comes_unless session held way comes None = comes
comes_unless session held way comes (Some e) = tt

qbuf_comes : (frames : List ℕ) (session : SessionState) (s : LocalState) (t i used ts : ℕ) (user : Option (List ℕ)) (held : List Held) → Stands frames session s → IsReached s →
    Along s (QBuf t i user used ts) held → All (λ h. held_kind h.mem ≡ memory_number (queue_of s h.queue).memory) held →
    WayComes session held (way_of session.id s (QBuf t i user used ts))
unfolding qbuf_crossing
qbuf_comes frames session s t i used ts user held stands reached (h, one, goes, fits) kinds =
    by_refusal (first_refusal (row_of s 0 0 (QBuf t i user used ts)).refusals) refl
  where
    by_refusal : (o : Option Errno) → first_refusal (row_of s 0 0 (QBuf t i user used ts)).refusals ≡ o →
        WayComes session held (unless_by o (Crosses (qbuf_crossing session.id s t i user used ts)))
    by_refusal None pass =
        let q : QueuedBuffer = buffer_queued s t i user used ts in
        let mine : held_kind h.mem ≡ memory_number (queue_of s h.queue).memory =
        All-head (λ (x : Held). held_kind x.mem ≡ memory_number (queue_of s x.queue).memory) h []
        (subst (λ hs. All (λ (x : Held). held_kind x.mem ≡ memory_number (queue_of s x.queue).memory) hs) one kinds) in
        let kind : held_kind h.mem ≡ memory_number (queue_of s t).memory = mine ∙ ap (λ u. memory_number (queue_of s u).memory) goes.queue in
        let comes : ComesWith session (qbuf_request s.model q) (h ∷ []) = comes_with frames session 0 s t i used ts user h stands reached pass goes kind in
        subst (λ b. ComesWith session b held) (sym (qbuf_reads s.model q fits)) (subst (λ hs. ComesWith session (qbuf_request s.model q) hs) (sym one) comes)
    by_refusal (Some e) is = tt

way_comes : (frames : List ℕ) (session : SessionState) (s : LocalState) (call : Call) (held : List Held) → Stands frames session s → IsReached s → may_cross call ≡ true →
    Along s call held → All (λ h. held_kind h.mem ≡ memory_number (queue_of s h.queue).memory) held → WayComes session held (way_of session.id s call)
way_comes frames session s (OpenHandle nonblock) held stands reached may along kinds = tt
way_comes frames session s CloseHandle held stands reached may along kinds = comes_open session held _ tt s.opened
way_comes frames session s QueryCap held stands reached may along kinds = comes_open session held _ tt s.opened
way_comes frames session s (EnumFmt u i) held stands reached may along kinds = comes_open session held _ tt s.opened
way_comes frames session s (GFmt u) held stands reached may along kinds = comes_open session held _ tt s.opened
way_comes frames session s (TryFmt u f w h) held stands reached may along kinds = comes_open session held _ tt s.opened
way_comes frames session s (SFmt u f w h) held stands reached may along kinds = comes_open session held _ tt s.opened
way_comes frames session s (EnumInput i) held stands reached may along kinds = comes_open session held _ tt s.opened
way_comes frames session s GInput held stands reached may along kinds = comes_open session held _ tt s.opened
way_comes frames session s (SInput i) held stands reached may along kinds = comes_open session held _ tt s.opened
way_comes frames session s (ReqBufs u m n) held stands reached may along kinds = comes_open session held _ tt s.opened
way_comes frames session s (QueryBuf u i) held stands reached may along kinds = comes_open session held _ tt s.opened
way_comes frames session s (UAlloc u len off) held stands reached may along kinds = absurd (false≢true may)
way_comes frames session s (QBuf u i user used ts) held stands reached may along kinds = qbuf_comes frames session s u i used ts user held stands reached along kinds
way_comes frames session s (StreamOn u) held stands reached may along kinds = comes_open session held _ tt s.opened
way_comes frames session s (StreamOff u) held stands reached may along kinds = comes_open session held _ tt s.opened
way_comes frames session s (DqBuf u) held stands reached may along kinds = absurd (false≢true may)
way_comes frames session s (Mmap m u i ro) held stands reached may along kinds = comes_unless session held _ tt (first_refusal (row_of s 0 0 (Mmap m u i ro)).refusals)
way_comes frames session s (Munmap m) held stands reached may along kinds = comes_unless session held _ tt (first_refusal (row_of s 0 0 (Munmap m)).refusals)
way_comes frames session s (Peek m off len) held stands reached may along kinds = absurd (false≢true may)
way_comes frames session s (Hash m) held stands reached may along kinds = absurd (false≢true may)
way_comes frames session s (Poke m off bytes) held stands reached may along kinds = absurd (false≢true may)
way_comes frames session s (Fill m seed) held stands reached may along kinds = absurd (false≢true may)
way_comes frames session s (Subscribe e) held stands reached may along kinds = comes_open session held _ tt s.opened
way_comes frames session s (Unsubscribe e) held stands reached may along kinds = comes_open session held _ tt s.opened
way_comes frames session s DqEvent held stands reached may along kinds = absurd (false≢true may)

pub slice_comes : (frames : List ℕ) (session : SessionState) (job : Option JobParts) (earlier : List Unsent) (call : Call) (held : List Held)
    (code : IoctlCode) (payload : List ℕ) (user : Option UserPlace) (r s : LocalState) →
    IsSlice frames session job earlier None r s → may_cross call ≡ true → Along r call held →
    All (λ h. held_kind h.mem ≡ memory_number (queue_of r h.queue).memory) held →
    way_of session.id r call ≡ Crosses (record { command = Ioctl session.id code payload; user = user }) →
    Comes session code payload held
slice_comes frames session job earlier call held code payload user r s slice may along kinds way =
    let es : List Unsent = earlier ++ session.unsent in
    let there : IsReached s = all_reached session.id r s es slice.reached slice.leads in
    let ahead : Along s call held = along_ahead session.id r s call held es slice.reached slice.leads (ap crosses way) along in
    let here : All (λ h. held_kind h.mem ≡ memory_number (queue_of s h.queue).memory) held =
    All-weaker (λ (h : Held). held_kind h.mem ≡ memory_number (queue_of r h.queue).memory) (λ (h : Held). held_kind h.mem ≡ memory_number (queue_of s h.queue).memory)
    (λ h is. is ∙ ap memory_number (sym (kind_stays session.id r s h.queue es slice.reached slice.leads))) held kinds in
    subst (λ w. WayComes session held w) (ways_stay session.id r s call es slice.reached slice.leads may ∙ way) (way_comes frames session s call held slice.stands there may ahead here)
