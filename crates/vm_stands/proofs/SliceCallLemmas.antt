-- A call that crosses while messages are under way.
use Rattle.std.proofs.Common.{◌≡◌, ℕ, Bool, true, false, List, [], ◌++◌, Option, Some, None, Result, Ok, Err, refl, sym, ap, ◌∙◌, subst}
use Rattle.std.proofs.lemmas.Bool.{false≢true}
use Rattle.v4l_const.specs.declared.errno.Errno.{Errno}
use Rattle.v4l_const.specs.declared.ioctl_code.IoctlCode.{IoctlCode}
use Rattle.v4l_const.specs.declared.ioctl_code.IoctlCode.TheVariants.{QueryCap as QueryCapCode, EnumFmt as EnumFmtCode, GFmt as GFmtCode, SFmt as SFmtCode, TryFmt as TryFmtCode, EnumInput as EnumInputCode, GInput as GInputCode, SInput as SInputCode, ReqBufs as ReqBufsCode, QueryBuf as QueryBufCode, QBuf as QBufCode, StreamOn as StreamOnCode, StreamOff as StreamOffCode, SubscribeEvent as SubscribeCode, UnsubscribeEvent as UnsubscribeCode}
use Rattle.v4l_rules.specs.Refusals.{first_refusal}
use Rattle.vm_frame.specs.declared.mem.Held.{Held}
use Rattle.vm_job.specs.Job.{JobParts}
use Rattle.vm_wire.specs.declared.command.Command.{Command}
use Rattle.vm_wire.specs.declared.command.Command.TheVariants.{Ioctl}
use Rattle.vm_local.specs.declared.call.Call.{Call}
use Rattle.vm_local.specs.declared.call.Call.TheVariants.{OpenHandle, QBuf}
use Rattle.vm_local.specs.declared.reply.Reply.TheVariants.{Refused}
use Rattle.vm_local.specs.State.{LocalState}
use Rattle.vm_local.specs.Calls.{row_of}
use Rattle.vm_commute.specs.Commute.{may_cross, is_open, is_stopping}
use Rattle.vm_home.specs.Reached.{IsReached}
use Rattle.vm_exchange.specs.declared.user_place.UserPlace.{UserPlace}
use Rattle.vm_exchange.specs.declared.way.Way.{Way}
use Rattle.vm_exchange.specs.declared.way.Way.TheVariants.{Crosses, AnsweredHere, Waits, TouchesMemory}
use Rattle.vm_exchange.specs.Exchange.{unless_by, qbuf_crossing, way_of}
use Rattle.vm_exchange.specs.Range.{AreWords}
use Rattle.vm_session.specs.declared.unsent.Unsent.{Unsent}
use Rattle.vm_session.specs.State.{SessionState, is_quiet}
use Rattle.vm_session.specs.Rows.{IoctlRow, IoctlAnswer, ioctl_row, ioctl_outcome, outcome_of, refused_or, refusal_of, querycap_row, enumfmt_row, gfmt_row, tryfmt_row, sfmt_row, enuminput_row, ginput_row, sinput_row, reqbufs_row, querybuf_row, qbuf_row, streamon_row, streamoff_row, subscribe_row, unsubscribe_row}
use Rattle.vm_session.specs.Sound.{IsSound}
use Rattle.vm_stands.specs.Flight.{LeadAll}
use Rattle.vm_stands.specs.Laws.{AnswersAs, frames_by, Along, WayAnswers}
use Rattle.vm_stands.specs.Slice.{IsSlice, GoesOn, Goes, Stops}
use Rattle.vm_stands.proofs.IoctlLemmas.{ioctls_are_answered}
use Rattle.vm_stands.proofs.SliceLemmas.{slice_executes, slice_refuses, slice_stops, all_reached}
use Rattle.vm_stands.proofs.AheadLemmas.{stopping_crosses}
use Rattle.vm_stands.proofs.StillLemmas.{ways_stay, responses_stay, along_stays}

-- ---- what an ioctl leaves as it is

record Runs (session next : SessionState) : Type 0 where
  id : next.id ≡ session.id
  unsent : next.unsent ≡ session.unsent

row_runs : (s : SessionState) (code : IoctlCode) (p : List ℕ) (held : List Held) → Runs s (ioctl_row s code p held).next
unfolding querycap_row enumfmt_row gfmt_row tryfmt_row sfmt_row enuminput_row ginput_row sinput_row reqbufs_row querybuf_row qbuf_row streamon_row streamoff_row subscribe_row unsubscribe_row
row_runs s QueryCapCode p held = record { id = refl; unsent = refl }
row_runs s EnumFmtCode p held = record { id = refl; unsent = refl }
row_runs s GFmtCode p held = record { id = refl; unsent = refl }
row_runs s TryFmtCode p held = record { id = refl; unsent = refl }
row_runs s SFmtCode p held = record { id = refl; unsent = refl }
row_runs s EnumInputCode p held = record { id = refl; unsent = refl }
row_runs s GInputCode p held = record { id = refl; unsent = refl }
row_runs s SInputCode p held = record { id = refl; unsent = refl }
row_runs s ReqBufsCode p held = record { id = refl; unsent = refl }
row_runs s QueryBufCode p held = record { id = refl; unsent = refl }
row_runs s QBufCode p held = record { id = refl; unsent = refl }
row_runs s StreamOnCode p held = record { id = refl; unsent = refl }
row_runs s StreamOffCode p held = record { id = refl; unsent = refl }
row_runs s SubscribeCode p held = record { id = refl; unsent = refl }
row_runs s UnsubscribeCode p held = record { id = refl; unsent = refl }

abbrev is_done : Result IoctlAnswer Errno → Bool
is_done (Ok a) = true
is_done (Err e) = false

abbrev next_of : Result IoctlAnswer Errno → SessionState → SessionState
next_of (Ok a) other = a.next
next_of (Err e) other = other

outcome_next : (memory : Bool) (r : IoctlRow) (a : IoctlAnswer) → outcome_of memory r ≡ Ok a → a.next ≡ r.next
outcome_next memory r a is = by_refusal (refusal_of memory r) is
  where
    by_refusal : (o : Option Errno) → refused_or o (record { payload = r.payload; back = r.back; next = r.next }) ≡ Ok a → a.next ≡ r.next
    by_refusal None is = sym (ap (λ o. next_of o r.next) is)
    by_refusal (Some e) is = absurd (false≢true (ap is_done is))

ioctl_runs : (memory : Bool) (s : SessionState) (code : IoctlCode) (p : List ℕ) (held : List Held) (a : IoctlAnswer) → ioctl_outcome memory s code p held ≡ Ok a → Runs s a.next
ioctl_runs memory s code p held a is = subst (λ x. Runs s x) (sym (outcome_next memory (ioctl_row s code p held) a is)) (row_runs s code p held)

-- ---- what crosses, in the state ahead

abbrev pub crosses : Way → Bool
crosses (Crosses c) = true
crosses AnsweredHere = false
crosses Waits = false
crosses TouchesMemory = false

qbuf_passes : (way : Way) (o : Option Errno) → crosses (unless_by o way) ≡ true → o ≡ None
qbuf_passes way None is = refl
qbuf_passes way (Some e) is = absurd (false≢true is)

pub along_ahead : (id : ℕ) (r s : LocalState) (call : Call) (held : List Held) (es : List Unsent) → IsReached r → LeadAll id r es s → crosses (way_of id r call) ≡ true →
    Along r call held → Along s call held
along_ahead id r s (QBuf t i user used ts) held es reached leads is along =
    along_stays id r s (QBuf t i user used ts) held es reached leads
    (qbuf_passes (Crosses (qbuf_crossing id r t i user used ts)) (first_refusal (row_of r 0 0 (QBuf t i user used ts)).refusals) is) along
along_ahead id r s call held es reached leads is along = along

-- ---- the call

slice_answered : (frames : List ℕ) (session : SessionState) (job : Option JobParts) (earlier : List Unsent) (line : ℕ) (call : Call) (r s : LocalState) (o : Result IoctlAnswer Errno) →
    IsSlice frames session job earlier None r s → may_cross call ≡ true → is_open call ≡ false → is_stopping call ≡ false →
    ((a : IoctlAnswer) → o ≡ Ok a → GoesOn session a.next) → AnswersAs frames session line s call o → Goes frames session job earlier line call r s o
slice_answered frames session job earlier line call r s (Err e) slice may opens never goes calls =
    let same : GoesOn session session = record { id = refl; unsent = refl; sound = slice.sound } in
    let by : _ = slice_executes frames frames session session job earlier line call (Refused e) r s s slice (rw (may, opens, never) refl) never calls slice.stands same in
    (by.0, by.1, sym (responses_stay session.id r s call by.0 (Refused e) (earlier ++ session.unsent) slice.reached slice.leads by.2), by.3)
slice_answered frames session job earlier line call r s (Ok a) slice may opens never goes (reply, t, calls, payload, back, stands) =
    let by : _ = slice_executes frames (frames ++ frames_by s call) session a.next job earlier line call reply r s t slice (rw (may, opens, never) refl) never calls stands (goes a refl) in
    (by.0, by.1, sym (responses_stay session.id r s call by.0 reply (earlier ++ session.unsent) slice.reached slice.leads by.2) ∙ payload, by.3)

abbrev is_ioctl : Command → Bool
is_ioctl (Ioctl id code payload) = true
is_ioctl command = false

abbrev is_ioctl_way : Way → Bool
is_ioctl_way (Crosses c) = is_ioctl c.command
is_ioctl_way way = false

no_open : (id : ℕ) (r : LocalState) (call : Call) → is_ioctl_way (way_of id r call) ≡ true → is_open call ≡ false
no_open id r (OpenHandle nonblock) is = absurd (false≢true is)
no_open id r call is = refl

pub slice_answers : (frames : List ℕ) (session : SessionState) (job : Option JobParts) (earlier : List Unsent) (line : ℕ) (call : Call) (memory : Bool)
    (held : List Held) (code : IoctlCode) (payload : List ℕ) (user : Option UserPlace) (r s : LocalState) →
    IsSlice frames session job earlier None r s → may_cross call ≡ true → is_stopping call ≡ false → AreWords call →
    Along r call held → way_of session.id r call ≡ Crosses (record { command = Ioctl session.id code payload; user = user }) →
    ((a : IoctlAnswer) → ioctl_outcome memory session code payload held ≡ Ok a → IsSound a.next) →
    Goes frames session job earlier line call r s (ioctl_outcome memory session code payload held)
slice_answers frames session job earlier line call memory held code payload user r s slice may never words along way sound =
    let es : List Unsent = earlier ++ session.unsent in
    let there : IsReached s = all_reached session.id r s es slice.reached slice.leads in
    let ahead : Along s call held = along_ahead session.id r s call held es slice.reached slice.leads (ap crosses way) along in
    let answers : WayAnswers frames session line s call memory held (way_of session.id s call) =
    ioctls_are_answered frames session line s call memory held slice.stands slice.sound there words ahead (λ stops. absurd (false≢true (sym never ∙ stops))) in
    let both : _ = subst (λ w. WayAnswers frames session line s call memory held w) (ways_stay session.id r s call es slice.reached slice.leads may ∙ way) answers in
    slice_answered frames session job earlier line call r s (ioctl_outcome memory session code payload held) slice may (no_open session.id r call (ap is_ioctl_way way)) never
    (λ a is.
    let runs : Runs session a.next = ioctl_runs memory session code payload held a is in
    record { id = runs.id; unsent = runs.unsent; sound = sound a is })
    both.1

-- ---- a call that stops

no_along : (s : LocalState) (call : Call) → is_stopping call ≡ true → Along s call []
no_along s (QBuf t i user used ts) stops = absurd (false≢true stops)
no_along s call stops = refl

stop_answered : (frames : List ℕ) (session : SessionState) (earlier : List Unsent) (line : ℕ) (call : Call) (r s : LocalState) (o : Result IoctlAnswer Errno) →
    IsSlice frames session None earlier None r s → is_stopping call ≡ true →
    ((a : IoctlAnswer) → o ≡ Ok a → GoesOn session a.next) → AnswersAs frames session line s call o → Stops frames session earlier line call r s o
stop_answered frames session earlier line call r s (Err e) slice stops goes calls = slice_refuses frames session None earlier line call e r s slice stops calls
stop_answered frames session earlier line call r s (Ok a) slice stops goes (reply, t, calls, payload, back, stands) = (
  reply,
  t,
  payload,
  back,
  slice_stops frames (frames ++ frames_by s call) session a.next earlier line call reply r s t slice stops calls stands (goes a refl),
)

pub slice_stops_for : (frames : List ℕ) (session : SessionState) (earlier : List Unsent) (line : ℕ) (call : Call) (memory : Bool)
    (code : IoctlCode) (payload : List ℕ) (user : Option UserPlace) (r s : LocalState) →
    IsSlice frames session None earlier None r s → is_stopping call ≡ true → is_quiet session ≡ true → AreWords call →
    way_of session.id r call ≡ Crosses (record { command = Ioctl session.id code payload; user = user }) →
    ((a : IoctlAnswer) → ioctl_outcome memory session code payload [] ≡ Ok a → IsSound a.next) →
    Stops frames session earlier line call r s (ioctl_outcome memory session code payload [])
slice_stops_for frames session earlier line call memory code payload user r s slice stops quiet words way sound =
    let es : List Unsent = earlier ++ session.unsent in
    let there : IsReached s = all_reached session.id r s es slice.reached slice.leads in
    let answers : WayAnswers frames session line s call memory [] (way_of session.id s call) =
    ioctls_are_answered frames session line s call memory [] slice.stands slice.sound there words (no_along s call stops) (λ _. (quiet, slice.owed)) in
    let both : _ = subst (λ w. WayAnswers frames session line s call memory [] w) (ways_stay session.id r s call es slice.reached slice.leads (stopping_crosses call stops) ∙ way) answers in
    stop_answered frames session earlier line call r s (ioctl_outcome memory session code payload []) slice stops
    (λ a is.
    let runs : Runs session a.next = ioctl_runs memory session code payload [] a is in
    record { id = runs.id; unsent = runs.unsent; sound = sound a is })
    both.1
