-- The laws of sessions that stand for handles, and of the messages that are under way.
use Rattle.std.specs.Prelude.{ℕ, ◌≡◌, ◌≤◌, ◌<◌, ◌||◌, not, false, if◌then◌else◌, Bool, true, List, [], ◌∷◌, ◌++◌, Option, Some, None, Result, Ok, Err, IsTrue, length, map, slice_get}
use Rattle.std.specs.List.{range_with_len}
use Rattle.v4l_const.specs.declared.errno.Errno.{Errno}
use Rattle.v4l_rules.specs.Refusals.{first_refusal}
use Rattle.vm_frame.specs.declared.mem.Held.{Held}
use Rattle.vm_job.specs.Job.{JobParts, DoneParts, HasPicture, CameBack}
use Rattle.vm_wire.specs.Buffers.{buffer_offset, qbuf_request, IsQueuedBuffer}
use Rattle.vm_wire.specs.declared.command.Command.{Command}
use Rattle.vm_wire.specs.declared.command.Command.TheVariants.{Ioctl}
use Rattle.vm_wire.specs.declared.response.Response.TheVariants.{Answered}
use Rattle.vm_local.specs.declared.call.Call.{Call}
use Rattle.vm_local.specs.declared.call.Call.TheVariants.{CloseHandle, ReqBufs, QBuf, Mmap, Munmap, Subscribe, Unsubscribe}
use Rattle.vm_local.specs.declared.entry.Entry.TheVariants.{Give}
use Rattle.vm_local.specs.declared.reply.Reply.{Reply}
use Rattle.vm_local.specs.declared.reply.Reply.TheVariants.{Refused}
use Rattle.v4l_format.specs.Fmt.{picture_size}
use Rattle.vm_local.specs.State.{QueueState, LocalState, queue_of, buffer_of}
use Rattle.vm_local.specs.Kinds.{is_idle}
use Rattle.vm_local.specs.Memory.{bytes_of}
use Rattle.vm_local.specs.Queue.{is_user_ptr, memory_kind, granted, can_finish}
use Rattle.vm_local.specs.Calls.{row_of, opened_anew, closed}
use Rattle.vm_local.specs.Log.{IsCall, after, replay_from}
use Rattle.vm_commute.specs.Commute.{may_cross, is_open, is_stopping, SameButEvents}
use Rattle.vm_home.specs.Home.{IsMemory}
use Rattle.vm_home.specs.Moves.{ComeBack, goes_along}
use Rattle.vm_home.specs.Reached.{IsReached}
use Rattle.vm_exchange.specs.declared.way.Way.{Way}
use Rattle.vm_exchange.specs.declared.way.Way.TheVariants.{Crosses}
use Rattle.vm_exchange.specs.Exchange.{memory_number, buffer_queued, way_of, response_to}
use Rattle.vm_exchange.specs.Range.{AreWords}
use Rattle.vm_session.specs.declared.running.Running.{Running}
use Rattle.vm_session.specs.declared.unsent.Unsent.{Unsent}
use Rattle.vm_session.specs.State.{SessionState, opening_session, is_quiet}
use Rattle.vm_session.specs.Buffers.{frame_tag, queued_memories, memory_kind as held_kind, ComesWith}
use Rattle.vm_session.specs.Mapped.{frame_of}
use Rattle.vm_session.specs.Rows.{IoctlRow, IoctlAnswer, outcome_of, ioctl_outcome, qbuf_row}
use Rattle.vm_session.specs.Sound.{IsSound}
use Rattle.vm_session.specs.Streaming.{can_begin, next_job, begun, events_of, finished, sent}
use Rattle.vm_stands.specs.Stands.{Stands, IsNext}
use Rattle.vm_exchange.specs.Messages.{flight_of}
use Rattle.vm_stands.specs.Flight.{LeadAll}

-- ---- messages

-- messages that lead from one state to another stand for steps that do so
abbrev pub MessagesAreSteps : Type 0
MessagesAreSteps =
    (id : ℕ) (s t : LocalState) (es : List Unsent) → LeadAll id s es t →
    replay_from s (flight_of s.model (map (λ e. e.msg) es)) ≡ Some t

-- a session that sends a message stands for what it stood for
abbrev pub SendingKeeps : Type 0
SendingKeeps = (frames : List ℕ) (session : SessionState) (s : LocalState) →
    Stands frames session s → Stands frames (sent session) s

-- the step that gives what is owed is nothing to a session
abbrev pub GivingKeeps : Type 0
GivingKeeps =
    (frames : List ℕ) (session : SessionState) (s t : LocalState) →
    IsReached s → after s Give ≡ Some t → Stands frames session s → Stands frames session t

-- and so are subscription and events
abbrev pub EventsKeep : Type 0
EventsKeep =
    (frames : List ℕ) (session : SessionState) (s t : LocalState) →
    SameButEvents s t → Stands frames session s → Stands frames session t

-- ---- jobs

-- a session can begin a job where no job of it runs and the frame is possible in the state
abbrev pub CanBegin : Type 0
CanBegin =
    (frames : List ℕ) (session : SessionState) (s : LocalState) →
    Stands frames session s → IsSound session → session.running ≡ None →
    can_begin session ≡ can_finish s

-- the job that it begins is that frame, and the session stands for the same state
abbrev pub BeginsNext : Type 0
BeginsNext =
    (frames : List ℕ) (session : SessionState) (s : LocalState) (number : ℕ) →
    Stands frames session s → IsSound session → IsReached s → can_begin session ≡ true →
    (job : JobParts) × (next_job session number ≡ Some job) × IsNext s job
    × Stands frames (begun session number) s

-- Once the job is done, its messages lead from the state to another one, by a finished frame or by
-- a failed one, and the session stands for that. Nothing is owed then, as before.
abbrev pub FinishesNext : Type 0
FinishesNext =
    (frames : List ℕ) (session : SessionState) (s : LocalState) (r : Running) (job : JobParts)
    (done : DoneParts) →
    Stands frames session s → IsSound session → IsReached s → s.owed ≡ [] →
    session.running ≡ Some r → IsNext s job →
    CameBack job done → (IsTrue done.good → HasPicture done.job) →
    (t : LocalState) × LeadAll session.id s (events_of session r done) t
    × Stands frames (finished session done) t × (t.owed ≡ [])

-- A job that runs goes on being the frame that is possible in the state: where what is owed first
-- is given, where events alone differ, and where a call is made that stops no queue.
abbrev pub GivingKeepsNext : Type 0
GivingKeepsNext = (s t : LocalState) (job : JobParts) → IsReached s → after s Give ≡ Some t →
    IsNext s job → IsNext t job

abbrev pub EventsKeepNext : Type 0
EventsKeepNext = (s t : LocalState) (job : JobParts) → SameButEvents s t → IsNext s job →
    IsNext t job

abbrev pub CallsKeepNext : Type 0
CallsKeepNext =
    (s t : LocalState) (line : ℕ) (call : Call) (reply : Reply) (job : JobParts) →
    IsReached s → may_cross call ≡ true → is_open call ≡ false → is_stopping call ≡ false →
    IsCall s line call reply t → IsNext s job → IsNext t job

-- ---- calls

-- the numbers of the memories of the frames that a call makes
abbrev pub frames_by : LocalState → Call → List ℕ
frames_by s (ReqBufs t m n) =
    if is_user_ptr (memory_kind m) then [] else range_with_len (length s.memories) (granted n)
frames_by s call = []

-- What a call comes to in the session is what it comes to in the handle: it is refused alike; or
-- else the payload is that of the reply, the memories that come back are the call's, and the
-- session after stands for the handle after.
abbrev pub AnswersAs : List ℕ → SessionState → ℕ → LocalState → Call → Result IoctlAnswer Errno →
    Type 0
AnswersAs frames session line s call (Err e) = IsCall s line call (Refused e) s
AnswersAs frames session line s call (Ok a) =
    (reply : Reply) × (t : LocalState) × IsCall s line call reply t
    × (response_to session.id s call reply ≡ Answered a.payload)
    × ComeBack s t call a.back × Stands (frames ++ frames_by s call) a.next t

-- a call that doesn't stop queues, with its row in a session; a job may run and messages may be
-- unsent
abbrev pub IsServed : Call → (SessionState → IoctlRow) → Type 0
IsServed call row =
    (frames : List ℕ) (session : SessionState) (line : ℕ) (s : LocalState) (memory : Bool) →
    Stands frames session s → IsSound session → IsReached s →
    AnswersAs frames session line s call (outcome_of memory (row session))

-- a call that does, in a quiet session
abbrev pub IsServedAtRest : Call → (SessionState → IoctlRow) → Type 0
IsServedAtRest call row =
    (frames : List ℕ) (session : SessionState) (line : ℕ) (s : LocalState) (memory : Bool) →
    Stands frames session s → IsSound session → IsReached s → is_quiet session ≡ true →
    s.owed ≡ [] →
    AnswersAs frames session line s call (outcome_of memory (row session))

-- a call that the session refuses, whether it is quiet or not, the handle refuses so
abbrev pub IsRefusedAlike : Call → (SessionState → IoctlRow) → Type 0
IsRefusedAlike call row =
    (frames : List ℕ) (session : SessionState) (line : ℕ) (s : LocalState) (e : Errno) →
    Stands frames session s → first_refusal (row session).refusals ≡ Some e →
    IsCall s line call (Refused e) s

-- the memory of the buffer that a call queues goes along with it
pub record GoesAlong (s : LocalState) (call : Call) (t i : ℕ) (h : Held) : Type 0 where
  pub number : ℕ
  pub along : goes_along s call ≡ Some number
  pub queue : h.queue ≡ t
  pub index : h.index ≡ i
  pub memory : IsMemory s number h.mem

-- a memory is as long as its buffer, and a picture of the queue's format goes into it: where the
-- device made it, and where the buffer isn't Idle
abbrev pub is_held : QueueState → ℕ → Bool
is_held q i = not (is_user_ptr q.memory) || not (is_idle (buffer_of q i).state)

pub record HasLengths (s : LocalState) : Type 0 where
  pub fits : (t i : ℕ) → i < length (queue_of s t).buffers → is_held (queue_of s t) i ≡ true
      → picture_size (queue_of s t).format ≤ (buffer_of (queue_of s t) i).length
  pub long : (t i m : ℕ) → is_held (queue_of s t) i ≡ true →
      (buffer_of (queue_of s t) i).memory ≡ Some m
      → length (bytes_of s m) ≡ (buffer_of (queue_of s t) i).length

abbrev pub MemoriesHaveLengths : Type 0
MemoriesHaveLengths = (s : LocalState) → IsReached s → HasLengths s

-- Where the driver doesn't refuse a qbuf, its record comes with its memory, if that is of the
-- queue's kind.
abbrev pub QBufComesWith : Type 0
QBufComesWith =
    (frames : List ℕ) (session : SessionState) (line : ℕ) (s : LocalState) (t i used ts : ℕ)
    (user : Option (List ℕ)) (h : Held) →
    Stands frames session s → IsReached s →
    first_refusal (row_of s line 0 (QBuf t i user used ts)).refusals ≡ None →
    GoesAlong s (QBuf t i user used ts) t i h →
    held_kind h.mem ≡ memory_number (queue_of s t).memory →
    ComesWith session (qbuf_request s.model (buffer_queued s t i user used ts)) (h ∷ [])

-- A qbuf crosses where the driver doesn't refuse it, and then the session doesn't either.
abbrev pub QBufIsServed : Type 0
QBufIsServed =
    (frames : List ℕ) (session : SessionState) (line : ℕ) (s : LocalState) (memory : Bool)
    (t i used ts : ℕ) (user : Option (List ℕ)) (h : Held) →
    Stands frames session s → IsSound session → IsReached s →
    first_refusal (row_of s line 0 (QBuf t i user used ts)).refusals ≡ None →
    GoesAlong s (QBuf t i user used ts) t i h →
    (a : IoctlAnswer)
    × (outcome_of memory
    (qbuf_row session (qbuf_request s.model (buffer_queued s t i user used ts)) (h ∷ [])) ≡ Ok a)
    × AnswersAs frames session line s (QBuf t i user used ts) (Ok a)

-- ---- mappings

-- A buffer that may be mapped is mapped from its offset: the session has a frame there, of the
-- buffer's length. Its tag tells how many frames the session had made before it, and so it is the
-- frame of the buffer's memory.
abbrev pub MapsAlike : Type 0
MapsAlike =
    (frames : List ℕ) (session : SessionState) (line : ℕ) (s : LocalState) (m : List ℕ) (t i : ℕ)
    (ro : Bool) →
    Stands frames session s → IsReached s →
    first_refusal (row_of s line 0 (Mmap m t i ro)).refusals ≡ None →
    (before : ℕ)
    × (frame_of session (buffer_offset t i)
    ≡ Ok (frame_tag session.id before, (buffer_of (queue_of s t) i).length))
    × ((buffer_of (queue_of s t) i).memory ≡ slice_get frames before)

-- names are nothing to a session
abbrev pub names_alone : Call → Bool
names_alone (Mmap m t i ro) = true
names_alone (Munmap m) = true
names_alone call = false

abbrev pub NamesKeep : Type 0
NamesKeep =
    (frames : List ℕ) (session : SessionState) (s t : LocalState) (line : ℕ) (call : Call)
    (reply : Reply) →
    names_alone call ≡ true → IsCall s line call reply t → Stands frames session s →
    Stands frames session t

-- ---- the driver's own calls

-- The messages that are under way lead on from the state after a call that never crosses, too: to a
-- state for which the session stands, in which what is owed is as it was, and in which a job that
-- runs is the frame that is possible. The session's unsent messages are the last of those under
-- way.
abbrev pub OwnCallsKeep : Type 0
OwnCallsKeep =
    (frames : List ℕ) (session : SessionState) (r s after : LocalState) (line : ℕ) (call : Call)
    (reply : Reply) (earlier : List Unsent) →
    Stands frames session s → IsSound session → IsReached r →
    LeadAll session.id r (earlier ++ session.unsent) s →
    may_cross call ≡ false → IsCall r line call reply after →
    (ahead : LocalState) × LeadAll session.id after (earlier ++ session.unsent) ahead
    × Stands frames session ahead × (ahead.owed ≡ s.owed)
    × ((job : JobParts) → IsNext s job → IsNext ahead job)

-- ---- open and close

-- a session that was opened stands for the handle that was opened, whatever its state was
abbrev pub OpensAlike : Type 0
OpensAlike = (id : ℕ) (s : LocalState) (nonblock : Bool) →
    Stands [] (opening_session s.model id) (opened_anew s nonblock)

-- what a quiet session holds when it is closed comes back
abbrev pub ClosesAlike : Type 0
ClosesAlike =
    (frames : List ℕ) (session : SessionState) (s : LocalState) →
    Stands frames session s → IsSound session → IsReached s → is_quiet session ≡ true →
    s.owed ≡ [] →
    ComeBack s (closed s) CloseHandle (queued_memories session.queues)

-- ---- the commands with which calls cross

-- the memory that crosses with a call is that of the buffer which a qbuf queues
abbrev pub Along : LocalState → Call → List Held → Type 0
Along s (QBuf t i user used ts) held =
    (h : Held) × (held ≡ h ∷ []) × GoesAlong s (QBuf t i user used ts) t i h
    × IsQueuedBuffer (buffer_queued s t i user used ts)
Along s call held = held ≡ []

-- the calls that say which events a handle wants
abbrev pub is_subscription : Call → Bool
is_subscription (Subscribe e) = true
is_subscription (Unsubscribe e) = true
is_subscription call = false

-- the outcome of an ioctl is what the call comes to in the handle
abbrev pub CommandAnswers : List ℕ → SessionState → ℕ → LocalState → Call → Bool → List Held →
    Command → Type 0
CommandAnswers frames session line s call memory held (Ioctl id code payload) =
    (id ≡ session.id)
    × AnswersAs frames session line s call (ioctl_outcome memory session code payload held)
CommandAnswers frames session line s call memory held command = Unit {0}

abbrev pub WayAnswers : List ℕ → SessionState → ℕ → LocalState → Call → Bool → List Held → Way →
    Type 0
WayAnswers frames session line s call memory held (Crosses c) =
    CommandAnswers frames session line s call memory held c.command
WayAnswers frames session line s call memory held way = Unit {0}

-- So it is for each call that crosses by an ioctl, from the bytes of its payload; a call that stops
-- queues is made in a quiet session.
abbrev pub IoctlsAreAnswered : Type 0
IoctlsAreAnswered =
    (frames : List ℕ) (session : SessionState) (line : ℕ) (s : LocalState) (call : Call)
    (memory : Bool) (held : List Held) →
    Stands frames session s → IsSound session → IsReached s → AreWords call → Along s call held →
    (is_stopping call ≡ true → (is_quiet session ≡ true) × (s.owed ≡ [])) →
    WayAnswers frames session line s call memory held (way_of session.id s call)
