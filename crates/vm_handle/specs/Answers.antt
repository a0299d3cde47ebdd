-- What the calls of a handle answer.
use Rattle.std.specs.Prelude.{ℕ, ◌≡◌, ◌⊎◌, true, List, [], ◌∷◌, ◌++◌, Option, Some, None, length, drop}
use Rattle.v4l_const.specs.declared.errno.Errno.{Errno}
use Rattle.v4l_const.specs.declared.errno.Errno.TheVariants.{Enomem}
use Rattle.v4l_rules.specs.Refusals.{first_refusal}
use Rattle.vm_frame.specs.declared.mem.Held.{Held}
use Rattle.vm_frame.specs.declared.mem.Mem.{Mem}
use Rattle.vm_frame.specs.declared.mem.Mem.TheVariants.{OfUser}
use Rattle.vm_sg.specs.UserMemory.{user_memory}
use Rattle.vm_wire.specs.Wire.{IsCommand, MayFollow}
use Rattle.vm_wire.specs.declared.event.EventMsg.{EventMsg}
use Rattle.vm_wire.specs.declared.response.Response.{Response}
use Rattle.vm_wire.specs.declared.response.Response.TheVariants.{Opened}
use Rattle.vm_local.specs.declared.call.Call.{Call}
use Rattle.vm_local.specs.declared.call.Call.TheVariants.{OpenHandle, UAlloc}
use Rattle.vm_local.specs.declared.entry.Entry.{Entry}
use Rattle.vm_local.specs.declared.entry.Entry.TheVariants.{Give}
use Rattle.vm_local.specs.declared.reply.Reply.{Reply}
use Rattle.vm_local.specs.declared.reply.Reply.TheVariants.{Done, Refused}
use Rattle.vm_local.specs.State.{LocalState}
use Rattle.vm_local.specs.Calls.{Row, row_of}
use Rattle.vm_local.specs.Log.{IsCall}
use Rattle.vm_home.specs.Moves.{goes_along, ComeWith}
use Rattle.vm_log.specs.LegalLog.{LogState, state_of, with_entry}
use Rattle.vm_log.specs.Answers.{with_line, answered_with, replied, Sends, given_with}
use Rattle.vm_exchange.specs.declared.crossing.Crossing.{Crossing}
use Rattle.vm_exchange.specs.declared.way.Way.{Way}
use Rattle.vm_exchange.specs.declared.way.Way.TheVariants.{Crosses, AnsweredHere, Waits, TouchesMemory}
use Rattle.vm_exchange.specs.Entries.{bytes_behind, crossing_bytes}
use Rattle.vm_exchange.specs.Exchange.{response_to}
use Rattle.vm_handle.specs.declared.stage.Stage.{Stage}
use Rattle.vm_handle.specs.declared.stage.Stage.TheVariants.{AtRest, Underway, Waiting}
use Rattle.vm_handle.specs.declared.started.Started.{Started}
use Rattle.vm_handle.specs.declared.started.Started.TheVariants.{Answered, Send, Wait}
use Rattle.vm_handle.specs.Handle.{HandleState, way_from}
use Rattle.vm_exchange.specs.Messages.{made_by}

-- ---- answered without the device

-- the user memory that a line's call makes
abbrev pub makes : ℕ → Call → List (Option Mem)
makes line (UAlloc u len off) = Some (OfUser (user_memory line len off)) ∷ []
makes line call = []

-- the row of a line's call from the state of the log
abbrev pub row_from : LogState → ℕ → Call → Row
row_from l line call = row_of (state_of l) line 0 call

abbrev pub answered_by : Option Errno → LogState → ℕ → Call → LogState
answered_by (Some errno) l line call = answered_with l line call (Refused errno) l.home
answered_by None l line call =
    answered_with l line call (row_from l line call).reply (l.home ++ makes line call)

-- the log once a call is answered by the first refusal of its row that applies, or else by the
-- row's reply
abbrev pub answered_here : LogState → ℕ → Call → LogState
answered_here l line call = answered_by (first_refusal (row_from l line call).refusals) l line call

-- No refusal applies, but memory is wanting: the call is of those that may be refused so.
pub record LacksMemory (l : LogState) (line : ℕ) (call : Call) (new : LogState) : Type 0 where
  pub unrefused : first_refusal (row_from l line call).refusals ≡ None
  pub may : (row_from l line call).may_lack_memory ≡ true
  pub new_is : new ≡ answered_with l line call (Refused Enomem) l.home

-- a call is answered without the device
abbrev pub AnswersHere : LogState → ℕ → Call → LogState → Type 0
AnswersHere l line call new = (new ≡ answered_here l line call) ⊎ LacksMemory l line call new

-- ---- a call is begun

-- what crosses is a command whose numbers fit into their fields, with what may stand behind it
abbrev pub IsCrossing : Crossing → Type 0
IsCrossing c = IsCommand c.command × MayFollow c.command (bytes_behind c.user)

-- these memories, and behind them one that goes along
abbrev pub with_sent : List Held → Option Held → List Held
with_sent held None = held
with_sent held (Some h) = held ++ h ∷ []

-- A call crosses: its bytes stand at the front, the memory that goes along behind those that are
-- there, and it is underway.
pub record GoesOver (c : Crossing) (h : HandleState) (line : ℕ) (call : Call) (out : List ℕ)
    (held : List Held) (started : Started) (h' : HandleState) (out' : List ℕ)
    (held' : List Held) : Type 0 where
  pub along : Option Held
  pub log : LogState
  pub sends : Sends (goes_along (state_of h.log) call) (with_line h.log) call along log
  pub answer : started ≡ Send (length (crossing_bytes c))
  pub handle : h' ≡ record h { log = log; stage = Underway line call }
  pub bytes : out' ≡ crossing_bytes c ++ drop (length (crossing_bytes c)) out
  pub memories : held' ≡ with_sent held along

-- A call is answered without the device, and logged so.
pub record StaysHere (h : HandleState) (line : ℕ) (call : Call) (out : List ℕ) (held : List Held)
    (started : Started) (h' : HandleState) (out' : List ℕ) (held' : List Held) : Type 0 where
  pub log : LogState
  pub answers : AnswersHere (with_line h.log) line call log
  pub answer : started ≡ Answered
  pub handle : h' ≡ record h { log = log }
  pub bytes : out' ≡ out
  pub memories : held' ≡ held

-- A line's call is begun. Where it waits, nothing is logged.
abbrev pub Starts : Way → HandleState → ℕ → Call → List ℕ → List Held → Started → HandleState →
    List ℕ → List Held → Type 0
Starts (Crosses c) h line call out held started h' out' held' =
    GoesOver c h line call out held started h' out' held'
Starts AnsweredHere h line call out held started h' out' held' =
    StaysHere h line call out held started h' out' held'
Starts Waits h line call out held started h' out' held' =
    (started ≡ Wait) × (h' ≡ record h { log = with_line h.log; stage = Waiting line call }) ×
    (out' ≡ out) × (held' ≡ held)
Starts TouchesMemory h line call out held started h' out' held' = ⊥

-- ---- a call is answered by the device

-- From this state the call may have this reply, this is the device's answer then, and these
-- memories come with it.
pub record AnswersWith (s : LocalState) (line : ℕ) (call : Call) (response : Response)
    (held : List Held) : Type 0 where
  pub reply : Reply
  pub next : LocalState
  pub session : ℕ
  pub is_call : IsCall s line call reply next
  pub told : response ≡ response_to session s call reply
  pub memories : ComeWith s next call reply held

-- the session's id once a call is answered: an open that is answered ok brings one
abbrev pub session_from : Option ℕ → Call → Reply → Response → Option ℕ
session_from session (OpenHandle nonblock) Done (Opened id) = Some id
session_from session call reply response = session

-- the handle once the call that is underway is answered so
abbrev pub with_reply : HandleState → ℕ → Call → Reply → Response → List Held → HandleState
with_reply h line call reply response held = record {
  log = replied h.log line call reply held;
  session = session_from h.session call reply response;
  stage = AtRest;
}

-- ---- a message is delivered

-- steps of the device that bring no memory are logged
abbrev pub with_steps : LogState → List Entry → LogState
with_steps l [] = l
with_steps l (e ∷ es) = with_steps (with_entry l e l.home) es

-- what is owed first is given: a buffer with its memory, or an event
abbrev pub with_given : LogState → Option Held → LogState
with_given l None = with_entry l Give l.home
with_given l (Some held) = given_with l held.mem

-- the line is answered once its call has an answer here
abbrev pub answered_at : Way → HandleState → ℕ → Call → HandleState
answered_at AnsweredHere h line call =
    record h { log = answered_here h.log line call; stage = AtRest }
answered_at way h line call = h

-- A call that waits is answered once it has an answer: that is once a buffer of its queue is done.
abbrev pub awoken : Stage → HandleState → HandleState
awoken AtRest h = h
awoken (Underway line call) h = h
awoken (Waiting line call) h = answered_at (way_from h call) h line call

-- the handle once a message is delivered: its steps are logged, and right behind them a call that
-- waited for its buffer
abbrev pub delivered : HandleState → EventMsg → Option Held → HandleState
delivered h msg held =
    awoken h.stage (record h {
      log = with_given
          (with_steps h.log (made_by (state_of h.log).model msg)) held;
    })
