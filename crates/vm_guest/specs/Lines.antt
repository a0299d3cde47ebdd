-- What a statement's beginning and its answer do to its process.
use Rattle.std.specs.Prelude.{ℕ, ◌≡◌, ◌≢◌, ◌≤◌, Bool, true, false, List, Option, Some, None, IsSome, length, slice_set}
use Rattle.v4l_const.specs.declared.errno.Errno.{Errno}
use Rattle.v4l_rules.specs.Refusals.{first_refusal}
use Rattle.vm_frame.specs.declared.mem.Held.{Held}
use Rattle.vm_home.specs.Moves.{goes_along}
use Rattle.vm_lease.specs.Lease.{LeaseParts}
use Rattle.vm_local.specs.declared.call.Call.{Call}
use Rattle.vm_local.specs.declared.reply.Reply.{Reply}
use Rattle.vm_log.specs.Answers.{with_line, Sends, Leases, given_back}
use Rattle.vm_log.specs.LegalLog.{LogState, state_of}
use Rattle.vm_log.specs.declared.leased.Leased.{Leased}
use Rattle.vm_log.specs.declared.leased.Leased.TheVariants.{Out, Answered as Refused, Idle as Untouched}
use Rattle.vm_script.specs.declared.line.LineKind.{LineKind}
use Rattle.vm_script.specs.declared.line.LineKind.TheVariants.{OnHandle, Raw}
use Rattle.vm_wire.specs.Wire.{response_len, response_of}
use Rattle.vm_wire.specs.declared.command.Command.{Command}
use Rattle.vm_wire.specs.declared.response.Response.{Response}
use Rattle.vm_exchange.specs.Exchange.{IsAnswer, command_in}
use Rattle.vm_exchange.specs.declared.way.Way.{Way}
use Rattle.vm_exchange.specs.declared.way.Way.TheVariants.{Crosses, AnsweredHere, Waits, TouchesMemory}
use Rattle.vm_handle.specs.Answers.{row_from, AnswersHere, AnswersWith, with_reply}
use Rattle.vm_handle.specs.Handle.{HandleState, way_from, crossing_from}
use Rattle.vm_handle.specs.declared.stage.Stage.TheVariants.{Underway, Waiting}
use Rattle.vm_wire.specs.Message.{Returning}
use Rattle.vm_guest.specs.Message.{Sending, OfCall, OfRaw}
use Rattle.vm_guest.specs.Raw.{errno_told}
use Rattle.vm_guest.specs.declared.asked.Asked.{Asked}
use Rattle.vm_guest.specs.declared.status.Status.TheVariants.{Crossing, Blocked, Lent}
use Rattle.vm_guest.specs.Process.{ProcessState, handle_at, with_handle, with_log, current_call, doing, rested}

-- ---- a statement is begun

-- A handle's call crosses, and this memory goes along.
pub record GoesOut (h : HandleState) (line : ℕ) (call : Call) (along : Option Held)
    (h' : HandleState) : Type 0 where
  pub log : LogState
  pub sends : Sends (goes_along (state_of h.log) call) (with_line h.log) call along log
  pub after : h' ≡ record h { log = log; stage = Underway line call }

-- A handle answers a call itself.
pub record AnswersItself (h : HandleState) (line : ℕ) (call : Call)
    (h' : HandleState) : Type 0 where
  pub log : LogState
  pub answers : AnswersHere (with_line h.log) line call log
  pub after : h' ≡ record h { log = log }

-- A dqbuf waits on its handle.
abbrev pub waiting : HandleState → ℕ → Call → HandleState
waiting h line call = record h { log = with_line h.log; stage = Waiting line call }

-- A call on a handle is begun in this way: its command is sent; or the driver answers it; or the
-- process is blocked in it. One that touches a memory's bytes isn't begun so.
abbrev pub BeginsCall : Way → ℕ → ℕ → Call → ProcessState → ProcessState → Option Sending → Type 0
BeginsCall (Crosses c) line h call p p' sends =
    (along : Option Held) × (handle : HandleState) × GoesOut (handle_at p h) line call along handle
    × (p' ≡ doing Crossing (with_handle p h handle)) × (sends ≡ Some (OfCall c along))
BeginsCall AnsweredHere line h call p p' sends =
    (handle : HandleState) × AnswersItself (handle_at p h) line call handle
    × (p' ≡ rested (with_handle p h handle)) × (sends ≡ None)
BeginsCall Waits line h call p p' sends =
    (p' ≡ doing Blocked (with_handle p h (waiting (handle_at p h) line call))) × (sends ≡ None)
BeginsCall TouchesMemory line h call p p' sends = ⊥

-- A statement is begun. A raw line's chain is sent as it is.
abbrev pub Begins : ℕ → LineKind → ProcessState → ProcessState → Option Sending → Type 0
Begins line (OnHandle h call) p p' sends =
    BeginsCall (way_from (handle_at p h) call) line h call p p' sends
Begins line (Raw chain) p p' sends = (p' ≡ doing Crossing p) × (sends ≡ Some (OfRaw chain))

-- a statement that is begun sends a chain
abbrev pub sends_by : Way → Bool
sends_by (Crosses c) = true
sends_by AnsweredHere = false
sends_by Waits = false
sends_by TouchesMemory = false

abbrev pub sends_in : ProcessState → LineKind → Bool
sends_in p (OnHandle h call) = sends_by (way_from (handle_at p h) call)
sends_in p (Raw chain) = true

-- ---- a statement is answered by the device

-- the command by which a call crosses from its handle, if it does
abbrev pub command_for : ProcessState → ℕ → Call → Option Command
command_for p h call = command_in (crossing_from (handle_at p h) call)

-- The bytes are long enough for a response to the command, and the call may have it, with these
-- memories.
pub record MayAnswer (h : HandleState) (line : ℕ) (call : Call) (c : Command)
    (r : Returning) : Type 0 where
  pub enough : response_len c r.reply.bytes ≤ length r.reply.bytes
  pub may : AnswersWith (state_of h.log) line call (response_of c r.reply.bytes) r.held

-- its handle has logged this reply, for which the response stands, and these memories came with it
abbrev pub replied : ProcessState → ℕ → ℕ → Call → Reply → Response → List Held → ProcessState
replied p line h call reply response held =
    rested (with_handle p h (with_reply (handle_at p h) line call reply response held))

-- A call on a handle is answered: it has a reply for which the response stands, and the process is
-- as each such reply leaves it; there is one alone.
pub record CallAnswered (line h : ℕ) (call : Call) (p : ProcessState) (r : Returning)
    (p' : ProcessState) : Type 0 where
  pub command : Command
  pub crossed : command_for p h call ≡ Some command
  pub may : MayAnswer (handle_at p h) line call command r
  pub after : (reply : Reply)
      → IsAnswer (state_of (handle_at p h).log) line call (response_of command r.reply.bytes) reply
      → p' ≡ replied p line h call reply (response_of command r.reply.bytes) r.held

-- A raw line is answered by the errno that the reply tells.
abbrev pub RawAnswered : ProcessState → Returning → ProcessState → Type 0
RawAnswered p r p' =
    (errno : Errno) × (errno_told r.reply.bytes ≡ Some errno)
    × (p' ≡ rested (record p { raws = slice_set p.raws p.answered (Some errno) }))

-- a statement is answered by what came back
abbrev pub AnsweredFor : ℕ → LineKind → ProcessState → Returning → ProcessState → Type 0
AnsweredFor line (OnHandle h call) p r p' = CallAnswered line h call p r p'
AnsweredFor line (Raw chain) p r p' = RawAnswered p r p'

-- what came back for a raw line is empty, or a refusal
abbrev pub AnswersRaw : Returning → Type 0
AnswersRaw r =
    (length r.reply.bytes ≢ 0 → 8 ≤ length r.reply.bytes) × IsSome (errno_told r.reply.bytes)

-- what came back answers a statement
abbrev pub CanAnswer : ℕ → LineKind → ProcessState → Returning → Type 0
CanAnswer line (OnHandle h call) p r =
    (command : Command) × (command_for p h call ≡ Some command)
    × MayAnswer (handle_at p h) line call command r
CanAnswer line (Raw chain) p r = AnswersRaw r

-- ---- a line touches a memory's bytes

-- what the process does then: its memory is out, or the line is refused
abbrev pub after_lease : Leased → ProcessState → ProcessState
after_lease (Out lease) p = doing Lent p
after_lease Refused p = rested p
after_lease Untouched p = p

-- The call is refused, or its memory goes out.
abbrev pub LeasesCall : Asked → ProcessState → Leased → ProcessState → Type 0
LeasesCall a p leased p' =
    (log : LogState)
    × Leases (first_refusal (row_from (handle_at p a.handle).log a.line a.call).refusals)
    (with_line (handle_at p a.handle).log) a.line a.call leased log
    × (p' ≡ after_lease leased (with_log p a.handle log))

abbrev pub returned_to : ProcessState → Option Asked → LeaseParts → ProcessState
returned_to p None lease = p
returned_to p (Some a) lease =
    rested (with_log p a.handle (given_back (handle_at p a.handle).log lease))

-- the lease comes back: its memory is at home, and its line is answered
abbrev pub returned : ProcessState → LeaseParts → ProcessState
returned p lease = returned_to p (current_call p) lease
