-- What is so of all states, of their records, and of all calls.
use Rattle.std.specs.Prelude.{ℕ, ◌≡◌, ◌≤◌, ◌<◌, ◌^◌, true, false, List, Option, Some, None, length}
use Rattle.v4l_rules.specs.Refusals.{first_refusal}
use Rattle.vm_commute.specs.Commute.{may_cross}
use Rattle.vm_home.specs.Moves.{touches_bytes}
use Rattle.vm_local.specs.declared.call.Call.{Call}
use Rattle.vm_local.specs.declared.call.Call.TheVariants.{QBuf}
use Rattle.vm_local.specs.declared.entry.Entry.{Entry}
use Rattle.vm_local.specs.declared.reply.Reply.{Reply}
use Rattle.vm_local.specs.State.{LocalState}
use Rattle.vm_local.specs.Same.{address_in}
use Rattle.vm_local.specs.Calls.{row_of}
use Rattle.vm_local.specs.Log.{IsCall, after}
use Rattle.vm_local.specs.Record.{without_bytes}
use Rattle.vm_sg.specs.Wire.{entries_in}
use Rattle.vm_wire.specs.Buffers.{IsQueuedBuffer}
use Rattle.vm_wire.specs.Wire.{IsCommand, MayFollow, Answers}
use Rattle.vm_wire.specs.declared.response.Response.{Response}
use Rattle.vm_wire.specs.declared.response.Response.TheVariants.{Opened}
use Rattle.vm_exchange.specs.declared.crossing.Crossing.{Crossing}
use Rattle.vm_exchange.specs.declared.user_place.UserPlace.{UserPlace}
use Rattle.vm_exchange.specs.declared.way.Way.TheVariants.{AnsweredHere, Waits, TouchesMemory}
use Rattle.vm_exchange.specs.Entries.{entries_of, bytes_behind, crossing_bytes}
use Rattle.vm_exchange.specs.Exchange.{buffer_queued, way_of, crossing_of, response_to, IsAnswer}
use Rattle.vm_exchange.specs.Range.{IsInRange, AreWords, HasWords, IsOffered}

-- ---- the record of a state says what the state says

abbrev pub WaysAreAlike : Type 0
WaysAreAlike =
    (session : ℕ) (s : LocalState) (call : Call) →
    way_of session (without_bytes s) call ≡ way_of session s call

abbrev pub ResponsesAreAlike : Type 0
ResponsesAreAlike =
    (session : ℕ) (s : LocalState) (call : Call) (reply : Reply) →
    response_to session (without_bytes s) call reply ≡ response_to session s call reply

-- an answer from the state is one from its record
abbrev pub AnswersAreAlike : Type 0
AnswersAreAlike =
    (s : LocalState) (line : ℕ) (call : Call) (response : Response) (reply : Reply) →
    may_cross call ≡ true → IsAnswer s line call response reply →
    IsAnswer (without_bytes s) line call response reply

-- ---- numbers in range

-- an entry whose numbers are words leaves them in range
abbrev pub EntriesStayInRange : Type 0
EntriesStayInRange =
    (s t : LocalState) (e : Entry) → IsInRange s → HasWords e → after s e ≡ Some t → IsInRange t

-- a reply that a call may have from a state in range is one that the device offers
abbrev pub RepliesAreOffered : Type 0
RepliesAreOffered =
    (s t : LocalState) (line : ℕ) (call : Call) (reply : Reply) →
    IsInRange s → IsCall s line call reply t → IsOffered call reply

-- ---- the ways of calls

abbrev pub MayCrossWhereCrosses : Type 0
MayCrossWhereCrosses =
    (session : ℕ) (s : LocalState) (call : Call) (c : Crossing) →
    crossing_of session s call ≡ Some c → may_cross call ≡ true

abbrev pub TouchesExactly : Type 0
TouchesExactly =
    (session : ℕ) (s : LocalState) (call : Call) →
    (touches_bytes call ≡ true → way_of session s call ≡ TouchesMemory)
    × (way_of session s call ≡ TouchesMemory → touches_bytes call ≡ true)

-- where a call waits no refusal of its row applies, and it has no reply yet
abbrev pub WaitsWhereUnanswered : Type 0
WaitsWhereUnanswered =
    (session : ℕ) (s : LocalState) (line addr : ℕ) (call : Call) →
    way_of session s call ≡ Waits →
    (first_refusal (row_of s line addr call).refusals ≡ None)
    × ((row_of s line addr call).waits ≡ true)

-- a call that is answered without the device is refused, or has its row's reply at once
abbrev pub AnsweredAtOnce : Type 0
AnsweredAtOnce =
    (session : ℕ) (s : LocalState) (line addr : ℕ) (call : Call) →
    way_of session s call ≡ AnsweredHere → first_refusal (row_of s line addr call).refusals ≡ None →
    (row_of s line addr call).waits ≡ false

-- ---- what crosses

-- Its numbers fit, what stands behind it may stand there, and both go into a page.
pub record Fits (c : Crossing) : Type 0 where
  pub command : IsCommand c.command
  pub behind : MayFollow c.command (bytes_behind c.user)
  pub size : length (crossing_bytes c) ≤ 4096

abbrev pub CrossingsFit : Type 0
CrossingsFit =
    (session : ℕ) (s : LocalState) (call : Call) (c : Crossing) →
    session < 2 ^ 32 → IsInRange s → crossing_of session s call ≡ Some c → Fits c

-- so do the numbers of a buffer that is queued
abbrev pub QueuedBuffersFit : Type 0
QueuedBuffersFit =
    (s : LocalState) (t i used ts : ℕ) (user : Option (List ℕ)) →
    IsInRange s → AreWords (QBuf t i user used ts) → i < 32 →
    IsQueuedBuffer (buffer_queued s t i user used ts)

-- The device's answer is one that the command may have, where the session that an open brings and
-- the address that a mapping brings fit.
abbrev pub AnswersFit : Type 0
AnswersFit =
    (session : ℕ) (s : LocalState) (line : ℕ) (call : Call) (c : Crossing) (response : Response)
    (reply : Reply) →
    IsInRange s → crossing_of session s call ≡ Some c → IsAnswer s line call response reply →
    ((id : ℕ) → response ≡ Opened id → id < 2 ^ 32) → address_in reply < 2 ^ 64 →
    Answers c.command response

-- the entries of user memory are read as they were written
abbrev pub EntriesAreReadAgain : Type 0
EntriesAreReadAgain =
    (place : UserPlace) → place.line < 2 ^ 32 → place.length ≤ 925696 → place.off ≤ 4095 →
    entries_in (bytes_behind (Some place)) ≡ entries_of place
