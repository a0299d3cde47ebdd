-- The laws of the world: what each of its steps keeps, lowers and moves.
use Rattle.std.specs.Prelude.{ℕ, ◌≡◌, ◌≤◌, ◌<◌, ◌+◌, ◌*◌, ◌⊎◌, ◌↔◌, Bool, true, false, not, nat_lt, List, [], ◌∷◌, ◌++◌, Contains, length, Some, Ok, IfSome}
use Rattle.std.specs.List.{list_any}
use Rattle.vm_home.specs.Moves.{is_stopping}
use Rattle.vm_job.specs.Job.{DoneParts}
use Rattle.vm_local.specs.declared.call.Call.{Call}
use Rattle.vm_local.specs.declared.call.Call.TheVariants.{CloseHandle, QueryCap, EnumFmt, GFmt, TryFmt, SFmt, EnumInput, GInput, SInput, QueryBuf, StreamOn, StreamOff, Mmap, QBuf, UAlloc, Munmap, ReqBufs, Subscribe, Unsubscribe}
use Rattle.vm_local.specs.declared.entry.Entry.{Entry}
use Rattle.vm_local.specs.declared.entry.Entry.TheVariants.{Called}
use Rattle.vm_local.specs.declared.reply.Reply.{Reply}
use Rattle.vm_local.specs.Live.{is_of_device}
use Rattle.vm_script.specs.Script.{ScriptLines}
use Rattle.vm_script.specs.declared.line.LineKind.{LineKind}
use Rattle.vm_script.specs.declared.line.LineKind.TheVariants.{OnHandle, Raw}
use Rattle.vm_wire.specs.Message.Ask.{Judged}
use Rattle.vm_wire.specs.declared.command.Command.{Command}
use Rattle.vm_device.specs.Device.{DeviceState}
use Rattle.vm_device.specs.Perform.{HasPlaceFor, EachMadeFew, must_wait}
use Rattle.vm_host.specs.Chains.{named_session}
use Rattle.vm_guest.specs.Asking.{begins_with_events, ends_with_events}
use Rattle.vm_guest.specs.Events.{all_taken, CanTakeAll, CanSettle}
use Rattle.vm_guest.specs.Guest.{GuestState, process_at, with_process}
use Rattle.vm_guest.specs.Lines.{CanAnswer, AnsweredFor}
use Rattle.vm_wire.specs.Message.{Posting, Returning}
use Rattle.vm_guest.specs.Process.{ProcessState, begun, issuing, crossing, handle_at}
use Rattle.vm_guest.specs.Steps.{all_if}
use Rattle.vm_guest.specs.declared.asked.Statement.{Statement}
use Rattle.vm_realm.specs.declared.step.Step.{Step}
use Rattle.vm_realm.specs.declared.step.Step.TheVariants.{Issue, Execute, Resume, Begin, Finish, Announce, Collect, Pump, Lease, GiveBack}
use Rattle.vm_realm.specs.World.{WorldState, IsOpening, IsDone, statement_count}
use Rattle.vm_realm.specs.Enabled.{enabled, is_enabled, begins_line, waits}
use Rattle.vm_realm.specs.Steps.{Steps, Leads, DoesFinishWith}
use Rattle.vm_realm.specs.Left.{left_of, bad_count}
use Rattle.vm_realm.specs.Slice.{Slice, slice_at, SameEverywhere}
use Rattle.vm_realm.specs.Slice.Out.{Asked, Kept}
use Rattle.vm_realm.specs.SliceSteps.{SliceDoes, Takes, MovesOne, TakesNone, takes_by, IsDeviceOf, IsServed}
use Rattle.vm_realm.specs.Inner.{Inner}
use Rattle.vm_realm.specs.Places.{Spot, places_of, is_live, IsOncePlaced, AgreesWithOwners}
use Rattle.vm_realm.specs.Sound.{IsRunnable, IsSound, IsPosted, IsSoundSlice, IsHandle, IsWhole, IsWholeSlice}

-- ---- the list of steps

-- the list has just the steps that may come next
abbrev pub ListsEnabled : Type 0
ListsEnabled =
    (w : WorldState) (s : Step) → IsSound w → (is_enabled w s ≡ true) ↔ (Contains (enabled w) s)

-- ---- soundness

abbrev pub OpeningIsSound : Type 0
OpeningIsSound =
    (script : ScriptLines) (w : WorldState) → IsRunnable script → IsOpening script w → IsSound w

-- where no event is to be taken first, a step is one of one handle, or of none
abbrev pub StepMovesOne : Step → Type 0
StepMovesOne s =
    (w w' : WorldState) → IsSound w → TakesNone w s → Steps w s w' →
    MovesOne s w w' ⊎ SameEverywhere w w'

abbrev pub StepsMoveOne : Type 0
StepsMoveOne = (s : Step) → StepMovesOne s

-- the slice is sound, and the frames that its session had made before are still the first ones
abbrev pub GoesOnSoundly : Slice → Inner → Type 0
GoesOnSoundly x' v =
    (v' : Inner) × (more : List ℕ) × (v'.frames ≡ v.frames ++ more) × IsSoundSlice x' v'

-- A step keeps a sound slice. What the log, the handle and the session keep to by themselves their
-- own types keep.
abbrev pub StepKeepsSlice : Step → Type 0
StepKeepsSlice s =
    (x x' : Slice) (v : Inner) → IsSoundSlice x v → SliceDoes s x x' → IsWholeSlice x' →
    GoesOnSoundly x' v

-- So does a call that has to wait in the device; and one that it does, of those that pass the test.
abbrev pub WaitingKeepsSlice : Type 0
WaitingKeepsSlice =
    (x : Slice) (v : Inner) (m : Posting) (c : Command) (d : DeviceState) → IsSoundSlice x v →
    x.out ≡ Asked m → m.request.asks ≡ Judged (Ok c) → IsDeviceOf x d → must_wait d c ≡ true →
    GoesOnSoundly (record x { out = Kept m }) v

-- a call that the device does in a session, and that moves no memory
abbrev pub is_plain : Call → Bool
is_plain QueryCap = true
is_plain (EnumFmt t i) = true
is_plain (GFmt t) = true
is_plain (TryFmt t f w h) = true
is_plain (SFmt t f w h) = true
is_plain (EnumInput i) = true
is_plain GInput = true
is_plain (SInput i) = true
is_plain (QueryBuf t i) = true
is_plain (StreamOn t) = true
is_plain (Subscribe e) = true
is_plain (Unsubscribe e) = true
is_plain call = false

abbrev pub halts_queue : Call → Bool
halts_queue (ReqBufs t m n) = true
halts_queue (StreamOff t) = true
halts_queue call = false

-- a call that queues a buffer
abbrev pub queues_buffer : Call → Bool
queues_buffer (QBuf t i user used ts) = true
queues_buffer call = false

abbrev pub gives_mapping : Call → Bool
gives_mapping (Munmap m) = true
gives_mapping call = false

abbrev pub closes_handle : Call → Bool
closes_handle CloseHandle = true
closes_handle call = false

abbrev pub makes_mapping : Call → Bool
makes_mapping (Mmap m t i ro) = true
makes_mapping call = false

abbrev pub CallsKeepSlice : (Call → Bool) → Type 0
CallsKeepSlice test =
    (x x' : Slice) (v : Inner) (m : Posting) (c : Command) (d : DeviceState)
    (posted : IsPosted x m) → test posted.call ≡ true → IsSoundSlice x v →
    (x.out ≡ Asked m) ⊎ (x.out ≡ Kept m) → m.request.asks ≡ Judged (Ok c) → IsDeviceOf x d →
    must_wait d c ≡ false → IsServed m c d x x' → IsWholeSlice x' → GoesOnSoundly x' v

-- an event that is taken keeps all of it
abbrev pub TakingKeepsSlice : Type 0
TakingKeepsSlice =
    (x x' : Slice) (v : Inner) → IsSoundSlice x v → Takes x x' → GoesOnSoundly x' v

-- a step keeps a sound world, where both ends keep to themselves
abbrev pub StepKeepsSound : Step → Type 0
StepKeepsSound s = (w w' : WorldState) → IsSound w → Steps w s w' → IsWhole w' → IsSound w'

-- one that takes an event alone does so by itself
abbrev pub PumpKeepsSound : Type 0
PumpKeepsSound = (w w' : WorldState) → IsSound w → Steps w Pump w' → IsSound w'

-- so steps of every kind do
pub record EachKeepsSound : Type 0 where
  pub issue : (p : ℕ) → StepKeepsSound (Issue p)
  pub execute : StepKeepsSound Execute
  pub resume : (session : ℕ) → StepKeepsSound (Resume session)
  pub begin : (session : ℕ) → StepKeepsSound (Begin session)
  pub finish : (number : ℕ) → StepKeepsSound (Finish number)
  pub announce : StepKeepsSound Announce
  pub collect : StepKeepsSound Collect
  pub pump : PumpKeepsSound
  pub lease : (p : ℕ) → StepKeepsSound (Lease p)
  pub give_back : (p : ℕ) → StepKeepsSound (GiveBack p)

-- both ends keep to themselves
abbrev pub StepsKeepWhole : Type 0
StepsKeepWhole = (w w' : WorldState) (s : Step) → IsSound w → Steps w s w' → IsWhole w'

-- so each step leads from a sound world to a sound one
abbrev pub StepsKeepSound : Type 0
StepsKeepSound = (w w' : WorldState) (s : Step) → IsSound w → Steps w s w' → IsSound w'

-- and every list of steps does
abbrev pub RunsKeepSound : Type 0
RunsKeepSound =
    (w w' : WorldState) (steps : List Step) → IsSound w → Leads w steps w' → IsSound w'

-- ---- what each step asks

-- the driver once the events were taken that a statement's answer comes behind
abbrev pub behind_events : WorldState → LineKind → GuestState
behind_events w what = all_taken w.guest (all_if (ends_with_events what) w.events)

-- The first reply answers the line that is under way, behind the events that are taken first, and
-- what was held back can be delivered then.
pub record CanCollect (w : WorldState) (r : Returning) : Type 0 where
  pub statement : Statement
  pub under_way : crossing (process_at w.guest r.reply.who) ≡ Some statement
  pub answers : CanAnswer statement.line statement.what
      (process_at (behind_events w statement.what) r.reply.who) r
  pub settles : (p : ProcessState) →
      AnsweredFor statement.line statement.what
      (process_at (behind_events w statement.what) r.reply.who) r p →
      CanSettle statement.what
      (with_process (behind_events w statement.what) r.reply.who p) r.reply.who

-- Each event can be taken in its turn, the first reply can be collected, and there is a place for
-- what the first request adds, in a session of which no call waits.
pub record CanGoOn (w : WorldState) : Type 0 where
  pub events : CanTakeAll w.guest w.events
  pub reply : (r : Returning) (rs : List Returning) → w.replies ≡ r ∷ rs → CanCollect w r
  pub place : (m : Posting) (ms : List Posting) (c : Command) → w.requests ≡ m ∷ ms →
      m.request.asks ≡ Judged (Ok c) → HasPlaceFor w.host.device c
  pub alone : (m : Posting) (ms : List Posting) (c : Command) → w.requests ≡ m ∷ ms →
      m.request.asks ≡ Judged (Ok c) → IfSome (named_session c) (λ id. waits w.host id ≡ false)
  pub frames : EachMadeFew w.host.device

abbrev pub SoundCanGoOn : Type 0
SoundCanGoOn = (w : WorldState) → IsSound w → CanGoOn w

-- each step that may come next can be done
abbrev pub EnabledCanBeDone : Type 0
EnabledCanBeDone =
    (w : WorldState) (s : Step) → IsSound w → is_enabled w s ≡ true →
    (w' : WorldState) × Steps w s w'

-- ---- logs

-- the script stays, and each log goes on from what it was
pub record GoesOn (w w' : WorldState) : Type 0 where
  pub script : w'.script ≡ w.script
  pub logs : (n h : ℕ) → IsHandle w n h →
      (more : List Entry) × ((handle_at (process_at w'.guest n) h).log.entries
      ≡ (handle_at (process_at w.guest n) h).log.entries ++ more)

abbrev pub LogsGrow : Type 0
LogsGrow = (w w' : WorldState) (s : Step) → IsSound w → Steps w s w' → GoesOn w w'

-- ---- how many steps there are

-- each step lowers what is left
abbrev pub LeftFalls : Type 0
LeftFalls = (w w' : WorldState) (s : Step) → IsSound w → Steps w s w' → left_of w' < left_of w

abbrev pub OpeningLeft : Type 0
OpeningLeft =
    (script : ScriptLines) (w : WorldState) → IsOpening script w →
    left_of w ≤ 12 * statement_count script

-- so, as both ends keep to themselves, no run has more than 12 steps for each statement
abbrev pub RunsEnd : Type 0
RunsEnd =
    (script : ScriptLines) (w w' : WorldState) (steps : List Step) → IsRunnable script →
    IsOpening script w → Leads w steps w' → length steps ≤ 12 * statement_count script

-- ---- no stall

-- where a line isn't answered, some step may come next
abbrev pub NoStall : Type 0
NoStall = (w : WorldState) → IsSound w → ¬ (IsDone w) → nat_lt 0 (length (enabled w)) ≡ true

-- a line of the process was begun, and isn't answered
abbrev pub IsBusy : ProcessState → Type 0
IsBusy p = p.answered < begun p

-- and where one was begun, some step may come next that begins no other one
abbrev pub NoStallOnceBegun : Type 0
NoStallOnceBegun =
    (w : WorldState) (n : ℕ) → IsSound w → IsBusy (process_at w.guest n) →
    list_any (λ s. not (begins_line s)) (enabled w) ≡ true

-- ---- frames that fail

-- a job that comes back bad is one frame more that failed; a good one is none
abbrev pub one_unless : Bool → ℕ
one_unless true = 0
one_unless false = 1

abbrev pub FinishCounts : Type 0
FinishCounts =
    (w w' : WorldState) (number : ℕ) (done : DoneParts) → IsSound w →
    DoesFinishWith done number w w' → bad_count w' ≡ bad_count w + one_unless done.good

-- and no other step changes how many did
abbrev pub is_finish : Step → Bool
is_finish (Finish number) = true
is_finish s = false

abbrev pub OthersCountNone : Type 0
OthersCountNone =
    (w w' : WorldState) (s : Step) → IsSound w → Steps w s w' → is_finish s ≡ false →
    bad_count w' ≡ bad_count w

-- ---- places

-- in a sound slice each live memory is at one place, which is the driver's where the log says so
abbrev pub MemoriesHavePlaces : Type 0
MemoriesHavePlaces =
    (x : Slice) (v : Inner) → IsSoundSlice x v → IsOncePlaced x v × AgreesWithOwners x v

-- the beginning of the line moves a memory or makes one
abbrev pub moves_begun : LineKind → Bool
moves_begun (OnHandle h (QBuf t i user used ts)) = true
moves_begun (OnHandle h (UAlloc u len off)) = true
moves_begun what = false

-- its answer may let a memory go, or bring some back
abbrev pub lets_go : Call → Bool
lets_go (Munmap m) = true
lets_go call = is_stopping call

abbrev pub moves_answered : LineKind → Bool
moves_answered (OnHandle h call) = lets_go call
moves_answered (Raw chain) = false

abbrev pub moves_collected : GuestState → List Returning → Bool
moves_collected g [] = false
moves_collected g (r ∷ rs) =
    takes_by (crossing (process_at g r.reply.who)) (λ s. moves_answered s.what)

-- the steps that move memories of themselves, and not by the events that they deliver
abbrev pub moves_memory : WorldState → Step → Bool
moves_memory w (Issue n) = takes_by (issuing (process_at w.guest n)) (λ s. moves_begun s.what)
moves_memory w Collect = moves_collected w.guest w.replies
moves_memory w s = true

-- the step delivers no event to the handle in a place of a process
abbrev pub DeliversNone : WorldState → Step → ℕ → ℕ → Type 0
DeliversNone w s n h = TakesNone w s × (s ≡ Collect → (slice_at w n h).held ≡ [])

-- each memory that a handle still has stays at its place in all other steps
abbrev pub PlacesStay : Type 0
PlacesStay =
    (w w' : WorldState) (s : Step) (n h m : ℕ) (v v' : Inner) (spot : Spot) →
    IsSound w → Steps w s w' → moves_memory w s ≡ false → DeliversNone w s n h →
    IsSoundSlice (slice_at w n h) v → IsSoundSlice (slice_at w' n h) v' →
    is_live (slice_at w' n h) v' m ≡ true →
    Contains (places_of (slice_at w n h) v) (record { spot = spot; number = m })
    ↔ Contains (places_of (slice_at w' n h) v') (record { spot = spot; number = m })

-- the device does a command
abbrev pub does_command : Step → Bool
does_command Execute = true
does_command (Resume session) = true
does_command s = false

-- frames are made by a reqbufs alone, where it is done
abbrev pub FramesAreMade : Type 0
FramesAreMade =
    (w w' : WorldState) (s : Step) (n h m : ℕ) (v v' : Inner) → IsSound w → Steps w s w' →
    IsSoundSlice (slice_at w n h) v → IsSoundSlice (slice_at w' n h) v' →
    is_of_device v.ahead m ≡ false → is_of_device v'.ahead m ≡ true →
    (line : ℕ) × (t : ℕ) × (k : ℕ) × (count : ℕ) × (reply : Reply) × (does_command s ≡ true)
    × (v'.executed ≡ Some (Called line (ReqBufs t k count) reply))

-- A memory that a handle has it has no more only once no buffer and no name has it. So it may be
-- where a name is bound anew, and where a dqbuf takes a user's memory whose name was bound anew.
abbrev pub drops_begun : LineKind → Bool
drops_begun (OnHandle h (UAlloc u len off)) = true
drops_begun what = begins_with_events what

-- else it is where a call is answered that stops queues, gives a mapping back or makes one
abbrev pub makes_name : Call → Bool
makes_name (Mmap m t i ro) = true
makes_name call = lets_go call

abbrev pub drops_answered : LineKind → Bool
drops_answered (OnHandle h call) = makes_name call
drops_answered (Raw chain) = false

abbrev pub drops_collected : GuestState → List Returning → Bool
drops_collected g [] = false
drops_collected g (r ∷ rs) =
    takes_by (crossing (process_at g r.reply.who)) (λ s. drops_answered s.what)

-- and where an event is taken that a dqbuf waits for
abbrev pub may_drop : WorldState → Step → Bool
may_drop w (Issue n) = takes_by (issuing (process_at w.guest n)) (λ s. drops_begun s.what)
may_drop w Collect = drops_collected w.guest w.replies
may_drop w Pump = true
may_drop w s = false

abbrev pub MemoriesAreDropped : Type 0
MemoriesAreDropped =
    (w w' : WorldState) (s : Step) (n h m : ℕ) (v v' : Inner) → IsSound w → Steps w s w' →
    IsSoundSlice (slice_at w n h) v → IsSoundSlice (slice_at w' n h) v' →
    is_live (slice_at w n h) v m ≡ true → is_live (slice_at w' n h) v' m ≡ false →
    may_drop w s ≡ true
