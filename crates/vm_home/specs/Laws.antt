-- The laws of memories, of all states that legal logs lead to.
use Rattle.std.specs.Prelude.{ℕ, ◌≡◌, ◌+◌, ◌≤◌, false, true, Bool, List, [], ◌∷◌, ◌++◌, Option, Some, None, length, replicate, slice_set}
use Rattle.v4l_rules.specs.Refusals.{first_refusal}
use Rattle.vm_frame.specs.Mem.{mem_bytes}
use Rattle.vm_frame.specs.declared.mem.Held.{Held}
use Rattle.vm_frame.specs.declared.mem.Mem.{Mem}
use Rattle.vm_lease.specs.Lease.{IsDoneOn}
use Rattle.vm_local.specs.declared.call.Call.{Call}
use Rattle.vm_local.specs.declared.call.Call.TheVariants.{OpenHandle, UAlloc, QBuf}
use Rattle.vm_local.specs.declared.entry.Entry.{Entry}
use Rattle.vm_local.specs.declared.entry.Entry.TheVariants.{Give}
use Rattle.vm_local.specs.declared.owed.Owed.{Owed}
use Rattle.vm_local.specs.declared.owed.OwedItem.TheVariants.{Buffer as OwedBuffer}
use Rattle.vm_local.specs.declared.reply.Reply.{Reply}
use Rattle.vm_local.specs.declared.reply.Reply.TheVariants.{Done, Pages}
use Rattle.vm_local.specs.State.{LocalState}
use Rattle.vm_local.specs.Memory.{is_just}
use Rattle.vm_local.specs.Calls.{row_of}
use Rattle.vm_local.specs.Log.{called, after}
use Rattle.vm_home.specs.Home.{home_of, IsMemory, IsThere, AreInPlace}
use Rattle.vm_home.specs.Moves.{is_refusal, moves_at, memory_at, goes_along, touches_bytes, touched, is_stopping, ComeBack, home_with}
use Rattle.vm_home.specs.Reached.{IsReached, HasOneOwner}
use Rattle.vm_home.specs.ToCome.{entries_to_come, entries_added, IsStep}

-- no refusal of the call's row applies
abbrev pub IsUnrefused : LocalState → Call → Type 0
IsUnrefused s call = (line addr : ℕ) → first_refusal (row_of s line addr call).refusals ≡ None

-- each memory has one owner
abbrev pub EachHasOneOwner : Type 0
EachHasOneOwner = (s : LocalState) → IsReached s → HasOneOwner s

-- an entry that moves no memory leaves all in their places
abbrev pub OthersStay : Type 0
OthersStay =
    (s t : LocalState) (e : Entry) (out : Option ℕ) (home : List (Option Mem)) →
    IsReached s → moves_at s e ≡ false → after s e ≡ Some t → AreInPlace s out home →
    AreInPlace t out home

-- ---- to the device, and back

-- A buffer that may be queued has its memory at home. It goes along with the call.
abbrev pub QueuedGoesAlong : Type 0
QueuedGoesAlong =
    (s : LocalState) (t i used ts : ℕ) (user : Option (List ℕ)) (home : List (Option Mem)) →
    IsReached s → IsUnrefused s (QBuf t i user used ts) → AreInPlace s None home →
    (m : ℕ) × (goes_along s (QBuf t i user used ts) ≡ Some m) × IsThere s m (home_of home m)
    × AreInPlace s (Some m) (slice_set home m None)

-- once the call is answered it is the device's
abbrev pub QueuedStaysAway : Type 0
QueuedStaysAway =
    (s next : LocalState) (line t i used ts : ℕ) (user : Option (List ℕ))
    (home : List (Option Mem)) →
    IsReached s → called s line (QBuf t i user used ts) Done ≡ Some next →
    AreInPlace s (goes_along s (QBuf t i user used ts)) home → AreInPlace next None home

-- a buffer that is given has its memory at home
abbrev pub GivenComesHome : Type 0
GivenComesHome =
    (s next : LocalState) (t i : ℕ) (owed : List Owed) (mem : Mem) (out : Option ℕ)
    (home : List (Option Mem)) →
    IsReached s → s.owed ≡ record { queue = t; item = OwedBuffer i } ∷ owed →
    after s Give ≡ Some next →
    IsMemory s (memory_at s t i) mem → is_just out (memory_at s t i) ≡ false →
    AreInPlace s out home → AreInPlace next out (slice_set home (memory_at s t i) (Some mem))

-- so have the buffers of queues that are stopped, and those that are made
abbrev pub StoppedComeHome : Type 0
StoppedComeHome =
    (s next : LocalState) (line : ℕ) (call : Call) (reply : Reply) (held : List Held)
    (home : List (Option Mem)) →
    IsReached s → is_stopping call ≡ true → is_refusal reply ≡ false →
    called s line call reply ≡ Some next →
    ComeBack s next call held → AreInPlace s None home →
    AreInPlace next None (home_with s call held home)

-- ---- made

-- a handle that was opened has no memories
abbrev pub OpenHasNone : Type 0
OpenHasNone =
    (s next : LocalState) (line : ℕ) (nonblock : Bool) →
    called s line (OpenHandle nonblock) Done ≡ Some next → AreInPlace next None []

-- user memory that was made is at home, behind all others
abbrev pub MadeIsHome : Type 0
MadeIsHome =
    (s next : LocalState) (line len off pages : ℕ) (u : List ℕ) (mem : Mem)
    (home : List (Option Mem)) →
    IsReached s → called s line (UAlloc u len off) (Pages pages) ≡ Some next →
    mem_bytes mem ≡ replicate len 0 →
    AreInPlace s None home → AreInPlace next None (home ++ Some mem ∷ [])

-- ---- lent

-- a line that may touch a memory has it at home
abbrev pub TouchedIsHome : Type 0
TouchedIsHome =
    (s : LocalState) (call : Call) (home : List (Option Mem)) →
    touches_bytes call ≡ true → IsUnrefused s call → AreInPlace s None home →
    IsThere s (touched s call) (home_of home (touched s call))

-- The call's work on it is the entry: the call has its reply, and the memory is at home with the
-- bytes that it left.
abbrev pub TouchedComesHome : Type 0
TouchedComesHome =
    (s : LocalState) (line : ℕ) (call : Call) (before after : Mem) (reply : Reply)
    (home : List (Option Mem)) →
    IsReached s → touches_bytes call ≡ true → IsUnrefused s call →
    IsMemory s (touched s call) before → IsDoneOn call before after reply →
    AreInPlace s (Some (touched s call)) home →
    (next : LocalState) × (called s line call reply ≡ Some next)
    × AreInPlace next None (slice_set home (touched s call) (Some after))

-- ---- counted

-- a call makes at most 32 memories, and only one that queues a buffer brings entries to come, three
-- at most
abbrev pub CallAddsFew : Type 0
CallAddsFew =
    (s t : LocalState) (line : ℕ) (call : Call) (reply : Reply) →
    called s line call reply ≡ Some t →
    (length t.memories ≤ length s.memories + 32) ×
    (entries_to_come t ≤ entries_to_come s + entries_added call)

-- a step of the device makes none, and is one of those that were to come
abbrev pub StepTakesOne : Type 0
StepTakesOne =
    (s t : LocalState) (e : Entry) → IsReached s → IsStep e → after s e ≡ Some t →
    (length t.memories ≡ length s.memories) × (entries_to_come t + 1 ≤ entries_to_come s)
