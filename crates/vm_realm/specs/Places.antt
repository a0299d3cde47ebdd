-- Where the memories of a handle are.
use Rattle.std.specs.Prelude.{ℕ, ◌≡◌, ◌⊎◌, ◌↔◌, ◌||◌, Bool, true, false, List, [], ◌∷◌, ◌++◌, Contains, length, map, take, drop, is_some, Option, Some, None}
use Rattle.std.specs.List.{filter_map, range_with_len}
use Rattle.std.specs.Option.{option_to_list}
use Rattle.vm_mem.specs.Lists.{occurrences}
use Rattle.vm_marks.specs.Marks.{places_of as marked_places}
use Rattle.vm_frame.specs.Mem.{mem_bytes}
use Rattle.vm_frame.specs.declared.mem.Held.{Held}
use Rattle.vm_frame.specs.declared.mem.Mem.{Mem}
use Rattle.vm_job.specs.Job.{JobParts}
use Rattle.vm_lease.specs.declared.lease_out.LeaseOut.{LeaseOut}
use Rattle.vm_local.specs.declared.entry.Entry.{Entry}
use Rattle.vm_local.specs.declared.entry.Entry.TheVariants.{Called}
use Rattle.vm_local.specs.State.{LocalState}
use Rattle.vm_local.specs.Memory.{bytes_of, is_lent}
use Rattle.vm_home.specs.Home.{home_of, is_kept}
use Rattle.vm_home.specs.Moves.{memory_at, touched, stopped_count}
use Rattle.vm_log.specs.LegalLog.{lease_in}
use Rattle.vm_log.specs.declared.away.Away.{Away}
use Rattle.vm_log.specs.declared.away.Away.TheVariants.{Nothing, Sent, Lent}
use Rattle.vm_session.specs.State.{SessionState}
use Rattle.vm_session.specs.Buffers.{queued_memories}
use Rattle.vm_stands.specs.Flight.{stops_queues}
use Rattle.vm_realm.specs.Inner.{Inner, driver_state, unsent_in, under_way}
use Rattle.vm_realm.specs.Slice.{Slice, Out}
use Rattle.vm_realm.specs.Slice.Out.{Nowhere, Asked, Kept, Told, Astray}

-- the places where a memory may be
pub data Spot : Type 0 where
  WithHandle : Spot
  HeldBack : Spot
  OnLink : Spot
  InSession : Spot
  InJob : Spot
  InLease : Spot

-- the memory of a number is there
pub record Lies : Type 0 where
  pub spot : Spot
  pub number : ℕ

abbrev pub lie_at : Spot → List ℕ → List Lies
lie_at spot numbers = map (λ m. record { spot = spot; number = m }) numbers

-- ---- with the driver

-- the memories that are at home, and the one that is out with a lease
abbrev pub lent_number : LocalState → Away → List ℕ
lent_number s Nothing = []
lent_number s (Sent number) = []
lent_number s (Lent entry) = touched s entry.call ∷ []

abbrev pub with_driver : Slice → List Lies
with_driver x =
    lie_at WithHandle (marked_places (map is_some x.handle.log.home))
    ++ lie_at InLease (lent_number (driver_state x) x.handle.log.away)

-- ---- with a call

-- the memory that goes along with a request
abbrev pub sent_number : Away → List ℕ
sent_number Nothing = []
sent_number (Sent number) = number ∷ []
sent_number (Lent entry) = []

-- the memories of buffers
abbrev pub numbers_in : LocalState → List Held → List ℕ
numbers_in s held = map (λ h. memory_at s h.queue h.index) held

abbrev pub stopped_by : LocalState → Option Entry → ℕ
stopped_by s (Some (Called line call reply)) = stopped_count s call
stopped_by s e = 0

-- of the memories that come with a reply, the first so many were queued, and the others are fresh
abbrev pub told_numbers : ℕ → LocalState → List Held → List ℕ
told_numbers back s held =
    numbers_in s (take back held) ++ range_with_len (length s.memories) (length (drop back held))

abbrev pub call_numbers : Out → Away → Inner → List ℕ
call_numbers Nowhere away v = []
call_numbers (Asked m) away v = sent_number away
call_numbers (Kept m) away v = []
call_numbers (Told r) away v = told_numbers (stopped_by v.before v.executed) v.before r.held
call_numbers Astray away v = []

-- ---- with messages, in the session, and with its job

-- The state that the messages under way lead to: a stopping call comes behind it.
abbrev pub stops_last : Option Entry → Bool
stops_last None = false
stops_last (Some e) = stops_queues e

abbrev pub told_state_if : Bool → Inner → LocalState
told_state_if true v = v.before
told_state_if false v = v.ahead

abbrev pub told_state : Inner → LocalState
told_state v = told_state_if (stops_last v.executed) v

abbrev pub queued_held : Option SessionState → List Held
queued_held None = []
queued_held (Some s) = queued_memories s.queues

abbrev pub job_held : Option JobParts → List Held
job_held None = []
job_held (Some job) = option_to_list job.src ++ job.dst ∷ []

-- ---- all of them

-- where each memory of the handle is
abbrev pub places_of : Slice → Inner → List Lies
places_of x v =
    with_driver x
    ++ (lie_at OnLink (call_numbers x.out x.handle.log.away v)
    ++ (lie_at HeldBack (numbers_in (told_state v) (filter_map (λ d. d.held) x.held))
    ++ (lie_at OnLink (numbers_in (told_state v) (filter_map (λ d. d.held) x.events))
    ++ (lie_at InSession
    (numbers_in (told_state v) (filter_map (λ e. e.held) (unsent_in x.session)))
    ++ (lie_at InSession (numbers_in v.ahead (queued_held x.session))
    ++ lie_at InJob (numbers_in v.ahead (job_held x.job)))))))

-- the handle has the memory, in the driver's state or in the state ahead
abbrev pub is_live : Slice → Inner → ℕ → Bool
is_live x v m = is_kept (driver_state x) m || is_kept v.ahead m

-- each live memory is at one place
abbrev pub IsOncePlaced : Slice → Inner → Type 0
IsOncePlaced x v =
    (m : ℕ) → is_live x v m ≡ true → occurrences m (map (λ l. l.number) (places_of x v)) ≡ 1

-- the memory is with the driver, at home or out with a lease
abbrev pub IsWithDriver : Slice → Inner → ℕ → Type 0
IsWithDriver x v m =
    Contains (places_of x v) (record { spot = WithHandle; number = m })
    ⊎ Contains (places_of x v) (record { spot = InLease; number = m })

-- while no call crosses, the memories that the log lends to no queue are with the driver, and no
-- others
abbrev pub AgreesWithOwners : Slice → Inner → Type 0
AgreesWithOwners x v =
    x.out ≡ Nowhere → (m : ℕ) → is_kept (driver_state x) m ≡ true →
    (is_lent (driver_state x) m ≡ false) ↔ (IsWithDriver x v m)

-- ---- their bytes

-- these memories have, one after the other, the bytes that the state has for these numbers
abbrev pub HaveBytes : LocalState → List ℕ → List Held → Type 0
HaveBytes s numbers held = map (λ h. mem_bytes h.mem) held ≡ map (λ m. bytes_of s m) numbers

-- the memories that are with a call
abbrev pub call_held : Out → List Held
call_held Nowhere = []
call_held (Asked m) = m.held
call_held (Kept m) = m.held
call_held (Told r) = r.held
call_held Astray = []

-- those that are with the messages under way
abbrev pub messages_held : Slice → List Held
messages_held x = filter_map (λ e. e.held) (under_way x)

-- Each memory, at whichever of its places it is, has the bytes of the state ahead. Of those at home
-- that is said where the handle has the memory in the state ahead, as anything may be left in the
-- place of one that it has no more. A lease and a job have them as they went out.
pub record HasBytesAhead (x : Slice) (v : Inner) : Type 0 where
  pub home : (m : ℕ) (mem : Mem) → home_of x.handle.log.home m ≡ Some mem →
      is_kept v.ahead m ≡ true → mem_bytes mem ≡ bytes_of v.ahead m
  pub lent : (entry : LeaseOut) → lease_in x.handle.log.away ≡ Some entry →
      mem_bytes entry.mem.value ≡ bytes_of v.ahead (touched (driver_state x) entry.call)
  pub call : HaveBytes v.ahead (call_numbers x.out x.handle.log.away v) (call_held x.out)
  pub messages : HaveBytes v.ahead (numbers_in (told_state v) (messages_held x)) (messages_held x)
  pub queued : HaveBytes v.ahead (numbers_in v.ahead (queued_held x.session))
      (queued_held x.session)
  pub job : HaveBytes v.ahead (numbers_in v.ahead (job_held x.job)) (job_held x.job)
