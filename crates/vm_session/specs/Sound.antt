-- What a session and each of its queues keep to.
use Rattle.std.specs.Prelude.{ℕ, ◌+◌, ◌^◌, ◌≡◌, ◌≤◌, ◌<◌, ◌==◌, ◌||◌, Bool, true, false, List, [], ◌∷◌, ◌++◌, length, map, Option, Some, None, is_some, IfSome, All, ⊤}
use Rattle.std.specs.List.{filter, filter_map}
use Rattle.std.specs.Option.{option_to_list}
use Rattle.v4l_const.specs.Model.{queues as types_of, source_queue, picture_queue, has_events}
use Rattle.v4l_format.specs.declared.fmt.Fmt.{Fmt}
use Rattle.v4l_format.specs.Fmt.{IsAdjusted, picture_size}
use Rattle.v4l_format.specs.Pattern.{patterns}
use Rattle.v4l_layout.specs.declared.buffer_rec.BufferRec.{BufferRec}
use Rattle.vm_frame.specs.Mem.{mem_bytes}
use Rattle.vm_wire.specs.declared.event.EventMsg.{EventMsg}
use Rattle.vm_wire.specs.declared.event.EventMsg.TheVariants.{Dequeued, Happened}
use Rattle.vm_session.specs.declared.running.Running.{Running}
use Rattle.vm_session.specs.declared.unsent.Unsent.{Unsent}
use Rattle.vm_session.specs.State.{SessionQueue, SessionState, queue_of, pictures}

-- ---- a queue

-- It has at most 32 buffers, of which no more are away than there are, and the numbers of their
-- frames go into a tag. A picture of its format goes into each buffer, and into each memory that is
-- queued.
pub record IsSoundQueue (q : SessionQueue) : Type 0 where
  pub adjusted : IsAdjusted q.format
  pub few : length q.lengths ≤ 32
  pub away : length q.queued + length q.out ≤ length q.lengths
  pub frames : q.first_frame + 32 ≤ 2 ^ 32
  pub buffers : All (λ n. picture_size q.format ≤ n) q.lengths
  pub memories : All (λ b. picture_size q.format ≤ length (mem_bytes b.held.mem)) q.queued

-- ---- the buffers that are out

-- the record of the buffer that an event gives back
abbrev pub given_back : EventMsg → Option BufferRec
given_back (Dequeued session b) = Some b
given_back (Happened session event) = None

-- those of events that are yet to be sent
abbrev pub returning : List Unsent → List BufferRec
returning unsent = filter_map (λ e. given_back e.msg) unsent

-- those that the running job took, in the order of the model's queues
abbrev pub taken_by : Option Running → List BufferRec
taken_by None = []
taken_by (Some r) = option_to_list r.src ++ r.dst ∷ []

-- all buffers that are out, the one that is out longest first
abbrev pub all_out : SessionState → List BufferRec
all_out s = returning s.unsent ++ taken_by s.running

-- the indices of those of type t
abbrev pub indices_of : ℕ → List BufferRec → List ℕ
indices_of t records = map (λ b. b.index) (filter (λ b. b.kind == t) records)

-- ---- the events that are unsent

abbrev pub gives_back : Unsent → Bool
gives_back e = is_some (given_back e.msg)

abbrev pub begins_with_buffer : List Unsent → Bool
begins_with_buffer [] = false
begins_with_buffer (e ∷ es) = gives_back e

-- an event that gives no buffer back stands right before one that does
abbrev pub ArePaired : List Unsent → Type 0
ArePaired [] = ⊤
ArePaired (e ∷ es) = ((gives_back e || begins_with_buffer es) ≡ true) × ArePaired es

-- ---- the whole

-- two formats have one width and one height
abbrev pub SameSize : Fmt → Fmt → Type 0
SameSize f g = (f.width ≡ g.width) × (f.height ≡ g.height)

-- a format that the queue of type t takes: where it is the pictures', it has the size of what they
-- are made from
abbrev pub TakesSize : SessionState → ℕ → Fmt → Type 0
TakesSize s t f =
    IfSome (source_queue s.model)
    (λ source. t ≡ picture_queue s.model → SameSize (queue_of s source).format f)

-- of the queue of type t: those of its buffers are out that are, and what is queued is of its type
pub record IsSoundAt (s : SessionState) (t : ℕ) : Type 0 where
  pub out : (queue_of s t).out ≡ indices_of t (all_out s)
  pub kinds : All (λ b. b.buffer.kind ≡ t) (queue_of s t).queued

-- There is a queue for each type of the model, the input is one of the four, and pictures have the
-- size of what they are made from. At most 64 events are unsent: two for each buffer of a camera,
-- and one for each of a converter's two queues.
pub record IsSound (s : SessionState) : Type 0 where
  pub queues : length s.queues ≡ length (types_of s.model)
  pub input : s.input < length patterns
  pub size : IfSome (source_queue s.model) (λ t. SameSize (queue_of s t).format (pictures s).format)
  pub each : (t : ℕ) → IsSoundAt s t
  pub paired : ArePaired s.unsent
  pub eventless : has_events s.model ≡ false → All (λ e. gives_back e ≡ true) s.unsent
  pub few : length s.unsent ≤ 64
