-- The device's side of a queue of buffers: which are queued, in which order, and which are out.
-- Source: own, after the Linux V4L2 interface, "Streaming I/O".
use Rattle.std.specs.Prelude.{ℕ, ◌<◌, ◌≤◌, ◌==◌, ◌&&◌, Bool, not, nat_lt, Option, List, [], ◌∷◌, ◌++◌, map, filter}
use Rattle.std.specs.List.{list_any}
use Rattle.std.specs.Option.{option_map}
use Rattle.v4l_layout.specs.declared.buffer_rec.BufferRec.{BufferRec}
use Rattle.vm_frame.specs.declared.mem.Held.{Held}
use Rattle.vm_mem.specs.Lists.{first_of, occurrences}
use Rattle.vm_queue.specs.declared.queued.Queued.{Queued}

-- The memory kind, how many buffers there are and how long each is, as they were asked for last.
-- The buffers that are queued, the first one first, and the indices of those that are out, the one
-- that is out longest first.
pub record Buffers : Type 0 where
  pub kind : ℕ
  pub count : ℕ
  pub length : ℕ
  pub queued : List Queued
  pub out : List ℕ

-- so many buffers, all at home
abbrev pub all_home : ℕ → ℕ → ℕ → Buffers
all_home kind count length =
    record { kind = kind; count = count; length = length; queued = []; out = [] }

abbrev pub is_queued : Buffers → ℕ → Bool
is_queued q index = list_any (λ b. b.buffer.index == index) q.queued

abbrev pub is_out : Buffers → ℕ → Bool
is_out q index = list_any (λ i. i == index) q.out

-- there is such a buffer, and it is neither queued nor out
abbrev pub is_home : Buffers → ℕ → Bool
is_home q index = nat_lt index q.count && (not (is_queued q index) && not (is_out q index))

-- a buffer is queued behind the others
abbrev pub pushed : Buffers → BufferRec → Held → Buffers
pushed q buffer held =
    record q { queued = q.queued ++ record { buffer = buffer; held = held } ∷ [] }

-- the buffer that is queued first, with its memory
abbrev pub first_queued : Buffers → Option (BufferRec × Held)
first_queued q = option_map (λ b. (b.buffer, b.held)) (first_of q.queued)

-- the first of these buffers is out, and the others are queued; where there is none, nothing
-- changes
abbrev pub popped_from : List Queued → Buffers → Buffers
popped_from [] q = q
popped_from (b ∷ bs) q = record q { queued = bs; out = q.out ++ b.buffer.index ∷ [] }

abbrev pub popped : Buffers → Buffers
popped q = popped_from q.queued q

-- a buffer is out no more
abbrev pub settled : Buffers → ℕ → Buffers
settled q index = record q { out = filter (λ i. not (i == index)) q.out }

-- the memories of these buffers, in their order
abbrev pub memories : List Queued → List Held
memories queued = map (λ b. b.held) queued

-- no buffer is queued
abbrev pub drained : Buffers → Buffers
drained q = record q { queued = [] }

-- the indices of the buffers that are not at home
abbrev pub away : Buffers → List ℕ
away q = map (λ b. b.buffer.index) q.queued ++ q.out

-- Each buffer is at home, queued or out: those that are away are among the queue's, and none of
-- them is away twice.
pub record IsSound (q : Buffers) : Type 0 where
  pub few : q.count ≤ 32
  pub below : (index : ℕ) → 1 ≤ occurrences index (away q) → index < q.count
  pub apart : (index : ℕ) → occurrences index (away q) ≤ 1
