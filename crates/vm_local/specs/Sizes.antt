-- The pictures of all queues of a handle have one size.
use Rattle.std.specs.Prelude.{◌≡◌, ℕ, ◌<◌, List, length, slice_index_or}
use Rattle.v4l_format.specs.declared.fmt.Fmt.{Fmt}
use Rattle.v4l_rules.specs.Formats.{sized_as}
use Rattle.vm_local.specs.State.{QueueState, opening_queue}

abbrev pub SameSize : QueueState → QueueState → Type 0
SameSize q r = (q.format.width ≡ r.format.width) × (q.format.height ≡ r.format.height)

abbrev pub SizesAgree : List QueueState → Type 0
SizesAgree qs =
    (i j : ℕ) → i < length qs → j < length qs →
    SameSize (slice_index_or qs i opening_queue) (slice_index_or qs j opening_queue)

-- a queue whose pictures have the size of a format
abbrev pub resized : Fmt → QueueState → QueueState
resized f q = record q { format = sized_as f q.format }
