-- The queues of a model, whatever their records keep: which of them a buffer type names.
-- Source: own.
use Rattle.std.specs.Prelude.{ℕ, Bool, List, [], ◌∷◌, map, length, ◌+◌, ◌==◌, nat_lt, if◌then◌else◌, slice_index_or, slice_set}
use Rattle.v4l_const.specs.declared.model.Model.{Model}
use Rattle.v4l_const.specs.Model.{queues as types_of}
use Rattle.v4l_format.specs.declared.fmt.Fmt.{Fmt}

-- what is asked of a queue's record: the queue as it begins, its format, and the queue with another
pub record QueueKind (Q : Type 0) : Type 0 where
  pub opening : Q
  pub format : Q → Fmt
  pub reformatted : Q → Fmt → Q

-- the place of a buffer type among those of a model; behind them all where it is none of them
abbrev pub place_in : List ℕ → ℕ → ℕ
place_in [] t = 0
place_in (u ∷ us) t = if u == t then 0 else place_in us t + 1

-- whether the model has this buffer type
abbrev pub has_type : Model → ℕ → Bool
has_type m t = nat_lt (place_in (types_of m) t) (length (types_of m))

-- the queues of a model as they begin, in its order
abbrev pub opening_queues : {Q : Type 0} → QueueKind Q → Model → List Q
opening_queues kind m = map (λ _. kind.opening) (types_of m)

-- the queue of a buffer type
abbrev pub queue_at : {Q : Type 0} → QueueKind Q → Model → List Q → ℕ → Q
queue_at kind m qs t = slice_index_or qs (place_in (types_of m) t) kind.opening

-- the queues with another one of this type
abbrev pub with_queue_at : {Q : Type 0} → Model → List Q → ℕ → Q → List Q
with_queue_at m qs t q = slice_set qs (place_in (types_of m) t) q
