-- How sessions are kept by their ids: keys by id lead into a slab.
use Rattle.std.specs.Prelude.{ℕ, ◌≡◌, List, map, sum_by, slice_index_or, Option, Some, None}
use Rattle.slab.specs.Slab.{Slab, get, ContainsKey, slab_len}
use Rattle.vm_session.specs.State.{SessionState}

-- what stands in the slab at a key, if there is one
abbrev pub session_at : Slab SessionState → Option ℕ → Option SessionState
session_at slab None = None
session_at slab (Some key) = get slab key

abbrev pub sessions_at : Slab SessionState → List (Option ℕ) → List (Option SessionState)
sessions_at slab keys = map (session_at slab) keys

abbrev pub one_if_there : {A : Type 0} → Option A → ℕ
one_if_there None = 0
one_if_there (Some x) = 1

-- how many of these are there
abbrev pub count_there : {A : Type 0} → List (Option A) → ℕ
count_there xs = sum_by one_if_there xs

-- Each key leads to a session, no two to the same one, and no other session is kept.
pub record AreKept (slab : Slab SessionState) (keys : List (Option ℕ)) : Type 0 where
  pub leads : (id key : ℕ) → slice_index_or keys id None ≡ Some key → ContainsKey slab key
  pub apart : (id other key : ℕ) → slice_index_or keys id None ≡ Some key →
      slice_index_or keys other None ≡ Some key → id ≡ other
  pub count : slab_len slab ≡ count_there keys
