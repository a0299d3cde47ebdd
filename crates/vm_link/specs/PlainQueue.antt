-- What a plain queue keeps besides its lists: the heads that no chain has.
use Rattle.std.specs.Prelude.{ℕ, ◌≡◌, ◌+◌, ◌^◌, ◌<◌, ◌≤◌, List, ◌++◌, length, All}
use Rattle.vm_mem.specs.Lists.{occurrences}
use Rattle.vm_link.specs.Parcel.{IsPostable}
use Rattle.vm_link.specs.Queue.{Queue, used_count, heads_of}

-- The free heads and those of the chains are as many as the size, and no two alike; the chains fit
-- the size, and each of them has a descriptor.
pub record IsSound (free_heads : List ℕ) (q : Queue) : Type 0 where
  pub small : q.size < 2 ^ 16
  pub fits : used_count q ≤ q.size
  pub whole : length free_heads + length q.out + length q.done ≡ q.size
  pub apart : (head : ℕ) → occurrences head (free_heads ++ heads_of q) ≤ 1
  pub postable : All IsPostable q.waiting
  pub some_out : All (λ c. 1 ≤ c.count) q.out
  pub some_done : All (λ d. 1 ≤ d.count) q.done

-- each list has room for all that the queue may hold
pub record IsRoomy (size free_room waiting_room out_room done_room : ℕ) : Type 0 where
  pub free : size ≤ free_room
  pub waiting : size ≤ waiting_room
  pub out : size ≤ out_room
  pub done : size ≤ done_room
