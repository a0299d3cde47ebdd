-- The meaning of a link: two queues, each of them three lists. Source: VIRTIO 1.3, 2.7 "Split
-- Virtqueues".
use Rattle.std.specs.Prelude.{ℕ, ◌≡◌, ◌+◌, ◌-◌, Option, Some, None, List, [], ◌∷◌, ◌++◌, not, ◌==◌, length, map, filter, find, sum_by, Contains}
use Rattle.std.specs.Option.{option_map_or}
use Rattle.std.specs.Result.{result_err, result_unwrap_or}
use Rattle.vm_chain.specs.Chain.{WalkedChain}
use Rattle.vm_chain.specs.Walk.{walk_of}
use Rattle.vm_link.specs.Parcel.{homes_of}
use Rattle.vm_link.specs.declared.chains.DoneChain.{DoneChain}
use Rattle.vm_link.specs.declared.chains.OutChain.{OutChain}
use Rattle.vm_link.specs.declared.parcel.Finished.{Finished}
use Rattle.vm_link.specs.declared.parcel.Parcel.{Parcel}
use Rattle.vm_link.specs.declared.parcel.Taken.{Taken}
use Rattle.vm_link.specs.declared.link.QueueId.{QueueId}
use Rattle.vm_link.specs.declared.link.QueueId.TheVariants.{Command, Event}

-- How many descriptors the queue has, the parcels that are posted and not taken, the chains that
-- are taken and not finished, and those that are finished and not collected.
pub record Queue : Type 0 where
  pub size : ℕ
  pub waiting : List Parcel
  pub out : List OutChain
  pub done : List DoneChain

-- the queue of commands and the queue of events
pub record Queues : Type 0 where
  pub command : Queue
  pub event : Queue

abbrev pub queue_at : QueueId → Queues → Queue
queue_at Command queues = queues.command
queue_at Event queues = queues.event

-- the queues with another one in this place
abbrev pub with_queue : QueueId → Queue → Queues → Queues
with_queue Command queue queues = record queues { command = queue }
with_queue Event queue queues = record queues { event = queue }

abbrev pub empty_queue : ℕ → Queue
empty_queue size = record { size = size; waiting = []; out = []; done = [] }

-- how many descriptors the three lists have
abbrev pub used_count : Queue → ℕ
used_count q =
    sum_by (λ p. length p.table) q.waiting + sum_by (λ c. c.count) q.out + sum_by
    (λ d. d.count) q.done

abbrev pub free_count : Queue → ℕ
free_count q = q.size - used_count q

abbrev pub out_heads : Queue → List ℕ
out_heads q = map (λ c. c.head) q.out

abbrev pub done_heads : Queue → List ℕ
done_heads q = map (λ d. d.finished.head) q.done

-- the heads of the chains that were taken and not collected
abbrev pub heads_of : Queue → List ℕ
heads_of q = out_heads q ++ done_heads q

-- a parcel waits behind the others
abbrev pub posted : Queue → Parcel → Queue
posted q parcel = record q { waiting = q.waiting ++ parcel ∷ [] }

abbrev pub rest_of : {A : Type 0} → List A → List A
rest_of [] = []
rest_of (x ∷ xs) = xs

-- the first parcel that waits is out under this head
abbrev pub taken_as : Queue → Taken → Queue
taken_as q taken = record q {
  waiting = rest_of q.waiting;
  out = q.out ++ record { head = taken.head; count = length taken.parcel.table } ∷ [];
}

-- The first parcel that waits is taken, under a head that no other chain has, with the walk of its
-- table.
pub record TakesFirst (old : Queue) (before : WalkedChain) (taken : Taken) (new : Queue)
    (after : WalkedChain) : Type 0 where
  pub first : old.waiting ≡ taken.parcel ∷ rest_of old.waiting
  pub fresh : ¬ Contains (heads_of old) taken.head
  pub fault : taken.fault ≡
      result_err (walk_of taken.parcel.table 0 before.limit (homes_of taken.parcel))
  pub chain : after ≡ record before {
    descs = result_unwrap_or
        (walk_of taken.parcel.table 0 before.limit (homes_of taken.parcel)) [];
  }
  pub queue : new ≡ taken_as old taken

-- Where no parcel waits, none is taken and nothing changes.
abbrev pub Takes : Queue → WalkedChain → Option Taken → Queue → WalkedChain → Type 0
Takes old before None new after = (old.waiting ≡ []) × (new ≡ old) × (after ≡ before)
Takes old before (Some taken) new after = TakesFirst old before taken new after

-- how many descriptors the chain with this head has
abbrev pub count_at : ℕ → List OutChain → ℕ
count_at head out = option_map_or (λ c. c.count) (find (λ c. c.head == head) out) 0

-- the chains without the one that has this head
abbrev pub without : ℕ → List OutChain → List OutChain
without head = filter (λ c. not (c.head == head))

-- the chain with this head is out no more, and is the last of those that are finished
abbrev pub finished : Queue → Finished → Queue
finished q done = record q {
  out = without done.head q.out;
  done = q.done ++ record { finished = done; count = count_at done.head q.out } ∷ [];
}

abbrev pub first_finished : List DoneChain → Option Finished
first_finished [] = None
first_finished (d ∷ ds) = Some d.finished

-- the first that is finished is collected; where none is, nothing changes
abbrev pub collected : Queue → Queue
collected q = record q { done = rest_of q.done }
