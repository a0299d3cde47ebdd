-- What it means that the bytes of a queue's rings stand for its three lists.
-- Source: VIRTIO 1.3, 2.7 "Split Virtqueues".
use Rattle.std.specs.Prelude.{ℕ, suc, zero, ◌≡◌, ◌≤◌, ◌+◌, ◌%◌, ◌^◌, List, [], ◌∷◌, ◌++◌, length, map, replicate, Option, Some, None, Result, Ok, Err, slice_index_or, All}
use Rattle.std.specs.List.{AllZip}
use Rattle.vm_chain.specs.declared.desc.Desc.{Desc}
use Rattle.vm_chain.specs.declared.fault.ChainFault.{ChainFault}
use Rattle.vm_chain.specs.Walk.{walk_of}
use Rattle.vm_link.specs.declared.parcel.Parcel.{Parcel}
use Rattle.vm_mem.specs.Lists.{occurrences}
use Rattle.vm_link.specs.Queue.{Queue, empty_queue, free_count, heads_of}
use Rattle.vm_split.specs.declared.entry.UsedEntry.{UsedEntry}
use Rattle.vm_split.specs.Owners.{places_of, count_of, free_places}
use Rattle.vm_split.specs.Ring.{contents_of, no_entry}

-- A queue over its rings: the bytes of its page, the device's count of the chains that it took and
-- the driver's count of those that it collected, both modulo 65,536, the driver's record of which
-- chain each descriptor lies in, and the lists.
pub record SplitState : Type 0 where
  pub bytes : List ℕ
  pub taken : ℕ
  pub collected : ℕ
  pub owners : List (Option ℕ)
  pub queue : Queue

-- `count` entries of a ring from number k on: number k stands at k modulo the size
abbrev pub entries_from : {A : Type 0} → A → ℕ → List A → ℕ → ℕ → List A
entries_from none size ring k zero = []
entries_from none size ring k (suc count) =
    slice_index_or ring (k % size) none ∷ entries_from none size ring (k + 1) count

-- the descriptor that stands for an index in a parcel's table; an index outside the table goes on
-- the ring as 65535
abbrev pub ring_index : List ℕ → ℕ → ℕ
ring_index places at = slice_index_or places at 65535

abbrev pub on_ring : List ℕ → Desc → Desc
on_ring places d = record d { next = ring_index places d.next }

-- the outcome of a walk, with the ring's indices for those of a parcel's table
abbrev pub renamed : List ℕ → Result (List Desc) ChainFault → Result (List Desc) ChainFault
renamed places (Ok descs) = Ok (map (on_ring places) descs)
renamed places (Err fault) = Err (record fault { at = ring_index places fault.at })

-- The chain with this head has a descriptor for each of the parcel's, and the walk in the ring has
-- the outcome of the parcel's own table.
pub record IsChainOf (table : List Desc) (owners : List (Option ℕ))
    (head : ℕ) (parcel : Parcel) : Type 0 where
  pub whole : count_of owners head ≡ length parcel.table
  pub walk : (limit : ℕ) (homes : List ℕ) →
      walk_of table head limit homes ≡
      renamed (places_of head owners) (walk_of parcel.table 0 limit homes)

-- the entries of a ring, from the first that wasn't taken, or collected, on
abbrev pub available_heads : SplitState → List ℕ
available_heads s =
    entries_from 0 s.queue.size (contents_of s.queue.size s.bytes).available s.taken
    (length s.queue.waiting)

abbrev pub used_entries : SplitState → List UsedEntry
used_entries s =
    entries_from no_entry s.queue.size (contents_of s.queue.size s.bytes).used s.collected
    (length s.queue.done)

-- The indices say how much waits and is done. The available entries name the chains of the parcels
-- that wait, and the used entries hold the head and the used length of each that is done. No two
-- chains of the three lists have one head, and since a descriptor has at most one owner, it lies in
-- one chain at most. Each chain has as many descriptors as the lists say, and the others are free.
pub record StandsFor (s : SplitState) : Type 0 where
  pub page : length s.bytes ≡ 4096
  pub available_index :
      (contents_of s.queue.size s.bytes).available_index ≡
      (s.taken + length s.queue.waiting) % 2 ^ 16
  pub used_index :
      (contents_of s.queue.size s.bytes).used_index ≡
      (s.collected + length s.queue.done) % 2 ^ 16
  pub waiting :
      AllZip (IsChainOf (contents_of s.queue.size s.bytes).table s.owners) (available_heads s)
      s.queue.waiting
  pub done :
      used_entries s ≡
      map (λ d. record { id = d.finished.head; len = d.finished.used }) s.queue.done
  pub apart : (head : ℕ) → occurrences head (available_heads s ++ heads_of s.queue) ≤ 1
  pub descriptors : length s.owners ≡ s.queue.size
  pub free : length (free_places s.owners) ≡ free_count s.queue
  pub whole_out : All (λ c. count_of s.owners c.head ≡ c.count) s.queue.out
  pub whole_done : All (λ d. count_of s.owners d.finished.head ≡ d.count) s.queue.done

-- a count of answers, modulo 65,536, which rises by one where there is an answer
abbrev pub raised : {A : Type 0} → Option A → ℕ → ℕ
raised None count = count
raised (Some answer) count = (count + 1) % 2 ^ 16

-- neither count rises
abbrev pub CountsStay : SplitState → SplitState → Type 0
CountsStay old new = (new.taken ≡ old.taken) × (new.collected ≡ old.collected)

-- an empty queue: a page of zeros, no chain taken or collected, and all descriptors free
abbrev pub new_state : ℕ → SplitState
new_state size = record {
  bytes = replicate 4096 0;
  taken = 0;
  collected = 0;
  owners = replicate size None;
  queue = empty_queue size;
}
