-- What a queue over its rings keeps, and the lists that it keeps so.
use Rattle.std.specs.Prelude.{ℕ, true, ◌≡◌, ◌≢◌, ◌≤◌, ◌<◌, ◌+◌, ◌-◌, ◌%◌, ◌^◌, if◌then◌else◌, List, [], ◌++◌, length, map, sum_by, Option, Some, None, slice_get, slice_index, slice_index_or}
use Rattle.std.specs.Option.{unwrap_or}
use Rattle.vm_chain.specs.declared.desc.Desc.{Desc}
use Rattle.vm_link.specs.declared.chains.DoneChain.{DoneChain}
use Rattle.vm_link.specs.declared.chains.OutChain.{OutChain}
use Rattle.vm_link.specs.declared.parcel.Parcel.{Parcel}
use Rattle.vm_link.specs.Parcel.{IsPostable}
use Rattle.vm_mem.specs.Lists.{occurrences}
use Rattle.vm_link.specs.Queue.{Queue}
use Rattle.vm_split.specs.declared.entry.UsedEntry.{UsedEntry}
use Rattle.vm_split.specs.Owners.{is_of, places_of, count_of, free_places}
use Rattle.vm_split.specs.Ring.{Contents, IsRingSize, no_entry}
use Rattle.vm_split.specs.Stands.{entries_from, on_ring, ring_index}

-- Beside the rings: the two counts, the chain of each descriptor, the parcels by their heads while
-- the driver's or the device's list of a ring names them, and the heads of the chains that the
-- device has.
pub record Kept : Type 0 where
  pub size : ℕ
  pub contents : Contents
  pub taken : ℕ
  pub collected : ℕ
  pub owners : List (Option ℕ)
  pub parcels : List (Option Parcel)
  pub out : List ℕ

-- how many steps an index is ahead of a count
abbrev pub ahead : ℕ → ℕ → ℕ
ahead count index = (index + (2 ^ 16 - count)) % 2 ^ 16

abbrev pub waiting_heads : Kept → List ℕ
waiting_heads k =
    entries_from 0 k.size k.contents.available k.taken (ahead k.taken k.contents.available_index)

abbrev pub done_entries : Kept → List UsedEntry
done_entries k =
    entries_from no_entry k.size k.contents.used k.collected
    (ahead k.collected k.contents.used_index)

abbrev pub done_ids : Kept → List ℕ
done_ids k = map (λ e. e.id) (done_entries k)

abbrev pub no_parcel : Parcel
no_parcel = record { who = 0; table = []; pages = []; held = []; room = 0 }

abbrev pub parcel_at : List (Option Parcel) → ℕ → Parcel
parcel_at parcels head = unwrap_or (slice_index_or parcels head None) no_parcel

abbrev pub out_chain : List (Option ℕ) → ℕ → OutChain
out_chain owners head = record { head = head; count = count_of owners head }

abbrev pub done_chain : List (Option ℕ) → List (Option Parcel) → UsedEntry → DoneChain
done_chain owners parcels e = record {
  finished = record { head = e.id; used = e.len; parcel = parcel_at parcels e.id };
  count = count_of owners e.id;
}

-- the lists
abbrev pub queue_of : Kept → Queue
queue_of k = record {
  size = k.size;
  waiting = map (parcel_at k.parcels) (waiting_heads k);
  out = map (out_chain k.owners) k.out;
  done = map (done_chain k.owners k.parcels) (done_entries k);
}

-- each descriptor of a parcel's table stands on the ring in its place
abbrev pub IsLaid : List Desc → List ℕ → List Desc → Type 0
IsLaid table places posted = (k : ℕ) (d : Desc) → slice_get posted k ≡ Some d →
    slice_get table (slice_index places k) ≡ Some (on_ring places d)

-- descriptors that aren't at these places are as before
abbrev pub KeepsOthers : List ℕ → List Desc → List Desc → Type 0
KeepsOthers places old new = (d : ℕ) → ((k : ℕ) → k < length places → slice_index places k ≢ d) →
    slice_get new d ≡ slice_get old d

-- each place is below the size, and they rise
abbrev pub AreWithin : ℕ → List ℕ → Type 0
AreWithin size places = (k : ℕ) → k < length places → slice_index places k < size

abbrev pub AreRising : List ℕ → Type 0
AreRising places = (i k : ℕ) → i < k → k < length places →
    slice_index places i < slice_index places k

-- The chain of a parcel that waits has a descriptor for each of the parcel's, which is laid there,
-- and the first of them is the head.
pub record IsWhole (table : List Desc) (owners : List (Option ℕ))
    (parcels : List (Option Parcel)) (head : ℕ) : Type 0 where
  pub whole : count_of owners head ≡ length (parcel_at parcels head).table
  pub first : ring_index (places_of head owners) 0 ≡ head
  pub postable : IsPostable (parcel_at parcels head)
  pub laid : IsLaid table (places_of head owners) (parcel_at parcels head).table

-- The heads of the chains that wait, are out and are done are just the descriptors that are their
-- own chain's head, once each. A descriptor is free, or lies in one of these chains and is counted
-- there. Where a ring names a head its parcel is there.
pub record HoldsChains (size : ℕ) (table : List Desc) (owners : List (Option ℕ))
    (parcels : List (Option Parcel)) (waiting out done : List ℕ) : Type 0 where
  pub heads : (head : ℕ) →
      occurrences head (waiting ++ (out ++ done)) ≡
      (if is_of head (slice_index_or owners head None) then 1 else 0)
  pub owned : (place head : ℕ) → is_of head (slice_index_or owners place None) ≡ true →
      1 ≤ occurrences head (waiting ++ (out ++ done))
  pub counted :
      sum_by (count_of owners) (waiting ++ (out ++ done)) + length (free_places owners) ≡ size
  pub whole : (head : ℕ) → 1 ≤ occurrences head waiting → IsWhole table owners parcels head
  pub there : (head : ℕ) → 1 ≤ occurrences head (waiting ++ done) →
      slice_index_or parcels head None ≡ Some (parcel_at parcels head)

-- Each list has an element for each descriptor, and they hold the chains that the rings and the
-- list of what is out name.
pub record IsSound (k : Kept) : Type 0 where
  pub size : IsRingSize k.size
  pub table : length k.contents.table ≡ k.size
  pub available : length k.contents.available ≡ k.size
  pub used : length k.contents.used ≡ k.size
  pub owners : length k.owners ≡ k.size
  pub parcels : length k.parcels ≡ k.size
  pub taken : k.taken < 2 ^ 16
  pub collected : k.collected < 2 ^ 16
  pub available_index : k.contents.available_index < 2 ^ 16
  pub used_index : k.contents.used_index < 2 ^ 16
  pub chains :
      HoldsChains k.size k.contents.table k.owners k.parcels (waiting_heads k) k.out (done_ids k)
