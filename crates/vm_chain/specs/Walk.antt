-- The walk of a table of descriptors: which descriptors it comes to, and what may be wrong with
-- one. Source: VIRTIO 1.3, 2.7.5 "The Virtqueue Descriptor Table". Own are the limit, the refusal
-- of descriptors without bytes, the pages and the order of the faults.
use Rattle.std.specs.Prelude.{ℕ, suc, zero, Bool, ◌==◌, ◌&&◌, nat_le, if◌then◌else◌, List, [], ◌∷◌, ◌++◌, length, slice_get, Option, Some, None, Result, Ok, Err}
use Rattle.std.specs.List.{list_any}
use Rattle.std.specs.Option.{option_and_then, option_map_or, option_to_list}
use Rattle.vm_mem.specs.Page.{lies_in_page}
use Rattle.vm_chain.specs.declared.desc.Desc.{Desc}
use Rattle.vm_chain.specs.declared.fault.ChainFault.{ChainFault}
use Rattle.vm_chain.specs.declared.fault.ChainKind.{ChainKind}
use Rattle.vm_chain.specs.declared.fault.ChainKind.TheVariants.{NextOutside, TooLong, Indirect, ZeroLen, WriteBeforeRead, AddrOutside}
use Rattle.vm_chain.specs.Desc.{following, is_readable, is_writable, is_indirect}

-- a place that a walk comes to: an index, and the descriptor that stands there, where the table has
-- one
pub record Visit : Type 0 where
  pub at : ℕ
  pub desc : Option Desc

-- the first places, `count` at most, that the walk of a table comes to from an index on
abbrev pub visits : List Desc → ℕ → ℕ → List Visit
visits table zero at = []
visits table (suc count) at =
    record { at = at; desc = slice_get table at }
    ∷ option_map_or (λ next. visits table count next)
    (option_and_then following (slice_get table at)) []

-- the first fault of a descriptor that a walk comes to, after `visited` others, of which one is
-- writable or none is
abbrev pub fault_of : ℕ → ℕ → Bool → List ℕ → Option Desc → Option ChainKind
fault_of limit visited writable_before homes None = Some NextOutside
fault_of limit visited writable_before homes (Some d) =
    if nat_le limit visited then Some TooLong
    else (if is_indirect d then Some Indirect
    else (if d.len == 0 then Some ZeroLen
    else (if is_readable d && writable_before then Some WriteBeforeRead
    else (if list_any (lies_in_page d.addr d.len) homes then None
    else Some AddrOutside))))

-- the rest of a walk, where its next descriptor has no fault
abbrev pub unless_faulty : Option ChainKind → ℕ → Result (List Desc) ChainFault →
    Result (List Desc) ChainFault
unless_faulty None at rest = rest
unless_faulty (Some kind) at rest = Err (record { kind = kind; at = at })

-- the descriptors at the places, behind those `before`, or the first fault
abbrev pub outcome : ℕ → List ℕ → List Desc → List Visit → Result (List Desc) ChainFault
outcome limit homes before [] = Ok before
outcome limit homes before (v ∷ vs) =
    unless_faulty (fault_of limit (length before) (list_any is_writable before) homes v.desc) v.at
    (outcome limit homes (before ++ option_to_list v.desc) vs)

-- the descriptors of the walk of a table from a head on, or its first fault: the place behind
-- `limit` others shows that a walk is too long
unfoldable pub walk_of : List Desc → ℕ → ℕ → List ℕ → Result (List Desc) ChainFault
walk_of table head limit homes = outcome limit homes [] (visits table (suc limit) head)
