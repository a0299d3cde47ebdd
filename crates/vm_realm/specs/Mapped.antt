-- What the journal of the shared region has to do with the logs.
use Rattle.std.specs.Prelude.{ℕ, ◌≡◌, ◌≤◌, ◌<◌, ◌+◌, ◌*◌, ◌^◌, ◌==◌, List, [], ◌∷◌, ◌++◌, All, Option, Some, None, map, find, slice_get, slice_set, slice_index_or, unwrap_or, if◌then◌else◌}
use Rattle.std.specs.Option.{option_map, option_to_list}
use Rattle.v4l_const.specs.declared.model.Model.{Model}
use Rattle.vm_region.specs.Region.{RegionState, IsSoundJournal, live_ranges, placed_at, placed, range_at, range_of, AreApart}
use Rattle.vm_region.specs.declared.entry.RegionEntry.{RegionEntry}
use Rattle.vm_region.specs.declared.entry.RegionEntry.TheVariants.{Map, Drop}
use Rattle.vm_region.specs.declared.live_range.LiveRange.{LiveRange}
use Rattle.vm_session.specs.Buffers.{frame_tag}
use Rattle.vm_local.specs.declared.call.Call.{Call}
use Rattle.vm_local.specs.declared.call.Call.TheVariants.{Mmap, Munmap}
use Rattle.vm_local.specs.declared.entry.Entry.{Entry}
use Rattle.vm_local.specs.declared.entry.Entry.TheVariants.{Called}
use Rattle.vm_local.specs.declared.reply.Reply.{Reply}
use Rattle.vm_local.specs.declared.reply.Reply.TheVariants.{Done, Mapped}
use Rattle.vm_local.specs.State.{LocalState, opening}
use Rattle.vm_local.specs.Memory.{named, pages_of}
use Rattle.vm_local.specs.Log.{after}
use Rattle.vm_home.specs.Moves.{memory_at}
use Rattle.vm_exchange.specs.Exchange.{address_of}

-- ---- what one log tells

-- A successful mapping of a memory, at an address and with so many pages; or one that was given
-- back.
pub data Mapping : Type 0 where
  Made : ℕ → ℕ → ℕ → Mapping
  GivenBack : ℕ → Mapping

-- what a call with this reply tells, from the state before it
abbrev pub mapping_by : LocalState → Call → Reply → List Mapping
mapping_by s (Mmap m t i ro) (Mapped addr len) =
    Made addr (pages_of len) (memory_at s t i) ∷ []
mapping_by s (Munmap m) Done = GivenBack (address_of (named s m)) ∷ []
mapping_by s call reply = []

abbrev pub mapping_at : LocalState → Entry → List Mapping
mapping_at s (Called line call reply) = mapping_by s call reply
mapping_at s e = []

abbrev pub mappings_from : LocalState → List Entry → List Mapping
mappings_from s [] = []
mappings_from s (e ∷ es) = mapping_at s e ++ mappings_from (unwrap_or (after s e) s) es

-- the mappings of a log, in order, with a call behind it that was executed and isn't logged yet
abbrev pub mappings_of : Model → List Entry → Option Entry → List Mapping
mappings_of model log executed = mappings_from (opening model) (log ++ option_to_list executed)

-- ---- the journal is dealt from the logs

-- a range that begins to live is that of a memory of a handle
pub record Life : Type 0 where
  pub addr : ℕ
  pub handle : ℕ
  pub memory : ℕ

-- the life of the range at an address, the youngest lives being the first ones
abbrev pub life_at : ℕ → List Life → Option Life
life_at addr lives = find (λ l. l.addr == addr) lives

-- the lives after an entry, which is about a mapping of handle k
abbrev pub lives_after : ℕ → RegionEntry → Mapping → List Life → List Life
lives_after k (Map addr pages count) (Made at size memory) lives =
    if count == 1 then record { addr = addr; handle = k; memory = memory } ∷ lives else lives
lives_after k e m lives = lives

-- The entry is this mapping of handle k. A range that lives is mapped again by the handle that it
-- began to live for, and for the same memory.
abbrev pub IsDealt : ℕ → RegionEntry → Mapping → List Life → Type 0
IsDealt k (Map addr pages count) (Made at size memory) lives =
    (at ≡ addr) × (size ≡ pages)
    × (life_at addr (lives_after k (Map addr pages count) (Made at size memory) lives)
    ≡ Some (record { addr = addr; handle = k; memory = memory }))
IsDealt k (Map addr pages count) (GivenBack at) lives = ⊥
IsDealt k (Drop addr count) (Made at size memory) lives = ⊥
IsDealt k (Drop addr count) (GivenBack at) lives = at ≡ addr

-- The journal is a merge of the handles' lists: each entry is the first mapping of one of them,
-- which goes on behind it. In the end these are the lives.
abbrev pub DealsFrom : List Life → List RegionEntry → List (List Mapping) → List Life → Type 0
DealsFrom lives [] lists last = All (λ ms. ms ≡ []) lists × (last ≡ lives)
DealsFrom lives (e ∷ es) lists last =
    (k : ℕ) × (m : Mapping) × (ms : List Mapping) × (slice_get lists k ≡ Some (m ∷ ms))
    × IsDealt k e m lives × DealsFrom (lives_after k e m lives) es (slice_set lists k ms) last

abbrev pub Deals : List RegionEntry → List (List Mapping) → Type 0
Deals journal lists = (last : List Life) × DealsFrom [] journal lists last

-- ---- the region

-- what a handle has to do with the region: its mappings, the id of its session, and the numbers of
-- the memories of all frames that the session made
pub record Share : Type 0 where
  pub mappings : List Mapping
  pub id : Option ℕ
  pub frames : List ℕ

abbrev pub no_share : Share
no_share = record { mappings = []; id = None; frames = [] }

-- the live ranges are those that the journal tells of, by their addresses
abbrev pub AreLive : RegionState → Type 0
AreLive region =
    (addr : ℕ) → option_map placed (range_at addr region.ranges)
    ≡ placed_at addr (live_ranges region.journal)

-- each live range ends within the 2^22 pages of the region, so that its address goes over the wire
abbrev pub AreLow : List LiveRange → Type 0
AreLow rs =
    (tag : ℕ) (r : LiveRange) → range_of tag rs ≡ Some r → r.addr + 4096 * r.pages ≤ 4096 * 2 ^ 22

-- A live range has the tag of a frame that the session of a handle made, whose number goes into
-- four bytes, so that no other frame has this tag; and its life is that of the frame's memory.
pub record IsTagged (shares : List Share) (lives : List Life) (r : LiveRange) : Type 0 where
  pub life : Life
  pub id : ℕ
  pub made : ℕ
  pub lives_at : life_at r.addr lives ≡ Some life
  pub small : made < 2 ^ 32
  pub tag : r.tag ≡ frame_tag id made
  pub own : (slice_index_or shares life.handle no_share).id ≡ Some id
  pub memory : slice_get (slice_index_or shares life.handle no_share).frames made
      ≡ Some life.memory

-- The journal is sound, is dealt from the handles' mappings, and tells the live ranges, which end
-- within the region and have the tags of their frames.
pub record IsJournalOf (shares : List Share) (region : RegionState) : Type 0 where
  pub lives : List Life
  pub sound : IsSoundJournal region.journal
  pub deals : DealsFrom [] region.journal (map (λ s. s.mappings) shares) lives
  pub live : AreLive region
  pub apart : AreApart region.ranges
  pub low : AreLow region.ranges
  pub tagged : (addr : ℕ) (r : LiveRange) → range_at addr region.ranges ≡ Some r →
      IsTagged shares lives r
