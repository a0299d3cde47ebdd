-- The shared region: its journal, and which ranges of it are live.
use Rattle.std.specs.Prelude.{◌≡◌, ◌≢◌, ◌≤◌, ◌<◌, ℕ, ◌+◌, ◌-◌, ◌*◌, ◌%◌, ◌^◌, max, Bool, true, false, not, nat_lt, ◌==◌, ◌&&◌, ◌⊎◌, if◌then◌else◌, Option, Some, None, List, [], ◌∷◌, ◌++◌, length, map, filter, sum_by}
use Rattle.vm_region.specs.declared.entry.RegionEntry.{RegionEntry}
use Rattle.vm_region.specs.declared.entry.RegionEntry.TheVariants.{Map, Drop}
use Rattle.vm_region.specs.declared.live_range.LiveRange.{LiveRange}

-- ---- the journal

-- a live range as the journal tells it
pub record PlacedRange : Type 0 where
  pub addr : ℕ
  pub pages : ℕ
  pub count : ℕ

-- so many pages from an address on have a byte in common with so many others
abbrev pub meets : ℕ → ℕ → ℕ → ℕ → Bool
meets addr pages other size =
    nat_lt addr (other + 4096 * size) && nat_lt other (addr + 4096 * pages)

-- so many pages from an address on meet none of these ranges
abbrev pub is_free : ℕ → ℕ → List PlacedRange → Bool
is_free addr pages [] = true
is_free addr pages (r ∷ rs) = not (meets addr pages r.addr r.pages) && is_free addr pages rs

-- the range that starts at an address
abbrev pub placed_at : ℕ → List PlacedRange → Option PlacedRange
placed_at addr [] = None
placed_at addr (r ∷ rs) = if r.addr == addr then Some r else placed_at addr rs

-- the ranges where the one that starts at this address has this count; with the count 0 it is gone
abbrev pub placed_counted : ℕ → ℕ → List PlacedRange → List PlacedRange
placed_counted addr count [] = []
placed_counted addr count (r ∷ rs) =
    if r.addr == addr then
    (if count == 0 then placed_counted addr count rs
    else record r { count = count } ∷ placed_counted addr count rs)
    else r ∷ placed_counted addr count rs

-- the live ranges after an entry
abbrev pub ranges_after : List PlacedRange → RegionEntry → List PlacedRange
ranges_after rs (Map addr pages count) =
    if count == 1 then rs ++ record { addr = addr; pages = pages; count = 1 } ∷ []
    else placed_counted addr count rs
ranges_after rs (Drop addr count) = placed_counted addr count rs

abbrev pub ranges_from : List PlacedRange → List RegionEntry → List PlacedRange
ranges_from rs [] = rs
ranges_from rs (e ∷ es) = ranges_from (ranges_after rs e) es

-- the live ranges after a journal: those with a count above 0
abbrev pub live_ranges : List RegionEntry → List PlacedRange
live_ranges journal = ranges_from [] journal

-- An entry may follow where these ranges are live. A Map names a live range whole and has its count
-- plus 1, or has the count 1 and meets no live range. A Drop names a live range and has its count
-- less 1.
abbrev pub MayFollow : List PlacedRange → RegionEntry → Type 0
MayFollow rs (Map addr pages count) =
    ((before : ℕ) × (placed_at addr rs ≡
    Some (record { addr = addr; pages = pages; count = before })) × (count ≡ before + 1))
    ⊎ ((count ≡ 1) × (is_free addr pages rs ≡ true))
MayFollow rs (Drop addr count) =
    (pages : ℕ) × (placed_at addr rs ≡
    Some (record { addr = addr; pages = pages; count = count + 1 }))

abbrev pub IsSoundFrom : List PlacedRange → List RegionEntry → Type 0
IsSoundFrom rs [] = Unit
IsSoundFrom rs (e ∷ es) = MayFollow rs e × IsSoundFrom (ranges_after rs e) es

-- each entry may follow those before it
abbrev pub IsSoundJournal : List RegionEntry → Type 0
IsSoundJournal journal = IsSoundFrom [] journal

-- how many mappings a journal tells of
abbrev pub map_count : List RegionEntry → ℕ
map_count [] = 0
map_count (Map addr pages count ∷ es) = map_count es + 1
map_count (Drop addr count ∷ es) = map_count es

-- ---- the region

-- The journal, and the live ranges with their tags. No contract says in which order these stand:
-- they are looked up by their address and by their tag.
pub record RegionState : Type 0 where
  pub journal : List RegionEntry
  pub ranges : List LiveRange

-- a live range without its tag
abbrev pub placed : LiveRange → PlacedRange
placed r = record { addr = r.addr; pages = r.pages; count = r.count }

-- the range that starts at an address
abbrev pub range_at : ℕ → List LiveRange → Option LiveRange
range_at addr [] = None
range_at addr (r ∷ rs) = if r.addr == addr then Some r else range_at addr rs

-- the range of a tag
abbrev pub range_of : ℕ → List LiveRange → Option LiveRange
range_of tag [] = None
range_of tag (r ∷ rs) = if r.tag == tag then Some r else range_of tag rs

-- the least place where so many pages meet no range: it begins a page, they end within the region,
-- and at each lower address they meet one
pub record IsLeast (addr pages : ℕ) (rs : List LiveRange) : Type 0 where
  pub page : addr % 4096 ≡ 0
  pub inside : addr + 4096 * pages ≤ 4096 * 2 ^ 22
  pub free : is_free addr pages (map placed rs) ≡ true
  pub least : (lower : ℕ) → lower < addr → is_free lower pages (map placed rs) ≡ false

-- The journal has this entry more. The live ranges differ in one alone, which starts at this
-- address and has this tag: it is this one from now on, or live no more.
pub record Changes (old new : RegionState) (entry : RegionEntry) (addr tag : ℕ)
    (now : Option LiveRange) : Type 0 where
  pub journal : new.journal ≡ old.journal ++ entry ∷ []
  pub here : range_at addr new.ranges ≡ now
  pub tagged : range_of tag new.ranges ≡ now
  pub elsewhere : (other : ℕ) → other ≢ addr → range_at other new.ranges ≡ range_at other old.ranges
  pub tagged_otherwise : (other : ℕ) → other ≢ tag →
      range_of other new.ranges ≡ range_of other old.ranges

-- A mapping of a tag gives its live range again, which is counted once more. Where the tag has
-- none, a range of its own begins to live at the least place.
abbrev pub Maps : Option LiveRange → RegionState → ℕ → ℕ → ℕ → RegionState → Type 0
Maps (Some r) old tag pages addr new =
    (addr ≡ r.addr) × Changes old new (Map addr pages (r.count + 1)) addr tag
    (Some (record r { count = r.count + 1 }))
Maps None old tag pages addr new =
    IsLeast addr pages old.ranges
    × Changes old new (Map addr pages 1) addr tag
    (Some (record { addr = addr; pages = pages; tag = tag; count = 1 }))

-- a live range with another count; with the count 0 it is live no more
abbrev pub recounted : ℕ → LiveRange → Option LiveRange
recounted count r = if count == 0 then None else Some (record r { count = count })

-- a mapping of the live range that starts at an address is given back
abbrev pub Unmaps : RegionState → ℕ → LiveRange → RegionState → Type 0
Unmaps old addr r new =
    Changes old new (Drop addr (r.count - 1)) addr r.tag (recounted (r.count - 1) r)

-- Each live range has one address and one tag, has pages and a count and begins a page. No two of
-- them meet.
pub record AreApart (rs : List LiveRange) : Type 0 where
  pub by_address : (addr : ℕ) (r : LiveRange) → range_at addr rs ≡ Some r → (r.addr ≡ addr) ×
      (range_of r.tag rs ≡ Some r)
  pub by_tag : (tag : ℕ) (r : LiveRange) → range_of tag rs ≡ Some r → (r.tag ≡ tag) ×
      (range_at r.addr rs ≡ Some r)
  pub whole : (addr : ℕ) (r : LiveRange) → range_at addr rs ≡ Some r → (1 ≤ r.pages) ×
      (1 ≤ r.count) × (addr % 4096 ≡ 0)
  pub apart : (addr other : ℕ) (r s : LiveRange) → range_at addr rs ≡ Some r →
      range_at other rs ≡ Some s → addr ≢ other →
      meets addr r.pages other s.pages ≡ false

-- ---- what the region keeps

-- the ranges where the one that starts at this address has this count; with the count 0 it is gone
abbrev pub counted : ℕ → ℕ → List LiveRange → List LiveRange
counted addr count [] = []
counted addr count (r ∷ rs) =
    if r.addr == addr then
    (if count == 0 then counted addr count rs
    else record r { count = count } ∷ counted addr count rs)
    else r ∷ counted addr count rs

-- The ranges after a mapping of a tag, which gives its live range again, counted once more. Where
-- the tag has none, a range of its own stands behind them, at the least place.
abbrev pub Grants : Option LiveRange → ℕ → ℕ → List LiveRange → LiveRange → List LiveRange → Type 0
Grants (Some r) tag pages old given new =
    (given ≡ record r { count = r.count + 1 }) × (new ≡ counted r.addr (r.count + 1) old)
Grants None tag pages old given new =
    IsLeast given.addr pages old ×
    (given ≡ record { addr = given.addr; pages = pages; tag = tag; count = 1 }) ×
    (new ≡ old ++ given ∷ [])

-- the end of the first range that so many pages from an address on meet
abbrev pub blocking_end : ℕ → ℕ → List LiveRange → Option ℕ
blocking_end addr pages [] = None
blocking_end addr pages (r ∷ rs) =
    if meets addr pages r.addr r.pages then Some (r.addr + 4096 * r.pages)
    else blocking_end addr pages rs

-- the greatest end of a range
abbrev pub top_of : List LiveRange → ℕ
top_of [] = 0
top_of (r ∷ rs) = max (r.addr + 4096 * r.pages) (top_of rs)

-- how many mappings the ranges have
abbrev pub mapping_count : List LiveRange → ℕ
mapping_count rs = sum_by (λ r. r.count) rs

-- each range has pages and a count and begins a page, and it meets none of those behind it and has
-- another tag than they
abbrev pub IsOrderly : List LiveRange → Type 0
IsOrderly [] = Unit
IsOrderly (r ∷ rs) =
    (1 ≤ r.pages) × (1 ≤ r.count) × (r.addr % 4096 ≡ 0) ×
    (is_free r.addr r.pages (map placed rs) ≡ true)
    × (range_of r.tag rs ≡ None) × IsOrderly rs

-- The journal is sound and tells the live ranges, which are orderly. They end within the pages of
-- all mappings, have no more mappings than the journal tells of, and the journal has room for an
-- entry of each of these.
pub record IsSound (journal : List RegionEntry) (rs : List LiveRange) (room : ℕ) : Type 0 where
  pub sound : IsSoundJournal journal
  pub live : live_ranges journal ≡ map placed rs
  pub orderly : IsOrderly rs
  pub top : top_of rs ≤ 4096 * (225 * map_count journal)
  pub counts : mapping_count rs ≤ map_count journal
  pub few : map_count journal ≤ 16384
  pub roomy : length journal + mapping_count rs ≤ room

-- ---- how a count is set

abbrev pub with_count : ℕ → ℕ → LiveRange → LiveRange
with_count addr count r = if r.addr == addr then record r { count = count } else r

-- the ranges without the one that starts at this address
abbrev pub without : ℕ → List LiveRange → List LiveRange
without addr = filter (λ r. not (r.addr == addr))
