-- Lemmas on a journal with an entry more.
use Rattle.std.proofs.Common.{◌≡◌, ℕ, ◌+◌, ◌≤◌, List, [], ◌∷◌, ◌++◌, length, refl, arith}
use Rattle.vm_region.specs.declared.entry.RegionEntry.{RegionEntry}
use Rattle.vm_region.specs.declared.entry.RegionEntry.TheVariants.{Map, Drop}
use Rattle.vm_region.specs.Region.{PlacedRange, MayFollow, IsSoundFrom, map_count, ranges_after, ranges_from}

pub ranges_push : (rs : List PlacedRange) (es : List RegionEntry) (e : RegionEntry) → ranges_from rs (es ++ e ∷ []) ≡ ranges_after (ranges_from rs es) e
ranges_push rs [] e = refl
ranges_push rs (x ∷ es) e = ranges_push (ranges_after rs x) es e

pub sound_push : (rs : List PlacedRange) (es : List RegionEntry) (e : RegionEntry) → IsSoundFrom rs es → MayFollow (ranges_from rs es) e
    → IsSoundFrom rs (es ++ e ∷ [])
sound_push rs [] e sound may = (may, tt)
sound_push rs (x ∷ es) e (first, sound) may = (first, sound_push (ranges_after rs x) es e sound may)

pub maps_push : (es : List RegionEntry) (a n c : ℕ) → map_count (es ++ Map a n c ∷ []) ≡ map_count es + 1
maps_push [] a n c = refl
maps_push (Map b m d ∷ es) a n c = let rest = maps_push es a n c in omega (arith, rest)
maps_push (Drop b d ∷ es) a n c = maps_push es a n c

pub maps_drop : (es : List RegionEntry) (a c : ℕ) → map_count (es ++ Drop a c ∷ []) ≡ map_count es
maps_drop [] a c = refl
maps_drop (Map b m d ∷ es) a c = let rest = maps_drop es a c in omega (arith, rest)
maps_drop (Drop b d ∷ es) a c = maps_drop es a c

-- a journal tells of no more mappings than it has entries
pub maps_within : (es : List RegionEntry) → map_count es ≤ length es
maps_within [] = omega arith
maps_within (Map a n c ∷ es) = let rest = maps_within es in omega (arith, rest)
maps_within (Drop a c ∷ es) = let rest = maps_within es in omega (arith, rest)
