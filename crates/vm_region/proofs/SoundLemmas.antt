-- What the region keeps is kept by each entry.
use Rattle.std.proofs.Common.{◌≡◌, ℕ, ◌==◌, ◌+◌, ◌-◌, ◌*◌, ◌<◌, ◌≤◌, ◌∙◌, ◌^◌, true, false, Option, Some, None, List, [], ◌∷◌, ◌++◌, length, map, IfSome, ⊎_elim, inl, inr, refl, sym, ap, subst, arith}
use Rattle.std.proofs.lemmas.Bool.{cases_lt}
use Rattle.std.proofs.lemmas.Bool.Decides.{nat_tests}
use Rattle.std.proofs.lemmas.List.{length_push, map-append}
use Rattle.std.proofs.lemmas.List.Sums.{sum_by_push}
use Rattle.vm_region.specs.declared.entry.RegionEntry.{RegionEntry}
use Rattle.vm_region.specs.declared.entry.RegionEntry.TheVariants.{Map, Drop}
use Rattle.vm_region.specs.declared.live_range.LiveRange.{LiveRange}
use Rattle.vm_region.specs.Region.{Grants, IsLeast, IsOrderly, IsSound, is_free, MayFollow, PlacedRange, counted, live_ranges, map_count, mapping_count, placed, placed_at, placed_counted, range_at, range_of, ranges_after, top_of}
use Rattle.vm_region.proofs.CountLemmas.{orderly_counted, placed_alike, top_counted}
use Rattle.vm_region.proofs.JournalLemmas.{maps_drop, maps_push, ranges_push, sound_push}
use Rattle.vm_region.proofs.OrderLemmas.{found, orderly_push, tag_found, top_push}

-- a live range is counted once more
pub raised : (es : List RegionEntry) (rs : List LiveRange) (old_room room t n : ℕ) (r : LiveRange) → IsSound es rs old_room → range_of t rs ≡ Some r
    → r.pages ≡ n → map_count es < 16384 → length es + mapping_count rs + 2 ≤ room
    → IsSound (es ++ Map r.addr n (r.count + 1) ∷ []) (counted r.addr (r.count + 1) rs) room
raised es rs old_room room t n r kept of size few roomy =
    let e : RegionEntry = Map r.addr n (r.count + 1) in
    let place = found r.addr r rs kept.orderly (tag_found t r rs kept.orderly of) in
    let there : placed_at r.addr (map placed rs) ≡ Some (record { addr = r.addr; pages = n; count = r.count }) = rw (← size) place.there in
    let P : List PlacedRange → Type 0 = λ ps. MayFollow ps e in
    let may : MayFollow (live_ranges es) e = subst P (sym kept.live) (inl (r.count, there, refl)) in
    let some = place.some in
    let more : ((r.count + 1) == 1) ≡ false = grind (arith, nat_tests, some) in
    let after : ranges_after (map placed rs) e ≡ placed_counted r.addr (r.count + 1) (map placed rs) = rw more refl in
    let maps = maps_push es r.addr n (r.count + 1) in
    let counts = place.counts (r.count + 1) in
    let top = top_counted r.addr (r.count + 1) rs in
    let longer = length_push es e in
    let old_top = kept.top in
    let old_counts = kept.counts in
    record {
      sound = sound_push [] es e kept.sound may;
      live = ranges_push [] es e ∙ (ap (λ ps. ranges_after ps e) kept.live ∙ (after ∙ sym (placed_alike r.addr (r.count + 1) rs)));
      orderly = orderly_counted r.addr (r.count + 1) rs kept.orderly;
      top = omega (arith, maps, top, old_top);
      counts = omega (arith, maps, counts, old_counts);
      few = omega (arith, maps, few);
      roomy = omega (arith, longer, counts, roomy);
    }

-- a range begins to live
pub began : (es : List RegionEntry) (rs : List LiveRange) (old_room room t n a : ℕ) → IsSound es rs old_room → range_of t rs ≡ None
    → 1 ≤ n → n ≤ 225 → IsLeast a n rs → a ≤ top_of rs → map_count es < 16384 → length es + mapping_count rs + 2 ≤ room
    → IsSound (es ++ Map a n 1 ∷ []) (rs ++ record { addr = a; pages = n; tag = t; count = 1 } ∷ []) room
began es rs old_room room t n a kept of size small least within few roomy =
    let e : RegionEntry = Map a n 1 in
    let r : LiveRange = record { addr = a; pages = n; tag = t; count = 1 } in
    let P : List PlacedRange → Type 0 = λ ps. MayFollow ps e in
    let may : MayFollow (live_ranges es) e = subst P (sym kept.live) (inr (refl, least.free)) in
    let maps = maps_push es a n 1 in
    let counts = sum_by_push (λ (r : LiveRange). r.count) rs r in
    let top = top_push r rs in
    let longer = length_push es e in
    let old_top = kept.top in
    let old_counts = kept.counts in
    record {
      sound = sound_push [] es e kept.sound may;
      live = ranges_push [] es e ∙ (ap (λ ps. ranges_after ps e) kept.live ∙ sym (map-append placed rs (r ∷ [])));
      orderly = orderly_push r rs kept.orderly size (omega arith) least.page least.free of;
      top = omega (arith, maps, top, old_top, within, small);
      counts = omega (arith, maps, counts, old_counts);
      few = omega (arith, maps, few);
      roomy = omega (arith, longer, counts, roomy);
    }

-- a mapping of a live range is given back
pub lowered : (es : List RegionEntry) (rs : List LiveRange) (room a : ℕ) (r : LiveRange) → IsSound es rs room → range_at a rs ≡ Some r
    → IsSound (es ++ Drop a (r.count - 1) ∷ []) (counted a (r.count - 1) rs) room
lowered es rs room a r kept at =
    let e : RegionEntry = Drop a (r.count - 1) in
    let place = found a r rs kept.orderly at in
    let some = place.some in
    let one : r.count - 1 + 1 ≡ r.count = omega (arith, some) in
    let there : placed_at a (map placed rs) ≡ Some (record { addr = a; pages = r.pages; count = r.count - 1 + 1 }) = rw one (subst (λ x. placed_at a (map placed rs) ≡ Some (record { addr = x; pages = r.pages; count = r.count })) place.addr place.there) in
    let P : List PlacedRange → Type 0 = λ ps. MayFollow ps e in
    let may : MayFollow (live_ranges es) e = subst P (sym kept.live) (r.pages, there) in
    let maps = maps_drop es a (r.count - 1) in
    let counts = place.counts (r.count - 1) in
    let top = top_counted a (r.count - 1) rs in
    let longer = length_push es e in
    let old_top = kept.top in
    let old_counts = kept.counts in
    let old_few = kept.few in
    let roomy = kept.roomy in
    record {
      sound = sound_push [] es e kept.sound may;
      live = ranges_push [] es e ∙ (ap (λ ps. ranges_after ps e) kept.live ∙ sym (placed_alike a (r.count - 1) rs));
      orderly = orderly_counted a (r.count - 1) rs kept.orderly;
      top = omega (arith, maps, top, old_top);
      counts = omega (arith, maps, counts, old_counts, some);
      few = omega (arith, maps, old_few);
      roomy = omega (arith, longer, counts, roomy, some);
    }

-- beyond every range all pages are free
pub free_beyond : (a n : ℕ) (rs : List LiveRange) → top_of rs ≤ a → is_free a n (map placed rs) ≡ true
free_beyond a n [] beyond = refl
free_beyond a n (r ∷ rs) beyond =
    let rest : is_free a n (map placed rs) ≡ true = free_beyond a n rs (omega (arith, beyond)) in
    let behind : r.addr + 4096 * r.pages ≤ a = omega (arith, beyond) in
    grind (arith, nat_tests, rest, behind)

-- so the least place is not beyond them
pub least_within : (a n : ℕ) (rs : List LiveRange) → IsLeast a n rs → a ≤ top_of rs
least_within a n rs least = ⊎_elim
    (λ (beyond : top_of rs < a). let free = free_beyond (top_of rs) n rs (omega arith) in let taken = least.least (top_of rs) beyond in absurd (cc))
    (λ (within : a ≤ top_of rs). within)
    (cases_lt (top_of rs) a)

pub granted : (es : List RegionEntry) (rs new : List LiveRange) (old_room room t n : ℕ) (given : LiveRange) (o : Option LiveRange) → IsSound es rs old_room
    → range_of t rs ≡ o → IfSome o (λ r. r.pages ≡ n) → 1 ≤ n → n ≤ 225 → map_count es < 16384 → length es + mapping_count rs + 2 ≤ room
    → Grants o t n rs given new → IsSound (es ++ Map given.addr n given.count ∷ []) new room
granted es rs new old_room room t n given (Some r) kept of size some small few roomy (same, now) =
    rw (same, now) (raised es rs old_room room t n r kept of size few roomy)
granted es rs new old_room room t n given None kept of size some small few roomy (least, same, now) =
    let P : LiveRange → Type 0 = λ g. IsSound (es ++ Map given.addr n g.count ∷ []) (rs ++ g ∷ []) room in
    let all = began es rs old_room room t n given.addr kept of some small least (least_within given.addr n rs least) few roomy in
    rw now (subst P (sym same) all)

-- a granted range lies in the region
pub granted_within : (es : List RegionEntry) (rs new : List LiveRange) (room t n : ℕ) (given : LiveRange) (o : Option LiveRange) → IsSound es rs room
    → range_of t rs ≡ o → IfSome o (λ r. r.pages ≡ n) → n ≤ 225 → map_count es < 16384 → Grants o t n rs given new
    → given.addr + 4096 * n ≤ 4096 * 2 ^ 22
granted_within es rs new room t n given (Some r) kept of size small few (same, now) =
    let top = (found r.addr r rs kept.orderly (tag_found t r rs kept.orderly of)).top in
    let all = kept.top in
    rw same (omega (arith, top, all, few, size))
granted_within es rs new room t n given None kept of size small few (least, same, now) =
    let top = least_within given.addr n rs least in
    let all = kept.top in
    omega (arith, top, all, few, small)

-- the count of a tag's range can be raised
pub count_fits : (t : ℕ) (r : LiveRange) (rs : List LiveRange) → IsOrderly rs → mapping_count rs < 2 ^ 32 - 1 → range_of t rs ≡ Some r → r.count + 1 < 2 ^ 32
count_fits t r rs orderly few of =
    let within = (found r.addr r rs orderly (tag_found t r rs orderly of)).within in omega (arith, within, few)
