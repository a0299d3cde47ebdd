-- What a queue's page holds after a write to it.
use Rattle.std.proofs.Common.{◌≡◌, ℕ, zero, suc, ◌+◌, ◌*◌, ◌^◌, ◌%◌, ◌<◌, ◌≤◌, List, [], length, take, drop, map, set, get_or, Contains, refl, ap, ◌∙◌, subst, arith}
use Rattle.std.specs.Int.{w16, w32, from_le_bytes, to_le_bytes}
use Rattle.std.proofs.lemmas.Bool.{eqb-true}
use Rattle.std.proofs.lemmas.Map.Views.{Contains-from_any}
use Rattle.std.proofs.lemmas.List.{map-set, get_or-map, length-map}
use Rattle.std.proofs.lemmas.Nat.{mod_below, from_le_bytes-to_le_bytes_2}
use Rattle.vm_chain.specs.declared.desc.Desc.{Desc}
use Rattle.vm_split.specs.declared.entry.UsedEntry.{UsedEntry}
use Rattle.vm_split.specs.Ring.{Contents, contents_of, available_at, used_at, desc_of, entry_of, ring_sizes, IsRingSize, parts}
use Rattle.vm_split.proofs.PartLemmas.{written, read_written, read_before, read_behind, parts_before, parts_behind, parts_set, parts_get, read_within, length-parts}

-- the used ring stands behind the available ring
pub used_behind : (size : ℕ) → 18 * size + 6 ≤ used_at size
used_behind size = omega arith

pub used_near : (size : ℕ) → used_at size ≤ 18 * size + 9
used_near size = omega arith

-- what holds of each size
pub by_size : (P : ℕ → Type 0) → P 1 → P 2 → P 4 → P 8 → P 16 → P 32 → P 64 → (size : ℕ) → IsRingSize size → P size
by_size P a b c d e f g size sized = of_place (Contains-from_any eqb-true size ring_sizes sized)
  where
    at_place : (k : ℕ) → k < 7 → get_or ring_sizes k size ≡ size → P size
    at_place zero within found = subst P found a
    at_place (suc zero) within found = subst P found b
    at_place (suc (suc zero)) within found = subst P found c
    at_place (suc (suc (suc zero))) within found = subst P found d
    at_place (suc (suc (suc (suc zero)))) within found = subst P found e
    at_place (suc (suc (suc (suc (suc zero))))) within found = subst P found f
    at_place (suc (suc (suc (suc (suc (suc zero)))))) within found = subst P found g
    at_place (suc (suc (suc (suc (suc (suc (suc k))))))) within found = absurd (omega (arith, within))

    of_place : Contains ring_sizes size → P size
    of_place (k, within, found) = at_place k within found

pub size_most : (size : ℕ) → IsRingSize size → (1 ≤ size) × (size ≤ 64)
size_most = by_size (λ size. (1 ≤ size) × (size ≤ 64))
    (omega arith, omega arith) (omega arith, omega arith) (omega arith, omega arith) (omega arith, omega arith)
    (omega arith, omega arith) (omega arith, omega arith) (omega arith, omega arith)

same_contents : (c d : Contents) → c.table ≡ d.table → c.available_index ≡ d.available_index → c.available ≡ d.available → c.used_index ≡ d.used_index → c.used ≡ d.used → c ≡ d
same_contents c d p q r s t =
    let e : record { table = c.table; available_index = c.available_index; available = c.available; used_index = c.used_index; used = c.used }
    ≡ record { table = d.table; available_index = d.available_index; available = d.available; used_index = d.used_index; used = d.used } = rw (p, q, r, s, t) refl in
    e

-- writes of an index, of an entry and of a descriptor
pub available_index_set : (size : ℕ) (b : List ℕ) (index : ℕ) → IsRingSize size → length b ≡ 4096 → index < 2 ^ 16
    → contents_of size (written b (available_at size + 2) (to_le_bytes w16 index)) ≡ record (contents_of size b) { available_index = index }
unfolding contents_of
available_index_set size b index ring page small =
    let most = (size_most size ring).1 in
    let near = used_near size in
    let behind = used_behind size in
    let s = to_le_bytes w16 index in
    let at = available_at size + 2 in
    let two : length s ≡ 2 = refl in
    let ends : at + length s ≤ length b = omega (arith, most, page, two) in
    same_contents _ _
    (ap (map desc_of) (parts_before 16 b 0 size at s (omega arith) ends))
    (ap (from_le_bytes w16) (read_written b at s 2 refl ends) ∙ from_le_bytes-to_le_bytes_2 index small)
    (ap (map (from_le_bytes w16)) (parts_behind 2 b (available_at size + 4) size at s (omega (arith, two)) ends))
    (ap (from_le_bytes w16) (read_behind b (used_at size + 2) 2 at s (omega (arith, two, behind)) ends))
    (ap (map entry_of) (parts_behind 8 b (used_at size + 4) size at s (omega (arith, two, behind)) ends))

pub available_set : (size : ℕ) (b : List ℕ) (k head : ℕ) → IsRingSize size → length b ≡ 4096 → k < size → head < 2 ^ 16
    → contents_of size (written b (available_at size + 4 + 2 * k) (to_le_bytes w16 head)) ≡ record (contents_of size b) { available = set (contents_of size b).available k head }
unfolding contents_of
available_set size b k head ring page within small =
    let most = (size_most size ring).1 in
    let near = used_near size in
    let behind = used_behind size in
    let s = to_le_bytes w16 head in
    let at = available_at size + 4 + 2 * k in
    let two : length s ≡ 2 = refl in
    let ends : at + length s ≤ length b = omega (arith, most, page, two, within) in
    same_contents _ _
    (ap (map desc_of) (parts_before 16 b 0 size at s (omega arith) ends))
    (ap (from_le_bytes w16) (read_before b (available_at size + 2) 2 at s (omega arith) ends))
    (ap (map (from_le_bytes w16)) (parts_set 2 b (available_at size + 4) size k at s within refl refl ends)
    ∙ (map-set (from_le_bytes w16) (parts 2 b (available_at size + 4) size) k s ∙ ap (set (map (from_le_bytes w16) (parts 2 b (available_at size + 4) size)) k) (from_le_bytes-to_le_bytes_2 head small)))
    (ap (from_le_bytes w16) (read_behind b (used_at size + 2) 2 at s (omega (arith, two, behind, within)) ends))
    (ap (map entry_of) (parts_behind 8 b (used_at size + 4) size at s (omega (arith, two, behind, within)) ends))

pub used_index_set : (size : ℕ) (b : List ℕ) (index : ℕ) → IsRingSize size → length b ≡ 4096 → index < 2 ^ 16
    → contents_of size (written b (used_at size + 2) (to_le_bytes w16 index)) ≡ record (contents_of size b) { used_index = index }
unfolding contents_of
used_index_set size b index ring page small =
    let most = (size_most size ring).1 in
    let near = used_near size in
    let behind = used_behind size in
    let s = to_le_bytes w16 index in
    let at = used_at size + 2 in
    let two : length s ≡ 2 = refl in
    let ends : at + length s ≤ length b = omega (arith, most, page, two, near) in
    same_contents _ _
    (ap (map desc_of) (parts_before 16 b 0 size at s (omega (arith, behind)) ends))
    (ap (from_le_bytes w16) (read_before b (available_at size + 2) 2 at s (omega (arith, behind)) ends))
    (ap (map (from_le_bytes w16)) (parts_before 2 b (available_at size + 4) size at s (omega (arith, behind)) ends))
    (ap (from_le_bytes w16) (read_written b at s 2 refl ends) ∙ from_le_bytes-to_le_bytes_2 index small)
    (ap (map entry_of) (parts_behind 8 b (used_at size + 4) size at s (omega (arith, two)) ends))

pub used_set : (size : ℕ) (b : List ℕ) (k : ℕ) (s : List ℕ) (e : UsedEntry) → IsRingSize size → length b ≡ 4096 → k < size → length s ≡ 8 → entry_of s ≡ e
    → contents_of size (written b (used_at size + 4 + 8 * k) s) ≡ record (contents_of size b) { used = set (contents_of size b).used k e }
unfolding contents_of
used_set size b k s e ring page within eight reads =
    let most = (size_most size ring).1 in
    let near = used_near size in
    let behind = used_behind size in
    let at = used_at size + 4 + 8 * k in
    let ends : at + length s ≤ length b = omega (arith, most, page, eight, near, within) in
    same_contents _ _
    (ap (map desc_of) (parts_before 16 b 0 size at s (omega (arith, behind)) ends))
    (ap (from_le_bytes w16) (read_before b (available_at size + 2) 2 at s (omega (arith, behind)) ends))
    (ap (map (from_le_bytes w16)) (parts_before 2 b (available_at size + 4) size at s (omega (arith, behind)) ends))
    (ap (from_le_bytes w16) (read_before b (used_at size + 2) 2 at s (omega arith) ends))
    (ap (map entry_of) (parts_set 8 b (used_at size + 4) size k at s within eight refl ends)
    ∙ (map-set entry_of (parts 8 b (used_at size + 4) size) k s ∙ ap (set (map entry_of (parts 8 b (used_at size + 4) size)) k) reads))

pub table_set : (size : ℕ) (b : List ℕ) (k : ℕ) (s : List ℕ) (d : Desc) → IsRingSize size → length b ≡ 4096 → k < size → length s ≡ 16 → desc_of s ≡ d
    → contents_of size (written b (16 * k) s) ≡ record (contents_of size b) { table = set (contents_of size b).table k d }
unfolding contents_of
table_set size b k s d ring page within sixteen reads =
    let most = (size_most size ring).1 in
    let behind = used_behind size in
    let at = 16 * k in
    let ends : at + length s ≤ length b = omega (arith, most, page, sixteen, within) in
    same_contents _ _
    (ap (map desc_of) (parts_set 16 b 0 size k at s within sixteen (omega arith) ends)
    ∙ (map-set desc_of (parts 16 b 0 size) k s ∙ ap (set (map desc_of (parts 16 b 0 size)) k) reads))
    (ap (from_le_bytes w16) (read_behind b (available_at size + 2) 2 at s (omega (arith, sixteen, within)) ends))
    (ap (map (from_le_bytes w16)) (parts_behind 2 b (available_at size + 4) size at s (omega (arith, sixteen, within)) ends))
    (ap (from_le_bytes w16) (read_behind b (used_at size + 2) 2 at s (omega (arith, sixteen, within, behind)) ends))
    (ap (map entry_of) (parts_behind 8 b (used_at size + 4) size at s (omega (arith, sixteen, within, behind)) ends))

-- what is read of an entry
pub available_get : (size : ℕ) (b : List ℕ) (k : ℕ) → k < size → get_or (contents_of size b).available k 0 ≡ from_le_bytes w16 (take 2 (drop (available_at size + 4 + 2 * k) b))
unfolding contents_of
available_get size b k within =
    let len = length-parts 2 b (available_at size + 4) size in
    get_or-map (from_le_bytes w16) (parts 2 b (available_at size + 4) size) k [] 0 (rw len within)
    ∙ ap (from_le_bytes w16) (parts_get 2 b (available_at size + 4) size k [] within)

pub lengths : (size : ℕ) (b : List ℕ) → (length (contents_of size b).table ≡ size) × (length (contents_of size b).available ≡ size) × (length (contents_of size b).used ≡ size)
unfolding contents_of
lengths size b = (
  length-map (parts 16 b 0 size) desc_of ∙ length-parts 16 b 0 size,
  length-map (parts 2 b (available_at size + 4) size) (from_le_bytes w16) ∙ length-parts 2 b (available_at size + 4) size,
  length-map (parts 8 b (used_at size + 4) size) entry_of ∙ length-parts 8 b (used_at size + 4) size,
)

pub used_get : (size : ℕ) (b : List ℕ) (k : ℕ) (d : UsedEntry) → k < size → get_or (contents_of size b).used k d ≡ entry_of (take 8 (drop (used_at size + 4 + 8 * k) b))
unfolding contents_of
used_get size b k d within =
    let len = length-parts 8 b (used_at size + 4) size in
    get_or-map entry_of (parts 8 b (used_at size + 4) size) k [] d (rw len within)
    ∙ ap entry_of (parts_get 8 b (used_at size + 4) size k [] within)

-- the halves of an entry
pub entry_halves : (b : List ℕ) (at : ℕ) → at + 8 ≤ length b
    → entry_of (take 8 (drop at b)) ≡ record { id = from_le_bytes w32 (take 4 (drop at b)); len = from_le_bytes w32 (take 4 (drop (at + 4) b)) }
entry_halves b at ends =
    let first : take 4 (take 8 (drop at b)) ≡ take 4 (drop at b) = read_within b at 8 0 4 (omega arith) ends ∙ ap (λ n. take 4 (drop n b)) (omega arith) in
    let second : take 4 (drop 4 (take 8 (drop at b))) ≡ take 4 (drop (at + 4) b) = read_within b at 8 4 4 (omega arith) ends in
    rw (first, second) refl

-- a place in a ring is below its size
pub place_below : (number size : ℕ) → IsRingSize size → number % size < size
place_below number size ring = mod_below number size (size_most size ring).0
