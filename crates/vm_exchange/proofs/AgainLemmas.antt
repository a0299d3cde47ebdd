-- Entries are read as they were written.
use Rattle.std.proofs.Common.{◌≡◌, ◌<◌, ◌≤◌, ◌^◌, ℕ, zero, suc, ◌+◌, ◌*◌, ◌/◌, List, [], ◌∷◌, ◌++◌, length, take, drop, get_or, Some, refl, sym, ap, ◌∙◌, subst, arith}
use Rattle.std.specs.List.{flat_map}
use Rattle.std.proofs.Math.Seq.{drop-append-add}
use Rattle.std.proofs.lemmas.List.{same_lists, drop-drop}
use Rattle.std.proofs.lemmas.List.Concat.{flat_map-cons}
use Rattle.std.proofs.lemmas.List.FromFn.{length-map-range_with_len, get_or-map-range_with_len}
use Rattle.std.proofs.lemmas.Nat.{from_le_bytes-to_le_bytes_4, from_le_bytes-to_le_bytes_8}
use Rattle.std.specs.Int.{w32, w64, from_le_bytes}
use Rattle.vm_frame.specs.declared.scatter.SgEntry.{SgEntry}
use Rattle.vm_sg.specs.UserMemory.{page_count, entry_of}
use Rattle.vm_sg.specs.Wire.{entry_at, entries_in}
use Rattle.vm_exchange.specs.declared.user_place.UserPlace.{UserPlace}
use Rattle.vm_exchange.specs.Entries.{entry_wire, entries_of, bytes_behind}
use Rattle.vm_exchange.proofs.EntryLemmas.{entries_long}

-- the bytes from an entry on begin with its own
there : (es : List SgEntry) (i : ℕ) (d : SgEntry) → i < length es → (rest : List ℕ) × (drop (16 * i) (flat_map entry_wire es) ≡ entry_wire (get_or es i d) ++ rest)
there [] i d below = absurd (omega (arith, below))
there (e ∷ es) zero d below = (flat_map entry_wire es, flat_map-cons entry_wire e es)
there (e ∷ es) (suc i) d below =
    let further = there es i d (omega (arith, below)) in
    let one : length (entry_wire e) ≡ 16 = refl in
    let on : 16 * suc i ≡ length (entry_wire e) + 16 * i = omega (arith, one) in (
      further.0,
      ap (λ bytes. drop (16 * suc i) bytes) (flat_map-cons entry_wire e es) ∙
          (ap (λ n. drop n (entry_wire e ++ flat_map entry_wire es)) on ∙
          (drop-append-add (entry_wire e) (flat_map entry_wire es) (16 * i) ∙ further.1)),
    )

-- its numbers fit into their fields
abbrev IsWritten : SgEntry → Type 0
IsWritten e = (e.start < 2 ^ 64) × (e.len < 2 ^ 32)

read_there : (wire rest : List ℕ) (i : ℕ) (e : SgEntry) → IsWritten e → drop (16 * i) wire ≡ entry_wire e ++ rest → entry_at wire i ≡ e
read_there wire rest i e fits is =
    let start : from_le_bytes w64 (take 8 (drop (16 * i) wire)) ≡ e.start =
    ap (λ bytes. from_le_bytes w64 (take 8 bytes)) is ∙ from_le_bytes-to_le_bytes_8 e.start fits.0 in
    let len : from_le_bytes w32 (take 4 (drop (16 * i + 8) wire)) ≡ e.len =
    ap (λ bytes. from_le_bytes w32 (take 4 bytes)) (sym (drop-drop 8 (16 * i) wire) ∙ ap (λ bytes. drop 8 bytes) is) ∙ from_le_bytes-to_le_bytes_4 e.len fits.1 in
    λ j. record { start = start j; len = len j }

all_again : (es : List SgEntry) → ((i : ℕ) (d : SgEntry) → i < length es → IsWritten (get_or es i d)) → entries_in (flat_map entry_wire es) ≡ es
all_again es fits =
    let wire : List ℕ = flat_map entry_wire es in
    let long = entries_long es in
    let count : length wire / 16 ≡ length es = omega (arith, long) in
    let size : length (entries_in wire) ≡ length wire / 16 = length-map-range_with_len (entry_at wire) 0 (length wire / 16) in
    same_lists (entries_in wire) es (size ∙ count)
    (λ i d below.
    let among : i < length es = omega (arith, below, size, count) in
    let first : 0 + i ≡ i = omega arith in
    let found = there es i d among in
    get_or-map-range_with_len (entry_at wire) 0 (length wire / 16) i i d (omega (arith, below, size)) first ∙
    read_there wire found.0 i (get_or es i d) (fits i d among) found.1)

entry_written : (line len off i : ℕ) → line < 2 ^ 32 → len ≤ 925696 → off ≤ 4095 → IsWritten (entry_of line len off i)
entry_written line len off i lines short near = (grind (arith, lines, short, near), grind (arith, lines, short, near))

pub again : (place : UserPlace) → place.line < 2 ^ 32 → place.length ≤ 925696 → place.off ≤ 4095 → entries_in (bytes_behind (Some place)) ≡ entries_of place
again place lines short near =
    let f : ℕ → SgEntry = entry_of place.line place.length place.off in
    let n : ℕ = page_count place.length place.off in
    all_again (entries_of place)
    (λ i d below.
    let among : i < n = omega (arith, below, length-map-range_with_len f 0 n) in
    let first : 0 + i ≡ i = omega arith in
    subst IsWritten (sym (get_or-map-range_with_len f 0 n i i d among first)) (entry_written place.line place.length place.off i lines short near))
