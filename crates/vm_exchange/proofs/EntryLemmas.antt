-- The bytes of entries, one behind the other.
use Rattle.std.proofs.Common.{◌≡◌, ◌≤◌, ℕ, ◌+◌, ◌*◌, List, [], ◌∷◌, ◌++◌, length, take, drop, map, refl, sym, ap, ◌∙◌, arith, length-append, append_assoc}
use Rattle.std.specs.List.{flat_map, range_with_len}
use Rattle.std.proofs.lemmas.Grind.{flat_map-append}
use Rattle.std.proofs.lemmas.List.{append-nil, take_at, drop_at, drop-drop, length-drop}
use Rattle.std.proofs.lemmas.List.Concat.{flat_map-cons, length-flat_map}
use Rattle.std.proofs.lemmas.List.Sums.{sum_by-cons}
use Rattle.std.specs.Prelude.{sum_by}
use borrow.Rule.Slice.PartMut.{put_mid}
use Rattle.std.proofs.lemmas.List.FromFn.{length-map-range_with_len, map-range_with_len_more}
use Rattle.vm_frame.specs.declared.scatter.SgEntry.{SgEntry}
use Rattle.vm_sg.specs.UserMemory.{page_count, entry_of}
use Rattle.vm_exchange.specs.declared.user_place.UserPlace.{UserPlace}
use Rattle.vm_exchange.specs.Entries.{entry_wire, entries_of}

entries_sum : (es : List SgEntry) → sum_by (λ e. length (entry_wire e)) es ≡ 16 * length es
entries_sum [] = refl
entries_sum (e ∷ es) =
    let first : length (entry_wire e) ≡ 16 = refl in
    let rest = entries_sum es in
    sum_by-cons (λ e. length (entry_wire e)) e es ∙ omega (arith, first, rest)

pub entries_long : (es : List SgEntry) → length (flat_map entry_wire es) ≡ 16 * length es
entries_long es = length-flat_map entry_wire es ∙ entries_sum es

-- the bytes of the first i entries of a list that a function gives
abbrev pub first_entries : (ℕ → SgEntry) → ℕ → List ℕ
first_entries f i = flat_map entry_wire (map f (range_with_len 0 i))

pub first_long : (f : ℕ → SgEntry) (i : ℕ) → length (first_entries f i) ≡ 16 * i
first_long f i = entries_long (map f (range_with_len 0 i)) ∙ ap (λ n. 16 * n) (length-map-range_with_len f 0 i)

pub first_more : (f : ℕ → SgEntry) (i : ℕ) → first_entries f (i + 1) ≡ first_entries f i ++ entry_wire (f i)
first_more f i =
    ap (λ es. flat_map entry_wire es) (map-range_with_len_more f 0 i i (omega arith)) ∙
    (flat_map-append entry_wire (map f (range_with_len 0 i)) (f i ∷ []) ∙
    ap (λ bytes. first_entries f i ++ bytes) (flat_map-cons entry_wire (f i) [] ∙ append-nil (entry_wire (f i))))

-- another entry is written behind the first i
pub one_more : (f : ℕ → SgEntry) (i k : ℕ) (out old written : List ℕ) → out ≡ first_entries f i ++ drop (16 * i) old → k ≡ 16 →
    written ≡ entry_wire (f i) → put_mid (16 * i) k out written ≡ first_entries f (i + 1) ++ drop (16 * (i + 1)) old
one_more f i k out old written is size entry =
    let long = first_long f i in
    let front : take (16 * i) out ≡ first_entries f i =
    ap (λ bytes. take (16 * i) bytes) is ∙ take_at (first_entries f i) (drop (16 * i) old) (16 * i) long in
    let back : drop (16 * i) out ≡ drop (16 * i) old =
    ap (λ bytes. drop (16 * i) bytes) is ∙ drop_at (first_entries f i) (drop (16 * i) old) (16 * i) long in
    let far : drop 16 (drop (16 * i) out) ≡ drop (16 * (i + 1)) old =
    ap (λ bytes. drop 16 bytes) back ∙ (drop-drop 16 (16 * i) old ∙ ap (λ n. drop n old) (omega arith)) in
    let put : put_mid (16 * i) k out written ≡ take (16 * i) out ++ (entry_wire (f i) ++ drop 16 (drop (16 * i) out)) =
    ap (λ n. take (16 * i) out ++ (written ++ drop n (drop (16 * i) out))) size ∙
    ap (λ bytes. take (16 * i) out ++ (bytes ++ drop 16 (drop (16 * i) out))) entry in
    put ∙ (ap (λ bytes. bytes ++ (entry_wire (f i) ++ drop 16 (drop (16 * i) out))) front ∙
    (ap (λ bytes. first_entries f i ++ (entry_wire (f i) ++ bytes)) far ∙
    (sym (append_assoc (first_entries f i) (entry_wire (f i)) (drop (16 * (i + 1)) old)) ∙
    ap (λ bytes. bytes ++ drop (16 * (i + 1)) old) (sym (first_more f i)))))

-- what is written over the front is as long
pub as_long : (f : ℕ → SgEntry) (i : ℕ) (out old : List ℕ) → out ≡ first_entries f i ++ drop (16 * i) old → 16 * i ≤ length old → length out ≡ length old
as_long f i out old is room =
    ap (λ bytes. length bytes) is ∙ (length-append (first_entries f i) (drop (16 * i) old) ∙
    omega (arith, first_long f i, length-drop (16 * i) old, room))

-- how many bytes the entries of user memory take
pub place_long : (place : UserPlace) → length (flat_map entry_wire (entries_of place)) ≡ 16 * page_count place.length place.off
place_long place = first_long (entry_of place.line place.length place.off) (page_count place.length place.off)
