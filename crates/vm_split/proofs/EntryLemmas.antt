-- The entries of a ring from a number on, where the ring's index or the count of what was taken rises.
use Rattle.std.proofs.Common.{◌≡◌, ◌≢◌, ℕ, zero, suc, ◌+◌, ◌%◌, ◌^◌, ◌<◌, ◌≤◌, ◌++◌, List, [], ◌∷◌, length, set, get_or, refl, ap, sym, ◌∙◌, arith}
use Rattle.std.proofs.lemmas.List.{get_or-set_same, get_or-set_other}
use Rattle.std.proofs.lemmas.Nat.{mod_below}
use Rattle.vm_split.specs.Kept.{ahead}
use Rattle.vm_split.specs.Ring.{IsRingSize}
use Rattle.vm_split.specs.Stands.{entries_from}
use Rattle.vm_split.proofs.RingLemmas.{by_size, size_most}

-- numbers modulo a size
wraps : (k size : ℕ) → IsRingSize size → k % 2 ^ 16 % size ≡ k % size
wraps k = by_size (λ size. k % 2 ^ 16 % size ≡ k % size) (omega arith) (omega arith) (omega arith) (omega arith) (omega arith) (omega arith) (omega arith)

follows : (a b size : ℕ) → IsRingSize size → a % size ≡ b % size → (a + 1) % size ≡ (b + 1) % size
follows a b = by_size (λ size. a % size ≡ b % size → (a + 1) % size ≡ (b + 1) % size)
    (λ h. omega (arith, h)) (λ h. omega (arith, h)) (λ h. omega (arith, h)) (λ h. omega (arith, h)) (λ h. omega (arith, h)) (λ h. omega (arith, h)) (λ h. omega (arith, h))

differs : (k m size : ℕ) → IsRingSize size → 0 < m → m < size → k % size ≢ (k + m) % size
differs k m = by_size (λ size. 0 < m → m < size → k % size ≢ (k + m) % size)
    (λ p q h. omega (arith, p, q, h)) (λ p q h. omega (arith, p, q, h)) (λ p q h. omega (arith, p, q, h)) (λ p q h. omega (arith, p, q, h)) (λ p q h. omega (arith, p, q, h)) (λ p q h. omega (arith, p, q, h)) (λ p q h. omega (arith, p, q, h))

pub length-entries : {A : Type 0} (none : A) (size : ℕ) (ring : List A) (k count : ℕ) → length (entries_from none size ring k count) ≡ count
length-entries none size ring k zero = refl
length-entries none size ring k (suc count) = ap suc (length-entries none size ring (k + 1) count)

entries_same : {A : Type 0} (none : A) (size : ℕ) (ring : List A) (a b count : ℕ) → IsRingSize size → a % size ≡ b % size
    → entries_from none size ring a count ≡ entries_from none size ring b count
entries_same none size ring a b zero sized same = refl
entries_same none size ring a b (suc count) sized same =
    let rest = entries_same none size ring (a + 1) (b + 1) count sized (follows a b size sized same) in
    rw (same, rest) refl

entries_more : {A : Type 0} (none : A) (size : ℕ) (ring : List A) (k count : ℕ)
    → entries_from none size ring k (count + 1) ≡ entries_from none size ring k count ++ get_or ring ((k + count) % size) none ∷ []
entries_more none size ring k zero = ap (λ n. get_or ring (n % size) none ∷ []) (omega arith)
entries_more none size ring k (suc count) =
    let place : k + 1 + count ≡ k + suc count = omega arith in
    let more : suc count + 1 ≡ suc (count + 1) = omega arith in
    rw (more, entries_more none size ring (k + 1) count, place) refl

entries_set : {A : Type 0} (none : A) (size : ℕ) (ring : List A) (k count m : ℕ) (v : A) → IsRingSize size → count ≤ m → m < size
    → entries_from none size (set ring ((k + m) % size) v) k count ≡ entries_from none size ring k count
entries_set none size ring k zero m v sized behind within = refl
entries_set none size ring k (suc count) zero v sized behind within = absurd (omega (arith, behind))
entries_set none size ring k (suc count) (suc m) v sized behind within =
    let place : k + suc m ≡ k + 1 + m = omega arith in
    let here : get_or (set ring ((k + suc m) % size) v) (k % size) none ≡ get_or ring (k % size) none =
    get_or-set_other ring ((k + suc m) % size) (k % size) v none (differs k (suc m) size sized (omega arith) within) in
    let rest : entries_from none size (set ring ((k + suc m) % size) v) (k + 1) count ≡ entries_from none size ring (k + 1) count =
    rw place (entries_set none size ring (k + 1) count m v sized (omega (arith, behind)) (omega (arith, within))) in
    rw (here, rest) refl

-- a further entry
pub entries_offered : {A : Type 0} (none : A) (size : ℕ) (ring : List A) (taken index : ℕ) (v : A) → IsRingSize size → length ring ≡ size → taken < 2 ^ 16
    → ahead taken index < size
    → entries_from none size (set ring (index % size) v) taken (ahead taken ((index + 1) % 2 ^ 16)) ≡ entries_from none size ring taken (ahead taken index) ++ v ∷ []
entries_offered none size ring taken index v sized whole small room =
    let n = ahead taken index in
    let most = size_most size sized in
    let more : ahead taken ((index + 1) % 2 ^ 16) ≡ n + 1 = omega (arith, small, room, most.1) in
    let round : (taken + n) % 2 ^ 16 ≡ index % 2 ^ 16 = omega (arith, small) in
    let place : index % size ≡ (taken + n) % size = sym (wraps index size sized) ∙ (ap (λ x. x % size) (sym round) ∙ wraps (taken + n) size sized) in
    let below : (taken + n) % size < length ring = rw whole (mod_below (taken + n) size most.0) in
    let kept = entries_set none size ring taken n n v sized (omega arith) room in
    let last = get_or-set_same ring ((taken + n) % size) v none below in
    rw (more, place, entries_more none size (set ring ((taken + n) % size) v) taken n, kept, last) refl

-- the first entry and the rest
pub entries_taken : {A : Type 0} (none : A) (size : ℕ) (ring : List A) (taken index : ℕ) → IsRingSize size → taken < 2 ^ 16 → 0 < ahead taken index
    → entries_from none size ring taken (ahead taken index)
    ≡ get_or ring (taken % size) none ∷ entries_from none size ring ((taken + 1) % 2 ^ 16) (ahead ((taken + 1) % 2 ^ 16) index)
entries_taken none size ring taken index sized small some =
    let less : ahead taken index ≡ suc (ahead ((taken + 1) % 2 ^ 16) index) = omega (arith, small, some) in
    let rest = entries_same none size ring (taken + 1) ((taken + 1) % 2 ^ 16) (ahead ((taken + 1) % 2 ^ 16) index) sized (sym (wraps (taken + 1) size sized)) in
    rw (less, rest) refl
