-- Names are found by their keys.
use Rattle.std.proofs.Common.{◌≡◌, ℕ, zero, suc, ◌+◌, ◌-◌, ◌<◌, Bool, true, false, cond, Option, Some, None, Ordering, Less, Equal, Greater, if◌then◌else◌, List, [], ◌∷◌, ◌++◌, length, take, replicate, get_or, length-append, refl, ap, sym, ◌∙◌, subst, arith}
use Rattle.std.specs.BTreeMap.{is_at}
use Rattle.std.specs.Int.{from_le_bytes, to_le_bytes, w64}
use Rattle.std.specs.Map.{lookup}
use Rattle.std.specs.Option.{IfSome, is_some}
use Rattle.std.specs.Ordering.{nat_cmp, is_eq, ordering_then}
use Rattle.std.specs.Str.{bytes_eq}
use Rattle.std.proofs.lemmas.Cmp.{tied_itself, nat_cmp_total}
use Rattle.std.proofs.lemmas.List.{length-replicate}
use Rattle.std.proofs.lemmas.Nat.{le_bytes_8}
use Rattle.std.proofs.lemmas.Map.Lookups.{CmpEqualImpliesEq, exact_pairs, exact_unsigned}
use Rattle.std.proofs.lemmas.Slice.Eq.{bytes_eq-Decides}
use Rattle.vm_script.specs.Names.{place_from, IsShort, key_of, key_cmp, FindsPlaces}

-- ---- the place of a name is that of the name

abbrev IsFound : List ℕ → ℕ → List (List ℕ) → ℕ → Type 0
IsFound word at names h = (k : ℕ) × (h ≡ at + k) × (k < length names) × (get_or names k [] ≡ word)

found_more : (word : List ℕ) (at : ℕ) (name : List ℕ) (names : List (List ℕ)) (h : ℕ) → IsFound word (at + 1) names h → IsFound word at (name ∷ names) h
found_more word at name names h f = (suc f.0, (let e : h ≡ at + 1 + f.0 = f.1 in omega arith), (let l : f.0 < length names = f.2 in omega arith), f.3)

found_cons : (word : List ℕ) (at : ℕ) (name : List ℕ) (names : List (List ℕ)) (h : ℕ) → (test : Bool) → bytes_eq name word ≡ test → (place_from (at + 1) word names ≡ Some h → IsFound word (at + 1) names h) → (if test then Some at else place_from (at + 1) word names) ≡ Some h → IsFound word at (name ∷ names) h
found_cons word at name names h true e more g = (0, (let s : at ≡ h = cc in omega arith), omega arith, (bytes_eq-Decides name word).0 e)
found_cons word at name names h false e more g = found_more word at name names h (more g)

found_from : (word : List ℕ) (at : ℕ) (names : List (List ℕ)) (h : ℕ) → place_from at word names ≡ Some h → IsFound word at names h
found_from word at [] h g = absurd (cc)
found_from word at (name ∷ names) h g = found_cons word at name names h (bytes_eq name word) refl (found_from word (at + 1) names h) g

pub place_within : (word : List ℕ) (names : List (List ℕ)) (h : ℕ) → place_from 0 word names ≡ Some h → h < length names
place_within word names h g = let f : IsFound word 0 names h = found_from word 0 names h g in let e : h ≡ 0 + f.0 = f.1 in let l : f.0 < length names = f.2 in omega arith

pub place_name : (word : List ℕ) (names : List (List ℕ)) (h : ℕ) → place_from 0 word names ≡ Some h → get_or names h [] ≡ word
place_name word names h g = let f : IsFound word 0 names h = found_from word 0 names h g in let e : h ≡ f.0 = (let s : h ≡ 0 + f.0 = f.1 in omega arith) in ap (λ i. get_or names i []) e ∙ f.3

-- ---- different names have different keys

zeros_small : (k i : ℕ) → get_or (replicate k 0) i 0 < 256
zeros_small zero i = omega arith
zeros_small (suc k) zero = omega arith
zeros_small (suc k) (suc i) = zeros_small k i

padded_small : (a : List ℕ) (k : ℕ) → ((i : ℕ) → get_or a i 0 < 256) → (i : ℕ) → get_or (a ++ replicate k 0) i 0 < 256
padded_small [] k h i = zeros_small k i
padded_small (b ∷ bs) k h zero = h zero
padded_small (b ∷ bs) k h (suc i) = padded_small bs k (λ j. h (suc j)) i

abbrev padded : List ℕ → List ℕ
padded a = a ++ replicate (8 - length a) 0

read_back : (a : List ℕ) → IsShort a → to_le_bytes w64 (from_le_bytes w64 (padded a)) ≡ padded a
read_back a short =
    let eight : length (padded a) ≡ 8 = simp (length-append, length-replicate) (omega (arith, short.within)) in
    le_bytes_8 (padded a) (from_le_bytes w64 (padded a)) eight (padded_small a (8 - length a) short.bytes) refl

taken_back : (a zeros : List ℕ) → take (length a) (a ++ zeros) ≡ a
taken_back [] zeros = refl
taken_back (b ∷ bs) zeros = ap (λ r. b ∷ r) (taken_back bs zeros)

key_tells : (a b : List ℕ) → IsShort a → IsShort b → key_of a ≡ key_of b → a ≡ b
key_tells a b short other e =
    let lengths : length a ≡ length b = ap (λ k. k.1) e in
    let numbers : from_le_bytes w64 (padded a) ≡ from_le_bytes w64 (padded b) = ap (λ k. k.0) e in
    let same : padded a ≡ padded b = sym (read_back a short) ∙ ap (λ n. to_le_bytes w64 n) numbers ∙ read_back b other in
    sym (taken_back a _) ∙ ap (λ k. take k (padded a)) lengths ∙ ap (λ k. take (length b) k) same ∙ taken_back b _

exact_keys : CmpEqualImpliesEq key_cmp
exact_keys = exact_pairs nat_cmp nat_cmp exact_unsigned exact_unsigned

key_itself : (k : ℕ × ℕ) → key_cmp k k ≡ Equal
key_itself k = ap (λ o. ordering_then o (nat_cmp k.1 k.1)) (tied_itself nat_cmp_total k.0) ∙ tied_itself nat_cmp_total k.1

test_by : (o : Ordering) (same : Bool) → (o ≡ Equal → same ≡ true) → (same ≡ true → o ≡ Equal) → is_eq o ≡ same
test_by Less true f g = ap is_eq (g refl)
test_by Less false f g = refl
test_by Equal same f g = sym (f refl)
test_by Greater true f g = ap is_eq (g refl)
test_by Greater false f g = refl

-- a key is found by that of the same name alone
key_test : (name word : List ℕ) → IsShort name → IsShort word → is_at (key_cmp (key_of name)) (key_of word) ≡ bytes_eq name word
key_test name word short other =
    test_by (key_cmp (key_of name) (key_of word)) (bytes_eq name word)
    (λ e. (bytes_eq-Decides name word).1 (key_tells name word short other (exact_keys (key_of name) (key_of word) e)))
    (λ e. subst (λ w. key_cmp (key_of name) (key_of w) ≡ Equal) ((bytes_eq-Decides name word).0 e) (key_itself (key_of name)))

-- ---- a name more

-- the first place of a word with a name more behind the names
abbrev placed_behind : Bool → ℕ → Option ℕ → Option ℕ
placed_behind same at None = if same then Some at else None
placed_behind same at (Some place) = Some place

behind_cons : (test same : Bool) (at : ℕ) (n : ℕ) (first last : Option ℕ) → last ≡ placed_behind same (at + 1 + n) first → (if test then Some at else last) ≡ placed_behind same (at + suc n) (if test then Some at else first)
behind_cons true same at n first last e = refl
behind_cons false same at n first last e = e ∙ ap (λ k. placed_behind same k first) (omega arith)

behind_nil : (same : Bool) (at : ℕ) → (if same then Some at else None) ≡ placed_behind same (at + 0) None
behind_nil same at = ap (λ k. if same then Some k else None) (omega arith)

place_behind : (word : List ℕ) (at : ℕ) (names : List (List ℕ)) (name : List ℕ) → place_from at word (names ++ name ∷ []) ≡ placed_behind (bytes_eq name word) (at + length names) (place_from at word names)
place_behind word at [] name = behind_nil (bytes_eq name word) at
place_behind word at (n ∷ ns) name = behind_cons (bytes_eq n word) (bytes_eq name word) at (length ns) _ _ (place_behind word (at + 1) ns name)

known_stays : (names : List (List ℕ)) (name word : List ℕ) (place : ℕ) → place_from 0 name names ≡ Some place → (same : Bool) (first : Option ℕ) → bytes_eq name word ≡ same → place_from 0 word names ≡ first → placed_behind same (0 + length names) first ≡ first
known_stays names name word place known same (Some p) e f = refl
known_stays names name word place known false None e f = refl
known_stays names name word place known true None e f =
    let found : Some place ≡ None = sym known ∙ ap (λ w. place_from 0 w names) ((bytes_eq-Decides name word).0 e) ∙ f in
    absurd (cc)

finds_known : (names : List (List ℕ)) (places : List ((ℕ × ℕ) × ℕ)) (name : List ℕ) (place : ℕ) → place_from 0 name names ≡ Some place → FindsPlaces names places → FindsPlaces (names ++ name ∷ []) places
finds_known names places name place known finds =
    λ word short. finds word short ∙ sym (place_behind word 0 names name ∙ known_stays names name word place known (bytes_eq name word) (place_from 0 word names) refl refl)

-- a name that is among the names changes no place
pub finds_again : (names : List (List ℕ)) (places : List ((ℕ × ℕ) × ℕ)) (name : List ℕ) (place : Option ℕ) → place ≡ place_from 0 name names → is_some place ≡ true → FindsPlaces names places → FindsPlaces (names ++ name ∷ []) places
finds_again names places name None e known finds = absurd (cc)
finds_again names places name (Some p) e known finds = finds_known names places name p (sym e) finds

new_stands : (names : List (List ℕ)) (name word : List ℕ) → place_from 0 name names ≡ None → (same : Bool) (first : Option ℕ) → bytes_eq name word ≡ same → place_from 0 word names ≡ first → cond same (Some (length names)) first ≡ placed_behind same (0 + length names) first
new_stands names name word new false None e f = refl
new_stands names name word new false (Some p) e f = refl
new_stands names name word new true None e f = ap Some (omega arith)
new_stands names name word new true (Some p) e f =
    let missed : None ≡ Some p = sym new ∙ ap (λ w. place_from 0 w names) ((bytes_eq-Decides name word).0 e) ∙ f in
    absurd (cc)

-- the table has at the key this place, and is the same at any other
abbrev Puts : ℕ × ℕ → ℕ → List ((ℕ × ℕ) × ℕ) → List ((ℕ × ℕ) × ℕ) → Type 0
Puts key place old new = (q : ℕ × ℕ) → lookup (is_at (key_cmp q)) new ≡ cond (is_at (key_cmp key) q) (Some place) (lookup (is_at (key_cmp q)) old)

finds_put : (names : List (List ℕ)) (old new : List ((ℕ × ℕ) × ℕ)) (name : List ℕ) → IsShort name → place_from 0 name names ≡ None → FindsPlaces names old → Puts (key_of name) (length names) old new → FindsPlaces (names ++ name ∷ []) new
finds_put names old new name short missing finds put =
    λ word other. put (key_of word) ∙ ap (λ test. cond test (Some (length names)) (lookup (is_at (key_cmp (key_of word))) old)) (key_test name word short other)
    ∙ ap (λ o. cond (bytes_eq name word) (Some (length names)) o) (finds word other)
    ∙ new_stands names name word missing (bytes_eq name word) (place_from 0 word names) refl refl
    ∙ sym (place_behind word 0 names name)

-- a new name has the place behind the others
pub finds_new : (names : List (List ℕ)) (old new : List ((ℕ × ℕ) × ℕ)) (name : List ℕ) (key : ℕ × ℕ) (at : ℕ) (place : Option ℕ) → IsShort name → place ≡ place_from 0 name names → is_some place ≡ false → FindsPlaces names old → key ≡ key_of name → at ≡ length names → Puts key at old new
    → FindsPlaces (names ++ name ∷ []) new
finds_new names old new name key at (Some p) short e missing finds k l put = absurd (cc)
finds_new names old new name key at None short e missing finds k l put =
    finds_put names old new name short (sym e) finds (subst (λ x. Puts x (length names) old new) k (subst (λ n. Puts key n old new) l put))

-- a place that is found is one of a name
pub place_is_within : (word : List ℕ) (names : List (List ℕ)) (place : Option ℕ) → place ≡ place_from 0 word names → IfSome place (λ p. p < length names)
place_is_within word names None e = tt
place_is_within word names (Some p) e = place_within word names p (sym e)
