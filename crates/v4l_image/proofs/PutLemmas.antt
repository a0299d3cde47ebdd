-- What one byte is once samples are set.
use Rattle.std.proofs.Common.{◌≡◌, ◌≢◌, ◌<◌, ◌≤◌, ℕ, ◌==◌, ◌&&◌, Bool, true, nat_lt, if◌then◌else◌, List, length, slice_index, set, refl, arith}
use Rattle.std.proofs.lemmas.Bool.Decides.{nat_tests}
use Rattle.std.proofs.lemmas.Grind.{common_steps}
use Rattle.v4l_format.specs.declared.triple.Triple.{Triple}

-- a byte that carries the pixel at (x, y) is the one at a place, where the pixel has one there
pub test : (i size across x down y place : ℕ) (has : Bool) → place < size → (across ≡ x → down ≡ y → (has ≡ true) × (i ≡ place)) → (has ≡ true → i ≡ place → (across ≡ x) × (down ≡ y)) → (nat_lt i size && (across == x) && (down == y)) ≡ (has && (i == place))
test i size across x down y place has low to from = grind (arith, nat_tests)

-- the bytes once three samples are set, the last two only where the pixel has them
abbrev pub put_three : List ℕ → ℕ → ℕ → ℕ → Bool → Triple → List ℕ
put_three bytes first second third has t =
    if has then set (set (set bytes first t.0) second t.1) third t.2 else set bytes first t.0

pub at_one : (bytes : List ℕ) (first : ℕ) (v i : ℕ) → first < length bytes → slice_index (set bytes first v) i ≡ (if i == first then v else slice_index bytes i)
at_one bytes first v i low = grind (arith, common_steps, nat_tests)

pub at_first : (bytes : List ℕ) (first second third : ℕ) (has : Bool) (t : Triple) (i : ℕ) → first < length bytes → i ≢ second → i ≢ third → slice_index (put_three bytes first second third has t) i ≡ (if i == first then t.0 else slice_index bytes i)
at_first bytes first second third has t i low second_off third_off = grind (arith, common_steps, nat_tests)

pub at_second : (bytes : List ℕ) (first second third : ℕ) (has : Bool) (t : Triple) (i : ℕ) → second < length bytes → i ≢ first → i ≢ third → slice_index (put_three bytes first second third has t) i ≡ (if has && (i == second) then t.1 else slice_index bytes i)
at_second bytes first second third has t i low first_off third_off = grind (arith, common_steps, nat_tests)

pub at_third : (bytes : List ℕ) (first second third : ℕ) (has : Bool) (t : Triple) (i : ℕ) → third < length bytes → i ≢ first → i ≢ second → slice_index (put_three bytes first second third has t) i ≡ (if has && (i == third) then t.2 else slice_index bytes i)
at_third bytes first second third has t i low first_off second_off = grind (arith, common_steps, nat_tests)

abbrev put_byte : ℕ → ℕ → ℕ → ℕ → ℕ → ℕ → ℕ → ℕ → ℕ
put_byte i size across x down y v old =
    if nat_lt i size && (across == x) && (down == y) then v else old

pub one_put : (bytes : List ℕ) (first v i size across x down y : ℕ) → first < size → size ≤ length bytes → (across ≡ x → down ≡ y → i ≡ first) → (i ≡ first → (across ≡ x) × (down ≡ y)) → slice_index (set bytes first v) i ≡ put_byte i size across x down y v (slice_index bytes i)
one_put bytes first v i size across x down y low whole to from =
    rw (test i size across x down y first true low (λ a d. (refl, to a d)) (λ _ e. from e)) (at_one bytes first v i (omega arith))

pub first_put : (bytes : List ℕ) (first second third : ℕ) (has : Bool) (t : Triple) (i size across x down y : ℕ) → first < size → size ≤ length bytes → i ≢ second → i ≢ third → (across ≡ x → down ≡ y → i ≡ first) → (i ≡ first → (across ≡ x) × (down ≡ y)) → slice_index (put_three bytes first second third has t) i ≡ put_byte i size across x down y t.0 (slice_index bytes i)
first_put bytes first second third has t i size across x down y low whole second_off third_off to from =
    rw (test i size across x down y first true low (λ a d. (refl, to a d)) (λ _ e. from e)) (at_first bytes first second third has t i (omega arith) second_off third_off)

pub second_put : (bytes : List ℕ) (first second third : ℕ) (has : Bool) (t : Triple) (i size across x down y : ℕ) → second < size → size ≤ length bytes → i ≢ first → i ≢ third → (across ≡ x → down ≡ y → (has ≡ true) × (i ≡ second)) → (has ≡ true → i ≡ second → (across ≡ x) × (down ≡ y)) → slice_index (put_three bytes first second third has t) i ≡ put_byte i size across x down y t.1 (slice_index bytes i)
second_put bytes first second third has t i size across x down y low whole first_off third_off to from =
    rw (test i size across x down y second has low to from) (at_second bytes first second third has t i (omega arith) first_off third_off)

pub third_put : (bytes : List ℕ) (first second third : ℕ) (has : Bool) (t : Triple) (i size across x down y : ℕ) → third < size → size ≤ length bytes → i ≢ first → i ≢ second → (across ≡ x → down ≡ y → (has ≡ true) × (i ≡ third)) → (has ≡ true → i ≡ third → (across ≡ x) × (down ≡ y)) → slice_index (put_three bytes first second third has t) i ≡ put_byte i size across x down y t.2 (slice_index bytes i)
third_put bytes first second third has t i size across x down y low whole first_off second_off to from =
    rw (test i size across x down y third has low to from) (at_third bytes first second third has t i (omega arith) first_off second_off)
