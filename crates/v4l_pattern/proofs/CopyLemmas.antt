-- Lines that are copied one behind the other.
use Rattle.std.proofs.Common.{◌≡◌, ◌<◌, ◌≤◌, ℕ, ◌+◌, ◌-◌, ◌*◌, ◌%◌, List, ◌++◌, length, get_or, take, drop, inl, inr, arith, ap, sym, refl, ◌∙◌, length-append, length-drop}
use Rattle.std.proofs.lemmas.Bool.{cases_lt}
use Rattle.std.proofs.lemmas.List.{length-take-le, get_or_append_left, get_or-append_right, get_or-take, get_or-drop}
use Rattle.std.proofs.lemmas.Nat.{div-mul-add, mod-mul-add, mul-le}
use Rattle.std.proofs.Math.Nat.{mul_comm}
use Rattle.v4l_format.specs.declared.pattern.Pattern.{Pattern}
use Rattle.v4l_pattern.proofs.ShiftLemmas.{in_strip, fits_strip, least_ahead}
use Rattle.v4l_pattern.specs.declared.line_kind.LineKind.{LineKind}
use Rattle.v4l_pattern.specs.Lines.{IsPlane, IsStrip, line_size, line_byte, plane_byte, bytes_ahead, pixels_ahead, most_ahead, row_of}

-- what a copy of `line` to place a leaves of the bytes
abbrev copied : List ℕ → ℕ → List ℕ → List ℕ
copied old a line = take a old ++ (line ++ drop (a + length line) old)

length-copied : (old line : List ℕ) (a n : ℕ) → length line ≡ n → a + n ≤ length old → length (copied old a line) ≡ length old
length-copied old line a n size room =
    length-append (take a old) (line ++ drop (a + length line) old)
    ∙ (rw (length-append line (drop (a + length line) old), length-drop (a + length line) old, length-take-le a old (omega arith), size) (omega arith))

before_copied : (old line : List ℕ) (a i : ℕ) → a ≤ length old → i < a → get_or (copied old a line) i 0 ≡ get_or old i 0
before_copied old line a i room low =
    let size = length-take-le a old room in
    get_or_append_left (take a old) (line ++ drop (a + length line) old) 0 i (omega arith) ∙ get_or-take a old i 0 low

in_copied : (old line : List ℕ) (a b n : ℕ) → length line ≡ n → a ≤ length old → b < n → get_or (copied old a line) (a + b) 0 ≡ get_or line b 0
in_copied old line a b n size room low =
    get_or-append_right (take a old) (line ++ drop (a + length line) old) a (a + b) 0 (length-take-le a old room) (omega arith)
    ∙ ap (λ k. get_or (line ++ drop (a + length line) old) k 0) (omega arith)
    ∙ get_or_append_left line (drop (a + length line) old) 0 b (omega arith)

behind_copied : (old line : List ℕ) (a i n : ℕ) → length line ≡ n → a ≤ length old → a + n ≤ i → get_or (copied old a line) i 0 ≡ get_or old i 0
behind_copied old line a i n size room low =
    get_or-append_right (take a old) (line ++ drop (a + length line) old) a i 0 (length-take-le a old room) (omega arith)
    ∙ get_or-append_right line (drop (a + length line) old) n (i - a) 0 size (omega arith)
    ∙ get_or-drop (a + length line) old (i - a - n) 0
    ∙ ap (λ k. get_or old k 0) (omega arith)

-- no line yet
pub no_line : (kind : LineKind) (p : Pattern) (seq w at : ℕ) (old : List ℕ) → IsPlane kind p seq w 0 at old old
no_line kind p seq w at old = record {
  size = refl;
  made = λ i low. omega arith;
  below = λ i low. refl;
  behind = λ i low. refl;
}

-- line y of a plane, out of its strip
line_made : (kind : LineKind) (p : Pattern) (seq w y b : ℕ) (strip : List ℕ) → IsStrip kind p seq w strip → b < line_size kind w → get_or (take (line_size kind w) (drop (bytes_ahead kind (pixels_ahead p y)) strip)) b 0 ≡ plane_byte kind p seq w (y * line_size kind w + b)
line_made kind p seq w y b strip h low =
    let n : ℕ = line_size kind w in
    let start : ℕ = bytes_ahead kind (pixels_ahead p y) in
    let fits : start + n ≤ line_size kind (w + most_ahead p) = fits_strip kind w (pixels_ahead p y) (most_ahead p) (least_ahead p y) in
    get_or-take n (drop start strip) b 0 low
    ∙ get_or-drop start strip b 0
    ∙ h.made (start + b) (omega arith)
    ∙ in_strip kind p seq w y b
    ∙ sym (ap (λ k. line_byte kind (row_of p seq w k) ((y * n + b) % n)) (div-mul-add y n b low) ∙ ap (line_byte kind (row_of p seq w y)) (mod-mul-add y n b low))

-- one line more
pub next_line : (kind : LineKind) (p : Pattern) (seq w y lines at : ℕ) (old mid new strip : List ℕ) (line : List ℕ) → IsStrip kind p seq w strip → y < lines → at + lines * line_size kind w ≤ length old → line ≡ take (line_size kind w) (drop (bytes_ahead kind (pixels_ahead p y)) strip) → new ≡ copied mid (at + y * line_size kind w) line → IsPlane kind p seq w y at old mid → IsPlane kind p seq w (y + 1) at old new
next_line kind p seq w y lines at old mid new strip line h low room taken done plane =
    let n : ℕ = line_size kind w in
    let a : ℕ = at + y * n in
    let start : ℕ = bytes_ahead kind (pixels_ahead p y) in
    let fits : start + n ≤ line_size kind (w + most_ahead p) = fits_strip kind w (pixels_ahead p y) (most_ahead p) (least_ahead p y) in
    let more : (y + 1) * n ≡ y * n + n = mul_comm (y + 1) n ∙ (omega (arith, mul_comm n (y + 1), mul_comm n y)) in
    let last : (y + 1) * n ≤ lines * n = mul-le (y + 1) n lines n (omega arith) (omega arith) in
    let wide : length line ≡ n = ap length taken ∙ length-take-le n (drop start strip) (rw (length-drop start strip) (omega (arith, h.room))) in
    let within : a + n ≤ length mid = omega (arith, plane.size) in
    record {
      size = ap length done ∙ length-copied mid line a n wide within ∙ plane.size;
      made = λ i under. elim (cases_lt i (y * n)) as (λ o. get_or new (at + i) 0 ≡ plane_byte kind p seq w i) [
        | inl earlier ↦ ap (λ b. get_or b (at + i) 0) done ∙ before_copied mid line a (at + i) (omega arith) (omega arith) ∙ plane.made i earlier
        | inr here ↦
            let b : ℕ = i - y * n in
            let place : at + i ≡ a + b = omega arith in
            let number : y * n + b ≡ i = omega arith in
            ap (λ b. get_or b (at + i) 0) done ∙ ap (λ k. get_or (copied mid a line) k 0) place ∙ in_copied mid line a b n wide (omega arith) (omega arith)
            ∙ ap (λ l. get_or l b 0) taken ∙ line_made kind p seq w y b strip h (omega arith) ∙ ap (plane_byte kind p seq w) number
      ];
      below = λ i under. ap (λ b. get_or b i 0) done ∙ before_copied mid line a i (omega arith) (omega arith) ∙ plane.below i under;
      behind = λ i over. ap (λ b. get_or b i 0) done ∙ behind_copied mid line a i n wide (omega arith) (omega arith) ∙ plane.behind i (omega arith);
    }

-- where the line is copied to
pub line_within : (kind : LineKind) (p : Pattern) (seq w y lines at : ℕ) (old mid : List ℕ) → y < lines → at + lines * line_size kind w ≤ length old → IsPlane kind p seq w y at old mid → at + y * line_size kind w + line_size kind w ≤ length mid
line_within kind p seq w y lines at old mid low room plane =
    let n : ℕ = line_size kind w in
    let more : (y + 1) * n ≡ y * n + n = mul_comm (y + 1) n ∙ (omega (arith, mul_comm n (y + 1), mul_comm n y)) in
    let last : (y + 1) * n ≤ lines * n = mul-le (y + 1) n lines n (omega arith) (omega arith) in
    omega (arith, plane.size)

-- the same of a line whose size and place were looked up
pub next_copied : (kind : LineKind) (p : Pattern) (seq w y lines at : ℕ) (old mid new strip : List ℕ) (n start ahead : ℕ) → IsStrip kind p seq w strip → y < lines → at + lines * line_size kind w ≤ length old → n ≡ line_size kind w → start ≡ bytes_ahead kind ahead → ahead ≡ pixels_ahead p y → new ≡ copied mid (at + y * n) (take (start + n - start) (drop start strip)) → IsPlane kind p seq w y at old mid → IsPlane kind p seq w (y + 1) at old new
next_copied kind p seq w y lines at old mid new strip n start ahead h low room size place further done plane =
    let line : List ℕ = take (start + n - start) (drop start strip) in
    let count : start + n - start ≡ line_size kind w = omega arith in
    next_line kind p seq w y lines at old mid new strip line h low room
    (ap (λ k. take k (drop start strip)) count ∙ ap (λ k. take (line_size kind w) (drop k strip)) (place ∙ ap (bytes_ahead kind) further))
    (done ∙ ap (λ k. copied mid (at + y * k) line) size)
    plane
