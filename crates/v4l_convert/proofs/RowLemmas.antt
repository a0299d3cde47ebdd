-- A picture's row, read as the first row of a picture of two rows.
use Rattle.std.proofs.Common.{◌≡◌, ◌<◌, ◌≤◌, ℕ, ◌+◌, ◌*◌, ◌/◌, ◌%◌, List, slice_index, suc, arith, ap, sym, refl, ◌∙◌}
use Rattle.std.proofs.Math.Nat.{mul_comm}
use Rattle.std.proofs.lemmas.Nat.{mul-le}
use Rattle.v4l_format.proofs.CarriedLemmas.{pair_area, square_area}
use Rattle.v4l_format.specs.declared.sample_order.SampleOrder.{SampleOrder}
use Rattle.v4l_format.specs.declared.sample_order.SampleOrder.TheVariants.{Grey, Yuyv, Uyvy, Nv12, Yu12, Rgb3}
use Rattle.v4l_format.specs.SampleOrder.{pixel_in, triple}

-- a row lies in the picture, and a row of pairs, and a row of squares
pub row_within : (w h y : ℕ) → y < h → y * w + w ≤ w * h
row_within w h y low =
    let next : suc y ≤ h = omega arith in
    let same : w ≤ w = omega arith in
    omega (arith, mul-le (suc y) w h w next same, mul_comm w h)

pub chroma_row_within : (w h y : ℕ) → h % 2 ≡ 0 → y < h → 2 * (y / 2 * w + w) ≤ w * h
chroma_row_within w h y even low =
    let half : y / 2 < h / 2 = omega arith in
    omega (arith, row_within w (h / 2) (y / 2) half, pair_area h w even, mul_comm w h)

pub square_row_within : (w h y : ℕ) → w % 2 ≡ 0 → h % 2 ≡ 0 → y < h → 4 * (y / 2 * (w / 2) + w / 2) ≤ w * h
square_row_within w h y even_w even_h low =
    let half : y / 2 < h / 2 = omega arith in
    omega (arith, row_within (w / 2) (h / 2) (y / 2) half, square_area w h even_w even_h, mul_comm (w / 2) (h / 2))

-- count bytes of a line, from `to` on, are those of a picture from `at` on
abbrev pub IsRead : List ℕ → List ℕ → ℕ → ℕ → ℕ → Type 0
IsRead line bytes to at count = (i : ℕ) → i < count → slice_index line (to + i) ≡ slice_index bytes (at + i)

read_at : (line bytes : List ℕ) (to at count : ℕ) → IsRead line bytes to at count → (i a b : ℕ) → i < count → a ≡ to + i → b ≡ at + i → slice_index line a ≡ slice_index bytes b
read_at line bytes to at count read i a b low p q = ap (slice_index line) p ∙ read i low ∙ ap (slice_index bytes) (sym q)

triple_same : (a b c a' b' c' : ℕ) → a ≡ a' → b ≡ b' → c ≡ c' → triple a b c ≡ triple a' b' c'
triple_same a b c a' b' c' p q r = cc

-- the row y of a picture is the first one in a line
abbrev pub IsRow : SampleOrder → ℕ → ℕ → ℕ → List ℕ → List ℕ → Type 0
IsRow order w h y line bytes = (x : ℕ) → x < w → pixel_in order w 2 line x 0 ≡ pixel_in order w h bytes x y

pub grey_row : (w h y : ℕ) (line bytes : List ℕ) → IsRead line bytes 0 (y * w) w → IsRow Grey w h y line bytes
grey_row w h y line bytes read x low =
    triple_same _ _ _ _ _ _ (read_at line bytes 0 (y * w) w read x _ _ low (omega arith) (omega arith)) refl refl

half_row : (w y : ℕ) → w % 2 ≡ 0 → 2 * (y * (w / 2)) ≡ y * w
half_row w y even = omega (arith, pair_area w y even, mul_comm w y)

pub yuyv_row : (w h y : ℕ) (line bytes : List ℕ) → w % 2 ≡ 0 → IsRead line bytes 0 (2 * (y * w)) (2 * w) → IsRow Yuyv w h y line bytes
yuyv_row w h y line bytes even read x low =
    let half = half_row w y even in
    let at = read_at line bytes 0 (2 * (y * w)) (2 * w) read in
    triple_same _ _ _ _ _ _
    (at (4 * (x / 2) + 2 * (x % 2)) _ _ (omega arith) (omega arith) (omega arith))
    (at (4 * (x / 2) + 1) _ _ (omega arith) (omega arith) (omega arith))
    (at (4 * (x / 2) + 3) _ _ (omega arith) (omega arith) (omega arith))

pub uyvy_row : (w h y : ℕ) (line bytes : List ℕ) → w % 2 ≡ 0 → IsRead line bytes 0 (2 * (y * w)) (2 * w) → IsRow Uyvy w h y line bytes
uyvy_row w h y line bytes even read x low =
    let half = half_row w y even in
    let at = read_at line bytes 0 (2 * (y * w)) (2 * w) read in
    triple_same _ _ _ _ _ _
    (at (4 * (x / 2) + 2 * (x % 2) + 1) _ _ (omega arith) (omega arith) (omega arith))
    (at (4 * (x / 2)) _ _ (omega arith) (omega arith) (omega arith))
    (at (4 * (x / 2) + 2) _ _ (omega arith) (omega arith) (omega arith))

pub nv12_row : (w h y : ℕ) (line bytes : List ℕ) → w % 2 ≡ 0 → IsRead line bytes 0 (y * w) w → IsRead line bytes (2 * w) (w * h + y / 2 * w) w → IsRow Nv12 w h y line bytes
nv12_row w h y line bytes even luma chroma x low =
    let half = half_row w (y / 2) even in
    let at = read_at line bytes (2 * w) (w * h + y / 2 * w) w chroma in
    triple_same _ _ _ _ _ _
    (read_at line bytes 0 (y * w) w luma x _ _ low (omega arith) (omega arith))
    (at (2 * (x / 2)) _ _ (omega arith) (omega (arith, mul_comm w 2)) (omega arith))
    (at (2 * (x / 2) + 1) _ _ (omega arith) (omega (arith, mul_comm w 2)) (omega arith))

pub yu12_row : (w h y : ℕ) (line bytes : List ℕ) → w % 2 ≡ 0 → IsRead line bytes 0 (y * w) w → IsRead line bytes (2 * w) (w * h + y / 2 * (w / 2)) (w / 2) → IsRead line bytes (2 * w + w / 2) (w * h + w * h / 4 + y / 2 * (w / 2)) (w / 2) → IsRow Yu12 w h y line bytes
yu12_row w h y line bytes even luma blue red x low =
    triple_same _ _ _ _ _ _
    (read_at line bytes 0 (y * w) w luma x _ _ low (omega arith) (omega arith))
    (read_at line bytes (2 * w) (w * h + y / 2 * (w / 2)) (w / 2) blue (x / 2) _ _ (omega arith) (omega (arith, mul_comm w 2)) (omega arith))
    (read_at line bytes (2 * w + w / 2) (w * h + w * h / 4 + y / 2 * (w / 2)) (w / 2) red (x / 2) _ _ (omega arith) (omega (arith, mul_comm w 2)) (omega arith))

pub rgb3_row : (w h y : ℕ) (line bytes : List ℕ) → IsRead line bytes 0 (3 * (y * w)) (3 * w) → IsRow Rgb3 w h y line bytes
rgb3_row w h y line bytes read x low =
    let at = read_at line bytes 0 (3 * (y * w)) (3 * w) read in
    triple_same _ _ _ _ _ _
    (at (3 * x) _ _ (omega arith) (omega arith) (omega arith))
    (at (3 * x + 1) _ _ (omega arith) (omega arith) (omega arith))
    (at (3 * x + 2) _ _ (omega arith) (omega arith) (omega arith))

-- what is read behind it leaves it
pub read_kept : (line next bytes : List ℕ) (to at count n : ℕ) → IsRead line bytes to at count → ((i : ℕ) → i < n → slice_index next i ≡ slice_index line i) → to + count ≤ n → IsRead next bytes to at count
read_kept line next bytes to at count n read before within i low = before (to + i) (omega arith) ∙ read i low
