-- A number along lines, and its column and line.
use Rattle.std.proofs.Common.{◌≡◌, ◌<◌, ◌≤◌, ℕ, ◌+◌, ◌*◌, ◌/◌, ◌%◌, arith, ap, sym, ◌∙◌}
use Rattle.std.proofs.lemmas.Nat.{div-add-mod', div-mul-add, mod-mul-add}

pub joined : (n w x y : ℕ) → n % w ≡ x → n / w ≡ y → n ≡ y * w + x
joined n w x y across down = sym (div-add-mod' n w) ∙ ap (λ k. n / w * w + k) across ∙ ap (λ k. k * w + x) down

pub column : (n w x y : ℕ) → x < w → n ≡ y * w + x → n % w ≡ x
column n w x y low e = ap (λ k. k % w) e ∙ mod-mul-add y w x low

pub line : (n w x y : ℕ) → x < w → n ≡ y * w + x → n / w ≡ y
line n w x y low e = ap (λ k. k / w) e ∙ div-mul-add y w x low

-- the number of a pair, and the pixel on its left or, at 1, on its right
pub pair_to : (w n x y right : ℕ) → right ≤ 1 → 2 * (n % (w / 2)) + right ≡ x → n / (w / 2) ≡ y → (n ≡ y * (w / 2) + x / 2) × (x % 2 ≡ right)
pair_to w n x y right side across down = (joined n (w / 2) (x / 2) y (omega arith) down, omega arith)

pub pair_from : (w n x y right : ℕ) → w % 2 ≡ 0 → x < w → x % 2 ≡ right → n ≡ y * (w / 2) + x / 2 → (2 * (n % (w / 2)) + right ≡ x) × (n / (w / 2) ≡ y)
pair_from w n x y right even low side e =
    let within : x / 2 < w / 2 = omega arith in
    let place : n % (w / 2) ≡ x / 2 = column n (w / 2) (x / 2) y within e in
    (omega arith, line n (w / 2) (x / 2) y within e)

-- the number of a square, and its top left pixel
pub square_to : (w n x y : ℕ) → 2 * (n % (w / 2)) ≡ x → 2 * (n / (w / 2)) ≡ y → (n ≡ y / 2 * (w / 2) + x / 2) × ((x % 2 ≡ 0) × (y % 2 ≡ 0))
square_to w n x y across down = (joined n (w / 2) (x / 2) (y / 2) (omega arith) (omega arith), (omega arith, omega arith))

pub square_from : (w n x y : ℕ) → w % 2 ≡ 0 → x < w → x % 2 ≡ 0 → y % 2 ≡ 0 → n ≡ y / 2 * (w / 2) + x / 2 → (2 * (n % (w / 2)) ≡ x) × (2 * (n / (w / 2)) ≡ y)
square_from w n x y even low left top e =
    let within : x / 2 < w / 2 = omega arith in
    let place : n % (w / 2) ≡ x / 2 = column n (w / 2) (x / 2) (y / 2) within e in
    let row : n / (w / 2) ≡ y / 2 = line n (w / 2) (x / 2) (y / 2) within e in
    (omega arith, omega arith)
