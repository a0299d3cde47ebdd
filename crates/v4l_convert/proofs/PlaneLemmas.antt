-- A converted picture is its planes, one behind the other.
use Rattle.std.proofs.Common.{◌≡◌, ◌<◌, ℕ, zero, suc, ◌+◌, ◌*◌, ◌/◌, ◌%◌, ◌-◌, List, [], ◌∷◌, ◌++◌, map, arith, ap, sym, refl, ◌∙◌}
use Rattle.std.proofs.Math.Nat.{mul_comm}
use Rattle.std.proofs.lemmas.Nat.{div-mul-add, mod-mul-add, mul-add-lt}
use Rattle.std.proofs.lemmas.Bool.Decides.{nat_tests}
use Rattle.std.specs.List.{flat_map, range_with_len}
use Rattle.v4l_format.proofs.CarriedLemmas.{pair_area, square_area}
use Rattle.v4l_format.specs.declared.carried.Carried.{Carried}
use Rattle.v4l_format.specs.declared.component.Component.{Component}
use Rattle.v4l_format.specs.declared.component.Component.TheVariants.{Y, Cb, Cr, R, G, B}
use Rattle.v4l_format.specs.declared.sample_order.SampleOrder.{SampleOrder}
use Rattle.v4l_format.specs.declared.sample_order.SampleOrder.TheVariants.{Grey, Yuyv, Uyvy, Nv12, Yu12, Rgb3}
use Rattle.v4l_format.specs.declared.colours.Colours.{Colours}
use Rattle.v4l_format.specs.declared.colours.Colours.TheVariants.{Ycbcr, Rgb}
use Rattle.v4l_format.specs.SampleOrder.{carried_by, colours_of, of_pixel, of_pair, of_square, pixel_in}
use Rattle.v4l_format.specs.Triple.{component_of, turned}
use Rattle.v4l_convert.specs.declared.line_kind.LineKind.{LineKind}
use Rattle.v4l_convert.specs.declared.line_kind.LineKind.TheVariants.{Luma, LumaFirst, ChromaFirst, Chroma, BlueChroma, RedChroma, Primaries}
use Rattle.v4l_convert.specs.Lines.{converted_line, converted_lines, converted_pair, converted_plane, line_size, pair_size, rows_of}

abbrev carried : ℕ → ℕ → Component → Carried
carried x y c = record { x = x; y = y; component = c }

-- the pixel, the pair and the square in a row
pixel_there : (w y x n : ℕ) (c : Component) → x < w → n ≡ y * w + x → of_pixel w n c ≡ carried x y c
pixel_there w y x n c low is =
    let across : n % w ≡ x = ap (λ m. m % w) is ∙ mod-mul-add y w x low in
    let down : n / w ≡ y = ap (λ m. m / w) is ∙ div-mul-add y w x low in
    cc

pair_there : (w y k right n : ℕ) (c : Component) → k < w / 2 → n ≡ y * (w / 2) + k → of_pair w n right c ≡ carried (2 * k + right) y c
pair_there w y k right n c low is =
    let across : n % (w / 2) ≡ k = ap (λ m. m % (w / 2)) is ∙ mod-mul-add y (w / 2) k low in
    let down : n / (w / 2) ≡ y = ap (λ m. m / (w / 2)) is ∙ div-mul-add y (w / 2) k low in
    cc

pair_left : (w y k n : ℕ) (c : Component) → k < w / 2 → n ≡ y * (w / 2) + k → of_pair w n 0 c ≡ carried (2 * k) y c
pair_left w y k n c low is =
    let left : 2 * k + 0 ≡ 2 * k = omega arith in
    pair_there w y k 0 n c low is ∙ ap (λ x. carried x y c) left

square_there : (w m k n : ℕ) (c : Component) → k < w / 2 → n ≡ m * (w / 2) + k → of_square w n c ≡ carried (2 * k) (2 * m) c
square_there w m k n c low is =
    let across : n % (w / 2) ≡ k = ap (λ m. m % (w / 2)) is ∙ mod-mul-add m (w / 2) k low in
    let down : n / (w / 2) ≡ m = ap (λ m. m / (w / 2)) is ∙ div-mul-add m (w / 2) k low in
    cc

-- a run of f in two parts
split : (f : ℕ → ℕ) (at a b n c : ℕ) → n ≡ a + b → c ≡ at + a → map f (range_with_len at n) ≡ map f (range_with_len at a) ++ map f (range_with_len c b)
split f at zero b n c p q =
    let long : n ≡ b = omega arith in
    let there : at ≡ c = omega arith in
    ap (λ m. map f (range_with_len at m)) long ∙ ap (λ x. map f (range_with_len x b)) there
split f at (suc a) b n c p q =
    let long : n ≡ suc (a + b) = omega arith in
    ap (λ m. map f (range_with_len at m)) long ∙ ap (λ xs. f at ∷ xs) (split f (at + 1) a b (a + b) c refl (omega arith))

-- pieces of one size, each of which is a run of f
runs : (f : ℕ → ℕ) (g : ℕ → List ℕ) (size at a n : ℕ) → ((k : ℕ) → k < a + n → g k ≡ map f (range_with_len (at + size * k) size)) → flat_map g (range_with_len a n) ≡ map f (range_with_len (at + size * a) (size * n))
runs f g size at a zero each =
    let none : 0 ≡ size * 0 = omega arith in
    ap (λ m. map f (range_with_len (at + size * a) m)) none
runs f g size at a (suc n) each =
    ap (λ xs. xs ++ flat_map g (range_with_len (a + 1) n)) (each a (omega arith))
    ∙ ap (λ xs. map f (range_with_len (at + size * a) size) ++ xs) (runs f g size at (a + 1) n (λ k low. each k (omega arith)))
    ∙ sym (split f (at + size * a) size (size * n) (size * suc n) (at + size * (a + 1)) (omega arith) (omega arith))

all_runs : (f : ℕ → ℕ) (g : ℕ → List ℕ) (size at n : ℕ) → ((k : ℕ) → k < n → g k ≡ map f (range_with_len (at + size * k) size)) → flat_map g (range_with_len 0 n) ≡ map f (range_with_len at (size * n))
all_runs f g size at n each =
    let there : at + size * 0 ≡ at = omega arith in
    runs f g size at 0 n (λ k low. each k (omega arith)) ∙ ap (λ x. map f (range_with_len x (size * n))) there

-- lines whose pairs are runs of f
line_runs : (f : ℕ → ℕ) (s : SampleOrder) (kind : LineKind) (w h : ℕ) (bytes : List ℕ) (at y : ℕ) → ((k : ℕ) → k < w / 2 → converted_pair s kind w h bytes y k ≡ map f (range_with_len (at + pair_size kind * k) (pair_size kind))) → converted_line s kind w h bytes y ≡ map f (range_with_len at (line_size kind w))
unfolding converted_line
line_runs f s kind w h bytes at y each = all_runs f (converted_pair s kind w h bytes y) (pair_size kind) at (w / 2) each

plane_runs : (f : ℕ → ℕ) (s : SampleOrder) (kind : LineKind) (w h : ℕ) (bytes : List ℕ) (at n : ℕ) → ((m k : ℕ) → m < n → k < w / 2 → converted_pair s kind w h bytes (rows_of kind * m) k ≡ map f (range_with_len (at + line_size kind w * m + pair_size kind * k) (pair_size kind))) → converted_lines s kind w h bytes n ≡ map f (range_with_len at (line_size kind w * n))
unfolding converted_lines
plane_runs f s kind w h bytes at n each =
    all_runs f (λ m. converted_line s kind w h bytes (rows_of kind * m)) (line_size kind w) at n
    (λ m low. line_runs f s kind w h bytes (at + line_size kind w * m) (rows_of kind * m) (λ k near. each m k low near))

-- what a byte shows that carries this
abbrev shown : SampleOrder → Colours → ℕ → ℕ → List ℕ → Carried → ℕ
shown s to w h bytes c = component_of (turned (colours_of s) to (pixel_in s w h bytes c.x c.y)) c.component

-- byte i of the converted picture
abbrev pub byte_at : SampleOrder → SampleOrder → ℕ → ℕ → List ℕ → ℕ → ℕ
byte_at s t w h bytes i = shown s (colours_of t) w h bytes (carried_by t w h i)

-- what the bytes carry
grey_there : (w h y x i : ℕ) → x < w → i ≡ y * w + x → carried_by Grey w h i ≡ carried x y Y
grey_there w h y x i low is = pixel_there w y x i Y low is

in_luma : (w h y x i : ℕ) → x < w → y < h → i ≡ y * w + x → i < w * h
in_luma w h y x i low down is = omega (arith, mul-add-lt y w x h down low, mul_comm w h)

nv12_luma : (w h y x i : ℕ) → x < w → y < h → i ≡ y * w + x → carried_by Nv12 w h i ≡ carried x y Y
nv12_luma w h y x i low down is =
    let within = in_luma w h y x i low down is in
    let there = pixel_there w y x i Y low is in
    grind (arith, nat_tests)

yu12_luma : (w h y x i : ℕ) → x < w → y < h → i ≡ y * w + x → carried_by Yu12 w h i ≡ carried x y Y
yu12_luma w h y x i low down is =
    let within = in_luma w h y x i low down is in
    let there = pixel_there w y x i Y low is in
    grind (arith, nat_tests)

yuyv_there : (w h y k i : ℕ) → k < w / 2 → i ≡ 4 * (y * (w / 2) + k) → (carried_by Yuyv w h i ≡ carried (2 * k) y Y) × (carried_by Yuyv w h (i + 1) ≡ carried (2 * k) y Cb) × (carried_by Yuyv w h (i + 1 + 1) ≡ carried (2 * k + 1) y Y) × (carried_by Yuyv w h (i + 1 + 1 + 1) ≡ carried (2 * k) y Cr)
yuyv_there w h y k i low is =
    let a = pair_left w y k (i / 4) Y low (omega arith) in
    let b = pair_left w y k ((i + 1) / 4) Cb low (omega arith) in
    let c = pair_there w y k 1 ((i + 1 + 1) / 4) Y low (omega arith) in
    let d = pair_left w y k ((i + 1 + 1 + 1) / 4) Cr low (omega arith) in
    (grind (arith, nat_tests), grind (arith, nat_tests), grind (arith, nat_tests), grind (arith, nat_tests))

uyvy_there : (w h y k i : ℕ) → k < w / 2 → i ≡ 4 * (y * (w / 2) + k) → (carried_by Uyvy w h i ≡ carried (2 * k) y Cb) × (carried_by Uyvy w h (i + 1) ≡ carried (2 * k) y Y) × (carried_by Uyvy w h (i + 1 + 1) ≡ carried (2 * k) y Cr) × (carried_by Uyvy w h (i + 1 + 1 + 1) ≡ carried (2 * k + 1) y Y)
uyvy_there w h y k i low is =
    let a = pair_left w y k (i / 4) Cb low (omega arith) in
    let b = pair_left w y k ((i + 1) / 4) Y low (omega arith) in
    let c = pair_left w y k ((i + 1 + 1) / 4) Cr low (omega arith) in
    let d = pair_there w y k 1 ((i + 1 + 1 + 1) / 4) Y low (omega arith) in
    (grind (arith, nat_tests), grind (arith, nat_tests), grind (arith, nat_tests), grind (arith, nat_tests))

rgb3_there : (w h y x i : ℕ) → x < w → i ≡ 3 * (y * w + x) → (carried_by Rgb3 w h i ≡ carried x y R) × (carried_by Rgb3 w h (i + 1) ≡ carried x y G) × (carried_by Rgb3 w h (i + 1 + 1) ≡ carried x y B)
rgb3_there w h y x i low is =
    let a = pixel_there w y x (i / 3) R low (omega arith) in
    let b = pixel_there w y x ((i + 1) / 3) G low (omega arith) in
    let c = pixel_there w y x ((i + 1 + 1) / 3) B low (omega arith) in
    (grind (arith, nat_tests), grind (arith, nat_tests), grind (arith, nat_tests))

nv12_chroma : (w h m k i : ℕ) → k < w / 2 → i ≡ w * h + 2 * (m * (w / 2) + k) → (carried_by Nv12 w h i ≡ carried (2 * k) (2 * m) Cb) × (carried_by Nv12 w h (i + 1) ≡ carried (2 * k) (2 * m) Cr)
nv12_chroma w h m k i low is =
    let a = square_there w m k ((i - w * h) / 2) Cb low (omega arith) in
    let b = square_there w m k ((i + 1 - w * h) / 2) Cr low (omega arith) in
    (grind (arith, nat_tests), grind (arith, nat_tests))

yu12_blue : (w h m k i : ℕ) → w % 2 ≡ 0 → h % 2 ≡ 0 → k < w / 2 → m < h / 2 → i ≡ w * h + (m * (w / 2) + k) → carried_by Yu12 w h i ≡ carried (2 * k) (2 * m) Cb
yu12_blue w h m k i even_w even_h low down is =
    let a = square_there w m k (i - w * h) Cb low (omega arith) in
    let within : i - w * h < w * h / 4 = omega (arith, square_area w h even_w even_h, mul-add-lt m (w / 2) k (h / 2) down low) in
    grind (arith, nat_tests)

yu12_red : (w h m k i : ℕ) → k < w / 2 → i ≡ w * h + w * h / 4 + (m * (w / 2) + k) → carried_by Yu12 w h i ≡ carried (2 * k) (2 * m) Cr
yu12_red w h m k i low is =
    let a = square_there w m k (i - w * h - w * h / 4) Cr low (omega arith) in
    grind (arith, nat_tests)

two_same : (a b a' b' : ℕ) → a ≡ a' → b ≡ b' → a ∷ b ∷ [] ≡ a' ∷ b' ∷ []
two_same a b a' b' p q = cc

three_same : (a b c a' b' c' : ℕ) (xs : List ℕ) (ys : List ℕ) → a ≡ a' → b ≡ b' → c ≡ c' → xs ≡ ys → a ∷ b ∷ c ∷ xs ≡ a' ∷ b' ∷ c' ∷ ys
three_same a b c a' b' c' xs ys p q r e = cc

one_each : (h : ℕ) → h / 1 ≡ h
one_each h = omega arith

pub luma_area : (w h : ℕ) → w % 2 ≡ 0 → 2 * (w / 2) * (h / 1) ≡ w * h
luma_area w h even = ap (λ n. 2 * (w / 2) * n) (one_each h) ∙ omega (arith, pair_area w h even, mul_comm h (w / 2))

pub packed_area : (w h : ℕ) → w % 2 ≡ 0 → 4 * (w / 2) * (h / 1) ≡ 2 * (w * h)
packed_area w h even = ap (λ n. 4 * (w / 2) * n) (one_each h) ∙ omega (arith, pair_area w h even, mul_comm h (w / 2))

pub primaries_area : (w h : ℕ) → w % 2 ≡ 0 → 6 * (w / 2) * (h / 1) ≡ 3 * (w * h)
primaries_area w h even = ap (λ n. 6 * (w / 2) * n) (one_each h) ∙ omega (arith, pair_area w h even, mul_comm h (w / 2))

-- the planes, each as bytes of the picture
pub luma_plane : (f : ℕ → ℕ) (s : SampleOrder) (w h : ℕ) (bytes : List ℕ) → w % 2 ≡ 0 → ((y x i : ℕ) → x < w → y < h → i ≡ y * w + x → f i ≡ shown s Ycbcr w h bytes (carried x y Y)) → converted_plane s w h bytes Luma ≡ map f (range_with_len 0 (w * h))
luma_plane f s w h bytes even each =
    let all : 2 * (w / 2) * (h / 1) ≡ w * h = ap (λ n. 2 * (w / 2) * n) (one_each h) ∙ omega (arith, pair_area w h even, mul_comm h (w / 2)) in
    plane_runs f s Luma w h bytes 0 (h / 1)
    (λ m k low near.
    let row = pair_area w m even in
    let i = 0 + 2 * (w / 2) * m + 2 * k in
    sym (two_same _ _ _ _
    (each (1 * m) (2 * k) i (omega arith) (omega arith) (omega (arith, row, mul_comm m (w / 2), mul_comm w m)))
    (each (1 * m) (2 * k + 1) (i + 1) (omega arith) (omega arith) (omega (arith, row, mul_comm m (w / 2), mul_comm w m)))))
    ∙ ap (λ n. map f (range_with_len 0 n)) all

pub grey_picture : (s : SampleOrder) (w h : ℕ) (bytes : List ℕ) → w % 2 ≡ 0 → converted_plane s w h bytes Luma ≡ map (byte_at s Grey w h bytes) (range_with_len 0 (w * h))
grey_picture s w h bytes even =
    luma_plane (byte_at s Grey w h bytes) s w h bytes even
    (λ y x i low down is. ap (shown s Ycbcr w h bytes) (grey_there w h y x i low is))

pub yuyv_picture : (s : SampleOrder) (w h : ℕ) (bytes : List ℕ) → w % 2 ≡ 0 → converted_plane s w h bytes LumaFirst ≡ map (byte_at s Yuyv w h bytes) (range_with_len 0 (2 * (w * h)))
yuyv_picture s w h bytes even =
    let f = byte_at s Yuyv w h bytes in
    let all : 4 * (w / 2) * (h / 1) ≡ 2 * (w * h) = ap (λ n. 4 * (w / 2) * n) (one_each h) ∙ omega (arith, pair_area w h even, mul_comm h (w / 2)) in
    plane_runs f s LumaFirst w h bytes 0 (h / 1)
    (λ m k low near.
    let i = 0 + 4 * (w / 2) * m + 4 * k in
    let there = yuyv_there w h (1 * m) k i near (omega (arith, mul_comm m (w / 2))) in
    let show = shown s Ycbcr w h bytes in
    sym (three_same _ _ _ _ _ _ _ _ (ap show there.0) (ap show there.1) (ap show there.2) (ap (λ c. show c ∷ []) there.3)))
    ∙ ap (λ n. map f (range_with_len 0 n)) all

pub uyvy_picture : (s : SampleOrder) (w h : ℕ) (bytes : List ℕ) → w % 2 ≡ 0 → converted_plane s w h bytes ChromaFirst ≡ map (byte_at s Uyvy w h bytes) (range_with_len 0 (2 * (w * h)))
uyvy_picture s w h bytes even =
    let f = byte_at s Uyvy w h bytes in
    let all : 4 * (w / 2) * (h / 1) ≡ 2 * (w * h) = ap (λ n. 4 * (w / 2) * n) (one_each h) ∙ omega (arith, pair_area w h even, mul_comm h (w / 2)) in
    plane_runs f s ChromaFirst w h bytes 0 (h / 1)
    (λ m k low near.
    let i = 0 + 4 * (w / 2) * m + 4 * k in
    let there = uyvy_there w h (1 * m) k i near (omega (arith, mul_comm m (w / 2))) in
    let show = shown s Ycbcr w h bytes in
    sym (three_same _ _ _ _ _ _ _ _ (ap show there.0) (ap show there.1) (ap show there.2) (ap (λ c. show c ∷ []) there.3)))
    ∙ ap (λ n. map f (range_with_len 0 n)) all

pub rgb3_picture : (s : SampleOrder) (w h : ℕ) (bytes : List ℕ) → w % 2 ≡ 0 → converted_plane s w h bytes Primaries ≡ map (byte_at s Rgb3 w h bytes) (range_with_len 0 (3 * (w * h)))
rgb3_picture s w h bytes even =
    let f = byte_at s Rgb3 w h bytes in
    let all : 6 * (w / 2) * (h / 1) ≡ 3 * (w * h) = ap (λ n. 6 * (w / 2) * n) (one_each h) ∙ omega (arith, pair_area w h even, mul_comm h (w / 2)) in
    plane_runs f s Primaries w h bytes 0 (h / 1)
    (λ m k low near.
    let row = pair_area w m even in
    let i = 0 + 6 * (w / 2) * m + 6 * k in
    let left = rgb3_there w h (1 * m) (2 * k) i (omega arith) (omega (arith, row, mul_comm m (w / 2), mul_comm w m)) in
    let right = rgb3_there w h (1 * m) (2 * k + 1) (i + 1 + 1 + 1) (omega arith) (omega (arith, row, mul_comm m (w / 2), mul_comm w m)) in
    let show = shown s Rgb w h bytes in
    sym (three_same _ _ _ _ _ _ _ _ (ap show left.0) (ap show left.1) (ap show left.2)
    (three_same _ _ _ _ _ _ _ _ (ap show right.0) (ap show right.1) (ap show right.2) refl)))
    ∙ ap (λ n. map f (range_with_len 0 n)) all

pub nv12_picture : (s : SampleOrder) (w h : ℕ) (bytes : List ℕ) → w % 2 ≡ 0 → h % 2 ≡ 0 → converted_plane s w h bytes Luma ++ converted_plane s w h bytes Chroma ≡ map (byte_at s Nv12 w h bytes) (range_with_len 0 (w * h * 3 / 2))
nv12_picture s w h bytes even_w even_h =
    let f = byte_at s Nv12 w h bytes in
    let show = shown s Ycbcr w h bytes in
    let area = square_area w h even_w even_h in
    let luma = luma_plane f s w h bytes even_w (λ y x i low down is. ap show (nv12_luma w h y x i low down is)) in
    let chroma = plane_runs f s Chroma w h bytes (w * h) (h / 2)
    (λ m k low near.
    let there = nv12_chroma w h m k (w * h + 2 * (w / 2) * m + 2 * k) near (omega (arith, mul_comm m (w / 2))) in
    sym (two_same _ _ _ _ (ap show there.0) (ap show there.1))) in
    ap (λ xs. xs ++ converted_plane s w h bytes Chroma) luma
    ∙ ap (λ xs. map f (range_with_len 0 (w * h)) ++ xs) chroma
    ∙ sym (split f 0 (w * h) (2 * (w / 2) * (h / 2)) (w * h * 3 / 2) (w * h) (omega (arith, area, mul_comm (h / 2) (w / 2))) (omega arith))

pub yu12_picture : (s : SampleOrder) (w h : ℕ) (bytes : List ℕ) → w % 2 ≡ 0 → h % 2 ≡ 0 → (converted_plane s w h bytes Luma ++ converted_plane s w h bytes BlueChroma) ++ converted_plane s w h bytes RedChroma ≡ map (byte_at s Yu12 w h bytes) (range_with_len 0 (w * h * 3 / 2))
yu12_picture s w h bytes even_w even_h =
    let f = byte_at s Yu12 w h bytes in
    let show = shown s Ycbcr w h bytes in
    let area = square_area w h even_w even_h in
    let luma = luma_plane f s w h bytes even_w (λ y x i low down is. ap show (yu12_luma w h y x i low down is)) in
    let blue = plane_runs f s BlueChroma w h bytes (w * h) (h / 2)
    (λ m k low near. ap (λ c. show c ∷ []) (sym (yu12_blue w h m k (w * h + 1 * (w / 2) * m + 1 * k) even_w even_h near low (omega (arith, mul_comm m (w / 2)))))) in
    let red = plane_runs f s RedChroma w h bytes (w * h + w * h / 4) (h / 2)
    (λ m k low near. ap (λ c. show c ∷ []) (sym (yu12_red w h m k (w * h + w * h / 4 + 1 * (w / 2) * m + 1 * k) near (omega (arith, mul_comm m (w / 2)))))) in
    let quarter : 1 * (w / 2) * (h / 2) ≡ w * h / 4 = omega (arith, area, mul_comm (h / 2) (w / 2)) in
    ap (λ xs. (xs ++ converted_plane s w h bytes BlueChroma) ++ converted_plane s w h bytes RedChroma) luma
    ∙ ap (λ xs. (map f (range_with_len 0 (w * h)) ++ xs) ++ converted_plane s w h bytes RedChroma) blue
    ∙ ap (λ xs. xs ++ converted_plane s w h bytes RedChroma) (sym (split f 0 (w * h) (1 * (w / 2) * (h / 2)) (w * h + w * h / 4) (w * h) (omega arith) (omega arith)))
    ∙ ap (λ xs. map f (range_with_len 0 (w * h + w * h / 4)) ++ xs) red
    ∙ sym (split f 0 (w * h + w * h / 4) (1 * (w / 2) * (h / 2)) (w * h * 3 / 2) (w * h + w * h / 4) (omega (arith, area, mul_comm (h / 2) (w / 2))) (omega arith))
