-- Each line of a pattern is a part of its strip.
use Rattle.std.proofs.Common.{◌≡◌, ◌≤◌, ℕ, ◌+◌, ◌*◌, ◌/◌, ◌%◌, ◌==◌, Bool, if◌then◌else◌, arith, ap, sym, refl, ◌∙◌}
use Rattle.std.proofs.lemmas.Bool.{cond_both}
use Rattle.v4l_format.specs.declared.pattern.Pattern.{Pattern}
use Rattle.v4l_format.specs.declared.pattern.Pattern.TheVariants.{Bars, Ramp, Checker, Count}
use Rattle.v4l_format.specs.declared.triple.Triple.{Triple}
use Rattle.v4l_format.specs.Pattern.{grey_of}
use Rattle.v4l_format.specs.Triple.{rgb_of}
use Rattle.v4l_pattern.specs.declared.line_kind.LineKind.{LineKind}
use Rattle.v4l_pattern.specs.declared.line_kind.LineKind.TheVariants.{Luma, LumaFirst, ChromaFirst, Primaries, Chroma, BlueChroma, RedChroma}
use Rattle.v4l_pattern.specs.Lines.{line_size, line_byte, bytes_ahead, pixels_ahead, most_ahead, row_of}

choose : (t u : Bool) (a b c d : ℕ) → t ≡ u → a ≡ b → c ≡ d → (if t then a else c) ≡ (if u then b else d)
choose t u a b c d e f g = rw (e, f, g) refl

either : (t : Bool) (a b z : ℕ) → a ≡ z → b ≡ z → (if t then a else b) ≡ z
either t a b z e f = cond_both t a b (λ x. x ≡ z) (λ _. e) (λ _. f)

-- pixels without colour
record IsGrey (pixel : ℕ → Triple) : Type 0 where
  blue : (x : ℕ) → (pixel x).1 ≡ 128
  red : (x : ℕ) → (pixel x).2 ≡ 128

-- in a line of grey pixels that are s ahead of others
shifted : (kind : LineKind) (ahead pixel : ℕ → Triple) (s : ℕ) → ((x : ℕ) → ahead (s + x) ≡ pixel x) → IsGrey ahead → IsGrey pixel → (k : ℕ) → line_byte kind ahead (bytes_ahead kind s + k) ≡ line_byte kind pixel k
shifted Luma ahead pixel s same g h k = ap (λ t. t.0) (same k)
shifted LumaFirst ahead pixel s same g h k =
    let turn : (2 * s + k) % 2 ≡ k % 2 = omega arith in
    let half : (2 * s + k) / 2 ≡ s + k / 2 = omega arith in
    choose _ _ _ _ _ _ (ap (λ n. n == 0) turn) (ap (λ n. (ahead n).0) half ∙ ap (λ t. t.0) (same (k / 2)))
    (either _ _ _ 128 (g.blue _) (g.red _) ∙ sym (either _ _ _ 128 (h.blue _) (h.red _)))
shifted ChromaFirst ahead pixel s same g h k =
    let turn : (2 * s + k) % 2 ≡ k % 2 = omega arith in
    let half : (2 * s + k) / 2 ≡ s + k / 2 = omega arith in
    choose _ _ _ _ _ _ (ap (λ n. n == 1) turn) (ap (λ n. (ahead n).0) half ∙ ap (λ t. t.0) (same (k / 2)))
    (either _ _ _ 128 (g.blue _) (g.red _) ∙ sym (either _ _ _ 128 (h.blue _) (h.red _)))
shifted Primaries ahead pixel s same g h k =
    let turn : (3 * s + k) % 3 ≡ k % 3 = omega arith in
    let third : (3 * s + k) / 3 ≡ s + k / 3 = omega arith in
    choose _ _ _ _ _ _ (ap (λ n. n == 0) turn) (ap (λ n. (rgb_of (ahead n)).0) third ∙ ap (λ t. (rgb_of t).0) (same (k / 3)))
    (choose _ _ _ _ _ _ (ap (λ n. n == 1) turn) (ap (λ n. (rgb_of (ahead n)).1) third ∙ ap (λ t. (rgb_of t).1) (same (k / 3)))
    (ap (λ n. (rgb_of (ahead n)).2) third ∙ ap (λ t. (rgb_of t).2) (same (k / 3))))
shifted Chroma ahead pixel s same g h k =
    either _ _ _ 128 (g.blue _) (g.red _) ∙ sym (either _ _ _ 128 (h.blue _) (h.red _))
shifted BlueChroma ahead pixel s same g h k = g.blue _ ∙ sym (h.blue _)
shifted RedChroma ahead pixel s same g h k = g.red _ ∙ sym (h.red _)

ramp_grey : (seq w y : ℕ) → IsGrey (row_of Ramp seq w y)
ramp_grey seq w y = record { blue = λ x. refl; red = λ x. refl }

checker_grey : (seq w y : ℕ) → IsGrey (row_of Checker seq w y)
checker_grey seq w y = record {
  blue = λ x. cond_both ((x / 8 + y / 8 + seq) % 2 == 0) (grey_of 235) (grey_of 16) (λ t. t.1 ≡ 128) (λ _. refl) (λ _. refl);
  red = λ x. cond_both ((x / 8 + y / 8 + seq) % 2 == 0) (grey_of 235) (grey_of 16) (λ t. t.2 ≡ 128) (λ _. refl) (λ _. refl);
}

none_ahead : (kind : LineKind) → bytes_ahead kind 0 ≡ 0
none_ahead Luma = refl
none_ahead LumaFirst = refl
none_ahead ChromaFirst = refl
none_ahead Primaries = refl
none_ahead Chroma = refl
none_ahead BlueChroma = refl
none_ahead RedChroma = refl

not_shifted : (kind : LineKind) (pixel : ℕ → Triple) (k : ℕ) → line_byte kind pixel (bytes_ahead kind 0 + k) ≡ line_byte kind pixel k
not_shifted kind pixel k =
    ap (λ n. line_byte kind pixel (n + k)) (none_ahead kind) ∙ ap (line_byte kind pixel) (omega arith)

-- line y lies in the strip as far on as it is ahead of the first line
pub in_strip : (kind : LineKind) (pattern : Pattern) (seq w y k : ℕ) → line_byte kind (row_of pattern seq (w + most_ahead pattern) 0) (bytes_ahead kind (pixels_ahead pattern y) + k) ≡ line_byte kind (row_of pattern seq w y) k
in_strip kind Bars seq w y k =
    let same : w + 0 ≡ w = omega arith in
    ap (λ n. line_byte kind (row_of Bars seq n y) (bytes_ahead kind 0 + k)) same ∙ not_shifted kind (row_of Bars seq w y) k
in_strip kind Ramp seq w y k =
    shifted kind (row_of Ramp seq (w + 255) 0) (row_of Ramp seq w y) (y % 256) (λ x. ap grey_of (omega arith)) (ramp_grey seq (w + 255) 0) (ramp_grey seq w y) k
in_strip kind Checker seq w y k =
    shifted kind (row_of Checker seq (w + 8) 0) (row_of Checker seq w y) (8 * (y / 8 % 2))
    (λ x.
    let turn : ((8 * (y / 8 % 2) + x) / 8 + 0 / 8 + seq) % 2 ≡ (x / 8 + y / 8 + seq) % 2 = omega arith in
    ap (λ n. if n == 0 then grey_of 235 else grey_of 16) turn)
    (checker_grey seq (w + 8) 0) (checker_grey seq w y) k
in_strip kind Count seq w y k = not_shifted kind (row_of Count seq w y) k

-- the part lies within the strip
pub fits_strip : (kind : LineKind) (w s most : ℕ) → s ≤ most → bytes_ahead kind s + line_size kind w ≤ line_size kind (w + most)
fits_strip Luma w s most low = omega arith
fits_strip LumaFirst w s most low = omega arith
fits_strip ChromaFirst w s most low = omega arith
fits_strip Primaries w s most low = omega arith
fits_strip Chroma w s most low = omega arith
fits_strip BlueChroma w s most low = omega arith
fits_strip RedChroma w s most low = omega arith

pub least_ahead : (pattern : Pattern) (y : ℕ) → pixels_ahead pattern y ≤ most_ahead pattern
least_ahead Bars y = omega arith
least_ahead Ramp y = omega arith
least_ahead Checker y = omega arith
least_ahead Count y = omega arith
