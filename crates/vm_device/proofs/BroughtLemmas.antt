-- The tests of what a QBUF brings.
use Rattle.std.proofs.Common.{◌≡◌, ◌&&◌, Bool, true, false, refl}

pub not_first : (a b c d : Bool) → a ≡ false → (a && (b && (c && d))) ≡ false
not_first true b c d is = cc
not_first false b c d is = refl

pub not_second : (a b c d : Bool) → b ≡ false → (a && (b && (c && d))) ≡ false
not_second false b c d is = refl
not_second true true c d is = cc
not_second true false c d is = refl

pub not_third : (a b c d : Bool) → c ≡ false → (a && (b && (c && d))) ≡ false
not_third false b c d is = refl
not_third true false c d is = refl
not_third true true true d is = cc
not_third true true false d is = refl

pub not_fourth : (a b c d : Bool) → d ≡ false → (a && (b && (c && d))) ≡ false
not_fourth false b c d is = refl
not_fourth true false c d is = refl
not_fourth true true false d is = refl
not_fourth true true true true is = cc
not_fourth true true true false is = refl

pub all_four : (a b c d : Bool) → a ≡ true → b ≡ true → c ≡ true → d ≡ true → (a && (b && (c && d))) ≡ true
all_four true true true true w x y z = refl
all_four false b c d w x y z = cc
all_four true false c d w x y z = cc
all_four true true false d w x y z = cc
all_four true true true false w x y z = cc
