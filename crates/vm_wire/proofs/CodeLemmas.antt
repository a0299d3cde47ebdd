-- The numbers of calls.
use Rattle.std.proofs.Common.{◌≡◌, ℕ, ◌<◌, ◌≤◌, ◌^◌, ◌==◌, Bool, true, false, List, [], ◌∷◌, Some, arith, refl}
use Rattle.std.proofs.lemmas.Bool.Decides.{nat_tests}
use Rattle.std.specs.Prelude.{find}
use Rattle.v4l_const.specs.IoctlCode.{ioctl_number, ioctl_of, ioctls, payload_size}
use Rattle.v4l_const.specs.declared.ioctl_code.IoctlCode.{IoctlCode}
use Rattle.v4l_const.specs.declared.ioctl_code.IoctlCode.TheVariants.{QueryCap, EnumFmt, GFmt, SFmt, ReqBufs, QueryBuf, QBuf, StreamOn, StreamOff, EnumInput, GInput, SInput, TryFmt, SubscribeEvent, UnsubscribeEvent}

-- a call's number finds it
pub code_again : (code : IoctlCode) → ioctl_of (ioctl_number code) ≡ Some code
code_again QueryCap = refl
code_again EnumFmt = refl
code_again GFmt = refl
code_again SFmt = refl
code_again ReqBufs = refl
code_again QueryBuf = refl
code_again QBuf = refl
code_again StreamOn = refl
code_again StreamOff = refl
code_again EnumInput = refl
code_again GInput = refl
code_again SInput = refl
code_again TryFmt = refl
code_again SubscribeEvent = refl
code_again UnsubscribeEvent = refl

-- it fits into a field
pub code_fits : (code : IoctlCode) → ioctl_number code < 2 ^ 32
code_fits QueryCap = omega arith
code_fits EnumFmt = omega arith
code_fits GFmt = omega arith
code_fits SFmt = omega arith
code_fits ReqBufs = omega arith
code_fits QueryBuf = omega arith
code_fits QBuf = omega arith
code_fits StreamOn = omega arith
code_fits StreamOff = omega arith
code_fits EnumInput = omega arith
code_fits GInput = omega arith
code_fits SInput = omega arith
code_fits TryFmt = omega arith
code_fits SubscribeEvent = omega arith
code_fits UnsubscribeEvent = omega arith

-- no payload is longer than a format's
pub size_fits : (code : IoctlCode) → payload_size code ≤ 208
size_fits QueryCap = omega arith
size_fits EnumFmt = omega arith
size_fits GFmt = omega arith
size_fits SFmt = omega arith
size_fits ReqBufs = omega arith
size_fits QueryBuf = omega arith
size_fits QBuf = omega arith
size_fits StreamOn = omega arith
size_fits StreamOff = omega arith
size_fits EnumInput = omega arith
size_fits GInput = omega arith
size_fits SInput = omega arith
size_fits TryFmt = omega arith
size_fits SubscribeEvent = omega arith
size_fits UnsubscribeEvent = omega arith

step : {X : Type 0} (p : X → Bool) (y : X) (ys : List X) (x : X) (b : Bool) → p y ≡ b → (find p ys ≡ Some x → p x ≡ true) → find p (y ∷ ys) ≡ Some x → p x ≡ true
step p y ys x true passes later found = grind (arith, found, passes)
step p y ys x false fails later found = later (grind (arith, found, fails))

-- what is found passes the test
found_passes : {X : Type 0} (p : X → Bool) (xs : List X) (x : X) → find p xs ≡ Some x → p x ≡ true
found_passes p [] x found = cc
found_passes p (y ∷ ys) x found = step p y ys x (p y) refl (found_passes p ys x) found

-- the call that a number finds has it
pub code_of_number : (n : ℕ) (code : IoctlCode) → ioctl_of n ≡ Some code → n ≡ ioctl_number code
code_of_number n code found = let same : (n == ioctl_number code) ≡ true = found_passes (λ c. n == ioctl_number c) ioctls code found in grind (arith, nat_tests, same)
