-- Words that write no bytes: those of no byte, and those of more than 256.
use Rattle.std.proofs.Common.{◌≡◌, ℕ, ◌*◌, ◌/◌, ◌<◌, Bool, true, false, ◌&&◌, List, length, refl, arith, Some, None, Result, Ok, Err, if◌then◌else◌}
use Rattle.std.specs.Prelude.{nat_le}
use Rattle.std.proofs.lemmas.Bool.Decides.{nat_tests}
use Rattle.hex.specs.Hex.{decode_of}
use Rattle.hex.specs.declared.error.FromHexError.{FromHexError}
use Rattle.hex.proofs.HexLemmas.{decode_of-ok}
use Rattle.vm_script.specs.Places.{few, bytes_in}

not_both : (a b : Bool) (bytes : List ℕ) → b ≡ false → (if a && b then Some bytes else None) ≡ None
not_both true b bytes e = rw e refl
not_both false b bytes e = refl

few_none : (word : List ℕ) (r : Result (List ℕ) FromHexError) → decode_of word ≡ r → length word / 2 ≡ 0 → few r ≡ None
few_none word (Ok bytes) is none =
    let twice : length word ≡ 2 * length bytes = (decode_of-ok word bytes is).2 in
    let test : nat_le 1 (length bytes) ≡ false = grind (arith, nat_tests) in
    rw test refl
few_none word (Err e) is none = refl

few_many : (word : List ℕ) (r : Result (List ℕ) FromHexError) → decode_of word ≡ r → 256 < length word / 2 → few r ≡ None
few_many word (Ok bytes) is many =
    let twice : length word ≡ 2 * length bytes = (decode_of-ok word bytes is).2 in
    not_both (nat_le 1 (length bytes)) (nat_le (length bytes) 256) bytes (grind (arith, nat_tests))
few_many word (Err e) is many = refl

pub bytes_none : (word : List ℕ) → length word / 2 ≡ 0 → bytes_in word ≡ None
bytes_none word none = few_none word (decode_of word) refl none

pub bytes_many : (word : List ℕ) → 256 < length word / 2 → bytes_in word ≡ None
bytes_many word many = few_many word (decode_of word) refl many
