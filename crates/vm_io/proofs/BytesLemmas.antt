-- Reads and writes one after the other, as one.
use Rattle.std.proofs.Common.{◌≡◌, ℕ, ◌+◌, ◌-◌, List, ◌++◌, length, take, drop, Option, None, Some, IsSome, refl, sym, ap, append_assoc, append-nil, arith, length-append}
use Rattle.std.proofs.lemmas.List.{take_rest}
use Rattle.std.proofs.Math.Seq.{take-add}
use Rattle.vm_io.specs.Bytes.{WasRead, WasAppended, NothingLeft, count_read, followed_by}

pub was_read-append : (old now new : Option (List ℕ)) (xs ys : List ℕ) → WasRead old now xs → WasRead now new ys → WasRead old new (xs ++ ys)
was_read-append old now None xs ys first next = rw (first, next) refl
was_read-append old now (Some rest) xs ys first next = rw (first, next) (ap Some (sym (append_assoc xs ys rest)))

-- what is appended twice is appended as one
pub followed_by_twice : (known : Option (List ℕ)) (xs ys : List ℕ) → followed_by (followed_by known xs) ys ≡ followed_by known (xs ++ ys)
followed_by_twice None xs ys = refl
followed_by_twice (Some known) xs ys = ap Some (append_assoc known xs ys)

pub was_appended-append : (old now new : Option (List ℕ)) (xs ys : List ℕ) → WasAppended old now xs → WasAppended now new ys → WasAppended old new (xs ++ ys)
was_appended-append old now new xs ys first next = rw (next, first) (followed_by_twice old xs ys)

-- where the source tells, what left shrank by is as long as the bytes that came
pub count_read-was_read : (old new : Option (List ℕ)) (bytes : List ℕ) → WasRead old new bytes → IsSome old → count_read old new ≡ length bytes
count_read-was_read None new bytes read tells = cc
count_read-was_read (Some all) None bytes read tells = cc
count_read-was_read (Some all) (Some rest) bytes read tells = let same : all ≡ bytes ++ rest = cc in rw (same, length-append) (omega arith)

-- what was read to the end is all that was left
pub was_read-whole : (all : List ℕ) (new : Option (List ℕ)) (bytes : List ℕ) → WasRead (Some all) new bytes → NothingLeft new → bytes ≡ all
was_read-whole all None bytes read end = cc
was_read-whole all (Some rest) bytes read end = let same : all ≡ bytes ++ rest = cc in rw (same, end) (sym (append-nil bytes))

-- n bytes more of a list, taken from what stands behind its first ones
pub take_add_rest : (at n : ℕ) (bytes : List ℕ) → take (at + n) bytes ≡ take at bytes ++ take n (take (length bytes - at) (drop at bytes))
take_add_rest at n bytes = rw take_rest (take-add at n bytes)
