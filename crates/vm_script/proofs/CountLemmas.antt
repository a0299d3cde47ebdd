-- Numbers of words that no form has.
use Rattle.std.proofs.Common.{◌≡◌, ◌≢◌, ℕ, ◌+◌, ◌≤◌, ◌==◌, false, List, [], ◌∷◌, map, length, Bor, Err, refl, arith}
use Rattle.std.proofs.lemmas.Bool.Decides.{nat_tests}
use Rattle.std.proofs.lemmas.List.{length-map}
use Rattle.vm_script.specs.declared.fault.ScriptKind.TheVariants.{Word}
use Rattle.vm_script.specs.declared.verb.Verb.{Verb}
use Rattle.vm_script.specs.declared.verb.Verb.TheVariants.{Open, Close, QueryCap, EnumFmt, GFmt, TryFmt, SFmt, EnumInput, GInput, SInput, ReqBufs, QueryBuf, UAlloc, QBuf, StreamOn, StreamOff, DqBuf, Mmap, Munmap, Read, Hash, Write, Fill, Subscribe, Unsubscribe, DqEvent}
use Rattle.vm_script.specs.Statements.{forms_with, statement_by}

-- the words behind the handle's name are none of so many
abbrev IsNot : ℕ → ℕ → Type 0
IsNot m n = (m == n) ≡ false

-- more words than any form has, but for those of `qbuf`
few_forms : (verb : Verb) (n : ℕ) → verb ≢ QBuf → IsNot 0 n → IsNot 1 n → IsNot 2 n → IsNot 3 n → IsNot 4 n → forms_with n verb ≡ []
few_forms Open n other none one two three four = rw (none, one) refl
few_forms Close n other none one two three four = rw (none) refl
few_forms QueryCap n other none one two three four = rw (none) refl
few_forms EnumFmt n other none one two three four = rw (two) refl
few_forms GFmt n other none one two three four = rw (one) refl
few_forms TryFmt n other none one two three four = rw (four) refl
few_forms SFmt n other none one two three four = rw (four) refl
few_forms EnumInput n other none one two three four = rw (one) refl
few_forms GInput n other none one two three four = rw (none) refl
few_forms SInput n other none one two three four = rw (one) refl
few_forms ReqBufs n other none one two three four = rw (three) refl
few_forms QueryBuf n other none one two three four = rw (two) refl
few_forms UAlloc n other none one two three four = rw (three) refl
few_forms QBuf n other none one two three four = absurd (other refl)
few_forms StreamOn n other none one two three four = rw (one) refl
few_forms StreamOff n other none one two three four = rw (one) refl
few_forms DqBuf n other none one two three four = rw (one) refl
few_forms Mmap n other none one two three four = rw (three, four) refl
few_forms Munmap n other none one two three four = rw (one) refl
few_forms Read n other none one two three four = rw (three) refl
few_forms Hash n other none one two three four = rw (one) refl
few_forms Write n other none one two three four = rw (three) refl
few_forms Fill n other none one two three four = rw (two) refl
few_forms Subscribe n other none one two three four = rw (one) refl
few_forms Unsubscribe n other none one two three four = rw (one) refl
few_forms DqEvent n other none one two three four = rw (none) refl

pub queue_forms : (n : ℕ) → IsNot 2 n → IsNot 4 n → IsNot 6 n → IsNot 8 n → forms_with n QBuf ≡ []
queue_forms n two four six eight = rw (two, four, six, eight) refl

-- ---- lines

no_form : (verb : Verb) (words : List (List ℕ)) (n : ℕ) → length words ≡ n + 1 → forms_with n verb ≡ [] → statement_by verb words ≡ Err Word
no_form verb [] n e none = refl
no_form verb (handle ∷ words) n e none = let same : length words ≡ n = omega arith in rw (same, none) refl

-- no other verb has as many words behind the handle's name
pub few_words : (verb : Verb) (words : List (Bor (List ℕ))) → verb ≢ QBuf → 6 ≤ length words → statement_by verb (map (λ w. w.now) words) ≡ Err Word
few_words verb [] other many = refl
few_words verb (handle ∷ words) other many =
    no_form verb (map (λ w. w.now) (handle ∷ words)) (length words) (simp length-map (omega arith))
    (few_forms verb (length words) other (grind (arith, nat_tests)) (grind (arith, nat_tests)) (grind (arith, nat_tests)) (grind (arith, nat_tests)) (grind (arith, nat_tests)))

pub queue_words : (words : List (Bor (List ℕ))) → 6 ≤ length words → length words ≢ 7 → length words ≢ 9 → statement_by QBuf (map (λ w. w.now) words) ≡ Err Word
queue_words [] many seven nine = refl
queue_words (handle ∷ words) many seven nine =
    no_form QBuf (map (λ w. w.now) (handle ∷ words)) (length words) (simp length-map (omega arith))
    (queue_forms (length words) (grind (arith, nat_tests)) (grind (arith, nat_tests)) (grind (arith, nat_tests)) (grind (arith, nat_tests)))
