-- Lemmas on the text of lines.
use Rattle.std.proofs.Common.{◌≡◌, ℕ, ◌+◌, List, [], ◌∷◌, ◌++◌, Result, Ok, Err, OnOk, ap, sym, ◌∙◌, add-one, append_assoc}
use Rattle.std.proofs.lemmas.Grind.{flat_map-append}
use Rattle.std.proofs.lemmas.List.{append-nil}
use Rattle.vm_bulk.specs.Bulk.{ended, below}

pub ended_append : (xs ys : List (List ℕ)) → ended (xs ++ ys) ≡ ended xs ++ ended ys
ended_append xs ys = flat_map-append (λ (line : List ℕ). line ++ 10 ∷ []) xs ys

pub ended_below : (n : ℕ) (f : ℕ → List (List ℕ)) → ended (below (n + 1) f) ≡ ended (below n f) ++ ended (f n)
unfolding below
ended_below n f = rw add-one (ended_append (below n f) (f n))

-- what follows of a good end follows of each outcome
pub ok_then : {A E : Type 0} (r : Result A E) (P Q : Type 0) → (P → Q) → OnOk r P → OnOk r Q
ok_then (Ok x) P Q follows holds = follows holds
ok_then (Err e) P Q follows holds = tt

-- lines behind lines
pub chain : (a b c : List ℕ) (xs ys : List (List ℕ)) → b ≡ a ++ ended xs → c ≡ b ++ ended ys → c ≡ a ++ ended (xs ++ ys)
chain a b c xs ys first second =
    second ∙ (ap (λ (t : List ℕ). t ++ ended ys) first ∙ (append_assoc a (ended xs) (ended ys) ∙ ap (λ (t : List ℕ). a ++ t) (sym (ended_append xs ys))))

-- no lines yet, and the lines of one number more
pub begun : (a : List ℕ) (f : ℕ → List (List ℕ)) → a ≡ a ++ ended (below 0 f)
unfolding below
begun a f = sym (append-nil a)

pub grown : (a b c : List ℕ) (n : ℕ) (f : ℕ → List (List ℕ)) → b ≡ a ++ ended (below n f) → c ≡ b ++ ended (f n) → c ≡ a ++ ended (below (n + 1) f)
unfolding below
grown a b c n f first second = rw add-one (chain a b c (below n f) (f n) first second)

pub first_begun : (a b line : List ℕ) (f : ℕ → List (List ℕ)) → a ≡ [] → b ≡ a ++ ended (line ∷ []) → b ≡ ended (line ∷ below 0 f)
unfolding below
first_begun a b line f none first = first ∙ ap (λ (t : List ℕ). t ++ ended (line ∷ [])) none

-- a line is written word by word
line_append : (x e : List ℕ) → ended ((x ++ e) ∷ []) ≡ x ++ ended (e ∷ [])
line_append x e = ap (λ (t : List ℕ). t ++ []) (append_assoc x e (10 ∷ [])) ∙ append_assoc x (e ++ 10 ∷ []) []

pub pushed : (a b c x e : List ℕ) → b ≡ a ++ x → c ≡ b ++ ended (e ∷ []) → c ≡ a ++ ended ((x ++ e) ∷ [])
pushed a b c x e first second =
    second ∙ (ap (λ (t : List ℕ). t ++ ended (e ∷ [])) first ∙ (append_assoc a x (ended (e ∷ [])) ∙ ap (λ (t : List ℕ). a ++ t) (sym (line_append x e))))
