-- How many lines are on each handle of a process.
use Rattle.std.proofs.Common.{◌≡◌, ℕ, zero, suc, ◌+◌, ◌<◌, ◌≤◌, ◌^◌, Bool, true, false, List, [], ◌∷◌, ◌++◌, Some, None, length, take, get_or, set, refl, sym, ap, ◌∙◌, subst, arith, inl, inr, eqb, eq-eqb, if◌then◌else◌}
use Rattle.std.proofs.lemmas.Bool.{cases_eq, ne_eqb}
use Rattle.std.proofs.lemmas.List.{length-set, get_or-set_same, get_or-set_other, length-append, take_more, append_assoc, append-nil}
use Rattle.vm_script.specs.Lines.{numbered, call_on, is_on, lines_of}
use Rattle.vm_script.specs.declared.line.Line.{Line}
use Rattle.vm_script.specs.declared.line.LineKind.{LineKind}
use Rattle.vm_script.specs.declared.line.LineKind.TheVariants.{OnHandle, Raw}
use Rattle.vm_guest.specs.Caller.{counted}

pub lines_of-append : (h : ℕ) (xs ys : List Line) → lines_of h (xs ++ ys) ≡ lines_of h xs ++ lines_of h ys
lines_of-append h [] ys = refl
lines_of-append h (x ∷ xs) ys = ap (λ ls. numbered x.number (call_on h x.what) ++ ls) (lines_of-append h xs ys) ∙ sym (append_assoc (numbered x.number (call_on h x.what)) (lines_of h xs) (lines_of h ys))

abbrev pub one_if : Bool → ℕ
one_if b = if b then 1 else 0

length-numbered : (h number : ℕ) (what : LineKind) → length (numbered number (call_on h what)) ≡ one_if (is_on h what)
length-numbered h number (OnHandle j call) = elim (eqb j h) as (λ b. length (numbered number (if b then Some call else None)) ≡ one_if b) [ true ↦ refl | false ↦ refl ]
length-numbered h number (Raw chain) = refl

-- how many lines are on a handle, one line further
pub lines_of-count : (h : ℕ) (ls : List Line) (k : ℕ) (d : Line) → k < length ls
    → length (lines_of h (take (k + 1) ls)) ≡ length (lines_of h (take k ls)) + one_if (is_on h (get_or ls k d).what)
lines_of-count h ls k d within =
    ap (λ xs. length (lines_of h xs)) (take_more ls k d within)
    ∙ ap length (lines_of-append h (take k ls) (get_or ls k d ∷ []))
    ∙ length-append (lines_of h (take k ls)) (lines_of h (get_or ls k d ∷ []))
    ∙ ap (λ n. length (lines_of h (take k ls)) + n) (ap length (append-nil (numbered (get_or ls k d).number (call_on h (get_or ls k d).what))) ∙ length-numbered h (get_or ls k d).number (get_or ls k d).what)

-- the counts of the first lines
abbrev pub Counts : List ℕ → ℕ → List Line → ℕ → Type 0
Counts counts n ls k = (length counts ≡ n) × ((h : ℕ) → h < n → get_or counts h 0 ≡ length (lines_of h (take k ls)))

-- a front has no more lines on a handle than lines
pub few_lines : (h : ℕ) (ls : List Line) (k : ℕ) → length (lines_of h (take k ls)) ≤ k
few_lines h ls zero = omega arith
few_lines h [] (suc k) = omega arith
few_lines h (l ∷ ls) (suc k) =
    let rest = few_lines h ls k in
    let here : length (numbered l.number (call_on h l.what)) ≤ 1 = most l.number l.what in
    omega (arith, rest, here, length-append (numbered l.number (call_on h l.what)) (lines_of h (take k ls)))
  where
    most : (number : ℕ) (what : LineKind) → length (numbered number (call_on h what)) ≤ 1
    most number (OnHandle j call) = elim (eqb j h) as (λ b. length (numbered number (if b then Some call else None)) ≤ 1) [ true ↦ omega arith | false ↦ omega arith ]
    most number (Raw chain) = omega arith

pub small_counts : (counts : List ℕ) (n : ℕ) (ls : List Line) (k : ℕ) → Counts counts n ls k → k < length ls → length ls < 2 ^ 30 → (h : ℕ) → h < length counts → get_or counts h 0 < 2 ^ 31
small_counts counts n ls k is within small h inside =
    let here = is.1 h (omega (arith, inside, is.0)) in omega (arith, here, few_lines h ls k, within, small)

-- one line more is counted
pub counts_more : (counts counts' : List ℕ) (n : ℕ) (ls : List Line) (k : ℕ) (l : Line) → Counts counts n ls k → k < length ls → l ≡ get_or ls k l → counts' ≡ counted counts l.what → Counts counts' n ls (k + 1)
counts_more counts counts' n ls k l is within at step =
    subst (λ xs. Counts xs n ls (k + 1)) (sym step) (by_kind l.what refl)
  where
    one : (h : ℕ) → length (lines_of h (take (k + 1) ls)) ≡ length (lines_of h (take k ls)) + one_if (is_on h l.what)
    one h = lines_of-count h ls k l within ∙ ap (λ x. length (lines_of h (take k ls)) + one_if (is_on h x.what)) (sym at)

    by_kind : (w : LineKind) → l.what ≡ w → Counts (counted counts w) n ls (k + 1)
    by_kind (OnHandle j call) what = (
      length-set counts j (get_or counts j 0 + 1) ∙ is.0,
      λ h inside. elim (cases_eq h j) [
        | inl same ↦
            let P : ℕ → Type 0 = λ i. get_or (set counts j (get_or counts j 0 + 1)) i 0 ≡ length (lines_of i (take (k + 1) ls)) in
            let here : get_or counts j 0 ≡ length (lines_of j (take k ls)) = is.1 j (subst (λ i. i < n) same inside) in
            let count : one_if (is_on j l.what) ≡ 1 = ap (λ w. one_if (is_on j w)) what ∙ ap one_if (eq-eqb j j refl) in
            subst P (sym same) (get_or-set_same counts j (get_or counts j 0 + 1) 0 (subst (λ i. i < length counts) same (omega (arith, inside, is.0))) ∙ omega (arith, here, count, one j))
        | inr differs ↦
            let count : one_if (is_on h l.what) ≡ 0 = ap (λ w. one_if (is_on h w)) what ∙ ap one_if (ne_eqb j h (λ same. differs (sym same))) in
            get_or-set_other counts j h (get_or counts j 0 + 1) 0 differs ∙ omega (arith, is.1 h inside, count, one h)
      ],
    )
    by_kind (Raw chain) what = (
      is.0,
      λ h inside. (let count : one_if (is_on h l.what) ≡ 0 = ap (λ w. one_if (is_on h w)) what in omega (arith, is.1 h inside, count, one h)),
    )
