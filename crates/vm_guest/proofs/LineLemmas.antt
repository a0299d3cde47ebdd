-- The lines of a process, one after the other.
use Rattle.std.proofs.Common.{◌≡◌, ◌≢◌, ◌<◌, ◌≤◌, ◌+◌, inl, inr, ℕ, zero, suc, false, List, [], ◌∷◌, ◌++◌, length, take, Option, Some, None, refl, sym, ap, ◌∙◌, subst, arith, append_assoc, length-append}
use Rattle.std.specs.List.{slice_get}
use Rattle.std.specs.Option.{option_map}
use Rattle.std.proofs.lemmas.Bool.{cases_eq, eq-eqb, ne_eqb}
use Rattle.std.proofs.lemmas.List.{take_more, length-take-le}
use Rattle.std.proofs.lemmas.Option.{slice_get-map, slice_get_within, get_or_from_slice_get}
use Rattle.vm_local.specs.declared.call.Call.{Call}
use Rattle.vm_script.specs.Lines.{Numbered, call_on, numbered, lines_of}
use Rattle.vm_script.specs.declared.line.Line.{Line}
use Rattle.vm_script.specs.declared.line.LineKind.TheVariants.{OnHandle}
use Rattle.vm_guest.specs.Asking.{statement_of, statements_of}
use Rattle.vm_guest.specs.Orderly.{is_raw, is_raw_at}
use Rattle.vm_guest.specs.declared.asked.Statement.{Statement}

pub lines_append : (h : ℕ) (xs ys : List Line) → lines_of h (xs ++ ys) ≡ lines_of h xs ++ lines_of h ys
lines_append h [] ys = refl
lines_append h (x ∷ xs) ys =
    ap (λ (zs : List Numbered). numbered x.number (call_on h x.what) ++ zs) (lines_append h xs ys) ∙ sym (append_assoc (numbered x.number (call_on h x.what)) (lines_of h xs) (lines_of h ys))

pub append_none : {A : Type 0} (xs : List A) → xs ++ [] ≡ xs
append_none [] = refl
append_none (x ∷ xs) = ap (λ ys. x ∷ ys) (append_none xs)

-- a statement is a line's
pub record IsLine (ls : List Line) (n : ℕ) (s : Statement) : Type 0 where
  pub line : Line
  pub at : slice_get ls n ≡ Some line
  pub is : statement_of line ≡ s

line_by : (ls : List Line) (n : ℕ) (s : Statement) (o : Option Line) → slice_get ls n ≡ o → option_map statement_of o ≡ Some s → IsLine ls n s
line_by ls n s None at is = cc
line_by ls n s (Some l) at is = record { line = l; at = at; is = some_is is }
  where
    some_is : Some (statement_of l) ≡ Some s → statement_of l ≡ s
    some_is e = cc

pub line_of : (ls : List Line) (n : ℕ) (s : Statement) → slice_get (statements_of ls) n ≡ Some s → IsLine ls n s
line_of ls n s is = line_by ls n s (slice_get ls n) refl (sym (slice_get-map statement_of ls n) ∙ is)

pub line_within : (ls : List Line) (n : ℕ) (s : Statement) → slice_get (statements_of ls) n ≡ Some s → n < length ls
line_within ls n s is = let l : IsLine ls n s = line_of ls n s is in slice_get_within ls n l.line l.at

-- the first lines, with one more
pub take_line : (ls : List Line) (n : ℕ) (s : Statement) (l : IsLine ls n s) → take (n + 1) ls ≡ take n ls ++ l.line ∷ []
take_line ls n s l =
    take_more ls n l.line (slice_get_within ls n l.line l.at) ∙ ap (λ (x : Line). take n ls ++ x ∷ []) (get_or_from_slice_get ls n l.line l.line l.at)

pub lines_more : (ls : List Line) (n : ℕ) (s : Statement) (h : ℕ) → slice_get (statements_of ls) n ≡ Some s → lines_of h (take (n + 1) ls) ≡ lines_of h (take n ls) ++ numbered s.line (call_on h s.what)
lines_more ls n s h is =
    let l : IsLine ls n s = line_of ls n s is in
    ap (λ xs. lines_of h xs) (take_line ls n s l) ∙ (lines_append h (take n ls) (l.line ∷ [])
    ∙ (ap (λ (ys : List Numbered). lines_of h (take n ls) ++ ys) (append_none (numbered l.line.number (call_on h l.line.what)))
    ∙ ap (λ (x : Statement). lines_of h (take n ls) ++ numbered x.line (call_on h x.what)) l.is))

-- a line on a handle is one of its lines
pub on_same : (h : ℕ) (call : Call) → call_on h (OnHandle h call) ≡ Some call
on_same h call = rw (eq-eqb h h refl) refl

pub on_other : (h j : ℕ) (call : Call) → h ≢ j → call_on j (OnHandle h call) ≡ None
on_other h j call apart = rw (ne_eqb h j apart) refl

pub lines_same : (ls : List Line) (n : ℕ) (s : Statement) (h : ℕ) (call : Call) → slice_get (statements_of ls) n ≡ Some s → s.what ≡ OnHandle h call →
    lines_of h (take (n + 1) ls) ≡ lines_of h (take n ls) ++ record { line = s.line; call = call } ∷ []
lines_same ls n s h call at is =
    lines_more ls n s h at ∙ (ap (λ w. lines_of h (take n ls) ++ numbered s.line (call_on h w)) is ∙ ap (λ o. lines_of h (take n ls) ++ numbered s.line o) (on_same h call))

pub lines_other : (ls : List Line) (n : ℕ) (s : Statement) (j : ℕ) → slice_get (statements_of ls) n ≡ Some s → call_on j s.what ≡ None → lines_of j (take (n + 1) ls) ≡ lines_of j (take n ls)
lines_other ls n s j at is = lines_more ls n s j at ∙ (ap (λ o. lines_of j (take n ls) ++ numbered s.line o) is ∙ append_none (lines_of j (take n ls)))

-- ---- how many

-- the lines on a handle among the first are no more than all
pub lines_few : (h : ℕ) (ls : List Line) (n : ℕ) → length (lines_of h (take n ls)) ≤ length (lines_of h ls)
lines_few h [] zero = omega arith
lines_few h [] (suc n) = omega arith
lines_few h (l ∷ ls) zero = omega arith
lines_few h (l ∷ ls) (suc n) =
    omega (arith, length-append (numbered l.number (call_on h l.what)) (lines_of h (take n ls)), length-append (numbered l.number (call_on h l.what)) (lines_of h ls), lines_few h ls n)

-- ---- raw lines

raw_end : (xs : List Line) (l : Line) → is_raw_at (xs ++ l ∷ []) (length xs) ≡ is_raw l.what
raw_end [] l = refl
raw_end (x ∷ xs) l = raw_end xs l

raw_before : (xs : List Line) (l : Line) (k : ℕ) → k ≢ length xs → is_raw_at (xs ++ l ∷ []) k ≡ is_raw_at xs k
raw_before [] l zero apart = absurd (apart refl)
raw_before [] l (suc k) apart = refl
raw_before (x ∷ xs) l zero apart = refl
raw_before (x ∷ xs) l (suc k) apart = raw_before xs l k (λ same. apart (ap suc same))

first_long : (ls : List Line) (n : ℕ) → n ≤ length ls → length (take n ls) ≡ n
first_long ls n within = length-take-le n ls within

pub raws_last : (ls : List Line) (n : ℕ) (s : Statement) → slice_get (statements_of ls) n ≡ Some s → is_raw_at (take (n + 1) ls) n ≡ is_raw s.what
raws_last ls n s is =
    let l : IsLine ls n s = line_of ls n s is in
    let long : length (take n ls) ≡ n = first_long ls n (omega (arith, line_within ls n s is)) in
    ap (λ xs. is_raw_at xs n) (take_line ls n s l)
    ∙ (ap (λ k. is_raw_at (take n ls ++ l.line ∷ []) k) (sym long) ∙ (raw_end (take n ls) l.line ∙ ap (λ (x : Statement). is_raw x.what) l.is))

pub raws_before : (ls : List Line) (n k : ℕ) (s : Statement) → slice_get (statements_of ls) n ≡ Some s → k ≢ n → is_raw_at (take (n + 1) ls) k ≡ is_raw_at (take n ls) k
raws_before ls n k s is apart =
    let l : IsLine ls n s = line_of ls n s is in
    let long : length (take n ls) ≡ n = first_long ls n (omega (arith, line_within ls n s is)) in
    ap (λ xs. is_raw_at xs k) (take_line ls n s l) ∙ raw_before (take n ls) l.line k (λ same. apart (same ∙ long))

-- a line that isn't raw
pub raws_same : (ls : List Line) (n k : ℕ) (s : Statement) → slice_get (statements_of ls) n ≡ Some s → is_raw s.what ≡ false → is_raw_at (take (n + 1) ls) k ≡ is_raw_at (take n ls) k
raws_same ls n k s is other = elim (cases_eq k n) as (λ _. is_raw_at (take (n + 1) ls) k ≡ is_raw_at (take n ls) k) [
  | inl same ↦ subst (λ j. is_raw_at (take (n + 1) ls) j ≡ is_raw_at (take n ls) j) (sym same)
      (raws_last ls n s is ∙ (other ∙ sym (past (take n ls) n (omega (arith, first_long ls n (omega (arith, line_within ls n s is)))))))
  | inr apart ↦ raws_before ls n k s is apart
]
  where
    past : (xs : List Line) (j : ℕ) → length xs ≤ j → is_raw_at xs j ≡ false
    past [] j few = refl
    past (x ∷ xs) zero few = absurd (omega (arith, few))
    past (x ∷ xs) (suc j) few = past xs j (omega (arith, few))
