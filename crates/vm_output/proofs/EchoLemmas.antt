-- Lemmas on the words of lines, where a name or a line is added.
use Rattle.std.proofs.Common.{◌≡◌, ℕ, ◌+◌, ◌<◌, Bool, true, false, List, [], ◌∷◌, ◌++◌, map, filter, cond, refl, ap, ◌∙◌, arith, take, length, get_or, set, eq-eqb, zero, suc}
use Rattle.std.proofs.lemmas.Bool.{ne_eqb}
use Rattle.std.proofs.lemmas.List.{map-append, append-nil, take_more}
use Rattle.std.proofs.lemmas.List.Elements.{filter-append}
use Rattle.vm_local.specs.declared.call.Call.{Call}
use Rattle.vm_script.specs.declared.line.Line.{Line}
use Rattle.vm_script.specs.declared.line.LineKind.{LineKind}
use Rattle.vm_script.specs.declared.line.LineKind.TheVariants.{OnHandle, Raw}
use Rattle.vm_script.specs.Lines.{is_on, echoes_of, echoes_from}
use Rattle.vm_output.specs.Echoes.{with_echo}

-- ---- one name more

names_push : (h : ℕ) (names : List (List ℕ)) (name : List ℕ) → echoes_from h (names ++ name ∷ []) [] ≡ echoes_from h names [] ++ [] ∷ []
names_push h [] name = refl
names_push h (n ∷ ns) name = ap (λ ws. [] ∷ ws) (names_push (h + 1) ns name)

pub names_more : (names : List (List ℕ)) (i : ℕ) → i < length names → echoes_from 0 (take (i + 1) names) [] ≡ echoes_from 0 (take i names) [] ++ [] ∷ []
names_more names i within = ap (λ ns. echoes_from 0 ns []) (take_more names i [] within) ∙ names_push 0 (take i names) (get_or names i [])

-- ---- one line more

on_one_more : (k : ℕ) (ls : List Line) (l : Line) (on : Bool) → is_on k l.what ≡ on → echoes_of k (ls ++ l ∷ []) ≡ echoes_of k ls ++ cond on (l.echo ∷ []) []
on_one_more k ls l on is =
    ap (λ kept. map (λ m. m.echo) kept) (filter-append (λ m. is_on k m.what) ls (l ∷ [])) ∙
    (map-append (λ m. m.echo) (filter (λ m. is_on k m.what) ls) (filter (λ m. is_on k m.what) (l ∷ [])) ∙
    ap (λ more. echoes_of k ls ++ more) (of_one on is))
  where
    of_one : (b : Bool) → is_on k l.what ≡ b → map (λ m. m.echo) (filter (λ m. is_on k m.what) (l ∷ [])) ≡ cond b (l.echo ∷ []) []
    of_one true e = rw e refl
    of_one false e = rw e refl

-- a line that is on no handle from this one on
none_more : (k : ℕ) (names : List (List ℕ)) (ls : List Line) (l : Line) → ((j : ℕ) → is_on (k + j) l.what ≡ false) → echoes_from k names (ls ++ l ∷ []) ≡ echoes_from k names ls
none_more k [] ls l other = refl
none_more k (n ∷ ns) ls l other =
    let first : echoes_of k (ls ++ l ∷ []) ≡ echoes_of k ls = on_one_more k ls l false (at_first k) ∙ append-nil (echoes_of k ls) in
    rw (first, none_more (k + 1) ns ls l (λ j. later j)) refl
  where
    at_first : (h : ℕ) → is_on k l.what ≡ false
    at_first h = let same : k ≡ k + 0 = omega arith in rw same (other 0)

    later : (j : ℕ) → is_on (k + 1 + j) l.what ≡ false
    later j = let same : k + 1 + j ≡ k + (j + 1) = omega arith in rw same (other (j + 1))

-- a line that is on the handle at this place from this one on
one_more : (k d : ℕ) (names : List (List ℕ)) (ls : List Line) (l : Line) (call : Call) → l.what ≡ OnHandle (k + d) call
    → echoes_from k names (ls ++ l ∷ []) ≡ set (echoes_from k names ls) d (get_or (echoes_from k names ls) d [] ++ l.echo ∷ [])
one_more k d [] ls l call is = refl
one_more k zero (n ∷ ns) ls l call is =
    let first : echoes_of k (ls ++ l ∷ []) ≡ echoes_of k ls ++ l.echo ∷ [] = on_one_more k ls l true (rw is (eq-eqb (k + 0) k (omega arith))) in
    rw (first, none_more (k + 1) ns ls l (λ j. rw is (ne_eqb (k + 0) (k + 1 + j) (omega arith)))) refl
one_more k (suc d) (n ∷ ns) ls l call is =
    let first : echoes_of k (ls ++ l ∷ []) ≡ echoes_of k ls = on_one_more k ls l false (rw is (ne_eqb (k + suc d) k (omega arith))) ∙ append-nil (echoes_of k ls) in
    let same : k + suc d ≡ k + 1 + d = omega arith in
    rw (first, one_more (k + 1) d ns ls l call (rw same at is)) refl

line_push : (names : List (List ℕ)) (ls : List Line) (l : Line) → echoes_from 0 names (ls ++ l ∷ []) ≡ with_echo (echoes_from 0 names ls) l.echo l.what
line_push names ls l = by_kind l.what refl
  where
    by_kind : (w : LineKind) → l.what ≡ w → echoes_from 0 names (ls ++ l ∷ []) ≡ with_echo (echoes_from 0 names ls) l.echo w
    by_kind (OnHandle h call) is = one_more 0 h names ls l call (let same : 0 + h ≡ h = omega arith in rw same is)
    by_kind (Raw chain) is = none_more 0 names ls l (λ j. rw is refl)

pub lines_more : (names : List (List ℕ)) (lines : List Line) (i : ℕ) (d : Line) → i < length lines
    → echoes_from 0 names (take (i + 1) lines) ≡ with_echo (echoes_from 0 names (take i lines)) (get_or lines i d).echo (get_or lines i d).what
lines_more names lines i d within = ap (λ ls. echoes_from 0 names ls) (take_more lines i d within) ∙ line_push names (take i lines) (get_or lines i d)

-- as many as there are names
pub length_echoes : (h : ℕ) (names : List (List ℕ)) (ls : List Line) → length (echoes_from h names ls) ≡ length names
length_echoes h [] ls = refl
length_echoes h (n ∷ ns) ls = ap (λ k. suc k) (length_echoes (h + 1) ns ls)
