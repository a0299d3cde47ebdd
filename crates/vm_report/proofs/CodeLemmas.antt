-- Facts on which the reader's code stands.
use Rattle.std.proofs.Common.{◌≡◌, ℕ, ◌+◌, ◌<◌, ◌≤◌, Bool, true, false, ◌&&◌, List, [], ◌∷◌, length, length-drop, take, drop, ◌-◌, map, get_or, codes, Bor, refl, ap, sym, ◌∙◌, subst, arith, Option, Some, None, Result, Ok, Err, if◌then◌else◌}
use Rattle.std.specs.Prelude.{IfSome, MatchResult, IsOk}
use Rattle.std.specs.List.{list_all}
use Rattle.std.specs.Option.{option_and_then}
use Rattle.std.specs.Str.{bytes_eq}
use Rattle.std.proofs.lemmas.List.{drop_more, drop_all, take_all, take-map, drop-map}
use Rattle.hex.specs.Hex.{encode_lower, decode_sized}
use Rattle.hex.specs.declared.error.FromHexError.{FromHexError}
use Rattle.vm_report.specs.declared.draft.Draft.{Draft}
use Rattle.vm_report.specs.declared.tells.Tells.{Tells}
use Rattle.vm_report.specs.declared.tells.Tells.TheVariants as Kinds
use Rattle.vm_report.specs.Reading.{Reads, exact_bytes, later, last_equals, told, is_word, reply_at, with_answer, with_line, with_lines, Gives, nothing, finished, read}
use Rattle.vm_report.specs.declared.errors.LogsError.{LogsError}
use Rattle.vm_report.specs.declared.errors.LogsError.TheVariants.{NotPrinted, Memory}
use Rattle.vm_script.specs.Words.{lines_in}

-- ---- the last equals sign

-- in a loop over the words: the place of the last so far, or of that among the words from this place on
abbrev pub joined_at : ℕ → Option ℕ → Option ℕ → Option ℕ
joined_at i so_far None = so_far
joined_at i so_far (Some k) = Some (i + k)

joined_later : (i : ℕ) (so_far o : Option ℕ) (here : Bool) → joined_at i so_far (later o here) ≡ joined_at (i + 1) (if here then Some i else so_far) o
joined_later i so_far (Some k) here = ap Some (let e : i + (k + 1) ≡ i + 1 + k = omega arith in e)
joined_later i so_far None true = ap Some (let e : i + 0 ≡ i = omega arith in e)
joined_later i so_far None false = refl

pub equals_step : (ws : List (Bor (List ℕ))) (i : ℕ) (d : Bor (List ℕ)) (so_far : Option ℕ) → i < length ws
    → joined_at i so_far (last_equals (map (λ w. w.now) (drop i ws))) ≡ joined_at (i + 1) (if bytes_eq (get_or ws i d).now (codes "=") then Some i else so_far) (last_equals (map (λ w. w.now) (drop (i + 1) ws)))
equals_step ws i d so_far within =
    rw (drop_more ws i d within) (joined_later i so_far (last_equals (map (λ w. w.now) (drop (i + 1) ws))) (bytes_eq (get_or ws i d).now (codes "=")))

-- ---- words

-- one word more
pub words_step : (ws : List (Bor (List ℕ))) (i : ℕ) (d : Bor (List ℕ)) → i < length ws → list_all is_word (map (λ w. w.now) (drop i ws)) ≡ (is_word (get_or ws i d).now && list_all is_word (map (λ w. w.now) (drop (i + 1) ws)))
words_step ws i d within = rw (drop_more ws i d within) refl

pub within_at : (o : Option ℕ) (n at : ℕ) → IfSome o (λ k. k < n) → o ≡ Some at → at < n
within_at o n at within is = let P : Option ℕ → Type 0 = λ x. IfSome x (λ k. k < n) in subst P is within

-- the words of a call and those of its reply
pub answer_step : (d : Draft) (line : List ℕ) (ws : List (Bor (List ℕ))) (at : ℕ) → at < length ws → last_equals (map (λ w. w.now) ws) ≡ Some at
    → with_answer d line (map (λ w. w.now) ws) ≡ reply_at d.logs d.place line (map (λ w. w.now) (take at ws)) (map (λ w. w.now) (take (length ws - (at + 1)) (drop (at + 1) ws)))
answer_step d line ws at within is =
    let shown : Bor (List ℕ) → List ℕ = λ w. w.now in
    let rest : take (length ws - (at + 1)) (drop (at + 1) ws) ≡ drop (at + 1) ws = take_all (length ws - (at + 1)) (drop (at + 1) ws) (let n = length-drop (at + 1) ws in omega (arith, n)) in
    rw (is, rest, take-map shown at ws, drop-map shown (at + 1) ws) refl

-- ---- digits

pub reads_decoded : (n : ℕ) (word out : List ℕ) (r : Result (Unit {0}) FromHexError) (d : Result (List ℕ) FromHexError) (same : Bool)
    → decode_sized word n ≡ d → MatchResult d (λ bytes. (r ≡ Ok tt) × (out ≡ bytes)) (λ e. r ≡ Err e) → IsOk r → same ≡ bytes_eq (encode_lower out) word → Reads (exact_bytes word d) same out
reads_decoded n word out r (Err e) same f m ok is = absurd (let h : r ≡ Err e = m in cc)
reads_decoded n word out r (Ok xs) same f m ok is = by_test (bytes_eq (encode_lower xs) word) refl
  where
    by_test : (test : Bool) → bytes_eq (encode_lower xs) word ≡ test → Reads (if test then Some xs else None) same out
    by_test true e = (is ∙ ap (λ x. bytes_eq (encode_lower x) word) m.1 ∙ e, m.1)
    by_test false e = is ∙ ap (λ x. bytes_eq (encode_lower x) word) m.1 ∙ e

-- ---- replies

told_three : (kind : Tells) (a b c : List ℕ) → told kind (a ∷ b ∷ c ∷ []) ≡ None
told_three Kinds.Nothing a b c = refl
told_three Kinds.Caps a b c = refl
told_three Kinds.Code a b c = refl
told_three Kinds.Format a b c = refl
told_three Kinds.InputName a b c = refl
told_three Kinds.InputIs a b c = refl
told_three Kinds.Count a b c = refl
told_three Kinds.Buf a b c = refl
told_three Kinds.Pages a b c = refl
told_three Kinds.Frame a b c = refl
told_three Kinds.Mapping a b c = refl
told_three Kinds.Bytes a b c = refl
told_three Kinds.Digest a b c = refl
told_three Kinds.Event a b c = refl

told_many : (kind : Tells) (a b c d e f : List ℕ) (words : List (List ℕ)) → told kind (a ∷ b ∷ c ∷ d ∷ e ∷ f ∷ words) ≡ None
told_many Kinds.Nothing a b c d e f words = refl
told_many Kinds.Caps a b c d e f words = refl
told_many Kinds.Code a b c d e f words = refl
told_many Kinds.Format a b c d e f words = refl
told_many Kinds.InputName a b c d e f words = refl
told_many Kinds.InputIs a b c d e f words = refl
told_many Kinds.Count a b c d e f words = refl
told_many Kinds.Buf a b c d e f words = refl
told_many Kinds.Pages a b c d e f words = refl
told_many Kinds.Frame a b c d e f words = refl
told_many Kinds.Mapping a b c d e f words = refl
told_many Kinds.Bytes a b c d e f words = refl
told_many Kinds.Digest a b c d e f words = refl
told_many Kinds.Event a b c d e f words = refl

-- three words tell nothing, nor do more than five
pub told_three_words : (kind : Tells) (ws : List (Bor (List ℕ))) → length ws ≡ 3 → told kind (map (λ w. w.now) ws) ≡ None
told_three_words kind [] h = absurd (omega (arith, h))
told_three_words kind (a ∷ []) h = absurd (omega (arith, h))
told_three_words kind (a ∷ b ∷ []) h = absurd (omega (arith, h))
told_three_words kind (a ∷ b ∷ c ∷ []) h = told_three kind a.now b.now c.now
told_three_words kind (a ∷ b ∷ c ∷ d ∷ ws) h = absurd (omega (arith, h))

pub told_many_words : (kind : Tells) (ws : List (Bor (List ℕ))) → 6 ≤ length ws → told kind (map (λ w. w.now) ws) ≡ None
told_many_words kind [] h = absurd (omega (arith, h))
told_many_words kind (a ∷ []) h = absurd (omega (arith, h))
told_many_words kind (a ∷ b ∷ []) h = absurd (omega (arith, h))
told_many_words kind (a ∷ b ∷ c ∷ []) h = absurd (omega (arith, h))
told_many_words kind (a ∷ b ∷ c ∷ d ∷ []) h = absurd (omega (arith, h))
told_many_words kind (a ∷ b ∷ c ∷ d ∷ e ∷ []) h = absurd (omega (arith, h))
told_many_words kind (a ∷ b ∷ c ∷ d ∷ e ∷ f ∷ ws) h = told_many kind a.now b.now c.now d.now e.now f.now (map (λ w. w.now) ws)

-- ---- lines

next_lines : (lines : List (List ℕ)) (n : ℕ) (line : List ℕ) → n < length lines → line ≡ get_or lines n line → drop n lines ≡ line ∷ drop (n + 1) lines
next_lines lines n line h e = drop_more lines n line h ∙ ap (λ x. x ∷ drop (n + 1) lines) (sym e)

-- one line more is read
pub lines_more : (d e : Draft) (n : ℕ) (lines : List (List ℕ)) (line : List ℕ) (all : Option Draft) → n < length lines → line ≡ get_or lines n line → with_line d line ≡ Some e → with_lines d (drop n lines) ≡ all → with_lines e (drop (n + 1) lines) ≡ all
lines_more d e n lines line all h at is g =
    let again : with_lines d (line ∷ drop (n + 1) lines) ≡ all = ap (with_lines d) (sym (next_lines lines n line h at)) ∙ g in
    sym (ap (option_and_then (λ x. with_lines x (drop (n + 1) lines))) is) ∙ again

-- one line isn't printed
pub lines_fault : (d : Draft) (n : ℕ) (lines : List (List ℕ)) (line : List ℕ) (all : Option Draft) → n < length lines → line ≡ get_or lines n line → with_line d line ≡ None → with_lines d (drop n lines) ≡ all → all ≡ None
lines_fault d n lines line all h at is g =
    let again : with_lines d (line ∷ drop (n + 1) lines) ≡ all = ap (with_lines d) (sym (next_lines lines n line h at)) ∙ g in
    sym again ∙ ap (option_and_then (λ x. with_lines x (drop (n + 1) lines))) is

-- all lines are read
pub lines_all : (d : Draft) (n : ℕ) (lines : List (List ℕ)) (all : Option Draft) → length lines ≤ n → with_lines d (drop n lines) ≡ all → all ≡ Some d
lines_all d n lines all h g = sym g ∙ ap (with_lines d) (drop_all n lines h)

-- where a line isn't printed, nothing is read
pub gives_fault : (d : Draft) (n : ℕ) (text line : List ℕ) (e : LogsError) → n < length (lines_in text) → line ≡ get_or (lines_in text) n line → Gives (with_line d line) (Err e) → with_lines d (drop n (lines_in text)) ≡ with_lines nothing (lines_in text) → Gives (read text) (Err e)
gives_fault d n text line NotPrinted h at is g = ap (option_and_then finished) (lines_fault d n (lines_in text) line _ h at is g)
gives_fault d n text line Memory h at is g = tt

pub gives_end : (d : Draft) (n : ℕ) (text : List ℕ) → length (lines_in text) ≤ n → with_lines d (drop n (lines_in text)) ≡ with_lines nothing (lines_in text) → read text ≡ finished d
gives_end d n text h g = ap (option_and_then finished) (lines_all d n (lines_in text) _ h g)
