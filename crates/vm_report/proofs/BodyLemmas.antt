-- How the text grows as logs grow at their end.
use Rattle.std.proofs.Common.{◌≡◌, ◌≤◌, ℕ, zero, suc, ◌+◌, ◌<◌, ◌==◌, Bool, true, false, ◌&&◌, ◌||◌, ◌⊎◌, inl, inr, List, [], ◌∷◌, ◌++◌, length, flat_map, subst, codes, refl, ap, sym, ◌∙◌, append_assoc, arith, eq-eqb, if◌then◌else◌}
use Rattle.std.specs.Fmt.{decimal}
use Rattle.std.specs.List.{range_with_len, list_any, AllByRecursion}
use Rattle.std.proofs.lemmas.Bool.{ne_eqb, cases_eq}
use Rattle.std.proofs.lemmas.List.{append-nil}
use Rattle.vm_local.specs.declared.call.Call.{Call}
use Rattle.vm_local.specs.declared.entry.Entry.{Entry}
use Rattle.vm_local.specs.declared.entry.Entry.TheVariants.{Called, Finish, Bad, Give}
use Rattle.vm_local.specs.declared.reply.Reply.{Reply}
use Rattle.vm_script.specs.Statements.{reads_as}
use Rattle.vm_report.specs.Logs.{HandleLog, RawLog}
use Rattle.vm_report.specs.Text.{is_kind_of, call_text, entries_text, handle_text, handles_text, raw_text, raw_lines_text, raws_text, reads, all_read}
use Rattle.vm_report.proofs.WordLemmas.{both}

-- ---- one part of many grows

flat_empty : (f : ℕ → List ℕ) (n m : ℕ) → ((q : ℕ) → n ≤ q → f q ≡ []) → flat_map f (range_with_len n m) ≡ []
flat_empty f n zero none = refl
flat_empty f n (suc m) none = rw (none n (omega arith), flat_empty f (n + 1) m (λ q h. none q (omega (arith, h)))) refl

flat_same : (f g : ℕ → List ℕ) (n m : ℕ) → ((q : ℕ) → n ≤ q → g q ≡ f q) → flat_map g (range_with_len n m) ≡ flat_map f (range_with_len n m)
flat_same f g n zero alike = refl
flat_same f g n (suc m) alike = rw (alike n (omega arith), flat_same f g (n + 1) m (λ q h. alike q (omega (arith, h)))) refl

-- one part gets more at its end, and there is nothing behind it
pub flat_grown : (f g : ℕ → List ℕ) (x : List ℕ) (p n m : ℕ) → n ≤ p → p < n + m → ((q : ℕ) → (q ≡ p → ⊥) → g q ≡ f q) → g p ≡ f p ++ x → ((q : ℕ) → p < q → f q ≡ [])
    → flat_map g (range_with_len n m) ≡ flat_map f (range_with_len n m) ++ x
flat_grown f g x p n zero low high other more none = absurd (omega (arith, low, high))
flat_grown f g x p n (suc m) low high other more none = by_case (cases_eq n p) (flat_grown f g x p (n + 1) m)
  where
    by_case : (n ≡ p) ⊎ (n ≡ p → ⊥)
        → (n + 1 ≤ p → p < n + 1 + m → ((q : ℕ) → (q ≡ p → ⊥) → g q ≡ f q) → g p ≡ f p ++ x → ((q : ℕ) → p < q → f q ≡ []) → flat_map g (range_with_len (n + 1) m) ≡ flat_map f (range_with_len (n + 1) m) ++ x)
        → g n ++ flat_map g (range_with_len (n + 1) m) ≡ (f n ++ flat_map f (range_with_len (n + 1) m)) ++ x
    by_case (inl is) later =
        let rest : flat_map f (range_with_len (n + 1) m) ≡ [] = flat_empty f (n + 1) m (λ q h. none q (omega (arith, h, is))) in
        let same : flat_map g (range_with_len (n + 1) m) ≡ flat_map f (range_with_len (n + 1) m) = flat_same f g (n + 1) m (λ q h. other q (λ e. omega (arith, h, is, e))) in
        let here : g n ≡ f n ++ x = subst (λ k. g k ≡ f k ++ x) (sym is) more in
        rw (same, rest, here, append-nil (f n ++ x), append-nil (f n)) refl
    by_case (inr apart) later =
        let rest = later (let l = low in grind (arith, apart)) (omega (arith, high)) other more none in
        rw (other n apart, rest) (sym (append_assoc (f n) (flat_map f (range_with_len (n + 1) m)) x))

-- ---- one more handle

abbrev pub AtMost : ℕ → List HandleLog → Type 0
AtMost p hs = AllByRecursion (λ h. h.process ≤ p) hs

abbrev pub RawsAtMost : ℕ → List RawLog → Type 0
RawsAtMost p rs = AllByRecursion (λ r. r.process ≤ p) rs

abbrev pub RawsBelow : ℕ → List RawLog → Type 0
RawsBelow p rs = AllByRecursion (λ r. r.process < p) rs

pub handles_snoc : (q : ℕ) (hs : List HandleLog) (h : HandleLog) (ws : List (List (List ℕ))) (es : List (List ℕ)) → length hs ≡ length ws
    → handles_text q (hs ++ h ∷ []) (ws ++ es ∷ []) ≡ handles_text q hs ws ++ (if h.process == q then handle_text h es else [])
handles_snoc q [] h [] es same = append-nil (if h.process == q then handle_text h es else [])
handles_snoc q [] h (w ∷ ws) es same = cc
handles_snoc q (k ∷ hs) h [] es same = cc
handles_snoc q (k ∷ hs) h (w ∷ ws) es same =
    ap (λ rest. (if k.process == q then handle_text k w else []) ++ rest) (handles_snoc q hs h ws es (omega (arith, same)))
    ∙ sym (append_assoc (if k.process == q then handle_text k w else []) (handles_text q hs ws) (if h.process == q then handle_text h es else []))

pub handles_none : (q p : ℕ) (hs : List HandleLog) (ws : List (List (List ℕ))) → AtMost p hs → p < q → handles_text q hs ws ≡ []
handles_none q p [] ws low h = refl
handles_none q p (k ∷ hs) [] low h = refl
handles_none q p (k ∷ hs) (w ∷ ws) low h =
    let first = low.0 in
    rw (ne_eqb k.process q (omega (arith, first, h)), handles_none q p hs ws low.1 h) refl

pub lines_snoc : (q : ℕ) (rs : List RawLog) (r : RawLog) (es : List (List ℕ)) (e : List ℕ) → length es ≡ length rs
    → raw_lines_text q (rs ++ r ∷ []) (es ++ e ∷ []) ≡ raw_lines_text q rs es ++ (if r.process == q then raw_text r e else [])
lines_snoc q [] r [] e same = append-nil (if r.process == q then raw_text r e else [])
lines_snoc q [] r (x ∷ es) e same = cc
lines_snoc q (k ∷ rs) r [] e same = cc
lines_snoc q (k ∷ rs) r (x ∷ es) e same =
    ap (λ rest. (if k.process == q then raw_text k x else []) ++ rest) (lines_snoc q rs r es e (omega (arith, same)))
    ∙ sym (append_assoc (if k.process == q then raw_text k x else []) (raw_lines_text q rs es) (if r.process == q then raw_text r e else []))

any_snoc : (q : ℕ) (rs : List RawLog) (r : RawLog) → list_any (λ k. k.process == q) (rs ++ r ∷ []) ≡ (list_any (λ k. k.process == q) rs || (r.process == q))
any_snoc q [] r = by_test (r.process == q)
  where
    by_test : (b : Bool) → (b || false) ≡ (false || b)
    by_test true = refl
    by_test false = refl
any_snoc q (k ∷ rs) r = rw (any_snoc q rs r) (by_test (k.process == q) (list_any (λ x. x.process == q) rs) (r.process == q))
  where
    by_test : (a b c : Bool) → (a || (b || c)) ≡ ((a || b) || c)
    by_test true b c = refl
    by_test false b c = refl

pub any_none : (q p : ℕ) (rs : List RawLog) → RawsBelow p rs → p ≤ q → list_any (λ k. k.process == q) rs ≡ false
any_none q p [] low h = refl
any_none q p (k ∷ rs) low h =
    let first = low.0 in
    rw (ne_eqb k.process q (omega (arith, first, h)), any_none q p rs low.1 h) refl

lines_none : (q : ℕ) (rs : List RawLog) (es : List (List ℕ)) → list_any (λ k. k.process == q) rs ≡ false → raw_lines_text q rs es ≡ []
lines_none q [] es none = refl
lines_none q (k ∷ rs) [] none = refl
lines_none q (k ∷ rs) (e ∷ es) none = by_test (k.process == q) none (lines_none q rs es)
  where
    by_test : (b : Bool) → (b || list_any (λ x. x.process == q) rs) ≡ false → (list_any (λ x. x.process == q) rs ≡ false → raw_lines_text q rs es ≡ []) → (if b then raw_text k e else []) ++ raw_lines_text q rs es ≡ []
    by_test true h rest = absurd (cc)
    by_test false h rest = rest h

abbrev pub raws_head : ℕ → List ℕ
raws_head p = codes "raws " ++ decimal p ++ codes "\n"

-- a process's raw lines with their head grow by one
pub raws_same : (q : ℕ) (rs : List RawLog) (r : RawLog) (es : List (List ℕ)) (e : List ℕ) → length es ≡ length rs → (q ≡ r.process → ⊥) → raws_text q (rs ++ r ∷ []) (es ++ e ∷ []) ≡ raws_text q rs es
raws_same q rs r es e same other =
    let not_it : (r.process == q) ≡ false = ne_eqb r.process q (λ h. other (sym h)) in
    let lines : raw_lines_text q (rs ++ r ∷ []) (es ++ e ∷ []) ≡ raw_lines_text q rs es =
    lines_snoc q rs r es e same ∙ rw not_it (append-nil (raw_lines_text q rs es)) in
    let any : list_any (λ k. k.process == q) (rs ++ r ∷ []) ≡ list_any (λ k. k.process == q) rs =
    any_snoc q rs r ∙ rw not_it (by_test (list_any (λ k. k.process == q) rs)) in
    rw (any, lines) refl
  where
    by_test : (a : Bool) → (a || false) ≡ a
    by_test true = refl
    by_test false = refl

pub raws_first : (rs : List RawLog) (r : RawLog) (es : List (List ℕ)) (e : List ℕ) → length es ≡ length rs → list_any (λ k. k.process == r.process) rs ≡ false
    → raws_text r.process (rs ++ r ∷ []) (es ++ e ∷ []) ≡ raws_text r.process rs es ++ (raws_head r.process ++ raw_text r e)
raws_first rs r es e same none =
    let lines : raw_lines_text r.process (rs ++ r ∷ []) (es ++ e ∷ []) ≡ raw_text r e =
    lines_snoc r.process rs r es e same ∙ rw (lines_none r.process rs es none, eq-eqb r.process r.process refl) refl in
    let any : list_any (λ k. k.process == r.process) (rs ++ r ∷ []) ≡ true =
    any_snoc r.process rs r ∙ rw (none, eq-eqb r.process r.process refl) refl in
    rw (any, none, lines) (simp append_assoc)

pub raws_next : (rs : List RawLog) (r : RawLog) (es : List (List ℕ)) (e : List ℕ) → length es ≡ length rs → list_any (λ k. k.process == r.process) rs ≡ true
    → raws_text r.process (rs ++ r ∷ []) (es ++ e ∷ []) ≡ raws_text r.process rs es ++ raw_text r e
raws_next rs r es e same some =
    let lines : raw_lines_text r.process (rs ++ r ∷ []) (es ++ e ∷ []) ≡ raw_lines_text r.process rs es ++ raw_text r e =
    lines_snoc r.process rs r es e same ∙ rw (eq-eqb r.process r.process refl) refl in
    let any : list_any (λ k. k.process == r.process) (rs ++ r ∷ []) ≡ true =
    any_snoc r.process rs r ∙ rw some refl in
    rw (any, some, lines) (sym (append_assoc (codes "raws " ++ decimal r.process ++ codes "\n") (raw_lines_text r.process rs es) (raw_text r e)))

-- ---- logs

pub lengths : (hs : List HandleLog) (ws : List (List (List ℕ))) → all_read hs ws ≡ true → length hs ≡ length ws
lengths [] [] h = refl
lengths [] (w ∷ ws) h = absurd (cc)
lengths (k ∷ hs) [] h = absurd (cc)
lengths (k ∷ hs) (w ∷ ws) h = ap (λ n. suc n) (lengths hs ws (both (reads k.name k.entries w) (all_read hs ws) h).1)

pub all_read_snoc : (hs : List HandleLog) (h : HandleLog) (ws : List (List (List ℕ))) (es : List (List ℕ)) → all_read hs ws ≡ true → reads h.name h.entries es ≡ true → all_read (hs ++ h ∷ []) (ws ++ es ∷ []) ≡ true
all_read_snoc [] h [] es all one = rw one refl
all_read_snoc [] h (w ∷ ws) es all one = absurd (cc)
all_read_snoc (k ∷ hs) h [] es all one = absurd (cc)
all_read_snoc (k ∷ hs) h (w ∷ ws) es all one =
    let parted = both (reads k.name k.entries w) (all_read hs ws) all in
    rw (parted.0, all_read_snoc hs h ws es parted.1 one) refl

-- the step of a device, as it is printed
abbrev pub step_text : Entry → List ℕ
step_text Finish = codes "+ finish\n"
step_text Bad = codes "+ bad\n"
step_text Give = codes "+ give\n"
step_text (Called line call reply) = []

abbrev pub is_step : Entry → Bool
is_step (Called line call reply) = false
is_step e = true

pub step_grows : (name : List ℕ) (es : List Entry) (e : Entry) (ws : List (List ℕ)) → is_step e ≡ true → reads name es ws ≡ true
    → (entries_text (es ++ e ∷ []) ws ≡ entries_text es ws ++ step_text e) × (reads name (es ++ e ∷ []) ws ≡ true)
step_grows name [] (Called line call reply) ws step h = absurd (cc)
step_grows name [] Finish [] step h = (refl, refl)
step_grows name [] Bad [] step h = (refl, refl)
step_grows name [] Give [] step h = (refl, refl)
step_grows name [] e (w ∷ ws) step h = absurd (cc)
step_grows name (Called line call reply ∷ es) e [] step h = absurd (cc)
step_grows name (Called line call reply ∷ es) e (w ∷ ws) step h =
    let parted = both (reads_as w name call && is_kind_of call reply) (reads name es ws) h in
    let rest = step_grows name es e ws step parted.1 in
    (rw rest.0 (sym (append_assoc (call_text line w reply) (entries_text es ws) (step_text e))), rw (parted.0, rest.1) refl)
step_grows name (Finish ∷ es) e ws step h = let rest = step_grows name es e ws step h in (ap (λ x. codes "+ finish\n" ++ x) rest.0, rest.1)
step_grows name (Bad ∷ es) e ws step h = let rest = step_grows name es e ws step h in (ap (λ x. codes "+ bad\n" ++ x) rest.0, rest.1)
step_grows name (Give ∷ es) e ws step h = let rest = step_grows name es e ws step h in (ap (λ x. codes "+ give\n" ++ x) rest.0, rest.1)

pub call_grows : (name : List ℕ) (es : List Entry) (line : ℕ) (call : Call) (reply : Reply) (ws : List (List ℕ)) (w : List ℕ) → reads_as w name call ≡ true → is_kind_of call reply ≡ true → reads name es ws ≡ true
    → (entries_text (es ++ Called line call reply ∷ []) (ws ++ w ∷ []) ≡ entries_text es ws ++ call_text line w reply) × (reads name (es ++ Called line call reply ∷ []) (ws ++ w ∷ []) ≡ true)
call_grows name [] line call reply [] w reading kind h = (append-nil (call_text line w reply), rw (reading, kind) refl)
call_grows name [] line call reply (v ∷ ws) w reading kind h = absurd (cc)
call_grows name (Called other asks told ∷ es) line call reply [] w reading kind h = absurd (cc)
call_grows name (Called other asks told ∷ es) line call reply (v ∷ ws) w reading kind h =
    let parted = both (reads_as v name asks && is_kind_of asks told) (reads name es ws) h in
    let rest = call_grows name es line call reply ws w reading kind parted.1 in
    (rw rest.0 (sym (append_assoc (call_text other v told) (entries_text es ws) (call_text line w reply))), rw (parted.0, rest.1) refl)
call_grows name (Finish ∷ es) line call reply ws w reading kind h = let rest = call_grows name es line call reply ws w reading kind h in (ap (λ x. codes "+ finish\n" ++ x) rest.0, rest.1)
call_grows name (Bad ∷ es) line call reply ws w reading kind h = let rest = call_grows name es line call reply ws w reading kind h in (ap (λ x. codes "+ bad\n" ++ x) rest.0, rest.1)
call_grows name (Give ∷ es) line call reply ws w reading kind h = let rest = call_grows name es line call reply ws w reading kind h in (ap (λ x. codes "+ give\n" ++ x) rest.0, rest.1)
