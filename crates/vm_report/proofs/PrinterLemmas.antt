-- What is printed of lent logs is printed of them, as each part of it is.
use Rattle.std.proofs.Common.{◌≡◌, ◌<◌, ℕ, suc, Bool, true, false, eq-eqb, List, [], ◌∷◌, ◌++◌, length, map, flat_map, codes, refl, ap, subst, sym, ◌∙◌, ◌+◌, ◌&&◌, append_assoc, drop, get_or, arith, inl, inr}
use Rattle.std.specs.Prelude.{◌==◌, ◌||◌}
use Rattle.std.specs.List.{AllByRecursion, list_any, range_with_len}
use Rattle.std.proofs.lemmas.Bool.{cases_lt}
use Rattle.std.proofs.lemmas.Grind.{common_steps, flat_map-append}
use Rattle.std.proofs.lemmas.List.{append-nil, drop_more, length-drop}
use Rattle.std.proofs.lemmas.List.Folds.{flat_map-map}
use Rattle.std.proofs.lemmas.List.FromFn.{map-range_with_len_more}
use Rattle.hex.specs.Hex.{encode_lower}
use Rattle.vm_script.specs.Grammar.{reads_as}
use Rattle.vm_script.specs.Reading.{Fits32}
use Rattle.vm_local.specs.declared.call.Call.{Call}
use Rattle.vm_local.specs.declared.entry.Entry.{Entry}
use Rattle.vm_local.specs.declared.entry.Entry.TheVariants.{Called}
use Rattle.vm_local.specs.declared.reply.Reply.{Reply}
use Rattle.vm_report.specs.declared.lent.HandleText.{HandleText}
use Rattle.vm_report.specs.declared.lent.RawText.{RawText}
use Rattle.vm_report.specs.declared.lent.LogsText.{LogsText}
use Rattle.vm_report.specs.Lent.{CanPrint, CanPrintHandle, CanPrintRaw, IsLettered, log_in, echoes_in, raw_log_in, raw_echo_in, logs_lent, words_lent}
use Rattle.vm_script.specs.Words.{IsEcho}
use Rattle.vm_report.specs.Printed.{AreRawWords, FitsEntry, FitsHandle, FitsJournal, FitsRaw, IsDigest, IsPrintedWith}
use Rattle.vm_report.specs.Printing.{NumbersFit, own_text}
use Rattle.vm_report.specs.Text.{all_read, call_text, entries_text, is_kind_of, journal_line, reads, text_of}

-- ---- handles

all_reads : (hs : List HandleText) → AllByRecursion CanPrintHandle hs → all_read (map log_in hs) (map echoes_in hs) ≡ true
all_reads [] can = refl
all_reads (h ∷ hs) can = rw (can.0.reads, all_reads hs can.1) refl

all_echoes : (hs : List HandleText) → AllByRecursion CanPrintHandle hs → AllByRecursion (AllByRecursion IsEcho) (map echoes_in hs)
all_echoes [] can = tt
all_echoes (h ∷ hs) can = (can.0.echoes, all_echoes hs can.1)

all_fit : (hs : List HandleText) → AllByRecursion CanPrintHandle hs → AllByRecursion (λ h. h.process < 16 → NumbersFit h) hs → AllByRecursion FitsHandle (map log_in hs)
all_fit [] can fits = tt
all_fit (h ∷ hs) can fits =
    let numbers : NumbersFit h = fits.0 can.0.process in
    (record { process = can.0.process; name = can.0.name; session = numbers.session; entries = numbers.entries }, all_fit hs can.1 fits.1)

-- ---- raw lines

as_many : (rs : List RawText) → length (map raw_echo_in rs) ≡ length (map raw_log_in rs)
as_many [] = refl
as_many (r ∷ rs) = ap (λ k. suc k) (as_many rs)

raw_echoes : (rs : List RawText) → AllByRecursion CanPrintRaw rs → AllByRecursion IsEcho (map raw_echo_in rs)
raw_echoes [] can = tt
raw_echoes (r ∷ rs) can = (can.0.echo, raw_echoes rs can.1)

raw_chains : (rs : List RawText) → AllByRecursion CanPrintRaw rs → AreRawWords (map raw_echo_in rs) (map raw_log_in rs)
raw_chains [] can = tt
raw_chains (r ∷ rs) can = (can.0.reads, raw_chains rs can.1)

raws_fit : (rs : List RawText) → AllByRecursion CanPrintRaw rs → AllByRecursion (λ r. r.process < 16 → Fits32 r.line) rs → AllByRecursion FitsRaw (map raw_log_in rs)
raws_fit [] can fits = tt
raws_fit (r ∷ rs) can fits = (record { process = can.0.process; line = fits.0 can.0.process }, raws_fit rs can.1 fits.1)

-- one of them is of this process
pub any_own : (process : ℕ) (rs : List RawText) → list_any (λ r. r.process == process) (map raw_log_in rs) ≡ list_any (λ r. r.process == process) rs
any_own process [] = refl
any_own process (r ∷ rs) = ap (λ b. (r.process == process) || b) (any_own process rs)

-- none of them is of this process
pub none_own : (process : ℕ) (rs : List RawText) → list_any (λ r. r.process == process) (map raw_log_in rs) ≡ false → AllByRecursion (λ r. r.process ≡ process → Fits32 r.line) rs
none_own process [] none = tt
none_own process (r ∷ rs) none = by_test (r.process == process) refl none (λ others. none_own process rs others)
  where
    by_test : (b : Bool) → (r.process == process) ≡ b → (b || list_any (λ k. k.process == process) (map raw_log_in rs)) ≡ false
        → (list_any (λ k. k.process == process) (map raw_log_in rs) ≡ false → AllByRecursion (λ k. k.process ≡ process → Fits32 k.line) rs)
        → (r.process ≡ process → Fits32 r.line) × AllByRecursion (λ k. k.process ≡ process → Fits32 k.line) rs
    by_test true at none' rest = cc
    by_test false at none' rest = ((λ same. (let is = eq-eqb r.process process same in cc)), rest none')

-- ---- an entry of a log

read_first : (a b c : Bool) → (a && b && c) ≡ true → c ≡ true
read_first true true true is = refl
read_first true true false is = is
read_first true false c is = cc
read_first false b c is = cc

-- the words of the calls behind one
called_reads : (name : List ℕ) (line : ℕ) (call : Call) (reply : Reply) (es : List Entry) (w : List ℕ) (ws : List (List ℕ)) → reads name (Called line call reply ∷ es) (w ∷ ws) ≡ true
    → reads name es ws ≡ true
called_reads name line call reply es w ws is = read_first (reads_as w name call) (is_kind_of call reply) (reads name es ws) is

-- a call has words
some_words : {A : Type 0} (f : A → List ℕ) (name : List ℕ) (line : ℕ) (call : Call) (reply : Reply) (es : List Entry) (xs : List A)
    → reads name (Called line call reply ∷ es) (map f xs) ≡ true → 0 < length xs
some_words f name line call reply es [] is = cc
some_words f name line call reply es (x ∷ xs) is = omega arith

-- What follows a call, where these words were the next ones: the rest is printed, has words, and fits with it.
pub record Follows (whole text name : List ℕ) (rest : List Entry) (ws : List (List ℕ)) : Type 0 where
  pub printed : whole ≡ text ++ entries_text rest ws
  pub words : reads name rest ws ≡ true

pub behind_call : {A : Type 0} (f : A → List ℕ) (whole text next name : List ℕ) (line : ℕ) (call : Call) (reply : Reply) (left rest : List Entry) (k : ℕ) (xs : List A) (x : A)
    → whole ≡ text ++ entries_text left (map f (drop k xs)) → reads name left (map f (drop k xs)) ≡ true → left ≡ Called line call reply ∷ rest → x ≡ get_or xs k x
    → next ≡ text ++ call_text line (f x) reply → Follows whole next name rest (map f (drop (k + 1) xs))
behind_call f whole text next name line call reply left rest k xs x before words is at now =
    let P : List Entry → Type 0 = λ es. reads name es (map f (drop k xs)) ≡ true in
    let Q : List (List ℕ) → Type 0 = λ ys. reads name (Called line call reply ∷ rest) ys ≡ true in
    let called : reads name (Called line call reply ∷ rest) (map f (drop k xs)) ≡ true = subst P is words in
    let some : 0 < length (drop k xs) = some_words f name line call reply rest (drop k xs) called in
    let within : k < length xs = omega (arith, some, length-drop k xs) in
    let first : map f (drop k xs) ≡ f x ∷ map f (drop (k + 1) xs) = ap (λ ys. map f ys) (drop_more xs k x within ∙ ap (λ y. y ∷ drop (k + 1) xs) (sym at)) in
    let later : List ℕ = entries_text rest (map f (drop (k + 1) xs)) in
    record {
      printed = before ∙ (ap (λ es. text ++ entries_text es (map f (drop k xs))) is ∙ (ap (λ ys. text ++ entries_text (Called line call reply ∷ rest) ys) first ∙
          (sym (append_assoc text (call_text line (f x) reply) later) ∙ ap (λ y. y ++ later) (sym now))));
      words = called_reads name line call reply rest (f x) (map f (drop (k + 1) xs)) (subst Q first called);
    }

-- the same behind a step, which takes no words
pub behind_step : (whole text next name word : List ℕ) (e : Entry) (left rest : List Entry) (ws : List (List ℕ)) → whole ≡ text ++ entries_text left ws → reads name left ws ≡ true
    → left ≡ e ∷ rest → next ≡ text ++ word → entries_text (e ∷ rest) ws ≡ word ++ entries_text rest ws → reads name (e ∷ rest) ws ≡ reads name rest ws → Follows whole next name rest ws
behind_step whole text next name word e left rest ws before words is now line same =
    let P : List Entry → Type 0 = λ es. reads name es ws ≡ true in
    record {
      printed = before ∙ (ap (λ es. text ++ entries_text es ws) is ∙ (ap (λ x. text ++ x) line ∙ (sym (append_assoc text word (entries_text rest ws)) ∙ ap (λ x. x ++ entries_text rest ws) (sym now))));
      words = sym same ∙ subst P is words;
    }

-- the letters and the ranges behind an entry
pub behind_letters : (left rest : List Entry) (e : Entry) → left ≡ e ∷ rest → AllByRecursion IsLettered left → AllByRecursion IsLettered rest
behind_letters left rest e is all = let P : List Entry → Type 0 = λ es. AllByRecursion IsLettered es in (subst P is all).1

pub behind_fits : (all left rest : List Entry) (e : Entry) → left ≡ e ∷ rest → FitsEntry e → (AllByRecursion FitsEntry left → AllByRecursion FitsEntry all)
    → AllByRecursion FitsEntry rest → AllByRecursion FitsEntry all
behind_fits all left rest e is here before later = let P : List Entry → Type 0 = λ es. AllByRecursion FitsEntry es in before (subst P (sym is) (here, later))

-- ---- the whole

pub printed_whole : (l : LogsText) (text : List ℕ) → CanPrint l → text ≡ text_of (logs_lent l) (words_lent l)
    → AllByRecursion (λ h. h.process < 16 → NumbersFit h) l.handles.now → AllByRecursion (λ r. r.process < 16 → Fits32 r.line) l.raws.now
    → AllByRecursion FitsJournal l.journal.now → IsDigest l.wire.now → IsPrintedWith (words_lent l) text (logs_lent l)
printed_whole l text can is handles raws journal wire = record {
  prints = (all_reads l.handles.now can.handles, as_many l.raws.now, is);
  echoes = all_echoes l.handles.now can.handles;
  raw_echoes = raw_echoes l.raws.now can.raws;
  chains = raw_chains l.raws.now can.raws;
  handles = all_fit l.handles.now can.handles handles;
  raws = raws_fit l.raws.now can.raws raws;
  journal = journal;
  wire = wire;
  handles_rise = can.handles_rise;
  raws_rise = can.raws_rise;
}

-- the text in its three parts
pub three_parts : (l : LogsText) (first second text : List ℕ) → first ≡ flat_map (own_text l.handles.now l.raws.now) (range_with_len 0 16)
    → second ≡ first ++ codes "region\n" ++ flat_map journal_line l.journal.now → text ≡ second ++ codes "wire " ++ encode_lower l.wire.now ++ codes "\n"
    → text ≡ text_of (logs_lent l) (words_lent l)
three_parts l first second text one two three = rw (three, two, one) (grind (arith, common_steps))

-- ---- one item more

-- those of the processes so far, and those of the next one
pub next_process : {A : Type 0} (P : A → Type 0) (of_a : A → ℕ) (k : ℕ) (xs : List A) → AllByRecursion (λ x. of_a x < k → P x) xs
    → AllByRecursion (λ x. of_a x ≡ k → P x) xs → AllByRecursion (λ x. of_a x < k + 1 → P x) xs
next_process P of_a k [] before now = tt
next_process P of_a k (x ∷ xs) before now =
    ((λ below. by_case (of_a x) k below before.0 now.0), next_process P of_a k xs before.1 now.1)
  where
    by_case : (n m : ℕ) → n < m + 1 → (n < m → P x) → (n ≡ m → P x) → P x
    by_case n m below less same = elim (cases_lt n m) as (λ o. P x) [ inl is ↦ less is | inr not ↦ same (omega (arith, below, not)) ]

pub no_process_yet : {A : Type 0} (P : A → Type 0) (of_a : A → ℕ) (xs : List A) → AllByRecursion (λ x. of_a x < 0 → P x) xs
no_process_yet P of_a [] = tt
no_process_yet P of_a (x ∷ xs) = ((λ below. absurd (omega (arith, below))), no_process_yet P of_a xs)

range_push : (f : ℕ → List ℕ) (n : ℕ) → flat_map f (range_with_len 0 (n + 1)) ≡ flat_map f (range_with_len 0 n) ++ f n
range_push f n =
    let same : List ℕ → List ℕ = λ x. x in
    let before : flat_map same (map f (range_with_len 0 n)) ≡ flat_map f (range_with_len 0 n) = flat_map-map same f (range_with_len 0 n) in
    sym (flat_map-map same f (range_with_len 0 (n + 1))) ∙ (ap (λ ys. flat_map same ys) (map-range_with_len_more f 0 n n (omega arith)) ∙
    (flat_map-append same (map f (range_with_len 0 n)) (f n ∷ []) ∙ (ap (λ x. x ++ (f n ++ [])) before ∙
    ap (λ x. flat_map f (range_with_len 0 n) ++ x) (append-nil (f n)))))

-- the text with the next process's handles and raw lines
pub text_more : (f : ℕ → List ℕ) (n : ℕ) (old now middle next x y : List ℕ) → now ≡ old ++ flat_map f (range_with_len 0 n) → middle ≡ now ++ x → next ≡ middle ++ y → f n ≡ x ++ y
    → next ≡ old ++ flat_map f (range_with_len 0 (n + 1))
text_more f n old now middle next x y first second third whole = rw (third, second, first, range_push f n, whole) (grind (arith, common_steps))
