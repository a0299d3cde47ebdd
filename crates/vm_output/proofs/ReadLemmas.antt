-- The logs of a driver can be printed in its script's words.
use Rattle.std.proofs.Common.{◌≡◌, ℕ, ◌+◌, ◌<◌, ◌==◌, Bool, true, false, ◌&&◌, List, [], ◌∷◌, ◌++◌, Option, Some, None, IsSome, All, map, filter, flat_map, cond, length, get_or, refl, ap, sym, subst, ◌≤◌, arith, eqb-true, suc}
use Rattle.std.proofs.lemmas.List.Elements.{All-tail}
use Rattle.std.specs.List.{AllByRecursion}
use Rattle.std.specs.Option.{option_and_then}
use Rattle.std.proofs.lemmas.List.{map-append}
use Rattle.v4l_const.specs.declared.errno.Errno.{Errno}
use Rattle.vm_guest.specs.Orderly.{is_raw}
use Rattle.v4l_const.specs.declared.model.Model.{Model}
use Rattle.vm_local.specs.declared.entry.Entry.{Entry}
use Rattle.vm_local.specs.declared.entry.Entry.TheVariants.{Called, Finish, Bad, Give}
use Rattle.vm_local.specs.State.{LocalState, opening}
use Rattle.vm_local.specs.Log.{after, replay_from, IsLegal}
use Rattle.vm_script.specs.declared.line.Line.{Line}
use Rattle.vm_script.specs.declared.line.LineKind.{LineKind}
use Rattle.vm_script.specs.declared.line.LineKind.TheVariants.{OnHandle, Raw}
use Rattle.vm_script.specs.Grammar.{reads_as}
use Rattle.vm_script.specs.Lines.{Numbered, call_on, is_on, numbered, lines_of, calls_of, echoes_of, echoes_from, echoes_by_handle}
use Rattle.vm_script.specs.Drafts.{process_limit}
use Rattle.vm_script.specs.Reading.{IsName, IsReadLine, IsReadKind, IsReadProcess}
use Rattle.vm_script.specs.Words.{IsEcho, is_name}
use Rattle.vm_script.specs.Script.{ProcessLines}
use Rattle.vm_handle.specs.Handle.{HandleState}
use Rattle.vm_guest.specs.Guest.{process_in}
use Rattle.vm_guest.specs.Orderly.{no_lines}
use Rattle.vm_guest.specs.Process.{ProcessState, handle_in}
use Rattle.vm_report.specs.Logs.{HandleLog}
use Rattle.vm_report.specs.Text.{is_kind_of, reads}
use Rattle.vm_report.specs.Lent.{CanPrintHandle, IsLettered, log_in, echoes_in}
use Rattle.vm_report.specs.declared.lent.HandleText.{HandleText}
use Rattle.vm_report.specs.Printed.{IsRising}
use Rattle.vm_output.specs.Printing.{handle_log, handle_logs, process_logs, raw_log, raw_logs, process_raws, raw_echoes}
use Rattle.vm_exchange.specs.Range.{HasWords}
use Rattle.vm_report.proofs.KindLemmas.{kind_where}
use Rattle.vm_report.proofs.LetterLemmas.{legal_lettered}

-- ---- the replies of a legal log

-- each reply is of its call's kind
abbrev pub AreOfKind : List Entry → Type 0
AreOfKind [] = Unit {0}
AreOfKind (Called line call reply ∷ es) = (is_kind_of call reply ≡ true) × AreOfKind es
AreOfKind (Finish ∷ es) = AreOfKind es
AreOfKind (Bad ∷ es) = AreOfKind es
AreOfKind (Give ∷ es) = AreOfKind es

first_kind : (s t : LocalState) (e : Entry) (es : List Entry) → after s e ≡ Some t → AreOfKind es → AreOfKind (e ∷ es)
first_kind s t (Called line call reply) es comes rest = (kind_where s t line call reply comes, rest)
first_kind s t Finish es comes rest = rest
first_kind s t Bad es comes rest = rest
first_kind s t Give es comes rest = rest

kinds_from : (s : LocalState) (es : List Entry) → IsSome (replay_from s es) → AreOfKind es
kinds_from s [] legal = tt
kinds_from s (e ∷ es) legal = by_state (after s e) refl legal (λ t rest. kinds_from t es rest)
  where
    by_state : (o : Option LocalState) → after s e ≡ o → IsSome (option_and_then (λ t. replay_from t es) o) → ((t : LocalState) → IsSome (replay_from t es) → AreOfKind es) → AreOfKind (e ∷ es)
    by_state None is legal' rest = cc
    by_state (Some t) is legal' rest = first_kind s t e es is (rest t legal')

pub kinds_of : (model : Model) (log : List Entry) → IsLegal model log → AreOfKind log
kinds_of model log legal = kinds_from (opening model) log legal

-- ---- one log

-- a handle's log answers just these calls, each by a reply of its kind
pub record Answers (asked : List Numbered) (h : HandleState) : Type 0 where
  pub kinds : AreOfKind h.log.entries
  pub calls : calls_of h.log.entries ≡ asked

head_call : (a b : Numbered) (left right : List Numbered) → a ∷ left ≡ b ∷ right → a.call ≡ b.call
head_call a b left right same = ap (λ xs. (get_or xs 0 a).call) same

tail_of : List Numbered → List Numbered
tail_of [] = []
tail_of (x ∷ xs) = xs

tail_calls : (a b : Numbered) (left right : List Numbered) → a ∷ left ≡ b ∷ right → left ≡ right
unfolding tail_of
tail_calls a b left right same = ap (λ xs. tail_of xs) same

-- a log without calls
no_calls : (name : List ℕ) (es : List Entry) → calls_of es ≡ [] → reads name es [] ≡ true
no_calls name [] same = refl
no_calls name (Called line call reply ∷ es) same = cc
no_calls name (Finish ∷ es) same = no_calls name es same
no_calls name (Bad ∷ es) same = no_calls name es same
no_calls name (Give ∷ es) same = no_calls name es same

-- a log whose first call these words read as
one_call : (name echo : List ℕ) (echoes : List (List ℕ)) (n : Numbered) (rest : List Numbered) (es : List Entry) → AreOfKind es → calls_of es ≡ n ∷ rest
    → reads_as echo name n.call ≡ true → ((left : List Entry) → AreOfKind left → calls_of left ≡ rest → reads name left echoes ≡ true) → reads name es (echo ∷ echoes) ≡ true
one_call name echo echoes n rest [] kinds same read later = cc
one_call name echo echoes n rest (Called line call reply ∷ es) kinds same read later =
    let this : call ≡ n.call = head_call (record { line = line; call = call }) n (calls_of es) rest same in
    let reads_it : reads_as echo name call ≡ true = rw this read in
    let kind : is_kind_of call reply ≡ true = kinds.0 in
    let others : reads name es echoes ≡ true = later es kinds.1 (tail_calls (record { line = line; call = call }) n (calls_of es) rest same) in
    rw (reads_it, kind, others) refl
one_call name echo echoes n rest (Finish ∷ es) kinds same read later = one_call name echo echoes n rest es kinds same read later
one_call name echo echoes n rest (Bad ∷ es) kinds same read later = one_call name echo echoes n rest es kinds same read later
one_call name echo echoes n rest (Give ∷ es) kinds same read later = one_call name echo echoes n rest es kinds same read later

-- the lines on one handle
abbrev lines_on : ℕ → List Line → List Line
lines_on k ls = filter (λ m. is_on k m.what) ls

-- the log of a handle whose next line may be on it, where the lines after it read
line_reads : (k : ℕ) (names : List (List ℕ)) (name : List ℕ) → name ≡ get_or names k [] → (l : Line) (ls : List Line) → IsReadKind names l.echo l.what
    → ((left : List Entry) → AreOfKind left → calls_of left ≡ lines_of k ls → reads name left (echoes_of k ls) ≡ true)
    → (es : List Entry) → AreOfKind es → calls_of es ≡ lines_of k (l ∷ ls) → reads name es (echoes_of k (l ∷ ls)) ≡ true
line_reads k names name named l ls read later es kinds same = by_kind l.what read same
  where
    by_kind : (w : LineKind) → IsReadKind names l.echo w → calls_of es ≡ numbered l.number (call_on k w) ++ lines_of k ls
        → reads name es (map (λ m. m.echo) (cond (is_on k w) (l ∷ lines_on k ls) (lines_on k ls))) ≡ true
    by_kind (Raw chain) this same' = absurd this
    by_kind (OnHandle h call) this same' = by_test (h == k) refl same'
      where
        by_test : (b : Bool) → (h == k) ≡ b → calls_of es ≡ numbered l.number (cond b (Some call) None) ++ lines_of k ls
            → reads name es (map (λ m. m.echo) (cond b (l ∷ lines_on k ls) (lines_on k ls))) ≡ true
        by_test true at same'' =
            let here : h ≡ k = eqb-true h k at in
            one_call name l.echo (echoes_of k ls) (record { line = l.number; call = call }) (lines_of k ls) es kinds same'' (rw (named, ← here) this.reads) later
        by_test false at same'' = later es kinds same''

-- the log of the handle with this number and name
log_reads : (k : ℕ) (names : List (List ℕ)) (name : List ℕ) → name ≡ get_or names k [] → (ls : List Line) → All (IsReadLine names) ls
    → (es : List Entry) → AreOfKind es → calls_of es ≡ lines_of k ls → reads name es (echoes_of k ls) ≡ true
log_reads k names name named [] read es kinds same = no_calls name es same
log_reads k names name named (l ∷ ls) read es kinds same =
    line_reads k names name named l ls (read 0 l (omega arith)).what (λ left. log_reads k names name named ls (All-tail (IsReadLine names) l ls read) left) es kinds same

-- ---- the logs of a process

-- a log with these words can be printed
pub record CanPrintLog (log : HandleLog) (words : List (List ℕ)) : Type 0 where
  pub process : log.process < process_limit
  pub name : is_name log.name ≡ true
  pub reads : reads log.name log.entries words ≡ true
  pub echoes : AllByRecursion IsEcho words

-- each log can be printed with the words in its place, and no words are left
abbrev pub AllCanPrint : List HandleLog → List (List (List ℕ)) → Type 0
AllCanPrint [] [] = Unit {0}
AllCanPrint [] (echoes ∷ words) = ⊥
AllCanPrint (l ∷ ls) [] = ⊥
AllCanPrint (l ∷ ls) (echoes ∷ words) = CanPrintLog l echoes × AllCanPrint ls words

-- the words of the lines on one handle are those of one line each
echoes_fit : (names : List (List ℕ)) (k : ℕ) (ls : List Line) → All (IsReadLine names) ls → AllByRecursion IsEcho (echoes_of k ls)
echoes_fit names k [] read = tt
echoes_fit names k (l ∷ ls) read = by_test (is_on k l.what) (echoes_fit names k ls (All-tail (IsReadLine names) l ls read))
  where
    by_test : (b : Bool) → AllByRecursion IsEcho (echoes_of k ls) → AllByRecursion IsEcho (map (λ m. m.echo) (cond b (l ∷ lines_on k ls) (lines_on k ls)))
    by_test true rest = ((read 0 l (omega arith)).echo, rest)
    by_test false rest = rest

-- the logs of the handles from this number on
logs_print : (process k : ℕ) (all names : List (List ℕ)) (hs : List HandleState) (lines : List Line) → process < process_limit → length hs ≡ length names
    → ((h : ℕ) → get_or names h [] ≡ get_or all (k + h) []) → AllByRecursion IsName names → ((h : ℕ) → h < length hs → Answers (lines_of (k + h) lines) (handle_in hs h))
    → All (IsReadLine all) lines → AllCanPrint (handle_logs process names hs) (echoes_from k names lines)
logs_print process k all [] [] lines few same named names told read = tt
logs_print process k all [] (h ∷ hs) lines few same named names told read = cc
logs_print process k all (n ∷ ns) [] lines few same named names told read = cc
logs_print process k all (n ∷ ns) (h ∷ hs) lines few same named names told read =
    let at : k + 0 ≡ k = omega arith in
    let name : n ≡ get_or all k [] = let P : ℕ → Type 0 = λ x. n ≡ get_or all x [] in subst P at (named 0) in
    let here : Answers (lines_of k lines) h = let P : ℕ → Type 0 = λ x. Answers (lines_of x lines) h in subst P at (told 0 (omega arith)) in
    let this : reads n h.log.entries (echoes_of k lines) ≡ true = log_reads k all n name lines read h.log.entries here.kinds here.calls in (
      record { process = few; name = names.0; reads = this; echoes = echoes_fit all k lines read },
      logs_print process (k + 1) all ns hs lines few (omega (arith, same))
          (λ i. let P : ℕ → Type 0 = λ x. get_or ns i [] ≡ get_or all x [] in subst P (further i) (named (suc i))) names.1
          (λ i within. let P : ℕ → Type 0 = λ x. Answers (lines_of x lines) (handle_in hs i) in subst P (further i) (told (suc i) (omega (arith, within)))) read,
    )
  where
    further : (i : ℕ) → k + suc i ≡ k + 1 + i
    further i = omega arith

-- A process's lines are read, and each handle's log answers the calls of the lines on it.
pub record IsAnswered (p : ProcessLines) (handles : List HandleState) : Type 0 where
  pub named : length handles ≡ length p.handles
  pub told : (h : ℕ) → h < length handles → Answers (lines_of h p.lines) (handle_in handles h)
  pub names : AllByRecursion IsName p.handles
  pub read : All (IsReadLine p.handles) p.lines

process_prints : (process : ℕ) (p : ProcessLines) (handles : List HandleState) → process < process_limit → IsAnswered p handles
    → AllCanPrint (handle_logs process p.handles handles) (echoes_by_handle p)
process_prints process p handles few answered =
    logs_print process 0 p.handles p.handles handles p.lines few answered.named (λ h. let at : h ≡ 0 + h = omega arith in ap (λ x. get_or p.handles x []) at) answered.names
    (λ h within. let at : h ≡ 0 + h = omega arith in let P : ℕ → Type 0 = λ x. Answers (lines_of x p.lines) (handle_in handles h) in subst P at (answered.told h within)) answered.read

-- ---- the logs of all processes

prints_joined : (xs ys : List HandleLog) (us vs : List (List (List ℕ))) → AllCanPrint xs us → AllCanPrint ys vs → AllCanPrint (xs ++ ys) (us ++ vs)
prints_joined [] ys [] vs left right = right
prints_joined [] ys (u ∷ us) vs left right = absurd left
prints_joined (x ∷ xs) ys [] vs left right = absurd left
prints_joined (x ∷ xs) ys (u ∷ us) vs left right = (left.0, prints_joined xs ys us vs left.1 right)

-- The logs of each process can be printed with the words of its lines.
pub all_print : (process : ℕ) (ps : List ProcessLines) (states : List ProcessState) → process + length states ≤ process_limit → length states ≡ length ps
    → ((n : ℕ) → n < length states → IsAnswered (get_or ps n no_lines) (process_in states n).handles)
    → AllCanPrint (process_logs process ps states) (flat_map echoes_by_handle ps)
all_print process [] states few same each = tt
all_print process (p ∷ ps) [] few same each = cc
all_print process (p ∷ ps) (s ∷ ss) few same each =
    prints_joined (handle_logs process p.handles s.handles) (process_logs (process + 1) ps ss) (echoes_by_handle p) (flat_map echoes_by_handle ps)
    (process_prints process p s.handles (omega (arith, few)) (each 0 (omega arith)))
    (all_print (process + 1) ps ss (omega (arith, few)) (omega (arith, same)) (λ n within. each (suc n) (omega (arith, within))))

-- ---- what is lent

pub lent_lettered : (model : Model) (hs : List HandleText) → AllByRecursion (λ h. IsLegal model h.entries.now) hs → AllByRecursion (λ h. AllByRecursion HasWords h.entries.now) hs
    → AllByRecursion (λ h. AllByRecursion IsLettered h.entries.now) hs
lent_lettered model [] legal words = tt
lent_lettered model (h ∷ hs) legal words = (legal_lettered model h.entries.now words.0 legal.0, lent_lettered model hs legal.1 words.1)

-- what is lent can be printed
pub lent_print : (hs : List HandleText) → AllByRecursion (λ h. AllByRecursion IsLettered h.entries.now) hs → AllCanPrint (map log_in hs) (map echoes_in hs)
    → AllByRecursion CanPrintHandle hs
lent_print [] letters can = tt
lent_print (h ∷ hs) letters can =
    (record { process = can.0.process; name = can.0.name; letters = letters.0; reads = can.0.reads; echoes = can.0.echoes }, lent_print hs letters.1 can.1)

pub all_mapped : {A B : Type 0} (P : B → Type 0) (f : A → B) (xs : List A) → AllByRecursion P (map f xs) → AllByRecursion (λ x. P (f x)) xs
all_mapped P f [] all = tt
all_mapped P f (x ∷ xs) all = (all.0, all_mapped P f xs all.1)

-- ---- their order

rising_lower : (a b : ℕ) (ns : List ℕ) → a ≤ b → IsRising b ns → IsRising a ns
rising_lower a b [] low later = tt
rising_lower a b (n ∷ ns) low later = (let first = later.0 in omega (arith, low, first), later.1)

rising_from : (least process : ℕ) (names : List (List ℕ)) (hs : List HandleState) (rest : List ℕ) → least ≤ process → IsRising process rest
    → IsRising least (map (λ h. h.process) (handle_logs process names hs) ++ rest)
rising_from least process [] hs rest low later = rising_lower least process rest low later
rising_from least process (name ∷ names) [] rest low later = rising_lower least process rest low later
rising_from least process (name ∷ names) (h ∷ hs) rest low later = (low, rising_from process process names hs rest (omega arith) later)

pub processes_rise : (process : ℕ) (ps : List ProcessLines) (states : List ProcessState) → IsRising process (map (λ h. h.process) (process_logs process ps states))
processes_rise process [] states = tt
processes_rise process (p ∷ ps) [] = tt
processes_rise process (p ∷ ps) (s ∷ ss) =
    let rest : List ℕ = map (λ h. h.process) (process_logs (process + 1) ps ss) in
    subst (IsRising process) (sym (map-append (λ h. h.process) (handle_logs process p.handles s.handles) (process_logs (process + 1) ps ss)))
    (rising_from process process p.handles s.handles rest (omega arith) (rising_lower process (process + 1) rest (omega arith) (processes_rise (process + 1) ps ss)))

-- ---- no script that is read has a raw line

no_raws_in : (names : List (List ℕ)) (process : ℕ) (ls : List Line) (answers : List (Option Errno)) → All (IsReadLine names) ls → raw_logs process ls answers ≡ []
no_raws_in names process [] answers read = refl
no_raws_in names process (l ∷ ls) [] read = refl
no_raws_in names process (l ∷ ls) (answer ∷ answers) read =
    by_kind l.what (read 0 l (omega arith)).what (no_raws_in names process ls answers (All-tail (IsReadLine names) l ls read))
  where
    by_kind : (what : LineKind) → IsReadKind names l.echo what → raw_logs process ls answers ≡ [] → raw_log process l.number what answer ++ raw_logs process ls answers ≡ []
    by_kind (OnHandle h call) this rest = rest
    by_kind (Raw chain) this rest = absurd this

no_raw_words_in : (names : List (List ℕ)) (ls : List Line) → All (IsReadLine names) ls → map (λ l. l.echo) (filter (λ l. is_raw l.what) ls) ≡ []
no_raw_words_in names [] read = refl
no_raw_words_in names (l ∷ ls) read = by_kind l.what refl (read 0 l (omega arith)).what (no_raw_words_in names ls (All-tail (IsReadLine names) l ls read))
  where
    by_kind : (what : LineKind) → l.what ≡ what → IsReadKind names l.echo what → map (λ m. m.echo) (filter (λ m. is_raw m.what) ls) ≡ []
        → map (λ m. m.echo) (filter (λ m. is_raw m.what) (l ∷ ls)) ≡ []
    by_kind (OnHandle h call) is this rest = rw is rest
    by_kind (Raw chain) is this rest = absurd this

pub no_raws : (process : ℕ) (ps : List ProcessLines) (states : List ProcessState) → All IsReadProcess ps → process_raws process ps states ≡ []
no_raws process [] states read = refl
no_raws process (p ∷ ps) [] read = refl
no_raws process (p ∷ ps) (s ∷ ss) read =
    rw (no_raws_in p.handles process p.lines s.raws (read 0 p (omega arith)).each, no_raws (process + 1) ps ss (All-tail IsReadProcess p ps read)) refl

pub no_raw_words : (ps : List ProcessLines) → All IsReadProcess ps → flat_map raw_echoes ps ≡ []
no_raw_words [] read = refl
no_raw_words (p ∷ ps) read =
    rw (no_raw_words_in p.handles p.lines (read 0 p (omega arith)).each, no_raw_words ps (All-tail IsReadProcess p ps read)) refl
