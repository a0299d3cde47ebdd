-- A bulk run's script is read: each line of a process is fine behind those before it, and so is each process.
use Rattle.std.proofs.Common.{◌≡◌, ℕ, zero, suc, ◌+◌, ◌*◌, ◌%◌, ◌<◌, ◌≤◌, ◌==◌, ◌&&◌, Bool, true, false, Option, Some, None, Result, Ok, Err, List, [], ◌∷◌, ◌++◌, if◌then◌else◌, length, nat_le, nat_lt, codes, refl, ap, sym, ◌∙◌, subst, arith, append_assoc, length-append}
use Rattle.std.specs.Fmt.{digits}
use Rattle.std.specs.List.{list_all}
use Rattle.std.proofs.lemmas.Bool.Decides.{nat_tests}
use Rattle.std.proofs.lemmas.List.Folds.{list_all-append}
use Rattle.v4l_const.specs.declared.model.Model.{Model}
use Rattle.v4l_const.specs.declared.model.Model.TheVariants.{Capture}
use Rattle.vm_local.specs.declared.call.Call.TheVariants.{OpenHandle}
use Rattle.vm_script.specs.declared.fault.ScriptFault.{ScriptFault}
use Rattle.vm_script.specs.declared.fault.ScriptKind.{ScriptKind}
use Rattle.vm_script.specs.declared.fault.ScriptKind.TheVariants.{TooManyProcesses}
use Rattle.vm_script.specs.declared.line.LineKind.TheVariants.{OnHandle}
use Rattle.vm_script.specs.Words.{ends_line, lines_in, pieces_by}
use Rattle.vm_script.specs.Drafts.{ScriptDraft, no_lines, no_script}
use Rattle.vm_script.specs.Grammar.{at_line, with_line, with_lines, drafted, as_script, script_of}
use Rattle.vm_script.specs.Script.{ProcessLines, ScriptLines}
use Rattle.vm_script.proofs.LineLemmas.{with_lines_ok}
use Rattle.vm_script.proofs.WordLemmas.{is_whole, piece_then}
use Rattle.vm_bulk.specs.Bulk.{ended, below, numbered, format_line, mapping, queueing, taking, unmapping, statements, process_lines, bulk_text}
use Rattle.vm_bulk.proofs.BehindLemmas.{Names, Ready, behind, behind_append, AreRead, Leads, leads_first, leads_then, lines_read}

-- ---- what is tried for each process

abbrev all_below : ℕ → (ℕ → Bool) → Bool
all_below zero test = true
all_below (suc n) test = test n && all_below n test

both : (a b : Bool) → (a && b) ≡ true → (a ≡ true) × (b ≡ true)
both true b h = (refl, h)
both false b h = absurd (cc)

joined : (a b : Bool) → a ≡ true → b ≡ true → (a && b) ≡ true
joined a b h k = rw h k

at_place : (n : ℕ) (test : ℕ → Bool) (p : ℕ) → test n ≡ true → (p < n → test p ≡ true) → p < suc n → (before : Bool) → nat_lt p n ≡ before → test p ≡ true
at_place n test p last earlier within true is = earlier (grind (arith, nat_tests))
at_place n test p last earlier within false is =
    let same : n ≡ p = grind (arith, nat_tests) in
    subst (λ k. test k ≡ true) same last

at_each : (n : ℕ) (test : ℕ → Bool) → all_below n test ≡ true → (p : ℕ) → p < n → test p ≡ true
at_each zero test all p within = absurd (omega arith)
at_each (suc n) test all p within =
    let split = both (test n) (all_below n test) all in
    at_place n test p split.0 (λ before. at_each n test split.1 p before) within (nat_lt p n) refl

-- ---- the lines of a process

-- those behind its first, in which its number stands
abbrev chosen : ℕ → List (List ℕ)
chosen p = format_line p ∷ (numbered (codes "sinput a ") (p % 4) ++ codes "reqbufs a cap mmap 4" ∷ [])

-- and those behind them
abbrev streamed : List (List ℕ)
streamed =
    below 4 mapping ++ (below 4 queueing ++ (codes "streamon a cap" ∷
    (below 60 (λ r. taking (r % 4)) ++ (codes "streamoff a cap" ∷
    (below 4 unmapping ++ codes "close a" ∷ [])))))

abbrev buffer_names : Names
buffer_names = codes "m0" ∷ codes "m1" ∷ codes "m2" ∷ codes "m3" ∷ []

abbrev are_none : Option Names → Bool
are_none (Some []) = true
are_none (Some (name ∷ names)) = false
are_none None = false

none_are : (o : Option Names) → are_none o ≡ true → o ≡ Some []
none_are (Some []) e = refl
none_are (Some (name ∷ names)) e = absurd (cc)
none_are None e = absurd (cc)

all_chosen : all_below 16 (λ p. are_none (behind [] (chosen p))) ≡ true
unfolding digits
all_chosen = refl

streamed_fine : behind [] streamed ≡ Some buffer_names
unfolding below digits
streamed_fine = refl

lines_fine : (p : ℕ) → p < 16 → behind [] (chosen p ++ streamed) ≡ Some buffer_names
lines_fine p few = behind_append (chosen p) streamed [] [] buffer_names (none_are (behind [] (chosen p)) (at_each 16 (λ q. are_none (behind [] (chosen q))) all_chosen p few)) streamed_fine

streamed_count : length streamed ≡ 195
unfolding below
streamed_count = refl

lines_count : (p : ℕ) → length (chosen p ++ streamed) ≡ 198
lines_count p = let count = streamed_count in length-append (chosen p) streamed ∙ ap (λ n. 3 + n) count

-- ---- one process

-- a draft whose process has no lines
abbrev fresh : Bool → Model → List ProcessLines → ScriptDraft
fresh begun model before = record { begun = begun; model = model; before = before; process = no_lines }

-- the process behind its first line
abbrev opened : ℕ → ProcessLines
opened number = record {
  handles = codes "a" ∷ [];
  lines = record { number = number; echo = codes "open a"; what = OnHandle 0 (OpenHandle false) } ∷ [];
}

open_read : (begun : Bool) (model : Model) (before : List ProcessLines) (number : ℕ) → with_line (fresh begun model before) number (codes "open a") ≡ Ok (record { begun = true; model = model; before = before; process = opened number })
open_read begun model before number = refl

process_read : (p : ℕ) → p < 16 → (begun : Bool) (model : Model) (before : List ProcessLines) (number : ℕ) → AreRead (fresh begun model before) number (statements p) before
process_read p few begun model before number =
    let d : ScriptDraft = fresh begun model before in
    let e : ScriptDraft = record { begun = true; model = model; before = before; process = opened number } in
    let ready : Ready [] (opened number) = record { handles = refl; memories = refl } in
    let count = lines_count p in
    let others : AreRead e (number + 1) (chosen p ++ streamed) before =
    lines_read (chosen p ++ streamed) [] buffer_names e (number + 1) (lines_fine p few) ready (omega (arith, count)) in
    record {
      draft = others.draft;
      next = others.next;
      leads = leads_first d e others.draft number others.next (codes "open a") (chosen p ++ streamed) (open_read begun model before number) others.leads;
      before = others.before;
    }

-- ---- all processes

abbrev begun_script : ScriptDraft
begun_script = fresh true Capture []

proc_read : (d : ScriptDraft) (number : ℕ) → nat_le 16 (length d.before + 1) ≡ false → with_line d number (codes "proc") ≡ Ok (fresh true d.model (d.before ++ d.process ∷ []))
proc_read d number room =
    let R : Bool → Result ScriptDraft ScriptKind = λ b. if b then Err TooManyProcesses else Ok (fresh true d.model (d.before ++ d.process ∷ [])) in
    let L : Result ScriptDraft ScriptKind → Result ScriptDraft ScriptFault = λ r. at_line number r in
    ap L (ap R room)

later_lines : (k : ℕ) → process_lines (suc k) ≡ codes "proc" ∷ statements (suc k)
later_lines k =
    let later : (suc k == 0) ≡ false = grind (arith, nat_tests) in
    let L : Bool → List (List ℕ) = λ first. (if first then [] else codes "proc" ∷ []) ++ statements (suc k) in
    ap L later

-- the processes below a number are read, where there is one, and so many stand before the last
pub record BelowRead (m : ℕ) : Type 0 where
  pub draft : ScriptDraft
  pub next : ℕ
  pub leads : Leads begun_script 2 (below (suc m) process_lines) draft next
  pub count : length draft.before ≡ m

below_read : (m : ℕ) → m < 16 → BelowRead m
unfolding below
below_read zero few =
    let first = process_read 0 few true Capture [] 2 in
    record { draft = first.draft; next = first.next; leads = first.leads; count = ap length first.before }
below_read (suc k) few =
    let before = below_read k (omega (arith, few)) in
    let d : ScriptDraft = before.draft in
    let so_many : length d.before ≡ k = before.count in
    let room : nat_le 16 (length d.before + 1) ≡ false = grind (arith, nat_tests) in
    let e : ScriptDraft = fresh true d.model (d.before ++ d.process ∷ []) in
    let last = process_read (suc k) few true d.model (d.before ++ d.process ∷ []) (before.next + 1) in
    let more : length (d.before ++ d.process ∷ []) ≡ length d.before + 1 = length-append d.before (d.process ∷ []) in
    let all : length last.draft.before ≡ length (d.before ++ d.process ∷ []) = ap length last.before in
    let count : length last.draft.before ≡ suc k = omega (arith, so_many, more, all) in
    record {
      draft = last.draft;
      next = last.next;
      leads = leads_then begun_script d last.draft 2 before.next last.next (below (suc k) process_lines) (process_lines (suc k)) before.leads
          (subst (λ (ls : List (List ℕ)). Leads d before.next ls last.draft last.next) (sym (later_lines k))
          (leads_first d e last.draft before.next last.next (codes "proc") (statements (suc k)) (proc_read d before.next room) last.leads));
      count = count;
    }

-- ---- the text

-- no line has a newline, and none is long
abbrev is_fair : List ℕ → Bool
is_fair line = is_whole ends_line line && nat_le (length line) 40

all_fair : all_below 16 (λ p. list_all is_fair (chosen p)) ≡ true
unfolding digits
all_fair = refl

streamed_fair : list_all is_fair streamed ≡ true
unfolding below digits
streamed_fair = refl

statements_fair : (p : ℕ) → p < 16 → list_all is_fair (statements p) ≡ true
statements_fair p few =
    list_all-append is_fair (chosen p) streamed
    ∙ joined (list_all is_fair (chosen p)) (list_all is_fair streamed) (at_each 16 (λ q. list_all is_fair (chosen q)) all_fair p few) streamed_fair

process_fair : (p : ℕ) → p < 16 → list_all is_fair (process_lines p) ≡ true
process_fair p few = by_first (p == 0)
  where
    by_first : (first : Bool) → list_all is_fair ((if first then [] else codes "proc" ∷ []) ++ statements p) ≡ true
    by_first true = statements_fair p few
    by_first false = statements_fair p few

below_fair : (n : ℕ) → n ≤ 16 → list_all is_fair (below n process_lines) ≡ true
unfolding below
below_fair zero few = refl
below_fair (suc n) few =
    list_all-append is_fair (below n process_lines) (process_lines n)
    ∙ joined (list_all is_fair (below n process_lines)) (list_all is_fair (process_lines n)) (below_fair n (omega (arith, few))) (process_fair n (omega (arith, few)))

ended_pieces : (lines : List (List ℕ)) → list_all is_fair lines ≡ true → pieces_by ends_line (ended lines) ≡ lines ++ [] ∷ []
ended_pieces [] fair = refl
ended_pieces (l ∷ lines) fair =
    let parted = both (is_fair l) (list_all is_fair lines) fair in
    let whole = both (is_whole ends_line l) (nat_le (length l) 40) parted.0 in
    ap (pieces_by ends_line) (append_assoc l (10 ∷ []) (ended lines)) ∙ piece_then ends_line l 10 (ended lines) whole.0 refl ∙ ap (λ z. l ∷ z) (ended_pieces lines parted.1)

-- the script of a bulk run is read
pub bulk_read : (n : ℕ) → 1 ≤ n → n ≤ 16 → (s : ScriptLines) × (script_of (bulk_text n) ≡ Ok s)
bulk_read zero some few = absurd (omega arith)
bulk_read (suc m) some few =
    let all = below_read m (omega (arith, few)) in
    let lines : List (List ℕ) = codes "device capture" ∷ below (suc m) process_lines in
    let pieces : lines_in (bulk_text (suc m)) ≡ lines ++ [] ∷ [] = ended_pieces lines (below_fair (suc m) few) in
    let of_lines : List (List ℕ) → Result ScriptLines ScriptFault = λ ls. as_script (with_lines no_script 1 ls) in
    let reads : with_lines no_script 1 (lines ++ [] ∷ []) ≡ Ok all.draft =
    with_lines_ok no_script begun_script 1 (codes "device capture") (below (suc m) process_lines ++ [] ∷ []) refl ∙ all.leads ([] ∷ []) in
    (drafted all.draft, ap of_lines pieces ∙ ap as_script reads)

-- ---- how long the text is

statements_count : (p : ℕ) → length (statements p) ≡ 199
statements_count p = let count = lines_count p in ap (λ n. suc n) count

process_count : (p : ℕ) → length (process_lines p) ≤ 200
process_count p = by_first (p == 0)
  where
    by_first : (first : Bool) → length ((if first then [] else codes "proc" ∷ []) ++ statements p) ≤ 200
    by_first true = let count = statements_count p in omega (arith, count)
    by_first false = let count = statements_count p in omega (arith, count)

below_count : (n : ℕ) → length (below n process_lines) ≤ 200 * n
unfolding below
below_count zero = omega arith
below_count (suc n) =
    let before = below_count n in
    let last = process_count n in
    let whole : length (below n process_lines ++ process_lines n) ≡ length (below n process_lines) + length (process_lines n) = length-append (below n process_lines) (process_lines n) in
    omega (arith, before, last, whole)

ended_length : (lines : List (List ℕ)) → list_all is_fair lines ≡ true → length (ended lines) ≤ 41 * length lines
ended_length [] fair = omega arith
ended_length (l ∷ lines) fair =
    let parted = both (is_fair l) (list_all is_fair lines) fair in
    let short = (both (is_whole ends_line l) (nat_le (length l) 40) parted.0).1 in
    let within : length l ≤ 40 = grind (arith, nat_tests) in
    let rest = ended_length lines parted.1 in
    let one : length (l ++ 10 ∷ []) ≡ length l + 1 = length-append l (10 ∷ []) in
    let whole : length ((l ++ 10 ∷ []) ++ ended lines) ≡ length (l ++ 10 ∷ []) + length (ended lines) = length-append (l ++ 10 ∷ []) (ended lines) in
    omega (arith, within, rest, one, whole)

-- the text is short
pub bulk_short : (n : ℕ) → n ≤ 16 → length (bulk_text n) ≤ 4194304
bulk_short n few =
    let lines : List (List ℕ) = codes "device capture" ∷ below n process_lines in
    let count = below_count n in
    let whole : length (ended lines) ≤ 41 * length lines = ended_length lines (below_fair n few) in
    let more : length lines ≡ length (below n process_lines) + 1 = omega arith in
    omega (arith, few, count, whole, more)
