-- What a driver whose lines are all answered has: each log is legal, and answers the lines on its handle.
use Rattle.std.proofs.Common.{◌≡◌, ◌<◌, ◌≤◌, ◌+◌, ◌==◌, ◌&&◌, ℕ, zero, suc, Bool, true, false, List, [], ◌∷◌, ◌++◌, Option, Some, None, length, flat_map, take, get_or, map, slice_get, sym, refl, ap, ◌∙◌, subst, arith, eqb-true}
use Rattle.std.specs.List.{AllByRecursion}
use Rattle.std.specs.Option.{option_map}
use Rattle.std.proofs.lemmas.List.{take_all, get_or_default}
use Rattle.v4l_const.specs.declared.model.Model.{Model}
use Rattle.vm_local.specs.Log.{IsLegal}
use Rattle.vm_handle.specs.Handle.{HandleState}
use Rattle.vm_script.specs.Drafts.{process_limit}
use Rattle.vm_script.specs.Lines.{lines_of, calls_of, echoes_by_handle}
use Rattle.vm_script.specs.Reading.{IsReadProcess, IsReadScript}
use Rattle.vm_script.specs.Script.{ProcessLines, ScriptLines}
use Rattle.vm_script.specs.declared.line.Line.{Line}
use Rattle.vm_guest.specs.Asking.{statements_of}
use Rattle.vm_guest.specs.Guest.{GuestState, IsDone, process_in, process_at, no_process}
use Rattle.vm_guest.specs.Orderly.{IsDriver, IsOrderly, no_lines, lines_at}
use Rattle.vm_guest.specs.Process.{ProcessState, is_done, is_at_rest, handle_in}
use Rattle.vm_guest.specs.declared.status.Status.{Status}
use Rattle.vm_guest.specs.declared.status.Status.TheVariants.{AtRest, Crossing, Blocked, Lent}
use Rattle.vm_region.specs.declared.entry.RegionEntry.{RegionEntry}
use Rattle.vm_exchange.specs.Range.{HasWords}
use Rattle.vm_report.specs.declared.lent.HandleText.{HandleText}
use Rattle.vm_report.specs.declared.lent.LogsText.{LogsText}
use Rattle.vm_report.specs.declared.lent.RawText.{RawText}
use Rattle.vm_report.specs.Digest.{digest_of}
use Rattle.vm_report.specs.Lent.{CanPrint, CanPrintRaw, log_in, echoes_in, raw_log_in}
use Rattle.vm_report.specs.Logs.{HandleLog, Logs}
use Rattle.vm_report.specs.Printed.{IsRising}
use Rattle.vm_report.specs.Text.{Words}
use Rattle.vm_output.specs.Printing.{handle_logs, process_logs, logs_of_run, words_of}
use Rattle.vm_output.proofs.ReadLemmas.{Answers, IsAnswered, AllCanPrint, kinds_of, all_print, all_mapped, lent_print, lent_lettered, processes_rise, no_raws, no_raw_words}

-- ---- every line is answered

rests_where : (status : Status) (a n : ℕ) → (is_at_rest status && (a == n)) ≡ true → (is_at_rest status ≡ true) × (a ≡ n)
rests_where AtRest a n done = (refl, eqb-true a n done)
rests_where Crossing a n done = cc
rests_where Blocked a n done = cc
rests_where Lent a n done = cc

length_statements : (lines : List Line) → length (statements_of lines) ≡ length lines
length_statements [] = refl
length_statements (l ∷ ls) = ap (λ k. suc k) (length_statements ls)

-- all lines of a process are among those that are answered
pub all_taken : (model : Model) (lines : ProcessLines) (p : ProcessState) → IsOrderly model lines p → is_done p ≡ true → take p.answered lines.lines ≡ lines.lines
all_taken model lines p orderly done =
    let where_it_is = rests_where p.status p.answered (length p.statements) done in
    let count : length p.statements ≡ length lines.lines = ap length orderly.statements ∙ length_statements lines.lines in
    take_all p.answered lines.lines (let same = where_it_is.1 in omega (arith, same, count))

pub process_done : (g : GuestState) (n : ℕ) → IsDone g → n < length g.processes → is_done (process_at g n) ≡ true
process_done g n done within = done n no_process within

legal_as : (m model : Model) (h : HandleState) → m ≡ model → IsLegal m h.log.entries → IsLegal model h.log.entries
legal_as m model h same legal = subst (λ x. IsLegal x h.log.entries) same legal

-- each log is legal on a device of the script's model
pub driver_legal : (script : ScriptLines) (g : GuestState) (n h : ℕ) → IsDriver script g → n < length g.processes → h < length (process_at g n).handles
    → IsLegal script.model (handle_in (process_at g n).handles h).log.entries
driver_legal script g n h d within inside =
    let own = (d.orderly n within).each h inside in
    let x : HandleState = handle_in (process_at g n).handles h in
    legal_as x.log.model script.model x own.model own.keeps.legal

-- each handle of a process answers all lines on it
pub answers_all : (model : Model) (lines : ProcessLines) (p : ProcessState) (h : ℕ) → IsOrderly model lines p → is_done p ≡ true → h < length p.handles
    → Answers (lines_of h lines.lines) (handle_in p.handles h)
answers_all model lines p h orderly done within =
    let own = orderly.each h within in
    let P : List Line → Type 0 = λ ls. calls_of (handle_in p.handles h).log.entries ≡ lines_of h ls in
    record {
      kinds = kinds_of (handle_in p.handles h).log.model (handle_in p.handles h).log.entries own.keeps.legal;
      calls = subst P (all_taken model lines p orderly done) own.calls;
    }

pub process_answered : (script : ScriptLines) (g : GuestState) (n : ℕ) → IsReadScript script → IsDriver script g → IsDone g → n < length g.processes
    → IsAnswered (lines_at script n) (process_at g n).handles
process_answered script g n read d done within =
    let orderly = d.orderly n within in
    let own : IsReadProcess (lines_at script n) = read.each n no_lines (let count = d.count in omega (arith, within, count)) in
    record {
      named = orderly.named;
      told = λ h inside. answers_all script.model (lines_at script n) (process_at g n) h orderly (process_done g n done within) inside;
      names = own.handles;
      read = own.each;
    }

-- ---- the logs are legal

legal_handles : (model : Model) (process : ℕ) (names : List (List ℕ)) (hs : List HandleState) → ((h : ℕ) → h < length hs → IsLegal model (handle_in hs h).log.entries)
    → AllByRecursion (λ log. IsLegal model log.entries) (handle_logs process names hs)
legal_handles model process [] hs each = tt
legal_handles model process (n ∷ ns) [] each = tt
legal_handles model process (n ∷ ns) (h ∷ hs) each =
    (each 0 (omega arith), legal_handles model process ns hs (λ k within. each (suc k) (omega (arith, within))))

all_joined : {A : Type 0} (P : A → Type 0) (xs ys : List A) → AllByRecursion P xs → AllByRecursion P ys → AllByRecursion P (xs ++ ys)
all_joined P [] ys left right = right
all_joined P (x ∷ xs) ys left right = (left.0, all_joined P xs ys left.1 right)

pub legal_logs : (model : Model) (process : ℕ) (ps : List ProcessLines) (states : List ProcessState)
    → ((n h : ℕ) → n < length states → h < length (process_in states n).handles → IsLegal model (handle_in (process_in states n).handles h).log.entries)
    → AllByRecursion (λ log. IsLegal model log.entries) (process_logs process ps states)
legal_logs model process [] states each = tt
legal_logs model process (p ∷ ps) [] each = tt
legal_logs model process (p ∷ ps) (s ∷ ss) each =
    all_joined (λ log. IsLegal model log.entries) (handle_logs process p.handles s.handles) (process_logs (process + 1) ps ss)
    (legal_handles model process p.handles s.handles (λ h inside. each 0 h (omega arith) inside))
    (legal_logs model (process + 1) ps ss (λ n h within inside. each (suc n) h (omega (arith, within)) inside))

-- ---- the handles that the driver gives of a process

pub handles_at : (ps : List ProcessState) (n : ℕ) (hs : List HandleState) → Some hs ≡ option_map (λ p. p.handles) (slice_get ps n) → (n < length ps) × (hs ≡ (process_in ps n).handles)
handles_at [] n hs is = cc
handles_at (p ∷ ps) zero hs is = (omega arith, cc)
handles_at (p ∷ ps) (suc n) hs is = let rest = handles_at ps n hs is in (let inside = rest.0 in omega (arith, inside), rest.1)

-- the next process of the script
pub next_process : (ps items : List ProcessLines) (i : ℕ) (p : ProcessLines) → items ≡ ps → i < length items → p ≡ get_or items i p → (i < length ps) × (p ≡ get_or ps i p)
next_process ps items i p same within is =
    let P : List ProcessLines → Type 0 = λ qs. (i < length qs) × (p ≡ get_or qs i p) in subst P same (within, is)

-- as many as the next process of the script has names
pub next_named : (script : ScriptLines) (g : GuestState) (i : ℕ) (p : ProcessLines) (hs : List HandleState) → IsDriver script g → i < length script.processes → p ≡ get_or script.processes i p
    → Some hs ≡ option_map (λ q. q.handles) (slice_get g.processes i) → length hs ≡ length p.handles
next_named script g i p hs d within is given =
    let at = handles_at g.processes i hs given in
    let named = (d.orderly i at.0).named in
    ap (λ (xs : List HandleState). length xs) at.1 ∙ (named ∙ ap (λ (q : ProcessLines). length q.handles) (get_or_default script.processes i no_lines p within ∙ sym is))

-- ---- what is lent of a driver

pub lent_legal : (script : ScriptLines) (g : GuestState) (lent : List HandleText) → IsDriver script g → map log_in lent ≡ process_logs 0 script.processes g.processes
    → AllByRecursion (λ h. IsLegal script.model h.entries.now) lent
lent_legal script g lent d logs =
    let P : HandleLog → Type 0 = λ log. IsLegal script.model log.entries in
    all_mapped P log_in lent (subst (AllByRecursion P) (sym logs) (legal_logs script.model 0 script.processes g.processes (λ n h within inside. driver_legal script g n h d within inside)))

pub digest_legal : (script : ScriptLines) (g : GuestState) (m : Model) (items lent : List HandleText) → IsDriver script g → m ≡ script.model → lent ≡ items
    → map log_in items ≡ process_logs 0 script.processes g.processes → AllByRecursion (λ h. IsLegal m h.entries.now) lent
digest_legal script g m items lent d model same logs =
    let P : Model → Type 0 = λ x. AllByRecursion (λ h. IsLegal x h.entries.now) lent in
    subst P (sym model) (lent_legal script g lent d (ap (λ hs. map log_in hs) same ∙ logs))

pub run_prints : (script : ScriptLines) (g : GuestState) (l : LogsText) → IsReadScript script → IsDriver script g → IsDone g
    → map log_in l.handles.now ≡ process_logs 0 script.processes g.processes → map echoes_in l.handles.now ≡ flat_map echoes_by_handle script.processes → l.raws.now ≡ []
    → AllByRecursion (λ h. AllByRecursion HasWords h.entries.now) l.handles.now → CanPrint l
run_prints script g l read d done logs words none has =
    let Can : List HandleLog → List (List (List ℕ)) → Type 0 = λ ls ws. AllCanPrint ls ws in
    let can : Can (process_logs 0 script.processes g.processes) (flat_map echoes_by_handle script.processes) =
    all_print 0 script.processes g.processes (let few = d.few in omega (arith, few)) d.count (λ n within. process_answered script g n read d done within) in
    let lent : Can (map log_in l.handles.now) (map echoes_in l.handles.now) =
    subst (λ ws. Can (map log_in l.handles.now) ws) (sym words) (subst (λ ls. Can ls (flat_map echoes_by_handle script.processes)) (sym logs) can) in
    let Rising : List HandleLog → Type 0 = λ ls. IsRising 0 (map (λ h. h.process) ls) in
    let RisingRaws : List RawText → Type 0 = λ rs. IsRising 0 (map (λ r. r.process) (map raw_log_in rs)) in
    record {
      handles = lent_print l.handles.now (lent_lettered script.model l.handles.now (lent_legal script g l.handles.now d logs) has) lent;
      raws = subst (AllByRecursion CanPrintRaw) (sym none) tt;
      handles_rise = subst Rising (sym logs) (processes_rise 0 script.processes g.processes);
      raws_rise = subst RisingRaws (sym none) tt;
    }

-- the logs and the words that are lent, without a raw line
abbrev pub logs_with : List HandleText → List RegionEntry → List ℕ → Logs
logs_with lent journal wire = record { handles = map log_in lent; raws = []; journal = journal; wire = wire }

abbrev pub words_with : List HandleText → Words
words_with lent = record { calls = map echoes_in lent; raws = [] }

pub run_wire : (script : ScriptLines) (m : Model) (hashed lent : List HandleText) (wire : List ℕ) → m ≡ script.model → hashed ≡ lent → wire ≡ digest_of m (map log_in hashed)
    → wire ≡ digest_of script.model (map log_in lent)
run_wire script m hashed lent wire model same is = is ∙ (ap (λ x. digest_of x (map log_in hashed)) model ∙ ap (λ hs. digest_of script.model (map log_in hs)) same)

pub run_logs : (script : ScriptLines) (g : GuestState) (journal : List RegionEntry) (lent : List HandleText) (wire : List ℕ) → IsReadScript script
    → map log_in lent ≡ process_logs 0 script.processes g.processes → wire ≡ digest_of script.model (map log_in lent) → logs_with lent journal wire ≡ logs_of_run script g journal
run_logs script g journal lent wire read logs is = rw (is, logs, no_raws 0 script.processes g.processes read.each) refl

pub run_words : (script : ScriptLines) (lent : List HandleText) → IsReadScript script → map echoes_in lent ≡ flat_map echoes_by_handle script.processes → words_with lent ≡ words_of script
run_words script lent read words = rw (words, no_raw_words script.processes read.each) refl
