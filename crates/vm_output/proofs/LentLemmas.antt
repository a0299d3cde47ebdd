-- Lemmas on the logs that are lent one after the other.
use Rattle.std.proofs.Common.{◌≡◌, ◌<◌, ◌≤◌, ◌+◌, ℕ, zero, suc, List, [], ◌∷◌, ◌++◌, flat_map, length, drop, take, get_or, map, sym, refl, ap, ◌∙◌, subst, append_assoc, length-append, arith}
use Rattle.std.proofs.lemmas.List.{append-nil, drop_more, drop_all, take_more, take_all, map-append, length-map}
use Rattle.vm_handle.specs.Handle.{HandleState}
use Rattle.vm_script.specs.Lines.{echoes_by_handle}
use Rattle.vm_script.specs.Script.{ProcessLines}
use Rattle.vm_guest.specs.Process.{ProcessState}
use Rattle.vm_report.specs.declared.lent.HandleText.{HandleText}
use Rattle.vm_report.specs.Lent.{log_in, echoes_in}
use Rattle.vm_report.specs.Logs.{HandleLog}
use Rattle.vm_output.specs.Printing.{handle_log, handle_logs, process_logs}
use Rattle.vm_output.proofs.EchoLemmas.{length_echoes}

next_left : {A : Type 0} (xs : List A) (i : ℕ) (x : A) → i < length xs → x ≡ get_or xs i x → drop i xs ≡ x ∷ drop (i + 1) xs
next_left xs i x within is = drop_more xs i x within ∙ ap (λ y. y ∷ drop (i + 1) xs) (sym is)

-- ---- the handles of all processes

pub processes_more : (ps : List ProcessLines) (states : List ProcessState) (i : ℕ) (p : ProcessLines) (s : ProcessState) (before after : List HandleLog) (all : List HandleLog)
    → i < length ps → i < length states → p ≡ get_or ps i p → s ≡ get_or states i s → after ≡ before ++ handle_logs i p.handles s.handles
    → before ++ process_logs i (drop i ps) (drop i states) ≡ all → after ++ process_logs (i + 1) (drop (i + 1) ps) (drop (i + 1) states) ≡ all
processes_more ps states i p s before after all within inside p_is s_is lent whole =
    let rest : List HandleLog = process_logs (i + 1) (drop (i + 1) ps) (drop (i + 1) states) in
    let one : process_logs i (drop i ps) (drop i states) ≡ handle_logs i p.handles s.handles ++ rest = rw (next_left ps i p within p_is, next_left states i s inside s_is) refl in
    ap (λ ls. ls ++ rest) lent ∙ (append_assoc before (handle_logs i p.handles s.handles) rest ∙ (ap (λ ls. before ++ ls) (sym one) ∙ whole))

-- how many words are left
pub words_left : (ps : List ProcessLines) (i : ℕ) (p : ProcessLines) → i < length ps → p ≡ get_or ps i p
    → length (flat_map echoes_by_handle (drop i ps)) ≡ length p.handles + length (flat_map echoes_by_handle (drop (i + 1) ps))
words_left ps i p within is =
    let rest : List (List (List ℕ)) = flat_map echoes_by_handle (drop (i + 1) ps) in
    ap (λ qs. length (flat_map echoes_by_handle qs)) (next_left ps i p within is) ∙ (length-append (echoes_by_handle p) rest ∙ ap (λ n. n + length rest) (length_echoes 0 p.handles p.lines))

-- ---- how many there are

pub length_handle_logs : (process : ℕ) (names : List (List ℕ)) (hs : List HandleState) → length hs ≡ length names → length (handle_logs process names hs) ≡ length hs
length_handle_logs process [] [] same = refl
length_handle_logs process [] (h ∷ hs) same = cc
length_handle_logs process (n ∷ ns) [] same = refl
length_handle_logs process (n ∷ ns) (h ∷ hs) same = ap (λ k. suc k) (length_handle_logs process ns hs (omega (arith, same)))

pub lent_count : (old new : List HandleText) (logs : List HandleLog) → map log_in new ≡ map log_in old ++ logs → length new ≡ length old + length logs
lent_count old new logs is =
    sym (length-map new log_in) ∙ (ap (λ ls. length ls) is ∙ (length-append (map log_in old) logs ∙ ap (λ n. n + length logs) (length-map old log_in)))

-- there are words for the next process's handles
pub words_fit : (words : List (List (List ℕ))) (ps : List ProcessLines) (i n : ℕ) (p : ProcessLines) (hs : List HandleState) → i < length ps → p ≡ get_or ps i p
    → length hs ≡ length p.handles → n + length (flat_map echoes_by_handle (drop i ps)) ≡ length words → n + length hs ≤ length words
words_fit words ps i n p hs within is same count = let left = words_left ps i p within is in omega (arith, left, same, count)

-- and then for those that are left
pub words_count : (words : List (List (List ℕ))) (ps : List ProcessLines) (i : ℕ) (p : ProcessLines) (hs : List HandleState) (old new : List HandleText) (process : ℕ)
    → i < length ps → p ≡ get_or ps i p → length hs ≡ length p.handles → map log_in new ≡ map log_in old ++ handle_logs process p.handles hs
    → length old + length (flat_map echoes_by_handle (drop i ps)) ≡ length words → length new + length (flat_map echoes_by_handle (drop (i + 1) ps)) ≡ length words
words_count words ps i p hs old new process within is same lent count =
    let left = words_left ps i p within is in
    let more = lent_count old new (handle_logs process p.handles hs) lent in
    let own = length_handle_logs process p.handles hs same in
    omega (arith, left, same, count, more, own)
