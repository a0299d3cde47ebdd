-- Lemmas on a seed's run: where it ends, and what is printed of it.
use Rattle.std.proofs.Common.{◌≡◌, ℕ, suc, ◌+◌, ◌<◌, ◌-◌, List, [], ◌∷◌, Result, Ok, Err, length, get_or, flat_map, refl, sym, ap, ◌∙◌, subst, arith, IfOk, inl, inr}
use Rattle.std.specs.Prelude.{sum_by}
use Rattle.std.proofs.lemmas.List.Sums.{sum_by-cons, sum_by-append}
use Rattle.vm_handle.specs.Handle.{HandleState}
use Rattle.vm_script.specs.Reading.{IsReadScript}
use Rattle.vm_script.specs.Script.{ProcessLines, ScriptLines}
use Rattle.vm_guest.specs.Guest.{process_in}
use Rattle.vm_guest.specs.Orderly.{IsDriver, no_lines}
use Rattle.vm_guest.specs.Process.{ProcessState, handle_in}
use Rattle.vm_realm.specs.declared.step.Step.{Step}
use Rattle.vm_realm.specs.Left.{bad_in, bad_count, messages_of}
use Rattle.vm_realm.specs.Schedule.{Schedules, IsScheduled, next_state}
use Rattle.vm_realm.specs.Sound.{IsSound}
use Rattle.vm_realm.specs.World.{WorldState, IsDone, IsOpening}
use Rattle.vm_realm.proofs.EachLemmas.{runs_end}
use Rattle.vm_realm.proofs.RunnableLemmas.{read_runnable}
use Rattle.vm_sched.proofs.ScheduleLemmas.{schedule_leads}
use Rattle.vm_sched.specs.Hands.{FailsWithin}
use Rattle.vm_report.proofs.CompleteLemmas.{one_run}
use Rattle.vm_report.specs.Logs.{HandleLog}
use Rattle.vm_report.specs.Printed.{IsPrintedWith}
use Rattle.vm_output.specs.Printing.{handle_log, handle_logs, process_logs, words_of}
use Rattle.vm_output.specs.ScriptLogs.{logs_of_world}
use Rattle.vm_output.proofs.DoneLemmas.{logs_are}
use Rattle.vmedia.specs.Run.{Failures, FailedFor, bad_among, IsRun}

-- a schedule ends where every line is answered
pub scheduled_done : (steps : List Step) (w : WorldState) (x : ℕ) (w' : WorldState) → Schedules steps w x w' → IsDone w'
scheduled_done [] w x w' runs = subst IsDone (sym runs.1) runs.0
scheduled_done (s ∷ ss) w x w' runs = scheduled_done ss runs.2.0 (next_state x) w' runs.2.2

-- ---- frames that failed

bad_handles : (process : ℕ) (names : List (List ℕ)) (hs : List HandleState) → length hs ≡ length names
    → sum_by (λ log. bad_in log.entries) (handle_logs process names hs) ≡ sum_by (λ h. bad_in h.log.entries) hs
bad_handles process [] [] same = refl
bad_handles process [] (x ∷ xs) same = cc
bad_handles process (name ∷ names) [] same = cc
bad_handles process (name ∷ names) (x ∷ xs) same =
    sum_by-cons (λ (log : HandleLog). bad_in log.entries) (handle_log process name x) (handle_logs process names xs) ∙
    (ap (λ n. bad_in x.log.entries + n) (bad_handles process names xs (omega (arith, same))) ∙ sym (sum_by-cons (λ (h : HandleState). bad_in h.log.entries) x xs))

bad_processes : (process : ℕ) (ps : List ProcessLines) (states : List ProcessState) → length states ≡ length ps
    → ((m : ℕ) → m < length states → length (process_in states m).handles ≡ length (get_or ps m no_lines).handles)
    → sum_by (λ log. bad_in log.entries) (process_logs process ps states) ≡ sum_by (λ h. bad_in h.log.entries) (flat_map (λ p. p.handles) states)
bad_processes process [] [] same named = refl
bad_processes process [] (s ∷ ss) same named = cc
bad_processes process (p ∷ ps) [] same named = cc
bad_processes process (p ∷ ps) (s ∷ ss) same named =
    let first = bad_handles process p.handles s.handles (named 0 (omega arith)) in
    let rest = bad_processes (process + 1) ps ss (omega (arith, same)) (λ m within. named (suc m) (omega (arith, within))) in
    sum_by-append (λ log. bad_in log.entries) (handle_logs process p.handles s.handles) (process_logs (process + 1) ps ss) ∙
    (rw (first, rest) refl ∙ sym (sum_by-append (λ h. bad_in h.log.entries) s.handles (flat_map (λ q. q.handles) ss)))

no_bad_handles : (hs : List HandleState) → ((h : ℕ) → h < length hs → (handle_in hs h).log.entries ≡ []) → sum_by (λ h. bad_in h.log.entries) hs ≡ 0
no_bad_handles [] each = refl
no_bad_handles (x ∷ xs) each =
    sum_by-cons (λ (h : HandleState). bad_in h.log.entries) x xs ∙ rw (each 0 (omega arith), no_bad_handles xs (λ h within. each (suc h) (omega (arith, within)))) refl

no_bad_processes : (states : List ProcessState) → ((n h : ℕ) → n < length states → h < length (process_in states n).handles → (handle_in (process_in states n).handles h).log.entries ≡ [])
    → sum_by (λ h. bad_in h.log.entries) (flat_map (λ p. p.handles) states) ≡ 0
no_bad_processes [] each = refl
no_bad_processes (s ∷ ss) each =
    sum_by-append (λ h. bad_in h.log.entries) s.handles (flat_map (λ q. q.handles) ss) ∙
    rw (no_bad_handles s.handles (λ h inside. each 0 h (omega arith) inside), no_bad_processes ss (λ n h within inside. each (suc n) h (omega (arith, within)) inside)) refl

-- before the first line none failed
none_bad : (script : ScriptLines) (w : WorldState) → IsOpening script w → bad_count w ≡ 0
none_bad script w begins =
    let none : messages_of w ≡ [] = rw (begins.guest.pump, begins.events, begins.device) refl in
    let logs = no_bad_processes w.guest.processes (λ n h within inside. ap (λ (x : HandleState). x.log.entries) ((begins.guest.fresh n within).fresh h inside)) in
    rw (logs, none) refl

-- ---- the whole run

few_bad : (script : ScriptLines) (w w' : WorldState) (fails : Failures) → w'.script ≡ script → IsSound w' → bad_count w ≡ 0 → FailsWithin w w' fails.before fails.after
    → FailedFor (bad_among (logs_of_world script w')) fails
few_bad script w w' fails is (rows, sound) none (inr full) = inr full
few_bad script w w' fails is (rows, sound) none (inl few) =
    let driver : IsDriver script w'.guest = subst (λ s. IsDriver s w'.guest) is sound.lines in
    let same = bad_processes 0 script.processes w'.guest.processes driver.count (λ n within. (driver.orderly n within).named) in
    inl (omega (arith, few, none, same))

-- what is printed of a world to which the schedule led is the text of the seed's run
pub ran : (seed : ℕ) (fails : Failures) (script : ScriptLines) (w w' : WorldState) (text : List ℕ) → IsReadScript script → IsOpening script w → IsScheduled w seed w' → w'.script ≡ w.script
    → IsSound w' → FailsWithin w w' fails.before fails.after → IsPrintedWith (words_of script) text (logs_of_world script w') → IsRun seed fails script text
ran seed fails script w w' text read begins scheduled same sound within printed =
    let done = scheduled_done scheduled.0 w seed w' scheduled.1 in
    let is : w'.script ≡ script = same ∙ begins.is in (
      w,
      w',
      record {
        begins = begins;
        scheduled = scheduled;
        few = λ steps runs. runs_end script w w' steps (read_runnable script read) begins (schedule_leads w w' steps seed runs);
        logs = logs_are script w' read is sound done;
        few_bad = few_bad script w w' fails is sound (none_bad script w begins) within;
        words = printed;
        told = record {
          printed = (words_of script, printed);
          alone = λ others tells. one_run text others (logs_of_world script w') tells (words_of script, printed);
        };
      },
    )

-- what follows of each value follows of an outcome's
pub ok_weaken : {A E : Type 0} (r : Result A E) (P Q : A → Type 0) → ((x : A) → P x → Q x) → IfOk r P → IfOk r Q
ok_weaken (Ok x) P Q follows holds = follows x holds
ok_weaken (Err e) P Q follows holds = tt
