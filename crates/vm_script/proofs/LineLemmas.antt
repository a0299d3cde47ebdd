-- What one line does to a process and to a script.
use Rattle.std.proofs.Common.{◌≡◌, ℕ, ◌+◌, ◌<◌, ◌≤◌, Bool, true, false, Option, Some, None, Result, Ok, Err, List, ◌∷◌, if◌then◌else◌, length, drop, get_or, refl, ap, sym, ◌∙◌, subst, arith}
use Rattle.std.specs.Prelude.{nat_le}
use Rattle.std.proofs.lemmas.List.{drop_more, drop_all}
use Rattle.std.proofs.lemmas.Bool.Decides.{nat_tests}
use Rattle.vm_script.specs.declared.fault.ScriptError.{ScriptError}
use Rattle.vm_script.specs.declared.fault.ScriptError.TheVariants.{Fault, Memory}
use Rattle.vm_script.specs.declared.fault.ScriptFault.{ScriptFault}
use Rattle.vm_script.specs.declared.fault.ScriptKind.{ScriptKind}
use Rattle.vm_script.specs.declared.fault.ScriptKind.TheVariants.{TooManyLines}
use Rattle.vm_script.specs.declared.statement.Statement.{Statement}
use Rattle.vm_script.specs.Words.{lines_in}
use Rattle.vm_script.specs.Memory.{mention, mention_check, memories_of}
use Rattle.vm_script.specs.Names.{place_from}
use Rattle.vm_script.specs.Places.{and_then}
use Rattle.vm_script.specs.Drafts.{ScriptDraft, no_script}
use Rattle.vm_script.specs.Grammar.{declares, handle_by, handle_of, handle_for, with_line, with_lines, drafted, as_script, script_of}
use Rattle.vm_script.specs.Script.{ProcessLines}
use Rattle.vm_script.specs.Reading.{Becomes, Gives}

-- ---- the handle of a statement

-- what is known of a statement on a handle: there is room for its line, its name of memory fits those before it, and the
-- handle is the next one or one of a name that is declared
pub record IsOn (p : ProcessLines) (s : Statement) (h : ℕ) : Type 0 where
  pub few : length p.lines < 1024
  pub place : handle_by (length p.handles) (declares s.call) (place_from 0 s.handle p.handles) ≡ Ok h
  pub memory : mention_check (mention s.call) (memories_of h p.lines) ≡ Ok tt

on_checked : (p : ProcessLines) (s : Statement) (k h : ℕ) → length p.lines < 1024 → handle_by (length p.handles) (declares s.call) (place_from 0 s.handle p.handles) ≡ Ok k
    → (check : Result (Unit {0}) ScriptKind) → mention_check (mention s.call) (memories_of k p.lines) ≡ check → and_then check (λ fine. Ok k) ≡ Ok h → IsOn p s h
on_checked p s k h few e (Ok tt) m g =
    let same : k ≡ h = cc in
    subst (IsOn p s) same (record { few = few; place = e; memory = m })
on_checked p s k h few e (Err kind) m g = absurd (cc)

on_placed : (p : ProcessLines) (s : Statement) (h : ℕ) → length p.lines < 1024 → (r : Result ℕ ScriptKind) → handle_by (length p.handles) (declares s.call) (place_from 0 s.handle p.handles) ≡ r
    → and_then r (λ k. and_then (mention_check (mention s.call) (memories_of k p.lines)) (λ fine. Ok k)) ≡ Ok h → IsOn p s h
on_placed p s h few (Ok k) e g = on_checked p s k h few e (mention_check (mention s.call) (memories_of k p.lines)) refl g
on_placed p s h few (Err kind) e g = absurd (cc)

on_limited : (p : ProcessLines) (s : Statement) (h : ℕ) (full : Bool) → nat_le 1024 (length p.lines) ≡ full → (if full then Err TooManyLines else handle_of p s) ≡ Ok h → IsOn p s h
on_limited p s h true e g = absurd (cc)
on_limited p s h false e g = on_placed p s h (grind (arith, nat_tests)) (handle_by (length p.handles) (declares s.call) (place_from 0 s.handle p.handles)) refl g

pub is_on : (p : ProcessLines) (s : Statement) (h : ℕ) → handle_for p s ≡ Ok h → IsOn p s h
is_on p s h g = on_limited p s h (nat_le 1024 (length p.lines)) refl g

pub by_place : (A : Type 0) (next h : ℕ) (declared : Bool) (place : Option ℕ) → handle_by next declared place ≡ Ok h → (declared ≡ true → h ≡ next → A) → (declared ≡ false → place ≡ Some h → A) → A
by_place A next h true None e new known = new refl (cc)
by_place A next h true (Some k) e new known = absurd (cc)
by_place A next h false None e new known = absurd (cc)
by_place A next h false (Some k) e new known = known refl (ap Some (cc))

-- ---- the lines of a script, one after the other

pub with_lines_ok : (d e : ScriptDraft) (number : ℕ) (line : List ℕ) (lines : List (List ℕ)) → with_line d number line ≡ Ok e → with_lines d number (line ∷ lines) ≡ with_lines e (number + 1) lines
with_lines_ok d e number line lines is = rw is refl

pub with_lines_err : (d : ScriptDraft) (f : ScriptFault) (number : ℕ) (line : List ℕ) (lines : List (List ℕ)) → with_line d number line ≡ Err f → with_lines d number (line ∷ lines) ≡ Err f
with_lines_err d f number line lines is = rw is refl

-- one line more is read
pub reads_more : (d e : ScriptDraft) (n : ℕ) (lines : List (List ℕ)) (line : List ℕ) (all : Result ScriptDraft ScriptFault) → n < length lines → line ≡ get_or lines n line → with_line d (n + 1) line ≡ Ok e → with_lines d (n + 1) (drop n lines) ≡ all → with_lines e (n + 1 + 1) (drop (n + 1) lines) ≡ all
reads_more d e n lines line all h at f g =
    let here : drop n lines ≡ line ∷ drop (n + 1) lines = drop_more lines n line h ∙ ap (λ x. x ∷ drop (n + 1) lines) (sym at) in
    sym (with_lines_ok d e (n + 1) line (drop (n + 1) lines) f) ∙ ap (λ ls. with_lines d (n + 1) ls) (sym here) ∙ g

-- one line is faulty
pub reads_fault : (d : ScriptDraft) (f : ScriptFault) (n : ℕ) (lines : List (List ℕ)) (line : List ℕ) (all : Result ScriptDraft ScriptFault) → n < length lines → line ≡ get_or lines n line → with_line d (n + 1) line ≡ Err f → with_lines d (n + 1) (drop n lines) ≡ all → all ≡ Err f
reads_fault d f n lines line all h at k g =
    let here : drop n lines ≡ line ∷ drop (n + 1) lines = drop_more lines n line h ∙ ap (λ x. x ∷ drop (n + 1) lines) (sym at) in
    sym g ∙ ap (λ ls. with_lines d (n + 1) ls) here ∙ with_lines_err d f (n + 1) line (drop (n + 1) lines) k

-- all lines are read
pub reads_all : (d : ScriptDraft) (n : ℕ) (lines : List (List ℕ)) (all : Result ScriptDraft ScriptFault) → length lines ≤ n → with_lines d (n + 1) (drop n lines) ≡ all → all ≡ Ok d
reads_all d n lines all h g = sym g ∙ ap (λ ls. with_lines d (n + 1) ls) (drop_all n lines h)

-- the script's fault is its first faulty line's
pub gives_err : (bytes : List ℕ) (d r : ScriptDraft) (n : ℕ) (line : List ℕ) (e : ScriptError) → n < length (lines_in bytes) → line ≡ get_or (lines_in bytes) n line → Becomes (with_line d (n + 1) line) r (Err e) → with_lines d (n + 1) (drop n (lines_in bytes)) ≡ with_lines no_script 1 (lines_in bytes) → Gives (script_of bytes) (Err e)
gives_err bytes d r n line (Fault f) h at b g = ap as_script (reads_fault d f n (lines_in bytes) line _ h at b g)
gives_err bytes d r n line Memory h at b g = tt

-- the script is the one that all lines give
pub gives_ok : (bytes : List ℕ) (d : ScriptDraft) (n : ℕ) → length (lines_in bytes) ≤ n → with_lines d (n + 1) (drop n (lines_in bytes)) ≡ with_lines no_script 1 (lines_in bytes) → script_of bytes ≡ Ok (drafted d)
gives_ok bytes d n h g = ap as_script (reads_all d n (lines_in bytes) _ h g)
