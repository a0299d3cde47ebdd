-- Lines on a handle whose name is known, each of which is fine behind those before it, are read. What is left of the lines
-- before is the names of memory that they declare.
use Rattle.std.proofs.Common.{◌≡◌, ℕ, ◌+◌, ◌<◌, ◌≤◌, Bool, true, false, not, Option, Some, None, Result, Ok, Err, List, [], ◌∷◌, ◌++◌, if◌then◌else◌, length, option_and_then, nat_le, codes, bytes_eq, refl, ap, sym, ◌∙◌, subst, arith, append_assoc, length-append}
use Rattle.std.specs.List.{join_with_byte}
use Rattle.std.proofs.lemmas.Bool.Decides.{nat_tests}
use Rattle.std.proofs.lemmas.Grind.{flat_map-append}
use Rattle.std.proofs.lemmas.List.{append-nil}
use Rattle.std.proofs.lemmas.Option.{none-some}
use Rattle.vm_local.specs.declared.call.Call.{Call}
use Rattle.vm_script.specs.declared.fault.ScriptFault.{ScriptFault}
use Rattle.vm_script.specs.declared.fault.ScriptKind.{ScriptKind}
use Rattle.vm_script.specs.declared.fault.ScriptKind.TheVariants.{TooManyLines, NotBuilt}
use Rattle.vm_script.specs.declared.line.Line.{Line}
use Rattle.vm_script.specs.declared.line.LineKind.TheVariants.{OnHandle}
use Rattle.vm_script.specs.declared.statement.Statement.{Statement}
use Rattle.vm_script.specs.Words.{words_in, is_skipped}
use Rattle.vm_script.specs.Memory.{mention, mention_check, declared_by, declared_on, memories_of}
use Rattle.vm_script.specs.Names.{place_from}
use Rattle.vm_script.specs.Places.{and_then}
use Rattle.vm_script.specs.Statements.{statement_in}
use Rattle.vm_script.specs.Verbs.{begins}
use Rattle.vm_script.specs.Drafts.{ScriptDraft, with_device, with_process, with_own}
use Rattle.vm_script.specs.Grammar.{declares, handle_by, handle_for, with_statement, with_asked, with_words, with_any, with_built, at_line, with_line, with_lines}
use Rattle.vm_script.specs.Script.{ProcessLines}
use Rattle.vm_script.proofs.LineLemmas.{with_lines_ok}

-- ---- what is left of lines

abbrev pub Names : Type 0
Names = List (List ℕ)

-- these names, where the check is fine
abbrev pub where_fine : Result (Unit {0}) ScriptKind → Names → Option Names
where_fine (Ok done) names = Some names
where_fine (Err kind) names = None

-- the names behind a call, where it may stand behind lines that declare these
abbrev pub behind_call : Names → Call → Option Names
behind_call names call = if declares call then None else where_fine (mention_check (mention call) names) (names ++ declared_by (mention call))

abbrev pub behind_statement : Names → Result Statement ScriptKind → Option Names
behind_statement names (Ok s) = if bytes_eq (codes "a") s.handle then behind_call names s.call else None
behind_statement names (Err kind) = None

abbrev pub behind_words : Names → List (List ℕ) → Option Names
behind_words names words =
    if begins (codes "raw") words then None
    else (if begins (codes "device") words then None
    else (if begins (codes "proc") words then None else behind_statement names (statement_in words)))

abbrev pub behind_line : Names → List ℕ → Option Names
behind_line names line = if is_skipped line then None else behind_words names (words_in line)

-- the names behind lines, where each of them may stand where it does
abbrev pub behind : Names → List (List ℕ) → Option Names
behind names [] = Some names
behind names (line ∷ lines) = option_and_then (λ more. behind more lines) (behind_line names line)

-- ---- cases

if_some : {A : Type 0} (b : Bool) (o : Option A) (x : A) → (if b then None else o) ≡ Some x → (b ≡ false) × (o ≡ Some x)
if_some true o x e = absurd (none-some x e)
if_some false o x e = (refl, e)

then_some : {A : Type 0} (b : Bool) (o : Option A) (x : A) → (if b then o else None) ≡ Some x → (b ≡ true) × (o ≡ Some x)
then_some true o x e = (refl, e)
then_some false o x e = absurd (none-some x e)

and_some : {A B : Type 0} (f : A → Option B) (o : Option A) (y : B) → option_and_then f o ≡ Some y → (x : A) × (o ≡ Some x) × (f x ≡ Some y)
and_some f None y e = absurd (none-some y e)
and_some f (Some x) y e = (x, refl, e)

fine_some : (r : Result (Unit {0}) ScriptKind) (names more : Names) → where_fine r names ≡ Some more → (r ≡ Ok tt) × (names ≡ more)
fine_some (Ok tt) names more e = let same : names ≡ more = cc in (refl, same)
fine_some (Err kind) names more e = absurd (none-some more e)

statement_some : (names more : Names) (r : Result Statement ScriptKind) → behind_statement names r ≡ Some more
    → (s : Statement) × (r ≡ Ok s) × (bytes_eq (codes "a") s.handle ≡ true) × (behind_call names s.call ≡ Some more)
statement_some names more (Ok s) e = let named = then_some (bytes_eq (codes "a") s.handle) (behind_call names s.call) more e in (s, refl, named.0, named.1)
statement_some names more (Err kind) e = absurd (none-some more e)

-- ---- one line

-- the process has the handle alone, and its lines declare these names
pub record Ready (names : Names) (p : ProcessLines) : Type 0 where
  pub handles : p.handles ≡ codes "a" ∷ []
  pub memories : memories_of 0 p.lines ≡ names

placed : (full : Bool) (next : ℕ) (declared : Bool) (place : Option ℕ) (check : ℕ → Result (Unit {0}) ScriptKind) → full ≡ false → declared ≡ false → place ≡ Some 0 → check 0 ≡ Ok tt
    → (if full then Err TooManyLines else and_then (handle_by next declared place) (λ h. and_then (check h) (λ fine. Ok h))) ≡ Ok 0
placed full next declared place check few known there fine =
    let F : ℕ → Result ℕ ScriptKind = λ h. and_then (check h) (λ done. Ok h) in
    let A : Bool → Result ℕ ScriptKind = λ b. if b then Err TooManyLines else and_then (handle_by next declared place) F in
    let B : Bool → Result ℕ ScriptKind = λ b. and_then (handle_by next b place) F in
    let C : Option ℕ → Result ℕ ScriptKind = λ o. and_then (handle_by next false o) F in
    let D : Result (Unit {0}) ScriptKind → Result ℕ ScriptKind = λ r. and_then r (λ done. Ok 0) in
    ap A few ∙ (ap B known ∙ (ap C there ∙ ap D fine))

first_place : (word : List ℕ) (names : Names) → names ≡ codes "a" ∷ [] → bytes_eq (codes "a") word ≡ true → place_from 0 word names ≡ Some 0
first_place word names only same =
    let P : Bool → Option ℕ = λ b. if b then Some 0 else None in
    ap (place_from 0 word) only ∙ ap P same

handle_is : (names : Names) (p : ProcessLines) (s : Statement) → Ready names p → length p.lines < 1024 → bytes_eq (codes "a") s.handle ≡ true → declares s.call ≡ false → mention_check (mention s.call) names ≡ Ok tt
    → handle_for p s ≡ Ok 0
handle_is names p s ready few named known fine =
    let room : nat_le 1024 (length p.lines) ≡ false = grind (arith, nat_tests) in
    placed (nat_le 1024 (length p.lines)) (length p.handles) (declares s.call) (place_from 0 s.handle p.handles) (λ h. mention_check (mention s.call) (memories_of h p.lines)) room known
    (first_place s.handle p.handles ready.handles named) (ap (mention_check (mention s.call)) ready.memories ∙ fine)

statement_ready : (names more : Names) (p : ProcessLines) (number : ℕ) (echo : List ℕ) (s : Statement) → Ready names p → declares s.call ≡ false → names ++ declared_by (mention s.call) ≡ more → Ready more (with_statement p number echo s 0)
statement_ready names more p number echo s ready known is =
    let line : Line = record { number = number; echo = echo; what = OnHandle 0 s.call } in
    let H : Bool → Names = λ b. if b then p.handles ++ s.handle ∷ [] else p.handles in
    record {
      handles = ap H known ∙ ready.handles;
      memories = flat_map-append (λ (l : Line). declared_on 0 l.what) p.lines (line ∷ [])
          ∙ (ap (λ (x : Names). memories_of 0 p.lines ++ x) (append-nil (declared_by (mention s.call)))
          ∙ (ap (λ (x : Names). x ++ declared_by (mention s.call)) ready.memories ∙ is));
    }

-- what a line makes of a script's draft: its process is one line longer
pub record Grown (d : ScriptDraft) (number : ℕ) (line : List ℕ) (names : Names) : Type 0 where
  pub process : ProcessLines
  pub is : with_line d number line ≡ Ok (record d { begun = true; process = process })
  pub ready : Ready names process
  pub longer : length process.lines ≡ length d.process.lines + 1

line_of_words : (d : ScriptDraft) (number : ℕ) (line : List ℕ) (p : ProcessLines) → is_skipped line ≡ false → begins (codes "raw") (words_in line) ≡ false → begins (codes "device") (words_in line) ≡ false
    → begins (codes "proc") (words_in line) ≡ false → with_words d.process number (words_in line) ≡ Ok p → with_line d number line ≡ Ok (record d { begun = true; process = p })
line_of_words d number line p plain built other same is =
    let words : List (List ℕ) = words_in line in
    let S : Bool → Result ScriptDraft ScriptFault = λ b. if b then Ok d else at_line number (with_built d number words) in
    let L : Result ScriptDraft ScriptKind → Result ScriptDraft ScriptFault = λ r. at_line number r in
    let B : Bool → Result ScriptDraft ScriptKind = λ b. if not b then with_any d number words else Err NotBuilt in
    let P : Bool → Result ScriptDraft ScriptKind = λ b. if b then with_process d words else with_own d (with_words d.process number words) in
    let D : Bool → Result ScriptDraft ScriptKind = λ b. if b then with_device d words else P (begins (codes "proc") words) in
    let W : Result ProcessLines ScriptKind → Result ScriptDraft ScriptKind = λ r. with_own d r in
    ap S plain ∙ (ap L (ap B built ∙ (ap D other ∙ (ap P same ∙ ap W is))))

words_of_statement : (p : ProcessLines) (number : ℕ) (words : List (List ℕ)) (s : Statement) → statement_in words ≡ Ok s → handle_for p s ≡ Ok 0
    → with_words p number words ≡ Ok (with_statement p number (join_with_byte 32 words) s 0)
words_of_statement p number words s is on =
    let A : Result Statement ScriptKind → Result ProcessLines ScriptKind = λ r. and_then r (λ t. with_asked p number (join_with_byte 32 words) t) in
    let H : Result ℕ ScriptKind → Result ProcessLines ScriptKind = λ r. and_then r (λ h. Ok (with_statement p number (join_with_byte 32 words) s h)) in
    ap A is ∙ ap H on

pub line_grown : (names more : Names) (d : ScriptDraft) (number : ℕ) (line : List ℕ) → behind_line names line ≡ Some more → Ready names d.process → length d.process.lines < 1024 → Grown d number line more
line_grown names more d number line fine ready few =
    let words : List (List ℕ) = words_in line in
    let plain = if_some (is_skipped line) (behind_words names words) more fine in
    let built = if_some (begins (codes "raw") words) (if begins (codes "device") words then None else (if begins (codes "proc") words then None else behind_statement names (statement_in words))) more plain.1 in
    let other = if_some (begins (codes "device") words) (if begins (codes "proc") words then None else behind_statement names (statement_in words)) more built.1 in
    let same = if_some (begins (codes "proc") words) (behind_statement names (statement_in words)) more other.1 in
    let asks = statement_some names more (statement_in words) same.1 in
    let s : Statement = asks.0 in
    let known = if_some (declares s.call) (where_fine (mention_check (mention s.call) names) (names ++ declared_by (mention s.call))) more asks.3 in
    let checked = fine_some (mention_check (mention s.call) names) (names ++ declared_by (mention s.call)) more known.1 in
    let p : ProcessLines = with_statement d.process number (join_with_byte 32 words) s 0 in
    let on = handle_is names d.process s ready few asks.2 known.0 checked.0 in
    record {
      process = p;
      is = line_of_words d number line p plain.0 built.0 other.0 same.0 (words_of_statement d.process number words s asks.1 on);
      ready = statement_ready names more d.process number (join_with_byte 32 words) s ready known.0 checked.1;
      longer = length-append d.process.lines (record { number = number; echo = join_with_byte 32 words; what = OnHandle 0 s.call } ∷ []);
    }

-- ---- lines

-- the lines, from this number on, lead from one draft to another, which the next line meets with that number
abbrev pub Leads : ScriptDraft → ℕ → List (List ℕ) → ScriptDraft → ℕ → Type 0
Leads d number lines e next = (rest : List (List ℕ)) → with_lines d number (lines ++ rest) ≡ with_lines e next rest

pub leads_first : (d e f : ScriptDraft) (number next : ℕ) (line : List ℕ) (lines : List (List ℕ)) → with_line d number line ≡ Ok e → Leads e (number + 1) lines f next → Leads d number (line ∷ lines) f next
leads_first d e f number next line lines is leads = λ rest. with_lines_ok d e number line (lines ++ rest) is ∙ leads rest

pub leads_then : (d e f : ScriptDraft) (number next last : ℕ) (xs ys : List (List ℕ)) → Leads d number xs e next → Leads e next ys f last → Leads d number (xs ++ ys) f last
leads_then d e f number next last xs ys first second = λ rest. ap (with_lines d number) (append_assoc xs ys rest) ∙ (first (ys ++ rest) ∙ second rest)

-- the lines are read, and the processes before are as they were
pub record AreRead (d : ScriptDraft) (number : ℕ) (lines : List (List ℕ)) (earlier : List ProcessLines) : Type 0 where
  pub draft : ScriptDraft
  pub next : ℕ
  pub leads : Leads d number lines draft next
  pub before : draft.before ≡ earlier

pub lines_read : (lines : List (List ℕ)) (names more : Names) (d : ScriptDraft) (number : ℕ) → behind names lines ≡ Some more → Ready names d.process → length d.process.lines + length lines ≤ 1024 → AreRead d number lines d.before
lines_read [] names more d number fine ready few = record { draft = d; next = number; leads = λ rest. refl; before = refl }
lines_read (line ∷ lines) names more d number fine ready few =
    let first = and_some (λ ns. behind ns lines) (behind_line names line) more fine in
    let one = line_grown names first.0 d number line first.1 ready (omega (arith, few)) in
    let e : ScriptDraft = record d { begun = true; process = one.process } in
    let longer : length one.process.lines ≡ length d.process.lines + 1 = one.longer in
    let others = lines_read lines first.0 more e (number + 1) first.2 one.ready (omega (arith, few, longer)) in
    record {
      draft = others.draft;
      next = others.next;
      leads = leads_first d e others.draft number others.next line lines one.is others.leads;
      before = others.before;
    }

pub behind_append : (xs ys : List (List ℕ)) (names more most : Names) → behind names xs ≡ Some more → behind more ys ≡ Some most → behind names (xs ++ ys) ≡ Some most
behind_append [] ys names more most first rest =
    let same : names ≡ more = cc in
    subst (λ ns. behind ns ys ≡ Some most) (sym same) rest
behind_append (x ∷ xs) ys names more most first rest =
    let one = and_some (λ ns. behind ns xs) (behind_line names x) more first in
    let next : Names → Option Names = λ ns. behind ns (xs ++ ys) in
    ap (option_and_then next) one.1 ∙ behind_append xs ys one.0 more most one.2 rest
