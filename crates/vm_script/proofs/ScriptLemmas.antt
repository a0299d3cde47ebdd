-- What a script that was read has.
use Rattle.std.proofs.Common.{◌≡◌, ℕ, zero, suc, ◌+◌, ◌-◌, ◌^◌, ◌<◌, ◌≤◌, Bool, true, false, ◌&&◌, Result, Ok, Err, List, [], ◌∷◌, ◌++◌, if◌then◌else◌, length, take, get_or, ◌==◌, refl, ap, sym, ◌∙◌, subst, arith, length-append, append_assoc, Some, None}
use Rattle.std.specs.Prelude.{All, codes, nat_le}
use Rattle.std.specs.List.{AllByRecursion, join_with_byte, list_all}
use Rattle.std.specs.Option.{ok_or}
use Rattle.std.proofs.lemmas.List.{append-nil, get_or_append_left}
use Rattle.std.proofs.lemmas.Bool.Decides.{nat_tests}
use Rattle.std.proofs.lemmas.List.Elements.{All-push, All-weaker, All-nil}
use Rattle.v4l_const.specs.declared.model.Model.{Model}
use Rattle.vm_local.specs.declared.call.Call.{Call}
use Rattle.vm_local.specs.declared.call.Call.TheVariants.{OpenHandle}
use Rattle.vm_script.specs.declared.fault.ScriptFault.{ScriptFault}
use Rattle.vm_script.specs.declared.fault.ScriptKind.{ScriptKind}
use Rattle.vm_script.specs.declared.fault.ScriptKind.TheVariants.{Word, TooManyProcesses, NotBuilt}
use Rattle.vm_script.specs.declared.statement.Statement.{Statement}
use Rattle.vm_script.specs.declared.line.Line.{Line}
use Rattle.vm_script.specs.declared.line.LineKind.{LineKind}
use Rattle.vm_script.specs.declared.line.LineKind.TheVariants.{OnHandle, Raw}
use Rattle.vm_script.specs.Words.{IsEcho, lines_in, words_in, is_skipped, pieces_by, onto_first, ends_line}
use Rattle.vm_script.specs.Memory.{mention, mention_check, memories_of}
use Rattle.vm_script.specs.Names.{place_from}
use Rattle.vm_script.specs.Places.{and_then}
use Rattle.vm_script.specs.Statements.{statement_in, built_statement_in, is_statement, reads_as}
use Rattle.vm_script.specs.Verbs.{begins, is_built_line}
use Rattle.vm_script.specs.Drafts.{ScriptDraft, no_lines, no_script, process_limit, device_in, with_device, with_more as with_process_more, with_process, with_own}
use Rattle.vm_script.specs.Grammar.{declares, handle_for, with_statement, with_asked, with_words, with_any, with_built, at_line, with_line, with_lines, drafted, as_script, script_of}
use Rattle.vm_script.specs.Lines.{lines_of, call_on}
use Rattle.vm_script.specs.Script.{ProcessLines, ScriptLines}
use Rattle.vm_script.specs.Reading.{Fits32, IsName, InRange, IsReadCall, IsReadKind, IsReadLine, IsReadProcess, IsReadScript, Fits, InOrder, FitsNames, DeclareInOrder, opens, opens_in}
use Rattle.vm_script.proofs.LineLemmas.{IsOn, is_on, by_place, with_lines_ok, with_lines_err}
use Rattle.vm_script.proofs.NameLemmas.{place_within, place_name}
use Rattle.vm_script.proofs.EchoLemmas.{echo_is}
use Rattle.vm_script.proofs.StatementLemmas.{statement_range, statement_name, statement_is}
use Rattle.vm_script.proofs.WordLemmas.{is_whole, pieces_whole, echo_words}

-- ---- echoes

-- a line's words, joined by one space, read as its statement
echo_reads : (line : List ℕ) (s : Statement) → built_statement_in (words_in line) ≡ Ok s → reads_as (join_with_byte 32 (words_in line)) s.handle s.call ≡ true
echo_reads line s e = ap (λ words. is_statement s.handle s.call (built_statement_in words)) (echo_words line) ∙ statement_is (words_in line) s e

-- ---- the names grow

last_name : (names : List (List ℕ)) (name : List ℕ) → get_or (names ++ name ∷ []) (length names) [] ≡ name
last_name [] name = refl
last_name (n ∷ ns) name = last_name ns name

call_grown : (names : List (List ℕ)) (name : List ℕ) (echo : List ℕ) (h : ℕ) (call : Call) → IsReadCall names echo h call → IsReadCall (names ++ name ∷ []) echo h call
call_grown names name echo h call r = record {
  within = simp length-append (omega (arith, r.within));
  range = r.range;
  reads = subst (λ n. reads_as echo n call ≡ true) (sym (get_or_append_left names (name ∷ []) [] h r.within)) r.reads;
}

kind_grown : (names : List (List ℕ)) (name : List ℕ) (echo : List ℕ) (what : LineKind) → IsReadKind names echo what → IsReadKind (names ++ name ∷ []) echo what
kind_grown names name echo (OnHandle h call) r = call_grown names name echo h call r
kind_grown names name echo (Raw chain) r = r

line_grown : (names : List (List ℕ)) (name : List ℕ) (l : Line) → IsReadLine names l → IsReadLine (names ++ name ∷ []) l
line_grown names name l r = record { number = r.number; echo = r.echo; what = kind_grown names name l.echo l.what r.what }

all_push : (names : List (List ℕ)) (name : List ℕ) → AllByRecursion IsName names → IsName name → AllByRecursion IsName (names ++ name ∷ [])
all_push [] name all is = (is, tt)
all_push (n ∷ ns) name all is = (all.0, all_push ns name all.1 is)

-- ---- the order grows

opens_push : (ls : List Line) (l : Line) → opens_in (ls ++ l ∷ []) ≡ opens_in ls + opens l.what
opens_push [] l = omega arith
opens_push (m ∷ ms) l = rw (opens_push ms l) (omega arith)

order_push : (opened : ℕ) (ls : List Line) (l : Line) → InOrder opened ls → Fits (opened + opens_in ls) l.what → InOrder opened (ls ++ l ∷ [])
order_push opened [] l o f = (subst (λ n. Fits n l.what) (omega arith) f, tt)
order_push opened (m ∷ ms) l o f = (o.0, order_push (opened + opens m.what) ms l o.1 (subst (λ n. Fits n l.what) (omega arith) f))

-- ---- the names of memory grow

declare_push : (before ls : List Line) (l : Line) → DeclareInOrder before ls → FitsNames (before ++ ls) l.what → DeclareInOrder before (ls ++ l ∷ [])
declare_push before [] l o f = (subst (λ ms. FitsNames ms l.what) (append-nil before) f, tt)
declare_push before (m ∷ ms) l o f = (o.0, declare_push (before ++ m ∷ []) ms l o.1 (subst (λ ns. FitsNames ns l.what) (sym (append_assoc before (m ∷ []) ms)) f))

-- ---- the process of each line

fits_new : (opened h : ℕ) (call : Call) → declares call ≡ true → h ≡ opened → Fits opened (OnHandle h call)
fits_new opened h (OpenHandle nonblock) e same = same
fits_new opened h call e same = absurd (cc)

fits_known : (opened h : ℕ) (call : Call) → declares call ≡ false → h < opened → Fits opened (OnHandle h call)
fits_known opened h (OpenHandle nonblock) e less = absurd (cc)
fits_known opened h call e less = less

opens_new : (h : ℕ) (call : Call) → declares call ≡ true → opens (OnHandle h call) ≡ 1
opens_new h (OpenHandle nonblock) e = refl
opens_new h call e = absurd (cc)

opens_known : (h : ℕ) (call : Call) → declares call ≡ false → opens (OnHandle h call) ≡ 0
opens_known h (OpenHandle nonblock) e = absurd (cc)
opens_known h call e = refl

-- the name of memory in a statement on a handle fits the lines before it
abbrev FitsMemory : ProcessLines → Statement → ℕ → Type 0
FitsMemory p s h = mention_check (mention s.call) (memories_of h p.lines) ≡ Ok tt

-- a process with these names and one line more
abbrev with_more : ProcessLines → List (List ℕ) → ℕ → List ℕ → Statement → ℕ → ProcessLines
with_more p names number echo s h = record { handles = names; lines = p.lines ++ record { number = number; echo = echo; what = OnHandle h s.call } ∷ [] }

new_read : (p : ProcessLines) (number : ℕ) (echo : List ℕ) (s : Statement) → Fits32 number → IsReadProcess p → length p.lines < 1024 → FitsMemory p s (length p.handles) → declares s.call ≡ true → IsName s.handle → IsEcho echo → InRange s.call → reads_as echo s.handle s.call ≡ true
    → IsReadProcess (with_more p (p.handles ++ s.handle ∷ []) number echo s (length p.handles))
new_read p number echo s fits r few memory new name single range reads =
    let names : List (List ℕ) = p.handles ++ s.handle ∷ [] in
    let read : IsReadCall names echo (length p.handles) s.call = record {
      within = simp length-append (omega arith);
      range = range;
      reads = rw (last_name p.handles s.handle) reads;
    } in
    record {
      limit = simp length-append (omega arith);
      handles = all_push p.handles s.handle r.handles name;
      each = All-push (IsReadLine names) p.lines _ (All-weaker (IsReadLine p.handles) (IsReadLine names) (λ l. line_grown p.handles s.handle l) p.lines r.each) (record { number = fits; echo = single; what = read });
      order = order_push 0 p.lines _ r.order (fits_new (0 + opens_in p.lines) (length p.handles) s.call new (r.opened ∙ omega arith));
      opened = rw (opens_push p.lines _, length-append p.handles (s.handle ∷ []), opens_new (length p.handles) s.call new) (omega (arith, r.opened));
      names = declare_push [] p.lines _ r.names memory;
    }

known_read : (p : ProcessLines) (number : ℕ) (echo : List ℕ) (s : Statement) (h : ℕ) → Fits32 number → IsReadProcess p → length p.lines < 1024 → FitsMemory p s h → declares s.call ≡ false → place_from 0 s.handle p.handles ≡ Some h → IsEcho echo → InRange s.call → reads_as echo s.handle s.call ≡ true
    → IsReadProcess (with_more p p.handles number echo s h)
known_read p number echo s h fits r few memory known place single range reads =
    let here : h < length p.handles = place_within s.handle p.handles h place in
    let read : IsReadCall p.handles echo h s.call = record {
      within = here;
      range = range;
      reads = rw (place_name s.handle p.handles h place) reads;
    } in
    record {
      limit = simp length-append (omega arith);
      handles = r.handles;
      each = All-push (IsReadLine p.handles) p.lines _ r.each (record { number = fits; echo = single; what = read });
      order = order_push 0 p.lines _ r.order (fits_known (0 + opens_in p.lines) h s.call known (omega (arith, r.opened)));
      opened = rw (opens_push p.lines _, opens_known h s.call known) (omega (arith, r.opened));
      names = declare_push [] p.lines _ r.names memory;
    }

-- the process with a statement's line, by whether it declares the name
abbrev by_declared : ProcessLines → ℕ → List ℕ → Statement → ℕ → Bool → ProcessLines
by_declared p number echo s h declared = with_more p (if declared then p.handles ++ s.handle ∷ [] else p.handles) number echo s h

statement_read : (p : ProcessLines) (number : ℕ) (line : List ℕ) (s : Statement) (h : ℕ) → Fits32 number → is_whole ends_line line ≡ true → IsReadProcess p → built_statement_in (words_in line) ≡ Ok s → handle_for p s ≡ Ok h → IsReadProcess (with_statement p number (join_with_byte 32 (words_in line)) s h)
statement_read p number line s h fits whole r asks on =
    let echo : List ℕ = join_with_byte 32 (words_in line) in
    let range : InRange s.call = statement_range (words_in line) s asks in
    let name : IsName s.handle = statement_name (words_in line) s asks in
    let single : IsEcho echo = echo_is line whole in
    let reads : reads_as echo s.handle s.call ≡ true = echo_reads line s asks in
    let stands : IsOn p s h = is_on p s h on in
    let P : Bool → Type 0 = λ declared. IsReadProcess (by_declared p number echo s h declared) in
    by_place (IsReadProcess (with_statement p number echo s h)) (length p.handles) h (declares s.call) (place_from 0 s.handle p.handles) stands.place
    (λ new next. subst P (sym new) (subst (λ k. IsReadProcess (by_declared p number echo s k true)) (sym next) (new_read p number echo s fits r stands.few (subst (FitsMemory p s) next stands.memory) new name single range reads)))
    (λ known place. subst P (sym known) (known_read p number echo s h fits r stands.few stands.memory known place single range reads))

-- ---- what gave an outcome

then_gave : {T U E : Type 0} → (r : Result T E) (f : T → Result U E) (y : U) → and_then r f ≡ Ok y → (x : T) × (r ≡ Ok x) × (f x ≡ Ok y)
then_gave (Ok x) f y g = (x, refl, g)
then_gave (Err kind) f y g = absurd (cc)

else_gave : {T E : Type 0} → (b : Bool) (e : E) (r : Result T E) (y : T) → (if b then Err e else r) ≡ Ok y → (b ≡ false) × (r ≡ Ok y)
else_gave true e r y g = absurd (cc)
else_gave false e r y g = (refl, g)

if_gave : {T E : Type 0} → (b : Bool) (e : E) (r : Result T E) (y : T) → (if b then r else Err e) ≡ Ok y → (b ≡ true) × (r ≡ Ok y)
if_gave true e r y g = (refl, g)
if_gave false e r y g = absurd (cc)

-- whichever of the two it is
either_gave : {T E : Type 0} → (A : Type 0) (b : Bool) (r t : Result T E) (y : T) → (if b then r else t) ≡ Ok y → (r ≡ Ok y → A) → (t ≡ Ok y → A) → A
either_gave A true r t y g one other = one g
either_gave A false r t y g one other = other g

line_gave : {T : Type 0} → (number : ℕ) (r : Result T ScriptKind) (y : T) → at_line number r ≡ Ok y → r ≡ Ok y
line_gave number (Ok x) y g = let same : x ≡ y = cc in rw same refl
line_gave number (Err kind) y g = absurd (cc)

-- ---- the draft of each line

-- a draft as the lines of a script give it
record IsReadDraft (d : ScriptDraft) : Type 0 where
  few : length d.before < process_limit
  each : All IsReadProcess d.before
  process : IsReadProcess d.process

none_read : IsReadProcess no_lines
none_read = record {
  limit = omega arith;
  handles = tt;
  each = All-nil (IsReadLine []);
  order = tt;
  opened = refl;
  names = tt;
}

same_ok : {T : Type 0} → (x y : T) (r : Result T ScriptKind) → r ≡ Ok x → r ≡ Ok y → x ≡ y
same_ok x y r e g = cc

words_read : (p q : ProcessLines) (number : ℕ) (line : List ℕ) → Fits32 number → is_whole ends_line line ≡ true → is_built_line (words_in line) ≡ true → IsReadProcess p → with_words p number (words_in line) ≡ Ok q → IsReadProcess q
words_read p q number line fits whole built r g =
    let echo : List ℕ = join_with_byte 32 (words_in line) in
    let asked = then_gave (statement_in (words_in line)) (λ s. with_asked p number echo s) q g in
    let on = then_gave (handle_for p asked.0) (λ h. Ok (with_statement p number echo asked.0 h)) q asked.2 in
    let reads : built_statement_in (words_in line) ≡ Ok asked.0 = rw built asked.1 in
    let next : ProcessLines = with_statement p number echo asked.0 on.0 in
    subst IsReadProcess (same_ok next q (Ok next) refl on.2) (statement_read p number line asked.0 on.0 fits whole r reads on.1)

device_read : (d e : ScriptDraft) (words : List (List ℕ)) → IsReadDraft d → with_device d words ≡ Ok e → IsReadDraft e
device_read d e words r g =
    let of_model : Model → ScriptDraft = λ model. record d { begun = true; model = model } in
    let first = else_gave d.begun Word (and_then (ok_or (device_in words) Word) (λ model. Ok (of_model model))) e g in
    let named = then_gave (ok_or (device_in words) Word) (λ model. Ok (of_model model)) e first.1 in
    let is : IsReadDraft (of_model named.0) = record { few = r.few; each = r.each; process = r.process } in
    subst IsReadDraft (same_ok (of_model named.0) e (Ok (of_model named.0)) refl named.2) is

room_left : (n : ℕ) → nat_le 16 (n + 1) ≡ false → n + 1 < 16
room_left n left = grind (arith, nat_tests)

process_read : (d e : ScriptDraft) (words : List (List ℕ)) → IsReadDraft d → with_process d words ≡ Ok e → IsReadDraft e
process_read d e words r g =
    let one = if_gave (length words == 1) Word (with_process_more d) e g in
    let more : ScriptDraft = record d { begun = true; before = d.before ++ d.process ∷ []; process = no_lines } in
    let room = else_gave (nat_le process_limit (length d.before + 1)) TooManyProcesses (Ok more) e one.1 in
    let few : length d.before + 1 < 16 = room_left (length d.before) room.0 in
    let is : IsReadDraft more = record {
      few = simp length-append (omega (arith, few));
      each = All-push IsReadProcess d.before d.process r.each r.process;
      process = none_read;
    } in
    subst IsReadDraft (same_ok more e (Ok more) refl room.1) is

own_read : (d e : ScriptDraft) (number : ℕ) (line : List ℕ) → Fits32 number → is_whole ends_line line ≡ true → is_built_line (words_in line) ≡ true → IsReadDraft d → with_own d (with_words d.process number (words_in line)) ≡ Ok e → IsReadDraft e
own_read d e number line fits whole built r g =
    let with_next : ProcessLines → ScriptDraft = λ p. record d { begun = true; process = p } in
    let own = then_gave (with_words d.process number (words_in line)) (λ p. Ok (with_next p)) e g in
    let is : IsReadDraft (with_next own.0) = record { few = r.few; each = r.each; process = words_read d.process own.0 number line fits whole built r.process own.1 } in
    subst IsReadDraft (same_ok (with_next own.0) e (Ok (with_next own.0)) refl own.2) is

any_read : (d e : ScriptDraft) (number : ℕ) (line : List ℕ) → Fits32 number → is_whole ends_line line ≡ true → is_built_line (words_in line) ≡ true → IsReadDraft d → with_any d number (words_in line) ≡ Ok e → IsReadDraft e
any_read d e number line fits whole built r g =
    let words : List (List ℕ) = words_in line in
    either_gave (IsReadDraft e) (begins (codes "device") words) (with_device d words) (if begins (codes "proc") words then with_process d words else with_own d (with_words d.process number words)) e g
    (λ is. device_read d e words r is)
    (λ is. either_gave (IsReadDraft e) (begins (codes "proc") words) (with_process d words) (with_own d (with_words d.process number words)) e is
    (λ is. process_read d e words r is)
    (λ is. own_read d e number line fits whole built r is))

line_read : (d e : ScriptDraft) (number : ℕ) (line : List ℕ) → Fits32 number → is_whole ends_line line ≡ true → IsReadDraft d → with_line d number line ≡ Ok e → IsReadDraft e
line_read d e number line fits whole r g = by_skipped (is_skipped line) g
  where
    of_words : at_line number (with_built d number (words_in line)) ≡ Ok e → IsReadDraft e
    of_words g =
        let built = if_gave (is_built_line (words_in line)) NotBuilt (with_any d number (words_in line)) e (line_gave number (with_built d number (words_in line)) e g) in
        any_read d e number line fits whole built.0 r built.1

    by_skipped : (skipped : Bool) → (if skipped then Ok d else at_line number (with_built d number (words_in line))) ≡ Ok e → IsReadDraft e
    by_skipped true g = subst IsReadDraft (cc) r
    by_skipped false g = of_words g

lines_cons : (d e : ScriptDraft) (number : ℕ) (line : List ℕ) (lines : List (List ℕ)) → ((c : ScriptDraft) → with_line d number line ≡ Ok c → with_lines c (number + 1) lines ≡ Ok e → IsReadDraft e) → (first : Result ScriptDraft ScriptFault) → with_line d number line ≡ first → with_lines d number (line ∷ lines) ≡ Ok e → IsReadDraft e
lines_cons d e number line lines more (Ok c) is g = more c is (sym (with_lines_ok d c number line lines is) ∙ g)
lines_cons d e number line lines more (Err f) is g = let s : with_lines d number (line ∷ lines) ≡ Err f = with_lines_err d f number line lines is in absurd (cc)

both_whole : (a b : Bool) → (a && b) ≡ true → (a ≡ true) × (b ≡ true)
both_whole true b h = (refl, h)
both_whole false b h = absurd (cc)

lines_read : (d e : ScriptDraft) (number : ℕ) (lines : List (List ℕ)) → ((n : ℕ) → n < number + length lines → Fits32 n) → list_all (is_whole ends_line) lines ≡ true → IsReadDraft d → with_lines d number lines ≡ Ok e → IsReadDraft e
lines_read d e number [] fits whole r g = subst IsReadDraft (cc) r
lines_read d e number (line ∷ lines) fits whole r g =
    let parted = both_whole (is_whole ends_line line) (list_all (is_whole ends_line) lines) whole in
    lines_cons d e number line lines
    (λ c is k. lines_read c e (number + 1) lines (λ n below. fits n (omega (arith, below))) parted.1 (line_read d c number line (fits number (omega arith)) parted.0 r is) k)
    (with_line d number line) refl g

-- ---- scripts

onto_few : (b : ℕ) (pieces : List (List ℕ)) → length (onto_first b pieces) ≤ length pieces + 1
onto_few b [] = omega arith
onto_few b (piece ∷ pieces) = omega arith

-- there are few pieces
pieces_few : (parts : ℕ → Bool) (bs : List ℕ) → length (pieces_by parts bs) ≤ length bs + 1
pieces_few parts [] = omega arith
pieces_few parts (b ∷ bs) = by_test (parts b) (pieces_few parts bs)
  where
    by_test : (test : Bool) → length (pieces_by parts bs) ≤ length bs + 1 → length (if test then [] ∷ pieces_by parts bs else onto_first b (pieces_by parts bs)) ≤ length (b ∷ bs) + 1
    by_test true few = omega (arith, few)
    by_test false few = let more = onto_few b (pieces_by parts bs) in omega (arith, few, more)

below_limit : (limit bytes lines n : ℕ) → bytes < limit - 1 → lines ≤ bytes + 1 → n < 1 + lines → n < limit
below_limit limit bytes lines n few made below = omega (arith, few, made, below)

no_script_read : IsReadDraft no_script
no_script_read = record {
  few = omega arith;
  each = All-nil IsReadProcess;
  process = none_read;
}

drafted_read : (d : ScriptDraft) → IsReadDraft d → IsReadScript (drafted d)
drafted_read d r = record {
  some = simp length-append (omega arith);
  few = (let few = r.few in simp length-append (omega (arith, few)));
  each = All-push IsReadProcess d.before d.process r.each r.process;
}

from_draft : (s : ScriptLines) (r : Result ScriptDraft ScriptFault) → ((d : ScriptDraft) → r ≡ Ok d → IsReadDraft d) → as_script r ≡ Ok s → IsReadScript s
from_draft s (Ok d) read g = subst IsReadScript (cc) (drafted_read d (read d refl))
from_draft s (Err f) read g = absurd (cc)

-- a script that was read is one
pub script_read : (bytes : List ℕ) (s : ScriptLines) → length bytes < 2 ^ 32 - 1 → script_of bytes ≡ Ok s → IsReadScript s
script_read bytes s small g =
    let made : length (lines_in bytes) ≤ length bytes + 1 = pieces_few ends_line bytes in
    let fits : (n : ℕ) → n < 1 + length (lines_in bytes) → Fits32 n = λ n below. below_limit (2 ^ 32) (length bytes) (length (lines_in bytes)) n small made below in
    from_draft s (with_lines no_script 1 (lines_in bytes)) (λ d e. lines_read no_script d 1 (lines_in bytes) fits (pieces_whole ends_line bytes) no_script_read e) g

-- ---- what the order says of each line

-- each line fits behind the lines before it
pub fits_at : (opened : ℕ) (ls : List Line) (i : ℕ) (d : Line) → InOrder opened ls → i < length ls → Fits (opened + opens_in (take i ls)) (get_or ls i d).what
fits_at opened [] i d o h = absurd (omega arith)
fits_at opened (l ∷ ls) zero d o h = subst (λ n. Fits n l.what) (omega arith) o.0
fits_at opened (l ∷ ls) (suc i) d o h = subst (λ n. Fits n (get_or ls i d).what) (omega arith) (fits_at (opened + opens l.what) ls i d o.1 (omega arith))

pub order_take : (opened : ℕ) (ls : List Line) (i : ℕ) → InOrder opened ls → InOrder opened (take i ls)
order_take opened ls zero o = tt
order_take opened [] (suc i) o = tt
order_take opened (l ∷ ls) (suc i) o = (o.0, order_take (opened + opens l.what) ls i o.1)

other_place : (k h : ℕ) → k < h → (k == h) ≡ false
other_place k h l = grind (arith, nat_tests)

not_on : (opened h : ℕ) (what : LineKind) → Fits opened what → opened + opens what ≤ h → call_on h what ≡ None
not_on opened h (OnHandle k (OpenHandle nonblock)) f l = rw (other_place k h (omega (arith, f))) refl
not_on opened h (OnHandle k call) f l = rw (other_place k h (omega (arith, f, l))) refl
not_on opened h (Raw chain) f l = absurd f

-- no line is on a handle that none of them opened
pub none_beyond : (opened h : ℕ) (ls : List Line) → InOrder opened ls → opened + opens_in ls ≤ h → lines_of h ls ≡ []
none_beyond opened h [] o l = refl
none_beyond opened h (m ∷ ms) o l = rw (not_on opened h m.what o.0 (omega arith)) (none_beyond (opened + opens m.what) h ms o.1 (omega arith))

-- before the line that opens a handle no line is on it
pub none_before_open : (ls : List Line) → InOrder 0 ls → (i : ℕ) (d : Line) → i < length ls → (h : ℕ) (nonblock : Bool) → (get_or ls i d).what ≡ OnHandle h (OpenHandle nonblock) → lines_of h (take i ls) ≡ []
none_before_open ls o i d l h nonblock e =
    let f : h ≡ 0 + opens_in (take i ls) = subst (λ k. Fits (0 + opens_in (take i ls)) k) e (fits_at 0 ls i d o l) in
    none_beyond 0 h (take i ls) (order_take 0 ls i o) (omega (arith, f))
