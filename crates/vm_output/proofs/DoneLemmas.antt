-- Lemmas on a world that is done: its logs answer the script's lines, and are those of local handles.
use Rattle.std.proofs.Common.{◌≡◌, ℕ, zero, suc, ◌+◌, ◌<◌, ◌==◌, ◌&&◌, ◌-◌, Bool, true, false, List, [], ◌∷◌, ◌++◌, Option, Some, None, IsSome, is_some, length, get_or, map, refl, sym, ap, ◌∙◌, subst, arith, All, if◌then◌else◌}
use Rattle.std.specs.Prelude.{slice_get}
use Rattle.std.specs.Option.{option_and_then}
use Rattle.std.proofs.lemmas.List.{map-append}
use Rattle.std.proofs.lemmas.List.Elements.{All-append}
use Rattle.v4l_const.specs.declared.model.Model.{Model}
use Rattle.vm_local.specs.Log.{IsLegal}
use Rattle.vm_handle.specs.Handle.{HandleState, has_opened}
use Rattle.vm_script.specs.Lines.{lines_of, calls_of}
use Rattle.vm_script.specs.Reading.{IsReadScript, IsReadProcess, IsReadKind, IsReadLine}
use Rattle.vm_script.specs.Script.{ProcessLines, ScriptLines}
use Rattle.vm_script.specs.declared.line.Line.{Line}
use Rattle.vm_script.specs.declared.line.LineKind.{LineKind}
use Rattle.vm_script.specs.declared.line.LineKind.TheVariants.{OnHandle, Raw}
use Rattle.vm_guest.specs.Guest.{GuestState, IsDone as IsGuestDone, process_at, process_in}
use Rattle.vm_guest.specs.Orderly.{IsDriver, no_lines, lines_at}
use Rattle.vm_guest.specs.Process.{ProcessState, is_done, is_at_rest, is_crossing, crossing_call, current_call, handle_in, handle_at, some_if}
use Rattle.vm_guest.specs.declared.asked.Asked.{Asked}
use Rattle.vm_guest.specs.declared.status.Status.{Status}
use Rattle.vm_guest.specs.declared.status.Status.TheVariants.{AtRest, Crossing, Blocked, Lent}
use Rattle.vm_realm.specs.Inner.{Inner}
use Rattle.vm_realm.specs.Mapped.{Mapping, mappings_of, DealsFrom}
use Rattle.vm_realm.specs.Slice.{Slice, Out, slice_at, out_at, out_of, is_on, id_ahead}
use Rattle.vm_realm.specs.Slice.Out.{Nowhere}
use Rattle.vm_realm.specs.Sound.{IsSound, AgreeOnIds, IsOut, id_at as id_ahead_at, inner_at, shares_from, all_shares}
use Rattle.vm_realm.specs.World.{WorldState, IsDone}
use Rattle.vm_report.specs.Logs.{HandleLog}
use Rattle.vm_output.specs.Printing.{handle_logs, process_logs, raw_log}
use Rattle.vm_output.proofs.FitLemmas.{process_done, driver_legal, answers_all}
use Rattle.vm_output.proofs.ReadLemmas.{no_raws}
use Rattle.vm_output.specs.ScriptLogs.{parts_from, parts_of, part_answered, errno_due, raws_due, raws_of, IsLocalRun, AreLogsOf, AreNumbersBelow, logs_of_world}
use Rattle.vm_output.proofs.IdLemmas.{id_at, joined, AreNumbersIn, numbers_joined}

-- ---- every line is answered

rests : (status : Status) (b : Bool) → (is_at_rest status && b) ≡ true → is_crossing status ≡ false
rests AtRest b done = refl
rests Crossing b done = cc
rests Blocked b done = cc
rests Lent b done = cc

none_crosses : (p : ProcessState) → is_done p ≡ true → crossing_call p ≡ None
none_crosses p done = ap (λ b. some_if b (current_call p)) (rests p.status (p.answered == length p.statements) done)

nowhere_by : (o : Option Asked) (h : ℕ) (out : Out) → o ≡ None → (if is_on o h then out else Nowhere) ≡ Nowhere
nowhere_by o h out none = ap (λ x. if is_on x h then out else Nowhere) none

-- no call is out
nothing_out : (w : WorldState) (n h : ℕ) → IsDone w → n < length w.guest.processes → out_at w n h ≡ Nowhere
nothing_out w n h done within = nowhere_by (crossing_call (process_at w.guest n)) h (out_of w n) (none_crosses (process_at w.guest n) (process_done w.guest n done within))

-- ---- what the logs answer

answers_from : (process h : ℕ) (names : List (List ℕ)) (handles : List HandleState) (lines : List Line) → length handles ≡ length names
    → ((k : ℕ) → k < length handles → calls_of (handle_in handles k).log.entries ≡ lines_of (h + k) lines)
    → map part_answered (handle_logs process names handles) ≡ parts_from process h names lines
answers_from process h [] handles lines same each = refl
answers_from process h (name ∷ names) [] lines same each = cc
answers_from process h (name ∷ names) (x ∷ xs) lines same each =
    let at : h + 0 ≡ h = omega arith in
    let P : ℕ → Type 0 = λ n. calls_of x.log.entries ≡ lines_of n lines in
    let first : calls_of x.log.entries ≡ lines_of h lines = subst P at (each 0 (omega arith)) in
    let rest : map part_answered (handle_logs process names xs) ≡ parts_from process (h + 1) names lines =
    answers_from process (h + 1) names xs lines (omega (arith, same)) (λ k within.
    (let next : h + suc k ≡ h + 1 + k = omega arith in
    let Q : ℕ → Type 0 = λ n. calls_of (handle_in xs k).log.entries ≡ lines_of n lines in
    subst Q next (each (suc k) (omega (arith, within))))) in
    rw (first, rest) refl

-- a process whose handles answer the lines on them
record IsAnswering (p : ProcessLines) (s : ProcessState) : Type 0 where
  named : length s.handles ≡ length p.handles
  calls : (h : ℕ) → h < length s.handles → calls_of (handle_in s.handles h).log.entries ≡ lines_of h p.lines

answers_of : (process : ℕ) (ps : List ProcessLines) (states : List ProcessState) → length states ≡ length ps
    → ((n : ℕ) → n < length states → IsAnswering (get_or ps n no_lines) (process_in states n))
    → map part_answered (process_logs process ps states) ≡ parts_of process ps
answers_of process [] states same each = refl
answers_of process (p ∷ ps) [] same each = cc
answers_of process (p ∷ ps) (s ∷ ss) same each =
    let own = each 0 (omega arith) in
    let first : map part_answered (handle_logs process p.handles s.handles) ≡ parts_from process 0 p.handles p.lines =
    answers_from process 0 p.handles s.handles p.lines own.named (λ k within.
    (let at : k ≡ 0 + k = omega arith in
    let P : ℕ → Type 0 = λ n. calls_of (handle_in s.handles k).log.entries ≡ lines_of n p.lines in
    subst P at (own.calls k within))) in
    let rest : map part_answered (process_logs (process + 1) ps ss) ≡ parts_of (process + 1) ps =
    answers_of (process + 1) ps ss (omega (arith, same)) (λ n within. each (suc n) (omega (arith, within))) in
    map-append part_answered (handle_logs process p.handles s.handles) (process_logs (process + 1) ps ss) ∙ rw (first, rest) refl

each_answers : (script : ScriptLines) (g : GuestState) → IsDriver script g → IsGuestDone g
    → (n : ℕ) → n < length g.processes → IsAnswering (get_or script.processes n no_lines) (process_in g.processes n)
each_answers script g d done n within =
    let orderly = d.orderly n within in
    record {
      named = orderly.named;
      calls = λ h inside. (answers_all script.model (lines_at script n) (process_at g n) h orderly (process_done g n done within) inside).calls;
    }

-- ---- no script that is read has a raw line

no_raws_due : (names : List (List ℕ)) (process : ℕ) (ls : List Line) → ((i : ℕ) (d : Line) → i < length ls → IsReadLine names (get_or ls i d)) → raws_due process ls ≡ []
no_raws_due names process [] read = refl
no_raws_due names process (l ∷ ls) read =
    by_kind l.what (read 0 l (omega arith)).what (no_raws_due names process ls (λ i d within. read (suc i) d (omega (arith, within))))
  where
    by_kind : (what : LineKind) → IsReadKind names l.echo what → raws_due process ls ≡ [] → raw_log process l.number what (errno_due what) ++ raws_due process ls ≡ []
    by_kind (OnHandle h call) this rest = rest
    by_kind (Raw chain) this rest = absurd this

no_raws_of : (process : ℕ) (ps : List ProcessLines) → ((i : ℕ) (d : ProcessLines) → i < length ps → IsReadProcess (get_or ps i d)) → raws_of process ps ≡ []
no_raws_of process [] read = refl
no_raws_of process (p ∷ ps) read =
    let own : IsReadProcess p = read 0 p (omega arith) in
    rw (no_raws_due p.handles process p.lines (λ i d within. own.each i d within), no_raws_of (process + 1) ps (λ i d within. read (suc i) d (omega (arith, within)))) refl

-- ---- each log is a local run

local_logs : (model : Model) (process : ℕ) (names : List (List ℕ)) (handles : List HandleState)
    → ((k : ℕ) → k < length handles → IsLegal model (handle_in handles k).log.entries × (is_some (handle_in handles k).session ≡ has_opened (handle_in handles k).log.entries))
    → All (IsLocalRun model) (handle_logs process names handles)
local_logs model process [] handles each k d within = absurd (omega (arith, within))
local_logs model process (name ∷ names) [] each k d within = absurd (omega (arith, within))
local_logs model process (name ∷ names) (x ∷ xs) each zero d within = let run = each 0 (omega arith) in record { legal = run.0; session = run.1 }
local_logs model process (name ∷ names) (x ∷ xs) each (suc k) d within =
    local_logs model process names xs (λ j inside. each (suc j) (omega (arith, inside))) k d (omega (arith, within))

local_runs : (model : Model) (process : ℕ) (ps : List ProcessLines) (states : List ProcessState)
    → ((n h : ℕ) → n < length states → h < length (process_in states n).handles
    → IsLegal model (handle_in (process_in states n).handles h).log.entries × (is_some (handle_in (process_in states n).handles h).session ≡ has_opened (handle_in (process_in states n).handles h).log.entries))
    → All (IsLocalRun model) (process_logs process ps states)
local_runs model process [] states each k d within = absurd (omega (arith, within))
local_runs model process (p ∷ ps) [] each k d within = absurd (omega (arith, within))
local_runs model process (p ∷ ps) (s ∷ ss) each k d within =
    All-append (IsLocalRun model) (handle_logs process p.handles s.handles) (process_logs (process + 1) ps ss)
    (local_logs model process p.handles s.handles (λ h inside. each 0 h (omega arith) inside))
    (local_runs model (process + 1) ps ss (λ n h inner inside. each (suc n) h (omega (arith, inner)) inside)) k d within

-- ---- the ids

sessions_by_names : (process : ℕ) (names : List (List ℕ)) (handles : List HandleState) → length handles ≡ length names
    → map (λ h. h.session) (handle_logs process names handles) ≡ map (λ h. h.session) handles
sessions_by_names process [] [] same = refl
sessions_by_names process [] (x ∷ xs) same = cc
sessions_by_names process (name ∷ names) [] same = cc
sessions_by_names process (name ∷ names) (x ∷ xs) same = ap (λ ids. x.session ∷ ids) (sessions_by_names process names xs (omega (arith, same)))

abbrev rows_of : List ProcessState → List (List (Option ℕ))
rows_of states = map (λ s. map (λ h. h.session) s.handles) states

sessions_by_processes : (process : ℕ) (ps : List ProcessLines) (states : List ProcessState) → length states ≡ length ps
    → ((n : ℕ) → n < length states → length (process_in states n).handles ≡ length (get_or ps n no_lines).handles)
    → map (λ h. h.session) (process_logs process ps states) ≡ joined (rows_of states)
sessions_by_processes process [] [] same each = refl
sessions_by_processes process [] (s ∷ ss) same each = cc
sessions_by_processes process (p ∷ ps) [] same each = cc
sessions_by_processes process (p ∷ ps) (s ∷ ss) same each =
    map-append (λ h. h.session) (handle_logs process p.handles s.handles) (process_logs (process + 1) ps ss) ∙
    rw (sessions_by_names process p.handles s.handles (each 0 (omega arith)), sessions_by_processes (process + 1) ps ss (omega (arith, same)) (λ n within. each (suc n) (omega (arith, within)))) refl

-- the id in a row is that of a handle
row_at : (hs : List HandleState) (h id : ℕ) → get_or (map (λ x. x.session) hs) h None ≡ Some id → IsSome (slice_get hs h) × ((handle_in hs h).session ≡ Some id)
row_at [] h id is = cc
row_at (x ∷ xs) zero id is = (refl, is)
row_at (x ∷ xs) (suc h) id is = row_at xs h id is

at_row : (hs : List HandleState) (h id : ℕ) → IsSome (slice_get hs h) → (handle_in hs h).session ≡ Some id → get_or (map (λ x. x.session) hs) h None ≡ Some id
at_row [] h id there is = cc
at_row (x ∷ xs) zero id there is = is
at_row (x ∷ xs) (suc h) id there is = at_row xs h id there is

abbrev named_in : List ProcessState → ℕ → ℕ → Option HandleState
named_in states n h = option_and_then (λ (p : ProcessState). slice_get p.handles h) (slice_get states n)

rows_at : (states : List ProcessState) (n h id : ℕ) → id_at (rows_of states) n h ≡ Some id
    → (n < length states) × IsSome (named_in states n h) × ((handle_at (process_in states n) h).session ≡ Some id)
rows_at [] n h id is = cc
rows_at (s ∷ ss) zero h id is = let own = row_at s.handles h id is in (omega arith, own.0, own.1)
rows_at (s ∷ ss) (suc n) h id is = let rest = rows_at ss n h id is in (let inside = rest.0 in omega (arith, inside), rest.1, rest.2)

at_rows : (states : List ProcessState) (n h id : ℕ) → IsSome (named_in states n h) → (handle_at (process_in states n) h).session ≡ Some id
    → (n < length states) × (id_at (rows_of states) n h ≡ Some id)
at_rows [] n h id there is = cc
at_rows (s ∷ ss) zero h id there is = (omega arith, at_row s.handles h id there is)
at_rows (s ∷ ss) (suc n) h id there is = let rest = at_rows ss n h id there is in (let inside = rest.0 in omega (arith, inside), rest.1)

named_within : (states : List ProcessState) (n h : ℕ) → IsSome (named_in states n h) → n < length states
named_within [] n h there = cc
named_within (s ∷ ss) zero h there = omega arith
named_within (s ∷ ss) (suc n) h there = let rest = named_within ss n h there in omega (arith, rest)

-- the id ahead of a handle of which no call is out is that of its session
id_there : (w : WorldState) (n h : ℕ) → IsDone w → n < length w.guest.processes → id_ahead_at w n h ≡ (handle_at (process_at w.guest n) h).session
id_there w n h done within = ap (λ out. id_ahead (handle_at (process_at w.guest n) h) out) (nothing_out w n h done within)

numbers_in : (w : WorldState) → AgreeOnIds w → IsDone w → AreNumbersIn (length w.host.device.sessions) (rows_of w.guest.processes)
numbers_in w agree done = record {
  below = λ n h id is. (let at = rows_at w.guest.processes n h id is in agree.below n h id at.1 (id_there w n h done at.0 ∙ at.2));
  there = λ id within.
      (let at = agree.there id within in
      let inside = named_within w.guest.processes at.0 at.1 at.2 in
      (at.0, (at.1, (at_rows w.guest.processes at.0 at.1 id at.2 (sym (id_there w at.0 at.1 done inside) ∙ at.3)).1)));
  once = λ n h m k id this that.
      (let one = rows_at w.guest.processes n h id this in
      let two = rows_at w.guest.processes m k id that in
      agree.once n h m k id one.1 two.1 (id_there w n h done one.0 ∙ one.2) (id_there w m k done two.0 ∙ two.2));
}

-- ---- the journal

none_executed : (out : Out) (x : Slice) (v : Inner) → out ≡ Nowhere → IsOut out x v → v.executed ≡ None
none_executed out x v nowhere is = let none : IsOut Nowhere x v = subst (λ o. IsOut o x v) nowhere is in none.0.executed

abbrev mappings_told : Model → HandleLog → List Mapping
mappings_told model log = mappings_of model log.entries None

shares_alike : (w : WorldState) (rows : List (List Inner)) (n h process : ℕ) (names : List (List ℕ)) (hs : List HandleState) → length hs ≡ length names
    → ((k : ℕ) → k < length hs → (inner_at w rows n (h + k)).executed ≡ None)
    → map (λ s. s.mappings) (shares_from w rows n h hs) ≡ map (mappings_told w.script.model) (handle_logs process names hs)
shares_alike w rows n h process [] [] same none = refl
shares_alike w rows n h process [] (x ∷ xs) same none = cc
shares_alike w rows n h process (name ∷ names) [] same none = cc
shares_alike w rows n h process (name ∷ names) (x ∷ xs) same none =
    let at : h + 0 ≡ h = omega arith in
    let P : ℕ → Type 0 = λ k. (inner_at w rows n k).executed ≡ None in
    let here : (inner_at w rows n h).executed ≡ None = subst P at (none 0 (omega arith)) in
    let first : mappings_of w.script.model x.log.entries (inner_at w rows n h).executed ≡ mappings_of w.script.model x.log.entries None =
    ap (λ e. mappings_of w.script.model x.log.entries e) here in
    let rest = shares_alike w rows n (h + 1) process names xs (omega (arith, same)) (λ k within.
    (let next : h + suc k ≡ h + 1 + k = omega arith in subst P next (none (suc k) (omega (arith, within))))) in
    rw (first, rest) refl

all_alike : (w : WorldState) (rows : List (List Inner)) (n process : ℕ) (ps : List ProcessLines) (states : List ProcessState) → length states ≡ length ps
    → ((m : ℕ) → m < length states → length (process_in states m).handles ≡ length (get_or ps m no_lines).handles)
    → ((m k : ℕ) → m < length states → k < length (process_in states m).handles → (inner_at w rows (n + m) k).executed ≡ None)
    → map (λ s. s.mappings) (all_shares w rows n states) ≡ map (mappings_told w.script.model) (process_logs process ps states)
all_alike w rows n process [] [] same named none = refl
all_alike w rows n process [] (s ∷ ss) same named none = cc
all_alike w rows n process (p ∷ ps) [] same named none = cc
all_alike w rows n process (p ∷ ps) (s ∷ ss) same named none =
    let at : n + 0 ≡ n = omega arith in
    let first = shares_alike w rows n 0 process p.handles s.handles (named 0 (omega arith)) (λ k within.
    (let P : ℕ → Type 0 = λ m. (inner_at w rows m k).executed ≡ None in
    let Q : ℕ → Type 0 = λ j. (inner_at w rows n j).executed ≡ None in
    let zeroth : k ≡ 0 + k = omega arith in
    subst Q zeroth (subst P at (none 0 k (omega arith) within)))) in
    let rest = all_alike w rows (n + 1) (process + 1) ps ss (omega (arith, same)) (λ m within. named (suc m) (omega (arith, within))) (λ m k within inside.
    (let next : n + suc m ≡ n + 1 + m = omega arith in
    let P : ℕ → Type 0 = λ j. (inner_at w rows j k).executed ≡ None in
    subst P next (none (suc m) k (omega (arith, within)) inside))) in
    map-append (λ s. s.mappings) (shares_from w rows n 0 s.handles) (all_shares w rows (n + 1) ss) ∙
    (rw (first, rest) refl ∙ sym (map-append (mappings_told w.script.model) (handle_logs process p.handles s.handles) (process_logs (process + 1) ps ss)))

-- ---- all of it

there_in : (xs : List HandleState) (k : ℕ) → k < length xs → IsSome (slice_get xs k)
there_in [] k below = absurd (omega (arith, below))
there_in (x ∷ xs) zero below = refl
there_in (x ∷ xs) (suc k) below = there_in xs k (omega (arith, below))

handle_there : (states : List ProcessState) (n h : ℕ) → n < length states → h < length (process_in states n).handles → IsSome (named_in states n h)
handle_there [] n h within inside = absurd (omega (arith, within))
handle_there (s ∷ ss) zero h within inside = there_in s.handles h inside
handle_there (s ∷ ss) (suc n) h within inside = handle_there ss n h (omega (arith, within)) inside

-- where every line of a sound world is answered, its logs are those of the script's lines
pub logs_are : (script : ScriptLines) (w : WorldState) → IsReadScript script → w.script ≡ script → IsSound w → IsDone w → AreLogsOf script (logs_of_world script w)
logs_are script w read is (rows, sound) done =
    let g : GuestState = w.guest in
    let driver : IsDriver script g = subst (λ s. IsDriver s g) is sound.lines in
    let named : (n : ℕ) → n < length g.processes → length (process_in g.processes n).handles ≡ length (get_or script.processes n no_lines).handles = λ n within. (driver.orderly n within).named in
    let ids = sessions_by_processes 0 script.processes g.processes driver.count named in
    let P : List (Option ℕ) → Type 0 = λ xs. AreNumbersBelow (length w.host.device.sessions) xs in
    let alike = all_alike w rows 0 0 script.processes g.processes driver.count named (λ m k within inside.
    (let zeroth : m ≡ 0 + m = omega arith in
    let Q : ℕ → Type 0 = λ j. (inner_at w rows j k).executed ≡ None in
    subst Q zeroth (none_executed (slice_at w m k).out (slice_at w m k) (inner_at w rows m k) (nothing_out w m k done within) (sound.slices m k (handle_there g.processes m k within inside)).out))) in
    let model_is : w.script.model ≡ script.model = ap (λ (s : ScriptLines). s.model) is in
    let lists = alike ∙ ap (λ m. map (mappings_told m) (process_logs 0 script.processes g.processes)) model_is in
    record {
      answers = answers_of 0 script.processes g.processes driver.count (each_answers script g driver done);
      raws = no_raws 0 script.processes g.processes read.each ∙ sym (no_raws_of 0 script.processes (λ i d within. read.each i d within));
      runs = local_runs script.model 0 script.processes g.processes (λ n h within inside.
          (driver_legal script g n h driver within inside, ((driver.orderly n within).each h inside).keeps.opened));
      ids = (length w.host.device.sessions, subst P (sym ids) (numbers_joined (length w.host.device.sessions) (rows_of g.processes) (numbers_in w sound.ids done)));
      sound = sound.mapped.sound;
      deals = (sound.mapped.lives, subst (λ ls. DealsFrom [] w.host.device.region.journal ls sound.mapped.lives) lists sound.mapped.deals);
      wire = refl;
    }
