-- A process with one of its handles changed, and one statement begun or answered.
use Rattle.std.proofs.Common.{◌≡◌, ◌≢◌, ◌⊎◌, ◌<◌, ◌+◌, inl, inr, ℕ, Bool, true, false, List, [], ◌++◌, All, length, take, get_or, set, Option, Some, None, is_some, refl, sym, ap, ◌∙◌, subst, arith, if◌then◌else◌, length-append, length-set, get_or-set_same, get_or-set_other}
use Rattle.std.specs.List.{slice_get}
use Rattle.std.specs.Option.{option_and_then}
use Rattle.std.proofs.lemmas.Bool.{false≢true, cases_eq}
use Rattle.std.proofs.lemmas.Option.{slice_get_within, get_or_from_slice_get}
use Rattle.v4l_const.specs.declared.errno.Errno.{Errno}
use Rattle.v4l_const.specs.declared.model.Model.{Model}
use Rattle.vm_local.specs.declared.call.Call.{Call}
use Rattle.vm_log.specs.Answers.{AsksFew}
use Rattle.vm_script.specs.Lines.{Numbered, call_on, lines_of}
use Rattle.vm_script.specs.Script.{ProcessLines}
use Rattle.vm_script.specs.declared.line.Line.{Line}
use Rattle.vm_script.specs.declared.line.LineKind.{LineKind}
use Rattle.vm_script.specs.declared.line.LineKind.TheVariants.{OnHandle, Raw}
use Rattle.vm_handle.specs.Handle.{HandleState}
use Rattle.vm_guest.specs.Asking.{asked_in, asked_by, statements_of}
use Rattle.vm_guest.specs.Orderly.{IsFitKind, AnswersLines, IsOut, IsOutAt, MayBeRaw, is_raw, is_raw_at, IsOrderly}
use Rattle.vm_guest.specs.Process.{ProcessState, begun, is_at_rest, current, current_call, some_if, next, kept_by, no_handle, handle_in, handle_at, with_handle, doing, rested}
use Rattle.vm_guest.specs.declared.asked.Asked.{Asked}
use Rattle.vm_guest.specs.declared.asked.Statement.{Statement}
use Rattle.vm_guest.specs.declared.status.Status.{Status}
use Rattle.vm_guest.specs.declared.status.Status.TheVariants.{AtRest, Crossing, Blocked, Lent}
use Rattle.vm_handle.proofs.KeptLemmas.{IsKept}
use Rattle.vm_guest.proofs.HandleLemmas.{Becomes, one_call}
use Rattle.vm_guest.proofs.LineLemmas.{IsLine, line_of, line_within, lines_same, lines_other, lines_few, on_other, append_none, raws_last, raws_before, raws_same}

-- ---- what is asked

pub if_some : {A : Type 0} (b : Bool) (o : Option A) (x : A) → some_if b o ≡ Some x → (b ≡ true) × (o ≡ Some x)
if_some true o x is = (refl, is)
if_some false o x is = cc

pub rests_by : (status : Status) → is_at_rest status ≡ true → status ≡ AtRest
rests_by AtRest is = refl
rests_by status is = absurd (false≢true is)

-- a statement is the next one
pub record IsNext (p : ProcessState) (s : Statement) : Type 0 where
  pub rests : p.status ≡ AtRest
  pub at : current p ≡ Some s

pub is_next : (p : ProcessState) (s : Statement) → next p ≡ Some s → IsNext p s
is_next p s is =
    let w : (is_at_rest p.status ≡ true) × (current p ≡ Some s) = if_some (is_at_rest p.status) (current p) s is in
    record { rests = rests_by p.status w.0; at = w.1 }

abbrev statement_or : Statement → Option Statement → Statement
statement_or d None = d
statement_or d (Some x) = x

kept_in : (f : LineKind → Bool) (b : Bool) (t s : Statement) → f t.what ≡ b → (if b then Some t else None) ≡ Some s → (Some t ≡ Some s) × (f s.what ≡ true)
kept_in f true t s holds is = (is, ap (λ (o : Option Statement). f (statement_or t o).what) (sym is) ∙ holds)
kept_in f false t s holds is = cc

pub kept_is : (f : LineKind → Bool) (o : Option Statement) (s : Statement) → kept_by f o ≡ Some s → (o ≡ Some s) × (f s.what ≡ true)
kept_is f None s is = cc
kept_is f (Some t) s is = kept_in f (f t.what) t s refl is

-- the call that a statement on a handle asks
abbrev pub asked_of : Statement → ℕ → Call → Asked
asked_of s h call = record { line = s.line; handle = h; call = call }

pub asks : (p : ProcessState) (s : Statement) (h : ℕ) (call : Call) → current p ≡ Some s → s.what ≡ OnHandle h call → current_call p ≡ Some (asked_of s h call)
asks p s h call at is = ap (λ o. option_and_then asked_by o) at ∙ ap (λ w. asked_in s.line w) is

pub asks_none : (p : ProcessState) (s : Statement) → current p ≡ Some s → is_raw s.what ≡ true → current_call p ≡ None
asks_none p s at is = ap (λ o. option_and_then asked_by o) at ∙ none_by s.what is
  where
    none_by : (what : LineKind) → is_raw what ≡ true → asked_in s.line what ≡ None
    none_by (OnHandle h call) is = absurd (false≢true is)
    none_by (Raw chain) is = refl

-- whose statement a call is
pub record IsAsked (p : ProcessState) (a : Asked) : Type 0 where
  pub statement : Statement
  pub at : current p ≡ Some statement
  pub is : asked_by statement ≡ Some a
  pub line : statement.line ≡ a.line
  pub what : statement.what ≡ OnHandle a.handle a.call

abbrev asked_or : Asked → Option Asked → Asked
asked_or d None = d
asked_or d (Some a) = a

asked_what : (line : ℕ) (what : LineKind) (a : Asked) → asked_in line what ≡ Some a → (line ≡ a.line) × (what ≡ OnHandle a.handle a.call)
asked_what line (OnHandle h call) a is =
    let b : Asked = record { line = line; handle = h; call = call } in
    let same : b ≡ a = ap (λ (o : Option Asked). asked_or b o) is in
    (ap (λ (x : Asked). x.line) same, ap (λ (x : Asked). OnHandle x.handle x.call) same)
asked_what line (Raw chain) a is = cc

asked_by_some : (p : ProcessState) (o : Option Statement) (a : Asked) → current p ≡ o → option_and_then asked_by o ≡ Some a → IsAsked p a
asked_by_some p None a at is = cc
asked_by_some p (Some s) a at is =
    let w : (s.line ≡ a.line) × (s.what ≡ OnHandle a.handle a.call) = asked_what s.line s.what a is in
    record { statement = s; at = at; is = is; line = w.0; what = w.1 }

pub asked_is : (p : ProcessState) (a : Asked) → current_call p ≡ Some a → IsAsked p a
asked_is p a is = asked_by_some p (current p) a refl is

pub asked_what_is : (s : Statement) (a : Asked) → asked_by s ≡ Some a → (s.line ≡ a.line) × (s.what ≡ OnHandle a.handle a.call)
asked_what_is s a is = asked_what s.line s.what a is

-- ---- how many are begun

pub begun_rests : (p : ProcessState) → p.status ≡ AtRest → begun p ≡ p.answered
begun_rests p rests = ap (λ (x : Status). if is_at_rest x then p.answered else p.answered + 1) rests

pub begun_more : (p : ProcessState) → is_at_rest p.status ≡ false → begun p ≡ p.answered + 1
begun_more p busy = ap (λ (b : Bool). if b then p.answered else p.answered + 1) busy

either_begun : (b : Bool) (n : ℕ) → ((if b then n else n + 1) ≡ n) ⊎ ((if b then n else n + 1) ≡ n + 1)
either_begun true n = inl refl
either_begun false n = inr refl

-- ---- what is out

pub rests_out : (o : Option Asked) (h : ℕ) (handle : HandleState) → IsOutAt AtRest o h handle → handle.log.unanswered ≡ false
rests_out None h handle out = out
rests_out (Some a) h handle out = elim (cases_eq a.handle h) as (λ _. handle.log.unanswered ≡ false) [ inl same ↦ out.0 same | inr apart ↦ out.1 apart ]

pub out_rests : (o : Option Asked) (h : ℕ) (handle : HandleState) → handle.log.unanswered ≡ false → IsOutAt AtRest o h handle
out_rests None h handle rests = rests
out_rests (Some a) h handle rests = ((λ same. rests), (λ apart. rests))

-- every other handle rests
pub other_rests : (status : Status) (a : Asked) (j : ℕ) (handle : HandleState) → IsOutAt status (Some a) j handle → j ≢ a.handle → handle.log.unanswered ≡ false
other_rests status a j handle out apart = out.1 (λ same. apart (sym same))

raw_rests : (o : Option Asked) → MayBeRaw AtRest o
raw_rests None = tt
raw_rests (Some a) = tt

raw_some : (status : Status) (a : Asked) → MayBeRaw status (Some a)
raw_some AtRest a = tt
raw_some Crossing a = tt
raw_some Blocked a = tt
raw_some Lent a = tt

-- ---- one handle

abbrev pub IsFor : ProcessLines → Model → ℕ → ℕ → ℕ → HandleState → Type 0
IsFor lines model b a h handle = AnswersLines model lines.lines (take b lines.lines) (take a lines.lines) h handle

for_same : (lines : ProcessLines) (model : Model) (b a b' a' h : ℕ) (handle : HandleState) → IsFor lines model b a h handle →
    lines_of h (take b' lines.lines) ≡ lines_of h (take b lines.lines) → lines_of h (take a' lines.lines) ≡ lines_of h (take a lines.lines) → IsFor lines model b' a' h handle
for_same lines model b a b' a' h handle old begun_same answered_same = record {
  keeps = old.keeps;
  sound = old.sound;
  model = old.model;
  calls = old.calls ∙ sym answered_same;
  begun = old.begun ∙ ap (λ (xs : List Numbered). length xs) (sym begun_same);
  lines = old.lines;
}

for_becomes : (lines : ProcessLines) (model : Model) (b a b' a' h n : ℕ) (calls : List Numbered) (old new : HandleState) → IsFor lines model b a h old → Becomes old new n calls →
    n ≡ length (lines_of h (take b' lines.lines)) → lines_of h (take a' lines.lines) ≡ lines_of h (take a lines.lines) ++ calls → IsFor lines model b' a' h new
for_becomes lines model b a b' a' h n calls old new was becomes so_many more = record {
  keeps = becomes.kept.keeps;
  sound = becomes.kept.sound;
  model = becomes.model ∙ was.model;
  calls = becomes.answers ∙ (ap (λ (xs : List Numbered). xs ++ calls) was.calls ∙ sym more);
  begun = becomes.so_many ∙ so_many;
  lines = becomes.lines ∙ was.lines;
}

each_set : (P : ℕ → HandleState → Type 0) (hs : List HandleState) (h : ℕ) (handle : HandleState) → h < length hs → P h handle →
    ((j : ℕ) → j < length hs → j ≢ h → P j (handle_in hs j)) → (j : ℕ) → j < length hs → P j (handle_in (set hs h handle) j)
each_set P hs h handle within here others j inside = elim (cases_eq j h) as (λ _. P j (handle_in (set hs h handle) j)) [
  | inl same ↦ subst (λ k. P k (handle_in (set hs h handle) k)) (sym same) (subst (λ x. P h x) (sym (get_or-set_same hs h handle no_handle within)) here)
  | inr apart ↦ subst (λ x. P j x) (sym (get_or-set_other hs h j handle no_handle apart)) (others j inside apart)
]

-- ---- the process

-- Its statement in this place is on this handle.
pub record IsOn (lines : ProcessLines) (p : ProcessState) (s : Statement) (h : ℕ) (call : Call) : Type 0 where
  pub at : current p ≡ Some s
  pub line : slice_get (statements_of lines.lines) p.answered ≡ Some s
  pub what : s.what ≡ OnHandle h call
  pub within : h < length p.handles
  pub few : AsksFew call

all_get : {A : Type 0} (P : A → Type 0) (xs : List A) (i : ℕ) (x : A) → All P xs → slice_get xs i ≡ Some x → P x
all_get P xs i x all is = subst P (get_or_from_slice_get xs i x x is) (all i x (slice_get_within xs i x is))

fit_on : (n h : ℕ) (call : Call) (what : LineKind) → what ≡ OnHandle h call → IsFitKind n what → (h < n) × AsksFew call
fit_on n h call what is fit = subst (λ w. IsFitKind n w) is fit

pub line_at : (model : Model) (lines : ProcessLines) (p : ProcessState) (s : Statement) → IsOrderly model lines p → current p ≡ Some s → slice_get (statements_of lines.lines) p.answered ≡ Some s
line_at model lines p s order at = ap (λ ss. slice_get ss p.answered) (sym order.statements) ∙ at

pub is_on : (model : Model) (lines : ProcessLines) (p : ProcessState) (s : Statement) (h : ℕ) (call : Call) → IsOrderly model lines p → current p ≡ Some s → s.what ≡ OnHandle h call → IsOn lines p s h call
is_on model lines p s h call order at what =
    let line : slice_get (statements_of lines.lines) p.answered ≡ Some s = line_at model lines p s order at in
    let l : IsLine lines.lines p.answered s = line_of lines.lines p.answered s line in
    let fit : (h < length lines.handles) × AsksFew call = fit_on (length lines.handles) h call l.line.what (ap (λ (x : Statement). x.what) l.is ∙ what)
    (all_get (λ (x : Line). IsFitKind (length lines.handles) x.what) lines.lines p.answered l.line order.fit.each l.at) in
    record { at = at; line = line; what = what; within = subst (λ n. h < n) (sym order.named) fit.0; few = fit.1 }

one_longer : (lines : ProcessLines) (p : ProcessState) (s : Statement) (h : ℕ) (call : Call) → IsOn lines p s h call →
    length (lines_of h (take (p.answered + 1) lines.lines)) ≡ length (lines_of h (take p.answered lines.lines)) + 1
one_longer lines p s h call on =
    ap (λ (xs : List Numbered). length xs) (lines_same lines.lines p.answered s h call on.line on.what) ∙ length-append (lines_of h (take p.answered lines.lines)) (one_call s.line call)

not_here : (s : Statement) (h j : ℕ) (call : Call) → s.what ≡ OnHandle h call → j ≢ h → call_on j s.what ≡ None
not_here s h j call what apart = ap (λ w. call_on j w) what ∙ on_other h j call (λ same. apart (sym same))

lines_apart : (lines : ProcessLines) (p : ProcessState) (s : Statement) (h j : ℕ) (call : Call) → IsOn lines p s h call → j ≢ h →
    lines_of j (take (p.answered + 1) lines.lines) ≡ lines_of j (take p.answered lines.lines)
lines_apart lines p s h j call on apart = lines_other lines.lines p.answered s j on.line (not_here s h j call on.what apart)

-- the same lines on another handle are begun
begun_apart : (lines : ProcessLines) (p : ProcessState) (s : Statement) (h j : ℕ) (call : Call) → IsOn lines p s h call → j ≢ h →
    lines_of j (take (p.answered + 1) lines.lines) ≡ lines_of j (take (begun p) lines.lines)
begun_apart lines p s h j call on apart =
    elim (either_begun (is_at_rest p.status) p.answered) as (λ _. lines_of j (take (p.answered + 1) lines.lines) ≡ lines_of j (take (begun p) lines.lines)) [
      | inl is ↦ lines_apart lines p s h j call on apart ∙ ap (λ n. lines_of j (take n lines.lines)) (sym is)
      | inr is ↦ ap (λ n. lines_of j (take n lines.lines)) (sym is)
    ]

-- ---- a call is begun, and stays out

pub starts : (model : Model) (lines : ProcessLines) (p : ProcessState) (s : Statement) (h : ℕ) (call : Call) (status : Status) (handle : HandleState) → IsOrderly model lines p → p.status ≡ AtRest →
    IsOn lines p s h call → is_at_rest status ≡ false → Becomes (handle_at p h) handle ((handle_at p h).log.begun + 1) [] → IsOut status (asked_of s h call) handle →
    IsOrderly model lines (doing status (with_handle p h handle))
starts model lines p s h call status handle order rests on busy becomes out =
    let a : Asked = asked_of s h call in
    let asked : current_call p ≡ Some a = asks p s h call on.at on.what in
    let one : (if is_at_rest status then p.answered else p.answered + 1) ≡ p.answered + 1 = ap (λ b. if b then p.answered else p.answered + 1) busy in
    let was : (j : ℕ) → j < length p.handles → IsFor lines model p.answered p.answered j (handle_at p j) =
    λ j inside. subst (λ n. IsFor lines model n p.answered j (handle_at p j)) (begun_rests p rests) (order.each j inside) in
    let quiet : (j : ℕ) → j < length p.handles → (handle_at p j).log.unanswered ≡ false =
    λ j inside. rests_out (current_call p) j (handle_at p j) (subst (λ x. IsOutAt x (current_call p) j (handle_at p j)) rests (order.out j inside)) in
    let here : IsFor lines model (p.answered + 1) p.answered h handle =
    for_becomes lines model p.answered p.answered (p.answered + 1) p.answered h ((handle_at p h).log.begun + 1) [] (handle_at p h) handle (was h on.within) becomes
    (ap (λ n. n + 1) (was h on.within).begun ∙ sym (one_longer lines p s h call on)) (sym (append_none (lines_of h (take p.answered lines.lines)))) in
    let others : (j : ℕ) → j < length p.handles → j ≢ h → IsFor lines model (p.answered + 1) p.answered j (handle_at p j) =
    λ j inside apart. for_same lines model p.answered p.answered (p.answered + 1) p.answered j (handle_at p j) (was j inside) (lines_apart lines p s h j call on apart) refl in
    let each : (j : ℕ) → j < length p.handles → IsFor lines model (p.answered + 1) p.answered j (handle_in (set p.handles h handle) j) =
    each_set (λ j x. IsFor lines model (p.answered + 1) p.answered j x) p.handles h handle on.within here others in
    let outs : (j : ℕ) → j < length p.handles → IsOutAt status (Some a) j (handle_in (set p.handles h handle) j) =
    each_set (λ j x. IsOutAt status (Some a) j x) p.handles h handle on.within ((λ same. out), (λ apart. absurd (apart refl)))
    (λ j inside apart. ((λ same. absurd (apart (sym same))), (λ other. quiet j inside))) in
    let long : length (set p.handles h handle) ≡ length p.handles = length-set p.handles h handle in
    record {
      fit = order.fit;
      statements = order.statements;
      named = long ∙ order.named;
      within = omega (arith, one, line_within lines.lines p.answered s on.line);
      each = λ j inside. subst (λ n. IsFor lines model n p.answered j (handle_in (set p.handles h handle) j)) (sym one) (each j (subst (λ n. j < n) long inside));
      out = λ j inside. subst (λ o. IsOutAt status o j (handle_in (set p.handles h handle) j)) (sym asked) (outs j (subst (λ n. j < n) long inside));
      raw = subst (λ o. MayBeRaw status o) (sym asked) (raw_some status a);
      all_raws = order.all_raws;
      raws = order.raws;
    }

-- ---- a call is answered

pub answered : (model : Model) (lines : ProcessLines) (p : ProcessState) (s : Statement) (h : ℕ) (call : Call) (n : ℕ) (handle : HandleState) → IsOrderly model lines p → IsOn lines p s h call →
    Becomes (handle_at p h) handle n (one_call s.line call) → n ≡ length (lines_of h (take (p.answered + 1) lines.lines)) → handle.log.unanswered ≡ false →
    ((j : ℕ) → j < length p.handles → j ≢ h → (handle_at p j).log.unanswered ≡ false) → IsOrderly model lines (rested (with_handle p h handle))
answered model lines p s h call n handle order on becomes so_many rests others_rest =
    let p' : ProcessState = rested (with_handle p h handle) in
    let here : IsFor lines model (p.answered + 1) (p.answered + 1) h handle =
    for_becomes lines model (begun p) p.answered (p.answered + 1) (p.answered + 1) h n (one_call s.line call) (handle_at p h) handle (order.each h on.within) becomes so_many
    (lines_same lines.lines p.answered s h call on.line on.what) in
    let others : (j : ℕ) → j < length p.handles → j ≢ h → IsFor lines model (p.answered + 1) (p.answered + 1) j (handle_at p j) =
    λ j inside apart. for_same lines model (begun p) p.answered (p.answered + 1) (p.answered + 1) j (handle_at p j) (order.each j inside) (begun_apart lines p s h j call on apart)
    (lines_apart lines p s h j call on apart) in
    let each : (j : ℕ) → j < length p.handles → IsFor lines model (p.answered + 1) (p.answered + 1) j (handle_in (set p.handles h handle) j) =
    each_set (λ j x. IsFor lines model (p.answered + 1) (p.answered + 1) j x) p.handles h handle on.within here others in
    let outs : (j : ℕ) → j < length p.handles → IsOutAt AtRest (current_call p') j (handle_in (set p.handles h handle) j) =
    each_set (λ j x. IsOutAt AtRest (current_call p') j x) p.handles h handle on.within (out_rests (current_call p') h handle rests)
    (λ j inside apart. out_rests (current_call p') j (handle_at p j) (others_rest j inside apart)) in
    let long : length (set p.handles h handle) ≡ length p.handles = length-set p.handles h handle in
    record {
      fit = order.fit;
      statements = order.statements;
      named = long ∙ order.named;
      within = omega (arith, line_within lines.lines p.answered s on.line);
      each = λ j inside. each j (subst (λ n. j < n) long inside);
      out = λ j inside. outs j (subst (λ n. j < n) long inside);
      raw = raw_rests (current_call p');
      all_raws = order.all_raws;
      raws = λ k inside. order.raws k inside ∙ sym (raws_same lines.lines p.answered k s on.line (ap (λ w. is_raw w) on.what));
    }

-- ---- nothing is begun or answered

pub moved : (model : Model) (lines : ProcessLines) (p : ProcessState) (h : ℕ) (handle : HandleState) → IsOrderly model lines p → h < length p.handles →
    Becomes (handle_at p h) handle (handle_at p h).log.begun [] → IsOutAt p.status (current_call p) h handle → IsOrderly model lines (with_handle p h handle)
moved model lines p h handle order within becomes out =
    let here : IsFor lines model (begun p) p.answered h handle =
    for_becomes lines model (begun p) p.answered (begun p) p.answered h (handle_at p h).log.begun [] (handle_at p h) handle (order.each h within) becomes
    (order.each h within).begun (sym (append_none (lines_of h (take p.answered lines.lines)))) in
    let each : (j : ℕ) → j < length p.handles → IsFor lines model (begun p) p.answered j (handle_in (set p.handles h handle) j) =
    each_set (λ j x. IsFor lines model (begun p) p.answered j x) p.handles h handle within here (λ j inside apart. order.each j inside) in
    let outs : (j : ℕ) → j < length p.handles → IsOutAt p.status (current_call p) j (handle_in (set p.handles h handle) j) =
    each_set (λ j x. IsOutAt p.status (current_call p) j x) p.handles h handle within out (λ j inside apart. order.out j inside) in
    let long : length (set p.handles h handle) ≡ length p.handles = length-set p.handles h handle in
    record {
      fit = order.fit;
      statements = order.statements;
      named = long ∙ order.named;
      within = order.within;
      each = λ j inside. each j (subst (λ n. j < n) long inside);
      out = λ j inside. outs j (subst (λ n. j < n) long inside);
      raw = order.raw;
      all_raws = order.all_raws;
      raws = order.raws;
    }

-- ---- between two lines

pub quiet : (model : Model) (lines : ProcessLines) (p : ProcessState) (j : ℕ) → IsOrderly model lines p → p.status ≡ AtRest → j < length p.handles → (handle_at p j).log.unanswered ≡ false
quiet model lines p j order rests inside =
    rests_out (current_call p) j (handle_at p j) (subst (λ x. IsOutAt x (current_call p) j (handle_at p j)) rests (order.out j inside))

pub begun_at : (model : Model) (lines : ProcessLines) (p : ProcessState) (h : ℕ) → IsOrderly model lines p → p.status ≡ AtRest → h < length p.handles →
    (handle_at p h).log.begun ≡ length (lines_of h (take p.answered lines.lines))
begun_at model lines p h order rests inside = (order.each h inside).begun ∙ ap (λ n. length (lines_of h (take n lines.lines))) (begun_rests p rests)

pub more_at : (model : Model) (lines : ProcessLines) (p : ProcessState) (s : Statement) (h : ℕ) (call : Call) → IsOrderly model lines p → p.status ≡ AtRest → IsOn lines p s h call →
    (handle_at p h).log.begun < (handle_at p h).log.lines
more_at model lines p s h call order rests on =
    omega (arith, begun_at model lines p h order rests on.within, (order.each h on.within).lines, one_longer lines p s h call on, lines_few h lines.lines (p.answered + 1))

pub one_begun : (model : Model) (lines : ProcessLines) (p : ProcessState) (s : Statement) (h : ℕ) (call : Call) → IsOrderly model lines p → p.status ≡ AtRest → IsOn lines p s h call →
    (handle_at p h).log.begun + 1 ≡ length (lines_of h (take (p.answered + 1) lines.lines))
one_begun model lines p s h call order rests on = ap (λ n. n + 1) (begun_at model lines p h order rests on.within) ∙ sym (one_longer lines p s h call on)

pub was_begun : (model : Model) (lines : ProcessLines) (p : ProcessState) (h : ℕ) → IsOrderly model lines p → is_at_rest p.status ≡ false → h < length p.handles →
    (handle_at p h).log.begun ≡ length (lines_of h (take (p.answered + 1) lines.lines))
was_begun model lines p h order busy inside = (order.each h inside).begun ∙ ap (λ n. length (lines_of h (take n lines.lines))) (begun_more p busy)

pub kept_at : (model : Model) (lines : ProcessLines) (p : ProcessState) (h : ℕ) → IsOrderly model lines p → h < length p.handles → IsKept (handle_at p h)
kept_at model lines p h order inside = record { keeps = (order.each h inside).keeps; sound = (order.each h inside).sound }

-- ---- raw lines

raw_nowhere : (what : LineKind) (j : ℕ) → is_raw what ≡ true → call_on j what ≡ None
raw_nowhere (OnHandle h call) j is = absurd (false≢true is)
raw_nowhere (Raw chain) j is = refl

pub raw_starts : (model : Model) (lines : ProcessLines) (p : ProcessState) (s : Statement) → IsOrderly model lines p → p.status ≡ AtRest → current p ≡ Some s → is_raw s.what ≡ true →
    IsOrderly model lines (doing Crossing p)
raw_starts model lines p s order rests at raw =
    let line : slice_get (statements_of lines.lines) p.answered ≡ Some s = line_at model lines p s order at in
    let none : current_call p ≡ None = asks_none p s at raw in
    record {
      fit = order.fit;
      statements = order.statements;
      named = order.named;
      within = omega (arith, line_within lines.lines p.answered s line);
      each = λ j inside. for_same lines model (begun p) p.answered (p.answered + 1) p.answered j (handle_at p j) (order.each j inside)
          (lines_other lines.lines p.answered s j line (raw_nowhere s.what j raw) ∙ ap (λ n. lines_of j (take n lines.lines)) (sym (begun_rests p rests))) refl;
      out = λ j inside. subst (λ o. IsOutAt Crossing o j (handle_at p j)) (sym none) (quiet model lines p j order rests inside);
      raw = subst (λ o. MayBeRaw Crossing o) (sym none) tt;
      all_raws = order.all_raws;
      raws = order.raws;
    }

none_rests : (status : Status) (o : Option Asked) (j : ℕ) (handle : HandleState) → o ≡ None → IsOutAt status o j handle → handle.log.unanswered ≡ false
none_rests status o j handle none out = subst (λ x. IsOutAt status x j handle) none out

pub raw_answered : (model : Model) (lines : ProcessLines) (p : ProcessState) (s : Statement) (errno : Errno) → IsOrderly model lines p → is_at_rest p.status ≡ false → current p ≡ Some s →
    is_raw s.what ≡ true → IsOrderly model lines (rested (record p { raws = set p.raws p.answered (Some errno) }))
raw_answered model lines p s errno order busy at raw =
    let p' : ProcessState = rested (record p { raws = set p.raws p.answered (Some errno) }) in
    let line : slice_get (statements_of lines.lines) p.answered ≡ Some s = line_at model lines p s order at in
    let same : (j : ℕ) → lines_of j (take (p.answered + 1) lines.lines) ≡ lines_of j (take p.answered lines.lines) =
    λ j. lines_other lines.lines p.answered s j line (raw_nowhere s.what j raw) in
    let long : length (set p.raws p.answered (Some errno)) ≡ length p.raws = length-set p.raws p.answered (Some errno) in
    let inside_raws : p.answered < length p.raws = omega (arith, order.all_raws, line_within lines.lines p.answered s line) in
    record {
      fit = order.fit;
      statements = order.statements;
      named = order.named;
      within = omega (arith, line_within lines.lines p.answered s line);
      each = λ j inside. for_same lines model (begun p) p.answered (p.answered + 1) (p.answered + 1) j (handle_at p j) (order.each j inside)
          (ap (λ n. lines_of j (take n lines.lines)) (sym (begun_more p busy))) (same j);
      out = λ j inside. out_rests (current_call p') j (handle_at p j) (none_rests p.status (current_call p) j (handle_at p j) (asks_none p s at raw) (order.out j inside));
      raw = raw_rests (current_call p');
      all_raws = long ∙ order.all_raws;
      raws = λ k inside. elim (cases_eq k p.answered) as (λ _. is_some (get_or (set p.raws p.answered (Some errno)) k None) ≡ is_raw_at (take (p.answered + 1) lines.lines) k) [
        | inl is ↦ subst (λ j. is_some (get_or (set p.raws p.answered (Some errno)) j None) ≡ is_raw_at (take (p.answered + 1) lines.lines) j) (sym is)
            (ap (λ o. is_some o) (get_or-set_same p.raws p.answered (Some errno) None inside_raws) ∙ sym (raws_last lines.lines p.answered s line ∙ raw))
        | inr apart ↦ ap (λ o. is_some o) (get_or-set_other p.raws p.answered k (Some errno) None apart)
            ∙ (order.raws k (subst (λ n. k < n) long inside) ∙ sym (raws_before lines.lines p.answered k s line apart))
      ];
    }
