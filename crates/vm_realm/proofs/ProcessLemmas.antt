-- What is left of a process: its lines that weren't begun, and the lease that is out of it.
use Rattle.std.proofs.Common.{◌≡◌, ℕ, ◌+◌, ◌*◌, ◌-◌, ◌<◌, ◌≤◌, Bool, true, false, List, [], ◌∷◌, Option, Some, None, length, get_or, refl, sym, ap, ◌∙◌, subst, arith, inl, inr}
use Rattle.std.specs.Prelude.{◌&&◌, sum_by}
use Rattle.std.specs.List.{filter_map}
use Rattle.std.proofs.lemmas.Bool.{false≢true, cases_lt, cases_eq, cond_both, cond-false, and_parts, and_left}
use Rattle.std.proofs.lemmas.List.{set_past, get_or-set_same, get_or-set_other}
use Rattle.std.proofs.lemmas.List.Sums.{sum_by-cons}
use Rattle.std.proofs.lemmas.Option.{none-some, cond_some, slice_get_within}
use Rattle.vm_script.specs.declared.line.LineKind.{LineKind}
use Rattle.vm_wire.specs.declared.delivery.Delivery.{Delivery}
use Rattle.vm_handle.specs.Answers.{delivered}
use Rattle.vm_handle.specs.Handle.{HandleState}
use Rattle.vm_guest.specs.Events.{woken, told}
use Rattle.vm_guest.specs.Process.{ProcessState, is_at_rest, is_crossing, is_blocked, is_lent, is_answered_in, current, current_call, some_if, kept_by, next, handle_at, with_handle, rested, lease_on, lease_out, no_handle}
use Rattle.vm_guest.specs.declared.asked.Asked.{Asked}
use Rattle.vm_guest.specs.declared.asked.Statement.{Statement}
use Rattle.vm_guest.specs.declared.status.Status.{Status}
use Rattle.vm_guest.specs.declared.status.Status.TheVariants.{AtRest, Crossing, Blocked, Lent}
use Rattle.vm_realm.specs.Left.{unbegun}
use Rattle.vm_realm.proofs.SumLemmas.{one_in, count_mapped}
use Rattle.vm_realm.proofs.LogLemmas.{lent_by, delivered_lent}

abbrev pub weight : ProcessState → ℕ
weight p = 12 * unbegun p + one_in (lease_out p)

pub weights : (ps : List ProcessState) → 12 * sum_by unbegun ps + length (filter_map lease_out ps) ≡ sum_by weight ps
weights ps = omega (arith, count_mapped lease_out ps, each ps)
  where
    each : (qs : List ProcessState) → 12 * sum_by unbegun qs + sum_by (λ p. one_in (lease_out p)) qs ≡ sum_by weight qs
    each [] = refl
    each (q ∷ qs) =
        let rest = each qs in
        omega (arith, rest, sum_by-cons unbegun q qs, sum_by-cons (λ (p : ProcessState). one_in (lease_out p)) q qs, sum_by-cons weight q qs)

-- ---- by what it does

abbrev pub ahead_of : ProcessState → ℕ
ahead_of p = length p.statements - (p.answered + 1)

pub rest_weight : (p : ProcessState) → p.status ≡ AtRest → weight p ≡ 12 * (length p.statements - p.answered)
rest_weight p is =
    let W : Status → ℕ = λ s. weight (record p { status = s }) in
    let same : weight p ≡ W AtRest = ap W is in
    omega (arith, same)

pub begun_weight : (p : ProcessState) (s : Status) → p.status ≡ s → is_at_rest s ≡ false → is_lent s ≡ false → weight p ≡ 12 * (length p.statements - (p.answered + 1))
begun_weight p AtRest is busy free = absurd (false≢true (sym busy))
begun_weight p Crossing is busy free = let W : Status → ℕ = λ s. weight (record p { status = s }) in let same : weight p ≡ W Crossing = ap W is in omega (arith, same)
begun_weight p Blocked is busy free = let W : Status → ℕ = λ s. weight (record p { status = s }) in let same : weight p ≡ W Blocked = ap W is in omega (arith, same)
begun_weight p Lent is busy free = absurd (false≢true (sym free))

pub rested_weight : (p : ProcessState) → weight (rested p) ≡ 12 * (length p.statements - (p.answered + 1))
rested_weight p = omega arith

-- ---- an event is told to it

-- a handle that lends no more than before
handle_lent : (p : ProcessState) (h : ℕ) (x : HandleState) (k : ℕ) → lent_by x.log ≤ lent_by (handle_at p h).log → lent_by (handle_at (with_handle p h x) k).log ≤ lent_by (handle_at p k).log
handle_lent p h x k less = elim (cases_eq k h) [ inl same ↦ here same | inr other ↦ omega (arith, ap (λ (y : HandleState). lent_by y.log) (get_or-set_other p.handles h k x no_handle other)) ]
  where
    here : k ≡ h → lent_by (handle_at (with_handle p h x) k).log ≤ lent_by (handle_at p k).log
    here same = subst (λ i. lent_by (handle_at (with_handle p h x) i).log ≤ lent_by (handle_at p i).log) (sym same)
        (elim (cases_lt h (length p.handles)) [
          | inl within ↦ omega (arith, less, ap (λ (y : HandleState). lent_by y.log) (get_or-set_same p.handles h x no_handle within))
          | inr past ↦ omega (arith, ap (λ hs. lent_by (get_or hs h no_handle).log) (set_past p.handles h x past))
        ])

lent_of : (b : Bool) (c : Option Asked) (p : ProcessState) (h : ℕ) (x : HandleState) → lent_by x.log ≤ lent_by (handle_at p h).log →
    one_in (some_if b (lease_on (with_handle p h x) c)) ≤ one_in (some_if b (lease_on p c))
lent_of false c p h x less = omega arith
lent_of true None p h x less = omega arith
lent_of true (Some a) p h x less = handle_lent p h x a.handle less

handle_weight : (p : ProcessState) (h : ℕ) (x : HandleState) → lent_by x.log ≤ lent_by (handle_at p h).log → weight (with_handle p h x) ≤ weight p
handle_weight p h x less = let lent = lent_of (is_lent p.status) (current_call p) p h x less in omega (arith, lent)

blocked_is : (s : Status) → is_blocked s ≡ true → s ≡ Blocked
blocked_is AtRest is = absurd (false≢true is)
blocked_is Crossing is = absurd (false≢true is)
blocked_is Blocked is = refl
blocked_is Lent is = absurd (false≢true is)

woken_weight : (p : ProcessState) → weight (woken p) ≤ weight p
woken_weight p =
    let answered : Bool = is_answered_in p.handles (current_call p) in
    cond_both (is_blocked p.status && answered) (rested p) p (λ q. weight q ≤ weight p)
    (λ wakes. let was = begun_weight p Blocked (blocked_is p.status (and_parts (is_blocked p.status) answered wakes).0) refl refl in omega (arith, was, rested_weight p))
    (λ stays. omega arith)

pub told_weight : (p : ProcessState) (h : ℕ) (d : Delivery) → weight (told p h d) ≤ weight p
told_weight p h d =
    let x : HandleState = delivered (handle_at p h) d.msg d.held in
    let lent : weight (with_handle p h x) ≤ weight p = handle_weight p h x (delivered_lent (handle_at p h) d.msg d.held) in
    omega (arith, lent, woken_weight (with_handle p h x))

-- ---- what stays of a process that isn't blocked

pub record Stays (p q : ProcessState) : Type 0 where
  pub statements : q.statements ≡ p.statements
  pub answered : q.answered ≡ p.answered
  pub status : q.status ≡ p.status

pub stays : (p : ProcessState) → Stays p p
stays p = record { statements = refl; answered = refl; status = refl }

pub stays_on : (p q r : ProcessState) → Stays p q → Stays q r → Stays p r
stays_on p q r first then' = record {
  statements = then'.statements ∙ first.statements;
  answered = then'.answered ∙ first.answered;
  status = then'.status ∙ first.status;
}

pub told_stays : (p : ProcessState) (h : ℕ) (d : Delivery) → is_blocked p.status ≡ false → Stays p (told p h d)
told_stays p h d awake =
    let q : ProcessState = with_handle p h (delivered (handle_at p h) d.msg d.held) in
    let answered : Bool = is_answered_in q.handles (current_call q) in
    let same : woken q ≡ q = cond-false (is_blocked q.status && answered) (rested q) q (and_left (is_blocked q.status) answered awake) in
    subst (Stays p) (sym same) (record { statements = refl; answered = refl; status = refl })

-- ---- its next statement

at_rest_is : (s : Status) → is_at_rest s ≡ true → s ≡ AtRest
at_rest_is AtRest is = refl
at_rest_is Crossing is = absurd (false≢true is)
at_rest_is Blocked is = absurd (false≢true is)
at_rest_is Lent is = absurd (false≢true is)

crossing_is : (s : Status) → is_crossing s ≡ true → s ≡ Crossing
crossing_is AtRest is = absurd (false≢true is)
crossing_is Crossing is = refl
crossing_is Blocked is = absurd (false≢true is)
crossing_is Lent is = absurd (false≢true is)

pub lent_is : (s : Status) → is_lent s ≡ true → s ≡ Lent
lent_is AtRest is = absurd (false≢true is)
lent_is Crossing is = absurd (false≢true is)
lent_is Blocked is = absurd (false≢true is)
lent_is Lent is = refl

pub some_where : {A : Type 0} (b : Bool) (o : Option A) (x : A) → some_if b o ≡ Some x → (b ≡ true) × (o ≡ Some x)
some_where true o x is = (refl, is)
some_where false o x is = absurd (none-some x is)

pub kept_some : (f : LineKind → Bool) (o : Option Statement) (s : Statement) → kept_by f o ≡ Some s → o ≡ Some s
kept_some f None s is = absurd (none-some s is)
kept_some f (Some t) s is = ap Some (cond_some (f t.what) t s is).1

pub next_is : (p : ProcessState) (s : Statement) → next p ≡ Some s → (p.status ≡ AtRest) × (p.answered < length p.statements)
next_is p s is =
    let parts = some_where (is_at_rest p.status) (current p) s is in
    (at_rest_is p.status parts.0, slice_get_within p.statements p.answered s parts.1)

pub crossing_where : {A : Type 0} (p : ProcessState) (o : Option A) (x : A) → some_if (is_crossing p.status) o ≡ Some x → p.status ≡ Crossing
crossing_where p o x is = crossing_is p.status (some_where (is_crossing p.status) o x is).0
