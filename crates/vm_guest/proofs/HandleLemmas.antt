-- What a line leaves of its handle.
use Rattle.std.proofs.Common.{◌≡◌, ◌<◌, ◌+◌, ◌^◌, inl, inr, ℕ, true, false, List, [], ◌∷◌, ◌++◌, Option, Some, None, refl, sym, ap, ◌∙◌, subst}
use Rattle.v4l_const.specs.declared.errno.Errno.{Errno}
use Rattle.v4l_rules.specs.Refusals.{first_refusal}
use Rattle.vm_frame.specs.declared.mem.Held.{Held}
use Rattle.vm_lease.specs.Lease.{LeaseParts}
use Rattle.vm_lease.specs.declared.lease_out.LeaseOut.{LeaseOut}
use Rattle.vm_local.specs.declared.call.Call.{Call}
use Rattle.vm_local.specs.declared.entry.Entry.{Entry}
use Rattle.vm_local.specs.declared.entry.Entry.TheVariants.{Called, Finish, Bad, Give}
use Rattle.vm_local.specs.declared.reply.Reply.{Reply}
use Rattle.vm_home.specs.Moves.{goes_along, touches_bytes}
use Rattle.vm_log.specs.LegalLog.{LogState, state_of, is_lent_to, lease_in}
use Rattle.vm_log.specs.Answers.{with_line, answered_with, Sends, Leases, IsDone, given_back}
use Rattle.vm_log.specs.declared.leased.Leased.{Leased}
use Rattle.vm_log.specs.declared.leased.Leased.TheVariants.{Out, Answered, Idle}
use Rattle.vm_script.specs.Lines.{Numbered, calls_of}
use Rattle.vm_exchange.specs.declared.crossing.Crossing.{Crossing}
use Rattle.vm_exchange.specs.declared.way.Way.TheVariants.{Crosses, AnsweredHere, Waits}
use Rattle.vm_handle.specs.declared.stage.Stage.TheVariants.{Underway}
use Rattle.vm_handle.specs.Handle.{HandleState, way_from}
use Rattle.vm_handle.specs.Answers.{row_from, answered_by, AnswersHere}
use Rattle.vm_guest.specs.Lines.{GoesOut, AnswersItself, waiting}
use Rattle.vm_handle.proofs.DeliverLemmas.{AreSteps}
use Rattle.vm_handle.proofs.KeptLemmas.{IsKept, kept_crossing, kept_waiting, kept_here, kept_leased, kept_given_back}

-- ---- the calls of a log

pub calls_append : (xs ys : List Entry) → calls_of (xs ++ ys) ≡ calls_of xs ++ calls_of ys
calls_append [] ys = refl
calls_append (Called line call reply ∷ xs) ys = ap (λ (zs : List Numbered). record { line = line; call = call } ∷ zs) (calls_append xs ys)
calls_append (Finish ∷ xs) ys = calls_append xs ys
calls_append (Bad ∷ xs) ys = calls_append xs ys
calls_append (Give ∷ xs) ys = calls_append xs ys

-- the device's steps are no calls
steps_none : (es : List Entry) → AreSteps es → calls_of es ≡ []
steps_none [] steps = refl
steps_none (Called line call reply ∷ es) steps = absurd steps.0
steps_none (Finish ∷ es) steps = steps_none es steps.1
steps_none (Bad ∷ es) steps = steps_none es steps.1
steps_none (Give ∷ es) steps = steps_none es steps.1

no_more : {A : Type 0} (xs : List A) → xs ≡ xs ++ []
no_more [] = refl
no_more (x ∷ xs) = ap (λ ys. x ∷ ys) (no_more xs)

-- ---- what a step leaves

abbrev pub one_call : ℕ → Call → List Numbered
one_call line call = record { line = line; call = call } ∷ []

-- It keeps what each handle does, so many of its lines were begun, and these calls more are answered.
pub record Becomes (old new : HandleState) (begun : ℕ) (calls : List Numbered) : Type 0 where
  pub kept : IsKept new
  pub model : new.log.model ≡ old.log.model
  pub lines : new.log.lines ≡ old.log.lines
  pub so_many : new.log.begun ≡ begun
  pub answers : calls_of new.log.entries ≡ calls_of old.log.entries ++ calls

-- ---- a line is begun

record SameLog (old new : LogState) : Type 0 where
  pub model : new.model ≡ old.model
  pub entries : new.entries ≡ old.entries
  pub lines : new.lines ≡ old.lines
  pub begun : new.begun ≡ old.begun
  pub unanswered : new.unanswered ≡ old.unanswered

sends_same : (o : Option ℕ) (old new : LogState) (call : Call) (along : Option Held) → Sends o old call along new → SameLog old new
sends_same None old new call along sends = subst (λ (x : LogState). SameLog old x) (sym sends.1) (record { model = refl; entries = refl; lines = refl; begun = refl; unanswered = refl })
sends_same (Some n) old new call None sends = absurd sends
sends_same (Some n) old new call (Some held) sends = subst (λ (x : LogState). SameLog old x) (sym sends.2) (record { model = refl; entries = refl; lines = refl; begun = refl; unanswered = refl })

pub goes_out : (h h' : HandleState) (line : ℕ) (call : Call) (c : Crossing) (along : Option Held) → IsKept h → h.log.unanswered ≡ false → h.log.begun < h.log.lines → way_from h call ≡ Crosses c →
    GoesOut h line call along h' → Becomes h h' (h.log.begun + 1) [] × (h'.stage ≡ Underway line call)
goes_out h h' line call c along kept rests more way out =
    let same : SameLog (with_line h.log) out.log = sends_same (goes_along (state_of h.log) call) (with_line h.log) out.log call along out.sends in
    let new : HandleState = record h { log = out.log; stage = Underway line call } in
    let becomes : Becomes h new (h.log.begun + 1) [] × (new.stage ≡ Underway line call) = (
      record {
        kept = kept_crossing h line call c along out.log kept rests more way out.sends;
        model = same.model;
        lines = same.lines;
        so_many = same.begun;
        answers = ap (λ es. calls_of es) same.entries ∙ no_more (calls_of h.log.entries);
      },
      refl,
    ) in
    subst (λ (x : HandleState). Becomes h x (h.log.begun + 1) [] × (x.stage ≡ Underway line call)) (sym out.after) becomes

pub waits : (h : HandleState) (line : ℕ) (call : Call) → IsKept h → h.log.unanswered ≡ false → h.log.begun < h.log.lines → way_from h call ≡ Waits →
    Becomes h (waiting h line call) (h.log.begun + 1) []
waits h line call kept rests more way =
    record { kept = kept_waiting h line call kept rests more way; model = refl; lines = refl; so_many = refl; answers = no_more (calls_of h.log.entries) }

-- the log answers one call more
record OneMore (old new : LogState) (line : ℕ) (call : Call) : Type 0 where
  pub model : new.model ≡ old.model
  pub lines : new.lines ≡ old.lines
  pub begun : new.begun ≡ old.begun
  pub answers : calls_of new.entries ≡ calls_of old.entries ++ one_call line call
  pub rests : new.unanswered ≡ false

one_more : (old : LogState) (line : ℕ) (call : Call) (reply : Reply) (home : List _) → OneMore old (answered_with old line call reply home) line call
one_more old line call reply home = record { model = refl; lines = refl; begun = refl; answers = calls_append old.entries (Called line call reply ∷ []); rests = refl }

row_more : (o : Option Errno) (old : LogState) (line : ℕ) (call : Call) → OneMore old (answered_by o old line call) line call
row_more None old line call = record { model = refl; lines = refl; begun = refl; answers = calls_append old.entries (Called line call _ ∷ []); rests = refl }
row_more (Some e) old line call = record { model = refl; lines = refl; begun = refl; answers = calls_append old.entries (Called line call _ ∷ []); rests = refl }

here_more : (old new : LogState) (line : ℕ) (call : Call) → AnswersHere old line call new → OneMore old new line call
here_more old new line call (inl is) = subst (λ (x : LogState). OneMore old x line call) (sym is) (row_more (first_refusal (row_from old line call).refusals) old line call)
here_more old new line call (inr lacks) = subst (λ (x : LogState). OneMore old x line call) (sym lacks.new_is) (one_more old line call _ old.home)

pub answers_itself : (h h' : HandleState) (line : ℕ) (call : Call) → IsKept h → h.log.unanswered ≡ false → h.log.begun < h.log.lines → line < 2 ^ 32 → way_from h call ≡ AnsweredHere →
    AnswersItself h line call h' → Becomes h h' (h.log.begun + 1) (one_call line call) × (h'.log.unanswered ≡ false)
answers_itself h h' line call kept rests more short way itself =
    let one : OneMore (with_line h.log) itself.log line call = here_more (with_line h.log) itself.log line call itself.answers in
    let new : HandleState = record h { log = itself.log } in
    let becomes : Becomes h new (h.log.begun + 1) (one_call line call) × (new.log.unanswered ≡ false) = (
      record {
        kept = kept_here h line call itself.log kept rests more way short itself.answers;
        model = one.model;
        lines = one.lines;
        so_many = one.begun;
        answers = one.answers;
      },
      one.rests,
    ) in
    subst (λ (x : HandleState). Becomes h x (h.log.begun + 1) (one_call line call) × (x.log.unanswered ≡ false)) (sym itself.after) becomes

-- ---- a lease

-- a line that touches a memory is answered, or its lease is out
pub record IsLent (new : LogState) (line : ℕ) (call : Call) : Type 0 where
  pub entry : LeaseOut
  pub out : lease_in new.away ≡ Some entry
  pub line_is : entry.line ≡ line
  pub call_is : entry.call ≡ call

abbrev pub LeasedAs : Leased → HandleState → HandleState → ℕ → Call → Type 0
LeasedAs (Out lease) h h' line call = Becomes h h' (h.log.begun + 1) [] × IsLent h'.log line call
LeasedAs Answered h h' line call = Becomes h h' (h.log.begun + 1) (one_call line call) × (h'.log.unanswered ≡ false)
LeasedAs Idle h h' line call = ⊥

leased_by : (o : Option Errno) (h : HandleState) (log : LogState) (line : ℕ) (call : Call) (leased : Leased) → IsKept (record h { log = log }) →
    Leases o (with_line h.log) line call leased log → LeasedAs leased h (record h { log = log }) line call
leased_by (Some e) h log line call Answered kept leases =
    let one : OneMore (with_line h.log) log line call = subst (λ (x : LogState). OneMore (with_line h.log) x line call) (sym leases) (one_more (with_line h.log) line call _ h.log.home) in
    (record { kept = kept; model = one.model; lines = one.lines; so_many = one.begun; answers = one.answers }, one.rests)
leased_by None h log line call (Out lease) kept out =
    let P : LogState → Type 0 = λ x. (x.model ≡ h.log.model) × (x.lines ≡ h.log.lines) × (x.begun ≡ h.log.begun + 1) × (calls_of x.entries ≡ calls_of h.log.entries ++ []) × IsLent x line call in
    let is : P log = subst P (sym out.left) (
      refl,
      refl,
      refl,
      no_more (calls_of h.log.entries),
      record { entry = out.entry; out = refl; line_is = out.noted.0 ∙ ap (λ (p : LeaseParts). p.line) out.lent_out; call_is = out.noted.1 ∙ ap (λ (p : LeaseParts). p.call) out.lent_out },
    ) in
    (record { kept = kept; model = is.0; lines = is.1; so_many = is.2; answers = is.3 }, is.4)
leased_by (Some e) h log line call (Out lease) kept leases = absurd leases
leased_by (Some e) h log line call Idle kept leases = absurd leases
leased_by None h log line call Answered kept leases = absurd leases
leased_by None h log line call Idle kept leases = absurd leases

pub leased_as : (h : HandleState) (log : LogState) (line : ℕ) (call : Call) (leased : Leased) → IsKept h → h.log.unanswered ≡ false → h.log.begun < h.log.lines → touches_bytes call ≡ true →
    line < 2 ^ 32 → Leases (first_refusal (row_from h.log line call).refusals) (with_line h.log) line call leased log → LeasedAs leased h (record h { log = log }) line call
leased_as h log line call leased kept rests more touches short leases =
    leased_by (first_refusal (row_from h.log line call).refusals) h log line call leased (kept_leased h line call leased log kept rests more touches short leases) leases

pub gives_back : (h : HandleState) (lease : LeaseParts) → IsKept h → is_lent_to h.log.away lease.line ≡ true → IsDone (lease_in h.log.away) lease →
    Becomes h (record h { log = given_back h.log lease }) h.log.begun (one_call lease.line lease.call)
gives_back h lease kept mine done = record {
  kept = kept_given_back h lease kept mine done;
  model = refl;
  lines = refl;
  so_many = refl;
  answers = calls_append h.log.entries (Called lease.line lease.call lease.reply ∷ []);
}

-- ---- entries behind it

pub steps_behind : (entries steps : List Entry) → AreSteps steps → calls_of (entries ++ steps) ≡ calls_of entries ++ []
steps_behind entries steps are = calls_append entries steps ∙ ap (λ (cs : List Numbered). calls_of entries ++ cs) (steps_none steps are)

pub call_behind : (entries steps : List Entry) (line : ℕ) (call : Call) (reply : Reply) → AreSteps steps →
    calls_of ((entries ++ steps) ++ Called line call reply ∷ []) ≡ calls_of entries ++ one_call line call
call_behind entries steps line call reply are =
    calls_append (entries ++ steps) (Called line call reply ∷ [])
    ∙ ap (λ (cs : List Numbered). cs ++ one_call line call) (steps_behind entries steps are ∙ sym (no_more (calls_of entries)))
