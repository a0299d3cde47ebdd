-- The driver before its first line keeps what it does between steps.
use Rattle.std.proofs.Common.{inl, inr, ◌≡◌, ◌<◌, ◌≤◌, ◌+◌, ◌*◌, ◌^◌, ℕ, false, List, [], ◌∷◌, ◌++◌, All, IfSome, length, take, sum_by, is_some, Option, Some, None, get_or, refl, sym, ap, subst, ◌∙◌, arith}
use Rattle.std.proofs.lemmas.Bool.{cases_eq}
use Rattle.std.proofs.lemmas.List.{get_or-replicate, length-replicate, length-append, get_or_at, get_or_append_left, get_or_read}
use Rattle.std.proofs.lemmas.List.Elements.{All-replicate, All-head, All-tail}
use Rattle.std.proofs.lemmas.List.Sums.{sum_by-cons}
use Rattle.v4l_const.specs.declared.model.Model.{Model}
use Rattle.v4l_const.specs.declared.model.Model.TheVariants.{Capture, Convert}
use Rattle.vm_handle.specs.Handle.{HandleState}
use Rattle.vm_handle.proofs.StartLemmas.{fresh_keeps}
use Rattle.vm_log.specs.LegalLog.{IsSound, fresh_log}
use Rattle.vm_script.specs.Lines.{lines_of}
use Rattle.vm_script.specs.Script.{ProcessLines, ScriptLines}
use Rattle.vm_guest.specs.Guest.{GuestState, no_process, process_in, process_at}
use Rattle.vm_guest.specs.Orderly.{IsFitProcess, IsFitScript, AnswersLines, IsOutAt, MayBeRaw, is_raw_at, IsOrderly, IsSeat, IsDriver, IsFresh, IsFreshGuest, fresh_at, lines_at, no_lines}
use Rattle.vm_guest.specs.Process.{ProcessState, begun, current_call, handle_at}
use Rattle.vm_guest.specs.declared.asked.Asked.{Asked}
use Rattle.vm_guest.specs.declared.seat.Seat.{Seat}
use Rattle.vm_guest.specs.declared.status.Status.{Status}
use Rattle.vm_guest.specs.declared.status.Status.TheVariants.{AtRest}

-- ---- one handle

fresh_sound : (model : Model) (lines : ℕ) → IsSound (fresh_log model lines)
fresh_sound Capture lines = record {
  legal = refl;
  in_place = record { places = refl; each = λ m. tt };
  out = tt;
  within = record { few = omega arith; to_come = omega arith; made = omega arith };
}
fresh_sound Convert lines = record {
  legal = refl;
  in_place = record { places = refl; each = λ m. tt };
  out = tt;
  within = record { few = omega arith; to_come = omega arith; made = omega arith };
}

fresh_answers : (model : Model) (lines : ProcessLines) (h : ℕ) → AnswersLines model lines.lines [] [] h (fresh_at model lines h)
fresh_answers model lines h = record {
  keeps = fresh_keeps model (length (lines_of h lines.lines));
  sound = fresh_sound model (length (lines_of h lines.lines));
  model = refl;
  calls = refl;
  begun = refl;
  lines = refl;
}

-- ---- one process

none_out : (asked : Option Asked) (h : ℕ) (handle : HandleState) → handle.log.unanswered ≡ false → IsOutAt AtRest asked h handle
none_out None h handle none = none
none_out (Some a) h handle none = (λ _. none, λ _. none)

no_raw : (asked : Option Asked) → MayBeRaw AtRest asked
no_raw None = tt
no_raw (Some a) = tt

pub fresh_orderly : (model : Model) (n : ℕ) (lines : ProcessLines) (p : ProcessState) → IsFitProcess lines → IsFresh model n lines p → IsOrderly model lines p
fresh_orderly model n lines p fit fresh =
    let status : p.status ≡ AtRest = fresh.status in
    let none : p.answered ≡ 0 = fresh.answered in
    let begun_none : begun p ≡ 0 = rw status none in
    record {
      fit = fit;
      statements = fresh.statements;
      named = fresh.named;
      within = omega (arith, begun_none);
      each = λ h within. (
          subst (λ (k : ℕ). AnswersLines model lines.lines (take k lines.lines) (take p.answered lines.lines) h (handle_at p h)) (sym begun_none)
          (subst (λ (k : ℕ). AnswersLines model lines.lines [] (take k lines.lines) h (handle_at p h)) (sym none)
          (subst (λ (x : HandleState). AnswersLines model lines.lines [] [] h x) (sym (fresh.fresh h within)) (fresh_answers model lines h))));
      out = λ h within. (
          subst (λ (s : Status). IsOutAt s (current_call p) h (handle_at p h)) (sym status)
          (none_out (current_call p) h (handle_at p h) (ap (λ (x : HandleState). x.log.unanswered) (fresh.fresh h within))));
      raw = subst (λ (s : Status). MayBeRaw s (current_call p)) (sym status) (no_raw (current_call p));
      all_raws = ap length fresh.raws ∙ length-replicate (length lines.lines) None;
      raws = λ k within. (
          let long : length p.raws ≡ length lines.lines = ap length fresh.raws ∙ length-replicate (length lines.lines) None in
          let short : k < length lines.lines = omega arith in
          let is_none : get_or p.raws k None ≡ None = ap (λ xs. get_or xs k None) fresh.raws ∙ get_or-replicate (length lines.lines) k None None short in
          ap is_some is_none ∙ sym (ap (λ (m : ℕ). is_raw_at (take m lines.lines) k) none));
    }

-- ---- the driver

pub fresh_driver : (script : ScriptLines) (g : GuestState) → IsFitScript script → IsFreshGuest script g → IsDriver script g
fresh_driver script g fit fresh =
    let few = fit.few in
    let count = fresh.count in
    record {
      model = fresh.model;
      count = count;
      few = omega (arith, few, count);
      numbered = λ n within. (fresh.fresh n within).number;
      orderly = λ n within. fresh_orderly script.model n (lines_at script n) (process_at g n) (fit.each n no_lines (omega (arith, count, within))) (fresh.fresh n within);
      seats = subst (λ (xs : List (Option Seat)). All (λ seat. IfSome seat (IsSeat g.processes)) xs) (sym fresh.seats)
          (All-replicate (λ seat. IfSome seat (IsSeat g.processes)) (sum_by (λ (p : ProcessLines). length p.handles) script.processes) None tt);
    }

-- ---- how much there is

-- the processes of a script have few handles
handles_by : (ps : List ProcessLines) → All IsFitProcess ps → sum_by (λ (p : ProcessLines). length p.handles) ps ≤ 1024 * length ps
handles_by [] fit = omega arith
handles_by (p ∷ ps) fit =
    let first = All-head IsFitProcess p ps fit in
    let limit = first.limit in
    let named = first.named in
    let rest = handles_by ps (All-tail IsFitProcess p ps fit) in
    let all = sum_by-cons (λ (q : ProcessLines). length q.handles) p ps in
    omega (arith, limit, named, rest, all)

pub few_handles : (script : ScriptLines) → IsFitScript script → sum_by (λ (p : ProcessLines). length p.handles) script.processes < 2 ^ 31
few_handles script fit = let few = fit.few in omega (arith, few, handles_by script.processes fit.each)

-- ---- the processes one after the other

-- the first ones are there, and fresh
abbrev pub AreFresh : ScriptLines → List ProcessState → ℕ → Type 0
AreFresh script callers at = (length callers ≡ at) × ((n : ℕ) → n < at → IsFresh script.model n (lines_at script n) (process_in callers n))

pub one_fresh : (script : ScriptLines) (callers callers' : List ProcessState) (at : ℕ) (p : ProcessState) → AreFresh script callers at → IsFresh script.model at (lines_at script at) p →
    callers' ≡ callers ++ p ∷ [] → AreFresh script callers' (at + 1)
one_fresh script callers callers' at p are fresh more = subst (λ (ps : List ProcessState). AreFresh script ps (at + 1)) (sym more) (
  omega (arith, length-append callers (p ∷ []), are.0),
  λ n within. elim (cases_eq n at) as (λ _. IsFresh script.model n (lines_at script n) (process_in (callers ++ p ∷ []) n)) [
    | inl same ↦
        subst (λ (k : ℕ). IsFresh script.model k (lines_at script k) (process_in (callers ++ p ∷ []) k)) (sym same)
        (subst (λ (q : ProcessState). IsFresh script.model at (lines_at script at) q) (sym (get_or_at callers p [] no_process at are.0)) fresh)
    | inr differs ↦
        let here : n < at = omega (arith, within, differs) in
        subst (λ (q : ProcessState). IsFresh script.model n (lines_at script n) q) (sym (get_or_append_left callers (p ∷ []) no_process n (omega (arith, here, are.0)))) (are.1 n here)
  ],
)

-- the lines that are read are those at their place
pub fresh_place : (script : ScriptLines) (at : ℕ) (lines : ProcessLines) (p : ProcessState) → at < length script.processes → lines ≡ get_or script.processes at lines → IsFresh script.model at lines p →
    IsFresh script.model at (lines_at script at) p
fresh_place script at lines p within is fresh = subst (λ (x : ProcessLines). IsFresh script.model at x p) (get_or_read script.processes at lines within is no_lines) fresh
