-- Before the first line of a script: what is left.
use Rattle.std.proofs.Common.{◌≡◌, ℕ, suc, ◌<◌, ◌≤◌, ◌*◌, List, [], ◌∷◌, Option, None, length, get_or, refl, ap, ◌∙◌, arith, sum_by}
use Rattle.std.proofs.lemmas.List.{length-map}
use Rattle.std.specs.List.{filter_map}
use Rattle.v4l_const.specs.declared.model.Model.{Model}
use Rattle.vm_script.specs.Script.{ProcessLines, ScriptLines}
use Rattle.vm_guest.specs.Asking.{statement_of}
use Rattle.vm_guest.specs.Guest.{no_process, process_at}
use Rattle.vm_guest.specs.Orderly.{IsFresh, lines_at, no_lines}
use Rattle.vm_guest.specs.Process.{ProcessState, begun, lease_out}
use Rattle.vm_guest.specs.declared.status.Status.{Status}
use Rattle.vm_realm.specs.World.{WorldState, IsOpening, leases_out, statement_count}
use Rattle.vm_realm.specs.Left.{unbegun, request_weight, queued_in, left_of}
use Rattle.vm_realm.proofs.ListLemmas.{sums_alike}

fresh_unbegun : (m : Model) (n : ℕ) (lines : ProcessLines) (p : ProcessState) → IsFresh m n lines p → unbegun p ≡ length lines.lines
fresh_unbegun m n lines p fresh =
    let none : begun p ≡ 0 = ap (λ (s : Status). begun (record p { status = s })) fresh.status ∙ fresh.answered in
    let all : length p.statements ≡ length lines.lines = ap length fresh.statements ∙ length-map lines.lines statement_of in
    omega (arith, none, all)

fresh_lent : (m : Model) (n : ℕ) (lines : ProcessLines) (p : ProcessState) → IsFresh m n lines p → lease_out p ≡ None
fresh_lent m n lines p fresh = ap (λ (s : Status). lease_out (record p { status = s })) fresh.status

pub none_mapped : {A B : Type 0} (f : A → Option B) (xs : List A) (d : A) → ((k : ℕ) → k < length xs → f (get_or xs k d) ≡ None) → filter_map f xs ≡ []
none_mapped f [] d each = refl
none_mapped f (x ∷ xs) d each = rw (each 0 (omega arith)) (none_mapped f xs d (λ k within. each (suc k) (omega (arith, within))))

pub opening_left : (script : ScriptLines) (w : WorldState) → IsOpening script w → left_of w ≤ 12 * statement_count script
opening_left script w opens =
    let whole : sum_by unbegun w.guest.processes ≡ statement_count script =
    sums_alike unbegun (λ p. length p.lines) w.guest.processes script.processes no_process no_lines opens.guest.count
    (λ n within. fresh_unbegun script.model n (lines_at script n) (process_at w.guest n) (opens.guest.fresh n within)) in
    let none : leases_out w ≡ [] =
    none_mapped lease_out w.guest.processes no_process (λ n within. fresh_lent script.model n (lines_at script n) (process_at w.guest n) (opens.guest.fresh n within)) in
    let asked = ap (λ ms. sum_by (λ m. request_weight m.request.asks) ms) opens.requests in
    let queued = ap (λ d. sum_by queued_in d.sessions) opens.device in
    let jobs = ap (λ d. length d.jobs) opens.device in
    let unsent = ap (λ d. length d.unsent) opens.device in
    omega (arith, whole, ap length none, asked, ap length opens.calls, ap length opens.replies, queued, jobs, unsent, ap length opens.events)
