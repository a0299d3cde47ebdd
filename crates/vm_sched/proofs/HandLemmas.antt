-- Lemmas on the jobs that are out: each has a number of its own.
use Rattle.std.proofs.Common.{◌≡◌, ◌≢◌, ℕ, ◌<◌, ◌==◌, Bool, true, false, not, List, [], ◌∷◌, Option, Some, None, refl, sym, ap, ◌∙◌, arith, cond, if◌then◌else◌}
use Rattle.std.specs.List.{All, filter, find}
use Rattle.std.specs.Option.{option_map}
use Rattle.std.proofs.lemmas.Bool.{false≢true, eqb-true, eq-eqb}
use Rattle.std.proofs.lemmas.List.Elements.{All-nil, All-cons, All-head, All-tail, All-weaker}
use Rattle.std.proofs.lemmas.Option.{none-some, same_Some}
use Rattle.vm_device.specs.Keeps.{RiseBelow}
use Rattle.vm_job.specs.declared.job_out.JobOut.{JobOut}
use Rattle.vm_queue.specs.declared.queued.Queued.{Queued}
use Rattle.vm_session.specs.State.{SessionState}
use Rattle.vm_session.specs.Streaming.{next_job, next_spec, next_src, next_dst, job_with}
use Rattle.vm_job.specs.Job.{JobParts}
use Rattle.vm_job.specs.declared.spec.JobSpec.{JobSpec}

-- what holds of all, and follows where another thing holds of all too
pub both_all : {A : Type 0} (P Q R : A → Type 0) → ((x : A) → P x → Q x → R x) → (xs : List A) → All P xs → All Q xs → All R xs
both_all P Q R f [] ps qs = All-nil R
both_all P Q R f (x ∷ xs) ps qs = All-cons R x xs (f x (All-head P x xs ps) (All-head Q x xs qs)) (both_all P Q R f xs (All-tail P x xs ps) (All-tail Q x xs qs))

kept_by : {A : Type 0} (P : A → Type 0) (b : Bool) (x : A) (ys : List A) → P x → All P ys → All P (if b then x ∷ ys else ys)
kept_by P true x ys p all = All-cons P x ys p all
kept_by P false x ys p all = all

pub filter_all : {A : Type 0} (P : A → Type 0) (f : A → Bool) (xs : List A) → All P xs → All P (filter f xs)
filter_all P f [] all = All-nil P
filter_all P f (x ∷ xs) all = kept_by P (f x) x (filter f xs) (All-head P x xs all) (filter_all P f xs (All-tail P x xs all))

-- the numbers are below the next one
pub below : (n : ℕ) (es : List JobOut) → RiseBelow n es → All (λ e. e.spec.number < n) es
below n [] rise = All-nil (λ (e : JobOut). e.spec.number < n)
below n (e ∷ es) rise = All-cons (λ (x : JobOut). x.spec.number < n) e es rise.0 (below n es rise.2)

-- ---- a job comes back

abbrev other_number : ℕ → JobOut → Type 0
other_number number e = e.spec.number ≢ number

abbrev stays : ℕ → JobOut → Bool
stays id e = not (e.spec.session == id)

by_stay : (number id : ℕ) (e : JobOut) (es : List JobOut) (b : Bool) → stays id e ≡ b → (stays id e ≡ true → other_number number e) → All (other_number number) es → All (other_number number) (if b then e ∷ es else es)
by_stay number id e es true is other all = All-cons (other_number number) e es (other is) all
by_stay number id e es false is other all = all

-- where the session's jobs are taken out, none of the number that one of them had is left
pub none_left : (n number id : ℕ) (es : List JobOut) (found : JobOut) → RiseBelow n es → find (λ e. e.spec.number == number) es ≡ Some found → found.spec.session ≡ id →
    All (other_number number) (filter (stays id) es)
none_left n number id [] found rise is own = absurd (none-some found is)
none_left n number id (e ∷ es) found rise is own = by_number (e.spec.number == number) refl is (λ at. none_left n number id es found rise.2 at own)
  where
    by_number : (b : Bool) → (e.spec.number == number) ≡ b → cond b (Some e) (find (λ x. x.spec.number == number) es) ≡ Some found →
        (find (λ x. x.spec.number == number) es ≡ Some found → All (other_number number) (filter (stays id) es)) → All (other_number number) (filter (stays id) (e ∷ es))
    by_number true same at behind =
        let first : e ≡ found = same_Some e found at in
        let number_is : e.spec.number ≡ number = eqb-true e.spec.number number same in
        let rest : All (other_number number) es =
        All-weaker (λ (f : JobOut). e.spec.number < f.spec.number) (other_number number) (λ f above equal. absurd (omega (arith, above, equal, number_is))) es rise.1 in
        let gone : stays id e ≡ false = ap not (eq-eqb e.spec.session id (ap (λ (x : JobOut). x.spec.session) first ∙ own)) in
        by_stay number id e (filter (stays id) es) (stays id e) refl (λ kept. absurd (false≢true (sym gone ∙ kept))) (filter_all (other_number number) (stays id) es rest)
    by_number false other at behind =
        by_stay number id e (filter (stays id) es) (stays id e) refl (λ kept equal. false≢true (sym other ∙ eq-eqb e.spec.number number equal)) (behind at)

-- ---- a job begins

from_dst : (s : SessionState) (number : ℕ) (o : Option Queued) (job : JobParts) → option_map (job_with (next_spec s number) (next_src s)) o ≡ Some job → job.spec ≡ next_spec s number
from_dst s number None job is = absurd (none-some job is)
from_dst s number (Some dst) job is = sym (ap (λ (x : JobParts). x.spec) (same_Some (job_with (next_spec s number) (next_src s) dst) job is))

pub next_number : (s : SessionState) (number : ℕ) (job : JobParts) → next_job s number ≡ Some job → job.spec.number ≡ number
next_number s number job is = ap (λ (x : JobSpec). x.number) (from_dst s number (next_dst s) job is)
