-- Calls that are nothing to a session.
use Rattle.std.proofs.Common.{◌≡◌, inl, inr, ℕ, ◌||◌, true, false, List, ◌++◌, Option, Some, None, refl, sym, ap, ◌∙◌, subst}
use Rattle.std.proofs.lemmas.Bool.{false≢true, cases_Bool}
use Rattle.v4l_rules.specs.Refusals.{first_refusal}
use Rattle.vm_job.specs.Job.{JobParts}
use Rattle.vm_local.specs.declared.call.Call.{Call}
use Rattle.vm_local.specs.declared.call.Call.TheVariants.{CloseHandle, Mmap, Munmap, Subscribe, Unsubscribe}
use Rattle.vm_local.specs.declared.entry.Entry.TheVariants.{Called}
use Rattle.vm_local.specs.declared.reply.Reply.{Reply}
use Rattle.vm_local.specs.State.{LocalState}
use Rattle.vm_local.specs.Same.{address_in}
use Rattle.vm_local.specs.Calls.{Row, row_of, closed, subscribe_row, unsubscribe_row}
use Rattle.vm_local.specs.Log.{IsCall, row_for, called}
use Rattle.vm_local.proofs.StepLemmas.{answered_by}
use Rattle.vm_commute.specs.Commute.{is_stopping, may_go_first}
use Rattle.vm_exchange.specs.Exchange.{response_to}
use Rattle.vm_session.specs.declared.unsent.Unsent.{Unsent}
use Rattle.vm_session.specs.State.{SessionState, is_quiet}
use Rattle.vm_stands.specs.Stands.{Stands}
use Rattle.vm_stands.specs.Laws.{names_alone, is_subscription}
use Rattle.vm_stands.specs.Slice.{LeadAhead, IsSlice, GoesOn, is_apart}
use Rattle.vm_stands.proofs.SeenLemmas.{seen, seen_stands}
use Rattle.vm_stands.proofs.MapLemmas.{names_keep}
use Rattle.vm_home.specs.Moves.{ComeBack}
use Rattle.vm_home.specs.Reached.{IsReached}
use Rattle.vm_local.specs.declared.reply.Reply.TheVariants.{Done}
use Rattle.vm_session.specs.Buffers.{queued_memories}
use Rattle.vm_stands.proofs.AnswerLemmas.{done}
use Rattle.vm_stands.proofs.CloseLemmas.{closes}
use Rattle.vm_stands.proofs.SliceLemmas.{slice_executes, all_reached}
use Rattle.vm_stands.proofs.StillLemmas.{responses_stay}

row_apart : (s : LocalState) (line addr : ℕ) (call : Call) → is_subscription call ≡ true → seen (row_of s line addr call).next ≡ seen s
unfolding subscribe_row unsubscribe_row
row_apart s line addr (Subscribe e) is = refl
row_apart s line addr (Unsubscribe e) is = refl
row_apart s line addr call is = absurd (false≢true is)

subscription_keeps : (frames : List ℕ) (session : SessionState) (s t : LocalState) (line : ℕ) (call : Call) (reply : Reply) → is_subscription call ≡ true → IsCall s line call reply t →
    Stands frames session s → Stands frames session t
unfolding called
subscription_keeps frames session s t line call reply is leads stands =
    let r : Row = row_for s line call reply in
    elim (answered_by (first_refusal r.refusals) r s reply t leads) as (λ _. Stands frames session t) [
      | inl same ↦ subst (λ x. Stands frames session x) (sym same) stands
      | inr went ↦ seen_stands frames session s t (sym (ap (λ (x : LocalState). seen x) went.3 ∙ row_apart s line (address_in reply) call is)) stands
    ]

goes_first : (call : Call) (reply : Reply) → is_apart call ≡ true → (may_go_first call reply ≡ true) × (is_stopping call ≡ false)
goes_first (Mmap m t i ro) reply is = (refl, refl)
goes_first (Munmap m) reply is = (refl, refl)
goes_first (Subscribe e) reply is = (refl, refl)
goes_first (Unsubscribe e) reply is = (refl, refl)
goes_first call reply is = absurd (false≢true is)

apart_keeps : (frames : List ℕ) (session : SessionState) (s t : LocalState) (line : ℕ) (call : Call) (reply : Reply) → is_apart call ≡ true → IsCall s line call reply t →
    Stands frames session s → Stands frames session t
apart_keeps frames session s t line call reply is leads stands = elim (cases_Bool (names_alone call)) as (λ _. Stands frames session t) [
  | inl names ↦ names_keep frames session s t line call reply names leads stands
  | inr other ↦ subscription_keeps frames session s t line call reply (ap (λ b. b || is_subscription call) (sym other) ∙ is) leads stands
]

pub slice_stays_apart : (frames : List ℕ) (session : SessionState) (job : Option JobParts) (earlier : List Unsent) (line : ℕ) (call : Call) (reply : Reply) (r s t : LocalState) →
    IsSlice frames session job earlier None r s → is_apart call ≡ true → IsCall s line call reply t →
    (first_reply : Reply) × (ahead : LocalState) × (response_to session.id s call reply ≡ response_to session.id r call first_reply)
    × IsSlice frames session job earlier (Some (Called line call first_reply)) r ahead
slice_stays_apart frames session job earlier line call reply r s t slice is calls =
    let first : (may_go_first call reply ≡ true) × (is_stopping call ≡ false) = goes_first call reply is in
    let same : GoesOn session session = record { id = refl; unsent = refl; sound = slice.sound } in
    let by : _ = slice_executes frames frames session session job earlier line call reply r s t slice first.0 first.1 calls
    (apart_keeps frames session s t line call reply is calls slice.stands) same in
    (by.0, by.1, responses_stay session.id r s call by.0 reply (earlier ++ session.unsent) slice.reached slice.leads by.2, by.3)

-- ---- close

close_called : (s : LocalState) (line : ℕ) → s.opened ≡ true → IsCall s line CloseHandle Done (closed s)
unfolding called
close_called s line opened = done (first_refusal (row_of s line 0 CloseHandle).refusals) (row_of s line 0 CloseHandle) s (rw opened refl) refl refl

pub slice_closes : (frames : List ℕ) (session : SessionState) (job : Option JobParts) (earlier : List Unsent) (line : ℕ) (r s : LocalState) →
    IsSlice frames session job earlier None r s → is_quiet session ≡ true →
    IsCall s line CloseHandle Done (closed s) × ComeBack s (closed s) CloseHandle (queued_memories session.queues)
    × LeadAhead session.id r (Some (Called line CloseHandle Done)) (earlier ++ session.unsent) (closed s)
slice_closes frames session job earlier line r s slice quiet =
    let there : IsReached s = all_reached session.id r s (earlier ++ session.unsent) slice.reached slice.leads in
    let calls : IsCall s line CloseHandle Done (closed s) = close_called s line slice.stands.opened in
    (calls, closes frames session s slice.stands slice.sound there quiet slice.owed, (s, slice.leads, calls))
