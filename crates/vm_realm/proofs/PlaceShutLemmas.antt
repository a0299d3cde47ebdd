-- A handle that isn't open lends no memory.
use Rattle.std.proofs.Common.{◌≡◌, inl, inr, ℕ, Bool, true, false, ◌&&◌, ◌||◌, List, [], ◌∷◌, Some, map, refl, sym, ap, ◌∙◌, subst}
use Rattle.std.specs.List.{list_any}
use Rattle.std.proofs.lemmas.Bool.{true≢false, cases_Bool}
use Rattle.std.proofs.lemmas.Option.{none-some}
use Rattle.v4l_const.specs.declared.errno.Errno.TheVariants.{Ebadf}
use Rattle.v4l_const.specs.declared.model.Model.{Model}
use Rattle.v4l_const.specs.declared.model.Model.TheVariants.{Capture, Convert}
use Rattle.v4l_rules.specs.Refusals.{first_refusal}
use Rattle.vm_local.specs.declared.buffer.Buffer.{Buffer}
use Rattle.vm_local.specs.declared.call.Call.{Call}
use Rattle.vm_local.specs.declared.entry.Entry.{Entry}
use Rattle.vm_local.specs.declared.entry.Entry.TheVariants.{Called, Finish, Bad, Give}
use Rattle.vm_local.specs.declared.reply.Reply.{Reply}
use Rattle.vm_local.specs.State.{QueueState, LocalState, opening}
use Rattle.vm_local.specs.Calls.{Row, closed}
use Rattle.vm_local.specs.Kinds.{is_away}
use Rattle.vm_local.specs.Log.{row_for, called, after, replay_from}
use Rattle.vm_local.specs.Memory.{is_just, is_lent}
use Rattle.vm_local.specs.Queue.{made_idle, stopped_queue}
use Rattle.vm_local.specs.Same.{address_in}
use Rattle.vm_local.proofs.KeptLemmas.{some_same}
use Rattle.vm_local.proofs.StepLemmas.{answered_by}
use Rattle.vm_commute.specs.Commute.{is_step}
use Rattle.vm_commute.proofs.EventsLemmas.{by_first}
use Rattle.vm_commute.proofs.ReachedLemmas.{reached_after}
use Rattle.vm_home.specs.Reached.{IsReached}
use Rattle.vm_realm.proofs.KeepStateLemmas.{step_alike}
use Rattle.vm_realm.proofs.KeepShutLemmas.{shut_row, open_row, no_step, shut_bare}

abbrev lends : ℕ → List QueueState → Bool
lends m qs = list_any (λ (q : QueueState). list_any (λ (b : Buffer). is_just b.memory m && is_away b.state) q.buffers) qs

abbrev Unlent : LocalState → Type 0
Unlent s = (m : ℕ) → is_lent s m ≡ false

abbrev UnlentShut : LocalState → Type 0
UnlentShut s = s.opened ≡ false → Unlent s

idle_lends : (m : ℕ) (bs : List Buffer) → list_any (λ (b : Buffer). is_just b.memory m && is_away b.state) (map made_idle bs) ≡ false
idle_lends m [] = refl
idle_lends m (b ∷ bs) = elim (is_just b.memory m) as (λ k. ((k && false) || list_any (λ (c : Buffer). is_just c.memory m && is_away c.state) (map made_idle bs)) ≡ false) [
  | true ↦ idle_lends m bs
  | false ↦ idle_lends m bs
]

stopped_lends : (m : ℕ) (qs : List QueueState) → lends m (map stopped_queue qs) ≡ false
stopped_lends m [] = refl
stopped_lends m (q ∷ qs) = ap (λ b. b || lends m (map stopped_queue qs)) (idle_lends m q.buffers) ∙ stopped_lends m qs

pub closed_lends : (s : LocalState) (m : ℕ) → is_lent (closed s) m ≡ false
closed_lends s m = stopped_lends m s.queues

unlent_call : (s t : LocalState) (line : ℕ) (call : Call) (reply : Reply) → UnlentShut s → called s line call reply ≡ Some t → UnlentShut t
unfolding called
unlent_call s t line call reply was leads =
    let r : Row = row_for s line call reply in
    elim (answered_by (first_refusal r.refusals) r s reply t leads) as (λ _. UnlentShut t) [
      | inl same ↦ subst UnlentShut (sym same) was
      | inr w ↦ subst UnlentShut (sym w.3) (elim (cases_Bool s.opened) as (λ _. UnlentShut r.next) [
        | inl was_open ↦ elim (open_row s line (address_in reply) call) as (λ _. UnlentShut r.next) [
          | inl stays ↦ λ shut. absurd (true≢false (sym was_open ∙ (sym stays ∙ shut)))
          | inr other ↦ elim other as (λ _. UnlentShut r.next) [
            | inl opens ↦ λ shut. absurd (true≢false (sym opens ∙ shut))
            | inr closes ↦ λ shut. subst Unlent (sym closes) (closed_lends s)
          ]
        ]
        | inr shut_before ↦ elim (shut_row s line (address_in reply) call shut_before) as (λ _. UnlentShut r.next) [
          | inl refused ↦ absurd (none-some Ebadf (sym w.0 ∙ refused))
          | inr rest ↦ elim rest as (λ _. UnlentShut r.next) [
            | inl same ↦ λ shut m. ap (lends m) same.1 ∙ was shut_before m
            | inr opens ↦ λ shut. absurd (true≢false (sym opens ∙ shut))
          ]
        ]
      ])
    ]

unlent_step : (s t : LocalState) (e : Entry) → is_step e ≡ true → IsReached s → after s e ≡ Some t → UnlentShut t
unlent_step s t e step reached leads =
    λ shut. absurd (no_step s t e step (shut_bare s reached (sym (step_alike s t e step reached leads).opened ∙ shut)) leads)

unlent_after : (s t : LocalState) (e : Entry) → IsReached s → UnlentShut s → after s e ≡ Some t → UnlentShut t
unlent_after s t (Called line call reply) reached was leads = unlent_call s t line call reply was leads
unlent_after s t Finish reached was leads = unlent_step s t Finish refl reached leads
unlent_after s t Bad reached was leads = unlent_step s t Bad refl reached leads
unlent_after s t Give reached was leads = unlent_step s t Give refl reached leads

unlent_all : (log : List Entry) (s t : LocalState) → IsReached s → UnlentShut s → replay_from s log ≡ Some t → UnlentShut t
unlent_all [] s t reached was leads = subst UnlentShut (some_same s t s leads) was
unlent_all (e ∷ es) s t reached was leads =
    let by : _ = by_first s t e es leads in
    unlent_all es by.0 t (reached_after s by.0 e reached by.1) (unlent_after s by.0 e reached was by.1) by.2

opening_lends : (model : Model) → UnlentShut (opening model)
opening_lends Capture = λ shut m. refl
opening_lends Convert = λ shut m. refl

pub shut_lends : (s : LocalState) (m : ℕ) → IsReached s → s.opened ≡ false → is_lent s m ≡ false
shut_lends s m (model, log, leads) shut = unlent_all log (opening model) s (model, [], refl) (opening_lends model) leads shut m
