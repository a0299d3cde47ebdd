-- The step that gives what is owed is nothing to a session.
use Rattle.std.proofs.Common.{◌≡◌, ℕ, true, false, List, [], ◌∷◌, ◌++◌, Some, refl, sym, ap, ◌∙◌, if◌then◌else◌}
use Rattle.std.proofs.Math.Seq.{map-set_same}
use Rattle.v4l_const.specs.Model.{queues as types_of}
use Rattle.v4l_rules.specs.Queues.{place_in}
use Rattle.vm_local.specs.declared.buffer.Buffer.{Buffer}
use Rattle.vm_local.specs.declared.buffer.BufferState.TheVariants.{Owed, Done}
use Rattle.vm_local.specs.declared.entry.Entry.TheVariants.{Give}
use Rattle.vm_local.specs.declared.owed.Owed.{Owed as OwedEntry}
use Rattle.vm_local.specs.declared.owed.OwedItem.{OwedItem}
use Rattle.vm_local.specs.declared.owed.OwedItem.TheVariants.{Buffer as OwedBuffer, Sync}
use Rattle.vm_local.specs.State.{QueueState, LocalState, opening_queue, queue_of, no_buffer, buffer_of}
use Rattle.vm_local.specs.Listed.{IsOwedThere}
use Rattle.vm_local.specs.Steps.{with_done, item_given, counted}
use Rattle.vm_local.specs.Log.{after}
use Rattle.vm_local.proofs.StepLemmas.{given_by, Gave}
use Rattle.vm_commute.proofs.OutlineLemmas.{drawn_state}
use Rattle.vm_commute.proofs.ReachedLemmas.{owed_there}
use Rattle.vm_home.specs.Reached.{IsReached}
use Rattle.vm_session.specs.State.{SessionState}
use Rattle.vm_stands.specs.Stands.{Stands}
use Rattle.vm_stands.proofs.SeenLemmas.{seen_buffer, seen_queue, seen, seen_stands}

done_seen : (q : QueueState) (i : ℕ) → (buffer_of q i).state ≡ Owed → seen_queue (with_done q i) ≡ seen_queue q
done_seen q i owed =
    let b : Buffer = buffer_of q i in
    let same : seen_buffer (record b { state = Done }) ≡ seen_buffer b = ap (λ st. record b { state = st }) (sym (ap drawn_state owed)) in
    ap (λ bs. record q { buffers = bs; done = [] }) (map-set_same seen_buffer q.buffers i (record b { state = Done }) no_buffer same)

item_seen : (s : LocalState) (t : ℕ) (item : OwedItem) (rest : List OwedEntry) → IsOwedThere s t item →
    seen (item_given (record s { owed = rest }) t item) ≡ seen s
item_seen s t (OwedBuffer i) rest there =
    let p : ℕ = place_in (types_of s.model) t in
    ap (λ vs. record s { blocking = false; subscribed = false; events = []; next_event = 0; owed = []; queues = vs; bound = [] })
    (map-set_same seen_queue s.queues p (with_done (queue_of s t) i) opening_queue (done_seen (queue_of s t) i there.1))
item_seen s t (Sync frame) rest there =
    elim s.subscribed as (λ b. seen (if b then record s {
      owed = rest;
      events = s.events ++ (record { frame = frame; number = s.next_event }) ∷ [];
      next_event = counted s.next_event;
    } else record s { owed = rest }) ≡ seen s) [
      | true ↦ refl
      | false ↦ refl
    ]

pub given_seen : (s t : LocalState) → IsReached s → after s Give ≡ Some t → seen t ≡ seen s
given_seen s t reached leads =
    let g : Gave s s.owed t = given_by s t leads in
    ap (λ (x : LocalState). seen x) g.3 ∙ item_seen s g.0.queue g.0.item g.1 (owed_there s g.0 g.1 reached g.2)

pub giving_stands : (frames : List ℕ) (session : SessionState) (s t : LocalState) → IsReached s → after s Give ≡ Some t →
    Stands frames session s → Stands frames session t
giving_stands frames session s t reached leads stands = seen_stands frames session s t (sym (given_seen s t reached leads)) stands
