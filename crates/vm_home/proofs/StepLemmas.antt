-- What a step of the device leaves as it was.
use Rattle.std.proofs.Common.{◌≡◌, ℕ, Bool, true, false, ◌++◌, List, ◌∷◌, [], map, get_or, unwrap_or, Some, refl, sym, ap, ◌∙◌, subst, if◌then◌else◌}
use Rattle.v4l_const.specs.Model.{queues as types_of, picture_queue}
use Rattle.v4l_const.specs.declared.model.Model.{Model}
use Rattle.v4l_format.specs.Fmt.{picture_size}
use Rattle.v4l_rules.specs.Queues.{place_in}
use Rattle.v4l_rules.proofs.SetLemmas.{set_keeps}
use Rattle.vm_local.specs.declared.entry.Entry.{Entry}
use Rattle.vm_local.specs.declared.entry.Entry.TheVariants.{Called, Finish, Bad, Give}
use Rattle.vm_local.specs.declared.owed.Owed.{Owed as OwedEntry}
use Rattle.vm_local.specs.declared.owed.OwedItem.{OwedItem}
use Rattle.vm_local.specs.declared.owed.OwedItem.TheVariants.{Buffer as OwedBuffer, Sync}
use Rattle.vm_local.specs.State.{QueueState, LocalState, opening_queue, queue_of, buffer_of}
use Rattle.vm_local.specs.Memory.{bytes_of, is_lent}
use Rattle.vm_local.specs.Queue.{can_finish}
use Rattle.vm_local.specs.Steps.{number_of, target, head, taken, with_used, with_target_used, heads_taken, next_timestamp, sync_of, buffers_taken, with_done, counted, item_given}
use Rattle.vm_local.specs.Log.{after}
use Rattle.vm_local.proofs.StepLemmas.{frame_made, frame_failed, finished_by, failed_by, given_by, Gave}
use Rattle.vm_home.specs.Moves.{memory_at}
use Rattle.vm_home.specs.Reached.{IsReached}
use Rattle.vm_home.specs.ToCome.{IsStep}
use Rattle.vm_home.proofs.PlaceLemmas.{map_relates, IsLess, Relates, relates_less, relates_kept, less_same}
use Rattle.vm_home.proofs.RowLemmas.{IsSound, frame_relates, given_there, given_relates}
use Rattle.vm_home.proofs.FactLemmas.{Facts, facts_of}
use Rattle.vm_home.proofs.StillLemmas.{leaves_made, leaves_failed}

-- The queues stream as they did, their buffers become less, and the memories that aren't with the device have the bytes
-- that they had.
pub record StepsTo (s t : LocalState) : Type 0 where
  pub model : t.model ≡ s.model
  pub opened : t.opened ≡ s.opened
  pub blocking : t.blocking ≡ s.blocking
  pub bound : t.bound ≡ s.bound
  pub streaming : (u : ℕ) → (queue_of t u).streaming ≡ (queue_of s u).streaming
  pub less : Relates IsLess s.queues t.queues
  pub bytes : (m : ℕ) → is_lent s m ≡ false → bytes_of t m ≡ bytes_of s m

streaming_map : (f : QueueState → QueueState) → ((q : QueueState) → (f q).streaming ≡ q.streaming) → (qs : List QueueState) (p : ℕ) →
    (get_or (map f qs) p opening_queue).streaming ≡ (get_or qs p opening_queue).streaming
streaming_map f same qs p =
    sym (map_relates (λ (q v : QueueState). q.streaming ≡ v.streaming) f opening_queue refl qs (λ k _. sym (same (get_or qs k opening_queue))) p)

streaming_frame : (s : LocalState) (good : Bool) (entries : List OwedEntry) (n u : ℕ) →
    (queue_of (with_target_used s n (heads_taken s good entries)) u).streaming ≡ (queue_of s u).streaming
streaming_frame s good entries n u =
    let x : LocalState = heads_taken s good entries in
    let k : ℕ = picture_queue s.model in
    set_keeps opening_queue (λ (q : QueueState). q.streaming) x.queues (place_in (types_of s.model) k) (with_used (queue_of x k) (head (target s)) n) refl (place_in (types_of s.model) u)
    ∙ streaming_map (taken good (next_timestamp s)) (λ q. refl) s.queues (place_in (types_of s.model) u)

same_less : (qs : List QueueState) → Relates IsLess qs qs
same_less qs p = relates_kept IsLess less_same (get_or qs p opening_queue) (get_or qs p opening_queue) refl refl

steps_item : (s : LocalState) (t : ℕ) (item : OwedItem) (rest : List OwedEntry) → IsSound s → s.owed ≡ record { queue = t; item = item } ∷ rest →
    StepsTo s (item_given (record s { owed = rest }) t item)
steps_item s t (OwedBuffer i) rest sound owed = record {
  model = refl;
  opened = refl;
  blocking = refl;
  bound = refl;
  streaming = λ u. set_keeps opening_queue (λ (q : QueueState). q.streaming) s.queues (place_in (types_of s.model) t) (with_done (queue_of s t) i) refl (place_in (types_of s.model) u);
  less = given_relates s t i (given_there s t i rest sound owed);
  bytes = λ m _. refl;
}
steps_item s t (Sync frame) rest sound owed =
    elim s.subscribed as (λ b. StepsTo s (if b then record s {
      owed = rest;
      events = s.events ++ (record { frame = frame; number = s.next_event }) ∷ [];
      next_event = counted s.next_event;
    } else record s { owed = rest })) [
      | true ↦ record { model = refl; opened = refl; blocking = refl; bound = refl; streaming = λ u. refl; less = same_less s.queues; bytes = λ m _. refl }
      | false ↦ record { model = refl; opened = refl; blocking = refl; bound = refl; streaming = λ u. refl; less = same_less s.queues; bytes = λ m _. refl }
    ]

pub steps_to : (s t : LocalState) (e : Entry) → IsReached s → IsStep e → after s e ≡ Some t → StepsTo s t
steps_to s t Finish reached step leads =
    let w : (can_finish s ≡ true) × (t ≡ frame_made s) = finished_by s t leads in
    let f : Facts s = facts_of s reached in
    let size : ℕ = picture_size (target s).format in
    let entries : List OwedEntry = sync_of s ++ buffers_taken s in
    subst (StepsTo s) (sym w.1) (record {
      model = refl;
      opened = refl;
      blocking = refl;
      bound = refl;
      streaming = streaming_frame s true entries size;
      less = relates_less s.queues (frame_made s).queues (frame_relates s true entries size f.sound w.0);
      bytes = (leaves_made s f w.0).bytes;
    })
steps_to s t Bad reached step leads =
    let w : (can_finish s ≡ true) × (t ≡ frame_failed s) = failed_by s t leads in
    let f : Facts s = facts_of s reached in
    subst (StepsTo s) (sym w.1) (record {
      model = refl;
      opened = refl;
      blocking = refl;
      bound = refl;
      streaming = streaming_frame s false (buffers_taken s) 0;
      less = relates_less s.queues (frame_failed s).queues (frame_relates s false (buffers_taken s) 0 f.sound w.0);
      bytes = (leaves_failed s f w.0).bytes;
    })
steps_to s t Give reached step leads =
    let w : Gave s s.owed t = given_by s t leads in
    subst (StepsTo s) (sym w.3) (steps_item s w.0.queue w.0.item w.1 (facts_of s reached).sound w.2)
steps_to s t (Called line call reply) reached step leads = absurd step

-- the buffers keep their memories
pub steps_memory : (s t : LocalState) (u i : ℕ) → StepsTo s t → memory_at t u i ≡ memory_at s u i
steps_memory s t u i steps =
    let P : Model → Type 0 = λ m. number_of (buffer_of (get_or t.queues (place_in (types_of m) u) opening_queue) i) ≡ memory_at s u i in
    subst P (sym steps.model) (ap (λ o. unwrap_or o 0) ((steps.less (place_in (types_of s.model) u)).buffers i).memory)
