-- The device's steps from two states, of which one is behind a call that the driver answered by itself.
use Rattle.std.proofs.Common.{◌≡◌, ◌≢◌, inl, inr, ℕ, zero, suc, ◌<◌, Bool, true, false, List, [], ◌∷◌, ◌++◌, length, get_or, set, map, drop, Option, Some, None, unwrap_or, refl, sym, ap, ◌∙◌, subst, arith, get_or-set_same, get_or-set_other, length-set, if◌then◌else◌}
use Rattle.std.specs.Prelude.{slice_index}
use Rattle.std.proofs.lemmas.Bool.{false≢true, cases_eq}
use Rattle.std.proofs.lemmas.List.Elements.{All-head, All-tail}
use Rattle.v4l_const.specs.Model.{queues as types_of, picture_queue, has_events}
use Rattle.v4l_const.specs.declared.model.Model.{Model}
use Rattle.v4l_format.specs.Fmt.{picture_size}
use Rattle.v4l_rules.specs.Queues.{place_in}
use Rattle.vm_frame.specs.declared.mem.Held.{Held}
use Rattle.vm_wire.specs.Buffers.{blank_buffer, dequeued_buffer}
use Rattle.vm_wire.specs.declared.event.EventMsg.TheVariants.{Dequeued}
use Rattle.vm_local.specs.declared.buffer.Buffer.{Buffer}
use Rattle.vm_local.specs.declared.buffer.BufferState.TheVariants.{Queued, Owed, Done}
use Rattle.vm_local.specs.declared.entry.Entry.{Entry}
use Rattle.vm_local.specs.declared.entry.Entry.TheVariants.{Called, Finish, Bad, Give}
use Rattle.vm_local.specs.declared.owed.Owed.{Owed as OwedEntry}
use Rattle.vm_local.specs.declared.owed.OwedItem.{OwedItem}
use Rattle.vm_local.specs.declared.owed.OwedItem.TheVariants.{Buffer as OwedBuffer, Sync}
use Rattle.vm_local.specs.State.{QueueState, LocalState, opening_queue, queue_of, no_buffer, buffer_of}
use Rattle.vm_local.specs.Kinds.{is_idle}
use Rattle.vm_local.specs.Memory.{bytes_of}
use Rattle.vm_local.specs.Queue.{can_finish}
use Rattle.vm_local.specs.Listed.{IsOwedThere}
use Rattle.vm_local.specs.Log.{after, replay_from}
use Rattle.vm_local.specs.Steps.{head, head_buffer, number_of, target, next_picture, sync_of, buffers_taken, with_done, item_given, counted}
use Rattle.vm_local.proofs.StepLemmas.{frame_made, frame_failed, finished_by, failed_by, given_by, Gave}
use Rattle.vm_local.proofs.KeptLemmas.{some_same}
use Rattle.vm_commute.specs.Commute.{is_step, AreSteps}
use Rattle.vm_commute.proofs.AnswerLemmas.{buffer_kept}
use Rattle.vm_commute.proofs.EventsLemmas.{by_first, first_and_rest}
use Rattle.vm_commute.proofs.OutlineLemmas.{drawn}
use Rattle.vm_commute.proofs.ReachedLemmas.{many_queues, owed_there, reached_after}
use Rattle.vm_home.specs.Home.{IsMemory}
use Rattle.vm_home.specs.Moves.{memory_at}
use Rattle.vm_home.specs.Reached.{IsReached}
use Rattle.vm_home.proofs.PlaceLemmas.{HasAt}
use Rattle.vm_home.proofs.FactLemmas.{Facts, facts_of}
use Rattle.vm_home.proofs.OwnLemmas.{number_made}
use Rattle.vm_exchange.specs.Exchange.{memory_number}
use Rattle.vm_session.specs.declared.unsent.Unsent.{Unsent}
use Rattle.vm_exchange.specs.Messages.{made_by}
use Rattle.vm_stands.specs.Flight.{note_of, given_record, IsHeldAt, GivesItem, GivesFirst, Leads, LeadAll}
use Rattle.vm_stands.proofs.SeenLemmas.{seen_buffer, seen, queue_alike, buffer_alike, idle_alike, idle_seen}
use Rattle.vm_stands.proofs.GivenLemmas.{given_seen}
use Rattle.vm_stands.proofs.FlightLemmas.{made_steps}
use Rattle.vm_stands.proofs.LeadLemmas.{give_one, item_owed}
use Rattle.vm_stands.proofs.StayLemmas.{target_alike}
use Rattle.vm_stands.proofs.DoneLemmas.{target_there}
use Rattle.vm_stands.proofs.FinishedLemmas.{frame_by, used_by, owed_by, Framed, framed, finish_step, bad_step}
use Rattle.vm_stands.proofs.LagLemmas.{IsLagBuffer, IsLagQueue, IsLag, lag_queued, lag_owed, lag_device, lag_finish, lag_behind, busy_bytes, head_same, picture_same}

-- ---- a frame

owed_same : (s t : LocalState) (good : Bool) → IsLag s t → owed_by good t ≡ owed_by good s
owed_same s t good lag = by_good good
  where
    n : (target t).next_sequence ≡ (target s).next_sequence
    n = target_alike s t (λ q. q.next_sequence) lag.model (λ u has. (lag.queues u).sequence)

    taken : buffers_taken t ≡ buffers_taken s
    taken = λ j. map (λ u. record { queue = u; item = OwedBuffer (slice_index ((lag.queues u).queued j) 0) }) (types_of (lag.model j))

    sync : sync_of t ≡ sync_of s
    sync = λ j. if has_events (lag.model j) then (record { queue = picture_queue (lag.model j); item = Sync (n j) }) ∷ [] else []

    by_good : (g : Bool) → owed_by g t ≡ owed_by g s
    by_good true = λ j. sync j ++ taken j
    by_good false = taken

-- the bytes of the memory for the picture
pub picture_there : (s : LocalState) (good : Bool) → IsReached s → can_finish s ≡ true → bytes_of (frame_by good s) (number_of (head_buffer (target s)))
    ≡ (if good then next_picture s ++ drop (picture_size (target s).format) (bytes_of s (number_of (head_buffer (target s)))) else bytes_of s (number_of (head_buffer (target s))))
picture_there s true reached ready =
    let m : ℕ = number_of (head_buffer (target s)) in
    let p : ℕ = place_in (types_of s.model) (picture_queue s.model) in
    let f : Facts s = facts_of s reached in
    let mine : (k : ℕ) × HasAt s.queues p (head (target s)) k = f.owns.has p (head (target s)) (ap is_idle (target_there s reached ready).1) in
    let number : m ≡ mine.0 = ap (λ o. unwrap_or o 0) mine.1 in
    let made : mine.0 < length s.memories = number_made s f.sound p (head (target s)) mine.0 mine.1 in
    get_or-set_same s.memories m (next_picture s ++ drop (picture_size (target s).format) (bytes_of s m)) [] (omega (arith, made, number))
picture_there s false reached ready = refl

frame_bytes : (s t : LocalState) (good : Bool) (m : ℕ) → IsReached s → IsReached t → can_finish s ≡ true → can_finish t ≡ true → IsLag s t → Framed s good → Framed t good →
    (m ≢ number_of (head_buffer (target s)) → bytes_of t m ≡ bytes_of s m) → bytes_of (frame_by good t) m ≡ bytes_of (frame_by good s) m
frame_bytes s t good m reached there ready ready' lag a b same =
    let d : ℕ = number_of (head_buffer (target s)) in
    let c : ℕ = picture_queue s.model in
    let queued : (head_buffer (target s)).state ≡ Queued = (target_there s reached ready).1 in
    let mine : buffer_of (queue_of t c) (head (target s)) ≡ head_buffer (target s) = lag_queued s t c (head (target s)) lag queued in
    let number : number_of (head_buffer (target t)) ≡ d =
    ap (λ x. number_of (head_buffer (queue_of t (picture_queue x)))) lag.model
    ∙ (ap (λ i. number_of (buffer_of (queue_of t c) i)) (head_same s t c lag) ∙ ap (λ (x : Buffer). number_of x) mine) in
    let was : bytes_of t d ≡ bytes_of s d = busy_bytes s t c (head (target s)) reached lag (ap is_idle queued) mine in
    let format : (target t).format ≡ (target s).format = target_alike s t (λ q. q.format) lag.model (λ u has. (lag.queues u).format) in
    let picture : next_picture t ≡ next_picture s = picture_same s t reached there ready lag in
    elim (cases_eq m d) as (λ _. bytes_of (frame_by good t) m ≡ bytes_of (frame_by good s) m) [
      | inl is ↦
          ap (λ k. bytes_of (frame_by good t) k) (is ∙ sym number)
          ∙ (picture_there t good there ready'
          ∙ ((λ j. if good then picture j ++ drop (picture_size (format j)) (both number was j) else both number was j)
          ∙ (sym (picture_there s good reached ready) ∙ ap (λ k. bytes_of (frame_by good s) k) (sym is))))
      | inr far ↦ b.after.bytes m (λ is. far (is ∙ number)) ∙ (same far ∙ sym (a.after.bytes m far))
    ]
  where
    both : number_of (head_buffer (target t)) ≡ number_of (head_buffer (target s)) →
        bytes_of t (number_of (head_buffer (target s))) ≡ bytes_of s (number_of (head_buffer (target s))) →
        bytes_of t (number_of (head_buffer (target t))) ≡ bytes_of s (number_of (head_buffer (target s)))
    both number was = ap (λ k. bytes_of t k) number ∙ was

lag_framed : (s t : LocalState) (good : Bool) → IsReached s → IsReached t → can_finish s ≡ true → IsLag s t → IsLag (frame_by good s) (frame_by good t)
lag_framed s t good reached there ready lag =
    let ready' : can_finish t ≡ true = lag_finish s t reached there lag ∙ ready in
    let a : Framed s good = framed s good reached ready in
    let b : Framed t good = framed t good there ready' in
    let format : (target s).format ≡ (target t).format = sym (target_alike s t (λ q. q.format) lag.model (λ u has. (lag.queues u).format)) in
    record {
      model = b.after.model ∙ (lag.model ∙ sym a.after.model);
      opened = b.after.opened ∙ (lag.opened ∙ sym a.after.opened);
      input = b.after.input ∙ (lag.input ∙ sym a.after.input);
      owed = b.after.owed ∙ ((λ j. lag.owed j ++ owed_same s t good lag j) ∙ sym a.after.owed);
      queues = λ u. lag_behind s t good u (used_by good s) (used_by good t) (owed_by good s) (owed_by good t) reached there ready lag a.after b.after
          (ap (λ f. if good then picture_size f else 0) format);
      bytes = λ u i m busy has.
          let kept : drawn (buffer_of (queue_of (frame_by good t) u) i) ≡ drawn (buffer_of (queue_of t u) i) = buffer_kept t (frame_by good t) u i b.drawn in
          let st : is_idle (buffer_of (queue_of t u) i).state ≡ false =
          sym (idle_seen (buffer_of (queue_of t u) i).state) ∙ (ap (λ (x : Buffer). is_idle x.state) (sym kept) ∙ (idle_seen (buffer_of (queue_of (frame_by good t) u) i).state ∙ busy)) in
          let memory : (buffer_of (queue_of t u) i).memory ≡ Some m = ap (λ (x : Buffer). x.memory) (sym kept) ∙ has in
          frame_bytes s t good m reached there ready ready' lag a b (λ far. lag.bytes u i m st memory);
    }

-- ---- what is owed is given

lag_done : (q v : QueueState) (i : ℕ) → IsLagQueue q v → i < length q.buffers → buffer_of v i ≡ buffer_of q i → IsLagQueue (with_done q i) (with_done v i)
lag_done q v i lag within same =
    let b : Buffer = record (buffer_of q i) { state = Done } in
    let c : Buffer = record (buffer_of v i) { state = Done } in
    let inside : i < length v.buffers = omega (arith, within, lag.many) in
    record {
      format = lag.format;
      memory = lag.memory;
      streaming = lag.streaming;
      queued = lag.queued;
      sequence = lag.sequence;
      many = length-set v.buffers i c ∙ (lag.many ∙ sym (length-set q.buffers i b));
      buffers = λ k. elim (cases_eq k i) as (λ _. IsLagBuffer (get_or (set q.buffers i b) k no_buffer) (get_or (set v.buffers i c) k no_buffer)) [
        | inl is ↦ inl (ap (λ j. get_or (set v.buffers i c) j no_buffer) is
            ∙ (get_or-set_same v.buffers i c no_buffer inside
            ∙ (ap (λ (x : Buffer). record x { state = Done }) same
            ∙ (sym (get_or-set_same q.buffers i b no_buffer within) ∙ ap (λ j. get_or (set q.buffers i b) j no_buffer) (sym is)))))
        | inr far ↦
            let here : get_or (set q.buffers i b) k no_buffer ≡ buffer_of q k = get_or-set_other q.buffers i k b no_buffer far in
            let there : get_or (set v.buffers i c) k no_buffer ≡ buffer_of v k = get_or-set_other v.buffers i k c no_buffer far in
            subst (λ x. IsLagBuffer x (get_or (set v.buffers i c) k no_buffer)) (sym here) (subst (λ y. IsLagBuffer (buffer_of q k) y) (sym there) (lag.buffers k))
      ];
    }

-- the queues after it
item_queues : (s t : LocalState) (w : ℕ) (item : OwedItem) (rest : List OwedEntry) → IsReached s → IsReached t → IsLag s t → IsOwedThere s w item → (u : ℕ) →
    IsLagQueue (queue_of (item_given (record s { owed = rest }) w item) u) (queue_of (item_given (record t { owed = rest }) w item) u)
item_queues s t w (OwedBuffer i) rest reached there lag is u =
    let q : QueueState = with_done (queue_of s w) i in
    let v : QueueState = with_done (queue_of t w) i in
    let p : ℕ = place_in (types_of s.model) w in
    let k : ℕ = place_in (types_of s.model) u in
    let new : IsLagQueue q v = lag_done (queue_of s w) (queue_of t w) i (lag.queues w) is.0 (lag_owed s t w i lag is.1) in
    let long : length t.queues ≡ length s.queues = many_queues t there ∙ (ap (λ m. length (types_of m)) lag.model ∙ sym (many_queues s reached)) in
    let P : Model → Type 0 = λ m. IsLagQueue (get_or (set s.queues p q) k opening_queue) (get_or (set t.queues (place_in (types_of m) w) v) (place_in (types_of m) u) opening_queue) in
    let was : IsLagQueue (queue_of s u) (get_or t.queues k opening_queue) =
    subst (λ m. IsLagQueue (queue_of s u) (get_or t.queues (place_in (types_of m) u) opening_queue)) lag.model (lag.queues u) in
    subst P (sym lag.model) (elim (cases_eq k p) as (λ _. P s.model) [
      | inl same ↦ at_one s.queues t.queues p k q v long same new was
      | inr far ↦
          subst (λ x. IsLagQueue x (get_or (set t.queues p v) k opening_queue)) (sym (get_or-set_other s.queues p k q opening_queue far))
          (subst (λ y. IsLagQueue (queue_of s u) y) (sym (get_or-set_other t.queues p k v opening_queue far)) was)
    ])
  where
    at_one : (qs vs : List QueueState) (p k : ℕ) (q v : QueueState) → length vs ≡ length qs → k ≡ p → IsLagQueue q v → IsLagQueue (get_or qs k opening_queue) (get_or vs k opening_queue) →
        IsLagQueue (get_or (set qs p q) k opening_queue) (get_or (set vs p v) k opening_queue)
    at_one [] [] p k q v long same new old = old
    at_one [] (y ∷ vs) p k q v long same new old = absurd (omega (arith, long))
    at_one (x ∷ qs) [] p k q v long same new old = absurd (omega (arith, long))
    at_one (x ∷ qs) (y ∷ vs) zero zero q v long same new old = new
    at_one (x ∷ qs) (y ∷ vs) zero (suc k) q v long same new old = absurd (omega (arith, same))
    at_one (x ∷ qs) (y ∷ vs) (suc p) zero q v long same new old = absurd (omega (arith, same))
    at_one (x ∷ qs) (y ∷ vs) (suc p) (suc k) q v long same new old = at_one qs vs p k q v (omega (arith, long)) (omega (arith, same)) new old
item_queues s t w (Sync frame) rest reached there lag is u = by_both s.subscribed t.subscribed
  where
    by_both : (a b : Bool) → IsLagQueue
        (queue_of (if a then record s { owed = rest; events = s.events ++ (record { frame = frame; number = s.next_event }) ∷ []; next_event = counted s.next_event } else record s { owed = rest }) u)
        (queue_of (if b then record t { owed = rest; events = t.events ++ (record { frame = frame; number = t.next_event }) ∷ []; next_event = counted t.next_event } else record t { owed = rest }) u)
    by_both true true = lag.queues u
    by_both true false = lag.queues u
    by_both false true = lag.queues u
    by_both false false = lag.queues u

lag_item : (s t : LocalState) (w : ℕ) (item : OwedItem) (rest : List OwedEntry) → IsReached s → IsReached t → IsLag s t → s.owed ≡ record { queue = w; item = item } ∷ rest →
    IsLag (item_given (record s { owed = rest }) w item) (item_given (record t { owed = rest }) w item)
lag_item s t w item rest reached there lag owed =
    let o : OwedEntry = record { queue = w; item = item } in
    let is : IsOwedThere s w item = owed_there s o rest reached owed in
    let gives : after t Give ≡ Some (item_given (record t { owed = rest }) w item) = give_one t o rest (lag.owed ∙ owed) in
    let same : seen (item_given (record t { owed = rest }) w item) ≡ seen t = given_seen t (item_given (record t { owed = rest }) w item) there gives in
    let was : seen (item_given (record s { owed = rest }) w item) ≡ seen s = given_seen s (item_given (record s { owed = rest }) w item) reached (give_one s o rest owed) in
    record {
      model = ap (λ (x : LocalState). x.model) same ∙ (lag.model ∙ ap (λ (x : LocalState). x.model) (sym was));
      opened = ap (λ (x : LocalState). x.opened) same ∙ (lag.opened ∙ ap (λ (x : LocalState). x.opened) (sym was));
      input = ap (λ (x : LocalState). x.input) same ∙ (lag.input ∙ ap (λ (x : LocalState). x.input) (sym was));
      owed = item_owed (record t { owed = rest }) w item ∙ sym (item_owed (record s { owed = rest }) w item);
      queues = item_queues s t w item rest reached there lag is;
      bytes = λ u i m busy has.
          let b : seen_buffer (buffer_of (queue_of (item_given (record t { owed = rest }) w item) u) i) ≡ seen_buffer (buffer_of (queue_of t u) i) =
          buffer_alike (queue_of (item_given (record t { owed = rest }) w item) u) (queue_of t u) (queue_alike (item_given (record t { owed = rest }) w item) t same u) i in
          ap (λ (x : LocalState). bytes_of x m) same
          ∙ (lag.bytes u i m (sym (idle_alike (buffer_of (queue_of (item_given (record t { owed = rest }) w item) u) i) (buffer_of (queue_of t u) i) b) ∙ busy) (ap (λ (x : Buffer). x.memory) (sym b) ∙ has)
          ∙ ap (λ (x : LocalState). bytes_of x m) (sym was));
    }

-- ---- each step

pub lag_step : (s t v : LocalState) (e : Entry) → is_step e ≡ true → IsReached s → IsReached t → IsLag s t → after s e ≡ Some v →
    (w : LocalState) × (after t e ≡ Some w) × IsLag v w
lag_step s t v (Called line call reply) step reached there lag leads = absurd (false≢true step)
lag_step s t v Finish step reached there lag leads =
    let by : (can_finish s ≡ true) × (v ≡ frame_made s) = finished_by s v leads in
    let ready : can_finish t ≡ true = lag_finish s t reached there lag ∙ by.0 in
    (frame_made t, finish_step t ready, subst (λ x. IsLag x (frame_made t)) (sym by.1) (lag_framed s t true reached there by.0 lag))
lag_step s t v Bad step reached there lag leads =
    let by : (can_finish s ≡ true) × (v ≡ frame_failed s) = failed_by s v leads in
    let ready : can_finish t ≡ true = lag_finish s t reached there lag ∙ by.0 in
    (frame_failed t, bad_step t ready, subst (λ x. IsLag x (frame_failed t)) (sym by.1) (lag_framed s t false reached there by.0 lag))
lag_step s t v Give step reached there lag leads =
    let g : Gave s s.owed v = given_by s v leads in
    let w : LocalState = item_given (record t { owed = g.1 }) g.0.queue g.0.item in
    (w, give_one t g.0 g.1 (lag.owed ∙ g.2), subst (λ x. IsLag x w) (sym g.3) (lag_item s t g.0.queue g.0.item g.1 reached there lag g.2))

pub lag_replay : (es : List Entry) (s t v : LocalState) → AreSteps es → IsReached s → IsReached t → IsLag s t → replay_from s es ≡ Some v →
    (w : LocalState) × (replay_from t es ≡ Some w) × IsLag v w × IsReached v × IsReached w
lag_replay [] s t v steps reached there lag leads =
    let same : s ≡ v = some_same s v s leads in
    (t, refl, subst (λ x. IsLag x t) same lag, subst IsReached same reached, there)
lag_replay (e ∷ es) s t v steps reached there lag leads =
    let P : Entry → Type 0 = λ d. is_step d ≡ true in
    let by : _ = by_first s v e es leads in
    let one : _ = lag_step s t by.0 e (All-head P e es steps) reached there lag by.1 in
    let rest : _ = lag_replay es by.0 one.0 v (All-tail P e es steps) (reached_after s by.0 e reached by.1) (reached_after t one.0 e there one.1) one.2 by.2 in
    (rest.0, first_and_rest t one.0 rest.0 e es one.1 rest.1, rest.2, rest.3, rest.4)

-- ---- messages

gives_record : (s t : LocalState) (u i m : ℕ) → IsLag s t → buffer_of (queue_of t u) i ≡ buffer_of (queue_of s u) i → given_record t u i m ≡ given_record s u i m
gives_record s t u i m lag same =
    λ j. dequeued_buffer (lag.model j) (record (blank_buffer u i) { memory = memory_number ((lag.queues u).memory j); m = m; length = (same j).length }) (note_of (same j))

gives_held : (s t : LocalState) (u i : ℕ) (held : Option Held) → IsReached s → IsReached t → IsLag s t → (buffer_of (queue_of s u) i).state ≡ Owed →
    IsHeldAt s u i held → IsHeldAt t u i held
gives_held s t u i None reached there lag owed is = absurd is
gives_held s t u i (Some h) reached there lag owed is =
    let same : buffer_of (queue_of t u) i ≡ buffer_of (queue_of s u) i = lag_owed s t u i lag owed in
    let number : memory_at s u i ≡ memory_at t u i = ap (λ (b : Buffer). number_of b) (sym same) in
    let P : ℕ → Type 0 = λ m. IsMemory t m h.mem in
    let here : IsMemory t (memory_at s u i) h.mem = record {
      bytes = is.memory.bytes ∙ sym (busy_bytes s t u i reached lag (ap is_idle owed) same);
      frame = λ device. is.memory.frame (sym (lag_device s t reached there lag (memory_at s u i)) ∙ device);
    } in
    record { queue = is.queue; index = is.index; memory = subst P number here }

gives_item : (id : ℕ) (s t : LocalState) (u : ℕ) (item : OwedItem) (e : Unsent) → IsReached s → IsReached t → IsLag s t → IsOwedThere s u item →
    GivesItem id s u item e → GivesItem id t u item e
gives_item id s t u (OwedBuffer i) e reached there lag owed is = record {
  m = is.m;
  place = λ mmap. is.place (ap (λ k. memory_number k) (sym (lag.queues u).memory) ∙ mmap);
  msg = is.msg ∙ ap (λ r. Dequeued id r) (sym (gives_record s t u i is.m lag (lag_owed s t u i lag owed.1)));
  held = gives_held s t u i e.held reached there lag owed.1 is.held;
}
gives_item id s t u (Sync frame) e reached there lag owed is = is

gives_first : (id : ℕ) (s t : LocalState) (os : List OwedEntry) (e : Unsent) → IsReached s → IsReached t → IsLag s t → s.owed ≡ os →
    GivesFirst id s os e → GivesFirst id t os e
gives_first id s t [] e reached there lag owed is = absurd is
gives_first id s t (o ∷ rest) e reached there lag owed is = gives_item id s t o.queue o.item e reached there lag (owed_there s o rest reached owed) is

lead_one : (id : ℕ) (s t v : LocalState) (e : Unsent) → IsReached s → IsReached t → IsLag s t → Leads id s e v →
    (w : LocalState) × Leads id t e w × IsLag v w × IsReached v × IsReached w
lead_one id s t v e reached there lag leads =
    let a : _ = lag_replay (made_by s.model e.msg) s t leads.made (made_steps s.model e.msg) reached there lag leads.making in
    let b : _ = lag_step leads.made a.0 v Give refl a.3 a.4 a.2 leads.given in
    let gives : GivesFirst id a.0 a.0.owed e =
    subst (λ os. GivesFirst id a.0 os e) (sym a.2.owed) (gives_first id leads.made a.0 leads.made.owed e a.3 a.4 a.2 refl leads.gives) in (
      b.0,
      record {
        made = a.0;
        making = ap (λ m. replay_from t (made_by m e.msg)) lag.model ∙ a.1;
        gives = gives;
        given = b.1;
      },
      b.2,
      reached_after leads.made v Give a.3 leads.given,
      reached_after a.0 b.0 Give a.4 b.1,
    )

pub lead_all : (id : ℕ) (es : List Unsent) (s t v : LocalState) → IsReached s → IsReached t → IsLag s t → LeadAll id s es v →
    (w : LocalState) × LeadAll id t es w × IsLag v w × IsReached v × IsReached w
lead_all id [] s t v reached there lag leads = (t, refl, subst (λ x. IsLag x t) (sym leads) lag, subst IsReached (sym leads) reached, there)
lead_all id (e ∷ es) s t v reached there lag leads =
    let one : _ = lead_one id s t leads.0 e reached there lag leads.1 in
    let rest : _ = lead_all id es leads.0 one.0 v one.3 one.4 one.2 leads.2 in
    (rest.0, (one.0, one.1, rest.1), rest.2, rest.3, rest.4)
