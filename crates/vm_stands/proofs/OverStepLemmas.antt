-- The device's steps from two states, of which one is behind a call that crossed.
use Rattle.std.proofs.Common.{◌≡◌, inl, inr, ℕ, zero, suc, ◌<◌, ◌&&◌, ◌||◌, nat_lt, Bool, true, false, not, List, [], ◌∷◌, ◌++◌, length, get_or, set, map, Option, Some, None, refl, sym, ap, ◌∙◌, subst, arith, get_or-set_same, get_or-set_other, length-set, if◌then◌else◌}
use Rattle.std.specs.List.{list_any}
use Rattle.std.proofs.lemmas.Bool.{false≢true, true≢false, cases_eq, cases_Bool, and_parts, not-true, ltb-true, ltb-false, not-false}
use Rattle.std.proofs.lemmas.List.{append-nil, get_or_past}
use Rattle.std.proofs.lemmas.List.Elements.{All-head, All-tail}
use Rattle.v4l_const.specs.declared.model.Model.{Model}
use Rattle.v4l_const.specs.Model.{queues as types_of}
use Rattle.v4l_rules.specs.Queues.{place_in, has_type}
use Rattle.v4l_rules.specs.Refusals.{first_refusal}
use Rattle.v4l_rules.proofs.SetLemmas.{formatted_keeps}
use Rattle.v4l_rules.specs.Formats.{first_format}
use Rattle.v4l_format.specs.declared.fmt.Fmt.{Fmt}
use Rattle.vm_local.specs.Record.{is_refusal}
use Rattle.vm_stands.proofs.AlikeLemmas.{any_alike}
use Rattle.vm_stands.proofs.BegunLemmas.{some_empty}
use Rattle.vm_stands.proofs.FormatLemmas.{set_long}
use Rattle.std.proofs.lemmas.List.Folds.{list_any_at}
use Rattle.vm_frame.specs.declared.mem.Held.{Held}
use Rattle.vm_wire.specs.Buffers.{blank_buffer, dequeued_buffer}
use Rattle.vm_wire.specs.declared.event.EventMsg.{EventMsg}
use Rattle.vm_wire.specs.declared.event.EventMsg.TheVariants.{Dequeued}
use Rattle.vm_local.specs.declared.buffer.Buffer.{Buffer}
use Rattle.vm_local.specs.declared.buffer.BufferState.TheVariants.{Owed, Done}
use Rattle.vm_local.specs.declared.call.Call.{Call}
use Rattle.vm_local.specs.declared.call.Call.TheVariants.{OpenHandle, CloseHandle, QueryCap, EnumFmt, GFmt, TryFmt, SFmt, EnumInput, GInput, SInput, ReqBufs, QueryBuf, UAlloc, QBuf, StreamOn, StreamOff, DqBuf, Mmap, Munmap, Peek, Hash, Poke, Fill, Subscribe, Unsubscribe, DqEvent}
use Rattle.vm_local.specs.declared.entry.Entry.{Entry}
use Rattle.vm_local.specs.declared.entry.Entry.TheVariants.{Called, Finish, Bad, Give}
use Rattle.vm_local.specs.declared.owed.Owed.{Owed as OwedEntry}
use Rattle.vm_local.specs.declared.owed.OwedItem.{OwedItem}
use Rattle.vm_local.specs.declared.owed.OwedItem.TheVariants.{Buffer as OwedBuffer, Sync}
use Rattle.vm_local.specs.declared.reply.Reply.{Reply}
use Rattle.vm_local.specs.State.{QueueState, LocalState, opening_queue, queue_kind, queue_of, with_queue, no_buffer, buffer_of}
use Rattle.vm_local.specs.Kinds.{is_idle}
use Rattle.vm_local.specs.Memory.{is_just}
use Rattle.vm_local.specs.Queue.{is_empty, is_user_ptr, has_buffers, can_finish, adjusted_for, with_set_format, started, brought, queued_buffer, with_queued}
use Rattle.vm_local.specs.Same.{address_in}
use Rattle.vm_local.specs.Calls.{Row, row_of, querycap_row, enumfmt_row, gfmt_row, tryfmt_row, sfmt_row, enuminput_row, ginput_row, sinput_row, querybuf_row, qbuf_row, streamon_row, mmap_row, munmap_row, subscribe_row, unsubscribe_row}
use Rattle.vm_local.specs.Listed.{IsThere, IsOwedThere}
use Rattle.vm_local.specs.Live.{is_of_device}
use Rattle.vm_local.specs.Log.{row_for, called, after, replay_from, IsCall}
use Rattle.vm_local.specs.Steps.{number_of, with_done, item_given, counted}
use Rattle.vm_local.proofs.KeptLemmas.{some_same}
use Rattle.vm_local.proofs.StepLemmas.{frame_made, frame_failed, finished_by, failed_by, given_by, Gave, passes, answered_by}
use Rattle.vm_commute.specs.Commute.{is_step, AreSteps, may_cross, is_open, may_go_first, GoesFirst, SameButFlags, SameButEvents, without_events}
use Rattle.vm_commute.proofs.EventsLemmas.{by_first, first_and_rest}
use Rattle.vm_commute.proofs.OrderLemmas.{order_law}
use Rattle.vm_commute.proofs.ReachedLemmas.{many_queues, owed_there, reached_after}
use Rattle.vm_home.specs.Home.{IsMemory}
use Rattle.vm_home.specs.Moves.{memory_at, is_stopping}
use Rattle.vm_home.specs.Reached.{IsReached}
use Rattle.vm_exchange.specs.Exchange.{memory_number}
use Rattle.vm_session.specs.declared.unsent.Unsent.{Unsent}
use Rattle.vm_exchange.specs.Messages.{made_by, flight_of}
use Rattle.vm_stands.specs.Flight.{note_of, given_record, IsHeldAt, GivesItem, GivesFirst, Leads, LeadAll}
use Rattle.vm_stands.proofs.AheadLemmas.{flight_steps, call_model}
use Rattle.vm_stands.proofs.FlightLemmas.{made_steps, all_replay}
use Rattle.vm_stands.proofs.GivenLemmas.{given_seen}
use Rattle.vm_stands.proofs.LeadLemmas.{give_one, item_owed}
use Rattle.vm_stands.proofs.SeenLemmas.{seen, device_alike}
use Rattle.vm_stands.proofs.FinishedLemmas.{finish_step, bad_step}
use Rattle.vm_stands.proofs.StayLemmas.{target_streams, finish_seen}
use Rattle.vm_stands.proofs.QBufLemmas.{IsQueueing, queueing_is, queued_device, any_set}
use Rattle.vm_stands.proofs.OverLemmas.{IsOverQueue, IsOver, over_itself, over_finish, over_framed}

-- ---- what is owed is given

done_over : (q v : QueueState) (i : ℕ) → IsOverQueue q v → IsThere Owed q i → IsOverQueue (with_done q i) (with_done v i)
done_over q v i over there =
    let b : Buffer = record (buffer_of q i) { state = Done } in
    let c : Buffer = record (buffer_of v i) { state = Done } in
    let same : buffer_of v i ≡ buffer_of q i = over.buffers i (ap is_idle there.1) in
    let inside : i < length v.buffers = omega (arith, there.0, over.many) in
    record {
      memory = over.memory;
      many = length-set v.buffers i c ∙ (over.many ∙ sym (length-set q.buffers i b));
      buffers = λ k busy. elim (cases_eq k i) as (λ _. get_or (set v.buffers i c) k no_buffer ≡ get_or (set q.buffers i b) k no_buffer) [
        | inl is ↦ ap (λ j. get_or (set v.buffers i c) j no_buffer) is
            ∙ (get_or-set_same v.buffers i c no_buffer inside
            ∙ (ap (λ (x : Buffer). record x { state = Done }) same
            ∙ (sym (get_or-set_same q.buffers i b no_buffer there.0) ∙ ap (λ j. get_or (set q.buffers i b) j no_buffer) (sym is))))
        | inr far ↦
            let here : get_or (set q.buffers i b) k no_buffer ≡ buffer_of q k = get_or-set_other q.buffers i k b no_buffer far in
            get_or-set_other v.buffers i k c no_buffer far ∙ (over.buffers k (ap (λ (x : Buffer). is_idle x.state) (sym here) ∙ busy) ∙ sym here)
      ];
      more = over.more;
      queued = over.queued;
      streaming = over.streaming;
      format = λ long. over.format (ap (λ k. nat_lt 0 k) (sym (length-set q.buffers i b)) ∙ long);
    }

item_queues : (s t : LocalState) (w : ℕ) (item : OwedItem) (rest : List OwedEntry) → IsReached s → IsReached t → IsOver s t → IsOwedThere s w item → (u : ℕ) →
    IsOverQueue (queue_of (item_given (record s { owed = rest }) w item) u) (queue_of (item_given (record t { owed = rest }) w item) u)
item_queues s t w (OwedBuffer i) rest reached there over is u =
    let q : QueueState = with_done (queue_of s w) i in
    let v : QueueState = with_done (queue_of t w) i in
    let p : ℕ = place_in (types_of s.model) w in
    let k : ℕ = place_in (types_of s.model) u in
    let new : IsOverQueue q v = done_over (queue_of s w) (queue_of t w) i (over.queues w) is in
    let long : length t.queues ≡ length s.queues = many_queues t there ∙ (ap (λ m. length (types_of m)) over.model ∙ sym (many_queues s reached)) in
    let P : Model → Type 0 = λ m. IsOverQueue (get_or (set s.queues p q) k opening_queue) (get_or (set t.queues (place_in (types_of m) w) v) (place_in (types_of m) u) opening_queue) in
    let was : IsOverQueue (queue_of s u) (get_or t.queues k opening_queue) =
    subst (λ m. IsOverQueue (queue_of s u) (get_or t.queues (place_in (types_of m) u) opening_queue)) over.model (over.queues u) in
    subst P (sym over.model) (elim (cases_eq k p) as (λ _. P s.model) [
      | inl same ↦ at_one s.queues t.queues p k q v long same new was
      | inr far ↦
          subst (λ x. IsOverQueue x (get_or (set t.queues p v) k opening_queue)) (sym (get_or-set_other s.queues p k q opening_queue far))
          (subst (λ y. IsOverQueue (queue_of s u) y) (sym (get_or-set_other t.queues p k v opening_queue far)) was)
    ])
  where
    at_one : (qs vs : List QueueState) (p k : ℕ) (q v : QueueState) → length vs ≡ length qs → k ≡ p → IsOverQueue q v → IsOverQueue (get_or qs k opening_queue) (get_or vs k opening_queue) →
        IsOverQueue (get_or (set qs p q) k opening_queue) (get_or (set vs p v) k opening_queue)
    at_one [] [] p k q v long same new old = old
    at_one [] (y ∷ vs) p k q v long same new old = absurd (omega (arith, long))
    at_one (x ∷ qs) [] p k q v long same new old = absurd (omega (arith, long))
    at_one (x ∷ qs) (y ∷ vs) zero zero q v long same new old = new
    at_one (x ∷ qs) (y ∷ vs) zero (suc k) q v long same new old = absurd (omega (arith, same))
    at_one (x ∷ qs) (y ∷ vs) (suc p) zero q v long same new old = absurd (omega (arith, same))
    at_one (x ∷ qs) (y ∷ vs) (suc p) (suc k) q v long same new old = at_one qs vs p k q v (omega (arith, long)) (omega (arith, same)) new old
item_queues s t w (Sync frame) rest reached there over is u = by_both s.subscribed t.subscribed
  where
    by_both : (a b : Bool) → IsOverQueue
        (queue_of (if a then record s { owed = rest; events = s.events ++ (record { frame = frame; number = s.next_event }) ∷ []; next_event = counted s.next_event } else record s { owed = rest }) u)
        (queue_of (if b then record t { owed = rest; events = t.events ++ (record { frame = frame; number = t.next_event }) ∷ []; next_event = counted t.next_event } else record t { owed = rest }) u)
    by_both true true = over.queues u
    by_both true false = over.queues u
    by_both false true = over.queues u
    by_both false false = over.queues u

item_over : (s t : LocalState) (w : ℕ) (item : OwedItem) (rest : List OwedEntry) → IsReached s → IsReached t → IsOver s t → s.owed ≡ record { queue = w; item = item } ∷ rest →
    IsOver (item_given (record s { owed = rest }) w item) (item_given (record t { owed = rest }) w item)
item_over s t w item rest reached there over owed =
    let o : OwedEntry = record { queue = w; item = item } in
    let x : LocalState = item_given (record s { owed = rest }) w item in
    let y : LocalState = item_given (record t { owed = rest }) w item in
    let was : seen x ≡ seen s = given_seen s x reached (give_one s o rest owed) in
    let same : seen y ≡ seen t = given_seen t y there (give_one t o rest (over.owed ∙ owed)) in
    record {
      model = ap (λ (z : LocalState). z.model) same ∙ (over.model ∙ ap (λ (z : LocalState). z.model) (sym was));
      owed = item_owed (record t { owed = rest }) w item ∙ sym (item_owed (record s { owed = rest }) w item);
      memories = ap (λ (z : LocalState). z.memories) same ∙ (over.memories ∙ ap (λ (z : LocalState). z.memories) (sym was));
      input = λ ready. ap (λ (z : LocalState). z.input) same
          ∙ (over.input (sym (finish_seen s) ∙ (ap (λ z. can_finish z) (sym was) ∙ (finish_seen x ∙ ready))) ∙ ap (λ (z : LocalState). z.input) (sym was));
      queues = item_queues s t w item rest reached there over (owed_there s o rest reached owed);
      device = λ m. device_alike y t same m ∙ (over.device m ∙ sym (device_alike x s was m));
    }

-- ---- each step

over_step : (s t v : LocalState) (e : Entry) → is_step e ≡ true → IsReached s → IsReached t → IsOver s t → after s e ≡ Some v →
    (w : LocalState) × (after t e ≡ Some w) × IsOver v w
over_step s t v (Called line call reply) step reached there over leads = absurd (false≢true step)
over_step s t v Finish step reached there over leads =
    let by : (can_finish s ≡ true) × (v ≡ frame_made s) = finished_by s v leads in
    (frame_made t, finish_step t (over_finish s t reached there over by.0), subst (λ x. IsOver x (frame_made t)) (sym by.1) (over_framed s t true reached there by.0 over))
over_step s t v Bad step reached there over leads =
    let by : (can_finish s ≡ true) × (v ≡ frame_failed s) = failed_by s v leads in
    (frame_failed t, bad_step t (over_finish s t reached there over by.0), subst (λ x. IsOver x (frame_failed t)) (sym by.1) (over_framed s t false reached there by.0 over))
over_step s t v Give step reached there over leads =
    let g : Gave s s.owed v = given_by s v leads in
    let w : LocalState = item_given (record t { owed = g.1 }) g.0.queue g.0.item in
    (w, give_one t g.0 g.1 (over.owed ∙ g.2), subst (λ x. IsOver x w) (sym g.3) (item_over s t g.0.queue g.0.item g.1 reached there over g.2))

over_replay : (es : List Entry) (s t v : LocalState) → AreSteps es → IsReached s → IsReached t → IsOver s t → replay_from s es ≡ Some v →
    (w : LocalState) × (replay_from t es ≡ Some w) × IsOver v w × IsReached v × IsReached w
over_replay [] s t v steps reached there over leads =
    let same : s ≡ v = some_same s v s leads in
    (t, refl, subst (λ x. IsOver x t) same over, subst IsReached same reached, there)
over_replay (e ∷ es) s t v steps reached there over leads =
    let P : Entry → Type 0 = λ d. is_step d ≡ true in
    let by : _ = by_first s v e es leads in
    let one : _ = over_step s t by.0 e (All-head P e es steps) reached there over by.1 in
    let rest : _ = over_replay es by.0 one.0 v (All-tail P e es steps) (reached_after s by.0 e reached by.1) (reached_after t one.0 e there one.1) one.2 by.2 in
    (rest.0, first_and_rest t one.0 rest.0 e es one.1 rest.1, rest.2, rest.3, rest.4)

-- ---- messages

gives_held : (s t : LocalState) (u i : ℕ) (held : Option Held) → IsOver s t → buffer_of (queue_of t u) i ≡ buffer_of (queue_of s u) i → IsHeldAt s u i held → IsHeldAt t u i held
gives_held s t u i None over same is = absurd is
gives_held s t u i (Some h) over same is =
    let number : memory_at s u i ≡ memory_at t u i = ap (λ (b : Buffer). number_of b) (sym same) in
    let P : ℕ → Type 0 = λ m. IsMemory t m h.mem in
    let here : IsMemory t (memory_at s u i) h.mem = record {
      bytes = is.memory.bytes ∙ ap (λ ms. get_or ms (memory_at s u i) []) (sym over.memories);
      frame = λ device. is.memory.frame (sym (over.device (memory_at s u i)) ∙ device);
    } in
    record { queue = is.queue; index = is.index; memory = subst P number here }

gives_record : (s t : LocalState) (u i m : ℕ) → IsOver s t → buffer_of (queue_of t u) i ≡ buffer_of (queue_of s u) i → given_record t u i m ≡ given_record s u i m
gives_record s t u i m over same =
    λ j. dequeued_buffer (over.model j) (record (blank_buffer u i) { memory = memory_number ((over.queues u).memory j); m = m; length = (same j).length }) (note_of (same j))

gives_item : (id : ℕ) (s t : LocalState) (u : ℕ) (item : OwedItem) (e : Unsent) → IsOver s t → IsOwedThere s u item → GivesItem id s u item e → GivesItem id t u item e
gives_item id s t u (OwedBuffer i) e over owed is =
    let same : buffer_of (queue_of t u) i ≡ buffer_of (queue_of s u) i = (over.queues u).buffers i (ap is_idle owed.1) in
    record {
      m = is.m;
      place = λ mmap. is.place (ap (λ k. memory_number k) (sym (over.queues u).memory) ∙ mmap);
      msg = is.msg ∙ ap (λ r. Dequeued id r) (sym (gives_record s t u i is.m over same));
      held = gives_held s t u i e.held over same is.held;
    }
gives_item id s t u (Sync frame) e over owed is = is

gives_first : (id : ℕ) (s t : LocalState) (os : List OwedEntry) (e : Unsent) → IsReached s → IsOver s t → s.owed ≡ os → GivesFirst id s os e → GivesFirst id t os e
gives_first id s t [] e reached over owed is = absurd is
gives_first id s t (o ∷ rest) e reached over owed is = gives_item id s t o.queue o.item e over (owed_there s o rest reached owed) is

lead_one : (id : ℕ) (s t v : LocalState) (e : Unsent) → IsReached s → IsReached t → IsOver s t → Leads id s e v →
    (w : LocalState) × Leads id t e w × IsOver v w × IsReached v × IsReached w
lead_one id s t v e reached there over leads =
    let a : _ = over_replay (made_by s.model e.msg) s t leads.made (made_steps s.model e.msg) reached there over leads.making in
    let b : _ = over_step leads.made a.0 v Give refl a.3 a.4 a.2 leads.given in
    let gives : GivesFirst id a.0 a.0.owed e =
    subst (λ os. GivesFirst id a.0 os e) (sym a.2.owed) (gives_first id leads.made a.0 leads.made.owed e a.3 a.2 refl leads.gives) in (
      b.0,
      record {
        made = a.0;
        making = ap (λ m. replay_from t (made_by m e.msg)) over.model ∙ a.1;
        gives = gives;
        given = b.1;
      },
      b.2,
      reached_after leads.made v Give a.3 leads.given,
      reached_after a.0 b.0 Give a.4 b.1,
    )

over_all : (id : ℕ) (es : List Unsent) (s t v : LocalState) → IsReached s → IsReached t → IsOver s t → LeadAll id s es v → (w : LocalState) × LeadAll id t es w
over_all id [] s t v reached there over leads = (t, refl)
over_all id (e ∷ es) s t v reached there over leads =
    let one : _ = lead_one id s t leads.0 e reached there over leads.1 in
    let rest : _ = over_all id es leads.0 one.0 v one.3 one.4 one.2 leads.2 in
    (rest.0, (one.0, one.1, rest.1))

-- ---- each call

no_over : (s t : LocalState) → t.model ≡ s.model → t.owed ≡ s.owed → t.memories ≡ s.memories → t.queues ≡ s.queues → (can_finish s ≡ true → t.input ≡ s.input) → IsOver s t
no_over s t model owed memories queues input =
    let same : (u : ℕ) → queue_of t u ≡ queue_of s u = λ u. λ j. get_or (queues j) (place_in (types_of (model j)) u) opening_queue in
    record {
      model = model;
      owed = owed;
      memories = memories;
      input = input;
      queues = λ u. subst (λ q. IsOverQueue (queue_of s u) q) (sym (same u)) (over_itself (queue_of s u));
      device = λ m. ap (λ qs. list_any (λ (q : QueueState). not (is_user_ptr q.memory) && list_any (λ b. is_just b.memory m) q.buffers) qs) queues;
    }

-- one queue is another
put_over : (s t : LocalState) (w : ℕ) (v : QueueState) → t.model ≡ s.model → t.owed ≡ s.owed → t.memories ≡ s.memories → t.input ≡ s.input →
    t.queues ≡ set s.queues (place_in (types_of s.model) w) v → place_in (types_of s.model) w < length s.queues → IsOverQueue (queue_of s w) v →
    ((m : ℕ) → is_of_device t m ≡ is_of_device s m) → IsOver s t
put_over s t w v model owed memories input queues within over device =
    let p : ℕ = place_in (types_of s.model) w in
    let there : (u : ℕ) → queue_of t u ≡ get_or (set s.queues p v) (place_in (types_of s.model) u) opening_queue = λ u. λ j. get_or (queues j) (place_in (types_of (model j)) u) opening_queue in
    record {
      model = model;
      owed = owed;
      memories = memories;
      input = λ _. input;
      queues = λ u. subst (λ x. IsOverQueue (queue_of s u) x) (sym (there u)) (elim (cases_eq (place_in (types_of s.model) u) p) as
          (λ _. IsOverQueue (queue_of s u) (get_or (set s.queues p v) (place_in (types_of s.model) u) opening_queue)) [
            | inl same ↦ subst (λ k. IsOverQueue (get_or s.queues k opening_queue) (get_or (set s.queues p v) k opening_queue)) (sym same)
                (subst (λ x. IsOverQueue (queue_of s w) x) (sym (get_or-set_same s.queues p v opening_queue within)) over)
            | inr far ↦ subst (λ x. IsOverQueue (queue_of s u) x) (sym (get_or-set_other s.queues p (place_in (types_of s.model) u) v opening_queue far)) (over_itself (queue_of s u))
          ]);
      device = device;
    }

queued_over : (s : LocalState) (t i used ts : ℕ) (user : Option (List ℕ)) → IsReached s → IsQueueing s t i user used → IsOver s (with_queued s t i (brought s user) used ts)
queued_over s t i used ts user reached queueing =
    let q : QueueState = queue_of s t in
    let b : Buffer = queued_buffer s t (brought s user) used ts (buffer_of q i) in
    let v : QueueState = record q { buffers = set q.buffers i b; queued = q.queued ++ i ∷ [] } in
    let within : place_in (types_of s.model) t < length s.queues =
    omega (arith, ltb-true (place_in (types_of s.model) t) (length (types_of s.model)) queueing.has, many_queues s reached) in
    put_over s (with_queued s t i (brought s user) used ts) t v refl refl refl refl refl within (record {
      memory = refl;
      many = length-set q.buffers i b;
      buffers = λ k busy. get_or-set_other q.buffers i k b no_buffer (λ same. true≢false (sym queueing.idle ∙ (ap (λ j. is_idle (buffer_of q j).state) (sym same) ∙ busy)));
      more = i ∷ [];
      queued = refl;
      streaming = λ is. (is, refl);
      format = λ some. refl;
    }) (queued_device s t i used ts user queueing)

started_over : (s : LocalState) (t : ℕ) → IsReached s → has_type s.model t ≡ true → IsOver s (with_queue s t (started (queue_of s t)))
started_over s t reached has =
    let q : QueueState = queue_of s t in
    let within : place_in (types_of s.model) t < length s.queues =
    omega (arith, ltb-true (place_in (types_of s.model) t) (length (types_of s.model)) has, many_queues s reached) in
    put_over s (with_queue s t (started q)) t (started q) refl refl refl refl refl within (record {
      memory = refl;
      many = refl;
      buffers = λ k busy. refl;
      more = [];
      queued = sym (append-nil q.queued);
      streaming = λ is. (refl, ap (λ b. if b then q.next_sequence else 0) is);
      format = λ some. refl;
    }) (λ m. any_set (λ (x : QueueState). not (is_user_ptr x.memory) && list_any (λ b. is_just b.memory m) x.buffers) opening_queue s.queues
    (place_in (types_of s.model) t) (started q) refl)

-- a queue has no buffers, where the handle has none
pub none_there : (s : LocalState) (u : ℕ) → has_buffers s ≡ false → nat_lt 0 (length (queue_of s u).buffers) ≡ true → ⊥
none_there s u none some =
    let p : ℕ = place_in (types_of s.model) u in
    let test : QueueState → Bool = λ q. not (is_empty q.buffers) in
    let here : test (queue_of s u) ≡ true = sym (some_empty (queue_of s u).buffers) ∙ some in
    elim (cases_Bool (nat_lt p (length s.queues))) as (λ _. ⊥) [
      | inl inside ↦ true≢false (sym (list_any_at test s.queues p opening_queue (ltb-true p (length s.queues) inside) here) ∙ none)
      | inr past ↦
          let bare : queue_of s u ≡ opening_queue = get_or_past s.queues p opening_queue (ltb-false p (length s.queues) past) in
          true≢false (sym here ∙ ap test bare)
    ]

format_over : (s : LocalState) (t : ℕ) (f : Fmt) → has_buffers s ≡ false → IsOver s (with_set_format s t f)
format_over s t f none =
    let y : LocalState = with_set_format s t f in
    let bare : QueueState → QueueState = λ q. record q { format = first_format } in
    let fixed : (p : ℕ) → bare (get_or y.queues p opening_queue) ≡ bare (get_or s.queues p opening_queue) = λ p.
    formatted_keeps queue_kind bare (λ q g. refl) s.model s.queues t f p in
    let test : (m : ℕ) → QueueState → Bool = λ m q. not (is_user_ptr q.memory) && list_any (λ b. is_just b.memory m) q.buffers in
    record {
      model = refl;
      owed = refl;
      memories = refl;
      input = λ _. refl;
      queues = λ u.
          let same : bare (queue_of y u) ≡ bare (queue_of s u) = fixed (place_in (types_of s.model) u) in
          record {
            memory = ap (λ (q : QueueState). q.memory) same;
            many = ap (λ (q : QueueState). length q.buffers) same;
            buffers = λ i busy. ap (λ (q : QueueState). buffer_of q i) same;
            more = [];
            queued = ap (λ (q : QueueState). q.queued) same ∙ sym (append-nil (queue_of s u).queued);
            streaming = λ is. (ap (λ (q : QueueState). q.streaming) same ∙ is, ap (λ (q : QueueState). q.next_sequence) same);
            format = λ some. absurd (none_there s u none some);
          };
      device = λ m. any_alike (test m) (test m) opening_queue opening_queue y.queues s.queues (set_long queue_kind s.model s.queues t f) (λ p within. ap (λ q. test m q) (fixed p));
    }

row_over : (s : LocalState) (line addr : ℕ) (call : Call) → may_cross call ≡ true → is_open call ≡ false → is_stopping call ≡ false → IsReached s →
    first_refusal (row_of s line addr call).refusals ≡ None → IsOver s (row_of s line addr call).next
unfolding querycap_row enumfmt_row gfmt_row tryfmt_row sfmt_row enuminput_row ginput_row sinput_row querybuf_row qbuf_row streamon_row mmap_row munmap_row subscribe_row unsubscribe_row
row_over s line addr (OpenHandle nonblock) may opens stop reached pass = absurd (true≢false opens)
row_over s line addr CloseHandle may opens stop reached pass = absurd (true≢false stop)
row_over s line addr QueryCap may opens stop reached pass = no_over s s refl refl refl refl (λ _. refl)
row_over s line addr (EnumFmt t i) may opens stop reached pass = no_over s s refl refl refl refl (λ _. refl)
row_over s line addr (GFmt t) may opens stop reached pass = no_over s s refl refl refl refl (λ _. refl)
row_over s line addr (TryFmt t f w h) may opens stop reached pass = no_over s s refl refl refl refl (λ _. refl)
row_over s line addr (SFmt t f w h) may opens stop reached pass = format_over s t (adjusted_for s t f w h) (passes (sfmt_row s t f w h).refusals pass 2)
row_over s line addr (EnumInput i) may opens stop reached pass = no_over s s refl refl refl refl (λ _. refl)
row_over s line addr GInput may opens stop reached pass = no_over s s refl refl refl refl (λ _. refl)
row_over s line addr (SInput i) may opens stop reached pass =
    no_over s (record s { input = i }) refl refl refl refl (λ ready. absurd (true≢false (sym (target_streams s reached ready) ∙ passes (sinput_row s i).refusals pass 3)))
row_over s line addr (ReqBufs t m n) may opens stop reached pass = absurd (true≢false stop)
row_over s line addr (QueryBuf t i) may opens stop reached pass = no_over s s refl refl refl refl (λ _. refl)
row_over s line addr (UAlloc u len off) may opens stop reached pass = absurd (false≢true may)
row_over s line addr (QBuf t i user used ts) may opens stop reached pass = queued_over s t i used ts user reached (queueing_is s t i user used ts pass)
row_over s line addr (StreamOn t) may opens stop reached pass = started_over s t reached (not-false _ (passes (streamon_row s t).refusals pass 1))
row_over s line addr (StreamOff t) may opens stop reached pass = absurd (true≢false stop)
row_over s line addr (DqBuf t) may opens stop reached pass = absurd (false≢true may)
row_over s line addr (Mmap m t i ro) may opens stop reached pass = no_over s (mmap_row s addr m t i ro).next refl refl refl refl (λ _. refl)
row_over s line addr (Munmap m) may opens stop reached pass = no_over s (munmap_row s m).next refl refl refl refl (λ _. refl)
row_over s line addr (Peek m off len) may opens stop reached pass = absurd (false≢true may)
row_over s line addr (Hash m) may opens stop reached pass = absurd (false≢true may)
row_over s line addr (Poke m off bytes) may opens stop reached pass = absurd (false≢true may)
row_over s line addr (Fill m seed) may opens stop reached pass = absurd (false≢true may)
row_over s line addr (Subscribe e) may opens stop reached pass = no_over s (subscribe_row s e).next refl refl refl refl (λ _. refl)
row_over s line addr (Unsubscribe e) may opens stop reached pass = no_over s (unsubscribe_row s e).next refl refl refl refl (λ _. refl)
row_over s line addr DqEvent may opens stop reached pass = absurd (false≢true may)

call_over : (s t : LocalState) (line : ℕ) (call : Call) (reply : Reply) → may_cross call ≡ true → is_open call ≡ false → is_stopping call ≡ false → IsReached s →
    IsCall s line call reply t → IsOver s t
unfolding called
call_over s t line call reply may opens stop reached leads =
    let r : Row = row_for s line call reply in
    elim (answered_by (first_refusal r.refusals) r s reply t leads) as (λ _. IsOver s t) [
      | inl same ↦ subst (λ x. IsOver s x) (sym same) (no_over s s refl refl refl refl (λ _. refl))
      | inr went ↦ subst (λ x. IsOver s x) (sym went.3) (row_over s line (address_in reply) call may opens stop reached went.0)
    ]

pub execution_leads : (id line : ℕ) (r s t : LocalState) (call : Call) (reply : Reply) (es : List Unsent) → IsReached r → LeadAll id r es s →
    may_go_first call reply ≡ true → is_stopping call ≡ false → IsCall s line call reply t →
    (first_reply : Reply) × (between : LocalState) × (ahead : LocalState) × SameButFlags first_reply reply
    × IsCall r line call first_reply between × LeadAll id between es ahead × SameButEvents ahead t
execution_leads id line r s t call reply es (m, log, reached) leads may never calls =
    let msgs : List EventMsg = map (λ (e : Unsent). e.msg) es in
    let g : GoesFirst r (flight_of r.model msgs) line call reply t =
    order_law m log r reached (flight_of r.model msgs) s line call reply t (flight_steps r.model msgs) (all_replay id r s es leads) may calls in
    let parts : _ = and_parts (may_cross call) (not (is_open call) && (not (is_stopping call) || is_refusal reply)) may in
    let more : _ = and_parts (not (is_open call)) (not (is_stopping call) || is_refusal reply) parts.1 in
    let there : IsReached g.between = reached_after r g.between (Called line call g.first_reply) (m, log, reached) g.is_call in
    let over : IsOver r g.between = call_over r g.between line call g.first_reply parts.0 (not-true (is_open call) more.0) never (m, log, reached) g.is_call in
    let w : _ = over_all id es r g.between s (m, log, reached) there over leads in
    let replays : replay_from g.between (flight_of r.model msgs) ≡ Some w.0 =
    ap (λ x. replay_from g.between (flight_of x msgs)) (sym (call_model r g.between line call g.first_reply g.is_call)) ∙ all_replay id g.between w.0 es w.1 in
    let same : w.0 ≡ g.last = some_same w.0 g.last w.0 (sym replays ∙ g.are_legal) in
    (g.first_reply, g.between, w.0, g.same_reply, g.is_call, w.1, ap (λ (x : LocalState). without_events x) same ∙ g.same_state)
