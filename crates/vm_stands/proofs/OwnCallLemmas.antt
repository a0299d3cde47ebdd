-- The calls that the driver answers by itself, and what they leave to the device.
use Rattle.std.proofs.Common.{◌≡◌, inl, inr, ℕ, ◌<◌, true, false, List, [], ◌∷◌, ◌++◌, length, get_or, set, map, All, Some, None, refl, sym, ap, ◌∙◌, subst, arith, get_or-set_same, get_or-set_other, length-set}
use Rattle.std.specs.Prelude.{slice_index, IfSome}
use Rattle.std.proofs.Math.ListN.{get_or-map}
use Rattle.std.proofs.lemmas.Bool.{true≢false, cases_eq, ltb-true, not-false}
use Rattle.std.proofs.lemmas.List.{get_or_append_left, length-map}
use Rattle.std.proofs.lemmas.List.Elements.{All-head}
use Rattle.v4l_const.specs.Model.{queues as types_of}
use Rattle.v4l_layout.specs.declared.buffer_rec.BufferRec.{BufferRec}
use Rattle.v4l_rules.specs.Formats.{is_source}
use Rattle.v4l_rules.specs.Queues.{place_in, has_type}
use Rattle.v4l_rules.specs.Refusals.{first_refusal}
use Rattle.vm_frame.specs.declared.mem.Held.{Held}
use Rattle.vm_job.specs.Job.{JobParts}
use Rattle.vm_queue.specs.declared.queued.Queued.{Queued}
use Rattle.vm_local.specs.declared.buffer.Buffer.{Buffer}
use Rattle.vm_local.specs.declared.buffer.BufferState.TheVariants.{Queued as AsQueued, Done}
use Rattle.vm_local.specs.declared.call.Call.{Call}
use Rattle.vm_local.specs.declared.call.Call.TheVariants.{OpenHandle, CloseHandle, QueryCap, EnumFmt, GFmt, TryFmt, SFmt, EnumInput, GInput, SInput, ReqBufs, QueryBuf, UAlloc, QBuf, StreamOn, StreamOff, DqBuf, Mmap, Munmap, Peek, Hash, Poke, Fill, Subscribe, Unsubscribe, DqEvent}
use Rattle.vm_local.specs.declared.entry.Entry.TheVariants.{Called}
use Rattle.vm_local.specs.declared.reply.Reply.{Reply}
use Rattle.vm_local.specs.State.{QueueState, LocalState, opening_queue, queue_of, no_buffer, buffer_of}
use Rattle.vm_local.specs.Kinds.{is_idle}
use Rattle.vm_local.specs.Memory.{named, memory_of, is_in_use}
use Rattle.vm_local.specs.Same.{address_in}
use Rattle.vm_local.specs.Queue.{is_empty, is_user_ptr, made_idle, first_done, taken_back}
use Rattle.vm_local.specs.Calls.{Row, row_of, ualloc_row, dqbuf_row, read_row, hash_row, write_row, fill_row, dqevent_row}
use Rattle.vm_local.specs.Listed.{IsThere}
use Rattle.vm_local.specs.Log.{row_for, called, IsCall}
use Rattle.vm_local.specs.Steps.{number_of}
use Rattle.vm_local.proofs.StepLemmas.{passes, answered_by}
use Rattle.vm_commute.specs.Commute.{may_cross}
use Rattle.vm_commute.proofs.ReachedLemmas.{many_queues, reached_after}
use Rattle.vm_home.specs.Home.{IsMemory}
use Rattle.vm_home.specs.Moves.{memory_at}
use Rattle.vm_home.specs.Reached.{IsReached}
use Rattle.vm_home.proofs.PlaceLemmas.{used_from}
use Rattle.vm_home.proofs.FactLemmas.{facts_of}
use Rattle.vm_home.proofs.OwnLemmas.{number_made}
use Rattle.vm_exchange.specs.Exchange.{memory_number}
use Rattle.vm_session.specs.declared.unsent.Unsent.{Unsent}
use Rattle.vm_session.specs.State.{SessionState, queue_of as session_queue}
use Rattle.vm_session.specs.Sound.{IsSound, taken_by}
use Rattle.vm_stands.specs.Stands.{seconds_of, micros_of, waiting, IsPictureTold, IsRecordOf, IsMemoryAt, StandsOn, Stands, IsNext}
use Rattle.vm_stands.specs.Flight.{LeadAll}
use Rattle.vm_stands.proofs.FormatLemmas.{lists_same}
use Rattle.vm_stands.proofs.HoldLemmas.{queued_there, all_behind}
use Rattle.vm_stands.proofs.NextLemmas.{are_there, waiting_there}
use Rattle.vm_stands.proofs.StayLemmas.{next_alike}
use Rattle.vm_stands.proofs.LagLemmas.{IsLagBuffer, IsLagQueue, IsLag, lag_itself, lag_queued, lag_length, lag_memory, lag_device, lag_next, busy_bytes}
use Rattle.vm_stands.proofs.LagStepLemmas.{lead_all}
use Rattle.vm_stands.proofs.UnderWayLemmas.{IsAway, IsBusy, IsBusyFor, under_way, taken_queued, away_is}

-- ---- each call

no_lag : (s : LocalState) → IsLag s s
no_lag s = record { model = refl; opened = refl; input = refl; owed = refl; queues = λ u. lag_itself (queue_of s u); bytes = λ u i m busy has. refl }

-- bytes are written to a memory that no buffer uses
written_lag : (s : LocalState) (n : ℕ) (new : List ℕ) → is_in_use s n ≡ false → IsLag s (record s { memories = set s.memories n new })
written_lag s n new free = record {
  model = refl;
  opened = refl;
  input = refl;
  owed = refl;
  queues = λ u. lag_itself (queue_of s u);
  bytes = λ u i m busy has. get_or-set_other s.memories n m new []
      (λ same. true≢false (sym (used_from s (place_in (types_of s.model) u) i n (has ∙ ap (λ k. Some k) same) busy) ∙ free));
}

first_in : (P : ℕ → Type 0) (xs : List ℕ) → is_empty xs ≡ false → All P xs → P (slice_index xs 0)
first_in P [] some all = absurd (true≢false some)
first_in P (x ∷ xs) some all = All-head P x xs all

taken_lag : (q : QueueState) → IsThere Done q (first_done q) → IsLagQueue q (taken_back q)
taken_lag q there =
    let k : ℕ = first_done q in
    let b : Buffer = made_idle (buffer_of q k) in
    record {
      format = refl;
      memory = refl;
      streaming = refl;
      queued = refl;
      sequence = refl;
      many = length-set q.buffers k b;
      buffers = λ i. elim (cases_eq i k) as (λ _. IsLagBuffer (buffer_of q i) (get_or (set q.buffers k b) i no_buffer)) [
        | inl same ↦ subst (λ j. IsLagBuffer (buffer_of q j) (get_or (set q.buffers k b) j no_buffer)) (sym same) (inr (there.1, get_or-set_same q.buffers k b no_buffer there.0))
        | inr far ↦ inl (get_or-set_other q.buffers k i b no_buffer far)
      ];
    }

dqbuf_lag : (s : LocalState) (t : ℕ) → IsReached s → has_type s.model t ≡ true → is_empty (queue_of s t).done ≡ false → IsLag s (dqbuf_row s t).next
unfolding dqbuf_row
dqbuf_lag s t reached has some =
    let q : QueueState = queue_of s t in
    let p : ℕ = place_in (types_of s.model) t in
    let within : p < length s.queues = omega (arith, ltb-true p (length (types_of s.model)) has, many_queues s reached) in
    let there : IsThere Done q (first_done q) = first_in (IsThere Done q) q.done some ((are_there s reached).0 t).1 in
    record {
      model = refl;
      opened = refl;
      input = refl;
      owed = refl;
      queues = λ u. elim (cases_eq (place_in (types_of s.model) u) p) as (λ _. IsLagQueue (queue_of s u) (get_or (set s.queues p (taken_back q)) (place_in (types_of s.model) u) opening_queue)) [
        | inl same ↦
            subst (λ k. IsLagQueue (get_or s.queues k opening_queue) (get_or (set s.queues p (taken_back q)) k opening_queue)) (sym same)
            (subst (λ v. IsLagQueue q v) (sym (get_or-set_same s.queues p (taken_back q) opening_queue within)) (taken_lag q there))
        | inr far ↦
            subst (λ v. IsLagQueue (queue_of s u) v) (sym (get_or-set_other s.queues p (place_in (types_of s.model) u) (taken_back q) opening_queue far)) (lag_itself (queue_of s u))
      ];
      bytes = λ u i m busy has. refl;
    }

ualloc_lag : (s : LocalState) (line : ℕ) (u : List ℕ) (len off : ℕ) → IsReached s → IsLag s (ualloc_row s line u len off).next
unfolding ualloc_row
ualloc_lag s line u len off reached = record {
  model = refl;
  opened = refl;
  input = refl;
  owed = refl;
  queues = λ w. lag_itself (queue_of s w);
  bytes = λ w i m busy has. get_or_append_left s.memories _ [] m (number_made s (facts_of s reached).sound (place_in (types_of s.model) w) i m has);
}

row_lag : (s : LocalState) (line addr : ℕ) (call : Call) → may_cross call ≡ false → IsReached s → first_refusal (row_of s line addr call).refusals ≡ None →
    (row_of s line addr call).waits ≡ false → IsLag s (row_of s line addr call).next
unfolding dqbuf_row read_row hash_row write_row fill_row dqevent_row
row_lag s line addr (OpenHandle nonblock) own reached pass go = absurd (true≢false own)
row_lag s line addr CloseHandle own reached pass go = absurd (true≢false own)
row_lag s line addr QueryCap own reached pass go = absurd (true≢false own)
row_lag s line addr (EnumFmt t i) own reached pass go = absurd (true≢false own)
row_lag s line addr (GFmt t) own reached pass go = absurd (true≢false own)
row_lag s line addr (TryFmt t f w h) own reached pass go = absurd (true≢false own)
row_lag s line addr (SFmt t f w h) own reached pass go = absurd (true≢false own)
row_lag s line addr (EnumInput i) own reached pass go = absurd (true≢false own)
row_lag s line addr GInput own reached pass go = absurd (true≢false own)
row_lag s line addr (SInput i) own reached pass go = absurd (true≢false own)
row_lag s line addr (ReqBufs t m n) own reached pass go = absurd (true≢false own)
row_lag s line addr (QueryBuf t i) own reached pass go = absurd (true≢false own)
row_lag s line addr (UAlloc u len off) own reached pass go = ualloc_lag s line u len off reached
row_lag s line addr (QBuf t i user used ts) own reached pass go = absurd (true≢false own)
row_lag s line addr (StreamOn t) own reached pass go = absurd (true≢false own)
row_lag s line addr (StreamOff t) own reached pass go = absurd (true≢false own)
row_lag s line addr (DqBuf t) own reached pass go = dqbuf_lag s t reached (not-false _ (passes (dqbuf_row s t).refusals pass 1)) go
row_lag s line addr (Mmap m t i ro) own reached pass go = absurd (true≢false own)
row_lag s line addr (Munmap m) own reached pass go = absurd (true≢false own)
row_lag s line addr (Peek m off len) own reached pass go = no_lag s
row_lag s line addr (Hash m) own reached pass go = no_lag s
row_lag s line addr (Poke m off bytes) own reached pass go =
    written_lag s (memory_of (named s m)) _ (passes (write_row s m off bytes).refusals pass 3)
row_lag s line addr (Fill m seed) own reached pass go =
    written_lag s (memory_of (named s m)) _ (passes (fill_row s m seed).refusals pass 2)
row_lag s line addr (Subscribe e) own reached pass go = absurd (true≢false own)
row_lag s line addr (Unsubscribe e) own reached pass go = absurd (true≢false own)
row_lag s line addr DqEvent own reached pass go =
    record { model = refl; opened = refl; input = refl; owed = refl; queues = λ u. lag_itself (queue_of s u); bytes = λ u i m busy has. refl }

pub call_lag : (s t : LocalState) (line : ℕ) (call : Call) (reply : Reply) → may_cross call ≡ false → IsReached s → IsCall s line call reply t → IsLag s t
unfolding called
call_lag s t line call reply own reached leads =
    let r : Row = row_for s line call reply in
    elim (answered_by (first_refusal r.refusals) r s reply t leads) as (λ _. IsLag s t) [
      | inl same ↦ subst (λ x. IsLag s x) (sym same) (no_lag s)
      | inr went ↦ subst (λ x. IsLag s x) (sym went.3) (row_lag s line (address_in reply) call own reached went.0 went.1)
    ]

-- ---- a session stands for the later state too

lag_record : (s t : LocalState) (u : ℕ) (r : BufferRec) → IsLag s t → IsThere AsQueued (queue_of s u) r.index → IsRecordOf s u r → IsRecordOf t u r
lag_record s t u r lag there is =
    let b : buffer_of (queue_of s u) r.index ≡ buffer_of (queue_of t u) r.index = sym (lag_queued s t u r.index lag there.1) in
    record {
      kind = is.kind;
      memory = is.memory ∙ ap (λ k. memory_number k) (sym (lag.queues u).memory);
      place = is.place;
      size = is.size ∙ ap (λ (c : Buffer). c.length) b;
      told = λ source.
          let told : IsPictureTold r (buffer_of (queue_of s u) r.index) = is.told (ap (λ m. is_source m u) (sym lag.model) ∙ source) in
          record {
            used = told.used ∙ ap (λ (c : Buffer). c.used) b;
            seconds = told.seconds ∙ ap (λ (c : Buffer). seconds_of c.timestamp) b;
            micros = told.micros ∙ ap (λ (c : Buffer). micros_of c.timestamp) b;
          };
      unmarked = ap (λ (c : Buffer). c.is_bad) (sym b) ∙ is.unmarked;
    }

lag_memory_at : (s t : LocalState) (u i : ℕ) (h : Held) → IsReached s → IsReached t → IsLag s t → IsThere AsQueued (queue_of s u) i → IsMemoryAt s u i h → IsMemoryAt t u i h
lag_memory_at s t u i h reached there lag queued is =
    let same : buffer_of (queue_of t u) i ≡ buffer_of (queue_of s u) i = lag_queued s t u i lag queued.1 in
    let number : memory_at s u i ≡ memory_at t u i = ap (λ (c : Buffer). number_of c) (sym same) in
    let P : ℕ → Type 0 = λ m. IsMemory t m h.mem in
    let here : IsMemory t (memory_at s u i) h.mem = record {
      bytes = is.memory.bytes ∙ sym (busy_bytes s t u i reached lag (ap is_idle queued.1) same);
      frame = λ device. is.memory.frame (sym (lag_device s t reached there lag (memory_at s u i)) ∙ device);
    } in
    record { queue = is.queue; index = is.index; memory = subst P number here }

empty_many : (bs cs : List Buffer) → length cs ≡ length bs → is_empty cs ≡ is_empty bs
empty_many [] [] long = refl
empty_many [] (c ∷ cs) long = absurd (omega (arith, long))
empty_many (b ∷ bs) [] long = absurd (omega (arith, long))
empty_many (b ∷ bs) (c ∷ cs) long = refl

lengths_same : (q v : QueueState) → IsLagQueue q v → map (λ (b : Buffer). b.length) v.buffers ≡ map (λ (b : Buffer). b.length) q.buffers
lengths_same q v lag =
    let f : Buffer → ℕ = λ b. b.length in
    lists_same 0 0 (map f v.buffers) (map f q.buffers) (length-map v.buffers f ∙ (lag.many ∙ sym (length-map q.buffers f)))
    (λ k within. get_or-map f v.buffers k no_buffer ∙ (lag_length (buffer_of q k) (buffer_of v k) (lag.buffers k) ∙ sym (get_or-map f q.buffers k no_buffer)))

lag_on : (frames : List ℕ) (session : SessionState) (s t : LocalState) (u : ℕ) → IsReached s → IsReached t → IsLag s t → IsAway session t → StandsOn frames session s u →
    StandsOn frames session t u
lag_on frames session s t u reached there lag away on =
    let q : QueueState = queue_of s u in
    let v : QueueState = queue_of t u in
    let l : IsLagQueue q v = lag.queues u in
    let those : All (λ (r : BufferRec). IsThere AsQueued q r.index) (waiting session u) = waiting_there frames session s u reached on in
    let these : All (λ (b : Queued). IsThere AsQueued q b.buffer.index) (session_queue session u).queued = queued_there frames session s u reached on in
    record {
      format = on.format ∙ sym l.format;
      kind = λ some. on.kind (sym (empty_many q.buffers v.buffers l.many) ∙ some) ∙ ap (λ k. memory_number k) (sym l.memory);
      lengths = on.lengths ∙ sym (lengths_same q v l);
      streaming = on.streaming ∙ sym l.streaming;
      sequence = on.sequence ∙ sym l.sequence;
      order = on.order ∙ sym l.queued;
      records = λ k d within. lag_record s t u (get_or (waiting session u) k d) lag (those k d within) (on.records k d within);
      memories = λ k d within.
          let b : Queued = get_or (session_queue session u).queued k d in
          lag_memory_at s t u b.buffer.index b.held reached there lag (these k d within) (on.memories k d within);
      out = away u;
      numbered = λ device i within.
          lag_memory (buffer_of q i) (buffer_of v i) (l.buffers i)
          ∙ on.numbered (ap (λ k. is_user_ptr k) (sym l.memory) ∙ device) i (omega (arith, within, l.many));
    }

lag_stands : (frames : List ℕ) (session : SessionState) (s t : LocalState) → IsReached s → IsReached t → IsLag s t → IsAway session t → Stands frames session s →
    Stands frames session t
lag_stands frames session s t reached there lag away stands = record {
  opened = lag.opened ∙ stands.opened;
  model = stands.model ∙ sym lag.model;
  input = stands.input ∙ sym lag.input;
  count = stands.count ∙ (many_queues s reached ∙ (ap (λ m. length (types_of m)) (sym lag.model) ∙ sym (many_queues t there)));
  made = stands.made;
  took = subst (λ m. IfSome session.running (λ r. map (λ (x : BufferRec). x.kind) (taken_by (Some r)) ≡ types_of m)) (sym lag.model) stands.took;
  each = λ u. lag_on frames session s t u reached there lag away (stands.each u);
}

-- those that a job took are busy in the later state
still_taken : (s t : LocalState) (rs : List BufferRec) → IsLag s t → All (λ (r : BufferRec). IsThere AsQueued (queue_of s r.kind) r.index) rs → All (IsBusy t) rs
still_taken s t rs lag all = λ k d within.
    let r : BufferRec = get_or rs k d in
    ap (λ (b : Buffer). is_idle b.state) (lag_queued s t r.kind r.index lag (all k d within).1) ∙ ap is_idle (all k d within).1

pub own_calls : (frames : List ℕ) (session : SessionState) (r s u : LocalState) (line : ℕ) (call : Call) (reply : Reply) (earlier : List Unsent) →
    Stands frames session s → IsSound session → IsReached r → LeadAll session.id r (earlier ++ session.unsent) s → may_cross call ≡ false → IsCall r line call reply u →
    (ahead : LocalState) × LeadAll session.id u (earlier ++ session.unsent) ahead × Stands frames session ahead × (ahead.owed ≡ s.owed)
    × ((job : JobParts) → IsNext s job → IsNext ahead job)
own_calls frames session r s u line call reply earlier stands sound reached leads own calls =
    let lag : IsLag r u = call_lag r u line call reply own reached calls in
    let there : IsReached u = reached_after r u (Called line call reply) reached calls in
    let w : _ = lead_all session.id (earlier ++ session.unsent) r u s reached there lag leads in
    let P : Unsent → Type 0 = λ e. IsBusyFor w.0 e.msg in
    let unsent : All P session.unsent = all_behind P earlier session.unsent (under_way session.id (earlier ++ session.unsent) u w.0 there w.1) in
    let running : All (IsBusy w.0) (taken_by session.running) = still_taken s w.0 (taken_by session.running) w.2 (taken_queued frames session s stands w.3) in
    let away : IsAway session w.0 = away_is session w.0 sound unsent running in (
      w.0,
      w.1,
      lag_stands frames session s w.0 w.3 w.4 w.2 away stands,
      w.2.owed,
      λ job next. next_alike s w.0 job (lag_next s w.0 w.3 w.4 next.possible w.2) next,
    )
