-- No more than 64 messages of a handle are under way.
use Rattle.std.proofs.Common.{◌≡◌, ◌⊎◌, ℕ, zero, suc, ◌+◌, ◌*◌, ◌<◌, ◌≤◌, Bool, true, false, not, List, [], ◌∷◌, ◌++◌, Option, Some, None, length, get_or, set, map, drop, refl, sym, ap, ◌∙◌, subst, arith, inl, inr, eqb, if◌then◌else◌, length-append}
use Rattle.std.specs.Prelude.{◌&&◌}
use Rattle.std.specs.List.{All, filter, list_all}
use Rattle.std.specs.Option.{option_and_then}
use Rattle.std.proofs.lemmas.Bool.{false≢true, cases_eq, cases_lt, cond-true, cond-false, eq-eqb, ne_eqb, eqb-true, and_parts}
use Rattle.std.proofs.lemmas.List.{length-map, get_or_past}
use Rattle.std.proofs.lemmas.List.Elements.{All-head, All-tail}
use Rattle.std.proofs.lemmas.Option.{same_Some}
use Rattle.std.proofs.Math.ListN.{get_or-map}
use Rattle.v4l_const.specs.declared.model.Model.{Model}
use Rattle.v4l_const.specs.declared.numbers.TheConstants.{BUF_TYPE_CAPTURE, BUF_TYPE_OUTPUT}
use Rattle.v4l_const.specs.declared.model.Model.TheVariants.{Capture, Convert}
use Rattle.v4l_const.specs.Model.{queues as types_of, picture_queue, source_queue, has_events}
use Rattle.v4l_format.specs.Fmt.{picture_size}
use Rattle.v4l_rules.specs.Queues.{place_in}
use Rattle.v4l_rules.specs.Refusals.{first_refusal}
use Rattle.vm_wire.specs.declared.event.EventMsg.{EventMsg}
use Rattle.vm_wire.specs.declared.event.EventMsg.TheVariants.{Dequeued, Happened}
use Rattle.vm_local.specs.declared.buffer.Buffer.{Buffer}
use Rattle.vm_local.specs.declared.buffer.BufferState.{BufferState}
use Rattle.vm_local.specs.declared.buffer.BufferState.TheVariants.{Idle, Queued, Owed as AsOwed, Done as AsDone}
use Rattle.vm_local.specs.declared.call.Call.{Call}
use Rattle.vm_local.specs.declared.call.Call.TheVariants.{OpenHandle, CloseHandle, QueryCap, EnumFmt, GFmt, TryFmt, SFmt, EnumInput, GInput, SInput, ReqBufs, QueryBuf, UAlloc, QBuf, StreamOn, StreamOff, DqBuf, Mmap, Munmap, Peek, Hash, Poke, Fill, Subscribe, Unsubscribe, DqEvent}
use Rattle.vm_local.specs.declared.entry.Entry.{Entry}
use Rattle.vm_local.specs.declared.entry.Entry.TheVariants.{Called, Finish, Bad, Give}
use Rattle.vm_local.specs.declared.owed.Owed.{Owed}
use Rattle.vm_local.specs.declared.owed.OwedItem.{OwedItem}
use Rattle.vm_local.specs.declared.owed.OwedItem.TheVariants.{Buffer as OwedBuffer, Sync}
use Rattle.vm_local.specs.State.{QueueState, LocalState, opening, opening_queue, queue_of, no_buffer, buffer_of, with_buffer}
use Rattle.vm_local.specs.Same.{address_in}
use Rattle.vm_local.specs.Queue.{is_empty, can_finish, with_buffers}
use Rattle.vm_local.specs.Calls.{Row, row_of, querycap_row, enumfmt_row, gfmt_row, tryfmt_row, sfmt_row, enuminput_row, ginput_row, sinput_row, reqbufs_row, querybuf_row, ualloc_row, qbuf_row, streamon_row, streamoff_row, dqbuf_row, mmap_row, munmap_row, read_row, hash_row, write_row, fill_row, subscribe_row, unsubscribe_row, dqevent_row}
use Rattle.vm_local.specs.Listed.{is_queued, is_with_device, is_index, times, times_owed, once, IsThere, IsOwedThere, AreThere}
use Rattle.vm_local.specs.Kinds.{is_done}
use Rattle.vm_local.specs.Steps.{head, target, heads_taken, with_used, taken, next_timestamp, with_target_used, sync_of, buffers_taken, item_given, counted}
use Rattle.vm_local.specs.Log.{row_for, called, after, replay_from}
use Rattle.vm_local.proofs.StepLemmas.{answered_by, finished_by, failed_by, given_by, frame_made, frame_failed, kept_by_all}
use Rattle.vm_local.proofs.CountLemmas.{times_cons, owed_cons}
use Rattle.vm_local.proofs.FewLemmas.{few_buffers}
use Rattle.vm_local.proofs.ListedLemmas.{listed_log}
use Rattle.vm_local.proofs.ShortLemmas.{queued_short}
use Rattle.vm_home.specs.Reached.{IsReached}
use Rattle.vm_commute.proofs.ReachedLemmas.{many_queues, reached_after}
use Rattle.vm_home.proofs.FactLemmas.{facts_of}
use Rattle.vm_stands.proofs.AheadLemmas.{reached_all}
use Rattle.vm_stands.proofs.FlightLemmas.{leads_replay}
use Rattle.vm_exchange.specs.Messages.{made_by, is_first, is_marked, frame_step}
use Rattle.vm_session.specs.declared.unsent.Unsent.{Unsent}
use Rattle.vm_session.specs.State.{SessionState}
use Rattle.vm_stands.specs.Flight.{LeadAll, Leads, stops_queues}
use Rattle.vm_stands.specs.Slice.{LeadAhead, LeadWith}
use Rattle.vm_realm.specs.Inner.{Inner, driver_state, id_in}
use Rattle.vm_realm.specs.Slice.{Slice, unsent_by, earlier_of}
use Rattle.vm_realm.specs.Sound.{IsSeated, IsSoundSlice}

-- ---- what is owed of an event is followed by its buffer

abbrev pub IsBufferOf : ℕ → List Owed → Type 0
IsBufferOf t [] = ⊥
IsBufferOf t (o ∷ os) = (o.queue ≡ t) × ((i : ℕ) × (o.item ≡ OwedBuffer i))

-- an event is owed by a model that has events
abbrev pub IsPaired : Model → ℕ → OwedItem → List Owed → Type 0
IsPaired m t (OwedBuffer i) os = Unit {0}
IsPaired m t (Sync frame) os = (has_events m ≡ true) × IsBufferOf t os

abbrev pub ArePaired : Model → List Owed → Type 0
ArePaired m [] = Unit {0}
ArePaired m (o ∷ os) = IsPaired m o.queue o.item os × ArePaired m os

abbrev pub one_buffer : OwedItem → ℕ
one_buffer (OwedBuffer i) = 1
one_buffer (Sync frame) = 0

abbrev pub one_event : OwedItem → ℕ
one_event (OwedBuffer i) = 0
one_event (Sync frame) = 1

abbrev pub buffers_in : List Owed → ℕ
buffers_in [] = 0
buffers_in (o ∷ os) = one_buffer o.item + buffers_in os

abbrev pub events_in : List Owed → ℕ
events_in [] = 0
events_in (o ∷ os) = one_event o.item + events_in os

one_kind : (item : OwedItem) → one_buffer item + one_event item ≡ 1
one_kind (OwedBuffer i) = refl
one_kind (Sync frame) = refl

all_kinds : (os : List Owed) → buffers_in os + events_in os ≡ length os
all_kinds [] = refl
all_kinds (o ∷ os) = omega (arith, one_kind o.item, all_kinds os)

sync_or_buffer : (frame i : ℕ) → Sync frame ≡ OwedBuffer i → ⊥
sync_or_buffer frame i same = cc

-- there are no more events than buffers, and fewer where a buffer comes first
events_both : (m : Model) (os : List Owed) → ArePaired m os → (events_in os ≤ buffers_in os) × ((t : ℕ) → IsBufferOf t os → events_in os + 1 ≤ buffers_in os)
events_both m [] paired = (omega arith, λ t is. absurd is)
events_both m (o ∷ os) paired = by_item o.item refl paired.0 (events_both m os paired.1)
  where
    by_item : (item : OwedItem) → o.item ≡ item → IsPaired m o.queue item os → (events_in os ≤ buffers_in os) × ((t : ℕ) → IsBufferOf t os → events_in os + 1 ≤ buffers_in os) →
        (one_event o.item + events_in os ≤ one_buffer o.item + buffers_in os) × ((t : ℕ) → IsBufferOf t (o ∷ os) → (one_event o.item + events_in os) + 1 ≤ one_buffer o.item + buffers_in os)
    by_item (OwedBuffer i) is pair rest =
        let one = ap one_buffer is in
        let none = ap one_event is in
        let few = rest.0 in
        (omega (arith, one, none, few), λ t first. omega (arith, one, none, few))
    by_item (Sync frame) is pair rest =
        let one = ap one_event is in
        let none = ap one_buffer is in
        let fewer = rest.1 o.queue pair.1 in
        (omega (arith, one, none, fewer), λ t first. absurd (sync_or_buffer frame first.1.0 (sym is ∙ first.1.1)))

-- a model without events owes none
events_none : (m : Model) (os : List Owed) → has_events m ≡ false → ArePaired m os → events_in os ≡ 0
events_none m [] none paired = refl
events_none m (o ∷ os) none paired = by_item o.item refl paired.0 (events_none m os none paired.1)
  where
    by_item : (item : OwedItem) → o.item ≡ item → IsPaired m o.queue item os → events_in os ≡ 0 → one_event o.item + events_in os ≡ 0
    by_item (OwedBuffer i) is pair rest = let zero_of = ap one_event is in omega (arith, zero_of, rest)
    by_item (Sync frame) is pair rest = absurd (false≢true (sym none ∙ pair.0))

-- ---- each entry keeps it

buffer_front : (t : ℕ) (xs ys : List Owed) → IsBufferOf t xs → IsBufferOf t (xs ++ ys)
buffer_front t [] ys is = absurd is
buffer_front t (o ∷ xs) ys is = is

paired_front : (m : Model) (t : ℕ) (item : OwedItem) (xs ys : List Owed) → IsPaired m t item xs → IsPaired m t item (xs ++ ys)
paired_front m t (OwedBuffer i) xs ys pair = tt
paired_front m t (Sync frame) xs ys pair = (pair.0, buffer_front t xs ys pair.1)

paired_both : (m : Model) (xs ys : List Owed) → ArePaired m xs → ArePaired m ys → ArePaired m (xs ++ ys)
paired_both m [] ys first rest = rest
paired_both m (o ∷ xs) ys first rest = (paired_front m o.queue o.item xs ys first.0, paired_both m xs ys first.1 rest)

-- what is owed of other queues
abbrev others : ℕ → List Owed → List Owed
others t os = filter (λ o. not (eqb o.queue t)) os

others_first : (u t : ℕ) (xs : List Owed) → ¬ (u ≡ t) → IsBufferOf u xs → IsBufferOf u (others t xs)
others_first u t [] apart is = absurd is
others_first u t (o ∷ xs) apart is =
    subst (IsBufferOf u) (sym (cond-true (not (eqb o.queue t)) (o ∷ others t xs) (others t xs) (ap not (ne_eqb o.queue t (λ same. apart (sym is.0 ∙ same)))))) is

others_pair : (m : Model) (u t : ℕ) (item : OwedItem) (xs : List Owed) → ¬ (u ≡ t) → IsPaired m u item xs → IsPaired m u item (others t xs)
others_pair m u t (OwedBuffer i) xs apart pair = tt
others_pair m u t (Sync frame) xs apart pair = (pair.0, others_first u t xs apart pair.1)

others_paired : (m : Model) (t : ℕ) (os : List Owed) → ArePaired m os → ArePaired m (others t os)
others_paired m t [] paired = tt
others_paired m t (o ∷ os) paired = elim (cases_eq o.queue t) [
  | inl same ↦ subst (ArePaired m) (sym (cond-false (not (eqb o.queue t)) (o ∷ others t os) (others t os) (ap not (eq-eqb o.queue t same)))) (others_paired m t os paired.1)
  | inr apart ↦ subst (ArePaired m) (sym (cond-true (not (eqb o.queue t)) (o ∷ others t os) (others t os) (ap not (ne_eqb o.queue t apart))))
      (others_pair m o.queue t o.item os apart paired.0, others_paired m t os paired.1)
]

abbrev pub OwesPairs : LocalState → Type 0
OwesPairs s = ArePaired s.model s.owed

row_pairs : (s : LocalState) (line addr : ℕ) (call : Call) → OwesPairs s → OwesPairs (row_of s line addr call).next
unfolding querycap_row enumfmt_row gfmt_row tryfmt_row sfmt_row enuminput_row ginput_row sinput_row reqbufs_row querybuf_row ualloc_row qbuf_row streamon_row streamoff_row dqbuf_row mmap_row munmap_row read_row hash_row write_row fill_row subscribe_row unsubscribe_row dqevent_row with_buffers
row_pairs s line addr (OpenHandle nonblock) pairs = tt
row_pairs s line addr CloseHandle pairs = tt
row_pairs s line addr QueryCap pairs = pairs
row_pairs s line addr (EnumFmt t i) pairs = pairs
row_pairs s line addr (GFmt t) pairs = pairs
row_pairs s line addr (TryFmt t f w h) pairs = pairs
row_pairs s line addr (SFmt t f w h) pairs = pairs
row_pairs s line addr (EnumInput i) pairs = pairs
row_pairs s line addr GInput pairs = pairs
row_pairs s line addr (SInput i) pairs = pairs
row_pairs s line addr (ReqBufs t m n) pairs = others_paired s.model t s.owed pairs
row_pairs s line addr (QueryBuf t i) pairs = pairs
row_pairs s line addr (UAlloc u len off) pairs = pairs
row_pairs s line addr (QBuf t i user used ts) pairs = pairs
row_pairs s line addr (StreamOn t) pairs = pairs
row_pairs s line addr (StreamOff t) pairs = others_paired s.model t s.owed pairs
row_pairs s line addr (DqBuf t) pairs = pairs
row_pairs s line addr (Mmap m t i ro) pairs = pairs
row_pairs s line addr (Munmap m) pairs = pairs
row_pairs s line addr (Peek m off len) pairs = pairs
row_pairs s line addr (Hash m) pairs = pairs
row_pairs s line addr (Poke m off bytes) pairs = pairs
row_pairs s line addr (Fill m seed) pairs = pairs
row_pairs s line addr (Subscribe e) pairs = pairs
row_pairs s line addr (Unsubscribe e) pairs = pairs
row_pairs s line addr DqEvent pairs = pairs

buffers_paired : (m : Model) (s : LocalState) → s.model ≡ m → ArePaired m (buffers_taken s)
buffers_paired m s is = each_paired (types_of s.model)
  where
    each_paired : (ts : List ℕ) → ArePaired m (map (λ t. record { queue = t; item = OwedBuffer (head (queue_of s t)) }) ts)
    each_paired [] = tt
    each_paired (t ∷ ts) = (tt, each_paired ts)

frame_paired : (m : Model) (s : LocalState) → s.model ≡ m → ArePaired m (sync_of s ++ buffers_taken s)
frame_paired Convert s is = subst (λ xs. ArePaired Convert (xs ++ buffers_taken s)) (sym (ap (λ m. if has_events m then record { queue = picture_queue s.model; item = Sync (target s).next_sequence } ∷ [] else []) is)) (buffers_paired Convert s is)
frame_paired Capture s is =
    let events : sync_of s ≡ record { queue = picture_queue Capture; item = Sync (target s).next_sequence } ∷ [] =
    (λ j. if has_events (is j) then record { queue = picture_queue (is j); item = Sync (target s).next_sequence } ∷ [] else []) in
    let buffers : buffers_taken s ≡ record { queue = picture_queue Capture; item = OwedBuffer (head (queue_of s (picture_queue Capture))) } ∷ [] =
    ap (λ m. map (λ t. record { queue = t; item = OwedBuffer (head (queue_of s t)) }) (types_of m)) is in
    subst (ArePaired Capture) (λ j. sym events j ++ sym buffers j) ((refl, (refl, (head (queue_of s (picture_queue Capture)), refl))), (tt, tt))

item_pairs : (s : LocalState) (t : ℕ) (item : OwedItem) → OwesPairs s → OwesPairs (item_given s t item)
item_pairs s t (OwedBuffer i) pairs = pairs
item_pairs s t (Sync frame) pairs =
    elim s.subscribed as (λ b. OwesPairs (if b then record s { events = s.events ++ (record { frame = frame; number = s.next_event }) ∷ []; next_event = counted s.next_event } else s)) [
      | true ↦ pairs
      | false ↦ pairs
    ]

rest_pairs : (m : Model) (os : List Owed) (o : Owed) (rest : List Owed) → os ≡ o ∷ rest → ArePaired m os → ArePaired m rest
rest_pairs m os o rest is paired = (subst (ArePaired m) is paired).1

entry_pairs : (s t : LocalState) (e : Entry) → OwesPairs s → after s e ≡ Some t → OwesPairs t
unfolding called
entry_pairs s t (Called line call reply) pairs goes =
    let r : Row = row_for s line call reply in
    elim (answered_by (first_refusal r.refusals) r s reply t goes) as (λ _. OwesPairs t) [
      | inl stays ↦ subst OwesPairs (sym stays) pairs
      | inr went ↦ subst OwesPairs (sym went.3) (row_pairs s line (address_in reply) call pairs)
    ]
entry_pairs s t Finish pairs goes =
    subst OwesPairs (sym (finished_by s t goes).1) (paired_both s.model s.owed (sync_of s ++ buffers_taken s) pairs (frame_paired s.model s refl))
entry_pairs s t Bad pairs goes = subst OwesPairs (sym (failed_by s t goes).1) (paired_both s.model s.owed (buffers_taken s) pairs (buffers_paired s.model s refl))
entry_pairs s t Give pairs goes =
    let gave = given_by s t goes in
    subst OwesPairs (sym gave.3) (item_pairs (record s { owed = gave.1 }) gave.0.queue gave.0.item (rest_pairs s.model s.owed gave.0 gave.1 gave.2 pairs))

pairs_are : (s : LocalState) → IsReached s → OwesPairs s
pairs_are s (m, log, leads) = kept_by_all OwesPairs entry_pairs log (opening m) s tt leads

-- ---- what is queued and owed of one queue

abbrev pub indices_by : OwedItem → List ℕ → List ℕ
indices_by (OwedBuffer i) is = i ∷ is
indices_by (Sync frame) is = is

-- the indices of the queue's buffers that are owed
abbrev pub indices_of : ℕ → List Owed → List ℕ
indices_of t [] = []
indices_of t (o ∷ os) = if eqb o.queue t then indices_by o.item (indices_of t os) else indices_of t os

indices_times : (t i : ℕ) (os : List Owed) → times (indices_of t os) i ≡ times_owed os t i
indices_times t i [] = refl
indices_times t i (o ∷ os) = by_test (eqb o.queue t) refl o.item refl (indices_times t i os)
  where
    by_test : (b : Bool) → eqb o.queue t ≡ b → (item : OwedItem) → o.item ≡ item → times (indices_of t os) i ≡ times_owed os t i →
        times (if b then indices_by o.item (indices_of t os) else indices_of t os) i ≡ times_owed (o ∷ os) t i
    by_test false off item is rest =
        let none : once (eqb o.queue t && is_index o.item i) ≡ 0 = ap (λ b. once (b && is_index o.item i)) off in
        omega (arith, none, rest, owed_cons o os t i)
    by_test true on (OwedBuffer k) is rest =
        let one : once (eqb o.queue t && is_index o.item i) ≡ once (eqb k i) = (λ j. once (on j && is_index (is j) i)) in
        let all = ap (λ item. times (indices_by item (indices_of t os)) i) is in
        omega (arith, one, all, rest, owed_cons o os t i, times_cons k (indices_of t os) i)
    by_test true on (Sync frame) is rest =
        let none : once (eqb o.queue t && is_index o.item i) ≡ 0 = (λ j. once (on j && is_index (is j) i)) in
        let all = ap (λ item. times (indices_by item (indices_of t os)) i) is in
        omega (arith, none, all, rest, owed_cons o os t i)

times_both : (xs ys : List ℕ) (i : ℕ) → times (xs ++ ys) i ≡ times xs i + times ys i
times_both [] ys i = omega arith
times_both (x ∷ xs) ys i = omega (arith, times_cons x xs i, times_cons x (xs ++ ys) i, times_both xs ys i)

-- a buffer that is owed counts as queued
abbrev pub away_state : BufferState → BufferState
away_state Idle = Idle
away_state Queued = Queued
away_state AsOwed = Queued
away_state AsDone = AsDone

abbrev pub as_queued : Buffer → Buffer
as_queued b = record b { state = away_state b.state }

queued_sum : (st : BufferState) → once (is_queued (away_state st)) ≡ once (is_queued st) + once (is_with_device st)
queued_sum Idle = refl
queued_sum Queued = refl
queued_sum AsOwed = refl
queued_sum AsDone = refl

none_with : (st : BufferState) → once (is_with_device (away_state st)) ≡ 0
none_with Idle = refl
none_with Queued = refl
none_with AsOwed = refl
none_with AsDone = refl

done_same : (st : BufferState) → once (is_done (away_state st)) ≡ once (is_done st)
done_same Idle = refl
done_same Queued = refl
done_same AsOwed = refl
done_same AsDone = refl

-- together they are no more than the queue has buffers
pub away_few : (s : LocalState) (t : ℕ) → IsReached s → length (queue_of s t).queued + length (indices_of t s.owed) ≤ 32
away_few s t (m, log, leads) =
    let q : QueueState = queue_of s t in
    let all : List ℕ = q.queued ++ indices_of t s.owed in
    let v : QueueState = record q { queued = all; buffers = map as_queued q.buffers } in
    let at : (i : ℕ) → buffer_of v i ≡ as_queued (buffer_of q i) = λ i. get_or-map as_queued q.buffers i no_buffer in
    let listed = listed_log m log s leads in
    let short = queued_short v (λ i. 0) (λ i. (
      (let first = (listed t i).0 in
          let second = (listed t i).1 in
          let now = ap (λ (b : Buffer). once (is_queued b.state)) (at i) in
          omega (arith, first, second, now, queued_sum (buffer_of q i).state, times_both q.queued (indices_of t s.owed) i, indices_times t i s.owed)),
      sym (ap (λ (b : Buffer). once (is_with_device b.state)) (at i) ∙ none_with (buffer_of q i).state),
      (listed t i).2 ∙ sym (ap (λ (b : Buffer). once (is_done b.state)) (at i) ∙ done_same (buffer_of q i).state),
    )) in
    omega (arith, short, length-append q.queued (indices_of t s.owed), length-map q.buffers as_queued, few_buffers m log s leads t)

-- ---- how many messages may come

abbrev pub weight_of : Model → ℕ
weight_of Capture = 2
weight_of Convert = 1

abbrev pub queued_in : List QueueState → ℕ
queued_in [] = 0
queued_in (q ∷ qs) = length q.queued + queued_in qs

-- each frame has two messages, and each thing that is owed one
abbrev pub messages_left : LocalState → ℕ
messages_left s = weight_of s.model * queued_in s.queues + length s.owed

set_queued : (qs : List QueueState) (p : ℕ) (v : QueueState) → length v.queued ≡ length (get_or qs p opening_queue).queued → queued_in (set qs p v) ≡ queued_in qs
set_queued [] p v same = refl
set_queued (q ∷ qs) zero v same = omega (arith, same)
set_queued (q ∷ qs) (suc p) v same = omega (arith, set_queued qs p v same)

drop_one : (xs : List ℕ) → not (is_empty xs) ≡ true → length (drop 1 xs) + 1 ≡ length xs
drop_one [] some = absurd (false≢true some)
drop_one (x ∷ xs) some = omega arith

taken_queued : (good : Bool) (ts : ℕ) (qs : List QueueState) → list_all (λ q. q.streaming && not (is_empty q.queued)) qs ≡ true → queued_in (map (taken good ts) qs) + length qs ≡ queued_in qs
taken_queued good ts [] all = refl
taken_queued good ts (q ∷ qs) all =
    let parts : _ = and_parts (q.streaming && not (is_empty q.queued)) (list_all (λ x. x.streaming && not (is_empty x.queued)) qs) all in
    let some : not (is_empty q.queued) ≡ true = (and_parts q.streaming (not (is_empty q.queued)) parts.0).1 in
    omega (arith, drop_one q.queued some, taken_queued good ts qs parts.1)

-- what a frame leaves of the queued buffers
heads_queued : (s : LocalState) (good : Bool) (entries : List Owed) (n : ℕ) → can_finish s ≡ true → queued_in (with_target_used s n (heads_taken s good entries)).queues + length s.queues ≡ queued_in s.queues
heads_queued s good entries n may =
    let next : LocalState = heads_taken s good entries in
    let same = set_queued next.queues (place_in (types_of s.model) (picture_queue s.model)) (with_used (queue_of next (picture_queue s.model)) (head (target s)) n) refl in
    omega (arith, same, taken_queued good (next_timestamp s) s.queues may)

-- a frame's step adds no message
frame_left : (m : Model) (s t : LocalState) (events : ℕ) → s.model ≡ m → t.model ≡ m → length s.queues ≡ length (types_of m) → queued_in t.queues + length s.queues ≡ queued_in s.queues → length t.owed ≡ length s.owed + (events + length (types_of m)) →
    events + 1 ≤ weight_of m → messages_left t ≤ messages_left s
frame_left Capture s t events is goes many queued owed few =
    let before = ap (λ m. weight_of m * queued_in s.queues) is in
    let now = ap (λ m. weight_of m * queued_in t.queues) goes in
    omega (arith, before, now, many, queued, owed, few)
frame_left Convert s t events is goes many queued owed few =
    let before = ap (λ m. weight_of m * queued_in s.queues) is in
    let now = ap (λ m. weight_of m * queued_in t.queues) goes in
    omega (arith, before, now, many, queued, owed, few)

sync_few : (m : Model) (s : LocalState) → s.model ≡ m → length (sync_of s) + 1 ≤ weight_of m
sync_few Capture s is =
    let one : length (sync_of s) ≡ 1 = ap (λ m. length {A = Owed} (if has_events m then record { queue = picture_queue s.model; item = Sync (target s).next_sequence } ∷ [] else [])) is in
    omega (arith, one)
sync_few Convert s is =
    let none : length (sync_of s) ≡ 0 = ap (λ m. length {A = Owed} (if has_events m then record { queue = picture_queue s.model; item = Sync (target s).next_sequence } ∷ [] else [])) is in
    omega (arith, none)

one_most : (m : Model) → 1 ≤ weight_of m
one_most Capture = omega arith
one_most Convert = omega arith

taken_long : (s : LocalState) → length (buffers_taken s) ≡ length (types_of s.model)
taken_long s = length-map (types_of s.model) (λ t. record { queue = t; item = OwedBuffer (head (queue_of s t)) })

finish_left : (s t : LocalState) → IsReached s → after s Finish ≡ Some t → messages_left t ≤ messages_left s
finish_left s t reached goes =
    let by : (can_finish s ≡ true) × (t ≡ frame_made s) = finished_by s t goes in
    let owed : length (frame_made s).owed ≡ length s.owed + (length (sync_of s) + length (types_of s.model)) =
    length-append s.owed (sync_of s ++ buffers_taken s) ∙ ap (λ n. length s.owed + n) (length-append (sync_of s) (buffers_taken s) ∙ ap (λ n. length (sync_of s) + n) (taken_long s)) in
    let left = frame_left s.model s (frame_made s) (length (sync_of s)) refl refl (many_queues s reached)
    (heads_queued s true (sync_of s ++ buffers_taken s) (picture_size (target s).format) by.0) owed (sync_few s.model s refl) in
    subst (λ (x : LocalState). messages_left x ≤ messages_left s) (sym by.1) left

bad_left : (s t : LocalState) → IsReached s → after s Bad ≡ Some t → messages_left t ≤ messages_left s
bad_left s t reached goes =
    let by : (can_finish s ≡ true) × (t ≡ frame_failed s) = failed_by s t goes in
    let owed : length (frame_failed s).owed ≡ length s.owed + (0 + length (types_of s.model)) =
    length-append s.owed (buffers_taken s) ∙ ap (λ n. length s.owed + n) (taken_long s ∙ none (length (types_of s.model))) in
    let left = frame_left s.model s (frame_failed s) 0 refl refl (many_queues s reached)
    (heads_queued s false (buffers_taken s) 0 by.0) owed (one_most s.model) in
    subst (λ (x : LocalState). messages_left x ≤ messages_left s) (sym by.1) left
  where
    none : (n : ℕ) → n ≡ 0 + n
    none n = omega arith

item_left : (s : LocalState) (t : ℕ) (item : OwedItem) → messages_left (item_given s t item) ≡ messages_left s
item_left s t (OwedBuffer i) =
    let same = set_queued s.queues (place_in (types_of s.model) t) (record (with_buffer (queue_of s t) i (record (buffer_of (queue_of s t) i) { state = AsDone })) { done = (queue_of s t).done ++ i ∷ [] }) refl in
    ap (λ n. weight_of s.model * n + length s.owed) same
item_left s t (Sync frame) =
    elim s.subscribed as (λ b. messages_left (if b then record s { events = s.events ++ (record { frame = frame; number = s.next_event }) ∷ []; next_event = counted s.next_event } else s) ≡ messages_left s) [
      | true ↦ refl
      | false ↦ refl
    ]

give_left : (s t : LocalState) → after s Give ≡ Some t → messages_left t + 1 ≤ messages_left s
give_left s t goes =
    let gave = given_by s t goes in
    let now : messages_left t ≡ messages_left (record s { owed = gave.1 }) = ap messages_left gave.3 ∙ item_left (record s { owed = gave.1 }) gave.0.queue gave.0.item in
    let long = ap (λ (os : List Owed). length os) gave.2 in
    omega (arith, now, long)

-- ---- a message takes one of them

one_step : (o : Option LocalState) (t : LocalState) → option_and_then (λ u. replay_from u []) o ≡ Some t → o ≡ Some t
one_step None t is = is
one_step (Some u) t is = is

frame_step_left : (b : Bool) (s t : LocalState) → IsReached s → replay_from s ((if b then Bad else Finish) ∷ []) ≡ Some t → messages_left t ≤ messages_left s
frame_step_left true s t reached goes = bad_left s t reached (one_step (after s Bad) t goes)
frame_step_left false s t reached goes = finish_left s t reached (one_step (after s Finish) t goes)

made_left : (m : Model) (msg : EventMsg) (s t : LocalState) → IsReached s → replay_from s (made_by m msg) ≡ Some t → messages_left t ≤ messages_left s
made_left m (Happened session event) s t reached goes = finish_left s t reached (one_step (after s Finish) t goes)
made_left m (Dequeued session b) s t reached goes = by_first (is_first (source_queue m) m b) goes
  where
    by_first : (first : Bool) → replay_from s (if first then frame_step m b ∷ [] else []) ≡ Some t → messages_left t ≤ messages_left s
    by_first true goes = frame_step_left (is_marked m b) s t reached goes
    by_first false goes = (let same = ap messages_left (same_Some s t goes) in omega (arith, same))

lead_left : (id : ℕ) (s t : LocalState) (e : Unsent) → IsReached s → Leads id s e t → messages_left t + 1 ≤ messages_left s
lead_left id s t e reached leads = omega (arith, made_left s.model e.msg s leads.made reached leads.making, give_left leads.made t leads.given)

all_left : (id : ℕ) (es : List Unsent) (s t : LocalState) → IsReached s → LeadAll id s es t → length es ≤ messages_left s
all_left id [] s t reached leads = omega arith
all_left id (e ∷ es) s t reached (u, first, rest) =
    let next : IsReached u = reached_all _ s u reached (leads_replay id s u e first) in
    omega (arith, lead_left id s u e reached first, all_left id es u t next rest)

-- and leave those that come behind them
pub all_lower : (id : ℕ) (es : List Unsent) (s t : LocalState) → IsReached s → LeadAll id s es t → length es + messages_left t ≤ messages_left s
all_lower id [] s t reached leads = let same = ap messages_left leads in omega (arith, same)
all_lower id (e ∷ es) s t reached (u, first, rest) =
    let next : IsReached u = reached_all _ s u reached (leads_replay id s u e first) in
    omega (arith, lead_left id s u e reached first, all_lower id es u t next rest)

-- ---- they are few

-- a buffer that is owed is of a type of the model
place_one : (c t : ℕ) → place_in (c ∷ []) t < 1 → t ≡ c
place_one c t within = by_test (eqb c t) refl within
  where
    by_test : (b : Bool) → eqb c t ≡ b → (if b then 0 else 0 + 1) < 1 → t ≡ c
    by_test true is within = sym (eqb-true c t is)
    by_test false is within = absurd (omega (arith, within))

place_two : (a b t : ℕ) → place_in (a ∷ b ∷ []) t < 2 → (t ≡ a) ⊎ (t ≡ b)
place_two a b t within = by_first (eqb a t) refl (eqb b t) refl within
  where
    by_first : (x : Bool) → eqb a t ≡ x → (y : Bool) → eqb b t ≡ y → (if x then 0 else (if y then 0 else 0 + 1) + 1) < 2 → (t ≡ a) ⊎ (t ≡ b)
    by_first true is y other within = inl (sym (eqb-true a t is))
    by_first false is true other within = inr (sym (eqb-true b t other))
    by_first false is false other within = absurd (omega (arith, within))

pub owed_place : (s : LocalState) (t i : ℕ) → IsThere AsOwed (queue_of s t) i → place_in (types_of s.model) t < length s.queues
owed_place s t i there = elim (cases_lt (place_in (types_of s.model) t) (length s.queues)) [
  | inl within ↦ within
  | inr past ↦ absurd (let none = ap (λ (q : QueueState). length q.buffers) (get_or_past s.queues (place_in (types_of s.model) t) opening_queue past) in let some = there.0 in omega (arith, none, some))
]

indices_one : (c : ℕ) (os : List Owed) → All (λ o. (i : ℕ) → o.item ≡ OwedBuffer i → o.queue ≡ c) os → buffers_in os ≤ length (indices_of c os)
indices_one c [] all = omega arith
indices_one c (o ∷ os) all = by_item o.item refl (All-head (λ o. (i : ℕ) → o.item ≡ OwedBuffer i → o.queue ≡ c) o os all) (indices_one c os (All-tail (λ o. (i : ℕ) → o.item ≡ OwedBuffer i → o.queue ≡ c) o os all))
  where
    more : (b : Bool) (item : OwedItem) → length (indices_of c os) ≤ length (if b then indices_by item (indices_of c os) else indices_of c os)
    more true (OwedBuffer i) = omega arith
    more true (Sync frame) = omega arith
    more false item = omega arith

    by_item : (item : OwedItem) → o.item ≡ item → ((i : ℕ) → o.item ≡ OwedBuffer i → o.queue ≡ c) → buffers_in os ≤ length (indices_of c os) → one_buffer o.item + buffers_in os ≤ length (indices_of c (o ∷ os))
    by_item (OwedBuffer i) is own rest =
        let on : eqb o.queue c ≡ true = eq-eqb o.queue c (own i is) in
        let one = ap one_buffer is in
        all_of on is one rest
      where
        all_of : eqb o.queue c ≡ true → o.item ≡ OwedBuffer i → one_buffer o.item ≡ 1 → buffers_in os ≤ length (indices_of c os) → one_buffer o.item + buffers_in os ≤ length (indices_of c (o ∷ os))
        all_of on is one rest =
            let all : length (indices_of c (o ∷ os)) ≡ 1 + length (indices_of c os) = (λ j. length (if on j then indices_by (is j) (indices_of c os) else indices_of c os)) ∙ (let same : suc (length (indices_of c os)) ≡ 1 + length (indices_of c os) = omega arith in same) in
            omega (arith, all, one, rest)
    by_item (Sync frame) is own rest =
        let none = ap one_buffer is in
        omega (arith, none, rest, more (eqb o.queue c) o.item)

indices_two : (a b : ℕ) (os : List Owed) → All (λ o. (i : ℕ) → o.item ≡ OwedBuffer i → (o.queue ≡ a) ⊎ (o.queue ≡ b)) os → buffers_in os ≤ length (indices_of a os) + length (indices_of b os)
indices_two a b [] all = omega arith
indices_two a b (o ∷ os) all =
    by_item o.item refl (All-head (λ o. (i : ℕ) → o.item ≡ OwedBuffer i → (o.queue ≡ a) ⊎ (o.queue ≡ b)) o os all)
    (indices_two a b os (All-tail (λ o. (i : ℕ) → o.item ≡ OwedBuffer i → (o.queue ≡ a) ⊎ (o.queue ≡ b)) o os all))
  where
    more : (c : ℕ) (k : Bool) (item : OwedItem) → length (indices_of c os) ≤ length (if k then indices_by item (indices_of c os) else indices_of c os)
    more c true (OwedBuffer i) = omega arith
    more c true (Sync frame) = omega arith
    more c false item = omega arith

    one_more : (c i : ℕ) → o.queue ≡ c → o.item ≡ OwedBuffer i → length (indices_of c (o ∷ os)) ≡ suc (length (indices_of c os))
    one_more c i own is =
        let on : eqb o.queue c ≡ true = eq-eqb o.queue c own in
        λ j. length (if on j then indices_by (is j) (indices_of c os) else indices_of c os)

    of_queue : (i : ℕ) → o.item ≡ OwedBuffer i → (o.queue ≡ a) ⊎ (o.queue ≡ b) → buffers_in os ≤ length (indices_of a os) + length (indices_of b os) →
        one_buffer o.item + buffers_in os ≤ length (indices_of a (o ∷ os)) + length (indices_of b (o ∷ os))
    of_queue i is (inl own) rest =
        let one = ap one_buffer is in
        omega (arith, one, rest, one_more a i own is, more b (eqb o.queue b) o.item)
    of_queue i is (inr own) rest =
        let one = ap one_buffer is in
        omega (arith, one, rest, one_more b i own is, more a (eqb o.queue a) o.item)

    by_item : (item : OwedItem) → o.item ≡ item → ((i : ℕ) → o.item ≡ OwedBuffer i → (o.queue ≡ a) ⊎ (o.queue ≡ b)) → buffers_in os ≤ length (indices_of a os) + length (indices_of b os) →
        one_buffer o.item + buffers_in os ≤ length (indices_of a (o ∷ os)) + length (indices_of b (o ∷ os))
    by_item (OwedBuffer i) is own rest = of_queue i is (own i is) rest
    by_item (Sync frame) is own rest =
        let none = ap one_buffer is in
        omega (arith, none, rest, more a (eqb o.queue a) o.item, more b (eqb o.queue b) o.item)

one_queue : (qs : List QueueState) → length qs ≡ 1 → queued_in qs ≡ length (get_or qs 0 opening_queue).queued
one_queue [] one = absurd (omega (arith, one))
one_queue (q ∷ []) one = omega arith
one_queue (q ∷ r ∷ qs) one = absurd (omega (arith, one))

two_queues : (qs : List QueueState) → length qs ≡ 2 → queued_in qs ≡ length (get_or qs 0 opening_queue).queued + length (get_or qs 1 opening_queue).queued
two_queues [] two = absurd (omega (arith, two))
two_queues (q ∷ []) two = absurd (omega (arith, two))
two_queues (q ∷ r ∷ []) two = omega arith
two_queues (q ∷ r ∷ p ∷ qs) two = absurd (omega (arith, two))

-- the type of a buffer that is owed
owed_type : (s : LocalState) (m : Model) → s.model ≡ m → length s.queues ≡ length (types_of m) → AreThere s → All (λ (o : Owed). (i : ℕ) → o.item ≡ OwedBuffer i → place_in (types_of m) o.queue < length (types_of m)) s.owed
owed_type s m is many there = λ k d within i item.
    let o : Owed = get_or s.owed k d in
    let at : IsOwedThere s o.queue (OwedBuffer i) = subst (IsOwedThere s o.queue) item (there.1 k d within) in
    let place = owed_place s o.queue i at in
    let same = ap (λ n. place_in (types_of n) o.queue) is in
    omega (arith, place, same, many)

pub left_by : (m : Model) (s : LocalState) → s.model ≡ m → IsReached s → messages_left s ≤ 64
left_by Capture s is reached =
    let c : ℕ = picture_queue Capture in
    let many : length s.queues ≡ 1 = many_queues s reached ∙ ap (λ m. length (types_of m)) is in
    let types = owed_type s Capture is many (facts_of s reached).sound.there in
    let all : All (λ (o : Owed). (i : ℕ) → o.item ≡ OwedBuffer i → o.queue ≡ c) s.owed = λ k d within i item. place_one c (get_or s.owed k d).queue (types k d within i item) in
    let few = indices_one c s.owed all in
    let queue : queue_of s c ≡ get_or s.queues 0 opening_queue = ap (λ m. get_or s.queues (place_in (types_of m) c) opening_queue) is in
    let queued = one_queue s.queues many in
    let same = ap (λ (q : QueueState). length q.queued) queue in
    let away = away_few s c reached in
    let events = (events_both s.model s.owed (pairs_are s reached)).0 in
    let weight = ap (λ m. weight_of m * queued_in s.queues) is in
    omega (arith, few, queued, same, away, events, weight, all_kinds s.owed)
left_by Convert s is reached =
    let many : length s.queues ≡ 2 = many_queues s reached ∙ ap (λ m. length (types_of m)) is in
    let types = owed_type s Convert is many (facts_of s reached).sound.there in
    let all : All (λ (o : Owed). (i : ℕ) → o.item ≡ OwedBuffer i → (o.queue ≡ BUF_TYPE_OUTPUT) ⊎ (o.queue ≡ BUF_TYPE_CAPTURE)) s.owed =
    λ k d within i item. place_two BUF_TYPE_OUTPUT BUF_TYPE_CAPTURE (get_or s.owed k d).queue (types k d within i item) in
    let few = indices_two BUF_TYPE_OUTPUT BUF_TYPE_CAPTURE s.owed all in
    let first : queue_of s BUF_TYPE_OUTPUT ≡ get_or s.queues 0 opening_queue = ap (λ m. get_or s.queues (place_in (types_of m) BUF_TYPE_OUTPUT) opening_queue) is in
    let second : queue_of s BUF_TYPE_CAPTURE ≡ get_or s.queues 1 opening_queue = ap (λ m. get_or s.queues (place_in (types_of m) BUF_TYPE_CAPTURE) opening_queue) is in
    let queued = two_queues s.queues many in
    let same = ap (λ (q : QueueState). length q.queued) first in
    let other = ap (λ (q : QueueState). length q.queued) second in
    let away = away_few s BUF_TYPE_OUTPUT reached in
    let away_too = away_few s BUF_TYPE_CAPTURE reached in
    let events = events_none s.model s.owed (ap has_events is) (pairs_are s reached) in
    let weight = ap (λ m. weight_of m * queued_in s.queues) is in
    omega (arith, few, queued, same, other, away, away_too, events, weight, all_kinds s.owed)

-- so messages that lead on from a state are few
all_few : (id : ℕ) (es : List Unsent) (s t : LocalState) → IsReached s → LeadAll id s es t → length es ≤ 64
all_few id es s t reached leads = omega (arith, all_left id es s t reached leads, left_by s.model s refl reached)

with_few : (b : Bool) (id : ℕ) (s t : LocalState) (e : Entry) (es : List Unsent) → IsReached s → LeadWith b id s e es t → length es ≤ 64
with_few true id s t e es reached (u, leads, last) = all_few id es s u reached leads
with_few false id s t e es reached (u, first, leads) = all_few id es u t (reached_after s u e reached first) leads

ahead_few : (id : ℕ) (s t : LocalState) (executed : Option Entry) (es : List Unsent) → IsReached s → LeadAhead id s executed es t → length es ≤ 64
ahead_few id s t None es reached leads = all_few id es s t reached leads
ahead_few id s t (Some e) es reached leads = with_few (stops_queues e) id s t e es reached leads

held_long : (x : Slice) → length x.held ≤ length (earlier_of x)
held_long x = omega (arith, length-map (x.held ++ x.events) unsent_by, length-append x.held x.events)

seated_few : (o : Option SessionState) (x : Slice) (v : Inner) → IsSeated o x v → length x.held ≤ 64
seated_few None x v shut = omega (arith, held_long x, ahead_few (id_in x) (driver_state x) v.ahead v.executed (earlier_of x) shut.reached shut.leads)
seated_few (Some s) x v slice =
    let few = ahead_few s.id (driver_state x) v.ahead v.executed (earlier_of x ++ s.unsent) slice.reached slice.leads in
    omega (arith, held_long x, few, length-append (earlier_of x) s.unsent)

pub held_few : (x : Slice) (v : Inner) → IsSoundSlice x v → length x.held ≤ 64
held_few x v sound = seated_few x.session x v sound.seated
