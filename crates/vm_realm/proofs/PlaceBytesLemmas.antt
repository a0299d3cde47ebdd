-- In a sound slice each memory, wherever it is, has the bytes of the state ahead.
use Rattle.std.proofs.Common.{◌≡◌, inl, inr, ℕ, zero, suc, ◌+◌, ◌<◌, ◌≤◌, Bool, true, false, ◌==◌, List, [], ◌∷◌, ◌++◌, Option, Some, None, is_some, length, get_or, map, All, refl, sym, ap, ◌∙◌, subst, arith, if◌then◌else◌, get_or-set_same}
use Rattle.std.specs.List.{filter_map, cons_option, flat_map, range_with_len}
use Rattle.std.specs.Option.{option_to_list}
use Rattle.std.proofs.lemmas.Bool.{false≢true, true≢false, cases_Bool, eq-eqb, cond-true}
use Rattle.std.proofs.lemmas.List.{map-append, length-map}
use Rattle.std.proofs.lemmas.List.Elements.{All-head, All-tail}
use Rattle.std.proofs.lemmas.Option.{none-some}
use Rattle.v4l_const.specs.declared.errno.Errno.TheVariants.{Enomem}
use Rattle.v4l_const.specs.Model.{queues as types_of, source_queue, picture_queue}
use Rattle.v4l_format.specs.Fmt.{picture_size}
use Rattle.v4l_rules.specs.Queues.{place_in}
use Rattle.vm_frame.specs.Mem.{mem_bytes}
use Rattle.vm_frame.specs.declared.mem.Held.{Held}
use Rattle.vm_frame.specs.declared.mem.Mem.{Mem}
use Rattle.vm_job.specs.Job.{JobParts}
use Rattle.vm_lease.specs.declared.lease_out.LeaseOut.{LeaseOut}
use Rattle.vm_mem.specs.Lists.{occurrences}
use Rattle.vm_queue.specs.Buffers.{memories}
use Rattle.vm_queue.specs.declared.queued.Queued.{Queued}
use Rattle.vm_local.specs.declared.bound.MemoryKind.{MemoryKind}
use Rattle.vm_local.specs.declared.bound.MemoryKind.TheVariants.{Mmap, UserPtr}
use Rattle.vm_local.specs.declared.call.Call.{Call}
use Rattle.vm_local.specs.declared.call.Call.TheVariants.{OpenHandle, CloseHandle, ReqBufs, UAlloc, QBuf, StreamOff, Poke, Fill}
use Rattle.vm_local.specs.declared.entry.Entry.{Entry}
use Rattle.vm_local.specs.declared.entry.Entry.TheVariants.{Called, Give}
use Rattle.vm_local.specs.declared.owed.Owed.{Owed}
use Rattle.vm_local.specs.declared.owed.OwedItem.{OwedItem}
use Rattle.vm_local.specs.declared.owed.OwedItem.TheVariants.{Buffer as OwedBuffer, Sync}
use Rattle.vm_local.specs.declared.reply.Reply.{Reply}
use Rattle.vm_local.specs.State.{QueueState, LocalState, opening_queue, no_buffer, queue_of}
use Rattle.vm_local.specs.Calls.{reqbufs_row, streamoff_row}
use Rattle.vm_local.specs.Listed.{once}
use Rattle.vm_local.specs.Log.{row_for, after, called, replay_from}
use Rattle.vm_local.specs.Memory.{bytes_of, is_lent, is_just}
use Rattle.vm_local.specs.Queue.{is_user_ptr, memory_kind, granted, fresh_buffer, fresh_buffers, with_buffers}
use Rattle.vm_local.specs.Same.{address_in}
use Rattle.vm_local.specs.Steps.{number_of, item_given, head, counted}
use Rattle.vm_local.proofs.StepLemmas.{Gave, given_by, passes}
use Rattle.vm_commute.specs.Commute.{is_step, AreSteps, may_cross}
use Rattle.vm_commute.proofs.EventsLemmas.{by_first as by_one}
use Rattle.vm_home.specs.Home.{home_of, is_kept, is_out, IsThere, IsInPlace}
use Rattle.vm_home.specs.Moves.{Place, places_on, queued_on, made_on, made_by, memory_at, goes_along, is_refusal, is_stopping, stops, stopped_count, touched, AreMemories, ComeBack, ComeWith}
use Rattle.vm_home.specs.Reached.{IsReached}
use Rattle.vm_home.proofs.ComeLemmas.{renewed, reqbufs_one}
use Rattle.vm_home.proofs.DeviceLemmas.{SendsTo, qbuf_sends}
use Rattle.vm_home.proofs.FactLemmas.{Facts, facts_of, reached_after}
use Rattle.vm_home.proofs.KeptLemmas.{kept_after}
use Rattle.vm_home.proofs.MoveLemmas.{Went, went, opened_bare}
use Rattle.vm_home.proofs.OwnLemmas.{number_made}
use Rattle.vm_home.proofs.PayloadLemmas.{touches_it}
use Rattle.vm_home.proofs.PlaceLemmas.{fails, lent_at, lent_less}
use Rattle.vm_home.proofs.StepLemmas.{StepsTo, steps_to, steps_memory}
use Rattle.vm_home.proofs.StillLemmas.{leaves_call, not_out}
use Rattle.vm_home.proofs.StopLemmas.{number_at, memories_long, StopsOne}
use Rattle.vm_log.specs.LegalLog.{number_away, lease_in, IsAway}
use Rattle.vm_log.specs.declared.away.Away.{Away}
use Rattle.vm_log.specs.declared.away.Away.TheVariants.{Nothing, Sent, Lent}
use Rattle.vm_handle.specs.Handle.{IsAlong, id_of}
use Rattle.vm_handle.proofs.ReplyLemmas.{along_with, may_of}
use Rattle.vm_wire.specs.Message.{Posting, Returning}
use Rattle.vm_exchange.specs.Messages.{flight_of}
use Rattle.vm_session.specs.Buffers.{queued_memories}
use Rattle.vm_session.specs.State.{SessionState, queue_of as session_queue}
use Rattle.vm_session.specs.declared.unsent.Unsent.{Unsent}
use Rattle.vm_stands.specs.Flight.{IsHeldAt, GivesItem, GivesFirst, Leads, LeadAll}
use Rattle.vm_stands.specs.Laws.{Along, GoesAlong}
use Rattle.vm_stands.specs.Slice.{LeadWith, LeadAhead}
use Rattle.vm_stands.specs.Stands.{IsMemoryAt, Stands, IsHeadIf, IsNextIf}
use Rattle.vm_stands.proofs.AheadLemmas.{flight_steps}
use Rattle.vm_stands.proofs.FlightLemmas.{all_replay}
use Rattle.vm_realm.specs.Inner.{Inner, driver_state, under_way}
use Rattle.vm_realm.specs.Places.{sent_number, numbers_in, told_numbers, call_numbers, told_state, told_state_if, stops_last, queued_held, job_held, HaveBytes, call_held, messages_held, HasBytesAhead}
use Rattle.vm_realm.specs.Slice.{Slice, Out}
use Rattle.vm_realm.specs.Slice.Out.{Nowhere, Asked, Kept, Told, Astray}
use Rattle.vm_realm.specs.Sound.{IsSoundSlice, IsOut, IsSeated, IsPosted, IsTold}
use Rattle.vm_realm.proofs.SumLemmas.{place_within}
use Rattle.vm_realm.proofs.PlaceCallLemmas.{Crossed, crossed, refused_same}
use Rattle.vm_realm.proofs.PlaceMessageLemmas.{made_lent, memory_stays, messages_count}
use Rattle.vm_realm.proofs.PlaceOnceLemmas.{step_is, fewer_messages, Fewer, IsAhead, is_ahead, Executed, executed_is, first_open, fits_underway, none_comes, none_told, Stopped, stopped_is, refused_is, come_done}
use Rattle.vm_realm.proofs.PlaceSessionLemmas.{queues_are}
use Rattle.vm_realm.proofs.PlaceStopLemmas.{stop_count, back_numbers, split_come}

-- ---- memories that are lent to no queue

same_state : (s t : LocalState) → ◌≡◌ {A = Option LocalState} (Some s) (Some t) → t ≡ s
same_state s t same = cc

-- steps of the device leave their bytes
steps_rest : (es : List Entry) (s t : LocalState) (m : ℕ) → AreSteps es → IsReached s → replay_from s es ≡ Some t → is_lent s m ≡ false → bytes_of t m ≡ bytes_of s m
steps_rest [] s t m are reached leads unlent = ap (λ (x : LocalState). bytes_of x m) (same_state s t leads)
steps_rest (e ∷ es) s t m are reached leads unlent =
    let P : Entry → Type 0 = λ x. is_step x ≡ true in
    let by : _ = by_one s t e es leads in
    let goes : StepsTo s by.0 = steps_to s by.0 e reached (step_is e (All-head P e es are)) by.1 in
    let still : is_lent by.0 m ≡ false = fails (is_lent by.0 m) (is_lent s m) (lent_less s by.0 goes.less m) unlent in
    steps_rest es by.0 t m (All-tail P e es are) (reached_after s by.0 e reached by.1) by.2 still ∙ goes.bytes m unlent

messages_rest : (id : ℕ) (s t : LocalState) (es : List Unsent) (m : ℕ) → IsReached s → LeadAll id s es t → is_lent s m ≡ false → bytes_of t m ≡ bytes_of s m
messages_rest id s t es m reached leads unlent =
    steps_rest (flight_of s.model (map (λ (e : Unsent). e.msg) es)) s t m (flight_steps s.model (map (λ (e : Unsent). e.msg) es)) reached (all_replay id s t es leads) unlent

-- ---- lists of memories

-- the memories of these numbers were made
abbrev AreMade : LocalState → List ℕ → Type 0
AreMade s [] = Unit {0}
AreMade s (m ∷ ms) = (m < length s.memories) × AreMade s ms

counted_more : (b : Bool) (n : ℕ) → 1 ≤ n → 1 ≤ (if b then n + 1 else n)
counted_more true n some = omega arith
counted_more false n some = some

made_all : (s : LocalState) (ms : List ℕ) → ((m : ℕ) → 1 ≤ occurrences m ms → m < length s.memories) → AreMade s ms
made_all s [] each = tt
made_all s (m ∷ ms) each =
    let n : ℕ = occurrences m ms in
    let here : occurrences m (m ∷ ms) ≡ n + 1 = cond-true (m == m) (n + 1) n (eq-eqb m m refl) in (
      each m (omega (arith, here)),
      made_all s ms (λ k some. each k (counted_more (m == k) (occurrences k ms) some)),
    )

-- where a state keeps the bytes of what was made, they have those bytes in it too
bytes_later : (s t : LocalState) (ms : List ℕ) → ((m : ℕ) → m < length s.memories → bytes_of t m ≡ bytes_of s m) → AreMade s ms → map (λ m. bytes_of s m) ms ≡ map (λ m. bytes_of t m) ms
bytes_later s t [] keeps made = refl
bytes_later s t (m ∷ ms) keeps made = λ j. sym (keeps m made.0) j ∷ bytes_later s t ms keeps made.1 j

have_later : (s t : LocalState) (ms : List ℕ) (hs : List Held) → ((m : ℕ) → m < length s.memories → bytes_of t m ≡ bytes_of s m) → AreMade s ms → HaveBytes s ms hs → HaveBytes t ms hs
have_later s t ms hs keeps made have = have ∙ bytes_later s t ms keeps made

have_append : (s : LocalState) (ms ns : List ℕ) (hs ks : List Held) → HaveBytes s ms hs → HaveBytes s ns ks → HaveBytes s (ms ++ ns) (hs ++ ks)
have_append s ms ns hs ks first second =
    map-append (λ (h : Held). mem_bytes h.mem) hs ks ∙ ((λ j. first j ++ second j) ∙ sym (map-append (λ m. bytes_of s m) ms ns))

memories_have : (s : LocalState) (ps : List Place) (hs : List Held) → AreMemories s ps hs → HaveBytes s (map (number_at s) ps) hs
memories_have s [] [] are = refl
memories_have s [] (h ∷ hs) are = absurd are
memories_have s (p ∷ ps) [] are = absurd are
memories_have s (p ∷ ps) (h ∷ hs) are = λ j. are.2.bytes j ∷ memories_have s ps hs are.3 j

-- a memory as the state has that of a buffer
at_bytes : (s : LocalState) (t i : ℕ) (h : Held) → IsMemoryAt s t i h → mem_bytes h.mem ≡ bytes_of s (memory_at s h.queue h.index)
at_bytes s t i h at = at.memory.bytes ∙ (λ j. bytes_of s (memory_at s (sym at.queue j) (sym at.index j)))

-- ---- messages

item_leaves : (s : LocalState) (t : ℕ) (item : OwedItem) → (item_given s t item).memories ≡ s.memories
item_leaves s t (OwedBuffer i) = refl
item_leaves s t (Sync frame) =
    elim s.subscribed as (λ b. (if b then record s { events = s.events ++ (record { frame = frame; number = s.next_event }) ∷ []; next_event = counted s.next_event } else s).memories ≡ s.memories) [
      | true ↦ refl
      | false ↦ refl
    ]

give_leaves : (s t : LocalState) → after s Give ≡ Some t → t.memories ≡ s.memories
give_leaves s t goes =
    let w : Gave s s.owed t = given_by s t goes in
    ap (λ (x : LocalState). x.memories) w.3 ∙ item_leaves (record s { owed = w.1 }) w.0.queue w.0.item

given_bytes : (id : ℕ) (s : LocalState) (owed : List Owed) (e : Unsent) (h : Held) → GivesFirst id s owed e → e.held ≡ Some h → mem_bytes h.mem ≡ bytes_of s (memory_at s h.queue h.index)
given_bytes id s [] e h gives is = absurd gives
given_bytes id s (o ∷ owed) e h gives is = by_item o.item gives
  where
    by_item : (item : OwedItem) → GivesItem id s o.queue item e → mem_bytes h.mem ≡ bytes_of s (memory_at s h.queue h.index)
    by_item (OwedBuffer i) gives = at_bytes s o.queue i h (subst (IsHeldAt s o.queue i) is gives.held)
    by_item (Sync frame) gives = absurd (none-some h (sym gives.held ∙ is))

once_few : (b : Bool) → once b ≤ 1
once_few true = omega arith
once_few false = omega arith

unlent_by : (b : Bool) → once b ≤ 0 → b ≡ false
unlent_by true few = absurd (omega (arith, few))
unlent_by false few = refl

lent_by : (b : Bool) → 1 ≤ once b → b ≡ true
lent_by true some = refl
lent_by false some = absurd (omega (arith, some))

lent_made : (s : LocalState) (m : ℕ) → IsReached s → is_lent s m ≡ true → m < length s.memories
lent_made s m reached lent = let w : _ = lent_at s m lent in number_made s (facts_of s reached).sound w.0 w.1 m w.2

-- what comes with a message has its bytes in the state that it and the later ones lead to
abbrev HasItsBytes : LocalState → Option Held → Type 0
HasItsBytes t None = Unit {0}
HasItsBytes t (Some h) = mem_bytes h.mem ≡ bytes_of t (memory_at t h.queue h.index)

first_has : (id : ℕ) (s u t : LocalState) (e : Unsent) (es : List Unsent) → IsReached s → Leads id s e u → IsReached u → LeadAll id u es t → HasItsBytes t e.held
first_has id s u t e es reached first between rest = by_held e.held refl
  where
    by_held : (o : Option Held) → e.held ≡ o → HasItsBytes t o
    by_held None is = tt
    by_held (Some h) is =
        let n : ℕ = memory_at u h.queue h.index in
        let made : (is_lent first.made n ≡ is_lent s n) × IsReached first.made = made_lent s.model e.msg s first.made n reached first.making in
        let count : once (is_lent s n) ≡ occurrences n (numbers_in u (filter_map (λ (d : Unsent). d.held) (e ∷ []))) + once (is_lent u n) =
        messages_count id s u (e ∷ []) n reached (u, first, refl) in
        let here : occurrences n (numbers_in u (filter_map (λ (d : Unsent). d.held) (e ∷ []))) ≡ 1 =
        ap (λ o. occurrences n (numbers_in u (cons_option o []))) is ∙ cond-true (n == n) (0 + 1) 0 (eq-eqb n n refl) in
        let gone : is_lent u n ≡ false = unlent_by (is_lent u n) (omega (arith, count, here, once_few (is_lent s n))) in
        let later : memory_at t h.queue h.index ≡ n = memory_stays id u t h.queue h.index es between rest in
        let before : n ≡ memory_at first.made h.queue h.index = steps_memory first.made u h.queue h.index (steps_to first.made u Give made.1 tt first.given) in
        given_bytes id first.made first.made.owed e h first.gives is
        ∙ (ap (λ ms. get_or ms (memory_at first.made h.queue h.index) []) (sym (give_leaves first.made u first.given))
        ∙ (ap (bytes_of u) (sym before) ∙ (sym (messages_rest id u t es n between rest gone) ∙ ap (bytes_of t) (sym later))))

have_first : (t : LocalState) (o : Option Held) (hs : List Held) → HasItsBytes t o → HaveBytes t (numbers_in t hs) hs → HaveBytes t (numbers_in t (cons_option o hs)) (cons_option o hs)
have_first t None hs one rest = rest
have_first t (Some h) hs one rest = λ j. one j ∷ rest j

messages_have : (id : ℕ) (s t : LocalState) (es : List Unsent) → IsReached s → LeadAll id s es t →
    HaveBytes t (numbers_in t (filter_map (λ (e : Unsent). e.held) es)) (filter_map (λ (e : Unsent). e.held) es)
messages_have id s t [] reached leads = refl
messages_have id s t (e ∷ es) reached (u, first, rest) =
    let made : (is_lent first.made 0 ≡ is_lent s 0) × IsReached first.made = made_lent s.model e.msg s first.made 0 reached first.making in
    let between : IsReached u = reached_after first.made u Give made.1 first.given in
    have_first t e.held (filter_map (λ (d : Unsent). d.held) es) (first_has id s u t e es reached first between rest) (messages_have id u t es between rest)

messages_made : (id : ℕ) (s t : LocalState) (es : List Unsent) → IsReached s → LeadAll id s es t → AreMade t (numbers_in t (filter_map (λ (e : Unsent). e.held) es))
messages_made id s t es reached leads =
    made_all t (numbers_in t (filter_map (λ (e : Unsent). e.held) es)) (λ m some.
    let lent : is_lent s m ≡ true = lent_by (is_lent s m) (omega (arith, some, messages_count id s t es m reached leads)) in
    omega (arith, lent_made s m reached lent, (fewer_messages id s t es reached leads).size))

-- ---- calls

-- one that crosses and stops no queue leaves the bytes of what isn't lent
call_rests : (r u : LocalState) (line : ℕ) (call : Call) (reply : Reply) (m : ℕ) → IsReached r → may_cross call ≡ true → is_stopping call ≡ false → is_refusal reply ≡ false →
    called r line call reply ≡ Some u → is_lent r m ≡ false → is_kept u m ≡ true → bytes_of u m ≡ bytes_of r m
call_rests r u line (OpenHandle nonblock) reply m reached crosses goes answers leads unlent kept =
    let w : Went (row_for r line (OpenHandle nonblock) reply) reply u = went r line (OpenHandle nonblock) reply u answers leads in
    absurd (opened_bare r nonblock m (subst (λ (x : LocalState). is_kept x m ≡ true) w.next kept))
call_rests r u line CloseHandle reply m reached crosses goes answers leads unlent kept = absurd (true≢false goes)
call_rests r u line (ReqBufs t k n) reply m reached crosses goes answers leads unlent kept = absurd (true≢false goes)
call_rests r u line (StreamOff t) reply m reached crosses goes answers leads unlent kept = absurd (true≢false goes)
call_rests r u line (UAlloc name len off) reply m reached crosses goes answers leads unlent kept = absurd (false≢true crosses)
call_rests r u line (Poke name off bytes) reply m reached crosses goes answers leads unlent kept = absurd (false≢true crosses)
call_rests r u line (Fill name seed) reply m reached crosses goes answers leads unlent kept = absurd (false≢true crosses)
call_rests r u line (QBuf t i user used ts) reply m reached crosses goes answers leads unlent kept =
    let w : Went (row_for r line (QBuf t i user used ts) reply) reply u = went r line (QBuf t i user used ts) reply u answers leads in
    let found : _ = qbuf_sends r line (address_in reply) t i user used ts reached w.pass in
    let sends : SendsTo r u found.0 = subst (λ x. SendsTo r x found.0) (sym w.next) found.2 in
    ap (λ ms. get_or ms m []) sends.memories
call_rests r u line call reply m reached crosses goes answers leads unlent kept = (leaves_call r u line call reply reached refl leads).bytes m unlent

any_call_rests : (r u : LocalState) (line : ℕ) (call : Call) (reply : Reply) (m : ℕ) → IsReached r → may_cross call ≡ true → is_stopping call ≡ false →
    called r line call reply ≡ Some u → is_lent r m ≡ false → is_kept u m ≡ true → bytes_of u m ≡ bytes_of r m
any_call_rests r u line call reply m reached crosses goes leads unlent kept = elim (cases_Bool (is_refusal reply)) as (λ _. bytes_of u m ≡ bytes_of r m) [
  | inr answers ↦ call_rests r u line call reply m reached crosses goes answers leads unlent kept
  | inl refused ↦ ap (λ (x : LocalState). bytes_of x m) (refused_same r u line call reply refused leads)
]

-- one that stops queues leaves the bytes of all that was made
stop_rests : (s t : LocalState) (line : ℕ) (call : Call) (reply : Reply) (m : ℕ) → IsReached s → is_stopping call ≡ true → is_refusal reply ≡ false → called s line call reply ≡ Some t →
    m < length s.memories → bytes_of t m ≡ bytes_of s m
unfolding streamoff_row reqbufs_row
stop_rests s t line CloseHandle reply m reached stopping answers leads made =
    let w : Went (row_for s line CloseHandle reply) reply t = went s line CloseHandle reply t answers leads in
    ap (λ (x : LocalState). bytes_of x m) w.next
stop_rests s t line (StreamOff u) reply m reached stopping answers leads made =
    let w : Went (row_for s line (StreamOff u) reply) reply t = went s line (StreamOff u) reply t answers leads in
    ap (λ (x : LocalState). bytes_of x m) w.next
stop_rests s t line (ReqBufs u k n) reply m reached stopping answers leads made =
    let w : Went (row_for s line (ReqBufs u k n) reply) reply t = went s line (ReqBufs u k n) reply t answers leads in
    let f : Facts s = facts_of s reached in
    let so : (j : ℕ) → (get_or (reqbufs_row s u k n).refusals j (false, Enomem)).0 ≡ false = passes (reqbufs_row s u k n).refusals w.pass in
    ap (λ (x : LocalState). bytes_of x m) w.next ∙ (reqbufs_one s u k n f.sound (so 1)).bytes m made
stop_rests s t line call reply m reached stopping answers leads made = absurd (false≢true stopping)

any_stop_rests : (s t : LocalState) (line : ℕ) (call : Call) (reply : Reply) (m : ℕ) → IsReached s → is_stopping call ≡ true → called s line call reply ≡ Some t →
    m < length s.memories → bytes_of t m ≡ bytes_of s m
any_stop_rests s t line call reply m reached stopping leads made = elim (cases_Bool (is_refusal reply)) as (λ _. bytes_of t m ≡ bytes_of s m) [
  | inr answers ↦ stop_rests s t line call reply m reached stopping answers leads made
  | inl refused ↦ ap (λ (x : LocalState). bytes_of x m) (refused_same s t line call reply refused leads)
]

-- ---- the numbers of fresh memories

length_range : (k n : ℕ) → length (range_with_len k n) ≡ n
length_range k zero = refl
length_range k (suc n) = omega (arith, length_range (k + 1) n)

fresh_number : (size first n i : ℕ) → i < n → number_of (get_or (fresh_buffers Mmap size first n) i no_buffer) ≡ first + i
fresh_number size first zero i within = absurd (omega (arith, within))
fresh_number size first (suc n) zero within = omega arith
fresh_number size first (suc n) (suc i) within = fresh_number size (first + 1) n i (omega (arith, within)) ∙ omega arith

numbers_rise : (f : ℕ → ℕ) (first k n : ℕ) → ((i : ℕ) → i < k + n → f i ≡ first + i) → map f (range_with_len k n) ≡ range_with_len (first + k) n
numbers_rise f first k zero is = refl
numbers_rise f first k (suc n) is =
    let here : f k ≡ first + k = is k (omega arith) in
    let next : first + (k + 1) ≡ (first + k) + 1 = omega arith in
    let rest : map f (range_with_len (k + 1) n) ≡ range_with_len ((first + k) + 1) n =
    numbers_rise f first (k + 1) n (λ i within. is i (omega (arith, within))) ∙ ap (λ j. range_with_len j n) next in
    λ j. here j ∷ rest j

places_numbers : (t : LocalState) (u : ℕ) (is : List ℕ) → map (number_at t) (places_on u is) ≡ map (memory_at t u) is
places_numbers t u [] = refl
places_numbers t u (i ∷ is) = ap (λ ns. memory_at t u i ∷ ns) (places_numbers t u is)

fresh_range : (t : LocalState) (u first size n : ℕ) (kind : MemoryKind) → (queue_of t u).buffers ≡ fresh_buffers kind size first n →
    map (number_at t) (if is_user_ptr kind then [] else places_on u (range_with_len 0 (length (fresh_buffers kind size first n))))
    ≡ range_with_len first (length (if is_user_ptr kind then [] else places_on u (range_with_len 0 (length (fresh_buffers kind size first n)))))
fresh_range t u first size n Mmap buffers =
    let k : ℕ = length (fresh_buffers Mmap size first n) in
    let few : k ≡ n = length-map (range_with_len first n) (λ m. fresh_buffer size (Some m)) ∙ length_range first n in
    let long : length (places_on u (range_with_len 0 k)) ≡ k = length-map (range_with_len 0 k) (λ i. record { queue = u; index = i }) ∙ length_range 0 k in
    let none : first + 0 ≡ first = omega arith in
    places_numbers t u (range_with_len 0 k)
    ∙ (numbers_rise (memory_at t u) first 0 k (λ i within.
    ap (λ bs. number_of (get_or bs i no_buffer)) buffers ∙ fresh_number size first n i (omega (arith, within, few)))
    ∙ (λ j. range_with_len (none j) (sym long j)))
fresh_range t u first size n UserPtr buffers = refl

fresh_numbers : (s t : LocalState) (line : ℕ) (call : Call) (reply : Reply) → IsReached s → is_stopping call ≡ true → is_refusal reply ≡ false → called s line call reply ≡ Some t →
    map (number_at t) (made_by t call) ≡ range_with_len (length s.memories) (length (made_by t call))
unfolding streamoff_row reqbufs_row with_buffers
fresh_numbers s t line CloseHandle reply reached stopping answers leads = refl
fresh_numbers s t line (StreamOff u) reply reached stopping answers leads = refl
fresh_numbers s t line (ReqBufs u k n) reply reached stopping answers leads =
    let w : Went (row_for s line (ReqBufs u k n) reply) reply t = went s line (ReqBufs u k n) reply t answers leads in
    let f : Facts s = facts_of s reached in
    let so : (j : ℕ) → (get_or (reqbufs_row s u k n).refusals j (false, Enomem)).0 ≡ false = passes (reqbufs_row s u k n).refusals w.pass in
    let first : ℕ = length s.memories in
    let y : LocalState = with_buffers s u (memory_kind k) (granted n) in
    let v : QueueState = renewed s u k n in
    let one : StopsOne s y u v = reqbufs_one s u k n f.sound (so 1) in
    let here : queue_of y u ≡ v = get_or-set_same s.queues (place_in (types_of s.model) u) v opening_queue one.within in
    let P : QueueState → Type 0 = λ q. map (number_at y) (if is_user_ptr q.memory then [] else places_on u (range_with_len 0 (length q.buffers)))
    ≡ range_with_len first (length (if is_user_ptr q.memory then [] else places_on u (range_with_len 0 (length q.buffers)))) in
    let new : P v = fresh_range y u first (picture_size (queue_of s u).format) (granted n) (memory_kind k) (ap (λ (q : QueueState). q.buffers) here) in
    let Q : LocalState → Type 0 = λ x. map (number_at x) (made_on x u) ≡ range_with_len first (length (made_on x u)) in
    let there : Q y = subst P (sym here) new in
    subst Q (sym w.next) there
fresh_numbers s t line call reply reached stopping answers leads = absurd (false≢true stopping)

-- ---- where nothing was executed, and where a call was

-- The messages lead from a state to the state ahead: from the driver's, or from that after a call.
pub record Goes (x : Slice) (v : Inner) (u : LocalState) : Type 0 where
  pub reached : IsReached u
  pub id : ℕ
  pub leads : LeadAll id u (under_way x) v.ahead
  pub told : told_state v ≡ v.ahead

quiet_goes : (x : Slice) (v : Inner) → IsSoundSlice x v → v.executed ≡ None → Goes x v (driver_state x)
quiet_goes x v sound none =
    let is : IsAhead x v = is_ahead x v sound in
    record {
      reached = is.reached;
      id = is.id;
      leads = subst (λ e. LeadAhead is.id (driver_state x) e (under_way x) v.ahead) none is.leads;
      told = ap (λ e. told_state_if (stops_last e) v) none;
    }

-- a call that stops no queue comes in front of the messages
pub record GoesBehind (x : Slice) (v : Inner) (t_line : ℕ) (t_call : Call) (t_reply : Reply) : Type 0 where
  pub reached : IsReached (driver_state x)
  pub next : LocalState
  pub leads : called (driver_state x) t_line t_call t_reply ≡ Some next
  pub goes : Goes x v next

told_goes : (x : Slice) (v : Inner) (r : Returning) (t : IsTold x v r) → IsSoundSlice x v → is_stopping t.call ≡ false → GoesBehind x v t.line t.call t.reply
told_goes x v r t sound goes =
    let s : LocalState = driver_state x in
    let e : Executed x v r t = executed_is x v r t sound in
    let leads : LeadWith false e.ahead.id s (Called t.line t.call t.reply) (under_way x) v.ahead =
    subst (λ b. LeadWith b e.ahead.id s (Called t.line t.call t.reply) (under_way x) v.ahead) goes e.leads in
    record {
      reached = e.ahead.reached;
      next = leads.0;
      leads = leads.1;
      goes = record {
        reached = reached_after s leads.0 (Called t.line t.call t.reply) e.ahead.reached leads.1;
        id = e.ahead.id;
        leads = leads.2;
        told = e.told ∙ ap (λ b. told_state_if b v) goes;
      };
    }

-- ---- at home

pub record AtHome (x : Slice) (m : ℕ) (mem : Mem) : Type 0 where
  pub made : m < length (driver_state x).memories
  pub unlent : is_lent (driver_state x) m ≡ false
  pub alone : is_just (number_away (driver_state x) x.handle.log.away) m ≡ false
  pub bytes : is_kept (driver_state x) m ≡ true → mem_bytes mem ≡ bytes_of (driver_state x) m

home_is : (x : Slice) (v : Inner) (m : ℕ) (mem : Mem) → IsSoundSlice x v → home_of x.handle.log.home m ≡ Some mem → AtHome x m mem
home_is x v m mem sound is = by_out (is_out s (number_away s away) m) refl
  where
    s : LocalState
    s = driver_state x

    away : Away
    away = x.handle.log.away

    within : m < length x.handle.log.home
    within = place_within is_some x.handle.log.home m None refl (ap is_some is)

    by_out : (b : Bool) → is_out s (number_away s away) m ≡ b → AtHome x m mem
    by_out true out =
        let none : home_of x.handle.log.home m ≡ None = subst (λ b. IsInPlace b (is_kept s m) s m (home_of x.handle.log.home m)) out (sound.log.in_place.each m) in
        absurd (none-some mem (sym none ∙ is))
    by_out false out =
        let apart : (is_lent s m ≡ false) × (is_just (number_away s away) m ≡ false) = not_out s (number_away s away) m out in
        record {
          made = omega (arith, within, sound.log.in_place.places);
          unlent = apart.0;
          alone = apart.1;
          bytes = λ kept.
              let place : IsInPlace false true s m (home_of x.handle.log.home m) =
              subst (λ k. IsInPlace false k s m (home_of x.handle.log.home m)) kept (subst (λ b. IsInPlace b (is_kept s m) s m (home_of x.handle.log.home m)) out (sound.log.in_place.each m)) in
              let there : IsThere s m (Some mem) = subst (IsThere s m) is place in
              there.bytes;
        }

sent_none_of : (s : LocalState) (away : Away) (m : ℕ) → is_just (number_away s away) m ≡ false → occurrences m (sent_number away) ≡ 0
sent_none_of s Nothing m alone = refl
sent_none_of s (Lent entry) m alone = refl
sent_none_of s (Sent n) m alone = ap (λ b. if b then 0 + 1 else 0) alone

home_quiet : (x : Slice) (v : Inner) (m : ℕ) (mem : Mem) → IsSoundSlice x v → v.executed ≡ None → AtHome x m mem → is_kept v.ahead m ≡ true → mem_bytes mem ≡ bytes_of v.ahead m
home_quiet x v m mem sound none at kept =
    let s : LocalState = driver_state x in
    let goes : Goes x v s = quiet_goes x v sound none in
    at.bytes ((fewer_messages goes.id s v.ahead (under_way x) goes.reached goes.leads).kept m kept)
    ∙ sym (messages_rest goes.id s v.ahead (under_way x) m goes.reached goes.leads at.unlent)

home_going : (x : Slice) (v : Inner) (r : Returning) (m : ℕ) (mem : Mem) (t : IsTold x v r) → IsSoundSlice x v → is_stopping t.call ≡ false → AtHome x m mem → is_kept v.ahead m ≡ true →
    mem_bytes mem ≡ bytes_of v.ahead m
home_going x v r m mem t sound going at kept =
    let s : LocalState = driver_state x in
    let g : GoesBehind x v t.line t.call t.reply = told_goes x v r t sound going in
    let u : LocalState = g.next in
    let goes : Goes x v u = g.goes in
    let under : _ = fits_underway x v t.line t.call sound t.underway in
    let may : may_cross t.call ≡ true = may_of (id_of x.handle.session) s t.call t.crosses in
    let crosses : Crossed s u x.handle.log.away = crossed s u t.line t.call t.reply x.handle.log.away g.reached may going g.leads
    (along_with (id_of x.handle.session) s u t.line t.call t.reply x.handle.log.away t.crosses under.2 g.leads) (first_open x v t.call sound t.first) in
    let there : is_kept u m ≡ true = (fewer_messages goes.id u v.ahead (under_way x) goes.reached goes.leads).kept m kept in
    let unlent : is_lent u m ≡ false = unlent_by (is_lent u m) (omega (arith, crosses.lent m, ap once at.unlent, sent_none_of s x.handle.log.away m at.alone)) in
    at.bytes (crosses.kept m there)
    ∙ (sym (any_call_rests s u t.line t.call t.reply m g.reached may going g.leads at.unlent there)
    ∙ sym (messages_rest goes.id u v.ahead (under_way x) m goes.reached goes.leads unlent))

home_stopping : (x : Slice) (v : Inner) (r : Returning) (m : ℕ) (mem : Mem) (t : IsTold x v r) → IsSoundSlice x v → is_stopping t.call ≡ true → AtHome x m mem → is_kept v.ahead m ≡ true →
    mem_bytes mem ≡ bytes_of v.ahead m
home_stopping x v r m mem t sound stopping at kept =
    let s : LocalState = driver_state x in
    let is : Stopped x v r t = stopped_is x v r t sound stopping in
    let fewer : Fewer s v.before = fewer_messages is.id s v.before (under_way x) is.reached is.leads in
    let made : m < length v.before.memories = omega (arith, at.made, fewer.size) in
    let before : is_kept v.before m ≡ true = kept_after v.before v.ahead (Called t.line t.call t.reply) m is.before is.last made kept in
    at.bytes (fewer.kept m before)
    ∙ (sym (messages_rest is.id s v.before (under_way x) m is.reached is.leads at.unlent)
    ∙ sym (any_stop_rests v.before v.ahead t.line t.call t.reply m is.before stopping is.last made))

home_told : (x : Slice) (v : Inner) (r : Returning) (m : ℕ) (mem : Mem) → IsSoundSlice x v → IsTold x v r → AtHome x m mem → is_kept v.ahead m ≡ true → mem_bytes mem ≡ bytes_of v.ahead m
home_told x v r m mem sound t at kept = elim (cases_Bool (is_stopping t.call)) as (λ _. mem_bytes mem ≡ bytes_of v.ahead m) [
  | inl stopping ↦ home_stopping x v r m mem t sound stopping at kept
  | inr going ↦ home_going x v r m mem t sound going at kept
]

home_by : (o : Out) (x : Slice) (v : Inner) (m : ℕ) (mem : Mem) → IsSoundSlice x v → IsOut o x v → AtHome x m mem → is_kept v.ahead m ≡ true → mem_bytes mem ≡ bytes_of v.ahead m
home_by Nowhere x v m mem sound out at kept = home_quiet x v m mem sound out.0.executed at kept
home_by (Asked p) x v m mem sound out at kept = home_quiet x v m mem sound out.0.executed at kept
home_by (Kept p) x v m mem sound out at kept = home_quiet x v m mem sound out.0.executed at kept
home_by (Told r) x v m mem sound out at kept = home_told x v r m mem sound out at kept
home_by Astray x v m mem sound out at kept = absurd out

-- ---- out with a lease

-- no call is underway then
lent_alone : (s : LocalState) (along : Option ℕ) (away : Away) (entry : LeaseOut) → IsAlong along away → lease_in away ≡ Some entry → ⊥
lent_alone s None away entry along is = none-some entry (sym (ap lease_in along) ∙ is)
lent_alone s (Some n) away entry along is = none-some entry (sym (ap lease_in along) ∙ is)

lent_out : (s : LocalState) (away : Away) (unanswered : Bool) (entry : LeaseOut) → IsAway s away unanswered → lease_in away ≡ Some entry → IsAway s (Lent entry) unanswered
lent_out s Nothing unanswered entry out is = absurd (none-some entry is)
lent_out s (Sent n) unanswered entry out is = absurd (none-some entry is)
lent_out s (Lent other) unanswered entry out is = subst (λ e. IsAway s (Lent e) unanswered) (same_entry other entry is) out
  where
    same_entry : (a b : LeaseOut) → ◌≡◌ {A = Option LeaseOut} (Some a) (Some b) → a ≡ b
    same_entry a b same = cc

lent_quiet : (x : Slice) (v : Inner) (entry : LeaseOut) → IsSoundSlice x v → v.executed ≡ None → lease_in x.handle.log.away ≡ Some entry →
    mem_bytes entry.mem.value ≡ bytes_of v.ahead (touched (driver_state x) entry.call)
lent_quiet x v entry sound none is =
    let s : LocalState = driver_state x in
    let goes : Goes x v s = quiet_goes x v sound none in
    let out : IsAway s (Lent entry) x.handle.log.unanswered = lent_out s x.handle.log.away x.handle.log.unanswered entry sound.log.out is in
    let unlent : is_lent s (touched s entry.call) ≡ false = (touches_it s 0 0 entry.call out.1 (out.2 0 0)).unlent in
    out.3.bytes ∙ sym (messages_rest goes.id s v.ahead (under_way x) (touched s entry.call) goes.reached goes.leads unlent)

lent_told : (x : Slice) (v : Inner) (r : Returning) (entry : LeaseOut) → IsSoundSlice x v → IsTold x v r → lease_in x.handle.log.away ≡ Some entry → ⊥
lent_told x v r entry sound t is =
    lent_alone (driver_state x) (goes_along (driver_state x) t.call) x.handle.log.away entry (fits_underway x v t.line t.call sound t.underway).2 is

lent_by_out : (o : Out) (x : Slice) (v : Inner) (entry : LeaseOut) → IsSoundSlice x v → IsOut o x v → lease_in x.handle.log.away ≡ Some entry →
    mem_bytes entry.mem.value ≡ bytes_of v.ahead (touched (driver_state x) entry.call)
lent_by_out Nowhere x v entry sound out is = lent_quiet x v entry sound out.0.executed is
lent_by_out (Asked p) x v entry sound out is = lent_quiet x v entry sound out.0.executed is
lent_by_out (Kept p) x v entry sound out is = lent_quiet x v entry sound out.0.executed is
lent_by_out (Told r) x v entry sound out is = absurd (lent_told x v r entry sound out is)
lent_by_out Astray x v entry sound out is = absurd out

-- ---- with a call

along_have : (s t : LocalState) (call : Call) (away : Away) (unanswered : Bool) (held : List Held) → Along s call held → IsAlong (goes_along s call) away → IsAway s away unanswered →
    ((m : ℕ) → is_lent s m ≡ false → bytes_of t m ≡ bytes_of s m) → HaveBytes t (sent_number away) held
along_have s t (QBuf q i user used ts) away unanswered held along goes out rests =
    let h : Held = along.0 in
    let with_it : GoesAlong s (QBuf q i user used ts) q i h = along.2 in
    let sent : away ≡ Sent with_it.number = subst (λ o. IsAlong o away) with_it.along goes in
    let gone : IsAway s (Sent with_it.number) unanswered = subst (λ a. IsAway s a unanswered) sent out in
    let one : mem_bytes h.mem ≡ bytes_of t with_it.number = with_it.memory.bytes ∙ sym (rests with_it.number gone.1) in
    ap (λ hs. map (λ (k : Held). mem_bytes k.mem) hs) along.1 ∙ (ap (λ bs. bs ∷ []) one ∙ ap (λ a. map (λ m. bytes_of t m) (sent_number a)) (sym sent))
along_have s t call away unanswered held along goes out rests =
    ap (λ hs. map (λ (k : Held). mem_bytes k.mem) hs) along ∙ ap (λ a. map (λ m. bytes_of t m) (sent_number a)) (sym goes)

posted_have : (x : Slice) (v : Inner) (p : Posting) → IsSoundSlice x v → v.executed ≡ None → IsPosted x p → HaveBytes v.ahead (sent_number x.handle.log.away) p.held
posted_have x v p sound none posted =
    let s : LocalState = driver_state x in
    let goes : Goes x v s = quiet_goes x v sound none in
    let held : p.held ≡ option_to_list posted.along = ap (λ (m : Posting). m.held) posted.says in
    subst (HaveBytes v.ahead (sent_number x.handle.log.away)) (sym held)
    (along_have s v.ahead posted.call x.handle.log.away x.handle.log.unanswered (option_to_list posted.along) posted.memory (fits_underway x v posted.line posted.call sound posted.underway).2 sound.log.out
    (λ m unlent. messages_rest goes.id s v.ahead (under_way x) m goes.reached goes.leads unlent))

none_along : (s : LocalState) (call : Call) (held : List Held) → is_stopping call ≡ true → Along s call held → held ≡ []
none_along s (QBuf t i user used ts) held stopping along = absurd (false≢true stopping)
none_along s call held stopping along = along

kept_have : (x : Slice) (v : Inner) (p : Posting) (posted : IsPosted x p) → is_stopping posted.call ≡ true → HaveBytes v.ahead [] p.held
kept_have x v p posted stopping =
    let held : p.held ≡ option_to_list posted.along = ap (λ (m : Posting). m.held) posted.says in
    ap (λ hs. map (λ (k : Held). mem_bytes k.mem) hs) (held ∙ none_along (driver_state x) posted.call (option_to_list posted.along) stopping posted.memory)

nothing_told : (s t : LocalState) (n : ℕ) (held : List Held) → held ≡ [] → HaveBytes t (told_numbers n s held) held
nothing_told s t n held none = ap (λ hs. map (λ (k : Held). mem_bytes k.mem) hs) none ∙ ap (map (λ m. bytes_of t m)) (sym (none_told n s held none))

-- what comes back of queues that were stopped, and what comes fresh
come_have : (s t : LocalState) (line : ℕ) (call : Call) (reply : Reply) (held : List Held) → IsReached s → is_stopping call ≡ true → is_refusal reply ≡ false → called s line call reply ≡ Some t →
    ComeBack s t call held → HaveBytes t (told_numbers (stopped_count s call) s held) held
come_have s t line call reply held reached stopping answers leads come =
    let ps : List Place = flat_map (queued_on s) (stops s call) in
    let parted : _ = split_come s t call held come in
    let first : ℕ = length s.memories in
    let numbers : numbers_in s come.back ≡ map (number_at s) ps = back_numbers s ps come.back come.queued in
    let made : AreMade s (map (number_at s) ps) = made_all s (map (number_at s) ps) (λ m some.
    let count : occurrences m (map (number_at s) ps) + once (is_lent t m) ≡ once (is_lent s m) = stop_count s t line call reply m reached stopping answers leads come.settled in
    lent_made s m reached (lent_by (is_lent s m) (omega (arith, some, count)))) in
    let back : HaveBytes t (numbers_in s come.back) come.back =
    subst (λ ns. HaveBytes t ns come.back) (sym numbers)
    (have_later s t (map (number_at s) ps) come.back (λ m within. any_stop_rests s t line call reply m reached stopping leads within) made (memories_have s ps come.back come.queued)) in
    let few : length (made_by t call) ≡ length come.fresh = sym (memories_long t (made_by t call) come.fresh come.made) in
    let range : map (number_at t) (made_by t call) ≡ range_with_len first (length come.fresh) = fresh_numbers s t line call reply reached stopping answers leads ∙ ap (range_with_len first) few in
    let fresh : HaveBytes t (range_with_len first (length come.fresh)) come.fresh =
    subst (λ ns. HaveBytes t ns come.fresh) range (memories_have t (made_by t call) come.fresh come.made) in
    let both : HaveBytes t (numbers_in s come.back ++ range_with_len first (length come.fresh)) (come.back ++ come.fresh) =
    have_append t (numbers_in s come.back) (range_with_len first (length come.fresh)) come.back come.fresh back fresh in
    let those : told_numbers (stopped_count s call) s held ≡ numbers_in s come.back ++ range_with_len first (length come.fresh) =
    λ j. numbers_in s (parted.0 j) ++ range_with_len first (length (parted.1 j)) in
    subst (λ ns. HaveBytes t ns held) (sym those) (subst (HaveBytes t (numbers_in s come.back ++ range_with_len first (length come.fresh))) (sym come.ordered) both)

stopping_have : (x : Slice) (v : Inner) (r : Returning) (t : IsTold x v r) → IsSoundSlice x v → is_stopping t.call ≡ true → HaveBytes v.ahead (told_numbers (stopped_count v.before t.call) v.before r.held) r.held
stopping_have x v r t sound stopping = elim (cases_Bool (is_refusal t.reply)) as (λ _. HaveBytes v.ahead (told_numbers (stopped_count v.before t.call) v.before r.held) r.held) [
  | inr answers ↦
      come_have v.before v.ahead t.line t.call t.reply r.held is.before stopping answers is.last (come_done v.before v.ahead t.call t.reply r.held answers is.comes)
  | inl refused ↦
      let no : _ = refused_is t.reply refused in
      nothing_told v.before v.ahead (stopped_count v.before t.call) r.held (subst (λ q. ComeWith v.before v.ahead t.call q r.held) no.1 is.comes)
]
  where
    is : Stopped x v r t
    is = stopped_is x v r t sound stopping

told_have : (x : Slice) (v : Inner) (r : Returning) → IsSoundSlice x v → IsTold x v r → HaveBytes v.ahead (call_numbers (Told r) x.handle.log.away v) r.held
told_have x v r sound t =
    let e : Executed x v r t = executed_is x v r t sound in
    subst (λ ns. HaveBytes v.ahead ns r.held) (sym e.calls) (elim (cases_Bool (is_stopping t.call)) as (λ _. HaveBytes v.ahead (told_numbers (stopped_count v.before t.call) v.before r.held) r.held) [
      | inl stopping ↦ stopping_have x v r t sound stopping
      | inr going ↦ nothing_told v.before v.ahead (stopped_count v.before t.call) r.held (none_comes v.before t.next t.call t.reply r.held going t.memories)
    ])

call_by : (o : Out) (x : Slice) (v : Inner) → IsSoundSlice x v → IsOut o x v → HaveBytes v.ahead (call_numbers o x.handle.log.away v) (call_held o)
call_by Nowhere x v sound out = refl
call_by (Asked p) x v sound out = posted_have x v p sound out.0.executed out.1
call_by (Kept p) x v sound out = kept_have x v p out.1.posted out.1.stops
call_by (Told r) x v sound out = told_have x v r sound out
call_by Astray x v sound out = absurd out

-- ---- with the messages

going_messages : (x : Slice) (v : Inner) (u : LocalState) → Goes x v u → HaveBytes v.ahead (numbers_in (told_state v) (messages_held x)) (messages_held x)
going_messages x v u goes =
    subst (λ k. HaveBytes v.ahead (numbers_in k (messages_held x)) (messages_held x)) (sym goes.told) (messages_have goes.id u v.ahead (under_way x) goes.reached goes.leads)

told_messages : (x : Slice) (v : Inner) (r : Returning) → IsSoundSlice x v → IsTold x v r → HaveBytes v.ahead (numbers_in (told_state v) (messages_held x)) (messages_held x)
told_messages x v r sound t = elim (cases_Bool (is_stopping t.call)) as (λ _. HaveBytes v.ahead (numbers_in (told_state v) (messages_held x)) (messages_held x)) [
  | inr going ↦ let g : GoesBehind x v t.line t.call t.reply = told_goes x v r t sound going in going_messages x v g.next g.goes
  | inl stopping ↦
      let s : LocalState = driver_state x in
      let e : Executed x v r t = executed_is x v r t sound in
      let is : Stopped x v r t = stopped_is x v r t sound stopping in
      let told : told_state v ≡ v.before = e.told ∙ ap (λ b. told_state_if b v) stopping in
      subst (λ k. HaveBytes v.ahead (numbers_in k (messages_held x)) (messages_held x)) (sym told)
      (have_later v.before v.ahead (numbers_in v.before (messages_held x)) (messages_held x) (λ m within. any_stop_rests v.before v.ahead t.line t.call t.reply m is.before stopping is.last within)
      (messages_made is.id s v.before (under_way x) is.reached is.leads) (messages_have is.id s v.before (under_way x) is.reached is.leads))
]

messages_by : (o : Out) (x : Slice) (v : Inner) → IsSoundSlice x v → IsOut o x v → HaveBytes v.ahead (numbers_in (told_state v) (messages_held x)) (messages_held x)
messages_by Nowhere x v sound out = going_messages x v (driver_state x) (quiet_goes x v sound out.0.executed)
messages_by (Asked p) x v sound out = going_messages x v (driver_state x) (quiet_goes x v sound out.0.executed)
messages_by (Kept p) x v sound out = going_messages x v (driver_state x) (quiet_goes x v sound out.0.executed)
messages_by (Told r) x v sound out = told_messages x v r sound out
messages_by Astray x v sound out = absurd out

-- ---- in the session, and with its job

queue_have : (s : LocalState) (t : ℕ) (xs : List Queued) → All (λ (b : Queued). IsMemoryAt s t b.buffer.index b.held) xs → HaveBytes s (numbers_in s (memories xs)) (memories xs)
queue_have s t [] all = refl
queue_have s t (b ∷ bs) all =
    let P : Queued → Type 0 = λ x. IsMemoryAt s t x.buffer.index x.held in
    λ j. at_bytes s t b.buffer.index b.held (All-head P b bs all) j ∷ queue_have s t bs (All-tail P b bs all) j

numbers_append : (s : LocalState) (hs ks : List Held) → numbers_in s (hs ++ ks) ≡ numbers_in s hs ++ numbers_in s ks
numbers_append s hs ks = map-append (λ (h : Held). memory_at s h.queue h.index) hs ks

have_both : (s : LocalState) (hs ks : List Held) → HaveBytes s (numbers_in s hs) hs → HaveBytes s (numbers_in s ks) ks → HaveBytes s (numbers_in s (hs ++ ks)) (hs ++ ks)
have_both s hs ks first second =
    subst (λ ns. HaveBytes s ns (hs ++ ks)) (sym (numbers_append s hs ks)) (have_append s (numbers_in s hs) (numbers_in s ks) hs ks first second)

queues_have : (frames : List ℕ) (session : SessionState) (s : LocalState) (ts : List ℕ) → Stands frames session s →
    HaveBytes s (numbers_in s (queued_memories (map (λ t. session_queue session t) ts))) (queued_memories (map (λ t. session_queue session t) ts))
queues_have frames session s [] stands = refl
queues_have frames session s (t ∷ ts) stands =
    have_both s (memories (session_queue session t).queued) (queued_memories (map (λ u. session_queue session u) ts)) (queue_have s t (session_queue session t).queued (stands.each t).memories)
    (queues_have frames session s ts stands)

session_have : (o : Option SessionState) (x : Slice) (v : Inner) → IsSeated o x v → HaveBytes v.ahead (numbers_in v.ahead (queued_held o)) (queued_held o)
session_have None x v seated = refl
session_have (Some s) x v seated =
    subst (λ qs. HaveBytes v.ahead (numbers_in v.ahead (queued_memories qs)) (queued_memories qs)) (sym (queues_are s seated.sound)) (queues_have v.frames s v.ahead (types_of s.model) seated.stands)

src_have : (s : LocalState) (t : Option ℕ) (src : Option Held) → IsHeadIf s t src → HaveBytes s (numbers_in s (option_to_list src)) (option_to_list src)
src_have s None src is = subst (λ o. HaveBytes s (numbers_in s (option_to_list o)) (option_to_list o)) (sym is) refl
src_have s (Some t) None is = absurd is
src_have s (Some t) (Some h) is = ap (λ bs. bs ∷ []) (at_bytes s t (head (queue_of s t)) h is)

job_have : (s : LocalState) (job : Option JobParts) → IsNextIf s job → HaveBytes s (numbers_in s (job_held job)) (job_held job)
job_have s None next = refl
job_have s (Some job) next =
    let t : ℕ = picture_queue s.model in
    have_both s (option_to_list job.src) (job.dst ∷ []) (src_have s (source_queue s.model) job.src next.src) (ap (λ bs. bs ∷ []) (at_bytes s t (head (queue_of s t)) job.dst next.dst))

running_have : (o : Option SessionState) (x : Slice) (v : Inner) → IsSeated o x v → HaveBytes v.ahead (numbers_in v.ahead (job_held x.job)) (job_held x.job)
running_have None x v seated = subst (λ o. HaveBytes v.ahead (numbers_in v.ahead (job_held o)) (job_held o)) (sym seated.none_runs) refl
running_have (Some s) x v seated = job_have v.ahead x.job seated.next

-- ---- all

pub bytes_ahead : (x : Slice) (v : Inner) → IsSoundSlice x v → HasBytesAhead x v
bytes_ahead x v sound = record {
  home = λ m mem is kept. home_by x.out x v m mem sound sound.out (home_is x v m mem sound is) kept;
  lent = λ entry is. lent_by_out x.out x v entry sound sound.out is;
  call = call_by x.out x v sound sound.out;
  messages = messages_by x.out x v sound sound.out;
  queued = session_have x.session x v sound.seated;
  job = running_have x.session x v sound.seated;
}
