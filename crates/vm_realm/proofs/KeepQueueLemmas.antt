-- A QBUF that the device does keeps a slice sound.
use Rattle.std.proofs.Common.{◌≡◌, ◌≢◌, ◌⊎◌, inl, inr, ℕ, ◌<◌, ◌^◌, true, false, Bool, List, [], ◌∷◌, ◌++◌, All, length, get_or, set, unwrap_or, Option, Some, None, IsSome, refl, sym, ap, ◌∙◌, subst, arith, lit<, true≢false}
use Rattle.std.specs.List.{filter_map}
use Rattle.std.specs.Option.{option_map, option_to_list}
use Rattle.std.specs.Prelude.{Result, Ok, Err, take}
use Rattle.std.proofs.lemmas.Bool.{false≢true, not-false, cases_eq, ltb-true}
use Rattle.std.proofs.lemmas.Option.{none-some}
use Rattle.std.proofs.lemmas.List.Elements.{All-nil, All-cons, All-head, All-tail, All-append}
use Rattle.std.proofs.lemmas.List.{get_or-set_same, get_or-set_other, length-set}
use Rattle.v4l_const.specs.Errno.{errno_number}
use Rattle.v4l_const.specs.declared.errno.Errno.{Errno}
use Rattle.v4l_const.specs.declared.ioctl_code.IoctlCode.TheVariants.{QBuf as QBufCode}
use Rattle.v4l_const.specs.Model.{queues as types_of}
use Rattle.v4l_layout.specs.Records.{buffer_bytes}
use Rattle.v4l_layout.specs.declared.buffer_rec.BufferRec.{BufferRec}
use Rattle.v4l_rules.specs.Queues.{place_in}
use Rattle.v4l_rules.specs.Refusals.{first_refusal}
use Rattle.vm_frame.specs.declared.mem.Held.{Held}
use Rattle.vm_frame.specs.declared.mem.Mem.{Mem}
use Rattle.vm_queue.specs.Buffers.{memories}
use Rattle.vm_queue.specs.declared.queued.Queued.{Queued}
use Rattle.vm_wire.specs.Buffers.{buffer_in, qbuf_request}
use Rattle.vm_wire.specs.Message.{Posting, Returning}
use Rattle.vm_wire.specs.Message.Ask.{Judged}
use Rattle.vm_wire.specs.Wire.{response_bytes}
use Rattle.vm_wire.specs.declared.command.Command.{Command}
use Rattle.vm_wire.specs.declared.command.Command.TheVariants.{Ioctl}
use Rattle.vm_wire.specs.declared.response.Response.TheVariants.{Refused as Denied, Opened, Answered}
use Rattle.vm_local.specs.declared.buffer.Buffer.{Buffer}
use Rattle.vm_local.specs.declared.call.Call.{Call}
use Rattle.vm_local.specs.declared.call.Call.TheVariants.{QBuf}
use Rattle.vm_local.specs.declared.entry.Entry.{Entry}
use Rattle.vm_local.specs.declared.entry.Entry.TheVariants.{Called}
use Rattle.vm_local.specs.declared.reply.Reply.{Reply}
use Rattle.vm_local.specs.declared.reply.Reply.TheVariants.{Refused}
use Rattle.vm_local.specs.State.{QueueState, LocalState, opening_queue as local_opening, queue_of as local_queue, buffer_of}
use Rattle.vm_local.specs.Kinds.{is_idle}
use Rattle.vm_local.specs.Queue.{brought as brought_number, queued_buffer}
use Rattle.vm_local.specs.Same.{address_in}
use Rattle.vm_local.specs.Steps.{number_of}
use Rattle.vm_local.specs.Calls.{Row, row_of, qbuf_row}
use Rattle.vm_local.specs.Log.{IsCall, row_for, called, answered}
use Rattle.vm_local.proofs.StepLemmas.{passes, done_by}
use Rattle.vm_commute.proofs.ReachedLemmas.{reached_after}
use Rattle.vm_home.specs.Moves.{memory_at, is_refusal, is_stopping, goes_along, ComeWith}
use Rattle.vm_home.specs.Reached.{IsReached}
use Rattle.vm_home.proofs.OwnLemmas.{IsChanged, changed_at}
use Rattle.vm_log.specs.declared.away.Away.{Away}
use Rattle.vm_log.specs.declared.away.Away.TheVariants.{Sent}
use Rattle.vm_exchange.specs.declared.crossing.Crossing.{Crossing}
use Rattle.vm_exchange.specs.declared.user_place.UserPlace.{UserPlace}
use Rattle.vm_exchange.specs.declared.way.Way.TheVariants.{Crosses}
use Rattle.vm_exchange.specs.Entries.{bytes_behind}
use Rattle.vm_exchange.specs.Exchange.{memory_number, buffer_queued, user_named, way_of, unless_by, qbuf_crossing, response_to}
use Rattle.vm_exchange.specs.Range.{AreWords}
use Rattle.vm_exchange.proofs.FitLemmas.{crossed_unrefused}
use Rattle.vm_exchange.proofs.OutcomeLemmas.{outcome}
use Rattle.vm_handle.specs.Handle.{FitsStage, IsAlong, id_of, crossing_from}
use Rattle.vm_handle.specs.declared.stage.Stage.{Stage}
use Rattle.vm_handle.specs.declared.stage.Stage.TheVariants.{Underway}
use Rattle.vm_session.specs.Buffers.{queued_memories, memory_kind as held_kind, IsTold as IsToldBy, kept_record, queue_with, ComesWith}
use Rattle.vm_session.specs.Rows.{IoctlAnswer, ioctl_row, ioctl_outcome, refusal_of, qbuf_row as session_row}
use Rattle.vm_session.specs.Sound.{IsSound as IsSoundSession}
use Rattle.vm_session.specs.State.{SessionQueue, SessionState, opening_queue, queue_of}
use Rattle.vm_session.specs.declared.running.Running.{Running}
use Rattle.vm_session.specs.declared.unsent.Unsent.{Unsent}
use Rattle.vm_stands.specs.Laws.{Along, GoesAlong}
use Rattle.vm_stands.specs.Slice.{IsSlice, LeadWith, Goes}
use Rattle.vm_stands.proofs.AnswerLemmas.{nothing_back}
use Rattle.vm_stands.proofs.QBufLemmas.{IsQueueing, queueing_is}
use Rattle.vm_stands.proofs.SliceLemmas.{all_reached}
use Rattle.vm_stands.proofs.SliceCallLemmas.{slice_answers}
use Rattle.vm_stands.proofs.SliceComeLemmas.{slice_comes}
use Rattle.vm_device.specs.Brought.{comes_with, brought}
use Rattle.vm_device.specs.Device.{DeviceState, session_of, with_session}
use Rattle.vm_device.specs.Perform.{Answer, called as called_session, called_with, in_session}
use Rattle.vm_realm.specs.Inner.{Inner, driver_state, under_way, unsent_in}
use Rattle.vm_realm.specs.Laws.{GoesOnSoundly, CallsKeepSlice, queues_buffer}
use Rattle.vm_realm.specs.Places.{told_state, stopped_by as stopped_many, queued_held, job_held}
use Rattle.vm_realm.specs.Slice.{Slice, id_ahead, session_in, earlier_of}
use Rattle.vm_realm.specs.Slice.Out.{Asked, Kept, Told}
use Rattle.vm_realm.specs.SliceSteps.{IsDeviceOf, IsServed, told_by}
use Rattle.vm_realm.specs.Sound.{IsPosted, IsKept, IsOut, IsSeated, spec_running, IsSoundSlice, IsWholeSlice}
use Rattle.vm_realm.specs.Users.{IsUsers, AreUsers}
use Rattle.vm_realm.proofs.KeepStateLemmas.{IsAlike, alike_back, lead_alike, lead_idle, users_alike}
use Rattle.vm_realm.proofs.KeepOutLemmas.{append_none, on_soundly}
use Rattle.vm_realm.proofs.KeepOwnLemmas.{told_held}
use Rattle.vm_realm.proofs.KeepFrameLemmas.{take_none}
use Rattle.vm_realm.proofs.KeepBusyLemmas.{IsBusyHeld, lead_busy, queued_busy, taken_busy, places_all}
use Rattle.vm_realm.proofs.KeepReplyLemmas.{never_denied, users_like, like_call}
use Rattle.vm_realm.proofs.KeepServeLemmas.{asked_same, done_sound}
use Rattle.vm_realm.proofs.KeepOpenLemmas.{IsOutside, outside, told_id, live_session, some_within}
use Rattle.vm_realm.proofs.KeepPlainLemmas.{outcome_row, ok_same, not_ok, come_none}
use Rattle.vm_realm.proofs.KeepHaltLemmas.{part_all}
use Rattle.vm_realm.proofs.KeepBringLemmas.{IsComing, coming, is_brought}

-- ---- what the session does

map_behind : (xs : List Queued) (y : Queued) → memories (xs ++ y ∷ []) ≡ memories xs ++ y.held ∷ []
map_behind [] y = refl
map_behind (x ∷ xs) y = ap (λ (hs : List Held). x.held ∷ hs) (map_behind xs y)

-- What it leaves of the session, with the buffer of type t queued behind the others of its queue.
pub record IsQueuedIn (s next : SessionState) (t : ℕ) (h : Held) : Type 0 where
  pub id : next.id ≡ s.id
  pub running : next.running ≡ s.running
  pub unsent : next.unsent ≡ s.unsent
  pub queue : SessionQueue
  pub queues : next.queues ≡ set s.queues (place_in (types_of s.model) t) queue
  pub behind : memories queue.queued ≡ memories (queue_of s t).queued ++ h ∷ []

row_queued : (s : SessionState) (b : BufferRec) (h : Held) → IsQueuedIn s (session_row s b (h ∷ [])).next b.kind h
unfolding session_row
row_queued s b h = record {
  id = refl;
  running = refl;
  unsent = refl;
  queue = queue_with (queue_of s b.kind) b (h ∷ []);
  queues = refl;
  behind = map_behind (queue_of s b.kind).queued (record { buffer = kept_record b; held = h });
}

queued_in : (memory : Bool) (s : SessionState) (p : List ℕ) (h : Held) (a : IoctlAnswer) → ioctl_outcome memory s QBufCode p (h ∷ []) ≡ Ok a → IsQueuedIn s a.next (buffer_in p).kind h
queued_in memory s p h a is =
    let by : (a.next ≡ (ioctl_row s QBufCode p (h ∷ [])).next) × (a.back ≡ (ioctl_row s QBufCode p (h ∷ [])).back) =
    outcome_row (refusal_of memory (ioctl_row s QBufCode p (h ∷ []))) (ioctl_row s QBufCode p (h ∷ [])) a is in
    subst (λ (z : SessionState). IsQueuedIn s z (buffer_in p).kind h) (sym by.0) (row_queued s (buffer_in p) h)

-- the memories that are queued then are the others, and this one
all_queued : (P : Held → Type 0) (s next : SessionState) (t : ℕ) (h : Held) → IsQueuedIn s next t h → P h → All P (queued_memories s.queues) → All P (queued_memories next.queues)
all_queued P s next t h is mine all =
    subst (λ qs. All P (queued_memories qs)) (sym is.queues) (places_all P (set s.queues p is.queue) (λ k within. by_place k within (cases_eq k p)))
  where
    p : ℕ
    p = place_in (types_of s.model) t

    by_place : (k : ℕ) → k < length (set s.queues p is.queue) → (k ≡ p) ⊎ (k ≢ p) → All P (memories (get_or (set s.queues p is.queue) k opening_queue).queued)
    by_place k within (inl same) =
        let inside : p < length s.queues = omega (arith, within, length-set s.queues p is.queue, same) in
        let here : get_or (set s.queues p is.queue) k opening_queue ≡ is.queue = ap (λ j. get_or (set s.queues p is.queue) j opening_queue) same ∙ get_or-set_same s.queues p is.queue opening_queue inside in
        subst (λ (q : SessionQueue). All P (memories q.queued)) (sym here)
        (subst (All P) (sym is.behind) (All-append P (memories (queue_of s t).queued) (h ∷ []) (part_all P s.queues p all) (All-cons P h [] mine (All-nil P))))
    by_place k within (inr far) =
        subst (λ (q : SessionQueue). All P (memories q.queued)) (sym (get_or-set_other s.queues p k is.queue opening_queue far)) (part_all P s.queues k all)

-- ---- what the driver's state becomes

-- the buffer has the memory that went along, and all others have what they had
pub record IsPut (s b : LocalState) (t i n : ℕ) : Type 0 where
  pub mine : memory_at b t i ≡ n
  pub others : (u j : ℕ) → is_idle (buffer_of (local_queue s u) j).state ≡ false → memory_at b u j ≡ memory_at s u j

row_put : (s : LocalState) (line addr t i used ts : ℕ) (user : Option (List ℕ)) (n : ℕ) → IsQueueing s t i user used → goes_along s (QBuf t i user used ts) ≡ Some n →
    IsPut s (row_of s line addr (QBuf t i user used ts)).next t i n
unfolding qbuf_row queued_buffer
row_put s line addr t i used ts user n queueing goes =
    let p : ℕ = place_in (types_of s.model) t in
    let q : QueueState = local_queue s t in
    let b : Buffer = queued_buffer s t (brought_number s user) used ts (buffer_of q i) in
    let v : QueueState = record q { buffers = set q.buffers i b; queued = q.queued ++ i ∷ [] } in
    let inside : i < length q.buffers = ltb-true i (length q.buffers) queueing.inside in
    let at : (k j : ℕ) → IsChanged s.queues (set s.queues p v) p i b k j = changed_at s.queues p i b v inside refl in
    record {
      mine = elim (at p i) as (λ _. memory_at (row_of s line addr (QBuf t i user used ts)).next t i ≡ n) [
        | inl here ↦ ap number_of here.2 ∙ ap (λ o. unwrap_or o 0) goes
        | inr other ↦ absurd (other.0 refl refl)
      ];
      others = λ u j busy. elim (at (place_in (types_of s.model) u) j) as (λ _. memory_at (row_of s line addr (QBuf t i user used ts)).next u j ≡ memory_at s u j) [
        | inl here ↦
            let same : (buffer_of (local_queue s u) j) ≡ buffer_of q i = (λ k. buffer_of (get_or s.queues (here.0 k) local_opening) (here.1 k)) in
            absurd (true≢false (sym queueing.idle ∙ (ap (λ (c : Buffer). is_idle c.state) (sym same) ∙ busy)))
        | inr other ↦ ap number_of other.1
      ];
    }

-- it isn't refused where nothing refuses it
never_lacks : (s : LocalState) (line addr t i used ts : ℕ) (user : Option (List ℕ)) → (row_of s line addr (QBuf t i user used ts)).may_lack_memory ≡ false
unfolding qbuf_row
never_lacks s line addr t i used ts user = refl

call_put : (s b : LocalState) (line t i used ts : ℕ) (user : Option (List ℕ)) (n : ℕ) (reply : Reply) → is_refusal reply ≡ false → first_refusal (row_of s 0 0 (QBuf t i user used ts)).refusals ≡ None →
    goes_along s (QBuf t i user used ts) ≡ Some n → IsCall s line (QBuf t i user used ts) reply b → IsPut s b t i n
unfolding called
call_put s b line t i used ts user n reply done pass goes leads =
    let row : Row = row_for s line (QBuf t i user used ts) reply in
    let went : _ = done_by (first_refusal row.refusals) row s reply b done leads in
    subst (λ z. IsPut s z t i n) (sym went.3) (row_put s line (address_in reply) t i used ts user n (queueing_is s t i user used ts pass) goes)

not_refused : (s b : LocalState) (line t i used ts : ℕ) (user : Option (List ℕ)) (e : Errno) → first_refusal (row_of s 0 0 (QBuf t i user used ts)).refusals ≡ None →
    IsCall s line (QBuf t i user used ts) (Refused e) b → ⊥
unfolding called qbuf_row
not_refused s b line t i used ts user e pass leads =
    none-some b (sym (ap (λ o. answered o (qbuf_row s t i user used ts) s (Refused e)) pass) ∙ leads)

put_reply : (s : LocalState) (line addr t i used ts : ℕ) (user : Option (List ℕ)) → address_in (row_of s line addr (QBuf t i user used ts)).reply ≡ 0
unfolding qbuf_row
put_reply s line addr t i used ts user = refl

put_address : (s b : LocalState) (line t i used ts : ℕ) (user : Option (List ℕ)) (reply : Reply) → IsCall s line (QBuf t i user used ts) reply b → address_in reply ≡ 0
put_address s b line t i used ts user reply leads =
    elim (outcome s line (QBuf t i user used ts) reply b leads) as (λ _. address_in reply ≡ 0) [
      | inl refused ↦ ap address_in refused.1
      | inr done ↦ ap address_in done.1 ∙ put_reply s line (address_in reply) t i used ts user
    ]

-- only a refusal is told as one
answered_done : (id : ℕ) (s : LocalState) (call : Call) (reply : Reply) (p : List ℕ) → response_to id s call reply ≡ Answered p → is_refusal reply ≡ false
answered_done id s call (Refused e) p told = absurd (apart (errno_number e) p told)
  where
    apart : (n : ℕ) (p : List ℕ) → Denied n ≡ Answered p → ⊥
    apart n p is = cc
answered_done id s call reply p told = refl

-- ---- the slice

-- What is so of a slice whose buffer is to be queued: the number of the memory that went along, and that memory.
pub record IsQueueingSlice (x : Slice) (v : Inner) (m : Posting) (s : SessionState) (line t i : ℕ) (user : Option (List ℕ)) (used ts n : ℕ) (h : Held) : Type 0 where
  pub sound : IsSoundSlice x v
  pub is : IsOutside x v
  pub under : x.handle.stage ≡ Underway line (QBuf t i user used ts)
  pub crosses : IsSome (crossing_from x.handle (QBuf t i user used ts))
  pub who : m.request.who ≡ x.who
  pub session : x.session ≡ Some s
  pub id : x.handle.session ≡ Some s.id
  pub slice : IsSlice v.frames s x.job (earlier_of x) None (driver_state x) v.ahead
  pub pass : first_refusal (row_of (driver_state x) 0 0 (QBuf t i user used ts)).refusals ≡ None
  pub goes : goes_along (driver_state x) (QBuf t i user used ts) ≡ Some n
  pub queue : h.queue ≡ t
  pub index : h.index ≡ i
  pub users : IsUsers (driver_state x) n h.mem

-- the users' memories of buffers that aren't Idle keep what they had
carried : (P : Held → Type 0) (Q : Held → Type 0) (R : Held → Type 0) → ((h : Held) → P h → Q h → R h) → (hs : List Held) → All P hs → All Q hs → All R hs
carried P Q R both [] ps qs = All-nil R
carried P Q R both (h ∷ hs) ps qs = All-cons R h hs (both h (All-head P h hs ps) (All-head Q h hs qs)) (carried P Q R both hs (All-tail P h hs ps) (All-tail Q h hs qs))

queue_sound : (x : Slice) (v : Inner) (m : Posting) (s next : SessionState) (line t i : ℕ) (user : Option (List ℕ)) (used ts n : ℕ) (h : Held) (answer : Answer) (payload : List ℕ) (reply : Reply) (b : LocalState) →
    IsQueueingSlice x v m s line t i user used ts n h → IsQueuedIn s next t h → answer.response ≡ Answered payload → answer.held ≡ [] →
    response_to s.id (driver_state x) (QBuf t i user used ts) reply ≡ Answered payload →
    IsSlice v.frames next x.job (earlier_of x) (Some (Called line (QBuf t i user used ts) reply)) (driver_state x) b →
    GoesOnSoundly (record x { out = Told (told_by m answer); session = Some next }) v
queue_sound x v m s next line t i user used ts n h answer payload reply b k queued response held answers slice =
    let r : LocalState = driver_state x in
    let call : Call = QBuf t i user used ts in
    let e : Entry = Called line call reply in
    let by : LeadWith false next.id r e (earlier_of x ++ next.unsent) b = slice.leads in
    let u : LocalState = by.0 in
    let there : IsReached u = reached_after r u e k.is.reached by.1 in
    let told_reply : Returning = told_by m answer in
    let told : id_ahead x.handle (Told told_reply) ≡ Some s.id = told_id x line call told_reply k.under ∙ k.id in
    let back : IsAlike v.ahead r = alike_back r v.ahead (lead_alike s.id r v.ahead (earlier_of x ++ s.unsent) k.is.reached k.slice.leads) in
    let on : IsAlike u b = lead_alike next.id u b (earlier_of x ++ next.unsent) there by.2 in
    let ahead : IsReached v.ahead = all_reached s.id r v.ahead (earlier_of x ++ s.unsent) k.is.reached k.slice.leads in
    let put : IsPut r u t i n = call_put r u line t i used ts user n reply (answered_done s.id r call reply payload answers) k.pass k.goes by.1 in
    let across : (j : ℕ) (mem : Mem) → IsUsers r j mem → IsUsers b j mem = λ j mem one.
    users_alike u b j mem on (users_like r u j mem k.is.reached (like_call r u line call reply refl by.1) one) in
    let carry : (hs : List Held) → All (IsBusyHeld v.ahead) hs → AreUsers v.ahead hs → AreUsers b hs =
    carried (IsBusyHeld v.ahead) (λ (z : Held). IsUsers v.ahead (memory_at v.ahead z.queue z.index) z.mem) (λ (z : Held). IsUsers b (memory_at b z.queue z.index) z.mem)
    (λ z busy one.
    let was : is_idle (buffer_of (local_queue r z.queue) z.index).state ≡ false = sym (lead_idle s.id r v.ahead (earlier_of x ++ s.unsent) z.queue z.index k.is.reached k.slice.leads) ∙ busy in
    let number : memory_at b z.queue z.index ≡ memory_at v.ahead z.queue z.index = on.memory z.queue z.index ∙ (put.others z.queue z.index was ∙ back.memory z.queue z.index) in
    subst (λ j. IsUsers b j z.mem) (sym number) (across (memory_at v.ahead z.queue z.index) z.mem (users_alike v.ahead r (memory_at v.ahead z.queue z.index) z.mem back one))) in
    let mine : IsUsers b (memory_at b h.queue h.index) h.mem =
    subst (λ j. IsUsers b j h.mem) (sym ((λ j. memory_at b (k.queue j) (k.index j)) ∙ (on.memory t i ∙ put.mine))) (across n h.mem k.users) in
    let under : earlier_of x ++ s.unsent ≡ under_way x = ap (λ o. earlier_of x ++ unsent_in o) (sym k.session) in
    let w : Inner = record v { executed = Some e; before = r; ahead = b } in
    on_soundly (record x { out = Told told_reply; session = Some next }) v w refl (done_sound x v w told_reply (Some next) k.sound (record {
      told = record {
        line = line;
        call = call;
        reply = reply;
        next = u;
        underway = k.under;
        crosses = k.crosses;
        first = tt;
        executed = refl;
        before = refl;
        is_call = by.1;
        who = k.who;
        bytes = ap response_bytes (response ∙ (sym answers ∙ ap (λ o. response_to (id_of o) r call reply) (sym told)));
        address = subst (λ j. j < 2 ^ 64) (sym (put_address r u line t i used ts user reply by.1)) (lit< tt);
        small = λ j opens. absurd (apart payload j (sym answers ∙ (ap (λ o. response_to (id_of o) r call reply) (sym told) ∙ opens)));
        memories = subst (ComeWith r u call reply) (sym held) (come_none r u call reply (nothing_back r u call refl refl));
        quiet = λ halts done. absurd (false≢true halts);
      };
      seated = slice;
      named = told ∙ ap Some (sym queued.id);
      runs = ap (λ o. option_map (λ (z : Running). z.spec) o) queued.running ∙ (ap spec_running (sym k.session) ∙ k.sound.runs);
      under = ap (λ (us : List Unsent). earlier_of x ++ us) queued.unsent ∙ under;
      back = subst (λ hs. AreUsers r (take (stopped_many r (Some e)) hs)) (sym held) (subst (AreUsers r) (sym (take_none (stopped_many r (Some e)))) (All-nil _));
      messages = carry (told_held x) (subst (λ (es : List Unsent). All (IsBusyHeld v.ahead) (filter_map (λ z. z.held) es)) under (lead_busy s.id r v.ahead (earlier_of x ++ s.unsent) k.is.reached k.slice.leads))
          (subst (λ z. AreUsers z (told_held x)) (ap (λ o. told_state (record v { executed = o })) k.is.none) k.sound.users.messages);
      queued = all_queued (λ (z : Held). IsUsers b (memory_at b z.queue z.index) z.mem) s next t h queued mine
          (carry (queued_memories s.queues) (queued_busy v.frames s x.job (earlier_of x) None r v.ahead ahead k.slice) (subst (λ o. AreUsers v.ahead (queued_held o)) k.session k.sound.users.queued));
      taken = carry (job_held x.job) (taken_busy v.ahead x.job ahead k.slice.next) k.sound.users.job;
    }))
  where
    apart : (p : List ℕ) (j : ℕ) → Answered p ≡ Opened j → ⊥
    apart p j is = cc

-- ---- what the device answers

-- the session stands for what is ahead, whatever the outcome
queue_goes : (x : Slice) (v : Inner) (m : Posting) (s : SessionState) (line t i : ℕ) (user : Option (List ℕ)) (used ts n : ℕ) (h : Held) (payload : List ℕ) (place : Option UserPlace) (memory : Bool) (o : Result IoctlAnswer Errno) →
    IsQueueingSlice x v m s line t i user used ts n h → ioctl_outcome memory s QBufCode payload (h ∷ []) ≡ o → AreWords (QBuf t i user used ts) → Along (driver_state x) (QBuf t i user used ts) (h ∷ []) →
    way_of s.id (driver_state x) (QBuf t i user used ts) ≡ Crosses (record { command = Ioctl s.id QBufCode payload; user = place }) → ((a : IoctlAnswer) → o ≡ Ok a → IsSoundSession a.next) →
    Goes v.frames s x.job (earlier_of x) line (QBuf t i user used ts) (driver_state x) v.ahead o
queue_goes x v m s line t i user used ts n h payload place memory o k is words along way own =
    let call : Call = QBuf t i user used ts in
    subst (Goes v.frames s x.job (earlier_of x) line call (driver_state x) v.ahead) is
    (slice_answers v.frames s x.job (earlier_of x) line call memory (h ∷ []) QBufCode payload place (driver_state x) v.ahead k.slice refl refl words along way
    (λ a is_ok. own a (sym is ∙ is_ok)))

-- nothing refuses it
never_refused : (x : Slice) (v : Inner) (m : Posting) (s : SessionState) (line t i : ℕ) (user : Option (List ℕ)) (used ts n : ℕ) (h : Held) (errno : Errno) → IsQueueingSlice x v m s line t i user used ts n h →
    Goes v.frames s x.job (earlier_of x) line (QBuf t i user used ts) (driver_state x) v.ahead (Err errno) → ⊥
never_refused x v m s line t i user used ts n h errno k goes = by_reply goes.0 goes.1 goes.2 goes.3
  where
    by_reply : (reply : Reply) (b : LocalState) → response_to s.id (driver_state x) (QBuf t i user used ts) reply ≡ Denied (errno_number errno) →
        IsSlice v.frames s x.job (earlier_of x) (Some (Called line (QBuf t i user used ts) reply)) (driver_state x) b → ⊥
    by_reply (Refused e) b told slice =
        let by : LeadWith false s.id (driver_state x) (Called line (QBuf t i user used ts) (Refused e)) (earlier_of x ++ s.unsent) b = slice.leads in
        not_refused (driver_state x) by.0 line t i used ts user e k.pass by.1
    by_reply reply b told slice = never_denied s.id (driver_state x) (QBuf t i user used ts) reply (errno_number errno) refl told

queue_served : (o : Result IoctlAnswer Errno) (x x' : Slice) (v : Inner) (m : Posting) (d : DeviceState) (s : SessionState) (line t i : ℕ) (user : Option (List ℕ)) (used ts n : ℕ) (h : Held) (payload : List ℕ) (place : Option UserPlace) (memory : Bool) →
    ioctl_outcome memory s QBufCode payload (h ∷ []) ≡ o → IsQueueingSlice x v m s line t i user used ts n h → (buffer_in payload).kind ≡ t → session_of d s.id ≡ Some s → AreWords (QBuf t i user used ts) → Along (driver_state x) (QBuf t i user used ts) (h ∷ []) →
    way_of s.id (driver_state x) (QBuf t i user used ts) ≡ Crosses (record { command = Ioctl s.id QBufCode payload; user = place }) →
    x' ≡ record x { out = Told (told_by m (called_session d s.id QBufCode (h ∷ []) o)); session = session_in (called_session d s.id QBufCode (h ∷ []) o).device (id_ahead x.handle (Told (told_by m (called_session d s.id QBufCode (h ∷ []) o)))) } →
    IsWholeSlice x' → GoesOnSoundly x' v
queue_served (Err errno) x x' v m d s line t i user used ts n h payload place memory is k kind there words along way after whole =
    absurd (never_refused x v m s line t i user used ts n h errno k (queue_goes x v m s line t i user used ts n h payload place memory (Err errno) k is words along way (λ a is_ok. absurd (not_ok {A = IoctlAnswer} errno a is_ok))))
queue_served (Ok a) x x' v m d s line t i user used ts n h payload place memory is k kind there words along way after whole =
    let call : Call = QBuf t i user used ts in
    let answer : Answer = called_session d s.id QBufCode (h ∷ []) (Ok a) in
    let told : id_ahead x.handle (Told (told_by m answer)) ≡ Some s.id = told_id x line call (told_by m answer) k.under ∙ k.id in
    let live : session_in (with_session d s.id a.next) (id_ahead x.handle (Told (told_by m answer))) ≡ Some a.next =
    ap (session_in (with_session d s.id a.next)) told ∙ get_or-set_same d.sessions s.id (Some a.next) None (some_within d.sessions s.id s there) in
    let same : x' ≡ record x { out = Told (told_by m answer); session = Some a.next } = after ∙ ap (λ z. record x { out = Told (told_by m answer); session = z }) live in
    let own : IsSoundSession a.next = (subst IsWholeSlice same whole).session in
    let goes : Goes v.frames s x.job (earlier_of x) line call (driver_state x) v.ahead (Ok a) =
    queue_goes x v m s line t i user used ts n h payload place memory (Ok a) k is words along way (λ b is_ok. subst (λ (z : IoctlAnswer). IsSoundSession z.next) (ok_same {A = IoctlAnswer} a b is_ok) own) in
    let queued : IsQueuedIn s a.next t h = subst (λ z. IsQueuedIn s a.next z h) kind (queued_in memory s payload h a is) in
    subst (λ z. GoesOnSoundly z v) (sym same) (queue_sound x v m s a.next line t i user used ts n h answer a.payload goes.0 goes.1 k queued refl refl goes.2
    (subst (λ fs. IsSlice fs a.next x.job (earlier_of x) (Some (Called line call goes.0)) (driver_state x) goes.1) (append_none v.frames) goes.3))

-- ---- by the call

-- its request waits for the device: no other call than a stopping one waits in it
asked_at : (x : Slice) (v : Inner) (m : Posting) (posted : IsPosted x m) (t i : ℕ) (user : Option (List ℕ)) (used ts : ℕ) → posted.call ≡ QBuf t i user used ts → IsSoundSlice x v →
    (x.out ≡ Asked m) ⊎ (x.out ≡ Kept m) → x.out ≡ Asked m
asked_at x v m posted t i user used ts is sound (inl at) = at
asked_at x v m posted t i user used ts is sound (inr at) =
    let out : _ = subst (λ o. IsOut o x v) at sound.out in
    let kept : IsKept x m = out.1 in
    let same : kept.posted.call ≡ posted.call = call_same kept.posted.line posted.line kept.posted.call posted.call (sym kept.posted.underway ∙ posted.underway) in
    absurd (false≢true (sym (ap is_stopping (same ∙ is)) ∙ kept.stops))
  where
    call_same : (a b : ℕ) (c d : Call) → Underway a c ≡ Underway b d → c ≡ d
    call_same a b c d is = cc

-- the memory is on its way under its number
sent_away : (id : ℕ) (s : LocalState) (away : Away) (unanswered : Bool) (stage : Stage) (line : ℕ) (call : Call) (n : ℕ) → stage ≡ Underway line call → goes_along s call ≡ Some n → FitsStage id s away unanswered stage → away ≡ Sent n
sent_away id s away unanswered stage line call n under goes fits =
    let parts : FitsStage id s away unanswered (Underway line call) = subst (FitsStage id s away unanswered) under fits in
    subst (λ o. IsAlong o away) goes parts.2

queue_open : (s : LocalState) (t i used ts : ℕ) (user : Option (List ℕ)) → first_refusal (row_of s 0 0 (QBuf t i user used ts)).refusals ≡ None → s.opened ≡ true
unfolding qbuf_row
queue_open s t i used ts user pass = not-false s.opened (passes (qbuf_row s t i user used ts).refusals pass 0)

queue_by : (call : Call) (x x' : Slice) (v : Inner) (m : Posting) (c : Command) (d : DeviceState) (posted : IsPosted x m) → posted.call ≡ call → queues_buffer call ≡ true → IsSoundSlice x v →
    (x.out ≡ Asked m) ⊎ (x.out ≡ Kept m) → m.request.asks ≡ Judged (Ok c) → IsDeviceOf x d → IsServed m c d x x' → IsWholeSlice x' → GoesOnSoundly x' v
unfolding qbuf_crossing
queue_by (QBuf t i user used ts) x x' v m c d posted call queues sound at asked device served whole =
    let r : LocalState = driver_state x in
    let qbuf : Call = QBuf t i user used ts in
    let is : IsOutside x v = outside x v m sound at in
    let payload : List ℕ = buffer_bytes (qbuf_request r.model (buffer_queued r t i user used ts)) in
    let place : Option UserPlace = user_named r user in
    let crosses : crossing_from x.handle qbuf ≡ Some posted.crossing = subst (λ z. crossing_from x.handle z ≡ Some posted.crossing) call posted.crosses in
    let way : (first_refusal (row_of r 0 0 qbuf).refusals ≡ None) × (qbuf_crossing (id_of x.handle.session) r t i user used ts ≡ posted.crossing) =
    crossed_unrefused (first_refusal (row_of r 0 0 qbuf).refusals) (qbuf_crossing (id_of x.handle.session) r t i user used ts) posted.crossing crosses in
    let live : (s : SessionState) × (x.session ≡ Some s) × (x.handle.session ≡ Some s.id) = live_session x v d sound is (queue_open r t i used ts user way.0) in
    let s : SessionState = live.0 in
    let there : session_of d s.id ≡ Some s = ap (session_in d) (sym live.2) ∙ (device.session ∙ live.1) in
    let slice : IsSlice v.frames s x.job (earlier_of x) None r v.ahead = subst (λ e. IsSlice v.frames s x.job (earlier_of x) e r v.ahead) is.none (subst (λ o. IsSeated o x v) live.1 sound.seated) in
    let command : c ≡ Ioctl s.id QBufCode payload = sym (asked_same x m c posted asked) ∙ (ap (λ (z : Crossing). z.command) (sym way.1) ∙ ap (λ o. Ioctl (id_of o) QBufCode payload) live.2) in
    let behind : m.behind ≡ bytes_behind place = ap (λ (z : Posting). z.behind) posted.says ∙ ap (λ (z : Crossing). bytes_behind z.user) (sym way.1) in
    let memory : Along r qbuf (option_to_list posted.along) = subst (λ z. Along r z (option_to_list posted.along)) call posted.memory in
    let h : Held = memory.0 in
    let goes : GoesAlong r qbuf t i h = memory.2 in
    let held : m.held ≡ h ∷ [] = ap (λ (z : Posting). z.held) posted.says ∙ memory.1 in
    let along : Along r qbuf (h ∷ []) = (h, refl, goes, memory.3) in
    let away : x.handle.log.away ≡ Sent goes.number = sent_away (id_of x.handle.session) r x.handle.log.away x.handle.log.unanswered x.handle.stage posted.line qbuf goes.number (posted.underway ∙ ap (Underway posted.line) call) goes.along sound.handle.fits in
    let all : All (λ (z : Held). IsUsers r goes.number z.mem) (h ∷ []) = subst (All (λ (z : Held). IsUsers r goes.number z.mem)) held (sound.users.along m goes.number (asked_at x v m posted t i user used ts call sound at) away) in
    let users : IsUsers r goes.number h.mem = All-head (λ (z : Held). IsUsers r goes.number z.mem) h [] all in
    let comes : IsComing r t user h.mem = coming r t i used ts user goes.number h.mem is.reached sound.handle.range way.0 goes.along goes.memory users in
    let crossed : way_of s.id r qbuf ≡ Crosses (record { command = Ioctl s.id QBufCode payload; user = place }) = ap (λ o. unless_by o (Crosses (qbuf_crossing s.id r t i user used ts))) way.0 in
    let kinds : All (λ (z : Held). held_kind z.mem ≡ memory_number (local_queue r z.queue).memory) (h ∷ []) =
    All-cons (λ (z : Held). held_kind z.mem ≡ memory_number (local_queue r z.queue).memory) h [] (comes.kind ∙ ap (λ u. memory_number (local_queue r u).memory) (sym goes.queue)) (All-nil _) in
    let comes_as : ComesWith s (buffer_in payload) (h ∷ []) = slice_comes v.frames s x.job (earlier_of x) qbuf (h ∷ []) QBufCode payload place r v.ahead slice refl along kinds crossed in
    let come : comes_with s QBufCode payload m.behind m.held ≡ Ok (h ∷ []) =
    (λ j. brought s (buffer_in payload) (behind j) (held j)) ∙ is_brought s (buffer_in payload) (bytes_behind place) h comes_as comes.is_loaded in
    let kind : (buffer_in payload).kind ≡ t = sym (All-head (IsToldBy (buffer_in payload)) h [] comes_as.told).queue ∙ goes.queue in
    let does : IsServed m (Ioctl s.id QBufCode payload) d x x' = subst (λ z. IsServed m z d x x') command served in
    let o : Result IoctlAnswer Errno = ioctl_outcome does.1.0 s QBufCode payload (h ∷ []) in
    let answer : does.0 ≡ called_session d s.id QBufCode (h ∷ []) o =
    does.1.1
    ∙ (ap (λ z. in_session does.1.0 d s.id z QBufCode payload m.behind m.held) there
    ∙ ap (called_with does.1.0 d s.id s QBufCode payload m.held) come) in
    queue_served o x x' v m d s posted.line t i user used ts goes.number h payload place does.1.0 refl (record {
      sound = sound;
      is = is;
      under = posted.underway ∙ ap (Underway posted.line) call;
      crosses = subst IsSome (sym crosses) refl;
      who = ap (λ (z : Posting). z.request.who) posted.says;
      session = live.1;
      id = live.2;
      slice = slice;
      pass = way.0;
      goes = goes.along;
      queue = goes.queue;
      index = goes.index;
      users = users;
    }) kind there (subst AreWords call posted.words) along crossed
    (does.2 ∙ ap (λ (z : Answer). record x { out = Told (told_by m z); session = session_in z.device (id_ahead x.handle (Told (told_by m z))) }) answer) whole
queue_by call x x' v m c d posted is queues sound at asked device served whole = absurd (false≢true queues)

pub queue_keeps : CallsKeepSlice queues_buffer
queue_keeps x x' v m c d posted queues sound at asked device free served whole = queue_by posted.call x x' v m c d posted refl queues sound at asked device served whole
