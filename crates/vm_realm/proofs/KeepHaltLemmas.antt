-- Calls that stop a queue, and that the device does in a session, keep a slice sound.
use Rattle.std.proofs.Common.{◌≡◌, ◌≢◌, ◌⊎◌, inl, inr, ℕ, zero, suc, ◌<◌, ◌^◌, ◌&&◌, true, false, Bool, not, List, [], ◌∷◌, ◌++◌, All, length, get_or, set, Option, Some, None, IsSome, refl, sym, ap, ◌∙◌, subst, arith, lit<, if◌then◌else◌, true≢false}
use Rattle.std.specs.List.{flat_map}
use Rattle.std.specs.Option.{option_map, option_to_list}
use Rattle.std.specs.Prelude.{Result, Ok, Err, is_some, take}
use Rattle.std.proofs.lemmas.Bool.{false≢true, not-false, cases_eq}
use Rattle.std.proofs.lemmas.Option.{none-some}
use Rattle.std.proofs.lemmas.List.Elements.{All-nil, All-cons, All-head, All-tail}
use Rattle.std.proofs.lemmas.List.{get_or-set_same, get_or-set_other, length-set}
use Rattle.v4l_const.specs.Errno.{errno_number}
use Rattle.v4l_const.specs.declared.errno.Errno.{Errno}
use Rattle.v4l_const.specs.declared.ioctl_code.IoctlCode.{IoctlCode}
use Rattle.v4l_const.specs.declared.ioctl_code.IoctlCode.TheVariants.{ReqBufs as ReqBufsCode, StreamOff as StreamOffCode}
use Rattle.v4l_const.specs.Model.{queues as types_of}
use Rattle.v4l_rules.specs.Queues.{place_in}
use Rattle.v4l_rules.specs.Refusals.{first_refusal}
use Rattle.vm_frame.specs.declared.mem.Held.{Held}
use Rattle.vm_frame.specs.declared.mem.Mem.{Mem}
use Rattle.vm_job.specs.Job.{JobParts}
use Rattle.vm_queue.specs.Buffers.{memories}
use Rattle.vm_queue.specs.declared.queued.Queued.{Queued}
use Rattle.vm_wire.specs.Message.{Posting, Returning}
use Rattle.vm_wire.specs.Message.Ask.{Judged}
use Rattle.v4l_layout.specs.Records.{request_bytes}
use Rattle.vm_wire.specs.Buffers.{reqbufs_request}
use Rattle.vm_wire.specs.Wire.{le, response_bytes}
use Rattle.vm_wire.specs.declared.command.Command.{Command}
use Rattle.vm_wire.specs.declared.command.Command.TheVariants.{Ioctl}
use Rattle.vm_wire.specs.declared.response.Response.{Response}
use Rattle.vm_wire.specs.declared.response.Response.TheVariants.{Refused as Denied, Opened, Answered}
use Rattle.vm_local.specs.declared.call.Call.{Call}
use Rattle.vm_local.specs.declared.call.Call.TheVariants.{ReqBufs, StreamOff}
use Rattle.vm_local.specs.declared.entry.Entry.{Entry}
use Rattle.vm_local.specs.declared.entry.Entry.TheVariants.{Called}
use Rattle.vm_local.specs.declared.reply.Reply.{Reply}
use Rattle.vm_local.specs.declared.reply.Reply.TheVariants.{Refused}
use Rattle.vm_local.specs.State.{QueueState, LocalState, opening_queue as local_opening, queue_of as local_queue, buffer_of}
use Rattle.vm_local.specs.Queue.{with_buffers}
use Rattle.vm_local.specs.Record.{is_refusal as refuses}
use Rattle.vm_local.specs.Same.{address_in}
use Rattle.vm_local.specs.Steps.{number_of}
use Rattle.vm_local.specs.Calls.{row_of, reqbufs_row, streamoff_row}
use Rattle.vm_local.specs.Log.{IsCall, row_for, called, after}
use Rattle.vm_local.proofs.KeptLemmas.{some_same, refused_call}
use Rattle.vm_local.proofs.StepLemmas.{done_by}
use Rattle.vm_commute.specs.Commute.{may_cross}
use Rattle.vm_home.specs.Moves.{Place, memory_at, is_refusal, is_stopping, stops, stopped_count, queued_on, ComeBack, ComeWith}
use Rattle.vm_home.specs.Reached.{IsReached}
use Rattle.vm_home.proofs.RowLemmas.{type_at}
use Rattle.vm_home.proofs.StopLemmas.{memories_long}
use Rattle.vm_exchange.specs.declared.crossing.Crossing.{Crossing}
use Rattle.vm_exchange.specs.declared.way.Way.TheVariants.{Crosses, AnsweredHere}
use Rattle.vm_exchange.specs.Exchange.{way_of, asks, crossing, response_to}
use Rattle.vm_exchange.specs.Range.{AreWords}
use Rattle.vm_exchange.proofs.OutcomeLemmas.{outcome}
use Rattle.vm_handle.specs.Answers.{session_from}
use Rattle.vm_handle.specs.Handle.{HandleState, id_of, crossing_from}
use Rattle.vm_handle.specs.declared.stage.Stage.TheVariants.{Underway}
use Rattle.vm_session.specs.Buffers.{queued_memories}
use Rattle.vm_session.specs.Rows.{reqbufs_row as s_reqbufs, streamoff_row as s_streamoff, IoctlRow, IoctlAnswer, ioctl_row, refused_or, or_no_memory, refusal_of, ioctl_outcome, held_after, puts_back}
use Rattle.vm_session.proofs.ReadBackLemmas.{reqbufs_call_reads, streamoff_reads}
use Rattle.vm_session.specs.Sound.{IsSound as IsSoundSession}
use Rattle.vm_session.specs.State.{SessionQueue, SessionState, opening_queue, queue_of, is_quiet}
use Rattle.vm_session.specs.declared.running.Running.{Running}
use Rattle.vm_session.specs.declared.unsent.Unsent.{Unsent}
use Rattle.vm_stands.specs.Flight.{LeadAll}
use Rattle.vm_stands.specs.Laws.{frames_by, Along}
use Rattle.vm_stands.specs.Slice.{IsSlice, LeadWith, Stops}
use Rattle.vm_stands.specs.Stands.{IsMemoryAt}
use Rattle.vm_stands.proofs.SliceLemmas.{all_reached}
use Rattle.vm_stands.proofs.SliceCallLemmas.{slice_stops_for}
use Rattle.vm_stands.proofs.SliceComeLemmas.{slice_refuses_for}
use Rattle.vm_stands.proofs.StopLemmas.{Quiet, quiet_is, back_from}
use Rattle.vm_device.specs.Brought.{comes_with}
use Rattle.vm_device.specs.Device.{DeviceState, session_of, with_session}
use Rattle.vm_device.specs.Perform.{Answer, called as called_session, called_with, in_session, refused, is_busy, stops_in, must_wait}
use Rattle.vm_realm.specs.Inner.{Inner, driver_state, under_way, unsent_in}
use Rattle.vm_realm.specs.Laws.{GoesOnSoundly, CallsKeepSlice, halts_queue}
use Rattle.vm_realm.specs.Places.{told_state, stopped_by as stopped_many, queued_held, job_held}
use Rattle.vm_realm.specs.Slice.{Slice, id_ahead, session_in, earlier_of}
use Rattle.vm_realm.specs.Slice.Out.{Asked, Kept, Told}
use Rattle.vm_realm.specs.SliceSteps.{IsFirst, IsDeviceOf, IsServed, told_by}
use Rattle.vm_realm.specs.Sound.{IsPosted, IsBefore, IsSeated, spec_running, IsSoundSlice, IsWholeSlice}
use Rattle.vm_realm.specs.Users.{IsUsers, AreUsers}
use Rattle.vm_realm.proofs.KeepStateLemmas.{IsAlike, lead_alike}
use Rattle.vm_realm.proofs.KeepOutLemmas.{append_none, on_soundly}
use Rattle.vm_realm.proofs.KeepOwnLemmas.{told_held}
use Rattle.vm_realm.proofs.KeepTakeLemmas.{stop_response}
use Rattle.vm_realm.proofs.KeepFrameLemmas.{lead_same, take_none, told_first}
use Rattle.vm_realm.proofs.KeepBusyLemmas.{places_all}
use Rattle.vm_realm.proofs.KeepReplyLemmas.{users_like, like_call}
use Rattle.vm_realm.proofs.KeepServeLemmas.{asked_same, done_sound}
use Rattle.vm_realm.proofs.KeepOpenLemmas.{IsOutside, outside, none_along, none_runs, told_id, live_session, some_within}
use Rattle.vm_realm.proofs.KeepPlainLemmas.{outcome_row, ok_same, not_ok}

-- ---- the call

-- What is so of a call that stops the queue of type t.
pub record IsHaltCall (call : Call) (t : ℕ) : Type 0 where
  pub may : may_cross call ≡ true
  pub halts : is_stopping call ≡ true
  pub first : (h : HandleState) → IsFirst h call
  pub session : (o : Option ℕ) (reply : Reply) (response : Response) → session_from o call reply response ≡ o
  pub along : (s : LocalState) (held : List Held) → Along s call held → held ≡ []
  pub stops_it : (s : LocalState) → stops s call ≡ t ∷ []
  pub others : (s b : LocalState) (line : ℕ) (reply : Reply) → is_refusal reply ≡ false → IsCall s line call reply b → (u : ℕ) → place_in (types_of s.model) u ≢ place_in (types_of s.model) t →
      local_queue b u ≡ local_queue s u
  pub address : (s b : LocalState) (line : ℕ) (reply : Reply) → IsCall s line call reply b → address_in reply ≡ 0

off_next : (s : LocalState) (line addr t u : ℕ) → place_in (types_of s.model) u ≢ place_in (types_of s.model) t → local_queue (row_of s line addr (StreamOff t)).next u ≡ local_queue s u
unfolding streamoff_row
off_next s line addr t u apart = get_or-set_other s.queues (place_in (types_of s.model) t) (place_in (types_of s.model) u) _ local_opening apart

bufs_next : (s : LocalState) (line addr t m n u : ℕ) → place_in (types_of s.model) u ≢ place_in (types_of s.model) t → local_queue (row_of s line addr (ReqBufs t m n)).next u ≡ local_queue s u
unfolding reqbufs_row with_buffers
bufs_next s line addr t m n u apart = get_or-set_other s.queues (place_in (types_of s.model) t) (place_in (types_of s.model) u) _ local_opening apart

same_refusal : (reply : Reply) → is_refusal reply ≡ false → refuses reply ≡ false
same_refusal reply is = is

off_reply : (s : LocalState) (line addr t : ℕ) → address_in (row_of s line addr (StreamOff t)).reply ≡ 0
unfolding streamoff_row
off_reply s line addr t = refl

bufs_reply : (s : LocalState) (line addr t m n : ℕ) → address_in (row_of s line addr (ReqBufs t m n)).reply ≡ 0
unfolding reqbufs_row
bufs_reply s line addr t m n = refl

off_call : (t : ℕ) → IsHaltCall (StreamOff t) t
unfolding called
off_call t = record {
  may = refl;
  halts = refl;
  first = λ h. tt;
  session = λ o r z. refl;
  along = λ s held is. is;
  stops_it = λ s. refl;
  others = λ s b line reply done leads u apart.
      let went : _ = done_by (first_refusal (row_for s line (StreamOff t) reply).refusals) (row_for s line (StreamOff t) reply) s reply b (same_refusal reply done) leads in
      ap (λ z. local_queue z u) went.3 ∙ off_next s line (address_in reply) t u apart;
  address = λ s b line reply leads. elim (outcome s line (StreamOff t) reply b leads) as (λ _. address_in reply ≡ 0) [
    | inl refusing ↦ ap address_in refusing.1
    | inr told ↦ ap address_in told.1 ∙ off_reply s line (address_in reply) t
  ];
}

bufs_call : (t m n : ℕ) → IsHaltCall (ReqBufs t m n) t
unfolding called
bufs_call t m n = record {
  may = refl;
  halts = refl;
  first = λ h. tt;
  session = λ o r z. refl;
  along = λ s held is. is;
  stops_it = λ s. refl;
  others = λ s b line reply done leads u apart.
      let went : _ = done_by (first_refusal (row_for s line (ReqBufs t m n) reply).refusals) (row_for s line (ReqBufs t m n) reply) s reply b (same_refusal reply done) leads in
      ap (λ z. local_queue z u) went.3 ∙ bufs_next s line (address_in reply) t m n u apart;
  address = λ s b line reply leads. elim (outcome s line (ReqBufs t m n) reply b leads) as (λ _. address_in reply ≡ 0) [
    | inl refusing ↦ ap address_in refusing.1
    | inr told ↦ ap address_in told.1 ∙ bufs_reply s line (address_in reply) t m n
  ];
}

-- ---- the session

-- What the row of such a call leaves of a session, and what it puts back.
pub record IsHaltRow (s : SessionState) (t : ℕ) (r : IoctlRow) : Type 0 where
  pub id : r.next.id ≡ s.id
  pub running : r.next.running ≡ s.running
  pub unsent : r.next.unsent ≡ s.unsent
  pub fresh : List Held
  pub back : r.back ≡ memories (queue_of s t).queued ++ fresh
  pub queue : SessionQueue
  pub queues : r.next.queues ≡ set s.queues (place_in (types_of s.model) t) queue
  pub none : queue.queued ≡ []

off_row : (s : SessionState) (t : ℕ) → IsHaltRow s t (s_streamoff s t)
unfolding s_streamoff
off_row s t = record { id = refl; running = refl; unsent = refl; fresh = []; back = sym (append_none (memories (queue_of s t).queued)); queue = _; queues = refl; none = refl }

bufs_row : (s : SessionState) (t m n : ℕ) → IsHaltRow s t (s_reqbufs s t m n)
unfolding s_reqbufs
bufs_row s t m n = record { id = refl; running = refl; unsent = refl; fresh = _; back = refl; queue = _; queues = refl; none = refl }

-- ---- users' memories

pub part_all : (P : Held → Type 0) (qs : List SessionQueue) (p : ℕ) → All P (queued_memories qs) → All P (memories (get_or qs p opening_queue).queued)
part_all P [] p all = All-nil P
part_all P (q ∷ qs) zero all = front (memories q.queued) all
  where
    front : (xs : List Held) → All P (xs ++ queued_memories qs) → All P xs
    front [] all = All-nil P
    front (x ∷ xs) all = All-cons P x xs (All-head P x (xs ++ queued_memories qs) all) (front xs (All-tail P x (xs ++ queued_memories qs) all))
part_all P (q ∷ qs) (suc p) all = part_all P qs p (behind (memories q.queued) all)
  where
    behind : (xs : List Held) → All P (xs ++ queued_memories qs) → All P (queued_memories qs)
    behind [] all = all
    behind (x ∷ xs) all = behind xs (All-tail P x (xs ++ queued_memories qs) all)

take_front : (P : Held → Type 0) (xs ys : List Held) (n : ℕ) → n ≡ length xs → All P xs → All P (take n (xs ++ ys))
take_front P [] ys n long all = subst (λ k. All P (take k ys)) (sym long) (All-nil P)
take_front P (x ∷ xs) ys n long all =
    subst (λ k. All P (take k (x ∷ (xs ++ ys)))) (sym long) (All-cons P x (take (length xs) (xs ++ ys)) (All-head P x xs all) (take_front P xs ys (length xs) refl (All-tail P x xs all)))

come_with_reply : (s b : LocalState) (id : ℕ) (call : Call) (reply : Reply) (p : List ℕ) (held : List Held) → response_to id s call reply ≡ Answered p → ComeBack s b call held → (is_refusal reply ≡ false) × ComeWith s b call reply held
come_with_reply s b id call (Refused e) p held told come = absurd (apart (errno_number e) p told)
  where
    apart : (n : ℕ) (p : List ℕ) → Denied n ≡ Answered p → ⊥
    apart n p is = cc
come_with_reply s b id call reply p held told come = (refl, come)

-- ---- it is refused

-- what is so of a slice whose call is to be done in its session
pub record IsHalting (x : Slice) (v : Inner) (m : Posting) (s : SessionState) (line : ℕ) (call : Call) : Type 0 where
  pub sound : IsSoundSlice x v
  pub is : IsOutside x v
  pub under : x.handle.stage ≡ Underway line call
  pub crosses : IsSome (crossing_from x.handle call)
  pub who : m.request.who ≡ x.who
  pub session : x.session ≡ Some s
  pub id : x.handle.session ≡ Some s.id
  pub slice : IsSlice v.frames s x.job (earlier_of x) None (driver_state x) v.ahead

halt_refused : (x : Slice) (v : Inner) (m : Posting) (d : DeviceState) (s : SessionState) (errno : Errno) (line : ℕ) (call : Call) (t : ℕ) → IsHaltCall call t → IsHalting x v m s line call →
    IsSlice v.frames s x.job (earlier_of x) (Some (Called line call (Refused errno))) (driver_state x) v.ahead →
    GoesOnSoundly (record x { out = Told (told_by m (refused errno [] d)); session = Some s }) v
halt_refused x v m d s errno line call t p h slice =
    let r : LocalState = driver_state x in
    let e : Entry = Called line call (Refused errno) in
    let by : LeadWith true s.id r e (earlier_of x ++ s.unsent) v.ahead = subst (λ b. LeadWith b s.id r e (earlier_of x ++ s.unsent) v.ahead) p.halts slice.leads in
    let same : v.ahead ≡ by.0 = refused_call by.0 line call errno v.ahead by.2 in
    let calls : IsCall v.ahead line call (Refused errno) v.ahead = subst (λ z. IsCall z line call (Refused errno) v.ahead) (sym same) by.2 in
    let leads : LeadAll s.id r (earlier_of x ++ s.unsent) v.ahead = subst (LeadAll s.id r (earlier_of x ++ s.unsent)) (sym same) by.1 in
    let reply : Returning = told_by m (refused errno [] d) in
    let told : id_ahead x.handle (Told reply) ≡ Some s.id = told_id x line call reply h.under ∙ (p.session x.handle.session _ _ ∙ h.id) in
    let w : Inner = record v { executed = Some e; before = v.ahead } in
    on_soundly (record x { out = Told reply; session = Some s }) v w refl (done_sound x v w reply (Some s) h.sound (record {
      told = record {
        line = line;
        call = call;
        reply = Refused errno;
        next = v.ahead;
        underway = h.under;
        crosses = h.crosses;
        first = p.first x.handle;
        executed = refl;
        before = subst (λ b. IsBefore b (record x { out = Told reply; session = Some s }) v.ahead) (sym p.halts)
            (subst (λ n. LeadAll n r (earlier_of x ++ s.unsent) v.ahead) (ap id_of (sym told)) leads);
        is_call = calls;
        who = h.who;
        bytes = refl;
        address = lit< tt;
        small = λ k opens. absurd (apart (errno_number errno) k opens);
        memories = refl;
        quiet = λ halts done. absurd (true≢false done);
      };
      seated = slice;
      named = told;
      runs = ap spec_running (sym h.session) ∙ h.sound.runs;
      under = ap (λ o. earlier_of x ++ unsent_in o) (sym h.session);
      back = subst (AreUsers v.ahead) (sym (take_none (stopped_many v.ahead (Some e)))) (All-nil _);
      messages = subst (λ z. AreUsers z (told_held x)) (sym (told_first w e refl p.halts))
          (subst (λ z. AreUsers z (told_held x)) (ap (λ k. told_state (record v { executed = k })) h.is.none) h.sound.users.messages);
      queued = subst (λ o. AreUsers v.ahead (queued_held o)) h.session h.sound.users.queued;
      taken = h.sound.users.job;
    }))
  where
    apart : (n k : ℕ) → Denied n ≡ Opened k → ⊥
    apart n k is = cc

-- ---- it is done

-- the memories that are queued in the other queues are so still
queued_left : (frames : List ℕ) (s : SessionState) (job : Option JobParts) (earlier : List Unsent) (executed : Option Entry) (r a b : LocalState) (t : ℕ) (row : IoctlRow) → IsReached a → IsSlice frames s job earlier executed r a →
    IsHaltRow s t row → ((u : ℕ) → place_in (types_of a.model) u ≢ place_in (types_of a.model) t → local_queue b u ≡ local_queue a u) → ((m : ℕ) (mem : Mem) → IsUsers a m mem → IsUsers b m mem) →
    AreUsers a (queued_memories s.queues) → AreUsers b (queued_memories row.next.queues)
queued_left frames s job earlier executed r a b t row reached slice halt others carry users =
    subst (λ qs. All P (queued_memories qs)) (sym halt.queues)
    (places_all P (set s.queues p halt.queue) (λ k within. by_place k within (cases_eq k p)))
  where
    P : Held → Type 0
    P = λ h. IsUsers b (memory_at b h.queue h.index) h.mem

    p : ℕ
    p = place_in (types_of s.model) t

    model : s.model ≡ a.model
    model = slice.stands.model

    moved : (u : ℕ) (xs : List Queued) → local_queue b u ≡ local_queue a u → All (λ (q : Queued). IsMemoryAt a u q.buffer.index q.held) xs → AreUsers a (memories xs) → All P (memories xs)
    moved u [] same are users = All-nil P
    moved u (q ∷ qs) same are users =
        let M : Queued → Type 0 = λ z. IsMemoryAt a u z.buffer.index z.held in
        let A : Held → Type 0 = λ z. IsUsers a (memory_at a z.queue z.index) z.mem in
        let queue : q.held.queue ≡ u = (All-head M q qs are).queue in
        let number : memory_at b q.held.queue q.held.index ≡ memory_at a q.held.queue q.held.index =
        ap (λ k. memory_at b k q.held.index) queue ∙ (ap (λ (z : QueueState). number_of (buffer_of z q.held.index)) same ∙ ap (λ k. memory_at a k q.held.index) (sym queue)) in
        All-cons P q.held (memories qs) (subst (λ n. IsUsers b n q.held.mem) (sym number) (carry (memory_at a q.held.queue q.held.index) q.held.mem (All-head A q.held (memories qs) users)))
        (moved u qs same (All-tail M q qs are) (All-tail A q.held (memories qs) users))

    by_place : (k : ℕ) → k < length (set s.queues p halt.queue) → (k ≡ p) ⊎ (k ≢ p) → All P (memories (get_or (set s.queues p halt.queue) k opening_queue).queued)
    by_place k within (inl same) =
        let inside : p < length s.queues = omega (arith, within, length-set s.queues p halt.queue, same) in
        let here : get_or (set s.queues p halt.queue) k opening_queue ≡ halt.queue = ap (λ j. get_or (set s.queues p halt.queue) j opening_queue) same ∙ get_or-set_same s.queues p halt.queue opening_queue inside in
        subst (λ (q : SessionQueue). All P (memories q.queued)) (sym here) (subst (λ xs. All P (memories xs)) (sym halt.none) (All-nil P))
    by_place k within (inr far) =
        let inside : k < length (types_of s.model) = omega (arith, within, length-set s.queues p halt.queue, slice.sound.queues) in
        let u : ℕ = get_or (types_of s.model) k 0 in
        let at : place_in (types_of s.model) u ≡ k = type_at s.model k inside in
        let other : place_in (types_of a.model) u ≢ place_in (types_of a.model) t = λ same. far (sym at ∙ (ap (λ m. place_in (types_of m) u) model ∙ (same ∙ ap (λ m. place_in (types_of m) t) (sym model)))) in
        let there : get_or (set s.queues p halt.queue) k opening_queue ≡ queue_of s u = get_or-set_other s.queues p k halt.queue opening_queue far ∙ ap (λ j. get_or s.queues j opening_queue) (sym at) in
        subst (λ (q : SessionQueue). All P (memories q.queued)) (sym there)
        (moved u (queue_of s u).queued (others u other) (slice.stands.each u).memories (part_all (λ h. IsUsers a (memory_at a h.queue h.index) h.mem) s.queues (place_in (types_of s.model) u) users))

halt_done : (x : Slice) (v : Inner) (m : Posting) (s : SessionState) (answer : Answer) (line : ℕ) (call : Call) (t : ℕ) (row : IoctlRow) (reply : Reply) (after_state : LocalState) (payload : List ℕ) → IsHaltCall call t → IsHalting x v m s line call →
    IsHaltRow s t row → is_quiet s ≡ true → answer.response ≡ Answered payload → answer.held ≡ row.back → response_to s.id v.ahead call reply ≡ Answered payload → ComeBack v.ahead after_state call row.back →
    IsSlice (v.frames ++ frames_by v.ahead call) row.next None (earlier_of x) (Some (Called line call reply)) (driver_state x) after_state →
    GoesOnSoundly (record x { out = Told (told_by m answer); session = Some row.next }) v
halt_done x v m s answer line call t row reply b payload p h halt calm response held answers come slice =
    let r : LocalState = driver_state x in
    let a : LocalState = v.ahead in
    let e : Entry = Called line call reply in
    let q : Quiet s = quiet_is s calm in
    let idle : x.job ≡ None = none_runs x v s h.sound h.session q.idle in
    let by : LeadWith true row.next.id r e (earlier_of x ++ row.next.unsent) b = subst (λ k. LeadWith k row.next.id r e (earlier_of x ++ row.next.unsent) b) p.halts slice.leads in
    let same : by.0 ≡ a = lead_same row.next.id s.id r by.0 a (earlier_of x ++ row.next.unsent) (earlier_of x ++ s.unsent) (ap (λ (us : List Unsent). earlier_of x ++ us) halt.unsent) by.1 h.slice.leads in
    let calls : IsCall a line call reply b = subst (λ z. IsCall z line call reply b) same by.2 in
    let there : IsReached a = all_reached s.id r a (earlier_of x ++ s.unsent) h.is.reached h.slice.leads in
    let on : IsAlike r a = lead_alike s.id r a (earlier_of x ++ s.unsent) h.is.reached h.slice.leads in
    let comes : (is_refusal reply ≡ false) × ComeWith a b call reply row.back = come_with_reply a b s.id call reply payload row.back answers come in
    let told_reply : Returning = told_by m answer in
    let told : id_ahead x.handle (Told told_reply) ≡ Some s.id = told_id x line call told_reply h.under ∙ (p.session x.handle.session _ _ ∙ h.id) in
    let under : earlier_of x ++ row.next.unsent ≡ under_way x = ap (λ (us : List Unsent). earlier_of x ++ us) halt.unsent ∙ ap (λ o. earlier_of x ++ unsent_in o) (sym h.session) in
    let bytes : response_to (id_of (id_ahead x.handle (Told told_reply))) r call reply ≡ Answered payload =
    ap (λ k. response_to (id_of k) r call reply) told ∙ (sym (stop_response s.id r a call reply p.halts on.model) ∙ answers) in
    let queued : AreUsers a (queued_memories s.queues) = subst (λ o. AreUsers a (queued_held o)) h.session h.sound.users.queued in
    let count : stopped_count a call ≡ length (memories (queue_of s t).queued) =
    ap (λ ts. length (flat_map (queued_on a) ts)) (p.stops_it a) ∙ (ap (λ (xs : List Place). length xs) (append_none (queued_on a t)) ∙ sym (memories_long a (queued_on a t) (memories (queue_of s t).queued) (back_from v.frames s a t (h.slice.stands.each t) q.idle))) in
    let w : Inner = record { executed = Some e; before = a; ahead = b; frames = v.frames ++ frames_by a call } in (
      w,
      frames_by a call,
      refl,
      done_sound x v w told_reply (Some row.next) h.sound (record {
        told = record {
          line = line;
          call = call;
          reply = reply;
          next = b;
          underway = h.under;
          crosses = h.crosses;
          first = p.first x.handle;
          executed = refl;
          before = subst (λ k. IsBefore k (record x { out = Told told_reply; session = Some row.next }) a) (sym p.halts)
              (subst (λ n. LeadAll n r (earlier_of x ++ row.next.unsent) a) (ap id_of (sym told))
              (subst (λ es. LeadAll s.id r es a) (ap (λ (us : List Unsent). earlier_of x ++ us) (sym halt.unsent)) h.slice.leads));
          is_call = calls;
          who = h.who;
          bytes = ap response_bytes (response ∙ sym bytes);
          address = subst (λ n. n < 2 ^ 64) (sym (p.address a b line reply calls)) (lit< tt);
          small = λ k opens. absurd (apart payload k (sym bytes ∙ opens));
          memories = subst (ComeWith a b call reply) (sym held) comes.1;
          quiet = λ halts done. (halt.unsent ∙ q.sent, idle);
        };
        seated = subst (λ j. IsSlice (v.frames ++ frames_by a call) row.next j (earlier_of x) (Some e) r b) (sym idle) slice;
        named = told ∙ ap Some (sym halt.id);
        runs = ap (λ o. option_map (λ (z : Running). z.spec) o) halt.running ∙ (ap spec_running (sym h.session) ∙ h.sound.runs);
        under = under;
        back = subst (λ hs. AreUsers a (take (stopped_count a call) hs)) (sym (held ∙ halt.back))
            (take_front (λ z. IsUsers a (memory_at a z.queue z.index) z.mem) (memories (queue_of s t).queued) halt.fresh (stopped_count a call) count
            (part_all (λ z. IsUsers a (memory_at a z.queue z.index) z.mem) s.queues (place_in (types_of s.model) t) queued));
        messages = subst (λ z. AreUsers z (told_held x)) (sym (told_first w e refl p.halts))
            (subst (λ z. AreUsers z (told_held x)) (ap (λ k. told_state (record v { executed = k })) h.is.none) h.sound.users.messages);
        queued = queued_left v.frames s x.job (earlier_of x) None r a b t row there h.slice halt (p.others a b line reply comes.0 calls)
            (λ n mem one. users_like a b n mem there (like_call a b line call reply p.may calls) one) queued;
        taken = subst (λ j. AreUsers b (job_held j)) (sym idle) (All-nil _);
      }),
    )
  where
    apart : (p : List ℕ) (k : ℕ) → Answered p ≡ Opened k → ⊥
    apart p k is = cc

-- ---- what the device answers

put_held : (code : IoctlCode) (held back : List Held) → puts_back code ≡ true → held_after code held back ≡ held ++ back
put_held ReqBufsCode held back puts = refl
put_held StreamOffCode held back puts = refl
put_held code held back puts = absurd (false≢true puts)

put_comes : (s : SessionState) (code : IoctlCode) (p wire : List ℕ) (held : List Held) → puts_back code ≡ true → comes_with s code p wire held ≡ Ok held
put_comes s ReqBufsCode p wire held puts = refl
put_comes s StreamOffCode p wire held puts = refl
put_comes s code p wire held puts = absurd (false≢true puts)

-- the session is quiet, or refuses the call at once
free_cases : (b : Bool) (o : Option Errno) (quiet : Bool) → b ≡ true → ((b && not (is_some o)) && not quiet) ≡ false → (quiet ≡ true) ⊎ ((errno : Errno) × (o ≡ Some errno))
free_cases true None quiet puts free = inl (not-false quiet free)
free_cases true (Some errno) quiet puts free = inr (errno, refl)
free_cases false o quiet puts free = absurd (false≢true puts)

-- What is so of the command of such a call.
pub record IsHaltWay (s : SessionState) (r : LocalState) (call : Call) (t : ℕ) (code : IoctlCode) (payload : List ℕ) (row : IoctlRow) : Type 0 where
  pub puts : puts_back code ≡ true
  pub way : way_of s.id r call ≡ Crosses (record { command = Ioctl s.id code payload; user = None })
  pub is_row : ioctl_row s code payload [] ≡ row
  pub halt : IsHaltRow s t row

halt_answered : (o : Result IoctlAnswer Errno) (x x' : Slice) (v : Inner) (m : Posting) (d : DeviceState) (s : SessionState) (code : IoctlCode) (payload : List ℕ) (line : ℕ) (call : Call) (t : ℕ) (row : IoctlRow) (memory : Bool) →
    ioctl_outcome memory s code payload [] ≡ o → IsHaltCall call t → IsHalting x v m s line call → IsHaltWay s (driver_state x) call t code payload row → session_of d s.id ≡ Some s → AreWords call → is_quiet s ≡ true →
    x' ≡ record x { out = Told (told_by m (called_session d s.id code [] o)); session = session_in (called_session d s.id code [] o).device (id_ahead x.handle (Told (told_by m (called_session d s.id code [] o)))) } →
    IsWholeSlice x' → GoesOnSoundly x' v
halt_answered (Err errno) x x' v m d s code payload line call t row memory is_outcome p h way there words calm after whole =
    let q : Quiet s = quiet_is s calm in
    let idle : x.job ≡ None = none_runs x v s h.sound h.session q.idle in
    let reply : Returning = told_by m (refused errno [] d) in
    let told : id_ahead x.handle (Told reply) ≡ Some s.id = told_id x line call reply h.under ∙ (p.session x.handle.session _ _ ∙ h.id) in
    let same : x' ≡ record x { out = Told reply; session = Some s } = after ∙ ap (λ k. record x { out = Told reply; session = k }) (ap (session_in d) told ∙ there) in
    let bare : IsSlice v.frames s None (earlier_of x) None (driver_state x) v.ahead = subst (λ j. IsSlice v.frames s j (earlier_of x) None (driver_state x) v.ahead) idle h.slice in
    let slice : Stops v.frames s (earlier_of x) line call (driver_state x) v.ahead (Err errno) =
    subst (Stops v.frames s (earlier_of x) line call (driver_state x) v.ahead) is_outcome
    (slice_stops_for v.frames s (earlier_of x) line call memory code payload None (driver_state x) v.ahead bare p.halts calm words way.way (λ a is_ok. absurd (not_ok {A = IoctlAnswer} errno a (sym is_outcome ∙ is_ok)))) in
    subst (λ z. GoesOnSoundly z v) (sym same) (halt_refused x v m d s errno line call t p h
    (subst (λ j. IsSlice v.frames s j (earlier_of x) (Some (Called line call (Refused errno))) (driver_state x) v.ahead) (sym idle) slice))
halt_answered (Ok a) x x' v m d s code payload line call t row memory is_outcome p h way there words calm after whole =
    let q : Quiet s = quiet_is s calm in
    let idle : x.job ≡ None = none_runs x v s h.sound h.session q.idle in
    let answer : Answer = called_session d s.id code [] (Ok a) in
    let told : id_ahead x.handle (Told (told_by m answer)) ≡ Some s.id = told_id x line call (told_by m answer) h.under ∙ (p.session x.handle.session _ _ ∙ h.id) in
    let live : session_in (with_session d s.id a.next) (id_ahead x.handle (Told (told_by m answer))) ≡ Some a.next =
    ap (session_in (with_session d s.id a.next)) told ∙ get_or-set_same d.sessions s.id (Some a.next) None (some_within d.sessions s.id s there) in
    let by : (a.next ≡ (ioctl_row s code payload []).next) × (a.back ≡ (ioctl_row s code payload []).back) = outcome_row (refusal_of memory (ioctl_row s code payload [])) (ioctl_row s code payload []) a is_outcome in
    let next : a.next ≡ row.next = by.0 ∙ ap (λ (z : IoctlRow). z.next) way.is_row in
    let back : a.back ≡ row.back = by.1 ∙ ap (λ (z : IoctlRow). z.back) way.is_row in
    let first : x' ≡ record x { out = Told (told_by m answer); session = Some a.next } = after ∙ ap (λ k. record x { out = Told (told_by m answer); session = k }) live in
    let own : IsSoundSession a.next = (subst IsWholeSlice first whole).session in
    let same : x' ≡ record x { out = Told (told_by m answer); session = Some row.next } = first ∙ ap (λ k. record x { out = Told (told_by m answer); session = Some k }) next in
    let bare : IsSlice v.frames s None (earlier_of x) None (driver_state x) v.ahead = subst (λ j. IsSlice v.frames s j (earlier_of x) None (driver_state x) v.ahead) idle h.slice in
    let stopped : Stops v.frames s (earlier_of x) line call (driver_state x) v.ahead (Ok a) =
    subst (Stops v.frames s (earlier_of x) line call (driver_state x) v.ahead) is_outcome
    (slice_stops_for v.frames s (earlier_of x) line call memory code payload None (driver_state x) v.ahead bare p.halts calm words way.way
    (λ b is_ok. subst (λ (z : IoctlAnswer). IsSoundSession z.next) (ok_same {A = IoctlAnswer} a b (sym is_outcome ∙ is_ok)) own)) in
    subst (λ z. GoesOnSoundly z v) (sym same) (halt_done x v m s answer line call t row stopped.0 stopped.1 a.payload p h way.halt calm refl (put_held code [] a.back way.puts ∙ back) stopped.2
    (subst (ComeBack v.ahead stopped.1 call) back stopped.3)
    (subst (λ n. IsSlice (v.frames ++ frames_by v.ahead call) n None (earlier_of x) (Some (Called line call stopped.0)) (driver_state x) stopped.1) next stopped.4))

halt_served : (x x' : Slice) (v : Inner) (m : Posting) (c : Command) (d : DeviceState) (s : SessionState) (code : IoctlCode) (payload : List ℕ) (line : ℕ) (call : Call) (t : ℕ) (row : IoctlRow) → IsHaltCall call t → IsHalting x v m s line call →
    IsHaltWay s (driver_state x) call t code payload row → IsDeviceOf x d → AreWords call → m.held ≡ [] → c ≡ Ioctl s.id code payload → must_wait d c ≡ false → IsServed m c d x x' → IsWholeSlice x' → GoesOnSoundly x' v
halt_served x x' v m c d s code payload line call t row p h way device words none command free served whole =
    let there : session_of d s.id ≡ Some s = ap (session_in d) (sym h.id) ∙ (device.session ∙ h.session) in
    let does : IsServed m (Ioctl s.id code payload) d x x' = subst (λ k. IsServed m k d x x') command served in
    let outcome_is : Result IoctlAnswer Errno = ioctl_outcome does.1.0 s code payload [] in
    let answer : does.0 ≡ called_session d s.id code [] outcome_is =
    does.1.1
    ∙ (ap (λ o. in_session does.1.0 d s.id o code payload m.behind m.held) there
    ∙ (ap (called_with does.1.0 d s.id s code payload m.held) (put_comes s code payload m.behind m.held way.puts)
    ∙ ap (λ hs. called_session d s.id code hs (ioctl_outcome does.1.0 s code payload hs)) none)) in
    let after : x' ≡ record x { out = Told (told_by m (called_session d s.id code [] outcome_is)); session = session_in (called_session d s.id code [] outcome_is).device (id_ahead x.handle (Told (told_by m (called_session d s.id code [] outcome_is)))) } =
    does.2 ∙ ap (λ (a : Answer). record x { out = Told (told_by m a); session = session_in a.device (id_ahead x.handle (Told (told_by m a))) }) answer in
    let waits : (stops_in (Some s) code payload && is_busy (Some s)) ≡ false = ap (λ o. stops_in o code payload && is_busy o) (sym there) ∙ subst (λ k. must_wait d k ≡ false) command free in
    by_free does.1.0 after (free_cases (puts_back code) (first_refusal (ioctl_row s code payload []).refusals) (is_quiet s) way.puts waits)
  where
    by_free : (memory : Bool) → x' ≡ record x { out = Told (told_by m (called_session d s.id code [] (ioctl_outcome memory s code payload []))); session = session_in (called_session d s.id code [] (ioctl_outcome memory s code payload [])).device (id_ahead x.handle (Told (told_by m (called_session d s.id code [] (ioctl_outcome memory s code payload []))))) } →
        (is_quiet s ≡ true) ⊎ ((errno : Errno) × (first_refusal (ioctl_row s code payload []).refusals ≡ Some errno)) → GoesOnSoundly x' v
    by_free memory after (inl calm) =
        halt_answered (ioctl_outcome memory s code payload []) x x' v m d s code payload line call t row memory refl p h way (ap (session_in d) (sym h.id) ∙ (device.session ∙ h.session)) words calm after whole
    by_free memory after (inr (errno, refusal)) =
        let slice : IsSlice v.frames s x.job (earlier_of x) (Some (Called line call (Refused errno))) (driver_state x) v.ahead =
        slice_refuses_for v.frames s x.job (earlier_of x) line call code payload None errno (driver_state x) v.ahead h.slice p.halts words way.way refusal in
        let is_outcome : ioctl_outcome memory s code payload [] ≡ Err errno =
        ap (λ o. refused_or (or_no_memory o ((ioctl_row s code payload []).may_lack_memory && not memory)) (record { payload = (ioctl_row s code payload []).payload; back = (ioctl_row s code payload []).back; next = (ioctl_row s code payload []).next })) refusal in
        let reply : Returning = told_by m (refused errno [] d) in
        let told : id_ahead x.handle (Told reply) ≡ Some s.id = told_id x line call reply h.under ∙ (p.session x.handle.session _ _ ∙ h.id) in
        let same : x' ≡ record x { out = Told reply; session = Some s } =
        after ∙ (ap (λ o. record x { out = Told (told_by m (called_session d s.id code [] o)); session = session_in (called_session d s.id code [] o).device (id_ahead x.handle (Told (told_by m (called_session d s.id code [] o)))) }) is_outcome
        ∙ ap (λ k. record x { out = Told reply; session = k }) (ap (session_in d) told ∙ (ap (session_in d) (sym h.id) ∙ (device.session ∙ h.session)))) in
        subst (λ z. GoesOnSoundly z v) (sym same) (halt_refused x v m d s errno line call t p h slice)

-- ---- by the call

open_command : (b : Bool) (id : ℕ) (code : IoctlCode) (payload : List ℕ) (c : Crossing) → crossing (if b then asks id code payload else AnsweredHere) ≡ Some c → (b ≡ true) × (c.command ≡ Ioctl id code payload)
open_command true id code payload c is = (refl, sym (ap (λ (k : Crossing). k.command) (some_same (record { command = Ioctl id code payload; user = None }) c c is)))
open_command false id code payload c is = absurd (none-some c is)

halting : (x : Slice) (v : Inner) (m : Posting) (d : DeviceState) (posted : IsPosted x m) (call : Call) → posted.call ≡ call → IsSoundSlice x v → IsOutside x v → (driver_state x).opened ≡ true →
    (s : SessionState) × IsHalting x v m s posted.line call
halting x v m d posted call same sound is open_now =
    let live : (s : SessionState) × (x.session ≡ Some s) × (x.handle.session ≡ Some s.id) = live_session x v d sound is open_now in
    let slice : IsSlice v.frames live.0 x.job (earlier_of x) v.executed (driver_state x) v.ahead = subst (λ o. IsSeated o x v) live.1 sound.seated in (
      live.0,
      record {
        sound = sound;
        is = is;
        under = posted.underway ∙ ap (Underway posted.line) same;
        crosses = subst (λ k. IsSome (crossing_from x.handle k)) same (subst IsSome (sym posted.crosses) refl);
        who = ap (λ (q : Posting). q.request.who) posted.says;
        session = live.1;
        id = live.2;
        slice = subst (λ e. IsSlice v.frames live.0 x.job (earlier_of x) e (driver_state x) v.ahead) is.none slice;
      },
    )

halt_by : (call : Call) (x x' : Slice) (v : Inner) (m : Posting) (c : Command) (d : DeviceState) (posted : IsPosted x m) → posted.call ≡ call → halts_queue call ≡ true → IsSoundSlice x v →
    (x.out ≡ Asked m) ⊎ (x.out ≡ Kept m) → m.request.asks ≡ Judged (Ok c) → IsDeviceOf x d → must_wait d c ≡ false → IsServed m c d x x' → IsWholeSlice x' → GoesOnSoundly x' v
halt_by (StreamOff t) x x' v m c d posted call halts sound at asked device free served whole =
    let r : LocalState = driver_state x in
    let is : IsOutside x v = outside x v m sound at in
    let p : IsHaltCall (StreamOff t) t = off_call t in
    let command : (r.opened ≡ true) × (posted.crossing.command ≡ Ioctl (id_of x.handle.session) StreamOffCode (le t)) =
    open_command r.opened (id_of x.handle.session) StreamOffCode (le t) posted.crossing (subst (λ k. crossing_from x.handle k ≡ Some posted.crossing) call posted.crosses) in
    let h : (s : SessionState) × IsHalting x v m s posted.line (StreamOff t) = halting x v m d posted (StreamOff t) call sound is command.0 in
    let words : AreWords (StreamOff t) = subst AreWords call posted.words in
    halt_served x x' v m c d h.0 StreamOffCode (le t) posted.line (StreamOff t) t (s_streamoff h.0 t) p h.1 (record {
      puts = refl;
      way = ap (λ b. if b then asks h.0.id StreamOffCode (le t) else AnsweredHere) command.0;
      is_row = streamoff_reads h.0 t [] words;
      halt = off_row h.0 t;
    }) device words (none_along x m posted (p.along r (option_to_list posted.along) (subst (λ k. Along r k (option_to_list posted.along)) call posted.memory)))
    (sym (asked_same x m c posted asked) ∙ (command.1 ∙ ap (λ o. Ioctl (id_of o) StreamOffCode (le t)) h.1.id)) free served whole
halt_by (ReqBufs t k n) x x' v m c d posted call halts sound at asked device free served whole =
    let r : LocalState = driver_state x in
    let is : IsOutside x v = outside x v m sound at in
    let p : IsHaltCall (ReqBufs t k n) t = bufs_call t k n in
    let payload : List ℕ = request_bytes (reqbufs_request t k n) in
    let command : (r.opened ≡ true) × (posted.crossing.command ≡ Ioctl (id_of x.handle.session) ReqBufsCode payload) =
    open_command r.opened (id_of x.handle.session) ReqBufsCode payload posted.crossing (subst (λ z. crossing_from x.handle z ≡ Some posted.crossing) call posted.crosses) in
    let h : (s : SessionState) × IsHalting x v m s posted.line (ReqBufs t k n) = halting x v m d posted (ReqBufs t k n) call sound is command.0 in
    let words : AreWords (ReqBufs t k n) = subst AreWords call posted.words in
    halt_served x x' v m c d h.0 ReqBufsCode payload posted.line (ReqBufs t k n) t (s_reqbufs h.0 t k n) p h.1 (record {
      puts = refl;
      way = ap (λ b. if b then asks h.0.id ReqBufsCode payload else AnsweredHere) command.0;
      is_row = reqbufs_call_reads h.0 t k n [] words.0 words.1 words.2;
      halt = bufs_row h.0 t k n;
    }) device words (none_along x m posted (p.along r (option_to_list posted.along) (subst (λ z. Along r z (option_to_list posted.along)) call posted.memory)))
    (sym (asked_same x m c posted asked) ∙ (command.1 ∙ ap (λ o. Ioctl (id_of o) ReqBufsCode payload) h.1.id)) free served whole
halt_by call x x' v m c d posted is halts sound at asked device free served whole = absurd (false≢true halts)

pub halt_keeps : CallsKeepSlice halts_queue
halt_keeps x x' v m c d posted halts sound at asked device free served whole = halt_by posted.call x x' v m c d posted refl halts sound at asked device free served whole
