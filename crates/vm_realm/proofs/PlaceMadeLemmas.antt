-- Which frames the state ahead has: those of the log, or of the call whose reply is under way, where that is done.
use Rattle.std.proofs.Common.{◌≡◌, inl, inr, ℕ, zero, suc, ◌<◌, ◌^◌, Bool, true, false, List, [], ◌∷◌, Option, Some, None, length, get_or, set, map, refl, sym, ap, ◌∙◌, subst, arith, lit<}
use Rattle.std.specs.List.{range_with_len}
use Rattle.std.proofs.lemmas.Bool.{false≢true, cases_Bool}
use Rattle.std.proofs.lemmas.List.Elements.{All-head, All-tail}
use Rattle.std.proofs.lemmas.Nat.{from_le_bytes-to_le_bytes_4}
use Rattle.v4l_const.specs.declared.errno.Errno.{Errno}
use Rattle.v4l_const.specs.declared.errno.Errno.TheVariants.{Enoent, Eio, Ebadf, Eagain, Enomem, Eacces, Efault, Ebusy, Einval, Enotty, Edeadlk, Emsgsize, Eopnotsupp}
use Rattle.v4l_const.specs.Errno.{errno_number}
use Rattle.v4l_const.specs.Model.{queues as types_of}
use Rattle.v4l_format.specs.Fmt.{picture_size}
use Rattle.v4l_rules.specs.Queues.{place_in}
use Rattle.vm_local.specs.declared.bound.MemoryKind.{MemoryKind}
use Rattle.vm_local.specs.declared.bound.MemoryKind.TheVariants.{Mmap, UserPtr}
use Rattle.vm_local.specs.declared.call.Call.{Call}
use Rattle.vm_local.specs.declared.call.Call.TheVariants.{CloseHandle, ReqBufs, UAlloc, StreamOff, Mmap as MapCall}
use Rattle.vm_local.specs.declared.entry.Entry.{Entry}
use Rattle.vm_local.specs.declared.entry.Entry.TheVariants.{Called}
use Rattle.vm_local.specs.declared.reply.Reply.{Reply}
use Rattle.vm_local.specs.declared.reply.Reply.TheVariants.{Refused}
use Rattle.vm_local.specs.State.{QueueState, LocalState, opening_queue, queue_of, no_buffer}
use Rattle.vm_local.specs.Calls.{row_of, reqbufs_row, streamoff_row, ualloc_row, mmap_row, closed}
use Rattle.vm_local.specs.Live.{is_of_device}
use Rattle.vm_local.specs.Log.{row_for, called, after, replay_from}
use Rattle.vm_local.specs.Queue.{is_user_ptr, memory_kind, granted, with_buffers, fresh_buffer, fresh_buffers, stopped}
use Rattle.vm_local.specs.Same.{address_in}
use Rattle.vm_local.proofs.StepLemmas.{passes}
use Rattle.vm_commute.specs.Commute.{is_step, AreSteps}
use Rattle.vm_commute.proofs.EventsLemmas.{by_first as by_one}
use Rattle.vm_home.specs.Moves.{is_refusal, is_stopping}
use Rattle.vm_home.specs.Reached.{IsReached}
use Rattle.vm_home.proofs.ComeLemmas.{renewed, reqbufs_one}
use Rattle.vm_home.proofs.FactLemmas.{facts_of, reached_after, closed_relates, off_relates}
use Rattle.vm_home.proofs.LawLemmas.{step_one}
use Rattle.vm_home.proofs.MoveLemmas.{Went, went}
use Rattle.vm_home.proofs.OwnLemmas.{put_at}
use Rattle.vm_home.proofs.PlaceLemmas.{same_test, buffer_at, kind_at, Relates, IsLess, device_at, device_from}
use Rattle.vm_home.proofs.StepLemmas.{steps_to}
use Rattle.vm_home.proofs.StopLemmas.{StopsOne}
use Rattle.vm_exchange.specs.Exchange.{response_to}
use Rattle.vm_exchange.specs.Messages.{flight_of}
use Rattle.vm_wire.specs.Wire.{number_at, response_bytes}
use Rattle.vm_wire.specs.declared.response.Response.{Response}
use Rattle.vm_wire.specs.declared.response.Response.TheVariants.{Refused as Denied, Opened, Closed, Answered, Mapped as MappedAt, Unmapped}
use Rattle.vm_wire.specs.Message.{Returning}
use Rattle.vm_session.specs.declared.unsent.Unsent.{Unsent}
use Rattle.vm_stands.specs.Flight.{LeadAll}
use Rattle.vm_stands.specs.Slice.{LeadAhead, LeadWith}
use Rattle.vm_stands.proofs.AheadLemmas.{flight_steps}
use Rattle.vm_stands.proofs.FlightLemmas.{all_replay}
use Rattle.vm_realm.specs.Inner.{Inner, driver_state, id_in, under_way}
use Rattle.vm_realm.specs.Slice.{Slice}
use Rattle.vm_realm.specs.Sound.{IsSoundSlice, IsTold}
use Rattle.vm_realm.proofs.KeepReplyLemmas.{never_denied}
use Rattle.vm_realm.proofs.PlaceLogLemmas.{refused_same}
use Rattle.vm_realm.proofs.PlaceOnceLemmas.{IsAhead, is_ahead, step_is, Executed, executed_is, Stopped, stopped_is}

-- ---- queues with the same memories

abbrev pub Alike : List QueueState → List QueueState → Type 0
Alike qs vs = (p : ℕ) → (kind_at vs p ≡ kind_at qs p) × ((i : ℕ) → (buffer_at vs p i).memory ≡ (buffer_at qs p i).memory)

alike_less : (qs vs : List QueueState) → Relates IsLess qs vs → Alike qs vs
alike_less qs vs less p = ((less p).kind, λ i. ((less p).buffers i).memory)

device_of : (s t : LocalState) (m : ℕ) → Alike s.queues t.queues → is_of_device s m ≡ true → is_of_device t m ≡ true
device_of s t m alike device =
    let x : _ = device_at s m device in
    device_from t x.0 x.1 m ((alike x.0).1 x.1 ∙ x.2) (ap is_user_ptr (alike x.0).0 ∙ x.3)

alike_back : (qs vs : List QueueState) → Alike qs vs → Alike vs qs
alike_back qs vs alike p = (sym (alike p).0, λ i. sym ((alike p).1 i))

pub device_alike : (s t : LocalState) (m : ℕ) → Alike s.queues t.queues → is_of_device t m ≡ is_of_device s m
device_alike s t m alike = same_test (is_of_device t m) (is_of_device s m) (device_of t s m (alike_back s.queues t.queues alike)) (device_of s t m alike)

-- and as many memories
pub record SameMade (s t : LocalState) : Type 0 where
  pub model : t.model ≡ s.model
  pub alike : Alike s.queues t.queues
  pub size : length t.memories ≡ length s.memories

same_state : (s t : LocalState) → ◌≡◌ {A = Option LocalState} (Some s) (Some t) → t ≡ s
same_state s t same = cc

pub made_itself : (s : LocalState) → SameMade s s
made_itself s = record { model = refl; alike = λ p. (refl, λ i. refl); size = refl }

pub made_then : (s t u : LocalState) → SameMade s t → SameMade t u → SameMade s u
made_then s t u first rest = record {
  model = rest.model ∙ first.model;
  alike = λ p. ((rest.alike p).0 ∙ (first.alike p).0, λ i. (rest.alike p).1 i ∙ (first.alike p).1 i);
  size = rest.size ∙ first.size;
}

step_made : (s t : LocalState) (e : Entry) → IsReached s → is_step e ≡ true → after s e ≡ Some t → SameMade s t
step_made s t e reached step leads = record {
  model = (steps_to s t e reached (step_is e step) leads).model;
  alike = alike_less s.queues t.queues (steps_to s t e reached (step_is e step) leads).less;
  size = (step_one s t e reached (step_is e step) leads).0;
}

pub steps_made : (es : List Entry) (s t : LocalState) → AreSteps es → IsReached s → replay_from s es ≡ Some t → SameMade s t
steps_made [] s t are reached leads = subst (SameMade s) (sym (same_state s t leads)) (made_itself s)
steps_made (e ∷ es) s t are reached leads =
    let P : Entry → Type 0 = λ x. is_step x ≡ true in
    let by : _ = by_one s t e es leads in
    made_then s by.0 t (step_made s by.0 e reached (All-head P e es are) by.1) (steps_made es by.0 t (All-tail P e es are) (reached_after s by.0 e reached by.1) by.2)

pub messages_made : (id : ℕ) (s t : LocalState) (es : List Unsent) → IsReached s → LeadAll id s es t → SameMade s t
messages_made id s t es reached leads =
    steps_made (flight_of s.model (map (λ (e : Unsent). e.msg) es)) s t (flight_steps s.model (map (λ (e : Unsent). e.msg) es)) reached (all_replay id s t es leads)

-- ---- what a call makes of them

-- the state that a call leads to from a state, but for its address and line
abbrev pub behind : LocalState → Call → LocalState
behind s call = (row_of s 0 0 call).next

pub row_frames : (s : LocalState) (line addr : ℕ) (call : Call) (m : ℕ) → is_of_device (row_of s line addr call).next m ≡ is_of_device (behind s call) m
unfolding ualloc_row mmap_row
row_frames s line addr (UAlloc name len off) m = refl
row_frames s line addr (MapCall name t i ro) m = refl
row_frames s line addr call m = refl

fresh_alike : (kind : MemoryKind) (size more first n i : ℕ) → (get_or (fresh_buffers kind more first n) i no_buffer).memory ≡ (get_or (fresh_buffers kind size first n) i no_buffer).memory
fresh_alike Mmap size more first n i = by_range (range_with_len first n) i
  where
    by_range : (ks : List ℕ) (i : ℕ) → (get_or (map (λ k. fresh_buffer more (Some k)) ks) i no_buffer).memory ≡ (get_or (map (λ k. fresh_buffer size (Some k)) ks) i no_buffer).memory
    by_range [] i = refl
    by_range (k ∷ ks) zero = refl
    by_range (k ∷ ks) (suc i) = by_range ks i
fresh_alike UserPtr size more first zero i = refl
fresh_alike UserPtr size more first (suc n) zero = refl
fresh_alike UserPtr size more first (suc n) (suc i) = fresh_alike UserPtr size more first n i

buffers_alike : (s t : LocalState) (u k n : ℕ) → SameMade s t → place_in (types_of s.model) u < length s.queues → place_in (types_of t.model) u < length t.queues →
    Alike (with_buffers s u (memory_kind k) (granted n)).queues (with_buffers t u (memory_kind k) (granted n)).queues
unfolding with_buffers
buffers_alike s t u k n same within there p =
    let at : ℕ = place_in (types_of s.model) u in
    let at_t : ℕ = place_in (types_of t.model) u in
    let one : at_t ≡ at = ap (λ m. place_in (types_of m) u) same.model in
    let v : QueueState = renewed s u k n in
    let w : QueueState = renewed t u k n in
    let Same : QueueState → QueueState → Type 0 = λ a b. (b.memory ≡ a.memory) × ((i : ℕ) → (get_or b.buffers i no_buffer).memory ≡ (get_or a.buffers i no_buffer).memory) in
    let fresh : Same v w = (
      refl,
      λ i. ap (λ f. (get_or (fresh_buffers (memory_kind k) (picture_size (queue_of t u).format) f (granted n)) i no_buffer).memory) same.size
          ∙ fresh_alike (memory_kind k) (picture_size (queue_of s u).format) (picture_size (queue_of t u).format) (length s.memories) (granted n) i,
    ) in
    elim (put_at s.queues at v within p) as (λ _. Same (get_or (set s.queues at v) p opening_queue) (get_or (set t.queues at_t w) p opening_queue)) [
      | inl here ↦ elim (put_at t.queues at_t w there p) as (λ _. Same (get_or (set s.queues at v) p opening_queue) (get_or (set t.queues at_t w) p opening_queue)) [
        | inl there ↦ subst (λ a. Same a (get_or (set t.queues at_t w) p opening_queue)) (sym here.1) (subst (λ b. Same v b) (sym there.1) fresh)
        | inr other ↦ absurd (other.0 (here.0 ∙ sym one))
      ]
      | inr other ↦ elim (put_at t.queues at_t w there p) as (λ _. Same (get_or (set s.queues at v) p opening_queue) (get_or (set t.queues at_t w) p opening_queue)) [
        | inl there ↦ absurd (other.0 (there.0 ∙ one))
        | inr too ↦ subst (λ a. Same a (get_or (set t.queues at_t w) p opening_queue)) (sym other.1) (subst (λ b. Same (get_or s.queues p opening_queue) b) (sym too.1) (same.alike p))
      ]
    ]

-- a stopping call that is done from a state behind messages makes what it makes in front of them
stop_frames : (s t : LocalState) (call : Call) (m : ℕ) → SameMade s t → IsReached s → IsReached t → is_stopping call ≡ true → (next : LocalState) (line : ℕ) (reply : Reply) → is_refusal reply ≡ false → called t line call reply ≡ Some next →
    is_of_device (behind t call) m ≡ is_of_device (behind s call) m
unfolding streamoff_row reqbufs_row
stop_frames s t CloseHandle m same reached there stopping next line reply answers leads =
    device_alike t (closed t) m (alike_less t.queues (closed t).queues (closed_relates t.queues))
    ∙ (device_alike s t m same.alike ∙ sym (device_alike s (closed s) m (alike_less s.queues (closed s).queues (closed_relates s.queues))))
stop_frames s t (StreamOff u) m same reached there stopping next line reply answers leads =
    device_alike t (stopped t u) m (alike_less t.queues (stopped t u).queues (off_relates t u))
    ∙ (device_alike s t m same.alike ∙ sym (device_alike s (stopped s u) m (alike_less s.queues (stopped s u).queues (off_relates s u))))
stop_frames s t (ReqBufs u k n) m same reached there stopping next line reply answers leads =
    let w : Went (row_for t line (ReqBufs u k n) reply) reply next = went t line (ReqBufs u k n) reply next answers leads in
    let so : (j : ℕ) → (get_or (reqbufs_row t u k n).refusals j (false, Enomem)).0 ≡ false = passes (reqbufs_row t u k n).refusals w.pass in
    let one : StopsOne t (with_buffers t u (memory_kind k) (granted n)) u (renewed t u k n) = reqbufs_one t u k n (facts_of t there).sound (so 1) in
    let long : length s.queues ≡ length t.queues = (facts_of s reached).sound.long ∙ (ap (λ m. length (types_of m)) (sym same.model) ∙ sym (facts_of t there).sound.long) in
    let place : place_in (types_of t.model) u ≡ place_in (types_of s.model) u = ap (λ m. place_in (types_of m) u) same.model in
    let within : place_in (types_of s.model) u < length s.queues = omega (arith, one.within, long, place) in
    device_alike (with_buffers s u (memory_kind k) (granted n)) (with_buffers t u (memory_kind k) (granted n)) m (buffers_alike s t u k n same within one.within)
stop_frames s t call m same reached there stopping next line reply answers leads = absurd (false≢true stopping)

-- ---- a slice

pub same_log : (x : Slice) (v : Inner) (m : ℕ) → IsSoundSlice x v → v.executed ≡ None → is_of_device v.ahead m ≡ is_of_device (driver_state x) m
same_log x v m sound none =
    let is : IsAhead x v = is_ahead x v sound in
    device_alike (driver_state x) v.ahead m (messages_made is.id (driver_state x) v.ahead (under_way x) is.reached (subst (λ e. LeadAhead is.id (driver_state x) e (under_way x) v.ahead) none is.leads)).alike

-- where a reply is under way, seen from a state
pub record TellsFrom (x : Slice) (v : Inner) (s : LocalState) (call : Call) (reply : Reply) (m : ℕ) : Type 0 where
  pub refused : is_refusal reply ≡ true → is_of_device v.ahead m ≡ is_of_device s m
  pub done : is_refusal reply ≡ false → is_of_device v.ahead m ≡ is_of_device (behind s call) m

abbrev pub TellsFrames : Slice → Inner → Call → Reply → ℕ → Type 0
TellsFrames x v call reply m = TellsFrom x v (driver_state x) call reply m

going_frames : (x : Slice) (v : Inner) (r : Returning) (t : IsTold x v r) (m : ℕ) → IsSoundSlice x v → is_stopping t.call ≡ false → TellsFrames x v t.call t.reply m
going_frames x v r t m sound goes =
    let s : LocalState = driver_state x in
    let e : Executed x v r t = executed_is x v r t sound in
    let leads : LeadWith false e.ahead.id s (Called t.line t.call t.reply) (under_way x) v.ahead =
    subst (λ b. LeadWith b e.ahead.id s (Called t.line t.call t.reply) (under_way x) v.ahead) goes e.leads in
    let u : LocalState = leads.0 in
    let between : IsReached u = reached_after s u (Called t.line t.call t.reply) e.ahead.reached leads.1 in
    let later : is_of_device v.ahead m ≡ is_of_device u m = device_alike u v.ahead m (messages_made e.ahead.id u v.ahead (under_way x) between leads.2).alike in
    record {
      refused = λ refused. later ∙ ap (λ (k : LocalState). is_of_device k m) (refused_same s u t.line t.call t.reply refused leads.1);
      done = λ answers.
          let w : Went (row_for s t.line t.call t.reply) t.reply u = went s t.line t.call t.reply u answers leads.1 in
          later ∙ (ap (λ (k : LocalState). is_of_device k m) w.next ∙ row_frames s t.line (address_in t.reply) t.call m);
    }

pub stopping_from : (x : Slice) (v : Inner) (r : Returning) (t : IsTold x v r) (s : LocalState) (m : ℕ) → SameMade s (driver_state x) → IsReached s → IsSoundSlice x v → is_stopping t.call ≡ true → TellsFrom x v s t.call t.reply m
stopping_from x v r t s m made reached sound stopping =
    let is : Stopped x v r t = stopped_is x v r t sound stopping in
    let same : SameMade s v.before = made_then s (driver_state x) v.before made (messages_made is.id (driver_state x) v.before (under_way x) is.reached is.leads) in
    record {
      refused = λ refused. ap (λ (k : LocalState). is_of_device k m) (refused_same v.before v.ahead t.line t.call t.reply refused is.last) ∙ device_alike s v.before m same.alike;
      done = λ answers.
          let w : Went (row_for v.before t.line t.call t.reply) t.reply v.ahead = went v.before t.line t.call t.reply v.ahead answers is.last in
          ap (λ (k : LocalState). is_of_device k m) w.next
          ∙ (row_frames v.before t.line (address_in t.reply) t.call m ∙ stop_frames s v.before t.call m same reached is.before stopping v.ahead t.line t.reply answers is.last);
    }

pub tells_frames : (x : Slice) (v : Inner) (r : Returning) (t : IsTold x v r) (m : ℕ) → IsSoundSlice x v → TellsFrames x v t.call t.reply m
tells_frames x v r t m sound = elim (cases_Bool (is_stopping t.call)) as (λ _. TellsFrames x v t.call t.reply m) [
  | inl stopping ↦ stopping_from x v r t (driver_state x) m (made_itself (driver_state x)) (is_ahead x v sound).reached sound stopping
  | inr goes ↦ going_frames x v r t m sound goes
]

-- ---- the bytes of a reply tell whether the call was refused

errno_some : (e : Errno) → (0 < errno_number e) × (errno_number e < 2 ^ 32)
errno_some Enoent = (lit< tt, lit< tt)
errno_some Eio = (lit< tt, lit< tt)
errno_some Ebadf = (lit< tt, lit< tt)
errno_some Eagain = (lit< tt, lit< tt)
errno_some Enomem = (lit< tt, lit< tt)
errno_some Eacces = (lit< tt, lit< tt)
errno_some Efault = (lit< tt, lit< tt)
errno_some Ebusy = (lit< tt, lit< tt)
errno_some Einval = (lit< tt, lit< tt)
errno_some Enotty = (lit< tt, lit< tt)
errno_some Edeadlk = (lit< tt, lit< tt)
errno_some Emsgsize = (lit< tt, lit< tt)
errno_some Eopnotsupp = (lit< tt, lit< tt)

status_done : (r : Response) → ((n : ℕ) → r ≡ Denied n → ⊥) → number_at 0 (response_bytes r) ≡ 0
status_done (Denied n) never = absurd (never n refl)
status_done (Opened session) never = refl
status_done Closed never = refl
status_done (Answered payload) never = refl
status_done (MappedAt addr len) never = refl
status_done Unmapped never = refl

status_refused : (id : ℕ) (s : LocalState) (call : Call) (reply : Reply) → is_refusal reply ≡ true → 0 < number_at 0 (response_bytes (response_to id s call reply))
status_refused id s call (Refused errno) refused =
    let told : number_at 0 (response_bytes (Denied (errno_number errno))) ≡ errno_number errno = from_le_bytes-to_le_bytes_4 (errno_number errno) (errno_some errno).1 in
    omega (arith, told, (errno_some errno).0)
status_refused id s call reply refused = absurd (false≢true refused)

status_is : (id : ℕ) (s : LocalState) (call : Call) (reply : Reply) → is_refusal reply ≡ false → number_at 0 (response_bytes (response_to id s call reply)) ≡ 0
status_is id s call reply answers = status_done (response_to id s call reply) (λ n denied. never_denied id s call reply n answers denied)

-- two replies with the same bytes
pub refused_alike : (x x' : Slice) (v v' : Inner) (r : Returning) (t : IsTold x v r) (t' : IsTold x' v' r) → is_refusal t.reply ≡ is_refusal t'.reply
refused_alike x x' v v' r t t' = by_flags (is_refusal t.reply) (is_refusal t'.reply) refl refl
  where
    bytes : response_bytes (response_to (id_in x) (driver_state x) t.call t.reply) ≡ response_bytes (response_to (id_in x') (driver_state x') t'.call t'.reply)
    bytes = sym t.bytes ∙ t'.bytes

    status : number_at 0 (response_bytes (response_to (id_in x) (driver_state x) t.call t.reply)) ≡ number_at 0 (response_bytes (response_to (id_in x') (driver_state x') t'.call t'.reply))
    status = ap (number_at 0) bytes

    by_flags : (b c : Bool) → is_refusal t.reply ≡ b → is_refusal t'.reply ≡ c → b ≡ c
    by_flags true true one two = refl
    by_flags false false one two = refl
    by_flags true false one two =
        absurd (omega (arith, status, status_refused (id_in x) (driver_state x) t.call t.reply one, status_is (id_in x') (driver_state x') t'.call t'.reply two))
    by_flags false true one two =
        absurd (omega (arith, status, status_is (id_in x) (driver_state x) t.call t.reply one, status_refused (id_in x') (driver_state x') t'.call t'.reply two))
