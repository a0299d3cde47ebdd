-- What crosses is the same before and after the steps of the device.
use Rattle.std.proofs.Common.{◌≡◌, ℕ, true, false, not, List, [], ◌∷◌, length, map, Option, Some, None, refl, sym, ap, ◌∙◌, subst, if◌then◌else◌}
use Rattle.std.proofs.lemmas.Bool.{false≢true}
use Rattle.std.proofs.lemmas.List.Elements.{All-head, All-tail}
use Rattle.v4l_const.specs.declared.ioctl_code.IoctlCode.TheVariants.{QBuf as QBufCode}
use Rattle.v4l_layout.specs.Records.{buffer_bytes, request_bytes}
use Rattle.v4l_rules.specs.Refusals.{first_refusal}
use Rattle.vm_wire.specs.Buffers.{buffer_offset, qbuf_request, qbuf_answer, querybuf_answer, reqbufs_answer}
use Rattle.vm_wire.specs.Records.{capability_of}
use Rattle.vm_wire.specs.declared.command.Command.TheVariants.{Ioctl, Map, Unmap}
use Rattle.vm_wire.specs.declared.response.Response.TheVariants.{Answered}
use Rattle.v4l_layout.specs.Records.{capability_bytes}
use Rattle.vm_local.specs.declared.bound.Bound.{Bound}
use Rattle.vm_local.specs.declared.buffer.Buffer.{Buffer}
use Rattle.vm_local.specs.declared.call.Call.{Call}
use Rattle.vm_local.specs.declared.call.Call.TheVariants.{OpenHandle, CloseHandle, QueryCap, EnumFmt, GFmt, TryFmt, SFmt, EnumInput, GInput, SInput, ReqBufs, QueryBuf, UAlloc, QBuf, StreamOn, StreamOff, DqBuf, Mmap, Munmap, Peek, Hash, Poke, Fill, Subscribe, Unsubscribe, DqEvent}
use Rattle.vm_local.specs.declared.entry.Entry.{Entry}
use Rattle.vm_local.specs.declared.reply.Reply.{Reply}
use Rattle.vm_local.specs.declared.reply.Reply.TheVariants.{Refused, Done, Caps, Count, Buf}
use Rattle.vm_local.specs.State.{QueueState, LocalState, queue_of, buffer_of}
use Rattle.vm_local.specs.Memory.{named, memory_of, bytes_of, is_lent}
use Rattle.vm_local.specs.Queue.{brought, length_from, memory_from}
use Rattle.vm_local.specs.Live.{is_of_device}
use Rattle.vm_local.specs.declared.entry.Entry.TheVariants.{Called, Finish, Bad, Give}
use Rattle.vm_frame.specs.declared.mem.Held.{Held}
use Rattle.vm_wire.specs.Buffers.{IsQueuedBuffer}
use Rattle.vm_home.specs.ToCome.{IsStep}
use Rattle.vm_home.proofs.StepLemmas.{steps_to}
use Rattle.vm_home.proofs.DeviceLemmas.{qbuf_sends}
use Rattle.vm_stands.specs.Laws.{Along}
use Rattle.vm_stands.proofs.DoneLemmas.{device_after}
use Rattle.vm_local.specs.Calls.{row_of}
use Rattle.vm_local.specs.Log.{after, replay_from}
use Rattle.vm_local.proofs.KeptLemmas.{some_same}
use Rattle.vm_commute.specs.Commute.{may_cross, is_step, AreSteps, without_flags, SameButFlags}
use Rattle.vm_commute.proofs.AnswerLemmas.{refusal_after}
use Rattle.vm_commute.proofs.KeptLemmas.{outline_kept}
use Rattle.vm_commute.proofs.OutlineLemmas.{outlined, outline, queue_drawn, buffer_drawn}
use Rattle.vm_commute.proofs.ReachedLemmas.{reached_after}
use Rattle.vm_home.specs.Reached.{IsReached}
use Rattle.vm_exchange.specs.declared.way.Way.{Way}
use Rattle.vm_exchange.specs.declared.way.Way.TheVariants.{Crosses, AnsweredHere}
use Rattle.vm_exchange.specs.Exchange.{user_of_kind, user_bound, user_named, address_of, memory_number, memory_place, buffer_queued, sends, from_open, unless_by, qbuf_crossing, way_of, response_to}
use Rattle.vm_session.specs.declared.unsent.Unsent.{Unsent}
use Rattle.vm_exchange.specs.Messages.{flight_of}
use Rattle.vm_stands.specs.Flight.{LeadAll}
use Rattle.vm_commute.proofs.EventsLemmas.{by_first}
use Rattle.vm_stands.proofs.AheadLemmas.{flight_steps}
use Rattle.vm_stands.proofs.FlightLemmas.{all_replay}
use Rattle.vm_stands.proofs.LengthLemmas.{step_lengths}

-- ---- states alike

-- what of a state crosses is as in the other one
record IsStill (s t : LocalState) : Type 0 where
  opened : t.opened ≡ s.opened
  model : t.model ≡ s.model
  bound : t.bound ≡ s.bound
  kind : (u : ℕ) → (queue_of t u).memory ≡ (queue_of s u).memory
  size : (u i : ℕ) → (buffer_of (queue_of t u) i).length ≡ (buffer_of (queue_of s u) i).length
  memory : (u i : ℕ) → (buffer_of (queue_of t u) i).memory ≡ (buffer_of (queue_of s u) i).memory
  device : (m : ℕ) → is_of_device t m ≡ is_of_device s m
  long : (m : ℕ) → length (bytes_of t m) ≡ length (bytes_of s m)

step_still : (s t : LocalState) (e : Entry) → is_step e ≡ true → IsReached s → after s e ≡ Some t → IsStill s t
step_still s t e step reached leads =
    let same : outline t ≡ outline s = outline_kept s t e step reached leads in
    let all : (u : ℕ) → outlined (queue_of t u) ≡ outlined (queue_of s u) = λ u. sym (queue_drawn t u) ∙ (ap (λ (x : LocalState). queue_of x u) same ∙ queue_drawn s u) in
    record {
      opened = ap (λ (x : LocalState). x.opened) same;
      model = ap (λ (x : LocalState). x.model) same;
      bound = ap (λ (x : LocalState). x.bound) same;
      kind = λ u. ap (λ (q : QueueState). q.memory) (all u);
      size = λ u i. ap (λ (b : Buffer). b.length)
          (sym (buffer_drawn (queue_of t u) i) ∙ (ap (λ (q : QueueState). buffer_of q i) (all u) ∙ buffer_drawn (queue_of s u) i));
      memory = λ u i. ap (λ (b : Buffer). b.memory)
          (sym (buffer_drawn (queue_of t u) i) ∙ (ap (λ (q : QueueState). buffer_of q i) (all u) ∙ buffer_drawn (queue_of s u) i));
      device = device_after s t same;
      long = λ m. step_lengths s t e m step reached leads;
    }

-- ---- ways

named_still : (s t : LocalState) (u : List ℕ) → IsStill s t → named t u ≡ named s u
named_still s t u still = ap (λ bs. named (record s { bound = bs }) u) still.bound

bound_still : (s t : LocalState) (o : Option Bound) → IsStill s t → user_bound t o ≡ user_bound s o
bound_still s t None still = refl
bound_still s t (Some b) still = ap (λ n. user_of_kind b.kind n) (still.long b.memory)

user_still : (s t : LocalState) (user : Option (List ℕ)) → IsStill s t → user_named t user ≡ user_named s user
user_still s t None still = refl
user_still s t (Some u) still = ap (λ o. user_bound t o) (named_still s t u still) ∙ bound_still s t (named s u) still

length_still : (s t : LocalState) (u i : ℕ) (user : Option (List ℕ)) → IsStill s t →
    length_from t (brought t user) (buffer_of (queue_of t u) i) ≡ length_from s (brought s user) (buffer_of (queue_of s u) i)
length_still s t u i None still = still.size u i
length_still s t u i (Some name) still = ap (λ o. length (bytes_of t (memory_of o))) (named_still s t name still) ∙ still.long (memory_of (named s name))

buffer_still : (s t : LocalState) (u i : ℕ) (user : Option (List ℕ)) (used ts : ℕ) → IsStill s t → buffer_queued t u i user used ts ≡ buffer_queued s u i user used ts
unfolding buffer_queued
buffer_still s t u i user used ts still =
    let kind : (queue_of t u).memory ≡ (queue_of s u).memory = still.kind u in
    let place : user_named t user ≡ user_named s user = user_still s t user still in
    let long : length_from t (brought t user) (buffer_of (queue_of t u) i) ≡ length_from s (brought s user) (buffer_of (queue_of s u) i) = length_still s t u i user still in
    λ j. record {
      kind = u;
      index = i;
      bytesused = used;
      timestamp = ts;
      memory = memory_number (kind j);
      m = memory_place (place j) u i;
      length = long j;
    }

crossing_still : (id : ℕ) (s t : LocalState) (u i : ℕ) (user : Option (List ℕ)) (used ts : ℕ) → IsStill s t →
    qbuf_crossing id t u i user used ts ≡ qbuf_crossing id s u i user used ts
unfolding qbuf_crossing
crossing_still id s t u i user used ts still =
    let queued : buffer_queued t u i user used ts ≡ buffer_queued s u i user used ts = buffer_still s t u i user used ts still in
    let place : user_named t user ≡ user_named s user = user_still s t user still in
    λ j. record { command = Ioctl id QBufCode (buffer_bytes (qbuf_request (still.model j) (queued j))); user = place j }

open_still : (s t : LocalState) (way : Way) → IsStill s t → from_open t way ≡ from_open s way
open_still s t way still = ap (λ b. if b then way else AnsweredHere) still.opened

way_still : (id : ℕ) (s t : LocalState) (call : Call) → IsStill s t → may_cross call ≡ true →
    first_refusal (row_of t 0 0 call).refusals ≡ first_refusal (row_of s 0 0 call).refusals → way_of id t call ≡ way_of id s call
way_still id s t (OpenHandle nonblock) still may same = refl
way_still id s t CloseHandle still may same = open_still s t _ still
way_still id s t QueryCap still may same = open_still s t _ still
way_still id s t (EnumFmt u i) still may same = open_still s t _ still
way_still id s t (GFmt u) still may same = open_still s t _ still
way_still id s t (TryFmt u f w h) still may same = open_still s t _ still
way_still id s t (SFmt u f w h) still may same = open_still s t _ still
way_still id s t (EnumInput i) still may same = open_still s t _ still
way_still id s t GInput still may same = open_still s t _ still
way_still id s t (SInput i) still may same = open_still s t _ still
way_still id s t (ReqBufs u m n) still may same = open_still s t _ still
way_still id s t (QueryBuf u i) still may same = open_still s t _ still
way_still id s t (UAlloc u len off) still may same = absurd (false≢true may)
way_still id s t (QBuf u i user used ts) still may same =
    ap (λ o. unless_by o (Crosses (qbuf_crossing id t u i user used ts))) same
    ∙ ap (λ c. unless_by (first_refusal (row_of s 0 0 (QBuf u i user used ts)).refusals) (Crosses c)) (crossing_still id s t u i user used ts still)
way_still id s t (StreamOn u) still may same = open_still s t _ still
way_still id s t (StreamOff u) still may same = open_still s t _ still
way_still id s t (DqBuf u) still may same = absurd (false≢true may)
way_still id s t (Mmap m u i ro) still may same = ap (λ o. unless_by o (sends (Map id (not ro) (buffer_offset u i)))) same
way_still id s t (Munmap m) still may same =
    ap (λ o. unless_by o (sends (Unmap (address_of (named t m))))) same
    ∙ ap (λ o. unless_by (first_refusal (row_of s 0 0 (Munmap m)).refusals) (sends (Unmap (address_of o)))) (named_still s t m still)
way_still id s t (Peek m off len) still may same = absurd (false≢true may)
way_still id s t (Hash m) still may same = absurd (false≢true may)
way_still id s t (Poke m off bytes) still may same = absurd (false≢true may)
way_still id s t (Fill m seed) still may same = absurd (false≢true may)
way_still id s t (Subscribe e) still may same = open_still s t _ still
way_still id s t (Unsubscribe e) still may same = open_still s t _ still
way_still id s t DqEvent still may same = absurd (false≢true may)

ways_after : (id : ℕ) (steps : List Entry) (s t : LocalState) (call : Call) → AreSteps steps → IsReached s → replay_from s steps ≡ Some t → may_cross call ≡ true → way_of id t call ≡ way_of id s call
ways_after id [] s t call are reached leads may = ap (λ x. way_of id x call) (sym (some_same s t s leads))
ways_after id (e ∷ es) s t call are reached leads may =
    let P : Entry → Type 0 = λ x. is_step x ≡ true in
    let by : _ = by_first s t e es leads in
    let step : is_step e ≡ true = All-head P e es are in
    ways_after id es by.0 t call (All-tail P e es are) (reached_after s by.0 e reached by.1) by.2 may
    ∙ way_still id s by.0 call (step_still s by.0 e step reached by.1) may (refusal_after s by.0 e 0 0 call may step reached by.1)

pub ways_stay : (id : ℕ) (r s : LocalState) (call : Call) (es : List Unsent) → IsReached r → LeadAll id r es s → may_cross call ≡ true → way_of id s call ≡ way_of id r call
ways_stay id r s call es reached leads may =
    ways_after id (flight_of r.model (map (λ e. e.msg) es)) r s call (flight_steps r.model (map (λ e. e.msg) es)) reached (all_replay id r s es leads) may

-- ---- responses

response_still : (id : ℕ) (s t : LocalState) (call : Call) (reply : Reply) → IsStill s t → response_to id t call reply ≡ response_to id s call reply
response_still id s t call (Refused e) still = refl
response_still id s t QueryCap (Caps all device) still = ap (λ m. Answered (capability_bytes (capability_of m))) still.model
response_still id s t (ReqBufs u m n) (Count count) still = ap (λ x. Answered (request_bytes (reqbufs_answer x u m count))) still.model
response_still id s t (QueryBuf u i) (Buf len flags) still =
    (λ j. Answered (buffer_bytes (querybuf_answer (still.model j) u i (memory_number (still.kind u j)) len)))
response_still id s t (QBuf u i user used ts) Done still =
    let queued : buffer_queued t u i user used ts ≡ buffer_queued s u i user used ts = buffer_still s t u i user used ts still in
    λ j. Answered (buffer_bytes (qbuf_answer (qbuf_request (still.model j) (queued j))))
response_still id s t call reply still = refl

flagless : (id : ℕ) (s : LocalState) (call : Call) (reply : Reply) → response_to id s call (without_flags reply) ≡ response_to id s call reply
flagless id s (QueryBuf u i) (Buf len flags) = refl
flagless id s call (Refused e) = refl
flagless id s call reply = refl

responses_after : (id : ℕ) (steps : List Entry) (s t : LocalState) (call : Call) (reply : Reply) → AreSteps steps → IsReached s → replay_from s steps ≡ Some t →
    response_to id t call reply ≡ response_to id s call reply
responses_after id [] s t call reply are reached leads = ap (λ x. response_to id x call reply) (sym (some_same s t s leads))
responses_after id (e ∷ es) s t call reply are reached leads =
    let P : Entry → Type 0 = λ x. is_step x ≡ true in
    let by : _ = by_first s t e es leads in
    responses_after id es by.0 t call reply (All-tail P e es are) (reached_after s by.0 e reached by.1) by.2
    ∙ response_still id s by.0 call reply (step_still s by.0 e (All-head P e es are) reached by.1)

pub responses_stay : (id : ℕ) (r s : LocalState) (call : Call) (first_reply reply : Reply) (es : List Unsent) →
    IsReached r → LeadAll id r es s → SameButFlags first_reply reply → response_to id s call reply ≡ response_to id r call first_reply
responses_stay id r s call first_reply reply es reached leads same =
    responses_after id (flight_of r.model (map (λ e. e.msg) es)) r s call reply (flight_steps r.model (map (λ e. e.msg) es)) reached (all_replay id r s es leads)
    ∙ (sym (flagless id r call reply) ∙ (ap (λ x. response_to id r call x) (sym same) ∙ flagless id r call first_reply))

-- ---- the memory that goes along

number_still : (s t : LocalState) (u i : ℕ) (user : Option (List ℕ)) → IsStill s t →
    memory_from (brought t user) (buffer_of (queue_of t u) i) ≡ memory_from (brought s user) (buffer_of (queue_of s u) i)
number_still s t u i None still = still.memory u i
number_still s t u i (Some name) still = ap (λ o. Some (memory_of o)) (named_still s t name still)

home_step : (e : Entry) → is_step e ≡ true → IsStep e
home_step (Called line call reply) step = absurd (false≢true step)
home_step Finish step = tt
home_step Bad step = tt
home_step Give step = tt

along_step : (s t : LocalState) (e : Entry) (u i used ts : ℕ) (user : Option (List ℕ)) (held : List Held) → is_step e ≡ true → IsReached s → after s e ≡ Some t →
    first_refusal (row_of s 0 0 (QBuf u i user used ts)).refusals ≡ None → Along s (QBuf u i user used ts) held → Along t (QBuf u i user used ts) held
along_step s t e u i used ts user held step reached leads pass (h, one, goes, fits) =
    let still : IsStill s t = step_still s t e step reached leads in
    let sends : _ = qbuf_sends s 0 0 u i user used ts reached pass in
    let number : sends.0 ≡ goes.number = some_same sends.0 goes.number goes.number (sym sends.1.along ∙ goes.along) in
    let unlent : is_lent s goes.number ≡ false = ap (λ m. is_lent s m) (sym number) ∙ sends.1.unlent in
    let bytes : bytes_of t goes.number ≡ bytes_of s goes.number = (steps_to s t e reached (home_step e step) leads).bytes goes.number unlent in (
      h,
      one,
      record {
        number = goes.number;
        along = number_still s t u i user still ∙ goes.along;
        queue = goes.queue;
        index = goes.index;
        memory = record {
          bytes = goes.memory.bytes ∙ sym bytes;
          frame = λ is. goes.memory.frame (sym (still.device goes.number) ∙ is);
        };
      },
      subst IsQueuedBuffer (sym (buffer_still s t u i user used ts still)) fits,
    )

along_after : (steps : List Entry) (s t : LocalState) (u i used ts : ℕ) (user : Option (List ℕ)) (held : List Held) → AreSteps steps → IsReached s → replay_from s steps ≡ Some t →
    first_refusal (row_of s 0 0 (QBuf u i user used ts)).refusals ≡ None → Along s (QBuf u i user used ts) held → Along t (QBuf u i user used ts) held
along_after [] s t u i used ts user held are reached leads pass along = subst (λ x. Along x (QBuf u i user used ts) held) (some_same s t s leads) along
along_after (e ∷ es) s t u i used ts user held are reached leads pass along =
    let P : Entry → Type 0 = λ x. is_step x ≡ true in
    let by : _ = by_first s t e es leads in
    let step : is_step e ≡ true = All-head P e es are in
    along_after es by.0 t u i used ts user held (All-tail P e es are) (reached_after s by.0 e reached by.1) by.2
    (refusal_after s by.0 e 0 0 (QBuf u i user used ts) refl step reached by.1 ∙ pass)
    (along_step s by.0 e u i used ts user held step reached by.1 pass along)

pub along_stays : (id : ℕ) (r s : LocalState) (call : Call) (held : List Held) (es : List Unsent) →
    IsReached r → LeadAll id r es s → first_refusal (row_of r 0 0 call).refusals ≡ None → Along r call held → Along s call held
along_stays id r s (QBuf u i user used ts) held es reached leads pass along =
    along_after (flight_of r.model (map (λ e. e.msg) es)) r s u i used ts user held (flight_steps r.model (map (λ e. e.msg) es)) reached (all_replay id r s es leads) pass along
along_stays id r s call held es reached leads pass along = along

kind_after : (steps : List Entry) (s t : LocalState) (u : ℕ) → AreSteps steps → IsReached s → replay_from s steps ≡ Some t → (queue_of t u).memory ≡ (queue_of s u).memory
kind_after [] s t u are reached leads = ap (λ x. (queue_of x u).memory) (sym (some_same s t s leads))
kind_after (e ∷ es) s t u are reached leads =
    let P : Entry → Type 0 = λ x. is_step x ≡ true in
    let by : _ = by_first s t e es leads in
    kind_after es by.0 t u (All-tail P e es are) (reached_after s by.0 e reached by.1) by.2
    ∙ (step_still s by.0 e (All-head P e es are) reached by.1).kind u

pub kind_stays : (id : ℕ) (r s : LocalState) (u : ℕ) (es : List Unsent) → IsReached r → LeadAll id r es s → (queue_of s u).memory ≡ (queue_of r u).memory
kind_stays id r s u es reached leads =
    kind_after (flight_of r.model (map (λ e. e.msg) es)) r s u (flight_steps r.model (map (λ e. e.msg) es)) reached (all_replay id r s es leads)
