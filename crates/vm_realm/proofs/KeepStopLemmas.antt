-- Of a queue that a call stopped no frame is made until another call begins it anew.
use Rattle.std.proofs.Common.{◌≡◌, ◌⊎◌, inl, inr, ℕ, zero, suc, ◌<◌, Bool, true, false, List, [], ◌∷◌, ◌++◌, All, length, map, get_or, set, Option, Some, None, refl, sym, ap, ◌∙◌, subst, arith, if◌then◌else◌, true≢false}
use Rattle.std.proofs.lemmas.Bool.{false≢true, ltb-true, not-false}
use Rattle.std.proofs.lemmas.List.{get_or-set_same}
use Rattle.std.proofs.Math.ListN.{get_or-map}
use Rattle.std.proofs.lemmas.List.Elements.{All-nil, All-cons, All-head, All-tail, All-weaker}
use Rattle.v4l_const.specs.declared.model.Model.{Model}
use Rattle.v4l_const.specs.declared.model.Model.TheVariants.{Capture, Convert}
use Rattle.v4l_const.specs.declared.numbers.TheConstants.{BUF_TYPE_CAPTURE, BUF_TYPE_OUTPUT}
use Rattle.v4l_const.specs.Model.{queues as types_of}
use Rattle.v4l_rules.specs.Queues.{place_in, has_type}
use Rattle.v4l_rules.specs.Refusals.{first_refusal}
use Rattle.v4l_rules.proofs.SetLemmas.{set_keeps, formatted_keeps}
use Rattle.vm_local.specs.declared.call.Call.{Call}
use Rattle.vm_local.specs.declared.call.Call.TheVariants.{OpenHandle, CloseHandle, QueryCap, EnumFmt, GFmt, TryFmt, SFmt, EnumInput, GInput, SInput, ReqBufs, QueryBuf, UAlloc, QBuf, StreamOn, StreamOff, DqBuf, Mmap, Munmap, Peek, Hash, Poke, Fill, Subscribe, Unsubscribe, DqEvent}
use Rattle.vm_local.specs.declared.entry.Entry.{Entry}
use Rattle.vm_local.specs.declared.entry.Entry.TheVariants.{Called, Finish, Bad, Give}
use Rattle.vm_local.specs.declared.owed.Owed.{Owed as OwedEntry}
use Rattle.vm_local.specs.declared.owed.OwedItem.{OwedItem}
use Rattle.vm_local.specs.declared.owed.OwedItem.TheVariants.{Buffer as OwedBuffer, Sync}
use Rattle.vm_local.specs.declared.reply.Reply.{Reply}
use Rattle.vm_local.specs.State.{QueueState, LocalState, opening, opening_queue, queue_kind, queue_of}
use Rattle.vm_local.specs.Same.{address_in}
use Rattle.vm_local.specs.Queue.{can_finish, is_empty, stopped_queue, with_buffers, adjusted_for, started, taken_back}
use Rattle.vm_local.specs.Steps.{counted, with_done, item_given}
use Rattle.vm_local.specs.Calls.{Row, row_of, closed, querycap_row, enumfmt_row, gfmt_row, tryfmt_row, sfmt_row, enuminput_row, ginput_row, sinput_row, reqbufs_row, querybuf_row, ualloc_row, qbuf_row, streamon_row, streamoff_row, dqbuf_row, mmap_row, munmap_row, read_row, hash_row, write_row, fill_row, subscribe_row, unsubscribe_row, dqevent_row}
use Rattle.vm_local.specs.Log.{IsCall, row_for, called, after, replay, replay_from}
use Rattle.vm_local.specs.Record.{is_refusal as refuses}
use Rattle.vm_local.proofs.KeptLemmas.{some_same}
use Rattle.vm_local.proofs.StepLemmas.{passes, answered_by, done_by, finished_by, failed_by, given_by, Gave}
use Rattle.vm_commute.specs.Commute.{is_step, AreSteps}
use Rattle.vm_commute.proofs.EventsLemmas.{by_first}
use Rattle.vm_commute.proofs.ReachedLemmas.{IsReady, ready_at, reached_after, many_queues}
use Rattle.vm_home.specs.Moves.{is_refusal, is_stopping, stops}
use Rattle.vm_home.specs.Reached.{IsReached}
use Rattle.vm_session.specs.declared.unsent.Unsent.{Unsent}
use Rattle.vm_exchange.specs.Messages.{flight_of}
use Rattle.vm_stands.specs.Flight.{LeadAll}
use Rattle.vm_stands.specs.Slice.{LeadWith, LeadAhead}
use Rattle.vm_stands.proofs.AheadLemmas.{call_model, flight_steps}
use Rattle.vm_stands.proofs.FlightLemmas.{all_replay}
use Rattle.vm_realm.specs.Sound.{last_call_from, stopped_by}
use Rattle.vm_realm.proofs.KeepStateLemmas.{step_alike}
use Rattle.vm_realm.proofs.KeepTakeLemmas.{stopped_same}

-- ---- stopped queues

-- the queue of type t is one of the model's, doesn't stream, and has nothing queued
abbrev pub HasStopped : LocalState → ℕ → Type 0
HasStopped s t = (has_type s.model t ≡ true) × ((queue_of s t).streaming ≡ false) × ((queue_of s t).queued ≡ [])

-- one of both is so
abbrev pub IsHalf : LocalState → ℕ → Type 0
IsHalf s t = (has_type s.model t ≡ true) × (((queue_of s t).streaming ≡ false) ⊎ ((queue_of s t).queued ≡ []))

pub half_of : (s : LocalState) (t : ℕ) → HasStopped s t → IsHalf s t
half_of s t is = (is.0, inl is.1)

within_queues : (s : LocalState) (t : ℕ) → IsReached s → has_type s.model t ≡ true → place_in (types_of s.model) t < length s.queues
within_queues s t reached has =
    omega (arith, many_queues s reached, ltb-true (place_in (types_of s.model) t) (length (types_of s.model)) has)

-- so no frame can be finished
pub half_unready : (s : LocalState) (t : ℕ) → IsReached s → IsHalf s t → can_finish s ≡ true → ⊥
half_unready s t reached is ready =
    let at : IsReady (queue_of s t) = ready_at s.queues (place_in (types_of s.model) t) opening_queue ready (within_queues s t reached is.0) in
    elim is.1 as (λ _. ⊥) [
      | inl stands ↦ true≢false (sym at.0 ∙ stands)
      | inr none ↦ true≢false (ap (λ (xs : List ℕ). is_empty xs) (sym none) ∙ at.1)
    ]

-- ---- steps of the device

item_parts : (s : LocalState) (u : ℕ) (item : OwedItem) (rest : List OwedEntry) (t : ℕ) →
    ((queue_of (item_given (record s { owed = rest }) u item) t).streaming ≡ (queue_of s t).streaming)
    × ((queue_of (item_given (record s { owed = rest }) u item) t).queued ≡ (queue_of s t).queued)
item_parts s u (OwedBuffer i) rest t = (
  set_keeps opening_queue (λ (q : QueueState). q.streaming) s.queues (place_in (types_of s.model) u) (with_done (queue_of s u) i) refl (place_in (types_of s.model) t),
  set_keeps opening_queue (λ (q : QueueState). q.queued) s.queues (place_in (types_of s.model) u) (with_done (queue_of s u) i) refl (place_in (types_of s.model) t),
)
item_parts s u (Sync frame) rest t =
    elim s.subscribed as (λ b.
    ((queue_of (if b then record s { owed = rest; events = s.events ++ (record { frame = frame; number = s.next_event }) ∷ []; next_event = counted s.next_event } else record s { owed = rest }) t).streaming ≡ (queue_of s t).streaming)
    × ((queue_of (if b then record s { owed = rest; events = s.events ++ (record { frame = frame; number = s.next_event }) ∷ []; next_event = counted s.next_event } else record s { owed = rest }) t).queued ≡ (queue_of s t).queued)) [
      | true ↦ (refl, refl)
      | false ↦ (refl, refl)
    ]

give_parts : (s s' : LocalState) (t : ℕ) → IsReached s → after s Give ≡ Some s' →
    ((queue_of s' t).streaming ≡ (queue_of s t).streaming) × ((queue_of s' t).queued ≡ (queue_of s t).queued)
give_parts s s' t reached leads =
    let gave : Gave s s.owed s' = given_by s s' leads in
    let P : LocalState → Type 0 = λ x. ((queue_of x t).streaming ≡ (queue_of s t).streaming) × ((queue_of x t).queued ≡ (queue_of s t).queued) in
    subst P (sym gave.3) (item_parts s gave.0.queue gave.0.item gave.1 t)

type_kept : (s s' : LocalState) (t : ℕ) → s'.model ≡ s.model → has_type s.model t ≡ true → has_type s'.model t ≡ true
type_kept s s' t same has = ap (λ m. has_type m t) same ∙ has

stopped_step : (s s' : LocalState) (e : Entry) (t : ℕ) → is_step e ≡ true → IsReached s → after s e ≡ Some s' → HasStopped s t → HasStopped s' t
stopped_step s s' (Called line call reply) t step reached leads is = absurd (false≢true step)
stopped_step s s' Finish t step reached leads is = absurd (half_unready s t reached (half_of s t is) (finished_by s s' leads).0)
stopped_step s s' Bad t step reached leads is = absurd (half_unready s t reached (half_of s t is) (failed_by s s' leads).0)
stopped_step s s' Give t step reached leads is =
    let parts : _ = give_parts s s' t reached leads in
    (type_kept s s' t (step_alike s s' Give refl reached leads).model is.0, parts.0 ∙ is.1, parts.1 ∙ is.2)

half_step : (s s' : LocalState) (e : Entry) (t : ℕ) → is_step e ≡ true → IsReached s → after s e ≡ Some s' → IsHalf s t → IsHalf s' t
half_step s s' (Called line call reply) t step reached leads is = absurd (false≢true step)
half_step s s' Finish t step reached leads is = absurd (half_unready s t reached is (finished_by s s' leads).0)
half_step s s' Bad t step reached leads is = absurd (half_unready s t reached is (failed_by s s' leads).0)
half_step s s' Give t step reached leads is =
    let parts : _ = give_parts s s' t reached leads in (
      type_kept s s' t (step_alike s s' Give refl reached leads).model is.0,
      elim is.1 as (λ _. ((queue_of s' t).streaming ≡ false) ⊎ ((queue_of s' t).queued ≡ [])) [
        | inl stands ↦ inl (parts.0 ∙ stands)
        | inr none ↦ inr (parts.1 ∙ none)
      ],
    )

half_steps : (es : List Entry) (s s' : LocalState) (t : ℕ) → AreSteps es → IsReached s → replay_from s es ≡ Some s' → IsHalf s t → IsHalf s' t
half_steps [] s s' t are reached leads is = subst (λ x. IsHalf x t) (some_same s s' s leads) is
half_steps (e ∷ es) s s' t are reached leads is =
    let P : Entry → Type 0 = λ x. is_step x ≡ true in
    let by : _ = by_first s s' e es leads in
    half_steps es by.0 s' t (All-tail P e es are) (reached_after s by.0 e reached by.1) by.2
    (half_step s by.0 e t (All-head P e es are) reached by.1 is)

pub half_lead : (id : ℕ) (r s : LocalState) (es : List Unsent) (t : ℕ) → IsReached r → LeadAll id r es s → IsHalf r t → IsHalf s t
half_lead id r s es t reached leads is =
    half_steps (flight_of r.model (map (λ e. e.msg) es)) r s t (flight_steps r.model (map (λ e. e.msg) es)) reached (all_replay id r s es leads) is

-- ---- a call that stops queues

bare_at : (types : List ℕ) (p : ℕ) → get_or (map (λ (t : ℕ). opening_queue) types) p opening_queue ≡ opening_queue
bare_at [] p = refl
bare_at (t ∷ ts) zero = refl
bare_at (t ∷ ts) (suc p) = bare_at ts p

closed_all : (s : LocalState) (m : Model) → s.model ≡ m → All (HasStopped (closed s)) (types_of m)
closed_all s m is = all_types m (λ t has. (ap (λ x. has_type x t) is ∙ has, ap (λ (q : QueueState). q.streaming) (at t), ap (λ (q : QueueState). q.queued) (at t)))
  where
    at : (t : ℕ) → queue_of (closed s) t ≡ stopped_queue (queue_of s t)
    at t = get_or-map stopped_queue s.queues (place_in (types_of s.model) t) opening_queue

    all_types : (m : Model) → ((t : ℕ) → has_type m t ≡ true → HasStopped (closed s) t) → All (HasStopped (closed s)) (types_of m)
    all_types Capture f = All-cons (HasStopped (closed s)) BUF_TYPE_CAPTURE [] (f BUF_TYPE_CAPTURE refl) (All-nil (HasStopped (closed s)))
    all_types Convert f = All-cons (HasStopped (closed s)) BUF_TYPE_OUTPUT (BUF_TYPE_CAPTURE ∷ []) (f BUF_TYPE_OUTPUT refl)
        (All-cons (HasStopped (closed s)) BUF_TYPE_CAPTURE [] (f BUF_TYPE_CAPTURE refl) (All-nil (HasStopped (closed s))))

put_stopped : (s : LocalState) (t : ℕ) (v : QueueState) → IsReached s → has_type s.model t ≡ true → get_or (set s.queues (place_in (types_of s.model) t) v) (place_in (types_of s.model) t) opening_queue ≡ v
put_stopped s t v reached has = get_or-set_same s.queues (place_in (types_of s.model) t) v opening_queue (within_queues s t reached has)

one : (s : LocalState) (t : ℕ) → HasStopped s t → All (HasStopped s) (t ∷ [])
one s t is = All-cons (HasStopped s) t [] is (All-nil (HasStopped s))

stops_row : (s : LocalState) (line addr : ℕ) (call : Call) → IsReached s → first_refusal (row_of s line addr call).refusals ≡ None → All (HasStopped (row_of s line addr call).next) (stops s call)
unfolding reqbufs_row streamoff_row with_buffers
stops_row s line addr CloseHandle reached pass = closed_all s s.model refl
stops_row s line addr (ReqBufs t m n) reached pass =
    let r : Row = row_of s line addr (ReqBufs t m n) in
    let has : has_type s.model t ≡ true = not-false (has_type s.model t) (passes r.refusals pass 1) in
    let at : queue_of r.next t ≡ _ = put_stopped s t _ reached has in
    one r.next t (has, ap (λ (q : QueueState). q.streaming) at, ap (λ (q : QueueState). q.queued) at)
stops_row s line addr (StreamOff t) reached pass =
    let r : Row = row_of s line addr (StreamOff t) in
    let has : has_type s.model t ≡ true = not-false (has_type s.model t) (passes r.refusals pass 1) in
    let at : queue_of r.next t ≡ stopped_queue (queue_of s t) = put_stopped s t (stopped_queue (queue_of s t)) reached has in
    one r.next t (has, ap (λ (q : QueueState). q.streaming) at, ap (λ (q : QueueState). q.queued) at)
stops_row s line addr call reached pass = All-nil _

same_refusal : (reply : Reply) → is_refusal reply ≡ false → refuses reply ≡ false
same_refusal reply is = is

-- the queues that it stopped are so
pub stops_all : (s t : LocalState) (line : ℕ) (call : Call) (reply : Reply) → IsReached s → is_refusal reply ≡ false → IsCall s line call reply t → All (HasStopped t) (stops s call)
unfolding called
stops_all s t line call reply reached done leads =
    let r : Row = row_for s line call reply in
    let went : _ = done_by (first_refusal r.refusals) r s reply t (same_refusal reply done) leads in
    subst (λ x. All (HasStopped x) (stops s call)) (sym went.3) (stops_row s line (address_in reply) call reached went.0)

-- there is one
pub stops_some : (s t : LocalState) (call : Call) → is_stopping call ≡ true → All (HasStopped t) (stops s call) → (u : ℕ) × HasStopped t u
stops_some s t CloseHandle halts all = first_type s.model all
  where
    first_type : (m : Model) → All (HasStopped t) (types_of m) → (u : ℕ) × HasStopped t u
    first_type Capture all = (BUF_TYPE_CAPTURE, All-head (HasStopped t) BUF_TYPE_CAPTURE [] all)
    first_type Convert all = (BUF_TYPE_OUTPUT, All-head (HasStopped t) BUF_TYPE_OUTPUT (BUF_TYPE_CAPTURE ∷ []) all)
stops_some s t (ReqBufs u m n) halts all = (u, All-head (HasStopped t) u [] all)
stops_some s t (StreamOff u) halts all = (u, All-head (HasStopped t) u [] all)
stops_some s t call halts all = absurd (false≢true halts)

-- ---- another call

half_row : (s : LocalState) (line addr : ℕ) (call : Call) (t : ℕ) → is_stopping call ≡ false → HasStopped s t → IsHalf (row_of s line addr call).next t
unfolding querycap_row enumfmt_row gfmt_row tryfmt_row sfmt_row enuminput_row ginput_row sinput_row reqbufs_row querybuf_row ualloc_row qbuf_row streamon_row streamoff_row dqbuf_row mmap_row munmap_row read_row hash_row write_row fill_row subscribe_row unsubscribe_row dqevent_row
half_row s line addr (OpenHandle nonblock) t never is = (is.0, inl (ap (λ (q : QueueState). q.streaming) (bare_at (types_of s.model) (place_in (types_of s.model) t))))
half_row s line addr CloseHandle t never is = absurd (true≢false never)
half_row s line addr QueryCap t never is = (is.0, inl is.1)
half_row s line addr (EnumFmt u i) t never is = (is.0, inl is.1)
half_row s line addr (GFmt u) t never is = (is.0, inl is.1)
half_row s line addr (TryFmt u f w v) t never is = (is.0, inl is.1)
half_row s line addr (SFmt u f w v) t never is =
    (is.0, inl (formatted_keeps queue_kind (λ (q : QueueState). q.streaming) (λ q g. refl) s.model s.queues u (adjusted_for s u f w v) (place_in (types_of s.model) t) ∙ is.1))
half_row s line addr (EnumInput i) t never is = (is.0, inl is.1)
half_row s line addr GInput t never is = (is.0, inl is.1)
half_row s line addr (SInput i) t never is = (is.0, inl is.1)
half_row s line addr (ReqBufs u m n) t never is = absurd (true≢false never)
half_row s line addr (QueryBuf u i) t never is = (is.0, inl is.1)
half_row s line addr (UAlloc u len off) t never is = (is.0, inl is.1)
half_row s line addr (QBuf u i user used ts) t never is =
    (is.0, inl (set_keeps opening_queue (λ (q : QueueState). q.streaming) s.queues (place_in (types_of s.model) u) _ refl (place_in (types_of s.model) t) ∙ is.1))
half_row s line addr (StreamOn u) t never is =
    (is.0, inr (set_keeps opening_queue (λ (q : QueueState). q.queued) s.queues (place_in (types_of s.model) u) (started (queue_of s u)) refl (place_in (types_of s.model) t) ∙ is.2))
half_row s line addr (StreamOff u) t never is = absurd (true≢false never)
half_row s line addr (DqBuf u) t never is =
    (is.0, inl (set_keeps opening_queue (λ (q : QueueState). q.streaming) s.queues (place_in (types_of s.model) u) (taken_back (queue_of s u)) refl (place_in (types_of s.model) t) ∙ is.1))
half_row s line addr (Mmap m u i ro) t never is = (is.0, inl is.1)
half_row s line addr (Munmap m) t never is = (is.0, inl is.1)
half_row s line addr (Peek m off len) t never is = (is.0, inl is.1)
half_row s line addr (Hash m) t never is = (is.0, inl is.1)
half_row s line addr (Poke m off bytes) t never is = (is.0, inl is.1)
half_row s line addr (Fill m seed) t never is = (is.0, inl is.1)
half_row s line addr (Subscribe v) t never is = (is.0, inl is.1)
half_row s line addr (Unsubscribe v) t never is = (is.0, inl is.1)
half_row s line addr DqEvent t never is = (is.0, inl is.1)

pub half_call : (s s' : LocalState) (line : ℕ) (call : Call) (reply : Reply) (t : ℕ) → is_stopping call ≡ false → IsCall s line call reply s' → HasStopped s t → IsHalf s' t
unfolding called
half_call s s' line call reply t never leads is =
    let r : Row = row_for s line call reply in
    elim (answered_by (first_refusal r.refusals) r s reply s' leads) as (λ _. IsHalf s' t) [
      | inl same ↦ subst (λ x. IsHalf x t) (sym same) (half_of s t is)
      | inr w ↦ subst (λ x. IsHalf x t) (sym w.3) (half_row s line (address_in reply) call t never is)
    ]

-- ---- the log

all_steps : (s s' : LocalState) (e : Entry) (ts : List ℕ) → is_step e ≡ true → IsReached s → after s e ≡ Some s' → All (HasStopped s) ts → All (HasStopped s') ts
all_steps s s' e ts step reached leads all = All-weaker (HasStopped s) (HasStopped s') (λ t is. stopped_step s s' e t step reached leads is) ts all

stopped_call : (s s' : LocalState) (line : ℕ) (call : Call) (reply : Reply) (b : Bool) → is_refusal reply ≡ b → IsReached s → IsCall s line call reply s' →
    All (HasStopped s') (if b then [] else stops s call)
stopped_call s s' line call reply true is reached leads = All-nil (HasStopped s')
stopped_call s s' line call reply false is reached leads = stops_all s s' line call reply reached is leads

stop_log : (es : List Entry) (s t : LocalState) (last : Option Entry) → IsReached s → All (HasStopped s) (stopped_by s last) → replay_from s es ≡ Some t →
    All (HasStopped t) (stopped_by t (last_call_from last es))
stop_log [] s t last reached all leads = subst (λ x. All (HasStopped x) (stopped_by x last)) (some_same s t s leads) all
stop_log (Called line call reply ∷ es) s t last reached all leads =
    let by : _ = by_first s t (Called line call reply) es leads in
    stop_log es by.0 t (Some (Called line call reply)) (reached_after s by.0 (Called line call reply) reached by.1)
    (subst (All (HasStopped by.0)) (sym (stopped_same s by.0 (Some (Called line call reply)) (call_model s by.0 line call reply by.1)))
    (stopped_call s by.0 line call reply (is_refusal reply) refl reached by.1)) by.2
stop_log (Finish ∷ es) s t last reached all leads =
    let by : _ = by_first s t Finish es leads in
    stop_log es by.0 t last (reached_after s by.0 Finish reached by.1)
    (subst (All (HasStopped by.0)) (sym (stopped_same s by.0 last (step_alike s by.0 Finish refl reached by.1).model)) (all_steps s by.0 Finish (stopped_by s last) refl reached by.1 all)) by.2
stop_log (Bad ∷ es) s t last reached all leads =
    let by : _ = by_first s t Bad es leads in
    stop_log es by.0 t last (reached_after s by.0 Bad reached by.1)
    (subst (All (HasStopped by.0)) (sym (stopped_same s by.0 last (step_alike s by.0 Bad refl reached by.1).model)) (all_steps s by.0 Bad (stopped_by s last) refl reached by.1 all)) by.2
stop_log (Give ∷ es) s t last reached all leads =
    let by : _ = by_first s t Give es leads in
    stop_log es by.0 t last (reached_after s by.0 Give reached by.1)
    (subst (All (HasStopped by.0)) (sym (stopped_same s by.0 last (step_alike s by.0 Give refl reached by.1).model)) (all_steps s by.0 Give (stopped_by s last) refl reached by.1 all)) by.2

-- the queues that the last call of a log stopped are so
pub last_stopped : (m : Model) (log : List Entry) (s : LocalState) → replay m log ≡ Some s → All (HasStopped s) (stopped_by s (last_call_from None log))
last_stopped m log s leads = stop_log log (opening m) s None (m, [], refl) (All-nil (HasStopped (opening m))) leads

-- ---- the state ahead

-- with one call between no frame is possible
pub half_ahead : (id : ℕ) (r s : LocalState) (line : ℕ) (call : Call) (reply : Reply) (es : List Unsent) (t : ℕ) → IsReached r → is_stopping call ≡ false →
    LeadAhead id r (Some (Called line call reply)) es s → HasStopped r t → IsHalf s t
half_ahead id r s line call reply es t reached never leads is =
    let by : LeadWith false id r (Called line call reply) es s = subst (λ b. LeadWith b id r (Called line call reply) es s) never leads in
    half_lead id by.0 s es t (reached_after r by.0 (Called line call reply) reached by.1) by.2 (half_call r by.0 line call reply t never by.1 is)
