-- How the state ahead moves.
use Rattle.std.proofs.Common.{◌≡◌, inl, inr, ℕ, Bool, true, false, not, ◌&&◌, List, [], ◌∷◌, ◌++◌, map, Option, Some, None, refl, sym, ap, ◌∙◌, subst, if◌then◌else◌}
use Rattle.std.specs.Option.{option_and_then}
use Rattle.std.proofs.lemmas.Bool.{false≢true}
use Rattle.std.proofs.lemmas.Option.{none-some}
use Rattle.std.proofs.lemmas.Grind.{flat_map-append}
use Rattle.std.proofs.lemmas.List.{append_assoc}
use Rattle.std.proofs.lemmas.List.Elements.{All-head, All-tail, All-nil, All-cons, All-append}
use Rattle.v4l_const.specs.declared.errno.Errno.{Errno}
use Rattle.v4l_const.specs.declared.errno.Errno.TheVariants.{Enomem}
use Rattle.v4l_const.specs.declared.model.Model.{Model}
use Rattle.v4l_rules.specs.Refusals.{first_refusal}
use Rattle.vm_wire.specs.declared.event.EventMsg.{EventMsg}
use Rattle.vm_local.specs.declared.call.Call.{Call}
use Rattle.vm_local.specs.declared.call.Call.TheVariants.{OpenHandle, CloseHandle, QueryCap, EnumFmt, GFmt, TryFmt, SFmt, EnumInput, GInput, SInput, ReqBufs, QueryBuf, UAlloc, QBuf, StreamOn, StreamOff, DqBuf, Mmap, Munmap, Peek, Hash, Poke, Fill, Subscribe, Unsubscribe, DqEvent}
use Rattle.vm_local.specs.declared.entry.Entry.{Entry}
use Rattle.vm_local.specs.declared.entry.Entry.TheVariants.{Called, Finish, Bad, Give}
use Rattle.vm_local.specs.declared.reply.Reply.{Reply}
use Rattle.vm_local.specs.declared.reply.Reply.TheVariants.{Refused}
use Rattle.vm_local.specs.State.{LocalState}
use Rattle.vm_local.specs.Same.{same_reply, address_in}
use Rattle.vm_local.specs.Queue.{with_buffers}
use Rattle.vm_local.specs.Calls.{Row, row_of, querycap_row, enumfmt_row, gfmt_row, tryfmt_row, sfmt_row, enuminput_row, ginput_row, sinput_row, reqbufs_row, querybuf_row, ualloc_row, qbuf_row, streamon_row, streamoff_row, dqbuf_row, mmap_row, munmap_row, read_row, hash_row, write_row, fill_row, subscribe_row, unsubscribe_row, dqevent_row}
use Rattle.vm_local.specs.Log.{answered, row_for, called, after, replay_from, IsCall}
use Rattle.vm_local.proofs.KeptLemmas.{some_same, no_refusal, refused_call}
use Rattle.vm_local.proofs.LogLemmas.{replay_from_append}
use Rattle.vm_local.proofs.StepLemmas.{chosen_by, answered_by}
use Rattle.vm_commute.specs.Commute.{may_cross, may_go_first, is_step, AreSteps, GoesFirst, SameButFlags, SameButEvents}
use Rattle.vm_commute.proofs.AnswerLemmas.{refusal_after}
use Rattle.vm_commute.proofs.EventsLemmas.{by_first, first_and_rest}
use Rattle.vm_commute.proofs.OrderLemmas.{order_law, refused_law}
use Rattle.vm_commute.proofs.OutlineLemmas.{same_ways}
use Rattle.vm_commute.proofs.ReachedLemmas.{reached_after}
use Rattle.vm_home.specs.Moves.{is_stopping}
use Rattle.vm_home.specs.Reached.{IsReached}
use Rattle.vm_session.specs.declared.unsent.Unsent.{Unsent}
use Rattle.vm_exchange.specs.Messages.{made_by, steps_of, flight_of}
use Rattle.vm_stands.specs.Flight.{stops_queues, yet_to_log, ahead_of, LeadAll}
use Rattle.vm_stands.specs.Ahead.{StopsNone, MayDeliver}
use Rattle.vm_stands.proofs.FlightLemmas.{steps_model, made_steps, all_replay}

-- ---- the model stays

row_model : (s : LocalState) (line addr : ℕ) (call : Call) → (row_of s line addr call).next.model ≡ s.model
unfolding querycap_row enumfmt_row gfmt_row tryfmt_row sfmt_row enuminput_row ginput_row sinput_row reqbufs_row querybuf_row ualloc_row qbuf_row streamon_row streamoff_row dqbuf_row mmap_row munmap_row read_row hash_row write_row fill_row subscribe_row unsubscribe_row dqevent_row with_buffers
row_model s line addr (OpenHandle nonblock) = refl
row_model s line addr CloseHandle = refl
row_model s line addr QueryCap = refl
row_model s line addr (EnumFmt t i) = refl
row_model s line addr (GFmt t) = refl
row_model s line addr (TryFmt t f w h) = refl
row_model s line addr (SFmt t f w h) = refl
row_model s line addr (EnumInput i) = refl
row_model s line addr GInput = refl
row_model s line addr (SInput i) = refl
row_model s line addr (ReqBufs t m n) = refl
row_model s line addr (QueryBuf t i) = refl
row_model s line addr (UAlloc u len off) = refl
row_model s line addr (QBuf t i user used ts) = refl
row_model s line addr (StreamOn t) = refl
row_model s line addr (StreamOff t) = refl
row_model s line addr (DqBuf t) = refl
row_model s line addr (Mmap m t i ro) = refl
row_model s line addr (Munmap m) = refl
row_model s line addr (Peek m off len) = refl
row_model s line addr (Hash m) = refl
row_model s line addr (Poke m off bytes) = refl
row_model s line addr (Fill m seed) = refl
row_model s line addr (Subscribe e) = refl
row_model s line addr (Unsubscribe e) = refl
row_model s line addr DqEvent = refl

pub call_model : (s t : LocalState) (line : ℕ) (call : Call) (reply : Reply) → IsCall s line call reply t → t.model ≡ s.model
unfolding called
call_model s t line call reply leads =
    elim (answered_by (first_refusal (row_for s line call reply).refusals) (row_for s line call reply) s reply t leads) as (λ _. t.model ≡ s.model) [
      | inl same ↦ ap (λ (x : LocalState). x.model) same
      | inr went ↦ ap (λ (x : LocalState). x.model) went.3 ∙ row_model s line (address_in reply) call
    ]

-- ---- replays in parts

flight_one : (e : Entry) → is_step e ≡ true → AreSteps (e ∷ [])
flight_one e step = All-cons (λ (x : Entry). is_step x ≡ true) e [] step (All-nil (λ (x : Entry). is_step x ≡ true))

message_steps : (m : Model) (msg : EventMsg) → AreSteps (steps_of m msg)
message_steps m msg = All-append (λ (e : Entry). is_step e ≡ true) (made_by m msg) (Give ∷ []) (made_steps m msg) (flight_one Give refl)

pub flight_steps : (m : Model) (msgs : List EventMsg) → AreSteps (flight_of m msgs)
flight_steps m [] = All-nil (λ e. is_step e ≡ true)
flight_steps m (msg ∷ msgs) =
    let P : Entry → Type 0 = λ e. is_step e ≡ true in
    All-append P (steps_of m msg) (flight_of m msgs) (message_steps m msg) (flight_steps m msgs)

pub in_turn : (s u : LocalState) (es fs : List Entry) → replay_from s es ≡ Some u → replay_from s (es ++ fs) ≡ replay_from u fs
in_turn s u es fs leads = replay_from_append s es fs ∙ ap (λ o. option_and_then (λ x. replay_from x fs) o) leads

pub by_parts : (s t : LocalState) (es fs : List Entry) → replay_from s (es ++ fs) ≡ Some t → (u : LocalState) × (replay_from s es ≡ Some u) × (replay_from u fs ≡ Some t)
by_parts s t es fs leads = parts (replay_from s es) refl (sym (replay_from_append s es fs) ∙ leads)
  where
    parts : (o : Option LocalState) → replay_from s es ≡ o → option_and_then (λ x. replay_from x fs) o ≡ Some t →
        (u : LocalState) × (replay_from s es ≡ Some u) × (replay_from u fs ≡ Some t)
    parts None is then_leads = absurd (none-some t then_leads)
    parts (Some u) is then_leads = (u, is, then_leads)

pub one_replay : (s t : LocalState) (e : Entry) → after s e ≡ Some t → replay_from s (e ∷ []) ≡ Some t
one_replay s t e leads = ap (λ o. option_and_then (λ (x : LocalState). Some x) o) leads

pub one_after : (s t : LocalState) (e : Entry) → replay_from s (e ∷ []) ≡ Some t → after s e ≡ Some t
one_after s t e leads =
    let by : _ = by_first s t e [] leads in
    by.1 ∙ by.2

pub reached_all : (es : List Entry) (s t : LocalState) → IsReached s → replay_from s es ≡ Some t → IsReached t
reached_all [] s t reached leads = subst IsReached (some_same s t s leads) reached
reached_all (e ∷ es) s t reached leads =
    let by : _ = by_first s t e es leads in
    reached_all es by.0 t (reached_after s by.0 e reached by.1) by.2

flight_joined : (m : Model) (msgs more : List EventMsg) → flight_of m (msgs ++ more) ≡ flight_of m msgs ++ flight_of m more
flight_joined m msgs more = flat_map-append (steps_of m) msgs more

-- more messages lead on
join : (id : ℕ) (r s t : LocalState) (msgs : List EventMsg) (es : List Unsent) → replay_from r (flight_of r.model msgs) ≡ Some s → LeadAll id s es t →
    replay_from r (flight_of r.model (msgs ++ map (λ e. e.msg) es)) ≡ Some t
join id r s t msgs es leads all =
    let more : List EventMsg = map (λ (e : Unsent). e.msg) es in
    let model : s.model ≡ r.model = steps_model (flight_of r.model msgs) r s (flight_steps r.model msgs) leads in
    ap (λ xs. replay_from r xs) (flight_joined r.model msgs more)
    ∙ (in_turn r s (flight_of r.model msgs) (flight_of r.model more) leads ∙ (ap (λ m. replay_from s (flight_of m more)) (sym model) ∙ all_replay id s t es all))

-- what is yet to be logged where a stopping call was executed, and where another one was
pub last_logged : (m : Model) (e : Entry) (msgs : List EventMsg) → stops_queues e ≡ true → yet_to_log m (Some e) msgs ≡ flight_of m msgs ++ e ∷ []
last_logged m e msgs stops = ap (λ b. if b then flight_of m msgs ++ e ∷ [] else e ∷ flight_of m msgs) stops

pub first_logged : (m : Model) (e : Entry) (msgs : List EventMsg) → stops_queues e ≡ false → yet_to_log m (Some e) msgs ≡ e ∷ flight_of m msgs
first_logged m e msgs never = ap (λ b. if b then flight_of m msgs ++ e ∷ [] else e ∷ flight_of m msgs) never

pub entry_model : (s t : LocalState) (e : Entry) → stops_queues e ≡ false → after s e ≡ Some t → t.model ≡ s.model
entry_model s t (Called line call reply) never leads = call_model s t line call reply leads
entry_model s t Finish never leads = steps_model (Finish ∷ []) s t (flight_one Finish refl) (one_replay s t Finish leads)
entry_model s t Bad never leads = steps_model (Bad ∷ []) s t (flight_one Bad refl) (one_replay s t Bad leads)
entry_model s t Give never leads = steps_model (Give ∷ []) s t (flight_one Give refl) (one_replay s t Give leads)

pub joins : (id : ℕ) (r s t : LocalState) (executed : Option Entry) (msgs : List EventMsg) (es : List Unsent) → IsReached r → StopsNone executed →
    ahead_of r executed msgs ≡ Some s → LeadAll id s es t → ahead_of r executed (msgs ++ map (λ e. e.msg) es) ≡ Some t
joins id r s t None msgs es reached none leads all = join id r s t msgs es leads all
joins id r s t (Some e) msgs es reached never leads all =
    let more : List EventMsg = msgs ++ map (λ (x : Unsent). x.msg) es in
    let by : _ = by_first r s e (flight_of r.model msgs) (ap (λ xs. replay_from r xs) (sym (first_logged r.model e msgs never)) ∙ leads) in
    let model : by.0.model ≡ r.model = entry_model r by.0 e never by.1 in
    let rest : replay_from by.0 (flight_of by.0.model more) ≡ Some t =
    join id by.0 s t msgs es (ap (λ m. replay_from by.0 (flight_of m msgs)) model ∙ by.2) all in
    ap (λ xs. replay_from r xs) (first_logged r.model e more never)
    ∙ first_and_rest r by.0 t e (flight_of r.model more) by.1 (ap (λ m. replay_from by.0 (flight_of m more)) (sym model) ∙ rest)

-- ---- refused calls

still_refused : (o : Option Errno) (q r : Row) (s u : LocalState) (d : Errno) → q.may_lack_memory ≡ r.may_lack_memory → same_reply r.reply (Refused d) ≡ false →
    answered o r s (Refused d) ≡ Some s → answered o q u (Refused d) ≡ Some u
still_refused (Some e) q r s u d lacks never leads =
    ap (λ b. if b then Some u else None) (chosen_by (same_reply (Refused e) (Refused d)) s s leads).0
still_refused None q r s u d lacks never leads =
    ap (λ b. if b then Some u else (if not q.waits && same_reply q.reply (Refused d) then Some q.next else None))
    (ap (λ b. b && same_reply (Refused Enomem) (Refused d)) lacks ∙ chosen (r.may_lack_memory && same_reply (Refused Enomem) (Refused d)) refl)
  where
    none : (w b : Bool) → b ≡ false → (if not w && b then Some r.next else None) ≡ None
    none true b is = refl
    none false b is = ap (λ c. if c then Some r.next else None) is

    chosen : (b : Bool) → (r.may_lack_memory && same_reply (Refused Enomem) (Refused d)) ≡ b → b ≡ true
    chosen true is = refl
    chosen false is =
        absurd (none-some s (sym (ap (λ b. if b then Some s else (if not r.waits && same_reply r.reply (Refused d) then Some r.next else None)) is ∙ none r.waits (same_reply r.reply (Refused d)) never) ∙ leads))

pub refused_later : (es : List Entry) (s u : LocalState) (line : ℕ) (call : Call) (d : Errno) → IsReached s → AreSteps es → replay_from s es ≡ Some u → may_cross call ≡ true →
    IsCall s line call (Refused d) s → IsCall u line call (Refused d) u
unfolding called
refused_later [] s u line call d reached steps leads may calls = subst (λ x. IsCall x line call (Refused d) x) (some_same s u s leads) calls
refused_later (e ∷ es) s u line call d reached steps leads may calls =
    let P : Entry → Type 0 = λ x. is_step x ≡ true in
    let by : _ = by_first s u e es leads in
    let v : LocalState = by.0 in
    let step : is_step e ≡ true = All-head P e es steps in
    let same : first_refusal (row_of v line 0 call).refusals ≡ first_refusal (row_of s line 0 call).refusals = refusal_after s v e line 0 call may step reached by.1 in
    let here : IsCall v line call (Refused d) v =
    ap (λ o. answered o (row_of v line 0 call) v (Refused d)) same
    ∙ still_refused (first_refusal (row_of s line 0 call).refusals) (row_of v line 0 call) (row_of s line 0 call) s v d (same_ways v s line 0 call may).1 (no_refusal s line 0 call d) calls in
    refused_later es v u line call d (reached_after s v e reached by.1) (All-tail P e es steps) by.2 may here

pub stopping_crosses : (call : Call) → is_stopping call ≡ true → may_cross call ≡ true
stopping_crosses (OpenHandle nonblock) is = absurd (false≢true is)
stopping_crosses CloseHandle is = refl
stopping_crosses QueryCap is = absurd (false≢true is)
stopping_crosses (EnumFmt t i) is = absurd (false≢true is)
stopping_crosses (GFmt t) is = absurd (false≢true is)
stopping_crosses (TryFmt t f w h) is = absurd (false≢true is)
stopping_crosses (SFmt t f w h) is = absurd (false≢true is)
stopping_crosses (EnumInput i) is = absurd (false≢true is)
stopping_crosses GInput is = absurd (false≢true is)
stopping_crosses (SInput i) is = absurd (false≢true is)
stopping_crosses (ReqBufs t m n) is = refl
stopping_crosses (QueryBuf t i) is = absurd (false≢true is)
stopping_crosses (UAlloc u len off) is = absurd (false≢true is)
stopping_crosses (QBuf t i user used ts) is = absurd (false≢true is)
stopping_crosses (StreamOn t) is = absurd (false≢true is)
stopping_crosses (StreamOff t) is = refl
stopping_crosses (DqBuf t) is = absurd (false≢true is)
stopping_crosses (Mmap m t i ro) is = absurd (false≢true is)
stopping_crosses (Munmap m) is = absurd (false≢true is)
stopping_crosses (Peek m off len) is = absurd (false≢true is)
stopping_crosses (Hash m) is = absurd (false≢true is)
stopping_crosses (Poke m off bytes) is = absurd (false≢true is)
stopping_crosses (Fill m seed) is = absurd (false≢true is)
stopping_crosses (Subscribe e) is = absurd (false≢true is)
stopping_crosses (Unsubscribe e) is = absurd (false≢true is)
stopping_crosses DqEvent is = absurd (false≢true is)

-- a refused stopping call that was executed: the messages lead to the state ahead by themselves, in which it is refused
refused_parts : (r s : LocalState) (line : ℕ) (call : Call) (d : Errno) (msgs : List EventMsg) → is_stopping call ≡ true →
    ahead_of r (Some (Called line call (Refused d))) msgs ≡ Some s → (replay_from r (flight_of r.model msgs) ≡ Some s) × IsCall s line call (Refused d) s
refused_parts r s line call d msgs stops leads =
    let e : Entry = Called line call (Refused d) in
    let by : _ = by_parts r s (flight_of r.model msgs) (e ∷ []) (ap (λ xs. replay_from r xs) (sym (last_logged r.model e msgs stops)) ∙ leads) in
    let calls : IsCall by.0 line call (Refused d) s = one_after by.0 s e by.2 in
    let same : s ≡ by.0 = refused_call by.0 line call d s calls in
    (by.1 ∙ ap (λ x. Some x) (sym same), subst (λ x. IsCall x line call (Refused d) s) (sym same) calls)

pub joins_refused : (id line : ℕ) (r s t : LocalState) (call : Call) (d : Errno) (msgs : List EventMsg) (es : List Unsent) → IsReached r → is_stopping call ≡ true →
    ahead_of r (Some (Called line call (Refused d))) msgs ≡ Some s → LeadAll id s es t →
    ahead_of r (Some (Called line call (Refused d))) (msgs ++ map (λ e. e.msg) es) ≡ Some t
joins_refused id line r s t call d msgs es reached stops leads all =
    let e : Entry = Called line call (Refused d) in
    let new : List EventMsg = map (λ (x : Unsent). x.msg) es in
    let was : _ = refused_parts r s line call d msgs stops leads in
    let there : IsReached s = reached_all (flight_of r.model msgs) r s reached was.0 in
    let calls : IsCall t line call (Refused d) t =
    refused_later (flight_of s.model new) s t line call d there (flight_steps s.model new) (all_replay id s t es all) (stopping_crosses call stops) was.1 in
    ap (λ xs. replay_from r xs) (last_logged r.model e (msgs ++ new) stops)
    ∙ (in_turn r t (flight_of r.model (msgs ++ new)) (e ∷ []) (join id r s t msgs es was.0 all) ∙ one_replay t t e calls)

-- ---- messages are delivered

delivered_model : (r u : LocalState) (msg : EventMsg) → replay_from r (steps_of r.model msg) ≡ Some u → u.model ≡ r.model
delivered_model r u msg leads = steps_model (steps_of r.model msg) r u (message_steps r.model msg) leads

pub delivers : (r s : LocalState) (executed : Option Entry) (msg : EventMsg) (msgs : List EventMsg) → IsReached r → MayDeliver executed →
    ahead_of r executed (msg ∷ msgs) ≡ Some s →
    (u : LocalState) × (replay_from r (steps_of r.model msg) ≡ Some u) × (ahead_of u executed msgs ≡ Some s)
delivers r s None msg msgs reached may leads =
    let by : _ = by_parts r s (steps_of r.model msg) (flight_of r.model msgs) leads in
    let model : by.0.model ≡ r.model = delivered_model r by.0 msg by.1 in
    (by.0, by.1, ap (λ m. replay_from by.0 (flight_of m msgs)) model ∙ by.2)
delivers r s (Some e) msg msgs reached may leads =
    let all : replay_from r (steps_of r.model msg ++ (flight_of r.model msgs ++ e ∷ [])) ≡ Some s =
    ap (λ xs. replay_from r xs) (sym (append_assoc (steps_of r.model msg) (flight_of r.model msgs) (e ∷ [])))
    ∙ (ap (λ xs. replay_from r xs) (sym (last_logged r.model e (msg ∷ msgs) may)) ∙ leads) in
    let by : _ = by_parts r s (steps_of r.model msg) (flight_of r.model msgs ++ e ∷ []) all in
    let model : by.0.model ≡ r.model = delivered_model r by.0 msg by.1 in (
      by.0,
      by.1,
      ap (λ xs. replay_from by.0 xs) (last_logged by.0.model e msgs may)
          ∙ (ap (λ m. replay_from by.0 (flight_of m msgs ++ e ∷ [])) model ∙ by.2),
    )

-- ---- calls are executed and collected

pub executes : (r s t : LocalState) (line : ℕ) (call : Call) (reply : Reply) (msgs : List EventMsg) → IsReached r → ahead_of r None msgs ≡ Some s →
    may_go_first call reply ≡ true → is_stopping call ≡ false → IsCall s line call reply t →
    (first_reply : Reply) × (ahead : LocalState) × SameButFlags first_reply reply
    × (ahead_of r (Some (Called line call first_reply)) msgs ≡ Some ahead) × SameButEvents ahead t
executes r s t line call reply msgs (m, log, reached) leads may never calls =
    let g : GoesFirst r (flight_of r.model msgs) line call reply t = order_law m log r reached (flight_of r.model msgs) s line call reply t (flight_steps r.model msgs) leads may calls in
    let e : Entry = Called line call g.first_reply in (
      g.first_reply,
      g.last,
      g.same_reply,
      ap (λ xs. replay_from r xs) (first_logged r.model e msgs never) ∙ first_and_rest r g.between g.last e (flight_of r.model msgs) g.is_call g.are_legal,
      g.same_state,
    )

pub stops_ahead : (r s t : LocalState) (line : ℕ) (call : Call) (reply : Reply) (msgs : List EventMsg) → IsReached r → ahead_of r None msgs ≡ Some s →
    is_stopping call ≡ true → IsCall s line call reply t → ahead_of r (Some (Called line call reply)) msgs ≡ Some t
stops_ahead r s t line call reply msgs reached leads stops calls =
    let e : Entry = Called line call reply in
    ap (λ xs. replay_from r xs) (last_logged r.model e msgs stops) ∙ (in_turn r s (flight_of r.model msgs) (e ∷ []) leads ∙ one_replay s t e calls)

pub collects : (r s : LocalState) (line : ℕ) (call : Call) (reply : Reply) (msgs : List EventMsg) → IsReached r → is_stopping call ≡ false →
    ahead_of r (Some (Called line call reply)) msgs ≡ Some s → (u : LocalState) × IsCall r line call reply u × (ahead_of u None msgs ≡ Some s)
collects r s line call reply msgs reached never leads =
    let e : Entry = Called line call reply in
    let by : _ = by_first r s e (flight_of r.model msgs) (ap (λ xs. replay_from r xs) (sym (first_logged r.model e msgs never)) ∙ leads) in
    (by.0, by.1, ap (λ m. replay_from by.0 (flight_of m msgs)) (call_model r by.0 line call reply by.1) ∙ by.2)

pub collects_refused : (r s : LocalState) (line : ℕ) (call : Call) (d : Errno) (msgs : List EventMsg) → IsReached r → is_stopping call ≡ true →
    ahead_of r (Some (Called line call (Refused d))) msgs ≡ Some s → IsCall r line call (Refused d) r × (ahead_of r None msgs ≡ Some s)
collects_refused r s line call d msgs (m, log, reached) stops leads =
    let was : _ = refused_parts r s line call d msgs stops leads in
    (refused_law m log r reached (flight_of r.model msgs) s line call d s (flight_steps r.model msgs) was.0 (stopping_crosses call stops) was.1, was.0)

pub collects_stopped : (r s : LocalState) (line : ℕ) (call : Call) (reply : Reply) → is_stopping call ≡ true →
    ahead_of r (Some (Called line call reply)) [] ≡ Some s → IsCall r line call reply s
collects_stopped r s line call reply stops leads =
    let e : Entry = Called line call reply in
    one_after r s e (ap (λ xs. replay_from r xs) (sym (last_logged r.model e [] stops)) ∙ leads)
