-- No buffer of a session is out twice: each message that gives it adds it to the handle's done list.
use Rattle.std.proofs.Common.{◌≡◌, ◌≢◌, ℕ, zero, suc, ◌+◌, ◌<◌, ◌≤◌, Bool, true, false, List, [], ◌∷◌, ◌++◌, Option, Some, None, length, get_or, set, map, refl, sym, ap, ◌∙◌, subst, arith, inl, inr, eqb, if◌then◌else◌, get_or-set_same, get_or-set_other}
use Rattle.std.proofs.lemmas.List.{map-append}
use Rattle.std.specs.Prelude.{◌&&◌, All}
use Rattle.std.specs.Option.{option_and_then, option_to_list}
use Rattle.std.proofs.lemmas.Bool.{cases_eq, eq-eqb, ne_eqb}
use Rattle.std.proofs.lemmas.List.Elements.{All-head}
use Rattle.std.proofs.lemmas.Option.{same_Some}
use Rattle.v4l_const.specs.Model.{queues as types_of, picture_queue, source_queue}
use Rattle.v4l_const.specs.declared.errno.Errno.{Errno}
use Rattle.v4l_const.specs.declared.model.Model.{Model}
use Rattle.v4l_layout.specs.declared.buffer_rec.BufferRec.{BufferRec}
use Rattle.v4l_rules.specs.Queues.{place_in}
use Rattle.v4l_rules.proofs.SetLemmas.{set_keeps}
use Rattle.vm_mem.specs.Lists.{occurrences}
use Rattle.vm_wire.specs.Buffers.{dequeued_buffer}
use Rattle.vm_wire.specs.declared.event.EventMsg.{EventMsg}
use Rattle.vm_wire.specs.declared.event.EventMsg.TheVariants.{Dequeued, Happened}
use Rattle.vm_local.specs.declared.buffer.BufferState.{BufferState}
use Rattle.vm_local.specs.declared.buffer.BufferState.TheVariants.{Idle, Queued, Owed as AsOwed, Done as AsDone}
use Rattle.vm_local.specs.declared.call.Call.{Call}
use Rattle.vm_local.specs.declared.entry.Entry.{Entry}
use Rattle.vm_local.specs.declared.entry.Entry.TheVariants.{Called, Finish, Bad}
use Rattle.vm_local.specs.declared.owed.Owed.{Owed}
use Rattle.vm_local.specs.declared.owed.OwedItem.{OwedItem}
use Rattle.vm_local.specs.declared.owed.OwedItem.TheVariants.{Buffer as OwedBuffer, Sync}
use Rattle.vm_local.specs.declared.reply.Reply.{Reply}
use Rattle.vm_local.specs.declared.reply.Reply.TheVariants.{Refused}
use Rattle.vm_local.specs.State.{QueueState, LocalState, opening_queue, queue_of, buffer_of}
use Rattle.vm_local.specs.Kinds.{is_done}
use Rattle.vm_local.specs.Listed.{is_queued, times, once, IsOwedThere, AreListed}
use Rattle.vm_local.specs.Steps.{head, target, heads_taken, with_used, with_target_used, taken, next_timestamp, sync_of, buffers_taken, with_done, item_given, counted}
use Rattle.vm_local.specs.Log.{after, replay_from}
use Rattle.vm_local.proofs.CountLemmas.{times_cons, times_push}
use Rattle.vm_local.proofs.KeptLemmas.{refused_call}
use Rattle.vm_local.proofs.ListedLemmas.{listed_log}
use Rattle.vm_local.proofs.StepLemmas.{finished_by, failed_by, given_by}
use Rattle.vm_commute.proofs.ReachedLemmas.{many_queues, reached_after}
use Rattle.vm_home.specs.Moves.{is_refusal, is_stopping}
use Rattle.vm_home.specs.Reached.{IsReached}
use Rattle.vm_home.proofs.FactLemmas.{facts_of}
use Rattle.vm_exchange.specs.Messages.{made_by, is_first, is_marked}
use Rattle.vm_session.specs.declared.unsent.Unsent.{Unsent}
use Rattle.vm_session.specs.Sound.{given_back, returning, taken_by, all_out, indices_of}
use Rattle.vm_session.specs.State.{SessionState, queue_of as session_queue}
use Rattle.vm_session.proofs.OutLemmas.{indices_append, returning_cons}
use Rattle.vm_session.proofs.SoundLemmas.{one_place}
use Rattle.vm_stands.specs.Flight.{given_record, GivesItem, GivesFirst, Leads, LeadAll}
use Rattle.vm_stands.specs.Slice.{LeadWith, LeadAhead, IsSlice}
use Rattle.vm_stands.specs.Stands.{of_type}
use Rattle.vm_stands.proofs.AheadLemmas.{reached_all}
use Rattle.vm_stands.proofs.FlightLemmas.{leads_replay}
use Rattle.vm_stands.proofs.SliceLemmas.{all_reached}
use Rattle.vm_realm.specs.Inner.{Inner, driver_state}
use Rattle.vm_realm.specs.Slice.{Slice, Out, earlier_of}
use Rattle.vm_realm.specs.Slice.Out.{Nowhere, Asked, Kept, Told, Astray}
use Rattle.vm_realm.specs.Sound.{IsOut, IsSeated, IsSoundSlice}
use Rattle.vm_realm.proofs.FewMessagesLemmas.{owed_place}
use Rattle.vm_realm.proofs.KeepFrameLemmas.{refusal_is}

-- ---- what a frame leaves of the done lists

taken_done : (good : Bool) (ts : ℕ) (qs : List QueueState) (i : ℕ) → (get_or (map (taken good ts) qs) i opening_queue).done ≡ (get_or qs i opening_queue).done
taken_done good ts [] i = refl
taken_done good ts (q ∷ qs) zero = refl
taken_done good ts (q ∷ qs) (suc i) = taken_done good ts qs i

heads_done : (s : LocalState) (good : Bool) (entries : List Owed) (n t : ℕ) → (queue_of (with_target_used s n (heads_taken s good entries)) t).done ≡ (queue_of s t).done
heads_done s good entries n t =
    let next : LocalState = heads_taken s good entries in
    set_keeps opening_queue (λ (q : QueueState). q.done) next.queues (place_in (types_of s.model) (picture_queue s.model)) (with_used (queue_of next (picture_queue s.model)) (head (target s)) n) refl (place_in (types_of s.model) t)
    ∙ taken_done good (next_timestamp s) s.queues (place_in (types_of s.model) t)

finish_done : (s u : LocalState) (t : ℕ) → after s Finish ≡ Some u → (queue_of u t).done ≡ (queue_of s t).done
finish_done s u t goes =
    ap (λ (x : LocalState). (queue_of x t).done) (finished_by s u goes).1 ∙ heads_done s true (sync_of s ++ buffers_taken s) _ t

bad_done : (s u : LocalState) (t : ℕ) → after s Bad ≡ Some u → (queue_of u t).done ≡ (queue_of s t).done
bad_done s u t goes = ap (λ (x : LocalState). (queue_of x t).done) (failed_by s u goes).1 ∙ heads_done s false (buffers_taken s) 0 t

one_step : (o : Option LocalState) (t : LocalState) → option_and_then (λ u. replay_from u []) o ≡ Some t → o ≡ Some t
one_step None t is = is
one_step (Some u) t is = is

made_done : (m : Model) (msg : EventMsg) (s u : LocalState) (t : ℕ) → replay_from s (made_by m msg) ≡ Some u → (queue_of u t).done ≡ (queue_of s t).done
made_done m (Happened session event) s u t goes = finish_done s u t (one_step (after s Finish) u goes)
made_done m (Dequeued session b) s u t goes = by_first (is_first (source_queue m) m b) (is_marked m b) goes
  where
    by_first : (first marked : Bool) → replay_from s (if first then (if marked then Bad else Finish) ∷ [] else []) ≡ Some u → (queue_of u t).done ≡ (queue_of s t).done
    by_first true true goes = bad_done s u t (one_step (after s Bad) u goes)
    by_first true false goes = finish_done s u t (one_step (after s Finish) u goes)
    by_first false marked goes = ap (λ (x : LocalState). (queue_of x t).done) (sym (same_Some s u goes))

-- ---- how often messages give a buffer

abbrev gave : ℕ → ℕ → Option BufferRec → ℕ
gave t i None = 0
gave t i (Some b) = once (eqb b.kind t && eqb b.index i)

abbrev gave_all : ℕ → ℕ → List Unsent → ℕ
gave_all t i [] = 0
gave_all t i (e ∷ es) = gave t i (given_back e.msg) + gave_all t i es

gave_both : (t i : ℕ) (xs ys : List Unsent) → gave_all t i (xs ++ ys) ≡ gave_all t i xs + gave_all t i ys
gave_both t i [] ys = omega arith
gave_both t i (e ∷ xs) ys = omega (arith, gave_both t i xs ys)

record_is : (s : LocalState) (t i m : ℕ) → ((given_record s t i m).kind ≡ t) × ((given_record s t i m).index ≡ i)
unfolding dequeued_buffer
record_is s t i m = (refl, refl)

-- a buffer that is given is on the done list then
item_done : (s : LocalState) (item : OwedItem) (id u t i : ℕ) (rest : List Owed) (e : Unsent) → IsReached s → s.owed ≡ record { queue = u; item = item } ∷ rest → GivesItem id s u item e →
    times (queue_of s t).done i + gave t i (given_back e.msg) ≡ times (queue_of (item_given (record s { owed = rest }) u item) t).done i
item_done s (Sync frame) id u t i rest e reached owed gives =
    let none : gave t i (given_back e.msg) ≡ 0 = ap (λ m. gave t i (given_back m)) gives.msg in
    let same : times (queue_of (item_given (record s { owed = rest }) u (Sync frame)) t).done i ≡ times (queue_of s t).done i =
    elim s.subscribed as (λ b. times (queue_of (if b then record s { owed = rest; events = s.events ++ (record { frame = frame; number = s.next_event }) ∷ []; next_event = counted s.next_event } else record s { owed = rest }) t).done i ≡ times (queue_of s t).done i) [
      | true ↦ refl
      | false ↦ refl
    ] in
    omega (arith, none, same)
item_done s (OwedBuffer j) id u t i rest e reached owed gives = elim (cases_eq t u) [
  | inl same ↦ own same
  | inr apart ↦ other apart
]
  where
    b : BufferRec
    b = given_record s u j gives.m

    is : given_back e.msg ≡ Some (given_record s u j gives.m)
    is = ap given_back gives.msg

    told : (b.kind ≡ u) × (b.index ≡ j)
    told = record_is s u j gives.m

    there : place_in (types_of s.model) u < length s.queues
    there = owed_place s u j (All-head (λ (o : Owed). IsOwedThere s o.queue o.item) (record { queue = u; item = OwedBuffer j }) rest (subst (λ os. All (λ (o : Owed). IsOwedThere s o.queue o.item) os) owed (facts_of s reached).sound.there.1))

    new : QueueState
    new = with_done (queue_of s u) j

    counts : gave t i (given_back e.msg) ≡ once (eqb u t && eqb j i)
    counts = ap (gave t i) is ∙ (λ k. once (eqb (told.0 k) t && eqb (told.1 k) i))

    own : t ≡ u → times (queue_of s t).done i + gave t i (given_back e.msg) ≡ times (queue_of (item_given (record s { owed = rest }) u (OwedBuffer j)) t).done i
    own same =
        let here : gave t i (given_back e.msg) ≡ once (eqb j i) = counts ∙ ap (λ x. once (x && eqb j i)) (eq-eqb u t (sym same)) in
        let now : times (queue_of (item_given (record s { owed = rest }) u (OwedBuffer j)) t).done i ≡ times new.done i =
        ap (λ p. times (get_or (set s.queues (place_in (types_of s.model) u) new) p opening_queue).done i) (ap (place_in (types_of s.model)) same)
        ∙ ap (λ (q : QueueState). times q.done i) (get_or-set_same s.queues (place_in (types_of s.model) u) new opening_queue there) in
        let before : times (queue_of s t).done i ≡ times (queue_of s u).done i = ap (λ x. times (queue_of s x).done i) same in
        let more : times new.done i ≡ times (queue_of s u).done i + once (eqb j i) = times_push (queue_of s u).done j i in
        omega (arith, here, now, before, more)

    other : t ≢ u → times (queue_of s t).done i + gave t i (given_back e.msg) ≡ times (queue_of (item_given (record s { owed = rest }) u (OwedBuffer j)) t).done i
    other apart =
        let none : gave t i (given_back e.msg) ≡ 0 = counts ∙ ap (λ x. once (x && eqb j i)) (ne_eqb u t (λ same. apart (sym same))) in
        let place : place_in (types_of s.model) t ≢ place_in (types_of s.model) u =
        λ same. apart (one_place (types_of s.model) u t same (omega (arith, there, many_queues s reached))) in
        let now : times (queue_of (item_given (record s { owed = rest }) u (OwedBuffer j)) t).done i ≡ times (queue_of s t).done i =
        ap (λ (q : QueueState). times q.done i) (get_or-set_other s.queues (place_in (types_of s.model) u) (place_in (types_of s.model) t) new opening_queue place) in
        omega (arith, none, now)

lead_done : (id : ℕ) (s u : LocalState) (e : Unsent) (t i : ℕ) → IsReached s → Leads id s e u → times (queue_of s t).done i + gave t i (given_back e.msg) ≡ times (queue_of u t).done i
lead_done id s u e t i reached leads =
    let made : LocalState = leads.made in
    let there : IsReached made = reached_all _ s made reached leads.making in
    let same : times (queue_of made t).done i ≡ times (queue_of s t).done i = ap (λ xs. times xs i) (made_done s.model e.msg s made t leads.making) in
    let given : _ = given_by made u leads.given in
    let first : GivesItem id made given.0.queue given.0.item e = subst (λ os. GivesFirst id made os e) given.2 leads.gives in
    let now : times (queue_of u t).done i ≡ _ = ap (λ (x : LocalState). times (queue_of x t).done i) given.3 in
    let more = item_done made given.0.item id given.0.queue t i given.1 e there given.2 first in
    omega (arith, same, now, more)

all_done : (id : ℕ) (es : List Unsent) (s u : LocalState) (t i : ℕ) → IsReached s → LeadAll id s es u → times (queue_of s t).done i + gave_all t i es ≡ times (queue_of u t).done i
all_done id [] s u t i reached leads = let same = ap (λ (x : LocalState). times (queue_of x t).done i) leads in omega (arith, same)
all_done id (e ∷ es) s u t i reached (x, first, rest) =
    let next : IsReached x = reached_all _ s x reached (leads_replay id s x e first) in
    omega (arith, lead_done id s x e t i reached first, all_done id es x u t i next rest)

-- ---- the messages that are under way lead to the state ahead

record LeadsThere (id : ℕ) (es : List Unsent) (t : LocalState) : Type 0 where
  from : LocalState
  reached : IsReached from
  leads : LeadAll id from es t

leads_there : (x : Slice) (v : Inner) (s : SessionState) (o : Out) → IsOut o x v → s.unsent ≢ [] → x.session ≡ Some s → IsSlice v.frames s x.job (earlier_of x) v.executed (driver_state x) v.ahead →
    LeadsThere s.id (earlier_of x ++ s.unsent) v.ahead
leads_there x v s o is some has slice = by_out o is
  where
    es : List Unsent
    es = earlier_of x ++ s.unsent

    plain : v.executed ≡ None → LeadsThere s.id (earlier_of x ++ s.unsent) v.ahead
    plain none = record { from = driver_state x; reached = slice.reached; leads = subst (λ q. LeadAhead s.id (driver_state x) q (earlier_of x ++ s.unsent) v.ahead) none slice.leads }

    by_told : (line : ℕ) (call : Call) (reply : Reply) → v.executed ≡ Some (Called line call reply) → (is_stopping call ≡ true → is_refusal reply ≡ false → s.unsent ≡ []) →
        (halts refused : Bool) → is_stopping call ≡ halts → is_refusal reply ≡ refused → LeadsThere s.id (earlier_of x ++ s.unsent) v.ahead
    by_told line call reply executed quiet false refused never any =
        let e : Entry = Called line call reply in
        let by : LeadWith false s.id (driver_state x) e es v.ahead =
        subst (λ b. LeadWith b s.id (driver_state x) e es v.ahead) never (subst (λ q. LeadAhead s.id (driver_state x) q es v.ahead) executed slice.leads) in
        record { from = by.0; reached = reached_after (driver_state x) by.0 e slice.reached by.1; leads = by.2 }
    by_told line call reply executed quiet true false halts done = absurd (some (quiet halts done))
    by_told line call reply executed quiet true true halts refused =
        let r : (errno : Errno) × (reply ≡ Refused errno) = refusal_is reply refused in
        let e : Entry = Called line call (Refused r.0) in
        let by : LeadWith true s.id (driver_state x) e es v.ahead =
        subst (λ b. LeadWith b s.id (driver_state x) e es v.ahead) halts
        (subst (λ q. LeadAhead s.id (driver_state x) q es v.ahead) (executed ∙ ap (λ q. Some (Called line call q)) r.1) slice.leads) in
        record {
          from = driver_state x;
          reached = slice.reached;
          leads = subst (LeadAll s.id (driver_state x) es) (sym (refused_call by.0 line call r.0 v.ahead by.2)) by.1;
        }

    by_out : (o : Out) → IsOut o x v → LeadsThere s.id (earlier_of x ++ s.unsent) v.ahead
    by_out Nowhere out = plain out.0.executed
    by_out (Asked m) out = plain out.0.executed
    by_out (Kept m) out = plain out.0.executed
    by_out (Told r) out =
        by_told out.line out.call out.reply out.executed
        (λ halts done. ap unsent_of (sym has) ∙ (out.quiet halts done).0) (is_stopping out.call) (is_refusal out.reply) refl refl
      where
        unsent_of : Option SessionState → List Unsent
        unsent_of None = []
        unsent_of (Some z) = z.unsent
    by_out Astray out = absurd out

-- ---- a buffer is out at most once

occurs : (i : ℕ) (xs : List ℕ) → occurrences i xs ≡ times xs i
occurs i [] = refl
occurs i (x ∷ xs) = by_test (eqb x i) refl (occurs i xs)
  where
    by_test : (b : Bool) → eqb x i ≡ b → occurrences i xs ≡ times xs i → (if b then occurrences i xs + 1 else occurrences i xs) ≡ times (x ∷ xs) i
    by_test true is rest = let one = ap once is in omega (arith, one, rest, times_cons x xs i)
    by_test false is rest = let none = ap once is in omega (arith, none, rest, times_cons x xs i)

times_both : (xs ys : List ℕ) (i : ℕ) → times (xs ++ ys) i ≡ times xs i + times ys i
times_both [] ys i = omega arith
times_both (x ∷ xs) ys i = omega (arith, times_cons x xs i, times_cons x (xs ++ ys) i, times_both xs ys i)

-- the indices of records of one type
one_told : (t i : ℕ) (o : Option BufferRec) → times (indices_of t (option_to_list o)) i ≡ gave t i o
one_told t i None = refl
one_told t i (Some b) = by_test (eqb b.kind t)
  where
    by_test : (k : Bool) → times (map (λ (r : BufferRec). r.index) (if k then b ∷ [] else [])) i ≡ once (k && eqb b.index i)
    by_test true = omega (arith, times_cons b.index [] i)
    by_test false = refl

told_times : (t i : ℕ) (es : List Unsent) → times (indices_of t (returning es)) i ≡ gave_all t i es
told_times t i [] = refl
told_times t i (e ∷ es) =
    let split : indices_of t (returning (e ∷ es)) ≡ indices_of t (option_to_list (given_back e.msg)) ++ indices_of t (returning es) =
    ap (indices_of t) (returning_cons e es (given_back e.msg) refl) ∙ indices_append t (option_to_list (given_back e.msg)) (returning es) in
    let all = ap (λ xs. times xs i) split in
    omega (arith, all, times_both (indices_of t (option_to_list (given_back e.msg))) (indices_of t (returning es)) i, one_told t i (given_back e.msg), told_times t i es)

state_once : (st : BufferState) → once (is_queued st) + once (is_done st) ≤ 1
state_once Idle = omega arith
state_once Queued = omega arith
state_once AsOwed = omega arith
state_once AsDone = omega arith

pub out_once : (x : Slice) (v : Inner) (s : SessionState) (t i : ℕ) → IsSoundSlice x v → x.session ≡ Some s → s.unsent ≢ [] → occurrences i (session_queue s t).out ≤ 1
out_once x v s t i sound has some =
    let slice : IsSlice v.frames s x.job (earlier_of x) v.executed (driver_state x) v.ahead = subst (λ o. IsSeated o x v) has sound.seated in
    let by : LeadsThere s.id (earlier_of x ++ s.unsent) v.ahead = leads_there x v s x.out sound.out some has slice in
    let reached : IsReached v.ahead = all_reached s.id by.from v.ahead (earlier_of x ++ s.unsent) by.reached by.leads in
    let given = all_done s.id (earlier_of x ++ s.unsent) by.from v.ahead t i by.reached by.leads in
    let split = gave_both t i (earlier_of x) s.unsent in
    let out : occurrences i (session_queue s t).out ≡ times (indices_of t (all_out s)) i = occurs i (session_queue s t).out ∙ ap (λ xs. times xs i) (slice.sound.each t).out in
    let parts : times (indices_of t (all_out s)) i ≡ times (indices_of t (returning s.unsent)) i + times (indices_of t (taken_by s.running)) i =
    ap (λ xs. times xs i) (indices_append t (returning s.unsent) (taken_by s.running)) ∙ times_both (indices_of t (returning s.unsent)) (indices_of t (taken_by s.running)) i in
    let behind : List ℕ = map (λ (r : BufferRec). r.index) (map (λ b. b.buffer) (session_queue s t).queued) in
    let order : times (queue_of v.ahead t).queued i ≡ times (indices_of t (taken_by s.running)) i + times behind i =
    ap (λ xs. times xs i) (sym ((slice.stands.each t).order) ∙ map-append (λ (r : BufferRec). r.index) (of_type t (taken_by s.running)) (map (λ b. b.buffer) (session_queue s t).queued))
    ∙ times_both (indices_of t (taken_by s.running)) behind i in
    let place = listed v.ahead reached in
    let queued = (place t i).0 in
    let done = (place t i).2 in
    omega (arith, given, split, out, parts, order, queued, done, told_times t i s.unsent, state_once (buffer_of (queue_of v.ahead t) i).state)
  where
    listed : (u : LocalState) → IsReached u → AreListed u
    listed u (m, log, leads) = listed_log m log u leads
