-- An event that is taken keeps a slice sound.
use Rattle.std.proofs.Common.{◌≡◌, ◌⊎◌, inl, inr, ℕ, zero, suc, ◌<◌, true, false, Bool, List, [], ◌∷◌, ◌++◌, map, get_or, set, length, Option, Some, None, IsSome, refl, sym, ap, ◌∙◌, subst, arith, append_assoc}
use Rattle.std.proofs.lemmas.Bool.{false≢true, not-false}
use Rattle.std.proofs.lemmas.Option.{none-some}
use Rattle.std.proofs.lemmas.List.Elements.{All-nil, All-cons, All-append, All-head, All-tail, All-weaker}
use Rattle.std.specs.List.{filter_map, cons_option}
use Rattle.std.specs.Prelude.{IfSome, All, Contains, take, unwrap_or, if◌then◌else◌}
use Rattle.std.specs.Option.{option_and_then, option_to_list}
use Rattle.v4l_const.specs.declared.errno.Errno.{Errno}
use Rattle.v4l_const.specs.declared.model.Model.{Model}
use Rattle.v4l_const.specs.Model.{queues as types_of}
use Rattle.v4l_rules.specs.Queues.{place_in}
use Rattle.v4l_rules.specs.Refusals.{first_refusal}
use Rattle.v4l_rules.proofs.SetLemmas.{set_keeps}
use Rattle.vm_frame.specs.declared.mem.Held.{Held}
use Rattle.vm_frame.specs.declared.mem.Mem.{Mem}
use Rattle.vm_wire.specs.Buffers.{dequeued_buffer}
use Rattle.v4l_layout.specs.declared.buffer_rec.BufferRec.{BufferRec}
use Rattle.vm_wire.specs.declared.buffers.PictureNote.{PictureNote}
use Rattle.vm_wire.specs.Message.{Posting, Returning}
use Rattle.vm_wire.specs.Wire.{response_bytes}
use Rattle.vm_wire.specs.declared.delivery.Delivery.{Delivery}
use Rattle.vm_wire.specs.declared.event.EventMsg.{EventMsg}
use Rattle.vm_wire.specs.declared.event.EventMsg.TheVariants.{Dequeued, Happened}
use Rattle.vm_local.specs.declared.call.Call.{Call}
use Rattle.vm_local.specs.declared.call.Call.TheVariants.{OpenHandle, CloseHandle, ReqBufs, StreamOff, DqBuf}
use Rattle.vm_local.specs.declared.entry.Entry.{Entry}
use Rattle.vm_local.specs.declared.entry.Entry.TheVariants.{Called, Finish, Bad, Give}
use Rattle.vm_local.specs.declared.owed.Owed.{Owed as OwedEntry}
use Rattle.vm_local.specs.declared.owed.OwedItem.{OwedItem}
use Rattle.vm_local.specs.declared.owed.OwedItem.TheVariants.{Buffer as OwedBuffer, Sync}
use Rattle.vm_local.specs.declared.reply.Reply.{Reply}
use Rattle.vm_local.specs.declared.reply.Reply.TheVariants.{Refused, Count}
use Rattle.vm_local.specs.State.{QueueState, LocalState, opening, opening_queue, no_buffer, queue_of, with_queue, buffer_of}
use Rattle.vm_local.specs.Same.{address_in}
use Rattle.vm_local.specs.Queue.{made_idle, first_done, taken_back}
use Rattle.vm_local.specs.Steps.{number_of}
use Rattle.vm_local.specs.Calls.{row_of, dqbuf_row}
use Rattle.vm_local.specs.Log.{IsCall, IsLegal, row_for, called, after, replay, replay_from}
use Rattle.vm_local.proofs.KeptLemmas.{some_same}
use Rattle.vm_local.proofs.LogLemmas.{replay_from_append}
use Rattle.vm_local.proofs.StepLemmas.{answered_by}
use Rattle.vm_commute.specs.Commute.{is_step, AreSteps}
use Rattle.vm_home.specs.Home.{home_of, is_kept, kept_only}
use Rattle.vm_home.specs.Moves.{memory_at, touched, is_refusal, is_stopping, stops}
use Rattle.vm_home.specs.Reached.{IsReached}
use Rattle.vm_home.proofs.KeptLemmas.{kept_at, kept_long}
use Rattle.vm_log.specs.Answers.{answered_with, number_in, number_owed, first_number}
use Rattle.vm_log.specs.LegalLog.{LogState, state_after, state_of, lease_in, with_entry}
use Rattle.vm_exchange.specs.Exchange.{from_open, way_of, response_to, crossing}
use Rattle.vm_exchange.specs.Messages.{made_by, steps_of}
use Rattle.vm_exchange.specs.declared.way.Way.{Way}
use Rattle.vm_exchange.specs.declared.way.Way.TheVariants.{Crosses, AnsweredHere, Waits, TouchesMemory}
use Rattle.vm_handle.specs.Answers.{row_from, answered_by as answered_by_row, answered_here, with_steps, with_given, answered_at, awoken, delivered}
use Rattle.vm_handle.specs.Handle.{HandleState, id_of, way_from, crossing_from, is_dqbuf, FitsStage}
use Rattle.vm_handle.specs.Messages.{GivesItem as IsGiven, GivesFirst as AreGiven, Delivers}
use Rattle.vm_handle.specs.declared.stage.Stage.{Stage}
use Rattle.vm_handle.specs.declared.stage.Stage.TheVariants.{AtRest, Underway, Waiting}
use Rattle.vm_handle.proofs.DeliverLemmas.{steps_lead, gives_there}
use Rattle.vm_handle.proofs.LogLemmas.{reached as log_reached}
use Rattle.vm_handle.proofs.StageLemmas.{waits_only}
use Rattle.vm_handle.proofs.KeptLemmas.{IsKept, kept_delivered}
use Rattle.vm_session.specs.State.{SessionState}
use Rattle.vm_session.specs.declared.unsent.Unsent.{Unsent}
use Rattle.vm_stands.specs.Ahead.{MayDeliver}
use Rattle.vm_stands.specs.Flight.{stops_queues, given_record, queued_record, note_of, IsHeldAt, GivesItem, GivesFirst, Leads, LeadAll}
use Rattle.vm_stands.specs.Laws.{Along}
use Rattle.vm_stands.specs.Slice.{IsSlice, LeadWith, LeadAhead}
use Rattle.vm_stands.proofs.AheadLemmas.{reached_all}
use Rattle.vm_stands.proofs.FlightLemmas.{made_steps, leads_replay}
use Rattle.vm_realm.specs.Inner.{Inner, driver_state, id_in, under_way, unsent_in}
use Rattle.vm_realm.specs.Laws.{GoesOnSoundly}
use Rattle.vm_realm.specs.Places.{told_state, told_state_if, stops_last, stopped_by as stopped_many}
use Rattle.vm_realm.specs.Slice.{Slice, Out, id_ahead, unsent_by, earlier_of}
use Rattle.vm_realm.specs.Slice.Out.{Nowhere, Asked, Kept, Told, Astray}
use Rattle.vm_realm.specs.SliceSteps.{IsFirst, holds_back, taken, Takes}
use Rattle.vm_realm.specs.Sound.{IsPosted, IsBefore, IsTold, IsOut, IsSeated, HoldsFew, last_call_from, stopped_by, stopped_last, queue_told, IsStill, IsSoundSlice}
use Rattle.vm_realm.specs.Users.{IsUsers, AreUsers}
use Rattle.vm_realm.proofs.KeepStateLemmas.{IsAlike, alike_itself, alike_then, alike_back, steps_alike, lead_alike, users_alike, held_alike, touched_alike}
use Rattle.vm_realm.proofs.KeepOutLemmas.{append_none, on_soundly, moved, moved_sound}
use Rattle.vm_realm.proofs.KeepOwnLemmas.{leads_of, told_held, IsFree, IsLogged, own_sound}

-- ---- it is held back

seated_same : (o : Option SessionState) (x : Slice) (v : Inner) (held events : List Delivery) → earlier_of (moved x held events x.session x.job) ≡ earlier_of x →
    IsSeated o x v → IsSeated o (moved x held events x.session x.job) v
seated_same None x v held events same shut = record {
  reached = shut.reached;
  leads = subst (λ es. LeadAhead (id_in x) (driver_state x) v.executed es v.ahead) (sym same) shut.leads;
  shut = shut.shut;
  owed = shut.owed;
  none_runs = shut.none_runs;
  unmade = shut.unmade;
}
seated_same (Some s) x v held events same slice = subst (λ es. IsSlice v.frames s x.job es v.executed (driver_state x) v.ahead) (sym same) slice

pub held_sound : (x : Slice) (v : Inner) (d : Delivery) (ds : List Delivery) → IsSoundSlice x v → holds_back x.handle.stage ≡ true → x.events ≡ d ∷ ds →
    IsSoundSlice (moved x (x.held ++ d ∷ []) ds x.session x.job) v
held_sound x v d ds sound holds is =
    let same : map unsent_by ((x.held ++ d ∷ []) ++ ds) ≡ earlier_of x = ap (map unsent_by) (append_assoc x.held (d ∷ []) ds ∙ ap (λ (es : List Delivery). x.held ++ es) (sym is)) in
    moved_sound x v (x.held ++ d ∷ []) ds x.session x.job sound (record {
      under = ap (λ (es : List Unsent). es ++ unsent_in x.session) same;
      live = λ m at live. live;
      quiet = λ quiet. quiet;
      seated = seated_same x.session x v (x.held ++ d ∷ []) ds same sound.seated;
      named = sound.named;
      runs = sound.runs;
      holds = subst (λ b. HoldsFew b (x.held ++ d ∷ [])) (sym holds) tt;
      queued = sound.users.queued;
      taken = sound.users.job;
    })

-- ---- a message that leads on may be delivered

kind_of : (m : Model) (b : BufferRec) (note : PictureNote) → (dequeued_buffer m b note).kind ≡ b.kind
unfolding dequeued_buffer
kind_of m b note = refl

index_of : (m : Model) (b : BufferRec) (note : PictureNote) → (dequeued_buffer m b note).index ≡ b.index
unfolding dequeued_buffer
index_of m b note = refl

buffer_given : (s : LocalState) (t i id m : ℕ) (msg : EventMsg) (held : Option Held) → msg ≡ Dequeued id (given_record s t i m) → IsHeldAt s t i held → IsGiven s t (OwedBuffer i) msg held
buffer_given s t i id m msg None is there = absurd there
buffer_given s t i id m msg (Some h) is there =
    let b : BufferRec = queued_record s t i m in
    let note : PictureNote = note_of (buffer_of (queue_of s t) i) in
    subst (λ (x : EventMsg). IsGiven s t (OwedBuffer i) x (Some h)) (sym is) (kind_of s.model b note, index_of s.model b note, there.queue, there.index, there.memory)

event_given : (s : LocalState) (t frame id : ℕ) (msg : EventMsg) (held : Option Held) → (e : _) → msg ≡ Happened id e → held ≡ None → IsGiven s t (Sync frame) msg held
event_given s t frame id msg held e is none =
    subst (λ (x : EventMsg). IsGiven s t (Sync frame) x held) (sym is) (subst (λ o. IsGiven s t (Sync frame) (Happened id e) o) (sym none) tt)

item_given : (id : ℕ) (s : LocalState) (t : ℕ) (item : OwedItem) (e : Unsent) → GivesItem id s t item e → IsGiven s t item e.msg e.held
item_given id s t (OwedBuffer i) e gives = buffer_given s t i id gives.m e.msg e.held gives.msg gives.held
item_given id s t (Sync frame) e gives = event_given s t frame id e.msg e.held _ gives.msg gives.held

first_given : (id : ℕ) (s : LocalState) (owed : List OwedEntry) (e : Unsent) → GivesFirst id s owed e → AreGiven s owed e.msg e.held
first_given id s [] e gives = gives
first_given id s (o ∷ owed) e gives = item_given id s o.queue o.item e gives

some_is : {A : Type 0} (o : Option A) (a : A) → o ≡ Some a → IsSome o
some_is o a is = subst IsSome (sym is) refl

pub leads_deliver : (id : ℕ) (s t : LocalState) (e : Unsent) → Leads id s e t → Delivers s e.msg e.held
leads_deliver id s t e leads = record {
  legal = some_is (replay_from s (steps_of s.model e.msg)) t (leads_replay id s t e leads);
  gives = subst (λ (x : LocalState). AreGiven x x.owed e.msg e.held) (sym (ap (λ o. unwrap_or o s) leads.making)) (first_given id leads.made leads.made.owed e leads.gives);
}

first_lead : (id : ℕ) (r s : LocalState) (executed : Option Entry) (e : Unsent) (es : List Unsent) → MayDeliver executed → LeadAhead id r executed (e ∷ es) s →
    (u : LocalState) × Leads id r e u × LeadAhead id u executed es s
first_lead id r s None e es may (u, leads, all) = (u, leads, all)
first_lead id r s (Some d) e es may leads =
    let by : LeadWith true id r d (e ∷ es) s = subst (λ b. LeadWith b id r d (e ∷ es) s) may leads in
    let u : LocalState = by.1.0 in
    (u, by.1.1, subst (λ b. LeadWith b id u d es s) (sym may) (by.0, by.1.2, by.2))

-- ---- the log

-- it is longer by these entries
pub record IsLonger (l : LogState) (es : List Entry) (new : LogState) : Type 0 where
  pub entries : new.entries ≡ l.entries ++ es
  pub model : new.model ≡ l.model
  pub away : new.away ≡ l.away

longer_by : (l : LogState) (es : List Entry) → IsLonger l es (with_steps l es)
longer_by l [] = record { entries = sym (append_none l.entries); model = refl; away = refl }
longer_by l (e ∷ es) =
    let rest : IsLonger (with_entry l e l.home) es (with_steps l (e ∷ es)) = longer_by (with_entry l e l.home) es in
    record { entries = rest.entries ∙ append_assoc l.entries (e ∷ []) es; model = rest.model; away = rest.away }

given_longer : (l : LogState) (held : Option Held) → IsLonger l (Give ∷ []) (with_given l held)
given_longer l None = record { entries = refl; model = refl; away = refl }
given_longer l (Some held) = record { entries = refl; model = refl; away = refl }

-- the log once a message was delivered
abbrev pub told_log : LogState → EventMsg → Option Held → LogState
told_log l msg held = with_given (with_steps l (made_by (state_of l).model msg)) held

told_longer : (l : LogState) (msg : EventMsg) (held : Option Held) → IsLonger l (steps_of (state_of l).model msg) (told_log l msg held)
told_longer l msg held =
    let made : LogState = with_steps l (made_by (state_of l).model msg) in
    let first : IsLonger l (made_by (state_of l).model msg) made = longer_by l (made_by (state_of l).model msg) in
    let last : IsLonger made (Give ∷ []) (told_log l msg held) = given_longer made held in
    record {
      entries = last.entries ∙ (ap (λ (es : List Entry). es ++ Give ∷ []) first.entries ∙ append_assoc l.entries (made_by (state_of l).model msg) (Give ∷ []));
      model = last.model ∙ first.model;
      away = last.away ∙ first.away;
    }

pub some_of : (m : Model) (o : Option LocalState) → IsSome o → o ≡ Some (unwrap_or o (opening m))
some_of m None is = absurd (false≢true is)
some_of m (Some s) is = refl

-- the state behind more entries
pub state_behind : (m : Model) (log es : List Entry) (u : LocalState) → IsLegal m log → replay_from (state_after m log) es ≡ Some u → state_after m (log ++ es) ≡ u
state_behind m log es u legal leads =
    ap (λ o. unwrap_or o (opening m))
    (replay_from_append (opening m) log es ∙ (ap (λ o. option_and_then (λ t. replay_from t es) o) (some_of m (replay m log) legal) ∙ leads))

pub told_state_is : (l : LogState) (msg : EventMsg) (held : Option Held) (u : LocalState) → IsLegal l.model l.entries → replay_from (state_of l) (steps_of (state_of l).model msg) ≡ Some u →
    state_of (told_log l msg held) ≡ u
told_state_is l msg held u legal leads =
    let longer : IsLonger l (steps_of (state_of l).model msg) (told_log l msg held) = told_longer l msg held in
    (λ j. state_after (longer.model j) (longer.entries j)) ∙ state_behind l.model l.entries (steps_of (state_of l).model msg) u legal leads

-- the last entry leads from the state before it
pub last_leads : (m : Model) (log : List Entry) (e : Entry) → IsLegal m log → IsLegal m (log ++ e ∷ []) → after (state_after m log) e ≡ Some (state_after m (log ++ e ∷ []))
last_leads m log e before legal =
    let s : LocalState = state_after m log in
    let whole : replay m (log ++ e ∷ []) ≡ replay_from s (e ∷ []) =
    replay_from_append (opening m) log (e ∷ []) ∙ ap (λ o. option_and_then (λ t. replay_from t (e ∷ [])) o) (some_of m (replay m log) before) in
    one (after s e) (sym whole ∙ some_of m (replay m (log ++ e ∷ [])) legal)
  where
    one : (o : Option LocalState) → option_and_then (λ t. replay_from t []) o ≡ Some (state_after m (log ++ e ∷ [])) → o ≡ Some (state_after m (log ++ e ∷ []))
    one None is = is
    one (Some t) is = is

-- ---- what is at home

some_inside : {A : Type 0} (xs : List (Option A)) (m : ℕ) (a : A) → get_or xs m None ≡ Some a → m < length xs
some_inside [] m a is = absurd (none-some a is)
some_inside (x ∷ xs) zero a is = omega arith
some_inside (x ∷ xs) (suc m) a is = omega (arith, some_inside xs m a is)

if_some : {A : Type 0} (b : Bool) (o : Option A) (a : A) → (if b then o else None) ≡ Some a → o ≡ Some a
if_some true o a is = is
if_some false o a is = absurd (none-some a is)

pub kept_from : (s : LocalState) (home : List (Option Mem)) (m : ℕ) (mem : Mem) → home_of (kept_only s home) m ≡ Some mem → home_of home m ≡ Some mem
kept_from s home m mem is =
    let inside : m < length (kept_only s home) = some_inside (kept_only s home) m mem is in
    let within : m < length s.memories = subst (λ n. m < n) (kept_long s home) inside in
    if_some (is_kept s m) (home_of home m) mem (sym (kept_at s home m within) ∙ is)

steps_home : (l : LogState) (es : List Entry) (m : ℕ) (mem : Mem) → home_of (with_steps l es).home m ≡ Some mem → home_of l.home m ≡ Some mem
steps_home l [] m mem is = is
steps_home l (e ∷ es) m mem is = kept_from (state_after l.model (l.entries ++ e ∷ [])) l.home m mem (steps_home (with_entry l e l.home) es m mem is)

pub set_from : {A : Type 0} (xs : List (Option A)) (n m : ℕ) (y : Option A) (a : A) → get_or (set xs n y) m None ≡ Some a → (get_or xs m None ≡ Some a) ⊎ ((m ≡ n) × (y ≡ Some a))
set_from [] n m y a is = inl is
set_from (x ∷ xs) zero zero y a is = inr (refl, is)
set_from (x ∷ xs) zero (suc m) y a is = inl is
set_from (x ∷ xs) (suc n) zero y a is = inl is
set_from (x ∷ xs) (suc n) (suc m) y a is =
    elim (set_from xs n m y a is) as (λ _. (get_or xs m None ≡ Some a) ⊎ ((suc m ≡ suc n) × (y ≡ Some a))) [
      | inl old ↦ inl old
      | inr new ↦ inr (ap suc new.0, new.1)
    ]

-- a memory at home was there before, or came with the message
IsFrom : LogState → LocalState → Option Held → ℕ → Mem → Type 0
IsFrom l made held m mem = (home_of l.home m ≡ Some mem) ⊎ ((h : Held) × (held ≡ Some h) × (m ≡ first_number made) × (h.mem ≡ mem))

given_home : (l : LogState) (held : Option Held) (m : ℕ) (mem : Mem) → home_of (with_given l held).home m ≡ Some mem → IsFrom l (state_of l) held m mem
unfolding IsFrom
given_home l None m mem is = inl (kept_from (state_after l.model (l.entries ++ Give ∷ [])) l.home m mem is)
given_home l (Some h) m mem is =
    elim (set_from l.home (first_number (state_of l)) m (Some h.mem) mem (kept_from (state_after l.model (l.entries ++ Give ∷ [])) _ m mem is)) as (λ _. IsFrom l (state_of l) (Some h) m mem) [
      | inl old ↦ inl old
      | inr new ↦ inr (h, refl, new.0, some_same h.mem mem mem new.1)
    ]

given_number : (s : LocalState) (owed : List OwedEntry) (msg : EventMsg) (h : Held) → AreGiven s owed msg (Some h) → number_owed s owed ≡ memory_at s h.queue h.index
given_number s [] msg h gives = absurd gives
given_number s (o ∷ owed) msg h gives = by_item o.item msg gives
  where
    by_item : (item : OwedItem) (msg : EventMsg) → IsGiven s o.queue item msg (Some h) → number_in s item o.queue ≡ memory_at s h.queue h.index
    by_item (OwedBuffer i) (Dequeued session b) gives = λ j. memory_at s (sym gives.2 j) (sym gives.3 j)
    by_item (OwedBuffer i) (Happened session event) gives = absurd gives
    by_item (Sync frame) (Dequeued session b) gives = absurd gives
    by_item (Sync frame) (Happened session event) gives = absurd gives

told_home : (l : LogState) (msg : EventMsg) (held : Option Held) (s : LocalState) (m : ℕ) (mem : Mem) → IsLegal l.model l.entries → Delivers (state_of l) msg held →
    IsAlike (state_of (with_steps l (made_by (state_of l).model msg))) s → IsAlike (state_of l) s →
    ((m : ℕ) (mem : Mem) → home_of l.home m ≡ Some mem → IsUsers (state_of l) m mem) → ((h : Held) → held ≡ Some h → IsUsers s (memory_at s h.queue h.index) h.mem) →
    home_of (told_log l msg held).home m ≡ Some mem → IsUsers s m mem
unfolding IsFrom
told_home l msg held s m mem legal may made_alike alike old new is =
    let made : LogState = with_steps l (made_by (state_of l).model msg) in
    elim (given_home made held m mem is) as (λ _. IsUsers s m mem) [
      | inl before ↦ users_alike (state_of l) s m mem alike (old m mem (steps_home l (made_by (state_of l).model msg) m mem before))
      | inr comes ↦
          let h : Held = comes.0 in
          let gives : AreGiven (state_of made) (state_of made).owed msg (Some h) =
          subst (λ o. AreGiven (state_of made) (state_of made).owed msg o) comes.1 (gives_there l msg held legal may) in
          let number : memory_at s h.queue h.index ≡ m =
          made_alike.memory h.queue h.index ∙ (sym (given_number (state_of made) (state_of made).owed msg h gives) ∙ sym comes.2) in
          subst (λ n. IsUsers s n mem) number (subst (λ x. IsUsers s (memory_at s h.queue h.index) x) comes.3 (new h comes.1))
    ]

-- ---- what a stopping call asks stays

open_same : (s t : LocalState) (way : Way) → t.opened ≡ s.opened → from_open t way ≡ from_open s way
open_same s t way same = ap (λ b. if b then way else AnsweredHere) same

pub stop_way : (id : ℕ) (s t : LocalState) (call : Call) → is_stopping call ≡ true → t.opened ≡ s.opened → way_of id t call ≡ way_of id s call
stop_way id s t CloseHandle stops same = open_same s t _ same
stop_way id s t (ReqBufs u m n) stops same = open_same s t _ same
stop_way id s t (StreamOff u) stops same = open_same s t _ same
stop_way id s t call stops same = absurd (false≢true stops)

stop_along : (s t : LocalState) (call : Call) (held : List Held) → is_stopping call ≡ true → Along s call held → Along t call held
stop_along s t CloseHandle held stops along = along
stop_along s t (ReqBufs u m n) held stops along = along
stop_along s t (StreamOff u) held stops along = along
stop_along s t call held stops along = absurd (false≢true stops)

pub stop_response : (id : ℕ) (s t : LocalState) (call : Call) (reply : Reply) → is_stopping call ≡ true → t.model ≡ s.model → response_to id t call reply ≡ response_to id s call reply
stop_response id s t call (Refused errno) stops same = refl
stop_response id s t CloseHandle reply stops same = refl
stop_response id s t (ReqBufs u m n) (Count count) stops same = ap (λ (x : Model). response_to id (record s { model = x }) (ReqBufs u m n) (Count count)) same
stop_response id s t (ReqBufs u m n) reply stops same = refl
stop_response id s t (StreamOff u) reply stops same = refl
stop_response id s t call reply stops same = absurd (false≢true stops)

pub first_log : (h : HandleState) (log : LogState) (call : Call) → IsFirst h call → IsFirst (record h { log = log }) call
first_log h log (OpenHandle nonblock) first = first
first_log h log call first = tt

-- ---- it is delivered

-- Nothing was executed; or a stopping call was, whose reply waits.
abbrev pub IsPhase : Slice → Inner → Out → Type 0
IsPhase x v o = ((v.executed ≡ None) × ((r : Returning) → o ≡ Told r → ⊥)) ⊎ ((r : Returning) × (o ≡ Told r) × (told : IsTold x v r) × (is_stopping told.call ≡ true))

stops_at : (stage : Stage) (line : ℕ) (call : Call) → stage ≡ Underway line call → holds_back stage ≡ false → is_stopping call ≡ true
stops_at stage line call at free = not-false (is_stopping call) (sym (ap holds_back at) ∙ free)

pub phase : (x : Slice) (v : Inner) (o : Out) → holds_back x.handle.stage ≡ false → IsOut o x v → IsPhase x v o
phase x v Nowhere free out = inl (out.0.executed, λ r is. cc)
phase x v (Asked m) free out = inl (out.0.executed, λ r is. cc)
phase x v (Kept m) free out = inl (out.0.executed, λ r is. cc)
phase x v (Told r) free out = inr (r, refl, out, stops_at x.handle.stage out.line out.call out.underway free)
phase x v Astray free out = absurd out

may_deliver : (x : Slice) (v : Inner) (o : Out) → IsPhase x v o → MayDeliver v.executed
may_deliver x v o (inl (none, other)) = subst MayDeliver (sym none) tt
may_deliver x v o (inr (r, at, told, halts)) = subst MayDeliver (sym told.executed) halts

told_before : (v : Inner) (e : Entry) → v.executed ≡ Some e → stops_queues e ≡ true → told_state v ≡ v.before
told_before v e executed halts = ap (λ o. told_state_if (stops_last o) v) executed ∙ ap (λ b. told_state_if b v) halts

-- the messages lead to the state that they tell of
pub told_leads : (x : Slice) (v : Inner) (o : Out) → IsPhase x v o → IsSeated x.session x v → (id : ℕ) × LeadAll id (driver_state x) (under_way x) (told_state v)
told_leads x v o (inl (none, other)) seated =
    let by : (id : ℕ) × LeadAll id (driver_state x) (under_way x) v.ahead = leads_of x.session x v none seated in
    (by.0, subst (λ e. LeadAll by.0 (driver_state x) (under_way x) (told_state (record v { executed = e }))) (sym none) by.1)
told_leads x v o (inr (r, at, told, halts)) seated = (
  id_in x,
  subst (LeadAll (id_in x) (driver_state x) (under_way x)) (sym (told_before v (Called told.line told.call told.reply) told.executed halts))
      (subst (λ b. IsBefore b x v.before) halts told.before),
)

-- the slice once the message is logged, where no call that waits is answered by it
abbrev pub told_handle : HandleState → EventMsg → Option Held → HandleState
told_handle h msg held = record h { log = told_log h.log msg held }

abbrev after_told : Slice → Delivery → List Delivery → Slice
after_told x d ds = record x { handle = told_handle x.handle d.msg d.held; events = ds }

-- What is so where the message d was the first one: it leads from the driver's state to the one behind it.
pub record IsFirstOf (x : Slice) (v : Inner) (d : Delivery) (ds : List Delivery) : Type 0 where
  pub sound : IsSoundSlice x v
  pub free : holds_back x.handle.stage ≡ false
  pub events : x.events ≡ d ∷ ds
  pub nothing_held : x.held ≡ []
  pub phased : IsPhase x v x.out
  pub reached : IsReached (driver_state x)
  pub id : ℕ
  pub leads : Leads id (driver_state x) (unsent_by d) (state_of (told_log x.handle.log d.msg d.held))

-- what is under way: the message, and the others
under_first : (x : Slice) (d : Delivery) (ds : List Delivery) → x.held ≡ [] → x.events ≡ d ∷ ds → under_way x ≡ unsent_by d ∷ under_way (after_told x d ds)
under_first x d ds none is =
    ap (λ (es : List Unsent). es ++ unsent_in x.session)
    ((λ j. map unsent_by (none j ++ is j)) ∙ ap (λ (es : List Delivery). map unsent_by (d ∷ (es ++ ds))) (sym none))

-- of the handle's parts those change with the message that its steps do
alike_first : (x : Slice) (v : Inner) (d : Delivery) (ds : List Delivery) → IsFirstOf x v d ds → IsAlike (driver_state x) (state_of (told_log x.handle.log d.msg d.held))
alike_first x v d ds is = lead_alike is.id (driver_state x) (state_of (told_log x.handle.log d.msg d.held)) (unsent_by d ∷ []) is.reached (state_of (told_log x.handle.log d.msg d.held), is.leads, refl)

-- another message leads to the same state
same_state : (id other : ℕ) (r s t : LocalState) (e : Unsent) → Leads id r e s → Leads other r e t → s ≡ t
same_state id other r s t e first second = some_same s t s (sym (leads_replay id r s e first) ∙ leads_replay other r t e second)

lead_rest : (id : ℕ) (r u s : LocalState) (e : Unsent) (es all : List Unsent) (other : ℕ) → Leads other r e u → all ≡ e ∷ es → LeadAll id r all s → LeadAll id u es s
lead_rest id r u s e es all other first is leads =
    let by : LeadAll id r (e ∷ es) s = subst (λ xs. LeadAll id r xs s) is leads in
    subst (λ x. LeadAll id x es s) (same_state id other r by.0 u e by.1 first) by.2

ahead_rest : (id : ℕ) (r u s : LocalState) (executed : Option Entry) (e : Unsent) (es all : List Unsent) (other : ℕ) → MayDeliver executed → Leads other r e u → all ≡ e ∷ es →
    LeadAhead id r executed all s → LeadAhead id u executed es s
ahead_rest id r u s executed e es all other may first is leads =
    let by : (x : LocalState) × Leads id r e x × LeadAhead id x executed es s = first_lead id r s executed e es may (subst (λ xs. LeadAhead id r executed xs s) is leads) in
    subst (λ x. LeadAhead id x executed es s) (same_state id other r by.0 u e by.1 first) by.2

seated_told : (o : Option SessionState) (x : Slice) (v w : Inner) (d : Delivery) (ds : List Delivery) → IsFirstOf x v d ds → w.executed ≡ v.executed → w.ahead ≡ v.ahead → w.frames ≡ v.frames →
    IsSeated o x v → IsSeated o (after_told x d ds) w
seated_told None x v w d ds is executed ahead frames shut =
    let u : LocalState = state_of (told_log x.handle.log d.msg d.held) in
    let first : earlier_of x ≡ unsent_by d ∷ earlier_of (after_told x d ds) =
    (λ j. map unsent_by (is.nothing_held j ++ is.events j)) ∙ ap (λ (es : List Delivery). map unsent_by (d ∷ (es ++ ds))) (sym is.nothing_held) in
    record {
      reached = reached_all (steps_of (driver_state x).model d.msg) (driver_state x) u is.reached (leads_replay is.id (driver_state x) u (unsent_by d) is.leads);
      leads = subst (λ e. LeadAhead (id_in x) u e (earlier_of (after_told x d ds)) w.ahead) (sym executed)
          (subst (λ s. LeadAhead (id_in x) u v.executed (earlier_of (after_told x d ds)) s) (sym ahead)
          (ahead_rest (id_in x) (driver_state x) u v.ahead v.executed (unsent_by d) (earlier_of (after_told x d ds)) (earlier_of x) is.id (may_deliver x v x.out is.phased) is.leads first shut.leads));
      shut = ap (λ (s : LocalState). s.opened) ahead ∙ shut.shut;
      owed = ap (λ (s : LocalState). s.owed) ahead ∙ shut.owed;
      none_runs = shut.none_runs;
      unmade = λ unnamed. frames ∙ shut.unmade unnamed;
    }
seated_told (Some s) x v w d ds is executed ahead frames slice =
    let u : LocalState = state_of (told_log x.handle.log d.msg d.held) in
    let first : earlier_of x ++ s.unsent ≡ unsent_by d ∷ (earlier_of (after_told x d ds) ++ s.unsent) =
    ap (λ (es : List Unsent). es ++ s.unsent)
    ((λ j. map unsent_by (is.nothing_held j ++ is.events j)) ∙ ap (λ (es : List Delivery). map unsent_by (d ∷ (es ++ ds))) (sym is.nothing_held)) in
    let own : IsSlice v.frames s x.job (earlier_of (after_told x d ds)) v.executed u v.ahead = record {
      reached = reached_all (steps_of (driver_state x).model d.msg) (driver_state x) u is.reached (leads_replay is.id (driver_state x) u (unsent_by d) is.leads);
      leads = ahead_rest s.id (driver_state x) u v.ahead v.executed (unsent_by d) (earlier_of (after_told x d ds) ++ s.unsent) (earlier_of x ++ s.unsent) is.id
          (may_deliver x v x.out is.phased) is.leads first slice.leads;
      stands = slice.stands;
      sound = slice.sound;
      owed = slice.owed;
      next = slice.next;
    } in
    subst (λ fs. IsSlice fs s x.job (earlier_of (after_told x d ds)) w.executed u w.ahead) (sym frames)
    (subst (λ e. IsSlice v.frames s x.job (earlier_of (after_told x d ds)) e u w.ahead) (sym executed)
    (subst (λ a. IsSlice v.frames s x.job (earlier_of (after_told x d ds)) v.executed u a) (sym ahead) own))

-- ---- the call that is out

-- what crosses for a stopping call is the same once a message was logged
crossing_told : (x : Slice) (v : Inner) (d : Delivery) (ds : List Delivery) (call : Call) → IsFirstOf x v d ds → is_stopping call ≡ true →
    crossing_from (after_told x d ds).handle call ≡ crossing_from x.handle call
crossing_told x v d ds call is stops =
    ap crossing (stop_way (id_of x.handle.session) (driver_state x) (state_of (told_log x.handle.log d.msg d.held)) call stops (alike_first x v d ds is).opened)

posted_told : (x : Slice) (v : Inner) (d : Delivery) (ds : List Delivery) (m : Posting) → IsFirstOf x v d ds → IsPosted x m → IsPosted (after_told x d ds) m
posted_told x v d ds m is posted =
    let stops : is_stopping posted.call ≡ true = stops_at x.handle.stage posted.line posted.call posted.underway is.free in
    record {
      line = posted.line;
      call = posted.call;
      crossing = posted.crossing;
      along = posted.along;
      underway = posted.underway;
      crosses = crossing_told x v d ds posted.call is stops ∙ posted.crosses;
      words = posted.words;
      first = first_log x.handle (told_log x.handle.log d.msg d.held) posted.call posted.first;
      says = posted.says;
      memory = stop_along (driver_state x) (state_of (told_log x.handle.log d.msg d.held)) posted.call (option_to_list posted.along) stops posted.memory;
    }

told_told : (x : Slice) (v : Inner) (d : Delivery) (ds : List Delivery) (r : Returning) → IsFirstOf x v d ds → IsTold x v r → IsTold (after_told x d ds) v r
told_told x v d ds r is told =
    let stops : is_stopping told.call ≡ true = stops_at x.handle.stage told.line told.call told.underway is.free in
    let u : LocalState = state_of (told_log x.handle.log d.msg d.held) in
    let before : LeadAll (id_in x) (driver_state x) (under_way x) v.before = subst (λ b. IsBefore b x v.before) stops told.before in
    record {
      line = told.line;
      call = told.call;
      reply = told.reply;
      next = told.next;
      underway = told.underway;
      crosses = subst IsSome (sym (crossing_told x v d ds told.call is stops)) told.crosses;
      first = first_log x.handle (told_log x.handle.log d.msg d.held) told.call told.first;
      executed = told.executed;
      before = subst (λ b. IsBefore b (after_told x d ds) v.before) (sym stops)
          (lead_rest (id_in x) (driver_state x) u v.before (unsent_by d) (under_way (after_told x d ds)) (under_way x) is.id is.leads (under_first x d ds is.nothing_held is.events) before);
      is_call = told.is_call;
      who = told.who;
      bytes = told.bytes ∙ ap response_bytes (sym (stop_response (id_in x) (driver_state x) u told.call told.reply stops (alike_first x v d ds is).model));
      small = λ id is_open. told.small id (sym (stop_response (id_in x) (driver_state x) u told.call told.reply stops (alike_first x v d ds is).model) ∙ is_open);
      address = told.address;
      memories = told.memories;
      quiet = told.quiet;
    }

-- What is out then, and what is behind the slice: the state before a call that was executed stays.
pub record IsOutThen (x : Slice) (v : Inner) (d : Delivery) (ds : List Delivery) (o : Out) : Type 0 where
  pub before : LocalState
  pub out : IsOut o (after_told x d ds) (record v { before = before })
  pub told : told_state (record v { before = before }) ≡ told_state v
  pub back : (r : Returning) → o ≡ Told r → before ≡ v.before

out_none : (x : Slice) (v : Inner) (d : Delivery) (ds : List Delivery) (o : Out) → v.executed ≡ None → ((r : Returning) → o ≡ Told r → ⊥) →
    IsOut o (after_told x d ds) (record v { before = state_of (told_log x.handle.log d.msg d.held) }) → IsOutThen x v d ds o
out_none x v d ds o none other out = record {
  before = state_of (told_log x.handle.log d.msg d.held);
  out = out;
  told = ap (λ e. told_state (record v { executed = e; before = state_of (told_log x.handle.log d.msg d.held) })) none ∙ ap (λ e. told_state (record v { executed = e })) (sym none);
  back = λ r at. absurd (other r at);
}

out_then : (x : Slice) (v : Inner) (d : Delivery) (ds : List Delivery) (o : Out) → IsFirstOf x v d ds → IsOut o x v → IsOutThen x v d ds o
unfolding posted_told
out_then x v d ds Nowhere is out = out_none x v d ds Nowhere out.0.executed (λ r at. not_told r at) (record { executed = out.0.executed; before = refl }, out.1)
  where
    not_told : (r : Returning) → Nowhere ≡ Told r → ⊥
    not_told r at = cc
out_then x v d ds (Asked m) is out =
    out_none x v d ds (Asked m) out.0.executed (λ r at. not_told r at) (record { executed = out.0.executed; before = refl }, posted_told x v d ds m is out.1)
  where
    not_told : (r : Returning) → Asked m ≡ Told r → ⊥
    not_told r at = cc
out_then x v d ds (Kept m) is out =
    out_none x v d ds (Kept m) out.0.executed (λ r at. not_told r at) (
      record { executed = out.0.executed; before = refl },
      record {
        posted = posted_told x v d ds m is out.1.posted;
        stops = stops_at x.handle.stage out.1.posted.line out.1.posted.call out.1.posted.underway is.free;
        live = out.1.live;
      },
    )
  where
    not_told : (r : Returning) → Kept m ≡ Told r → ⊥
    not_told r at = cc
out_then x v d ds (Told r) is out = record {
  before = v.before;
  out = told_told x v d ds r is out;
  told = refl;
  back = λ s at. refl;
}
out_then x v d ds Astray is out = absurd out

-- ---- what a stopping call stopped

last_steps : (es : List Entry) → AreSteps es → (last : Option Entry) → last_call_from last es ≡ last
last_steps [] are last = refl
last_steps (Called line call reply ∷ es) are last = absurd (false≢true (All-head (λ e. is_step e ≡ true) (Called line call reply) es are))
last_steps (Finish ∷ es) are last = last_steps es (All-tail (λ e. is_step e ≡ true) Finish es are) last
last_steps (Bad ∷ es) are last = last_steps es (All-tail (λ e. is_step e ≡ true) Bad es are) last
last_steps (Give ∷ es) are last = last_steps es (All-tail (λ e. is_step e ≡ true) Give es are) last

message_steps : (m : Model) (msg : EventMsg) → AreSteps (steps_of m msg)
message_steps m msg =
    let P : Entry → Type 0 = λ e. is_step e ≡ true in
    All-append P (made_by m msg) (Give ∷ []) (made_steps m msg) (All-cons P Give [] refl (All-nil P))

pub last_append : (log es : List Entry) (last : Option Entry) → last_call_from last (log ++ es) ≡ last_call_from (last_call_from last log) es
last_append [] es last = refl
last_append (Called line call reply ∷ log) es last = last_append log es (Some (Called line call reply))
last_append (Finish ∷ log) es last = last_append log es last
last_append (Bad ∷ log) es last = last_append log es last
last_append (Give ∷ log) es last = last_append log es last

stops_same : (s t : LocalState) (call : Call) → t.model ≡ s.model → stops t call ≡ stops s call
stops_same s t CloseHandle same = ap types_of same
stops_same s t (ReqBufs u m n) same = refl
stops_same s t (StreamOff u) same = refl
stops_same s t call same = refl

pub stopped_same : (s t : LocalState) (e : Option Entry) → t.model ≡ s.model → stopped_by t e ≡ stopped_by s e
stopped_same s t None same = refl
stopped_same s t (Some (Called line call reply)) same = ap (λ ts. if is_refusal reply then [] else ts) (stops_same s t call same)
stopped_same s t (Some Finish) same = refl
stopped_same s t (Some Bad) same = refl
stopped_same s t (Some Give) same = refl

still_told : (x : Slice) (v : Inner) (d : Delivery) (ds : List Delivery) → IsFirstOf x v d ds → IsStill (after_told x d ds)
still_told x v d ds is =
    let y : Slice = after_told x d ds in
    let longer : IsLonger x.handle.log (steps_of (driver_state x).model d.msg) (told_log x.handle.log d.msg d.held) = told_longer x.handle.log d.msg d.held in
    let last : last_call_from None y.handle.log.entries ≡ last_call_from None x.handle.log.entries =
    ap (last_call_from None) longer.entries
    ∙ (last_append x.handle.log.entries (steps_of (driver_state x).model d.msg) None
    ∙ last_steps (steps_of (driver_state x).model d.msg) (message_steps (driver_state x).model d.msg) (last_call_from None x.handle.log.entries)) in
    let stopped : stopped_last y ≡ stopped_last x =
    ap (stopped_by (driver_state y)) last ∙ stopped_same (driver_state x) (driver_state y) (last_call_from None x.handle.log.entries) (alike_first x v d ds is).model in
    let P : List ℕ → Model → Unsent → Type 0 = λ ts m e. ¬ Contains ts (queue_told m e.msg) in
    let old : All (P (stopped_last x) x.handle.log.model) (unsent_by d ∷ under_way y) =
    subst (All (P (stopped_last x) x.handle.log.model)) (under_first x d ds is.nothing_held is.events) is.sound.still in
    let rest : All (P (stopped_last x) x.handle.log.model) (under_way y) = All-tail (P (stopped_last x) x.handle.log.model) (unsent_by d) (under_way y) old in
    subst (λ ts. All (P ts y.handle.log.model) (under_way y)) (sym stopped) (subst (λ m. All (P (stopped_last x) m) (under_way y)) (sym longer.model) rest)

-- ---- the slice, where no call that waits is answered

held_rest : (P : Held → Type 0) (o : Option Held) (xs : List Held) → All P (cons_option o xs) → All P xs
held_rest P None xs all = all
held_rest P (Some h) xs all = All-tail P h xs all

held_first : (P : Held → Type 0) (o : Option Held) (xs : List Held) → All P (cons_option o xs) → (h : Held) → o ≡ Some h → P h
held_first P None xs all h is = absurd (none-some h is)
held_first P (Some k) xs all h is = subst P (some_same k h h is) (All-head P k xs all)

messages_told : (x : Slice) (v : Inner) (d : Delivery) (ds : List Delivery) → IsFirstOf x v d ds → AreUsers (told_state v) (cons_option d.held (told_held (after_told x d ds)))
messages_told x v d ds is =
    subst (λ (es : List Unsent). AreUsers (told_state v) (filter_map (λ e. e.held) es)) (under_first x d ds is.nothing_held is.events) is.sound.users.messages

home_told : (x : Slice) (v : Inner) (d : Delivery) (ds : List Delivery) → IsFirstOf x v d ds → (m : ℕ) (mem : Mem) → home_of (told_log x.handle.log d.msg d.held).home m ≡ Some mem →
    IsUsers (state_of (told_log x.handle.log d.msg d.held)) m mem
home_told x v d ds is m mem at =
    let l : LogState = x.handle.log in
    let u : LocalState = state_of (told_log l d.msg d.held) in
    let legal : IsLegal l.model l.entries = is.sound.handle.legal in
    let made : LocalState = state_of (with_steps l (made_by (driver_state x).model d.msg)) in
    let may : Delivers (driver_state x) d.msg d.held = leads_deliver is.id (driver_state x) u (unsent_by d) is.leads in
    let to_made : replay_from (driver_state x) (made_by (driver_state x).model d.msg) ≡ Some made =
    steps_lead l (made_by (driver_state x).model d.msg) legal (some_is _ is.leads.made is.leads.making) in
    let on_made : IsAlike (driver_state x) made = steps_alike (made_by (driver_state x).model d.msg) (driver_state x) made (made_steps (driver_state x).model d.msg) is.reached to_made in
    let on : IsAlike (driver_state x) u = alike_first x v d ds is in
    let ahead : (id : ℕ) × LeadAll id (driver_state x) (under_way x) (told_state v) = told_leads x v x.out is.phased is.sound.seated in
    let back : IsAlike (told_state v) u = alike_then (told_state v) (driver_state x) u (alike_back (driver_state x) (told_state v) (lead_alike ahead.0 (driver_state x) (told_state v) (under_way x) is.reached ahead.1)) on in
    told_home l d.msg d.held u m mem legal may (alike_then made (driver_state x) u (alike_back (driver_state x) made on_made) on) on is.sound.users.home
    (λ h is_held. subst (λ n. IsUsers u n h.mem) (sym (back.memory h.queue h.index))
    (users_alike (told_state v) u (memory_at (told_state v) h.queue h.index) h.mem back
    (held_first (λ k. IsUsers (told_state v) (memory_at (told_state v) k.queue k.index) k.mem) d.held (told_held (after_told x d ds)) (messages_told x v d ds is) h is_held))) at

told_sound : (x : Slice) (v : Inner) (d : Delivery) (ds : List Delivery) → IsFirstOf x v d ds → IsKept (after_told x d ds).handle → GoesOnSoundly (after_told x d ds) v
told_sound x v d ds is kept =
    let y : Slice = after_told x d ds in
    let u : LocalState = driver_state y in
    let out : IsOutThen x v d ds x.out = out_then x v d ds x.out is is.sound.out in
    let w : Inner = record v { before = out.before } in
    let on : IsAlike (driver_state x) u = alike_first x v d ds is in
    let longer : IsLonger x.handle.log (steps_of (driver_state x).model d.msg) (told_log x.handle.log d.msg d.held) = told_longer x.handle.log d.msg d.held in
    on_soundly y v w refl (record {
      log = kept.sound;
      handle = kept.keeps;
      out = out.out;
      seated = seated_told x.session x v w d ds is refl refl refl is.sound.seated;
      named = is.sound.named;
      runs = is.sound.runs;
      still = still_told x v d ds is;
      held = is.sound.held;
      users = record {
        home = home_told x v d ds is;
        lent = λ entry at. subst (λ n. IsUsers u n entry.mem.value) (sym (touched_alike (driver_state x) u entry.call on))
            (users_alike (driver_state x) u (touched (driver_state x) entry.call) entry.mem.value on (is.sound.users.lent entry (sym (ap lease_in longer.away) ∙ at)));
        along = λ m number asked sent. All-weaker (λ (h : Held). IsUsers (driver_state x) number h.mem) (λ (h : Held). IsUsers u number h.mem)
            (λ h users. users_alike (driver_state x) u number h.mem on users) m.held (is.sound.users.along m number asked (sym longer.away ∙ sent));
        back = λ r at. subst (λ b. AreUsers b (take (stopped_many b v.executed) r.held)) (sym (out.back r at)) (is.sound.users.back r at);
        messages = subst (λ s. AreUsers s (told_held y)) (sym out.told)
            (held_rest (λ k. IsUsers (told_state v) (memory_at (told_state v) k.queue k.index) k.mem) d.held (told_held y) (messages_told x v d ds is));
        queued = is.sound.users.queued;
        job = is.sound.users.job;
      };
    })

-- ---- a call that waits is answered by it

taken_alike : (s : LocalState) (t : ℕ) → IsAlike s (with_queue s t (taken_back (queue_of s t)))
taken_alike s t =
    let q : QueueState = queue_of s t in
    record {
      opened = refl;
      model = refl;
      bound = refl;
      memory = λ u i. set_keeps opening_queue (λ (v : QueueState). number_of (buffer_of v i)) s.queues (place_in (types_of s.model) t) (taken_back q)
          (set_keeps no_buffer number_of q.buffers (first_done q) (made_idle (buffer_of q (first_done q))) refl i) (place_in (types_of s.model) u);
      long = λ m. refl;
    }

dqbuf_next : (s : LocalState) (line addr t : ℕ) → IsAlike s (row_of s line addr (DqBuf t)).next
unfolding dqbuf_row
dqbuf_next s line addr t = taken_alike s t

pub dqbuf_alike : (s u : LocalState) (line t : ℕ) (reply : Reply) → IsCall s line (DqBuf t) reply u → IsAlike s u
unfolding called
dqbuf_alike s u line t reply leads =
    elim (answered_by (first_refusal (row_for s line (DqBuf t) reply).refusals) (row_for s line (DqBuf t) reply) s reply u leads) as (λ _. IsAlike s u) [
      | inl same ↦ subst (IsAlike s) (sym same) (alike_itself s)
      | inr w ↦ subst (IsAlike s) (sym w.3) (dqbuf_next s line (address_in reply) t)
    ]

waits_nowhere : (x : Slice) (v : Inner) (o : Out) (line : ℕ) (call : Call) → x.handle.stage ≡ Waiting line call → IsOut o x v → (o ≡ Nowhere) × (v.executed ≡ None)
waits_nowhere x v o line call waits out = by_out o out
  where
    apart : (l : ℕ) (c : Call) → x.handle.stage ≡ Underway l c → ⊥
    apart l c under = not_both (sym waits ∙ under)
      where
        not_both : Waiting line call ≡ Underway l c → ⊥
        not_both is = cc

    by_out : (o : Out) → IsOut o x v → (o ≡ Nowhere) × (v.executed ≡ None)
    by_out Nowhere out = (refl, out.0.executed)
    by_out (Asked m) out = absurd (apart out.1.line out.1.call out.1.underway)
    by_out (Kept m) out = absurd (apart out.1.posted.line out.1.posted.call out.1.posted.underway)
    by_out (Told r) out = absurd (apart out.line out.call out.underway)
    by_out Astray out = absurd out

pub told_legal : (l : LogState) (msg : EventMsg) (held : Option Held) (u : LocalState) → IsLegal l.model l.entries → replay_from (state_of l) (steps_of (state_of l).model msg) ≡ Some u →
    IsLegal (told_log l msg held).model (told_log l msg held).entries
told_legal l msg held u legal leads =
    let steps : List Entry = steps_of (state_of l).model msg in
    let longer : IsLonger l steps (told_log l msg held) = told_longer l msg held in
    let whole : replay l.model (l.entries ++ steps) ≡ Some u =
    replay_from_append (opening l.model) l.entries steps ∙ (ap (λ o. option_and_then (λ t. replay_from t steps) o) (some_of l.model (replay l.model l.entries) legal) ∙ leads) in
    some_is (replay (told_log l msg held).model (told_log l msg held).entries) u ((λ j. replay (longer.model j) (longer.entries j)) ∙ whole)

-- How a dqbuf that waits is answered: what is at home stays.
pub record IsAnswered (l : LogState) (line : ℕ) (call : Call) (new : LogState) : Type 0 where
  pub reply : Reply
  pub home : List (Option Mem)
  pub is : new ≡ answered_with l line call reply home
  pub stays : (m : ℕ) (mem : Mem) → home_of home m ≡ Some mem → home_of l.home m ≡ Some mem

dqbuf_answered : (o : Option Errno) (l : LogState) (line t : ℕ) → IsAnswered l line (DqBuf t) (answered_by_row o l line (DqBuf t))
dqbuf_answered (Some errno) l line t = record { reply = Refused errno; home = l.home; is = refl; stays = λ m mem at. at }
dqbuf_answered None l line t = record {
  reply = (row_from l line (DqBuf t)).reply;
  home = l.home ++ [];
  is = refl;
  stays = λ m mem at. subst (λ hs. home_of hs m ≡ Some mem) (append_none l.home) at;
}

none_either : (b : Bool) → ◌≡◌ {A = List ℕ} (if b then [] else []) []
none_either true = refl
none_either false = refl

dqbuf_sound : (x : Slice) (v : Inner) (d : Delivery) (ds : List Delivery) (line t : ℕ) (new : LogState) → IsFirstOf x v d ds → x.handle.stage ≡ Waiting line (DqBuf t) →
    IsAnswered (told_log x.handle.log d.msg d.held) line (DqBuf t) new → IsKept (record x.handle { log = new; stage = AtRest }) →
    GoesOnSoundly (record x { handle = record x.handle { log = new; stage = AtRest }; events = ds }) v
dqbuf_sound x v d ds line t new is waits answered kept =
    let y : Slice = after_told x d ds in
    let l : LogState = told_log x.handle.log d.msg d.held in
    let call : Call = DqBuf t in
    let log : LogState = answered_with l line call answered.reply answered.home in
    let h : HandleState = record x.handle { log = log; stage = AtRest } in
    let own : IsKept h = subst (λ z. IsKept (record x.handle { log = z; stage = AtRest })) answered.is kept in
    let at : (x.out ≡ Nowhere) × (v.executed ≡ None) = waits_nowhere x v x.out line call waits is.sound.out in
    let leads : replay_from (driver_state x) (steps_of (driver_state x).model d.msg) ≡ Some (state_of l) = leads_replay is.id (driver_state x) (state_of l) (unsent_by d) is.leads in
    let is_call : IsCall (state_of l) line call answered.reply (state_of log) =
    last_leads l.model l.entries (Called line call answered.reply) (told_legal x.handle.log d.msg d.held (state_of l) is.sound.handle.legal leads) own.keeps.legal in
    let on : IsAlike (state_of l) (state_of log) = dqbuf_alike (state_of l) (state_of log) line t answered.reply is_call in
    let ahead : told_state v ≡ v.ahead = ap (λ e. told_state (record v { executed = e })) at.1 in
    let free : IsFree y v = record {
      reached = reached_all (steps_of (driver_state x).model d.msg) (driver_state x) (state_of l) is.reached leads;
      none = at.1;
      nowhere = at.0;
      nothing_held = is.nothing_held;
      seated = seated_told x.session x v v d ds is refl refl refl is.sound.seated;
      named = subst (λ o. IfSome x.session (λ s. id_ahead x.handle o ≡ Some s.id)) at.0 is.sound.named;
      runs = is.sound.runs;
      messages = subst (λ s. AreUsers s (told_held y)) ahead
          (held_rest (λ k. IsUsers (told_state v) (memory_at (told_state v) k.queue k.index) k.mem) d.held (told_held y) (messages_told x v d ds is));
      queued = is.sound.users.queued;
      taken = is.sound.users.job;
    } in
    let logged : IsLogged y h line call answered.reply = record {
      is_call = is_call;
      entries = refl;
      away = refl;
      session = refl;
      stage = refl;
      home = λ m mem there. users_alike (state_of l) (state_of log) m mem on
          (home_told x v d ds is m mem (answered.stays m mem (kept_from (state_of log) answered.home m mem there)));
    } in
    let by : (w : Inner) × (w.frames ≡ v.frames) × IsSoundSlice (record y { handle = h; out = Nowhere }) w =
    own_sound y v h line call answered.reply free logged (inl refl) (λ s. none_either (is_refusal answered.reply))
    (λ held one users. held_alike (state_of l) (state_of log) held on users) own.sound own.keeps in
    let slice : IsSoundSlice (record x { handle = h; events = ds }) by.0 = subst (λ o. IsSoundSlice (record x { handle = h; events = ds; out = o }) by.0) (sym at.0) by.2 in
    on_soundly (record x { handle = record x.handle { log = new; stage = AtRest }; events = ds }) v by.0 by.1
    (subst (λ z. IsSoundSlice (record x { handle = record x.handle { log = z; stage = AtRest }; events = ds }) by.0) (sym answered.is) slice)

waiting_is : (x : Slice) (v : Inner) (d : Delivery) (ds : List Delivery) (line : ℕ) (call : Call) → IsFirstOf x v d ds → x.handle.stage ≡ Waiting line call → is_dqbuf call ≡ true
waiting_is x v d ds line call is waits =
    let fits : FitsStage (id_of x.handle.session) (driver_state x) x.handle.log.away x.handle.log.unanswered (Waiting line call) =
    subst (FitsStage (id_of x.handle.session) (driver_state x) x.handle.log.away x.handle.log.unanswered) waits is.sound.handle.fits in
    waits_only (id_of x.handle.session) (driver_state x) call fits.2

woken_sound : (x : Slice) (v : Inner) (d : Delivery) (ds : List Delivery) (line : ℕ) (call : Call) → is_dqbuf call ≡ true → IsFirstOf x v d ds → x.handle.stage ≡ Waiting line call → (way : Way) →
    IsKept (answered_at way (after_told x d ds).handle line call) → GoesOnSoundly (record x { handle = answered_at way (after_told x d ds).handle line call; events = ds }) v
woken_sound x v d ds line (DqBuf t) dqbuf is waits AnsweredHere kept =
    let l : LogState = told_log x.handle.log d.msg d.held in
    dqbuf_sound x v d ds line t (answered_here l line (DqBuf t)) is waits (dqbuf_answered (first_refusal (row_from l line (DqBuf t)).refusals) l line t) kept
woken_sound x v d ds line (DqBuf t) dqbuf is waits (Crosses c) kept = told_sound x v d ds is kept
woken_sound x v d ds line (DqBuf t) dqbuf is waits Waits kept = told_sound x v d ds is kept
woken_sound x v d ds line (DqBuf t) dqbuf is waits TouchesMemory kept = told_sound x v d ds is kept
woken_sound x v d ds line call dqbuf is waits way kept = absurd (false≢true dqbuf)

awoken_sound : (x : Slice) (v : Inner) (d : Delivery) (ds : List Delivery) (stage : Stage) → x.handle.stage ≡ stage → IsFirstOf x v d ds →
    IsKept (awoken stage (after_told x d ds).handle) → GoesOnSoundly (record x { handle = awoken stage (after_told x d ds).handle; events = ds }) v
awoken_sound x v d ds AtRest at is kept = told_sound x v d ds is kept
awoken_sound x v d ds (Underway line call) at is kept = told_sound x v d ds is kept
awoken_sound x v d ds (Waiting line call) at is kept =
    woken_sound x v d ds line call (waiting_is x v d ds line call is at) is at (way_from (after_told x d ds).handle call) kept

-- ---- an event is taken

first_is : (x : Slice) (v : Inner) (d : Delivery) (ds : List Delivery) → IsSoundSlice x v → holds_back x.handle.stage ≡ false → x.events ≡ d ∷ ds → IsFirstOf x v d ds
first_is x v d ds sound free events =
    let none : x.held ≡ [] = subst (λ b. HoldsFew b x.held) free sound.held in
    let reached : IsReached (driver_state x) = log_reached x.handle.log sound.handle.legal in
    let phased : IsPhase x v x.out = phase x v x.out free sound.out in
    let ahead : (id : ℕ) × LeadAll id (driver_state x) (under_way x) (told_state v) = told_leads x v x.out phased sound.seated in
    let by : LeadAll ahead.0 (driver_state x) (unsent_by d ∷ under_way (after_told x d ds)) (told_state v) =
    subst (λ es. LeadAll ahead.0 (driver_state x) es (told_state v)) (under_first x d ds none events) ahead.1 in
    let u : LocalState = by.0 in
    let same : state_of (told_log x.handle.log d.msg d.held) ≡ u =
    told_state_is x.handle.log d.msg d.held u sound.handle.legal (leads_replay ahead.0 (driver_state x) u (unsent_by d) by.1) in
    record {
      sound = sound;
      free = free;
      events = events;
      nothing_held = none;
      phased = phased;
      reached = reached;
      id = ahead.0;
      leads = subst (Leads ahead.0 (driver_state x) (unsent_by d)) (sym same) by.1;
    }

pub deliver_sound : (x : Slice) (v : Inner) (d : Delivery) (ds : List Delivery) → IsSoundSlice x v → holds_back x.handle.stage ≡ false → x.events ≡ d ∷ ds →
    GoesOnSoundly (record x { handle = delivered x.handle d.msg d.held; events = ds }) v
deliver_sound x v d ds sound free events =
    let is : IsFirstOf x v d ds = first_is x v d ds sound free events in
    let may : Delivers (driver_state x) d.msg d.held = leads_deliver is.id (driver_state x) (state_of (told_log x.handle.log d.msg d.held)) (unsent_by d) is.leads in
    let kept : IsKept (delivered x.handle d.msg d.held) = kept_delivered x.handle d.msg d.held (record { keeps = sound.handle; sound = sound.log }) may in
    awoken_sound x v d ds x.handle.stage refl is kept

taken_sound : (x : Slice) (v : Inner) (d : Delivery) (ds : List Delivery) (b : Bool) → holds_back x.handle.stage ≡ b → IsSoundSlice x v → x.events ≡ d ∷ ds → GoesOnSoundly (taken b d ds x) v
taken_sound x v d ds true holds sound events = on_soundly (moved x (x.held ++ d ∷ []) ds x.session x.job) v v refl (held_sound x v d ds sound holds events)
taken_sound x v d ds false holds sound events = deliver_sound x v d ds sound holds events

pub taking_keeps : (x x' : Slice) (v : Inner) → IsSoundSlice x v → Takes x x' → GoesOnSoundly x' v
taking_keeps x x' v sound (d, ds, events, after) = subst (λ y. GoesOnSoundly y v) (sym after) (taken_sound x v d ds (holds_back x.handle.stage) refl sound events)
