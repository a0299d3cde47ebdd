-- A buffer whose message is under way, or that the running job has, isn't Idle.
use Rattle.std.proofs.Common.{◌≡◌, inl, inr, ℕ, ◌==◌, ◌||◌, cond, Bool, true, false, List, [], ◌∷◌, ◌++◌, map, filter, All, Some, refl, sym, ap, ◌∙◌, subst, arith, eq-eqb}
use Rattle.std.specs.List.{list_any, cons_option}
use Rattle.std.proofs.lemmas.Bool.{false≢true, true≢false, or_cases, eqb-true, cases_Bool}
use Rattle.std.proofs.lemmas.List.{get_or_append_left, length-append}
use Rattle.std.proofs.lemmas.List.Elements.{All-nil, All-cons, All-head, All-tail, All-append}
use Rattle.v4l_const.specs.declared.model.Model.{Model}
use Rattle.v4l_layout.specs.declared.buffer_rec.BufferRec.{BufferRec}
use Rattle.vm_wire.specs.Buffers.{dequeued_buffer}
use Rattle.vm_wire.specs.declared.buffers.PictureNote.{PictureNote}
use Rattle.vm_wire.specs.declared.event.EventMsg.{EventMsg}
use Rattle.vm_wire.specs.declared.event.EventMsg.TheVariants.{Dequeued, Happened}
use Rattle.vm_local.specs.declared.buffer.Buffer.{Buffer}
use Rattle.vm_local.specs.declared.buffer.BufferState.TheVariants.{Queued}
use Rattle.vm_local.specs.declared.entry.Entry.{Entry}
use Rattle.vm_local.specs.declared.entry.Entry.TheVariants.{Give}
use Rattle.vm_local.specs.declared.owed.Owed.{Owed as OwedEntry}
use Rattle.vm_local.specs.declared.owed.OwedItem.{OwedItem}
use Rattle.vm_local.specs.declared.owed.OwedItem.TheVariants.{Buffer as OwedBuffer, Sync}
use Rattle.vm_local.specs.State.{LocalState, queue_of, buffer_of}
use Rattle.vm_local.specs.Kinds.{is_idle}
use Rattle.vm_local.specs.Listed.{IsThere, IsOwedThere}
use Rattle.vm_local.specs.Log.{after, replay_from}
use Rattle.vm_local.proofs.KeptLemmas.{some_same}
use Rattle.vm_commute.specs.Commute.{is_step, AreSteps}
use Rattle.vm_commute.proofs.AnswerLemmas.{buffer_kept}
use Rattle.vm_commute.proofs.EventsLemmas.{by_first}
use Rattle.vm_commute.proofs.KeptLemmas.{outline_kept}
use Rattle.vm_commute.proofs.OutlineLemmas.{drawn}
use Rattle.vm_commute.proofs.ReachedLemmas.{owed_there, reached_after}
use Rattle.vm_home.specs.Reached.{IsReached}
use Rattle.vm_session.specs.declared.unsent.Unsent.{Unsent}
use Rattle.vm_session.specs.State.{SessionState, queue_of as session_queue}
use Rattle.vm_session.specs.Sound.{IsSound, given_back, returning, taken_by, all_out, indices_of}
use Rattle.vm_stands.specs.Stands.{of_type, Stands}
use Rattle.vm_exchange.specs.Messages.{made_by}
use Rattle.vm_stands.specs.Flight.{note_of, queued_record, GivesItem, GivesFirst, Leads, LeadAll}
use Rattle.vm_stands.proofs.SeenLemmas.{idle_seen}
use Rattle.vm_stands.proofs.FlightLemmas.{made_steps}
use Rattle.vm_stands.proofs.NextLemmas.{waiting_there}

-- the buffer of a record isn't Idle
abbrev pub IsBusy : LocalState → BufferRec → Type 0
IsBusy s r = is_idle (buffer_of (queue_of s r.kind) r.index).state ≡ false

abbrev pub IsBusyFor : LocalState → EventMsg → Type 0
IsBusyFor s (Dequeued session b) = IsBusy s b
IsBusyFor s (Happened session event) = Unit {0}

-- ---- what isn't Idle stays so

idle_kept : (s t : LocalState) (e : Entry) (u i : ℕ) → is_step e ≡ true → IsReached s → after s e ≡ Some t →
    is_idle (buffer_of (queue_of t u) i).state ≡ is_idle (buffer_of (queue_of s u) i).state
idle_kept s t e u i step reached leads =
    let same : drawn (buffer_of (queue_of t u) i) ≡ drawn (buffer_of (queue_of s u) i) = buffer_kept s t u i (outline_kept s t e step reached leads) in
    sym (idle_seen (buffer_of (queue_of t u) i).state) ∙ (ap (λ (b : Buffer). is_idle b.state) same ∙ idle_seen (buffer_of (queue_of s u) i).state)

idle_all : (es : List Entry) (s t : LocalState) (u i : ℕ) → AreSteps es → IsReached s → replay_from s es ≡ Some t →
    (is_idle (buffer_of (queue_of t u) i).state ≡ is_idle (buffer_of (queue_of s u) i).state) × IsReached t
idle_all [] s t u i steps reached leads =
    let same : s ≡ t = some_same s t s leads in
    (ap (λ (x : LocalState). is_idle (buffer_of (queue_of x u) i).state) (sym same), subst IsReached same reached)
idle_all (e ∷ es) s t u i steps reached leads =
    let P : Entry → Type 0 = λ d. is_step d ≡ true in
    let by : _ = by_first s t e es leads in
    let rest : _ = idle_all es by.0 t u i (All-tail P e es steps) (reached_after s by.0 e reached by.1) by.2 in
    (rest.0 ∙ idle_kept s by.0 e u i (All-head P e es steps) reached by.1, rest.1)

leads_idle : (id : ℕ) (s t : LocalState) (e : Unsent) (u i : ℕ) → IsReached s → Leads id s e t →
    (is_idle (buffer_of (queue_of t u) i).state ≡ is_idle (buffer_of (queue_of s u) i).state) × IsReached t
leads_idle id s t e u i reached leads =
    let first : _ = idle_all (made_by s.model e.msg) s leads.made u i (made_steps s.model e.msg) reached leads.making in
    (idle_kept leads.made t Give u i refl first.1 leads.given ∙ first.0, reached_after leads.made t Give first.1 leads.given)

all_idle : (id : ℕ) (es : List Unsent) (s t : LocalState) (u i : ℕ) → IsReached s → LeadAll id s es t →
    is_idle (buffer_of (queue_of t u) i).state ≡ is_idle (buffer_of (queue_of s u) i).state
all_idle id [] s t u i reached leads = ap (λ (x : LocalState). is_idle (buffer_of (queue_of x u) i).state) leads
all_idle id (e ∷ es) s t u i reached leads =
    let one : _ = leads_idle id s leads.0 e u i reached leads.1 in
    all_idle id es leads.0 t u i one.1 leads.2 ∙ one.0

-- ---- the buffer of a message

kind_of : (m : Model) (b : BufferRec) (note : PictureNote) → (dequeued_buffer m b note).kind ≡ b.kind
unfolding dequeued_buffer
kind_of m b note = refl

index_of : (m : Model) (b : BufferRec) (note : PictureNote) → (dequeued_buffer m b note).index ≡ b.index
unfolding dequeued_buffer
index_of m b note = refl

abbrev pub record_in : EventMsg → BufferRec → BufferRec
record_in (Dequeued session b) d = b
record_in (Happened session event) d = d

abbrev pub is_buffer_msg : EventMsg → Bool
is_buffer_msg (Dequeued session b) = true
is_buffer_msg (Happened session event) = false

busy_msg : (s : LocalState) (msg : EventMsg) (session : ℕ) (rec : BufferRec) → msg ≡ Dequeued session rec → IsBusy s rec → IsBusyFor s msg
busy_msg s msg session rec is busy = subst (λ m. IsBusyFor s m) (sym is) busy

other_msg : (s : LocalState) (msg : EventMsg) → is_buffer_msg msg ≡ false → IsBusyFor s msg
other_msg s (Dequeued session b) is = absurd (true≢false is)
other_msg s (Happened session event) is = tt

given_busy : (id : ℕ) (s : LocalState) (u : ℕ) (item : OwedItem) (e : Unsent) → IsOwedThere s u item → GivesItem id s u item e → IsBusyFor s e.msg
given_busy id s u (OwedBuffer i) e there gives =
    let b : BufferRec = queued_record s u i gives.m in
    let note : PictureNote = note_of (buffer_of (queue_of s u) i) in
    busy_msg s e.msg id (dequeued_buffer s.model b note) gives.msg
    ((λ j. is_idle (buffer_of (queue_of s (kind_of s.model b note j)) (index_of s.model b note j)).state) ∙ ap is_idle there.1)
given_busy id s u (Sync frame) e there gives = other_msg s e.msg (ap is_buffer_msg gives.msg)

first_busy : (id : ℕ) (s : LocalState) (os : List OwedEntry) (e : Unsent) → IsReached s → s.owed ≡ os → GivesFirst id s os e → IsBusyFor s e.msg
first_busy id s [] e reached owed gives = absurd gives
first_busy id s (o ∷ rest) e reached owed gives = given_busy id s o.queue o.item e (owed_there s o rest reached owed) gives

still_busy : (s t : LocalState) (msg : EventMsg) → ((u i : ℕ) → is_idle (buffer_of (queue_of t u) i).state ≡ is_idle (buffer_of (queue_of s u) i).state) →
    IsBusyFor s msg → IsBusyFor t msg
still_busy s t (Dequeued session b) same busy = same b.kind b.index ∙ busy
still_busy s t (Happened session event) same busy = tt

-- where messages lead, none of their buffers is Idle
pub under_way : (id : ℕ) (es : List Unsent) (s t : LocalState) → IsReached s → LeadAll id s es t → All (λ (e : Unsent). IsBusyFor t e.msg) es
under_way id [] s t reached leads = All-nil (λ (e : Unsent). IsBusyFor t e.msg)
under_way id (e ∷ es) s t reached leads =
    let P : Unsent → Type 0 = λ x. IsBusyFor t x.msg in
    let u : LocalState = leads.0 in
    let first : _ = idle_all (made_by s.model e.msg) s leads.1.made 0 0 (made_steps s.model e.msg) reached leads.1.making in
    let there : IsReached u = reached_after leads.1.made u Give first.1 leads.1.given in
    let made : IsBusyFor leads.1.made e.msg = first_busy id leads.1.made leads.1.made.owed e first.1 refl leads.1.gives in
    let given : IsBusyFor u e.msg = still_busy leads.1.made u e.msg (λ w i. idle_kept leads.1.made u Give w i refl first.1 leads.1.given) made in
    All-cons P e es (still_busy u t e.msg (λ w i. all_idle id es u t w i there leads.2) given) (under_way id es u t there leads.2)

-- ---- the buffers that are out

all_front : {A : Type 0} (P : A → Type 0) (xs ys : List A) → All P (xs ++ ys) → All P xs
all_front P xs ys all = λ k d within.
    subst P (get_or_append_left xs ys d k within) (all k d (omega (arith, within, length-append xs ys)))

returning_busy : (s : LocalState) (es : List Unsent) → All (λ (e : Unsent). IsBusyFor s e.msg) es → All (IsBusy s) (returning es)
returning_busy s [] all = All-nil (IsBusy s)
returning_busy s (e ∷ es) all =
    let P : Unsent → Type 0 = λ x. IsBusyFor s x.msg in
    by_msg e.msg (returning es) (All-head P e es all) (returning_busy s es (All-tail P e es all))
  where
    by_msg : (msg : EventMsg) (rs : List BufferRec) → IsBusyFor s msg → All (IsBusy s) rs → All (IsBusy s) (cons_option (given_back msg) rs)
    by_msg (Dequeued session b) rs busy rest = All-cons (IsBusy s) b rs busy rest
    by_msg (Happened session event) rs busy rest = rest

-- what is so of those of each type is so of all
by_types : (Q : ℕ → ℕ → Type 0) (rs : List BufferRec) → ((u : ℕ) → All (λ (r : BufferRec). Q u r.index) (of_type u rs)) → All (λ (r : BufferRec). Q r.kind r.index) rs
by_types Q [] each = All-nil (λ (r : BufferRec). Q r.kind r.index)
by_types Q (r ∷ rs) each =
    let own : of_type r.kind (r ∷ rs) ≡ r ∷ of_type r.kind rs = ap (λ b. cond b (r ∷ of_type r.kind rs) (of_type r.kind rs)) (eq-eqb r.kind r.kind refl) in
    All-cons (λ (x : BufferRec). Q x.kind x.index) r rs
    (All-head (λ (x : BufferRec). Q r.kind x.index) r (of_type r.kind rs) (subst (λ xs. All (λ (x : BufferRec). Q r.kind x.index) xs) own (each r.kind)))
    (by_types Q rs (λ u. rest u (r.kind == u) (each u)))
  where
    rest : (u : ℕ) (b : Bool) → All (λ (x : BufferRec). Q u x.index) (cond b (r ∷ of_type u rs) (of_type u rs)) → All (λ (x : BufferRec). Q u x.index) (of_type u rs)
    rest u true all = All-tail (λ (x : BufferRec). Q u x.index) r (of_type u rs) all
    rest u false all = all

indices_busy : (s : LocalState) (u i : ℕ) (rs : List BufferRec) → All (IsBusy s) rs → list_any (λ j. j == i) (indices_of u rs) ≡ true →
    is_idle (buffer_of (queue_of s u) i).state ≡ false
indices_busy s u i [] all is = absurd (false≢true is)
indices_busy s u i (r ∷ rs) all is =
    elim (cases_Bool (r.kind == u)) as (λ _. is_idle (buffer_of (queue_of s u) i).state ≡ false) [
      | inl mine ↦
          let split : (r.index == i || list_any (λ j. j == i) (indices_of u rs)) ≡ true =
          sym (ap (λ b. list_any (λ j. j == i) (map (λ (x : BufferRec). x.index) (cond b (r ∷ filter (λ x. x.kind == u) rs) (filter (λ x. x.kind == u) rs)))) mine) ∙ is in
          elim (or_cases (r.index == i) (list_any (λ j. j == i) (indices_of u rs)) split) as (λ _. is_idle (buffer_of (queue_of s u) i).state ≡ false) [
            | inl here ↦ (λ j. is_idle (buffer_of (queue_of s (sym (eqb-true r.kind u mine) j)) (sym (eqb-true r.index i here) j)).state) ∙ All-head (IsBusy s) r rs all
            | inr there ↦ indices_busy s u i rs (All-tail (IsBusy s) r rs all) there
          ]
      | inr other ↦ indices_busy s u i rs (All-tail (IsBusy s) r rs all)
          (sym (ap (λ b. list_any (λ j. j == i) (map (λ (x : BufferRec). x.index) (cond b (r ∷ filter (λ x. x.kind == u) rs) (filter (λ x. x.kind == u) rs)))) other) ∙ is)
    ]

-- those that the running job took are Queued
pub taken_queued : (frames : List ℕ) (session : SessionState) (s : LocalState) → Stands frames session s → IsReached s →
    All (λ (r : BufferRec). IsThere Queued (queue_of s r.kind) r.index) (taken_by session.running)
taken_queued frames session s stands reached =
    by_types (λ u i. IsThere Queued (queue_of s u) i) (taken_by session.running) (λ u.
    all_front (λ (r : BufferRec). IsThere Queued (queue_of s u) r.index) (of_type u (taken_by session.running)) _ (waiting_there frames session s u reached (stands.each u)))

-- the buffers that are out in a session aren't Idle, where its unsent messages are under way
abbrev pub IsAway : SessionState → LocalState → Type 0
IsAway session s = (u i : ℕ) → list_any (λ j. j == i) (session_queue session u).out ≡ true → is_idle (buffer_of (queue_of s u) i).state ≡ false

pub away_is : (session : SessionState) (s : LocalState) → IsSound session → All (λ (e : Unsent). IsBusyFor s e.msg) session.unsent →
    All (IsBusy s) (taken_by session.running) → IsAway session s
away_is session s sound unsent running = λ u i is.
    indices_busy s u i (all_out session) (All-append (IsBusy s) (returning session.unsent) (taken_by session.running) (returning_busy s session.unsent unsent) running)
    (sym (ap (λ xs. list_any (λ j. j == i) xs) (sound.each u).out) ∙ is)
