-- Messages that give what a frame left, one after the other.
use Rattle.std.proofs.Common.{◌≡◌, ℕ, true, false, List, [], ◌∷◌, ◌++◌, Option, Some, None, refl, sym, ap, ◌∙◌, subst, if◌then◌else◌}
use Rattle.v4l_const.specs.declared.model.Model.{Model}
use Rattle.v4l_layout.specs.declared.buffer_rec.BufferRec.{BufferRec}
use Rattle.vm_frame.specs.declared.mem.Held.{Held}
use Rattle.vm_wire.specs.Buffers.{blank_buffer, dequeued_buffer}
use Rattle.vm_wire.specs.declared.event.EventMsg.TheVariants.{Dequeued}
use Rattle.vm_local.specs.declared.bound.MemoryKind.{MemoryKind}
use Rattle.vm_local.specs.declared.buffer.Buffer.{Buffer}
use Rattle.vm_local.specs.declared.entry.Entry.TheVariants.{Give}
use Rattle.vm_local.specs.declared.owed.Owed.{Owed as OwedEntry}
use Rattle.vm_local.specs.declared.owed.OwedItem.{OwedItem}
use Rattle.vm_local.specs.declared.owed.OwedItem.TheVariants.{Buffer as OwedBuffer, Sync}
use Rattle.vm_local.specs.State.{QueueState, LocalState, queue_of, buffer_of}
use Rattle.vm_local.specs.Steps.{item_given, given_from, given, counted}
use Rattle.vm_local.specs.Log.{after, replay_from}
use Rattle.vm_commute.proofs.ReachedLemmas.{reached_after}
use Rattle.vm_home.specs.Reached.{IsReached}
use Rattle.vm_exchange.specs.Exchange.{memory_number}
use Rattle.vm_session.specs.declared.unsent.Unsent.{Unsent}
use Rattle.vm_exchange.specs.Messages.{made_by}
use Rattle.vm_stands.specs.Flight.{note_of, given_record, IsHeldAt, GivesItem, GivesFirst, Leads, LeadAll}
use Rattle.vm_stands.proofs.SeenLemmas.{seen_buffer, seen_queue, seen, queue_alike, buffer_alike, memory_at_seen}
use Rattle.vm_stands.proofs.GivenLemmas.{given_seen}

-- ---- what a message gives, in two states that look the same

held_seen : (s t : LocalState) (u i : ℕ) (held : Option Held) → seen s ≡ seen t → IsHeldAt s u i held → IsHeldAt t u i held
held_seen s t u i None same is = absurd is
held_seen s t u i (Some h) same is = memory_at_seen s t u i h same is

record_seen : (s t : LocalState) (u i m : ℕ) → seen s ≡ seen t → given_record s u i m ≡ given_record t u i m
record_seen s t u i m same =
    let q : seen_queue (queue_of s u) ≡ seen_queue (queue_of t u) = queue_alike s t same u in
    let b : seen_buffer (buffer_of (queue_of s u) i) ≡ seen_buffer (buffer_of (queue_of t u) i) = buffer_alike (queue_of s u) (queue_of t u) q i in
    let f : Model → MemoryKind → Buffer → BufferRec = λ model kind c.
    dequeued_buffer model (record (blank_buffer u i) { memory = memory_number kind; m = m; length = c.length }) (note_of c) in
    ap (λ (x : LocalState). f x.model (queue_of s u).memory (buffer_of (queue_of s u) i)) same
    ∙ (ap (λ (x : QueueState). f t.model x.memory (buffer_of (queue_of s u) i)) q ∙ ap (λ (x : Buffer). f t.model (queue_of t u).memory x) b)

item_seen : (id : ℕ) (s t : LocalState) (u : ℕ) (item : OwedItem) (e : Unsent) → seen s ≡ seen t → GivesItem id s u item e → GivesItem id t u item e
item_seen id s t u (OwedBuffer i) e same is = record {
  m = is.m;
  place = λ mmap. is.place (ap (λ (x : QueueState). memory_number x.memory) (queue_alike s t same u) ∙ mmap);
  msg = is.msg ∙ ap (λ r. Dequeued id r) (record_seen s t u i is.m same);
  held = held_seen s t u i e.held same is.held;
}
item_seen id s t u (Sync frame) e same is = is

-- ---- one is given

pub give_one : (t : LocalState) (o : OwedEntry) (rest : List OwedEntry) → t.owed ≡ o ∷ rest →
    after t Give ≡ Some (item_given (record t { owed = rest }) o.queue o.item)
unfolding given
give_one t o rest owed = ap (λ xs. given_from t xs) owed

pub item_owed : (t : LocalState) (u : ℕ) (item : OwedItem) → (item_given t u item).owed ≡ t.owed
item_owed t u (OwedBuffer i) = refl
item_owed t u (Sync frame) =
    elim t.subscribed as (λ b. (if b then record t {
      events = t.events ++ (record { frame = frame; number = t.next_event }) ∷ [];
      next_event = counted t.next_event;
    } else t).owed ≡ t.owed) [
      | true ↦ refl
      | false ↦ refl
    ]

-- a message gives what is owed first, and no step comes before
leads_one : (id : ℕ) (s t : LocalState) (o : OwedEntry) (rest : List OwedEntry) (e : Unsent) → replay_from s (made_by s.model e.msg) ≡ Some t →
    t.owed ≡ o ∷ rest → GivesItem id t o.queue o.item e → Leads id s e (item_given (record t { owed = rest }) o.queue o.item)
leads_one id s t o rest e making owed gives = record {
  made = t;
  making = making;
  gives = subst (λ xs. GivesFirst id t xs e) (sym owed) gives;
  given = give_one t o rest owed;
}

-- ---- all are given

-- the messages give these things, and none of them is the first of a frame
abbrev pub GiveAll : ℕ → LocalState → List OwedEntry → List Unsent → Type 0
GiveAll id s [] [] = Unit {0}
GiveAll id s [] (e ∷ es) = ⊥
GiveAll id s (o ∷ os) [] = ⊥
GiveAll id s (o ∷ os) (e ∷ es) = (made_by s.model e.msg ≡ []) × GivesItem id s o.queue o.item e × GiveAll id s os es

-- where messages lead: nothing is owed there, and else it looks as before
pub record Given (id : ℕ) (s t : LocalState) (es : List Unsent) : Type 0 where
  pub last : LocalState
  pub leads : LeadAll id s es last
  pub reached : IsReached last
  pub same : seen t ≡ seen last
  pub owed : last.owed ≡ []

pub give_all : (id : ℕ) (s t : LocalState) (os : List OwedEntry) (es : List Unsent) → IsReached t → seen s ≡ seen t → t.owed ≡ os →
    GiveAll id s os es → Given id t s es
give_all id s t [] [] reached same owed all = record { last = t; leads = refl; reached = reached; same = same; owed = owed }
give_all id s t [] (e ∷ es) reached same owed all = absurd all
give_all id s t (o ∷ os) [] reached same owed all = absurd all
give_all id s t (o ∷ os) (e ∷ es) reached same owed all =
    let u : LocalState = item_given (record t { owed = os }) o.queue o.item in
    let gives : GivesItem id t o.queue o.item e = item_seen id s t o.queue o.item e same all.1 in
    let making : replay_from t (made_by t.model e.msg) ≡ Some t =
    ap (λ es. replay_from t es) (ap (λ (x : LocalState). made_by x.model e.msg) (sym same) ∙ all.0) in
    let one : Leads id t e u = leads_one id t t o os e making owed gives in
    let there : IsReached u = reached_after t u Give reached (give_one t o os owed) in
    let rest : Given id u s es = give_all id s u os es there (same ∙ sym (given_seen t u reached (give_one t o os owed))) (item_owed (record t { owed = os }) o.queue o.item) all.2 in
    record { last = rest.last; leads = (u, one, rest.leads); reached = rest.reached; same = rest.same; owed = rest.owed }

-- the first message comes behind the step that made the frame
pub give_frame : (id : ℕ) (s t : LocalState) (o : OwedEntry) (os : List OwedEntry) (e : Unsent) (es : List Unsent) → IsReached t →
    replay_from s (made_by s.model e.msg) ≡ Some t → t.owed ≡ o ∷ os → GivesItem id t o.queue o.item e → GiveAll id t os es → Given id s t (e ∷ es)
give_frame id s t o os e es reached making owed gives all =
    let u : LocalState = item_given (record t { owed = os }) o.queue o.item in
    let one : Leads id s e u = leads_one id s t o os e making owed gives in
    let there : IsReached u = reached_after t u Give reached (give_one t o os owed) in
    let rest : Given id u t es = give_all id t u os es there (sym (given_seen t u reached (give_one t o os owed))) (item_owed (record t { owed = os }) o.queue o.item) all in
    record { last = rest.last; leads = (u, one, rest.leads); reached = rest.reached; same = rest.same; owed = rest.owed }
