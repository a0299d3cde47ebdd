-- The memories that are with messages, in a session or in its job are those of buffers that aren't Idle.
use Rattle.std.proofs.Common.{◌≡◌, ℕ, suc, ◌<◌, true, false, List, [], ◌∷◌, ◌++◌, All, length, get_or, Option, Some, None, refl, sym, ap, ◌∙◌, subst, arith}
use Rattle.std.specs.List.{filter_map, cons_option}
use Rattle.std.specs.Prelude.{unwrap_or}
use Rattle.std.specs.Option.{option_to_list}
use Rattle.std.proofs.lemmas.Option.{none-some}
use Rattle.std.proofs.lemmas.List.Elements.{All-nil, All-cons, All-append, All-head, All-tail}
use Rattle.v4l_const.specs.declared.model.Model.{Model}
use Rattle.v4l_const.specs.declared.model.Model.TheVariants.{Capture, Convert}
use Rattle.v4l_const.specs.Model.{queues as types_of, source_queue, picture_queue}
use Rattle.v4l_rules.specs.Queues.{place_in, has_type}
use Rattle.vm_frame.specs.declared.mem.Held.{Held}
use Rattle.vm_job.specs.Job.{JobParts}
use Rattle.vm_queue.specs.Buffers.{memories}
use Rattle.vm_queue.specs.declared.queued.Queued.{Queued}
use Rattle.vm_local.specs.declared.buffer.BufferState.TheVariants.{Queued as AsQueued}
use Rattle.vm_local.specs.declared.entry.Entry.{Entry}
use Rattle.vm_local.specs.declared.entry.Entry.TheVariants.{Give}
use Rattle.vm_local.specs.declared.owed.Owed.{Owed as OwedEntry}
use Rattle.vm_local.specs.declared.owed.OwedItem.{OwedItem}
use Rattle.vm_local.specs.declared.owed.OwedItem.TheVariants.{Buffer as OwedBuffer, Sync}
use Rattle.vm_local.specs.State.{LocalState, queue_of, buffer_of}
use Rattle.vm_local.specs.Kinds.{is_idle}
use Rattle.vm_local.specs.Listed.{IsThere, IsOwedThere}
use Rattle.vm_local.specs.Queue.{can_finish}
use Rattle.vm_local.specs.Steps.{head}
use Rattle.vm_local.proofs.KeptLemmas.{some_same}
use Rattle.vm_commute.proofs.ReachedLemmas.{owed_there, reached_after}
use Rattle.vm_home.specs.Moves.{memory_at}
use Rattle.vm_home.specs.Reached.{IsReached}
use Rattle.vm_home.proofs.FactLemmas.{Facts, facts_of}
use Rattle.vm_home.proofs.OwnLemmas.{number_made}
use Rattle.vm_home.proofs.PlaceLemmas.{HasAt}
use Rattle.vm_home.proofs.RowLemmas.{type_at}
use Rattle.vm_session.specs.Buffers.{queued_memories}
use Rattle.vm_session.specs.State.{SessionQueue, SessionState, opening_queue, queue_of as session_queue}
use Rattle.vm_session.specs.declared.unsent.Unsent.{Unsent}
use Rattle.vm_stands.specs.Flight.{IsHeldAt, GivesItem, GivesFirst, Leads, LeadAll}
use Rattle.vm_stands.specs.Slice.{IsSlice}
use Rattle.vm_stands.specs.Stands.{IsMemoryAt, StandsOn, IsNext, IsNextIf, IsHeadIf}
use Rattle.vm_stands.proofs.AheadLemmas.{reached_all}
use Rattle.vm_stands.proofs.FinishedLemmas.{first_there}
use Rattle.vm_stands.proofs.HoldLemmas.{queued_there}
use Rattle.vm_realm.specs.Places.{queued_held, job_held}
use Rattle.vm_realm.proofs.KeepStateLemmas.{step_idle, lead_idle}

-- the memory is that of a buffer that isn't Idle
abbrev pub IsBusyHeld : LocalState → Held → Type 0
IsBusyHeld s h = is_idle (buffer_of (queue_of s h.queue) h.index).state ≡ false

-- the memory of such a buffer was made
pub busy_made : (s : LocalState) (h : Held) → IsReached s → IsBusyHeld s h → memory_at s h.queue h.index < length s.memories
busy_made s h reached busy =
    let f : Facts s = facts_of s reached in
    let p : ℕ = place_in (types_of s.model) h.queue in
    let has : (m : ℕ) × HasAt s.queues p h.index m = f.owns.has p h.index busy in
    omega (arith, number_made s f.sound p h.index has.0 has.1, ap (λ o. unwrap_or o 0) has.1)

-- ---- messages

busy_at : (s : LocalState) (t i : ℕ) (h : Held) → IsMemoryAt s t i h → is_idle (buffer_of (queue_of s t) i).state ≡ false → IsBusyHeld s h
busy_at s t i h is busy = (λ j. is_idle (buffer_of (queue_of s (is.queue j)) (is.index j)).state) ∙ busy

held_busy : (s : LocalState) (t i : ℕ) (o : Option Held) → IsHeldAt s t i o → is_idle (buffer_of (queue_of s t) i).state ≡ false → (h : Held) → o ≡ Some h → IsBusyHeld s h
held_busy s t i None is busy h at = absurd is
held_busy s t i (Some k) is busy h at = subst (IsBusyHeld s) (some_same k h h at) (busy_at s t i k is busy)

item_busy : (id : ℕ) (s : LocalState) (t : ℕ) (item : OwedItem) (e : Unsent) → IsOwedThere s t item → GivesItem id s t item e → (h : Held) → e.held ≡ Some h → IsBusyHeld s h
item_busy id s t (OwedBuffer i) e there gives h at = held_busy s t i e.held gives.held (ap is_idle there.1) h at
item_busy id s t (Sync frame) e there gives h at = absurd (none-some h (sym gives.held ∙ at))

first_busy : (id : ℕ) (s : LocalState) (os : List OwedEntry) (e : Unsent) → IsReached s → s.owed ≡ os → GivesFirst id s os e → (h : Held) → e.held ≡ Some h → IsBusyHeld s h
first_busy id s [] e reached owed gives h at = absurd gives
first_busy id s (o ∷ rest) e reached owed gives h at = item_busy id s o.queue o.item e (owed_there s o rest reached owed) gives h at

all_some : (P : Held → Type 0) (o : Option Held) (xs : List Held) → ((h : Held) → o ≡ Some h → P h) → All P xs → All P (cons_option o xs)
all_some P None xs one rest = rest
all_some P (Some h) xs one rest = All-cons P h xs (one h refl) rest

pub lead_busy : (id : ℕ) (s t : LocalState) (es : List Unsent) → IsReached s → LeadAll id s es t → All (IsBusyHeld t) (filter_map (λ (e : Unsent). e.held) es)
lead_busy id s t [] reached leads = All-nil (IsBusyHeld t)
lead_busy id s t (e ∷ es) reached leads =
    let u : LocalState = leads.0 in
    let first : Leads id s e u = leads.1 in
    let made : IsReached first.made = reached_all _ s first.made reached first.making in
    let there : IsReached u = reached_after first.made u Give made first.given in
    all_some (IsBusyHeld t) e.held (filter_map (λ (x : Unsent). x.held) es)
    (λ h at. lead_idle id u t es h.queue h.index there leads.2
    ∙ (step_idle first.made u Give h.queue h.index refl made first.given ∙ first_busy id first.made first.made.owed e made refl first.gives h at))
    (lead_busy id u t es there leads.2)

-- ---- the session

queue_busy : (frames : List ℕ) (session : SessionState) (s : LocalState) (t : ℕ) → IsReached s → StandsOn frames session s t → All (IsBusyHeld s) (memories (session_queue session t).queued)
queue_busy frames session s t reached on =
    by_list (session_queue session t).queued on.memories (queued_there frames session s t reached on)
  where
    by_list : (xs : List Queued) → All (λ (b : Queued). IsMemoryAt s t b.buffer.index b.held) xs → All (λ (b : Queued). IsThere AsQueued (queue_of s t) b.buffer.index) xs → All (IsBusyHeld s) (memories xs)
    by_list [] are there = All-nil (IsBusyHeld s)
    by_list (x ∷ xs) are there =
        All-cons (IsBusyHeld s) x.held (memories xs)
        (busy_at s t x.buffer.index x.held (All-head (λ (b : Queued). IsMemoryAt s t b.buffer.index b.held) x xs are)
        (ap is_idle (All-head (λ (b : Queued). IsThere AsQueued (queue_of s t) b.buffer.index) x xs there).1))
        (by_list xs (All-tail (λ (b : Queued). IsMemoryAt s t b.buffer.index b.held) x xs are) (All-tail (λ (b : Queued). IsThere AsQueued (queue_of s t) b.buffer.index) x xs there))

pub places_all : (P : Held → Type 0) (qs : List SessionQueue) → ((p : ℕ) → p < length qs → All P (memories (get_or qs p opening_queue).queued)) → All P (queued_memories qs)
places_all P [] each = All-nil P
places_all P (q ∷ qs) each =
    All-append P (memories q.queued) (queued_memories qs) (each 0 (omega arith)) (places_all P qs (λ p within. each (suc p) (omega (arith, within))))

pub queued_busy : (frames : List ℕ) (session : SessionState) (job : Option JobParts) (earlier : List Unsent) (executed : Option Entry) (r s : LocalState) → IsReached s →
    IsSlice frames session job earlier executed r s → All (IsBusyHeld s) (queued_held (Some session))
queued_busy frames session job earlier executed r s reached slice =
    places_all (IsBusyHeld s) session.queues (λ p within.
    let t : ℕ = get_or (types_of session.model) p 0 in
    let at : place_in (types_of session.model) t ≡ p = type_at session.model p (omega (arith, within, slice.sound.queues)) in
    subst (λ k. All (IsBusyHeld s) (memories (get_or session.queues k opening_queue).queued)) at (queue_busy frames session s t reached (slice.stands.each t)))

head_busy : (s : LocalState) (t : ℕ) (h : Held) → IsReached s → can_finish s ≡ true → has_type s.model t ≡ true → IsMemoryAt s t (head (queue_of s t)) h → IsBusyHeld s h
head_busy s t h reached ready has is = busy_at s t (head (queue_of s t)) h is (ap is_idle (first_there s t reached ready has).1)

next_busy : (s : LocalState) (job : JobParts) → IsReached s → IsNext s job → All (IsBusyHeld s) (job_held (Some job))
next_busy s job reached next =
    let dst : All (IsBusyHeld s) (job.dst ∷ []) =
    All-cons (IsBusyHeld s) job.dst [] (head_busy s (picture_queue s.model) job.dst reached next.possible (has_picture s.model) next.dst) (All-nil (IsBusyHeld s)) in
    by_source (source_queue s.model) job.src (λ t is. has_source s.model t is) next.src dst
  where
    has_picture : (m : Model) → has_type m (picture_queue m) ≡ true
    has_picture Capture = refl
    has_picture Convert = refl

    has_source : (m : Model) (t : ℕ) → source_queue m ≡ Some t → has_type m t ≡ true
    has_source Capture t is = absurd (none-some t is)
    has_source Convert t is = subst (λ u. has_type Convert u ≡ true) (some_same _ t t is) refl

    by_source : (o : Option ℕ) (src : Option Held) → ((t : ℕ) → o ≡ Some t → has_type s.model t ≡ true) → IsHeadIf s o src → All (IsBusyHeld s) (job.dst ∷ []) →
        All (IsBusyHeld s) (option_to_list src ++ job.dst ∷ [])
    by_source None src has is dst = subst (λ o. All (IsBusyHeld s) (option_to_list o ++ job.dst ∷ [])) (sym is) dst
    by_source (Some t) None has is dst = absurd is
    by_source (Some t) (Some h) has is dst = All-cons (IsBusyHeld s) h (job.dst ∷ []) (head_busy s t h reached next.possible (has t refl) is) dst

pub taken_busy : (s : LocalState) (o : Option JobParts) → IsReached s → IsNextIf s o → All (IsBusyHeld s) (job_held o)
taken_busy s None reached next = All-nil (IsBusyHeld s)
taken_busy s (Some job) reached next = next_busy s job reached next
