-- A step of the device follows a qbuf as it comes before it.
use Rattle.std.proofs.Common.{◌≡◌, ℕ, ◌<◌, zero, suc, Bool, true, false, not, ◌&&◌, ◌==◌, List, [], ◌∷◌, ◌++◌, length, get_or, Option, Some, None, refl, sym, ap, ◌∙◌, arith, if◌then◌else◌}
use Rattle.std.specs.List.{list_all}
use Rattle.std.proofs.lemmas.Bool.{false≢true, ltb-true}
use Rattle.v4l_const.specs.declared.errno.Errno.TheVariants.{Enomem}
use Rattle.v4l_const.specs.declared.model.Model.{Model}
use Rattle.v4l_const.specs.Model.{queues as types_of}
use Rattle.v4l_rules.specs.Formats.{is_source}
use Rattle.v4l_rules.specs.Queues.{place_in, has_type}
use Rattle.v4l_rules.specs.Refusals.{first_refusal}
use Rattle.vm_local.specs.declared.buffer.Buffer.{Buffer}
use Rattle.vm_local.specs.declared.buffer.BufferState.TheVariants.{Queued}
use Rattle.vm_local.specs.declared.entry.Entry.{Entry}
use Rattle.vm_local.specs.declared.entry.Entry.TheVariants.{Called, Finish, Bad, Give}
use Rattle.vm_local.specs.State.{QueueState, LocalState, queue_of, buffer_of}
use Rattle.vm_local.specs.Kinds.{is_idle}
use Rattle.vm_local.specs.Memory.{named_in, memory_of}
use Rattle.vm_local.specs.Queue.{is_empty, brought, length_from, memory_from, queued_buffer, can_finish}
use Rattle.vm_local.specs.Calls.{qbuf_row, brings_used}
use Rattle.vm_local.specs.Log.{after}
use Rattle.vm_local.proofs.StepLemmas.{passes, frame_made, frame_failed, finished_by, failed_by}
use Rattle.vm_commute.specs.Commute.{is_step, without_events}
use Rattle.vm_commute.proofs.EventsLemmas.{Follows}
use Rattle.vm_commute.proofs.OutlineLemmas.{outline}
use Rattle.vm_commute.proofs.ReachedLemmas.{Reached, many_queues}
use Rattle.vm_commute.proofs.KeptLemmas.{outline_kept}
use Rattle.vm_commute.proofs.AnswerLemmas.{length_kept}
use Rattle.vm_commute.proofs.FollowLemmas.{formed, made, failed, give_formed}
use Rattle.vm_commute.proofs.QueuedLemmas.{all_joined, IsIdleAt, joined_given, joined_made, joined_failed}

-- ---- a buffer that joins a queue, and a step

some_more : (streams : Bool) (xs : List ℕ) (i : ℕ) (rest : Bool) → ((streams && not (is_empty xs)) && rest) ≡ true →
    ((streams && not (is_empty (xs ++ i ∷ []))) && rest) ≡ true
some_more false xs i rest h = absurd (false≢true h)
some_more true [] i rest h = absurd (false≢true h)
some_more true (x ∷ xs) i rest h = h

either_ready : (one old new : Bool) → (old ≡ true → new ≡ true) → (one && old) ≡ true → (one && new) ≡ true
either_ready true old new more h = more h
either_ready false old new more h = h

-- a frame can be finished as before
can_still : (s : LocalState) (f : Buffer → Buffer) (i p : ℕ) → can_finish s ≡ true → can_finish (record s { queues = all_joined f i p s.queues }) ≡ true
can_still s f i p ready = ready_still s.queues p ready
  where
    ready_still : (qs : List QueueState) (p : ℕ) → list_all (λ q. q.streaming && not (is_empty q.queued)) qs ≡ true →
        list_all (λ q. q.streaming && not (is_empty q.queued)) (all_joined f i p qs) ≡ true
    ready_still [] p h = h
    ready_still (q ∷ qs) zero h = some_more q.streaming q.queued i (list_all (λ v. v.streaming && not (is_empty v.queued)) qs) h
    ready_still (q ∷ qs) (suc p) h = either_ready (q.streaming && not (is_empty q.queued)) _ _ (ready_still qs p) h

-- the step follows where the i-th buffer of the queue in place p joined it
joins_follow : (s u : LocalState) (e : Entry) (f : Buffer → Buffer) (i p : ℕ) → is_step e ≡ true → Reached s → after s e ≡ Some u →
    p < length s.queues → IsIdleAt s p i →
    after (record s { queues = all_joined f i p s.queues }) e ≡ Some (record u { queues = all_joined f i p u.queues })
joins_follow s u (Called line call reply) f i p step reached leads within idle = absurd (false≢true step)
joins_follow s u Finish f i p step reached leads within idle =
    let by : (can_finish s ≡ true) × (u ≡ frame_made s) = finished_by s u leads in
    let x : LocalState = record s { queues = all_joined f i p s.queues } in
    made x (can_still s f i p by.0) ∙ ap (λ (y : LocalState). Some y)
    (joined_made s f i p reached (within, idle, by.0) ∙ ap (λ (y : LocalState). record y { queues = all_joined f i p y.queues }) (sym by.1))
joins_follow s u Bad f i p step reached leads within idle =
    let by : (can_finish s ≡ true) × (u ≡ frame_failed s) = failed_by s u leads in
    let x : LocalState = record s { queues = all_joined f i p s.queues } in
    failed x (can_still s f i p by.0) ∙ ap (λ (y : LocalState). Some y)
    (joined_failed s f i p reached (within, idle, by.0) ∙ ap (λ (y : LocalState). record y { queues = all_joined f i p y.queues }) (sym by.1))
joins_follow s u Give f i p step reached leads within idle =
    let same : outline u ≡ outline s = outline_kept s u Give step reached leads in
    let j : List QueueState → List QueueState = all_joined f i p in
    give_formed s u j s.input s.bound reached leads (joined_given s f i p idle) ∙
    (ap (λ n. Some (formed u j n s.bound)) (sym (ap (λ (x : LocalState). x.input) same)) ∙
    ap (λ bs. Some (formed u j u.input bs)) (sym (ap (λ (x : LocalState). x.bound) same)))

-- ---- the row of qbuf

-- a buffer as qbuf leaves it, with this length from then on
abbrev filled_in : Bool → Option ℕ → ℕ → ℕ → ℕ → Buffer → Buffer
filled_in source memory used ts long b = record b {
  state = Queued;
  is_bad = false;
  length = long;
  memory = memory_from memory b;
  used = if source then (if used == 0 then long else used) else b.used;
  timestamp = if source then ts else b.timestamp;
}

abbrev qbuf_next : LocalState → ℕ → ℕ → ℕ → ℕ → Model → Option ℕ → ℕ → LocalState
qbuf_next x t i used ts m memory long =
    record x { queues = all_joined (filled_in (is_source m t) memory used ts long) i (place_in (types_of m) t) x.queues }

qbuf_is : (x : LocalState) (t i : ℕ) (user : Option (List ℕ)) (used ts : ℕ) →
    (qbuf_row x t i user used ts).next ≡ qbuf_next x t i used ts x.model (brought x user) (length_from x (brought x user) (buffer_of (queue_of x t) i))
unfolding qbuf_row queued_buffer
qbuf_is x t i user used ts = refl

-- the memory that the names tell
brought_same : (s u : LocalState) (user : Option (List ℕ)) → u.bound ≡ s.bound → brought u user ≡ brought s user
brought_same s u None same = refl
brought_same s u (Some v) same = ap (λ bs. Some (memory_of (named_in bs v))) same

not_not : (b : Bool) → not b ≡ false → b ≡ true
not_not true h = refl
not_not false h = absurd (false≢true (sym h))

-- what it tells that no refusal applies
qbuf_fits : (s : LocalState) (t i : ℕ) (user : Option (List ℕ)) (used ts : ℕ) → first_refusal (qbuf_row s t i user used ts).refusals ≡ None →
    (has_type s.model t ≡ true) × (is_idle (buffer_of (queue_of s t) i).state ≡ true) × (brings_used s (brought s user) ≡ false)
unfolding qbuf_row
qbuf_fits s t i user used ts pass =
    let so : (k : ℕ) → (get_or (qbuf_row s t i user used ts).refusals k (false, Enomem)).0 ≡ false = passes (qbuf_row s t i user used ts).refusals pass in
    (not_not (has_type s.model t) (so 1), not_not (is_idle (buffer_of (queue_of s t) i).state) (so 3), so 8)

pub qbuf_follows : (s u : LocalState) (e : Entry) (t i : ℕ) (user : Option (List ℕ)) (used ts : ℕ) → first_refusal (qbuf_row s t i user used ts).refusals ≡ None →
    is_step e ≡ true → Reached s → after s e ≡ Some u → Follows (qbuf_row s t i user used ts).next e (qbuf_row u t i user used ts).next
qbuf_follows s u e t i user used ts pass step reached leads =
    let fits : _ = qbuf_fits s t i user used ts pass in
    let same : outline u ≡ outline s = outline_kept s u e step reached leads in
    let p : ℕ = place_in (types_of s.model) t in
    let within : p < length s.queues = omega (arith, many_queues s reached, ltb-true p (length (types_of s.model)) fits.0) in
    let memory : LocalState → Option ℕ = λ x. brought x user in
    let long : LocalState → ℕ = λ x. length_from x (brought x user) (buffer_of (queue_of x t) i) in
    let next : Model → Option ℕ → ℕ → LocalState = qbuf_next u t i used ts in
    let alike : next u.model (memory u) (long u) ≡ next s.model (memory s) (long s) =
    ap (λ m. next m (memory u) (long u)) (ap (λ (x : LocalState). x.model) same) ∙
    (ap (λ n. next s.model n (long u)) (brought_same s u user (ap (λ (x : LocalState). x.bound) same)) ∙
    ap (λ n. next s.model (memory s) n) (length_kept s u e t i user step reached leads fits.2)) in
    let one : after (qbuf_next s t i used ts s.model (memory s) (long s)) e ≡ Some (next s.model (memory s) (long s)) =
    joins_follow s u e (filled_in (is_source s.model t) (memory s) used ts (long s)) i p step reached leads within fits.1 in (
      next s.model (memory s) (long s),
      ap (λ (x : LocalState). after x e) (qbuf_is s t i user used ts) ∙ one,
      ap (λ (x : LocalState). without_events x) (sym (qbuf_is u t i user used ts ∙ alike)),
    )
