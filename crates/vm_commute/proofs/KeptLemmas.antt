-- What steps of the device keep: the outline of a state, and the bytes of memories whose buffer is Idle.
use Rattle.std.proofs.Common.{◌≡◌, ◌≢◌, ℕ, zero, suc, ◌<◌, Bool, true, false, not, ◌&&◌, ◌==◌, List, [], ◌∷◌, ◌++◌, length, get_or, set, map, Option, Some, None, refl, sym, ap, ◌∙◌, subst, arith, eq-eqb, get_or-set_other, if◌then◌else◌}
use Rattle.std.specs.Prelude.{is_some}
use Rattle.std.specs.List.{list_any}
use Rattle.std.specs.Option.{unwrap_or}
use Rattle.std.proofs.lemmas.Bool.{false≢true}
use Rattle.std.proofs.Math.Seq.{map-set_same}
use Rattle.v4l_const.specs.declared.model.Model.{Model}
use Rattle.v4l_const.specs.declared.model.Model.TheVariants.{Capture, Convert}
use Rattle.v4l_const.specs.Model.{queues as types_of, picture_queue}
use Rattle.v4l_format.specs.Fmt.{picture_size}
use Rattle.v4l_rules.specs.Queues.{place_in}
use Rattle.vm_local.specs.declared.buffer.Buffer.{Buffer}
use Rattle.vm_local.specs.declared.buffer.BufferState.{BufferState}
use Rattle.vm_local.specs.declared.buffer.BufferState.TheVariants.{Queued, Owed, Done}
use Rattle.vm_local.specs.declared.entry.Entry.{Entry}
use Rattle.vm_local.specs.declared.entry.Entry.TheVariants.{Called, Finish, Bad, Give}
use Rattle.vm_local.specs.declared.owed.Owed.{Owed as OwedEntry}
use Rattle.vm_local.specs.declared.owed.OwedItem.{OwedItem}
use Rattle.vm_local.specs.declared.owed.OwedItem.TheVariants.{Buffer as OwedBuffer, Sync}
use Rattle.vm_local.specs.State.{QueueState, LocalState, opening_queue, queue_of, no_buffer, buffer_of}
use Rattle.vm_local.specs.Kinds.{is_idle}
use Rattle.vm_local.specs.Memory.{bytes_of, is_just, is_in_use}
use Rattle.vm_local.specs.Queue.{can_finish}
use Rattle.vm_local.specs.Steps.{head, head_buffer, number_of, target, taken, taken_buffer, with_used, with_target_used, heads_taken, sync_of, buffers_taken, next_timestamp, with_done, item_given, counted}
use Rattle.vm_local.specs.Log.{after}
use Rattle.vm_local.specs.Listed.{IsThere, IsOwedThere}
use Rattle.vm_local.proofs.StepLemmas.{frame_made, frame_failed, finished_by, failed_by, given_by, Gave}
use Rattle.vm_commute.specs.Commute.{is_step}
use Rattle.vm_commute.proofs.PlaceLemmas.{any_none}
use Rattle.vm_commute.proofs.OutlineLemmas.{drawn, drawn_state, outlined, outline}
use Rattle.vm_commute.proofs.ReachedLemmas.{Reached, many_queues, front_there, owed_there}
use Rattle.vm_commute.proofs.LoadedLemmas.{has_number}

-- ---- one queue

-- a buffer that isn't Idle, in another state that isn't
drawn_set : (q : QueueState) (i : ℕ) (b : Buffer) → drawn b ≡ drawn (buffer_of q i) → map drawn (set q.buffers i b) ≡ map drawn q.buffers
drawn_set q i b same = map-set_same drawn q.buffers i b no_buffer same

same_taken : (good : Bool) (ts : ℕ) (q : QueueState) → (head_buffer q).state ≡ Queued → outlined (taken good ts q) ≡ outlined q
same_taken good ts q queued =
    let b : Buffer = head_buffer q in
    let same : drawn (taken_buffer good q.next_sequence ts b) ≡ drawn b =
    ap (λ st. record no_buffer { state = st; length = b.length; memory = b.memory }) (sym (ap drawn_state queued)) in
    ap (λ bs. record q { buffers = bs; queued = []; done = []; next_sequence = 0 }) (drawn_set q (head q) (taken_buffer good q.next_sequence ts b) same)

same_used : (q : QueueState) (i n : ℕ) → outlined (with_used q i n) ≡ outlined q
same_used q i n =
    ap (λ bs. record q { buffers = bs; queued = []; done = []; next_sequence = 0 }) (drawn_set q i (record (buffer_of q i) { used = n }) refl)

same_done : (q : QueueState) (i : ℕ) → (buffer_of q i).state ≡ Owed → outlined (with_done q i) ≡ outlined q
same_done q i owed =
    let b : Buffer = buffer_of q i in
    let same : drawn (record b { state = Done }) ≡ drawn b =
    ap (λ st. record no_buffer { state = st; length = b.length; memory = b.memory }) (sym (ap drawn_state owed)) in
    ap (λ bs. record q { buffers = bs; queued = []; done = []; next_sequence = 0 }) (drawn_set q i (record b { state = Done }) same)

-- ---- all queues

map_kept : {A B : Type 0} (f : A → B) (g : A → A) (xs : List A) → ((k : ℕ) (d : A) → k < length xs → f (g (get_or xs k d)) ≡ f (get_or xs k d)) →
    map f (map g xs) ≡ map f xs
map_kept f g [] h = refl
map_kept f g (x ∷ xs) h = rw (h zero x (omega arith), map_kept f g xs (λ k d l. h (suc k) d (omega (arith, l)))) refl

same_heads : (s : LocalState) (good : Bool) (entries : List OwedEntry) (n : ℕ) → Reached s → can_finish s ≡ true →
    outline (with_target_used s n (heads_taken s good entries)) ≡ outline s
same_heads s good entries n reached ready =
    let f : QueueState → QueueState = taken good (next_timestamp s) in
    let p : ℕ = place_in (types_of s.model) (picture_queue s.model) in
    let qs : List QueueState = map f s.queues in
    let all : map outlined qs ≡ map outlined s.queues =
    map_kept outlined f s.queues (λ k d l. same_taken good (next_timestamp s) (get_or s.queues k d) (front_there s reached ready k d l).1) in
    let one : map outlined (set qs p (with_used (get_or qs p opening_queue) (head (target s)) n)) ≡ map outlined qs =
    map-set_same outlined qs p (with_used (get_or qs p opening_queue) (head (target s)) n) opening_queue (same_used (get_or qs p opening_queue) (head (target s)) n) in
    ap (λ vs. record s { subscribed = false; events = []; next_event = 0; owed = []; queues = vs; memories = [] }) (one ∙ all)

same_given : (s : LocalState) (t : ℕ) (item : OwedItem) (rest : List OwedEntry) → IsOwedThere s t item →
    outline (item_given (record s { owed = rest }) t item) ≡ outline s
same_given s t (OwedBuffer i) rest there =
    let p : ℕ = place_in (types_of s.model) t in
    ap (λ vs. record s { subscribed = false; events = []; next_event = 0; owed = []; queues = vs; memories = [] })
    (map-set_same outlined s.queues p (with_done (queue_of s t) i) opening_queue (same_done (queue_of s t) i there.1))
same_given s t (Sync frame) rest there =
    elim s.subscribed as (λ b. outline (if b then record s {
      owed = rest;
      events = s.events ++ (record { frame = frame; number = s.next_event }) ∷ [];
      next_event = counted s.next_event;
    } else record s { owed = rest }) ≡ outline s) [
      | true ↦ refl
      | false ↦ refl
    ]

-- a step of the device keeps the outline
pub outline_kept : (s u : LocalState) (e : Entry) → is_step e ≡ true → Reached s → after s e ≡ Some u → outline u ≡ outline s
outline_kept s u (Called line call reply) step reached leads = absurd (false≢true step)
outline_kept s u Finish step reached leads =
    let by : (can_finish s ≡ true) × (u ≡ frame_made s) = finished_by s u leads in
    ap (λ (x : LocalState). outline x) by.1 ∙ same_heads s true (sync_of s ++ buffers_taken s) (picture_size (target s).format) reached by.0
outline_kept s u Bad step reached leads =
    let by : (can_finish s ≡ true) × (u ≡ frame_failed s) = failed_by s u leads in
    ap (λ (x : LocalState). outline x) by.1 ∙ same_heads s false (buffers_taken s) 0 reached by.0
outline_kept s u Give step reached leads =
    let by : Gave s s.owed u = given_by s u leads in
    ap (λ (x : LocalState). outline x) by.3 ∙ same_given s by.0.queue by.0.item by.1 (owed_there s by.0 by.1 reached by.2)

-- ---- bytes

-- the queue of the pictures is one of the handle's
target_within : (m : Model) → place_in (types_of m) (picture_queue m) < length (types_of m)
target_within Capture = omega arith
target_within Convert = omega arith

apart_from : (memory : Option ℕ) (st : BufferState) (m : ℕ) → is_some memory ≡ true → is_idle st ≡ false →
    (is_just memory m && not (is_idle st)) ≡ false → m ≢ unwrap_or memory 0
apart_from None st m has busy none = absurd (false≢true has)
apart_from (Some k) st m has busy none = λ e.
    let P : Bool → Bool → Type 0 = λ a b. (a && not b) ≡ false in
    let is : (k == m) ≡ true = eq-eqb k m (sym e) in
    absurd (false≢true (sym (subst (λ a. P a false) is (subst (λ b. P (k == m) b) busy none))))

-- the memory that a frame's picture is written to has a buffer that isn't Idle
target_apart : (s : LocalState) (m : ℕ) → Reached s → can_finish s ≡ true → is_in_use s m ≡ false → m ≢ number_of (head_buffer (target s))
target_apart s m reached ready free =
    let t : ℕ = picture_queue s.model in
    let p : ℕ = place_in (types_of s.model) t in
    let q : QueueState = target s in
    let b : Buffer = head_buffer q in
    let test : Buffer → Bool = λ c. is_just c.memory m && not (is_idle c.state) in
    let within : p < length s.queues = omega (arith, target_within s.model, many_queues s reached) in
    let there : IsThere Queued q (head q) = front_there s reached ready p opening_queue within in
    let busy : is_idle b.state ≡ false = ap is_idle there.1 in
    let none : test b ≡ false =
    any_none test q.buffers (head q) no_buffer (any_none (λ (v : QueueState). list_any test v.buffers) s.queues p opening_queue free within) there.0 in
    apart_from b.memory b.state m (has_number s reached t (head q) busy) busy none

same_bytes : (s : LocalState) (rest : List OwedEntry) (frame m : ℕ) → bytes_of (item_given (record s { owed = rest }) 0 (Sync frame)) m ≡ bytes_of s m
same_bytes s rest frame m =
    elim s.subscribed as (λ b. bytes_of (if b then record s {
      owed = rest;
      events = s.events ++ (record { frame = frame; number = s.next_event }) ∷ [];
      next_event = counted s.next_event;
    } else record s { owed = rest }) m ≡ bytes_of s m) [
      | true ↦ refl
      | false ↦ refl
    ]

-- the bytes of a memory whose buffer is Idle stay
pub bytes_kept : (s u : LocalState) (e : Entry) (m : ℕ) → is_step e ≡ true → Reached s → after s e ≡ Some u → is_in_use s m ≡ false →
    bytes_of u m ≡ bytes_of s m
bytes_kept s u (Called line call reply) m step reached leads free = absurd (false≢true step)
bytes_kept s u Finish m step reached leads free =
    let by : (can_finish s ≡ true) × (u ≡ frame_made s) = finished_by s u leads in
    ap (λ (x : LocalState). bytes_of x m) by.1 ∙
    get_or-set_other s.memories (number_of (head_buffer (target s))) m _ [] (target_apart s m reached by.0 free)
bytes_kept s u Bad m step reached leads free = ap (λ (x : LocalState). bytes_of x m) (failed_by s u leads).1
bytes_kept s u Give m step reached leads free =
    let by : Gave s s.owed u = given_by s u leads in
    let kept : (t : ℕ) (item : OwedItem) → bytes_of (item_given (record s { owed = by.1 }) t item) m ≡ bytes_of s m = λ t item.
    elim item as (λ o. bytes_of (item_given (record s { owed = by.1 }) t o) m ≡ bytes_of s m) [
      | OwedBuffer i ↦ refl
      | Sync frame ↦ same_bytes s by.1 frame m
    ] in
    ap (λ (x : LocalState). bytes_of x m) by.3 ∙ kept by.0.queue by.0.item
