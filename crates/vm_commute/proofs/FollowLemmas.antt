-- A step of the device follows a call as it comes before it: calls that change no queue, or what isn't in the lists.
use Rattle.std.proofs.Common.{◌≡◌, ℕ, ◌<◌, true, false, not, ◌&&◌, List, [], ◌∷◌, ◌++◌, length, get_or, Option, Some, None, refl, sym, ap, ◌∙◌, subst, arith, if◌then◌else◌}
use Rattle.std.specs.List.{list_any, list_all}
use Rattle.std.proofs.lemmas.Bool.{false≢true}
use Rattle.v4l_const.specs.Model.{queues as types_of, source_queue}
use Rattle.v4l_rules.specs.Queues.{place_in}
use Rattle.vm_local.specs.declared.bound.Bound.{Bound}
use Rattle.vm_local.specs.declared.buffer.Buffer.{Buffer}
use Rattle.vm_local.specs.declared.buffer.BufferState.TheVariants.{Owed}
use Rattle.vm_local.specs.declared.entry.Entry.{Entry}
use Rattle.vm_local.specs.declared.entry.Entry.TheVariants.{Called, Finish, Bad, Give}
use Rattle.vm_local.specs.declared.owed.Owed.{Owed as OwedEntry}
use Rattle.vm_local.specs.declared.owed.OwedItem.{OwedItem}
use Rattle.vm_local.specs.declared.owed.OwedItem.TheVariants.{Buffer as OwedBuffer, Sync}
use Rattle.vm_local.specs.State.{QueueState, LocalState, opening_queue, queue_of}
use Rattle.vm_local.specs.Queue.{is_empty, has_buffers, is_streaming, can_finish}
use Rattle.vm_local.specs.Steps.{picture_from, timestamp_from, with_done, item_given, given_from, counted, finished, marked_bad, given}
use Rattle.vm_local.specs.Log.{after}
use Rattle.vm_local.specs.Listed.{IsThere, IsOwedThere}
use Rattle.vm_local.proofs.StepLemmas.{frame_made, frame_failed, finished_by, failed_by, given_by, Gave}
use Rattle.vm_commute.specs.Commute.{is_step}
use Rattle.vm_commute.proofs.PlaceLemmas.{changed, any_none}
use Rattle.vm_commute.proofs.ReachedLemmas.{Reached, ready_at, some_queues, front_there, owed_there}

-- ---- what a step leads to

pub made : (s : LocalState) → can_finish s ≡ true → after s Finish ≡ Some (frame_made s)
unfolding finished
made s ready = rw ready refl

pub failed : (s : LocalState) → can_finish s ≡ true → after s Bad ≡ Some (frame_failed s)
unfolding marked_bad
failed s ready = rw ready refl

gave : (s : LocalState) (o : OwedEntry) (rest : List OwedEntry) → s.owed ≡ o ∷ rest → after s Give ≡ Some (item_given (record s { owed = rest }) o.queue o.item)
unfolding given
gave s o rest owed = ap (λ xs. given_from s xs) owed

-- ---- other bound names

same_timestamp : (source : Option ℕ) (s : LocalState) (names : List Bound) → timestamp_from source (record s { bound = names }) ≡ timestamp_from source s
same_timestamp None s names = refl
same_timestamp (Some t) s names = refl

same_picture : (source : Option ℕ) (s : LocalState) (names : List Bound) → picture_from source (record s { bound = names }) ≡ picture_from source s
same_picture None s names = refl
same_picture (Some t) s names = refl

names_made : (s : LocalState) (names : List Bound) → frame_made (record s { bound = names }) ≡ record (frame_made s) { bound = names }
names_made s names = rw (same_timestamp (source_queue s.model) s names, same_picture (source_queue s.model) s names) refl

names_failed : (s : LocalState) (names : List Bound) → frame_failed (record s { bound = names }) ≡ record (frame_failed s) { bound = names }
names_failed s names = rw (same_timestamp (source_queue s.model) s names) refl

-- ---- other queues, input and names

-- the state with its queues changed, and with other input and names
abbrev pub formed : LocalState → (List QueueState → List QueueState) → ℕ → List Bound → LocalState
formed s f input names = record s { input = input; queues = f s.queues; bound = names }

-- the change of the queues is the same after a buffer is given as before
abbrev pub GivenAlike : LocalState → (List QueueState → List QueueState) → Type 0
GivenAlike s f =
    (t i : ℕ) → IsThere Owed (queue_of s t) i →
    changed opening_queue (λ q. with_done q i) (place_in (types_of s.model) t) (f s.queues) ≡
    f (changed opening_queue (λ q. with_done q i) (place_in (types_of s.model) t) s.queues)

given_formed : (s : LocalState) (f : List QueueState → List QueueState) (input : ℕ) (names : List Bound) (t : ℕ) (item : OwedItem) (rest : List OwedEntry) →
    IsOwedThere s t item → GivenAlike s f →
    item_given (record (formed s f input names) { owed = rest }) t item ≡ formed (item_given (record s { owed = rest }) t item) f input names
given_formed s f input names t (OwedBuffer i) rest there alike =
    ap (λ qs. record s { input = input; queues = qs; bound = names; owed = rest }) (alike t i there)
given_formed s f input names t (Sync frame) rest there alike =
    let x : LocalState = record s { owed = rest } in
    let more : LocalState → LocalState = λ r.
    record r { events = r.events ++ (record { frame = frame; number = r.next_event }) ∷ []; next_event = counted r.next_event } in
    elim s.subscribed as (λ b. (if b then more (formed x f input names) else formed x f input names) ≡ formed (if b then more x else x) f input names) [
      | true ↦ refl
      | false ↦ refl
    ]

pub give_formed : (s u : LocalState) (f : List QueueState → List QueueState) (input : ℕ) (names : List Bound) → Reached s → after s Give ≡ Some u →
    GivenAlike s f → after (formed s f input names) Give ≡ Some (formed u f input names)
give_formed s u f input names reached leads alike =
    let by : Gave s s.owed u = given_by s u leads in
    gave (formed s f input names) by.0 by.1 by.2 ∙
    ap (λ (x : LocalState). Some x) (given_formed s f input names by.0.queue by.0.item by.1 (owed_there s by.0 by.1 reached by.2) alike ∙
    ap (λ (x : LocalState). formed x f input names) (sym by.3))

-- the input stays
input_given : (s u : LocalState) → after s Give ≡ Some u → u.input ≡ s.input
input_given s u leads =
    let by : Gave s s.owed u = given_by s u leads in
    let kept : (item : OwedItem) → (item_given (record s { owed = by.1 }) by.0.queue item).input ≡ s.input = λ item.
    elim item as (λ o. (item_given (record s { owed = by.1 }) by.0.queue o).input ≡ s.input) [
      | OwedBuffer i ↦ refl
      | Sync frame ↦ elim s.subscribed as (λ b. (if b then record s {
        owed = by.1;
        events = s.events ++ (record { frame = frame; number = s.next_event }) ∷ [];
        next_event = counted s.next_event;
      } else record s { owed = by.1 }).input ≡ s.input) [ true ↦ refl | false ↦ refl ]
    ] in
    ap (λ (x : LocalState). x.input) by.3 ∙ kept by.0.item

-- a step follows a change of names
pub names_follow : (s u : LocalState) (e : Entry) (names : List Bound) → is_step e ≡ true → Reached s → after s e ≡ Some u →
    after (record s { bound = names }) e ≡ Some (record u { bound = names })
names_follow s u (Called line call reply) names step reached leads = absurd (false≢true step)
names_follow s u Finish names step reached leads =
    let by : (can_finish s ≡ true) × (u ≡ frame_made s) = finished_by s u leads in
    made (record s { bound = names }) by.0 ∙ ap (λ (x : LocalState). Some x) (names_made s names ∙ ap (λ (x : LocalState). record x { bound = names }) (sym by.1))
names_follow s u Bad names step reached leads =
    let by : (can_finish s ≡ true) × (u ≡ frame_failed s) = failed_by s u leads in
    failed (record s { bound = names }) by.0 ∙ ap (λ (x : LocalState). Some x) (names_failed s names ∙ ap (λ (x : LocalState). record x { bound = names }) (sym by.1))
names_follow s u Give names step reached leads =
    let same : u.input ≡ s.input = input_given s u leads in
    let P : ℕ → Type 0 = λ i. after (record s { bound = names }) Give ≡ Some (record u { input = i; bound = names }) in
    subst P (sym same) (give_formed s u (λ qs. qs) s.input names reached leads (λ t i there. refl))

-- ---- where no frame can be finished

never_streams : (qs : List QueueState) → 0 < length qs → list_any (λ q. q.streaming) qs ≡ false → list_all (λ q. q.streaming && not (is_empty q.queued)) qs ≡ true → ⊥
never_streams [] some none all = omega (arith, some)
never_streams (q ∷ qs) some none all =
    let still : q.streaming ≡ false = any_none (λ (v : QueueState). v.streaming) (q ∷ qs) 0 q none (omega arith) in
    false≢true (sym still ∙ (ready_at (q ∷ qs) 0 q all (omega arith)).0)

-- a frame can't be finished where no queue streams
pub still_never : (s : LocalState) → Reached s → is_streaming s ≡ false → can_finish s ≡ true → ⊥
still_never s reached still ready = never_streams s.queues (some_queues s reached) still ready

none_there : (bs : List Buffer) (i : ℕ) → not (is_empty bs) ≡ false → i < length bs → ⊥
none_there [] i none within = omega (arith, within)
none_there (b ∷ bs) i none within = false≢true (sym none)

-- and not where no queue has buffers
pub bare_never : (s : LocalState) → Reached s → has_buffers s ≡ false → can_finish s ≡ true → ⊥
bare_never s reached bare ready =
    let q : QueueState = get_or s.queues 0 opening_queue in
    let within : 0 < length s.queues = some_queues s reached in
    let none : not (is_empty q.buffers) ≡ false = any_none (λ (v : QueueState). not (is_empty v.buffers)) s.queues 0 opening_queue bare within in
    none_there q.buffers _ none (front_there s reached ready 0 opening_queue within).0
