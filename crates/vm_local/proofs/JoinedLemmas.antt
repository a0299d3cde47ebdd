-- A record and the bytes of its memories are a state.
use Rattle.std.proofs.Common.{◌≡◌, ℕ, true, false, List, [], ◌∷◌, ◌++◌, length, get_or, set, drop, Option, Some, None, slice_get, is_none, refl, sym, ap, ◌∙◌, true≢false, if◌then◌else◌}
use Rattle.std.proofs.lemmas.Option.{none-some}
use Rattle.v4l_format.specs.Fmt.{picture_size}
use Rattle.v4l_rules.specs.Refusals.{first_refusal}
use Rattle.vm_local.specs.declared.call.Call.{Call}
use Rattle.vm_local.specs.declared.owed.Owed.{Owed as OwedEntry}
use Rattle.vm_local.specs.declared.owed.OwedItem.{OwedItem}
use Rattle.vm_local.specs.declared.owed.OwedItem.TheVariants.{Buffer as OwedBuffer, Sync}
use Rattle.vm_local.specs.State.{LocalState}
use Rattle.vm_local.specs.Queue.{can_finish}
use Rattle.vm_local.specs.Calls.{row_of}
use Rattle.vm_local.specs.Steps.{target, head_buffer, number_of, next_picture, item_given, given_from, counted, finished, marked_bad, given}
use Rattle.vm_local.specs.Log.{Stepped}
use Rattle.vm_local.specs.Record.{without_bytes, with_memories, with_call}
use Rattle.vm_local.proofs.StepLemmas.{frame_made, frame_failed}
use Rattle.vm_local.proofs.WithoutBytesLemmas.{same_refusals, same_waits, same_call}

-- the record of a state, and the bytes of the state's memories
pub joined : (r t : LocalState) (ms : List (List ℕ)) → r ≡ without_bytes t → ms ≡ t.memories → with_memories r ms ≡ t
joined r t ms shown bytes = λ i. with_memories (shown i) (bytes i)

pub still_shown : (r t : LocalState) (ms : List (List ℕ)) → r ≡ without_bytes t → ms ≡ t.memories → r ≡ without_bytes (with_memories r ms)
still_shown r t ms shown bytes = shown ∙ ap (λ (x : LocalState). without_bytes x) (sym (joined r t ms shown bytes))

-- the record of the state that a handle's fields show
pub shown_by : (r s kept : LocalState) (ms : List (List ℕ)) → kept ≡ without_bytes (with_memories kept ms) → with_memories kept ms ≡ s → r ≡ kept → r ≡ without_bytes s
shown_by r s kept ms shown view same = same ∙ (shown ∙ ap (λ (x : LocalState). without_bytes x) view)

-- ---- calls

pub passes_shown : (r s : LocalState) (line addr : ℕ) (call : Call) → r ≡ without_bytes s → first_refusal (row_of s line addr call).refusals ≡ None →
    first_refusal (row_of r line addr call).refusals ≡ None
passes_shown r s line addr call shown pass =
    ap (λ (x : LocalState). first_refusal (row_of x line addr call).refusals) shown ∙
    (ap (λ rs. first_refusal rs) (same_refusals s line addr call) ∙ pass)

pub goes_shown : (r s : LocalState) (line addr : ℕ) (call : Call) → r ≡ without_bytes s → (row_of s line addr call).waits ≡ false →
    (row_of r line addr call).waits ≡ false
goes_shown r s line addr call shown goes =
    ap (λ (x : LocalState). (row_of x line addr call).waits) shown ∙ (same_waits s line addr call ∙ goes)

pub call_shown : (r s r' : LocalState) (line addr : ℕ) (call : Call) → r ≡ without_bytes s → first_refusal (row_of s line addr call).refusals ≡ None →
    r' ≡ with_call r line addr call → r' ≡ without_bytes (row_of s line addr call).next
call_shown r s r' line addr call shown pass moved =
    moved ∙ (ap (λ (x : LocalState). with_call x line addr call) shown ∙ same_call s line addr call pass)

-- ---- steps of the device

stepped_none : (o : Option LocalState) (s : LocalState) → o ≡ None → Stepped o s s false
stepped_none o s is = rw is (refl, refl)

stepped_some : (o : Option LocalState) (s t u : LocalState) → o ≡ Some t → u ≡ t → Stepped o s u true
stepped_some o s t u is same = rw (is, same) (refl, refl)

pub not_failed : (r s : LocalState) → r ≡ without_bytes s → can_finish r ≡ false → Stepped (marked_bad s) s s false
unfolding marked_bad
not_failed r s shown never =
    let none : can_finish s ≡ false = ap (λ (x : LocalState). can_finish x) (sym shown) ∙ never in
    stepped_none (if can_finish s then Some (frame_failed s) else None) s (rw none refl)

pub fails : (r s : LocalState) → r ≡ without_bytes s → can_finish r ≡ true → marked_bad s ≡ Some (frame_failed s)
unfolding marked_bad
fails r s shown ready =
    let some : can_finish s ≡ true = ap (λ (x : LocalState). can_finish x) (sym shown) ∙ ready in
    rw some refl

pub not_finished : (r s : LocalState) → r ≡ without_bytes s → can_finish r ≡ false → Stepped (finished s) s s false
unfolding finished
not_finished r s shown never =
    let none : can_finish s ≡ false = ap (λ (x : LocalState). can_finish x) (sym shown) ∙ never in
    stepped_none (if can_finish s then Some (frame_made s) else None) s (rw none refl)

pub finishes : (r s : LocalState) → r ≡ without_bytes s → can_finish r ≡ true → finished s ≡ Some (frame_made s)
unfolding finished
finishes r s shown ready =
    let some : can_finish s ≡ true = ap (λ (x : LocalState). can_finish x) (sym shown) ∙ ready in
    rw some refl

-- a step leads to the state of the record and of the memories' bytes then
pub stepped_joined : (o : Option LocalState) (s t r : LocalState) (ms : List (List ℕ)) → o ≡ Some t → r ≡ without_bytes t → ms ≡ t.memories →
    Stepped o s (with_memories r ms) true
stepped_joined o s t r ms is shown bytes = stepped_some o s t (with_memories r ms) is (joined r t ms shown bytes)

-- the memories after a frame was finished
pub fronted_is : (s : LocalState) (old new : List (List ℕ)) (picture : List ℕ) (m : ℕ) → old ≡ s.memories → picture ≡ next_picture s →
    length picture ≡ picture_size (target s).format → m ≡ number_of (head_buffer (target s)) →
    new ≡ set old m (picture ++ drop (length picture) (get_or old m [])) → new ≡ (frame_made s).memories
fronted_is s old new picture m same made long at written =
    let place : ℕ = number_of (head_buffer (target s)) in
    let g : List (List ℕ) → ℕ → List ℕ → ℕ → List (List ℕ) = λ ms k xs n. set ms k (xs ++ drop n (get_or ms k [])) in
    written ∙ (ap (λ (ms : List (List ℕ)). g ms m picture (length picture)) same ∙ (ap (λ k. g s.memories k picture (length picture)) at ∙
    (ap (λ n. g s.memories place picture n) long ∙ ap (λ (xs : List ℕ). g s.memories place xs (picture_size (target s).format)) made)))

-- ---- giving

none_first : {A : Type 0} (xs : List A) → slice_get xs 0 ≡ None → xs ≡ []
none_first [] h = refl
none_first (x ∷ xs) h = absurd (none-some x (sym h))

pub nothing_given : (r s : LocalState) → r ≡ without_bytes s → slice_get r.owed 0 ≡ None → Stepped (given s) s s false
unfolding given
nothing_given r s shown none =
    let empty : s.owed ≡ [] = ap (λ (x : LocalState). x.owed) (sym shown) ∙ none_first r.owed none in
    stepped_none (given_from s s.owed) s (ap (λ xs. given_from s xs) empty)

item_bytes : (s : LocalState) (t : ℕ) (item : OwedItem) → (item_given s t item).memories ≡ s.memories
item_bytes s t (OwedBuffer i) = refl
item_bytes s t (Sync frame) =
    elim s.subscribed as (λ b. (if b then record s { events = s.events ++ (record { frame = frame; number = s.next_event }) ∷ []; next_event = counted s.next_event } else s).memories ≡ s.memories) [
      | true ↦ refl
      | false ↦ refl
    ]

-- what is owed first is given, and the memories keep their bytes
abbrev pub Gives : LocalState → List OwedEntry → Type 0
Gives s owed = (t : LocalState) × (given_from s owed ≡ Some t) × (t.memories ≡ s.memories)

gives_first : (s : LocalState) (owed : List OwedEntry) → is_none (slice_get owed 0) ≡ false → Gives s owed
gives_first s [] some = absurd (true≢false some)
gives_first s (o ∷ rest) some =
    let less : LocalState = record s { owed = rest } in (item_given less o.queue o.item, refl, item_bytes less o.queue o.item)

pub gives : (r s : LocalState) → r ≡ without_bytes s → is_none (slice_get r.owed 0) ≡ false →
    (t : LocalState) × (given s ≡ Some t) × (t.memories ≡ s.memories)
unfolding given
gives r s shown some = gives_first s s.owed (ap (λ (x : LocalState). is_none (slice_get x.owed 0)) (sym shown) ∙ some)
