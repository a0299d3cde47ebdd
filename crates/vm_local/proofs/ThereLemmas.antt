-- What stands in the lists of a handle: only buffers of the right state.
use Rattle.std.proofs.Common.{◌≡◌, ℕ, ◌≤◌, ◌==◌, false, ◌&&◌, List, [], ◌∷◌, All, Some, refl, ap, ◌∙◌, arith, eq-eqb}
use Rattle.std.proofs.lemmas.List.Elements.{All-nil, All-cons}
use Rattle.v4l_const.specs.declared.model.Model.{Model}
use Rattle.vm_local.specs.declared.buffer.BufferState.{BufferState}
use Rattle.vm_local.specs.declared.buffer.BufferState.TheVariants.{Idle, Queued, Owed, Done}
use Rattle.vm_local.specs.declared.entry.Entry.{Entry}
use Rattle.vm_local.specs.declared.owed.Owed.{Owed as OwedEntry}
use Rattle.vm_local.specs.declared.owed.OwedItem.{OwedItem}
use Rattle.vm_local.specs.declared.owed.OwedItem.TheVariants.{Buffer as OwedBuffer, Sync}
use Rattle.vm_local.specs.State.{QueueState, LocalState, queue_of, buffer_of}
use Rattle.vm_local.specs.Kinds.{is_idle, is_done}
use Rattle.vm_local.specs.Log.{replay}
use Rattle.vm_local.specs.Listed.{is_queued, is_with_device, is_index, times, times_owed, once, AreListed, IsThere, AreThere, IsOwedThere}
use Rattle.vm_local.proofs.CountLemmas.{times_cons, owed_cons, within_of}
use Rattle.vm_local.proofs.ListedLemmas.{listed_log}

queued_is : (st : BufferState) → 1 ≤ once (is_queued st) → st ≡ Queued
queued_is Idle h = absurd (omega (arith, h))
queued_is Queued h = refl
queued_is Owed h = absurd (omega (arith, h))
queued_is Done h = absurd (omega (arith, h))

owed_is : (st : BufferState) → 1 ≤ once (is_with_device st) → st ≡ Owed
owed_is Idle h = absurd (omega (arith, h))
owed_is Queued h = absurd (omega (arith, h))
owed_is Owed h = refl
owed_is Done h = absurd (omega (arith, h))

done_is : (st : BufferState) → 1 ≤ once (is_done st) → st ≡ Done
done_is Idle h = absurd (omega (arith, h))
done_is Queued h = absurd (omega (arith, h))
done_is Owed h = absurd (omega (arith, h))
done_is Done h = refl

-- what is so of each index that the list has
all_times : (P : ℕ → Type 0) (xs : List ℕ) → ((i : ℕ) → 1 ≤ times xs i → P i) → All P xs
all_times P [] each = All-nil P
all_times P (x ∷ xs) each =
    let one : once (x == x) ≡ 1 = ap once (eq-eqb x x refl) in
    All-cons P x xs (each x (omega (arith, times_cons x xs x, one)))
    (all_times P xs (λ i some. each i (omega (arith, times_cons x xs i, some))))

there : (q : QueueState) (st : BufferState) (i : ℕ) → is_idle st ≡ false → (buffer_of q i).state ≡ st → IsThere st q i
there q st i busy is = (within_of q.buffers i (ap is_idle is ∙ busy), is)

owed_itself : (t i : ℕ) → once (t == t && i == i) ≡ 1
owed_itself t i = rw (eq-eqb t t refl, eq-eqb i i refl) refl

-- the same of the owed list
all_owed : (s : LocalState) → (owed : List OwedEntry) →
    ((t i : ℕ) → 1 ≤ times_owed owed t i → IsThere Owed (queue_of s t) i) → All (λ o. IsOwedThere s o.queue o.item) owed
all_owed s [] each = All-nil (λ (o : OwedEntry). IsOwedThere s o.queue o.item)
all_owed s (o ∷ rest) each =
    let first : (t : ℕ) (item : OwedItem) → ((i : ℕ) → 1 ≤ once (t == t && is_index item i) → IsThere Owed (queue_of s t) i) → IsOwedThere s t item = λ t item.
    elim item as (λ m. ((i : ℕ) → 1 ≤ once (t == t && is_index m i) → IsThere Owed (queue_of s t) i) → IsOwedThere s t m) [
      | OwedBuffer i ↦ λ h. h i (omega (arith, owed_itself t i))
      | Sync frame ↦ λ h. tt
    ] in
    All-cons (λ (x : OwedEntry). IsOwedThere s x.queue x.item) o rest
    (first o.queue o.item (λ i some. each o.queue i (omega (arith, owed_cons o rest o.queue i, some))))
    (all_owed s rest (λ t i some. each t i (omega (arith, owed_cons o rest t i, some))))

pub there_log : (m : Model) (log : List Entry) (s : LocalState) → replay m log ≡ Some s → AreThere s
there_log m log s leads =
    let h : AreListed s = listed_log m log s leads in (
      λ t. (
        all_times (IsThere Queued (queue_of s t)) (queue_of s t).queued
            (λ i some. there (queue_of s t) Queued i refl (queued_is (buffer_of (queue_of s t) i).state (omega (arith, some, (h t i).0)))),
        all_times (IsThere Done (queue_of s t)) (queue_of s t).done
            (λ i some. there (queue_of s t) Done i refl (done_is (buffer_of (queue_of s t) i).state (omega (arith, some, (h t i).2)))),
      ),
      all_owed s s.owed (λ t i some. there (queue_of s t) Owed i refl (owed_is (buffer_of (queue_of s t) i).state (omega (arith, some, (h t i).1)))),
    )
