-- What is so of the states that legal logs lead to.
use Rattle.std.proofs.Common.{◌≡◌, ℕ, zero, suc, ◌<◌, Bool, true, false, not, ◌&&◌, List, [], ◌∷◌, ◌++◌, length, get_or, All, Some, refl, sym, ap, ◌∙◌, subst, arith}
use Rattle.std.specs.Prelude.{slice_index}
use Rattle.std.specs.List.{list_all}
use Rattle.std.specs.Option.{option_and_then}
use Rattle.std.proofs.lemmas.Bool.{false≢true}
use Rattle.std.proofs.lemmas.List.{get_or_default}
use Rattle.std.proofs.lemmas.List.Elements.{All-head}
use Rattle.v4l_const.specs.declared.model.Model.{Model}
use Rattle.v4l_const.specs.declared.model.Model.TheVariants.{Capture, Convert}
use Rattle.v4l_const.specs.Model.{queues as types_of}
use Rattle.v4l_rules.specs.Queues.{place_in}
use Rattle.vm_local.specs.declared.buffer.BufferState.TheVariants.{Queued}
use Rattle.vm_local.specs.declared.entry.Entry.{Entry}
use Rattle.vm_local.specs.declared.owed.Owed.{Owed as OwedEntry}
use Rattle.vm_local.specs.State.{QueueState, LocalState, opening, opening_queue}
use Rattle.vm_local.specs.Queue.{is_empty, can_finish}
use Rattle.vm_local.specs.Steps.{head}
use Rattle.vm_local.specs.Log.{after, replay}
use Rattle.vm_local.specs.Listed.{AreThere, IsThere, IsOwedThere}
use Rattle.vm_local.proofs.LogLemmas.{replay_from_push}
use Rattle.vm_local.proofs.ListedLemmas.{sound_log}
use Rattle.vm_local.proofs.ThereLemmas.{there_log}

abbrev pub Reached : LocalState → Type 0
Reached s = (m : Model) × (log : List Entry) × (replay m log ≡ Some s)

pub reached_after : (s t : LocalState) (e : Entry) → Reached s → after s e ≡ Some t → Reached t
reached_after s t e (m, log, leads) h =
    (m, log ++ e ∷ [], replay_from_push (opening m) log e ∙ (ap (λ o. option_and_then (λ x. after x e) o) leads ∙ h))

-- ---- the queues

pub many_queues : (s : LocalState) → Reached s → length s.queues ≡ length (types_of s.model)
many_queues s (m, log, leads) = (sound_log m log s leads).0

are_there : (s : LocalState) → Reached s → AreThere s
are_there s (m, log, leads) = there_log m log s leads

-- each place is that of a type
types_at : (m : Model) (k : ℕ) → k < length (types_of m) → place_in (types_of m) (get_or (types_of m) k 0) ≡ k
types_at Capture zero within = refl
types_at Capture (suc k) within = absurd (omega (arith, within))
types_at Convert zero within = refl
types_at Convert (suc zero) within = refl
types_at Convert (suc (suc k)) within = absurd (omega (arith, within))

some_types : (m : Model) → 0 < length (types_of m)
some_types Capture = omega arith
some_types Convert = omega arith

pub some_queues : (s : LocalState) → Reached s → 0 < length s.queues
some_queues s reached = omega (arith, many_queues s reached, some_types s.model)

queued_there : (s : LocalState) → Reached s → (k : ℕ) (d : QueueState) → k < length s.queues →
    All (IsThere Queued (get_or s.queues k d)) (get_or s.queues k d).queued
queued_there s reached k d within =
    let P : QueueState → Type 0 = λ q. All (IsThere Queued q) q.queued in
    let t : ℕ = get_or (types_of s.model) k 0 in
    let place : place_in (types_of s.model) t ≡ k = types_at s.model k (omega (arith, within, many_queues s reached)) in
    subst P (ap (λ p. get_or s.queues p opening_queue) place ∙ get_or_default s.queues k opening_queue d within) ((are_there s reached).0 t).0

-- ---- the front of a queue that a frame takes

first_of : (P : ℕ → Type 0) (xs : List ℕ) → is_empty xs ≡ false → All P xs → P (slice_index xs 0)
first_of P [] some all = absurd (false≢true (sym some))
first_of P (x ∷ xs) some all = All-head P x xs all

both : (a b : Bool) → (a && b) ≡ true → (a ≡ true) × (b ≡ true)
both true b h = (refl, h)
both false b h = absurd (false≢true h)

not_true : (b : Bool) → not b ≡ true → b ≡ false
not_true true h = absurd (false≢true h)
not_true false h = refl

abbrev pub IsReady : QueueState → Type 0
IsReady q = (q.streaming ≡ true) × (is_empty q.queued ≡ false)

pub ready_at : (qs : List QueueState) (k : ℕ) (d : QueueState) → list_all (λ q. q.streaming && not (is_empty q.queued)) qs ≡ true →
    k < length qs → IsReady (get_or qs k d)
ready_at [] k d ready within = absurd (omega (arith, within))
ready_at (q ∷ qs) zero d ready within =
    let one : _ = both q.streaming (not (is_empty q.queued)) (both (q.streaming && not (is_empty q.queued)) _ ready).0 in
    (one.0, not_true (is_empty q.queued) one.1)
ready_at (q ∷ qs) (suc k) d ready within = ready_at qs k d (both (q.streaming && not (is_empty q.queued)) _ ready).1 (omega (arith, within))

-- the first queued buffer of each queue is there, where a frame can be finished
pub front_there : (s : LocalState) → Reached s → can_finish s ≡ true → (k : ℕ) (d : QueueState) → k < length s.queues →
    IsThere Queued (get_or s.queues k d) (head (get_or s.queues k d))
front_there s reached ready k d within =
    let q : QueueState = get_or s.queues k d in
    first_of (IsThere Queued q) q.queued (ready_at s.queues k d ready within).1 (queued_there s reached k d within)

-- what is owed first is there
pub owed_there : (s : LocalState) (o : OwedEntry) (rest : List OwedEntry) → Reached s → s.owed ≡ o ∷ rest → IsOwedThere s o.queue o.item
owed_there s o rest reached owed =
    let P : OwedEntry → Type 0 = λ x. IsOwedThere s x.queue x.item in
    All-head P o rest (subst (λ xs. All P xs) owed (are_there s reached).1)
