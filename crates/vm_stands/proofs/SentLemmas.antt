-- A session that sends a message.
use Rattle.std.proofs.Common.{◌≡◌, inl, inr, ℕ, Bool, true, false, not, ◌||◌, ◌==◌, cond, List, [], ◌∷◌, filter, refl}
use Rattle.std.specs.List.{list_any}
use Rattle.std.proofs.lemmas.Bool.{or_cases}
use Rattle.std.proofs.lemmas.List.{length-set}
use Rattle.v4l_const.specs.Model.{queues as types_of}
use Rattle.v4l_rules.specs.Queues.{place_in}
use Rattle.vm_wire.specs.declared.event.EventMsg.{EventMsg}
use Rattle.vm_wire.specs.declared.event.EventMsg.TheVariants.{Dequeued, Happened}
use Rattle.vm_local.specs.State.{LocalState}
use Rattle.vm_home.proofs.PlaceLemmas.{or_left, or_right, set_relates}
use Rattle.vm_session.specs.declared.unsent.Unsent.{Unsent}
use Rattle.vm_session.specs.State.{SessionQueue, SessionState, opening_queue, queue_of}
use Rattle.vm_session.specs.Streaming.{settled, with_returned, sent_of, sent}
use Rattle.vm_stands.specs.Stands.{Stands}
use Rattle.vm_stands.proofs.KeptLemmas.{IsLessOut, IsLessAway, less_itself, less_stands}

-- what passes a test, of the elements that are kept
any_kept : (test keep : ℕ → Bool) (xs : List ℕ) → list_any test (filter keep xs) ≡ true → list_any test xs ≡ true
any_kept test keep [] some = some
any_kept test keep (x ∷ xs) some =
    elim (keep x) as (λ k. list_any test (cond k (x ∷ filter keep xs) (filter keep xs)) ≡ true → (test x || list_any test xs) ≡ true) [
      | true ↦ λ is. elim (or_cases (test x) (list_any test (filter keep xs)) is) as (λ _. (test x || list_any test xs) ≡ true) [
        | inl here ↦ or_left (test x) (list_any test xs) here
        | inr rest ↦ or_right (test x) (list_any test xs) (any_kept test keep xs rest)
      ]
      | false ↦ λ is. or_right (test x) (list_any test xs) (any_kept test keep xs is)
    ] some

settled_less : (q : SessionQueue) (index : ℕ) → IsLessOut q (settled q index)
settled_less q index = record { same = refl; out = λ i is. any_kept (λ j. j == i) (λ j. not (j == index)) q.out is }

returned_less : (s : SessionState) (msg : EventMsg) → IsLessAway s (with_returned s msg)
returned_less s (Dequeued session b) =
    let p : ℕ = place_in (types_of s.model) b.kind in
    let v : SessionQueue = settled (queue_of s b.kind) b.index in
    record {
      model = refl;
      input = refl;
      made = refl;
      running = refl;
      count = length-set s.queues p v;
      each = λ t. set_relates IsLessOut less_itself opening_queue s.queues p v (settled_less (queue_of s b.kind) b.index) (place_in (types_of s.model) t);
    }
returned_less s (Happened session event) =
    record { model = refl; input = refl; made = refl; running = refl; count = refl; each = λ t. less_itself (queue_of s t) }

sent_less : (s : SessionState) (unsent : List Unsent) → IsLessAway s (sent_of unsent s)
sent_less s [] = record { model = refl; input = refl; made = refl; running = refl; count = refl; each = λ t. less_itself (queue_of s t) }
sent_less s (e ∷ es) =
    let rest : SessionState = record s { unsent = es } in
    let less : IsLessAway rest (with_returned rest e.msg) = returned_less rest e.msg in
    record { model = less.model; input = less.input; made = less.made; running = less.running; count = less.count; each = less.each }

pub sending_stands : (frames : List ℕ) (session : SessionState) (s : LocalState) → Stands frames session s → Stands frames (sent session) s
sending_stands frames session s stands = less_stands frames session (sent session) s (sent_less session session.unsent) stands
