use Rattle.std.proofs.Common.{◌≡◌, ◌<◌, ℕ, List, length, drop, ap, sym, subst, ◌∙◌, arith}
use Rattle.v4l_const.specs.declared.model.Model.{Model}
use Rattle.v4l_const.specs.Model.{queues as types_of}
use Rattle.v4l_rules.specs.Queues.{place_in}
use Rattle.vm_local.specs.declared.owed.OwedItem.TheVariants.{Buffer as OwedBuffer}
use Rattle.vm_local.specs.State.{QueueState, LocalState}
use Rattle.vm_local.specs.Steps.{with_done, item_given}
use Rattle.vm_local.specs.Record.{RecordState}
use Rattle.vm_local.proofs.ListedLemmas.{IsSound, sound_given}
use Rattle.vm_local.proofs.OrderlyLemmas.{orderly_as, at_place, set_seen, sound_shown, first_is, room_given}
use Rattle.vm_local.proofs.record.Record.give_buffer.Goals as goal

-- where the buffer's queue is, by the state
place_is : (us : List ℕ) (m m' : Model) (t p : ℕ) → p ≡ place_in us t → us ≡ types_of m → m ≡ m' → p ≡ place_in (types_of m') t
place_is us m m' t p place types same = place ∙ (ap (λ us. place_in us t) types ∙ ap (λ x. place_in (types_of x) t) same)

pub give-requires-clause-place : goal.give-requires-clause-place
give-requires-clause-place c =
    let s : LocalState = c.args.self.now.local in
    let is : c.place_in-place.result ≡ place_in (types_of s.model) c.args.t =
    place_is _ _ _ c.args.t _ c.place_in-place.ensures c.queues.ensures (ap (λ (r : RecordState). r.local.model) c.self.view_is) in
    let within : place_in (types_of s.model) c.args.t < length s.queues =
    (room_given s c.args.t c.args.i _ (first_is s.owed _ c.requires) (sound_shown _ _ c.self.view_is c.self.invariant.1)).0 in
    let long : length c.self.inside.queues ≡ length s.queues = ap (λ (r : RecordState). length r.local.queues) c.self.view_is in
    omega (arith, is, within, long)

pub give-requires-clause-room : goal.give-requires-clause-room
give-requires-clause-room c =
    let s : LocalState = c.args.self.now.local in
    let is : c.place_in-place.result ≡ place_in (types_of s.model) c.args.t =
    place_is _ _ _ c.args.t _ c.place_in-place.ensures c.queues.ensures (ap (λ (r : RecordState). r.local.model) c.self.view_is) in
    let P : QueueState → Type 0 = λ q. length q.done < length q.buffers in
    subst P (sym (at_place _ s (ap (λ (r : RecordState). r.local.queues) c.self.view_is) c.args.t _ is))
    (room_given s c.args.t c.args.i _ (first_is s.owed _ c.requires) (sound_shown _ _ c.self.view_is c.self.invariant.1)).1

pub invariant_of-self : goal.invariant_of-self
invariant_of-self c =
    let s : LocalState = c.args.self.now.local in
    let t : ℕ = c.args.t in
    let i : ℕ = c.args.i in
    let is : c.place_in-place.result ≡ place_in (types_of s.model) t =
    place_is _ _ _ t _ c.place_in-place.ensures c.queues.ensures (ap (λ (r : RecordState). r.local.model) c.self.view_is) in
    let sound : IsSound (item_given (record s { owed = drop 1 s.owed }) t (OwedBuffer i)) =
    sound_given s t (OwedBuffer i) (drop 1 s.owed) (first_is s.owed _ c.requires) (sound_shown _ _ c.self.view_is c.self.invariant.1) in (
      c.self.invariant.0,
      orderly_as (item_given (record s { owed = drop 1 s.owed }) t (OwedBuffer i)) _ _ _ (ap (λ (r : RecordState). r.local.model) c.self.view_is)
          (set_seen (λ q. with_done q i) _ s (ap (λ (r : RecordState). r.local.queues) c.self.view_is) t _ _ is c.give.ensures)
          (c.remove_first.ensures.items ∙ ap (λ (r : RecordState). drop 1 r.local.owed) c.self.view_is) sound,
      c.self.invariant.2,
      c.self.invariant.3,
      omega (arith, c.self.invariant.4, c.remove_first.ensures.len, c.remove_first.ensures.capacity),
      c.self.invariant.5,
      c.self.invariant.6,
    )
