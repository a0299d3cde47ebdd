use Rattle.std.proofs.Common.{rules, ◌≡◌, ◌<◌, ◌∷◌, [], ◌++◌, ℕ, length, slice_set, refl, ap, sym, ◌∙◌, subst}
use Rattle.v4l_const.specs.Model.{queues as types_of}
use Rattle.v4l_rules.specs.Queues.{place_in}
use Rattle.vm_local.specs.declared.buffer.Buffer.{Buffer}
use Rattle.vm_local.specs.declared.call.Call.TheVariants.{QBuf}
use Rattle.vm_local.specs.State.{QueueState, LocalState, queue_of, buffer_of, with_buffer}
use Rattle.vm_local.specs.Queue.{brought, queued_buffer}
use Rattle.vm_local.specs.Calls.{qbuf_row}
use Rattle.vm_local.specs.Record.{RecordState}
use Rattle.vm_local.proofs.ListedLemmas.{IsSound, sound_row}
use Rattle.vm_local.proofs.OrderlyLemmas.{orderly_as, at_place, set_seen, sound_shown, room_queued}
use Rattle.vm_local.proofs.record.Record.queue_buffer.Goals as goal

pub queue_buffer-requires-clause-room : goal.queue_buffer-requires-clause-room
queue_buffer-requires-clause-room c =
    let s : LocalState = c.args.self.now.local in
    let P : QueueState → Type 0 = λ q. length q.queued < length q.buffers in
    subst P (sym (at_place _ s (ap (λ (r : RecordState). r.local.queues) c.self.view_is) c.args.t _ c.in-Some.ensures.place))
    (room_queued s c.args.t c.args.i c.args.user.now c.args.used c.args.ts c.requires (sound_shown _ _ c.self.view_is c.self.invariant.1))

pub invariant_of-self : goal.invariant_of-self
unfolding qbuf_row
invariant_of-self c =
    let s : LocalState = c.args.self.now.local in
    let t : ℕ = c.args.t in
    let i : ℕ = c.args.i in
    let b : Buffer = queued_buffer s t (brought s c.args.user.now) c.args.used c.args.ts (buffer_of (queue_of s t) i) in
    let f : Buffer → QueueState → QueueState = λ b q. record (with_buffer q i b) { queued = q.queued ++ i ∷ [] } in
    let same : c.queued_buffer-buffer.result ≡ b = search rules in
    let sound : IsSound (qbuf_row s t i c.args.user.now c.args.used c.args.ts).next =
    sound_row s 0 0 (QBuf t i c.args.user.now c.args.used c.args.ts) c.requires refl (sound_shown _ _ c.self.view_is c.self.invariant.1) in (
      c.self.invariant.0,
      orderly_as (qbuf_row s t i c.args.user.now c.args.used c.args.ts).next _ _ _ (ap (λ (r : RecordState). r.local.model) c.self.view_is)
          (set_seen (f c.queued_buffer-buffer.result) _ s (ap (λ (r : RecordState). r.local.queues) c.self.view_is) t _ _ c.in-Some.ensures.place c.queue_buffer.ensures
          ∙ ap (λ (x : Buffer). slice_set s.queues (place_in (types_of s.model) t) (f x (queue_of s t))) same)
          (ap (λ (r : RecordState). r.local.owed) c.self.view_is) sound,
      c.self.invariant.2,
      c.self.invariant.3,
      c.self.invariant.4,
      c.self.invariant.5,
      c.self.invariant.6,
    )
