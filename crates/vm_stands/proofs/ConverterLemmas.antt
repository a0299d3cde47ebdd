-- A job of a converter that came back.
use Rattle.std.proofs.Common.{◌≡◌, ◌≢◌, ℕ, ◌==◌, ◌&&◌, Bool, true, false, not, List, [], ◌∷◌, ◌++◌, map, Option, Some, None, unwrap_or, refl, sym, ap, ◌∙◌, subst, arith, if◌then◌else◌}
use Rattle.std.specs.Option.{option_map, option_to_list}
use Rattle.v4l_const.specs.declared.model.Model.TheVariants.{Convert}
use Rattle.v4l_const.specs.declared.numbers.TheConstants.{BUF_TYPE_CAPTURE, BUF_TYPE_OUTPUT}
use Rattle.v4l_const.specs.Model.{queues as types_of, source_queue, picture_queue, has_events}
use Rattle.v4l_format.specs.Fmt.{picture_size}
use Rattle.v4l_layout.specs.declared.buffer_rec.BufferRec.{BufferRec}
use Rattle.v4l_rules.specs.Formats.{is_source}
use Rattle.v4l_rules.specs.Queues.{place_in, has_type}
use Rattle.vm_frame.specs.declared.mem.Held.{Held}
use Rattle.vm_job.specs.Job.{JobParts, DoneParts}
use Rattle.vm_wire.specs.Buffers.{dequeued_buffer}
use Rattle.vm_local.specs.declared.buffer.BufferState.TheVariants.{Queued as AsQueued}
use Rattle.vm_local.specs.declared.owed.Owed.{Owed as OwedEntry}
use Rattle.vm_local.specs.declared.owed.OwedItem.TheVariants.{Buffer as OwedBuffer, Sync}
use Rattle.vm_local.specs.State.{LocalState, queue_of, buffer_of}
use Rattle.vm_local.specs.Kinds.{is_idle}
use Rattle.vm_local.specs.Listed.{IsThere}
use Rattle.vm_local.specs.Memory.{bytes_of}
use Rattle.vm_local.specs.Live.{is_of_device}
use Rattle.vm_local.specs.Log.{replay_from}
use Rattle.vm_local.specs.Steps.{head, head_buffer, target, timestamp_from, next_timestamp, buffer_taken, buffers_taken}
use Rattle.vm_home.specs.Moves.{memory_at}
use Rattle.vm_session.specs.declared.running.Running.{Running}
use Rattle.vm_session.specs.declared.unsent.Unsent.{Unsent}
use Rattle.vm_session.specs.State.{SessionState, pictures}
use Rattle.vm_session.specs.Sound.{taken_by}
use Rattle.vm_session.specs.Streaming.{frame_time, returned, src_events, dst_event, events_of, stamp_of, note_of}
use Rattle.vm_wire.specs.Buffers.{frame_event}
use Rattle.vm_wire.specs.declared.event.EventMsg.TheVariants.{Happened}
use Rattle.vm_stands.specs.Stands.{seconds_of, micros_of, of_type, IsPictureTold, IsHeadIf}
use Rattle.vm_exchange.specs.Messages.{is_marked, made_by}
use Rattle.vm_stands.specs.Flight.{IsHeldAt, GivesBuffer}
use Rattle.vm_stands.proofs.FrameLemmas.{frame_queue}
use Rattle.vm_stands.proofs.LeadLemmas.{Given, give_frame}
use Rattle.vm_stands.proofs.TookLemmas.{OneEach, took_two, two_first, two_second, IsTaken, taken_is}
use Rattle.vm_stands.proofs.DoneLemmas.{apart_queue, numbers_after, memory_after}
use Rattle.vm_stands.proofs.ReturnLemmas.{IsStamped, returned_gives, marked_is, kind_is, step_by, made_first, made_second}
use Rattle.vm_stands.proofs.FinishedLemmas.{frame_by, owed_by, Framed, framed, first_there, Finishing, Ends, took_each, ends_by, dst_gives}

-- what is held at the head of a queue, where its bytes stayed
held_after : (s t : LocalState) (u : ℕ) (o : Option Held) → memory_at t u (head (queue_of s u)) ≡ memory_at s u (head (queue_of s u)) →
    bytes_of t (memory_at s u (head (queue_of s u))) ≡ bytes_of s (memory_at s u (head (queue_of s u))) →
    ((m : ℕ) → is_of_device t m ≡ is_of_device s m) → IsHeadIf s (Some u) o → IsHeldAt t u (head (queue_of s u)) o
held_after s t u None number bytes device is = absurd is
held_after s t u (Some h) number bytes device is = memory_after s t u (head (queue_of s u)) h number bytes device is

module _ (frames : List ℕ) (session : SessionState) (s : LocalState) (r : Running) (job : JobParts) (done : DoneParts)
    (h : Finishing frames session s r job done) (is : s.model ≡ Convert) where
  its : session.model ≡ Convert
  its = h.stands.model ∙ is

  took : (b : BufferRec) × (r.src ≡ Some b) × (b.kind ≡ BUF_TYPE_OUTPUT) × (r.dst.kind ≡ BUF_TYPE_CAPTURE)
  took = took_two r (subst (λ m. OneEach m (taken_by (Some r))) is (took_each frames session s r job done h))

  b : BufferRec
  b = took.0

  these : taken_by (Some r) ≡ b ∷ r.dst ∷ []
  unfolding b took
  these = ap (λ o. option_to_list o ++ r.dst ∷ []) took.1

  taken : IsTaken session s (picture_queue s.model) r.dst
  unfolding b took
  taken =
      let one : of_type BUF_TYPE_CAPTURE (taken_by (Some r)) ≡ r.dst ∷ [] =
      two_second BUF_TYPE_OUTPUT BUF_TYPE_CAPTURE BUF_TYPE_CAPTURE b r.dst (taken_by (Some r)) these took.2 took.3 refl refl in
      subst (λ m. IsTaken session s (picture_queue m) r.dst) (sym is)
      (taken_is frames session s BUF_TYPE_CAPTURE r.dst h.reached (h.stands.each BUF_TYPE_CAPTURE)
      (ap (λ o. of_type BUF_TYPE_CAPTURE (taken_by o)) h.running ∙ one))

  read : IsTaken session s BUF_TYPE_OUTPUT b
  unfolding b took
  read =
      let one : of_type BUF_TYPE_OUTPUT (taken_by (Some r)) ≡ b ∷ [] =
      two_first BUF_TYPE_OUTPUT BUF_TYPE_CAPTURE BUF_TYPE_OUTPUT b r.dst (taken_by (Some r)) these took.2 took.3 refl refl in
      taken_is frames session s BUF_TYPE_OUTPUT b h.reached (h.stands.each BUF_TYPE_OUTPUT)
      (ap (λ o. of_type BUF_TYPE_OUTPUT (taken_by o)) h.running ∙ one)

  -- what the record tells of the picture
  picture : IsPictureTold b (head_buffer (queue_of s BUF_TYPE_OUTPUT))
  picture =
      subst (λ i. IsPictureTold b (buffer_of (queue_of s BUF_TYPE_OUTPUT) i)) read.index (read.is.told (ap (λ m. is_source m BUF_TYPE_OUTPUT) is))

  time : next_timestamp s ≡ (head_buffer (queue_of s BUF_TYPE_OUTPUT)).timestamp
  time = ap (λ m. timestamp_from (source_queue m) s) is

  stamped : IsStamped session s r
  unfolding b took
  stamped = record {
    seconds = ap (λ o. (stamp_of o (pictures session).sequence).seconds) took.1 ∙ (picture.seconds ∙ ap (λ k. seconds_of k) (sym time));
    micros = ap (λ o. (stamp_of o (pictures session).sequence).micros) took.1 ∙ (picture.micros ∙ ap (λ k. micros_of k) (sym time));
  }

  f : Framed s done.good
  f = framed s done.good h.reached h.next.possible

  gives : GivesBuffer session.id (frame_by done.good s) (picture_queue s.model) (head (target s)) (dst_event session r done)
  gives = dst_gives frames session s r job done h f taken stamped

  -- the message of the buffer that was read
  src : Unsent
  src = returned session r done.good b b.bytesused done.job.src

  there : IsThere AsQueued (queue_of s BUF_TYPE_OUTPUT) (head (queue_of s BUF_TYPE_OUTPUT))
  there = first_there s BUF_TYPE_OUTPUT h.reached h.next.possible (ap (λ m. has_type m BUF_TYPE_OUTPUT) is)

  apart : place_in (types_of s.model) BUF_TYPE_OUTPUT ≢ place_in (types_of s.model) (picture_queue s.model)
  apart same =
      let first : place_in (types_of s.model) BUF_TYPE_OUTPUT ≡ 0 = ap (λ m. place_in (types_of m) BUF_TYPE_OUTPUT) is in
      let second : place_in (types_of s.model) (picture_queue s.model) ≡ 1 = ap (λ m. place_in (types_of m) (picture_queue m)) is in
      absurd (omega (arith, same, first, second))

  src_gives : GivesBuffer session.id (frame_by done.good s) BUF_TYPE_OUTPUT (head (queue_of s BUF_TYPE_OUTPUT)) src
  unfolding src
  src_gives =
      let t : LocalState = frame_by done.good s in
      let u : ℕ = BUF_TYPE_OUTPUT in
      let i : ℕ = head (queue_of s u) in
      let k : ℕ = (head_buffer (queue_of s u)).used in
      let queue : queue_of t u ≡ frame_queue done.good (next_timestamp s) k (queue_of s u) = f.after.other u (ap (λ m. has_type m u) is) apart in
      let bytes : bytes_of t (memory_at s u i) ≡ bytes_of s (memory_at s u i) =
      f.after.bytes (memory_at s u i) (apart_queue s u i h.reached h.next.possible (ap is_idle there.1) apart) in
      let number : memory_at t u i ≡ memory_at s u i = ap (λ o. unwrap_or o 0) (numbers_after s t u k done.good queue i) in
      let old : IsHeadIf s (Some u) job.src = subst (λ m. IsHeadIf s (source_queue m) job.src) is h.next.src in
      let held : IsHeldAt t u i done.job.src = held_after s t u done.job.src number bytes f.device (subst (λ o. IsHeadIf s (Some u) o) (sym h.back.src) old) in
      returned_gives frames session s t u k b.bytesused done.good b r done.job.src (h.stands.model ∙ sym f.after.model) (h.stands.each u) read queue there
      picture.used stamped held

  events : events_of session r done ≡ src ∷ dst_event session r done ∷ []
  unfolding src b took
  events =
      let told : Unsent = record { msg = Happened session.id (frame_event (pictures session).sequence (frame_time (pictures session).sequence)); held = None } in
      ap (λ m. (if has_events m && done.good then told ∷ [] else []) ++ (src_events session r done ++ dst_event session r done ∷ [])) its
      ∙ ap (λ o. option_to_list (option_map (λ (x : BufferRec). returned session r done.good x x.bytesused done.job.src) o) ++ dst_event session r done ∷ []) took.1

  first : OwedEntry
  first = record { queue = BUF_TYPE_OUTPUT; item = OwedBuffer (head (queue_of s BUF_TYPE_OUTPUT)) }

  second : OwedEntry
  second = record { queue = picture_queue s.model; item = OwedBuffer (head (target s)) }

  both : buffers_taken s ≡ first ∷ second ∷ []
  unfolding first second
  both = ap (λ m. map (buffer_taken s) (types_of m)) is
      ∙ ap (λ m. first ∷ record { queue = picture_queue m; item = OwedBuffer (head (queue_of s (picture_queue m))) } ∷ []) (sym is)

  owed : (good : Bool) → owed_by good s ≡ first ∷ second ∷ []
  owed true = ap (λ m. (if has_events m then record { queue = picture_queue s.model; item = Sync (target s).next_sequence } ∷ [] else []) ++ buffers_taken s) is ∙ both
  owed false = both

  left : (frame_by done.good s).owed ≡ first ∷ second ∷ []
  left = f.after.owed ∙ (ap (λ xs. xs ++ owed_by done.good s) h.owed ∙ owed done.good)

  -- the frame's step comes before the first message
  made : made_by s.model src.msg ≡ step_by done.good ∷ []
  unfolding src b took
  made =
      let rec : BufferRec = dequeued_buffer session.model b (note_of session r done.good b b.bytesused) in
      let mark : is_marked s.model rec ≡ not done.good = subst (λ m. is_marked m rec ≡ not done.good) h.stands.model (marked_is session.model b (note_of session r done.good b b.bytesused) done.good refl) in
      made_first s.model session.id BUF_TYPE_OUTPUT rec done.good (ap source_queue is) (kind_is session.model b (note_of session r done.good b b.bytesused) ∙ took.2) refl mark

  -- and none before the second
  none : made_by (frame_by done.good s).model (dst_event session r done).msg ≡ []
  none =
      let n : ℕ = if done.good then picture_size (pictures session).format else 0 in
      let rec : BufferRec = dequeued_buffer session.model r.dst (note_of session r done.good r.dst n) in
      let kind : rec.kind ≡ BUF_TYPE_CAPTURE = kind_is session.model r.dst (note_of session r done.good r.dst n) ∙ took.3 in
      made_second (frame_by done.good s).model session.id BUF_TYPE_OUTPUT rec (ap source_queue (f.after.model ∙ is)) (ap (λ k. k == BUF_TYPE_OUTPUT) kind)

  pub converter_ends : Ends frames session s r done
  unfolding first second
  converter_ends =
      let t : LocalState = frame_by done.good s in
      let step : replay_from s (made_by s.model src.msg) ≡ Some t = ap (λ es. replay_from s es) made ∙ f.step in
      ends_by frames session s r job done h f (subst (λ xs. Given session.id s t xs) (sym events)
      (give_frame session.id s t first (second ∷ []) src (dst_event session r done ∷ []) f.reached step left src_gives (none, gives, tt)))
