-- A job of a camera that came back.
use Rattle.std.proofs.Common.{◌≡◌, ℕ, ◌*◌, ◌/◌, ◌%◌, ◌&&◌, Bool, true, false, not, List, [], ◌∷◌, ◌++◌, map, Some, None, refl, sym, ap, ◌∙◌, subst, if◌then◌else◌}
use Rattle.std.specs.Option.{option_map, option_to_list}
use Rattle.v4l_const.specs.declared.model.Model.{Model}
use Rattle.v4l_const.specs.declared.model.Model.TheVariants.{Capture}
use Rattle.v4l_const.specs.declared.numbers.TheConstants.{BUF_TYPE_CAPTURE}
use Rattle.v4l_const.specs.Model.{queues as types_of, source_queue, picture_queue, has_events}
use Rattle.v4l_format.specs.Fmt.{picture_size}
use Rattle.v4l_layout.specs.declared.buffer_rec.BufferRec.{BufferRec}
use Rattle.vm_job.specs.Job.{JobParts, DoneParts}
use Rattle.vm_wire.specs.Buffers.{frame_event, dequeued_buffer}
use Rattle.vm_wire.specs.declared.event.EventMsg.TheVariants.{Happened}
use Rattle.vm_local.specs.declared.entry.Entry.TheVariants.{Bad}
use Rattle.vm_local.specs.declared.owed.Owed.{Owed as OwedEntry}
use Rattle.vm_local.specs.declared.owed.OwedItem.TheVariants.{Buffer as OwedBuffer, Sync}
use Rattle.vm_local.specs.State.{LocalState, queue_of}
use Rattle.vm_local.specs.Steps.{head, target, timestamp_from, next_timestamp, buffer_taken}
use Rattle.vm_session.specs.declared.running.Running.{Running}
use Rattle.vm_session.specs.declared.unsent.Unsent.{Unsent}
use Rattle.vm_session.specs.State.{SessionState, pictures}
use Rattle.vm_session.specs.Sound.{taken_by}
use Rattle.vm_session.specs.Streaming.{frame_time, returned, src_events, dst_event, events_of, stamp_of, note_of}
use Rattle.vm_stands.specs.Stands.{of_type}
use Rattle.vm_local.specs.Log.{replay_from}
use Rattle.vm_exchange.specs.Messages.{is_marked, made_by}
use Rattle.vm_stands.specs.Flight.{GivesBuffer, GivesEvent}
use Rattle.vm_stands.proofs.LeadLemmas.{Given, give_frame}
use Rattle.vm_stands.proofs.NextLemmas.{sequence_is}
use Rattle.vm_stands.proofs.TookLemmas.{OneEach, took_one, one_here, IsTaken, taken_is}
use Rattle.vm_stands.proofs.ReturnLemmas.{IsStamped, marked_is, step_by, made_alone}
use Rattle.vm_stands.proofs.FinishedLemmas.{frame_by, owed_by, Framed, framed, Finishing, Ends, took_each, ends_by, dst_gives}

module _ (frames : List ℕ) (session : SessionState) (s : LocalState) (r : Running) (job : JobParts) (done : DoneParts)
    (h : Finishing frames session s r job done) (is : s.model ≡ Capture) where
  its : session.model ≡ Capture
  its = h.stands.model ∙ is

  took : (r.src ≡ None) × (r.dst.kind ≡ BUF_TYPE_CAPTURE)
  took = took_one r (subst (λ m. OneEach m (taken_by (Some r))) is (took_each frames session s r job done h))

  taken : IsTaken session s (picture_queue s.model) r.dst
  taken =
      let these : taken_by (Some r) ≡ r.dst ∷ [] = ap (λ o. option_to_list o ++ r.dst ∷ []) took.0 in
      let one : of_type BUF_TYPE_CAPTURE (taken_by (Some r)) ≡ r.dst ∷ [] =
      one_here BUF_TYPE_CAPTURE BUF_TYPE_CAPTURE r.dst (taken_by (Some r)) these took.1 refl in
      subst (λ m. IsTaken session s (picture_queue m) r.dst) (sym is)
      (taken_is frames session s BUF_TYPE_CAPTURE r.dst h.reached (h.stands.each BUF_TYPE_CAPTURE)
      (ap (λ o. of_type BUF_TYPE_CAPTURE (taken_by o)) h.running ∙ one))

  time : next_timestamp s ≡ (target s).next_sequence * 40000
  time = ap (λ m. timestamp_from (source_queue m) s) is

  stamped : IsStamped session s r
  stamped =
      let n : (pictures session).sequence ≡ (target s).next_sequence = sequence_is frames session s h.stands in
      record {
        seconds = ap (λ o. (stamp_of o (pictures session).sequence).seconds) took.0
            ∙ (ap (λ k. (k * 40000) / 1000000) n ∙ ap (λ k. k / 1000000) (sym time));
        micros = ap (λ o. (stamp_of o (pictures session).sequence).micros) took.0
            ∙ (ap (λ k. (k * 40000) % 1000000) n ∙ ap (λ k. k % 1000000) (sym time));
      }

  f : Framed s done.good
  f = framed s done.good h.reached h.next.possible

  gives : GivesBuffer session.id (frame_by done.good s) (picture_queue s.model) (head (target s)) (dst_event session r done)
  gives = dst_gives frames session s r job done h f taken stamped

  -- the message that tells of the frame
  told : Unsent
  told = record { msg = Happened session.id (frame_event (pictures session).sequence (frame_time (pictures session).sequence)); held = None }

  events : events_of session r done ≡ (if done.good then told ∷ [] else []) ++ dst_event session r done ∷ []
  unfolding told
  events =
      ap (λ m. (if has_events m && done.good then told ∷ [] else []) ++ (src_events session r done ++ dst_event session r done ∷ [])) its
      ∙ ap (λ o. (if done.good then told ∷ [] else []) ++ (option_to_list (option_map (λ (b : BufferRec). returned session r done.good b b.bytesused done.job.src) o) ++ dst_event session r done ∷ [])) took.0

  buffer : OwedEntry
  buffer = record { queue = picture_queue s.model; item = OwedBuffer (head (target s)) }

  sync : OwedEntry
  sync = record { queue = picture_queue s.model; item = Sync (target s).next_sequence }

  owed : (good : Bool) → owed_by good s ≡ (if good then sync ∷ [] else []) ++ buffer ∷ []
  unfolding buffer sync
  owed true = ap (λ m. (if has_events m then sync ∷ [] else []) ++ map (buffer_taken s) (types_of m)) is
      ∙ ap (λ m. sync ∷ record { queue = picture_queue m; item = OwedBuffer (head (queue_of s (picture_queue m))) } ∷ []) (sym is)
  owed false = ap (λ m. map (buffer_taken s) (types_of m)) is
      ∙ ap (λ m. record { queue = picture_queue m; item = OwedBuffer (head (queue_of s (picture_queue m))) } ∷ []) (sym is)

  left : (good : Bool) → done.good ≡ good → (frame_by done.good s).owed ≡ (if good then sync ∷ [] else []) ++ buffer ∷ []
  left good same =
      f.after.owed ∙ (ap (λ xs. xs ++ owed_by done.good s) h.owed ∙ (ap (λ g. owed_by g s) same ∙ owed good))

  -- no step comes before the buffer's message but that of a frame that failed
  alone : (m : Model) → m ≡ Capture → (good : Bool) → done.good ≡ good → made_by m (dst_event session r done).msg ≡ (if good then [] else Bad ∷ [])
  alone m here good same =
      let n : ℕ = if done.good then picture_size (pictures session).format else 0 in
      let mark : _ = marked_is session.model r.dst (note_of session r done.good r.dst n) done.good refl in
      let marked : _ = subst (λ k. is_marked k (dequeued_buffer session.model r.dst (note_of session r done.good r.dst n)) ≡ not done.good) (its ∙ sym here) mark in
      made_alone m session.id (dequeued_buffer session.model r.dst (note_of session r done.good r.dst n)) done.good (ap source_queue here) marked
      ∙ ap (λ g. if g then [] else Bad ∷ []) same

  tells : GivesEvent session.id (target s).next_sequence told
  unfolding told
  tells = record {
    msg = ap (λ n. Happened session.id (frame_event n (frame_time n))) (sequence_is frames session s h.stands);
    held = refl;
  }

  by_good : (good : Bool) → done.good ≡ good → Given session.id s (frame_by done.good s) (events_of session r done)
  unfolding buffer sync told
  by_good true same =
      let t : LocalState = frame_by done.good s in
      let es : events_of session r done ≡ told ∷ dst_event session r done ∷ [] = events ∙ ap (λ g. (if g then told ∷ [] else []) ++ dst_event session r done ∷ []) same in
      let step : replay_from s (made_by s.model told.msg) ≡ Some t = ap (λ g. replay_from s (step_by g ∷ [])) (sym same) ∙ f.step in
      let none : made_by t.model (dst_event session r done).msg ≡ [] = alone t.model (f.after.model ∙ is) true same in
      subst (λ xs. Given session.id s t xs) (sym es)
      (give_frame session.id s t sync (buffer ∷ []) told (dst_event session r done ∷ []) f.reached step (left true same) tells (none, gives, tt))
  by_good false same =
      let t : LocalState = frame_by done.good s in
      let es : events_of session r done ≡ dst_event session r done ∷ [] = events ∙ ap (λ g. (if g then told ∷ [] else []) ++ dst_event session r done ∷ []) same in
      let step : replay_from s (made_by s.model (dst_event session r done).msg) ≡ Some t =
      ap (λ xs. replay_from s xs) (alone s.model is false same) ∙ (ap (λ g. replay_from s (step_by g ∷ [])) (sym same) ∙ f.step) in
      subst (λ xs. Given session.id s t xs) (sym es)
      (give_frame session.id s t buffer [] (dst_event session r done) [] f.reached step (left false same) gives tt)

  pub camera_ends : Ends frames session s r done
  camera_ends = ends_by frames session s r job done h f (by_good done.good refl)
