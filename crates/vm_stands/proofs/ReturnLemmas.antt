-- The messages by which buffers come back, and the state behind the frame that took them.
use Rattle.std.proofs.Common.{◌≡◌, ℕ, ◌+◌, ◌||◌, ◌==◌, Bool, true, false, not, List, [], ◌∷◌, ◌++◌, take, drop, Option, Some, None, refl, sym, ap, ◌∙◌, subst, if◌then◌else◌}
use Rattle.std.proofs.lemmas.List.{take-append-drop}
use Rattle.v4l_const.specs.BufFlags.{error_flag}
use Rattle.v4l_const.specs.declared.model.Model.{Model}
use Rattle.v4l_const.specs.declared.model.Model.TheVariants.{Capture, Convert}
use Rattle.v4l_const.specs.Model.{source_queue, picture_queue, timestamp_flag}
use Rattle.v4l_format.specs.Fmt.{picture_size}
use Rattle.v4l_layout.specs.declared.buffer_rec.BufferRec.{BufferRec}
use Rattle.vm_frame.specs.Mem.{MemRest, mem_bytes, mem_rest}
use Rattle.vm_frame.specs.Mem.MemRest.{Tagged, Scattered}
use Rattle.vm_frame.specs.declared.mem.Held.{Held}
use Rattle.vm_frame.specs.declared.mem.Mem.{Mem}
use Rattle.vm_frame.specs.declared.mem.Mem.TheVariants.{OfFrame, OfUser}
use Rattle.vm_job.specs.Job.{JobParts, DoneParts, HasPicture, SameBehind, CameBack, picture_of}
use Rattle.vm_wire.specs.Buffers.{blank_buffer, buffer_offset, dequeued_buffer}
use Rattle.vm_wire.specs.declared.buffers.PictureNote.{PictureNote}
use Rattle.vm_wire.specs.declared.event.EventMsg.TheVariants.{Dequeued}
use Rattle.vm_local.specs.declared.buffer.Buffer.{Buffer}
use Rattle.vm_local.specs.declared.buffer.BufferState.TheVariants.{Queued as AsQueued}
use Rattle.vm_local.specs.declared.entry.Entry.{Entry}
use Rattle.vm_local.specs.declared.entry.Entry.TheVariants.{Finish, Bad}
use Rattle.vm_local.specs.State.{QueueState, LocalState, queue_of, buffer_of}
use Rattle.vm_local.specs.Memory.{bytes_of}
use Rattle.vm_local.specs.Listed.{IsThere}
use Rattle.vm_local.specs.Live.{is_of_device}
use Rattle.vm_local.specs.Steps.{head, head_buffer, number_of, target, next_timestamp, next_picture}
use Rattle.vm_home.specs.Home.{is_frame, IsMemory}
use Rattle.vm_home.specs.Moves.{memory_at}
use Rattle.vm_exchange.specs.Exchange.{memory_number}
use Rattle.vm_session.specs.declared.running.Running.{Running}
use Rattle.vm_session.specs.State.{SessionState, pictures, queue_of as session_queue}
use Rattle.vm_session.specs.Streaming.{stamp_of, note_of as session_note, returned}
use Rattle.vm_stands.specs.Stands.{seconds_of, micros_of, IsMemoryAt, StandsOn, IsHead, IsNext}
use Rattle.vm_exchange.specs.Messages.{is_marked, is_first, frame_step, made_by}
use Rattle.vm_stands.specs.Flight.{note_of, IsHeldAt, GivesBuffer}
use Rattle.vm_stands.proofs.FrameLemmas.{frame_buffer, frame_queue, frame_head}
use Rattle.vm_stands.proofs.TookLemmas.{IsTaken}

-- ---- the record

-- the timestamp with which the messages of the running job tell of its frame
pub record IsStamped (session : SessionState) (s : LocalState) (r : Running) : Type 0 where
  pub seconds : (stamp_of r.src (pictures session).sequence).seconds ≡ seconds_of (next_timestamp s)
  pub micros : (stamp_of r.src (pictures session).sequence).micros ≡ micros_of (next_timestamp s)

unmarked_is : (bad good : Bool) → bad ≡ false → not good ≡ (bad || not good)
unmarked_is bad good is = ap (λ b. b || not good) (sym is)

pub returned_gives : (frames : List ℕ) (session : SessionState) (s t : LocalState) (u k used : ℕ) (good : Bool) (b : BufferRec) (r : Running) (held : Option Held) →
    session.model ≡ t.model → StandsOn frames session s u → IsTaken session s u b → queue_of t u ≡ frame_queue good (next_timestamp s) k (queue_of s u) →
    IsThere AsQueued (queue_of s u) (head (queue_of s u)) → used ≡ k → IsStamped session s r → IsHeldAt t u (head (queue_of s u)) held →
    GivesBuffer session.id t u (head (queue_of s u)) (returned session r good b used held)
unfolding dequeued_buffer
returned_gives frames session s t u k used good b r held model on took queue there same stamped is_held =
    let q : QueueState = queue_of s u in
    let i : ℕ = head q in
    let c : Buffer = buffer_of (queue_of t u) i in
    let v : Buffer = frame_buffer good (next_timestamp s) k q in
    let here : c ≡ v = ap (λ (x : QueueState). buffer_of x i) queue ∙ frame_head good (next_timestamp s) k q there.0 in
    let kind : b.kind ≡ u = took.is.kind in
    let memory : b.memory ≡ memory_number (queue_of t u).memory = took.is.memory ∙ ap (λ (x : QueueState). memory_number x.memory) (sym queue) in
    let size : b.length ≡ c.length = took.is.size ∙ (ap (λ j. (buffer_of q j).length) took.index ∙ ap (λ (x : Buffer). x.length) (sym here)) in
    let bad : (head_buffer q).is_bad ≡ false = ap (λ j. (buffer_of q j).is_bad) (sym took.index) ∙ took.is.unmarked in
    let bytes : used ≡ c.used = same ∙ ap (λ (x : Buffer). x.used) (sym here) in
    let seconds : _ = stamped.seconds ∙ ap (λ (x : Buffer). seconds_of x.timestamp) (sym here) in
    let micros : _ = stamped.micros ∙ ap (λ (x : Buffer). micros_of x.timestamp) (sym here) in
    let sequence : (session_queue session b.kind).sequence ≡ c.sequence =
    ap (λ w. (session_queue session w).sequence) kind ∙ (on.sequence ∙ ap (λ (x : Buffer). x.sequence) (sym here)) in
    let is_bad : not good ≡ c.is_bad = unmarked_is (head_buffer q).is_bad good bad ∙ ap (λ (x : Buffer). x.is_bad) (sym here) in
    let note : session_note session r good b used ≡ note_of c =
    λ j. record { bytesused = bytes j; seconds = seconds j; micros = micros j; sequence = sequence j; is_bad = is_bad j } in
    record {
      m = b.m;
      place = λ mmap. took.is.place (memory ∙ mmap) ∙ ap (λ j. buffer_offset u j) took.index;
      msg = λ j. Dequeued session.id (dequeued_buffer (model j) (record (blank_buffer (kind j) (took.index j)) {
        memory = memory j;
        m = b.m;
        length = size j;
      }) (note j));
      held = is_held;
    }

-- ---- the step before the message

mark_is : (m : Model) (good : Bool) → (timestamp_flag m + (if not good then error_flag else 0) == timestamp_flag m + error_flag) ≡ not good
mark_is Capture true = refl
mark_is Capture false = refl
mark_is Convert true = refl
mark_is Convert false = refl

pub marked_is : (m : Model) (b : BufferRec) (note : PictureNote) (good : Bool) → note.is_bad ≡ not good → is_marked m (dequeued_buffer m b note) ≡ not good
unfolding dequeued_buffer
marked_is m b note good is = ap (λ k. timestamp_flag m + (if k then error_flag else 0) == timestamp_flag m + error_flag) is ∙ mark_is m good

pub kind_is : (m : Model) (b : BufferRec) (note : PictureNote) → (dequeued_buffer m b note).kind ≡ b.kind
unfolding dequeued_buffer
kind_is m b note = refl

-- the step that a frame is
abbrev pub step_by : Bool → Entry
step_by good = if good then Finish else Bad

frame_step_is : (m : Model) (b : BufferRec) (good : Bool) → is_marked m b ≡ not good → frame_step m b ≡ step_by good
frame_step_is m b true is = ap (λ k. if k then Bad else Finish) is
frame_step_is m b false is = ap (λ k. if k then Bad else Finish) is

-- of a camera's frame the buffer's message is the first where the frame failed
pub made_alone : (m : Model) (id : ℕ) (b : BufferRec) (good : Bool) → source_queue m ≡ None → is_marked m b ≡ not good →
    made_by m (Dequeued id b) ≡ (if good then [] else Bad ∷ [])
made_alone m id b true none is = rw (none, is) refl
made_alone m id b false none is = rw (none, is) refl

-- of a converter's frame the message of the buffer that was read is
pub made_first : (m : Model) (id source : ℕ) (b : BufferRec) (good : Bool) → source_queue m ≡ Some source → b.kind ≡ source → (source == source) ≡ true →
    is_marked m b ≡ not good → made_by m (Dequeued id b) ≡ step_by good ∷ []
made_first m id source b good some kind same is =
    ap (λ o. if is_first o m b then frame_step m b ∷ [] else []) some
    ∙ (ap (λ k. if k == source then frame_step m b ∷ [] else []) kind
    ∙ (ap (λ k. if k then frame_step m b ∷ [] else []) same ∙ ap (λ e. e ∷ []) (frame_step_is m b good is)))

pub made_second : (m : Model) (id source : ℕ) (b : BufferRec) → source_queue m ≡ Some source → (b.kind == source) ≡ false → made_by m (Dequeued id b) ≡ []
made_second m id source b some other = rw (some, other) refl

-- ---- the memories

abbrev pub is_tagged : MemRest → Bool
is_tagged (Tagged tag) = true
is_tagged (Scattered places) = false

tagged_is : (mem : Mem) → is_tagged (mem_rest mem) ≡ is_frame mem
tagged_is (OfFrame frame) = refl
tagged_is (OfUser user) = refl

same_frame : (a b : Mem) → mem_rest a ≡ mem_rest b → is_frame a ≡ is_frame b
same_frame a b same = sym (tagged_is a) ∙ (ap is_tagged same ∙ tagged_is b)

-- the memory for the picture, with these bytes
pub dst_held : (s t : LocalState) (n : ℕ) (old new : Held) → IsHead s (picture_queue s.model) old → SameBehind n old new →
    mem_bytes new.mem ≡ bytes_of t (number_of (head_buffer (target s))) →
    memory_at t (picture_queue s.model) (head (target s)) ≡ number_of (head_buffer (target s)) →
    ((m : ℕ) → is_of_device t m ≡ is_of_device s m) → IsMemoryAt t (picture_queue s.model) (head (target s)) new
dst_held s t n old new is back bytes number device =
    let m : ℕ = number_of (head_buffer (target s)) in
    let P : ℕ → Type 0 = λ k. IsMemory t k new.mem in
    let here : IsMemory t m new.mem = record {
      bytes = bytes;
      frame = λ of_device. same_frame new.mem old.mem back.rest ∙ is.memory.frame (sym (device m) ∙ of_device);
    } in
    record { queue = back.queue ∙ is.queue; index = back.index ∙ is.index; memory = subst P (sym number) here }

-- the bytes of a picture that was made
pub picture_bytes : (s : LocalState) (job : JobParts) (done : DoneParts) → IsNext s job → CameBack job done → HasPicture done.job →
    mem_bytes done.job.dst.mem ≡ next_picture s ++ drop (picture_size (target s).format) (bytes_of s (number_of (head_buffer (target s))))
picture_bytes s job done next back has =
    let n : ℕ = picture_size job.spec.dst in
    let new : List ℕ = mem_bytes done.job.dst.mem in
    let front : take n new ≡ next_picture s =
    ap (λ spec. take (picture_size spec.dst) new) (sym back.spec)
    ∙ (has ∙ (ap (λ spec. picture_of spec done.job.src) back.spec ∙ (ap (λ src. picture_of job.spec src) back.src ∙ next.picture))) in
    let rest : drop n new ≡ drop (picture_size (target s).format) (bytes_of s (number_of (head_buffer (target s)))) =
    back.dst.behind ∙ (ap (λ k. drop k (mem_bytes job.dst.mem)) next.size ∙ ap (λ bytes. drop (picture_size (target s).format) bytes) next.dst.memory.bytes) in
    sym (take-append-drop n new) ∙ (ap (λ xs. xs ++ drop n new) front ∙ ap (λ xs. next_picture s ++ xs) rest)
