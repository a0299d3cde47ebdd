-- A queue that is stopped, and a session that is closed.
use Rattle.std.proofs.Common.{◌≡◌, ◌+◌, ℕ, ◌<◌, ◌&&◌, Bool, true, not, List, [], ◌∷◌, length, get_or, map, None, refl, sym, ap, ◌∙◌, subst, arith, slice_get, get_or-set_same, length-set}
use Rattle.std.specs.List.{list_any, flat_map}
use Rattle.std.proofs.lemmas.Bool.{not-false, ltb-true}
use Rattle.std.proofs.lemmas.List.{length-map, append-nil}
use Rattle.std.proofs.Math.ListN.{get_or-map}
use Rattle.v4l_const.specs.declared.errno.Errno.TheVariants.{Ebadf}
use Rattle.v4l_const.specs.Model.{queues as types_of}
use Rattle.v4l_rules.specs.Queues.{place_in, has_type}
use Rattle.v4l_rules.specs.Refusals.{first_refusal, no_type}
use Rattle.vm_frame.specs.declared.mem.Held.{Held}
use Rattle.vm_queue.specs.Buffers.{memories}
use Rattle.vm_local.specs.declared.buffer.Buffer.{Buffer}
use Rattle.vm_local.specs.declared.call.Call.TheVariants.{CloseHandle, StreamOff}
use Rattle.vm_local.specs.State.{QueueState, LocalState, opening_queue, queue_of, no_buffer, buffer_of}
use Rattle.vm_local.specs.Memory.{is_just}
use Rattle.vm_local.specs.Queue.{is_empty, is_user_ptr, made_idle, stopped_queue, stopped}
use Rattle.vm_local.specs.Calls.{closed, streamoff_row}
use Rattle.vm_local.specs.Live.{is_of_device}
use Rattle.vm_local.proofs.StepLemmas.{passes}
use Rattle.vm_commute.proofs.PlaceLemmas.{any_map}
use Rattle.vm_commute.proofs.ReachedLemmas.{many_queues}
use Rattle.vm_home.specs.Moves.{queued_on, AreMemories, ComeBack}
use Rattle.vm_home.specs.Reached.{IsReached}
use Rattle.vm_home.proofs.RowLemmas.{type_at}
use Rattle.vm_exchange.specs.Exchange.{memory_number}
use Rattle.vm_session.specs.State.{SessionQueue, SessionState, opening_queue as session_opening, queue_of as session_queue, with_queue as session_with_queue, is_quiet}
use Rattle.vm_session.specs.Buffers.{stopped_queue as session_stopped, queued_memories}
use Rattle.vm_session.specs.Rows as S
use Rattle.vm_session.specs.Sound.{IsSound}
use Rattle.vm_stands.specs.Stands.{StandsOn, Stands}
use Rattle.vm_stands.specs.Laws.{IsServedAtRest, IsRefusedAlike}
use Rattle.vm_stands.proofs.AlikeLemmas.{empty_map}
use Rattle.vm_stands.proofs.AnswerLemmas.{IsAlike, by_row, by_refusals, no_frames}
use Rattle.vm_stands.proofs.FormatLemmas.{lists_same}
use Rattle.vm_stands.proofs.QBufLemmas.{any_set}
use Rattle.vm_stands.proofs.StopLemmas.{Quiet, quiet_is, none_out, emptied_on, put_each, are_append, back_from, none_owed}

-- ---- one queue is stopped

idle_lengths : (bs : List Buffer) → map (λ (b : Buffer). b.length) (map made_idle bs) ≡ map (λ (b : Buffer). b.length) bs
idle_lengths [] = refl
idle_lengths (b ∷ bs) = ap (λ xs. b.length ∷ xs) (idle_lengths bs)

stopped_device : (s : LocalState) (t m : ℕ) → is_of_device (stopped s t) m ≡ is_of_device s m
stopped_device s t m =
    let test : Buffer → Bool = λ b. is_just b.memory m in
    let at : QueueState → Bool = λ q. not (is_user_ptr q.memory) && list_any test q.buffers in
    let q : QueueState = queue_of s t in
    any_set at opening_queue s.queues (place_in (types_of s.model) t) (stopped_queue q)
    (ap (λ b. not (is_user_ptr q.memory) && b) (any_map made_idle test test q.buffers (λ b. refl)))

off_on : (frames : List ℕ) (session : SessionState) (s : LocalState) (t : ℕ) → Stands frames session s → IsSound session → Quiet session →
    place_in (types_of s.model) t < length s.queues → StandsOn frames (session_with_queue session t (session_stopped (session_queue session t))) (stopped s t) t
off_on frames session s t stands sound quiet within =
    let v : SessionQueue = session_stopped (session_queue session t) in
    let q : QueueState = queue_of s t in
    let w : QueueState = stopped_queue q in
    let x : SessionState = session_with_queue session t v in
    let y : LocalState = stopped s t in
    let on : StandsOn frames session s t = stands.each t in
    let first : place_in (types_of session.model) t ≡ place_in (types_of s.model) t = ap (λ m. place_in (types_of m) t) stands.model in
    let there : session_queue x t ≡ v =
    get_or-set_same session.queues (place_in (types_of session.model) t) v session_opening (omega (arith, within, first, stands.count)) in
    let here : queue_of y t ≡ w = get_or-set_same s.queues (place_in (types_of s.model) t) w opening_queue within in
    emptied_on frames x y t quiet.idle (ap (λ (c : SessionQueue). c.queued) there)
    (ap (λ (c : SessionQueue). c.out) there ∙ none_out session t sound quiet)
    (ap (λ (c : QueueState). c.queued) here)
    (ap (λ (c : SessionQueue). c.format) there ∙ (on.format ∙ ap (λ (c : QueueState). c.format) (sym here)))
    (λ some. ap (λ (c : SessionQueue). c.kind) there
    ∙ (on.kind (sym (empty_map made_idle q.buffers) ∙ (ap (λ (c : QueueState). is_empty c.buffers) (sym here) ∙ some))
    ∙ ap (λ (c : QueueState). memory_number c.memory) (sym here)))
    (ap (λ (c : SessionQueue). c.lengths) there
    ∙ (on.lengths ∙ (sym (idle_lengths q.buffers) ∙ ap (λ (c : QueueState). map (λ (b : Buffer). b.length) c.buffers) (sym here))))
    (ap (λ (c : SessionQueue). c.streaming) there ∙ ap (λ (c : QueueState). c.streaming) (sym here))
    (ap (λ (c : SessionQueue). c.sequence) there ∙ (on.sequence ∙ ap (λ (c : QueueState). c.next_sequence) (sym here)))
    (λ bare i inside.
    let long : i < length q.buffers = omega (arith, inside, ap (λ (c : QueueState). length c.buffers) here, length-map q.buffers made_idle) in
    ap (λ (c : QueueState). (buffer_of c i).memory) here
    ∙ (ap (λ (b : Buffer). b.memory) (get_or-map made_idle q.buffers i no_buffer)
    ∙ (on.numbered (ap (λ (c : QueueState). is_user_ptr c.memory) (sym here) ∙ bare) i long
    ∙ ap (λ (c : SessionQueue). slice_get frames (c.first_frame + i)) (sym there))))

off_stands : (frames : List ℕ) (session : SessionState) (s : LocalState) (t : ℕ) → Stands frames session s → IsSound session → IsReached s → Quiet session →
    has_type s.model t ≡ true → Stands frames (session_with_queue session t (session_stopped (session_queue session t))) (stopped s t)
off_stands frames session s t stands sound reached quiet has =
    let v : SessionQueue = session_stopped (session_queue session t) in
    let w : QueueState = stopped_queue (queue_of s t) in
    let within : place_in (types_of s.model) t < length s.queues =
    omega (arith, ltb-true (place_in (types_of s.model) t) (length (types_of s.model)) has, many_queues s reached) in
    record {
      opened = stands.opened;
      model = stands.model;
      input = stands.input;
      count = length-set session.queues (place_in (types_of session.model) t) v ∙ (stands.count ∙ sym (length-set s.queues (place_in (types_of s.model) t) w));
      made = stands.made;
      took = stands.took;
      each = put_each frames frames session (session_with_queue session t v) s (stopped s t) t v w stands reached has (record {
        model = refl;
        running = refl;
        there = λ u. refl;
        here = λ u. refl;
        bytes = λ m made. refl;
        device = λ m made is. sym (stopped_device s t m) ∙ is;
        more_frames = λ k m is. is;
      }) (off_on frames session s t stands sound quiet within);
    }

pub streamoff_refused : (t : ℕ) → IsRefusedAlike (StreamOff t) (λ session. S.streamoff_row session t)
unfolding streamoff_row S.streamoff_row
streamoff_refused t frames session line s e stands some =
    let m : s.model ≡ session.model = sym stands.model in
    by_refusals line s (StreamOff t) (streamoff_row s t) (S.streamoff_row session t) e (λ reply. refl)
    (λ j. first_refusal ((not (stands.opened j), Ebadf) ∷ no_type (m j) t ∷ [])) some

streamoff_alike : (frames : List ℕ) (session : SessionState) (s : LocalState) (t : ℕ) → Stands frames session s → IsSound session → IsReached s → Quiet session →
    s.owed ≡ [] → IsAlike frames session s (StreamOff t) (streamoff_row s t) (S.streamoff_row session t)
unfolding streamoff_row S.streamoff_row
streamoff_alike frames session s t stands sound reached quiet owed =
    let m : s.model ≡ session.model = sym stands.model in
    let back : List Held = memories (session_queue session t).queued in
    record {
      refusals = λ j. first_refusal ((not (stands.opened j), Ebadf) ∷ no_type (m j) t ∷ []);
      lacks = refl;
      waits = refl;
      told = refl;
      done = λ pass. record {
        payload = refl;
        back = record {
          settled = none_owed s (t ∷ []) owed;
          back = back;
          fresh = [];
          ordered = sym (append-nil back);
          queued = subst (λ ps. AreMemories s ps back) (sym (append-nil (queued_on s t))) (back_from frames session s t (stands.each t) quiet.idle);
          made = tt;
        };
        stands = no_frames frames (session_with_queue session t (session_stopped (session_queue session t))) (stopped s t)
            (off_stands frames session s t stands sound reached quiet (not-false _ (passes (streamoff_row s t).refusals pass 1)));
      };
    }

pub streamoff_served : (t : ℕ) → IsServedAtRest (StreamOff t) (λ session. S.streamoff_row session t)
streamoff_served t frames session line s memory stands sound reached quiet owed =
    by_row frames session line s (StreamOff t) (streamoff_row s t) (S.streamoff_row session t) memory (λ reply. refl)
    (streamoff_alike frames session s t stands sound reached (quiet_is session quiet) owed)

-- ---- a session is closed

queues_are : (session : SessionState) → IsSound session → session.queues ≡ map (λ t. session_queue session t) (types_of session.model)
queues_are session sound =
    let f : ℕ → SessionQueue = λ t. session_queue session t in
    let types : List ℕ = types_of session.model in
    lists_same session_opening (f 0) session.queues (map f types) (sound.queues ∙ sym (length-map types f))
    (λ k within. ap (λ p. get_or session.queues p session_opening) (sym (type_at session.model k (omega (arith, within, sound.queues)))) ∙ sym (get_or-map f types k 0))

all_back : (frames : List ℕ) (session : SessionState) (s : LocalState) (ts : List ℕ) → Stands frames session s → session.running ≡ None →
    AreMemories s (flat_map (queued_on s) ts) (queued_memories (map (λ t. session_queue session t) ts))
all_back frames session s [] stands idle = tt
all_back frames session s (t ∷ ts) stands idle =
    are_append s (queued_on s t) (flat_map (queued_on s) ts) (memories (session_queue session t).queued) (queued_memories (map (λ u. session_queue session u) ts))
    (back_from frames session s t (stands.each t) idle) (all_back frames session s ts stands idle)

pub closes : (frames : List ℕ) (session : SessionState) (s : LocalState) → Stands frames session s → IsSound session → IsReached s → is_quiet session ≡ true →
    s.owed ≡ [] → ComeBack s (closed s) CloseHandle (queued_memories session.queues)
closes frames session s stands sound reached quiet owed =
    let q : Quiet session = quiet_is session quiet in
    let those : queued_memories session.queues ≡ queued_memories (map (λ t. session_queue session t) (types_of s.model)) =
    ap (λ qs. queued_memories qs) (queues_are session sound) ∙ ap (λ m. queued_memories (map (λ t. session_queue session t) (types_of m))) stands.model in
    record {
      settled = none_owed s (types_of s.model) owed;
      back = queued_memories session.queues;
      fresh = [];
      ordered = sym (append-nil (queued_memories session.queues));
      queued = subst (λ hs. AreMemories s (flat_map (queued_on s) (types_of s.model)) hs) (sym those) (all_back frames session s (types_of s.model) stands q.idle);
      made = tt;
    }
