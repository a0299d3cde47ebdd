-- The call that makes buffers, in a quiet session.
use Rattle.std.proofs.Common.{◌≡◌, ◌⊎◌, inl, inr, ℕ, zero, suc, ◌+◌, ◌<◌, ◌==◌, ◌&&◌, ◌||◌, nat_lt, Bool, true, false, not, List, [], ◌∷◌, ◌++◌, length, get_or, map, replicate, Some, None, unwrap_or, refl, sym, ap, ◌∙◌, subst, arith, slice_get, get_or-set_same, length-set, length-append, if◌then◌else◌}
use Rattle.std.specs.List.{range_with_len}
use Rattle.std.proofs.lemmas.Bool.{true≢false, not-false, ltb-true, eqb-true, cases_Bool}
use Rattle.std.proofs.lemmas.List.{length-replicate, map_push, append-nil, get_or_append_left, get_or-append-add, get_or-replicate}
use Rattle.std.proofs.lemmas.List.FromFn.{length-range_with_len, get_or-range_with_len, length-map-range_with_len, get_or-map-range_with_len}
use Rattle.std.proofs.lemmas.Option.{slice_get_within, slice_get-get_or, get_or_from_slice_get}
use Rattle.v4l_const.specs.declared.errno.Errno.TheVariants.{Ebadf, Einval, Ebusy}
use Rattle.v4l_const.specs.declared.numbers.TheConstants.{MEMORY_MMAP, MEMORY_USERPTR}
use Rattle.v4l_const.specs.Model.{queues as types_of}
use Rattle.v4l_format.specs.Fmt.{picture_size}
use Rattle.v4l_layout.specs.Records.{request_bytes}
use Rattle.v4l_rules.specs.Queues.{place_in, has_type}
use Rattle.v4l_rules.specs.Refusals.{first_refusal, no_type}
use Rattle.vm_frame.specs.declared.mem.Held.{Held}
use Rattle.vm_queue.specs.Buffers.{memories}
use Rattle.vm_wire.specs.Buffers.{reqbufs_answer}
use Rattle.vm_wire.specs.declared.response.Response.TheVariants.{Answered}
use Rattle.vm_local.specs.declared.bound.MemoryKind.{MemoryKind}
use Rattle.vm_local.specs.declared.bound.MemoryKind.TheVariants.{Mmap, UserPtr}
use Rattle.vm_local.specs.declared.buffer.Buffer.{Buffer}
use Rattle.vm_local.specs.declared.call.Call.TheVariants.{ReqBufs}
use Rattle.vm_local.specs.State.{QueueState, LocalState, opening_queue, queue_of, no_buffer, buffer_of}
use Rattle.vm_local.specs.Memory.{bytes_of}
use Rattle.vm_local.specs.Queue.{is_user_ptr, stopped_queue, memory_kind, fresh_buffer, fresh_buffers, fresh_memories, granted, with_buffers}
use Rattle.vm_local.specs.Calls.{reqbufs_row}
use Rattle.vm_local.specs.Steps.{number_of}
use Rattle.vm_local.proofs.StepLemmas.{passes}
use Rattle.vm_commute.proofs.ReachedLemmas.{many_queues}
use Rattle.vm_home.specs.Home.{IsMemory}
use Rattle.vm_home.specs.Moves.{Place, places_on, queued_on, made_on, memory_at, AreMemories}
use Rattle.vm_home.specs.Reached.{IsReached}
use Rattle.vm_home.proofs.FactLemmas.{facts_of}
use Rattle.vm_home.proofs.ComeLemmas.{renewed, reqbufs_one}
use Rattle.vm_home.proofs.StopLemmas.{old_device, one_old}
use Rattle.vm_exchange.specs.Exchange.{memory_number}
use Rattle.vm_session.specs.State.{SessionQueue, SessionState, opening_queue as session_opening, queue_of as session_queue}
use Rattle.vm_session.specs.Buffers.{frame_tag, fresh_frame, fresh_frames, frame_count, fresh_memories as session_fresh, renewed_queue, with_buffers as session_with_buffers}
use Rattle.vm_session.specs.Rows as S
use Rattle.vm_session.specs.Sound.{IsSound}
use Rattle.vm_stands.specs.Stands.{StandsOn, Stands}
use Rattle.vm_stands.specs.Laws.{IsServedAtRest, IsRefusedAlike}
use Rattle.vm_stands.proofs.AnswerLemmas.{IsAlike, by_row, by_refusals}
use Rattle.vm_stands.proofs.StopLemmas.{Quiet, quiet_is, emptied_on, IsPut, put_each, are_append, back_from, none_owed}

-- ---- fresh buffers

fresh_lengths : (kind : MemoryKind) (size first n : ℕ) → map (λ (b : Buffer). b.length) (fresh_buffers kind size first n) ≡ replicate n size
fresh_lengths Mmap size first zero = refl
fresh_lengths Mmap size first (suc n) = ap (λ xs. size ∷ xs) (fresh_lengths Mmap size (first + 1) n)
fresh_lengths UserPtr size first zero = refl
fresh_lengths UserPtr size first (suc n) = ap (λ xs. size ∷ xs) (fresh_lengths UserPtr size first n)

fresh_number : (size first n i : ℕ) → i < n → (get_or (fresh_buffers Mmap size first n) i no_buffer).memory ≡ Some (first + i)
fresh_number size first n i within =
    ap (λ (b : Buffer). b.memory) (get_or-map-range_with_len (λ m. fresh_buffer size (Some m)) first n i (first + i) no_buffer within refl)

pub fresh_many : (kind : MemoryKind) (size first n : ℕ) → length (fresh_buffers kind size first n) ≡ n
fresh_many Mmap size first n = length-map-range_with_len (λ m. fresh_buffer size (Some m)) first n
fresh_many UserPtr size first n = length-replicate n (fresh_buffer size None)

-- ---- fresh frames

range_push : (a n : ℕ) → range_with_len a (suc n) ≡ range_with_len a n ++ (a + n) ∷ []
range_push a zero = ap (λ k. k ∷ []) (omega arith)
range_push a (suc n) =
    let rest : range_with_len (a + 1) (suc n) ≡ range_with_len (a + 1) n ++ (a + 1 + n) ∷ [] = range_push (a + 1) n in
    ap (λ xs. a ∷ xs) rest ∙ ap (λ k. a ∷ (range_with_len (a + 1) n ++ k ∷ [])) (omega arith)

places_push : (t n : ℕ) → places_on t (range_with_len 0 (suc n)) ≡ places_on t (range_with_len 0 n) ++ record { queue = t; index = n } ∷ []
places_push t n =
    let f : ℕ → Place = λ i. record { queue = t; index = i } in
    ap (λ xs. map f xs) (range_push 0 n) ∙ (map_push f (range_with_len 0 n) (0 + n) ∙ ap (λ k. map f (range_with_len 0 n) ++ f k ∷ []) (omega arith))

-- zeroed frames are the memories of buffers that are zeroed
frames_are : (y : LocalState) (t first size n : ℕ) → ((i : ℕ) → i < n → bytes_of y (memory_at y t i) ≡ replicate size 0) →
    AreMemories y (places_on t (range_with_len 0 n)) (fresh_frames t first size n)
frames_are y t first size zero zeros = tt
frames_are y t first size (suc n) zeros =
    let rest : AreMemories y (places_on t (range_with_len 0 n)) (fresh_frames t first size n) = frames_are y t first size n (λ i within. zeros i (omega (arith, within))) in
    let one : IsMemory y (memory_at y t n) (fresh_frame t n (first + n) size).mem = record { bytes = sym (zeros n (omega arith)); frame = λ device. refl } in
    let last : AreMemories y (record { queue = t; index = n } ∷ []) (fresh_frame t n (first + n) size ∷ []) = (refl, refl, one, tt) in
    subst (λ ps. AreMemories y ps (fresh_frames t first size (suc n))) (sym (places_push t n))
    (are_append y (places_on t (range_with_len 0 n)) (record { queue = t; index = n } ∷ []) (fresh_frames t first size n) (fresh_frame t n (first + n) size ∷ []) rest last)

-- ---- kinds

abbrev pub IsKind : ℕ → Type 0
IsKind m = (m == MEMORY_MMAP || m == MEMORY_USERPTR) ≡ true

kind_cases : (m : ℕ) → IsKind m → ((memory_kind m ≡ Mmap) × (m ≡ MEMORY_MMAP)) ⊎ ((memory_kind m ≡ UserPtr) × (m ≡ MEMORY_USERPTR))
kind_cases m is = elim (cases_Bool (m == MEMORY_USERPTR)) as (λ _. ((memory_kind m ≡ Mmap) × (m ≡ MEMORY_MMAP)) ⊎ ((memory_kind m ≡ UserPtr) × (m ≡ MEMORY_USERPTR))) [
  | inl user ↦ inr (ap (λ b. if b then UserPtr else Mmap) user, eqb-true m MEMORY_USERPTR user)
  | inr not ↦ inl (ap (λ b. if b then UserPtr else Mmap) not, eqb-true m MEMORY_MMAP (sym (ap (λ b. m == MEMORY_MMAP || b) not ∙ or_bare (m == MEMORY_MMAP)) ∙ is))
]
  where
    or_bare : (a : Bool) → (a || false) ≡ a
    or_bare true = refl
    or_bare false = refl

kind_number : (m : ℕ) → IsKind m → memory_number (memory_kind m) ≡ m
kind_number m is = elim (kind_cases m is) as (λ _. memory_number (memory_kind m) ≡ m) [
  | inl mmap ↦ ap (λ k. memory_number k) mmap.0 ∙ sym mmap.1
  | inr user ↦ ap (λ k. memory_number k) user.0 ∙ sym user.1
]

more_get : (frames more : List ℕ) (k m : ℕ) → slice_get frames k ≡ Some m → slice_get (frames ++ more) k ≡ Some m
more_get frames more k m is =
    let within : k < length frames = slice_get_within frames k m is in
    slice_get-get_or (frames ++ more) k 0 (omega (arith, within, length-append frames more))
    ∙ ap (λ n. Some n) (get_or_append_left frames more 0 k within ∙ get_or_from_slice_get frames k m 0 is)

new_get : (frames : List ℕ) (first n i : ℕ) → i < n → slice_get (frames ++ range_with_len first n) (length frames + i) ≡ Some (first + i)
new_get frames first n i within =
    let more : List ℕ = range_with_len first n in
    slice_get-get_or (frames ++ more) (length frames + i) 0 (omega (arith, within, length-append frames more, length-range_with_len first n))
    ∙ ap (λ k. Some k) (get_or-append-add frames more i 0 ∙ get_or-range_with_len first n i 0 within)

-- ---- the session after it

module _ (frames : List ℕ) (session : SessionState) (s : LocalState) (t m n : ℕ) (stands : Stands frames session s) (sound : IsSound session)
    (reached : IsReached s) (quiet : Quiet session) (has : has_type s.model t ≡ true) (kinds : IsKind m) where
  abbrev kind : MemoryKind
  kind = memory_kind m

  abbrev many : ℕ
  many = granted n

  abbrev first : ℕ
  first = length s.memories

  abbrev size : ℕ
  size = picture_size (queue_of s t).format

  abbrev served : SessionQueue
  served = renewed_queue (session_queue session t) m many session.made

  abbrev queue : QueueState
  queue = record (stopped_queue (queue_of s t)) { memory = kind; buffers = fresh_buffers kind size first many }

  abbrev x : SessionState
  x = session_with_buffers session t m many

  abbrev y : LocalState
  y = with_buffers s t kind many

  abbrev more : List ℕ
  more = if is_user_ptr kind then [] else range_with_len first many

  within : place_in (types_of s.model) t < length s.queues
  within = omega (arith, ltb-true (place_in (types_of s.model) t) (length (types_of s.model)) has, many_queues s reached)

  here : queue_of y t ≡ queue
  unfolding with_buffers
  here = get_or-set_same s.queues (place_in (types_of s.model) t) queue opening_queue within

  there : session_queue x t ≡ served
  there =
      let same : place_in (types_of session.model) t ≡ place_in (types_of s.model) t = ap (λ m. place_in (types_of m) t) stands.model in
      get_or-set_same session.queues (place_in (types_of session.model) t) served session_opening (omega (arith, within, same, stands.count))

  new_on : StandsOn (frames ++ more) x y t
  new_on =
      let on : StandsOn frames session s t = stands.each t in
      emptied_on (frames ++ more) x y t quiet.idle (ap (λ (c : SessionQueue). c.queued) there) (ap (λ (c : SessionQueue). c.out) there)
      (ap (λ (c : QueueState). c.queued) here)
      (ap (λ (c : SessionQueue). c.format) there ∙ (on.format ∙ ap (λ (c : QueueState). c.format) (sym here)))
      (λ some. ap (λ (c : SessionQueue). c.kind) there ∙ (sym (kind_number m kinds) ∙ ap (λ (c : QueueState). memory_number c.memory) (sym here)))
      (ap (λ (c : SessionQueue). c.lengths) there
      ∙ (ap (λ f. replicate many (picture_size f)) on.format
      ∙ (sym (fresh_lengths kind size first many) ∙ ap (λ (c : QueueState). map (λ (b : Buffer). b.length) c.buffers) (sym here))))
      (ap (λ (c : SessionQueue). c.streaming) there ∙ ap (λ (c : QueueState). c.streaming) (sym here))
      (ap (λ (c : SessionQueue). c.sequence) there ∙ (on.sequence ∙ ap (λ (c : QueueState). c.next_sequence) (sym here)))
      (λ bare i inside.
      let mmap : is_user_ptr kind ≡ false = ap (λ (c : QueueState). is_user_ptr c.memory) (sym here) ∙ bare in
      let long : i < many = omega (arith, inside, ap (λ (c : QueueState). length c.buffers) here, fresh_many kind size first many) in
      ap (λ (c : QueueState). (buffer_of c i).memory) here
      ∙ (by_kind kind mmap i long ∙ ap (λ (c : SessionQueue). slice_get (frames ++ more) (c.first_frame + i)) (sym there)))
    where
      by_kind : (k : MemoryKind) → is_user_ptr k ≡ false → (i : ℕ) → i < many → (get_or (fresh_buffers k size first many) i no_buffer).memory
          ≡ slice_get (frames ++ (if is_user_ptr k then [] else range_with_len first many)) (session.made + i)
      by_kind Mmap is i long =
          fresh_number size first many i long ∙ (sym (new_get frames first many i long) ∙ ap (λ n. slice_get (frames ++ range_with_len first many) (n + i)) stands.made)
      by_kind UserPtr is i long = absurd (true≢false is)

  pub renewed_stands : Stands (frames ++ more) x y
  unfolding with_buffers
  renewed_stands =
      let put : IsPut frames (frames ++ more) session x s y t served queue = record {
        model = refl;
        running = refl;
        there = λ u. refl;
        here = λ u. refl;
        bytes = λ k made. get_or_append_left s.memories (fresh_memories kind size many) [] k made;
        device = λ k made is. old_device s y k (one_old s y t (renewed s t m n) (reqbufs_one s t m n (facts_of s reached).sound (ap not has))) made is;
        more_frames = λ k j is. more_get frames more k j is;
      } in
      record {
        opened = stands.opened;
        model = stands.model;
        input = stands.input;
        count = length-set session.queues (place_in (types_of session.model) t) served ∙ (stands.count ∙ sym (length-set s.queues (place_in (types_of s.model) t) queue));
        made = counted (kind_cases m kinds);
        took = stands.took;
        each = put_each frames (frames ++ more) session x s y t served queue stands reached has put new_on;
      }
    where
      counted : ((memory_kind m ≡ Mmap) × (m ≡ MEMORY_MMAP)) ⊎ ((memory_kind m ≡ UserPtr) × (m ≡ MEMORY_USERPTR)) → length (frames ++ more) ≡ session.made + frame_count m many
      counted (inl mmap) =
          let these : more ≡ range_with_len first many = ap (λ k. if is_user_ptr k then [] else range_with_len first many) mmap.0 in
          let count : frame_count m many ≡ many = ap (λ k. frame_count k many) mmap.1 in
          omega (arith, length-append frames more, ap (λ xs. length xs) these, length-range_with_len first many, count, stands.made)
      counted (inr user) =
          let these : more ≡ [] = ap (λ k. if is_user_ptr k then [] else range_with_len first many) user.0 in
          let count : frame_count m many ≡ 0 = ap (λ k. frame_count k many) user.1 in
          omega (arith, length-append frames more, ap (λ xs. length xs) these, count, stands.made)

  -- the memories that it makes
  pub fresh_come : AreMemories y (made_on y t) (session_fresh session t m many)
  unfolding with_buffers
  fresh_come =
      let places : made_on y t ≡ (if is_user_ptr kind then [] else places_on t (range_with_len 0 many)) =
      ap (λ (c : QueueState). if is_user_ptr c.memory then [] else places_on t (range_with_len 0 (length c.buffers))) here
      ∙ ap (λ k. if is_user_ptr kind then [] else places_on t (range_with_len 0 k)) (fresh_many kind size first many) in
      let sizes : picture_size (session_queue session t).format ≡ size = ap (λ f. picture_size f) (stands.each t).format in
      subst (λ ps. AreMemories y ps (session_fresh session t m many)) (sym places)
      (subst (λ k. AreMemories y (if is_user_ptr kind then [] else places_on t (range_with_len 0 many)) (fresh_frames t (frame_tag session.id session.made) k (frame_count m many)))
      (sym sizes) (by_kind (kind_cases m kinds)))
    where
      zeros : memory_kind m ≡ Mmap → (i : ℕ) → i < many → bytes_of y (memory_at y t i) ≡ replicate size 0
      zeros mmap i inside =
          let number : memory_at y t i ≡ first + i =
          ap (λ (c : QueueState). number_of (buffer_of c i)) here
          ∙ (ap (λ k. unwrap_or (get_or (fresh_buffers k size first many) i no_buffer).memory 0) mmap ∙ ap (λ o. unwrap_or o 0) (fresh_number size first many i inside)) in
          ap (λ k. bytes_of y k) number
          ∙ (get_or-append-add s.memories (fresh_memories kind size many) i []
          ∙ (ap (λ k. get_or (fresh_memories k size many) i []) mmap ∙ get_or-replicate many i (replicate size 0) [] inside))

      by_kind : ((memory_kind m ≡ Mmap) × (m ≡ MEMORY_MMAP)) ⊎ ((memory_kind m ≡ UserPtr) × (m ≡ MEMORY_USERPTR)) →
          AreMemories y (if is_user_ptr kind then [] else places_on t (range_with_len 0 many)) (fresh_frames t (frame_tag session.id session.made) size (frame_count m many))
      by_kind (inl mmap) =
          subst (λ k. AreMemories y (if is_user_ptr k then [] else places_on t (range_with_len 0 many)) (fresh_frames t (frame_tag session.id session.made) size (frame_count m many)))
          (sym mmap.0)
          (subst (λ k. AreMemories y (places_on t (range_with_len 0 many)) (fresh_frames t (frame_tag session.id session.made) size (frame_count k many)))
          (sym mmap.1) (frames_are y t (frame_tag session.id session.made) size many (zeros mmap.0)))
      by_kind (inr user) =
          subst (λ k. AreMemories y (if is_user_ptr k then [] else places_on t (range_with_len 0 many)) (fresh_frames t (frame_tag session.id session.made) size (frame_count m many)))
          (sym user.0)
          (subst (λ k. AreMemories y [] (fresh_frames t (frame_tag session.id session.made) size (frame_count k many))) (sym user.1) tt)

pub reqbufs_refused : (t m n : ℕ) → IsRefusedAlike (ReqBufs t m n) (λ session. S.reqbufs_row session t m n)
unfolding reqbufs_row S.reqbufs_row
reqbufs_refused t m n frames session line s e stands some =
    let model : s.model ≡ session.model = sym stands.model in
    let streaming : (queue_of s t).streaming ≡ (session_queue session t).streaming = sym (stands.each t).streaming in
    by_refusals line s (ReqBufs t m n) (reqbufs_row s t m n) (S.reqbufs_row session t m n) e (λ reply. refl)
    (λ j. first_refusal ((not (stands.opened j), Ebadf) ∷ no_type (model j) t ∷ (not (m == 1 || m == 2), Einval) ∷ (nat_lt 0 n && streaming j, Ebusy) ∷ [])) some

reqbufs_alike : (frames : List ℕ) (session : SessionState) (s : LocalState) (t m n : ℕ) → Stands frames session s → IsSound session → IsReached s → Quiet session →
    s.owed ≡ [] → IsAlike frames session s (ReqBufs t m n) (reqbufs_row s t m n) (S.reqbufs_row session t m n)
unfolding reqbufs_row S.reqbufs_row
reqbufs_alike frames session s t m n stands sound reached quiet owed =
    let model : s.model ≡ session.model = sym stands.model in
    let streaming : (queue_of s t).streaming ≡ (session_queue session t).streaming = sym (stands.each t).streaming in
    record {
      refusals = λ j. first_refusal ((not (stands.opened j), Ebadf) ∷ no_type (model j) t ∷ (not (m == 1 || m == 2), Einval) ∷ (nat_lt 0 n && streaming j, Ebusy) ∷ []);
      lacks = refl;
      waits = refl;
      told = refl;
      done = λ pass.
          let has : has_type s.model t ≡ true = not-false _ (passes (reqbufs_row s t m n).refusals pass 1) in
          let kinds : IsKind m = not-false _ (passes (reqbufs_row s t m n).refusals pass 2) in
          let back : List Held = memories (session_queue session t).queued in
          record {
            payload = ap (λ k. Answered (request_bytes (reqbufs_answer k t m (granted n)))) model;
            back = record {
              settled = none_owed s (t ∷ []) owed;
              back = back;
              fresh = session_fresh session t m (granted n);
              ordered = refl;
              queued = subst (λ ps. AreMemories s ps back) (sym (append-nil (queued_on s t))) (back_from frames session s t (stands.each t) quiet.idle);
              made = fresh_come frames session s t m n stands sound reached quiet has kinds;
            };
            stands = renewed_stands frames session s t m n stands sound reached quiet has kinds;
          };
    }

pub reqbufs_served : (t m n : ℕ) → IsServedAtRest (ReqBufs t m n) (λ session. S.reqbufs_row session t m n)
reqbufs_served t m n frames session line s memory stands sound reached quiet owed =
    by_row frames session line s (ReqBufs t m n) (reqbufs_row s t m n) (S.reqbufs_row session t m n) memory (λ reply. refl)
    (reqbufs_alike frames session s t m n stands sound reached (quiet_is session quiet) owed)
