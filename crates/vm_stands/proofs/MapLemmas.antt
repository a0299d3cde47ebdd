-- The frames of a session that a handle may map.
use Rattle.std.proofs.Common.{◌≡◌, ◌≢◌, inl, inr, ℕ, zero, suc, ◌+◌, ◌*◌, ◌^◌, ◌<◌, ◌==◌, ◌||◌, nat_lt, Bool, true, false, List, [], ◌∷◌, ◌++◌, length, get_or, Some, None, Ok, refl, sym, ap, ◌∙◌, subst, arith, slice_get, eq-eqb, ne_eqb, if◌then◌else◌}
use Rattle.std.specs.List.{find, flat_map}
use Rattle.std.specs.Option.{option_map, option_or, ok_or}
use Rattle.std.proofs.lemmas.Bool.{false≢true, true≢false, not-false, ltb-true, cases_Bool, eqb-true}
use Rattle.std.proofs.lemmas.List.Folds.{find-append}
use Rattle.v4l_const.specs.declared.errno.Errno.TheVariants.{Einval}
use Rattle.v4l_const.specs.declared.model.Model.{Model}
use Rattle.v4l_const.specs.declared.model.Model.TheVariants.{Capture, Convert}
use Rattle.v4l_const.specs.declared.numbers.TheConstants.{BUF_TYPE_CAPTURE, BUF_TYPE_OUTPUT, MEMORY_MMAP}
use Rattle.v4l_const.specs.Model.{queues as types_of}
use Rattle.v4l_rules.specs.Queues.{has_type}
use Rattle.v4l_rules.specs.Refusals.{first_refusal}
use Rattle.vm_wire.specs.Buffers.{buffer_offset}
use Rattle.vm_local.specs.declared.bound.MemoryKind.{MemoryKind}
use Rattle.vm_local.specs.declared.bound.MemoryKind.TheVariants.{Mmap as MmapKind, UserPtr}
use Rattle.vm_local.specs.declared.call.Call.{Call}
use Rattle.vm_local.specs.declared.call.Call.TheVariants.{Mmap, Munmap}
use Rattle.vm_local.specs.declared.reply.Reply.{Reply}
use Rattle.vm_local.specs.State.{LocalState, queue_of, buffer_of}
use Rattle.vm_local.specs.Queue.{is_user_ptr}
use Rattle.vm_local.specs.Same.{address_in}
use Rattle.vm_local.specs.Calls.{Row, row_of, mmap_row, munmap_row}
use Rattle.vm_local.specs.Log.{row_for, called, IsCall}
use Rattle.vm_local.proofs.FewLemmas.{few_buffers}
use Rattle.vm_local.proofs.StepLemmas.{passes, answered_by}
use Rattle.vm_home.specs.Reached.{IsReached}
use Rattle.vm_exchange.specs.Exchange.{memory_number}
use Rattle.vm_session.specs.State.{SessionQueue, SessionState, queue_of as session_queue}
use Rattle.vm_session.specs.Buffers.{frame_tag}
use Rattle.vm_session.specs.Mapped.{MappableFrame, frames_from, frames_of, mappable_frames, frame_of}
use Rattle.vm_stands.specs.Stands.{StandsOn, Stands}
use Rattle.vm_stands.specs.Laws.{names_alone}
use Rattle.vm_stands.proofs.AlikeLemmas.{many_alike, length_alike}
use Rattle.vm_stands.proofs.PlainLemmas.{within_some}
use Rattle.vm_stands.proofs.SeenLemmas.{seen, seen_stands}
use Rattle.vm_stands.proofs.TookLemmas.{capture_has, convert_has}

-- the frame is mapped from this offset
abbrev pub is_at : ℕ → MappableFrame → Bool
is_at offset f = f.offset == offset

-- ---- the frames of a queue

offset_same : (t i j : ℕ) → buffer_offset t i ≡ buffer_offset t j → i ≡ j
offset_same t i j same = omega (arith, same)

-- the frame of an index, of those from an index on
find_here : (t first i k : ℕ) (lens : List ℕ) → k < length lens →
    find (is_at (buffer_offset t (i + k))) (frames_from t first i lens) ≡ Some (record { offset = buffer_offset t (i + k); tag = first + (i + k); len = get_or lens k 0 })
find_here t first i k [] within = absurd (omega (arith, within))
find_here t first i zero (len ∷ lens) within =
    let same : i ≡ i + 0 = omega arith in
    subst (λ n. find (is_at (buffer_offset t n)) (frames_from t first i (len ∷ lens)) ≡ Some (record { offset = buffer_offset t n; tag = first + n; len = len })) same
    (ap (λ b. if b then Some (record { offset = buffer_offset t i; tag = first + i; len = len }) else find (is_at (buffer_offset t i)) (frames_from t first (i + 1) lens))
    (eq-eqb (buffer_offset t i) (buffer_offset t i) refl))
find_here t first i (suc k) (len ∷ lens) within =
    let n : ℕ = i + suc k in
    let same : i + 1 + k ≡ n = omega arith in
    let far : (buffer_offset t i == buffer_offset t n) ≡ false = ne_eqb (buffer_offset t i) (buffer_offset t n) (λ is. absurd (omega (arith, offset_same t i n is))) in
    ap (λ b. if b then Some (record { offset = buffer_offset t i; tag = first + i; len = len }) else find (is_at (buffer_offset t n)) (frames_from t first (i + 1) lens)) far
    ∙ subst (λ m. find (is_at (buffer_offset t m)) (frames_from t first (i + 1) lens) ≡ Some (record { offset = buffer_offset t m; tag = first + m; len = get_or lens k 0 }))
    same (find_here t first (i + 1) k lens (omega (arith, within)))

-- none has an offset that none of them has
find_none : (t first i offset : ℕ) (lens : List ℕ) → ((k : ℕ) → k < length lens → buffer_offset t (i + k) ≢ offset) → find (is_at offset) (frames_from t first i lens) ≡ None
find_none t first i offset [] apart = refl
find_none t first i offset (len ∷ lens) apart =
    let far : (buffer_offset t i == offset) ≡ false = ne_eqb (buffer_offset t i) offset (λ is. apart 0 (omega arith) (ap (λ n. buffer_offset t n) (omega arith) ∙ is)) in
    ap (λ b. if b then Some (record { offset = buffer_offset t i; tag = first + i; len = len }) else find (is_at offset) (frames_from t first (i + 1) lens)) far
    ∙ find_none t first (i + 1) offset lens (λ k within is. apart (suc k) (omega (arith, within)) (ap (λ n. buffer_offset t n) (omega arith) ∙ is))

queue_has : (id t i : ℕ) (q : SessionQueue) → q.kind ≡ MEMORY_MMAP → i < length q.lengths →
    find (is_at (buffer_offset t i)) (frames_of id t q) ≡ Some (record { offset = buffer_offset t i; tag = frame_tag id q.first_frame + i; len = get_or q.lengths i 0 })
queue_has id t i q kind within =
    ap (λ b. find (is_at (buffer_offset t i)) (if b then frames_from t (frame_tag id q.first_frame) 0 q.lengths else [])) (eq-eqb q.kind MEMORY_MMAP kind)
    ∙ subst (λ n. find (is_at (buffer_offset t n)) (frames_from t (frame_tag id q.first_frame) 0 q.lengths)
    ≡ Some (record { offset = buffer_offset t n; tag = frame_tag id q.first_frame + n; len = get_or q.lengths i 0 })) (omega arith)
    (find_here t (frame_tag id q.first_frame) 0 i q.lengths within)

-- the frames of the source are mapped from behind those of the pictures
queue_hasnt : (id i : ℕ) (q : SessionQueue) → i < 32 → find (is_at (buffer_offset BUF_TYPE_CAPTURE i)) (frames_of id BUF_TYPE_OUTPUT q) ≡ None
queue_hasnt id i q few = by_kind (q.kind == MEMORY_MMAP)
  where
    by_kind : (b : Bool) → find (is_at (buffer_offset BUF_TYPE_CAPTURE i)) (if b then frames_from BUF_TYPE_OUTPUT (frame_tag id q.first_frame) 0 q.lengths else []) ≡ None
    by_kind false = refl
    by_kind true = find_none BUF_TYPE_OUTPUT (frame_tag id q.first_frame) 0 (buffer_offset BUF_TYPE_CAPTURE i) q.lengths (λ k within is. absurd (omega (arith, is, few)))

-- ---- the frames of a session

found : (session : SessionState) (m : Model) (t i : ℕ) → session.model ≡ m → has_type m t ≡ true → (session_queue session t).kind ≡ MEMORY_MMAP →
    i < length (session_queue session t).lengths → i < 32 → find (is_at (buffer_offset t i)) (mappable_frames session)
    ≡ Some (record { offset = buffer_offset t i; tag = frame_tag session.id (session_queue session t).first_frame + i; len = get_or (session_queue session t).lengths i 0 })
found session Capture t i is has kind within few =
    let C : ℕ = BUF_TYPE_CAPTURE in
    let f : ℕ → List MappableFrame = λ u. frames_of session.id u (session_queue session u) in
    let mine : C ≡ t = eqb-true C t (sym (capture_has t) ∙ has) in
    ap (λ m. find (is_at (buffer_offset t i)) (flat_map f (types_of m))) is
    ∙ (find-append (is_at (buffer_offset t i)) (f C) []
    ∙ (ap (λ u. option_or (find (is_at (buffer_offset t i)) (f u)) None) mine ∙ ap (λ o. option_or o None) (queue_has session.id t i (session_queue session t) kind within)))
found session Convert t i is has kind within few =
    let C : ℕ = BUF_TYPE_CAPTURE in
    let O : ℕ = BUF_TYPE_OUTPUT in
    let f : ℕ → List MappableFrame = λ u. frames_of session.id u (session_queue session u) in
    let here : find (is_at (buffer_offset t i)) (f t) ≡ Some (record { offset = buffer_offset t i; tag = frame_tag session.id (session_queue session t).first_frame + i; len = get_or (session_queue session t).lengths i 0 }) =
    queue_has session.id t i (session_queue session t) kind within in
    let all : find (is_at (buffer_offset t i)) (mappable_frames session) ≡ option_or (find (is_at (buffer_offset t i)) (f O)) (find (is_at (buffer_offset t i)) (f C ++ [])) =
    ap (λ m. find (is_at (buffer_offset t i)) (flat_map f (types_of m))) is ∙ find-append (is_at (buffer_offset t i)) (f O) (f C ++ []) in
    all ∙ (elim (cases_Bool (O == t)) as (λ _. option_or (find (is_at (buffer_offset t i)) (f O)) (find (is_at (buffer_offset t i)) (f C ++ []))
    ≡ Some (record { offset = buffer_offset t i; tag = frame_tag session.id (session_queue session t).first_frame + i; len = get_or (session_queue session t).lengths i 0 })) [
      | inl first ↦
          ap (λ u. option_or (find (is_at (buffer_offset t i)) (f u)) (find (is_at (buffer_offset t i)) (f C ++ []))) (eqb-true O t first)
          ∙ ap (λ o. option_or o (find (is_at (buffer_offset t i)) (f C ++ []))) here
      | inr other ↦
          let second : C ≡ t = eqb-true C t (ap (λ b. b || (C == t)) (sym other) ∙ (sym (convert_has t) ∙ has)) in
          let none : find (is_at (buffer_offset t i)) (f O) ≡ None =
          subst (λ u. find (is_at (buffer_offset u i)) (f O) ≡ None) second (queue_hasnt session.id i (session_queue session O) few) in
          ap (λ o. option_or o (find (is_at (buffer_offset t i)) (f C ++ []))) none
          ∙ (find-append (is_at (buffer_offset t i)) (f C) []
          ∙ (ap (λ u. option_or (find (is_at (buffer_offset t i)) (f u)) None) second ∙ ap (λ o. option_or o None) here))
    ])

bare_kind : (kind : MemoryKind) → is_user_ptr kind ≡ false → memory_number kind ≡ MEMORY_MMAP
bare_kind MmapKind bare = refl
bare_kind UserPtr bare = absurd (true≢false bare)

pub maps_alike : (frames : List ℕ) (session : SessionState) (line : ℕ) (s : LocalState) (m : List ℕ) (t i : ℕ) (ro : Bool) → Stands frames session s → IsReached s →
    first_refusal (row_of s line 0 (Mmap m t i ro)).refusals ≡ None →
    (before : ℕ) × (frame_of session (buffer_offset t i) ≡ Ok (frame_tag session.id before, (buffer_of (queue_of s t) i).length))
    × ((buffer_of (queue_of s t) i).memory ≡ slice_get frames before)
unfolding mmap_row
maps_alike frames session line s m t i ro stands (model, log, leads) pass =
    let so : (k : ℕ) → _ = passes (mmap_row s 0 m t i ro).refusals pass in
    let on : StandsOn frames session s t = stands.each t in
    let q : SessionQueue = session_queue session t in
    let has : has_type session.model t ≡ true = ap (λ x. has_type x t) stands.model ∙ not-false _ (so 1) in
    let inside : nat_lt i (length (queue_of s t).buffers) ≡ true = not-false _ (so 2) in
    let within : i < length (queue_of s t).buffers = ltb-true i (length (queue_of s t).buffers) inside in
    let long : i < length q.lengths = omega (arith, within, many_alike frames session s t on) in
    let few : i < 32 = omega (arith, within, few_buffers model log s leads t) in
    let kind : q.kind ≡ MEMORY_MMAP = on.kind (within_some (queue_of s t).buffers i inside) ∙ bare_kind (queue_of s t).memory (so 3) in
    let frame : MappableFrame = record { offset = buffer_offset t i; tag = frame_tag session.id q.first_frame + i; len = get_or q.lengths i 0 } in
    let tag : frame_tag session.id q.first_frame + i ≡ frame_tag session.id (q.first_frame + i) = joined (session.id * 2 ^ 32) q.first_frame i in (
      q.first_frame + i,
      ap (λ o. ok_or (option_map (λ (f : MappableFrame). (f.tag, f.len)) o) Einval) (found session session.model t i refl has kind long few)
          ∙ (λ j. Ok (tag j, length_alike frames session s t i on j)),
      on.numbered (so 3) i within,
    )
  where
    joined : (a b c : ℕ) → a + b + c ≡ a + (b + c)
    joined a b c = omega arith

pub names_keep : (frames : List ℕ) (session : SessionState) (s t : LocalState) (line : ℕ) (call : Call) (reply : Reply) → names_alone call ≡ true →
    IsCall s line call reply t → Stands frames session s → Stands frames session t
unfolding called mmap_row munmap_row
names_keep frames session s t line call reply alone leads stands =
    let r : Row = row_for s line call reply in
    elim (answered_by (first_refusal r.refusals) r s reply t leads) as (λ _. Stands frames session t) [
      | inl same ↦ subst (λ x. Stands frames session x) (sym same) stands
      | inr went ↦ subst (λ x. Stands frames session x) (sym went.3) (seen_stands frames session s r.next (row_seen call alone) stands)
    ]
  where
    mapped_seen : (m : List ℕ) (w i : ℕ) (ro : Bool) → seen s ≡ seen (mmap_row s (address_in reply) m w i ro).next
    mapped_seen m w i ro = refl

    unmapped_seen : (m : List ℕ) → seen s ≡ seen (munmap_row s m).next
    unmapped_seen m = refl

    row_seen : (c : Call) → names_alone c ≡ true → seen s ≡ seen (row_of s line (address_in reply) c).next
    row_seen (Mmap m w i ro) is = mapped_seen m w i ro
    row_seen (Munmap m) is = unmapped_seen m
    row_seen c is = absurd (false≢true is)
