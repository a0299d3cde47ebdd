-- The job that a session begins is the frame that is possible in the state.
use Rattle.std.proofs.Common.{◌≡◌, inl, inr, ℕ, ◌<◌, ◌==◌, ◌||◌, nat_lt, true, false, List, [], ◌∷◌, length, get_or, map, take, drop, All, Option, Some, None, unwrap_or, ◌+◌, refl, sym, ap, ◌∙◌, subst, slice_get}
use Rattle.std.specs.Prelude.{slice_index, IfSome}
use Rattle.std.specs.List.{list_any}
use Rattle.std.specs.Option.{option_map, option_and_then}
use Rattle.std.proofs.lemmas.Bool.{false≢true, or_cases, eqb-true}
use Rattle.std.proofs.lemmas.Option.{none-some}
use Rattle.std.proofs.lemmas.List.{length-map}
use Rattle.std.proofs.lemmas.List.Elements.{All-head, All-drop}
use Rattle.std.proofs.lemmas.List.Folds.{list_any-append}
use Rattle.std.proofs.Math.ListN.{get_or-map}
use Rattle.v4l_const.specs.declared.model.Model.{Model}
use Rattle.v4l_const.specs.declared.model.Model.TheVariants.{Capture, Convert}
use Rattle.v4l_const.specs.declared.numbers.TheConstants.{BUF_TYPE_CAPTURE, BUF_TYPE_OUTPUT}
use Rattle.v4l_const.specs.Model.{queues as types_of, source_queue, picture_queue}
use Rattle.v4l_layout.specs.declared.buffer_rec.BufferRec.{BufferRec}
use Rattle.v4l_rules.specs.Queues.{has_type}
use Rattle.vm_job.specs.Job.{JobParts, picture_of}
use Rattle.vm_mem.specs.Lists.{first_of}
use Rattle.vm_queue.specs.declared.queued.Queued.{Queued}
use Rattle.vm_local.specs.declared.buffer.BufferState.TheVariants.{Queued as AsQueued}
use Rattle.vm_local.specs.State.{QueueState, LocalState, queue_of, buffer_of}
use Rattle.vm_local.specs.Kinds.{is_idle}
use Rattle.vm_local.specs.Listed.{AreThere, IsThere}
use Rattle.vm_local.specs.Memory.{bytes_of}
use Rattle.vm_local.specs.Steps.{head, head_buffer, number_of, target, next_picture, picture_from}
use Rattle.v4l_format.specs.Fmt.{picture_size}
use Rattle.v4l_format.specs.Picture.{pattern_picture, converted_picture}
use Rattle.vm_frame.specs.Mem.{mem_bytes}
use Rattle.vm_home.specs.Reached.{IsReached}
use Rattle.vm_local.proofs.ThereLemmas.{there_log}
use Rattle.vm_session.specs.declared.running.Running.{Running}
use Rattle.vm_session.specs.State.{SessionQueue, SessionState, pictures, queue_of as session_queue}
use Rattle.vm_session.specs.Sound.{IsSound, taken_by}
use Rattle.vm_session.specs.Streaming.{can_begin, next_src, next_dst, next_spec, job_with, next_job, headless, begun}
use Rattle.vm_stands.specs.Stands.{waiting, IsRecordOf, IsMemoryAt, StandsOn, Stands, IsHead, IsHeadIf, IsNext}
use Rattle.vm_stands.proofs.BegunLemmas.{no_queued, front, IsFull, can_full, first_is, split, kinds_are, taken_are, begun_queue, begun_waiting, begins_alike, waits_idle}

-- ---- the buffers that wait are Queued

pub are_there : (s : LocalState) → IsReached s → AreThere s
are_there s (m, log, leads) = there_log m log s leads

-- what is so of the images is so of those that they are of
pub of_images : {A B : Type 0} (P : B → Type 0) (f : A → B) (xs : List A) → All P (map f xs) → All (λ x. P (f x)) xs
of_images P f xs all = λ k d within.
    subst P (get_or-map-at f xs k d within) (all k (f d) (subst (λ n. k < n) (sym (length-map xs f)) within))
  where
    get_or-map-at : {A B : Type 0} (f : A → B) (xs : List A) (k : ℕ) (d : A) → k < length xs → get_or (map f xs) k (f d) ≡ f (get_or xs k d)
    get_or-map-at f xs k d within = get_or-map f xs k d

-- a buffer that waits is Queued
pub waiting_there : (frames : List ℕ) (session : SessionState) (s : LocalState) (t : ℕ) → IsReached s → StandsOn frames session s t →
    All (λ r. IsThere AsQueued (queue_of s t) r.index) (waiting session t)
waiting_there frames session s t reached on =
    let P : List ℕ → Type 0 = λ xs. All (IsThere AsQueued (queue_of s t)) xs in
    of_images (IsThere AsQueued (queue_of s t)) (λ (r : BufferRec). r.index) (waiting session t) (subst P (sym on.order) ((are_there s reached).0 t).0)

-- ---- the queues

taken_busy : (q : QueueState) (i : ℕ) (xs : List Queued) → All (λ (b : Queued). IsThere AsQueued q b.buffer.index) xs →
    list_any (λ j. j == i) (map (λ (b : Queued). b.buffer.index) (take 1 xs)) ≡ true → is_idle (buffer_of q i).state ≡ false
taken_busy q i [] there some = absurd (false≢true some)
taken_busy q i (b ∷ bs) there some = elim (or_cases (b.buffer.index == i) false some) as (λ _. is_idle (buffer_of q i).state ≡ false) [
  | inl is ↦
      let P : ℕ → Type 0 = λ j. is_idle (buffer_of q j).state ≡ false in
      subst P (eqb-true b.buffer.index i is) (ap is_idle (All-head (λ (x : Queued). IsThere AsQueued q x.buffer.index) b bs there).1)
  | inr never ↦ absurd (false≢true never)
]

begun_on : (frames : List ℕ) (session : SessionState) (s : LocalState) (number t : ℕ) → Stands frames session s → IsSound session → IsReached s →
    session.running ≡ None → IsFull session → StandsOn frames (begun session number) s t
begun_on frames session s number t stands sound reached none full =
    let on : StandsOn frames session s t = stands.each t in
    let q : SessionQueue = session_queue session t in
    let b : SessionState = begun session number in
    let same : session_queue b t ≡ headless q = begun_queue session number t in
    let waits : waiting b t ≡ waiting session t = begun_waiting frames session s number t stands sound none full in
    let R : List BufferRec → Type 0 = λ rs. All (IsRecordOf s t) rs in
    let M : Queued → Type 0 = λ x. IsMemoryAt s t x.buffer.index x.held in
    let S : SessionQueue → Type 0 = λ x. All M x.queued in
    let T : List BufferRec → Type 0 = λ rs. All (λ r. IsThere AsQueued (queue_of s t) r.index) rs in
    let there : All (λ (x : Queued). IsThere AsQueued (queue_of s t) x.buffer.index) q.queued =
    of_images (λ (r : BufferRec). IsThere AsQueued (queue_of s t) r.index) (λ (x : Queued). x.buffer) q.queued
    (subst T (waits_idle session t none) (waiting_there frames session s t reached on)) in
    record {
      format = ap (λ (x : SessionQueue). x.format) same ∙ on.format;
      kind = λ some. ap (λ (x : SessionQueue). x.kind) same ∙ on.kind some;
      lengths = ap (λ (x : SessionQueue). x.lengths) same ∙ on.lengths;
      streaming = ap (λ (x : SessionQueue). x.streaming) same ∙ on.streaming;
      sequence = ap (λ (x : SessionQueue). x.sequence) same ∙ on.sequence;
      order = ap (λ rs. map (λ (r : BufferRec). r.index) rs) waits ∙ on.order;
      records = subst R (sym waits) on.records;
      memories = subst S (sym same) (All-drop M 1 q.queued on.memories);
      out = λ i is.
          let heads : List ℕ = map (λ (x : Queued). x.buffer.index) (take 1 q.queued) in
          let joined : (list_any (λ j. j == i) q.out || list_any (λ j. j == i) heads) ≡ true =
          sym (ap (λ (x : SessionQueue). list_any (λ j. j == i) x.out) same ∙ list_any-append (λ j. j == i) q.out heads) ∙ is in
          elim (or_cases (list_any (λ j. j == i) q.out) (list_any (λ j. j == i) heads) joined) as (λ _. is_idle (buffer_of (queue_of s t) i).state ≡ false) [
            | inl old ↦ on.out i old
            | inr new ↦ taken_busy (queue_of s t) i q.queued there new
          ];
      numbered = λ device i within. on.numbered device i within ∙ ap (λ (x : SessionQueue). slice_get frames (x.first_frame + i)) (sym same);
    }

kinds_in_order : (m : Model) (f : ℕ → BufferRec) → ((t : ℕ) → has_type m t ≡ true → (f t).kind ≡ t) →
    map (λ (r : BufferRec). r.kind) (map f (types_of m)) ≡ types_of m
kinds_in_order Capture f kinds = rw (kinds BUF_TYPE_CAPTURE refl) refl
kinds_in_order Convert f kinds = rw (kinds BUF_TYPE_OUTPUT refl, kinds BUF_TYPE_CAPTURE refl) refl

took_if : (o : Option Running) (ts : List ℕ) → map (λ (r : BufferRec). r.kind) (taken_by o) ≡ ts →
    IfSome o (λ r. map (λ (b : BufferRec). b.kind) (taken_by (Some r)) ≡ ts)
took_if None ts is = tt
took_if (Some r) ts is = is

pub begun_stands : (frames : List ℕ) (session : SessionState) (s : LocalState) (number : ℕ) → Stands frames session s → IsSound session → IsReached s →
    session.running ≡ None → IsFull session → Stands frames (begun session number) s
begun_stands frames session s number stands sound reached none full =
    let b : SessionState = begun session number in
    let took : map (λ (r : BufferRec). r.kind) (taken_by b.running) ≡ types_of s.model =
    ap (λ rs. map (λ (r : BufferRec). r.kind) rs) (taken_are session number session.model refl full)
    ∙ (kinds_in_order session.model (λ u. (front session u).buffer) (kinds_are frames session s stands none full) ∙ ap (λ m. types_of m) stands.model) in
    record {
      opened = stands.opened;
      model = stands.model;
      input = stands.input;
      count = length-map session.queues headless ∙ stands.count;
      made = stands.made;
      took = took_if b.running (types_of s.model) took;
      each = λ t. begun_on frames session s number t stands sound reached none full;
    }

-- ---- the job

-- the memory of the first buffer is that which the next frame takes
pub front_is_head : (frames : List ℕ) (session : SessionState) (s : LocalState) (t : ℕ) → StandsOn frames session s t → session.running ≡ None →
    nat_lt 0 (length (session_queue session t).queued) ≡ true → IsHead s t (front session t).held
front_is_head frames session s t on none some =
    let q : List Queued = (session_queue session t).queued in
    let parts : front session t ∷ drop 1 q ≡ q = split no_queued q some in
    let M : Queued → Type 0 = λ x. IsMemoryAt s t x.buffer.index x.held in
    let first : M (front session t) = All-head M (front session t) (drop 1 q) (subst (λ xs. All M xs) (sym parts) on.memories) in
    let index : (front session t).buffer.index ≡ head (queue_of s t) =
    ap (λ xs. slice_index (map (λ (r : BufferRec). r.index) (map (λ (x : Queued). x.buffer) xs)) 0) parts
    ∙ ap (λ xs. slice_index xs 0) (ap (λ rs. map (λ (r : BufferRec). r.index) rs) (sym (waits_idle session t none)) ∙ on.order) in
    subst (λ i. IsMemoryAt s t i (front session t).held) index first

head_if : (s : LocalState) (o : Option ℕ) (next : ℕ → Option Queued) (h : ℕ → Queued) → ((t : ℕ) → o ≡ Some t → next t ≡ Some (h t)) →
    ((t : ℕ) → o ≡ Some t → IsHead s t (h t).held) → IsHeadIf s o (option_map (λ (b : Queued). b.held) (option_and_then next o))
head_if s None next h first heads = refl
head_if s (Some t) next h first heads =
    let P : Option Queued → Type 0 = λ x. IsHeadIf s (Some t) (option_map (λ (b : Queued). b.held) x) in
    subst P (sym (first t refl)) (heads t refl)

pub has_picture : (m : Model) → has_type m (picture_queue m) ≡ true
has_picture Capture = refl
has_picture Convert = refl

pub has_source : (m : Model) (t : ℕ) → source_queue m ≡ Some t → has_type m t ≡ true
has_source Capture t is = absurd (none-some t is)
has_source Convert t is = ap (λ (o : Option ℕ). has_type Convert (unwrap_or o 0)) (sym is)

pub sequence_is : (frames : List ℕ) (session : SessionState) (s : LocalState) → Stands frames session s → (pictures session).sequence ≡ (target s).next_sequence
sequence_is frames session s stands =
    (stands.each (picture_queue session.model)).sequence ∙ ap (λ m. (queue_of s (picture_queue m)).next_sequence) stands.model

pub format_is : (frames : List ℕ) (session : SessionState) (s : LocalState) → Stands frames session s → (pictures session).format ≡ (target s).format
format_is frames session s stands = (stands.each (picture_queue session.model)).format ∙ ap (λ m. (queue_of s (picture_queue m)).format) stands.model

picture_is : (frames : List ℕ) (session : SessionState) (s : LocalState) (number : ℕ) (m : Model) → session.model ≡ m → Stands frames session s →
    session.running ≡ None → IsFull session → picture_of (next_spec session number) (option_map (λ (b : Queued). b.held) (next_src session)) ≡ next_picture s
picture_is frames session s number Capture is stands none full =
    let src : next_src session ≡ None = ap (λ x. option_and_then (λ t. first_of (session_queue session t).queued) (source_queue x)) is in
    let picture : next_picture s ≡ picture_from None s = ap (λ m. picture_from (source_queue m) s) (sym stands.model ∙ is) in
    ap (λ o. picture_of (next_spec session number) (option_map (λ (b : Queued). b.held) o)) src
    ∙ (ap (λ i. pattern_picture i (pictures session).sequence (pictures session).format) stands.input
    ∙ (ap (λ n. pattern_picture s.input n (pictures session).format) (sequence_is frames session s stands)
    ∙ (ap (λ f. pattern_picture s.input (target s).next_sequence f) (format_is frames session s stands) ∙ sym picture)))
picture_is frames session s number Convert is stands none full =
    let O : ℕ = BUF_TYPE_OUTPUT in
    let some : nat_lt 0 (length (session_queue session O).queued) ≡ true = full O (ap (λ x. has_type x O) is) in
    let src : next_src session ≡ Some (front session O) =
    ap (λ x. option_and_then (λ t. first_of (session_queue session t).queued) (source_queue x)) is ∙ first_is no_queued (session_queue session O).queued some in
    let picture : next_picture s ≡ picture_from (Some O) s = ap (λ m. picture_from (source_queue m) s) (sym stands.model ∙ is) in
    let from : (next_spec session number).src ≡ (queue_of s O).format =
    ap (λ x. unwrap_or (option_map (λ t. (session_queue session t).format) (source_queue x)) (pictures session).format) is ∙ (stands.each O).format in
    let bytes : mem_bytes (front session O).held.mem ≡ bytes_of s (number_of (head_buffer (queue_of s O))) =
    (front_is_head frames session s O (stands.each O) none some).memory.bytes in
    ap (λ o. picture_of (next_spec session number) (option_map (λ (b : Queued). b.held) o)) src
    ∙ (ap (λ f. converted_picture f (mem_bytes (front session O).held.mem) (pictures session).format) from
    ∙ (ap (λ b. converted_picture (queue_of s O).format b (pictures session).format) bytes
    ∙ (ap (λ f. converted_picture (queue_of s O).format (bytes_of s (number_of (head_buffer (queue_of s O)))) f) (format_is frames session s stands) ∙ sym picture)))

pub begins_next : (frames : List ℕ) (session : SessionState) (s : LocalState) (number : ℕ) → Stands frames session s → IsSound session → IsReached s →
    can_begin session ≡ true → (job : JobParts) × (next_job session number ≡ Some job) × IsNext s job × Stands frames (begun session number) s
begins_next frames session s number stands sound reached can =
    let both : _ = can_full session sound can in
    let none : session.running ≡ None = both.0 in
    let full : IsFull session = both.1 in
    let c : ℕ = picture_queue session.model in
    let job : JobParts = job_with (next_spec session number) (next_src session) (front session c) in
    let has : has_type session.model c ≡ true = has_picture session.model in
    let dst : next_dst session ≡ Some (front session c) = first_is no_queued (session_queue session c).queued (full c has) in
    let heads : (t : ℕ) → has_type session.model t ≡ true → IsHead s t (front session t).held = λ t there.
    front_is_head frames session s t (stands.each t) none (full t there) in
    let src : IsHeadIf s (source_queue session.model) job.src =
    head_if s (source_queue session.model) (λ t. first_of (session_queue session t).queued) (front session)
    (λ t is. first_is no_queued (session_queue session t).queued (full t (has_source session.model t is)))
    (λ t is. heads t (has_source session.model t is)) in (
      job,
      ap (option_map (job_with (next_spec session number) (next_src session))) dst,
      record {
        possible = sym (begins_alike frames session s stands sound none) ∙ can;
        picture = picture_is frames session s number session.model refl stands none full;
        size = ap (λ f. picture_size f) (format_is frames session s stands);
        src = subst (λ m. IsHeadIf s (source_queue m) job.src) stands.model src;
        dst = subst (λ m. IsHead s (picture_queue m) (front session c).held) stands.model (heads c has);
      },
      begun_stands frames session s number stands sound reached none full,
    )
