-- A session that begins a job: the frame that is possible in the state.
use Rattle.std.proofs.Common.{◌≡◌, inl, inr, ℕ, zero, suc, ◌<◌, ◌==◌, ◌&&◌, nat_lt, Bool, true, false, not, List, [], ◌∷◌, ◌++◌, length, get_or, map, drop, All, Option, Some, None, is_some, refl, sym, ap, ◌∙◌, subst, arith, if◌then◌else◌}
use Rattle.std.specs.List.{list_all}
use Rattle.std.specs.Option.{option_map, option_and_then}
use Rattle.std.proofs.lemmas.Bool.{false≢true, and_parts, eqb-true, cases_Bool, ltb-true, ltb-false, lt-ltb}
use Rattle.std.proofs.lemmas.List.{get_or_past}
use Rattle.std.proofs.lemmas.List.Elements.{All-head}
use Rattle.std.proofs.lemmas.List.Sums.{AllPass-from_list_all}
use Rattle.std.proofs.Math.ListN.{get_or-map}
use Rattle.v4l_const.specs.declared.model.Model.{Model}
use Rattle.v4l_const.specs.declared.model.Model.TheVariants.{Capture, Convert}
use Rattle.v4l_const.specs.Model.{queues as types_of, source_queue, picture_queue}
use Rattle.v4l_const.specs.declared.numbers.TheConstants.{BUF_TYPE_CAPTURE, BUF_TYPE_OUTPUT}
use Rattle.v4l_layout.specs.declared.buffer_rec.BufferRec.{BufferRec}
use Rattle.v4l_rules.specs.Queues.{place_in, has_type}
use Rattle.vm_frame.specs.declared.mem.Mem.TheVariants.{OfFrame}
use Rattle.vm_mem.specs.Lists.{first_of}
use Rattle.vm_queue.specs.declared.queued.Queued.{Queued}
use Rattle.vm_wire.specs.Buffers.{blank_buffer}
use Rattle.vm_local.specs.State.{QueueState, LocalState, opening_queue, queue_of}
use Rattle.vm_local.specs.Queue.{is_empty, can_finish}
use Rattle.vm_session.specs.State.{SessionQueue, SessionState, opening_queue as session_opening, queue_of as session_queue}
use Rattle.vm_session.specs.Sound.{IsSound, taken_by}
use Rattle.vm_session.specs.Streaming.{is_ready, can_begin, next_spec, next_src, next_dst, running_with, headless, begun}
use Rattle.vm_stands.specs.Stands.{of_type, waiting, IsRecordOf, StandsOn, Stands}
use Rattle.vm_home.proofs.RowLemmas.{type_at}

-- ---- what may begin

none_runs : {A : Type 0} (o : Option A) → o ≡ None → not (is_some o) ≡ true
none_runs o none = ap (λ x. not (is_some x)) none

empty_map : {A B : Type 0} (f : A → B) (xs : List A) → is_empty (map f xs) ≡ is_empty xs
empty_map f [] = refl
empty_map f (x ∷ xs) = refl

pub some_empty : {A : Type 0} (xs : List A) → nat_lt 0 (length xs) ≡ not (is_empty xs)
some_empty [] = refl
some_empty (x ∷ xs) = lt-ltb 0 (length (x ∷ xs)) (omega arith)

-- two lists of which the elements pass alike
pub all_alike : {A B : Type 0} (p : A → Bool) (q : B → Bool) (d : A) (e : B) (xs : List A) (ys : List B) → length xs ≡ length ys →
    ((k : ℕ) → k < length xs → p (get_or xs k d) ≡ q (get_or ys k e)) → list_all p xs ≡ list_all q ys
all_alike p q d e [] [] long same = refl
all_alike p q d e [] (y ∷ ys) long same = absurd (omega (arith, long))
all_alike p q d e (x ∷ xs) [] long same = absurd (omega (arith, long))
all_alike p q d e (x ∷ xs) (y ∷ ys) long same =
    rw (same zero (omega arith), all_alike p q d e xs ys (omega (arith, long)) (λ k within. same (suc k) (omega (arith, within)))) refl

-- where no job runs, those wait that are queued
pub waits_idle : (session : SessionState) (t : ℕ) → session.running ≡ None → waiting session t ≡ map (λ b. b.buffer) (session_queue session t).queued
waits_idle session t none = ap (λ r. of_type t (taken_by r) ++ map (λ (b : Queued). b.buffer) (session_queue session t).queued) none

-- where no job runs, a queue is ready where the state's is
ready_alike : (frames : List ℕ) (session : SessionState) (s : LocalState) (t : ℕ) → session.running ≡ None → StandsOn frames session s t →
    is_ready (session_queue session t) ≡ ((queue_of s t).streaming && not (is_empty (queue_of s t).queued))
ready_alike frames session s t none on =
    let q : List Queued = (session_queue session t).queued in
    let waits : waiting session t ≡ map (λ b. b.buffer) q = waits_idle session t none in
    let order : map (λ (r : BufferRec). r.index) (map (λ (b : Queued). b.buffer) q) ≡ (queue_of s t).queued = ap (λ rs. map (λ (r : BufferRec). r.index) rs) (sym waits) ∙ on.order in
    let some : is_empty q ≡ is_empty (queue_of s t).queued =
    sym (empty_map (λ (r : BufferRec). r.index) (map (λ (b : Queued). b.buffer) q) ∙ empty_map (λ (b : Queued). b.buffer) q) ∙ ap (λ (xs : List ℕ). is_empty xs) order in
    rw (on.streaming, some_empty q, some) refl

pub begins_alike : (frames : List ℕ) (session : SessionState) (s : LocalState) → Stands frames session s → IsSound session → session.running ≡ None →
    can_begin session ≡ can_finish s
begins_alike frames session s stands sound none =
    let test : QueueState → Bool = λ q. q.streaming && not (is_empty q.queued) in
    let at : (k : ℕ) → k < length session.queues → is_ready (get_or session.queues k session_opening) ≡ test (get_or s.queues k opening_queue) = λ k within.
    let t : ℕ = get_or (types_of s.model) k 0 in
    let long : length (types_of session.model) ≡ length (types_of s.model) = ap (λ m. length (types_of m)) stands.model in
    let there : place_in (types_of s.model) t ≡ k = type_at s.model k (omega (arith, within, sound.queues, long)) in
    let here : place_in (types_of session.model) t ≡ k = ap (λ m. place_in (types_of m) t) stands.model ∙ there in
    let P : ℕ → Type 0 = λ p. is_ready (session_queue session t) ≡ test (get_or s.queues p opening_queue) in
    let Q : ℕ → Type 0 = λ p. is_ready (get_or session.queues p session_opening) ≡ test (get_or s.queues k opening_queue) in
    subst Q here (subst P there (ready_alike frames session s t none (stands.each t))) in
    ap (λ b. b && list_all is_ready session.queues) (none_runs session.running none)
    ∙ all_alike is_ready test session_opening opening_queue session.queues s.queues stands.count at

-- ---- the buffers that a job takes

abbrev pub no_queued : Queued
no_queued = record { buffer = blank_buffer 0 0; held = record { queue = 0; index = 0; mem = OfFrame (record { tag = 0; bytes = [] }) } }

-- the buffer that is queued first
abbrev pub front : SessionState → ℕ → Queued
front session t = get_or (session_queue session t).queued 0 no_queued

-- there is one on each queue of the model
abbrev pub IsFull : SessionState → Type 0
IsFull session = (t : ℕ) → has_type session.model t ≡ true → nat_lt 0 (length (session_queue session t).queued) ≡ true

pub first_is : (d : Queued) (xs : List Queued) → nat_lt 0 (length xs) ≡ true → first_of xs ≡ Some (get_or xs 0 d)
first_is d [] some = absurd (false≢true some)
first_is d (x ∷ xs) some = refl

pub split : (d : Queued) (xs : List Queued) → nat_lt 0 (length xs) ≡ true → get_or xs 0 d ∷ drop 1 xs ≡ xs
split d [] some = absurd (false≢true some)
split d (x ∷ xs) some = refl

pub can_full : (session : SessionState) → IsSound session → can_begin session ≡ true → (session.running ≡ None) × IsFull session
can_full session sound can =
    let both : _ = and_parts (not (is_some session.running)) (list_all is_ready session.queues) can in (
      idle session.running both.0,
      λ t has. (and_parts (session_queue session t).streaming _ (AllPass-from_list_all is_ready session.queues both.1 (place_in (types_of session.model) t) session_opening
          (omega (arith, ltb-true (place_in (types_of session.model) t) (length (types_of session.model)) has, sound.queues)))).1,
    )
  where
    idle : {A : Type 0} (o : Option A) → not (is_some o) ≡ true → o ≡ None
    idle None is = refl
    idle (Some x) is = absurd (false≢true is)

-- the records that the job takes are those of the first buffers, in the model's order
pub taken_are : (session : SessionState) (number : ℕ) (m : Model) → session.model ≡ m → IsFull session →
    taken_by (begun session number).running ≡ map (λ t. (front session t).buffer) (types_of m)
taken_are session number Capture is full =
    let C : ℕ = BUF_TYPE_CAPTURE in
    let f : Option Queued → Option Queued → List BufferRec = λ o d. taken_by (option_map (running_with (next_spec session number) o) d) in
    let src : next_src session ≡ None = ap (λ x. option_and_then (λ t. first_of (session_queue session t).queued) (source_queue x)) is in
    let dst : next_dst session ≡ Some (front session C) =
    ap (λ x. first_of (session_queue session (picture_queue x)).queued) is
    ∙ first_is no_queued (session_queue session C).queued (full C (ap (λ x. has_type x C) is)) in
    ap (λ o. f o (next_dst session)) src ∙ ap (λ d. f None d) dst
taken_are session number Convert is full =
    let C : ℕ = BUF_TYPE_CAPTURE in
    let O : ℕ = BUF_TYPE_OUTPUT in
    let f : Option Queued → Option Queued → List BufferRec = λ o d. taken_by (option_map (running_with (next_spec session number) o) d) in
    let src : next_src session ≡ Some (front session O) =
    ap (λ x. option_and_then (λ t. first_of (session_queue session t).queued) (source_queue x)) is
    ∙ first_is no_queued (session_queue session O).queued (full O (ap (λ x. has_type x O) is)) in
    let dst : next_dst session ≡ Some (front session C) =
    ap (λ x. first_of (session_queue session (picture_queue x)).queued) is
    ∙ first_is no_queued (session_queue session C).queued (full C (ap (λ x. has_type x C) is)) in
    ap (λ o. f o (next_dst session)) src ∙ ap (λ d. f (Some (front session O)) d) dst

-- one record for each type of a model: those of a type
pub one_of_type : (m : Model) (f : ℕ → BufferRec) → ((t : ℕ) → has_type m t ≡ true → (f t).kind ≡ t) → (t : ℕ) →
    of_type t (map f (types_of m)) ≡ (if has_type m t then f t ∷ [] else [])
one_of_type Capture f kinds t =
    let C : ℕ = BUF_TYPE_CAPTURE in
    elim (cases_Bool (C == t)) as (λ _. of_type t (map f (types_of Capture)) ≡ (if has_type Capture t then f t ∷ [] else [])) [
      | inl is ↦
          let P : ℕ → Type 0 = λ u. of_type u (map f (types_of Capture)) ≡ (if has_type Capture u then f u ∷ [] else []) in
          subst P (eqb-true C t is) (rw (kinds C refl) refl)
      | inr not ↦ rw (kinds C refl, not) refl
    ]
one_of_type Convert f kinds t =
    let C : ℕ = BUF_TYPE_CAPTURE in
    let O : ℕ = BUF_TYPE_OUTPUT in
    let P : ℕ → Type 0 = λ u. of_type u (map f (types_of Convert)) ≡ (if has_type Convert u then f u ∷ [] else []) in
    elim (cases_Bool (O == t)) as (λ _. P t) [
      | inl is ↦ subst P (eqb-true O t is) (rw (kinds O refl, kinds C refl) refl)
      | inr not ↦ elim (cases_Bool (C == t)) as (λ _. P t) [
        | inl is ↦ subst P (eqb-true C t is) (rw (kinds O refl, kinds C refl) refl)
        | inr never ↦ rw (kinds O refl, kinds C refl, not, never) refl
      ]
    ]

-- ---- the queues of a session that began a job

pub begun_queue : (session : SessionState) (number t : ℕ) → session_queue (begun session number) t ≡ headless (session_queue session t)
begun_queue session number t = get_or-map headless session.queues (place_in (types_of session.model) t) session_opening

-- a queue that the model doesn't have is as it begins
no_queue : (session : SessionState) (t : ℕ) → IsSound session → has_type session.model t ≡ false → session_queue session t ≡ session_opening
no_queue session t sound hasnt =
    get_or_past session.queues (place_in (types_of session.model) t) session_opening
    (omega (arith, sound.queues, ltb-false (place_in (types_of session.model) t) (length (types_of session.model)) hasnt))

pub kinds_are : (frames : List ℕ) (session : SessionState) (s : LocalState) → Stands frames session s → session.running ≡ None → IsFull session →
    (t : ℕ) → has_type session.model t ≡ true → (front session t).buffer.kind ≡ t
kinds_are frames session s stands none full t has =
    let q : List Queued = (session_queue session t).queued in
    let on : StandsOn frames session s t = stands.each t in
    let waits : waiting session t ≡ map (λ (b : Queued). b.buffer) q = waits_idle session t none in
    let R : List BufferRec → Type 0 = λ rs. All (IsRecordOf s t) rs in
    let records : All (IsRecordOf s t) (map (λ (b : Queued). b.buffer) q) = subst R waits on.records in
    let split : front session t ∷ drop 1 q ≡ q = split no_queued q (full t has) in
    let M : List Queued → Type 0 = λ xs. All (IsRecordOf s t) (map (λ (b : Queued). b.buffer) xs) in
    (All-head (IsRecordOf s t) (front session t).buffer (map (λ (b : Queued). b.buffer) (drop 1 q)) (subst M (sym split) records)).kind

-- the buffers that wait are the same, in the same order
pub begun_waiting : (frames : List ℕ) (session : SessionState) (s : LocalState) (number t : ℕ) → Stands frames session s → IsSound session →
    session.running ≡ None → IsFull session → waiting (begun session number) t ≡ waiting session t
begun_waiting frames session s number t stands sound none full =
    let q : List Queued = (session_queue session t).queued in
    let buffers : List Queued → List BufferRec = λ xs. map (λ (b : Queued). b.buffer) xs in
    let heads : List BufferRec = map (λ u. (front session u).buffer) (types_of session.model) in
    let taken : of_type t (taken_by (begun session number).running) ≡ (if has_type session.model t then (front session t).buffer ∷ [] else []) =
    ap (λ rs. of_type t rs) (taken_are session number session.model refl full)
    ∙ one_of_type session.model (λ u. (front session u).buffer) (kinds_are frames session s stands none full) t in
    let here : waiting (begun session number) t ≡ (if has_type session.model t then (front session t).buffer ∷ [] else []) ++ buffers (drop 1 q) =
    ap (λ (x : SessionQueue). of_type t (taken_by (begun session number).running) ++ buffers x.queued) (begun_queue session number t)
    ∙ ap (λ rs. rs ++ buffers (drop 1 q)) taken in
    here ∙ (joined (has_type session.model t) refl ∙ sym (waits_idle session t none))
  where
    joined : (has : Bool) → has_type session.model t ≡ has →
        (if has then (front session t).buffer ∷ [] else []) ++ map (λ (b : Queued). b.buffer) (drop 1 (session_queue session t).queued)
        ≡ map (λ (b : Queued). b.buffer) (session_queue session t).queued
    joined true has = ap (λ xs. map (λ (b : Queued). b.buffer) xs) (split no_queued (session_queue session t).queued (full t has))
    joined false hasnt =
        let none : (session_queue session t).queued ≡ [] = ap (λ (x : SessionQueue). x.queued) (no_queue session t sound hasnt) in
        ap (λ xs. map (λ (b : Queued). b.buffer) (drop 1 xs)) none ∙ ap (λ xs. map (λ (b : Queued). b.buffer) xs) (sym none)
