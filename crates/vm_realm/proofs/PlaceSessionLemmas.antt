-- Of the memories that are lent where nothing is owed each is queued in the session, or with its job, once.
use Rattle.std.proofs.Common.{◌≡◌, ℕ, ◌+◌, true, false, List, [], ◌∷◌, ◌++◌, Option, Some, None, is_some, get_or, map, All, refl, sym, ap, ◌∙◌, subst, arith}
use Rattle.std.specs.List.{flat_map}
use Rattle.std.specs.Prelude.{IfSome, slice_index}
use Rattle.std.specs.Option.{option_to_list, option_map}
use Rattle.std.proofs.lemmas.List.{map-append, length-map}
use Rattle.std.proofs.lemmas.List.Elements.{All-head, All-tail}
use Rattle.std.proofs.Math.ListN.{get_or-map}
use Rattle.v4l_const.specs.declared.model.Model.{Model}
use Rattle.v4l_const.specs.declared.model.Model.TheVariants.{Capture, Convert}
use Rattle.v4l_const.specs.declared.numbers.TheConstants.{BUF_TYPE_CAPTURE, BUF_TYPE_OUTPUT}
use Rattle.v4l_const.specs.Model.{queues as types_of, source_queue, picture_queue}
use Rattle.v4l_layout.specs.declared.buffer_rec.BufferRec.{BufferRec}
use Rattle.v4l_rules.specs.Queues.{has_type}
use Rattle.vm_frame.specs.declared.mem.Held.{Held}
use Rattle.vm_job.specs.Job.{JobParts}
use Rattle.vm_mem.specs.Lists.{occurrences}
use Rattle.vm_queue.specs.Buffers.{memories}
use Rattle.vm_queue.specs.declared.queued.Queued.{Queued}
use Rattle.vm_local.specs.State.{LocalState, queue_of}
use Rattle.vm_local.specs.Listed.{once}
use Rattle.vm_local.specs.Memory.{is_lent}
use Rattle.vm_local.specs.Steps.{head}
use Rattle.vm_home.specs.Moves.{queued_on, memory_at}
use Rattle.vm_home.specs.Reached.{IsReached}
use Rattle.vm_home.proofs.RowLemmas.{type_at}
use Rattle.vm_home.proofs.StopLemmas.{number_at}
use Rattle.vm_session.specs.Buffers.{queued_memories}
use Rattle.vm_session.specs.declared.running.Running.{Running}
use Rattle.vm_session.specs.State.{SessionQueue, SessionState, opening_queue, queue_of as session_queue}
use Rattle.vm_session.specs.Sound.{IsSound, taken_by}
use Rattle.vm_stands.specs.Stands.{of_type, IsMemoryAt, StandsOn, Stands, IsHead, IsHeadIf, IsNextIf}
use Rattle.vm_stands.proofs.FormatLemmas.{lists_same}
use Rattle.vm_stands.proofs.NextLemmas.{has_picture, has_source}
use Rattle.vm_stands.proofs.StopLemmas.{none_owed}
use Rattle.vm_stands.proofs.TookLemmas.{OneEach, one_of}
use Rattle.vm_realm.specs.Places.{numbers_in, job_held}
use Rattle.vm_realm.specs.Sound.{spec_running}
use Rattle.vm_realm.proofs.PlaceLemmas.{joined}
use Rattle.vm_realm.proofs.PlaceCountLemmas.{places_numbers, lent_count}

-- ---- what is queued in the session

abbrev indices : List BufferRec → List ℕ
indices rs = map (λ (r : BufferRec). r.index) rs

abbrev records : List Queued → List BufferRec
records xs = map (λ (b : Queued). b.buffer) xs

abbrev pub numbers_of : List SessionQueue → LocalState → List ℕ
numbers_of qs s = numbers_in s (queued_memories qs)

told_number : (s : LocalState) (t i : ℕ) (h : Held) → IsMemoryAt s t i h → memory_at s h.queue h.index ≡ memory_at s t i
told_number s t i h at = λ j. memory_at s (at.queue j) (at.index j)

held_numbers : (s : LocalState) (t : ℕ) (xs : List Queued) → All (λ (b : Queued). IsMemoryAt s t b.buffer.index b.held) xs →
    numbers_in s (memories xs) ≡ map (memory_at s t) (indices (records xs))
held_numbers s t [] all = refl
held_numbers s t (b ∷ bs) all =
    let P : Queued → Type 0 = λ x. IsMemoryAt s t x.buffer.index x.held in
    λ j. told_number s t b.buffer.index b.held (All-head P b bs all) j ∷ held_numbers s t bs (All-tail P b bs all) j

-- ---- what a job took of a queue

abbrev taken_numbers : LocalState → Option Running → ℕ → List ℕ
taken_numbers s running t = map (memory_at s t) (indices (of_type t (taken_by running)))

queue_count : (frames : List ℕ) (session : SessionState) (s : LocalState) (t m : ℕ) → StandsOn frames session s t →
    occurrences m (map (number_at s) (queued_on s t)) ≡ occurrences m (taken_numbers s session.running t) + occurrences m (numbers_in s (memories (session_queue session t).queued))
queue_count frames session s t m on =
    let taken : List BufferRec = of_type t (taken_by session.running) in
    let xs : List Queued = (session_queue session t).queued in
    let f : ℕ → ℕ = memory_at s t in
    let those : map (number_at s) (queued_on s t) ≡ map f (indices taken ++ indices (records xs)) =
    places_numbers s t (queue_of s t).queued ∙ ap (map f) (sym on.order ∙ map-append (λ (r : BufferRec). r.index) taken (records xs)) in
    ap (occurrences m) (those ∙ map-append f (indices taken) (indices (records xs)))
    ∙ (joined m (map f (indices taken)) (map f (indices (records xs)))
    ∙ ap (λ ns. occurrences m (map f (indices taken)) + occurrences m ns) (sym (held_numbers s t xs on.memories)))

numbers_append : (s : LocalState) (hs ks : List Held) → numbers_in s (hs ++ ks) ≡ numbers_in s hs ++ numbers_in s ks
numbers_append s hs ks = map-append (λ (h : Held). memory_at s h.queue h.index) hs ks

queues_count : (frames : List ℕ) (session : SessionState) (s : LocalState) (m : ℕ) (ts : List ℕ) → Stands frames session s →
    occurrences m (map (number_at s) (flat_map (queued_on s) ts))
    ≡ occurrences m (flat_map (taken_numbers s session.running) ts) + occurrences m (numbers_of (map (λ t. session_queue session t) ts) s)
queues_count frames session s m [] stands = refl
queues_count frames session s m (t ∷ ts) stands =
    let ps : List ℕ = map (number_at s) (queued_on s t) in
    let qs : List ℕ = map (number_at s) (flat_map (queued_on s) ts) in
    let here : List ℕ = numbers_in s (memories (session_queue session t).queued) in
    let more : List ℕ = numbers_of (map (λ u. session_queue session u) ts) s in
    let taken : List ℕ = taken_numbers s session.running t in
    let rest : List ℕ = flat_map (taken_numbers s session.running) ts in
    let split : occurrences m (map (number_at s) (flat_map (queued_on s) (t ∷ ts))) ≡ occurrences m ps + occurrences m qs =
    ap (occurrences m) (map-append (number_at s) (queued_on s t) (flat_map (queued_on s) ts)) ∙ joined m ps qs in
    let held : occurrences m (numbers_of (map (λ u. session_queue session u) (t ∷ ts)) s) ≡ occurrences m here + occurrences m more =
    ap (occurrences m) (numbers_append s (memories (session_queue session t).queued) (queued_memories (map (λ u. session_queue session u) ts))) ∙ joined m here more in
    let both : occurrences m (taken ++ rest) ≡ occurrences m taken + occurrences m rest = joined m taken rest in
    omega (arith, split, held, both, queue_count frames session s t m (stands.each t), queues_count frames session s m ts stands)

pub queues_are : (session : SessionState) → IsSound session → session.queues ≡ map (λ t. session_queue session t) (types_of session.model)
queues_are session sound =
    let f : ℕ → SessionQueue = λ t. session_queue session t in
    let types : List ℕ = types_of session.model in
    lists_same opening_queue (f 0) session.queues (map f types) (sound.queues ∙ sym (length-map types f))
    (λ k within. ap (λ p. get_or session.queues p opening_queue) (sym (type_at session.model k (omega (arith, within, sound.queues)))) ∙ sym (get_or-map f types k 0))

-- ---- the job

none_taken : (s : LocalState) (ts : List ℕ) → flat_map (taken_numbers s None) ts ≡ []
none_taken s [] = refl
none_taken s (t ∷ ts) = none_taken s ts

-- the job took the first buffer of a queue
first_taken : (frames : List ℕ) (session : SessionState) (s : LocalState) (r : Running) (t : ℕ) → Stands frames session s → session.running ≡ Some r → has_type s.model t ≡ true →
    taken_numbers s session.running t ≡ memory_at s t (head (queue_of s t)) ∷ []
first_taken frames session s r t stands runs has =
    let one : OneEach s.model (taken_by (Some r)) = subst (λ o. IfSome o (λ x. map (λ (b : BufferRec). b.kind) (taken_by (Some x)) ≡ types_of s.model)) runs stands.took in
    let w : (b : BufferRec) × (of_type t (taken_by (Some r)) ≡ b ∷ []) = one_of s.model (taken_by (Some r)) t one has in
    let is : of_type t (taken_by session.running) ≡ w.0 ∷ [] = ap (λ o. of_type t (taken_by o)) runs ∙ w.1 in
    let xs : List BufferRec = records (session_queue session t).queued in
    let first : head (queue_of s t) ≡ w.0.index =
    ap (λ ns. slice_index ns 0) (sym (stands.each t).order) ∙ ap (λ bs. slice_index (indices (bs ++ xs)) 0) is in
    ap (λ bs. map (memory_at s t) (indices bs)) is ∙ ap (λ i. memory_at s t i ∷ []) (sym first)

heads_numbers : (s : LocalState) (model : Model) (job : JobParts) → IsHeadIf s (source_queue model) job.src → IsHead s (picture_queue model) job.dst →
    numbers_in s (job_held (Some job)) ≡ flat_map (λ t. memory_at s t (head (queue_of s t)) ∷ []) (types_of model)
heads_numbers s Capture job src dst =
    ap (λ o. numbers_in s (option_to_list o ++ job.dst ∷ [])) src ∙ ap (λ n. n ∷ []) (told_number s BUF_TYPE_CAPTURE (head (queue_of s BUF_TYPE_CAPTURE)) job.dst dst)
heads_numbers s Convert job src dst = by_src job.src src
  where
    by_src : (o : Option Held) → IsHeadIf s (Some BUF_TYPE_OUTPUT) o →
        numbers_in s (option_to_list o ++ job.dst ∷ []) ≡ memory_at s BUF_TYPE_OUTPUT (head (queue_of s BUF_TYPE_OUTPUT)) ∷ memory_at s BUF_TYPE_CAPTURE (head (queue_of s BUF_TYPE_CAPTURE)) ∷ []
    by_src None is = absurd is
    by_src (Some h) is =
        λ j. told_number s BUF_TYPE_OUTPUT (head (queue_of s BUF_TYPE_OUTPUT)) h is j ∷ told_number s BUF_TYPE_CAPTURE (head (queue_of s BUF_TYPE_CAPTURE)) job.dst dst j ∷ []

has_capture : has_type Capture BUF_TYPE_CAPTURE ≡ true
has_capture = has_picture Capture

types_taken : (frames : List ℕ) (session : SessionState) (s : LocalState) (r : Running) (model : Model) → Stands frames session s → session.running ≡ Some r → s.model ≡ model →
    flat_map (taken_numbers s session.running) (types_of model) ≡ flat_map (λ t. memory_at s t (head (queue_of s t)) ∷ []) (types_of model)
types_taken frames session s r Capture stands runs is =
    let one : _ = first_taken frames session s r BUF_TYPE_CAPTURE stands runs (ap (λ m. has_type m BUF_TYPE_CAPTURE) is ∙ has_picture Capture) in
    ap (λ ns. ns ++ []) one
types_taken frames session s r Convert stands runs is =
    let one : _ = first_taken frames session s r BUF_TYPE_OUTPUT stands runs (ap (λ m. has_type m BUF_TYPE_OUTPUT) is ∙ has_source Convert BUF_TYPE_OUTPUT refl) in
    let two : _ = first_taken frames session s r BUF_TYPE_CAPTURE stands runs (ap (λ m. has_type m BUF_TYPE_CAPTURE) is ∙ has_picture Convert) in
    λ j. one j ++ (two j ++ [])

job_count : (frames : List ℕ) (session : SessionState) (s : LocalState) (job : Option JobParts) (running : Option Running) → Stands frames session s → IsNextIf s job → session.running ≡ running →
    is_some running ≡ is_some job → flat_map (taken_numbers s session.running) (types_of s.model) ≡ numbers_in s (job_held job)
job_count frames session s None None stands next runs same = ap (λ o. flat_map (taken_numbers s o) (types_of s.model)) runs ∙ none_taken s (types_of s.model)
job_count frames session s (Some job) (Some r) stands next runs same =
    types_taken frames session s r s.model stands runs refl ∙ sym (heads_numbers s s.model job next.src next.dst)
job_count frames session s None (Some r) stands next runs same = absurd (let no : true ≡ false = same in cc)
job_count frames session s (Some job) None stands next runs same = absurd (let no : false ≡ true = same in cc)

-- ---- both

some_mapped : {A B : Type 0} (f : A → B) (o : Option A) → is_some (option_map f o) ≡ is_some o
some_mapped f None = refl
some_mapped f (Some x) = refl

pub session_count : (frames : List ℕ) (session : SessionState) (s : LocalState) (job : Option JobParts) (m : ℕ) → Stands frames session s → IsSound session → IsReached s → s.owed ≡ [] → IsNextIf s job →
    spec_running (Some session) ≡ option_map (λ (j : JobParts). j.spec) job →
    occurrences m (numbers_in s (queued_memories session.queues)) + occurrences m (numbers_in s (job_held job)) ≡ once (is_lent s m)
session_count frames session s job m stands sound reached owed next runs =
    let types : List ℕ = types_of s.model in
    let same : is_some session.running ≡ is_some job =
    sym (some_mapped (λ (r : Running). r.spec) session.running) ∙ (ap is_some runs ∙ some_mapped (λ (j : JobParts). j.spec) job) in
    let those : session.queues ≡ map (λ t. session_queue session t) types = queues_are session sound ∙ ap (λ k. map (λ t. session_queue session t) (types_of k)) stands.model in
    let all : _ = queues_count frames session s m types stands in
    let held : occurrences m (numbers_in s (queued_memories session.queues)) ≡ occurrences m (numbers_of (map (λ t. session_queue session t) types) s) =
    ap (λ qs. occurrences m (numbers_in s (queued_memories qs))) those in
    let out : occurrences m (flat_map (taken_numbers s session.running) types) ≡ occurrences m (numbers_in s (job_held job)) =
    ap (occurrences m) (job_count frames session s job session.running stands next refl same) in
    omega (arith, all, held, out, lent_count s m reached (none_owed s types owed))
