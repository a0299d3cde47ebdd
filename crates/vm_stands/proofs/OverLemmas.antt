-- Messages that are under way lead on from the state after a call that crossed and stops no queue, as from that before it.
use Rattle.std.proofs.Common.{◌≡◌, inl, inr, ℕ, zero, suc, ◌+◌, ◌*◌, ◌%◌, ◌^◌, ◌<◌, ◌&&◌, ◌||◌, nat_lt, Bool, true, false, not, List, [], ◌∷◌, ◌++◌, length, get_or, set, map, drop, Option, Some, None, refl, sym, ap, ◌∙◌, subst, arith, length-set, if◌then◌else◌}
use Rattle.std.specs.Prelude.{slice_index}
use Rattle.std.specs.List.{list_all}
use Rattle.std.proofs.lemmas.Bool.{true≢false, cases_eq, cases_Bool, and_parts, and_from, not-true, ltb-true, lt-ltb}
use Rattle.std.proofs.lemmas.List.{append-nil}
use Rattle.v4l_const.specs.declared.model.Model.{Model}
use Rattle.v4l_const.specs.declared.model.Model.TheVariants.{Capture, Convert}
use Rattle.v4l_const.specs.declared.numbers.TheConstants.{BUF_TYPE_CAPTURE, BUF_TYPE_OUTPUT}
use Rattle.v4l_const.specs.Model.{queues as types_of, source_queue, picture_queue, has_events}
use Rattle.v4l_format.specs.Fmt.{picture_size}
use Rattle.v4l_rules.specs.Queues.{place_in, has_type}
use Rattle.vm_local.specs.declared.buffer.Buffer.{Buffer}
use Rattle.vm_local.specs.declared.buffer.BufferState.TheVariants.{Owed}
use Rattle.vm_local.specs.declared.owed.Owed.{Owed as OwedEntry}
use Rattle.vm_local.specs.declared.owed.OwedItem.TheVariants.{Buffer as OwedBuffer, Sync}
use Rattle.vm_local.specs.State.{QueueState, LocalState, opening_queue, queue_of, buffer_of}
use Rattle.vm_local.specs.Kinds.{is_idle}
use Rattle.vm_local.specs.Queue.{is_empty, can_finish}
use Rattle.vm_local.specs.Live.{is_of_device}
use Rattle.vm_local.specs.Steps.{head, head_buffer, number_of, target, next_timestamp, timestamp_from, next_picture, picture_from, sync_of, buffer_taken, buffers_taken}
use Rattle.vm_commute.proofs.ReachedLemmas.{many_queues}
use Rattle.vm_home.specs.Moves.{memory_at}
use Rattle.vm_home.specs.Reached.{IsReached}
use Rattle.vm_home.proofs.RowLemmas.{type_at}
use Rattle.vm_stands.proofs.HoldLemmas.{place_same}
use Rattle.vm_stands.proofs.NextLemmas.{has_picture, has_source}
use Rattle.vm_stands.proofs.FrameLemmas.{frame_buffer, frame_queue, After, frame_other, frame_head}
use Rattle.vm_stands.proofs.FinishedLemmas.{frame_by, used_by, owed_by, Framed, framed}
use Rattle.vm_stands.proofs.StayLemmas.{IsNextAlike, picture_alike, target_alike, first_there, ready_is}

-- ---- the two states

-- The buffers that aren't Idle are the same, and stand in front of those that are queued besides. A queue that streams goes on
-- with its numbers, and one that has buffers keeps its format.
pub record IsOverQueue (q v : QueueState) : Type 0 where
  pub memory : v.memory ≡ q.memory
  pub many : length v.buffers ≡ length q.buffers
  pub buffers : (i : ℕ) → is_idle (buffer_of q i).state ≡ false → buffer_of v i ≡ buffer_of q i
  pub more : List ℕ
  pub queued : v.queued ≡ q.queued ++ more
  pub streaming : q.streaming ≡ true → (v.streaming ≡ true) × (v.next_sequence ≡ q.next_sequence)
  pub format : nat_lt 0 (length q.buffers) ≡ true → v.format ≡ q.format

pub record IsOver (s t : LocalState) : Type 0 where
  pub model : t.model ≡ s.model
  pub owed : t.owed ≡ s.owed
  pub memories : t.memories ≡ s.memories
  pub input : can_finish s ≡ true → t.input ≡ s.input
  pub queues : (u : ℕ) → IsOverQueue (queue_of s u) (queue_of t u)
  pub device : (m : ℕ) → is_of_device t m ≡ is_of_device s m

pub over_itself : (q : QueueState) → IsOverQueue q q
over_itself q = record {
  memory = refl;
  many = refl;
  buffers = λ i busy. refl;
  more = [];
  queued = sym (append-nil q.queued);
  streaming = λ is. (is, refl);
  format = λ some. refl;
}

-- ---- a frame

first_of_more : (xs ys : List ℕ) → is_empty xs ≡ false → slice_index (xs ++ ys) 0 ≡ slice_index xs 0
first_of_more [] ys some = absurd (true≢false some)
first_of_more (x ∷ xs) ys some = refl

some_of_more : (xs ys : List ℕ) → is_empty xs ≡ false → is_empty (xs ++ ys) ≡ false
some_of_more [] ys some = absurd (true≢false some)
some_of_more (x ∷ xs) ys some = refl

rest_of_more : (xs ys : List ℕ) → is_empty xs ≡ false → drop 1 (xs ++ ys) ≡ drop 1 xs ++ ys
rest_of_more [] ys some = absurd (true≢false some)
rest_of_more (x ∷ xs) ys some = refl

-- where all of one pass, all of the other do
all_then : {A B : Type 0} (p : A → Bool) (q : B → Bool) (d : A) (e : B) (xs : List A) (ys : List B) → length ys ≡ length xs →
    ((k : ℕ) → k < length xs → p (get_or xs k d) ≡ true → q (get_or ys k e) ≡ true) → list_all p xs ≡ true → list_all q ys ≡ true
all_then p q d e [] [] long implies all = refl
all_then p q d e [] (y ∷ ys) long implies all = absurd (omega (arith, long))
all_then p q d e (x ∷ xs) [] long implies all = absurd (omega (arith, long))
all_then p q d e (x ∷ xs) (y ∷ ys) long implies all =
    let both : _ = and_parts (p x) (list_all p xs) all in
    and_from (q y) (list_all q ys) (implies zero (omega arith) both.0)
    (all_then p q d e xs ys (omega (arith, long)) (λ k within. implies (suc k) (omega (arith, within))) both.1)

at_place : (s t : LocalState) → IsReached s → IsOver s t → (p : ℕ) → p < length s.queues → IsOverQueue (get_or s.queues p opening_queue) (get_or t.queues p opening_queue)
at_place s t reached over p within =
    let u : ℕ = get_or (types_of s.model) p 0 in
    let here : place_in (types_of s.model) u ≡ p = type_at s.model p (omega (arith, within, many_queues s reached)) in
    let there : place_in (types_of t.model) u ≡ p = ap (λ m. place_in (types_of m) u) over.model ∙ here in
    let P : ℕ → Type 0 = λ k. IsOverQueue (get_or s.queues k opening_queue) (queue_of t u) in
    let Q : ℕ → Type 0 = λ k. IsOverQueue (get_or s.queues p opening_queue) (get_or t.queues k opening_queue) in
    subst Q there (subst P here (over.queues u))

pub over_finish : (s t : LocalState) → IsReached s → IsReached t → IsOver s t → can_finish s ≡ true → can_finish t ≡ true
over_finish s t reached there over ready =
    let test : QueueState → Bool = λ q. q.streaming && not (is_empty q.queued) in
    let long : length t.queues ≡ length s.queues = many_queues t there ∙ (ap (λ m. length (types_of m)) over.model ∙ sym (many_queues s reached)) in
    all_then test test opening_queue opening_queue s.queues t.queues long (λ p within pass.
    let q : QueueState = get_or s.queues p opening_queue in
    let v : QueueState = get_or t.queues p opening_queue in
    let o : IsOverQueue q v = at_place s t reached over p within in
    let both : _ = and_parts q.streaming (not (is_empty q.queued)) pass in
    and_from v.streaming (not (is_empty v.queued)) (o.streaming both.0).0
    (ap (λ xs. not (is_empty xs)) o.queued ∙ ap not (some_of_more q.queued o.more (not-true (is_empty q.queued) both.1)))) ready

head_over : (s t : LocalState) (u : ℕ) → IsReached s → can_finish s ≡ true → has_type s.model u ≡ true → IsOver s t → head (queue_of t u) ≡ head (queue_of s u)
head_over s t u reached ready has over =
    ap (λ xs. slice_index xs 0) (over.queues u).queued ∙ first_of_more (queue_of s u).queued (over.queues u).more (ready_is s u reached ready has).1

buffer_over : (s t : LocalState) (u : ℕ) → IsReached s → can_finish s ≡ true → has_type s.model u ≡ true → IsOver s t →
    buffer_of (queue_of t u) (head (queue_of s u)) ≡ head_buffer (queue_of s u)
buffer_over s t u reached ready has over = (over.queues u).buffers (head (queue_of s u)) (ap is_idle (first_there s u reached ready has).1)

over_next : (s t : LocalState) → IsReached s → IsReached t → can_finish s ≡ true → IsOver s t → IsNextAlike s t
over_next s t reached there ready over = record {
  model = over.model;
  input = over.input ready;
  ready = over_finish s t reached there over ready;
  format = λ u has. (over.queues u).format (lt-ltb 0 (length (queue_of s u).buffers) (omega (arith, (first_there s u reached ready has).0)));
  sequence = λ u has. ((over.queues u).streaming (ready_is s u reached ready has).0).1;
  first = λ u has. head_over s t u reached ready has over;
  memory = λ u has. ap (λ (b : Buffer). number_of b) (buffer_over s t u reached ready has over);
  bytes = λ u has. ap (λ ms. get_or ms (memory_at s u (head (queue_of s u))) []) over.memories;
  device = λ m is. sym (over.device m) ∙ is;
}

head_buffer_over : (s t : LocalState) (u : ℕ) → IsReached s → can_finish s ≡ true → has_type s.model u ≡ true → IsOver s t → head_buffer (queue_of t u) ≡ head_buffer (queue_of s u)
head_buffer_over s t u reached ready has over =
    ap (λ i. buffer_of (queue_of t u) i) (head_over s t u reached ready has over) ∙ buffer_over s t u reached ready has over

stamp_from : (s t : LocalState) (o : Option ℕ) → IsReached s → IsReached t → can_finish s ≡ true → IsOver s t → ((u : ℕ) → o ≡ Some u → has_type s.model u ≡ true) →
    timestamp_from o t ≡ timestamp_from o s
stamp_from s t None reached there ready over has =
    ap (λ n. n * 40000) (target_alike s t (λ q. q.next_sequence) over.model (over_next s t reached there ready over).sequence)
stamp_from s t (Some u) reached there ready over has = ap (λ (b : Buffer). b.timestamp) (head_buffer_over s t u reached ready (has u refl) over)

stamp_over : (s t : LocalState) → IsReached s → IsReached t → can_finish s ≡ true → IsOver s t → next_timestamp t ≡ next_timestamp s
stamp_over s t reached there ready over =
    ap (λ m. timestamp_from (source_queue m) t) over.model
    ∙ stamp_from s t (source_queue s.model) reached there ready over (λ u is. has_source s.model u is)

picture_over : (s t : LocalState) → IsReached s → IsReached t → can_finish s ≡ true → IsOver s t → next_picture t ≡ next_picture s
picture_over s t reached there ready over =
    ap (λ m. picture_from (source_queue m) t) over.model
    ∙ picture_alike s t (source_queue s.model) (over_next s t reached there ready over) (λ u is. has_source s.model u is)

map_types : {A : Type 0} (m : Model) (f g : ℕ → A) → ((u : ℕ) → has_type m u ≡ true → f u ≡ g u) → map f (types_of m) ≡ map g (types_of m)
map_types Capture f g same = ap (λ x. x ∷ []) (same BUF_TYPE_CAPTURE refl)
map_types Convert f g same = λ j. same BUF_TYPE_OUTPUT refl j ∷ same BUF_TYPE_CAPTURE refl j ∷ []

owed_over : (s t : LocalState) (good : Bool) → IsReached s → IsReached t → can_finish s ≡ true → IsOver s t → owed_by good t ≡ owed_by good s
owed_over s t good reached there ready over = by_good good
  where
    taken : buffers_taken t ≡ buffers_taken s
    taken = ap (λ m. map (buffer_taken t) (types_of m)) over.model
        ∙ map_types s.model (buffer_taken t) (buffer_taken s) (λ u has. ap (λ i. record { queue = u; item = OwedBuffer i }) (head_over s t u reached ready has over))

    n : (target t).next_sequence ≡ (target s).next_sequence
    n = target_alike s t (λ q. q.next_sequence) over.model (over_next s t reached there ready over).sequence

    sync : sync_of t ≡ sync_of s
    sync = λ j. if has_events (over.model j) then (record { queue = picture_queue (over.model j); item = Sync (n j) }) ∷ [] else []

    by_good : (g : Bool) → owed_by g t ≡ owed_by g s
    by_good true = λ j. sync j ++ taken j
    by_good false = taken

frame_over : (good : Bool) (ts n : ℕ) (q v : QueueState) → IsOverQueue q v → head q < length q.buffers → head_buffer v ≡ head_buffer q → head v ≡ head q →
    is_empty q.queued ≡ false → q.streaming ≡ true → IsOverQueue (frame_queue good ts n q) (frame_queue good ts n v)
frame_over good ts n q v over within same at some streams =
    let number : v.next_sequence ≡ q.next_sequence = (over.streaming streams).1 in
    let b : frame_buffer good ts n v ≡ frame_buffer good ts n q =
    λ j. record { state = Owed; length = (same j).length; used = n; sequence = number j; timestamp = ts; is_bad = (same j).is_bad || not good; memory = (same j).memory } in
    let inside : head v < length v.buffers = omega (arith, within, at, over.many) in
    record {
      memory = over.memory;
      many = length-set v.buffers (head v) (frame_buffer good ts n v) ∙ (over.many ∙ sym (length-set q.buffers (head q) (frame_buffer good ts n q)));
      buffers = λ i busy. elim (cases_eq i (head q)) as (λ _. buffer_of (frame_queue good ts n v) i ≡ buffer_of (frame_queue good ts n q) i) [
        | inl is ↦ ap (λ k. buffer_of (frame_queue good ts n v) k) (is ∙ sym at)
            ∙ (frame_head good ts n v inside ∙ (b ∙ (sym (frame_head good ts n q within) ∙ ap (λ k. buffer_of (frame_queue good ts n q) k) (sym is))))
        | inr far ↦
            let here : buffer_of (frame_queue good ts n q) i ≡ buffer_of q i = frame_other good ts n q i far in
            frame_other good ts n v i (λ is. far (is ∙ at)) ∙ (over.buffers i (ap (λ (x : Buffer). is_idle x.state) (sym here) ∙ busy) ∙ sym here)
      ];
      more = over.more;
      queued = ap (λ xs. drop 1 xs) over.queued ∙ rest_of_more q.queued over.more some;
      streaming = λ is. ((over.streaming is).0, ap (λ k. (k + 1) % 2 ^ 32) (over.streaming is).1);
      format = λ long. over.format (ap (λ k. nat_lt 0 k) (sym (length-set q.buffers (head q) (frame_buffer good ts n q))) ∙ long);
    }

over_behind : (s t : LocalState) (good : Bool) (u n k : ℕ) (e es : List OwedEntry) → IsReached s → IsReached t → can_finish s ≡ true → IsOver s t →
    After s (frame_by good s) good n e → After t (frame_by good t) good k es → n ≡ k → IsOverQueue (queue_of (frame_by good s) u) (queue_of (frame_by good t) u)
over_behind s t good u n k e es reached there ready over a b used =
    let types : has_type t.model u ≡ has_type s.model u = ap (λ m. has_type m u) over.model in
    elim (cases_Bool (has_type s.model u)) as (λ _. IsOverQueue (queue_of (frame_by good s) u) (queue_of (frame_by good t) u)) [
      | inr hasnt ↦ subst (λ x. IsOverQueue x (queue_of (frame_by good t) u)) (sym (a.none u hasnt))
          (subst (λ y. IsOverQueue opening_queue y) (sym (b.none u (types ∙ hasnt))) (over_itself opening_queue))
      | inl has ↦
          let same : head_buffer (queue_of t u) ≡ head_buffer (queue_of s u) = head_buffer_over s t u reached ready has over in
          let first : (m : ℕ) × (queue_of (frame_by good s) u ≡ frame_queue good (next_timestamp s) m (queue_of s u)) × (queue_of (frame_by good t) u ≡ frame_queue good (next_timestamp t) m (queue_of t u)) =
          both has (types ∙ has) same in
          let P : QueueState → Type 0 = λ x. IsOverQueue x (queue_of (frame_by good t) u) in
          let Q : QueueState → Type 0 = λ y. IsOverQueue (frame_queue good (next_timestamp s) first.0 (queue_of s u)) y in
          let R : ℕ → Type 0 = λ ts. IsOverQueue (frame_queue good (next_timestamp s) first.0 (queue_of s u)) (frame_queue good ts first.0 (queue_of t u)) in
          let is : _ = ready_is s u reached ready has in
          subst P (sym first.1) (subst Q (sym first.2) (subst R (sym (stamp_over s t reached there ready over))
          (frame_over good (next_timestamp s) first.0 (queue_of s u) (queue_of t u) (over.queues u) (first_there s u reached ready has).0 same (head_over s t u reached ready has over) is.1 is.0)))
    ]
  where
    both : has_type s.model u ≡ true → has_type t.model u ≡ true → head_buffer (queue_of t u) ≡ head_buffer (queue_of s u) →
        (m : ℕ) × (queue_of (frame_by good s) u ≡ frame_queue good (next_timestamp s) m (queue_of s u)) × (queue_of (frame_by good t) u ≡ frame_queue good (next_timestamp t) m (queue_of t u))
    both has types same =
        let c : ℕ = picture_queue s.model in
        let d : ℕ = picture_queue t.model in
        elim (cases_eq (place_in (types_of s.model) u) (place_in (types_of s.model) c)) as (λ _. (m : ℕ) × (queue_of (frame_by good s) u ≡ frame_queue good (next_timestamp s) m (queue_of s u)) × (queue_of (frame_by good t) u ≡ frame_queue good (next_timestamp t) m (queue_of t u))) [
          | inl is ↦
              let mine : u ≡ c = place_same (types_of s.model) c u is (ltb-true (place_in (types_of s.model) c) (length (types_of s.model)) (has_picture s.model)) in
              let its : u ≡ d = mine ∙ ap (λ m. picture_queue m) (sym over.model) in (
                n,
                subst (λ w. queue_of (frame_by good s) w ≡ frame_queue good (next_timestamp s) n (queue_of s w)) (sym mine) a.picture,
                subst (λ w. queue_of (frame_by good t) w ≡ frame_queue good (next_timestamp t) n (queue_of t w)) (sym its)
                    (b.picture ∙ ap (λ m. frame_queue good (next_timestamp t) m (target t)) (sym used)),
              )
          | inr far ↦ (
            (head_buffer (queue_of s u)).used,
            a.other u has far,
            b.other u types (λ is. far (sym (ap (λ m. place_in (types_of m) u) over.model) ∙ (is ∙ ap (λ m. place_in (types_of m) (picture_queue m)) over.model)))
                ∙ ap (λ (x : Buffer). frame_queue good (next_timestamp t) x.used (queue_of t u)) same,
          )
        ]

memories_over : (s t : LocalState) (good : Bool) → IsReached s → IsReached t → can_finish s ≡ true → IsOver s t → (frame_by good t).memories ≡ (frame_by good s).memories
memories_over s t true reached there ready over =
    let alike : IsNextAlike s t = over_next s t reached there ready over in
    let picture : next_picture t ≡ next_picture s = picture_over s t reached there ready over in
    let format : (target t).format ≡ (target s).format = target_alike s t (λ q. q.format) over.model alike.format in
    let number : number_of (head_buffer (target t)) ≡ number_of (head_buffer (target s)) =
    ap (λ m. number_of (head_buffer (queue_of t (picture_queue m)))) over.model
    ∙ ap (λ (b : Buffer). number_of b) (head_buffer_over s t (picture_queue s.model) reached ready (has_picture s.model) over) in
    λ j. set (over.memories j) (number j) (picture j ++ drop (picture_size (format j)) (get_or (over.memories j) (number j) []))
memories_over s t false reached there ready over = over.memories

pub over_framed : (s t : LocalState) (good : Bool) → IsReached s → IsReached t → can_finish s ≡ true → IsOver s t → IsOver (frame_by good s) (frame_by good t)
over_framed s t good reached there ready over =
    let ready' : can_finish t ≡ true = over_finish s t reached there over ready in
    let a : Framed s good = framed s good reached ready in
    let b : Framed t good = framed t good there ready' in
    let format : (target s).format ≡ (target t).format = sym (target_alike s t (λ q. q.format) over.model (over_next s t reached there ready over).format) in
    record {
      model = b.after.model ∙ (over.model ∙ sym a.after.model);
      owed = b.after.owed ∙ ((λ j. over.owed j ++ owed_over s t good reached there ready over j) ∙ sym a.after.owed);
      memories = memories_over s t good reached there ready over;
      input = λ _. b.after.input ∙ (over.input ready ∙ sym a.after.input);
      queues = λ u. over_behind s t good u (used_by good s) (used_by good t) (owed_by good s) (owed_by good t) reached there ready over a.after b.after
          (ap (λ f. if good then picture_size f else 0) format);
      device = λ m. b.device m ∙ (over.device m ∙ sym (a.device m));
    }
