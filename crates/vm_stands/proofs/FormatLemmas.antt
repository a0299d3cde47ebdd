-- A session and a handle of which the same format is set, and of which the same queue starts.
use Rattle.std.proofs.Common.{◌≡◌, inl, inr, ℕ, zero, suc, ◌<◌, Bool, true, false, List, [], ◌∷◌, length, get_or, set, map, refl, sym, ap, ◌∙◌, subst, arith, get_or-set_same, get_or-set_other, length-set, if◌then◌else◌}
use Rattle.std.proofs.lemmas.Bool.{cases_eq}
use Rattle.std.proofs.lemmas.List.{length-map}
use Rattle.std.proofs.Math.ListN.{get_or-map}
use Rattle.v4l_const.specs.declared.model.Model.{Model}
use Rattle.v4l_const.specs.Model.{queues as types_of, picture_queue}
use Rattle.v4l_format.specs.declared.fmt.Fmt.{Fmt}
use Rattle.v4l_rules.specs.Formats.{first_format, is_source, sized_as, with_format_at, with_source_format, with_set_format_at}
use Rattle.v4l_rules.specs.Queues.{QueueKind, place_in, queue_at}
use Rattle.v4l_rules.proofs.SeenLemmas.{Sees, set_seen}
use Rattle.v4l_rules.proofs.SetLemmas.{set_keeps, formatted_keeps}
use Rattle.vm_local.specs.State.{QueueState, LocalState, opening_queue, queue_kind, queue_of, with_queue}
use Rattle.vm_local.specs.Queue.{with_set_format, started}
use Rattle.vm_session.specs.State.{SessionQueue, SessionState, opening_queue as session_opening, queue_kind as session_kind, queue_of as session_queue, with_queue as session_with_queue, with_set_format as session_with_format}
use Rattle.vm_session.specs.Buffers.{started as session_started}
use Rattle.vm_session.specs.Sound.{IsSound}
use Rattle.vm_stands.specs.Stands.{StandsOn, Stands}
use Rattle.vm_stands.proofs.AlikeLemmas.{at_place, fixed_there, fixed_here, IsStill, still_on}

-- ---- formats by themselves

abbrev pub format_kind : QueueKind Fmt
format_kind = record { opening = first_format; format = λ f. f; reformatted = λ q f. f }

sees_there : Sees session_kind format_kind (λ q. q.format)
sees_there = record { opening = refl; format = λ q. refl; reformatted = λ q f. refl }

sees_here : Sees queue_kind format_kind (λ q. q.format)
sees_here = record { opening = refl; format = λ q. refl; reformatted = λ q f. refl }

pub lists_same : {A : Type 0} (d e : A) (xs ys : List A) → length xs ≡ length ys → ((k : ℕ) → k < length xs → get_or xs k d ≡ get_or ys k e) → xs ≡ ys
lists_same d e [] [] long same = refl
lists_same d e [] (y ∷ ys) long same = absurd (omega (arith, long))
lists_same d e (x ∷ xs) [] long same = absurd (omega (arith, long))
lists_same d e (x ∷ xs) (y ∷ ys) long same =
    let rest : xs ≡ ys = lists_same d e xs ys (omega (arith, long)) (λ k within. same (suc k) (omega (arith, within))) in
    ap (λ z. z ∷ xs) (same zero (omega arith)) ∙ ap (λ zs. y ∷ zs) rest

formats_alike : (frames : List ℕ) (session : SessionState) (s : LocalState) → Stands frames session s → IsSound session →
    map (λ (q : SessionQueue). q.format) session.queues ≡ map (λ (q : QueueState). q.format) s.queues
formats_alike frames session s stands sound =
    let there : SessionQueue → Fmt = λ q. q.format in
    let here : QueueState → Fmt = λ q. q.format in
    let long : length (map there session.queues) ≡ length (map here s.queues) = length-map session.queues there ∙ (stands.count ∙ sym (length-map s.queues here)) in
    lists_same first_format first_format (map there session.queues) (map here s.queues) long
    (λ k within. get_or-map there session.queues k session_opening
    ∙ (at_place frames session s stands sound (λ x q. x.format ≡ q.format) (λ t. (stands.each t).format) k (subst (λ n. k < n) (length-map session.queues there) within)
    ∙ sym (get_or-map here s.queues k opening_queue)))

-- ---- a format is set

pub set_long : {Q : Type 0} (kind : QueueKind Q) (m : Model) (qs : List Q) (t : ℕ) (f : Fmt) → length (with_set_format_at kind m qs t f) ≡ length qs
unfolding with_set_format_at
set_long kind m qs t f =
    let p : ℕ = place_in (types_of m) t in
    let once : List _ = with_format_at kind m qs t f in
    let g : Fmt = sized_as f (kind.format (queue_at kind m qs (picture_queue m))) in
    let one : length once ≡ length qs = length-set qs p (kind.reformatted (queue_at kind m qs t) f) in
    elim (is_source m t) as (λ b. length (if b then with_source_format kind m qs t f else with_format_at kind m qs t f) ≡ length qs) [
      | true ↦ length-set once (place_in (types_of m) (picture_queue m)) (kind.reformatted (queue_at kind m once (picture_queue m)) g) ∙ one
      | false ↦ one
    ]

set_formats : (frames : List ℕ) (session : SessionState) (s : LocalState) (t u : ℕ) (f : Fmt) → Stands frames session s → IsSound session →
    (session_queue (session_with_format session t f) u).format ≡ (queue_of (with_set_format s t f) u).format
set_formats frames session s t u f stands sound =
    let there : SessionQueue → Fmt = λ q. q.format in
    let here : QueueState → Fmt = λ q. q.format in
    let F : Model → List Fmt → Fmt = λ m fs. get_or (with_set_format_at format_kind m fs t f) (place_in (types_of m) u) first_format in
    sym (get_or-map there (with_set_format_at session_kind session.model session.queues t f) (place_in (types_of session.model) u) session_opening)
    ∙ (ap (λ fs. get_or fs (place_in (types_of session.model) u) first_format) (sym (set_seen session_kind format_kind there sees_there session.model session.queues t f))
    ∙ (ap (λ m. F m (map there session.queues)) stands.model
    ∙ (ap (λ fs. F s.model fs) (formats_alike frames session s stands sound)
    ∙ (ap (λ fs. get_or fs (place_in (types_of s.model) u) first_format) (set_seen queue_kind format_kind here sees_here s.model s.queues t f)
    ∙ get_or-map here (with_set_format_at queue_kind s.model s.queues t f) (place_in (types_of s.model) u) opening_queue))))

pub set_stands : (frames : List ℕ) (session : SessionState) (s : LocalState) (t : ℕ) (f : Fmt) → Stands frames session s → IsSound session →
    Stands frames (session_with_format session t f) (with_set_format s t f)
set_stands frames session s t f stands sound =
    let x : SessionState = session_with_format session t f in
    let v : LocalState = with_set_format s t f in
    let there : (A : Type 0) (part : SessionQueue → A) → ((q : SessionQueue) (g : Fmt) → part (record q { format = g }) ≡ part q) → (u : ℕ) →
    part (session_queue x u) ≡ part (session_queue session u) = λ A part still u.
    formatted_keeps session_kind part still session.model session.queues t f (place_in (types_of session.model) u) in
    let here : (A : Type 0) (part : QueueState → A) → ((q : QueueState) (g : Fmt) → part (record q { format = g }) ≡ part q) → (p : ℕ) →
    part (get_or v.queues p opening_queue) ≡ part (get_or s.queues p opening_queue) = λ A part still p.
    formatted_keeps queue_kind part still s.model s.queues t f p in
    let still : IsStill session x s v = record {
      model = refl;
      running = refl;
      memories = refl;
      count = set_long queue_kind s.model s.queues t f;
      fixed = here QueueState fixed_here (λ q g. refl);
    } in
    record {
      opened = stands.opened;
      model = stands.model;
      input = stands.input;
      count = set_long session_kind session.model session.queues t f ∙ (stands.count ∙ sym (set_long queue_kind s.model s.queues t f));
      made = stands.made;
      took = stands.took;
      each = λ u. still_on frames session x s v u (stands.each u) still (there SessionQueue fixed_there (λ q g. refl) u) (here QueueState fixed_here (λ q g. refl) (place_in (types_of s.model) u))
          (set_formats frames session s t u f stands sound)
          (there Bool (λ q. q.streaming) (λ q g. refl) u ∙ ((stands.each u).streaming ∙ sym (here Bool (λ q. q.streaming) (λ q g. refl) (place_in (types_of s.model) u))))
          (there ℕ (λ q. q.sequence) (λ q g. refl) u ∙ ((stands.each u).sequence ∙ sym (here ℕ (λ q. q.next_sequence) (λ q g. refl) (place_in (types_of s.model) u))));
    }

-- ---- one queue is another

-- the same place of both gets queues that are related
pub put_pair : (frames : List ℕ) (session : SessionState) (s : LocalState) (t : ℕ) (v : SessionQueue) (w : QueueState) → Stands frames session s →
    place_in (types_of s.model) t < length s.queues → (R : SessionQueue → QueueState → Type 0) → R v w → ((u : ℕ) → R (session_queue session u) (queue_of s u)) →
    (u : ℕ) → R (session_queue (session_with_queue session t v) u) (queue_of (with_queue s t w) u)
put_pair frames session s t v w stands within R new old u =
    let p : ℕ = place_in (types_of s.model) t in
    let k : ℕ = place_in (types_of s.model) u in
    let P : Model → Type 0 = λ m. R (get_or (set session.queues (place_in (types_of m) t) v) (place_in (types_of m) u) session_opening) (get_or (set s.queues p w) k opening_queue) in
    let was : R (get_or session.queues k session_opening) (queue_of s u) =
    subst (λ m. R (get_or session.queues (place_in (types_of m) u) session_opening) (queue_of s u)) stands.model (old u) in
    let inside : p < length session.queues = omega (arith, within, stands.count) in
    subst P (sym stands.model) (elim (cases_eq k p) as (λ _. P s.model) [
      | inl same ↦
          let Q : ℕ → Type 0 = λ j. R (get_or (set session.queues p v) j session_opening) (get_or (set s.queues p w) j opening_queue) in
          let A : SessionQueue → Type 0 = λ x. R x (get_or (set s.queues p w) p opening_queue) in
          let B : QueueState → Type 0 = λ y. R v y in
          subst Q (sym same) (subst A (sym (get_or-set_same session.queues p v session_opening inside)) (subst B (sym (get_or-set_same s.queues p w opening_queue within)) new))
      | inr apart ↦
          let A : SessionQueue → Type 0 = λ x. R x (get_or (set s.queues p w) k opening_queue) in
          let B : QueueState → Type 0 = λ y. R (get_or session.queues k session_opening) y in
          subst A (sym (get_or-set_other session.queues p k v session_opening apart)) (subst B (sym (get_or-set_other s.queues p k w opening_queue apart)) was)
    ])

-- a queue starts
pub started_stands : (frames : List ℕ) (session : SessionState) (s : LocalState) (t : ℕ) → Stands frames session s → place_in (types_of s.model) t < length s.queues →
    Stands frames (session_with_queue session t (session_started (session_queue session t))) (with_queue s t (started (queue_of s t)))
started_stands frames session s t stands within =
    let v : SessionQueue = session_started (session_queue session t) in
    let w : QueueState = started (queue_of s t) in
    let x : SessionState = session_with_queue session t v in
    let y : LocalState = with_queue s t w in
    let p : ℕ = place_in (types_of s.model) t in
    let on : StandsOn frames session s t = stands.each t in
    let fixed : (k : ℕ) → fixed_here (get_or y.queues k opening_queue) ≡ fixed_here (get_or s.queues k opening_queue) = set_keeps opening_queue fixed_here s.queues p w refl in
    let R : SessionQueue → QueueState → Type 0 = λ a b. (a.format ≡ b.format) × (a.streaming ≡ b.streaming) × (a.sequence ≡ b.next_sequence) in
    let pairs : (u : ℕ) → R (session_queue x u) (queue_of y u) =
    put_pair frames session s t v w stands within R (on.format, refl, λ j. if (on.streaming j) then (on.sequence j) else 0)
    (λ u. ((stands.each u).format, (stands.each u).streaming, (stands.each u).sequence)) in
    let still : IsStill session x s y = record { model = refl; running = refl; memories = refl; count = length-set s.queues p w; fixed = fixed } in
    record {
      opened = stands.opened;
      model = stands.model;
      input = stands.input;
      count = length-set session.queues (place_in (types_of session.model) t) v ∙ (stands.count ∙ sym (length-set s.queues p w));
      made = stands.made;
      took = stands.took;
      each = λ u. still_on frames session x s y u (stands.each u) still
          (set_keeps session_opening fixed_there session.queues (place_in (types_of session.model) t) v refl (place_in (types_of session.model) u))
          (fixed (place_in (types_of s.model) u)) (pairs u).0 (pairs u).1 (pairs u).2;
    }

-- another input is chosen
pub input_stands : (frames : List ℕ) (session : SessionState) (s : LocalState) (i : ℕ) → Stands frames session s →
    Stands frames (record session { input = i }) (record s { input = i })
input_stands frames session s i stands =
    let x : SessionState = record session { input = i } in
    let y : LocalState = record s { input = i } in
    let still : IsStill session x s y = record { model = refl; running = refl; memories = refl; count = refl; fixed = λ p. refl } in
    record {
      opened = stands.opened;
      model = stands.model;
      input = refl;
      count = stands.count;
      made = stands.made;
      took = stands.took;
      each = λ u. still_on frames session x s y u (stands.each u) still refl refl (stands.each u).format (stands.each u).streaming (stands.each u).sequence;
    }
