-- What keeps a session sound.
use Rattle.std.proofs.Common.{◌≡◌, ℕ, zero, suc, ◌+◌, ◌<◌, ◌≤◌, ◌==◌, eqb-true, Bool, true, false, if◌then◌else◌, nat_lt, List, [], ◌∷◌, ◌++◌, length, map, get_or, set, Option, Some, None, not, is_some, ◌&&◌, refl, sym, ap, ◌∙◌, subst, arith, lit<, lit≤}
use Rattle.std.specs.Prelude.{IfSome, All}
use Rattle.std.proofs.Math.ListN.{get_or-map}
use Rattle.std.proofs.lemmas.Bool.Decides.{nat_tests}
use Rattle.std.proofs.lemmas.List.{length-set, length-map}
use Rattle.v4l_const.specs.declared.model.Model.{Model}
use Rattle.v4l_const.specs.declared.model.Model.TheVariants.{Capture, Convert}
use Rattle.v4l_const.specs.Model.{queues as types_of, source_queue, picture_queue}
use Rattle.v4l_format.specs.declared.fmt.Fmt.{Fmt}
use Rattle.v4l_format.specs.Pattern.{patterns}
use Rattle.v4l_rules.proofs.SetLemmas.{set_keeps}
use Rattle.v4l_rules.specs.Queues.{opening_queues, place_in, queue_at}
use Rattle.vm_queue.specs.declared.queued.Queued.{Queued}
use Rattle.vm_session.specs.declared.running.Running.{Running}
use Rattle.vm_session.specs.declared.unsent.Unsent.{Unsent}
use Rattle.vm_session.specs.Buffers.{stopped_queue, stopped}
use Rattle.vm_session.specs.State.{SessionQueue, SessionState, opening_queue, queue_kind, queue_of, with_queue, pictures, is_quiet}
use Rattle.vm_session.specs.Sound.{IsSound, SameSize, indices_of, returning, taken_by}

-- ---- the places of types

place_case : (v t u pt pu k : ℕ) (a b : Bool) → (v == t) ≡ a → (v == u) ≡ b → (if b then 0 else pu + 1) ≡ (if a then 0 else pt + 1)
    → (if a then 0 else pt + 1) < suc k → (pu ≡ pt → pt < k → u ≡ t) → u ≡ t
place_case v t u pt pu k true true is_t is_u same within rest = sym (eqb-true v u is_u) ∙ eqb-true v t is_t
place_case v t u pt pu k true false is_t is_u same within rest = absurd (omega (arith, same))
place_case v t u pt pu k false true is_t is_u same within rest = absurd (omega (arith, same))
place_case v t u pt pu k false false is_t is_u same within rest = rest (omega (arith, same)) (omega (arith, within))

-- two types of one place are one, where the place is that of a type
pub one_place : (types : List ℕ) (t u : ℕ) → place_in types u ≡ place_in types t → place_in types t < length types → u ≡ t
one_place [] t u same within = absurd (omega (arith, within))
one_place (v ∷ vs) t u same within =
    place_case v t u (place_in vs t) (place_in vs u) (length vs) (v == t) (v == u) refl refl same within (one_place vs t u)

-- ---- a queue in the place of another

-- what holds of each queue holds where the one that is put in meets it too
pub set_case : {Q : Type 0} (P : Q → Type 0) (d : Q) (qs : List Q) (p : ℕ) (v : Q) (i : ℕ) → (i ≡ p → p < length qs → P v) → P (get_or qs i d) → P (get_or (set qs p v) i d)
set_case P d [] p v i new old = old
set_case P d (q ∷ qs) zero v zero new old = new refl (omega arith)
set_case P d (q ∷ qs) zero v (suc i) new old = old
set_case P d (q ∷ qs) (suc p) v zero new old = old
set_case P d (q ∷ qs) (suc p) v (suc i) new old =
    set_case P d qs p v i (λ same within. new (ap suc same) (omega (arith, within))) old

-- ---- sound sessions

pub none_queued : (t : ℕ) → All (λ (b : Queued). b.buffer.kind ≡ t) []
none_queued t = λ k d below. absurd (omega (arith, below))

nothing_out : (o : Option Running) (u : List Unsent) → (not (is_some o) && not (nat_lt 0 (length u))) ≡ true → returning u ++ taken_by o ≡ []
nothing_out None [] quiet = refl
nothing_out None (e ∷ es) quiet = grind (arith, nat_tests, quiet)
nothing_out (Some r) u quiet = cc

-- nothing is out of a session that is quiet
pub quiet_out : (s : SessionState) → IsSound s → is_quiet s ≡ true → (t : ℕ) → (queue_of s t).out ≡ []
quiet_out s sound quiet t =
    (sound.each t).out ∙ ap (indices_of t) (nothing_out s.running s.unsent quiet)

module _ (s : SessionState) (sound : IsSound s) where
  -- the queue of type t is changed, but neither in its format nor in what is out
  module _ (t : ℕ) (q : SessionQueue) (made : ℕ) (format : q.format ≡ (queue_of s t).format) (out : q.out ≡ (queue_of s t).out)
      (kinds : All (λ b. b.buffer.kind ≡ t) q.queued) where
    abbrev pub changed : SessionState
    changed = record (with_queue s t q) { made = made }

    format_kept : (u : ℕ) → (queue_of changed u).format ≡ (queue_of s u).format
    format_kept u = set_keeps opening_queue (λ x. x.format) s.queues (place_in (types_of s.model) t) q format (place_in (types_of s.model) u)

    out_kept : (u : ℕ) → (queue_of changed u).out ≡ (queue_of s u).out
    out_kept u = set_keeps opening_queue (λ x. x.out) s.queues (place_in (types_of s.model) t) q out (place_in (types_of s.model) u)

    kinds_kept : (u : ℕ) → All (λ b. b.buffer.kind ≡ u) (queue_of changed u).queued
    kinds_kept u =
        let P : SessionQueue → Type 0 = λ x. All (λ b. b.buffer.kind ≡ u) x.queued in
        let K : ℕ → Type 0 = λ n. All (λ b. b.buffer.kind ≡ n) q.queued in
        set_case P opening_queue s.queues (place_in (types_of s.model) t) q (place_in (types_of s.model) u)
        (λ same within. subst K (sym (one_place (types_of s.model) t u same (rw sound.queues at within))) kinds)
        (sound.each u).kinds

    size_kept : (o : Option ℕ) → IfSome o (λ u. SameSize (queue_of s u).format (pictures s).format) → IfSome o (λ u. SameSize (queue_of changed u).format (pictures changed).format)
    size_kept None h = tt
    size_kept (Some u) h =
        let p : ℕ = picture_queue s.model in (
          ap (λ (f : Fmt). f.width) (format_kept u) ∙ h.0 ∙ ap (λ (f : Fmt). f.width) (sym (format_kept p)),
          ap (λ (f : Fmt). f.height) (format_kept u) ∙ h.1 ∙ ap (λ (f : Fmt). f.height) (sym (format_kept p)),
        )

    pub sound_with : IsSound changed
    sound_with = record {
      queues = length-set s.queues (place_in (types_of s.model) t) q ∙ sound.queues;
      input = sound.input;
      size = size_kept (source_queue s.model) sound.size;
      each = λ u. record { out = out_kept u ∙ (sound.each u).out; kinds = kinds_kept u };
      paired = sound.paired;
      eventless = sound.eventless;
      few = sound.few;
    }

-- the same, where the queues are written back
pub sound_after : (s : SessionState) (t : ℕ) (q : SessionQueue) (made : ℕ) (written : List SessionQueue) → IsSound s
    → written ≡ set s.queues (place_in (types_of s.model) t) q
    → q.format ≡ (queue_of s t).format → q.out ≡ (queue_of s t).out → All (λ b. b.buffer.kind ≡ t) q.queued
    → IsSound (record { model = s.model; id = s.id; input = s.input; queues = written; made = made; running = s.running; unsent = s.unsent })
sound_after s t q made written sound is format out kinds =
    let P : List SessionQueue → Type 0 = λ qs. IsSound (record { model = s.model; id = s.id; input = s.input; queues = qs; made = made; running = s.running; unsent = s.unsent }) in
    subst P (sym is) (sound_with s sound t q made format out kinds)

-- ---- a session that is opened, one whose input is set, and one that stops

opening_at : (m : Model) (t : ℕ) → queue_at queue_kind m (opening_queues queue_kind m) t ≡ opening_queue
opening_at m t = get_or-map (λ (_ : ℕ). opening_queue) (types_of m) (place_in (types_of m) t) 0

opening_many : (m : Model) → length (opening_queues queue_kind m) ≡ length (types_of m)
opening_many Capture = refl
opening_many Convert = refl

opening_size : (m : Model) → IfSome (source_queue m)
    (λ t. SameSize (queue_at queue_kind m (opening_queues queue_kind m) t).format (queue_at queue_kind m (opening_queues queue_kind m) (picture_queue m)).format)
opening_size Capture = tt
opening_size Convert = (refl, refl)

pub sound_opening : (m : Model) (id : ℕ) (queues : List SessionQueue) → queues ≡ opening_queues queue_kind m
    → IsSound (record { model = m; id = id; input = 0; queues = queues; made = 0; running = None; unsent = [] })
sound_opening m id queues is =
    let P : List SessionQueue → Type 0 = λ qs. IsSound (record { model = m; id = id; input = 0; queues = qs; made = 0; running = None; unsent = [] }) in
    subst P (sym is) (record {
      queues = opening_many m;
      input = lit< tt;
      size = opening_size m;
      each = λ t. record {
        out = ap (λ (q : SessionQueue). q.out) (opening_at m t);
        kinds = subst (λ (q : SessionQueue). All (λ b. b.buffer.kind ≡ t) q.queued) (sym (opening_at m t)) (none_queued t);
      };
      paired = tt;
      eventless = λ no. λ k d below. absurd (omega (arith, below));
      few = lit≤ tt;
    })

pub sound_input : (s : SessionState) (i : ℕ) → IsSound s → i < length patterns → IsSound (record s { input = i })
sound_input s i sound within = record {
  queues = sound.queues;
  input = within;
  size = sound.size;
  each = λ t. record { out = (sound.each t).out; kinds = (sound.each t).kinds };
  paired = sound.paired;
  eventless = sound.eventless;
  few = sound.few;
}

stopped_at : (s : SessionState) (t : ℕ) → queue_of (stopped s) t ≡ stopped_queue (queue_of s t)
stopped_at s t = get_or-map stopped_queue s.queues (place_in (types_of s.model) t) opening_queue

stopped_size : (s : SessionState) (o : Option ℕ) → IfSome o (λ t. SameSize (queue_of s t).format (pictures s).format)
    → IfSome o (λ t. SameSize (queue_of (stopped s) t).format (pictures (stopped s)).format)
stopped_size s None same = tt
stopped_size s (Some t) same = rw (stopped_at s t, stopped_at s (picture_queue s.model)) same

pub sound_stopped : (s : SessionState) (written : List SessionQueue) → IsSound s → written ≡ map stopped_queue s.queues
    → IsSound (record { model = s.model; id = s.id; input = s.input; queues = written; made = s.made; running = s.running; unsent = s.unsent })
sound_stopped s written sound is =
    let P : List SessionQueue → Type 0 = λ qs. IsSound (record { model = s.model; id = s.id; input = s.input; queues = qs; made = s.made; running = s.running; unsent = s.unsent }) in
    subst P (sym is) (record {
      queues = length-map s.queues stopped_queue ∙ sound.queues;
      input = sound.input;
      size = stopped_size s (source_queue s.model) sound.size;
      each = λ t. record {
        out = ap (λ (q : SessionQueue). q.out) (stopped_at s t) ∙ (sound.each t).out;
        kinds = subst (λ (q : SessionQueue). All (λ b. b.buffer.kind ≡ t) q.queued) (sym (stopped_at s t)) (none_queued t);
      };
      paired = sound.paired;
      eventless = sound.eventless;
      few = sound.few;
    })

-- ---- a queue

-- without buffers none is queued, and whichever format it has goes into each
pub none_there : (P : Queued → Type 0) (queued : List Queued) (out lengths : List ℕ) → length queued + length out ≤ length lengths → lengths ≡ [] → All P queued
none_there P [] out lengths away none = λ k d below. absurd (omega (arith, below))
none_there P (b ∷ bs) out lengths away none =
    let nothing : length lengths ≡ 0 = ap (λ (xs : List ℕ). length xs) none in
    absurd (omega (arith, away, nothing))

pub no_sizes : (P : ℕ → Type 0) (lengths : List ℕ) → lengths ≡ [] → All P lengths
no_sizes P lengths none = subst (λ (xs : List ℕ). All P xs) (sym none) (λ k d below. absurd (omega (arith, below)))
