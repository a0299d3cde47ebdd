-- New formats keep a session sound.
use Rattle.std.proofs.Common.{◌≡◌, ℕ, zero, suc, ◌==◌, eqb-true, eq-eqb, Bool, true, false, ◌||◌, if◌then◌else◌, nat_lt, List, [], ◌∷◌, length, get_or, Option, Some, None, refl, sym, ◌∙◌, subst, arith}
use Rattle.std.specs.Prelude.{IfSome, All}
use Rattle.std.specs.List.{list_any}
use Rattle.std.specs.Option.{option_map}
use Rattle.std.proofs.lemmas.Bool.Decides.{nat_tests}
use Rattle.std.proofs.lemmas.List.{length-set}
use Rattle.v4l_const.specs.declared.four_cc.FourCc.{FourCc}
use Rattle.v4l_const.specs.declared.model.Model.{Model}
use Rattle.v4l_const.specs.declared.model.Model.TheVariants.{Capture, Convert}
use Rattle.v4l_const.specs.Model.{queues as types_of, source_queue, picture_queue}
use Rattle.v4l_format.specs.declared.fmt.Fmt.{Fmt}
use Rattle.v4l_format.specs.Fmt.{adjusted}
use Rattle.v4l_rules.proofs.SetLemmas.{formatted_keeps}
use Rattle.v4l_rules.specs.Formats.{adjusted_from, is_source, sized_as, with_format_at, with_set_format_at, with_source_format}
use Rattle.v4l_rules.specs.Queues.{place_in, queue_at}
use Rattle.vm_queue.specs.declared.queued.Queued.{Queued}
use Rattle.vm_session.specs.State.{SessionQueue, SessionState, opening_queue, queue_kind, queue_of, queue_has_buffers, adjusted_for}
use Rattle.vm_session.specs.Sound.{IsSound, SameSize, TakesSize}

-- ---- a queue without buffers

empty_of : (xs : List ℕ) → nat_lt 0 (length xs) ≡ false → xs ≡ []
empty_of [] none = refl
empty_of (x ∷ xs) none = grind (arith, nat_tests, none)

first_none : (a b : Bool) → (a || b) ≡ false → a ≡ false
first_none false b none = refl
first_none true b none = none

rest_none : (a b : Bool) → (a || b) ≡ false → b ≡ false
rest_none false b none = none
rest_none true false none = refl
rest_none true true none = none

pub no_lengths : (qs : List SessionQueue) (i : ℕ) → list_any queue_has_buffers qs ≡ false → (get_or qs i opening_queue).lengths ≡ []
no_lengths [] i none = refl
no_lengths (q ∷ qs) zero none = empty_of q.lengths (first_none (queue_has_buffers q) (list_any queue_has_buffers qs) none)
no_lengths (q ∷ qs) (suc i) none = no_lengths qs i (rest_none (queue_has_buffers q) (list_any queue_has_buffers qs) none)

-- ---- a format is taken in the size of what the pictures are made from

abbrev HasSize : Model → List SessionQueue → Type 0
HasSize m qs = IfSome (source_queue m) (λ t. SameSize (queue_at queue_kind m qs t).format (queue_at queue_kind m qs (picture_queue m)).format)

abbrev Takes : Model → List SessionQueue → ℕ → Fmt → Type 0
Takes m qs t f = IfSome (source_queue m) (λ source. t ≡ picture_queue m → SameSize (queue_at queue_kind m qs source).format f)

sized_picture : (size f : Fmt) (b : Bool) → b ≡ true → SameSize size (if b then sized_as size f else f)
sized_picture size f true is = (refl, refl)
sized_picture size f false is = cc

taken_size : (m : Model) (qs : List SessionQueue) (o : Option ℕ) (t : ℕ) (f : FourCc) (w h : ℕ)
    → IfSome o (λ source. t ≡ picture_queue m → SameSize (queue_at queue_kind m qs source).format
    (adjusted_from (option_map (λ u. (queue_at queue_kind m qs u).format) o) m t f w h))
taken_size m qs None t f w h = tt
taken_size m qs (Some source) t f w h =
    λ is. sized_picture (queue_at queue_kind m qs source).format (adjusted f w h) (t == picture_queue m) (eq-eqb t (picture_queue m) is)

pub takes_size : (s : SessionState) (t : ℕ) (f : FourCc) (w h : ℕ) → TakesSize s t (adjusted_for s t f w h)
takes_size s t f w h = taken_size s.model s.queues (source_queue s.model) t f w h

-- ---- setting one

-- the two queues of a converter
both_sized : (q r : SessionQueue) (t : ℕ) (f : Fmt) (a b : Bool) → (2 == t) ≡ a → (1 == t) ≡ b → HasSize Convert (q ∷ r ∷ []) → Takes Convert (q ∷ r ∷ []) t f
    → HasSize Convert (with_set_format_at queue_kind Convert (q ∷ r ∷ []) t f)
unfolding with_set_format_at
both_sized q r t f true b is_out is_cap size takes =
    subst (λ u. HasSize Convert (with_set_format_at queue_kind Convert (q ∷ r ∷ []) u f)) (eqb-true 2 t is_out) (refl, refl)
both_sized q r t f false true is_out is_cap size takes =
    subst (λ u. HasSize Convert (with_set_format_at queue_kind Convert (q ∷ r ∷ []) u f)) (eqb-true 1 t is_cap) (takes (sym (eqb-true 1 t is_cap)))
both_sized q r t f false false is_out is_cap size takes = rw (is_out, is_cap) size

still_sized : (m : Model) (qs : List SessionQueue) (t : ℕ) (f : Fmt) → length qs ≡ length (types_of m) → HasSize m qs → Takes m qs t f
    → HasSize m (with_set_format_at queue_kind m qs t f)
still_sized Capture qs t f len size takes = tt
still_sized Convert [] t f len size takes = absurd (omega (arith, len))
still_sized Convert (q ∷ []) t f len size takes = absurd (omega (arith, len))
still_sized Convert (q ∷ r ∷ []) t f len size takes = both_sized q r t f (2 == t) (1 == t) refl refl size takes
still_sized Convert (q ∷ r ∷ x ∷ xs) t f len size takes = absurd (omega (arith, len))

still_many : (m : Model) (qs : List SessionQueue) (t : ℕ) (f : Fmt) → length (with_set_format_at queue_kind m qs t f) ≡ length qs
unfolding with_set_format_at
still_many m qs t f =
    elim (is_source m t) as (λ b. length (if b then with_source_format queue_kind m qs t f else with_format_at queue_kind m qs t f) ≡ length qs) [
      | true ↦ length-set (with_format_at queue_kind m qs t f) (place_in (types_of m) (picture_queue m)) _ ∙ length-set qs (place_in (types_of m) t) _
      | false ↦ length-set qs (place_in (types_of m) t) _
    ]

-- a session where the format of the queue of type t was set is sound
pub sound_formats : (s : SessionState) (t : ℕ) (f : Fmt) (written : List SessionQueue) → IsSound s → TakesSize s t f
    → written ≡ with_set_format_at queue_kind s.model s.queues t f
    → IsSound (record { model = s.model; id = s.id; input = s.input; queues = written; made = s.made; running = s.running; unsent = s.unsent })
sound_formats s t f written sound takes is =
    let P : List SessionQueue → Type 0 = λ qs. IsSound (record { model = s.model; id = s.id; input = s.input; queues = qs; made = s.made; running = s.running; unsent = s.unsent }) in
    let out : (u : ℕ) → (queue_at queue_kind s.model (with_set_format_at queue_kind s.model s.queues t f) u).out ≡ (queue_of s u).out =
    λ u. formatted_keeps queue_kind (λ q. q.out) (λ q g. refl) s.model s.queues t f (place_in (types_of s.model) u) in
    let queued : (u : ℕ) → (queue_at queue_kind s.model (with_set_format_at queue_kind s.model s.queues t f) u).queued ≡ (queue_of s u).queued =
    λ u. formatted_keeps queue_kind (λ q. q.queued) (λ q g. refl) s.model s.queues t f (place_in (types_of s.model) u) in
    subst P (sym is) (record {
      queues = still_many s.model s.queues t f ∙ sound.queues;
      input = sound.input;
      size = still_sized s.model s.queues t f sound.queues sound.size takes;
      each = λ u. record {
        out = out u ∙ (sound.each u).out;
        kinds = subst (λ (bs : List Queued). All (λ b. b.buffer.kind ≡ u) bs) (sym (queued u)) (sound.each u).kinds;
      };
      paired = sound.paired;
      eventless = sound.eventless;
      few = sound.few;
    })
