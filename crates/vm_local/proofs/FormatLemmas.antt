-- A queue's new format, and the size that the other queue takes from it.
use Rattle.std.proofs.Common.{◌≡◌, ℕ, Bool, true, false, ◌<◌, ◌+◌, List, [], ◌∷◌, length, map, refl, sym, ap, ◌∙◌, subst, arith, eqb, slice_index_or, slice_set, if◌then◌else◌}
use Rattle.std.proofs.lemmas.Bool.{eqb-true}
use Rattle.v4l_const.specs.declared.four_cc.FourCc.{FourCc}
use Rattle.v4l_const.specs.declared.model.Model.{Model}
use Rattle.v4l_const.specs.declared.model.Model.TheVariants.{Capture, Convert}
use Rattle.v4l_const.specs.Model.{queues as types_of}
use Rattle.v4l_format.specs.declared.fmt.Fmt.{Fmt}
use Rattle.v4l_rules.specs.Formats.{taken_format, with_set_format_at}
use Rattle.v4l_rules.specs.Queues.{place_in}
use Rattle.vm_local.specs.State.{QueueState, LocalState, opening_queue, queue_kind}
use Rattle.vm_local.specs.Queue.{adjusted_for, with_set_format}
use Rattle.vm_local.specs.Sizes.{resized}

-- all queues resized, and the one in a place with just this format
abbrev pub refilled : List QueueState → ℕ → Fmt → List QueueState
refilled qs p g = slice_set (map (resized g) qs) p (record (slice_index_or qs p opening_queue) { format = g })

-- are the queues after a new format, by the buffer type's tests
abbrev pub Sets : Model → List QueueState → ℕ → Fmt → ℕ → Type 0
Sets m qs t g p = refilled qs p g ≡ with_set_format_at queue_kind m qs t g

module _ (f : FourCc) (w h : ℕ) where
  abbrev asked : Model → List QueueState → ℕ → Fmt
  asked m qs t = taken_format queue_kind m qs t f w h

  sets_capture : (q : QueueState) (t : ℕ) (test : Bool) → eqb 1 t ≡ test → (p : ℕ) → p ≡ (if test then 0 else 0 + 1) → p < 1 →
      Sets Capture (q ∷ []) t (asked Capture (q ∷ []) t) p
  unfolding with_set_format_at
  sets_capture q t true e p is within = rw (is, e) refl
  sets_capture q t false e p is within = absurd (omega (arith, is, within))

  sets_source : (q r : QueueState) → Sets Convert (q ∷ r ∷ []) 2 (asked Convert (q ∷ r ∷ []) 2) 0
  unfolding with_set_format_at
  sets_source q r = refl

  sets_target : (q r : QueueState) → Sets Convert (q ∷ r ∷ []) 1 (asked Convert (q ∷ r ∷ []) 1) 1
  unfolding with_set_format_at
  sets_target q r = refl

  sets_convert : (q r : QueueState) (t : ℕ) (source target : Bool) → eqb 2 t ≡ source → eqb 1 t ≡ target → (p : ℕ) →
      p ≡ (if source then 0 else (if target then 0 else 0 + 1) + 1) → p < 2 → Sets Convert (q ∷ r ∷ []) t (asked Convert (q ∷ r ∷ []) t) p
  sets_convert q r t true target e d p is within =
      let P : ℕ → Type 0 = λ u. Sets Convert (q ∷ r ∷ []) u (asked Convert (q ∷ r ∷ []) u) 0 in
      let none : p ≡ 0 = is in
      rw none (subst P (eqb-true 2 t e) (sets_source q r))
  sets_convert q r t false true e d p is within =
      let P : ℕ → Type 0 = λ u. Sets Convert (q ∷ r ∷ []) u (asked Convert (q ∷ r ∷ []) u) 1 in
      let one : p ≡ 1 = is in
      rw one (subst P (eqb-true 1 t d) (sets_target q r))
  sets_convert q r t false false e d p is within = absurd (omega (arith, is, within))

  pub sets : (m : Model) (qs : List QueueState) (t p : ℕ) → length qs ≡ length (types_of m) → p ≡ place_in (types_of m) t → p < length qs →
      Sets m qs t (asked m qs t) p
  sets Capture [] t p same is within = absurd (omega (arith, within))
  sets Capture (q ∷ []) t p same is within = sets_capture q t (eqb 1 t) refl p is within
  sets Capture (q ∷ r ∷ rest) t p same is within = absurd (omega (arith, same))
  sets Convert [] t p same is within = absurd (omega (arith, within))
  sets Convert (q ∷ []) t p same is within = absurd (omega (arith, same))
  sets Convert (q ∷ r ∷ []) t p same is within = sets_convert q r t (eqb 2 t) (eqb 1 t) refl refl p is within
  sets Convert (q ∷ r ∷ u ∷ rest) t p same is within = absurd (omega (arith, same))

-- the state after it
pub format_set_seen : (v s : LocalState) → v ≡ s → (t : ℕ) (f : FourCc) (w h p : ℕ) (g : Fmt) (qs : List QueueState) →
    length v.queues ≡ length (types_of v.model) → p ≡ place_in (types_of s.model) t → p < length s.queues → g ≡ adjusted_for s t f w h →
    qs ≡ refilled v.queues p g → record v { queues = qs } ≡ with_set_format s t (adjusted_for s t f w h)
format_set_seen v s seen t f w h p g qs same is within asked written =
    let P : LocalState → Type 0 = λ x. length x.queues ≡ length (types_of x.model) → qs ≡ refilled x.queues p g →
    record x { queues = qs } ≡ with_set_format s t (adjusted_for s t f w h) in
    let base : P s = λ long made.
    ap (λ xs. record s { queues = xs }) (made ∙ ap (refilled s.queues p) asked ∙ sets f w h s.model s.queues t p long is within) in
    subst P (sym seen) base same written
