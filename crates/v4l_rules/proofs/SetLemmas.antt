-- What a new format leaves as it was.
use Rattle.std.proofs.Common.{◌≡◌, ℕ, zero, suc, true, false, List, [], ◌∷◌, get_or, set, refl, ◌∙◌, if◌then◌else◌}
use Rattle.v4l_const.specs.declared.model.Model.{Model}
use Rattle.v4l_const.specs.Model.{queues as types_of, picture_queue}
use Rattle.v4l_format.specs.declared.fmt.Fmt.{Fmt}
use Rattle.v4l_rules.specs.Formats.{is_source, sized_as, with_format_at, with_set_format_at, with_source_format}
use Rattle.v4l_rules.specs.Queues.{QueueKind, place_in, queue_at}

-- what of each queue is as it was where one queue is put in a place that has the same of it
pub set_keeps : {Q A : Type 0} (d : Q) (part : Q → A) (qs : List Q) (p : ℕ) (v : Q) → part v ≡ part (get_or qs p d) →
    (i : ℕ) → part (get_or (set qs p v) i d) ≡ part (get_or qs i d)
set_keeps d part [] p v same i = refl
set_keeps d part (q ∷ qs) zero v same zero = same
set_keeps d part (q ∷ qs) zero v same (suc i) = refl
set_keeps d part (q ∷ qs) (suc p) v same zero = refl
set_keeps d part (q ∷ qs) (suc p) v same (suc i) = set_keeps d part qs p v same i

-- a part of the queues that no format changes
module _ {Q A : Type 0} (kind : QueueKind Q) (part : Q → A) (still : (q : Q) (f : Fmt) → part (kind.reformatted q f) ≡ part q) (m : Model) where
  one_keeps : (qs : List Q) (t : ℕ) (f : Fmt) (i : ℕ) → part (get_or (with_format_at kind m qs t f) i kind.opening) ≡ part (get_or qs i kind.opening)
  one_keeps qs t f = set_keeps kind.opening part qs (place_in (types_of m) t) _ (still (queue_at kind m qs t) f)

  pub formatted_keeps : (qs : List Q) (t : ℕ) (f : Fmt) (i : ℕ) → part (get_or (with_set_format_at kind m qs t f) i kind.opening) ≡ part (get_or qs i kind.opening)
  unfolding with_set_format_at
  formatted_keeps qs t f i =
      let g : Fmt = sized_as f (kind.format (queue_at kind m qs (picture_queue m))) in
      elim (is_source m t) as (λ b. part (get_or (if b then with_source_format kind m qs t f else with_format_at kind m qs t f) i kind.opening) ≡ part (get_or qs i kind.opening)) [
        | true ↦ one_keeps (with_format_at kind m qs t f) (picture_queue m) g i ∙ one_keeps qs t f i
        | false ↦ one_keeps qs t f i
      ]
