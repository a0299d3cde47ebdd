-- The formats that queues begin with and take are adjusted ones.
use Rattle.std.proofs.Common.{ℕ, true, false, Option, Some, None, refl, lit≤, eqb, if◌then◌else◌}
use Rattle.std.specs.Prelude.{IfSome}
use Rattle.v4l_const.specs.declared.four_cc.FourCc.{FourCc}
use Rattle.v4l_const.specs.declared.model.Model.{Model}
use Rattle.v4l_const.specs.Model.{picture_queue}
use Rattle.v4l_format.specs.declared.fmt.Fmt.{Fmt}
use Rattle.v4l_format.specs.Fmt.{IsAdjusted, adjusted}
use Rattle.v4l_format.specs.FormatRow.{row_of}
use Rattle.v4l_format.proofs.FmtLemmas.{adjusted_is_adjusted}
use Rattle.v4l_rules.specs.Formats.{adjusted_from, first_format, sized_as}

pub first_is_adjusted : IsAdjusted first_format
unfolding row_of
first_is_adjusted = record {
  known = refl;
  width = record { even = refl; low = lit≤ tt; high = lit≤ tt };
  height = record { even = refl; low = lit≤ tt; high = lit≤ tt };
}

pub sized_adjusted : (size f : Fmt) → IsAdjusted size → IsAdjusted f → IsAdjusted (sized_as size f)
sized_adjusted size f sized code = record { known = code.known; width = sized.width; height = sized.height }

pub adjusted_from_adjusted : (source : Option Fmt) (m : Model) (t : ℕ) (f : FourCc) (w h : ℕ) → IfSome source IsAdjusted → IsAdjusted (adjusted_from source m t f w h)
adjusted_from_adjusted None m t f w h known = adjusted_is_adjusted f w h
adjusted_from_adjusted (Some size) m t f w h known =
    elim (eqb t (picture_queue m)) as (λ b. IsAdjusted (if b then sized_as size (adjusted f w h) else adjusted f w h)) [
      | true ↦ sized_adjusted size (adjusted f w h) known (adjusted_is_adjusted f w h)
      | false ↦ adjusted_is_adjusted f w h
    ]
