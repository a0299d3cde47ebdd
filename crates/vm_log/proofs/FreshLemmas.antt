-- A log before its first line.
use Rattle.std.proofs.Common.{ℕ, refl, arith}
use Rattle.v4l_const.specs.declared.model.Model.{Model}
use Rattle.v4l_const.specs.declared.model.Model.TheVariants.{Capture, Convert}
use Rattle.vm_log.specs.LegalLog.{IsSound, fresh_log}

pub fresh_sound : (model : Model) (lines : ℕ) → IsSound (fresh_log model lines)
fresh_sound Capture lines = record {
  legal = refl;
  in_place = record { places = refl; each = λ m. tt };
  out = tt;
  within = record { few = omega arith; to_come = omega arith; made = omega arith };
}
fresh_sound Convert lines = record {
  legal = refl;
  in_place = record { places = refl; each = λ m. tt };
  out = tt;
  within = record { few = omega arith; to_come = omega arith; made = omega arith };
}
