-- The refusals of calls: which comes first, and those that a model decides.
-- Source: own, after the Linux V4L2 interface.
use Rattle.std.specs.Prelude.{ℕ, Bool, not, nat_lt, List, [], ◌∷◌, length, if◌then◌else◌, Option, Some, None}
use Rattle.v4l_const.specs.declared.errno.Errno.{Errno}
use Rattle.v4l_const.specs.declared.errno.Errno.TheVariants.{Einval, Enotty}
use Rattle.v4l_const.specs.declared.model.Model.{Model}
use Rattle.v4l_const.specs.Model.{has_inputs}
use Rattle.v4l_format.specs.Pattern.{patterns}
use Rattle.v4l_rules.specs.Queues.{has_type}

-- The first refusal that applies. Each stands with the test by which it does.
abbrev pub first_refusal : List (Bool × Errno) → Option Errno
first_refusal [] = None
first_refusal (r ∷ rs) = if r.0 then Some r.1 else first_refusal rs

-- t is no type of the model
abbrev pub no_type : Model → ℕ → Bool × Errno
no_type m t = (not (has_type m t), Einval)

abbrev pub no_inputs : Model → Bool × Errno
no_inputs m = (not (has_inputs m), Enotty)

abbrev pub no_input : ℕ → Bool × Errno
no_input i = (not (nat_lt i (length patterns)), Einval)
