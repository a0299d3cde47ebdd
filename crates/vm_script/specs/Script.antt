-- A script as data.
use Rattle.std.specs.Prelude.{ℕ, List}
use Rattle.v4l_const.specs.declared.model.Model.{Model}
use Rattle.vm_script.specs.declared.line.Line.{Line}

-- the names of the handles in the order of their open lines, and the statements
pub record ProcessLines : Type 0 where
  pub handles : List (List ℕ)
  pub lines : List Line

pub record ScriptLines : Type 0 where
  pub model : Model
  pub processes : List ProcessLines
