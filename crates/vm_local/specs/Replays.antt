-- What is so of all legal logs.
use Rattle.std.specs.Prelude.{◌≡◌, List, Some}
use Rattle.v4l_const.specs.declared.model.Model.{Model}
use Rattle.vm_local.specs.declared.entry.Entry.{Entry}
use Rattle.vm_local.specs.State.{LocalState}
use Rattle.vm_local.specs.Log.{replay}

-- it is so of each legal log and the state that it leads to
abbrev pub EachReplay : (List Entry → LocalState → Type 0) → Type 0
EachReplay P = (m : Model) (log : List Entry) (s : LocalState) → replay m log ≡ Some s → P log s
