-- What a pass shows to contracts.
use Rattle.std.specs.Prelude.{Bool, true, if◌then◌else◌, List, [], length, Option, Some, nat_lt}
use Rattle.atomic_table.specs.Seated.{TableId}

-- A pass is of one table. It has the fixed value, and a list of entries, which is the whole list
-- if it is the holder's.
pub record Pass (S E : Type 0) : Type 0 where
  pub table : TableId
  pub fixed : Option S
  pub entries : List E
  pub holds : Bool

-- the holder's pass at the start
abbrev pub first_pass : {S E : Type 0} → TableId → S → Pass S E
first_pass table fixed = record { table = table; fixed = Some fixed; entries = []; holds = true }

-- the name of no table, for a name that isn't picked
abbrev pub no_table : TableId
no_table = record {
  words = 0;
  slots = 0;
  views_name = 0;
  atom = 0;
  block = 0;
  offset = 0;
  slot_names = [];
}

-- the longer of two lists, and the first of two as long as each other
abbrev pub longer : {E : Type 0} → List E → List E → List E
longer xs ys = if nat_lt (length xs) (length ys) then ys else xs
