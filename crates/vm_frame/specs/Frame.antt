-- The memory of one buffer.
use Rattle.std.specs.Prelude.{ℕ, List}

pub record TaggedBytes : Type 0 where
  pub tag : ℕ
  pub bytes : List ℕ
