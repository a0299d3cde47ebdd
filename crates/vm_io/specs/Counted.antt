-- One of std's readers or writers whose errors are counted, as contracts see it.
use Rattle.std.specs.Prelude.{ℕ}

-- the reader or the writer, and how many of its calls failed
pub record Counted (T : Type 0) : Type 0 where
  pub stream : T
  pub faults : ℕ
