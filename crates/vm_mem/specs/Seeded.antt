-- The bytes that a seed gives.
use Rattle.std.specs.Prelude.{ℕ, ◌+◌, ◌*◌, ◌%◌, List, map}
use Rattle.std.specs.List.{range_with_len}

-- n bytes that a seed gives: byte i is (7 * i + seed) modulo 256
abbrev pub seeded : ℕ → ℕ → List ℕ
seeded seed n = map (λ i. (7 * i + seed) % 256) (range_with_len 0 n)
