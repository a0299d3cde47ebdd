-- The entries of a scatter list on the wire.
-- Source: own, after the VIRTIO 1.4 draft, "Media Device".
use Rattle.std.specs.Prelude.{ℕ, ◌+◌, ◌*◌, ◌/◌, List, length, take, drop, map}
use Rattle.std.specs.Int.{w32, w64, from_le_bytes}
use Rattle.std.specs.List.{range_with_len}
use Rattle.vm_frame.specs.declared.scatter.SgEntry.{SgEntry}

-- the i-th entry: in its 16 bytes stand its start, of 8, its length, of 4, and a pad
abbrev pub entry_at : List ℕ → ℕ → SgEntry
entry_at wire i = record {
  start = from_le_bytes w64 (take 8 (drop (16 * i) wire));
  len = from_le_bytes w32 (take 4 (drop (16 * i + 8) wire));
}

-- all entries
abbrev pub entries_in : List ℕ → List SgEntry
entries_in wire = map (entry_at wire) (range_with_len 0 (length wire / 16))
