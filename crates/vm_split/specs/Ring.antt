-- What the bytes of a queue's page hold: a table of descriptors, a ring of available heads, and a
-- ring of used entries.
-- Source: VIRTIO 1.3, 2.7.5 "The Virtqueue Descriptor Table", 2.7.6 "The Virtqueue Available Ring",
-- 2.7.8 "The Virtqueue Used Ring"; that the three lie behind one another in a page of their own is
-- own.
use Rattle.std.specs.Prelude.{ℕ, suc, zero, true, ◌≡◌, ◌==◌, ◌+◌, ◌*◌, List, [], ◌∷◌, ◌++◌, take, drop, map, slice_set, ◌%◌, ◌^◌}
use Rattle.std.specs.List.{list_any}
use Rattle.std.specs.Int.{w16, w32, w64, from_le_bytes, to_le_bytes, next_multiple_of}
use Rattle.vm_chain.specs.declared.desc.Desc.{Desc}
use Rattle.vm_split.specs.declared.entry.UsedEntry.{UsedEntry}

-- as many descriptors as a queue may have
abbrev pub ring_sizes : List ℕ
ring_sizes = 1 ∷ 2 ∷ 4 ∷ 8 ∷ 16 ∷ 32 ∷ 64 ∷ []

-- one of them: a test, which a caller meets at a literal by computing
abbrev pub IsRingSize : ℕ → Type 0
IsRingSize size = list_any (λ other. size == other) ring_sizes ≡ true

-- The available ring stands behind the table, whose descriptors have 16 bytes.
abbrev pub available_at : ℕ → ℕ
available_at size = 16 * size

-- The used ring stands behind the available ring, which has an entry of 2 bytes for each descriptor
-- and 6 further bytes, at the next multiple of 4.
abbrev pub used_at : ℕ → ℕ
used_at size = next_multiple_of (18 * size + 6) 4

-- `count` runs of `len` bytes, which stand behind one another from `at` on
abbrev pub parts : ℕ → List ℕ → ℕ → ℕ → List (List ℕ)
parts len bytes at zero = []
parts len bytes at (suc count) = take len (drop at bytes) ∷ parts len bytes (at + len) count

-- the bytes of a descriptor, and the descriptor that they are
abbrev pub desc_bytes : Desc → List ℕ
desc_bytes d =
    to_le_bytes w64 d.addr ++
    (to_le_bytes w32 d.len ++ (to_le_bytes w16 d.flags ++ to_le_bytes w16 d.next))

abbrev pub desc_of : List ℕ → Desc
desc_of bytes = record {
  addr = from_le_bytes w64 (take 8 bytes);
  len = from_le_bytes w32 (take 4 (drop 8 bytes));
  flags = from_le_bytes w16 (take 2 (drop 12 bytes));
  next = from_le_bytes w16 (take 2 (drop 14 bytes));
}

-- the bytes of a used entry, and the entry that they are
abbrev pub entry_bytes : UsedEntry → List ℕ
entry_bytes e = to_le_bytes w32 e.id ++ to_le_bytes w32 e.len

abbrev pub entry_of : List ℕ → UsedEntry
entry_of bytes =
    record {
      id = from_le_bytes w32 (take 4 bytes);
      len = from_le_bytes w32 (take 4 (drop 4 bytes));
    }

-- The descriptors; the available ring's index and its heads; the used ring's index and its entries.
pub record Contents : Type 0 where
  pub table : List Desc
  pub available_index : ℕ
  pub available : List ℕ
  pub used_index : ℕ
  pub used : List UsedEntry

-- what the bytes of a queue of `size` descriptors hold: each ring begins with its flags, its index
-- and its entries
unfoldable pub contents_of : ℕ → List ℕ → Contents
contents_of size bytes = record {
  table = map desc_of (parts 16 bytes 0 size);
  available_index = from_le_bytes w16 (take 2 (drop (available_at size + 2) bytes));
  available = map (from_le_bytes w16) (parts 2 bytes (available_at size + 4) size);
  used_index = from_le_bytes w16 (take 2 (drop (used_at size + 2) bytes));
  used = map entry_of (parts 8 bytes (used_at size + 4) size);
}

-- a queue's size, its bytes and what they hold
pub record RingState : Type 0 where
  pub size : ℕ
  pub bytes : List ℕ
  pub contents : Contents

abbrev pub no_entry : UsedEntry
no_entry = record { id = 0; len = 0 }

-- the available entry of the index names the head, and the index is raised by one
abbrev pub offered : ℕ → ℕ → Contents → Contents
offered size head c = record c {
  available = slice_set c.available (c.available_index % size) head;
  available_index = (c.available_index + 1) % 2 ^ 16;
}

-- the used entry of the index names the chain, and the index is raised by one
abbrev pub given_back : ℕ → UsedEntry → Contents → Contents
given_back size entry c = record c {
  used = slice_set c.used (c.used_index % size) entry;
  used_index = (c.used_index + 1) % 2 ^ 16;
}
