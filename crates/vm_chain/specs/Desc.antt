-- What the flags of a descriptor say.
-- Source: VIRTIO 1.3, 2.7.5 "The Virtqueue Descriptor Table".
use Rattle.std.specs.Prelude.{ℕ, Bool, not, ◌==◌, bit_and, if◌then◌else◌, Option, Some, None}
use Rattle.vm_chain.specs.declared.desc.Desc.{Desc}
use Rattle.vm_chain.specs.declared.desc.TheConstants.{NEXT, WRITE, INDIRECT}

-- another descriptor follows
abbrev pub has_next : Desc → Bool
has_next d = not (bit_and d.flags NEXT == 0)

-- a descriptor with NEXT leads to the one that its `next` names; any other ends a walk
abbrev pub following : Desc → Option ℕ
following d = if has_next d then Some d.next else None

-- the device writes the bytes; else it reads them
abbrev pub is_writable : Desc → Bool
is_writable d = not (bit_and d.flags WRITE == 0)

abbrev pub is_readable : Desc → Bool
is_readable d = not (is_writable d)

-- the bytes are a table of descriptors
abbrev pub is_indirect : Desc → Bool
is_indirect d = not (bit_and d.flags INDIRECT == 0)
