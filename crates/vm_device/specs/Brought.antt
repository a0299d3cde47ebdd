-- What a QBUF brings: the one memory of its chain, as its record and the bytes behind its payload
-- tell of it. Source: own, after the scatter lists of the VIRTIO 1.4 draft's media device.
use Rattle.std.specs.Prelude.{ℕ, ◌==◌, ◌&&◌, Bool, true, not, nat_le, if◌then◌else◌, List, [], ◌∷◌, length, sum_by, is_some, Result, Ok, Err}
use Rattle.std.specs.Option.{option_map_or}
use Rattle.v4l_const.specs.declared.errno.Errno.{Errno}
use Rattle.v4l_const.specs.declared.errno.Errno.TheVariants.{Efault}
use Rattle.v4l_const.specs.declared.ioctl_code.IoctlCode.{IoctlCode}
use Rattle.v4l_const.specs.declared.ioctl_code.IoctlCode.TheVariants.{QBuf}
use Rattle.v4l_const.specs.declared.numbers.TheConstants.{MEMORY_MMAP, MEMORY_USERPTR}
use Rattle.v4l_layout.specs.declared.buffer_rec.BufferRec.{BufferRec}
use Rattle.vm_frame.specs.declared.mem.Held.{Held}
use Rattle.vm_frame.specs.declared.mem.Mem.{Mem}
use Rattle.vm_frame.specs.declared.mem.Mem.TheVariants.{OfFrame, OfUser}
use Rattle.vm_frame.specs.Scatter.{scatter_fault}
use Rattle.vm_sg.specs.Wire.{entries_in}
use Rattle.vm_wire.specs.Buffers.{buffer_in}
use Rattle.vm_session.specs.State.{SessionState, queue_of}
use Rattle.vm_session.specs.Mapped.{given_length}

-- the memory is for the buffer that the record names
abbrev pub is_named : BufferRec → Held → Bool
is_named b h = h.queue == b.kind && h.index == b.index

-- The memory is of the record's kind, and of its length: of a frame its own bytes, of a user's
-- memory those that the entries on the wire name. These are at most 249, and have no fault on its
-- pages.
abbrev pub is_told : BufferRec → List ℕ → Mem → Bool
is_told b wire (OfFrame frame) = b.memory == MEMORY_MMAP && length frame.bytes == b.length
is_told b wire (OfUser user) =
    b.memory == MEMORY_USERPTR && (nat_le (length (entries_in wire)) 249
    && (not (is_some (scatter_fault (entries_in wire) user.pages))
    && sum_by (λ e. e.len) (entries_in wire) == b.length))

-- the buffer that the record names isn't a frame of another length
abbrev pub keeps_length : SessionState → BufferRec → Bool
keeps_length s b =
    option_map_or (λ n. n == b.length) (given_length (queue_of s b.kind) b.index) true

-- the memory with what came on the wire: a user's memory has the entries that stand there
abbrev pub loaded : List ℕ → Mem → Mem
loaded wire (OfFrame frame) = OfFrame frame
loaded wire (OfUser user) = OfUser (record user { entries = entries_in wire })

-- What a QBUF comes with: where its chain has just one memory, and that is the one of the record,
-- this memory with what came on the wire. All else is a bad address.
abbrev pub brought : SessionState → BufferRec → List ℕ → List Held → Result (List Held) Errno
brought s b wire [] = Err Efault
brought s b wire (h ∷ []) =
    if is_named b h && (is_told b wire h.mem && keeps_length s b)
    then Ok (record h { mem = loaded wire h.mem } ∷ [])
    else Err Efault
brought s b wire (h ∷ g ∷ hs) = Err Efault

-- what a call of the session comes with: what is brought, and else the memories of its chain as
-- they are
abbrev pub comes_with : SessionState → IoctlCode → List ℕ → List ℕ → List Held →
    Result (List Held) Errno
comes_with s QBuf payload wire held = brought s (buffer_in payload) wire held
comes_with s code payload wire held = Ok held
