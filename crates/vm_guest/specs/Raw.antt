-- Raw lines: the chain that each of them posts, and what it is answered.
-- Source: own; the rules that the chains break are those of VIRTIO 1.3, 2.7 "Split Virtqueues".
use Rattle.std.specs.Prelude.{ℕ, ◌≤◌, ◌-◌, ◌^◌, ◌==◌, nat_lt, List, [], ◌∷◌, length, drop, Option, Some, Ok, Err, if◌then◌else◌}
use Rattle.v4l_const.specs.Errno.{errno_of}
use Rattle.v4l_const.specs.declared.errno.Errno.{Errno}
use Rattle.v4l_const.specs.declared.errno.Errno.TheVariants.{Eio, Ebadf}
use Rattle.vm_chain.specs.declared.desc.Desc.{Desc}
use Rattle.vm_script.specs.declared.line.RawChain.{RawChain}
use Rattle.vm_script.specs.declared.line.RawChain.TheVariants.{Loop, Outside, Order, Zero, Addr, Indirect, Bytes}
use Rattle.vm_wire.specs.Message.{Ask, errno_of_fault}
use Rattle.vm_wire.specs.Message.Ask.{Unusable, Judged}
use Rattle.vm_wire.specs.Wire.{judged, command_bytes, number_at}
use Rattle.vm_guest.specs.Chain.{command_start, reply_start, desc}

-- ---- the chain

-- bytes to be read, and room for a reply, if there is any
abbrev pub bytes_table : ℕ → ℕ → ℕ → List Desc
bytes_table p len room =
    if room == 0 then desc (command_start p) len 0 0 ∷ []
    else desc (command_start p) len 1 1 ∷ desc (reply_start p) room 2 0 ∷ []

-- The descriptors of a raw line of a process. The flags are 1 where another one follows, 2 where it
-- is written to, and 4 where its bytes are descriptors.
abbrev pub raw_table : ℕ → RawChain → List Desc
raw_table p Loop = desc (command_start p) 8 1 1 ∷ desc (command_start p) 8 1 0 ∷ []
raw_table p Outside = desc (command_start p) 8 1 65535 ∷ []
raw_table p Order = desc (reply_start p) 64 3 1 ∷ desc (command_start p) 8 0 0 ∷ []
raw_table p Zero = desc (command_start p) 0 0 0 ∷ []
raw_table p Addr = desc (2 ^ 64 - 4096) 8 0 0 ∷ []
raw_table p Indirect = desc (command_start p) 16 4 0 ∷ []
raw_table p (Bytes bytes room) = bytes_table p (length bytes) room

-- the bytes that stand at the front of the command's page
abbrev pub raw_bytes : RawChain → List ℕ
raw_bytes Loop = []
raw_bytes Outside = []
raw_bytes Order = []
raw_bytes Zero = []
raw_bytes Addr = []
raw_bytes Indirect = []
raw_bytes (Bytes bytes room) = bytes

-- the bytes and the room of a raw line are within their pages
abbrev pub IsFitRaw : RawChain → Type 0
IsFitRaw (Bytes bytes room) = (1 ≤ length bytes) × (length bytes ≤ 256) × (room ≤ 4096)
IsFitRaw chain = Unit {0}

-- ---- what it asks

-- fewer than 8 bytes to write are no room for a status
abbrev pub bytes_ask : List ℕ → ℕ → Ask
bytes_ask bytes room = if nat_lt room 8 then Unusable else Judged (judged bytes room)

abbrev pub raw_ask : RawChain → Ask
raw_ask Loop = Unusable
raw_ask Outside = Unusable
raw_ask Order = Unusable
raw_ask Zero = Unusable
raw_ask Addr = Unusable
raw_ask Indirect = Unusable
raw_ask (Bytes bytes room) = bytes_ask bytes room

-- the bytes behind the command that is asked
abbrev pub behind_asked : Ask → List ℕ → List ℕ
behind_asked Unusable bytes = []
behind_asked (Judged (Ok c)) bytes = drop (length (command_bytes c)) bytes
behind_asked (Judged (Err fault)) bytes = []

abbrev pub raw_behind : RawChain → List ℕ
raw_behind chain = behind_asked (raw_ask chain) (raw_bytes chain)

-- ---- what it is answered

-- a command that is well formed names a session that no script opens
abbrev pub errno_for : Ask → Errno
errno_for Unusable = Eio
errno_for (Judged (Ok c)) = Ebadf
errno_for (Judged (Err fault)) = errno_of_fault fault

-- the errno of a raw line, by the line alone
abbrev pub raw_errno : RawChain → Errno
raw_errno chain = errno_for (raw_ask chain)

-- the errno that the bytes of a reply tell, if they tell one: EIO where there are none, else the
-- refusal's
abbrev pub errno_told : List ℕ → Option Errno
errno_told bytes = if length bytes == 0 then Some Eio else errno_of (number_at 0 bytes)
