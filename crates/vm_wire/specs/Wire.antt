-- The bytes of commands and replies. All numbers are little-endian, of four bytes where nothing
-- else is said. A pad is four bytes, written as 0. Source: own, after the sessions of the VIRTIO
-- 1.4 draft's media device.
use Rattle.std.specs.Prelude.{ℕ, ◌≡◌, ◌≤◌, ◌<◌, ◌+◌, ◌-◌, ◌%◌, ◌^◌, ◌==◌, ◌&&◌, ◌||◌, ◌⊎◌, not, nat_lt, Bool, true, false, Option, Some, None, Result, Ok, Err, List, ◌++◌, length, take, drop, if◌then◌else◌}
use Rattle.std.specs.Int.{to_le_bytes, from_le_bytes, w32, w64}
use Rattle.v4l_const.specs.IoctlCode.{ioctl_number, ioctl_of}
use Rattle.v4l_const.specs.declared.ioctl_code.IoctlCode.{IoctlCode}
use Rattle.v4l_const.specs.declared.ioctl_code.IoctlCode.TheVariants.{QBuf}
use Rattle.v4l_const.specs.declared.numbers.TheConstants.{MEMORY_USERPTR}
use Rattle.vm_wire.specs.declared.command.Command.{Command}
use Rattle.vm_wire.specs.declared.command.Command.TheVariants.{OpenSession, CloseSession, Ioctl, Map, Unmap}
use Rattle.vm_wire.specs.declared.command.CmdFault.{CmdFault}
use Rattle.vm_wire.specs.declared.command.CmdFault.TheVariants.{Short, UnknownCmd, UnknownIoctl, Room}
use Rattle.vm_wire.specs.Payload.{payload_need, HasItsLength}
use Rattle.vm_wire.specs.declared.response.Response.{Response}
use Rattle.vm_wire.specs.declared.response.Response.TheVariants.{Refused, Opened, Closed, Answered, Mapped, Unmapped}

-- the bytes of one number, and of one of eight bytes
abbrev pub le : ℕ → List ℕ
le n = to_le_bytes w32 n

abbrev pub long : ℕ → List ℕ
long n = to_le_bytes w64 n

-- the number at a place, and the one of eight bytes there
abbrev pub number_at : ℕ → List ℕ → ℕ
number_at at bytes = from_le_bytes w32 (take 4 (drop at bytes))

abbrev pub long_at : ℕ → List ℕ → ℕ
long_at at bytes = from_le_bytes w64 (take 8 (drop at bytes))

abbrev pub pad : List ℕ
pad = le 0

-- the lowest bit of a mapping's flags says that it may be written; the other bits are free
abbrev pub flags_of : Bool → ℕ
flags_of true = 1
flags_of false = 0

abbrev pub is_writable : ℕ → Bool
is_writable flags = flags % 2 == 1

abbrev pub command_bytes : Command → List ℕ
command_bytes OpenSession = le 1 ++ pad
command_bytes (CloseSession session) = le 2 ++ pad ++ le session ++ pad
command_bytes (Ioctl session code payload) =
    le 3 ++ pad ++ le session ++ le (ioctl_number code) ++ payload
command_bytes (Map session writable offset) =
    le 4 ++ pad ++ le session ++ le (flags_of writable) ++ le offset ++ pad
command_bytes (Unmap addr) = le 5 ++ pad ++ long addr

-- how many bytes the reply with status 0 has
abbrev pub reply_size : Command → ℕ
reply_size OpenSession = 16
reply_size (CloseSession session) = 8
reply_size (Ioctl session code payload) = 8 + length payload
reply_size (Map session writable offset) = 24
reply_size (Unmap addr) = 8

abbrev pub response_bytes : Response → List ℕ
response_bytes (Refused errno) = le errno ++ pad
response_bytes (Opened session) = le 0 ++ pad ++ le session ++ pad
response_bytes Closed = le 0 ++ pad
response_bytes (Answered payload) = le 0 ++ pad ++ payload
response_bytes (Mapped addr len) = le 0 ++ pad ++ long addr ++ long len
response_bytes Unmapped = le 0 ++ pad

-- A call with this payload queues a buffer whose memory is the user's: scatter entries of 16 bytes
-- stand behind it. The memory is a field of the buffer's record.
abbrev pub brings_entries : IoctlCode → List ℕ → Bool
brings_entries code payload =
    (ioctl_number code == ioctl_number QBuf) && (number_at 60 payload == MEMORY_USERPTR)

-- where the payload of a call ends that begins behind 16 bytes, and the payload
abbrev pub payload_end : IoctlCode → List ℕ → ℕ
payload_end code bytes = 16 + payload_need code (drop 16 bytes)

abbrev pub payload_in : IoctlCode → List ℕ → List ℕ
payload_in code bytes = take (payload_need code (drop 16 bytes)) (drop 16 bytes)

-- The bytes hold the command: pads have any content, and further bytes are free, but for the bytes
-- behind a call that brings entries, which are whole entries.
abbrev pub Holds : List ℕ → Command → Type 0
Holds bytes OpenSession = (8 ≤ length bytes) × (number_at 0 bytes ≡ 1)
Holds bytes (CloseSession session) =
    (16 ≤ length bytes) × (number_at 0 bytes ≡ 2) × (number_at 8 bytes ≡ session)
Holds bytes (Ioctl session code payload) =
    (payload_end code bytes ≤ length bytes) × (number_at 0 bytes ≡ 3) ×
    (number_at 8 bytes ≡ session) × (number_at 12 bytes ≡ ioctl_number code)
    × (payload ≡ payload_in code bytes) ×
    (brings_entries code payload ≡ true → (length bytes - payload_end code bytes) % 16 ≡ 0)
Holds bytes (Map session writable offset) =
    (24 ≤ length bytes) × (number_at 0 bytes ≡ 4) × (number_at 8 bytes ≡ session) ×
    (is_writable (number_at 12 bytes) ≡ writable) × (number_at 16 bytes ≡ offset)
Holds bytes (Unmap addr) = (16 ≤ length bytes) × (number_at 0 bytes ≡ 5) × (long_at 8 bytes ≡ addr)

-- the bytes spell the command: they hold it, and its reply with status 0 fits into the room
abbrev pub Spells : List ℕ → ℕ → Command → Type 0
Spells bytes room c = Holds bytes c × (reply_size c ≤ room)

-- the first fault of a command with fields and a reply of these sizes: too few bytes, too little
-- room
abbrev pub sizes_fault : ℕ → ℕ → List ℕ → ℕ → Option CmdFault
sizes_fault fields reply bytes room =
    if nat_lt (length bytes) fields then Some Short
    else (if nat_lt room reply then Some Room else None)

-- there are too few bytes for the payload, or the bytes behind it are no whole entries where it
-- brings entries
abbrev pub is_cut : IoctlCode → List ℕ → Bool
is_cut code bytes =
    nat_lt (length bytes) (payload_end code bytes)
    || (brings_entries code (payload_in code bytes) &&
    not ((length bytes - payload_end code bytes) % 16 == 0))

-- the first fault of an IOCTL whose session and code are there
abbrev pub ioctl_fault : Option IoctlCode → List ℕ → ℕ → Option CmdFault
ioctl_fault None bytes room = Some UnknownIoctl
ioctl_fault (Some code) bytes room =
    if is_cut code bytes then Some Short
    else (if nat_lt room (8 + payload_need code (drop 16 bytes)) then Some Room else None)

-- the first fault, in this order: a number's bytes, the number, the fields' bytes, the code, the
-- payload's bytes, the room
abbrev pub command_fault : List ℕ → ℕ → Option CmdFault
command_fault bytes room =
    if nat_lt (length bytes) 8 then Some Short
    else (if number_at 0 bytes == 1 then sizes_fault 8 16 bytes room
    else (if number_at 0 bytes == 2 then sizes_fault 16 8 bytes room
    else (if number_at 0 bytes == 3
    then (if nat_lt (length bytes) 16 then Some Short
    else ioctl_fault (ioctl_of (number_at 12 bytes)) bytes room)
    else (if number_at 0 bytes == 4 then sizes_fault 24 24 bytes room
    else (if number_at 0 bytes == 5 then sizes_fault 16 8 bytes room
    else Some UnknownCmd)))))

-- the IOCTL that bytes with this code are
abbrev pub ioctl_at : Option IoctlCode → List ℕ → Command
ioctl_at None bytes = OpenSession
ioctl_at (Some code) bytes = Ioctl (number_at 8 bytes) code (payload_in code bytes)

-- the command that bytes without a fault are
abbrev pub command_at : List ℕ → Command
command_at bytes =
    if number_at 0 bytes == 1 then OpenSession
    else (if number_at 0 bytes == 2 then CloseSession (number_at 8 bytes)
    else (if number_at 0 bytes == 3 then ioctl_at (ioctl_of (number_at 12 bytes)) bytes
    else (if number_at 0 bytes == 4
    then Map (number_at 8 bytes) (is_writable (number_at 12 bytes)) (number_at 16 bytes)
    else Unmap (long_at 8 bytes))))

abbrev pub judged_by : Option CmdFault → Command → Result Command CmdFault
judged_by None c = Ok c
judged_by (Some f) c = Err f

-- the command that bytes and room spell, or their first fault
abbrev pub judged : List ℕ → ℕ → Result Command CmdFault
judged bytes room = judged_by (command_fault bytes room) (command_at bytes)

-- one command is spelled and there is no fault, or there is one fault and no command is spelled
abbrev pub IsDecided : List ℕ → ℕ → Type 0
IsDecided bytes room =
    ((c : Command) × (Spells bytes room c × ((d : Command) → Spells bytes room d → d ≡ c) ×
    (command_fault bytes room ≡ None)))
    ⊎ ((f : CmdFault) × ((command_fault bytes room ≡ Some f) ×
    ((c : Command) → Spells bytes room c → ⊥)))

-- how many bytes the reply to a command has that begins with these
abbrev pub response_len : Command → List ℕ → ℕ
response_len c bytes =
    if nat_lt (length bytes) 8 then 8 else (if number_at 0 bytes == 0 then reply_size c else 8)

-- the reply with status 0 to a command that these bytes are
abbrev pub granted : Command → List ℕ → Response
granted OpenSession bytes = Opened (number_at 8 bytes)
granted (CloseSession session) bytes = Closed
granted (Ioctl session code payload) bytes = Answered (take (length payload) (drop 8 bytes))
granted (Map session writable offset) bytes = Mapped (long_at 8 bytes) (long_at 16 bytes)
granted (Unmap addr) bytes = Unmapped

-- the reply to a command that these bytes are
abbrev pub response_of : Command → List ℕ → Response
response_of c bytes =
    if number_at 0 bytes == 0 then granted c bytes else Refused (number_at 0 bytes)

-- a command's numbers fit into their fields, and its payload has its length
abbrev pub IsCommand : Command → Type 0
IsCommand OpenSession = Unit {0}
IsCommand (CloseSession session) = session < 2 ^ 32
IsCommand (Ioctl session code payload) = (session < 2 ^ 32) × HasItsLength code payload
IsCommand (Map session writable offset) = (session < 2 ^ 32) × (offset < 2 ^ 32)
IsCommand (Unmap addr) = addr < 2 ^ 64

-- what stands behind a command is free, but behind a call that brings entries whole entries stand
abbrev pub MayFollow : Command → List ℕ → Type 0
MayFollow OpenSession behind = Unit {0}
MayFollow (CloseSession session) behind = Unit {0}
MayFollow (Ioctl session code payload) behind =
    brings_entries code payload ≡ true → length behind % 16 ≡ 0
MayFollow (Map session writable offset) behind = Unit {0}
MayFollow (Unmap addr) behind = Unit {0}

-- the reply is one that the command may have
abbrev pub Answers : Command → Response → Type 0
Answers c (Refused errno) = (0 < errno) × (errno < 2 ^ 32)
Answers OpenSession (Opened session) = session < 2 ^ 32
Answers (CloseSession s) Closed = Unit {0}
Answers (Ioctl s code payload) (Answered answer) = length answer ≡ length payload
Answers (Map s writable offset) (Mapped addr len) = (addr < 2 ^ 64) × (len < 2 ^ 64)
Answers (Unmap addr) Unmapped = Unit {0}
Answers c r = ⊥

-- the bytes are as many as the reply has, and are read as it
abbrev pub ReadsBack : Command → Response → List ℕ → Type 0
ReadsBack c r bytes = (response_len c bytes ≤ length bytes) × (response_of c bytes ≡ r)
