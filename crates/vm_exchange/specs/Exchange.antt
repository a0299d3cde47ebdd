-- How a handle's calls are begun, and those that cross to the device with their command and reply.
use Rattle.std.specs.Prelude.{ℕ, ◌≡◌, not, List, Option, Some, None, length, replicate, if◌then◌else◌}
use Rattle.v4l_const.specs.Errno.{errno_number}
use Rattle.v4l_const.specs.IoctlCode.{payload_size}
use Rattle.v4l_const.specs.declared.errno.Errno.{Errno}
use Rattle.v4l_const.specs.declared.ioctl_code.IoctlCode.{IoctlCode}
use Rattle.v4l_const.specs.declared.ioctl_code.IoctlCode.TheVariants.{QueryCap as QueryCapCode, EnumFmt as EnumFmtCode, GFmt as GFmtCode, TryFmt as TryFmtCode, SFmt as SFmtCode, EnumInput as EnumInputCode, GInput as GInputCode, SInput as SInputCode, ReqBufs as ReqBufsCode, QueryBuf as QueryBufCode, QBuf as QBufCode, StreamOn as StreamOnCode, StreamOff as StreamOffCode, SubscribeEvent as SubscribeCode, UnsubscribeEvent as UnsubscribeCode}
use Rattle.v4l_const.specs.declared.numbers.TheConstants.{MEMORY_MMAP, MEMORY_USERPTR}
use Rattle.v4l_layout.specs.Records.{capability_bytes, fmtdesc_bytes, format_bytes, input_bytes, request_bytes, buffer_bytes, subscription_bytes}
use Rattle.v4l_rules.specs.Refusals.{first_refusal}
use Rattle.vm_local.specs.declared.bound.Bound.{Bound}
use Rattle.vm_local.specs.declared.bound.BoundKind.{BoundKind}
use Rattle.vm_local.specs.declared.bound.BoundKind.TheVariants.{Mapping, User}
use Rattle.vm_local.specs.declared.bound.MemoryKind.{MemoryKind}
use Rattle.vm_local.specs.declared.bound.MemoryKind.TheVariants.{Mmap as MmapKind, UserPtr}
use Rattle.vm_local.specs.declared.call.Call.{Call}
use Rattle.vm_local.specs.declared.call.Call.TheVariants.{OpenHandle, CloseHandle, QueryCap, EnumFmt, GFmt, TryFmt, SFmt, EnumInput, GInput, SInput, ReqBufs, QueryBuf, UAlloc, QBuf, StreamOn, StreamOff, DqBuf, Mmap, Munmap, Peek, Hash, Poke, Fill, Subscribe, Unsubscribe, DqEvent}
use Rattle.vm_local.specs.declared.reply.Reply.{Reply}
use Rattle.vm_local.specs.declared.reply.Reply.TheVariants.{Done, Refused, Caps, Code, Format, InputName, InputIs, Count, Buf, Mapped}
use Rattle.vm_local.specs.State.{LocalState, queue_of, buffer_of}
use Rattle.vm_local.specs.Memory.{named, bytes_of}
use Rattle.vm_local.specs.Queue.{brought, length_from}
use Rattle.vm_local.specs.Calls.{row_of}
use Rattle.vm_local.specs.Log.{IsCall}
use Rattle.vm_wire.specs.Buffers.{buffer_offset, reqbufs_request, reqbufs_answer, querybuf_request, querybuf_answer, qbuf_request, qbuf_answer, subscription_request}
use Rattle.vm_wire.specs.Records.{capability_of, fmt_desc_request, fmt_desc_answer, format_type_request, format_request, format_answer, input_request, input_answer}
use Rattle.vm_wire.specs.Wire.{le}
use Rattle.vm_wire.specs.declared.buffers.QueuedBuffer.{QueuedBuffer}
use Rattle.vm_wire.specs.declared.command.Command.{Command}
use Rattle.vm_wire.specs.declared.command.Command.TheVariants.{OpenSession, CloseSession, Ioctl, Map, Unmap}
use Rattle.vm_wire.specs.declared.response.Response.{Response}
use Rattle.vm_wire.specs.declared.response.Response.TheVariants.{Refused as Denied, Opened, Closed, Answered, Mapped as MappedAt, Unmapped}
use Rattle.vm_exchange.specs.declared.crossing.Crossing.{Crossing}
use Rattle.vm_exchange.specs.declared.user_place.UserPlace.{UserPlace}
use Rattle.vm_exchange.specs.declared.way.Way.{Way}
use Rattle.vm_exchange.specs.declared.way.Way.TheVariants.{Crosses, AnsweredHere, Waits, TouchesMemory}
use Rattle.vm_exchange.specs.Entries.{start_of}

-- ---- what a bound name stands for

-- the user memory of so many bytes that a name stands for
abbrev pub user_of_kind : BoundKind → ℕ → Option UserPlace
user_of_kind (Mapping addr len writable) size = None
user_of_kind (User line off) size = Some (record { line = line; length = size; off = off })

abbrev pub user_bound : LocalState → Option Bound → Option UserPlace
user_bound s None = None
user_bound s (Some b) = user_of_kind b.kind (length (bytes_of s b.memory))

-- the user memory that a qbuf names
abbrev pub user_named : LocalState → Option (List ℕ) → Option UserPlace
user_named s None = None
user_named s (Some u) = user_bound s (named s u)

-- the address of the mapping that a name stands for
abbrev pub address_of_kind : BoundKind → ℕ
address_of_kind (Mapping addr len writable) = addr
address_of_kind (User line off) = 0

abbrev pub address_of : Option Bound → ℕ
address_of None = 0
address_of (Some b) = address_of_kind b.kind

-- ---- the buffer of a qbuf

-- the number of a kind of memory; Source: Linux V4L2, enum v4l2_memory
abbrev pub memory_number : MemoryKind → ℕ
memory_number MmapKind = MEMORY_MMAP
memory_number UserPtr = MEMORY_USERPTR

-- where a buffer's memory is: where its first entry starts, or from where it is mapped
abbrev pub memory_place : Option UserPlace → ℕ → ℕ → ℕ
memory_place None t i = buffer_offset t i
memory_place (Some place) t i = start_of place

-- what is told of the buffer that a qbuf queues
unfoldable pub buffer_queued : LocalState → ℕ → ℕ → Option (List ℕ) → ℕ → ℕ → QueuedBuffer
buffer_queued s t i user used ts = record {
  kind = t;
  index = i;
  bytesused = used;
  timestamp = ts;
  memory = memory_number (queue_of s t).memory;
  m = memory_place (user_named s user) t i;
  length = length_from s (brought s user) (buffer_of (queue_of s t) i);
}

-- ---- how a call is begun

-- it crosses by this command alone
abbrev pub sends : Command → Way
sends command = Crosses (record { command = command; user = None })

abbrev pub asks : ℕ → IoctlCode → List ℕ → Way
asks session code payload = sends (Ioctl session code payload)

-- a call that needs an open handle: on any other it is answered without the device
abbrev pub from_open : LocalState → Way → Way
from_open s way = if s.opened then way else AnsweredHere

abbrev pub unless_by : Option Errno → Way → Way
unless_by None way = way
unless_by (Some errno) way = AnsweredHere

-- a call that the driver itself refuses: it goes its way where no refusal of its row applies
abbrev pub unless_refused : LocalState → Call → Way → Way
unless_refused s call way = unless_by (first_refusal (row_of s 0 0 call).refusals) way

-- a call that waits until its row has a reply
abbrev pub once_answered : LocalState → Call → Way
once_answered s call = if (row_of s 0 0 call).waits then Waits else AnsweredHere

-- the buffer is queued; the entries of the user memory that goes along stand behind the command
unfoldable pub qbuf_crossing : ℕ → LocalState → ℕ → ℕ → Option (List ℕ) → ℕ → ℕ → Crossing
qbuf_crossing session s t i user used ts = record {
  command =
      Ioctl session QBufCode
      (buffer_bytes (qbuf_request s.model (buffer_queued s t i user used ts)));
  user = user_named s user;
}

-- How a call is begun on a handle in this state with this session.
abbrev pub way_of : ℕ → LocalState → Call → Way
way_of session s (OpenHandle nonblock) = sends OpenSession
way_of session s CloseHandle = from_open s (sends (CloseSession session))
way_of session s QueryCap =
    from_open s (asks session QueryCapCode (replicate (payload_size QueryCapCode) 0))
way_of session s (EnumFmt t i) =
    from_open s (asks session EnumFmtCode (fmtdesc_bytes (fmt_desc_request t i)))
way_of session s (GFmt t) =
    from_open s (asks session GFmtCode (format_bytes (format_type_request t)))
way_of session s (TryFmt t f w h) =
    from_open s (asks session TryFmtCode (format_bytes (format_request t f w h)))
way_of session s (SFmt t f w h) =
    from_open s (asks session SFmtCode (format_bytes (format_request t f w h)))
way_of session s (EnumInput i) =
    from_open s (asks session EnumInputCode (input_bytes (input_request i)))
way_of session s GInput =
    from_open s (asks session GInputCode (replicate (payload_size GInputCode) 0))
way_of session s (SInput i) = from_open s (asks session SInputCode (le i))
way_of session s (ReqBufs t m n) =
    from_open s (asks session ReqBufsCode (request_bytes (reqbufs_request t m n)))
way_of session s (QueryBuf t i) =
    from_open s (asks session QueryBufCode (buffer_bytes (querybuf_request t i)))
way_of session s (UAlloc u len off) = AnsweredHere
way_of session s (QBuf t i user used ts) =
    unless_refused s (QBuf t i user used ts) (Crosses (qbuf_crossing session s t i user used ts))
way_of session s (StreamOn t) = from_open s (asks session StreamOnCode (le t))
way_of session s (StreamOff t) = from_open s (asks session StreamOffCode (le t))
way_of session s (DqBuf t) = unless_refused s (DqBuf t) (once_answered s (DqBuf t))
way_of session s (Mmap m t i ro) =
    unless_refused s (Mmap m t i ro) (sends (Map session (not ro) (buffer_offset t i)))
way_of session s (Munmap m) = unless_refused s (Munmap m) (sends (Unmap (address_of (named s m))))
way_of session s (Peek m off len) = TouchesMemory
way_of session s (Hash m) = TouchesMemory
way_of session s (Poke m off bytes) = TouchesMemory
way_of session s (Fill m seed) = TouchesMemory
way_of session s (Subscribe e) =
    from_open s (asks session SubscribeCode (subscription_bytes (subscription_request e)))
way_of session s (Unsubscribe e) =
    from_open s (asks session UnsubscribeCode (subscription_bytes (subscription_request e)))
way_of session s DqEvent = AnsweredHere

-- ---- what crosses

abbrev pub crossing : Way → Option Crossing
crossing (Crosses c) = Some c
crossing AnsweredHere = None
crossing Waits = None
crossing TouchesMemory = None

-- what crosses for a call, from a handle in this state with this session; none where it doesn't
abbrev pub crossing_of : ℕ → LocalState → Call → Option Crossing
crossing_of session s call = crossing (way_of session s call)

abbrev pub command_in : Option Crossing → Option Command
command_in None = None
command_in (Some c) = Some c.command

-- the command by which it crosses
abbrev pub command_of : ℕ → LocalState → Call → Option Command
command_of session s call = command_in (crossing_of session s call)

-- what stands for a reply of another kind than the call's, and for that of a call which never
-- crosses: it has no meaning
abbrev pub no_response : Response
no_response = Closed

-- The device's reply to a call that crosses from this state and is answered so; an open gets the
-- session with this id.
abbrev pub response_to : ℕ → LocalState → Call → Reply → Response
response_to session s call (Refused errno) = Denied (errno_number errno)
response_to session s (OpenHandle nonblock) Done = Opened session
response_to session s (OpenHandle nonblock) reply = no_response
response_to session s CloseHandle reply = Closed
response_to session s QueryCap (Caps all device) =
    Answered (capability_bytes (capability_of s.model))
response_to session s QueryCap reply = no_response
response_to session s (EnumFmt t i) (Code f) = Answered (fmtdesc_bytes (fmt_desc_answer t i f))
response_to session s (EnumFmt t i) reply = no_response
response_to session s (GFmt t) (Format f line size) = Answered (format_bytes (format_answer t f))
response_to session s (GFmt t) reply = no_response
response_to session s (TryFmt t code w h) (Format f line size) =
    Answered (format_bytes (format_answer t f))
response_to session s (TryFmt t code w h) reply = no_response
response_to session s (SFmt t code w h) (Format f line size) =
    Answered (format_bytes (format_answer t f))
response_to session s (SFmt t code w h) reply = no_response
response_to session s (EnumInput i) (InputName n) = Answered (input_bytes (input_answer n))
response_to session s (EnumInput i) reply = no_response
response_to session s GInput (InputIs n) = Answered (le n)
response_to session s GInput reply = no_response
response_to session s (SInput i) (InputIs n) = Answered (le n)
response_to session s (SInput i) reply = no_response
response_to session s (ReqBufs t m n) (Count count) =
    Answered (request_bytes (reqbufs_answer s.model t m count))
response_to session s (ReqBufs t m n) reply = no_response
response_to session s (QueryBuf t i) (Buf len flags) =
    Answered (buffer_bytes (querybuf_answer s.model t i (memory_number (queue_of s t).memory) len))
response_to session s (QueryBuf t i) reply = no_response
response_to session s (UAlloc u len off) reply = no_response
response_to session s (QBuf t i user used ts) Done =
    Answered (buffer_bytes (qbuf_answer (qbuf_request s.model (buffer_queued s t i user used ts))))
response_to session s (QBuf t i user used ts) reply = no_response
response_to session s (StreamOn t) Done = Answered (le t)
response_to session s (StreamOn t) reply = no_response
response_to session s (StreamOff t) Done = Answered (le t)
response_to session s (StreamOff t) reply = no_response
response_to session s (DqBuf t) reply = no_response
response_to session s (Mmap m t i ro) (Mapped addr len) = MappedAt addr len
response_to session s (Mmap m t i ro) reply = no_response
response_to session s (Munmap m) Done = Unmapped
response_to session s (Munmap m) reply = no_response
response_to session s (Peek m off len) reply = no_response
response_to session s (Hash m) reply = no_response
response_to session s (Poke m off bytes) reply = no_response
response_to session s (Fill m seed) reply = no_response
response_to session s (Subscribe e) Done = Answered (subscription_bytes (subscription_request e))
response_to session s (Subscribe e) reply = no_response
response_to session s (Unsubscribe e) Done = Answered (subscription_bytes (subscription_request e))
response_to session s (Unsubscribe e) reply = no_response
response_to session s DqEvent reply = no_response

-- From this state the call may have this reply, and this is the device's answer then.
abbrev pub IsAnswer : LocalState → ℕ → Call → Response → Reply → Type 0
IsAnswer s line call response reply =
    (next : LocalState) × (session : ℕ)
    × (IsCall s line call reply next × (response ≡ response_to session s call reply))
