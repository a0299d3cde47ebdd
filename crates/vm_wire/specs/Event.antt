-- The bytes of the messages that the device sends by itself.
-- Source: own, after the events of the VIRTIO 1.4 draft's media device.
use Rattle.std.specs.Prelude.{ℕ, ◌≡◌, ◌≤◌, ◌<◌, ◌^◌, ◌==◌, nat_lt, Option, Some, None, List, ◌++◌, length, drop, replicate, if◌then◌else◌}
use Rattle.v4l_layout.specs.Layout.{ReadsAs, IsLaid}
use Rattle.v4l_layout.specs.Records.{buffer_size, buffer_fields, buffer_bytes, event_size as event_record_size, event_fields, event_bytes as event_record_bytes}
use Rattle.vm_wire.specs.declared.event.EventMsg.{EventMsg}
use Rattle.vm_wire.specs.declared.event.EventMsg.TheVariants.{Dequeued, Happened}
use Rattle.vm_wire.specs.declared.event.EventFault.{EventFault}
use Rattle.vm_wire.specs.declared.event.EventFault.TheVariants.{Short, UnknownKind}
use Rattle.vm_wire.specs.Wire.{le, number_at}

-- the number of the message, the session, and the record; behind a buffer's record stand its eight
-- planes, which aren't used
abbrev pub event_bytes : EventMsg → List ℕ
event_bytes (Dequeued session buffer) = le 1 ++ le session ++ buffer_bytes buffer ++ replicate 512 0
event_bytes (Happened session event) = le 2 ++ le session ++ event_record_bytes event

-- how many these are
abbrev pub event_size : EventMsg → ℕ
event_size (Dequeued session buffer) = 608
event_size (Happened session event) = 144

-- the bytes spell the message, whatever stands between the fields of its record, in its planes and
-- behind it
abbrev pub SpellsEvent : List ℕ → EventMsg → Type 0
SpellsEvent bytes (Dequeued session buffer) =
    (608 ≤ length bytes) × (number_at 0 bytes ≡ 1) × (number_at 4 bytes ≡ session) ×
    ReadsAs (drop 8 bytes) (buffer_fields buffer)
SpellsEvent bytes (Happened session event) =
    (144 ≤ length bytes) × (number_at 0 bytes ≡ 2) × (number_at 4 bytes ≡ session) ×
    ReadsAs (drop 8 bytes) (event_fields event)

-- the fault of bytes: no whole number, a number that no message has, fewer bytes than its message
-- has
abbrev pub event_fault : List ℕ → Option EventFault
event_fault bytes =
    if nat_lt (length bytes) 4 then Some Short
    else (if number_at 0 bytes == 1 then (if nat_lt (length bytes) 608 then Some Short else None)
    else (if number_at 0 bytes == 2 then (if nat_lt (length bytes) 144 then Some Short else None)
    else Some UnknownKind))

-- a message's numbers and texts fit into their fields
abbrev pub IsEvent : EventMsg → Type 0
IsEvent (Dequeued session buffer) = (session < 2 ^ 32) × IsLaid buffer_size 0 (buffer_fields buffer)
IsEvent (Happened session event) =
    (session < 2 ^ 32) × IsLaid event_record_size 0 (event_fields event)
