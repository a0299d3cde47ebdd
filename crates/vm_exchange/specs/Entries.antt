-- What crosses to the device, as bytes: a command, and behind it the entries of the user memory
-- that goes along. Source: own, after the VIRTIO 1.4 draft, "Media Device".
use Rattle.std.specs.Prelude.{ℕ, List, [], ◌++◌, Option, Some, None}
use Rattle.std.specs.List.{flat_map}
use Rattle.vm_frame.specs.declared.scatter.SgEntry.{SgEntry}
use Rattle.vm_sg.specs.UserMemory.{user_entries, entry_of}
use Rattle.vm_wire.specs.Wire.{le, long, pad, command_bytes}
use Rattle.vm_exchange.specs.declared.crossing.Crossing.{Crossing}
use Rattle.vm_exchange.specs.declared.user_place.UserPlace.{UserPlace}

-- an entry's start, of eight bytes, its length, of four, and a pad
abbrev pub entry_wire : SgEntry → List ℕ
entry_wire e = long e.start ++ (le e.len ++ pad)

-- the entries of the user memory that a line made
abbrev pub entries_of : UserPlace → List SgEntry
entries_of place = user_entries place.line place.length place.off

-- where the first of them starts
abbrev pub start_of : UserPlace → ℕ
start_of place = (entry_of place.line place.length place.off 0).start

-- what stands behind a command with which this user memory goes along
abbrev pub bytes_behind : Option UserPlace → List ℕ
bytes_behind None = []
bytes_behind (Some place) = flat_map entry_wire (entries_of place)

abbrev pub crossing_bytes : Crossing → List ℕ
crossing_bytes c = command_bytes c.command ++ bytes_behind c.user
