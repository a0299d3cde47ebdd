-- The chains that the driver posts: of each process one for its commands, and sixteen for events.
use Rattle.std.specs.Prelude.{ℕ, ◌≡◌, ◌≤◌, ◌+◌, ◌*◌, List, [], ◌∷◌, ◌++◌, length, take, drop, slice_index_or, slice_set}
use Rattle.vm_chain.specs.declared.desc.Desc.{Desc}
use Rattle.vm_frame.specs.declared.mem.Held.{Held}
use Rattle.vm_mem.specs.declared.page.Page.{Page}
use Rattle.vm_link.specs.declared.parcel.Parcel.{Parcel}
use Rattle.vm_link.specs.declared.parcel.Finished.{Finished}

abbrev pub desc : ℕ → ℕ → ℕ → ℕ → Desc
desc addr len flags next = record { addr = addr; len = len; flags = flags; next = next }

-- ---- the chain of a process

-- its two pages, by their numbers, and where they start
abbrev pub command_page : ℕ → ℕ
command_page p = 16 + 2 * p

abbrev pub reply_page : ℕ → ℕ
reply_page p = 17 + 2 * p

abbrev pub command_start : ℕ → ℕ
command_start p = command_page p * 4096

abbrev pub reply_start : ℕ → ℕ
reply_start p = reply_page p * 4096

-- how many bytes a reply has room for
abbrev pub reply_room : ℕ
reply_room = 304

-- how many memories may go along with a command or its reply
abbrev pub held_room : ℕ
held_room = 64

-- a command of so many bytes at the front of the one page, and room for its reply at the front of
-- the other
abbrev pub chain_table : ℕ → ℕ → List Desc
chain_table p len = desc (command_start p) len 1 1 ∷ desc (reply_start p) reply_room 2 0 ∷ []

-- the two pages, with these bytes
abbrev pub chain_pages : ℕ → List ℕ → List ℕ → List Page
chain_pages p command reply =
    record { number = command_page p; bytes = command } ∷
    record { number = reply_page p; bytes = reply } ∷ []

-- The parcel is the chain of a process, with this table, with these bytes at the front of its
-- command's page, and with these memories.
pub record IsChain (p : ℕ) (table : List Desc) (front : List ℕ) (held : List Held)
    (parcel : Parcel) : Type 0 where
  pub behind : List ℕ
  pub reply : List ℕ
  pub room : ℕ
  pub is : parcel ≡ record {
    who = p;
    table = table;
    pages = chain_pages p (front ++ behind) reply;
    held = held;
    room = room;
  }
  pub roomy : held_room ≤ room
  pub whole_command : length (front ++ behind) ≡ 4096
  pub whole_reply : length reply ≡ 4096

-- the chain of a process with its own table, whatever memories are in it
abbrev pub IsOwn : ℕ → Parcel → Type 0
IsOwn p parcel = (len : ℕ) × IsChain p (chain_table p len) [] parcel.held parcel

-- the same at home: no memory is in it
abbrev pub IsHome : ℕ → Parcel → Type 0
IsHome p parcel = (len : ℕ) × IsChain p (chain_table p len) [] [] parcel

abbrev pub no_page : Page
no_page = record { number = 0; bytes = [] }

-- the bytes that the device wrote for a reply
abbrev pub reply_bytes : Finished → List ℕ
reply_bytes f = take f.used (slice_index_or f.parcel.pages 1 no_page).bytes

-- ---- what is done with it

abbrev pub no_desc : Desc
no_desc = desc 0 0 0 0

-- the page with these bytes at its front
abbrev pub with_front : Page → List ℕ → Page
with_front page bytes = record page { bytes = bytes ++ drop (length bytes) page.bytes }

-- the parcel with these bytes at the front of its first page
abbrev pub with_bytes : Parcel → List ℕ → Parcel
with_bytes parcel bytes =
    record parcel {
      pages = slice_set parcel.pages 0
          (with_front (slice_index_or parcel.pages 0 no_page) bytes);
    }

-- the parcel with so many bytes for its first descriptor
abbrev pub with_len : Parcel → ℕ → Parcel
with_len parcel len =
    record parcel {
      table = slice_set parcel.table 0
          (record (slice_index_or parcel.table 0 no_desc) { len = len });
    }

-- ---- event chains

-- how many there are
abbrev pub event_chains : ℕ
event_chains = 16

-- how many bytes an event has room for
abbrev pub event_room : ℕ
event_room = 608

abbrev pub event_page : ℕ → ℕ
event_page k = 64 + k

abbrev pub event_table : ℕ → List Desc
event_table k = desc (event_page k * 4096) event_room 2 0 ∷ []

-- The parcel is event chain k, with these memories.
pub record IsEventChain (k : ℕ) (held : List Held) (parcel : Parcel) : Type 0 where
  pub bytes : List ℕ
  pub room : ℕ
  pub is : parcel ≡ record {
    who = k;
    table = event_table k;
    pages = record { number = event_page k; bytes = bytes } ∷ [];
    held = held;
    room = room;
  }
  pub roomy : 1 ≤ room
  pub whole : length bytes ≡ 4096
