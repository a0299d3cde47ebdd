-- Which logs a text tells: those that it is printed of, with all in its range and in printed order.
use Rattle.std.specs.Prelude.{ℕ, ◌≡◌, ◌≤◌, ◌<◌, ◌^◌, true, ◌&&◌, List, [], ◌∷◌, length, map, Option, Some, None, IfSome, codes, if◌then◌else◌}
use Rattle.std.specs.List.{AllByRecursion, find}
use Rattle.std.specs.Option.{option_map, option_and_then}
use Rattle.std.specs.Str.{bytes_eq}
use Rattle.hex.specs.Hex.{IsBytes}
use Rattle.v4l_const.specs.declared.four_cc.FourCc.{FourCc}
use Rattle.vm_local.specs.declared.entry.Entry.{Entry}
use Rattle.vm_local.specs.declared.entry.Entry.TheVariants.{Called, Finish, Bad, Give}
use Rattle.vm_local.specs.declared.reply.Reply.{Reply}
use Rattle.vm_local.specs.declared.reply.Reply.TheVariants.{Done, Refused, Caps, Code, Format, InputName, InputIs, Count, Buf, Pages, Frame, Mapped, Bytes, Digest, Event}
use Rattle.vm_script.specs.declared.line.RawChain.{RawChain}
use Rattle.vm_script.specs.declared.line.RawChain.TheVariants.{Loop, Outside, Order, Zero, Addr, Indirect, Bytes as RawBytes}
use Rattle.vm_script.specs.Grammar.{words_in, is_name, code_in}
use Rattle.vm_script.specs.Words.{IsEcho}
use Rattle.vm_script.specs.Places.{between_in, bytes_in}
use Rattle.vm_script.specs.Reading.{Fits32}
use Rattle.vm_region.specs.declared.entry.RegionEntry.{RegionEntry}
use Rattle.vm_region.specs.declared.entry.RegionEntry.TheVariants.{Map, Drop}
use Rattle.vm_script.specs.Drafts.{process_limit}
use Rattle.vm_report.specs.Logs.{HandleLog, RawLog, Logs}
use Rattle.vm_report.specs.Text.{code_text, Words, HasText}

-- ---- what is printed is in its range

abbrev pub Fits64 : ℕ → Type 0
Fits64 n = n < 2 ^ 64

-- the number of four visible bytes
abbrev pub IsCode : FourCc → Type 0
IsCode code = code_in (code_text code) ≡ Some code.0

-- the letters of the formats that a reply tells are visible
abbrev pub HasLetters : Reply → Type 0
HasLetters (Code code) = IsCode code
HasLetters (Format f line size) = IsCode f.code
HasLetters reply = Unit {0}

-- the bytes of one read
abbrev pub IsSmall : List ℕ → Type 0
IsSmall bytes = IsBytes bytes × (length bytes ≤ 256)

-- a SHA-256
abbrev pub IsDigest : List ℕ → Type 0
IsDigest bytes = IsBytes bytes × (length bytes ≡ 32)

-- what a reply tells
abbrev pub FitsReply : Reply → Type 0
FitsReply Done = Unit {0}
FitsReply (Refused errno) = Unit {0}
FitsReply (Caps all device) = Fits32 all × Fits32 device
FitsReply (Code code) = IsCode code
FitsReply (Format f line size) =
    IsCode f.code × Fits32 f.width × Fits32 f.height × Fits32 line × Fits32 size
FitsReply (InputName input) = Unit {0}
FitsReply (InputIs input) = Fits32 input
FitsReply (Count count) = Fits32 count
FitsReply (Buf len flags) = Fits32 len × Fits32 flags
FitsReply (Pages count) = Fits32 count
FitsReply (Frame index used sequence timestamp flags) =
    Fits32 index × Fits32 used × Fits32 sequence × Fits64 timestamp × Fits32 flags
FitsReply (Mapped address len) = Fits64 address × Fits32 len
FitsReply (Bytes bytes) = IsSmall bytes
FitsReply (Digest digest) = IsDigest digest
FitsReply (Event kind frame pending sequence) =
    Fits32 kind × Fits32 frame × Fits32 pending × Fits32 sequence

-- an entry of a log
abbrev pub FitsEntry : Entry → Type 0
FitsEntry (Called line call reply) = Fits32 line × FitsReply reply
FitsEntry Finish = Unit {0}
FitsEntry Bad = Unit {0}
FitsEntry Give = Unit {0}

-- an entry of the region's journal
abbrev pub FitsJournal : RegionEntry → Type 0
FitsJournal (Map addr pages count) = Fits64 addr × Fits32 pages × Fits32 count
FitsJournal (Drop addr count) = Fits64 addr × Fits32 count

-- what is printed of a handle: its process, its name, its session's id, and its log
pub record FitsHandle (h : HandleLog) : Type 0 where
  pub process : h.process < process_limit
  pub name : is_name h.name ≡ true
  pub session : IfSome h.session Fits32
  pub entries : AllByRecursion FitsEntry h.entries

pub record FitsRaw (r : RawLog) : Type 0 where
  pub process : r.process < process_limit
  pub line : Fits32 r.line

-- ---- raw lines

-- the word for each kind of chain
abbrev pub kind_text : RawChain → List ℕ
kind_text Loop = codes "loop"
kind_text Outside = codes "outside"
kind_text Order = codes "order"
kind_text Zero = codes "zero"
kind_text Addr = codes "addr"
kind_text Indirect = codes "indirect"
kind_text (RawBytes bytes room) = codes "bytes"

-- the kinds that `raw chain` names
abbrev pub kinds : List RawChain
kinds = Loop ∷ Outside ∷ Order ∷ Zero ∷ Addr ∷ Indirect ∷ []

abbrev pub kind_in : List ℕ → Option RawChain
kind_in word = find (λ kind. bytes_eq (kind_text kind) word) kinds

-- a chain of these bytes, and of room for 0 to 4096 more
abbrev pub bytes_chain_in : List ℕ → List ℕ → Option RawChain
bytes_chain_in hex room =
    option_and_then (λ bytes. option_map (λ n. RawBytes bytes n) (between_in 0 4096 room))
    (bytes_in hex)

-- the chain that the words of a raw line post: `raw chain KIND` or `raw bytes HEX ROOM`
abbrev pub raw_in : List (List ℕ) → Option RawChain
raw_in (raw ∷ chain ∷ kind ∷ []) =
    if bytes_eq raw (codes "raw") && bytes_eq chain (codes "chain") then kind_in kind else None
raw_in (raw ∷ bytes ∷ hex ∷ room ∷ []) =
    if bytes_eq raw (codes "raw") && bytes_eq bytes (codes "bytes") then bytes_chain_in hex room
    else None
raw_in words = None

-- each raw line has words that read as its chain, and no words are left
abbrev pub AreRawWords : List (List ℕ) → List RawLog → Type 0
AreRawWords [] [] = Unit {0}
AreRawWords [] (r ∷ rs) = ⊥
AreRawWords (echo ∷ echoes) [] = ⊥
AreRawWords (echo ∷ echoes) (r ∷ rs) =
    (raw_in (words_in echo) ≡ Some r.chain) × AreRawWords echoes rs

-- ---- printed logs

-- the numbers never fall, and begin with this one or a greater one
abbrev pub IsRising : ℕ → List ℕ → Type 0
IsRising least [] = Unit {0}
IsRising least (n ∷ ns) = (least ≤ n) × IsRising n ns

-- The text is that of the logs with these words. All is in its range, and the handles and the raw
-- lines stand in the order in which they are printed: that of their processes.
pub record IsPrintedWith (words : Words) (text : List ℕ) (logs : Logs) : Type 0 where
  pub prints : HasText words text logs
  pub echoes : AllByRecursion (AllByRecursion IsEcho) words.calls
  pub raw_echoes : AllByRecursion IsEcho words.raws
  pub chains : AreRawWords words.raws logs.raws
  pub handles : AllByRecursion FitsHandle logs.handles
  pub raws : AllByRecursion FitsRaw logs.raws
  pub journal : AllByRecursion FitsJournal logs.journal
  pub wire : IsDigest logs.wire
  pub handles_rise : IsRising 0 (map (λ h. h.process) logs.handles)
  pub raws_rise : IsRising 0 (map (λ r. r.process) logs.raws)

-- the text is printed of the logs, with some words
abbrev pub IsPrinted : List ℕ → Logs → Type 0
IsPrinted text logs = (words : Words) × IsPrintedWith words text logs
