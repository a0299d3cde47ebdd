-- The printed text of logs.
use Rattle.std.specs.Prelude.{ℕ, ◌≡◌, Bool, true, false, ◌&&◌, ◌==◌, nat_lt, List, [], ◌∷◌, ◌++◌, length, flat_map, Option, Some, None, codes, IsTrue, if◌then◌else◌}
use Rattle.std.specs.Fmt.{decimal}
use Rattle.std.specs.Int.{to_le_bytes, to_be_bytes, w32, w64}
use Rattle.std.specs.List.{join_with_byte, list_any, range_with_len}
use Rattle.hex.specs.Hex.{encode_lower}
use Rattle.v4l_const.specs.Errno.{errno_number, errno_name}
use Rattle.v4l_const.specs.declared.four_cc.FourCc.{FourCc}
use Rattle.v4l_format.specs.Pattern.{patterns}
use Rattle.vm_local.specs.declared.call.Call.{Call}
use Rattle.vm_local.specs.declared.call.Call.TheVariants.{OpenHandle, CloseHandle, QueryCap, EnumFmt, GFmt, TryFmt, SFmt, EnumInput, GInput, SInput, ReqBufs, QueryBuf, UAlloc, QBuf, StreamOn, StreamOff, DqBuf, Mmap, Munmap, Peek, Hash, Poke, Fill, Subscribe, Unsubscribe, DqEvent}
use Rattle.vm_local.specs.declared.entry.Entry.{Entry}
use Rattle.vm_local.specs.declared.entry.Entry.TheVariants.{Called, Finish, Bad, Give}
use Rattle.vm_local.specs.declared.reply.Reply.{Reply}
use Rattle.vm_local.specs.declared.reply.Reply.TheVariants.{Done, Refused, Caps, Code, Format, InputName, InputIs, Count, Buf, Pages, Frame, Mapped, Bytes, Digest, Event}
use Rattle.vm_wire.specs.Records.{input_name}
use Rattle.vm_script.specs.Grammar.{reads_as}
use Rattle.vm_region.specs.declared.entry.RegionEntry.{RegionEntry}
use Rattle.vm_region.specs.declared.entry.RegionEntry.TheVariants.{Map, Drop}
use Rattle.vm_script.specs.Drafts.{process_limit}
use Rattle.vm_report.specs.Logs.{HandleLog, RawLog, Logs}

-- ---- the words of a reply

-- flags or capabilities: 8 lower-case hexadecimal digits
unfoldable pub flags_text : ℕ → List ℕ
flags_text flags = encode_lower (to_be_bytes w32 flags)

-- an address: 16 lower-case hexadecimal digits
unfoldable pub address_text : ℕ → List ℕ
address_text address = encode_lower (to_be_bytes w64 address)

-- a format's code: its four letters, of which the code is the little-endian number
unfoldable pub code_text : FourCc → List ℕ
code_text code = to_le_bytes w32 code.0

-- `ok` and what the reply tells, or `err` with the errno's number and its name
abbrev pub reply_words : Reply → List (List ℕ)
reply_words Done = codes "ok" ∷ []
reply_words (Refused errno) = codes "err" ∷ decimal (errno_number errno) ∷ errno_name errno ∷ []
reply_words (Caps all device) = codes "ok" ∷ flags_text all ∷ flags_text device ∷ []
reply_words (Code code) = codes "ok" ∷ code_text code ∷ []
reply_words (Format f line size) =
    codes "ok" ∷ code_text f.code ∷ decimal f.width ∷ decimal f.height ∷ decimal line ∷
    decimal size ∷ []
reply_words (InputName input) = codes "ok" ∷ input_name input ∷ []
reply_words (InputIs input) = codes "ok" ∷ decimal input ∷ []
reply_words (Count count) = codes "ok" ∷ decimal count ∷ []
reply_words (Buf len flags) = codes "ok" ∷ decimal len ∷ flags_text flags ∷ []
reply_words (Pages count) = codes "ok" ∷ decimal count ∷ []
reply_words (Frame index used sequence timestamp flags) =
    codes "ok" ∷ decimal index ∷ decimal used ∷ decimal sequence ∷ decimal timestamp ∷
    flags_text flags ∷ []
reply_words (Mapped address len) = codes "ok" ∷ address_text address ∷ decimal len ∷ []
reply_words (Bytes bytes) = codes "ok" ∷ encode_lower bytes ∷ []
reply_words (Digest digest) = codes "ok" ∷ encode_lower digest ∷ []
reply_words (Event kind frame pending sequence) =
    codes "ok" ∷ decimal kind ∷ decimal frame ∷ decimal pending ∷ decimal sequence ∷ []

-- the words, a space between each two
abbrev pub reply_text : Reply → List ℕ
reply_text reply = join_with_byte 32 (reply_words reply)

-- ---- the text

abbrev pub call_text : ℕ → List ℕ → Reply → List ℕ
call_text line echo reply =
    decimal line ++ codes " " ++ echo ++ codes " = " ++ reply_text reply ++ codes "\n"

-- A log, an entry a line. Each call is printed with the next of these words.
abbrev pub entries_text : List Entry → List (List ℕ) → List ℕ
entries_text [] echoes = []
entries_text (Called line call reply ∷ es) [] = []
entries_text (Called line call reply ∷ es) (echo ∷ echoes) =
    call_text line echo reply ++ entries_text es echoes
entries_text (Finish ∷ es) echoes = codes "+ finish\n" ++ entries_text es echoes
entries_text (Bad ∷ es) echoes = codes "+ bad\n" ++ entries_text es echoes
entries_text (Give ∷ es) echoes = codes "+ give\n" ++ entries_text es echoes

-- the session's id, or a dash where there is none
abbrev pub session_text : Option ℕ → List ℕ
session_text None = codes "-"
session_text (Some id) = decimal id

abbrev pub head_text : HandleLog → List ℕ
head_text h =
    codes "handle " ++ decimal h.process ++ codes " " ++ h.name ++ codes " " ++
    session_text h.session ++ codes "\n"

-- a handle's head and its log, with the words of its calls
abbrev pub handle_text : HandleLog → List (List ℕ) → List ℕ
handle_text h echoes = head_text h ++ entries_text h.entries echoes

-- the handles of one process among these, each with the words of its calls
abbrev pub handles_text : ℕ → List HandleLog → List (List (List ℕ)) → List ℕ
handles_text process [] words = []
handles_text process (h ∷ hs) [] = []
handles_text process (h ∷ hs) (echoes ∷ words) =
    (if h.process == process then handle_text h echoes else []) ++ handles_text process hs words

-- ---- raw lines

abbrev pub raw_text : RawLog → List ℕ → List ℕ
raw_text r echo = call_text r.line echo (Refused r.errno)

-- the raw lines of one process among these, each with its words
abbrev pub raw_lines_text : ℕ → List RawLog → List (List ℕ) → List ℕ
raw_lines_text process [] echoes = []
raw_lines_text process (r ∷ rs) [] = []
raw_lines_text process (r ∷ rs) (echo ∷ echoes) =
    (if r.process == process then raw_text r echo else []) ++ raw_lines_text process rs echoes

-- the same under their head, where the process has raw lines
abbrev pub raws_text : ℕ → List RawLog → List (List ℕ) → List ℕ
raws_text process raws echoes =
    if list_any (λ r. r.process == process) raws
    then codes "raws " ++ decimal process ++ codes "\n" ++ raw_lines_text process raws echoes
    else []

-- ---- the region

abbrev pub journal_line : RegionEntry → List ℕ
journal_line (Map addr pages count) =
    codes "map " ++ address_text addr ++ codes " " ++ decimal pages ++ codes " " ++ decimal count ++
    codes "\n"
journal_line (Drop addr count) =
    codes "drop " ++ address_text addr ++ codes " " ++ decimal count ++ codes "\n"

-- ---- the whole text

-- the words of each handle's calls, and of each raw line
pub record Words : Type 0 where
  pub calls : List (List (List ℕ))
  pub raws : List (List ℕ)

-- a process's handles, and then its raw lines
abbrev pub process_text : Logs → Words → ℕ → List ℕ
process_text logs words process =
    handles_text process logs.handles words.calls ++ raws_text process logs.raws words.raws

-- each process in order, then the region's journal, and the digest
abbrev pub text_of : Logs → Words → List ℕ
text_of logs words =
    flat_map (process_text logs words) (range_with_len 0 process_limit)
    ++ codes "region\n" ++ flat_map journal_line logs.journal
    ++ codes "wire " ++ encode_lower logs.wire ++ codes "\n"

-- ---- words that read as the calls

-- a reply of the kind that a call has: a refusal, or what the call tells where it isn't refused; a
-- name is that of an input that there is
abbrev pub is_kind_of : Call → Reply → Bool
is_kind_of call (Refused errno) = true
is_kind_of (OpenHandle nonblock) Done = true
is_kind_of CloseHandle Done = true
is_kind_of QueryCap (Caps all device) = true
is_kind_of (EnumFmt t i) (Code code) = true
is_kind_of (GFmt t) (Format f line size) = true
is_kind_of (TryFmt t code w h) (Format f line size) = true
is_kind_of (SFmt t code w h) (Format f line size) = true
is_kind_of (EnumInput i) (InputName input) = nat_lt input (length patterns)
is_kind_of GInput (InputIs input) = true
is_kind_of (SInput i) (InputIs input) = true
is_kind_of (ReqBufs t m n) (Count count) = true
is_kind_of (QueryBuf t i) (Buf len flags) = true
is_kind_of (UAlloc u len off) (Pages count) = true
is_kind_of (QBuf t i user used ts) Done = true
is_kind_of (StreamOn t) Done = true
is_kind_of (StreamOff t) Done = true
is_kind_of (DqBuf t) (Frame index used sequence timestamp flags) = true
is_kind_of (Mmap m t i ro) (Mapped address len) = true
is_kind_of (Munmap m) Done = true
is_kind_of (Peek m off len) (Bytes bytes) = true
is_kind_of (Hash m) (Digest digest) = true
is_kind_of (Poke m off bytes) Done = true
is_kind_of (Fill m seed) Done = true
is_kind_of (Subscribe e) Done = true
is_kind_of (Unsubscribe e) Done = true
is_kind_of DqEvent (Event kind frame pending sequence) = true
is_kind_of call reply = false

-- each call of the log has words that read as it, and a reply of its kind; no words are left
abbrev pub reads : List ℕ → List Entry → List (List ℕ) → Bool
reads name [] [] = true
reads name [] (echo ∷ echoes) = false
reads name (Called line call reply ∷ es) [] = false
reads name (Called line call reply ∷ es) (echo ∷ echoes) =
    reads_as echo name call && is_kind_of call reply && reads name es echoes
reads name (Finish ∷ es) echoes = reads name es echoes
reads name (Bad ∷ es) echoes = reads name es echoes
reads name (Give ∷ es) echoes = reads name es echoes

abbrev pub all_read : List HandleLog → List (List (List ℕ)) → Bool
all_read [] [] = true
all_read [] (echoes ∷ words) = false
all_read (h ∷ hs) [] = false
all_read (h ∷ hs) (echoes ∷ words) = reads h.name h.entries echoes && all_read hs words

-- A part of `IsPrintedWith` (Printed.antt): these words read as the calls of these logs, each raw
-- line has words, and the text is that of the logs with them.
abbrev pub HasText : Words → List ℕ → Logs → Type 0
HasText words text logs =
    IsTrue (all_read logs.handles words.calls) × (length words.raws ≡ length logs.raws) ×
    (text ≡ text_of logs words)
