-- What the parts of the reader give, word by word and line by line. What all of it gives is told by
-- `IsPrinted` alone.
use Rattle.std.specs.Prelude.{ℕ, ◌+◌, ◌-◌, ◌^◌, ◌/◌, ◌≡◌, ◌==◌, ◌&&◌, not, nat_le, nat_lt, Bool, true, false, List, [], ◌∷◌, ◌++◌, length, take, drop, replicate, Option, Some, None, Result, Ok, Err, codes, if◌then◌else◌}
use Rattle.std.specs.Fmt.{decimal}
use Rattle.std.specs.Int.{from_be_bytes, w32, w64}
use Rattle.std.specs.List.{list_all, find}
use Rattle.std.specs.Option.{option_map, option_and_then}
use Rattle.std.specs.Str.{bytes_eq}
use Rattle.hex.specs.Hex.{encode_lower, decode_sized}
use Rattle.hex.specs.declared.error.FromHexError.{FromHexError}
use Rattle.v4l_const.specs.Errno.{errno_name, errno_of}
use Rattle.v4l_const.specs.declared.errno.Errno.{Errno}
use Rattle.v4l_const.specs.declared.four_cc.FourCc.{FourCc}
use Rattle.vm_local.specs.declared.call.Call.{Call}
use Rattle.vm_local.specs.declared.call.Call.TheVariants as Asks
use Rattle.vm_local.specs.declared.entry.Entry.{Entry}
use Rattle.vm_local.specs.declared.entry.Entry.TheVariants.{Called, Finish, Bad, Give}
use Rattle.vm_local.specs.declared.reply.Reply.{Reply}
use Rattle.vm_local.specs.declared.reply.Reply.TheVariants as Replies
use Rattle.vm_wire.specs.Records.{input_name}
use Rattle.vm_script.specs.declared.fault.ScriptKind.{ScriptKind}
use Rattle.vm_script.specs.declared.line.RawChain.{RawChain}
use Rattle.vm_script.specs.declared.statement.Statement.{Statement}
use Rattle.vm_script.specs.Words.{pieces_by, lines_in, is_empty, parts_words, name_in, number_in, code_in}
use Rattle.vm_script.specs.Statements.{built_statement_in}
use Rattle.vm_region.specs.declared.entry.RegionEntry.{RegionEntry}
use Rattle.vm_region.specs.declared.entry.RegionEntry.TheVariants.{Map, Drop}
use Rattle.vm_script.specs.Drafts.{process_limit}
use Rattle.vm_report.specs.declared.draft.Draft.{Draft}
use Rattle.vm_report.specs.declared.draft.Place.{Place}
use Rattle.vm_report.specs.declared.draft.Place.TheVariants.{Opening, Log, RawHead, Raws, Region, Wire, End}
use Rattle.vm_report.specs.declared.errors.LogsError.{LogsError}
use Rattle.vm_report.specs.declared.errors.LogsError.TheVariants.{NotPrinted, Memory}
use Rattle.vm_report.specs.declared.tells.Tells.{Tells}
use Rattle.vm_report.specs.declared.tells.Tells.TheVariants as Kinds
use Rattle.vm_report.specs.Logs.{HandleLog, Logs}
use Rattle.vm_report.specs.Printed.{raw_in}

-- the outcome is the expected one, unless memory ran out
abbrev pub Gives : {T : Type 0} → Option T → Result T LogsError → Type 0
Gives expected (Ok x) = expected ≡ Some x
Gives expected (Err NotPrinted) = expected ≡ None
Gives expected (Err Memory) = Unit {0}

-- it was read, and is this
abbrev pub Reads : Option (List ℕ) → Bool → List ℕ → Type 0
Reads (Some told) is_read bytes = (is_read ≡ true) × (bytes ≡ told)
Reads None is_read bytes = is_read ≡ false

-- ---- numbers and digits

-- the number, where the word is just what is printed of it
abbrev pub exact : List ℕ → Option ℕ → Option ℕ
exact word None = None
exact word (Some n) = if bytes_eq (decimal n) word then Some n else None

-- the number up to a limit that the word is printed of
abbrev pub number_told : ℕ → List ℕ → Option ℕ
number_told limit word = exact word (number_in 20 limit word)

abbrev pub count_told : List ℕ → Option ℕ
count_told word = number_told (2 ^ 32 - 1) word

abbrev pub long_told : List ℕ → Option ℕ
long_told word = number_told (2 ^ 64 - 1) word

abbrev pub exact_bytes : List ℕ → Result (List ℕ) FromHexError → Option (List ℕ)
exact_bytes word (Err e) = None
exact_bytes word (Ok bytes) = if bytes_eq (encode_lower bytes) word then Some bytes else None

-- the bytes, just so many, that the word is printed of
abbrev pub bytes_told : ℕ → List ℕ → Option (List ℕ)
bytes_told n word = exact_bytes word (decode_sized word n)

abbrev pub flags_told : List ℕ → Option ℕ
flags_told word = option_map (from_be_bytes w32) (bytes_told 4 word)

abbrev pub address_told : List ℕ → Option ℕ
address_told word = option_map (from_be_bytes w64) (bytes_told 8 word)

abbrev pub small_told : List ℕ → Option (List ℕ)
small_told word = if nat_lt 256 (length word / 2) then None else bytes_told (length word / 2) word

abbrev pub code_told : List ℕ → Option FourCc
code_told word = option_map (λ n. record { 0 = n }) (code_in word)

-- the input of this name
abbrev pub input_told : List ℕ → Option ℕ
input_told word = find (λ i. bytes_eq (input_name i) word) (0 ∷ 1 ∷ 2 ∷ 3 ∷ [])

-- ---- replies

abbrev pub named : List ℕ → Errno → Option Errno
named name e = if bytes_eq (errno_name e) name then Some e else None

-- the errno of this number and name
abbrev pub errno_told : List ℕ → List ℕ → Option Errno
errno_told number name = option_and_then (named name) (option_and_then errno_of (count_told number))

abbrev pub refusal_told : List (List ℕ) → Option Errno
refusal_told (err ∷ number ∷ name ∷ []) =
    if bytes_eq err (codes "err") then errno_told number name else None
refusal_told words = None

abbrev pub two_told : {A B C : Type 0} → (A → B → C) → Option A → Option B → Option C
two_told f a b = option_and_then (λ x. option_map (λ y. f x y) b) a

-- what a call tells where it isn't refused
abbrev pub tells : Call → Tells
tells (Asks.OpenHandle nonblock) = Kinds.Nothing
tells Asks.CloseHandle = Kinds.Nothing
tells Asks.QueryCap = Kinds.Caps
tells (Asks.EnumFmt t i) = Kinds.Code
tells (Asks.GFmt t) = Kinds.Format
tells (Asks.TryFmt t f w h) = Kinds.Format
tells (Asks.SFmt t f w h) = Kinds.Format
tells (Asks.EnumInput i) = Kinds.InputName
tells Asks.GInput = Kinds.InputIs
tells (Asks.SInput i) = Kinds.InputIs
tells (Asks.ReqBufs t m n) = Kinds.Count
tells (Asks.QueryBuf t i) = Kinds.Buf
tells (Asks.UAlloc u len off) = Kinds.Pages
tells (Asks.QBuf t i user used ts) = Kinds.Nothing
tells (Asks.StreamOn t) = Kinds.Nothing
tells (Asks.StreamOff t) = Kinds.Nothing
tells (Asks.DqBuf t) = Kinds.Frame
tells (Asks.Mmap m t i ro) = Kinds.Mapping
tells (Asks.Munmap m) = Kinds.Nothing
tells (Asks.Peek m off len) = Kinds.Bytes
tells (Asks.Hash m) = Kinds.Digest
tells (Asks.Poke m off bytes) = Kinds.Nothing
tells (Asks.Fill m seed) = Kinds.Nothing
tells (Asks.Subscribe e) = Kinds.Nothing
tells (Asks.Unsubscribe e) = Kinds.Nothing
tells Asks.DqEvent = Kinds.Event

abbrev pub format_told : List ℕ → List ℕ → List ℕ → List ℕ → List ℕ → Option Reply
format_told code width height line size =
    option_and_then (λ c. option_and_then
    (λ w. option_and_then (λ h. option_and_then (λ l. option_map
    (λ s. Replies.Format (record { code = c; width = w; height = h }) l s)
    (count_told size)) (count_told line)) (count_told height)) (count_told width)) (code_told code)

abbrev pub frame_told : List ℕ → List ℕ → List ℕ → List ℕ → List ℕ → Option Reply
frame_told index used sequence timestamp flags =
    option_and_then (λ i. option_and_then
    (λ u. option_and_then (λ q. option_and_then (λ t. option_map
    (λ f. Replies.Frame i u q t f)
    (flags_told flags)) (long_told timestamp)) (count_told sequence)) (count_told used))
    (count_told index)

abbrev pub event_told : List ℕ → List ℕ → List ℕ → List ℕ → Option Reply
event_told kind frame pending sequence =
    option_and_then (λ k. option_and_then
    (λ f. option_and_then (λ p. option_map (λ q. Replies.Event k f p q)
    (count_told sequence)) (count_told pending)) (count_told frame)) (count_told kind)

-- the reply that these words tell behind an `ok`
abbrev pub told : Tells → List (List ℕ) → Option Reply
told Kinds.Nothing [] = Some Replies.Done
told Kinds.Caps (all ∷ device ∷ []) = two_told Replies.Caps (flags_told all) (flags_told device)
told Kinds.Code (code ∷ []) = option_map Replies.Code (code_told code)
told Kinds.Format (code ∷ width ∷ height ∷ line ∷ size ∷ []) =
    format_told code width height line size
told Kinds.InputName (name ∷ []) = option_map Replies.InputName (input_told name)
told Kinds.InputIs (input ∷ []) = option_map Replies.InputIs (count_told input)
told Kinds.Count (count ∷ []) = option_map Replies.Count (count_told count)
told Kinds.Buf (len ∷ flags ∷ []) = two_told Replies.Buf (count_told len) (flags_told flags)
told Kinds.Pages (count ∷ []) = option_map Replies.Pages (count_told count)
told Kinds.Frame (index ∷ used ∷ sequence ∷ timestamp ∷ flags ∷ []) =
    frame_told index used sequence timestamp flags
told Kinds.Mapping (address ∷ len ∷ []) =
    two_told Replies.Mapped (address_told address) (count_told len)
told Kinds.Bytes (bytes ∷ []) = option_map Replies.Bytes (small_told bytes)
told Kinds.Digest (digest ∷ []) = option_map Replies.Digest (bytes_told 32 digest)
told Kinds.Event (kind ∷ frame ∷ pending ∷ sequence ∷ []) = event_told kind frame pending sequence
told kind words = None

-- the reply of a call that these words are
abbrev pub reply_told : Call → List (List ℕ) → Option Reply
reply_told call [] = None
reply_told call (first ∷ words) =
    if bytes_eq first (codes "ok") then told (tells call) words
    else option_map Replies.Refused (refusal_told (first ∷ words))

-- ---- the words of a line

abbrev pub is_space : ℕ → Bool
is_space b = b == 32

abbrev pub words_of : List ℕ → List (List ℕ)
words_of line = pieces_by is_space line

-- the word has bytes, and none that parts words
unfoldable pub is_word : List ℕ → Bool
is_word w = not (is_empty w) && list_all (λ b. not (parts_words b)) w

abbrev pub later : Option ℕ → Bool → Option ℕ
later (Some i) here = Some (i + 1)
later None true = Some 0
later None false = None

-- the place of the last word that is an equals sign
abbrev pub last_equals : List (List ℕ) → Option ℕ
last_equals [] = None
last_equals (w ∷ ws) = later (last_equals ws) (bytes_eq w (codes "="))

abbrev pub if_fine : Result Statement ScriptKind → Option Statement
if_fine (Ok s) = Some s
if_fine (Err kind) = None

abbrev pub statement_told : List (List ℕ) → Option Statement
statement_told words = if list_all is_word words then if_fine (built_statement_in words) else None

abbrev pub entry_told : List ℕ → ℕ → List (List ℕ) → Statement → Option Entry
entry_told name line reply s =
    if bytes_eq s.handle name then option_map (λ r. Called line s.call r) (reply_told s.call reply)
    else None

-- a call on the handle of this name, by its line's number, its words, and those of its reply
abbrev pub call_told : List ℕ → List ℕ → List (List ℕ) → List (List ℕ) → Option Entry
call_told name line words reply =
    option_and_then (λ n. option_and_then (entry_told name n reply) (statement_told words))
    (count_told line)

abbrev pub chain_told : List (List ℕ) → Option RawChain
chain_told words = if list_all is_word words then raw_in words else None

abbrev pub session_told : List ℕ → Option (Option ℕ)
session_told word =
    if bytes_eq word (codes "-") then Some None else option_map Some (count_told word)

abbrev pub step_named : List ℕ → Option Entry
step_named word =
    if bytes_eq word (codes "finish") then Some Finish
    else (if bytes_eq word (codes "bad") then Some Bad
    else (if bytes_eq word (codes "give") then Some Give else None))

-- what stands behind the first word of a line
abbrev pub step_told : List (List ℕ) → Option Entry
step_told (word ∷ []) = step_named word
step_told words = None

abbrev pub fresh : ℕ → List ℕ → Option ℕ → HandleLog
fresh process name session =
    record { process = process; name = name; session = session; entries = [] }

abbrev pub head_told : List (List ℕ) → Option HandleLog
head_told (process ∷ name ∷ session ∷ []) =
    option_and_then (λ p. option_and_then (λ n. option_map (λ s. fresh p n s)
    (session_told session)) (name_in name)) (count_told process)
head_told words = None

abbrev pub process_told : List (List ℕ) → Option ℕ
process_told (process ∷ []) = count_told process
process_told words = None

abbrev pub map_told : List (List ℕ) → Option RegionEntry
map_told (address ∷ pages ∷ count ∷ []) =
    option_and_then (λ a. two_told (Map a) (count_told pages) (count_told count))
    (address_told address)
map_told words = None

abbrev pub drop_told : List (List ℕ) → Option RegionEntry
drop_told (address ∷ count ∷ []) = two_told Drop (address_told address) (count_told count)
drop_told words = None

abbrev pub digest_told : List (List ℕ) → Option (List ℕ)
digest_told (digest ∷ []) = bytes_told 32 digest
digest_told words = None

-- ---- lines

-- the logs with that of the handle that was read
abbrev pub closed : Logs → Place → Logs
closed logs (Log h) = record logs { handles = logs.handles ++ h ∷ [] }
closed logs place = logs

-- a head of this process may stand here
abbrev pub begins : Place → ℕ → Bool
begins Opening process = true
begins (Log h) process = nat_le h.process process
begins (Raws last) process = nat_lt last process
begins place process = false

-- what is read next, behind all handles and raw lines or behind a head of this process
abbrev pub at_place : Draft → Place → Draft
at_place d place = record { logs = closed d.logs d.place; place = place }

abbrev pub headed : Draft → ℕ → Place → Option Draft
headed d process place =
    if nat_lt process process_limit && begins d.place process then Some (at_place d place) else None

abbrev pub with_handle : Draft → List (List ℕ) → Option Draft
with_handle d words = option_and_then (λ h. headed d h.process (Log h)) (head_told words)

abbrev pub with_raws : Draft → List (List ℕ) → Option Draft
with_raws d words = option_and_then (λ p. headed d p (RawHead p)) (process_told words)

-- the log of this handle goes on
abbrev pub with_entry : Logs → HandleLog → Entry → Draft
with_entry logs h e =
    record { logs = logs; place = Log (record h { entries = h.entries ++ e ∷ [] }) }

abbrev pub step_at : Logs → Place → List (List ℕ) → Option Draft
step_at logs (Log h) words = option_map (with_entry logs h) (step_told words)
step_at logs place words = None

abbrev pub with_step : Draft → List (List ℕ) → Option Draft
with_step d words = step_at d.logs d.place words

-- the raw lines of this process go on
abbrev pub with_raw : Logs → ℕ → ℕ → RawChain → Errno → Draft
with_raw logs process line chain errno = record {
  logs = record logs {
    raws = logs.raws ++ record { process = process; line = line; chain = chain; errno = errno } ∷
        [];
  };
  place = Raws process;
}

abbrev pub raw_told : Logs → ℕ → List ℕ → List (List ℕ) → List (List ℕ) → Option Draft
raw_told logs process line words reply =
    option_and_then (λ n. option_and_then
    (λ chain. option_map (λ e. with_raw logs process n chain e)
    (refusal_told reply)) (chain_told words)) (count_told line)

-- a line with a reply, by its place
abbrev pub reply_at : Logs → Place → List ℕ → List (List ℕ) → List (List ℕ) → Option Draft
reply_at logs (Log h) line words reply =
    option_map (with_entry logs h) (call_told h.name line words reply)
reply_at logs (RawHead process) line words reply = raw_told logs process line words reply
reply_at logs (Raws process) line words reply = raw_told logs process line words reply
reply_at logs place line words reply = None

abbrev pub with_answer : Draft → List ℕ → List (List ℕ) → Option Draft
with_answer d line words =
    option_and_then (λ at. reply_at d.logs d.place line (take at words) (drop (at + 1) words))
    (last_equals words)

-- the region's head may stand here
abbrev pub may_end : Place → Bool
may_end Opening = true
may_end (Log h) = true
may_end (Raws process) = true
may_end place = false

abbrev pub with_region : Draft → List (List ℕ) → Option Draft
with_region d [] = if may_end d.place then Some (at_place d Region) else None
with_region d words = None

abbrev pub is_region : Place → Bool
is_region Region = true
is_region place = false

abbrev pub with_journal : Draft → RegionEntry → Option Draft
with_journal d e =
    if is_region d.place then Some
    (record d { logs = record d.logs { journal = d.logs.journal ++ e ∷ [] } }) else None

abbrev pub wired : Draft → List ℕ → Option Draft
wired d digest =
    if is_region d.place then Some (record { logs = record d.logs { wire = digest }; place = Wire })
    else None

abbrev pub with_wire : Draft → List (List ℕ) → Option Draft
with_wire d words = option_and_then (wired d) (digest_told words)

abbrev pub is_wire : Place → Bool
is_wire Wire = true
is_wire place = false

-- what follows the last newline: nothing
abbrev pub with_end : Draft → List (List ℕ) → Option Draft
with_end d [] = if is_wire d.place then Some (record d { place = End }) else None
with_end d words = None

-- a line, by its first word
abbrev pub with_words : Draft → List (List ℕ) → Option Draft
with_words d [] = None
with_words d (first ∷ words) =
    if bytes_eq first (codes "handle") then with_handle d words
    else (if bytes_eq first (codes "raws") then with_raws d words
    else (if bytes_eq first (codes "+") then with_step d words
    else (if bytes_eq first (codes "region") then with_region d words
    else (if bytes_eq first (codes "map") then option_and_then (with_journal d) (map_told words)
    else (if bytes_eq first (codes "drop") then option_and_then (with_journal d) (drop_told words)
    else (if bytes_eq first (codes "wire") then with_wire d words
    else (if is_empty first then with_end d words
    else with_answer d first words)))))))

abbrev pub with_line : Draft → List ℕ → Option Draft
with_line d line = with_words d (words_of line)

abbrev pub with_lines : Draft → List (List ℕ) → Option Draft
with_lines d [] = Some d
with_lines d (line ∷ lines) = option_and_then (λ e. with_lines e lines) (with_line d line)

-- ---- texts

abbrev pub nothing : Draft
nothing =
    record {
      logs = record { handles = []; raws = []; journal = []; wire = replicate 32 0 };
      place = Opening;
    }

abbrev pub finished_at : Logs → Place → Option Logs
finished_at logs End = Some logs
finished_at logs place = None

abbrev pub finished : Draft → Option Logs
finished d = finished_at d.logs d.place

-- the logs that a text tells
abbrev pub read : List ℕ → Option Logs
read text = option_and_then finished (with_lines nothing (lines_in text))
