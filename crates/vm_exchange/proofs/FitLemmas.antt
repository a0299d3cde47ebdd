-- What crosses is a command whose numbers fit, and the answer is one that it may have.
use Rattle.std.proofs.Common.{◌≡◌, ◌<◌, ◌≤◌, ◌+◌, ◌*◌, ◌%◌, ◌^◌, ◌==◌, ℕ, Bool, true, false, not, List, [], ◌∷◌, length, Option, Some, None, refl, subst, lit<, lit≤, if◌then◌else◌, arith, length-append}
use Rattle.std.specs.Prelude.{All, IfSome}
use Rattle.std.specs.List.{find}
use Rattle.std.proofs.lemmas.List.{length-replicate}
use Rattle.std.proofs.lemmas.List.Elements.{All-head, All-tail}
use Rattle.v4l_const.specs.IoctlCode.{payload_size}
use Rattle.v4l_const.specs.declared.errno.Errno.{Errno}
use Rattle.v4l_const.specs.declared.ioctl_code.IoctlCode.{IoctlCode}
use Rattle.v4l_const.specs.declared.ioctl_code.IoctlCode.TheVariants.{QueryCap as QueryCapCode, EnumFmt as EnumFmtCode, GFmt as GFmtCode, TryFmt as TryFmtCode, SFmt as SFmtCode, EnumInput as EnumInputCode, GInput as GInputCode, SInput as SInputCode, ReqBufs as ReqBufsCode, QueryBuf as QueryBufCode, QBuf as QBufCode, StreamOn as StreamOnCode, StreamOff as StreamOffCode, SubscribeEvent as SubscribeCode, UnsubscribeEvent as UnsubscribeCode}
use Rattle.v4l_const.specs.declared.numbers.TheConstants.{BUF_TYPE_OUTPUT}
use Rattle.v4l_layout.specs.Records.{buffer_bytes}
use Rattle.v4l_rules.specs.Refusals.{first_refusal}
use Rattle.vm_local.specs.declared.bound.Bound.{Bound}
use Rattle.vm_local.specs.declared.bound.BoundKind.{BoundKind}
use Rattle.vm_local.specs.declared.bound.BoundKind.TheVariants.{Mapping, User}
use Rattle.vm_local.specs.declared.call.Call.{Call}
use Rattle.vm_local.specs.declared.call.Call.TheVariants.{OpenHandle, CloseHandle, QueryCap, EnumFmt, GFmt, TryFmt, SFmt, EnumInput, GInput, SInput, ReqBufs, QueryBuf, UAlloc, QBuf, StreamOn, StreamOff, DqBuf, Mmap, Munmap, Peek, Hash, Poke, Fill, Subscribe, Unsubscribe, DqEvent}
use Rattle.vm_local.specs.State.{LocalState, queue_of, buffer_of}
use Rattle.vm_local.specs.Memory.{named, bytes_of}
use Rattle.vm_local.specs.Calls.{row_of}
use Rattle.vm_local.specs.Queue.{brought}
use Rattle.vm_local.proofs.KeptLemmas.{some_same}
use Rattle.vm_sg.specs.UserMemory.{page_count}
use Rattle.vm_wire.specs.Buffers.{buffer_offset, IsQueuedBuffer, qbuf_request}
use Rattle.vm_wire.specs.Wire.{command_bytes}
use Rattle.vm_wire.specs.declared.buffers.TheConstants.{BUFFER_STEP, OUTPUT_OFFSET}
use Rattle.vm_wire.specs.declared.command.Command.TheVariants.{OpenSession, CloseSession, Ioctl, Map, Unmap}
use Rattle.vm_wire.proofs.BufferLemmas.{reqbufs_request_length, querybuf_request_length, qbuf_request_length, subscription_length}
use Rattle.vm_wire.proofs.RecordLemmas.{fmt_desc_request_length, format_request_length, format_type_request_length, input_request_length}
use Rattle.vm_exchange.specs.declared.crossing.Crossing.{Crossing}
use Rattle.vm_exchange.specs.declared.user_place.UserPlace.{UserPlace}
use Rattle.vm_exchange.specs.declared.way.Way.TheVariants.{Crosses, AnsweredHere, Waits}
use Rattle.vm_exchange.specs.Entries.{bytes_behind}
use Rattle.vm_exchange.specs.Exchange.{user_of_kind, user_bound, user_named, address_of_kind, address_of, memory_place, buffer_queued, unless_by, crossing, crossing_of, qbuf_crossing}
use Rattle.vm_exchange.specs.Laws.{Fits}
use Rattle.vm_exchange.specs.Range.{IsKindInRange, IsInRange, AreWords}
use Rattle.vm_exchange.proofs.EntryLemmas.{place_long}
use Rattle.vm_exchange.proofs.RangeLemmas.{queue_in_range, buffer_short, memory_short, length_from_short, number_below}
use Rattle.vm_exchange.proofs.WayLemmas.{mapped_index}

-- ---- names

found_in_range : (test : Bound → Bool) (bound : List Bound) → All (λ b. IsKindInRange b.kind) bound → IfSome (find test bound) (λ b. IsKindInRange b.kind)
found_in_range test [] each = tt
found_in_range test (b ∷ bs) each =
    elim (test b) as (λ x. IfSome (if x then Some b else find test bs) (λ b. IsKindInRange b.kind)) [
      | true ↦ All-head (λ b. IsKindInRange b.kind) b bs each
      | false ↦ found_in_range test bs (All-tail (λ b. IsKindInRange b.kind) b bs each)
    ]

named_in_range : (s : LocalState) (name : List ℕ) → IsInRange s → IfSome (named s name) (λ b. IsKindInRange b.kind)
named_in_range s name range = found_in_range _ s.bound range.bound

-- the numbers of user memory are in range
abbrev pub IsPlace : UserPlace → Type 0
IsPlace p = (p.line < 2 ^ 32) × (p.length ≤ 925696) × (p.off ≤ 4095)

kind_place : (kind : BoundKind) (size : ℕ) → IsKindInRange kind → size ≤ 925696 → IfSome (user_of_kind kind size) IsPlace
kind_place (Mapping addr len writable) size range short = tt
kind_place (User line off) size range short = (range.0, short, range.1)

bound_place : (s : LocalState) (o : Option Bound) → IsInRange s → IfSome o (λ b. IsKindInRange b.kind) → IfSome (user_bound s o) IsPlace
bound_place s None range kinds = tt
bound_place s (Some b) range kinds = kind_place b.kind (length (bytes_of s b.memory)) kinds (memory_short s b.memory range)

pub user_place : (s : LocalState) (user : Option (List ℕ)) → IsInRange s → IfSome (user_named s user) IsPlace
user_place s None range = tt
user_place s (Some u) range = bound_place s (named s u) range (named_in_range s u range)

kind_address : (kind : BoundKind) → IsKindInRange kind → address_of_kind kind < 2 ^ 64
kind_address (Mapping addr len writable) range = range
kind_address (User line off) range = lit< tt

bound_address : (o : Option Bound) → IfSome o (λ b. IsKindInRange b.kind) → address_of o < 2 ^ 64
bound_address None kinds = lit< tt
bound_address (Some b) kinds = kind_address b.kind kinds

-- user memory has 227 pages at most
few_pages : (len off : ℕ) → len ≤ 925696 → off ≤ 4095 → page_count len off ≤ 227
few_pages len off small near = omega (arith, small, near)

-- ---- a buffer that is queued

offset_below : (t i bound : ℕ) → i < 32 → 2 ^ 27 ≤ bound → buffer_offset t i < bound
offset_below t i bound few room = from (t == BUF_TYPE_OUTPUT)
  where
    from : (b : Bool) → (if b then OUTPUT_OFFSET else 0) + i * BUFFER_STEP < bound
    from true = omega (arith, few, room)
    from false = omega (arith, few, room)

place_below : (user : Option UserPlace) (t i : ℕ) → IfSome user IsPlace → i < 32 → memory_place user t i < 2 ^ 64
place_below None t i places few = offset_below t i (2 ^ 64) few (lit≤ tt)
place_below (Some p) t i places few = let pages = few_pages p.length p.off places.1 places.2 in omega (arith, pages, places.0, places.2)

pub queued_fits : (s : LocalState) (t i used ts : ℕ) (user : Option (List ℕ)) → IsInRange s → AreWords (QBuf t i user used ts) → i < 32 → IsQueuedBuffer (buffer_queued s t i user used ts)
unfolding buffer_queued
queued_fits s t i used ts user range words few =
    let short = length_from_short s (brought s user) (buffer_of (queue_of s t) i) range (buffer_short (queue_of s t) i (queue_in_range s t range)) in (
      words.0,
      words.1,
      words.2,
      omega (arith, words.3),
      number_below (queue_of s t).memory,
      place_below (user_named s user) t i (user_place s user range) few,
      omega (arith, short),
    )

-- ---- crossings

ioctl_fits : (session : ℕ) (code : IoctlCode) (payload : List ℕ) → session < 2 ^ 32 → length payload ≡ payload_size code → payload_size code ≤ 208 →
    Fits (record { command = Ioctl session code payload; user = None })
ioctl_fits session code payload id long most = record {
  command = (id, long);
  behind = λ _. refl;
  size = omega (arith, length-append (command_bytes (Ioctl session code payload)) [], long, most);
}

behind_long : (user : Option UserPlace) → IfSome user IsPlace → (length (bytes_behind user) % 16 ≡ 0) × (length (bytes_behind user) ≤ 3632)
behind_long None places = (refl, lit≤ tt)
behind_long (Some p) places =
    let long = place_long p in
    let pages = few_pages p.length p.off places.1 places.2 in
    (omega (arith, long), omega (arith, long, pages))

qbuf_fits : (session : ℕ) (s : LocalState) (t i : ℕ) (user : Option (List ℕ)) (used ts : ℕ) → session < 2 ^ 32 → IsInRange s → Fits (qbuf_crossing session s t i user used ts)
unfolding qbuf_crossing
qbuf_fits session s t i user used ts id range =
    let payload : List ℕ = buffer_bytes (qbuf_request s.model (buffer_queued s t i user used ts)) in
    let request = qbuf_request_length s.model (buffer_queued s t i user used ts) in
    let behind = behind_long (user_named s user) (user_place s user range) in
    record {
      command = (id, request);
      behind = λ _. behind.0;
      size = omega (arith, length-append (command_bytes (Ioctl session QBufCode payload)) (bytes_behind (user_named s user)), request, behind.1);
    }

-- what crosses of a call that needs an open handle
pub crossed_open : (b : Bool) (x c : Crossing) → crossing (if b then Crosses x else AnsweredHere) ≡ Some c → x ≡ c
crossed_open true x c is = some_same x c x is
crossed_open false x c is = cc

-- what crosses of a call that the driver may refuse
pub crossed_unrefused : (refused : Option Errno) (x c : Crossing) → crossing (unless_by refused (Crosses x)) ≡ Some c → (refused ≡ None) × (x ≡ c)
crossed_unrefused None x c is = (refl, some_same x c x is)
crossed_unrefused (Some e) x c is = cc

-- a call that asks with a payload
asked_fits : (b : Bool) (session : ℕ) (code : IoctlCode) (payload : List ℕ) (c : Crossing) → session < 2 ^ 32 → length payload ≡ payload_size code → payload_size code ≤ 208 →
    crossing (if b then Crosses (record { command = Ioctl session code payload; user = None }) else AnsweredHere) ≡ Some c → Fits c
asked_fits b session code payload c id long most is = subst (λ (x : Crossing). Fits x) (crossed_open b _ c is) (ioctl_fits session code payload id long most)

open_fits : Fits (record { command = OpenSession; user = None })
open_fits = record { command = tt; behind = tt; size = lit≤ tt }

close_fits : (session : ℕ) → session < 2 ^ 32 → Fits (record { command = CloseSession session; user = None })
close_fits session id = record { command = id; behind = tt; size = lit≤ tt }

map_fits : (session offset : ℕ) (writable : Bool) → session < 2 ^ 32 → offset < 2 ^ 32 → Fits (record { command = Map session writable offset; user = None })
map_fits session offset writable id below = record { command = (id, below); behind = tt; size = lit≤ tt }

unmap_fits : (addr : ℕ) → addr < 2 ^ 64 → Fits (record { command = Unmap addr; user = None })
unmap_fits addr below = record { command = below; behind = tt; size = lit≤ tt }

pub crossing_fits : (session : ℕ) (s : LocalState) (call : Call) (c : Crossing) → session < 2 ^ 32 → IsInRange s → crossing_of session s call ≡ Some c → Fits c
crossing_fits session s (OpenHandle nonblock) c id range is = subst (λ (x : Crossing). Fits x) (some_same _ c c is) open_fits
crossing_fits session s CloseHandle c id range is = subst (λ (x : Crossing). Fits x) (crossed_open s.opened _ c is) (close_fits session id)
crossing_fits session s QueryCap c id range is = asked_fits s.opened session QueryCapCode _ c id (length-replicate {A = ℕ} 104 0) (lit≤ tt) is
crossing_fits session s (EnumFmt t i) c id range is = asked_fits s.opened session EnumFmtCode _ c id (fmt_desc_request_length t i) (lit≤ tt) is
crossing_fits session s (GFmt t) c id range is = asked_fits s.opened session GFmtCode _ c id (format_type_request_length t) (lit≤ tt) is
crossing_fits session s (TryFmt t f w h) c id range is = asked_fits s.opened session TryFmtCode _ c id (format_request_length t f w h) (lit≤ tt) is
crossing_fits session s (SFmt t f w h) c id range is = asked_fits s.opened session SFmtCode _ c id (format_request_length t f w h) (lit≤ tt) is
crossing_fits session s (EnumInput i) c id range is = asked_fits s.opened session EnumInputCode _ c id (input_request_length i) (lit≤ tt) is
crossing_fits session s GInput c id range is = asked_fits s.opened session GInputCode _ c id (length-replicate {A = ℕ} 4 0) (lit≤ tt) is
crossing_fits session s (SInput i) c id range is = asked_fits s.opened session SInputCode _ c id refl (lit≤ tt) is
crossing_fits session s (ReqBufs t m n) c id range is = asked_fits s.opened session ReqBufsCode _ c id (reqbufs_request_length t m n) (lit≤ tt) is
crossing_fits session s (QueryBuf t i) c id range is = asked_fits s.opened session QueryBufCode _ c id (querybuf_request_length t i) (lit≤ tt) is
crossing_fits session s (UAlloc u len off) c id range is = cc
crossing_fits session s (QBuf t i user used ts) c id range is =
    let by = crossed_unrefused (first_refusal (row_of s 0 0 (QBuf t i user used ts)).refusals) (qbuf_crossing session s t i user used ts) c is in
    subst (λ (x : Crossing). Fits x) by.1 (qbuf_fits session s t i user used ts id range)
crossing_fits session s (StreamOn t) c id range is = asked_fits s.opened session StreamOnCode _ c id refl (lit≤ tt) is
crossing_fits session s (StreamOff t) c id range is = asked_fits s.opened session StreamOffCode _ c id refl (lit≤ tt) is
crossing_fits session s (DqBuf t) c id range is = absurd (never (first_refusal (row_of s 0 0 (DqBuf t)).refusals) (row_of s 0 0 (DqBuf t)).waits is)
  where
    never : (refused : Option Errno) (waits : Bool) → crossing (unless_by refused (if waits then Waits else AnsweredHere)) ≡ Some c → ⊥
    never None true is = cc
    never None false is = cc
    never (Some e) waits is = cc
crossing_fits session s (Mmap m t i ro) c id range is =
    let by = crossed_unrefused (first_refusal (row_of s 0 0 (Mmap m t i ro)).refusals) _ c is in
    subst (λ (x : Crossing). Fits x) by.1
    (map_fits session (buffer_offset t i) (not ro) id (offset_below t i (2 ^ 32) (mapped_index s 0 0 m t i ro range by.0) (lit≤ tt)))
crossing_fits session s (Munmap m) c id range is =
    let by = crossed_unrefused (first_refusal (row_of s 0 0 (Munmap m)).refusals) _ c is in
    subst (λ (x : Crossing). Fits x) by.1 (unmap_fits (address_of (named s m)) (bound_address (named s m) (named_in_range s m range)))
crossing_fits session s (Peek m off len) c id range is = cc
crossing_fits session s (Hash m) c id range is = cc
crossing_fits session s (Poke m off bytes) c id range is = cc
crossing_fits session s (Fill m seed) c id range is = cc
crossing_fits session s (Subscribe e) c id range is = asked_fits s.opened session SubscribeCode _ c id (subscription_length e) (lit≤ tt) is
crossing_fits session s (Unsubscribe e) c id range is = asked_fits s.opened session UnsubscribeCode _ c id (subscription_length e) (lit≤ tt) is
crossing_fits session s DqEvent c id range is = cc
