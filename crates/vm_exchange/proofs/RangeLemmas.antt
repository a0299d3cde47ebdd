-- Every entry keeps the numbers of the state in their range.
use Rattle.std.proofs.Common.{◌≡◌, ◌<◌, ◌≤◌, ◌^◌, ◌+◌, ◌*◌, ◌%◌, inl, inr, ◌++◌, ℕ, zero, suc, Bool, true, false, List, [], ◌∷◌, get_or, set, map, length, replicate, take, drop, length-append, length-drop, length-take-le, Option, Some, None, refl, sym, subst, not, nat_lt, if◌then◌else◌, lit<, lit≤, arith}
use Rattle.std.specs.Prelude.{All, IfSome}
use Rattle.std.specs.List.{range_with_len}
use Rattle.std.specs.Option.{option_map}
use Rattle.std.specs.Str.{bytes_eq}
use Rattle.std.proofs.lemmas.Bool.{ltb-false}
use Rattle.std.proofs.lemmas.Bool.Decides.{nat_tests}
use Rattle.std.proofs.lemmas.List.{length-replicate, length-map, length-set, get_or_past}
use Rattle.std.proofs.lemmas.List.Elements.{All-nil, All-cons, All-append, All-get_or, All-map, All-push, All-replicate, All-set}
use Rattle.std.proofs.lemmas.List.Elements.{All-filter}
use Rattle.std.proofs.lemmas.List.FromFn.{length-map-range_with_len}
use Rattle.v4l_const.specs.declared.four_cc.FourCc.{FourCc}
use Rattle.v4l_const.specs.declared.model.Model.{Model}
use Rattle.v4l_const.specs.Model.{queues as types_of, source_queue, picture_queue}
use Rattle.v4l_format.specs.declared.fmt.Fmt.{Fmt}
use Rattle.v4l_format.specs.Fmt.{IsAdjusted, picture_size}
use Rattle.v4l_format.proofs.FmtLemmas.{picture_size_most}
use Rattle.v4l_rules.specs.Formats.{is_source, source_format, with_format_at, with_set_format_at, with_source_format}
use Rattle.v4l_rules.specs.Queues.{place_in}
use Rattle.v4l_rules.specs.Refusals.{first_refusal}
use Rattle.v4l_rules.proofs.AdjustedLemmas.{adjusted_from_adjusted, first_is_adjusted, sized_adjusted}
use Rattle.vm_local.specs.declared.bound.Bound.{Bound}
use Rattle.vm_local.specs.declared.bound.MemoryKind.{MemoryKind}
use Rattle.vm_local.specs.declared.bound.MemoryKind.TheVariants.{Mmap as MmapKind, UserPtr}
use Rattle.vm_local.specs.declared.buffer.Buffer.{Buffer}
use Rattle.vm_local.specs.declared.call.Call.{Call}
use Rattle.vm_local.specs.declared.call.Call.TheVariants.{OpenHandle, CloseHandle, QueryCap, EnumFmt, GFmt, TryFmt, SFmt, EnumInput, GInput, SInput, ReqBufs, QueryBuf, UAlloc, QBuf, StreamOn, StreamOff, DqBuf, Mmap, Munmap, Peek, Hash, Poke, Fill, Subscribe, Unsubscribe, DqEvent}
use Rattle.vm_local.specs.declared.entry.Entry.{Entry}
use Rattle.vm_local.specs.declared.entry.Entry.TheVariants.{Called, Finish, Bad, Give}
use Rattle.vm_local.specs.declared.owed.Owed.{Owed}
use Rattle.vm_local.specs.declared.owed.OwedItem.{OwedItem}
use Rattle.vm_local.specs.declared.owed.OwedItem.TheVariants.{Buffer as OwedBuffer, Sync}
use Rattle.vm_local.specs.declared.reply.Reply.{Reply}
use Rattle.vm_local.specs.State.{QueueState, LocalState, opening, opening_queue, queue_kind, queue_of, with_queue, buffer_of, with_buffer, no_buffer}
use Rattle.vm_local.specs.Same.{address_in}
use Rattle.vm_local.specs.Memory.{bytes_of, memory_of, named, without_name, with_bytes}
use Rattle.vm_local.specs.Queue.{adjusted_for, with_set_format, made_idle, stopped_queue, memory_kind, fresh_buffer, fresh_buffers, fresh_memories, granted, brought, length_from, queued_buffer, with_buffers, first_done}
use Rattle.vm_local.specs.Calls.{row_of, querycap_row, enumfmt_row, gfmt_row, tryfmt_row, sfmt_row, enuminput_row, ginput_row, sinput_row, reqbufs_row, querybuf_row, ualloc_row, qbuf_row, streamon_row, streamoff_row, dqbuf_row, mmap_row, munmap_row, read_row, hash_row, write_row, fill_row, subscribe_row, unsubscribe_row, dqevent_row}
use Rattle.vm_local.specs.Steps.{counted, head, head_buffer, number_of, target, heads_taken, taken, taken_buffer, next_timestamp, with_target_used, sync_of, buffers_taken, item_given}
use Rattle.vm_local.specs.Log.{row_for, called, after}
use Rattle.vm_local.proofs.StepLemmas.{passes, answered_by, finished_by, failed_by, given_by, frame_made, frame_failed}
use Rattle.vm_local.proofs.WithoutBytesLemmas.{fronted, fronted_long}
use Rattle.vm_exchange.specs.Exchange.{memory_number}
use Rattle.vm_exchange.specs.Range.{IsKindInRange, IsQueueInRange, IsInRange, HasWords}

-- ---- queues

abbrev IsShort : Buffer → Type 0
IsShort b = b.length ≤ 925696

pub opening_queue_in_range : IsQueueInRange opening_queue
opening_queue_in_range = record { format = first_is_adjusted; few = lit≤ tt; lengths = All-nil IsShort }

-- the length of a buffer
pub buffer_short : (q : QueueState) (i : ℕ) → IsQueueInRange q → (buffer_of q i).length ≤ 925696
buffer_short q i range = known (nat_lt i (length q.buffers)) refl
  where
    known : (b : Bool) → nat_lt i (length q.buffers) ≡ b → (buffer_of q i).length ≤ 925696
    known true is = All-get_or IsShort q.buffers i no_buffer (grind (arith, nat_tests)) range.lengths
    known false is = rw (get_or_past q.buffers i no_buffer (grind (arith, nat_tests))) (lit≤ tt)

-- another buffer in a place
with_buffer_in_range : (q : QueueState) (i : ℕ) (b : Buffer) → IsQueueInRange q → b.length ≤ 925696 → IsQueueInRange (with_buffer q i b)
with_buffer_in_range q i b range short = record {
  format = range.format;
  few = omega (arith, length-set q.buffers i b, range.few);
  lengths = All-set IsShort q.buffers i b short range.lengths;
}

-- a queue with the format and the buffers of another
buffers_as : (q r : QueueState) → IsQueueInRange q → r.format ≡ q.format → r.buffers ≡ q.buffers → IsQueueInRange r
buffers_as q r range format buffers = record {
  format = subst IsAdjusted (sym format) range.format;
  few = subst (λ (bs : List Buffer). length bs ≤ 32) (sym buffers) range.few;
  lengths = subst (λ (bs : List Buffer). All IsShort bs) (sym buffers) range.lengths;
}

stopped_in_range : (q : QueueState) → IsQueueInRange q → IsQueueInRange (stopped_queue q)
stopped_in_range q range = record {
  format = range.format;
  few = omega (arith, length-map q.buffers made_idle, range.few);
  lengths = All-map IsShort made_idle q.buffers range.lengths;
}

taken_in_range : (good : Bool) (timestamp : ℕ) (q : QueueState) → IsQueueInRange q → IsQueueInRange (taken good timestamp q)
taken_in_range good timestamp q range =
    buffers_as (with_buffer q (head q) (taken_buffer good q.next_sequence timestamp (head_buffer q))) _
    (with_buffer_in_range q (head q) _ range (buffer_short q (head q) range)) refl refl

each : {X : Type 0} (P : X → Type 0) → ((x : X) → P x) → (xs : List X) → All P xs
each P holds [] = All-nil P
each P holds (x ∷ xs) = All-cons P x xs (holds x) (each P holds xs)

fresh_few : (kind : MemoryKind) (size first n : ℕ) → n ≤ 32 → length (fresh_buffers kind size first n) ≤ 32
fresh_few MmapKind size first n few = omega (arith, length-map-range_with_len (λ m. fresh_buffer size (Some m)) first n, few)
fresh_few UserPtr size first n few = omega (arith, length-replicate n (fresh_buffer size None), few)

fresh_short : (kind : MemoryKind) (size first n : ℕ) → size ≤ 925696 → All IsShort (fresh_buffers kind size first n)
fresh_short MmapKind size first n short =
    All-map IsShort (λ m. fresh_buffer size (Some m)) (range_with_len first n) (each (λ m. size ≤ 925696) (λ m. short) (range_with_len first n))
fresh_short UserPtr size first n short = All-replicate IsShort n (fresh_buffer size None) short

-- ---- all queues of a handle

abbrev AreInRange : List QueueState → Type 0
AreInRange qs = (p : ℕ) → IsQueueInRange (get_or qs p opening_queue)

first_are_in_range : (types : List ℕ) → AreInRange (map (λ t. opening_queue) types)
first_are_in_range [] p = opening_queue_in_range
first_are_in_range (t ∷ ts) zero = opening_queue_in_range
first_are_in_range (t ∷ ts) (suc p) = first_are_in_range ts p

-- another queue in a place
set_in_range : (qs : List QueueState) (p : ℕ) (q : QueueState) → AreInRange qs → IsQueueInRange q → AreInRange (set qs p q)
set_in_range [] p q each_is one i = each_is i
set_in_range (x ∷ qs) zero q each_is one zero = one
set_in_range (x ∷ qs) zero q each_is one (suc i) = each_is (suc i)
set_in_range (x ∷ qs) (suc p) q each_is one zero = each_is zero
set_in_range (x ∷ qs) (suc p) q each_is one (suc i) = set_in_range qs p q (λ j. each_is (suc j)) one i

-- all queues changed
map_in_range : (f : QueueState → QueueState) → ((q : QueueState) → IsQueueInRange q → IsQueueInRange (f q)) → (qs : List QueueState) → AreInRange qs → AreInRange (map f qs)
map_in_range f keeps [] each_is i = each_is i
map_in_range f keeps (q ∷ qs) each_is zero = keeps q (each_is zero)
map_in_range f keeps (q ∷ qs) each_is (suc i) = map_in_range f keeps qs (λ j. each_is (suc j)) i

pub queue_in_range : (s : LocalState) (t : ℕ) → IsInRange s → IsQueueInRange (queue_of s t)
queue_in_range s t range = range.queues (place_in (types_of s.model) t)

-- ---- states

pub opening_in_range : (m : Model) → IsInRange (opening m)
opening_in_range m = record {
  input = lit< tt;
  queues = first_are_in_range (types_of m);
  memories = All-nil _;
  bound = All-nil _;
}

-- another queue
with_queue_in_range : (s : LocalState) (t : ℕ) (q : QueueState) → IsInRange s → IsQueueInRange q → IsInRange (with_queue s t q)
with_queue_in_range s t q range one = record {
  input = range.input;
  queues = set_in_range s.queues (place_in (types_of s.model) t) q range.queues one;
  memories = range.memories;
  bound = range.bound;
}

-- other memories
with_memories_in_range : (s : LocalState) (ms : List (List ℕ)) → IsInRange s → All (λ bytes. length bytes ≤ 925696) ms → IsInRange (record s { memories = ms })
with_memories_in_range s ms range short = record { input = range.input; queues = range.queues; memories = short; bound = range.bound }

-- other names
with_names_in_range : (s : LocalState) (bound : List Bound) → IsInRange s → All (λ b. IsKindInRange b.kind) bound → IsInRange (record s { bound = bound })
with_names_in_range s bound range kinds = record { input = range.input; queues = range.queues; memories = range.memories; bound = kinds }

-- nothing else has a range
in_range_as : (s t : LocalState) → t.input ≡ s.input → t.queues ≡ s.queues → t.memories ≡ s.memories → t.bound ≡ s.bound → IsInRange s → IsInRange t
in_range_as s t input queues memories bound range = record {
  input = rw input range.input;
  queues = subst AreInRange (sym queues) range.queues;
  memories = subst (λ (ms : List (List ℕ)). All (λ bytes. length bytes ≤ 925696) ms) (sym memories) range.memories;
  bound = subst (λ (bs : List Bound). All (λ b. IsKindInRange b.kind) bs) (sym bound) range.bound;
}

-- the bytes of a memory
pub memory_short : (s : LocalState) (m : ℕ) → IsInRange s → length (bytes_of s m) ≤ 925696
memory_short s m range = known (nat_lt m (length s.memories)) refl
  where
    known : (b : Bool) → nat_lt m (length s.memories) ≡ b → length (bytes_of s m) ≤ 925696
    known true is = All-get_or (λ bytes. length bytes ≤ 925696) s.memories m [] (grind (arith, nat_tests)) range.memories
    known false is = rw (get_or_past s.memories m [] (grind (arith, nat_tests))) (lit≤ tt)

-- other bytes in a memory
with_bytes_in_range : (s : LocalState) (m : ℕ) (bytes : List ℕ) → IsInRange s → length bytes ≤ 925696 → IsInRange (with_bytes s m bytes)
with_bytes_in_range s m bytes range short =
    with_memories_in_range s (set s.memories m bytes) range (All-set (λ bs. length bs ≤ 925696) s.memories m bytes short range.memories)

pub number_below : (kind : MemoryKind) → memory_number kind < 2 ^ 32
number_below MmapKind = lit< tt
number_below UserPtr = lit< tt

pub length_from_short : (s : LocalState) (memory : Option ℕ) (b : Buffer) → IsInRange s → b.length ≤ 925696 → length_from s memory b ≤ 925696
length_from_short s None b range short = short
length_from_short s (Some m) b range short = memory_short s m range

-- ---- formats that are asked for

source_offered : (o : Option ℕ) (s : LocalState) → IsInRange s → IfSome (option_map (λ source. (queue_of s source).format) o) IsAdjusted
source_offered None s range = tt
source_offered (Some source) s range = (queue_in_range s source range).format

-- the format that a queue takes where it is asked for one
pub adjusted_for_offered : (s : LocalState) (t : ℕ) (f : FourCc) (w h : ℕ) → IsInRange s → IsAdjusted (adjusted_for s t f w h)
adjusted_for_offered s t f w h range =
    adjusted_from_adjusted (source_format queue_kind s.model s.queues) s.model t f w h (source_offered (source_queue s.model) s range)

formatted : (q : QueueState) (f : Fmt) → IsQueueInRange q → IsAdjusted f → IsQueueInRange (record q { format = f })
formatted q f range offered = record { format = offered; few = range.few; lengths = range.lengths }

set_format_in_range : (s : LocalState) (t : ℕ) (f : Fmt) → IsInRange s → IsAdjusted f → IsInRange (with_set_format s t f)
unfolding with_set_format_at
set_format_in_range s t f range offered = record {
  input = range.input;
  queues = chosen (is_source s.model t);
  memories = range.memories;
  bound = range.bound;
}
  where
    one : AreInRange (with_format_at queue_kind s.model s.queues t f)
    one = set_in_range s.queues (place_in (types_of s.model) t) _ range.queues (formatted (queue_of s t) f (queue_in_range s t range) offered)

    chosen : (b : Bool) → AreInRange (if b then with_source_format queue_kind s.model s.queues t f else with_format_at queue_kind s.model s.queues t f)
    chosen false = one
    chosen true =
        let pictures : ℕ = place_in (types_of s.model) (picture_queue s.model) in
        set_in_range (with_format_at queue_kind s.model s.queues t f) pictures _ one
        (formatted _ _ (one pictures) (sized_adjusted f (queue_of s (picture_queue s.model)).format offered (queue_in_range s (picture_queue s.model) range).format))

-- ---- what calls lead to

bound_more : (s : LocalState) (b : Bound) → IsInRange s → IsKindInRange b.kind → All (λ x. IsKindInRange x.kind) (without_name s.bound b.name ++ b ∷ [])
bound_more s b range kind =
    All-push (λ x. IsKindInRange x.kind) (without_name s.bound b.name) b
    (All-filter (λ x. not (bytes_eq x.name b.name)) (λ x. IsKindInRange x.kind) s.bound range.bound) kind

fresh_memories_short : (kind : MemoryKind) (size n : ℕ) → size ≤ 925696 → All (λ bytes. length bytes ≤ 925696) (fresh_memories kind size n)
fresh_memories_short MmapKind size n short =
    All-replicate (λ bytes. length bytes ≤ 925696) n (replicate size 0) (omega (arith, length-replicate {A = ℕ} size 0, short))
fresh_memories_short UserPtr size n short = All-nil _

with_buffers_in_range : (s : LocalState) (t : ℕ) (kind : MemoryKind) (n : ℕ) → IsInRange s → n ≤ 32 → IsInRange (with_buffers s t kind n)
unfolding with_buffers
with_buffers_in_range s t kind n range few =
    let q : QueueState = queue_of s t in
    let size : ℕ = picture_size q.format in
    let most = picture_size_most q.format (queue_in_range s t range).format in
    let short : size ≤ 925696 = omega (arith, most) in
    let fresh : QueueState = record (stopped_queue q) { memory = kind; buffers = fresh_buffers kind size (length s.memories) n } in
    let one : IsQueueInRange fresh = record {
      format = (queue_in_range s t range).format;
      few = fresh_few kind size (length s.memories) n few;
      lengths = fresh_short kind size (length s.memories) n short;
    } in
    let queues : IsInRange (with_queue s t fresh) = with_queue_in_range s t fresh range one in
    record {
      input = range.input;
      queues = queues.queues;
      memories = All-append (λ bytes. length bytes ≤ 925696) s.memories (fresh_memories kind size n) range.memories (fresh_memories_short kind size n short);
      bound = range.bound;
    }

granted_few : (n : ℕ) → granted n ≤ 32
granted_few n = grind (arith, nat_tests)

-- a write leaves as many bytes as before
written_short : (old bytes : List ℕ) (off : ℕ) → off + length bytes ≤ length old → length old ≤ 925696 → length (take off old ++ (bytes ++ drop (off + length bytes) old)) ≤ 925696
written_short old bytes off within short =
    let front : length (take off old) ≡ off = length-take-le off old (omega (arith, within)) in
    let back = length-drop (off + length bytes) old in
    let mid = length-append bytes (drop (off + length bytes) old) in
    omega (arith, length-append (take off old) (bytes ++ drop (off + length bytes) old), front, back, mid, within, short)

-- a call that no refusal stops
row_in_range : (s : LocalState) (line addr : ℕ) (call : Call) → IsInRange s → line < 2 ^ 32 → addr < 2 ^ 64 → first_refusal (row_of s line addr call).refusals ≡ None → IsInRange (row_of s line addr call).next
unfolding querycap_row enumfmt_row gfmt_row tryfmt_row sfmt_row enuminput_row ginput_row sinput_row reqbufs_row querybuf_row ualloc_row qbuf_row streamon_row streamoff_row dqbuf_row mmap_row munmap_row read_row hash_row write_row fill_row subscribe_row unsubscribe_row dqevent_row queued_buffer
row_in_range s line addr (OpenHandle nonblock) range lines address passed =
    in_range_as (opening s.model) _ refl refl refl refl (opening_in_range s.model)
row_in_range s line addr CloseHandle range lines address passed = record {
  input = range.input;
  queues = map_in_range stopped_queue stopped_in_range s.queues range.queues;
  memories = range.memories;
  bound = range.bound;
}
row_in_range s line addr QueryCap range lines address passed = range
row_in_range s line addr (EnumFmt t i) range lines address passed = range
row_in_range s line addr (GFmt t) range lines address passed = range
row_in_range s line addr (TryFmt t f w h) range lines address passed = range
row_in_range s line addr (SFmt t f w h) range lines address passed = set_format_in_range s t (adjusted_for s t f w h) range (adjusted_for_offered s t f w h range)
row_in_range s line addr (EnumInput i) range lines address passed = range
row_in_range s line addr GInput range lines address passed = range
row_in_range s line addr (SInput i) range lines address passed =
    let there = passes (row_of s line addr (SInput i)).refusals passed 2 in
    record { input = grind (arith, nat_tests, there); queues = range.queues; memories = range.memories; bound = range.bound }
row_in_range s line addr (ReqBufs t m n) range lines address passed = with_buffers_in_range s t (memory_kind m) (granted n) range (granted_few n)
row_in_range s line addr (QueryBuf t i) range lines address passed = range
row_in_range s line addr (UAlloc u len off) range lines address passed =
    let some = passes (row_of s line addr (UAlloc u len off)).refusals passed 1 in
    let first = passes (row_of s line addr (UAlloc u len off)).refusals passed 2 in
    let short : len ≤ 925696 = grind (arith, nat_tests, some) in
    let near : off ≤ 4095 = ltb-false 4095 off first in
    record {
      input = range.input;
      queues = range.queues;
      memories = All-push (λ bytes. length bytes ≤ 925696) s.memories (replicate len 0) range.memories (omega (arith, length-replicate {A = ℕ} len 0, short));
      bound = bound_more s _ range (lines, near);
    }
row_in_range s line addr (QBuf t i user used ts) range lines address passed =
    let q : QueueState = queue_of s t in
    let b : Buffer = queued_buffer s t (brought s user) used ts (buffer_of q i) in
    let short : b.length ≤ 925696 = length_from_short s (brought s user) (buffer_of q i) range (buffer_short q i (queue_in_range s t range)) in
    with_queue_in_range s t _ range
    (buffers_as (with_buffer q i b) _ (with_buffer_in_range q i b (queue_in_range s t range) short) refl refl)
row_in_range s line addr (StreamOn t) range lines address passed =
    with_queue_in_range s t _ range (buffers_as (queue_of s t) _ (queue_in_range s t range) refl refl)
row_in_range s line addr (StreamOff t) range lines address passed =
    in_range_as (with_queue s t (stopped_queue (queue_of s t))) _ refl refl refl refl
    (with_queue_in_range s t _ range (stopped_in_range (queue_of s t) (queue_in_range s t range)))
row_in_range s line addr (DqBuf t) range lines address passed =
    let q : QueueState = queue_of s t in
    let idle : QueueState = with_buffer q (first_done q) (made_idle (buffer_of q (first_done q))) in
    with_queue_in_range s t _ range
    (buffers_as idle _ (with_buffer_in_range q (first_done q) _ (queue_in_range s t range) (buffer_short q (first_done q) (queue_in_range s t range))) refl refl)
row_in_range s line addr (Mmap m t i ro) range lines address passed =
    with_names_in_range s _ range (bound_more s _ range address)
row_in_range s line addr (Munmap m) range lines address passed =
    with_names_in_range s _ range (All-filter (λ x. not (bytes_eq x.name m)) (λ x. IsKindInRange x.kind) s.bound range.bound)
row_in_range s line addr (Peek m off len) range lines address passed = range
row_in_range s line addr (Hash m) range lines address passed = range
row_in_range s line addr (Poke m off bytes) range lines address passed =
    let old : List ℕ = bytes_of s (memory_of (named s m)) in
    let within = ltb-false _ _ (passes (row_of s line addr (Poke m off bytes)).refusals passed 1) in
    with_bytes_in_range s (memory_of (named s m)) _ range (written_short old bytes off within (memory_short s (memory_of (named s m)) range))
row_in_range s line addr (Fill m seed) range lines address passed =
    let old : List ℕ = bytes_of s (memory_of (named s m)) in
    with_bytes_in_range s (memory_of (named s m)) _ range
    (omega (arith, length-map-range_with_len (λ i. (7 * i + seed) % 256) 0 (length old), memory_short s (memory_of (named s m)) range))
row_in_range s line addr (Subscribe v) range lines address passed = in_range_as s _ refl refl refl refl range
row_in_range s line addr (Unsubscribe v) range lines address passed = in_range_as s _ refl refl refl refl range
row_in_range s line addr DqEvent range lines address passed = in_range_as s _ refl refl refl refl range

-- ---- the device's own steps

heads_in_range : (s : LocalState) (good : Bool) (entries : List Owed) → IsInRange s → IsInRange (heads_taken s good entries)
heads_in_range s good entries range = record {
  input = range.input;
  queues = map_in_range (taken good (next_timestamp s)) (taken_in_range good (next_timestamp s)) s.queues range.queues;
  memories = range.memories;
  bound = range.bound;
}

used_in_range : (s next : LocalState) (n : ℕ) → IsInRange next → IsInRange (with_target_used s n next)
used_in_range s next n range =
    let t : ℕ = picture_queue s.model in
    with_queue_in_range next t _ range
    (with_buffer_in_range (queue_of next t) (head (target s)) _ (queue_in_range next t range)
    (buffer_short (queue_of next t) (head (target s)) (queue_in_range next t range)))

made_in_range : (s : LocalState) → IsInRange s → IsInRange (frame_made s)
made_in_range s range =
    let m : ℕ = number_of (head_buffer (target s)) in
    let most = picture_size_most (target s).format (queue_in_range s (picture_queue s.model) range).format in
    let short = memory_short s m range in
    let used = used_in_range s _ (picture_size (target s).format) (heads_in_range s true (sync_of s ++ buffers_taken s) range) in
    with_bytes_in_range _ m (fronted s) used (omega (arith, fronted_long s, most, short))

failed_in_range : (s : LocalState) → IsInRange s → IsInRange (frame_failed s)
failed_in_range s range = used_in_range s _ 0 (heads_in_range s false (buffers_taken s) range)

item_in_range : (s : LocalState) (t : ℕ) (item : OwedItem) → IsInRange s → IsInRange (item_given s t item)
item_in_range s t (OwedBuffer i) range =
    let q : QueueState = queue_of s t in
    with_queue_in_range s t _ range
    (buffers_as (with_buffer q i _) _ (with_buffer_in_range q i _ (queue_in_range s t range) (buffer_short q i (queue_in_range s t range))) refl refl)
item_in_range s t (Sync frame) range =
    let listed : LocalState = record s { events = s.events ++ (record { frame = frame; number = s.next_event }) ∷ []; next_event = counted s.next_event } in
    elim s.subscribed as (λ b. IsInRange (if b then listed else s)) [
      | true ↦ in_range_as s listed refl refl refl refl range
      | false ↦ range
    ]

-- ---- entries

call_in_range : (s : LocalState) (line : ℕ) (call : Call) (reply : Reply) (t : LocalState) → IsInRange s → line < 2 ^ 32 → address_in reply < 2 ^ 64 → called s line call reply ≡ Some t → IsInRange t
unfolding called
call_in_range s line call reply t range lines address goes =
    elim (answered_by (first_refusal (row_for s line call reply).refusals) (row_for s line call reply) s reply t goes) as (λ _. IsInRange t) [
      | inl stays ↦ subst IsInRange (sym stays) range
      | inr went ↦ subst IsInRange (sym went.3) (row_in_range s line (address_in reply) call range lines address went.0)
    ]

pub after_in_range : (s t : LocalState) (e : Entry) → IsInRange s → HasWords e → after s e ≡ Some t → IsInRange t
after_in_range s t (Called line call reply) range words goes = call_in_range s line call reply t range words.0 words.1 goes
after_in_range s t Finish range words goes = subst IsInRange (sym (finished_by s t goes).1) (made_in_range s range)
after_in_range s t Bad range words goes = subst IsInRange (sym (failed_by s t goes).1) (failed_in_range s range)
after_in_range s t Give range words goes =
    let gave = given_by s t goes in
    let less : LocalState = record s { owed = gave.1 } in
    subst IsInRange (sym gave.3) (item_in_range less gave.0.queue gave.0.item (in_range_as s less refl refl refl refl range))
