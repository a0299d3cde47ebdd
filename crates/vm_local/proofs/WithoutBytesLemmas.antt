-- What a handle's calls and steps are without the bytes of its memories.
use Rattle.std.proofs.Common.{◌≡◌, ℕ, zero, suc, ◌+◌, ◌-◌, ◌≤◌, Bool, true, false, List, [], ◌∷◌, ◌++◌, length, get_or, set, map, take, drop, replicate, Option, Some, None, refl, sym, ap, ◌∙◌, arith, length-append, length-drop, if◌then◌else◌}
use Rattle.std.specs.Option.{unwrap_or}
use Rattle.std.proofs.lemmas.Option.{none-some}
use Rattle.std.proofs.lemmas.Bool.{false≢true, ltb-false}
use Rattle.std.proofs.lemmas.List.{length-replicate, length-map, map-append, map-set, length-take-le}
use Rattle.std.proofs.Math.ListN.{get_or-map}
use Rattle.std.proofs.lemmas.List.FromFn.{length-map-range_with_len}
use Rattle.std.proofs.Math.Seq.{map-set_same}
use Rattle.v4l_const.specs.Model.{source_queue}
use Rattle.v4l_const.specs.declared.errno.Errno.TheVariants.{Enomem}
use Rattle.v4l_format.specs.Fmt.{picture_size}
use Rattle.v4l_format.specs.Picture.{pattern_picture, converted_picture}
use Rattle.v4l_rules.specs.Refusals.{first_refusal}
use Rattle.vm_mem.specs.Seeded.{seeded}
use Rattle.vm_local.specs.declared.bound.MemoryKind.{MemoryKind}
use Rattle.vm_local.specs.declared.bound.MemoryKind.TheVariants.{Mmap, UserPtr}
use Rattle.vm_local.specs.declared.buffer.Buffer.{Buffer}
use Rattle.vm_local.specs.declared.call.Call.{Call}
use Rattle.vm_local.specs.declared.call.Call.TheVariants.{OpenHandle, CloseHandle, QueryCap, EnumFmt, GFmt, TryFmt, SFmt, EnumInput, GInput, SInput, ReqBufs, QueryBuf, UAlloc, QBuf, StreamOn, StreamOff, DqBuf, Mmap as MapCall, Munmap, Peek, Hash, Poke, Fill, Subscribe, Unsubscribe, DqEvent}
use Rattle.vm_local.specs.declared.entry.Entry.{Entry}
use Rattle.vm_local.specs.declared.entry.Entry.TheVariants.{Called, Finish, Bad, Give}
use Rattle.vm_local.specs.declared.owed.Owed.{Owed as OwedEntry}
use Rattle.vm_local.specs.declared.owed.OwedItem.{OwedItem}
use Rattle.vm_local.specs.declared.owed.OwedItem.TheVariants.{Buffer as OwedBuffer, Sync}
use Rattle.vm_local.specs.declared.reply.Reply.{Reply}
use Rattle.vm_local.specs.declared.reply.Reply.TheVariants.{Refused}
use Rattle.vm_local.specs.State.{LocalState, queue_of, buffer_of}
use Rattle.vm_local.specs.Same.{address_in}
use Rattle.vm_local.specs.Memory.{named, memory_of, bytes_of, with_bytes}
use Rattle.vm_local.specs.Queue.{memory_kind, fresh_memories, granted, with_buffers, brought, length_from, queued_buffer, can_finish, flags_of}
use Rattle.vm_local.specs.Calls.{Row, row_of, querycap_row, enumfmt_row, gfmt_row, tryfmt_row, sfmt_row, enuminput_row, ginput_row, sinput_row, reqbufs_row, querybuf_row, ualloc_row, qbuf_row, streamon_row, streamoff_row, dqbuf_row, mmap_row, munmap_row, read_row, hash_row, write_row, fill_row, subscribe_row, unsubscribe_row, dqevent_row}
use Rattle.vm_local.specs.Steps.{head_buffer, number_of, target, picture_from, next_picture, timestamp_from, heads_taken, counted, item_given, given_from, finished, marked_bad, given}
use Rattle.vm_local.specs.Log.{row_for, called, after}
use Rattle.vm_local.specs.Record.{zeros, without_bytes, tells_bytes, is_refusal, with_call, moved}
use Rattle.vm_local.proofs.KeptLemmas.{some_same, refused_call}
use Rattle.vm_local.proofs.StepLemmas.{passes, Went, done_by, frame_made, frame_failed, finished_by, failed_by}

-- ---- bytes that are zeros

-- zeros tell of bytes only how many they are
pub alike_zeros : (xs ys : List ℕ) → length xs ≡ length ys → zeros xs ≡ zeros ys
alike_zeros xs ys same = ap (λ n. replicate n 0) same

pub zeros_of_zeros : (n : ℕ) → zeros (replicate n 0) ≡ replicate n 0
zeros_of_zeros n = ap (λ k. replicate k 0) (length-replicate n 0)

pub zeros_at : (ms : List (List ℕ)) (m : ℕ) → get_or (map zeros ms) m [] ≡ zeros (get_or ms m [])
zeros_at ms m = get_or-map zeros ms m []

pub long_at : (ms : List (List ℕ)) (m : ℕ) → length (get_or (map zeros ms) m []) ≡ length (get_or ms m [])
long_at ms m = ap (λ (xs : List ℕ). length xs) (zeros_at ms m) ∙ length-replicate (length (get_or ms m [])) 0

pub same_made : (s : LocalState) → length (without_bytes s).memories ≡ length s.memories
same_made s = length-map s.memories zeros

pub long_of : (s : LocalState) (m : ℕ) → length (bytes_of (without_bytes s) m) ≡ length (bytes_of s m)
long_of s m = long_at s.memories m

-- bytes that are as many as those that a memory has, in their place
pub zeros_set : (ms : List (List ℕ)) (m : ℕ) (new : List ℕ) → length new ≡ length (get_or ms m []) → map zeros (set ms m new) ≡ map zeros ms
zeros_set ms m new same = map-set_same zeros ms m new [] (alike_zeros new (get_or ms m []) same)

zeros_twice : (ms : List (List ℕ)) → map zeros (map zeros ms) ≡ map zeros ms
zeros_twice [] = refl
zeros_twice (b ∷ bs) = rw (zeros_of_zeros (length b), zeros_twice bs) refl

zeros_fresh : (kind : MemoryKind) (size n : ℕ) → map zeros (fresh_memories kind size n) ≡ fresh_memories kind size n
zeros_fresh Mmap size n = all_zeros size n
  where
    all_zeros : (size n : ℕ) → map zeros (replicate n (replicate size 0)) ≡ replicate n (replicate size 0)
    all_zeros size zero = refl
    all_zeros size (suc n) = rw (zeros_of_zeros size, all_zeros size n) refl
zeros_fresh UserPtr size n = refl

-- ---- what the rows of the table say

long_from : (s : LocalState) (memory : Option ℕ) (b : Buffer) → length_from (without_bytes s) memory b ≡ length_from s memory b
long_from s None b = refl
long_from s (Some m) b = long_at s.memories m

pub same_refusals : (s : LocalState) (line addr : ℕ) (call : Call) → (row_of (without_bytes s) line addr call).refusals ≡ (row_of s line addr call).refusals
unfolding querycap_row enumfmt_row gfmt_row tryfmt_row sfmt_row enuminput_row ginput_row sinput_row reqbufs_row querybuf_row ualloc_row qbuf_row streamon_row streamoff_row dqbuf_row mmap_row munmap_row read_row hash_row write_row fill_row subscribe_row unsubscribe_row dqevent_row
same_refusals s line addr (OpenHandle nonblock) = refl
same_refusals s line addr CloseHandle = refl
same_refusals s line addr QueryCap = refl
same_refusals s line addr (EnumFmt t i) = refl
same_refusals s line addr (GFmt t) = refl
same_refusals s line addr (TryFmt t f w h) = refl
same_refusals s line addr (SFmt t f w h) = refl
same_refusals s line addr (EnumInput i) = refl
same_refusals s line addr GInput = refl
same_refusals s line addr (SInput i) = refl
same_refusals s line addr (ReqBufs t m n) = refl
same_refusals s line addr (QueryBuf t i) = refl
same_refusals s line addr (UAlloc u len off) = refl
same_refusals s line addr (QBuf t i user used ts) = rw (long_from s (brought s user) (buffer_of (queue_of s t) i)) refl
same_refusals s line addr (StreamOn t) = refl
same_refusals s line addr (StreamOff t) = refl
same_refusals s line addr (DqBuf t) = refl
same_refusals s line addr (MapCall m t i ro) = refl
same_refusals s line addr (Munmap m) = refl
same_refusals s line addr (Peek m off len) = rw (long_at s.memories (memory_of (named s m))) refl
same_refusals s line addr (Hash m) = refl
same_refusals s line addr (Poke m off bytes) = rw (long_at s.memories (memory_of (named s m))) refl
same_refusals s line addr (Fill m seed) = refl
same_refusals s line addr (Subscribe v) = refl
same_refusals s line addr (Unsubscribe v) = refl
same_refusals s line addr DqEvent = refl

pub same_lacks : (s : LocalState) (line addr : ℕ) (call : Call) → (row_of (without_bytes s) line addr call).may_lack_memory ≡ (row_of s line addr call).may_lack_memory
unfolding querycap_row enumfmt_row gfmt_row tryfmt_row sfmt_row enuminput_row ginput_row sinput_row reqbufs_row querybuf_row ualloc_row qbuf_row streamon_row streamoff_row dqbuf_row mmap_row munmap_row read_row hash_row write_row fill_row subscribe_row unsubscribe_row dqevent_row
same_lacks s line addr (OpenHandle nonblock) = refl
same_lacks s line addr CloseHandle = refl
same_lacks s line addr QueryCap = refl
same_lacks s line addr (EnumFmt t i) = refl
same_lacks s line addr (GFmt t) = refl
same_lacks s line addr (TryFmt t f w h) = refl
same_lacks s line addr (SFmt t f w h) = refl
same_lacks s line addr (EnumInput i) = refl
same_lacks s line addr GInput = refl
same_lacks s line addr (SInput i) = refl
same_lacks s line addr (ReqBufs t m n) = refl
same_lacks s line addr (QueryBuf t i) = refl
same_lacks s line addr (UAlloc u len off) = refl
same_lacks s line addr (QBuf t i user used ts) = refl
same_lacks s line addr (StreamOn t) = refl
same_lacks s line addr (StreamOff t) = refl
same_lacks s line addr (DqBuf t) = refl
same_lacks s line addr (MapCall m t i ro) = refl
same_lacks s line addr (Munmap m) = refl
same_lacks s line addr (Peek m off len) = refl
same_lacks s line addr (Hash m) = refl
same_lacks s line addr (Poke m off bytes) = refl
same_lacks s line addr (Fill m seed) = refl
same_lacks s line addr (Subscribe v) = refl
same_lacks s line addr (Unsubscribe v) = refl
same_lacks s line addr DqEvent = refl

pub same_waits : (s : LocalState) (line addr : ℕ) (call : Call) → (row_of (without_bytes s) line addr call).waits ≡ (row_of s line addr call).waits
unfolding querycap_row enumfmt_row gfmt_row tryfmt_row sfmt_row enuminput_row ginput_row sinput_row reqbufs_row querybuf_row ualloc_row qbuf_row streamon_row streamoff_row dqbuf_row mmap_row munmap_row read_row hash_row write_row fill_row subscribe_row unsubscribe_row dqevent_row
same_waits s line addr (OpenHandle nonblock) = refl
same_waits s line addr CloseHandle = refl
same_waits s line addr QueryCap = refl
same_waits s line addr (EnumFmt t i) = refl
same_waits s line addr (GFmt t) = refl
same_waits s line addr (TryFmt t f w h) = refl
same_waits s line addr (SFmt t f w h) = refl
same_waits s line addr (EnumInput i) = refl
same_waits s line addr GInput = refl
same_waits s line addr (SInput i) = refl
same_waits s line addr (ReqBufs t m n) = refl
same_waits s line addr (QueryBuf t i) = refl
same_waits s line addr (UAlloc u len off) = refl
same_waits s line addr (QBuf t i user used ts) = refl
same_waits s line addr (StreamOn t) = refl
same_waits s line addr (StreamOff t) = refl
same_waits s line addr (DqBuf t) = refl
same_waits s line addr (MapCall m t i ro) = refl
same_waits s line addr (Munmap m) = refl
same_waits s line addr (Peek m off len) = refl
same_waits s line addr (Hash m) = refl
same_waits s line addr (Poke m off bytes) = refl
same_waits s line addr (Fill m seed) = refl
same_waits s line addr (Subscribe v) = refl
same_waits s line addr (Unsubscribe v) = refl
same_waits s line addr DqEvent = refl

pub same_replies : (s : LocalState) (line addr : ℕ) (call : Call) → tells_bytes call ≡ false → (row_of (without_bytes s) line addr call).reply ≡ (row_of s line addr call).reply
unfolding querycap_row enumfmt_row gfmt_row tryfmt_row sfmt_row enuminput_row ginput_row sinput_row reqbufs_row querybuf_row ualloc_row qbuf_row streamon_row streamoff_row dqbuf_row mmap_row munmap_row read_row hash_row write_row fill_row subscribe_row unsubscribe_row dqevent_row flags_of
same_replies s line addr (OpenHandle nonblock) pass = refl
same_replies s line addr CloseHandle pass = refl
same_replies s line addr QueryCap pass = refl
same_replies s line addr (EnumFmt t i) pass = refl
same_replies s line addr (GFmt t) pass = refl
same_replies s line addr (TryFmt t f w h) pass = refl
same_replies s line addr (SFmt t f w h) pass = refl
same_replies s line addr (EnumInput i) pass = refl
same_replies s line addr GInput pass = refl
same_replies s line addr (SInput i) pass = refl
same_replies s line addr (ReqBufs t m n) pass = refl
same_replies s line addr (QueryBuf t i) pass = refl
same_replies s line addr (UAlloc u len off) pass = refl
same_replies s line addr (QBuf t i user used ts) pass = refl
same_replies s line addr (StreamOn t) pass = refl
same_replies s line addr (StreamOff t) pass = refl
same_replies s line addr (DqBuf t) pass = refl
same_replies s line addr (MapCall m t i ro) pass = refl
same_replies s line addr (Munmap m) pass = refl
same_replies s line addr (Peek m off len) pass = absurd (false≢true (sym pass))
same_replies s line addr (Hash m) pass = absurd (false≢true (sym pass))
same_replies s line addr (Poke m off bytes) pass = refl
same_replies s line addr (Fill m seed) pass = refl
same_replies s line addr (Subscribe v) pass = refl
same_replies s line addr (Unsubscribe v) pass = refl
same_replies s line addr DqEvent pass = refl

-- ---- what calls lead to

-- the bytes that a write leaves are as many as before
written_long : (old bytes : List ℕ) (off : ℕ) → off + length bytes ≤ length old → length (take off old ++ (bytes ++ drop (off + length bytes) old)) ≡ length old
written_long old bytes off within =
    let front : length (take off old) ≡ off = length-take-le off old (omega (arith, within)) in
    let back : length (drop (off + length bytes) old) ≡ length old - (off + length bytes) = length-drop (off + length bytes) old in
    let mid : length (bytes ++ drop (off + length bytes) old) ≡ length bytes + length (drop (off + length bytes) old) = length-append bytes _ in
    omega (arith, length-append (take off old) (bytes ++ drop (off + length bytes) old), front, back, mid, within)

kept_bytes : (s : LocalState) (m : ℕ) (new : List ℕ) → length new ≡ length (bytes_of s m) → without_bytes s ≡ without_bytes (with_bytes s m new)
kept_bytes s m new same = ap (λ (ms : List (List ℕ)). record s { memories = ms }) (sym (zeros_set s.memories m new same))

-- a call that no refusal stops leads the record to that of the state that it leads to
pub same_call : (s : LocalState) (line addr : ℕ) (call : Call) → first_refusal (row_of s line addr call).refusals ≡ None →
    with_call (without_bytes s) line addr call ≡ without_bytes (row_of s line addr call).next
unfolding querycap_row enumfmt_row gfmt_row tryfmt_row sfmt_row enuminput_row ginput_row sinput_row reqbufs_row querybuf_row ualloc_row qbuf_row streamon_row streamoff_row dqbuf_row mmap_row munmap_row read_row hash_row write_row fill_row subscribe_row unsubscribe_row dqevent_row with_buffers queued_buffer
same_call s line addr (OpenHandle nonblock) pass = refl
same_call s line addr CloseHandle pass = refl
same_call s line addr QueryCap pass = refl
same_call s line addr (EnumFmt t i) pass = refl
same_call s line addr (GFmt t) pass = refl
same_call s line addr (TryFmt t f w h) pass = refl
same_call s line addr (SFmt t f w h) pass = refl
same_call s line addr (EnumInput i) pass = refl
same_call s line addr GInput pass = refl
same_call s line addr (SInput i) pass = refl
same_call s line addr (ReqBufs t m n) pass =
    let kind : MemoryKind = memory_kind m in
    let size : ℕ = picture_size (queue_of s t).format in
    rw (length-map s.memories zeros, map-append zeros s.memories (fresh_memories kind size (granted n)), zeros_fresh kind size (granted n)) refl
same_call s line addr (QueryBuf t i) pass = refl
same_call s line addr (UAlloc u len off) pass =
    rw (length-map s.memories zeros, map-append zeros s.memories (replicate len 0 ∷ []), zeros_of_zeros len) refl
same_call s line addr (QBuf t i user used ts) pass = rw (long_from s (brought s user) (buffer_of (queue_of s t) i)) refl
same_call s line addr (StreamOn t) pass = refl
same_call s line addr (StreamOff t) pass = refl
same_call s line addr (DqBuf t) pass = refl
same_call s line addr (MapCall m t i ro) pass = refl
same_call s line addr (Munmap m) pass = refl
same_call s line addr (Peek m off len) pass = refl
same_call s line addr (Hash m) pass = refl
same_call s line addr (Poke m off bytes) pass =
    let so : (k : ℕ) → (get_or (write_row s m off bytes).refusals k (false, Enomem)).0 ≡ false = passes (write_row s m off bytes).refusals pass in
    let old : List ℕ = bytes_of s (memory_of (named s m)) in
    let within : off + length bytes ≤ length old = ltb-false _ _ (so 1) in
    kept_bytes s (memory_of (named s m)) (take off old ++ (bytes ++ drop (off + length bytes) old)) (written_long old bytes off within)
same_call s line addr (Fill m seed) pass =
    let old : List ℕ = bytes_of s (memory_of (named s m)) in
    kept_bytes s (memory_of (named s m)) (seeded seed (length old)) (length-map-range_with_len _ 0 (length old))
same_call s line addr (Subscribe v) pass = refl
same_call s line addr (Unsubscribe v) pass = refl
same_call s line addr DqEvent pass = refl

-- ---- what the device's own steps lead to

same_timestamp : (source : Option ℕ) (s : LocalState) → timestamp_from source (without_bytes s) ≡ timestamp_from source s
same_timestamp None s = refl
same_timestamp (Some t) s = refl

same_heads : (s : LocalState) (good : Bool) (entries : List OwedEntry) → heads_taken (without_bytes s) good entries ≡ without_bytes (heads_taken s good entries)
same_heads s good entries = rw (same_timestamp (source_queue s.model) s) refl

picture_long : (source : Option ℕ) (s : LocalState) → length (picture_from source s) ≡ picture_size (target s).format
unfolding pattern_picture converted_picture
picture_long None s = length-map-range_with_len _ 0 (picture_size (target s).format)
picture_long (Some t) s = length-map-range_with_len _ 0 (picture_size (target s).format)

-- the bytes of the memory that has the next picture
abbrev pub fronted : LocalState → List ℕ
fronted s = next_picture s ++ drop (picture_size (target s).format) (bytes_of s (number_of (head_buffer (target s))))

pub fronted_long : (s : LocalState) → length (fronted s) ≡
    picture_size (target s).format + (length (bytes_of s (number_of (head_buffer (target s)))) - picture_size (target s).format)
fronted_long s =
    let size : ℕ = picture_size (target s).format in
    let old : List ℕ = bytes_of s (number_of (head_buffer (target s))) in
    omega (arith, length-append (next_picture s) (drop size old), picture_long (source_queue s.model) s, length-drop size old)

pub same_frame : (s : LocalState) → without_bytes (frame_made (without_bytes s)) ≡ without_bytes (frame_made s)
same_frame s =
    let m : ℕ = number_of (head_buffer (target s)) in
    let ms : List (List ℕ) = s.memories in
    let long : length (fronted (without_bytes s)) ≡ length (fronted s) =
    omega (arith, fronted_long (without_bytes s), fronted_long s, long_at ms m) in
    let all : map zeros (set (map zeros ms) m (fronted (without_bytes s))) ≡ map zeros (set ms m (fronted s)) =
    map-set zeros (map zeros ms) m (fronted (without_bytes s)) ∙ (ap (λ (xs : List (List ℕ)). set xs m (zeros (fronted (without_bytes s)))) (zeros_twice ms) ∙
    (ap (λ (x : List ℕ). set (map zeros ms) m x) (alike_zeros (fronted (without_bytes s)) (fronted s) long) ∙ sym (map-set zeros ms m (fronted s)))) in
    rw (all, same_timestamp (source_queue s.model) s) refl

pub same_failed : (s : LocalState) → frame_failed (without_bytes s) ≡ without_bytes (frame_failed s)
same_failed s = rw (same_timestamp (source_queue s.model) s) refl

pub same_item : (s : LocalState) (t : ℕ) (item : OwedItem) → item_given (without_bytes s) t item ≡ without_bytes (item_given s t item)
same_item s t (OwedBuffer i) = refl
same_item s t (Sync frame) =
    let more : LocalState → LocalState = λ r.
    record r { events = r.events ++ (record { frame = frame; number = r.next_event }) ∷ []; next_event = counted r.next_event } in
    elim s.subscribed as (λ b. (if b then more (without_bytes s) else without_bytes s) ≡ without_bytes (if b then more s else s)) [
      | true ↦ refl
      | false ↦ refl
    ]

same_gift : (s : LocalState) (owed : List OwedEntry) (t : LocalState) → given_from s owed ≡ Some t →
    unwrap_or (given_from (without_bytes s) owed) (without_bytes s) ≡ without_bytes t
same_gift s [] t h = absurd (none-some t h)
same_gift s (o ∷ rest) t h =
    same_item (record s { owed = rest }) o.queue o.item ∙ ap (λ (x : LocalState). without_bytes x) (some_same _ t t h)

-- ---- what entries lead to

same_done : (s : LocalState) (line : ℕ) (call : Call) (reply : Reply) (t : LocalState) (refused : Bool) → is_refusal reply ≡ refused → called s line call reply ≡ Some t →
    (if refused then without_bytes s else with_call (without_bytes s) line (address_in reply) call) ≡ without_bytes t
unfolding called
same_done s line call reply t false is leads =
    let r : Row = row_for s line call reply in
    let went : Went (first_refusal r.refusals) r reply t = done_by (first_refusal r.refusals) r s reply t is leads in
    same_call s line (address_in reply) call went.0 ∙ ap (λ (x : LocalState). without_bytes x) (sym went.3)
same_done s line call (Refused e) t true is leads = ap (λ (x : LocalState). without_bytes x) (sym (refused_call s line call e t leads))
same_done s line call reply t true is leads = absurd (false≢true is)

-- an entry that is legal from a state leads the record to that of the state that it leads to
pub same_moves : (s t : LocalState) (e : Entry) → after s e ≡ Some t → moved (without_bytes s) e ≡ without_bytes t
unfolding finished marked_bad given
same_moves s t (Called line call reply) leads = same_done s line call reply t (is_refusal reply) refl leads
same_moves s t Finish leads =
    let by : (can_finish s ≡ true) × (t ≡ frame_made s) = finished_by s t leads in
    rw (by.0, by.1) (same_frame s)
same_moves s t Bad leads =
    let by : (can_finish s ≡ true) × (t ≡ frame_failed s) = failed_by s t leads in
    rw (by.0, by.1) (same_failed s)
same_moves s t Give leads = same_gift s s.owed t leads
