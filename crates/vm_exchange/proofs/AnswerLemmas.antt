-- The reply that the device's answer tells is the one that the call has.
use Rattle.std.proofs.Common.{◌≡◌, ◌<◌, ◌^◌, inl, inr, ℕ, true, List, Option, Some, None, refl, sym, ap, ◌∙◌, subst, arith, slice_index_or}
use Rattle.std.proofs.lemmas.Bool.Decides.{nat_tests}
use Rattle.v4l_const.specs.Errno.{errno_number}
use Rattle.v4l_const.specs.declared.errno.Errno.{Errno}
use Rattle.v4l_const.specs.declared.four_cc.FourCc.{FourCc}
use Rattle.v4l_const.specs.declared.model.Model.{Model}
use Rattle.v4l_const.specs.Model.{capabilities, device_capabilities}
use Rattle.v4l_format.specs.declared.fmt.Fmt.{Fmt}
use Rattle.v4l_format.specs.Fmt.{IsAdjusted}
use Rattle.v4l_format.specs.FormatRow.{formats_of, grey}
use Rattle.v4l_layout.specs.Records.{capability_bytes, fmtdesc_bytes, format_bytes, input_bytes, request_bytes, buffer_bytes}
use Rattle.v4l_rules.specs.Refusals.{first_refusal}
use Rattle.vm_commute.specs.Commute.{may_cross}
use Rattle.vm_local.specs.declared.call.Call.{Call}
use Rattle.vm_local.specs.declared.call.Call.TheVariants.{OpenHandle, CloseHandle, QueryCap, EnumFmt, GFmt, TryFmt, SFmt, EnumInput, GInput, SInput, ReqBufs, QueryBuf, UAlloc, QBuf, StreamOn, StreamOff, DqBuf, Mmap, Munmap, Peek, Hash, Poke, Fill, Subscribe, Unsubscribe, DqEvent}
use Rattle.vm_local.specs.declared.reply.Reply.{Reply}
use Rattle.vm_local.specs.declared.reply.Reply.TheVariants.{Done, Refused, Caps, Code, InputName, InputIs, Count, Buf, Mapped}
use Rattle.vm_local.specs.State.{LocalState, queue_of, buffer_of}
use Rattle.vm_local.specs.Same.{address_in}
use Rattle.vm_local.specs.Calls.{format_reply, querycap_row, enumfmt_row, gfmt_row, tryfmt_row, sfmt_row, enuminput_row, ginput_row, sinput_row, reqbufs_row, querybuf_row, qbuf_row, streamon_row, streamoff_row, mmap_row, munmap_row, subscribe_row, unsubscribe_row}
use Rattle.vm_local.specs.Log.{row_for}
use Rattle.vm_local.specs.Queue.{adjusted_for, flags_of, granted}
use Rattle.vm_wire.specs.Buffers.{reqbufs_answer, querybuf_answer}
use Rattle.vm_wire.specs.Records.{capability_of, fmt_desc_answer, format_answer, input_answer}
use Rattle.vm_wire.specs.Wire.{le}
use Rattle.vm_wire.specs.declared.response.Response.{Response}
use Rattle.vm_wire.specs.declared.response.Response.TheVariants.{Refused as Denied, Opened, Closed, Answered, Mapped as MappedAt, Unmapped}
use Rattle.vm_exchange.specs.Exchange.{response_to, IsAnswer, memory_number}
use Rattle.vm_exchange.specs.Range.{IsInRange, AreWords}
use Rattle.vm_exchange.proofs.RangeLemmas.{adjusted_for_offered, queue_in_range, buffer_short, number_below}
use Rattle.vm_exchange.proofs.OutcomeLemmas.{outcome}
use Rattle.vm_exchange.proofs.ReadLemmas.{nth_code_below}
use Rattle.vm_exchange.proofs.WayLemmas.{told_index}

-- ---- what is told

-- what is read of an answer's bytes, by the call
abbrev pub Reads : LocalState → Call → List ℕ → Option Reply → Type 0
Reads s QueryCap bytes o = (m : Model) → bytes ≡ capability_bytes (capability_of m) → o ≡ Some (Caps (capabilities m) (device_capabilities m))
Reads s (EnumFmt t i) bytes o = (t i : ℕ) (code : FourCc) → t < 2 ^ 32 → i < 2 ^ 32 → code.0 < 2 ^ 32 → bytes ≡ fmtdesc_bytes (fmt_desc_answer t i code) → o ≡ Some (Code code)
Reads s (GFmt t) bytes o = (t : ℕ) (f : Fmt) → t < 2 ^ 32 → IsAdjusted f → bytes ≡ format_bytes (format_answer t f) → o ≡ Some (format_reply f)
Reads s (TryFmt t f w h) bytes o = (t : ℕ) (f : Fmt) → t < 2 ^ 32 → IsAdjusted f → bytes ≡ format_bytes (format_answer t f) → o ≡ Some (format_reply f)
Reads s (SFmt t f w h) bytes o = (t : ℕ) (f : Fmt) → t < 2 ^ 32 → IsAdjusted f → bytes ≡ format_bytes (format_answer t f) → o ≡ Some (format_reply f)
Reads s (EnumInput i) bytes o = (i : ℕ) → i < 2 ^ 32 → bytes ≡ input_bytes (input_answer i) → o ≡ Some (InputName i)
Reads s GInput bytes o = (i : ℕ) → i < 2 ^ 32 → bytes ≡ le i → o ≡ Some (InputIs i)
Reads s (SInput i) bytes o = (i : ℕ) → i < 2 ^ 32 → bytes ≡ le i → o ≡ Some (InputIs i)
Reads s (ReqBufs t m n) bytes o = (model : Model) (t memory count : ℕ) → t < 2 ^ 32 → memory < 2 ^ 32 → count < 2 ^ 32 → bytes ≡ request_bytes (reqbufs_answer model t memory count) → o ≡ Some (Count count)
Reads s (QueryBuf t i) bytes o = (model : Model) (memory len : ℕ) → t < 2 ^ 32 → i < 32 → memory < 2 ^ 32 → len < 2 ^ 32 → bytes ≡ buffer_bytes (querybuf_answer model t i memory len) → o ≡ Some (Buf len (flags_of s (buffer_of (queue_of s t) i)))
Reads s (QBuf t i user used ts) bytes o = o ≡ Some Done
Reads s (StreamOn t) bytes o = o ≡ Some Done
Reads s (StreamOff t) bytes o = o ≡ Some Done
Reads s (Subscribe e) bytes o = o ≡ Some Done
Reads s (Unsubscribe e) bytes o = o ≡ Some Done
Reads s call bytes o = Unit {0}

-- what a response tells
abbrev pub Tells : LocalState → Call → Response → Reply → Type 0
Tells s call (Denied status) reply = (e : Errno) × ((reply ≡ Refused e) × (status ≡ errno_number e))
Tells s call (Answered bytes) reply = (o : Option Reply) → Reads s call bytes o → o ≡ Some reply
Tells s call (MappedAt addr len) reply = (reply ≡ Mapped addr len) × (len < 2 ^ 32)
Tells s call (Opened id) reply = reply ≡ Done
Tells s call Closed reply = reply ≡ Done
Tells s call Unmapped reply = reply ≡ Done

tells_as : (s : LocalState) (call : Call) (reply row : Reply) (response : Response) (id : ℕ) → response ≡ response_to id s call reply → reply ≡ row →
    Tells s call (response_to id s call row) reply → Tells s call response reply
tells_as s call reply row response id told is tells =
    subst (λ (r : Response). Tells s call r reply) (sym (told ∙ ap (λ r. response_to id s call r) is)) tells

some_as : (o : Option Reply) (reply row : Reply) → reply ≡ row → o ≡ Some row → o ≡ Some reply
some_as o reply row is read = read ∙ ap (λ r. Some r) (sym is)

granted_below : (n : ℕ) → granted n < 2 ^ 32
granted_below n = grind (arith, nat_tests)

-- a call that isn't refused
row_tells : (s : LocalState) (line : ℕ) (call : Call) (reply : Reply) (response : Response) (id : ℕ) → may_cross call ≡ true → AreWords call → IsInRange s →
    first_refusal (row_for s line call reply).refusals ≡ None → reply ≡ (row_for s line call reply).reply → response ≡ response_to id s call reply → Tells s call response reply
unfolding querycap_row enumfmt_row gfmt_row tryfmt_row sfmt_row enuminput_row ginput_row sinput_row reqbufs_row querybuf_row qbuf_row streamon_row streamoff_row mmap_row munmap_row subscribe_row unsubscribe_row
row_tells s line (OpenHandle nonblock) reply response id may words range passed is told = tells_as s (OpenHandle nonblock) reply Done response id told is is
row_tells s line CloseHandle reply response id may words range passed is told = tells_as s CloseHandle reply Done response id told is is
row_tells s line QueryCap reply response id may words range passed is told =
    tells_as s QueryCap reply _ response id told is (λ o reads. some_as o reply _ is (reads s.model refl))
row_tells s line (EnumFmt t i) reply response id may words range passed is told =
    tells_as s (EnumFmt t i) reply _ response id told is
    (λ o reads. some_as o reply _ is (reads t i (slice_index_or (formats_of s.model) i grey).code words.0 words.1 (nth_code_below s.model i) refl))
row_tells s line (GFmt t) reply response id may words range passed is told =
    tells_as s (GFmt t) reply (format_reply (queue_of s t).format) response id told is
    (λ o reads. some_as o reply _ is (reads t (queue_of s t).format words (queue_in_range s t range).format refl))
row_tells s line (TryFmt t f w h) reply response id may words range passed is told =
    tells_as s (TryFmt t f w h) reply (format_reply (adjusted_for s t f w h)) response id told is
    (λ o reads. some_as o reply _ is (reads t (adjusted_for s t f w h) words.0 (adjusted_for_offered s t f w h range) refl))
row_tells s line (SFmt t f w h) reply response id may words range passed is told =
    tells_as s (SFmt t f w h) reply (format_reply (adjusted_for s t f w h)) response id told is
    (λ o reads. some_as o reply _ is (reads t (adjusted_for s t f w h) words.0 (adjusted_for_offered s t f w h range) refl))
row_tells s line (EnumInput i) reply response id may words range passed is told =
    tells_as s (EnumInput i) reply _ response id told is (λ o reads. some_as o reply _ is (reads i words refl))
row_tells s line GInput reply response id may words range passed is told =
    tells_as s GInput reply _ response id told is (λ o reads. some_as o reply _ is (reads s.input (omega (arith, range.input)) refl))
row_tells s line (SInput i) reply response id may words range passed is told =
    tells_as s (SInput i) reply _ response id told is (λ o reads. some_as o reply _ is (reads i words refl))
row_tells s line (ReqBufs t m n) reply response id may words range passed is told =
    tells_as s (ReqBufs t m n) reply (Count (granted n)) response id told is
    (λ o reads. some_as o reply _ is (reads s.model t m (granted n) words.0 words.1 (granted_below n) refl))
row_tells s line (QueryBuf t i) reply response id may words range passed is told =
    let below = buffer_short (queue_of s t) i (queue_in_range s t range) in
    tells_as s (QueryBuf t i) reply (Buf (buffer_of (queue_of s t) i).length (flags_of s (buffer_of (queue_of s t) i))) response id told is
    (λ o reads. some_as o reply _ is
    (reads s.model (memory_number (queue_of s t).memory) (buffer_of (queue_of s t) i).length words.0
    (told_index s line (address_in reply) t i range passed) (number_below (queue_of s t).memory) (omega (arith, below)) refl))
row_tells s line (UAlloc u len off) reply response id may words range passed is told = cc
row_tells s line (QBuf t i user used ts) reply response id may words range passed is told =
    tells_as s (QBuf t i user used ts) reply Done response id told is (λ o reads. some_as o reply Done is reads)
row_tells s line (StreamOn t) reply response id may words range passed is told =
    tells_as s (StreamOn t) reply Done response id told is (λ o reads. some_as o reply Done is reads)
row_tells s line (StreamOff t) reply response id may words range passed is told =
    tells_as s (StreamOff t) reply Done response id told is (λ o reads. some_as o reply Done is reads)
row_tells s line (DqBuf t) reply response id may words range passed is told = cc
row_tells s line (Mmap m t i ro) reply response id may words range passed is told =
    let below = buffer_short (queue_of s t) i (queue_in_range s t range) in
    tells_as s (Mmap m t i ro) reply (Mapped (address_in reply) (buffer_of (queue_of s t) i).length) response id told is (is, omega (arith, below))
row_tells s line (Munmap m) reply response id may words range passed is told = tells_as s (Munmap m) reply Done response id told is is
row_tells s line (Peek m off len) reply response id may words range passed is told = cc
row_tells s line (Hash m) reply response id may words range passed is told = cc
row_tells s line (Poke m off bytes) reply response id may words range passed is told = cc
row_tells s line (Fill m seed) reply response id may words range passed is told = cc
row_tells s line (Subscribe e) reply response id may words range passed is told =
    tells_as s (Subscribe e) reply Done response id told is (λ o reads. some_as o reply Done is reads)
row_tells s line (Unsubscribe e) reply response id may words range passed is told =
    tells_as s (Unsubscribe e) reply Done response id told is (λ o reads. some_as o reply Done is reads)
row_tells s line DqEvent reply response id may words range passed is told = cc

-- the answer to a call tells the reply that it has
pub answer_tells : (s : LocalState) (line : ℕ) (call : Call) (reply : Reply) (response : Response) → may_cross call ≡ true → AreWords call → IsInRange s →
    IsAnswer s line call response reply → Tells s call response reply
answer_tells s line call reply response may words range (t, id, is) =
    elim (outcome s line call reply t is.0) as (λ _. Tells s call response reply) [
      | inl refused ↦ tells_as s call reply (Refused refused.0) response id is.1 refused.1 (refused.0, (refused.1, refl))
      | inr done ↦ row_tells s line call reply response id may words range done.0 done.1 is.1
    ]

-- so does what is seen as that answer
pub seen_tells : (s : LocalState) (line : ℕ) (call : Call) (reply : Reply) (response seen : Response) → response ≡ seen → may_cross call ≡ true → AreWords call → IsInRange s →
    IsAnswer s line call response reply → Tells s call seen reply
seen_tells s line call reply response seen is may words range answer =
    subst (λ (r : Response). Tells s call r reply) is (answer_tells s line call reply response may words range answer)

-- what is read of an answer's bytes is what the answer tells
pub read_as : (s : LocalState) (line : ℕ) (call seen : Call) (reply : Reply) (bytes : List ℕ) (o : Option Reply) → call ≡ seen → may_cross call ≡ true → AreWords call → IsInRange s →
    IsAnswer s line call (Answered bytes) reply → Reads s seen bytes o → o ≡ Some reply
read_as s line call seen reply bytes o is may words range answer reads =
    answer_tells s line call reply (Answered bytes) may words range answer o (subst (λ (x : Call). Reads s x bytes o) (sym is) reads)

-- an answer to the same call, and the same answer
pub answer_as : (s : LocalState) (line : ℕ) (call other : Call) (response seen : Response) (reply : Reply) → other ≡ call → response ≡ seen →
    IsAnswer s line call response reply → IsAnswer s line other seen reply
answer_as s line call other response seen reply same is answer =
    subst (λ (x : Call). IsAnswer s line x seen reply) (sym same) (subst (λ (r : Response). IsAnswer s line call r reply) is answer)
