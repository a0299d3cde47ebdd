-- A memory that goes along with a qbuf is the one that the record tells of.
use Rattle.std.proofs.Common.{◌≡◌, ℕ, ◌<◌, ◌==◌, ◌||◌, false, not, List, [], ◌∷◌, length, map, Option, Some, None, IfSome, unwrap_or, refl, sym, ap, ◌∙◌, subst, arith, slice_get}
use Rattle.std.proofs.lemmas.Bool.{false≢true, ltb-true}
use Rattle.std.proofs.lemmas.List.{length-map}
use Rattle.std.proofs.lemmas.List.Elements.{All-nil, All-cons}
use Rattle.std.proofs.lemmas.Option.{slice_get-get_or}
use Rattle.std.proofs.Math.ListN.{get_or-map}
use Rattle.v4l_const.specs.declared.numbers.TheConstants.{MEMORY_MMAP}
use Rattle.v4l_layout.specs.declared.buffer_rec.BufferRec.{BufferRec}
use Rattle.v4l_rules.specs.Refusals.{first_refusal}
use Rattle.vm_frame.specs.declared.mem.Held.{Held}
use Rattle.vm_wire.specs.Buffers.{qbuf_request}
use Rattle.vm_local.specs.declared.bound.MemoryKind.{MemoryKind}
use Rattle.vm_local.specs.declared.bound.MemoryKind.TheVariants.{Mmap as MmapKind, UserPtr}
use Rattle.vm_local.specs.declared.buffer.Buffer.{Buffer}
use Rattle.vm_local.specs.declared.call.Call.TheVariants.{QBuf}
use Rattle.vm_local.specs.State.{LocalState, queue_of, no_buffer, buffer_of}
use Rattle.vm_local.specs.Kinds.{is_idle}
use Rattle.vm_local.specs.Memory.{bytes_of}
use Rattle.vm_local.specs.Queue.{is_user_ptr, brought, length_from, memory_from}
use Rattle.vm_local.specs.Calls.{row_of}
use Rattle.vm_home.specs.Reached.{IsReached}
use Rattle.vm_home.proofs.FactLemmas.{facts_of}
use Rattle.vm_home.proofs.RowLemmas.{device_made}
use Rattle.vm_exchange.specs.Exchange.{memory_number, buffer_queued}
use Rattle.vm_session.specs.State.{SessionState, queue_of as session_queue}
use Rattle.vm_session.specs.Buffers.{memory_kind as held_kind, IsTold, ComesWith}
use Rattle.vm_stands.specs.Stands.{StandsOn, Stands}
use Rattle.vm_stands.specs.Laws.{HasLengths, GoesAlong}
use Rattle.vm_stands.proofs.LengthLemmas.{lengths_are}
use Rattle.vm_stands.proofs.PlainLemmas.{within_some}
use Rattle.vm_stands.proofs.QBufLemmas.{IsAsked, asked_is, IsQueueing, queueing_is}

-- the buffer's memory from then on is as long as the buffer from then on
brought_long : (s : LocalState) (t i used : ℕ) (user : Option (List ℕ)) → IsReached s → HasLengths s → IsQueueing s t i user used →
    length (bytes_of s (unwrap_or (memory_from (brought s user) (buffer_of (queue_of s t) i)) 0)) ≡ length_from s (brought s user) (buffer_of (queue_of s t) i)
brought_long s t i used None reached has queueing =
    has.long t i (unwrap_or (buffer_of (queue_of s t) i).memory 0) (ap (λ k. not k || not (is_idle (buffer_of (queue_of s t) i).state)) queueing.named)
    (device_made s (facts_of s reached).sound t i (ltb-true i (length (queue_of s t).buffers) queueing.inside) queueing.named)
brought_long s t i used (Some u) reached has queueing = refl

mmap_number : (kind : MemoryKind) → memory_number kind ≡ MEMORY_MMAP → is_user_ptr kind ≡ false
mmap_number MmapKind is = refl
mmap_number UserPtr is = absurd (false≢true (ap (λ n. n == MEMORY_MMAP) is))

-- the session's buffer is as long as the record says, where the device made its memory
frame_long : (frames : List ℕ) (session : SessionState) (s : LocalState) (t i used : ℕ) (user : Option (List ℕ)) → StandsOn frames session s t → IsQueueing s t i user used →
    (session_queue session t).kind ≡ MEMORY_MMAP →
    slice_get (session_queue session t).lengths i ≡ Some (length_from s (brought s user) (buffer_of (queue_of s t) i))
frame_long frames session s t i used user on queueing is =
    let bs : List Buffer = (queue_of s t).buffers in
    let inside : i < length bs = ltb-true i (length bs) queueing.inside in
    let kind : is_user_ptr (queue_of s t).memory ≡ false = mmap_number (queue_of s t).memory (sym (on.kind (within_some bs i queueing.inside)) ∙ is) in
    ap (λ ls. slice_get ls i) on.lengths
    ∙ (slice_get-get_or (map (λ (b : Buffer). b.length) bs) i 0 (omega (arith, inside, length-map bs (λ (b : Buffer). b.length)))
    ∙ (ap (λ n. Some n) (get_or-map (λ (b : Buffer). b.length) bs i no_buffer)
    ∙ ap (λ u. Some (length_from s (brought s u) (buffer_of (queue_of s t) i))) (sym (queueing.bare kind))))

pub comes_with : (frames : List ℕ) (session : SessionState) (line : ℕ) (s : LocalState) (t i used ts : ℕ) (user : Option (List ℕ)) (h : Held) →
    Stands frames session s → IsReached s → first_refusal (row_of s line 0 (QBuf t i user used ts)).refusals ≡ None →
    GoesAlong s (QBuf t i user used ts) t i h → held_kind h.mem ≡ memory_number (queue_of s t).memory →
    ComesWith session (qbuf_request s.model (buffer_queued s t i user used ts)) (h ∷ [])
unfolding qbuf_request buffer_queued
comes_with frames session line s t i used ts user h stands reached pass along kind =
    let b : BufferRec = qbuf_request s.model (buffer_queued s t i user used ts) in
    let queueing : IsQueueing s t i user used = queueing_is s t i user used ts pass in
    let asked : IsAsked s t i user used ts b = asked_is s t i user used ts in
    let number : unwrap_or (memory_from (brought s user) (buffer_of (queue_of s t) i)) 0 ≡ along.number = ap (λ o. unwrap_or o 0) along.along in
    let told : IsTold b h = record {
      queue = along.queue ∙ sym asked.kind;
      index = along.index ∙ sym asked.index;
      kind = kind ∙ sym asked.memory;
      size = ap (λ bytes. length bytes) along.memory.bytes
          ∙ (ap (λ m. length (bytes_of s m)) (sym number) ∙ (brought_long s t i used user reached (lengths_are s reached) queueing ∙ sym asked.size));
    } in
    record {
      one = refl;
      told = All-cons (IsTold b) h [] told (All-nil (IsTold b));
      frame = λ is.
          subst (λ o. IfSome o (λ n. n ≡ b.length)) (sym (frame_long frames session s t i used user (stands.each t) queueing is)) (sym asked.size);
    }
