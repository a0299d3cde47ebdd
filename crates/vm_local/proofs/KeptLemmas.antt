-- What a call leaves as it was.
use Rattle.std.proofs.Common.{◌≡◌, ◌⊎◌, inl, inr, ℕ, Bool, true, false, List, get_or, set, Option, Some, None, refl, sym, ap, ◌∙◌, subst, slice_get, ◌&&◌, not, if◌then◌else◌}
use Rattle.std.specs.Option.{option_map, unwrap_or}
use Rattle.std.proofs.lemmas.Option.{none-some}
use Rattle.std.proofs.lemmas.Bool.{false≢true}
use Rattle.v4l_const.specs.declared.errno.Errno.{Errno}
use Rattle.v4l_const.specs.declared.errno.Errno.TheVariants.{Enomem}
use Rattle.v4l_const.specs.declared.model.Model.{Model}
use Rattle.v4l_const.specs.Model.{queues as types_of}
use Rattle.v4l_format.specs.declared.fmt.Fmt.{Fmt}
use Rattle.v4l_rules.specs.Queues.{place_in}
use Rattle.v4l_rules.specs.Refusals.{first_refusal}
use Rattle.v4l_rules.proofs.SetLemmas.{formatted_keeps, set_keeps}
use Rattle.vm_local.specs.declared.buffer.Buffer.{Buffer}
use Rattle.vm_local.specs.declared.call.Call.{Call}
use Rattle.vm_local.specs.declared.call.Call.TheVariants.{OpenHandle, CloseHandle, QueryCap, EnumFmt, GFmt, TryFmt, SFmt, EnumInput, GInput, SInput, ReqBufs, QueryBuf, UAlloc, QBuf, StreamOn, StreamOff, DqBuf, Mmap, Munmap, Peek, Hash, Poke, Fill, Subscribe, Unsubscribe, DqEvent}
use Rattle.vm_local.specs.declared.entry.Entry.{Entry}
use Rattle.vm_local.specs.declared.entry.Entry.TheVariants.{Called, Finish, Bad, Give}
use Rattle.vm_local.specs.declared.reply.Reply.{Reply}
use Rattle.vm_local.specs.declared.reply.Reply.TheVariants.{Refused}
use Rattle.vm_local.specs.State.{QueueState, LocalState, opening_queue, queue_kind, queue_of}
use Rattle.vm_local.specs.Same.{same_reply, address_in}
use Rattle.vm_local.specs.Queue.{with_set_format, adjusted_for, started}
use Rattle.vm_local.specs.Calls.{Row, row_of, querycap_row, enumfmt_row, gfmt_row, tryfmt_row, sfmt_row, enuminput_row, ginput_row, sinput_row, reqbufs_row, querybuf_row, ualloc_row, qbuf_row, streamon_row, streamoff_row, dqbuf_row, mmap_row, munmap_row, read_row, hash_row, write_row, fill_row, subscribe_row, unsubscribe_row, dqevent_row}
use Rattle.vm_local.specs.Log.{answered, row_for, called, after}
use Rattle.vm_local.specs.Owner.{owner_by, owner_of, moves_by, moves}

-- no row's reply is a refusal
pub no_refusal : (s : LocalState) (line addr : ℕ) (call : Call) (e : Errno) → same_reply (row_of s line addr call).reply (Refused e) ≡ false
unfolding querycap_row enumfmt_row gfmt_row tryfmt_row sfmt_row enuminput_row ginput_row sinput_row reqbufs_row querybuf_row ualloc_row qbuf_row streamon_row streamoff_row dqbuf_row mmap_row munmap_row read_row hash_row write_row fill_row subscribe_row unsubscribe_row dqevent_row
no_refusal s line addr (OpenHandle nonblock) e = refl
no_refusal s line addr CloseHandle e = refl
no_refusal s line addr QueryCap e = refl
no_refusal s line addr (EnumFmt t i) e = refl
no_refusal s line addr (GFmt t) e = refl
no_refusal s line addr (TryFmt t f w h) e = refl
no_refusal s line addr (SFmt t f w h) e = refl
no_refusal s line addr (EnumInput i) e = refl
no_refusal s line addr GInput e = refl
no_refusal s line addr (SInput i) e = refl
no_refusal s line addr (ReqBufs t m n) e = refl
no_refusal s line addr (QueryBuf t i) e = refl
no_refusal s line addr (UAlloc u len off) e = refl
no_refusal s line addr (QBuf t i user used ts) e = refl
no_refusal s line addr (StreamOn t) e = refl
no_refusal s line addr (StreamOff t) e = refl
no_refusal s line addr (DqBuf t) e = refl
no_refusal s line addr (Mmap m t i ro) e = refl
no_refusal s line addr (Munmap m) e = refl
no_refusal s line addr (Peek m off len) e = refl
no_refusal s line addr (Hash m) e = refl
no_refusal s line addr (Poke m off bytes) e = refl
no_refusal s line addr (Fill m seed) e = refl
no_refusal s line addr (Subscribe v) e = refl
no_refusal s line addr (Unsubscribe v) e = refl
no_refusal s line addr DqEvent e = refl

pub some_same : {A : Type 0} (x y d : A) → Some x ≡ Some y → x ≡ y
some_same x y d h = ap (λ o. unwrap_or o d) h

-- what `if b then Some x else None` leads to
pub chosen : {A : Type 0} (b : Bool) (x y : A) → (if b then Some x else None) ≡ Some y → x ≡ y
chosen true x y h = some_same x y x h
chosen false x y h = absurd (none-some y h)

-- a call leads to the state that it came to, or to its row's next one
pub leads_to : (refused : Option Errno) (row : Row) (s : LocalState) (reply : Reply) (t : LocalState) → answered refused row s reply ≡ Some t →
    (t ≡ s) ⊎ (t ≡ row.next)
leads_to (Some e) row s reply t h = inl (sym (chosen (same_reply (Refused e) reply) s t h))
leads_to None row s reply t h =
    let lacks : Bool = row.may_lack_memory && same_reply (Refused Enomem) reply in
    let goes : Bool = not row.waits && same_reply row.reply reply in
    elim lacks as (λ b. (if b then Some s else (if goes then Some row.next else None)) ≡ Some t → (t ≡ s) ⊎ (t ≡ row.next)) [
      | true ↦ λ k. inl (sym (some_same s t s k))
      | false ↦ λ k. inr (sym (chosen goes row.next t k))
    ] h

-- a refused call leads to the state that it came to
pub refused_stays : (refused : Option Errno) (row : Row) (s : LocalState) (e : Errno) (t : LocalState) → same_reply row.reply (Refused e) ≡ false →
    answered refused row s (Refused e) ≡ Some t → t ≡ s
refused_stays (Some d) row s e t none h = sym (chosen (same_reply (Refused d) (Refused e)) s t h)
refused_stays None row s e t none h =
    let lacks : Bool = row.may_lack_memory && same_reply (Refused Enomem) (Refused e) in
    let P : Bool → Type 0 = λ g. (b : Bool) → (if b then Some s else (if not row.waits && g then Some row.next else None)) ≡ Some t → t ≡ s in
    let never : P false = λ b k.
    elim b as (λ c. (if c then Some s else (if not row.waits && false then Some row.next else None)) ≡ Some t → t ≡ s) [
      | true ↦ λ m. sym (some_same s t s m)
      | false ↦ λ m. elim row.waits as (λ w. (if not w && false then Some row.next else None) ≡ Some t → t ≡ s) [
        | true ↦ λ n. absurd (none-some t n)
        | false ↦ λ n. absurd (none-some t n)
      ] m
    ] k in
    subst P (sym none) never lacks h

pub refused_call : (s : LocalState) (line : ℕ) (call : Call) (e : Errno) (t : LocalState) → called s line call (Refused e) ≡ Some t → t ≡ s
unfolding called
refused_call s line call e t h =
    refused_stays (first_refusal (row_for s line call (Refused e)).refusals) (row_for s line call (Refused e)) s e t (no_refusal s line 0 call e) h

-- ---- the buffers stay

-- the same model, and each queue with the same buffers
abbrev pub Keeps : LocalState → LocalState → Type 0
Keeps s t =
    (t.model ≡ s.model) × ((p : ℕ) → (get_or t.queues p opening_queue).buffers ≡ (get_or s.queues p opening_queue).buffers)

pub keeps_set : (qs : List QueueState) (p : ℕ) (v : QueueState) → v.buffers ≡ (get_or qs p opening_queue).buffers →
    (i : ℕ) → (get_or (set qs p v) i opening_queue).buffers ≡ (get_or qs i opening_queue).buffers
keeps_set qs p v h i = set_keeps opening_queue (λ q. q.buffers) qs p v h i

pub keeps_set_format : (s : LocalState) (t : ℕ) (f : Fmt) → Keeps s (with_set_format s t f)
keeps_set_format s t f = (refl, λ p. formatted_keeps queue_kind (λ q. q.buffers) (λ q g. refl) s.model s.queues t f p)

pub keeps_row : (s : LocalState) (line addr : ℕ) (call : Call) → moves_by call ≡ false → Keeps s (row_of s line addr call).next
unfolding querycap_row enumfmt_row gfmt_row tryfmt_row sfmt_row enuminput_row ginput_row sinput_row reqbufs_row querybuf_row ualloc_row qbuf_row streamon_row streamoff_row dqbuf_row mmap_row munmap_row read_row hash_row write_row fill_row subscribe_row unsubscribe_row dqevent_row
keeps_row s line addr (OpenHandle nonblock) still = absurd (false≢true (sym still))
keeps_row s line addr CloseHandle still = absurd (false≢true (sym still))
keeps_row s line addr QueryCap still = (refl, λ p. refl)
keeps_row s line addr (EnumFmt t i) still = (refl, λ p. refl)
keeps_row s line addr (GFmt t) still = (refl, λ p. refl)
keeps_row s line addr (TryFmt t f w h) still = (refl, λ p. refl)
keeps_row s line addr (SFmt t f w h) still = keeps_set_format s t (adjusted_for s t f w h)
keeps_row s line addr (EnumInput i) still = (refl, λ p. refl)
keeps_row s line addr GInput still = (refl, λ p. refl)
keeps_row s line addr (SInput i) still = (refl, λ p. refl)
keeps_row s line addr (ReqBufs t m n) still = absurd (false≢true (sym still))
keeps_row s line addr (QueryBuf t i) still = (refl, λ p. refl)
keeps_row s line addr (UAlloc u len off) still = (refl, λ p. refl)
keeps_row s line addr (QBuf t i user used ts) still = absurd (false≢true (sym still))
keeps_row s line addr (StreamOn t) still = (refl, keeps_set s.queues (place_in (types_of s.model) t) (started (queue_of s t)) refl)
keeps_row s line addr (StreamOff t) still = absurd (false≢true (sym still))
keeps_row s line addr (DqBuf t) still = absurd (false≢true (sym still))
keeps_row s line addr (Mmap m t i ro) still = (refl, λ p. refl)
keeps_row s line addr (Munmap m) still = (refl, λ p. refl)
keeps_row s line addr (Peek m off len) still = (refl, λ p. refl)
keeps_row s line addr (Hash m) still = (refl, λ p. refl)
keeps_row s line addr (Poke m off bytes) still = (refl, λ p. refl)
keeps_row s line addr (Fill m seed) still = (refl, λ p. refl)
keeps_row s line addr (Subscribe v) still = (refl, λ p. refl)
keeps_row s line addr (Unsubscribe v) still = (refl, λ p. refl)
keeps_row s line addr DqEvent still = (refl, λ p. refl)

pub same_owner : (s t : LocalState) → Keeps s t → (k i : ℕ) → owner_of t k i ≡ owner_of s k i
same_owner s t keeps k i =
    let at : (queue_of t k).buffers ≡ (get_or s.queues (place_in (types_of t.model) k) opening_queue).buffers = keeps.1 (place_in (types_of t.model) k) in
    let place : (get_or s.queues (place_in (types_of t.model) k) opening_queue).buffers ≡ (queue_of s k).buffers =
    ap (λ (m : Model). (get_or s.queues (place_in (types_of m) k) opening_queue).buffers) keeps.0 in
    ap (λ (bs : List Buffer). option_map (λ (b : Buffer). owner_by b.state) (slice_get bs i)) (at ∙ place)

pub still_owner : (s t : LocalState) (e : Entry) → moves e ≡ false → after s e ≡ Some t → (k i : ℕ) → owner_of t k i ≡ owner_of s k i
unfolding called
still_owner s t (Called line call reply) still h k i =
    elim (leads_to (first_refusal (row_for s line call reply).refusals) (row_for s line call reply) s reply t h) as (λ _. owner_of t k i ≡ owner_of s k i) [
      | inl same ↦ ap (λ (x : LocalState). owner_of x k i) same
      | inr next ↦ ap (λ (x : LocalState). owner_of x k i) next ∙ same_owner s (row_for s line call reply).next (keeps_row s line (address_in reply) call still) k i
    ]
still_owner s t Finish still h k i = absurd (false≢true (sym still))
still_owner s t Bad still h k i = absurd (false≢true (sym still))
still_owner s t Give still h k i = absurd (false≢true (sym still))
