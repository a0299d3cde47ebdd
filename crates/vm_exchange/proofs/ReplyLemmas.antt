-- The device's answer is one that the command may have.
use Rattle.std.proofs.Common.{◌≡◌, ◌<◌, ◌^◌, inl, inr, ℕ, Bool, true, false, not, List, length, Option, Some, None, refl, sym, ap, ◌∙◌, subst, lit<, if◌then◌else◌, arith}
use Rattle.std.proofs.lemmas.List.{length-replicate}
use Rattle.v4l_const.specs.Errno.{errno_number}
use Rattle.v4l_const.specs.declared.errno.Errno.{Errno}
use Rattle.v4l_const.specs.declared.errno.Errno.TheVariants.{Enoent, Eio, Ebadf, Eagain, Enomem, Eacces, Efault, Ebusy, Einval, Enotty, Edeadlk, Emsgsize, Eopnotsupp}
use Rattle.v4l_const.specs.declared.ioctl_code.IoctlCode.{IoctlCode}
use Rattle.v4l_rules.specs.Refusals.{first_refusal}
use Rattle.vm_local.specs.declared.call.Call.{Call}
use Rattle.vm_local.specs.declared.call.Call.TheVariants.{OpenHandle, CloseHandle, QueryCap, EnumFmt, GFmt, TryFmt, SFmt, EnumInput, GInput, SInput, ReqBufs, QueryBuf, UAlloc, QBuf, StreamOn, StreamOff, DqBuf, Mmap, Munmap, Peek, Hash, Poke, Fill, Subscribe, Unsubscribe, DqEvent}
use Rattle.vm_local.specs.declared.reply.Reply.{Reply}
use Rattle.vm_local.specs.State.{LocalState, queue_of, buffer_of}
use Rattle.vm_local.specs.Same.{address_in}
use Rattle.vm_local.specs.Memory.{named}
use Rattle.vm_local.specs.Calls.{row_of, querycap_row, enumfmt_row, gfmt_row, tryfmt_row, sfmt_row, enuminput_row, ginput_row, sinput_row, reqbufs_row, querybuf_row, qbuf_row, streamon_row, streamoff_row, dqbuf_row, mmap_row, munmap_row, subscribe_row, unsubscribe_row, ualloc_row, read_row, hash_row, write_row, fill_row, dqevent_row}
use Rattle.vm_local.specs.Log.{row_for}
use Rattle.vm_local.proofs.KeptLemmas.{some_same}
use Rattle.vm_wire.specs.Buffers.{buffer_offset, qbuf_request}
use Rattle.vm_wire.specs.Wire.{Answers}
use Rattle.vm_wire.specs.declared.command.Command.TheVariants.{Ioctl, Map, Unmap}
use Rattle.vm_wire.specs.declared.response.Response.{Response}
use Rattle.vm_wire.specs.declared.response.Response.TheVariants.{Opened, Closed, Answered, Mapped as MappedAt, Unmapped}
use Rattle.vm_wire.proofs.BufferLemmas.{reqbufs_request_length, reqbufs_answer_length, querybuf_request_length, querybuf_answer_length, qbuf_request_length, qbuf_answer_length}
use Rattle.vm_wire.proofs.RecordLemmas.{capability_length, fmt_desc_request_length, fmt_desc_answer_length, format_request_length, format_type_request_length, format_answer_length, input_request_length, input_answer_length}
use Rattle.vm_exchange.specs.declared.crossing.Crossing.{Crossing}
use Rattle.vm_exchange.specs.declared.way.Way.TheVariants.{Crosses, AnsweredHere, Waits}
use Rattle.vm_exchange.specs.Exchange.{address_of, unless_by, crossing, crossing_of, way_of, qbuf_crossing, buffer_queued, response_to, IsAnswer}
use Rattle.vm_exchange.specs.Range.{IsInRange}
use Rattle.vm_exchange.proofs.RangeLemmas.{queue_in_range, buffer_short}
use Rattle.vm_exchange.proofs.OutcomeLemmas.{outcome}
use Rattle.vm_exchange.proofs.FitLemmas.{crossed_open, crossed_unrefused}

errno_fits : (e : Errno) → (0 < errno_number e) × (errno_number e < 2 ^ 32)
errno_fits Enoent = (lit< tt, lit< tt)
errno_fits Eio = (lit< tt, lit< tt)
errno_fits Ebadf = (lit< tt, lit< tt)
errno_fits Eagain = (lit< tt, lit< tt)
errno_fits Enomem = (lit< tt, lit< tt)
errno_fits Eacces = (lit< tt, lit< tt)
errno_fits Efault = (lit< tt, lit< tt)
errno_fits Ebusy = (lit< tt, lit< tt)
errno_fits Einval = (lit< tt, lit< tt)
errno_fits Enotty = (lit< tt, lit< tt)
errno_fits Edeadlk = (lit< tt, lit< tt)
errno_fits Emsgsize = (lit< tt, lit< tt)
errno_fits Eopnotsupp = (lit< tt, lit< tt)

-- the answer to what crosses, where both are known
answers_as : (x c : Crossing) (answer response : Response) → x ≡ c → response ≡ answer → Answers x.command answer → Answers c.command response
answers_as x c answer response same is may =
    subst (λ (y : Crossing). Answers y.command response) same (subst (λ (r : Response). Answers x.command r) (sym is) may)

-- a call that asked with a payload, on an open handle
asked_answers : (b : Bool) (session : ℕ) (code : IoctlCode) (payload answer : List ℕ) (c : Crossing) (response : Response) →
    crossing (if b then Crosses (record { command = Ioctl session code payload; user = None }) else AnsweredHere) ≡ Some c →
    response ≡ Answered answer → length answer ≡ length payload → Answers c.command response
asked_answers b session code payload answer c response is told long = answers_as _ c (Answered answer) response (crossed_open b _ c is) told long

qbuf_answers : (session : ℕ) (s : LocalState) (t i used ts : ℕ) (user : Option (List ℕ)) (answer : List ℕ) → length answer ≡ 88 →
    Answers (qbuf_crossing session s t i user used ts).command (Answered answer)
unfolding qbuf_crossing
qbuf_answers session s t i used ts user answer long = long ∙ sym (qbuf_request_length s.model (buffer_queued s t i user used ts))

row_answers : (session id : ℕ) (s : LocalState) (line : ℕ) (call : Call) (c : Crossing) (reply : Reply) (response : Response) → IsInRange s →
    crossing_of session s call ≡ Some c → reply ≡ (row_for s line call reply).reply → response ≡ response_to id s call reply →
    ((n : ℕ) → response ≡ Opened n → n < 2 ^ 32) → address_in reply < 2 ^ 64 → Answers c.command response
unfolding querycap_row enumfmt_row gfmt_row tryfmt_row sfmt_row enuminput_row ginput_row sinput_row reqbufs_row querybuf_row qbuf_row streamon_row streamoff_row mmap_row munmap_row subscribe_row unsubscribe_row
row_answers session id s line (OpenHandle nonblock) c reply response range is row told opens address =
    let opened : response ≡ Opened id = told ∙ ap (λ r. response_to id s (OpenHandle nonblock) r) row in
    answers_as _ c (Opened id) response (some_same _ c c is) opened (opens id opened)
row_answers session id s line CloseHandle c reply response range is row told opens address =
    answers_as _ c Closed response (crossed_open s.opened _ c is) (told ∙ ap (λ r. response_to id s CloseHandle r) row) tt
row_answers session id s line QueryCap c reply response range is row told opens address =
    asked_answers s.opened session _ _ _ c response is (told ∙ ap (λ r. response_to id s QueryCap r) row) (capability_length s.model ∙ sym (length-replicate {A = ℕ} 104 0))
row_answers session id s line (EnumFmt t i) c reply response range is row told opens address =
    asked_answers s.opened session _ _ _ c response is (told ∙ ap (λ r. response_to id s (EnumFmt t i) r) row) (fmt_desc_answer_length t i _ ∙ sym (fmt_desc_request_length t i))
row_answers session id s line (GFmt t) c reply response range is row told opens address =
    asked_answers s.opened session _ _ _ c response is (told ∙ ap (λ r. response_to id s (GFmt t) r) row) (format_answer_length t _ ∙ sym (format_type_request_length t))
row_answers session id s line (TryFmt t f w h) c reply response range is row told opens address =
    asked_answers s.opened session _ _ _ c response is (told ∙ ap (λ r. response_to id s (TryFmt t f w h) r) row) (format_answer_length t _ ∙ sym (format_request_length t f w h))
row_answers session id s line (SFmt t f w h) c reply response range is row told opens address =
    asked_answers s.opened session _ _ _ c response is (told ∙ ap (λ r. response_to id s (SFmt t f w h) r) row) (format_answer_length t _ ∙ sym (format_request_length t f w h))
row_answers session id s line (EnumInput i) c reply response range is row told opens address =
    asked_answers s.opened session _ _ _ c response is (told ∙ ap (λ r. response_to id s (EnumInput i) r) row) (input_answer_length i ∙ sym (input_request_length i))
row_answers session id s line GInput c reply response range is row told opens address =
    asked_answers s.opened session _ _ _ c response is (told ∙ ap (λ r. response_to id s GInput r) row) refl
row_answers session id s line (SInput i) c reply response range is row told opens address =
    asked_answers s.opened session _ _ _ c response is (told ∙ ap (λ r. response_to id s (SInput i) r) row) refl
row_answers session id s line (ReqBufs t m n) c reply response range is row told opens address =
    asked_answers s.opened session _ _ _ c response is (told ∙ ap (λ r. response_to id s (ReqBufs t m n) r) row) (reqbufs_answer_length s.model t m _ ∙ sym (reqbufs_request_length t m n))
row_answers session id s line (QueryBuf t i) c reply response range is row told opens address =
    asked_answers s.opened session _ _ _ c response is (told ∙ ap (λ r. response_to id s (QueryBuf t i) r) row) (querybuf_answer_length s.model t i _ _ ∙ sym (querybuf_request_length t i))
row_answers session id s line (UAlloc u len off) c reply response range is row told opens address = cc
row_answers session id s line (QBuf t i user used ts) c reply response range is row told opens address =
    let by = crossed_unrefused (first_refusal (row_of s 0 0 (QBuf t i user used ts)).refusals) (qbuf_crossing session s t i user used ts) c is in
    answers_as (qbuf_crossing session s t i user used ts) c _ response by.1 (told ∙ ap (λ r. response_to id s (QBuf t i user used ts) r) row)
    (qbuf_answers session s t i used ts user _ (qbuf_answer_length (qbuf_request s.model (buffer_queued s t i user used ts))))
row_answers session id s line (StreamOn t) c reply response range is row told opens address =
    asked_answers s.opened session _ _ _ c response is (told ∙ ap (λ r. response_to id s (StreamOn t) r) row) refl
row_answers session id s line (StreamOff t) c reply response range is row told opens address =
    asked_answers s.opened session _ _ _ c response is (told ∙ ap (λ r. response_to id s (StreamOff t) r) row) refl
row_answers session id s line (DqBuf t) c reply response range is row told opens address =
    absurd (never (first_refusal (row_of s 0 0 (DqBuf t)).refusals) (row_of s 0 0 (DqBuf t)).waits is)
  where
    never : (refused : Option Errno) (waits : Bool) → crossing (unless_by refused (if waits then Waits else AnsweredHere)) ≡ Some c → ⊥
    never None true is = cc
    never None false is = cc
    never (Some e) waits is = cc
row_answers session id s line (Mmap m t i ro) c reply response range is row told opens address =
    let by = crossed_unrefused (first_refusal (row_of s 0 0 (Mmap m t i ro)).refusals) _ c is in
    let short = buffer_short (queue_of s t) i (queue_in_range s t range) in
    answers_as (record { command = Map session (not ro) (buffer_offset t i); user = None }) c (MappedAt (address_in reply) (buffer_of (queue_of s t) i).length) response by.1
    (told ∙ ap (λ r. response_to id s (Mmap m t i ro) r) row) (address, omega (arith, short))
row_answers session id s line (Munmap m) c reply response range is row told opens address =
    let by = crossed_unrefused (first_refusal (row_of s 0 0 (Munmap m)).refusals) _ c is in
    answers_as (record { command = Unmap (address_of (named s m)); user = None }) c Unmapped response by.1 (told ∙ ap (λ r. response_to id s (Munmap m) r) row) tt
row_answers session id s line (Peek m off len) c reply response range is row told opens address = cc
row_answers session id s line (Hash m) c reply response range is row told opens address = cc
row_answers session id s line (Poke m off bytes) c reply response range is row told opens address = cc
row_answers session id s line (Fill m seed) c reply response range is row told opens address = cc
row_answers session id s line (Subscribe e) c reply response range is row told opens address =
    asked_answers s.opened session _ _ _ c response is (told ∙ ap (λ r. response_to id s (Subscribe e) r) row) refl
row_answers session id s line (Unsubscribe e) c reply response range is row told opens address =
    asked_answers s.opened session _ _ _ c response is (told ∙ ap (λ r. response_to id s (Unsubscribe e) r) row) refl
row_answers session id s line DqEvent c reply response range is row told opens address = cc

pub answer_fits : (session : ℕ) (s : LocalState) (line : ℕ) (call : Call) (c : Crossing) (response : Response) (reply : Reply) → IsInRange s →
    crossing_of session s call ≡ Some c → IsAnswer s line call response reply → ((id : ℕ) → response ≡ Opened id → id < 2 ^ 32) → address_in reply < 2 ^ 64 → Answers c.command response
answer_fits session s line call c response reply range is (t, id, may) opens address =
    elim (outcome s line call reply t may.0) as (λ _. Answers c.command response) [
      | inl refused ↦ subst (λ (r : Response). Answers c.command r) (sym (may.1 ∙ ap (λ r. response_to id s call r) refused.1)) (errno_fits refused.0)
      | inr done ↦ row_answers session id s line call c reply response range is done.1 may.1 opens address
    ]

-- ---- a call that is answered without the device has a reply

here_at_once : (waits : Bool) → (if waits then Waits else AnsweredHere) ≡ AnsweredHere → waits ≡ false
here_at_once true here = cc
here_at_once false here = refl

here_unrefused : (refused : Option Errno) (waits : Bool) → unless_by refused (if waits then Waits else AnsweredHere) ≡ AnsweredHere → refused ≡ None → waits ≡ false
here_unrefused None waits here passed = here_at_once waits here
here_unrefused (Some e) waits here passed = cc

pub here_answered : (session : ℕ) (s : LocalState) (line addr : ℕ) (call : Call) → way_of session s call ≡ AnsweredHere →
    first_refusal (row_of s line addr call).refusals ≡ None → (row_of s line addr call).waits ≡ false
unfolding querycap_row enumfmt_row gfmt_row tryfmt_row sfmt_row enuminput_row ginput_row sinput_row reqbufs_row querybuf_row ualloc_row qbuf_row streamon_row streamoff_row dqbuf_row mmap_row munmap_row read_row hash_row write_row fill_row subscribe_row unsubscribe_row dqevent_row
here_answered session s line addr (DqBuf t) here passed = here_unrefused (first_refusal (row_of s 0 0 (DqBuf t)).refusals) (row_of s 0 0 (DqBuf t)).waits here passed
here_answered session s line addr call here passed = refl
