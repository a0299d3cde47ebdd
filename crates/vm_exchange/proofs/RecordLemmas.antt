-- The record of a state says of each call what the state says.
use Rattle.std.proofs.Common.{◌≡◌, ◌≤◌, ℕ, Bool, true, false, not, ◌&&◌, List, [], ◌∷◌, length, map, Option, Some, None, refl, sym, ap, ◌∙◌, if◌then◌else◌, arith}
use Rattle.std.specs.Prelude.{All}
use Rattle.std.proofs.lemmas.List.{length-replicate}
use Rattle.std.proofs.lemmas.List.Elements.{All-map, All-weaker}
use Rattle.std.proofs.lemmas.Option.{none-some}
use Rattle.v4l_const.specs.declared.errno.Errno.{Errno}
use Rattle.v4l_const.specs.declared.errno.Errno.TheVariants.{Enomem}
use Rattle.v4l_rules.specs.Refusals.{first_refusal}
use Rattle.vm_commute.specs.Commute.{may_cross}
use Rattle.vm_local.specs.declared.bound.Bound.{Bound}
use Rattle.vm_local.specs.declared.buffer.Buffer.{Buffer}
use Rattle.vm_local.specs.declared.call.Call.{Call}
use Rattle.vm_local.specs.declared.call.Call.TheVariants.{QBuf, Peek, Hash}
use Rattle.vm_local.specs.declared.reply.Reply.{Reply}
use Rattle.vm_local.specs.declared.reply.Reply.TheVariants.{Done, Refused}
use Rattle.vm_local.specs.State.{LocalState, queue_of, buffer_of}
use Rattle.vm_local.specs.Same.{same_reply, address_in}
use Rattle.vm_local.specs.Memory.{named}
use Rattle.vm_local.specs.Queue.{brought, length_from}
use Rattle.vm_local.specs.Calls.{Row, row_of, dqbuf_row, mmap_row, munmap_row}
use Rattle.vm_local.specs.Log.{answered, row_for, called, IsCall}
use Rattle.vm_local.specs.Record.{zeros, without_bytes, tells_bytes}
use Rattle.vm_local.proofs.WithoutBytesLemmas.{zeros_of_zeros, long_of, same_refusals, same_lacks, same_waits, same_replies}
use Rattle.vm_wire.specs.declared.response.Response.{Response}
use Rattle.vm_exchange.specs.declared.way.Way.TheVariants.{Crosses}
use Rattle.vm_exchange.specs.Exchange.{user_of_kind, user_bound, user_named, buffer_queued, unless_by, qbuf_crossing, way_of, response_to, IsAnswer}
use Rattle.vm_exchange.specs.Range.{IsInRange, IsRecord}

-- ---- a record is one of a state in range

zeros_twice : (ms : List (List ℕ)) → map zeros (map zeros ms) ≡ map zeros ms
zeros_twice [] = refl
zeros_twice (b ∷ bs) = rw (zeros_of_zeros (length b), zeros_twice bs) refl

shorts : (ms : List (List ℕ)) → All (λ bytes. length bytes ≤ 925696) ms → All (λ bytes. length bytes ≤ 925696) (map zeros ms)
shorts ms short =
    All-map (λ bytes. length bytes ≤ 925696) zeros ms
    (All-weaker (λ bytes. length bytes ≤ 925696) (λ bytes. length (zeros bytes) ≤ 925696) (λ bytes h. omega (arith, length-replicate {A = ℕ} (length bytes) 0, h)) ms short)

pub record_of : (s : LocalState) → IsInRange s → IsRecord (without_bytes s)
record_of s range = record {
  bare = ap (λ (ms : List (List ℕ)). record s { memories = ms }) (sym (zeros_twice s.memories));
  range = record { input = range.input; queues = range.queues; memories = shorts s.memories range.memories; bound = range.bound };
}

-- ---- ways

same_bound : (s : LocalState) (o : Option Bound) → user_bound (without_bytes s) o ≡ user_bound s o
same_bound s None = refl
same_bound s (Some b) = ap (λ n. user_of_kind b.kind n) (long_of s b.memory)

same_user : (s : LocalState) (user : Option (List ℕ)) → user_named (without_bytes s) user ≡ user_named s user
same_user s None = refl
same_user s (Some u) = same_bound s (named s u)

same_length : (s : LocalState) (memory : Option ℕ) (b : Buffer) → length_from (without_bytes s) memory b ≡ length_from s memory b
same_length s None b = refl
same_length s (Some m) b = long_of s m

same_buffer : (s : LocalState) (t i : ℕ) (user : Option (List ℕ)) (used ts : ℕ) → buffer_queued (without_bytes s) t i user used ts ≡ buffer_queued s t i user used ts
unfolding buffer_queued
same_buffer s t i user used ts = rw (same_user s user, same_length s (brought s user) (buffer_of (queue_of s t) i)) refl

same_crossing : (session : ℕ) (s : LocalState) (t i : ℕ) (user : Option (List ℕ)) (used ts : ℕ) →
    qbuf_crossing session (without_bytes s) t i user used ts ≡ qbuf_crossing session s t i user used ts
unfolding qbuf_crossing
same_crossing session s t i user used ts = rw (same_user s user, same_buffer s t i user used ts) refl

same_qbuf : (session : ℕ) (s : LocalState) (t i : ℕ) (user : Option (List ℕ)) (used ts : ℕ) →
    way_of session (without_bytes s) (QBuf t i user used ts) ≡ way_of session s (QBuf t i user used ts)
same_qbuf session s t i user used ts =
    ap (λ rs. unless_by (first_refusal rs) (Crosses (qbuf_crossing session (without_bytes s) t i user used ts))) (same_refusals s 0 0 (QBuf t i user used ts)) ∙
    ap (λ c. unless_by (first_refusal (row_of s 0 0 (QBuf t i user used ts)).refusals) (Crosses c)) (same_crossing session s t i user used ts)

pub same_way : (session : ℕ) (s : LocalState) (call : Call) → way_of session (without_bytes s) call ≡ way_of session s call
unfolding dqbuf_row mmap_row munmap_row
same_way session s (QBuf t i user used ts) = same_qbuf session s t i user used ts
same_way session s call = refl

-- ---- responses

pub same_response : (session : ℕ) (s : LocalState) (call : Call) (reply : Reply) → response_to session (without_bytes s) call reply ≡ response_to session s call reply
same_response session s call (Refused e) = refl
same_response session s (QBuf t i user used ts) Done = rw (same_buffer s t i user used ts) refl
same_response session s call reply = refl

-- the same row but for its next state, of another state
answered_alike : (refused : Option Errno) (row other : Row) (s r : LocalState) (reply : Reply) (t : LocalState) →
    other.may_lack_memory ≡ row.may_lack_memory → other.waits ≡ row.waits → other.reply ≡ row.reply →
    answered refused row s reply ≡ Some t → (u : LocalState) × (answered refused other r reply ≡ Some u)
answered_alike (Some e) row other s r reply t lacks waits says goes = known (same_reply (Refused e) reply) goes
  where
    known : (b : Bool) → (if b then Some s else None) ≡ Some t → (u : LocalState) × ((if b then Some r else None) ≡ Some u)
    known true goes = (r, refl)
    known false goes = absurd (none-some t goes)
answered_alike None row other s r reply t lacks waits says goes =
    rw (lacks, waits, says) (known (row.may_lack_memory && same_reply (Refused Enomem) reply) (not row.waits && same_reply row.reply reply) goes)
  where
    known : (lack done : Bool) → (if lack then Some s else (if done then Some row.next else None)) ≡ Some t →
        (u : LocalState) × ((if lack then Some r else (if done then Some other.next else None)) ≡ Some u)
    known true done goes = (r, refl)
    known false true goes = (other.next, refl)
    known false false goes = absurd (none-some t goes)

crossing_tells_none : (call : Call) → may_cross call ≡ true → tells_bytes call ≡ false
crossing_tells_none (Peek m off len) crosses = cc
crossing_tells_none (Hash m) crosses = cc
crossing_tells_none call crosses = refl

same_call : (s : LocalState) (line : ℕ) (call : Call) (reply : Reply) (t : LocalState) → may_cross call ≡ true → IsCall s line call reply t →
    (u : LocalState) × IsCall (without_bytes s) line call reply u
unfolding called
same_call s line call reply t crosses goes =
    let addr : ℕ = address_in reply in
    let alike = answered_alike (first_refusal (row_for s line call reply).refusals) (row_for s line call reply) (row_for (without_bytes s) line call reply) s (without_bytes s) reply t
    (same_lacks s line addr call) (same_waits s line addr call) (same_replies s line addr call (crossing_tells_none call crosses)) goes in
    (alike.0, ap (λ rs. answered (first_refusal rs) (row_for (without_bytes s) line call reply) (without_bytes s) reply) (same_refusals s line addr call) ∙ alike.1)

pub same_answer : (s : LocalState) (line : ℕ) (call : Call) (response : Response) (reply : Reply) → may_cross call ≡ true →
    IsAnswer s line call response reply → IsAnswer (without_bytes s) line call response reply
same_answer s line call response reply crosses (t, id, is) =
    let goes = same_call s line call reply t crosses is.0 in
    (goes.0, id, (goes.1, is.1 ∙ sym (same_response id s call reply)))
