-- Calls that touch a memory's bytes: the memory is at home when it goes out, and when it has come back.
use Rattle.std.proofs.Common.{◌≡◌, ◌≢◌, ℕ, ◌<◌, ◌≤◌, ◌+◌, Bool, true, false, not, ◌||◌, nat_lt, List, [], length, get_or, set, Option, Some, None, refl, sym, ap, ◌∙◌, arith, is_some, if◌then◌else◌, get_or-set_same, get_or-set_other, length-set, eq-eqb}
use Rattle.std.proofs.lemmas.Bool.{false≢true, true≢false, not-false, ltb-false}
use Rattle.v4l_const.specs.declared.errno.Errno.{Errno}
use Rattle.v4l_const.specs.declared.errno.Errno.TheVariants.{Enomem}
use Rattle.v4l_rules.specs.Refusals.{first_refusal}
use Rattle.vm_frame.specs.Mem.{MemRest, Tagged, Scattered, mem_bytes, mem_rest}
use Rattle.vm_frame.specs.declared.mem.Mem.{Mem}
use Rattle.vm_frame.specs.declared.mem.Mem.TheVariants.{OfFrame, OfUser}
use Rattle.vm_lease.specs.Lease.{Touches, bytes_left, reply_from, IsDoneOn}
use Rattle.vm_local.specs.declared.call.Call.{Call}
use Rattle.vm_local.specs.declared.call.Call.TheVariants.{Peek, Hash, Poke, Fill}
use Rattle.vm_local.specs.declared.entry.Entry.{Entry}
use Rattle.vm_local.specs.declared.reply.Reply.{Reply}
use Rattle.vm_local.specs.State.{LocalState}
use Rattle.vm_local.specs.Same.{same_reply}
use Rattle.vm_local.specs.Live.{is_named}
use Rattle.vm_local.specs.Memory.{named, named_in, memory_of, is_writable, bytes_of, with_bytes, is_just, is_lent, is_in_use}
use Rattle.vm_local.specs.Calls.{Row, row_of, read_row, hash_row, write_row, fill_row}
use Rattle.vm_local.specs.Log.{answered, called, after}
use Rattle.vm_local.proofs.SameLemmas.{same_reply_decides}
use Rattle.vm_local.proofs.StepLemmas.{passes}
use Rattle.vm_home.specs.Home.{home_of, is_frame, IsMemory, IsThere, AreInPlace}
use Rattle.vm_home.specs.Moves.{touches_bytes, touched}
use Rattle.vm_home.specs.Reached.{IsReached}
use Rattle.vm_home.specs.ToCome.{IsStep}
use Rattle.vm_home.proofs.PlaceLemmas.{fails, or_right, lent_used, lent_less, used_less}
use Rattle.vm_home.proofs.RowLemmas.{named_some}
use Rattle.vm_home.proofs.FactLemmas.{facts_of}
use Rattle.vm_home.proofs.StillLemmas.{out_away, kept_there, in_places, named_kept, same_there}
use Rattle.vm_home.proofs.MoveLemmas.{put_home}
use Rattle.vm_home.proofs.DeviceLemmas.{kept_made}
use Rattle.vm_home.proofs.StepLemmas.{StepsTo, steps_to}

-- ---- the memory goes out

-- a read asks for no more bytes than one line may tell
abbrev pub AsksFew : Call → Type 0
AsksFew (Peek m off len) = len ≤ 256
AsksFew call = Unit {0}

-- The memory that a call touches which no refusal stops: the handle has it, it isn't with the device, and the call stays
-- within its bytes.
pub record TouchesIt (s : LocalState) (call : Call) : Type 0 where
  pub named : is_named s (touched s call) ≡ true
  pub unlent : is_lent s (touched s call) ≡ false
  pub within : AsksFew call → Touches call (length (bytes_of s (touched s call)))

is_named_by : (s : LocalState) (name : List ℕ) → not (is_some (named s name)) ≡ false → is_named s (memory_of (named s name)) ≡ true
is_named_by s name bound = named_some s.bound name (memory_of (named s name)) (not-false (is_some (named s name)) bound) refl

unused_unlent : (s : LocalState) (m : ℕ) → is_in_use s m ≡ false → is_lent s m ≡ false
unused_unlent s m unused = fails (is_lent s m) (is_in_use s m) (lent_used s m) unused

pub touches_it : (s : LocalState) (line addr : ℕ) (call : Call) → touches_bytes call ≡ true → first_refusal (row_of s line addr call).refusals ≡ None → TouchesIt s call
unfolding read_row hash_row write_row fill_row
touches_it s line addr (Peek m off len) touches pass =
    let so : (k : ℕ) → (get_or (read_row s m off len).refusals k (false, Enomem)).0 ≡ false = passes (read_row s m off len).refusals pass in
    record { named = is_named_by s m (so 0); unlent = so 2; within = λ few. (ltb-false _ _ (so 1), few) }
touches_it s line addr (Hash m) touches pass =
    let so : (k : ℕ) → (get_or (hash_row s m).refusals k (false, Enomem)).0 ≡ false = passes (hash_row s m).refusals pass in
    record { named = is_named_by s m (so 0); unlent = so 1; within = λ few. tt }
touches_it s line addr (Poke m off bytes) touches pass =
    let so : (k : ℕ) → (get_or (write_row s m off bytes).refusals k (false, Enomem)).0 ≡ false = passes (write_row s m off bytes).refusals pass in
    record { named = is_named_by s m (so 0); unlent = unused_unlent s (memory_of (named s m)) (so 3); within = λ few. ltb-false _ _ (so 1) }
touches_it s line addr (Fill m seed) touches pass =
    let so : (k : ℕ) → (get_or (fill_row s m seed).refusals k (false, Enomem)).0 ≡ false = passes (fill_row s m seed).refusals pass in
    record { named = is_named_by s m (so 0); unlent = unused_unlent s (memory_of (named s m)) (so 2); within = λ few. tt }
touches_it s line addr call touches pass = absurd (false≢true touches)

-- so it is at home
pub touched_home : (s : LocalState) (call : Call) (home : List (Option Mem)) → TouchesIt s call → AreInPlace s None home → IsThere s (touched s call) (home_of home (touched s call))
touched_home s call home it h = kept_there s None home (touched s call) h (ap (λ b. b || false) it.unlent) (named_kept s (touched s call) it.named)

pub touched_made : (s : LocalState) (call : Call) → IsReached s → TouchesIt s call → touched s call < length s.memories
touched_made s call reached it = kept_made s (facts_of s reached).sound (touched s call) (named_kept s (touched s call) it.named)

-- ---- while it is out

pub if_not : (b : Bool) (e : Errno) (o : Option Errno) → b ≡ false → o ≡ None → (if b then Some e else o) ≡ None
if_not true e o no_refusal rest = absurd (true≢false no_refusal)
if_not false e o no_refusal rest = rest

-- A step of the device refuses no such call that nothing refused, and leaves its memory and that memory's bytes.
pub record StillTouches (s t : LocalState) (line addr : ℕ) (call : Call) : Type 0 where
  pub pass : first_refusal (row_of t line addr call).refusals ≡ None
  pub same : touched t call ≡ touched s call
  pub bytes : bytes_of t (touched s call) ≡ bytes_of s (touched s call)

pub still_touches : (s t : LocalState) (e : Entry) (line addr : ℕ) (call : Call) → IsReached s → IsStep e → after s e ≡ Some t → touches_bytes call ≡ true →
    first_refusal (row_of s line addr call).refusals ≡ None → StillTouches s t line addr call
unfolding read_row hash_row write_row fill_row
still_touches s t e line addr call reached step leads touches pass =
    by_call call touches pass (touches_it s line addr call touches pass)
  where
    goes : StepsTo s t
    goes = steps_to s t e reached step leads

    names : (m : List ℕ) → named t m ≡ named s m
    names m = ap (λ bs. named_in bs m) goes.bound

    number : (m : List ℕ) → memory_of (named t m) ≡ memory_of (named s m)
    number m = ap memory_of (names m)

    kept : (m : List ℕ) → is_lent s (memory_of (named s m)) ≡ false → bytes_of t (memory_of (named s m)) ≡ bytes_of s (memory_of (named s m))
    kept m unlent = goes.bytes (memory_of (named s m)) unlent

    bytes : (m : List ℕ) → is_lent s (memory_of (named s m)) ≡ false → bytes_of t (memory_of (named t m)) ≡ bytes_of s (memory_of (named s m))
    bytes m unlent = ap (λ n. bytes_of t n) (number m) ∙ kept m unlent

    unlent_in : (m : List ℕ) → is_lent s (memory_of (named s m)) ≡ false → is_lent t (memory_of (named t m)) ≡ false
    unlent_in m unlent =
        ap (λ n. is_lent t n) (number m)
        ∙ fails (is_lent t (memory_of (named s m))) (is_lent s (memory_of (named s m))) (lent_less s t goes.less (memory_of (named s m))) unlent

    unused_in : (m : List ℕ) → is_in_use s (memory_of (named s m)) ≡ false → is_in_use t (memory_of (named t m)) ≡ false
    unused_in m unused =
        ap (λ n. is_in_use t n) (number m)
        ∙ fails (is_in_use t (memory_of (named s m))) (is_in_use s (memory_of (named s m))) (used_less s t goes.less (memory_of (named s m))) unused

    is_bound : (m : List ℕ) → not (is_some (named s m)) ≡ false → not (is_some (named t m)) ≡ false
    is_bound m bound = ap (λ o. not (is_some o)) (names m) ∙ bound

    writable : (m : List ℕ) → not (is_writable (named s m)) ≡ false → not (is_writable (named t m)) ≡ false
    writable m may = ap (λ o. not (is_writable o)) (names m) ∙ may

    by_call : (call : Call) → touches_bytes call ≡ true → first_refusal (row_of s line addr call).refusals ≡ None → TouchesIt s call → StillTouches s t line addr call
    by_call (Peek m off len) touches pass it =
        let so : (k : ℕ) → (get_or (read_row s m off len).refusals k (false, Enomem)).0 ≡ false = passes (read_row s m off len).refusals pass in
        record {
          pass = if_not _ _ _ (is_bound m (so 0)) (if_not _ _ _ (ap (λ bs. nat_lt (length bs) (off + len)) (bytes m it.unlent) ∙ so 1) (if_not _ _ _ (unlent_in m it.unlent) refl));
          same = number m;
          bytes = kept m it.unlent;
        }
    by_call (Hash m) touches pass it =
        let so : (k : ℕ) → (get_or (hash_row s m).refusals k (false, Enomem)).0 ≡ false = passes (hash_row s m).refusals pass in
        record { pass = if_not _ _ _ (is_bound m (so 0)) (if_not _ _ _ (unlent_in m it.unlent) refl); same = number m; bytes = kept m it.unlent }
    by_call (Poke m off bs) touches pass it =
        let so : (k : ℕ) → (get_or (write_row s m off bs).refusals k (false, Enomem)).0 ≡ false = passes (write_row s m off bs).refusals pass in
        record {
          pass = if_not _ _ _ (is_bound m (so 0)) (if_not _ _ _ (ap (λ old. nat_lt (length old) (off + length bs)) (bytes m it.unlent) ∙ so 1)
              (if_not _ _ _ (writable m (so 2)) (if_not _ _ _ (unused_in m (so 3)) refl)));
          same = number m;
          bytes = kept m it.unlent;
        }
    by_call (Fill m seed) touches pass it =
        let so : (k : ℕ) → (get_or (fill_row s m seed).refusals k (false, Enomem)).0 ≡ false = passes (fill_row s m seed).refusals pass in
        record { pass = if_not _ _ _ (is_bound m (so 0)) (if_not _ _ _ (writable m (so 1)) (if_not _ _ _ (unused_in m (so 2)) refl)); same = number m; bytes = kept m it.unlent }
    by_call call touches pass it = absurd (false≢true touches)

-- ---- the call is done, and the memory comes back

-- a memory of the same rest is a frame where that was one
same_kind : (before after : Mem) → mem_rest after ≡ mem_rest before → is_frame before ≡ true → is_frame after ≡ true
same_kind before (OfFrame f) same is = refl
same_kind (OfFrame f) (OfUser u) same is = absurd (false≢true (ap is_tagged same))
  where
    is_tagged : MemRest → Bool
    is_tagged (Tagged tag) = true
    is_tagged (Scattered places) = false
same_kind (OfUser v) (OfUser u) same is = is

pub plain_goes : (refused : Option Errno) (row : Row) (s : LocalState) (reply : Reply) → refused ≡ None → row.may_lack_memory ≡ false → row.waits ≡ false → reply ≡ row.reply →
    answered refused row s reply ≡ Some row.next
plain_goes refused row s reply pass plenty go told =
    let same : same_reply row.reply reply ≡ true = (same_reply_decides row.reply reply).1 (sym told) in
    rw pass (rw (plenty, go, same) refl)

-- the bytes of a memory that is out are changed
written_home : (s : LocalState) (m : ℕ) (bytes : List ℕ) (home : List (Option Mem)) → AreInPlace s (Some m) home → AreInPlace (with_bytes s m bytes) (Some m) home
written_home s m bytes home h =
    let t : LocalState = with_bytes s m bytes in
    in_places t (Some m) home (h.places ∙ sym (length-set s.memories m bytes)) (λ k out. out_away s (Some m) home k h out) (λ k out kept.
    let apart : k ≢ m = λ same. true≢false (sym (or_right (is_lent s k) (is_just (Some m) k) (eq-eqb m k (sym same))) ∙ out) in
    same_there s t k (home_of home k) (get_or-set_other s.memories m k bytes [] apart) (λ is. is) (kept_there s (Some m) home k h out kept))

-- The reply is the row's, the call leads to the row's next state, and the memory is one of that state.
pub record IsPaid (s : LocalState) (call : Call) (after : Mem) (reply : Reply) (t : LocalState) : Type 0 where
  pub leads : (line : ℕ) → called s line call reply ≡ Some t
  pub memory : IsMemory t (touched s call) after
  pub home : (home : List (Option Mem)) → AreInPlace s (Some (touched s call)) home → AreInPlace t None (set home (touched s call) (Some after))

paid_kept : (s : LocalState) (m : ℕ) (before after : Mem) → mem_bytes after ≡ mem_bytes before → mem_rest after ≡ mem_rest before → IsMemory s m before → IsMemory s m after
paid_kept s m before after bytes rest is = record { bytes = bytes ∙ is.bytes; frame = λ device. same_kind before after rest (is.frame device) }

paid_written : (s : LocalState) (m : ℕ) (before after : Mem) (bytes : List ℕ) → m < length s.memories → mem_bytes after ≡ bytes → mem_rest after ≡ mem_rest before → IsMemory s m before →
    IsMemory (with_bytes s m bytes) m after
paid_written s m before after bytes within now rest is = record {
  bytes = now ∙ sym (get_or-set_same s.memories m bytes [] within);
  frame = λ device. same_kind before after rest (is.frame device);
}

pub payload_done : (s : LocalState) (line addr : ℕ) (call : Call) (before after : Mem) (reply : Reply) → IsReached s → touches_bytes call ≡ true →
    first_refusal (row_of s line addr call).refusals ≡ None → IsMemory s (touched s call) before → IsDoneOn call before after reply →
    (reply ≡ (row_of s line addr call).reply) × IsPaid s call after reply (row_of s line addr call).next
unfolding called read_row hash_row write_row fill_row
payload_done s line addr call before after reply reached touches pass is done =
    let it : TouchesIt s call = touches_it s line addr call touches pass in
    by_call call touches pass it (touched_made s call reached it) is done
  where
    back : (t : LocalState) (m : ℕ) → is_lent t m ≡ false → IsMemory t m after → m < length t.memories → (home : List (Option Mem)) → AreInPlace t (Some m) home → AreInPlace t None (set home m (Some after))
    back t m unlent now within home h = put_home t m after home unlent now (omega (arith, within, h.places)) h

    by_call : (call : Call) → touches_bytes call ≡ true → first_refusal (row_of s line addr call).refusals ≡ None → TouchesIt s call → touched s call < length s.memories →
        IsMemory s (touched s call) before → IsDoneOn call before after reply → (reply ≡ (row_of s line addr call).reply) × IsPaid s call after reply (row_of s line addr call).next
    by_call (Peek m off len) touches pass it made is done =
        let told : reply ≡ (read_row s m off len).reply = done.replies ∙ ap (λ bs. reply_from (Peek m off len) bs) is.bytes in
        let now : IsMemory s (memory_of (named s m)) after = paid_kept s (memory_of (named s m)) before after done.bytes done.rest is in (
          told,
          record {
            leads = λ l. plain_goes (first_refusal (read_row s m off len).refusals) (read_row s m off len) s reply pass refl refl told;
            memory = now;
            home = back s (memory_of (named s m)) it.unlent now made;
          },
        )
    by_call (Hash m) touches pass it made is done =
        let told : reply ≡ (hash_row s m).reply = done.replies ∙ ap (λ bs. reply_from (Hash m) bs) is.bytes in
        let now : IsMemory s (memory_of (named s m)) after = paid_kept s (memory_of (named s m)) before after done.bytes done.rest is in (
          told,
          record {
            leads = λ l. plain_goes (first_refusal (hash_row s m).refusals) (hash_row s m) s reply pass refl refl told;
            memory = now;
            home = back s (memory_of (named s m)) it.unlent now made;
          },
        )
    by_call (Poke m off bytes) touches pass it made is done =
        let k : ℕ = memory_of (named s m) in
        let left : List ℕ = bytes_left (Poke m off bytes) (bytes_of s k) in
        let now : IsMemory (with_bytes s k left) k after = paid_written s k before after left made (done.bytes ∙ ap (λ bs. bytes_left (Poke m off bytes) bs) is.bytes) done.rest is in (
          done.replies,
          record {
            leads = λ l. plain_goes (first_refusal (write_row s m off bytes).refusals) (write_row s m off bytes) s reply pass refl refl done.replies;
            memory = now;
            home = λ home h. back (with_bytes s k left) k it.unlent now (omega (arith, made, length-set s.memories k left)) home (written_home s k left home h);
          },
        )
    by_call (Fill m seed) touches pass it made is done =
        let k : ℕ = memory_of (named s m) in
        let left : List ℕ = bytes_left (Fill m seed) (bytes_of s k) in
        let now : IsMemory (with_bytes s k left) k after = paid_written s k before after left made (done.bytes ∙ ap (λ bs. bytes_left (Fill m seed) bs) is.bytes) done.rest is in (
          done.replies,
          record {
            leads = λ l. plain_goes (first_refusal (fill_row s m seed).refusals) (fill_row s m seed) s reply pass refl refl done.replies;
            memory = now;
            home = λ home h. back (with_bytes s k left) k it.unlent now (omega (arith, made, length-set s.memories k left)) home (written_home s k left home h);
          },
        )
    by_call call touches pass it made is done = absurd (false≢true touches)
