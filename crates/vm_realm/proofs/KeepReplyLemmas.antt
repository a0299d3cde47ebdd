-- A reply is told by its answer, and what a call that crosses does to users' memories.
use Rattle.std.proofs.Common.{◌≡◌, inl, inr, ℕ, ◌<◌, ◌≤◌, true, false, Bool, not, List, [], length, Some, refl, sym, ap, ◌∙◌, subst, arith, true≢false}
use Rattle.std.specs.Prelude.{Contains}
use Rattle.std.proofs.lemmas.Bool.{false≢true}
use Rattle.std.proofs.lemmas.List.{get_or_append_left}
use Rattle.std.proofs.lemmas.List.Elements.{All-contains, All-contains_itself, All-filter, Contains-push_cases}
use Rattle.v4l_const.specs.declared.errno.Errno.{Errno}
use Rattle.v4l_const.specs.declared.errno.Errno.TheVariants.{Enoent, Eio, Ebadf, Eagain, Enomem, Eacces, Efault, Ebusy, Einval, Enotty, Edeadlk, Emsgsize, Eopnotsupp}
use Rattle.v4l_const.specs.Errno.{errno_number, errno_of}
use Rattle.v4l_rules.specs.Refusals.{first_refusal}
use Rattle.vm_frame.specs.Mem.{mem_rest}
use Rattle.vm_frame.specs.declared.mem.Mem.{Mem}
use Rattle.vm_frame.specs.declared.mem.Mem.TheVariants.{OfUser}
use Rattle.vm_sg.specs.UserMemory.{user_memory}
use Rattle.vm_wire.specs.declared.response.Response.{Response}
use Rattle.vm_wire.specs.declared.response.Response.TheVariants.{Refused as Denied, Mapped as MappedAt}
use Rattle.vm_local.specs.declared.bound.Bound.{Bound}
use Rattle.vm_local.specs.declared.bound.BoundKind.TheVariants.{Mapping, User}
use Rattle.vm_local.specs.declared.call.Call.{Call}
use Rattle.vm_local.specs.declared.call.Call.TheVariants.{OpenHandle, CloseHandle, QueryCap, EnumFmt, GFmt, TryFmt, SFmt, EnumInput, GInput, SInput, ReqBufs, QueryBuf, UAlloc, QBuf, StreamOn, StreamOff, DqBuf, Mmap, Munmap, Peek, Hash, Poke, Fill, Subscribe, Unsubscribe, DqEvent}
use Rattle.vm_local.specs.declared.reply.Reply.{Reply}
use Rattle.vm_local.specs.declared.reply.Reply.TheVariants.{Refused, Mapped}
use Rattle.vm_local.specs.State.{LocalState, queue_of, buffer_of}
use Rattle.vm_local.specs.Live.{IsMade}
use Rattle.vm_local.specs.Memory.{bytes_of, without_name}
use Rattle.vm_local.specs.Queue.{with_buffers}
use Rattle.vm_local.specs.Same.{address_in}
use Rattle.vm_local.specs.Calls.{row_of, querycap_row, enumfmt_row, gfmt_row, tryfmt_row, sfmt_row, enuminput_row, ginput_row, sinput_row, reqbufs_row, querybuf_row, ualloc_row, qbuf_row, streamon_row, streamoff_row, dqbuf_row, mmap_row, munmap_row, read_row, hash_row, write_row, fill_row, subscribe_row, unsubscribe_row, dqevent_row}
use Rattle.vm_local.specs.Log.{IsCall, row_for, called}
use Rattle.vm_local.proofs.KeptLemmas.{some_same}
use Rattle.vm_local.proofs.StepLemmas.{answered_by}
use Rattle.vm_commute.specs.Commute.{may_cross}
use Rattle.vm_home.specs.Moves.{is_refusal}
use Rattle.vm_home.specs.Reached.{IsReached}
use Rattle.vm_home.proofs.FactLemmas.{Facts, facts_of}
use Rattle.vm_exchange.specs.Exchange.{response_to, IsAnswer}
use Rattle.vm_exchange.proofs.OutcomeLemmas.{outcome}
use Rattle.vm_realm.specs.Users.{CanHold, IsUsers}

-- ---- one answer, one reply

errno_back : (e : Errno) → errno_of (errno_number e) ≡ Some e
errno_back Enoent = refl
errno_back Eio = refl
errno_back Ebadf = refl
errno_back Eagain = refl
errno_back Enomem = refl
errno_back Eacces = refl
errno_back Efault = refl
errno_back Ebusy = refl
errno_back Einval = refl
errno_back Enotty = refl
errno_back Edeadlk = refl
errno_back Emsgsize = refl
errno_back Eopnotsupp = refl

errno_same : (e d : Errno) → errno_number e ≡ errno_number d → e ≡ d
errno_same e d same = some_same e d d (sym (errno_back e) ∙ (ap errno_of same ∙ errno_back d))

denied_same : (m n : ℕ) → Denied m ≡ Denied n → m ≡ n
denied_same m n is = cc

mapped_same : (a b l m : ℕ) → MappedAt a l ≡ MappedAt b m → a ≡ b
mapped_same a b l m is = cc

-- only a refusal is told as one
pub never_denied : (id : ℕ) (s : LocalState) (call : Call) (reply : Reply) (n : ℕ) → is_refusal reply ≡ false → response_to id s call reply ≡ Denied n → ⊥
never_denied id s call (Refused e) n plain told = true≢false plain
never_denied id s (OpenHandle nonblock) reply n plain told = cc
never_denied id s CloseHandle reply n plain told = cc
never_denied id s QueryCap reply n plain told = cc
never_denied id s (EnumFmt t i) reply n plain told = cc
never_denied id s (GFmt t) reply n plain told = cc
never_denied id s (TryFmt t f w h) reply n plain told = cc
never_denied id s (SFmt t f w h) reply n plain told = cc
never_denied id s (EnumInput i) reply n plain told = cc
never_denied id s GInput reply n plain told = cc
never_denied id s (SInput i) reply n plain told = cc
never_denied id s (ReqBufs t m k) reply n plain told = cc
never_denied id s (QueryBuf t i) reply n plain told = cc
never_denied id s (UAlloc u len off) reply n plain told = cc
never_denied id s (QBuf t i user used ts) reply n plain told = cc
never_denied id s (StreamOn t) reply n plain told = cc
never_denied id s (StreamOff t) reply n plain told = cc
never_denied id s (DqBuf t) reply n plain told = cc
never_denied id s (Mmap m t i ro) reply n plain told = cc
never_denied id s (Munmap m) reply n plain told = cc
never_denied id s (Peek m off len) reply n plain told = cc
never_denied id s (Hash m) reply n plain told = cc
never_denied id s (Poke m off bytes) reply n plain told = cc
never_denied id s (Fill m seed) reply n plain told = cc
never_denied id s (Subscribe v) reply n plain told = cc
never_denied id s (Unsubscribe v) reply n plain told = cc
never_denied id s DqEvent reply n plain told = cc

is_mapping_call : Call → Bool
is_mapping_call (Mmap m t i ro) = true
is_mapping_call call = false

reply_free : (s : LocalState) (line a b : ℕ) (call : Call) → is_mapping_call call ≡ false → (row_of s line a call).reply ≡ (row_of s line b call).reply
unfolding is_mapping_call
reply_free s line a b (Mmap m t i ro) other = absurd (true≢false other)
reply_free s line a b call other = refl

pub map_reply : (s : LocalState) (line a : ℕ) (m : List ℕ) (t i : ℕ) (ro : Bool) → (row_of s line a (Mmap m t i ro)).reply ≡ Mapped a (buffer_of (queue_of s t) i).length
unfolding mmap_row
map_reply s line a m t i ro = refl

row_plain : (s : LocalState) (line addr : ℕ) (call : Call) → is_refusal (row_of s line addr call).reply ≡ false
unfolding querycap_row enumfmt_row gfmt_row tryfmt_row sfmt_row enuminput_row ginput_row sinput_row reqbufs_row querybuf_row ualloc_row qbuf_row streamon_row streamoff_row dqbuf_row mmap_row munmap_row read_row hash_row write_row fill_row subscribe_row unsubscribe_row dqevent_row
row_plain s line addr (OpenHandle nonblock) = refl
row_plain s line addr CloseHandle = refl
row_plain s line addr QueryCap = refl
row_plain s line addr (EnumFmt t i) = refl
row_plain s line addr (GFmt t) = refl
row_plain s line addr (TryFmt t f w h) = refl
row_plain s line addr (SFmt t f w h) = refl
row_plain s line addr (EnumInput i) = refl
row_plain s line addr GInput = refl
row_plain s line addr (SInput i) = refl
row_plain s line addr (ReqBufs t m n) = refl
row_plain s line addr (QueryBuf t i) = refl
row_plain s line addr (UAlloc u len off) = refl
row_plain s line addr (QBuf t i user used ts) = refl
row_plain s line addr (StreamOn t) = refl
row_plain s line addr (StreamOff t) = refl
row_plain s line addr (DqBuf t) = refl
row_plain s line addr (Mmap m t i ro) = refl
row_plain s line addr (Munmap m) = refl
row_plain s line addr (Peek m off len) = refl
row_plain s line addr (Hash m) = refl
row_plain s line addr (Poke m off bytes) = refl
row_plain s line addr (Fill m seed) = refl
row_plain s line addr (Subscribe v) = refl
row_plain s line addr (Unsubscribe v) = refl
row_plain s line addr DqEvent = refl

done_same : (s : LocalState) (line : ℕ) (call : Call) (r q : Reply) (i j : ℕ) → r ≡ (row_for s line call r).reply → q ≡ (row_for s line call q).reply → response_to i s call r ≡ response_to j s call q → r ≡ q
unfolding is_mapping_call
done_same s line (Mmap m t k ro) r q i j first second same =
    let len : ℕ = (buffer_of (queue_of s t) k).length in
    let one : r ≡ Mapped (address_in r) len = first ∙ map_reply s line (address_in r) m t k ro in
    let two : q ≡ Mapped (address_in q) len = second ∙ map_reply s line (address_in q) m t k ro in
    let told : MappedAt (address_in r) len ≡ MappedAt (address_in q) len =
    sym (ap (response_to i s (Mmap m t k ro)) one) ∙ (same ∙ ap (response_to j s (Mmap m t k ro)) two) in
    one ∙ (ap (λ a. Mapped a len) (mapped_same (address_in r) (address_in q) len len told) ∙ sym two)
done_same s line call r q i j first second same = first ∙ (reply_free s line (address_in r) (address_in q) call refl ∙ sym second)

-- the answer tells the reply
pub one_answer : (s : LocalState) (line : ℕ) (call : Call) (response : Response) (r q : Reply) → IsAnswer s line call response r → IsAnswer s line call response q → r ≡ q
one_answer s line call response r q (t, i, (goes, told)) (u, j, (leads, said)) =
    elim (outcome s line call r t goes) as (λ _. r ≡ q) [
      | inl first ↦ elim (outcome s line call q u leads) as (λ _. r ≡ q) [
        | inl second ↦
            let numbers : Denied (errno_number first.0) ≡ Denied (errno_number second.0) =
            sym (told ∙ ap (response_to i s call) first.1) ∙ (said ∙ ap (response_to j s call) second.1) in
            first.1 ∙ (ap Refused (errno_same first.0 second.0 (denied_same (errno_number first.0) (errno_number second.0) numbers)) ∙ sym second.1)
        | inr second ↦ absurd (never_denied j s call q (errno_number first.0) (ap is_refusal second.1 ∙ row_plain s line (address_in q) call)
            (sym said ∙ (told ∙ ap (response_to i s call) first.1)))
      ]
      | inr first ↦ elim (outcome s line call q u leads) as (λ _. r ≡ q) [
        | inl second ↦ absurd (never_denied i s call r (errno_number second.0) (ap is_refusal first.1 ∙ row_plain s line (address_in r) call)
            (sym told ∙ (said ∙ ap (response_to j s call) second.1)))
        | inr second ↦ done_same s line call r q i j first.1 second.1 (sym told ∙ said)
      ]
    ]

-- ---- the number of a line

-- is nothing to a call that crosses
pub line_free : (s : LocalState) (line : ℕ) (call : Call) (reply : Reply) → may_cross call ≡ true → called s line call reply ≡ called s 0 call reply
unfolding called
line_free s line (UAlloc u len off) reply may = absurd (false≢true may)
line_free s line call reply may = refl

-- ---- users' memories

-- What the names that are bound to users' memories were, and how long these are.
abbrev pub IsUserLike : LocalState → LocalState → Type 0
IsUserLike s t = (b : Bound) (line off : ℕ) → Contains t.bound b → b.kind ≡ User line off →
    Contains s.bound b × (b.memory < length s.memories → length (bytes_of t b.memory) ≡ length (bytes_of s b.memory))

pub users_like : (s t : LocalState) (m : ℕ) (mem : Mem) → IsReached s → IsUserLike s t → IsUsers s m mem → IsUsers t m mem
users_like s t m mem reached like users = record {
  pages = λ b line off there is kind.
      let old : Contains s.bound b × (b.memory < length s.memories → length (bytes_of t b.memory) ≡ length (bytes_of s b.memory)) = like b line off there kind in
      let f : Facts s = facts_of s reached in
      let made : b.memory < length s.memories = All-contains (λ (z : Bound). IsMade s z.memory) s.bound b f.sound.backed.1 old.0 in
      users.pages b line off old.0 is kind ∙ ap (λ n. mem_rest (OfUser (user_memory line n off)))
      (ap (λ k. length (bytes_of s k)) (sym is) ∙ (sym (old.1 made) ∙ ap (λ k. length (bytes_of t k)) is));
  holds = users.holds;
}

-- a number that no name has is that of no user's memory
pub users_none : (s : LocalState) (m : ℕ) (mem : Mem) → IsReached s → length s.memories ≤ m → CanHold mem → IsUsers s m mem
users_none s m mem reached past holds = record {
  pages = λ b line off there is kind.
      let f : Facts s = facts_of s reached in
      let made : b.memory < length s.memories = All-contains (λ (z : Bound). IsMade s z.memory) s.bound b f.sound.backed.1 there in
      absurd (omega (arith, made, is, past));
  holds = holds;
}

old_name : (bound : List Bound) (name : List ℕ) (b : Bound) → Contains (without_name bound name) b → Contains bound b
old_name bound name b there = All-contains (Contains bound) (without_name bound name) b (All-filter _ (Contains bound) bound (All-contains_itself bound)) there

none_there : (b : Bound) → Contains [] b → ⊥
none_there b there = omega (arith, there.1)

same_names : (s : LocalState) → IsUserLike s s
same_names s = λ b line off there kind. (there, λ made. refl)

like_row : (s : LocalState) (line addr : ℕ) (call : Call) → may_cross call ≡ true → IsUserLike s (row_of s line addr call).next
unfolding querycap_row enumfmt_row gfmt_row tryfmt_row sfmt_row enuminput_row ginput_row sinput_row reqbufs_row querybuf_row ualloc_row qbuf_row streamon_row streamoff_row dqbuf_row mmap_row munmap_row read_row hash_row write_row fill_row subscribe_row unsubscribe_row dqevent_row with_buffers
like_row s line addr (OpenHandle nonblock) may = λ b l o there kind. absurd (none_there b there)
like_row s line addr CloseHandle may = λ b l o there kind. (there, λ made. refl)
like_row s line addr QueryCap may = same_names s
like_row s line addr (EnumFmt t i) may = same_names s
like_row s line addr (GFmt t) may = same_names s
like_row s line addr (TryFmt t f w h) may = same_names s
like_row s line addr (SFmt t f w h) may = λ b l o there kind. (there, λ made. refl)
like_row s line addr (EnumInput i) may = same_names s
like_row s line addr GInput may = same_names s
like_row s line addr (SInput i) may = λ b l o there kind. (there, λ made. refl)
like_row s line addr (ReqBufs t m n) may = λ b l o there kind. (there, λ made. ap (λ (bs : List ℕ). length bs) (get_or_append_left s.memories _ [] b.memory made))
like_row s line addr (QueryBuf t i) may = same_names s
like_row s line addr (UAlloc u len off) may = absurd (false≢true may)
like_row s line addr (QBuf t i user used ts) may = λ b l o there kind. (there, λ made. refl)
like_row s line addr (StreamOn t) may = λ b l o there kind. (there, λ made. refl)
like_row s line addr (StreamOff t) may = λ b l o there kind. (there, λ made. refl)
like_row s line addr (DqBuf t) may = absurd (false≢true may)
like_row s line addr (Mmap m t i ro) may = λ b l o there kind.
    elim (Contains-push_cases (without_name s.bound m) _ b there) as (λ _. Contains s.bound b × (b.memory < length s.memories → length (bytes_of s b.memory) ≡ length (bytes_of s b.memory))) [
      | inl old ↦ (old_name s.bound m b old, λ made. refl)
      | inr own ↦ absurd (apart addr (buffer_of (queue_of s t) i).length (not ro) l o (ap (λ (z : Bound). z.kind) own ∙ kind))
    ]
  where
    apart : (a n : ℕ) (w : Bool) (l o : ℕ) → Mapping a n w ≡ User l o → ⊥
    apart a n w l o is = cc
like_row s line addr (Munmap m) may = λ b l o there kind. (old_name s.bound m b there, λ made. refl)
like_row s line addr (Peek m off len) may = absurd (false≢true may)
like_row s line addr (Hash m) may = absurd (false≢true may)
like_row s line addr (Poke m off bytes) may = absurd (false≢true may)
like_row s line addr (Fill m seed) may = absurd (false≢true may)
like_row s line addr (Subscribe v) may = λ b l o there kind. (there, λ made. refl)
like_row s line addr (Unsubscribe v) may = λ b l o there kind. (there, λ made. refl)
like_row s line addr DqEvent may = absurd (false≢true may)

-- a call that crosses leaves them
pub like_call : (s t : LocalState) (line : ℕ) (call : Call) (reply : Reply) → may_cross call ≡ true → IsCall s line call reply t → IsUserLike s t
unfolding called
like_call s t line call reply may leads =
    elim (answered_by (first_refusal (row_for s line call reply).refusals) (row_for s line call reply) s reply t leads) as (λ _. IsUserLike s t) [
      | inl same ↦ subst (IsUserLike s) (sym same) (same_names s)
      | inr w ↦ subst (IsUserLike s) (sym w.3) (like_row s line (address_in reply) call may)
    ]
