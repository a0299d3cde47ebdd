-- What a call answers is of the call's kind.
use Rattle.std.proofs.Common.{◌≡◌, ℕ, Bool, true, false, not, ◌&&◌, nat_lt, [], ◌∷◌, length, Option, Some, None, cond, refl, sym, subst}
use Rattle.std.proofs.lemmas.Option.{none-some}
use Rattle.v4l_const.specs.declared.errno.Errno.{Errno}
use Rattle.v4l_const.specs.declared.errno.Errno.TheVariants.{Einval, Enomem}
use Rattle.v4l_format.specs.Pattern.{patterns}
use Rattle.v4l_rules.specs.Refusals.{first_refusal, no_inputs}
use Rattle.vm_local.specs.declared.call.Call.{Call}
use Rattle.vm_local.specs.declared.call.Call.TheVariants.{OpenHandle, CloseHandle, QueryCap, EnumFmt, GFmt, TryFmt, SFmt, EnumInput, GInput, SInput, ReqBufs, QueryBuf, UAlloc, QBuf, StreamOn, StreamOff, DqBuf, Mmap, Munmap, Peek, Hash, Poke, Fill, Subscribe, Unsubscribe, DqEvent}
use Rattle.vm_local.specs.declared.reply.Reply.{Reply}
use Rattle.vm_local.specs.declared.reply.Reply.TheVariants.{Refused}
use Rattle.vm_local.specs.State.{LocalState}
use Rattle.vm_local.specs.Same.{same_reply, address_in}
use Rattle.vm_local.specs.Calls.{Row, row_of, not_open, querycap_row, enumfmt_row, gfmt_row, tryfmt_row, sfmt_row, enuminput_row, ginput_row, sinput_row, reqbufs_row, querybuf_row, ualloc_row, qbuf_row, streamon_row, streamoff_row, dqbuf_row, mmap_row, munmap_row, read_row, hash_row, write_row, fill_row, subscribe_row, unsubscribe_row, dqevent_row}
use Rattle.vm_local.specs.Log.{answered, called, row_for, IsCall}
use Rattle.vm_local.proofs.SameLemmas.{same_reply_decides}
use Rattle.vm_report.specs.Text.{is_kind_of}

-- ---- the replies of the table of calls

-- where none of three refusals applies, the last one's test fails
third_fails : (first second : Bool × Errno) (third : Bool) (e : Errno) → first_refusal (first ∷ second ∷ (not third, e) ∷ []) ≡ None → third ≡ true
third_fails first second true e none = refl
third_fails (true, f) second false e none = cc
third_fails (false, f) (true, g) false e none = cc
third_fails (false, f) (false, g) false e none = cc

-- where no refusal applies, the reply of a call's row is of its kind
row_kind : (s : LocalState) (line addr : ℕ) (call : Call) → first_refusal (row_of s line addr call).refusals ≡ None → is_kind_of call (row_of s line addr call).reply ≡ true
unfolding querycap_row enumfmt_row gfmt_row tryfmt_row sfmt_row enuminput_row ginput_row sinput_row reqbufs_row querybuf_row ualloc_row qbuf_row streamon_row streamoff_row dqbuf_row mmap_row munmap_row read_row hash_row write_row fill_row subscribe_row unsubscribe_row dqevent_row
row_kind s line addr (OpenHandle nonblock) none = refl
row_kind s line addr CloseHandle none = refl
row_kind s line addr QueryCap none = refl
row_kind s line addr (EnumFmt t i) none = refl
row_kind s line addr (GFmt t) none = refl
row_kind s line addr (TryFmt t f w h) none = refl
row_kind s line addr (SFmt t f w h) none = refl
row_kind s line addr (EnumInput i) none = third_fails (not_open s) (no_inputs s.model) (nat_lt i (length patterns)) Einval none
row_kind s line addr GInput none = refl
row_kind s line addr (SInput i) none = refl
row_kind s line addr (ReqBufs t m n) none = refl
row_kind s line addr (QueryBuf t i) none = refl
row_kind s line addr (UAlloc u len off) none = refl
row_kind s line addr (QBuf t i user used ts) none = refl
row_kind s line addr (StreamOn t) none = refl
row_kind s line addr (StreamOff t) none = refl
row_kind s line addr (DqBuf t) none = refl
row_kind s line addr (Mmap m t i ro) none = refl
row_kind s line addr (Munmap m) none = refl
row_kind s line addr (Peek m off len) none = refl
row_kind s line addr (Hash m) none = refl
row_kind s line addr (Poke m off bytes) none = refl
row_kind s line addr (Fill m seed) none = refl
row_kind s line addr (Subscribe e) none = refl
row_kind s line addr (Unsubscribe e) none = refl
row_kind s line addr DqEvent none = refl

-- a refusal is of the kind of each call
refusal_kind : (call : Call) (e : Errno) → is_kind_of call (Refused e) ≡ true
refusal_kind call e = refl

-- ---- what a call may answer

-- a refusal that applies, the want of memory, or the row's reply
pub data Answer (o : Option Errno) (row : Row) (reply : Reply) : Type 0 where
  IsRefusal : (e : Errno) → reply ≡ Refused e → Answer o row reply
  IsReply : o ≡ None → reply ≡ row.reply → Answer o row reply

taken : (b : Bool) (x t : LocalState) → cond b (Some x) None ≡ Some t → b ≡ true
taken true x t e = refl
taken false x t e = absurd (none-some t e)

same_as : (a b : Reply) → same_reply a b ≡ true → b ≡ a
same_as a b same = sym ((same_reply_decides a b).0 same)

pub answer : (o : Option Errno) (row : Row) (s t : LocalState) (reply : Reply) → answered o row s reply ≡ Some t → Answer o row reply
answer (Some e) row s t reply is = IsRefusal e (same_as (Refused e) reply (taken (same_reply (Refused e) reply) s t is))
answer None row s t reply is = by_tests row.may_lack_memory (same_reply (Refused Enomem) reply) refl (not row.waits) (same_reply row.reply reply) refl is
  where
    by_tests : (may lacks : Bool) → same_reply (Refused Enomem) reply ≡ lacks → (waited same : Bool) → same_reply row.reply reply ≡ same
        → cond (may && lacks) (Some s) (cond (waited && same) (Some row.next) None) ≡ Some t → Answer None row reply
    by_tests true true lacks waited same is_same comes = IsRefusal Enomem (same_as (Refused Enomem) reply lacks)
    by_tests true false lacks waited true is_same comes = IsReply refl (same_as row.reply reply is_same)
    by_tests false may lacks waited true is_same comes = IsReply refl (same_as row.reply reply is_same)
    by_tests true false lacks true false is_same comes = absurd (none-some t comes)
    by_tests true false lacks false false is_same comes = absurd (none-some t comes)
    by_tests false may lacks true false is_same comes = absurd (none-some t comes)
    by_tests false may lacks false false is_same comes = absurd (none-some t comes)

-- What a call answers is of its kind.
pub kind_where : (s t : LocalState) (line : ℕ) (call : Call) (reply : Reply) → IsCall s line call reply t → is_kind_of call reply ≡ true
unfolding called
kind_where s t line call reply is = by_answer (answer (first_refusal (row_for s line call reply).refusals) (row_for s line call reply) s t reply is)
  where
    by_answer : Answer (first_refusal (row_for s line call reply).refusals) (row_for s line call reply) reply → is_kind_of call reply ≡ true
    by_answer (IsRefusal e same) = rw same (refusal_kind call e)
    by_answer (IsReply none same) =
        let P : Reply → Type 0 = λ r. is_kind_of call r ≡ true in
        subst P (sym same) (row_kind s line (address_in reply) call none)
