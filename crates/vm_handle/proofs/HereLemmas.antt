-- Calls that are answered without the device.
use Rattle.std.proofs.Common.{◌≡◌, ℕ, Bool, true, false, not, ◌&&◌, List, Option, Some, None, IsSome, refl, if◌then◌else◌}
use Rattle.std.proofs.lemmas.Bool.{false≢true}
use Rattle.v4l_const.specs.declared.errno.Errno.{Errno}
use Rattle.v4l_const.specs.declared.errno.Errno.TheVariants.{Ebadf, Enomem}
use Rattle.v4l_rules.specs.Refusals.{first_refusal}
use Rattle.vm_local.specs.declared.call.Call.{Call}
use Rattle.vm_local.specs.declared.call.Call.TheVariants.{OpenHandle, CloseHandle, QueryCap, EnumFmt, GFmt, TryFmt, SFmt, EnumInput, GInput, SInput, ReqBufs, QueryBuf, UAlloc, QBuf, StreamOn, StreamOff, DqBuf, Mmap, Munmap, Peek, Hash, Poke, Fill, Subscribe, Unsubscribe, DqEvent}
use Rattle.vm_local.specs.declared.entry.Entry.TheVariants.{Called}
use Rattle.vm_local.specs.declared.reply.Reply.{Reply}
use Rattle.vm_local.specs.declared.reply.Reply.TheVariants.{Refused}
use Rattle.vm_local.specs.State.{LocalState}
use Rattle.vm_local.specs.Same.{same_reply, address_in}
use Rattle.vm_local.specs.Calls.{Row, row_of, querycap_row, enumfmt_row, gfmt_row, tryfmt_row, sfmt_row, enuminput_row, ginput_row, sinput_row, reqbufs_row, querybuf_row, ualloc_row, streamon_row, streamoff_row, dqbuf_row, subscribe_row, unsubscribe_row, dqevent_row}
use Rattle.vm_local.specs.Log.{called, answered}
use Rattle.vm_local.specs.Record.{tells_bytes}
use Rattle.vm_local.proofs.SameLemmas.{same_reply_decides}
use Rattle.vm_home.specs.Moves.{moves_memory}
use Rattle.vm_log.proofs.KeepLemmas.{refused_goes}
use Rattle.vm_exchange.specs.declared.crossing.Crossing.{Crossing}
use Rattle.vm_exchange.specs.declared.way.Way.TheVariants.{Crosses, AnsweredHere}
use Rattle.vm_exchange.specs.Exchange.{unless_by, way_of}
use Rattle.vm_exchange.proofs.ReplyLemmas.{here_answered}
use Rattle.vm_handle.specs.Handle.{opens_session}

-- ---- which calls are

-- these alone are where nothing refuses them
abbrev pub is_here : Call → Bool
is_here (UAlloc u len off) = true
is_here (DqBuf t) = true
is_here DqEvent = true
is_here call = false

closed_here : (a : Bool) (c : Crossing) → (if a then Crosses c else AnsweredHere) ≡ AnsweredHere → a ≡ false
closed_here true c here = cc
closed_here false c here = refl

-- a call that crosses from an open handle is refused on another
refused_closed : (a : Bool) (c : Crossing) (rest : Option Errno) → (if a then Crosses c else AnsweredHere) ≡ AnsweredHere → (if not a then Some Ebadf else rest) ≡ None → ⊥
refused_closed true c rest here passed = cc
refused_closed false c rest here passed = cc

-- a call that crosses where nothing refuses it is refused
refused_here_by : (o : Option Errno) (c : Crossing) → unless_by o (Crosses c) ≡ AnsweredHere → o ≡ None → ⊥
refused_here_by None c here passed = cc
refused_here_by (Some e) c here passed = cc

pub here_kinds : (id : ℕ) (s : LocalState) (line : ℕ) (call : Call) → way_of id s call ≡ AnsweredHere → first_refusal (row_of s line 0 call).refusals ≡ None → is_here call ≡ true
unfolding querycap_row enumfmt_row gfmt_row tryfmt_row sfmt_row enuminput_row ginput_row sinput_row reqbufs_row querybuf_row streamon_row streamoff_row subscribe_row unsubscribe_row
here_kinds id s line (OpenHandle nonblock) here passed = cc
here_kinds id s line CloseHandle here passed = absurd (refused_closed s.opened _ _ here passed)
here_kinds id s line QueryCap here passed = absurd (refused_closed s.opened _ _ here passed)
here_kinds id s line (EnumFmt t i) here passed = absurd (refused_closed s.opened _ _ here passed)
here_kinds id s line (GFmt t) here passed = absurd (refused_closed s.opened _ _ here passed)
here_kinds id s line (TryFmt t f w h) here passed = absurd (refused_closed s.opened _ _ here passed)
here_kinds id s line (SFmt t f w h) here passed = absurd (refused_closed s.opened _ _ here passed)
here_kinds id s line (EnumInput i) here passed = absurd (refused_closed s.opened _ _ here passed)
here_kinds id s line GInput here passed = absurd (refused_closed s.opened _ _ here passed)
here_kinds id s line (SInput i) here passed = absurd (refused_closed s.opened _ _ here passed)
here_kinds id s line (ReqBufs t m n) here passed = absurd (refused_closed s.opened _ _ here passed)
here_kinds id s line (QueryBuf t i) here passed = absurd (refused_closed s.opened _ _ here passed)
here_kinds id s line (UAlloc u len off) here passed = refl
here_kinds id s line (QBuf t i user used ts) here passed = absurd (refused_here_by (first_refusal (row_of s 0 0 (QBuf t i user used ts)).refusals) _ here passed)
here_kinds id s line (StreamOn t) here passed = absurd (refused_closed s.opened _ _ here passed)
here_kinds id s line (StreamOff t) here passed = absurd (refused_closed s.opened _ _ here passed)
here_kinds id s line (DqBuf t) here passed = refl
here_kinds id s line (Mmap m t i ro) here passed = absurd (refused_here_by (first_refusal (row_of s 0 0 (Mmap m t i ro)).refusals) _ here passed)
here_kinds id s line (Munmap m) here passed = absurd (refused_here_by (first_refusal (row_of s 0 0 (Munmap m)).refusals) _ here passed)
here_kinds id s line (Peek m off len) here passed = cc
here_kinds id s line (Hash m) here passed = cc
here_kinds id s line (Poke m off bytes) here passed = cc
here_kinds id s line (Fill m seed) here passed = cc
here_kinds id s line (Subscribe e) here passed = absurd (refused_closed s.opened _ _ here passed)
here_kinds id s line (Unsubscribe e) here passed = absurd (refused_closed s.opened _ _ here passed)
here_kinds id s line DqEvent here passed = refl

-- ---- their entries

-- The call may have this reply, which brings no address and opens nothing.
pub record IsHere (s : LocalState) (line : ℕ) (call : Call) (reply : Reply) : Type 0 where
  pub goes : IsSome (called s line call reply)
  pub address : address_in reply ≡ 0
  pub opens : opens_session (Called line call reply) ≡ false

refusal_opens : (line : ℕ) (call : Call) (e : Errno) → opens_session (Called line call (Refused e)) ≡ false
refusal_opens line (OpenHandle nonblock) e = refl
refusal_opens line call e = refl

pub refused_is_here : (s : LocalState) (line : ℕ) (call : Call) (e : Errno) → first_refusal (row_of s line 0 call).refusals ≡ Some e → IsHere s line call (Refused e)
refused_is_here s line call e refuses = record { goes = refused_goes s line call e refuses; address = refl; opens = refusal_opens line call e }

lacking_goes : (refused : Option Errno) (row : Row) (s : LocalState) → refused ≡ None → row.may_lack_memory ≡ true → IsSome (answered refused row s (Refused Enomem))
lacking_goes refused row s passed may = rw (passed, may) refl

pub lacking_is_here : (s : LocalState) (line : ℕ) (call : Call) → first_refusal (row_of s line 0 call).refusals ≡ None → (row_of s line 0 call).may_lack_memory ≡ true →
    IsHere s line call (Refused Enomem)
unfolding called
lacking_is_here s line call passed may = record {
  goes = lacking_goes (first_refusal (row_of s line 0 call).refusals) (row_of s line 0 call) s passed may;
  address = refl;
  opens = refusal_opens line call Enomem;
}

-- a reply that memory is there for
made_goes : (refused : Option Errno) (row : Row) (s : LocalState) (reply : Reply) → refused ≡ None → same_reply (Refused Enomem) reply ≡ false → row.waits ≡ false → row.reply ≡ reply →
    IsSome (answered refused row s reply)
made_goes refused row s reply passed plenty goes is =
    let same : same_reply row.reply reply ≡ true = (same_reply_decides row.reply reply).1 is in
    rw (passed, plenty, goes, same) (known row.may_lack_memory)
  where
    known : (b : Bool) → IsSome (if b && false then Some s else Some row.next)
    known true = refl
    known false = refl

pub replied_is_here : (s : LocalState) (line : ℕ) (call : Call) → is_here call ≡ true → first_refusal (row_of s line 0 call).refusals ≡ None → (row_of s line 0 call).waits ≡ false →
    IsHere s line call (row_of s line 0 call).reply
unfolding called dqbuf_row dqevent_row ualloc_row
replied_is_here s line (DqBuf t) is passed goes = record { goes = made_goes _ (row_of s line 0 (DqBuf t)) s _ passed refl goes refl; address = refl; opens = refl }
replied_is_here s line DqEvent is passed goes = record { goes = made_goes _ (row_of s line 0 DqEvent) s _ passed refl goes refl; address = refl; opens = refl }
replied_is_here s line (UAlloc u len off) is passed goes = record { goes = made_goes _ (row_of s line 0 (UAlloc u len off)) s _ passed refl goes refl; address = refl; opens = refl }
replied_is_here s line call is passed goes = absurd (false≢true is)

-- ---- a ualloc

pub ualloc_may : (s : LocalState) (line len off : ℕ) (u : List ℕ) → (row_of s line 0 (UAlloc u len off)).may_lack_memory ≡ true
unfolding ualloc_row
ualloc_may s line len off u = refl

pub ualloc_here : (s : LocalState) (line len off : ℕ) (u : List ℕ) → first_refusal (row_of s line 0 (UAlloc u len off)).refusals ≡ None →
    IsHere s line (UAlloc u len off) (row_of s line 0 (UAlloc u len off)).reply
unfolding ualloc_row
ualloc_here s line len off u passed = replied_is_here s line (UAlloc u len off) refl passed refl

-- ---- a call that is answered by its row

pub record IsRowHere (s : LocalState) (line : ℕ) (call : Call) : Type 0 where
  pub here : IsHere s line call (row_of s line 0 call).reply
  pub stays : moves_memory call ≡ false
  pub silent : tells_bytes call ≡ false

row_by_kind : (s : LocalState) (line : ℕ) (call : Call) → is_here call ≡ true → first_refusal (row_of s line 0 call).refusals ≡ None → (row_of s line 0 call).waits ≡ false →
    ((u : List ℕ) (len off : ℕ) → call ≡ UAlloc u len off → ⊥) → IsRowHere s line call
row_by_kind s line (DqBuf t) is passed goes other = record { here = replied_is_here s line (DqBuf t) refl passed goes; stays = refl; silent = refl }
row_by_kind s line DqEvent is passed goes other = record { here = replied_is_here s line DqEvent refl passed goes; stays = refl; silent = refl }
row_by_kind s line (UAlloc u len off) is passed goes other = absurd (other u len off refl)
row_by_kind s line call is passed goes other = absurd (false≢true is)

pub row_is_here : (id : ℕ) (s : LocalState) (line : ℕ) (call : Call) → way_of id s call ≡ AnsweredHere → first_refusal (row_of s line 0 call).refusals ≡ None →
    ((u : List ℕ) (len off : ℕ) → call ≡ UAlloc u len off → ⊥) → IsRowHere s line call
row_is_here id s line call here passed other =
    row_by_kind s line call (here_kinds id s line call here passed) passed (here_answered id s line 0 call here passed) other
