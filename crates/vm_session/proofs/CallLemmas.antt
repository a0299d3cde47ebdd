-- Lemmas on the rows of calls: which of them put memories back, and what refuses them.
use Rattle.std.proofs.Common.{◌≡◌, ℕ, ◌+◌, ◌≤◌, ◌==◌, min, if◌then◌else◌, Bool, true, false, not, ◌&&◌, Result, Ok, Err, IfErr, OnOk, OnErr, List, [], ◌∷◌, ◌++◌, Some, None, refl, sym, ap, ◌∙◌, arith, nat_lt, ◌⊎◌, inl, inr, eqb-true, All, subst, lit<, length, IfOk}
use Rattle.std.proofs.lemmas.Bool.Decides.{nat_tests}
use Rattle.std.proofs.lemmas.List.{append-nil}
use Rattle.std.proofs.lemmas.List.Elements.{All-tail}
use Rattle.v4l_const.specs.declared.errno.Errno.{Errno}
use Rattle.v4l_const.specs.declared.errno.Errno.TheVariants.{Einval}
use Rattle.v4l_const.specs.declared.ioctl_code.IoctlCode.{IoctlCode}
use Rattle.v4l_const.specs.declared.ioctl_code.IoctlCode.TheVariants.{QueryCap, EnumFmt, GFmt, SFmt, ReqBufs, QueryBuf, QBuf, StreamOn, StreamOff, EnumInput, GInput, SInput, TryFmt, SubscribeEvent, UnsubscribeEvent}
use Rattle.v4l_const.specs.declared.numbers.TheConstants.{MEMORY_MMAP, MEMORY_USERPTR}
use Rattle.v4l_rules.specs.Queues.{has_type}
use Rattle.v4l_rules.specs.Refusals.{first_refusal}
use Rattle.vm_frame.specs.declared.mem.Held.{Held}
use Rattle.vm_frame.specs.declared.mem.Mem.{Mem}
use Rattle.vm_frame.specs.declared.mem.Mem.TheVariants.{OfFrame, OfUser}
use Rattle.vm_wire.specs.Wire.{number_at}
use Rattle.vm_session.specs.State.{SessionState}
use Rattle.vm_session.specs.Buffers.{memory_kind}
use Rattle.vm_session.specs.Rows.{IoctlRow, IoctlAnswer, ioctl_row, moves_memories, held_after, stops, refused_or, or_no_memory, Refuses, MayRefuse, querycap_row, enumfmt_row, gfmt_row, tryfmt_row, sfmt_row, enuminput_row, ginput_row, sinput_row, reqbufs_row, querybuf_row, qbuf_row, streamon_row, streamoff_row, subscribe_row, unsubscribe_row}

-- what is refused with memory and without may be refused
pub may_refuse : (r : IoctlRow) (e : Errno) → Refuses r e → MayRefuse r e
may_refuse r e is =
    let answer : IoctlAnswer = record { payload = r.payload; back = r.back; next = r.next } in
    (true, ap (λ o. refused_or (or_no_memory o (r.may_lack_memory && not true)) answer) is)

pub may_be_refused : (r : IoctlRow) (result : Result (List ℕ) Errno) → IfErr result (λ e. Refuses r e) → IfErr result (λ e. MayRefuse r e)
may_be_refused r (Ok x) refused = tt
may_be_refused r (Err e) refused = may_refuse r e refused

-- a call that has nothing to do with memories looks at none
pub looks_at_none : (s : SessionState) (code : IoctlCode) (p : List ℕ) (held : List Held) → moves_memories code ≡ false → ioctl_row s code p held ≡ ioctl_row s code p []
looks_at_none s QueryCap p held alone = refl
looks_at_none s EnumFmt p held alone = refl
looks_at_none s GFmt p held alone = refl
looks_at_none s SFmt p held alone = refl
looks_at_none s ReqBufs p held alone = refl
looks_at_none s QueryBuf p held alone = refl
looks_at_none s QBuf p held alone = cc
looks_at_none s StreamOn p held alone = refl
looks_at_none s StreamOff p held alone = refl
looks_at_none s EnumInput p held alone = refl
looks_at_none s GInput p held alone = refl
looks_at_none s SInput p held alone = refl
looks_at_none s TryFmt p held alone = refl
looks_at_none s SubscribeEvent p held alone = refl
looks_at_none s UnsubscribeEvent p held alone = refl

-- what is held stays
still_held : (s : SessionState) (code : IoctlCode) (p : List ℕ) (held : List Held) → moves_memories code ≡ false → held ≡ held_after code held (ioctl_row s code p held).back
unfolding querycap_row enumfmt_row gfmt_row tryfmt_row sfmt_row enuminput_row ginput_row sinput_row querybuf_row streamon_row subscribe_row unsubscribe_row
still_held s QueryCap p held alone = sym (append-nil held)
still_held s EnumFmt p held alone = sym (append-nil held)
still_held s GFmt p held alone = sym (append-nil held)
still_held s SFmt p held alone = sym (append-nil held)
still_held s ReqBufs p held alone = cc
still_held s QueryBuf p held alone = sym (append-nil held)
still_held s QBuf p held alone = cc
still_held s StreamOn p held alone = sym (append-nil held)
still_held s StreamOff p held alone = cc
still_held s EnumInput p held alone = sym (append-nil held)
still_held s GInput p held alone = sym (append-nil held)
still_held s SInput p held alone = sym (append-nil held)
still_held s TryFmt p held alone = sym (append-nil held)
still_held s SubscribeEvent p held alone = sym (append-nil held)
still_held s UnsubscribeEvent p held alone = sym (append-nil held)

pub none_behind : (s : SessionState) (code : IoctlCode) (p : List ℕ) (held : List Held) (result : Result (List ℕ) Errno) → moves_memories code ≡ false
    → OnOk result (held ≡ held_after code held (ioctl_row s code p held).back)
none_behind s code p held (Ok x) alone = still_held s code p held alone
none_behind s code p held (Err e) alone = tt

pub same_held : (held : List Held) (result : Result (List ℕ) Errno) → OnErr result (held ≡ held)
same_held held (Ok x) = tt
same_held held (Err e) = refl

-- ---- how many frames a call makes

count_most : (b : Bool) (n : ℕ) → (if b then min n 32 else 0) ≤ 32
count_most true n = omega arith
count_most false n = omega arith

pub made_most : (s : SessionState) (code : IoctlCode) (p : List ℕ) (held : List Held) → (ioctl_row s code p held).next.made ≤ s.made + 32
unfolding querycap_row enumfmt_row gfmt_row tryfmt_row sfmt_row enuminput_row ginput_row sinput_row reqbufs_row querybuf_row qbuf_row streamon_row streamoff_row subscribe_row unsubscribe_row
made_most s QueryCap p held = omega arith
made_most s EnumFmt p held = omega arith
made_most s GFmt p held = omega arith
made_most s SFmt p held = omega arith
made_most s ReqBufs p held = let most = count_most (number_at 8 p == MEMORY_MMAP) (number_at 0 p) in omega (arith, most)
made_most s QueryBuf p held = omega arith
made_most s QBuf p held = omega arith
made_most s StreamOn p held = omega arith
made_most s StreamOff p held = omega arith
made_most s EnumInput p held = omega arith
made_most s GInput p held = omega arith
made_most s SInput p held = omega arith
made_most s TryFmt p held = omega arith
made_most s SubscribeEvent p held = omega arith
made_most s UnsubscribeEvent p held = omega arith

-- ---- what refuses a buffer

-- its refusals are all of one errno: it is refused by some of the tests, or by none
pub qbuf_refusal : (type index home kind short more : Bool)
    → first_refusal ((not type, Einval) ∷ (not index, Einval) ∷ (not home, Einval) ∷ (not kind, Einval) ∷ (short, Einval) ∷ (more, Einval) ∷ [])
    ≡ (if type && ((index && (home && (kind && not short))) && not more) then None else Some Einval)
qbuf_refusal false index home kind short more = refl
qbuf_refusal true false home kind short more = refl
qbuf_refusal true true false kind short more = refl
qbuf_refusal true true true false short more = refl
qbuf_refusal true true true true true more = refl
qbuf_refusal true true true true false true = refl
qbuf_refusal true true true true false false = refl

-- what holds of a buffer that isn't refused
pub qbuf_passes : (type index home kind short more : Bool)
    → first_refusal ((not type, Einval) ∷ (not index, Einval) ∷ (not home, Einval) ∷ (not kind, Einval) ∷ (short, Einval) ∷ (more, Einval) ∷ []) ≡ None
    → (index ≡ true) × (home ≡ true) × (kind ≡ true) × (short ≡ false)
qbuf_passes false index home kind short more none = cc
qbuf_passes true false home kind short more none = cc
qbuf_passes true true false kind short more none = cc
qbuf_passes true true true false short more none = cc
qbuf_passes true true true true true more none = cc
qbuf_passes true true true true false more none = (refl, refl, refl, refl)

-- the memory that comes along is one that the queue can have: a frame, or a user's into which a picture goes
pub mem_fits : (mem : Mem) (memory kind length size : ℕ) → memory_kind mem ≡ memory → (memory == kind) ≡ true → (memory == MEMORY_USERPTR && nat_lt length size) ≡ false
    → (kind ≡ MEMORY_MMAP) ⊎ (size ≤ length)
mem_fits (OfFrame f) memory kind length size is same short = inl (sym (eqb-true memory kind same) ∙ sym is)
mem_fits (OfUser u) memory kind length size is same short = inr (grind (arith, nat_tests, is, short))

-- what holds of each memory holds of the one that is taken
pub taken_too : (P : Held → Type 0) (held rest : List Held) (m : Held) → All P held → held ≡ rest ++ m ∷ [] → P m
taken_too P held rest m all is =
    last rest (subst (All P) is all)
  where
    last : (rest : List Held) → All P (rest ++ m ∷ []) → P m
    last [] all = all 0 m (lit< tt)
    last (r ∷ rest) all = last rest (All-tail P r (rest ++ m ∷ []) all)

-- ---- the calls one by one

-- an answer of one size has the other where the two are one
pub sized_as_asked : (result : Result (List ℕ) Errno) (n m : ℕ) → n ≡ m → IfOk result (λ payload. length payload ≡ n) → IfOk result (λ payload. length payload ≡ m)
sized_as_asked result n m same sized = subst (λ k. IfOk result (λ payload. length payload ≡ k)) same sized

-- a STREAMOFF of a type that there is stops
pub streamoff_stops : (s : SessionState) (p : List ℕ) (t : ℕ) → t ≡ number_at 0 p → has_type s.model t ≡ true → stops s StreamOff p ≡ true
unfolding streamoff_row
streamoff_stops s p t is typed =
    let there : has_type s.model (number_at 0 p) ≡ true = ap (λ u. has_type s.model u) (sym is) ∙ typed in
    rw there refl
