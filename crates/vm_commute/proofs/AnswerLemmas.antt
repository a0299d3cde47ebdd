-- A call that crosses has the same refusal, or else the same reply, before a step of the device and after it.
use Rattle.std.proofs.Common.{◌≡◌, ℕ, Bool, true, false, not, ◌&&◌, nat_lt, List, [], ◌∷◌, ◌++◌, length, Option, Some, None, refl, sym, ap, ◌∙◌, if◌then◌else◌}
use Rattle.std.specs.Prelude.{is_some}
use Rattle.v4l_const.specs.declared.errno.Errno.{Errno}
use Rattle.v4l_const.specs.declared.errno.Errno.TheVariants.{Efault, Einval}
use Rattle.v4l_format.specs.Fmt.{picture_size}
use Rattle.v4l_rules.specs.Formats.{is_source}
use Rattle.v4l_rules.specs.Refusals.{first_refusal, no_type}
use Rattle.vm_local.specs.declared.bound.Bound.{Bound}
use Rattle.vm_local.specs.declared.buffer.Buffer.{Buffer}
use Rattle.vm_local.specs.declared.call.Call.{Call}
use Rattle.vm_local.specs.declared.call.Call.TheVariants.{QBuf}
use Rattle.vm_local.specs.declared.entry.Entry.{Entry}
use Rattle.vm_local.specs.State.{QueueState, LocalState, queue_of, buffer_of}
use Rattle.vm_local.specs.Kinds.{is_idle}
use Rattle.vm_local.specs.Memory.{named, named_in, memory_of}
use Rattle.vm_local.specs.Queue.{is_user_ptr, brought, length_from}
use Rattle.vm_local.specs.Calls.{row_of, not_open, no_index, names_no_user, brings_used, qbuf_row}
use Rattle.vm_local.specs.Log.{after}
use Rattle.vm_commute.specs.Commute.{is_step, may_cross, without_flags}
use Rattle.vm_commute.proofs.OutlineLemmas.{drawn, outline, queue_drawn, buffer_drawn, is_qbuf, same_refusals, qbuf_tests, qbuf_refusals, qbuf_drawn, same_replies}
use Rattle.vm_commute.proofs.ReachedLemmas.{Reached}
use Rattle.vm_commute.proofs.KeptLemmas.{outline_kept, bytes_kept}

-- ---- a qbuf

-- the buffer of an index has the same length and memory, and is Idle before where it is after
pub buffer_kept : (s u : LocalState) (t i : ℕ) → outline u ≡ outline s → drawn (buffer_of (queue_of u t) i) ≡ drawn (buffer_of (queue_of s t) i)
buffer_kept s u t i same =
    sym (buffer_drawn (queue_of u t) i) ∙ (ap (λ q. buffer_of q i) (sym (queue_drawn u t)) ∙
    (ap (λ (x : LocalState). buffer_of (queue_of x t) i) same ∙ (ap (λ q. buffer_of q i) (queue_drawn s t) ∙ buffer_drawn (queue_of s t) i)))

-- the length that the buffer would have is the same, unless the memory is used by a buffer that isn't Idle
pub length_kept : (s u : LocalState) (e : Entry) (t i : ℕ) (user : Option (List ℕ)) → is_step e ≡ true → Reached s → after s e ≡ Some u →
    brings_used s (brought s user) ≡ false →
    length_from u (brought u user) (buffer_of (queue_of u t) i) ≡ length_from s (brought s user) (buffer_of (queue_of s t) i)
length_kept s u e t i None step reached leads free =
    ap (λ (b : Buffer). b.length) (buffer_kept s u t i (outline_kept s u e step reached leads))
length_kept s u e t i (Some v) step reached leads free =
    let bound : u.bound ≡ s.bound = ap (λ (x : LocalState). x.bound) (outline_kept s u e step reached leads) in
    let m : ℕ = memory_of (named s v) in
    let L : List Bound → ℕ = λ xs. length_from u (Some (memory_of (named_in xs v))) (buffer_of (queue_of u t) i) in
    ap L bound ∙ ap (λ (bytes : List ℕ). length bytes) (bytes_kept s u e m step reached leads free)

-- tests of which one applies, all with one error
einval_then : (a c : Bool) → first_refusal ((a, Einval) ∷ (true, Einval) ∷ (c, Einval) ∷ []) ≡ Some Einval
einval_then true c = refl
einval_then false c = refl

either_first : (rs xs ys : List (Bool × Errno)) → first_refusal xs ≡ first_refusal ys → first_refusal (rs ++ xs) ≡ first_refusal (rs ++ ys)
either_first [] xs ys h = h
either_first (r ∷ rs) xs ys h = ap (λ o. if r.0 then Some r.1 else o) (either_first rs xs ys h)

-- a memory that is used makes the length tell nothing
used_anyway : (s : LocalState) (t i : ℕ) (user : Option (List ℕ)) (used x y : ℕ) → brings_used s (brought s user) ≡ true →
    first_refusal (qbuf_tests s t i user used x) ≡ first_refusal (qbuf_tests s t i user used y)
used_anyway s t i user used x y uses =
    let q : QueueState = queue_of s t in
    let rest : ℕ → List (Bool × Errno) = λ n.
    (is_some user && nat_lt n (picture_size q.format), Einval) ∷ (brings_used s (brought s user), Einval) ∷ (is_source s.model t && nat_lt n used, Einval) ∷ [] in
    let one : (n : ℕ) → first_refusal (rest n) ≡ Some Einval = λ n.
    ap (λ b. first_refusal ((is_some user && nat_lt n (picture_size q.format), Einval) ∷ (b, Einval) ∷ (is_source s.model t && nat_lt n used, Einval) ∷ [])) uses ∙
    einval_then (is_some user && nat_lt n (picture_size q.format)) (is_source s.model t && nat_lt n used) in
    either_first (
    not_open s ∷
    no_type s.model t ∷
    no_index s t i ∷
    (not (is_idle (buffer_of q i).state), Einval) ∷
    (is_some user && not (is_user_ptr q.memory), Einval) ∷
    (not (is_some user) && is_user_ptr q.memory, Einval) ∷
    (names_no_user s user, Efault) ∷ []) (rest x) (rest y) (one x ∙ sym (one y))

qbuf_after : (s u : LocalState) (e : Entry) (t i : ℕ) (user : Option (List ℕ)) (used ts : ℕ) → is_step e ≡ true → Reached s → after s e ≡ Some u →
    first_refusal (qbuf_row u t i user used ts).refusals ≡ first_refusal (qbuf_row s t i user used ts).refusals
qbuf_after s u e t i user used ts step reached leads =
    let tests : LocalState → ℕ → Option Errno = λ x n. first_refusal (qbuf_tests x t i user used n) in
    let long : LocalState → ℕ = λ x. length_from x (brought x user) (buffer_of (queue_of x t) i) in
    let here : first_refusal (qbuf_row s t i user used ts).refusals ≡ tests s (long s) = ap first_refusal (qbuf_refusals s t i user used ts) in
    let there : first_refusal (qbuf_row u t i user used ts).refusals ≡ tests u (long u) = ap first_refusal (qbuf_refusals u t i user used ts) in
    let moved : tests u (long u) ≡ tests s (long u) =
    ap first_refusal (sym (qbuf_drawn u t i user used (long u)) ∙ (ap (λ (x : LocalState). qbuf_tests x t i user used (long u)) (outline_kept s u e step reached leads) ∙
    qbuf_drawn s t i user used (long u))) in
    let same : tests s (long u) ≡ tests s (long s) =
    elim (brings_used s (brought s user)) as (λ b. brings_used s (brought s user) ≡ b → tests s (long u) ≡ tests s (long s)) [
      | true ↦ λ is. used_anyway s t i user used (long u) (long s) is
      | false ↦ λ is. ap (λ n. tests s n) (length_kept s u e t i user step reached leads is)
    ] refl in
    there ∙ (moved ∙ (same ∙ sym here))

-- ---- all calls

-- a call but qbuf is refused by what the outline tells
other_after : (s u : LocalState) (line addr : ℕ) (call : Call) → may_cross call ≡ true → is_qbuf call ≡ false → outline u ≡ outline s →
    first_refusal (row_of u line addr call).refusals ≡ first_refusal (row_of s line addr call).refusals
other_after s u line addr call may other same =
    ap first_refusal (sym (same_refusals u line addr call may other) ∙ (ap (λ (x : LocalState). (row_of x line addr call).refusals) same ∙
    same_refusals s line addr call may other))

pub refusal_after : (s u : LocalState) (e : Entry) (line addr : ℕ) (call : Call) → may_cross call ≡ true → is_step e ≡ true → Reached s → after s e ≡ Some u →
    first_refusal (row_of u line addr call).refusals ≡ first_refusal (row_of s line addr call).refusals
refusal_after s u e line addr (QBuf t i user used ts) may step reached leads = qbuf_after s u e t i user used ts step reached leads
refusal_after s u e line addr call may step reached leads = other_after s u line addr call may refl (outline_kept s u e step reached leads)

pub reply_after : (s u : LocalState) (e : Entry) (line addr : ℕ) (call : Call) → may_cross call ≡ true → is_step e ≡ true → Reached s → after s e ≡ Some u →
    without_flags (row_of u line addr call).reply ≡ without_flags (row_of s line addr call).reply
reply_after s u e line addr call may step reached leads =
    sym (same_replies u line addr call may) ∙ (ap (λ (x : LocalState). without_flags (row_of x line addr call).reply) (outline_kept s u e step reached leads) ∙
    same_replies s line addr call may)
