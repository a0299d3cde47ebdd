-- Calls on a buffer that aren't refused are on one that a queue may have.
use Rattle.std.proofs.Common.{◌≡◌, ◌<◌, ℕ, Bool, true, false, not, nat_lt, List, [], ◌∷◌, length, Option, Some, None, refl, if◌then◌else◌, arith}
use Rattle.std.proofs.lemmas.Bool.Decides.{nat_tests}
use Rattle.v4l_const.specs.Model.{queues as types_of}
use Rattle.v4l_const.specs.declared.errno.Errno.{Errno}
use Rattle.v4l_rules.specs.Queues.{place_in}
use Rattle.v4l_rules.specs.Refusals.{first_refusal}
use Rattle.vm_local.specs.declared.call.Call.TheVariants.{QueryBuf, QBuf, Mmap}
use Rattle.vm_local.specs.State.{LocalState, queue_of}
use Rattle.vm_local.specs.Calls.{row_of, querybuf_row, qbuf_row, mmap_row}
use Rattle.vm_exchange.specs.Range.{IsInRange}

-- the test of the third refusal
abbrev third_test : List (Bool × Errno) → Bool
third_test (x ∷ y ∷ z ∷ rest) = z.0
third_test refusals = false

third_passed : (refusals : List (Bool × Errno)) → first_refusal refusals ≡ None → third_test refusals ≡ false
third_passed [] passed = refl
third_passed (x ∷ []) passed = refl
third_passed (x ∷ y ∷ []) passed = refl
third_passed (x ∷ y ∷ z ∷ rest) passed = known x.0 y.0 z.0 passed
  where
    known : (a b c : Bool) → (if a then Some x.1 else (if b then Some y.1 else (if c then Some z.1 else first_refusal rest))) ≡ None → c ≡ false
    known true b c passed = cc
    known false true c passed = cc
    known false false true passed = cc
    known false false false passed = refl

few_below : (s : LocalState) (t i : ℕ) → IsInRange s → not (nat_lt i (length (queue_of s t).buffers)) ≡ false → i < 32
few_below s t i range there =
    let few = (range.queues (place_in (types_of s.model) t)).few in
    grind (arith, nat_tests)

pub told_index : (s : LocalState) (line addr t i : ℕ) → IsInRange s → first_refusal (row_of s line addr (QueryBuf t i)).refusals ≡ None → i < 32
unfolding querybuf_row
told_index s line addr t i range passed =
    few_below s t i range (third_passed (row_of s line addr (QueryBuf t i)).refusals passed)

pub queued_index : (s : LocalState) (line addr t i used ts : ℕ) (user : Option (List ℕ)) → IsInRange s →
    first_refusal (row_of s line addr (QBuf t i user used ts)).refusals ≡ None → i < 32
unfolding qbuf_row
queued_index s line addr t i used ts user range passed =
    few_below s t i range (third_passed (row_of s line addr (QBuf t i user used ts)).refusals passed)

pub mapped_index : (s : LocalState) (line addr : ℕ) (m : List ℕ) (t i : ℕ) (ro : Bool) → IsInRange s →
    first_refusal (row_of s line addr (Mmap m t i ro)).refusals ≡ None → i < 32
unfolding mmap_row
mapped_index s line addr m t i ro range passed =
    few_below s t i range (third_passed (row_of s line addr (Mmap m t i ro)).refusals passed)
