use Rattle.std.proofs.Common.{◌≡◌, ◌==◌, ◌/◌, Bool, true, false, not, is_some, length, sum_by, refl, arith}
use Rattle.std.specs.Prelude.{nat_le}
use Rattle.std.proofs.lemmas.Bool.Decides.{nat_tests}
use Rattle.std.proofs.lemmas.List.FromFn.{length-map-range_with_len}
use Rattle.v4l_const.specs.declared.numbers.TheConstants.{MEMORY_USERPTR}
use Rattle.vm_frame.specs.Scatter.{scatter_fault}
use Rattle.vm_sg.specs.Wire.{entry_at, entries_in}
use Rattle.vm_device.proofs.BroughtLemmas.{not_first, not_second, not_fourth, all_four}
use Rattle.vm_device.proofs.brought.load_user.Goals as goal
use Rattle.vm_device.proofs.brought.load_user.Goals.{then-asked-ne-MEMORY_USERPTR-via-then-asked-ne-MEMORY_USERPTR, then-asked-ne-MEMORY_USERPTR-via-else-asked-ne-MEMORY_USERPTR+then-behind-gt-MAX_ENTRIES, then-asked-ne-MEMORY_USERPTR-via-else-asked-ne-MEMORY_USERPTR+else-behind-gt-MAX_ENTRIES+then-total_in-from}

pub returns-then-asked-ne-MEMORY_USERPTR-clause-err : goal.returns-then-asked-ne-MEMORY_USERPTR-clause-err
returns-then-asked-ne-MEMORY_USERPTR-clause-err c =
    let wire = c.args.behind.now in
    let kind : Bool = c.args.asked.now.memory == MEMORY_USERPTR in
    let few : Bool = nat_le (length (entries_in wire)) 249 in
    let fine : Bool = not (is_some (scatter_fault (entries_in wire) c.args.user.now.pages)) in
    let whole : Bool = sum_by (λ e. e.len) (entries_in wire) == c.args.asked.now.length in
    let count : length (entries_in wire) ≡ length wire / 16 = length-map-range_with_len (entry_at wire) 0 (length wire / 16) in
    elim c.then-asked-ne-MEMORY_USERPTR.branch [
      | then-asked-ne-MEMORY_USERPTR-via-then-asked-ne-MEMORY_USERPTR w ↦
          let other : kind ≡ false = grind (arith, nat_tests, w.if-asked-ne-MEMORY_USERPTR.true) in
          not_first kind few fine whole other
      | then-asked-ne-MEMORY_USERPTR-via-else-asked-ne-MEMORY_USERPTR+then-behind-gt-MAX_ENTRIES w ↦
          let many : few ≡ false = rw count (grind (arith, nat_tests, w.if-behind-gt-MAX_ENTRIES.true)) in
          not_second kind few fine whole many
      | then-asked-ne-MEMORY_USERPTR-via-else-asked-ne-MEMORY_USERPTR+else-behind-gt-MAX_ENTRIES+then-total_in-from w ↦
          let other : whole ≡ false = grind (arith, nat_tests, w.if-total_in-from.true, w.total_in.ensures, w.from.ensures) in
          not_fourth kind few fine whole other
    ]

pub returns-in-Ok-clause-ok : goal.returns-in-Ok-clause-ok
returns-in-Ok-clause-ok c =
    let wire = c.args.behind.now in
    let count : length (entries_in wire) ≡ length wire / 16 = length-map-range_with_len (entry_at wire) 0 (length wire / 16) in
    let kind : (c.args.asked.now.memory == MEMORY_USERPTR) ≡ true = grind (arith, nat_tests, c.if-asked-ne-MEMORY_USERPTR.false) in
    let few : nat_le (length (entries_in wire)) 249 ≡ true = rw count (grind (arith, nat_tests, c.if-behind-gt-MAX_ENTRIES.false)) in
    let fine : not (is_some (scatter_fault (entries_in wire) c.args.user.now.pages)) ≡ true = rw c.in-Ok.ensures.ok refl in
    let whole : (sum_by (λ e. e.len) (entries_in wire) == c.args.asked.now.length) ≡ true = grind (arith, nat_tests, c.if-total_in-from.false, c.total_in.ensures, c.from.ensures) in
    all_four _ _ _ _ kind few fine whole
