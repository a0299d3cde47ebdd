use Rattle.std.proofs.Common.{◌∙◌, None, get_or, sym, arith}
use Rattle.std.proofs.lemmas.Grind.{common_steps}
use Rattle.vm_split.proofs.OwnerLemmas.{handed_one, handed_none, handed_end, none_from, some_from}
use Rattle.vm_split.proofs.owners.hand_out.Goals as goal
use Rattle.vm_split.proofs.owners.hand_out.Goals.{then-is_none, else-is_none}

pub loop-left-preserved : goal.loop-left-preserved
loop-left-preserved c =
    let at = c.loop-left.at in
    let owner = get_or c.loop-left.owners at None in
    elim c.if-is_none.branch [
      | then-is_none w ↦
          let free = none_from owner w.if-is_none.ensures in
          let step = handed_one c.loop-left.owners _ at c.loop-left.left c.args.head c.if-at-owners.true c.loop-left-test.true free c.loop-left.invariant.owners in
          rw (w.owners-is, w.left-is) (record { within = grind (arith, common_steps); owners = step })
      | else-is_none w ↦
          let owned = some_from owner w.if-is_none.ensures in
          let step = handed_none c.loop-left.owners _ at c.loop-left.left c.args.head owned.0 c.if-at-owners.true owned.1 c.loop-left.invariant.owners in
          rw (w.owners-is, w.left-is) (record { within = grind (arith, common_steps); owners = step })
    ]

pub returns-else-at-owners : goal.returns-else-at-owners
returns-else-at-owners c =
    sym (handed_end c.loop-left.owners c.loop-left.at c.loop-left.left c.args.head c.if-at-owners.false) ∙ c.loop-left.invariant.owners
