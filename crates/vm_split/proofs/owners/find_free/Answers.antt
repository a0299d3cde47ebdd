use Rattle.std.proofs.Common.{◌<◌, None, get_or, length, ap, arith}
use Rattle.std.proofs.lemmas.Grind.{common_steps}
use Rattle.vm_split.proofs.OwnerLemmas.{found_one, found_first, found_none, none_from, owned_from}
use Rattle.vm_split.proofs.owners.find_free.Goals as goal
use Rattle.vm_split.proofs.owners.find_free.Goals.{then-is_none, else-is_none}

pub loop-found-preserved : goal.loop-found-preserved
loop-found-preserved c =
    let owners = c.args.owners.now in
    let at = c.loop-found.at in
    let owner = get_or owners at None in
    let within : at < length owners = grind (arith, common_steps) in
    let room = c.loop-found.invariant.room in
    elim c.if-is_none.branch [
      | then-is_none w ↦
          let free = none_from owner w.if-is_none.ensures in
          let step = found_one owners c.loop-found.places _ at c.loop-found.found within c.loop-found-test.true free c.loop-found.invariant.places in
          let first = ap length (found_first owners at within free) in
          rw (w.places-is, w.found-is) (record { within = omega (arith, within); size = grind (arith, common_steps); found = grind (arith, common_steps); room = grind (arith, common_steps, first); places = step })
      | else-is_none w ↦
          let same = found_none owners at within (owned_from owner w.if-is_none.ensures) in
          rw (w.places-is, w.found-is) (record { within = omega (arith, within); size = c.loop-found.invariant.size; found = c.loop-found.invariant.found; room = rw same at room; places = rw same at c.loop-found.invariant.places })
    ]
