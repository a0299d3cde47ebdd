use Rattle.std.proofs.Common.{◌≡◌, ◌<◌, ◌∙◌, None, length, slice_get, arith}
use Rattle.std.specs.List.{list_any}
use Rattle.std.proofs.lemmas.Grind.{common_steps}
use Rattle.std.proofs.lemmas.List.{length_push}
use Rattle.std.proofs.lemmas.List.Folds.{list_any-append}
use Rattle.vm_chain.specs.Desc.{is_writable}
use Rattle.vm_chain.specs.Walk.{fault_of}
use Rattle.vm_chain.proofs.WalkLemmas.{goes_on}
use Rattle.vm_chain.proofs.table.walk.Goals as goal

pub loop-next-preserved : goal.loop-next-preserved
loop-next-preserved c =
    let before = c.loop-next.out.descs in
    let fine : None ≡ fault_of c.args.limit (length before) (list_any is_writable before) c.args.homes.now (slice_get c.args.table.now c.in-Some.at) =
    rw (← c.loop-next.invariant.writable_before, ← c.descs-visited.ensures) c.in-Ok.ensures.fault in
    let room : length before < c.args.limit = rw (← c.descs-visited.ensures) c.in-Ok.ensures.room in
    let step = goes_on c.args.table.now c.args.limit c.args.homes.now before c.in-Some.at c.in-Ok.desc c.in-Ok.ensures.ok fine room in
    record {
      walked = rw (c.push.ensures, c.following-next.ensures) (step ∙ rw c.in-Some.is at c.loop-next.invariant.walked);
      writable_before = rw c.push.ensures (grind (arith, common_steps, list_any-append is_writable before));
      room = rw (c.push.ensures, length_push) (omega arith);
      same_limit = rw c.push.ensures c.loop-next.invariant.same_limit;
    }
