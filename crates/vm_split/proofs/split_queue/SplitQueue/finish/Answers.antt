use Rattle.std.proofs.Common.{◌≤◌, List, set, Option, Some, refl, ap, sym, ◌∙◌, subst, vec_capacity, arith}
use Rattle.std.proofs.lemmas.Grind.{common_steps}
use Rattle.vm_link.specs.declared.parcel.Parcel.{Parcel}
use Rattle.vm_link.specs.Queue.{Queue, finished}
use Rattle.vm_split.specs.Kept.{Kept, queue_of, IsSound}
use Rattle.vm_split.specs.Ring.{given_back}
use Rattle.vm_split.specs.Stands.{SplitState}
use Rattle.vm_split.proofs.KeptLemmas.{kept_same, is_out, out_within, with_finished, finished_sound, finished_queue, all_written}
use Rattle.vm_split.proofs.split_queue.SplitQueue.finish.Goals as goal

pub put_parcel-requires : goal.put_parcel-requires
put_parcel-requires c =
    let k : Kept = record { size = c.self.inside.ring.size; contents = c.self.inside.ring.contents; taken = c.self.inside.taken; collected = c.self.inside.collected; owners = c.self.inside.owners.items; parcels = c.self.inside.parcels.items; out = c.self.inside.out.items } in
    let queue = ap (λ (s : SplitState). s.queue) c.self.view_is in
    let there = is_out k c.args.self.now.queue c.args.done.head queue c.requires in
    let within = out_within k c.args.done.head c.self.invariant.0 there in
    let size = c.self.invariant.0.parcels in
    rw c.as_mut_slice.ensures.value (omega (arith, within, size))

pub invariant_of-self : goal.invariant_of-self
invariant_of-self c =
    let k : Kept = record { size = c.self.inside.ring.size; contents = c.self.inside.ring.contents; taken = c.self.inside.taken; collected = c.self.inside.collected; owners = c.self.inside.owners.items; parcels = c.self.inside.parcels.items; out = c.self.inside.out.items } in
    let queue = ap (λ (s : SplitState). s.queue) c.self.view_is in
    let sound = c.self.invariant.0 in
    let there = is_out k c.args.self.now.queue c.args.done.head queue c.requires in
    let room = c.self.invariant.1 in
    let capacity = c.remove.ensures.capacity in
    let size = c.give_back.ensures.size in
    let fits : c.give_back.new.self.size ≤ vec_capacity c.remove.new.heads = omega (arith, room, capacity, size) in
    let parcels = all_written c.self.inside.parcels.len k.parcels c.put_parcel.new.parcels (set k.parcels c.args.done.head (Some c.args.done.parcel)) (grind (arith, common_steps)) (grind (arith, common_steps))
    (c.put_parcel.ensures ∙ ap (λ (ps : List (Option Parcel)). set ps c.args.done.head (Some c.args.done.parcel)) c.as_mut_slice.ensures.value) in
    let contents = c.give_back.ensures.contents ∙ ap (λ n. given_back k.size (record { id = n; len = c.args.done.used }) k.contents) c.from.ensures in
    let same = kept_same _ (with_finished k c.args.done) c.give_back.ensures.size contents refl refl refl parcels c.remove.ensures.list in
    (subst (λ (k : Kept). IsSound k) (sym same) (finished_sound k c.args.done sound there), fits)

pub returns-clause-queue : goal.returns-clause-queue
returns-clause-queue c =
    let k : Kept = record { size = c.self.inside.ring.size; contents = c.self.inside.ring.contents; taken = c.self.inside.taken; collected = c.self.inside.collected; owners = c.self.inside.owners.items; parcels = c.self.inside.parcels.items; out = c.self.inside.out.items } in
    let queue = ap (λ (s : SplitState). s.queue) c.self.view_is in
    let sound = c.self.invariant.0 in
    let there = is_out k c.args.self.now.queue c.args.done.head queue c.requires in
    let parcels = all_written c.self.inside.parcels.len k.parcels c.put_parcel.new.parcels (set k.parcels c.args.done.head (Some c.args.done.parcel)) (grind (arith, common_steps)) (grind (arith, common_steps))
    (c.put_parcel.ensures ∙ ap (λ (ps : List (Option Parcel)). set ps c.args.done.head (Some c.args.done.parcel)) c.as_mut_slice.ensures.value) in
    let contents = c.give_back.ensures.contents ∙ ap (λ n. given_back k.size (record { id = n; len = c.args.done.used }) k.contents) c.from.ensures in
    let same = kept_same _ (with_finished k c.args.done) c.give_back.ensures.size contents refl refl refl parcels c.remove.ensures.list in
    ap (λ (k : Kept). queue_of k) same ∙ (finished_queue k c.args.done sound there ∙ ap (λ (q : Queue). finished q c.args.done) queue)
