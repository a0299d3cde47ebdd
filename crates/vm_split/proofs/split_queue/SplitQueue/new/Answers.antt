use Rattle.std.proofs.Common.{◌≡◌, ◌∙◌, replicate, refl, ap, sym, subst, arith}
use Rattle.vm_split.specs.Kept.{Kept, queue_of, IsSound}
use Rattle.vm_split.specs.Ring.{RingState, contents_of}
use Rattle.vm_split.proofs.KeptLemmas.{kept_same}
use Rattle.vm_split.proofs.StandsLemmas.{new_kept, new_sound, new_queue}
use Rattle.vm_split.proofs.split_queue.SplitQueue.new.Goals as goal

pub invariant_of-result : goal.invariant_of-result
invariant_of-result c =
    let ring = c.in_ok-ring.ensures in
    let size : c.in_ok-ring.ring.size ≡ c.args.size = ap (λ (r : RingState). r.size) ring in
    let contents : c.in_ok-ring.ring.contents ≡ contents_of c.args.size (replicate 4096 0) = ap (λ (r : RingState). r.contents) ring in
    let same = kept_same _ (new_kept c.args.size c.in_ok-ring.ring.contents) size refl refl refl c.in_ok-owners.ensures c.in_ok-parcels.ensures c.in_ok-out.ensures.items in
    let room = c.from.ensures in
    let capacity = c.in_ok-out.ensures.capacity in
    (subst (λ (k : Kept). IsSound k) (sym same) (new_sound c.args.size c.in_ok-ring.ring.contents c.requires contents), omega (arith, size, room, capacity))

pub returns : goal.returns
returns c =
    let ring = c.in_ok-ring.ensures in
    let size : c.in_ok-ring.ring.size ≡ c.args.size = ap (λ (r : RingState). r.size) ring in
    let bytes : c.in_ok-ring.ring.bytes ≡ replicate 4096 0 = ap (λ (r : RingState). r.bytes) ring in
    let contents : c.in_ok-ring.ring.contents ≡ contents_of c.args.size (replicate 4096 0) = ap (λ (r : RingState). r.contents) ring in
    let same = kept_same _ (new_kept c.args.size c.in_ok-ring.ring.contents) size refl refl refl c.in_ok-owners.ensures c.in_ok-parcels.ensures c.in_ok-out.ensures.items in
    let queue = ap (λ (k : Kept). queue_of k) same ∙ new_queue c.args.size c.in_ok-ring.ring.contents c.requires contents in
    rw (queue, bytes, c.in_ok-owners.ensures) refl
