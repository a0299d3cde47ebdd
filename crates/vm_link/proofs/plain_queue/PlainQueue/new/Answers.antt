use Rattle.std.proofs.Common.{◌^◌, ◌<◌, arith}
use Rattle.vm_link.proofs.SoundLemmas.{empty_sound}
use Rattle.vm_link.proofs.plain_queue.PlainQueue.new.Goals as goal

pub invariant_of-result : goal.invariant_of-result
invariant_of-result c =
    let small : c.args.size < 2 ^ 16 = omega (arith, c.ranges.size.fits) in
    let sound = empty_sound c.args.size c.in_ok-free_heads.free_heads.items small c.in_ok-free_heads.ensures.0 in
    let room = c.from-room.ensures in (
      rw (c.in_ok-with_capacity.ensures.items, c.in_ok-with_capacity-2.ensures.items, c.in_ok-with_capacity-3.ensures.items) sound,
      record {
        free = c.in_ok-free_heads.ensures.1;
        waiting = let capacity = c.in_ok-with_capacity.ensures.capacity in omega (arith, room, capacity);
        out = let capacity = c.in_ok-with_capacity-2.ensures.capacity in omega (arith, room, capacity);
        done = let capacity = c.in_ok-with_capacity-3.ensures.capacity in omega (arith, room, capacity);
      },
    )
