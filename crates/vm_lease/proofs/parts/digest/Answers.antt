use Rattle.std.proofs.Common.{◌≡◌, ◌+◌, ◌≤◌, List, ℕ, take, length, arith}
use Rattle.vm_frame.specs.Mem.{mem_bytes}
use Rattle.vm_lease.proofs.PartLemmas.{hashed_more, cut_long}
use Rattle.vm_lease.proofs.parts.digest.Goals as goal

pub loop-at-preserved : goal.loop-at-preserved
loop-at-preserved c =
    let n : ℕ = c.min-len.result in
    let all : List ℕ = mem_bytes c.args.mem.now in
    let within : c.loop-at.at + n ≤ c.size-size.result = omega (arith, c.min-len.ensures, c.loop-at-test.true) in
    let part : length (take n c.loop-at.part) ≡ n = cut_long c.loop-at.part n (omega (arith, c.min-len.ensures, c.min-len.array_long)) in
    let step = c.update.ensures (take c.loop-at.at all) c.loop-at.invariant.1 in
    (within, rw (c.copy_out.ensures, part, hashed_more all c.loop-at.at n) at step)
