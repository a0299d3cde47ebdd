use Rattle.std.proofs.Common.{◌≡◌, ◌*◌, ◌≤◌, ◌-◌, ℕ, List, take, length, min, ap, sym, ◌∙◌, arith}
use Rattle.vm_frame.specs.Mem.{mem_bytes}
use Rattle.vm_lease.proofs.PartLemmas.{cut_part, filled_more, part_within, still_whole}
use Rattle.vm_lease.proofs.parts.fill.Goals as goal

pub copy_in-requires : goal.copy_in-requires
copy_in-requires c =
    let size : ℕ = c.size-size.result in
    let k : ℕ = c.loop-k.k in
    let begins : k * 4096 ≤ size = omega (arith, c.loop-k-test.true, c.div_ceil-k-end.ensures) in
    let cut : length (take c.min-len.result c.fill_part.new.part) ≡ c.min-len.result =
    cut_part c.args.seed _ c.min-len.result c.fill_part.ensures (omega (arith, c.min-len.ensures)) in
    let whole : length (mem_bytes c.loop-k.mem) ≡ size =
    still_whole c.args.seed (min (4096 * k) size) size (mem_bytes c.loop-k.mem) (mem_bytes c.args.mem.now) (sym c.size-size.ensures) (omega arith) c.loop-k.invariant.0 in
    rw whole (part_within k size c.min-len.result _ c.min-len.ensures begins cut)

pub loop-k-preserved : goal.loop-k-preserved
loop-k-preserved c =
    let size : ℕ = c.size-size.result in
    let k : ℕ = c.loop-k.k in
    let part : List ℕ = take c.min-len.result c.fill_part.new.part in
    let begins : 4096 * k ≤ size = omega (arith, c.loop-k-test.true, c.div_ceil-k-end.ensures) in
    let count : c.min-len.result ≡ min (size - 4096 * k) 4096 = omega (arith, c.min-len.ensures) in
    let written = filled_more c.args.seed k size c.min-len.result (mem_bytes c.loop-k.mem) (mem_bytes c.args.mem.now) part
    (sym c.size-size.ensures) begins count (ap (λ xs. take c.min-len.result xs) c.fill_part.ensures) c.loop-k.invariant.0 in
    (c.copy_in.ensures.bytes ∙ written, c.copy_in.ensures.rest ∙ c.loop-k.invariant.1)
