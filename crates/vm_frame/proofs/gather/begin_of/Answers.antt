use Rattle.std.proofs.Common.{arith}
use Rattle.vm_frame.proofs.ScatterLemmas.{front_fits}
use Rattle.vm_frame.proofs.gather.begin_of.Goals as goal

pub sum_of_lens-requires : goal.sum_of_lens-requires
sum_of_lens-requires c =
    let front = front_fits c.args.entries.now c.args.pages.now c.min-near.result c.requires in
    let few = c.requires.few_entries in
    omega arith

pub overflow_sub-ahead : goal.overflow_sub-ahead
overflow_sub-ahead c =
    let front = front_fits c.args.entries.now c.args.pages.now c.min-near.result c.requires in
    omega (arith, c.sum_of_lens.ensures)

pub entries-init : goal.entries-init
entries-init c =
    let front = front_fits c.args.entries.now c.args.pages.now c.min-near.result c.requires in
    record { before = omega (arith, c.sum_of_lens.ensures) }
