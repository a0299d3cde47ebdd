use Rattle.std.proofs.Common.{◌%◌, ◌*◌, ◌+◌, arith}
use Rattle.std.proofs.lemmas.Grind.{common_steps}
use Rattle.vm_split.specs.Ring.{used_at, no_entry}
use Rattle.vm_split.proofs.RingLemmas.{used_get, entry_halves, place_below, size_most, used_near}
use Rattle.vm_split.proofs.ring.Ring.used_entry.Goals as goal

pub returns : goal.returns
returns c =
    let size = c.self.inside.size in
    let b = c.self.inside.page.bytes in
    let place = c.args.number % size in
    let within = place_below c.args.number size c.self.invariant.0 in
    let most = (size_most size c.self.invariant.0).1 in
    let near = used_near size in
    let get = used_get size b place no_entry within in
    let page = c.self.invariant.1 in
    let halves = entry_halves b (used_at size + 4 + 8 * place) (omega (arith, most, near, within, page)) in
    grind (arith, common_steps, get, halves)
