use Rattle.std.proofs.Common.{◌<◌, ◌≤◌, ◌∙◌, sym, ⊎_elim, arith}
use Rattle.std.proofs.lemmas.Bool.{cases_lt}
use Rattle.vm_region.proofs.FitLemmas.{free_there, blocks}
use Rattle.vm_region.proofs.fit.first_fit.Goals as goal

pub places-preserved : goal.places-preserved
places-preserved c =
    let block = blocks c.places.addr c.args.pages c.in-Some.end c.args.ranges.now c.requires.orderly (sym c.blocking_end.ensures ∙ c.in-Some.is) in
    record {
      page = block.page;
      within = block.top;
      least = λ lower below. ⊎_elim
          (λ (first : lower < c.places.addr). c.places.invariant.least lower first)
          (λ (later : c.places.addr ≤ lower). block.blocked lower later below)
          (cases_lt lower c.places.addr);
    }

pub places-smaller : goal.places-smaller
places-smaller c =
    let block = blocks c.places.addr c.args.pages c.in-Some.end c.args.ranges.now c.requires.orderly (sym c.blocking_end.ensures ∙ c.in-Some.is) in
    let later = block.later in
    let top = block.top in
    omega (arith, later, top)

pub returns : goal.returns
returns c =
    let here = c.places.invariant.within in
    let all = c.requires.within in
    let few = c.requires.small in
    record {
      least = record {
        page = c.places.invariant.page;
        inside = omega (arith, here, all, few);
        free = free_there c.places.addr c.args.pages c.args.ranges.now (sym c.blocking_end.ensures ∙ c.in_default.is);
        least = c.places.invariant.least;
      };
      within = c.places.invariant.within;
    }
