use Rattle.std.proofs.Common.{arith, sym, ◌∙◌}
use Rattle.std.proofs.lemmas.Grind.{common_steps}
use Rattle.std.proofs.lemmas.Option.{MatchOption-at_some}
use Rattle.v4l_image.proofs.SamplesLemmas.{samples_within, put_there, put_alone}
use Rattle.v4l_image.specs.Samples.{order_at}
use Rattle.v4l_image.proofs.image.Image.put.Goals as goal

pub set-requires : goal.set-requires
set-requires g c =
    let there = samples_within (order_at g.row.F) _ _ _ _ _ _ c.requires.width c.requires.height c.requires.across c.requires.down c.order_at.ensures c.samples_of-samples.ensures in
    omega (arith, there.first)

pub set-requires-in-Some : goal.set-requires-in-Some
set-requires-in-Some g c =
    let there = samples_within (order_at g.row.F) _ _ _ _ _ _ c.requires.width c.requires.height c.requires.across c.requires.down c.order_at.ensures c.samples_of-samples.ensures in
    let both = MatchOption-at_some _ _ _ c.in-Some.is there.others in
    grind (arith, common_steps, both.0)

pub set-requires-in-Some-2 : goal.set-requires-in-Some-2
set-requires-in-Some-2 g c =
    let there = samples_within (order_at g.row.F) _ _ _ _ _ _ c.requires.width c.requires.height c.requires.across c.requires.down c.order_at.ensures c.samples_of-samples.ensures in
    let both = MatchOption-at_some _ _ _ c.in-Some.is there.others in
    grind (arith, common_steps, both.1)

pub returns-in-Some-clause-bytes : goal.returns-in-Some-clause-bytes
returns-in-Some-clause-bytes g c =
    put_there (order_at g.row.F) _ _ _ _ _ _ _ _ _ c.requires.width c.requires.height c.requires.across c.requires.down c.requires.whole c.order_at.ensures c.samples_of-samples.ensures
    (rw (c.in-Some.is, c.if-samples.true) cc)

pub returns-else-samples-clause-bytes : goal.returns-else-samples-clause-bytes
returns-else-samples-clause-bytes g c =
    put_there (order_at g.row.F) _ _ _ _ _ _ _ _ _ c.requires.width c.requires.height c.requires.across c.requires.down c.requires.whole c.order_at.ensures c.samples_of-samples.ensures
    (c.set.ensures.bytes ∙ sym (put_alone _ _ _ c.if-samples.false))
