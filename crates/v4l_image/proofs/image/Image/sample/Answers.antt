use Rattle.std.proofs.Common.{arith}
use Rattle.std.proofs.lemmas.Option.{MatchOption-at_some}
use Rattle.v4l_image.proofs.SamplesLemmas.{samples_within}
use Rattle.v4l_image.specs.Samples.{order_at}
use Rattle.v4l_image.proofs.image.Image.sample.Goals as goal

pub get-first-requires : goal.get-first-requires
get-first-requires g c =
    let there = samples_within (order_at g.row.F) _ _ _ _ _ _ c.requires.width c.requires.height c.requires.across c.requires.down c.order_at.ensures c.samples_of-samples.ensures in
    omega (arith, there.first)

pub get-requires : goal.get-requires
get-requires g c =
    let there = samples_within (order_at g.row.F) _ _ _ _ _ _ c.requires.width c.requires.height c.requires.across c.requires.down c.order_at.ensures c.samples_of-samples.ensures in
    let both = MatchOption-at_some _ _ _ c.in-Some.is there.others in
    omega (arith, both.0)

pub get-requires-in-Some : goal.get-requires-in-Some
get-requires-in-Some g c =
    let there = samples_within (order_at g.row.F) _ _ _ _ _ _ c.requires.width c.requires.height c.requires.across c.requires.down c.order_at.ensures c.samples_of-samples.ensures in
    let both = MatchOption-at_some _ _ _ c.in-Some.is there.others in
    omega (arith, both.1)
