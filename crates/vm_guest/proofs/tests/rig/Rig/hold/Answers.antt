use Rattle.std.proofs.Common.{◌≡◌, ◌<◌, true, arith, sym, ◌∙◌}
use Rattle.std.proofs.lemmas.Bool.Decides.{nat_tests}
use Rattle.vm_guest.proofs.ByHandLemmas.{would_hold, can_pump, pumps_grows, one_more, has_room}
use Rattle.vm_guest.proofs.tests.rig.Rig.hold.Goals as goal

pub pump-requires : goal.pump-requires
pump-requires c =
    let less : c.self.inside.held < 96 = grind (arith, nat_tests, c.in_ok-check.ensures) in
    let holds : would_hold c.self.inside.guest 1 ≡ true = sym c.holds_back.ensures ∙ c.in_ok-check-2.ensures in
    can_pump c.self.inside.guest c.announce.new.link 1 c.in_ok-announce.ensures.one holds (has_room c.self.inside.held c.self.inside.guest c.self.invariant less)

pub invariant_of-self-2 : goal.invariant_of-self-2
invariant_of-self-2 c =
    one_more c.self.inside.held c.self.inside.guest c.pump.new.self
    (pumps_grows c.self.inside.guest c.pump.new.self c.announce.new.link c.pump.new.link c.pump.result c.in_ok-announce.ensures.one c.pump.ensures.pumps) c.self.invariant
