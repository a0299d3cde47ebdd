use Rattle.std.proofs.Common.{◌≡◌, ◌≤◌, length, arith}
use Rattle.std.proofs.lemmas.Bool.Decides.{nat_tests}
use Rattle.vm_link.specs.Queue.{free_count}
use Rattle.vm_guest.proofs.ByHandLemmas.{can_issue, issues_still, few_still}
use Rattle.vm_guest.proofs.tests.rig.Rig.issue.Goals as goal

pub issue-requires : goal.issue-requires
issue-requires c =
    let none : length c.self.inside.link.event.done ≡ 0 = grind (arith, nat_tests, c.in_ok-check.ensures, c.uncollected.ensures) in
    let free : 4 ≤ free_count c.self.inside.link.command = grind (arith, nat_tests, c.in_ok-check-2.ensures, c.free.ensures) in
    can_issue c.args.p c.self.inside.guest c.self.inside.link none free

pub invariant_of-self : goal.invariant_of-self
invariant_of-self c =
    let none : length c.self.inside.link.event.done ≡ 0 = grind (arith, nat_tests, c.in_ok-check.ensures, c.uncollected.ensures) in
    few_still c.self.inside.held c.self.inside.guest c.issue.new.self
    (issues_still c.args.p c.self.inside.guest c.issue.new.self c.self.inside.link c.issue.new.link c.issue.result none c.issue.ensures.issues) c.self.invariant
