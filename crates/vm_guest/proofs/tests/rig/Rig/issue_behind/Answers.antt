use Rattle.std.proofs.Common.{◌≡◌, ◌<◌, ◌≤◌, true, arith, sym, ap, subst, ◌∙◌}
use Rattle.std.proofs.lemmas.Bool.Decides.{nat_tests}
use Rattle.vm_link.specs.Queue.{Queue, free_count}
use Rattle.vm_guest.proofs.ByHandLemmas.{would_hold, can_issue_behind, issues_grows, one_more, has_room}
use Rattle.vm_guest.proofs.tests.rig.Rig.issue_behind.Goals as goal

pub issue-requires : goal.issue-requires
issue-requires c =
    let less : c.self.inside.held < 96 = grind (arith, nat_tests, c.in_ok-check.ensures) in
    let holds : would_hold c.self.inside.guest 1 ≡ true = sym c.holds_back.ensures ∙ c.in_ok-check-2.ensures in
    let free : 4 ≤ free_count c.self.inside.link.command = grind (arith, nat_tests, c.in_ok-check-3.ensures, c.free.ensures) in
    let here : 4 ≤ free_count c.announce.new.link.command = subst (λ (q : Queue). 4 ≤ free_count q) (sym c.in_ok-announce.ensures.commands) free in
    can_issue_behind c.args.p c.self.inside.guest c.announce.new.link 1 c.in_ok-announce.ensures.one holds (has_room c.self.inside.held c.self.inside.guest c.self.invariant less) here

pub invariant_of-self-2 : goal.invariant_of-self-2
invariant_of-self-2 c =
    one_more c.self.inside.held c.self.inside.guest c.issue.new.self
    (issues_grows c.args.p c.self.inside.guest c.issue.new.self c.announce.new.link c.issue.new.link c.issue.result c.in_ok-announce.ensures.one c.issue.ensures.issues) c.self.invariant
