use Rattle.std.proofs.Common.{rules, ◌≡◌, ◌++◌, ◌∷◌, [], List, All, sym, subst, arith}
use Rattle.std.proofs.lemmas.List.Elements.{All-push}
use Rattle.vm_log.specs.Answers.{AsksFew}
use Rattle.vm_script.specs.declared.line.Line.{Line}
use Rattle.vm_guest.specs.Orderly.{IsFitKind}
use Rattle.vm_guest.proofs.tests.scripts.add.Goals as goal

pub returns-clause-fit : goal.returns-clause-fit
returns-clause-fit c =
    let P : Line → Type 0 = λ l. IsFitKind 1 l.what in
    let few : AsksFew c.args.call.now = search rules in
    let all = All-push P _ _ c.requires.fit (omega arith, few) in
    subst (λ (ls : List Line). All P ls) (sym c.in_ok-push.ensures.items) all
