use Rattle.std.proofs.Common.{◌≡◌, [], ◌∷◌, Some, length, length-append, rules, tests, arith}
use Rattle.std.proofs.lemmas.Iterator.Consumers.{YieldsList-at, YieldsList-turn, YieldsList-end}
use Rattle.std.proofs.lemmas.Iterator.Splits.{YieldsList-from_slice_split}
use Rattle.std.proofs.lemmas.Result.{err_from_is_err_and}
use Rattle.vm_script.specs.Words.{ends_line, lines_in}
use Rattle.vm_script.proofs.ReaderLemmas.{split_is_pieces}
use Rattle.vm_report.proofs.CodeLemmas.{lines_more, gives_fault, gives_end}
use Rattle.vm_report.specs.Reading.{with_line}
use Rattle.vm_report.proofs.readback.read.Goals as goal

pub loop-line-preserved : goal.loop-line-preserved
loop-line-preserved c =
    let turn = YieldsList-turn (YieldsList-at c.into_iter-line-iterator.ensures.into_iter_gives (YieldsList-from_slice_split _ ends_line c.args.text.now c.split-line-items.ensures.rest c.split-line-items.ensures.done c.split-line-items.ensures.closure (λ x r q k. search (rules, tests)))) c.loop-line.yielded c.loop-line.line-iterator c.loop-line.yielded_by c.next.result c.next.new.self _ c.in-Some.is c.next.ensures.steps in
    let at = rw (split_is_pieces ends_line c.args.text.now) at turn in
    let gave : with_line c.loop-line.draft c.in-Some.line.now ≡ Some c.in_ok-draft.draft = search rules in
    record {
      can_next = search rules;
      is_finite = tt;
      reads = rw (length-append c.loop-line.yielded (c.in-Some.line ∷ [])) (lines_more c.loop-line.draft c.in_ok-draft.draft (length c.loop-line.yielded) (lines_in c.args.text.now) c.in-Some.line.now _ at.0 at.1 gave c.loop-line.invariant.reads);
    }

pub returns-in_err-draft : goal.returns-in_err-draft
returns-in_err-draft c =
    let turn = YieldsList-turn (YieldsList-at c.into_iter-line-iterator.ensures.into_iter_gives (YieldsList-from_slice_split _ ends_line c.args.text.now c.split-line-items.ensures.rest c.split-line-items.ensures.done c.split-line-items.ensures.closure (λ x r q k. search (rules, tests)))) c.loop-line.yielded c.loop-line.line-iterator c.loop-line.yielded_by c.next.result c.next.new.self _ c.in-Some.is c.next.ensures.steps in
    let at = rw (split_is_pieces ends_line c.args.text.now) at turn in
    let failed = err_from_is_err_and c.from_residual.result c.from_residual.ensures.1 in
    rw (failed.1, failed.2) (gives_fault c.loop-line.draft (length c.loop-line.yielded) c.args.text.now c.in-Some.line.now c.in_err-draft.field-0.0 at.0 at.1 (search rules) c.loop-line.invariant.reads)

pub returns : goal.returns
returns c =
    let end = YieldsList-end (YieldsList-at c.into_iter-line-iterator.ensures.into_iter_gives (YieldsList-from_slice_split _ ends_line c.args.text.now c.split-line-items.ensures.rest c.split-line-items.ensures.done c.split-line-items.ensures.closure (λ x r q k. search (rules, tests)))) c.loop-line.yielded c.loop-line.line-iterator c.loop-line.yielded_by c.next.result c.next.new.self c.in-None.is c.next.ensures.steps in
    let at = rw (split_is_pieces ends_line c.args.text.now) at end.1 in
    rw (gives_end c.loop-line.draft (length c.loop-line.yielded) c.args.text.now (omega arith) c.loop-line.invariant.reads) c.finish.ensures
