use Rattle.std.proofs.Common.{rules, tests, arith}
use Rattle.std.proofs.lemmas.Iterator.Consumers.{YieldsList-at, YieldsList-turn, YieldsList-end}
use Rattle.std.proofs.lemmas.Iterator.Splits.{YieldsList-from_slice_split}
use Rattle.std.proofs.lemmas.Result.{err_from_is_err_and}
use Rattle.std.proofs.lemmas.Grind.{common_steps}
use Rattle.vm_script.specs.Words.{ends_line, lines_in}
use Rattle.vm_script.proofs.LineLemmas.{reads_more, gives_err, gives_ok}
use Rattle.vm_script.proofs.ReaderLemmas.{split_is_pieces}
use Rattle.vm_script.proofs.reader.read_script.Goals as goal

pub loop-line-preserved : goal.loop-line-preserved
loop-line-preserved c =
    let turn = YieldsList-turn (YieldsList-at c.into_iter-line-iterator.ensures.into_iter_gives (YieldsList-from_slice_split _ ends_line c.args.bytes.now c.split-line-items.ensures.rest c.split-line-items.ensures.done c.split-line-items.ensures.closure (λ x r q k. search (rules, tests)))) c.loop-line.yielded c.loop-line.line-iterator c.loop-line.yielded_by c.next.result c.next.new.self _ c.in-Some.is c.next.ensures.steps in
    let at = rw (split_is_pieces ends_line c.args.bytes.now, ← c.loop-line.invariant.counted) at turn in
    let gave = c.in_ok-read_line.ensures in
    record {
      can_next = search rules;
      is_finite = tt;
      counted = grind (arith, common_steps);
      reads = reads_more c.loop-line.script _ c.loop-line.number (lines_in c.args.bytes.now) c.in-Some.line.now _ at.0 at.1 gave c.loop-line.invariant.reads;
    }

pub returns-in_err-read_line : goal.returns-in_err-read_line
returns-in_err-read_line c =
    let turn = YieldsList-turn (YieldsList-at c.into_iter-line-iterator.ensures.into_iter_gives (YieldsList-from_slice_split _ ends_line c.args.bytes.now c.split-line-items.ensures.rest c.split-line-items.ensures.done c.split-line-items.ensures.closure (λ x r q k. search (rules, tests)))) c.loop-line.yielded c.loop-line.line-iterator c.loop-line.yielded_by c.next.result c.next.new.self _ c.in-Some.is c.next.ensures.steps in
    let at = rw (split_is_pieces ends_line c.args.bytes.now, ← c.loop-line.invariant.counted) at turn in
    let failed = err_from_is_err_and c.from_residual.result c.from_residual.ensures.1 in
    rw (failed.1, failed.2) (gives_err c.args.bytes.now c.loop-line.script c.read_line.new.script c.loop-line.number c.in-Some.line.now c.in_err-read_line.field-0.0 at.0 at.1 c.in_err-read_line.ensures c.loop-line.invariant.reads)

pub returns : goal.returns
returns c =
    let end = YieldsList-end (YieldsList-at c.into_iter-line-iterator.ensures.into_iter_gives (YieldsList-from_slice_split _ ends_line c.args.bytes.now c.split-line-items.ensures.rest c.split-line-items.ensures.done c.split-line-items.ensures.closure (λ x r q k. search (rules, tests)))) c.loop-line.yielded c.loop-line.line-iterator c.loop-line.yielded_by c.next.result c.next.new.self c.in-None.is c.next.ensures.steps in
    let at = rw (split_is_pieces ends_line c.args.bytes.now, ← c.loop-line.invariant.counted) at end.1 in
    rw c.in_ok-finish.ensures (gives_ok c.args.bytes.now c.loop-line.script c.loop-line.number (omega arith) c.loop-line.invariant.reads)
