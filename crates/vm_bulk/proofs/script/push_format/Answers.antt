use Rattle.std.proofs.Common.{ℕ, ◌+◌, ◌*◌, ◌%◌, List, ◌++◌, codes, ap, ◌∙◌}
use Rattle.std.specs.Fmt.{decimal}
use Rattle.vm_bulk.specs.Bulk.{format_word}
use Rattle.vm_bulk.proofs.BulkLemmas.{ok_then, pushed}
use Rattle.vm_bulk.proofs.script.push_format.Goals as goal

pub returns : goal.returns
returns c =
    let p : ℕ = c.args.p in
    let height : List ℕ = codes " " ++ decimal (48 + 16 * p) in
    let sizes : List ℕ = decimal (64 + 16 * p) ++ height in
    let words : List ℕ = codes " " ++ sizes in
    ok_then c.push_numbered.result _ _ (λ last.
    pushed c.args.text.now.items c.push.new.text.items c.push_numbered.new.text.items (codes "sfmt a cap ") (format_word (p % 6) ++ words) c.in_ok-push.ensures
    (pushed c.push.new.text.items c.push-2.new.text.items c.push_numbered.new.text.items (format_word (p % 6)) words
    (c.in_ok-push-2.ensures ∙ ap (λ (w : List ℕ). c.push.new.text.items ++ w) c.format_word.ensures)
    (pushed c.push-2.new.text.items c.push-3.new.text.items c.push_numbered.new.text.items (codes " ") sizes c.in_ok-push-3.ensures
    (pushed c.push-3.new.text.items c.push_number.new.text.items c.push_numbered.new.text.items (decimal (64 + 16 * p)) height c.in_ok-push_number.ensures last))))
    c.push_numbered.ensures
