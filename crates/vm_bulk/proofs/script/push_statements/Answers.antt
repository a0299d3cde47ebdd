use Rattle.std.proofs.Common.{ℕ, ◌%◌, List, [], ◌∷◌, ◌++◌, codes}
use Rattle.vm_bulk.specs.Bulk.{below, choosing, mapping, queueing, taking, unmapping}
use Rattle.vm_bulk.proofs.BulkLemmas.{ok_then, chain}
use Rattle.vm_bulk.proofs.script.push_statements.Goals as goal

pub returns : goal.returns
returns c =
    let closing : List (List ℕ) = codes "close a" ∷ [] in
    let unmapped : List (List ℕ) = below 4 unmapping ++ closing in
    let stopped : List (List ℕ) = (codes "streamoff a cap" ∷ []) ++ unmapped in
    let taken : List (List ℕ) = below 60 (λ r. taking (r % 4)) ++ stopped in
    let streaming : List (List ℕ) = (codes "streamon a cap" ∷ []) ++ taken in
    let queued : List (List ℕ) = below 4 queueing ++ streaming in
    let mapped : List (List ℕ) = below 4 mapping ++ queued in
    let end : List ℕ = c.push_line-3.new.text.items in
    ok_then c.push_line-3.result _ _ (λ last.
    chain c.args.text.now.items c.push_choosing.new.text.items end (choosing c.args.p) mapped c.in_ok-push_choosing.ensures
    (chain c.push_choosing.new.text.items c.push_mappings.new.text.items end (below 4 mapping) queued c.in_ok-push_mappings.ensures
    (chain c.push_mappings.new.text.items c.push_each.new.text.items end (below 4 queueing) streaming c.in_ok-push_each.ensures
    (chain c.push_each.new.text.items c.push_line.new.text.items end (codes "streamon a cap" ∷ []) taken c.in_ok-push_line.ensures
    (chain c.push_line.new.text.items c.push_frames.new.text.items end (below 60 (λ r. taking (r % 4))) stopped c.in_ok-push_frames.ensures
    (chain c.push_frames.new.text.items c.push_line-2.new.text.items end (codes "streamoff a cap" ∷ []) unmapped c.in_ok-push_line-2.ensures
    (chain c.push_line-2.new.text.items c.push_each-2.new.text.items end (below 4 unmapping) closing c.in_ok-push_each-2.ensures last)))))))
    c.push_line-3.ensures
