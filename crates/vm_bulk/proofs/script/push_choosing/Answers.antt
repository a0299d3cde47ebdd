use Rattle.std.proofs.Common.{ℕ, ◌%◌, List, [], ◌∷◌, ◌++◌, codes}
use Rattle.vm_bulk.specs.Bulk.{numbered, format_line}
use Rattle.vm_bulk.proofs.BulkLemmas.{ok_then, chain}
use Rattle.vm_bulk.proofs.script.push_choosing.Goals as goal

pub returns : goal.returns
returns c =
    let input : List (List ℕ) = numbered (codes "sinput a ") (c.args.p % 4) in
    let buffers : List (List ℕ) = codes "reqbufs a cap mmap 4" ∷ [] in
    let format : List (List ℕ) = format_line c.args.p ∷ [] in
    ok_then c.push_line-2.result _ _ (λ last.
    chain c.args.text.now.items c.push_line.new.text.items c.push_line-2.new.text.items (codes "open a" ∷ []) (format ++ (input ++ buffers)) c.in_ok-push_line.ensures
    (chain c.push_line.new.text.items c.push_format.new.text.items c.push_line-2.new.text.items format (input ++ buffers) c.in_ok-push_format.ensures
    (chain c.push_format.new.text.items c.push_numbered.new.text.items c.push_line-2.new.text.items input buffers c.in_ok-push_numbered.ensures last)))
    c.push_line-2.ensures
