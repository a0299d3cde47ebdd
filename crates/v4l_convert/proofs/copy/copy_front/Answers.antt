use Rattle.std.proofs.Common.{◌≡◌, ◌≤◌, ◌+◌, List, ℕ, length, take, drop, arith, ap, ◌∙◌}
use Rattle.std.proofs.lemmas.List.{length-append, length-drop, length-take-le}
use Rattle.v4l_convert.proofs.LineLemmas.{copied_more, length_written}
use Rattle.v4l_convert.proofs.copy.copy_front.Goals as goal

pub parts-preserved : goal.parts-preserved
parts-preserved g c =
    let len = c.min-len.result in
    let at = c.parts.at in
    let bytes = g.S.Store.bytes_of c.args.src.now in
    let old = g.D.Store.bytes_of c.args.dst.now in
    let now = g.D.Store.bytes_of c.parts.dst in
    let piece = c.copy_out.new.into in
    let end : at + len ≤ c.args.count = omega (arith, c.min-len.ensures, c.parts-test.true) in
    let small : len ≤ length c.parts.part = omega (arith, c.min-len.ensures, c.parts.invariant.part) in
    let there : piece ≡ take len (drop at bytes) =
    c.copy_out.ensures ∙ ap (λ m. take m (drop at bytes)) (length-take-le len c.parts.part small) in
    let far : len ≤ length (drop at bytes) = omega (arith, end, c.requires.whole, length-drop at bytes) in
    let long : length piece ≡ len = ap (λ (xs : List ℕ). length xs) there ∙ length-take-le len (drop at bytes) far in
    record {
      within = end;
      part = length-append piece (drop len c.parts.part) ∙ omega (arith, long, small, length-drop len c.parts.part, c.parts.invariant.part);
      bytes = c.copy_in.ensures.bytes ∙ copied_more bytes old now piece at len c.parts.invariant.bytes there (omega (arith, end, c.requires.whole)) (omega (arith, end, c.requires.room));
      size = ap (λ (xs : List ℕ). length xs) c.copy_in.ensures.bytes ∙ length_written now piece at (omega (arith, end, long, c.requires.room, c.parts.invariant.size)) ∙ c.parts.invariant.size;
      rest = c.copy_in.ensures.rest ∙ c.parts.invariant.rest;
    }
