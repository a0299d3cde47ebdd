use Rattle.std.proofs.Common.{◌≡◌, ℕ, ◌+◌, List, ◌∷◌, ◌++◌, codes, drop, map, ap, refl, sym, ◌∙◌}
use Rattle.std.proofs.lemmas.List.{drop_more}
use Rattle.vm_local.specs.declared.entry.Entry.{Entry}
use Rattle.vm_local.specs.declared.entry.Entry.TheVariants.{Called, Finish, Bad, Give}
use Rattle.vm_report.specs.Text.{call_text, entries_text}
use Rattle.vm_report.proofs.PrinterLemmas.{behind_call, behind_step, behind_fits, behind_letters}
use Rattle.vm_report.proofs.printer.push_entries.Goals as goal
use Rattle.vm_report.proofs.printer.push_entries.Goals.{in-Called+in_ok-push_call-in-Called, in-Finish+in_ok-push-in-Finish, in-Bad+in_ok-push-in-Bad, in-Give+in_ok-push-in-Give}

pub loop-entry-preserved : goal.loop-entry-preserved
loop-entry-preserved c =
    let i : ℕ = c.loop-entry.entry-index in
    let left : List Entry = drop i c.args.entries.now in
    let rest : List Entry = drop (i + 1) c.args.entries.now in
    let whole : List ℕ = c.args.text.now.items ++ entries_text c.args.entries.now (map (λ e. e.now) c.args.echoes.now) in
    let words : List (List ℕ) = map (λ e. e.now) (drop c.loop-entry.calls c.args.echoes.now) in
    let next : left ≡ c.entry-item.result ∷ rest = drop_more c.args.entries.now i c.entry-item.result c.loop-entry-test.true ∙ ap (λ e. e ∷ rest) (sym c.entry-item.is) in
    let letters = behind_letters left rest c.entry-item.result next c.loop-entry.invariant.letters in
    elim c.match-entry.branch [
      | in-Called+in_ok-push_call-in-Called w ↦
          let is : left ≡ Called w.in-Called.line w.in-Called.call w.in-Called.reply ∷ rest = next ∙ ap (λ e. e ∷ rest) w.in-Called.is in
          let text : c.match-entry.text.items ≡ c.loop-entry.text.items ++ call_text w.in-Called.line w.index-echoes-calls.result.now w.in-Called.reply =
          ap (λ t. t.items) w.text-is ∙ w.in_ok-push_call-in-Called.ensures.text in
          let follows = behind_call (λ e. e.now) whole c.loop-entry.text.items c.match-entry.text.items c.loop-entry.invariant.reads.0 w.in-Called.line w.in-Called.call w.in-Called.reply
          left rest c.loop-entry.calls c.args.echoes.now w.index-echoes-calls.result c.loop-entry.invariant.printed c.loop-entry.invariant.reads.1 is w.index-echoes-calls.is text in
          rw w.calls-is (record {
            printed = follows.printed;
            reads = (c.loop-entry.invariant.reads.0, follows.words);
            letters = letters;
            fits = behind_fits c.args.entries.now left rest (Called w.in-Called.line w.in-Called.call w.in-Called.reply) is w.in_ok-push_call-in-Called.ensures.fits c.loop-entry.invariant.fits;
          })
      | in-Finish+in_ok-push-in-Finish w ↦
          let is : left ≡ Finish ∷ rest = next ∙ ap (λ e. e ∷ rest) w.in-Finish.is in
          let follows = behind_step whole c.loop-entry.text.items c.match-entry.text.items c.loop-entry.invariant.reads.0 (codes "+ finish\n") Finish left rest words
          c.loop-entry.invariant.printed c.loop-entry.invariant.reads.1 is (ap (λ t. t.items) w.text-is ∙ w.in_ok-push-in-Finish.ensures) refl refl in
          rw w.calls-is (record {
            printed = follows.printed;
            reads = (c.loop-entry.invariant.reads.0, follows.words);
            letters = letters;
            fits = behind_fits c.args.entries.now left rest Finish is tt c.loop-entry.invariant.fits;
          })
      | in-Bad+in_ok-push-in-Bad w ↦
          let is : left ≡ Bad ∷ rest = next ∙ ap (λ e. e ∷ rest) w.in-Bad.is in
          let follows = behind_step whole c.loop-entry.text.items c.match-entry.text.items c.loop-entry.invariant.reads.0 (codes "+ bad\n") Bad left rest words
          c.loop-entry.invariant.printed c.loop-entry.invariant.reads.1 is (ap (λ t. t.items) w.text-is ∙ w.in_ok-push-in-Bad.ensures) refl refl in
          rw w.calls-is (record {
            printed = follows.printed;
            reads = (c.loop-entry.invariant.reads.0, follows.words);
            letters = letters;
            fits = behind_fits c.args.entries.now left rest Bad is tt c.loop-entry.invariant.fits;
          })
      | in-Give+in_ok-push-in-Give w ↦
          let is : left ≡ Give ∷ rest = next ∙ ap (λ e. e ∷ rest) w.in-Give.is in
          let follows = behind_step whole c.loop-entry.text.items c.match-entry.text.items c.loop-entry.invariant.reads.0 (codes "+ give\n") Give left rest words
          c.loop-entry.invariant.printed c.loop-entry.invariant.reads.1 is (ap (λ t. t.items) w.text-is ∙ w.in_ok-push-in-Give.ensures) refl refl in
          rw w.calls-is (record {
            printed = follows.printed;
            reads = (c.loop-entry.invariant.reads.0, follows.words);
            letters = letters;
            fits = behind_fits c.args.entries.now left rest Give is tt c.loop-entry.invariant.fits;
          })
    ]
