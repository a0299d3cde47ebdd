use Rattle.std.proofs.Common.{rules, arith, ◌≡◌, ℕ, List, [], ◌∷◌, Some, false, ap, codes, refl, subst, sym, ◌∙◌}
use Rattle.v4l_const.specs.declared.errno.Errno.{Errno}
use Rattle.vm_local.specs.declared.call.Call.TheVariants.{OpenHandle}
use Rattle.vm_local.specs.declared.entry.Entry.{Entry}
use Rattle.vm_local.specs.declared.entry.Entry.TheVariants.{Called, Finish, Bad, Give}
use Rattle.vm_local.specs.declared.reply.Reply.TheVariants.{Refused}
use Rattle.vm_script.specs.declared.line.RawChain.TheVariants.{Zero}
use Rattle.vm_script.specs.Grammar.{is_name, words_in}
use Rattle.vm_script.specs.Words.{IsEcho}
use Rattle.vm_report.specs.Printed.{raw_in}
use Rattle.vm_report.specs.Text.{reads}
use Rattle.vm_report.proofs.print_tests.processes_are_printed_in_order.Goals as goal

pub print-requires : goal.print-requires
print-requires c c' =
    let name : c'.unwrap-name.result ≡ codes "b2" = search rules in
    let third : c'.in_ok-third.third ≡ codes "open b2" = search rules in
    let first : c'.in_ok-first.first ≡ codes "raw chain loop" = search rules in
    let second : c'.other_line.result.echo.now ≡ codes "raw chain zero" = search rules in
    let chain : c'.other_line.result.chain.now ≡ Zero = search rules in
    let Is : List ℕ → Type 0 = λ e. IsEcho e in
    let steps : List Entry = Called 3 (OpenHandle false) (Refused Errno.Enomem) ∷ Finish ∷ Bad ∷ Give ∷ [] in
    record {
      handles = (
        record {
          process = omega arith;
          name = ap (λ n. is_name n) name;
          letters = (tt, (tt, (tt, (tt, tt))));
          reads = ap (λ n. reads n steps (c'.in_ok-third.third ∷ [])) name ∙ ap (λ e. reads (codes "b2") steps (e ∷ [])) third;
          echoes = (subst Is (sym third) (refl, refl), tt);
        },
        tt,
      );
      raws = (
        record {
          process = omega arith;
          reads = ap (λ e. raw_in (words_in e)) first;
          echo = subst Is (sym first) (refl, refl);
        },
        (
          record {
            process = omega (arith, c'.other_line.ensures.process);
            reads = ap (λ e. raw_in (words_in e)) second ∙ sym (ap (λ k. Some k) chain);
            echo = subst Is (sym second) (refl, refl);
          },
          tt,
        ),
      );
      handles_rise = (omega arith, tt);
      raws_rise = (omega arith, (omega arith, tt));
    }
