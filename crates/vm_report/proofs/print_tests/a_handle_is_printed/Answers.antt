use Rattle.std.proofs.Common.{rules, arith, ◌≡◌, ℕ, List, [], ◌∷◌, false, ap, codes, map, refl, subst, sym, ◌∙◌}
use Rattle.std.specs.List.{AllByRecursion}
use Rattle.vm_local.specs.declared.call.Call.TheVariants.{OpenHandle, CloseHandle}
use Rattle.vm_local.specs.declared.entry.Entry.{Entry}
use Rattle.vm_local.specs.declared.entry.Entry.TheVariants.{Called}
use Rattle.vm_local.specs.declared.reply.Reply.TheVariants.{Done}
use Rattle.vm_script.specs.Grammar.{is_name}
use Rattle.vm_script.specs.Words.{IsEcho}
use Rattle.vm_report.specs.Text.{reads}
use Rattle.vm_report.proofs.print_tests.a_handle_is_printed.Goals as goal

pub print-requires : goal.print-requires
print-requires c c' =
    let name : c'.unwrap-name.result ≡ codes "a" = search rules in
    let first : c'.in_ok-first.first ≡ codes "open a" = search rules in
    let second : c'.in_ok-second.second ≡ codes "close a" = search rules in
    let words : map (λ e. e.now) c'.both.result ≡ codes "open a" ∷ codes "close a" ∷ [] =
    c'.both.ensures ∙ (ap (λ e. e ∷ c'.in_ok-second.second ∷ []) first ∙ ap (λ e. codes "open a" ∷ e ∷ []) second) in
    let Are : List (List ℕ) → Type 0 = λ ws. AllByRecursion IsEcho ws in
    let closed : List Entry = Called 1 (OpenHandle false) Done ∷ Called 2 CloseHandle Done ∷ [] in
    record {
      handles = (
        record {
          process = omega arith;
          name = ap (λ n. is_name n) name;
          letters = (tt, (tt, tt));
          reads = ap (λ n. reads n closed (map (λ e. e.now) c'.both.result)) name ∙ ap (λ ws. reads (codes "a") closed ws) words;
          echoes = subst Are (sym words) ((refl, refl), ((refl, refl), tt));
        },
        tt,
      );
      raws = tt;
      handles_rise = (omega arith, tt);
      raws_rise = tt;
    }
