use Rattle.std.proofs.Common.{◌≡◌, ◌∙◌, ℕ, List, ap, map, option_map}
use Rattle.std.proofs.lemmas.Result.{IfErr-weaker, IfOk-weaker}
use Rattle.std.specs.String.{string_bytes}
use Rattle.clap.specs.Words.{app_of, is_simple, subcommand_of, takes}
use Rattle.vm_words.specs.Program.{program, words_told}
use Rattle.vm_words.proofs.ParseLemmas.{judged_parsed}
use Rattle.vm_words.proofs.parse.matches.Goals as goal

pub returns-clause-ok : goal.returns-clause-ok
returns-clause-ok c =
    let words : List (List ℕ) = map string_bytes c.args.words.now in
    let parsed = judged_parsed words c.requires in
    let told_is : app_of c.in_ok-told.told ≡ program = c.in_ok-told.ensures.shape in
    let parse = c.try_get_matches_from in
    IfOk-weaker parse.result _ _ (λ m h. ap (option_map words_told) ((h (ap is_simple told_is)).1 ∙ ap (λ a. subcommand_of a words) told_is) ∙ parsed.told) parse.ensures.matches

pub returns-clause-err : goal.returns-clause-err
returns-clause-err c =
    let words : List (List ℕ) = map string_bytes c.args.words.now in
    let parsed = judged_parsed words c.requires in
    let told_is : app_of c.in_ok-told.told ≡ program = c.in_ok-told.ensures.shape in
    let parse = c.try_get_matches_from in
    IfErr-weaker parse.result _ _ (λ e h. h (ap (λ a. takes a words) told_is ∙ parsed.takes)) parse.ensures.passes
