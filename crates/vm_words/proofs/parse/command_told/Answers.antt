use Rattle.std.proofs.Common.{◌≡◌, ◌∙◌, Some, None, ap, codes, option_map, sym}
use Rattle.clap.specs.Words.{first_of, found_of, rows_of, subcommand_rows_of}
use Rattle.vm_words.specs.Command.{command_alone, command_with}
use Rattle.vm_words.specs.Program.{words_by}
use Rattle.vm_words.proofs.ParseLemmas.{name_told, none_asked, number_asked, value_told, words_are}
use Rattle.vm_words.proofs.parse.command_told.Goals as goal

pub returns-in-None-clause-command : goal.returns-in-None-clause-command
returns-in-None-clause-command c = λ words told.
    let m = c.args.matches.now in
    let name = c.in_ok-name.name.now in
    let found = found_of c.in_ok-name.line.now in
    let named : option_map (λ p. p.0) (subcommand_rows_of m) ≡ Some name = name_told m ∙ sym c.in_ok-name.ensures.name in
    let rowed : option_map (λ p. p.1) (subcommand_rows_of m) ≡ Some (rows_of found) = sym c.in_ok-name.ensures.rows in
    let is : words ≡ words_by name (first_of (codes "NUMBER") (rows_of found)) = words_are (subcommand_rows_of m) name (rows_of found) words named rowed told in
    let none : first_of (codes "NUMBER") (rows_of found) ≡ None = value_told found (codes "NUMBER") ∙ sym c.in-None.ensures in
    c.command_alone.ensures.command ∙ (ap command_alone c.as_bytes.ensures.value ∙ sym (none_asked name (first_of (codes "NUMBER") (rows_of found)) words none is))

pub returns-in-Some-clause-command : goal.returns-in-Some-clause-command
returns-in-Some-clause-command c = λ words told.
    let m = c.args.matches.now in
    let name = c.in_ok-name.name.now in
    let digits = c.in-Some.number.now in
    let found = found_of c.in_ok-name.line.now in
    let named : option_map (λ p. p.0) (subcommand_rows_of m) ≡ Some name = name_told m ∙ sym c.in_ok-name.ensures.name in
    let rowed : option_map (λ p. p.1) (subcommand_rows_of m) ≡ Some (rows_of found) = sym c.in_ok-name.ensures.rows in
    let is : words ≡ words_by name (first_of (codes "NUMBER") (rows_of found)) = words_are (subcommand_rows_of m) name (rows_of found) words named rowed told in
    let some : first_of (codes "NUMBER") (rows_of found) ≡ Some digits = value_told found (codes "NUMBER") ∙ sym c.in-Some.ensures in
    c.command_with.ensures.command
    ∙ (ap (λ t. command_with t c.as_bytes-in-Some-2.result.now) c.as_bytes-in-Some.ensures.value
    ∙ (ap (command_with name) c.as_bytes-in-Some-2.ensures.value
    ∙ sym (number_asked name (first_of (codes "NUMBER") (rows_of found)) digits words some is)))
