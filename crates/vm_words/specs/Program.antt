-- The program's command line, as `clap` is told of it, and what its matches tell.
use Rattle.std.specs.Prelude.{true, List, [], ◌∷◌, codes, Option, Some, None}
use Rattle.clap.specs.Walk.{Row, Text, first_of}
use Rattle.clap.specs.Simple.{App, new_app, new_rule, on_top, with_rule, with_subcommand}

-- a subcommand with one value behind it
abbrev pub numbered : Text → App
numbered name = with_rule (new_app name) (new_rule (codes "NUMBER"))

-- the program, of which the words begin behind its name
abbrev pub program : App
program =
    with_subcommand (with_subcommand (with_subcommand
    (on_top (λ s. record s { no_binary_name = true }) (new_app (codes "vmedia")))
    (new_app (codes "check")).top)
    (numbered (codes "step")).top)
    (numbered (codes "bulk")).top

-- a subcommand's name, and its number where one stands behind it
abbrev pub words_by : Text → Option Text → List Text
words_by name None = name ∷ []
words_by name (Some number) = name ∷ number ∷ []

-- the words that matches tell
abbrev pub words_told : Text × List Row → List Text
words_told line = words_by line.0 (first_of (codes "NUMBER") line.1)
