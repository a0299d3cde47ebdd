-- What `clap` makes of words that were judged: it takes them, and its matches tell them again.
use Rattle.std.proofs.Common.{◌≡◌, ℕ, ◌-◌, ◌^◌, Bool, true, false, Option, Some, None, IsSome, List, [], ◌∷◌, if◌then◌else◌, cond, map, codes, bytes_eq, find, slice_get, option_map, option_and_then, refl, sym, ap, ◌∙◌, subst}
use Rattle.std.specs.Borrow.{Bor}
use Rattle.std.proofs.lemmas.Slice.Eq.{bytes_eq-Decides}
use Rattle.clap.proofs.OnLiterals.{clap_on_literals}
use Rattle.clap.specs.Facts.{Entry}
use Rattle.clap.specs.Matches.{first_value, subcommand_name_of}
use Rattle.clap.specs.Simple.{subcommand_of, subcommand_rows_of}
use Rattle.clap.specs.Takes.{takes}
use Rattle.clap.specs.Walk.{Row, Text, first_of, row_of, rows_of}
use Rattle.clap.specs.declared.parser.matches.ArgMatches.{ArgMatches}
use Rattle.clap.specs.declared.parser.matches.ArgMatches.TheViews.{out-ArgMatches}
use Rattle.clap.specs.declared.parser.matches.Found.{Found}
use Rattle.vm_script.specs.Words.{number_in}
use Rattle.vm_words.specs.Command.{command_alone, command_in, command_with, positive}
use Rattle.vm_words.specs.Program.{program, words_by, words_told}
use Rattle.vm_words.specs.declared.command.Command.{Command}
use Rattle.vm_words.specs.declared.command.Command.TheVariants.{OnScript, Bulk}
use Rattle.vm_words.specs.declared.command.Task.TheVariants.{Check, Run}
use Rattle.vm_words.proofs.DigitLemmas.{OfDigits, by_digit, Written, written}

-- `clap` takes the words, and its matches tell them
pub record AreParsed (words : List Text) : Type 0 where
  pub takes : takes program words ≡ true
  pub told : option_map words_told (subcommand_of program words) ≡ Some words

check_parsed : AreParsed (codes "check" ∷ [])
unfolding clap_on_literals
check_parsed = record { takes = refl; told = refl }

-- the words with a number that begins with this digit
abbrev Parses : List ℕ → List ℕ → ℕ → Type 0
Parses name rest b = AreParsed (name ∷ (b ∷ rest) ∷ [])

step_parsed : (rest : List ℕ) → OfDigits (Parses (codes "step") rest)
unfolding clap_on_literals
step_parsed rest = record {
  d0 = record { takes = refl; told = refl };
  d1 = record { takes = refl; told = refl };
  d2 = record { takes = refl; told = refl };
  d3 = record { takes = refl; told = refl };
  d4 = record { takes = refl; told = refl };
  d5 = record { takes = refl; told = refl };
  d6 = record { takes = refl; told = refl };
  d7 = record { takes = refl; told = refl };
  d8 = record { takes = refl; told = refl };
  d9 = record { takes = refl; told = refl };
}

bulk_parsed : (rest : List ℕ) → OfDigits (Parses (codes "bulk") rest)
unfolding clap_on_literals
bulk_parsed rest = record {
  d0 = record { takes = refl; told = refl };
  d1 = record { takes = refl; told = refl };
  d2 = record { takes = refl; told = refl };
  d3 = record { takes = refl; told = refl };
  d4 = record { takes = refl; told = refl };
  d5 = record { takes = refl; told = refl };
  d6 = record { takes = refl; told = refl };
  d7 = record { takes = refl; told = refl };
  d8 = record { takes = refl; told = refl };
  d9 = record { takes = refl; told = refl };
}

number_parsed : (name number : List ℕ) → ((rest : List ℕ) → OfDigits (Parses name rest)) → Written number → AreParsed (name ∷ number ∷ [])
number_parsed name number each w =
    let P : List ℕ → Type 0 = λ n. AreParsed (name ∷ n ∷ []) in
    subst P (sym w.is) (by_digit (Parses name w.rest) (each w.rest) w.first w.digit)

mapped_some : {A B : Type 0} (f : A → B) (o : Option A) → IsSome (option_map f o) → IsSome o
mapped_some f (Some x) some = refl
mapped_some f None some = absurd (cc)

positive_some : (o : Option ℕ) → IsSome (positive o) → IsSome o
positive_some (Some n) some = refl
positive_some None some = absurd (cc)

alone_parsed : (name : List ℕ) (test : Bool) → bytes_eq name (codes "check") ≡ test → IsSome (if test then Some (OnScript Check) else None) → AreParsed (name ∷ [])
alone_parsed name true is some =
    let P : List ℕ → Type 0 = λ n. AreParsed (n ∷ []) in
    subst P (sym ((bytes_eq-Decides name (codes "check")).0 is)) check_parsed
alone_parsed name false is some = absurd (cc)

bulk_by : (name number : List ℕ) (test : Bool) → bytes_eq name (codes "bulk") ≡ test → IsSome (if test then option_map (λ n. Bulk n) (positive (number_in 20 16 number)) else None) → AreParsed (name ∷ number ∷ [])
bulk_by name number true is some =
    let P : List ℕ → Type 0 = λ n. AreParsed (n ∷ number ∷ []) in
    let digits = written 20 16 number (positive_some (number_in 20 16 number) (mapped_some (λ n. Bulk n) (positive (number_in 20 16 number)) some)) in
    subst P (sym ((bytes_eq-Decides name (codes "bulk")).0 is)) (number_parsed (codes "bulk") number bulk_parsed digits)
bulk_by name number false is some = absurd (cc)

abbrev bulk_asked : List ℕ → List ℕ → Option Command
bulk_asked name number = if bytes_eq name (codes "bulk") then option_map (λ n. Bulk n) (positive (number_in 20 16 number)) else None

step_by : (name number : List ℕ) (test : Bool) → bytes_eq name (codes "step") ≡ test → IsSome (if test then option_map (λ seed. OnScript (Run seed)) (number_in 20 (2 ^ 64 - 1) number) else bulk_asked name number) → AreParsed (name ∷ number ∷ [])
step_by name number true is some =
    let P : List ℕ → Type 0 = λ n. AreParsed (n ∷ number ∷ []) in
    let digits = written 20 (2 ^ 64 - 1) number (mapped_some (λ seed. OnScript (Run seed)) (number_in 20 (2 ^ 64 - 1) number) some) in
    subst P (sym ((bytes_eq-Decides name (codes "step")).0 is)) (number_parsed (codes "step") number step_parsed digits)
step_by name number false is some = bulk_by name number (bytes_eq name (codes "bulk")) refl some

pub judged_parsed : (words : List Text) → IsSome (command_in words) → AreParsed words
judged_parsed [] some = absurd (cc)
judged_parsed (name ∷ []) some = alone_parsed name (bytes_eq name (codes "check")) refl some
judged_parsed (name ∷ number ∷ []) some = step_by name number (bytes_eq name (codes "step")) refl some
judged_parsed (name ∷ number ∷ more ∷ words) some = absurd (cc)

-- ---- the first value of an argument, by rows

first_text : (vals : List (Bor Text)) → slice_get (map (λ s. s.now) vals) 0 ≡ option_map (λ s. s.now) (slice_get vals 0)
first_text [] = refl
first_text (v ∷ vs) = refl

pub first_told : (entries : List Entry) (id : Text) → first_of id (map row_of entries) ≡ option_and_then (λ a. option_map (λ s. s.now) (slice_get a.vals.items 0)) (option_map (λ e. e.1) (find (λ e. bytes_eq e.0.now id) entries))
first_told [] id = refl
first_told (e ∷ es) id = by_test (bytes_eq e.0.now id) (first_told es id)
  where
    by_test : (test : Bool) → first_of id (map row_of es) ≡ option_and_then (λ a. option_map (λ s. s.now) (slice_get a.vals.items 0)) (option_map (λ x. x.1) (find (λ x. bytes_eq x.0.now id) es))
        → option_and_then (λ r. slice_get r.values 0) (cond test (Some (row_of e)) (find (λ r. bytes_eq r.id id) (map row_of es)))
        ≡ option_and_then (λ a. option_map (λ s. s.now) (slice_get a.vals.items 0)) (option_map (λ x. x.1) (cond test (Some e) (find (λ x. bytes_eq x.0.now id) es)))
    by_test true rest = first_text e.1.vals.items
    by_test false rest = rest

pub value_told : (f : Found) (id : Text) → first_of id (rows_of f) ≡ first_value f id
value_told f id = first_told f.entries.items id

-- ---- what matches ask for

mapped_twice : {A B C : Type 0} (f : A → B) (g : B → C) (o : Option A) → option_map g (option_map f o) ≡ option_map (λ x. g (f x)) o
mapped_twice f g (Some x) = refl
mapped_twice f g None = refl

pub name_told : (m : ArgMatches) → option_map (λ p. p.0) (subcommand_rows_of m) ≡ subcommand_name_of m
name_told m = mapped_twice _ _ (out-ArgMatches m).subcommand

pub words_are : (o : Option (Text × List Row)) (name : Text) (rows : List Row) (words : List Text) → option_map (λ p. p.0) o ≡ Some name → option_map (λ p. p.1) o ≡ Some rows → option_map words_told o ≡ Some words
    → words ≡ words_by name (first_of (codes "NUMBER") rows)
words_are None name rows words named rowed told = absurd (cc)
words_are (Some p) name rows words named rowed told =
    let n : p.0 ≡ name = cc in
    let r : p.1 ≡ rows = cc in
    let w : words_told p ≡ words = cc in
    sym w ∙ (ap (λ t. words_by t (first_of (codes "NUMBER") p.1)) n ∙ ap (λ rs. words_by name (first_of (codes "NUMBER") rs)) r)

pub none_asked : (name : Text) (number : Option Text) (words : List Text) → number ≡ None → words ≡ words_by name number → command_in words ≡ command_alone name
none_asked name number words none is = ap command_in (is ∙ ap (words_by name) none)

pub number_asked : (name : Text) (number : Option Text) (digits : Text) (words : List Text) → number ≡ Some digits → words ≡ words_by name number → command_in words ≡ command_with name digits
number_asked name number digits words some is = ap command_in (is ∙ ap (words_by name) some)
