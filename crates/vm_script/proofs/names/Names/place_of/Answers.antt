use Rattle.std.proofs.Common.{◌≡◌, ap, ◌∙◌}
use Rattle.std.specs.BTreeMap.{is_at}
use Rattle.std.specs.Map.{lookup}
use Rattle.vm_script.specs.Names.{place_from}
use Rattle.vm_script.specs.Names.{key_of, key_cmp}
use Rattle.vm_script.proofs.NameLemmas.{place_is_within}
use Rattle.vm_script.proofs.names.Names.place_of.Goals as goal

pub returns-clause-place : goal.returns-clause-place
returns-clause-place c =
    let found : c.copied.result ≡ lookup (is_at (key_cmp (key_of c.args.name.now))) c.self.inside.places.entries = c.copied.ensures ∙ c.get.ensures.value ∙ ap (λ key. lookup (is_at (key_cmp key)) c.self.inside.places.entries) c.key_of.ensures.key in
    found ∙ c.self.invariant c.args.name.now c.key_of.ensures.short ∙ ap (λ names. place_from 0 c.args.name.now names) c.self.view_is

pub returns-clause-within : goal.returns-clause-within
returns-clause-within c = place_is_within c.args.name.now c.args.self.now c.copied.result (returns-clause-place c)
