use Rattle.std.proofs.Common.{◌≡◌, true}
use Rattle.std.proofs.lemmas.List.Elements.{All-contains}
use Rattle.vm_realm.specs.Enabled.{is_enabled, enabled}
use Rattle.vm_realm.proofs.EnabledLemmas.{lists_enabled, enabled_may_come}
use Rattle.vm_realm.proofs.laws.what_may_come_is_listed.Goals as goal

pub returns : goal.returns
returns c w s sound = (lists_enabled w s, All-contains (λ s. is_enabled w s ≡ true) (enabled w) s (enabled_may_come w))
