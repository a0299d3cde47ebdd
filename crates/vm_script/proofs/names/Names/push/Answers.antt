use Rattle.std.proofs.Common.{◌≡◌, [], ◌∷◌, ◌++◌, ap, ◌∙◌, length, rules, true, false}
use Rattle.std.specs.Option.{is_some}
use Rattle.vm_script.specs.Names.{place_from}
use Rattle.vm_script.proofs.NameLemmas.{finds_again, finds_new}
use Rattle.vm_script.proofs.names.Names.push.Goals as goal
use Rattle.vm_script.proofs.names.Names.push.Goals.{then-is_none+in_ok-insert, else-is_none}

pub invariant_of-self-3 : goal.invariant_of-self-3
invariant_of-self-3 c =
    let place : c.place_of.result ≡ place_from 0 c.args.name c.self.inside.names.items = c.place_of.ensures.place ∙ ap (λ names. place_from 0 c.args.name names) c.reserve.ensures.items in
    elim c.if-is_none.branch [
      | then-is_none+in_ok-insert w ↦
          let missing : is_some c.place_of.result ≡ false = w.if-is_none.ensures in
          let items : c.push_reserved.new.self.items ≡ c.self.inside.names.items ++ c.args.name ∷ [] = c.push_reserved.ensures.items ∙ ap (λ s. s.names.items ++ c.args.name ∷ []) w.self-inside-is ∙ ap (λ names. names ++ c.args.name ∷ []) c.reserve.ensures.items in
          let at : w.len.result ≡ length c.self.inside.names.items = search rules in
          rw (items, w.self-inside-is) (finds_new c.self.inside.names.items c.self.inside.places.entries w.insert.new.self.entries c.args.name w.key_of.result w.len.result c.place_of.result w.key_of.ensures.short place missing c.self.invariant w.key_of.ensures.key at w.in_ok-insert.ensures.updates.0)
      | else-is_none w ↦
          let known : is_some c.place_of.result ≡ true = w.if-is_none.ensures in
          let items : c.push_reserved.new.self.items ≡ c.self.inside.names.items ++ c.args.name ∷ [] = c.push_reserved.ensures.items ∙ ap (λ s. s.names.items ++ c.args.name ∷ []) w.self-inside-is ∙ ap (λ names. names ++ c.args.name ∷ []) c.reserve.ensures.items in
          rw (items, w.self-inside-is) (finds_again c.self.inside.names.items c.self.inside.places.entries c.args.name c.place_of.result place known c.self.invariant)
    ]
