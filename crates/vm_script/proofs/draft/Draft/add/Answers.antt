use Rattle.std.proofs.Common.{◌≡◌, arith, sym, ◌∙◌, ◌++◌, ◌∷◌, []}
use Rattle.std.proofs.lemmas.Grind.{common_steps}
use Rattle.vm_script.specs.Memory.{mention}
use Rattle.vm_script.proofs.DraftLemmas.{line_of, handle_within, kept_open, kept_declares, kept_other, none_declared}
use Rattle.vm_script.proofs.draft.Draft.add.Goals as goal
use Rattle.vm_script.proofs.draft.Draft.add.Goals.{then-declares+in_ok-reserve-2+in_ok-push, else-declares+in-Declares+in_ok-push-2, else-declares+in_default}

pub index_mut-requires : goal.index_mut-requires
index_mut-requires c = let within = handle_within c.args.self.now c.args.statement c.args.h c.requires (sym c.if-declares.ensures) in grind (arith, common_steps, within)

pub invariant_of-self-2 : goal.invariant_of-self-2
invariant_of-self-2 c =
    let kept = c.self.invariant in
    let lines : c.push_reserved-2.new.self.items ≡ c.self.inside.lines.items ++ line_of c.args.number c.args.h c.args.echo c.args.statement.call ∷ [] = grind (arith, common_steps) in
    elim c.if-declares.branch [
      | then-declares+in_ok-reserve-2+in_ok-push w ↦
          let handles = w.in_ok-push.ensures.ok in
          let memories : w.push_reserved.new.self.items ≡ c.self.inside.memories.items ++ [] ∷ [] = grind (arith, common_steps) in
          rw w.self-inside-is (rw (handles, memories, lines) (kept_open c.self.inside.handles c.self.inside.memories.items c.self.inside.lines.items c.args.number c.args.h c.args.echo c.args.statement.handle c.args.statement.call kept (sym w.if-declares.ensures)))
      | else-declares+in-Declares+in_ok-push-2 w ↦
          let named = w.in_ok-push-2.ensures.ok in
          let within = handle_within c.args.self.now c.args.statement c.args.h c.requires (sym w.if-declares.ensures) in
          rw w.self-inside-is (rw (named, lines) (kept_declares c.self.inside.handles c.self.inside.memories.items c.self.inside.lines.items c.args.number c.args.h c.args.echo w.in-Declares.name c.args.statement.call w.index_mut.result.now kept (sym w.in-Declares.ensures) (grind (arith, common_steps, within)) w.index_mut.ensures.value))
      | else-declares+in_default w ↦
          rw w.self-inside-is (rw lines (kept_other c.self.inside.handles c.self.inside.memories.items c.self.inside.lines.items c.args.number c.args.h c.args.echo c.args.statement.call kept (none_declared (mention c.args.statement.call) (λ name e. w.in_default.not-Declares name (w.mention_of.ensures ∙ e)))))
    ]
