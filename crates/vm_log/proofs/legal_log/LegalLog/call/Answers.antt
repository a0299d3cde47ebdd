use Rattle.std.proofs.Common.{◌≡◌, ◌∙◌, false, true, ap, subst, sym, arith, length, IsSome}
use Rattle.vm_local.specs.declared.entry.Entry.{Entry}
use Rattle.vm_local.specs.declared.entry.Entry.TheVariants.{Called}
use Rattle.vm_local.specs.State.{LocalState}
use Rattle.vm_local.specs.Log.{after}
use Rattle.vm_home.specs.Home.{kept_only}
use Rattle.vm_home.specs.Moves.{moves_at}
use Rattle.vm_log.specs.LegalLog.{LogState, IsWithin, state_after, state_of, MayFollow}
use Rattle.vm_log.specs.declared.away.Away.TheVariants.{Nothing}
use Rattle.vm_log.proofs.LogLemmas.{within_answered}
use Rattle.vm_log.proofs.KeepLemmas.{keeps_called}
use Rattle.vm_log.proofs.ViewLemmas.{answered_view, same_kept}
use Rattle.vm_log.proofs.legal_log.LegalLog.call.Goals as goal

pub invariant_of-self : goal.invariant_of-self
invariant_of-self c =
    let l : _ = c.self.inside in
    let s : LocalState = state_after l.model l.entries.items in
    let h : LogState = record { model = l.model; entries = l.entries.items; home = kept_only s l.home.places; away = l.away; lines = l.lines; begun = l.begun; unanswered = l.unanswered } in
    let e : Entry = Called c.args.line c.args.call.now c.args.reply.now in
    let none : h.away ≡ Nothing = ap (λ (x : LogState). x.away) c.self.view_is ∙ c.requires.none_out in
    let goes : IsSome (after s e) = subst (λ (x : LogState). MayFollow x e) (sym c.self.view_is) c.requires.legal in
    let begun : h.unanswered ≡ true = ap (λ (x : LogState). x.unanswered) c.self.view_is ∙ c.requires.begun in
    let stays : moves_at s e ≡ false = subst (λ (x : LogState). moves_at (state_of x) e ≡ false) (sym c.self.view_is) c.requires.stays in (
      keeps_called l.model l.entries.items c.note.new.entries.items c.args.line c.args.call.now c.args.reply.now l.kept.local c.note.new.kept.local l.home.places l.away l.unanswered
          c.note.ensures.items c.self.invariant.0 none goes stays c.note.ensures.moves,
      within_answered l.model l.entries.items c.note.new.entries.items c.args.line c.args.call.now c.args.reply.now l.lines l.begun c.note.ensures.items c.self.invariant.0.legal goes
          (subst (λ b. IsWithin s (length l.entries.items) l.lines l.begun b) begun c.self.invariant.1),
      omega (arith, c.self.invariant.2, c.note.ensures.capacity),
      omega (arith, c.self.invariant.3, c.note.ensures.len, c.note.ensures.room),
      c.self.invariant.4,
    )

pub returns : goal.returns
returns c =
    let l : _ = c.self.inside in
    let s : LocalState = state_after l.model l.entries.items in
    let h : LogState = record { model = l.model; entries = l.entries.items; home = kept_only s l.home.places; away = l.away; lines = l.lines; begun = l.begun; unanswered = l.unanswered } in
    let e : Entry = Called c.args.line c.args.call.now c.args.reply.now in
    let none : h.away ≡ Nothing = ap (λ (x : LogState). x.away) c.self.view_is ∙ c.requires.none_out in
    let goes : IsSome (after s e) = subst (λ (x : LogState). MayFollow x e) (sym c.self.view_is) c.requires.legal in
    answered_view h c.args.self.now c.note.new.entries.items c.args.line c.args.call.now c.args.reply.now l.home.places l.away (λ x. x.home) c.self.view_is c.note.ensures.items none
    (same_kept l.model l.entries.items e l.home.places c.self.invariant.0.legal goes c.self.invariant.0.in_place.places)
