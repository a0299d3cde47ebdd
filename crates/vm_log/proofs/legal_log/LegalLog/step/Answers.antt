use Rattle.std.proofs.Common.{◌≡◌, ◌<◌, ◌*◌, false, subst, sym, arith, length, IsSome}
use Rattle.std.proofs.lemmas.Grind.{common_steps}
use Rattle.vm_local.specs.declared.entry.Entry.{Entry}
use Rattle.vm_local.specs.State.{LocalState}
use Rattle.vm_local.specs.Log.{after}
use Rattle.vm_home.specs.Home.{kept_only}
use Rattle.vm_home.specs.Moves.{moves_at}
use Rattle.vm_log.specs.LegalLog.{LogState, state_after, state_of, MayFollow}
use Rattle.vm_log.proofs.LogLemmas.{within_step, room_for_step}
use Rattle.vm_log.proofs.KeepLemmas.{keeps_stepped}
use Rattle.vm_log.proofs.ViewLemmas.{logged_view, same_kept}
use Rattle.vm_log.proofs.legal_log.LegalLog.step.Goals as goal

pub note-requires-clause-log : goal.note-requires-clause-log
note-requires-clause-log c =
    let l : _ = c.self.inside in
    let s : LocalState = state_after l.model l.entries.items in
    let h : LogState = record { model = l.model; entries = l.entries.items; home = kept_only s l.home.places; away = l.away; lines = l.lines; begun = l.begun; unanswered = l.unanswered } in
    let e : Entry = c.args.entry.now in
    let goes : IsSome (after s e) = subst (λ (x : LogState). MayFollow x e) (sym c.self.view_is) c.requires.legal in
    let room : length l.entries.items < 4 * l.lines = room_for_step l.model l.entries.items e l.lines l.begun l.unanswered c.self.invariant.0.legal c.requires.step goes c.self.invariant.1 in
    let most : _ = c.self.invariant.2 in
    grind (arith, common_steps)

pub note-requires-clause-record : goal.note-requires-clause-record
note-requires-clause-record c =
    let l : _ = c.self.inside in
    let s : LocalState = state_after l.model l.entries.items in
    let h : LogState = record { model = l.model; entries = l.entries.items; home = kept_only s l.home.places; away = l.away; lines = l.lines; begun = l.begun; unanswered = l.unanswered } in
    let e : Entry = c.args.entry.now in
    let goes : IsSome (after s e) = subst (λ (x : LogState). MayFollow x e) (sym c.self.view_is) c.requires.legal in
    let room : length l.entries.items < 4 * l.lines = room_for_step l.model l.entries.items e l.lines l.begun l.unanswered c.self.invariant.0.legal c.requires.step goes c.self.invariant.1 in
    let most : _ = c.self.invariant.3 in
    grind (arith, common_steps)

pub invariant_of-self : goal.invariant_of-self
invariant_of-self c =
    let l : _ = c.self.inside in
    let s : LocalState = state_after l.model l.entries.items in
    let h : LogState = record { model = l.model; entries = l.entries.items; home = kept_only s l.home.places; away = l.away; lines = l.lines; begun = l.begun; unanswered = l.unanswered } in
    let e : Entry = c.args.entry.now in
    let goes : IsSome (after s e) = subst (λ (x : LogState). MayFollow x e) (sym c.self.view_is) c.requires.legal in
    let stays : moves_at s e ≡ false = subst (λ (x : LogState). moves_at (state_of x) e ≡ false) (sym c.self.view_is) c.requires.stays in (
      keeps_stepped l.model l.entries.items c.note.new.entries.items e l.kept.local c.note.new.kept.local l.home.places l.away l.unanswered
          c.note.ensures.items c.self.invariant.0 c.requires.step goes stays c.note.ensures.moves,
      within_step l.model l.entries.items c.note.new.entries.items e l.lines l.begun l.unanswered c.note.ensures.items c.self.invariant.0.legal c.requires.step goes c.self.invariant.1,
      omega (arith, c.self.invariant.2, c.note.ensures.capacity),
      omega (arith, c.self.invariant.3, c.note.ensures.len, c.note.ensures.room),
      c.self.invariant.4,
    )

pub returns : goal.returns
returns c =
    let l : _ = c.self.inside in
    let s : LocalState = state_after l.model l.entries.items in
    let h : LogState = record { model = l.model; entries = l.entries.items; home = kept_only s l.home.places; away = l.away; lines = l.lines; begun = l.begun; unanswered = l.unanswered } in
    let e : Entry = c.args.entry.now in
    let goes : IsSome (after s e) = subst (λ (x : LogState). MayFollow x e) (sym c.self.view_is) c.requires.legal in
    logged_view h c.args.self.now c.note.new.entries.items e l.home.places (λ x. x.home) c.self.view_is c.note.ensures.items
    (same_kept l.model l.entries.items e l.home.places c.self.invariant.0.legal goes c.self.invariant.0.in_place.places)
