use Rattle.std.proofs.Common.{◌≡◌, ◌<◌, ◌*◌, ◌∙◌, ◌++◌, ◌∷◌, [], Some, true, ap, subst, sym, arith, length, set, IsSome}
use Rattle.std.proofs.lemmas.Grind.{common_steps}
use Rattle.vm_local.specs.declared.entry.Entry.TheVariants.{Give}
use Rattle.vm_local.specs.State.{LocalState}
use Rattle.vm_local.specs.Log.{after}
use Rattle.vm_home.specs.Home.{HomeState, IsMemory, kept_only}
use Rattle.vm_home.specs.Moves.{owes_buffer}
use Rattle.vm_log.specs.LegalLog.{LogState, Keeps, state_after, state_of}
use Rattle.vm_log.specs.Answers.{first_number}
use Rattle.vm_log.proofs.LogLemmas.{within_step, room_for_step}
use Rattle.vm_log.proofs.KeepLemmas.{keeps_given, may_give, first_shown}
use Rattle.vm_log.proofs.ViewLemmas.{logged_view, put_kept}
use Rattle.vm_log.proofs.legal_log.LegalLog.give.Goals as goal

pub note-requires-clause-log : goal.note-requires-clause-log
note-requires-clause-log c =
    let l : _ = c.self.inside in
    let s : LocalState = state_after l.model l.entries.items in
    let h : LogState = record { model = l.model; entries = l.entries.items; home = kept_only s l.home.places; away = l.away; lines = l.lines; begun = l.begun; unanswered = l.unanswered } in
    let owes : owes_buffer s.owed ≡ true = subst (λ (x : LogState). owes_buffer (state_of x).owed ≡ true) (sym c.self.view_is) c.requires.owed in
    let goes : IsSome (after s Give) = may_give s owes in
    let room : length l.entries.items < 4 * l.lines = room_for_step l.model l.entries.items Give l.lines l.begun l.unanswered c.self.invariant.0.legal tt goes c.self.invariant.1 in
    let most : _ = c.self.invariant.2 in
    grind (arith, common_steps)

pub note-requires-clause-record : goal.note-requires-clause-record
note-requires-clause-record c =
    let l : _ = c.self.inside in
    let s : LocalState = state_after l.model l.entries.items in
    let h : LogState = record { model = l.model; entries = l.entries.items; home = kept_only s l.home.places; away = l.away; lines = l.lines; begun = l.begun; unanswered = l.unanswered } in
    let owes : owes_buffer s.owed ≡ true = subst (λ (x : LogState). owes_buffer (state_of x).owed ≡ true) (sym c.self.view_is) c.requires.owed in
    let goes : IsSome (after s Give) = may_give s owes in
    let room : length l.entries.items < 4 * l.lines = room_for_step l.model l.entries.items Give l.lines l.begun l.unanswered c.self.invariant.0.legal tt goes c.self.invariant.1 in
    let most : _ = c.self.invariant.3 in
    grind (arith, common_steps)

pub invariant_of-self : goal.invariant_of-self
invariant_of-self c =
    let l : _ = c.self.inside in
    let s : LocalState = state_after l.model l.entries.items in
    let h : LogState = record { model = l.model; entries = l.entries.items; home = kept_only s l.home.places; away = l.away; lines = l.lines; begun = l.begun; unanswered = l.unanswered } in
    let owes : owes_buffer s.owed ≡ true = subst (λ (x : LogState). owes_buffer (state_of x).owed ≡ true) (sym c.self.view_is) c.requires.owed in
    let goes : IsSome (after s Give) = may_give s owes in
    let n : _ = c.number_owed-number.result in
    let number : n ≡ first_number s = first_shown s l.kept.local n c.self.invariant.0.shown c.number_owed-number.ensures in
    let placed : c.put_at.new.home.places ≡ set l.home.places n (Some c.args.mem) = ap (λ (x : HomeState). x.places) c.put_at.ensures in
    let is : IsMemory s (first_number s) c.args.mem = subst (λ (x : LogState). IsMemory (state_of x) (first_number (state_of x)) c.args.mem) (sym c.self.view_is) c.requires.memory in (
      subst (λ hs. Keeps l.model c.note.new.entries.items c.note.new.kept.local hs l.away l.unanswered) (sym placed)
          (keeps_given l.model l.entries.items c.note.new.entries.items n c.args.mem l.kept.local c.note.new.kept.local l.home.places l.away l.unanswered
          c.note.ensures.items c.self.invariant.0 owes number is c.note.ensures.moves),
      within_step l.model l.entries.items c.note.new.entries.items Give l.lines l.begun l.unanswered c.note.ensures.items c.self.invariant.0.legal tt goes c.self.invariant.1,
      omega (arith, c.self.invariant.2, c.note.ensures.capacity),
      omega (arith, c.self.invariant.3, c.note.ensures.len, c.note.ensures.room),
      omega (arith, c.self.invariant.4, ap (λ (x : HomeState). x.room) c.put_at.ensures),
    )

pub returns : goal.returns
returns c =
    let l : _ = c.self.inside in
    let s : LocalState = state_after l.model l.entries.items in
    let h : LogState = record { model = l.model; entries = l.entries.items; home = kept_only s l.home.places; away = l.away; lines = l.lines; begun = l.begun; unanswered = l.unanswered } in
    let owes : owes_buffer s.owed ≡ true = subst (λ (x : LogState). owes_buffer (state_of x).owed ≡ true) (sym c.self.view_is) c.requires.owed in
    let goes : IsSome (after s Give) = may_give s owes in
    let n : _ = c.number_owed-number.result in
    let number : n ≡ first_number s = first_shown s l.kept.local n c.self.invariant.0.shown c.number_owed-number.ensures in
    let placed : c.put_at.new.home.places ≡ set l.home.places n (Some c.args.mem) = ap (λ (x : HomeState). x.places) c.put_at.ensures in
    logged_view h c.args.self.now c.note.new.entries.items Give c.put_at.new.home.places (λ x. set x.home (first_number (state_of x)) (Some c.args.mem)) c.self.view_is c.note.ensures.items
    (ap (λ hs. kept_only (state_after l.model (l.entries.items ++ Give ∷ [])) hs) (placed ∙ ap (λ k. set l.home.places k (Some c.args.mem)) number)
    ∙ put_kept l.model l.entries.items Give l.home.places (first_number s) (Some c.args.mem) c.self.invariant.0.legal goes c.self.invariant.0.in_place.places)
