use Rattle.std.proofs.Common.{◌≡◌, ◌∙◌, ◌++◌, ◌∷◌, [], List, Some, true, refl, ap, subst, sym, arith, length}
use Rattle.vm_frame.specs.declared.mem.Held.{Held}
use Rattle.vm_local.specs.declared.entry.Entry.{Entry}
use Rattle.vm_local.specs.declared.entry.Entry.TheVariants.{Called}
use Rattle.vm_local.specs.State.{LocalState}
use Rattle.vm_local.specs.Log.{called, IsCall}
use Rattle.vm_local.specs.Record.{without_bytes}
use Rattle.vm_home.specs.Home.{kept_only}
use Rattle.vm_home.specs.Moves.{goes_along, ComeWith, home_with}
use Rattle.vm_home.specs.Reached.{IsReached}
use Rattle.vm_home.proofs.FactLemmas.{reached_of}
use Rattle.vm_log.specs.LegalLog.{LogState, IsWithin, state_after, state_of}
use Rattle.vm_log.specs.Answers.{AlongWith}
use Rattle.vm_log.specs.Places.{LetsGo, settled}
use Rattle.vm_log.specs.declared.away.Away.TheVariants.{Nothing}
use Rattle.vm_log.proofs.LogLemmas.{leads, within_answered}
use Rattle.vm_log.proofs.HomeLemmas.{lets_go_kept}
use Rattle.vm_log.proofs.SettleLemmas.{settled_kept}
use Rattle.vm_log.proofs.KeepLemmas.{keeps_replied}
use Rattle.vm_log.proofs.OutLemmas.{MayAnswer, may_answer}
use Rattle.vm_log.proofs.ViewLemmas.{answered_view}
use Rattle.vm_log.proofs.legal_log.LegalLog.reply.Goals as goal

pub invariant_of-self : goal.invariant_of-self
invariant_of-self c =
    let l : _ = c.self.inside in
    let s : LocalState = state_after l.model l.entries.items in
    let h : LogState = record { model = l.model; entries = l.entries.items; home = kept_only s l.home.places; away = l.away; lines = l.lines; begun = l.begun; unanswered = l.unanswered } in
    let begun : h.unanswered ≡ true = ap (λ (x : LogState). x.unanswered) c.self.view_is ∙ c.requires.begun in
    let e : Entry = Called c.args.line c.args.call.now c.args.reply.now in
    let held : List Held = c.args.held.now.items in
    let said : _ = subst (λ (x : LogState). (next : LocalState) × IsCall (state_of x) c.args.line c.args.call.now c.args.reply.now next × ComeWith (state_of x) next c.args.call.now c.args.reply.now held) (sym c.self.view_is) c.requires.answer in
    let may : MayAnswer l.model l.entries.items c.args.line c.args.call.now c.args.reply.now held =
    may_answer l.model l.entries.items c.args.line c.args.call.now c.args.reply.now held said.0 c.self.invariant.0.legal said.1 said.2 in
    let t : LocalState = state_after l.model (l.entries.items ++ e ∷ []) in
    let reached : IsReached s = reached_of l.model l.entries.items c.self.invariant.0.legal in
    let at : called s c.args.line c.args.call.now c.args.reply.now ≡ Some t = leads l.model l.entries.items e c.self.invariant.0.legal may.goes in
    let settles : c.settle.new.home.places ≡ settled s c.args.call.now c.args.reply.now held l.home.places = c.settle.ensures.home s t c.args.line reached c.self.invariant.0.shown at may.come in
    let along : AlongWith (goes_along s c.args.call.now) l.away c.args.reply.now = subst (λ (x : LogState). AlongWith (goes_along (state_of x) c.args.call.now) x.away c.args.reply.now) (sym c.self.view_is) c.requires.along in (
      keeps_replied l.model l.entries.items c.note.new.entries.items c.args.line c.args.call.now c.args.reply.now held l.kept.local c.note.new.kept.local l.home.places c.settle.new.home.places
          c.let_go.new.home.places l.away l.unanswered c.note.ensures.items c.self.invariant.0 c.requires.crosses along may.goes may.come settles c.let_go.ensures.home c.note.ensures.moves,
      within_answered l.model l.entries.items c.note.new.entries.items c.args.line c.args.call.now c.args.reply.now l.lines l.begun c.note.ensures.items c.self.invariant.0.legal may.goes
          (subst (λ b. IsWithin s (length l.entries.items) l.lines l.begun b) begun c.self.invariant.1),
      omega (arith, c.self.invariant.2, c.note.ensures.capacity),
      omega (arith, c.self.invariant.3, c.note.ensures.len, c.note.ensures.room),
      omega (arith, c.self.invariant.4, c.settle.ensures.room, c.let_go.ensures.room),
    )

pub returns-clause-log : goal.returns-clause-log
returns-clause-log c =
    let l : _ = c.self.inside in
    let s : LocalState = state_after l.model l.entries.items in
    let h : LogState = record { model = l.model; entries = l.entries.items; home = kept_only s l.home.places; away = l.away; lines = l.lines; begun = l.begun; unanswered = l.unanswered } in
    let e : Entry = Called c.args.line c.args.call.now c.args.reply.now in
    let held : List Held = c.args.held.now.items in
    let said : _ = subst (λ (x : LogState). (next : LocalState) × IsCall (state_of x) c.args.line c.args.call.now c.args.reply.now next × ComeWith (state_of x) next c.args.call.now c.args.reply.now held) (sym c.self.view_is) c.requires.answer in
    let may : MayAnswer l.model l.entries.items c.args.line c.args.call.now c.args.reply.now held =
    may_answer l.model l.entries.items c.args.line c.args.call.now c.args.reply.now held said.0 c.self.invariant.0.legal said.1 said.2 in
    let t : LocalState = state_after l.model (l.entries.items ++ e ∷ []) in
    let reached : IsReached s = reached_of l.model l.entries.items c.self.invariant.0.legal in
    let at : called s c.args.line c.args.call.now c.args.reply.now ≡ Some t = leads l.model l.entries.items e c.self.invariant.0.legal may.goes in
    let settles : c.settle.new.home.places ≡ settled s c.args.call.now c.args.reply.now held l.home.places = c.settle.ensures.home s t c.args.line reached c.self.invariant.0.shown at may.come in
    let shown : c.note.new.kept.local ≡ without_bytes t = c.note.ensures.moves s t c.self.invariant.0.shown at in
    let go : LetsGo (without_bytes t) c.settle.new.home.places c.let_go.new.home.places = subst (λ x. LetsGo x c.settle.new.home.places c.let_go.new.home.places) shown c.let_go.ensures.home in
    answered_view h c.args.self.now c.note.new.entries.items c.args.line c.args.call.now c.args.reply.now c.let_go.new.home.places Nothing (λ x. home_with (state_of x) c.args.call.now held x.home)
    c.self.view_is c.note.ensures.items refl
    (lets_go_kept t c.settle.new.home.places c.let_go.new.home.places (record { places = go.places; kept = go.kept; gone = go.gone })
    ∙ (ap (λ hs. kept_only t hs) settles ∙ settled_kept s t c.args.line c.args.call.now c.args.reply.now held l.home.places reached at c.self.invariant.0.in_place.places))
