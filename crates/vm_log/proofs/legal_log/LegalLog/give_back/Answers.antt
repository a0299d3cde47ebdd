use Rattle.std.proofs.Common.{◌≡◌, ◌∙◌, ◌++◌, ◌∷◌, [], ℕ, Some, IsSome, true, false, refl, ap, subst, sym, arith, length, set}
use Rattle.vm_lease.specs.Lease.{LeaseParts}
use Rattle.vm_local.specs.declared.entry.Entry.{Entry}
use Rattle.vm_local.specs.declared.entry.Entry.TheVariants.{Called}
use Rattle.vm_local.specs.State.{LocalState}
use Rattle.vm_local.specs.Log.{called}
use Rattle.vm_home.specs.Home.{HomeState, kept_only}
use Rattle.vm_home.specs.Moves.{touched}
use Rattle.vm_log.specs.LegalLog.{LogState, Keeps, IsWithin, state_after, state_of, is_lent_to, lease_in}
use Rattle.vm_log.specs.Answers.{IsDone, given_back}
use Rattle.vm_log.specs.declared.away.Away.TheVariants.{Nothing}
use Rattle.vm_log.proofs.LogLemmas.{within_answered}
use Rattle.vm_log.proofs.KeepLemmas.{ComesHome, keeps_back}
use Rattle.vm_log.proofs.OutLemmas.{back_comes, touched_shown}
use Rattle.vm_log.proofs.ViewLemmas.{answered_view, put_kept}
use Rattle.vm_log.proofs.legal_log.LegalLog.give_back.Goals as goal

pub invariant_of-self : goal.invariant_of-self
invariant_of-self c =
    let l : _ = c.self.inside in
    let s : LocalState = state_after l.model l.entries.items in
    let h : LogState = record { model = l.model; entries = l.entries.items; home = kept_only s l.home.places; away = l.away; lines = l.lines; begun = l.begun; unanswered = l.unanswered } in
    let p : LeaseParts = record { line = c.lease.inside.line; call = c.lease.inside.call; mem = c.lease.inside.mem; reply = c.lease.inside.reply } in
    let e : Entry = Called p.line p.call p.reply in
    let mine : is_lent_to l.away p.line ≡ true = sym c.is_lent_to.ensures ∙ c.if-not-is_lent_to.false in
    let done : IsDone (lease_in l.away) p =
    subst (λ (x : LogState). is_lent_to x.away p.line ≡ true → IsDone (lease_in x.away) p) (sym c.self.view_is)
    (subst (λ (q : LeaseParts). is_lent_to c.args.self.now.away q.line ≡ true → IsDone (lease_in c.args.self.now.away) q) (sym c.lease.view_is) c.requires) mine in
    let comes : ComesHome l.model l.entries.items p l.home.places × (l.unanswered ≡ true) = back_comes l.model l.entries.items p l.kept.local l.home.places l.away l.unanswered c.self.invariant.0 mine done in
    let k : ℕ = touched s p.call in
    let number : c.touched-number.result ≡ k = touched_shown s l.kept.local p.call c.touched-number.result c.self.invariant.0.shown c.touched-number.ensures in
    let placed : c.put_at.new.home.places ≡ set l.home.places k (Some p.mem) = ap (λ (x : HomeState). x.places) c.put_at.ensures ∙ ap (λ n. set l.home.places n (Some p.mem)) number in (
      subst (λ hs. Keeps l.model c.note.new.entries.items c.note.new.kept.local hs Nothing false) (sym placed)
          (keeps_back l.model l.entries.items c.note.new.entries.items p l.kept.local c.note.new.kept.local l.home.places l.away l.unanswered
          c.note.ensures.items c.self.invariant.0 comes.0 c.note.ensures.moves),
      within_answered l.model l.entries.items c.note.new.entries.items p.line p.call p.reply l.lines l.begun c.note.ensures.items c.self.invariant.0.legal comes.0.goes
          (subst (λ b. IsWithin s (length l.entries.items) l.lines l.begun b) comes.1 c.self.invariant.1),
      omega (arith, c.self.invariant.2, c.note.ensures.capacity),
      omega (arith, c.self.invariant.3, c.note.ensures.len, c.note.ensures.room),
      omega (arith, c.self.invariant.4, ap (λ (x : HomeState). x.room) c.put_at.ensures),
    )

pub returns-clause-ok : goal.returns-clause-ok
returns-clause-ok c =
    let l : _ = c.self.inside in
    let s : LocalState = state_after l.model l.entries.items in
    let h : LogState = record { model = l.model; entries = l.entries.items; home = kept_only s l.home.places; away = l.away; lines = l.lines; begun = l.begun; unanswered = l.unanswered } in
    let p : LeaseParts = record { line = c.lease.inside.line; call = c.lease.inside.call; mem = c.lease.inside.mem; reply = c.lease.inside.reply } in
    let e : Entry = Called p.line p.call p.reply in
    let mine : is_lent_to l.away p.line ≡ true = sym c.is_lent_to.ensures ∙ c.if-not-is_lent_to.false in
    let done : IsDone (lease_in l.away) p =
    subst (λ (x : LogState). is_lent_to x.away p.line ≡ true → IsDone (lease_in x.away) p) (sym c.self.view_is)
    (subst (λ (q : LeaseParts). is_lent_to c.args.self.now.away q.line ≡ true → IsDone (lease_in c.args.self.now.away) q) (sym c.lease.view_is) c.requires) mine in
    let comes : ComesHome l.model l.entries.items p l.home.places × (l.unanswered ≡ true) = back_comes l.model l.entries.items p l.kept.local l.home.places l.away l.unanswered c.self.invariant.0 mine done in
    let k : ℕ = touched s p.call in
    let number : c.touched-number.result ≡ k = touched_shown s l.kept.local p.call c.touched-number.result c.self.invariant.0.shown c.touched-number.ensures in
    let placed : c.put_at.new.home.places ≡ set l.home.places k (Some p.mem) = ap (λ (x : HomeState). x.places) c.put_at.ensures ∙ ap (λ n. set l.home.places n (Some p.mem)) number in
    answered_view h c.args.self.now c.note.new.entries.items p.line p.call p.reply c.put_at.new.home.places Nothing (λ x. set x.home (touched (state_of x) p.call) (Some p.mem)) c.self.view_is
    c.note.ensures.items refl
    (ap (λ hs. kept_only (state_after l.model (l.entries.items ++ e ∷ [])) hs) placed
    ∙ put_kept l.model l.entries.items e l.home.places k (Some p.mem) c.self.invariant.0.legal comes.0.goes c.self.invariant.0.in_place.places)
    ∙ ap (λ (q : LeaseParts). given_back c.args.self.now q) c.lease.view_is

pub returns-clause-legal : goal.returns-clause-legal
returns-clause-legal c =
    let l : _ = c.self.inside in
    let s : LocalState = state_after l.model l.entries.items in
    let p : LeaseParts = record { line = c.lease.inside.line; call = c.lease.inside.call; mem = c.lease.inside.mem; reply = c.lease.inside.reply } in
    let mine : is_lent_to l.away p.line ≡ true = sym c.is_lent_to.ensures ∙ c.if-not-is_lent_to.false in
    let done : IsDone (lease_in l.away) p =
    subst (λ (x : LogState). is_lent_to x.away p.line ≡ true → IsDone (lease_in x.away) p) (sym c.self.view_is)
    (subst (λ (q : LeaseParts). is_lent_to c.args.self.now.away q.line ≡ true → IsDone (lease_in c.args.self.now.away) q) (sym c.lease.view_is) c.requires) mine in
    let comes : ComesHome l.model l.entries.items p l.home.places × (l.unanswered ≡ true) = back_comes l.model l.entries.items p l.kept.local l.home.places l.away l.unanswered c.self.invariant.0 mine done in
    subst (λ (x : LogState). IsSome (called (state_of x) c.args.lease.line c.args.lease.call c.args.lease.reply)) c.self.view_is
    (subst (λ (q : LeaseParts). IsSome (called s q.line q.call q.reply)) c.lease.view_is comes.0.goes)
