use Rattle.std.proofs.Common.{◌≡◌, ◌∙◌, ℕ, Option, Some, None, IsSome, true, refl, ap, subst, sym, arith, length, set}
use Rattle.v4l_rules.specs.Refusals.{first_refusal}
use Rattle.vm_frame.specs.declared.mem.Mem.{Mem}
use Rattle.vm_lease.specs.Lease.{LeaseParts, IsOf, lent}
use Rattle.vm_local.specs.declared.entry.Entry.TheVariants.{Called}
use Rattle.vm_local.specs.declared.reply.Reply.TheVariants.{Refused}
use Rattle.vm_local.specs.State.{LocalState}
use Rattle.vm_local.specs.Calls.{row_of}
use Rattle.vm_local.specs.Log.{called}
use Rattle.vm_home.specs.Home.{HomeState, home_of, kept_only}
use Rattle.vm_home.specs.Laws.{IsUnrefused}
use Rattle.vm_home.specs.Moves.{touched}
use Rattle.vm_log.specs.LegalLog.{LogState, Keeps, IsWithin, state_after, state_of}
use Rattle.vm_log.specs.declared.away.Away.TheVariants.{Nothing, Lent}
use Rattle.vm_log.proofs.LogLemmas.{within_answered}
use Rattle.vm_log.proofs.KeepLemmas.{keeps_called, keeps_lent, refused_goes}
use Rattle.vm_log.proofs.OutLemmas.{IsLendable, is_lendable, touched_shown, leases_refused, leases_out}
use Rattle.vm_log.proofs.ViewLemmas.{answered_view, same_kept, out_kept, there_kept, sent_view}
use Rattle.vm_log.proofs.legal_log.LegalLog.lease.Goals as goal

pub invariant_of-self : goal.invariant_of-self
invariant_of-self c =
    let l : _ = c.self.inside in
    let s : LocalState = state_after l.model l.entries.items in
    let h : LogState = record { model = l.model; entries = l.entries.items; home = kept_only s l.home.places; away = l.away; lines = l.lines; begun = l.begun; unanswered = l.unanswered } in
    let none : h.away ≡ Nothing = ap (λ (x : LogState). x.away) c.self.view_is ∙ c.requires.none_out in
    let begun : h.unanswered ≡ true = ap (λ (x : LogState). x.unanswered) c.self.view_is ∙ c.requires.begun in
    let errno : _ = c.in-Some.errno in
    let refuses : first_refusal (row_of s c.args.line 0 c.args.call.now).refusals ≡ Some errno = sym (c.refusal.ensures s c.self.invariant.0.shown c.args.line 0) ∙ c.in-Some.is in
    let goes : IsSome (called s c.args.line c.args.call.now (Refused errno)) = refused_goes s c.args.line c.args.call.now errno refuses in (
      keeps_called l.model l.entries.items c.note.new.entries.items c.args.line c.args.call.now (Refused errno) l.kept.local c.note.new.kept.local l.home.places l.away l.unanswered
          c.note.ensures.items c.self.invariant.0 none goes refl c.note.ensures.moves,
      within_answered l.model l.entries.items c.note.new.entries.items c.args.line c.args.call.now (Refused errno) l.lines l.begun c.note.ensures.items c.self.invariant.0.legal goes
          (subst (λ b. IsWithin s (length l.entries.items) l.lines l.begun b) begun c.self.invariant.1),
      omega (arith, c.self.invariant.2, c.note.ensures.capacity),
      omega (arith, c.self.invariant.3, c.note.ensures.len, c.note.ensures.room),
      c.self.invariant.4,
    )

pub returns-in-Some : goal.returns-in-Some
returns-in-Some c =
    let l : _ = c.self.inside in
    let s : LocalState = state_after l.model l.entries.items in
    let h : LogState = record { model = l.model; entries = l.entries.items; home = kept_only s l.home.places; away = l.away; lines = l.lines; begun = l.begun; unanswered = l.unanswered } in
    let none : h.away ≡ Nothing = ap (λ (x : LogState). x.away) c.self.view_is ∙ c.requires.none_out in
    let errno : _ = c.in-Some.errno in
    let refuses : first_refusal (row_of s c.args.line 0 c.args.call.now).refusals ≡ Some errno = sym (c.refusal.ensures s c.self.invariant.0.shown c.args.line 0) ∙ c.in-Some.is in
    let goes : IsSome (called s c.args.line c.args.call.now (Refused errno)) = refused_goes s c.args.line c.args.call.now errno refuses in
    leases_refused h c.args.self.now c.args.line c.args.call.now errno _ c.self.view_is refuses
    (answered_view h c.args.self.now c.note.new.entries.items c.args.line c.args.call.now (Refused errno) l.home.places l.away (λ x. x.home) c.self.view_is c.note.ensures.items none
    (same_kept l.model l.entries.items (Called c.args.line c.args.call.now (Refused errno)) l.home.places c.self.invariant.0.legal goes c.self.invariant.0.in_place.places))

pub unwrap-mem-requires : goal.unwrap-mem-requires
unwrap-mem-requires c =
    let l : _ = c.self.inside in
    let s : LocalState = state_after l.model l.entries.items in
    let h : LogState = record { model = l.model; entries = l.entries.items; home = kept_only s l.home.places; away = l.away; lines = l.lines; begun = l.begun; unanswered = l.unanswered } in
    let none : h.away ≡ Nothing = ap (λ (x : LogState). x.away) c.self.view_is ∙ c.requires.none_out in
    let pass : IsUnrefused s c.args.call.now = λ line addr. sym (c.refusal.ensures s c.self.invariant.0.shown line addr) ∙ c.in_default.is in
    let can : IsLendable s c.args.call.now l.home.places =
    is_lendable l.model l.entries.items c.args.call.now l.kept.local l.home.places l.away l.unanswered c.self.invariant.0 none c.requires.payload c.requires.few pass in
    let k : ℕ = touched s c.args.call.now in
    let number : c.touched-number.result ≡ k = touched_shown s l.kept.local c.args.call.now c.touched-number.result c.self.invariant.0.shown c.touched-number.ensures in
    subst (λ (o : Option Mem). IsSome o) (sym (c.take.ensures.mem ∙ ap (λ n. home_of l.home.places n) number)) can.there

pub new-lease-requires : goal.new-lease-requires
new-lease-requires c =
    let l : _ = c.self.inside in
    let s : LocalState = state_after l.model l.entries.items in
    let h : LogState = record { model = l.model; entries = l.entries.items; home = kept_only s l.home.places; away = l.away; lines = l.lines; begun = l.begun; unanswered = l.unanswered } in
    let none : h.away ≡ Nothing = ap (λ (x : LogState). x.away) c.self.view_is ∙ c.requires.none_out in
    let pass : IsUnrefused s c.args.call.now = λ line addr. sym (c.refusal.ensures s c.self.invariant.0.shown line addr) ∙ c.in_default.is in
    let can : IsLendable s c.args.call.now l.home.places =
    is_lendable l.model l.entries.items c.args.call.now l.kept.local l.home.places l.away l.unanswered c.self.invariant.0 none c.requires.payload c.requires.few pass in
    let k : ℕ = touched s c.args.call.now in
    let number : c.touched-number.result ≡ k = touched_shown s l.kept.local c.args.call.now c.touched-number.result c.self.invariant.0.shown c.touched-number.ensures in
    let there : home_of l.home.places k ≡ Some c.unwrap-mem.result = ap (λ n. home_of l.home.places n) (sym number) ∙ (sym c.take.ensures.mem ∙ c.unwrap-mem.ensures) in
    can.within c.unwrap-mem.result there

pub invariant_of-self-2 : goal.invariant_of-self-2
invariant_of-self-2 c =
    let l : _ = c.self.inside in
    let s : LocalState = state_after l.model l.entries.items in
    let h : LogState = record { model = l.model; entries = l.entries.items; home = kept_only s l.home.places; away = l.away; lines = l.lines; begun = l.begun; unanswered = l.unanswered } in
    let none : h.away ≡ Nothing = ap (λ (x : LogState). x.away) c.self.view_is ∙ c.requires.none_out in
    let begun : h.unanswered ≡ true = ap (λ (x : LogState). x.unanswered) c.self.view_is ∙ c.requires.begun in
    let pass : IsUnrefused s c.args.call.now = λ line addr. sym (c.refusal.ensures s c.self.invariant.0.shown line addr) ∙ c.in_default.is in
    let can : IsLendable s c.args.call.now l.home.places =
    is_lendable l.model l.entries.items c.args.call.now l.kept.local l.home.places l.away l.unanswered c.self.invariant.0 none c.requires.payload c.requires.few pass in
    let k : ℕ = touched s c.args.call.now in
    let number : c.touched-number.result ≡ k = touched_shown s l.kept.local c.args.call.now c.touched-number.result c.self.invariant.0.shown c.touched-number.ensures in
    let there : home_of l.home.places k ≡ Some c.unwrap-mem.result = ap (λ n. home_of l.home.places n) (sym number) ∙ (sym c.take.ensures.mem ∙ c.unwrap-mem.ensures) in
    let placed : c.take.new.self.places ≡ set l.home.places k None = ap (λ (x : HomeState). x.places) c.take.ensures.home ∙ ap (λ n. set l.home.places n None) number in
    let noted : IsOf c.entry_of.result (lent c.args.line c.args.call.now c.unwrap-mem.result) = subst (λ (x : LeaseParts). IsOf c.entry_of.result x) c.new-lease.ensures c.entry_of.ensures in (
      subst (λ hs. Keeps l.model l.entries.items l.kept.local hs (Lent c.entry_of.result) l.unanswered) (sym placed)
          (keeps_lent l.model l.entries.items c.args.line c.args.call.now c.unwrap-mem.result c.entry_of.result l.kept.local l.home.places l.away l.unanswered
          c.self.invariant.0 none begun c.requires.payload pass there noted),
      c.self.invariant.1,
      c.self.invariant.2,
      c.self.invariant.3,
      omega (arith, c.self.invariant.4, ap (λ (x : HomeState). x.room) c.take.ensures.home),
    )

pub returns : goal.returns
returns c =
    let l : _ = c.self.inside in
    let s : LocalState = state_after l.model l.entries.items in
    let h : LogState = record { model = l.model; entries = l.entries.items; home = kept_only s l.home.places; away = l.away; lines = l.lines; begun = l.begun; unanswered = l.unanswered } in
    let none : h.away ≡ Nothing = ap (λ (x : LogState). x.away) c.self.view_is ∙ c.requires.none_out in
    let pass : IsUnrefused s c.args.call.now = λ line addr. sym (c.refusal.ensures s c.self.invariant.0.shown line addr) ∙ c.in_default.is in
    let can : IsLendable s c.args.call.now l.home.places =
    is_lendable l.model l.entries.items c.args.call.now l.kept.local l.home.places l.away l.unanswered c.self.invariant.0 none c.requires.payload c.requires.few pass in
    let k : ℕ = touched s c.args.call.now in
    let number : c.touched-number.result ≡ k = touched_shown s l.kept.local c.args.call.now c.touched-number.result c.self.invariant.0.shown c.touched-number.ensures in
    let there : home_of l.home.places k ≡ Some c.unwrap-mem.result = ap (λ n. home_of l.home.places n) (sym number) ∙ (sym c.take.ensures.mem ∙ c.unwrap-mem.ensures) in
    let placed : c.take.new.self.places ≡ set l.home.places k None = ap (λ (x : HomeState). x.places) c.take.ensures.home ∙ ap (λ n. set l.home.places n None) number in
    let g : LogState = c.args.self.now in
    let at : home_of h.home k ≡ Some c.unwrap-mem.result = there_kept s l.home.places k can.made can.kept ∙ there in
    leases_out h g c.args.line c.args.call.now c.new-lease.result _ c.self.view_is (pass c.args.line 0) (record {
      mem = c.unwrap-mem.result;
      entry = c.entry_of.result;
      there = subst (λ (x : LogState). home_of x.home (touched (state_of x) c.args.call.now) ≡ Some c.unwrap-mem.result) c.self.view_is at;
      lent_out = c.new-lease.ensures;
      noted = c.entry_of.ensures;
      left = sent_view h g c.take.new.self.places (Lent c.entry_of.result) k c.self.view_is (ap (λ hs. kept_only s hs) placed ∙ out_kept s l.home.places k)
          ∙ ap (λ n. record g { home = set g.home n None; away = Lent c.entry_of.result }) (ap (λ (x : LogState). touched (state_of x) c.args.call.now) c.self.view_is);
    })
