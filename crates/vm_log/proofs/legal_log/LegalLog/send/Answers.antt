use Rattle.std.proofs.Common.{◌≡◌, ◌∙◌, ℕ, Option, None, IsSome, true, refl, ap, subst, sym, arith, set}
use Rattle.vm_frame.specs.declared.mem.Mem.{Mem}
use Rattle.vm_local.specs.declared.call.Call.{Call}
use Rattle.vm_local.specs.declared.call.Call.TheVariants.{QBuf}
use Rattle.vm_local.specs.State.{LocalState}
use Rattle.vm_home.specs.Home.{HomeState, kept_only}
use Rattle.vm_home.specs.Laws.{IsUnrefused}
use Rattle.vm_log.specs.LegalLog.{LogState, Keeps, state_after, state_of}
use Rattle.vm_log.specs.declared.away.Away.TheVariants.{Nothing, Sent}
use Rattle.vm_log.proofs.KeepLemmas.{keeps_sent}
use Rattle.vm_log.proofs.OutLemmas.{IsReady, is_ready, sends_is}
use Rattle.vm_log.proofs.ViewLemmas.{out_kept, there_kept, sent_view}
use Rattle.vm_log.proofs.legal_log.LegalLog.send.Goals as goal

pub unwrap-mem-requires : goal.unwrap-mem-requires
unwrap-mem-requires c =
    let l : _ = c.self.inside in
    let s : LocalState = state_after l.model l.entries.items in
    let h : LogState = record { model = l.model; entries = l.entries.items; home = kept_only s l.home.places; away = l.away; lines = l.lines; begun = l.begun; unanswered = l.unanswered } in
    let none : h.away ≡ Nothing = ap (λ (x : LogState). x.away) c.self.view_is ∙ c.requires.none_out in
    let call : Call = QBuf c.in-QBuf.t c.in-QBuf.i c.in-QBuf.user c.in-QBuf.used c.in-QBuf.ts in
    let pass : IsUnrefused s call = subst (λ (x : Call). IsUnrefused s x) c.in-QBuf.is (subst (λ (x : LogState). IsUnrefused (state_of x) c.args.call.now) (sym c.self.view_is) c.requires.unrefused) in
    let n : ℕ = c.memory_along-number.result in
    let ready : IsReady s call n l.home.places =
    is_ready l.model l.entries.items c.in-QBuf.t c.in-QBuf.i c.in-QBuf.used c.in-QBuf.ts c.in-QBuf.user n l.kept.local l.home.places l.away l.unanswered
    c.self.invariant.0 none pass c.memory_along-number.ensures in
    subst (λ (o : Option Mem). IsSome o) (sym c.take.ensures.mem) ready.there

pub invariant_of-self : goal.invariant_of-self
invariant_of-self c =
    let l : _ = c.self.inside in
    let s : LocalState = state_after l.model l.entries.items in
    let h : LogState = record { model = l.model; entries = l.entries.items; home = kept_only s l.home.places; away = l.away; lines = l.lines; begun = l.begun; unanswered = l.unanswered } in
    let none : h.away ≡ Nothing = ap (λ (x : LogState). x.away) c.self.view_is ∙ c.requires.none_out in
    let begun : h.unanswered ≡ true = ap (λ (x : LogState). x.unanswered) c.self.view_is ∙ c.requires.begun in
    let call : Call = QBuf c.in-QBuf.t c.in-QBuf.i c.in-QBuf.user c.in-QBuf.used c.in-QBuf.ts in
    let pass : IsUnrefused s call = subst (λ (x : Call). IsUnrefused s x) c.in-QBuf.is (subst (λ (x : LogState). IsUnrefused (state_of x) c.args.call.now) (sym c.self.view_is) c.requires.unrefused) in
    let n : ℕ = c.memory_along-number.result in
    let ready : IsReady s call n l.home.places =
    is_ready l.model l.entries.items c.in-QBuf.t c.in-QBuf.i c.in-QBuf.used c.in-QBuf.ts c.in-QBuf.user n l.kept.local l.home.places l.away l.unanswered
    c.self.invariant.0 none pass c.memory_along-number.ensures in
    let placed : c.take.new.self.places ≡ set l.home.places n None = ap (λ (x : HomeState). x.places) c.take.ensures.home in (
      subst (λ hs. Keeps l.model l.entries.items l.kept.local hs (Sent n) l.unanswered) (sym placed)
          (keeps_sent l.model l.entries.items call n l.kept.local l.home.places l.away l.unanswered c.self.invariant.0 none begun ready.along),
      c.self.invariant.1,
      c.self.invariant.2,
      c.self.invariant.3,
      omega (arith, c.self.invariant.4, ap (λ (x : HomeState). x.room) c.take.ensures.home),
    )

pub returns : goal.returns
returns c =
    let l : _ = c.self.inside in
    let s : LocalState = state_after l.model l.entries.items in
    let h : LogState = record { model = l.model; entries = l.entries.items; home = kept_only s l.home.places; away = l.away; lines = l.lines; begun = l.begun; unanswered = l.unanswered } in
    let none : h.away ≡ Nothing = ap (λ (x : LogState). x.away) c.self.view_is ∙ c.requires.none_out in
    let call : Call = QBuf c.in-QBuf.t c.in-QBuf.i c.in-QBuf.user c.in-QBuf.used c.in-QBuf.ts in
    let pass : IsUnrefused s call = subst (λ (x : Call). IsUnrefused s x) c.in-QBuf.is (subst (λ (x : LogState). IsUnrefused (state_of x) c.args.call.now) (sym c.self.view_is) c.requires.unrefused) in
    let n : ℕ = c.memory_along-number.result in
    let ready : IsReady s call n l.home.places =
    is_ready l.model l.entries.items c.in-QBuf.t c.in-QBuf.i c.in-QBuf.used c.in-QBuf.ts c.in-QBuf.user n l.kept.local l.home.places l.away l.unanswered
    c.self.invariant.0 none pass c.memory_along-number.ensures in
    let placed : c.take.new.self.places ≡ set l.home.places n None = ap (λ (x : HomeState). x.places) c.take.ensures.home in
    sends_is h c.args.self.now call c.args.call.now n _ _ c.self.view_is c.in-QBuf.is ready.along.along (refl, refl)
    (there_kept s l.home.places n ready.along.made ready.along.kept ∙ (sym c.take.ensures.mem ∙ c.unwrap-mem.ensures))
    (sent_view h c.args.self.now c.take.new.self.places (Sent n) n c.self.view_is (ap (λ hs. kept_only s hs) placed ∙ out_kept s l.home.places n))
