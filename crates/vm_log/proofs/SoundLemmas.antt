-- A log that is sound stays so with each kind of entry.
use Rattle.std.proofs.Common.{◌≡◌, inl, inr, ℕ, ◌+◌, ◌<◌, Bool, true, false, List, [], ◌∷◌, ◌++◌, length, set, Option, Some, None, IsSome, refl, sym, ◌∙◌, subst, arith, if◌then◌else◌}
use Rattle.std.proofs.lemmas.Bool.{cases_Bool}
use Rattle.v4l_const.specs.declared.errno.Errno.{Errno}
use Rattle.v4l_rules.specs.Refusals.{first_refusal}
use Rattle.vm_frame.specs.Mem.{mem_bytes}
use Rattle.vm_frame.specs.declared.mem.Held.{Held}
use Rattle.vm_frame.specs.declared.mem.Mem.{Mem}
use Rattle.vm_lease.specs.Lease.{LeaseParts, IsOf}
use Rattle.vm_local.specs.declared.call.Call.{Call}
use Rattle.vm_local.specs.declared.call.Call.TheVariants.{QBuf}
use Rattle.vm_local.specs.declared.entry.Entry.{Entry}
use Rattle.vm_local.specs.declared.entry.Entry.TheVariants.{Called, Give}
use Rattle.vm_local.specs.declared.reply.Reply.{Reply}
use Rattle.vm_local.specs.declared.reply.Reply.TheVariants.{Refused}
use Rattle.vm_local.specs.State.{LocalState}
use Rattle.vm_local.specs.Calls.{row_of}
use Rattle.vm_local.specs.Log.{after, called}
use Rattle.vm_local.specs.Record.{without_bytes}
use Rattle.vm_home.specs.Home.{IsMemory, AreInPlace, kept_only}
use Rattle.vm_home.specs.Laws.{IsUnrefused}
use Rattle.vm_home.specs.Moves.{moves_at, goes_along, owes_buffer, touches_bytes, touched, home_with}
use Rattle.vm_home.specs.Reached.{IsReached}
use Rattle.vm_home.specs.ToCome.{IsStep}
use Rattle.vm_home.proofs.FactLemmas.{reached_of}
use Rattle.vm_home.proofs.KeptLemmas.{kept_home}
use Rattle.vm_home.proofs.StillLemmas.{still}
use Rattle.vm_home.proofs.MoveLemmas.{sent_out}
use Rattle.vm_home.proofs.DeviceLemmas.{GivesBack, AlongIs, given_lent, given_home, qbuf_sends}
use Rattle.vm_commute.specs.Commute.{may_cross}
use Rattle.vm_log.specs.LegalLog.{LogState, state_after, state_of, number_away, IsAway, IsWithin, IsSound, Keeps, MayFollow, with_entry, is_lent_to, lease_in}
use Rattle.vm_log.specs.Answers.{with_line, answered_with, replied, Sends, AlongWith, IsMadeBy, Leases, IsDone, first_number, given_with, given_back}
use Rattle.vm_log.specs.Places.{is_opening, settled}
use Rattle.vm_log.specs.declared.away.Away.TheVariants.{Nothing}
use Rattle.vm_log.specs.declared.leased.Leased.{Leased}
use Rattle.vm_log.specs.declared.leased.Leased.TheVariants.{Out, Answered, Idle}
use Rattle.vm_log.proofs.LogLemmas.{leads, legal_more, within_answered, within_step}
use Rattle.vm_log.proofs.KeepLemmas.{made_home, refused_none, with_along, crosses_home, away_stays, Owes, owes_first, may_give, apart_away, keeps_lent, ComesHome, refused_goes}
use Rattle.vm_log.proofs.SettleLemmas.{opens, settled_home}
use Rattle.vm_log.proofs.OutLemmas.{back_comes, MayAnswer}

-- ---- what a sound log keeps

pub keeps_of : (l : LogState) → IsSound l → Keeps l.model l.entries (without_bytes (state_of l)) l.home l.away l.unanswered
keeps_of l sound = record { legal = sound.legal; shown = refl; in_place = sound.in_place; out = sound.out }

reached_by : (l : LogState) → IsSound l → IsReached (state_of l)
reached_by l sound = reached_of l.model l.entries sound.legal

-- none is out
none_placed : (l : LogState) → IsSound l → l.away ≡ Nothing → AreInPlace (state_of l) None l.home
none_placed l sound none = subst (λ a. AreInPlace (state_of l) (number_away (state_of l) a) l.home) none sound.in_place

-- ---- a line is begun

pub line_sound : (l : LogState) → IsSound l → l.away ≡ Nothing → l.unanswered ≡ false → l.begun < l.lines → IsSound (with_line l)
line_sound l sound none answered more =
    let within : IsWithin (state_of l) (length l.entries) l.lines l.begun false = subst (λ b. IsWithin (state_of l) (length l.entries) l.lines l.begun b) answered sound.within in
    record {
      legal = sound.legal;
      in_place = sound.in_place;
      out = subst (λ a. IsAway (state_of l) a true) (sym none) tt;
      within = record { few = omega (arith, more); to_come = omega (arith, within.to_come); made = omega (arith, within.made) };
    }

-- ---- it is answered

answered_sound : (l : LogState) (line : ℕ) (call : Call) (reply : Reply) (home : List (Option Mem)) → IsSound l → l.unanswered ≡ true → MayFollow l (Called line call reply) →
    AreInPlace (state_after l.model (l.entries ++ Called line call reply ∷ [])) None (kept_only (state_after l.model (l.entries ++ Called line call reply ∷ [])) home) →
    IsSound (answered_with l line call reply home)
answered_sound l line call reply home sound begun goes placed = record {
  legal = legal_more l.model l.entries (Called line call reply) sound.legal goes;
  in_place = placed;
  out = tt;
  within = within_answered l.model l.entries (l.entries ++ Called line call reply ∷ []) line call reply l.lines l.begun refl sound.legal goes
      (subst (λ b. IsWithin (state_of l) (length l.entries) l.lines l.begun b) begun sound.within);
}

-- a call that moves no memory
pub called_sound : (l : LogState) (line : ℕ) (call : Call) (reply : Reply) → IsSound l → l.away ≡ Nothing → l.unanswered ≡ true → MayFollow l (Called line call reply) →
    moves_at (state_of l) (Called line call reply) ≡ false → IsSound (answered_with l line call reply l.home)
called_sound l line call reply sound none begun goes stays =
    let e : Entry = Called line call reply in
    let t : LocalState = state_after l.model (l.entries ++ e ∷ []) in
    answered_sound l line call reply l.home sound begun goes
    (kept_home t None l.home (still (state_of l) t e None l.home (reached_by l sound) stays (leads l.model l.entries e sound.legal goes) (none_placed l sound none)))

-- a call that makes user memory
pub made_sound : (l : LogState) (line : ℕ) (call : Call) (reply : Reply) (mem : Mem) → IsSound l → l.away ≡ Nothing → l.unanswered ≡ true → MayFollow l (Called line call reply) →
    IsMadeBy call reply (mem_bytes mem) → IsSound (answered_with l line call reply (l.home ++ Some mem ∷ []))
made_sound l line call reply mem sound none begun goes made =
    let e : Entry = Called line call reply in
    let t : LocalState = state_after l.model (l.entries ++ e ∷ []) in
    answered_sound l line call reply (l.home ++ Some mem ∷ []) sound begun goes
    (kept_home t None (l.home ++ Some mem ∷ [])
    (made_home (state_of l) t line call reply mem l.home (reached_by l sound) (leads l.model l.entries e sound.legal goes) made (none_placed l sound none)))

-- of the memories that are left, those of a handle that is opened are none
same_settled : (s t : LocalState) (line : ℕ) (call : Call) (reply : Reply) (held : List Held) (home : List (Option Mem)) → called s line call reply ≡ Some t →
    kept_only t (settled s call reply held home) ≡ kept_only t (home_with s call held home)
same_settled s t line call reply held home leads =
    elim (cases_Bool (is_opening call reply)) as (λ _. kept_only t (settled s call reply held home) ≡ kept_only t (home_with s call held home)) [
      | inl opening ↦
          let w : _ = opens s t line call reply opening leads in
          subst (λ x. kept_only x (settled s call reply held home) ≡ kept_only x (home_with s call held home)) (sym w.2) refl
      | inr other ↦
          let Q : Bool → Type 0 = λ b. kept_only t (if b then [] else home_with s call held home) ≡ kept_only t (home_with s call held home) in
          subst Q (sym other) refl
    ]

-- a call that crossed
pub replied_sound : (l : LogState) (line : ℕ) (call : Call) (reply : Reply) (held : List Held) → IsSound l → l.unanswered ≡ true → may_cross call ≡ true →
    AlongWith (goes_along (state_of l) call) l.away reply → MayAnswer l.model l.entries line call reply held → IsSound (replied l line call reply held)
replied_sound l line call reply held sound begun crosses along may =
    let e : Entry = Called line call reply in
    let s : LocalState = state_of l in
    let t : LocalState = state_after l.model (l.entries ++ e ∷ []) in
    let at : after s e ≡ Some t = leads l.model l.entries e sound.legal may.goes in
    let settles : AreInPlace t None (settled s call reply held l.home) =
    settled_home s t line call reply held l.home (number_away s l.away) (reached_by l sound) (crosses_home call crosses)
    (λ refused. refused_none s (goes_along s call) l.away reply along refused) (λ _. with_along s (goes_along s call) l.away reply along) at may.come sound.in_place in
    answered_sound l line call reply (home_with s call held l.home) sound begun may.goes
    (subst (λ hs. AreInPlace t None hs) (same_settled s t line call reply held l.home at) (kept_home t None (settled s call reply held l.home) settles))

-- ---- steps of the device

pub stepped_sound : (l : LogState) (e : Entry) → IsSound l → IsStep e → MayFollow l e → moves_at (state_of l) e ≡ false → IsSound (with_entry l e l.home)
stepped_sound l e sound step goes stays =
    let s : LocalState = state_of l in
    let t : LocalState = state_after l.model (l.entries ++ e ∷ []) in
    let at : after s e ≡ Some t = leads l.model l.entries e sound.legal goes in
    let out : _ = away_stays s t e l.away l.unanswered (reached_by l sound) step at sound.out in
    record {
      legal = legal_more l.model l.entries e sound.legal goes;
      in_place = kept_home t (number_away t l.away) l.home
          (subst (λ o. AreInPlace t o l.home) (sym out.0) (still s t e (number_away s l.away) l.home (reached_by l sound) stays at sound.in_place));
      out = out.1;
      within = within_step l.model l.entries (l.entries ++ e ∷ []) e l.lines l.begun l.unanswered refl sound.legal step goes sound.within;
    }

pub given_sound : (l : LogState) (mem : Mem) → IsSound l → owes_buffer (state_of l).owed ≡ true → IsMemory (state_of l) (first_number (state_of l)) mem → IsSound (given_with l mem)
given_sound l mem sound owes is =
    let s : LocalState = state_of l in
    let t : LocalState = state_after l.model (l.entries ++ Give ∷ []) in
    let n : ℕ = first_number s in
    let goes : IsSome (after s Give) = may_give s owes in
    let at : after s Give ≡ Some t = leads l.model l.entries Give sound.legal goes in
    let reached : IsReached s = reached_by l sound in
    let first : Owes s = owes_first s owes in
    let gives : GivesBack s first.queue first.index n = record { rest = first.rest; owed = first.owed; number = first.number } in
    let out : _ = away_stays s t Give l.away l.unanswered reached tt at sound.out in
    record {
      legal = legal_more l.model l.entries Give sound.legal goes;
      in_place = kept_home t (number_away t l.away) (set l.home n (Some mem))
          (subst (λ o. AreInPlace t o (set l.home n (Some mem))) (sym out.0)
          (given_home s t first.queue first.index n mem (number_away s l.away) l.home reached gives at is
          (apart_away s l.away l.unanswered n sound.out (given_lent s first.queue first.index n reached gives).0) sound.in_place));
      out = out.1;
      within = within_step l.model l.entries (l.entries ++ Give ∷ []) Give l.lines l.begun l.unanswered refl sound.legal tt goes sound.within;
    }

-- ---- memories that go out

along_of : (o : Option ℕ) (s : LocalState) (call : Call) (n k : ℕ) → goes_along s call ≡ Some k → AlongIs s call n → AlongIs s call k
along_of o s call n k is along = subst (λ i. AlongIs s call i) (let same : Some n ≡ Some k = sym along.along ∙ is in cc) along

-- the memory that goes along with a call which nothing refuses
along_is : (s : LocalState) (call : Call) (n : ℕ) → IsReached s → goes_along s call ≡ Some n → IsUnrefused s call → AlongIs s call n
along_is s (QBuf t i user used ts) n reached is pass =
    let w : _ = qbuf_sends s 0 0 t i user used ts reached (pass 0 0) in
    along_of None s (QBuf t i user used ts) w.0 n is w.1
along_is s call n reached is pass = cc

pub sent_by_sound : (o : Option ℕ) (l log : LogState) (call : Call) (along : Option Held) → goes_along (state_of l) call ≡ o → IsSound l → l.away ≡ Nothing → l.unanswered ≡ true →
    ((n : ℕ) → o ≡ Some n → IsUnrefused (state_of l) call) → Sends o l call along log → IsSound log
sent_by_sound None l log call along is sound none begun pass sends = subst (λ (x : LogState). IsSound x) (sym sends.1) sound
sent_by_sound (Some n) l log call None is sound none begun pass sends = absurd sends
sent_by_sound (Some n) l log call (Some held) is sound none begun pass sends =
    let s : LocalState = state_of l in
    let goes : AlongIs s call n = along_is s call n (reached_by l sound) is (pass n refl) in
    subst (λ (x : LogState). IsSound x) (sym sends.2) (record {
      legal = sound.legal;
      in_place = sent_out s n l.home (none_placed l sound none);
      out = (begun, goes.unlent);
      within = sound.within;
    })

-- with a lease, or the line is refused
pub leased_sound : (o : Option Errno) (l log : LogState) (line : ℕ) (call : Call) (leased : Leased) → first_refusal (row_of (state_of l) line 0 call).refusals ≡ o → IsSound l → l.away ≡ Nothing →
    l.unanswered ≡ true → touches_bytes call ≡ true → (o ≡ None → IsUnrefused (state_of l) call) → Leases o l line call leased log → IsSound log
leased_sound (Some errno) l log line call Answered refuses sound none begun touches pass is =
    subst (λ (x : LogState). IsSound x) (sym is)
    (called_sound l line call (Refused errno) sound none begun (refused_goes (state_of l) line call errno refuses) refl)
leased_sound None l log line call (Out lease) refuses sound none begun touches pass out =
    let s : LocalState = state_of l in
    let keeps : _ = keeps_lent l.model l.entries line call out.mem out.entry (without_bytes s) l.home l.away l.unanswered (keeps_of l sound) none begun touches (pass refl) out.there
    (subst (λ (x : LeaseParts). IsOf out.entry x) out.lent_out out.noted) in
    subst (λ (x : LogState). IsSound x) (sym out.left) (record { legal = sound.legal; in_place = keeps.in_place; out = keeps.out; within = sound.within })
leased_sound (Some errno) l log line call (Out lease) refuses sound none begun touches pass is = absurd is
leased_sound (Some errno) l log line call Idle refuses sound none begun touches pass is = absurd is
leased_sound None l log line call Answered refuses sound none begun touches pass is = absurd is
leased_sound None l log line call Idle refuses sound none begun touches pass is = absurd is

-- ---- a lease that comes back

pub back_sound : (l : LogState) (lease : LeaseParts) → IsSound l → is_lent_to l.away lease.line ≡ true → IsDone (lease_in l.away) lease → IsSound (given_back l lease)
back_sound l lease sound mine done =
    let s : LocalState = state_of l in
    let t : LocalState = state_after l.model (l.entries ++ Called lease.line lease.call lease.reply ∷ []) in
    let comes : ComesHome l.model l.entries lease l.home × (l.unanswered ≡ true) = back_comes l.model l.entries lease (without_bytes s) l.home l.away l.unanswered (keeps_of l sound) mine done in
    let home : List (Option Mem) = set l.home (touched s lease.call) (Some lease.mem) in
    answered_sound l lease.line lease.call lease.reply home sound comes.1 comes.0.goes (kept_home t None home comes.0.placed)
