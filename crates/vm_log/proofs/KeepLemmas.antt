-- What a log keeps with each kind of entry.
use Rattle.std.proofs.Common.{◌≡◌, ℕ, Bool, true, false, List, [], ◌∷◌, ◌++◌, set, Option, Some, None, IsSome, refl, sym, ap, ◌∙◌, subst}
use Rattle.std.proofs.lemmas.Bool.{false≢true, true≢false}
use Rattle.v4l_const.specs.declared.errno.Errno.{Errno}
use Rattle.v4l_const.specs.declared.model.Model.{Model}
use Rattle.v4l_rules.specs.Refusals.{first_refusal}
use Rattle.vm_frame.specs.Mem.{mem_bytes}
use Rattle.vm_frame.specs.declared.mem.Held.{Held}
use Rattle.vm_frame.specs.declared.mem.Mem.{Mem}
use Rattle.vm_lease.specs.Lease.{LeaseParts, IsOf, CameBackDone, lent}
use Rattle.vm_lease.specs.declared.lease_out.LeaseOut.{LeaseOut}
use Rattle.vm_local.specs.declared.call.Call.{Call}
use Rattle.vm_local.specs.declared.call.Call.TheVariants.{UAlloc, Poke, Fill}
use Rattle.vm_local.specs.declared.entry.Entry.{Entry}
use Rattle.vm_local.specs.declared.entry.Entry.TheVariants.{Called, Give}
use Rattle.vm_local.specs.declared.owed.Owed.{Owed}
use Rattle.vm_local.specs.declared.owed.OwedItem.{OwedItem}
use Rattle.vm_local.specs.declared.owed.OwedItem.TheVariants.{Buffer as OwedBuffer, Sync}
use Rattle.vm_local.specs.declared.reply.Reply.{Reply}
use Rattle.vm_local.specs.declared.reply.Reply.TheVariants.{Pages, Refused}
use Rattle.vm_local.specs.State.{LocalState}
use Rattle.vm_local.specs.Memory.{is_lent, is_just}
use Rattle.vm_local.specs.Same.{same_reply}
use Rattle.vm_local.specs.Calls.{Row, row_of}
use Rattle.vm_local.specs.Steps.{given, given_from}
use Rattle.vm_local.specs.Log.{after, called, answered}
use Rattle.vm_local.specs.Record.{without_bytes}
use Rattle.vm_local.proofs.KeptLemmas.{some_same}
use Rattle.vm_local.proofs.SameLemmas.{same_reply_decides}
use Rattle.vm_home.specs.Home.{home_of, IsMemory, IsThere, AreInPlace}
use Rattle.vm_home.specs.Laws.{IsUnrefused}
use Rattle.vm_home.specs.Moves.{is_refusal, is_buffer, moves_at, goes_along, owes_buffer, memory_at, touches_bytes, touched, ComeWith}
use Rattle.vm_home.specs.Reached.{IsReached}
use Rattle.vm_home.specs.ToCome.{IsStep}
use Rattle.vm_home.proofs.PlaceLemmas.{fails, lent_less, device_less}
use Rattle.vm_home.proofs.FactLemmas.{reached_of}
use Rattle.vm_home.proofs.StillLemmas.{still}
use Rattle.vm_home.proofs.StepLemmas.{StepsTo, steps_to}
use Rattle.vm_home.proofs.MoveLemmas.{lent_apart, sent_out, ualloc_home}
use Rattle.vm_home.proofs.DeviceLemmas.{AlongIs, GivesBack, given_lent, given_home}
use Rattle.vm_home.proofs.PayloadLemmas.{touches_it, touched_home, still_touches}
use Rattle.vm_home.proofs.LawLemmas.{touched_back}
use Rattle.vm_commute.specs.Commute.{may_cross}
use Rattle.vm_home.proofs.ReplyLemmas.{may_cross as may_cross_home}
use Rattle.vm_log.specs.LegalLog.{state_after, number_away, IsAway, Keeps}
use Rattle.vm_log.specs.Answers.{AlongWith, IsMadeBy, number_in, number_owed, first_number}
use Rattle.vm_log.specs.Places.{LetsGo, settled}
use Rattle.vm_log.specs.declared.away.Away.{Away}
use Rattle.vm_log.specs.declared.away.Away.TheVariants.{Nothing, Sent, Lent}
use Rattle.vm_log.proofs.LogLemmas.{leads, Moves, keeps_more}
use Rattle.vm_log.proofs.HomeLemmas.{lets_go_home}
use Rattle.vm_log.proofs.SettleLemmas.{settled_home}

-- ---- calls

-- a call that moves no memory
pub keeps_called : (m : Model) (log items : List Entry) (line : ℕ) (call : Call) (reply : Reply) (kept moved : LocalState) (home : List (Option Mem)) (away : Away) (was : Bool) →
    items ≡ log ++ Called line call reply ∷ [] → Keeps m log kept home away was → away ≡ Nothing → IsSome (called (state_after m log) line call reply) →
    moves_at (state_after m log) (Called line call reply) ≡ false → Moves (Called line call reply) kept moved → Keeps m items moved home away false
keeps_called m log items line call reply kept moved home away was same keeps none goes stays moves =
    let e : Entry = Called line call reply in
    let P : Away → Type 0 = λ a. Keeps m log kept home a was → Keeps m items moved home a false in
    subst P (sym none) (λ k. keeps_more m log items e kept moved home home Nothing Nothing was false same k goes moves
    (still (state_after m log) (state_after m (log ++ e ∷ [])) e None home (reached_of m log k.legal) stays (leads m log e k.legal goes) k.in_place) tt) keeps

-- a call that makes user memory
pub made_home : (s t : LocalState) (line : ℕ) (call : Call) (reply : Reply) (mem : Mem) (home : List (Option Mem)) → IsReached s → called s line call reply ≡ Some t →
    IsMadeBy call reply (mem_bytes mem) → AreInPlace s None home → AreInPlace t None (home ++ Some mem ∷ [])
made_home s t line (UAlloc u len off) (Pages pages) mem home reached goes made h = ualloc_home s t line u len off pages mem home reached goes made h
made_home s t line (UAlloc u len off) reply mem home reached goes made h = absurd made
made_home s t line call reply mem home reached goes made h = absurd made

pub keeps_made : (m : Model) (log items : List Entry) (line : ℕ) (call : Call) (reply : Reply) (mem : Mem) (kept moved : LocalState) (home : List (Option Mem)) (away : Away) (was : Bool) →
    items ≡ log ++ Called line call reply ∷ [] → Keeps m log kept home away was → away ≡ Nothing → IsSome (called (state_after m log) line call reply) →
    IsMadeBy call reply (mem_bytes mem) → Moves (Called line call reply) kept moved → Keeps m items moved (home ++ Some mem ∷ []) away false
keeps_made m log items line call reply mem kept moved home away was same keeps none goes made moves =
    let e : Entry = Called line call reply in
    let P : Away → Type 0 = λ a. Keeps m log kept home a was → Keeps m items moved (home ++ Some mem ∷ []) a false in
    subst P (sym none) (λ k. keeps_more m log items e kept moved home (home ++ Some mem ∷ []) Nothing Nothing was false same k goes moves
    (made_home (state_after m log) (state_after m (log ++ e ∷ [])) line call reply mem home (reached_of m log k.legal) (leads m log e k.legal goes) made k.in_place) tt) keeps

-- what is out with a call that is answered
pub refused_none : (s : LocalState) (along : Option ℕ) (away : Away) (reply : Reply) → AlongWith along away reply → is_refusal reply ≡ true → number_away s away ≡ None
refused_none s None away reply with is = ap (λ a. number_away s a) with
refused_none s (Some number) away reply with is = absurd (true≢false (sym is ∙ with.1))

pub with_along : (s : LocalState) (along : Option ℕ) (away : Away) (reply : Reply) → AlongWith along away reply → number_away s away ≡ along
with_along s None away reply with = ap (λ a. number_away s a) with
with_along s (Some number) away reply with = ap (λ a. number_away s a) with.0

pub crosses_home : (call : Call) → may_cross call ≡ true → may_cross_home call ≡ true
crosses_home (UAlloc u len off) is = absurd (false≢true is)
crosses_home (Poke m off bytes) is = absurd (false≢true is)
crosses_home (Fill m seed) is = absurd (false≢true is)
crosses_home call is = refl

-- a call that crossed, with the memories that came with its reply
pub keeps_replied : (m : Model) (log items : List Entry) (line : ℕ) (call : Call) (reply : Reply) (held : List Held) (kept moved : LocalState) (home mid new : List (Option Mem)) (away : Away) (was : Bool) →
    items ≡ log ++ Called line call reply ∷ [] → Keeps m log kept home away was → may_cross call ≡ true → AlongWith (goes_along (state_after m log) call) away reply →
    IsSome (called (state_after m log) line call reply) → ComeWith (state_after m log) (state_after m (log ++ Called line call reply ∷ [])) call reply held →
    mid ≡ settled (state_after m log) call reply held home → LetsGo moved mid new → Moves (Called line call reply) kept moved → Keeps m items moved new Nothing false
keeps_replied m log items line call reply held kept moved home mid new away was same keeps crosses along goes come is go moves =
    let e : Entry = Called line call reply in
    let s : LocalState = state_after m log in
    let t : LocalState = state_after m (log ++ e ∷ []) in
    let at : after s e ≡ Some t = leads m log e keeps.legal goes in
    let shown : moved ≡ without_bytes t = moves s t keeps.shown at in
    let settles : AreInPlace t None (settled s call reply held home) =
    settled_home s t line call reply held home (number_away s away) (reached_of m log keeps.legal) (crosses_home call crosses)
    (λ refused. refused_none s (goes_along s call) away reply along refused) (λ _. with_along s (goes_along s call) away reply along) at come keeps.in_place in
    let gone : LetsGo (without_bytes t) mid new = subst (λ x. LetsGo x mid new) shown go in
    let drops : LetsGo t mid new = record { places = gone.places; kept = gone.kept; gone = gone.gone } in
    keeps_more m log items e kept moved home new away Nothing was false same keeps goes moves
    (lets_go_home t None mid new drops (subst (λ hs. AreInPlace t None hs) (sym is) settles)) tt

-- ---- steps of the device

-- what is out is as it was
pub away_stays : (s t : LocalState) (e : Entry) (away : Away) (unanswered : Bool) → IsReached s → IsStep e → after s e ≡ Some t → IsAway s away unanswered →
    (number_away t away ≡ number_away s away) × IsAway t away unanswered
away_stays s t e Nothing unanswered reached step leads out = (refl, tt)
away_stays s t e (Sent number) unanswered reached step leads out =
    let steps : StepsTo s t = steps_to s t e reached step leads in
    (refl, (out.0, fails (is_lent t number) (is_lent s number) (lent_less s t steps.less number) out.1))
away_stays s t e (Lent entry) unanswered reached step leads out =
    let steps : StepsTo s t = steps_to s t e reached step leads in
    let touch : (line addr : ℕ) → _ = λ line addr. still_touches s t e line addr entry.call reached step leads out.1 (out.2 line addr) in
    let same : touched t entry.call ≡ touched s entry.call = (touch 0 0).same in
    let memory : IsMemory t (touched s entry.call) entry.mem.value = record {
      bytes = out.3.bytes ∙ sym (touch 0 0).bytes;
      frame = λ is. out.3.frame (device_less s t steps.less (touched s entry.call) is);
    } in
    (ap (λ n. Some n) same, (out.0, out.1, (λ line addr. (touch line addr).pass), subst (λ n. IsMemory t n entry.mem.value) (sym same) memory))

-- a step that brings no memory
pub keeps_stepped : (m : Model) (log items : List Entry) (e : Entry) (kept moved : LocalState) (home : List (Option Mem)) (away : Away) (unanswered : Bool) →
    items ≡ log ++ e ∷ [] → Keeps m log kept home away unanswered → IsStep e → IsSome (after (state_after m log) e) →
    moves_at (state_after m log) e ≡ false → Moves e kept moved → Keeps m items moved home away unanswered
keeps_stepped m log items e kept moved home away unanswered same keeps step goes stays moves =
    let s : LocalState = state_after m log in
    let t : LocalState = state_after m (log ++ e ∷ []) in
    let at : after s e ≡ Some t = leads m log e keeps.legal goes in
    let reached : IsReached s = reached_of m log keeps.legal in
    let out : _ = away_stays s t e away unanswered reached step at keeps.out in
    keeps_more m log items e kept moved home home away away unanswered unanswered same keeps goes moves
    (subst (λ o. AreInPlace t o home) (sym out.0) (still s t e (number_away s away) home reached stays at keeps.in_place)) out.1

-- the first thing owed is a buffer
pub record Owes (s : LocalState) : Type 0 where
  pub queue : ℕ
  pub index : ℕ
  pub rest : List Owed
  pub owed : s.owed ≡ record { queue = queue; item = OwedBuffer index } ∷ rest
  pub number : first_number s ≡ memory_at s queue index

owes_by : (s : LocalState) (owed : List Owed) → s.owed ≡ owed → owes_buffer owed ≡ true → Owes s
owes_by s [] is owes = absurd (false≢true owes)
owes_by s (o ∷ rest) is owes = by_item o.item refl owes
  where
    by_item : (item : OwedItem) → o.item ≡ item → is_buffer item ≡ true → Owes s
    by_item (OwedBuffer i) same owes = record {
      queue = o.queue;
      index = i;
      rest = rest;
      owed = is ∙ ap {A = OwedItem} {B = List Owed} (λ x. record { queue = o.queue; item = x } ∷ rest) same;
      number = ap (λ os. number_owed s os) is ∙ ap (λ x. number_in s x o.queue) same;
    }
    by_item (Sync frame) same owes = absurd (false≢true owes)

pub owes_first : (s : LocalState) → owes_buffer s.owed ≡ true → Owes s
owes_first s owes = owes_by s s.owed refl owes

-- so it can be given
pub may_give : (s : LocalState) → owes_buffer s.owed ≡ true → IsSome (after s Give)
unfolding given
may_give s owes = subst (λ os. IsSome (given_from s os)) (sym (owes_first s owes).owed) refl

number_shown : (s : LocalState) (owed : List Owed) → number_owed (without_bytes s) owed ≡ number_owed s owed
number_shown s [] = refl
number_shown s (o ∷ rest) = by_item o.item
  where
    by_item : (item : OwedItem) → number_in (without_bytes s) item o.queue ≡ number_in s item o.queue
    by_item (OwedBuffer i) = refl
    by_item (Sync frame) = refl

-- a record knows its number
pub first_shown : (s kept : LocalState) (n : ℕ) → kept ≡ without_bytes s → n ≡ first_number kept → n ≡ first_number s
first_shown s kept n shown is = is ∙ (ap first_number shown ∙ number_shown s s.owed)

pub apart_away : (s : LocalState) (away : Away) (unanswered : Bool) (n : ℕ) → IsAway s away unanswered → is_lent s n ≡ true → is_just (number_away s away) n ≡ false
apart_away s Nothing unanswered n out lent_n = refl
apart_away s (Sent number) unanswered n out lent_n = lent_apart s n number lent_n out.1
apart_away s (Lent entry) unanswered n out lent_n = lent_apart s n (touched s entry.call) lent_n (touches_it s 0 0 entry.call out.1 (out.2 0 0)).unlent

-- a buffer is given, with its memory
pub keeps_given : (m : Model) (log items : List Entry) (n : ℕ) (mem : Mem) (kept moved : LocalState) (home : List (Option Mem)) (away : Away) (unanswered : Bool) →
    items ≡ log ++ Give ∷ [] → Keeps m log kept home away unanswered → owes_buffer (state_after m log).owed ≡ true → n ≡ first_number (state_after m log) →
    IsMemory (state_after m log) (first_number (state_after m log)) mem → Moves Give kept moved → Keeps m items moved (set home n (Some mem)) away unanswered
keeps_given m log items n mem kept moved home away unanswered same keeps owes number is moves =
    let s : LocalState = state_after m log in
    let t : LocalState = state_after m (log ++ Give ∷ []) in
    let goes : IsSome (after s Give) = may_give s owes in
    let at : after s Give ≡ Some t = leads m log Give keeps.legal goes in
    let reached : IsReached s = reached_of m log keeps.legal in
    let first : Owes s = owes_first s owes in
    let gives : GivesBack s first.queue first.index n = record { rest = first.rest; owed = first.owed; number = number ∙ first.number } in
    let apart : is_just (number_away s away) n ≡ false = apart_away s away unanswered n keeps.out (given_lent s first.queue first.index n reached gives).0 in
    let out : _ = away_stays s t Give away unanswered reached tt at keeps.out in
    keeps_more m log items Give kept moved home (set home n (Some mem)) away away unanswered unanswered same keeps goes moves
    (subst (λ o. AreInPlace t o (set home n (Some mem))) (sym out.0)
    (given_home s t first.queue first.index n mem (number_away s away) home reached gives at (subst (λ k. IsMemory s k mem) (sym number) is) apart keeps.in_place)) out.1

-- ---- memories that go out

-- with a call
pub keeps_sent : (m : Model) (log : List Entry) (call : Call) (n : ℕ) (kept : LocalState) (home : List (Option Mem)) (away : Away) (unanswered : Bool) → Keeps m log kept home away unanswered →
    away ≡ Nothing → unanswered ≡ true → AlongIs (state_after m log) call n → Keeps m log kept (set home n None) (Sent n) unanswered
keeps_sent m log call n kept home away unanswered keeps none begun along = record {
  legal = keeps.legal;
  shown = keeps.shown;
  in_place = sent_out (state_after m log) n home (subst (λ a. AreInPlace (state_after m log) (number_away (state_after m log) a) home) none keeps.in_place);
  out = (begun, along.unlent);
}

pub there_is : (s : LocalState) (n : ℕ) (o : Option Mem) (mem : Mem) → o ≡ Some mem → IsThere s n o → IsMemory s n mem
there_is s n o mem is there = subst (λ x. IsThere s n x) is there

-- with a lease
pub keeps_lent : (m : Model) (log : List Entry) (line : ℕ) (call : Call) (mem : Mem) (entry : LeaseOut) (kept : LocalState) (home : List (Option Mem)) (away : Away) (unanswered : Bool) →
    Keeps m log kept home away unanswered → away ≡ Nothing → unanswered ≡ true → touches_bytes call ≡ true → IsUnrefused (state_after m log) call →
    home_of home (touched (state_after m log) call) ≡ Some mem → IsOf entry (lent line call mem) →
    Keeps m log kept (set home (touched (state_after m log) call) None) (Lent entry) unanswered
keeps_lent m log line call mem entry kept home away unanswered keeps none begun touches pass there noted =
    let s : LocalState = state_after m log in
    let placed : AreInPlace s None home = subst (λ a. AreInPlace s (number_away s a) home) none keeps.in_place in
    let is : IsMemory s (touched s call) mem = there_is s (touched s call) (home_of home (touched s call)) mem there (touched_home s call home (touches_it s 0 0 call touches (pass 0 0)) placed) in
    record {
      legal = keeps.legal;
      shown = keeps.shown;
      in_place = subst (λ (x : Call). AreInPlace s (Some (touched s x)) (set home (touched s call) None)) (sym noted.1) (sent_out s (touched s call) home placed);
      out = (
        begun,
        subst (λ (x : Call). touches_bytes x ≡ true) (sym noted.1) touches,
        subst (λ (x : Call). IsUnrefused s x) (sym noted.1) pass,
        subst (λ (x : Call). IsMemory s (touched s x) entry.mem.value) (sym noted.1) (subst (λ (x : Mem). IsMemory s (touched s call) x) (sym noted.2) is),
      );
    }

-- ---- a lease that comes back

-- its call has its reply, and its memory is at home
pub record ComesHome (m : Model) (log : List Entry) (lease : LeaseParts) (home : List (Option Mem)) : Type 0 where
  pub goes : IsSome (called (state_after m log) lease.line lease.call lease.reply)
  pub placed : AreInPlace (state_after m (log ++ Called lease.line lease.call lease.reply ∷ [])) None (set home (touched (state_after m log) lease.call) (Some lease.mem))

pub comes_home : (m : Model) (log : List Entry) (entry : LeaseOut) (lease : LeaseParts) (kept : LocalState) (home : List (Option Mem)) (unanswered : Bool) →
    Keeps m log kept home (Lent entry) unanswered → CameBackDone entry lease → ComesHome m log lease home
comes_home m log entry lease kept home unanswered keeps done =
    let s : LocalState = state_after m log in
    let w : _ = touched_back s lease.line entry.call entry.mem.value lease.mem lease.reply home (reached_of m log keeps.legal) keeps.out.1 keeps.out.2 keeps.out.3 done.done keeps.in_place in
    let goes : IsSome (called s lease.line entry.call lease.reply) = subst (λ o. IsSome o) (sym w.1) refl in
    let t : LocalState = state_after m (log ++ Called lease.line entry.call lease.reply ∷ []) in
    let at : called s lease.line entry.call lease.reply ≡ Some t = leads m log (Called lease.line entry.call lease.reply) keeps.legal goes in
    let is : w.0 ≡ t = some_same w.0 t s (sym w.1 ∙ at) in
    let P : Call → Type 0 = λ x. ComesHome m log (record lease { call = x }) home in
    subst P (sym done.call) (record { goes = goes; placed = subst (λ x. AreInPlace x None (set home (touched s entry.call) (Some lease.mem))) is w.2 })

pub keeps_back : (m : Model) (log items : List Entry) (lease : LeaseParts) (kept moved : LocalState) (home : List (Option Mem)) (away : Away) (was : Bool) →
    items ≡ log ++ Called lease.line lease.call lease.reply ∷ [] → Keeps m log kept home away was → ComesHome m log lease home → Moves (Called lease.line lease.call lease.reply) kept moved →
    Keeps m items moved (set home (touched (state_after m log) lease.call) (Some lease.mem)) Nothing false
keeps_back m log items lease kept moved home away was same keeps comes moves =
    keeps_more m log items (Called lease.line lease.call lease.reply) kept moved home (set home (touched (state_after m log) lease.call) (Some lease.mem)) away Nothing was false same keeps comes.goes moves comes.placed tt

-- ---- a line that is refused

pub refused_goes : (s : LocalState) (line : ℕ) (call : Call) (errno : Errno) → first_refusal (row_of s line 0 call).refusals ≡ Some errno → IsSome (called s line call (Refused errno))
unfolding called
refused_goes s line call errno refuses =
    let row : Row = row_of s line 0 call in
    let same : same_reply (Refused errno) (Refused errno) ≡ true = (same_reply_decides (Refused errno) (Refused errno)).1 refl in
    let goes : answered (Some errno) row s (Refused errno) ≡ Some s = rw same refl in
    subst (λ o. IsSome (answered o row s (Refused errno))) (sym refuses) (subst (λ o. IsSome o) (sym goes) refl)
