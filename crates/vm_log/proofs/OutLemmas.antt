-- Memories that go out and come back, as the code finds them.
use Rattle.std.proofs.Common.{◌≡◌, ℕ, ◌<◌, Bool, true, List, [], ◌∷◌, ◌++◌, length, set, Option, Some, None, IsSome, refl, sym, ap, ◌∙◌, subst, unwrap_or}
use Rattle.std.proofs.lemmas.Bool.{false≢true}
use Rattle.v4l_const.specs.declared.errno.Errno.{Errno}
use Rattle.v4l_const.specs.declared.model.Model.{Model}
use Rattle.v4l_rules.specs.Refusals.{first_refusal}
use Rattle.vm_frame.specs.Mem.{mem_bytes}
use Rattle.vm_frame.specs.declared.mem.Held.{Held}
use Rattle.vm_frame.specs.declared.mem.Mem.{Mem}
use Rattle.vm_lease.specs.Lease.{LeaseParts, Touches}
use Rattle.vm_local.specs.declared.call.Call.{Call}
use Rattle.vm_local.specs.declared.call.Call.TheVariants.{QBuf, Peek, Hash, Poke, Fill}
use Rattle.vm_local.specs.declared.entry.Entry.{Entry}
use Rattle.vm_local.specs.declared.entry.Entry.TheVariants.{Called}
use Rattle.vm_local.specs.declared.reply.Reply.{Reply}
use Rattle.vm_local.specs.declared.reply.Reply.TheVariants.{Refused}
use Rattle.vm_local.specs.State.{LocalState, queue_of, buffer_of}
use Rattle.vm_local.specs.Queue.{brought, memory_from}
use Rattle.vm_local.specs.Calls.{row_of}
use Rattle.vm_local.specs.Log.{called, IsLegal, IsCall}
use Rattle.vm_local.specs.Record.{without_bytes}
use Rattle.vm_local.proofs.KeptLemmas.{some_same}
use Rattle.vm_home.specs.Home.{home_of, is_kept, IsThere, AreInPlace}
use Rattle.vm_home.specs.Laws.{IsUnrefused}
use Rattle.vm_home.specs.Moves.{goes_along, touches_bytes, touched, ComeWith}
use Rattle.vm_home.proofs.FactLemmas.{reached_of}
use Rattle.vm_home.proofs.StillLemmas.{named_kept}
use Rattle.vm_home.proofs.DeviceLemmas.{AlongIs, along_home, qbuf_sends}
use Rattle.vm_home.proofs.PayloadLemmas.{AsksFew as AsksFewHome, TouchesIt, touches_it, touched_home, touched_made}
use Rattle.vm_log.specs.LegalLog.{LogState, state_after, state_of, number_away, is_lent_to, lease_in, Keeps}
use Rattle.vm_log.specs.Answers.{IsQueuedBy, Sends, AsksFew, Leases, GoesOut, IsDone, answered_with}
use Rattle.vm_log.specs.declared.away.Away.{Away}
use Rattle.vm_log.specs.declared.away.Away.TheVariants.{Nothing, Sent, Lent}
use Rattle.vm_log.specs.declared.leased.Leased.TheVariants.{Out, Answered}
use Rattle.vm_log.proofs.LogLemmas.{leads}
use Rattle.vm_log.proofs.KeepLemmas.{there_is, ComesHome, comes_home}

-- ---- what a record knows

brought_shown : (s : LocalState) (user : Option (List ℕ)) → brought (without_bytes s) user ≡ brought s user
brought_shown s None = refl
brought_shown s (Some u) = refl

touched_as_shown : (s : LocalState) (call : Call) → touched (without_bytes s) call ≡ touched s call
touched_as_shown s (Peek m off len) = refl
touched_as_shown s (Hash m) = refl
touched_as_shown s (Poke m off bytes) = refl
touched_as_shown s (Fill m seed) = refl
touched_as_shown s call = refl

pub touched_shown : (s kept : LocalState) (call : Call) (n : ℕ) → kept ≡ without_bytes s → n ≡ touched kept call → n ≡ touched s call
touched_shown s kept call n shown is = is ∙ (ap (λ (x : LocalState). touched x call) shown ∙ touched_as_shown s call)

along_shown : (s kept : LocalState) (t i used ts : ℕ) (user : Option (List ℕ)) (n k : ℕ) → kept ≡ without_bytes s → n ≡ unwrap_or (memory_from (brought kept user) (buffer_of (queue_of kept t) i)) 0 →
    goes_along s (QBuf t i user used ts) ≡ Some k → n ≡ k
along_shown s kept t i used ts user n k shown is along =
    is ∙ (ap (λ (x : LocalState). unwrap_or (memory_from (brought x user) (buffer_of (queue_of x t) i)) 0) shown
    ∙ (ap (λ (o : Option ℕ). unwrap_or (memory_from o (buffer_of (queue_of s t) i)) 0) (brought_shown s user) ∙ ap (λ (o : Option ℕ). unwrap_or o 0) along))

there_some : (s : LocalState) (n : ℕ) (o : Option Mem) → IsThere s n o → IsSome o
there_some s n None there = absurd there
there_some s n (Some mem) there = refl

-- ---- along with a call

-- the memory of a buffer that is queued is at home
pub record IsReady (s : LocalState) (call : Call) (n : ℕ) (home : List (Option Mem)) : Type 0 where
  pub along : AlongIs s call n
  pub there : IsSome (home_of home n)

pub is_ready : (m : Model) (log : List Entry) (t i used ts : ℕ) (user : Option (List ℕ)) (n : ℕ) (kept : LocalState) (home : List (Option Mem)) (away : Away) (unanswered : Bool) →
    Keeps m log kept home away unanswered → away ≡ Nothing → IsUnrefused (state_after m log) (QBuf t i user used ts) →
    n ≡ unwrap_or (memory_from (brought kept user) (buffer_of (queue_of kept t) i)) 0 → IsReady (state_after m log) (QBuf t i user used ts) n home
is_ready m log t i used ts user n kept home away unanswered keeps none pass number =
    let s : LocalState = state_after m log in
    let call : Call = QBuf t i user used ts in
    let w : _ = qbuf_sends s 0 0 t i user used ts (reached_of m log keeps.legal) (pass 0 0) in
    let same : n ≡ w.0 = along_shown s kept t i used ts user n w.0 keeps.shown number w.1.along in
    let placed : AreInPlace s None home = subst (λ a. AreInPlace s (number_away s a) home) none keeps.in_place in
    subst (λ k. IsReady s call k home) (sym same) (record { along = w.1; there = there_some s w.0 (home_of home w.0) (along_home s call w.0 home w.1 placed) })

pub sends_is : (h g : LogState) (call asked : Call) (n : ℕ) (held : Held) (new : LogState) → h ≡ g → asked ≡ call → goes_along (state_of h) call ≡ Some n → IsQueuedBy call held →
    home_of h.home n ≡ Some held.mem → new ≡ record g { home = set g.home n None; away = Sent n } → Sends (goes_along (state_of g) asked) g asked (Some held) new
sends_is h g call asked n held new seen is along queued there left =
    let P : LogState → Type 0 = λ x. new ≡ record x { home = set x.home n None; away = Sent n } → Sends (goes_along (state_of x) call) x call (Some held) new in
    let sent : P h = λ same. subst (λ o. Sends o h call (Some held) new) (sym along) (queued, there, same) in
    subst (λ (x : Call). Sends (goes_along (state_of g) x) g x (Some held) new) (sym is) (subst P seen sent left)

-- ---- with a lease

few_home : (call : Call) → AsksFew call → AsksFewHome call
few_home (Peek m off len) few = few
few_home call few = tt

-- the memory that a line touches is at home, and the line stays within it
pub record IsLendable (s : LocalState) (call : Call) (home : List (Option Mem)) : Type 0 where
  pub there : IsSome (home_of home (touched s call))
  pub within : (mem : Mem) → home_of home (touched s call) ≡ Some mem → Touches call (length (mem_bytes mem))
  pub kept : is_kept s (touched s call) ≡ true
  pub made : touched s call < length s.memories

pub is_lendable : (m : Model) (log : List Entry) (call : Call) (kept : LocalState) (home : List (Option Mem)) (away : Away) (unanswered : Bool) → Keeps m log kept home away unanswered →
    away ≡ Nothing → touches_bytes call ≡ true → AsksFew call → IsUnrefused (state_after m log) call → IsLendable (state_after m log) call home
is_lendable m log call kept home away unanswered keeps none touches few pass =
    let s : LocalState = state_after m log in
    let placed : AreInPlace s None home = subst (λ a. AreInPlace s (number_away s a) home) none keeps.in_place in
    let it : TouchesIt s call = touches_it s 0 0 call touches (pass 0 0) in
    let there : IsThere s (touched s call) (home_of home (touched s call)) = touched_home s call home it placed in
    record {
      there = there_some s (touched s call) (home_of home (touched s call)) there;
      within = λ mem is. subst (λ bs. Touches call (length bs)) (sym (there_is s (touched s call) (home_of home (touched s call)) mem is there).bytes) (it.within (few_home call few));
      kept = named_kept s (touched s call) it.named;
      made = touched_made s call (reached_of m log keeps.legal) it;
    }

pub leases_refused : (h g : LogState) (line : ℕ) (call : Call) (errno : Errno) (new : LogState) → h ≡ g → first_refusal (row_of (state_of h) line 0 call).refusals ≡ Some errno →
    new ≡ answered_with g line call (Refused errno) g.home → Leases (first_refusal (row_of (state_of g) line 0 call).refusals) g line call Answered new
leases_refused h g line call errno new seen refuses is =
    let P : LogState → Type 0 = λ x. new ≡ answered_with x line call (Refused errno) x.home → Leases (first_refusal (row_of (state_of x) line 0 call).refusals) x line call Answered new in
    let here : P h = λ same. subst (λ o. Leases o h line call Answered new) (sym refuses) same in
    subst P seen here is

pub leases_out : (h g : LogState) (line : ℕ) (call : Call) (lease : LeaseParts) (new : LogState) → h ≡ g → first_refusal (row_of (state_of h) line 0 call).refusals ≡ None →
    GoesOut g line call lease new → Leases (first_refusal (row_of (state_of g) line 0 call).refusals) g line call (Out lease) new
leases_out h g line call lease new seen passes out =
    let pass : first_refusal (row_of (state_of g) line 0 call).refusals ≡ None = subst (λ (x : LogState). first_refusal (row_of (state_of x) line 0 call).refusals ≡ None) seen passes in
    subst (λ o. Leases o g line call (Out lease) new) (sym pass) out

-- ---- a lease that comes back

pub back_comes : (m : Model) (log : List Entry) (lease : LeaseParts) (kept : LocalState) (home : List (Option Mem)) (away : Away) (unanswered : Bool) → Keeps m log kept home away unanswered →
    is_lent_to away lease.line ≡ true → IsDone (lease_in away) lease → ComesHome m log lease home × (unanswered ≡ true)
back_comes m log lease kept home Nothing unanswered keeps mine done = absurd (false≢true mine)
back_comes m log lease kept home (Sent n) unanswered keeps mine done = absurd (false≢true mine)
back_comes m log lease kept home (Lent entry) unanswered keeps mine done = (comes_home m log entry lease kept home unanswered keeps done, keeps.out.0)

-- ---- a reply

pub record MayAnswer (m : Model) (log : List Entry) (line : ℕ) (call : Call) (reply : Reply) (held : List Held) : Type 0 where
  pub goes : IsSome (called (state_after m log) line call reply)
  pub come : ComeWith (state_after m log) (state_after m (log ++ Called line call reply ∷ [])) call reply held

pub may_answer : (m : Model) (log : List Entry) (line : ℕ) (call : Call) (reply : Reply) (held : List Held) (next : LocalState) → IsLegal m log → IsCall (state_after m log) line call reply next →
    ComeWith (state_after m log) next call reply held → MayAnswer m log line call reply held
may_answer m log line call reply held next legal is come =
    let s : LocalState = state_after m log in
    let goes : IsSome (called s line call reply) = subst (λ o. IsSome o) (sym is) refl in
    let same : next ≡ state_after m (log ++ Called line call reply ∷ []) = some_same next _ s (sym is ∙ leads m log (Called line call reply) legal goes) in
    record { goes = goes; come = subst (λ x. ComeWith s x call reply held) same come }
