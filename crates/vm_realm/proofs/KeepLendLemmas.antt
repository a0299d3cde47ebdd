-- A lease that goes out or comes back keeps a slice sound, and a call that the driver refuses.
use Rattle.std.proofs.Common.{◌≡◌, inl, inr, ℕ, true, false, Bool, List, [], length, set, Option, Some, None, refl, sym, ap, ◌∙◌, subst, if◌then◌else◌}
use Rattle.std.proofs.lemmas.Bool.{false≢true}
use Rattle.std.proofs.lemmas.Option.{none-some}
use Rattle.std.specs.Prelude.{IfSome, All, Contains}
use Rattle.v4l_const.specs.declared.errno.Errno.{Errno}
use Rattle.v4l_rules.specs.Refusals.{first_refusal}
use Rattle.vm_frame.specs.Mem.{mem_bytes}
use Rattle.vm_frame.specs.declared.mem.Mem.{Mem}
use Rattle.vm_lease.specs.Lease.{LeaseParts, CameBackDone}
use Rattle.vm_lease.specs.declared.lease_out.LeaseOut.{LeaseOut}
use Rattle.vm_wire.specs.Message.{Posting}
use Rattle.vm_local.specs.declared.call.Call.{Call}
use Rattle.vm_local.specs.declared.call.Call.TheVariants.{Peek, Hash, Poke, Fill}
use Rattle.vm_local.specs.declared.entry.Entry.TheVariants.{Called}
use Rattle.vm_local.specs.declared.reply.Reply.{Reply}
use Rattle.vm_local.specs.declared.reply.Reply.TheVariants.{Refused}
use Rattle.vm_local.specs.State.{LocalState}
use Rattle.vm_local.specs.Memory.{bytes_of}
use Rattle.vm_local.specs.Record.{without_bytes}
use Rattle.vm_local.specs.Same.{address_in}
use Rattle.vm_local.specs.Calls.{row_of, read_row, hash_row, write_row, fill_row}
use Rattle.vm_local.specs.Log.{IsCall, row_for, called}
use Rattle.vm_local.proofs.KeptLemmas.{some_same, refused_call}
use Rattle.vm_local.proofs.StepLemmas.{answered_by}
use Rattle.vm_local.proofs.WithoutBytesLemmas.{long_of, same_call}
use Rattle.vm_commute.specs.Commute.{may_cross}
use Rattle.vm_home.specs.Home.{home_of}
use Rattle.vm_home.specs.Moves.{is_refusal, touches_bytes, touched, goes_along}
use Rattle.vm_home.specs.Reached.{IsReached}
use Rattle.vm_log.specs.Answers.{with_line, answered_with, Leases, given_back}
use Rattle.vm_log.specs.LegalLog.{LogState, state_after, state_of, lease_in}
use Rattle.vm_log.specs.declared.away.Away.{Away}
use Rattle.vm_log.specs.declared.away.Away.TheVariants.{Nothing, Sent, Lent}
use Rattle.vm_log.specs.declared.leased.Leased.{Leased}
use Rattle.vm_log.specs.declared.leased.Leased.TheVariants.{Out as LeaseOutOf, Answered, Idle}
use Rattle.vm_handle.specs.Answers.{row_from}
use Rattle.vm_handle.specs.Handle.{id_of, IsAlong, FitsStage}
use Rattle.vm_handle.specs.declared.stage.Stage.{Stage}
use Rattle.vm_handle.specs.declared.stage.Stage.TheVariants.{AtRest, Underway, Waiting}
use Rattle.vm_handle.proofs.LogLemmas.{reached as log_reached}
use Rattle.vm_handle.proofs.StartLemmas.{Rests, rests}
use Rattle.vm_session.specs.State.{SessionState}
use Rattle.vm_session.specs.declared.unsent.Unsent.{Unsent}
use Rattle.vm_stands.specs.Slice.{IsSlice, LeadAhead}
use Rattle.vm_realm.specs.Inner.{Inner, driver_state, id_in, under_way}
use Rattle.vm_realm.specs.Laws.{GoesOnSoundly}
use Rattle.vm_realm.specs.Places.{told_state}
use Rattle.vm_realm.specs.Slice.{Slice, Out, id_ahead, earlier_of}
use Rattle.vm_realm.specs.Slice.Out.{Nowhere, Asked, Kept, Told, Astray}
use Rattle.vm_realm.specs.SliceSteps.{holds_back, MayStart, Lends, GetsBack}
use Rattle.vm_realm.specs.Sound.{IsOut, IsSeated, HoldsFew, last_call_from, stopped_by, stopped_last, queue_told, IsSoundSlice, IsWholeSlice}
use Rattle.vm_realm.specs.Users.{IsUsers, AreUsers}
use Rattle.vm_realm.proofs.CanHoldLemmas.{hold_like, lent_left}
use Rattle.vm_realm.proofs.KeepStateLemmas.{IsAlike, alike_itself, users_alike, held_alike}
use Rattle.vm_realm.proofs.KeepOutLemmas.{on_soundly}
use Rattle.vm_realm.proofs.KeepOwnLemmas.{told_held, IsFree, own_sound}
use Rattle.vm_realm.proofs.KeepTakeLemmas.{last_leads, kept_from, set_from}

-- ---- a slice of which no call is out

none_executed : (x : Slice) (v : Inner) (o : Out) → o ≡ Nowhere → IsOut o x v → v.executed ≡ None
none_executed x v Nowhere at out = out.0.executed
none_executed x v (Asked m) at out = out.0.executed
none_executed x v (Kept m) at out = out.0.executed
none_executed x v (Told r) at out = absurd (apart at)
  where
    apart : Told r ≡ Nowhere → ⊥
    apart at = cc
none_executed x v Astray at out = absurd out

pub free_of : (x : Slice) (v : Inner) → IsSoundSlice x v → x.out ≡ Nowhere → holds_back x.handle.stage ≡ false → IsFree x v
free_of x v sound at free =
    let none : v.executed ≡ None = none_executed x v x.out at sound.out in
    let told : told_state v ≡ v.ahead = ap (λ e. told_state (record v { executed = e })) none in
    record {
      reached = log_reached x.handle.log sound.handle.legal;
      none = none;
      nowhere = at;
      nothing_held = subst (λ b. HoldsFew b x.held) free sound.held;
      seated = sound.seated;
      named = subst (λ o. IfSome x.session (λ s. id_ahead x.handle o ≡ Some s.id)) at sound.named;
      runs = sound.runs;
      messages = subst (λ s. AreUsers s (told_held x)) told sound.users.messages;
      queued = sound.users.queued;
      taken = sound.users.job;
    }

pub start_rests : (x : Slice) (v : Inner) → IsSoundSlice x v → MayStart x → Rests x.handle.log.away x.handle.stage
start_rests x v sound may = rests (id_of x.handle.session) (driver_state x) x.handle.log.away x.handle.log.unanswered x.handle.stage may.answered sound.handle.fits

pub rests_free : (stage : Stage) → stage ≡ AtRest → holds_back stage ≡ false
rests_free stage is = ap holds_back is

-- the slice whose handle goes on with another log
abbrev pub with_log : Slice → LogState → Slice
with_log x log = record x { handle = record x.handle { log = log } }

pub logged_sound : (x : Slice) (v : Inner) (log : LogState) → x.out ≡ Nowhere → (w : Inner) × (w.frames ≡ v.frames) × IsSoundSlice (record x { handle = record x.handle { log = log }; out = Nowhere }) w →
    GoesOnSoundly (with_log x log) v
logged_sound x v log at by = on_soundly (with_log x log) v by.0 by.1 (subst (λ o. IsSoundSlice (record x { handle = record x.handle { log = log }; out = o }) by.0) (sym at) by.2)

-- ---- a call that the driver refuses

pub refused_sound : (x : Slice) (v : Inner) (line : ℕ) (call : Call) (errno : Errno) → IsSoundSlice x v → MayStart x →
    IsWholeSlice (with_log x (answered_with (with_line x.handle.log) line call (Refused errno) x.handle.log.home)) →
    GoesOnSoundly (with_log x (answered_with (with_line x.handle.log) line call (Refused errno) x.handle.log.home)) v
refused_sound x v line call errno sound may whole =
    let l : LogState = x.handle.log in
    let log : LogState = answered_with (with_line l) line call (Refused errno) l.home in
    let rest : Rests l.away x.handle.stage = start_rests x v sound may in
    let is_call : IsCall (driver_state x) line call (Refused errno) (state_of log) = last_leads l.model l.entries (Called line call (Refused errno)) sound.handle.legal whole.handle.legal in
    let same : state_of log ≡ driver_state x = refused_call (driver_state x) line call errno (state_of log) is_call in
    logged_sound x v log may.out (own_sound x v (record x.handle { log = log }) line call (Refused errno) (free_of x v sound may.out (rests_free x.handle.stage rest.0)) (record {
      is_call = is_call;
      entries = refl;
      away = refl;
      session = refl;
      stage = rest.0;
      home = λ m mem there. subst (λ s. IsUsers s m mem) (sym same) (sound.users.home m mem (kept_from (state_of log) l.home m mem there));
    }) (inr same) (λ s. refl) (λ held one users. subst (λ s. AreUsers s held) (sym same) users) whole.log whole.handle)

-- ---- a lease goes out

pub none_put : (home : List (Option Mem)) (n m : ℕ) (mem : Mem) → home_of (set home n None) m ≡ Some mem → home_of home m ≡ Some mem
none_put home n m mem is =
    elim (set_from home n m None mem is) as (λ _. home_of home m ≡ Some mem) [
      | inl old ↦ old
      | inr new ↦ absurd (none-some mem new.1)
    ]

seated_log : (o : Option SessionState) (x : Slice) (v : Inner) (log : LogState) → state_of log ≡ driver_state x → IsSeated o x v → IsSeated o (with_log x log) v
seated_log None x v log same shut = record {
  reached = subst IsReached (sym same) shut.reached;
  leads = subst (λ r. LeadAhead (id_in x) r v.executed (earlier_of x) v.ahead) (sym same) shut.leads;
  shut = shut.shut;
  owed = shut.owed;
  none_runs = shut.none_runs;
  unmade = shut.unmade;
}
seated_log (Some s) x v log same slice = subst (λ r. IsSlice v.frames s x.job (earlier_of x) v.executed r v.ahead) (sym same) slice

-- nothing is logged, and no call is out: what is at home, or out with a lease, is the users' as before
pub unlogged_sound : (x : Slice) (v : Inner) (log : LogState) → IsSoundSlice x v → x.out ≡ Nowhere → x.handle.stage ≡ AtRest → log.entries ≡ x.handle.log.entries → log.model ≡ x.handle.log.model →
    ((m : ℕ) (mem : Mem) → home_of log.home m ≡ Some mem → IsUsers (driver_state x) m mem) →
    ((entry : LeaseOut) → lease_in log.away ≡ Some entry → IsUsers (driver_state x) (touched (driver_state x) entry.call) entry.mem.value) →
    IsWholeSlice (with_log x log) → IsSoundSlice (with_log x log) v
unlogged_sound x v log sound at rest entries model home lent whole =
    let same : state_of log ≡ driver_state x = λ j. state_after (model j) (entries j) in
    let none : v.executed ≡ None = none_executed x v x.out at sound.out in
    let y : Slice = with_log x log in
    record {
      log = whole.log;
      handle = whole.handle;
      out = subst (λ o. IsOut o y v) (sym at) (record { executed = none; before = before_of x.out at sound.out ∙ sym same }, λ line call under. apart line call (sym rest ∙ under));
      seated = seated_log x.session x v log same sound.seated;
      named = sound.named;
      runs = sound.runs;
      still = subst (λ ts. All (λ (e : Unsent). ¬ Contains ts (queue_told log.model e.msg)) (under_way x)) (sym (λ j. stopped_by (same j) (last_call_from None (entries j))))
          (subst (λ m. All (λ (e : Unsent). ¬ Contains (stopped_last x) (queue_told m e.msg)) (under_way x)) (sym model) sound.still);
      held = sound.held;
      users = record {
        home = λ m mem there. subst (λ s. IsUsers s m mem) (sym same) (home m mem there);
        lent = λ entry there. subst (λ s. IsUsers s (touched s entry.call) entry.mem.value) (sym same) (lent entry there);
        along = λ m number asked. absurd (no_request m (sym at ∙ asked));
        back = sound.users.back;
        messages = sound.users.messages;
        queued = sound.users.queued;
        job = sound.users.job;
      };
    }
  where
    before_of : (o : Out) → o ≡ Nowhere → IsOut o x v → v.before ≡ driver_state x
    before_of Nowhere at out = out.0.before
    before_of (Asked m) at out = out.0.before
    before_of (Kept m) at out = out.0.before
    before_of (Told r) at out = absurd (other at)
      where
        other : Told r ≡ Nowhere → ⊥
        other at = cc
    before_of Astray at out = absurd out

    apart : (line : ℕ) (call : Call) → AtRest ≡ Underway line call → ⊥
    apart line call is = cc

    no_request : (m : Posting) → Nowhere ≡ Asked m → ⊥
    no_request m is = cc

lent_is : (e f : LeaseOut) → lease_in (Lent e) ≡ Some f → e ≡ f
lent_is e f is = cc

lends_sound : (o : Option Errno) (x : Slice) (v : Inner) (line : ℕ) (call : Call) (leased : Leased) (log : LogState) → IsSoundSlice x v → MayStart x →
    Leases o (with_line x.handle.log) line call leased log → IsWholeSlice (with_log x log) → GoesOnSoundly (with_log x log) v
lends_sound (Some errno) x v line call Answered log sound may leases whole =
    subst (λ z. GoesOnSoundly (with_log x z) v) (sym leases) (refused_sound x v line call errno sound may (subst (λ z. IsWholeSlice (with_log x z)) leases whole))
lends_sound (Some errno) x v line call (LeaseOutOf lease) log sound may leases whole = absurd leases
lends_sound (Some errno) x v line call Idle log sound may leases whole = absurd leases
lends_sound None x v line call (LeaseOutOf lease) log sound may leases whole =
    let l : LogState = x.handle.log in
    let rest : Rests l.away x.handle.stage = start_rests x v sound may in
    let n : ℕ = touched (driver_state x) call in
    let out : LogState = record (with_line l) { home = set l.home n None; away = Lent leases.entry } in
    let mem_is : leases.entry.mem.value ≡ leases.mem = leases.noted.2 ∙ ap (λ (p : LeaseParts). p.mem) leases.lent_out in
    let call_is : leases.entry.call ≡ call = leases.noted.1 ∙ ap (λ (p : LeaseParts). p.call) leases.lent_out in
    subst (λ z. GoesOnSoundly (with_log x z) v) (sym leases.left) (on_soundly (with_log x out) v v refl
    (unlogged_sound x v out sound may.out rest.0 refl refl (λ m mem there. sound.users.home m mem (none_put l.home n m mem there))
    (λ entry there. subst (λ (e : LeaseOut). IsUsers (driver_state x) (touched (driver_state x) e.call) e.mem.value) (lent_is leases.entry entry there)
    (subst (λ c. IsUsers (driver_state x) (touched (driver_state x) c) leases.entry.mem.value) (sym call_is)
    (subst (λ m. IsUsers (driver_state x) n m) (sym mem_is) (sound.users.home n leases.mem leases.there))))
    (subst (λ z. IsWholeSlice (with_log x z)) leases.left whole)))
lends_sound None x v line call Answered log sound may leases whole = absurd leases
lends_sound None x v line call Idle log sound may leases whole = absurd leases

pub lease_keeps : (x x' : Slice) (v : Inner) → IsSoundSlice x v → Lends x x' → IsWholeSlice x' → GoesOnSoundly x' v
lease_keeps x x' v sound (line, call, leased, log, may, leases, after) whole =
    subst (λ z. GoesOnSoundly z v) (sym after) (lends_sound (first_refusal (row_from x.handle.log line call).refusals) x v line call leased log sound may leases (subst IsWholeSlice after whole))

-- ---- a lease comes back

long_written : (s : LocalState) (line addr : ℕ) (call : Call) (m : ℕ) → without_bytes s ≡ without_bytes (row_of s line addr call).next → length (bytes_of (row_of s line addr call).next m) ≡ length (bytes_of s m)
long_written s line addr call m same =
    sym (long_of (row_of s line addr call).next m) ∙ (ap (λ z. length (bytes_of z m)) (sym same) ∙ long_of s m)

touch_row : (s : LocalState) (line addr : ℕ) (call : Call) → touches_bytes call ≡ true → first_refusal (row_of s line addr call).refusals ≡ None → IsAlike s (row_of s line addr call).next
unfolding read_row hash_row write_row fill_row
touch_row s line addr (Peek m off len) touches pass = alike_itself s
touch_row s line addr (Hash m) touches pass = alike_itself s
touch_row s line addr (Poke m off bytes) touches pass = record {
  opened = refl;
  model = refl;
  bound = refl;
  memory = λ u i. refl;
  long = λ k. long_written s line addr (Poke m off bytes) k (same_call s line addr (Poke m off bytes) pass);
}
touch_row s line addr (Fill m seed) touches pass = record {
  opened = refl;
  model = refl;
  bound = refl;
  memory = λ u i. refl;
  long = λ k. long_written s line addr (Fill m seed) k (same_call s line addr (Fill m seed) pass);
}
touch_row s line addr call touches pass = absurd (false≢true touches)

-- a line that touches a memory leaves what the steps of the device leave
touch_alike : (s u : LocalState) (line : ℕ) (call : Call) (reply : Reply) → touches_bytes call ≡ true → IsCall s line call reply u → IsAlike s u
unfolding called
touch_alike s u line call reply touches leads =
    elim (answered_by (first_refusal (row_for s line call reply).refusals) (row_for s line call reply) s reply u leads) as (λ _. IsAlike s u) [
      | inl same ↦ subst (IsAlike s) (sym same) (alike_itself s)
      | inr w ↦ subst (IsAlike s) (sym w.3) (touch_row s line (address_in reply) call touches w.0)
    ]

touch_own : (call : Call) → touches_bytes call ≡ true → may_cross call ≡ false
touch_own (Peek m off len) touches = refl
touch_own (Hash m) touches = refl
touch_own (Poke m off bytes) touches = refl
touch_own (Fill m seed) touches = refl
touch_own call touches = absurd (false≢true touches)

none_either : (b : Bool) → ◌≡◌ {A = List ℕ} (if b then [] else []) []
none_either true = refl
none_either false = refl

touch_quiet : (s : LocalState) (line : ℕ) (call : Call) (reply : Reply) → touches_bytes call ≡ true → stopped_by s (Some (Called line call reply)) ≡ []
touch_quiet s line (Peek m off len) reply touches = none_either (is_refusal reply)
touch_quiet s line (Hash m) reply touches = none_either (is_refusal reply)
touch_quiet s line (Poke m off bytes) reply touches = none_either (is_refusal reply)
touch_quiet s line (Fill m seed) reply touches = none_either (is_refusal reply)
touch_quiet s line call reply touches = absurd (false≢true touches)

-- while a lease is out no call is
pub lent_rests : (id : ℕ) (s : LocalState) (away : Away) (unanswered : Bool) (stage : Stage) (entry : LeaseOut) → lease_in away ≡ Some entry → FitsStage id s away unanswered stage →
    (stage ≡ AtRest) × (touches_bytes entry.call ≡ true)
lent_rests id s Nothing unanswered stage entry at fits = absurd (none-some entry at)
lent_rests id s (Sent number) unanswered stage entry at fits = absurd (none-some entry at)
lent_rests id s (Lent e) unanswered AtRest entry at fits = (refl, subst (λ (f : LeaseOut). touches_bytes f.call ≡ true) (lent_is e entry at) fits.1)
lent_rests id s (Lent e) unanswered (Underway line call) entry at fits = absurd (not_along (goes_along s call) fits.2)
  where
    not_along : (o : Option ℕ) → IsAlong o (Lent e) → ⊥
    not_along None is = cc
    not_along (Some n) is = cc
lent_rests id s (Lent e) unanswered (Waiting line call) entry at fits = absurd (not_nothing fits.1)
  where
    not_nothing : Lent e ≡ Nothing → ⊥
    not_nothing is = cc

pub rests_nowhere : (x : Slice) (v : Inner) (o : Out) → x.handle.stage ≡ AtRest → IsOut o x v → o ≡ Nowhere
rests_nowhere x v o rest out = by_out o out
  where
    apart : (l : ℕ) (c : Call) → x.handle.stage ≡ Underway l c → ⊥
    apart l c under = not_both (sym rest ∙ under)
      where
        not_both : AtRest ≡ Underway l c → ⊥
        not_both is = cc

    by_out : (o : Out) → IsOut o x v → o ≡ Nowhere
    by_out Nowhere out = refl
    by_out (Asked m) out = absurd (apart out.1.line out.1.call out.1.underway)
    by_out (Kept m) out = absurd (apart out.1.posted.line out.1.posted.call out.1.posted.underway)
    by_out (Told r) out = absurd (apart out.line out.call out.underway)
    by_out Astray out = absurd out

back_sound : (x : Slice) (v : Inner) (entry : LeaseOut) (lease : LeaseParts) → IsSoundSlice x v → lease_in x.handle.log.away ≡ Some entry → CameBackDone entry lease →
    IsWholeSlice (with_log x (given_back x.handle.log lease)) → GoesOnSoundly (with_log x (given_back x.handle.log lease)) v
back_sound x v entry lease sound lent back whole =
    let l : LogState = x.handle.log in
    let s : LocalState = driver_state x in
    let log : LogState = given_back l lease in
    let rest : (x.handle.stage ≡ AtRest) × (touches_bytes entry.call ≡ true) = lent_rests (id_of x.handle.session) s l.away l.unanswered x.handle.stage entry lent sound.handle.fits in
    let touches : touches_bytes lease.call ≡ true = ap touches_bytes back.call ∙ rest.1 in
    let at : x.out ≡ Nowhere = rests_nowhere x v x.out rest.0 sound.out in
    let is_call : IsCall s lease.line lease.call lease.reply (state_of log) =
    last_leads l.model l.entries (Called lease.line lease.call lease.reply) sound.handle.legal whole.handle.legal in
    let on : IsAlike s (state_of log) = touch_alike s (state_of log) lease.line lease.call lease.reply touches is_call in
    let before : IsUsers s (touched s lease.call) entry.mem.value = subst (λ c. IsUsers s (touched s c) entry.mem.value) (sym back.call) (sound.users.lent entry lent) in
    let long : length (mem_bytes lease.mem) ≡ length (mem_bytes entry.mem.value) = ap (λ (bs : List ℕ). length bs) back.done.bytes ∙ lent_left l entry sound.log lent in
    let lent_mem : IsUsers s (touched s lease.call) lease.mem = record {
      pages = λ b bound_line off there owns kind. back.done.rest ∙ before.pages b bound_line off there owns kind;
      holds = hold_like entry.mem.value lease.mem back.done.rest long before.holds;
    } in
    logged_sound x v log at (own_sound x v (record x.handle { log = log }) lease.line lease.call lease.reply (free_of x v sound at (rests_free x.handle.stage rest.0)) (record {
      is_call = is_call;
      entries = refl;
      away = refl;
      session = refl;
      stage = rest.0;
      home = λ m mem there. users_alike s (state_of log) m mem on
          (elim (set_from l.home (touched s lease.call) m (Some lease.mem) mem (kept_from (state_of log) (set l.home (touched s lease.call) (Some lease.mem)) m mem there)) as (λ _. IsUsers s m mem) [
            | inl old ↦ sound.users.home m mem old
            | inr new ↦ subst (λ n. IsUsers s n mem) (sym new.0) (subst (λ k. IsUsers s (touched s lease.call) k) (some_same lease.mem mem mem new.1) lent_mem)
          ]);
    }) (inl (touch_own lease.call touches)) (λ z. touch_quiet z lease.line lease.call lease.reply touches) (λ held one users. held_alike s (state_of log) held on users) whole.log whole.handle)

pub give_back_keeps : (x x' : Slice) (v : Inner) → IsSoundSlice x v → GetsBack x x' → IsWholeSlice x' → GoesOnSoundly x' v
give_back_keeps x x' v sound (entry, lease, lent, back, after) whole =
    subst (λ z. GoesOnSoundly z v) (sym after) (back_sound x v entry lease sound lent back (subst IsWholeSlice after whole))
