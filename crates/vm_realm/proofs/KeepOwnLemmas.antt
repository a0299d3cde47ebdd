-- A call that the driver answers by itself keeps a slice sound.
use Rattle.std.proofs.Common.{◌≡◌, ◌⊎◌, inl, inr, ℕ, true, false, Bool, List, [], ◌∷◌, ◌++◌, get_or, Option, Some, None, refl, sym, ap, ◌∙◌, subst, arith}
use Rattle.std.specs.List.{filter_map}
use Rattle.std.specs.Prelude.{IfSome, Contains}
use Rattle.std.specs.Option.{option_map}
use Rattle.vm_frame.specs.declared.mem.Held.{Held}
use Rattle.vm_frame.specs.declared.mem.Mem.{Mem}
use Rattle.vm_lease.specs.declared.lease_out.LeaseOut.{LeaseOut}
use Rattle.vm_wire.specs.Message.{Posting, Returning}
use Rattle.vm_local.specs.declared.call.Call.{Call}
use Rattle.vm_local.specs.declared.entry.Entry.{Entry}
use Rattle.vm_local.specs.declared.entry.Entry.TheVariants.{Called, Finish, Bad, Give}
use Rattle.vm_local.specs.declared.reply.Reply.{Reply}
use Rattle.vm_local.specs.State.{LocalState}
use Rattle.vm_local.specs.Log.{IsCall}
use Rattle.vm_commute.specs.Commute.{may_cross}
use Rattle.vm_commute.proofs.ReachedLemmas.{reached_after}
use Rattle.vm_home.specs.Home.{home_of}
use Rattle.vm_home.specs.Reached.{IsReached}
use Rattle.vm_log.specs.LegalLog.{IsSound as IsSoundLog, state_of, lease_in}
use Rattle.vm_log.specs.declared.away.Away.{Away}
use Rattle.vm_log.specs.declared.away.Away.TheVariants.{Nothing}
use Rattle.vm_handle.specs.Handle.{HandleState, Keeps, id_of}
use Rattle.vm_handle.specs.declared.stage.Stage.{Stage}
use Rattle.vm_handle.specs.declared.stage.Stage.TheVariants.{AtRest, Underway}
use Rattle.vm_session.specs.State.{SessionState}
use Rattle.vm_stands.specs.Flight.{LeadAll}
use Rattle.vm_stands.specs.Slice.{IsSlice, LeadAhead}
use Rattle.vm_stands.proofs.SliceLemmas.{slice_has_own_calls}
use Rattle.vm_realm.specs.Inner.{Inner, driver_state, id_in, under_way, unsent_in}
use Rattle.vm_realm.specs.Places.{queued_held, job_held}
use Rattle.vm_realm.specs.Slice.{Slice, id_ahead, earlier_of}
use Rattle.vm_realm.specs.Slice.Out.{Nowhere, Asked, Told}
use Rattle.vm_realm.specs.SliceSteps.{holds_back}
use Rattle.vm_realm.specs.Sound.{IsShut, IsSeated, HoldsFew, spec_running, last_call_from, stopped_by, stopped_last, queue_told, IsStill, IsSoundSlice}
use Rattle.vm_realm.specs.Users.{IsUsers, AreUsers}
use Rattle.vm_realm.proofs.KeepStateLemmas.{IsAlike, alike_back, lead_alike, held_alike}
use Rattle.vm_realm.proofs.KeepShutLemmas.{shut_leads, own_leaves}
use Rattle.vm_realm.proofs.KeepOutLemmas.{append_none}

-- ---- before the call

-- the memories of the messages that are under way
abbrev pub told_held : Slice → List Held
told_held x = filter_map (λ e. e.held) (under_way x)

-- What is so of a slice of which no call is out, nor is anything held back, but for its log.
pub record IsFree (x : Slice) (v : Inner) : Type 0 where
  pub reached : IsReached (driver_state x)
  pub none : v.executed ≡ None
  pub nowhere : x.out ≡ Nowhere
  pub nothing_held : x.held ≡ []
  pub seated : IsSeated x.session x v
  pub named : IfSome x.session (λ s. x.handle.session ≡ Some s.id)
  pub runs : spec_running x.session ≡ option_map (λ j. j.spec) x.job
  pub messages : AreUsers v.ahead (told_held x)
  pub queued : AreUsers v.ahead (queued_held x.session)
  pub taken : AreUsers v.ahead (job_held x.job)

-- one of the lists of memories that aren't with the driver
abbrev pub IsOneOf : Slice → List Held → Type 0
IsOneOf x held = (held ≡ told_held x) ⊎ ((held ≡ queued_held x.session) ⊎ (held ≡ job_held x.job))

-- The handle has logged the call: no other one is out, and its memories are at home.
pub record IsLogged (x : Slice) (h : HandleState) (line : ℕ) (call : Call) (reply : Reply) : Type 0 where
  pub is_call : IsCall (driver_state x) line call reply (state_of h.log)
  pub entries : h.log.entries ≡ x.handle.log.entries ++ Called line call reply ∷ []
  pub away : h.log.away ≡ Nothing
  pub session : h.session ≡ x.handle.session
  pub stage : h.stage ≡ AtRest
  pub home : (m : ℕ) (mem : Mem) → home_of h.log.home m ≡ Some mem → IsUsers (state_of h.log) m mem

-- ---- the state ahead

abbrev logged : Slice → HandleState → Slice
logged x h = record x { handle = h; out = Nowhere }

abbrev ahead_at : Inner → LocalState → LocalState → Inner
ahead_at v u t = record v { executed = None; before = u; ahead = t }

-- the messages lead from the driver's state to the state ahead
pub leads_of : (o : Option SessionState) (x : Slice) (v : Inner) → v.executed ≡ None → IsSeated o x v → (id : ℕ) × LeadAll id (driver_state x) (earlier_of x ++ unsent_in o) v.ahead
leads_of None x v none seated = (
  id_in x,
  subst (λ es. LeadAll (id_in x) (driver_state x) es v.ahead) (sym (append_none (earlier_of x)))
      (subst (λ e. LeadAhead (id_in x) (driver_state x) e (earlier_of x) v.ahead) none seated.leads),
)
leads_of (Some s) x v none seated = (s.id, subst (λ e. LeadAhead s.id (driver_state x) e (earlier_of x ++ s.unsent) v.ahead) none seated.leads)

-- where no session is live
shut_own : (x : Slice) (v : Inner) (h : HandleState) (line : ℕ) (call : Call) (reply : Reply) → IsReached (driver_state x) → v.executed ≡ None → x.out ≡ Nowhere →
    IsLogged x h line call reply → (may_cross call ≡ false) ⊎ (state_of h.log ≡ driver_state x) → IsShut x v → (t : LocalState) × IsShut (logged x h) (ahead_at v (state_of h.log) t)
shut_own x v h line call reply reached none nowhere is (inr same) shut = (
  v.ahead,
  record {
    reached = subst IsReached (sym same) reached;
    leads = subst (λ n. LeadAll n (state_of h.log) (earlier_of x) v.ahead) (sym (ap id_of is.session ∙ sym (ap (λ o. id_of (id_ahead x.handle o)) nowhere)))
        (subst (λ r. LeadAll (id_in x) r (earlier_of x) v.ahead) (sym same) (subst (λ e. LeadAhead (id_in x) (driver_state x) e (earlier_of x) v.ahead) none shut.leads));
    shut = shut.shut;
    owed = shut.owed;
    none_runs = shut.none_runs;
    unmade = λ unnamed. shut.unmade (ap (id_ahead x.handle) nowhere ∙ (sym is.session ∙ unnamed));
  },
)
shut_own x v h line call reply reached none nowhere is (inl own) shut =
    let u : LocalState = state_of h.log in
    let leads : LeadAll (id_in x) (driver_state x) (earlier_of x) v.ahead = subst (λ e. LeadAhead (id_in x) (driver_state x) e (earlier_of x) v.ahead) none shut.leads in
    let empty : earlier_of x ≡ [] = shut_leads (id_in x) (driver_state x) v.ahead (earlier_of x) reached shut.shut leads in
    let same : v.ahead ≡ driver_state x = subst (λ es. LeadAll (id_in x) (driver_state x) es v.ahead) empty leads in
    let leaves : (u.opened ≡ (driver_state x).opened) × (u.owed ≡ (driver_state x).owed) = own_leaves (driver_state x) u line call reply own is.is_call in (
      u,
      record {
        reached = reached_after (driver_state x) u (Called line call reply) reached is.is_call;
        leads = subst (λ es. LeadAll (id_of h.session) u es u) (sym empty) refl;
        shut = leaves.0 ∙ (ap (λ (s : LocalState). s.opened) (sym same) ∙ shut.shut);
        owed = leaves.1 ∙ (ap (λ (s : LocalState). s.owed) (sym same) ∙ shut.owed);
        none_runs = shut.none_runs;
        unmade = λ unnamed. shut.unmade (ap (id_ahead x.handle) nowhere ∙ (sym is.session ∙ unnamed));
      },
    )

slice_own : (x : Slice) (v : Inner) (h : HandleState) (line : ℕ) (call : Call) (reply : Reply) (s : SessionState) → v.executed ≡ None →
    IsLogged x h line call reply → (may_cross call ≡ false) ⊎ (state_of h.log ≡ driver_state x) → IsSlice v.frames s x.job (earlier_of x) v.executed (driver_state x) v.ahead →
    (t : LocalState) × IsSlice v.frames s x.job (earlier_of x) None (state_of h.log) t
slice_own x v h line call reply s none is (inl own) slice =
    slice_has_own_calls v.frames s x.job (earlier_of x) line call reply (driver_state x) v.ahead (state_of h.log)
    (subst (λ e. IsSlice v.frames s x.job (earlier_of x) e (driver_state x) v.ahead) none slice) own is.is_call
slice_own x v h line call reply s none is (inr same) slice = (
  v.ahead,
  subst (λ r. IsSlice v.frames s x.job (earlier_of x) None r v.ahead) (sym same)
      (subst (λ e. IsSlice v.frames s x.job (earlier_of x) e (driver_state x) v.ahead) none slice),
)

seated_own : (o : Option SessionState) (x : Slice) (v : Inner) (h : HandleState) (line : ℕ) (call : Call) (reply : Reply) → IsReached (driver_state x) → v.executed ≡ None → x.out ≡ Nowhere →
    IsLogged x h line call reply → (may_cross call ≡ false) ⊎ (state_of h.log ≡ driver_state x) → IsSeated o x v →
    (t : LocalState) × IsSeated o (logged x h) (ahead_at v (state_of h.log) t)
seated_own None x v h line call reply reached none nowhere is how seated = shut_own x v h line call reply reached none nowhere is how seated
seated_own (Some s) x v h line call reply reached none nowhere is how seated = slice_own x v h line call reply s none is how seated

-- ---- the slice

pub last_behind : (last : Option Entry) (es : List Entry) (line : ℕ) (call : Call) (reply : Reply) → last_call_from last (es ++ Called line call reply ∷ []) ≡ Some (Called line call reply)
last_behind last [] line call reply = refl
last_behind last (Called l c r ∷ es) line call reply = last_behind (Some (Called l c r)) es line call reply
last_behind last (Finish ∷ es) line call reply = last_behind last es line call reply
last_behind last (Bad ∷ es) line call reply = last_behind last es line call reply
last_behind last (Give ∷ es) line call reply = last_behind last es line call reply

contains_none : {A : Type 0} (a : A) → Contains [] a → ⊥
contains_none a there = omega (arith, there.1)

pub still_free : (x : Slice) → stopped_last x ≡ [] → IsStill x
still_free x none = λ k d within there.
    let told : ℕ = queue_told x.handle.log.model (get_or (under_way x) k d).msg in
    contains_none told (subst (λ ts. Contains ts told) none there)

pub holds_none : (b : Bool) → HoldsFew b []
holds_none true = tt
holds_none false = refl

if_some : {A : Type 0} (o : Option A) (P Q : A → Type 0) → ((a : A) → P a → Q a) → IfSome o P → IfSome o Q
if_some None P Q f is = is
if_some (Some a) P Q f is = f a is

not_underway : (stage : Stage) (line : ℕ) (call : Call) → stage ≡ AtRest → stage ≡ Underway line call → ⊥
not_underway stage line call rests is = cc

nothing_lent : (away : Away) (entry : LeaseOut) → away ≡ Nothing → lease_in away ≡ Some entry → ⊥
nothing_lent away entry none is = cc

pub own_sound : (x : Slice) (v : Inner) (h : HandleState) (line : ℕ) (call : Call) (reply : Reply) → IsFree x v → IsLogged x h line call reply →
    (may_cross call ≡ false) ⊎ (state_of h.log ≡ driver_state x) → ((s : LocalState) → stopped_by s (Some (Called line call reply)) ≡ []) →
    ((held : List Held) → IsOneOf x held → AreUsers (driver_state x) held → AreUsers (state_of h.log) held) → IsSoundLog h.log → Keeps h.log h.session h.stage →
    (w : Inner) × (w.frames ≡ v.frames) × IsSoundSlice (record x { handle = h; out = Nowhere }) w
own_sound x v h line call reply free is how quiet carry sound keeps =
    let r : LocalState = driver_state x in
    let u : LocalState = state_of h.log in
    let y : Slice = logged x h in
    let by : (t : LocalState) × IsSeated x.session y (ahead_at v u t) = seated_own x.session x v h line call reply free.reached free.none free.nowhere is how free.seated in
    let t : LocalState = by.0 in
    let w : Inner = ahead_at v u t in
    let there : IsReached u = reached_after r u (Called line call reply) free.reached is.is_call in
    let old : (id : ℕ) × LeadAll id r (earlier_of x ++ unsent_in x.session) v.ahead = leads_of x.session x v free.none free.seated in
    let new : (id : ℕ) × LeadAll id u (earlier_of x ++ unsent_in x.session) t = leads_of x.session y w refl by.1 in
    let back : IsAlike v.ahead r = alike_back r v.ahead (lead_alike old.0 r v.ahead (earlier_of x ++ unsent_in x.session) free.reached old.1) in
    let on : IsAlike u t = lead_alike new.0 u t (earlier_of x ++ unsent_in x.session) there new.1 in
    let carried : (held : List Held) → IsOneOf x held → AreUsers v.ahead held → AreUsers t held =
    λ held one users. held_alike u t held on (carry held one (held_alike v.ahead r held back users)) in (
      w,
      refl,
      record {
        log = sound;
        handle = keeps;
        out = (record { executed = refl; before = refl }, λ l c at. not_underway h.stage l c is.stage at);
        seated = by.1;
        named = if_some x.session (λ s. x.handle.session ≡ Some s.id) (λ s. h.session ≡ Some s.id) (λ s named. is.session ∙ named) free.named;
        runs = free.runs;
        still = still_free y (ap (λ es. stopped_by u (last_call_from None es)) is.entries
            ∙ (ap (stopped_by u) (last_behind None x.handle.log.entries line call reply) ∙ quiet u));
        held = subst (HoldsFew (holds_back h.stage)) (sym free.nothing_held) (holds_none (holds_back h.stage));
        users = record {
          home = is.home;
          lent = λ entry at. absurd (nothing_lent h.log.away entry is.away at);
          along = λ m number at. absurd (no_request m at);
          back = λ told at. absurd (no_reply told at);
          messages = carried (told_held x) (inl refl) free.messages;
          queued = carried (queued_held x.session) (inr (inl refl)) free.queued;
          job = carried (job_held x.job) (inr (inr refl)) free.taken;
        };
      },
    )
  where
    no_request : (m : Posting) → Nowhere ≡ Asked m → ⊥
    no_request m at = cc

    no_reply : (told : Returning) → Nowhere ≡ Told told → ⊥
    no_reply told at = cc
