-- A call that has to wait in the device, and what is so of a slice whose call was done there.
use Rattle.std.proofs.Common.{◌≡◌, ℕ, true, false, Bool, ◌&&◌, List, [], ◌∷◌, ◌++◌, All, Option, Some, None, IsSome, refl, sym, ap, ◌∙◌, subst, if◌then◌else◌, true≢false}
use Rattle.std.specs.List.{filter_map}
use Rattle.std.specs.Option.{option_map}
use Rattle.std.specs.Prelude.{IfSome, Contains, Ok, is_some, take}
use Rattle.std.proofs.lemmas.Bool.{false≢true, and_parts}
use Rattle.std.proofs.lemmas.Option.{none-some}
use Rattle.v4l_const.specs.declared.ioctl_code.IoctlCode.{IoctlCode}
use Rattle.v4l_rules.specs.Refusals.{first_refusal}
use Rattle.vm_wire.specs.Message.{Posting, Returning}
use Rattle.vm_wire.specs.Message.Ask.{Judged}
use Rattle.vm_wire.specs.declared.command.Command.{Command}
use Rattle.vm_wire.specs.declared.command.Command.TheVariants.{OpenSession}
use Rattle.vm_local.specs.declared.call.Call.{Call}
use Rattle.vm_local.specs.declared.call.Call.TheVariants.{OpenHandle, CloseHandle, QueryCap, EnumFmt, GFmt, TryFmt, SFmt, EnumInput, GInput, SInput, ReqBufs, QueryBuf, UAlloc, QBuf, StreamOn, StreamOff, DqBuf, Mmap, Munmap, Peek, Hash, Poke, Fill, Subscribe, Unsubscribe, DqEvent}
use Rattle.vm_local.specs.declared.entry.Entry.{Entry}
use Rattle.vm_local.specs.declared.entry.Entry.TheVariants.{Called, Finish, Bad, Give}
use Rattle.vm_local.specs.State.{LocalState, opening}
use Rattle.vm_local.specs.Calls.{row_of}
use Rattle.vm_local.specs.Log.{IsLegal, after, replay, replay_from}
use Rattle.vm_local.proofs.KeptLemmas.{some_same}
use Rattle.vm_commute.proofs.EventsLemmas.{by_first}
use Rattle.vm_home.specs.Moves.{is_stopping}
use Rattle.vm_log.specs.LegalLog.{LogState, state_of}
use Rattle.vm_exchange.specs.declared.crossing.Crossing.{Crossing}
use Rattle.vm_exchange.specs.declared.way.Way.TheVariants.{Crosses, AnsweredHere}
use Rattle.vm_exchange.specs.Exchange.{crossing, crossing_of, qbuf_crossing}
use Rattle.vm_exchange.proofs.FitLemmas.{crossed_open, crossed_unrefused}
use Rattle.vm_handle.specs.Handle.{id_of}
use Rattle.vm_handle.proofs.StageLemmas.{dqbuf_stays}
use Rattle.vm_session.specs.Rows.{puts_back, stops as stops_session}
use Rattle.vm_session.specs.State.{SessionState}
use Rattle.vm_session.specs.declared.unsent.Unsent.{Unsent}
use Rattle.vm_stands.proofs.AheadLemmas.{call_model}
use Rattle.vm_stands.proofs.FlightLemmas.{step_model}
use Rattle.vm_stands.specs.Slice.{LeadAhead}
use Rattle.vm_device.specs.Device.{DeviceState, session_of}
use Rattle.vm_device.specs.Perform.{is_busy, stops_in, must_wait}
use Rattle.vm_realm.specs.Inner.{Inner, driver_state, under_way, unsent_in}
use Rattle.vm_realm.specs.Laws.{WaitingKeepsSlice}
use Rattle.vm_realm.specs.Places.{told_state, stopped_by as stopped_many, queued_held, job_held}
use Rattle.vm_realm.specs.Slice.{Slice, id_ahead, session_in, earlier_of}
use Rattle.vm_realm.specs.Slice.Out.{Asked, Kept, Told}
use Rattle.vm_realm.specs.Sound.{IsPosted, IsTold, NothingExecuted, IsOut, IsSeated, spec_running, stopped_last, queue_told, IsSoundSlice}
use Rattle.vm_realm.specs.Users.{AreUsers}
use Rattle.vm_realm.proofs.KeepOutLemmas.{on_soundly}
use Rattle.vm_realm.proofs.KeepTakeLemmas.{some_of}
use Rattle.vm_realm.proofs.KeepOwnLemmas.{told_held}
use Rattle.vm_realm.proofs.SessionLemmas.{open_has}

-- ---- the model of a state

entry_model : (s t : LocalState) (e : Entry) → after s e ≡ Some t → t.model ≡ s.model
entry_model s t (Called line call reply) leads = call_model s t line call reply leads
entry_model s t Finish leads = step_model s t Finish refl leads
entry_model s t Bad leads = step_model s t Bad refl leads
entry_model s t Give leads = step_model s t Give refl leads

log_models : (es : List Entry) (s t : LocalState) → replay_from s es ≡ Some t → t.model ≡ s.model
log_models [] s t leads = ap (λ (x : LocalState). x.model) (sym (some_same s t s leads))
log_models (e ∷ es) s t leads =
    let by : _ = by_first s t e es leads in
    log_models es by.0 t by.2 ∙ entry_model s by.0 e by.1

-- it is that of its log
pub state_model : (l : LogState) → IsLegal l.model l.entries → (state_of l).model ≡ l.model
state_model l legal = log_models l.entries (opening l.model) (state_of l) (some_of l.model (replay l.model l.entries) legal)

-- ---- what was posted

pub asked_same : (x : Slice) (m : Posting) (c : Command) (posted : IsPosted x m) → m.request.asks ≡ Judged (Ok c) → posted.crossing.command ≡ c
asked_same x m c posted asks = judged_same posted.crossing.command c (sym (ap (λ (p : Posting). p.request.asks) posted.says) ∙ asks)
  where
    judged_same : (a b : Command) → Judged (Ok a) ≡ Judged (Ok b) → a ≡ b
    judged_same a b is = cc

-- ---- a call that waits

none_waits : (o : Option SessionState) (code : IoctlCode) (p : List ℕ) (b : Bool) → puts_back code ≡ false → (stops_in o code p && b) ≡ true → ⊥
none_waits None code p b other waits = false≢true waits
none_waits (Some s) code p b other waits =
    true≢false (sym (and_parts (puts_back code) _ (and_parts (stops_session s code p) b waits).0).0 ∙ other)

busy_some : (o : Option SessionState) → is_busy o ≡ true → IsSome o
busy_some None busy = absurd (false≢true busy)
busy_some (Some s) busy = refl

open_waits : (d : DeviceState) (b : Bool) (x c : Crossing) → crossing (if b then Crosses x else AnsweredHere) ≡ Some c → must_wait d c.command ≡ true → must_wait d x.command ≡ true
open_waits d b x c is waits = subst (λ (k : Crossing). must_wait d k.command ≡ true) (sym (crossed_open b x c is)) waits

none_crosses : (c : Crossing) → None ≡ Some c → ⊥
none_crosses c is = none-some c is

qbuf_command : (id : ℕ) (s : LocalState) (t i : ℕ) (user : Option (List ℕ)) (used ts : ℕ) (d : DeviceState) → must_wait d (qbuf_crossing id s t i user used ts).command ≡ true → ⊥
unfolding qbuf_crossing
qbuf_command id s t i user used ts d waits = none_waits (session_of d id) _ _ (is_busy (session_of d id)) refl waits

-- it stops queues, and the session under its id is live
waits_stop : (id : ℕ) (s : LocalState) (call : Call) (c : Crossing) (d : DeviceState) → crossing_of id s call ≡ Some c → must_wait d c.command ≡ true → (is_stopping call ≡ true) × (s.opened ≡ true) × IsSome (session_of d id)
waits_stop id s (OpenHandle nonblock) c d is waits =
    absurd (false≢true (subst (λ (k : Crossing). must_wait d k.command ≡ true) (sym (some_same (record { command = OpenSession; user = None }) c c is)) waits))
waits_stop id s CloseHandle c d is waits = (refl, opened_by s.opened _ c is, busy_some (session_of d id) (open_waits d s.opened _ c is waits))
  where
    opened_by : (b : Bool) (x c : Crossing) → crossing (if b then Crosses x else AnsweredHere) ≡ Some c → b ≡ true
    opened_by true x c is = refl
    opened_by false x c is = absurd (none_crosses c is)
waits_stop id s (ReqBufs t m n) c d is waits =
    (refl, opened_by s.opened _ c is, busy_some (session_of d id) (and_parts _ (is_busy (session_of d id)) (open_waits d s.opened _ c is waits)).1)
  where
    opened_by : (b : Bool) (x c : Crossing) → crossing (if b then Crosses x else AnsweredHere) ≡ Some c → b ≡ true
    opened_by true x c is = refl
    opened_by false x c is = absurd (none_crosses c is)
waits_stop id s (StreamOff t) c d is waits =
    (refl, opened_by s.opened _ c is, busy_some (session_of d id) (and_parts _ (is_busy (session_of d id)) (open_waits d s.opened _ c is waits)).1)
  where
    opened_by : (b : Bool) (x c : Crossing) → crossing (if b then Crosses x else AnsweredHere) ≡ Some c → b ≡ true
    opened_by true x c is = refl
    opened_by false x c is = absurd (none_crosses c is)
waits_stop id s QueryCap c d is waits = absurd (none_waits (session_of d id) _ _ (is_busy (session_of d id)) refl (open_waits d s.opened _ c is waits))
waits_stop id s (EnumFmt t i) c d is waits = absurd (none_waits (session_of d id) _ _ (is_busy (session_of d id)) refl (open_waits d s.opened _ c is waits))
waits_stop id s (GFmt t) c d is waits = absurd (none_waits (session_of d id) _ _ (is_busy (session_of d id)) refl (open_waits d s.opened _ c is waits))
waits_stop id s (TryFmt t f w h) c d is waits = absurd (none_waits (session_of d id) _ _ (is_busy (session_of d id)) refl (open_waits d s.opened _ c is waits))
waits_stop id s (SFmt t f w h) c d is waits = absurd (none_waits (session_of d id) _ _ (is_busy (session_of d id)) refl (open_waits d s.opened _ c is waits))
waits_stop id s (EnumInput i) c d is waits = absurd (none_waits (session_of d id) _ _ (is_busy (session_of d id)) refl (open_waits d s.opened _ c is waits))
waits_stop id s GInput c d is waits = absurd (none_waits (session_of d id) _ _ (is_busy (session_of d id)) refl (open_waits d s.opened _ c is waits))
waits_stop id s (SInput i) c d is waits = absurd (none_waits (session_of d id) _ _ (is_busy (session_of d id)) refl (open_waits d s.opened _ c is waits))
waits_stop id s (QueryBuf t i) c d is waits = absurd (none_waits (session_of d id) _ _ (is_busy (session_of d id)) refl (open_waits d s.opened _ c is waits))
waits_stop id s (StreamOn t) c d is waits = absurd (none_waits (session_of d id) _ _ (is_busy (session_of d id)) refl (open_waits d s.opened _ c is waits))
waits_stop id s (Subscribe e) c d is waits = absurd (none_waits (session_of d id) _ _ (is_busy (session_of d id)) refl (open_waits d s.opened _ c is waits))
waits_stop id s (Unsubscribe e) c d is waits = absurd (none_waits (session_of d id) _ _ (is_busy (session_of d id)) refl (open_waits d s.opened _ c is waits))
waits_stop id s (QBuf t i user used ts) c d is waits =
    absurd (qbuf_command id s t i user used ts d (subst (λ (k : Crossing). must_wait d k.command ≡ true) (sym (crossed_unrefused (first_refusal (row_of s 0 0 (QBuf t i user used ts)).refusals) _ c is).1) waits))
waits_stop id s (Mmap m t i ro) c d is waits =
    absurd (false≢true (subst (λ (k : Crossing). must_wait d k.command ≡ true) (sym (crossed_unrefused (first_refusal (row_of s 0 0 (Mmap m t i ro)).refusals) _ c is).1) waits))
waits_stop id s (Munmap m) c d is waits =
    absurd (false≢true (subst (λ (k : Crossing). must_wait d k.command ≡ true) (sym (crossed_unrefused (first_refusal (row_of s 0 0 (Munmap m)).refusals) _ c is).1) waits))
waits_stop id s (DqBuf t) c d is waits =
    absurd (dqbuf_stays (first_refusal (row_of s 0 0 (DqBuf t)).refusals) (row_of s 0 0 (DqBuf t)).waits (subst IsSome (sym is) refl))
waits_stop id s (UAlloc u len off) c d is waits = absurd (none_crosses c is)
waits_stop id s (Peek m off len) c d is waits = absurd (none_crosses c is)
waits_stop id s (Hash m) c d is waits = absurd (none_crosses c is)
waits_stop id s (Poke m off bytes) c d is waits = absurd (none_crosses c is)
waits_stop id s (Fill m seed) c d is waits = absurd (none_crosses c is)
waits_stop id s DqEvent c d is waits = absurd (none_crosses c is)

-- where the handle has a session, it is the device's under its id
pub session_is : (d : DeviceState) (o : Option ℕ) → is_some o ≡ true → session_in d o ≡ session_of d (id_of o)
session_is d None some = absurd (false≢true some)
session_is d (Some id) some = refl

seated_waits : (o : Option SessionState) (x : Slice) (v : Inner) (m : Posting) → x.out ≡ Asked m → IsSeated o x v → IsSeated o (record x { out = Kept m }) v
seated_waits None x v m at shut = record {
  reached = shut.reached;
  leads = subst (λ n. LeadAhead n (driver_state x) v.executed (earlier_of x) v.ahead) (ap (λ k. id_of (id_ahead x.handle k)) at) shut.leads;
  shut = shut.shut;
  owed = shut.owed;
  none_runs = shut.none_runs;
  unmade = λ unnamed. shut.unmade (ap (id_ahead x.handle) at ∙ unnamed);
}
seated_waits (Some s) x v m at slice = slice

pub waiting_keeps : WaitingKeepsSlice
waiting_keeps x v m c d sound at asks is waits =
    let out : NothingExecuted x v × IsPosted x m = subst (λ o. IsOut o x v) at sound.out in
    let posted : IsPosted x m = out.1 in
    let stop : (is_stopping posted.call ≡ true) × ((driver_state x).opened ≡ true) × IsSome (session_of d (id_of x.handle.session)) =
    waits_stop (id_of x.handle.session) (driver_state x) posted.call posted.crossing d posted.crosses (subst (λ k. must_wait d k ≡ true) (sym (asked_same x m c posted asks)) waits) in
    let live : IsSome x.session = subst IsSome (sym (session_is d x.handle.session (open_has x.handle sound.handle stop.1)) ∙ is.session) stop.2 in
    on_soundly (record x { out = Kept m }) v v refl (record {
      log = sound.log;
      handle = sound.handle;
      out = (
        record { executed = out.0.executed; before = out.0.before },
        record {
          posted = record {
            line = posted.line;
            call = posted.call;
            crossing = posted.crossing;
            along = posted.along;
            underway = posted.underway;
            crosses = posted.crosses;
            words = posted.words;
            first = posted.first;
            says = posted.says;
            memory = posted.memory;
          };
          stops = stop.0;
          live = live;
        },
      );
      seated = seated_waits x.session x v m at sound.seated;
      named = subst (λ o. IfSome x.session (λ s. id_ahead x.handle o ≡ Some s.id)) at sound.named;
      runs = sound.runs;
      still = sound.still;
      held = sound.held;
      users = record {
        home = sound.users.home;
        lent = sound.users.lent;
        along = λ k number kept. absurd (not_asked m k kept);
        back = λ r told. absurd (not_told m r told);
        messages = sound.users.messages;
        queued = sound.users.queued;
        job = sound.users.job;
      };
    })
  where
    not_asked : (m k : Posting) → Kept m ≡ Asked k → ⊥
    not_asked m k is = cc

    not_told : (m : Posting) (r : Returning) → Kept m ≡ Told r → ⊥
    not_told m r is = cc

-- ---- a call that was done

-- What is so of the slice whose call was done, beside what its handle keeps.
pub record IsDone (x : Slice) (r : Returning) (session : Option SessionState) (w : Inner) : Type 0 where
  pub told : IsTold (record x { out = Told r; session = session }) w r
  pub seated : IsSeated session (record x { out = Told r; session = session }) w
  pub named : IfSome session (λ s. id_ahead x.handle (Told r) ≡ Some s.id)
  pub runs : spec_running session ≡ option_map (λ j. j.spec) x.job
  pub under : earlier_of x ++ unsent_in session ≡ under_way x
  pub back : AreUsers w.before (take (stopped_many w.before w.executed) r.held)
  pub messages : AreUsers (told_state w) (told_held x)
  pub queued : AreUsers w.ahead (queued_held session)
  pub taken : AreUsers w.ahead (job_held x.job)

pub done_sound : (x : Slice) (v w : Inner) (r : Returning) (session : Option SessionState) → IsSoundSlice x v → IsDone x r session w → IsSoundSlice (record x { out = Told r; session = session }) w
done_sound x v w r session sound is = record {
  log = sound.log;
  handle = sound.handle;
  out = is.told;
  seated = is.seated;
  named = is.named;
  runs = is.runs;
  still = subst (λ (es : List Unsent). All (λ e. ¬ Contains (stopped_last x) (queue_told x.handle.log.model e.msg)) es) (sym is.under) sound.still;
  held = sound.held;
  users = record {
    home = sound.users.home;
    lent = sound.users.lent;
    along = λ k number told. absurd (not_asked r k told);
    back = λ q told. subst (λ (z : Returning). AreUsers w.before (take (stopped_many w.before w.executed) z.held)) (told_same r q told) is.back;
    messages = subst (λ (es : List Unsent). AreUsers (told_state w) (filter_map (λ e. e.held) es)) (sym is.under) is.messages;
    queued = is.queued;
    job = is.taken;
  };
}
  where
    not_asked : (r : Returning) (k : Posting) → Told r ≡ Asked k → ⊥
    not_asked r k is = cc

    told_same : (r q : Returning) → Told r ≡ Told q → r ≡ q
    told_same r q is = cc
