-- An open and a close that the device does keep a slice sound.
use Rattle.std.proofs.Common.{◌≡◌, ◌⊎◌, inl, inr, ℕ, zero, suc, ◌<◌, ◌^◌, true, false, Bool, not, List, [], ◌∷◌, ◌++◌, All, length, map, get_or, Option, Some, None, IsSome, refl, sym, ap, ◌∙◌, subst, arith, lit<, if◌then◌else◌, true≢false, get_or-set_same}
use Rattle.std.specs.List.{filter_map}
use Rattle.std.specs.Option.{option_map, option_to_list}
use Rattle.std.specs.Prelude.{IfSome, Ok, take}
use Rattle.std.proofs.lemmas.Bool.{false≢true, not-false}
use Rattle.std.proofs.lemmas.Option.{none-some}
use Rattle.std.proofs.lemmas.List.{length-map}
use Rattle.std.proofs.lemmas.List.Elements.{All-nil, All-cons, All-head, All-tail}
use Rattle.v4l_const.specs.declared.errno.Errno.TheVariants.{Enomem}
use Rattle.v4l_const.specs.declared.model.Model.{Model}
use Rattle.v4l_const.specs.Model.{queues as types_of}
use Rattle.v4l_rules.specs.Queues.{place_in}
use Rattle.v4l_const.specs.declared.model.Model.TheVariants.{Capture, Convert}
use Rattle.vm_frame.specs.declared.mem.Held.{Held}
use Rattle.vm_job.specs.Job.{JobParts}
use Rattle.vm_wire.specs.Message.{Posting, Returning}
use Rattle.vm_wire.specs.Message.Ask.{Judged}
use Rattle.vm_wire.specs.Wire.{response_bytes, response_of, ReadsBack}
use Rattle.vm_wire.specs.declared.command.Command.{Command}
use Rattle.vm_wire.specs.declared.command.Command.TheVariants.{OpenSession, CloseSession}
use Rattle.vm_wire.specs.declared.response.Response.TheVariants.{Refused as Denied, Opened, Closed}
use Rattle.vm_wire.proofs.WireLemmas.{response_again}
use Rattle.vm_local.specs.declared.call.Call.{Call}
use Rattle.vm_local.specs.declared.call.Call.TheVariants.{OpenHandle, CloseHandle}
use Rattle.vm_local.specs.declared.entry.Entry.{Entry}
use Rattle.vm_local.specs.declared.entry.Entry.TheVariants.{Called}
use Rattle.vm_local.specs.declared.reply.Reply.TheVariants.{Refused, Done}
use Rattle.vm_local.specs.State.{LocalState, opening_queue as local_opening}
use Rattle.vm_local.specs.Calls.{opened_anew, closed}
use Rattle.vm_local.specs.Log.{IsCall, called, after}
use Rattle.vm_local.proofs.KeptLemmas.{some_same}
use Rattle.vm_commute.specs.Commute.{is_open}
use Rattle.vm_home.specs.Moves.{memory_at, ComeBack}
use Rattle.vm_home.specs.Reached.{IsReached}
use Rattle.vm_exchange.specs.declared.crossing.Crossing.{Crossing}
use Rattle.vm_exchange.specs.Exchange.{crossing, sends}
use Rattle.vm_exchange.specs.declared.way.Way.TheVariants.{AnsweredHere}
use Rattle.vm_handle.specs.Answers.{session_from}
use Rattle.vm_handle.specs.Handle.{id_of, crossing_from}
use Rattle.vm_handle.specs.declared.stage.Stage.TheVariants.{Underway}
use Rattle.vm_handle.proofs.LogLemmas.{reached as log_reached}
use Rattle.vm_session.specs.Buffers.{queued_memories}
use Rattle.vm_session.specs.Sound.{IsSound as IsSoundSession}
use Rattle.vm_queue.specs.declared.queued.Queued.{Queued}
use Rattle.vm_session.specs.declared.running.Running.{Running}
use Rattle.vm_session.specs.State.{SessionQueue, SessionState, opening_session, opening_queue, queue_of as session_queue, is_quiet}
use Rattle.vm_session.specs.declared.unsent.Unsent.{Unsent}
use Rattle.vm_stands.specs.Flight.{LeadAll}
use Rattle.vm_stands.specs.Laws.{Along}
use Rattle.vm_stands.specs.Slice.{IsSlice, LeadAhead}
use Rattle.vm_stands.specs.Stands.{Stands, IsNextIf}
use Rattle.vm_stands.proofs.AnswerLemmas.{nothing_back}
use Rattle.vm_stands.proofs.ApartLemmas.{slice_closes}
use Rattle.vm_stands.proofs.DoneLemmas.{bare_on}
use Rattle.vm_stands.proofs.StopLemmas.{Quiet, quiet_is}
use Rattle.vm_device.specs.Device.{DeviceState, session_of, without_session}
use Rattle.vm_device.specs.Perform.{Answer, opened, closed as closed_session, is_busy, must_wait}
use Rattle.vm_realm.specs.Inner.{Inner, driver_state, id_in, under_way, unsent_in}
use Rattle.vm_realm.specs.Laws.{GoesOnSoundly, CallsKeepSlice, closes_handle}
use Rattle.vm_realm.specs.Places.{told_state, stopped_by as stopped_many, queued_held, job_held}
use Rattle.vm_realm.specs.Slice.{Slice, id_told, id_ahead, session_in, earlier_of}
use Rattle.vm_realm.specs.Slice.Out.{Asked, Kept, Told}
use Rattle.vm_realm.specs.SliceSteps.{IsFirst, IsDeviceOf, IsServed, told_by}
use Rattle.vm_realm.specs.Sound.{IsPosted, NothingExecuted, IsOut, IsShut, IsSeated, spec_running, IsSoundSlice, IsWholeSlice}
use Rattle.vm_realm.specs.Users.{IsUsers, AreUsers}
use Rattle.vm_realm.proofs.KeepShutLemmas.{shut_leads}
use Rattle.vm_realm.proofs.KeepOutLemmas.{append_none, on_soundly}
use Rattle.vm_realm.proofs.KeepOwnLemmas.{told_held}
use Rattle.vm_realm.proofs.KeepServeLemmas.{state_model, asked_same, IsDone, done_sound}

-- ---- before a call is done

-- nothing was executed, and the handle's session is its own
pub record IsOutside (x : Slice) (v : Inner) : Type 0 where
  pub none : v.executed ≡ None
  pub before : v.before ≡ driver_state x
  pub own : id_ahead x.handle x.out ≡ x.handle.session
  pub reached : IsReached (driver_state x)

pub outside : (x : Slice) (v : Inner) (m : Posting) → IsSoundSlice x v → (x.out ≡ Asked m) ⊎ (x.out ≡ Kept m) → IsOutside x v
outside x v m sound (inl at) =
    let out : NothingExecuted x v × IsPosted x m = subst (λ o. IsOut o x v) at sound.out in
    record { none = out.0.executed; before = out.0.before; own = ap (id_ahead x.handle) at; reached = log_reached x.handle.log sound.handle.legal }
outside x v m sound (inr at) =
    let out : _ = subst (λ o. IsOut o x v) at sound.out in
    record { none = out.0.executed; before = out.0.before; own = ap (id_ahead x.handle) at; reached = log_reached x.handle.log sound.handle.legal }

-- what goes along with another call than a qbuf is nothing
pub none_along : (x : Slice) (m : Posting) (posted : IsPosted x m) → option_to_list posted.along ≡ [] → m.held ≡ []
none_along x m posted none = ap (λ (p : Posting). p.held) posted.says ∙ none

-- the id that the reply tells
pub told_id : (x : Slice) (line : ℕ) (call : Call) (r : Returning) → x.handle.stage ≡ Underway line call → id_ahead x.handle (Told r) ≡ session_from x.handle.session call Done (response_of OpenSession r.reply.bytes)
told_id x line call r under = ap (λ t. id_told t x.handle.session r) under

-- no message is under way of a handle that isn't open
pub shut_none : (x : Slice) (v : Inner) → IsOutside x v → IsShut x v → (earlier_of x ≡ []) × (v.ahead ≡ driver_state x)
shut_none x v is shut =
    let leads : LeadAll (id_in x) (driver_state x) (earlier_of x) v.ahead = subst (λ e. LeadAhead (id_in x) (driver_state x) e (earlier_of x) v.ahead) is.none shut.leads in
    let empty : earlier_of x ≡ [] = shut_leads (id_in x) (driver_state x) v.ahead (earlier_of x) is.reached shut.shut leads in
    (empty, subst (λ es. LeadAll (id_in x) (driver_state x) es v.ahead) empty leads)

-- ---- an open

get_behind : {A : Type 0} (xs : List A) (y d : A) → get_or (xs ++ y ∷ []) (length xs) d ≡ y
get_behind [] y d = refl
get_behind (x ∷ xs) y d = get_behind xs y d

no_memories : (m : Model) (id : ℕ) → queued_memories (opening_session m id).queues ≡ []
no_memories Capture id = refl
no_memories Convert id = refl

-- a session that was opened stands for the handle that was opened
bare_at : {A : Type 0} (types : List ℕ) (d : A) (p : ℕ) → get_or (map (λ (t : ℕ). d) types) p d ≡ d
bare_at [] d p = refl
bare_at (t ∷ ts) d zero = refl
bare_at (t ∷ ts) d (suc p) = bare_at ts d p

opening_stands : (id : ℕ) (s : LocalState) (nonblock : Bool) → Stands [] (opening_session s.model id) (opened_anew s nonblock)
opening_stands id s nonblock = record {
  opened = refl;
  model = refl;
  input = refl;
  count = length-map (types_of s.model) (λ (t : ℕ). opening_queue) ∙ sym (length-map (types_of s.model) (λ (t : ℕ). local_opening));
  made = refl;
  took = tt;
  each = λ u.
      let here : session_queue (opening_session s.model id) u ≡ opening_queue = bare_at (types_of s.model) opening_queue (place_in (types_of s.model) u) in
      bare_on [] (opening_session s.model id) (opened_anew s nonblock) u (ap (λ (q : SessionQueue). map (λ (b : Queued). b.buffer) q.queued) here) here
      (bare_at (types_of s.model) local_opening (place_in (types_of s.model) u));
}

open_done : (s : LocalState) (line : ℕ) (nonblock : Bool) → IsCall s line (OpenHandle nonblock) Done (opened_anew s nonblock)
unfolding called
open_done s line nonblock = refl

open_denied : (s : LocalState) (line : ℕ) (nonblock : Bool) → IsCall s line (OpenHandle nonblock) (Refused Enomem) s
unfolding called
open_denied s line nonblock = refl

-- What is so where an open is done.
record IsOpened (x : Slice) (v : Inner) (m : Posting) (d : DeviceState) (line : ℕ) (nonblock : Bool) : Type 0 where
  sound : IsSoundSlice x v
  is : IsOutside x v
  device : IsDeviceOf x d
  under : x.handle.stage ≡ Underway line (OpenHandle nonblock)
  crosses : IsSome (crossing_from x.handle (OpenHandle nonblock))
  first : x.handle.session ≡ None
  none : m.held ≡ []
  who : m.request.who ≡ x.who
  nothing : x.session ≡ None
  shut : IsShut x v
  empty : earlier_of x ≡ []
  ahead : v.ahead ≡ driver_state x
  unmade : v.frames ≡ []

done_open : (x : Slice) (v : Inner) (m : Posting) (d : DeviceState) (line : ℕ) (nonblock : Bool) → IsOpened x v m d line nonblock →
    IsSoundSession (opening_session d.model (length d.sessions)) →
    IsDone x (told_by m (opened true m.held d)) (Some (opening_session d.model (length d.sessions)))
    (record v { executed = Some (Called line (OpenHandle nonblock) Done); before = driver_state x; ahead = opened_anew (driver_state x) nonblock })
done_open x v m d line nonblock o whole =
    let s : LocalState = driver_state x in
    let t : LocalState = opened_anew s nonblock in
    let n : ℕ = length d.sessions in
    let call : Call = OpenHandle nonblock in
    let e : Entry = Called line call Done in
    let r : Returning = told_by m (opened true m.held d) in
    let small : n < 2 ^ 32 = omega (arith, o.device.sound.few, o.device.sound.small) in
    let reads : ReadsBack OpenSession (Opened n) (response_bytes (Opened n)) = response_again OpenSession (Opened n) small in
    let id : id_ahead x.handle (Told r) ≡ Some n = told_id x line call r o.under ∙ ap (session_from x.handle.session call Done) reads.1 in
    let model : d.model ≡ s.model = o.device.model ∙ sym (state_model x.handle.log o.sound.handle.legal) in
    let stands : Stands [] (opening_session d.model n) t = subst (λ z. Stands [] (opening_session z n) t) (sym model) (opening_stands n s nonblock) in
    record {
      told = record {
        line = line;
        call = call;
        reply = Done;
        next = t;
        underway = o.under;
        crosses = o.crosses;
        first = o.first;
        executed = refl;
        before = refl;
        is_call = open_done s line nonblock;
        who = o.who;
        bytes = ap (λ k. response_bytes (Opened (id_of k))) (sym id);
        address = lit< tt;
        small = λ k is. subst (λ z. z < 2 ^ 32) (opened_same n k (ap (λ z. Opened (id_of z)) (sym id) ∙ is)) small;
        memories = subst (λ hs. ComeBack s t call hs) (sym o.none) (nothing_back s t call refl refl);
        quiet = λ halts done. absurd (false≢true halts);
      };
      seated = subst (λ fs. IsSlice fs (opening_session d.model n) x.job (earlier_of x) (Some e) s t) (sym o.unmade) (record {
        reached = o.is.reached;
        leads = (t, open_done s line nonblock, subst (λ es. LeadAll n t es t) (sym (ap (λ (es : List Unsent). es ++ []) o.empty)) refl);
        stands = stands;
        sound = whole;
        owed = refl;
        next = subst (IsNextIf t) (sym o.shut.none_runs) tt;
      });
      named = id;
      runs = ap (λ j. option_map (λ (k : JobParts). k.spec) j) (sym o.shut.none_runs);
      under = ap (λ k. earlier_of x ++ unsent_in k) (sym o.nothing);
      back = subst (λ hs. AreUsers s (take 0 hs)) (sym o.none) (All-nil _);
      messages = subst (AreUsers t) (sym (λ j. filter_map (λ (z : Unsent). z.held) (o.empty j ++ unsent_in (o.nothing j)))) (All-nil _);
      queued = subst (AreUsers t) (sym (no_memories d.model n)) (All-nil _);
      taken = subst (λ j. AreUsers t (job_held j)) (sym o.shut.none_runs) (All-nil _);
    }
  where
    opened_same : (n k : ℕ) → Opened n ≡ Opened k → n ≡ k
    opened_same n k is = cc

done_denied : (x : Slice) (v : Inner) (m : Posting) (d : DeviceState) (line : ℕ) (nonblock : Bool) → IsOpened x v m d line nonblock →
    IsDone x (told_by m (opened false m.held d)) None
    (record v { executed = Some (Called line (OpenHandle nonblock) (Refused Enomem)); before = driver_state x })
done_denied x v m d line nonblock o =
    let s : LocalState = driver_state x in
    let call : Call = OpenHandle nonblock in
    let e : Entry = Called line call (Refused Enomem) in
    let r : Returning = told_by m (opened false m.held d) in
    let reads : ReadsBack OpenSession (Denied 12) (response_bytes (Denied 12)) = response_again OpenSession (Denied 12) (lit< tt, lit< tt) in
    let id : id_ahead x.handle (Told r) ≡ None = told_id x line call r o.under ∙ (ap (session_from x.handle.session call Done) reads.1 ∙ o.first) in
    record {
      told = record {
        line = line;
        call = call;
        reply = Refused Enomem;
        next = s;
        underway = o.under;
        crosses = o.crosses;
        first = o.first;
        executed = refl;
        before = refl;
        is_call = open_denied s line nonblock;
        who = o.who;
        bytes = refl;
        address = lit< tt;
        small = λ k is. absurd (apart k is);
        memories = o.none;
        quiet = λ halts done. absurd (false≢true halts);
      };
      seated = record {
        reached = o.is.reached;
        leads = (s, open_denied s line nonblock, subst (λ es. LeadAll (id_of (id_ahead x.handle (Told r))) s es v.ahead) (sym o.empty) o.ahead);
        shut = o.shut.shut;
        owed = o.shut.owed;
        none_runs = o.shut.none_runs;
        unmade = λ unnamed. o.unmade;
      };
      named = tt;
      runs = ap (λ j. option_map (λ (k : JobParts). k.spec) j) (sym o.shut.none_runs);
      under = ap (λ k. earlier_of x ++ unsent_in k) (sym o.nothing);
      back = subst (λ hs. AreUsers s (take 0 hs)) (sym o.none) (All-nil _);
      messages = subst (AreUsers v.ahead) (sym (λ j. filter_map (λ (z : Unsent). z.held) (o.empty j ++ unsent_in (o.nothing j)))) (All-nil _);
      queued = All-nil _;
      taken = subst (λ j. AreUsers v.ahead (job_held j)) (sym o.shut.none_runs) (All-nil _);
    }
  where
    apart : (k : ℕ) → Denied 12 ≡ Opened k → ⊥
    apart k is = cc

is_opened : (x : Slice) (v : Inner) (m : Posting) (d : DeviceState) (nonblock : Bool) (posted : IsPosted x m) → posted.call ≡ OpenHandle nonblock → IsSoundSlice x v → (x.out ≡ Asked m) ⊎ (x.out ≡ Kept m) → IsDeviceOf x d →
    IsOpened x v m d posted.line nonblock
is_opened x v m d nonblock posted call sound at device =
    let is : IsOutside x v = outside x v m sound at in
    let first : x.handle.session ≡ None = subst (IsFirst x.handle) call posted.first in
    let nothing : x.session ≡ None = sym device.session ∙ ap (session_in d) first in
    let shut : IsShut x v = subst (λ o. IsSeated o x v) nothing sound.seated in
    let none : (earlier_of x ≡ []) × (v.ahead ≡ driver_state x) = shut_none x v is shut in
    record {
      sound = sound;
      is = is;
      device = device;
      under = posted.underway ∙ ap (Underway posted.line) call;
      crosses = subst (λ k. IsSome (crossing_from x.handle k)) call (subst IsSome (sym posted.crosses) refl);
      first = first;
      none = none_along x m posted (subst (λ k. Along (driver_state x) k (option_to_list posted.along)) call posted.memory);
      who = ap (λ (p : Posting). p.request.who) posted.says;
      nothing = nothing;
      shut = shut;
      empty = none.0;
      ahead = none.1;
      unmade = shut.unmade (is.own ∙ first);
    }

opens_sound : (x x' : Slice) (v : Inner) (m : Posting) (d : DeviceState) (line : ℕ) (nonblock : Bool) (memory : Bool) → IsOpened x v m d line nonblock →
    x' ≡ record x { out = Told (told_by m (opened memory m.held d)); session = session_in (opened memory m.held d).device (id_ahead x.handle (Told (told_by m (opened memory m.held d)))) } → IsWholeSlice x' →
    GoesOnSoundly x' v
opens_sound x x' v m d line nonblock true o after whole =
    let n : ℕ = length d.sessions in
    let call : Call = OpenHandle nonblock in
    let r : Returning = told_by m (opened true m.held d) in
    let small : n < 2 ^ 32 = omega (arith, o.device.sound.few, o.device.sound.small) in
    let reads : ReadsBack OpenSession (Opened n) (response_bytes (Opened n)) = response_again OpenSession (Opened n) small in
    let id : id_ahead x.handle (Told r) ≡ Some n = told_id x line call r o.under ∙ ap (session_from x.handle.session call Done) reads.1 in
    let new : SessionState = opening_session d.model n in
    let live : session_in (opened true m.held d).device (id_ahead x.handle (Told r)) ≡ Some new =
    ap (session_in (opened true m.held d).device) id ∙ get_behind d.sessions (Some new) None in
    let same : x' ≡ record x { out = Told r; session = Some new } = after ∙ ap (λ k. record x { out = Told r; session = k }) live in
    let w : Inner = record v { executed = Some (Called line call Done); before = driver_state x; ahead = opened_anew (driver_state x) nonblock } in
    subst (λ z. GoesOnSoundly z v) (sym same) (on_soundly (record x { out = Told r; session = Some new }) v w refl
    (done_sound x v w r (Some new) o.sound (done_open x v m d line nonblock o (subst IsWholeSlice same whole).session)))
opens_sound x x' v m d line nonblock false o after whole =
    let call : Call = OpenHandle nonblock in
    let r : Returning = told_by m (opened false m.held d) in
    let reads : ReadsBack OpenSession (Denied 12) (response_bytes (Denied 12)) = response_again OpenSession (Denied 12) (lit< tt, lit< tt) in
    let id : id_ahead x.handle (Told r) ≡ None = told_id x line call r o.under ∙ (ap (session_from x.handle.session call Done) reads.1 ∙ o.first) in
    let same : x' ≡ record x { out = Told r; session = None } = after ∙ ap (λ k. record x { out = Told r; session = session_in d k }) id in
    let w : Inner = record v { executed = Some (Called line call (Refused Enomem)); before = driver_state x } in
    subst (λ z. GoesOnSoundly z v) (sym same) (on_soundly (record x { out = Told r; session = None }) v w refl (done_sound x v w r None o.sound (done_denied x v m d line nonblock o)))

open_by : (call : Call) (x x' : Slice) (v : Inner) (m : Posting) (c : Command) (d : DeviceState) (posted : IsPosted x m) → posted.call ≡ call → is_open call ≡ true → IsSoundSlice x v →
    (x.out ≡ Asked m) ⊎ (x.out ≡ Kept m) → m.request.asks ≡ Judged (Ok c) → IsDeviceOf x d → IsServed m c d x x' → IsWholeSlice x' → GoesOnSoundly x' v
open_by (OpenHandle nonblock) x x' v m c d posted call opening sound at asks device served whole =
    let live : c ≡ OpenSession = sym (asked_same x m c posted asks)
    ∙ ap (λ (k : Crossing). k.command) (sym (some_same (record { command = OpenSession; user = None }) posted.crossing posted.crossing (subst (λ k. crossing_from x.handle k ≡ Some posted.crossing) call posted.crosses))) in
    let does : IsServed m OpenSession d x x' = subst (λ k. IsServed m k d x x') live served in
    let o : IsOpened x v m d posted.line nonblock = is_opened x v m d nonblock posted call sound at device in
    let same : does.0 ≡ opened does.1.0 m.held d = does.1.1 in
    opens_sound x x' v m d posted.line nonblock does.1.0 o
    (does.2 ∙ ap (λ (a : Answer). record x { out = Told (told_by m a); session = session_in a.device (id_ahead x.handle (Told (told_by m a))) }) same) whole
open_by call x x' v m c d posted is opening sound at asks device served whole = absurd (false≢true opening)

pub open_keeps : CallsKeepSlice is_open
open_keeps x x' v m c d posted opening sound at asks device quiet served whole = open_by posted.call x x' v m c d posted refl opening sound at asks device served whole

-- ---- a close

take_all : (P : Held → Type 0) (n : ℕ) (hs : List Held) → All P hs → All P (take n hs)
take_all P zero hs all = All-nil P
take_all P (suc n) [] all = All-nil P
take_all P (suc n) (h ∷ hs) all = All-cons P h (take n hs) (All-head P h hs all) (take_all P n hs (All-tail P h hs all))

-- the close of a handle that is open is a command to its session
close_command : (b : Bool) (id : ℕ) (c : Crossing) → crossing (if b then sends (CloseSession id) else AnsweredHere) ≡ Some c → (b ≡ true) × (c.command ≡ CloseSession id)
close_command true id c is = (refl, sym (ap (λ (k : Crossing). k.command) (some_same (record { command = CloseSession id; user = None }) c c is)))
close_command false id c is = absurd (none-some c is)

not_busy : (s : SessionState) → not (is_quiet s) ≡ false → is_quiet s ≡ true
not_busy s is = not-false (is_quiet s) is

-- What is so where a close is done.
record IsClosed (x : Slice) (v : Inner) (m : Posting) (d : DeviceState) (line : ℕ) (s : SessionState) : Type 0 where
  sound : IsSoundSlice x v
  is : IsOutside x v
  under : x.handle.stage ≡ Underway line CloseHandle
  crosses : IsSome (crossing_from x.handle CloseHandle)
  none : m.held ≡ []
  who : m.request.who ≡ x.who
  session : x.session ≡ Some s
  id : x.handle.session ≡ Some s.id
  quiet : is_quiet s ≡ true
  slice : IsSlice v.frames s x.job (earlier_of x) None (driver_state x) v.ahead

pub none_runs : (x : Slice) (v : Inner) (s : SessionState) → IsSoundSlice x v → x.session ≡ Some s → s.running ≡ None → x.job ≡ None
none_runs x v s sound is idle =
    no_job x.job (sym sound.runs ∙ (ap spec_running is ∙ ap (λ o. option_map (λ (r : Running). r.spec) o) idle))
  where
    no_job : (o : Option JobParts) → option_map (λ (j : JobParts). j.spec) o ≡ None → o ≡ None
    no_job None is = refl
    no_job (Some j) is = absurd (none-some j.spec (sym is))

done_close : (x : Slice) (v : Inner) (m : Posting) (d : DeviceState) (line : ℕ) (s : SessionState) → IsClosed x v m d line s →
    IsDone x (told_by m (closed_session d s.id m.held (Some s))) None
    (record v { executed = Some (Called line CloseHandle Done); before = v.ahead; ahead = closed v.ahead })
done_close x v m d line s c =
    let r : LocalState = driver_state x in
    let t : LocalState = v.ahead in
    let e : Entry = Called line CloseHandle Done in
    let q : Quiet s = quiet_is s c.quiet in
    let idle : x.job ≡ None = none_runs x v s c.sound c.session q.idle in
    let closes : IsCall t line CloseHandle Done (closed t) × ComeBack t (closed t) CloseHandle (queued_memories s.queues)
    × LeadAhead s.id r (Some e) (earlier_of x ++ s.unsent) (closed t) = slice_closes v.frames s x.job (earlier_of x) line r t c.slice c.quiet in
    let reply : Returning = told_by m (closed_session d s.id m.held (Some s)) in
    let id : id_ahead x.handle (Told reply) ≡ Some s.id = told_id x line CloseHandle reply c.under ∙ c.id in
    let held : m.held ++ queued_memories s.queues ≡ queued_memories s.queues = ap (λ (hs : List Held). hs ++ queued_memories s.queues) c.none in
    let bare : earlier_of x ++ [] ≡ earlier_of x ++ s.unsent = ap (λ (us : List Unsent). earlier_of x ++ us) (sym q.sent) in
    let under : earlier_of x ++ s.unsent ≡ under_way x = ap (λ o. earlier_of x ++ unsent_in o) (sym c.session) in
    record {
      told = record {
        line = line;
        call = CloseHandle;
        reply = Done;
        next = closed t;
        underway = c.under;
        crosses = c.crosses;
        first = tt;
        executed = refl;
        before = subst (λ n. LeadAll n r (earlier_of x ++ []) t) (ap id_of (sym id)) (subst (λ es. LeadAll s.id r es t) (sym bare) c.slice.leads);
        is_call = closes.0;
        who = c.who;
        bytes = refl;
        address = lit< tt;
        small = λ k is. absurd (apart k is);
        memories = subst (ComeBack t (closed t) CloseHandle) (sym held) closes.1;
        quiet = λ halts done. (refl, idle);
      };
      seated = record {
        reached = c.is.reached;
        leads = subst (λ n. LeadAhead n r (Some e) (earlier_of x) (closed t)) (ap id_of (sym id))
            (subst (λ es. LeadAhead s.id r (Some e) es (closed t)) (sym bare ∙ append_none (earlier_of x)) closes.2);
        shut = refl;
        owed = refl;
        none_runs = idle;
        unmade = λ unnamed. absurd (none-some s.id (sym unnamed ∙ id));
      };
      named = tt;
      runs = ap (λ j. option_map (λ (k : JobParts). k.spec) j) (sym idle);
      under = bare ∙ under;
      back = subst (λ hs. AreUsers t (take (stopped_many t (Some e)) hs)) (sym held)
          (take_all (λ h. IsUsers t (memory_at t h.queue h.index) h.mem) (stopped_many t (Some e)) (queued_memories s.queues) (subst (λ o. AreUsers t (queued_held o)) c.session c.sound.users.queued));
      messages = subst (λ z. AreUsers z (told_held x)) (ap (λ k. told_state (record v { executed = k })) c.is.none) c.sound.users.messages;
      queued = All-nil _;
      taken = subst (λ j. AreUsers (closed t) (job_held j)) (sym idle) (All-nil _);
    }
  where
    apart : (k : ℕ) → Closed ≡ Opened k → ⊥
    apart k is = cc

closes_sound : (x x' : Slice) (v : Inner) (m : Posting) (d : DeviceState) (line : ℕ) (s : SessionState) → IsClosed x v m d line s → s.id < length d.sessions →
    x' ≡ record x {
      out = Told (told_by m (closed_session d s.id m.held (Some s)));
      session = session_in (closed_session d s.id m.held (Some s)).device (id_ahead x.handle (Told (told_by m (closed_session d s.id m.held (Some s)))));
    } → GoesOnSoundly x' v
closes_sound x x' v m d line s c within after =
    let reply : Returning = told_by m (closed_session d s.id m.held (Some s)) in
    let id : id_ahead x.handle (Told reply) ≡ Some s.id = told_id x line CloseHandle reply c.under ∙ c.id in
    let gone : session_in (without_session d s.id) (id_ahead x.handle (Told reply)) ≡ None = ap (session_in (without_session d s.id)) id ∙ get_or-set_same d.sessions s.id None None within in
    let same : x' ≡ record x { out = Told reply; session = None } = after ∙ ap (λ k. record x { out = Told reply; session = k }) gone in
    let w : Inner = record v { executed = Some (Called line CloseHandle Done); before = v.ahead; ahead = closed v.ahead } in
    subst (λ z. GoesOnSoundly z v) (sym same) (on_soundly (record x { out = Told reply; session = None }) v w refl (done_sound x v w reply None c.sound (done_close x v m d line s c)))

pub some_within : {A : Type 0} (xs : List (Option A)) (m : ℕ) (a : A) → get_or xs m None ≡ Some a → m < length xs
some_within [] m a is = absurd (none-some a is)
some_within (x ∷ xs) zero a is = omega arith
some_within (x ∷ xs) (suc m) a is = omega (arith, some_within xs m a is)

-- the handle's session, where it is open
pub live_session : (x : Slice) (v : Inner) (d : DeviceState) → IsSoundSlice x v → IsOutside x v → (driver_state x).opened ≡ true → (s : SessionState) × (x.session ≡ Some s) × (x.handle.session ≡ Some s.id)
live_session x v d sound is open_now = by_session x.session refl sound.seated sound.named
  where
    by_session : (o : Option SessionState) → x.session ≡ o → IsSeated o x v → IfSome o (λ s. id_ahead x.handle x.out ≡ Some s.id) → (s : SessionState) × (x.session ≡ Some s) × (x.handle.session ≡ Some s.id)
    by_session None at shut named = absurd (true≢false (sym open_now ∙ (ap (λ (z : LocalState). z.opened) (sym (shut_none x v is shut).1) ∙ shut.shut)))
    by_session (Some s) at slice named = (s, at, sym is.own ∙ named)

close_by : (call : Call) (x x' : Slice) (v : Inner) (m : Posting) (c : Command) (d : DeviceState) (posted : IsPosted x m) → posted.call ≡ call → closes_handle call ≡ true → IsSoundSlice x v →
    (x.out ≡ Asked m) ⊎ (x.out ≡ Kept m) → m.request.asks ≡ Judged (Ok c) → IsDeviceOf x d → must_wait d c ≡ false → IsServed m c d x x' → GoesOnSoundly x' v
close_by CloseHandle x x' v m c d posted call closing sound at asks device free served =
    let is : IsOutside x v = outside x v m sound at in
    let command : ((driver_state x).opened ≡ true) × (posted.crossing.command ≡ CloseSession (id_of x.handle.session)) =
    close_command (driver_state x).opened (id_of x.handle.session) posted.crossing (subst (λ k. crossing_from x.handle k ≡ Some posted.crossing) call posted.crosses) in
    let live : (s : SessionState) × (x.session ≡ Some s) × (x.handle.session ≡ Some s.id) = live_session x v d sound is command.0 in
    let s : SessionState = live.0 in
    let there : session_of d s.id ≡ Some s = ap (session_in d) (sym live.2) ∙ (device.session ∙ live.1) in
    let named : c ≡ CloseSession s.id = sym (asked_same x m c posted asks) ∙ (command.1 ∙ ap (λ o. CloseSession (id_of o)) live.2) in
    let does : IsServed m (CloseSession s.id) d x x' = subst (λ k. IsServed m k d x x') named served in
    let quiet : is_quiet s ≡ true = not_busy s (sym (ap is_busy there) ∙ subst (λ k. must_wait d k ≡ false) named free) in
    let answer : does.0 ≡ closed_session d s.id m.held (Some s) = does.1 ∙ ap (closed_session d s.id m.held) there in
    let slice : IsSlice v.frames s x.job (earlier_of x) v.executed (driver_state x) v.ahead = subst (λ o. IsSeated o x v) live.1 sound.seated in
    closes_sound x x' v m d posted.line s (record {
      sound = sound;
      is = is;
      under = posted.underway ∙ ap (Underway posted.line) call;
      crosses = subst (λ k. IsSome (crossing_from x.handle k)) call (subst IsSome (sym posted.crosses) refl);
      none = none_along x m posted (subst (λ k. Along (driver_state x) k (option_to_list posted.along)) call posted.memory);
      who = ap (λ (p : Posting). p.request.who) posted.says;
      session = live.1;
      id = live.2;
      quiet = quiet;
      slice = subst (λ e. IsSlice v.frames s x.job (earlier_of x) e (driver_state x) v.ahead) is.none slice;
    }) (some_within d.sessions s.id s there)
    (does.2 ∙ ap (λ (a : Answer). record x { out = Told (told_by m a); session = session_in a.device (id_ahead x.handle (Told (told_by m a))) }) answer)
close_by call x x' v m c d posted is closing sound at asks device free served = absurd (false≢true closing)

pub close_keeps : CallsKeepSlice closes_handle
close_keeps x x' v m c d posted closing sound at asks device free served whole = close_by posted.call x x' v m c d posted refl closing sound at asks device free served
