-- A reply that is collected keeps a slice sound.
use Rattle.std.proofs.Common.{◌≡◌, ◌⊎◌, inl, inr, ℕ, zero, suc, ◌<◌, ◌≤◌, ◌^◌, true, false, Bool, not, ◌||◌, List, [], ◌∷◌, ◌++◌, All, length, map, get_or, set, Option, Some, None, IsSome, refl, sym, ap, ◌∙◌, subst, arith, lit<, append_assoc, if◌then◌else◌, true≢false}
use Rattle.std.specs.List.{filter_map, flat_map}
use Rattle.std.specs.Prelude.{IfSome, Contains, is_some, take, drop}
use Rattle.std.proofs.lemmas.Bool.{false≢true}
use Rattle.std.proofs.lemmas.Option.{none-some}
use Rattle.std.proofs.lemmas.List.Elements.{All-nil, All-head, All-tail}
use Rattle.v4l_const.specs.declared.errno.Errno.{Errno}
use Rattle.vm_frame.specs.declared.mem.Held.{Held}
use Rattle.vm_frame.specs.declared.mem.Mem.{Mem}
use Rattle.vm_wire.specs.Message.{Posting, Returning}
use Rattle.vm_wire.specs.Wire.{response_bytes, response_of, Answers, ReadsBack}
use Rattle.vm_wire.specs.declared.command.Command.{Command}
use Rattle.vm_wire.specs.declared.command.Command.TheVariants.{OpenSession}
use Rattle.vm_wire.specs.declared.delivery.Delivery.{Delivery}
use Rattle.vm_wire.specs.declared.response.Response.{Response}
use Rattle.vm_wire.specs.declared.response.Response.TheVariants.{Opened}
use Rattle.vm_wire.proofs.WireLemmas.{response_again}
use Rattle.vm_local.specs.declared.call.Call.{Call}
use Rattle.vm_local.specs.declared.call.Call.TheVariants.{OpenHandle, CloseHandle, ReqBufs, StreamOff}
use Rattle.vm_local.specs.declared.entry.Entry.{Entry}
use Rattle.vm_local.specs.declared.entry.Entry.TheVariants.{Called}
use Rattle.vm_local.specs.declared.reply.Reply.{Reply}
use Rattle.vm_local.specs.declared.reply.Reply.TheVariants.{Refused, Done}
use Rattle.vm_local.specs.State.{LocalState}
use Rattle.vm_local.specs.Same.{address_in}
use Rattle.vm_local.specs.Log.{IsCall, IsLegal, called, replay_from}
use Rattle.vm_local.proofs.KeptLemmas.{some_same, refused_call}
use Rattle.vm_commute.specs.Commute.{may_cross}
use Rattle.vm_commute.proofs.ReachedLemmas.{reached_after}
use Rattle.vm_home.specs.Home.{home_of}
use Rattle.vm_home.specs.Moves.{memory_at, is_refusal, is_stopping, stops, queued_on, ComeBack, ComeWith, put_back, stopped_count, home_with}
use Rattle.vm_home.specs.Reached.{IsReached}
use Rattle.vm_home.proofs.ComeLemmas.{none_come}
use Rattle.vm_home.proofs.StopLemmas.{memories_long, put_long}
use Rattle.vm_log.specs.Answers.{replied}
use Rattle.vm_log.specs.LegalLog.{LogState, IsSound as IsSoundLog, state_of}
use Rattle.vm_exchange.specs.declared.crossing.Crossing.{Crossing}
use Rattle.vm_exchange.specs.Exchange.{command_in, response_to, IsAnswer}
use Rattle.vm_exchange.specs.Messages.{flight_of}
use Rattle.vm_exchange.proofs.RangeLemmas.{after_in_range}
use Rattle.vm_exchange.proofs.ReplyLemmas.{answer_fits}
use Rattle.vm_handle.specs.Answers.{session_from, with_reply, awoken, delivered}
use Rattle.vm_handle.specs.Handle.{HandleState, Keeps, id_of, crossing_from, opens_session}
use Rattle.vm_handle.specs.declared.stage.Stage.TheVariants.{AtRest, Underway}
use Rattle.vm_handle.proofs.KeptLemmas.{sound_replied}
use Rattle.vm_handle.proofs.LogLemmas.{reached as log_reached, legal_more, opened_more}
use Rattle.vm_handle.proofs.ReplyLemmas.{is_answer, may_of}
use Rattle.vm_guest.specs.Lines.{MayAnswer}
use Rattle.vm_session.specs.State.{SessionState}
use Rattle.vm_session.specs.declared.unsent.Unsent.{Unsent}
use Rattle.vm_stands.specs.Ahead.{StopsNone}
use Rattle.vm_stands.specs.Flight.{LeadAll}
use Rattle.vm_stands.specs.Slice.{LeadWith, LeadAhead}
use Rattle.vm_stands.proofs.AheadLemmas.{in_turn, one_replay, last_logged, collects_refused}
use Rattle.vm_stands.proofs.FlightLemmas.{all_replay}
use Rattle.vm_realm.specs.Inner.{Inner, driver_state, id_in, under_way, unsent_in}
use Rattle.vm_realm.specs.Laws.{GoesOnSoundly}
use Rattle.vm_realm.specs.Places.{stopped_by as stopped_many}
use Rattle.vm_realm.specs.Slice.{Slice, Out, id_told, id_ahead, unsent_by, earlier_of}
use Rattle.vm_realm.specs.Slice.Out.{Nowhere, Asked, Told}
use Rattle.vm_realm.specs.SliceSteps.{holds_back, all_delivered, Collects}
use Rattle.vm_realm.specs.Sound.{IsBefore, IsTold, IsOut, IsSeated, HoldsFew, stopped_by, stopped_last, queue_told, IsStill, IsSoundSlice}
use Rattle.vm_realm.specs.Users.{CanHold, IsUsers, AreUsers}
use Rattle.vm_realm.proofs.CanHoldLemmas.{made_hold}
use Rattle.vm_realm.proofs.KeepOutLemmas.{append_none, on_soundly}
use Rattle.vm_realm.proofs.KeepOwnLemmas.{told_held, last_behind, still_free}
use Rattle.vm_realm.proofs.KeepTakeLemmas.{told_handle, state_behind, kept_from, set_from, deliver_sound}
use Rattle.vm_realm.proofs.KeepLendLemmas.{rests_free}
use Rattle.vm_realm.proofs.KeepFrameLemmas.{lead_same, refusal_is, take_none, told_first, told_none}
use Rattle.vm_realm.proofs.KeepReplyLemmas.{one_answer, line_free, users_like, users_none, like_call}

-- ---- events that were held back

delivered_rests : (h : HandleState) (d : Delivery) → h.stage ≡ AtRest → (delivered h d.msg d.held).stage ≡ AtRest
delivered_rests h d rests = ap (λ t. (awoken t (told_handle h d.msg d.held)).stage) rests ∙ rests

goes_then : (x' : Slice) (v w : Inner) (more : List ℕ) → w.frames ≡ v.frames ++ more → GoesOnSoundly x' w → GoesOnSoundly x' v
goes_then x' v w more first (last, rest, then_is, sound) =
    (last, more ++ rest, then_is ∙ (ap (λ fs. fs ++ rest) first ∙ append_assoc v.frames more rest), sound)

deliver_all : (hs es : List Delivery) (x : Slice) (v : Inner) → IsSoundSlice x v → x.handle.stage ≡ AtRest → x.events ≡ hs ++ es →
    GoesOnSoundly (record x { handle = all_delivered x.handle hs; events = es }) v
deliver_all [] es x v sound rests events = on_soundly (record x { events = es }) v v refl (subst (λ ds. IsSoundSlice (record x { events = ds }) v) events sound)
deliver_all (d ∷ hs) es x v sound rests events =
    let y : Slice = record x { handle = delivered x.handle d.msg d.held; events = hs ++ es } in
    let one : GoesOnSoundly y v = deliver_sound x v d (hs ++ es) sound (rests_free x.handle.stage rests) events in
    goes_then (record x { handle = all_delivered (delivered x.handle d.msg d.held) hs; events = es }) v one.0 one.1 one.2
    (deliver_all hs es y one.0 one.3 (delivered_rests x.handle d rests) refl)

-- ---- the call is logged

-- from the driver's state the call leads on to where the messages that are under way lead ahead
abbrev IsLedOn : ℕ → LocalState → ℕ → Call → Reply → List Unsent → LocalState → Type 0
IsLedOn id r line call reply es s = (u : LocalState) × IsCall r line call reply u × LeadAll id u es s

refused_on : (id : ℕ) (r s : LocalState) (line : ℕ) (call : Call) (errno : Errno) (es : List Unsent) → IsReached r → is_stopping call ≡ true →
    LeadAhead id r (Some (Called line call (Refused errno))) es s → IsLedOn id r line call (Refused errno) es s
refused_on id r s line call errno es reached halts leads =
    let e : Entry = Called line call (Refused errno) in
    let msgs : _ = map (λ (x : Unsent). x.msg) es in
    let by : LeadWith true id r e es s = subst (λ b. LeadWith b id r e es s) halts leads in
    let ahead : replay_from r (flight_of r.model msgs ++ e ∷ []) ≡ Some s = in_turn r by.0 (flight_of r.model msgs) (e ∷ []) (all_replay id r by.0 es by.1) ∙ one_replay by.0 s e by.2 in
    let calls : IsCall r line call (Refused errno) r = (collects_refused r s line call errno msgs reached halts (ap (λ xs. replay_from r xs) (last_logged r.model e msgs halts) ∙ ahead)).0 in
    (r, calls, subst (λ z. LeadAll id r es z) (sym (refused_call by.0 line call errno s by.2)) by.1)

led_on : (id : ℕ) (r s : LocalState) (line : ℕ) (call : Call) (reply : Reply) (es : List Unsent) (halts refused : Bool) → is_stopping call ≡ halts → is_refusal reply ≡ refused → IsReached r →
    (is_stopping call ≡ true → is_refusal reply ≡ false → es ≡ []) → LeadAhead id r (Some (Called line call reply)) es s → IsLedOn id r line call reply es s
led_on id r s line call reply es false refused halts is reached quiet leads = subst (λ b. LeadWith b id r (Called line call reply) es s) halts leads
led_on id r s line call reply es true true halts is reached quiet leads =
    let by : (errno : Errno) × (reply ≡ Refused errno) = refusal_is reply is in
    subst (λ q. IsLedOn id r line call q es s) (sym by.1) (refused_on id r s line call by.0 es reached halts (subst (λ q. LeadAhead id r (Some (Called line call q)) es s) by.1 leads))
led_on id r s line call reply es true false halts is reached quiet leads =
    let none : es ≡ [] = quiet halts is in
    let by : LeadWith true id r (Called line call reply) es s = subst (λ b. LeadWith b id r (Called line call reply) es s) halts leads in
    let same : by.0 ≡ r = subst (λ xs. LeadAll id r xs by.0) none by.1 in
    (s, subst (λ z. called z line call reply ≡ Some s) same by.2, subst (λ xs. LeadAll id s xs s) (sym none) refl)

-- ---- what was told

-- What is so where the call of the reply is collected.
pub record IsRead (x : Slice) (v : Inner) (line : ℕ) (call : Call) (r : Returning) (reply : Reply) (response : Response) : Type 0 where
  pub sound : IsSoundSlice x v
  pub out : x.out ≡ Told r
  pub underway : x.handle.stage ≡ Underway line call
  pub executed : v.executed ≡ Some (Called line call reply)
  pub before : IsBefore (is_stopping call) x v.before
  pub crosses : may_cross call ≡ true
  pub told : response ≡ response_to (id_in x) (driver_state x) call reply
  pub address : address_in reply < 2 ^ 64
  pub memories : (next : LocalState) × ComeWith v.before next call reply r.held
  pub calls : IsCall v.before line call reply memories.0
  pub ids : session_from x.handle.session call reply response ≡ id_ahead x.handle x.out
  pub held_none : is_stopping call ≡ true → x.held ≡ []
  pub events_none : is_stopping call ≡ true → x.events ≡ []
  pub quiet : is_stopping call ≡ true → is_refusal reply ≡ false → unsent_in x.session ≡ []
  pub log_sound : IsSoundLog (replied x.handle.log line call reply r.held)

-- behind a stopping call that was done nothing is under way
none_under : (x : Slice) (v : Inner) (line : ℕ) (call : Call) (r : Returning) (reply : Reply) (response : Response) → IsRead x v line call r reply response → is_stopping call ≡ true → is_refusal reply ≡ false →
    (earlier_of x ≡ []) × (unsent_in x.session ≡ [])
none_under x v line call r reply response is halts done = ((λ j. map unsent_by (is.held_none halts j ++ is.events_none halts j)), is.quiet halts done)

abbrev logged_log : Slice → ℕ → Call → Returning → Reply → LogState
logged_log x line call r reply = replied x.handle.log line call reply r.held

abbrev logged_handle : Slice → ℕ → Call → Returning → Reply → Response → HandleState
logged_handle x line call r reply response = with_reply x.handle line call reply response r.held

abbrev logged : Slice → ℕ → Call → Returning → Reply → Response → Slice
logged x line call r reply response = record x { handle = logged_handle x line call r reply response; out = Nowhere; held = []; events = x.held ++ x.events }

abbrev behind : Slice → Inner → ℕ → Call → Returning → Reply → Inner
behind x v line call r reply = record v { executed = None; before = state_of (logged_log x line call r reply) }

-- it is a call of the driver's state
led_told : (o : Option SessionState) (x : Slice) (v : Inner) (line : ℕ) (call : Call) (reply : Reply) → x.session ≡ o → IsSoundSlice x v → v.executed ≡ Some (Called line call reply) →
    (is_stopping call ≡ true → is_refusal reply ≡ false → (earlier_of x ≡ []) × (unsent_in x.session ≡ [])) → IsSeated o x v →
    (id : ℕ) × IsLedOn id (driver_state x) line call reply (earlier_of x ++ unsent_in o) v.ahead
led_told None x v line call reply at sound executed quiet shut = (
  id_in x,
  led_on (id_in x) (driver_state x) v.ahead line call reply (earlier_of x ++ []) (is_stopping call) (is_refusal reply) refl refl (log_reached x.handle.log sound.handle.legal)
      (λ halts done. append_none (earlier_of x) ∙ (quiet halts done).0)
      (subst (λ es. LeadAhead (id_in x) (driver_state x) (Some (Called line call reply)) es v.ahead) (sym (append_none (earlier_of x)))
      (subst (λ e. LeadAhead (id_in x) (driver_state x) e (earlier_of x) v.ahead) executed shut.leads)),
)
led_told (Some s) x v line call reply at sound executed quiet slice = (
  s.id,
  led_on s.id (driver_state x) v.ahead line call reply (earlier_of x ++ s.unsent) (is_stopping call) (is_refusal reply) refl refl (log_reached x.handle.log sound.handle.legal)
      (λ halts done. (λ j. (quiet halts done).0 j ++ (ap unsent_in (sym at) ∙ (quiet halts done).1) j))
      (subst (λ e. LeadAhead s.id (driver_state x) e (earlier_of x ++ s.unsent) v.ahead) executed slice.leads),
)

led_for : (o : Option SessionState) (x : Slice) (v : Inner) (line : ℕ) (call : Call) (r : Returning) (reply : Reply) (response : Response) → x.session ≡ o → IsRead x v line call r reply response → IsSeated o x v →
    (id : ℕ) × IsLedOn id (driver_state x) line call reply (earlier_of x ++ unsent_in o) v.ahead
led_for o x v line call r reply response at is seated =
    led_told o x v line call reply at is.sound is.executed (λ halts done. none_under x v line call r reply response is halts done) seated

state_led : (x : Slice) (line : ℕ) (call : Call) (r : Returning) (reply : Reply) (u : LocalState) → IsLegal x.handle.log.model x.handle.log.entries → IsCall (driver_state x) line call reply u →
    state_of (logged_log x line call r reply) ≡ u
state_led x line call r reply u legal calls =
    state_behind x.handle.log.model x.handle.log.entries (Called line call reply ∷ []) u legal (one_replay (driver_state x) u (Called line call reply) calls)

is_call : (x : Slice) (v : Inner) (line : ℕ) (call : Call) (r : Returning) (reply : Reply) (response : Response) → IsRead x v line call r reply response →
    IsCall (driver_state x) line call reply (state_of (logged_log x line call r reply))
is_call x v line call r reply response is =
    let by : (id : ℕ) × IsLedOn id (driver_state x) line call reply (earlier_of x ++ unsent_in x.session) v.ahead = led_for x.session x v line call r reply response refl is is.sound.seated in
    subst (IsCall (driver_state x) line call reply) (sym (state_led x line call r reply by.1.0 is.sound.handle.legal by.1.1)) by.1.1

seated_on : (o : Option SessionState) (x : Slice) (v : Inner) (line : ℕ) (call : Call) (r : Returning) (reply : Reply) (response : Response) → x.session ≡ o → IsRead x v line call r reply response → IsSeated o x v →
    IsSeated o (logged x line call r reply response) (behind x v line call r reply)
unfolding led_for led_told
seated_on None x v line call r reply response at is shut =
    let by : (id : ℕ) × IsLedOn id (driver_state x) line call reply (earlier_of x ++ []) v.ahead = led_for None x v line call r reply response at is shut in
    let u : LocalState = state_of (logged_log x line call r reply) in
    let state : u ≡ by.1.0 = state_led x line call r reply by.1.0 is.sound.handle.legal by.1.1 in
    record {
      reached = reached_after (driver_state x) u (Called line call reply) (log_reached x.handle.log is.sound.handle.legal) (is_call x v line call r reply response is);
      leads = subst (λ n. LeadAll n u (earlier_of x) v.ahead) (ap id_of (sym is.ids))
          (subst (λ es. LeadAll (id_in x) u es v.ahead) (append_none (earlier_of x)) (subst (λ z. LeadAll (id_in x) z (earlier_of x ++ []) v.ahead) (sym state) by.1.2));
      shut = shut.shut;
      owed = shut.owed;
      none_runs = shut.none_runs;
      unmade = λ unnamed. shut.unmade (sym is.ids ∙ unnamed);
    }
seated_on (Some s) x v line call r reply response at is slice =
    let by : (id : ℕ) × IsLedOn id (driver_state x) line call reply (earlier_of x ++ s.unsent) v.ahead = led_for (Some s) x v line call r reply response at is slice in
    let u : LocalState = state_of (logged_log x line call r reply) in
    let state : u ≡ by.1.0 = state_led x line call r reply by.1.0 is.sound.handle.legal by.1.1 in
    record {
      reached = reached_after (driver_state x) u (Called line call reply) (log_reached x.handle.log is.sound.handle.legal) (is_call x v line call r reply response is);
      leads = subst (λ z. LeadAll s.id z (earlier_of x ++ s.unsent) v.ahead) (sym state) by.1.2;
      stands = slice.stands;
      sound = slice.sound;
      owed = slice.owed;
      next = slice.next;
    }

-- ---- the handle

or_true : (a : Bool) → true ≡ (a || true)
or_true true = refl
or_true false = refl

or_nothing : (a : Bool) → a ≡ (a || false)
or_nothing true = refl
or_nothing false = refl

session_opens : (session : Option ℕ) (id line : ℕ) (s : LocalState) (call : Call) (reply : Reply) →
    is_some (session_from session call reply (response_to id s call reply)) ≡ (is_some session || opens_session (Called line call reply))
session_opens session id line s (OpenHandle nonblock) Done = or_true (is_some session)
session_opens session id line s (OpenHandle nonblock) reply = or_nothing (is_some session)
session_opens session id line s call reply = or_nothing (is_some session)

keeps_on : (x : Slice) (v : Inner) (line : ℕ) (call : Call) (r : Returning) (reply : Reply) (response : Response) → IsRead x v line call r reply response →
    Keeps (logged_log x line call r reply) (session_from x.handle.session call reply response) AtRest
keeps_on x v line call r reply response is =
    let l : LogState = x.handle.log in
    let s : LocalState = driver_state x in
    let u : LocalState = state_of (logged_log x line call r reply) in
    let e : Entry = Called line call reply in
    let calls : IsCall s line call reply u = is_call x v line call r reply response is in
    record {
      legal = legal_more l.model l.entries e is.sound.handle.legal (subst IsSome (sym calls) refl);
      range = after_in_range s u (Called 0 call reply) is.sound.handle.range (lit< tt, is.address) (sym (line_free s line call reply is.crosses) ∙ calls);
      opened = ap (λ z. is_some (session_from x.handle.session call reply z)) is.told
          ∙ (session_opens x.handle.session (id_in x) line s call reply
          ∙ (ap (λ b. b || opens_session e) is.sound.handle.opened ∙ sym (opened_more l.entries e)));
      fits = refl;
    }

-- ---- users' memories

drop_none : (n : ℕ) → ◌≡◌ {A = List Held} (drop n []) []
drop_none zero = refl
drop_none (suc n) = refl

home_none : (s : LocalState) (call : Call) (held : List Held) (home : List (Option Mem)) → held ≡ [] → home_with s call held home ≡ home
home_none s call held home none =
    ap (λ hs. home_with s call hs home) none
    ∙ ((λ j. put_back s (take_none (stopped_count s call) j) home ++ map (λ (h : Held). Some h.mem) (drop_none (stopped_count s call) j)) ∙ append_none home)

come_back : (s t : LocalState) (call : Call) (reply : Reply) (held : List Held) → is_refusal reply ≡ false → ComeWith s t call reply held → ComeBack s t call held
come_back s t call (Refused errno) held done come = absurd (true≢false done)
come_back s t call reply held done come = come

refused_none : (s t : LocalState) (call : Call) (reply : Reply) (held : List Held) → is_refusal reply ≡ true → ComeWith s t call reply held → held ≡ []
refused_none s t call (Refused errno) held refused come = come
refused_none s t call reply held refused come = absurd (false≢true refused)

-- what is put back is as what was there and what is put
put_users : (s : LocalState) (hs : List Held) (home : List (Option Mem)) (m : ℕ) (mem : Mem) → ((m : ℕ) (mem : Mem) → home_of home m ≡ Some mem → IsUsers s m mem) → AreUsers s hs →
    home_of (put_back s hs home) m ≡ Some mem → IsUsers s m mem
put_users s [] home m mem old new at = old m mem at
put_users s (h ∷ hs) home m mem old new at =
    let P : Held → Type 0 = λ k. IsUsers s (memory_at s k.queue k.index) k.mem in
    let n : ℕ = memory_at s h.queue h.index in
    put_users s hs (set home n (Some h.mem)) m mem (λ k y there.
    elim (set_from home n k (Some h.mem) y there) as (λ _. IsUsers s k y) [
      | inl before ↦ old k y before
      | inr put ↦ subst (λ i. IsUsers s i y) (sym put.0) (subst (λ z. IsUsers s n z) (some_same h.mem y y put.1) (All-head P h hs new))
    ]) (All-tail P h hs new) at

-- what is behind is one of those that are new
append_from : (xs : List (Option Mem)) (hs : List Held) (m : ℕ) (a : Mem) → get_or (xs ++ map (λ (h : Held). Some h.mem) hs) m None ≡ Some a →
    (get_or xs m None ≡ Some a) ⊎ ((length xs ≤ m) × (All (λ (h : Held). CanHold h.mem) hs → CanHold a))
append_from [] [] m a at = absurd (none-some a at)
append_from [] (h ∷ hs) zero a at = inr (omega arith, λ all. subst CanHold (some_same h.mem a a at) (All-head (λ (k : Held). CanHold k.mem) h hs all))
append_from [] (h ∷ hs) (suc m) a at =
    elim (append_from [] hs m a at) as (λ _. (get_or [] (suc m) None ≡ Some a) ⊎ ((length {A = Option Mem} [] ≤ suc m) × (All (λ (k : Held). CanHold k.mem) (h ∷ hs) → CanHold a))) [
      | inl none ↦ absurd (none-some a none)
      | inr rest ↦ inr (omega arith, λ all. rest.1 (All-tail (λ (k : Held). CanHold k.mem) h hs all))
    ]
append_from (x ∷ xs) hs zero a at = inl at
append_from (x ∷ xs) hs (suc m) a at =
    elim (append_from xs hs m a at) as (λ _. (get_or xs m None ≡ Some a) ⊎ ((suc (length xs) ≤ suc m) × (All (λ (k : Held). CanHold k.mem) hs → CanHold a))) [
      | inl there ↦ inl there
      | inr past ↦ inr (omega (arith, past.0), past.1)
    ]

drop_front : {A : Type 0} (xs ys : List A) → drop (length xs) (xs ++ ys) ≡ ys
drop_front [] ys = refl
drop_front (x ∷ xs) ys = drop_front xs ys

home_on : (x : Slice) (v : Inner) (line : ℕ) (call : Call) (r : Returning) (reply : Reply) (response : Response) (halts refused : Bool) → is_stopping call ≡ halts → is_refusal reply ≡ refused →
    IsRead x v line call r reply response → (m : ℕ) (mem : Mem) → home_of (home_with (driver_state x) call r.held x.handle.log.home) m ≡ Some mem → IsUsers (driver_state x) m mem
home_on x v line call r reply response false true halts refuses is m mem at =
    let none : r.held ≡ [] = refused_none v.before is.memories.0 call reply r.held refuses is.memories.1 in
    is.sound.users.home m mem (subst (λ hs. home_of hs m ≡ Some mem) (home_none (driver_state x) call r.held x.handle.log.home none) at)
home_on x v line call r reply response false false halts refuses is m mem at =
    let none : r.held ≡ [] = (none_come v.before is.memories.0 call r.held x.handle.log.home halts (come_back v.before is.memories.0 call reply r.held refuses is.memories.1)).0 in
    is.sound.users.home m mem (subst (λ hs. home_of hs m ≡ Some mem) (home_none (driver_state x) call r.held x.handle.log.home none) at)
home_on x v line call r reply response true true halts refuses is m mem at =
    let none : r.held ≡ [] = refused_none v.before is.memories.0 call reply r.held refuses is.memories.1 in
    is.sound.users.home m mem (subst (λ hs. home_of hs m ≡ Some mem) (home_none (driver_state x) call r.held x.handle.log.home none) at)
home_on x v line call r reply response true false halts refuses is m mem at =
    let s : LocalState = driver_state x in
    let n : ℕ = stopped_count s call in
    let under : under_way x ≡ [] = λ j. (none_under x v line call r reply response is halts refuses).0 j ++ (none_under x v line call r reply response is halts refuses).1 j in
    let same : v.before ≡ s = subst (λ es. LeadAll (id_in x) s es v.before) under (subst (λ b. IsBefore b x v.before) halts is.before) in
    let back : AreUsers s (take n r.held) = subst (λ z. AreUsers z (take (stopped_count z call) r.held)) same
    (subst (λ e. AreUsers v.before (take (stopped_many v.before e) r.held)) is.executed (is.sound.users.back r is.out)) in
    let reached : IsReached s = log_reached x.handle.log is.sound.handle.legal in
    let come : ComeBack v.before is.memories.0 call r.held = come_back v.before is.memories.0 call reply r.held refuses is.memories.1 in
    let next : IsReached is.memories.0 = reached_after v.before is.memories.0 (Called line call reply) (subst IsReached (sym same) reached) is.calls in
    let many : length come.back ≡ n = memories_long v.before (flat_map (queued_on v.before) (stops v.before call)) come.back come.queued ∙ ap (λ z. stopped_count z call) same in
    let new : drop n r.held ≡ come.fresh = ap (drop n) come.ordered ∙ (ap (λ k. drop k (come.back ++ come.fresh)) (sym many) ∙ drop_front come.back come.fresh) in
    let fresh : All (λ (h : Held). CanHold h.mem) (drop n r.held) = subst (All (λ (h : Held). CanHold h.mem)) (sym new) (made_hold is.memories.0 call come.fresh next come.made) in
    elim (append_from (put_back s (take n r.held) x.handle.log.home) (drop n r.held) m mem at) as (λ _. IsUsers s m mem) [
      | inl there ↦ put_users s (take n r.held) x.handle.log.home m mem is.sound.users.home back there
      | inr past ↦ users_none s m mem reached (omega (arith, past.0, put_long s (take n r.held) x.handle.log.home, is.sound.log.in_place.places)) (past.1 fresh)
    ]

-- the messages' are as the state ahead has them
messages_on : (x : Slice) (v : Inner) (line : ℕ) (call : Call) (r : Returning) (reply : Reply) (response : Response) (halts refused : Bool) → is_stopping call ≡ halts → is_refusal reply ≡ refused →
    IsRead x v line call r reply response → AreUsers v.ahead (told_held x)
messages_on x v line call r reply response false refused halts refuses is =
    subst (λ s. AreUsers s (told_held x)) (told_none v v.ahead (subst StopsNone (sym is.executed) halts)) is.sound.users.messages
messages_on x v line call r reply response true false halts refuses is =
    let under : under_way x ≡ [] = λ j. (none_under x v line call r reply response is halts refuses).0 j ++ (none_under x v line call r reply response is halts refuses).1 j in
    subst (λ es. AreUsers v.ahead (filter_map (λ (e : Unsent). e.held) es)) (sym under) (All-nil _)
messages_on x v line call r reply response true true halts refuses is =
    let by : (errno : Errno) × (reply ≡ Refused errno) = refusal_is reply refuses in
    subst (λ s. AreUsers s (told_held x)) (told_first v (Called line call reply) is.executed halts ∙ before_is x v line call by.0 x.session refl is.sound.named is.sound.seated
    (is.executed ∙ ap (λ q. Some (Called line call q)) by.1) halts (subst (λ b. IsBefore b x v.before) halts is.before)) is.sound.users.messages
  where
    before_is : (x : Slice) (v : Inner) (line : ℕ) (call : Call) (errno : Errno) (o : Option SessionState) → x.session ≡ o → IfSome x.session (λ s. id_ahead x.handle x.out ≡ Some s.id) → IsSeated o x v →
        v.executed ≡ Some (Called line call (Refused errno)) → is_stopping call ≡ true → LeadAll (id_in x) (driver_state x) (under_way x) v.before → v.before ≡ v.ahead
    before_is x v line call errno None at named shut executed halts before =
        let e : Entry = Called line call (Refused errno) in
        let by : LeadWith true (id_in x) (driver_state x) e (earlier_of x) v.ahead = subst (λ b. LeadWith b (id_in x) (driver_state x) e (earlier_of x) v.ahead) halts
        (subst (λ q. LeadAhead (id_in x) (driver_state x) q (earlier_of x) v.ahead) executed shut.leads) in
        lead_same (id_in x) (id_in x) (driver_state x) v.before by.0 (under_way x) (earlier_of x) (ap (λ o. earlier_of x ++ unsent_in o) at ∙ append_none (earlier_of x)) before by.1
        ∙ sym (refused_call by.0 line call errno v.ahead by.2)
    before_is x v line call errno (Some s) at named slice executed halts before =
        let e : Entry = Called line call (Refused errno) in
        let by : LeadWith true s.id (driver_state x) e (earlier_of x ++ s.unsent) v.ahead = subst (λ b. LeadWith b s.id (driver_state x) e (earlier_of x ++ s.unsent) v.ahead) halts
        (subst (λ q. LeadAhead s.id (driver_state x) q (earlier_of x ++ s.unsent) v.ahead) executed slice.leads) in
        lead_same (id_in x) s.id (driver_state x) v.before by.0 (under_way x) (earlier_of x ++ s.unsent) (ap (λ o. earlier_of x ++ unsent_in o) at) before by.1
        ∙ sym (refused_call by.0 line call errno v.ahead by.2)

-- ---- the slice

stops_none : (s : LocalState) (call : Call) → is_stopping call ≡ false → stops s call ≡ []
stops_none s CloseHandle never = absurd (true≢false never)
stops_none s (ReqBufs t m n) never = absurd (true≢false never)
stops_none s (StreamOff t) never = absurd (true≢false never)
stops_none s call never = refl

none_either : (b : Bool) → ◌≡◌ {A = List ℕ} (if b then [] else []) []
none_either true = refl
none_either false = refl

still_on : (x : Slice) (v : Inner) (line : ℕ) (call : Call) (r : Returning) (reply : Reply) (response : Response) (halts refused : Bool) → is_stopping call ≡ halts → is_refusal reply ≡ refused →
    IsRead x v line call r reply response → IsStill (logged x line call r reply response)
still_on x v line call r reply response halts refused is_halting refuses is =
    by_case halts refused is_halting refuses
  where
    y : Slice
    y = logged x line call r reply response

    last : stopped_last y ≡ stopped_by (state_of (logged_log x line call r reply)) (Some (Called line call reply))
    last = ap (stopped_by (state_of (logged_log x line call r reply))) (last_behind None x.handle.log.entries line call reply)

    by_case : (halts refused : Bool) → is_stopping call ≡ halts → is_refusal reply ≡ refused → IsStill y
    by_case false refused never refuses = still_free y (last ∙ (ap (λ ts. if is_refusal reply then [] else ts) (stops_none (state_of (logged_log x line call r reply)) call never) ∙ none_either (is_refusal reply)))
    by_case true true halts refuses = still_free y (last ∙ ap (λ b. if b then [] else stops (state_of (logged_log x line call r reply)) call) refuses)
    by_case true false halts refuses =
        let under : under_way x ≡ [] = λ j. (none_under x v line call r reply response is halts refuses).0 j ++ (none_under x v line call r reply response is halts refuses).1 j in
        subst (λ es. All (λ (e : Unsent). ¬ Contains (stopped_last y) (queue_told y.handle.log.model e.msg)) es) (sym under) (All-nil _)

logged_sound : (x : Slice) (v : Inner) (line : ℕ) (call : Call) (r : Returning) (reply : Reply) (response : Response) → IsRead x v line call r reply response →
    IsSoundSlice (logged x line call r reply response) (behind x v line call r reply)
logged_sound x v line call r reply response is =
    let s : LocalState = driver_state x in
    let u : LocalState = state_of (logged_log x line call r reply) in
    let reached : IsReached s = log_reached x.handle.log is.sound.handle.legal in
    let calls : IsCall s line call reply u = is_call x v line call r reply response is in
    record {
      log = is.log_sound;
      handle = keeps_on x v line call r reply response is;
      out = (record { executed = refl; before = refl }, λ l c at. apart l c at);
      seated = seated_on x.session x v line call r reply response refl is is.sound.seated;
      named = subst (λ o. IfSome x.session (λ z. o ≡ Some z.id)) (sym is.ids) is.sound.named;
      runs = is.sound.runs;
      still = still_on x v line call r reply response (is_stopping call) (is_refusal reply) refl refl is;
      held = refl;
      users = record {
        home = λ m mem at. users_like s u m mem reached (like_call s u line call reply is.crosses calls)
            (home_on x v line call r reply response (is_stopping call) (is_refusal reply) refl refl is m mem (kept_from u (home_with s call r.held x.handle.log.home) m mem at));
        lent = λ entry at. absurd (none-some entry at);
        along = λ m number at. absurd (no_request m at);
        back = λ m at. absurd (no_reply m at);
        messages = messages_on x v line call r reply response (is_stopping call) (is_refusal reply) refl refl is;
        queued = is.sound.users.queued;
        job = is.sound.users.job;
      };
    }
  where
    apart : (l : ℕ) (c : Call) → AtRest ≡ Underway l c → ⊥
    apart l c at = cc

    no_request : (m : Posting) → Nowhere ≡ Asked m → ⊥
    no_request m at = cc

    no_reply : (m : Returning) → Nowhere ≡ Told m → ⊥
    no_reply m at = cc

-- ---- what is collected

-- the response tells whether an open brought a session, whatever the reply is read as
opened_told : (session : Option ℕ) (id : ℕ) (s : LocalState) (nonblock : Bool) (reply : Reply) (response : Response) → response ≡ response_to id s (OpenHandle nonblock) reply →
    session_from session (OpenHandle nonblock) Done response ≡ session_from session (OpenHandle nonblock) reply response
opened_told session id s nonblock Done response is = refl
opened_told session id s nonblock (Refused e) response is =
    ap (session_from session (OpenHandle nonblock) Done) is ∙ sym (ap (session_from session (OpenHandle nonblock) (Refused e)) is)
opened_told session id s nonblock reply response is =
    ap (session_from session (OpenHandle nonblock) Done) is ∙ sym (ap (session_from session (OpenHandle nonblock) reply) is)

session_told : (h : HandleState) (call : Call) (c : Command) (line : ℕ) (bytes : List ℕ) (reply : Reply) → command_in (crossing_from h call) ≡ Some c → IsAnswer (state_of h.log) line call (response_of c bytes) reply →
    session_from h.session call Done (response_of OpenSession bytes) ≡ session_from h.session call reply (response_of c bytes)
session_told h (OpenHandle nonblock) c line bytes reply crosses (next, id, (is_call, told)) =
    let same : OpenSession ≡ c = some_same OpenSession c c crosses in
    ap (λ (x : Command). session_from h.session (OpenHandle nonblock) Done (response_of x bytes)) same
    ∙ opened_told h.session id (state_of h.log) nonblock reply (response_of c bytes) told
session_told h call c line bytes reply crosses answer = refl

crossing_with : (o : Option Crossing) (c : Command) → command_in o ≡ Some c → (k : Crossing) × (o ≡ Some k) × (k.command ≡ c)
crossing_with None c is = absurd (none-some c is)
crossing_with (Some k) c is = (k, refl, some_same k.command c c is)

pub line_same : (l m : ℕ) (c d : Call) → Underway l c ≡ Underway m d → (l ≡ m) × (c ≡ d)
line_same l m c d is = (line_of is, call_of is)
  where
    line_of : Underway l c ≡ Underway m d → l ≡ m
    line_of is = cc

    call_of : Underway l c ≡ Underway m d → c ≡ d
    call_of is = cc

pub told_is : (x : Slice) (v : Inner) (o : Out) (r : Returning) → o ≡ Told r → IsOut o x v → IsTold x v r
told_is x v o r at out = subst (λ z. IsOut z x v) at out

-- with the line and the call of the handle
pub record IsToldOf (x : Slice) (v : Inner) (r : Returning) (line : ℕ) (call : Call) : Type 0 where
  pub reply : Reply
  pub next : LocalState
  pub executed : v.executed ≡ Some (Called line call reply)
  pub before : IsBefore (is_stopping call) x v.before
  pub is_call : IsCall v.before line call reply next
  pub bytes : r.reply.bytes ≡ response_bytes (response_to (id_in x) (driver_state x) call reply)
  pub small : (id : ℕ) → response_to (id_in x) (driver_state x) call reply ≡ Opened id → id < 2 ^ 32
  pub address : address_in reply < 2 ^ 64
  pub memories : ComeWith v.before next call reply r.held
  pub quiet : is_stopping call ≡ true → is_refusal reply ≡ false → unsent_in x.session ≡ []

told_of : (x : Slice) (v : Inner) (r : Returning) (line : ℕ) (call : Call) (told : IsTold x v r) → told.line ≡ line → told.call ≡ call → IsToldOf x v r line call
told_of x v r line call told same_line same_call =
    subst (λ l. IsToldOf x v r l call) same_line (subst (λ c. IsToldOf x v r told.line c) same_call (record {
      reply = told.reply;
      next = told.next;
      executed = told.executed;
      before = told.before;
      is_call = told.is_call;
      bytes = told.bytes;
      small = told.small;
      address = told.address;
      memories = told.memories;
      quiet = λ halts done. (told.quiet halts done).0;
    }))

pub collected : (x : Slice) (v : Inner) (line : ℕ) (call : Call) (c : Command) (r : Returning) (reply : Reply) → IsSoundSlice x v → x.handle.stage ≡ Underway line call → x.out ≡ Told r →
    command_in (crossing_from x.handle call) ≡ Some c → (is_stopping call ≡ true → x.events ≡ []) → MayAnswer x.handle line call c r →
    IsAnswer (driver_state x) line call (response_of c r.reply.bytes) reply → IsRead x v line call r reply (response_of c r.reply.bytes)
collected x v line call c r reply sound under at command events may answer =
    let s : LocalState = driver_state x in
    let told : IsTold x v r = told_is x v x.out r at sound.out in
    let same : (told.line ≡ line) × (told.call ≡ call) = line_same told.line line told.call call (sym told.underway ∙ under) in
    let of : IsToldOf x v r line call = told_of x v r line call told same.0 same.1 in
    let response : Response = response_to (id_in x) s call of.reply in
    let crossing : (k : Crossing) × (crossing_from x.handle call ≡ Some k) × (k.command ≡ c) = crossing_with (crossing_from x.handle call) c command in
    let crosses : may_cross call ≡ true = may_of (id_of x.handle.session) s call (subst IsSome (sym crossing.1) refl) in
    let held_none : is_stopping call ≡ true → x.held ≡ [] = λ halts. subst (λ b. HoldsFew b x.held) (ap holds_back under ∙ ap not halts) sound.held in
    let quiet : is_stopping call ≡ true → is_refusal of.reply ≡ false → (earlier_of x ≡ []) × (unsent_in x.session ≡ []) =
    λ halts done. ((λ j. map unsent_by (held_none halts j ++ events halts j)), of.quiet halts done) in
    let led : (id : ℕ) × IsLedOn id s line call of.reply (earlier_of x ++ unsent_in x.session) v.ahead = led_told x.session x v line call of.reply refl sound of.executed quiet sound.seated in
    let own : IsAnswer s line call response of.reply = (led.1.0, id_in x, (led.1.1, refl)) in
    let fits : Answers crossing.0.command response =
    answer_fits (id_of x.handle.session) s line call crossing.0 response of.reply sound.handle.range crossing.1 own of.small of.address in
    let reads : ReadsBack c response (response_bytes response) = response_again c response (subst (λ k. Answers k response) crossing.2 fits) in
    let read : response_of c r.reply.bytes ≡ response = ap (response_of c) of.bytes ∙ reads.1 in
    let is : of.reply ≡ reply = one_answer s line call response of.reply reply own (subst (λ z. IsAnswer s line call z reply) read answer) in
    let may_is : may.may.reply ≡ reply = one_answer s line call (response_of c r.reply.bytes) may.may.reply reply (is_answer s line call (response_of c r.reply.bytes) r.held may.may) answer in
    record {
      sound = sound;
      out = at;
      underway = under;
      executed = of.executed ∙ ap (λ q. Some (Called line call q)) is;
      before = of.before;
      crosses = crosses;
      told = read ∙ ap (response_to (id_in x) s call) is;
      address = subst (λ q. address_in q < 2 ^ 64) is of.address;
      memories = (of.next, subst (λ q. ComeWith v.before of.next call q r.held) is of.memories);
      calls = subst (λ q. IsCall v.before line call q of.next) is of.is_call;
      ids = sym (ap (id_ahead x.handle) at ∙ (ap (λ t. id_told t x.handle.session r) under ∙ session_told x.handle call c line r.reply.bytes reply command answer));
      held_none = held_none;
      events_none = events;
      quiet = λ halts done. of.quiet halts (ap is_refusal is ∙ done);
      log_sound = subst (λ q. IsSoundLog (replied x.handle.log line call q r.held)) may_is
          (sound_replied x.handle line call (response_of c r.reply.bytes) r.held (record { keeps = sound.handle; sound = sound.log }) under may.may);
    }

pub collect_keeps : (x x' : Slice) (v : Inner) → IsSoundSlice x v → Collects x x' → GoesOnSoundly x' v
collect_keeps x x' v sound (line, call, c, r, reply, under, at, command, events, may, answer, is) =
    let response : Response = response_of c r.reply.bytes in
    let read : IsRead x v line call r reply response = collected x v line call c r reply sound under at command events may answer in
    let y : Slice = logged x line call r reply response in
    let w : Inner = behind x v line call r reply in
    subst (λ z. GoesOnSoundly z v) (sym is) (deliver_all x.held x.events y w (logged_sound x v line call r reply response read) refl refl)
