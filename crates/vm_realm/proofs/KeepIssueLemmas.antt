-- A line that is begun keeps a slice sound.
use Rattle.std.proofs.Common.{◌≡◌, ◌⊎◌, inl, inr, ℕ, zero, suc, ◌<◌, true, false, Bool, List, [], ◌∷◌, ◌++◌, All, length, get_or, replicate, Option, Some, None, refl, sym, ap, ◌∙◌, subst, arith, if◌then◌else◌, ◌≤◌}
use Rattle.std.specs.List.{filter_map}
use Rattle.std.specs.Prelude.{IfSome, Contains}
use Rattle.std.specs.Option.{option_to_list}
use Rattle.std.proofs.lemmas.Bool.{false≢true}
use Rattle.std.proofs.lemmas.Option.{none-some}
use Rattle.std.proofs.lemmas.List.{get_or_append_left, length-replicate}
use Rattle.std.proofs.lemmas.List.Elements.{All-nil, All-cons, All-contains, All-contains_itself, All-filter, All-weaker, Contains-push_cases}
use Rattle.v4l_const.specs.declared.errno.Errno.{Errno}
use Rattle.v4l_const.specs.declared.errno.Errno.TheVariants.{Enomem}
use Rattle.v4l_rules.specs.Refusals.{first_refusal}
use Rattle.vm_frame.specs.Mem.{mem_rest}
use Rattle.vm_frame.specs.declared.mem.Held.{Held}
use Rattle.vm_frame.specs.declared.mem.Mem.{Mem}
use Rattle.vm_frame.specs.declared.mem.Mem.TheVariants.{OfUser}
use Rattle.vm_lease.specs.declared.lease_out.LeaseOut.{LeaseOut}
use Rattle.vm_sg.specs.UserMemory.{user_memory}
use Rattle.vm_wire.specs.Message.{Posting, Returning}
use Rattle.vm_local.specs.declared.bound.Bound.{Bound}
use Rattle.vm_local.specs.declared.bound.BoundKind.TheVariants.{User}
use Rattle.vm_local.specs.declared.call.Call.{Call}
use Rattle.vm_local.specs.declared.call.Call.TheVariants.{OpenHandle, UAlloc, QBuf, DqBuf, DqEvent}
use Rattle.vm_local.specs.declared.entry.Entry.TheVariants.{Called}
use Rattle.vm_local.specs.declared.reply.Reply.{Reply}
use Rattle.vm_local.specs.State.{LocalState}
use Rattle.vm_local.specs.Live.{IsMade}
use Rattle.vm_local.specs.Memory.{bytes_of, without_name}
use Rattle.vm_local.specs.Same.{address_in}
use Rattle.vm_local.specs.Calls.{row_of, ualloc_row, dqevent_row}
use Rattle.vm_local.specs.Log.{IsCall, row_for, called}
use Rattle.vm_local.proofs.KeptLemmas.{some_same}
use Rattle.vm_local.proofs.StepLemmas.{answered_by, done_by}
use Rattle.vm_commute.specs.Commute.{may_cross}
use Rattle.vm_home.specs.Home.{home_of, IsMemory, IsThere, AreInPlace}
use Rattle.vm_home.specs.Laws.{IsUnrefused}
use Rattle.vm_home.specs.Moves.{is_refusal, memory_at, goes_along}
use Rattle.vm_home.specs.Reached.{IsReached}
use Rattle.vm_home.proofs.FactLemmas.{Facts, facts_of}
use Rattle.vm_home.proofs.LawLemmas.{queued_goes}
use Rattle.vm_log.specs.Answers.{with_line, answered_with, Sends}
use Rattle.vm_log.specs.LegalLog.{LogState, state_after, state_of, number_away, lease_in}
use Rattle.vm_log.specs.declared.away.Away.{Away}
use Rattle.vm_log.specs.declared.away.Away.TheVariants.{Nothing, Sent}
use Rattle.vm_exchange.specs.declared.crossing.Crossing.{Crossing}
use Rattle.vm_exchange.specs.declared.way.Way.{Way}
use Rattle.vm_exchange.specs.declared.way.Way.TheVariants.{Crosses, AnsweredHere, Waits, TouchesMemory}
use Rattle.vm_exchange.specs.Exchange.{crossing_of}
use Rattle.vm_exchange.specs.Range.{AreWords}
use Rattle.vm_exchange.proofs.FitLemmas.{queued_fits}
use Rattle.vm_exchange.proofs.WayLemmas.{queued_index}
use Rattle.vm_handle.specs.Answers.{row_from, makes, answered_by as answered_by_row, AnswersHere}
use Rattle.vm_handle.specs.Handle.{HandleState, id_of, way_from}
use Rattle.vm_handle.specs.declared.stage.Stage.TheVariants.{Underway, Waiting}
use Rattle.vm_handle.proofs.HereLemmas.{is_here, here_kinds}
use Rattle.vm_handle.proofs.LogLemmas.{reached as log_reached}
use Rattle.vm_handle.proofs.StartLemmas.{Rests, crossed, crosses_unrefused}
use Rattle.vm_guest.specs.Lines.{GoesOut, waiting}
use Rattle.vm_guest.specs.Message.{OfCall, posting_of}
use Rattle.vm_session.specs.State.{SessionState}
use Rattle.vm_session.specs.declared.unsent.Unsent.{Unsent}
use Rattle.vm_stands.specs.Laws.{Along}
use Rattle.vm_stands.specs.Flight.{LeadAll}
use Rattle.vm_stands.specs.Slice.{IsSlice, LeadAhead}
use Rattle.vm_stands.proofs.SliceLemmas.{all_reached}
use Rattle.vm_realm.specs.Inner.{Inner, driver_state, id_in, under_way, unsent_in}
use Rattle.vm_realm.specs.Laws.{GoesOnSoundly}
use Rattle.vm_realm.specs.Places.{queued_held, job_held}
use Rattle.vm_realm.specs.Slice.{Slice, Out, id_ahead, earlier_of}
use Rattle.vm_realm.specs.Slice.Out.{Nowhere, Asked, Told}
use Rattle.vm_realm.specs.SliceSteps.{IsFirst, holds_back, MayStart, StartsBy, Starts}
use Rattle.vm_realm.specs.Sound.{IsPosted, IsOut, IsSeated, HoldsFew, last_call_from, stopped_by, stopped_last, queue_told, IsSoundSlice, IsWholeSlice}
use Rattle.vm_realm.specs.Users.{IsUsers, AreUsers}
use Rattle.vm_handle.proofs.UserLemmas.{ualloc_sizes}
use Rattle.vm_realm.proofs.CanHoldLemmas.{hold_user}
use Rattle.vm_realm.proofs.KeepStateLemmas.{IsAlike, alike_itself, lead_idle, users_alike, held_alike}
use Rattle.vm_realm.proofs.KeepOutLemmas.{append_none, on_soundly}
use Rattle.vm_realm.proofs.KeepShutLemmas.{shut_leads}
use Rattle.vm_realm.proofs.KeepOwnLemmas.{IsFree, IsOneOf, holds_none, own_sound}
use Rattle.vm_realm.proofs.KeepTakeLemmas.{last_leads, kept_from, dqbuf_alike}
use Rattle.vm_realm.proofs.KeepLendLemmas.{none_put, free_of, start_rests, rests_free, with_log, logged_sound, refused_sound}
use Rattle.vm_realm.proofs.KeepBusyLemmas.{IsBusyHeld, busy_made, lead_busy, queued_busy, taken_busy}

-- ---- a call is out, or waits

seated_with : (o : Option SessionState) (x : Slice) (v : Inner) (h : HandleState) (out : Out) → state_of h.log ≡ driver_state x → id_ahead h out ≡ id_ahead x.handle x.out → IsSeated o x v →
    IsSeated o (record x { handle = h; out = out }) v
seated_with None x v h out same ids shut = record {
  reached = subst IsReached (sym same) shut.reached;
  leads = subst (λ n. LeadAhead n (state_of h.log) v.executed (earlier_of x) v.ahead) (ap id_of (sym ids))
      (subst (λ r. LeadAhead (id_in x) r v.executed (earlier_of x) v.ahead) (sym same) shut.leads);
  shut = shut.shut;
  owed = shut.owed;
  none_runs = shut.none_runs;
  unmade = λ unnamed. shut.unmade (sym ids ∙ unnamed);
}
seated_with (Some s) x v h out same ids slice = subst (λ r. IsSlice v.frames s x.job (earlier_of x) v.executed r v.ahead) (sym same) slice

-- The handle begins a call, and logs nothing.
pub record IsBegun (x : Slice) (v : Inner) (h : HandleState) (out : Out) : Type 0 where
  pub entries : h.log.entries ≡ x.handle.log.entries
  pub model : h.log.model ≡ x.handle.log.model
  pub ids : id_ahead h out ≡ x.handle.session
  pub is_out : IsOut out (record x { handle = h; out = out }) v
  pub home : (m : ℕ) (mem : Mem) → home_of h.log.home m ≡ Some mem → IsUsers (driver_state x) m mem
  pub unlent : (entry : LeaseOut) → lease_in h.log.away ≡ Some entry → ⊥
  pub along : (m : Posting) (number : ℕ) → out ≡ Asked m → h.log.away ≡ Sent number → All (λ (k : Held). IsUsers (driver_state x) number k.mem) m.held
  pub untold : (r : Returning) → out ≡ Told r → ⊥

begun_sound : (x : Slice) (v : Inner) (h : HandleState) (out : Out) → IsSoundSlice x v → IsFree x v → IsBegun x v h out → IsWholeSlice (record x { handle = h; out = out }) →
    IsSoundSlice (record x { handle = h; out = out }) v
begun_sound x v h out sound free is whole =
    let same : state_of h.log ≡ driver_state x = λ j. state_after (is.model j) (is.entries j) in
    record {
      log = whole.log;
      handle = whole.handle;
      out = is.is_out;
      seated = seated_with x.session x v h out same (is.ids ∙ sym (ap (id_ahead x.handle) free.nowhere)) free.seated;
      named = subst (λ o. IfSome x.session (λ s. o ≡ Some s.id)) (sym is.ids) free.named;
      runs = sound.runs;
      still = subst (λ ts. All (λ (e : Unsent). ¬ Contains ts (queue_told h.log.model e.msg)) (under_way x)) (sym (λ j. stopped_by (same j) (last_call_from None (is.entries j))))
          (subst (λ m. All (λ (e : Unsent). ¬ Contains (stopped_last x) (queue_told m e.msg)) (under_way x)) (sym is.model) sound.still);
      held = subst (HoldsFew (holds_back h.stage)) (sym free.nothing_held) (holds_none (holds_back h.stage));
      users = record {
        home = λ m mem there. subst (λ s. IsUsers s m mem) (sym same) (is.home m mem there);
        lent = λ entry there. absurd (is.unlent entry there);
        along = λ m number asked sent. subst (λ s. All (λ (k : Held). IsUsers s number k.mem) m.held) (sym same) (is.along m number asked sent);
        back = λ r told. absurd (is.untold r told);
        messages = sound.users.messages;
        queued = sound.users.queued;
        job = sound.users.job;
      };
    }

before_free : (x : Slice) (v : Inner) → IsSoundSlice x v → x.out ≡ Nowhere → v.before ≡ driver_state x
before_free x v sound at = (subst (λ o. IsOut o x v) at sound.out).0.before

nothing_lent : (away : Away) (entry : LeaseOut) → away ≡ Nothing → lease_in away ≡ Some entry → ⊥
nothing_lent away entry none is = cc

-- ---- it crosses

first_like : (h g : HandleState) (call : Call) → g.session ≡ h.session → IsFirst h call → IsFirst g call
first_like h g (OpenHandle nonblock) same first = same ∙ first
first_like h g call same first = tt

-- The memory that goes along, with what is left at home.
pub record IsSent (x : Slice) (call : Call) (along : Option Held) (log : LogState) : Type 0 where
  pub entries : log.entries ≡ x.handle.log.entries
  pub model : log.model ≡ x.handle.log.model
  pub memory : Along (driver_state x) call (option_to_list along)
  pub home : (m : ℕ) (mem : Mem) → home_of log.home m ≡ Some mem → home_of x.handle.log.home m ≡ Some mem
  pub unlent : (entry : LeaseOut) → lease_in log.away ≡ Some entry → ⊥
  pub sent : (number : ℕ) → log.away ≡ Sent number → All (λ (k : Held). home_of x.handle.log.home number ≡ Some k.mem) (option_to_list along)

sent_none : (x : Slice) (call : Call) (along : Option Held) (log : LogState) → x.handle.log.away ≡ Nothing → Along (driver_state x) call [] → (along ≡ None) × (log ≡ with_line x.handle.log) → IsSent x call along log
sent_none x call along log none nothing (unsent, is) =
    subst (IsSent x call along) (sym is) (subst (λ o. IsSent x call o (with_line x.handle.log)) (sym unsent) (record {
      entries = refl;
      model = refl;
      memory = nothing;
      home = λ m mem there. there;
      unlent = λ entry there. nothing_lent x.handle.log.away entry none there;
      sent = λ number at. All-nil (λ (k : Held). home_of x.handle.log.home number ≡ Some k.mem);
    }))

there_is : (s : LocalState) (m : ℕ) (o : Option Mem) (mem : Mem) → o ≡ Some mem → IsThere s m o → IsMemory s m mem
there_is s m o mem is there = subst (IsThere s m) is there

sent_qbuf : (x : Slice) (v : Inner) (t i used ts : ℕ) (user : Option (List ℕ)) (c : Crossing) (o : Option ℕ) (along : Option Held) (log : LogState) → IsSoundSlice x v → x.handle.log.away ≡ Nothing →
    AreWords (QBuf t i user used ts) → way_from x.handle (QBuf t i user used ts) ≡ Crosses c → goes_along (driver_state x) (QBuf t i user used ts) ≡ o →
    Sends o (with_line x.handle.log) (QBuf t i user used ts) along log → IsSent x (QBuf t i user used ts) along log
sent_qbuf x v t i used ts user c None along log sound none words crosses goes sends =
    let s : LocalState = driver_state x in
    let call : Call = QBuf t i user used ts in
    let unrefused : IsUnrefused s call = crosses_unrefused (id_of x.handle.session) s t i used ts user call c crosses refl in
    let placed : AreInPlace s None x.handle.log.home = subst (λ a. AreInPlace s (number_away s a) x.handle.log.home) none sound.log.in_place in
    let by : (m : ℕ) × (goes_along s call ≡ Some m) × IsThere s m (home_of x.handle.log.home m) × _ = queued_goes s t i used ts user x.handle.log.home (log_reached x.handle.log sound.handle.legal) unrefused placed in
    absurd (none-some by.0 (sym goes ∙ by.1))
sent_qbuf x v t i used ts user c (Some number) None log sound none words crosses goes sends = absurd sends
sent_qbuf x v t i used ts user c (Some number) (Some held) log sound none words crosses goes sends =
    let l : LogState = x.handle.log in
    let s : LocalState = driver_state x in
    let call : Call = QBuf t i user used ts in
    let reached : IsReached s = log_reached l sound.handle.legal in
    let unrefused : IsUnrefused s call = crosses_unrefused (id_of x.handle.session) s t i used ts user call c crosses refl in
    let placed : AreInPlace s None l.home = subst (λ a. AreInPlace s (number_away s a) l.home) none sound.log.in_place in
    let by : (m : ℕ) × (goes_along s call ≡ Some m) × IsThere s m (home_of l.home m) × _ = queued_goes s t i used ts user l.home reached unrefused placed in
    let same : by.0 ≡ number = some_same by.0 number number (sym by.1 ∙ goes) in
    let memory : IsMemory s number held.mem = there_is s number (home_of l.home number) held.mem sends.1 (subst (λ m. IsThere s m (home_of l.home m)) same by.2) in
    subst (IsSent x call (Some held)) (sym sends.2) (record {
      entries = refl;
      model = refl;
      memory = (
        held,
        refl,
        record { number = number; along = goes; queue = sends.0.0; index = sends.0.1; memory = memory },
        queued_fits s t i used ts user sound.handle.range words (queued_index s 0 0 t i used ts user sound.handle.range (unrefused 0 0)),
      );
      home = λ m mem there. none_put l.home number m mem there;
      unlent = λ entry there. not_lent entry there;
      sent = λ n at. subst (λ k. All (λ (z : Held). home_of l.home k ≡ Some z.mem) (held ∷ [])) (sent_same number n at)
          (All-cons (λ (z : Held). home_of l.home number ≡ Some z.mem) held [] sends.1 (All-nil (λ (z : Held). home_of l.home number ≡ Some z.mem)));
    })
  where
    not_lent : (entry : LeaseOut) → lease_in (Sent number) ≡ Some entry → ⊥
    not_lent entry there = none-some entry there

    sent_same : (number n : ℕ) → Sent number ≡ Sent n → number ≡ n
    sent_same number n at = cc

is_sent : (x : Slice) (v : Inner) (call : Call) (c : Crossing) (along : Option Held) (log : LogState) → IsSoundSlice x v → x.handle.log.away ≡ Nothing → AreWords call → way_from x.handle call ≡ Crosses c →
    Sends (goes_along (driver_state x) call) (with_line x.handle.log) call along log → IsSent x call along log
is_sent x v (QBuf t i user used ts) c along log sound none words crosses sends =
    sent_qbuf x v t i used ts user c (goes_along (driver_state x) (QBuf t i user used ts)) along log sound none words crosses refl sends
is_sent x v call c along log sound none words crosses sends = sent_none x call along log none refl sends

crosses_sound : (x : Slice) (v : Inner) (line : ℕ) (call : Call) (c : Crossing) (along : Option Held) (handle : HandleState) → IsSoundSlice x v → MayStart x → AreWords call → IsFirst x.handle call →
    way_from x.handle call ≡ Crosses c → GoesOut x.handle line call along handle → IsWholeSlice (record x { handle = handle; out = Asked (posting_of x.who (OfCall c along)) }) →
    GoesOnSoundly (record x { handle = handle; out = Asked (posting_of x.who (OfCall c along)) }) v
crosses_sound x v line call c along handle sound may words first crosses goes whole =
    let m : Posting = posting_of x.who (OfCall c along) in
    let h : HandleState = record x.handle { log = goes.log; stage = Underway line call } in
    let rest : Rests x.handle.log.away x.handle.stage = start_rests x v sound may in
    let free : IsFree x v = free_of x v sound may.out (rests_free x.handle.stage rest.0) in
    let sent : IsSent x call along goes.log = is_sent x v call c along goes.log sound rest.1 words crosses goes.sends in
    let same : state_of goes.log ≡ driver_state x = λ j. state_after (sent.model j) (sent.entries j) in
    let posted : IsPosted (record x { handle = h; out = Asked m }) m = record {
      line = line;
      call = call;
      crossing = c;
      along = along;
      underway = refl;
      crosses = ap (λ s. crossing_of (id_of x.handle.session) s call) same ∙ crossed (id_of x.handle.session) (driver_state x) call c crosses;
      words = words;
      first = first_like x.handle h call refl first;
      says = refl;
      memory = subst (λ s. Along s call (option_to_list along)) (sym same) sent.memory;
    } in
    let begun : IsBegun x v h (Asked m) = record {
      entries = sent.entries;
      model = sent.model;
      ids = refl;
      is_out = (record { executed = free.none; before = before_free x v sound may.out ∙ sym same }, posted);
      home = λ n mem there. sound.users.home n mem (sent.home n mem there);
      unlent = sent.unlent;
      along = λ k number asked at. subst (λ (z : Posting). All (λ (q : Held). IsUsers (driver_state x) number q.mem) z.held) (asked_same m k asked)
          (All-weaker (λ (q : Held). home_of x.handle.log.home number ≡ Some q.mem) (λ (q : Held). IsUsers (driver_state x) number q.mem)
          (λ q there. sound.users.home number q.mem there) (option_to_list along) (sent.sent number at));
      untold = λ r told. not_told m r told;
    } in
    subst (λ g. GoesOnSoundly (record x { handle = g; out = Asked m }) v) (sym goes.after)
    (on_soundly (record x { handle = h; out = Asked m }) v v refl (begun_sound x v h (Asked m) sound free begun (subst (λ g. IsWholeSlice (record x { handle = g; out = Asked m })) goes.after whole)))
  where
    asked_same : (m k : Posting) → Asked m ≡ Asked k → m ≡ k
    asked_same m k is = cc

    not_told : (m : Posting) (r : Returning) → Asked m ≡ Told r → ⊥
    not_told m r is = cc

-- ---- it waits

waits_sound : (x : Slice) (v : Inner) (line : ℕ) (call : Call) → IsSoundSlice x v → MayStart x → IsWholeSlice (record x { handle = waiting x.handle line call }) →
    GoesOnSoundly (record x { handle = waiting x.handle line call }) v
waits_sound x v line call sound may whole =
    let h : HandleState = waiting x.handle line call in
    let rest : Rests x.handle.log.away x.handle.stage = start_rests x v sound may in
    let free : IsFree x v = free_of x v sound may.out (rests_free x.handle.stage rest.0) in
    let begun : IsBegun x v h Nowhere = record {
      entries = refl;
      model = refl;
      ids = refl;
      is_out = (record { executed = free.none; before = before_free x v sound may.out }, λ l c at. apart l c at);
      home = sound.users.home;
      unlent = λ entry there. nothing_lent x.handle.log.away entry rest.1 there;
      along = λ m number asked. absurd (no_request m asked);
      untold = λ r told. no_reply r told;
    } in
    let slice : IsSoundSlice (record x { handle = h; out = Nowhere }) v =
    begun_sound x v h Nowhere sound free begun (record { log = whole.log; handle = whole.handle; session = whole.session }) in
    on_soundly (record x { handle = h }) v v refl (subst (λ o. IsSoundSlice (record x { handle = h; out = o }) v) (sym may.out) slice)
  where
    apart : (l : ℕ) (c : Call) → Waiting line call ≡ Underway l c → ⊥
    apart l c at = cc

    no_request : (m : Posting) → Nowhere ≡ Asked m → ⊥
    no_request m is = cc

    no_reply : (r : Returning) → Nowhere ≡ Told r → ⊥
    no_reply r is = cc

-- ---- the driver answers it

none_either : (b : Bool) → ◌≡◌ {A = List ℕ} (if b then [] else []) []
none_either true = refl
none_either false = refl

dqevent_next : (s : LocalState) (line addr : ℕ) → IsAlike s (row_of s line addr DqEvent).next
unfolding dqevent_row
dqevent_next s line addr = record { opened = refl; model = refl; bound = refl; memory = λ u i. refl; long = λ m. refl }

pub dqevent_alike : (s u : LocalState) (line : ℕ) (reply : Reply) → IsCall s line DqEvent reply u → IsAlike s u
unfolding called
dqevent_alike s u line reply leads =
    elim (answered_by (first_refusal (row_for s line DqEvent reply).refusals) (row_for s line DqEvent reply) s reply u leads) as (λ _. IsAlike s u) [
      | inl same ↦ subst (IsAlike s) (sym same) (alike_itself s)
      | inr w ↦ subst (IsAlike s) (sym w.3) (dqevent_next s line (address_in reply))
    ]

-- a call that makes no memory
plain_sound : (x : Slice) (v : Inner) (line : ℕ) (call : Call) (reply : Reply) → IsSoundSlice x v → MayStart x → may_cross call ≡ false → ((s : LocalState) → stopped_by s (Some (Called line call reply)) ≡ []) →
    ((u : LocalState) → IsCall (driver_state x) line call reply u → IsAlike (driver_state x) u) →
    IsWholeSlice (with_log x (answered_with (with_line x.handle.log) line call reply (x.handle.log.home ++ []))) →
    GoesOnSoundly (with_log x (answered_with (with_line x.handle.log) line call reply (x.handle.log.home ++ []))) v
plain_sound x v line call reply sound may own quiet alike whole =
    let l : LogState = x.handle.log in
    let s : LocalState = driver_state x in
    let log : LogState = answered_with (with_line l) line call reply (l.home ++ []) in
    let rest : Rests l.away x.handle.stage = start_rests x v sound may in
    let is_call : IsCall s line call reply (state_of log) = last_leads l.model l.entries (Called line call reply) sound.handle.legal whole.handle.legal in
    let on : IsAlike s (state_of log) = alike (state_of log) is_call in
    logged_sound x v log may.out (own_sound x v (record x.handle { log = log }) line call reply (free_of x v sound may.out (rests_free x.handle.stage rest.0)) (record {
      is_call = is_call;
      entries = refl;
      away = refl;
      session = refl;
      stage = rest.0;
      home = λ m mem there. users_alike s (state_of log) m mem on
          (sound.users.home m mem (subst (λ hs. home_of hs m ≡ Some mem) (append_none l.home) (kept_from (state_of log) (l.home ++ []) m mem there)));
    }) (inl own) quiet (λ held one users. held_alike s (state_of log) held on users) whole.log whole.handle)

-- ---- user memory is made

user_next : LocalState → ℕ → List ℕ → ℕ → ℕ → LocalState
user_next s line name len off =
    record s {
      memories = s.memories ++ replicate len 0 ∷ [];
      bound = without_name s.bound name ++ record { name = name; memory = length s.memories; kind = User line off } ∷ [];
    }

ualloc_is : (s : LocalState) (line addr : ℕ) (name : List ℕ) (len off : ℕ) → (row_of s line addr (UAlloc name len off)).next ≡ user_next s line name len off
unfolding ualloc_row user_next
ualloc_is s line addr name len off = refl

ualloc_plain : (s : LocalState) (line addr : ℕ) (name : List ℕ) (len off : ℕ) → is_refusal (row_of s line addr (UAlloc name len off)).reply ≡ false
unfolding ualloc_row
ualloc_plain s line addr name len off = refl

old_name : (bound : List Bound) (name : List ℕ) (b : Bound) → Contains (without_name bound name) b → Contains bound b
old_name bound name b there = All-contains (Contains bound) (without_name bound name) b (All-filter _ (Contains bound) bound (All-contains_itself bound)) there

kind_line : (l off k o : ℕ) → User l off ≡ User k o → (l ≡ k) × (off ≡ o)
kind_line l off k o is = (line_of is, off_of is)
  where
    line_of : User l off ≡ User k o → l ≡ k
    line_of is = cc

    off_of : User l off ≡ User k o → off ≡ o
    off_of is = cc

-- users' memories that were made before stay
users_old : (s : LocalState) (line : ℕ) (name : List ℕ) (len off m : ℕ) (mem : Mem) → m < length s.memories → IsUsers s m mem → IsUsers (user_next s line name len off) m mem
unfolding user_next
users_old s line name len off m mem made users = record {
  holds = users.holds;
  pages = λ b l o there is kind.
      let new : Bound = record { name = name; memory = length s.memories; kind = User line off } in
      let same : bytes_of (user_next s line name len off) m ≡ bytes_of s m = get_or_append_left s.memories (replicate len 0 ∷ []) [] m made in
      elim (Contains-push_cases (without_name s.bound name) new b there) as (λ _. mem_rest mem ≡ mem_rest (OfUser (user_memory l (length (bytes_of (user_next s line name len off) m)) o))) [
        | inl old ↦ users.pages b l o (old_name s.bound name b old) is kind ∙ ap (λ bs. mem_rest (OfUser (user_memory l (length bs) o))) (sym same)
        | inr own ↦ absurd (omega (arith, made, ap (λ (z : Bound). z.memory) own, is))
      ];
}

get_behind : {A : Type 0} (xs : List A) (y d : A) → get_or (xs ++ y ∷ []) (length xs) d ≡ y
get_behind [] y d = refl
get_behind (x ∷ xs) y d = get_behind xs y d

-- the one that is made is as its name says
users_new : (s : LocalState) (line : ℕ) (name : List ℕ) (len off : ℕ) → IsReached s → 1 ≤ len → off ≤ 4095 → IsUsers (user_next s line name len off) (length s.memories) (OfUser (user_memory line len off))
unfolding user_next
users_new s line name len off reached some in_page = record {
  holds = hold_user line len off some in_page;
  pages = λ b l o there is kind.
      let new : Bound = record { name = name; memory = length s.memories; kind = User line off } in
      let bytes : bytes_of (user_next s line name len off) (length s.memories) ≡ replicate len 0 = get_behind s.memories (replicate len 0) [] in
      let long : length (bytes_of (user_next s line name len off) (length s.memories)) ≡ len = ap (λ (bs : List ℕ). length bs) bytes ∙ length-replicate len 0 in
      elim (Contains-push_cases (without_name s.bound name) new b there)
      as (λ _. mem_rest (OfUser (user_memory line len off)) ≡ mem_rest (OfUser (user_memory l (length (bytes_of (user_next s line name len off) (length s.memories))) o))) [
        | inl old ↦
            let f : Facts s = facts_of s reached in
            let made : b.memory < length s.memories = All-contains (λ (z : Bound). IsMade s z.memory) s.bound b f.sound.backed.1 (old_name s.bound name b old) in
            absurd (omega (arith, made, is))
        | inr own ↦
            let same : (line ≡ l) × (off ≡ o) = kind_line line off l o (ap (λ (z : Bound). z.kind) own ∙ kind) in
            (λ j. mem_rest (OfUser (user_memory (same.0 j) (sym long j) (same.1 j))))
      ];
}

-- the memories that aren't with the driver were made
one_made : (x : Slice) (v : Inner) (held : List Held) → IsFree x v → IsOneOf x held → All (λ (h : Held). memory_at (driver_state x) h.queue h.index < length (driver_state x).memories) held
one_made x v held free one = by_session x.session refl free.seated one
  where
    made : (id : ℕ) (es : List Unsent) (held : List Held) → LeadAll id (driver_state x) es v.ahead → All (IsBusyHeld v.ahead) held →
        All (λ (h : Held). memory_at (driver_state x) h.queue h.index < length (driver_state x).memories) held
    made id es held leads busy =
        All-weaker (IsBusyHeld v.ahead) (λ (h : Held). memory_at (driver_state x) h.queue h.index < length (driver_state x).memories)
        (λ h is. busy_made (driver_state x) h free.reached (sym (lead_idle id (driver_state x) v.ahead es h.queue h.index free.reached leads) ∙ is)) held busy

    by_session : (o : Option SessionState) → x.session ≡ o → IsSeated o x v → IsOneOf x held → All (λ (h : Held). memory_at (driver_state x) h.queue h.index < length (driver_state x).memories) held
    by_session None at shut one =
        let leads : LeadAll (id_in x) (driver_state x) (earlier_of x) v.ahead = subst (λ e. LeadAhead (id_in x) (driver_state x) e (earlier_of x) v.ahead) free.none shut.leads in
        let empty : earlier_of x ≡ [] = shut_leads (id_in x) (driver_state x) v.ahead (earlier_of x) free.reached shut.shut leads in
        let none : held ≡ [] = elim one as (λ _. held ≡ []) [
          | inl told ↦ told ∙ (λ j. filter_map (λ (e : Unsent). e.held) (empty j ++ unsent_in (at j)))
          | inr rest ↦ elim rest as (λ _. held ≡ []) [
            | inl queued ↦ queued ∙ ap queued_held at
            | inr taken ↦ taken ∙ ap job_held shut.none_runs
          ]
        ] in
        subst (λ hs. All (λ (h : Held). memory_at (driver_state x) h.queue h.index < length (driver_state x).memories) hs) (sym none) (All-nil _)
    by_session (Some s) at slice one =
        let leads : LeadAll s.id (driver_state x) (earlier_of x ++ s.unsent) v.ahead = subst (λ e. LeadAhead s.id (driver_state x) e (earlier_of x ++ s.unsent) v.ahead) free.none slice.leads in
        let there : IsReached v.ahead = all_reached s.id (driver_state x) v.ahead (earlier_of x ++ s.unsent) free.reached leads in
        made s.id (earlier_of x ++ s.unsent) held leads (elim one as (λ _. All (IsBusyHeld v.ahead) held) [
          | inl told ↦ subst (All (IsBusyHeld v.ahead)) (sym (told ∙ ap (λ o. filter_map (λ (e : Unsent). e.held) (earlier_of x ++ unsent_in o)) at))
              (lead_busy s.id (driver_state x) v.ahead (earlier_of x ++ s.unsent) free.reached leads)
          | inr rest ↦ elim rest as (λ _. All (IsBusyHeld v.ahead) held) [
            | inl queued ↦ subst (All (IsBusyHeld v.ahead)) (sym (queued ∙ ap queued_held at)) (queued_busy v.frames s x.job (earlier_of x) v.executed (driver_state x) v.ahead there slice)
            | inr taken ↦ subst (All (IsBusyHeld v.ahead)) (sym taken) (taken_busy v.ahead x.job there slice.next)
          ]
        ])

get_new : (home : List (Option Mem)) (y : Mem) (m : ℕ) (mem : Mem) → get_or (home ++ Some y ∷ []) m None ≡ Some mem → (get_or home m None ≡ Some mem) ⊎ ((m ≡ length home) × (y ≡ mem))
get_new [] y zero mem is = inr (refl, some_same y mem mem is)
get_new [] y (suc m) mem is = absurd (none-some mem is)
get_new (x ∷ xs) y zero mem is = inl is
get_new (x ∷ xs) y (suc m) mem is =
    elim (get_new xs y m mem is) as (λ _. (get_or xs m None ≡ Some mem) ⊎ ((suc m ≡ suc (length xs)) × (y ≡ mem))) [
      | inl old ↦ inl old
      | inr new ↦ inr (ap suc new.0, new.1)
    ]

some_inside : {A : Type 0} (xs : List (Option A)) (m : ℕ) (a : A) → get_or xs m None ≡ Some a → m < length xs
some_inside [] m a is = absurd (none-some a is)
some_inside (x ∷ xs) zero a is = omega arith
some_inside (x ∷ xs) (suc m) a is = omega (arith, some_inside xs m a is)

ualloc_passed : (s : LocalState) (line addr len off : ℕ) (name : List ℕ) → first_refusal (row_of s line addr (UAlloc name len off)).refusals ≡ None → (1 ≤ len) × (len ≤ 925696) × (off ≤ 4095)
ualloc_passed s line addr len off name passed = ualloc_sizes s line len off name passed

ualloc_sound : (x : Slice) (v : Inner) (line : ℕ) (name : List ℕ) (len off : ℕ) → IsSoundSlice x v → MayStart x →
    IsWholeSlice (with_log x (answered_with (with_line x.handle.log) line (UAlloc name len off) (row_from x.handle.log line (UAlloc name len off)).reply (x.handle.log.home ++ Some (OfUser (user_memory line len off)) ∷ []))) →
    GoesOnSoundly (with_log x (answered_with (with_line x.handle.log) line (UAlloc name len off) (row_from x.handle.log line (UAlloc name len off)).reply (x.handle.log.home ++ Some (OfUser (user_memory line len off)) ∷ []))) v
unfolding called user_next
ualloc_sound x v line name len off sound may whole =
    let l : LogState = x.handle.log in
    let s : LocalState = driver_state x in
    let call : Call = UAlloc name len off in
    let reply : Reply = (row_from l line call).reply in
    let mem : Mem = OfUser (user_memory line len off) in
    let log : LogState = answered_with (with_line l) line call reply (l.home ++ Some mem ∷ []) in
    let rest : Rests l.away x.handle.stage = start_rests x v sound may in
    let free : IsFree x v = free_of x v sound may.out (rests_free x.handle.stage rest.0) in
    let is_call : IsCall s line call reply (state_of log) = last_leads l.model l.entries (Called line call reply) sound.handle.legal whole.handle.legal in
    let went : _ = done_by (first_refusal (row_for s line call reply).refusals) (row_for s line call reply) s reply (state_of log) (ualloc_plain s line 0 name len off) is_call in
    let is : state_of log ≡ user_next s line name len off = went.3 ∙ ualloc_is s line (address_in reply) name len off in
    let many : length l.home ≡ length s.memories = sound.log.in_place.places in
    let sizes : (1 ≤ len) × (len ≤ 925696) × (off ≤ 4095) = ualloc_passed s line (address_in reply) len off name went.0 in
    logged_sound x v log may.out (own_sound x v (record x.handle { log = log }) line call reply free (record {
      is_call = is_call;
      entries = refl;
      away = refl;
      session = refl;
      stage = rest.0;
      home = λ m k there. subst (λ z. IsUsers z m k) (sym is)
          (elim (get_new l.home mem m k (kept_from (state_of log) (l.home ++ Some mem ∷ []) m k there)) as (λ _. IsUsers (user_next s line name len off) m k) [
            | inl old ↦ users_old s line name len off m k (omega (arith, some_inside l.home m k old, many)) (sound.users.home m k old)
            | inr new ↦ subst (λ n. IsUsers (user_next s line name len off) n k) (sym (new.0 ∙ many))
                (subst (λ z. IsUsers (user_next s line name len off) (length s.memories) z) new.1 (users_new s line name len off free.reached sizes.0 sizes.2))
          ]);
    }) (inl refl) (λ z. none_either (is_refusal reply))
    (λ held one users. subst (λ z. AreUsers z held) (sym is) (carried s line name len off held (one_made x v held free one) users)) whole.log whole.handle)
  where
    carried : (s : LocalState) (line : ℕ) (name : List ℕ) (len off : ℕ) (held : List Held) → All (λ (h : Held). memory_at s h.queue h.index < length s.memories) held → AreUsers s held →
        AreUsers (user_next s line name len off) held
    carried s line name len off held made users =
        λ k d within. users_old s line name len off (memory_at s (get_or held k d).queue (get_or held k d).index) (get_or held k d).mem (made k d within) (users k d within)

-- ---- all that it answers

passed_sound : (x : Slice) (v : Inner) (line : ℕ) (call : Call) → is_here call ≡ true → IsSoundSlice x v → MayStart x →
    IsWholeSlice (with_log x (answered_with (with_line x.handle.log) line call (row_from x.handle.log line call).reply (x.handle.log.home ++ makes line call))) →
    GoesOnSoundly (with_log x (answered_with (with_line x.handle.log) line call (row_from x.handle.log line call).reply (x.handle.log.home ++ makes line call))) v
passed_sound x v line (UAlloc name len off) here sound may whole = ualloc_sound x v line name len off sound may whole
passed_sound x v line (DqBuf t) here sound may whole =
    plain_sound x v line (DqBuf t) (row_from x.handle.log line (DqBuf t)).reply sound may refl (λ s. none_either (is_refusal (row_from x.handle.log line (DqBuf t)).reply))
    (λ u leads. dqbuf_alike (driver_state x) u line t (row_from x.handle.log line (DqBuf t)).reply leads) whole
passed_sound x v line DqEvent here sound may whole =
    plain_sound x v line DqEvent (row_from x.handle.log line DqEvent).reply sound may refl (λ s. none_either (is_refusal (row_from x.handle.log line DqEvent).reply))
    (λ u leads. dqevent_alike (driver_state x) u line (row_from x.handle.log line DqEvent).reply leads) whole
passed_sound x v line call here sound may whole = absurd (false≢true here)

answered_sound : (o : Option Errno) (x : Slice) (v : Inner) (line : ℕ) (call : Call) → first_refusal (row_from x.handle.log line call).refusals ≡ o → way_from x.handle call ≡ AnsweredHere → IsSoundSlice x v → MayStart x →
    IsWholeSlice (with_log x (answered_by_row o (with_line x.handle.log) line call)) → GoesOnSoundly (with_log x (answered_by_row o (with_line x.handle.log) line call)) v
answered_sound (Some errno) x v line call refuses here sound may whole = refused_sound x v line call errno sound may whole
answered_sound None x v line call passes here sound may whole =
    passed_sound x v line call (here_kinds (id_of x.handle.session) (driver_state x) line call here passes) sound may whole

here_sound : (x : Slice) (v : Inner) (line : ℕ) (call : Call) (log : LogState) → way_from x.handle call ≡ AnsweredHere → IsSoundSlice x v → MayStart x → AnswersHere (with_line x.handle.log) line call log →
    IsWholeSlice (with_log x log) → GoesOnSoundly (with_log x log) v
here_sound x v line call log here sound may (inl is) whole =
    subst (λ z. GoesOnSoundly (with_log x z) v) (sym is)
    (answered_sound (first_refusal (row_from x.handle.log line call).refusals) x v line call refl here sound may (subst (λ z. IsWholeSlice (with_log x z)) is whole))
here_sound x v line call log here sound may (inr lacks) whole =
    subst (λ z. GoesOnSoundly (with_log x z) v) (sym lacks.new_is) (refused_sound x v line call Enomem sound may (subst (λ z. IsWholeSlice (with_log x z)) lacks.new_is whole))

by_way : (w : Way) (x x' : Slice) (v : Inner) (line : ℕ) (call : Call) → way_from x.handle call ≡ w → IsSoundSlice x v → MayStart x → AreWords call → IsFirst x.handle call → StartsBy w line call x x' → IsWholeSlice x' →
    GoesOnSoundly x' v
by_way (Crosses c) x x' v line call is sound may words first (along, handle, goes, after) whole =
    subst (λ z. GoesOnSoundly z v) (sym after) (crosses_sound x v line call c along handle sound may words first is goes (subst IsWholeSlice after whole))
by_way AnsweredHere x x' v line call is sound may words first (handle, answers, after) whole =
    let same : x' ≡ with_log x answers.log = after ∙ ap (λ h. record x { handle = h }) answers.after in
    subst (λ z. GoesOnSoundly z v) (sym same) (here_sound x v line call answers.log is sound may answers.answers (subst IsWholeSlice same whole))
by_way Waits x x' v line call is sound may words first after whole = subst (λ z. GoesOnSoundly z v) (sym after) (waits_sound x v line call sound may (subst IsWholeSlice after whole))
by_way TouchesMemory x x' v line call is sound may words first does whole = absurd does

pub issue_keeps : (x x' : Slice) (v : Inner) → IsSoundSlice x v → Starts x x' → IsWholeSlice x' → GoesOnSoundly x' v
issue_keeps x x' v sound (line, call, may, words, first, starts) whole = by_way (way_from x.handle call) x x' v line call refl sound may words first starts whole
