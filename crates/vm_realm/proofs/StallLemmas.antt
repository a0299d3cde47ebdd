-- Where a line isn't answered some step may come next, and where it was begun one that begins no other.
use Rattle.std.proofs.Common.{◌≡◌, ◌⊎◌, ℕ, zero, suc, ◌+◌, ◌<◌, ◌≤◌, Bool, true, false, not, List, [], ◌∷◌, ◌++◌, Option, Some, None, is_some, length, get_or, map, refl, sym, ap, ◌∙◌, subst, arith, inl, inr, eqb, if◌then◌else◌}
use Rattle.std.specs.Prelude.{◌&&◌, nat_lt, slice_get}
use Rattle.std.specs.List.{All, Contains, filter, find, list_any}
use Rattle.std.specs.Option.{option_map, option_and_then, option_to_list}
use Rattle.std.proofs.lemmas.Bool.{false≢true, true≢false, cases_Bool, cases_lt, cond_both, and_from, or_left, or_right, lt-ltb, eqb-false}
use Rattle.std.proofs.lemmas.List.{length-map, nil_from_length}
use Rattle.std.proofs.lemmas.List.Elements.{All-nil, All-cons}
use Rattle.std.proofs.lemmas.Option.{none-some, slice_get-get_or, option_and_then_some}
use Rattle.v4l_const.specs.declared.errno.Errno.{Errno}
use Rattle.v4l_const.specs.declared.errno.Errno.TheVariants.{Einval, Eagain, Edeadlk}
use Rattle.v4l_rules.specs.Refusals.{first_refusal, no_type}
use Rattle.vm_mem.specs.Lists.{occurrences}
use Rattle.vm_job.specs.declared.job_out.JobOut.{JobOut}
use Rattle.vm_local.specs.declared.call.Call.{Call}
use Rattle.vm_local.specs.declared.call.Call.TheVariants.{OpenHandle, CloseHandle, QueryCap, EnumFmt, GFmt, TryFmt, SFmt, EnumInput, GInput, SInput, ReqBufs, QueryBuf, UAlloc, QBuf, StreamOn, StreamOff, DqBuf, Mmap, Munmap, Peek, Hash, Poke, Fill, Subscribe, Unsubscribe, DqEvent}
use Rattle.vm_local.specs.State.{LocalState, queue_of}
use Rattle.vm_local.specs.Queue.{is_empty, is_owed, can_finish}
use Rattle.vm_local.specs.Calls.{dqbuf_row, not_open as closed_by}
use Rattle.vm_log.specs.LegalLog.{state_of}
use Rattle.vm_script.specs.declared.line.LineKind.{LineKind}
use Rattle.vm_script.specs.declared.line.LineKind.TheVariants.{OnHandle, Raw}
use Rattle.vm_wire.specs.Message.{Posting, Returning}
use Rattle.vm_wire.specs.declared.delivery.Delivery.{Delivery}
use Rattle.vm_exchange.specs.Exchange.{way_of, from_open, unless_by, once_answered}
use Rattle.vm_exchange.specs.declared.crossing.Crossing.{Crossing as CrossingOf}
use Rattle.vm_exchange.specs.declared.way.Way.{Way}
use Rattle.vm_exchange.specs.declared.way.Way.TheVariants.{Crosses, AnsweredHere, Waits, TouchesMemory}
use Rattle.vm_handle.specs.Handle.{FitsStage, id_of}
use Rattle.vm_handle.specs.declared.stage.Stage.TheVariants.{Waiting}
use Rattle.vm_session.specs.State.{SessionState, is_quiet}
use Rattle.vm_session.specs.Streaming.{can_begin as session_can_begin}
use Rattle.vm_session.specs.declared.running.Running.{Running}
use Rattle.vm_stands.specs.Slice.{LeadAhead}
use Rattle.vm_stands.specs.Flight.{LeadAll}
use Rattle.vm_stands.proofs.BegunLemmas.{begins_alike}
use Rattle.vm_device.specs.Device.{DeviceState, session_of, is_ready, is_at_rest}
use Rattle.vm_device.specs.Keeps.{specs_for, specs_in, unsent_in}
use Rattle.vm_host.specs.Part.{Call as WaitingCall}
use Rattle.vm_guest.specs.Asking.{asked_by, asked_in, is_leased}
use Rattle.vm_guest.specs.Guest.{no_process, process_at}
use Rattle.vm_guest.specs.Orderly.{IsOrderly, MayBeRaw, IsOutAt, lines_at}
use Rattle.vm_guest.specs.Process.{ProcessState, begun, is_at_rest as rests, is_crossing, is_lent, is_done, current, current_call, some_if, kept_by, next, lease_on, lease_out, handle_at, no_handle}
use Rattle.vm_guest.specs.declared.asked.Asked.{Asked as AskedCall}
use Rattle.vm_guest.specs.declared.asked.Statement.{Statement}
use Rattle.vm_guest.specs.declared.status.Status.{Status}
use Rattle.vm_guest.specs.declared.status.Status.TheVariants.{AtRest, Crossing, Blocked, Lent}
use Rattle.vm_realm.specs.declared.step.Step.{Step}
use Rattle.vm_realm.specs.declared.step.Step.TheVariants.{Issue, Execute, Resume, Begin, Finish, Announce, Collect, Pump, Lease, GiveBack}
use Rattle.vm_realm.specs.World.{WorldState, IsDone}
use Rattle.vm_realm.specs.Enabled.{is_some_of, waits, is_enabled, enabled, begins_line}
use Rattle.vm_realm.specs.Inner.{Inner, driver_state, id_in}
use Rattle.vm_realm.specs.Slice.{Slice, session_in, events_for, out_at, slice_at, unsent_by, earlier_of}
use Rattle.vm_realm.specs.Slice.Out.{Nowhere}
use Rattle.vm_realm.specs.SliceSteps.{holds_back}
use Rattle.vm_realm.specs.Sound.{NothingExecuted, IsOut, IsSeated, IsSoundSlice, IsSoundBy, IsHandle, HoldsFew, id_at, inner_at, out_count, one_if}
use Rattle.vm_realm.specs.Laws.{IsBusy}
use Rattle.vm_realm.proofs.ListLemmas.{in_front, finds_in, some_mapped}
use Rattle.vm_realm.proofs.SumLemmas.{place_within}
use Rattle.vm_realm.proofs.PartLemmas.{kept_few}
use Rattle.vm_realm.proofs.EnabledLemmas.{lists_enabled}
use Rattle.vm_realm.proofs.LendLemmas.{nowhere, call_there}

-- some step may come next that begins no line
abbrev pub Goes : WorldState → Type 0
Goes w = (s : Step) × (is_enabled w s ≡ true) × (begins_line s ≡ false)

some_there : {A : Type 0} (xs : List A) → 1 ≤ length xs → is_some_of xs ≡ true
some_there [] few = absurd (omega (arith, few))
some_there (x ∷ xs) few = refl

-- ---- the link

events_go : (w : WorldState) → 1 ≤ length w.events → Goes w
events_go w some = (Pump, some_there w.events some, refl)

unsent_goes : (w : WorldState) (rows : List (List Inner)) → IsSoundBy w rows → 1 ≤ length w.host.device.unsent → Goes w
unsent_goes w rows sound some = elim (cases_lt 0 w.chains) [
  | inl free ↦ (Announce, and_from (is_some_of w.host.device.unsent) (nat_lt 0 w.chains) (some_there w.host.device.unsent some) (lt-ltb 0 w.chains free), refl)
  | inr none ↦ events_go w (let all : w.chains + length w.events ≡ 16 = sound.quiet.chains in omega (arith, all, none))
]

-- ---- a session that is busy

jobs_go : (w : WorldState) (jobs : List JobOut) → w.host.device.jobs ≡ jobs → 1 ≤ length jobs → Goes w
jobs_go w [] is few = absurd (omega (arith, few))
jobs_go w (e ∷ es) is few =
    let there : Contains (map (λ (x : JobOut). x.spec.number) w.host.device.jobs) e.spec.number =
    subst (λ xs. Contains (map (λ (x : JobOut). x.spec.number) xs) e.spec.number) (sym is) (in_front e.spec.number (map (λ (x : JobOut). x.spec.number) es)) in (
      Finish e.spec.number,
      some_mapped (λ (x : JobOut). x.spec) (find (λ (x : JobOut). eqb x.spec.number e.spec.number) w.host.device.jobs) ∙ finds_in (λ (x : JobOut). x.spec.number) e.spec.number w.host.device.jobs there,
      refl,
    )

occurs_some : (n : ℕ) (xs : List ℕ) → 1 ≤ occurrences n xs → 1 ≤ length xs
occurs_some n [] some = absurd (omega (arith, some))
occurs_some n (x ∷ xs) some = omega arith

running_goes : (w : WorldState) (rows : List (List Inner)) (k : ℕ) (s : SessionState) (r : Running) → IsSoundBy w rows → session_of w.host.device k ≡ Some s → s.running ≡ Some r → Goes w
running_goes w rows k s r sound is runs =
    let specs : specs_for k w.host.device.jobs ≡ r.spec ∷ [] = sound.device.sound.jobs k ∙ (ap specs_in is ∙ ap (λ o. option_to_list (option_map (λ (x : Running). x.spec) o)) runs) in
    let one : length (filter (λ (e : JobOut). eqb e.spec.session k) w.host.device.jobs) ≡ 1 =
    sym (length-map (filter (λ (e : JobOut). eqb e.spec.session k) w.host.device.jobs) (λ (e : JobOut). e.spec)) ∙ ap length specs in
    jobs_go w w.host.device.jobs refl (omega (arith, one, kept_few (λ (e : JobOut). eqb e.spec.session k) w.host.device.jobs))

sending_goes : (w : WorldState) (rows : List (List Inner)) (k : ℕ) (s : SessionState) → IsSoundBy w rows → session_of w.host.device k ≡ Some s → 1 ≤ length s.unsent → Goes w
sending_goes w rows k s sound is some =
    let all : occurrences k w.host.device.unsent ≡ length s.unsent = sound.device.sound.events k ∙ ap unsent_in is in
    unsent_goes w rows sound (occurs_some k w.host.device.unsent (omega (arith, all, some)))

-- a session sends, or a job of it runs, or it is quiet
session_by : (w : WorldState) (rows : List (List Inner)) (k : ℕ) (s : SessionState) (o : Option Running) → IsSoundBy w rows → session_of w.host.device k ≡ Some s → s.running ≡ o →
    Goes w ⊎ ((o ≡ None) × (length s.unsent ≡ 0))
session_by w rows k s (Some r) sound is runs = inl (running_goes w rows k s r sound is runs)
session_by w rows k s None sound is runs = elim (cases_lt 0 (length s.unsent)) [
  | inl some ↦ inl (sending_goes w rows k s sound is (omega (arith, some)))
  | inr none ↦ inr (refl, omega (arith, none))
]

quiet_is : (s : SessionState) → s.running ≡ None → length s.unsent ≡ 0 → is_quiet s ≡ true
quiet_is s free none =
    and_from (not (is_some s.running)) (not (nat_lt 0 (length s.unsent))) (ap (λ o. not (is_some o)) free) (ap (λ n. not (nat_lt 0 n)) none)

-- a call that waits goes on, or its session is busy
calls_go : (w : WorldState) (rows : List (List Inner)) (cs : List WaitingCall) → IsSoundBy w rows → w.host.calls ≡ cs → 1 ≤ length cs → Goes w
calls_go w rows [] sound is few = absurd (omega (arith, few))
calls_go w rows (c ∷ cs) sound is few = by_session (session_of w.host.device c.session) refl
  where
    waiting : waits w.host c.session ≡ true
    waiting = finds_in (λ (x : WaitingCall). x.session) c.session w.host.calls
        (subst (λ xs. Contains (map (λ (x : WaitingCall). x.session) xs) c.session) (sym is) (in_front c.session (map (λ (x : WaitingCall). x.session) cs)))

    resumes : is_at_rest (session_of w.host.device c.session) ≡ true → Goes w
    resumes rest = (Resume c.session, and_from (waits w.host c.session) (is_at_rest (session_of w.host.device c.session)) waiting rest, refl)

    by_session : (o : Option SessionState) → session_of w.host.device c.session ≡ o → Goes w
    by_session None there = resumes (ap is_at_rest there)
    by_session (Some s) there = elim (session_by w rows c.session s s.running sound there refl) [
      | inl goes ↦ goes
      | inr quiet ↦ resumes (ap is_at_rest there ∙ quiet_is s quiet.0 quiet.1)
    ]

-- ---- a line that crosses, or whose lease is out

crossing_goes : (w : WorldState) (rows : List (List Inner)) (n : ℕ) → IsSoundBy w rows → (process_at w.guest n).status ≡ Crossing → Goes w
crossing_goes w rows n sound status =
    let one : out_count w n ≡ 1 = sound.quiet.one n ∙ ap (λ s. one_if (is_crossing s)) status in
    let asked = kept_few (λ (m : Posting). eqb m.request.who n) w.requests in
    let waiting = kept_few (λ (c : WaitingCall). eqb c.posting.request.who n) w.host.calls in
    let told = kept_few (λ (r : Returning). eqb r.reply.who n) w.replies in
    elim (cases_lt 0 (length w.requests)) [
      | inl some ↦ (Execute, some_there w.requests (omega (arith, some)), refl)
      | inr none ↦ elim (cases_lt 0 (length w.replies)) [
        | inl some ↦ (Collect, some_there w.replies (omega (arith, some)), refl)
        | inr less ↦ calls_go w rows w.host.calls sound refl (omega (arith, one, none, less, asked, waiting, told))
      ]
    ]

lent_goes : (w : WorldState) (rows : List (List Inner)) (n : ℕ) → IsSoundBy w rows → n < length w.guest.processes → (process_at w.guest n).status ≡ Lent → Goes w
lent_goes w rows n sound within status = by_call (current_call (process_at w.guest n)) refl
  where
    by_call : (o : Option AskedCall) → current_call (process_at w.guest n) ≡ o → Goes w
    by_call None is = absurd (subst (λ s. MayBeRaw s None) status (subst (λ o. MayBeRaw (process_at w.guest n).status o) is (sound.lines.orderly n within).raw))
    by_call (Some a) is = option_and_then_some asked_by (current (process_at w.guest n)) a is (λ s now asked.
        let there : a.handle < length (process_at w.guest n).handles = call_there w n s a sound.lines within now asked in
        let out : IsOutAt Lent (Some a) a.handle (handle_at (process_at w.guest n) a.handle) =
        subst (λ t. IsOutAt t (Some a) a.handle (handle_at (process_at w.guest n) a.handle)) status
        (subst (λ o. IsOutAt (process_at w.guest n).status o a.handle (handle_at (process_at w.guest n) a.handle)) is ((sound.lines.orderly n within).out a.handle there)) in
        let lease = out.0 refl in
        let lends : lease_out (process_at w.guest n) ≡ Some lease.0 =
        ap (λ (t : Status). some_if (is_lent t) (lease_on (process_at w.guest n) (current_call (process_at w.guest n)))) status
        ∙ (ap (λ o. lease_on (process_at w.guest n) o) is ∙ lease.1) in
        (GiveBack n, ap is_some lends, refl))

-- ---- a dqbuf that waits

refused_first : {A : Type 0} (b : Bool) (e : A) (o : Option A) → (if b then Some e else o) ≡ None → (b ≡ false) × (o ≡ None)
refused_first true e o none = absurd (none-some e (sym none))
refused_first false e o none = (refl, none)

-- what is dead in the row of a dqbuf: nothing done, nothing owed, and no frame that can be made
not_dead : (blocking empty owed possible : Bool) → empty ≡ true → (not blocking && empty) ≡ false → (blocking && empty && not owed && not possible) ≡ false → (owed ≡ true) ⊎ (possible ≡ true)
not_dead blocking false owed possible none again dead = absurd (false≢true none)
not_dead false true owed possible none again dead = absurd (true≢false again)
not_dead true true true possible none again dead = inl refl
not_dead true true false true none again dead = inr refl
not_dead true true false false none again dead = absurd (true≢false dead)

answered_waits : AnsweredHere ≡ Waits → ⊥
answered_waits same = cc

touches_waits : TouchesMemory ≡ Waits → ⊥
touches_waits same = cc

not_open : (s : LocalState) (way : Way) → (way ≡ Waits → ⊥) → from_open s way ≡ Waits → ⊥
not_open s way other is =
    let P : Way → Type 0 = λ w. w ≡ Waits → ⊥ in
    cond_both s.opened way AnsweredHere P (λ t. other) (λ t. answered_waits) is

crosses_waits : (c : CrossingOf) → Crosses c ≡ Waits → ⊥
crosses_waits c same = cc

unless_crosses : (o : Option Errno) (c : CrossingOf) → unless_by o (Crosses c) ≡ Waits → ⊥
unless_crosses None c same = cc
unless_crosses (Some e) c same = cc

-- what holds where a call waits
record MayCome (s : LocalState) : Type 0 where
  queue : ℕ
  opened : s.opened ≡ true
  comes : (is_owed s queue ≡ true) ⊎ (can_finish s ≡ true)

once_is : (b : Bool) → (if b then Waits else AnsweredHere) ≡ Waits → b ≡ true
once_is true same = refl
once_is false same = absurd (answered_waits same)

unless_is : (o : Option Errno) (way : Way) → unless_by o way ≡ Waits → (o ≡ None) × (way ≡ Waits)
unless_is None way same = (refl, same)
unless_is (Some e) way same = absurd (answered_waits same)

negated : (b : Bool) → not b ≡ false → b ≡ true
negated true is = refl
negated false is = absurd (true≢false is)

five_none : (a b c d e : Bool × Errno) → first_refusal (a ∷ (b ∷ (c ∷ (d ∷ (e ∷ []))))) ≡ None → (a.0 ≡ false) × (b.0 ≡ false) × (c.0 ≡ false) × (d.0 ≡ false) × (e.0 ≡ false)
five_none a b c d e none =
    let one : _ = refused_first a.0 a.1 (first_refusal (b ∷ (c ∷ (d ∷ (e ∷ []))))) none in
    let two : _ = refused_first b.0 b.1 (first_refusal (c ∷ (d ∷ (e ∷ [])))) one.1 in
    let three : _ = refused_first c.0 c.1 (first_refusal (d ∷ (e ∷ []))) two.1 in
    let four : _ = refused_first d.0 d.1 (first_refusal (e ∷ [])) three.1 in
    let five : _ = refused_first e.0 e.1 (first_refusal []) four.1 in
    (one.0, two.0, three.0, four.0, five.0)

dqbuf_comes : (s : LocalState) (t : ℕ) → first_refusal (dqbuf_row s t).refusals ≡ None → (dqbuf_row s t).waits ≡ true → MayCome s
unfolding dqbuf_row
dqbuf_comes s t none waits =
    let empty : Bool = is_empty (queue_of s t).done in
    let dead : Bool = s.blocking && empty && not (is_owed s t) && not (can_finish s) in
    let all : _ = five_none (closed_by s) (no_type s.model t) (not (queue_of s t).streaming, Einval) (not s.blocking && empty, Eagain) (dead, Edeadlk) none in
    record {
      queue = t;
      opened = negated s.opened all.0;
      comes = not_dead s.blocking empty (is_owed s t) (can_finish s) waits all.3 all.4;
    }

waits_come : (id : ℕ) (s : LocalState) (call : Call) → way_of id s call ≡ Waits → MayCome s
waits_come id s (DqBuf t) is =
    let by : _ = unless_is (first_refusal (dqbuf_row s t).refusals) (once_answered s (DqBuf t)) is in
    dqbuf_comes s t by.0 (once_is (dqbuf_row s t).waits by.1)
waits_come id s (OpenHandle nonblock) is = absurd (crosses_waits _ is)
waits_come id s (UAlloc u len off) is = absurd (answered_waits is)
waits_come id s DqEvent is = absurd (answered_waits is)
waits_come id s (QBuf t i user used ts) is = absurd (unless_crosses _ _ is)
waits_come id s (Mmap m t i ro) is = absurd (unless_crosses _ _ is)
waits_come id s (Munmap m) is = absurd (unless_crosses _ _ is)
waits_come id s (Peek m off len) is = absurd (touches_waits is)
waits_come id s (Hash m) is = absurd (touches_waits is)
waits_come id s (Poke m off bytes) is = absurd (touches_waits is)
waits_come id s (Fill m seed) is = absurd (touches_waits is)
waits_come id s CloseHandle is = absurd (not_open s _ (crosses_waits _) is)
waits_come id s QueryCap is = absurd (not_open s _ (crosses_waits _) is)
waits_come id s (EnumFmt t i) is = absurd (not_open s _ (crosses_waits _) is)
waits_come id s (GFmt t) is = absurd (not_open s _ (crosses_waits _) is)
waits_come id s (TryFmt t f w h) is = absurd (not_open s _ (crosses_waits _) is)
waits_come id s (SFmt t f w h) is = absurd (not_open s _ (crosses_waits _) is)
waits_come id s (EnumInput i) is = absurd (not_open s _ (crosses_waits _) is)
waits_come id s GInput is = absurd (not_open s _ (crosses_waits _) is)
waits_come id s (SInput i) is = absurd (not_open s _ (crosses_waits _) is)
waits_come id s (ReqBufs t m n) is = absurd (not_open s _ (crosses_waits _) is)
waits_come id s (QueryBuf t i) is = absurd (not_open s _ (crosses_waits _) is)
waits_come id s (StreamOn t) is = absurd (not_open s _ (crosses_waits _) is)
waits_come id s (StreamOff t) is = absurd (not_open s _ (crosses_waits _) is)
waits_come id s (Subscribe e) is = absurd (not_open s _ (crosses_waits _) is)
waits_come id s (Unsubscribe e) is = absurd (not_open s _ (crosses_waits _) is)

-- the handle waits: no call of it is out, nothing is held back for it, and a buffer may come
record WaitsFor (w : WorldState) (n h : ℕ) (v : Inner) : Type 0 where
  executed : v.executed ≡ None
  held : (slice_at w n h).held ≡ []
  comes : MayCome (driver_state (slice_at w n h))

possible : (s : LocalState) (comes : MayCome s) → s.owed ≡ [] → can_finish s ≡ true
possible s comes none = elim comes.comes [
  | inl owed ↦ absurd (false≢true (sym (ap (λ os. list_any (λ o. eqb o.queue comes.queue) os) none) ∙ owed))
  | inr can ↦ can
]

session_id : (d : DeviceState) (id : Option ℕ) (s : SessionState) → session_in d id ≡ Some s → (k : ℕ) × (session_of d k ≡ Some s)
session_id d None s is = absurd (none-some s is)
session_id d (Some k) s is = (k, is)

begin_goes : (w : WorldState) (k : ℕ) (s : SessionState) → session_of w.host.device k ≡ Some s → session_can_begin s ≡ true → is_quiet s ≡ true → Goes w
begin_goes w k s is can quiet = elim (cases_Bool (waits w.host k)) [
  | inl waits_here ↦ (Resume k, and_from (waits w.host k) (is_at_rest (session_of w.host.device k)) waits_here (ap is_at_rest is ∙ quiet), refl)
  | inr free ↦ (Begin k, and_from (not (waits w.host k)) (is_ready (session_of w.host.device k)) (ap not free) (ap is_ready is ∙ can), refl)
]

for_shorter : (id : Option ℕ) (ds : List Delivery) → length (events_for id ds) ≤ length ds
for_shorter None ds = omega arith
for_shorter (Some i) ds = kept_few (λ (d : Delivery). eqb d.session i) ds

-- with nothing under way the session makes a frame
quiet_goes : (w : WorldState) (rows : List (List Inner)) (n h : ℕ) (v : Inner) (o : Option SessionState) → IsSoundBy w rows → WaitsFor w n h v → (slice_at w n h).session ≡ o → IsSeated o (slice_at w n h) v →
    (slice_at w n h).events ≡ [] → Goes w
quiet_goes w rows n h v None sound waiting is shut none =
    let x : Slice = slice_at w n h in
    let both : x.held ++ x.events ≡ [] = λ j. waiting.held j ++ none j in
    let earlier : earlier_of x ≡ [] = ap (map unsent_by) both in
    let leads : LeadAll (id_in x) (driver_state x) [] v.ahead =
    subst (λ es. LeadAll (id_in x) (driver_state x) es v.ahead) earlier (subst (λ e. LeadAhead (id_in x) (driver_state x) e (earlier_of x) v.ahead) waiting.executed shut.leads) in
    absurd (false≢true (sym shut.shut ∙ (ap (λ (s : LocalState). s.opened) leads ∙ waiting.comes.opened)))
quiet_goes w rows n h v (Some s) sound waiting is seated none =
    let x : Slice = slice_at w n h in
    let at : _ = session_id w.host.device (id_at w n h) s is in
    elim (session_by w rows at.0 s s.running sound at.1 refl) [
      | inl goes ↦ goes
      | inr quiet ↦ makes at quiet.0 quiet.1
    ]
  where
    makes : (at : (k : ℕ) × (session_of w.host.device k ≡ Some s)) → s.running ≡ None → length s.unsent ≡ 0 → Goes w
    makes at free unsent =
        let x : Slice = slice_at w n h in
        let sent : s.unsent ≡ [] = nil_from_length s.unsent unsent in
        let all : earlier_of x ++ s.unsent ≡ [] = λ j. map unsent_by (waiting.held j ++ none j) ++ sent j in
        let leads : LeadAll s.id (driver_state x) [] v.ahead =
        subst (λ es. LeadAll s.id (driver_state x) es v.ahead) all (subst (λ e. LeadAhead s.id (driver_state x) e (earlier_of x ++ s.unsent) v.ahead) waiting.executed seated.leads) in
        let owed : (driver_state x).owed ≡ [] = sym (ap (λ (t : LocalState). t.owed) leads) ∙ seated.owed in
        let can : can_finish v.ahead ≡ true = ap can_finish leads ∙ possible (driver_state x) waiting.comes owed in
        begin_goes w at.0 s at.1 (begins_alike v.frames s v.ahead seated.stands seated.sound free ∙ can) (quiet_is s free unsent)

waiting_goes : (w : WorldState) (rows : List (List Inner)) (n h : ℕ) (v : Inner) → IsSoundBy w rows → WaitsFor w n h v → IsSeated (slice_at w n h).session (slice_at w n h) v → Goes w
waiting_goes w rows n h v sound waiting seated = elim (cases_lt 0 (length (slice_at w n h).events)) [
  | inl some ↦ events_go w (omega (arith, some, for_shorter (id_at w n h) w.events))
  | inr none ↦ quiet_goes w rows n h v (slice_at w n h).session sound waiting refl seated (nil_from_length (slice_at w n h).events (omega (arith, none)))
]

blocked_goes : (w : WorldState) (rows : List (List Inner)) (n : ℕ) → IsSoundBy w rows → n < length w.guest.processes → (process_at w.guest n).status ≡ Blocked → Goes w
blocked_goes w rows n sound within status = by_call (current_call (process_at w.guest n)) refl
  where
    handle_there : (h : ℕ) → h < length (process_at w.guest n).handles → IsHandle w n h
    handle_there h short =
        ap (λ o. is_some (option_and_then (λ (p : ProcessState). slice_get p.handles h) o)) (slice_get-get_or w.guest.processes n no_process within)
        ∙ ap is_some (slice_get-get_or (process_at w.guest n).handles h no_handle short)

    waits_at : (a : AskedCall) → (handle_at (process_at w.guest n) a.handle).stage ≡ Waiting a.line a.call → IsHandle w n a.handle → Goes w
    waits_at a stage there =
        let h : ℕ = a.handle in
        let x : Slice = slice_at w n h in
        let v : Inner = inner_at w rows n h in
        let slice : IsSoundSlice x v = sound.slices n h there in
        let out : out_at w n h ≡ Nowhere = nowhere w n h (process_at w.guest n) (ap is_crossing status) in
        let nothing : NothingExecuted x v = (subst (λ o. IsOut o x v) out slice.out).0 in
        let fits : FitsStage (id_of x.handle.session) (state_of x.handle.log) x.handle.log.away x.handle.log.unanswered (Waiting a.line a.call) =
        subst (FitsStage (id_of x.handle.session) (state_of x.handle.log) x.handle.log.away x.handle.log.unanswered) stage slice.handle.fits in
        let held : x.held ≡ [] = subst (λ b. HoldsFew b x.held) (ap holds_back stage) slice.held in
        waiting_goes w rows n h v sound
        (record { executed = nothing.executed; held = held; comes = waits_come (id_of x.handle.session) (state_of x.handle.log) a.call fits.2 }) slice.seated

    by_call : (o : Option AskedCall) → current_call (process_at w.guest n) ≡ o → Goes w
    by_call None is = absurd (subst (λ s. MayBeRaw s None) status (subst (λ o. MayBeRaw (process_at w.guest n).status o) is (sound.lines.orderly n within).raw))
    by_call (Some a) is = option_and_then_some asked_by (current (process_at w.guest n)) a is (λ s now asked.
        let there : a.handle < length (process_at w.guest n).handles = call_there w n s a sound.lines within now asked in
        let out : IsOutAt Blocked (Some a) a.handle (handle_at (process_at w.guest n) a.handle) =
        subst (λ t. IsOutAt t (Some a) a.handle (handle_at (process_at w.guest n) a.handle)) status
        (subst (λ o. IsOutAt (process_at w.guest n).status o a.handle (handle_at (process_at w.guest n) a.handle)) is ((sound.lines.orderly n within).out a.handle there)) in
        waits_at a (out.0 refl) (handle_there a.handle there))

-- ---- the laws

by_status : (w : WorldState) (rows : List (List Inner)) (n : ℕ) (s : Status) → IsSoundBy w rows → n < length w.guest.processes → (process_at w.guest n).status ≡ s → rests s ≡ false → Goes w
by_status w rows n AtRest sound within is busy = absurd (true≢false busy)
by_status w rows n Crossing sound within is busy = crossing_goes w rows n sound is
by_status w rows n Blocked sound within is busy = blocked_goes w rows n sound within is
by_status w rows n Lent sound within is busy = lent_goes w rows n sound within is

busy_status : (p : ProcessState) → p.answered < begun p → rests p.status ≡ false
busy_status p busy = elim (cases_Bool (rests p.status)) [
  | inl is ↦ absurd (let same : begun p ≡ p.answered = ap (λ b. if b then p.answered else p.answered + 1) is in omega (arith, busy, same))
  | inr is ↦ is
]

pub busy_goes : (w : WorldState) (rows : List (List Inner)) (n : ℕ) → IsSoundBy w rows → IsBusy (process_at w.guest n) → Goes w
busy_goes w rows n sound busy =
    let within : n < length w.guest.processes =
    place_within (λ (p : ProcessState). nat_lt p.answered (begun p)) w.guest.processes n no_process refl (lt-ltb (process_at w.guest n).answered (begun (process_at w.guest n)) busy) in
    by_status w rows n (process_at w.guest n).status sound within refl (busy_status (process_at w.guest n) busy)

any_in : {A : Type 0} (test : A → Bool) (xs : List A) (x : A) → Contains xs x → test x ≡ true → list_any test xs ≡ true
any_in test [] x there passes = absurd (omega (arith, there.1))
any_in test (y ∷ ys) x (zero, within, is) passes = or_left (test y) (list_any test ys) (ap test is ∙ passes)
any_in test (y ∷ ys) x (suc k, within, is) passes = or_right (test y) (list_any test ys) (any_in test ys x (k, omega (arith, within), is) passes)

pub no_stall_once_begun : (w : WorldState) (rows : List (List Inner)) (n : ℕ) → IsSoundBy w rows → IsBusy (process_at w.guest n) → list_any (λ s. not (begins_line s)) (enabled w) ≡ true
no_stall_once_begun w rows n sound busy =
    let goes : Goes w = busy_goes w rows n sound busy in
    any_in (λ s. not (begins_line s)) (enabled w) goes.0 (lists_enabled w goes.0 goes.1) (ap not goes.2)

some_listed : (w : WorldState) (s : Step) → is_enabled w s ≡ true → nat_lt 0 (length (enabled w)) ≡ true
some_listed w s may =
    let there : Contains (enabled w) s = lists_enabled w s may in
    lt-ltb 0 (length (enabled w)) (omega (arith, there.1))

-- a process at rest that isn't done begins its next line
rest_begins : (w : WorldState) (n : ℕ) (s : Statement) → next (process_at w.guest n) ≡ Some s → (t : Step) × (is_enabled w t ≡ true)
rest_begins w n s is = by_what s.what refl
  where
    issues : is_leased s.what ≡ false → (t : Step) × (is_enabled w t ≡ true)
    issues free = (Issue n, ap is_some (ap (kept_by (λ what. not (is_leased what))) is ∙ ap (λ b. if not b then Some s else None) free))

    leases : (h : ℕ) (call : Call) → s.what ≡ OnHandle h call → is_leased s.what ≡ true → (t : Step) × (is_enabled w t ≡ true)
    leases h call what leased =
        (Lease n, ap (λ o. is_some (option_and_then asked_by o)) (ap (kept_by is_leased) is ∙ ap (λ b. if b then Some s else None) leased) ∙ ap (λ k. is_some (asked_in s.line k)) what)

    by_what : (what : LineKind) → s.what ≡ what → (t : Step) × (is_enabled w t ≡ true)
    by_what (Raw chain) what = issues (ap is_leased what)
    by_what (OnHandle h call) what = elim (cases_Bool (is_leased s.what)) [ inl leased ↦ leases h call what leased | inr free ↦ issues free ]

all_or_one : {A : Type 0} (test : A → Bool) (xs : List A) (d : A) → All (λ x. test x ≡ true) xs ⊎ ((k : ℕ) × (k < length xs) × (test (get_or xs k d) ≡ false))
all_or_one test [] d = inl (All-nil (λ x. test x ≡ true))
all_or_one test (x ∷ xs) d = elim (cases_Bool (test x)) [
  | inl passes ↦ add passes (all_or_one test xs d)
  | inr misses ↦ inr (0, omega arith, misses)
]
  where
    add : test x ≡ true → All (λ y. test y ≡ true) xs ⊎ ((k : ℕ) × (k < length xs) × (test (get_or xs k d) ≡ false)) →
        All (λ y. test y ≡ true) (x ∷ xs) ⊎ ((k : ℕ) × (k < length (x ∷ xs)) × (test (get_or (x ∷ xs) k d) ≡ false))
    add passes (inl all) = inl (All-cons (λ y. test y ≡ true) x xs passes all)
    add passes (inr one) = inr (suc one.0, omega (arith, one.1), one.2)

no_statement : Statement
no_statement = record { line = 0; what = OnHandle 0 DqEvent }

undone_steps : (w : WorldState) (rows : List (List Inner)) (n : ℕ) → IsSoundBy w rows → n < length w.guest.processes → is_done (process_at w.guest n) ≡ false → (t : Step) × (is_enabled w t ≡ true)
undone_steps w rows n sound within undone = by_rest (rests (process_at w.guest n).status) refl
  where
    by_rest : (b : Bool) → rests (process_at w.guest n).status ≡ b → (t : Step) × (is_enabled w t ≡ true)
    by_rest false busy = let goes : Goes w = by_status w rows n (process_at w.guest n).status sound within refl busy in (goes.0, goes.1)
    by_rest true rest =
        let p : ProcessState = process_at w.guest n in
        let orderly : IsOrderly w.script.model (lines_at w.script n) p = sound.lines.orderly n within in
        let open_line : eqb p.answered (length p.statements) ≡ false = sym (ap (λ b. b && eqb p.answered (length p.statements)) rest) ∙ undone in
        let came : begun p ≡ p.answered = ap (λ b. if b then p.answered else p.answered + 1) rest in
        let all : length p.statements ≡ length (lines_at w.script n).lines = ap length orderly.statements ∙ length-map (lines_at w.script n).lines _ in
        let differs : ¬ (p.answered ≡ length p.statements) = eqb-false p.answered (length p.statements) open_line in
        let short : p.answered < length p.statements = elim (cases_lt p.answered (length p.statements)) [
          | inl less ↦ less
          | inr more ↦ absurd (differs (omega (arith, more, came, all, orderly.within)))
        ] in
        let s : Statement = get_or p.statements p.answered no_statement in
        rest_begins w n s (ap (λ b. some_if b (current p)) rest ∙ slice_get-get_or p.statements p.answered no_statement short)

pub no_stall : (w : WorldState) (rows : List (List Inner)) → IsSoundBy w rows → ¬ (IsDone w) → nat_lt 0 (length (enabled w)) ≡ true
no_stall w rows sound undone = elim (all_or_one is_done w.guest.processes no_process) [
  | inl all ↦ absurd (undone all)
  | inr one ↦ (let step : _ = undone_steps w rows one.0 sound one.1 one.2 in some_listed w step.0 step.1)
]
