-- The entries that a step adds to a log: no call of them makes frames but one whose reply is collected.
use Rattle.std.proofs.Common.{◌≡◌, ◌⊎◌, inl, inr, ℕ, Bool, true, false, not, List, [], ◌∷◌, ◌++◌, Option, Some, None, is_some, set, refl, sym, ap, ◌∙◌, subst, append_assoc, if◌then◌else◌}
use Rattle.std.specs.Option.{option_and_then}
use Rattle.std.proofs.lemmas.Bool.{false≢true, true≢false, cases_Bool}
use Rattle.std.proofs.lemmas.List.{append-nil}
use Rattle.std.proofs.lemmas.Option.{same_Some}
use Rattle.v4l_const.specs.declared.errno.Errno.{Errno}
use Rattle.v4l_const.specs.declared.errno.Errno.TheVariants.{Enomem, Ebadf}
use Rattle.v4l_const.specs.declared.model.Model.{Model}
use Rattle.v4l_const.specs.Model.{queues as types_of, source_queue}
use Rattle.v4l_rules.specs.Queues.{place_in}
use Rattle.v4l_rules.specs.Refusals.{first_refusal}
use Rattle.vm_frame.specs.declared.mem.Held.{Held}
use Rattle.vm_local.specs.declared.buffer.Buffer.{Buffer}
use Rattle.vm_local.specs.declared.call.Call.{Call}
use Rattle.vm_local.specs.declared.call.Call.TheVariants.{OpenHandle, CloseHandle, ReqBufs, UAlloc, QBuf, StreamOff, DqBuf, Poke, Fill}
use Rattle.vm_local.specs.declared.entry.Entry.{Entry}
use Rattle.vm_local.specs.declared.entry.Entry.TheVariants.{Called, Finish, Bad, Give}
use Rattle.vm_local.specs.declared.reply.Reply.{Reply}
use Rattle.vm_local.specs.declared.reply.Reply.TheVariants.{Refused}
use Rattle.vm_local.specs.State.{QueueState, LocalState, opening, queue_of, buffer_of}
use Rattle.vm_local.specs.Calls.{reqbufs_row, streamoff_row, qbuf_row, write_row, fill_row, ualloc_row, closed, opened_anew}
use Rattle.vm_local.specs.Live.{is_of_device}
use Rattle.vm_local.specs.Log.{row_for, called, after, replay, replay_from, IsLegal}
use Rattle.vm_local.specs.Queue.{brought, queued_buffer, with_queued, stopped, is_user_ptr}
use Rattle.vm_local.proofs.KeptLemmas.{refused_call}
use Rattle.vm_local.proofs.LogLemmas.{replay_from_append}
use Rattle.vm_commute.proofs.EventsLemmas.{by_first as by_one}
use Rattle.vm_home.specs.Moves.{is_refusal, touches_bytes}
use Rattle.vm_home.specs.Reached.{IsReached}
use Rattle.vm_home.proofs.FactLemmas.{Facts, facts_of, reached_after, closed_relates, off_relates, Queues, queues_number}
use Rattle.vm_home.proofs.MoveLemmas.{Went, went, opened_bare}
use Rattle.vm_home.proofs.OwnLemmas.{IsChanged, changed_at, kind_kept}
use Rattle.vm_home.proofs.PlaceLemmas.{kind_at, HasAt, device_at, device_from, device_less}
use Rattle.vm_home.proofs.StepLemmas.{steps_to}
use Rattle.vm_home.proofs.StillLemmas.{leaves_call, device_kept}
use Rattle.vm_log.specs.LegalLog.{LogState, state_of, with_entry}
use Rattle.vm_log.specs.Answers.{with_line, Sends, Leases}
use Rattle.vm_log.specs.declared.leased.Leased.{Leased}
use Rattle.vm_log.specs.declared.leased.Leased.TheVariants.{Out as LeaseOutOf, Answered, Idle}
use Rattle.vm_wire.specs.declared.delivery.Delivery.{Delivery}
use Rattle.vm_wire.specs.declared.event.EventMsg.{EventMsg}
use Rattle.vm_wire.specs.declared.event.EventMsg.TheVariants.{Dequeued, Happened}
use Rattle.vm_exchange.specs.Exchange.{from_open}
use Rattle.vm_exchange.specs.Messages.{made_by, is_first, is_marked, frame_step}
use Rattle.vm_exchange.specs.declared.crossing.Crossing.{Crossing}
use Rattle.vm_exchange.specs.declared.way.Way.{Way}
use Rattle.vm_exchange.specs.declared.way.Way.TheVariants.{Crosses, AnsweredHere, Waits, TouchesMemory}
use Rattle.vm_handle.specs.Answers.{row_from, answered_by, AnswersHere, answered_at, awoken, with_steps, with_given, delivered}
use Rattle.vm_handle.specs.Handle.{HandleState, way_from, is_dqbuf}
use Rattle.vm_handle.specs.declared.stage.Stage.{Stage}
use Rattle.vm_handle.specs.declared.stage.Stage.TheVariants.{AtRest, Underway, Waiting}
use Rattle.vm_realm.specs.SliceSteps.{all_delivered}
use Rattle.vm_realm.proofs.ShareLemmas.{log_state}

-- ---- entries that make no frame

abbrev pub asks_frames : Call → Bool
asks_frames (ReqBufs t k n) = true
asks_frames call = false

abbrev pub Frameless : Entry → Type 0
Frameless (Called line call reply) = (is_refusal reply ≡ true) ⊎ (asks_frames call ≡ false)
Frameless e = Unit {0}

abbrev pub AllFrameless : List Entry → Type 0
AllFrameless [] = Unit {0}
AllFrameless (e ∷ es) = Frameless e × AllFrameless es

queued_makes : (s : LocalState) (t i : ℕ) (user : Option (List ℕ)) (used ts m : ℕ) → IsReached s → first_refusal (qbuf_row s t i user used ts).refusals ≡ None →
    is_of_device (with_queued s t i (brought s user) used ts) m ≡ true → is_of_device s m ≡ true
unfolding queued_buffer
queued_makes s u i user used ts m reached pass device =
    let f : Facts s = facts_of s reached in
    let w : (n : ℕ) × Queues s u i user n = queues_number s u i user used ts f.sound f.owns pass in
    let p : ℕ = place_in (types_of s.model) u in
    let q : QueueState = queue_of s u in
    let b : Buffer = queued_buffer s u (brought s user) used ts (buffer_of q i) in
    let v : QueueState = record q { buffers = set q.buffers i b; queued = q.queued ++ i ∷ [] } in
    let t : LocalState = with_queued s u i (brought s user) used ts in
    let x : _ = device_at t m device in
    let kind : is_user_ptr (kind_at s.queues x.0) ≡ false = ap is_user_ptr (sym (kind_kept s.queues p v refl x.0)) ∙ x.3 in
    let at : IsChanged s.queues t.queues p i b x.0 x.1 = changed_at s.queues p i b v w.1.inside refl x.0 x.1 in
    elim at as (λ _. is_of_device s m ≡ true) [
      | inr other ↦ device_from s x.0 x.1 m (ap (λ (c : Buffer). c.memory) (sym other.1) ∙ x.2) kind
      | inl here ↦
          let same : w.0 ≡ m = same_Some w.0 m (sym w.1.number ∙ (sym (ap (λ (c : Buffer). c.memory) here.2) ∙ x.2)) in
          let mine : is_user_ptr (kind_at s.queues p) ≡ false = subst (λ k. is_user_ptr (kind_at s.queues k) ≡ false) here.0 kind in
          device_from s p i m (subst (HasAt s.queues p i) same (w.1.device mine)) mine
    ]

frameless_call : (s t : LocalState) (line : ℕ) (call : Call) (reply : Reply) (m : ℕ) → IsReached s → is_refusal reply ≡ false → asks_frames call ≡ false → called s line call reply ≡ Some t → is_of_device t m ≡ true → is_of_device s m ≡ true
unfolding streamoff_row ualloc_row write_row fill_row qbuf_row
frameless_call s t line (OpenHandle nonblock) reply m reached answers plain leads device =
    let w : Went (row_for s line (OpenHandle nonblock) reply) reply t = went s line (OpenHandle nonblock) reply t answers leads in
    let now : is_of_device (opened_anew s nonblock) m ≡ true = subst (λ (x : LocalState). is_of_device x m ≡ true) w.next device in
    absurd (opened_bare s nonblock m (device_kept (opened_anew s nonblock) m refl now))
frameless_call s t line CloseHandle reply m reached answers plain leads device =
    let w : Went (row_for s line CloseHandle reply) reply t = went s line CloseHandle reply t answers leads in
    device_less s (closed s) (closed_relates s.queues) m (subst (λ (x : LocalState). is_of_device x m ≡ true) w.next device)
frameless_call s t line (StreamOff u) reply m reached answers plain leads device =
    let w : Went (row_for s line (StreamOff u) reply) reply t = went s line (StreamOff u) reply t answers leads in
    device_less s (stopped s u) (off_relates s u) m (subst (λ (x : LocalState). is_of_device x m ≡ true) w.next device)
frameless_call s t line (ReqBufs u k n) reply m reached answers plain leads device = absurd (true≢false plain)
frameless_call s t line (UAlloc name len off) reply m reached answers plain leads device =
    let w : Went (row_for s line (UAlloc name len off) reply) reply t = went s line (UAlloc name len off) reply t answers leads in
    subst (λ (x : LocalState). is_of_device x m ≡ true) w.next device
frameless_call s t line (Poke name off bytes) reply m reached answers plain leads device =
    let w : Went (row_for s line (Poke name off bytes) reply) reply t = went s line (Poke name off bytes) reply t answers leads in
    subst (λ (x : LocalState). is_of_device x m ≡ true) w.next device
frameless_call s t line (Fill name seed) reply m reached answers plain leads device =
    let w : Went (row_for s line (Fill name seed) reply) reply t = went s line (Fill name seed) reply t answers leads in
    subst (λ (x : LocalState). is_of_device x m ≡ true) w.next device
frameless_call s t line (QBuf u i user used ts) reply m reached answers plain leads device =
    let w : Went (row_for s line (QBuf u i user used ts) reply) reply t = went s line (QBuf u i user used ts) reply t answers leads in
    queued_makes s u i user used ts m reached w.pass (subst (λ (x : LocalState). is_of_device x m ≡ true) w.next device)
frameless_call s t line call reply m reached answers plain leads device = (leaves_call s t line call reply reached refl leads).device m device

pub refused_same : (s t : LocalState) (line : ℕ) (call : Call) (reply : Reply) → is_refusal reply ≡ true → called s line call reply ≡ Some t → t ≡ s
refused_same s t line call (Refused errno) refused leads = refused_call s line call errno t leads
refused_same s t line call reply refused leads = absurd (false≢true refused)

pub frameless_makes : (s t : LocalState) (e : Entry) (m : ℕ) → IsReached s → Frameless e → after s e ≡ Some t → is_of_device t m ≡ true → is_of_device s m ≡ true
frameless_makes s t Finish m reached plain leads device = device_less s t (steps_to s t Finish reached tt leads).less m device
frameless_makes s t Bad m reached plain leads device = device_less s t (steps_to s t Bad reached tt leads).less m device
frameless_makes s t Give m reached plain leads device = device_less s t (steps_to s t Give reached tt leads).less m device
frameless_makes s t (Called line call reply) m reached plain leads device = elim (cases_Bool (is_refusal reply)) as (λ _. is_of_device s m ≡ true) [
  | inl refused ↦ subst (λ (x : LocalState). is_of_device x m ≡ true) (refused_same s t line call reply refused leads) device
  | inr answers ↦ elim plain as (λ _. is_of_device s m ≡ true) [
    | inl refused ↦ absurd (true≢false (sym refused ∙ answers))
    | inr none ↦ frameless_call s t line call reply m reached answers none leads device
  ]
]

same_state : (s t : LocalState) → ◌≡◌ {A = Option LocalState} (Some s) (Some t) → t ≡ s
same_state s t same = cc

pub all_frameless : (es : List Entry) (s t : LocalState) (m : ℕ) → IsReached s → AllFrameless es → replay_from s es ≡ Some t → is_of_device t m ≡ true → is_of_device s m ≡ true
all_frameless [] s t m reached plain leads device = subst (λ (x : LocalState). is_of_device x m ≡ true) (same_state s t leads) device
all_frameless (e ∷ es) s t m reached plain leads device =
    let by : _ = by_one s t e es leads in
    frameless_makes s by.0 e m reached plain.0 by.1 (all_frameless es by.0 t m (reached_after s by.0 e reached by.1) plain.1 by.2 device)

-- ---- a log that is longer by such entries

abbrev pub Adds : LogState → LogState → Type 0
Adds l l' = (more : List Entry) × (l'.entries ≡ l.entries ++ more) × (l'.model ≡ l.model) × AllFrameless more

pub adds_none : (l : LogState) → Adds l l
adds_none l = ([], sym (append-nil l.entries), refl, tt)

all_both : (es fs : List Entry) → AllFrameless es → AllFrameless fs → AllFrameless (es ++ fs)
all_both [] fs first rest = rest
all_both (e ∷ es) fs first rest = (first.0, all_both es fs first.1 rest)

pub adds_then : (l m n : LogState) → Adds l m → Adds m n → Adds l n
adds_then l m n (first, is, model, plain) (rest, then_is, then_model, more) =
    (first ++ rest, then_is ∙ (ap (λ es. es ++ rest) is ∙ append_assoc l.entries first rest), then_model ∙ model, all_both first rest plain more)

pub adds_leads : (l l' : LogState) (more : List Entry) → IsLegal l.model l.entries → IsLegal l'.model l'.entries → l'.entries ≡ l.entries ++ more → l'.model ≡ l.model →
    replay_from (state_of l) more ≡ Some (state_of l')
adds_leads l l' more legal legal' entries model =
    let whole : replay l.model (l.entries ++ more) ≡ Some (state_of l') = (λ j. replay (sym model j) (sym entries j)) ∙ log_state l' legal' in
    ap (λ o. option_and_then (λ t. replay_from t more) o) (sym (log_state l legal)) ∙ (sym (replay_from_append (opening l.model) l.entries more) ∙ whole)

-- so it has no more frames
pub adds_makes : (l l' : LogState) (m : ℕ) → IsReached (state_of l) → IsLegal l.model l.entries → IsLegal l'.model l'.entries → Adds l l' → is_of_device (state_of l') m ≡ true → is_of_device (state_of l) m ≡ true
adds_makes l l' m reached legal legal' (more, entries, model, plain) device = all_frameless more (state_of l) (state_of l') m reached plain (adds_leads l l' more legal legal' entries model) device

-- ---- messages

steps_add : (l : LogState) (es : List Entry) → AllFrameless es → Adds l (with_steps l es)
steps_add l [] plain = adds_none l
steps_add l (e ∷ es) plain = adds_then l (with_entry l e l.home) (with_steps (with_entry l e l.home) es) (e ∷ [], refl, refl, (plain.0, tt)) (steps_add (with_entry l e l.home) es plain.1)

frame_plain : (b : Bool) → Frameless (if b then Bad else Finish)
frame_plain true = tt
frame_plain false = tt

made_plain : (m : Model) (msg : EventMsg) → AllFrameless (made_by m msg)
made_plain m (Happened session event) = (tt, tt)
made_plain m (Dequeued session b) = by_first (is_first (source_queue m) m b)
  where
    by_first : (first : Bool) → AllFrameless (if first then frame_step m b ∷ [] else [])
    by_first true = (frame_plain (is_marked m b), tt)
    by_first false = tt

given_adds : (l : LogState) (held : Option Held) → Adds l (with_given l held)
given_adds l None = (Give ∷ [], refl, refl, (tt, tt))
given_adds l (Some held) = (Give ∷ [], refl, refl, (tt, tt))

row_adds : (o : Option Errno) (l : LogState) (line : ℕ) (call : Call) → (asks_frames call ≡ true → is_some o ≡ true) → Adds l (answered_by o l line call)
row_adds (Some errno) l line call refuses = (Called line call (Refused errno) ∷ [], refl, refl, (inl refl, tt))
row_adds None l line call refuses = (Called line call (row_from l line call).reply ∷ [], refl, refl, (inr (elim (cases_Bool (asks_frames call)) as (λ _. asks_frames call ≡ false) [ inr not ↦ not | inl asks ↦ absurd (false≢true (refuses asks)) ]), tt))

dqbuf_asks : (call : Call) (o : Option Errno) → is_dqbuf call ≡ true → asks_frames call ≡ true → is_some o ≡ true
dqbuf_asks (DqBuf t) o is asks = absurd (false≢true asks)
dqbuf_asks call o is asks = absurd (false≢true is)

at_adds : (way : Way) (h : HandleState) (line : ℕ) (call : Call) → is_dqbuf call ≡ true → Adds h.log (answered_at way h line call).log
at_adds AnsweredHere h line call is = row_adds (first_refusal (row_from h.log line call).refusals) h.log line call (dqbuf_asks call (first_refusal (row_from h.log line call).refusals) is)
at_adds (Crosses c) h line call is = adds_none h.log
at_adds Waits h line call is = adds_none h.log
at_adds TouchesMemory h line call is = adds_none h.log

awoken_adds : (stage : Stage) (h : HandleState) → ((line : ℕ) (call : Call) → stage ≡ Waiting line call → is_dqbuf call ≡ true) → Adds h.log (awoken stage h).log
awoken_adds AtRest h waits = adds_none h.log
awoken_adds (Underway line call) h waits = adds_none h.log
awoken_adds (Waiting line call) h waits = at_adds (way_from h call) h line call (waits line call refl)

pub delivered_adds : (h : HandleState) (msg : EventMsg) (held : Option Held) → ((line : ℕ) (call : Call) → h.stage ≡ Waiting line call → is_dqbuf call ≡ true) → Adds h.log (delivered h msg held).log
delivered_adds h msg held waits =
    let stepped : LogState = with_steps h.log (made_by (state_of h.log).model msg) in
    let logged : HandleState = record h { log = with_given stepped held } in
    adds_then h.log stepped (awoken h.stage logged).log (steps_add h.log (made_by (state_of h.log).model msg) (made_plain (state_of h.log).model msg))
    (adds_then stepped logged.log (awoken h.stage logged).log (given_adds stepped held) (awoken_adds h.stage logged waits))

apart : (line : ℕ) (call : Call) → AtRest ≡ Waiting line call → ⊥
apart line call is = cc

resting_rests : (h : HandleState) (d : Delivery) → h.stage ≡ AtRest → (delivered h d.msg d.held).stage ≡ AtRest
resting_rests h d rests = ap (λ t. (awoken t (record h { log = with_given (with_steps h.log (made_by (state_of h.log).model d.msg)) d.held })).stage) rests ∙ rests

pub all_add : (h : HandleState) (ds : List Delivery) → h.stage ≡ AtRest → Adds h.log (all_delivered h ds).log
all_add h [] rests = adds_none h.log
all_add h (d ∷ ds) rests =
    adds_then h.log (delivered h d.msg d.held).log (all_delivered (delivered h d.msg d.held) ds).log (delivered_adds h d.msg d.held (λ line call is. absurd (apart line call (sym rests ∙ is))))
    (all_add (delivered h d.msg d.held) ds (resting_rests h d rests))

-- ---- a line

reqbufs_refused : (s : LocalState) (line u k n : ℕ) (way : Way) (c : Crossing) → way ≡ Crosses c → from_open s way ≡ AnsweredHere → is_some (first_refusal (reqbufs_row s u k n).refusals) ≡ true
unfolding reqbufs_row
reqbufs_refused s line u k n way c crosses here = elim (cases_Bool s.opened) as (λ _. is_some (first_refusal (reqbufs_row s u k n).refusals) ≡ true) [
  | inr shut ↦ ap is_some (shut_first s.opened (Some Ebadf) _ shut)
  | inl is_open ↦ absurd (apart_ways c (sym crosses ∙ (sym (ap (λ b. if b then way else AnsweredHere) is_open) ∙ here)))
]
  where
    shut_first : (b : Bool) (x y : Option Errno) → b ≡ false → (if not b then x else y) ≡ x
    shut_first b x y h = rw h refl

    apart_ways : (c : Crossing) → Crosses c ≡ AnsweredHere → ⊥
    apart_ways c is = cc

here_refuses : (h : HandleState) (line : ℕ) (call : Call) → asks_frames call ≡ true → way_from h call ≡ AnsweredHere → is_some (first_refusal (row_from h.log line call).refusals) ≡ true
here_refuses h line (ReqBufs u k n) is way = reqbufs_refused (state_of h.log) line u k n _ _ refl way
here_refuses h line call is way = absurd (false≢true is)

pub here_adds : (h : HandleState) (line : ℕ) (call : Call) (log : LogState) → way_from h call ≡ AnsweredHere → AnswersHere (with_line h.log) line call log → Adds h.log log
here_adds h line call log way (inl is) =
    subst (Adds h.log) (sym is) (row_adds (first_refusal (row_from (with_line h.log) line call).refusals) (with_line h.log) line call (λ asks. here_refuses h line call asks way))
here_adds h line call log way (inr lacks) = subst (Adds h.log) (sym lacks.new_is) (Called line call (Refused Enomem) ∷ [], refl, refl, (inl refl, tt))

pub sent_adds : (o : Option ℕ) (l : LogState) (call : Call) (along : Option Held) (log : LogState) → Sends o (with_line l) call along log → Adds l log
sent_adds None l call along log (none, same) = subst (Adds l) (sym same) ([], sym (append-nil l.entries), refl, tt)
sent_adds (Some number) l call None log sends = absurd sends
sent_adds (Some number) l call (Some held) log (queued, home, same) = subst (Adds l) (sym same) ([], sym (append-nil l.entries), refl, tt)

pub lent_adds : (o : Option Errno) (l : LogState) (line : ℕ) (call : Call) (leased : Leased) (log : LogState) → Leases o (with_line l) line call leased log → Adds l log
lent_adds (Some errno) l line call Answered log is = subst (Adds l) (sym is) (Called line call (Refused errno) ∷ [], refl, refl, (inl refl, tt))
lent_adds (Some errno) l line call (LeaseOutOf lease) log leases = absurd leases
lent_adds (Some errno) l line call Idle log leases = absurd leases
lent_adds None l line call (LeaseOutOf lease) log leases = subst (Adds l) (sym leases.left) ([], sym (append-nil l.entries), refl, tt)
lent_adds None l line call Answered log leases = absurd leases
lent_adds None l line call Idle log leases = absurd leases

pub touches_asks : (call : Call) → touches_bytes call ≡ true → asks_frames call ≡ false
touches_asks (ReqBufs u k n) touches = absurd (false≢true touches)
touches_asks call touches = refl
