-- A memory that a handle has it has still behind each step that isn't one of those that may drop it.
use Rattle.std.proofs.Common.{◌≡◌, ◌⊎◌, inl, inr, ℕ, ◌≤◌, Bool, true, false, ◌||◌, ◌==◌, List, [], ◌∷◌, ◌++◌, Option, Some, None, length, get_or, refl, sym, ap, ◌∙◌, subst, arith}
use Rattle.std.specs.List.{list_any}
use Rattle.std.proofs.lemmas.Bool.{false≢true, true≢false, cases_Bool, cases_lt, or_cases}
use Rattle.std.proofs.lemmas.List.{append-nil}
use Rattle.v4l_const.specs.declared.errno.Errno.{Errno}
use Rattle.v4l_const.specs.declared.errno.Errno.TheVariants.{Enomem}
use Rattle.v4l_const.specs.Model.{queues as types_of}
use Rattle.v4l_rules.specs.Queues.{place_in}
use Rattle.v4l_rules.specs.Refusals.{first_refusal}
use Rattle.vm_local.specs.declared.bound.Bound.{Bound}
use Rattle.vm_local.specs.declared.call.Call.{Call}
use Rattle.vm_local.specs.declared.call.Call.TheVariants.{CloseHandle, ReqBufs, StreamOff, Peek, Hash, Poke, Fill}
use Rattle.vm_local.specs.declared.entry.Entry.{Entry}
use Rattle.vm_local.specs.declared.entry.Entry.TheVariants.{Called}
use Rattle.vm_local.specs.declared.reply.Reply.{Reply}
use Rattle.vm_local.specs.State.{QueueState, LocalState, opening_queue, buffer_of}
use Rattle.vm_local.specs.Calls.{reqbufs_row, streamoff_row, read_row, hash_row, write_row, fill_row}
use Rattle.vm_local.specs.Kinds.{is_idle}
use Rattle.vm_local.specs.Live.{is_of_device}
use Rattle.vm_local.specs.Log.{row_for, called, IsLegal}
use Rattle.vm_local.specs.Queue.{memory_kind, granted, with_buffers}
use Rattle.vm_local.proofs.StepLemmas.{passes}
use Rattle.vm_home.specs.Home.{is_kept}
use Rattle.vm_home.specs.Moves.{is_refusal, is_stopping, touches_bytes}
use Rattle.vm_home.specs.Reached.{IsReached}
use Rattle.vm_home.proofs.ComeLemmas.{renewed, reqbufs_one}
use Rattle.vm_home.proofs.DeviceLemmas.{kept_made}
use Rattle.vm_home.proofs.FactLemmas.{Facts, facts_of, reached_after}
use Rattle.vm_home.proofs.KeptLemmas.{kept_after}
use Rattle.vm_home.proofs.MoveLemmas.{Went, went}
use Rattle.vm_home.proofs.OwnLemmas.{put_at, number_made}
use Rattle.vm_home.proofs.PlaceLemmas.{HasAt, used_at}
use Rattle.vm_home.proofs.StillLemmas.{kept_cases, named_kept, device_kept}
use Rattle.vm_home.proofs.StopLemmas.{StopsOne}
use Rattle.vm_handle.specs.Handle.{HandleState, id_of}
use Rattle.vm_handle.proofs.ReplyLemmas.{along_with, may_of}
use Rattle.vm_handle.specs.Answers.{row_from}
use Rattle.vm_log.specs.LegalLog.{LogState, state_of}
use Rattle.vm_log.specs.Answers.{with_line, Leases, given_back}
use Rattle.vm_log.specs.declared.leased.Leased.{Leased}
use Rattle.vm_log.specs.declared.leased.Leased.TheVariants.{Out as LeaseOutOf, Answered, Idle}
use Rattle.vm_wire.specs.Message.{Posting, Returning}
use Rattle.vm_wire.specs.declared.command.Command.{Command}
use Rattle.vm_device.specs.Device.{DeviceState}
use Rattle.vm_device.specs.Perform.{must_wait}
use Rattle.vm_stands.specs.Slice.{LeadAhead, LeadWith}
use Rattle.vm_stands.proofs.AheadLemmas.{one_after}
use Rattle.vm_realm.specs.declared.step.Step.{Step}
use Rattle.vm_realm.specs.declared.step.Step.TheVariants.{Issue, Execute, Resume, Begin, Finish, Announce, Collect, Pump, Lease, GiveBack}
use Rattle.vm_realm.specs.Inner.{Inner, driver_state, under_way}
use Rattle.vm_realm.specs.Places.{is_live}
use Rattle.vm_realm.specs.Slice.{Slice, Out}
use Rattle.vm_realm.specs.Slice.Out.{Nowhere, Asked, Kept, Told, Astray}
use Rattle.vm_realm.specs.SliceSteps.{SliceDoes, IsServed, IsServedUnless}
use Rattle.vm_realm.specs.Sound.{IsSoundSlice, IsOut, IsTold}
use Rattle.vm_realm.proofs.KeepCollectLemmas.{told_is}
use Rattle.vm_realm.proofs.KeepLendLemmas.{lent_rests, rests_nowhere}
use Rattle.vm_realm.proofs.KeepStateLemmas.{lead_alike}
use Rattle.vm_realm.proofs.PlaceCallLemmas.{Crossed, crossed}
use Rattle.vm_realm.proofs.PlaceFramesLemmas.{call_same, stays_frames, nowhere_none, asked_none, kept_none}
use Rattle.vm_realm.proofs.PlaceLogLemmas.{asks_frames, refused_same, adds_leads}
use Rattle.vm_realm.proofs.PlaceMadeLemmas.{refused_alike}
use Rattle.vm_realm.proofs.PlaceOnceLemmas.{Fewer, fewer_messages, IsAhead, is_ahead, Executed, executed_is, Stopped, stopped_is, fits_underway, first_open}

abbrev HasIt : LocalState → ℕ → Type 0
HasIt s m = is_kept s m ≡ true

pub live_log : (x : Slice) (v : Inner) (m : ℕ) → HasIt (driver_state x) m → is_live x v m ≡ true
live_log x v m has = ap (λ b. b || is_kept v.ahead m) has

live_ahead : (x : Slice) (v : Inner) (m : ℕ) → HasIt v.ahead m → is_live x v m ≡ true
live_ahead x v m has = elim (is_kept (driver_state x) m) as (λ b. (b || is_kept v.ahead m) ≡ true) [ true ↦ refl | false ↦ has ]

-- ---- one that the log doesn't have

-- it is a frame that a reqbufs made, whose reply is under way
pub record IsNewFrame (x : Slice) (v : Inner) (m : ℕ) : Type 0 where
  pub reply : Returning
  pub out : x.out ≡ Told reply
  pub told : IsTold x v reply
  pub asks : asks_frames told.call ≡ true
  pub done : is_refusal told.reply ≡ false
  pub frame : is_of_device v.ahead m ≡ true
  pub opened : (driver_state x).opened ≡ true

streamoff_size : (s t : LocalState) (line u : ℕ) (reply : Reply) → is_refusal reply ≡ false → called s line (StreamOff u) reply ≡ Some t → length t.memories ≡ length s.memories
unfolding streamoff_row
streamoff_size s t line u reply answers leads = ap (λ (x : LocalState). length x.memories) (went s line (StreamOff u) reply t answers leads).next

-- a memory past all that were made in front of a stopping call
stop_new : (s t : LocalState) (line : ℕ) (call : Call) (reply : Reply) (m : ℕ) → IsReached s → IsReached t → is_stopping call ≡ true → is_refusal reply ≡ false → called s line call reply ≡ Some t → length s.memories ≤ m → HasIt t m →
    (asks_frames call ≡ true) × (is_of_device t m ≡ true) × (s.opened ≡ true)
unfolding reqbufs_row
stop_new s t line CloseHandle reply m reached there stopping answers leads past has =
    let w : Went (row_for s line CloseHandle reply) reply t = went s line CloseHandle reply t answers leads in
    let size : length t.memories ≡ length s.memories = ap (λ (x : LocalState). length x.memories) w.next in
    absurd (omega (arith, past, size, kept_made t (facts_of t there).sound m has))
stop_new s t line (StreamOff u) reply m reached there stopping answers leads past has =
    let size : length t.memories ≡ length s.memories = streamoff_size s t line u reply answers leads in
    absurd (omega (arith, past, size, kept_made t (facts_of t there).sound m has))
stop_new s t line (ReqBufs u k n) reply m reached there stopping answers leads past has =
    let w : Went (row_for s line (ReqBufs u k n) reply) reply t = went s line (ReqBufs u k n) reply t answers leads in
    let f : Facts s = facts_of s reached in
    let so : (j : ℕ) → (get_or (reqbufs_row s u k n).refusals j (false, Enomem)).0 ≡ false = passes (reqbufs_row s u k n).refusals w.pass in
    let next : LocalState = with_buffers s u (memory_kind k) (granted n) in
    let one : StopsOne s next u (renewed s u k n) = reqbufs_one s u k n f.sound (so 1) in
    let now : HasIt next m = subst (λ x. HasIt x m) w.next has in
    let p : ℕ = place_in (types_of s.model) u in
    let v : QueueState = renewed s u k n in
    elim (kept_cases next m now) as (λ _. (true ≡ true) × (is_of_device t m ≡ true) × (s.opened ≡ true)) [
      | inl named ↦
          let before : HasIt s m = named_kept s m (ap (λ bs. list_any (λ (b : Bound). b.memory == m) bs) (sym one.bound) ∙ named) in
          absurd (omega (arith, past, kept_made s f.sound m before))
      | inr rest ↦ elim rest.1 as (λ _. (true ≡ true) × (is_of_device t m ≡ true) × (s.opened ≡ true)) [
        | inl device ↦ (refl, ap (λ (x : LocalState). is_of_device x m) w.next ∙ device, sym one.opened ∙ rest.0)
        | inr used ↦
            let x : _ = used_at next m used in
            let placed : _ = subst (λ qs. ((x.0 ≡ p) × (get_or qs x.0 opening_queue ≡ v)) ⊎ ((x.0 ≡ p → ⊥) × (get_or qs x.0 opening_queue ≡ get_or s.queues x.0 opening_queue))) (sym one.queues) (put_at s.queues p v one.within x.0) in
            elim placed as (λ _. (true ≡ true) × (is_of_device t m ≡ true) × (s.opened ≡ true)) [
              | inl here ↦ absurd (true≢false (sym (ap (λ (q : QueueState). is_idle (buffer_of q x.1).state) here.1 ∙ one.idle x.1) ∙ x.3))
              | inr other ↦
                  let before : HasAt s.queues x.0 x.1 m = ap (λ (q : QueueState). (buffer_of q x.1).memory) (sym other.1) ∙ x.2 in
                  absurd (omega (arith, past, number_made s f.sound x.0 x.1 m before))
            ]
      ]
    ]
stop_new s t line call reply m reached there stopping answers leads past has = absurd (false≢true stopping)

told_new : (x : Slice) (v : Inner) (r : Returning) (t : IsTold x v r) (m : ℕ) → IsSoundSlice x v → x.out ≡ Told r → HasIt v.ahead m → HasIt (driver_state x) m ⊎ IsNewFrame x v m
told_new x v r t m sound out has = elim (cases_Bool (is_stopping t.call)) as (λ _. HasIt s m ⊎ IsNewFrame x v m) [ inl stopping ↦ by_stop stopping | inr goes ↦ inl (by_going goes) ]
  where
    s : LocalState
    s = driver_state x

    by_going : is_stopping t.call ≡ false → HasIt s m
    by_going goes =
        let e : Executed x v r t = executed_is x v r t sound in
        let under : _ = fits_underway x v t.line t.call sound t.underway in
        let leads : LeadWith false e.ahead.id s (Called t.line t.call t.reply) (under_way x) v.ahead =
        subst (λ b. LeadWith b e.ahead.id s (Called t.line t.call t.reply) (under_way x) v.ahead) goes e.leads in
        let u : LocalState = leads.0 in
        let between : IsReached u = reached_after s u (Called t.line t.call t.reply) e.ahead.reached leads.1 in
        let crosses : Crossed s u x.handle.log.away = crossed s u t.line t.call t.reply x.handle.log.away e.ahead.reached (may_of (id_of x.handle.session) s t.call t.crosses) goes leads.1
        (along_with (id_of x.handle.session) s u t.line t.call t.reply x.handle.log.away t.crosses under.2 leads.1) (first_open x v t.call sound t.first) in
        crosses.kept m ((fewer_messages e.ahead.id u v.ahead (under_way x) between leads.2).kept m has)

    by_stop : is_stopping t.call ≡ true → HasIt s m ⊎ IsNewFrame x v m
    by_stop stopping =
        let is : Stopped x v r t = stopped_is x v r t sound stopping in
        let fewer : Fewer s v.before = fewer_messages is.id s v.before (under_way x) is.reached is.leads in
        elim (cases_lt m (length v.before.memories)) as (λ _. HasIt s m ⊎ IsNewFrame x v m) [
          | inl old ↦ inl (fewer.kept m (kept_after v.before v.ahead (Called t.line t.call t.reply) m is.before is.last old has))
          | inr past ↦ elim (cases_Bool (is_refusal t.reply)) as (λ _. HasIt s m ⊎ IsNewFrame x v m) [
            | inl refused ↦
                let same : v.ahead ≡ v.before = refused_same v.before v.ahead t.line t.call t.reply refused is.last in
                inl (fewer.kept m (subst (λ (k : LocalState). HasIt k m) same has))
            | inr answers ↦
                let new : _ = stop_new v.before v.ahead t.line t.call t.reply m is.before is.ahead stopping answers is.last (omega (arith, past)) has in
                let opened : s.opened ≡ true = sym (lead_alike is.id s v.before (under_way x) is.reached is.leads).opened ∙ new.2 in
                inr (record { reply = r; out = out; told = t; asks = new.0; done = answers; frame = new.1; opened = opened })
          ]
        ]

pub quiet_kept : (x : Slice) (v : Inner) (m : ℕ) → IsSoundSlice x v → v.executed ≡ None → HasIt v.ahead m → HasIt (driver_state x) m
quiet_kept x v m sound none has =
    let is : IsAhead x v = is_ahead x v sound in
    (fewer_messages is.id (driver_state x) v.ahead (under_way x) is.reached (subst (λ e. LeadAhead is.id (driver_state x) e (under_way x) v.ahead) none is.leads)).kept m has

pub kept_or_new : (x : Slice) (v : Inner) (m : ℕ) → IsSoundSlice x v → is_live x v m ≡ true → HasIt (driver_state x) m ⊎ IsNewFrame x v m
kept_or_new x v m sound live = elim (or_cases (is_kept (driver_state x) m) (is_kept v.ahead m) live) as (λ _. HasIt (driver_state x) m ⊎ IsNewFrame x v m) [
  | inl now ↦ inl now
  | inr has ↦ by_out has x.out refl
]
  where
    by_out : HasIt v.ahead m → (o : Out) → x.out ≡ o → HasIt (driver_state x) m ⊎ IsNewFrame x v m
    by_out has Nowhere at = inl (quiet_kept x v m sound (nowhere_none x v at sound) has)
    by_out has (Asked p) at = inl (quiet_kept x v m sound (asked_none x v p at sound) has)
    by_out has (Kept p) at = inl (quiet_kept x v m sound (kept_none x v p at sound) has)
    by_out has (Told r) at = told_new x v r (told_is x v x.out r at sound.out) m sound at has
    by_out has Astray at = absurd (subst (λ o. IsOut o x v) at sound.out)

pub quiet_live : (x : Slice) (v : Inner) (m : ℕ) → IsSoundSlice x v → v.executed ≡ None → is_live x v m ≡ true → HasIt (driver_state x) m
quiet_live x v m sound none live = elim (or_cases (is_kept (driver_state x) m) (is_kept v.ahead m) live) as (λ _. HasIt (driver_state x) m) [ inl now ↦ now | inr has ↦ quiet_kept x v m sound none has ]

-- ---- where the handle and its call stay

-- the handle is open ahead where the call asks for frames
asks_stops : (call : Call) → asks_frames call ≡ true → is_stopping call ≡ true
asks_stops (ReqBufs u k n) asks = refl
asks_stops call asks = absurd (false≢true asks)

stays_open : (s t : LocalState) (line : ℕ) (call : Call) (reply : Reply) → asks_frames call ≡ true → is_refusal reply ≡ false → called s line call reply ≡ Some t → s.opened ≡ true → t.opened ≡ true
unfolding reqbufs_row with_buffers
stays_open s t line (ReqBufs u k n) reply asks answers leads is_open = ap (λ (x : LocalState). x.opened) (went s line (ReqBufs u k n) reply t answers leads).next ∙ is_open
stays_open s t line call reply asks answers leads is_open = absurd (false≢true asks)

new_stays : (x x' : Slice) (v v' : Inner) (m : ℕ) → IsSoundSlice x v → IsSoundSlice x' v' → x'.handle ≡ x.handle → x'.out ≡ x.out → IsNewFrame x v m → HasIt v'.ahead m
new_stays x x' v v' m sound goes handle out new =
    let r : Returning = new.reply in
    let t : IsTold x v r = new.told in
    let t' : IsTold x' v' r = told_is x' v' x'.out r (out ∙ new.out) goes.out in
    let same : t'.call ≡ t.call = call_same t'.line t.line t'.call t.call (sym t'.underway ∙ (ap (λ (h : HandleState). h.stage) handle ∙ t.underway)) in
    let asks : asks_frames t'.call ≡ true = ap asks_frames same ∙ new.asks in
    let answers : is_refusal t'.reply ≡ false = sym (refused_alike x x' v v' r t t') ∙ new.done in
    let is : Stopped x' v' r t' = stopped_is x' v' r t' goes (asks_stops t'.call asks) in
    let s : LocalState = driver_state x' in
    let is_open : s.opened ≡ true = ap (λ (h : HandleState). (state_of h.log).opened) handle ∙ new.opened in
    let before : v'.before.opened ≡ true = (lead_alike is.id s v'.before (under_way x') is.reached is.leads).opened ∙ is_open in
    let frame : is_of_device v'.ahead m ≡ true = stays_frames x' x v' v m goes sound (sym handle) (sym out) new.frame in
    device_kept v'.ahead m (stays_open v'.before v'.ahead t'.line t'.call t'.reply asks answers is.last before) frame

pub live_stays : (x x' : Slice) (v v' : Inner) (m : ℕ) → IsSoundSlice x v → IsSoundSlice x' v' → x'.handle ≡ x.handle → x'.out ≡ x.out → is_live x v m ≡ true → is_live x' v' m ≡ true
live_stays x x' v v' m sound goes handle out live = elim (kept_or_new x v m sound live) as (λ _. is_live x' v' m ≡ true) [
  | inl has ↦ live_log x' v' m (subst (λ (h : HandleState). HasIt (state_of h.log) m) (sym handle) has)
  | inr new ↦ live_ahead x' v' m (new_stays x x' v v' m sound goes handle out new)
]

-- where no call was executed, and the log has the memory still
pub log_stays : (x x' : Slice) (v v' : Inner) (m : ℕ) → IsSoundSlice x v → v.executed ≡ None → (HasIt (driver_state x) m → HasIt (driver_state x') m) → is_live x v m ≡ true → is_live x' v' m ≡ true
log_stays x x' v v' m sound none stays live = live_log x' v' m (stays (quiet_live x v m sound none live))

-- ---- leases

-- a log that is the same, or longer by a refusal
pub record Repeats (l l' : LogState) : Type 0 where
  pub more : List Entry
  pub entries : l'.entries ≡ l.entries ++ more
  pub model : l'.model ≡ l.model
  pub refusal : (more ≡ []) ⊎ ((line : ℕ) × (call : Call) × (reply : Reply) × (more ≡ Called line call reply ∷ []) × (is_refusal reply ≡ true))

pub repeats_state : (l l' : LogState) → IsLegal l.model l.entries → IsLegal l'.model l'.entries → Repeats l l' → state_of l' ≡ state_of l
repeats_state l l' legal legal' r = elim r.refusal as (λ _. state_of l' ≡ state_of l) [
  | inl none ↦ same_state (state_of l) (state_of l') (adds_leads l l' [] legal legal' (r.entries ∙ ap (λ es. l.entries ++ es) none) r.model)
  | inr w ↦ refused_same (state_of l) (state_of l') w.0 w.1 w.2 w.4
      (one_after (state_of l) (state_of l') (Called w.0 w.1 w.2) (adds_leads l l' (Called w.0 w.1 w.2 ∷ []) legal legal' (r.entries ∙ ap (λ es. l.entries ++ es) w.3) r.model))
]
  where
    same_state : (s t : LocalState) → ◌≡◌ {A = Option LocalState} (Some s) (Some t) → t ≡ s
    same_state s t same = cc

pub repeats_none : (l l' : LogState) → l'.entries ≡ l.entries → l'.model ≡ l.model → Repeats l l'
repeats_none l l' entries model = record { more = []; entries = entries ∙ sym (append-nil l.entries); model = model; refusal = inl refl }

pub lent_repeats : (o : Option Errno) (l : LogState) (line : ℕ) (call : Call) (leased : Leased) (log : LogState) → Leases o (with_line l) line call leased log → Repeats l log
lent_repeats (Some errno) l line call Answered log is = subst (Repeats l) (sym is) (record { more = Called line call _ ∷ []; entries = refl; model = refl; refusal = inr (line, call, _, refl, refl) })
lent_repeats (Some errno) l line call (LeaseOutOf lease) log leases = absurd leases
lent_repeats (Some errno) l line call Idle log leases = absurd leases
lent_repeats None l line call (LeaseOutOf lease) log leases = subst (Repeats l) (sym leases.left) (repeats_none l _ refl refl)
lent_repeats None l line call Answered log leases = absurd leases
lent_repeats None l line call Idle log leases = absurd leases

touch_row : (s : LocalState) (line m : ℕ) (c : Call) (r : Reply) → touches_bytes c ≡ true → HasIt s m → HasIt (row_for s line c r).next m
unfolding read_row hash_row write_row fill_row
touch_row s line m (Peek name off len) r touches has = has
touch_row s line m (Hash name) r touches has = has
touch_row s line m (Poke name off bytes) r touches has = has
touch_row s line m (Fill name seed) r touches has = has
touch_row s line m c r touches has = absurd (false≢true touches)

touch_kept : (s t : LocalState) (line : ℕ) (call : Call) (reply : Reply) (m : ℕ) → touches_bytes call ≡ true → called s line call reply ≡ Some t → HasIt s m → HasIt t m
touch_kept s t line call reply m touches leads has = elim (cases_Bool (is_refusal reply)) as (λ _. HasIt t m) [
  | inl refused ↦ subst (λ (x : LocalState). HasIt x m) (sym (refused_same s t line call reply refused leads)) has
  | inr answers ↦ subst (λ (x : LocalState). HasIt x m) (sym (went s line call reply t answers leads).next) (touch_row s line m call reply touches has)
]

-- ---- the steps that drop none

abbrev pub drops_none : Step → Bool
drops_none (Issue n) = false
drops_none Collect = false
drops_none Pump = false
drops_none s = true

served_live : (x x' : Slice) (v v' : Inner) (p : Posting) (c : Command) (d : DeviceState) (m : ℕ) → IsSoundSlice x v → v.executed ≡ None → IsServed p c d x x' → is_live x v m ≡ true → is_live x' v' m ≡ true
served_live x x' v v' p c d m sound none (a, performs, after_it) live =
    log_stays x x' v v' m sound none (λ has. subst (λ (y : Slice). HasIt (driver_state y) m) (sym after_it) has) live

execute_live : (b : Bool) (x x' : Slice) (v v' : Inner) (p : Posting) (c : Command) (d : DeviceState) (m : ℕ) → IsSoundSlice x v → v.executed ≡ None → IsServedUnless b p c d x x' → is_live x v m ≡ true → is_live x' v' m ≡ true
execute_live true x x' v v' p c d m sound none after_it live = log_stays x x' v v' m sound none (λ has. subst (λ (y : Slice). HasIt (driver_state y) m) (sym after_it) has) live
execute_live false x x' v v' p c d m sound none serves live = served_live x x' v v' p c d m sound none serves live

pub slice_live : (s : Step) (x x' : Slice) (v v' : Inner) (m : ℕ) → drops_none s ≡ true → IsSoundSlice x v → IsSoundSlice x' v' → SliceDoes s x x' → is_live x v m ≡ true → is_live x' v' m ≡ true
slice_live (Issue n) x x' v v' m drops sound goes does live = absurd (false≢true drops)
slice_live Collect x x' v v' m drops sound goes does live = absurd (false≢true drops)
slice_live Pump x x' v v' m drops sound goes does live = absurd (false≢true drops)
slice_live Execute x x' v v' m drops sound goes (p, c, d, at, asks, is, does) live = execute_live (must_wait d c) x x' v v' p c d m sound (asked_none x v p at sound) does live
slice_live (Resume session) x x' v v' m drops sound goes (p, c, d, at, asks, is, rest, does) live = served_live x x' v v' p c d m sound (kept_none x v p at sound) does live
slice_live (Begin session) x x' v v' m drops sound goes (k, number, job, there, kept, can, next, after_it) live = live_stays x x' v v' m sound goes (ap (λ (y : Slice). y.handle) after_it) (ap (λ (y : Slice). y.out) after_it) live
slice_live (Finish number) x x' v v' m drops sound goes (k, job, done, there, is, back, picture, after_it) live = live_stays x x' v v' m sound goes (ap (λ (y : Slice). y.handle) after_it) (ap (λ (y : Slice). y.out) after_it) live
slice_live Announce x x' v v' m drops sound goes (k, msg, held, there, oldest, after_it) live = live_stays x x' v v' m sound goes (ap (λ (y : Slice). y.handle) after_it) (ap (λ (y : Slice). y.out) after_it) live
slice_live (Lease n) x x' v v' m drops sound goes (line, call, leased, log, may, leases, after_it) live =
    let here : x'.handle.log ≡ log = ap (λ (y : Slice). y.handle.log) after_it in
    let repeats : Repeats x.handle.log x'.handle.log = subst (Repeats x.handle.log) (sym here) (lent_repeats (first_refusal (row_from x.handle.log line call).refusals) x.handle.log line call leased log leases) in
    log_stays x x' v v' m sound (nowhere_none x v may.out sound) (λ has. subst (λ (k : LocalState). HasIt k m) (sym (repeats_state x.handle.log x'.handle.log sound.log.legal goes.log.legal repeats)) has) live
slice_live (GiveBack n) x x' v v' m drops sound goes (entry, lease, lent, back, after_it) live =
    let rest : _ = lent_rests (id_of x.handle.session) (driver_state x) x.handle.log.away x.handle.log.unanswered x.handle.stage entry lent sound.handle.fits in
    let at : x.out ≡ Nowhere = rests_nowhere x v x.out rest.0 sound.out in
    let here : x'.handle.log ≡ given_back x.handle.log lease = ap (λ (y : Slice). y.handle.log) after_it in
    let touches : touches_bytes lease.call ≡ true = ap touches_bytes back.call ∙ rest.1 in
    let leads : called (driver_state x) lease.line lease.call lease.reply ≡ Some (driver_state x') =
    one_after (driver_state x) (driver_state x') (Called lease.line lease.call lease.reply)
    (adds_leads x.handle.log x'.handle.log (Called lease.line lease.call lease.reply ∷ []) sound.log.legal goes.log.legal (ap (λ (l : LogState). l.entries) here) (ap (λ (l : LogState). l.model) here)) in
    log_stays x x' v v' m sound (nowhere_none x v at sound) (touch_kept (driver_state x) (driver_state x') lease.line lease.call lease.reply m touches leads) live
