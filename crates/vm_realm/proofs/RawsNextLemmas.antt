-- After each step the raw lines have their errnos, or are out as they were posted or answered.
use Rattle.std.proofs.Common.{Bool, Err, List, None, Ok, Option, Some, [], ap, arith, eqb, false, get_or, if◌then◌else◌, inl, inr, length, refl, set, subst, sym, true, true≢false, ℕ, ◌++◌, ◌+◌, ◌<◌, ◌∙◌, ◌∷◌, ◌≡◌, ◌≤◌, ◌⊎◌}
use Rattle.std.proofs.lemmas.Bool.{cases_eq, false≢true, ne_eqb}
use Rattle.std.proofs.lemmas.List.{append-nil, get_or-set_other, get_or-set_same, get_or_past, nil_from_length}
use Rattle.std.proofs.lemmas.List.Elements.{filter-append}
use Rattle.std.proofs.lemmas.Option.{none-some}
use Rattle.std.specs.List.{filter}
use Rattle.std.specs.Option.{option_and_then, option_to_list}
use Rattle.std.specs.Prelude.{slice_get}
use Rattle.v4l_const.specs.declared.errno.Errno.{Errno}
use Rattle.v4l_const.specs.declared.errno.Errno.TheVariants.{Eacces, Eagain, Ebadf, Ebusy, Edeadlk, Efault, Einval, Eio, Emsgsize, Enoent, Enomem, Enotty, Eopnotsupp}
use Rattle.vm_device.specs.Device.{DeviceState, session_of}
use Rattle.vm_device.specs.Mappings.{frame_in}
use Rattle.vm_device.specs.Perform.{Answer, MapsFound, Performs, closed, in_session, must_wait, refused}
use Rattle.vm_exchange.specs.declared.way.Way.{Way}
use Rattle.vm_exchange.specs.declared.way.Way.TheVariants.{AnsweredHere, Crosses, TouchesMemory, Waits}
use Rattle.vm_frame.specs.declared.mem.Held.{Held}
use Rattle.vm_guest.proofs.AskLemmas.{refusal_told}
use Rattle.vm_guest.specs.Asking.{asked_by, asked_in}
use Rattle.vm_guest.specs.Events.{settled}
use Rattle.vm_guest.specs.Guest.{GuestState, no_process, process_at, with_process}
use Rattle.vm_guest.specs.Lines.{AnsweredFor, Begins, BeginsCall, after_lease, returned_to, waiting}
use Rattle.vm_guest.specs.Message.{OfCall, OfRaw, Sending, posting_of}
use Rattle.vm_guest.specs.Orderly.{IsOrderly, lines_at}
use Rattle.vm_guest.specs.Part.{postings}
use Rattle.vm_guest.specs.Process.{ProcessState, begun, crossing, current, doing, handle_at, is_at_rest, is_crossing, rested, some_if, with_handle, with_log}
use Rattle.vm_guest.specs.Raw.{errno_for, errno_told, raw_ask, raw_errno}
use Rattle.vm_guest.specs.declared.asked.Asked.{Asked as AskedCall}
use Rattle.vm_guest.specs.declared.asked.Statement.{Statement}
use Rattle.vm_guest.specs.declared.status.Status.TheVariants.{Blocked, Crossing}
use Rattle.vm_handle.specs.Answers.{with_reply}
use Rattle.vm_handle.specs.Handle.{way_from}
use Rattle.vm_host.specs.Chains.{refusal_of_fault}
use Rattle.vm_host.specs.Part.{Call as WaitingCall, ExecutedAsk, ExecutedCommand, Part, returning}
use Rattle.vm_local.specs.declared.call.Call.{Call}
use Rattle.vm_log.specs.declared.leased.Leased.{Leased}
use Rattle.vm_log.specs.declared.leased.Leased.TheVariants.{Answered, Idle, Out as GoneOut}
use Rattle.vm_script.specs.declared.line.LineKind.{LineKind}
use Rattle.vm_script.specs.declared.line.LineKind.TheVariants.{OnHandle, Raw}
use Rattle.vm_script.specs.declared.line.RawChain.{RawChain}
use Rattle.vm_wire.specs.Message.{Ask, Posting, Returning, errno_of_fault}
use Rattle.vm_wire.specs.Message.Ask.{Judged, Unusable}
use Rattle.vm_wire.specs.Wire.{response_bytes, response_of}
use Rattle.vm_wire.specs.declared.command.CmdFault.{CmdFault}
use Rattle.vm_wire.specs.declared.command.CmdFault.TheVariants.{Room, Short, UnknownCmd, UnknownIoctl}
use Rattle.vm_wire.specs.declared.command.Command.{Command}
use Rattle.vm_wire.specs.declared.command.Command.TheVariants.{CloseSession, Ioctl, Map, OpenSession, Unmap}
use Rattle.vm_realm.proofs.AfterLemmas.{HasCollected, IsAnnounced, IsAnsweredFirst, IsCollected, IsExecuted, IsFinished, IsGivenBack, IsIssued, IsJobBegun, IsKeptFirst, IsLeased, IsResumed, has_collected, is_announced, is_collected, is_executed, is_finished, is_given_back, is_issued, is_job_begun, is_leased_to, is_resumed, line_begun, reply_collected}
use Rattle.vm_realm.proofs.CanCollectLemmas.{IsFirstTold, told_first}
use Rattle.vm_realm.proofs.CollectLemmas.{others_told}
use Rattle.vm_realm.proofs.CommandLemmas.{IsFirstAsked, asked_first, one_kept, others_first, others_more, out_off, own_more, put_off, raw_posted, raw_refused}
use Rattle.vm_realm.proofs.IssueLemmas.{own_posted}
use Rattle.vm_realm.proofs.LendLemmas.{with_one}
use Rattle.vm_realm.proofs.PlaceLemmas.{at}
use Rattle.vm_realm.proofs.PumpLiftLemmas.{pump_keeps}
use Rattle.vm_realm.proofs.QuietNextLemmas.{posted_other}
use Rattle.vm_realm.proofs.SessionLemmas.{few_sessions, refused_goes}
use Rattle.vm_realm.specs.Inner.{Inner}
use Rattle.vm_realm.specs.Slice.{calls_of, is_on, out_from, out_of, replies_of, requests_of}
use Rattle.vm_realm.specs.Slice.Out.{Asked, Told}
use Rattle.vm_realm.specs.SliceSteps.{TakesNone, told_by}
use Rattle.vm_realm.specs.Sound.{AnswersRaws, IsLineOut, IsQuiet, IsRawOut, IsRefused, IsSound, IsSoundBy, NamesNone, one_if, out_count, raw_reply}
use Rattle.vm_realm.specs.Steps.{Steps}
use Rattle.vm_realm.specs.World.{WorldState}
use Rattle.vm_realm.specs.declared.step.Step.{Step}
use Rattle.vm_realm.specs.declared.step.Step.TheVariants.{Announce, Begin, Collect, Execute, Finish, GiveBack, Issue, Lease, Pump, Resume}

-- ---- the answered raw lines of a process

abbrev HasRaws : ProcessState → Type 0
HasRaws p = (k : ℕ) (s : Statement) (chain : RawChain) → slice_get p.statements k ≡ Some s → s.what ≡ Raw chain → k < p.answered → get_or p.raws k None ≡ Some (raw_errno chain)

raws_same : (p q : ProcessState) → q.statements ≡ p.statements → q.raws ≡ p.raws → q.answered ≡ p.answered → HasRaws p → HasRaws q
raws_same p q statements raws answered has k s chain at what before =
    ap (λ rs. get_or rs k None) raws ∙ has k s chain (ap (λ ss. slice_get ss k) (sym statements) ∙ at) what (omega (arith, before, answered))

handle_raw : (what : LineKind) (h : ℕ) (call : Call) (chain : RawChain) → what ≡ OnHandle h call → what ≡ Raw chain → ⊥
handle_raw what h call chain is other = never (sym is ∙ other)
  where
    never : OnHandle h call ≡ Raw chain → ⊥
    never same = cc

same_line : (s t : Statement) → ◌≡◌ {A = Option Statement} (Some s) (Some t) → s ≡ t
same_line s t same = cc

-- a call of a handle is answered
raws_next_line : (p q : ProcessState) (s : Statement) (h : ℕ) (call : Call) → current p ≡ Some s → s.what ≡ OnHandle h call → q.statements ≡ p.statements → q.raws ≡ p.raws → q.answered ≡ p.answered + 1 → HasRaws p → HasRaws q
raws_next_line p q s h call now what statements raws answered has k t chain at is before =
    let here : slice_get p.statements k ≡ Some t = ap (λ ss. slice_get ss k) (sym statements) ∙ at in
    ap (λ rs. get_or rs k None) raws ∙ elim (cases_eq k p.answered) [
      | inr other ↦ has k t chain here is (omega (arith, before, answered, other))
      | inl same ↦ absurd (handle_raw t.what h call chain (ap (λ (x : Statement). x.what) (same_line t s (sym here ∙ (ap (slice_get p.statements) same ∙ now))) ∙ what) is)
    ]

each_has : (g : GuestState) (n : ℕ) (q : ProcessState) → n < length g.processes → ((m : ℕ) → HasRaws (process_at g m)) → HasRaws q → (m : ℕ) → HasRaws (process_at (with_process g n q) m)
each_has g n q within all has m = elim (cases_eq m n) [
  | inl same ↦ subst (λ i. HasRaws (process_at (with_process g n q) i)) (sym same) (subst HasRaws (sym (get_or-set_same g.processes n q no_process within)) has)
  | inr other ↦ subst HasRaws (sym (get_or-set_other g.processes n m q no_process other)) (all m)
]

-- ---- raw lines that are out

out_same : (v w : WorldState) (n : ℕ) (o : Option Statement) → out_of v n ≡ out_of w n → IsLineOut w n o → IsLineOut v n o
out_same v w n None same out = tt
out_same v w n (Some s) same out = λ chain what. subst (λ x. IsRawOut x n chain) (sym same) (out chain what)

line_same : (v w : WorldState) (n : ℕ) → crossing (process_at v.guest n) ≡ crossing (process_at w.guest n) → out_of v n ≡ out_of w n → IsLineOut w n (crossing (process_at w.guest n)) → IsLineOut v n (crossing (process_at v.guest n))
line_same v w n process same out = subst (IsLineOut v n) (sym process) (out_same v w n (crossing (process_at w.guest n)) same out)

line_rests : (v : WorldState) (n : ℕ) (p : ProcessState) → is_crossing p.status ≡ false → IsLineOut v n (crossing p)
line_rests v n p free = subst (λ b. IsLineOut v n (some_if b (current p))) (sym free) tt

-- a handle's line is no raw one
line_handle : (v : WorldState) (n : ℕ) (b : Bool) (o : Option Statement) (s : Statement) (h : ℕ) (call : Call) → o ≡ Some s → s.what ≡ OnHandle h call → IsLineOut v n (some_if b o)
line_handle v n false o s h call is what = tt
line_handle v n true o s h call is what = subst (IsLineOut v n) (sym is) (λ chain other. absurd (handle_raw s.what h call chain what other))

asked_handle : (line : ℕ) (what : LineKind) (a : AskedCall) → asked_in line what ≡ Some a → (h : ℕ) × (call : Call) × (what ≡ OnHandle h call)
asked_handle line (OnHandle h call) a is = (h, call, refl)
asked_handle line (Raw chain) a is = absurd (none-some a is)

-- nor is one whose call is on a handle
line_called : (v : WorldState) (n h : ℕ) (b : Bool) (o : Option Statement) → is_on (some_if b (option_and_then asked_by o)) h ≡ true → IsLineOut v n (some_if b o)
line_called v n h false o on = tt
line_called v n h true None on = tt
line_called v n h true (Some s) on = λ chain what. absurd (false≢true (ap (λ k. is_on (asked_in s.line k) h) (sym what) ∙ on))

-- ---- a process in which nothing crosses is exchanged

exchange_raws : (w : WorldState) (n : ℕ) (q : ProcessState) → n < length w.guest.processes → is_crossing q.status ≡ false → HasRaws q → AnswersRaws w → AnswersRaws (with_one w n q)
exchange_raws w n q within behind has raws = record {
  answered = each_has w.guest n q within raws.answered has;
  out = λ m. elim (cases_eq m n) [
    | inl same ↦ subst (λ i. IsLineOut (with_one w n q) i (crossing (process_at (with_process w.guest n q) i))) (sym same)
        (subst (λ (p : ProcessState). IsLineOut (with_one w n q) n (crossing p)) (sym (get_or-set_same w.guest.processes n q no_process within)) (line_rests (with_one w n q) n q behind))
    | inr other ↦ line_same (with_one w n q) w m (ap crossing (get_or-set_other w.guest.processes n m q no_process other)) refl (raws.out m)
  ];
}

leased_free : (leased : Leased) (q : ProcessState) → is_crossing q.status ≡ false → is_crossing (after_lease leased q).status ≡ false
leased_free (GoneOut lease) q free = refl
leased_free Answered q free = refl
leased_free Idle q free = free

leased_raws : (leased : Leased) (p q : ProcessState) (s : Statement) (h : ℕ) (call : Call) → current p ≡ Some s → s.what ≡ OnHandle h call → q.statements ≡ p.statements → q.raws ≡ p.raws → q.answered ≡ p.answered → HasRaws p → HasRaws (after_lease leased q)
leased_raws (GoneOut lease) p q s h call now what statements raws answered has = raws_same p q statements raws answered has
leased_raws Answered p q s h call now what statements raws answered has = raws_next_line p (rested q) s h call now what statements raws (ap (λ k. k + 1) answered) has
leased_raws Idle p q s h call now what statements raws answered has = raws_same p q statements raws answered has

lease_raws : (w w' : WorldState) (n : ℕ) → AnswersRaws w → IsLeased w n w' → AnswersRaws w'
lease_raws w w' n raws l =
    let p : ProcessState = process_at w.guest n in
    let q : ProcessState = with_log p l.call.handle l.leases.0 in
    let on : _ = asked_handle l.statement.line l.statement.what l.call l.asked in
    let free : is_crossing p.status ≡ false = ap is_crossing l.rest in
    subst AnswersRaws (sym l.after) (exchange_raws w n l.process l.within (ap (λ (r : ProcessState). is_crossing r.status) l.leases.2 ∙ leased_free l.leased q free)
    (subst HasRaws (sym l.leases.2) (leased_raws l.leased p q l.statement on.0 on.1 l.now on.2 refl refl refl (raws.answered n))) raws)

give_back_raws : (w w' : WorldState) (n : ℕ) → AnswersRaws w → IsGivenBack w n w' → AnswersRaws w'
give_back_raws w w' n raws b =
    let p : ProcessState = process_at w.guest n in
    let on : _ = asked_handle b.statement.line b.statement.what b.call b.asked in
    let q : ProcessState = returned_to p (Some b.call) b.lease in
    subst AnswersRaws (sym b.after) (exchange_raws w n q b.within refl (raws_next_line p q b.statement on.0 on.1 b.now on.2 refl refl refl (raws.answered n)) raws)

-- ---- Issue

-- what a line that is begun leaves of its process
record IsBegunLine (p q : ProcessState) (s : Statement) (n : ℕ) (sends : Option Sending) : Type 0 where
  raws : HasRaws q
  out : (v : WorldState) → ((m : Posting) → postings n sends ≡ m ∷ [] → out_of v n ≡ Asked m) → IsLineOut v n (crossing q)

begun_call : (way : Way) (line h : ℕ) (call : Call) (p q : ProcessState) (s : Statement) (n : ℕ) (sends : Option Sending) → current p ≡ Some s → s.what ≡ OnHandle h call → HasRaws p → BeginsCall way line h call p q sends → IsBegunLine p q s n sends
begun_call (Crosses c) line h call p q s n sends now what has (along, handle, goes, after, sent) = subst (λ r. IsBegunLine p r s n sends) (sym after) (record {
  raws = raws_same p (doing Crossing (with_handle p h handle)) refl refl refl has;
  out = λ v asked. line_handle v n true (current p) s h call now what;
})
begun_call AnsweredHere line h call p q s n sends now what has (handle, answers, after, sent) = subst (λ r. IsBegunLine p r s n sends) (sym after) (record {
  raws = raws_next_line p (rested (with_handle p h handle)) s h call now what refl refl refl has;
  out = λ v asked. tt;
})
begun_call Waits line h call p q s n sends now what has (after, sent) = subst (λ r. IsBegunLine p r s n sends) (sym after) (record {
  raws = raws_same p (doing Blocked (with_handle p h (waiting (handle_at p h) line call))) refl refl refl has;
  out = λ v asked. tt;
})
begun_call TouchesMemory line h call p q s n sends now what has begins = absurd begins

same_chain : (a b : RawChain) → Raw a ≡ Raw b → a ≡ b
same_chain a b same = cc

begun_line : (line : ℕ) (what : LineKind) (p q : ProcessState) (s : Statement) (n : ℕ) (sends : Option Sending) → current p ≡ Some s → s.what ≡ what → HasRaws p → Begins line what p q sends → IsBegunLine p q s n sends
begun_line line (OnHandle h call) p q s n sends now what has begins = begun_call (way_from (handle_at p h) call) line h call p q s n sends now what has begins
begun_line line (Raw chain) p q s n sends now what has (after, sent) = subst (λ r. IsBegunLine p r s n sends) (sym after) (record {
  raws = raws_same p (doing Crossing p) refl refl refl has;
  out = λ v asked. subst (IsLineOut v n) (sym now) (λ other is.
      let same : other ≡ chain = same_chain other chain (sym is ∙ what) in
      let out : out_of v n ≡ Asked (posting_of n (OfRaw chain)) = asked (posting_of n (OfRaw chain)) (ap (postings n) sent) in
      subst (λ x. IsRawOut x n other) (sym out) (ap (λ c. posting_of n (OfRaw c)) (sym same)));
})

issue_raws : (w w' : WorldState) (n : ℕ) → IsQuiet w → AnswersRaws w → IsIssued w n w' → AnswersRaws w'
issue_raws w w' n quiet raws i = subst AnswersRaws (sym i.after) (record {
  answered = each_has w.guest n i.process i.within raws.answered line.raws;
  out = λ m. elim (cases_eq m n) [
    | inl same ↦ subst (λ k. IsLineOut (line_begun w n i.process (postings n i.sends)) k (crossing (process_at (with_process w.guest n i.process) k))) (sym same)
        (subst (λ (p : ProcessState). IsLineOut (line_begun w n i.process (postings n i.sends)) n (crossing p)) (sym (get_or-set_same w.guest.processes n i.process no_process i.within))
        (line.out (line_begun w n i.process (postings n i.sends)) own))
    | inr other ↦ line_same (line_begun w n i.process (postings n i.sends)) w m (ap crossing (get_or-set_other w.guest.processes n m i.process no_process other)) (others m other) (raws.out m)
  ];
})
  where
    line : IsBegunLine (process_at w.guest n) i.process i.statement n i.sends
    line = begun_line i.statement.line i.statement.what (process_at w.guest n) i.process i.statement n i.sends i.now refl (raws.answered n) i.begins

    own : (m : Posting) → postings n i.sends ≡ m ∷ [] → out_of (line_begun w n i.process (postings n i.sends)) n ≡ Asked m
    own m is =
        let none : out_count w n ≡ 0 = quiet.one n ∙ ap (λ s. one_if (is_crossing s)) i.rest in
        let requests : requests_of w n ≡ [] = nil_from_length (requests_of w n) (omega (arith, none)) in
        let calls : calls_of w n ≡ [] = nil_from_length (calls_of w n) (omega (arith, none)) in
        let replies : replies_of w n ≡ [] = nil_from_length (replies_of w n) (omega (arith, none)) in
        let asked : filter (λ (y : Posting). eqb y.request.who n) (w.requests ++ postings n i.sends) ≡ m ∷ [] =
        ap (λ ms. filter (λ (y : Posting). eqb y.request.who n) (w.requests ++ ms)) is ∙ (own_posted w n m (sent_who n i.sends m is) ∙ ap (λ ms. ms ++ m ∷ []) requests) in
        λ j. out_from (asked j) (calls j) (replies j)
      where
        first_same : (a b : Posting) → a ∷ [] ≡ b ∷ [] → a ≡ b
        first_same a b same = cc

        sent_who : (n : ℕ) (o : Option Sending) (m : Posting) → postings n o ≡ m ∷ [] → m.request.who ≡ n
        sent_who n None m is = cc
        sent_who n (Some (OfCall c along)) m is = ap (λ (x : Posting). x.request.who) (first_same m (posting_of n (OfCall c along)) (sym is))
        sent_who n (Some (OfRaw chain)) m is = ap (λ (x : Posting). x.request.who) (first_same m (posting_of n (OfRaw chain)) (sym is))

    others : (m : ℕ) → ¬ (m ≡ n) → out_of (line_begun w n i.process (postings n i.sends)) m ≡ out_of w m
    others m other =
        let none : filter (λ (y : Posting). eqb y.request.who m) (postings n i.sends) ≡ [] = nil_from_length (filter (λ (y : Posting). eqb y.request.who m) (postings n i.sends)) (posted_other n m i.sends other) in
        let same : filter (λ (y : Posting). eqb y.request.who m) (w.requests ++ postings n i.sends) ≡ requests_of w m =
        filter-append (λ (y : Posting). eqb y.request.who m) w.requests (postings n i.sends) ∙ (ap (λ ms. requests_of w m ++ ms) none ∙ append-nil (requests_of w m)) in
        ap (λ ms. out_from ms (calls_of w m) (replies_of w m)) same

-- ---- Execute

none_live : (d : DeviceState) (id : ℕ) → length d.sessions ≤ 16384 → 16384 ≤ id → session_of d id ≡ None
none_live d id few past = get_or_past d.sessions id None (omega (arith, few, past))

-- a command that names no session is refused by EBADF
refused_tells : (d : DeviceState) (c : Command) (wire : List ℕ) (held : List Held) (a : Answer) → length d.sessions ≤ 16384 → NamesNone c → Performs d c wire held a → a ≡ refused Ebadf held d
refused_tells d OpenSession wire held a few none does = absurd none
refused_tells d (CloseSession id) wire held a few none is = is ∙ ap (closed d id held) (none_live d id few none)
refused_tells d (Ioctl id code p) wire held a few none (memory, is) = is ∙ ap (λ o. in_session memory d id o code p wire held) (none_live d id few none)
refused_tells d (Map id writable offset) wire held a few none maps = subst (λ o. MapsFound d held (frame_in o offset) a) (none_live d id few none) maps
refused_tells d (Unmap addr) wire held a few none does = absurd none

fault_told : (f : CmdFault) → raw_reply (errno_of_fault f) ≡ response_bytes (refusal_of_fault f)
fault_told Short = refl
fault_told UnknownCmd = refl
fault_told UnknownIoctl = refl
fault_told Room = refl

abbrev raw_returned : ℕ → RawChain → Returning
raw_returned n chain = record { reply = record { who = n; bytes = raw_reply (raw_errno chain) }; held = [] }

-- the raw line's chain goes back with its answer
record RawGoesBack (w : WorldState) (m : Posting) (chain : RawChain) (out : Option Returning) (host : Part) : Type 0 where
  told : out ≡ Some (raw_returned m.request.who chain)
  calls : host.calls ≡ w.host.calls

raw_command : (w : WorldState) (m : Posting) (chain : RawChain) (c : Command) (b : Bool) (out : Option Returning) (host : Part) → length w.host.device.sessions ≤ 16384 → m.held ≡ [] → raw_ask chain ≡ Judged (Ok c) → NamesNone c → must_wait w.host.device c ≡ b →
    ExecutedCommand b m c w.host out host → RawGoesBack w m chain out host
raw_command w m chain c true out host few empty asks none waits does = absurd (true≢false (sym waits ∙ refused_goes w.host.device c few none))
raw_command w m chain c false out host few empty asks none goes (r, d, (a, performs, told, device), out_is, host_is) =
    let tells : a ≡ refused Ebadf m.held w.host.device = refused_tells w.host.device c m.behind m.held a few none performs in
    let bytes : raw_reply (raw_errno chain) ≡ raw_reply Ebadf = ap (λ k. raw_reply (errno_for k)) asks in
    record {
      told = out_is ∙ ap Some (told ∙ (ap (λ (x : Answer). returning m (response_bytes x.response) x.held) tells ∙ (λ j. record { reply = record { who = m.request.who; bytes = sym bytes j }; held = empty j })));
      calls = ap (λ (h : Part). h.calls) host_is;
    }

raw_back : (w : WorldState) (m : Posting) (chain : RawChain) (ask : Ask) (out : Option Returning) (host : Part) → length w.host.device.sessions ≤ 16384 → m.held ≡ [] → raw_ask chain ≡ ask → IsRefused chain → ExecutedAsk ask m w.host out host → RawGoesBack w m chain out host
raw_back w m chain Unusable out host few empty asks none (told, same) =
    let bytes : raw_reply (raw_errno chain) ≡ [] = ap (λ k. raw_reply (errno_for k)) asks in
    record { told = told ∙ (λ j. Some (record { reply = record { who = m.request.who; bytes = sym bytes j }; held = empty j })); calls = ap (λ (h : Part). h.calls) same }
raw_back w m chain (Judged (Err f)) out host few empty asks none (told, same) =
    let bytes : raw_reply (raw_errno chain) ≡ response_bytes (refusal_of_fault f) = ap (λ k. raw_reply (errno_for k)) asks ∙ fault_told f in
    record { told = told ∙ (λ j. Some (record { reply = record { who = m.request.who; bytes = sym bytes j }; held = empty j })); calls = ap (λ (h : Part). h.calls) same }
raw_back w m chain (Judged (Ok c)) out host few empty asks none does = raw_command w m chain c (must_wait w.host.device c) out host few empty asks (none c asks) refl does

execute_own : (w w' : WorldState) (rows : List (List Inner)) (e : IsExecuted w w') (first : IsFirstAsked w e.posting e.rest) (what : LineKind) → IsSoundBy w rows → first.statement.what ≡ what → IsLineOut w' e.posting.request.who (crossing (process_at w.guest e.posting.request.who))
execute_own w w' rows e first (OnHandle h call) sound what = line_handle w' e.posting.request.who (is_crossing (process_at w.guest e.posting.request.who).status) (current (process_at w.guest e.posting.request.who)) first.statement h call first.now what
execute_own w w' rows e first (Raw chain) sound what =
    let m : Posting = e.posting in
    let n : ℕ = m.request.who in
    let posted : m ≡ posting_of n (OfRaw chain) = raw_posted w rows m e.rest chain sound e.first first what in
    let asks : m.request.asks ≡ raw_ask chain = ap (λ (y : Posting). y.request.asks) posted in
    let empty : m.held ≡ [] = ap (λ (y : Posting). y.held) posted in
    let back : RawGoesBack w m chain e.out e.host = raw_back w m chain (raw_ask chain) e.out e.host (few_sessions w rows sound) empty refl (raw_refused w rows n first.statement chain sound first.within first.now what)
    (subst (λ k. ExecutedAsk k m w.host e.out e.host) asks e.does) in
    let r : Returning = raw_returned n chain in
    let replies : filter (λ (y : Returning). eqb y.reply.who n) (w.replies ++ option_to_list e.out) ≡ r ∷ [] =
    ap (λ o. filter (λ (y : Returning). eqb y.reply.who n) (w.replies ++ option_to_list o)) back.told ∙ (own_more w.replies n r refl ∙ ap (λ rs. rs ++ r ∷ []) first.replies) in
    let calls : filter (λ (c : WaitingCall). eqb c.posting.request.who n) e.host.calls ≡ [] = ap (filter (λ (c : WaitingCall). eqb c.posting.request.who n)) back.calls ∙ first.calls in
    let out : out_of w' n ≡ Told r = ap (λ v. out_of v n) e.after ∙ (λ j. out_from (first.requests j) (calls j) (replies j)) in
    let crosses : crossing (process_at w.guest n) ≡ Some first.statement = ap (λ t. some_if (is_crossing t) (current (process_at w.guest n))) first.status ∙ first.now in
    subst (IsLineOut w' n) (sym crosses) (λ other is.
    let same : other ≡ chain = same_chain other chain (sym is ∙ what) in
    subst (λ x. IsRawOut x n other) (sym out) (ap (raw_returned n) (sym same)))

pub execute_others : (w w' : WorldState) (e : IsExecuted w w') (i : ℕ) → ¬ (i ≡ e.posting.request.who) → out_of w' i ≡ out_of w i
execute_others w w' e i apart = by_shape e.shape
  where
    by_shape : IsAnsweredFirst w e.posting e.rest w' ⊎ IsKeptFirst w e.posting e.rest w' → out_of w' i ≡ out_of w i
    by_shape (inl a) = ap (λ v. out_of v i) a.after ∙ (λ j. out_from (others_first w e.posting e.rest i e.first apart j) (calls_of w i) (others_more w.replies e.posting.request.who i a.told a.who apart j))
    by_shape (inr k) = ap (λ v. out_of v i) k.after ∙ (λ j. out_from (others_first w e.posting e.rest i e.first apart j)
        (put_off (λ (y : WaitingCall). eqb y.posting.request.who i) (λ (y : WaitingCall). y.session) (record { session = k.session; posting = e.posting }) w.host.calls (ne_eqb e.posting.request.who i (λ same. apart (sym same))) j) (replies_of w i))

execute_guest : (w w' : WorldState) (e : IsExecuted w w') → w'.guest ≡ w.guest
execute_guest w w' e = ap (λ (v : WorldState). v.guest) e.after

-- where the driver stays as it was
guest_raws : (w w' : WorldState) → w'.guest ≡ w.guest → AnswersRaws w → ((n : ℕ) → IsLineOut w' n (crossing (process_at w.guest n))) → AnswersRaws w'
guest_raws w w' guest raws out = record {
  answered = λ n. subst (λ (g : GuestState). HasRaws (process_at g n)) (sym guest) (raws.answered n);
  out = λ n. subst (λ (g : GuestState). IsLineOut w' n (crossing (process_at g n))) (sym guest) (out n);
}

execute_raws : (w w' : WorldState) (rows : List (List Inner)) → IsSoundBy w rows → IsExecuted w w' → AnswersRaws w'
execute_raws w w' rows sound e =
    let first : IsFirstAsked w e.posting e.rest = asked_first w rows e.posting e.rest sound e.first in
    guest_raws w w' (execute_guest w w' e) sound.raws (λ n. elim (cases_eq n e.posting.request.who) [
      | inl same ↦ subst (λ i. IsLineOut w' i (crossing (process_at w.guest i))) (sym same) (execute_own w w' rows e first first.statement.what sound refl)
      | inr apart ↦ out_same w' w n (crossing (process_at w.guest n)) (execute_others w w' e n apart) (sound.raws.out n)
    ])

-- ---- Resume

resume_raws : (w w' : WorldState) (rows : List (List Inner)) (session : ℕ) → IsSoundBy w rows → IsResumed w session w' → AnswersRaws w'
resume_raws w w' rows session sound r =
    let one : _ = one_kept w rows r.call sound r.there in
    let who : r.call.posting.request.who ≡ one.0 = one.2.who in
    guest_raws w w' (ap (λ (v : WorldState). v.guest) r.after) sound.raws (λ n. elim (cases_eq n one.0) [
      | inl same ↦ subst (λ i. IsLineOut w' i (crossing (process_at w.guest i))) (sym same)
          (line_called w' one.0 one.1 (is_crossing (process_at w.guest one.0).status) (current (process_at w.guest one.0)) one.2.on)
      | inr apart ↦ out_same w' w n (crossing (process_at w.guest n)) (ap (λ v. out_of v n) r.after ∙ (λ j. out_from (requests_of w n)
          (out_off (λ (y : WaitingCall). eqb y.posting.request.who n) (λ (y : WaitingCall). y.session) r.call.session r.call w.host.calls r.finds (ne_eqb r.call.posting.request.who n (λ is. apart (sym is ∙ who))) j)
          (others_more w.replies one.0 n (told_by r.call.posting r.answer) who apart j))) (sound.raws.out n)
    ])

-- ---- Begin, Finish and Announce

device_raws : (w w' : WorldState) → AnswersRaws w → w'.guest ≡ w.guest → ((n : ℕ) → out_of w' n ≡ out_of w n) → AnswersRaws w'
device_raws w w' raws guest out = guest_raws w w' guest raws (λ n. out_same w' w n (crossing (process_at w.guest n)) (out n) (raws.out n))

-- ---- Collect

errno_again : (e : Errno) → errno_told (raw_reply e) ≡ Some e
errno_again Eio = refl
errno_again Enoent = refusal_told Enoent
errno_again Ebadf = refusal_told Ebadf
errno_again Eagain = refusal_told Eagain
errno_again Enomem = refusal_told Enomem
errno_again Eacces = refusal_told Eacces
errno_again Efault = refusal_told Efault
errno_again Ebusy = refusal_told Ebusy
errno_again Einval = refusal_told Einval
errno_again Enotty = refusal_told Enotty
errno_again Edeadlk = refusal_told Edeadlk
errno_again Emsgsize = refusal_told Emsgsize
errno_again Eopnotsupp = refusal_told Eopnotsupp

-- the raw line that is answered has its errno
raw_answered : (p : ProcessState) (s : Statement) (chain : RawChain) → current p ≡ Some s → s.what ≡ Raw chain → p.answered < length p.raws → HasRaws p → HasRaws (rested (record p { raws = set p.raws p.answered (Some (raw_errno chain)) }))
raw_answered p s chain now what room has k t other at is before = elim (cases_eq k p.answered) [
  | inl same ↦ (
      let line : t ≡ s = same_line t s (sym at ∙ (ap (slice_get p.statements) same ∙ now)) in
      let chains : other ≡ chain = same_chain other chain (sym is ∙ (ap (λ (x : Statement). x.what) line ∙ what)) in
      ap (λ i. get_or (set p.raws p.answered (Some (raw_errno chain))) i None) same ∙ (get_or-set_same p.raws p.answered (Some (raw_errno chain)) None room ∙ ap (λ c. Some (raw_errno c)) (sym chains)))
  | inr apart ↦ get_or-set_other p.raws p.answered k (Some (raw_errno chain)) None apart ∙ has k t other at is (omega (arith, before, apart))
]

same_errno : (a b : Errno) → ◌≡◌ {A = Option Errno} (Some a) (Some b) → a ≡ b
same_errno a b same = cc

answered_raws : (w w' : WorldState) (rows : List (List Inner)) (c : IsCollected w w') (what : LineKind) → IsSoundBy w rows → c.statement.what ≡ what → AnsweredFor c.statement.line what (process_at w.guest c.told.reply.who) c.told c.process → HasRaws c.process
answered_raws w w' rows c (OnHandle h call) sound what answers =
    let p : ProcessState = process_at w.guest c.told.reply.who in
    let may = answers.may.may in
    let after = answers.after may.reply (may.next, may.session, (may.is_call, may.told)) in
    subst HasRaws (sym after) (raws_next_line p (rested (with_handle p h (with_reply (handle_at p h) c.statement.line call may.reply (response_of answers.command c.told.reply.bytes) c.told.held))) c.statement h call c.now what refl refl refl (sound.raws.answered c.told.reply.who))
answered_raws w w' rows c (Raw chain) sound what (errno, told, after) =
    let n : ℕ = c.told.reply.who in
    let p : ProcessState = process_at w.guest n in
    let first : IsFirstTold w c.told = told_first w rows c.told c.rest sound c.first in
    let crosses : crossing p ≡ Some c.statement = ap (λ t. some_if (is_crossing t) (current p)) c.status ∙ c.now in
    let line : IsLineOut w n (Some c.statement) = subst (IsLineOut w n) crosses (sound.raws.out n) in
    let is : IsRawOut (Told c.told) n chain = subst (λ o. IsRawOut o n chain) first.out (line chain what) in
    let bytes : c.told.reply.bytes ≡ raw_reply (raw_errno chain) = ap (λ (r : Returning). r.reply.bytes) is in
    let same : errno ≡ raw_errno chain = same_errno errno (raw_errno chain) (sym told ∙ (ap errno_told bytes ∙ errno_again (raw_errno chain))) in
    let orderly : IsOrderly w.script.model (lines_at w.script n) p = sound.lines.orderly n c.within in
    let came : begun p ≡ p.answered + 1 = ap (λ t. if is_at_rest t then p.answered else p.answered + 1) c.status in
    let room : p.answered < length p.raws = omega (arith, came, orderly.within, orderly.all_raws) in
    subst HasRaws (sym (after ∙ ap (λ x. rested (record p { raws = set p.raws p.answered (Some x) })) same)) (raw_answered p c.statement chain c.now what room (sound.raws.answered n))

collect_raws : (w w' : WorldState) (rows : List (List Inner)) → IsSoundBy w rows → IsCollected w w' → AnswersRaws w'
collect_raws w w' rows sound c = subst AnswersRaws (sym c.after) (record {
  answered = λ m. elim (cases_eq m c.told.reply.who) [
    | inl same ↦ subst (λ i. HasRaws (process_at g i)) (sym same)
        (raws_same c.process (process_at g c.told.reply.who) has.own.statements has.own.raws has.own.answered (answered_raws w w' rows c c.statement.what sound refl c.answers))
    | inr other ↦ subst HasRaws (sym (has.others m other)) (sound.raws.answered m)
  ];
  out = λ m. elim (cases_eq m c.told.reply.who) [
    | inl same ↦ subst (λ i. IsLineOut (reply_collected w g c.rest) i (crossing (process_at g i))) (sym same)
        (line_rests (reply_collected w g c.rest) c.told.reply.who (process_at g c.told.reply.who) (ap is_crossing has.rest))
    | inr other ↦ line_same (reply_collected w g c.rest) w m (ap crossing (has.others m other))
        (ap (λ rs. out_from (requests_of w m) (calls_of w m) rs) (others_told w c.told c.rest m c.first other)) (sound.raws.out m)
  ];
})
  where
    g : GuestState
    g = settled c.statement.what (with_process w.guest c.told.reply.who c.process) c.told.reply.who

    has : HasCollected w c.told.reply.who c.process (settled c.statement.what (with_process w.guest c.told.reply.who c.process) c.told.reply.who)
    has = has_collected w w' c

-- ---- each step

pub raws_next : (w w' : WorldState) (s : Step) → IsSound w → TakesNone w s → Steps w s w' → AnswersRaws w'
raws_next w w' (Issue n) (rows, sound) none does = issue_raws w w' n sound.quiet sound.raws (is_issued w w' n none does)
raws_next w w' Execute (rows, sound) none does = execute_raws w w' rows sound (is_executed w w' does)
raws_next w w' (Resume session) (rows, sound) none does = resume_raws w w' rows session sound (is_resumed w w' session does)
raws_next w w' (Begin session) (rows, sound) none does =
    let b : IsJobBegun w session w' = is_job_begun w w' session does in
    device_raws w w' sound.raws (ap (λ (v : WorldState). v.guest) b.after) (λ n. ap (λ v. out_of v n) b.after)
raws_next w w' (Finish number) (rows, sound) none does =
    let f : IsFinished w w' = is_finished w w' number does in
    device_raws w w' sound.raws (ap (λ (v : WorldState). v.guest) f.after) (λ n. ap (λ v. out_of v n) f.after)
raws_next w w' Announce (rows, sound) none does =
    let a : IsAnnounced w w' = is_announced w w' does in
    device_raws w w' sound.raws (ap (λ (v : WorldState). v.guest) a.after) (λ n. ap (λ v. out_of v n) a.after)
raws_next w w' Collect (rows, sound) none does = collect_raws w w' rows sound (is_collected w w' none does)
raws_next w w' Pump sound none does = (pump_keeps w w' sound does).1.raws
raws_next w w' (Lease n) (rows, sound) none does = lease_raws w w' n sound.raws (is_leased_to w w' n does)
raws_next w w' (GiveBack n) (rows, sound) none does = give_back_raws w w' n sound.raws (is_given_back w w' n does)
