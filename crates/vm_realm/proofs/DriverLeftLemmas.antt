-- Each step of the driver lowers what is left.
use Rattle.std.proofs.Common.{◌≡◌, ℕ, ◌+◌, ◌*◌, ◌-◌, ◌<◌, ◌≤◌, Bool, true, false, List, [], ◌∷◌, Option, Some, None, Ok, Err, is_some, length, refl, sym, ap, ◌∙◌, subst, arith}
use Rattle.std.specs.Prelude.{sum_by}
use Rattle.std.proofs.lemmas.Bool.{false≢true}
use Rattle.std.proofs.lemmas.List.Sums.{sum_by-cons, sum_by-append}
use Rattle.std.proofs.lemmas.Option.{option_and_then_some}
use Rattle.vm_link.specs.declared.link.Turn.TheVariants.{Did}
use Rattle.vm_log.specs.declared.leased.Leased.{Leased}
use Rattle.vm_wire.specs.Message.{Ask, Posting, Returning}
use Rattle.vm_wire.specs.Message.Ask.{Unusable, Judged}
use Rattle.vm_wire.specs.declared.command.Command.{Command}
use Rattle.vm_wire.specs.declared.command.Command.TheVariants.{OpenSession, CloseSession, Ioctl, Map, Unmap}
use Rattle.vm_wire.specs.declared.delivery.Delivery.{Delivery}
use Rattle.v4l_const.specs.declared.ioctl_code.IoctlCode.TheVariants.{QBuf}
use Rattle.vm_guest.specs.Asking.{asked_by, is_leased, begins_with_events, ends_with_events}
use Rattle.vm_guest.specs.Events.{all_taken}
use Rattle.vm_guest.specs.Guest.{GuestState, no_process, process_at, with_process}
use Rattle.vm_guest.specs.Lines.{returned}
use Rattle.vm_guest.specs.Message.{Sending, posting_of}
use Rattle.vm_guest.specs.Part.{Inbox, Outbox, postings, none_if, IssuesFor, Issues, CollectsFirst, CollectsFrom, Collects, PumpsFrom, Pumps}
use Rattle.vm_guest.specs.Process.{ProcessState, is_blocked, issuing, leasing, next, kept_by, current, lease_out}
use Rattle.vm_guest.specs.Steps.{all_if, Issued, LeasesFor, given_back}
use Rattle.vm_guest.specs.declared.asked.Asked.{Asked}
use Rattle.vm_guest.specs.declared.asked.Statement.{Statement}
use Rattle.vm_guest.specs.declared.status.Status.TheVariants.{Crossing}
use Rattle.vm_realm.specs.World.{WorldState}
use Rattle.vm_realm.specs.Left.{command_weight, request_weight, left_of}
use Rattle.vm_realm.specs.Steps.{inbox_of, after_driver, DriverDoes, DoesLease, DoesGiveBack}
use Rattle.vm_realm.proofs.SumLemmas.{sum_set_few, sum_set_falls, place_within}
use Rattle.vm_realm.proofs.ProcessLemmas.{weight, weights, ahead_of, rest_weight, begun_weight, next_is, kept_some, crossing_where, Stays}
use Rattle.vm_realm.proofs.GuestLemmas.{all_weight, taken_weight, taken_count, taken_stays, settled_weight}
use Rattle.vm_realm.proofs.StatementLemmas.{begins_goes, answered_goes, leases_goes, returned_falls}

-- ---- the weights

few_command : (c : Command) → command_weight c ≤ 9
few_command OpenSession = omega arith
few_command (CloseSession session) = omega arith
few_command (Ioctl session QBuf payload) = omega arith
few_command (Ioctl session code payload) = omega arith
few_command (Map session writable offset) = omega arith
few_command (Unmap addr) = omega arith

few_asked : (a : Ask) → request_weight a ≤ 9
few_asked Unusable = omega arith
few_asked (Judged (Ok c)) = few_command c
few_asked (Judged (Err fault)) = omega arith

abbrev pub asked_weight : List Posting → ℕ
asked_weight ms = sum_by (λ m. request_weight m.request.asks) ms

few_posted : (n : ℕ) (o : Option Sending) → asked_weight (postings n o) ≤ 9
few_posted n None = omega arith
few_posted n (Some sending) =
    omega (arith, sum_by-cons (λ (m : Posting). request_weight m.request.asks) (posting_of n sending) [], few_asked (posting_of n sending).request.asks)

few_left : (b : Bool) (ds : List Delivery) → length (none_if b ds) ≤ length ds
few_left true ds = omega arith
few_left false ds = omega arith

-- ---- a process is exchanged

process_falls : (g : GuestState) (n k : ℕ) (p : ProcessState) → n < length g.processes → weight p + k ≤ weight (process_at g n) → all_weight (with_process g n p) + k ≤ all_weight g
process_falls g n k p within less = sum_set_falls weight g.processes n k p no_process within less

process_stays : (g : GuestState) (n : ℕ) (p : ProcessState) → weight p ≤ weight (process_at g n) → all_weight (with_process g n p) ≤ all_weight g
process_stays g n p less =
    let few = sum_set_few weight g.processes n 0 p no_process (omega (arith, less)) in
    omega (arith, few)

-- ---- what the driver comes to

-- Where the driver is lowered by more than what it posted, and nothing was added for it, less is left.
driver_falls : (w : WorldState) (g : GuestState) (left : Inbox) (posted : Outbox) → length left.replies ≤ length w.replies → length left.events ≤ length w.events →
    all_weight g + asked_weight posted.commands + length left.replies + length left.events + 1 ≤ all_weight w.guest + length w.replies + length w.events →
    left_of (after_driver w g left posted) < left_of w
driver_falls w g left posted replies events less =
    omega (arith, less, weights g.processes, weights w.guest.processes, sum_by-append (λ (m : Posting). request_weight m.request.asks) w.requests posted.commands)

-- ---- Issue

issue_some : (w : WorldState) (n : ℕ) (o : Option Statement) → issuing (process_at w.guest n) ≡ o → is_some o ≡ true → (g : GuestState) (left : Inbox) (posted : Outbox) →
    IssuesFor o n w.guest (inbox_of w) Did g left posted → left_of (after_driver w g left posted) < left_of w
issue_some w n None is may g left posted does = absurd (false≢true may)
issue_some w n (Some s) is may g left posted (turn, does) =
    let issued : Issued n s w.guest (all_if (begins_with_events s.what) w.events) g does.sends = does.issued in
    let events : List Delivery = all_if (begins_with_events s.what) w.events in
    let taken : GuestState = all_taken w.guest events in
    let p : ProcessState = process_at w.guest n in
    let q : ProcessState = process_at taken n in
    let first : _ = next_is p s (kept_some _ (next p) s is) in
    let stays : Stays p q = taken_stays w.guest events n (ap is_blocked first.0) in
    let was : weight q ≡ 12 * (length q.statements - q.answered) = rest_weight q (stays.status ∙ first.0) in
    let goes : weight issued.process ≡ 12 * ahead_of q = begins_goes s.line s.what q issued.process does.sends issued.begins in
    let within : n < length w.guest.processes = place_within (λ x. is_some (issuing x)) w.guest.processes n no_process refl (ap is_some is) in
    let falls : all_weight (with_process taken n issued.process) + 12 ≤ all_weight taken =
    process_falls taken n 12 issued.process (omega (arith, within, taken_count w.guest events))
    (omega (arith, was, goes, first.1, ap length stays.statements, stays.answered)) in
    let few : asked_weight posted.commands ≤ 9 = subst (λ ms. asked_weight ms ≤ 9) (sym does.commands) (few_posted n does.sends) in
    let replies : length left.replies ≡ length w.replies = ap (λ (i : Inbox). length i.replies) does.left in
    let fewer : length left.events ≤ length w.events = subst (λ (i : Inbox). length i.events ≤ length w.events) (sym does.left) (few_left (begins_with_events s.what) w.events) in
    driver_falls w g left posted (omega (arith, replies)) fewer
    (omega (arith, few, replies, fewer, falls, taken_weight w.guest events, ap all_weight issued.after))

pub issue_falls : (w w' : WorldState) (n : ℕ) → is_some (issuing (process_at w.guest n)) ≡ true → DriverDoes (Issues n) w w' → left_of w' < left_of w
issue_falls w w' n may (g, left, posted, does, after) =
    subst (λ x. left_of x < left_of w) (sym after) (issue_some w n (issuing (process_at w.guest n)) refl may g left posted does)

-- ---- Collect

collect_first : (w : WorldState) (r : Returning) (rs : List Returning) (g : GuestState) (left : Inbox) (posted : Outbox) → w.replies ≡ r ∷ rs →
    CollectsFirst r rs w.guest (inbox_of w) g left posted → left_of (after_driver w g left posted) < left_of w
collect_first w r rs g left posted is does =
    let what = does.statement.what in
    let who : ℕ = r.reply.who in
    let events : List Delivery = all_if (ends_with_events what) w.events in
    let taken : GuestState = all_taken w.guest events in
    let p : ProcessState = process_at w.guest who in
    let q : ProcessState = process_at taken who in
    let status : p.status ≡ Crossing = crossing_where p (current p) does.statement does.under_way in
    let stays : Stays p q = taken_stays w.guest events who (ap is_blocked status) in
    let was : weight q ≡ 12 * (length q.statements - (q.answered + 1)) = begun_weight q Crossing (stays.status ∙ status) refl refl in
    let goes : weight does.collected.process ≡ 12 * ahead_of q = answered_goes does.statement.line what q does.collected.process r does.collected.answers in
    let same : all_weight (with_process taken who does.collected.process) ≤ all_weight taken = process_stays taken who does.collected.process (omega (arith, was, goes)) in
    let settles : all_weight g ≤ all_weight (with_process taken who does.collected.process) =
    omega (arith, ap all_weight does.collected.after, settled_weight what (with_process taken who does.collected.process) who) in
    let none : asked_weight posted.commands ≡ 0 = ap asked_weight does.commands in
    let replies : length left.replies ≡ length rs = ap (λ (i : Inbox). length i.replies) does.left in
    let fewer : length left.events ≤ length w.events = subst (λ (i : Inbox). length i.events ≤ length w.events) (sym does.left) (few_left (ends_with_events what) w.events) in
    let all : length w.replies ≡ length rs + 1 = omega (arith, ap length is) in
    driver_falls w g left posted (omega (arith, replies, all)) fewer
    (omega (arith, none, replies, all, fewer, same, settles, taken_weight w.guest events))

collect_some : (w : WorldState) (rs : List Returning) → w.replies ≡ rs → (g : GuestState) (left : Inbox) (posted : Outbox) →
    CollectsFrom rs w.guest (inbox_of w) Did g left posted → left_of (after_driver w g left posted) < left_of w
collect_some w [] is g left posted (turn, same, kept, none) = cc
collect_some w (r ∷ rs) is g left posted (turn, does) = collect_first w r rs g left posted is does

pub collect_falls : (w w' : WorldState) → DriverDoes Collects w w' → left_of w' < left_of w
collect_falls w w' (g, left, posted, does, after) =
    subst (λ x. left_of x < left_of w) (sym after) (collect_some w w.replies refl g left posted does)

-- ---- Pump

pump_some : (w : WorldState) (ds : List Delivery) → w.events ≡ ds → (g : GuestState) (left : Inbox) (posted : Outbox) →
    PumpsFrom ds w.guest (inbox_of w) Did g left posted → left_of (after_driver w g left posted) < left_of w
pump_some w [] is g left posted (turn, same, kept, none) = cc
pump_some w (d ∷ ds) is g left posted (turn, takes, leaves, posts) =
    let few = taken_weight w.guest (d ∷ []) in
    let none : asked_weight posted.commands ≡ 0 = ap (λ (o : Outbox). asked_weight o.commands) posts in
    let replies : length left.replies ≡ length w.replies = ap (λ (i : Inbox). length i.replies) leaves in
    let events : length left.events ≡ length ds = ap (λ (i : Inbox). length i.events) leaves in
    let all : length w.events ≡ length ds + 1 = omega (arith, ap length is) in
    driver_falls w g left posted (omega (arith, replies)) (omega (arith, events, all))
    (omega (arith, none, replies, events, all, few, ap all_weight takes))

pub pump_falls : (w w' : WorldState) → DriverDoes Pumps w w' → left_of w' < left_of w
pump_falls w w' (g, left, posted, does, after) =
    subst (λ x. left_of x < left_of w) (sym after) (pump_some w w.events refl g left posted does)

-- ---- Lease

guest_falls : (w : WorldState) (g : GuestState) → all_weight g < all_weight w.guest → left_of (record w { guest = g }) < left_of w
guest_falls w g less = omega (arith, less, weights g.processes, weights w.guest.processes)

lease_some : (w : WorldState) (n : ℕ) (o : Option Asked) → leasing (process_at w.guest n) ≡ o → is_some o ≡ true → (leased : Leased) (g : GuestState) →
    LeasesFor o n w.guest leased g → all_weight g < all_weight w.guest
lease_some w n None is may leased g does = absurd (false≢true may)
lease_some w n (Some a) is may leased g (process, leases, after) =
    let p : ProcessState = process_at w.guest n in
    let within : n < length w.guest.processes = place_within (λ x. is_some (leasing x)) w.guest.processes n no_process refl (ap is_some is) in
    option_and_then_some asked_by (kept_by is_leased (next p)) a is
    (λ s kept asked.
    let first : _ = next_is p s (kept_some is_leased (next p) s kept) in
    let was : weight p ≡ 12 * (length p.statements - p.answered) = rest_weight p first.0 in
    let falls : all_weight (with_process w.guest n process) + 1 ≤ all_weight w.guest =
    process_falls w.guest n 1 process within (omega (arith, was, first.1, leases_goes a p process leased leases)) in
    omega (arith, falls, ap all_weight after))

pub lease_falls : (w w' : WorldState) (n : ℕ) → is_some (leasing (process_at w.guest n)) ≡ true → DoesLease n w w' → left_of w' < left_of w
lease_falls w w' n may (leased, g, does, after) =
    subst (λ x. left_of x < left_of w) (sym after) (guest_falls w g (lease_some w n (leasing (process_at w.guest n)) refl may leased g does))

-- ---- GiveBack

pub give_back_falls : (w w' : WorldState) (n : ℕ) → DoesGiveBack n w w' → left_of w' < left_of w
give_back_falls w w' n (entry, lease, out, back, after) =
    let p : ProcessState = process_at w.guest n in
    let within : n < length w.guest.processes = place_within (λ x. is_some (lease_out x)) w.guest.processes n no_process refl (ap is_some out) in
    let falls : all_weight (with_process w.guest n (returned p lease)) + 1 ≤ all_weight w.guest =
    process_falls w.guest n 1 (returned p lease) within (returned_falls p entry lease out) in
    subst (λ x. left_of x < left_of w) (sym after) (guest_falls w (given_back n w.guest lease) (omega (arith, falls)))
