-- A step that takes all events first is as many steps that take one, and then itself.
use Rattle.std.proofs.Common.{◌≡◌, ℕ, ◌+◌, Bool, true, false, List, [], ◌∷◌, Option, Some, None, is_some, length, refl, sym, ap, ◌∙◌, subst, arith}
use Rattle.std.specs.Prelude.{replicate}
use Rattle.std.proofs.lemmas.Bool.{false≢true}
use Rattle.std.proofs.lemmas.List.{append-nil}
use Rattle.vm_link.specs.declared.link.Turn.TheVariants.{Did}
use Rattle.vm_wire.specs.Message.{Returning}
use Rattle.vm_wire.specs.declared.delivery.Delivery.{Delivery}
use Rattle.vm_guest.specs.Asking.{begins_with_events, ends_with_events}
use Rattle.vm_guest.specs.Events.{taken, all_taken}
use Rattle.vm_guest.specs.Guest.{GuestState, process_at}
use Rattle.vm_guest.specs.Message.{Sending}
use Rattle.vm_guest.specs.Part.{Inbox, Outbox, postings, none_if, IssuesFor, CollectsFirst, CollectsFrom, PumpsFrom}
use Rattle.vm_guest.specs.Process.{ProcessState, is_blocked, next, current, issuing, crossing}
use Rattle.vm_guest.specs.Steps.{all_if, Issued, Collected}
use Rattle.vm_guest.specs.declared.asked.Statement.{Statement}
use Rattle.vm_guest.specs.declared.status.Status.TheVariants.{AtRest, Crossing}
use Rattle.vm_realm.specs.declared.step.Step.{Step}
use Rattle.vm_realm.specs.declared.step.Step.TheVariants.{Issue, Execute, Resume, Begin, Finish, Announce, Collect, Pump, Lease, GiveBack}
use Rattle.vm_realm.specs.World.{WorldState}
use Rattle.vm_realm.specs.Enabled.{is_some_of}
use Rattle.vm_realm.specs.Steps.{inbox_of, after_driver, Steps, Leads}
use Rattle.vm_realm.specs.SliceSteps.{takes_by, takes_for, takes_all}
use Rattle.vm_realm.proofs.ProcessLemmas.{Stays, next_is, kept_some, crossing_where}
use Rattle.vm_realm.proofs.GuestLemmas.{taken_stays}

-- ---- events are taken, one after the other

abbrev one_taken : Outbox
one_taken = record { commands = []; chains = 1 }

-- the world once its first event was taken, and these are left
abbrev pub pumped_once : WorldState → Delivery → List Delivery → WorldState
pumped_once w d ds = after_driver w (taken w.guest d) (record { replies = w.replies; events = ds }) one_taken

pub pump_may : (w : WorldState) (d : Delivery) (ds : List Delivery) → w.events ≡ d ∷ ds → Steps w Pump (pumped_once w d ds)
pump_may w d ds is = (
  ap is_some_of is,
  (
    taken w.guest d,
    record { replies = w.replies; events = ds },
    one_taken,
    subst (λ es. PumpsFrom es w.guest (inbox_of w) Did (taken w.guest d) (record { replies = w.replies; events = ds }) one_taken) (sym is) (refl, refl, refl, refl),
    refl,
  ),
)

-- once all were taken
abbrev pub pumped : WorldState → List Delivery → WorldState
pumped w ds = record w { guest = all_taken w.guest ds; chains = w.chains + length ds; events = [] }

pumped_none : (w : WorldState) → w.events ≡ [] → pumped w [] ≡ w
pumped_none w is = let same : w.chains + 0 ≡ w.chains = omega arith in λ j. record w { chains = same j; events = sym is j }

pumped_more : (w : WorldState) (d : Delivery) (ds : List Delivery) → pumped (pumped_once w d ds) ds ≡ pumped w (d ∷ ds)
pumped_more w d ds =
    let same : (w.chains + 1) + length ds ≡ w.chains + length (d ∷ ds) = omega arith in
    λ j. record w { guest = all_taken (taken w.guest d) ds; requests = append-nil w.requests j; chains = same j; events = [] }

pub pumps_all : (w : WorldState) (ds : List Delivery) → w.events ≡ ds → Leads w (replicate (length ds) Pump) (pumped w ds)
pumps_all w [] is = pumped_none w is
pumps_all w (d ∷ ds) is = (
  pumped_once w d ds,
  pump_may w d ds is,
  subst (λ x. Leads (pumped_once w d ds) (replicate (length ds) Pump) x) (pumped_more w d ds) (pumps_all (pumped_once w d ds) ds refl),
)

-- ---- the process is as it was

issuing_stays : (p q : ProcessState) → Stays p q → issuing q ≡ issuing p
issuing_stays p q s = λ j. issuing (record p { statements = s.statements j; answered = s.answered j; status = s.status j })

pub crossing_stays : (p q : ProcessState) → Stays p q → crossing q ≡ crossing p
crossing_stays p q s = λ j. crossing (record p { statements = s.statements j; answered = s.answered j; status = s.status j })

takes_some : (o : Option Statement) (test : Statement → Bool) → takes_by o test ≡ true → (s : Statement) × (o ≡ Some s) × (test s ≡ true)
takes_some None test takes = absurd (false≢true takes)
takes_some (Some s) test takes = (s, refl, takes)

none_taken : {A : Type 0} (b : Bool) → all_if {A = A} b [] ≡ []
none_taken true = refl
none_taken false = refl

none_left : {A : Type 0} (b : Bool) → none_if {A = A} b [] ≡ []
none_left true = refl
none_left false = refl

-- ---- Issue

-- what the step does once all events were taken
issue_then : (w : WorldState) (n : ℕ) (s : Statement) (g : GuestState) (left : Inbox) (posted : Outbox) → begins_with_events s.what ≡ true → issuing (process_at w.guest n) ≡ Some s →
    IssuesFor (Some s) n w.guest (inbox_of w) Did g left posted → Steps (pumped w w.events) (Issue n) (after_driver w g left posted)
issue_then w n s g left posted first is (turn, d) =
    let sends : Option Sending = d.sends in
    let issued : Issued n s w.guest (all_if (begins_with_events s.what) w.events) g sends = d.issued in
    let u : WorldState = pumped w w.events in
    let p : ProcessState = process_at w.guest n in
    let rest : p.status ≡ AtRest = (next_is p s (kept_some _ (next p) s is)).0 in
    let stays : Stays p (process_at u.guest n) = taken_stays w.guest w.events n (ap is_blocked rest) in
    let same : issuing (process_at u.guest n) ≡ Some s = issuing_stays p (process_at u.guest n) stays ∙ is in
    let kept_with : List Delivery → Inbox = λ es. record { replies = w.replies; events = es } in
    let gives_for : List Delivery → Outbox = λ es. record { commands = postings n sends; chains = length es } in
    let kept : Inbox = record { replies = w.replies; events = [] } in
    let gives : Outbox = record { commands = postings n sends; chains = 0 } in
    let taken : all_if (begins_with_events s.what) w.events ≡ w.events = ap (λ b. all_if b w.events) first in
    let begins : Issued n s w.guest w.events g sends = subst (λ es. Issued n s w.guest es g sends) taken issued in
    let again : Issued n s u.guest (all_if (begins_with_events s.what) []) g sends =
    subst (λ es. Issued n s u.guest es g sends) (sym (none_taken (begins_with_events s.what))) (record { process = begins.process; begins = begins.begins; after = begins.after }) in
    let does : IssuesFor (Some s) n u.guest (inbox_of u) Did g kept gives = (
      refl,
      record {
        sends = sends;
        issued = again;
        left = ap kept_with (sym (none_left (begins_with_events s.what)));
        commands = refl;
        chains = ap length (sym (none_taken (begins_with_events s.what)));
      },
    ) in
    let here : left ≡ kept = d.left ∙ ap (λ b. kept_with (none_if b w.events)) first in
    let told : posted ≡ gives_for w.events = (λ j. record { commands = d.commands j; chains = d.chains j }) ∙ ap gives_for taken in
    let chains : w.chains + length w.events ≡ (w.chains + length w.events) + 0 = omega arith in
    let ends : after_driver w g left posted ≡ after_driver u g kept gives =
    ap (λ i. after_driver w g i posted) here ∙ (ap (λ o. after_driver w g kept o) told ∙ ap (λ k. record (after_driver u g kept gives) { chains = k }) chains) in
    (ap is_some same, (g, kept, gives, subst (λ o. IssuesFor o n u.guest (inbox_of u) Did g kept gives) (sym same) does, ends))

-- ---- Collect

collect_then : (w : WorldState) (r : Returning) (rs : List Returning) (g : GuestState) (left : Inbox) (posted : Outbox) → w.replies ≡ r ∷ rs →
    (d : CollectsFirst r rs w.guest (inbox_of w) g left posted) → ends_with_events d.statement.what ≡ true → Steps (pumped w w.events) Collect (after_driver w g left posted)
collect_then w r rs g left posted is d first =
    let u : WorldState = pumped w w.events in
    let who : ℕ = r.reply.who in
    let p : ProcessState = process_at w.guest who in
    let status : p.status ≡ Crossing = crossing_where p (current p) d.statement d.under_way in
    let stays : Stays p (process_at u.guest who) = taken_stays w.guest w.events who (ap is_blocked status) in
    let kept_with : List Delivery → Inbox = λ es. record { replies = rs; events = es } in
    let gives_for : List Delivery → Outbox = λ es. record { commands = []; chains = length es } in
    let kept : Inbox = record { replies = rs; events = [] } in
    let gives : Outbox = record { commands = []; chains = 0 } in
    let b : Bool = ends_with_events d.statement.what in
    let taken : all_if b w.events ≡ w.events = ap (λ c. all_if c w.events) first in
    let answers : Collected d.statement w.guest w.events r g = subst (λ es. Collected d.statement w.guest es r g) taken d.collected in
    let again : Collected d.statement u.guest (all_if b []) r g =
    subst (λ es. Collected d.statement u.guest es r g) (sym (none_taken b)) (record { process = answers.process; answers = answers.answers; after = answers.after }) in
    let does : CollectsFirst r rs u.guest (inbox_of u) g kept gives = record {
      statement = d.statement;
      under_way = crossing_stays p (process_at u.guest who) stays ∙ d.under_way;
      collected = again;
      left = ap kept_with (sym (none_left b));
      commands = refl;
      chains = ap length (sym (none_taken b));
    } in
    let here : left ≡ kept = d.left ∙ ap (λ c. kept_with (none_if c w.events)) first in
    let told : posted ≡ gives_for w.events = (λ j. record { commands = d.commands j; chains = d.chains j }) ∙ ap gives_for taken in
    let chains : w.chains + length w.events ≡ (w.chains + length w.events) + 0 = omega arith in
    let ends : after_driver w g left posted ≡ after_driver u g kept gives =
    ap (λ i. after_driver w g i posted) here ∙ (ap (λ o. after_driver w g kept o) told ∙ ap (λ k. record (after_driver u g kept gives) { chains = k }) chains) in
    (ap is_some_of is, (g, kept, gives, subst (λ qs. CollectsFrom qs u.guest (inbox_of u) Did g kept gives) (sym is) (refl, does), ends))

-- ---- both

-- all events are taken, and then the step is done
abbrev pub PumpsThen : WorldState → Step → WorldState → Type 0
PumpsThen w s w' = (u : WorldState) × Leads w (replicate (length w.events) Pump) u × (u.events ≡ []) × Steps u s w'

pumps_then : (w w' v : WorldState) (s : Step) → w' ≡ v → Steps (pumped w w.events) s v → PumpsThen w s w'
pumps_then w w' v s same does = subst (PumpsThen w s) (sym same) (pumped w w.events, pumps_all w w.events refl, refl, does)

collect_by : (w : WorldState) (rs : List Returning) (g : GuestState) (left : Inbox) (posted : Outbox) → w.replies ≡ rs → takes_for w.guest rs ≡ true →
    CollectsFrom rs w.guest (inbox_of w) Did g left posted → Steps (pumped w w.events) Collect (after_driver w g left posted)
collect_by w [] g left posted is takes does = absurd (false≢true takes)
collect_by w (r ∷ rs) g left posted is takes (turn, d) =
    let by : _ = takes_some (crossing (process_at w.guest r.reply.who)) (λ (s : Statement). ends_with_events s.what) takes in
    let same : d.statement ≡ by.0 = statement_same d.statement by.0 (sym d.under_way ∙ by.1) in
    collect_then w r rs g left posted is d (ap (λ (s : Statement). ends_with_events s.what) same ∙ by.2)
  where
    statement_same : (s t : Statement) → ◌≡◌ {A = Option Statement} (Some s) (Some t) → s ≡ t
    statement_same s t same = cc

issue_by : (w : WorldState) (n : ℕ) (o : Option Statement) (g : GuestState) (left : Inbox) (posted : Outbox) → issuing (process_at w.guest n) ≡ o →
    takes_by o (λ s. begins_with_events s.what) ≡ true → IssuesFor o n w.guest (inbox_of w) Did g left posted → Steps (pumped w w.events) (Issue n) (after_driver w g left posted)
issue_by w n None g left posted is takes does = absurd (false≢true takes)
issue_by w n (Some s) g left posted is takes does = issue_then w n s g left posted takes is does

pub taking_is_pumping : (w w' : WorldState) (s : Step) → takes_all w s ≡ true → Steps w s w' → PumpsThen w s w'
taking_is_pumping w w' (Issue n) takes (may, (g, left, posted, does, after)) =
    pumps_then w w' (after_driver w g left posted) (Issue n) after (issue_by w n (issuing (process_at w.guest n)) g left posted refl takes does)
taking_is_pumping w w' Collect takes (may, (g, left, posted, does, after)) =
    pumps_then w w' (after_driver w g left posted) Collect after (collect_by w w.replies g left posted refl takes does)
taking_is_pumping w w' Execute takes does = absurd (false≢true takes)
taking_is_pumping w w' (Resume session) takes does = absurd (false≢true takes)
taking_is_pumping w w' (Begin session) takes does = absurd (false≢true takes)
taking_is_pumping w w' (Finish number) takes does = absurd (false≢true takes)
taking_is_pumping w w' Announce takes does = absurd (false≢true takes)
taking_is_pumping w w' Pump takes does = absurd (false≢true takes)
taking_is_pumping w w' (Lease n) takes does = absurd (false≢true takes)
taking_is_pumping w w' (GiveBack n) takes does = absurd (false≢true takes)
