-- Lemmas on what the driver does at the link: it is the world's step, and what is on the link stays as it should be.
use Rattle.std.proofs.Common.{◌≡◌, ◌≢◌, ℕ, ◌+◌, ◌-◌, ◌≤◌, ◌<◌, ◌==◌, ◌&&◌, Bool, true, false, not, is_some, List, [], ◌∷◌, ◌++◌, length, map, Option, Some, None, refl, sym, ap, ◌∙◌, subst, arith, if◌then◌else◌}
use Rattle.std.specs.List.{All, filter}
use Rattle.std.proofs.lemmas.Bool.{eq-eqb}
use Rattle.std.proofs.lemmas.List.{append-nil, map_push, length_push, length-append, length-map}
use Rattle.std.proofs.lemmas.List.Elements.{All-head, All-tail, All-nil, All-cons, All-push, All-append, All-weaker}
use Rattle.vm_link.specs.Queue.{Queue, Queues, posted, collected, rest_of}
use Rattle.vm_link.specs.declared.chains.DoneChain.{DoneChain}
use Rattle.vm_link.specs.declared.link.Turn.{Turn}
use Rattle.vm_link.specs.declared.link.Turn.TheVariants.{Did, Idle}
use Rattle.vm_link.specs.declared.parcel.Parcel.{Parcel}
use Rattle.vm_wire.specs.Message.{Posting, Returning}
use Rattle.vm_wire.specs.declared.delivery.Delivery.{Delivery}
use Rattle.vm_script.specs.Script.{ScriptLines}
use Rattle.vm_host.specs.Host.{HostState}
use Rattle.vm_host.specs.Part.{Call, call_of, posting_of as posting_in}
use Rattle.vm_host.specs.declared.waiting.Waiting.{Waiting}
use Rattle.vm_guest.specs.Asking.{begins_with_events, ends_with_events}
use Rattle.vm_guest.specs.Events.{taken, all_taken}
use Rattle.vm_guest.specs.Guest.{GuestState, process_at}
use Rattle.vm_guest.specs.Message.{Sending, Carries, returning_of}
use Rattle.vm_guest.specs.Orderly.{IsDriver, lines_at}
use Rattle.vm_guest.specs.Part.{Inbox, Outbox, none_if, postings, IssuesFor, IssuesNext, CollectsFrom, CollectsFirst, PumpsFrom}
use Rattle.vm_guest.specs.Process.{issuing, crossing, is_crossing}
use Rattle.vm_guest.specs.Queues.{AreEvents, Posts, chains_if, again_if, emptied, IssuesAt, IssuesIf, CollectsAt, CollectsIf, CollectsReply, PumpsAt, PumpsIf}
use Rattle.vm_guest.specs.Steps.{all_if, Issued, Collected}
use Rattle.vm_guest.specs.declared.asked.Statement.{Statement}
use Rattle.vm_guest.proofs.OrderlyLemmas.{at_same, issuing_within, still_issuing, still_crossing}
use Rattle.vm_across.proofs.BackLemmas.{posted as as_posted}
use Rattle.vm_across.proofs.LineLemmas.{fit_to_send}
use Rattle.vm_across.proofs.ReadLemmas.{is_read}
use Rattle.vm_realm.specs.Enabled.{is_some_of, is_enabled}
use Rattle.vm_realm.specs.Sound.{IsQuiet, one_if}
use Rattle.vm_realm.specs.Steps.{after_driver, inbox_of, hands_over}
use Rattle.vm_realm.specs.World.{WorldState}
use Rattle.vm_realm.specs.declared.step.Step.{Step}
use Rattle.vm_realm.specs.declared.step.Step.TheVariants.{Issue, Collect, Pump}
use Rattle.vm_world.specs.Carried.{HasSent, IsPosted, IsBack, IsCarried, WaitsForEvent, BringsOne, event_in, world_of}
use Rattle.vm_world.specs.Laws.{LeadsOver}
use Rattle.vm_world.proofs.BroughtLemmas.{are_events, all_wait_again, waits_again, brings_read}
use Rattle.vm_world.proofs.UnderWayLemmas.{StaysUnderWay, posted_still, back_still, sent_for, sent_crossing, issuing_current, issue_stays, line_fits, collect_stays}

-- ---- nothing is done

nothing : (script : ScriptLines) (s : Step) (turn : Turn) (g g' : GuestState) (h : HostState) (queues queues' : Queues) → IsCarried g h queues
    → (is_enabled (world_of script g h queues) s && not (hands_over s)) ≡ false → turn ≡ Idle → g' ≡ g → queues' ≡ queues → LeadsOver script s turn g h queues g' h queues'
nothing script s turn g g' h queues queues' carried never idle guest same =
    let here : LeadsOver script s Idle g h queues g h queues = record { turns = (never, refl); carried = carried } in
    subst (λ t. LeadsOver script s t g h queues g' h queues') (sym idle)
    (subst (λ x. LeadsOver script s Idle g h queues x h queues') (sym guest) (subst (λ q. LeadsOver script s Idle g h queues g h q) (sym same) here))

-- ---- Pump

taken_stays : (g : GuestState) (d : Delivery) (n : ℕ) → StaysUnderWay g (taken g d) n
taken_stays g d n s crosses = still_crossing g (d ∷ []) n s crosses

pub pumps_over : (script : ScriptLines) (g g' : GuestState) (h : HostState) (queues queues' : Queues) (turn : Turn) → IsCarried g h queues → PumpsAt g queues turn g' queues'
    → LeadsOver script Pump turn g h queues g' h queues'
pumps_over script g g' h queues queues' turn carried pumps = by_done queues.event.done refl pumps
  where
    by_done : (cs : List DoneChain) → queues.event.done ≡ cs → PumpsIf cs g queues turn g' queues' → LeadsOver script Pump turn g h queues g' h queues'
    by_done [] at does = nothing script Pump turn g g' h queues queues' carried (ap (λ ds. is_some_of (map event_in ds) && true) at) does.0 does.1 does.2
    by_done (c ∷ cs) at does =
        let brought : All BringsOne (c ∷ cs) = subst (All BringsOne) at carried.brought in
        let first : BringsOne c = All-head BringsOne c cs brought in
        let d : Delivery = event_in c in
        let guest : g' ≡ taken g d = does.1 d (brings_read c first) in
        let q : Queue = record queues.event { waiting = queues.event.waiting ++ emptied c ∷ []; done = cs } in
        let qs : Queues = record queues { event = q } in
        let w : WorldState = world_of script g h queues in
        let w' : WorldState = world_of script (taken g d) h qs in
        let events : map event_in queues.event.done ≡ d ∷ map event_in cs = ap (map event_in) at in
        let left : Inbox = record { replies = w.replies; events = map event_in cs } in
        let out : Outbox = record { commands = []; chains = 1 } in
        let part : PumpsFrom w.events g (inbox_of w) Did (taken g d) left out =
        subst (λ es. PumpsFrom es g (inbox_of w) Did (taken g d) left out) (sym events) (refl, refl, refl, refl) in
        let may : is_enabled w Pump ≡ true = ap is_some_of events in
        let world : w' ≡ after_driver w (taken g d) left out =
        λ i. record w' { requests = sym (append-nil (map posting_in queues.command.waiting)) i; chains = length_push queues.event.waiting (emptied c) i } in
        let stays : (n : ℕ) → StaysUnderWay g (taken g d) n = taken_stays g d in
        let here : LeadsOver script Pump Did g h queues (taken g d) h qs = record {
          turns = (refl, (may, (taken g d, left, out, part, world)));
          carried = record {
            room = carried.room;
            posted = All-weaker (IsPosted g) (IsPosted (taken g d)) (λ p is. posted_still g (taken g d) p (stays p.who) is) queues.command.waiting carried.posted;
            waiting = All-weaker (λ (x : Waiting). IsPosted g x.parcel) (λ (x : Waiting). IsPosted (taken g d) x.parcel)
                (λ x is. posted_still g (taken g d) x.parcel (stays x.parcel.who) is) h.waiting carried.waiting;
            out = carried.out;
            back = All-weaker (IsBack g) (IsBack (taken g d)) (λ x is. back_still g (taken g d) x (stays x.finished.parcel.who) is) queues.command.done carried.back;
            free = All-push WaitsForEvent queues.event.waiting (emptied c) carried.free (waits_again c first);
            brought = All-tail BringsOne c cs brought;
          };
        } in
        subst (λ t. LeadsOver script Pump t g h queues g' h queues') (sym does.0)
        (subst (λ x. LeadsOver script Pump Did g h queues x h queues') (sym guest) (subst (λ x. LeadsOver script Pump Did g h queues (taken g d) h x) (sym does.2) here))

-- ---- the events that are taken first

are_if : (b : Bool) (queues : Queues) → All BringsOne queues.event.done → AreEvents (chains_if b queues) (all_if b (map event_in queues.event.done))
are_if true queues brought = are_events queues.event.done brought
are_if false queues brought = tt

waiting_again : (b : Bool) (q : Queue) → length (again_if b q).waiting ≡ length q.waiting + length (all_if b (map event_in q.done))
waiting_again true q =
    length-append q.waiting (map emptied q.done) ∙ ap (λ n. length q.waiting + n) (length-map q.done emptied ∙ sym (length-map q.done event_in))
waiting_again false q = omega arith

events_left : (b : Bool) (q : Queue) → map event_in (again_if b q).done ≡ none_if b (map event_in q.done)
events_left true q = refl
events_left false q = refl

free_again : (b : Bool) (q : Queue) → All WaitsForEvent q.waiting → All BringsOne q.done → All WaitsForEvent (again_if b q).waiting
free_again true q free brought = All-append WaitsForEvent q.waiting (map emptied q.done) free (all_wait_again q.done brought)
free_again false q free brought = free

brought_again : (b : Bool) (q : Queue) → All BringsOne q.done → All BringsOne (again_if b q).done
brought_again true q brought = All-nil BringsOne
brought_again false q brought = brought

-- ---- Issue

abbrev taken_first : Statement → Queues → List Delivery
taken_first s queues = all_if (begins_with_events s.what) (map event_in queues.event.done)

-- a line that is begun sends this
issue_sends : (script : ScriptLines) (n : ℕ) (s : Statement) (g g' : GuestState) (es : List Delivery) (sending : Sending) → IsDriver script g → issuing (process_at g n) ≡ Some s
    → Issued n s g es g' (Some sending) → HasSent g' n sending
issue_sends script n s g g' es sending driver at issued =
    let g1 : GuestState = all_taken g es in
    let yet : issuing (process_at g1 n) ≡ Some s = still_issuing g es n s at in
    let within : n < length g.processes = issuing_within g n s at in
    let now : process_at g' n ≡ issued.process =
    ap (λ x. process_at x n) issued.after ∙ at_same g1.processes n issued.process (issuing_within g1 n s yet) in
    let fits = line_fits script.model (lines_at script n) (process_at g n) s (driver.orderly n within) (issuing_current (process_at g n) s at) in
    record {
      within = omega (arith, within, driver.few);
      statement = s;
      under_way = ap crossing now ∙ (sent_crossing s.line s.what (process_at g1 n) issued.process sending issued.begins ∙ issuing_current (process_at g1 n) s yet);
      for = sent_for s.line s.what (process_at g1 n) issued.process sending issued.begins;
      fit = fit_to_send (length (lines_at script n).handles) s.line s.what (process_at g1 n) issued.process sending fits issued.begins;
    }

-- what it sends is posted behind what waits, and says it
pub record PostsMore (n : ℕ) (sends : Option Sending) (g : GuestState) (q q' : Queue) : Type 0 where
  pub requests : map posting_in q'.waiting ≡ map posting_in q.waiting ++ postings n sends
  pub posted : All (IsPosted g) q.waiting → All (IsPosted g) q'.waiting
  pub is : q' ≡ record q { waiting = q'.waiting }

posts_more : (n : ℕ) (sends : Option Sending) (g : GuestState) (q q' : Queue) → ((sending : Sending) → sends ≡ Some sending → HasSent g n sending) → Posts n sends q q' → PostsMore n sends g q q'
posts_more n None g q q' has is = record {
  requests = ap (λ (x : Queue). map posting_in x.waiting) is ∙ sym (append-nil (map posting_in q.waiting));
  posted = λ each. subst (λ (x : Queue). All (IsPosted g) x.waiting) (sym is) each;
  is = is ∙ ap (λ ps. record q { waiting = ps }) (sym (ap (λ (x : Queue). x.waiting) is));
}
posts_more n (Some sending) g q q' has is =
    let p : Parcel = is.0 in
    let sent : HasSent g n sending = has sending refl in
    let who : p.who ≡ n = ap (λ (x : Parcel). x.who) (as_posted n sending p is.1).is in
    let one : IsPosted g p = (sending, subst (λ m. HasSent g m sending) (sym who) sent, subst (λ m. Carries m sending p) (sym who) is.1) in
    record {
      requests = ap (λ (x : Queue). map posting_in x.waiting) is.2 ∙ (map_push posting_in q.waiting p ∙ ap (λ m. map posting_in q.waiting ++ m ∷ []) (is_read n sending p sent.within sent.fit is.1));
      posted = λ each. subst (λ (x : Queue). All (IsPosted g) x.waiting) (sym is.2) (All-push (IsPosted g) q.waiting p each one);
      is = is.2 ∙ ap (λ ps. record q { waiting = ps }) (sym (ap (λ (x : Queue). x.waiting) is.2));
    }

one_issued : (script : ScriptLines) (n : ℕ) (s : Statement) (g g' : GuestState) (h : HostState) (queues queues' : Queues) (sends : Option Sending) → IsCarried g h queues → IsDriver script g
    → issuing (process_at g n) ≡ Some s → Issued n s g (taken_first s queues) g' sends → Posts n sends queues.command queues'.command → queues'.event ≡ again_if (begins_with_events s.what) queues.event
    → LeadsOver script (Issue n) Did g h queues g' h queues'
one_issued script n s g g' h queues queues' sends carried driver at issued posts again =
    let b : Bool = begins_with_events s.what in
    let es : List Delivery = taken_first s queues in
    let more : PostsMore n sends g' queues.command queues'.command =
    posts_more n sends g' queues.command queues'.command
    (λ sending is. issue_sends script n s g g' es sending driver at (subst (λ o. Issued n s g es g' o) is issued)) posts in
    let c : Queue = record queues.command { waiting = queues'.command.waiting } in
    let e : Queue = again_if b queues.event in
    let qs : Queues = record { command = c; event = e } in
    let same : queues' ≡ qs = λ i. record { command = more.is i; event = again i } in
    let w : WorldState = world_of script g h queues in
    let w' : WorldState = world_of script g' h qs in
    let left : Inbox = record { replies = w.replies; events = none_if b w.events } in
    let out : Outbox = record { commands = postings n sends; chains = length es } in
    let next : IssuesNext n s g (inbox_of w) g' left out = record { sends = sends; issued = issued; left = refl; commands = refl; chains = refl } in
    let part : IssuesFor (issuing (process_at g n)) n g (inbox_of w) Did g' left out = subst (λ o. IssuesFor o n g (inbox_of w) Did g' left out) (sym at) (refl, next) in
    let may : is_enabled w (Issue n) ≡ true = ap is_some at in
    let world : w' ≡ after_driver w g' left out =
    λ i. record w' { requests = more.requests i; chains = waiting_again b queues.event i; events = events_left b queues.event i } in
    let stays : (m : ℕ) → StaysUnderWay g g' m = λ m. subst (λ x. StaysUnderWay g x m) (sym issued.after) (issue_stays g es n m s issued.process at) in
    let posted : All (IsPosted g') queues.command.waiting =
    All-weaker (IsPosted g) (IsPosted g') (λ p is. posted_still g g' p (stays p.who) is) queues.command.waiting carried.posted in
    let here : LeadsOver script (Issue n) Did g h queues g' h qs = record {
      turns = (refl, (may, (g', left, out, part, world)));
      carried = record {
        room = carried.room;
        posted = more.posted posted;
        waiting = All-weaker (λ (x : Waiting). IsPosted g x.parcel) (λ (x : Waiting). IsPosted g' x.parcel) (λ x is. posted_still g g' x.parcel (stays x.parcel.who) is) h.waiting carried.waiting;
        out = carried.out;
        back = All-weaker (IsBack g) (IsBack g') (λ x is. back_still g g' x (stays x.finished.parcel.who) is) queues.command.done carried.back;
        free = free_again b queues.event carried.free carried.brought;
        brought = brought_again b queues.event carried.brought;
      };
    } in
    subst (λ x. LeadsOver script (Issue n) Did g h queues g' h x) (sym same) here

pub issues_over : (script : ScriptLines) (n : ℕ) (g g' : GuestState) (h : HostState) (queues queues' : Queues) (turn : Turn) → IsCarried g h queues → IsDriver script g
    → IssuesAt n g queues turn g' queues' → LeadsOver script (Issue n) turn g h queues g' h queues'
issues_over script n g g' h queues queues' turn carried driver issues = by_statement (issuing (process_at g n)) refl issues
  where
    by_statement : (o : Option Statement) → issuing (process_at g n) ≡ o → IssuesIf o n g queues turn g' queues' → LeadsOver script (Issue n) turn g h queues g' h queues'
    by_statement None at does = nothing script (Issue n) turn g g' h queues queues' carried (ap (λ o. is_some o && true) at) does.0 does.1 does.2
    by_statement (Some s) at does =
        let issued = does.1.issued (taken_first s queues) (are_if (begins_with_events s.what) queues carried.brought) in
        subst (λ t. LeadsOver script (Issue n) t g h queues g' h queues') (sym does.0)
        (one_issued script n s g g' h queues queues' does.1.sends carried driver at issued does.1.posts does.1.again)

-- ---- Collect

abbrev told : List DoneChain → List Returning
told ds = map (λ d. returning_of d.finished) ds

-- none of these has the number
none_of : {A B : Type 0} (f : A → ℕ) (make : B → A) (n : ℕ) (ys : List B) → length (filter (λ x. f x == n) (map make ys)) ≡ 0 → All (λ y. f (make y) ≢ n) ys
none_of f make n [] none = All-nil (λ y. f (make y) ≢ n)
none_of f make n (y ∷ ys) none = by_flag (f (make y) == n) refl none (none_of f make n ys)
  where
    others : ℕ
    others = length (filter (λ x. f x == n) (map make ys))

    by_flag : (b : Bool) → (f (make y) == n) ≡ b → length (if b then make y ∷ filter (λ x. f x == n) (map make ys) else filter (λ x. f x == n) (map make ys)) ≡ 0
        → (others ≡ 0 → All (λ z. f (make z) ≢ n) ys) → All (λ z. f (make z) ≢ n) (y ∷ ys)
    by_flag true is zero_long rest = absurd (omega (arith, zero_long))
    by_flag false is zero_long rest =
        All-cons (λ z. f (make z) ≢ n) y ys (λ same. (let never : false ≡ true = sym is ∙ eq-eqb (f (make y)) n same in cc)) (rest zero_long)

-- all that is on the link is of other processes than this
pub record AreOthers (g : GuestState) (h : HostState) (queues : Queues) (n : ℕ) (ds : List DoneChain) : Type 0 where
  pub posted : All (λ (p : Parcel). p.who ≢ n) queues.command.waiting
  pub waiting : All (λ (x : Waiting). x.parcel.who ≢ n) h.waiting
  pub back : All (λ (x : DoneChain). x.finished.parcel.who ≢ n) ds

one_at_most : (b : Bool) → one_if b ≤ 1
one_at_most true = omega arith
one_at_most false = omega arith

are_others : (script : ScriptLines) (g : GuestState) (h : HostState) (queues : Queues) (d : DoneChain) (ds : List DoneChain) → IsQuiet (world_of script g h queues)
    → queues.command.done ≡ d ∷ ds → AreOthers g h queues d.finished.parcel.who ds
are_others script g h queues d ds quiet at =
    let n : ℕ = d.finished.parcel.who in
    let w : WorldState = world_of script g h queues in
    let asks : List Posting = filter (λ m. m.request.who == n) (map posting_in queues.command.waiting) in
    let waits : List Call = filter (λ c. c.posting.request.who == n) (map call_of h.waiting) in
    let hears : List Returning = filter (λ r. r.reply.who == n) (told ds) in
    let first : filter (λ r. r.reply.who == n) w.replies ≡ returning_of d.finished ∷ hears =
    ap (λ xs. filter (λ r. r.reply.who == n) (told xs)) at ∙ ap (λ b. if b then returning_of d.finished ∷ hears else hears) (eq-eqb n n refl) in
    let count : length asks + length waits + length (filter (λ r. r.reply.who == n) w.replies) ≡ one_if (is_crossing (process_at g n).status) = quiet.one n in
    let most = one_at_most (is_crossing (process_at g n).status) in
    let told_one : length (filter (λ r. r.reply.who == n) w.replies) ≡ length hears + 1 = ap (λ (rs : List Returning). length rs) first ∙ omega arith in
    record {
      posted = none_of (λ (m : Posting). m.request.who) posting_in n queues.command.waiting (omega (arith, count, most, told_one));
      waiting = none_of (λ (c : Call). c.posting.request.who) call_of n h.waiting (omega (arith, count, most, told_one));
      back = none_of (λ (r : Returning). r.reply.who) (λ (x : DoneChain). returning_of x.finished) n ds (omega (arith, count, most, told_one));
    }

both_all : {A : Type 0} (P Q R : A → Type 0) (xs : List A) → All P xs → All Q xs → ((x : A) → P x → Q x → R x) → All R xs
both_all P Q R xs first second each = λ k d within. each _ (first k d within) (second k d within)

one_collected : (script : ScriptLines) (g g' : GuestState) (h : HostState) (queues queues' : Queues) (d : DoneChain) (ds : List DoneChain) → IsCarried g h queues
    → IsQuiet (world_of script g h queues) → queues.command.done ≡ d ∷ ds → CollectsReply d.finished g queues g' queues' → LeadsOver script Collect Did g h queues g' h queues'
one_collected script g g' h queues queues' d ds carried quiet at does =
    let s : Statement = does.statement in
    let n : ℕ = d.finished.parcel.who in
    let r : Returning = returning_of d.finished in
    let b : Bool = ends_with_events s.what in
    let es : List Delivery = all_if b (map event_in queues.event.done) in
    let done : Collected s g es r g' = does.collects es (are_if b queues carried.brought) in
    let c : Queue = record queues.command { done = ds } in
    let e : Queue = again_if b queues.event in
    let qs : Queues = record { command = c; event = e } in
    let command : queues'.command ≡ c = does.commands ∙ ap (λ xs. record queues.command { done = rest_of xs }) at in
    let same : queues' ≡ qs = λ i. record { command = command i; event = does.again i } in
    let w : WorldState = world_of script g h queues in
    let w' : WorldState = world_of script g' h qs in
    let replies : w.replies ≡ r ∷ told ds = ap told at in
    let left : Inbox = record { replies = told ds; events = none_if b w.events } in
    let out : Outbox = record { commands = []; chains = length es } in
    let first : CollectsFirst r (told ds) g (inbox_of w) g' left out = record { statement = s; under_way = does.under_way; collected = done; left = refl; commands = refl; chains = refl } in
    let part : CollectsFrom w.replies g (inbox_of w) Did g' left out = subst (λ rs. CollectsFrom rs g (inbox_of w) Did g' left out) (sym replies) (refl, first) in
    let may : is_enabled w Collect ≡ true = ap is_some_of replies in
    let world : w' ≡ after_driver w g' left out =
    λ i. record w' { requests = sym (append-nil (map posting_in queues.command.waiting)) i; chains = waiting_again b queues.event i; events = events_left b queues.event i } in
    let stays : (m : ℕ) → m ≢ n → StaysUnderWay g g' m = λ m other. subst (λ x. StaysUnderWay g x m) (sym done.after) (collect_stays g es s.what n m done.process other) in
    let others : AreOthers g h queues n ds = are_others script g h queues d ds quiet at in
    let back : All (IsBack g) (d ∷ ds) = subst (All (IsBack g)) at carried.back in
    let here : LeadsOver script Collect Did g h queues g' h qs = record {
      turns = (refl, (may, (g', left, out, part, world)));
      carried = record {
        room = carried.room;
        posted = both_all (IsPosted g) (λ (p : Parcel). p.who ≢ n) (IsPosted g') queues.command.waiting carried.posted others.posted (λ p is other. posted_still g g' p (stays p.who other) is);
        waiting = both_all (λ (x : Waiting). IsPosted g x.parcel) (λ (x : Waiting). x.parcel.who ≢ n) (λ (x : Waiting). IsPosted g' x.parcel) h.waiting carried.waiting others.waiting
            (λ x is other. posted_still g g' x.parcel (stays x.parcel.who other) is);
        out = carried.out;
        back = both_all (IsBack g) (λ (x : DoneChain). x.finished.parcel.who ≢ n) (IsBack g') ds (All-tail (IsBack g) d ds back) others.back
            (λ x is other. back_still g g' x (stays x.finished.parcel.who other) is);
        free = free_again b queues.event carried.free carried.brought;
        brought = brought_again b queues.event carried.brought;
      };
    } in
    subst (λ x. LeadsOver script Collect Did g h queues g' h x) (sym same) here

pub collects_over : (script : ScriptLines) (g g' : GuestState) (h : HostState) (queues queues' : Queues) (turn : Turn) → IsCarried g h queues → IsQuiet (world_of script g h queues)
    → CollectsAt g queues turn g' queues' → LeadsOver script Collect turn g h queues g' h queues'
collects_over script g g' h queues queues' turn carried quiet collects = by_done queues.command.done refl collects
  where
    by_done : (cs : List DoneChain) → queues.command.done ≡ cs → CollectsIf cs g queues turn g' queues' → LeadsOver script Collect turn g h queues g' h queues'
    by_done [] at does = nothing script Collect turn g g' h queues queues' carried (ap (λ ds. is_some_of (told ds) && true) at) does.0 does.1 does.2
    by_done (d ∷ ds) at does =
        subst (λ t. LeadsOver script Collect t g h queues g' h queues') (sym does.0) (one_collected script g g' h queues queues' d ds carried quiet at does.1)
