-- What the driver does at its end of the link is its part of the step, over what is said there.
use Rattle.std.proofs.Common.{◌≡◌, ℕ, suc, ◌+◌, Bool, true, false, List, [], ◌∷◌, ◌++◌, Option, Some, None, length, map, refl, sym, ap, ◌∙◌, subst, arith}
use Rattle.std.proofs.lemmas.List.{length-append, length-map, append-nil}
use Rattle.vm_link.specs.Queue.{Queue, Queues, rest_of}
use Rattle.vm_link.specs.declared.chains.DoneChain.{DoneChain}
use Rattle.vm_link.specs.declared.link.Turn.{Turn}
use Rattle.vm_link.specs.declared.parcel.Parcel.{Parcel}
use Rattle.vm_wire.specs.Message.{Returning}
use Rattle.vm_wire.specs.declared.delivery.Delivery.{Delivery}
use Rattle.vm_guest.specs.Asking.{begins_with_events, ends_with_events}
use Rattle.vm_guest.specs.Guest.{GuestState, process_at}
use Rattle.vm_guest.specs.Laws.{Shows, Says, AllSay, Adds, IsPart}
use Rattle.vm_guest.specs.Message.{Sending, OfCall, OfRaw, Carries, posting_of, returning_of}
use Rattle.vm_guest.specs.Part.{Inbox, Outbox, nothing, none_if, postings, Issues, IssuesFor, IssuesNext, Collects, CollectsFrom, CollectsFirst, Pumps, PumpsFrom}
use Rattle.vm_guest.specs.Process.{issuing}
use Rattle.vm_guest.specs.Queues.{AreEvents, Posts, chains_if, again_if, emptied, IssuesAt, IssuesIf, CollectsAt, CollectsIf, PumpsAt, PumpsIf}
use Rattle.vm_guest.specs.Steps.{all_if}
use Rattle.vm_guest.specs.declared.asked.Statement.{Statement}

-- ---- events

-- each chain brings one event
same_length : (cs : List DoneChain) (ds : List Delivery) → AreEvents cs ds → length ds ≡ length cs
same_length [] [] are = refl
same_length [] (d ∷ ds) are = absurd are
same_length (c ∷ cs) [] are = absurd are
same_length (c ∷ cs) (d ∷ ds) are = ap suc (same_length cs ds are.1)

-- the events that a step takes
are_taken : (b : Bool) (queues : Queues) (events : List Delivery) → AreEvents queues.event.done events → AreEvents (chains_if b queues) (all_if b events)
are_taken true queues events are = are
are_taken false queues events are = tt

-- the events that it leaves
are_left : (b : Bool) (q q' : Queue) (events : List Delivery) → AreEvents q.done events → q' ≡ again_if b q → AreEvents q'.done (none_if b events)
are_left true q q' events are again = subst (λ (x : Queue). AreEvents x.done []) (sym again) tt
are_left false q q' events are again = subst (λ (x : Queue). AreEvents x.done events) (sym again) are

-- as many chains wait again
chains_again : (b : Bool) (q q' : Queue) (events : List Delivery) → AreEvents q.done events → q' ≡ again_if b q
    → length q'.waiting ≡ length q.waiting + length (all_if b events)
chains_again true q q' events are again =
    ap (λ (x : Queue). length x.waiting) again ∙ length-append q.waiting (map emptied q.done)
    ∙ ap (λ n. length q.waiting + n) (length-map q.done emptied ∙ sym (same_length q.done events are))
chains_again false q q' events are again = (let same : length q'.waiting ≡ length q.waiting = ap (λ (x : Queue). length x.waiting) again in omega (arith, same))

-- ---- commands

carries_who : (n : ℕ) (sending : Sending) (parcel : Parcel) → Carries n sending parcel → parcel.who ≡ n
carries_who n (OfCall c along) parcel is = ap (λ (p : Parcel). p.who) is.1.is
carries_who n (OfRaw chain) parcel is = ap (λ (p : Parcel). p.who) is.is

-- what a process sends is said by its parcel
says : (n : ℕ) (sending : Sending) (parcel : Parcel) → Carries n sending parcel → Says (posting_of n sending) parcel
says n sending parcel is =
    let who = carries_who n sending parcel is in
    (sending, subst (λ w. Carries w sending parcel) (sym who) is, ap (λ w. posting_of w sending) (sym who))

-- behind what waited, what is posted waits, and what was done stays
pub record Posted (n : ℕ) (sends : Option Sending) (q q' : Queue) : Type 0 where
  pub parcels : List Parcel
  pub behind : q'.waiting ≡ q.waiting ++ parcels
  pub say : AllSay (postings n sends) parcels
  pub done : q'.done ≡ q.done

posts_say : (n : ℕ) (sends : Option Sending) (q q' : Queue) → Posts n sends q q' → Posted n sends q q'
posts_say n None q q' is = record {
  parcels = [];
  behind = ap (λ (x : Queue). x.waiting) is ∙ sym (append-nil q.waiting);
  say = tt;
  done = ap (λ (x : Queue). x.done) is;
}
posts_say n (Some sending) q q' is = record {
  parcels = is.0 ∷ [];
  behind = ap (λ (x : Queue). x.waiting) is.2;
  say = (says n sending is.0 is.1, tt);
  done = ap (λ (x : Queue). x.done) is.2;
}

-- ---- the steps

abbrev said : List DoneChain → List Returning
said cs = map (λ (c : DoneChain). returning_of c.finished) cs

-- where nothing is done, nothing is posted
adds_nothing : (queues queues' : Queues) → queues' ≡ queues → Adds nothing queues queues'
adds_nothing queues queues' same = record {
  parcels = [];
  commands = ap (λ (q : Queues). q.command.waiting) same ∙ sym (append-nil queues.command.waiting);
  say = tt;
  chains = (let here : length queues'.event.waiting ≡ length queues.event.waiting = ap (λ (q : Queues). length q.event.waiting) same in omega (arith, here));
}

pub issues_part : (n : ℕ) (g g' : GuestState) (queues queues' : Queues) (turn : Turn) (i : Inbox) → Shows queues i → IssuesAt n g queues turn g' queues'
    → IsPart (λ j left out. Issues n g j turn g' left out) queues queues' i
issues_part n g g' queues queues' turn i shows does = by_statement (issuing (process_at g n)) refl does
  where
    by_statement : (o : Option Statement) → issuing (process_at g n) ≡ o → IssuesIf o n g queues turn g' queues' → IsPart (λ j left out. Issues n g j turn g' left out) queues queues' i
    by_statement None at does = (
      i,
      nothing,
      subst (λ o. IssuesFor o n g i turn g' i nothing) (sym at) (does.0, does.1, refl, refl),
      subst (λ q. Shows q i) (sym does.2) shows,
      adds_nothing queues queues' does.2,
    )
    by_statement (Some s) at does =
        let b : Bool = begins_with_events s.what in
        let sends : Option Sending = does.1.sends in
        let left : Inbox = record i { events = none_if b i.events } in
        let out : Outbox = record { commands = postings n sends; chains = length (all_if b i.events) } in
        let posted : Posted n sends queues.command queues'.command = posts_say n sends queues.command queues'.command does.1.posts in
        let step : IssuesNext n s g i g' left out = record {
          sends = sends;
          issued = does.1.issued (all_if b i.events) (are_taken b queues i.events shows.events);
          left = refl;
          commands = refl;
          chains = refl;
        } in
        let replies : i.replies ≡ said queues'.command.done = shows.replies ∙ ap said (sym posted.done) in
        let shown : Shows queues' left = record { replies = replies; events = are_left b queues.event queues'.event i.events shows.events does.1.again } in
        let adds : Adds out queues queues' = record {
          parcels = posted.parcels;
          commands = posted.behind;
          say = posted.say;
          chains = chains_again b queues.event queues'.event i.events shows.events does.1.again;
        } in
        (left, out, subst (λ o. IssuesFor o n g i turn g' left out) (sym at) (does.0, step), shown, adds)

pub collects_part : (g g' : GuestState) (queues queues' : Queues) (turn : Turn) (i : Inbox) → Shows queues i → CollectsAt g queues turn g' queues'
    → IsPart (λ j left out. Collects g j turn g' left out) queues queues' i
collects_part g g' queues queues' turn i shows does = by_done queues.command.done refl does
  where
    by_done : (cs : List DoneChain) → queues.command.done ≡ cs → CollectsIf cs g queues turn g' queues' → IsPart (λ j left out. Collects g j turn g' left out) queues queues' i
    by_done [] at does =
        let none : i.replies ≡ [] = shows.replies ∙ ap said at in (
          i,
          nothing,
          subst (λ rs. CollectsFrom rs g i turn g' i nothing) (sym none) (does.0, does.1, refl, refl),
          subst (λ q. Shows q i) (sym does.2) shows,
          adds_nothing queues queues' does.2,
        )
    by_done (d ∷ ds) at does =
        let s : Statement = does.1.statement in
        let b : Bool = ends_with_events s.what in
        let first : i.replies ≡ returning_of d.finished ∷ said ds = shows.replies ∙ ap said at in
        let left : Inbox = record { replies = said ds; events = none_if b i.events } in
        let out : Outbox = record { commands = []; chains = length (all_if b i.events) } in
        let step : CollectsFirst (returning_of d.finished) (said ds) g i g' left out = record {
          statement = s;
          under_way = does.1.under_way;
          collected = does.1.collects (all_if b i.events) (are_taken b queues i.events shows.events);
          left = refl;
          commands = refl;
          chains = refl;
        } in
        let rest : queues'.command.done ≡ ds = ap (λ (q : Queue). q.done) does.1.commands ∙ ap rest_of at in
        let shown : Shows queues' left = record { replies = ap said (sym rest); events = are_left b queues.event queues'.event i.events shows.events does.1.again } in
        let waits : queues'.command.waiting ≡ queues.command.waiting = ap (λ (q : Queue). q.waiting) does.1.commands in
        let adds : Adds out queues queues' = record {
          parcels = [];
          commands = waits ∙ sym (append-nil queues.command.waiting);
          say = tt;
          chains = chains_again b queues.event queues'.event i.events shows.events does.1.again;
        } in
        (left, out, subst (λ rs. CollectsFrom rs g i turn g' left out) (sym first) (does.0, step), shown, adds)

pub pumps_part : (g g' : GuestState) (queues queues' : Queues) (turn : Turn) (i : Inbox) → Shows queues i → PumpsAt g queues turn g' queues'
    → IsPart (λ j left out. Pumps g j turn g' left out) queues queues' i
pumps_part g g' queues queues' turn i shows does =
    by_done queues.event.done i.events refl refl shows.events does
  where
    by_done : (cs : List DoneChain) (ds : List Delivery) → queues.event.done ≡ cs → i.events ≡ ds → AreEvents cs ds → PumpsIf cs g queues turn g' queues'
        → IsPart (λ j left out. Pumps g j turn g' left out) queues queues' i
    by_done [] [] at is are does = (
      i,
      nothing,
      subst (λ es. PumpsFrom es g i turn g' i nothing) (sym is) (does.0, does.1, refl, refl),
      subst (λ q. Shows q i) (sym does.2) shows,
      adds_nothing queues queues' does.2,
    )
    by_done [] (d ∷ ds) at is are does = absurd are
    by_done (c ∷ cs) [] at is are does = absurd are
    by_done (c ∷ cs) (d ∷ ds) at is are does =
        let left : Inbox = record i { events = ds } in
        let out : Outbox = record { commands = []; chains = 1 } in
        let step : PumpsFrom (d ∷ ds) g i turn g' left out = (does.0, does.1 d are.0, refl, refl) in
        let replies : i.replies ≡ said queues'.command.done = shows.replies ∙ ap said (sym (ap (λ (q : Queues). q.command.done) does.2)) in
        let shown : Shows queues' left = record { replies = replies; events = subst (λ (q : Queues). AreEvents q.event.done ds) (sym does.2) are.1 } in
        let commands : queues'.command.waiting ≡ queues.command.waiting = ap (λ (q : Queues). q.command.waiting) does.2 in
        let adds : Adds out queues queues' = record {
          parcels = [];
          commands = commands ∙ sym (append-nil queues.command.waiting);
          say = tt;
          chains = ap (λ (q : Queues). length q.event.waiting) does.2 ∙ length-append queues.event.waiting (emptied c ∷ []);
        } in
        (left, out, subst (λ es. PumpsFrom es g i turn g' left out) (sym is) step, shown, adds)
