-- Lemmas on event chains: what they take, and what the driver reads in them.
use Rattle.std.proofs.Common.{◌≡◌, ℕ, ◌+◌, ◌≤◌, List, [], ◌++◌, length, drop, Option, None, Some, Ok, refl, sym, ap, ◌∙◌, subst, arith}
use Rattle.std.specs.Option.{option_to_list}
use Rattle.std.proofs.lemmas.List.{append-nil, take_at}
use Rattle.vm_chain.specs.declared.desc.Desc.{Desc}
use Rattle.vm_mem.specs.declared.page.Page.{Page}
use Rattle.vm_frame.specs.declared.mem.Held.{Held}
use Rattle.vm_link.specs.declared.chains.DoneChain.{DoneChain}
use Rattle.vm_link.specs.declared.parcel.Parcel.{Parcel}
use Rattle.vm_wire.specs.Event.{event_bytes, event_size, IsEvent, SpellsEvent}
use Rattle.vm_mem.specs.Lists.{first_of}
use Rattle.vm_wire.specs.declared.delivery.Delivery.{Delivery}
use Rattle.vm_wire.specs.declared.event.EventMsg.{EventMsg}
use Rattle.vm_wire.specs.declared.event.EventMsg.TheVariants.{Dequeued, Happened}
use Rattle.vm_wire.proofs.EventLemmas.{event_again, message_size}
use Rattle.vm_pump.specs.Pump.{session_of, delivery_of}
use Rattle.vm_host.specs.Chains.{Sent, chain_in, sent_event}
use Rattle.vm_host.specs.Steps.{TakesEvent}
use Rattle.vm_guest.specs.Queues.{emptied}
use Rattle.vm_guest.specs.Chain.{event_page, event_room, event_table, IsEventChain}
use Rattle.vm_across.specs.Across.{BringsBack}
use Rattle.vm_across.proofs.FrontLemmas.{one_page, front_size, written_one}
use Rattle.vm_across.proofs.WalkLemmas.{walks_written}
use Rattle.vm_across.proofs.ReadLemmas.{one_walk}

-- an event chain, by all that it is
abbrev chain_of : ℕ → List ℕ → List Held → ℕ → Parcel
chain_of k bytes held room = record { who = k; table = event_table k; pages = one_page (event_page k) bytes; held = held; room = room }

event_walked : (k : ℕ) (bytes : List ℕ) (held : List Held) (room : ℕ) → chain_in (chain_of k bytes held room) ≡ Ok (event_table k)
event_walked k bytes held room = walks_written (event_page k) event_room (omega arith) (omega arith)

pub takes_event : (k : ℕ) (p : Parcel) → IsEventChain k [] p → TakesEvent p × (length p.held + 1 ≤ p.room)
takes_event k p chain =
    let P : Parcel → Type 0 = λ x. TakesEvent x × (length x.held + 1 ≤ x.room) in
    subst P (sym chain.is) ((event_table k, event_walked k chain.bytes [] chain.room, refl, omega arith), chain.roomy)

-- a message goes into an event's room
event_fits : (msg : EventMsg) → event_size msg ≤ event_room
event_fits (Dequeued session buffer) = omega arith
event_fits (Happened session event) = omega arith

first_one : (memory : Option Held) → memory ≡ first_of (option_to_list memory)
first_one None = refl
first_one (Some held) = refl

-- what the driver takes from the message and the memory is what was sent
one_delivery : (d : Delivery) → session_of d.msg ≡ d.session → d ≡ delivery_of d.msg (option_to_list d.held)
one_delivery d same = λ i. record { session = sym same i; msg = d.msg; held = first_one d.held i }

pub brought_back : (k head : ℕ) (p : Parcel) (descs : List Desc) (d : Delivery) → IsEventChain k [] p → chain_in p ≡ Ok descs → IsEvent d.msg → session_of d.msg ≡ d.session
    → BringsBack k head (sent_event p descs d.msg d.held) d
brought_back k head p descs d chain walked fits same =
    let bytes : List ℕ = event_bytes d.msg in
    let held : List Held = option_to_list d.held in
    let back : List ℕ = drop (length bytes) chain.bytes in
    let small : length bytes ≤ event_room = (let size = message_size d.msg fits in let least = event_fits d.msg in omega (arith, size, least)) in
    let found : descs ≡ event_table k = one_walk (chain_in p) descs (event_table k) walked (ap chain_in chain.is ∙ event_walked k chain.bytes [] chain.room) in
    let here : sent_event p descs d.msg d.held ≡ record { used = length bytes; parcel = chain_of k (bytes ++ back) held chain.room } =
    ap (λ ds. sent_event p ds d.msg d.held) found ∙ ap (λ (x : Parcel). sent_event x (event_table k) d.msg d.held) chain.is
    ∙ ap (λ (pages : List Page). record { used = length bytes; parcel = record (chain_of k chain.bytes held chain.room) { pages = pages } })
    (written_one (event_page k) event_room chain.bytes bytes small) in
    let B : Sent → Type 0 = λ s. BringsBack k head s d in
    let S : List ℕ → Type 0 = λ bs. SpellsEvent bs d.msg in
    let spells : SpellsEvent bytes d.msg = subst S (append-nil bytes) (event_again d.msg [] fits) in
    subst B (sym here) (record {
      chain = record {
        bytes = bytes ++ back;
        room = chain.room;
        is = refl;
        roomy = chain.roomy;
        whole = front_size bytes chain.bytes (omega (arith, small, chain.whole)) ∙ chain.whole;
      };
      brings = (d.msg, subst S (sym (take_at bytes back (length bytes) refl)) spells, one_delivery d same);
    })

pub posted_again : (k : ℕ) (held : List Held) (c : DoneChain) → IsEventChain k held c.finished.parcel → IsEventChain k [] (emptied c)
posted_again k held c chain =
    record { bytes = chain.bytes; room = chain.room; is = ap (λ (x : Parcel). record x { held = [] }) chain.is; roomy = chain.roomy; whole = chain.whole }
