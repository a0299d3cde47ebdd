-- Lemmas on the events that chains bring.
use Rattle.std.proofs.Common.{◌≡◌, ℕ, ◌≤◌, ◌==◌, List, [], ◌∷◌, length, drop, map, Option, Some, None, refl, sym, ap, ◌∙◌, subst, arith, if◌then◌else◌}
use Rattle.std.specs.List.{All}
use Rattle.std.specs.Option.{option_to_list}
use Rattle.std.proofs.lemmas.List.Elements.{All-head, All-tail, All-nil, All-cons, All-weaker}
use Rattle.v4l_layout.specs.Layout.{ReadsAs}
use Rattle.v4l_layout.specs.Records.{buffer_fields, event_fields}
use Rattle.vm_frame.specs.declared.mem.Held.{Held}
use Rattle.vm_link.specs.declared.chains.DoneChain.{DoneChain}
use Rattle.vm_link.specs.declared.parcel.Parcel.{Parcel}
use Rattle.vm_wire.specs.Buffers.{buffer_in}
use Rattle.vm_wire.specs.Event.{SpellsEvent}
use Rattle.vm_wire.specs.Wire.{number_at}
use Rattle.vm_wire.specs.declared.delivery.Delivery.{Delivery}
use Rattle.vm_wire.specs.declared.event.EventMsg.{EventMsg}
use Rattle.vm_wire.specs.declared.event.EventMsg.TheVariants.{Dequeued, Happened}
use Rattle.vm_wire.proofs.EventLemmas.{one_message}
use Rattle.vm_pump.specs.Pump.{event_bytes_in, delivery_of}
use Rattle.vm_host.specs.Chains.{Sent}
use Rattle.vm_host.specs.Steps.{done_as}
use Rattle.vm_guest.specs.Chain.{IsEventChain}
use Rattle.vm_guest.specs.Queues.{Brings, AreEvents, CameBack, emptied}
use Rattle.vm_across.specs.Across.{BringsBack}
use Rattle.vm_across.proofs.EventLemmas.{posted_again}
use Rattle.vm_world.specs.Carried.{event_record_in, message_in, event_in, WaitsForEvent, BringsOne}

-- ---- the message that bytes spell is the one that is read of them

buffer_reads : (bytes : List ℕ) → ReadsAs bytes (buffer_fields (buffer_in bytes))
unfolding buffer_fields
buffer_reads bytes = (refl, (refl, (refl, (refl, (refl, (refl, (refl, (refl, (refl, (refl, (refl, (refl, (refl, (refl, tt))))))))))))))

event_reads : (bytes : List ℕ) → ReadsAs bytes (event_fields (event_record_in bytes))
unfolding event_fields
event_reads bytes = (refl, (refl, (refl, (refl, (refl, (refl, (refl, tt)))))))

-- the message by its number
abbrev message_by : List ℕ → ℕ → EventMsg
message_by bytes n =
    if n == 1 then Dequeued (number_at 4 bytes) (buffer_in (drop 8 bytes))
    else Happened (number_at 4 bytes) (event_record_in (drop 8 bytes))

pub read_spells : (bytes : List ℕ) (msg : EventMsg) → SpellsEvent bytes msg → SpellsEvent bytes (message_in bytes)
read_spells bytes (Dequeued session buffer) is =
    subst (SpellsEvent bytes) (sym (ap (message_by bytes) is.1)) (is.0, is.1, refl, buffer_reads (drop 8 bytes))
read_spells bytes (Happened session event) is =
    subst (SpellsEvent bytes) (sym (ap (message_by bytes) is.1)) (is.0, is.1, refl, event_reads (drop 8 bytes))

read_is : (bytes : List ℕ) (msg : EventMsg) → SpellsEvent bytes msg → message_in bytes ≡ msg
read_is bytes msg is = one_message bytes (message_in bytes) msg (read_spells bytes msg is) is

-- ---- the event of a chain

pub brings_it : (d : DoneChain) (e : Delivery) → Brings d.finished e → event_in d ≡ e
brings_it d e brings =
    ap (λ msg. delivery_of msg d.finished.parcel.held) (read_is (event_bytes_in d.finished) brings.0 brings.1) ∙ sym brings.2

pub brings_read : (d : DoneChain) → BringsOne d → Brings d.finished (event_in d)
brings_read d one = (message_in (event_bytes_in d.finished), one.1, refl)

pub are_events : (ds : List DoneChain) → All BringsOne ds → AreEvents ds (map event_in ds)
are_events [] each = tt
are_events (d ∷ ds) each = (brings_read d (All-head BringsOne d ds each), are_events ds (All-tail BringsOne d ds each))

pub events_are : (ds : List DoneChain) (es : List Delivery) → AreEvents ds es → map event_in ds ≡ es
events_are [] [] are = refl
events_are [] (e ∷ es) are = absurd are
events_are (d ∷ ds) [] are = absurd are
events_are (d ∷ ds) (e ∷ es) are = λ i. brings_it d e are.0 i ∷ events_are ds es are.1 i

pub came_back : (ds : List DoneChain) → All BringsOne ds → All CameBack ds
came_back ds each = All-weaker BringsOne CameBack (λ d one. one.0) ds each

-- ---- a chain that waited brings what it was sent with

few_held : (o : Option Held) → length (option_to_list o) ≤ 1
few_held None = omega arith
few_held (Some h) = omega arith

table_one : (k : ℕ) (held : List Held) (p : Parcel) → IsEventChain k held p → length p.table ≡ 1
table_one k held p chain = ap (λ (x : Parcel). length x.table) chain.is

pub sent_brings : (k head : ℕ) (p : Parcel) (sent : Sent) (e : Delivery) → IsEventChain k [] p → BringsBack k head sent e → BringsOne (done_as head (length p.table) sent)
sent_brings k head p sent e waited back =
    let held : sent.parcel.held ≡ option_to_list e.held = ap (λ (x : Parcel). x.held) back.chain.is in
    let chain : IsEventChain k sent.parcel.held sent.parcel = subst (λ hs. IsEventChain k hs sent.parcel) (sym held) back.chain in
    let few : length sent.parcel.held ≤ 1 = subst (λ (hs : List Held). length hs ≤ 1) (sym held) (few_held e.held) in
    let bytes : List ℕ = event_bytes_in (record { head = head; used = sent.used; parcel = sent.parcel }) in
    (record { few = few; chain = (k, chain); one = table_one k [] p waited }, read_spells bytes back.brings.0 back.brings.1)

-- ---- chains wait again

pub waits_again : (d : DoneChain) → BringsOne d → WaitsForEvent (emptied d)
waits_again d one = (one.0.chain.0, posted_again one.0.chain.0 d.finished.parcel.held d one.0.chain.1)

pub all_wait_again : (ds : List DoneChain) → All BringsOne ds → All WaitsForEvent (map emptied ds)
all_wait_again [] each = All-nil WaitsForEvent
all_wait_again (d ∷ ds) each =
    All-cons WaitsForEvent (emptied d) (map emptied ds) (waits_again d (All-head BringsOne d ds each)) (all_wait_again ds (All-tail BringsOne d ds each))
