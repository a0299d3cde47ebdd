-- One event is taken from the link.
use Rattle.std.proofs.Common.{◌≡◌, ◌<◌, ◌≤◌, Bool, true, false, List, [], ◌∷◌, ◌++◌, length, cond, Option, Some, None, IsSome, refl, sym, ap, subst, ◌∙◌, arith}
use Rattle.vm_link.specs.Parcel.{IsPostable}
use Rattle.vm_link.specs.Queue.{Queue, Queues, rest_of, collected, posted, first_finished, used_count, free_count}
use Rattle.vm_link.specs.declared.chains.DoneChain.{DoneChain}
use Rattle.vm_link.specs.declared.link.Turn.TheVariants.{Did}
use Rattle.vm_link.specs.declared.parcel.Finished.{Finished}
use Rattle.vm_link.specs.declared.parcel.Parcel.{Parcel}
use Rattle.vm_pump.specs.Pump.{PumpState, BringsEvent, event_bytes_in, delivery_of}
use Rattle.vm_wire.specs.Event.{SpellsEvent}
use Rattle.vm_wire.specs.declared.delivery.Delivery.{Delivery}
use Rattle.vm_wire.specs.declared.event.EventMsg.{EventMsg}
use Rattle.vm_guest.specs.Events.{holds_back, held_back, given, told_at, taken, taken_at, CanTake, CanTakeAt, CanTakeBy, CanTell}
use Rattle.vm_script.specs.Script.{ScriptLines}
use Rattle.vm_guest.specs.Guest.{GuestState, seat_of}
use Rattle.vm_guest.specs.Orderly.{IsDriver}
use Rattle.vm_guest.specs.Process.{ProcessState}
use Rattle.vm_guest.specs.Queues.{Brings, emptied, one_again, CameBack, CanTakeFrom, CanPumpIf, PumpsIf}
use Rattle.vm_guest.specs.declared.seat.Seat.{Seat}
use Rattle.vm_guest.proofs.OrderlyLemmas.{taken_driver}
use Rattle.vm_guest.proofs.QueueLemmas.{event_pages, event_postable, event_room}

-- ---- it is held back or delivered

pub has_seat : (o : Option Seat) (g : GuestState) (d : Delivery) → o ≡ seat_of g d.session → CanTake g d → IsSome o
has_seat o g d is can = elim (seat_of g d.session) as (λ (s : Option Seat). o ≡ s → CanTakeAt s g d → IsSome o) [
  | None ↦ λ e c. absurd c
  | Some s ↦ λ e c. subst (λ (x : Option Seat). IsSome x) (sym e) refl
] is can

pub can_by : (g : GuestState) (d : Delivery) (seat : Seat) → Some seat ≡ seat_of g d.session → CanTake g d → CanTakeBy (holds_back g seat) g seat d
can_by g d seat is can = subst (λ (o : Option Seat). CanTakeAt o g d) (sym is) can

pub can_hold : (g : GuestState) (d : Delivery) (seat : Seat) → Some seat ≡ seat_of g d.session → CanTake g d → holds_back g seat ≡ true → length g.pump.held < g.pump.room
can_hold g d seat is can holds = subst (λ (b : Bool). CanTakeBy b g seat d) holds (can_by g d seat is can)

pub can_tell : (g : GuestState) (d : Delivery) (seat : Seat) → Some seat ≡ seat_of g d.session → CanTake g d → holds_back g seat ≡ false → CanTell g.processes seat d
can_tell g d seat is can holds = subst (λ (b : Bool). CanTakeBy b g seat d) holds (can_by g d seat is can)

pub taken_holds : (g : GuestState) (d : Delivery) (seat : Seat) → Some seat ≡ seat_of g d.session → holds_back g seat ≡ true → taken g d ≡ held_back g d
taken_holds g d seat is holds =
    ap (λ (o : Option Seat). taken_at o g d) (sym is) ∙ ap (λ (b : Bool). cond b (held_back g d) (given g seat d)) holds

pub taken_gives : (g : GuestState) (d : Delivery) (seat : Seat) → Some seat ≡ seat_of g d.session → holds_back g seat ≡ false → taken g d ≡ given g seat d
taken_gives g d seat is holds =
    ap (λ (o : Option Seat). taken_at o g d) (sym is) ∙ ap (λ (b : Bool). cond b (held_back g d) (given g seat d)) holds

-- ---- its chain came back

-- The first chain came back, and its event can be taken.
pub record FirstBack (queues : Queues) (f : Finished) (g : GuestState) : Type 0 where
  pub chain : DoneChain
  pub rest : List DoneChain
  pub is : queues.event.done ≡ chain ∷ rest
  pub same : chain.finished ≡ f
  pub event : Delivery
  pub can : CanTakeFrom (chain ∷ []) g (event ∷ [])

back_in : (done : List DoneChain) (queues : Queues) (f : Finished) (g : GuestState) → queues.event.done ≡ done → Some f ≡ first_finished done → CanPumpIf done g → FirstBack queues f g
back_in [] queues f g is some can = absurd cc
back_in (c ∷ cs) queues f g is some can = record { chain = c; rest = cs; is = is; same = cc; event = can.0; can = can.1 }

pub first_back : (queues : Queues) (f : Finished) (g : GuestState) → Some f ≡ first_finished queues.event.done → CanPumpIf queues.event.done g → FirstBack queues f g
first_back queues f g some can = back_in queues.event.done queues f g refl some can

pub came_back : (queues : Queues) (f : Finished) (g : GuestState) → (b : FirstBack queues f g) → CameBack b.chain
came_back queues f g b = b.can.back 0 b.chain (omega arith)

pub back_pages : (queues : Queues) (f : Finished) (g : GuestState) → FirstBack queues f g → length f.parcel.pages ≡ 1
back_pages queues f g b = subst (λ (x : Finished). length x.parcel.pages ≡ 1) b.same (event_pages b.chain (came_back queues f g b))

pub back_few : (queues : Queues) (f : Finished) (g : GuestState) → FirstBack queues f g → length f.parcel.held ≤ 1
back_few queues f g b = subst (λ (x : Finished). length x.parcel.held ≤ 1) b.same (came_back queues f g b).few

pub back_brings : (queues : Queues) (f : Finished) (g : GuestState) → (b : FirstBack queues f g) → Brings f b.event
back_brings queues f g b = subst (λ (x : Finished). Brings x b.event) b.same b.can.bring.0

pub back_spells : (queues : Queues) (f : Finished) (g : GuestState) → FirstBack queues f g → BringsEvent f
back_spells queues f g b = let s = back_brings queues f g b in (s.0, s.1)

-- what is opened is the event
pub opened : (queues : Queues) (f : Finished) (g : GuestState) (d : Delivery) → (b : FirstBack queues f g) → ((msg : EventMsg) → SpellsEvent (event_bytes_in f) msg → d ≡ delivery_of msg f.parcel.held) → d ≡ b.event
opened queues f g d b opens = let s = back_brings queues f g b in opens s.0 s.1 ∙ sym s.2

pub can_take : (queues : Queues) (f : Finished) (g : GuestState) (d : Delivery) → FirstBack queues f g → ((msg : EventMsg) → SpellsEvent (event_bytes_in f) msg → d ≡ delivery_of msg f.parcel.held) → CanTake g d
can_take queues f g d b opens = subst (λ (x : Delivery). CanTake g x) (sym (opened queues f g d b opens)) b.can.each.0

-- the chain can be posted again
pub back_postable : (queues : Queues) (f : Finished) (g : GuestState) (parcel : Parcel) → FirstBack queues f g → parcel ≡ record f.parcel { held = [] } → IsPostable parcel
back_postable queues f g parcel b is =
    subst (λ (x : Parcel). IsPostable x) (sym is)
    (subst (λ (x : Finished). IsPostable (record x.parcel { held = [] })) b.same (event_postable b.chain (came_back queues f g b)))

pub back_room : (queues queues1 : Queues) (f : Finished) (g : GuestState) (parcel : Parcel) → FirstBack queues f g → parcel ≡ record f.parcel { held = [] } →
    queues1 ≡ record queues { event = collected queues.event } → used_count queues.event ≤ queues.event.size → length parcel.table ≤ free_count queues1.event
back_room queues queues1 f g parcel b is left counted =
    let room = event_room queues.event b.chain b.rest b.is (came_back queues f g b) counted in
    let same : collected queues.event ≡ record queues.event { done = b.rest } = ap (λ (xs : List DoneChain). record queues.event { done = rest_of xs }) b.is in
    subst (λ (x : Queues). length parcel.table ≤ free_count x.event) (sym left)
    (subst (λ (x : Queue). length parcel.table ≤ free_count x) (sym same)
    (subst (λ (x : Parcel). length x.table ≤ free_count (record queues.event { done = b.rest })) (sym is)
    (subst (λ (x : Finished). length x.parcel.table ≤ free_count (record queues.event { done = b.rest })) b.same room)))

-- ---- one step

pub pumped : (queues queues1 queues' : Queues) (f : Finished) (g : GuestState) (d : Delivery) (parcel : Parcel) (g' : GuestState) → FirstBack queues f g →
    ((msg : EventMsg) → SpellsEvent (event_bytes_in f) msg → d ≡ delivery_of msg f.parcel.held) → parcel ≡ record f.parcel { held = [] } →
    g' ≡ taken g d → queues1 ≡ record queues { event = collected queues.event } → queues' ≡ record queues1 { event = posted queues1.event parcel } → PumpsIf queues.event.done g queues Did g' queues'
pumped queues queues1 queues' f g d parcel g' b opens is takes left again =
    let same : collected queues.event ≡ record queues.event { done = b.rest } = ap (λ (xs : List DoneChain). record queues.event { done = rest_of xs }) b.is in
    let each : (x : Delivery) → Brings b.chain.finished x → g' ≡ taken g x =
    λ x brings. (
    let s = subst (λ (y : Finished). Brings y x) b.same brings in
    let e : d ≡ x = opens s.0 s.1 ∙ sym s.2 in
    takes ∙ ap (λ (y : Delivery). taken g y) e) in
    let chain : parcel ≡ emptied b.chain = is ∙ ap (λ (x : Finished). record x.parcel { held = [] }) (sym b.same) in
    let after : queues' ≡ record queues { event = one_again queues.event b.chain b.rest } =
    again ∙ (ap (λ (x : Queues). record x { event = posted x.event parcel }) (left ∙ ap (λ (x : Queue). record queues { event = x }) same)
    ∙ ap (λ (x : Parcel). record queues { event = posted (record queues.event { done = b.rest }) x }) chain) in
    subst (λ (done : List DoneChain). PumpsIf done g queues Did g' queues') (sym b.is) (refl, each, after)

-- ---- what becomes of the driver

pub kept_back : (g : GuestState) (d : Delivery) (seat : Seat) (pump : PumpState) → Some seat ≡ seat_of g d.session → holds_back g seat ≡ true → pump ≡ record g.pump { held = g.pump.held ++ d ∷ [] } →
    record g { pump = pump } ≡ taken g d
kept_back g d seat pump is holds back = ap (λ (x : PumpState). record g { pump = x }) back ∙ sym (taken_holds g d seat is holds)

pub delivered_at : (g : GuestState) (d : Delivery) (seat : Seat) (processes : List ProcessState) → Some seat ≡ seat_of g d.session → holds_back g seat ≡ false → processes ≡ told_at g.processes seat d →
    record g { processes = processes } ≡ taken g d
delivered_at g d seat processes is holds told = ap (λ (x : List ProcessState). record g { processes = x }) told ∙ sym (taken_gives g d seat is holds)

pub taken_is_driver : (script : ScriptLines) (g g' : GuestState) (d : Delivery) → IsDriver script g → CanTake g d → g' ≡ taken g d → IsDriver script g'
taken_is_driver script g g' d driver can is = subst (λ (x : GuestState). IsDriver script x) (sym is) (taken_driver script g d driver can)
