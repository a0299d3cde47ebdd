-- The event chains that came back are taken one after the other, and posted again.
use Rattle.std.proofs.Common.{◌≡◌, ◌<◌, ◌≤◌, ◌+◌, List, [], ◌∷◌, ◌++◌, length, map, sum_by, refl, sym, ap, subst, ◌∙◌, append_assoc, arith}
use Rattle.std.proofs.lemmas.List.{append-nil}
use Rattle.std.proofs.lemmas.List.Elements.{All-cons, All-nil, All-head, All-tail}
use Rattle.std.proofs.lemmas.List.Sums.{sum_by-cons}
use Rattle.vm_link.specs.Parcel.{IsPostable}
use Rattle.vm_link.specs.Queue.{Queue, Queues, used_count, free_count}
use Rattle.vm_link.specs.declared.chains.DoneChain.{DoneChain}
use Rattle.vm_link.specs.declared.link.Turn.{Turn}
use Rattle.vm_link.specs.declared.parcel.Parcel.{Parcel}
use Rattle.vm_wire.specs.declared.delivery.Delivery.{Delivery}
use Rattle.vm_guest.specs.Events.{taken, all_taken}
use Rattle.vm_guest.specs.Guest.{GuestState}
use Rattle.vm_guest.specs.Queues.{Brings, AreEvents, emptied, one_again, all_again, CameBack, CanTakeFrom, PumpsIf, CanPumpIf, TakesAll, CanTakeAllFrom}

-- ---- one chain

pub event_pages : (c : DoneChain) → CameBack c → length c.finished.parcel.pages ≡ 1
event_pages c back = ap (λ (p : Parcel). length p.pages) back.chain.1.is

pub event_descs : (c : DoneChain) → CameBack c → length c.finished.parcel.table ≡ 1
event_descs c back = ap (λ (p : Parcel). length p.table) back.chain.1.is

pub event_postable : (c : DoneChain) → CameBack c → IsPostable (emptied c)
event_postable c back =
    let descs = event_descs c back in
    let pages = event_pages c back in (
      omega (arith, descs),
      omega (arith, descs),
      omega (arith, pages),
    )

-- once the first chain is collected, one descriptor more is free
pub event_room : (q : Queue) (c : DoneChain) (cs : List DoneChain) → q.done ≡ c ∷ cs → CameBack c → used_count q ≤ q.size → length (emptied c).table ≤ free_count (record q { done = cs })
event_room q c cs is back counted =
    let descs = event_descs c back in
    let done : sum_by (λ (d : DoneChain). d.count) q.done ≡ c.count + sum_by (λ (d : DoneChain). d.count) cs = (rw is (sum_by-cons (λ (d : DoneChain). d.count) c cs)) in
    let one = back.one in
    omega (arith, descs, done, one, counted)

-- ---- all of them

-- From these queues the step leads on: what is left leads to the same as all did.
pub record LeadsOn (g : GuestState) (queues : Queues) (g' : GuestState) (queues' : Queues) : Type 0 where
  pub takes : (events : List Delivery) → AreEvents queues.event.done events
      → (rest : List Delivery) × AreEvents queues'.event.done rest × (all_taken g events ≡ all_taken g' rest)
  pub again : record queues' { event = all_again queues'.event } ≡ record queues { event = all_again queues.event }

pub leads_on : (g : GuestState) (queues : Queues) → LeadsOn g queues g queues
leads_on g queues = record { takes = λ events are. (events, are, refl); again = refl }

-- what one chain brings, and what the rest does
pub record BringsFirst (c : DoneChain) (cs : List DoneChain) (g : GuestState) : Type 0 where
  pub first : Delivery
  pub brings : Brings c.finished first
  pub rest : List Delivery
  pub can : CanTakeFrom (c ∷ []) g (first ∷ [])
  pub can_rest : CanTakeFrom cs (taken g first) rest

pub first_brought : (c : DoneChain) (cs : List DoneChain) (g : GuestState) (events : List Delivery) → CanTakeFrom (c ∷ cs) g events → BringsFirst c cs g
first_brought c cs g [] can = absurd can.bring
first_brought c cs g (d ∷ ds) can = record {
  first = d;
  brings = can.bring.0;
  rest = ds;
  can = record { back = All-cons CameBack c [] (All-head CameBack c cs can.back) (All-nil CameBack); bring = (can.bring.0, tt); each = (can.each.0, tt) };
  can_rest = record { back = All-tail CameBack c cs can.back; bring = can.bring.1; each = can.each.1 };
}

-- the first of the chains can be pumped
pub can_pump_first : (done : List DoneChain) (g : GuestState) (events : List Delivery) → CanTakeFrom done g events → CanPumpIf done g
can_pump_first [] g events can = tt
can_pump_first (c ∷ cs) g events can = let b = first_brought c cs g events can in (b.first, b.can)

all_again_one : (q : Queue) (c : DoneChain) (cs : List DoneChain) → q.done ≡ c ∷ cs → all_again (one_again q c cs) ≡ all_again q
all_again_one q c cs is = rw (is, append_assoc) refl

-- One more is pumped.
pub record LedOn (g : GuestState) (queues : Queues) (g' : GuestState) (queues' : Queues) : Type 0 where
  pub leads : LeadsOn g queues g' queues'
  pub can : CanTakeAllFrom g' queues'
  pub fewer : length queues'.event.done < length queues.event.done

takes_rest : (c : DoneChain) (cs : List DoneChain) (g g' : GuestState) → ((d : Delivery) → Brings c.finished d → g' ≡ taken g d) → (events : List Delivery) → AreEvents (c ∷ cs) events →
    (rest : List Delivery) × AreEvents cs rest × (all_taken g events ≡ all_taken g' rest)
takes_rest c cs g g' each [] are = absurd are
takes_rest c cs g g' each (d ∷ ds) are = (ds, are.1, ap (λ (x : GuestState). all_taken x ds) (sym (each d are.0)))

pumped_once : (done : List DoneChain) (g : GuestState) (queues : Queues) (turn : Turn) (g' : GuestState) (queues' : Queues) (events : List Delivery) → queues.event.done ≡ done → 0 < length done →
    CanTakeFrom done g events → PumpsIf done g queues turn g' queues' → LedOn g queues g' queues'
pumped_once [] g queues turn g' queues' events is some can pumps = absurd (omega arith)
pumped_once (c ∷ cs) g queues turn g' queues' events is some can pumps =
    let q : Queue = queues.event in
    let b = first_brought c cs g events can in
    let next : Queues = record queues { event = one_again q c cs } in
    let here : g' ≡ taken g b.first = pumps.1 b.first b.brings in
    let led : LedOn g queues g' next = record {
      leads = record {
        takes = λ es are. takes_rest c cs g g' pumps.1 es (subst (λ (x : List DoneChain). AreEvents x es) is are);
        again = ap (λ (x : Queue). record queues { event = x }) (all_again_one q c cs is);
      };
      can = (b.rest, subst (λ (x : GuestState). CanTakeFrom cs x b.rest) (sym here) b.can_rest);
      fewer = rw is (omega arith);
    } in
    subst (λ (y : Queues). LedOn g queues g' y) (sym pumps.2) led

pub pumped_on : (g : GuestState) (queues : Queues) (turn : Turn) (g' : GuestState) (queues' : Queues) → 0 < length queues.event.done →
    CanTakeAllFrom g queues → PumpsIf queues.event.done g queues turn g' queues' → LedOn g queues g' queues'
pumped_on g queues turn g' queues' some can pumps = pumped_once queues.event.done g queues turn g' queues' can.0 refl some can.1 pumps

pub leads_further : (g : GuestState) (queues : Queues) (g1 : GuestState) (queues1 : Queues) (g2 : GuestState) (queues2 : Queues) → LeadsOn g queues g1 queues1 → LeadsOn g1 queues1 g2 queues2 → LeadsOn g queues g2 queues2
leads_further g queues g1 queues1 g2 queues2 one two = record {
  takes = λ events are. (let a = one.takes events are in let b = two.takes a.0 a.1 in (b.0, b.1, a.2 ∙ b.2));
  again = two.again ∙ one.again;
}

-- none is left
no_rest : (rest : List Delivery) (g : GuestState) → AreEvents [] rest → all_taken g rest ≡ g
no_rest [] g are = refl
no_rest (d ∷ ds) g are = absurd are

none_again : (q : Queue) → q.done ≡ [] → all_again q ≡ q
none_again q none =
    ap (λ (xs : List DoneChain). record q { waiting = q.waiting ++ map emptied xs; done = [] }) none
    ∙ (ap (λ (ps : List Parcel). record q { waiting = ps; done = [] }) (append-nil q.waiting) ∙ ap (λ (xs : List DoneChain). record q { done = xs }) (sym none))

nothing_left : (done : List DoneChain) → length done ≤ 0 → done ≡ []
nothing_left [] none = refl
nothing_left (c ∷ cs) none = absurd (omega arith)

pub takes_all : (g : GuestState) (queues : Queues) (g' : GuestState) (queues' : Queues) → LeadsOn g queues g' queues' → length queues'.event.done ≤ 0 → TakesAll g queues g' queues'
takes_all g queues g' queues' leads few =
    let none = nothing_left queues'.event.done few in
    record {
      takes = λ events are. (
          let a = leads.takes events are in
          sym (a.2 ∙ no_rest a.0 g' (subst (λ (x : List DoneChain). AreEvents x a.0) none a.1)));
      again = ap (λ (x : Queue). record queues' { event = x }) (sym (none_again queues'.event none)) ∙ leads.again;
    }
