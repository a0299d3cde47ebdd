-- Lemmas on what the device sends: it is of the session for which it is sent.
use Rattle.std.proofs.Common.{◌≡◌, ℕ, ◌+◌, ◌<◌, Bool, true, false, List, [], ◌∷◌, ◌++◌, Option, Some, None, length, refl, sym, ap, ◌∙◌, subst, inl, inr}
use Rattle.std.specs.List.{All}
use Rattle.std.specs.Option.{option_map}
use Rattle.std.proofs.lemmas.Bool.{cases_lt}
use Rattle.std.proofs.lemmas.List.{get_or_past}
use Rattle.std.proofs.lemmas.List.Elements.{All-nil, All-cons, All-head, All-tail}
use Rattle.vm_frame.specs.declared.mem.Held.{Held}
use Rattle.vm_local.specs.State.{LocalState}
use Rattle.vm_local.specs.declared.entry.Entry.{Entry}
use Rattle.vm_local.specs.declared.owed.Owed.{Owed}
use Rattle.vm_local.specs.declared.owed.OwedItem.{OwedItem}
use Rattle.vm_local.specs.declared.owed.OwedItem.TheVariants.{Buffer as OwedBuffer, Sync}
use Rattle.vm_mem.specs.Lists.{first_of}
use Rattle.vm_wire.specs.declared.delivery.Delivery.{Delivery}
use Rattle.vm_wire.specs.declared.event.EventMsg.{EventMsg}
use Rattle.vm_pump.specs.Pump.{session_of as session_told}
use Rattle.vm_session.specs.State.{SessionState}
use Rattle.vm_session.specs.declared.unsent.Unsent.{Unsent}
use Rattle.vm_stands.specs.Flight.{GivesItem, GivesFirst, LeadAll, stops_queues}
use Rattle.vm_stands.specs.Slice.{LeadWith, LeadAhead}
use Rattle.vm_device.specs.Device.{DeviceState, session_of}
use Rattle.vm_device.specs.Stream.{Sends}
use Rattle.vm_host.specs.Part.{Part, Announced, AnnouncedTo}
use Rattle.vm_realm.specs.Inner.{Inner, driver_state}
use Rattle.vm_realm.specs.Slice.{Slice, slice_at, session_in, earlier_of}
use Rattle.vm_realm.specs.Sound.{IsSound, IsSoundSlice, IsSeated, inner_at}
use Rattle.vm_realm.specs.World.{WorldState}

-- ---- the messages of a session name it

abbrev IsNamed : ℕ → Unsent → Type 0
IsNamed id e = session_told e.msg ≡ id

item_named : (id : ℕ) (s : LocalState) (t : ℕ) (o : OwedItem) (e : Unsent) → GivesItem id s t o e → IsNamed id e
item_named id s t (OwedBuffer i) e gives = ap session_told gives.msg
item_named id s t (Sync frame) e gives = ap session_told gives.msg

first_named : (id : ℕ) (s : LocalState) (owed : List Owed) (e : Unsent) → GivesFirst id s owed e → IsNamed id e
first_named id s [] e gives = absurd gives
first_named id s (o ∷ owed) e gives = item_named id s o.queue o.item e gives

all_named : (id : ℕ) (es : List Unsent) (s t : LocalState) → LeadAll id s es t → All (IsNamed id) es
all_named id [] s t leads = All-nil (IsNamed id)
all_named id (e ∷ es) s t leads = All-cons (IsNamed id) e es (first_named id leads.1.made leads.1.made.owed e leads.1.gives) (all_named id es leads.0 t leads.2)

with_named : (b : Bool) (id : ℕ) (r : LocalState) (e : Entry) (es : List Unsent) (s : LocalState) → LeadWith b id r e es s → All (IsNamed id) es
with_named true id r e es s leads = all_named id es r leads.0 leads.1
with_named false id r e es s leads = all_named id es leads.0 s leads.2

ahead_named : (id : ℕ) (r : LocalState) (executed : Option Entry) (es : List Unsent) (s : LocalState) → LeadAhead id r executed es s → All (IsNamed id) es
ahead_named id r None es s leads = all_named id es r s leads
ahead_named id r (Some e) es s leads = with_named (stops_queues e) id r e es s leads

all_behind : {A : Type 0} (P : A → Type 0) (xs ys : List A) → All P (xs ++ ys) → All P ys
all_behind P [] ys each = each
all_behind P (x ∷ xs) ys each = all_behind P xs ys (All-tail P x (xs ++ ys) each)

some_same : {A : Type 0} (x y : A) → Some x ≡ Some y → x ≡ y
some_same x y is = cc

-- ---- in a sound world

there : (d : DeviceState) (id : ℕ) (s : SessionState) → session_of d id ≡ Some s → id < length d.sessions
there d id s is = elim (cases_lt id (length d.sessions)) [
  | inl within ↦ within
  | inr past ↦ (let none : None ≡ Some s = sym (get_or_past d.sessions id None past) ∙ is in cc)
]

seated_named : (o : Option SessionState) (x : Slice) (v : Inner) (s : SessionState) → o ≡ Some s → IsSeated o x v → All (IsNamed s.id) s.unsent
seated_named None x v s is seated = cc
seated_named (Some z) x v s is seated =
    let same : z ≡ s = cc in
    subst (λ (y : SessionState). All (IsNamed y.id) y.unsent) same
    (all_behind (IsNamed z.id) (earlier_of x) z.unsent (ahead_named z.id (driver_state x) v.executed (earlier_of x ++ z.unsent) v.ahead seated.leads))

-- what a session hasn't sent names it
unsent_named : (w : WorldState) (id : ℕ) (s : SessionState) → IsSound w → session_of w.host.device id ≡ Some s → All (IsNamed id) s.unsent
unsent_named w id s sound is =
    let at = sound.1.ids.there id (there w.host.device id s is) in
    let x : Slice = slice_at w at.0 at.1 in
    let v : Inner = inner_at w sound.0 at.0 at.1 in
    let slice : IsSoundSlice x v = sound.1.slices at.0 at.1 at.2 in
    let session : x.session ≡ Some s = ap (session_in w.host.device) at.3 ∙ is in
    let named : All (IsNamed s.id) s.unsent = seated_named x.session x v s session slice.seated in
    subst (λ n. All (IsNamed n) s.unsent) (sound.1.device.sound.ids id s is) named

-- an event with its memory, as it is sent
abbrev Sent : Type 0
Sent = EventMsg × Option Held

abbrev sent_as : Unsent → Sent
sent_as e = (e.msg, e.held)

abbrev named_so : ℕ → Sent → Type 0
named_so id p = session_told p.0 ≡ id

first_is : (id : ℕ) (es : List Unsent) (p : Sent) → All (IsNamed id) es → Some p ≡ option_map sent_as (first_of es) → named_so id p
first_is id [] p each is = cc
first_is id (e ∷ es) p each is = subst (named_so id) (sym (some_same p (sent_as e) is)) (All-head (IsNamed id) e es each)

pub sent_named : (w : WorldState) (d : Delivery) (host : Part) → IsSound w → Announced w.host d host → session_told d.msg ≡ d.session
sent_named w d host sound announced = by_ids w.host.device.unsent refl announced
  where
    by_ids : (ids : List ℕ) → w.host.device.unsent ≡ ids → AnnouncedTo ids w.host d host → session_told d.msg ≡ d.session
    by_ids [] is does = absurd does
    by_ids (session ∷ rest) is does =
        let sends : Sends w.host.device (session ∷ rest) (Some (d.msg, d.held)) host.device =
        subst (λ ids. Sends w.host.device ids (Some (d.msg, d.held)) host.device) is does.1 in
        first_is session sends.0.unsent (sent_as (record { msg = d.msg; held = d.held })) (unsent_named w session sends.0 sound sends.1) sends.3 ∙ sym does.0
