-- In a sound world each event can be taken in its turn.
use Rattle.std.proofs.Common.{◌≡◌, ◌⊎◌, ◌≢◌, ℕ, zero, suc, ◌+◌, ◌*◌, ◌<◌, ◌≤◌, Bool, true, false, not, List, [], ◌∷◌, Option, Some, None, length, refl, sym, ap, ◌∙◌, subst, arith, inl, inr, eqb, cond}
use Rattle.std.specs.Prelude.{IsSome}
use Rattle.std.specs.List.{All, Contains}
use Rattle.std.proofs.lemmas.Bool.{false≢true, cond-true, eq-eqb, eqb-true, and_parts}
use Rattle.std.proofs.lemmas.List.Elements.{All-head, All-tail, All-nil, All-cons, All-contains}
use Rattle.std.proofs.lemmas.Option.{same_Some}
use Rattle.vm_home.specs.Moves.{is_stopping}
use Rattle.vm_wire.specs.declared.delivery.Delivery.{Delivery}
use Rattle.vm_guest.specs.Events.{holds_back as guest_holds, is_overtaken, events_of, CanTake, CanTakeBy, CanTakeAt, CanTakeAll}
use Rattle.vm_guest.specs.Guest.{GuestState, process_at, seat_of}
use Rattle.vm_guest.specs.Orderly.{IsOrderly, IsSeat, lines_at}
use Rattle.vm_guest.specs.Process.{current_call, crossing_call, handle_at}
use Rattle.vm_guest.specs.declared.asked.Asked.{Asked as AskedCall}
use Rattle.vm_guest.specs.declared.seat.Seat.{Seat}
use Rattle.vm_guest.proofs.OrderlyLemmas.{seat_within}
use Rattle.vm_realm.specs.World.{WorldState}
use Rattle.vm_realm.specs.Inner.{Inner}
use Rattle.vm_realm.specs.Slice.{Slice, events_for, is_on, out_at, slice_at}
use Rattle.vm_realm.specs.SliceSteps.{holds_back}
use Rattle.vm_realm.specs.Sound.{HoldsFew, IsSoundSlice, IsSoundBy, IsSound, IsHandle, id_at, inner_at}
use Rattle.vm_realm.proofs.FrameLemmas.{handle_there, own_first}
use Rattle.vm_realm.proofs.TakeLemmas.{SeatedEvent, seated_event, id_kept, holds_by}
use Rattle.vm_realm.proofs.ListLemmas.{in_front, behind_first}
use Rattle.vm_realm.proofs.MoveLemmas.{on_one}
use Rattle.vm_realm.proofs.SessionLemmas.{seat_some}
use Rattle.vm_realm.proofs.PumpingLemmas.{pumped_once, pump_may}
use Rattle.vm_realm.proofs.PumpLiftLemmas.{pump_keeps, told_may}

-- ---- the first event

-- there is room for one more that is held back
abbrev pub HasRoom : Type 0
HasRoom = (w : WorldState) (rows : List (List Inner)) (d : Delivery) (ds : List Delivery) → IsSoundBy w rows → w.events ≡ d ∷ ds → length w.guest.pump.held < w.guest.pump.room

first_can : HasRoom → (w : WorldState) (rows : List (List Inner)) (d : Delivery) (ds : List Delivery) → IsSoundBy w rows → w.events ≡ d ∷ ds → CanTake w.guest d
first_can room w rows d ds sound is =
    subst (λ o. CanTakeAt o w.guest d) (sym at.is) (by_holding (guest_holds w.guest at.seat) refl)
  where
    at : SeatedEvent w d
    at = seated_event w rows d ds sound is

    by_holding : (b : Bool) → guest_holds w.guest at.seat ≡ b → CanTakeBy (guest_holds w.guest at.seat) w.guest at.seat d
    by_holding true holds = subst (λ b. CanTakeBy b w.guest at.seat d) (sym holds) (room w rows d ds sound is)
    by_holding false gives =
        let n : ℕ = at.seat.process in
        let h : ℕ = at.seat.handle in
        let x : Slice = slice_at w n h in
        let named : IsHandle w n h = handle_there w.guest n h at.within.0 at.within.1 in
        let slice : IsSoundSlice x (inner_at w rows n h) = sound.slices n h named in
        let own : id_at w n h ≡ Some d.session = id_kept x (inner_at w rows n h) (out_at w n h) d.session slice.out at.session in
        let orderly : IsOrderly w.script.model (lines_at w.script n) (process_at w.guest n) = sound.lines.orderly n at.within.0 in
        let free : holds_back x.handle.stage ≡ false =
        sym (holds_by (process_at w.guest n).status (current_call (process_at w.guest n)) h (handle_at (process_at w.guest n) h) (orderly.each h at.within.1).keeps (orderly.out h at.within.1)) ∙ gives in
        let first : x.events ≡ d ∷ events_for (id_at w n h) ds = ap (events_for (id_at w n h)) is ∙ own_first (id_at w n h) ds d own in
        subst (λ b. CanTakeBy b w.guest at.seat d) (sym gives) (told_may x (inner_at w rows n h) d (events_for (id_at w n h) ds) slice free first)

take_all : HasRoom → (ds : List Delivery) (w : WorldState) → IsSound w → w.events ≡ ds → CanTakeAll w.guest ds
take_all room [] w sound is = tt
take_all room (d ∷ ds) w sound is =
    let next : IsSound (pumped_once w d ds) = pump_keeps w (pumped_once w d ds) sound (pump_may w d ds is) in
    (first_can room w sound.0 d ds sound.1 is, take_all room ds (pumped_once w d ds) next refl)

pub can_take_all : HasRoom → (w : WorldState) → IsSound w → CanTakeAll w.guest w.events
can_take_all room w sound = take_all room w.events w sound refl

-- ---- whose held events these are

-- the process of the handle that has the event's session
abbrev process_in_seat : Option Seat → ℕ → Bool
process_in_seat None n = false
process_in_seat (Some seat) n = eqb seat.process n

abbrev is_of : GuestState → ℕ → Delivery → Bool
is_of g n d = process_in_seat (seat_of g d.session) n

abbrev count_of : GuestState → ℕ → List Delivery → ℕ
count_of g n [] = 0
count_of g n (d ∷ ds) = cond (is_of g n d) 1 0 + count_of g n ds

-- of so many processes from n on
abbrev counts : GuestState → ℕ → ℕ → List Delivery → ℕ
counts g n zero ds = 0
counts g n (suc k) ds = count_of g n ds + counts g (n + 1) k ds

counts_none : (g : GuestState) (n k : ℕ) → counts g n k [] ≡ 0
counts_none g n zero = refl
counts_none g n (suc k) = omega (arith, counts_none g (n + 1) k)

abbrev ones : GuestState → ℕ → ℕ → Delivery → ℕ
ones g n zero d = 0
ones g n (suc k) d = cond (is_of g n d) 1 0 + ones g (n + 1) k d

counts_first : (g : GuestState) (n k : ℕ) (d : Delivery) (ds : List Delivery) → counts g n k (d ∷ ds) ≡ ones g n k d + counts g n k ds
counts_first g n zero d ds = refl
counts_first g n (suc k) d ds = omega (arith, counts_first g (n + 1) k d ds)

ones_there : (g : GuestState) (n k i : ℕ) (d : Delivery) → is_of g (n + i) d ≡ true → i < k → 1 ≤ ones g n k d
ones_there g n zero i d is within = absurd (omega (arith, within))
ones_there g n (suc k) zero d is within =
    let start : n + 0 ≡ n = omega arith in
    let here : ◌≡◌ {A = ℕ} (cond (is_of g n d) 1 0) 1 = cond-true (is_of g n d) 1 0 (ap (λ i. is_of g i d) (sym start) ∙ is) in
    omega (arith, here)
ones_there g n (suc k) (suc i) d is within =
    let next : n + suc i ≡ (n + 1) + i = omega arith in
    omega (arith, ones_there g (n + 1) k i d (ap (λ j. is_of g j d) (sym next) ∙ is) (omega (arith, within)))

-- each event is of one of the processes
counts_all : (g : GuestState) (k : ℕ) (ds : List Delivery) → All (λ d. (i : ℕ) × (i < k) × (is_of g i d ≡ true)) ds → length ds ≤ counts g 0 k ds
counts_all g k [] all = omega (arith, counts_none g 0 k)
counts_all g k (d ∷ ds) all =
    let P : Delivery → Type 0 = λ d. (i : ℕ) × (i < k) × (is_of g i d ≡ true) in
    let one : P d = All-head P d ds all in
    let same : 0 + one.0 ≡ one.0 = omega arith in
    omega (arith, counts_first g 0 k d ds, ones_there g 0 k one.0 d (ap (λ i. is_of g i d) same ∙ one.2) one.1, counts_all g k ds (All-tail P d ds all))

counts_few : (g : GuestState) (n k : ℕ) (ds : List Delivery) → ((i : ℕ) → n ≤ i → i < n + k → count_of g i ds ≤ 64) → counts g n k ds ≤ 64 * k
counts_few g n zero ds each = omega arith
counts_few g n (suc k) ds each =
    let first = each n (omega arith) (omega arith) in
    omega (arith, first, counts_few g (n + 1) k ds (λ i from to. each i (omega (arith, from)) (omega (arith, to))))

-- where what is of the process is of one session, there are no more of it
count_within : (g : GuestState) (n id : ℕ) (ds : List Delivery) → All (λ d. is_of g n d ≡ true → d.session ≡ id) ds → count_of g n ds ≤ length (events_of id ds)
count_within g n id [] all = omega arith
count_within g n id (d ∷ ds) all = by_test (is_of g n d) refl (count_within g n id ds (All-tail (λ e. is_of g n e ≡ true → e.session ≡ id) d ds all))
  where
    longer : (b : Bool) → length (events_of id ds) ≤ length (cond b (d ∷ events_of id ds) (events_of id ds))
    longer true = omega arith
    longer false = omega arith

    by_test : (b : Bool) → is_of g n d ≡ b → count_of g n ds ≤ length (events_of id ds) → cond b 1 0 + count_of g n ds ≤ length (events_of id (d ∷ ds))
    by_test false is rest = omega (arith, rest, longer (eqb d.session id))
    by_test true is rest =
        let own : d.session ≡ id = All-head (λ e. is_of g n e ≡ true → e.session ≡ id) d ds all is in
        let more = ap length (cond-true (eqb d.session id) (d ∷ events_of id ds) (events_of id ds) (eq-eqb d.session id own)) in
        omega (arith, rest, more)

count_zero : (g : GuestState) (n : ℕ) (ds : List Delivery) → All (λ d. is_of g n d ≡ true → ⊥) ds → count_of g n ds ≡ 0
count_zero g n [] all = refl
count_zero g n (d ∷ ds) all = by_test (is_of g n d) refl (count_zero g n ds (All-tail (λ e. is_of g n e ≡ true → ⊥) d ds all))
  where
    by_test : (b : Bool) → is_of g n d ≡ b → count_of g n ds ≡ 0 → cond b 1 0 + count_of g n ds ≡ 0
    by_test false is rest = omega (arith, rest)
    by_test true is rest = absurd (All-head (λ e. is_of g n e ≡ true → ⊥) d ds all is)

-- ---- a handle's held events

seat_is : (o : Option Seat) (n : ℕ) → process_in_seat o n ≡ true → (seat : Seat) × (o ≡ Some seat) × (seat.process ≡ n)
seat_is None n is = absurd (false≢true is)
seat_is (Some seat) n is = (seat, refl, eqb-true seat.process n is)

in_list : (k : ℕ) (ds : List Delivery) (d : Delivery) → Contains ds d → d.session ≡ k → events_of k ds ≢ []
in_list k [] d there own = absurd (omega (arith, there.1))
in_list k (e ∷ ds) d (zero, within, is) own = λ none.
    not_nil e (events_of k ds) (sym (cond-true (eqb e.session k) (e ∷ events_of k ds) (events_of k ds) (eq-eqb e.session k (ap (λ (x : Delivery). x.session) is ∙ own))) ∙ none)
  where
    not_nil : (x : Delivery) (xs : List Delivery) → x ∷ xs ≡ [] → ⊥
    not_nil x xs same = cc
in_list k (e ∷ ds) d (suc i, within, is) own = by_test (eqb e.session k) (in_list k ds d (i, omega (arith, within), is) own)
  where
    not_nil : (x : Delivery) (xs : List Delivery) → x ∷ xs ≡ [] → ⊥
    not_nil x xs same = cc

    by_test : (b : Bool) → events_of k ds ≢ [] → cond b (e ∷ events_of k ds) (events_of k ds) ≢ []
    by_test true rest = λ none. not_nil e (events_of k ds) none
    by_test false rest = rest

few_not : (b : Bool) (ds : List Delivery) → HoldsFew b ds → ds ≢ [] → b ≡ true
few_not true ds few some = refl
few_not false ds few some = absurd (some few)

-- a held event is of the handle whose call crosses
held_own : (w : WorldState) (rows : List (List Inner)) (n : ℕ) (d : Delivery) → IsSoundBy w rows → Contains w.guest.pump.held d → is_of w.guest n d ≡ true →
    (n < length w.guest.processes) × ((k : ℕ) × IsHandle w n k × (id_at w n k ≡ Some d.session) × (is_overtaken (crossing_call (process_at w.guest n)) k ≡ true))
held_own w rows n d sound there is =
    let at : _ = seat_is (seat_of w.guest d.session) n is in
    let seat : Seat = at.0 in
    let within : IsSeat w.guest.processes seat = seat_within w.script w.guest d.session seat sound.lines at.1 in
    let k : ℕ = seat.handle in
    let first : n < length w.guest.processes = subst (λ i. i < length w.guest.processes) at.2 within.0 in
    let second : k < length (process_at w.guest n).handles = subst (λ i. k < length (process_at w.guest i).handles) at.2 within.1 in
    let named : IsHandle w n k = handle_there w.guest n k first second in
    let slice : IsSoundSlice (slice_at w n k) (inner_at w rows n k) = sound.slices n k named in
    let session : (handle_at (process_at w.guest n) k).session ≡ Some d.session = subst (λ i. (handle_at (process_at w.guest i) k).session ≡ Some d.session) at.2 (sound.ids.seated d.session seat at.1) in
    let own : id_at w n k ≡ Some d.session = id_kept (slice_at w n k) (inner_at w rows n k) (out_at w n k) d.session slice.out session in
    let some : (slice_at w n k).held ≢ [] = λ none. in_list d.session w.guest.pump.held d there refl (sym (ap (λ o. events_for o w.guest.pump.held) own) ∙ none) in
    let holds : holds_back (slice_at w n k).handle.stage ≡ true = few_not (holds_back (slice_at w n k).handle.stage) (slice_at w n k).held slice.held some in
    let orderly : IsOrderly w.script.model (lines_at w.script n) (process_at w.guest n) = sound.lines.orderly n first in
    let overtaken : is_overtaken (crossing_call (process_at w.guest n)) k ≡ true =
    holds_by (process_at w.guest n).status (current_call (process_at w.guest n)) k (handle_at (process_at w.guest n) k) (orderly.each k second).keeps (orderly.out k second) ∙ holds in
    (first, (k, named, own, overtaken))

overtaken_on : (o : Option AskedCall) (h : ℕ) → is_overtaken o h ≡ true → is_on o h ≡ true
overtaken_on None h is = absurd (false≢true is)
overtaken_on (Some a) h is = (and_parts (eqb a.handle h) (not (is_stopping a.call)) is).0

all_in : (P : Delivery → Type 0) (ds : List Delivery) → ((d : Delivery) → Contains ds d → P d) → All P ds
all_in P [] each = All-nil P
all_in P (d ∷ ds) each = All-cons P d ds (each d (in_front d ds)) (all_in P ds (λ e there. each e (behind_first d e ds there)))

-- ---- room

-- no more than 64 messages of a handle are held back
abbrev pub FewHeld : Type 0
FewHeld = (w : WorldState) (rows : List (List Inner)) (n h : ℕ) → IsSoundBy w rows → IsHandle w n h → length (slice_at w n h).held ≤ 64

some_or_none : (p : Delivery → Bool) (ds : List Delivery) → ((d : Delivery) × Contains ds d × (p d ≡ true)) ⊎ All (λ d. p d ≡ true → ⊥) ds
some_or_none p [] = inr (All-nil (λ d. p d ≡ true → ⊥))
some_or_none p (d ∷ ds) = by_test (p d) refl (some_or_none p ds)
  where
    by_test : (b : Bool) → p d ≡ b → ((e : Delivery) × Contains ds e × (p e ≡ true)) ⊎ All (λ e. p e ≡ true → ⊥) ds → ((e : Delivery) × Contains (d ∷ ds) e × (p e ≡ true)) ⊎ All (λ e. p e ≡ true → ⊥) (d ∷ ds)
    by_test true is rest = inl (d, in_front d ds, is)
    by_test false is (inl (e, there, passes)) = inl (e, behind_first d e ds there, passes)
    by_test false is (inr none) = inr (All-cons (λ e. p e ≡ true → ⊥) d ds (λ passes. false≢true (sym is ∙ passes)) none)

-- each held event is of a process
seated : (w : WorldState) (rows : List (List Inner)) (d : Delivery) → IsSoundBy w rows → Contains w.guest.pump.held d → (i : ℕ) × (i < length w.guest.processes) × (is_of w.guest i d ≡ true)
seated w rows d sound there =
    let some : IsSome (seat_of w.guest d.session) = All-contains (λ (e : Delivery). IsSome (seat_of w.guest e.session)) w.guest.pump.held d sound.said.held there in
    let at : _ = seat_some (seat_of w.guest d.session) some in
    let within : IsSeat w.guest.processes at.0 = seat_within w.script w.guest d.session at.0 sound.lines at.1 in
    (at.0.process, within.0, ap (λ o. process_in_seat o at.0.process) at.1 ∙ eq-eqb at.0.process at.0.process refl)

process_few : FewHeld → (w : WorldState) (rows : List (List Inner)) (n : ℕ) → IsSoundBy w rows → count_of w.guest n w.guest.pump.held ≤ 64
process_few few w rows n sound = by_first (first_of w.guest.pump.held)
  where
    -- one of the events that is of the process, or that none is
    first_of : (ds : List Delivery) → ((d : Delivery) × Contains ds d × (is_of w.guest n d ≡ true)) ⊎ All (λ d. is_of w.guest n d ≡ true → ⊥) ds
    first_of ds = some_or_none (is_of w.guest n) ds

    by_first : ((d : Delivery) × Contains w.guest.pump.held d × (is_of w.guest n d ≡ true)) ⊎ All (λ d. is_of w.guest n d ≡ true → ⊥) w.guest.pump.held → count_of w.guest n w.guest.pump.held ≤ 64
    by_first (inr none) = (let zero_of = count_zero w.guest n w.guest.pump.held none in omega (arith, zero_of))
    by_first (inl (d, there, is)) =
        let own : _ = held_own w rows n d sound there is in
        let k : ℕ = own.1.0 in
        let on : is_on (crossing_call (process_at w.guest n)) k ≡ true = overtaken_on (crossing_call (process_at w.guest n)) k own.1.3 in
        let all : All (λ e. is_of w.guest n e ≡ true → e.session ≡ d.session) w.guest.pump.held =
        all_in (λ e. is_of w.guest n e ≡ true → e.session ≡ d.session) w.guest.pump.held (λ e inside of.
        let other : _ = held_own w rows n e sound inside of in
        let same : other.1.0 ≡ k = on_one (crossing_call (process_at w.guest n)) other.1.0 k (overtaken_on (crossing_call (process_at w.guest n)) other.1.0 other.1.3) on in
        same_Some e.session d.session (sym other.1.2 ∙ (ap (id_at w n) same ∙ own.1.2))) in
        let most = count_within w.guest n d.session w.guest.pump.held all in
        let held = ap (λ o. length (events_for o w.guest.pump.held)) own.1.2 in
        omega (arith, most, held, few w rows n k sound own.1.1)

-- so there is room for one more
pub room_there : FewHeld → HasRoom
room_there few w rows d ds sound is =
    let at : SeatedEvent w d = seated_event w rows d ds sound is in
    let some : at.seat.process < length w.guest.processes = at.within.0 in
    let all = counts_all w.guest (length w.guest.processes) w.guest.pump.held (all_in (λ e. (i : ℕ) × (i < length w.guest.processes) × (is_of w.guest i e ≡ true)) w.guest.pump.held (λ e inside. seated w rows e sound inside)) in
    let few_all = counts_few w.guest 0 (length w.guest.processes) w.guest.pump.held (λ i from to. process_few few w rows i sound) in
    let room = sound.quiet.room in
    omega (arith, all, few_all, room, some)
