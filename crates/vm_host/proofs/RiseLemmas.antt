-- Lemmas on the sessions of the calls that wait: they rise, so there are no more of them than sessions.
use Rattle.std.proofs.Common.{◌≡◌, ◌≢◌, ℕ, ◌+◌, ◌<◌, ◌≤◌, ◌==◌, Bool, true, false, nat_lt, Option, Some, is_some, List, [], ◌∷◌, length, refl, subst, arith, if◌then◌else◌}
use Rattle.std.proofs.lemmas.Bool.Decides.{nat_tests}
use Rattle.vm_host.specs.Host.{waiting_for, with_call, without_call}
use Rattle.vm_host.specs.Keeps.{RiseWithin, IsWaiting, AreWaiting}
use Rattle.vm_host.specs.declared.waiting.Waiting.{Waiting}

-- there are no more of them than numbers in between
pub as_many : (from end : ℕ) (ws : List Waiting) → from ≤ end → RiseWithin from end ws → from + length ws ≤ end
as_many from end [] between rise = omega (arith, between)
as_many from end (w ∷ ws) between rise =
    let rest = as_many (w.session + 1) end ws (let most = rise.1 in omega (arith, most)) rise.2 in
    let least = rise.0 in
    omega (arith, rest, least)

-- they rise from a lower number too, and below a higher one
pub from_lower : (from lower end : ℕ) (ws : List Waiting) → lower ≤ from → RiseWithin from end ws → RiseWithin lower end ws
from_lower from lower end [] low rise = tt
from_lower from lower end (w ∷ ws) low rise = ((let least = rise.0 in omega (arith, low, least)), rise.1, rise.2)

pub to_higher : (from end higher : ℕ) (ws : List Waiting) → end ≤ higher → RiseWithin from end ws → RiseWithin from higher ws
to_higher from end higher [] high rise = tt
to_higher from end higher (w ∷ ws) high rise =
    (rise.0, (let most = rise.1 in omega (arith, high, most)), to_higher (w.session + 1) end higher ws high rise.2)

-- ---- a call is taken out

out_if : (b : Bool) (session from end : ℕ) (w : Waiting) (ws : List Waiting) → RiseWithin (w.session + 1) end (without_call session ws)
    → RiseWithin from end (w ∷ ws) → RiseWithin from end (if b then ws else w ∷ without_call session ws)
out_if true session from end w ws rest rise = from_lower (w.session + 1) from end ws (let least = rise.0 in omega (arith, least)) rise.2
out_if false session from end w ws rest rise = (rise.0, rise.1, rest)

pub rise_without : (session from end : ℕ) (ws : List Waiting) → RiseWithin from end ws → RiseWithin from end (without_call session ws)
rise_without session from end [] rise = tt
rise_without session from end (w ∷ ws) rise =
    out_if (w.session == session) session from end w ws (rise_without session (w.session + 1) end ws rise.2) rise

all_if : (b : Bool) (session : ℕ) (w : Waiting) (ws : List Waiting) → IsWaiting w → AreWaiting ws → AreWaiting (without_call session ws)
    → AreWaiting (if b then ws else w ∷ without_call session ws)
all_if true session w ws here all rest = all
all_if false session w ws here all rest = (here, rest)

pub waiting_without : (session : ℕ) (ws : List Waiting) → AreWaiting ws → AreWaiting (without_call session ws)
waiting_without session [] all = tt
waiting_without session (w ∷ ws) all = all_if (w.session == session) session w ws all.0 all.1 (waiting_without session ws all.1)

found_if : (b : Bool) (w x : Waiting) (o : Option Waiting) → IsWaiting w → (o ≡ Some x → IsWaiting x) → (if b then Some w else o) ≡ Some x → IsWaiting x
found_if true w x o here rest is = (let same : w ≡ x = cc in subst IsWaiting same here)
found_if false w x o here rest is = rest is

-- what holds of all of them holds of the one that is found
pub waiting_found : (session : ℕ) (ws : List Waiting) (x : Waiting) → AreWaiting ws → waiting_for session ws ≡ Some x → IsWaiting x
waiting_found session [] x all is = cc
waiting_found session (w ∷ ws) x all is = found_if (w.session == session) w x (waiting_for session ws) all.0 (waiting_found session ws x all.1) is

named_if : (b : Bool) (session : ℕ) (w x : Waiting) (o : Option Waiting) → (w.session == session) ≡ b → (o ≡ Some x → x.session ≡ session)
    → (if b then Some w else o) ≡ Some x → x.session ≡ session
named_if true session w x o test rest is = (let same : w ≡ x = cc in subst (λ (v : Waiting). v.session ≡ session) same (grind (arith, nat_tests, test)))
named_if false session w x o test rest is = rest is

-- it is of the session that is looked for
pub found_named : (session : ℕ) (ws : List Waiting) (x : Waiting) → waiting_for session ws ≡ Some x → x.session ≡ session
found_named session [] x is = cc
found_named session (w ∷ ws) x is = named_if (w.session == session) session w x (waiting_for session ws) refl (found_named session ws x) is

-- ---- a call is put in

put_if : (b : Bool) (call : Waiting) (from end : ℕ) (w : Waiting) (ws : List Waiting) → b ≡ nat_lt w.session call.session → from ≤ call.session
    → call.session < end → w.session ≢ call.session → RiseWithin from end (w ∷ ws) → (w.session + 1 ≤ call.session → RiseWithin (w.session + 1) end (with_call call ws))
    → RiseWithin from end (if b then w ∷ with_call call ws else call ∷ (w ∷ ws))
put_if true call from end w ws is least most other rise rest = (rise.0, rise.1, rest (grind (arith, nat_tests, is)))
put_if false call from end w ws is least most other rise rest = (least, most, (grind (arith, nat_tests, is, other), rise.1, rise.2))

none_head : (b : Bool) (w : Waiting) (o : Option Waiting) → is_some (if b then Some w else o) ≡ false → b ≡ false
none_head true w o none = cc
none_head false w o none = refl

none_rest : (b : Bool) (w : Waiting) (o : Option Waiting) → is_some (if b then Some w else o) ≡ false → is_some o ≡ false
none_rest true w o none = cc
none_rest false w o none = none

differs : (m n : ℕ) → (m == n) ≡ false → m ≢ n
differs m n is same = grind (arith, nat_tests, is, same)

pub rise_with : (call : Waiting) (from end : ℕ) (ws : List Waiting) → from ≤ call.session → call.session < end
    → is_some (waiting_for call.session ws) ≡ false → RiseWithin from end ws → RiseWithin from end (with_call call ws)
rise_with call from end [] least most alone rise = (least, most, tt)
rise_with call from end (w ∷ ws) least most alone rise =
    put_if (nat_lt w.session call.session) call from end w ws refl least most
    (differs w.session call.session (none_head (w.session == call.session) w (waiting_for call.session ws) alone)) rise
    (λ above. rise_with call (w.session + 1) end ws above most (none_rest (w.session == call.session) w (waiting_for call.session ws) alone) rise.2)

all_put_if : (b : Bool) (call w : Waiting) (ws : List Waiting) → IsWaiting call → IsWaiting w → AreWaiting ws → AreWaiting (with_call call ws)
    → AreWaiting (if b then w ∷ with_call call ws else call ∷ (w ∷ ws))
all_put_if true call w ws more here all rest = (here, rest)
all_put_if false call w ws more here all rest = (more, (here, all))

pub waiting_with : (call : Waiting) (ws : List Waiting) → IsWaiting call → AreWaiting ws → AreWaiting (with_call call ws)
waiting_with call [] more all = (more, tt)
waiting_with call (w ∷ ws) more all = all_put_if (nat_lt w.session call.session) call w ws more all.0 all.1 (waiting_with call ws more all.1)

length_if : (b : Bool) (call w : Waiting) (ws : List Waiting) → length (with_call call ws) ≡ length ws + 1
    → length (if b then w ∷ with_call call ws else call ∷ (w ∷ ws)) ≡ length (w ∷ ws) + 1
length_if true call w ws rest = omega (arith, rest)
length_if false call w ws rest = omega arith

pub length_with : (call : Waiting) (ws : List Waiting) → length (with_call call ws) ≡ length ws + 1
length_with call [] = refl
length_with call (w ∷ ws) = length_if (nat_lt w.session call.session) call w ws (length_with call ws)
