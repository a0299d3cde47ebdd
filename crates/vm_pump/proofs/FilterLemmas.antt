-- The oldest event for a session, and all of them in order.
use Rattle.std.proofs.Common.{◌≡◌, ℕ, ◌+◌, ◌==◌, Bool, true, false, not, Option, Some, None, List, [], ◌∷◌, length, filter, unwrap_or, refl, sym, ap, ◌∙◌, arith, if◌then◌else◌}
use Rattle.vm_wire.specs.declared.delivery.Delivery.{Delivery}
use Rattle.vm_pump.specs.Pump.{first_for, without_first}

-- the events for a session, and those for others
abbrev pub all_for : ℕ → List Delivery → List Delivery
all_for session ds = filter (λ d. d.session == session) ds

abbrev pub all_others : ℕ → List Delivery → List Delivery
all_others session ds = filter (λ d. not (d.session == session)) ds

-- ---- where there is none

none_if : (b : Bool) (d : Delivery) (o : Option Delivery) (xs : List Delivery) → (if b then Some d else o) ≡ None → (o ≡ None → xs ≡ []) → (if b then d ∷ xs else xs) ≡ []
none_if true d o xs is rest = cc
none_if false d o xs is rest = rest is

pub none_for : (session : ℕ) (ds : List Delivery) → first_for session ds ≡ None → all_for session ds ≡ []
none_for session [] is = refl
none_for session (d ∷ ds) is =
    none_if (d.session == session) d (first_for session ds) (all_for session ds) is (λ none. none_for session ds none)

others_if : (b : Bool) (d : Delivery) (o : Option Delivery) (xs ds : List Delivery) → (if b then Some d else o) ≡ None → (o ≡ None → xs ≡ ds)
    → (if not b then d ∷ xs else xs) ≡ d ∷ ds
others_if true d o xs ds is rest = cc
others_if false d o xs ds is rest = ap (λ ys. d ∷ ys) (rest is)

-- all are for others then
pub others_then : (session : ℕ) (ds : List Delivery) → first_for session ds ≡ None → all_others session ds ≡ ds
others_then session [] is = refl
others_then session (d ∷ ds) is =
    others_if (d.session == session) d (first_for session ds) (all_others session ds) ds is (λ none. others_then session ds none)

-- ---- where there is one

some_if : (b : Bool) (session : ℕ) (d x : Delivery) (ds : List Delivery) → (d.session == session) ≡ b → (if b then Some d else first_for session ds) ≡ Some x
    → (first_for session ds ≡ Some x → all_for session ds ≡ x ∷ all_for session (without_first session ds))
    → (if b then d ∷ all_for session ds else all_for session ds) ≡ x ∷ all_for session (if b then ds else d ∷ without_first session ds)
some_if true session d x ds same is rest = ap (λ (o : Option Delivery). unwrap_or o d ∷ all_for session ds) is
some_if false session d x ds same is rest =
    rest is ∙ ap (λ b. x ∷ (if b then d ∷ all_for session (without_first session ds) else all_for session (without_first session ds))) (sym same)

-- it comes first, and the others for the session behind it
pub first_then : (session : ℕ) (ds : List Delivery) (x : Delivery) → first_for session ds ≡ Some x → all_for session ds ≡ x ∷ all_for session (without_first session ds)
first_then session [] x is = cc
first_then session (d ∷ ds) x is = some_if (d.session == session) session d x ds refl is (λ there. first_then session ds x there)

left_if : (b : Bool) (session : ℕ) (d : Delivery) (ds : List Delivery) → (d.session == session) ≡ b → all_others session ds ≡ all_others session (without_first session ds)
    → (if not b then d ∷ all_others session ds else all_others session ds) ≡ all_others session (if b then ds else d ∷ without_first session ds)
left_if true session d ds same rest = refl
left_if false session d ds same rest =
    ap (λ ys. d ∷ ys) rest
    ∙ ap (λ b. if not b then d ∷ all_others session (without_first session ds) else all_others session (without_first session ds)) (sym same)

-- those for others are left as they are
pub others_left : (session : ℕ) (ds : List Delivery) → all_others session ds ≡ all_others session (without_first session ds)
others_left session [] = refl
others_left session (d ∷ ds) = left_if (d.session == session) session d ds refl (others_left session ds)

shorter_if : (b : Bool) (session : ℕ) (d x : Delivery) (ds : List Delivery) → (if b then Some d else first_for session ds) ≡ Some x
    → (first_for session ds ≡ Some x → length (without_first session ds) + 1 ≡ length ds)
    → length (if b then ds else d ∷ without_first session ds) + 1 ≡ length (d ∷ ds)
shorter_if true session d x ds is rest = omega arith
shorter_if false session d x ds is rest = omega (arith, rest is)

pub one_less : (session : ℕ) (ds : List Delivery) (x : Delivery) → first_for session ds ≡ Some x → length (without_first session ds) + 1 ≡ length ds
one_less session [] x is = cc
one_less session (d ∷ ds) x is = shorter_if (d.session == session) session d x ds is (λ there. one_less session ds x there)

session_if : (b : Bool) (session : ℕ) (d x : Delivery) (o : Option Delivery) → (d.session == session) ≡ b → (if b then Some d else o) ≡ Some x
    → (o ≡ Some x → (x.session == session) ≡ true) → (x.session == session) ≡ true
session_if true session d x o same is rest = ap (λ (o : Option Delivery). (unwrap_or o d).session == session) (sym is) ∙ same
session_if false session d x o same is rest = rest is

-- it is for the session
pub is_for : (session : ℕ) (ds : List Delivery) (x : Delivery) → first_for session ds ≡ Some x → (x.session == session) ≡ true
is_for session [] x is = cc
is_for session (d ∷ ds) x is = session_if (d.session == session) session d x (first_for session ds) refl is (λ there. is_for session ds x there)
