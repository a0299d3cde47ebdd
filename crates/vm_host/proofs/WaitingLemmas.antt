-- Lemmas on the calls that wait, and their places.
use Rattle.std.proofs.Common.{◌≡◌, ℕ, suc, ◌+◌, ◌<◌, ◌≤◌, ◌==◌, ◌||◌, Bool, true, false, not, nat_lt, Option, Some, None, is_some, List, [], ◌∷◌, length, get_or, refl, ap, ◌∙◌, arith, find, take_while, if◌then◌else◌}
use Rattle.std.specs.List.{list_any, prefix_len, insert, remove}
use Rattle.std.proofs.lemmas.List.Folds.{length-prefix_len}
use Rattle.vm_host.specs.Host.{waiting_for, with_call, without_call}
use Rattle.vm_host.specs.declared.waiting.Waiting.{Waiting}

-- ---- whether one is there

any_if : {A : Type 0} (b : Bool) (x : A) (r : Bool) (o : Option A) → r ≡ is_some o → (b || r) ≡ is_some (if b then Some x else o)
any_if true x r o same = refl
any_if false x r o same = same

pub any_found : {A : Type 0} (p : A → Bool) (xs : List A) → list_any p xs ≡ is_some (find p xs)
any_found p [] = refl
any_found p (x ∷ xs) = any_if (p x) x (list_any p xs) (find p xs) (any_found p xs)

-- ---- the place of a call that is put in

abbrev pub is_below : ℕ → Waiting → Bool
is_below session w = nat_lt w.session session

-- the place behind the calls of sessions with lower ids
abbrev below_place : ℕ → List Waiting → ℕ
below_place session [] = 0
below_place session (w ∷ ws) = if is_below session w then suc (below_place session ws) else 0

below_if : (b : Bool) (n place : ℕ) → n ≡ place → (if b then 1 + n else 0) ≡ (if b then suc place else 0)
below_if true n place same = omega (arith, same)
below_if false n place same = refl

below_at : (session : ℕ) (ws : List Waiting) → prefix_len (is_below session) ws ≡ below_place session ws
below_at session [] = refl
below_at session (w ∷ ws) = below_if (is_below session w) (prefix_len (is_below session) ws) (below_place session ws) (below_at session ws)

counted_below : (session : ℕ) (ws : List Waiting) → length (take_while (is_below session) ws) ≡ below_place session ws
counted_below session ws = length-prefix_len (is_below session) ws ∙ below_at session ws

put_if : (b : Bool) (w call : Waiting) (ws : List Waiting) → insert ws (below_place call.session ws) call ≡ with_call call ws
    → insert (w ∷ ws) (if b then suc (below_place call.session ws) else 0) call ≡ (if b then w ∷ with_call call ws else call ∷ (w ∷ ws))
put_if true w call ws rest = ap (λ xs. w ∷ xs) rest
put_if false w call ws rest = refl

put_there : (call : Waiting) (ws : List Waiting) → insert ws (below_place call.session ws) call ≡ with_call call ws
put_there call [] = refl
put_there call (w ∷ ws) = put_if (is_below call.session w) w call ws (put_there call ws)

-- a call is put in at the place that was counted
pub put_counted : (call : Waiting) (place : ℕ) (ws ws' : List Waiting) → place ≡ length (take_while (is_below call.session) ws) → ws' ≡ insert ws place call
    → ws' ≡ with_call call ws
put_counted call place ws ws' counted is = is ∙ ap (λ i. insert ws i call) (counted ∙ counted_below call.session ws) ∙ put_there call ws

-- ---- the place of a call that is taken out

abbrev pub is_other : ℕ → Waiting → Bool
is_other session w = not (w.session == session)

abbrev call_place : ℕ → List Waiting → ℕ
call_place session [] = 0
call_place session (w ∷ ws) = if w.session == session then 0 else suc (call_place session ws)

prefix_if : (b : Bool) (n place : ℕ) → n ≡ place → (if not b then 1 + n else 0) ≡ (if b then 0 else suc place)
prefix_if true n place same = refl
prefix_if false n place same = omega (arith, same)

prefix_at : (session : ℕ) (ws : List Waiting) → prefix_len (is_other session) ws ≡ call_place session ws
prefix_at session [] = refl
prefix_at session (w ∷ ws) = prefix_if (w.session == session) (prefix_len (is_other session) ws) (call_place session ws) (prefix_at session ws)

counted_place : (session : ℕ) (ws : List Waiting) → length (take_while (is_other session) ws) ≡ call_place session ws
counted_place session ws = length-prefix_len (is_other session) ws ∙ prefix_at session ws

first_if : (b : Bool) (session : ℕ) (w x : Waiting) (ws : List Waiting)
    → (call_place session ws < length ws → x ≡ get_or ws (call_place session ws) x → Some x ≡ waiting_for session ws)
    → (if b then 0 else suc (call_place session ws)) < length (w ∷ ws) → x ≡ get_or (w ∷ ws) (if b then 0 else suc (call_place session ws)) x
    → Some x ≡ (if b then Some w else waiting_for session ws)
first_if true session w x ws rest within is = ap Some is
first_if false session w x ws rest within is = rest (omega (arith, within)) is

first_there : (session : ℕ) (ws : List Waiting) (x : Waiting) → call_place session ws < length ws
    → x ≡ get_or ws (call_place session ws) x → Some x ≡ waiting_for session ws
first_there session [] x within is = absurd (omega (arith, within))
first_there session (w ∷ ws) x within is =
    first_if (w.session == session) session w x ws (λ inside same. first_there session ws x inside same) within is

rest_if : (b : Bool) (session : ℕ) (w : Waiting) (ws : List Waiting)
    → remove ws (call_place session ws) ≡ without_call session ws
    → remove (w ∷ ws) (if b then 0 else suc (call_place session ws)) ≡ (if b then ws else w ∷ without_call session ws)
rest_if true session w ws rest = refl
rest_if false session w ws rest = ap (λ xs. w ∷ xs) rest

rest_there : (session : ℕ) (ws : List Waiting) → remove ws (call_place session ws) ≡ without_call session ws
rest_there session [] = refl
rest_there session (w ∷ ws) = rest_if (w.session == session) session w ws (rest_there session ws)

-- the call at the place that was counted
pub first_counted : (session place : ℕ) (ws : List Waiting) (x : Waiting) → place ≡ length (take_while (is_other session) ws) → place < length ws
    → x ≡ get_or ws place x → Some x ≡ waiting_for session ws
first_counted session place ws x counted within is =
    let at : place ≡ call_place session ws = counted ∙ counted_place session ws in
    first_there session ws x (omega (arith, at, within)) (is ∙ ap (λ i. get_or ws i x) at)

pub rest_counted : (session place : ℕ) (ws ws' : List Waiting) → place ≡ length (take_while (is_other session) ws) → ws' ≡ remove ws place
    → ws' ≡ without_call session ws
rest_counted session place ws ws' counted is = is ∙ ap (remove ws) (counted ∙ counted_place session ws) ∙ rest_there session ws

-- ---- where there is none

none_if : (b : Bool) (session : ℕ) (w : Waiting) (ws : List Waiting) → (length ws ≤ call_place session ws → None ≡ waiting_for session ws)
    → length (w ∷ ws) ≤ (if b then 0 else suc (call_place session ws)) → None ≡ (if b then Some w else waiting_for session ws)
none_if true session w ws rest past = absurd (omega (arith, past))
none_if false session w ws rest past = rest (omega (arith, past))

none_there : (session : ℕ) (ws : List Waiting) → length ws ≤ call_place session ws → None ≡ waiting_for session ws
none_there session [] past = refl
none_there session (w ∷ ws) past = none_if (w.session == session) session w ws (λ beyond. none_there session ws beyond) past

same_if : (b : Bool) (session : ℕ) (w : Waiting) (ws : List Waiting) → (length ws ≤ call_place session ws → ws ≡ without_call session ws)
    → length (w ∷ ws) ≤ (if b then 0 else suc (call_place session ws)) → w ∷ ws ≡ (if b then ws else w ∷ without_call session ws)
same_if true session w ws rest past = absurd (omega (arith, past))
same_if false session w ws rest past = ap (λ xs. w ∷ xs) (rest (omega (arith, past)))

same_there : (session : ℕ) (ws : List Waiting) → length ws ≤ call_place session ws → ws ≡ without_call session ws
same_there session [] past = refl
same_there session (w ∷ ws) past = same_if (w.session == session) session w ws (λ beyond. same_there session ws beyond) past

pub none_counted : (session place : ℕ) (ws : List Waiting) → place ≡ length (take_while (is_other session) ws) → length ws ≤ place → None ≡ waiting_for session ws
none_counted session place ws counted past =
    none_there session ws (let at : place ≡ call_place session ws = counted ∙ counted_place session ws in omega (arith, at, past))

pub same_counted : (session place : ℕ) (ws : List Waiting) → place ≡ length (take_while (is_other session) ws) → length ws ≤ place → ws ≡ without_call session ws
same_counted session place ws counted past =
    same_there session ws (let at : place ≡ call_place session ws = counted ∙ counted_place session ws in omega (arith, at, past))
