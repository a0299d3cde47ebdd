-- Lemmas on the sessions for which a job can begin, by the device at its end of the link.
use Rattle.std.proofs.Common.{◌≡◌, ℕ, ◌+◌, ◌<◌, ◌≤◌, ◌==◌, ◌&&◌, ◌||◌, Bool, true, false, not, List, [], ◌∷◌, Option, Some, None, is_some, length, drop, get_or, map, refl, sym, ap, ◌∙◌, if◌then◌else◌}
use Rattle.std.specs.Prelude.{slice_get}
use Rattle.std.specs.List.{All, filter}
use Rattle.std.proofs.lemmas.List.{drop_more, drop_all}
use Rattle.std.proofs.lemmas.List.Elements.{All-head, All-tail, All-weaker, filter_agree}
use Rattle.vm_device.specs.Device.{session_of, is_ready, ready_ids}
use Rattle.vm_host.specs.Host.{HostState, is_waited_in, waits as waits_at, can_begin as can_begin_at, ready_ids as ready_ids_at}
use Rattle.vm_host.specs.Part.{Call, call_of, part_of, call_for}
use Rattle.vm_host.specs.declared.waiting.Waiting.{Waiting}
use Rattle.vm_realm.specs.Enabled.{waits, beginning_ids}
use Rattle.vm_realm.proofs.ListLemmas.{tested_at, all_placed}

-- ---- a call of the session waits

waits_if : (b : Bool) (c : Call) (o : Option Call) (others : Bool) → is_some o ≡ others → is_some (if b then Some c else o) ≡ (b || others)
waits_if true c o others same = refl
waits_if false c o others same = same

called : (session : ℕ) (ws : List Waiting) → is_some (call_for session (map call_of ws)) ≡ is_waited_in ws session
called session [] = refl
called session (w ∷ ws) = waits_if (w.session == session) (call_of w) (call_for session (map call_of ws)) (is_waited_in ws session) (called session ws)

pub waits_alike : (h : HostState) (session : ℕ) → waits (part_of h) session ≡ waits_at h session
waits_alike h session = called session h.waiting

-- ---- a job can begin

filter_where : {A : Type 0} (p q : A → Bool) (xs : List A) → All (λ x. p x ≡ q x) xs → filter p xs ≡ filter q xs
filter_where p q [] same = refl
filter_where p q (x ∷ xs) same =
    ap (λ b. if b then x ∷ filter p xs else filter p xs) (All-head (λ y. p y ≡ q y) x xs same)
    ∙ ap (λ ys. if q x then x ∷ ys else ys) (filter_where p q xs (All-tail (λ y. p y ≡ q y) x xs same))

and_true : (a b : Bool) → b ≡ true → (a && b) ≡ a
and_true true b is = is
and_true false b is = refl

pub beginning : (h : HostState) → filter (λ id. can_begin_at h id) (ready_ids h.device) ≡ beginning_ids (part_of h)
beginning h =
    let R : ℕ → Type 0 = λ id. is_ready (session_of h.device id) ≡ true in
    let ready : All R (ready_ids h.device) = all_placed R (map is_ready h.device.sessions) (λ id flag. sym (tested_at is_ready None refl h.device.sessions id) ∙ flag) in
    let S : ℕ → Type 0 = λ id. can_begin_at h id ≡ not (waits (part_of h) id) in
    let each : (id : ℕ) → R id → S id = λ id is. and_true (not (waits_at h id)) (is_ready (session_of h.device id)) is ∙ ap not (sym (waits_alike h id)) in
    filter_where (λ id. can_begin_at h id) (λ id. not (waits (part_of h) id)) (ready_ids h.device) (All-weaker R S each (ready_ids h.device) ready)

-- ---- it is found in its place

abbrev left_of : HostState → List ℕ → ℕ → List ℕ
left_of h ids i = filter (λ id. can_begin_at h id) (drop i ids)

abbrev with_first : Bool → ℕ → List ℕ → List ℕ
with_first b id ids = if b then id ∷ ids else ids

pub found_beginning : (h : HostState) (ids : List ℕ) (i left place : ℕ) (b : Bool) → i < length ids → b ≡ can_begin_at h (get_or ids i 0) → b ≡ true → left ≡ 0
    → slice_get (left_of h ids i) left ≡ slice_get (filter (λ id. can_begin_at h id) (ready_ids h.device)) place → Some (get_or ids i 0) ≡ slice_get (beginning_ids (part_of h)) place
found_beginning h ids i left place b within is can none at =
    let id : ℕ = get_or ids i 0 in
    let more : left_of h ids i ≡ with_first (can_begin_at h id) id (left_of h ids (i + 1)) = ap (filter (λ n. can_begin_at h n)) (drop_more ids i 0 within) in
    let first : left_of h ids i ≡ id ∷ left_of h ids (i + 1) = more ∙ ap (λ c. with_first c id (left_of h ids (i + 1))) (sym is ∙ can) in
    let here : slice_get (left_of h ids i) left ≡ Some id = ap (λ k. slice_get (left_of h ids i) k) none ∙ ap (λ ns. slice_get ns 0) first in
    sym here ∙ at ∙ ap (λ ns. slice_get ns place) (beginning h)

pub none_beginning : (h : HostState) (ids : List ℕ) (i left place : ℕ) → length ids ≤ i
    → slice_get (left_of h ids i) left ≡ slice_get (filter (λ id. can_begin_at h id) (ready_ids h.device)) place → None ≡ slice_get (beginning_ids (part_of h)) place
none_beginning h ids i left place past at =
    let none : left_of h ids i ≡ [] = ap (filter (λ n. can_begin_at h n)) (drop_all i ids past) in
    ap (λ ns. slice_get ns left) (sym none) ∙ at ∙ ap (λ ns. slice_get ns place) (beginning h)

-- those for which the device's end of the link counts
pub ready_beginning : (h : HostState) → beginning_ids (part_of h) ≡ ready_ids_at h
ready_beginning h =
    filter_agree (λ id. not (waits (part_of h) id)) (λ id. not (waits_at h id)) (λ id. ap not (waits_alike h id)) (ready_ids h.device)
