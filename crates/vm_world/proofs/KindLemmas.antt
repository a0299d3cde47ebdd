-- Lemmas on the steps that may come next, kind by kind.
use Rattle.std.proofs.Common.{◌≡◌, ℕ, zero, suc, ◌+◌, ◌-◌, ◌*◌, ◌^◌, ◌<◌, ◌≤◌, Bool, true, false, not, List, [], ◌∷◌, ◌++◌, Option, Some, None, length, take, drop, get_or, map, refl, sym, ap, ◌∙◌, subst, arith}
use Rattle.std.specs.Prelude.{slice_get, IfSome, sum_by}
use Rattle.std.specs.List.{All, flat_map}
use Rattle.std.specs.Option.{option_map}
use Rattle.std.proofs.lemmas.List.{append-nil, length-map, length-append, drop_more, take_more, drop_all}
use Rattle.std.proofs.lemmas.List.Concat.{flat_map-append}
use Rattle.std.proofs.lemmas.List.Elements.{All-head, All-tail, All-weaker}
use Rattle.std.proofs.lemmas.List.Sums.{sum_by-cons, sum_by-le, length-filter, count_by-le-length}
use Rattle.std.proofs.lemmas.Option.{slice_get-map}
use Rattle.vm_marks.specs.Marks.{places_from}
use Rattle.vm_device.specs.Device.{session_of, is_ready, is_at_rest, ready_ids}
use Rattle.vm_script.specs.Grammar.{statement_limit}
use Rattle.vm_script.specs.Script.{ProcessLines, ScriptLines}
use Rattle.vm_host.specs.Part.{Call}
use Rattle.vm_guest.specs.Orderly.{IsFitProcess}
use Rattle.vm_realm.specs.Enabled.{enabled, is_enabled, resumable_ids, beginning_ids, waits}
use Rattle.vm_realm.specs.Sound.{IsRunnable, IsSound}
use Rattle.vm_realm.specs.World.{WorldState, jobs_out, statement_count}
use Rattle.vm_realm.specs.declared.step.Step.{Step}
use Rattle.vm_realm.proofs.EnabledLemmas.{enabled_may_come}
use Rattle.vm_world.specs.Kinds.{steps_of, kinds}
use Rattle.vm_world.specs.declared.kind.Kind.{Kind}
use Rattle.vm_world.specs.declared.kind.Kind.TheVariants.{Issue, Execute, Resume, Begin, Finish, Announce, Collect, Pump, Lease, GiveBack}

-- the steps of these kinds
abbrev pub steps_in : WorldState → List Kind → List Step
steps_in w ks = flat_map (λ k. steps_of k w) ks

-- those of all kinds are all that may come next
pub by_kinds : (w : WorldState) → steps_in w kinds ≡ enabled w
by_kinds w =
    ap (λ xs. steps_of Issue w ++ (steps_of Execute w ++ (steps_of Resume w ++ (steps_of Begin w ++ (steps_of Finish w ++ (steps_of Announce w
    ++ (steps_of Collect w ++ (steps_of Pump w ++ (steps_of Lease w ++ xs))))))))) (append-nil (steps_of GiveBack w))

-- ---- of one kind

-- the steps of a kind, as the world's two ends and its link make it
pub seen : (k k' : Kind) (v w : WorldState) → k ≡ k' → v ≡ w → steps_of k w ≡ steps_of k' v
seen k k' v w kind same = λ i. steps_of (kind i) (sym same i)

pub some_step : {A : Type 0} (f : A → Step) (xs : List A) (n : ℕ) (x : A) (steps : List Step) → Some x ≡ slice_get xs n → steps ≡ map f xs → Some (f x) ≡ slice_get steps n
some_step f xs n x steps at is = ap (option_map f) at ∙ sym (slice_get-map f xs n) ∙ ap (λ s. slice_get s n) (sym is)

pub no_step : {A : Type 0} (f : A → Step) (xs : List A) (n : ℕ) (steps : List Step) (r : Option Step) → r ≡ None → None ≡ slice_get xs n → steps ≡ map f xs → r ≡ slice_get steps n
no_step f xs n steps r none at is = none ∙ ap (option_map f) at ∙ sym (slice_get-map f xs n) ∙ ap (λ s. slice_get s n) (sym is)

pub so_many : {A : Type 0} (f : A → Step) (xs : List A) (n : ℕ) (steps : List Step) → n ≡ length xs → steps ≡ map f xs → n ≡ length steps
so_many f xs n steps count is = count ∙ sym (length-map xs f) ∙ ap (λ (s : List Step). length s) (sym is)

-- ---- of one kind after the other

steps_more : (w : WorldState) (ks : List Kind) (i : ℕ) (k : Kind) → i < length ks → steps_in w (take (i + 1) ks) ≡ steps_in w (take i ks) ++ steps_of (get_or ks i k) w
steps_more w ks i k within =
    ap (steps_in w) (take_more ks i k within) ∙ flat_map-append (λ (x : Kind). steps_of x w) (take i ks) (get_or ks i k ∷ [])
    ∙ ap (λ xs. steps_in w (take i ks) ++ xs) (append-nil (steps_of (get_or ks i k) w))

-- so many more
pub count_more : (w : WorldState) (ks : List Kind) (i : ℕ) (k : Kind) (count more : ℕ) → i < length ks → count ≡ length (steps_in w (take i ks)) → more ≡ length (steps_of (get_or ks i k) w)
    → count + more ≡ length (steps_in w (take (i + 1) ks))
count_more w ks i k count more within so_far next =
    let both = ap (λ (xs : List Step). length xs) (steps_more w ks i k within) ∙ length-append (steps_in w (take i ks)) (steps_of (get_or ks i k) w) in
    omega (arith, both, so_far, next)

steps_next : (w : WorldState) (ks : List Kind) (i : ℕ) (k : Kind) → i < length ks → steps_in w (drop i ks) ≡ steps_of (get_or ks i k) w ++ steps_in w (drop (i + 1) ks)
steps_next w ks i k within = ap (steps_in w) (drop_more ks i k within)

in_front : (xs ys : List Step) (n : ℕ) → n < length xs → slice_get (xs ++ ys) n ≡ slice_get xs n
in_front [] ys n within = absurd (omega (arith, within))
in_front (x ∷ xs) ys zero within = refl
in_front (x ∷ xs) ys (suc n) within = in_front xs ys n (omega (arith, within))

behind : (xs ys : List Step) (n : ℕ) → length xs ≤ n → slice_get (xs ++ ys) n ≡ slice_get ys (n - length xs)
behind [] ys n past = (let same : n ≡ n - 0 = omega arith in ap (slice_get ys) same)
behind (x ∷ xs) ys zero past = absurd (omega (arith, past))
behind (x ∷ xs) ys (suc n) past = behind xs ys n (omega (arith, past)) ∙ ap (slice_get ys) (omega arith)

-- the step is of this kind
pub found_here : (w : WorldState) (ks : List Kind) (i place : ℕ) (k : Kind) (count : ℕ) (r at : Option Step) → i < length ks → count ≡ length (steps_of (get_or ks i k) w) → place < count
    → r ≡ slice_get (steps_of (get_or ks i k) w) place → slice_get (steps_in w (drop i ks)) place ≡ at → r ≡ at
found_here w ks i place k count r at within counted before is there =
    is ∙ sym (in_front (steps_of (get_or ks i k) w) (steps_in w (drop (i + 1) ks)) place (omega (arith, counted, before)))
    ∙ ap (λ xs. slice_get xs place) (sym (steps_next w ks i k within)) ∙ there

-- it is of a later one
pub found_later : (w : WorldState) (ks : List Kind) (i place : ℕ) (k : Kind) (count : ℕ) (at : Option Step) → i < length ks → count ≡ length (steps_of (get_or ks i k) w) → count ≤ place
    → slice_get (steps_in w (drop i ks)) place ≡ at → slice_get (steps_in w (drop (i + 1) ks)) (place - count) ≡ at
found_later w ks i place k count at within counted past there =
    ap (λ n. slice_get (steps_in w (drop (i + 1) ks)) (place - n)) counted
    ∙ sym (behind (steps_of (get_or ks i k) w) (steps_in w (drop (i + 1) ks)) place (omega (arith, counted, past)))
    ∙ ap (λ xs. slice_get xs place) (sym (steps_next w ks i k within)) ∙ there

-- where all kinds were seen, there is none
pub found_nowhere : (w : WorldState) (ks : List Kind) (i place : ℕ) (at : Option Step) → length ks ≤ i → slice_get (steps_in w (drop i ks)) place ≡ at → None ≡ at
found_nowhere w ks i place at past there = ap (λ xs. slice_get (steps_in w xs) place) (sym (drop_all i ks past)) ∙ there

-- what is found may come next
holds_at : (P : Step → Type 0) (xs : List Step) (m : ℕ) (x : Step) → All P xs → slice_get xs m ≡ Some x → P x
holds_at P [] m x each at = cc
holds_at P (y ∷ ys) zero x each at = let same : y ≡ x = cc in subst P same (All-head P y ys each)
holds_at P (y ∷ ys) (suc m) x each at = holds_at P ys m x (All-tail P y ys each) at

pub found_may : (w : WorldState) (n : ℕ) (o : Option Step) → o ≡ slice_get (enabled w) n → IfSome o (λ s. is_enabled w s ≡ true)
found_may w n None is = tt
found_may w n (Some s) is = holds_at (λ x. is_enabled w x ≡ true) (enabled w) n s (enabled_may_come w) (sym is)

-- ---- there are few

pub few_lines : (ps : List ProcessLines) → All IsFitProcess ps → sum_by (λ p. length p.lines) ps ≤ length ps * statement_limit
few_lines ps each = sum_by-le (λ (p : ProcessLines). length p.lines) statement_limit ps (All-weaker IsFitProcess (λ p. length p.lines ≤ statement_limit) (λ p fit. fit.limit) ps each)

pub few_handles : (ps : List ProcessLines) → All IsFitProcess ps → sum_by (λ p. length p.handles) ps ≤ sum_by (λ p. length p.lines) ps
few_handles [] each = omega arith
few_handles (p ∷ ps) each =
    let first = (All-head IsFitProcess p ps each).named in
    let rest = few_handles ps (All-tail IsFitProcess p ps each) in
    omega (arith, first, rest, sum_by-cons (λ (q : ProcessLines). length q.handles) p ps, sum_by-cons (λ (q : ProcessLines). length q.lines) p ps)

pub few_statements : (script : ScriptLines) → IsRunnable script → statement_count script ≤ 16384
few_statements script runs = (let few = runs.fit.few in let lines = few_lines script.processes runs.fit.each in omega (arith, few, lines))

pub few_calls : (w : WorldState) → IsSound w → length (resumable_ids w.host) < 2 ^ 32
few_calls w sound =
    let all = few_statements w.script sound.1.script in
    let left = sound.1.within.jobs in
    let some : length (resumable_ids w.host) ≤ length w.host.calls =
    omega (
      arith,
      length-filter (λ id. is_at_rest (session_of w.host.device id)) (map (λ (c : Call). c.session) w.host.calls),
      count_by-le-length (λ id. is_at_rest (session_of w.host.device id)) (map (λ (c : Call). c.session) w.host.calls),
      length-map w.host.calls (λ (c : Call). c.session),
    ) in
    omega (arith, all, left, some)

pub few_jobs : (w : WorldState) → IsSound w → length (jobs_out w) < 2 ^ 32
few_jobs w sound = (let all = few_statements w.script sound.1.script in let left = sound.1.within.jobs in omega (arith, all, left))

few_places : (n : ℕ) (flags : List Bool) → length (places_from n flags) ≤ length flags
few_places n [] = omega arith
few_places n (true ∷ flags) = (let rest = few_places (n + 1) flags in omega (arith, rest))
few_places n (false ∷ flags) = (let rest = few_places (n + 1) flags in omega (arith, rest))

pub few_sessions : (w : WorldState) → IsSound w → length (beginning_ids w.host) < 2 ^ 32
few_sessions w sound =
    let free : ℕ → Bool = λ id. not (waits w.host id) in
    let ids : List ℕ = ready_ids w.host.device in
    let some : length (beginning_ids w.host) ≤ length ids = omega (arith, length-filter free ids, count_by-le-length free ids) in
    let ready : length ids ≤ length w.host.device.sessions = omega (arith, few_places 0 (map is_ready w.host.device.sessions), length-map w.host.device.sessions is_ready) in
    let few = sound.1.device.sound.few in
    let small = sound.1.device.sound.small in
    omega (arith, some, ready, few, small)

pub few_processes : (w : WorldState) → IsSound w → length w.guest.processes ≤ 16
few_processes w sound = sound.1.lines.few
