-- What forms that begin alike say of a line's words.
use Rattle.std.proofs.Common.{◌≡◌, ◌<◌, ◌≤◌, ℕ, Bor, arith, get_or, length, List, [], ◌∷◌, ◌++◌, map, Option, Some, None, Result, Ok, Err, refl}
use Rattle.std.specs.Option.{ok_or, option_map}
use Rattle.std.specs.Prelude.{codes}
use Rattle.vm_script.specs.declared.fault.ScriptKind.{ScriptKind}
use Rattle.vm_script.specs.declared.fault.ScriptKind.TheVariants.{Number, Word}
use Rattle.vm_script.specs.declared.verb.Verb.TheVariants.{QBuf}
use Rattle.vm_script.specs.Places.{Place, BufType, Count, This, Memory, Value, Counts, Taken, type_in, count_in, value_in, and_then, or_taken, taken_by, values_by}
use Rattle.vm_script.specs.Statements.{extras, asked, extras_of, extras_in, queued, queued_in, call_in, on, statement_by}

pub there : {T E : Type 0} → (o : Option T) (e : E) (x : T) → ok_or o e ≡ Ok x → o ≡ Some x
there None e x h = absurd (cc)
there (Some y) e x h = cc

pub absent : {T E : Type 0} → (o : Option T) (e k : E) → ok_or o e ≡ Err k → (o ≡ None) × (e ≡ k)
absent None e k h = (refl, cc)
absent (Some y) e k h = absurd (cc)

-- ---- forms that begin at one place

-- a word's outcome, with these forms left
abbrev with_left : List (List Place) → Result Value ScriptKind → Result Taken ScriptKind
with_left forms r = and_then r (λ v. Ok (record { value = v; left = forms }))

or_last : (r : Result Value ScriptKind) (form : List Place) → or_taken r form (Err Word) ≡ with_left (form ∷ []) r
or_last (Ok v) form = refl
or_last (Err kind) form = refl

or_more : (r : Result Value ScriptKind) (form : List Place) (forms : List (List Place)) → or_taken r form (with_left forms r) ≡ with_left (form ∷ forms) r
or_more (Ok v) form forms = refl
or_more (Err kind) form forms = refl

taken_alike : (place : Place) (word : List ℕ) (form : List Place) (forms : List (List Place)) → taken_by (map (λ f. place ∷ f) (form ∷ forms)) word ≡ with_left (form ∷ forms) (value_in place word)
taken_alike place word form [] = or_last (value_in place word) form
taken_alike place word form (next ∷ forms) = rw (taken_alike place word next forms) (or_more (value_in place word) form (next ∷ forms))

then_values : (r : Result Value ScriptKind) (form : List Place) (forms : List (List Place)) (words : List (List ℕ))
    → and_then (with_left (form ∷ forms) r) (λ taken. and_then (values_by taken.left words) (λ vs. Ok (taken.value ∷ vs))) ≡ and_then r (λ v. and_then (values_by (form ∷ forms) words) (λ vs. Ok (v ∷ vs)))
then_values (Ok v) form forms words = refl
then_values (Err kind) form forms words = refl

pub values_alike : (place : Place) (word : List ℕ) (words : List (List ℕ)) (form : List Place) (forms : List (List Place))
    → values_by (map (λ f. place ∷ f) (form ∷ forms)) (word ∷ words) ≡ and_then (value_in place word) (λ v. and_then (values_by (form ∷ forms) words) (λ vs. Ok (v ∷ vs)))
values_alike place word words form forms = rw (taken_alike place word form forms) (then_values (value_in place word) form forms words)

-- ---- a `qbuf`

queue_values : (t i : Option ℕ) (more : Result (List Value) ScriptKind)
    → and_then (and_then (ok_or (option_map Counts t) Number) (λ v. and_then (and_then (ok_or (option_map Counts i) Number) (λ w. and_then more (λ vs. Ok (w ∷ vs)))) (λ vs. Ok (v ∷ vs)))) (λ vs. ok_or (asked QBuf vs) Word)
    ≡ and_then (ok_or t Number) (λ t. and_then (ok_or i Number) (λ i. and_then (and_then more (λ vs. Ok (extras_of vs))) (λ e. Ok (queued t i e))))
queue_values None i more = refl
queue_values (Some t) None more = refl
queue_values (Some t) (Some i) (Ok vs) = refl
queue_values (Some t) (Some i) (Err kind) = refl

queue_call : (t i : List ℕ) (more : List (List ℕ)) (form : List Place) (forms : List (List Place))
    → and_then (values_by (map (λ f. BufType ∷ f) (map (λ f. Count ∷ f) (form ∷ forms))) (t ∷ i ∷ more)) (λ vs. ok_or (asked QBuf vs) Word)
    ≡ queued_in t i (and_then (values_by (form ∷ forms) more) (λ vs. Ok (extras_of vs)))
queue_call t i more form forms =
    rw (values_alike BufType t (i ∷ more) (Count ∷ form) (map (λ f. Count ∷ f) forms), values_alike Count i more form forms)
    (queue_values (type_in t) (count_in i) (values_by (form ∷ forms) more))

abbrev user : List Place
user = This (codes "user") ∷ Memory ∷ []

abbrev used : List Place
used = This (codes "used") ∷ Count ∷ []

abbrev ts : List Place
ts = This (codes "ts") ∷ Count ∷ []

pub queue_none : (t i : List ℕ) → call_in QBuf (t ∷ i ∷ []) ≡ queued_in t i (extras_in extras [])
queue_none t i = queue_call t i [] [] []

pub queue_one : (t i k x : List ℕ) → call_in QBuf (t ∷ i ∷ k ∷ x ∷ []) ≡ queued_in t i (extras_in extras (k ∷ x ∷ []))
queue_one t i k x = queue_call t i (k ∷ x ∷ []) user (used ∷ ts ∷ [])

pub queue_two : (t i k x l y : List ℕ) → call_in QBuf (t ∷ i ∷ k ∷ x ∷ l ∷ y ∷ []) ≡ queued_in t i (extras_in extras (k ∷ x ∷ l ∷ y ∷ []))
queue_two t i k x l y = queue_call t i (k ∷ x ∷ l ∷ y ∷ []) (user ++ used) ((user ++ ts) ∷ (used ++ ts) ∷ [])

pub queue_all : (t i k x l y m z : List ℕ) → call_in QBuf (t ∷ i ∷ k ∷ x ∷ l ∷ y ∷ m ∷ z ∷ []) ≡ queued_in t i (extras_in extras (k ∷ x ∷ l ∷ y ∷ m ∷ z ∷ []))
queue_all t i k x l y m z = queue_call t i (k ∷ x ∷ l ∷ y ∷ m ∷ z ∷ []) (user ++ used ++ ts) []

-- ---- the words of a line with `qbuf`

abbrev Texts : Type 0
Texts = List (Bor (List ℕ))

pub line_two : (ws : Texts) (d : Bor (List ℕ)) → 7 ≤ length ws → length ws < 8
    → statement_by QBuf (map (λ w. w.now) ws) ≡ on (get_or ws 0 d).now (queued_in (get_or ws 1 d).now (get_or ws 2 d).now (extras_in extras ((get_or ws 3 d).now ∷ (get_or ws 4 d).now ∷ (get_or ws 5 d).now ∷ (get_or ws 6 d).now ∷ [])))
line_two (h ∷ t ∷ i ∷ k ∷ x ∷ l ∷ y ∷ []) d many few = rw (queue_two t.now i.now k.now x.now l.now y.now) refl
line_two ws d many few = absurd (omega arith)

pub line_all : (ws : Texts) (d : Bor (List ℕ)) → 9 ≤ length ws → length ws < 10
    → statement_by QBuf (map (λ w. w.now) ws) ≡ on (get_or ws 0 d).now (queued_in (get_or ws 1 d).now (get_or ws 2 d).now (extras_in extras ((get_or ws 3 d).now ∷ (get_or ws 4 d).now ∷ (get_or ws 5 d).now ∷ (get_or ws 6 d).now ∷ (get_or ws 7 d).now ∷ (get_or ws 8 d).now ∷ [])))
line_all (h ∷ t ∷ i ∷ k ∷ x ∷ l ∷ y ∷ m ∷ z ∷ []) d many few = rw (queue_all t.now i.now k.now x.now l.now y.now m.now z.now) refl
line_all ws d many few = absurd (omega arith)
