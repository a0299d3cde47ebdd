-- The buffers that are out, by their types, and how many events may be unsent.
use Rattle.std.proofs.Common.{◌≡◌, ℕ, ◌+◌, ◌*◌, ◌≤◌, ◌==◌, ◌||◌, Bool, true, false, if◌then◌else◌, List, [], ◌∷◌, ◌++◌, length, map, Option, Some, None, is_some, refl, sym, ap, ◌∙◌, arith, inl, inr}
use Rattle.std.specs.Prelude.{All}
use Rattle.std.specs.List.{filter}
use Rattle.std.specs.Option.{option_to_list}
use Rattle.std.proofs.lemmas.Bool.{cases_eq}
use Rattle.std.proofs.lemmas.Bool.Decides.{nat_tests}
use Rattle.std.proofs.lemmas.List.{map-append}
use Rattle.std.proofs.lemmas.List.Elements.{filter-append, filter_map-append, All-head, All-tail}
use Rattle.v4l_const.specs.declared.model.Model.{Model}
use Rattle.v4l_const.specs.declared.model.Model.TheVariants.{Capture, Convert}
use Rattle.v4l_const.specs.Model.{queues as types_of, has_events}
use Rattle.v4l_layout.specs.declared.buffer_rec.BufferRec.{BufferRec}
use Rattle.v4l_rules.specs.Queues.{queue_at}
use Rattle.vm_session.specs.declared.unsent.Unsent.{Unsent}
use Rattle.vm_session.specs.Sound.{given_back, returning, indices_of, gives_back, begins_with_buffer, ArePaired}
use Rattle.vm_session.specs.State.{SessionQueue, queue_kind}

-- ---- indices by type

abbrev is_of : ℕ → BufferRec → Bool
is_of t b = b.kind == t

abbrev index_of : BufferRec → ℕ
index_of b = b.index

pub indices_append : (t : ℕ) (xs ys : List BufferRec) → indices_of t (xs ++ ys) ≡ indices_of t xs ++ indices_of t ys
indices_append t xs ys =
    ap (λ zs. map index_of zs) (filter-append (is_of t) xs ys) ∙ map-append index_of (filter (is_of t) xs) (filter (is_of t) ys)

-- the index of one record stands there if it is of the type
pub one_index : (t : ℕ) (b : BufferRec) (e : Bool) → (b.kind == t) ≡ e → indices_of t (b ∷ []) ≡ (if e then b.index ∷ [] else [])
one_index t b true is = rw is refl
one_index t b false is = rw is refl

pub index_cons : (t : ℕ) (b : BufferRec) (bs : List BufferRec) (e : Bool) → (b.kind == t) ≡ e
    → indices_of t (b ∷ bs) ≡ (if e then b.index ∷ [] else []) ++ indices_of t bs
index_cons t b bs e is = indices_append t (b ∷ []) bs ∙ ap (λ xs. xs ++ indices_of t bs) (one_index t b e is)

pub same_type : (n : ℕ) → (n == n) ≡ true
same_type n = grind (arith, nat_tests)

-- where no other type has a record, all are of this one
pub all_of_one : (t : ℕ) (bs : List BufferRec) → ((u : ℕ) → (t == u) ≡ false → indices_of u bs ≡ []) → length bs ≡ length (indices_of t bs)
all_of_one t [] none = refl
all_of_one t (b ∷ bs) none = elim (cases_eq t b.kind) [
  | inl same ↦
      let here = index_cons t b bs true (grind (arith, nat_tests, same)) in
      let rest : length bs ≡ length (indices_of t bs) = all_of_one t bs (λ u apart.
      sym (index_cons u b bs false (grind (arith, nat_tests, same, apart))) ∙ none u apart) in
      let sizes = ap (λ xs. length xs) here in
      omega (arith, sizes, rest)
  | inr differs ↦
      let here = index_cons b.kind b bs true (same_type b.kind) in
      let empty = none b.kind (grind (arith, nat_tests, differs)) in
      let sizes = ap (λ xs. length xs) (sym here ∙ empty) in
      absurd (omega (arith, sizes))
]

-- where no third type has a record, all are of these two
pub all_of_two : (t v : ℕ) (bs : List BufferRec) → (t == v) ≡ false → ((u : ℕ) → (t == u) ≡ false → (v == u) ≡ false → indices_of u bs ≡ [])
    → length bs ≡ length (indices_of t bs) + length (indices_of v bs)
all_of_two t v [] apart none = refl
all_of_two t v (b ∷ bs) apart none =
    let rest : ((u : ℕ) → (t == u) ≡ false → (v == u) ≡ false → indices_of u bs ≡ []) → length bs ≡ length (indices_of t bs) + length (indices_of v bs) = all_of_two t v bs apart in
    elim (cases_eq t b.kind) [
      | inl same ↦
          let here = ap (λ xs. length xs) (index_cons t b bs true (grind (arith, nat_tests, same))) in
          let there = ap (λ xs. length xs) (index_cons v b bs false (grind (arith, nat_tests, same, apart))) in
          let fewer = rest (λ u one other. sym (index_cons u b bs false (grind (arith, nat_tests, same, one))) ∙ none u one other) in
          omega (arith, here, there, fewer)
      | inr differs ↦ elim (cases_eq v b.kind) [
        | inl same ↦
            let here = ap (λ xs. length xs) (index_cons v b bs true (grind (arith, nat_tests, same))) in
            let there = ap (λ xs. length xs) (index_cons t b bs false (grind (arith, nat_tests, differs))) in
            let fewer = rest (λ u one other. sym (index_cons u b bs false (grind (arith, nat_tests, same, other))) ∙ none u one other) in
            omega (arith, here, there, fewer)
        | inr alone ↦
            let here = index_cons b.kind b bs true (same_type b.kind) in
            let empty = none b.kind (grind (arith, nat_tests, differs)) (grind (arith, nat_tests, alone)) in
            let sizes = ap (λ xs. length xs) (sym here ∙ empty) in
            absurd (omega (arith, sizes))
      ]
    ]

-- ---- events in pairs

pub returning_append : (xs ys : List Unsent) → returning (xs ++ ys) ≡ returning xs ++ returning ys
returning_append xs ys = filter_map-append (λ (e : Unsent). given_back e.msg) xs ys

pub returning_cons : (e : Unsent) (es : List Unsent) (o : Option BufferRec) → given_back e.msg ≡ o → returning (e ∷ es) ≡ option_to_list o ++ returning es
returning_cons e es None is = rw is refl
returning_cons e es (Some b) is = rw is refl

or_more : (a b : Bool) → (a || false) ≡ true → (a || b) ≡ true
or_more true b is = refl
or_more false b is = cc

pub paired_append : (xs ys : List Unsent) → ArePaired xs → ArePaired ys → ArePaired (xs ++ ys)
paired_append [] ys one other = other
paired_append (x ∷ []) ys one other =
    let gives : (gives_back x || false) ≡ true = one.0 in
    (or_more (gives_back x) (begins_with_buffer ys) gives, other)
paired_append (x ∷ y ∷ xs) ys one other = (one.0, paired_append (y ∷ xs) ys one.1 other)

-- one more where the first event gives a buffer back
abbrev lead : Bool → ℕ
lead b = if b then 1 else 0

paired_step : (e : Unsent) (es : List Unsent) (o : Option BufferRec) (begins : Bool) → given_back e.msg ≡ o → (is_some o || begins) ≡ true
    → length es + lead begins ≤ 2 * length (returning es) → length (e ∷ es) + lead (is_some o) ≤ 2 * length (returning (e ∷ es))
paired_step e es None true is paired rest = let sizes = ap (λ xs. length xs) (returning_cons e es None is) in omega (arith, sizes, rest)
paired_step e es None false is paired rest = cc
paired_step e es (Some b) begins is paired rest = let sizes = ap (λ xs. length xs) (returning_cons e es (Some b) is) in omega (arith, sizes, rest)

led : (es : List Unsent) → ArePaired es → length es + lead (begins_with_buffer es) ≤ 2 * length (returning es)
led [] paired = omega arith
led (e ∷ es) paired = paired_step e es (given_back e.msg) (begins_with_buffer es) refl paired.0 (led es paired.1)

-- at most two events for each buffer
pub two_for_each : (es : List Unsent) → ArePaired es → length es ≤ 2 * length (returning es)
two_for_each es paired = let more = led es paired in omega (arith, more)

one_step : (e : Unsent) (es : List Unsent) (o : Option BufferRec) → given_back e.msg ≡ o → is_some o ≡ true → length es ≡ length (returning es)
    → length (e ∷ es) ≡ length (returning (e ∷ es))
one_step e es None is gives rest = cc
one_step e es (Some b) is gives rest = let sizes = ap (λ xs. length xs) (returning_cons e es (Some b) is) in omega (arith, sizes, rest)

-- one event for each, where each gives one back
pub one_for_each : (es : List Unsent) → All (λ (e : Unsent). gives_back e ≡ true) es → length es ≡ length (returning es)
one_for_each [] all = refl
one_for_each (e ∷ es) all =
    one_step e es (given_back e.msg) refl (All-head (λ (e : Unsent). gives_back e ≡ true) e es all)
    (one_for_each es (All-tail (λ (e : Unsent). gives_back e ≡ true) e es all))

-- ---- at most 64 events

-- where the buffers that are out are those of the events, at most 32 of each queue
pub few_unsent : (m : Model) (qs : List SessionQueue) (es : List Unsent) → length qs ≡ length (types_of m) → All (λ (q : SessionQueue). length q.out ≤ 32) qs
    → ((t : ℕ) → (queue_at queue_kind m qs t).out ≡ indices_of t (returning es)) → ArePaired es
    → (has_events m ≡ false → All (λ (e : Unsent). gives_back e ≡ true) es) → length es ≤ 64
few_unsent Capture (q ∷ []) es is few out paired eventless =
    let none : (u : ℕ) → (1 == u) ≡ false → indices_of u (returning es) ≡ [] = λ u apart. sym (out u) ∙ rw apart refl in
    let all = all_of_one 1 (returning es) none in
    let own = ap (λ xs. length xs) (out 1) in
    let most = All-head (λ (q : SessionQueue). length q.out ≤ 32) q [] few in
    let two = two_for_each es paired in
    omega (arith, all, own, most, two)
few_unsent Convert (o ∷ c ∷ []) es is few out paired eventless =
    let none : (u : ℕ) → (2 == u) ≡ false → (1 == u) ≡ false → indices_of u (returning es) ≡ [] = λ u one other. sym (out u) ∙ rw (one, other) refl in
    let all = all_of_two 2 1 (returning es) refl none in
    let own = ap (λ xs. length xs) (out 2) in
    let other = ap (λ xs. length xs) (out 1) in
    let most = All-head (λ (q : SessionQueue). length q.out ≤ 32) o (c ∷ []) few in
    let less = All-head (λ (q : SessionQueue). length q.out ≤ 32) c [] (All-tail (λ (q : SessionQueue). length q.out ≤ 32) o (c ∷ []) few) in
    let one = one_for_each es (eventless refl) in
    omega (arith, all, own, other, most, less, one)
few_unsent Capture [] es is few out paired eventless = absurd (omega (arith, is))
few_unsent Capture (q ∷ r ∷ qs) es is few out paired eventless = absurd (omega (arith, is))
few_unsent Convert [] es is few out paired eventless = absurd (omega (arith, is))
few_unsent Convert (q ∷ []) es is few out paired eventless = absurd (omega (arith, is))
few_unsent Convert (o ∷ c ∷ q ∷ qs) es is few out paired eventless = absurd (omega (arith, is))
