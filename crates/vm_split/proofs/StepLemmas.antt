-- The chains that are held stay so as one is taken, finished and collected.
use Rattle.std.proofs.Common.{◌≡◌, ◌≢◌, ℕ, ◌+◌, ◌<◌, ◌≤◌, ◌++◌, Bool, false, not, ◌==◌, if◌then◌else◌, List, [], ◌∷◌, length, filter, set, get_or, sum_by, Option, Some, None, refl, ap, sym, ◌∙◌, subst, arith, inl, inr}
use Rattle.std.proofs.lemmas.Bool.{cases_eq, false≢true}
use Rattle.std.proofs.lemmas.Bool.Decides.{nat_tests}
use Rattle.std.proofs.lemmas.List.{get_or-set_same, get_or-set_other}
use Rattle.std.proofs.lemmas.List.Sums.{sum_by-append, sum_by_push, sum_by-cons}
use Rattle.vm_chain.specs.declared.desc.Desc.{Desc}
use Rattle.vm_link.specs.declared.parcel.Parcel.{Parcel}
use Rattle.vm_mem.specs.Lists.{occurrences}
use Rattle.vm_mem.proofs.OccurrenceLemmas.{occurrences-append, occurrences-one, occurrences-other}
use Rattle.vm_split.specs.Kept.{HoldsChains}
use Rattle.vm_split.specs.Owners.{is_of, count_of, taken_back}
use Rattle.vm_split.proofs.ChainLemmas.{once, three, parcel_other, parcel_same, still_whole}
use Rattle.vm_split.proofs.ListLemmas.{sum_apart}
use Rattle.vm_split.proofs.OwnerLemmas.{taken_back_others, taken_back_free, taken_back_owner}

occurrences-cons : (n x : ℕ) (xs : List ℕ) → occurrences n (x ∷ xs) ≡ occurrences n (x ∷ []) + occurrences n xs
occurrences-cons n x xs = occurrences-append n (x ∷ []) xs

-- a parcel that waits is whole, and is there
pub first_waits : (head : ℕ) (waiting : List ℕ) → 1 ≤ occurrences head (head ∷ waiting)
first_waits head waiting = let a = occurrences-cons head head waiting in let b = occurrences-one head in omega (arith, a, b)

pub taken_holds : (size : ℕ) (table : List Desc) (owners : List (Option ℕ)) (parcels : List (Option Parcel)) (head : ℕ) (waiting out done : List ℕ)
    → HoldsChains size table owners parcels (head ∷ waiting) out done → HoldsChains size table owners (set parcels head None) waiting (out ++ head ∷ []) done
taken_holds size table owners parcels head waiting out done chains =
    let lists : (h : ℕ) → occurrences h (waiting ++ ((out ++ head ∷ []) ++ done)) ≡ occurrences h ((head ∷ waiting) ++ (out ++ done)) = λ h.
    let a = three h (head ∷ waiting) out done in
    let b = three h waiting (out ++ head ∷ []) done in
    let c = occurrences-append h out (head ∷ []) in
    let d = occurrences-cons h head waiting in
    omega (arith, a, b, c, d) in
    let apart : (h : ℕ) → 1 ≤ occurrences h waiting + occurrences h done → h ≢ head = λ h there same.
    let one : occurrences head ((head ∷ waiting) ++ (out ++ done)) ≤ 1 = once owners ((head ∷ waiting) ++ (out ++ done)) head (chains.heads head) in
    let a = three head (head ∷ waiting) out done in
    let b = occurrences-cons head head waiting in
    let c = occurrences-one head in
    let here : 1 ≤ occurrences head waiting + occurrences head done = subst (λ (h : ℕ). 1 ≤ occurrences h waiting + occurrences h done) same there in
    omega (arith, one, a, b, c, here) in
    record {
      heads = λ h. lists h ∙ chains.heads h;
      owned = λ place h owner. let l = lists h in let before = chains.owned place h owner in omega (arith, l, before);
      counted =
          let f = count_of owners in
          let a = sum_by-append f waiting ((out ++ head ∷ []) ++ done) in
          let b = sum_by-append f (out ++ head ∷ []) done in
          let c = sum_by_push f out head in
          let d = sum_by-append f (head ∷ waiting) (out ++ done) in
          let e = sum_by-append f out done in
          let g = sum_by-cons f head waiting in
          let before = chains.counted in
          omega (arith, a, b, c, d, e, g, before);
      whole = λ h there.
          let differs = apart h (omega (arith, there)) in
          let before : 1 ≤ occurrences h (head ∷ waiting) = let d = occurrences-cons h head waiting in omega (arith, there, d) in
          still_whole table table owners owners parcels (set parcels head None) h refl (parcel_other parcels head h None differs) (λ d owned. refl) (chains.whole h before);
      there = λ h some.
          let both = occurrences-append h waiting done in
          let differs = apart h (omega (arith, some, both)) in
          let before : 1 ≤ occurrences h ((head ∷ waiting) ++ done) =
          let d = occurrences-cons h head waiting in
          let all = occurrences-append h (head ∷ waiting) done in
          omega (arith, some, both, d, all) in
          get_or-set_other parcels head h None None differs ∙ (chains.there h before ∙ ap Some (sym (parcel_other parcels head h None differs)));
    }

-- a list of heads without one of them
abbrev pub others : ℕ → List ℕ → List ℕ
others head = filter (λ h. not (h == head))

occurrences-others_same : (head : ℕ) (hs : List ℕ) → occurrences head (others head hs) ≡ 0
occurrences-others_same head [] = refl
occurrences-others_same head (h ∷ hs) = grind (arith, nat_tests, occurrences-others_same head hs)

occurrences-others : (n head : ℕ) (hs : List ℕ) → n ≢ head → occurrences n (others head hs) ≡ occurrences n hs
occurrences-others n head [] differs = refl
occurrences-others n head (h ∷ hs) differs = elim (cases_eq h head) [
  | inl same ↦ grind (arith, nat_tests, occurrences-others n head hs differs)
  | inr apart ↦ grind (arith, nat_tests, occurrences-others n head hs differs)
]

others-none : (head : ℕ) (hs : List ℕ) → occurrences head hs ≡ 0 → others head hs ≡ hs
others-none head [] none = refl
others-none head (h ∷ hs) none = elim (cases_eq h head) [
  | inl same ↦ absurd (grind (arith, nat_tests, none))
  | inr differs ↦ let rest : others head hs ≡ hs = others-none head hs (grind (arith, nat_tests, none)) in grind (arith, nat_tests, rest)
]

sum-others : (f : ℕ → ℕ) (head : ℕ) (hs : List ℕ) → occurrences head hs ≡ 1 → sum_by f (others head hs) + f head ≡ sum_by f hs
sum-others f head [] one = absurd (omega (arith, one))
sum-others f head (h ∷ hs) one = elim (cases_eq h head) [
  | inl same ↦
      let rest : others head hs ≡ hs = others-none head hs (grind (arith, nat_tests, one)) in
      let here : others head (h ∷ hs) ≡ hs = grind (arith, nat_tests, rest) in
      let sums = sum_by-cons f h hs in
      let value : f h ≡ f head = ap f same in
      rw here (omega (arith, sums, value))
  | inr differs ↦
      let rest : sum_by f (others head hs) + f head ≡ sum_by f hs = sum-others f head hs (grind (arith, nat_tests, one)) in
      let here : others head (h ∷ hs) ≡ h ∷ others head hs = grind (arith, nat_tests) in
      let sums = sum_by-cons f h hs in
      let kept = sum_by-cons f h (others head hs) in
      rw here (omega (arith, sums, kept, rest))
]

pub out_once : (size : ℕ) (table : List Desc) (owners : List (Option ℕ)) (parcels : List (Option Parcel)) (head : ℕ) (waiting out done : List ℕ)
    → HoldsChains size table owners parcels waiting out done → 1 ≤ occurrences head out
    → (occurrences head waiting ≡ 0) × (occurrences head out ≡ 1) × (occurrences head done ≡ 0)
out_once size table owners parcels head waiting out done chains there =
    let one : occurrences head (waiting ++ (out ++ done)) ≤ 1 = once owners (waiting ++ (out ++ done)) head (chains.heads head) in
    let a = three head waiting out done in
    (omega (arith, one, a, there), omega (arith, one, a, there), omega (arith, one, a, there))

pub finished_holds : (size : ℕ) (table : List Desc) (owners : List (Option ℕ)) (parcels : List (Option Parcel)) (head : ℕ) (waiting out done : List ℕ) (p : Parcel)
    → HoldsChains size table owners parcels waiting out done → 1 ≤ occurrences head out → head < length parcels
    → HoldsChains size table owners (set parcels head (Some p)) waiting (others head out) (done ++ head ∷ [])
finished_holds size table owners parcels head waiting out done p chains there within =
    let place = out_once size table owners parcels head waiting out done chains there in
    let away = place.0 in
    let one = place.1 in
    let undone = place.2 in
    let lists : (h : ℕ) → occurrences h (waiting ++ (others head out ++ (done ++ head ∷ []))) ≡ occurrences h (waiting ++ (out ++ done)) = λ h.
    let a = three h waiting out done in
    let b = three h waiting (others head out) (done ++ head ∷ []) in
    let c = occurrences-append h done (head ∷ []) in
    elim (cases_eq h head) [
      | inl same ↦
          let gone = occurrences-others_same head out in
          let o = occurrences-one head in
          let a' = subst (λ (n : ℕ). occurrences n (waiting ++ (out ++ done)) ≡ occurrences n waiting + (occurrences n out + occurrences n done)) same a in
          let b' = subst (λ (n : ℕ). occurrences n (waiting ++ (others head out ++ (done ++ head ∷ []))) ≡ occurrences n waiting + (occurrences n (others head out) + occurrences n (done ++ head ∷ []))) same b in
          let c' = subst (λ (n : ℕ). occurrences n (done ++ head ∷ []) ≡ occurrences n done + occurrences n (head ∷ [])) same c in
          rw same (omega (arith, a', b', c', gone, o, one))
      | inr differs ↦
          let kept = occurrences-others h head out differs in
          let o = occurrences-other h head differs in
          omega (arith, a, b, c, kept, o)
    ] in
    record {
      heads = λ h. lists h ∙ chains.heads h;
      owned = λ place h owner. let l = lists h in let before = chains.owned place h owner in omega (arith, l, before);
      counted =
          let f = count_of owners in
          let a = sum_by-append f waiting (others head out ++ (done ++ head ∷ [])) in
          let b = sum_by-append f (others head out) (done ++ head ∷ []) in
          let c = sum_by_push f done head in
          let d = sum_by-append f waiting (out ++ done) in
          let e = sum_by-append f out done in
          let g = sum-others f head out one in
          let before = chains.counted in
          omega (arith, a, b, c, d, e, g, before);
      whole = λ h some.
          let differs : h ≢ head = λ same. let here : 1 ≤ occurrences head waiting = subst (λ (h : ℕ). 1 ≤ occurrences h waiting) same some in omega (arith, here, away) in
          still_whole table table owners owners parcels (set parcels head (Some p)) h refl (parcel_other parcels head h (Some p) differs) (λ d owned. refl) (chains.whole h some);
      there = λ h some. elim (cases_eq h head) [
        | inl same ↦ rw same (get_or-set_same parcels head (Some p) None within ∙ ap Some (sym (parcel_same parcels head p within)))
        | inr differs ↦
            let before : 1 ≤ occurrences h (waiting ++ done) =
            let a = occurrences-append h waiting (done ++ head ∷ []) in
            let b = occurrences-append h done (head ∷ []) in
            let c = occurrences-append h waiting done in
            let o = occurrences-other h head differs in
            omega (arith, some, a, b, c, o) in
            get_or-set_other parcels head h (Some p) None differs ∙ (chains.there h before ∙ ap Some (sym (parcel_other parcels head h (Some p) differs)))
      ];
    }

pub collected_holds : (size : ℕ) (table : List Desc) (owners : List (Option ℕ)) (parcels : List (Option Parcel)) (head : ℕ) (waiting out done : List ℕ)
    → HoldsChains size table owners parcels waiting out (head ∷ done) → HoldsChains size table (taken_back head owners) (set parcels head None) waiting out done
collected_holds size table owners parcels head waiting out done chains =
    let lists : (h : ℕ) → occurrences h (waiting ++ (out ++ (head ∷ done))) ≡ occurrences h (waiting ++ (out ++ done)) + occurrences h (head ∷ []) = λ h.
    let a = three h waiting out done in
    let b = three h waiting out (head ∷ done) in
    let c = occurrences-cons h head done in
    omega (arith, a, b, c) in
    let away : occurrences head (waiting ++ (out ++ done)) ≡ 0 =
    let one = once owners (waiting ++ (out ++ (head ∷ done))) head (chains.heads head) in
    let l = lists head in
    let o = occurrences-one head in
    omega (arith, one, l, o) in
    let split = three head waiting out done in
    let now : (h d : ℕ) → is_of h (get_or (taken_back head owners) d None) ≡ (if h == head then false else is_of h (get_or owners d None)) = λ h d. taken_back_owner head d h owners in
    record {
      heads = λ h. elim (cases_eq h head) [
        | inl same ↦
            let unowned : is_of head (get_or (taken_back head owners) head None) ≡ false = now head head ∙ same_test (is_of head (get_or owners head None)) head in
            rw (same, unowned) away
        | inr differs ↦
            let l = lists h in
            let o = occurrences-other h head differs in
            let e : occurrences h (waiting ++ (out ++ done)) ≡ occurrences h (waiting ++ (out ++ (head ∷ done))) = omega (arith, l, o) in
            let owner : is_of h (get_or (taken_back head owners) h None) ≡ is_of h (get_or owners h None) = now h h ∙ other_test h head _ differs in
            rw owner (e ∙ chains.heads h)
      ];
      owned = λ place h owner. elim (cases_eq h head) [
        | inl same ↦ absurd (false≢true (sym (now h place ∙ (ap (λ (n : ℕ). if h == n then false else is_of h (get_or owners place None)) (sym same) ∙ same_test (is_of h (get_or owners place None)) h)) ∙ owner))
        | inr differs ↦
            let before = chains.owned place h (sym (now h place ∙ other_test h head _ differs) ∙ owner) in
            let l = lists h in
            let o = occurrences-other h head differs in
            omega (arith, before, l, o)
      ];
      counted =
          let f = count_of owners in
          let f' = count_of (taken_back head owners) in
          let same = sum_apart f' f head (waiting ++ (out ++ done)) (λ h differs. ap length (taken_back_others head h 0 owners differs)) away in
          let a = sum_by-append f waiting (out ++ (head ∷ done)) in
          let b = sum_by-append f out (head ∷ done) in
          let c = sum_by-cons f head done in
          let d = sum_by-append f waiting (out ++ done) in
          let e = sum_by-append f out done in
          let freed = taken_back_free head 0 owners in
          let before = chains.counted in
          omega (arith, same, a, b, c, d, e, freed, before);
      whole = λ h some.
          let differs : h ≢ head = λ same. let here : 1 ≤ occurrences head waiting = subst (λ (h : ℕ). 1 ≤ occurrences h waiting) same some in omega (arith, here, away, split) in
          still_whole table table owners (taken_back head owners) parcels (set parcels head None) h (taken_back_others head h 0 owners differs) (parcel_other parcels head h None differs) (λ d owned. refl) (chains.whole h some);
      there = λ h some.
          let both = occurrences-append h waiting done in
          let differs : h ≢ head = λ same. let here : 1 ≤ occurrences head (waiting ++ done) = subst (λ (h : ℕ). 1 ≤ occurrences h (waiting ++ done)) same some in
          let b = occurrences-append head waiting done in omega (arith, here, away, split, b) in
          let before : 1 ≤ occurrences h (waiting ++ (head ∷ done)) =
          let c = occurrences-cons h head done in
          let all = occurrences-append h waiting (head ∷ done) in
          omega (arith, some, both, c, all) in
          get_or-set_other parcels head h None None differs ∙ (chains.there h before ∙ ap Some (sym (parcel_other parcels head h None differs)));
    }
  where
    same_test : (b : Bool) (n : ℕ) → (if n == n then false else b) ≡ false
    same_test b n = grind (arith, nat_tests)

    other_test : (n m : ℕ) (b : Bool) → n ≢ m → (if n == m then false else b) ≡ b
    other_test n m b differs = grind (arith, nat_tests, differs)
