-- Each kind of step keeps the rule of the counting word.
use Rattle.std.proofs.Common.{◌≡◌, ◌≢◌, ℕ, zero, suc, ◌+◌, List, [], ◌∷◌, ◌++◌, length, set, None, Bool, true, false, not, ◌&&◌, nat_lt, eqb, eq-eqb, true≢false, refl, sym, ap, ◌∙◌, subst, ⊎_elim, arith, length-append}
use Rattle.std.specs.Prelude.{if◌then◌else◌, slice_set, slice_index}
use mathlib.Core.List.{IsPrefix}
use mathlib.Core.Option.{some, none, some-ne-none, some-injective}
use lib.ListN.{get_elem?}
use prog.Atomic.{either}
use Rattle.atomic_table.specs.Table.{Me, step, keeps, opening, Allows, Splits, Joins}
use Rattle.atomic_table.proofs.Lists.{at_set, at_snoc, set_again}
use Rattle.vm_count.specs.declared.view.View.{View}
use Rattle.vm_count.specs.Rule.{opened, copied, spent, takes_over, joined, settled, longer_by, IsKnown, Fits, Counts, Looks, Appends}
use Rattle.vm_count.proofs.Prefixes.{prefix_nil, prefix_self, prefix_grown, prefix_shorter, prefix_length}

off : false ≡ true → ⊥
off e = true≢false (sym e)

unknown : {S : Type 0} (key : S) → IsKnown key None
unknown key f e = absurd (cc (e))

module _ {S E : Type 0} where
  -- every seat fits after a change of one, if that one does and the others still do
  fits_set : (key : S) (log : List E) (holder : ℕ) (views : List (View S E)) (seat : ℕ) (w : View S E)
      → ((j : ℕ) (u : View S E) → j ≢ seat → get_elem? views j ≡ some u → Fits key log holder j u)
      → Fits key log holder seat w
      → (j : ℕ) (u : View S E) → get_elem? (set views seat w) j ≡ some u → Fits key log holder j u
  fits_set key log holder views seat w others mine j u e =
      ⊎_elim
      (λ (x : (j ≡ seat) × (w ≡ u)). subst (λ (y : ℕ × View S E). Fits key log holder y.0 y.1) (λ i. (sym x.0 i, x.1 i)) mine)
      (λ (x : (j ≢ seat) × (get_elem? views j ≡ some u)). others j u x.0 x.1)
      (at_set views seat j w u e)

  pub begins : (key : S) → Counts {S = S} {E = E} key (opening (0 ∷ []) [] (opened key))
  begins key = ([], 0, refl, one)
    where
      mine : Fits {S = S} {E = E} key [] 0 0 (opened key)
      mine = (((λ f e. cc (e)), unknown key), (prefix_self [], prefix_self []), (λ _. (refl, refl)))

      one : (seat : ℕ) (v : View S E) → get_elem? (opened key ∷ []) seat ≡ some v → Fits key [] 0 seat v
      one zero v e = subst (Fits key [] 0 0) (some-injective _ _ e) mine
      one (suc seat) v e = absurd (some-ne-none v (sym e))

  settled_fits : (key : S) (log : List E) (holder seat : ℕ) (v : View S E) → Fits key log holder seat v → Fits key log holder seat (settled v)
  settled_fits key log holder seat v f = ((f.0.0, unknown key), (f.1.0, prefix_nil log), f.2)

  pub looks : (slots seat : ℕ) (key : S) (me : Me E (View S E)) → Allows (Counts key) slots seat me 0 (λ n. n) (Looks (step slots 0 0 0 none) me)
  looks slots seat key me s h len at small =
      let v = me.0 in
      let log = h.0 in
      let f = h.3 seat v at in
      let found : slice_index s.words 0 ≡ length log = ap (λ (ws : List ℕ). slice_index ws 0) h.2 in (
        settled v,
        keeps,
        tt,
        (
          log,
          h.1,
          ap (λ (ws : List ℕ). slice_set ws 0 (slice_index ws 0)) h.2,
          fits_set key log h.1 s.views seat (settled v) (λ j u _ e. h.3 j u e) (settled_fits key log h.1 seat v f),
        ),
        record {
          same = refl;
          seen = (let le = prefix_length v.entries log f.1.0 in omega arith);
          whole = (λ e. found ∙ sym (ap length (f.2 e).1));
          met = (λ le. prefix_shorter v.met v.entries log f.1.1 f.1.0 le);
          met_whole = (λ e. subst (IsPrefix v.met) (sym (f.2 e).1) f.1.1);
          fixed = (λ a b p q. f.0.0 a p ∙ sym (f.0.1 b q));
        },
      )

  pub appends : (slots seat : ℕ) (key : S) (me : Me E (View S E)) (n : ℕ) (e : E) → me.0.holds ≡ true → n ≡ length me.0.entries
      → Allows (Counts key) slots seat me 0 (λ k. either (eqb k n) (n + 1) k) (Appends (step slots 0 n (n + 1) (some e)) me)
  appends slots seat key me n e holds is s h len at small =
      let v = me.0 in
      let log = h.0 in
      let f = h.3 seat v at in
      let mine = f.2 holds in
      let here : length log ≡ n = sym (ap length mine.1) ∙ sym is in
      let longer : either (eqb (length log) n) (n + 1) (length log) ≡ length (log ++ e ∷ []) = ap (λ b. either b (n + 1) (length log)) (eq-eqb (length log) n here) ∙ omega (arith, length-append log (e ∷ [])) in (
        longer_by v e,
        keeps,
        tt,
        (
          log ++ e ∷ [],
          h.1,
          ap (λ (ws : List ℕ). slice_set ws 0 (either (eqb (slice_index ws 0) n) (n + 1) (slice_index ws 0))) h.2 ∙ ap (λ k. k ∷ []) longer,
          fits_set key (log ++ e ∷ []) h.1 s.views seat (longer_by v e)
              (λ j u apart there. let g = h.3 j u there in
              (g.0, (prefix_grown u.entries log (e ∷ []) g.1.0, prefix_grown u.met log (e ∷ []) g.1.1), (λ k. absurd (apart ((g.2 k).0 ∙ sym mine.0)))))
              ((f.0.0, unknown key), (subst (λ l. IsPrefix l (log ++ e ∷ [])) (ap (λ l. l ++ e ∷ []) (sym mine.1)) (prefix_self (log ++ e ∷ [])), prefix_nil (log ++ e ∷ [])), (λ _. (mine.0, ap (λ l. l ++ e ∷ []) mine.1))),
        ),
        (λ a said. ap (λ x. (longer_by v x, me.1)) (some-injective e a said)),
      )

  pub splits : (seat : ℕ) (key : S) (v : View S E) → Splits (Counts key) seat v v (copied v)
  splits seat key v s h at = (
    h.0,
    h.1,
    h.2,
    λ j u e. ⊎_elim
        (λ was. h.3 j u (subst (λ l. get_elem? l j ≡ some u) (set_again s.views seat v at) was))
        (λ (same : copied v ≡ u). let f = h.3 seat v at in
        subst (Fits key h.0 h.1 j) same ((f.0.0, unknown key), (f.1.0, prefix_nil h.0), (λ k. absurd (off k))))
        (at_snoc (set s.views seat v) (copied v) u j e),
  )

  -- a seat that keeps one of two lists, and not the other's if it holds
  kept_fits : (key : S) (log : List E) (holder seat other : ℕ) (v w : View S E) (takes : Bool) → (v.holds ≡ true → takes ≡ false)
      → Fits key log holder seat v → Fits key log holder other w
      → Fits key log holder seat record { fixed = v.fixed; entries = if takes then w.entries else v.entries; holds = v.holds; met = if takes then v.entries else w.entries; met_fixed = w.fixed }
  kept_fits key log holder seat other v w true own f g = ((f.0.0, g.0.0), (g.1.0, f.1.0), (λ k. absurd (true≢false (own k))))
  kept_fits key log holder seat other v w false own f g = ((f.0.0, g.0.0), (f.1.0, g.1.0), f.2)

  pub joins : (seat : ℕ) (key : S) (v : View S E) (other : ℕ) (w : View S E) → Joins (Counts key) seat v other w (joined v w) spent
  joins seat key v other w s h at apart there =
      let both = joined v w in
      let theirs = ⊎_elim
      (λ (t : (other ≡ seat) × (both ≡ w)). absurd (apart t.0))
      (λ (t : (other ≢ seat) × (get_elem? s.views other ≡ some w)). h.3 other w t.1)
      (at_set s.views seat other both w there) in
      let own : v.holds ≡ true → takes_over v w ≡ false = λ e. ap (λ b. not b && nat_lt (length v.entries) (length w.entries)) e in
      let mine = kept_fits key h.0 h.1 seat other v w (takes_over v w) own (h.3 seat v at) theirs in
      let nobody : Fits key h.0 h.1 other spent = ((unknown key, unknown key), (prefix_nil h.0, prefix_nil h.0), (λ k. absurd (off k))) in (
        h.0,
        h.1,
        h.2,
        fits_set key h.0 h.1 (set s.views seat both) other spent (λ j u _ e. fits_set key h.0 h.1 s.views seat both (λ i y _ e'. h.3 i y e') mine j u e) nobody,
      )
