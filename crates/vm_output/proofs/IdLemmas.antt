-- Ids that stand in rows are the numbers below their count, each once, where all rows are one list.
use Rattle.std.proofs.Common.{◌≡◌, ◌<◌, ℕ, zero, suc, ◌+◌, Bool, true, false, nat_lt, ◌-◌, List, [], ◌∷◌, ◌++◌, Option, Some, None, length, get_or, take, flat_map, map, refl, sym, ap, ◌∙◌, subst, arith}
use Rattle.std.proofs.lemmas.Bool.Decides.{nat_tests}
use Rattle.std.proofs.lemmas.List.{get_or_append_left, get_or-append-add, length-append}
use Rattle.std.proofs.lemmas.Option.{none-some}
use Rattle.vm_output.specs.ScriptLogs.{AreNumbersBelow}

abbrev Row : Type 0
Row = List (Option ℕ)

abbrev pub joined : List Row → Row
joined rows = flat_map (λ row. row) rows

abbrev pub id_at : List Row → ℕ → ℕ → Option ℕ
id_at rows n h = get_or (get_or rows n []) h None

-- an id of all rows stands in one of them, and how far its row begins tells its place
pub record Stands (rows : List Row) (i id : ℕ) : Type 0 where
  pub row : ℕ
  pub place : ℕ
  pub at : i ≡ length (joined (take row rows)) + place
  pub is : id_at rows row place ≡ Some id

in_first : (row : Row) (rows : List Row) (i id : ℕ) → i < length row → get_or (row ++ joined rows) i None ≡ Some id → Stands (row ∷ rows) i id
in_first row rows i id within is = record { row = 0; place = i; at = (let same : i ≡ 0 + i = omega arith in same); is = sym (get_or_append_left row (joined rows) None i within) ∙ is }

in_later : (row : Row) (rows : List Row) (i k id : ℕ) → i ≡ length row + k → Stands rows k id → Stands (row ∷ rows) i id
in_later row rows i k id is s = record {
  row = suc s.row;
  place = s.place;
  at =
      let later : k ≡ length (joined (take s.row rows)) + s.place = s.at in
      let whole : length (row ++ joined (take s.row rows)) ≡ length row + length (joined (take s.row rows)) = length-append row (joined (take s.row rows)) in
      omega (arith, is, later, whole);
  is = s.is;
}

pub stands : (rows : List Row) (i id : ℕ) → get_or (joined rows) i None ≡ Some id → Stands rows i id
stands [] i id is = absurd (none-some id is)
stands (row ∷ rows) i id is = by_place (nat_lt i (length row)) refl (λ k found. stands rows k id found)
  where
    by_place : (b : Bool) → nat_lt i (length row) ≡ b → ((k : ℕ) → get_or (joined rows) k None ≡ Some id → Stands rows k id) → Stands (row ∷ rows) i id
    by_place true within later = in_first row rows i id (grind (arith, nat_tests)) is
    by_place false beyond later =
        let behind : i ≡ length row + (i - length row) = grind (arith, nat_tests) in
        let P : ℕ → Type 0 = λ x. get_or (row ++ joined rows) x None ≡ Some id in
        let found : get_or (joined rows) (i - length row) None ≡ Some id =
        sym (get_or-append-add row (joined rows) (i - length row) None) ∙ subst P behind is in
        in_later row rows i (i - length row) id behind (later (i - length row) found)

-- an id of a row is one of all
pub there_joined : (rows : List Row) (n h id : ℕ) → id_at rows n h ≡ Some id → (i : ℕ) × (get_or (joined rows) i None ≡ Some id)
there_joined [] n h id is = absurd (none-some id is)
there_joined (row ∷ rows) zero h id is = (h, get_or_append_left row (joined rows) None h (inside row h id is) ∙ is)
  where
    inside : (xs : Row) (k x : ℕ) → get_or xs k None ≡ Some x → k < length xs
    inside [] k x found = absurd (none-some x found)
    inside (y ∷ ys) zero x found = omega arith
    inside (y ∷ ys) (suc k) x found = (let rest = inside ys k x found in omega (arith, rest))
there_joined (row ∷ rows) (suc n) h id is =
    let rest = there_joined rows n h id is in
    (length row + rest.0, get_or-append-add row (joined rows) rest.0 None ∙ rest.1)

-- ids that are numbers below a count, each once, where a row and a place tell each
pub record AreNumbersIn (count : ℕ) (rows : List Row) : Type 0 where
  pub below : (n h id : ℕ) → id_at rows n h ≡ Some id → id < count
  pub there : (id : ℕ) → id < count → (n : ℕ) × ((h : ℕ) × (id_at rows n h ≡ Some id))
  pub once : (n h m k id : ℕ) → id_at rows n h ≡ Some id → id_at rows m k ≡ Some id → (n ≡ m) × (h ≡ k)

pub numbers_joined : (count : ℕ) (rows : List Row) → AreNumbersIn count rows → AreNumbersBelow count (joined rows)
numbers_joined count rows ids = record {
  below = λ i id is. let s = stands rows i id is in ids.below s.row s.place id s.is;
  there = λ id within. let at = ids.there id within in there_joined rows at.0 at.1.0 id at.1.1;
  once = λ i j id this that.
      (let s = stands rows i id this in
      let t = stands rows j id that in
      let same = ids.once s.row s.place t.row t.place id s.is t.is in
      s.at ∙ (rw (same.0, same.1) (sym t.at)));
}
