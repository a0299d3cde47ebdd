-- The rule of the counting word, and what its steps tell.
use Rattle.std.specs.Prelude.{◌≡◌, ◌≤◌, ℕ, Bool, true, false, not, ◌&&◌, if◌then◌else◌, List, [], ◌∷◌, ◌++◌, length, Option, Some, None, nat_lt}
use mathlib.Core.List.{IsPrefix}
use mathlib.Core.Option.{some}
use lib.ListN.{get_elem?}
use Rattle.atomic_table.specs.Table.{State, Step, Me}
use Rattle.atomic_table.specs.Seated.{TableId}
use Rattle.vm_count.specs.declared.view.View.{View}
use Rattle.vm_count.specs.Pass.{Pass}

-- a fixed value that is known is the count's
abbrev pub IsKnown : {S : Type 0} → S → Option S → Type 0
IsKnown {S} key fixed = (f : S) → fixed ≡ Some f → f ≡ key

module _ {S E : Type 0} where
  -- a seat that has met nobody since its last step
  abbrev pub knowing : Option S → List E → Bool → View S E
  knowing fixed entries holds =
      record { fixed = fixed; entries = entries; holds = holds; met = []; met_fixed = None }

  -- what a pass shows of its seat
  abbrev pub shown : TableId → View S E → Pass S E
  shown table v =
      record { table = table; fixed = v.fixed; entries = v.entries; holds = v.holds }

  -- the fixed value is known, and the seat has met nobody since its last step
  abbrev pub IsSettled : View S E → Type 0
  IsSettled v = ((f : S) × (v.fixed ≡ Some f)) × (v.met ≡ []) × (v.met_fixed ≡ None)

  -- the seat that holds knows the empty list
  abbrev pub opened : S → View S E
  opened fixed = knowing (Some fixed) [] true

  -- the same knowledge, for a seat that doesn't hold
  abbrev pub copied : View S E → View S E
  copied v = knowing v.fixed v.entries false

  -- a seat that was joined knows nothing
  abbrev pub spent : View S E
  spent = knowing None [] false

  -- a seat takes the other's list if it is longer than its own; the holder's list never is shorter
  abbrev pub takes_over : View S E → View S E → Bool
  takes_over v w = not v.holds && nat_lt (length v.entries) (length w.entries)

  -- a seat that has met another, and keeps the list that it didn't choose until the next step
  abbrev pub joined : View S E → View S E → View S E
  joined v w = record {
    fixed = v.fixed;
    entries = if takes_over v w then w.entries else v.entries;
    holds = v.holds;
    met = if takes_over v w then v.entries else w.entries;
    met_fixed = w.fixed;
  }

  -- the same seat after its next step
  abbrev pub settled : View S E → View S E
  settled v = knowing v.fixed v.entries v.holds

  -- the same with an entry more
  abbrev pub longer_by : View S E → E → View S E
  longer_by v e = knowing v.fixed (v.entries ++ e ∷ []) v.holds

  -- what a seat knows is true of the count's value and list; the holder alone holds, with the whole
  abbrev pub Fits : S → List E → ℕ → ℕ → View S E → Type 0
  Fits key log holder seat v =
      (IsKnown key v.fixed × IsKnown key v.met_fixed)
      × (IsPrefix v.entries log × IsPrefix v.met log)
      × (v.holds ≡ true → (seat ≡ holder) × (v.entries ≡ log))

  -- the word is the length of the list, which one seat holds, and each seat fits
  abbrev pub Counts : S → State E (View S E) → Type 0
  Counts key s =
      (log : List E) × (holder : ℕ) × (s.words ≡ length log ∷ [])
      × ((seat : ℕ) (v : View S E) → get_elem? s.views seat ≡ some v → Fits key log holder seat v)

  -- The word found is at least what the seat has seen, and just that of the holder. The list that
  -- was met last and the seat's own are one list's beginnings, and the fixed values are one.
  pub record Looks (s : Step E) (before : Me E (View S E)) (found : ℕ)
      (after : Me E (View S E)) : Type 0 where
    pub same : after ≡ (settled before.0, before.1)
    pub seen : length before.0.entries ≤ found
    pub whole : before.0.holds ≡ true → found ≡ length before.0.entries
    pub met : length before.0.met ≤ length before.0.entries → IsPrefix before.0.met before.0.entries
    pub met_whole : before.0.holds ≡ true → IsPrefix before.0.met before.0.entries
    pub fixed : (f g : S) → before.0.fixed ≡ Some f → before.0.met_fixed ≡ Some g → f ≡ g

  -- the entry that is told stands at the end
  abbrev pub Appends : Step E → Me E (View S E) → ℕ → Me E (View S E) → Type 0
  Appends s before found after = (e : E) → s.said ≡ some e →
      after ≡ (longer_by before.0 e, before.1)
