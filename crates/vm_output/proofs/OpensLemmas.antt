-- A handle's first line in a script that was read opens it, and no later one does.
use Rattle.std.proofs.Common.{◌≡◌, ◌≢◌, ℕ, ◌+◌, ◌<◌, ◌≤◌, ◌==◌, ◌⊎◌, Bool, true, false, List, [], ◌∷◌, ◌++◌, Option, Some, None, length, refl, sym, ap, subst, arith, eq-eqb, inl, inr, if◌then◌else◌}
use Rattle.std.specs.Prelude.{All}
use Rattle.std.proofs.lemmas.Bool.{cases_eq, ne_eqb}
use Rattle.std.proofs.lemmas.List.Elements.{All-nil, All-cons, All-append}
use Rattle.vm_local.specs.declared.call.Call.{Call}
use Rattle.vm_local.specs.declared.call.Call.TheVariants.{OpenHandle}
use Rattle.vm_script.specs.Grammar.{declares}
use Rattle.vm_script.specs.Lines.{Numbered, lines_of, call_on, numbered}
use Rattle.vm_script.specs.Reading.{IsReadProcess, Fits, InOrder, opens, opens_in}
use Rattle.vm_script.specs.Script.{ProcessLines}
use Rattle.vm_script.specs.declared.line.Line.{Line}
use Rattle.vm_script.specs.declared.line.LineKind.{LineKind}
use Rattle.vm_script.specs.declared.line.LineKind.TheVariants.{OnHandle, Raw}
use Rattle.vm_output.specs.ScriptLogs.{OpensFirst}

abbrev is_later : Numbered → Type 0
is_later d = declares d.call ≡ false

abbrev OpensNone : List Numbered → Type 0
OpensNone cs = All is_later cs

-- ---- what a line does

-- a line that opens a handle is on the next one, any other is on one that is opened
abbrev Declares : ℕ → ℕ → Call → Type 0
Declares opened k call = (declares call ≡ true) × (k ≡ opened) × (opens (OnHandle k call) ≡ 1)

abbrev Asks : ℕ → ℕ → Call → Type 0
Asks opened k call = (declares call ≡ false) × (k < opened) × (opens (OnHandle k call) ≡ 0)

either : (opened k : ℕ) (call : Call) → Fits opened (OnHandle k call) → Declares opened k call ⊎ Asks opened k call
either opened k (OpenHandle nonblock) fits = inl (refl, fits, refl)
either opened k call fits = inr (refl, fits, refl)

-- a call on a handle is there, or none is
on_it : (line k h : ℕ) (call : Call) → (k == h) ≡ true → numbered line (call_on h (OnHandle k call)) ≡ record { line = line; call = call } ∷ []
on_it line k h call same = ap (λ b. numbered line (if b then Some call else None)) same

on_other : (line k h : ℕ) (call : Call) → (k == h) ≡ false → numbered line (call_on h (OnHandle k call)) ≡ []
on_other line k h call other = ap (λ b. numbered line (if b then Some call else None)) other

not_same : (k h : ℕ) → k ≢ h → (k == h) ≡ false
not_same k h other = ne_eqb k h other

-- ---- lines behind the one that opens a handle

later_on : (line k h : ℕ) (call : Call) → declares call ≡ false → OpensNone (numbered line (call_on h (OnHandle k call)))
later_on line k h call none = by_place (k == h)
  where
    by_place : (b : Bool) → OpensNone (numbered line (if b then Some call else None))
    by_place true = All-cons is_later (record { line = line; call = call }) [] none (All-nil is_later)
    by_place false = All-nil is_later

later_line : (opened h line : ℕ) (what : LineKind) → Fits opened what → h < opened → OpensNone (numbered line (call_on h what))
later_line opened h line (Raw chain) fits below = absurd fits
later_line opened h line (OnHandle k call) fits below = elim (either opened k call fits) [
  | inl new ↦ (let at : k ≡ opened = new.1 in
      subst OpensNone (sym (on_other line k h call (not_same k h (λ same. omega (arith, at, same, below))))) (All-nil is_later))
  | inr asks ↦ later_on line k h call asks.0
]

later_lines : (opened h : ℕ) (ls : List Line) → InOrder opened ls → h < opened → OpensNone (lines_of h ls)
later_lines opened h [] order below = All-nil is_later
later_lines opened h (l ∷ ls) order below =
    All-append is_later (numbered l.number (call_on h l.what)) (lines_of h ls) (later_line opened h l.number l.what order.0 below)
    (later_lines (opened + opens l.what) h ls order.1 (omega (arith, below)))

-- ---- all lines on a handle

first_line : (opened h : ℕ) (l : Line) (ls : List Line) (what : LineKind) → Fits opened what → InOrder (opened + opens what) ls → opened ≤ h
    → (opened + opens what ≤ h → OpensFirst (lines_of h ls)) → OpensFirst (numbered l.number (call_on h what) ++ lines_of h ls)
first_line opened h l ls (Raw chain) fits order above rest = absurd fits
first_line opened h l ls (OnHandle k call) fits order above rest = elim (cases_eq k h) [
  | inl same ↦ elim (either opened k call fits) [
    | inl new ↦ (let on : (k == h) ≡ true = eq-eqb k h same in
        let at : k ≡ opened = new.1 in
        let one : opens (OnHandle k call) ≡ 1 = new.2 in
        subst (λ cs. OpensFirst (cs ++ lines_of h ls)) (sym (on_it l.number k h call on))
        (new.0, later_lines (opened + opens (OnHandle k call)) h ls order (omega (arith, at, one, same))))
    | inr asks ↦ absurd (let less : k < opened = asks.1 in omega (arith, less, same, above))
  ]
  | inr other ↦ (let next : opened + opens (OnHandle k call) ≤ h = elim (either opened k call fits) [
    | inl new ↦ (let at : k ≡ opened = new.1 in let one : opens (OnHandle k call) ≡ 1 = new.2 in grind (arith, at, one, other, above))
    | inr asks ↦ (let none : opens (OnHandle k call) ≡ 0 = asks.2 in omega (arith, none, above))
  ] in
      subst (λ cs. OpensFirst (cs ++ lines_of h ls)) (sym (on_other l.number k h call (not_same k h other))) (rest next))
]

first_of_lines : (opened h : ℕ) (ls : List Line) → InOrder opened ls → opened ≤ h → h < opened + opens_in ls → OpensFirst (lines_of h ls)
first_of_lines opened h [] order above below = absurd (omega (arith, above, below))
first_of_lines opened h (l ∷ ls) order above below =
    first_line opened h l ls l.what order.0 order.1 above (λ next. first_of_lines (opened + opens l.what) h ls order.1 next (omega (arith, below)))

-- each handle of a process that was read is opened by its first line alone
pub opens_first : (p : ProcessLines) (h : ℕ) → IsReadProcess p → h < length p.handles → OpensFirst (lines_of h p.lines)
opens_first p h read within =
    let all : length p.handles ≡ opens_in p.lines = read.opened in
    first_of_lines 0 h p.lines read.order (omega arith) (omega (arith, all, within))
