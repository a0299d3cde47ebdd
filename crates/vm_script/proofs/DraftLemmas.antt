-- What adding a line does to the names of memory of each handle.
use Rattle.std.proofs.Common.{◌≡◌, ◌≢◌, inl, inr, ℕ, zero, suc, ◌<◌, ◌≤◌, ◌==◌, Bool, true, false, List, [], ◌∷◌, ◌++◌, length, length-append, get_or, set, refl, ap, sym, ◌∙◌, arith, if◌then◌else◌, Ok}
use Rattle.std.proofs.lemmas.Bool.{cases_eq, ne_eqb, true≢false}
use Rattle.std.proofs.lemmas.Bool.Decides.{nat_tests}
use Rattle.std.proofs.lemmas.Grind.{flat_map-append}
use Rattle.std.proofs.lemmas.List.{append-nil, get_or-set_same, get_or-set_other, get_or_default, length-set}
use Rattle.vm_local.specs.declared.call.Call.{Call}
use Rattle.vm_local.specs.declared.call.Call.TheVariants.{OpenHandle}
use Rattle.vm_script.specs.declared.line.Line.{Line}
use Rattle.vm_script.specs.declared.line.LineKind.TheVariants.{OnHandle}
use Rattle.vm_script.specs.declared.mention.Mention.{Mention}
use Rattle.vm_script.specs.declared.mention.Mention.TheVariants.{Nothing, Declares, Wants}
use Rattle.vm_script.specs.declared.statement.Statement.{Statement}
use Rattle.vm_script.specs.Grammar.{declares, handle_for}
use Rattle.vm_script.specs.Names.{place_from}
use Rattle.vm_script.specs.Script.{ProcessLines}
use Rattle.vm_script.proofs.LineLemmas.{is_on, by_place}
use Rattle.vm_script.proofs.NameLemmas.{place_within}
use Rattle.vm_script.specs.Memory.{mention, declared_by, declared_on, memories_of, AreMemories}

memories_push : (h : ℕ) (ls : List Line) (l : Line) → memories_of h (ls ++ l ∷ []) ≡ memories_of h ls ++ declared_on h l.what
memories_push h ls l = flat_map-append (λ (l : Line). declared_on h l.what) ls (l ∷ []) ∙ ap (λ names. memories_of h ls ++ names) (append-nil (declared_on h l.what))

none_on : (h k : ℕ) (call : Call) → declared_by (mention call) ≡ [] → declared_on k (OnHandle h call) ≡ []
none_on h k call none = by_test (h == k) none
  where
    by_test : (test : Bool) → declared_by (mention call) ≡ [] → (if test then declared_by (mention call) else []) ≡ []
    by_test true none = none
    by_test false none = refl

-- a line that declares no memory changes no handle's names
pub names_stay : (ms : List (List (List ℕ))) (ls : List Line) (number h : ℕ) (echo : List ℕ) (call : Call) → declared_by (mention call) ≡ [] → AreMemories ms ls → AreMemories ms (ls ++ record { number = number; echo = echo; what = OnHandle h call } ∷ [])
names_stay ms ls number h echo call none are k =
    are k ∙ sym (append-nil (memories_of k ls)) ∙ ap (λ names. memories_of k ls ++ names) (sym (none_on h k call none)) ∙ sym (memories_push k ls _)

one_more : (ms : List (List (List ℕ))) (k : ℕ) → get_or (ms ++ [] ∷ []) k [] ≡ get_or ms k []
one_more [] zero = refl
one_more [] (suc k) = refl
one_more (m ∷ ms) zero = refl
one_more (m ∷ ms) (suc k) = one_more ms k

-- a handle more has no names
pub handle_more : (ms : List (List (List ℕ))) (ls : List Line) → AreMemories ms ls → AreMemories (ms ++ [] ∷ []) ls
handle_more ms ls are k = one_more ms k ∙ are k

-- a line that declares memory adds its name in its handle
pub names_more : (ms : List (List (List ℕ))) (ls : List Line) (number h : ℕ) (echo : List ℕ) (call : Call) (name : List ℕ) → mention call ≡ Declares name → h < length ms → AreMemories ms ls
    → AreMemories (set ms h (get_or ms h [] ++ name ∷ [])) (ls ++ record { number = number; echo = echo; what = OnHandle h call } ∷ [])
names_more ms ls number h echo call name declares within are k =
    elim (cases_eq k h) [
      | inl same ↦
          let here : (h == k) ≡ true = grind (arith, nat_tests) in
          ap (λ j. get_or (set ms h (get_or ms h [] ++ name ∷ [])) j []) same ∙ get_or-set_same ms h (get_or ms h [] ++ name ∷ []) [] within
          ∙ ap (λ names. names ++ name ∷ []) (ap (λ j. get_or ms j []) (sym same) ∙ are k)
          ∙ sym (memories_push k ls _ ∙ ap (λ names. memories_of k ls ++ names) (ap (λ b. if b then declared_by (mention call) else []) here ∙ ap declared_by declares))
      | inr other ↦
          let there : (h == k) ≡ false = ne_eqb h k (λ e. other (sym e)) in
          get_or-set_other ms h k (get_or ms h [] ++ name ∷ []) [] other ∙ are k
          ∙ sym (memories_push k ls _ ∙ ap (λ names. memories_of k ls ++ names) (ap (λ b. if b then declared_by (mention call) else []) there) ∙ append-nil (memories_of k ls))
    ]

-- ---- what a process that is read keeps

abbrev pub IsKept : List (List ℕ) → List (List (List ℕ)) → List Line → Type 0
IsKept handles ms ls = (length handles ≤ length ls) × (length ms ≡ length handles) × AreMemories ms ls

abbrev pub line_of : ℕ → ℕ → List ℕ → Call → Line
line_of number h echo call = record { number = number; echo = echo; what = OnHandle h call }

no_mention : (call : Call) → declares call ≡ true → declared_by (mention call) ≡ []
no_mention (OpenHandle nonblock) e = refl
no_mention call e = absurd (cc)

pub kept_open : (handles : List (List ℕ)) (ms : List (List (List ℕ))) (ls : List Line) (number h : ℕ) (echo handle : List ℕ) (call : Call) → IsKept handles ms ls → declares call ≡ true
    → IsKept (handles ++ handle ∷ []) (ms ++ [] ∷ []) (ls ++ line_of number h echo call ∷ [])
kept_open handles ms ls number h echo handle call kept opens = (
  simp length-append (omega (arith, kept.0)),
  simp length-append (omega (arith, kept.1)),
  names_stay (ms ++ [] ∷ []) ls number h echo call (no_mention call opens) (handle_more ms ls kept.2),
)

pub kept_declares : (handles : List (List ℕ)) (ms : List (List (List ℕ))) (ls : List Line) (number h : ℕ) (echo name : List ℕ) (call : Call) (names : List (List ℕ)) → IsKept handles ms ls → mention call ≡ Declares name → h < length ms → names ≡ get_or ms h names
    → IsKept handles (set ms h (names ++ name ∷ [])) (ls ++ line_of number h echo call ∷ [])
kept_declares handles ms ls number h echo name call names kept declares within has =
    let same : names ≡ get_or ms h [] = has ∙ get_or_default ms h names [] within in (
      simp length-append (omega (arith, kept.0)),
      length-set ms h (names ++ name ∷ []) ∙ kept.1,
      rw same (names_more ms ls number h echo call name declares within kept.2),
    )

pub none_declared : (m : Mention) → ((name : List ℕ) → m ≢ Declares name) → declared_by m ≡ []
none_declared Nothing other = refl
none_declared (Declares name) other = absurd (other name refl)
none_declared (Wants name) other = refl

pub kept_other : (handles : List (List ℕ)) (ms : List (List (List ℕ))) (ls : List Line) (number h : ℕ) (echo : List ℕ) (call : Call) → IsKept handles ms ls → declared_by (mention call) ≡ []
    → IsKept handles ms (ls ++ line_of number h echo call ∷ [])
kept_other handles ms ls number h echo call kept none = (
  simp length-append (omega (arith, kept.0)),
  kept.1,
  names_stay ms ls number h echo call none kept.2,
)

-- the handle of a statement that declares none is one of those that are there
pub handle_within : (p : ProcessLines) (s : Statement) (h : ℕ) → handle_for p s ≡ Ok h → declares s.call ≡ false → h < length p.handles
handle_within p s h e known =
    by_place (h < length p.handles) (length p.handles) h (declares s.call) (place_from 0 s.handle p.handles) (is_on p s h e).place
    (λ new next. absurd (true≢false (sym new ∙ known)))
    (λ old place. place_within s.handle p.handles h place)
