-- What a line of a process makes of a script's draft.
use Rattle.std.proofs.Common.{◌≡◌, ℕ, Bool, true, List, Result, Ok, Err, refl, subst}
use Rattle.v4l_const.specs.declared.model.Model.{Model}
use Rattle.vm_script.specs.declared.fault.ScriptError.{ScriptError}
use Rattle.vm_script.specs.declared.fault.ScriptError.TheVariants.{Fault, Memory}
use Rattle.vm_script.specs.declared.fault.ScriptFault.{ScriptFault}
use Rattle.vm_script.specs.declared.fault.ScriptKind.{ScriptKind}
use Rattle.vm_script.specs.Drafts.{ScriptDraft, with_own}
use Rattle.vm_script.specs.Grammar.{at_line}
use Rattle.vm_script.specs.Reading.{Becomes}
use Rattle.vm_script.specs.Script.{ProcessLines}

own_read : (d : ScriptDraft) (number : ℕ) (r : Result ProcessLines ScriptKind) (q : ProcessLines) → at_line number r ≡ Ok q → at_line number (with_own d r) ≡ Ok (record d { begun = true; process = q })
own_read d number (Ok p) q e = let same : p ≡ q = cc in rw same refl
own_read d number (Err kind) q e = absurd (cc)

own_failed : (d x : ScriptDraft) (number : ℕ) (r : Result ProcessLines ScriptKind) (q : ProcessLines) (e : ScriptError) → Becomes (at_line number r) q (Err e) → Becomes (at_line number (with_own d r)) x (Err e)
own_failed d x number (Ok p) q (Fault f) h = absurd (cc)
own_failed d x number (Err kind) q (Fault f) h =
    let told : ScriptFault = record { line = number; kind = kind } in
    let same : told ≡ f = cc in
    rw (← same) refl
own_failed d x number r q Memory h = tt

-- a line that is read
pub own_ok : (d : ScriptDraft) (begun : Bool) (model : Model) (before : List ProcessLines) (p q : ProcessLines) (number : ℕ) (f : ProcessLines → Result ProcessLines ScriptKind)
    → record { begun = begun; model = model; before = before; process = p } ≡ d → at_line number (f p) ≡ Ok q → at_line number (with_own d (f d.process)) ≡ Ok (record { begun = true; model = model; before = before; process = q })
own_ok d begun model before p q number f is e =
    subst (λ (d : ScriptDraft). at_line number (with_own d (f d.process)) ≡ Ok (record { begun = true; model = model; before = before; process = q })) is
    (own_read (record { begun = begun; model = model; before = before; process = p }) number (f p) q e)

-- a line that is faulty, or that there is no memory for
pub own_err : (d x : ScriptDraft) (p q : ProcessLines) (number : ℕ) (f : ProcessLines → Result ProcessLines ScriptKind) (e : ScriptError)
    → p ≡ d.process → Becomes (at_line number (f p)) q (Err e) → Becomes (at_line number (with_own d (f d.process))) x (Err e)
own_err d x p q number f e same h = own_failed d x number (f d.process) q e (subst (λ (s : ProcessLines). Becomes (at_line number (f s)) q (Err e)) same h)
