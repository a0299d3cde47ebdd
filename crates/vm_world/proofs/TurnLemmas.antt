-- Lemmas on a step of the world that was done, or wasn't: what it keeps.
use Rattle.std.proofs.Common.{◌≡◌, ◌<◌, ℕ, Bool, true, false, not, length, sym, ◌∙◌, subst, arith}
use Rattle.std.specs.List.{list_any}
use Rattle.std.specs.Prelude.{IsTrue, ◌↔◌}
use Rattle.std.proofs.lemmas.Bool.Decides.{nat_tests}
use Rattle.vm_guest.specs.Guest.{process_at}
use Rattle.vm_link.specs.declared.link.Turn.{Turn}
use Rattle.vm_link.specs.declared.link.Turn.TheVariants.{Did, Idle}
use Rattle.vm_realm.specs.Enabled.{enabled, begins_line}
use Rattle.vm_realm.specs.Laws.{IsBusy, StepsKeepSound}
use Rattle.vm_realm.specs.Left.{left_of}
use Rattle.vm_realm.specs.Sound.{IsSound}
use Rattle.vm_realm.specs.Steps.{Steps, Turns}
use Rattle.vm_realm.specs.World.{WorldState, IsDone}
use Rattle.vm_realm.specs.declared.step.Step.{Step}
use Rattle.vm_realm.proofs.LeftLemmas.{left_falls}
use Rattle.vm_realm.proofs.StallLemmas.{no_stall, no_stall_once_begun}

-- where each step keeps a sound world sound
pub turned_sound : StepsKeepSound → (turn : Turn) (w w' : WorldState) (s : Step) → IsSound w → Turns turn w s w' → IsSound w'
turned_sound keeps Did w w' s sound turns = keeps w w' s sound turns.1
turned_sound keeps Idle w w' s sound turns = subst IsSound (sym turns.1) sound

-- ---- as the world's view has it

pub turned_seen : (turn : Turn) (v w w' : WorldState) (s t : Step) → v ≡ w → t ≡ s → Turns turn v s w' → Turns turn w t w'
turned_seen turn v w w' s t same kind turns = subst (λ x. Turns turn w x w') (sym kind) (subst (λ x. Turns turn x s w') same turns)

pub turned_falls : (turn : Turn) (v w w' : WorldState) (s : Step) → v ≡ w → IsSound v → Turns turn v s w' → turn ≡ Did → left_of w' < left_of w
turned_falls turn v w w' s same sound turns did =
    let done : Turns Did v s w' = subst (λ t. Turns t v s w') did turns in
    subst (λ x. left_of w' < left_of x) same (left_falls v w' s sound done.1)

pub sound_seen : (v w : WorldState) → v ≡ w → IsSound v → IsSound w
sound_seen v w same sound = subst IsSound same sound

-- ---- whether it is done

pub done_seen : (v w : WorldState) (b : Bool) → v ≡ w → (IsTrue b ↔ IsDone v) → IsTrue b ↔ IsDone w
done_seen v w b same done = subst (λ x. IsTrue b ↔ IsDone x) same done

-- where it isn't, some step may come next
pub more_seen : (v w : WorldState) (b : Bool) → v ≡ w → IsSound v → (IsTrue b ↔ IsDone v) → b ≡ false → 0 < length (enabled w)
more_seen v w b same sound done undone =
    let some = no_stall v sound.0 sound.1 (λ all. (let never : true ≡ false = sym (done.1 all) ∙ undone in cc)) in
    let more : 0 < length (enabled v) = grind (arith, nat_tests, some) in
    subst (λ x. 0 < length (enabled x)) same more

-- where a process began a line that isn't answered, some step may come next that begins no other
pub once_begun_seen : (v w : WorldState) (n : ℕ) → v ≡ w → IsSound v → IsBusy (process_at w.guest n)
    → list_any (λ s. not (begins_line s)) (enabled w) ≡ true
once_begun_seen v w n same sound busy =
    let here = subst (λ x. IsBusy (process_at x.guest n)) (sym same) busy in
    subst (λ x. list_any (λ s. not (begins_line s)) (enabled x) ≡ true) same (no_stall_once_begun v sound.0 n sound.1 here)
