-- Replays of logs that grow.
use Rattle.std.proofs.Common.{◌≡◌, refl, List, [], ◌∷◌, ◌++◌, Some, None}
use Rattle.std.specs.Option.{option_and_then}
use Rattle.vm_local.specs.declared.entry.Entry.{Entry}
use Rattle.vm_local.specs.State.{LocalState}
use Rattle.vm_local.specs.Log.{after, replay_from}

pub replay_from_append : (s : LocalState) (first second : List Entry) → replay_from s (first ++ second) ≡ option_and_then (λ t. replay_from t second) (replay_from s first)
replay_from_append s [] second = refl
replay_from_append s (e ∷ es) second =
    elim (after s e) as (λ o. option_and_then (λ t. replay_from t (es ++ second)) o ≡ option_and_then (λ t. replay_from t second) (option_and_then (λ t. replay_from t es) o)) [
      | None ↦ refl
      | Some t ↦ replay_from_append t es second
    ]

-- one entry more
pub replay_from_push : (s : LocalState) (log : List Entry) (e : Entry) → replay_from s (log ++ e ∷ []) ≡ option_and_then (λ t. after t e) (replay_from s log)
replay_from_push s [] e = elim (after s e) as (λ o. option_and_then (λ t. Some t) o ≡ o) [ None ↦ refl | Some t ↦ refl ]
replay_from_push s (d ∷ ds) e =
    elim (after s d) as (λ o. option_and_then (λ t. replay_from t (ds ++ e ∷ [])) o ≡ option_and_then (λ t. after t e) (option_and_then (λ t. replay_from t ds) o)) [
      | None ↦ refl
      | Some t ↦ replay_from_push t ds e
    ]
