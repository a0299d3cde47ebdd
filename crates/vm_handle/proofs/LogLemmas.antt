-- The log of a handle with one more entry.
use Rattle.std.proofs.Common.{◌≡◌, ◌||◌, Bool, true, false, List, [], ◌∷◌, ◌++◌, Option, Some, None, IsSome, refl, sym, ◌∙◌, subst, unwrap_or}
use Rattle.std.specs.Option.{option_and_then}
use Rattle.std.proofs.lemmas.Bool.{false≢true}
use Rattle.std.proofs.lemmas.List.Folds.{list_any-append}
use Rattle.v4l_const.specs.declared.model.Model.{Model}
use Rattle.vm_frame.specs.declared.mem.Mem.{Mem}
use Rattle.vm_local.specs.declared.entry.Entry.{Entry}
use Rattle.vm_local.specs.State.{opening}
use Rattle.vm_local.specs.Log.{after, replay, IsLegal}
use Rattle.vm_local.proofs.LogLemmas.{replay_from_push}
use Rattle.vm_home.specs.Reached.{IsReached}
use Rattle.vm_home.proofs.FactLemmas.{reached_of}
use Rattle.vm_log.specs.LegalLog.{LogState, state_after, state_of, with_entry, MayFollow}
use Rattle.vm_log.proofs.LogLemmas.{leads}
use Rattle.vm_exchange.specs.Range.{IsInRange, HasWords}
use Rattle.vm_exchange.proofs.RangeLemmas.{after_in_range}
use Rattle.vm_handle.specs.Handle.{opens_session, has_opened}

-- the log is legal, and its numbers go over the wire
pub record IsReady (l : LogState) : Type 0 where
  pub legal : IsLegal l.model l.entries
  pub range : IsInRange (state_of l)

then_is : {A : Type 0} (o : Option A) (d : A) (f : A → Option A) → IsSome o → IsSome (f (unwrap_or o d)) → IsSome (option_and_then f o)
then_is None d f some goes = absurd (false≢true some)
then_is (Some x) d f some goes = goes

pub legal_more : (m : Model) (log : List Entry) (e : Entry) → IsLegal m log → IsSome (after (state_after m log) e) → IsLegal m (log ++ e ∷ [])
legal_more m log e legal goes =
    subst (λ o. IsSome o) (sym (replay_from_push (opening m) log e)) (then_is (replay m log) (opening m) (λ t. after t e) legal goes)

-- the entry leads to the state of the longer log
pub entry_leads : (l : LogState) (e : Entry) (home : List (Option Mem)) → IsLegal l.model l.entries → MayFollow l e → after (state_of l) e ≡ Some (state_of (with_entry l e home))
entry_leads l e home legal goes = leads l.model l.entries e legal goes

pub ready_more : (l : LogState) (e : Entry) (home : List (Option Mem)) → IsReady l → HasWords e → MayFollow l e → IsReady (with_entry l e home)
ready_more l e home ready words goes = record {
  legal = legal_more l.model l.entries e ready.legal goes;
  range = after_in_range (state_of l) (state_of (with_entry l e home)) e ready.range words (entry_leads l e home ready.legal goes);
}

pub reached : (l : LogState) → IsLegal l.model l.entries → IsReached (state_of l)
reached l legal = reached_of l.model l.entries legal

or_one : (a b : Bool) → (a || (b || false)) ≡ (a || b)
or_one true b = refl
or_one false true = refl
or_one false false = refl

-- an open that is answered ok is one more
pub opened_more : (log : List Entry) (e : Entry) → has_opened (log ++ e ∷ []) ≡ (has_opened log || opens_session e)
opened_more log e = list_any-append opens_session log (e ∷ []) ∙ or_one (has_opened log) (opens_session e)
