-- What a handle keeps while a message is logged.
use Rattle.std.proofs.Common.{◌≡◌, ℕ, Bool, true, false, ◌||◌, List, [], ◌∷◌, Option, Some, None, IsSome, refl, sym, ap, ◌∙◌, subst, unwrap_or, if◌then◌else◌}
use Rattle.std.specs.Option.{option_and_then}
use Rattle.v4l_const.specs.declared.model.Model.{Model}
use Rattle.v4l_const.specs.Model.{source_queue}
use Rattle.vm_frame.specs.declared.mem.Held.{Held}
use Rattle.vm_frame.specs.declared.mem.Mem.{Mem}
use Rattle.vm_wire.specs.declared.event.EventMsg.{EventMsg}
use Rattle.vm_wire.specs.declared.event.EventMsg.TheVariants.{Dequeued, Happened}
use Rattle.vm_local.specs.declared.entry.Entry.{Entry}
use Rattle.vm_local.specs.declared.entry.Entry.TheVariants.{Called, Finish, Bad, Give}
use Rattle.vm_local.specs.State.{LocalState}
use Rattle.vm_local.specs.Log.{after, replay_from, IsLegal}
use Rattle.vm_local.proofs.LogLemmas.{replay_from_append}
use Rattle.vm_home.specs.ToCome.{IsStep}
use Rattle.vm_log.specs.LegalLog.{LogState, state_of, with_entry, MayFollow}
use Rattle.vm_exchange.specs.Range.{HasWords}
use Rattle.vm_handle.specs.declared.stage.Stage.{Stage}
use Rattle.vm_handle.specs.Handle.{id_of, opens_session, has_opened, Keeps, KeepsUnwoken}
use Rattle.vm_exchange.specs.Messages.{is_marked, is_first, made_by, steps_of}
use Rattle.vm_handle.specs.Messages.{GivesFirst, state_made, Delivers}
use Rattle.vm_handle.specs.Answers.{with_steps, with_given}
use Rattle.vm_handle.proofs.LogLemmas.{IsReady, entry_leads, legal_more, ready_more, reached, opened_more}
use Rattle.vm_handle.proofs.StageLemmas.{stage_still, unwoken}
use Rattle.vm_handle.proofs.MessageLemmas.{first_goes, may_give}

-- ---- one step

step_words : (e : Entry) → IsStep e → HasWords e
step_words (Called line call reply) step = absurd step
step_words Finish step = tt
step_words Bad step = tt
step_words Give step = tt

step_opens : (e : Entry) → IsStep e → opens_session e ≡ false
step_opens (Called line call reply) step = absurd step
step_opens Finish step = refl
step_opens Bad step = refl
step_opens Give step = refl

pub or_false : (a b : Bool) → b ≡ false → (a || b) ≡ a
or_false true b is = refl
or_false false b is = is

pub step_keeps : (l : LogState) (session : Option ℕ) (stage : Stage) (e : Entry) (home : List (Option Mem)) → KeepsUnwoken l session stage → IsStep e → MayFollow l e →
    KeepsUnwoken (with_entry l e home) session stage
step_keeps l session stage e home keeps step goes =
    let ready : IsReady (with_entry l e home) = ready_more l e home (record { legal = keeps.legal; range = keeps.range }) (step_words e step) goes in
    record {
      legal = ready.legal;
      range = ready.range;
      opened = keeps.opened ∙ sym (opened_more l.entries e ∙ or_false (has_opened l.entries) (opens_session e) (step_opens e step));
      fits = stage_still (id_of session) (state_of l) (state_of (with_entry l e home)) e (reached l keeps.legal) step (entry_leads l e home keeps.legal goes)
          l.away l.unanswered stage keeps.fits;
    }

-- ---- several

abbrev pub AreSteps : List Entry → Type 0
AreSteps [] = Unit {0}
AreSteps (e ∷ es) = IsStep e × AreSteps es

-- the state that they lead to is that of the log
pub steps_lead : (l : LogState) (es : List Entry) → IsLegal l.model l.entries → IsSome (replay_from (state_of l) es) → replay_from (state_of l) es ≡ Some (state_of (with_steps l es))
steps_lead l [] legal goes = refl
steps_lead l (e ∷ es) legal goes =
    let l' : LogState = with_entry l e l.home in
    let one : MayFollow l e = first_goes (after (state_of l) e) (λ t. replay_from t es) goes in
    let leads : after (state_of l) e ≡ Some (state_of l') = entry_leads l e l.home legal one in
    let rest : IsSome (replay_from (state_of l') es) = subst (λ o. IsSome (option_and_then (λ t. replay_from t es) o)) leads goes in
    ap (λ o. option_and_then (λ t. replay_from t es) o) leads ∙ steps_lead l' es (legal_more l.model l.entries e legal one) rest

steps_keep : (l : LogState) (session : Option ℕ) (stage : Stage) (es : List Entry) → KeepsUnwoken l session stage → AreSteps es → IsSome (replay_from (state_of l) es) →
    KeepsUnwoken (with_steps l es) session stage
steps_keep l session stage [] keeps steps goes = keeps
steps_keep l session stage (e ∷ es) keeps steps goes =
    let l' : LogState = with_entry l e l.home in
    let one : MayFollow l e = first_goes (after (state_of l) e) (λ t. replay_from t es) goes in
    let leads : after (state_of l) e ≡ Some (state_of l') = entry_leads l e l.home keeps.legal one in
    let rest : IsSome (replay_from (state_of l') es) = subst (λ o. IsSome (option_and_then (λ t. replay_from t es) o)) leads goes in
    steps_keep l' session stage es (step_keeps l session stage e l.home keeps steps.0 one) steps.1 rest

-- ---- a message

made_steps_by : (first marked : Bool) → AreSteps (if first then (if marked then Bad else Finish) ∷ [] else [])
made_steps_by true true = (tt, tt)
made_steps_by true false = (tt, tt)
made_steps_by false marked = tt

pub made_steps : (m : Model) (msg : EventMsg) → AreSteps (made_by m msg)
made_steps m (Happened session event) = (tt, tt)
made_steps m (Dequeued session b) = made_steps_by (is_first (source_queue m) m b) (is_marked m b)

-- the frame of a message that may be delivered can be made
pub made_goes_all : (s : LocalState) (msg : EventMsg) → IsSome (replay_from s (steps_of s.model msg)) → IsSome (replay_from s (made_by s.model msg))
made_goes_all s msg legal =
    first_goes (replay_from s (made_by s.model msg)) (λ t. replay_from t (Give ∷ [])) (subst (λ o. IsSome o) (replay_from_append s (made_by s.model msg) (Give ∷ [])) legal)

-- the state then is that of the log
pub state_is_made : (l : LogState) (msg : EventMsg) → IsLegal l.model l.entries → IsSome (replay_from (state_of l) (steps_of (state_of l).model msg)) →
    state_made (state_of l) msg ≡ state_of (with_steps l (made_by (state_of l).model msg))
state_is_made l msg legal goes =
    ap (λ o. unwrap_or o (state_of l)) (steps_lead l (made_by (state_of l).model msg) legal (made_goes_all (state_of l) msg goes))

pub gives_there : (l : LogState) (msg : EventMsg) (held : Option Held) → IsLegal l.model l.entries → Delivers (state_of l) msg held →
    GivesFirst (state_of (with_steps l (made_by (state_of l).model msg))) (state_of (with_steps l (made_by (state_of l).model msg))).owed msg held
gives_there l msg held legal may = subst (λ (s : LocalState). GivesFirst s s.owed msg held) (state_is_made l msg legal may.legal) may.gives

given_keeps : (l : LogState) (session : Option ℕ) (stage : Stage) (held : Option Held) → KeepsUnwoken l session stage → MayFollow l Give → KeepsUnwoken (with_given l held) session stage
given_keeps l session stage None keeps goes = step_keeps l session stage Give _ keeps tt goes
given_keeps l session stage (Some held) keeps goes = step_keeps l session stage Give _ keeps tt goes

pub delivered_keeps : (l : LogState) (session : Option ℕ) (stage : Stage) (msg : EventMsg) (held : Option Held) → Keeps l session stage → Delivers (state_of l) msg held →
    KeepsUnwoken (with_given (with_steps l (made_by (state_of l).model msg)) held) session stage
delivered_keeps l session stage msg held keeps may =
    let first : KeepsUnwoken l session stage = record {
      legal = keeps.legal;
      range = keeps.range;
      opened = keeps.opened;
      fits = unwoken (id_of session) (state_of l) l.away l.unanswered stage keeps.fits;
    } in
    let made : LogState = with_steps l (made_by (state_of l).model msg) in
    given_keeps made session stage held
    (steps_keep l session stage (made_by (state_of l).model msg) first (made_steps (state_of l).model msg) (made_goes_all (state_of l) msg may.legal))
    (may_give (state_of made) msg held (gives_there l msg held keeps.legal may))
