-- What a message that is delivered leaves of a handle.
use Rattle.std.proofs.Common.{◌≡◌, ◌⊎◌, inl, inr, ℕ, false, List, [], ◌∷◌, ◌++◌, Option, Some, None, refl, sym, ap, ◌∙◌, subst, append_assoc}
use Rattle.v4l_const.specs.declared.errno.Errno.{Errno}
use Rattle.v4l_rules.specs.Refusals.{first_refusal}
use Rattle.vm_frame.specs.declared.mem.Held.{Held}
use Rattle.vm_frame.specs.declared.mem.Mem.{Mem}
use Rattle.vm_wire.specs.declared.event.EventMsg.{EventMsg}
use Rattle.vm_local.specs.declared.call.Call.{Call}
use Rattle.vm_local.specs.declared.entry.Entry.{Entry}
use Rattle.vm_local.specs.declared.entry.Entry.TheVariants.{Called, Give}
use Rattle.vm_local.specs.declared.reply.Reply.{Reply}
use Rattle.vm_local.specs.declared.reply.Reply.TheVariants.{Refused}
use Rattle.vm_log.specs.LegalLog.{LogState, state_of, with_entry}
use Rattle.vm_log.specs.declared.away.Away.TheVariants.{Nothing}
use Rattle.vm_exchange.specs.declared.way.Way.{Way}
use Rattle.vm_exchange.specs.declared.way.Way.TheVariants.{Crosses, AnsweredHere, Waits, TouchesMemory}
use Rattle.vm_exchange.specs.Messages.{made_by, steps_of}
use Rattle.vm_handle.specs.declared.stage.Stage.{Stage}
use Rattle.vm_handle.specs.declared.stage.Stage.TheVariants.{AtRest, Underway, Waiting}
use Rattle.vm_handle.specs.Handle.{HandleState, way_from}
use Rattle.vm_handle.specs.Answers.{row_from, answered_by, with_steps, with_given, answered_at, awoken, delivered}
use Rattle.vm_handle.proofs.DeliverLemmas.{AreSteps, made_steps}

-- ---- the log

append_none : {A : Type 0} (xs : List A) → xs ++ [] ≡ xs
append_none [] = refl
append_none (x ∷ xs) = ap (λ ys. x ∷ ys) (append_none xs)

-- the log is longer by these entries, and else only the memories at home have changed
abbrev pub longer : LogState → List Entry → List (Option Mem) → LogState
longer l es home = record l { entries = l.entries ++ es; home = home }

steps_longer : (l : LogState) (es : List Entry) → with_steps l es ≡ longer l es (with_steps l es).home
steps_longer l [] = ap (λ xs. record l { entries = xs }) (sym (append_none l.entries))
steps_longer l (e ∷ es) =
    steps_longer (with_entry l e l.home) es
    ∙ ap (λ xs. record l { entries = xs; home = (with_steps (with_entry l e l.home) es).home }) (append_assoc l.entries (e ∷ []) es)

given_longer : (l : LogState) (held : Option Held) → with_given l held ≡ longer l (Give ∷ []) (with_given l held).home
given_longer l None = refl
given_longer l (Some held) = refl

-- by the steps of the message
logged_longer : (l : LogState) (msg : EventMsg) (held : Option Held) → with_given (with_steps l (made_by (state_of l).model msg)) held
    ≡ longer l (steps_of (state_of l).model msg) (with_given (with_steps l (made_by (state_of l).model msg)) held).home
logged_longer l msg held =
    let made : List Entry = made_by (state_of l).model msg in
    let home : List (Option Mem) = (with_given (with_steps l made) held).home in
    given_longer (with_steps l made) held
    ∙ (ap (λ (x : LogState). record x { entries = x.entries ++ Give ∷ []; home = home }) (steps_longer l made)
    ∙ ap (λ xs. record l { entries = xs; home = home }) (append_assoc l.entries made (Give ∷ [])))

steps_behind : (es : List Entry) → AreSteps es → AreSteps (es ++ Give ∷ [])
steps_behind [] steps = (tt, tt)
steps_behind (e ∷ es) steps = (steps.0, steps_behind es steps.1)

-- ---- the handle

-- what is the same
pub record IsLike (h h' : HandleState) : Type 0 where
  pub model : h'.log.model ≡ h.log.model
  pub lines : h'.log.lines ≡ h.log.lines
  pub begun : h'.log.begun ≡ h.log.begun
  pub session : h'.session ≡ h.session

-- The log is longer by steps of the device, and the line is where it was.
pub record GoesOn (h h' : HandleState) : Type 0 where
  pub steps : List Entry
  pub are : AreSteps steps
  pub entries : h'.log.entries ≡ h.log.entries ++ steps
  pub stage : h'.stage ≡ h.stage
  pub away : h'.log.away ≡ h.log.away
  pub unanswered : h'.log.unanswered ≡ h.log.unanswered

-- The call that waited is answered behind the steps.
pub record Awakes (h h' : HandleState) : Type 0 where
  pub line : ℕ
  pub call : Call
  pub reply : Reply
  pub waited : h.stage ≡ Waiting line call
  pub steps : List Entry
  pub are : AreSteps steps
  pub entries : h'.log.entries ≡ (h.log.entries ++ steps) ++ Called line call reply ∷ []
  pub stage : h'.stage ≡ AtRest
  pub away : h'.log.away ≡ Nothing
  pub unanswered : h'.log.unanswered ≡ false

pub record Delivered (h h' : HandleState) : Type 0 where
  pub like : IsLike h h'
  pub either : GoesOn h h' ⊎ Awakes h h'

stays : (h : HandleState) (steps : List Entry) (home : List (Option Mem)) → AreSteps steps → Delivered h (record h { log = longer h.log steps home })
stays h steps home are = record {
  like = record { model = refl; lines = refl; begun = refl; session = refl };
  either = inl (record { steps = steps; are = are; entries = refl; stage = refl; away = refl; unanswered = refl });
}

wakes_by : (o : Option Errno) (h : HandleState) (line : ℕ) (call : Call) (steps : List Entry) (home : List (Option Mem)) → h.stage ≡ Waiting line call → AreSteps steps
    → Delivered h (record h { log = answered_by o (longer h.log steps home) line call; stage = AtRest })
wakes_by None h line call steps home waited are = record {
  like = record { model = refl; lines = refl; begun = refl; session = refl };
  either = inr (record {
    line = line;
    call = call;
    reply = (row_from (longer h.log steps home) line call).reply;
    waited = waited;
    steps = steps;
    are = are;
    entries = refl;
    stage = refl;
    away = refl;
    unanswered = refl;
  });
}
wakes_by (Some errno) h line call steps home waited are = record {
  like = record { model = refl; lines = refl; begun = refl; session = refl };
  either = inr (record {
    line = line;
    call = call;
    reply = Refused errno;
    waited = waited;
    steps = steps;
    are = are;
    entries = refl;
    stage = refl;
    away = refl;
    unanswered = refl;
  });
}

by_way : (w : Way) (h : HandleState) (line : ℕ) (call : Call) (steps : List Entry) (home : List (Option Mem)) → h.stage ≡ Waiting line call → AreSteps steps
    → Delivered h (answered_at w (record h { log = longer h.log steps home }) line call)
by_way AnsweredHere h line call steps home waited are =
    wakes_by (first_refusal (row_from (longer h.log steps home) line call).refusals) h line call steps home waited are
by_way (Crosses c) h line call steps home waited are = stays h steps home are
by_way Waits h line call steps home waited are = stays h steps home are
by_way TouchesMemory h line call steps home waited are = stays h steps home are

by_stage : (stage : Stage) (h : HandleState) (steps : List Entry) (home : List (Option Mem)) → h.stage ≡ stage → AreSteps steps
    → Delivered h (awoken stage (record h { log = longer h.log steps home }))
by_stage AtRest h steps home is are = stays h steps home are
by_stage (Underway line call) h steps home is are = stays h steps home are
by_stage (Waiting line call) h steps home is are =
    by_way (way_from (record h { log = longer h.log steps home }) call) h line call steps home is are

-- A message that is delivered leaves what a handle was made with, how many lines were begun, and
-- its session. To the log it adds steps of the device, and behind them at most the answer of the
-- call that waited.
pub delivered_is : (h : HandleState) (msg : EventMsg) (held : Option Held) → Delivered h (delivered h msg held)
delivered_is h msg held =
    let l : LogState = with_given (with_steps h.log (made_by (state_of h.log).model msg)) held in
    subst (λ (x : LogState). Delivered h (awoken h.stage (record h { log = x }))) (sym (logged_longer h.log msg held))
    (by_stage h.stage h (steps_of (state_of h.log).model msg) l.home refl (steps_behind (made_by (state_of h.log).model msg) (made_steps (state_of h.log).model msg)))
